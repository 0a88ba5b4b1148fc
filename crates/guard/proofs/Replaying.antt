-- A list of calls worked through, turn by turn.
use Rattle.std.proofs.Common.{◌≡◌, ℕ, suc, ◌+◌, ◌<◌, ◌≤◌, List, [], ◌∷◌, ◌++◌, map, length, get_or, take, drop, set, sym, refl, ap, ◌∙◌, subst, arith, length-set}
use lib.ListN.{length-map}
use Rattle.std.proofs.lemmas.List.{get_or-map, map_push, take_more_set, drop-set-lt, drop-drop}
use Rattle.walk.specs.Lists.{All}
use Rattle.walk.proofs.Lists.{all_append}
use Rattle.calls.specs.Calls as calls
use Rattle.calls.specs.Plans.{fold}
use Rattle.calls.specs.Guards.{Guard, blank_guard, step, answers_from}
use Rattle.calls.specs.Promise.{WholePromise}
use Rattle.calls.proofs.Folds.{move, fold_next, answers_next}
use Rattle.calls.proofs.Promising.{whole_promise}
use Rattle.guard.specs.declared.call.Call.{Call}
use Rattle.guard.specs.declared.call.Answer.{Answer}
use Rattle.guard.specs.Meanings.{call_of, answer_of, Clear}

-- n calls have led to the guard g, and their answers stand in front of the answers; what is behind is as it was
pub record At (g : Guard) (cs : List Call) (before later : List Answer) (n : ℕ) : Type 0 where
  pub room : n ≤ length later
  pub there : n ≤ length cs
  pub guard : g ≡ fold move blank_guard (take n (map call_of cs))
  pub answered : map answer_of (take n later) ≡ answers_from blank_guard (take n (map call_of cs))
  pub clear : All Clear (take n later)
  pub kept : drop n later ≡ drop n before

-- one call more
pub at_next : (g h : Guard) (cs : List Call) (before later : List Answer) (n : ℕ) (d : Call) (a : Answer) → n < length cs → n < length later → At g cs before later n →
    ◌≡◌ {A = Guard × calls.Answer} (h, answer_of a) (step g (call_of (get_or cs n d))) → Clear a → At h cs before (set later n a) (n + 1)
at_next g h cs before later n d a l m q s z = record {
  room = simp length-set (omega arith);
  there = omega arith;
  guard = subst (λ (k : ℕ). h ≡ fold move blank_guard (take k (map call_of cs))) next (ap (λ (r : Guard × calls.Answer). r.0) stepped ∙ sym (fold_next move blank_guard (map call_of cs) n calls.Release long));
  answered =
      ap (map answer_of) (take_more_set later n a m) ∙ map_push answer_of (take n later) a ∙
      ap (λ (r : List calls.Answer). r ++ (answer_of a ∷ [])) q.answered ∙
      ap (λ (r : Guard × calls.Answer). answers_from blank_guard (take n (map call_of cs)) ++ (r.1 ∷ [])) stepped ∙
      sym (answers_next blank_guard (map call_of cs) n calls.Release long) ∙
      ap (λ (k : ℕ). answers_from blank_guard (take k (map call_of cs))) next;
  clear = subst (All Clear) (sym (take_more_set later n a m)) (all_append Clear (take n later) (a ∷ []) q.clear (z, tt));
  kept = drop-set-lt (n + 1) later n a (omega arith) ∙ sym (drop-drop 1 n later) ∙ ap (drop 1) q.kept ∙ drop-drop 1 n before;
}
  where
    next : suc n ≡ n + 1
    next = omega arith

    long : n < length (map call_of cs)
    long = subst (λ (k : ℕ). n < k) (sym (length-map cs call_of)) l

    called : get_or (map call_of cs) n calls.Release ≡ call_of (get_or cs n d)
    called = get_or-map call_of cs n d calls.Release l

    stepped : ◌≡◌ {A = Guard × calls.Answer} (h, answer_of a) (step (fold move blank_guard (take n (map call_of cs))) (get_or (map call_of cs) n calls.Release))
    stepped = s ∙ ap (λ (g : Guard). step g (call_of (get_or cs n d))) q.guard ∙ ap (step (fold move blank_guard (take n (map call_of cs)))) (sym called)

-- the whole promise of the calls that were worked through
pub at_promise : (g : Guard) (cs : List Call) (before later : List Answer) (n : ℕ) → At g cs before later n → WholePromise (take n (map call_of cs)) (map answer_of (take n later))
at_promise g cs before later n q = subst (WholePromise (take n (map call_of cs))) (sym q.answered) (whole_promise (take n (map call_of cs)))
