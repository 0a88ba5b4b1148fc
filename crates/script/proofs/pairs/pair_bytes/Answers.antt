use Rattle.std.proofs.Common.{◌≡◌, ℕ, ◌+◌, ◌*◌, ◌/◌, ◌%◌, List, get_or, set, replicate, sym, refl, ◌∙◌, subst, arith, length-set}
use lib.Bits.{bit_or}
use Rattle.std.proofs.lemmas.Nat.{one_shl}
use Rattle.script.specs.Words.{words, words_left}
use Rattle.script.proofs.Marks.{Marked, marked_none, mark_next}
use Rattle.script.proofs.pairs.pair_bytes.Goals as goal

pub loop-word-init : goal.loop-word-init
loop-word-init c =
    let all = words c.args.text.now in
    let left : words_left c.into_iter-word-iterator.result ≡ all = cc in
    (refl, subst (λ (x : List (List ℕ)). Marked (replicate 512 0) x all) (sym left) (marked_none all))

pub loop-word-preserved-in-Some-pair : goal.loop-word-preserved-in-Some-pair
loop-word-preserved-in-Some-pair c =
    let all = words c.args.text.now in
    let b = c.loop-word.bytes in
    let w = c.in-Some.word.now in
    let left = words_left c.next.new.self in
    let p = c.in-Some-pair.p in
    let r = c.in-Some-pair.r in
    let s = c.in-Some-pair.ensures in
    let m = subst (λ (x : List (List ℕ)). Marked b x all) c.in-Some.ensures.steps c.loop-word.invariant.1 in (
      length-set b _ _ ∙ c.loop-word.invariant.0,
      subst (λ (x : ℕ). Marked (set b (p * 8 + r / 8) (bit_or (get_or b (p * 8 + r / 8) 0) x)) left all)
          (sym (one_shl (r % 8) 8 (omega arith)))
          (mark_next b w left all m p r c.loop-word.invariant.0 s.small.0 s.small.1 (sym s.value)),
    )
