use Rattle.std.proofs.Common.{ℕ, ◌+◌, Bool, cond, List, [], ◌∷◌, ◌++◌, map, vec_items, sym, ap, ◌∙◌}
use Rattle.std.proofs.lemmas.List.{append-nil}
use Rattle.wording.specs.Texts.{numeral, spaced}
use Rattle.wording.proofs.Appends.{join_as}
use Rattle.wording.proofs.Shows.{none, members_text, members_zero, members_in, members_out, none_in}
use Rattle.wording.proofs.show.push_members.Goals as goal
use Rattle.wording.proofs.show.push_members.Goals.{then-contains+in_ok-push_next, else-contains}

pub loop-k-init : goal.loop-k-init
loop-k-init c = (
  sym (append-nil (vec_items c.args.out.now)) ∙ ap (λ (ns : List ℕ). vec_items c.args.out.now ++ spaced (map numeral ns)) (sym (members_zero c.args.set)),
  ap none (sym (members_zero c.args.set)),
)

pub loop-k-preserved : goal.loop-k-preserved
loop-k-preserved c =
    let k : ℕ = c.loop-k.k in
    let set : ℕ = c.args.set in
    let was : List ℕ = vec_items c.loop-k.out in
    elim c.if-contains.branch [
      | then-contains+in_ok-push_next w ↦ (
        ap vec_items w.out-is
            ∙ join_as (vec_items c.args.out.now) was (vec_items w.push_next.new.out) (members_text k set) _ (members_text (k + 1) set)
            c.loop-k.invariant.0
            (members_in k set (sym w.if-contains.ensures))
            (w.in_ok-push_next.ensures ∙ ap (λ (b : Bool). was ++ (cond b [] (32 ∷ []) ++ numeral k)) c.loop-k.invariant.1),
        w.first-is ∙ sym (none_in k set (sym w.if-contains.ensures)),
      )
      | else-contains w ↦
          let same = members_out k set (sym w.if-contains.ensures) in (
            ap vec_items w.out-is ∙ c.loop-k.invariant.0 ∙ ap (λ (ns : List ℕ). vec_items c.args.out.now ++ spaced (map numeral ns)) (sym same),
            w.first-is ∙ c.loop-k.invariant.1 ∙ ap none (sym same),
          )
    ]
