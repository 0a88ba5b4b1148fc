use Rattle.std.proofs.Common.{◌≡◌, ℕ, ◌<◌, List, [], ◌∷◌, ◌++◌, length, take, drop, vec_items, sym, refl, ap, ◌∙◌, ap₂}
use Rattle.std.proofs.lemmas.List.{append_assoc, take_all, drop_at}
use Rattle.std.proofs.ByRecursion.{All-from_get_or}
use Rattle.script.specs.Hex.{unhexed, hexed}
use Rattle.wording.proofs.Appends.{join}
use Rattle.script.proofs.Hexes.{hexed_more, unhexed_hexed}
use Rattle.wording.proofs.hex.encode.Goals as goal

pub loop-b-preserved : goal.loop-b-preserved
loop-b-preserved c =
    let first : List ℕ = vec_items c.args.out.now in
    let so_far : List ℕ = hexed (take c.loop-b.b-index c.args.bytes.now) in
    join first _ _ _ _ (join first _ _ so_far _ c.loop-b.invariant c.in_ok-push.ensures.items) c.in_ok-push-2.ensures.items
    ∙ ap (λ (l : List ℕ). first ++ l)
    (append_assoc so_far _ _
    ∙ ap₂ (λ (a b : ℕ). so_far ++ (a ∷ b ∷ [])) c.letter.ensures c.letter-in-loop-b.ensures
    ∙ sym (hexed_more c.args.bytes.now c.loop-b.b-index c.loop-b-test.true))

whole : (c : goal.After-loop-b) → vec_items c.loop-b.out ≡ vec_items c.args.out.now ++ hexed c.args.bytes.now
whole c = c.loop-b.invariant ∙ ap (λ (l : List ℕ). vec_items c.args.out.now ++ hexed l) (take_all c.loop-b.b-index c.args.bytes.now c.loop-b-test.false)

pub returns : goal.returns
returns c = record {
  appended = whole c;
  back = ap (λ (l : List ℕ). unhexed (drop (length (vec_items c.args.out.now)) l)) (whole c)
      ∙ ap unhexed (drop_at (vec_items c.args.out.now) (hexed c.args.bytes.now) _ refl)
      ∙ unhexed_hexed c.args.bytes.now (All-from_get_or (λ b. b < 256) c.args.bytes.now 0 (λ i h. (c.type_inv.bytes i).fits));
}
