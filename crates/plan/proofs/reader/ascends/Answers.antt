use Rattle.std.proofs.Common.{◌≡◌, Bool, true, false, cond, ◌&&◌, ◌||◌, eqb, ltb, Ordering, Less, Equal, Greater, refl, sym, subst}
use Rattle.std.proofs.lemmas.Cmp.{same_from_slice_cmp_tested}
use Rattle.std.specs.Ordering.{nat_cmp, is_lt, MatchOrdering}
use Rattle.automata.specs.Reading.{lexb}
use Rattle.plan.proofs.reader.ascends.Goals as goal

-- the first byte decides, unless it is the same
first : (a b r : Bool) → MatchOrdering (cond a Less (cond b Equal Greater)) ((a || (b && r)) ≡ true) ((a || (b && r)) ≡ r) ((a || (b && r)) ≡ false)
first true b r = refl
first false true r = refl
first false false r = refl

pub returns : goal.returns
returns c =
    same_from_slice_cmp_tested nat_cmp is_lt lexb refl (λ y ys. refl) (λ x xs. refl)
    (λ x y xs ys o e.
    subst (λ (o : Ordering). MatchOrdering o ((ltb x y || (eqb x y && lexb xs ys)) ≡ true) ((ltb x y || (eqb x y && lexb xs ys)) ≡ lexb xs ys) ((ltb x y || (eqb x y && lexb xs ys)) ≡ false)) (sym e)
    (first (ltb x y) (eqb x y) (lexb xs ys)))
    c.args.x.now c.args.y.now c.lt.result c.lt.ensures
