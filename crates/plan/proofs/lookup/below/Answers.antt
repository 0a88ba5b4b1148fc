use Rattle.std.proofs.Common.{ℕ, List, ltb, rules}
use Rattle.std.proofs.lemmas.Bool.{ltb-true, ltb-false}
use Rattle.std.proofs.lemmas.List.Sorted.{IsPartitionedBy-ltb, IsPartitionPoint-from_clause}
use Rattle.plan.specs.Arrows.{arrow_key}
use Rattle.plan.proofs.lookup.below.Goals as goal

pub returns-clause-boundary : goal.returns-clause-boundary
returns-clause-boundary c =
    let arrows = c.args.arrows.now in
    let p = IsPartitionPoint-from_clause (λ (g : List ℕ). ltb (arrow_key g) c.args.least) arrows c.partition_point.result c.partition_point.ensures.partitioned
    (IsPartitionedBy-ltb arrow_key arrows c.args.least c.requires) (λ a r f' e. search rules) in (
      λ k d a b. ltb-true _ _ (p.0 k d a b),
      λ k d a b. ltb-false _ _ (p.1 k d a b),
    )
