use Rattle.std.proofs.Common.{ℕ, refl, sym, ap, ◌∙◌, ⊎_elim, rules, arith}
use lib.ListN.{get_or-eq_default}
use Rattle.std.proofs.lemmas.Bool.{cases_lt}
use Rattle.automata.specs.Sets.{has}
use Rattle.automata.specs.Relations.{total, listed}
use Rattle.automata.proofs.Bits.{has_zero}
use Rattle.automata.proofs.Made.{made_at}
use Rattle.automata.proofs.Ranked.{rank_start, rank_step, rank_less, rank_end}
use Rattle.order.proofs.AsOrder.{small_candidate}
use Rattle.order.proofs.greatest.simulation.Goals as goal

pub loop-t-init : goal.loop-t-init
loop-t-init c =
    let s = c.args.sides.now in
    let rows = c.from_fn-rows.result in
    let long = c.from_fn-rows.ensures.items.long in
    let made = made_at _ _ (λ x y q k. search rules) rows 0 64 c.from_fn-rows.ensures.items.each in
    rank_start (has s.states) (listed s.ends s.targets) c.requires c.sources-sources.result (c.sources-sources.ensures s.ends) rows s.states long
    (λ p r. ⊎_elim
    (λ l. let x = made p 0 (omega arith) (omega arith) in search rules)
    (λ l.
    ap (λ (row : ℕ). has row r) (get_or-eq_default rows 0 (omega (arith, l, long)))
    ∙ has_zero r ∙ sym ((small_candidate (has s.states) c.requires.small s.ends).left p r l))
    (cases_lt p 64))
    (λ k. refl)

pub loop-t-smaller : goal.loop-t-smaller
loop-t-smaller c =
    rank_less (total c.loop-t.rows) (total c.settle-changed.new.rows) c.loop-t.waiting c.without.result c.settle-changed.result
    c.settle-changed.ensures.less (c.without.ensures.less c.in-Some.ensures.there) c.without.type_inv c.settle-changed.type_inv

pub loop-t-preserved : goal.loop-t-preserved
loop-t-preserved c =
    let s = c.args.sides.now in
    rank_step (has s.states) (listed s.ends s.targets) c.requires c.sources-sources.result (c.sources-sources.ensures s.ends)
    c.loop-t.rows c.settle-changed.new.rows c.loop-t.waiting c.in-Some.t c.without.result c.settle-changed.result
    c.loop-t.invariant c.in-Some.ensures.within c.without.ensures.others c.settle-changed.array_long
    c.settle-changed.ensures.pairs c.settle-changed.ensures.kept

pub returns : goal.returns
returns c =
    let s = c.args.sides.now in
    rank_end (has s.states) (listed s.ends s.targets) c.requires c.sources-sources.result (c.sources-sources.ensures s.ends)
    c.loop-t.rows c.loop-t.waiting c.loop-t.invariant c.in_default.ensures
