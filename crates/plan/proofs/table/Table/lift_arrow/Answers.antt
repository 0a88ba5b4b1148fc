use Rattle.std.proofs.Common.{◌≡◌, ℕ, ◌^◌, ◌<◌, get_or, set, sym, subst, arith}
use Rattle.automata.specs.Nfa.{Nfa}
use Rattle.automata.specs.Sets.{without}
use Rattle.automata.specs.Runs.{Included}
use Rattle.automata.specs.Drawing.{without_arrow}
use Rattle.automata.proofs.Drawn.{lift_included}
use Rattle.plan.specs.Tables.{tabled, drawn}
use Rattle.automata.proofs.DrawnProper.{without_within}
use Rattle.plan.proofs.Tabled.{changed_at, set_within, set_beyond}
use Rattle.plan.proofs.table.Table.lift_arrow.Goals as goal

pub returns : goal.returns
returns c =
    let t = c.args.self.now in
    let k = c.in_ok-place.place in
    let h = c.in_ok-place.ensures in
    let e = c.without.ensures.taken (omega (arith, h, c.args.self.now.few)) in
    let drew : tabled t.count t.starts t.ends (set t.arrows k c.without.result) ≡ without_arrow c.args.from c.args.command c.args.to (drawn t) =
    changed_at (λ (x : ℕ). without x c.args.to) t.count t.starts t.ends t.arrows k c.args.from c.args.command c.without.result
    h.4 (omega (arith, h, c.args.self.now.few)) h.2 e in
    record {
      answer = (h.0, drew);
      no_run_gained = subst (λ (A : Nfa). Included A (drawn t)) (sym drew) (lift_included c.args.from c.args.command c.args.to (drawn t));
    }

pub invariant_of-self : goal.invariant_of-self
invariant_of-self c =
    let t = c.args.self.now in
    let k = c.in_ok-place.place in
    let h = c.in_ok-place.ensures in
    let e = c.without.ensures.taken (omega (arith, h, c.args.self.now.few)) in
    let l : c.without.result < 2 ^ t.count = subst (λ (x : ℕ). x < 2 ^ t.count) (sym e) (without_within (get_or t.arrows k 0) c.args.to t.count (t.within k)) in
    record {
      few = t.few;
      starting = t.starting;
      ending = t.ending;
      within = set_within t.arrows k c.without.result t.count (omega (arith, h, c.args.self.now.few)) t.within l;
      beyond = set_beyond t.arrows k c.without.result t.count (omega (arith, h)) t.beyond;
    }
