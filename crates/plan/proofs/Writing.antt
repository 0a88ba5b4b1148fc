-- What the writer's parts come to.
use Rattle.std.proofs.Common.{◌≡◌, ℕ, ◌+◌, ◌*◌, ◌^◌, ◌<◌, ◌≤◌, ltb, List, ◌++◌, length, get_or, take, drop, sym, refl, ap, ◌∙◌, arith, take_at, pow_pos}
use Rattle.std.proofs.lemmas.Bool.{ltb-true, le-ltb, cond-false, cond_both}
use Rattle.automata.specs.Nfa.{Nfa, Proper}
use Rattle.automata.specs.Files.{file}
use Rattle.plan.specs.Answers.{Written}
use Rattle.plan.specs.Buffers.{Put}
use Rattle.plan.specs.Tables.{drawn}
use Rattle.plan.specs.declared.table.Table.{Table}
use Rattle.plan.proofs.Reading.{plan_read_as}

-- what a table holds is a proper plan
pub drawn_proper : (t : Table) → Proper (drawn t)
drawn_proper t = record {
  few = t.few;
  starting = t.starting;
  ending = t.ending;
  within = λ s c. cond_both (ltb c 26) (get_or t.arrows (s * 26 + c) 0) 0 (λ x. x < 2 ^ t.count) (λ _. t.within (s * 26 + c)) (λ _. pow_pos t.count);
  stateless = λ s c h. cond_both (ltb c 26) (get_or t.arrows (s * 26 + c) 0) 0 (λ x. x ≡ 0) (λ e. t.beyond (s * 26 + c) (omega (arith, ltb-true c 26 e))) (λ _. refl);
  unknown = λ s c h. cond-false (ltb c 26) (get_or t.arrows (s * 26 + c) 0) 0 (le-ltb c 26 h);
}

pub written : (A : Nfa) (b b' : List ℕ) (n : ℕ) → Proper A → Put b b' 0 (file A) n → n ≤ length b → Written A b b' n
written A b b' n W p h =
    let e : b' ≡ file A ++ drop n b = p.holds h in
    let l : length (file A) ≡ n = omega (arith, p.ends) in
    record {
      long = sym l;
      bytes = e;
      reads_back = plan_read_as (take n b') A (record { proper = W; bytes = sym (ap (take n) e ∙ take_at (file A) (drop n b) n l) });
    }
