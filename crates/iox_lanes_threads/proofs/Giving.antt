-- A table that starts from lanes keeps the rule of words.
use Rattle.std.proofs.Common.{ℕ, ◌≡◌, List, [], sym, ◌∙◌, ap, subst, arith}
use mathlib.Core.Option.{some}
use lib.ListN.{get_elem?}
use Rattle.atomic_table.specs.Table.{opening}
use Rattle.iox_lanes_machine.specs.World.{World}
use Rattle.iox_lanes_threads_rule.proofs.Lists.{none_there, alone}
use Rattle.iox_lanes_threads_ports.specs.LanesThreadsRule.Acts.{Holds}
use Rattle.iox_lanes_threads_ports.specs.LanesThreadsRule.declared.view.View.{View}
use Rattle.iox_lanes_threads.specs.Opening.{service_of, ports_of, first_view, Fitting}

pub opens : (m : World) → Fitting m → Holds (opening m.table.words [] (first_view m))
opens m fit = record {
  ports = ports_of m;
  owner = λ number. 0;
  fit = (service_of m, fit.0, fit.1);
  waiting = λ seat v i p got there.
      let is = alone (first_view m) v seat got in
      let at : get_elem? (ports_of m) i ≡ some p = ap (λ (u : View). get_elem? u.waiting i) is.1 ∙ there in
      let number : p.number ≡ i = (fit.0.ports i p at).number in
      let from : v.from ≡ 0 = ap (λ (u : View). u.from) (sym is.1) in
      (omega (arith, number, from), (sym is.0, ap (get_elem? (ports_of m)) number ∙ at));
  seated = λ seat v i p got there.
      let is = alone (first_view m) v seat got in
      absurd (none_there p i (ap (λ (u : View). get_elem? u.ports i) is.1 ∙ there));
}

-- the same, as words and lanes are handed in
pub opens_with : (m seen : World) (words : List ℕ) → seen ≡ m → words ≡ m.table.words → Fitting m
    → Holds (opening words [] (first_view seen))
opens_with m seen words same equal fit =
    subst (λ (z : List ℕ × World). Holds (opening z.0 [] (first_view z.1))) (λ i. (sym equal i, sym same i)) (opens m fit)
