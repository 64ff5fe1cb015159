use Rattle.std.proofs.Common.{rules, arith, ℕ, ◌≡◌, ◌+◌, ◌≤◌, length, List, [], ◌∷◌, refl, sym, subst, ap, ◌∙◌}
use Rattle.iox_lanes_machine.specs.World.{RunsTo}
use Rattle.iox_lanes_machine.specs.LanesParties.declared.call.Entry.{Entry}
use Rattle.iox_lanes_machine.proofs.Fixed.{fixed_on}
use Rattle.iox_lanes_machine.proofs.Runs.{run_more, counts_one, none_left}
use Rattle.iox_lanes_machine.proofs.lanes.LaneMachine.run.Goals as goal

pub loop-entry-preserved : goal.loop-entry-preserved
loop-entry-preserved c =
    let is : c.loop-entry.rest.now ≡ c.in-Some.entry.now ∷ c.in-Some.tail.now = search rules in
    let longer : length c.loop-entry.rest.now ≡ length c.in-Some.tail.now + 1 = ap (λ (xs : List Entry). length xs) is ∙ omega arith in
    let one : c.count-made.result ≤ 1 = counts_one c.step.result c.count-made.result c.count-made.ensures in (
      λ n k runs. subst (λ (i : ℕ). RunsTo c.args.self.now c.args.schedule.now i n) (omega arith)
          ((c.loop-entry.invariant.0) n (c.count-made.result + k)
          (subst (λ (xs : List Entry). RunsTo c.loop-entry.self xs (c.count-made.result + k) n) (sym is)
          (run_more c.loop-entry.self c.in-Some.entry.now c.in-Some.tail.now c.step.result c.step.new.self n k (c.count-made.result + k)
          c.step.ensures.steps (ap (λ (x : ℕ). x + k) c.count-made.ensures) runs))),
      omega (arith, c.loop-entry.invariant.1),
      fixed_on c.args.self.now c.loop-entry.self c.step.new.self c.loop-entry.invariant.2 c.step.ensures.fixed,
      c.step.ensures.orders,
      c.step.ensures.receipts,
      c.step.ensures.sends,
      c.step.ensures.calls,
      c.step.ensures.loans,
      c.step.ensures.alone,
      c.step.ensures.reads,
      c.step.ensures.releases,
    )

pub returns-clause-runs : goal.returns-clause-runs
returns-clause-runs c =
    let none : length c.loop-entry.rest.now ≡ 0 = search rules in
    let is : c.loop-entry.rest.now ≡ [] = none_left c.loop-entry.rest.now none in
    let e : c.loop-entry.made + 0 ≡ c.loop-entry.made = omega arith in
    subst (λ (i : ℕ). RunsTo c.args.self.now c.args.schedule.now i c.loop-entry.self) e
    ((c.loop-entry.invariant.0) c.loop-entry.self 0
    (subst (λ (xs : List Entry). RunsTo c.loop-entry.self xs 0 c.loop-entry.self) (sym is) (refl, refl)))
