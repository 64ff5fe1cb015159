use Rattle.std.proofs.Common.{rules, arith, ℕ, ◌≡◌, ◌+◌, ◌≤◌, length, List, [], ◌∷◌, refl, sym, subst, ap, ◌∙◌}
use Rattle.iox_robust_steps.specs.Machine.{HasFewSteps, RobustSetState, RunsTo, StaysLocked, ends, fits, happens}
use Rattle.iox_robust_steps.specs.declared.machine.Move.{Move}
use Rattle.iox_queues.proofs.Turns.{counts_one, none_left, run_more, run_stops}
use Rattle.iox_robust_steps.proofs.Runs.{goes_on}
use Rattle.iox_robust_steps.proofs.machine.RobustSetMachine.run.Goals as goal

pub returns-then-is_stopped-clause-runs : goal.returns-then-is_stopped-clause-runs
returns-then-is_stopped-clause-runs c =
    let is : c.loop-step.rest.now ≡ c.in-Some.step.now ∷ c.in-Some.tail.now = search rules in
    let e : c.loop-step.made + 0 ≡ c.loop-step.made = omega arith in
    subst (λ (i : ℕ). RunsTo c.args.self.now c.args.schedule.now i c.step-stepped.new.self) e
    ((c.loop-step.invariant.0) c.step-stepped.new.self 0
    (subst (λ (xs : List Move). RunsTo c.loop-step.self xs 0 c.step-stepped.new.self) (sym is)
    (run_stops RobustSetState Move fits ends happens c.loop-step.self c.in-Some.step.now c.in-Some.tail.now c.step-stepped.result
    c.step-stepped.new.self
    c.step-stepped.ensures.steps (sym c.is_stopped.ensures ∙ c.if-is_stopped.true))))

pub returns-then-is_stopped-clause-locked : goal.returns-then-is_stopped-clause-locked
returns-then-is_stopped-clause-locked c = λ few.
    let goes : HasFewSteps c.args.self.now × StaysLocked c.args.self.now c.step-stepped.new.self =
    goes_on c.args.self.now c.loop-step.self c.step-stepped.new.self c.loop-step.invariant.3
    (λ few. (c.step-stepped.ensures.few few, c.step-stepped.ensures.locked few)) few in goes.1

pub returns-then-is_stopped-clause-few : goal.returns-then-is_stopped-clause-few
returns-then-is_stopped-clause-few c = λ few.
    let goes : HasFewSteps c.args.self.now × StaysLocked c.args.self.now c.step-stepped.new.self =
    goes_on c.args.self.now c.loop-step.self c.step-stepped.new.self c.loop-step.invariant.3
    (λ few. (c.step-stepped.ensures.few few, c.step-stepped.ensures.locked few)) few in goes.0

pub returns-clause-few : goal.returns-clause-few
returns-clause-few c = λ few.
    let goes : HasFewSteps c.args.self.now × StaysLocked c.args.self.now c.loop-step.self = c.loop-step.invariant.3 few in goes.0

pub loop-step-preserved : goal.loop-step-preserved
loop-step-preserved c =
    let is : c.loop-step.rest.now ≡ c.in-Some.step.now ∷ c.in-Some.tail.now = search rules in
    let longer : length c.loop-step.rest.now ≡ length c.in-Some.tail.now + 1 = ap (λ (xs : List Move). length xs) is ∙ omega arith in
    let one : c.count-made.result ≤ 1 = counts_one c.step-stepped.result c.count-made.result c.count-made.ensures in (
      λ n k runs. subst (λ (i : ℕ). RunsTo c.args.self.now c.args.schedule.now i n) (omega arith)
          ((c.loop-step.invariant.0) n (c.count-made.result + k)
          (subst (λ (xs : List Move). RunsTo c.loop-step.self xs (c.count-made.result + k) n) (sym is)
          (run_more RobustSetState Move fits ends happens c.loop-step.self c.in-Some.step.now c.in-Some.tail.now c.step-stepped.result
          c.step-stepped.new.self n k
          (c.count-made.result + k) c.step-stepped.ensures.steps (sym c.is_stopped.ensures ∙ c.if-is_stopped.false)
          (ap (λ (x : ℕ). x + k) c.count-made.ensures) runs))),
      omega (arith, c.loop-step.invariant.1),
      c.step-stepped.ensures.orderly,
      goes_on c.args.self.now c.loop-step.self c.step-stepped.new.self c.loop-step.invariant.3
          (λ few. (c.step-stepped.ensures.few few, c.step-stepped.ensures.locked few)),
      c.step-stepped.ensures.recorded,
      c.step-stepped.ensures.counted,
    )

pub returns-clause-runs : goal.returns-clause-runs
returns-clause-runs c =
    let none : length c.loop-step.rest.now ≡ 0 = search rules in
    let is : c.loop-step.rest.now ≡ [] = none_left c.loop-step.rest.now none in
    let e : c.loop-step.made + 0 ≡ c.loop-step.made = omega arith in
    subst (λ (i : ℕ). RunsTo c.args.self.now c.args.schedule.now i c.loop-step.self) e
    ((c.loop-step.invariant.0) c.loop-step.self 0
    (subst (λ (xs : List Move). RunsTo c.loop-step.self xs 0 c.loop-step.self) (sym is) (refl, refl)))

pub returns-clause-locked : goal.returns-clause-locked
returns-clause-locked c = λ few.
    let goes : HasFewSteps c.args.self.now × StaysLocked c.args.self.now c.loop-step.self = c.loop-step.invariant.3 few in goes.1
