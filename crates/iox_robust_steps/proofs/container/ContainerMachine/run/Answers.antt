use Rattle.std.proofs.Common.{rules, arith, ℕ, ◌≡◌, ◌+◌, ◌≤◌, length, List, [], ◌∷◌, refl, sym, subst, ap, ◌∙◌}
use Rattle.iox_queues.proofs.Turns.{counts_one, none_left, run_more, run_stops}
use Rattle.iox_robust_steps.specs.ContainerMachine.{ContainerParts, MemberRunsTo, member_ends, member_fits, member_happens}
use Rattle.iox_robust_steps.specs.declared.container.MemberMove.{MemberMove}
use Rattle.iox_robust_steps.proofs.container.ContainerMachine.run.Goals as goal

pub returns-then-is_stopped-clause-runs : goal.returns-then-is_stopped-clause-runs
returns-then-is_stopped-clause-runs c =
    let is : c.loop-step.rest.now ≡ c.in-Some.step.now ∷ c.in-Some.tail.now = search rules in
    let e : c.loop-step.made + 0 ≡ c.loop-step.made = omega arith in
    subst (λ (i : ℕ). MemberRunsTo c.args.self.now c.args.schedule.now i c.step-stepped.new.self) e
    ((c.loop-step.invariant.0) c.step-stepped.new.self 0
    (subst (λ (xs : List MemberMove). MemberRunsTo c.loop-step.self xs 0 c.step-stepped.new.self) (sym is)
    (run_stops ContainerParts MemberMove member_fits member_ends member_happens c.loop-step.self c.in-Some.step.now c.in-Some.tail.now
    c.step-stepped.result c.step-stepped.new.self
    c.step-stepped.ensures.steps (sym c.is_stopped.ensures ∙ c.if-is_stopped.true))))

pub loop-step-preserved : goal.loop-step-preserved
loop-step-preserved c =
    let is : c.loop-step.rest.now ≡ c.in-Some.step.now ∷ c.in-Some.tail.now = search rules in
    let longer : length c.loop-step.rest.now ≡ length c.in-Some.tail.now + 1 = ap (λ (xs : List MemberMove). length xs) is ∙ omega arith in
    let one : c.count-made.result ≤ 1 = counts_one c.step-stepped.result c.count-made.result c.count-made.ensures in (
      λ n k runs. subst (λ (i : ℕ). MemberRunsTo c.args.self.now c.args.schedule.now i n) (omega arith)
          ((c.loop-step.invariant.0) n (c.count-made.result + k)
          (subst (λ (xs : List MemberMove). MemberRunsTo c.loop-step.self xs (c.count-made.result + k) n) (sym is)
          (run_more ContainerParts MemberMove member_fits member_ends member_happens c.loop-step.self c.in-Some.step.now
          c.in-Some.tail.now c.step-stepped.result c.step-stepped.new.self n k
          (c.count-made.result + k) c.step-stepped.ensures.steps (sym c.is_stopped.ensures ∙ c.if-is_stopped.false)
          (ap (λ (x : ℕ). x + k) c.count-made.ensures) runs))),
      omega (arith, c.loop-step.invariant.1),
      c.step-stepped.ensures.orderly,
      c.step-stepped.ensures.recorded,
      c.step-stepped.ensures.counted,
    )

pub returns-clause-runs : goal.returns-clause-runs
returns-clause-runs c =
    let none : length c.loop-step.rest.now ≡ 0 = search rules in
    let is : c.loop-step.rest.now ≡ [] = none_left c.loop-step.rest.now none in
    let e : c.loop-step.made + 0 ≡ c.loop-step.made = omega arith in
    subst (λ (i : ℕ). MemberRunsTo c.args.self.now c.args.schedule.now i c.loop-step.self) e
    ((c.loop-step.invariant.0) c.loop-step.self 0
    (subst (λ (xs : List MemberMove). MemberRunsTo c.loop-step.self xs 0 c.loop-step.self) (sym is) (refl, refl)))
