use Rattle.std.proofs.Common.{[], ◌∷◌, ◌++◌, refl, sym, ◌∙◌, subst, arith, length-append}
use Rattle.iox_queues_steps.specs.Runs.{Runs}
use Rattle.iox_queues_steps.specs.declared.access.Access.{Access}
use Rattle.iox_queues_steps.proofs.Running.{runs_more}
use Rattle.iox_queues_steps.proofs.end.run.Goals as goal

pub loop-i-init : goal.loop-i-init
loop-i-init g c = ([], (refl, refl), refl)

pub returns-then-is_over : goal.returns-then-is_over
returns-then-is_over g c = (c.loop-i.invariant.0, c.loop-i.invariant.1, λ more. absurd (cc (more, c.if-is_over.true, c.is_over.ensures)))

pub loop-i-preserved : goal.loop-i-preserved
loop-i-preserved g c = (
  c.loop-i.invariant.0 ++ c.apply-answer.result ∷ [],
  subst (λ (end : _). Runs g.M.Memory.answers g.E.End.asks g.E.End.takes g.E.End.over
      (c.loop-i.invariant.0 ++ c.apply-answer.result ∷ []) c.args.memory.now c.args.begun c.apply-answer.new.self end)
      (sym c.take-end.ensures)
      (runs_more g.M.Memory.answers g.E.End.asks g.E.End.takes g.E.End.over c.loop-i.invariant.0 c.apply-answer.result c.args.memory.now
      c.args.begun c.loop-i.memory c.loop-i.end c.apply-answer.new.self c.loop-i.invariant.1
      (sym c.is_over.ensures ∙ c.if-is_over.false)
      (subst (λ (a : Access). g.M.Memory.answers c.loop-i.memory a c.apply-answer.result c.apply-answer.new.self) c.next.ensures
      c.apply-answer.ensures)),
  omega (arith, c.loop-i.invariant.2, length-append c.loop-i.invariant.0 (c.apply-answer.result ∷ [])),
)

pub returns : goal.returns
returns g c = (
  c.loop-i.invariant.0,
  c.loop-i.invariant.1,
  λ more. omega
      (arith, c.loop-i.invariant.2, c.loop-i-test.false, c.loop-i.auto.i-end),
)
