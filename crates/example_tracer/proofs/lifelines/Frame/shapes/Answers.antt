use Rattle.std.proofs.Common.{◌∙◌}
use Rattle.example_tracer.proofs.FrameLemmas.{one_row}
use Rattle.example_tracer.proofs.lifelines.Frame.shapes.Goals as goal

pub loop-row-preserved : goal.loop-row-preserved
loop-row-preserved c = (
  c.in_ok-push_row.ensures.ways ∙ c.loop-row.invariant.0,
  one_row (λ it. it.line.now) c.args.conversation.now c.loop-row.row _ _ _ c.loop-row-test.true c.loop-row.invariant.1
      c.in_ok-push_row.ensures.line,
  one_row (λ it. it.reply.now) c.args.conversation.now c.loop-row.row _ _ _ c.loop-row-test.true c.loop-row.invariant.2
      c.in_ok-push_row.ensures.reply,
)
