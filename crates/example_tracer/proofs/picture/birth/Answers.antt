use Rattle.std.proofs.Common.{sym, ◌∙◌, arith}
use Rattle.example_tracer.specs.Picture.{makes}
use Rattle.example_tracer.proofs.PictureLemmas.{fails_on, first_at, none_passes}
use Rattle.example_tracer.proofs.picture.birth.Goals as goal

pub returns-then-makes : goal.returns-then-makes
returns-then-makes c = first_at (makes c.args.name.now) c.args.conversation.now c.loop-row.row _ c.loop-row-test.true
    (sym c.makes.ensures ∙ c.if-makes.true) c.loop-row.invariant

pub loop-row-preserved : goal.loop-row-preserved
loop-row-preserved c = fails_on (makes c.args.name.now) c.args.conversation.now c.loop-row.row _ c.loop-row-test.true
    (sym c.makes.ensures ∙ c.if-makes.false) c.loop-row.invariant

pub returns : goal.returns
returns c = none_passes (makes c.args.name.now) c.args.conversation.now (λ k d below. c.loop-row.invariant k d (omega arith))
