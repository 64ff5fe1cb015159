use Rattle.example_tracer.proofs.DrawingLemmas.{inert_text}
use Rattle.example_tracer.proofs.drawing.push_text.Goals as goal

pub returns-clause-inert : goal.returns-clause-inert
returns-clause-inert c = inert_text c.args.text.now

pub returns-in_err-push_escaped-clause-inert : goal.returns-in_err-push_escaped-clause-inert
returns-in_err-push_escaped-clause-inert c = inert_text c.args.text.now
