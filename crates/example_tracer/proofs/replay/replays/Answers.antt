use Rattle.example_tracer.proofs.ReplayLemmas.{lines_again}
use Rattle.example_tracer.proofs.replay.replays.Goals as goal

pub returns : goal.returns
returns c = λ header others lines. lines_again others lines
