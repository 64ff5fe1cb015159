use Rattle.example_tracer.proofs.GatewayLemmas.{carried}
use Rattle.example_tracer.proofs.gateway.carries_over.Goals as goal

pub returns : goal.returns
returns c = carried
