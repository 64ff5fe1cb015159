use Rattle.iox_describe_verdict.specs.RequestResponseLaws.{weaker}
use Rattle.iox_describe_verdict.proofs.laws.weaker_request_response_requirement_is_met.Goals as goal

pub returns : goal.returns
returns c = λ weak strong a. weaker weak strong a.attributes a.settings
