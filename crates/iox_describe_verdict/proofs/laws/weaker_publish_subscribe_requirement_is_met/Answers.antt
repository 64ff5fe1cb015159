use Rattle.iox_describe_verdict.specs.PublishSubscribeLaws.{weaker}
use Rattle.iox_describe_verdict.proofs.laws.weaker_publish_subscribe_requirement_is_met.Goals as goal

pub returns : goal.returns
returns c = λ weak strong a. weaker weak strong a.attributes a.settings
