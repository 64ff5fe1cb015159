use Rattle.iox_hub_commands.proofs.OneAgreement.{agreement_is_one}
use Rattle.iox_hub_commands.proofs.laws.agreement_is_one.Goals as goal

pub returns : goal.returns
returns g c = agreement_is_one
