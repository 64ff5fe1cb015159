use Rattle.iox_hub_machine.proofs.ComesAsked.{subscriber_coming_followed}
use Rattle.iox_hub_machine.proofs.coming_of_a_subscriber_is_followed.Goals as goal

pub returns : goal.returns
returns g c = λ handed fixed fixed_reader. subscriber_coming_followed _ _
