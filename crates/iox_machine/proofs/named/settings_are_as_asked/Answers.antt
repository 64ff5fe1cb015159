use Rattle.iox_machine.proofs.Defaults.{settings-are-asked}
use Rattle.iox_machine.proofs.named.settings_are_as_asked.Goals as goal

pub returns : goal.returns
returns c = settings-are-asked
