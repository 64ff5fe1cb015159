use Rattle.iox_machine.proofs.Verdicts.{settings-are-refused-so}
use Rattle.iox_machine.proofs.replies.impossible_settings_are_refused.Goals as goal

pub returns : goal.returns
returns c = settings-are-refused-so
