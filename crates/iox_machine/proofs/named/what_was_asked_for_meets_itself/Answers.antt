use Rattle.iox_machine.proofs.Reopened.{asked-meets-itself}
use Rattle.iox_machine.proofs.named.what_was_asked_for_meets_itself.Goals as goal

pub returns : goal.returns
returns c = asked-meets-itself
