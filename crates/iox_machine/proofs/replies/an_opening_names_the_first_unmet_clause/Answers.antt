use Rattle.iox_machine.proofs.Verdicts.{verdicts-are-so}
use Rattle.iox_machine.proofs.replies.an_opening_names_the_first_unmet_clause.Goals as goal

pub returns : goal.returns
returns c = verdicts-are-so
