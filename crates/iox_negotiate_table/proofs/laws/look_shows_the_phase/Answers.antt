use Rattle.iox_negotiate_table.proofs.Shown.{shows}
use Rattle.iox_negotiate_table.proofs.laws.look_shows_the_phase.Goals as goal

pub returns : goal.returns
returns c = shows
