use borrow.Author.Rules.{rules}
use Rattle.iox_negotiate_base.proofs.Doing.{alone}
use Rattle.iox_negotiate_base.proofs.creation.unlock.Goals as goal

pub returns-clause-done : goal.returns-clause-done
returns-clause-done g c = alone _ _ _ _ c.unlock.ensures (search rules)
