use borrow.Author.Rules.{rules}
use Rattle.iox_negotiate_base.proofs.Doing.{alone}
use Rattle.iox_negotiate_base.proofs.opening.register.Goals as goal

pub returns : goal.returns
returns g c = alone _ _ _ _ c.open_segment-answer.ensures (search rules)
