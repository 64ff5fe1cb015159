use borrow.Author.Rules.{rules}
use Rattle.iox_negotiate_base.proofs.Doing.{alone}
use Rattle.iox_negotiate.proofs.factory.Membership.remove_segment.Goals as goal

pub returns : goal.returns
returns g c = alone _ _ _ _ c.remove_segment-answer.ensures (search rules)
