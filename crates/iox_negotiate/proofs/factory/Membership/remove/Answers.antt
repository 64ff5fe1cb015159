use borrow.Author.Rules.{rules}
use Rattle.iox_negotiate_base.proofs.Doing.{alone, more}
use Rattle.iox_negotiate.proofs.factory.Membership.remove.Goals as goal

pub returns-in-Removed : goal.returns-in-Removed
returns-in-Removed g c = more _ _ _ _ _ _ c.remove_description-answer.ensures c.remove_segment.ensures (λ made h. search rules)

pub returns-in-Fault : goal.returns-in-Fault
returns-in-Fault g c = alone _ _ _ _ c.remove_description-answer.ensures (search rules)
