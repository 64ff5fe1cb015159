use borrow.Author.Rules.{rules}
use Rattle.iox_negotiate_base.proofs.Doing.{alone, more}
use Rattle.iox_negotiate.proofs.factory.Membership.leave.Goals as goal

pub returns-in-Stays : goal.returns-in-Stays
returns-in-Stays g c = alone _ _ _ _ c.leave-answer.ensures (search rules)

pub returns-in-Emptied : goal.returns-in-Emptied
returns-in-Emptied g c = more _ _ _ _ _ _ c.leave-answer.ensures c.remove.ensures (λ made h. search rules)
