use borrow.Author.Rules.{rules}
use Rattle.iox_negotiate_base.proofs.Doing.{alone, more}
use Rattle.iox_negotiate_base.proofs.creation.publish.Goals as goal

pub returns-in-Some : goal.returns-in-Some
returns-in-Some g c = more _ _ _ _ _ _ c.publish-answer.ensures c.undo-in-Some.ensures.done (λ made h. search rules)

pub returns : goal.returns
returns g c = alone _ _ _ _ c.publish-answer.ensures (search rules)
