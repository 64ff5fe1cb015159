use borrow.Author.Rules.{rules}
use Rattle.iox_negotiate_base.proofs.Doing.{more}
use Rattle.iox_negotiate_base.proofs.creation.make_segment.Goals as goal

pub returns-in-Some : goal.returns-in-Some
returns-in-Some g c = more _ _ _ _ _ _ c.make_segment-answer.ensures c.unlock.ensures.done (λ made h. search rules)

pub returns : goal.returns
returns g c = more _ _ _ _ _ _ c.make_segment-answer.ensures c.publish.ensures (λ made h. search rules)
