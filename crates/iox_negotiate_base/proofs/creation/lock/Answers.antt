use borrow.Author.Rules.{rules}
use Rattle.iox_negotiate_base.proofs.Doing.{alone, more}
use Rattle.iox_negotiate_base.proofs.creation.lock.Goals as goal

pub returns-in-Ok : goal.returns-in-Ok
returns-in-Ok g c = more _ _ _ _ _ _ c.lock-answer.ensures c.make_segment.ensures (λ made h. search rules)

pub returns-in-Err : goal.returns-in-Err
returns-in-Err g c = alone _ _ _ _ c.lock-answer.ensures (search rules)
