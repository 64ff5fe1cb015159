use borrow.Author.Rules.{rules}
use Rattle.iox_negotiate_base.proofs.Doing.{more}
use Rattle.iox_negotiate_base.proofs.creation.undo.Goals as goal

pub returns-clause-done : goal.returns-clause-done
returns-clause-done g c = more _ _ _ _ _ _ c.remove_segment-answer.ensures c.unlock.ensures.done (λ made h. search rules)
