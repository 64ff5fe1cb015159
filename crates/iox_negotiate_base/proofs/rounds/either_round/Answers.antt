use borrow.Author.Rules.{rules}
use Rattle.iox_negotiate_base.proofs.Doing.{more}
use Rattle.iox_negotiate_base.proofs.rounds.either_round.Goals as goal

pub returns : goal.returns
returns g c = more _ _ _ _ _ _ c.look-answer.ensures c.either_seen.ensures (λ made h. search rules)
