use Rattle.iox_negotiate_base.specs.Runs.{Does, Led}
use Rattle.iox_negotiate_base.specs.Opening.{EitherRound}
use Rattle.iox_negotiate_base.proofs.rounds.open_or_create.Given as goal

-- the rounds so far led on
abbrev pub invariant-loop-round : goal.invariant-loop-round
invariant-loop-round g l =
    Does g.S.Storage.gives l.fn.storage
    (Led (EitherRound (g.R.Request.hash l.request) (g.R.Request.node l.request) (g.R.Request.verdict l.request)
    (g.R.Request.created l.request) (g.R.Request.refusal l.request)) l.round)
    l.storage
