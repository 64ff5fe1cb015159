use Rattle.iox_negotiate_base.specs.Runs.{Does, Led}
use Rattle.iox_negotiate_base.specs.Opening.{OpenRound}
use Rattle.iox_negotiate_base.proofs.rounds.open.Given as goal

-- the rounds so far led on
abbrev pub invariant-loop-round : goal.invariant-loop-round
invariant-loop-round g l =
    Does g.S.Storage.gives l.fn.storage
    (Led (OpenRound (g.R.Request.hash l.request) (g.R.Request.node l.request) (g.R.Request.verdict l.request)) l.round) l.storage
