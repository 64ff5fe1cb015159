-- A whole call that no other call overlaps.
use Rattle.std.specs.Prelude.{ℕ, zero, suc, ◌≡◌, ◌≤◌, ◌^◌, [], ◌∷◌, ◌++◌}
use Rattle.iox_lanes_machine.specs.QueuesSteps.declared.schedule.Stepped.TheVariants as stepped
use Rattle.iox_lanes_machine.specs.LanesParties.Parties.{name_of}
use Rattle.iox_lanes_machine.specs.LanesParties.declared.call.Answer.{Answer}
use Rattle.iox_lanes_machine.specs.LanesParties.declared.call.Call.{Call}
use Rattle.iox_lanes_machine.specs.LanesParties.declared.call.FinishedCall.{FinishedCall}
use Rattle.iox_lanes_machine.specs.LanesParties.declared.call.Move.TheVariants.{Begin, GoOn}
use Rattle.iox_lanes_machine.specs.LanesParties.declared.call.Party.{Party}
use Rattle.iox_lanes_machine.specs.Resting.{AllBetween, mail_at}
use Rattle.iox_lanes_machine.specs.WholeReads.{CameTo}
use Rattle.iox_lanes_machine.specs.World.{World, StepsTo}

-- The party goes on: the next `more` steps don't end its call, and the one after them does.
abbrev pub GoesToEnd : Party → ℕ → World → World → Type 0
GoesToEnd party zero m n = StepsTo m party GoOn stepped.Finished n
GoesToEnd party (suc more) m n = (next : World) × StepsTo m party GoOn stepped.Went next × GoesToEnd party more next n

-- A whole call of a party that no other call overlaps: nobody is inside a call when it begins, and nobody else makes a step until it ends;
-- at most 2^63 steps were made in all.
pub record IsInTurn (m : World) (party : Party) (c : Call) (n : World) : Type 0 where
  pub came : CameTo m
  pub between : AllBetween m
  pub begun : World
  pub begins : StepsTo m party (Begin c) stepped.Went begun
  pub more : ℕ
  pub goes : GoesToEnd party more begun n
  pub few : n.moments ≤ 2 ^ 63

-- One more call ended: this one of the party, with this answer.
pub record IsAnswered (m : World) (party : Party) (c : Call) (given : Answer) (n : World) : Type 0 where
  pub call : FinishedCall
  pub more : n.finished ≡ m.finished ++ call ∷ []
  pub own : call.party ≡ party
  pub asked : call.call ≡ name_of c
  pub answered : call.answer ≡ given

-- The same messages wait at each connection before and after.
abbrev pub MailStays : World → World → Type 0
MailStays m n = (connection : ℕ) → mail_at n connection ≡ mail_at m connection

-- After a call that no other call overlaps, nobody is inside a call, so the next call, too, may be one that no other call overlaps.
abbrev pub CallsEndInTurn : Type 0
CallsEndInTurn = (m : World) (party : Party) (c : Call) (n : World) → IsInTurn m party c n → CameTo n × AllBetween n
