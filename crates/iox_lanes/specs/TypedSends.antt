-- Loans that weren't sent, or not to all connections.
use Rattle.std.specs.Prelude.{◌≡◌, ◌⊎◌, true, Option, None, Some}
use Rattle.iox_lanes_base.specs.declared.calls.publisher.Delivery.{Delivery}
use Rattle.iox_lanes_parties.specs.Parties.{head_of}
use Rattle.iox_lanes_parties.specs.declared.call.SendAnswer.TheVariants as send_answer
use Rattle.iox_lanes_threads_ports.specs.Known.{KeepsPayload, KnowsHead, KnowsSent}
use Rattle.iox_lanes_threads_ports.specs.Values.{StaysPut, Sends}
use Rattle.iox_lanes.specs.HeldByNone.{IsHeldByNone}
use Rattle.iox_lanes.specs.Typed.{TypedPublisher, Token}
use Rattle.iox_lanes.specs.TypedCalls.{is_mine, why_unsent}
use Rattle.iox_lanes.specs.declared.threads.errors.SendError.{SendError}
use Rattle.iox_lanes.specs.declared.threads.errors.SendError.TheVariants as send_error

-- The loan is one of the publisher. The message was sent, into a slot that no subscriber held, and the connections that didn't refuse it
-- have it. Some connection refused it, and the publisher fails then.
pub record IsUndelivered (old : TypedPublisher) (loan : Token) (new : TypedPublisher) (delivery : Delivery) : Type 0 where
  pub mine : is_mine old loan ≡ true
  pub unheld : IsHeldByNone old.port.own.port loan.slot
  pub call : Sends old.port.own loan.slot new.port.own (Some (send_answer.UnableToDeliver delivery))
  pub head : KnowsHead new.port.own.port loan.slot (head_of loan.slot old.port.own.lane)
  pub payload : KeepsPayload old.port.own.port new.port.own.port loan.slot
  pub told : KnowsSent old.port.own.port new.port.own.port old.port.own.lane.fails old.port.own.lane.port.routes loan.slot
      (send_answer.UnableToDeliver delivery)

-- The loan comes back with this error: nothing was done, or the send began and is still inside the call.
abbrev pub ComesBack : TypedPublisher → Token → TypedPublisher → SendError → Option Token → Type 0
ComesBack old loan new error back = (error ≡ why_unsent old loan) × (back ≡ Some loan)
    × (StaysPut old.port.own new.port.own ⊎ Sends old.port.own loan.slot new.port.own None)

-- What a send leaves that returns this error, and whether the loan comes back.
abbrev pub IsUnsent : TypedPublisher → Token → TypedPublisher → SendError → Option Token → Type 0
IsUnsent old loan new send_error.InsideCall back = ComesBack old loan new send_error.InsideCall back
IsUnsent old loan new send_error.NotMine back = ComesBack old loan new send_error.NotMine back
IsUnsent old loan new send_error.NotWritten back = ComesBack old loan new send_error.NotWritten back
IsUnsent old loan new (send_error.UnableToDeliver delivery) back = (back ≡ None) × IsUndelivered old loan new delivery
