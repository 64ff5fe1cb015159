-- `has_samples` and `receive` of a subscriber in a domain match the machine's commands.
use Rattle.std.specs.Prelude.{ℕ, ◌+◌, ◌<◌, ◌≡◌, ◌≢◌, ◌^◌, ◌-◌, Bool, List, [], ◌∷◌, ◌++◌, Option, None, Some, Result, Ok, Err}
use Rattle.std.specs.Global.{Vec}
use Rattle.std.specs.Vec.{vec_items}
use Rattle.iox_command.specs.DomainValues.declared.connection_failure.ConnectionFailure.{ConnectionFailure}
use Rattle.iox_command.specs.DomainValues.declared.degradation.DegradationAction.{DegradationAction}
use Rattle.iox_command.specs.DomainValues.declared.degradation.DegradationInfo.{DegradationInfo}
use Rattle.iox_command.specs.DomainValues.declared.port_error.ReceiveError.{ReceiveError}
use Rattle.iox_command.specs.NegotiateBase.DescribeBase.declared.message_type.MessageTypeDetails.{MessageTypeDetails}
use Rattle.iox_command.specs.declared.command.Command.TheVariants as command
use Rattle.iox_command.specs.declared.refusal.Refusal.TheVariants as refusal
use Rattle.iox_command.specs.declared.reply.Reply.{Reply}
use Rattle.iox_command.specs.declared.reply.Reply.TheVariants as reply
use Rattle.iox_domain.specs.DomainPorts.Messages as domain
use Rattle.iox_domain.specs.DomainPorts.declared.attached.Taken.{Taken}
use Rattle.iox_domain.specs.Reading.{sample_in}
use Rattle.iox_domain.specs.Roomy.{AreRoomy}
use Rattle.iox_domain.specs.Steps.{TellsBy, ReceivesBy}
use Rattle.iox_domain.specs.declared.ports.service_ports.ServicePorts.{ServicePorts}
use Rattle.iox_domain_machine.specs.Laws.{Matches}
use Rattle.iox_domain_machine.specs.Naming.{Naming}
use Rattle.iox_domain_machine.specs.Standing.{StandsFor}
use Rattle.iox_domain_machine.specs.SubscriberUpdateLaws.{ActsAs}
use Rattle.iox_domain_machine.specs.Tables.{LentSlot, samples_held_by}
use Rattle.iox_machine.specs.Choices.{Choices}
use Rattle.iox_machine.specs.Service.{Service}
use Rattle.iox_machine.specs.State.{State}
use Rattle.iox_machine.specs.Table.{at}

-- The reply that says whether some connection has data, or why that can't be said.
abbrev pub told_or_skipped : {T : Type 0} → Option (Result Bool ConnectionFailure) → Reply T
told_or_skipped None = reply.Skipped
told_or_skipped (Some (Ok has_data)) = reply.Has has_data
told_or_skipped (Some (Err failure)) = reply.Refused (refusal.Connection failure)

-- The reply to a receive, whose sample, if there is one, gets this number and these values.
abbrev pub received_or_not : {T : Type 0} → ℕ → Vec T → Option (Result (Option Taken) ReceiveError) → Reply T
received_or_not sample values None = reply.Skipped
received_or_not sample values (Some (Ok (Some taken))) = reply.Received sample values
received_or_not sample values (Some (Ok None)) = reply.NothingWaits
received_or_not sample values (Some (Err why)) = reply.Refused (refusal.Receive why)

-- These are the values of the received sample, if one was received.
abbrev pub AreReceived : {T U : Type 0} → Vec T → Option (Result (Option Taken) ReceiveError) → ServicePorts T U → Type 0
AreReceived values None ports = Unit {0}
AreReceived {T} {U} values (Some (Ok (Some taken))) ports =
    (message : domain.Message T U) × (sample_in taken ports ≡ Some message) × (vec_items values ≡ message.values)
AreReceived values (Some (Ok None)) ports = Unit {0}
AreReceived values (Some (Err why)) ports = Unit {0}

-- The numbered samples after a receive: if a sample was received, it was added with this number.
abbrev pub with_held : ℕ → Option (Result (Option Taken) ReceiveError) → List (ℕ × Taken) → List (ℕ × Taken)
with_held sample None held = held
with_held sample (Some (Ok (Some taken))) held = held ++ (sample, taken) ∷ []
with_held sample (Some (Ok None)) held = held
with_held sample (Some (Err why)) held = held

-- The machine's messages have certain types, `choices` says what handlers may choose, and `may` says what a handler may answer
-- for a failed connection.
module _ (T U : Type 0) (choices : Choices T) (may : DegradationInfo → DegradationAction → Type 0) where
  -- Asking whether some connection of the subscriber has data, after an update, matches the command. New connections get names.
  -- The theorem assumes that the ports are roomy, as they are after any calls (`SamplesLeft`), and that each answer of the
  -- handler is a choice of the machine's subscriber.
  abbrev pub HasMatches : Type 0
  HasMatches = (types : MessageTypeDetails) (buffer : ℕ) (names : Naming) (lent : List (ℕ × LentSlot)) (held : List (ℕ × Taken))
      (old new : ServicePorts T U) (service : Service T) (state : State T) (number : ℕ) (answer : Option (Result Bool ConnectionFailure))
      → StandsFor names lent held buffer old service → AreRoomy old → names.subscriber number ≢ 0
      → ActsAs choices may (names.subscriber number) service → TellsBy may number old answer new
      → (reader : ℕ → ℕ → ℕ) × Matches T U choices types buffer (command.Has (names.subscriber number)) (told_or_skipped answer) state
      service (record names { reader = reader }) lent held new

  -- Receiving, after an update, matches the command: the subscriber gets a sample with the next number, or the reply says why
  -- it gets none. New connections get names. The theorem assumes that no sample has the next number, that the subscriber holds
  -- fewer than 2^64 - 1 samples, that the ports are roomy, as they are after any calls (`SamplesLeft`), and that each answer of
  -- the handler is a choice of the machine's subscriber.
  abbrev pub ReceiveMatches : Type 0
  ReceiveMatches = (types : MessageTypeDetails) (buffer : ℕ) (names : Naming) (lent : List (ℕ × LentSlot)) (held : List (ℕ × Taken))
      (old new : ServicePorts T U) (service : Service T) (state : State T) (number : ℕ)
      (answer : Option (Result (Option Taken) ReceiveError)) (values : Vec T)
      → StandsFor names lent held buffer old service → AreRoomy old → names.subscriber number ≢ 0
      → ActsAs choices may (names.subscriber number) service → at (state.made.samples + 1) held ≡ None
      → samples_held_by number held < 2 ^ 64 - 1
      → ReceivesBy may number old answer new → AreReceived values answer new
      → (reader : ℕ → ℕ → ℕ) × Matches T U choices types buffer (command.Receive (names.subscriber number))
      (received_or_not (state.made.samples + 1) values answer) state service (record names { reader = reader }) lent
      (with_held (state.made.samples + 1) answer held) new
