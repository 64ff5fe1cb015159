-- A publisher's send in a domain matches the machine's command.
use Rattle.std.specs.Prelude.{ℕ, ◌-◌, ◌^◌, ◌≡◌, ◌≢◌, min, true, List, Option, None, Some, Result, Ok, Err}
use Rattle.iox_command.specs.DomainValues.Actions.{decision_of}
use Rattle.iox_command.specs.DomainValues.declared.backpressure.BackpressureDecision.{BackpressureDecision}
use Rattle.iox_command.specs.DomainValues.declared.backpressure.BackpressureInfo.{BackpressureInfo}
use Rattle.iox_command.specs.DomainValues.declared.degradation.DegradationAction.{DegradationAction}
use Rattle.iox_command.specs.DomainValues.declared.degradation.DegradationInfo.{DegradationInfo}
use Rattle.iox_command.specs.DomainValues.declared.port_error.SendError.{SendError}
use Rattle.iox_command.specs.NegotiateBase.DescribeBase.declared.message_type.MessageTypeDetails.{MessageTypeDetails}
use Rattle.iox_command.specs.declared.command.Command.TheVariants as command
use Rattle.iox_command.specs.declared.refusal.Refusal.TheVariants as refusal
use Rattle.iox_command.specs.declared.reply.Reply.{Reply}
use Rattle.iox_command.specs.declared.reply.Reply.TheVariants as reply
use Rattle.iox_domain.specs.DomainPorts.declared.attached.Taken.{Taken}
use Rattle.iox_domain.specs.DomainPorts.declared.meeting.Sent.{Sent}
use Rattle.iox_domain.specs.DomainPorts.declared.meeting.Sent.TheVariants as sent
use Rattle.iox_domain.specs.Roomy.{AreRoomy}
use Rattle.iox_domain.specs.Steps.{SendsBy, RetriesBy}
use Rattle.iox_domain.specs.declared.ports.service_ports.ServicePorts.{ServicePorts}
use Rattle.iox_domain_machine.specs.Laws.{Matches}
use Rattle.iox_domain_machine.specs.Naming.{Naming, with_name}
use Rattle.iox_domain_machine.specs.PublisherUpdateLaws.{DegradesAs}
use Rattle.iox_domain_machine.specs.Standing.{StandsFor}
use Rattle.iox_domain_machine.specs.Tables.{LentSlot}
use Rattle.iox_machine.specs.Choices.{Choices}
use Rattle.iox_machine.specs.Service.{Service, Publisher}
use Rattle.iox_machine.specs.State.{State}
use Rattle.iox_machine.specs.Table.{at, removed}

-- The reply to a send.
abbrev pub sent_or_skipped : {T : Type 0} → Option (Result Sent SendError) → Reply T
sent_or_skipped None = reply.Skipped
sent_or_skipped (Some (Ok (sent.Delivered count))) = reply.Delivered count
sent_or_skipped (Some (Ok sent.Blocked)) = reply.Blocked
sent_or_skipped (Some (Err why)) = reply.Refused (refusal.Send why)

-- The numbered loans after a send of the loan with this number: it is removed, unless the send was skipped.
abbrev pub lent_after_send : ℕ → Option (Result Sent SendError) → List (ℕ × LentSlot) → List (ℕ × LentSlot)
lent_after_send loan None lent = lent
lent_after_send loan (Some result) lent = removed loan lent

-- Each decision that may be made at a full mailbox is a choice of the machine's publisher with this name; the machine counts
-- retries without a limit.
abbrev pub DecidesAs : {T : Type 0} → Choices T → (BackpressureInfo → BackpressureDecision → Type 0) → ℕ → Publisher T → Type 0
DecidesAs choices may name publisher =
    (info : BackpressureInfo) (decision : BackpressureDecision) (retries : ℕ) → may info decision
    → info.retries ≡ min retries (2 ^ 64 - 1)
    → choices.publisher_decides name retries info.elapsed_time (decision_of publisher.strategy publisher.handler) decision

module _ (T U : Type 0) (choices : Choices T) (may : BackpressureInfo → BackpressureDecision → Type 0) where
  -- Retrying a blocked send, after this number of nanoseconds, matches the command. The theorem assumes that the ports are
  -- roomy, as they are after any calls (`SamplesLeft`), and that each decision at a full mailbox is a choice of the machine's
  -- publisher.
  abbrev pub RetryMatches : Type 0
  RetryMatches = (types : MessageTypeDetails) (buffer : ℕ) (names : Naming) (lent : List (ℕ × LentSlot)) (held : List (ℕ × Taken))
      (old new : ServicePorts T U) (service : Service T) (state : State T) (number nanoseconds : ℕ)
      (answer : Option (Result Sent SendError))
      → StandsFor names lent held buffer old service → AreRoomy old → names.publisher number ≢ 0
      → ((publisher : Publisher T) → at (names.publisher number) service.publishers ≡ Some publisher → publisher.stands ≡ true
      → DecidesAs choices may (names.publisher number) publisher)
      → RetriesBy may number nanoseconds old answer new
      → Matches T U choices types buffer (command.Retry (names.publisher number) nanoseconds) (sent_or_skipped answer) state service
      names lent held new

  -- Sending the loan with this number matches the command: its publisher follows the list of subscribers first, if the list
  -- changed, and new connections get names. The theorem assumes that the ports are roomy, as they are after any calls
  -- (`SamplesLeft`), and that each decision at a full mailbox, and each answer for a failed connection, is a choice of the
  -- machine's publisher.
  abbrev pub SendMatches : (DegradationInfo → DegradationAction → Type 0) → Type 0
  SendMatches may_degrade = (types : MessageTypeDetails) (buffer : ℕ) (names : Naming) (lent : List (ℕ × LentSlot))
      (held : List (ℕ × Taken)) (old new : ServicePorts T U) (service : Service T) (state : State T) (loan : ℕ) (out : LentSlot)
      (answer : Option (Result Sent SendError))
      → StandsFor names lent held buffer old service → AreRoomy old → at loan lent ≡ Some out
      → ((publisher : Publisher T) → at (names.publisher out.publisher) service.publishers ≡ Some publisher → publisher.stands ≡ true
      → DecidesAs choices may (names.publisher out.publisher) publisher)
      → DegradesAs choices may_degrade (names.publisher out.publisher) service
      → SendsBy may_degrade may out.publisher out.slot old answer new
      → (reader : ℕ → ℕ) × Matches T U choices types buffer (command.Send loan) (sent_or_skipped answer) state service
      (record names { reader = with_name out.publisher reader names.reader }) (lent_after_send loan answer lent) held new
