-- Sends of a hub that wait are tried again.
use Rattle.std.proofs.Common.{◌≡◌, ◌+◌, ℕ, List, Option, None, Some, Result, refl, sym, ap, subst, inl, inr, ◌∙◌}
use Rattle.std.specs.Prelude.{MatchOption}
use Rattle.iox_command.specs.DomainValues.declared.backpressure.BackpressureDecision.{BackpressureDecision}
use Rattle.iox_command.specs.DomainValues.declared.backpressure.BackpressureInfo.{BackpressureInfo}
use Rattle.iox_command.specs.DomainValues.declared.degradation.DegradationAction.{DegradationAction}
use Rattle.iox_command.specs.DomainValues.declared.degradation.DegradationCause.{DegradationCause}
use Rattle.iox_command.specs.DomainValues.declared.degradation.DegradationInfo.{DegradationInfo}
use Rattle.iox_command.specs.DomainValues.declared.port_error.SendError.{SendError}
use Rattle.iox_command.specs.NegotiateBase.DescribeBase.declared.message_type.MessageTypeDetails.{MessageTypeDetails}
use Rattle.iox_command.specs.declared.command.Command.TheVariants as command
use Rattle.iox_command.specs.declared.reply.Reply.{Reply}
use Rattle.iox_container.specs.NumberTable.{value_at}
use Rattle.iox_delivery.specs.declared.port_id.PortId.{PortId}
use Rattle.iox_domain.specs.AtHomes.{AtDomain}
use Rattle.iox_domain.specs.DomainPorts.declared.meeting.Sent.{Sent}
use Rattle.iox_domain.specs.Steps.{RetriesBy}
use Rattle.iox_domain.specs.declared.ports.service_ports.ServicePorts.{ServicePorts}
use Rattle.iox_domain_machine.specs.Laws.{Matches}
use Rattle.iox_domain_machine.specs.Naming.{Naming}
use Rattle.iox_domain_machine.specs.SendLaws.{sent_or_skipped}
use Rattle.iox_domain_machine.specs.Services.{those_of}
use Rattle.iox_domain_machine.proofs.AloneDid.{by_option}
use Rattle.iox_domain_machine.proofs.Retrying.{retry_matches}
use Rattle.iox_hub_base.specs.AsHome.{hub_ports, with_hub_ports}
use Rattle.iox_hub_base.specs.declared.hub.Hub.{Hub}
use Rattle.iox_hub_commands.specs.Calls.{AtPort, Retries}
use Rattle.iox_hub_commands.specs.CommandSteps.{publisher_may_decide}
use Rattle.iox_hub_commands.specs.Grown.{HaveGrown}
use Rattle.iox_hub_commands.specs.Replies.{sent_reply}
use Rattle.iox_hub_commands.specs.Tables.{port_under}
use Rattle.iox_hub_commands.specs.declared.numbered_hub.NumberedHub.{NumberedHub}
use Rattle.iox_hub_machine.specs.Laws.{answered_with}
use Rattle.iox_hub_machine.specs.SendLaws.{RetryIsSimulated}
use Rattle.iox_hub_machine.specs.Standing.{PortsStandFor, lent_in, held_in}
use Rattle.iox_hub_machine.proofs.Absent.{no_publisher_goes}
use Rattle.iox_hub_machine.proofs.Amidst.{at_one_skips}
use Rattle.iox_hub_machine.proofs.Deciders.{decides_as}
use Rattle.iox_hub_machine.proofs.Deciding.{DecideAlike, same_ports, at_one_decides}
use Rattle.iox_hub_machine.proofs.GivenUp.{standing}
use Rattle.iox_hub_machine.proofs.Going.{same_stands}
use Rattle.iox_hub_machine.proofs.Known.{sent_so, sent_counts, GoesByNumber, goes_by_number}
use Rattle.iox_hub_machine.proofs.Moving.{IsMatched, ports_alone}
use Rattle.iox_hub_machine.proofs.Rooming.{roomy_there}
use Rattle.iox_hub_machine.proofs.Turning.{turned_none, goes_on_alike}
use Rattle.iox_machine.specs.Choices.{Choices}
use Rattle.iox_machine.specs.Ports.{publisher_in}
use Rattle.iox_machine.proofs.Shorthands.{IsSkipped}
use Rattle.iox_machine.specs.Sending.{GoesOn}
use Rattle.iox_machine.specs.Service.{Service, Publisher, Send}
use Rattle.iox_machine.specs.State.{State, AtOne}
use Rattle.iox_machine.specs.Table.{at}

-- the machine tries a send again
abbrev again : {T : Type 0} → ℕ → Send T → Send T
again nanoseconds send = record send { retries = send.retries + 1; elapsed = nanoseconds }

abbrev RetriesAt : {T : Type 0} → Choices T → ℕ → ℕ → Publisher T → Service T → Reply T → Service T → Type 0
RetriesAt choices number nanoseconds one service answered after =
    MatchOption one.blocked (IsSkipped service answered after)
    (λ send. GoesOn choices number one (again nanoseconds send) service answered after)

retrying_alike : {T : Type 0} (choices : Choices T) (number nanoseconds : ℕ) (state new : State T) (answer : Reply T)
    → AtOne (publisher_in number) (RetriesAt choices number nanoseconds) state answer new → DecideAlike state.services new.services
retrying_alike {T} choices number nanoseconds state new answer did =
    at_one_decides (publisher_in number) (RetriesAt choices number nanoseconds) state new answer
    (λ one service after is does.
    elim (by_option one.blocked (IsSkipped service answer after)
    (λ send. GoesOn choices number one (again nanoseconds send) service answer after) does) [
      | inl skipped ↦ same_ports service after (ap (λ (it : Service T). it.publishers) skipped.1.1)
          (ap (λ (it : Service T). it.subscribers) skipped.1.1)
      | inr goes ↦ goes_on_alike choices number service service after one one (again nanoseconds goes.0) answer
          (turned_none number service one (standing (at number service.publishers) one is)) refl goes.2
    ]) did

module _ {T U B D : Type 0} (choices : Choices T) (is_default_header : U → Type 0)
    (degrades : B → DegradationCause → DegradationInfo → DegradationAction → Type 0)
    (decides : B → BackpressureInfo → BackpressureDecision → Type 0)
    (reader_degrades : D → DegradationCause → DegradationInfo → DegradationAction → Type 0) where
  module _ (types : MessageTypeDetails) (naming : ℕ → Naming) (order : List (ℕ × ServicePorts T U)) (old new : NumberedHub T U B D)
      (state : State T) (stands : PortsStandFor choices degrades decides reader_degrades naming order old state) (number nanoseconds : ℕ)
      (grown : HaveGrown old.hub.services.domains) (same : new ≡ record old { hub = new.hub }) where
    abbrev Tried : Option (Result Sent SendError) → Type 0
    Tried sent = IsMatched degrades decides reader_degrades types choices naming order old state (command.Retry number nanoseconds)
        (sent_reply sent) stands new

    retry_by : (sent : Option (Result Sent SendError)) (found : Option PortId) → port_under (value_at old.made.publishers number) ≡ found
        → AtPort (Retries hub_ports with_hub_ports (publisher_may_decide decides) nanoseconds) found old.hub sent new.hub → Tried sent
    retry_by sent None none (nothing, changes) =
        subst Tried (sym nothing) (
          naming,
          order,
          state.services,
          refl,
          at_one_skips (publisher_in number) (RetriesAt choices number nanoseconds) state
              (no_publisher_goes choices degrades decides reader_degrades naming order old state stands number none),
          same_stands choices degrades decides reader_degrades naming order old state stands number new changes
              (ap (λ (it : NumberedHub T U B D). it.made) same),
        )
    retry_by sent (Some port) there retries =
        let goes : GoesByNumber choices degrades decides reader_degrades naming order old state stands number port =
        goes_by_number choices degrades decides reader_degrades naming order old state stands number port there in
        let id = port.domain in
        let lent = those_of id.service (lent_in old.made) in
        let held = those_of id.service (held_in old.made) in
        let buffer = old.hub.expired_connection_buffer in
        let may = publisher_may_decide decides id port.number old.hub in
        let (after, does, changes) = subst (λ (it : Option (ServicePorts T U)). AtDomain
        (λ (one : ServicePorts T U). with_hub_ports id one old.hub) (RetriesBy may port.number nanoseconds) it old.hub sent new.hub)
        goes.found
        retries in
        ports_alone degrades decides reader_degrades types choices naming order old state (command.Retry number nanoseconds)
        (sent_reply sent) stands new id goes.ports after goes.found
        (same ∙ ap (λ (hub : Hub T U B D). record old { hub = hub }) changes) (sent_counts T sent state.made)
        (port.number, goes.named, λ zero. goes.some (goes.named ∙ zero))
        (λ first service last are its.
        subst (λ (it : Reply T). Matches T U choices types buffer (command.Retry number nanoseconds) it state service
        (naming id.service) lent held after) (sent_so sent)
        (subst (λ (name : ℕ). Matches T U choices types buffer (command.Retry name nanoseconds) (sent_or_skipped sent) state service
        (naming id.service) lent held after) goes.named
        (retry_matches T U choices may types buffer (naming id.service) lent held goes.ports after service state port.number nanoseconds
        sent its (roomy_there id goes.ports old.hub grown goes.found) goes.some
        (decides_as choices degrades decides reader_degrades naming order old state stands id goes.ports goes.found first service last are
        its
        port.number) does)))
        (λ services did. retrying_alike choices number nanoseconds state (answered_with (sent_reply sent) services state)
        (sent_reply sent) did)

  pub retry_simulated : RetryIsSimulated choices is_default_header degrades decides reader_degrades
  retry_simulated number nanoseconds old grown payload user_header types fixed fixed_reader naming order new state answer stands
      ((sent, retries, told), same) =
      subst (λ (it : Reply T). IsMatched degrades decides reader_degrades types choices naming order old state
      (command.Retry number nanoseconds) it stands new) (sym told)
      (retry_by types naming order old new state stands number nanoseconds grown same sent
      (port_under (value_at old.made.publishers number)) refl retries)
