-- Publishers of a hub bring their connections up to date.
use Rattle.std.proofs.Common.{◌≡◌, ℕ, List, Option, None, Some, Result, refl, sym, ap, subst, inl, inr, ◌∙◌}
use Rattle.std.specs.Prelude.{MatchOption}
use Rattle.iox_command.specs.DomainValues.declared.backpressure.BackpressureDecision.{BackpressureDecision}
use Rattle.iox_command.specs.DomainValues.declared.backpressure.BackpressureInfo.{BackpressureInfo}
use Rattle.iox_command.specs.DomainValues.declared.connection_failure.ConnectionFailure.{ConnectionFailure}
use Rattle.iox_command.specs.DomainValues.declared.degradation.DegradationAction.{DegradationAction}
use Rattle.iox_command.specs.DomainValues.declared.degradation.DegradationCause.{DegradationCause}
use Rattle.iox_command.specs.DomainValues.declared.degradation.DegradationInfo.{DegradationInfo}
use Rattle.iox_command.specs.NegotiateBase.DescribeBase.declared.message_type.MessageTypeDetails.{MessageTypeDetails}
use Rattle.iox_command.specs.declared.command.Command.TheVariants as command
use Rattle.iox_command.specs.declared.port.PortNumber.TheVariants as port
use Rattle.iox_command.specs.declared.refusal.Refusal.TheVariants as refusal
use Rattle.iox_command.specs.declared.reply.Reply.{Reply}
use Rattle.iox_command.specs.declared.reply.Reply.TheVariants as reply
use Rattle.iox_container.specs.NumberTable.{value_at}
use Rattle.iox_delivery.specs.declared.port_id.PortId.{PortId}
use Rattle.iox_domain.specs.AtHomes.{AtDomain}
use Rattle.iox_domain.specs.Steps.{UpdatesBy}
use Rattle.iox_domain.specs.declared.ports.service_ports.ServicePorts.{ServicePorts}
use Rattle.iox_domain_machine.specs.Laws.{Matches}
use Rattle.iox_domain_machine.specs.Naming.{Naming, with_name}
use Rattle.iox_domain_machine.specs.Services.{those_of}
use Rattle.iox_domain_machine.specs.SubscriberUpdateLaws.{updated_or_skipped}
use Rattle.iox_domain_machine.proofs.AloneDid.{by_option}
use Rattle.iox_domain_machine.proofs.Updating.{publisher_update_matches}
use Rattle.iox_hub_base.specs.AsHome.{hub_ports, with_hub_ports}
use Rattle.iox_hub_base.specs.declared.hub.Hub.{Hub}
use Rattle.iox_hub_commands.specs.Calls.{AtPort, Follows}
use Rattle.iox_hub_commands.specs.CommandSteps.{publisher_may_degrade}
use Rattle.iox_hub_commands.specs.Grown.{HaveGrown}
use Rattle.iox_hub_commands.specs.Replies.{updated_reply}
use Rattle.iox_hub_commands.specs.Tables.{port_under}
use Rattle.iox_hub_commands.specs.declared.numbered_hub.NumberedHub.{NumberedHub}
use Rattle.iox_hub_machine.specs.Laws.{answered_with}
use Rattle.iox_hub_machine.specs.ReceiveLaws.{PublisherUpdateIsSimulated}
use Rattle.iox_hub_machine.specs.Standing.{PortsStandFor, lent_in, held_in}
use Rattle.iox_hub_machine.proofs.Absent.{no_publisher_goes}
use Rattle.iox_hub_machine.proofs.Amidst.{at_one_skips}
use Rattle.iox_hub_machine.proofs.Attended.{updated_so, updated_counts}
use Rattle.iox_hub_machine.proofs.Attending.{standing_found}
use Rattle.iox_hub_machine.proofs.Deciders.{degrades_as}
use Rattle.iox_hub_machine.proofs.Deciding.{DecideAlike, DecidesAlike, same_ports, at_one_decides}
use Rattle.iox_hub_machine.proofs.Going.{same_stands}
use Rattle.iox_hub_machine.proofs.Known.{goes_by_number}
use Rattle.iox_hub_machine.proofs.Moving.{IsMatched}
use Rattle.iox_hub_machine.proofs.Renaming.{ports_alone_named}
use Rattle.iox_hub_machine.proofs.Rooming.{roomy_there}
use Rattle.iox_hub_machine.proofs.Turning.{turned_none, updates_alike}
use Rattle.iox_machine.specs.Choices.{Choices}
use Rattle.iox_machine.specs.Ports.{publisher_in}
use Rattle.iox_machine.specs.PublisherUpdate.{UpdatesFirst}
use Rattle.iox_machine.proofs.Shorthands.{IsSkipped}
use Rattle.iox_machine.specs.Service.{Service, Publisher}
use Rattle.iox_machine.specs.State.{State, AtOne}
use Rattle.iox_machine.specs.Table.{at}

-- the machine's publisher brings its connections up to date
abbrev PublisherUpdates : {T : Type 0} → Choices T → ℕ → Publisher T → Service T → Reply T → Service T → Type 0
PublisherUpdates choices number
    = UpdatesFirst choices number refusal.Connection (λ one service answered after. (answered ≡ reply.Done) × (after ≡ service))

abbrev UpdatesAt : {T : Type 0} → Choices T → ℕ → Publisher T → Service T → Reply T → Service T → Type 0
UpdatesAt choices number one service answered after =
    MatchOption one.blocked (PublisherUpdates choices number one service answered after) (λ send. IsSkipped service answered after)

updating_alike : {T : Type 0} (choices : Choices T) (number : ℕ) (state new : State T) (answer : Reply T)
    → AtOne (publisher_in number) (UpdatesAt choices number) state answer new → DecideAlike state.services new.services
updating_alike {T} choices number state new answer did =
    at_one_decides (publisher_in number) (UpdatesAt choices number) state new answer
    (λ one service after is does.
    elim (by_option one.blocked (PublisherUpdates choices number one service answer after) (λ send. IsSkipped service answer after) does) [
      | inl free ↦ updates_alike choices number refusal.Connection (λ other mid answered later. (answered ≡ reply.Done) × (later ≡ mid))
          one service
          service after answer
          (turned_none number service one (standing_found (λ (it : Publisher T). it.stands) (at number service.publishers) one is))
          (λ other mid turned done. subst (DecidesAlike service) (sym done.1) turned.alike) free.1
      | inr blocked ↦ same_ports service after (ap (λ (it : Service T). it.publishers) blocked.2.1)
          (ap (λ (it : Service T). it.subscribers) blocked.2.1)
    ]) did

module _ {T U B D : Type 0} (choices : Choices T) (is_default_header : U → Type 0)
    (degrades : B → DegradationCause → DegradationInfo → DegradationAction → Type 0)
    (decides : B → BackpressureInfo → BackpressureDecision → Type 0)
    (reader_degrades : D → DegradationCause → DegradationInfo → DegradationAction → Type 0) where
  module _ (types : MessageTypeDetails) (naming : ℕ → Naming) (order : List (ℕ × ServicePorts T U)) (old new : NumberedHub T U B D)
      (state : State T) (stands : PortsStandFor choices degrades decides reader_degrades naming order old state) (number : ℕ)
      (grown : HaveGrown old.hub.services.domains) (same : new ≡ record old { hub = new.hub }) where
    update_by : (outcome : Option (Result (Unit {0}) ConnectionFailure)) (found : Option PortId)
        → port_under (value_at old.made.publishers number) ≡ found
        → AtPort (Follows hub_ports with_hub_ports (publisher_may_degrade degrades)) found old.hub outcome new.hub
        → IsMatched degrades decides reader_degrades types choices naming order old state (command.Update (port.Publisher number))
        (updated_reply outcome) stands new
    update_by outcome None none (nothing, changes) =
        subst (λ (it : Option (Result (Unit {0}) ConnectionFailure)). IsMatched degrades decides reader_degrades types choices naming
        order old state (command.Update (port.Publisher number)) (updated_reply it) stands new) (sym nothing) (
          naming,
          order,
          state.services,
          refl,
          at_one_skips (publisher_in number) (UpdatesAt choices number) state
              (no_publisher_goes choices degrades decides reader_degrades naming order old state stands number none),
          same_stands choices degrades decides reader_degrades naming order old state stands number new changes
              (ap (λ (it : NumberedHub T U B D). it.made) same),
        )
    update_by outcome (Some it) there updates =
        let goes = goes_by_number choices degrades decides reader_degrades naming order old state stands number it there in
        let ports = goes.ports in
        let found = goes.found in
        let id = it.domain in
        let names : Naming = naming id.service in
        let lent = those_of id.service (lent_in old.made) in
        let held = those_of id.service (held_in old.made) in
        let buffer = old.hub.expired_connection_buffer in
        let may = publisher_may_degrade degrades id it.number old.hub in
        let (after, does, changes) = subst (λ (there : Option (ServicePorts T U)). AtDomain
        (λ (one : ServicePorts T U). with_hub_ports id one old.hub) (UpdatesBy may it.number) there old.hub outcome new.hub) found updates
        in
        let roomy = roomy_there id ports old.hub grown found in
        ports_alone_named degrades decides reader_degrades types choices naming order old new state
        (command.Update (port.Publisher number)) (updated_reply outcome) id ports after stands found
        (same ∙ ap (λ (hub : Hub T U B D). record old { hub = hub }) changes) (updated_counts T outcome state.made)
        (it.number, goes.named, λ zero. goes.some (goes.named ∙ zero))
        (λ first service last are stood.
        let (reader, matched) = publisher_update_matches T U choices may types buffer names lent held ports after service state it.number
        outcome stood roomy.tied roomy.allowed goes.some
        (degrades_as choices degrades decides reader_degrades naming order old state stands id ports found first service last are stood
        it.number)
        does in
        let later : Naming = record names { reader = with_name it.number reader names.reader } in (
          later,
          refl,
          refl,
          subst (λ (told : Reply T). Matches T U choices types buffer (command.Update (port.Publisher number)) told state service later
              lent held after) (updated_so outcome)
              (subst (λ (name : ℕ). Matches T U choices types buffer (command.Update (port.Publisher name)) (updated_or_skipped outcome)
              state service later lent held after) goes.named matched),
        ))
        (λ services did. updating_alike choices number state (answered_with (updated_reply outcome) services state)
        (updated_reply outcome) did)

  pub publisher_update_simulated : PublisherUpdateIsSimulated choices is_default_header degrades decides reader_degrades
  publisher_update_simulated number old grown payload user_header types fixed fixed_reader naming order new state answer stands
      ((outcome, updates, told), same) =
      subst (λ (it : Reply T). IsMatched degrades decides reader_degrades types choices naming order old state
      (command.Update (port.Publisher number)) it stands new) (sym told)
      (update_by types naming order old new state stands number grown same outcome (port_under (value_at old.made.publishers number)) refl
      updates)
