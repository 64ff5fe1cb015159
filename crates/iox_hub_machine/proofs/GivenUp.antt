-- Sends of a hub that wait are given up.
use Rattle.std.proofs.Common.{◌≡◌, ◌≢◌, ℕ, Bool, true, false, cond, Option, None, Some, refl, sym, ap, subst, inl, inr, ◌∙◌, true≢false}
use Rattle.std.specs.Prelude.{is_some, option_and_then, List, MatchOption}
use Rattle.iox_command.specs.DomainValues.declared.backpressure.BackpressureDecision.{BackpressureDecision}
use Rattle.iox_command.specs.DomainValues.declared.backpressure.BackpressureInfo.{BackpressureInfo}
use Rattle.iox_command.specs.DomainValues.declared.degradation.DegradationAction.{DegradationAction}
use Rattle.iox_command.specs.DomainValues.declared.degradation.DegradationCause.{DegradationCause}
use Rattle.iox_command.specs.DomainValues.declared.degradation.DegradationInfo.{DegradationInfo}
use Rattle.iox_command.specs.NegotiateBase.DescribeBase.declared.message_type.MessageTypeDetails.{MessageTypeDetails}
use Rattle.iox_command.specs.declared.command.Command.TheVariants as command
use Rattle.iox_command.specs.declared.reply.Reply.{Reply}
use Rattle.iox_command.specs.declared.reply.Reply.TheVariants as reply
use Rattle.iox_container.specs.NumberTable.{value_at}
use Rattle.iox_delivery.specs.Holding.{publisher_stands}
use Rattle.iox_delivery.specs.declared.port_id.PortId.{PortId}
use Rattle.iox_domain.specs.AtHomes.{AtDomain}
use Rattle.iox_domain.specs.Steps.{GivesUpBy}
use Rattle.iox_domain.specs.declared.ports.service_ports.ServicePorts.{ServicePorts}
use Rattle.iox_domain_machine.specs.Laws.{Matches, gave_up_or_skipped}
use Rattle.iox_domain_machine.specs.Naming.{Naming}
use Rattle.iox_domain_machine.specs.Services.{those_of}
use Rattle.iox_domain_machine.proofs.AloneDid.{by_option}
use Rattle.iox_domain_machine.proofs.Found.{never_some}
use Rattle.iox_domain_machine.proofs.GivingUp.{give_up_matches}
use Rattle.iox_hub_base.specs.AsHome.{hub_ports, with_hub_ports}
use Rattle.iox_hub_base.specs.declared.hub.Hub.{Hub}
use Rattle.iox_hub_commands.specs.Calls.{AtPort, GivesUp}
use Rattle.iox_hub_commands.specs.Replies.{given_up_reply}
use Rattle.iox_hub_commands.specs.Tables.{port_under}
use Rattle.iox_hub_commands.specs.declared.numbered_hub.NumberedHub.{NumberedHub}
use Rattle.iox_hub_machine.specs.Laws.{answered_with, GiveUpIsSimulated}
use Rattle.iox_hub_machine.specs.Standing.{PortsStandFor, lent_in, held_in}
use Rattle.iox_hub_machine.proofs.Absent.{no_publisher_goes}
use Rattle.iox_hub_machine.proofs.Amidst.{at_one_skips}
use Rattle.iox_hub_machine.proofs.Deciding.{DecideAlike, DecidesAlike, same_ports, publisher_alike, at_one_decides}
use Rattle.iox_hub_machine.proofs.Going.{same_stands, some_service}
use Rattle.iox_hub_machine.proofs.Moving.{IsMatched, ports_alone}
use Rattle.iox_hub_machine.proofs.Placed.{publisher_up, publisher_as}
use Rattle.iox_machine.specs.Choices.{Choices}
use Rattle.iox_machine.specs.Ports.{publisher_in}
use Rattle.iox_machine.specs.Service.{Service, Publisher, Send}
use Rattle.iox_machine.proofs.Shorthands.{with_publisher, IsSkipped}
use Rattle.iox_machine.specs.State.{State, Made, AtOne, counted}
use Rattle.iox_machine.specs.Table.{at}

-- the machine gives a send up
abbrev Gives : {T : Type 0} → ℕ → Publisher T → Send T → Service T → Reply T → Service T → Type 0
Gives number one send service answered after =
    (answered ≡ reply.Delivered send.delivered) × (after ≡ with_publisher number (record one { blocked = None }) service)

abbrev GivesAt : {T : Type 0} → ℕ → Publisher T → Service T → Reply T → Service T → Type 0
GivesAt number one service answered after =
    MatchOption one.blocked (IsSkipped service answered after) (λ send. Gives number one send service answered after)

pub standing : {T : Type 0} (found : Option (Publisher T)) (one : Publisher T)
    → option_and_then (λ (publisher : Publisher T). cond publisher.stands (Some publisher) None) found ≡ Some one → found ≡ Some one
standing None one is = never_some one is
standing (Some publisher) one is = by publisher.stands is
  where
    by : (b : Bool) → cond b (Some publisher) None ≡ Some one → Some publisher ≡ Some one
    by true is = is
    by false is = never_some one is

giving_alike : {T : Type 0} (number : ℕ) (state new : State T) (answer : Reply T)
    → AtOne (publisher_in number) (GivesAt number) state answer new → DecideAlike state.services new.services
giving_alike {T} number state new answer did =
    at_one_decides (publisher_in number) (GivesAt number) state new answer
    (λ one service after is does.
    elim (by_option one.blocked (IsSkipped service answer after) (λ send. Gives number one send service answer after) does) [
      | inl skipped ↦ same_ports service after (ap (λ (it : Service T). it.publishers) skipped.1.1)
          (ap (λ (it : Service T). it.subscribers) skipped.1.1)
      | inr gave ↦ subst (DecidesAlike service) (sym gave.2.1)
          (publisher_alike number one (record one { blocked = None }) service (standing (at number service.publishers) one is) refl)
    ]) did

gave_so : {T : Type 0} (count : Option ℕ) → given_up_reply {T = T} count ≡ gave_up_or_skipped count
gave_so None = refl
gave_so (Some count) = refl

gave_counts : (T : Type 0) (count : Option ℕ) (made : Made) → counted {T = T} (given_up_reply count) made ≡ made
gave_counts T None made = refl
gave_counts T (Some count) made = refl

pub some_found : {T U : Type 0} (number : ℕ) (found : Option (ServicePorts T U)) → publisher_stands number found ≡ true
    → (ports : ServicePorts T U) × (found ≡ Some ports)
some_found number None up = absurd (true≢false (sym up))
some_found number (Some ports) up = (ports, refl)

pub is_found : {T : Type 0} (found : Option (Publisher T)) → publisher_up found ≡ true → is_some found ≡ true
is_found None up = absurd (true≢false (sym up))
is_found (Some publisher) up = refl

module _ {T U B D : Type 0} (choices : Choices T) (is_default_header : U → Type 0)
    (degrades : B → DegradationCause → DegradationInfo → DegradationAction → Type 0)
    (decides : B → BackpressureInfo → BackpressureDecision → Type 0)
    (reader_degrades : D → DegradationCause → DegradationInfo → DegradationAction → Type 0) where
  module _ (types : MessageTypeDetails) (naming : ℕ → Naming) (order : List (ℕ × ServicePorts T U)) (old new : NumberedHub T U B D)
      (state : State T)
      (stands : PortsStandFor choices degrades decides reader_degrades naming order old state) (number : ℕ)
      (same : new ≡ record old { hub = new.hub })
    where
      give_up_by : (count : Option ℕ) (found : Option PortId) → port_under (value_at old.made.publishers number) ≡ found
          → AtPort (GivesUp hub_ports with_hub_ports) found old.hub count new.hub
          → IsMatched degrades decides reader_degrades types choices naming order old state (command.GiveUp number)
          (given_up_reply count)
          stands
          new
      give_up_by count None none (nothing, changes) =
          subst (λ (it : Option ℕ). IsMatched degrades decides reader_degrades types choices naming order old state
          (command.GiveUp number)
          (given_up_reply it) stands new) (sym nothing) (
            naming,
            order,
            state.services,
            refl,
            at_one_skips (publisher_in number) (GivesAt number) state
                (no_publisher_goes choices degrades decides reader_degrades naming order old state stands number none),
            same_stands choices degrades decides reader_degrades naming order old state stands number new changes
                (ap (λ (it : NumberedHub T U B D). it.made) same),
          )
      give_up_by count (Some port) there gives =
          let known = stands.publishers.known number port there in
          let (ports, found) = some_found port.number (hub_ports port.domain old.hub) known.1 in
          let id = port.domain in
          let lent = those_of id.service (lent_in old.made) in
          let held = those_of id.service (held_in old.made) in
          let buffer = old.hub.expired_connection_buffer in
          let (after, does, changes) = subst (λ (it : Option (ServicePorts T U)). AtDomain
          (λ (one : ServicePorts T U). with_hub_ports id one old.hub) (GivesUpBy port.number) it old.hub count new.hub) found gives in
          let (one, its) = some_service choices degrades decides reader_degrades naming order old state stands id ports found in
          let up = sym (publisher_as (naming id.service) lent held buffer ports one its port.number)
          ∙ sym (ap (publisher_stands port.number) found) ∙ known.1 in
          let some : (naming id.service).publisher port.number ≢ 0 =
          (its.named_publishers.each ((naming id.service).publisher port.number)
          (is_found (at ((naming id.service).publisher port.number) one.publishers) up)).2 in
          ports_alone degrades decides reader_degrades types choices naming order old state (command.GiveUp number)
          (given_up_reply count)
          stands
          new id ports after found (same ∙ ap (λ (hub : Hub T U B D). record old { hub = hub }) changes) (gave_counts T count state.made)
          (port.number, known.0, λ zero. some (known.0 ∙ zero))
          (λ first service last are stood.
          subst (λ (it : Reply T). Matches T U choices types buffer (command.GiveUp number) it state service (naming id.service) lent
          held
          after) (sym (gave_so count))
          (subst (λ (name : ℕ). Matches T U choices types buffer (command.GiveUp name) (gave_up_or_skipped count) state service
          (naming id.service) lent held after) known.0
          (give_up_matches T U choices types buffer (naming id.service) lent held ports after service state port.number count stood some
          does)))
          (λ services did. giving_alike number state (answered_with (given_up_reply count) services state) (given_up_reply count) did)

  pub give_up_simulated : GiveUpIsSimulated choices is_default_header degrades decides reader_degrades
  give_up_simulated number old payload user_header types fixed fixed_reader naming order new state answer stands
      ((count, gives, told), same) =
      subst (λ (it : Reply T). IsMatched degrades decides reader_degrades types choices naming order old state (command.GiveUp number) it
      stands new) (sym told)
      (give_up_by types naming order old new state stands number same count (port_under (value_at old.made.publishers number)) refl gives)
