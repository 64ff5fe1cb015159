-- A publisher of a hub that goes by a number, and the replies to a send.
use Rattle.std.proofs.Common.{◌≡◌, ◌≢◌, ℕ, true, List, Option, None, Some, Result, Ok, Err, refl, sym, ap, ◌∙◌}
use Rattle.iox_command.specs.DomainValues.declared.backpressure.BackpressureDecision.{BackpressureDecision}
use Rattle.iox_command.specs.DomainValues.declared.backpressure.BackpressureInfo.{BackpressureInfo}
use Rattle.iox_command.specs.DomainValues.declared.degradation.DegradationAction.{DegradationAction}
use Rattle.iox_command.specs.DomainValues.declared.degradation.DegradationCause.{DegradationCause}
use Rattle.iox_command.specs.DomainValues.declared.degradation.DegradationInfo.{DegradationInfo}
use Rattle.iox_command.specs.DomainValues.declared.port_error.SendError.{SendError}
use Rattle.iox_container.specs.NumberTable.{value_at}
use Rattle.iox_delivery.specs.Holding.{publisher_stands}
use Rattle.iox_delivery.specs.declared.port_id.PortId.{PortId}
use Rattle.iox_domain.specs.DomainPorts.declared.meeting.Sent.{Sent}
use Rattle.iox_domain.specs.DomainPorts.declared.meeting.Sent.TheVariants as sent
use Rattle.iox_domain.specs.declared.ports.service_ports.ServicePorts.{ServicePorts}
use Rattle.iox_domain_machine.specs.Naming.{Naming}
use Rattle.iox_domain_machine.specs.SendLaws.{sent_or_skipped}
use Rattle.iox_domain_machine.specs.Services.{those_of}
use Rattle.iox_hub_base.specs.AsHome.{hub_ports}
use Rattle.iox_hub_commands.specs.Replies.{sent_reply}
use Rattle.iox_hub_commands.specs.Tables.{port_under}
use Rattle.iox_hub_commands.specs.declared.numbered_hub.NumberedHub.{NumberedHub}
use Rattle.iox_hub_machine.specs.Standing.{PortsStandFor, lent_in, held_in}
use Rattle.iox_hub_machine.proofs.Going.{some_service}
use Rattle.iox_hub_machine.proofs.GivenUp.{some_found, is_found}
use Rattle.iox_hub_machine.proofs.Placed.{publisher_as}
use Rattle.iox_machine.specs.Choices.{Choices}
use Rattle.iox_machine.specs.State.{State, Made, counted}
use Rattle.iox_machine.specs.Table.{at}

pub sent_so : {T : Type 0} (answer : Option (Result Sent SendError)) → sent_or_skipped {T = T} answer ≡ sent_reply answer
sent_so None = refl
sent_so (Some (Ok (sent.Delivered count))) = refl
sent_so (Some (Ok sent.Blocked)) = refl
sent_so (Some (Err why)) = refl

pub sent_counts : (T : Type 0) (answer : Option (Result Sent SendError)) (made : Made) → counted {T = T} (sent_reply answer) made ≡ made
sent_counts T None made = refl
sent_counts T (Some (Ok (sent.Delivered count))) made = refl
sent_counts T (Some (Ok sent.Blocked)) made = refl
sent_counts T (Some (Err why)) made = refl

module _ {T U B D : Type 0} (choices : Choices T) (degrades : B → DegradationCause → DegradationInfo → DegradationAction → Type 0)
    (decides : B → BackpressureInfo → BackpressureDecision → Type 0)
    (reader_degrades : D → DegradationCause → DegradationInfo → DegradationAction → Type 0) (naming : ℕ → Naming)
    (order : List (ℕ × ServicePorts T U)) (old : NumberedHub T U B D) (state : State T)
    (stands : PortsStandFor choices degrades decides reader_degrades naming order old state) (number : ℕ) (port : PortId) where
  -- The ports of a publisher's domain are here, and the publisher stands; its name is the number.
  pub record GoesByNumber : Type 0 where
    pub ports : ServicePorts T U
    pub found : hub_ports port.domain old.hub ≡ Some ports
    pub up : publisher_stands port.number (Some ports) ≡ true
    pub named : (naming port.domain.service).publisher port.number ≡ number
    pub some : (naming port.domain.service).publisher port.number ≢ 0

  pub goes_by_number : port_under (value_at old.made.publishers number) ≡ Some port → GoesByNumber
  goes_by_number there =
      let known = stands.publishers.known number port there in
      let (ports, found) = some_found port.number (hub_ports port.domain old.hub) known.1 in
      let id = port.domain in
      let (one, its) = some_service choices degrades decides reader_degrades naming order old state stands id ports found in
      let standing = sym (ap (publisher_stands port.number) found) ∙ known.1 in
      let up = sym (publisher_as (naming id.service) (those_of id.service (lent_in old.made)) (those_of id.service (held_in old.made))
      old.hub.expired_connection_buffer ports one its port.number) ∙ standing in
      record {
        ports = ports;
        found = found;
        up = standing;
        named = known.0;
        some = (its.named_publishers.each ((naming id.service).publisher port.number)
            (is_found (at ((naming id.service).publisher port.number) one.publishers) up)).2;
      }
