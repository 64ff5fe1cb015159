-- Subscribers of a hub that go by numbers, or by none.
use Rattle.std.proofs.Common.{◌≡◌, ◌≢◌, ℕ, Bool, true, false, cond, List, [], ◌∷◌, Option, None, Some, refl, sym, ap, ◌∙◌, true≢false}
use Rattle.std.specs.Prelude.{find, is_some, option_and_then}
use Rattle.iox_command.specs.DomainValues.declared.backpressure.BackpressureDecision.{BackpressureDecision}
use Rattle.iox_command.specs.DomainValues.declared.backpressure.BackpressureInfo.{BackpressureInfo}
use Rattle.iox_command.specs.DomainValues.declared.degradation.DegradationAction.{DegradationAction}
use Rattle.iox_command.specs.DomainValues.declared.degradation.DegradationCause.{DegradationCause}
use Rattle.iox_command.specs.DomainValues.declared.degradation.DegradationInfo.{DegradationInfo}
use Rattle.iox_container.specs.NumberTable.{value_at}
use Rattle.iox_delivery.specs.Holding.{subscriber_stands}
use Rattle.iox_delivery.specs.declared.port_id.PortId.{PortId}
use Rattle.iox_domain.specs.declared.domain_id.DomainId.{DomainId}
use Rattle.iox_domain.specs.declared.ports.service_ports.ServicePorts.{ServicePorts}
use Rattle.iox_domain_machine.specs.Naming.{Naming}
use Rattle.iox_domain_machine.specs.Services.{StandInTurn}
use Rattle.iox_hub_base.specs.AsHome.{hub_ports}
use Rattle.iox_hub_base.specs.HomeLaws.{at_hub}
use Rattle.iox_hub_base.specs.ServicesAsHome.{ports_if}
use Rattle.iox_hub_commands.specs.declared.numbered_hub.NumberedHub.{NumberedHub}
use Rattle.iox_hub_machine.specs.Standing.{PortsStandFor, lent_in, held_in}
use Rattle.iox_hub_machine.proofs.Absent.{AreThere, are_there, is_not}
use Rattle.iox_hub_machine.proofs.Going.{some_service}
use Rattle.iox_hub_machine.proofs.Parting.{ports_under}
use Rattle.iox_hub_machine.proofs.Placed.{subscriber_up, subscriber_as}
use Rattle.iox_machine.specs.Choices.{Choices}
use Rattle.iox_machine.specs.Ports.{subscriber_in}
use Rattle.iox_machine.specs.Service.{Service, Subscriber}
use Rattle.iox_machine.specs.State.{State}
use Rattle.iox_machine.specs.Table.{at}

-- whether a subscriber stands that is found
reader_found_up : (found : Option Subscriber)
    → is_some (option_and_then (λ (subscriber : Subscriber). cond subscriber.stands (Some subscriber) None) found) ≡ true
    → (is_some found ≡ true) × (subscriber_up found ≡ true)
reader_found_up None is = absurd (true≢false (sym is))
reader_found_up (Some subscriber) is = (refl, by subscriber.stands is)
  where
    by : (b : Bool) → is_some (cond b (Some subscriber) None) ≡ true → b ≡ true
    by true is = refl
    by false is = absurd (true≢false (sym is))

up_is_some : (found : Option Subscriber) → subscriber_up found ≡ true → is_some found ≡ true
up_is_some None up = absurd (true≢false (sym up))
up_is_some (Some subscriber) up = refl

some_where : {T U : Type 0} (number : ℕ) (found : Option (ServicePorts T U)) → subscriber_stands number found ≡ true
    → (ports : ServicePorts T U) × (found ≡ Some ports)
some_where number None up = absurd (true≢false (sym up))
some_where number (Some ports) up = (ports, refl)

-- The subscriber of a hub that goes by a number: its ports are here, and have this number for its name.
pub record ReaderGoes {T U B D : Type 0} (naming : ℕ → Naming) (hub : NumberedHub T U B D) (number : ℕ) (port : PortId) : Type 0 where
  pub ports : ServicePorts T U
  pub found : hub_ports port.domain hub.hub ≡ Some ports
  pub named : (naming port.domain.service).subscriber port.number ≡ number
  pub some : (naming port.domain.service).subscriber port.number ≢ 0

module _ {T U B D : Type 0} (choices : Choices T) (degrades : B → DegradationCause → DegradationInfo → DegradationAction → Type 0)
    (decides : B → BackpressureInfo → BackpressureDecision → Type 0)
    (reader_degrades : D → DegradationCause → DegradationInfo → DegradationAction → Type 0) (naming : ℕ → Naming)
    (order : List (ℕ × ServicePorts T U)) (old : NumberedHub T U B D) (state : State T)
    (stands : PortsStandFor choices degrades decides reader_degrades naming order old state) (number : ℕ) where
  pub reader_goes : (port : PortId) → value_at old.made.subscribers number ≡ Some port → ReaderGoes naming old number port
  reader_goes port there =
      let known = stands.subscribers.known number port there in
      let (ports, found) = some_where port.number (hub_ports port.domain old.hub) known.1 in
      let names = naming port.domain.service in
      let (one, its) = some_service choices degrades decides reader_degrades naming order old state stands port.domain ports found in
      let up : subscriber_up (at (names.subscriber port.number) one.subscribers) ≡ true =
      sym (subscriber_as names _ _ old.hub.expired_connection_buffer ports one its port.number)
      ∙ sym (ap (subscriber_stands port.number) found) ∙ known.1 in record {
        ports = ports;
        found = found;
        named = known.0;
        some = (its.named_subscribers.each (names.subscriber port.number)
            (up_is_some (at (names.subscriber port.number) one.subscribers) up)).2;
      }

  abbrev own_domain : ℕ → DomainId
  own_domain service = record { hub = old.hub.services.hub; service = service }

  abbrev has : Service T → Bool
  has service = is_some (subscriber_in number service)

  none_reads : value_at old.made.subscribers number ≡ None → (domains : List (ℕ × ServicePorts T U)) → AreThere order domains
      → (these : List (Service T))
      → StandInTurn naming (lent_in old.made) (held_in old.made) old.hub.expired_connection_buffer domains these
      → find has these ≡ None
  none_reads none [] there these turn = ap (find has) turn
  none_reads none (domain ∷ domains) there [] turn = absurd turn
  none_reads none ((service, ports) ∷ domains) there (one ∷ these) (it, rest) =
      ap (λ (b : Bool). cond b (Some one) (find has these)) (is_not (has one) never) ∙ none_reads none domains there.1 these rest
    where
      found : hub_ports (own_domain service) old.hub ≡ Some ports
      found = ap ports_if (at_hub (own_domain service) old.hub.services refl)
          ∙ sym (ports_under service old.hub.services.domains stands.here) ∙ sym (stands.same service) ∙ there.0

      never : has one ≡ true → ⊥
      never is =
          let up = reader_found_up (at number one.subscribers) is in
          let (port, named, some) = it.named_subscribers.each number up.0 in
          let stands_there : subscriber_stands port (hub_ports (own_domain service) old.hub) ≡ true =
          ap (subscriber_stands port) found
          ∙ subscriber_as (naming service) _ _ old.hub.expired_connection_buffer ports one it port
          ∙ ap (λ (name : ℕ). subscriber_up (at name one.subscribers)) named ∙ up.1 in
          let goes = ap (value_at old.made.subscribers) (sym named)
          ∙ stands.subscribers.each (own_domain service) port stands_there in
          true≢false (sym (ap is_some goes) ∙ ap is_some none)

  -- where no subscriber of a hub goes by a number, none of a machine stands that does
  pub no_subscriber_goes : value_at old.made.subscribers number ≡ None → find has state.services ≡ None
  no_subscriber_goes none =
      none_reads none order (are_there order order stands.domains.once (λ which some. refl)) state.services stands.domains.each
