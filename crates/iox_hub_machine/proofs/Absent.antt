-- Ports of a hub that go by numbers, or by none.
use Rattle.std.proofs.Common.{◌≡◌, ◌<◌, ℕ, Bool, true, false, cond, List, [], ◌∷◌, Option, None, Some, refl, sym, ap, ◌∙◌}
use Rattle.std.proofs.Common.{true≢false, arith}
use Rattle.std.proofs.lemmas.Bool.{eq-eqb, ne_eqb}
use Rattle.std.specs.Map.{keys_of}
use Rattle.std.specs.Prelude.{find, is_some, option_and_then, ◌==◌}
use Rattle.iox_command.specs.DomainValues.declared.backpressure.BackpressureDecision.{BackpressureDecision}
use Rattle.iox_command.specs.DomainValues.declared.backpressure.BackpressureInfo.{BackpressureInfo}
use Rattle.iox_command.specs.DomainValues.declared.degradation.DegradationAction.{DegradationAction}
use Rattle.iox_command.specs.DomainValues.declared.degradation.DegradationCause.{DegradationCause}
use Rattle.iox_command.specs.DomainValues.declared.degradation.DegradationInfo.{DegradationInfo}
use Rattle.iox_container.specs.NumberTable.{value_at}
use Rattle.iox_delivery.specs.Holding.{publisher_stands}
use Rattle.iox_domain.specs.Tries.{how_often}
use Rattle.iox_domain.specs.declared.domain_id.DomainId.{DomainId}
use Rattle.iox_domain.specs.declared.ports.service_ports.ServicePorts.{ServicePorts}
use Rattle.iox_domain_machine.proofs.Found.{at_head, at_behind}
use Rattle.iox_domain_machine.specs.Naming.{Naming}
use Rattle.iox_domain_machine.specs.Services.{ComesOnce, StandInTurn}
use Rattle.iox_hub_base.specs.AsHome.{hub_ports}
use Rattle.iox_hub_base.specs.HomeLaws.{at_hub}
use Rattle.iox_hub_base.specs.ServicesAsHome.{ports_if}
use Rattle.iox_hub_commands.specs.Tables.{port_under}
use Rattle.iox_hub_commands.specs.declared.numbered_hub.NumberedHub.{NumberedHub}
use Rattle.iox_hub_machine.specs.Standing.{PortsStandFor, lent_in, held_in}
use Rattle.iox_hub_machine.proofs.Parting.{ports_under}
use Rattle.iox_hub_machine.proofs.Placed.{publisher_up, publisher_as}
use Rattle.iox_machine.specs.Choices.{Choices}
use Rattle.iox_machine.specs.Ports.{publisher_in}
use Rattle.iox_machine.specs.Service.{Service, Publisher}
use Rattle.iox_machine.specs.State.{State}
use Rattle.iox_machine.specs.Table.{at}

abbrev ticked : ℕ → ℕ → ℕ
ticked number key = cond (number == key) 1 0

ticks : (number : ℕ) → ticked number number ≡ 1
ticks number = ap (λ (b : Bool). cond b 1 0) (eq-eqb number number refl)

-- whether a publisher stands that is found
found_up : {T : Type 0} (found : Option (Publisher T))
    → is_some (option_and_then (λ (publisher : Publisher T). cond publisher.stands (Some publisher) None) found) ≡ true
    → (is_some found ≡ true) × (publisher_up found ≡ true)
found_up None is = absurd (true≢false (sym is))
found_up (Some publisher) is = (refl, by publisher.stands is)
  where
    by : (b : Bool) → is_some (cond b (Some publisher) None) ≡ true → b ≡ true
    by true is = refl
    by false is = absurd (true≢false (sym is))

pub is_not : (b : Bool) → (b ≡ true → ⊥) → b ≡ false
is_not true never = absurd (never refl)
is_not false never = refl

module _ {V : Type 0} (whole : List (ℕ × V)) where
  -- each number of some goes among all by what it goes by
  abbrev pub AreThere : List (ℕ × V) → Type 0
  AreThere [] = Unit {0}
  AreThere (entry ∷ table) = (at entry.0 whole ≡ Some entry.1) × AreThere table

  pub are_there : (table : List (ℕ × V)) → ComesOnce table
      → ((number : ℕ) → 0 < how_often number (keys_of table) → at number table ≡ at number whole) → AreThere table
  are_there [] once same = tt
  are_there (entry ∷ table) once same = (
    sym (same entry.0 (omega (arith, ticks entry.0))) ∙ at_head entry.0 entry table (eq-eqb entry.0 entry.0 refl),
    are_there table (λ number. omega (arith, once number))
        (λ number some. sym (at_behind number entry table (ne_eqb entry.0 number (λ is. apart number some (sym is))))
        ∙ same number (omega (arith, some))),
  )
    where
      apart : (number : ℕ) → 0 < how_often number (keys_of table) → number ≡ entry.0 → ⊥
      apart number some is = omega (arith, some, once number, ap (ticked number) (sym is), ticks number)

module _ {T U B D : Type 0} (choices : Choices T) (degrades : B → DegradationCause → DegradationInfo → DegradationAction → Type 0)
    (decides : B → BackpressureInfo → BackpressureDecision → Type 0)
    (reader_degrades : D → DegradationCause → DegradationInfo → DegradationAction → Type 0) (naming : ℕ → Naming)
    (order : List (ℕ × ServicePorts T U)) (old : NumberedHub T U B D) (state : State T)
    (stands : PortsStandFor choices degrades decides reader_degrades naming order old state)
    (number : ℕ) where
  abbrev own_id : ℕ → DomainId
  own_id service = record { hub = old.hub.services.hub; service = service }

  all_there : AreThere order order
  all_there = are_there order order stands.domains.once (λ which some. refl)

  abbrev has : Service T → Bool
  has service = is_some (publisher_in number service)

  none_up : port_under (value_at old.made.publishers number) ≡ None → (domains : List (ℕ × ServicePorts T U)) → AreThere order domains
      → (these : List (Service T))
      → StandInTurn naming (lent_in old.made) (held_in old.made) old.hub.expired_connection_buffer domains these
      → find has these ≡ None
  none_up none [] there these turn = ap (find has) turn
  none_up none (domain ∷ domains) there [] turn = absurd turn
  none_up none ((service, ports) ∷ domains) there (one ∷ these) (it, rest) =
      ap (λ (b : Bool). cond b (Some one) (find has these)) (is_not (has one) never) ∙ none_up none domains there.1 these rest
    where
      found : hub_ports (own_id service) old.hub ≡ Some ports
      found = ap ports_if (at_hub (own_id service) old.hub.services refl)
          ∙ sym (ports_under service old.hub.services.domains stands.here) ∙ sym (stands.same service) ∙ there.0

      never : has one ≡ true → ⊥
      never is =
          let up = found_up (at number one.publishers) is in
          let (port, named, some) = it.named_publishers.each number up.0 in
          let stands_there : publisher_stands port (hub_ports (own_id service) old.hub) ≡ true =
          ap (publisher_stands port) found
          ∙ publisher_as (naming service) _ _ old.hub.expired_connection_buffer ports one it port
          ∙ ap (λ (name : ℕ). publisher_up (at name one.publishers)) named ∙ up.1 in
          let goes = ap (λ (name : ℕ). port_under (value_at old.made.publishers name)) (sym named)
          ∙ stands.publishers.each (own_id service) port stands_there in
          true≢false (sym (ap is_some goes) ∙ ap is_some none)

  -- where no publisher of a hub goes by a number, none of a machine stands that does
  pub no_publisher_goes : port_under (value_at old.made.publishers number) ≡ None → find has state.services ≡ None
  no_publisher_goes none = none_up none order all_there state.services stands.domains.each
