-- What a sample reads is as short as the messages of the machine.
use Rattle.std.proofs.Common.{◌≡◌, ◌<◌, ◌++◌, ◌∷◌, [], ℕ, Bool, true, false, cond, List, length, Option, None, Some, refl, sym, ap, subst}
use Rattle.std.proofs.Common.{◌∙◌}
use Rattle.std.specs.List.{AllByRecursion}
use Rattle.std.specs.Option.{option_map, option_map_or}
use Rattle.std.specs.Prelude.{◌==◌, find}
use Rattle.iox_command.specs.DomainValues.declared.backpressure.BackpressureDecision.{BackpressureDecision}
use Rattle.iox_command.specs.DomainValues.declared.backpressure.BackpressureInfo.{BackpressureInfo}
use Rattle.iox_command.specs.DomainValues.declared.degradation.DegradationAction.{DegradationAction}
use Rattle.iox_command.specs.DomainValues.declared.degradation.DegradationCause.{DegradationCause}
use Rattle.iox_command.specs.DomainValues.declared.degradation.DegradationInfo.{DegradationInfo}
use Rattle.iox_container.specs.NumberTable.{value_at}
use Rattle.iox_delivery.specs.Holding.{message_found}
use Rattle.iox_domain.specs.DomainPorts.Messages.{Message}
use Rattle.iox_domain.specs.Reading.{sample_in}
use Rattle.iox_domain.specs.declared.domain_id.DomainId.{DomainId}
use Rattle.iox_domain.specs.declared.ports.service_ports.ServicePorts.{ServicePorts}
use Rattle.iox_domain_machine.specs.Naming.{Naming}
use Rattle.iox_domain_machine.specs.Services.{StandInTurn, those_of}
use Rattle.iox_domain_machine.specs.Standing.{StandsFor}
use Rattle.iox_domain_machine.specs.Tables.{sample_as}
use Rattle.iox_domain_machine.proofs.Found.{at_mapped, never_some, same_some}
use Rattle.iox_domain_machine.proofs.Services.{parted}
use Rattle.iox_hub_base.specs.AsHome.{hub_ports}
use Rattle.iox_hub_base.specs.ServicesAsHome.{domain_at}
use Rattle.iox_hub_commands.specs.Reading.{values_under}
use Rattle.iox_hub_commands.specs.declared.numbered_hub.NumberedHub.{NumberedHub}
use Rattle.iox_hub_commands.specs.declared.ports.made.MadeSample.{MadeSample}
use Rattle.iox_hub_machine.proofs.Going.{GoesThere, sample_goes}
use Rattle.iox_hub_machine.proofs.Housed.{some_ports, stands_here}
use Rattle.iox_hub_machine.proofs.Parting.{is_parted, order_has}
use Rattle.iox_hub_machine.specs.Standing.{PortsStandFor, held_in, held_sample, lent_in}
use Rattle.iox_machine.specs.Choices.{Choices}
use Rattle.iox_machine.specs.Message as machine
use Rattle.iox_machine.specs.RunLaws.{AllMessages}
use Rattle.iox_machine.specs.Service.{Service}
use Rattle.iox_machine.specs.State.{State}
use Rattle.iox_machine.specs.Table.{at}

-- what holds of all of a list holds of one of it, and of what goes by a number
pub among_all : {X : Type 0} (P : X → Type 0) (first : List X) (one : X) (last : List X) → AllByRecursion P (first ++ one ∷ last) → P one
among_all P [] one last all = all.0
among_all P (other ∷ first) one last all = among_all P first one last all.1

under_all : {V : Type 0} (P : V → Type 0) (number : ℕ) (one : V) (table : List (ℕ × V)) → at number table ≡ Some one
    → AllByRecursion (λ entry. P entry.1) table → P one
under_all P number one [] is all = never_some one is
under_all {V} P number one (entry ∷ table) is all =
    by (entry.0 == number) is (λ behind. under_all P number one table behind all.1)
  where
    by : (b : Bool) → option_map (λ (it : ℕ × V). it.1) (cond b (Some entry) (find (λ (it : ℕ × V). it.0 == number) table)) ≡ Some one
        → (at number table ≡ Some one → P one) → P one
    by true e behind = subst P (same_some entry.1 one e) all.0
    by false e behind = behind e

module _ {T U B D : Type 0} (choices : Choices T) (degrades : B → DegradationCause → DegradationInfo → DegradationAction → Type 0)
    (decides : B → BackpressureInfo → BackpressureDecision → Type 0)
    (reader_degrades : D → DegradationCause → DegradationInfo → DegradationAction → Type 0) (naming : ℕ → Naming)
    (order : List (ℕ × ServicePorts T U)) (old : NumberedHub T U B D) (state : State T)
    (stands : PortsStandFor choices degrades decides reader_degrades naming order old state) where
  -- the machine's service of a domain, in its place
  pub service_place : (id : DomainId) (ports : ServicePorts T U) → hub_ports id old.hub ≡ Some ports
      → (first : List (Service T)) × (service : Service T) × (last : List (Service T)) × (state.services ≡ first ++ service ∷ last)
      × StandsFor (naming id.service) (those_of id.service (lent_in old.made)) (those_of id.service (held_in old.made))
      old.hub.expired_connection_buffer ports service
  service_place id ports found =
      let (domain, is, same) = some_ports (domain_at id old.hub.services) ports found in
      let at_it = order_has order old.hub.services.domains stands.here stands.same id.service domain
      (stands_here id ports old.hub domain is) ∙ ap Some same in
      let parts = is_parted id.service ports order at_it in
      let (first, service, last, place, before, stood, behind) = parted naming (lent_in old.made) (held_in old.made)
      old.hub.expired_connection_buffer parts.before parts.behind (id.service, ports) state.services
      (subst (λ (domains : List (ℕ × ServicePorts T U)). StandInTurn naming (lent_in old.made) (held_in old.made)
      old.hub.expired_connection_buffer domains state.services) parts.now stands.domains.each) in
      (first, service, last, place, stood)

  module _ (most : ℕ) (all : AllByRecursion (AllMessages (λ publisher message. length message.values < most)) state.services) where
    read_there : (sample : ℕ) (made : MadeSample) (goes : GoesThere old made.port.domain sample (held_sample made).1 (held_in old.made))
        (values : List T) → option_map (λ (message : Message T U). message.values) (sample_in made.taken goes.ports) ≡ Some values
        → length values < most
    read_there sample made goes values is =
        subst (λ (items : List T). length items < most) (those (sample_in made.taken goes.ports) is)
        (under_all (λ (one : machine.Sample T). length one.message.values < most) sample as_held placed.1.samples
        (ap (at sample) placed.4.samples.same
        ∙ at_mapped (sample_as (naming made.port.domain.service) goes.ports) sample (those_of made.port.domain.service (held_in old.made))
        ∙ ap (option_map (sample_as (naming made.port.domain.service) goes.ports)) goes.mine)
        (among_all (AllMessages (λ publisher message. length message.values < most)) placed.0 placed.1 placed.2
        (subst (AllByRecursion (AllMessages (λ publisher message. length message.values < most))) placed.3 all)).2)
      where
        placed : (first : List (Service T)) × (service : Service T) × (last : List (Service T))
            × (state.services ≡ first ++ service ∷ last)
            × StandsFor (naming made.port.domain.service) (those_of made.port.domain.service (lent_in old.made))
            (those_of made.port.domain.service (held_in old.made)) old.hub.expired_connection_buffer goes.ports service
        placed = service_place made.port.domain goes.ports goes.found

        as_held : machine.Sample T
        as_held = sample_as (naming made.port.domain.service) goes.ports made.taken

        those : (found : Option (Message T U)) → option_map (λ (message : Message T U). message.values) found ≡ Some values
            → option_map_or (λ (message : Message T U). message.values) found [] ≡ values
        those None e = never_some values e
        those (Some message) e = same_some message.values values e

    -- what is read under a number
    pub read_is_short : (sample : ℕ) (values : List T)
        → values_under hub_ports (value_at old.made.samples sample) old.hub ≡ Some values → length values < most
    read_is_short sample values is = by (value_at old.made.samples sample) refl is
      where
        by : (found : Option MadeSample) → value_at old.made.samples sample ≡ found
            → values_under hub_ports found old.hub ≡ Some values → length values < most
        by None there e = never_some values e
        by (Some made) there e =
            let goes = sample_goes choices degrades decides reader_degrades naming order old state stands sample made there in
            read_there sample made goes values
            (sym (ap (λ (ports : Option (ServicePorts T U)). option_map (λ (message : Message T U). message.values)
            (message_found made.taken ports)) goes.found) ∙ e)
