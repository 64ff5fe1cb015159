-- Where the service of a factory stands among those of the machine.
use Rattle.std.proofs.Common.{◌≡◌, ℕ, false, List, ◌∷◌, ◌++◌, Some, subst, ◌∙◌}
use Rattle.std.specs.List.{list_any}
use Rattle.std.specs.Map.{keys_of}
use Rattle.iox_command.specs.DomainValues.declared.backpressure.BackpressureDecision.{BackpressureDecision}
use Rattle.iox_command.specs.DomainValues.declared.backpressure.BackpressureInfo.{BackpressureInfo}
use Rattle.iox_command.specs.DomainValues.declared.degradation.DegradationAction.{DegradationAction}
use Rattle.iox_command.specs.DomainValues.declared.degradation.DegradationCause.{DegradationCause}
use Rattle.iox_command.specs.DomainValues.declared.degradation.DegradationInfo.{DegradationInfo}
use Rattle.iox_command.specs.NegotiateBase.DescribeBase.declared.pattern.MessagingPattern.{MessagingPattern}
use Rattle.iox_command.specs.NegotiateBase.DescribeBase.declared.pattern.MessagingPattern.TheVariants.{PublishSubscribe}
use Rattle.iox_command.specs.declared.command.Command.{Command}
use Rattle.iox_container.specs.NumberTable.{value_at}
use Rattle.iox_domain.specs.DomainPorts.declared.attached.Taken.{Taken}
use Rattle.iox_domain.specs.Tries.{how_often}
use Rattle.iox_domain.specs.declared.ports.service_ports.ServicePorts.{ServicePorts}
use Rattle.iox_domain_machine.specs.Naming.{Naming}
use Rattle.iox_domain_machine.specs.Services.{those_of, DomainsStandFor, StandInTurn}
use Rattle.iox_domain_machine.specs.Standing.{StandsFor}
use Rattle.iox_domain_machine.specs.Tables.{LentSlot}
use Rattle.iox_domain_machine.proofs.Services.{parted}
use Rattle.iox_hub_base.specs.Open.{OpenServices}
use Rattle.iox_hub_commands.specs.AgreementLaws.{service_of, FactoriesAgree}
use Rattle.iox_hub_commands.specs.ServicesTables.{FactoryTable, pattern_in}
use Rattle.iox_hub_commands.specs.declared.numbered_hub.NumberedHub.{NumberedHub}
use Rattle.iox_hub_commands.specs.declared.services.made.MadeFactory.{MadeFactory}
use Rattle.iox_hub_machine.proofs.ComesServed.{is_another, none_passing, served_parted}
use Rattle.iox_hub_machine.proofs.Placed.{comes_alone}
use Rattle.iox_hub_machine.specs.Services.{AreServedInTurn, HubStandsFor, IsServedBy, factory_as}
use Rattle.iox_hub_machine.specs.Standing.{held_in, lent_in}
use Rattle.iox_machine.specs.Choices.{Choices}
use Rattle.iox_machine.specs.Named.{has_named}
use Rattle.iox_machine.specs.Service.{Service}
use Rattle.iox_machine.specs.State.{State, is_service_of}

-- The service of a domain stands between those of others, which have nothing that a command names.
pub record IsPlacedAmong {T U B D : Type 0} (naming : ℕ → Naming) (lent : List (ℕ × (ℕ × LentSlot))) (held : List (ℕ × (ℕ × Taken)))
    (buffer : ℕ) (table : FactoryTable) (services : OpenServices T U B D) (before behind : List (ℕ × ServicePorts T U)) (state : State T)
    (asked : Command T) (number : ℕ) (ports : ServicePorts T U) : Type 0 where
  pub first : List (Service T)
  pub service : Service T
  pub last : List (Service T)
  pub are : state.services ≡ first ++ service ∷ last
  pub stand_before : StandInTurn naming lent held buffer before first
  pub stands : StandsFor (naming number) (those_of number lent) (those_of number held) buffer ports service
  pub stand_behind : StandInTurn naming lent held buffer behind last
  pub served_before : AreServedInTurn table services before first
  pub served : IsServedBy table services number service
  pub served_behind : AreServedInTurn table services behind last
  pub alone_before : how_often number (keys_of before) ≡ 0
  pub alone_behind : how_often number (keys_of behind) ≡ 0
  pub none_before : list_any (has_named state.factories asked) first ≡ false
  pub none_behind : list_any (has_named state.factories asked) last ≡ false

module _ {T U B D : Type 0} (choices : Choices T) (degrades : B → DegradationCause → DegradationInfo → DegradationAction → Type 0)
    (decides : B → BackpressureInfo → BackpressureDecision → Type 0)
    (reader_degrades : D → DegradationCause → DegradationInfo → DegradationAction → Type 0)
    (names : List (List ℕ)) (taken : MessagingPattern → List ℕ → List ℕ) (naming : ℕ → Naming) (order : List (ℕ × ServicePorts T U))
    (old : NumberedHub T U B D) (state : State T)
    (stands : HubStandsFor choices degrades decides reader_degrades names taken naming order old state)
    (agree : FactoriesAgree old.factories.made) (number : ℕ) (made : MadeFactory)
    (there : value_at old.factories.made number ≡ Some made) (kind : pattern_in made ≡ PublishSubscribe) (asked : Command T)
    (has : (service : Service T) → has_named state.factories asked service ≡ is_service_of (factory_as made) service)
    (ports : ServicePorts T U) (before behind : List (ℕ × ServicePorts T U))
    (ordered : order ≡ before ++ (service_of made, ports) ∷ behind) where
  abbrev lent : List (ℕ × (ℕ × LentSlot))
  lent = lent_in old.made

  abbrev held : List (ℕ × (ℕ × Taken))
  held = held_in old.made

  abbrev buffer : ℕ
  buffer = old.hub.expired_connection_buffer

  abbrev table : FactoryTable
  table = old.factories.made

  fails : (other : ℕ) (service : Service T) → (other ≡ service_of made → ⊥) → IsServedBy table old.hub.services other service
      → has_named state.factories asked service ≡ false
  fails other service off served =
      has service
      ∙ is_another choices degrades decides reader_degrades names taken naming order old state stands agree number made there kind other
      service off
      served

  pub placed_among : IsPlacedAmong naming lent held buffer table old.hub.services before behind state asked (service_of made) ports
  placed_among =
      let all = subst (λ (domains : List (ℕ × ServicePorts T U)). DomainsStandFor naming lent held buffer domains state.services) ordered
      stands.ports.domains in
      let (first, service, last, are, stand_before, it, stand_behind) =
      parted naming lent held buffer before behind (service_of made, ports) state.services all.each in
      let served = subst (λ (these : List (Service T)). AreServedInTurn table old.hub.services
      (before ++ (service_of made, ports) ∷ behind) these) are
      (subst (λ (domains : List (ℕ × ServicePorts T U)). AreServedInTurn table old.hub.services domains state.services) ordered
      stands.served) in
      let (served_before, its, served_behind) =
      served_parted table old.hub.services naming lent held buffer before behind (service_of made, ports) first service last stand_before
      served in
      let alone = comes_alone (service_of made) ports before behind (all.once (service_of made)) in
      record {
        first = first;
        service = service;
        last = last;
        are = are;
        stand_before = stand_before;
        stands = it;
        stand_behind = stand_behind;
        served_before = served_before;
        served = its;
        served_behind = served_behind;
        alone_before = alone.0;
        alone_behind = alone.1;
        none_before = none_passing table old.hub.services (has_named state.factories asked) (service_of made) fails before first alone.0
            served_before;
        none_behind = none_passing table old.hub.services (has_named state.factories asked) (service_of made) fails behind last alone.1
            served_behind;
      }
