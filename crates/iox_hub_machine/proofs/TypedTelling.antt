-- What is told in the domains of a hub as sends begin, where the ports of one of them are others.
use Rattle.std.proofs.Common.{◌≡◌, ◌≢◌, ◌⊎◌, [], ◌++◌, ℕ, Option, None, Some, refl, sym, ap, subst, inl, inr, ◌∙◌}
use Rattle.std.proofs.lemmas.List.Elements.{All-nil}
use Rattle.std.specs.Option.{option_map}
use Rattle.iox_command.specs.DomainValues.declared.backpressure.BackpressureDecision.{BackpressureDecision}
use Rattle.iox_command.specs.DomainValues.declared.backpressure.BackpressureInfo.{BackpressureInfo}
use Rattle.iox_command.specs.DomainValues.declared.degradation.DegradationAction.{DegradationAction}
use Rattle.iox_command.specs.DomainValues.declared.degradation.DegradationCause.{DegradationCause}
use Rattle.iox_command.specs.DomainValues.declared.degradation.DegradationCause.TheVariants.{FailedToEstablishConnection}
use Rattle.iox_command.specs.DomainValues.declared.degradation.DegradationInfo.{DegradationInfo}
use Rattle.iox_domain.specs.Ports.{no_ports}
use Rattle.iox_domain.specs.States.{ports_in, with_ports}
use Rattle.iox_domain.specs.declared.domain_id.DomainId.{DomainId}
use Rattle.iox_domain.specs.declared.ports.service_ports.ServicePorts.{ServicePorts}
use Rattle.iox_domain.specs.declared.state.DomainState.{DomainState}
use Rattle.iox_domain_machine.proofs.Found.{never_some, same_some}
use Rattle.iox_domain_machine.proofs.SentHeaders.{TellsSo, headers_go_on, others_stay}
use Rattle.iox_domain_machine.specs.SentHeaders.{TellAsSent, headed_as_sent, own_numbers}
use Rattle.iox_hub_base.specs.AsHome.{hub_changed, hub_ports, hub_state, with_hub_ports}
use Rattle.iox_hub_base.specs.HomeLaws as home
use Rattle.iox_hub_base.specs.declared.hub.Hub.{Hub}
use Rattle.iox_hub_commands.specs.CommandSteps.{publisher_may_decide, publisher_may_degrade, subscriber_may_degrade}
use Rattle.iox_hub_commands.specs.Grown.{AnyDecision, AnySlots}
use Rattle.iox_hub_machine.proofs.Housed.{one_or_other}
use Rattle.iox_hub_machine.specs.TypedTelling.{AddsTold, HubTells}

module _ {T U B D : Type 0} where
  put_ports : (after ports : ServicePorts T U) (found : Option (DomainState T U B D)) → ports_in found ≡ Some ports
      → ports_in (option_map (with_ports after) found) ≡ Some after
  put_ports after ports None is = never_some ports is
  put_ports after ports (Some state) is = refl

  same_ports : (change : DomainState T U B D → DomainState T U B D)
      → ((state : DomainState T U B D) → (change state).ports ≡ state.ports) → (found : Option (DomainState T U B D))
      → ports_in (option_map change found) ≡ ports_in found
  same_ports change keeps None = refl
  same_ports change keeps (Some state) = ap (λ (ports : ServicePorts T U). Some ports) (keeps state)

  -- the domain has the ports that were put there
  put_here : (id : DomainId) (after ports : ServicePorts T U) (hub : Hub T U B D) → hub_ports id hub ≡ Some ports
      → hub_ports id (with_hub_ports id after hub) ≡ Some after
  put_here id after ports hub there =
      ap ports_in (home.changed_found id (with_ports after) hub.services) ∙ put_ports after ports (hub_state id hub) there

  -- each domain has the ports that it had, where only changes who decides
  kept_by : (id other : DomainId) (change : DomainState T U B D → DomainState T U B D) (hub : Hub T U B D)
      → ((state : DomainState T U B D) → (change state).ports ≡ state.ports) → (id ≡ other) ⊎ (id ≢ other)
      → hub_ports other (hub_changed id change hub) ≡ hub_ports other hub
  kept_by id other change hub keeps (inl same) =
      subst (λ (it : DomainId). hub_ports it (hub_changed id change hub) ≡ hub_ports it hub) same
      (ap ports_in (home.changed_found id change hub.services) ∙ same_ports change keeps (hub_state id hub))
  kept_by id other change hub keeps (inr apart) = ap ports_in (home.others_stay id other change hub.services apart)

  -- what the call tells is added
  adds_told : (overrides : ℕ → ℕ → Type 0) (may : DegradationInfo → DegradationAction → Type 0)
      (decide : BackpressureInfo → BackpressureDecision → Type 0) (id : DomainId) (hub : Hub T U B D)
      → AddsTold overrides may decide id hub
  adds_told overrides may decide id hub call ports after sent there happens tell other found =
      subst (TellAsSent own_numbers (sent ++ headed_as_sent own_numbers call ports))
      (same_some after other (sym (put_here id after ports hub there) ∙ found))
      (headers_go_on overrides may decide own_numbers own_numbers sent call ports after happens
      (others_stay own_numbers own_numbers ports refl refl) (tell ports there))

pub hub_tells : (T U : Type 0) {O B D : Type 0} (overrides : O → ℕ → ℕ → Type 0)
    (degrades : B → DegradationCause → DegradationInfo → DegradationAction → Type 0)
    (decides : B → BackpressureInfo → BackpressureDecision → Type 0)
    (reader_degrades : D → DegradationCause → DegradationInfo → DegradationAction → Type 0)
    → HubTells T U overrides degrades decides reader_degrades
hub_tells T U overrides degrades decides reader_degrades = record {
  begins = λ id hub service sizes there ports found.
      subst (TellAsSent own_numbers []) (same_some (no_ports service sizes) ports (sym there ∙ found)) (All-nil (TellsSo own_numbers []));
  publishers = λ id number hub.
      adds_told AnySlots (publisher_may_degrade degrades id number hub) (publisher_may_decide decides id number hub) id hub;
  subscribers = λ id number hub. adds_told AnySlots (subscriber_may_degrade reader_degrades id number hub) AnyDecision id hub;
  publisher_comes = λ overriding handlers id hub.
      adds_told (overrides overriding) (degrades handlers FailedToEstablishConnection) AnyDecision id hub;
  subscriber_comes = λ handler id hub. adds_told AnySlots (reader_degrades handler FailedToEstablishConnection) AnyDecision id hub;
  others = λ id other after hub sent apart tell ports found.
      tell ports (sym (ap ports_in (home.others_stay id other (with_ports after) hub.services apart)) ∙ found);
  decided = λ id other change hub sent keeps tell ports found.
      tell ports (sym (kept_by id other change hub keeps (one_or_other id other)) ∙ found);
}
