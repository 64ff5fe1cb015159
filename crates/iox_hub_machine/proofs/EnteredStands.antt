-- A node of a hub got a factory: the hub stands for the machine in which it has one, as a call asks for it.
use Rattle.std.proofs.Common.{◌≡◌, ◌<◌, ◌+◌, ◌^◌, ℕ, List, sym, ap, subst, ◌∙◌}
use Rattle.std.specs.List.{IsAmong}
use Rattle.iox_command.specs.DomainValues.declared.backpressure.BackpressureDecision.{BackpressureDecision}
use Rattle.iox_command.specs.DomainValues.declared.backpressure.BackpressureInfo.{BackpressureInfo}
use Rattle.iox_command.specs.DomainValues.declared.degradation.DegradationAction.{DegradationAction}
use Rattle.iox_command.specs.DomainValues.declared.degradation.DegradationCause.{DegradationCause}
use Rattle.iox_command.specs.DomainValues.declared.degradation.DegradationInfo.{DegradationInfo}
use Rattle.iox_command.specs.NegotiateBase.DescribeBase.Detail.{Detail}
use Rattle.iox_command.specs.NegotiateBase.DescribeBase.declared.pattern.MessagingPattern.{MessagingPattern}
use Rattle.iox_command.specs.NegotiateBase.DescribeBase.declared.pattern.MessagingPattern.TheVariants.{PublishSubscribe}
use Rattle.iox_command.specs.NegotiateBase.declared.request.Opened.{Opened}
use Rattle.iox_container.specs.NumberTable.{Rises, inserted}
use Rattle.iox_domain.specs.declared.ports.service_ports.ServicePorts.{ServicePorts}
use Rattle.iox_domain_machine.specs.Naming.{Naming}
use Rattle.iox_hub_commands.specs.ServicesTables.{FactoryTable}
use Rattle.iox_hub_commands.specs.declared.numbered_hub.NumberedHub.{NumberedHub}
use Rattle.iox_hub_machine.proofs.Answered.{HasEntered, StandsEntered, with_factory_in}
use Rattle.iox_hub_machine.proofs.Entered.{entered_stands}
use Rattle.iox_hub_machine.proofs.FittingThen.{FitsHere}
use Rattle.iox_hub_machine.specs.Services.{HubStandsFor}
use Rattle.iox_machine.specs.Choices.{Choices}
use Rattle.iox_machine.specs.Phase.{Own, Phase, Published, entered}
use Rattle.iox_machine.specs.State.{State}
use Rattle.iox_negotiate_machine.specs.CallLaws.{IsServiceIn}
use Rattle.iox_negotiate_machine.specs.Laws.{HaveOwnHashes}

module _ {T U B D : Type 0} (payload user_header : Detail)
    (choices : Choices T) (degrades : B → DegradationCause → DegradationInfo → DegradationAction → Type 0)
    (decides : B → BackpressureInfo → BackpressureDecision → Type 0)
    (reader_degrades : D → DegradationCause → DegradationInfo → DegradationAction → Type 0)
    (names : List (List ℕ)) (own : HaveOwnHashes names) (pattern : MessagingPattern) (name : List ℕ) (asked : IsAmong names name)
    (taken : MessagingPattern → List ℕ → List ℕ) (naming : ℕ → Naming) (order : List (ℕ × ServicePorts T U)) (node : ℕ)
    (old new : NumberedHub T U B D) (state : State T)
    (stands : HubStandsFor choices degrades decides reader_degrades names taken naming order old state)
    (rises : Rises 1 old.factories.made.entries old.factories.made.next) (few : old.factories.made.next + 1 < 2 ^ 64) where
  abbrev Entered : Phase → Opened → FactoryTable → Type 0
  Entered phase service roomier
      = HasEntered payload user_header choices degrades decides reader_degrades names own pattern name asked taken naming
      order node old new state stands phase service roomier

  fits_there : (phase : Phase) (service : Opened) (roomier : FactoryTable) → Entered phase service roomier
      → pattern ≡ PublishSubscribe → FitsHere payload user_header service.description.settings
  fits_there phase service roomier it kind =
      let so : IsServiceIn node pattern name (Published it.enters.life it.enters.agreed (entered (Own node) it.enters.nodes))
      (it.since pattern name) service =
      subst (λ (p : Phase). IsServiceIn node pattern name p (it.since pattern name) service) it.enters.is it.serves in
      subst (FitsHere payload user_header) (sym (ap (λ description. description.settings) so.2))
      (it.fits kind it.enters.life it.enters.agreed (entered (Own node) it.enters.nodes) it.enters.is)

  table_is : (phase : Phase) (service : Opened) (roomier : FactoryTable) (it : Entered phase service roomier)
      → new.factories.made ≡ inserted (record old.factories.made { room = roomier.room }) it.made
  table_is phase service roomier it =
      it.inserts ∙ ap (λ (table : FactoryTable). inserted table it.made)
      (λ i. record { entries = it.numbered.0 i; next = it.numbered.1 i; room = roomier.room })

  -- the hub stands for the machine with the factory
  pub stands_entered : StandsEntered payload user_header choices degrades decides reader_degrades names own pattern name asked taken
      naming order
      node old new state stands
  stands_entered phase service roomier it =
      let all = entered_stands choices degrades decides reader_degrades names own pattern name asked taken it.since it.goes_on naming
      order old
      state stands phase node service it.end it.id it.enters it.serves it.stands_then rises few roomier.room new.pledged it.made it.kind
      it.parts payload user_header (fits_there phase service roomier it) new.hub.services it.opens in
      let table = table_is phase service roomier it in (
        it.since,
        all.0,
        all.1,
        subst (λ (hub : NumberedHub T U B D). HubStandsFor choices degrades decides reader_degrades names it.since all.0 all.1 hub
            (with_factory_in payload user_header choices degrades decides reader_degrades names own pattern name asked taken naming order
            node old
            new state stands phase))
            (sym (λ i. record {
              hub = it.is i;
              factories = record { made = table i };
              made = it.same_made i;
              pledged = new.pledged;
            }))
            all.2,
      )
