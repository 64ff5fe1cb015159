-- A command on ports that is simulated is followed: nodes, the table of services, and factories stay.
use Rattle.std.proofs.Common.{◌≡◌, ℕ, ◌+◌, Bool, true, false, cond, List, [], ◌∷◌, Option, None, Some, Ok, refl, sym, ap, subst, ◌∙◌}
use Rattle.std.proofs.Common.{inl, inr}
use Rattle.std.specs.Map.{keys_of}
use Rattle.std.specs.Prelude.{find, is_some}
use Rattle.iox_command.specs.DomainValues.declared.backpressure.BackpressureDecision.{BackpressureDecision}
use Rattle.iox_command.specs.DomainValues.declared.backpressure.BackpressureInfo.{BackpressureInfo}
use Rattle.iox_command.specs.DomainValues.declared.degradation.DegradationAction.{DegradationAction}
use Rattle.iox_command.specs.DomainValues.declared.degradation.DegradationCause.{DegradationCause}
use Rattle.iox_command.specs.DomainValues.declared.degradation.DegradationInfo.{DegradationInfo}
use Rattle.iox_command.specs.NegotiateBase.DescribeBase.declared.pattern.MessagingPattern.{MessagingPattern}
use Rattle.iox_command.specs.NegotiateBase.DescribeSettings.declared.static_config.Settings.TheVariants as settings
use Rattle.iox_command.specs.NegotiateBase.DescribeSettings.declared.static_config.publish_subscribe.StaticConfig.{StaticConfig}
use Rattle.iox_command.specs.declared.command.Command.{Command}
use Rattle.iox_command.specs.declared.reply.Reply.{Reply}
use Rattle.iox_container.specs.NumberTable.{value_at}
use Rattle.iox_domain.specs.Tries.{how_often}
use Rattle.iox_domain.specs.declared.domain.Domain.{Domain}
use Rattle.iox_domain.specs.declared.ports.service_ports.ServicePorts.{ServicePorts}
use Rattle.iox_domain_machine.specs.Naming.{Naming}
use Rattle.iox_hub_base.specs.Hubs.{factories_of}
use Rattle.iox_hub_base.specs.Numbered.{one_value}
use Rattle.iox_hub_base.specs.Open.{OpenServices, domain_of, here_if, presence_of}
use Rattle.iox_hub_base.specs.declared.hub.Hub.{Hub}
use Rattle.iox_hub_base.specs.declared.presence.Presence.{Presence}
use Rattle.iox_hub_base.specs.declared.presence.Presence.TheVariants.{Here, Out}
use Rattle.iox_hub_commands.specs.AgreementLaws.{service_of}
use Rattle.iox_hub_commands.specs.CommandSteps as hub
use Rattle.iox_hub_commands.specs.ServicesTables.{FactoryTable}
use Rattle.iox_hub_commands.specs.declared.numbered_hub.NumberedHub.{NumberedHub}
use Rattle.iox_hub_commands.specs.declared.services.factories.Factories.{Factories}
use Rattle.iox_hub_commands.specs.Terms.{Terms}
use Rattle.iox_hub_machine.proofs.PortsRest.{port_leaves}
use Rattle.iox_hub_machine.proofs.Resting.{Rests, shown}
use Rattle.iox_hub_machine.specs.Laws.{IsSimulatedFrom, answered_with}
use Rattle.iox_hub_machine.specs.ServiceLaws.{IsFollowed}
use Rattle.iox_hub_machine.specs.Services.{AreServedInTurn, HubStandsFor, IsServedBy, factories_as, services_in}
use Rattle.iox_hub_machine.specs.Standing.{PortsStandFor}
use Rattle.iox_machine.specs.Choices.{Choices}
use Rattle.iox_machine.proofs.Ported.{IsBeside, is_of_ports, ports-move}
use Rattle.iox_machine.specs.Service.{Service}
use Rattle.iox_machine.specs.State.{Made, State, counted, replaced}
use Rattle.iox_negotiate.specs.Histories.{IsReached}
use Rattle.iox_negotiate_machine.specs.Standing.{PhaseStands}
use Rattle.iox_negotiate_table.specs.Contents.{Contents}

-- ---- the services of the machine

module _ {T : Type 0} where
  -- Services have the names and settings that they had.
  abbrev pub AreNamedAlike : List (Service T) → List (Service T) → Type 0
  AreNamedAlike [] [] = Unit {0}
  AreNamedAlike [] (after ∷ afters) = ⊥
  AreNamedAlike (service ∷ services) [] = ⊥
  AreNamedAlike (service ∷ services) (after ∷ afters) =
      (after.name ≡ service.name) × (after.settings ≡ service.settings) × AreNamedAlike services afters

  pub alike_themselves : (services : List (Service T)) → AreNamedAlike services services
  alike_themselves [] = tt
  alike_themselves (service ∷ services) = (refl, refl, alike_themselves services)

  replaced_alike : (has : Service T → Bool) (service after : Service T) (services : List (Service T)) → find has services ≡ Some service
      → after.name ≡ service.name → after.settings ≡ service.settings → AreNamedAlike services (replaced has after services)
  replaced_alike has service after [] found name config = tt
  replaced_alike has service after (other ∷ services) found name config =
      here (has other) found (λ later. replaced_alike has service after services later name config)
    where
      here : (b : Bool) → cond b (Some other) (find has services) ≡ Some service
          → (find has services ≡ Some service → AreNamedAlike services (replaced has after services))
          → AreNamedAlike (other ∷ services) (cond b (after ∷ services) (other ∷ replaced has after services))
      here true is rest =
          let same = one_value is in (
            name ∙ ap (λ (it : Service T). it.name) (sym same),
            config ∙ ap (λ (it : Service T). it.settings) (sym same),
            alike_themselves services,
          )
      here false is rest = (refl, refl, rest is)

  beside_alike : (asked : Command T) (state : State T) (answer : Reply T) (services : List (Service T))
      → IsBeside asked state answer (answered_with answer services state) → AreNamedAlike state.services services
  beside_alike asked state answer services (inl skipped) =
      subst (AreNamedAlike state.services) (sym (ap (λ (it : State T). it.services) skipped.1)) (alike_themselves state.services)
  beside_alike asked state answer services (inr (has, service, after, found, kept, others, is)) =
      subst (AreNamedAlike state.services) (sym (ap (λ (it : State T). it.services) is))
      (replaced_alike has service after state.services found kept.name kept.settings)

-- ---- the services of the hub

module _ {T U B D : Type 0} where
  -- a domain that is here was here, for the same
  was_here : (domain : Domain T U B D) (one other : Option (Presence T U B D)) → shown one ≡ shown other → here_if one ≡ Some domain
      → (before : Domain T U B D) × (here_if other ≡ Some before) × (domain.agreed ≡ before.agreed)
  was_here domain None other same is = cc
  was_here domain (Some (Out agreed)) other same is = cc
  was_here domain (Some (Here it)) None same is = cc
  was_here domain (Some (Here it)) (Some (Out agreed)) same is = absurd (differ (one_value same))
    where
      differ : ◌≡◌ {A = Option StaticConfig} (Some it.agreed) None → ⊥
      differ e = cc
  was_here domain (Some (Here it)) (Some (Here before)) same is = (
    before,
    refl,
    ap (λ (one : Domain T U B D). one.agreed) (sym (one_value is)) ∙ one_value (one_value same),
  )

  some_shown : (found : Option (Presence T U B D)) → is_some (shown found) ≡ is_some found
  some_shown None = refl
  some_shown (Some presence) = refl

  module _ (table : FactoryTable) (old new : OpenServices T U B D)
      (still : (number : ℕ) → shown (presence_of number new.domains) ≡ shown (presence_of number old.domains)) where
    served_still : (number other : ℕ) (service after : Service T) → other ≡ number → after.name ≡ service.name
        → after.settings ≡ service.settings → IsServedBy table old number service → IsServedBy table new other after
    served_still number other service after same name config is = record {
      factory = is.factory;
      made = is.made;
      found = is.found;
      pattern = is.pattern;
      number_is = is.number_is ∙ sym same;
      name = name ∙ is.name;
      carried = is.carried ∙ ap settings.PublishSubscribe (sym config);
      agreed = λ domain found.
          let (before, there, agreed) = was_here domain (presence_of number new.domains) (presence_of number old.domains) (still number)
          (ap (λ (n : ℕ). domain_of n new.domains) (sym same) ∙ found) in
          agreed ∙ is.agreed before there ∙ sym config;
    }

    in_turn : (order order_then : List (ℕ × ServicePorts T U)) (services afters : List (Service T))
        → keys_of order_then ≡ keys_of order → AreNamedAlike services afters → AreServedInTurn table old order services
        → AreServedInTurn table new order_then afters
    in_turn [] [] [] [] keys alike served = refl
    in_turn [] [] [] (after ∷ afters) keys alike served = absurd alike
    in_turn [] [] (service ∷ services) afters keys alike served = cc
    in_turn [] (then ∷ order_then) services afters keys alike served = cc
    in_turn (one ∷ order) [] services afters keys alike served = cc
    in_turn (one ∷ order) (then ∷ order_then) [] afters keys alike served = absurd served
    in_turn (one ∷ order) (then ∷ order_then) (service ∷ services) [] keys alike served = absurd alike
    in_turn (one ∷ order) (then ∷ order_then) (service ∷ services) (after ∷ afters) keys alike served =
        let head : then.0 ≡ one.0 = cc in
        let tail : keys_of order_then ≡ keys_of order = cc in (
          served_still one.0 then.0 service after head alike.0 alike.1 served.0,
          in_turn order order_then services afters tail alike.2
              served.1,
        )

-- ---- the hub

module _ {T U B D : Type 0} (choices : Choices T) (degrades : B → DegradationCause → DegradationInfo → DegradationAction → Type 0)
    (decides : B → BackpressureInfo → BackpressureDecision → Type 0)
    (reader_degrades : D → DegradationCause → DegradationInfo → DegradationAction → Type 0) where
  -- a hub of which all but the domains stayed stands, where their ports do
  pub rested : (names : List (List ℕ)) (taken : MessagingPattern → List ℕ → List ℕ) (naming naming_then : ℕ → Naming)
      (order order_then : List (ℕ × ServicePorts T U)) (old new : NumberedHub T U B D) (state : State T) (made : Made)
      (services : List (Service T))
      → HubStandsFor choices degrades decides reader_degrades names taken naming order old state
      → Rests old.hub new.hub → new.factories ≡ old.factories → made.nodes ≡ state.made.nodes → made.factories ≡ state.made.factories
      → keys_of order_then ≡ keys_of order → AreNamedAlike state.services services
      → PortsStandFor choices degrades decides reader_degrades naming_then order_then new
      (record state { made = made; services = services })
      → HubStandsFor choices degrades decides reader_degrades names taken naming_then order_then new
      (record state { made = made; services = services })
  rested names taken naming naming_then order order_then old new state made services stands rests same_factories nodes factories keys
      alike ports =
      let rest = rests.rest in
      let still = rests.services in
      let same_table : new.hub.table ≡ old.hub.table = ap (λ (it : Hub T U B D). it.table) rest in
      let same_made : new.factories.made ≡ old.factories.made = ap (λ (it : Factories). it.made) same_factories in record {
        nodes = ap (λ (it : Hub T U B D). it.nodes) rest ∙ stands.nodes ∙ sym nodes;
        table = record {
          reached = subst IsReached (sym same_table) stands.table.reached;
          phases = λ pattern name among. subst (λ (table : Contents). PhaseStands pattern name table (taken pattern name)
              (state.phases pattern name)) (sym same_table) (stands.table.phases pattern name among);
        };
        id = ap (λ (it : Hub T U B D). it.services.hub) rest ∙ stands.id ∙ sym (ap (λ (table : Contents). table.id) same_table);
        factories = record {
          numbers = ap (λ (table : FactoryTable). table.next) same_made ∙ stands.factories.numbers ∙ ap (λ (n : ℕ). n + 1) (sym factories);
          owners = ap (λ (it : Hub T U B D). it.factories) rest ∙ stands.factories.owners ∙ sym factories;
          same = stands.factories.same ∙ ap factories_as (sym same_made);
          each = λ number made_there found.
              let it = stands.factories.each number made_there
              (ap (λ (table : FactoryTable). value_at table number) (sym same_made) ∙ found) in
              record {
                asked = it.asked;
                owner = it.owner;
                storage = it.storage ∙ sym (ap (λ (table : Contents). table.id) same_table);
                serves = it.serves;
              };
          seats = stands.factories.seats;
          counts = λ service. ap (λ (hub : Hub T U B D). factories_of service hub.factory_counts) rest
              ∙ stands.factories.counts service ∙ ap (λ (table : FactoryTable). how_often service (services_in table)) (sym same_made);
          opened = λ number made_there found pattern.
              sym (some_shown (presence_of (service_of made_there) new.hub.services.domains))
              ∙ ap is_some (still (service_of made_there)) ∙ some_shown (presence_of (service_of made_there) old.hub.services.domains)
              ∙ stands.factories.opened number made_there
              (ap (λ (table : FactoryTable). value_at table number) (sym same_made) ∙ found) pattern;
        };
        served = in_turn new.factories.made old.hub.services new.hub.services still order order_then state.services services keys alike
            (subst (λ (table : FactoryTable). AreServedInTurn table old.hub.services order state.services) (sym same_made)
            stands.served);
        ports = ports;
      }

module _ {T U B D : Type 0} (terms : Terms T U B D) (choices : Choices T) where
  pub lifted : (names : List (List ℕ)) (asked : Command T) → is_of_ports asked ≡ true
      → (taken : MessagingPattern → List ℕ → List ℕ) (naming : ℕ → Naming) (order : List (ℕ × ServicePorts T U))
      (old new : NumberedHub T U B D) (state : State T) (answer : Reply T)
      → IsSimulatedFrom choices terms.is_default_header terms.degrades terms.decides terms.reader_degrades old asked
      → HubStandsFor choices terms.degrades terms.decides terms.reader_degrades names taken naming order old state
      → hub.Step (record terms { is_default = choices.is_default }) asked old (Ok answer) new
      → IsFollowed terms choices names asked old new state answer
  lifted names asked is taken naming order old new state answer simulated stands step =
      let (naming_then, order_then, services, keys, did, ports) = simulated terms.payload terms.user_header terms.types terms.fixed
      terms.fixed_reader naming order new state answer stands.ports step in
      let leaves = port_leaves (record terms { is_default = choices.is_default }) old new answer asked is step in
      let after : State T = answered_with answer services state in record {
        taken = taken;
        naming = naming_then;
        order = order_then;
        after = after;
        step = did;
        stands = rested choices terms.degrades terms.decides terms.reader_degrades names taken naming naming_then order order_then old new
            state (counted answer state.made) services stands leaves.hub leaves.factories (leaves.told.nodes state.made)
            (leaves.told.factories state.made) keys
            (beside_alike asked state answer services
            (ports-move terms.types choices old.hub.expired_connection_buffer asked state answer after is did)) ports;
      }
