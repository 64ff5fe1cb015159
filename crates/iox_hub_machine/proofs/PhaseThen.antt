-- A hub and a machine after one phase changed in which what the hub has stays.
use Rattle.std.proofs.Common.{◌≡◌, ℕ, ◌&&◌, Bool, true, false, cond, List, [], ◌∷◌, refl, sym, subst, ◌∙◌}
use Rattle.std.specs.List.{IsAmong}
use Rattle.iox_command.specs.DomainValues.declared.backpressure.BackpressureDecision.{BackpressureDecision}
use Rattle.iox_command.specs.DomainValues.declared.backpressure.BackpressureInfo.{BackpressureInfo}
use Rattle.iox_command.specs.DomainValues.declared.degradation.DegradationAction.{DegradationAction}
use Rattle.iox_command.specs.DomainValues.declared.degradation.DegradationCause.{DegradationCause}
use Rattle.iox_command.specs.DomainValues.declared.degradation.DegradationInfo.{DegradationInfo}
use Rattle.iox_command.specs.NegotiateBase.DescribeBase.declared.pattern.MessagingPattern.{MessagingPattern}
use Rattle.iox_command.specs.NegotiateBase.declared.request.Opened.{Opened}
use Rattle.iox_domain.specs.declared.ports.service_ports.ServicePorts.{ServicePorts}
use Rattle.iox_domain_machine.specs.Naming.{Naming}
use Rattle.iox_hub_base.specs.Open.{OpenServices}
use Rattle.iox_hub_commands.specs.AgreementLaws.{carried_by}
use Rattle.iox_hub_commands.specs.ServicesTables.{FactoryTable, parts_of, pattern_in}
use Rattle.iox_hub_commands.specs.declared.numbered_hub.NumberedHub.{NumberedHub}
use Rattle.iox_hub_commands.specs.declared.room.Pledged.{Pledged}
use Rattle.iox_hub_commands.specs.declared.services.made.MadeFactory.{MadeFactory}
use Rattle.iox_hub_machine.proofs.Entering.{KeepsHeld}
use Rattle.iox_hub_machine.proofs.Meantime.{same_numbers}
use Rattle.iox_hub_machine.proofs.PortsStay.{ports_stay}
use Rattle.iox_hub_machine.specs.Seats.{seats_in}
use Rattle.iox_hub_machine.specs.Services.{AreServedInTurn, FactoryStands, HubStandsFor}
use Rattle.iox_machine.specs.Choices.{Choices}
use Rattle.iox_machine.specs.AgreementLaws.{life_of}
use Rattle.iox_machine.specs.Phase.{Phase, same_pattern}
use Rattle.iox_machine.specs.Service.{Service}
use Rattle.iox_machine.specs.State.{State, with_phase}
use Rattle.std.specs.Prelude.{bytes_eq}
use Rattle.iox_negotiate_machine.proofs.Acted.{named}
use Rattle.iox_negotiate_machine.specs.CallLaws.{IsServiceIn}
use Rattle.iox_negotiate_machine.specs.Laws.{GoOn, HaveOwnHashes}
use Rattle.iox_negotiate_machine.specs.Standing.{TableStands}
use Rattle.iox_negotiate_table.specs.Contents.{Contents}

-- services are served where there is room for more factories
served_still : {T U B D : Type 0} (table : FactoryTable) (room : ℕ) (open_here : OpenServices T U B D)
    (domains : List (ℕ × ServicePorts T U)) (services : List (Service T)) → AreServedInTurn table open_here domains services
    → AreServedInTurn (record table { room = room }) open_here domains services
served_still table room open_here [] services is = is
served_still table room open_here (domain ∷ domains) [] is = absurd is
served_still table room open_here (domain ∷ domains) (service ∷ services) (one, rest) = (
  record {
    factory = one.factory;
    made = one.made;
    found = one.found;
    pattern = one.pattern;
    number_is = one.number_is;
    name = one.name;
    carried = one.carried;
    agreed = one.agreed;
  },
  served_still table room open_here domains services rest,
)

module _ {T U B D : Type 0} (choices : Choices T) (degrades : B → DegradationCause → DegradationInfo → DegradationAction → Type 0)
    (decides : B → BackpressureInfo → BackpressureDecision → Type 0)
    (reader_degrades : D → DegradationCause → DegradationInfo → DegradationAction → Type 0) where
  -- a hub stands still where there is room for more factories, and others are pledged
  pub roomier_stands : (names : List (List ℕ)) (taken : MessagingPattern → List ℕ → List ℕ) (naming : ℕ → Naming)
      (order : List (ℕ × ServicePorts T U)) (hub : NumberedHub T U B D) (room : ℕ) (pledged : Pledged) (state : State T)
      → HubStandsFor choices degrades decides reader_degrades names taken naming order hub state
      → HubStandsFor choices degrades decides reader_degrades names taken naming order
      (record hub { factories = record { made = record hub.factories.made { room = room } }; pledged = pledged }) state
  roomier_stands names taken naming order hub room pledged state stands = record {
    nodes = stands.nodes;
    table = stands.table;
    id = stands.id;
    factories = record {
      numbers = stands.factories.numbers;
      owners = stands.factories.owners;
      same = stands.factories.same;
      each = stands.factories.each;
      seats = stands.factories.seats;
      counts = stands.factories.counts;
      opened = stands.factories.opened;
    };
    served = served_still hub.factories.made room hub.hub.services order state.services stands.served;
    ports = ports_stay choices degrades decides reader_degrades naming order hub state hub.hub.table hub.hub.nodes state.made.nodes
        (record { made = record hub.factories.made { room = room } }) pledged state.phases stands.ports;
  }

module _ {T : Type 0} (names : List (List ℕ)) (own : HaveOwnHashes names) (pattern : MessagingPattern) (name : List ℕ)
    (asked : IsAmong names name) (taken : MessagingPattern → List ℕ → List ℕ) (state : State T) (phase : Phase) where
  abbrev pub after : State T
  after = with_phase pattern name phase state

  by_name : (P : MessagingPattern → List ℕ → Phase → Type 0) (one : MessagingPattern) (other : List ℕ)
      → P pattern name phase → P one other (state.phases one other) → P one other (after.phases one other)
  by_name P one other here there = tested (same_pattern one pattern && bytes_eq other name) refl
    where
      tested : (b : Bool) → (same_pattern one pattern && bytes_eq other name) ≡ b
          → P one other (cond b phase (state.phases one other))
      tested true is =
          let same = named names own pattern name asked taken one other is in
          subst (λ (p : MessagingPattern). P p other phase) (sym same.0) (subst (λ (n : List ℕ). P pattern n phase) (sym same.1) here)
      tested false is = there

  -- where what a node of the hub opened is of the same life
  module _ (services : (node : ℕ) (opened : Opened) → IsServiceIn node pattern name (state.phases pattern name) (taken pattern name) opened
      → (life_of phase ≡ life_of (state.phases pattern name)) × IsServiceIn node pattern name phase (taken pattern name) opened) where
    service_then : (one : MessagingPattern) (other : List ℕ) (node : ℕ) (opened : Opened)
        → IsServiceIn node one other (state.phases one other) (taken one other) opened
        → (life_of (after.phases one other) ≡ life_of (state.phases one other))
        × IsServiceIn node one other (after.phases one other) (taken one other) opened
    service_then one other node opened =
        by_name (λ p n now. IsServiceIn node p n (state.phases p n) (taken p n) opened
        → (life_of now ≡ life_of (state.phases p n)) × IsServiceIn node p n now (taken p n) opened) one other
        (services node opened) (λ is. (refl, is))

    module _ (old table : Contents) (before : TableStands names taken old state) (id : table.id ≡ old.id)
        (since : MessagingPattern → List ℕ → List ℕ) (goes_on : GoOn taken since) (stands_then : TableStands names since table after) where
      -- a factory that stood stands
      pub factory_then : (number : ℕ) (made : MadeFactory) → FactoryStands names taken old state number made
          → FactoryStands names since table after number made
      factory_then number made it =
          let one = pattern_in made in
          let other = (carried_by made).name in
          let is = service_then one other (parts_of made).0.node (parts_of made).0.service it.serves in
          record {
            asked = it.asked;
            owner = it.owner;
            storage = it.storage ∙ sym id;
            serves = subst (λ (numbers : List ℕ). IsServiceIn (parts_of made).0.node one other (after.phases one other) numbers
                (parts_of made).0.service)
                (sym (same_numbers one other old table (taken one other) (since one other) (state.phases one other)
                (after.phases one other) (before.phases one other it.asked) (stands_then.phases one other it.asked) is.0
                (goes_on one other)))
                is.1;
          }

  module _ (held : KeepsHeld pattern name (taken pattern name) (state.phases pattern name) phase) where
    seats_then : (one : MessagingPattern) (other : List ℕ) (node : ℕ)
        → seats_in node (after.phases one other) ≡ seats_in node (state.phases one other)
    seats_then one other node =
        by_name (λ p n now. seats_in node now ≡ seats_in node (state.phases p n)) one other (held.seats node) refl

    module _ {U B D : Type 0} (choices : Choices T) (degrades : B → DegradationCause → DegradationInfo → DegradationAction → Type 0)
        (decides : B → BackpressureInfo → BackpressureDecision → Type 0)
        (reader_degrades : D → DegradationCause → DegradationInfo → DegradationAction → Type 0)
        (naming : ℕ → Naming) (order : List (ℕ × ServicePorts T U)) (hub : NumberedHub T U B D) (table : Contents) (room : ℕ)
        (pledged : Pledged)
        (stands : HubStandsFor choices degrades decides reader_degrades names taken naming order hub state)
        (id : table.id ≡ hub.hub.table.id)
        (since : MessagingPattern → List ℕ → List ℕ) (goes_on : GoOn taken since) (stands_then : TableStands names since table after) where
      -- the hub stands for the machine with this phase
      pub hub_after : HubStandsFor choices degrades decides reader_degrades names since naming order
          (record hub {
            hub = record hub.hub { table = table };
            factories = record { made = record hub.factories.made { room = room } };
            pledged = pledged;
          }) after
      hub_after = record {
        nodes = stands.nodes;
        table = stands_then;
        id = stands.id ∙ sym id;
        factories = record {
          numbers = stands.factories.numbers;
          owners = stands.factories.owners;
          same = stands.factories.same;
          each = λ number made found. factory_then held.services hub.hub.table table stands.table id since goes_on stands_then number made
              (stands.factories.each number made found);
          seats = λ one other node among. seats_then one other node ∙ stands.factories.seats one other node among;
          counts = stands.factories.counts;
          opened = stands.factories.opened;
        };
        served = served_still hub.factories.made room hub.hub.services order state.services stands.served;
        ports = ports_stay choices degrades decides reader_degrades naming order hub state table hub.hub.nodes state.made.nodes
            (record { made = record hub.factories.made { room = room } }) pledged after.phases stands.ports;
      }
