-- The ports of a hub in which a new domain is here: its service is the last of the machine, and nobody uses it yet.
use Rattle.std.proofs.Common.{◌≡◌, ◌≢◌, ◌≤◌, ◌+◌, ℕ, Bool, true, false, cond, List, [], ◌∷◌, ◌++◌, Option, None, Some, refl, sym, ap}
use Rattle.std.proofs.Common.{subst, ◌∙◌, arith}
use Rattle.std.proofs.Math.Logic.{⊎_elim}
use Rattle.std.proofs.lemmas.Bool.{eq-eqb, ne_eqb}
use Rattle.std.proofs.lemmas.Bool.Decides.{eqb_tells}
use Rattle.std.specs.Map.{keys_of}
use Rattle.std.specs.Option.{option_map}
use Rattle.iox_command.specs.DomainValues.declared.backpressure.BackpressureDecision.{BackpressureDecision}
use Rattle.iox_command.specs.DomainValues.declared.backpressure.BackpressureInfo.{BackpressureInfo}
use Rattle.iox_command.specs.DomainValues.declared.degradation.DegradationAction.{DegradationAction}
use Rattle.iox_command.specs.DomainValues.declared.degradation.DegradationCause.{DegradationCause}
use Rattle.iox_command.specs.DomainValues.declared.degradation.DegradationInfo.{DegradationInfo}
use Rattle.iox_command.specs.NegotiateBase.DescribeBase.declared.pattern.MessagingPattern.{MessagingPattern}
use Rattle.iox_command.specs.NegotiateBase.DescribeSettings.declared.static_config.publish_subscribe.StaticConfig.{StaticConfig}
use Rattle.iox_container.specs.NumberTable.{value_at}
use Rattle.iox_delivery.specs.Domain.Handling.{kept_degrades, kept_decides}
use Rattle.iox_delivery.specs.Holding.{publisher_stands, subscriber_stands}
use Rattle.iox_domain.proofs.Keys.{adds, adds_same, adds_other}
use Rattle.iox_domain.specs.DomainPorts.declared.attached.Taken.{Taken}
use Rattle.iox_domain.specs.Ports.{no_ports}
use Rattle.iox_domain.specs.Sizes.{sizes}
use Rattle.iox_domain.specs.Tries.{how_often}
use Rattle.iox_domain.specs.declared.domain.Domain.{Domain}
use Rattle.iox_domain.specs.declared.domain_id.DomainId.{DomainId}
use Rattle.iox_domain.specs.declared.ports.service_ports.ServicePorts.{ServicePorts}
use Rattle.iox_domain_machine.proofs.Beginning.{new_stands}
use Rattle.iox_domain_machine.proofs.ComesTables.{at_end_other}
use Rattle.iox_domain_machine.proofs.Found.{at_head, at_behind, never_some, same_some}
use Rattle.iox_domain_machine.proofs.LendingTables.{not_there}
use Rattle.iox_domain_machine.proofs.TableEnds.{at_end}
use Rattle.iox_domain_machine.specs.Naming.{Naming, nameless, with_name}
use Rattle.iox_domain_machine.specs.Services.{those_of, AreNamedApart, ComesOnce, StandInTurn}
use Rattle.iox_domain_machine.specs.Standing.{StandsFor}
use Rattle.iox_domain_machine.specs.Tables.{LentSlot}
use Rattle.iox_hub_base.specs.Open.{OpenServices, here_if}
use Rattle.iox_hub_base.specs.ServicesAsHome.{ports_if, publisher_handlers_in, subscriber_handler_in}
use Rattle.iox_hub_base.specs.ServicesOpening.{is_open}
use Rattle.iox_hub_base.specs.declared.presence.Presence.{Presence}
use Rattle.iox_hub_commands.specs.Tables.{port_under}
use Rattle.iox_hub_commands.specs.declared.numbered_hub.NumberedHub.{NumberedHub}
use Rattle.iox_hub_commands.specs.declared.ports.made.MadeLoan.{MadeLoan}
use Rattle.iox_hub_commands.specs.declared.ports.made.MadeSample.{MadeSample}
use Rattle.iox_hub_commands.specs.declared.room.Pledged.{Pledged}
use Rattle.iox_hub_commands.specs.declared.services.factories.Factories.{Factories}
use Rattle.iox_hub_machine.proofs.Handled.{handled_on, reader_handled_on}
use Rattle.iox_hub_machine.proofs.DomainMore.{come_here, grown, here_still, new_there, none_open, not_new, others_there}
use Rattle.iox_hub_machine.proofs.DomainMore.{publisher_elsewhere, publisher_here, same_elsewhere, subscriber_elsewhere, subscriber_here}
use Rattle.iox_hub_machine.proofs.Numbered.{goes_so}
use Rattle.iox_hub_machine.proofs.Parting.{ports_under}
use Rattle.iox_hub_machine.proofs.TableMore.{among_end, none_of}
use Rattle.iox_hub_machine.specs.Ports.{among, ports_here}
use Rattle.iox_hub_machine.specs.Standing.{PortsStandFor, PublisherIsHandled, held_in, held_sample, lent_in, lent_slot}
use Rattle.iox_hub_machine.specs.Standing.{SubscriberIsHandled, publisher_is_up, subscriber_is_up}
use Rattle.iox_machine.specs.Choices.{Choices}
use Rattle.iox_machine.specs.Phase.{Phase}
use Rattle.iox_machine.specs.Service.{Publisher, Service, Subscriber, new_service}
use Rattle.iox_machine.specs.State.{Factory, State}
use Rattle.iox_machine.specs.Table.{at}
use Rattle.iox_negotiate_table.specs.Contents.{Contents}

-- one number more stands once more
pub often_more : {V : Type 0} (other number : ℕ) (v : V) (table : List (ℕ × V))
    → how_often other (keys_of (table ++ (number, v) ∷ [])) ≡ how_often other (keys_of table) + adds other number
often_more other number v [] = omega arith
often_more other number v (entry ∷ table) = omega (arith, often_more other number v table)

module _ {T U B D : Type 0} (choices : Choices T) (degrades : B → DegradationCause → DegradationInfo → DegradationAction → Type 0)
    (decides : B → BackpressureInfo → BackpressureDecision → Type 0)
    (reader_degrades : D → DegradationCause → DegradationInfo → DegradationAction → Type 0) (naming : ℕ → Naming)
    (order : List (ℕ × ServicePorts T U)) (hub : NumberedHub T U B D) (state : State T)
    (stands : PortsStandFor choices degrades decides reader_degrades naming order hub state) where
  module _ (number : ℕ) (domain : Domain T U B D) (name : List ℕ) (agreed : StaticConfig)
      (closed : is_open number hub.hub.services ≡ false)
      (blank : domain.state.ports ≡ no_ports number (sizes hub.hub.expired_connection_buffer domain.agreed))
      (is_agreed : domain.agreed ≡ agreed) where
    -- the services of the hub then
    abbrev pub services_then : OpenServices T U B D
    services_then = grown number domain hub.hub.services closed

    -- nothing of the new one has a name
    abbrev pub naming_then : ℕ → Naming
    naming_then = with_name number nameless naming

    -- it is the last in their order
    abbrev pub order_then : List (ℕ × ServicePorts T U)
    order_then = order ++ (number, domain.state.ports) ∷ []

    abbrev pub hub_then : NumberedHub T U B D
    hub_then = record hub { hub = record hub.hub { services = services_then } }

    abbrev pub state_then : State T
    state_then = record state { services = state.services ++ new_service name agreed ∷ [] }

    abbrev buffer : ℕ
    buffer = hub.hub.expired_connection_buffer

    -- ---- names

    named_new : naming_then number ≡ nameless
    named_new = ap (λ (b : Bool). cond b nameless (naming number)) (eq-eqb number number refl)

    named_so : (other : ℕ) → other ≢ number → naming_then other ≡ naming other
    named_so other off = ap (λ (b : Bool). cond b nameless (naming other)) (ne_eqb other number off)

    apart_then : (f : Naming → ℕ → ℕ) → ((port : ℕ) → f nameless port ≡ 0) → AreNamedApart (λ which. f (naming which))
        → AreNamedApart (λ which. f (naming_then which))
    apart_then f none apart one other port another some same = ⊎_elim
        (λ is. absurd (some (ap (λ (n : Naming). f n port) (ap naming_then is.1 ∙ named_new) ∙ none port)))
        (λ off. ⊎_elim
        (λ is. absurd (some (same ∙ ap (λ (n : Naming). f n another) (ap naming_then is.1 ∙ named_new) ∙ none another)))
        (λ away. apart one other port another
        (λ is. some (ap (λ (n : Naming). f n port) (named_so one off.1) ∙ is))
        (sym (ap (λ (n : Naming). f n port) (named_so one off.1)) ∙ same ∙ ap (λ (n : Naming). f n another) (named_so other away.1)))
        (eqb_tells other number)) (eqb_tells one number)

    within_then : (f : Naming → ℕ → ℕ) (most : ℕ) → ((port : ℕ) → f nameless port ≡ 0) → ((which port : ℕ) → f (naming which) port ≤ most)
        → (which port : ℕ) → f (naming_then which) port ≤ most
    within_then f most none within which port = ⊎_elim
        (λ is. zero (f (naming_then which) port) (ap (λ (n : Naming). f n port) (ap naming_then is.1 ∙ named_new) ∙ none port))
        (λ off. subst (λ (n : Naming). f n port ≤ most) (sym (named_so which off.1)) (within which port))
        (eqb_tells which number)
      where
        zero : (n : ℕ) → n ≡ 0 → n ≤ most
        zero n is = omega (arith, is)

    -- ---- the order

    pub not_ordered : at number order ≡ None
    not_ordered = stands.same number ∙ ports_under number hub.hub.services.domains stands.here
        ∙ ap (λ (found : Option (Presence T U B D)). ports_if (here_if found)) (none_open number domain hub.hub.services closed)

    same_new : at number order_then ≡ at number (ports_here services_then.domains)
    same_new = at_end number domain.state.ports order not_ordered
        ∙ sym (ports_under number services_then.domains (come_here number domain hub.hub.services.domains stands.here)
        ∙ ap (λ (found : Option (Presence T U B D)). ports_if (here_if found)) (new_there number domain hub.hub.services closed))

    same_other : (other : ℕ) → other ≢ number → at other order_then ≡ at other (ports_here services_then.domains)
    same_other other off = at_end_other number domain.state.ports other order off ∙ stands.same other
        ∙ ports_under other hub.hub.services.domains stands.here
        ∙ ap (λ (found : Option (Presence T U B D)). ports_if (here_if found))
        (sym (others_there number domain hub.hub.services closed other off))
        ∙ sym (ports_under other services_then.domains (come_here number domain hub.hub.services.domains stands.here))

    same_then : (other : ℕ) → at other order_then ≡ at other (ports_here services_then.domains)
    same_then other = ⊎_elim
        (λ is. subst (λ (n : ℕ). at n order_then ≡ at n (ports_here services_then.domains)) (sym is.1) same_new)
        (λ off. same_other other off.1) (eqb_tells other number)

    once_then : ComesOnce order_then
    once_then which = ⊎_elim
        (λ is. few (how_often which (keys_of order_then)) (how_often which (keys_of order)) (adds which number)
        (often_more which number domain.state.ports order)
        (ap (λ (n : ℕ). how_often n (keys_of order)) is.1 ∙ not_there number order not_ordered) (adds_same which number is.1))
        (λ off. still (how_often which (keys_of order_then)) (how_often which (keys_of order)) (adds which number)
        (often_more which number domain.state.ports order) (stands.domains.once which) (adds_other which number off.1))
        (eqb_tells which number)
      where
        few : (all before added : ℕ) → all ≡ before + added → before ≡ 0 → added ≡ 1 → all ≤ 1
        few all before added is none one = omega (arith, is, none, one)

        still : (all before added : ℕ) → all ≡ before + added → before ≤ 1 → added ≡ 0 → all ≤ 1
        still all before added is one none = omega (arith, is, none, one)

    -- ---- loans and samples

    not_lent_by : (which : ℕ) (one : ℕ × LentSlot) (found : Option MadeLoan) → value_at hub.made.loans which ≡ found
        → option_map lent_slot found ≡ Some one → one.0 ≢ number
    not_lent_by which one None is e same = never_some one e
    not_lent_by which one (Some made) is e same =
        not_new number domain hub.hub.services closed made.port.domain (stands.loans which made is)
        (ap (λ (it : ℕ × LentSlot). it.0) (same_some (lent_slot made) one e) ∙ same)

    none_lent : those_of number (lent_in hub.made) ≡ []
    none_lent = none_of number (lent_in hub.made) stands.domains.loans
        (λ which one is. not_lent_by which one (value_at hub.made.loans which) refl (sym (goes_so which lent_slot hub.made.loans) ∙ is))

    not_held_by : (which : ℕ) (one : ℕ × Taken) (found : Option MadeSample) → value_at hub.made.samples which ≡ found
        → option_map held_sample found ≡ Some one → one.0 ≢ number
    not_held_by which one None is e same = never_some one e
    not_held_by which one (Some made) is e same =
        not_new number domain hub.hub.services closed made.port.domain (stands.samples which made is).0
        (ap (λ (it : ℕ × Taken). it.0) (same_some (held_sample made) one e) ∙ same)

    none_held : those_of number (held_in hub.made) ≡ []
    none_held = none_of number (held_in hub.made) stands.domains.samples
        (λ which one is.
        not_held_by which one (value_at hub.made.samples which) refl (sym (goes_so which held_sample hub.made.samples) ∙ is))

    -- ---- the services in turn

    new_one : StandsFor (naming_then number) (those_of number (lent_in hub.made)) (those_of number (held_in hub.made)) buffer
        domain.state.ports (new_service name agreed)
    new_one =
        subst (λ (n : Naming). StandsFor n (those_of number (lent_in hub.made)) (those_of number (held_in hub.made)) buffer
        domain.state.ports (new_service name agreed)) (sym named_new)
        (subst (λ (lent : List (ℕ × LentSlot)). StandsFor nameless lent (those_of number (held_in hub.made)) buffer domain.state.ports
        (new_service name agreed)) (sym none_lent)
        (subst (λ (held : List (ℕ × Taken)). StandsFor nameless [] held buffer domain.state.ports (new_service name agreed))
        (sym none_held)
        (subst (λ (ports : ServicePorts T U). StandsFor nameless [] [] buffer ports (new_service name agreed))
        (sym (blank ∙ ap (λ (it : StaticConfig). no_ports number (sizes buffer it)) is_agreed))
        (new_stands T U buffer number name agreed))))

    in_turn : (domains : List (ℕ × ServicePorts T U)) (services : List (Service T)) → at number domains ≡ None
        → StandInTurn naming (lent_in hub.made) (held_in hub.made) buffer domains services
        → StandInTurn naming_then (lent_in hub.made) (held_in hub.made) buffer (domains ++ (number, domain.state.ports) ∷ [])
        (services ++ new_service name agreed ∷ [])
    in_turn [] services none turn =
        subst (λ (l : List (Service T)). StandInTurn naming_then (lent_in hub.made) (held_in hub.made) buffer
        ((number, domain.state.ports) ∷ []) (l ++ new_service name agreed ∷ [])) (sym turn) (new_one, refl)
    in_turn (one ∷ domains) [] none turn = absurd turn
    in_turn (one ∷ domains) (service ∷ services) none (it, rest) = ⊎_elim
        (λ same. never_some one.1 (sym none ∙ at_head number one domains same.0))
        (λ off. (
          subst (λ (n : Naming). StandsFor n (those_of one.0 (lent_in hub.made)) (those_of one.0 (held_in hub.made)) buffer one.1 service)
              (sym (named_so one.0 off.1)) it,
          in_turn domains services (sym (at_behind number one domains off.0) ∙ none) rest,
        )) (eqb_tells one.0 number)

    -- ---- who stands, and who decides

    publisher_off : (id : DomainId) (which : ℕ) → publisher_is_up hub_then.hub id which ≡ true → id.service ≢ number
    publisher_off id which up = publisher_elsewhere number domain hub.hub.services closed buffer blank id which up

    publisher_was : (id : DomainId) (which : ℕ) → publisher_is_up hub_then.hub id which ≡ true
        → publisher_is_up hub.hub id which ≡ true
    publisher_was id which up =
        sym (ap (λ (found : Option (Domain T U B D)). publisher_stands which (ports_if found))
        (same_elsewhere number domain hub.hub.services closed id (publisher_off id which up))) ∙ up

    publisher_still : (id : DomainId) (which : ℕ) → publisher_is_up hub.hub id which ≡ true
        → (id.service ≢ number) × (publisher_is_up hub_then.hub id which ≡ true)
    publisher_still id which up =
        let off = not_new number domain hub.hub.services closed id (publisher_here which id hub.hub.services up) in (
          off,
          ap (λ (found : Option (Domain T U B D)). publisher_stands which (ports_if found))
              (same_elsewhere number domain hub.hub.services closed id off) ∙ up,
        )

    subscriber_off : (id : DomainId) (which : ℕ) → subscriber_is_up hub_then.hub id which ≡ true → id.service ≢ number
    subscriber_off id which up = subscriber_elsewhere number domain hub.hub.services closed buffer blank id which up

    subscriber_was : (id : DomainId) (which : ℕ) → subscriber_is_up hub_then.hub id which ≡ true
        → subscriber_is_up hub.hub id which ≡ true
    subscriber_was id which up =
        sym (ap (λ (found : Option (Domain T U B D)). subscriber_stands which (ports_if found))
        (same_elsewhere number domain hub.hub.services closed id (subscriber_off id which up))) ∙ up

    subscriber_still : (id : DomainId) (which : ℕ) → subscriber_is_up hub.hub id which ≡ true
        → (id.service ≢ number) × (subscriber_is_up hub_then.hub id which ≡ true)
    subscriber_still id which up =
        let off = not_new number domain hub.hub.services closed id (subscriber_here which id hub.hub.services up) in (
          off,
          ap (λ (found : Option (Domain T U B D)). subscriber_stands which (ports_if found))
              (same_elsewhere number domain hub.hub.services closed id off) ∙ up,
        )

    publisher_handled : (id : DomainId) (which : ℕ) (publisher : Publisher T) → publisher_is_up hub_then.hub id which ≡ true
        → among (λ (service : Service T). service.publishers) ((naming_then id.service).publisher which) state_then.services
        ≡ Some publisher
        → PublisherIsHandled choices degrades decides hub_then.hub id which ((naming_then id.service).publisher which) publisher
    publisher_handled id which publisher up found =
        let off = publisher_off id which up in
        let was = stands.publishers_handled id which publisher (publisher_was id which up)
        (ap (λ (n : Naming). among (λ (service : Service T). service.publishers) (n.publisher which) state.services)
        (sym (named_so id.service off))
        ∙ sym (among_end (λ (service : Service T). service.publishers) ((naming_then id.service).publisher which) state.services
        (new_service name agreed) refl) ∙ found) in
        let same = same_elsewhere number domain hub.hub.services closed id off in
        handled_on choices hub.hub hub_then.hub id which ((naming id.service).publisher which) ((naming_then id.service).publisher which)
        (ap (λ (it : Naming). it.publisher which) (sym (named_so id.service off))) degrades decides publisher publisher refl
        (λ info decision may. subst (λ (it : Option (Domain T U B D)). kept_decides decides (publisher_handlers_in which it) info decision)
        same may)
        (λ info action may. subst (λ (it : Option (Domain T U B D)). kept_degrades degrades (publisher_handlers_in which it) info action)
        same may) was

    subscriber_handled : (id : DomainId) (which : ℕ) (subscriber : Subscriber) → subscriber_is_up hub_then.hub id which ≡ true
        → among (λ (service : Service T). service.subscribers) ((naming_then id.service).subscriber which) state_then.services
        ≡ Some subscriber
        → SubscriberIsHandled choices reader_degrades hub_then.hub id which ((naming_then id.service).subscriber which) subscriber
    subscriber_handled id which subscriber up found =
        let off = subscriber_off id which up in
        let was = stands.subscribers_handled id which subscriber (subscriber_was id which up)
        (ap (λ (n : Naming). among (λ (service : Service T). service.subscribers) (n.subscriber which) state.services)
        (sym (named_so id.service off))
        ∙ sym (among_end (λ (service : Service T). service.subscribers) ((naming_then id.service).subscriber which) state.services
        (new_service name agreed) refl) ∙ found) in
        let same = same_elsewhere number domain hub.hub.services closed id off in
        reader_handled_on choices hub.hub hub_then.hub id which ((naming id.service).subscriber which)
        ((naming_then id.service).subscriber which) (ap (λ (it : Naming). it.subscriber which) (sym (named_so id.service off)))
        reader_degrades subscriber subscriber refl
        (λ info action may. subst (λ (it : Option (Domain T U B D)). kept_degrades reader_degrades (subscriber_handler_in which it) info
        action) same may) was

    -- ---- all together

    -- the ports stand for those of a machine with the new service
    pub one_more_domain : PortsStandFor choices degrades decides reader_degrades naming_then order_then hub_then state_then
    one_more_domain = record {
      here = come_here number domain hub.hub.services.domains stands.here;
      same = same_then;
      domains = record {
        each = in_turn order state.services not_ordered stands.domains.each;
        once = once_then;
        loans = stands.domains.loans;
        samples = stands.domains.samples;
        publishers = apart_then (λ n. n.publisher) (λ port. refl) stands.domains.publishers;
        subscribers = apart_then (λ n. n.subscriber) (λ port. refl) stands.domains.subscribers;
      };
      numbers = record {
        publishers = stands.numbers.publishers;
        subscribers = stands.numbers.subscribers;
        loans = stands.numbers.loans;
        samples = stands.numbers.samples;
      };
      loans = λ which made found.
          here_still number domain hub.hub.services closed made.port.domain (stands.loans which made found);
      samples = λ which made found. (
        here_still number domain hub.hub.services closed made.port.domain (stands.samples which made found).0,
        (stands.samples which made found).1,
      );
      publishers = record {
        known = λ which port is.
            let was = stands.publishers.known which port is in
            let still = publisher_still port.domain port.number was.1 in
            (ap (λ (n : Naming). n.publisher port.number) (named_so port.domain.service still.0) ∙ was.0, still.1);
        each = λ id which up.
            ap (λ (n : Naming). port_under (value_at hub.made.publishers (n.publisher which)))
            (named_so id.service (publisher_off id which up))
            ∙ stands.publishers.each id which (publisher_was id which up);
      };
      subscribers = record {
        known = λ which port is.
            let was = stands.subscribers.known which port is in
            let still = subscriber_still port.domain port.number was.1 in
            (ap (λ (n : Naming). n.subscriber port.number) (named_so port.domain.service still.0) ∙ was.0, still.1);
        each = λ id which up.
            ap (λ (n : Naming). value_at hub.made.subscribers (n.subscriber which)) (named_so id.service (subscriber_off id which up))
            ∙ stands.subscribers.each id which (subscriber_was id which up);
      };
      named = record {
        publishers = within_then (λ n. n.publisher) state.made.publishers (λ port. refl) stands.named.publishers;
        subscribers = within_then (λ n. n.subscriber) state.made.subscribers (λ port. refl) stands.named.subscribers;
      };
      slices = stands.slices;
      publishers_handled = publisher_handled;
      subscribers_handled = subscriber_handled;
    }

  -- the ports of a hub stand where its factories are others
  pub other_factories : (table : Contents) (factories made : ℕ) (counts : List (ℕ × ℕ)) (by_number : Factories) (pledged : Pledged)
      (phases : MessagingPattern → List ℕ → Phase) (those : List (ℕ × Factory))
      → PortsStandFor choices degrades decides reader_degrades naming order
      (record hub {
        hub = record hub.hub { factories = factories; table = table; factory_counts = counts };
        factories = by_number;
        pledged = pledged;
      })
      (record state { made = record state.made { factories = made }; phases = phases; factories = those })
  other_factories table factories made counts by_number pledged phases those = record {
    here = stands.here;
    same = stands.same;
    domains = stands.domains;
    numbers = record {
      publishers = stands.numbers.publishers;
      subscribers = stands.numbers.subscribers;
      loans = stands.numbers.loans;
      samples = stands.numbers.samples;
    };
    loans = stands.loans;
    samples = stands.samples;
    publishers = record { known = stands.publishers.known; each = stands.publishers.each };
    subscribers = record { known = stands.subscribers.known; each = stands.subscribers.each };
    named = record { publishers = stands.named.publishers; subscribers = stands.named.subscribers };
    slices = stands.slices;
    publishers_handled = λ id which publisher up found.
        let handled = stands.publishers_handled id which publisher up found in record { full = handled.full; failed = handled.failed };
    subscribers_handled = stands.subscribers_handled;
  }
