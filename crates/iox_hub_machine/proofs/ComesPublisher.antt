-- A publisher came in a hub, and what it stands for then.
use Rattle.std.proofs.Common.{◌≡◌, ◌≢◌, ◌≤◌, ◌+◌, ◌⊎◌, ℕ, true, false, List, [], ◌∷◌, ◌++◌, Option, None, Some, Result, Ok, Err, refl}
use Rattle.std.proofs.Common.{subst, ◌∙◌, arith, inl, inr, sym, ap}
use Rattle.std.proofs.Math.Logic.{⊎_elim}
use Rattle.std.specs.Map.{lookup}
use Rattle.std.specs.Option.{option_map_or, unwrap_or}
use Rattle.std.specs.Prelude.{nat_eq}
use Rattle.iox_command.specs.DomainValues.Actions.{decision_of}
use Rattle.iox_command.specs.DomainValues.declared.backpressure.BackpressureAction.{BackpressureAction}
use Rattle.iox_command.specs.DomainValues.declared.backpressure.BackpressureDecision.{BackpressureDecision}
use Rattle.iox_command.specs.DomainValues.declared.backpressure.BackpressureInfo.{BackpressureInfo}
use Rattle.iox_command.specs.DomainValues.declared.backpressure_strategy.BackpressureStrategy.{BackpressureStrategy}
use Rattle.iox_command.specs.DomainValues.declared.backpressure_strategy.BackpressureStrategy.TheVariants.{RetryUntilDelivered}
use Rattle.iox_command.specs.DomainValues.declared.create_error.PublisherCreateError.{PublisherCreateError}
use Rattle.iox_command.specs.DomainValues.declared.degradation.DegradationAction.{DegradationAction}
use Rattle.iox_command.specs.DomainValues.declared.degradation.DegradationAction.TheVariants.{Warn}
use Rattle.iox_command.specs.DomainValues.declared.degradation.DegradationCause.{DegradationCause}
use Rattle.iox_command.specs.DomainValues.declared.degradation.DegradationCause.TheVariants.{FailedToEstablishConnection}
use Rattle.iox_command.specs.DomainValues.declared.degradation.DegradationInfo.{DegradationInfo}
use Rattle.iox_command.specs.NegotiateBase.DescribeBase.declared.message_type.MessageTypeDetails.{MessageTypeDetails}
use Rattle.iox_command.specs.NegotiateBase.DescribeBase.declared.pattern.MessagingPattern.{MessagingPattern}
use Rattle.iox_command.specs.NegotiateBase.DescribeBase.declared.pattern.MessagingPattern.TheVariants.{PublishSubscribe}
use Rattle.iox_command.specs.declared.command.Command.{Command}
use Rattle.iox_command.specs.declared.command.Command.TheVariants as command
use Rattle.iox_command.specs.declared.port.PublisherOptions.{PublisherOptions}
use Rattle.iox_command.specs.declared.refusal.Refusal.TheVariants as refusal
use Rattle.iox_command.specs.declared.reply.Reply.{Reply}
use Rattle.iox_command.specs.declared.reply.Reply.TheVariants as reply
use Rattle.iox_container.specs.NumberTable.{value_at}
use Rattle.iox_delivery.specs.Holding.{subscriber_stands, publisher_stands}
use Rattle.iox_delivery.specs.declared.port_id.PortId.{PortId}
use Rattle.iox_domain.proofs.Keeping.{kept_is_there}
use Rattle.iox_domain.specs.DomainPorts.declared.attached.Taken.{Taken}
use Rattle.iox_domain.specs.Domains.{in_state}
use Rattle.iox_domain.specs.Handling.{kept_decides, kept_degrades}
use Rattle.iox_domain.specs.Kept.{kept_under, kept}
use Rattle.iox_domain.specs.Making.{CreatesPublisher, publisher_place, slots_needed}
use Rattle.iox_domain.specs.States.{publisher_kept, with_ports}
use Rattle.iox_domain.specs.Tries.{how_often}
use Rattle.iox_domain.specs.declared.domain.Domain.{Domain}
use Rattle.iox_domain.specs.declared.domain_id.DomainId.{DomainId}
use Rattle.iox_domain.specs.declared.ports.making.PublisherConfig.{PublisherConfig}
use Rattle.iox_domain.specs.declared.ports.service_ports.ServicePorts.{ServicePorts}
use Rattle.iox_domain.specs.declared.state.DomainState.{DomainState}
use Rattle.iox_domain_machine.specs.ComingPublisherLaws.{publisher_came_or_refused, with_publisher_came}
use Rattle.iox_domain_machine.specs.Laws.{Matches, with_alone}
use Rattle.iox_domain_machine.specs.Naming.{Naming, with_name}
use Rattle.iox_domain_machine.specs.Services.{those_of, DomainsStandFor}
use Rattle.iox_domain_machine.specs.Standing.{StandsFor}
use Rattle.iox_domain_machine.specs.Tables.{LentSlot}
use Rattle.iox_domain_machine.proofs.ComesConnected.{publisher_comes_matches}
use Rattle.iox_domain_machine.proofs.Found.{never_some, same_some}
use Rattle.iox_hub_base.specs.AsHome.{hub_changed, hub_ports}
use Rattle.iox_hub_base.specs.Numbered.{others_beside}
use Rattle.iox_hub_base.specs.Open.{OpenServices, presence_of, with_domain}
use Rattle.iox_hub_base.specs.ServicesAsHome.{domain_at, ports_if, subscriber_handler_in, publisher_handlers_in}
use Rattle.iox_hub_base.specs.declared.hub.Hub.{Hub}
use Rattle.iox_hub_base.specs.declared.presence.Presence.TheVariants.{Here}
use Rattle.iox_hub_commands.proofs.OneAgreement.{agreement_is_one}
use Rattle.iox_hub_commands.specs.AgreementLaws.{service_of, FactoriesAgree}
use Rattle.iox_hub_commands.specs.Making.{with_publisher}
use Rattle.iox_hub_commands.specs.Naming.{publisher_config, publisher_handlers}
use Rattle.iox_hub_commands.specs.ServicesTables.{parts_of, pattern_in}
use Rattle.iox_hub_commands.specs.Tables.{port_under}
use Rattle.iox_hub_commands.specs.declared.numbered_hub.NumberedHub.{NumberedHub}
use Rattle.iox_hub_commands.specs.declared.ports.made.MadePublisher.{MadePublisher}
use Rattle.iox_hub_commands.specs.declared.services.made.MadeFactory.{MadeFactory}
use Rattle.iox_hub_machine.proofs.Handled.{handled_on}
use Rattle.iox_hub_machine.proofs.Amidst.{is_none}
use Rattle.iox_hub_machine.proofs.ComesAmong.{all_do, all_stand, no_publisher_so}
use Rattle.iox_hub_machine.proofs.ComesHouse.{aside, everywhere, everywhere_else, found_there, or_there, put_there}
use Rattle.iox_hub_machine.proofs.ComesHouse.{served_still, still_here, still_open, up_aside, up_same, up_there}
use Rattle.iox_hub_machine.proofs.ComesNamed.{IsAside, NamedThen, apart_still, apart_then, go_then, named_aside}
use Rattle.iox_hub_machine.proofs.ComesNamed.{named_still, named_then, named_there, within_then}
use Rattle.iox_hub_machine.proofs.ComesPlace.{IsPlacedAmong, placed_among}
use Rattle.iox_hub_machine.proofs.ComesServed.{domain_there, is_its_own, machine_has, presence, served_joined, served_later}
use Rattle.iox_hub_machine.proofs.ComesService.{PublisherIsNew, among_alike, among_first, at_factory_did, publisher_came, publisher_refused}
use Rattle.iox_hub_machine.proofs.Parting.{OrderChanges, order_changes, stay_here}
use Rattle.iox_hub_machine.proofs.Placed.{subscriber_as, subscriber_up, publisher_as, publisher_up}
use Rattle.iox_hub_machine.proofs.Rooming.{roomy_there}
use Rattle.iox_hub_machine.proofs.TableMore.{new_goes, still_goes, went_or_new}
use Rattle.iox_hub_machine.specs.ArrivalLaws.{CanBeCounted, DecidesAsChosen, MayCome}
use Rattle.iox_hub_machine.specs.Ports.{AreHere, among, ports_here}
use Rattle.iox_hub_machine.specs.Services.{HubStandsFor, IsServedBy, factory_as}
use Rattle.iox_hub_machine.specs.Standing.{GoByNames, PortsStandFor, SubscriberIsHandled, PublisherIsHandled, held_in, lent_in}
use Rattle.iox_hub_machine.specs.Standing.{subscriber_is_up, publisher_is_up}
use Rattle.iox_machine.specs.Arriving.{PublisherArrives, new_publisher}
use Rattle.iox_machine.specs.Named.{has_named}
use Rattle.iox_machine.specs.Run.{Step}
use Rattle.iox_machine.specs.Service.{Service, Subscriber, Publisher}
use Rattle.iox_machine.specs.State.{Factory, State, counted, is_service_of}
use Rattle.iox_machine.specs.Table.{at}
use Rattle.iox_machine.specs.Choices.{Choices}

module _ {T U B D : Type 0} (choices : Choices T) (degrades : B → DegradationCause → DegradationInfo → DegradationAction → Type 0)
    (decides : B → BackpressureInfo → BackpressureDecision → Type 0)
    (reader_degrades : D → DegradationCause → DegradationInfo → DegradationAction → Type 0)
    (names : List (List ℕ)) (taken : MessagingPattern → List ℕ → List ℕ) (naming : ℕ → Naming) (order : List (ℕ × ServicePorts T U))
    (old : NumberedHub T U B D) (state : State T)
    (stands : HubStandsFor choices degrades decides reader_degrades names taken naming order old state) (may_come : MayCome old)
    (factory : ℕ) (made : MadeFactory) (there : value_at old.factories.made factory ≡ Some made)
    (kind : pattern_in made ≡ PublishSubscribe) (types : MessageTypeDetails) (options : PublisherOptions)
    (fixed : BackpressureStrategy → Option BackpressureAction → DegradationAction → B)
    (user_header : U) where
  abbrev pub id : DomainId
  id = record { hub = (parts_of made).0.storage; service = service_of made }

  abbrev asked : Command T
  asked = command.Publisher factory options

  abbrev buffer : ℕ
  buffer = old.hub.expired_connection_buffer

  agree : FactoriesAgree old.factories.made
  agree = (agreement_is_one old.factories.made old.hub may_come.agreed).0

  -- the domain of the factory's service
  pub home : (domain : Domain T U B D) × (domain_at id old.hub.services ≡ Some domain)
      × (presence_of id.service old.hub.services.domains ≡ Some (Here domain))
  home =
      let found = presence choices degrades decides reader_degrades names taken naming order old state stands agree factory made there
      kind in (
        found.0,
        domain_there choices degrades decides reader_degrades names taken naming order old state stands agree factory made there kind,
        found.1,
      )

  abbrev pub domain : Domain T U B D
  domain = home.0

  abbrev pub ports : ServicePorts T U
  ports = domain.state.ports

  pub found : hub_ports id old.hub ≡ Some ports
  found = ap ports_if home.1

  abbrev config : PublisherConfig
  config = publisher_config (record { number = (parts_of made).1; node_id = (parts_of made).0.node }) options

  abbrev handler : B
  handler = publisher_handlers fixed options

  -- what it does at a full mailbox
  abbrev named_strategy : BackpressureStrategy
  named_strategy = unwrap_or options.backpressure_strategy RetryUntilDelivered

  -- as many slots as are named, or else as are needed
  abbrev named_slots : ℕ → ℕ → Type 0
  named_slots needed named = named ≡ unwrap_or options.preallocated_samples needed

  abbrev Creates : Result ℕ PublisherCreateError → ServicePorts T U → Type 0
  Creates told after = CreatesPublisher named_slots (degrades handler FailedToEstablishConnection) config user_header
      (slots_needed config ports) (publisher_place ports) ports told after

  -- what is done where a connection of it fails
  abbrev named_action : DegradationAction
  named_action = unwrap_or options.degradation_handler Warn

  abbrev lent : List (ℕ × (ℕ × LentSlot))
  lent = lent_in old.made

  abbrev held : List (ℕ × (ℕ × Taken))
  held = held_in old.made

  -- the number that it gets
  abbrev name : ℕ
  name = state.made.publishers + 1

  has : (service : Service T) → has_named state.factories asked service ≡ is_service_of (factory_as made) service
  has service = ap (λ (one : Option Factory). option_map_or (λ it. is_service_of it service) one false)
      (machine_has choices degrades decides reader_degrades names taken naming order old state stands agree factory made there kind)

  counted_there : CanBeCounted ports
  counted_there = may_come.counted id ports found

  -- nobody has this number for a name
  new : (one other : ℕ) → (naming one).publisher other ≢ name
  new one other same = omega (arith, same, stands.ports.named.publishers one other)

  module _ (before behind : List (ℕ × ServicePorts T U)) (ordered : order ≡ before ++ (id.service, ports) ∷ behind) where
    place : IsPlacedAmong naming lent held buffer old.factories.made old.hub.services before behind state asked id.service ports
    place = placed_among choices degrades decides reader_degrades names taken naming order old state stands agree factory made there kind
        asked has
        ports before behind ordered

    fresh : at name place.service.publishers ≡ None
    fresh = is_none (at name place.service.publishers)
        (λ is. let it = place.stands.named_publishers.each name is in new id.service it.0 it.1)

    its_own : is_service_of (factory_as made) place.service ≡ true
    its_own = is_its_own choices degrades decides reader_degrades names taken naming order old state stands agree factory made there kind
        place.service place.served

    -- what one domain alone does the machine does alone
    alone : (after : ServicePorts T U) (answer : Result ℕ PublisherCreateError) → Creates answer after
        → (reader : ℕ → ℕ → ℕ) × Matches T U choices types buffer asked (publisher_came_or_refused name answer) state place.service
        (record (with_publisher_came ports.next_port name answer (naming id.service)) { reader = reader }) (those_of id.service lent)
        (those_of id.service held) after
    alone after answer creates =
        publisher_comes_matches T U choices named_slots (degrades handler FailedToEstablishConnection) types buffer (naming id.service)
        (those_of id.service lent) (those_of id.service held) ports after place.service state factory (factory_as made) options config
        user_header answer place.stands (roomy_there id ports old.hub may_come.grown found)
        (machine_has choices degrades decides reader_degrades names taken naming order old state stands agree factory made there kind)
        its_own
        (record {
          owner = (stands.factories.each factory made there).owner;
          max_loaned_samples = refl;
          values = refl;
          unit = refl;
          allocation = refl;
          first_sequence = refl;
          slots = λ needed named is. is;
        })
        fresh counted_there.0 counted_there.1 creates

    arrives : (after : Service T) (answer : Reply T)
        → Step types choices buffer asked (with_alone place.service state) answer
        (record (with_alone after state) { made = counted answer state.made })
        → PublisherArrives name (new_publisher factory options place.service.settings) place.service answer after
    arrives after answer did = at_factory_did types choices buffer factory
        (λ service. PublisherArrives name (new_publisher factory options service.settings) service) state (factory_as made)
        place.service after answer
        (machine_has choices degrades decides reader_degrades names taken naming order old state stands agree factory made there kind)
        its_own did

  -- ---- it came

  module _ (after : ServicePorts T U) (creates : Creates (Ok ports.next_port) after)
      (answers : DecidesAsChosen choices degrades decides handler name options) where
    abbrev next : ℕ
    next = ports.next_port

    abbrev step : DomainState T U B D → DomainState T U B D
    step it = publisher_kept next handler (with_ports after it)

    abbrev hub_then : Hub T U B D
    hub_then = hub_changed id step old.hub

    abbrev domain_then : Domain T U B D
    domain_then = in_state step domain

    abbrev pub later : NumberedHub T U B D
    later = record old { hub = hub_then; made = with_publisher id true next old.made }

    changes : OrderChanges order id.service ports after (with_domain id.service old.hub.services.domains domain_then)
    changes = order_changes order old.hub.services.domains stands.ports.here stands.ports.same id.service domain home.2 domain_then

    abbrev order_then : List (ℕ × ServicePorts T U)
    order_then = changes.before ++ (id.service, after) ∷ changes.behind

    abbrev at_place : IsPlacedAmong naming lent held buffer old.factories.made old.hub.services changes.before changes.behind state asked
        id.service ports
    at_place = place changes.before changes.behind changes.now

    abbrev service : Service T
    service = at_place.service

    matched : (reader : ℕ → ℕ → ℕ) × Matches T U choices types buffer asked (reply.PublisherMade name) state service
        (record (naming id.service) { publisher = with_name next name (naming id.service).publisher; reader = reader })
        (those_of id.service lent) (those_of id.service held) after
    matched = alone changes.before changes.behind changes.now after (Ok next) creates

    abbrev names_then : Naming
    names_then = record (naming id.service) {
      publisher = with_name next name (naming id.service).publisher;
      reader = matched.0;
    }

    abbrev naming_then : ℕ → Naming
    naming_then = with_name id.service names_then naming

    abbrev service_then : Service T
    service_then = matched.1.0

    stands_then : StandsFor names_then (those_of id.service lent) (those_of id.service held) buffer after service_then
    stands_then = matched.1.2

    abbrev as_asked : Publisher T
    as_asked = new_publisher factory options service.settings

    is_new : PublisherIsNew name as_asked service service_then
    is_new = publisher_came name as_asked service service_then name (fresh changes.before changes.behind changes.now) refl
        (arrives changes.before changes.behind changes.now service_then (reply.PublisherMade name) matched.1.1)

    abbrev services_then : List (Service T)
    services_then = at_place.first ++ service_then ∷ at_place.last

    abbrev state_then : State T
    state_then = record state { made = counted {T = T} (reply.PublisherMade name) state.made; services = services_then }

    does : Step types choices buffer asked state (reply.PublisherMade name) state_then
    does = all_do choices types buffer state asked (reply.PublisherMade name)
        at_place.first service service_then at_place.last at_place.are refl at_place.none_before at_place.none_behind matched.1.1

    -- ---- names

    named : NamedThen (λ one. (naming one).publisher) (λ one. (naming_then one).publisher) id.service next name
    named = named_then (λ (it : Naming). it.publisher) naming names_then id.service next name refl

    same_name : (one : ℕ) → (naming_then one).subscriber ≡ (naming one).subscriber
    same_name = named_still (λ (it : Naming). it.subscriber) naming names_then id.service refl

    domains_then : DomainsStandFor naming_then lent held buffer order_then services_then
    domains_then = record {
      each = all_stand buffer naming lent held changes.before changes.behind id.service at_place.first at_place.last service_then after
          names_then at_place.alone_before at_place.alone_behind at_place.stand_before at_place.stand_behind stands_then;
      once = λ number. subst (λ (keys : List ℕ). how_often number keys ≤ 1) (sym changes.keys) (stands.ports.domains.once number);
      loans = stands.ports.domains.loans;
      samples = stands.ports.domains.samples;
      subscribers = apart_still (λ one. (naming one).subscriber) (λ one. (naming_then one).subscriber) same_name
          stands.ports.domains.subscribers;
      publishers = apart_then (λ one. (naming one).publisher) (λ one. (naming_then one).publisher) id.service next name named new
          stands.ports.domains.publishers;
    }

    -- ---- who stands

    its_writers : (number : ℕ) → number ≢ next → publisher_stands number (Some after) ≡ publisher_stands number (Some ports)
    its_writers number off =
        publisher_as names_then (those_of id.service lent) (those_of id.service held) buffer after service_then stands_then number
        ∙ ap (λ (it : ℕ). publisher_up (at it service_then.publishers)) (named_aside next number name (naming id.service).publisher off)
        ∙ ap publisher_up (is_new.others ((naming id.service).publisher number) (new id.service number))
        ∙ sym (publisher_as (naming id.service) (those_of id.service lent) (those_of id.service held) buffer ports service at_place.stands
        number)

    writer_comes : publisher_stands next (Some after) ≡ true
    writer_comes =
        publisher_as names_then (those_of id.service lent) (those_of id.service held) buffer after service_then stands_then next
        ∙ ap (λ (it : ℕ). publisher_up (at it service_then.publishers)) (named_there next name (naming id.service).publisher)
        ∙ ap publisher_up is_new.there ∙ is_new.up

    none_before : publisher_stands next (Some ports) ≡ false
    none_before =
        publisher_as (naming id.service) (those_of id.service lent) (those_of id.service held) buffer ports service at_place.stands next
        ∙ ap publisher_up (is_none (at ((naming id.service).publisher next) service.publishers)
        (λ is.
        let it = at_place.stands.named_publishers.each ((naming id.service).publisher next) is in
        it.2 (at_place.stands.unnamed next (omega arith)).0))

    its_subscribers : (number : ℕ) → subscriber_stands number (Some after) ≡ subscriber_stands number (Some ports)
    its_subscribers number =
        subscriber_as names_then (those_of id.service lent) (those_of id.service held) buffer after service_then stands_then number
        ∙ ap (λ (table : List (ℕ × Subscriber)). subscriber_up (at ((naming id.service).subscriber number) table)) is_new.subscribers
        ∙ sym (subscriber_as (naming id.service) (those_of id.service lent) (those_of id.service held) buffer ports service at_place.stands
        number)

    subscribers_up : (other : DomainId) (number : ℕ) → subscriber_is_up hub_then other number ≡ subscriber_is_up old.hub other number
    subscribers_up = up_same id step old.hub domain home.1 subscriber_stands (λ number. refl) its_subscribers

    writers_up : (other : DomainId) (number : ℕ) → IsAside id.service next other.service number
        → publisher_is_up hub_then other number ≡ publisher_is_up old.hub other number
    writers_up = up_aside id step old.hub domain home.1 publisher_stands (λ number. refl) next its_writers none_before writer_comes

    writer_or : (other : DomainId) (number : ℕ) → publisher_is_up hub_then other number ≡ true
        → ((other ≡ id) × (number ≡ next)) ⊎ IsAside id.service next other.service number
    writer_or = or_there id step old.hub domain home.1 publisher_stands (λ number. refl) next its_writers none_before writer_comes

    -- ---- numbers

    number_is : old.made.publishers.next ≡ name
    number_is = stands.ports.numbers.publishers

    abbrev came_port : PortId
    came_port = record { domain = id; number = next }

    abbrev came_made : MadePublisher
    came_made = record { port = came_port; holds_slices = true }

    abbrev entries : List (ℕ × MadePublisher)
    entries = old.made.publishers.entries

    abbrev longer : List (ℕ × MadePublisher)
    longer = entries ++ (old.made.publishers.next, came_made) ∷ []

    nothing_yet : (found : Option MadePublisher) → lookup (nat_eq old.made.publishers.next) entries ≡ found
        → lookup (nat_eq old.made.publishers.next) entries ≡ None
    nothing_yet None is = is
    nothing_yet (Some it) is =
        absurd (new it.port.domain.service it.port.number
        ((stands.ports.publishers.known old.made.publishers.next it.port (ap port_under is)).0 ∙ number_is))

    comes_by : port_under (lookup (nat_eq name) longer) ≡ Some came_port
    comes_by =
        ap (λ (it : ℕ). port_under (lookup (nat_eq it) longer)) (sym number_is)
        ∙ ap port_under (new_goes old.made.publishers.next came_made entries
        (nothing_yet (lookup (nat_eq old.made.publishers.next) entries) refl))

    kept_so : (other : ℕ) (port : PortId) (found : Option MadePublisher) → lookup (nat_eq other) entries ≡ found
        → port_under found ≡ Some port → port_under (lookup (nat_eq other) longer) ≡ Some port
    kept_so other port None there is = never_some port is
    kept_so other port (Some it) there is =
        ap port_under (still_goes old.made.publishers.next came_made other it entries there) ∙ is

    only_so : (other : ℕ) (port : PortId) (found : Option MadePublisher) → lookup (nat_eq other) longer ≡ found
        → port_under found ≡ Some port
        → (port_under (lookup (nat_eq other) entries) ≡ Some port) ⊎ ((other ≡ name) × (port ≡ came_port))
    only_so other port None there is = never_some port is
    only_so other port (Some it) there is = ⊎_elim
        (λ was. inl (ap port_under was ∙ is))
        (λ came. inr (came.0 ∙ number_is, sym (same_some it.port port is) ∙ sym (ap (λ (one : MadePublisher). one.port) came.1)))
        (went_or_new old.made.publishers.next came_made other it entries there)

    all_slices : (number : ℕ) (it : MadePublisher) → value_at later.made.publishers number ≡ Some it → it.holds_slices ≡ true
    all_slices number it there = ⊎_elim
        (λ was. stands.ports.slices number it was)
        (λ came. ap (λ (one : MadePublisher). one.holds_slices) (sym came.1))
        (went_or_new old.made.publishers.next came_made number it entries there)

    writers_go : GoByNames (λ one. (naming_then one).publisher) (publisher_is_up hub_then)
        (λ number. port_under (value_at later.made.publishers number))
    writers_go = go_then (λ one. (naming one).publisher) (λ one. (naming_then one).publisher) id next name named
        (publisher_is_up old.hub) (publisher_is_up hub_then) (λ number. port_under (value_at old.made.publishers number))
        (λ number. port_under (value_at later.made.publishers number))
        (up_there id step old.hub domain home.1 publisher_stands (λ number. refl) next its_writers none_before writer_comes)
        writers_up
        (aside id step old.hub domain home.1 publisher_stands (λ number. refl) next its_writers none_before writer_comes)
        writer_or
        (λ other port is. kept_so other port (lookup (nat_eq other) entries) refl is)
        comes_by
        (λ other port is. only_so other port (lookup (nat_eq other) longer) refl is) stands.ports.publishers

    -- ---- who decides

    handled : (other : DomainId) (number : ℕ) (subscriber : Subscriber) → subscriber_is_up hub_then other number ≡ true
        → among (λ (it : Service T). it.subscribers) ((naming_then other.service).subscriber number) services_then ≡ Some subscriber
        → SubscriberIsHandled choices reader_degrades hub_then other number ((naming_then other.service).subscriber number) subscriber
    handled other number subscriber up is info action may =
        let old_name = (naming other.service).subscriber number in
        subst (λ (it : ℕ). choices.subscriber_acts it subscriber.degradation action)
        (ap (λ (it : ℕ → ℕ). it number) (sym (same_name other.service)))
        (stands.ports.subscribers_handled other number subscriber (sym (subscribers_up other number) ∙ up)
        (ap (among (λ (it : Service T). it.subscribers) old_name) at_place.are
        ∙ sym (among_alike (λ (it : Service T). it.subscribers) old_name at_place.first service_then service at_place.last
        (ap (at old_name) is_new.subscribers))
        ∙ ap (λ (it : ℕ → ℕ). among (λ (one : Service T). one.subscribers) (it number) services_then) (sym (same_name other.service)) ∙ is)
        info action
        (subst (λ (it : Option D). kept_degrades reader_degrades it info action)
        (everywhere id step old.hub domain home.1 (subscriber_handler_in number) refl other) may))

    kept_beside : (number : ℕ) → number ≢ next
        → kept_under number (kept next handler domain.state.publisher_handlers) ≡ kept_under number domain.state.publisher_handlers
    kept_beside number off = others_beside next number domain.state.publisher_handlers handler (λ same. off (sym same))

    came_handled : (other : DomainId) (number : ℕ) (publisher : Publisher T) → other ≡ id → number ≡ next
        → among (λ (it : Service T). it.publishers) ((naming_then other.service).publisher number) services_then ≡ Some publisher
        → PublisherIsHandled choices degrades decides hub_then other number ((naming_then other.service).publisher number) publisher
    came_handled other number publisher same also is =
        let its_name : (naming_then other.service).publisher number ≡ name =
        ap (λ (it : DomainId). (naming_then it.service).publisher number) same
        ∙ ap (λ (it : ℕ). (naming_then id.service).publisher it) also ∙ named.there in
        let one_is : is_new.one ≡ publisher =
        same_some is_new.one publisher
        (sym (among_first (λ (it : Service T). it.publishers) name at_place.first service_then at_place.last is_new.one
        (no_publisher_so naming lent held buffer name new changes.before at_place.first at_place.stand_before) is_new.there)
        ∙ ap (λ (it : ℕ). among (λ (one : Service T). one.publishers) it services_then) (sym its_name) ∙ is) in
        let kept_there : publisher_handlers_in number (domain_at other hub_then.services) ≡ Some handler =
        ap (λ (it : DomainId). publisher_handlers_in number (domain_at it hub_then.services)) same
        ∙ ap (λ (it : ℕ). publisher_handlers_in it (domain_at id hub_then.services)) also
        ∙ ap (publisher_handlers_in next) (found_there id step old.hub domain home.1)
        ∙ kept_is_there next handler domain.state.publisher_handlers in
        record {
          full = λ info decision retries may told.
              subst (λ (it : ℕ). choices.publisher_decides it retries info.elapsed_time
              (decision_of publisher.strategy publisher.handler) decision) (sym its_name)
              (subst (λ (it : BackpressureDecision). choices.publisher_decides name retries info.elapsed_time it decision)
              ((λ i. decision_of (sym is_new.strategy i) (sym is_new.handler i))
              ∙ ap (λ (it : Publisher T). decision_of it.strategy it.handler) one_is)
              (answers.full info decision retries (subst (λ (it : Option B). kept_decides decides it info decision) kept_there may) told));
          failed = λ info action may.
              subst (λ (it : ℕ). choices.publisher_acts it publisher.degradation action) (sym its_name)
              (subst (λ (it : DegradationAction). choices.publisher_acts name it action)
              (sym is_new.acts ∙ ap (λ (it : Publisher T). it.degradation) one_is)
              (answers.failed info action (subst (λ (it : Option B). kept_degrades degrades it info action) kept_there may)));
        }

    other_handled : (other : DomainId) (number : ℕ) (publisher : Publisher T) → IsAside id.service next other.service number
        → publisher_is_up hub_then other number ≡ true
        → among (λ (it : Service T). it.publishers) ((naming_then other.service).publisher number) services_then ≡ Some publisher
        → PublisherIsHandled choices degrades decides hub_then other number ((naming_then other.service).publisher number) publisher
    other_handled other number publisher off up is =
        let old_name = (naming other.service).publisher number in
        let was = stands.ports.publishers_handled other number publisher (sym (writers_up other number off) ∙ up)
        (ap (among (λ (it : Service T). it.publishers) old_name) at_place.are
        ∙ sym (among_alike (λ (it : Service T). it.publishers) old_name at_place.first service_then service at_place.last
        (is_new.others old_name (new other.service number)))
        ∙ ap (λ (it : ℕ). among (λ (one : Service T). one.publishers) it services_then) (sym (named.aside other.service number off)) ∙ is)
        in
        let same = everywhere_else id step old.hub domain home.1 publisher_handlers_in next kept_beside other number off in
        handled_on choices old.hub hub_then other number old_name ((naming_then other.service).publisher number)
        (sym (named.aside other.service number off)) degrades decides publisher publisher refl
        (λ info decision may. subst (λ (it : Option B). kept_decides decides it info decision) same may)
        (λ info action may. subst (λ (it : Option B). kept_degrades degrades it info action) same may) was

    ports_then : PortsStandFor choices degrades decides reader_degrades naming_then order_then later state_then
    ports_then = record {
      here = subst (λ (these : OpenServices T U B D). AreHere these.domains) (sym (put_there id step old.hub domain home.1))
          (stay_here id.service old.hub.services.domains domain_then stands.ports.here);
      same = λ number. changes.same number
          ∙ ap (λ (these : OpenServices T U B D). at number (ports_here these.domains)) (sym (put_there id step old.hub domain home.1));
      domains = domains_then;
      numbers = record {
        publishers = ap (λ (it : ℕ). it + 1) number_is;
        subscribers = stands.ports.numbers.subscribers;
        loans = stands.ports.numbers.loans;
        samples = stands.ports.numbers.samples;
      };
      named = record {
        publishers = within_then (λ one. (naming one).publisher) (λ one. (naming_then one).publisher) id.service next name named
            state.made.publishers (omega arith) stands.ports.named.publishers;
        subscribers = λ one number. subst (λ (it : ℕ → ℕ). it number ≤ state.made.subscribers) (sym (same_name one))
            (stands.ports.named.subscribers one number);
      };
      loans = λ number it found. still_here id step old.hub domain home.1 it.port.domain (stands.ports.loans number it found);
      samples = λ number it found. (
        still_here id step old.hub domain home.1 it.port.domain (stands.ports.samples number it found).0,
        (stands.ports.samples number it found).1,
      );
      publishers = writers_go;
      subscribers = record {
        known = λ number port found.
            let was = stands.ports.subscribers.known number port found in (
              ap (λ (it : ℕ → ℕ). it port.number) (same_name port.domain.service) ∙ was.0,
              subscribers_up port.domain port.number ∙ was.1,
            );
        each = λ other number up.
            ap (λ (it : ℕ → ℕ). value_at old.made.subscribers (it number)) (same_name other.service)
            ∙ stands.ports.subscribers.each other number (sym (subscribers_up other number) ∙ up);
      };
      slices = all_slices;
      publishers_handled = λ other number publisher up is. ⊎_elim
          (λ came. came_handled other number publisher came.0 came.1 is)
          (λ off. other_handled other number publisher off up is) (writer_or other number up);
      subscribers_handled = handled;
    }

    -- the hub stands for what the machine is then
    stands_so : HubStandsFor choices degrades decides reader_degrades names taken naming_then order_then later state_then
    stands_so = record {
      nodes = stands.nodes;
      table = record { reached = stands.table.reached; phases = stands.table.phases };
      id = ap (λ (these : OpenServices T U B D). these.hub) (put_there id step old.hub domain home.1) ∙ stands.id;
      factories = record {
        numbers = stands.factories.numbers;
        owners = stands.factories.owners;
        same = stands.factories.same;
        each = λ number one is.
            let it = stands.factories.each number one is in
            record { asked = it.asked; owner = it.owner; storage = it.storage; serves = it.serves };
        seats = stands.factories.seats;
        counts = stands.factories.counts;
        opened = λ number one is of_kind. still_open id step old.hub domain home.1 (service_of one)
            (stands.factories.opened number one is of_kind);
      };
      served = served_joined old.factories.made hub_then.services changes.before changes.behind (id.service, after) at_place.first
          service_then at_place.last
          (served_later old.factories.made old.hub.services hub_then.services still changes.before at_place.first at_place.served_before)
          (served_still id step old.hub domain home.1 old.factories.made id.service service service_then is_new.name is_new.settings
          at_place.served)
          (served_later old.factories.made old.hub.services hub_then.services still changes.behind at_place.last at_place.served_behind);
      ports = ports_then;
    }
      where
        still : (number : ℕ) (one : Service T) → IsServedBy old.factories.made old.hub.services number one
            → IsServedBy old.factories.made hub_then.services number one
        still number one = served_still id step old.hub domain home.1 old.factories.made number one one refl refl

    -- so the machine follows
    pub follows_so : (naming_then : ℕ → Naming) × (order_then : List (ℕ × ServicePorts T U)) × (after : State T)
        × Step types choices buffer asked state (reply.PublisherMade name) after
        × HubStandsFor choices degrades decides reader_degrades names taken naming_then order_then later after
    follows_so = (naming_then, order_then, state_then, does, stands_so)

  -- ---- it is refused

  rests : OrderChanges order id.service ports ports (with_domain id.service old.hub.services.domains domain)
  rests = order_changes order old.hub.services.domains stands.ports.here stands.ports.same id.service domain home.2 domain

  abbrev at_rest : IsPlacedAmong naming lent held buffer old.factories.made old.hub.services rests.before rests.behind state asked
      id.service
      ports
  at_rest = place rests.before rests.behind rests.now

  module _ (why : PublisherCreateError) (creates : Creates (Err why) ports) where
    abbrev told : Reply T
    told = reply.Refused (refusal.Publisher why)

    refused : (reader : ℕ → ℕ → ℕ) × Matches T U choices types buffer asked told state at_rest.service
        (record (naming id.service) { reader = reader }) (those_of id.service lent) (those_of id.service held) ports
    refused = alone rests.before rests.behind rests.now ports (Err why) creates

    nothing_comes : refused.1.0 ≡ at_rest.service
    nothing_comes = publisher_refused name (new_publisher factory options at_rest.service.settings) at_rest.service refused.1.0
        (refusal.Publisher why) (arrives rests.before rests.behind rests.now refused.1.0 told refused.1.1)

    same_services : at_rest.first ++ refused.1.0 ∷ at_rest.last ≡ state.services
    same_services = ap (λ (it : Service T). at_rest.first ++ it ∷ at_rest.last) nothing_comes ∙ sym at_rest.are

    -- so the machine refuses it
    pub refused_so : Step types choices buffer asked state told state
    refused_so =
        subst (λ (services : List (Service T)). Step types choices buffer asked state told (record state { services = services }))
        same_services
        (all_do choices types buffer state asked told at_rest.first
        at_rest.service refused.1.0 at_rest.last at_rest.are refl at_rest.none_before at_rest.none_behind refused.1.1)
