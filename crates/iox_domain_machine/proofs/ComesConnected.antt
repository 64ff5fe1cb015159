-- A publisher comes, of a domain and of the machine, and follows the list of subscribers.
use Rattle.std.proofs.Common.{◌≡◌, ◌≢◌, ◌<◌, ◌+◌, ◌-◌, ◌^◌, ◌∷◌, [], ◌++◌, ◌&&◌, ◌||◌, ◌==◌, ℕ, zero, suc, Bool, true, false, cond, List}
use Rattle.std.proofs.Common.{length, map, get_or, max, min, nat_le, nat_lt, not, replicate, Option, None, Some, Result, Ok, Err, refl}
use Rattle.std.proofs.Common.{sym, ap, subst, inl, inr, ◌∙◌, arith, Ordering}
use Rattle.std.proofs.Math.Logic.{⊎_elim}
use Rattle.std.proofs.lemmas.Bool.{eq-eqb, eqb-true, lt-ltb, not-true}
use Rattle.std.proofs.lemmas.List.{length-map}
use Rattle.std.proofs.lemmas.List.Folds.{list_all_at}
use Rattle.std.proofs.lemmas.List.Quantifiers.{position-Some}
use Rattle.std.specs.BTreeMap.{insert_entry}
use Rattle.std.specs.Cmp.{nat_cmp_is}
use Rattle.std.specs.List.{filter, list_all, position}
use Rattle.std.specs.Map.{keys_of, set_value}
use Rattle.std.specs.Ordering.{nat_cmp, is_eq}
use Rattle.std.specs.Prelude.{fold, is_some, option_map, unwrap_or, if◌then◌else◌}
use Rattle.std.specs.declared.alloc.AllocError.{AllocError}
use Rattle.std.specs.declared.cmp.Ordering.TheVariants.{Less, Equal, Greater}
use Rattle.iox_command.specs.DomainValues.declared.create_error.PublisherCreateError.{PublisherCreateError}
use Rattle.iox_command.specs.DomainValues.declared.create_error.PublisherCreateError.TheVariants as error
use Rattle.iox_command.specs.DomainValues.declared.connection_failure.ConnectionFailure.{ConnectionFailure}
use Rattle.iox_command.specs.DomainValues.declared.degradation.DegradationAction.{DegradationAction}
use Rattle.iox_command.specs.DomainValues.declared.degradation.DegradationInfo.{DegradationInfo}
use Rattle.iox_command.specs.NegotiateBase.DescribeBase.declared.message_type.MessageTypeDetails.{MessageTypeDetails}
use Rattle.iox_command.specs.declared.command.Command.TheVariants as command
use Rattle.iox_command.specs.declared.port.PublisherOptions.{PublisherOptions}
use Rattle.iox_command.specs.declared.reply.Reply.{Reply}
use Rattle.iox_domain.proofs.Coming.{lookup-came}
use Rattle.iox_domain.proofs.GivenOut.{numbers_stay}
use Rattle.iox_domain.proofs.Numbered.{at_number, all_came, all_then}
use Rattle.iox_domain.proofs.PortLawsApart.{new_well}
use Rattle.iox_domain.proofs.StayRoomy.{entry_found}
use Rattle.iox_domain.specs.Container.declared.container.Member.{Member}
use Rattle.iox_domain.specs.DomainPorts.Leaving.{new_port}
use Rattle.iox_domain.specs.DomainPorts.PublisherUpdating.{Updates}
use Rattle.iox_domain.specs.DomainPorts.Publishers.{added, port_of}
use Rattle.iox_domain.specs.DomainPorts.Subscribing.{attached_at}
use Rattle.iox_domain.specs.DomainPorts.declared.attached.Attached.{Attached}
use Rattle.iox_domain.specs.DomainPorts.declared.attached.Taken.{Taken}
use Rattle.iox_domain.specs.DomainPorts.declared.publisher_entry.PublisherEntry.{PublisherEntry}
use Rattle.iox_domain.specs.DomainPorts.declared.publisher_port.PublisherPort.{PublisherPort}
use Rattle.iox_domain.specs.DomainPorts.declared.subscriber_entry.SubscriberEntry.{SubscriberEntry}
use Rattle.iox_domain.specs.DomainPorts.declared.subscriber_port.SubscriberPort.{SubscriberPort}
use Rattle.iox_domain.specs.DomainValues.OverrideAnswers.{places}
use Rattle.iox_domain.specs.DomainValues.Sequences.{before_first}
use Rattle.iox_domain.specs.DomainValues.Sizes as domain
use Rattle.iox_domain.specs.DomainValues.declared.service_sizes.ServiceSizes.{ServiceSizes}
use Rattle.iox_domain.specs.Making.{AddsPublisher, CreatesPublisher, identity_of, publisher_answer, publisher_place, sender_config}
use Rattle.iox_domain.specs.Making.{sequence_before, slots_needed}
use Rattle.iox_domain.specs.PortLawsLaws.{IsApart, IsTiedWell, IsWellEntry}
use Rattle.iox_domain.specs.Rolls.{IsListOf, may_change}
use Rattle.iox_domain.specs.Roomy.{AreRoomy}
use Rattle.iox_domain.specs.SizeLaws.{AreAllowed, IsMadeFor, allowed_by}
use Rattle.iox_domain.specs.Sizes.{sizes}
use Rattle.iox_domain.specs.Subscribers.{subscriber_of}
use Rattle.iox_domain.specs.Tries.{how_often}
use Rattle.iox_domain.specs.declared.ports.making.PublisherConfig.{PublisherConfig}
use Rattle.iox_domain.specs.declared.ports.service_ports.ServicePorts.{ServicePorts}
use Rattle.iox_domain_machine.specs.ComingPublisherLaws.{IsPublisherAskedSo, PublisherComesMatches, publisher_came_or_refused}
use Rattle.iox_domain_machine.specs.ComingPublisherLaws.{with_publisher_came}
use Rattle.iox_domain_machine.specs.Laws.{Matches}
use Rattle.iox_domain_machine.specs.Mailboxes.{MailboxesStandFor}
use Rattle.iox_domain_machine.specs.Naming.{Naming, with_name}
use Rattle.iox_domain_machine.specs.Publishers.{PublisherStandsFor}
use Rattle.iox_domain_machine.specs.Standing.{StandsFor, PublisherIs}
use Rattle.iox_domain_machine.specs.Tables.{LentSlot}
use Rattle.iox_domain_machine.proofs.Alone.{alone_does}
use Rattle.iox_domain_machine.proofs.Changing.{with_one}
use Rattle.iox_domain_machine.proofs.Comes.{all_taken, all_there, free_at, none_of}
use Rattle.iox_domain_machine.proofs.ComesPublisher.{listed_names, listed_ports, listed_service, listed_stands}
use Rattle.iox_domain_machine.proofs.ComesTables.{none_below}
use Rattle.iox_domain_machine.proofs.FollowFirst.{ItsUpdate, update_is}
use Rattle.iox_domain_machine.proofs.FollowLists.{all_pass, contains_there, mapped_at}
use Rattle.iox_domain_machine.proofs.FollowMachine.{all_welcomed}
use Rattle.iox_domain_machine.proofs.FollowStands.{follows_stands, publisher_after, service_after}
use Rattle.iox_domain_machine.proofs.Found.{same_some, never_some, never_true, mapped_none, same_everywhere}
use Rattle.iox_domain_machine.proofs.TableEnds.{at_end, changed_end}
use Rattle.iox_machine.specs.Choices.{Choices}
use Rattle.iox_machine.specs.Arriving.{PublisherArrives}
use Rattle.iox_machine.specs.Arriving as machine
use Rattle.iox_machine.specs.Mailbox.{Mailbox}
use Rattle.iox_machine.specs.PortList.{PortList, those, unless}
use Rattle.iox_machine.specs.PublisherUpdate.{Follows, ended, welcome}
use Rattle.iox_machine.specs.Service.{Publisher, Service}
use Rattle.iox_machine.proofs.Shorthands.{with_publisher, registered}
use Rattle.iox_machine.specs.State.{State, Factory, is_service_of}
use Rattle.iox_machine.specs.Table.{at, contains}

-- what is set where something came is what came
set_back : {V : Type 0} (number : ℕ) (one w : V) (table : List (ℕ × V)) → at_number number number ≡ true
    → set_value (at_number number) (insert_entry nat_cmp table number one) w ≡ insert_entry nat_cmp table number w
set_back number one w [] self = ap (λ b. cond b ((number, w) ∷ []) ((number, one) ∷ [])) self
set_back {V} number one w (entry ∷ table) self = by (nat_cmp number entry.0) refl (set_back number one w table self)
  where
    by : (order : Ordering) → nat_cmp number entry.0 ≡ order
        → set_value (at_number number) (insert_entry nat_cmp table number one) w ≡ insert_entry nat_cmp table number w
        → set_value (at_number number) (insert_entry nat_cmp (entry ∷ table) number one) w ≡ insert_entry nat_cmp (entry ∷ table) number w
    by Less is rest = rw is (ap (λ b. cond b ((number, w) ∷ entry ∷ table) ((number, one) ∷ set_value (at_number number) (entry ∷ table) w))
        self)
    by Equal is rest =
        let here : at_number number entry.0 ≡ true = ap is_eq is in
        rw is (ap (λ b. cond b ((entry.0, w) ∷ table) ((entry.0, one) ∷ set_value (at_number number) table w)) here)
    by Greater is rest =
        let off : at_number number entry.0 ≡ false = ap is_eq is in
        let more : List (ℕ × V) = insert_entry nat_cmp table number one in
        rw is (ap (λ b. cond b ((entry.0, w) ∷ more) (entry ∷ set_value (at_number number) more w)) off ∙ ap (λ all. entry ∷ all) rest)

-- nobody is connected where all are refused
all_refused : (refused : List ℕ) (listed : List (Option ℕ))
    → ((place port : ℕ) → get_or listed place None ≡ Some port → contains refused port ≡ true)
    → map (unless refused) listed ≡ replicate (length listed) None
all_refused refused [] all = refl
all_refused refused (None ∷ listed) all = ap (λ rest. None ∷ rest) (all_refused refused listed (λ place. all (suc place)))
all_refused refused (Some port ∷ listed) all =
    ap (λ b. (if b then None else Some port) ∷ map (unless refused) listed) (all zero port refl)
    ∙ ap (λ rest. None ∷ rest) (all_refused refused listed (λ place. all (suc place)))

those_none : (count : ℕ) → those (replicate count None) ≡ []
those_none zero = refl
those_none (suc count) = those_none count

-- as many slots come of what is named
slots_named : (named : Option ℕ) (most : ℕ)
    → max 1 (min most (unwrap_or named most)) ≡ places (max most 1) (unwrap_or named (max most 1))
slots_named None most = omega arith
slots_named (Some count) most = omega arith

not_less : (limit count : ℕ) → nat_le limit count ≡ not (nat_lt count limit)
not_less limit count = by (nat_lt count limit) refl
  where
    by : (below : Bool) → nat_lt count limit ≡ below → nat_le limit count ≡ not below
    by true is = grind (arith, is)
    by false is = grind (arith, is)

-- what ends where there is nothing
nothing_lost : {X : Type 0} (b : Bool) (f : X → X) (found : Option X) → found ≡ None → (if b then option_map f found else found) ≡ found
nothing_lost true f found none = ap (option_map f) none ∙ sym none
nothing_lost false f found none = refl

module _ {T U : Type 0} (types : MessageTypeDetails) (choices : Choices T) (buffer : ℕ) (names : Naming) (lent : List (ℕ × LentSlot))
    (held : List (ℕ × Taken)) (old new : ServicePorts T U) (service : Service T) (state : State T) (factory : ℕ) (made : Factory)
    (options : PublisherOptions) (config : PublisherConfig) (user_header : U) (overrides : ℕ → ℕ → Type 0)
    (may : DegradationInfo → DegradationAction → Type 0)
    (answer : Result ℕ PublisherCreateError) (stands : StandsFor names lent held buffer old service) (roomy : AreRoomy old)
    (is_made : at factory state.factories ≡ Some made) (of_made : is_service_of made service ≡ true)
    (asked : IsPublisherAskedSo overrides factory options config)
    (fresh : at (state.made.publishers + 1) service.publishers ≡ None) (counted : old.next_port + 1 < 2 ^ 64)
    (may_list : may_change old.publisher_list ≡ true) where
  abbrev name : ℕ
  name = state.made.publishers + 1

  abbrev one : Publisher T
  one = machine.new_publisher factory options service.settings

  abbrev Result_of : Result ℕ PublisherCreateError → ServicePorts T U → Type 0
  Result_of so after =
      (reader : ℕ → ℕ → ℕ) × Matches T U choices types buffer (command.Publisher factory options) (publisher_came_or_refused name so)
      state service (record (with_publisher_came old.next_port name so names) { reader = reader }) lent held after

  abbrev Arrives : Service T → Service T → Reply T → Service T → Type 0
  Arrives it before = PublisherArrives name (machine.new_publisher factory options before.settings) before

  -- what the machine does where the service is that of the factory
  arrives : (so : Result ℕ PublisherCreateError) (reader : ℕ → ℕ → ℕ) (after : ServicePorts T U) (later : Service T)
      → Arrives service service (publisher_came_or_refused name so) later
      → StandsFor (record (with_publisher_came old.next_port name so names) { reader = reader }) lent held buffer after later
      → Result_of so after
  arrives so reader after later does stands_then = (
    reader,
    (
      later,
      rw is_made (alone_does (λ (it : Service T). if is_service_of made it then Some it else None) Arrives state service later
          (publisher_came_or_refused name so) service (ap (λ b. if b then Some service else None) of_made) does),
      stands_then,
    ),
  )

  -- how many slots it needs in the worst case
  abbrev most : ℕ
  most = machine.worst_case service.settings one.max_loaned_samples

  abbrev most_there : ℕ
  most_there = domain.worst_case old.sizes config.max_loaned_samples

  same_most : most_there ≡ most
  same_most = ap (λ all. domain.worst_case all config.max_loaned_samples) stands.sizes
      ∙ ap (domain.worst_case (sizes buffer service.settings)) asked.max_loaned_samples

  abbrev is_over : Bool
  is_over = nat_le (2 ^ 32) most || nat_le (2 ^ 32) one.room

  abbrev Sized : Option ℕ → Type 0
  Sized None = is_over ≡ true
  Sized (Some needed) = (is_over ≡ false) × (needed ≡ most)

  sized : (found : Option ℕ) → slots_needed config old ≡ found → Sized found
  sized found is =
      by (nat_lt config.values (2 ^ 32)) (nat_lt most_there (2 ^ 32))
      (not_less (2 ^ 32) most ∙ ap (λ n. not (nat_lt n (2 ^ 32))) (sym same_most))
      (not_less (2 ^ 32) one.room ∙ ap (λ n. not (nat_lt n (2 ^ 32))) (sym asked.values)) is
    where
      by : (fits few : Bool) → nat_le (2 ^ 32) most ≡ not few → nat_le (2 ^ 32) one.room ≡ not fits
          → (if fits then (if few then Some most_there else None) else None) ≡ found → Sized found
      by false few too_many too_long is =
          subst Sized is (ap (λ b. b || nat_le (2 ^ 32) one.room) too_many ∙ ap (λ b. not few || b) too_long ∙ or_true (not few))
        where
          or_true : (b : Bool) → (b || true) ≡ true
          or_true true = refl
          or_true false = refl
      by true false too_many too_long is = subst Sized is (ap (λ b. b || nat_le (2 ^ 32) one.room) too_many)
      by true true too_many too_long is =
          subst Sized is (ap (λ b. b || nat_le (2 ^ 32) one.room) too_many ∙ too_long, same_most)

  -- it is refused where it needs too many slots or too long ones
  too_big : slots_needed config old ≡ None → Result_of (Err error.UnableToCreateDataSegment) old
  too_big none = arrives (Err error.UnableToCreateDataSegment) names.reader old service (rw (sized None none) (refl, refl)) stands

  abbrev by_name : Member PublisherEntry → ℕ
  by_name member = names.publisher member.value.publisher

  same_list : service.publisher_list.places ≡ map (option_map by_name) old.publisher_list.places
  same_list = ap (λ (list : PortList). list.places) stands.publisher_list

  place_is : publisher_place old ≡ position (λ member. not (is_some member)) old.publisher_list.places
  place_is =
      ap (λ b. if b then (if may_change old.publisher_list then position (λ member. not (is_some member)) old.publisher_list.places
      else None) else None) (lt-ltb (old.next_port + 1) (2 ^ 64) counted)
      ∙ ap (λ b. if b then position (λ member. not (is_some member)) old.publisher_list.places else None) may_list

  module _ (needed : ℕ) (is_needed : slots_needed config old ≡ Some needed) where
    not_over : is_over ≡ false
    not_over = (sized (Some needed) is_needed).0

    -- where no place is free it is refused
    no_place : publisher_place old ≡ None → Result_of (Err error.ExceedsMaxSupportedPublishers) old
    no_place none =
        let all = ap (list_all is_some) same_list
        ∙ all_there by_name old.publisher_list.places (all_taken old.publisher_list.places (sym place_is ∙ none)) in
        arrives (Err error.ExceedsMaxSupportedPublishers) names.reader old service (rw not_over (rw all (refl, refl))) stands

    module _ (place : ℕ) (is_place : publisher_place old ≡ Some place) where
      found_place : (place < length old.publisher_list.places) × (get_or old.publisher_list.places place None ≡ None)
      found_place =
          let it = position-Some (λ member. not (is_some member)) old.publisher_list.places place None (sym place_is ∙ is_place) in (
            it.0,
            none_of (get_or old.publisher_list.places place None)
                (not-true (is_some (get_or old.publisher_list.places place None)) it.1),
          )

      machine_free : get_or service.publisher_list.places place None ≡ None
      machine_free =
          ap (λ all. get_or all place None) same_list
          ∙ mapped_at by_name old.publisher_list.places place
          ∙ ap (option_map by_name) found_place.1

      machine_within : place < length service.publisher_list.places
      machine_within = omega (
        arith,
        found_place.0,
        ap (λ all. length all) same_list,
        length-map old.publisher_list.places (option_map by_name),
      )

      not_full : list_all is_some service.publisher_list.places ≡ false
      not_full = list_all_at is_some service.publisher_list.places place None machine_within (ap is_some machine_free)

      -- or for want of memory
      no_memory : Result_of (Err error.UnableToCreateDataSegment) old
      no_memory =
          arrives (Err error.UnableToCreateDataSegment) names.reader old service (rw not_over (rw not_full (inl (refl, refl)))) stands

      module _ (slots : ℕ) (is_slots : overrides (max needed 1) slots) where
        abbrev next : ℕ
        next = old.next_port

        -- the publisher before it follows the list
        abbrev first : PublisherPort T U
        first = new_port (identity_of config.owner place old) old.sizes.max_subscribers config.allocation config.unit
            (sequence_before config old) (sender_config config (places (max needed 1) slots) old) user_header

        named_so : name ≢ 0
        named_so same = absurd (omega (arith, same))

        next_once : how_often old.next_port (keys_of old.publishers) ≡ 0
        next_once = none_below old.next_port (keys_of old.publishers) roomy.numbered.0

        next_none : port_of old.next_port old.publishers ≡ None
        next_none = ((numbers_stay {T = T} {U = U} (λ from to. ⊥) (λ info action. ⊥) (λ info decision. ⊥)).next old roomy.numbered).0

        many_slots : one.slots ≡ places (max needed 1) slots
        many_slots =
            slots_named options.preallocated_samples most
            ∙ ap (λ n. places (max n 1) (unwrap_or options.preallocated_samples (max n 1))) (sym (sized (Some needed) is_needed).1)
            ∙ ap (places (max needed 1)) (sym (asked.slots (max needed 1) slots is_slots))

        first_is : PublisherStandsFor (names.message next) (names.reader next) old.sizes.max_subscribers first one
        first_is = record {
          factory = sym asked.owner;
          stands = refl;
          max_loaned_samples = sym asked.max_loaned_samples;
          allocation = sym asked.allocation;
          slots = many_slots;
          room = sym asked.values;
          segments = refl;
          last_sequence =
              ap (λ (all : ServiceSizes). before_first all.sequence_numbers 1) (sym stands.sizes)
              ∙ ap (before_first old.sizes.sequence_numbers) (sym asked.first_sequence);
          history = refl;
          once = λ slot. omega arith;
          seen = refl;
          connected =
              let same = ap (λ (all : ServiceSizes). all.max_subscribers) stands.sizes in
              let count : old.sizes.max_subscribers - 0 ≡ service.settings.max_subscribers = omega (arith, same) in
              sym (mapped_none (names.reader next) service.settings.max_subscribers)
              ∙ ap (λ n. map (option_map (names.reader next)) (replicate n None)) (sym count);
          ties = omega arith;
          blocked = refl;
          left = λ gone. refl;
          named = record {
            apart = λ first second used. absurd (omega (arith, used));
            below = λ slot used. absurd (omega (arith, used));
            current = λ slot used. absurd (omega (arith, used));
            within = λ slot used. absurd (omega (arith, used));
            sole = λ slot used. absurd (omega (arith, used));
            ahead = omega arith;
          };
          unit = asked.unit;
          most_segments = refl;
          ample = omega arith;
        }

        -- no mailbox is there yet
        no_box : (other : ℕ) → service.mailboxes name other ≡ None
        no_box other = by (service.mailboxes name other) refl
          where
            by : (box : Option (Mailbox T)) → service.mailboxes name other ≡ box → box ≡ None
            by None is_box = refl
            by (Some box) is_box = never_true (sym (ap is_some fresh) ∙ (stands.joined name other (ap is_some is_box)).0)

        first_boxes : MailboxesStandFor (names.message next) (names.reader next) names.subscriber first (service.mailboxes name)
            service.subscribers
        first_boxes = record {
          live = λ index live. never_true live;
          ended = λ index is. absurd (cc);
          quiet = λ index is. absurd (cc);
          others = λ other joins box is. never_some box (sym (no_box other) ∙ is);
          none = λ other joins standing subscriber is stands. no_box other;
          known = λ index there. never_true there;
          apart = λ first second there. never_true there;
          led = λ index live. never_true live;
          read = λ index to led. never_some to led;
          heard = λ index to led. never_some to led;
          unmet = λ standing index live. never_true live;
          once = λ index slot. omega arith;
          due = λ message sending. never_some message sending;
        }

        led_apart : (other : ℕ) (found : SubscriberPort) → subscriber_of other old.subscribers ≡ Some found → found.stands ≡ true
            → (key : ℕ) (attached : Attached) → attached_at key found ≡ Some attached → attached.publisher ≢ old.next_port
        led_apart other found it standing key attached has same =
            let read = (entry_found other found old it roomy standing).reads key attached has in
            never_some read.0 (sym next_none ∙ ap (λ n. port_of n old.publishers) (sym same) ∙ read.1)

        abbrev there_ports : ServicePorts T U
        there_ports = listed_ports names lent held buffer old service name place first one stands fresh named_so next_none next_once
            found_place.1 found_place.0 refl refl refl refl refl refl first_is first_boxes led_apart

        abbrev there_names : Naming
        there_names = listed_names names lent held buffer old service name place first one stands fresh named_so next_none next_once
            found_place.1 found_place.0 refl refl refl refl refl refl first_is first_boxes led_apart

        abbrev there_service : Service T
        there_service = listed_service names lent held buffer old service name place first one stands fresh named_so next_none next_once
            found_place.1 found_place.0 refl refl refl refl refl refl first_is first_boxes led_apart

        there_stands : StandsFor there_names lent held buffer there_ports there_service
        there_stands = listed_stands names lent held buffer old service name place first one stands fresh named_so next_none next_once
            found_place.1 found_place.0 refl refl refl refl refl refl first_is first_boxes led_apart

        well_first : IsTiedWell (next + 1) old.subscriber_list.places first
        well_first = new_well (next + 1) old.subscriber_list.places first refl refl refl (omega (arith, roomy.tied.places))

        apart_now : IsApart there_ports
        apart_now = record {
          places = roomy.tied.places;
          list = record {
            apart = roomy.tied.list.apart;
            below = λ at_place member listed. let it = roomy.tied.list.below at_place member listed in omega (arith, it);
          };
          well = all_came (IsWellEntry (next + 1) old.subscriber_list.places) next old.publishers first (λ standing. well_first)
              (λ other was standing. well_first)
              (all_then (IsWellEntry next old.subscriber_list.places) (IsWellEntry (next + 1) old.subscriber_list.places) old.publishers
              (λ entry well standing.
              let was = well standing in
              record {
                apart = was.apart;
                live = was.live;
                read = was.read;
                alone = was.alone;
                below = λ at_place subscriber is. let it = was.below at_place subscriber is in omega (arith, it);
                room = was.room;
                known = was.known;
                sole = was.sole;
                all = was.all;
              }) roomy.tied.well);
        }

        allowed_first : (number : ℕ) → IsMadeFor (allowed_by old.sizes) (number, first)
        allowed_first number = (
          ap (λ b. record (allowed_by old.sizes) { numbered = b }) (is_numbered old.sizes.sequence_numbers),
          λ index. (omega arith, omega arith, omega arith),
        )
          where
            is_numbered : (b : Bool) → is_some (before_first b config.first_sequence) ≡ b
            is_numbered true = refl
            is_numbered false = refl

        allowed_now : AreAllowed there_ports
        allowed_now =
            all_came (IsMadeFor (allowed_by old.sizes)) next old.publishers first (allowed_first next) (λ other was. allowed_first other.0)
            roomy.allowed

        there_first : port_of next there_ports.publishers ≡ Some first
        there_first = lookup-came next first old.publishers

        its_name : there_names.publisher next ≡ name
        its_name = ap (λ b. if b then name else names.publisher next) (eq-eqb next next refl)

        one_there : at (there_names.publisher next) there_service.publishers ≡ Some one
        one_there = ap (λ n. at n there_service.publishers) its_name ∙ at_end name one service.publishers fresh

        abbrev plain : Service T
        plain = record service { publishers = service.publishers ++ (name, one) ∷ [] }

        -- where the machine's publisher followed the list, it came
        concludes : (so : ℕ) (after : ServicePorts T U) (reader : ℕ → ℕ → ℕ) (later : Publisher T) (mid : Service T)
            → Follows name one there_service later mid → StandsFor (record there_names { reader = reader }) lent held buffer after mid
            → Result_of (Ok so) after
        concludes so after reader later mid (refused, refused_all, is_later, is_mid) stands_then =
            let news : List ℕ = filter (λ subscriber. not (contains (those one.connected) subscriber)) (those later.connected) in
            let before : Service T = record mid { publisher_list = service.publisher_list } in
            let begun : Service T = with_publisher name later (ended name there_service) in
            let is_welcomed = is_mid ∙ all_welcomed name one.history news begun in
            let list_is : mid.publisher_list ≡ registered place name service.publisher_list =
            ap (λ (s : Service T). s.publisher_list) is_welcomed in
            let is_before : before
            ≡ fold (welcome name one.history) (with_publisher name later (ended name plain)) news =
            ap (λ (s : Service T). record s { publisher_list = service.publisher_list }) is_welcomed
            ∙ sym (all_welcomed name one.history news (with_publisher name later (ended name plain))) in
            arrives (Ok so) reader after mid
            (rw not_over (rw not_full (inr (
              place,
              free_at service.publisher_list.places place machine_within machine_free,
              later,
              before,
              (refused, refused_all, is_later, is_before),
              refl,
              ap (λ (list : PortList). record mid { publisher_list = list }) list_is,
            ))))
            stands_then

        -- where the list never changed, nobody is connected
        module _ (unseen : (0 == old.subscriber_list.changes) ≡ true) where
          abbrev listed : List (Option ℕ)
          listed = service.subscriber_list.places

          listed_long : length listed ≡ service.settings.max_subscribers
          listed_long =
              let same = ap (λ (all : ServiceSizes). all.max_subscribers) stands.sizes in
              let list = ap (λ (list : PortList). length list.places) stands.subscriber_list in
              omega (
                arith,
                same,
                list,
                roomy.tied.places,
                length-map old.subscriber_list.places
                    (option_map (λ (member : Member SubscriberEntry). names.subscriber member.value.subscriber)),
              )

          none_changed : 0 ≡ service.subscriber_list.changes
          none_changed = eqb-true 0 old.subscriber_list.changes unseen ∙ sym (ap (λ (list : PortList). list.changes) stands.subscriber_list)

          none_connected : replicate service.settings.max_subscribers None ≡ map (unless (those listed)) listed
          none_connected =
              ap (λ n. replicate n None) (sym listed_long)
              ∙ sym (all_refused (those listed) listed (λ at_place port is. contains_there listed at_place port is))

          same_boxes : (ended name there_service).mailboxes ≡ service.mailboxes
          same_boxes = same_everywhere (ended name there_service).mailboxes service.mailboxes
              (λ publisher. same_everywhere ((ended name there_service).mailboxes publisher) (service.mailboxes publisher)
              (λ subscriber. by publisher subscriber (publisher == name) refl))
            where
              by : (publisher subscriber : ℕ) (own : Bool) → (publisher == name) ≡ own
                  → (ended name there_service).mailboxes publisher subscriber ≡ service.mailboxes publisher subscriber
              by publisher subscriber true is = nothing_lost ((publisher == name) && not (contains (those listed) subscriber))
                  (λ (box : Mailbox T). record box { waiting = [] }) (service.mailboxes publisher subscriber)
                  (ap (λ n. service.mailboxes n subscriber) (eqb-true publisher name is) ∙ no_box subscriber)
              by publisher subscriber false is =
                  ap (λ b. if b && not (contains (those listed) subscriber)
                  then option_map (λ (box : Mailbox T). record box { waiting = [] }) (service.mailboxes publisher subscriber)
                  else service.mailboxes publisher subscriber) is

          follows_none : Follows name one there_service one there_service
          follows_none = (
            those listed,
            all_pass (λ subscriber. contains (those listed) subscriber && not (is_some (service.mailboxes name subscriber))) (those listed)
                (λ subscriber there.
                ap (λ b. b && not (is_some (service.mailboxes name subscriber))) there
                ∙ ap (λ box. not (is_some box)) (no_box subscriber)),
            ap (λ (seen : ℕ). record one { seen = seen }) none_changed
                ∙ ap (λ (connected : List (Option ℕ)). record one { seen = service.subscriber_list.changes; connected = connected })
                none_connected,
            sym (ap (λ (connected : List ℕ). fold (welcome name one.history) (with_publisher name one (ended name there_service))
                (filter (λ subscriber. not (contains (those one.connected) subscriber)) connected))
                (those_none service.settings.max_subscribers)
                ∙ ap (λ (boxes : ℕ → ℕ → Option (Mailbox T)). record (with_publisher name one there_service) { mailboxes = boxes })
                same_boxes
                ∙ ap (λ (all : List (ℕ × Publisher T)). record there_service { publishers = all })
                (changed_end name one one service.publishers fresh)),
          )

        abbrev Followed : Result (Unit {0}) ConnectionFailure → PublisherPort T U → Type 0
        Followed outcome after = ItsUpdate there_names lent held buffer there_ports there_service there_stands next first after there_first
            (λ (action : DegradationAction). Unit {0}) outcome

        abbrev its : PublisherIs there_names there_ports there_service next first
        its = there_stands.publishers next first there_first

        own : its.0 ≡ one
        own = same_some its.0 one (sym its.1 ∙ one_there)

        -- the ports with the publisher, whatever it is connected to
        abbrev with_came : PublisherPort T U → ServicePorts T U
        with_came after = record there_ports { publishers = added next after old.publishers }

        same_came : (after : PublisherPort T U) → with_one next after there_ports ≡ with_came after
        same_came after =
            let self : at_number next next ≡ true = ap is_eq (sym (nat_cmp_is next next Equal refl)) in
            ap (λ (all : List (ℕ × PublisherPort T U)). record there_ports { publishers = all })
            (set_back next first after old.publishers self)

        -- it follows the list, and is connected
        comes : (so : ℕ) (listed : List (Option (Member SubscriberEntry))) → IsListOf listed old.subscriber_list
            → (outcome : Result (Unit {0}) ConnectionFailure) (after : PublisherPort T U)
            → Updates may listed old.subscriber_list.changes first outcome after → Result_of (Ok so) (with_came after)
        comes so listed is_list outcome after updates = ⊎_elim
            (λ unseen. subst (λ (port : PublisherPort T U). Result_of (Ok so) (with_came port)) (sym unseen.2)
            (concludes so there_ports names.reader one there_service (follows_none unseen.0) there_stands))
            (λ seen. followed seen.1)
            (update_is there_names lent held buffer there_ports there_service there_stands next first after there_first
            (λ (action : DegradationAction). Unit {0}) outcome may apart_now allowed_now refl refl
            (λ info action is. tt)
            listed is_list updates)
          where
            followed : Followed outcome after → Result_of (Ok so) (with_came after)
            followed it =
                let later : Publisher T = publisher_after there_names lent held buffer there_ports there_service there_stands next first
                after there_first (λ (action : DegradationAction). Unit {0}) outcome it in
                let mid : Service T = service_after there_names lent held buffer there_ports there_service there_stands next first after
                there_first (λ (action : DegradationAction). Unit {0}) outcome it in
                concludes so (with_came after) (with_name next it.new_reader names.reader) later mid
                (subst (λ (publisher : Publisher T). Follows name publisher there_service later mid) own
                (subst (λ n. Follows n its.0 there_service later mid) its_name it.follows))
                (subst (λ (ports : ServicePorts T U). StandsFor
                (record there_names { reader = with_name next it.new_reader names.reader }) lent held buffer ports mid) (same_came after)
                (follows_stands there_names lent held buffer there_ports there_service there_stands next first after there_first
                (λ (action : DegradationAction). Unit {0}) outcome it))

        adds : (outcome : Result ℕ AllocError)
            → AddsPublisher may config user_header place (places (max needed 1) slots) old outcome new
            → answer ≡ publisher_answer outcome → Result_of answer new
        adds (Err error_so) is_new is_answer = rw is_answer (rw is_new no_memory)
        adds (Ok number) (listed, is_list, outcome, after, updates, is_number, is_new) is_answer =
            subst (λ so. Result_of so new) (sym is_answer)
            (subst (λ ports. Result_of (Ok number) ports) (sym is_new) (comes number listed is_list outcome after updates))

  by : (found found_place : Option ℕ) → slots_needed config old ≡ found → publisher_place old ≡ found_place
      → CreatesPublisher overrides may config user_header found found_place old answer new → Result_of answer new
  by None found_place is is_place creates = rw creates.0 (rw creates.1 (too_big is))
  by (Some needed) None is is_place creates = rw creates.0 (rw creates.1 (no_place needed is is_place))
  by (Some needed) (Some place) is is_place (slots, is_slots, outcome, step, is_answer) =
      adds needed is place is_place slots is_slots outcome step is_answer

pub publisher_comes_matches : (T U : Type 0) (choices : Choices T) (overrides : ℕ → ℕ → Type 0)
    (may : DegradationInfo → DegradationAction → Type 0) → PublisherComesMatches T U choices overrides may
publisher_comes_matches T U choices overrides may types buffer names lent held old new service state factory made options config
    user_header answer stands roomy is_made of_made asked fresh counted may_list creates =
    by types choices buffer names lent held old new service state factory made options config user_header overrides may answer stands
    roomy is_made of_made asked fresh counted may_list (slots_needed config old) (publisher_place old) refl refl creates
