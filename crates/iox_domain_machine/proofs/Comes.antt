-- A subscriber comes, of a domain and of the machine.
use Rattle.std.proofs.Common.{◌≡◌, ◌≢◌, ◌≤◌, ◌<◌, ◌+◌, ◌-◌, ◌^◌, ◌∷◌, [], ◌&&◌, ◌==◌, ℕ, zero, suc, Bool, true, false, cond, List, length}
use Rattle.std.proofs.Common.{map, get_or, max, nat_le, nat_lt, not, replicate, set, slice_get, Option, None, Some, Result, Ok, Err, refl}
use Rattle.std.proofs.Common.{sym, ap, subst, inl, inr, ◌∙◌, arith}
use Rattle.std.proofs.lemmas.Bool.{cases_eq, eq-eqb, le-ltb, leb-false, leb-true, lt-ltb, not-true, not-false}
use Rattle.std.proofs.lemmas.List.{get_or-set_other, get_or-set_same, length-map, length-set}
use Rattle.std.proofs.lemmas.List.Folds.{list_all_at}
use Rattle.std.proofs.lemmas.List.Quantifiers.{position-Some}
use Rattle.std.proofs.lemmas.List.Sums.{fails_before_first}
use Rattle.std.specs.Cmp.{nat_cmp_is}
use Rattle.std.specs.List.{list_all, position, position_or_len}
use Rattle.std.specs.Map.{keys_of}
use Rattle.std.specs.Ordering.{is_eq}
use Rattle.std.specs.Prelude.{fold, is_some, option_map, unwrap_or, if◌then◌else◌}
use Rattle.std.specs.declared.alloc.AllocError.{AllocError}
use Rattle.std.specs.declared.cmp.Ordering.TheVariants.{Equal}
use Rattle.iox_command.specs.DomainValues.declared.create_error.SubscriberCreateError.{SubscriberCreateError}
use Rattle.iox_command.specs.DomainValues.declared.create_error.SubscriberCreateError.TheVariants as error
use Rattle.iox_command.specs.DomainValues.declared.connection_failure.ConnectionFailure.{ConnectionFailure}
use Rattle.iox_command.specs.DomainValues.declared.degradation.DegradationAction.{DegradationAction}
use Rattle.iox_command.specs.DomainValues.declared.degradation.DegradationInfo.{DegradationInfo}
use Rattle.iox_command.specs.NegotiateBase.DescribeBase.declared.message_type.MessageTypeDetails.{MessageTypeDetails}
use Rattle.iox_command.specs.declared.command.Command.TheVariants as command
use Rattle.iox_command.specs.declared.port.SubscriberOptions.{SubscriberOptions}
use Rattle.iox_command.specs.declared.refusal.Refusal.TheVariants as refusal
use Rattle.iox_command.specs.declared.reply.Reply.{Reply}
use Rattle.iox_command.specs.declared.reply.Reply.TheVariants as reply
use Rattle.iox_domain.proofs.Attaching.{new_fits}
use Rattle.iox_domain.proofs.Coming.{lookup-came}
use Rattle.iox_domain.proofs.Fitting.{goes_same}
use Rattle.iox_domain.proofs.GivenOut.{numbers_stay}
use Rattle.iox_domain.proofs.Numbered.{at_number, all_then}
use Rattle.iox_domain.specs.Container.declared.container.Member.{Member}
use Rattle.iox_domain.specs.DomainPorts.Arriving.{new_subscriber}
use Rattle.iox_domain.specs.DomainPorts.PublisherUpdating.{is_tie_to}
use Rattle.iox_domain.specs.DomainPorts.SubscriberUpdating.{UpdatesIf}
use Rattle.iox_domain.specs.DomainPorts.Subscribing.{attached_at}
use Rattle.iox_domain.specs.DomainPorts.declared.attached.Attached.{Attached}
use Rattle.iox_domain.specs.DomainPorts.declared.attached.Taken.{Taken}
use Rattle.iox_domain.specs.DomainPorts.declared.publisher_entry.PublisherEntry.{PublisherEntry}
use Rattle.iox_domain.specs.DomainPorts.declared.publisher_port.PublisherPort.{PublisherPort}
use Rattle.iox_domain.specs.DomainPorts.declared.subscriber_entry.SubscriberEntry.{SubscriberEntry}
use Rattle.iox_domain.specs.DomainPorts.declared.subscriber_port.SubscriberPort.{SubscriberPort}
use Rattle.iox_domain.specs.DomainValues.Sizes.{buffer_of}
use Rattle.iox_domain.specs.DomainValues.declared.service_sizes.ServiceSizes.{ServiceSizes}
use Rattle.iox_domain.specs.Making.{AddsSubscriber, CreatesSubscriber, identity_of, subscriber_answer, subscriber_place}
use Rattle.iox_domain.specs.PortLawsLaws.{IsSoundEntry, IsTiedWell, IsWellEntry}
use Rattle.iox_domain.specs.Ports.{with_both}
use Rattle.iox_domain.specs.Rolls.{IsListOf, may_change}
use Rattle.iox_domain.specs.Roomy.{AreRoomy}
use Rattle.iox_domain.specs.Subscribers.{subscriber_of}
use Rattle.iox_domain.specs.Tries.{how_often}
use Rattle.iox_domain.specs.declared.ports.making.SubscriberConfig.{SubscriberConfig}
use Rattle.iox_domain.specs.declared.ports.service_ports.ServicePorts.{ServicePorts}
use Rattle.iox_domain_machine.specs.ComingLaws.{IsAskedSo, SubscriberComesMatches, came_or_refused, with_came}
use Rattle.iox_domain_machine.specs.Laws.{Matches}
use Rattle.iox_domain_machine.specs.Naming.{Naming}
use Rattle.iox_domain_machine.specs.Standing.{StandsFor}
use Rattle.iox_domain_machine.specs.Subscribers.{SubscriberStandsFor, publisher_by}
use Rattle.iox_domain_machine.specs.Tables.{LentSlot}
use Rattle.iox_domain_machine.proofs.Alone.{alone_does}
use Rattle.iox_domain_machine.proofs.ComesStands.{came_names, came_ports, came_service, came_stands}
use Rattle.iox_domain_machine.proofs.ComesTables.{none_below, set_came}
use Rattle.iox_domain_machine.proofs.Found.{same_some, never_some, never_true, same_at, mapped_none}
use Rattle.iox_domain_machine.proofs.TableEnds.{at_end}
use Rattle.iox_domain_machine.proofs.UpdateLists.{mapped_at}
use Rattle.iox_domain_machine.proofs.UpdateMachine.{connects, only_boxes}
use Rattle.iox_domain_machine.proofs.UpdatingSubscriber.{IsReady, update_stands}
use Rattle.iox_machine.proofs.Shorthands.{registered}
use Rattle.iox_machine.specs.Choices.{Choices}
use Rattle.iox_machine.specs.Arriving.{SubscriberArrives}
use Rattle.iox_machine.specs.Arriving as machine
use Rattle.iox_machine.specs.PortList.{PortList, those}
use Rattle.iox_machine.specs.Service.{Service, Subscriber, connect, with_mailbox}
use Rattle.iox_machine.proofs.Shorthands as shorthands
use Rattle.iox_machine.specs.State.{State, Factory, is_service_of}
use Rattle.iox_machine.specs.SubscriberUpdate.{Follows}
use Rattle.iox_machine.specs.Table.{at}

-- the list of subscribers is another where mailboxes come
connects_list : {T : Type 0} (limit number : ℕ) (ports : List ℕ) (service : Service T) (list : PortList)
    → connects limit number (record service { subscriber_list = list }) ports
    ≡ record (connects limit number service ports) { subscriber_list = list }
connects_list limit number [] service list = refl
connects_list {T} limit number (port ∷ ports) service list =
    ap (λ (one : Service T). connects limit number one ports) (by (is_some (service.mailboxes port number)))
    ∙ connects_list limit number ports (connect limit port number service) list
  where
    by : (there : Bool)
        → (if there then record service { subscriber_list = list }
        else with_mailbox port number (record { limit = limit; waiting = []; borrowed = [] }) (record service { subscriber_list = list }))
        ≡ record (if there then service
        else with_mailbox port number (record { limit = limit; waiting = []; borrowed = [] }) service) { subscriber_list = list }
    by true = refl
    by false = refl

-- where no place is free each has somebody
pub all_taken : {X : Type 0} (places : List (Option X)) → position (λ place. not (is_some place)) places ≡ None → (place : ℕ)
    → place < length places → is_some (get_or places place None) ≡ true
all_taken places none place within = by (nat_lt first (length places)) refl
  where
    first : ℕ
    first = position_or_len (λ place. not (is_some place)) places

    by : (found : Bool) → nat_lt (position_or_len (λ place. not (is_some place)) places) (length places) ≡ found
        → is_some (get_or places place None) ≡ true
    by true is = never_some (position_or_len (λ place. not (is_some place)) places)
        (sym none ∙ ap (λ b. cond b (Some (position_or_len (λ place. not (is_some place)) places)) None) is)
    by false is = not-false (is_some (get_or places place None))
        (fails_before_first (λ place. not (is_some place)) places place None (grind (arith, is, within)))

pub all_there : {X Y : Type 0} (f : X → Y) (places : List (Option X))
    → ((place : ℕ) → place < length places → is_some (get_or places place None) ≡ true)
    → list_all is_some (map (option_map f) places) ≡ true
all_there f [] all = refl
all_there f (None ∷ places) all = never_true (all 0 (omega arith))
all_there f (Some x ∷ places) all = all_there f places (λ place within. all (suc place) (omega (arith, within)))

pub free_at : {X : Type 0} (places : List (Option X)) (place : ℕ) → place < length places → get_or places place None ≡ None
    → slice_get places place ≡ Some None
free_at [] place within none = absurd (omega (arith, within))
free_at (one ∷ places) zero within none = ap (λ it. Some it) none
free_at (one ∷ places) (suc place) within none = free_at places place (omega (arith, within)) none

pub none_of : {X : Type 0} (found : Option X) → is_some found ≡ false → found ≡ None
none_of None is = refl
none_of (Some x) is = never_true (sym is)

-- publishers are tied well still where a subscriber comes that none is tied to
tied_still : {T U : Type 0} (next place : ℕ) (places : List (Option (Member SubscriberEntry))) (came : Member SubscriberEntry)
    (port : PublisherPort T U) → came.value.subscriber ≡ next → place < length places → IsTiedWell next places port
    → IsTiedWell (next + 1) (set places place (Some came)) port
tied_still next place places came port is_next within well = record {
  apart = well.apart;
  live = well.live;
  read = well.read;
  alone = λ at_place other member is off. elim (cases_eq at_place place) [
    | inl same ↦
        let own = same_some member came (sym is ∙ ap (λ n. get_or (set places place (Some came)) n None) same
        ∙ get_or-set_same places place (Some came) None within) in
        not_tied other (member.value.subscriber) (ap (λ (m : Member SubscriberEntry). m.value.subscriber) own ∙ is_next)
    | inr apart ↦ well.alone at_place other member (sym (get_or-set_other places place at_place (Some came) None apart) ∙ is) off
  ];
  below = λ at_place subscriber is. let it = well.below at_place subscriber is in omega (arith, it);
  room = let it = well.room in omega (arith, it, length-set places place (Some came));
  known = well.known;
  sole = well.sole;
  all = well.all;
}
  where
    not_tied : (other subscriber : ℕ) → subscriber ≡ next → is_tie_to subscriber (get_or port.ties.items other None) port ≡ false
    not_tied other subscriber same = by (is_tie_to subscriber (get_or port.ties.items other None) port) refl
      where
        by : (tied : Bool) → is_tie_to subscriber (get_or port.ties.items other None) port ≡ tied → tied ≡ false
        by false is = refl
        by true is = let it = well.below other subscriber is in absurd (omega (arith, it, same))

module _ {T U : Type 0} (types : MessageTypeDetails) (choices : Choices T) (buffer : ℕ) (names : Naming) (lent : List (ℕ × LentSlot))
    (held : List (ℕ × Taken)) (old new : ServicePorts T U) (service : Service T) (state : State T) (factory : ℕ) (made : Factory)
    (options : SubscriberOptions) (config : SubscriberConfig) (may : DegradationInfo → DegradationAction → Type 0)
    (answer : Result ℕ SubscriberCreateError) (stands : StandsFor names lent held buffer old service) (roomy : AreRoomy old)
    (is_made : at factory state.factories ≡ Some made) (of_made : is_service_of made service ≡ true)
    (asked : IsAskedSo factory options config) (some_room : 0 < service.settings.subscriber_max_buffer_size)
    (fresh : at (state.made.subscribers + 1) service.subscribers ≡ None) (counted : old.next_port + 1 < 2 ^ 64)
    (may_list : may_change old.subscriber_list ≡ true) where
  abbrev name : ℕ
  name = state.made.subscribers + 1

  abbrev one : Subscriber
  one = machine.new_subscriber factory options service.settings

  abbrev Result_of : Result ℕ SubscriberCreateError → ServicePorts T U → Type 0
  Result_of so after =
      (reader : ℕ → ℕ → ℕ) × Matches T U choices types buffer (command.Subscriber factory options) (came_or_refused name so) state service
      (record (with_came old.next_port name so names) { reader = reader }) lent held after

  abbrev Arrives : Service T → Service T → Reply T → Service T → Type 0
  Arrives it before = SubscriberArrives buffer name (machine.new_subscriber factory options before.settings) before

  -- what the machine does where the service is that of the factory
  arrives : (so : Result ℕ SubscriberCreateError) (reader : ℕ → ℕ → ℕ) (after : ServicePorts T U) (later : Service T)
      → Arrives service service (came_or_refused name so) later
      → StandsFor (record (with_came old.next_port name so names) { reader = reader }) lent held buffer after later → Result_of so after
  arrives so reader after later does stands_then = (
    reader,
    (
      later,
      rw is_made (alone_does (λ (it : Service T). if is_service_of made it then Some it else None) Arrives state service later
          (came_or_refused name so) service (ap (λ b. if b then Some service else None) of_made) does),
      stands_then,
    ),
  )

  room_is : old.sizes.subscriber_max_buffer_size ≡ service.settings.subscriber_max_buffer_size
  room_is = ap (λ (all : ServiceSizes). all.subscriber_max_buffer_size) stands.sizes

  -- how many may wait for it
  buffer_ok : (named : Option ℕ) (size : ℕ) → buffer_of named old.sizes ≡ Ok size
      → (max 1 (unwrap_or named service.settings.subscriber_max_buffer_size) ≡ size) × (size ≤ old.sizes.subscriber_max_buffer_size)
  buffer_ok None size is =
      let same : old.sizes.subscriber_max_buffer_size ≡ size = cc in
      (omega (arith, same, room_is, some_room), omega (arith, same))
  buffer_ok (Some count) size is = by (nat_le (max count 1) old.sizes.subscriber_max_buffer_size) refl is
    where
      by : (fits : Bool) → nat_le (max count 1) old.sizes.subscriber_max_buffer_size ≡ fits
          → (if fits then Ok (max count 1) else Err error.BufferSizeExceedsMaxSupportedBufferSizeOfService) ≡ Ok size
          → (max 1 count ≡ size) × (size ≤ old.sizes.subscriber_max_buffer_size)
      by true fits is =
          let same : max count 1 ≡ size = cc in
          let few = leb-true (max count 1) old.sizes.subscriber_max_buffer_size fits in
          (omega (arith, same), omega (arith, same, few))
      by false fits is = absurd (wrong is)
        where
          wrong : Err error.BufferSizeExceedsMaxSupportedBufferSizeOfService ≡ Ok size → ⊥
          wrong e = cc

  buffer_over : (named : Option ℕ) (why : SubscriberCreateError) → buffer_of named old.sizes ≡ Err why
      → (why ≡ error.BufferSizeExceedsMaxSupportedBufferSizeOfService)
      × (nat_lt service.settings.subscriber_max_buffer_size (max 1 (unwrap_or named service.settings.subscriber_max_buffer_size)) ≡ true)
  buffer_over None why is = absurd (wrong is)
    where
      wrong : Ok old.sizes.subscriber_max_buffer_size ≡ Err why → ⊥
      wrong e = cc
  buffer_over (Some count) why is = by (nat_le (max count 1) old.sizes.subscriber_max_buffer_size) refl is
    where
      by : (fits : Bool) → nat_le (max count 1) old.sizes.subscriber_max_buffer_size ≡ fits
          → (if fits then Ok (max count 1) else Err error.BufferSizeExceedsMaxSupportedBufferSizeOfService) ≡ Err why
          → (why ≡ error.BufferSizeExceedsMaxSupportedBufferSizeOfService)
          × (nat_lt service.settings.subscriber_max_buffer_size (max 1 count) ≡ true)
      by true fits is = absurd (wrong is)
        where
          wrong : Ok (max count 1) ≡ Err why → ⊥
          wrong e = cc
      by false fits is =
          let same : error.BufferSizeExceedsMaxSupportedBufferSizeOfService ≡ why = cc in
          let over = leb-false (max count 1) old.sizes.subscriber_max_buffer_size fits in
          (sym same, lt-ltb service.settings.subscriber_max_buffer_size (max 1 count) (omega (arith, over, room_is)))

  -- it is refused where more may wait than the service allows
  too_many : (why : SubscriberCreateError) → buffer_of config.buffer_size old.sizes ≡ Err why → Result_of (Err why) old
  too_many why is =
      let over = buffer_over options.buffer_size why (ap (λ named. buffer_of named old.sizes) (sym asked.buffer_size) ∙ is) in
      arrives (Err why) names.reader old service (rw over.1 (ap (λ it. reply.Refused (refusal.Subscriber it)) over.0, refl)) stands

  same_list : service.subscriber_list.places
      ≡ map (option_map (λ (member : Member SubscriberEntry). names.subscriber member.value.subscriber)) old.subscriber_list.places
  same_list = ap (λ (list : PortList). list.places) stands.subscriber_list

  place_is : subscriber_place old ≡ position (λ member. not (is_some member)) old.subscriber_list.places
  place_is =
      ap (λ b. if b then (if may_change old.subscriber_list then position (λ member. not (is_some member)) old.subscriber_list.places
      else None) else None) (lt-ltb (old.next_port + 1) (2 ^ 64) counted)
      ∙ ap (λ b. if b then position (λ member. not (is_some member)) old.subscriber_list.places else None) may_list

  module _ (size : ℕ) (is_size : buffer_of config.buffer_size old.sizes ≡ Ok size) where
    sized : (one.buffer_size ≡ size) × (size ≤ old.sizes.subscriber_max_buffer_size)
    sized = buffer_ok options.buffer_size size (ap (λ named. buffer_of named old.sizes) (sym asked.buffer_size) ∙ is_size)

    not_over : nat_lt service.settings.subscriber_max_buffer_size one.buffer_size ≡ false
    not_over = le-ltb service.settings.subscriber_max_buffer_size one.buffer_size (omega (arith, sized.0, sized.1, room_is))

    -- where no place is free it is refused
    no_place : subscriber_place old ≡ None → Result_of (Err error.ExceedsMaxSupportedSubscribers) old
    no_place none =
        let all = ap (list_all is_some) same_list
        ∙ all_there (λ (member : Member SubscriberEntry). names.subscriber member.value.subscriber) old.subscriber_list.places
        (all_taken old.subscriber_list.places (sym place_is ∙ none)) in
        arrives (Err error.ExceedsMaxSupportedSubscribers) names.reader old service (rw not_over (rw all (refl, refl))) stands

    module _ (place : ℕ) (is_place : subscriber_place old ≡ Some place) where
      found_place : (place < length old.subscriber_list.places) × (get_or old.subscriber_list.places place None ≡ None)
      found_place =
          let it = position-Some (λ member. not (is_some member)) old.subscriber_list.places place None (sym place_is ∙ is_place) in (
            it.0,
            none_of (get_or old.subscriber_list.places place None)
                (not-true (is_some (get_or old.subscriber_list.places place None)) it.1),
          )

      machine_free : get_or service.subscriber_list.places place None ≡ None
      machine_free =
          ap (λ all. get_or all place None) same_list
          ∙ mapped_at (λ (member : Member SubscriberEntry). names.subscriber member.value.subscriber) old.subscriber_list.places place
          ∙ ap (option_map (λ (member : Member SubscriberEntry). names.subscriber member.value.subscriber)) found_place.1

      machine_within : place < length service.subscriber_list.places
      machine_within = omega (
        arith,
        found_place.0,
        ap (λ all. length all) same_list,
        length-map old.subscriber_list.places (option_map (λ (member : Member SubscriberEntry). names.subscriber member.value.subscriber)),
      )

      not_full : list_all is_some service.subscriber_list.places ≡ false
      not_full = list_all_at is_some service.subscriber_list.places place None machine_within (ap is_some machine_free)

      -- or for want of memory
      no_memory : Result_of (Err error.OutOfMemory) old
      no_memory = arrives (Err error.OutOfMemory) names.reader old service (rw not_over (rw not_full (inl (refl, refl)))) stands

      -- the subscriber before it follows the list
      abbrev first : SubscriberPort
      first = new_subscriber (identity_of config.owner place old) size old.sizes.max_publishers old.sizes.expired_connections

      abbrev quiet : SubscriberPort
      quiet = record first { again = false }

      no_key : (key : ℕ) (attached : Attached) {A : Type 0} → attached_at key quiet ≡ Some attached → A
      no_key key attached has =
          never_some attached (sym (same_at None (old.sizes.max_publishers + old.sizes.expired_connections) key) ∙ has)

      most_is : old.sizes.max_publishers ≡ service.settings.max_publishers
      most_is = ap (λ (all : ServiceSizes). all.max_publishers) stands.sizes

      quiet_is : SubscriberStandsFor names.publisher old.sizes.max_publishers old.sizes.expired_connections quiet one
      quiet_is = record {
        factory = sym asked.owner;
        stands = refl;
        buffer_size = sized.0;
        seen = refl;
        again = refl;
        connected = λ standing.
            let count : old.sizes.max_publishers - 0 ≡ service.settings.max_publishers = omega (arith, most_is) in
            sym (mapped_none (publisher_by names.publisher quiet) service.settings.max_publishers)
            ∙ ap (λ n. map (option_map (publisher_by names.publisher quiet)) (replicate n None)) (sym count);
        expired = λ standing. refl;
        room = refl;
      }

      next_once : how_often old.next_port (keys_of old.subscribers) ≡ 0
      next_once = none_below old.next_port (keys_of old.subscribers) roomy.numbered.1

      next_none : subscriber_of old.next_port old.subscribers ≡ None
      next_none = ((numbers_stay {T = T} {U = U} (λ from to. ⊥) (λ info action. ⊥) (λ info decision. ⊥)).next old roomy.numbered).1

      named_so : name ≢ 0
      named_so same = absurd (omega (arith, same))

      abbrev there_ports : ServicePorts T U
      there_ports = came_ports names lent held buffer old service name place size quiet one stands fresh named_so next_none next_once
          found_place.1 found_place.0 refl refl refl sized.1 refl sized.0 quiet_is

      abbrev there_names : Naming
      there_names = came_names names lent held buffer old service name place size quiet one stands fresh named_so next_none next_once
          found_place.1 found_place.0 refl refl refl sized.1 refl sized.0 quiet_is

      abbrev there_service : Service T
      there_service = came_service names lent held buffer old service name place size quiet one stands fresh named_so next_none next_once
          found_place.1 found_place.0 refl refl refl sized.1 refl sized.0 quiet_is

      there_stands : StandsFor there_names lent held buffer there_ports there_service
      there_stands = came_stands names lent held buffer old service name place size quiet one stands fresh named_so next_none next_once
          found_place.1 found_place.0 refl refl refl sized.1 refl sized.0 quiet_is

      ready : IsReady old.next_port quiet there_ports
      ready = record {
        fit = (goes_same first quiet (new_fits (identity_of config.owner place old) size old.sizes.max_publishers
            old.sizes.expired_connections) refl refl refl).fit;
        room = refl;
        reads = record {
          named = refl;
          reads = λ key attached has. no_key key attached has;
          apart = λ key other first_one second has also same. no_key key first_one has;
          placed = λ key at_place attached member has listed same. no_key key attached has;
        };
        sound = all_then (IsSoundEntry old.next_port) (IsSoundEntry (old.next_port + 1)) old.publishers
            (λ entry sound. let below = sound.0 in (omega (arith, below), sound.1)) roomy.sound;
        sized = roomy.allowed;
        well = all_then (IsWellEntry old.next_port old.subscriber_list.places)
            (IsWellEntry (old.next_port + 1) there_ports.subscriber_list.places) old.publishers
            (λ entry well standing. tied_still old.next_port place old.subscriber_list.places _ entry.1 refl found_place.0 (well standing))
            roomy.tied.well;
        list_once = record {
          apart = roomy.list.apart;
          below = λ at_place member listed. let it = roomy.list.below at_place member listed in omega (arith, it);
        };
        places = roomy.keyed.list;
      }

      its_name : there_names.subscriber old.next_port ≡ name
      its_name = ap (λ b. if b then name else names.subscriber old.next_port) (eq-eqb old.next_port old.next_port refl)

      one_there : at (there_names.subscriber old.next_port) there_service.subscribers ≡ Some one
      one_there = ap (λ n. at n there_service.subscribers) its_name ∙ at_end name one service.subscribers fresh

      -- it follows the list, and is connected
      comes : (items : List (Option (Member PublisherEntry))) → IsListOf items old.publisher_list
          → (outcome : Result (Unit {0}) ConnectionFailure) (after : SubscriberPort) (ports_after : List (ℕ × PublisherPort T U))
          → UpdatesIf false may items old.publisher_list.changes first old.publishers outcome after ports_after
          → (so : ℕ) → Result_of (Ok so) (with_both old.next_port after ports_after there_ports)
      comes items is_list outcome after ports_after follows so =
          let it = update_stands there_names lent held buffer there_ports there_service old.next_port quiet one there_stands
          (lookup-came old.next_port quiet old.subscribers) one_there ready (omega (arith, sized.0, sized.1)) refl may
          (λ (action : DegradationAction). Unit {0})
          (λ info action is. tt) items
          is_list
          outcome after ports_after follows in
          by it.reader it.later it.mid (subst (λ n. Follows buffer n one there_service it.later it.mid) its_name it.follows) it.stands_after
        where
          by : (reader : ℕ → ℕ → ℕ) (later : Subscriber) (mid : Service T) → Follows buffer name one there_service later mid
              → StandsFor (record there_names { reader = reader }) lent held buffer
              (with_both old.next_port after ports_after there_ports) mid
              → Result_of (Ok so) (with_both old.next_port after ports_after there_ports)
          by reader later mid (refused, refused_all, connected, is_connected, is_later, is_mid) stands_then =
              let with_later : Service T = shorthands.with_subscriber name later there_service in
              let before : Service T = record mid { subscriber_list = service.subscriber_list } in
              let list_is : mid.subscriber_list ≡ registered place name service.subscriber_list =
              ap (λ (s : Service T). s.subscriber_list) (is_mid ∙ only_boxes one.buffer_size name (those connected) with_later) in
              let is_before : before ≡ fold (λ (s : Service T) publisher. connect one.buffer_size publisher name s)
              (record with_later { subscriber_list = service.subscriber_list }) (those connected) =
              ap (λ (s : Service T). record s { subscriber_list = service.subscriber_list }) is_mid
              ∙ sym (connects_list one.buffer_size name (those connected) with_later service.subscriber_list) in
              arrives (Ok so) reader (with_both old.next_port after ports_after there_ports) mid
              (rw not_over (rw not_full (inr (
                place,
                free_at service.subscriber_list.places place machine_within machine_free,
                later,
                before,
                (refused, refused_all, connected, is_connected, is_later, is_before),
                refl,
                ap (λ (list : PortList). record mid { subscriber_list = list }) list_is,
              ))))
              stands_then

      adds : (outcome : Result ℕ AllocError) → AddsSubscriber may config.owner place size old outcome new
          → answer ≡ subscriber_answer outcome → Result_of answer new
      adds (Err error_so) is_new is_answer = rw is_answer (rw is_new no_memory)
      adds (Ok number) (between, (items, is_list, outcome, after, ports_after, updates, is_between), is_number, is_new) is_answer =
          let self : at_number old.next_port old.next_port ≡ true = ap is_eq (sym (nat_cmp_is old.next_port old.next_port Equal refl)) in
          subst (λ so. Result_of so new) (sym is_answer)
          (subst (λ ports. Result_of (Ok number) ports)
          (sym (is_new ∙ ap (λ (it : ServicePorts T U). record it {
            next_port = there_ports.next_port;
            subscriber_list = there_ports.subscriber_list;
          }) is_between
          ∙ ap (λ all. record there_ports { publishers = ports_after; subscribers = all })
          (set_came old.next_port first quiet after old.subscribers self)))
          (comes items is_list outcome after ports_after
          (subst (λ b. UpdatesIf b may items old.publisher_list.changes first old.publishers outcome after ports_after)
          (and_no (0 == old.publisher_list.changes)) updates) number))
        where
          and_no : (b : Bool) → (b && false) ≡ false
          and_no true = refl
          and_no false = refl

  by : (asked_size : Result ℕ SubscriberCreateError) → buffer_of config.buffer_size old.sizes ≡ asked_size → (found : Option ℕ)
      → subscriber_place old ≡ found → CreatesSubscriber may config.owner asked_size found old answer new → Result_of answer new
  by (Err why) is found is_place creates = rw creates.0 (rw creates.1 (too_many why is))
  by (Ok size) is None is_place creates = rw creates.0 (rw creates.1 (no_place size is is_place))
  by (Ok size) is (Some place) is_place (outcome, step, is_answer) = adds size is place is_place outcome step is_answer

pub subscriber_comes_matches : (T U : Type 0) (choices : Choices T) (may : DegradationInfo → DegradationAction → Type 0)
    → SubscriberComesMatches T U choices may
subscriber_comes_matches T U choices may types buffer names lent held old new service state factory made options config answer stands
    roomy
    is_made of_made asked some_room fresh counted may_list creates =
    by types choices buffer names lent held old new service state factory made options config may answer stands roomy is_made of_made
    asked
    some_room fresh counted may_list (buffer_of config.buffer_size old.sizes) refl (subscriber_place old) refl creates
