-- The lanes of a domain stand for the service of the machine for which its ports do.
use Rattle.std.proofs.Common.{ℕ, zero, suc, ◌≡◌, ◌+◌, ◌*◌, ◌<◌, ◌≤◌, ◌^◌, ◌&&◌, ◌||◌, Bool, true, false, not}
use Rattle.std.proofs.Common.{nat_le, nat_lt, if◌then◌else◌, List, [], ◌∷◌, ◌++◌, length, map, get_or, slice_get, is_some, Option, Some}
use Rattle.std.proofs.Common.{None}
use Rattle.std.proofs.Common.{refl, sym, ◌∙◌, ap, subst, inl, inr, arith, option_map, unwrap_or}
use Rattle.std.proofs.lemmas.Bool.{cases_lt, leb-true, ltb-false}
use Rattle.std.proofs.lemmas.List.{length-map, map-append}
use Rattle.std.proofs.lemmas.Option.{slice_get-map, slice_get_within}
use Rattle.std.specs.List.{list_any}
use Rattle.std.specs.Option.{option_map_or}
use Rattle.iox_command.specs.DomainValues.declared.backpressure.BackpressureDecision.{BackpressureDecision}
use Rattle.iox_command.specs.DomainValues.declared.backpressure.BackpressureDecision.TheVariants as decided
use Rattle.iox_command.specs.DomainValues.Actions.{decision_of}
use Rattle.iox_domain.proofs.Keys.{key_there, often_append}
use Rattle.iox_domain.specs.DomainValues.declared.backpressure.BackpressureDecision.{BackpressureDecision}
use Rattle.iox_domain.specs.Attaching as attaching
use Rattle.iox_domain.specs.Container.declared.container.Member.{Member}
use Rattle.iox_domain.specs.DomainPorts.Messages.{Message}
use Rattle.iox_domain.specs.DomainPorts.MessagesSending.{connection_by, slots_of}
use Rattle.iox_domain.specs.DomainPorts.Places.{reached}
use Rattle.iox_domain.specs.DomainPorts.Ports.{connection_of, goes_on, is_live}
use Rattle.iox_domain.specs.DomainPorts.Publishers.{port_of}
use Rattle.iox_domain.specs.DomainPorts.Subscribing.{attached_at}
use Rattle.iox_domain.specs.DomainPorts.declared.attached.Attached.{Attached}
use Rattle.iox_domain.specs.DomainPorts.declared.attached.Taken.{Taken}
use Rattle.iox_domain.specs.DomainPorts.declared.publisher_entry.PublisherEntry.{PublisherEntry}
use Rattle.iox_domain.specs.DomainPorts.declared.publisher_port.PublisherPort.{PublisherPort}
use Rattle.iox_domain.specs.DomainPorts.declared.subscriber_entry.SubscriberEntry.{SubscriberEntry}
use Rattle.iox_domain.specs.DomainPorts.declared.subscriber_port.SubscriberPort.{SubscriberPort}
use Rattle.iox_domain.specs.DomainSlots.Counting.{times}
use Rattle.iox_domain.specs.DomainSlots.Uses as uses
use Rattle.iox_domain.specs.DomainSlots.Uses.{Connection, held_by, in_use, is_open, is_there, nobody}
use Rattle.iox_domain.specs.DomainSlots.declared.stage.Stage.{Stage}
use Rattle.iox_domain.specs.DomainSlots.declared.stage.Stage.TheVariants as stage
use Rattle.iox_domain.specs.DomainValues.declared.service_sizes.ServiceSizes.{ServiceSizes}
use Rattle.iox_domain.specs.Kept.{kept_under}
use Rattle.iox_domain.specs.Roomy.{AreRoomy}
use Rattle.iox_domain.specs.Subscribers.{subscriber_of}
use Rattle.iox_domain.specs.declared.domain.Domain.{Domain}
use Rattle.iox_domain.specs.declared.ports.service_ports.ServicePorts.{ServicePorts}
use Rattle.iox_domain_machine.proofs.FollowLists.{contained_at, contains_there, mapped_at}
use Rattle.iox_domain_machine.proofs.Hearing.{Hears, hears}
use Rattle.iox_domain_machine.proofs.LendingFull.{used_is}
use Rattle.iox_domain_machine.proofs.LendingUses.{held_to, joins}
use Rattle.iox_domain_machine.specs.Mailboxes.{MailboxesStandFor}
use Rattle.iox_domain_machine.specs.Naming.{Naming, mailbox_as, message_as}
use Rattle.iox_domain_machine.specs.Publishers.{PublisherStandsFor}
use Rattle.iox_domain_machine.specs.Standing.{StandsFor}
use Rattle.iox_domain_machine.specs.Subscribers.{SubscriberStandsFor, publisher_by}
use Rattle.iox_domain_machine.specs.Tables.{LentSlot}
use Rattle.iox_lanes.proofs.Presence.{neither, no_reason, not_no, rested}
use Rattle.iox_lanes.proofs.Sound.{fits}
use Rattle.iox_lanes.proofs.Tied.{lingers, none_at}
use Rattle.iox_lanes.specs.Failing.{FailAsAsked}
use Rattle.iox_lanes.specs.Holding.{IsLaneOf, LanesHold, numbers_of}
use Rattle.iox_lanes.specs.Lying.{IsLaidAt}
use Rattle.iox_lanes.specs.Sized.{AreSized}
use Rattle.iox_lanes.specs.Spelling.{Spelling, spelling_of}
use Rattle.iox_lanes_laws.specs.Subscribing.{OneOf}
use Rattle.iox_lanes_machine.proofs.Ends.{some_is}
use Rattle.iox_lanes_machine.proofs.LanesParties.Rings.{all_at}
use Rattle.iox_lanes_machine.proofs.Mailboxes.{order_there}
use Rattle.iox_lanes_machine.proofs.Owned.{mail_is_own}
use Rattle.iox_lanes_machine.proofs.Paces.{came_kept}
use Rattle.iox_lanes_machine.proofs.RestingRings.{mail_is}
use Rattle.iox_lanes_machine.specs.Borrowing.{borrows, is_at}
use Rattle.iox_lanes_machine.specs.Fresh.{IsFresh}
use Rattle.iox_lanes_machine.specs.FullLoans.{IsInUse}
use Rattle.iox_lanes_machine.specs.Kept.{IsKept, receiver}
use Rattle.iox_lanes_machine.specs.Kept as lanes
use Rattle.iox_lanes_machine.specs.LanesBase.Table.{TableWords}
use Rattle.iox_lanes_machine.specs.LanesBase.declared.calls.route.Route.{Route}
use Rattle.iox_lanes_machine.specs.LanesParties.Parties.{PublisherLaneState, SubscriberLaneState, route_at}
use Rattle.iox_lanes_machine.specs.LedgerUses.{IsOwn, count, one_if}
use Rattle.iox_lanes_machine.specs.Links.{LinkState}
use Rattle.iox_lanes_machine.specs.Owned.{IsSlotOf}
use Rattle.iox_lanes_machine.specs.Resting.{AllBetween, mail_at, mail_by}
use Rattle.iox_lanes_machine.specs.Rings.{waiting}
use Rattle.iox_lanes_machine.specs.WholeReads.{CameTo}
use Rattle.iox_lanes_machine.specs.World.{World}
use Rattle.iox_lanes_opening.specs.Deciding.{has_handlers, is_failure, is_retry, is_retrying, retries, would_fail, would_wait}
use Rattle.iox_lanes_opening.specs.Lingering.{connection_lingers, has_ended, has_left_over, has_out, is_listed_publisher}
use Rattle.iox_lanes_opening.specs.Lingering.{is_listed_subscriber, leads_nowhere, publisher_lingers, subscriber_lingers}
use Rattle.iox_lanes_opening.specs.Middles.{middle_count}
use Rattle.iox_lanes_opening.specs.Refusals.{first_reason, has_growing, is_blocked}
use Rattle.iox_lanes_opening.specs.UpToDate.{is_up_to_date}
use Rattle.iox_lanes_service.proofs.Tables.{counted_stands}
use Rattle.iox_lanes_service.proofs.Used.{WaitsAt, held_split}
use Rattle.iox_lanes_service.specs.Naming.{LaneLoan, LaneNaming, LaneSample, reader_name, writer_name}
use Rattle.iox_lanes_service.specs.Ports.{LanePublisherIs, LaneSubscriberIs, NumbersOwn, passing_over}
use Rattle.iox_lanes_service.specs.Standing.{JoinsNoneOf, LanesStandFor}
use Rattle.iox_lanes_sound.proofs.Current.{HasFollowed, connected_listed, has_followed, has_read, listed_names, reached_same, tied_or_not}
use Rattle.iox_lanes_sound.proofs.Having.{have_messages, listed_as, name_is}
use Rattle.iox_lanes_sound.proofs.Joints.{joint, laid, link_there, reader_at, sender_at}
use Rattle.iox_lanes_sound.proofs.Routes.{routes_ordered}
use Rattle.iox_lanes_sound.proofs.Sound.{slot_at, times_front, times_some}
use Rattle.iox_lanes_sound.specs.Having.{AreReadBack, HaveMessages, RemembersAs, lane_names}
use Rattle.iox_lanes_sound.specs.Lanes.{DecideAsKept}
use Rattle.iox_machine.specs.Choices.{Choices}
use Rattle.iox_machine.specs.Mailbox.{Mailbox}
use Rattle.iox_machine.specs.PortList.{PortList, those}
use Rattle.iox_machine.specs.Service.{Publisher, Service, Subscriber, mailbox}
use Rattle.iox_machine.specs.Table.{at, contains}

-- one of these messages stands in each slot that is laid
laid_there : {T U : Type 0} (spelling : Spelling T U) (table : TableWords) (first : ℕ)
    (port : PublisherPort T U) (laid : List ℕ) (messages : List (Message T U)) → length laid ≡ length messages
    → ((place : ℕ) → IsLaidAt spelling table first port (slice_get laid place) (slice_get messages place))
    → (place slot : ℕ) → slice_get laid place ≡ Some slot
    → (message : Message T U) × (slice_get messages place ≡ Some message) × (slot ≡ first + message.slot)
laid_there spelling table first port [] messages many each place slot is = absurd (cc is)
laid_there spelling table first port (x ∷ laid) [] many each place slot is = absurd (omega (arith, many))
laid_there spelling table first port (x ∷ laid) (message ∷ messages) many each zero slot is =
    (message, refl, sym (some_is x slot is) ∙ some_is x (first + message.slot) (each 0).0)
laid_there spelling table first port (x ∷ laid) (message ∷ messages) many each (suc place) slot is =
    laid_there spelling table first port laid messages (omega (arith, many)) (λ k. each (suc k)) place slot is

-- who is listed has a place among the numbers
among_numbers : {V : Type 0} (number_of : V → ℕ) (places : List (Option (Member V))) (place : ℕ) (member : Member V)
    → get_or places place None ≡ Some member
    → (index : ℕ) × (slice_get (numbers_of number_of places) index ≡ Some (number_of member.value))
among_numbers number_of [] place member is = absurd (cc is)
among_numbers number_of (None ∷ rest) zero member is = absurd (cc is)
among_numbers number_of (Some own ∷ rest) zero member is = (zero, ap (λ (m : Member _). Some (number_of m.value)) (some_is own member is))
among_numbers number_of (None ∷ rest) (suc place) member is = among_numbers number_of rest place member is
among_numbers number_of (Some own ∷ rest) (suc place) member is =
    let later = among_numbers number_of rest place member is in
    (suc later.0, later.1)

-- lists of as many that are the same at each place
mapped_same : {X : Type 0} (f : X → ℕ) (g : ℕ → ℕ) (xs : List X) (ys : List ℕ) → length xs ≡ length ys
    → ((index : ℕ) (x : X) → slice_get xs index ≡ Some x → f x ≡ g (get_or ys index 0)) → map f xs ≡ map g ys
mapped_same f g [] [] long same = refl
mapped_same f g [] (y ∷ ys) long same = absurd (omega (arith, long))
mapped_same f g (x ∷ xs) [] long same = absurd (omega (arith, long))
mapped_same f g (x ∷ xs) (y ∷ ys) long same =
    ap (λ z. z ∷ map f xs) (same zero x refl)
    ∙ ap (λ rest. g y ∷ rest) (mapped_same f g xs ys (omega (arith, long)) (λ index one is. same (suc index) one is))

some_there : {X : Type 0} (xs : List X) (index : ℕ) → index < length xs → (x : X) × (slice_get xs index ≡ Some x)
some_there [] index below = absurd (omega (arith, below))
some_there (x ∷ xs) zero below = (x, refl)
some_there (x ∷ xs) (suc index) below = some_there xs index (omega (arith, below))

from_zero : (k : ℕ) → nat_le 0 k ≡ true
from_zero k = grind arith

-- a connection that doesn't linger didn't end
none_ended : {X : Type 0} (connections : List (Connection X)) (index : ℕ) → list_any connection_lingers connections ≡ false
    → has_ended (get_or connections index nobody).stage ≡ false
none_ended [] index none = refl
none_ended (connection ∷ rest) zero none =
    (neither (has_ended connection.stage) (nat_lt 0 (length connection.borrowed))
    (neither (connection_lingers connection) (list_any connection_lingers rest) none).0).0
none_ended (connection ∷ rest) (suc index) none =
    none_ended rest index (neither (connection_lingers connection) (list_any connection_lingers rest) none).1

goes_still : (now : Stage) → is_open now ≡ true → has_ended now ≡ false → goes_on now ≡ true
goes_still stage.Vacant there over = absurd (cc there)
goes_still stage.Live there over = refl
goes_still stage.Ended there over = absurd (cc over)

front_empty : {X : Type 0} (xs ys : List X) → xs ++ ys ≡ [] → xs ≡ []
front_empty [] ys is = refl
front_empty (x ∷ xs) ys is = absurd (cc is)

passing : (decision : Option BackpressureDecision) → is_retry decision ≡ false → decision ≡ Some (passing_over (is_failure decision))
passing None is = absurd (cc is)
passing (Some decided.Retry) is = absurd (cc is)
passing (Some decided.DiscardData) is = refl
passing (Some decided.DiscardDataAndFail) is = refl

-- nothing waits in a mailbox, and nothing is borrowed of it
abbrev IsEmpty : {T : Type 0} → Mailbox T → Type 0
IsEmpty box = (box.waiting ≡ []) × (box.borrowed ≡ [])

-- one that isn't there is empty
empty_by : {T : Type 0} (publisher other : ℕ) (service : Service T) (box : Option (Mailbox T)) → service.mailboxes publisher other ≡ box
    → ((one : Mailbox T) → box ≡ Some one → IsEmpty one) → IsEmpty (mailbox publisher other service)
empty_by {T} publisher other service None found empty = (
  ap (λ (box : Option (Mailbox T)). (unwrap_or box (record { limit = 0; waiting = []; borrowed = [] })).waiting) found,
  ap (λ (box : Option (Mailbox T)). (unwrap_or box (record { limit = 0; waiting = []; borrowed = [] })).borrowed) found,
)
empty_by {T} publisher other service (Some one) found empty =
    let it = empty one refl in (
      ap (λ (box : Option (Mailbox T)). (unwrap_or box (record { limit = 0; waiting = []; borrowed = [] })).waiting) found ∙ it.0,
      ap (λ (box : Option (Mailbox T)). (unwrap_or box (record { limit = 0; waiting = []; borrowed = [] })).borrowed) found ∙ it.1,
    )

module _ {T U B D : Type 0} (decision : B → Option BackpressureDecision) (asks : D → Bool) (payload_words : T
    → List ℕ) (header_words : U → List ℕ)
    (value : List ℕ → T) (payload_count header_count : ℕ) (long : (x : T) → length (payload_words x) ≡ payload_count)
    (domain : Domain T U B D) (none : first_reason decision asks domain ≡ None) (m : World) (came : CameTo m)
    (senders readers indices : List ℕ)
    (h : LanesHold (spelling_of domain.state.ports.sizes.sequence_numbers payload_words payload_count header_words header_count) domain m
    senders readers indices)
    (back : AreReadBack payload_words value domain.state.ports)
    (names : Naming) (lent : List (ℕ × LentSlot)) (held : List (ℕ × Taken)) (buffer : ℕ) (service : Service T)
    (s : StandsFor names lent held buffer domain.state.ports service) (roomy : AreRoomy domain.state.ports) (between : AllBetween m)
    (sized : AreSized domain.state.ports.sizes (length senders) (length readers) payload_count
    (middle_count domain.state.ports.sizes.sequence_numbers header_count) m)
    (fail : FailAsAsked decision domain m senders) (choices : Choices T) (chosen : DecideAsKept decision choices names domain service) where
  abbrev ports : ServicePorts T U
  ports = domain.state.ports

  abbrev numbered : Bool
  numbered = domain.state.ports.sizes.sequence_numbers

  abbrev own : LaneNaming
  own = lane_names names numbered senders readers m

  abbrev spelling : Spelling T U
  spelling = spelling_of numbered payload_words payload_count header_words header_count

  has : HaveMessages value own m service
  has = have_messages decision asks payload_words header_words value payload_count header_count long domain none m came senders readers
      indices h back
      names lent held buffer service s

  kept : IsKept m
  kept = (came_kept m came).0

  few : m.moments ≤ 2 ^ 63
  few = omega (arith, h.moments)

  fresh : IsFresh m
  fresh = kept.fresh h.moments

  sender_is : (place : ℕ) → place < length senders → slice_get senders place ≡ Some (get_or senders place 0)
  sender_is place below = sender_at spelling domain m senders readers indices h place below

  reader_is : (place : ℕ) → place < length readers → slice_get readers place ≡ Some (get_or readers place 0)
  reader_is place below = reader_at spelling domain m senders readers indices h place below

  publishers_linger : list_any (publisher_lingers ports.publisher_list) ports.publishers ≡ false
  publishers_linger = (neither (list_any (publisher_lingers ports.publisher_list) ports.publishers)
      (list_any (subscriber_lingers ports.subscriber_list ports.publishers) ports.subscribers) (lingers decision asks domain none)).0

  subscribers_linger : list_any (subscriber_lingers ports.subscriber_list ports.publishers) ports.subscribers ≡ false
  subscribers_linger = (neither (list_any (publisher_lingers ports.publisher_list) ports.publishers)
      (list_any (subscriber_lingers ports.subscriber_list ports.publishers) ports.subscribers) (lingers decision asks domain none)).1

  -- a publisher stands, and no connection of it ended
  stays : (number : ℕ) (port : PublisherPort T U) → port_of number ports.publishers ≡ Some port
      → (port.stands ≡ true) × (list_any connection_lingers port.sender.uses.connections ≡ false)
  stays number port found =
      let apart = none_at (publisher_lingers ports.publisher_list) number ports.publishers port publishers_linger found in
      let first = neither (not port.stands) (not (is_listed_publisher ports.publisher_list number port) || has_out port) apart in
      let second = neither (not (is_listed_publisher ports.publisher_list number port)) (has_out port) first.1 in (
        not_no port.stands first.0,
        (neither (nat_lt 0 (length port.sender.uses.loans)) (list_any connection_lingers port.sender.uses.connections) second.1).1,
      )

  -- A publisher of the lanes, with the one that it is of the domain, and of the machine.
  record IsSender (place : ℕ) (lane : PublisherLaneState) : Type 0 where
    pub below : place < length senders
    pub port : PublisherPort T U
    pub found : port_of (get_or senders place 0) ports.publishers ≡ Some port
    pub lane_is : IsLaneOf spelling m.table port lane
    pub member : Member PublisherEntry
    pub listed : get_or ports.publisher_list.places port.place None ≡ Some member
    pub stands : port.stands ≡ true
    pub publisher : Publisher T
    pub by_name : at (names.publisher (get_or senders place 0)) service.publishers ≡ Some publisher
    pub is : PublisherStandsFor (names.message (get_or senders place 0)) (names.reader (get_or senders place 0))
        ports.sizes.max_subscribers port publisher
    pub boxes : MailboxesStandFor (names.message (get_or senders place 0)) (names.reader (get_or senders place 0)) names.subscriber port
        (service.mailboxes (names.publisher (get_or senders place 0))) service.subscribers
    pub remembers : RemembersAs value own m lane publisher
    pub follows : HasFollowed decision asks domain none (get_or senders place 0) port

  sender_there : (place : ℕ) (lane : PublisherLaneState) → slice_get m.publishers place ≡ Some lane → IsSender place lane
  sender_there place lane there =
      let l = laid spelling domain m senders readers indices h place lane there in
      let port : PublisherPort T U = l.port in
      let found : port_of (get_or senders place 0) ports.publishers ≡ Some port = l.found in
      let (spot, member, listed, named) = listed_as (λ (entry : PublisherEntry). entry.publisher) ports.publisher_list.places place
      (get_or senders place 0) (ap (λ numbers. slice_get numbers place) (sym h.publishers) ∙ sender_is place l.below) in
      let (one, found_one, stands, at_spot) = s.present spot member listed in
      let same_port : one ≡ port = some_is one port (sym found_one ∙ ap (λ n. port_of n ports.publishers) named ∙ found) in
      let place_is : port.place ≡ spot = ap (λ (p : PublisherPort T U). p.place) (sym same_port) ∙ at_spot in
      let at_place : get_or ports.publisher_list.places port.place None ≡ Some member =
      ap (λ n. get_or ports.publisher_list.places n None) place_is ∙ listed in
      let (publisher, by_name, is_one, boxes) = s.publishers (get_or senders place 0) port found in
      let (again, by_name_too, remembers) = has.publishers place lane there in
      let same_publisher : again ≡ publisher = some_is again publisher (sym by_name_too ∙ by_name) in
      record {
        below = l.below;
        port = port;
        found = found;
        lane_is = l.is;
        member = member;
        listed = at_place;
        stands = (stays (get_or senders place 0) port found).0;
        publisher = publisher;
        by_name = by_name;
        is = is_one;
        boxes = boxes;
        remembers = subst (RemembersAs value own m lane) same_publisher remembers;
        follows = has_followed decision asks domain none (get_or senders place 0) port member at_place named found;
      }

  -- nothing is borrowed
  none_borrowed : (connection slot who : ℕ) → borrows connection slot (slice_get m.subscribers who) ≡ false
  none_borrowed connection slot who = by (slice_get m.subscribers who) refl
    where
      by : (lane : Option SubscriberLaneState) → slice_get m.subscribers who ≡ lane → borrows connection slot lane ≡ false
      by None there = refl
      by (Some lane) there = ap (λ (o : Option ℕ). is_at connection (route_at o lane)) ((fresh.subscribers who lane there).none slot)

  -- what waits at a connection is what was found there
  mail_found : (connection : ℕ) (link : LinkState) → slice_get m.links connection ≡ Some link → mail_at m connection ≡ link.found
  mail_found connection link there =
      mail_is m connection link there
      ∙ ap (waiting link) (fresh.orders connection (get_or m.orders connection []) (order_there m connection link kept there))

  module _ (place : ℕ) (lane : PublisherLaneState) (there : slice_get m.publishers place ≡ Some lane) (o : IsSender place lane) where
    abbrev first : ℕ
    first = lane.port.book.first

    abbrev name : ℕ → ℕ
    name = names.message (get_or senders place 0)

    -- a slot of a publisher that is in use is one of a message that is in use in the domain
    record IsUsed (slot : ℕ) : Type 0 where
      pub inner : ℕ
      pub same : slot ≡ first + inner
      pub within : inner < length lane.port.book.loans
      pub used : 0 < times inner (in_use (slots_of o.port.sender))

    many_slots : length lane.port.book.loans ≡ length lane.port.book.uses
    many_slots = (fresh.publishers place lane there).counted.loans_each

    in_domain : (inner : ℕ) → times inner (in_use (slots_of o.port.sender))
        ≡ times inner (slots_of o.port.sender).loans
        + (times inner (map (λ (one : Message T U). one.slot) o.port.sender.uses.history)
        + times inner (uses.held (map (connection_by (λ (one : Message T U). one.slot)) o.port.sender.uses.connections)))
    in_domain inner = used_is o.port inner (rested decision asks domain (get_or senders place 0) o.port none o.found).quiet.idle

    used_by : (slot : ℕ) → IsOwn lane.port.book slot → (messages : List (Message T U)) (index : ℕ) (message : Message T U)
        → slice_get messages index ≡ Some message → slot ≡ first + message.slot
        → (0 < times message.slot (map (λ (one : Message T U). one.slot) messages)
        → 0 < times message.slot (in_use (slots_of o.port.sender)))
        → IsUsed slot
    used_by slot mine messages index message is same used = record {
      inner = message.slot;
      same = same;
      within = omega (arith, same, mine.below, many_slots);
      used = used (times_some message.slot (map (λ (one : Message T U). one.slot) messages) index (slot_at messages index message is));
    }

    remembered : (slot : ℕ) → IsOwn lane.port.book slot → 0 < count slot lane.port.book.history → IsUsed slot
    remembered slot mine some =
        let (index, stood) = counted_stands lane.port.book.history slot some in
        let (message, is, same) = laid_there spelling m.table first o.port lane.port.book.history
        o.port.sender.uses.history o.lane_is.history.as_many o.lane_is.history.each index slot stood in
        used_by slot mine o.port.sender.uses.history index message is same (λ some_one. omega (arith, some_one, in_domain message.slot))

    waits_there : (slot connection : ℕ) (link : LinkState) → IsOwn lane.port.book slot → slice_get m.links connection ≡ Some link
        → 0 < count slot (mail_at m connection) → IsUsed slot
    waits_there slot connection link mine found some =
        let mail = mail_found connection link found in
        let (index, stood) = counted_stands link.found slot (subst (λ (slots : List ℕ). 0 < count slot slots) mail some) in
        let whose : IsSlotOf m link.publisher slot =
        mail_is_own m connection kept few link found index slot (ap (λ slots. slice_get slots index) mail ∙ stood) in
        let j = joint spelling domain m senders readers indices h connection link found in
        let same_place : link.publisher ≡ place = one_place link.publisher whose.lane whose.found whose.above whose.below in
        let same_port : j.port ≡ o.port =
        some_is j.port o.port (sym j.found ∙ ap (λ p. port_of (get_or senders p 0) ports.publishers) same_place ∙ o.found) in
        let same_lane : j.lane ≡ lane = some_is j.lane lane (sym j.got ∙ ap (slice_get m.publishers) same_place ∙ there) in
        let (message, is, same) = laid_there spelling m.table j.lane.port.book.first j.port link.found
        (connection_of j.index j.port).waiting j.waits.as_many j.waits.each index slot stood in
        used_by slot mine (connection_of j.index j.port).waiting index message is
        (same ∙ ap (λ (l : PublisherLaneState). l.port.book.first + message.slot) same_lane)
        (λ some_one. in_connection message.slot j.index
        (subst (λ (p : PublisherPort T U). 0 < times message.slot (map (λ (one : Message T U). one.slot) (connection_of j.index p).waiting))
        same_port some_one))
      where
        one_place : (other : ℕ) (behind : PublisherLaneState) → slice_get m.publishers other ≡ Some behind
            → behind.port.book.first ≤ slot → slot < behind.port.book.first + length behind.port.book.loans → other ≡ place
        one_place other behind got above below = elim (cases_lt other place) [
          | inl less ↦ absurd (omega (arith, below, mine.above, fresh.rows other place behind lane got there less))
          | inr more ↦ elim (cases_lt place other) [
            | inl less ↦ absurd (omega (arith, above, mine.below, many_slots, fresh.rows place other lane behind there got less))
            | inr fewer ↦ omega (arith, more, fewer)
          ]
        ]

        in_connection : (inner index : ℕ)
            → 0 < times inner (map (λ (one : Message T U). one.slot) (connection_of index o.port).waiting)
            → 0 < times inner (in_use (slots_of o.port.sender))
        in_connection inner index some_one =
            let both : times inner (map (λ (one : Message T U). one.slot) (held_by (connection_of index o.port)))
            ≡ times inner (map (λ (one : Message T U). one.slot) (connection_of index o.port).waiting)
            + times inner (map (λ (one : Message T U). one.slot) (connection_of index o.port).borrowed) =
            ap (times inner) (map-append (λ (one : Message T U). one.slot) (connection_of index o.port).waiting
            (connection_of index o.port).borrowed)
            ∙ times_front inner (map (λ (one : Message T U). one.slot) (connection_of index o.port).waiting)
            (map (λ (one : Message T U). one.slot) (connection_of index o.port).borrowed) in
            omega (
              arith,
              held_to inner index o.port.sender.uses.connections (omega (arith, some_one, both)),
              in_domain inner,
            )

    is_used : (slot : ℕ) → IsOwn lane.port.book slot → IsInUse m lane slot → IsUsed slot
    is_used slot mine (inl out) = absurd (cc (out, (fresh.publishers place lane there).unlent slot))
    is_used slot mine (inr (inl some)) = remembered slot mine some
    is_used slot mine (inr (inr is)) = elim (held_split m slot between is) [
      | inl w ↦ by_link w (slice_get m.links w.connection) refl
      | inr b ↦ absurd (cc (b.has, none_borrowed b.connection slot (b.link).subscriber))
    ]
      where
        by_link : (w : WaitsAt m slot) (link : Option LinkState) → slice_get m.links w.connection ≡ link → IsUsed slot
        by_link w None found = absurd (omega (
          arith,
          w.some,
          ap (λ (l : Option LinkState). count slot (mail_by l (get_or m.orders w.connection []))) found,
        ))
        by_link w (Some link) found = waits_there slot w.connection link mine found w.some

    named : (slot : ℕ) (u : IsUsed slot) → own.message slot ≡ name u.inner
    named slot u = ap own.message u.same
        ∙ name_is names.message senders m.publishers place (get_or senders place 0) lane (sender_is place o.below) there fresh.rows
        u.inner u.within

    numbers_own : NumbersOwn own.message m lane o.publisher.first o.publisher.next
    numbers_own = record {
      apart = λ one other mine yours used too same.
          let u = is_used one mine used in
          let v = is_used other yours too in
          let equal : u.inner ≡ v.inner =
          o.is.named.apart u.inner v.inner u.used v.used (sym (named one u) ∙ same ∙ named other v) in
          u.same ∙ ap (λ k. first + k) equal ∙ sym v.same;
      current = λ slot mine used.
          let u = is_used slot mine used in
          let from : nat_le o.publisher.first (name u.inner) ≡ true =
          o.is.named.current u.inner u.used
          ∙ ap (λ n. nat_le n u.inner) (fits decision asks domain none (get_or senders place 0) o.port o.found).first ∙ from_zero u.inner in
          omega (arith, leb-true o.publisher.first (name u.inner) from, named slot u);
      below = λ slot mine used.
          let u = is_used slot mine used in
          omega (arith, o.is.named.below u.inner u.used, named slot u);
      ahead = o.is.named.ahead;
    }

    -- it is connected to the subscribers of its connections, in their order
    connected : those o.publisher.connected ≡ map (λ (route : Route). reader_name own m.links route.connection) lane.port.routes
    connected =
        ap those (connected_listed decision asks domain none names lent held buffer service s roomy.tied.places (get_or senders place 0)
        o.port
        o.publisher o.follows o.is o.boxes)
        ∙ ap (λ (list : PortList). those list.places) s.subscriber_list
        ∙ listed_names (λ (entry : SubscriberEntry). entry.subscriber) names.subscriber ports.subscriber_list.places
        ∙ ap (map names.subscriber) (sym h.subscribers)
        ∙ sym (mapped_same (λ (route : Route). reader_name own m.links route.connection) names.subscriber lane.port.routes readers
        (sized.routes place lane there) (λ index route is.
        let within : index < length readers =
        omega (arith, slice_get_within lane.port.routes index route is, sized.routes place lane there) in
        let (link, found, from, to) = link_there spelling domain m senders readers indices h place index o.below within in
        ap (reader_name own m.links) (in_order index route is)
        ∙ ap (λ (l : Option LinkState). option_map_or (λ (one : LinkState). own.subscriber one.subscriber) l 0) found
        ∙ ap own.subscriber to))
      where
        in_order : (index : ℕ) (route : Route) → slice_get lane.port.routes index ≡ Some route
            → route.connection ≡ place * length readers + index
        in_order index route is =
            routes_ordered (sized.sizes) m sized.found place lane there index route is
            ∙ ap (λ n. place * n + index) (sized.are_agreed).as_many_subscribers

    -- where mailboxes may be full it may pass them over, as the lane does
    decides : service.settings.enable_safe_overflow ≡ false
        → choices.publisher_decides (names.publisher (get_or senders place 0)) 0 0
        (decision_of o.publisher.strategy o.publisher.handler) (passing_over lane.fails)
    decides refusing =
        by (kept_under (get_or senders place 0) domain.state.publisher_handlers) refl
      where
        full : ports.sizes.enable_safe_overflow ≡ false
        full = ap (λ (z : ServiceSizes). z.enable_safe_overflow) s.sizes ∙ refusing

        fails_so : lane.fails ≡ would_fail decision (kept_under (get_or senders place 0) domain.state.publisher_handlers)
        fails_so =
            let mine : slice_get (map (λ (l : PublisherLaneState). l.fails) m.publishers) place ≡ Some lane.fails =
            slice_get-map (λ (l : PublisherLaneState). l.fails) m.publishers place
            ∙ ap (option_map (λ (l : PublisherLaneState). l.fails)) there in
            let asked_so : slice_get (map (λ number. would_fail decision (kept_under number domain.state.publisher_handlers)) senders) place
            ≡ Some (would_fail decision (kept_under (get_or senders place 0) domain.state.publisher_handlers)) =
            slice_get-map (λ number. would_fail decision (kept_under number domain.state.publisher_handlers)) senders place
            ∙ ap (option_map (λ number. would_fail decision (kept_under number domain.state.publisher_handlers))) (sender_is place o.below)
            in
            some_is lane.fails (would_fail decision (kept_under (get_or senders place 0) domain.state.publisher_handlers))
            (sym mine ∙ ap (λ bs. slice_get bs place) fail ∙ asked_so)

        goes : would_wait decision (kept_under (get_or senders place 0) domain.state.publisher_handlers) ≡ false
        goes =
            let blocked = no_reason (is_blocked ports) _ _ none in
            let current = no_reason (not (is_up_to_date ports)) _ _ blocked.1 in
            let growing = no_reason (has_growing ports) _ _ current.1 in
            let handled = no_reason (has_handlers decision asks domain) _ _ growing.1 in
            let retrying = (no_reason (is_retrying decision domain) _ _ handled.1).0 in
            let waits : list_any (retries decision domain.state.publisher_handlers) ports.publishers ≡ false =
            sym (ap (λ b. not b && list_any (retries decision domain.state.publisher_handlers) ports.publishers) full) ∙ retrying in
            let one = none_at (retries decision domain.state.publisher_handlers) (get_or senders place 0) ports.publishers o.port waits
            o.found in
            sym (ap (λ b. b && would_wait decision (kept_under (get_or senders place 0) domain.state.publisher_handlers)) o.stands) ∙ one

        by : (handlers : Option B) → kept_under (get_or senders place 0) domain.state.publisher_handlers ≡ handlers
            → choices.publisher_decides (names.publisher (get_or senders place 0)) 0 0
            (decision_of o.publisher.strategy o.publisher.handler) (passing_over lane.fails)
        by None is = absurd (cc (goes, ap (would_wait decision) is))
        by (Some handlers) is =
            chosen full (get_or senders place 0) handlers (passing_over lane.fails) o.publisher is
            (passing (decision handlers) (sym (ap (would_wait decision) is) ∙ goes)
            ∙ ap (λ b. Some (passing_over b)) (sym (fails_so ∙ ap (would_fail decision) is))) o.by_name

    publisher_is : LanePublisherIs choices value own m service place lane o.publisher
    publisher_is = record {
      stands = o.remembers.stands;
      free = o.remembers.free;
      seen = o.is.seen ∙ o.follows.seen ∙ ap (λ (list : PortList). list.changes) (sym s.subscriber_list);
      most_loans = o.remembers.most_loans;
      kept = ap (λ (z : ServiceSizes). z.history_size) (sym s.sizes) ∙ sym (sized.kept place lane there);
      slots = o.remembers.slots;
      room = o.remembers.room;
      connected = connected;
      last = o.remembers.last;
      history = o.remembers.history;
      numbers = numbers_own;
      decides = decides;
    }

    -- another mailbox of the publisher has nothing
    no_others : (other : ℕ) → JoinsNoneOf own m.links place other
        → ((mailbox (names.publisher (get_or senders place 0)) other service).waiting ≡ [])
        × ((mailbox (names.publisher (get_or senders place 0)) other service).borrowed ≡ [])
    no_others other apart = empty_by (names.publisher (get_or senders place 0)) other service
        (service.mailboxes (names.publisher (get_or senders place 0)) other) refl some_box
      where
        -- nobody whose name is the other one is listed
        unlisted : (spot : ℕ) (member : Member SubscriberEntry) → get_or ports.subscriber_list.places spot None ≡ Some member
            → names.subscriber member.value.subscriber ≡ other → ⊥
        unlisted spot member listed same =
            let (index, found) = among_numbers (λ (entry : SubscriberEntry). entry.subscriber) ports.subscriber_list.places spot member
            listed in
            let reads : slice_get readers index ≡ Some member.value.subscriber = ap (λ ns. slice_get ns index) h.subscribers ∙ found in
            let within : index < length readers = slice_get_within readers index member.value.subscriber reads in
            let (link, there_is, from, to) = link_there spelling domain m senders readers indices h place index o.below within in
            let number_is : get_or readers index 0 ≡ member.value.subscriber =
            some_is (get_or readers index 0) member.value.subscriber (sym (reader_is index within) ∙ reads) in
            apart (place * length readers + index) link there_is from (ap own.subscriber to ∙ ap names.subscriber number_is ∙ same)

        is_empty : (index : ℕ) → is_live index o.port ≡ true → names.reader (get_or senders place 0) index ≡ other
            → (connection_of index o.port).waiting ≡ []
        is_empty index live same = elim (tied_or_not o.port.ties.items index) [
          | inl tied ↦ absurd (by_entry tied.0 (get_or ports.subscriber_list.places tied.0 None) refl tied.1)
          | inr untied ↦ front_empty (connection_of index o.port).waiting (connection_of index o.port).borrowed
              (o.boxes.unmet o.stands index live untied)
        ]
          where
            by_entry : (spot : ℕ) (entry : Option (Member SubscriberEntry)) → get_or ports.subscriber_list.places spot None ≡ entry
                → get_or o.port.ties.items spot None ≡ Some index → ⊥
            by_entry spot None listed tied =
                absurd (cc (sym (o.follows.free spot index tied) ∙ ap (λ (e : Option (Member SubscriberEntry)). is_some e) listed))
            by_entry spot (Some member) listed tied =
                let met = o.follows.met spot member listed in
                let equal : met.index ≡ index = some_is met.index index (sym met.tie ∙ tied) in
                unlisted spot member listed
                (ap names.subscriber (sym met.reader) ∙ sym (o.boxes.read met.index met.to met.read).0
                ∙ ap (names.reader (get_or senders place 0)) equal ∙ same)

        live_box : (index : ℕ) → is_there (connection_of index o.port) ≡ true → names.reader (get_or senders place 0) index ≡ other
            → (box : Mailbox T) → service.mailboxes (names.publisher (get_or senders place 0)) other ≡ Some box → IsEmpty box
        live_box index there_is same box found =
            let live : is_live index o.port ≡ true =
            goes_still (connection_of index o.port).stage there_is
            (none_ended o.port.sender.uses.connections index (stays (get_or senders place 0) o.port o.found).1) in
            let box_is : mailbox_as name (connection_of index o.port) ≡ box =
            some_is (mailbox_as name (connection_of index o.port)) box
            (sym (o.boxes.live index live) ∙ ap (service.mailboxes (names.publisher (get_or senders place 0))) same ∙ found) in (
              ap (λ (b : Mailbox T). b.waiting) (sym box_is) ∙ ap (map (message_as name)) (is_empty index live same),
              ap (λ (b : Mailbox T). b.borrowed) (sym box_is)
                  ∙ ap (map (message_as name)) ((rested decision asks domain (get_or senders place 0) o.port none o.found).none index),
            )

        some_box : (box : Mailbox T) → service.mailboxes (names.publisher (get_or senders place 0)) other ≡ Some box → IsEmpty box
        some_box box found =
            elim (joins (names.reader (get_or senders place 0)) other o.port.sender.uses.connections) [
              | inl one ↦ live_box one.0 one.1 one.2 box found
              | inr nobody_is ↦
                  let it = o.boxes.others other nobody_is box found in
                  (it.1 o.stands, it.0)
            ]

  -- A subscriber of the lanes, with the one that it is of the domain, and of the machine.
  record IsReader (place : ℕ) (lane : SubscriberLaneState) : Type 0 where
    pub below : place < length readers
    pub port : SubscriberPort
    pub found : subscriber_of (get_or readers place 0) ports.subscribers ≡ Some port
    pub spot : ℕ
    pub member : Member SubscriberEntry
    pub listed : get_or ports.subscriber_list.places spot None ≡ Some member
    pub named : member.value.subscriber ≡ get_or readers place 0
    pub stands : port.stands ≡ true
    pub subscriber : Subscriber
    pub by_name : at (names.subscriber (get_or readers place 0)) service.subscribers ≡ Some subscriber
    pub is : SubscriberStandsFor names.publisher ports.sizes.max_publishers ports.sizes.expired_connections port subscriber

  reader_there : (place : ℕ) (lane : SubscriberLaneState) → slice_get m.subscribers place ≡ Some lane → IsReader place lane
  reader_there place lane there =
      let below : place < length readers = omega (arith, slice_get_within m.subscribers place lane there, h.subscriber_count) in
      let (spot, member, listed, named) = listed_as (λ (entry : SubscriberEntry). entry.subscriber) ports.subscriber_list.places place
      (get_or readers place 0) (ap (λ numbers. slice_get numbers place) (sym h.subscribers) ∙ reader_is place below) in
      let (port, found_one, stands, at_spot) = s.present_subscribers spot member listed in
      let found : subscriber_of (get_or readers place 0) ports.subscribers ≡ Some port =
      ap (λ n. subscriber_of n ports.subscribers) (sym named) ∙ found_one in
      let (subscriber, by_name, is) = s.subscribers (get_or readers place 0) port found in
      record {
        below = below;
        port = port;
        found = found;
        spot = spot;
        member = member;
        listed = listed;
        named = named;
        stands = stands;
        subscriber = subscriber;
        by_name = by_name;
        is = is;
      }

  module _ (place : ℕ) (lane : SubscriberLaneState) (there : slice_get m.subscribers place ≡ Some lane) (o : IsReader place lane) where
    abbrev name_by : ℕ → ℕ
    name_by = publisher_by names.publisher o.port

    current : (o.port.seen ≡ ports.publisher_list.changes) × (o.port.again ≡ false)
    current = has_read decision asks domain none o.spot (get_or readers place 0) o.port o.member o.listed o.named o.found

    none_expired : length o.port.expired.items ≡ 0
    none_expired =
        let apart = none_at (subscriber_lingers ports.subscriber_list ports.publishers) (get_or readers place 0) ports.subscribers o.port
        subscribers_linger o.found in
        let first = neither (not o.port.stands) (not (is_listed_subscriber ports.subscriber_list (get_or readers place 0) o.port)
        || has_left_over ports.publishers o.port) apart in
        let second = neither (not (is_listed_subscriber ports.subscriber_list (get_or readers place 0) o.port))
        (has_left_over ports.publishers o.port) first.1 in
        let third = neither (nat_lt 0 o.port.held) (nat_lt 0 (length o.port.expired.items)
        || list_any (leads_nowhere ports.publishers) o.port.connections.values) second.1 in
        let fourth = neither (nat_lt 0 (length o.port.expired.items))
        (list_any (leads_nowhere ports.publishers) o.port.connections.values) third.1 in
        omega (arith, ltb-false 0 (length o.port.expired.items) fourth.0)

    -- who is connected at a place of the list of publishers
    connected_at : (spot : ℕ) → get_or o.subscriber.connected spot None ≡ option_map name_by (get_or o.port.places.items spot None)
    connected_at spot =
        ap (λ list. get_or list spot None) (o.is.connected o.stands)
        ∙ mapped_at name_by (reached ports.sizes.max_publishers o.port.places.items) spot
        ∙ ap (option_map name_by) (reached_same ports.sizes.max_publishers o.port.places.items spot)

    is_met : (index : ℕ) (route : Route) → slice_get lane.port.routes index ≡ Some route
        → contains (those o.subscriber.connected) (writer_name own m.links route.connection) ≡ true
    is_met index route is =
        let ends = all_at (lanes.IsLinkOf m.links receiver place) lane.port.routes index route is
        (kept.within.receivers place lane there) in
        let j = joint spelling domain m senders readers indices h route.connection ends.link ends.found in
        let sender = sender_there (ends.link).publisher j.lane j.got in
        let met = sender.follows.met o.spot o.member o.listed in
        let same : met.subscriber ≡ o.port =
        some_is met.subscriber o.port (sym met.found ∙ ap (λ n. subscriber_of n ports.subscribers) o.named ∙ o.found) in
        let keyed : get_or o.port.places.items sender.port.place None ≡ Some met.key =
        subst (λ (p : SubscriberPort). get_or p.places.items sender.port.place None ≡ Some met.key) same met.keyed in
        let attached : attached_at met.key o.port ≡ Some met.attached =
        subst (λ (p : SubscriberPort). attached_at met.key p ≡ Some met.attached) same met.there in
        let named : name_by met.key ≡ names.publisher (get_or senders (ends.link).publisher 0) =
        ap (λ (a : Option Attached). option_map_or (λ one. names.publisher one.publisher) a 0) attached
        ∙ ap names.publisher met.from in
        contains_there o.subscriber.connected sender.port.place (writer_name own m.links route.connection)
        (connected_at sender.port.place ∙ ap (option_map name_by) keyed ∙ ap (λ n. Some n) named
        ∙ ap (λ (l : Option LinkState). Some (option_map_or (λ (link : LinkState). own.publisher link.publisher) l 0))
        (sym ends.found))

    -- a place of the list of publishers that has a key has a connection, from a publisher of the lanes
    comes_from : (spot key : ℕ) → get_or o.port.places.items spot None ≡ Some key
        → (sender : ℕ) × (sender < length senders) × (name_by key ≡ names.publisher (get_or senders sender 0))
    comes_from spot key keyed = by (attached_at key o.port) refl
      where
        heard : Hears (get_or readers place 0) o.port ports.publishers
        heard = hears names lent held buffer ports service (get_or readers place 0) o.port s o.found roomy o.stands

        some_key : 0 < (if is_some (attached_at key o.port) then 1 else 0)
        some_key = omega (
          arith,
          heard.used key,
          key_there spot key o.port.places.items keyed,
          often_append key (attaching.keys_at o.port.places.items) o.port.expired.items,
        )

        by : (attached : Option Attached) → attached_at key o.port ≡ attached
            → (sender : ℕ) × (sender < length senders) × (name_by key ≡ names.publisher (get_or senders sender 0))
        by None is = absurd (omega (arith, some_key, ap {B = ℕ} (λ (a : Option Attached). if is_some a then 1 else 0) is))
        by (Some attached) is =
            let (port, found, reads) = heard.reads key attached is in
            let (member, listed, named) = s.listed attached.publisher port found (stays attached.publisher port found).0 in
            let (sender, among) = among_numbers (λ (entry : PublisherEntry). entry.publisher) ports.publisher_list.places port.place member
            listed in
            let sends : slice_get senders sender ≡ Some member.value.publisher = ap (λ ns. slice_get ns sender) h.publishers ∙ among in
            let within : sender < length senders = slice_get_within senders sender member.value.publisher sends in
            let number_is : get_or senders sender 0 ≡ member.value.publisher =
            some_is (get_or senders sender 0) member.value.publisher (sym (sender_is sender within) ∙ sends) in (
              sender,
              within,
              ap (λ (a : Option Attached). option_map_or (λ one. names.publisher one.publisher) a 0) is
                  ∙ ap names.publisher (sym (number_is ∙ named)),
            )

    subscriber_is : LaneSubscriberIs choices value own m service lane o.subscriber
    subscriber_is = record {
      stands = o.is.stands ∙ o.stands;
      seen = o.is.seen ∙ current.0 ∙ ap (λ (list : PortList). list.changes) (sym s.publisher_list);
      done = o.is.again ∙ current.1;
      expired = ap length (o.is.expired o.stands) ∙ length-map o.port.expired.items name_by ∙ none_expired;
      most_borrowed = ap (λ (z : ServiceSizes). z.subscriber_max_borrowed_samples) (sym s.sizes)
          ∙ sym (sized.borrowing place lane there);
      met = is_met;
      only = λ publisher is.
          let (spot, stood) = contained_at o.subscriber.connected publisher is in
          by_key spot publisher (get_or o.port.places.items spot None) refl (sym (connected_at spot) ∙ stood);
    }
      where
        by_key : (spot publisher : ℕ) (key : Option ℕ) → get_or o.port.places.items spot None ≡ key
            → option_map name_by (get_or o.port.places.items spot None) ≡ Some publisher
            → OneOf lane (λ route. writer_name own m.links route.connection ≡ publisher)
        by_key spot publisher None keyed is = absurd (cc (is, ap (option_map name_by) keyed))
        by_key spot publisher (Some key) keyed is =
            let (sender, within, named) = comes_from spot key keyed in
            let (link, found, from, to) = link_there spelling domain m senders readers indices h sender place within o.below in
            let among = (fresh.subscribers place lane there).connections.each (sender * length readers + place) link found to in
            let key_is : name_by key ≡ publisher = some_is (name_by key) publisher (sym (ap (option_map name_by) keyed) ∙ is) in
            record {
              place = among.place;
              route = among.route;
              at = among.found;
              is = ap (writer_name own m.links) among.same
                  ∙ ap (λ (l : Option LinkState). option_map_or (λ (one : LinkState). own.publisher one.publisher) l 0) found
                  ∙ ap own.publisher from ∙ sym named ∙ key_is;
            }

  pub stand : LanesStandFor choices value own [] [] m service
  stand = record {
    between = between;
    numbers = has.numbers;
    publishers = λ place lane there.
        let o = sender_there place lane there in
        (o.publisher, o.by_name, publisher_is place lane there o);
    subscribers = λ place lane there.
        let o = reader_there place lane there in
        (o.subscriber, o.by_name, subscriber_is place lane there o);
    publishers_apart = λ one other lane behind found there same.
        has.publishers_apart one other (slice_get_within m.publishers one lane found) (slice_get_within m.publishers other behind there)
        same;
    subscribers_apart = λ one other lane behind found there same.
        has.subscribers_apart one other (slice_get_within m.subscribers one lane found) (slice_get_within m.subscribers other behind there)
        same;
    joined = λ connection link found.
        let j = joint spelling domain m senders readers indices h connection link found in
        ((j.lane, j.got), some_there m.subscribers link.subscriber (omega (arith, j.to, h.subscriber_count)));
    mailboxes = has.mailboxes;
    kinds = has.kinds;
    others = λ place other lane there apart. no_others place lane there (sender_there place lane there) other apart;
    loans = has.loans;
    loans_once = λ number. omega arith;
    loans_there = λ index entry is. absurd (no_loan index entry is);
    loans_all = λ place lane slot there. sym (ap one_if ((fresh.publishers place lane there).unlent slot));
    samples = has.samples;
    samples_once = λ number. omega arith;
    samples_there = λ index entry is. absurd (no_sample index entry is);
    samples_all = λ connection link slot found. sym (ap one_if (none_borrowed connection slot link.subscriber));
  }
    where
      no_loan : (index : ℕ) (entry : ℕ × LaneLoan) → slice_get [] index ≡ Some entry → ⊥
      no_loan index entry is = cc is

      no_sample : (index : ℕ) (entry : ℕ × LaneSample) → slice_get [] index ≡ Some entry → ⊥
      no_sample index entry is = cc is
