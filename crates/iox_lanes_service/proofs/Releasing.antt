-- A release that no other call overlaps is one of the machine.
use Rattle.std.proofs.Common.{ℕ, ◌≡◌, ◌+◌, length, ◌<◌, ◌≤◌, ◌==◌, Bool, true, false, not, List, [], map, slice_get, Option}
use Rattle.std.proofs.Common.{Some, None, refl}
use Rattle.std.proofs.Common.{sym, ◌∙◌, ap, subst, inl, inr, arith}
use Rattle.std.specs.Prelude.{filter, option_map, unwrap_or}
use Rattle.std.proofs.lemmas.Bool.{cases_Bool, eqb-true, eq-eqb, ne_eqb}
use Rattle.std.proofs.lemmas.Bool.Decides.{eqb_tells}
use Rattle.iox_command.specs.NegotiateBase.DescribeBase.declared.message_type.MessageTypeDetails.{MessageTypeDetails}
use Rattle.iox_command.specs.declared.reply.Reply.TheVariants as reply
use Rattle.iox_lanes_machine.specs.LanesBase.declared.calls.route.Route.{Route}
use Rattle.iox_lanes_machine.specs.LanesParties.Parties.{PublisherLaneState, SubscriberLaneState, name_of, place_of, route_at}
use Rattle.iox_lanes_machine.specs.LanesParties.declared.call.Call.TheVariants as call
use Rattle.iox_lanes_machine.specs.LanesParties.declared.call.CallName.TheVariants as name
use Rattle.iox_lanes_machine.specs.Borrowing.{borrows, is_at}
use Rattle.iox_lanes_machine.specs.FullLoans.{IsHeld}
use Rattle.iox_lanes_machine.specs.Links.{LinkState}
use Rattle.iox_lanes_machine.specs.LedgerUses.{count, one_if}
use Rattle.iox_lanes_machine.specs.Resting.{mail_at}
use Rattle.iox_lanes_machine.specs.World.{World}
use Rattle.iox_lanes_machine.proofs.Ends.{some_is}
use Rattle.iox_lanes_laws.specs.Subscribing.{OnlySubscriber, OtherSamplesStay}
use Rattle.iox_lanes_laws.specs.Turns.{MailStays}
use Rattle.iox_lanes_laws.proofs.Ends.{subscriber_there}
use Rattle.iox_lanes_laws.proofs.Samples.{releases_in_turn}
use Rattle.iox_lanes_service.specs.Laws.{ReleasesAreSteps}
use Rattle.iox_lanes_service.specs.Naming.{LaneNaming, LaneLoan, LaneSample, sample_by_numbers, lane_mailbox, slots_held_over, slot_message}
use Rattle.iox_lanes_service.specs.Naming.{came_over}
use Rattle.iox_lanes_service.specs.Standing.{LanesStandFor, CameOverOne, JoinsNoneOf}
use Rattle.iox_lanes_service.proofs.Shapes.{one_back}
use Rattle.iox_lanes_service.proofs.Beside.{one_does, both_hold, box_there, box_of_other, box_to_other}
use Rattle.iox_lanes_service.proofs.Carrying.{same_reader}
use Rattle.iox_lanes_service.proofs.Holding.{borrows_stay, mail_messages, held_message, over_borrowed, sample_borrowed, sample_entry}
use Rattle.iox_lanes_service.proofs.Holding.{both_left, both_right}
use Rattle.iox_lanes_service.proofs.Subscribing.{ReaderCall, reader_call, carried}
use Rattle.iox_lanes_service.proofs.Tables.{at_mapped, removed_mapped, entries_same, left_entry, once_removed, stands_at_index, same_entry}
use Rattle.iox_lanes_service.proofs.Tables.{removed_slots, kept_slots, one_in_slot, counted_entry, entry_counted, filter_mapped, map_same}
use Rattle.iox_lanes_service.proofs.Tables.{count_but_same, count_but_other, not_both}
use Rattle.iox_lanes_service.proofs.Used.{IsBorrowedOf, held_borrowed, borrowed_own}
use Rattle.iox_machine.specs.Choices.{Choices}
use Rattle.iox_machine.specs.Mailbox.{Mailbox}
use Rattle.iox_machine.specs.Message.{Message}
use Rattle.iox_machine.specs.Ports.{Releases}
use Rattle.iox_machine.specs.Service.{Service, mailbox, with_mailbox}
use Rattle.iox_machine.specs.Table.{at, removed}

-- a slot is borrowed of one connection
pub borrowed_once : (lane : SubscriberLaneState) (one other slot : ℕ) → borrows one slot (Some lane) ≡ true
    → borrows other slot (Some lane) ≡ true → one ≡ other
borrowed_once lane one other slot e f = by_route (route_at (place_of slot lane) lane) e f
  where
    by_route : (o : Option Route) → is_at one o ≡ true → is_at other o ≡ true → one ≡ other
    by_route None e f = absurd (cc e)
    by_route (Some route) e f = sym (eqb-true route.connection one e) ∙ eqb-true route.connection other f

module _ {T : Type 0} (choices : Choices T) (value : List ℕ → T) (names : LaneNaming) (lent : List (ℕ × LaneLoan))
    (held : List (ℕ × LaneSample)) (m n : World) (service : Service T) (s : LanesStandFor choices value names lent held m service)
    (number : ℕ) (one : LaneSample) (there : at number held ≡ Some one) (before after : SubscriberLaneState)
    (c : ReaderCall m n one.subscriber before after) (others : OnlySubscriber m one.subscriber n) (mail : MailStays m n)
    (gone : place_of one.slot after ≡ None) (stay : OtherSamplesStay before one.slot after) where
  abbrev is_over : LinkState → Bool
  is_over link = came_over link one

  -- where the sample stands
  at_index : (index : ℕ) × (slice_get held index ≡ Some (number, one))
  at_index = stands_at_index number one held there

  source : CameOverOne m.links one
  source = s.samples_there at_index.0 (number, one) at_index.1

  same_publisher : (link : LinkState) → is_over link ≡ true → one.publisher ≡ link.publisher
  same_publisher link e = eqb-true one.publisher link.publisher (both_left (one.publisher == link.publisher)
      (one.subscriber == link.subscriber) e)

  same_subscriber : (link : LinkState) → is_over link ≡ true → one.subscriber ≡ link.subscriber
  same_subscriber link e = eqb-true one.subscriber link.subscriber (both_right (one.publisher == link.publisher)
      (one.subscriber == link.subscriber) e)

  -- it is the one of its number, and in its slot
  its_number : (index : ℕ) (entry : ℕ × LaneSample) → slice_get held index ≡ Some entry → entry.0 ≡ number → entry ≡ (number, one)
  its_number index entry is e = same_entry held s.samples_once index at_index.0 entry (number, one) is at_index.1 e

  abbrev stays : ℕ → Bool
  stays slot = not (slot == one.slot)

  once_over : (connection : ℕ) (link : LinkState) (slot : ℕ) → slice_get m.links connection ≡ Some link
      → count slot (slots_held_over link held) ≤ 1
  once_over connection link slot found = elim (cases_Bool (borrows connection slot (slice_get m.subscribers link.subscriber))) [
    | inl t ↦ omega (arith, s.samples_all connection link slot found, ap one_if t)
    | inr f ↦ omega (arith, s.samples_all connection link slot found, ap one_if f)
  ]

  -- what came over its connection and goes by a number still
  left_over : (connection : ℕ) (link : LinkState) → slice_get m.links connection ≡ Some link → is_over link ≡ true
      → slots_held_over link (removed number held) ≡ filter stays (slots_held_over link held)
  left_over connection link found over =
      removed_slots (λ (sample : LaneSample). sample.slot) (came_over link) number stays held
      (λ index entry is passes. elim (eqb_tells entry.0 number) [
        | inl same ↦
            let it = its_number index entry is same.1 in
            ap not (same.0 ∙ sym (eq-eqb entry.1.slot one.slot (ap (λ (x : ℕ × LaneSample). x.1.slot) it)))
        | inr apart ↦ ap not (apart.0 ∙ sym (ne_eqb entry.1.slot one.slot (λ e. apart.1
            (ap (λ (x : ℕ × LaneSample). x.0) (one_in_slot (λ (sample : LaneSample). sample.slot) (came_over link) held one.slot
            (once_over connection link one.slot found) index at_index.0 entry (number, one) is at_index.1 passes over e refl)))))
      ])

  left_elsewhere : (link : LinkState) → is_over link ≡ false → slots_held_over link (removed number held) ≡ slots_held_over link held
  left_elsewhere link off =
      kept_slots (λ (sample : LaneSample). sample.slot) (came_over link) number held
      (λ index entry is passes. elim (eqb_tells entry.0 number) [
        | inl same ↦ not_both (is_over link)
            (subst (λ (x : ℕ × LaneSample). came_over link x.1 ≡ true) (its_number index entry is same.1) passes) off
        | inr apart ↦ apart.0
      ])

  -- what is borrowed then was
  was_borrowed : (connection slot who : ℕ) → borrows connection slot (slice_get n.subscribers who) ≡ true
      → borrows connection slot (slice_get m.subscribers who) ≡ true
  was_borrowed connection slot who has = elim (eqb_tells slot one.slot) [
    | inl same ↦ elim (eqb_tells who one.subscriber) [
      | inl here ↦ not_both false
          (sym (ap (λ (o : Option ℕ). is_at connection (route_at o after)) (ap (λ (x : ℕ). place_of x after) same.1 ∙ gone))
          ∙ sym (ap (borrows connection slot) (ap (slice_get n.subscribers) here.1 ∙ c.now)) ∙ has) refl
      | inr apart ↦ sym (ap (borrows connection slot) (others.subscribers who apart.1)) ∙ has
    ]
    | inr apart ↦ sym (borrows_stay m n one.subscriber before after c others slot (stay slot apart.1) connection who) ∙ has
  ]

  -- just the sample is borrowed no longer
  borrowed_then : (connection : ℕ) (link : LinkState) (slot : ℕ) → slice_get m.links connection ≡ Some link
      → count slot (slots_held_over link (removed number held)) ≡ one_if (borrows connection slot (slice_get n.subscribers link.subscriber))
  borrowed_then connection link slot found = elim (cases_Bool (is_over link)) [
    | inl over ↦
        ap (count slot) (left_over connection link found over) ∙ elim (eqb_tells slot one.slot) [
          | inl same ↦
              ap (λ (x : ℕ). count x (filter stays (slots_held_over link held))) same.1
              ∙ count_but_same one.slot (slots_held_over link held)
              ∙ sym (ap one_if (ap (borrows connection slot) (ap (slice_get n.subscribers) (sym (same_subscriber link over)) ∙ c.now)
              ∙ ap (λ (o : Option ℕ). is_at connection (route_at o after)) (ap (λ (x : ℕ). place_of x after) same.1 ∙ gone)))
          | inr apart ↦
              count_but_other one.slot slot (slots_held_over link held) apart.1
              ∙ s.samples_all connection link slot found
              ∙ sym (ap one_if (borrows_stay m n one.subscriber before after c others slot (stay slot apart.1) connection link.subscriber))
        ]
    | inr off ↦
        ap (count slot) (left_elsewhere link off) ∙ s.samples_all connection link slot found ∙ ap one_if (elsewhere off)
  ]
    where
      elsewhere : is_over link ≡ false
          → borrows connection slot (slice_get m.subscribers link.subscriber)
          ≡ borrows connection slot (slice_get n.subscribers link.subscriber)
      elsewhere off = elim (cases_Bool (borrows connection slot (slice_get n.subscribers link.subscriber))) [
        | inl t ↦ was_borrowed connection slot link.subscriber t ∙ sym t
        | inr f ↦ elim (cases_Bool (borrows connection slot (slice_get m.subscribers link.subscriber))) [
          | inr g ↦ g ∙ sym f
          | inl t ↦ elim (eqb_tells slot one.slot) [
            | inr apart ↦ sym (borrows_stay m n one.subscriber before after c others slot (stay slot apart.1) connection link.subscriber)
            | inl same ↦ elim (eqb_tells link.subscriber one.subscriber) [
              | inr apart ↦ sym (ap (borrows connection slot) (others.subscribers link.subscriber apart.1))
              | inl here ↦
                  let b = sample_borrowed choices value names lent held m service s at_index.0 (number, one) at_index.1 in
                  let mine : borrows source.connection one.slot (Some before) ≡ true
                  = sym (ap (borrows source.connection one.slot)
                  (ap (slice_get m.subscribers) (sym (same_subscriber source.link source.over)) ∙ c.found))
                  ∙ over_borrowed choices value names lent held m service s source.connection source.link one.slot source.found
                  (entry_counted (λ (sample : LaneSample). sample.slot) (came_over source.link) held at_index.0 (number, one) at_index.1
                  source.over) in
                  let its : borrows connection one.slot (Some before) ≡ true
                  = sym (ap (borrows connection one.slot) (ap (slice_get m.subscribers) here.1 ∙ c.found))
                  ∙ ap (λ (x : ℕ). borrows connection x (slice_get m.subscribers link.subscriber)) (sym same.1) ∙ t in
                  let e : connection ≡ source.connection = borrowed_once before connection source.connection one.slot its mine in
                  let is : link ≡ source.link = some_is link source.link
                  (sym found ∙ ap (slice_get m.links) e ∙ source.found) in
                  not_both (is_over link) (subst (λ (x : LinkState). is_over x ≡ true) (sym is) source.over) off
            ]
          ]
        ]
      ]

  abbrev publisher_is : ℕ
  publisher_is = names.publisher one.publisher

  abbrev subscriber_is : ℕ
  subscriber_is = names.subscriber one.subscriber

  abbrev box_then : Mailbox T
  box_then = one_back (names.message one.slot) (mailbox publisher_is subscriber_is service)

  abbrev fewer_samples : Service T
  fewer_samples = record service { samples = removed number service.samples }

  abbrev pub released : Service T
  released = with_mailbox publisher_is subscriber_is box_then fewer_samples

  message_stays : (slot : ℕ) → IsHeld m slot → slot_message value names n.table slot ≡ slot_message value names m.table slot
  message_stays = held_message choices value names lent held m service s n one.subscriber before after c

  -- the messages of what goes by numbers still
  left_messages : (link : LinkState) → map (slot_message value names n.table) (slots_held_over link (removed number held))
      ≡ map (slot_message value names m.table) (slots_held_over link (removed number held))
  left_messages link =
      map_same (slot_message value names n.table) (slot_message value names m.table) (slots_held_over link (removed number held))
      (λ slot some.
      let e = counted_entry (λ (sample : LaneSample). sample.slot) (came_over link) (removed number held) slot some in
      let was = left_entry number held e.0 e.1 e.2 in
      subst (λ (x : ℕ). slot_message value names n.table x ≡ slot_message value names m.table x) e.4
      (message_stays (e.1).1.slot (held_borrowed m (e.1).1.slot c.kept
      (sample_borrowed choices value names lent held m service s was.0 e.1 was.1))))

  waiting_messages : (connection : ℕ) → map (slot_message value names n.table) (mail_at n connection)
      ≡ map (slot_message value names m.table) (mail_at m connection)
  waiting_messages connection =
      ap (map (slot_message value names n.table)) (mail connection)
      ∙ mail_messages choices value names lent held m service s n one.subscriber before after c connection

  abbrev borrowed_over : (connection : ℕ) (link : LinkState) → slice_get m.links connection ≡ Some link → (slot : ℕ)
      → 0 < count slot (slots_held_over link held) → IsBorrowedOf m slot
  borrowed_over connection link found slot some = record {
    connection = connection;
    link = link;
    found = found;
    has = over_borrowed choices value names lent held m service s connection link slot found some;
  }

  -- numbers of messages that came over a connection are apart
  apart_over : (connection : ℕ) (link : LinkState) → slice_get m.links connection ≡ Some link → is_over link ≡ true → (slot : ℕ)
      → 0 < count slot (slots_held_over link held) → names.message slot ≡ names.message one.slot → slot ≡ one.slot
  apart_over connection link found over slot some e =
      let mine : 0 < count one.slot (slots_held_over link held)
      = entry_counted (λ (sample : LaneSample). sample.slot) (came_over link) held at_index.0 (number, one) at_index.1 over in
      let own = borrowed_own m slot c.kept c.few (borrowed_over connection link found slot some) in
      let own_one = borrowed_own m one.slot c.kept c.few (borrowed_over connection link found one.slot mine) in
      let it = s.publishers link.publisher own.lane own.found in
      let counted = ((c.kept.uses c.few).publishers link.publisher own.lane own.found).counted in
      let same = some_is own_one.lane own.lane (sym own_one.found ∙ own.found) in
      it.2.numbers.apart slot one.slot
      (record { above = own.above; below = omega (arith, own.below, counted.loans_each) })
      (record {
        above = subst (λ (x : PublisherLaneState). x.port.book.first ≤ one.slot) same own_one.above;
        below = omega (
          arith,
          subst (λ (x : PublisherLaneState). one.slot < x.port.book.first + length x.port.book.loans) same own_one.below,
          counted.loans_each,
        );
      })
      (inr (inr (held_borrowed m slot c.kept (borrowed_over connection link found slot some))))
      (inr (inr (held_borrowed m one.slot c.kept (borrowed_over connection link found one.slot mine)))) e

  boxes_then : (connection : ℕ) (link : LinkState) → slice_get m.links connection ≡ Some link
      → released.mailboxes (names.publisher link.publisher) (names.subscriber link.subscriber)
      ≡ Some (lane_mailbox value names n (removed number held) connection link)
  boxes_then connection link found = elim (cases_Bool (is_over link)) [
    | inl over ↦
        let p = same_publisher link over in
        let r = same_subscriber link over in
        let was : service.mailboxes publisher_is subscriber_is ≡ Some (lane_mailbox value names m held connection link)
        = ap (λ (k : ℕ). service.mailboxes (names.publisher k) subscriber_is) p
        ∙ ap (λ (k : ℕ). service.mailboxes (names.publisher link.publisher) (names.subscriber k)) r
        ∙ s.mailboxes connection link found in
        ap (λ (k : ℕ). released.mailboxes (names.publisher k) (names.subscriber link.subscriber)) (sym p)
        ∙ ap (λ (k : ℕ). released.mailboxes publisher_is (names.subscriber k)) (sym r)
        ∙ box_there publisher_is subscriber_is box_then fewer_samples
        ∙ ap (λ (o : Option (Mailbox T)). Some (one_back (names.message one.slot)
        (unwrap_or o (record { limit = 0; waiting = []; borrowed = [] })))) was
        ∙ ap (λ waiting. Some (record {
          limit = link.limit;
          waiting = waiting;
          borrowed = filter (λ (message : Message T). not (message.number == names.message one.slot))
              (map (slot_message value names m.table) (slots_held_over link held));
        })) (sym (waiting_messages connection))
        ∙ ap (λ borrowed. Some (record {
          limit = link.limit;
          waiting = map (slot_message value names n.table) (mail_at n connection);
          borrowed = borrowed;
        }))
        (filter_mapped (slot_message value names m.table) (λ (message : Message T). not (message.number == names.message one.slot)) stays
        (slots_held_over link held) (λ slot some. elim (eqb_tells slot one.slot) [
          | inl same ↦ ap not (eq-eqb (names.message slot) (names.message one.slot) (ap names.message same.1) ∙ sym same.0)
          | inr apart ↦ ap not (ne_eqb (names.message slot) (names.message one.slot)
              (λ e. apart.1 (apart_over connection link found over slot some e)) ∙ sym apart.0)
        ])
        ∙ sym (ap (map (slot_message value names m.table)) (left_over connection link found over))
        ∙ sym (left_messages link))
    | inr off ↦
        elsewhere off ∙ s.mailboxes connection link found
        ∙ ap (λ waiting. Some (record {
          limit = link.limit;
          waiting = waiting;
          borrowed = map (slot_message value names m.table) (slots_held_over link held);
        })) (sym (waiting_messages connection))
        ∙ ap (λ borrowed. Some (record {
          limit = link.limit;
          waiting = map (slot_message value names n.table) (mail_at n connection);
          borrowed = borrowed;
        }))
        (sym (ap (map (slot_message value names m.table)) (left_elsewhere link off)) ∙ sym (left_messages link))
  ]
    where
      elsewhere : is_over link ≡ false
          → released.mailboxes (names.publisher link.publisher) (names.subscriber link.subscriber)
          ≡ service.mailboxes (names.publisher link.publisher) (names.subscriber link.subscriber)
      elsewhere off =
          let joined = s.joined connection link found in
          let from = s.joined source.connection source.link source.found in
          elim (eqb_tells one.publisher link.publisher) [
            | inr apart ↦ box_of_other publisher_is subscriber_is box_then fewer_samples (names.publisher link.publisher)
                (names.subscriber link.subscriber)
                (λ e. apart.1 (same_publisher source.link source.over ∙ sym (s.publishers_apart link.publisher (source.link).publisher
                (joined.0).0 (from.0).0 (joined.0).1 (from.0).1
                (e ∙ ap names.publisher (same_publisher source.link source.over)))))
            | inl same ↦ box_to_other publisher_is subscriber_is box_then fewer_samples (names.publisher link.publisher)
                (names.subscriber link.subscriber)
                (λ e. not_both (is_over link) (both_hold (one.publisher == link.publisher) (one.subscriber == link.subscriber) same.0
                (eq-eqb one.subscriber link.subscriber (sym (s.subscribers_apart link.subscriber one.subscriber (joined.1).0 before
                (joined.1).1 c.found e)))) off)
          ]

  other_boxes_then : (who other : ℕ) (lane : PublisherLaneState) → slice_get m.publishers who ≡ Some lane
      → JoinsNoneOf names m.links who other
      → released.mailboxes (names.publisher who) other ≡ service.mailboxes (names.publisher who) other
  other_boxes_then who other lane found joins = elim (eqb_tells other subscriber_is) [
    | inr apart ↦ box_to_other publisher_is subscriber_is box_then fewer_samples (names.publisher who) other apart.1
    | inl same ↦ box_of_other publisher_is subscriber_is box_then fewer_samples (names.publisher who) other
        (λ e.
        let from = s.joined source.connection source.link source.found in
        let p = same_publisher source.link source.over in
        joins source.connection source.link source.found
        (s.publishers_apart (source.link).publisher who (from.0).0 lane (from.0).1 found (ap names.publisher (sym p) ∙ sym e))
        (ap names.subscriber (sym (same_subscriber source.link source.over)) ∙ sym same.1))
  ]

  pub released_stands : LanesStandFor choices value names lent (removed number held) n released
  released_stands =
      carried choices value names lent held (removed number held) m n one.subscriber before after service service.subscribers
      released.mailboxes released.samples
      (record {
        call = c;
        others = others;
        readers = λ other reader is. (reader, is, same_reader choices value names reader);
        boxes = boxes_then;
        other_boxes = other_boxes_then;
        same = ap (removed number) s.samples ∙ removed_mapped (sample_by_numbers value names m) number held
            ∙ sym (entries_same (sample_by_numbers value names n) (sample_by_numbers value names m) (removed number held)
            (λ index entry is.
            let was = left_entry number held index entry is in
            sample_entry choices value names lent held m service s n one.subscriber before after c was.0 entry was.1));
        once = once_removed number held s.samples_once;
        there = λ index entry is. let was = left_entry number held index entry is in s.samples_there was.0 entry was.1;
        all = borrowed_then;
        waits = λ connection slot some. subst (λ (xs : List ℕ). 0 < count slot xs) (mail connection) some;
        borrowed = λ slot b. held_borrowed m slot c.kept (record {
          connection = b.connection;
          link = b.link;
          found = sym (ap (λ ls. slice_get ls b.connection) c.links) ∙ b.found;
          has = was_borrowed b.connection slot (b.link).subscriber b.has;
        });
      }) s

pub releases_are_steps : {T : Type 0} (choices : Choices T) (value : List ℕ → T) (types : MessageTypeDetails) (buffer : ℕ)
    → ReleasesAreSteps choices value types buffer
releases_are_steps {T} choices value types buffer = λ names lent held m n service state sample one s there t.
    let before = subscriber_there m one.subscriber (call.Release one.slot) (slice_get m.subscribers one.subscriber) refl t.begins.0 in
    let c = reader_call m n one.subscriber (call.Release one.slot) before.0 t before.1 (λ slot e. absurd (differ one.slot slot e)) in
    let law = releases_in_turn m n one.subscriber one.slot before.0 c.0 t before.1 c.1.now in
    let found : at sample service.samples ≡ Some (sample_by_numbers value names m one) =
    ap (at sample) s.samples ∙ at_mapped (sample_by_numbers value names m) sample held
    ∙ ap (option_map (sample_by_numbers value names m)) there in (
      law.0,
      (
        released choices value names lent held m n service s sample one there before.0 c.0 c.1 law.1 law.2 law.3 law.4,
        one_does (λ (one : Service T). at sample one.samples) (Releases sample) state service
            (released choices value names lent held m n service s sample one there before.0 c.0 c.1 law.1 law.2 law.3 law.4) reply.Done
            (sample_by_numbers value names m one) found (refl, refl),
        released_stands choices value names lent held m n service s sample one there before.0 c.0 c.1 law.1 law.2 law.3 law.4,
      ),
    )
  where
    differ : (sample slot : ℕ) → name_of (call.Release sample) ≡ name.Write slot → ⊥
    differ sample slot e = cc e
