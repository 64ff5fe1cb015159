-- A send that no other call overlaps is one of the machine.
use Rattle.std.proofs.Common.{ℕ, ◌≡◌, ◌+◌, ◌-◌, ◌<◌, ◌≤◌, ◌^◌, ◌==◌, ◌&&◌, ◌||◌, ◌⊎◌, not, cond, Bool, true, false, nat_lt, List, [], arith}
use Rattle.std.proofs.Common.{zero, suc, length, map, drop, get_or, is_some, slice_get, Option, Some, None, refl, sym, ◌∙◌, ap, subst}
use Rattle.std.proofs.Common.{if◌then◌else◌, inl, inr, ◌∷◌, ◌++◌}
use Rattle.std.specs.Prelude.{count_by, option_map}
use Rattle.std.specs.Option.{option_map_or}
use Rattle.std.proofs.lemmas.Bool.{eq-eqb, ne_eqb}
use Rattle.std.proofs.lemmas.Bool.Decides.{eqb_tells}
use Rattle.std.proofs.lemmas.List.{length-map, map-append, drop-map}
use Rattle.std.proofs.lemmas.List.Sums.{sum_by-cons}
use Rattle.iox_command.specs.DomainValues.Actions.{decision_of}
use Rattle.iox_command.specs.DomainValues.Sequences.{next_sequence}
use Rattle.iox_command.specs.DomainValues.declared.port_error.SendError.TheVariants as error
use Rattle.iox_command.specs.NegotiateBase.DescribeBase.declared.message_type.MessageTypeDetails.{MessageTypeDetails}
use Rattle.iox_command.specs.declared.refusal.Refusal.TheVariants as refusal
use Rattle.iox_command.specs.declared.reply.Reply.TheVariants as reply
use Rattle.iox_lanes_machine.specs.QueuesSteps.Access.{successor}
use Rattle.iox_lanes_machine.specs.QueuesSteps.Order.{after_put}
use Rattle.iox_lanes_machine.specs.QueuesSteps.Ends.{overflows}
use Rattle.iox_lanes_machine.specs.LanesBase.Publishing.{publisher_is_idle}
use Rattle.iox_lanes_machine.specs.LanesBase.Subscribing.{subscriber_is_idle}
use Rattle.iox_lanes_machine.specs.LanesBase.declared.calls.publisher.Delivery.{Delivery}
use Rattle.iox_lanes_machine.specs.LanesBase.declared.calls.route.Route.{Route}
use Rattle.iox_lanes_machine.specs.LanesParties.PublisherKeeping.{loan_of}
use Rattle.iox_lanes_machine.specs.LanesParties.Parties.{PublisherLaneState, SubscriberLaneState, name_of, is_out, is_written}
use Rattle.iox_lanes_machine.specs.LanesParties.SendAnswers.{send_answer}
use Rattle.iox_lanes_machine.specs.LanesParties.Sequences.{number_after}
use Rattle.iox_lanes_machine.specs.LanesParties.declared.call.Call.{Call}
use Rattle.iox_lanes_machine.specs.LanesParties.declared.call.Call.TheVariants as call
use Rattle.iox_lanes_machine.specs.LanesParties.declared.call.CallName.TheVariants as name
use Rattle.iox_lanes_machine.specs.LanesParties.declared.call.SendAnswer.TheVariants as sent
use Rattle.iox_lanes_machine.proofs.LanesParties.Rings.{all_at}
use Rattle.iox_lanes_machine.specs.Borrowing.{borrows}
use Rattle.iox_lanes_machine.specs.FullLoans.{IsHeld, IsInUse}
use Rattle.iox_lanes_machine.specs.Kept.{IsLinkOf, sender}
use Rattle.iox_lanes_machine.specs.LedgerUses.{count, one_if}
use Rattle.iox_lanes_machine.specs.Links.{LinkState}
use Rattle.iox_lanes_machine.specs.Resting.{AllBetween, Rests, mail_at, mail_by}
use Rattle.iox_lanes_machine.specs.Owned.{IsSlotOf}
use Rattle.iox_lanes_machine.specs.Sends.{IsAmong}
use Rattle.iox_lanes_machine.specs.Slots.{IsLoanAt}
use Rattle.iox_lanes_machine.specs.World.{World, subscriber_stage}
use Rattle.iox_lanes_machine.proofs.Ends.{some_is}
use Rattle.iox_lanes_machine.proofs.Entries.{count_append}
use Rattle.iox_lanes_machine.proofs.Owned.{histories_are_own}
use Rattle.iox_lanes_machine.proofs.RestingRings.{mail_has_room}
use Rattle.iox_lanes_laws.specs.Messages.{payload_held}
use Rattle.iox_lanes_laws.specs.Publishing.{OnlyPublisher, Sends, is_loan, route_takes, takes_in}
use Rattle.iox_lanes_laws.proofs.Ends.{publisher_there}
use Rattle.iox_lanes_laws.proofs.PublisherLaws.{sends_in_turn, stage_idle}
use Rattle.iox_lanes_laws.proofs.Publishers.{fits_is}
use Rattle.iox_lanes_service.specs.Laws.{SendsAreSteps, send_replied}
use Rattle.iox_lanes_service.specs.Naming.{LaneNaming, LaneLoan, LaneSample, reader_name, writer_name, slot_message, slot_sequence}
use Rattle.iox_lanes_service.specs.Naming.{lane_mailbox, slots_held_over, has_written, loan_by_numbers, slot_value}
use Rattle.iox_lanes_service.specs.Ports.{LanePublisherIs, passing_over}
use Rattle.iox_lanes_service.specs.Standing.{LanesStandFor}
use Rattle.iox_lanes_service.proofs.Shapes.{message_sent}
use Rattle.iox_lanes_service.proofs.Beside.{one_does, both_hold, match_true, match_false, match_some}
use Rattle.iox_lanes_service.proofs.Carrying.{numbers_kept, same_message}
use Rattle.iox_lanes_service.proofs.Delivering.{Addressee, Ready, Delivered, delivers, started, takes_it, after_box, failed_then}
use Rattle.iox_lanes_service.proofs.Dropping.{own_back}
use Rattle.iox_lanes_service.proofs.Holding.{over_borrowed, both_right}
use Rattle.iox_lanes_service.proofs.Lent.{loan_index, loans_left, same_left, left_there}
use Rattle.iox_lanes_service.proofs.Publishing.{WriterCall, sent_on, sequence_stays, writer_call}
use Rattle.iox_lanes_service.proofs.Subscribing.{one_is, lent_own}
use Rattle.iox_lanes_service.proofs.Tables.{at_mapped, at_changed, at_changed_other, map_same, counted_stands, once_removed, not_both}
use Rattle.iox_lanes_service.proofs.Tables.{entry_counted}
use Rattle.iox_lanes_service.proofs.Used.{held_split, held_waits, held_borrowed, held_there, slot_there, own_is}
use Rattle.iox_lanes_service.proofs.Used.{loan_forgotten, loan_unheld, own_apart}
use Rattle.iox_machine.specs.Choices.{Choices}
use Rattle.iox_machine.specs.Mailbox as boxes
use Rattle.iox_machine.specs.Message.{Loan, Message}
use Rattle.iox_machine.specs.RunLaws as run_laws
use Rattle.iox_machine.specs.PortList.{those}
use Rattle.iox_machine.specs.Ports.{SendsLoan}
use Rattle.iox_machine.specs.Sending.{Begins}
use Rattle.iox_machine.specs.Sending as sending
use Rattle.iox_machine.specs.Service.{Publisher as Writer, Send, Service}
use Rattle.iox_machine.proofs.Shorthands.{with_publisher, is_used_up}
use Rattle.iox_machine.specs.Table.{at, removed, contains}

mapped_at : {A B : Type 0} (f : A → B) (xs : List A) (index : ℕ) (y : B) → slice_get (map f xs) index ≡ Some y
    → (x : A) × (slice_get xs index ≡ Some x) × (y ≡ f x)
mapped_at f [] index y is = absurd (cc is)
mapped_at f (x ∷ xs) zero y is = (x, refl, sym (some_is (f x) y is))
mapped_at f (x ∷ xs) (suc index) y is = mapped_at f xs index y is

mapped_there : {A B : Type 0} (f : A → B) (xs : List A) (index : ℕ) (x : A) → slice_get xs index ≡ Some x
    → slice_get (map f xs) index ≡ Some (f x)
mapped_there f [] index x is = absurd (cc is)
mapped_there f (y ∷ xs) zero x is = ap (λ z. Some (f z)) (some_is y x is)
mapped_there f (y ∷ xs) (suc index) x is = mapped_there f xs index x is

map_twice : {A B C : Type 0} (g : B → C) (f : A → B) (xs : List A) → map g (map f xs) ≡ map (λ x. g (f x)) xs
map_twice g f [] = refl
map_twice g f (x ∷ xs) = ap (λ rest. g (f x) ∷ rest) (map_twice g f xs)

-- as many pass one test as the other
counted_same : {A B : Type 0} (f : A → B) (test : B → Bool) (other : A → Bool) (xs : List A)
    → ((index : ℕ) (x : A) → slice_get xs index ≡ Some x → test (f x) ≡ other x) → count_by test (map f xs) ≡ count_by other xs
counted_same f test other [] same = refl
counted_same f test other (x ∷ xs) same =
    sum_by-cons (λ y. cond (test y) 1 0) (f x) (map f xs)
    ∙ ap (λ (b : Bool). cond b 1 0 + count_by test (map f xs)) (same 0 x refl)
    ∙ ap (λ (k : ℕ). cond (other x) 1 0 + k) (counted_same f test other xs (λ index y is. same (suc index) y is))
    ∙ sym (sum_by-cons (λ y. cond (other y) 1 0) x xs)

-- the newest of a list are some of it
drop_counted : (k x : ℕ) (xs : List ℕ) → 0 < count x (drop k xs) → 0 < count x xs
drop_counted zero x xs some = some
drop_counted (suc k) x [] some = some
drop_counted (suc k) x (y ∷ xs) some = omega (arith, drop_counted k x xs some)

-- what waits after a put did before, or is what was put
put_counted : (overflow : Bool) (limit slot x : ℕ) (waiting : List ℕ) → 0 < count x (after_put overflow limit waiting slot)
    → (0 < count x waiting) ⊎ (x ≡ slot)
put_counted true limit slot x waiting some = by_room (nat_lt (length waiting) limit) some
  where
    behind : 0 < count x (waiting ++ slot ∷ []) → (0 < count x waiting) ⊎ (x ≡ slot)
    behind h = elim (eqb_tells slot x) [
      | inl same ↦ inr (sym same.1)
      | inr apart ↦ inl (omega (arith, h, count_append x waiting (slot ∷ []), ap one_if apart.0))
    ]

    by_room : (b : Bool) → 0 < count x (if b then waiting ++ slot ∷ [] else drop 1 (waiting ++ slot ∷ []))
        → (0 < count x waiting) ⊎ (x ≡ slot)
    by_room true h = behind h
    by_room false h = behind (drop_counted 1 x (waiting ++ slot ∷ []) h)
put_counted false limit slot x waiting some = by_room (nat_lt (length waiting) limit) some
  where
    behind : 0 < count x (waiting ++ slot ∷ []) → (0 < count x waiting) ⊎ (x ≡ slot)
    behind h = elim (eqb_tells slot x) [
      | inl same ↦ inr (sym same.1)
      | inr apart ↦ inl (omega (arith, h, count_append x waiting (slot ∷ []), ap one_if apart.0))
    ]

    by_room : (b : Bool) → 0 < count x (if b then waiting ++ slot ∷ [] else waiting) → (0 < count x waiting) ⊎ (x ≡ slot)
    by_room true h = behind h
    by_room false h = inl h

-- between calls each connection rests
rests_at : (m : World) (connection : ℕ) → AllBetween m → m.moments ≤ 2 ^ 63 → Rests m connection
rests_at m connection between few = record {
  few = few;
  sender = λ link found. stage_idle m link.publisher between;
  receiver = λ link found. by_lane link.subscriber (slice_get m.subscribers link.subscriber) refl;
}
  where
    by_lane : (who : ℕ) (o : Option SubscriberLaneState) → slice_get m.subscribers who ≡ o → subscriber_is_idle (subscriber_stage o) ≡ true
    by_lane who None e = refl
    by_lane who (Some lane) e = all_at (λ (x : SubscriberLaneState). subscriber_is_idle x.port.call ≡ true) m.subscribers who lane e
        between.subscribers

module _ {T : Type 0} (choices : Choices T) (value : List ℕ → T) (names : LaneNaming) (lent : List (ℕ × LaneLoan))
    (held : List (ℕ × LaneSample)) (m n : World) (service : Service T) (s : LanesStandFor choices value names lent held m service)
    (number : ℕ) (one : LaneLoan) (there : at number lent ≡ Some one) (before after : PublisherLaneState)
    (w : WriterCall m n one.publisher (call.Send one.slot) before after) (others : OnlyPublisher m one.publisher n)
    (delivery : Delivery) (law : Sends m one.publisher one.slot before delivery n after) where
  abbrev place : ℕ
  place = one.publisher

  abbrev slot : ℕ
  slot = one.slot

  abbrev who : ℕ
  who = names.publisher place

  pub writer : (it : Writer T) × (at who service.publishers ≡ Some it) × LanePublisherIs choices value names m service place before it
  writer = s.publishers place before w.found

  abbrev message : ℕ → Message T
  message = slot_message value names n.table

  abbrev overflow : Bool
  overflow = service.settings.enable_safe_overflow

  abbrev kept_messages : List (Message T)
  kept_messages = boxes.newest service.settings.history_size ((writer.0).history ++ message slot ∷ [])

  abbrev begun : Writer T
  begun = record writer.0 { last_sequence = next_sequence (writer.0).last_sequence; history = kept_messages }

  -- to whom the message goes
  abbrev to_of : Route → Addressee T
  to_of route = record {
    reader = reader_name names m.links route.connection;
    limit = option_map_or (λ (link : LinkState). link.limit) (slice_get m.links route.connection) 0;
    waiting = mail_at m route.connection;
    borrowed = option_map_or (λ (link : LinkState). map message (slots_held_over link held)) (slice_get m.links route.connection) [];
  }

  abbrev tos : List (Addressee T)
  tos = map to_of before.port.routes

  abbrev base : Service T
  base = record service { loans = removed number service.loans }

  link_of_route : (index : ℕ) (route : Route) → slice_get before.port.routes index ≡ Some route → IsLinkOf m.links sender place route
  link_of_route index route is
      = all_at (IsLinkOf m.links sender place) before.port.routes index route is (w.kept.within.senders place before w.found)

  abbrev to_link : ℕ → LinkState → Addressee T
  to_link connection link = record {
    reader = names.subscriber link.subscriber;
    limit = link.limit;
    waiting = mail_at m connection;
    borrowed = map message (slots_held_over link held);
  }

  to_is : (route : Route) (link : LinkState) → slice_get m.links route.connection ≡ Some link
      → to_of route ≡ to_link route.connection link
  to_is route link found = ap (λ (o : Option LinkState). record {
    reader = option_map_or (λ (it : LinkState). names.subscriber it.subscriber) o 0;
    limit = option_map_or (λ (it : LinkState). it.limit) o 0;
    waiting = mail_at m route.connection;
    borrowed = option_map_or (λ (it : LinkState). map message (slots_held_over it held)) o [];
  }) found

  takes_is : (index : ℕ) (route : Route) → slice_get before.port.routes index ≡ Some route
      → takes_it choices who slot message overflow before.fails begun (to_of route) ≡ route_takes m route
  takes_is index route is =
      let l = link_of_route index route is in
      ap (takes_it choices who slot message overflow before.fails begun) (to_is route l.link l.found)
      ∙ ap (λ (b : Bool). b || nat_lt (length (mail_at m route.connection)) (l.link).limit) (sym (s.kinds route.connection l.link l.found))
      ∙ sym (ap (λ (o : Option LinkState). takes_in o (mail_at m route.connection)) l.found)

  -- slots hold the same payloads
  stays : (x : ℕ) → x < m.table.sizes.slots → payload_held n.table x ≡ payload_held m.table x
  stays x below = w.payloads x below (differ x)
    where
      differ : (x : ℕ) → name_of (call.Send one.slot) ≡ name.Write x → ⊥
      differ x e = cc e

  was_loan : is_loan before slot ≡ true
  was_loan =
      one_is (is_loan before slot) (omega (
        arith,
        s.loans_all place before slot w.found,
        entry_counted (λ (loan : LaneLoan). loan.slot) (λ (loan : LaneLoan). loan.publisher == place) lent
            (loan_index choices value names lent held m n service s number one there (call.Send one.slot) before after w others).0
            (number, one)
            (loan_index choices value names lent held m n service s number one there (call.Send one.slot) before after w others).1
            (eq-eqb place place refl),
      ))

  slot_is_own : IsSlotOf m place slot
  slot_is_own = lent_own choices value names lent held m service s
      (loan_index choices value names lent held m n service s number one there (call.Send one.slot) before after w others).0 (number, one)
      (loan_index choices value names lent held m n service s number one there (call.Send one.slot) before after w others).1

  loan_there : IsLoanAt m place slot
  loan_there = record { lane = before; found = w.found; out = was_loan }

  -- messages that were sent before stay
  was_message : (x : ℕ) → x < m.table.sizes.slots → (x ≡ slot → ⊥) → slot_message value names m.table x ≡ message x
  was_message x below apart =
      sym (same_message choices value names m n x (
        stays x below,
        sequence_stays names.numbered m n place (call.Send one.slot) before after w s.numbers x below (λ e. apart (same x e)),
      ))
    where
      same : (x : ℕ) → name_of (call.Send one.slot) ≡ name.Send x → x ≡ slot
      same x e = cc e

  was_held : (x : ℕ) → IsHeld m x → slot_message value names m.table x ≡ message x
  was_held x h = was_message x (held_there m x w.kept w.few h)
      (λ e. loan_unheld m place slot w.kept w.few loan_there (subst (IsHeld m) e h))

  was_remembered : (who : ℕ) (lane : PublisherLaneState) (x : ℕ) → slice_get m.publishers who ≡ Some lane
      → 0 < count x lane.port.book.history → slot_message value names m.table x ≡ message x
  was_remembered who lane x found some =
      let stands = counted_stands lane.port.book.history x some in
      was_message x (slot_there m who x w.kept ((histories_are_own m w.kept w.few who lane found).own stands.0 x stands.1))
      (λ e. loan_forgotten m place slot who lane w.kept w.few loan_there found
      (subst (λ (y : ℕ). 0 < count y lane.port.book.history) e some))

  -- so do mailboxes
  was_box : (connection : ℕ) (link : LinkState) → slice_get m.links connection ≡ Some link
      → Some (lane_mailbox value names m held connection link) ≡ Some (record {
        limit = link.limit;
        waiting = map message (mail_at m connection);
        borrowed = map message (slots_held_over link held);
      })
  was_box connection link found =
      ap (λ waiting. Some (record {
        limit = link.limit;
        waiting = waiting;
        borrowed = map (slot_message value names m.table) (slots_held_over link held);
      })) (map_same (slot_message value names m.table) message (mail_at m connection)
      (λ x some. was_held x (held_waits m x w.kept (record { connection = connection; some = some }))))
      ∙ ap (λ borrowed. Some (record {
        limit = link.limit;
        waiting = map message (mail_at m connection);
        borrowed = borrowed;
      })) (map_same (slot_message value names m.table) message (slots_held_over link held)
      (λ x some. was_held x (held_borrowed m x w.kept (record {
        connection = connection;
        link = link;
        found = found;
        has = over_borrowed choices value names lent held m service s connection link x found some;
      }))))

  ready : Ready choices who slot message overflow before.fails begun base tos
  ready = record {
    kind = refl;
    boxes = λ index to is.
        let r = mapped_at to_of before.port.routes index to is in
        let l = link_of_route index r.0 r.1 in
        let it : to ≡ to_link (r.0).connection l.link = r.2 ∙ to_is r.0 l.link l.found in
        subst (λ (x : Addressee T). service.mailboxes who x.reader
        ≡ Some (record { limit = x.limit; waiting = map message x.waiting; borrowed = x.borrowed })) (sym it)
        (ap (λ (p : ℕ). service.mailboxes (names.publisher p) (names.subscriber (l.link).subscriber)) (sym l.own)
        ∙ s.mailboxes (r.0).connection l.link l.found ∙ was_box (r.0).connection l.link l.found);
    rooms = λ index to is.
        let r = mapped_at to_of before.port.routes index to is in
        let l = link_of_route index r.0 r.1 in
        subst (λ (x : Addressee T). length x.waiting ≤ x.limit) (sym (r.2 ∙ to_is r.0 l.link l.found))
        (mail_has_room m (r.0).connection w.kept (rests_at m (r.0).connection w.between w.few) l.link l.found);
    apart = λ i j first other is at_other e.
        let a = mapped_at to_of before.port.routes i first is in
        let b = mapped_at to_of before.port.routes j other at_other in
        let k = link_of_route i a.0 a.1 in
        let l = link_of_route j b.0 b.1 in
        let readers : names.subscriber (k.link).subscriber ≡ names.subscriber (l.link).subscriber
        = sym (ap (λ (x : Addressee T). x.reader) (a.2 ∙ to_is a.0 k.link k.found)) ∙ e
        ∙ ap (λ (x : Addressee T). x.reader) (b.2 ∙ to_is b.0 l.link l.found) in
        let joins_k = s.joined (a.0).connection k.link k.found in
        let joins_l = s.joined (b.0).connection l.link l.found in
        (w.kept.sends w.few place before w.found).connections.once i j a.0 b.0 a.1 b.1
        ((w.kept.uses w.few).pairs (a.0).connection (b.0).connection k.link l.link k.found l.found (k.own ∙ sym l.own)
        (s.subscribers_apart (k.link).subscriber (l.link).subscriber (joins_k.1).0 (joins_l.1).0 (joins_k.1).1 (joins_l.1).1 readers));
    met = λ index to is.
        let r = mapped_at to_of before.port.routes index to is in
        let l = link_of_route index r.0 r.1 in
        let joins = s.joined (r.0).connection l.link l.found in
        let reader = s.subscribers (l.link).subscriber (joins.1).0 (joins.1).1 in
        let among = ((w.kept.rooms w.few).receivers (l.link).subscriber (joins.1).0 (joins.1).1).each (r.0).connection l.link l.found refl
        in
        let name_is : writer_name names m.links (among.route).connection ≡ who
        = ap (λ (k : ℕ). writer_name names m.links k) among.same
        ∙ ap (λ (o : Option LinkState). option_map_or (λ (it : LinkState). names.publisher it.publisher) o 0) l.found
        ∙ ap names.publisher l.own in
        ap (λ (x : Addressee T). option_map_or (λ it. it.stands && contains (those it.connected) who) (at x.reader service.subscribers)
        false)
        (r.2 ∙ to_is r.0 l.link l.found)
        ∙ ap (λ o. option_map_or (λ it. it.stands && contains (those it.connected) who) o false) reader.1
        ∙ both_hold (reader.0).stands (contains (those (reader.0).connected) who) (reader.2).stands
        (ap (contains (those (reader.0).connected)) (sym name_is) ∙ (reader.2).met among.place among.route among.found);
    decides = (writer.2).decides;
  }

  pub sent_out : Delivered choices who slot message overflow before.fails begun base tos (those (writer.0).connected) 0 false
  sent_out = delivers choices who slot message overflow before.fails begun tos base (those (writer.0).connected) 0 false ready

  readers_are : map (λ (to : Addressee T). to.reader) tos ≡ those (writer.0).connected
  readers_are = map_twice (λ (to : Addressee T). to.reader) to_of before.port.routes ∙ sym (writer.2).connected

  abbrev writer_then : Writer T
  writer_then = record begun { blocked = None }

  abbrev pub sent_service : Service T
  sent_service = with_publisher who writer_then (record base { mailboxes = sent_out.mailboxes })

  -- what waits then did, or is the message
  waits_then : (connection x : ℕ) → 0 < count x (mail_at n connection) → (0 < count x (mail_at m connection)) ⊎ (x ≡ slot)
  waits_then connection x some = by_link (slice_get m.links connection) refl
    where
      by_link : (o : Option LinkState) → slice_get m.links connection ≡ o → (0 < count x (mail_at m connection)) ⊎ (x ≡ slot)
      by_link None found = absurd (omega (
        arith,
        some,
        ap (λ (l : Option LinkState). count x (mail_by l (get_or n.orders connection [])))
            (ap (λ ls. slice_get ls connection) w.links ∙ found),
      ))
      by_link (Some link) found = elim (eqb_tells link.publisher place) [
        | inl own ↦ put_counted (overflows link.kind) link.limit slot x (mail_at m connection)
            (subst (λ (xs : List ℕ). 0 < count x xs) (law.put connection link found own.1) some)
        | inr apart ↦ inl (subst (λ (xs : List ℕ). 0 < count x xs) (law.elsewhere connection link found apart.1) some)
      ]

  held_then : (x : ℕ) → IsHeld n x → IsHeld m x ⊎ (x ≡ slot)
  held_then x h = elim (held_split n x w.between_then h) [
    | inl it ↦ elim (waits_then it.connection x it.some) [
      | inl some ↦ inl (held_waits m x w.kept (record { connection = it.connection; some = some }))
      | inr same ↦ inr same
    ]
    | inr b ↦ inl (held_borrowed m x w.kept (record {
      connection = b.connection;
      link = b.link;
      found = sym (ap (λ ls. slice_get ls b.connection) w.links) ∙ b.found;
      has = sym (ap (λ xs. borrows b.connection x (slice_get xs (b.link).subscriber)) others.subscribers) ∙ b.has;
    }))
  ]

  remembered_then : (x : ℕ) → 0 < count x after.port.book.history → (0 < count x before.port.book.history) ⊎ (x ≡ slot)
  remembered_then x some = elim (eqb_tells slot x) [
    | inl same ↦ inr (sym same.1)
    | inr apart ↦ inl (omega (
      arith,
      drop_counted (length (before.port.book.history ++ slot ∷ []) - before.port.book.kept) x (before.port.book.history ++ slot ∷ [])
          (subst (λ (xs : List ℕ). 0 < count x xs) law.history some),
      count_append x before.port.book.history (slot ∷ []),
      ap one_if apart.0,
    ))
  ]

  used_then : (x : ℕ) → IsInUse n after x → IsInUse m before x
  used_then x (inl out) = elim (eqb_tells x slot) [
    | inl same ↦ not_both (is_loan after x) out (ap (is_loan after) same.1 ∙ law.loans.ended)
    | inr apart ↦ inl (sym (ap is_out (law.loans.others x apart.1)) ∙ out)
  ]
  used_then x (inr (inl some)) = elim (remembered_then x some) [
    | inl was ↦ inr (inl was)
    | inr same ↦ inl (ap (is_loan before) same ∙ was_loan)
  ]
  used_then x (inr (inr is)) = elim (held_then x is) [
    | inl was ↦ inr (inr was)
    | inr same ↦ inl (ap (is_loan before) same ∙ was_loan)
  ]

  history_then : kept_messages ≡ map (slot_message value names n.table) after.port.book.history
  history_then =
      ap (λ (k : ℕ). boxes.newest k ((writer.0).history ++ message slot ∷ [])) (writer.2).kept
      ∙ ap (λ (xs : List (Message T)). boxes.newest before.port.book.kept (xs ++ message slot ∷ []))
      ((writer.2).history ∙ map_same (slot_message value names m.table) message before.port.book.history
      (λ x some. was_remembered place before x w.found some))
      ∙ ap (boxes.newest before.port.book.kept) (sym (map-append message before.port.book.history (slot ∷ [])))
      ∙ ap (λ (k : ℕ). drop (k - before.port.book.kept) (map message (before.port.book.history ++ slot ∷ [])))
      (length-map (before.port.book.history ++ slot ∷ []) message)
      ∙ drop-map message (length (before.port.book.history ++ slot ∷ []) - before.port.book.kept) (before.port.book.history ++ slot ∷ [])
      ∙ ap (map message) (sym law.history)

  boxes_then : (connection : ℕ) (link : LinkState) → slice_get m.links connection ≡ Some link
      → sent_out.mailboxes (names.publisher link.publisher) (names.subscriber link.subscriber)
      ≡ Some (lane_mailbox value names n held connection link)
  boxes_then connection link found = elim (eqb_tells link.publisher place) [
    | inl own ↦
        let among = (w.kept.sends w.few place before w.found).connections.each connection link found own.1 in
        let found_route : slice_get m.links (among.route).connection ≡ Some link = ap (slice_get m.links) among.same ∙ found in
        let there_is = sent_out.there among.place (to_of among.route) (mapped_there to_of before.port.routes among.place among.route
        among.found) in
        let box : sent_out.mailboxes who (names.subscriber link.subscriber)
        ≡ Some (after_box choices who slot message overflow before.fails begun (to_link (among.route).connection link))
        = subst (λ (x : Addressee T). sent_out.mailboxes who x.reader
        ≡ Some (after_box choices who slot message overflow before.fails begun x)) (to_is among.route link found_route) there_is in
        ap (λ (p : ℕ). sent_out.mailboxes (names.publisher p) (names.subscriber link.subscriber)) own.1 ∙ box
        ∙ ap (λ (xs : List ℕ). Some (record {
          limit = link.limit;
          waiting = map message xs;
          borrowed = map message (slots_held_over link held);
        })) (put_is among link own.1 found)
    | inr apart ↦
        sent_out.away (names.publisher link.publisher) (names.subscriber link.subscriber)
        (λ e index to is r.
        let joins = s.joined connection link found in
        apart.1 (s.publishers_apart link.publisher place (joins.0).0 before (joins.0).1 w.found e))
        ∙ s.mailboxes connection link found ∙ was_box connection link found
        ∙ ap (λ (xs : List ℕ). Some (record {
          limit = link.limit;
          waiting = map message xs;
          borrowed = map message (slots_held_over link held);
        })) (sym (law.elsewhere connection link found apart.1))
  ]
    where
      put_is : (among : IsAmong before.port.routes connection) (it : LinkState) → it.publisher ≡ place → slice_get m.links connection
          ≡ Some it
          → after_put overflow it.limit (mail_at m (among.route).connection) slot ≡ mail_at n connection
      put_is among it own is =
          ap (λ (b : Bool). after_put b it.limit (mail_at m (among.route).connection) slot) (sym (s.kinds connection it is))
          ∙ ap (λ (k : ℕ). after_put (overflows it.kind) it.limit (mail_at m k) slot) among.same
          ∙ sym (law.put connection it is own)

  -- the number after the last one
  last_fits : (last : ℕ) → before.last ≡ Some last → last < 2 ^ 64 - 1
  last_fits last is = omega (arith, s.numbers.low place before last w.found is, w.rises, w.few_then)

  next_is : (o : Option ℕ) → before.last ≡ o → number_after o ≡ next_sequence o
  next_is None is = refl
  next_is (Some last) is = ap Some (next last (last_fits last is))
    where
      next : (last : ℕ) → last < 2 ^ 64 - 1 → successor last ≡ last + 1
      next last below = omega (arith, below)

  sequence_is : (o : Option ℕ) → before.last ≡ o → slot_sequence names.numbered n.table slot ≡ next_sequence o
  sequence_is None is = ap (λ (b : Bool). slot_sequence b n.table slot)
      (sym (s.numbers.each place before w.found) ∙ ap (λ (o : Option ℕ). is_some o) is)
  sequence_is (Some last) is =
      let numbered : names.numbered ≡ true = sym (s.numbers.each place before w.found) ∙ ap (λ (o : Option ℕ). is_some o) is in
      ap (λ (b : Bool). slot_sequence b n.table slot) numbered
      ∙ ap Some (w.sent slot last refl (s.numbers.wide numbered) is)
      ∙ next_is (Some last) is

  left_over : (o : Option ℕ) → before.last ≡ o → is_used_up o ≡ false
  left_over None is = refl
  left_over (Some last) is = ne_eqb last (2 ^ 64 - 1) (λ e. absurd (omega (arith, e, last_fits last is)))

  own_then : LanePublisherIs choices value names n sent_service place after writer_then
  own_then = record {
    stands = (writer.2).stands;
    free = refl;
    seen = (writer.2).seen;
    most_loans = (writer.2).most_loans ∙ sym w.port.most_loans;
    kept = (writer.2).kept ∙ sym w.port.kept;
    slots = (writer.2).slots ∙ sym w.port.slots;
    room = (writer.2).room;
    connected = (writer.2).connected
        ∙ sym (ap (λ (rs : List Route). map (λ (route : Route). reader_name names n.links route.connection) rs) w.port.routes
        ∙ ap (λ (ls : List LinkState). map (λ (route : Route). reader_name names ls route.connection) before.port.routes) w.links);
    last = ap next_sequence (writer.2).last ∙ sym (next_is before.last refl) ∙ sym w.last;
    history = history_then;
    numbers = numbers_kept names.message names.message m n before after (writer.0).first (writer.0).next
        (own_back m n place (call.Send one.slot) before after w) (λ x own in_use. used_then x in_use) (λ x own in_use. refl)
        (writer.2).numbers;
    decides = λ refuses. subst (λ (fails : Bool). choices.publisher_decides who 0 0
        (decision_of (writer.0).strategy (writer.0).handler) (passing_over fails)) (sym w.port.fails) ((writer.2).decides refuses);
  }

  pub sent_stands : LanesStandFor choices value names (removed number lent) held n sent_service
  sent_stands =
      sent_on choices value names names.message lent (removed number lent) held m n place (call.Send one.slot) before after service
      sent_service.publishers sent_out.mailboxes sent_service.loans (record {
        call = w;
        others = others;
        writers = λ other apart. at_changed_other who other writer_then service.publishers apart;
        own = (writer_then, at_changed who writer_then writer.0 service.publishers writer.1, own_then);
        used = λ p lane x found apart own in_use. elim in_use [
          | inl is ↦ inl is
          | inr (inl is) ↦ inr (inl is)
          | inr (inr is) ↦ elim (held_then x is) [
            | inl was ↦ inr (inr was)
            | inr same ↦ absurd (apart (own_apart m p place x w.kept (own_is m p x lane w.kept w.few found own)
                (subst (IsSlotOf m place) (sym same) slot_is_own)))
          ]
        ];
        numbered = λ p lane x found apart own in_use. refl;
        remembered = λ p lane x found apart some. sym (was_remembered p lane x found some);
        messages = λ x h. sym (was_held x h);
        boxes = boxes_then;
        other_boxes = λ p other lane found joins. sent_out.away (names.publisher p) other (λ e index to is r.
            let a = mapped_at to_of before.port.routes index to is in
            let l = link_of_route index a.0 a.1 in
            joins (a.0).connection l.link l.found
            (l.own ∙ sym (s.publishers_apart p place lane before found w.found e))
            (sym (ap (λ (x : Addressee T). x.reader) (a.2 ∙ to_is a.0 l.link l.found)) ∙ r));
        same = same_left choices value names lent held m n service s number one there (call.Send one.slot) before after w others
            law.loans.others (λ x below off. stays x below);
        once = once_removed number lent s.loans_once;
        there = left_there choices value names lent held m n service s number one there (call.Send one.slot) before after w others;
        all = loans_left choices value names lent held m n service s number one there (call.Send one.slot) before after w others
            law.loans.ended law.loans.others;
      }) s

  -- the machine's publisher stands, finds nothing new, and begins
  module _ (written : is_written (loan_of slot before.port.book) ≡ true) where
    abbrev written_loan : Loan T
    written_loan = record { publisher = who; number = names.message slot; values = Some (slot_value value names m.table slot) ∷ [] }

    found_loan : at number service.loans ≡ Some written_loan
    found_loan =
        ap (at number) s.loans ∙ at_mapped (loan_by_numbers value names m) number lent
        ∙ ap (option_map (loan_by_numbers value names m)) there
        ∙ ap (λ (b : Bool). Some (record {
          publisher = who;
          number = names.message slot;
          values = (if b then Some (slot_value value names m.table slot) else None) ∷ [];
        })) (ap (has_written slot) w.found ∙ written)

    taken_is : delivery.taken ≡ 0 + count_by (takes_it choices who slot message overflow before.fails begun) tos
    taken_is =
        law.taken
        ∙ sym (counted_same to_of (takes_it choices who slot message overflow before.fails begun) (route_takes m) before.port.routes
        takes_is)
        ∙ omega arith

    refused_is : delivery.refused ≡ count_by (λ to. not (takes_it choices who slot message overflow before.fails begun to)) tos
    refused_is =
        law.refused
        ∙ sym (counted_same to_of (λ to. not (takes_it choices who slot message overflow before.fails begun to))
        (λ route. not (route_takes m route)) before.port.routes (λ index route is. ap not (takes_is index route is)))

    reply_as : (b : Bool) → send_replied {T = T} (if b then sent.UnableToDeliver delivery else sent.Delivered delivery)
        ≡ (if b then reply.Refused (refusal.Send error.UnableToDeliver) else reply.Delivered delivery.taken)
    reply_as true = refl
    reply_as false = refl

    answer_is : send_replied {T = T} (send_answer before.fails delivery)
        ≡ (if failed_then choices who slot message overflow before.fails begun false tos
        then reply.Refused (refusal.Send error.UnableToDeliver)
        else reply.Delivered (0 + count_by (takes_it choices who slot message overflow before.fails begun) tos))
    answer_is =
        reply_as (before.fails && nat_lt 0 delivery.refused)
        ∙ ap (λ (k : ℕ). if before.fails && nat_lt 0 k then reply.Refused (refusal.Send error.UnableToDeliver)
        else reply.Delivered delivery.taken) refused_is
        ∙ ap (λ (k : ℕ). if failed_then choices who slot message overflow before.fails begun false tos
        then reply.Refused (refusal.Send error.UnableToDeliver) else reply.Delivered k) taken_is

    sent_is : run_laws.numbered writer.0 (message_sent written_loan) ≡ message slot
    sent_is =
        ap (λ (sequence : Option ℕ). record {
          number = names.message slot;
          sequence = sequence;
          values = slot_value value names m.table slot ∷ [];
        }) (ap next_sequence (writer.2).last ∙ sym (sequence_is before.last refl))
        ∙ ap (λ (words : List ℕ). record {
          number = names.message slot;
          sequence = slot_sequence names.numbered n.table slot;
          values = value words ∷ [];
        }) (sym (stays slot (slot_there m place slot w.kept slot_is_own)))

    -- what the machine's publisher does with a message
    abbrev GoesWith : Message T → Type 0
    GoesWith it =
        sending.GoesOn choices who
        (record writer.0 {
          last_sequence = next_sequence (writer.0).last_sequence;
          history = boxes.newest service.settings.history_size ((writer.0).history ++ it ∷ []);
        })
        (record { message = it; left = those (writer.0).connected; retries = 0; elapsed = 0; delivered = 0; fails = false }) base
        (send_replied (send_answer before.fails delivery)) sent_service

    goes_on : GoesWith (message slot)
    goes_on = (
      started choices who slot message overflow before.fails begun []
          (0 + count_by (takes_it choices who slot message overflow before.fails begun) tos)
          (failed_then choices who slot message overflow before.fails begun false tos),
      record base { mailboxes = sent_out.mailboxes },
      subst (λ (left : List ℕ). sending.Delivers choices who begun left
          (started choices who slot message overflow before.fails begun (those (writer.0).connected) 0 false) base
          (started choices who slot message overflow before.fails begun []
          (0 + count_by (takes_it choices who slot message overflow before.fails begun) tos)
          (failed_then choices who slot message overflow before.fails begun false tos)) (record base { mailboxes = sent_out.mailboxes }))
          readers_are sent_out.is,
      answer_is,
      refl,
    )

    begins : Begins choices who (message_sent written_loan) writer.0 base (send_replied (send_answer before.fails delivery)) sent_service
    begins = subst GoesWith (sym sent_is) goes_on

    pub sends : SendsLoan choices number written_loan service (send_replied (send_answer before.fails delivery)) sent_service
    sends =
        match_some (at who service.publishers) writer.0 _ _ writer.1
        (match_true (run_laws.is_written written_loan && not (is_some (writer.0).blocked)) _ _
        (ap (λ (o : Option (Send T)). not (is_some o)) (writer.2).free)
        (match_true (writer.0).stands _ _ (writer.2).stands
        (match_false (is_used_up (writer.0).last_sequence) _ _ (ap is_used_up (writer.2).last ∙ left_over before.last refl)
        (match_true ((writer.0).seen == service.subscriber_list.changes) _ _
        (eq-eqb (writer.0).seen service.subscriber_list.changes (writer.2).seen) begins))))

pub sends_are_steps : {T : Type 0} (choices : Choices T) (value : List ℕ → T) (types : MessageTypeDetails) (buffer : ℕ)
    → SendsAreSteps choices value types buffer
sends_are_steps {T} choices value types buffer = λ names lent held m n service state number one s there t.
    let c : Call = call.Send one.slot in
    let before = publisher_there m one.publisher c (slice_get m.publishers one.publisher) refl t.begins.0 in
    let w = writer_call m n one.publisher c before.0 t before.1 in
    let law = sends_in_turn m n one.publisher one.slot before.0 w.0 t before.1 w.1.now in
    let written = both_right (publisher_is_idle (before.0).port.call) (is_written (loan_of one.slot (before.0).port.book))
    (fits_is m one.publisher c before.0 before.1 t.begins.0) in (
      send_answer (before.0).fails law.0,
      law.1,
      (
        sent_service choices value names lent held m n service s number one there before.0 w.0 w.1 law.2 law.0 law.3,
        one_does (λ (it : Service T). at number it.loans) (SendsLoan choices number) state service
            (sent_service choices value names lent held m n service s number one there before.0 w.0 w.1 law.2 law.0 law.3)
            (send_replied (send_answer (before.0).fails law.0))
            (record {
              publisher = names.publisher one.publisher;
              number = names.message one.slot;
              values = Some (slot_value value names m.table one.slot) ∷ [];
            })
            (found_loan choices value names lent held m n service s number one there before.0 w.0 w.1 law.2 law.0 law.3 written)
            (sends choices value names lent held m n service s number one there before.0 w.0 w.1 law.2 law.0 law.3 written),
        sent_stands choices value names lent held m n service s number one there before.0 w.0 w.1 law.2 law.0 law.3,
      ),
    )
