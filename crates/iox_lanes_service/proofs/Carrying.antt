-- Which parts of what lanes stand for stay through a call.
use Rattle.std.proofs.Common.{ℕ, ◌≡◌, ◌<◌, Bool, List, [], ◌∷◌, length, map, slice_get, Option, Some, None, refl, sym}
use Rattle.std.proofs.Common.{◌∙◌, ap, if◌then◌else◌, arith}
use Rattle.iox_lanes_machine.specs.LanesBase.declared.calls.route.Route.{Route}
use Rattle.iox_lanes_machine.specs.LanesParties.Parties.{PublisherLaneState, SubscriberLaneState}
use Rattle.iox_lanes_machine.specs.FullLoans.{IsInUse}
use Rattle.iox_lanes_machine.specs.LedgerUses.{count, IsOwn}
use Rattle.iox_lanes_machine.specs.Links.{LinkState}
use Rattle.iox_lanes_machine.specs.World.{World}
use Rattle.iox_lanes_laws.specs.Messages.{payload_held}
use Rattle.iox_lanes_service.specs.Naming.{LaneNaming, LaneLoan, reader_name, writer_name, slot_message, slot_sequence, has_written}
use Rattle.iox_lanes_service.specs.Naming.{loan_by_numbers}
use Rattle.iox_lanes_service.specs.Ports.{NumbersOwn, LanePublisherIs, LaneSubscriberIs}
use Rattle.iox_lanes_service.proofs.Tables.{map_same}
use Rattle.iox_machine.specs.Choices.{Choices}
use Rattle.iox_machine.specs.PortList.{those}
use Rattle.iox_machine.specs.Service.{Publisher, Service, Subscriber}
use Rattle.iox_machine.specs.Table.{contains}

-- numbers of messages stay where what is in use was, by the same number
pub numbers_kept : (name now : ℕ → ℕ) (m n : World) (lane after : PublisherLaneState) (first next : ℕ)
    → ((slot : ℕ) → IsOwn after.port.book slot → IsOwn lane.port.book slot)
    → ((slot : ℕ) → IsOwn lane.port.book slot → IsInUse n after slot → IsInUse m lane slot)
    → ((slot : ℕ) → IsOwn lane.port.book slot → IsInUse m lane slot → now slot ≡ name slot)
    → NumbersOwn name m lane first next → NumbersOwn now n after first next
numbers_kept name now m n lane after first next own used same h = record {
  apart = λ one other own_one own_other used_one used_other e.
      let o = own one own_one in
      let p = own other own_other in
      let u = used one o used_one in
      let v = used other p used_other in
      h.apart one other o p u v (sym (same one o u) ∙ e ∙ same other p v);
  current = λ slot is in_use.
      let o = own slot is in
      let u = used slot o in_use in
      omega (arith, h.current slot o u, same slot o u);
  below = λ slot is in_use.
      let o = own slot is in
      let u = used slot o in_use in
      omega (arith, h.below slot o u, same slot o u);
  ahead = h.ahead;
}

-- a slot holds the same payload, and in its header the same number, if sends number their messages
abbrev pub HoldsSame : Bool → World → World → ℕ → Type 0
HoldsSame numbered m n slot =
    (payload_held n.table slot ≡ payload_held m.table slot) × (slot_sequence numbered n.table slot ≡ slot_sequence numbered m.table slot)

module _ {T : Type 0} (choices : Choices T) (value : List ℕ → T) (names : LaneNaming) where
  -- the message in a slot that holds the same
  pub same_message : (m n : World) (slot : ℕ) → HoldsSame names.numbered m n slot
      → slot_message value names n.table slot ≡ slot_message value names m.table slot
  same_message m n slot e =
      ap (λ (words : List ℕ). record {
        number = names.message slot;
        sequence = slot_sequence names.numbered n.table slot;
        values = value words ∷ [];
      }) e.0
      ∙ ap (λ (o : Option ℕ). record {
        number = names.message slot;
        sequence = o;
        values = value (payload_held m.table slot) ∷ [];
      }) e.1

  -- a publisher that no step touched
  pub publisher_kept : (m n : World) (old new : Service T) (place : ℕ) (lane : PublisherLaneState) (publisher : Publisher T)
      → n.links ≡ m.links → new.settings ≡ old.settings → new.subscriber_list ≡ old.subscriber_list
      → ((slot : ℕ) → 0 < count slot lane.port.book.history
      → slot_message value names n.table slot ≡ slot_message value names m.table slot)
      → ((slot : ℕ) → IsOwn lane.port.book slot → IsInUse n lane slot → IsInUse m lane slot)
      → LanePublisherIs choices value names m old place lane publisher → LanePublisherIs choices value names n new place lane publisher
  publisher_kept m n old new place lane publisher links settings list messages used h = record {
    stands = h.stands;
    free = h.free;
    seen = h.seen ∙ sym (ap (λ l. l.changes) list);
    most_loans = h.most_loans;
    kept = ap (λ s. s.history_size) settings ∙ h.kept;
    slots = h.slots;
    room = h.room;
    connected = h.connected ∙ sym (ap (λ (ls : List LinkState). map (λ (route : Route). reader_name names ls route.connection)
        lane.port.routes) links);
    last = h.last;
    history = h.history ∙ sym (map_same (slot_message value names n.table) (slot_message value names m.table) lane.port.book.history
        messages);
    numbers = numbers_kept names.message names.message m n lane lane publisher.first publisher.next (λ slot own. own) used
        (λ slot own in_use. refl) h.numbers;
    decides = λ refuses. h.decides (sym (ap (λ s. s.enable_safe_overflow) settings) ∙ refuses);
  }

  -- what of a subscriber lanes say
  pub record SameReader (one other : Subscriber) : Type 0 where
    pub stands : other.stands ≡ one.stands
    pub seen : other.seen ≡ one.seen
    pub again : other.again ≡ one.again
    pub expired : length one.expired ≡ 0 → length other.expired ≡ 0
    pub connected : other.connected ≡ one.connected

  pub same_reader : (one : Subscriber) → SameReader one one
  same_reader one = record { stands = refl; seen = refl; again = refl; expired = λ e. e; connected = refl }

  -- a subscriber that has the same connections
  pub subscriber_kept : (m n : World) (old new : Service T) (lane after : SubscriberLaneState) (one other : Subscriber)
      → n.links ≡ m.links → new.settings ≡ old.settings → new.publisher_list ≡ old.publisher_list
      → after.port.routes ≡ lane.port.routes → after.port.most_borrowed ≡ lane.port.most_borrowed → SameReader one other
      → LaneSubscriberIs choices value names m old lane one → LaneSubscriberIs choices value names n new after other
  subscriber_kept m n old new lane after one other links settings list routes most same h = record {
    stands = same.stands ∙ h.stands;
    seen = same.seen ∙ h.seen ∙ sym (ap (λ l. l.changes) list);
    done = same.again ∙ h.done;
    expired = same.expired h.expired;
    most_borrowed = ap (λ s. s.subscriber_max_borrowed_samples) settings ∙ h.most_borrowed ∙ sym most;
    met = λ place route there.
        ap (λ connected. contains (those connected) (writer_name names n.links route.connection)) same.connected
        ∙ ap (λ (ls : List LinkState). contains (those one.connected) (writer_name names ls route.connection)) links
        ∙ h.met place route (sym (ap (λ (rs : List Route). slice_get rs place) routes) ∙ there);
    only = λ publisher is.
        let was = h.only publisher (sym (ap (λ connected. contains (those connected) publisher) same.connected) ∙ is) in
        record {
          place = was.place;
          route = was.route;
          at = ap (λ (rs : List Route). slice_get rs was.place) routes ∙ was.at;
          is = ap (λ (ls : List LinkState). writer_name names ls (was.route).connection) links ∙ was.is;
        };
  }

  -- a loan whose publisher says the same of it, and whose slot holds the same
  pub loan_kept : (m n : World) (loan : LaneLoan)
      → has_written loan.slot (slice_get n.publishers loan.publisher) ≡ has_written loan.slot (slice_get m.publishers loan.publisher)
      → payload_held n.table loan.slot ≡ payload_held m.table loan.slot
      → loan_by_numbers value names n loan ≡ loan_by_numbers value names m loan
  loan_kept m n loan written held =
      ap (λ (b : Bool). record {
        publisher = names.publisher loan.publisher;
        number = names.message loan.slot;
        values = (if b then Some (value (payload_held n.table loan.slot)) else None) ∷ [];
      }) written
      ∙ ap (λ (words : List ℕ). record {
        publisher = names.publisher loan.publisher;
        number = names.message loan.slot;
        values = (if has_written loan.slot (slice_get m.publishers loan.publisher) then Some (value words) else None) ∷ [];
      }) held
