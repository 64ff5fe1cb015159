-- Lanes that were just made are as lanes are before their first step: no slot has a use.
use Rattle.std.proofs.Common.{ℕ, zero, suc, ◌≡◌, ◌+◌, ◌*◌, ◌/◌, ◌%◌, ◌<◌, ◌^◌, Bool, false, List, [], length, replicate, slice_get}
use Rattle.std.proofs.Common.{Option, Some, None, refl, sym, ◌∙◌, ap, subst, arith}
use Rattle.std.proofs.lemmas.Nat.{div_below, div-add-mod'}
use Rattle.std.proofs.lemmas.List.{length-replicate}
use Rattle.iox_lanes_machine.specs.QueuesSteps.Access.{RingWords}
use Rattle.iox_lanes_machine.specs.QueuesSteps.declared.order.Placed.{Placed}
use Rattle.iox_lanes_machine.specs.LanesParties.declared.publisher.slot_book.LoanMark.{LoanMark}
use Rattle.iox_lanes_machine.specs.LanesParties.declared.publisher.slot_book.LoanMark.TheVariants as mark
use Rattle.iox_lanes_machine.specs.LanesBase.declared.calls.route.Route.{Route}
use Rattle.iox_lanes_machine.specs.LanesParties.Parties.{is_out}
use Rattle.iox_lanes_machine.specs.Stored.{between}
use Rattle.iox_lanes_machine.specs.LedgerUses.{one_if, count, refers, refers_to, UsesCounted}
use Rattle.iox_lanes_machine.proofs.Entries.{entry_none, refers_none, total_zero, get_replicated}
use Rattle.iox_lanes_machine.specs.Kept.{IsKept}
use Rattle.iox_lanes_machine.specs.Made.{link_at, route_to, sending_routes, publisher_at, subscriber_at, start}
use Rattle.iox_lanes_machine.specs.Fresh.{IsFreshPublisher, IsFreshSubscriber, IsFreshLink, IsFresh}
use Rattle.iox_lanes_machine.specs.Uses.{given_back}
use Rattle.iox_lanes_machine.specs.Links.{LinkState}
use Rattle.iox_lanes_machine.specs.declared.sizes.LaneSizes.{LaneSizes}
use Rattle.iox_lanes_machine.proofs.Fresh.{fresh_kept}
use Rattle.iox_lanes_machine.proofs.StartRooms.{start_counts, start_borrowed, start_received, may_at_start}
use Rattle.iox_lanes_machine.proofs.Opening.{start_spare, start_cells}
use Rattle.iox_lanes_machine.proofs.Start.{listed_is, listed_length, start_within, start_ring, start_connections, start_rows, start_back}
use Rattle.iox_lanes_machine.proofs.Start.{start_sends_round, start_receives_round}

-- no slot has a use
start_counted : (sizes : LaneSizes) (place : ℕ) → sizes.subscribers < 2 ^ 61
    → UsesCounted (length (publisher_at sizes place).port.routes) (publisher_at sizes place).port.book
start_counted sizes place few =
    let routes : length (sending_routes sizes place sizes.subscribers) ≡ sizes.subscribers
    = listed_length (λ subscriber. route_to sizes (place * sizes.subscribers + subscriber)) sizes.subscribers in
    let wide : length {A = ℕ} (replicate sizes.slots 0) ≡ sizes.slots = length-replicate {A = ℕ} sizes.slots 0 in
    record {
      loans_each = length-replicate {A = LoanMark} sizes.slots mark.No ∙ sym wide;
      uses_each = refl;
      rows = length-replicate {A = Bool} (sizes.subscribers * sizes.slots) false ∙ ap (λ (n : ℕ). n * sizes.slots) (sym routes) ∙ ap
          (λ (n : ℕ). length (sending_routes sizes place sizes.subscribers) * n) (sym wide);
      few = omega (arith, few, routes);
      each = λ slot.
          let none = total_zero (λ p. refers (place * sizes.slots) (length {A = ℕ} (replicate sizes.slots 0))
          (replicate (sizes.subscribers * sizes.slots) false) p slot) (length (sending_routes sizes place sizes.subscribers))
          (λ p. refers_none (place * sizes.slots) (length {A = ℕ} (replicate sizes.slots 0)) (sizes.subscribers * sizes.slots) p slot) in
          let unlent = ap is_out (entry_none (place * sizes.slots) sizes.slots slot mark.No) in
          record {
            counted = omega (arith, entry_none {X = ℕ} (place * sizes.slots) sizes.slots slot 0, ap one_if unlent, none);
            once = omega arith;
            alone = λ out. absurd (cc (sym out ∙ unlent));
          };
    }

-- nothing waits at a connection, and nothing was given back
nothing_found : (sizes : LaneSizes) (place at : ℕ) (route : Route) (link : LinkState)
    → slice_get (start sizes).links route.connection ≡ Some link
    → (slot : ℕ) → count slot link.found + count slot (given_back (start sizes).table route.connection)
    ≡ one_if (refers_to (publisher_at sizes place).port.book at slot)
nothing_found sizes place at route link found slot =
    let there = listed_is (link_at sizes) (sizes.publishers * sizes.subscribers) route.connection link found in
    omega (
      arith,
      ap (λ (l : LinkState). count slot l.found) there.1,
      ap (λ (words : RingWords). count slot (between words)) (start_back sizes route.connection there.0),
      ap one_if (refers_none (place * sizes.slots) (length {A = ℕ} (replicate sizes.slots 0)) (sizes.subscribers * sizes.slots) at slot),
    )

start_publisher : (sizes : LaneSizes) (place : ℕ) → place < sizes.publishers → sizes.subscribers < 2 ^ 61
    → IsFreshPublisher (start sizes) place (publisher_at sizes place)
start_publisher sizes place below few = record {
  idle = refl;
  connections = start_connections sizes place below;
  round = start_sends_round sizes place;
  counted = start_counted sizes place few;
  counts = start_counts sizes place;
  none_out = refl;
  unlent = λ slot. ap is_out (entry_none (place * sizes.slots) sizes.slots slot mark.No);
  has = λ at route link here found slot. nothing_found sizes place at route link found slot;
}

start_subscriber : (sizes : LaneSizes) (place : ℕ) → place < sizes.subscribers
    → IsFreshSubscriber (start sizes) place (subscriber_at sizes place)
start_subscriber sizes place below = record {
  idle = refl;
  connections = start_received sizes place below;
  round = start_receives_round sizes place;
  all = length-replicate {A = Option ℕ} (sizes.publishers * sizes.slots) None;
  none = λ slot. get_replicated {X = Option ℕ} (sizes.publishers * sizes.slots) slot None;
  borrowed = λ at within. start_borrowed sizes place at within;
  words = length-replicate {A = ℕ} (3 + sizes.user_header_words + sizes.payload_words) 0;
}

start_link : (sizes : LaneSizes) (connection : ℕ) → connection < sizes.publishers * sizes.subscribers → 0 < sizes.buffer
    → sizes.buffer + sizes.most_borrowed + 1 < 2 ^ 62 → IsFreshLink (start sizes) connection (link_at sizes connection)
start_link sizes connection below some small = record {
  some = some;
  small = omega (arith, small);
  room = omega arith;
  ring = start_ring sizes connection below;
  back = [];
  returned = start_back sizes connection below;
  few = omega arith;
  sender =
      let row : connection / sizes.subscribers < sizes.publishers
      = div_below connection sizes.subscribers sizes.publishers (some_columns sizes.publishers sizes.subscribers connection below)
      below in
      omega (arith, row, listed_length (publisher_at sizes) sizes.publishers);
  cells = omega (
    arith,
    may_at_start sizes (connection % sizes.subscribers)
        (slice_get (start sizes).subscribers (connection % sizes.subscribers)) refl,
  );
}
  where
    some_columns : (p s c : ℕ) → c < p * s → 0 < s
    some_columns p zero c below = absurd (omega (arith, below))
    some_columns p (suc s) c below = omega arith

pub start_fresh : (sizes : LaneSizes) → 0 < sizes.buffer → sizes.subscribers < 2 ^ 61 → sizes.buffer + sizes.most_borrowed + 1 < 2 ^ 62
    → IsFresh (start sizes)
start_fresh sizes some few small = record {
  finished = refl;
  read = refl;
  orders = λ connection order got. (listed_is {X = List Placed} (λ c. []) (sizes.publishers * sizes.subscribers) connection order got).1;
  some = omega arith;
  small = small;
  publishers = λ place lane e.
      let is = listed_is (publisher_at sizes) sizes.publishers place lane e in
      subst (IsFreshPublisher (start sizes) place) (sym is.1) (start_publisher sizes place is.0 few);
  subscribers = λ place lane e.
      let is = listed_is (subscriber_at sizes) sizes.subscribers place lane e in
      subst (IsFreshSubscriber (start sizes) place) (sym is.1) (start_subscriber sizes place is.0);
  links = λ connection link found.
      let is = listed_is (link_at sizes) (sizes.publishers * sizes.subscribers) connection link found in
      subst (IsFreshLink (start sizes) connection) (sym is.1) (start_link sizes connection is.0 some small);
  pairs = λ one other link behind found found' rows columns.
      let is = (listed_is (link_at sizes) (sizes.publishers * sizes.subscribers) one link found).1 in
      let is' = (listed_is (link_at sizes) (sizes.publishers * sizes.subscribers) other behind found').1 in
      let row : one / sizes.subscribers ≡ other / sizes.subscribers
      = sym (ap (λ (l : LinkState). l.publisher) is) ∙ rows ∙ ap (λ (l : LinkState). l.publisher) is' in
      let column : one % sizes.subscribers ≡ other % sizes.subscribers
      = sym (ap (λ (l : LinkState). l.subscriber) is) ∙ columns ∙ ap (λ (l : LinkState). l.subscriber) is' in
      sym (div-add-mod' one sizes.subscribers) ∙ ap (λ (p : ℕ). p * sizes.subscribers + one % sizes.subscribers) row ∙ ap
      (λ (c : ℕ). other / sizes.subscribers * sizes.subscribers + c) column ∙ div-add-mod' other sizes.subscribers;
  rows = start_rows sizes;
  spare = start_spare sizes;
  named = start_cells sizes;
}

pub start_kept : (sizes : LaneSizes) → 0 < sizes.buffer → sizes.subscribers < 2 ^ 61 → sizes.buffer + sizes.most_borrowed + 1 < 2 ^ 62
    → IsKept (start sizes)
start_kept sizes some few small = fresh_kept (start sizes) refl (start_within sizes) (start_fresh sizes some few small)
