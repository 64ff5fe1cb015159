-- Lanes that were just made have room at each connection.
use Rattle.std.proofs.Common.{ℕ, zero, suc, ◌≡◌, ◌+◌, ◌*◌, ◌/◌, ◌%◌, ◌<◌, ◌≤◌, List, length, get_or, replicate, slice_get, Option, Some}
use Rattle.std.proofs.Common.{None, sym, ◌∙◌, ap, arith}
use Rattle.std.proofs.lemmas.List.{length-replicate, get_or-replicate}
use Rattle.std.proofs.lemmas.Nat.{div_below, div-add-mod', div-mul-add}
use Rattle.std.proofs.lemmas.Option.{slice_get-get_or}
use Rattle.iox_lanes_machine.specs.LanesBase.declared.calls.route.Route.{Route}
use Rattle.iox_lanes_machine.specs.LanesParties.declared.publisher.slot_book.LoanMark.{LoanMark}
use Rattle.iox_lanes_machine.specs.LanesParties.declared.publisher.slot_book.LoanMark.TheVariants as mark
use Rattle.iox_lanes_machine.specs.LanesParties.Parties.{SubscriberLaneState, is_out}
use Rattle.iox_lanes_machine.specs.LedgerRooms.{loans_out, CountsLoans}
use Rattle.iox_lanes_machine.proofs.Entries.{total_zero, get_replicated}
use Rattle.iox_lanes_machine.specs.Made.{listed, link_at, route_to, receiving_routes, publisher_at, subscriber_at, start}
use Rattle.iox_lanes_machine.specs.Rooms.{may_borrow, HasReceived}
use Rattle.iox_lanes_machine.specs.Links.{LinkState}
use Rattle.iox_lanes_machine.specs.declared.sizes.LaneSizes.{LaneSizes}
use Rattle.iox_lanes_machine.proofs.Start.{listed_is, listed_at}

some_columns : (p s c : ℕ) → c < p * s → 0 < s
some_columns p zero c below = absurd (omega (arith, below))
some_columns p (suc s) c below = omega arith

-- no loan is out, and no history is kept yet
pub start_counts : (sizes : LaneSizes) (place : ℕ) → CountsLoans (publisher_at sizes place).port.book
start_counts sizes place =
    let unlent : loans_out (publisher_at sizes place).port.book ≡ 0
    = total_zero (λ index. is_out (get_or {A = LoanMark} (replicate sizes.slots mark.No) index mark.No))
    (length {A = LoanMark} (replicate sizes.slots mark.No))
    (λ index. ap is_out (get_replicated {X = LoanMark} sizes.slots index mark.No)) in
    record { out = λ few. sym unlent; few = omega arith; kept = omega arith }

-- a subscriber borrows nothing of any connection
pub start_borrowed : (sizes : LaneSizes) (place at : ℕ) → at < length (receiving_routes sizes place sizes.publishers)
    → slice_get (subscriber_at sizes place).port.borrowed at ≡ Some 0
start_borrowed sizes place at below =
    let routes : List Route = receiving_routes sizes place sizes.publishers in
    let within : at < length {A = ℕ} (replicate (length routes) 0) = omega (arith, below, length-replicate {A = ℕ} (length routes) 0) in
    slice_get-get_or (replicate (length routes) 0) at 0 within ∙ ap (λ (n : ℕ). Some n)
    (get_or-replicate {A = ℕ} (length routes) at 0 0 below)

-- the connections of a subscriber are numbered in rows
pub start_received : (sizes : LaneSizes) (who : ℕ) → who < sizes.subscribers
    → HasReceived (listed (link_at sizes) (sizes.publishers * sizes.subscribers)) who (receiving_routes sizes who sizes.publishers)
start_received sizes who below = record {
  each = λ connection link found own.
      let is = listed_is (link_at sizes) (sizes.publishers * sizes.subscribers) connection link found in
      let some : 0 < sizes.subscribers = some_columns sizes.publishers sizes.subscribers connection is.0 in
      let row : connection / sizes.subscribers < sizes.publishers = div_below connection sizes.subscribers sizes.publishers some is.0 in
      let column : connection % sizes.subscribers ≡ who = ap (λ (l : LinkState). l.subscriber) (sym is.1) ∙ own in
      record {
        place = connection / sizes.subscribers;
        route = route_to sizes (connection / sizes.subscribers * sizes.subscribers + who);
        found = listed_at (λ publisher. route_to sizes (publisher * sizes.subscribers + who)) sizes.publishers
            (connection / sizes.subscribers) row;
        same = ap (λ (c : ℕ). connection / sizes.subscribers * sizes.subscribers + c) (sym column) ∙ div-add-mod' connection
            sizes.subscribers;
      };
  once = λ i j one other at there same.
      let first = (listed_is (λ publisher. route_to sizes (publisher * sizes.subscribers + who)) sizes.publishers i one at).1 in
      let second = (listed_is (λ publisher. route_to sizes (publisher * sizes.subscribers + who)) sizes.publishers j other there).1 in
      let e : i * sizes.subscribers + who ≡ j * sizes.subscribers + who
      = sym (ap (λ (r : Route). r.connection) first) ∙ same ∙ ap (λ (r : Route). r.connection) second in
      sym (div-mul-add i sizes.subscribers who below) ∙ ap (λ (n : ℕ). n / sizes.subscribers) e ∙ div-mul-add j sizes.subscribers who below;
}

pub may_at_start : (sizes : LaneSizes) (place : ℕ) (at : Option SubscriberLaneState) → slice_get (start sizes).subscribers place ≡ at
    → may_borrow at ≤ sizes.most_borrowed
may_at_start sizes place None e = omega arith
may_at_start sizes place (Some lane) e
    = omega (
      arith,
      ap (λ (x : SubscriberLaneState). x.port.most_borrowed)
          ((listed_is (subscriber_at sizes) sizes.subscribers place lane e).1),
    )
