-- What waits at a connection whose ports are between calls stands in its ring.
use Rattle.std.proofs.Common.{rules, arith, ◌≡◌, ◌+◌, ◌-◌, ◌<◌, ◌≤◌, ◌^◌, ◌%◌, ℕ, Bool, true, false, nat_lt, List, [], length, get_or}
use Rattle.std.proofs.Common.{slice_get, slice_index, Some, refl, sym, subst, ap, ◌∙◌}
use Rattle.std.proofs.lemmas.Nat.{mod_below}
use Rattle.std.proofs.lemmas.Option.{slice_get-get_or}
use Rattle.iox_lanes_machine.specs.QueuesSteps.Access.{RingWords}
use Rattle.iox_lanes_machine.specs.QueuesSteps.declared.access.Word.TheVariants.{Cell}
use Rattle.iox_lanes_machine.specs.QueuesSteps.Ends.{Shape, cells_of, push_idle, pop_idle}
use Rattle.iox_lanes_machine.specs.QueuesSteps.declared.rings.ends.RingKind.{RingKind}
use Rattle.iox_lanes_machine.specs.QueuesSteps.declared.rings.ends.RingKind.TheVariants as kind
use Rattle.iox_lanes_machine.specs.LanesBase.Table.{held_by}
use Rattle.iox_lanes_machine.specs.LanesBase.Publishing.{publisher_is_idle}
use Rattle.iox_lanes_machine.specs.LanesBase.Subscribing.{subscriber_is_idle}
use Rattle.iox_lanes_machine.specs.LanesBase.declared.calls.publisher.PublisherCall.{PublisherCall}
use Rattle.iox_lanes_machine.specs.LanesBase.declared.calls.publisher.PublisherCall.TheVariants as publishing
use Rattle.iox_lanes_machine.specs.LanesBase.declared.calls.subscriber.SubscriberCall.{SubscriberCall}
use Rattle.iox_lanes_machine.specs.LanesBase.declared.calls.subscriber.SubscriberCall.TheVariants as subscribing
use Rattle.iox_lanes_machine.specs.Kept.{IsKept, IsWithin}
use Rattle.iox_lanes_machine.specs.Links.{LinkState}
use Rattle.iox_lanes_machine.specs.Mailboxes.{positions_of}
use Rattle.iox_lanes_machine.specs.Owned.{MailHasRoom}
use Rattle.iox_lanes_machine.specs.Resting.{Rests, mail_at, mail_by}
use Rattle.iox_lanes_machine.specs.Rings.{sent_word, ring_in, cells_in, waiting, push_on, pop_on}
use Rattle.iox_lanes_machine.specs.World.{World, publisher_stage, subscriber_stage}
use Rattle.iox_lanes_machine.specs.LanesBase.declared.words.word.ConnectionRing.TheVariants.{Submission}
use Rattle.iox_lanes_machine.proofs.InTable.{IsSeat, cell_held, cells_length}
use Rattle.iox_lanes_machine.proofs.Mailboxes.{order_there}

-- a ring has no more cells than there are words for
pub cells_fit : (m : World) (connection : ℕ) (link : LinkState) → IsWithin m → slice_get m.links connection ≡ Some link
    → cells_of link.kind link.limit ≤ m.table.sizes.submission_cells
cells_fit m connection link w found = (w.links connection link found).cells

-- each ring has a cell
pub some_cells : (k : RingKind) (limit : ℕ) → 0 < cells_of k limit
some_cells kind.Overflowing limit = omega arith
some_cells kind.Refusing limit = at (nat_lt 0 limit) refl
  where
    at : (b : Bool) → nat_lt 0 limit ≡ b → 0 < cells_of kind.Refusing limit
    at true is = rw is (grind (arith, is))
    at false is = rw is (omega arith)

-- a publisher between calls pushes nothing
idle_sends : (call : PublisherCall) (connection : ℕ) (k : RingKind) → publisher_is_idle call ≡ true
    → push_on connection k call ≡ push_idle k
idle_sends publishing.Idle connection k idle = refl
idle_sends (publishing.LoanReclaims place route pop) connection k idle = refl
idle_sends publishing.Lending connection k idle = refl
idle_sends (publishing.Writing slot word value) connection k idle = refl
idle_sends (publishing.Written slot) connection k idle = refl
idle_sends (publishing.Heading slot word value) connection k idle = refl
idle_sends (publishing.Remembering slot) connection k idle = refl
idle_sends (publishing.SendReclaims slot place route pop) connection k idle = refl
idle_sends (publishing.Pushing slot place route push delivery) connection k idle = search (rules, idle)
idle_sends (publishing.Sent slot delivery) connection k idle = refl
idle_sends (publishing.Dropping slot) connection k idle = refl

-- a subscriber between calls pops nothing
idle_receives : (call : SubscriberCall) (connection : ℕ) (k : RingKind) → subscriber_is_idle call ≡ true
    → pop_on connection k call ≡ pop_idle k
idle_receives subscribing.Idle connection k idle = refl
idle_receives (subscribing.Receiving place route pop waits) connection k idle = search (rules, idle)
idle_receives (subscribing.Received receipt) connection k idle = refl
idle_receives (subscribing.Reading slot word extent) connection k idle = refl
idle_receives (subscribing.WasRead slot) connection k idle = refl
idle_receives (subscribing.Releasing place route push) connection k idle = refl
idle_receives (subscribing.Released done) connection k idle = refl

-- a ring at which neither end stands holds just what waits
record HoldsJust (k : RingKind) (limit : ℕ) (words : RingWords) (q : List ℕ) : Type 0 where
  level : words.read + length q ≡ words.write
  room : length q ≤ limit
  each : (at : ℕ) → at < length q → slice_index words.cells ((words.read + at) % cells_of k limit) ≡ slice_index q at

just_holds : (k : RingKind) (limit : ℕ) (words : RingWords) (q : List ℕ) → length words.cells ≡ cells_of k limit
    → Shape k limit words q (push_idle k) (pop_idle k) → HoldsJust k limit words q
just_holds kind.Overflowing limit words q size s = record { level = s.push_knows; room = s.room; each = λ at below. s.held.each at below }
just_holds kind.Refusing limit words q size s = record {
  level = s.level;
  room = s.room;
  each = λ at below. subst (λ (n : ℕ). slice_index words.cells ((words.read + at) % n) ≡ slice_index q at) size (s.held.each at below);
}

seat_of : (m : World) (connection : ℕ) (link : LinkState) → IsKept m → slice_get m.links connection ≡ Some link
    → IsSeat Submission m.table connection (cells_of link.kind link.limit)
seat_of m connection link k found = record {
  there = (k.within.links connection link found).connection_is;
  some = some_cells link.kind link.limit;
  room = (k.within.links connection link found).cells;
  words = k.within.words;
}

pub mail_is : (m : World) (connection : ℕ) (link : LinkState) → slice_get m.links connection ≡ Some link
    → mail_at m connection ≡ waiting link (get_or m.orders connection [])
mail_is m connection link found = ap (λ it. mail_by it (get_or m.orders connection [])) found

ring_rests : (m : World) (connection : ℕ) (link : LinkState) → IsKept m → Rests m connection → slice_get m.links connection ≡ Some link
    → HoldsJust link.kind link.limit (ring_in m.table connection (cells_of link.kind link.limit)) (mail_at m connection)
ring_rests m connection link k rests found =
    let is = (k.rings rests.few) connection link (get_or m.orders connection []) found (order_there m connection link k found) in
    let ring : RingWords = ring_in m.table connection (cells_of link.kind link.limit) in
    let q : List ℕ = waiting link (get_or m.orders connection []) in
    let sends = idle_sends (publisher_stage (slice_get m.publishers link.publisher)) connection link.kind (rests.sender link found) in
    let receives = idle_receives (subscriber_stage (slice_get m.subscribers link.subscriber)) connection link.kind
    (rests.receiver link found) in
    let shape : Shape link.kind link.limit ring q (push_idle link.kind) (pop_idle link.kind) =
    subst (λ c. Shape link.kind link.limit ring q (push_idle link.kind) c) receives
    (subst (λ p. Shape link.kind link.limit ring q p
    (pop_on connection link.kind (subscriber_stage (slice_get m.subscribers link.subscriber)))) sends is.shape) in
    subst (HoldsJust link.kind link.limit ring) (sym (mail_is m connection link found))
    (just_holds link.kind link.limit ring q
    (cells_length Submission m.table connection (cells_of link.kind link.limit) (seat_of m connection link k found)) shape)

-- no more wait than may
pub mail_has_room : (m : World) (connection : ℕ) → IsKept m → MailHasRoom m connection
mail_has_room m connection k = λ rests link found. (ring_rests m connection link k rests found).room

abbrev link_at : (m : World) (connection : ℕ) → connection < length m.links → LinkState
link_at m connection below = get_or m.links connection
    (record { publisher = 0; subscriber = 0; kind = kind.Refusing; limit = 0; found = [] })

link_found : (m : World) (connection : ℕ) (below : connection < length m.links)
    → slice_get m.links connection ≡ Some (link_at m connection below)
link_found m connection below = slice_get-get_or m.links connection
    (record { publisher = 0; subscriber = 0; kind = kind.Refusing; limit = 0; found = [] }) below

-- as many wait as lie between the positions
pub waits_between : (m : World) (connection count : ℕ) → IsKept m → connection < length m.links
    → ((link : LinkState) → slice_get m.links connection ≡ Some link
    → (positions_of m.table connection).submission_write ≤ (positions_of m.table connection).submission_read + link.limit
    → count ≡ (positions_of m.table connection).submission_write - (positions_of m.table connection).submission_read)
    → Rests m connection → count ≡ length (mail_at m connection)
waits_between m connection count k below between rests =
    let just = ring_rests m connection (link_at m connection below) k rests (link_found m connection below) in
    let count_is = between (link_at m connection below) (link_found m connection below) (omega (arith, just.level, just.room)) in
    omega (arith, count_is, just.level)

-- the cell of a position holds what waits there
pub waits_in_cell : (m : World) (connection at position slot : ℕ) → IsKept m → connection < length m.links
    → ((link : LinkState) → slice_get m.links connection ≡ Some link
    → slot ≡ held_by m.table (sent_word connection (Cell (position % cells_of link.kind link.limit))))
    → ((positions_of m.table connection).submission_read + at < 2 ^ 64 → position ≡ (positions_of m.table connection).submission_read + at)
    → Rests m connection → at < length (mail_at m connection) → slice_get (mail_at m connection) at ≡ Some slot
waits_in_cell m connection at position slot k below holds position_is rests there =
    let link : LinkState = link_at m connection below in
    let found = link_found m connection below in
    let cells : ℕ = cells_of link.kind link.limit in
    let read : ℕ = (positions_of m.table connection).submission_read in
    let just = ring_rests m connection link k rests found in
    let is = (k.rings rests.few) connection link (get_or m.orders connection []) found (order_there m connection link k found) in
    let at_is : position ≡ read + at = position_is (omega (arith, just.level, there, is.few, rests.few)) in
    let held : slice_index (cells_in m.table connection cells) ((read + at) % cells)
    ≡ held_by m.table (sent_word connection (Cell ((read + at) % cells))) =
    cell_held Submission m.table connection cells ((read + at) % cells) (mod_below (read + at) cells (some_cells link.kind link.limit)) in
    let slot_is : slot ≡ held_by m.table (sent_word connection (Cell ((read + at) % cells))) =
    subst (λ (p : ℕ). slot ≡ held_by m.table (sent_word connection (Cell (p % cells)))) at_is (holds link found) in
    slice_get-get_or (mail_at m connection) at 0 there ∙ ap Some (sym (slot_is ∙ sym held ∙ just.each at there))
