-- Which slots of lanes between calls are in use, and where they lie.
use Rattle.std.proofs.Common.{ℕ, ◌≡◌, ◌<◌, ◌≤◌, ◌^◌, ◌⊎◌, true, List, [], get_or, slice_get, Option, Some, None}
use Rattle.std.proofs.Common.{refl, sym, ◌∙◌, ap, inl, inr, arith}
use Rattle.std.proofs.lemmas.Bool.{cases_Bool, cases_lt}
use Rattle.std.proofs.lemmas.Option.{get_or_from_slice_get}
use Rattle.iox_lanes_machine.specs.QueuesSteps.declared.order.Placed.{Placed}
use Rattle.iox_lanes_machine.specs.LanesBase.declared.calls.route.Route.{Route}
use Rattle.iox_lanes_machine.specs.LanesParties.Parties.{PublisherLaneState, SubscriberLaneState, place_of, route_at}
use Rattle.iox_lanes_machine.specs.LanesParties.Within.{IsPublisher}
use Rattle.iox_lanes_machine.proofs.LanesParties.Rings.{all_at}
use Rattle.iox_lanes_machine.specs.Borrowing.{borrows, is_at}
use Rattle.iox_lanes_machine.specs.FullLoans.{IsHeld}
use Rattle.iox_lanes_machine.specs.Kept.{IsKept}
use Rattle.iox_lanes_machine.specs.LedgerUses.{count, one_if, IsOwn}
use Rattle.iox_lanes_machine.specs.Links.{LinkState}
use Rattle.iox_lanes_machine.specs.Owned.{IsSlotOf}
use Rattle.iox_lanes_machine.specs.Resting.{AllBetween, mail_at, mail_by}
use Rattle.iox_lanes_machine.specs.Rings.{waiting}
use Rattle.iox_lanes_machine.specs.World.{World}
use Rattle.iox_lanes_machine.specs.Slots.{IsLoanAt}
use Rattle.iox_lanes_machine.proofs.Alone.{loans_alone}
use Rattle.iox_lanes_machine.proofs.Connected.{sends_connected}
use Rattle.iox_lanes_machine.proofs.Mailboxes.{order_there}
use Rattle.iox_lanes_machine.proofs.RestingRings.{mail_is}
use Rattle.iox_lanes_machine.proofs.SubscriberUses.{of_publisher}
use Rattle.iox_lanes_laws.proofs.PublisherLaws.{none_aside}

-- a slot waits at a connection, or is borrowed of one
pub record WaitsAt (m : World) (slot : ℕ) : Type 0 where
  pub connection : ℕ
  pub some : 0 < count slot (mail_at m connection)

pub record IsBorrowedOf (m : World) (slot : ℕ) : Type 0 where
  pub connection : ℕ
  pub link : LinkState
  pub found : slice_get m.links connection ≡ Some link
  pub has : borrows connection slot (slice_get m.subscribers link.subscriber) ≡ true

-- what is held between calls waits or is borrowed
pub held_split : (m : World) (slot : ℕ) → AllBetween m → IsHeld m slot → WaitsAt m slot ⊎ IsBorrowedOf m slot
held_split m slot between h = elim (cases_Bool (borrows h.connection slot (slice_get m.subscribers (h.link).subscriber))) [
  | inl has ↦ inr (record { connection = h.connection; link = h.link; found = h.found; has = has })
  | inr not ↦
      let order : h.order ≡ get_or m.orders h.connection [] = sym (get_or_from_slice_get m.orders h.connection h.order [] h.got) in
      inl (record {
        connection = h.connection;
        some = omega (
          arith,
          h.has,
          ap one_if not,
          ap (count slot) (none_aside m h.connection (h.link).publisher h.link between),
          ap (λ (os : List Placed). count slot (waiting h.link os)) order,
          ap (count slot) (mail_is m h.connection h.link h.found),
        );
      })
]

pub held_borrowed : (m : World) (slot : ℕ) → IsKept m → IsBorrowedOf m slot → IsHeld m slot
held_borrowed m slot k b = record {
  connection = b.connection;
  link = b.link;
  order = get_or m.orders b.connection [];
  found = b.found;
  got = order_there m b.connection b.link k b.found;
  has = omega (arith, ap one_if b.has);
}

pub held_waits : (m : World) (slot : ℕ) → IsKept m → WaitsAt m slot → IsHeld m slot
held_waits m slot k w = by_link (slice_get m.links w.connection) refl
  where
    by_link : (o : Option LinkState) → slice_get m.links w.connection ≡ o → IsHeld m slot
    by_link None found = absurd (omega (
      arith,
      w.some,
      ap (λ (x : Option LinkState). count slot (mail_by x (get_or m.orders w.connection []))) found,
    ))
    by_link (Some link) found = record {
      connection = w.connection;
      link = link;
      order = get_or m.orders w.connection [];
      found = found;
      got = order_there m w.connection link k found;
      has = omega (arith, w.some, ap (count slot) (mail_is m w.connection link found));
    }

-- what is held at a connection is a slot of its publisher
pub held_own : (m : World) (slot : ℕ) → IsKept m → m.moments ≤ 2 ^ 63 → (h : IsHeld m slot) → IsSlotOf m (h.link).publisher slot
held_own m slot k few h =
    let own = of_publisher m h.connection h.link h.order h.found h.got (sends_connected m (k.sends few)) (k.uses few) slot
    (omega (arith, h.has)) in
    record { lane = own.lane; found = own.found; above = own.above; below = own.below }

pub borrowed_own : (m : World) (slot : ℕ) → IsKept m → m.moments ≤ 2 ^ 63 → (b : IsBorrowedOf m slot)
    → IsSlotOf m (b.link).publisher slot
borrowed_own m slot k few b = held_own m slot k few (record {
  connection = b.connection;
  link = b.link;
  order = get_or m.orders b.connection [];
  found = b.found;
  got = order_there m b.connection b.link k b.found;
  has = omega (arith, ap one_if b.has);
})

pub waits_own : (m : World) (slot connection : ℕ) (link : LinkState) → IsKept m → m.moments ≤ 2 ^ 63
    → slice_get m.links connection ≡ Some link → 0 < count slot (mail_at m connection) → IsSlotOf m link.publisher slot
waits_own m slot connection link k few found some = held_own m slot k few (record {
  connection = connection;
  link = link;
  order = get_or m.orders connection [];
  found = found;
  got = order_there m connection link k found;
  has = omega (arith, some, ap (count slot) (mail_is m connection link found));
})

-- and of no other
pub own_apart : (m : World) (one other slot : ℕ) → IsKept m → IsSlotOf m one slot → IsSlotOf m other slot → one ≡ other
own_apart m one other slot k a b = elim (cases_lt one other) [
  | inl lt ↦ absurd (omega (arith, k.loans.rows one other a.lane b.lane a.found b.found lt, a.below, b.above))
  | inr ge ↦ elim (cases_lt other one) [
    | inl gt ↦ absurd (omega (arith, k.loans.rows other one b.lane a.lane b.found a.found gt, b.below, a.above))
    | inr le ↦ omega (arith, ge, le)
  ]
]

-- and so there are words for it
pub slot_there : (m : World) (place slot : ℕ) → IsKept m → IsSlotOf m place slot → slot < m.table.sizes.slots
slot_there m place slot k is =
    let p : IsPublisher m.table.sizes is.lane
    = all_at (IsPublisher m.table.sizes) m.publishers place is.lane is.found k.within.publishers in
    omega (arith, is.below, p.slots)

pub held_there : (m : World) (slot : ℕ) → IsKept m → m.moments ≤ 2 ^ 63 → IsHeld m slot → slot < m.table.sizes.slots
held_there m slot k few h = slot_there m (h.link).publisher slot k (held_own m slot k few h)

-- a publisher's own slot is one of it
pub own_is : (m : World) (place slot : ℕ) (lane : PublisherLaneState) → IsKept m → m.moments ≤ 2 ^ 63
    → slice_get m.publishers place ≡ Some lane → IsOwn lane.port.book slot → IsSlotOf m place slot
own_is m place slot lane k few found own =
    let counted = ((k.uses few).publishers place lane found).counted in
    record { lane = lane; found = found; above = own.above; below = omega (arith, own.below, counted.loans_each) }

-- the same is borrowed of a connection where the same connections have the same places
pub borrows_alike : (before after : SubscriberLaneState) (connection slot : ℕ) → after.port.routes ≡ before.port.routes
    → place_of slot after ≡ place_of slot before → borrows connection slot (Some after) ≡ borrows connection slot (Some before)
borrows_alike before after connection slot routes same =
    ap (λ (o : Option ℕ). is_at connection (route_at o after)) same ∙ by_place (place_of slot before)
  where
    by_place : (o : Option ℕ) → is_at connection (route_at o after) ≡ is_at connection (route_at o before)
    by_place None = refl
    by_place (Some place) = ap (λ (rs : List Route). is_at connection (slice_get rs place)) routes

-- a loan is held nowhere
pub loan_unheld : (m : World) (place slot : ℕ) → IsKept m → m.moments ≤ 2 ^ 63 → IsLoanAt m place slot → IsHeld m slot → ⊥
loan_unheld m place slot k few loan h =
    let none = (loans_alone m k few place slot loan).1 h.connection h.link h.order h.found h.got in
    absurd (omega (
      arith,
      h.has,
      none.waits,
      none.aside,
      ap one_if none.borrowed,
    ))

-- and remembered by nobody
pub loan_forgotten : (m : World) (place slot who : ℕ) (lane : PublisherLaneState) → IsKept m → m.moments ≤ 2 ^ 63 → IsLoanAt m place slot
    → slice_get m.publishers who ≡ Some lane → 0 < count slot lane.port.book.history → ⊥
loan_forgotten m place slot who lane k few loan found some =
    absurd (omega (arith, some, (loans_alone m k few place slot loan).0 who lane found))
