-- What waits or is remembered is its publisher's own.
use Rattle.std.proofs.Common.{ℕ, zero, suc, ◌≡◌, ◌<◌, ◌≤◌, ◌^◌, List, [], ◌∷◌, get_or, slice_get, Some, refl, sym, ap, subst, inl, inr}
use Rattle.std.proofs.Common.{arith}
use Rattle.std.proofs.lemmas.Bool.Decides.{eqb_tells}
use Rattle.iox_lanes_machine.specs.QueuesSteps.declared.order.Placed.{Placed}
use Rattle.iox_lanes_machine.specs.LanesParties.Parties.{PublisherLaneState}
use Rattle.iox_lanes_machine.specs.LedgerUses.{one_if, count, entry}
use Rattle.iox_lanes_machine.proofs.Entries.{entry_own}
use Rattle.iox_lanes_machine.specs.Kept.{IsKept}
use Rattle.iox_lanes_machine.specs.Links.{LinkState}
use Rattle.iox_lanes_machine.specs.Owned.{IsSlotOf, MailIsOwn, HistoriesAreOwn}
use Rattle.iox_lanes_machine.specs.Rings.{waiting}
use Rattle.iox_lanes_machine.specs.Uses.{PublisherUses, UsesKept}
use Rattle.iox_lanes_machine.specs.World.{World}
use Rattle.iox_lanes_machine.proofs.Connected.{sends_connected}
use Rattle.iox_lanes_machine.proofs.Ends.{some_is}
use Rattle.iox_lanes_machine.proofs.Mailboxes.{order_there}
use Rattle.iox_lanes_machine.proofs.RestingRings.{mail_is}
use Rattle.iox_lanes_machine.proofs.SubscriberUses.{of_publisher}

-- what stands in a list is counted there
counted_first : (slot : ℕ) (xs : List ℕ) → 0 < count slot (slot ∷ xs)
counted_first slot xs = elim (eqb_tells slot slot) [
  | inl same ↦ omega (arith, ap one_if same.0)
  | inr other ↦ absurd (other.1 refl)
]

counted_at : (xs : List ℕ) (at slot : ℕ) → slice_get xs at ≡ Some slot → 0 < count slot xs
counted_at [] at slot is = absurd (cc is)
counted_at (x ∷ xs) zero slot is = subst (λ (first : ℕ). 0 < count slot (first ∷ xs)) (sym (some_is x slot is)) (counted_first slot xs)
counted_at (x ∷ xs) (suc at) slot is = omega (arith, counted_at xs at slot is)

waiting_own : (m : World) (connection : ℕ) (link : LinkState) (order : List Placed) → IsKept m → m.moments ≤ 2 ^ 63
    → slice_get m.links connection ≡ Some link → slice_get m.orders connection ≡ Some order
    → (slot : ℕ) → 0 < count slot (waiting link order) → IsSlotOf m link.publisher slot
waiting_own m connection link order k few found got slot waits =
    let own = of_publisher m connection link order found got (sends_connected m (k.sends few)) (k.uses few) slot (omega (arith, waits)) in
    record { lane = own.lane; found = own.found; above = own.above; below = own.below }

pub mail_is_own : (m : World) (connection : ℕ) → IsKept m → MailIsOwn m connection
mail_is_own m connection k = λ few link found at slot is.
    waiting_own m connection link (get_or m.orders connection []) k few found (order_there m connection link k found) slot
    (counted_at (waiting link (get_or m.orders connection [])) at slot
    (subst (λ (mail : List ℕ). slice_get mail at ≡ Some slot) (mail_is m connection link found) is))

remembered_own : (m : World) (place : ℕ) (lane : PublisherLaneState) → UsesKept m → slice_get m.publishers place ≡ Some lane
    → (slot : ℕ) → 0 < count slot lane.port.book.history → IsSlotOf m place slot
remembered_own m place lane u found slot some =
    let uses : PublisherUses m lane = u.publishers place lane found in
    let clause = uses.counted.each slot in
    let used : 0 < entry lane.port.book.first lane.port.book.uses slot 0 = omega (arith, clause.counted, some) in
    let own = entry_own lane.port.book.first slot lane.port.book.uses 0 (λ none. absurd (omega (arith, none, used))) in
    record { lane = lane; found = found; above = own.0; below = omega (arith, own.1, uses.counted.loans_each) }

pub histories_are_own : (m : World) → IsKept m → HistoriesAreOwn m
histories_are_own m k = λ few place lane found. record {
  own = λ at slot is. remembered_own m place lane (k.uses few) found slot (counted_at lane.port.book.history at slot is);
  few = ((k.rooms few).publishers place lane found).counts.kept;
}
