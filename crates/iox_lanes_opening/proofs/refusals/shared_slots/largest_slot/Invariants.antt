use Rattle.std.proofs.Common.{ℕ, ◌≡◌, ◌<◌, ◌≤◌, slice_get, Some}
use Rattle.iox_lanes_opening.specs.SharedSlots.{messages_in, slots_of}
use Rattle.iox_lanes_opening.proofs.refusals.shared_slots.largest_slot.Given as goal

abbrev pub invariant-loop-place : goal.invariant-loop-place
invariant-loop-place g l = (k slot : ℕ) → k < l.place → slice_get (slots_of (messages_in l.messages l.port)) k ≡ Some slot
    → slot ≤ l.largest
