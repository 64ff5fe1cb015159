-- What no step changes: the connections, the sizes of the words, how many ports there are, and which slots each publisher has.
use Rattle.std.specs.Prelude.{ℕ, ◌≡◌, length, slice_get, Option, option_map}
use Rattle.iox_lanes_machine.specs.LanesParties.Parties.{PublisherLaneState}
use Rattle.iox_lanes_machine.specs.World.{World}

-- A publisher's slots: the number of the first one, how many there are, the loan limit, and the history size.
pub record FixedSlots : Type 0 where
  pub first : ℕ
  pub slots : ℕ
  pub most_loans : ℕ
  pub kept : ℕ

-- The number of a publisher's first slot, its number of slots, its loan limit, and its history size.
abbrev pub fixed_slots : PublisherLaneState → FixedSlots
fixed_slots lane = record {
  first = lane.port.book.first;
  slots = length lane.port.book.loans;
  most_loans = lane.port.book.most_loans;
  kept = lane.port.book.kept;
}

-- The fixed numbers of the slots of the publisher at this place, if there is one.
abbrev pub slots_at : World → ℕ → Option FixedSlots
slots_at m place = option_map fixed_slots (slice_get m.publishers place)

-- Connections, sizes of the words, fixed numbers of each publisher's slots, and the numbers of publishers and subscribers are the same
-- before and after.
pub record StaysFixed (m n : World) : Type 0 where
  pub links : n.links ≡ m.links
  pub sizes : n.table.sizes ≡ m.table.sizes
  pub publishers : (place : ℕ) → slots_at n place ≡ slots_at m place
  pub publisher_count : length n.publishers ≡ length m.publishers
  pub subscriber_count : length n.subscribers ≡ length m.subscribers
