-- Messages that are found on lanes, and the last one of a slot.
use Rattle.std.proofs.Common.{ℕ, zero, suc, ◌≡◌, ◌+◌, ◌<◌, ◌≤◌, ◌==◌, Bool, true, false, nat_lt, if◌then◌else◌, List, [], ◌∷◌}
use Rattle.std.proofs.Common.{length, get_or, slice_get, Option, None, Some, refl, ◌∙◌, ap, inl, inr, arith}
use Rattle.std.specs.List.{All}
use Rattle.std.proofs.lemmas.List.Elements.{All-append, All-cons, All-head, All-nil, All-tail}
use Rattle.std.proofs.lemmas.Nat.{row_fits}
use Rattle.std.proofs.lemmas.Bool.Decides.{eqb_tells}
use Rattle.iox_lanes_machine.specs.LanesBase.Numbers.{words_of, slot_words}
use Rattle.iox_lanes_machine.specs.LanesBase.Table.{TableWords}
use Rattle.iox_lanes_machine.specs.LanesBase.declared.words.sizes.TableSizes.{TableSizes}
use Rattle.iox_lanes_machine.specs.LanesParties.Parties.{PublisherLaneState}
use Rattle.iox_lanes_machine.specs.Held.{slot_held}
use Rattle.iox_lanes_machine.specs.World.{World}
use Rattle.iox_lanes_laws.specs.Messages.{MessageState, last_in}
use Rattle.iox_lanes_laws.specs.Numbered.{found_in, found_first, found_of, found_before, found_messages}
use Rattle.iox_lanes_laws.specs.Recorded.{AreAsHeld, ArePast}

-- the words of a slot lie within the table
pub slot_fits : (sizes : TableSizes) (slot : ℕ) → slot < sizes.slots
    → 3 + sizes.user_header_words + sizes.payload_words ≤ words_of sizes
slot_fits sizes slot below = omega (arith, row_fits slot (slot_words sizes) sizes.slots (slot_words sizes) below (omega arith))

-- what is so of what is found in a slot is so of all that is found
module _ (m : World) (P : MessageState → Type 0) (each : (publisher slot : ℕ) → P (record
    { publisher = publisher; slot = slot; moment = m.moments; words = slot_held m.table slot })) where
  in_slot : (publisher slot : ℕ) (b : Bool) → All P (if b then record
      { publisher = publisher; slot = slot; moment = m.moments; words = slot_held m.table slot } ∷ [] else [])
  in_slot publisher slot true = All-cons P (record
      { publisher = publisher; slot = slot; moment = m.moments; words = slot_held m.table slot }) [] (each publisher slot) (All-nil P)
  in_slot publisher slot false = All-nil P

  in_first : (publisher : ℕ) (lane : PublisherLaneState) (count : ℕ) → All P (found_first m publisher lane count)
  in_first publisher lane zero = All-nil P
  in_first publisher lane (suc count) = All-append P (found_first m publisher lane count)
      (found_in m publisher (lane.port.book.first + count) (get_or lane.port.book.uses count 0)) (in_first publisher lane count)
      (in_slot publisher (lane.port.book.first + count) (nat_lt 0 (get_or lane.port.book.uses count 0)))

  in_publisher : (publisher : ℕ) (lane : Option PublisherLaneState) → All P (found_of m publisher lane)
  in_publisher publisher None = All-nil P
  in_publisher publisher (Some lane) = in_first publisher lane (length lane.port.book.loans)

  in_before : (count : ℕ) → All P (found_before m count)
  in_before zero = All-nil P
  in_before (suc count) = All-append P (found_before m count) (found_of m count (slice_get m.publishers count)) (in_before count)
      (in_publisher count (slice_get m.publishers count))

pub found_held : (m : World) → AreAsHeld m (found_messages m)
found_held m = in_before m (λ message. message.words ≡ slot_held m.table message.slot) (λ publisher slot. refl) (length m.publishers)

pub found_early : (m : World) → ArePast m (found_messages m)
found_early m = in_before m (λ message. message.moment ≤ m.moments) (λ publisher slot. omega arith) (length m.publishers)

-- messages as their slots hold them say of no slot but what it holds
pub last_held : (table : TableWords) (before : List ℕ) (messages : List MessageState) (slot : ℕ)
    → All (λ message. message.words ≡ slot_held table message.slot) messages → before ≡ slot_held table slot
    → last_in before messages slot ≡ slot_held table slot
last_held table before [] slot held is = is
last_held table before (message ∷ messages) slot held is =
    last_held table (if message.slot == slot then message.words else before) messages slot
    (All-tail (λ (one : MessageState). one.words ≡ slot_held table one.slot) message messages held) (elim (eqb_tells message.slot slot) [
      | inl same ↦ ap (λ b. if b then message.words else before) same.0 ∙ All-head
          (λ (one : MessageState). one.words ≡ slot_held table one.slot) message messages held ∙ ap (slot_held table) same.1
      | inr other ↦ ap (λ b. if b then message.words else before) other.0 ∙ is
    ])
