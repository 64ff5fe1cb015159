-- The words between the three words of a header and the payload: those of a user header, and before them the sequence number of the
-- message, where messages have one.
use Rattle.std.specs.Prelude.{ℕ, Bool, true, false, List, ◌∷◌, drop, slice_index, unwrap_or, Option, None, Some}
use Rattle.iox_lanes_machine.specs.QueuesSteps.Access.{successor}

-- The number of words between header and payload, for a user header of `count` words; at most 2^64 - 1.
abbrev pub middle_count : Bool → ℕ → ℕ
middle_count false count = count
middle_count true count = successor count

-- The words of a sequence number and a user header. Where messages have sequence numbers, the word is 0 if this message has none.
abbrev pub middle_words : {U : Type 0} → Bool → (U → List ℕ) → Option ℕ × U → List ℕ
middle_words false words middle = words middle.1
middle_words true words middle = unwrap_or middle.0 0 ∷ words middle.1

-- The sequence number and the user header that are read from these words.
abbrev pub middle_of : {U : Type 0} → Bool → (List ℕ → U) → List ℕ → Option ℕ × U
middle_of false header_of words = (None, header_of words)
middle_of true header_of words = (Some (slice_index words 0), header_of (drop 1 words))
