-- Where the words of the reads that ended are: one read after the other, each with as many words as a slot.
use Rattle.std.specs.Prelude.{ℕ, ◌≡◌, ◌+◌, ◌*◌, Bool, true, false, if◌then◌else◌, List, [], ◌∷◌, ◌++◌, length, slice_get, Some}
use Rattle.iox_lanes_machine.specs.LanesBase.declared.words.sizes.TableSizes.{TableSizes}
use Rattle.iox_lanes_machine.specs.LanesParties.Parties.{SubscriberLaneState}
use Rattle.iox_lanes_machine.specs.LanesParties.declared.call.Answer.{Answer}
use Rattle.iox_lanes_machine.specs.LanesParties.declared.call.Answer.TheVariants as answer
use Rattle.iox_lanes_machine.specs.LanesParties.declared.call.FinishedCall.{FinishedCall}
use Rattle.iox_lanes_machine.specs.World.{World}

-- Whether the answer is a read's.
abbrev pub is_read : Answer → Bool
is_read (answer.Lent loan) = false
is_read answer.Written = false
is_read (answer.Sent given) = false
is_read answer.Dropped = false
is_read (answer.Received given) = false
is_read (answer.Read from) = true
is_read (answer.Released done) = false

-- The reads among these calls.
abbrev pub reads_of : List FinishedCall → List FinishedCall
reads_of [] = []
reads_of (call ∷ calls) = (if is_read call.answer then call ∷ [] else []) ++ reads_of calls

-- The number of words that a read returns: header, user header and payload.
abbrev pub width : TableSizes → ℕ
width sizes = 3 + sizes.user_header_words + sizes.payload_words

-- The words of each read that ended come after those of the reads before it, and there are no others.
pub record ReadsLie (m : World) : Type 0 where
  pub each : (number : ℕ) (call : FinishedCall) → slice_get (reads_of m.finished) number ≡ Some call
      → call.answer ≡ answer.Read (number * width m.table.sizes)
  pub all : length m.read ≡ length (reads_of m.finished) * width m.table.sizes
  pub rooms : (place : ℕ) (lane : SubscriberLaneState) → slice_get m.subscribers place ≡ Some lane
      → length lane.port.words ≡ width m.table.sizes
