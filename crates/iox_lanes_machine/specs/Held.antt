-- What a read loads is what its slot contains.
use Rattle.std.specs.Prelude.{ℕ, ◌≡◌, ◌<◌, ◌≤◌, ◌^◌, List, ◌∷◌, [], ◌++◌, get_or, slice_get, Some}
use Rattle.iox_lanes_machine.specs.LanesBase.Table.{TableWords, held_by}
use Rattle.iox_lanes_machine.specs.LanesBase.declared.words.sizes.TableSizes.{TableSizes}
use Rattle.iox_lanes_machine.specs.LanesBase.declared.words.word.SharedWord.TheVariants.{Slot}
use Rattle.iox_lanes_machine.specs.LanesBase.Subscribing.{word_at}
use Rattle.iox_lanes_machine.specs.LanesBase.declared.calls.subscriber.SlotExtent.{SlotExtent}
use Rattle.iox_lanes_machine.specs.LanesBase.declared.calls.subscriber.SubscriberCall.{SubscriberCall}
use Rattle.iox_lanes_machine.specs.LanesBase.declared.calls.subscriber.SubscriberCall.TheVariants as subscribing
use Rattle.iox_lanes_machine.specs.LanesParties.Parties.{SubscriberLaneState}
use Rattle.iox_lanes_machine.specs.LanesParties.declared.call.CallName.TheVariants as name
use Rattle.iox_lanes_machine.specs.LanesParties.declared.call.FinishedCall.{FinishedCall}
use Rattle.iox_lanes_machine.specs.Alone.{IsAtConnection}
use Rattle.iox_lanes_machine.specs.Made.{listed}
use Rattle.iox_lanes_machine.specs.Reads.{width}
use Rattle.iox_lanes_machine.specs.World.{World}

-- The numbers of words of the user headers and the payloads of a service.
abbrev pub extent_of : TableSizes → SlotExtent
extent_of sizes = record { user_header_words = sizes.user_header_words; payload_words = sizes.payload_words }

-- The words of a slot: header, user header and payload.
abbrev pub slot_held : TableWords → ℕ → List ℕ
slot_held table slot = listed (λ word. held_by table (Slot slot (word_at (extent_of table.sizes) word))) (width table.sizes)

-- The first `words` words of the list are the first ones of the slot.
abbrev pub HoldsFirst : TableWords → ℕ → ℕ → List ℕ → Type 0
HoldsFirst table slot words list = (word : ℕ) → word < words
    → get_or list word 0 ≡ held_by table (Slot slot (word_at (extent_of table.sizes) word))

-- What a read has loaded so far is what its slot contains.
abbrev pub LoadsHeld : TableWords → List ℕ → SubscriberCall → Type 0
LoadsHeld table list subscribing.Idle = Unit {0}
LoadsHeld table list (subscribing.Receiving place route pop waits) = Unit {0}
LoadsHeld table list (subscribing.Received given) = Unit {0}
LoadsHeld table list (subscribing.Reading slot word extent) = HoldsFirst table slot word list
LoadsHeld table list (subscribing.WasRead slot) = HoldsFirst table slot (width table.sizes) list
LoadsHeld table list (subscribing.Releasing place route push) = Unit {0}
LoadsHeld table list (subscribing.Released done) = Unit {0}

-- What each subscriber's read has loaded so far is what its slot contains.
abbrev pub ReadsHold : World → Type 0
ReadsHold m = (place : ℕ) (lane : SubscriberLaneState) → slice_get m.subscribers place ≡ Some lane
    → LoadsHeld m.table lane.port.words lane.port.call

-- What each subscriber's read has loaded so far is what its slot contains, as long as at most 2^63 steps were made.
abbrev pub ReadsFollow : World → Type 0
ReadsFollow m = m.moments ≤ 2 ^ 63 → ReadsHold m

-- As long as at most 2^63 steps were made: a step that ends a read of a sample returns exactly the words that the slot contains, and the
-- slot is still at a connection.
abbrev pub ReadsWhole : World → World → Type 0
ReadsWhole m n = m.moments ≤ 2 ^ 63 → (call : FinishedCall) (sample : ℕ) → n.finished ≡ m.finished ++ call ∷ []
    → call.call ≡ name.Read sample
    → (n.read ≡ m.read ++ slot_held m.table sample) × IsAtConnection m sample
