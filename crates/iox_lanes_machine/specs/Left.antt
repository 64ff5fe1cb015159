-- What a write and a send leave in their slot.
use Rattle.std.specs.Prelude.{ℕ, ◌≡◌, ◌+◌, ◌<◌, ◌≤◌, ◌^◌, Bool, true, false, List, ◌∷◌, [], ◌++◌, get_or, slice_get, Some}
use Rattle.iox_lanes_machine.specs.LanesBase.Table.{TableWords, held_by}
use Rattle.iox_lanes_machine.specs.LanesBase.declared.words.word.SlotWord.TheVariants.{Payload}
use Rattle.iox_lanes_machine.specs.LanesBase.declared.words.word.SharedWord.TheVariants.{Slot}
use Rattle.iox_lanes_machine.specs.LanesBase.Publishing.{header_word}
use Rattle.iox_lanes_machine.specs.LanesBase.declared.calls.publisher.PublisherCall.{PublisherCall}
use Rattle.iox_lanes_machine.specs.LanesBase.declared.calls.publisher.PublisherCall.TheVariants as publishing
use Rattle.iox_lanes_machine.specs.LanesParties.Parties.{PublisherLaneState}
use Rattle.iox_lanes_machine.specs.LanesParties.declared.call.CallName.TheVariants as name
use Rattle.iox_lanes_machine.specs.LanesParties.declared.call.FinishedCall.{FinishedCall}
use Rattle.iox_lanes_machine.specs.LanesParties.declared.call.Party.TheVariants.{Publisher}
use Rattle.iox_lanes_machine.specs.World.{World}

-- The first `words` words of the payload are in the slot.
abbrev pub HoldsPayload : TableWords → ℕ → ℕ → List ℕ → Type 0
HoldsPayload table slot words payload = (word : ℕ) → word < words → get_or payload word 0 ≡ held_by table (Slot slot (Payload word))

-- The first `words` words of header and user header are in the slot.
abbrev pub HoldsHead : TableWords → ℕ → ℕ → List ℕ → Type 0
HoldsHead table slot words head = (word : ℕ) → word < words → get_or head word 0 ≡ held_by table (Slot slot (header_word word))

-- All words of header and user header are in the slot.
abbrev pub HoldsAllHead : TableWords → ℕ → List ℕ → Type 0
HoldsAllHead table slot head = HoldsHead table slot (3 + table.sizes.user_header_words) head

-- What a write or a send has stored so far is in its slot; `sends` says whether the call in progress is a send.
abbrev pub StoresHeld : TableWords → Bool → List ℕ → List ℕ → PublisherCall → Type 0
StoresHeld table sends payload head publishing.Idle = Unit {0}
StoresHeld table sends payload head (publishing.LoanReclaims place route pop) = Unit {0}
StoresHeld table sends payload head publishing.Lending = Unit {0}
StoresHeld table sends payload head (publishing.Writing slot word value) = (sends ≡ false) × (value ≡ get_or payload word 0)
    × HoldsPayload table slot word payload
StoresHeld table sends payload head (publishing.Written slot) = HoldsPayload table slot table.sizes.payload_words payload
StoresHeld table sends payload head (publishing.Heading slot word value) = (sends ≡ true) × (value ≡ get_or head word 0)
    × HoldsHead table slot word head
StoresHeld table sends payload head (publishing.Remembering slot) = HoldsAllHead table slot head
StoresHeld table sends payload head (publishing.SendReclaims slot place route pop) = HoldsAllHead table slot head
StoresHeld table sends payload head (publishing.Pushing slot place route push delivery) = HoldsAllHead table slot head
StoresHeld table sends payload head (publishing.Sent slot delivery) = HoldsAllHead table slot head
StoresHeld table sends payload head (publishing.Dropping slot) = Unit {0}

-- What each publisher's write or send has stored so far is in its slot.
abbrev pub StoresHold : World → Type 0
StoresHold m = (place : ℕ) (lane : PublisherLaneState) → slice_get m.publishers place ≡ Some lane
    → StoresHeld m.table lane.port.sends lane.port.payload lane.port.head lane.port.call

-- What each publisher's write or send has stored so far is in its slot, as long as at most 2^63 steps were made.
abbrev pub StoresFollow : World → Type 0
StoresFollow m = m.moments ≤ 2 ^ 63 → StoresHold m

-- As long as at most 2^63 steps were made: after a step that ends a write, its slot has the payload that the write was given; after a step
-- that ends a send, its slot has the header and user header that the send stored.
pub record StoresLeft (m n : World) : Type 0 where
  pub payload : m.moments ≤ 2 ^ 63 → (call : FinishedCall) (place loan : ℕ) (lane : PublisherLaneState)
      → n.finished ≡ m.finished ++ call ∷ [] → call.party ≡ Publisher place → slice_get m.publishers place ≡ Some lane
      → call.call ≡ name.Write loan → HoldsPayload m.table loan m.table.sizes.payload_words lane.port.payload
  pub head : m.moments ≤ 2 ^ 63 → (call : FinishedCall) (place loan : ℕ) (lane : PublisherLaneState)
      → n.finished ≡ m.finished ++ call ∷ [] → call.party ≡ Publisher place → slice_get m.publishers place ≡ Some lane
      → call.call ≡ name.Send loan → HoldsAllHead m.table loan lane.port.head
