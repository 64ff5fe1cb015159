-- A read returns what its slot contained when its message was sent, whatever steps were made in between.
use Rattle.std.specs.Prelude.{ℕ, ◌≡◌, ◌+◌, ◌<◌, ◌≤◌, ◌^◌, ◌⊎◌, true, false, List, [], ◌∷◌, ◌++◌, length, get_or}
use Rattle.iox_lanes_machine.specs.QueuesSteps.declared.schedule.Stepped.{Stepped}
use Rattle.iox_lanes_machine.specs.LanesBase.Table.{held_by}
use Rattle.iox_lanes_machine.specs.LanesBase.declared.words.word.SharedWord.{SharedWord}
use Rattle.iox_lanes_machine.specs.LanesBase.declared.words.word.SharedWord.TheVariants.{Slot}
use Rattle.iox_lanes_machine.specs.LanesBase.Subscribing.{word_at}
use Rattle.iox_lanes_machine.specs.LanesParties.declared.call.CallName.TheVariants as name
use Rattle.iox_lanes_machine.specs.LanesParties.declared.call.Entry.{Entry}
use Rattle.iox_lanes_machine.specs.LanesParties.declared.call.FinishedCall.{FinishedCall}
use Rattle.iox_lanes_machine.specs.LanesParties.declared.call.Move.{Move}
use Rattle.iox_lanes_machine.specs.LanesParties.declared.call.Party.{Party}
use Rattle.iox_lanes_machine.specs.Alone.{IsRemembered, IsAtConnection}
use Rattle.iox_lanes_machine.specs.Apart.{MayChange, access_of}
use Rattle.iox_lanes_machine.specs.Findings.{AreFound}
use Rattle.iox_lanes_machine.specs.Held.{extent_of, slot_held}
use Rattle.iox_lanes_machine.specs.Made.{start}
use Rattle.iox_lanes_machine.specs.Reads.{width}
use Rattle.iox_lanes_machine.specs.World.{World, fits, happens, StepsTo, RunsTo}
use Rattle.iox_lanes_machine.specs.declared.found.Found.{Found}
use Rattle.iox_lanes_machine.specs.declared.sizes.LaneSizes.{LaneSizes}

-- Lanes that were made, may have found messages and words before their first step, and reached this state by steps.
pub record CameTo (m : World) : Type 0 where
  pub sizes : LaneSizes
  pub some : 0 < sizes.buffer
  pub ports : sizes.subscribers < 2 ^ 61
  pub small : sizes.buffer + sizes.most_borrowed + 1 < 2 ^ 62
  pub found : List Found
  pub begun : World
  pub finds : AreFound (start sizes) found begun
  pub schedule : List Entry
  pub made : ℕ
  pub runs : RunsTo begun schedule made m

-- If lanes were made and came somewhere by steps (`CameTo`), this still holds after another step, however the step is answered.
abbrev pub StepsComeOn : Type 0
StepsComeOn = (m : World) → CameTo m → (party : Party) (step : Move) (answer : Stepped) (n : World) → StepsTo m party step answer n
    → CameTo n

-- If lanes were made and came somewhere by steps (`CameTo`), this still holds after a list of entries, however many of them were made.
abbrev pub RunsComeOn : Type 0
RunsComeOn = (m : World) → CameTo m → (entries : List Entry) (made : ℕ) (n : World) → RunsTo m entries made n → CameTo n

-- The entries lead from one state to the other, and before each of them the slot is in a history or at a connection.
abbrev pub UsedThrough : ℕ → World → List Entry → World → Type 0
UsedThrough slot m [] n = n ≡ m
UsedThrough slot m (entry ∷ entries) n =
    (IsRemembered m slot ⊎ IsAtConnection m slot)
    × (((fits m entry.party entry.step ≡ false) × UsedThrough slot m entries n)
    ⊎ ((fits m entry.party entry.step ≡ true) × UsedThrough slot (happens m entry.party entry.step) entries n))

-- As long as at most 2^63 steps were made, for lanes that came somewhere by steps, and whatever steps follow: if the slot has a use before
-- each of these steps, a read of it that ends after them returns exactly the words that the slot had before them.
abbrev pub ReadsGiveWhatStood : Type 0
ReadsGiveWhatStood = (m : World) → CameTo m → (slot : ℕ) (entries : List Entry) (n : World) → UsedThrough slot m entries n
    → n.moments ≤ 2 ^ 63
    → (party : Party) (step : Move) (call : FinishedCall) → fits n party step ≡ true
    → (happens n party step).finished ≡ n.finished ++ call ∷ [] → call.call ≡ name.Read slot
    → (happens n party step).read ≡ n.read ++ slot_held m.table slot

-- The entries lead from one state to the other, and none of them that is made may change this word.
abbrev pub UntouchedThrough : SharedWord → World → List Entry → World → Type 0
UntouchedThrough word m [] n = n ≡ m
UntouchedThrough word m (entry ∷ entries) n =
    ((fits m entry.party entry.step ≡ false) × UntouchedThrough word m entries n)
    ⊎ ((fits m entry.party entry.step ≡ true) × (MayChange (access_of m entry.party entry.step) word → ⊥)
    × UntouchedThrough word (happens m entry.party entry.step) entries n)

-- As long as at most 2^63 steps were made, for lanes that came somewhere by steps, and whatever steps follow of which none may change one
-- word of a slot: a read of the slot that ends after them returns, at the place of this word, exactly the value that it had before them, be
-- it a word of the header, the user header or the payload.
abbrev pub ReadsGiveWhatWasStored : Type 0
ReadsGiveWhatWasStored = (m : World) → CameTo m → (slot place : ℕ) → place < width m.table.sizes
    → (entries : List Entry) (n : World) → UntouchedThrough (Slot slot (word_at (extent_of m.table.sizes) place)) m entries n
    → n.moments ≤ 2 ^ 63
    → (party : Party) (step : Move) (call : FinishedCall) → fits n party step ≡ true
    → (happens n party step).finished ≡ n.finished ++ call ∷ [] → call.call ≡ name.Read slot
    → get_or (happens n party step).read (length n.read + place) 0 ≡ held_by m.table (Slot slot (word_at (extent_of m.table.sizes) place))
