-- What holds in threads of a loan, and of a message that was read, until the next call on it.
use Rattle.std.specs.Prelude.{ℕ, ◌≡◌, ◌<◌, List, length, slice_index}
use mathlib.Core.Option.{some}
use lib.ListN.{get_elem?}
use Rattle.iox_lanes_base.specs.Subscribing.{word_at}
use Rattle.iox_lanes_base.specs.declared.calls.subscriber.SlotExtent.{SlotExtent}
use Rattle.iox_lanes_base.specs.declared.words.word.SharedWord.TheVariants.{Slot}
use Rattle.iox_lanes_threads_rule.specs.Lanes.{IsBacked, IsEarly, as_table}
use Rattle.iox_lanes_threads_rule.specs.Rule.{held, Fits}
use Rattle.iox_lanes_threads_rule.specs.Service.{Stores}
use Rattle.iox_lanes_threads_rule.specs.Slots.{IsSampleOf}
use Rattle.iox_lanes_threads_rule.specs.declared.view.Port.{Port}

-- No subscriber holds the slot: whatever the other ports do before the next access of this one, no port's view has the slot as a sample, as
-- long as no write position is 2^64 - 1.
abbrev pub IsHeldByNone : Port → ℕ → Type 0
IsHeldByNone p slot = (words : List ℕ) (ports : List Port) (at number : ℕ) (q : Port)
    → IsBacked p.service words ports → IsEarly (as_table p.service words)
    → get_elem? ports at ≡ some p → get_elem? ports number ≡ some q → IsSampleOf q.party slot → ⊥

-- The words that a port read are still those of the slot, and its publisher knows them: whatever the other ports do before the next access
-- of this one, as long as no write position is 2^64 - 1.
abbrev pub StandsInSlot : Port → SlotExtent → ℕ → List ℕ → Type 0
StandsInSlot q extent slot lent = (words : List ℕ) (ports : List Port) (at number : ℕ) (p : Port)
    → Fits q.service words ports → IsBacked q.service words ports → IsEarly (as_table q.service words)
    → get_elem? ports at ≡ some q → (k : ℕ) → k < length lent
    → (slice_index lent k ≡ held q.service words (Slot slot (word_at extent k)))
    × (get_elem? ports number ≡ some p → Stores q.service p.name (Slot slot (word_at extent k))
    → held q.service p.known (Slot slot (word_at extent k)) ≡ slice_index lent k)
