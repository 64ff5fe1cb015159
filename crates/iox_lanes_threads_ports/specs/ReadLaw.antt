-- What a read returned of a sample that its subscriber still holds.
use Rattle.std.specs.Prelude.{ℕ, ◌≡◌, ◌+◌, ◌<◌, true, List, length, slice_get, slice_index, Some}
use mathlib.Core.Option.{some}
use lib.ListN.{get_elem?}
use Rattle.iox_lanes_machine.specs.LanesBase.Subscribing.{word_at}
use Rattle.iox_lanes_machine.specs.LanesBase.declared.calls.subscriber.SlotExtent.{SlotExtent}
use Rattle.iox_lanes_machine.specs.LanesBase.declared.words.access.SharedAccess.{SharedAccess}
use Rattle.iox_lanes_machine.specs.LanesBase.declared.words.word.SharedWord.{SharedWord}
use Rattle.iox_lanes_machine.specs.LanesBase.declared.words.word.SharedWord.TheVariants.{Slot}
use Rattle.iox_lanes_threads_rule.specs.Acts.{stepped}
use Rattle.iox_lanes_threads_rule.specs.Lanes.{IsEarly, IsBacked, as_table}
use Rattle.iox_lanes_threads_rule.specs.Rule.{held, Fits}
use Rattle.iox_lanes_threads_rule.specs.Service.{Stores}
use Rattle.iox_lanes_threads_rule.specs.Steps.{is_of_sample}
use Rattle.iox_lanes_threads_rule.specs.declared.service.Service.{Service}
use Rattle.iox_lanes_threads_rule.specs.declared.view.Port.{Port}
use Rattle.iox_lanes_threads_rule.specs.declared.view.PortParty.{PortParty}
use Rattle.iox_lanes_threads_ports.specs.Known.{KnowsRead, ListsRead}

-- If a port's view lists all words of a slot, with these values, then each value is the one that the slot's word has, and the one that the
-- port which stores this word knows, as long as no write position is 2^64 - 1.
abbrev pub ReadsStand : Type 0
ReadsStand = (s : Service) (words : List ℕ) (ports : List Port) (at number : ℕ) (q p : Port) (extent : SlotExtent) (slot : ℕ)
    (lent : List ℕ)
    → Fits s words ports → IsBacked s words ports → IsEarly (as_table s words) → get_elem? ports at ≡ some q
    → ListsRead q extent slot → KnowsRead q extent slot lent
    → length lent ≡ 3 + extent.user_header_words + extent.payload_words
    → (k : ℕ) → k < length lent
    → (slice_index lent k ≡ held s words (Slot slot (word_at extent k)))
    × (get_elem? ports number ≡ some p → Stores s p.name (Slot slot (word_at extent k))
    → held s p.known (Slot slot (word_at extent k)) ≡ slice_index lent k)

-- A word that a port's view lists as loaded is still listed after an access, if it is a word of a sample that the port holds then.
abbrev pub ListedWordsStay : Type 0
ListedWordsStay = (p : Port) (access : SharedAccess) (answer place : ℕ) (after : ℕ → PortParty) (w : SharedWord)
    → slice_get p.seen place ≡ Some w → is_of_sample (after answer) w ≡ true
    → (at : ℕ) × (slice_get (stepped p access answer after).seen at ≡ Some w)
