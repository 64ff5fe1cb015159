-- The words of a slot lie within the table.
use Rattle.std.proofs.Common.{ℕ, ◌≡◌, ◌+◌, ◌<◌, ◌≤◌, arith}
use Rattle.std.proofs.lemmas.Nat.{row_fits}
use Rattle.iox_lanes_machine.specs.LanesBase.Numbers.{number_of, words_of, slot_words, IsSmall}
use Rattle.iox_lanes_machine.specs.QueuesSteps.Access.{successor}
use Rattle.iox_lanes_machine.specs.LanesBase.declared.words.sizes.TableSizes.{TableSizes}
use Rattle.iox_lanes_machine.specs.LanesBase.declared.words.word.SharedWord.TheVariants.{Slot}
use Rattle.iox_lanes_machine.specs.LanesBase.declared.words.word.SlotWord.TheVariants.{UserHeader}

pub slot_fits : (sizes : TableSizes) (slot : ℕ) → slot < sizes.slots
    → number_of sizes (Slot slot (UserHeader 0)) + sizes.user_header_words + sizes.payload_words ≤ words_of sizes
slot_fits sizes slot below = omega (arith, row_fits slot (slot_words sizes) sizes.slots (slot_words sizes) below (omega arith))

-- words between header and payload that are one more than those of a user header are no fewer
pub one_before : (sizes : TableSizes) (count : ℕ) → IsSmall sizes → sizes.user_header_words ≡ successor count
    → sizes.user_header_words ≡ count + 1
one_before sizes count small is = omega (arith, is, small.slot)
