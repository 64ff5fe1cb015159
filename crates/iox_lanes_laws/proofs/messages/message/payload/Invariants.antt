use Rattle.std.proofs.Common.{◌≡◌}
use Rattle.iox_lanes_machine.specs.LanesBase.Table.{held_by}
use Rattle.iox_lanes_machine.specs.LanesBase.declared.words.word.SharedWord.TheVariants.{Slot}
use Rattle.iox_lanes_machine.specs.LanesBase.declared.words.word.SlotWord.TheVariants.{Payload}
use Rattle.iox_lanes_machine.specs.Made.{listed}
use Rattle.iox_lanes_laws.proofs.messages.message.payload.Given as goal

abbrev pub invariant-loop-word : goal.invariant-loop-word
invariant-loop-word l =
    (l.words.items ≡ listed (λ word. held_by l.table (Slot l.slot (Payload word))) l.word)
    × (l.word-end ≡ l.table.sizes.payload_words)
