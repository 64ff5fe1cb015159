use Rattle.std.proofs.Common.{◌≡◌}
use Rattle.iox_lanes_machine.specs.LanesBase.Subscribing.{word_at}
use Rattle.iox_lanes_machine.specs.LanesBase.Table.{held_by}
use Rattle.iox_lanes_machine.specs.LanesBase.declared.words.word.SharedWord.TheVariants.{Slot}
use Rattle.iox_lanes_machine.specs.Held.{extent_of}
use Rattle.iox_lanes_machine.specs.Made.{listed}
use Rattle.iox_lanes_machine.specs.Reads.{width}
use Rattle.iox_lanes_laws.proofs.messages.message.held.Given as goal

abbrev pub invariant-loop-word : goal.invariant-loop-word
invariant-loop-word l =
    (l.words.items ≡ listed (λ word. held_by l.table (Slot l.slot (word_at (extent_of l.table.sizes) word))) l.word)
    × (l.word-end ≡ width l.table.sizes)
