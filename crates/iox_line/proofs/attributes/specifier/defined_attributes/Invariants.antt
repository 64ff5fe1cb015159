use Rattle.std.proofs.Common.{◌≡◌, ◌≤◌, List, length}
use Rattle.iox_describe_base.specs.declared.attribute.Attribute.{Attribute}
use Rattle.iox_line.specs.Memory.{some}
use Rattle.iox_line.proofs.GatherLemmas.{Gathers, onto}
use Rattle.iox_line.specs.AttributesReading.{pairs_of}
use Rattle.iox_line.proofs.attributes.specifier.defined_attributes.Given as goal

abbrev pub invariant-loop-word : goal.invariant-loop-word
invariant-loop-word l = (done : List Attribute) × (pairs_of l.fn.words ≡ onto done (pairs_of l.words)) × (length done ≡ l.count)
    × (l.count ≤ 8)
    × Gathers some done l.lacking l.attributes

abbrev pub decreases-loop-word : goal.decreases-loop-word
decreases-loop-word l = length l.words
