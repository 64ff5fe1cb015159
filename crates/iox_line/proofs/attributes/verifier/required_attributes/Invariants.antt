use Rattle.std.proofs.Common.{◌≡◌, ◌≤◌, length}
use Rattle.iox_describe_base.specs.Attributes.{Required}
use Rattle.iox_line.proofs.GatherLemmas.{Gathers}
use Rattle.iox_line.specs.AttributesReading.{requirements_of, requires_some}
use Rattle.iox_line.proofs.AttributeLemmas.{onto_required}
use Rattle.iox_line.proofs.attributes.verifier.required_attributes.Given as goal

abbrev pub invariant-loop-word : goal.invariant-loop-word
invariant-loop-word l = (done : Required) × (requirements_of l.fn.words ≡ onto_required done (requirements_of l.words))
    × (length done.pairs ≡ l.pairs) × (l.pairs ≤ 8)
    × (length done.keys ≡ l.keys) × (l.keys ≤ 8) × Gathers requires_some done l.lacking l.verifier

abbrev pub decreases-loop-word : goal.decreases-loop-word
decreases-loop-word l = length l.words
