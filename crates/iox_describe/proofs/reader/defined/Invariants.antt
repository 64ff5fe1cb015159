use Rattle.std.proofs.Common.{◌≡◌, List, take}
use Rattle.serde_json.specs.View.{view}
use Rattle.iox_describe_verdict.specs.DescribeBase.declared.attribute.Attribute.{Attribute}
use Rattle.iox_describe_verdict.specs.DescribeBase.Attributes.{AreAttributes}
use Rattle.iox_describe.specs.Line.{attributes_tree}
use Rattle.iox_describe.proofs.reader.defined.Given as goal

-- the attributes so far are defined
abbrev pub invariant-loop-item : goal.invariant-loop-item
invariant-loop-item l =
    (pairs : List Attribute) → AreAttributes pairs → view l.fn.value ≡ attributes_tree pairs → l.attributes ≡ take l.item-index pairs
