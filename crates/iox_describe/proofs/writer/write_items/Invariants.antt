use Rattle.std.proofs.Common.{◌≡◌, ◌++◌, drop}
use Rattle.iox_describe.specs.Writing.{rest_of_array}
use Rattle.iox_describe.proofs.writer.write_items.Given as goal

-- the tokens so far, and those of the attributes that are left, are those before and those of all attributes
abbrev pub invariant-loop-attribute : goal.invariant-loop-attribute
invariant-loop-attribute l = (l.out.before ≡ l.fn.out.before)
    × (l.out.tokens ++ rest_of_array (drop l.attribute-index l.attributes) ≡ l.fn.out.tokens ++ rest_of_array l.attributes)
