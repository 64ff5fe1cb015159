use Rattle.std.proofs.Common.{◌∙◌}
use Rattle.std.proofs.lemmas.Bool.{both_ways}
use Rattle.std.proofs.lemmas.Bool.Decides.{Decides-eqb}
use Rattle.std.proofs.lemmas.Slice.Eq.{ends_is}
use Rattle.iox_container.proofs.Texts.{without_end}
use Rattle.iox_container.proofs.string.string_trait.String.strip_suffix.Goals as goal

pub returns-then-not-ends_with-clause-other : goal.returns-then-not-ends_with-clause-other
returns-then-not-ends_with-clause-other g c = λ rest ends.
    both_ways c.ends_with.result c.if-not-ends_with.true
    ((ends_is Decides-eqb _ c.args.bytes.now c.ends_with.result c.ends_with.ensures.value).1 rest (c.as_bytes.ensures.value ∙ ends))

pub returns-clause-stripped : goal.returns-clause-stripped
returns-clause-stripped g c =
    rw (c.replace_range.ensures.replaced, c.len-len.ensures.value, without_end, ← c.as_bytes.ensures.value)
    ((ends_is Decides-eqb _ c.args.bytes.now c.ends_with.result c.ends_with.ensures.value).0 c.if-not-ends_with.false)
