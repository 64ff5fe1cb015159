use Rattle.std.proofs.Common.{◌∙◌}
use Rattle.std.proofs.lemmas.Bool.{both_ways}
use Rattle.std.proofs.lemmas.Bool.Decides.{Decides-eqb}
use Rattle.std.proofs.lemmas.Slice.Eq.{starts_is}
use Rattle.iox_container.proofs.string.string_trait.String.strip_prefix.Goals as goal

pub returns-then-not-starts_with-clause-other : goal.returns-then-not-starts_with-clause-other
returns-then-not-starts_with-clause-other g c = λ rest begins.
    both_ways c.starts_with.result c.if-not-starts_with.true
    ((starts_is Decides-eqb _ c.args.bytes.now c.starts_with.result c.starts_with.ensures.value).1 rest (c.as_bytes.ensures.value ∙ begins))

pub returns-clause-stripped : goal.returns-clause-stripped
returns-clause-stripped g c =
    rw (c.replace_range.ensures.replaced, ← c.as_bytes.ensures.value)
    ((starts_is Decides-eqb _ c.args.bytes.now c.starts_with.result c.starts_with.ensures.value).0 c.if-not-starts_with.false)
