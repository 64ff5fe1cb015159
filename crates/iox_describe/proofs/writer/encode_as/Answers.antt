-- The tokens of the description are written as its line.
use Rattle.std.proofs.Common.{◌++◌, ap, ◌∙◌}
use Rattle.json.specs.Print.{print}
use Rattle.serde_json.proofs.Texts.{print-outline}
use Rattle.iox_describe.specs.Line.{line, tree}
use Rattle.iox_describe.specs.Writing.{value_tokens}
use Rattle.iox_describe.proofs.writer.encode_as.Goals as goal

pub returns : goal.returns
unfolding line
returns c =
    let d = tree c.args.version c.args.description.now in
    let written = c.in_ok-write_description.ensures in
    let before = written.0 ∙ c.new-out.ensures.before ∙ c.in_ok-with_capacity.ensures.items in
    let tokens = written.1 ∙ ap (λ ts. ts ++ value_tokens d) c.new-out.ensures.tokens in
    c.into_inner.ensures.items
    ∙ ap (λ bytes. bytes ++ print c.write_description.new.out.tokens) before
    ∙ ap print tokens
    ∙ print-outline d
