use Rattle.std.proofs.Common.{◌≡◌, ◌++◌, true, rules, sym, ◌∙◌}
use Rattle.std.proofs.lemmas.List.{append_cancel_left}
use Rattle.iox_container.proofs.Contents.{AnswersContent-err, AnswersContent-ok}
use Rattle.iox_container.proofs.semantic_strings.semantic.Semantic.strip_prefix.Goals as goal

pub returns-in_err-adopt-clause-stripped : goal.returns-in_err-adopt-clause-stripped
returns-in_err-adopt-clause-stripped g c rest e =
    let kept : c.args.self.now ≡ c.args.bytes.now ++ c.strip_prefix.new.self = search rules in
    let same = append_cancel_left c.args.bytes.now c.strip_prefix.new.self rest (sym kept ∙ e) in
    AnswersContent-err _ g.R.Rules.refuses_content g.R.Rules.refuses_characters _ rest _ c.from_residual.result same
    c.in_err-adopt.ensures.answer c.from_residual.ensures.1

pub returns-clause-stripped : goal.returns-clause-stripped
returns-clause-stripped g c rest e =
    let kept : c.args.self.now ≡ c.args.bytes.now ++ c.strip_prefix.new.self = search rules in
    let same = append_cancel_left c.args.bytes.now c.strip_prefix.new.self rest (sym kept ∙ e) in
    AnswersContent-ok _ g.R.Rules.refuses_content g.R.Rules.refuses_characters _ rest _ true same c.in_ok-adopt.ensures.answer
