use Rattle.iox_container.proofs.Contents.{AnswersContent-insertion}
use Rattle.iox_container.proofs.semantic_strings.semantic.Semantic.insert_bytes.Goals as goal

pub returns-in_err-insert_bytes-clause-answer : goal.returns-in_err-insert_bytes-clause-answer
returns-in_err-insert_bytes-clause-answer g c =
    let told = AnswersContent-insertion _ g.R.Rules.refuses_content g.R.Rules.refuses_characters _ c.args.idx c.args.bytes.now _
    c.from_residual.result
    c.in_err-insert_bytes.ensures.answer (rw (← c.self.view_is) at c.requires) c.from_residual.ensures.1 in
    rw (← c.self.view_is) told
