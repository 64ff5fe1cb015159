use Rattle.std.proofs.Common.{◌≡◌, ◌<◌, ◌≤◌, ◌++◌, ◌∷◌, [], length, sym, arith}
use Rattle.std.proofs.lemmas.Grind.{common_steps}
use Rattle.std.proofs.lemmas.List.{append-nil}
use Rattle.iox_conversation.proofs.Advancing.{Ends-empty, Ends-answered}
use Rattle.iox_conversation.proofs.session.Session.finish.Goals as goal

pub returns-then-is_empty-clause-answers : goal.returns-then-is_empty-clause-answers
returns-then-is_empty-clause-answers g c =
    let empty : length c.self.inside.line.items ≡ 0 = grind (arith, common_steps, c.self.inside.line.ok.0) in
    rw (← c.self.view_is) ([], sym (append-nil c.args.out.now.items), Ends-empty _ _ empty)

pub returns-clause-answers : goal.returns-clause-answers
returns-clause-answers g c =
    let answers = c.in_ok-answer.ensures.answers in
    let some : 0 < length c.self.inside.line.items = grind (arith, common_steps, c.self.inside.line.ok.0) in
    let short : length c.self.inside.line.items ≤ 1025 = omega (arith, c.self.inside.line.ok.0, c.self.invariant.1) in
    rw (← c.self.view_is) (
      answers.0 ++ 10 ∷ [],
      answers.1,
      Ends-answered _ _ answers.0 _ some c.self.invariant.0 short (rw c.deref.ensures.value at answers.2),
    )
