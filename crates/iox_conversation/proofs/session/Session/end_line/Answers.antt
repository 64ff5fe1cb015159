use Rattle.std.proofs.Common.{◌≡◌, ◌++◌, ◌∷◌, ◌∙◌, [], true, length, take, refl, ap, arith}
use Rattle.std.proofs.Math.Nat.{min_comm}
use Rattle.std.proofs.lemmas.Grind.{common_steps}
use Rattle.std.proofs.lemmas.List.{take_min}
use Rattle.iox_conversation.proofs.Advancing.{Advances-ended, Advances-put_together, length-zero}
use Rattle.iox_conversation.proofs.LineLemmas.{is_unbroken}
use Rattle.iox_conversation.proofs.session.Session.end_line.Goals as goal

pub returns-then-not-is_empty-clause-answers : goal.returns-then-not-is_empty-clause-answers
returns-then-not-is_empty-clause-answers g c =
    let answers = c.in_ok-answer.ensures.answers in
    let unbroken : is_unbroken c.args.self.now.line ≡ true = rw (← c.self.view_is) c.self.invariant.0 in
    rw c.clear.ensures.items (
      answers.0 ++ 10 ∷ [],
      answers.1,
      Advances-put_together _ _ _ (record
          { machine = c.self-then-not-is_empty.inside.machine; line = c.self-then-not-is_empty.inside.line.items }) c.hear.new.self
          c.args.part.now answers.0 _
          unbroken c.requires.unbroken c.self-then-not-is_empty.view_is c.hear.ensures.machine c.hear.ensures.line
          (rw c.deref.ensures.value at answers.2) c.in_ok-answer.ensures.counts,
    )

pub returns-clause-answers : goal.returns-clause-answers
returns-clause-answers g c =
    let answers = c.in_ok-answer-2.ensures.answers in
    let none : c.self.inside.line.items ≡ []
    = length-zero c.self.inside.line.items (grind (arith, common_steps, c.self.inside.line.ok.0)) in
    let heard : take c.min.result c.args.part.now ≡ take 1025 c.args.part.now
    = rw c.min.ensures (ap (λ n. take n c.args.part.now) (min_comm (length c.args.part.now) 1025) ∙ take_min 1025 c.args.part.now) in
    rw (← c.self.view_is, none) (
      answers.0 ++ 10 ∷ [],
      answers.1,
      Advances-ended _ _ _ c.args.part.now answers.0 _ refl c.requires.unbroken (rw heard at answers.2) c.in_ok-answer-2.ensures.counts,
    )
