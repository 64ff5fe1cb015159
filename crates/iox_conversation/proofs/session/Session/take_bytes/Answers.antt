use Rattle.std.proofs.Common.{◌++◌, ◌∷◌, ◌∙◌, [], take, sym, ap, arith, append_assoc}
use Rattle.std.proofs.lemmas.List.{append-nil}
use Rattle.iox_conversation.proofs.Advancing.{Advances-append, Advances-heard, OnErr-holds}
use Rattle.iox_conversation.proofs.LineLemmas.{newline-at, broken-at, unbroken-before, unbroken-whole}
use Rattle.iox_conversation.proofs.session.Session.take_bytes.Goals as goal

pub end_line-requires-clause-unbroken : goal.end_line-requires-clause-unbroken
end_line-requires-clause-unbroken g c =
    let first = c.in-Some.ensures.0 in
    unbroken-before c.loop-end.rest.now c.in-Some.end (omega (arith, first.high)) (λ k less. first.before k (omega arith) less)

pub hear-requires : goal.hear-requires
hear-requires g c = unbroken-whole c.loop-end.rest.now c.in_default.ensures

pub loop-end-preserved : goal.loop-end-preserved
loop-end-preserved g c =
    let before = c.loop-end.invariant in
    let next = c.in_ok-end_line.ensures.answers in
    let line = take c.in-Some.end c.loop-end.rest.now ++ 10 ∷ [] in
    let first = c.in-Some.ensures.0 in (
      before.0 ++ line,
      before.1 ∙ (ap (λ l. before.0 ++ l) (newline-at c.loop-end.rest.now c.in-Some.end first.high c.in-Some.ensures.1) ∙ sym
          (append_assoc before.0 line _)),
      before.2 ++ next.0,
      next.1 ∙ (ap (λ items. items ++ next.0) before.3 ∙ append_assoc c.args.out.now.items before.2 next.0),
      Advances-append _ _ _ _ _ _ _ _ _ before.4 next.2,
      c.in_ok-end_line.ensures.whole,
    )

pub returns-clause-answers : goal.returns-clause-answers
returns-clause-answers g c =
    let before = c.loop-end.invariant in (
      before.2 ++ [],
      rw (append-nil before.2) before.3,
      rw before.1 (Advances-append _ _ _ _ _ _ _ _ _ before.4
          (Advances-heard _ _ _ _ c.loop-end.rest.now before.5 (unbroken-whole c.loop-end.rest.now c.in_default.ensures)
          c.hear.ensures.machine c.hear.ensures.line)),
    )

pub returns-in_err-end_line-clause-kept : goal.returns-in_err-end_line-clause-kept
returns-in_err-end_line-clause-kept g c =
    let before = c.loop-end.invariant in
    OnErr-holds c.from_residual.result (
      before.2,
      c.in_err-end_line.ensures.kept ∙ before.3,
      record {
        first = before.0;
        more = c.loop-end.rest.now;
        mid = c.loop-end.self;
        all = before.1;
        advances = before.4;
        whole = before.5;
        due = broken-at c.loop-end.rest.now c.in-Some.end c.in-Some.ensures.0.high c.in-Some.ensures.1;
      },
    )
