use Rattle.std.proofs.Common.{arith, refl, ◌∙◌, ap, ◌≡◌, ◌<◌, length}
use borrow.Author.Rules.{of_calls}
use Rattle.std.proofs.Math.ListN.{get_or}
use Rattle.std.proofs.lemmas.List.Elements.{All-get_or}
use Rattle.iox_container.specs.StringBytes.{IsStringByte}
use Rattle.iox_container.proofs.Retains.{RetainedSoFar-all, RetainedSoFar-asked, RetainedSoFar-drop, RetainedSoFar-keep, RetainedSoFar-none}
use Rattle.iox_container.proofs.string.string_trait.String.retain.Goals as goal
use Rattle.iox_container.proofs.string.string_trait.String.retain.Goals.{then-keeps, else-keeps}

pub loop-at-init : goal.loop-at-init
loop-at-init g c = (c.requires, refl, RetainedSoFar-none _ _ _)

pub bounds-as_bytes-at : goal.bounds-as_bytes-at
bounds-as_bytes-at g c =
    rw c.as_bytes.ensures.value (omega (arith, c.loop-at.invariant.2.long, c.loop-at-test.true, c.len-at-end.ensures.value))

pub set_byte-requires-clause-in_bounds : goal.set_byte-requires-clause-in_bounds
set_byte-requires-clause-in_bounds g c =
    omega (arith, c.loop-at.invariant.2.long, c.loop-at.invariant.2.behind, c.loop-at-test.true, c.len-at-end.ensures.value)

pub set_byte-requires-clause-valid : goal.set_byte-requires-clause-valid
set_byte-requires-clause-valid g c =
    rw c.as_bytes.ensures.value (All-get_or IsStringByte _ c.loop-at.at 0
    (omega (arith, c.loop-at.invariant.2.long, c.loop-at-test.true, c.len-at-end.ensures.value)) c.as_bytes.ensures.valid)

pub overflow_add-kept : goal.overflow_add-kept
overflow_add-kept g c = omega (arith, c.loop-at.invariant.2.behind, c.loop-at-test.true, c.len-at-end.type_inv)

pub loop-at-preserved : goal.loop-at-preserved
loop-at-preserved g c =
    let more : c.loop-at.at < length (g.Self.String.text c.args.self.now)
    = omega (arith, c.loop-at-test.true, c.len-at-end.ensures.value) in
    let read : get_or c.as_bytes.result.now c.loop-at.at 0 ≡ get_or (g.Self.String.text c.loop-at.self) c.loop-at.at 0 =
    ap (λ xs. get_or xs c.loop-at.at 0) c.as_bytes.ensures.value in
    elim c.if-keeps.branch [
      | then-keeps w ↦ (
        search of_calls,
        rw w.self-is (w.set_byte.ensures.capacity ∙ c.loop-at.invariant.1),
        rw (w.self-is, w.kept-is, w.set_byte.ensures.written)
            (RetainedSoFar-keep _ _ _ _ _ _ _ 0 _ _ c.loop-at.invariant.2 more read (rw w.if-keeps.true at c.keeps.ensures)),
      )
      | else-keeps w ↦ (
        search of_calls,
        rw w.self-is c.loop-at.invariant.1,
        rw (w.self-is, w.kept-is)
            (RetainedSoFar-drop _ _ _ _ _ _ _ 0 _ _ c.loop-at.invariant.2 more read (rw w.if-keeps.false at c.keeps.ensures)),
      )
    ]

pub returns-clause-filtered : goal.returns-clause-filtered
returns-clause-filtered g c =
    rw c.truncate.ensures.kept (RetainedSoFar-all _ _ _ _ _ _ _ c.loop-at.invariant.2
    (omega (arith, c.loop-at-test.false, c.len-at-end.ensures.value)))

pub returns-clause-asked : goal.returns-clause-asked
returns-clause-asked g c =
    rw c.truncate.ensures.kept (RetainedSoFar-asked _ _ _ _ _ _ _ c.loop-at.invariant.2
    (omega (arith, c.loop-at-test.false, c.len-at-end.ensures.value)))

pub returns-clause-capacity : goal.returns-clause-capacity
returns-clause-capacity g c = c.truncate.ensures.capacity ∙ c.loop-at.invariant.1
