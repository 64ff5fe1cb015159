-- Each item is an attribute, and is defined, unless there was no memory.
use Rattle.std.proofs.Common.{◌≡◌, [], get_or, map, Result, Ok, Err, sym, ◌∙◌, subst, arith}
use Rattle.std.specs.Prelude.{IsErrAnd, MatchResult}
use Rattle.std.proofs.lemmas.List.{take_all}
use Rattle.serde_json.specs.View.{view}
use Rattle.iox_describe_verdict.specs.DescribeBase.Attributes.{attribute}
use Rattle.iox_describe.specs.Line.{attribute_tree}
use Rattle.iox_describe.proofs.Trees.{as_many, items_are, next}
use Rattle.iox_describe.proofs.reader.defined.Goals as goal

only_told : {T E : Type 0} {x e : E} (r : Result T E) (P : T → Type 0) → IsErrAnd r (λ y. y ≡ e) → e ≡ x → MatchResult r P (λ y. y ≡ x)
only_told (Ok v) P is e = absurd is
only_told (Err y) P is e = is ∙ e

pub returns-in_err-define-clause-read : goal.returns-in_err-define-clause-read
returns-in_err-define-clause-read c =
    λ pairs within is.
    let items = items_are c.in-Some.list.now.items pairs (view c.args.value.now) is c.in-Some.ensures in
    let all = subst (λ values. map view values ≡ map attribute_tree pairs) (sym c.deref-item-items.ensures.value) items in
    let n = next c.deref-item-items.result.now pairs c.loop-item.attributes c.loop-item.item-index c.item-item.result all within
    (c.loop-item.invariant pairs within is) c.loop-item-test.true c.item-item.is in
    let lacks = c.in_err-define.ensures.read (get_or pairs c.loop-item.item-index (attribute [] [])) n.good n.room n.is in
    only_told _ _ c.from_residual.ensures.1 lacks

pub loop-item-preserved : goal.loop-item-preserved
loop-item-preserved c =
    λ pairs within is.
    let items = items_are c.in-Some.list.now.items pairs (view c.args.value.now) is c.in-Some.ensures in
    let all = subst (λ values. map view values ≡ map attribute_tree pairs) (sym c.deref-item-items.ensures.value) items in
    let n = next c.deref-item-items.result.now pairs c.loop-item.attributes c.loop-item.item-index c.item-item.result all within
    (c.loop-item.invariant pairs within is) c.loop-item-test.true c.item-item.is in
    c.in_ok-define.ensures.read (get_or pairs c.loop-item.item-index (attribute [] [])) n.good n.room n.is ∙ n.grown

pub returns-clause-read : goal.returns-clause-read
returns-clause-read c =
    λ pairs within is.
    let items = items_are c.in-Some.list.now.items pairs (view c.args.value.now) is c.in-Some.ensures in
    let all = subst (λ values. map view values ≡ map attribute_tree pairs) (sym c.deref-item-items.ensures.value) items in
    let many = as_many c.deref-item-items.result.now pairs all in
    c.loop-item.invariant pairs within is ∙ take_all c.loop-item.item-index pairs (omega (arith, many, c.loop-item-test.false))
