use Rattle.std.proofs.Common.{arith, ap, ◌≡◌, ◌∙◌, ◌-◌, reverse, replicate, false}
use Rattle.std.specs.List.{range_with_len}
use Rattle.std.proofs.lemmas.List.{length-replicate}
use Rattle.iox_container.proofs.FreeLists.{AreFree-start}
use Rattle.iox_container.proofs.unique.UniqueIndexSet.new.Goals as goal

pub invariant_of-result : goal.invariant_of-result
invariant_of-result c =
    let all : c.loop-count.count ≡ c.args.capacity = omega (arith, c.loop-count-test.false, c.loop-count.auto.count-end) in
    let none : c.args.capacity - c.loop-count.count ≡ 0 = omega (arith, all) in
    let free : reverse c.loop-count.free.items ≡ range_with_len 0 c.args.capacity =
    c.loop-count.invariant.0 ∙ ap (λ from. range_with_len from c.loop-count.count) none ∙ ap (λ n. range_with_len 0 n) all in
    let held : c.in_ok-held.held.items ≡ replicate c.args.capacity false = c.in_ok-held.ensures.items_if_clones_equal (λ y h. h) in
    rw (held, free) (AreFree-start c.args.capacity, rw (length-replicate c.args.capacity false) c.loop-count.invariant.2, λ locked. cc)
