use Rattle.std.proofs.Common.{◌≡◌, [], ap, ◌∙◌}
use Rattle.std.specs.List.Sorted.{IsStrictlySortedBy}
use Rattle.iox_container.proofs.by_number.listed.ByNumber.lend.Goals as goal

pub invariant_of-self-2 : goal.invariant_of-self-2
unfolding IsStrictlySortedBy
invariant_of-self-2 g c =
    let none : c.replace.new.dest.items ≡ [] = ap (λ list. list.items) c.replace.ensures.after ∙ c.new.ensures.items in
    rw none (tt, c.replace-2.ensures.after)
