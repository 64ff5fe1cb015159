use Rattle.std.proofs.Common.{ap, sym, subst, ◌∙◌, arith, rules, ◌≡◌, ◌<◌, length, replicate}
use Rattle.iox_container.specs.Unique.{new_unique_set}
use Rattle.std.proofs.lemmas.List.{length-replicate}
use Rattle.iox_domain_slots.proofs.Full.{none_held, none_used}
use Rattle.iox_domain_slots.proofs.slots.Slots.new.Goals as goal

pub invariant_of-result : goal.invariant_of-result
invariant_of-result c =
    let same : c.in_ok-new.field-0 ≡ new_unique_set c.args.size = c.in_ok-new.ensures in
    let items : c.in_ok-vec.field-0.items ≡ replicate c.args.size 0 = search (rules, c.in_ok-vec.ensures) in
    let size : length c.in_ok-vec.field-0.items ≡ c.args.size = ap length items ∙ length-replicate c.args.size 0 in (
      omega (arith, size, ap (λ s. s.capacity) same),
      ap (λ s. s.locked) same,
      (λ index below. rw same (rw items (none_held c.args.size index (subst (λ s. index < s.capacity) same below) ∙ sym
          (none_used c.args.size index)))),
      (λ slot. rw c.in_ok-new-2.ensures.loans (rw c.in_ok-new-3.ensures.empty (omega arith))),
      rw c.in_ok-new-2.ensures.loans (omega arith),
      c.requires.loans,
      rw c.in_ok-new-3.ensures.empty (omega arith),
      omega (arith, size, c.in_ok-new-2.ensures.made),
    )
