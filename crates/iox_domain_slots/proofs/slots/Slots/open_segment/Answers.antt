use Rattle.std.proofs.Common.{ap, sym, subst, ◌∙◌, arith, rules, ◌≡◌, ◌+◌, ◌<◌, ◌++◌, ℕ, length, length-append, replicate, take, ◌-◌}
use Rattle.iox_container.specs.Unique.{new_unique_set}
use Rattle.std.proofs.lemmas.List.{length-replicate}
use Rattle.iox_domain_slots.proofs.Full.{none_held, count_stays, segment_unused, filled_up}
use Rattle.iox_domain_slots.proofs.slots.Slots.open_segment.Goals as goal

pub invariant_of-self-2 : goal.invariant_of-self-2
invariant_of-self-2 c =
    let size = c.capacity-size.result in
    let before = c.self.inside.references.items in
    let same : c.in_ok-places.places ≡ new_unique_set size = c.in_ok-places.ensures in
    let length_is : c.len-before.result ≡ length before = search (rules, c.len-before.ensures) in
    let resized : c.resize.new.self.items ≡ take (length before + size) before ++ replicate (length before + size - length before) 0 =
    search (rules, c.in_ok-resize.ensures.items, c.in_ok-reserve.ensures.items, c.in_ok-reserve.ensures.len, length_is) in
    let items : c.resize.new.self.items ≡ before ++ replicate size 0 = resized ∙ filled_up before size in (
      omega (
        arith,
        length_is,
        ap length items,
        length-append before (replicate {A = ℕ} size 0),
        length-replicate {A = ℕ} size 0,
        ap
            (λ s. s.capacity) same,
      ),
      ap (λ s. s.locked) same,
      (λ index below. rw same (rw items (rw length_is
          (none_held size index (subst (λ s. index < s.capacity) same below) ∙ sym (segment_unused before size index))))),
      (λ slot. rw items (rw (count_stays before size slot) (rw c.in_ok-grow.ensures.loans (c.self.invariant.3 slot)))),
      rw c.in_ok-grow.ensures.loans c.self.invariant.4,
      c.self.invariant.5,
      c.self.invariant.6,
      omega (
        arith,
        ap length items,
        length-append before (replicate {A = ℕ} size 0),
        length-replicate {A = ℕ} size 0,
        c.self.invariant.7,
        c.in_ok-grow.ensures.made,
      ),
    )
