use Rattle.std.proofs.Common.{arith, ◌≡◌, ◌≤◌, ◌++◌, ◌∷◌, [], ap, cond, length, length-append, remove, true, false, Bool}
use Rattle.std.proofs.lemmas.List.{length_push}
use Rattle.iox_container.specs.Unique.{is_among}
use Rattle.iox_domain_slots.specs.Counting.{times}
use Rattle.iox_domain_slots.specs.Loans.{place_in}
use Rattle.iox_domain_slots.proofs.Borrowing.{one_fewer, taken_out}
use Rattle.iox_domain_slots.proofs.Counts.{times_end}
use Rattle.iox_domain_slots.proofs.Linking.{times_all}
use Rattle.iox_domain_slots.proofs.Moving.{pushed}
use Rattle.iox_domain_slots.proofs.link.Link.give_back.Goals as goal

at_most_one : (b : Bool) → cond b 1 0 ≤ 1
at_most_one true = omega arith
at_most_one false = omega arith

pub invariant_of-self : goal.invariant_of-self
invariant_of-self c =
    let l = c.self.inside in
    let there : is_among c.args.slot l.borrowed.items ≡ true = rw (← c.self.view_is) at c.requires in
    let items : c.remove.new.self.items ≡ remove l.borrowed.items (place_in c.args.slot l.borrowed.items)
    = ap (λ s. s.items) c.remove.ensures in
    let short = one_fewer c.args.slot l.borrowed.items there in
    let back : c.push-has_room.new.self.items ≡ l.returned.items ++ c.args.slot ∷ []
    = pushed l.returned.items _ c.args.slot l.returned.capacity c.push-has_room.result c.push-has_room.ensures.answer
    (omega (arith, short, at_most_one l.delivered, c.self.invariant.3, c.self.invariant.4)) c.push-has_room.ensures.items in (
      c.self.invariant.0,
      omega (arith, ap length items, short, c.self.invariant.1),
      omega (arith, ap (λ s. s.cells) c.remove.ensures, c.self.invariant.2),
      omega (arith, c.push-has_room.ensures.capacity, c.self.invariant.3),
      omega (
        arith,
        ap length items,
        short,
        ap length back,
        length_push l.returned.items c.args.slot,
        c.self.invariant.4,
      ),
    )

pub returns-clause-fits : goal.returns-clause-fits
returns-clause-fits c =
    let l = c.self.inside in
    let there : is_among c.args.slot l.borrowed.items ≡ true = rw (← c.self.view_is) at c.requires in
    let items : c.remove.new.self.items ≡ remove l.borrowed.items (place_in c.args.slot l.borrowed.items)
    = ap (λ s. s.items) c.remove.ensures in
    let short = one_fewer c.args.slot l.borrowed.items there in
    let back : c.push-has_room.new.self.items ≡ l.returned.items ++ c.args.slot ∷ []
    = pushed l.returned.items _ c.args.slot l.returned.capacity c.push-has_room.result c.push-has_room.ensures.answer
    (omega (arith, short, at_most_one l.delivered, c.self.invariant.3, c.self.invariant.4)) c.push-has_room.ensures.items in (
      c.self.invariant.0,
      omega (arith, ap length items, short, c.self.invariant.1),
      omega (
        arith,
        ap length items,
        short,
        ap length back,
        length_push l.returned.items c.args.slot,
        c.self.invariant.4,
        at_most_one l.delivered,
        length-append l.waiting.items (c.remove.new.self.items ++ c.push-has_room.new.self.items),
        length-append c.remove.new.self.items c.push-has_room.new.self.items,
      ),
    )

pub returns-clause-uses : goal.returns-clause-uses
returns-clause-uses c = rw (← c.self.view_is) (λ k.
    let l = c.self.inside in
    let there : is_among c.args.slot l.borrowed.items ≡ true = rw (← c.self.view_is) at c.requires in
    let items : c.remove.new.self.items ≡ remove l.borrowed.items (place_in c.args.slot l.borrowed.items)
    = ap (λ s. s.items) c.remove.ensures in
    let short = one_fewer c.args.slot l.borrowed.items there in
    let back : c.push-has_room.new.self.items ≡ l.returned.items ++ c.args.slot ∷ []
    = pushed l.returned.items _ c.args.slot l.returned.capacity c.push-has_room.result c.push-has_room.ensures.answer
    (omega (arith, short, at_most_one l.delivered, c.self.invariant.3, c.self.invariant.4)) c.push-has_room.ensures.items in
    omega (
      arith,
      times_all k l.waiting.items c.remove.new.self.items c.push-has_room.new.self.items,
      times_all k l.waiting.items l.borrowed.items l.returned.items,
      ap (times k) items,
      ap (times k) back,
      taken_out c.args.slot l.borrowed.items there k,
      times_end k l.returned.items c.args.slot,
    ))
