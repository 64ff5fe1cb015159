use Rattle.std.proofs.Common.{arith, rules, ◌≡◌, ◌+◌, ◌<◌, ◌∙◌, ℕ, Err, nat_lt, get_or, ap, subst}
use Rattle.iox_container.specs.Unique.{is_held, answer_of}
use Rattle.iox_domain_slots.specs.contracts.slots.Slots.{the_view}
use Rattle.iox_domain_slots.proofs.Full.{all_held, all_used, with_size}
use Rattle.iox_domain_slots.proofs.Loaned.{isnt_lent}
use Rattle.iox_domain_slots.proofs.slots.Slots.loan.Goals as goal

pub push-requires-clause-free : goal.push-requires-clause-free
push-requires-clause-free c =
    let zero : get_or c.self.inside.references.items (c.self.inside.first + c.in-Ok.index) 0 ≡ 0
    = search (rules, arith, c.in-Ok.ensures.taken, c.settle.ensures, c.deref.ensures) in
    isnt_lent (c.self.inside.first + c.in-Ok.index) c.self.inside.loans.items
    (omega (arith, zero, c.self.invariant.3 (c.self.inside.first + c.in-Ok.index)))

pub returns-in_default : goal.returns-in_default
returns-in_default c = rw (← c.self.view_is) (
  (λ slot current. all_used c.self.inside.references.items c.self.inside.first c.self.inside.places.capacity
      (λ index. is_held index c.settle.new.places)
      (subst (λ items. (index : ℕ) → index < c.self.inside.places.capacity
      → is_held index c.settle.new.places ≡ nat_lt 0 (get_or items (c.self.inside.first + index) 0))
      c.deref.ensures.value c.settle.ensures.held)
      (λ index below. all_held c.settle.new.places.free c.settle.new.places.capacity c.in_default.field-0
      (subst (λ locked. Err c.in_default.field-0 ≡ answer_of locked c.settle.new.places.free) c.settle.ensures.unlocked
      c.in_default.ensures.answer)
      index (rw c.settle.ensures.capacity below))
      slot current.0 current.1),
  ap (λ places. with_size (the_view c.self.inside) places.capacity) c.in_default.ensures.err ∙ ap (with_size (the_view c.self.inside))
      c.settle.ensures.capacity,
)
