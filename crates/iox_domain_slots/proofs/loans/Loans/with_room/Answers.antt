use Rattle.std.proofs.Common.{rules, arith, ◌≡◌, ◌∷◌, [], ap, length}
use Rattle.iox_domain_slots.proofs.Loaned.{none_yet}
use Rattle.iox_domain_slots.proofs.loans.Loans.with_room.Goals as goal

pub invariant_of-result : goal.invariant_of-result
invariant_of-result c =
    let older : c.in_ok-older.older.items ≡ [] = search (rules, c.in_ok-older.ensures) in
    let newer : c.push_reserved.new.self.items ≡ 0 ∷ [] = search (rules, c.push_reserved.ensures.items, c.in_ok-newer.ensures) in
    let lent : c.in_ok-lent.lent.items ≡ [] = search (rules, c.in_ok-lent.ensures) in
    let is = none_yet _ _ _ 0 (ap length older) (ap length newer) lent in (
      is.0,
      is.1,
      is.2,
      is.3,
      omega (arith, c.in_ok-older.ensures.capacity),
      omega (arith, c.in_ok-newer.ensures.capacity, c.push_reserved.ensures.capacity),
      omega (arith, c.in_ok-lent.ensures.capacity),
    )
