use Rattle.std.proofs.Common.{rules, arith, ◌≡◌, ◌+◌, ◌<◌, ◌^◌, ◌++◌, ◌∷◌, [], ◌∙◌, ap, true, length, reverse}
use Rattle.std.proofs.lemmas.List.{length_push, length-reverse, reverse-append}
use Rattle.iox_container.specs.Links.{walk}
use Rattle.iox_domain_slots.proofs.Loaned.{grown, IsList}
use Rattle.iox_domain_slots.proofs.loans.Loans.append.Goals as goal

few : (c : goal.After-self-1) → c.self.inside.len + 2 < 2 ^ 64
few c = omega (
  arith,
  c.self.invariant.0.counted,
  length-reverse (walk c.self.inside.older.items c.self.inside.len c.self.inside.newest),
  rw (← c.self.view_is) at c.requires,
)

slot_is : (c : goal.After-self-1) → c.len-slot.result ≡ length c.self.inside.older.items
slot_is c = search (rules, c.len-slot.ensures, c.in_ok-reserve.ensures.len, c.in_ok-reserve.ensures.items)

older_is : (c : goal.After-self-1) → c.push_reserved.new.self.items ≡ c.self.inside.older.items
    ++ (length c.self.inside.older.items + 1) ∷ []
older_is c =
    let items : c.push_reserved.new.self.items ≡ c.self.inside.older.items ++ (c.len-slot.result + 1) ∷ []
    = search (rules, c.push_reserved.ensures.items, c.in_ok-reserve.ensures.items) in
    rw (slot_is c) at items

newer_is : (c : goal.After-self-1) → c.push_reserved-2.new.self.items ≡ c.self.inside.newer.items ++ length c.self.inside.older.items ∷ []
newer_is c = search (rules, c.push_reserved-2.ensures.items, c.in_ok-reserve-2.ensures.items, slot_is c)

lent_is : (c : goal.After-self-1) → c.push_reserved-3.new.self.items ≡ c.self.inside.lent.items ++ true ∷ []
lent_is c = search (rules, c.push_reserved-3.ensures.items, c.in_ok-reserve-3.ensures.items)

pub invariant_of-self-2 : goal.invariant_of-self-2
invariant_of-self-2 c =
    let l = c.self.inside in
    let list : IsList l.older.items l.newer.items l.newest l.len l.lent.items
    = (c.self.invariant.0, c.self.invariant.1, c.self.invariant.2, c.self.invariant.3) in
    let is = (grown l.older.items l.newer.items l.newest l.len l.lent.items list (few c)).0 in
    rw (older_is c, newer_is c, lent_is c) (
      is.0,
      is.1,
      is.2,
      is.3,
      omega (arith, c.self.invariant.4, c.in_ok-reserve.ensures.capacity, c.push_reserved.ensures.capacity),
      omega (arith, c.self.invariant.5, c.in_ok-reserve-2.ensures.capacity, c.push_reserved-2.ensures.capacity),
      omega (arith, c.self.invariant.6, c.in_ok-reserve-3.ensures.capacity, c.push_reserved-3.ensures.capacity),
    )

pub returns-clause-after : goal.returns-clause-after
returns-clause-after c =
    let l = c.self.inside in
    let list : IsList l.older.items l.newer.items l.newest l.len l.lent.items
    = (c.self.invariant.0, c.self.invariant.1, c.self.invariant.2, c.self.invariant.3) in
    let is = (grown l.older.items l.newer.items l.newest l.len l.lent.items list (few c)).1 in
    let items = ap reverse is ∙ reverse-append (walk l.older.items l.len l.newest) (length l.older.items ∷ []) in
    let long = length_push l.older.items (length l.older.items + 1) in
    rw (← c.self.view_is, older_is c, slot_is c) (cc (items, long))
