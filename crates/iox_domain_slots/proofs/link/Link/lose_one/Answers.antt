use Rattle.std.proofs.Common.{arith, ◌≡◌, ◌+◌, ◌++◌, drop, ℕ}
use Rattle.iox_domain_slots.specs.Counting.{times, Covers}
use Rattle.iox_domain_slots.proofs.Linking.{times_all, covered_use, head_times, first_is, rest_is}
use Rattle.iox_domain_slots.proofs.Moving.{let_go_moves}
use Rattle.iox_domain_slots.proofs.Counts.{one, one_same}
use Rattle.iox_domain_slots.proofs.link.Link.lose_one.Goals as goal

pub let_go-requires : goal.let_go-requires
let_go-requires c =
    let split : Covers c.args.slots.now
    (c.self.inside.waiting.items ++ (c.self.inside.borrowed.items ++ c.self.inside.returned.items))
    = rw (← c.self.view_is) at c.requires.covered in
    let head : times c.in-Some.slot c.self.inside.waiting.items
    ≡ one c.in-Some.slot c.in-Some.slot + times c.in-Some.slot (drop 1 c.self.inside.waiting.items) =
    head_times _ _ (first_is c.in-Some.ensures.oldest) c.in-Some.slot in
    record {
      used = covered_use c.args.slots.now
          (c.self.inside.waiting.items ++ (c.self.inside.borrowed.items ++ c.self.inside.returned.items)) c.in-Some.slot split
          (omega (
            arith,
            head,
            one_same c.in-Some.slot,
            times_all c.in-Some.slot c.self.inside.waiting.items
                c.self.inside.borrowed.items c.self.inside.returned.items,
          ));
    }

pub returns-clause-moved : goal.returns-clause-moved
returns-clause-moved c =
    let split : Covers c.args.slots.now
    (c.self.inside.waiting.items ++ (c.self.inside.borrowed.items ++ c.self.inside.returned.items))
    = rw (← c.self.view_is) at c.requires.covered in
    let head : (k : ℕ) → times k c.self.inside.waiting.items
    ≡ one k c.in-Some.slot + times k (drop 1 c.self.inside.waiting.items) =
    head_times _ _ (first_is c.in-Some.ensures.oldest) in
    let after : c.pop.new.self.items ≡ drop 1 c.self.inside.waiting.items = rest_is c.in-Some.ensures.oldest in
    rw (← c.self.view_is) (rw c.let_go.ensures (rw after (let_go_moves c.args.slots.now c.in-Some.slot _ _
    (omega (
      arith,
      split c.in-Some.slot,
      head c.in-Some.slot,
      one_same c.in-Some.slot,
      times_all c.in-Some.slot
          c.self.inside.waiting.items c.self.inside.borrowed.items c.self.inside.returned.items,
    ))
    (λ k. omega (
      arith,
      head k,
      times_all k c.self.inside.waiting.items c.self.inside.borrowed.items c.self.inside.returned.items,
      times_all k (drop 1 c.self.inside.waiting.items) c.self.inside.borrowed.items c.self.inside.returned.items,
    )))))
