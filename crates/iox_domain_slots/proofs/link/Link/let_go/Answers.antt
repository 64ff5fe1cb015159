use Rattle.std.proofs.Common.{arith, ◌≡◌, ◌++◌, ap, remove, true}
use Rattle.iox_container.specs.Unique.{is_among}
use Rattle.iox_domain_slots.specs.Counting.{Covers}
use Rattle.iox_domain_slots.specs.Loans.{place_in}
use Rattle.iox_domain_slots.proofs.Borrowing.{among_counted, taken_out}
use Rattle.iox_domain_slots.proofs.Linking.{covered_use, times_all}
use Rattle.iox_domain_slots.proofs.Moving.{let_go_moves}
use Rattle.iox_domain_slots.proofs.link.Link.let_go.Goals as goal

pub let_go-requires : goal.let_go-requires
let_go-requires c =
    let l = c.self.inside in
    let split : Covers c.args.slots.now (l.waiting.items ++ (l.borrowed.items ++ l.returned.items))
    = rw (← c.self.view_is) at c.requires.covered in
    let there : is_among c.args.slot l.borrowed.items ≡ true = rw (← c.self.view_is) at c.requires.there in
    record {
      used = covered_use c.args.slots.now (l.waiting.items ++ (l.borrowed.items ++ l.returned.items)) c.args.slot split
          (omega (
            arith,
            among_counted c.args.slot l.borrowed.items there,
            times_all c.args.slot l.waiting.items l.borrowed.items l.returned.items,
          ));
    }

pub returns-clause-moved : goal.returns-clause-moved
returns-clause-moved c =
    let l = c.self.inside in
    let split : Covers c.args.slots.now (l.waiting.items ++ (l.borrowed.items ++ l.returned.items))
    = rw (← c.self.view_is) at c.requires.covered in
    let there : is_among c.args.slot l.borrowed.items ≡ true = rw (← c.self.view_is) at c.requires.there in
    let items : c.remove.new.self.items ≡ remove l.borrowed.items (place_in c.args.slot l.borrowed.items)
    = ap (λ s. s.items) c.remove.ensures in
    rw (← c.self.view_is) (rw c.let_go.ensures (rw items (let_go_moves c.args.slots.now c.args.slot _ _
    (omega (
      arith,
      split c.args.slot,
      among_counted c.args.slot l.borrowed.items there,
      times_all c.args.slot l.waiting.items l.borrowed.items l.returned.items,
    ))
    (λ k. omega (
      arith,
      taken_out c.args.slot l.borrowed.items there k,
      times_all k l.waiting.items l.borrowed.items l.returned.items,
      times_all k l.waiting.items (remove l.borrowed.items (place_in c.args.slot l.borrowed.items)) l.returned.items,
    )))))
