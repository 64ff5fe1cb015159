use Rattle.std.proofs.Common.{arith, ◌≡◌, length}
use Rattle.std.proofs.lemmas.List.{get_or_read}
use Rattle.iox_domain_slots.proofs.Borrowing.{found_some, walked_all, walked_on, walked_within}
use Rattle.iox_domain_slots.proofs.loans.Loans.oldest_of.Goals as goal

pub found_at-found-requires : goal.found_at-found-requires
found_at-found-requires c =
    let l = c.self.inside in
    let made : length l.older.items ≡ length c.args.numbers.now = rw (← c.self.view_is) at c.requires in
    let below = walked_within l.older.items l.newer.items l.newest _ l.len _ _ _ c.loop.slot c.loop.counter c.self.invariant.0
    c.loop.invariant c.loop-test.true in
    omega (arith, made, below)

pub index-slot-requires : goal.index-slot-requires
index-slot-requires c =
    let l = c.self.inside in
    let below = walked_within l.older.items l.newer.items l.newest _ l.len _ _ _ c.loop.slot c.loop.counter c.self.invariant.0
    c.loop.invariant c.loop-test.true in
    omega (arith, below, l.older.ok.0)

pub loop-preserved : goal.loop-preserved
loop-preserved c =
    let l = c.self.inside in
    let below = walked_within l.older.items l.newer.items l.newest _ l.len _ _ _ c.loop.slot c.loop.counter c.self.invariant.0
    c.loop.invariant c.loop-test.true in
    walked_on l.older.items l.len l.newest c.args.numbers.now c.args.number c.loop.found c.found_at-found.result c.loop.slot c.loop.counter
    c.index-slot.result.now c.loop.invariant c.loop-test.true (get_or_read l.older.items _ _ below c.index-slot.ensures 0)
    c.found_at-found.ensures.here c.found_at-found.ensures.elsewhere

pub returns-clause-some : goal.returns-clause-some
returns-clause-some c =
    let l = c.self.inside in
    rw (← c.self.view_is) (found_some _ _ _ c.loop.found
    (walked_all l.older.items l.len l.newest _ _ c.loop.found c.loop.slot c.loop.counter c.loop.invariant c.loop-test.false))
