use Rattle.std.proofs.Common.{arith, ◌<◌, length, get_or}
use Rattle.std.proofs.lemmas.List.{get_or_default}
use Rattle.iox_container.proofs.Listed.{none-found, found-first}
use Rattle.iox_container.proofs.owners.next_of.Goals as goal

pub returns-then-found-owner-clause-none : goal.returns-then-found-owner-clause-none
returns-then-found-owner-clause-none c =
    let more : c.search_near-at.result < length c.args.entries.now = omega (arith, c.search_near-at.ensures.within) in
    none-found c.args.entries.now c.args.owner c.args.from c.search_near-at.result c.requires c.search_near-at.ensures
    (get_or c.args.entries.now c.search_near-at.result (0, 0)) more
    (get_or_default c.args.entries.now c.search_near-at.result (get_or c.args.entries.now c.search_near-at.result (0, 0)) (0, 0) more)
    c.if-found-owner.true

pub returns-clause-some : goal.returns-clause-some
returns-clause-some c =
    let more : c.search_near-at.result < length c.args.entries.now = omega (arith, c.search_near-at.ensures.within) in
    found-first c.args.entries.now c.args.owner c.args.from c.search_near-at.result c.requires c.search_near-at.ensures
    (get_or c.args.entries.now c.search_near-at.result (0, 0)) more
    (get_or_default c.args.entries.now c.search_near-at.result (get_or c.args.entries.now c.search_near-at.result (0, 0)) (0, 0) more)
    c.if-found-owner.false
