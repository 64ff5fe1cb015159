use Rattle.std.proofs.Common.{rules, arith, ◌≡◌, []}
use Rattle.iox_domain_ports.specs.DomainSlots.Uses.{connection_at}
use Rattle.iox_lanes_opening.proofs.Losing.{none_of_any, none_of_one_more}
use Rattle.iox_lanes_opening.proofs.leaving.clearing.is_none_borrowed.Goals as goal

pub loop-index-preserved : goal.loop-index-preserved
loop-index-preserved g c =
    let this : (connection_at c.loop-index.index c.args.sender.now.uses).borrowed ≡ [] = search rules in
    none_of_one_more c.args.sender.now.uses c.loop-index.index c.loop-index.invariant this

pub returns-clause-none : goal.returns-clause-none
returns-clause-none g c = none_of_any c.args.sender.now.uses c.indices-index-end.result c.indices-index-end.ensures.value
    (λ k below. c.loop-index.invariant k (omega (arith, below, c.loop-index-test.false)))
