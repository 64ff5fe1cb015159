use Rattle.std.proofs.Common.{arith, sym}
use Rattle.iox_domain.specs.DomainPorts.Ports.{connection_of}
use Rattle.iox_lanes_opening.specs.Slices.{is_slice}
use Rattle.iox_lanes_opening.proofs.Going.{none_got}
use Rattle.iox_lanes_opening.proofs.Slicing.{some_slice, slice_more}
use Rattle.iox_lanes_opening.proofs.refusals.slices.slice_waits.Goals as goal

pub returns-then-is_slice_waiting : goal.returns-then-is_slice_waiting
returns-then-is_slice_waiting g c = sym
    (some_slice (connection_of c.args.index c.args.port.now).waiting c.loop-at.at c.is_slice_waiting.result c.is_slice_waiting.ensures
    c.if-is_slice_waiting.true)

pub loop-at-preserved : goal.loop-at-preserved
loop-at-preserved g c = slice_more (connection_of c.args.index c.args.port.now).waiting c.loop-at.at c.is_slice_waiting.result
    c.loop-at.invariant c.is_slice_waiting.ensures c.if-is_slice_waiting.false

pub returns : goal.returns
returns g c = sym (none_got is_slice (connection_of c.args.index c.args.port.now).waiting c.loop-at.at
    (omega (arith, c.loop-at-test.false, c.waiting_at-at-end.ensures)) c.loop-at.invariant)
