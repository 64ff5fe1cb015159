use Rattle.std.proofs.Common.{◌≡◌, true, length}
use Rattle.iox_lanes_machine.specs.LanesParties.declared.call.Move.TheVariants.{GoOn}
use Rattle.iox_lanes_machine.specs.World.{fits}
use Rattle.iox_lanes_service.specs.Turning.{GoesThrough}
use Rattle.iox_lanes_service.proofs.turn.goes_to_end.Given as goal

abbrev pub invariant-loop-made : goal.invariant-loop-made
invariant-loop-made l = record {
  goes : GoesThrough l.party l._made l.fn.lanes l.lanes;
  inside : fits l.lanes l.party GoOn ≡ true;
  ended : length l.lanes.finished ≡ length l.fn.lanes.finished;
}
