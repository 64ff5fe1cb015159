use Rattle.std.proofs.Common.{◌≡◌}
use Rattle.std.specs.List.{list_any}
use Rattle.iox_lanes_opening.specs.EachAsked.{applies}
use Rattle.iox_lanes_opening.proofs.refusals.each_asked.has_such.Given as goal

abbrev pub invariant-loop-number : goal.invariant-loop-number
invariant-loop-number g l = list_any (applies l.question l.ports) l.number-iterator
    ≡ list_any (applies l.question l.ports) l.ports.publishers
