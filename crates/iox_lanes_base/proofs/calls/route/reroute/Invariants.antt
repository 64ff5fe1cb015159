use Rattle.std.proofs.Common.{◌≡◌, ◌++◌, map, take, drop}
use Rattle.iox_lanes_base.specs.Routes.{known_as}
use Rattle.iox_lanes_base.proofs.calls.route.reroute.Given as goal

abbrev pub invariant-loop-own : goal.invariant-loop-own
invariant-loop-own l = l.routes ≡ map (known_as l.fn.route) (take l.own-index l.fn.routes) ++ drop l.own-index l.fn.routes
