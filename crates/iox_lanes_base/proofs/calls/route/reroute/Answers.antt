use Rattle.std.proofs.Common.{rules}
use Rattle.std.proofs.lemmas.List.Edits.{map_over_more}
use Rattle.iox_lanes_base.specs.Routes.{known_as}
use Rattle.iox_lanes_base.proofs.calls.route.reroute.Goals as goal

pub loop-own-preserved : goal.loop-own-preserved
loop-own-preserved c = search (rules, map_over_more (known_as c.args.route))
