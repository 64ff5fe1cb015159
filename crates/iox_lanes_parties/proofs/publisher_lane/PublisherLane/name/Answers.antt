use Rattle.std.proofs.Common.{rules}
use Rattle.std.proofs.lemmas.List.Edits.{map_over_more}
use Rattle.iox_lanes_parties.specs.Parties.{with_origin}
use Rattle.iox_lanes_parties.proofs.publisher_lane.PublisherLane.name.Goals as goal

pub loop-head-preserved : goal.loop-head-preserved
loop-head-preserved c = search (rules, map_over_more (with_origin c.args.node_id c.args.publisher_id))
