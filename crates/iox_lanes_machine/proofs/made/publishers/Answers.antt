use Rattle.std.proofs.Common.{rules, ◌≡◌, [], ◌∷◌, ◌++◌}
use Rattle.iox_lanes_machine.specs.Made.{publisher_at}
use Rattle.iox_lanes_machine.proofs.StartParts.{listed_more}
use Rattle.iox_lanes_machine.proofs.made.publishers.Goals as goal

pub loop-place-preserved : goal.loop-place-preserved
loop-place-preserved c =
    let grown : c.push_reserved.new.self.items ≡ c.loop-place.list.items ++ c.in_ok-lane.lane ∷ [] = search rules in
    listed_more (publisher_at c.args.sizes.now) c.loop-place.place c.loop-place.list.items c.push_reserved.new.self.items
    c.in_ok-lane.lane c.loop-place.invariant c.in_ok-lane.ensures grown
