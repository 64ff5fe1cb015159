use Rattle.std.proofs.Common.{rules, ℕ, ◌≡◌, ◌+◌, ◌*◌, [], ◌∷◌, ◌++◌}
use Rattle.iox_lanes_machine.specs.Made.{route_to}
use Rattle.iox_lanes_machine.proofs.StartParts.{listed_more}
use Rattle.iox_lanes_machine.proofs.made.receiving_routes.Goals as goal

pub loop-publisher-preserved : goal.loop-publisher-preserved
loop-publisher-preserved c =
    let grown : c.push_reserved.new.self.items ≡ c.loop-publisher.list.items ++ c.route-route.result ∷ [] = search rules in
    listed_more (λ (publisher : ℕ). route_to c.args.sizes.now (publisher * c.args.sizes.now.subscribers + c.args.place))
    c.loop-publisher.publisher c.loop-publisher.list.items c.push_reserved.new.self.items
    c.route-route.result c.loop-publisher.invariant c.route-route.ensures grown
