use Rattle.std.proofs.Common.{rules, ℕ, ◌≡◌, ◌+◌, ◌*◌, [], ◌∷◌, ◌++◌}
use Rattle.iox_lanes_machine.specs.Made.{route_to}
use Rattle.iox_lanes_machine.proofs.StartParts.{listed_more}
use Rattle.iox_lanes_machine.proofs.made.sending_routes.Goals as goal

pub loop-subscriber-preserved : goal.loop-subscriber-preserved
loop-subscriber-preserved c =
    let grown : c.push_reserved.new.self.items ≡ c.loop-subscriber.list.items ++ c.route-route.result ∷ [] = search rules in
    listed_more (λ (subscriber : ℕ). route_to c.args.sizes.now (c.args.place * c.args.sizes.now.subscribers + subscriber))
    c.loop-subscriber.subscriber c.loop-subscriber.list.items c.push_reserved.new.self.items
    c.route-route.result c.loop-subscriber.invariant c.route-route.ensures grown
