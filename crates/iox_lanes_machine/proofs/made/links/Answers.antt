use Rattle.std.proofs.Common.{rules, ◌≡◌, [], ◌∷◌, ◌++◌}
use Rattle.iox_lanes_machine.specs.Made.{link_at}
use Rattle.iox_lanes_machine.proofs.Counted.{some_subscriber}
use Rattle.iox_lanes_machine.proofs.StartParts.{listed_more}
use Rattle.iox_lanes_machine.proofs.made.links.Goals as goal

pub link-link-requires : goal.link-link-requires
link-link-requires c =
    some_subscriber c.args.sizes.now.publishers c.args.sizes.now.subscribers c.args.count c.loop-connection.connection c.requires
    (search rules)

pub loop-connection-preserved : goal.loop-connection-preserved
loop-connection-preserved c =
    let grown : c.push_reserved.new.self.items ≡ c.loop-connection.list.items ++ c.link-link.result ∷ [] = search rules in
    listed_more (link_at c.args.sizes.now) c.loop-connection.connection c.loop-connection.list.items c.push_reserved.new.self.items
    c.link-link.result c.loop-connection.invariant c.link-link.ensures grown
