use Rattle.std.proofs.Common.{rules, ◌≡◌, false}
use Rattle.iox_lanes.proofs.Behind.{found_behind}
use Rattle.iox_lanes.proofs.Failing.{fails_by}
use Rattle.iox_lanes.proofs.Found.{found_on}
use Rattle.iox_lanes.specs.Finding.{is_given_back}
use Rattle.iox_lanes.proofs.finding.NewLanes.find.Goals as goal

pub returns-clause-fails : goal.returns-clause-fails
returns-clause-fails c = rw (← c.self.view_is) (fails_by c.self.inside.sizes c.self.inside.lanes c.args.found c.find.result c.find.new.self
    c.find.ensures.finds c.find.ensures.memory c.find.ensures.same c.self.invariant.was)

pub returns-clause-behind : goal.returns-clause-behind
returns-clause-behind c = rw (← c.self.view_is) (found_behind c.self.inside.lanes c.args.found _ c.find.new.self c.in_ok-find.ensures.finds)

pub invariant_of-self-2 : goal.invariant_of-self-2
invariant_of-self-2 c =
    let other : is_given_back c.args.found ≡ false = search rules in
    found_on c.self.inside.sizes c.self.inside.lanes c.args.found _ c.find.new.self other c.in_ok-find.ensures.finds c.self.invariant
