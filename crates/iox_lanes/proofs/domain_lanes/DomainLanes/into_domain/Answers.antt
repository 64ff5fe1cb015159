use Rattle.iox_lanes.proofs.JoinedLanes.{all_rest}
use Rattle.iox_lanes.proofs.domain_lanes.DomainLanes.into_domain.Goals as goal

pub returns-clause-left : goal.returns-clause-left
returns-clause-left g c = λ some few joined.
    c.returned.ensures.left (all_rest c.args.self.lanes.lanes (rw c.lanes.ensures at c.in_default.ensures.none.0) few) joined
