use Rattle.std.proofs.Common.{rules}
use Rattle.iox_lanes_opening.proofs.leaving.restoring.take_payload.Goals as goal

pub returns-clause-taken : goal.returns-clause-taken
returns-clause-taken g c = search (rules, c.push_reserved.ensures.items, c.clear.ensures.items, c.payload.ensures)
