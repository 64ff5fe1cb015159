use Rattle.std.proofs.Common.{ℕ, ◌≡◌, ◌<◌, []}
use Rattle.iox_domain_ports.specs.DomainSlots.Uses.{connection_at}
use Rattle.iox_lanes_opening.proofs.leaving.clearing.is_none_borrowed.Given as goal

abbrev pub invariant-loop-index : goal.invariant-loop-index
invariant-loop-index g l = (k : ℕ) → k < l.index → (connection_at k l.sender.uses).borrowed ≡ []
