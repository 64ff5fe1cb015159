use Rattle.std.specs.Prelude.{◌≡◌, ◌-◌, length}
use Rattle.iox_domain_ports.specs.Leaving.{parted_from, departed}
use Rattle.iox_domain_ports.proofs.Parting.{NoneFrom}
use Rattle.iox_domain_ports.proofs.publisher_port.PublisherPort.leave.Given as goal

abbrev pub invariant-loop-index : goal.invariant-loop-index
invariant-loop-index g l = record {
  parted : parted_from (length l.fn.self.sender.uses.connections - l.index) l.index l.self ≡ departed l.fn.self;
  none : NoneFrom l.end l.self;
}
