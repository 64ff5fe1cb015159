use Rattle.std.specs.Prelude.{◌-◌, length}
use Rattle.iox_domain_ports.specs.PublisherUpdating.{untied_from}
use Rattle.iox_domain_ports.proofs.Followings.{Untying}
use Rattle.iox_domain_ports.proofs.publisher_port.PublisherPort.untie_from.Given as goal

abbrev pub invariant-loop-place : goal.invariant-loop-place
invariant-loop-place g l = Untying (untied_from (length l.fn.self.ties.items - l.fn.first) l.fn.first l.fn.self) l.fn.self l.self
    (length l.fn.self.ties.items) l.place
