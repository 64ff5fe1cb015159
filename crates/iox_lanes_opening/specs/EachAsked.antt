-- A question asked of each publisher.
use Rattle.std.specs.Prelude.{ℕ, Bool}
use Rattle.iox_domain.specs.DomainPorts.declared.publisher_port.PublisherPort.{PublisherPort}
use Rattle.iox_domain.specs.PortsPublishing as publishing
use Rattle.iox_domain.specs.declared.ports.service_ports.ServicePorts.{ServicePorts}
use Rattle.iox_lanes_opening.specs.Refusals.{may_grow}
use Rattle.iox_lanes_opening.specs.Lingering.{publisher_lingers}
use Rattle.iox_lanes_opening.specs.Sequences.{is_too_large}
use Rattle.iox_lanes_opening.specs.Slices.{deals_in_slices}
use Rattle.iox_lanes_opening.specs.Soundness.{is_misfit}
use Rattle.iox_lanes_opening.specs.declared.refusals.each_asked.Question.{Question}
use Rattle.iox_lanes_opening.specs.declared.refusals.each_asked.Question.TheVariants as asked

-- Whether the answer to the question is yes for a publisher of these ports.
abbrev pub applies : {T U : Type 0} → Question → ServicePorts T U → ℕ × PublisherPort T U → Bool
applies asked.Blocked ports = λ entry. publishing.is_blocked entry.1
applies asked.Growing ports = λ entry. may_grow entry.1.allocation
applies asked.Lingering ports = publisher_lingers ports.publisher_list
applies asked.Slices ports = λ entry. deals_in_slices entry.1
applies asked.Misfit ports = λ entry. is_misfit ports.sizes entry.1
applies asked.TooLarge ports = λ entry. is_too_large entry.1.last_sequence
