-- A publisher that is closed takes with it the loans that it could still have made.
use Rattle.std.proofs.Common.{arith, ◌≡◌, ◌+◌, ℕ, true, Option, None, Some, refl}
use Rattle.iox_domain.proofs.AllowancesCalling.{loans_left_by_calls}
use Rattle.iox_delivery.specs.Domain.AtHomes.{LeavesDomain}
use Rattle.iox_delivery.specs.Domain.PortsPublishing.{LeavesAt}
use Rattle.iox_delivery.specs.Domain.Steps as steps
use Rattle.iox_delivery.specs.Domain.declared.ports.service_ports.ServicePorts.{ServicePorts}
use Rattle.iox_delivery.specs.DomainPorts.Publishers.{port_of}
use Rattle.iox_delivery.specs.DomainPorts.declared.publisher_port.PublisherPort.{PublisherPort}
use Rattle.iox_delivery.specs.declared.port_id.PortId.{PortId}
use Rattle.iox_hub_base.specs.AsHome.{hub_ports, with_hub_ports, without_hub_publisher}
use Rattle.iox_hub_base.specs.ServicesAsHome.{publisher_forgotten}
use Rattle.iox_hub_base.specs.declared.hub.Hub.{Hub}
use Rattle.iox_hub_commands.specs.Calls.{AtPortIf, PublisherGoes}
use Rattle.iox_hub_commands.specs.Grown.{AnySlots, AnyAction, AnyDecision}
use Rattle.iox_hub_commands.specs.PortRoom.{spare_at, spare_of, spare_under}
use Rattle.iox_hub_commands.specs.declared.numbered_hub.NumberedHub.{NumberedHub}
use Rattle.iox_hub_commands.proofs.LoanMeasure.{loan_measure}
use Rattle.iox_hub_commands.proofs.Measures.{Steps, Counts, counts_as, counts_on, put_counts, keep_counts}

freed_steps : {T U : Type 0} (number : ℕ) (found : Option (PublisherPort T U)) (ports after : ServicePorts T U)
    → port_of number ports.publishers ≡ found → LeavesAt number found ports true after
    → Steps loan_measure (spare_at found) 0 ports after
freed_steps number None ports after is leaves = absurd (cc leaves.0)
freed_steps number (Some port) ports after is leaves =
    let less = (loans_left_by_calls AnySlots AnyAction AnyDecision).leaves number port ports after is leaves in
    λ fine. (tt, omega (arith, less))

module _ {T U B D : Type 0} where
  freed_in : (port : PortId) (found : Option (ServicePorts T U)) (old new : Hub T U B D) → hub_ports port.domain old ≡ found
      → LeavesDomain (λ after. with_hub_ports port.domain after old) (without_hub_publisher port.domain port.number)
      (steps.PublisherLeaves port.number) found old true new → Counts loan_measure (spare_of port.number found) 0 old new
  freed_in port None old new are at = absurd (cc at.0)
  freed_in port (Some ports) old new are (after, does, is) =
      let mid = with_hub_ports port.domain after old in
      let spare = spare_of port.number (Some ports) in
      let last = without_hub_publisher port.domain port.number mid in
      rw is (counts_as loan_measure (spare + 0) 0 spare 0 old.services.domains last.services.domains (omega arith)
      (counts_on loan_measure spare 0 0 0 old.services.domains mid.services.domains last.services.domains
      (put_counts loan_measure spare 0 port.domain ports after old are
      (freed_steps port.number (port_of port.number ports.publishers) ports after refl does))
      (keep_counts loan_measure port.domain (publisher_forgotten port.number) (λ domain. refl) mid)))

  -- as many fewer may still be made
  pub publisher_frees : (port : Option PortId) (old new : NumberedHub T U B D)
      → AtPortIf (PublisherGoes hub_ports with_hub_ports without_hub_publisher) port old.hub true new.hub
      → Counts loan_measure (spare_under port old) 0 old.hub new.hub
  publisher_frees None old new at = absurd (cc at.0)
  publisher_frees (Some port) old new at = freed_in port (hub_ports port.domain old.hub) old.hub new.hub refl at
