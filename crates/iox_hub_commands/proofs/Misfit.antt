-- A fill that doesn't fit changes nothing.
use Rattle.std.proofs.Common.{◌≡◌, ◌∙◌, ℕ, false, List, length, Option, None, Some, refl, ap}
use Rattle.std.specs.BTreeMap.{is_at}
use Rattle.std.specs.Ordering.{nat_cmp}
use Rattle.std.proofs.lemmas.Map.Steps.{set_value_same}
use Rattle.iox_delivery.specs.DomainPorts.Messages.{write_all}
use Rattle.iox_delivery.specs.DomainPorts.MessagesSending.{has_length}
use Rattle.iox_delivery.specs.DomainPorts.Writing.{changed_if}
use Rattle.iox_delivery.specs.DomainPorts.declared.publisher_port.PublisherPort.{PublisherPort}
use Rattle.iox_delivery.specs.DomainPorts.Publishers.{port_of, changed_at_port}
use Rattle.iox_delivery.specs.Domain.Lending.{passes_port}
use Rattle.iox_delivery.specs.Domain.declared.ports.service_ports.ServicePorts.{ServicePorts}
use Rattle.iox_delivery.specs.Domain.declared.domain_id.DomainId.{DomainId}
use Rattle.iox_delivery.specs.Publishing.{changed_at}
use Rattle.iox_hub_commands.specs.Laws.{MisfitChangesNothing}
use Rattle.iox_hub_commands.specs.Loans.{fits_in, filled_in}

-- a publisher without a loan of that length stays
at_port : {T U : Type 0} (found : Option (PublisherPort T U)) (number slot : ℕ) (values : List T) (ports : ServicePorts T U)
    → port_of number ports.publishers ≡ found → passes_port (λ port. has_length slot (length values) port.sender.uses) found ≡ false
    → changed_at_port number (λ port. changed_if (has_length slot (length values) port.sender.uses) slot (write_all values) port) found
    ports.publishers ≡ ports.publishers
at_port None number slot values ports there misfit = refl
at_port (Some port) number slot values ports there misfit = rw misfit (set_value_same (is_at (nat_cmp number)) ports.publishers port there)

-- and so does a home
in_home : {T U H : Type 0} (found : Option (ServicePorts T U)) (of : H → Option (ServicePorts T U)) (put : ServicePorts T U → H → H)
    (same : (ports : ServicePorts T U) (home : H) → of home ≡ Some ports → put ports home ≡ home)
    (number slot : ℕ) (values : List T) (home : H) → of home ≡ found → fits_in values number slot found ≡ false
    → changed_at (λ after. put after home) (filled_in values number slot) found home ≡ home
in_home None of put same number slot values home there misfit = refl
in_home (Some ports) of put same number slot values home there misfit =
    ap (λ publishers. put (record ports { publishers = publishers }) home)
    (at_port (port_of number ports.publishers) number slot values ports refl misfit) ∙ same ports home there

-- a fill that doesn't fit changes nothing
pub misfit : {T U H : Type 0} (ports_of : DomainId → H → Option (ServicePorts T U)) (with_ports : DomainId → ServicePorts T U → H → H)
    (same : (id : DomainId) (ports : ServicePorts T U) (home : H) → ports_of id home ≡ Some ports → with_ports id ports home ≡ home)
    → MisfitChangesNothing ports_of with_ports
misfit ports_of with_ports same values None home misfits = refl
misfit ports_of with_ports same values (Some made) home misfits =
    in_home (ports_of made.port.domain home) (λ held. ports_of made.port.domain held)
    (λ ports held. with_ports made.port.domain ports held) (λ ports held. same made.port.domain ports held) made.port.number
    made.slot values home refl misfits
