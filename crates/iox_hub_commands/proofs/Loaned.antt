-- What is written into a numbered loan, or not.
use Rattle.std.proofs.Common.{◌≡◌, ◌∙◌, ℕ, Bool, true, false, Option, Some, ap, if◌then◌else◌, sym}
use Rattle.iox_delivery.specs.Domain.declared.domain_id.DomainId.{DomainId}
use Rattle.iox_delivery.specs.Domain.declared.ports.service_ports.ServicePorts.{ServicePorts}
use Rattle.iox_delivery.specs.Publishing.{changed_at}
use Rattle.iox_hub_commands.specs.Loans.{changed_under}
use Rattle.iox_hub_commands.specs.declared.ports.made.MadeLoan.{MadeLoan}

module _ {T U H : Type 0} (ports_of : DomainId → H → Option (ServicePorts T U)) (with_ports : DomainId → ServicePorts T U → H → H)
    (same_stays : (id : DomainId) (ports : ServicePorts T U) (home : H) → ports_of id home ≡ Some ports → with_ports id ports home ≡ home)
    (change : ℕ → ℕ → ServicePorts T U → ServicePorts T U) (made : MadeLoan) (home : H) (ports after : ServicePorts T U)
    (here : ports_of made.port.domain home ≡ Some ports) where
  -- ports that change only where something is done are put back so
  pub changed_if_done : (done : Bool) → after ≡ (if done then change made.port.number made.slot ports else ports)
      → with_ports made.port.domain after home ≡ (if done then changed_under ports_of with_ports change (Some made) home else home)
  changed_if_done true is =
      ap (λ one. with_ports made.port.domain one home) is
      ∙ sym (ap (λ found. changed_at (λ one. with_ports made.port.domain one home) (change made.port.number made.slot) found home) here)
  changed_if_done false is = ap (λ one. with_ports made.port.domain one home) is ∙ same_stays made.port.domain ports home here
