-- How many more loans the publishers of a service may make, and how each call of a port changes that.
use Rattle.std.specs.Prelude.{ℕ, ◌+◌, ◌-◌, ◌≤◌, ◌≡◌, length, sum_by, true, Some, Ok, if◌then◌else◌}
use Rattle.std.specs.Map.{values_of}
use Rattle.iox_domain.specs.DomainValues.declared.backpressure.BackpressureDecision.{BackpressureDecision}
use Rattle.iox_domain.specs.DomainValues.declared.backpressure.BackpressureInfo.{BackpressureInfo}
use Rattle.iox_domain.specs.DomainValues.declared.degradation.DegradationAction.{DegradationAction}
use Rattle.iox_domain.specs.DomainValues.declared.degradation.DegradationInfo.{DegradationInfo}
use Rattle.iox_domain.specs.DomainValues.declared.service_sizes.ServiceSizes.{ServiceSizes}
use Rattle.iox_domain.specs.DomainPorts.declared.publisher_port.PublisherPort.{PublisherPort}
use Rattle.iox_domain.specs.DomainPorts.Publishers.{port_of}
use Rattle.iox_domain.specs.Ports.{no_ports}
use Rattle.iox_domain.specs.PortsPublishing.{LeavesAt}
use Rattle.iox_domain.specs.declared.ports.service_ports.ServicePorts.{ServicePorts}
use Rattle.iox_domain.specs.Calls.{PortCall, PublisherComes, Lends, GivesLoanUp, Sends, Happens}

-- How many more loans the publisher may make; none once it is closed.
abbrev pub spare_loans : {T U : Type 0} → PublisherPort T U → ℕ
spare_loans port = if port.stands then port.sender.uses.most_loans - length port.sender.uses.loans else 0

-- How many more loans all publishers of the service may make.
abbrev pub loans_left : {T U : Type 0} → ServicePorts T U → ℕ
loans_left ports = sum_by (λ port. spare_loans port) (values_of ports.publishers)

-- How many loans the call made.
abbrev pub lent_by : {T U : Type 0} → PortCall T U → ℕ
lent_by (Lends publisher values elements (Some (Ok slot))) = 1
lent_by call = 0

-- How many loans the call may have ended: the one that it dropped, or the one that it began to send.
abbrev pub ended_by : {T U : Type 0} → PortCall T U → ℕ
ended_by (GivesLoanUp publisher slot) = 1
ended_by (Sends publisher slot (Some answer)) = 1
ended_by call = 0

-- How many loans the publisher may make that the call created.
abbrev pub brought_by : {T U : Type 0} → PortCall T U → ℕ
brought_by (PublisherComes config user_header (Ok number)) = config.max_loaned_samples
brought_by call = 0

-- In a new service no loan may be made. A call raises this number at most by the loans that it may have ended and by those that a
-- publisher that it created may make; a loan that it made lowers the number by one. What a closed publisher could still make no
-- longer counts.
pub record LoansLeft (T U : Type 0) (overrides : ℕ → ℕ → Type 0) (may : DegradationInfo → DegradationAction
    → Type 0) (decide : BackpressureInfo → BackpressureDecision → Type 0) : Type 0 where
  pub begins : (service : ℕ) (sizes : ServiceSizes) → loans_left {T = T} {U = U} (no_ports service sizes) ≡ 0
  pub goes_on : (call : PortCall T U) (old new : ServicePorts T U) → Happens overrides may decide call old new
      → loans_left new + lent_by call ≤ loans_left old + ended_by call + brought_by call
  pub leaves : (number : ℕ) (port : PublisherPort T U) (old new : ServicePorts T U) → port_of number old.publishers ≡ Some port
      → LeavesAt number (Some port) old true new
      → loans_left new + spare_loans port ≡ loans_left old
