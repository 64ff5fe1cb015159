-- What the calls of ports of slices answer and change in their home, where they differ from those of single values.
use Rattle.std.specs.Prelude.{ℕ, ◌+◌, ◌≡◌, length, replicate, List, [], ◌∷◌, Option, Some, Result, Ok, Err}
use Rattle.iox_domain.specs.DomainValues.declared.backpressure.BackpressureDecision.{BackpressureDecision}
use Rattle.iox_domain.specs.DomainValues.declared.backpressure.BackpressureInfo.{BackpressureInfo}
use Rattle.iox_domain.specs.DomainValues.declared.degradation.DegradationAction.{DegradationAction}
use Rattle.iox_domain.specs.DomainValues.declared.degradation.DegradationInfo.{DegradationInfo}
use Rattle.iox_domain.specs.DomainValues.declared.port_error.LoanError.{LoanError}
use Rattle.iox_domain.specs.DomainValues.declared.port_error.SendError.{SendError}
use Rattle.iox_domain.specs.DomainValues.declared.port_error.SendError.TheVariants as refusal
use Rattle.iox_delivery.specs.DomainPorts.Messages.{Loan, write_value, write_all}
use Rattle.iox_delivery.specs.DomainPorts.MessagesSending.{has_place, has_length}
use Rattle.iox_delivery.specs.DomainPorts.Writing.{changed_if}
use Rattle.iox_delivery.specs.DomainPorts.declared.meeting.Sent.{Sent as Sending}
use Rattle.iox_delivery.specs.DomainPorts.declared.publisher_port.PublisherPort.{PublisherPort}
use Rattle.iox_delivery.specs.DomainPorts.Publishers.{changed}
use Rattle.iox_delivery.specs.Domain.Lending.{written_in}
use Rattle.iox_delivery.specs.Domain.declared.ports.service_ports.ServicePorts.{ServicePorts}
use Rattle.iox_delivery.specs.Domain.AtHomes.{AtDomain}
use Rattle.iox_delivery.specs.Domain.Steps.{SendsBy}
use Rattle.iox_delivery.specs.Domain.declared.domain_id.DomainId.{DomainId}
use Rattle.iox_delivery.specs.Holding.{loan_found}
use Rattle.iox_delivery.specs.Lent.{IsReady}
use Rattle.iox_delivery.specs.Publishing.{changed_at, lent_of, written_of, LendsSlot, AfterLoan, SendsSample}
use Rattle.iox_delivery.specs.declared.loan.Loan.{Loan as Lent}
use Rattle.iox_delivery.specs.declared.loan.Uninit.{Uninit}
use Rattle.iox_delivery.specs.declared.loan.Written.{Written}
use Rattle.iox_delivery.specs.declared.port_id.PortId.{PortId}
use Rattle.iox_delivery.specs.declared.sent.Sent.{Sent}

-- What the loan of `len` values that aren't written answers and changes; the header says as many elements.
abbrev pub LendsSlice : {T U K H : Type 0} → (DomainId → H → Option (ServicePorts T U)) → (DomainId → ServicePorts T U → H → H) → PortId
    → ℕ → H → Result (Lent T U K Uninit) LoanError → H → Type 0
LendsSlice ports_of with_ports port len old answer new =
    (lent : Result ℕ LoanError) × LendsSlot ports_of with_ports port len len old lent new × (answer ≡ lent_of len port lent)

-- The home after the value at this place of the loan was written, if the loan has that place.
abbrev pub WritesAt : {T U H : Type 0} → (DomainId → H → Option (ServicePorts T U)) → (DomainId → ServicePorts T U → H → H) → PortId → ℕ
    → ℕ → T → H → H → Type 0
WritesAt ports_of with_ports port slot place value old new =
    new ≡ changed_at (λ after. with_ports port.domain after old)
    (written_in port.number (λ publisher. has_place slot place publisher.sender.uses) slot (write_value place value))
    (ports_of port.domain old) old

-- The home after all values of the loan were written, if it has as many.
abbrev pub WritesAll : {T U H : Type 0} → (DomainId → H → Option (ServicePorts T U)) → (DomainId → ServicePorts T U → H → H) → PortId
    → ℕ → List T → H → H → Type 0
WritesAll ports_of with_ports port slot values old new =
    new ≡ changed_at (λ after. with_ports port.domain after old)
    (written_in port.number (λ publisher. has_length slot (length values) publisher.sender.uses) slot (write_all values))
    (ports_of port.domain old) old

-- The publisher after these values were written from `place` of the loan in this slot on, one after the other, each if the loan
-- has its place.
abbrev pub each_written : {T U : Type 0} → ℕ → ℕ → List T → PublisherPort T U → PublisherPort T U
each_written slot place [] port = port
each_written slot place (value ∷ values) port
    = each_written slot (place + 1) values (changed_if (has_place slot place port.sender.uses) slot (write_value place value) port)

-- The ports after these values were written from the first place of the loan on.
abbrev pub each_written_in : {T U : Type 0} → ℕ → ℕ → List T → ServicePorts T U → ServicePorts T U
each_written_in number slot values ports = record ports { publishers = changed number (each_written slot 0 values) ports.publishers }

-- The home after these values were written into the loan in this slot; a loan that has as many values has just these then.
abbrev pub WritesEach : {T U H : Type 0} → (DomainId → H → Option (ServicePorts T U)) → (DomainId → ServicePorts T U → H → H) → PortId
    → ℕ → List T → H → H → Type 0
WritesEach {T} {U} ports_of with_ports port slot values old new =
    (new ≡ changed_at (λ after. with_ports port.domain after old) (each_written_in port.number slot values) (ports_of port.domain old) old)
    × ((loan : Loan T U) → loan_found port.number slot (ports_of port.domain old) ≡ Some loan → length loan.values ≡ length values
    → loan_found port.number slot (ports_of port.domain new) ≡ Some (write_all values loan))

-- `len` equal values are written into the loan in this slot, and the slot is answered.
abbrev pub FillsLent : {T U H : Type 0} → (DomainId → H → Option (ServicePorts T U)) → (DomainId → ServicePorts T U → H → H) → PortId
    → ℕ → T → ℕ → H → Result ℕ LoanError → H → Type 0
FillsLent ports_of with_ports port len value slot old answer new
    = WritesEach ports_of with_ports port slot (replicate len value) old new × (answer ≡ Ok slot)

-- What the loan of a slot for `len` values, each of which is written as `value`, answers and changes.
abbrev pub LendsFilled : {T U H : Type 0} → (DomainId → H → Option (ServicePorts T U)) → (DomainId → ServicePorts T U → H → H) → PortId
    → ℕ → T → H → Result ℕ LoanError → H → Type 0
LendsFilled {T} {U} {H} ports_of with_ports port len value old answer new =
    (lent : Result ℕ LoanError) × (middle : H)
    × LendsSlot ports_of with_ports port len len old lent middle
    × AfterLoan Err (FillsLent ports_of with_ports port len value) lent middle answer new

-- What the loan of a slot for `len` values answers and changes, where each value is written as the same default value.
abbrev pub LendsDefaults : {T U K H : Type 0} → (DomainId → H → Option (ServicePorts T U)) → (DomainId → ServicePorts T U → H → H)
    → (T → Type 0) → PortId → ℕ → H → Result (Lent T U K Written) LoanError → H → Type 0
LendsDefaults {T} {U} {K} {H} ports_of with_ports is_default port len old answer new =
    (value : T) × is_default value × (lent : Result ℕ LoanError) × LendsFilled ports_of with_ports port len value old lent new
    × (answer ≡ written_of port lent)

-- What the call answers and changes: it writes the values into the loan in this slot, and sends it.
abbrev pub SendsAll : {T U H : Type 0} → (DomainId → H → Option (ServicePorts T U)) → (DomainId → ServicePorts T U → H → H)
    → (DomainId → ℕ → H → DegradationInfo → DegradationAction → Type 0)
    → (DomainId → ℕ → H → BackpressureInfo → BackpressureDecision → Type 0) → PortId → List T → ℕ → H → Result (Sent T U) SendError → H
    → Type 0
SendsAll {T} {U} {H} ports_of with_ports degrades decides port values slot old answer new =
    (middle : H) × WritesAll ports_of with_ports port slot values old middle
    × SendsSample ports_of with_ports degrades decides port slot middle answer new

-- What the call answers and changes: it loans values, writes them and sends them.
abbrev pub SendsSlice : {T U H : Type 0} → (DomainId → H → Option (ServicePorts T U)) → (DomainId → ServicePorts T U → H → H)
    → (DomainId → ℕ → H → DegradationInfo → DegradationAction → Type 0)
    → (DomainId → ℕ → H → BackpressureInfo → BackpressureDecision → Type 0) → PortId → List T → H → Result (Sent T U) SendError → H → Type 0
SendsSlice {T} {U} {H} ports_of with_ports degrades decides port values old answer new =
    (lent : Result ℕ LoanError) × (middle : H)
    × LendsSlot ports_of with_ports port (length values) (length values) old lent middle
    × AfterLoan (λ error. Err (refusal.LoanError error)) (SendsAll ports_of with_ports degrades decides port values) lent middle answer new

-- The values are written into the loan in this slot, so that it has just these, and it is sent; the answer is that of the send.
abbrev pub WritesAndSends : {T U H : Type 0} → (DomainId → H → Option (ServicePorts T U)) → (DomainId → ServicePorts T U → H → H)
    → (DomainId → ℕ → H → DegradationInfo → DegradationAction → Type 0)
    → (DomainId → ℕ → H → BackpressureInfo → BackpressureDecision → Type 0) → PortId → List T → ℕ → H → Result Sending SendError → H
    → Type 0
WritesAndSends {T} {U} {H} ports_of with_ports degrades decides port values slot old answer new =
    (middle : H) × WritesAll ports_of with_ports port slot values old middle
    × IsReady port.number values (length values) slot (ports_of port.domain middle)
    × AtDomain (λ after. with_ports port.domain after middle)
    (SendsBy (degrades port.domain port.number middle) (decides port.domain port.number middle) port.number slot)
    (ports_of port.domain middle) middle (Some answer) new

-- What the call answers and changes: it loans values, writes them and sends them, as `SendsSlice` says. The answer is that of
-- the send, or the error of the loan.
abbrev pub SendsValues : {T U H : Type 0} → (DomainId → H → Option (ServicePorts T U)) → (DomainId → ServicePorts T U → H → H)
    → (DomainId → ℕ → H → DegradationInfo → DegradationAction → Type 0)
    → (DomainId → ℕ → H → BackpressureInfo → BackpressureDecision → Type 0) → PortId → List T → H → Result Sending SendError → H → Type 0
SendsValues {T} {U} {H} ports_of with_ports degrades decides port values old answer new =
    (lent : Result ℕ LoanError) × (middle : H)
    × LendsSlot ports_of with_ports port (length values) (length values) old lent middle
    × AfterLoan (λ error. Err (refusal.LoanError error)) (WritesAndSends ports_of with_ports degrades decides port values) lent middle
    answer new
