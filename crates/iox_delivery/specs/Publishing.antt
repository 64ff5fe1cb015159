-- What the calls of a publisher and of its loans answer and change in their home. `ports_of` finds the ports of a domain in a
-- home, and `with_ports` replaces them.
use Rattle.std.specs.Prelude.{ℕ, ◌≡◌, Bool, true, Option, None, Some, Result, Ok, Err}
use Rattle.iox_domain.specs.DescribeBase.declared.header.Header.{Header}
use Rattle.iox_domain.specs.DomainValues.declared.backpressure.BackpressureDecision.{BackpressureDecision}
use Rattle.iox_domain.specs.DomainValues.declared.backpressure.BackpressureInfo.{BackpressureInfo}
use Rattle.iox_domain.specs.DomainValues.declared.connection_failure.ConnectionFailure.{ConnectionFailure}
use Rattle.iox_domain.specs.DomainValues.declared.degradation.DegradationAction.{DegradationAction}
use Rattle.iox_domain.specs.DomainValues.declared.degradation.DegradationInfo.{DegradationInfo}
use Rattle.iox_domain.specs.DomainValues.declared.port_error.LoanError.{LoanError}
use Rattle.iox_domain.specs.DomainValues.declared.port_error.SendError.{SendError}
use Rattle.iox_domain.specs.DomainValues.declared.port_error.SendError.TheVariants as refusal
use Rattle.iox_domain.specs.DomainPorts.Messages.{Loan, write_value, write_user_header}
use Rattle.iox_domain.specs.DomainPorts.MessagesSending.{has_loan, has_length}
use Rattle.iox_domain.specs.DomainPorts.declared.meeting.Sent.{Sent as Sending}
use Rattle.iox_domain.specs.DomainPorts.declared.meeting.Sent.TheVariants as sending
use Rattle.iox_domain.specs.Lending.{written_in, loan_changed_in, loan_header_in, gave_up_in}
use Rattle.iox_domain.specs.declared.ports.service_ports.ServicePorts.{ServicePorts}
use Rattle.iox_domain.specs.AtHomes.{AtDomain, LeavesDomain}
use Rattle.iox_domain.specs.Steps.{LoansBy, UpdatesBy, SendsBy, RetriesBy, GivesUpBy, PublisherLeaves}
use Rattle.iox_domain.specs.declared.domain_id.DomainId.{DomainId}
use Rattle.iox_delivery.specs.declared.loan.Loan.{Loan as Lent}
use Rattle.iox_delivery.specs.declared.loan.Uninit.{Uninit}
use Rattle.iox_delivery.specs.declared.loan.Written.{Written}
use Rattle.iox_delivery.specs.declared.port_id.PortId.{PortId}
use Rattle.iox_delivery.specs.declared.sent.Sent.{Sent}
use Rattle.iox_delivery.specs.declared.sent.Sent.TheVariants as sent

-- The loan of the publisher in this slot as a value, with `len` values, not written.
abbrev pub loan_of : {T U K : Type 0} → ℕ → PortId → ℕ → Lent T U K Uninit
loan_of len port slot = record { port = port; slot = slot; state = record { len = len }; of = record {} }

-- The written loan of the publisher in this slot as a value.
abbrev pub sample_mut_of : {T U K : Type 0} → PortId → ℕ → Lent T U K Written
sample_mut_of port slot = record { port = port; slot = slot; state = record {}; of = record {} }

-- The answer of a loan of `len` values, with the loan as a value.
abbrev pub lent_of : {T U K : Type 0} → ℕ → PortId → Result ℕ LoanError → Result (Lent T U K Uninit) LoanError
lent_of len port (Ok slot) = Ok (loan_of len port slot)
lent_of len port (Err error) = Err error

-- The answer of a send, with a blocked send as a value.
abbrev pub sent_of : {T U : Type 0} → PortId → Result Sending SendError → Result (Sent T U) SendError
sent_of port (Ok (sending.Delivered delivered)) = Ok (sent.Delivered delivered)
sent_of port (Ok sending.Blocked) = Ok (sent.Blocked (record { port = port; of = record {} }))
sent_of port (Err error) = Err error

-- The home after the ports of a domain were changed; unchanged if it doesn't contain the domain.
abbrev pub changed_at : {P H : Type 0} → (P → H) → (P → P) → Option P → H → H
changed_at with_ports change None home = home
changed_at with_ports change (Some ports) home = with_ports (change ports)

-- The header of the loan in this slot of the publisher with this number, if the home has it.
abbrev pub loan_header_found : {T U : Type 0} → ℕ → ℕ → Option (ServicePorts T U) → Option Header
loan_header_found number slot None = None
loan_header_found number slot (Some ports) = loan_header_in number slot ports

-- What the loan of a slot for `values` values and `elements` elements answers and changes.
abbrev pub LendsSlot : {T U H : Type 0} → (DomainId → H → Option (ServicePorts T U)) → (DomainId → ServicePorts T U → H → H) → PortId
    → ℕ → ℕ → H → Result ℕ LoanError → H → Type 0
LendsSlot ports_of with_ports port values elements old answer new =
    AtDomain (λ after. with_ports port.domain after old) (LoansBy port.number values elements) (ports_of port.domain old) old
    (Some answer) new

-- What the loan of a value that isn't written answers and changes.
abbrev pub LendsUninit : {T U K H : Type 0} → (DomainId → H → Option (ServicePorts T U)) → (DomainId → ServicePorts T U → H → H) → PortId
    → H → Result (Lent T U K Uninit) LoanError → H → Type 0
LendsUninit ports_of with_ports port old answer new =
    (lent : Result ℕ LoanError) × LendsSlot ports_of with_ports port 1 1 old lent new × (answer ≡ lent_of 1 port lent)

-- What follows a loan: if it failed, its error is returned and nothing changes; otherwise the next step is done with its slot.
abbrev pub AfterLoan : {H A : Type 0} → (LoanError → A) → (ℕ → H → A → H → Type 0) → Result ℕ LoanError → H → A → H → Type 0
AfterLoan refused next (Err error) old answer new = (answer ≡ refused error) × (new ≡ old)
AfterLoan refused next (Ok slot) old answer new = next slot old answer new

-- The answer of a loan that is written, with the loan as a value.
abbrev pub written_of : {T U K : Type 0} → PortId → Result ℕ LoanError → Result (Lent T U K Written) LoanError
written_of port (Ok slot) = Ok (sample_mut_of port slot)
written_of port (Err error) = Err error

-- What an update of the publisher answers and changes.
abbrev pub FollowsSubscribers : {T U H : Type 0} → (DomainId → H → Option (ServicePorts T U)) → (DomainId → ServicePorts T U → H → H)
    → (DomainId → ℕ → H → DegradationInfo → DegradationAction → Type 0) → PortId → H → Result (Unit {0}) ConnectionFailure → H → Type 0
FollowsSubscribers ports_of with_ports degrades port old answer new =
    AtDomain (λ after. with_ports port.domain after old) (UpdatesBy (degrades port.domain port.number old) port.number)
    (ports_of port.domain old) old (Some answer) new

-- What closing the publisher changes; the call closes it in any case.
abbrev pub PublisherGoes : {T U H : Type 0} → (DomainId → H → Option (ServicePorts T U)) → (DomainId → ServicePorts T U → H → H)
    → (DomainId → ℕ → H → H) → PortId → H → H → Type 0
PublisherGoes ports_of with_ports without port old new =
    LeavesDomain (λ after. with_ports port.domain after old) (without port.domain port.number) (PublisherLeaves port.number)
    (ports_of port.domain old) old true new

-- What dropping the publisher answers and changes: it is closed if it can be, and otherwise nothing happens.
abbrev pub EndsPublisher : {T U H : Type 0} → (DomainId → H → Option (ServicePorts T U)) → (DomainId → ServicePorts T U → H → H)
    → (DomainId → ℕ → H → H) → PortId → H → Bool → H → Type 0
EndsPublisher ports_of with_ports without port old left new =
    LeavesDomain (λ after. with_ports port.domain after old) (without port.domain port.number) (PublisherLeaves port.number)
    (ports_of port.domain old) old left new

-- The home after the value was written into a loan of one value.
abbrev pub WritesPayload : {T U H : Type 0} → (DomainId → H → Option (ServicePorts T U)) → (DomainId → ServicePorts T U → H → H)
    → PortId → ℕ → T → H → H → Type 0
WritesPayload ports_of with_ports port slot value old new =
    new ≡ changed_at (λ after. with_ports port.domain after old)
    (written_in port.number (λ publisher. has_length slot 1 publisher.sender.uses) slot (write_value 0 value))
    (ports_of port.domain old) old

-- The value is written into the loan in this slot, and the slot is answered.
abbrev pub WritesLent : {T U H : Type 0} → (DomainId → H → Option (ServicePorts T U)) → (DomainId → ServicePorts T U → H → H) → PortId
    → T → ℕ → H → Result ℕ LoanError → H → Type 0
WritesLent ports_of with_ports port value slot old answer new = WritesPayload ports_of with_ports port slot value old new
    × (answer ≡ Ok slot)

-- What the loan of a slot for one value, which is written there, answers and changes.
abbrev pub LendsValue : {T U H : Type 0} → (DomainId → H → Option (ServicePorts T U)) → (DomainId → ServicePorts T U → H → H) → PortId
    → T → H → Result ℕ LoanError → H → Type 0
LendsValue {T} {U} {H} ports_of with_ports port value old answer new =
    (lent : Result ℕ LoanError) × (middle : H)
    × LendsSlot ports_of with_ports port 1 1 old lent middle
    × AfterLoan Err (WritesLent ports_of with_ports port value) lent middle answer new

-- What the loan of a value that is written with a default answers and changes.
abbrev pub LendsDefault : {T U K H : Type 0} → (DomainId → H → Option (ServicePorts T U)) → (DomainId → ServicePorts T U → H → H)
    → (T → Type 0) → PortId → H → Result (Lent T U K Written) LoanError → H → Type 0
LendsDefault {T} {U} {K} {H} ports_of with_ports is_default port old answer new =
    (value : T) × is_default value × (lent : Result ℕ LoanError) × LendsValue ports_of with_ports port value old lent new
    × (answer ≡ written_of port lent)

-- The home after the loan in this slot was changed; unchanged if it doesn't contain the domain.
abbrev pub loan_changed : {T U H : Type 0} → (DomainId → H → Option (ServicePorts T U)) → (DomainId → ServicePorts T U → H → H) → PortId
    → ℕ → (Loan T U → Loan T U) → H → H
loan_changed ports_of with_ports port slot change home
    = changed_at (λ after. with_ports port.domain after home) (loan_changed_in port.number slot change) (ports_of port.domain home) home

-- The home after the user header of the loan was written.
abbrev pub WritesUserHeader : {T U H : Type 0} → (DomainId → H → Option (ServicePorts T U)) → (DomainId → ServicePorts T U → H → H)
    → PortId → ℕ → U → H → H → Type 0
WritesUserHeader ports_of with_ports port slot user_header old new =
    new ≡ changed_at (λ after. with_ports port.domain after old)
    (written_in port.number (λ publisher. has_loan slot publisher.sender.uses) slot (write_user_header user_header))
    (ports_of port.domain old) old

-- The home after the loan was dropped.
abbrev pub GivesUpLoan : {T U H : Type 0} → (DomainId → H → Option (ServicePorts T U)) → (DomainId → ServicePorts T U → H → H) → PortId
    → ℕ → H → H → Type 0
GivesUpLoan ports_of with_ports port slot old new =
    new ≡ changed_at (λ after. with_ports port.domain after old) (gave_up_in port.number slot) (ports_of port.domain old) old

-- What a send of a written loan answers and changes.
abbrev pub SendsSample : {T U H : Type 0} → (DomainId → H → Option (ServicePorts T U)) → (DomainId → ServicePorts T U → H → H)
    → (DomainId → ℕ → H → DegradationInfo → DegradationAction → Type 0)
    → (DomainId → ℕ → H → BackpressureInfo → BackpressureDecision → Type 0) → PortId → ℕ → H → Result (Sent T U) SendError → H → Type 0
SendsSample ports_of with_ports degrades decides port slot old answer new =
    (outcome : Result Sending SendError)
    × AtDomain (λ after. with_ports port.domain after old)
    (SendsBy (degrades port.domain port.number old) (decides port.domain port.number old) port.number slot)
    (ports_of port.domain old) old (Some outcome) new
    × (answer ≡ sent_of port outcome)

-- What the call answers and changes: it loans a value, writes it and sends it.
abbrev pub SendsCopy : {T U H : Type 0} → (DomainId → H → Option (ServicePorts T U)) → (DomainId → ServicePorts T U → H → H)
    → (DomainId → ℕ → H → DegradationInfo → DegradationAction → Type 0)
    → (DomainId → ℕ → H → BackpressureInfo → BackpressureDecision → Type 0) → PortId → T → H → Result (Sent T U) SendError → H → Type 0
SendsCopy {T} {U} {H} ports_of with_ports degrades decides port value old answer new =
    (lent : Result ℕ LoanError) × (middle : H)
    × LendsValue ports_of with_ports port value old lent middle
    × AfterLoan (λ error. Err (refusal.LoanError error)) (SendsSample ports_of with_ports degrades decides port) lent middle answer new

-- What one more try of a blocked send answers and changes.
abbrev pub RetriesSend : {T U H : Type 0} → (DomainId → H → Option (ServicePorts T U)) → (DomainId → ServicePorts T U → H → H)
    → (DomainId → ℕ → H → BackpressureInfo → BackpressureDecision → Type 0) → PortId → ℕ → H → Result (Sent T U) SendError → H → Type 0
RetriesSend ports_of with_ports decides port elapsed old answer new =
    (outcome : Result Sending SendError)
    × AtDomain (λ after. with_ports port.domain after old) (RetriesBy (decides port.domain port.number old) port.number elapsed)
    (ports_of port.domain old) old (Some outcome) new
    × (answer ≡ sent_of port outcome)

-- What giving up a blocked send answers and changes.
abbrev pub GivesUpSend : {T U H : Type 0} → (DomainId → H → Option (ServicePorts T U)) → (DomainId → ServicePorts T U → H → H) → PortId
    → H → ℕ → H → Type 0
GivesUpSend ports_of with_ports port old answer new =
    AtDomain (λ after. with_ports port.domain after old) (GivesUpBy port.number) (ports_of port.domain old) old (Some answer) new

-- What dropping a blocked send answers and changes: the send is given up, if it is blocked.
abbrev pub EndsSend : {T U H : Type 0} → (DomainId → H → Option (ServicePorts T U)) → (DomainId → ServicePorts T U → H → H) → PortId → H
    → Option ℕ → H → Type 0
EndsSend ports_of with_ports port old answer new =
    AtDomain (λ after. with_ports port.domain after old) (GivesUpBy port.number) (ports_of port.domain old) old answer new
