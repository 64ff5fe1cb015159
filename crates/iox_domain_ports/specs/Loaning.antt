-- A publisher loans a slot.
use Rattle.std.specs.Prelude.{ℕ, ◌≡◌, ◌⊎◌, Bool, true, false, length, is_some, nat_lt, nat_le, Option, None, Some, Result, Ok, Err}
use Rattle.std.specs.Prelude.{if◌then◌else◌}
use Rattle.iox_domain_values.specs.declared.data_segment.AllocationStrategy.{AllocationStrategy}
use Rattle.iox_domain_values.specs.declared.data_segment.AllocationStrategy.TheVariants as strategy
use Rattle.iox_domain_values.specs.declared.port_error.LoanError.{LoanError}
use Rattle.iox_domain_values.specs.declared.port_error.LoanError.TheVariants as refusal
use Rattle.iox_domain_ports.specs.MessagesSending.{SenderState, LoanMade, opened_for}
use Rattle.iox_domain_ports.specs.Lengths.{extent, SegmentRoom}
use Rattle.iox_domain_ports.specs.declared.publisher_port.PublisherPort.{PublisherPort}

-- The publisher with this sender, and otherwise unchanged.
abbrev pub with_sender : {T U : Type 0} → SenderState T U → PublisherPort T U → PublisherPort T U
with_sender sender port = record port { sender = sender }

-- Whether the loan is longer than the slots of a publisher with the static strategy allow.
abbrev pub is_too_long : {T U : Type 0} → AllocationStrategy → ℕ → ℕ → PublisherPort T U → Bool
is_too_long strategy.BestFit values elements port = false
is_too_long strategy.PowerOfTwo values elements port = false
is_too_long strategy.Static values elements port = nat_lt port.sender.room (extent port.unit values elements)

-- The error of a loan that is refused before its slots are examined: that of a loan that is too long, and otherwise that of too
-- many loans.
abbrev pub first_refusal : {T U : Type 0} → AllocationStrategy → ℕ → ℕ → PublisherPort T U → Option LoanError
first_refusal allocation values elements port =
    if is_too_long allocation values elements port then Some refusal.ExceedsMaxLoanSize
    else (if nat_lt (length port.sender.uses.loans) port.sender.uses.most_loans then None else Some refusal.ExceedsMaxLoans)

-- A loan is made in any slot of the current segment that isn't in use; if each slot is in use, the call fails with
-- `OutOfMemory`.
abbrev pub LendsHere : {T U : Type 0} → ℕ → ℕ → PublisherPort T U → Result ℕ LoanError → PublisherPort T U → Type 0
LendsHere values elements old (Ok slot) new = LoanMade old.sender values elements (Some slot) new.sender
    × (new ≡ with_sender new.sender old)
LendsHere values elements old (Err error) new =
    (error ≡ refusal.OutOfMemory) × LoanMade old.sender values elements None new.sender × (new ≡ with_sender new.sender old)

-- The loan fails with `OutOfMemory`, and nothing changes.
abbrev pub LacksMemory : {T U : Type 0} → PublisherPort T U → Result ℕ LoanError → PublisherPort T U → Type 0
LacksMemory old answer new = (answer ≡ Err refusal.OutOfMemory) × (new ≡ old)

-- A loan is made in a new segment, in each of whose slots `room` values fit; the segment stays even if the loan then fails. Or
-- the segment can't be allocated.
abbrev pub LendsInNew : {T U : Type 0} → ℕ → ℕ → ℕ → PublisherPort T U → Result ℕ LoanError → PublisherPort T U → Type 0
LendsInNew room values elements old answer new =
    LendsHere values elements (with_sender (opened_for room old.sender) old) answer new ⊎ LacksMemory old answer new

-- A loan is made in a new segment whose slots have capacity for `room` values each, if the strategy allows that length and the
-- publisher may have one more segment.
abbrev pub LendsBeyond : {T U : Type 0} → Option ℕ → Bool → ℕ → ℕ → PublisherPort T U → Result ℕ LoanError → PublisherPort T U → Type 0
LendsBeyond None more values elements old answer new = LacksMemory old answer new
LendsBeyond (Some room) false values elements old answer new = LacksMemory old answer new
LendsBeyond (Some room) true values elements old answer new = LendsInNew room values elements old answer new

-- A loan that fits into the slots of the current segment is made there; a longer one in a new segment.
abbrev pub LendsWhere : {T U : Type 0} → Bool → AllocationStrategy → ℕ → ℕ → PublisherPort T U → Result ℕ LoanError → PublisherPort T U
    → Type 0
LendsWhere true allocation values elements old answer new = LendsHere values elements old answer new
LendsWhere false allocation values elements old answer new =
    (room : Option ℕ) × SegmentRoom allocation old.unit values elements room
    × LendsBeyond room (nat_lt old.sender.segments old.sender.most_segments) values elements old answer new

-- A loan is refused with this error, or made as `LendsWhere` says.
abbrev pub LendsUnless : {T U : Type 0} → Option LoanError → AllocationStrategy → ℕ → ℕ → PublisherPort T U → Result ℕ LoanError
    → PublisherPort T U → Type 0
LendsUnless (Some error) allocation values elements old answer new = (answer ≡ Err error) × (new ≡ old)
LendsUnless None allocation values elements old answer new
    = LendsWhere (nat_le (extent old.unit values elements) old.sender.room) allocation values elements old answer new

-- What a loan answers and changes while no send is blocked.
abbrev pub Lends : {T U : Type 0} → AllocationStrategy → ℕ → ℕ → PublisherPort T U → Result ℕ LoanError → PublisherPort T U → Type 0
Lends allocation values elements old answer new
    = LendsUnless (first_refusal allocation values elements old) allocation values elements old answer new

-- While a send is blocked the loan answers None, and nothing changes.
abbrev pub LoansIf : {T U : Type 0} → Bool → AllocationStrategy → ℕ → ℕ → PublisherPort T U → Option (Result ℕ LoanError)
    → PublisherPort T U → Type 0
LoansIf true allocation values elements old answer new = (answer ≡ None) × (new ≡ old)
LoansIf false allocation values elements old answer new =
    (lent : Result ℕ LoanError) × (answer ≡ Some lent) × Lends allocation values elements old lent new

-- What a loan of `values` values and `elements` elements answers and changes.
abbrev pub Loans : {T U : Type 0} → AllocationStrategy → ℕ → ℕ → PublisherPort T U → Option (Result ℕ LoanError) → PublisherPort T U
    → Type 0
Loans allocation values elements old answer new =
    LoansIf (is_some old.sender.uses.sending) allocation values elements old answer new
