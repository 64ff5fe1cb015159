-- Theorems about loans.
use Rattle.std.specs.Prelude.{ℕ, ◌+◌, ◌<◌, ◌≤◌, ◌≡◌, ◌⊎◌, ◌++◌, ◌∷◌, [], length, IsSome, Option, None, Some, Result, Ok, Err}
use Rattle.iox_domain_values.specs.declared.data_segment.AllocationStrategy.{AllocationStrategy}
use Rattle.iox_domain_values.specs.declared.data_segment.AllocationStrategy.TheVariants as strategy
use Rattle.iox_domain_values.specs.declared.port_error.LoanError.{LoanError}
use Rattle.iox_domain_values.specs.declared.port_error.LoanError.TheVariants as refusal
use Rattle.iox_domain_slots.specs.Counting.{times}
use Rattle.iox_domain_slots.specs.Uses.{in_use, worst_case}
use Rattle.iox_domain_ports.specs.Messages.{new_loan}
use Rattle.iox_domain_ports.specs.MessagesSending.{SenderState, slots_of, opened_for}
use Rattle.iox_domain_ports.specs.Lengths.{extent, SegmentRoom}
use Rattle.iox_domain_ports.specs.Loaning.{with_sender, Loans}
use Rattle.iox_domain_ports.specs.declared.publisher_port.PublisherPort.{PublisherPort}

-- A segment has as many slots as the worst case needs.
abbrev pub IsAmple : {T U : Type 0} → PublisherPort T U → Type 0
IsAmple port = worst_case port.sender.uses ≤ port.sender.uses.size

-- Each slot of the current segment is in use.
abbrev pub IsFull : {T U : Type 0} → SenderState T U → Type 0
IsFull sender =
    (slot : ℕ) → sender.uses.first ≤ slot → slot < sender.uses.first + sender.uses.size → 0 < times slot (in_use (slots_of sender))

-- The loan isn't too long, or its strategy may open a new segment.
abbrev pub MayBeLent : {T U : Type 0} → AllocationStrategy → ℕ → ℕ → PublisherPort T U → Type 0
MayBeLent allocation values elements port = allocation ≡ strategy.Static → extent port.unit values elements ≤ port.sender.room

-- The loan fits, but each slot is in use; or the loan is longer than fits, and no segment was opened for it, or each slot of
-- the new segment is in use.
abbrev pub LacksSlot : {T U : Type 0} → AllocationStrategy → ℕ → ℕ → PublisherPort T U → PublisherPort T U → Type 0
LacksSlot allocation values elements old new =
    ((extent old.unit values elements ≤ old.sender.room) × IsFull old.sender × (new ≡ old))
    ⊎ ((old.sender.room < extent old.unit values elements)
    × ((new ≡ old) ⊎ ((room : ℕ) × SegmentRoom allocation old.unit values elements (Some room)
    × (new ≡ with_sender (opened_for room old.sender) old) × IsFull new.sender)))

-- A loan was made: none of its values is written, its slot wasn't in use, and it fits into the slot. Nothing else changed,
-- except that a segment was opened if the loan didn't fit before.
pub record IsLent {T U : Type 0} (allocation : AllocationStrategy) (values elements : ℕ) (old : PublisherPort T U) (slot : ℕ)
    (new : PublisherPort T U) : Type 0 where
  pub room : length old.sender.uses.loans < old.sender.uses.most_loans
  pub loan : new.sender.uses.loans ≡ old.sender.uses.loans ++ new_loan slot values elements old.sender.user_header ∷ []
  pub free : times slot (in_use (slots_of old.sender)) ≡ 0
  pub current : (new.sender.uses.first ≤ slot) × (slot < new.sender.uses.first + new.sender.uses.size)
  pub fits : extent old.unit values elements ≤ new.sender.room
  pub stays : extent old.unit values elements ≤ old.sender.room → (new.sender.room ≡ old.sender.room)
      × (new.sender.segments ≡ old.sender.segments)
  pub grows : old.sender.room < extent old.unit values elements
      → SegmentRoom allocation old.unit values elements (Some new.sender.room) × (new.sender.segments ≡ old.sender.segments + 1)
      × (old.sender.segments < old.sender.most_segments)
  pub connections : new.sender.uses.connections ≡ old.sender.uses.connections
  pub history : new.sender.uses.history ≡ old.sender.uses.history

-- What each answer of a loan says about the publisher. Answers exclude each other, except that memory may run out.
abbrev pub Tells : {T U : Type 0} → AllocationStrategy → ℕ → ℕ → PublisherPort T U → Option (Result ℕ LoanError) → PublisherPort T U
    → Type 0
Tells allocation values elements old None new = IsSome old.sender.uses.sending × (new ≡ old)
Tells allocation values elements old (Some (Err refusal.ExceedsMaxLoanSize)) new =
    (old.sender.uses.sending ≡ None) × (allocation ≡ strategy.Static) × (old.sender.room < extent old.unit values elements) × (new ≡ old)
Tells allocation values elements old (Some (Err refusal.ExceedsMaxLoans)) new =
    (old.sender.uses.sending ≡ None) × MayBeLent allocation values elements old
    × (old.sender.uses.most_loans ≤ length old.sender.uses.loans) × (new ≡ old)
Tells allocation values elements old (Some (Err refusal.OutOfMemory)) new =
    (old.sender.uses.sending ≡ None) × MayBeLent allocation values elements old
    × (length old.sender.uses.loans < old.sender.uses.most_loans)
    × LacksSlot allocation values elements old new
Tells allocation values elements old (Some (Err refusal.InternalFailure)) new = ⊥
Tells allocation values elements old (Some (Ok slot)) new =
    (old.sender.uses.sending ≡ None) × MayBeLent allocation values elements old × IsLent allocation values elements old slot new

-- Each answer of a loan says about the publisher what `Tells` has for it.
abbrev pub LoanTells : (T U : Type 0) → Type 0
LoanTells T U = (allocation : AllocationStrategy) (values elements : ℕ) (old new : PublisherPort T U) (answer : Option (Result ℕ LoanError))
    → Loans allocation values elements old answer new → Tells allocation values elements old answer new

-- No slot of a new segment is in use if the slots in use were all within the segments before it; so a new segment isn't full.
abbrev pub NewSegmentIsFree : (T U : Type 0) → Type 0
NewSegmentIsFree T U = (room : ℕ) (sender : SenderState T U)
    → ((slot : ℕ) → 0 < times slot (in_use (slots_of sender)) → slot < sender.uses.first + sender.uses.size)
    → 0 < sender.uses.size → IsFull (opened_for room sender) → ⊥
