-- When a loan is refused, by what is in use, and which segment it leaves.
use Rattle.std.specs.Prelude.{ℕ, ◌+◌, ◌^◌, ◌<◌, ◌≤◌, ◌≡◌, ◌⊎◌, true, false, ◌==◌, List, length, filter, find, Option, None, Some, is_some}
use Rattle.std.specs.Prelude.{MatchOption}
use Rattle.std.specs.Int.{IsNextPowerOfTwo}
use Rattle.std.specs.List.{IsDistinct}
use Rattle.iox_machine.specs.AgreementLaws.{HasOne}
use Rattle.iox_machine.specs.Choices.{Choices}
use Rattle.iox_machine.specs.OnceLaws.{is_skipped}
use Rattle.iox_machine.specs.Ports.{publisher_in}
use Rattle.iox_machine.specs.Run.{Step}
use Rattle.iox_machine.specs.Service.{Publisher, Service, mailbox}
use Rattle.iox_machine.specs.State.{State, replaced}
use Rattle.iox_machine.specs.Table.{at, contains}
use Rattle.iox_command.specs.DomainValues.declared.data_segment.AllocationStrategy.{AllocationStrategy}
use Rattle.iox_command.specs.DomainValues.declared.data_segment.AllocationStrategy.TheVariants.{BestFit, PowerOfTwo, Static}
use Rattle.iox_command.specs.DomainValues.declared.port_error.LoanError.{LoanError}
use Rattle.iox_command.specs.DomainValues.declared.port_error.LoanError.TheVariants as lacking
use Rattle.iox_command.specs.DomainValues.declared.port_error.SendError.TheVariants as error
use Rattle.iox_command.specs.NegotiateBase.DescribeBase.declared.message_type.MessageTypeDetails.{MessageTypeDetails}
use Rattle.iox_command.specs.declared.command.Command.TheVariants as command
use Rattle.iox_command.specs.declared.refusal.Refusal.TheVariants as refusal
use Rattle.iox_command.specs.declared.reply.Reply.{Reply}
use Rattle.iox_command.specs.declared.reply.Reply.TheVariants as reply

-- The length of a segment that opens for this many values: with the best fit exactly as many, with powers of two the least power that is
-- enough. A static publisher opens none.
abbrev pub IsLongEnough : AllocationStrategy → ℕ → ℕ → Type 0
IsLongEnough Static count room = ⊥
IsLongEnough BestFit count room = room ≡ count
IsLongEnough PowerOfTwo count room = IsNextPowerOfTwo count room

-- The publisher's segments are as before: as many, the current one of the same slots, length and first message. Its next message is the
-- same.
abbrev pub KeepsSegments : {T : Type 0} → Publisher T → Publisher T → Type 0
KeepsSegments was now =
    (now.slots ≡ was.slots) × (now.room ≡ was.room) × (now.segments ≡ was.segments) × (now.first ≡ was.first) × (now.next ≡ was.next)

-- What a loan of this many values leaves of the publisher. A refused one changes nothing. One that is made takes the publisher's next
-- number. If it fits the current segment, the segments stay. Otherwise exactly one segment opens, with the length that the strategy says,
-- and begins with this message. All else stays.
abbrev pub IsLeftBy : {T : Type 0} → ℕ → Option LoanError → Publisher T → Publisher T → Type 0
IsLeftBy count refused one now =
    MatchOption refused
    (((count ≤ one.room) × (now ≡ record one { next = one.next + 1 }))
    ⊎ ((one.room < count) × (room : ℕ) × IsLongEnough one.allocation count room × (room < 2 ^ 32) × (one.segments < 255)
    × (now ≡ record one { room = room; segments = one.segments + 1; first = one.next; next = one.next + 1 })))
    (λ why. now ≡ one)

module _ {T : Type 0} (number : ℕ) (one : Publisher T) (service : Service T) where
  -- How many loans of this publisher are out.
  abbrev pub loans_out : ℕ
  loans_out = length (filter (λ entry. entry.1.publisher == number) service.loans)

  -- The publisher's message with this number is in use: it is loaned, or kept in the history, or it waits or is borrowed at some subscriber
  -- of the service, be that open or closed.
  abbrev pub IsInUse : ℕ → Type 0
  IsInUse message =
      HasOne (λ entry. (entry.1.publisher ≡ number) × (entry.1.number ≡ message)) service.loans
      ⊎ (HasOne (λ it. it.number ≡ message) one.history
      ⊎ HasOne (λ entry. HasOne (λ it. it.number ≡ message) (mailbox number entry.0 service).waiting
      ⊎ HasOne (λ it. it.number ≡ message) (mailbox number entry.0 service).borrowed) service.subscribers)

  -- These are the numbers of the messages in the publisher's current segment that are in use, each once.
  abbrev pub AreInUse : List ℕ → Type 0
  AreInUse used =
      IsDistinct (λ a b. a == b) used
      × ((message : ℕ) → (contains used message ≡ true → (one.first ≤ message) × IsInUse message)
      × (one.first ≤ message → IsInUse message → contains used message ≡ true))

  -- The loan of this many values opens a new segment: fewer than 255 exist, and the new one has capacity for fewer than 2^32 values.
  abbrev pub MayOpenSegment : ℕ → Type 0
  MayOpenSegment count = (room : ℕ) × IsLongEnough one.allocation count room × (room < 2 ^ 32) × (one.segments < 255)

  -- Whether a loan of this many values is refused, and why. It is refused if it is longer than a static segment; otherwise if the maximum
  -- number of loans is out; otherwise if it fits the segment, and as many messages of the segment are in use as it has slots, or if it
  -- doesn't fit, and memory runs out. Otherwise it is made: it fits, and a slot is left, or a new segment opens.
  abbrev pub IsLentOrRefused : ℕ → Option LoanError → Type 0
  IsLentOrRefused count refused =
      ((one.room < count) × (one.allocation ≡ Static) × (refused ≡ Some lacking.ExceedsMaxLoanSize))
      ⊎ (((one.room < count → one.allocation ≡ Static → ⊥) × (one.max_loaned_samples ≤ loans_out)
      × (refused ≡ Some lacking.ExceedsMaxLoans))
      ⊎ (((loans_out < one.max_loaned_samples) × (count ≤ one.room) × (used : List ℕ) × AreInUse used
      × (((one.slots ≤ length used) × (refused ≡ Some lacking.OutOfMemory)) ⊎ ((length used < one.slots) × (refused ≡ None))))
      ⊎ ((loans_out < one.max_loaned_samples) × (one.room < count) × (one.allocation ≡ Static → ⊥)
      × ((refused ≡ Some lacking.OutOfMemory) ⊎ (MayOpenSegment count × (refused ≡ None))))))

module _ {T : Type 0} (choices : Choices T) where
  -- A loan, written or not, is refused exactly as `IsLentOrRefused` says, and leaves the publisher as `IsLeftBy` says.
  abbrev pub LoansAreRefusedSo : Type 0
  LoansAreRefusedSo = (types : MessageTypeDetails) (buffer publisher count : ℕ) (old : State T) (answer : Reply T) (new : State T)
      → is_skipped answer ≡ false
      → Step types choices buffer (command.Loan publisher count) old answer new
      ⊎ Step types choices buffer (command.LoanUninit publisher count) old answer new
      → (service : Service T) × (one : Publisher T) × (refused : Option LoanError)
      × (find (λ other. is_some (publisher_in publisher other)) old.services ≡ Some service) × (publisher_in publisher service ≡ Some one)
      × IsLentOrRefused publisher one service count refused
      × MatchOption refused (answer ≡ reply.LoanMade (old.made.loans + 1)) (λ why. answer ≡ reply.Refused (refusal.Loan why))
      × (after : Service T) × (now : Publisher T)
      × (new.services ≡ replaced (λ other. is_some (publisher_in publisher other)) after old.services)
      × (at publisher after.publishers ≡ Some now) × IsLeftBy count refused one now

  -- A put whose loan is refused is refused exactly as a loan of as many values would be. The put leaves the publisher's segments as such a
  -- loan does, whatever becomes of its send.
  abbrev pub PutsAreRefusedSo : Type 0
  PutsAreRefusedSo = (types : MessageTypeDetails) (buffer publisher : ℕ) (values : List T) (old : State T) (answer : Reply T)
      (new : State T) → is_skipped answer ≡ false → Step types choices buffer (command.Put publisher values) old answer new
      → (service : Service T) × (one : Publisher T) × (refused : Option LoanError)
      × (find (λ other. is_some (publisher_in publisher other)) old.services ≡ Some service) × (publisher_in publisher service ≡ Some one)
      × IsLentOrRefused publisher one service (length values) refused
      × MatchOption refused ((why : LoanError) → answer ≡ reply.Refused (refusal.Send (error.LoanError why)) → ⊥)
      (λ why. answer ≡ reply.Refused (refusal.Send (error.LoanError why)))
      × (after : Service T) × (lent : Publisher T) × (now : Publisher T)
      × (new.services ≡ replaced (λ other. is_some (publisher_in publisher other)) after old.services)
      × IsLeftBy (length values) refused one lent × (at publisher after.publishers ≡ Some now) × KeepsSegments lent now
