-- How a publisher loans a message.
use Rattle.std.specs.Prelude.{ℕ, ◌+◌, ◌^◌, ◌<◌, ◌≡◌, ◌⊎◌, true, false, ◌&&◌, ◌==◌, nat_lt, nat_le, List, [], ◌∷◌, ◌++◌, length, map}
use Rattle.std.specs.Prelude.{filter, flat_map, Option, None, Some, MatchBool, MatchOption, if◌then◌else◌}
use Rattle.std.specs.Int.{IsNextPowerOfTwo}
use Rattle.iox_machine.specs.Message.{Loan}
use Rattle.iox_machine.specs.Service.{Service, Publisher, mailbox}
use Rattle.iox_machine.specs.Table.{contains}
use Rattle.iox_command.specs.DomainValues.declared.data_segment.AllocationStrategy.{AllocationStrategy}
use Rattle.iox_command.specs.DomainValues.declared.data_segment.AllocationStrategy.TheVariants.{BestFit, PowerOfTwo, Static}
use Rattle.iox_command.specs.DomainValues.declared.port_error.LoanError.{LoanError}
use Rattle.iox_command.specs.DomainValues.declared.port_error.LoanError.TheVariants.{OutOfMemory, ExceedsMaxLoans, ExceedsMaxLoanSize}

-- How many different numbers the list contains.
abbrev pub how_many : List ℕ → ℕ
how_many [] = 0
how_many (number ∷ more) = if contains more number then how_many more else 1 + how_many more

-- The capacity of a new segment, in values, if a loan of this many values doesn't fit the current segment: this number, or the least power
-- of two that is at least this number. A static publisher gets no new segment.
abbrev pub IsRoomFor : AllocationStrategy → ℕ → ℕ → Type 0
IsRoomFor BestFit values room = room ≡ values
IsRoomFor PowerOfTwo values room = IsNextPowerOfTwo values room
IsRoomFor Static values room = ⊥

module _ {T : Type 0} (number : ℕ) where
  -- The loans of this publisher that are out.
  abbrev pub loans_of : Service T → List (Loan T)
  loans_of service = filter (λ loan. loan.publisher == number) (map (λ entry. entry.1) service.loans)

  -- The numbers of the publisher's messages that are in use: its loans, its history, and what waits or is borrowed in its connections, even
  -- in ones that ended.
  abbrev pub in_use : Publisher T → Service T → List ℕ
  in_use publisher service =
      map (λ loan. loan.number) (loans_of service)
      ++ map (λ message. message.number)
      (publisher.history ++ flat_map (λ entry. (mailbox number entry.0 service).waiting ++
      (mailbox number entry.0 service).borrowed) service.subscribers)

  -- Why a loan of this many values is refused, before memory for a new segment is asked for. It is longer than a static segment allows; or
  -- the publisher has as many loans as it may have; or it fits the current segment, and each slot of that segment is in use. The first of
  -- these that applies is the reason.
  abbrev pub loan_refusal : ℕ → Publisher T → Service T → Option LoanError
  loan_refusal values publisher service =
      if nat_lt publisher.room values && elim publisher.allocation [ Static ↦ true | BestFit ↦ false | PowerOfTwo ↦ false ]
      then Some ExceedsMaxLoanSize
      else (if nat_le publisher.max_loaned_samples (length (loans_of service)) then Some ExceedsMaxLoans
      else (if nat_le values publisher.room && nat_le publisher.slots
      (how_many (filter (nat_le publisher.first) (in_use publisher service)))
      then Some OutOfMemory else None))

  -- A publisher loans its next message, of this many values, unless the loan is refused. If the message doesn't fit the current segment, a
  -- new segment is allocated, provided that it has capacity for fewer than 2^32 values and fewer than 255 segments exist; or the loan is
  -- refused as out of memory.
  abbrev pub Lends : ℕ → Publisher T → Service T → Option LoanError → Publisher T → Type 0
  Lends values publisher service refusal after =
      MatchOption (loan_refusal values publisher service)
      (MatchBool (nat_lt publisher.room values)
      (((refusal ≡ Some OutOfMemory) × (after ≡ publisher))
      ⊎ ((room : ℕ) × (IsRoomFor publisher.allocation values room × (room < 2 ^ 32)) × (nat_lt publisher.segments 255 ≡ true)
      × (refusal ≡ None)
      × (after ≡ record publisher { room = room; segments = publisher.segments + 1; first = publisher.next; next = publisher.next + 1 })))
      ((refusal ≡ None) × (after ≡ record publisher { next = publisher.next + 1 })))
      (λ why. (refusal ≡ Some why) × (after ≡ publisher))
