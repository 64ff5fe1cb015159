-- What loans have: the values with which they are made, and what a command that writes them changes.
use Rattle.std.specs.Prelude.{ℕ, ◌≡◌, ◌<◌, List, [], ◌∷◌, ◌++◌, length, map, find, slice_get, Option, None, Some, is_some}
use Rattle.std.specs.List.{AllByRecursion}
use Rattle.iox_machine.specs.Choices.{Choices}
use Rattle.iox_machine.specs.Message.{Loan}
use Rattle.iox_machine.specs.Ports.{publisher_in}
use Rattle.iox_machine.specs.Run.{Step}
use Rattle.iox_machine.specs.Service.{Service}
use Rattle.iox_machine.specs.State.{State, replaced}
use Rattle.iox_machine.specs.Table.{at}
use Rattle.iox_command.specs.NegotiateBase.DescribeBase.declared.message_type.MessageTypeDetails.{MessageTypeDetails}
use Rattle.iox_command.specs.declared.command.Command.TheVariants as command
use Rattle.iox_command.specs.declared.reply.Reply.TheVariants as reply

module _ {T : Type 0} where
  -- A publisher gets a new loan under this number, of this many values, for each of which `Is` holds. It comes after the other loans of the
  -- publisher's service, which stay.
  abbrev pub GetsLoan : (Option T → Type 0) → (publisher count number : ℕ) → State T → State T → Type 0
  GetsLoan Is publisher count number old new =
      (service : Service T) × (after : Service T) × (lent : Loan T)
      × (find (λ other. is_some (publisher_in publisher other)) old.services ≡ Some service)
      × (new.services ≡ replaced (λ other. is_some (publisher_in publisher other)) after old.services)
      × (after.loans ≡ service.loans ++ (number, lent) ∷ []) × (lent.publisher ≡ publisher) × (length lent.values ≡ count)
      × AllByRecursion Is lent.values

  -- A loan has these values and then those. It stays a loan of the same message, and all else of its service stays, other loans too.
  abbrev pub IsRewritten : ℕ → List (Option T) → List (Option T) → State T → State T → Type 0
  IsRewritten loan before behind old new =
      (service : Service T) × (after : Service T) × (one : Loan T)
      × (find (λ other. is_some (at loan other.loans)) old.services ≡ Some service)
      × (new.services ≡ replaced (λ other. is_some (at loan other.loans)) after old.services)
      × (at loan service.loans ≡ Some one) × (one.values ≡ before) × (at loan after.loans ≡ Some (record one { values = behind }))
      × ((other : ℕ) → (other ≡ loan → ⊥) → at other after.loans ≡ at other service.loans)
      × (after ≡ record service { loans = after.loans })

module _ {T : Type 0} (choices : Choices T) where
  -- A loan is made with as many values as were asked for, all of them default values; or unwritten, if that was asked for.
  abbrev pub LoansBegin : Type 0
  LoansBegin = (types : MessageTypeDetails) (buffer publisher count number : ℕ) (old new : State T)
      → (Step types choices buffer (command.Loan publisher count) old (reply.LoanMade number) new
      → GetsLoan (λ place. (value : T) × (place ≡ Some value) × choices.is_default value) publisher count number old new)
      × (Step types choices buffer (command.LoanUninit publisher count) old (reply.LoanMade number) new
      → GetsLoan (λ place. place ≡ None) publisher count number old new)

  -- Setting a value changes this one place of the loan, which it has, and no other.
  abbrev pub SetWritesOne : Type 0
  SetWritesOne = (types : MessageTypeDetails) (buffer loan place : ℕ) (value : T) (old new : State T)
      → Step types choices buffer (command.Set loan place value) old reply.Done new
      → (before : List (Option T)) × (behind : List (Option T)) × IsRewritten loan before behind old new
      × (place < length before) × (length behind ≡ length before) × (slice_get behind place ≡ Some (Some value))
      × ((other : ℕ) → (other ≡ place → ⊥) → slice_get behind other ≡ slice_get before other)

  -- Filling a loan gives it these values, which are as many as it had.
  abbrev pub FillWritesAll : Type 0
  FillWritesAll = (types : MessageTypeDetails) (buffer loan : ℕ) (values : List T) (old new : State T)
      → Step types choices buffer (command.Fill loan values) old reply.Done new
      → (before : List (Option T)) × IsRewritten loan before (map Some values) old new × (length values ≡ length before)
