-- What a publisher's call that no other call overlaps leaves.
use Rattle.std.specs.Prelude.{ℕ, ◌≡◌, ◌+◌, ◌-◌, ◌<◌, ◌^◌, ◌↔◌, ◌||◌, not, Bool, false, nat_lt, List, [], ◌∷◌, ◌++◌, length, drop}
use Rattle.std.specs.Prelude.{count_by, slice_get, Option, Some, None}
use Rattle.iox_lanes_machine.specs.QueuesSteps.Order.{after_put}
use Rattle.iox_lanes_machine.specs.QueuesSteps.Ends.{overflows}
use Rattle.iox_lanes_machine.specs.LanesBase.declared.calls.publisher.Delivery.{Delivery}
use Rattle.iox_lanes_machine.specs.LanesBase.declared.calls.route.Route.{Route}
use Rattle.iox_lanes_machine.specs.LanesParties.PublisherKeeping.{loan_of}
use Rattle.iox_lanes_machine.specs.LanesParties.declared.publisher.slot_book.LoanAnswer.{LoanAnswer}
use Rattle.iox_lanes_machine.specs.LanesParties.declared.publisher.slot_book.LoanAnswer.TheVariants as loan
use Rattle.iox_lanes_machine.specs.LanesParties.declared.publisher.slot_book.LoanMark.TheVariants as mark
use Rattle.iox_lanes_machine.specs.LanesParties.Parties.{PublisherLaneState, is_out, name_of}
use Rattle.iox_lanes_machine.specs.LanesParties.SendAnswers.{send_answer}
use Rattle.iox_lanes_machine.specs.LanesParties.declared.call.Answer.TheVariants as answer
use Rattle.iox_lanes_machine.specs.LanesParties.declared.call.Call.TheVariants as call
use Rattle.iox_lanes_machine.specs.LanesParties.declared.call.Call.{Call}
use Rattle.iox_lanes_machine.specs.LanesParties.declared.call.CallName.TheVariants as name
use Rattle.iox_lanes_machine.specs.LanesParties.declared.call.Party.TheVariants.{Publisher}
use Rattle.iox_lanes_machine.specs.LedgerRooms.{loans_out}
use Rattle.iox_lanes_machine.specs.LedgerUses.{IsOwn}
use Rattle.iox_lanes_machine.specs.FullLoans.{IsInUse}
use Rattle.iox_lanes_machine.specs.Links.{LinkState}
use Rattle.iox_lanes_machine.specs.Resting.{mail_at}
use Rattle.iox_lanes_machine.specs.World.{World}
use Rattle.iox_lanes_laws.specs.Turns.{IsInTurn, IsAnswered, MailStays}

-- Each publisher other than the one at this place, and each subscriber, is as it was.
pub record OnlyPublisher (m : World) (place : ℕ) (n : World) : Type 0 where
  pub publishers : (other : ℕ) → (other ≡ place → ⊥) → slice_get n.publishers other ≡ slice_get m.publishers other
  pub subscribers : n.subscribers ≡ m.subscribers

-- Whether the slot is a loan of the publisher.
abbrev pub is_loan : PublisherLaneState → ℕ → Bool
is_loan lane slot = is_out (loan_of slot lane.port.book)

-- Each other slot is what it was: no loan, a loan, or a written loan.
abbrev pub OtherMarksStay : PublisherLaneState → ℕ → PublisherLaneState → Type 0
OtherMarksStay before slot after = (other : ℕ) → (other ≡ slot → ⊥) → loan_of other after.port.book ≡ loan_of other before.port.book

-- The slot isn't a loan any longer, and each other slot is what it was.
pub record LoanEnds (before after : PublisherLaneState) (slot : ℕ) : Type 0 where
  pub ended : is_loan after slot ≡ false
  pub others : OtherMarksStay before slot after

-- The history is as it was.
abbrev pub HistoryStays : PublisherLaneState → PublisherLaneState → Type 0
HistoryStays before after = after.port.book.history ≡ before.port.book.history

-- Each slot of the publisher is in use.
abbrev pub AllInUse : World → PublisherLaneState → Type 0
AllInUse m lane = (slot : ℕ) → IsOwn lane.port.book slot → IsInUse m lane slot

-- A loan is refused exactly if the publisher has as many loans as its loan limit allows. It finds no slot exactly if the publisher has
-- fewer loans and each of its slots is in use. The slot that it gets was the publisher's and not in use, and is an unwritten loan from then
-- on. Each other slot is what it was.
pub record Lends (m : World) (before : PublisherLaneState) (given : LoanAnswer) (after : PublisherLaneState) : Type 0 where
  pub refused : given ≡ loan.ExceedsMaxLoans ↔ loans_out before.port.book ≡ before.port.book.most_loans
  pub lacks : given ≡ loan.OutOfMemory ↔ (loans_out before.port.book < before.port.book.most_loans) × AllInUse m before
  pub gives : (slot : ℕ) → given ≡ loan.Slot slot
      → IsOwn before.port.book slot × (IsInUse m before slot → ⊥) × (loan_of slot after.port.book ≡ mark.Lent)
  pub others : (slot : ℕ) → (given ≡ loan.Slot slot → ⊥) → loan_of slot after.port.book ≡ loan_of slot before.port.book

-- The last `most` slots of the list, or all if there are fewer.
abbrev pub newest : ℕ → List ℕ → List ℕ
newest most slots = drop (length slots - most) slots

-- Whether there is a connection, and it takes one more message: its ring overflows, or fewer messages wait than its maximum.
abbrev pub takes_in : Option LinkState → List ℕ → Bool
takes_in None waiting = false
takes_in (Some link) waiting = overflows link.kind || nat_lt (length waiting) link.limit

-- Whether the connection of this route takes one more message.
abbrev pub route_takes : World → Route → Bool
route_takes m route = takes_in (slice_get m.links route.connection) (mail_at m route.connection)

-- A send puts its slot into the mailbox of each connection of its publisher and into no other. Its delivery counts how many mailboxes took
-- the slot, and how many didn't. The slot isn't a loan any longer, and is the newest of the history, which drops its oldest slot if it
-- would be too long.
pub record Sends (m : World) (place slot : ℕ) (before : PublisherLaneState) (delivery : Delivery) (n : World)
    (after : PublisherLaneState) : Type 0 where
  pub put : (connection : ℕ) (link : LinkState) → slice_get m.links connection ≡ Some link → link.publisher ≡ place
      → mail_at n connection ≡ after_put (overflows link.kind) link.limit (mail_at m connection) slot
  pub elsewhere : (connection : ℕ) (link : LinkState) → slice_get m.links connection ≡ Some link → (link.publisher ≡ place → ⊥)
      → mail_at n connection ≡ mail_at m connection
  pub taken : delivery.taken ≡ count_by (route_takes m) before.port.routes
  pub refused : delivery.refused ≡ count_by (λ route. not (route_takes m route)) before.port.routes
  pub loans : LoanEnds before after slot
  pub history : after.port.book.history ≡ newest before.port.book.kept (before.port.book.history ++ slot ∷ [])

-- A loan that no other call overlaps ends as `Lends` says, for slots with numbers less than 2^64.
abbrev pub LoansInTurn : Type 0
LoansInTurn = (m n : World) (place : ℕ) (before after : PublisherLaneState) → IsInTurn m (Publisher place) call.LoanUninit n
    → slice_get m.publishers place ≡ Some before → slice_get n.publishers place ≡ Some after
    → before.port.book.first + length before.port.book.loans < 2 ^ 64
    → (given : LoanAnswer) × IsAnswered m (Publisher place) call.LoanUninit (answer.Lent given) n × OnlyPublisher m place n
    × MailStays m n × HistoryStays before after × Lends m before given after

-- A send that no other call overlaps ends as `Sends` says. Its answer is `UnableToDeliver` exactly if its publisher's sends fail at a full
-- mailbox and some connection refused the message.
abbrev pub SendsInTurn : Type 0
SendsInTurn = (m n : World) (place slot : ℕ) (before after : PublisherLaneState) → IsInTurn m (Publisher place) (call.Send slot) n
    → slice_get m.publishers place ≡ Some before → slice_get n.publishers place ≡ Some after
    → (delivery : Delivery) × IsAnswered m (Publisher place) (call.Send slot) (answer.Sent (send_answer before.fails delivery)) n
    × OnlyPublisher m place n × Sends m place slot before delivery n after

-- After the dropping of a loan that no other call overlaps, the slot isn't a loan any longer; nothing else changes.
abbrev pub DropsInTurn : Type 0
DropsInTurn = (m n : World) (place slot : ℕ) (before after : PublisherLaneState) → IsInTurn m (Publisher place) (call.DropLoan slot) n
    → slice_get m.publishers place ≡ Some before → slice_get n.publishers place ≡ Some after
    → IsAnswered m (Publisher place) (call.DropLoan slot) answer.Dropped n × OnlyPublisher m place n × MailStays m n
    × HistoryStays before after × LoanEnds before after slot

-- After a write that no other call overlaps, its loan is written, and each other slot is what it was.
abbrev pub WritesInTurn : Type 0
WritesInTurn = (m n : World) (place slot : ℕ) (c : Call) (before after : PublisherLaneState) → name_of c ≡ name.Write slot
    → IsInTurn m (Publisher place) c n → slice_get m.publishers place ≡ Some before → slice_get n.publishers place ≡ Some after
    → IsAnswered m (Publisher place) c answer.Written n × OnlyPublisher m place n × MailStays m n × HistoryStays before after
    × OtherMarksStay before slot after × (loan_of slot after.port.book ≡ mark.Written)
