-- What the slots of a publisher are used for, and what a step changes of that.
use Rattle.std.specs.Prelude.{ℕ, ◌+◌, ◌-◌, ◌*◌, ◌^◌, min, List, [], ◌∷◌, ◌++◌, length, take, set, get_or, remove, replicate, Option, None}
use Rattle.std.specs.Prelude.{Some, Bool, true, false, not, ◌&&◌, if◌then◌else◌, ◌==◌, nat_lt, nat_le}
use Rattle.iox_lanes_base.specs.QueuesSteps.Access.{successor}
use Rattle.iox_lanes_base.specs.declared.calls.publisher.PublisherChange.{PublisherChange}
use Rattle.iox_lanes_base.specs.declared.calls.publisher.PublisherChange.TheVariants.{Nothing, Lend, Mark, Remember, TakenBack, Put}
use Rattle.iox_lanes_base.specs.declared.calls.publisher.PublisherChange.TheVariants.{LeftOut, DropLoan}
use Rattle.iox_lanes_parties.specs.declared.publisher.slot_book.LoanMark.{LoanMark}
use Rattle.iox_lanes_parties.specs.declared.publisher.slot_book.LoanMark.TheVariants as mark
use Rattle.iox_lanes_parties.specs.declared.publisher.slot_book.LoanAnswer.{LoanAnswer}
use Rattle.iox_lanes_parties.specs.declared.publisher.slot_book.LoanAnswer.TheVariants as answer

-- The slots of a publisher, which begin at `first`. `out` slots are loans, of at most `most_loans`; `loans` says which slots are loans;
-- `history` are the last messages, of at most `kept`, the oldest first; `referred` says for each connection and slot whether the connection
-- has the slot; `uses` is the number of uses of each slot.
pub record BookState : Type 0 where
  pub first : ℕ
  pub most_loans : ℕ
  pub kept : ℕ
  pub out : ℕ
  pub loans : List LoanMark
  pub history : List ℕ
  pub referred : List Bool
  pub uses : List ℕ
  pub answer : Option LoanAnswer

-- The record of a publisher that uses none of its slots.
abbrev pub new_book : ℕ → ℕ → ℕ → ℕ → ℕ → BookState
new_book first slots connections most_loans kept = record {
  first = first;
  most_loans = most_loans;
  kept = kept;
  out = 0;
  loans = replicate slots mark.No;
  history = [];
  referred = replicate (connections * slots) false;
  uses = replicate slots 0;
  answer = None;
}

-- Whether the slot is one of the publisher's.
abbrev pub is_own : ℕ → BookState → Bool
is_own slot book = if nat_lt slot book.first then false else nat_lt (slot - book.first) (length book.uses)

-- Whether lanes may find this slot at the connection of this place: the slot is one of the publisher's, and the connection doesn't have it
-- yet.
abbrev pub may_have : ℕ → ℕ → BookState → Bool
may_have place slot book = is_own slot book && not (get_or book.referred (place * length book.uses + (slot - book.first)) false)

-- Whether the number is in the list.
abbrev pub stands_in : ℕ → List ℕ → Bool
stands_in slot [] = false
stands_in slot (x ∷ xs) = if x == slot then true else stands_in slot xs

-- Whether lanes may find that this slot is the newest of the history: the slot is one of the publisher's and not yet in the history, and
-- the history has fewer slots than its maximum.
abbrev pub may_remember : ℕ → BookState → Bool
may_remember slot book = is_own slot book && not (stands_in slot book.history) && nat_lt (length book.history) book.kept

-- Whether no slot has a use.
abbrev pub are_unused : List ℕ → Bool
are_unused [] = true
are_unused (count ∷ counts) = if count == 0 then are_unused counts else false

-- Whether the publisher may be reduced to its first `slots` slots: it has at least this many, and none of its slots is used.
abbrev pub may_resize : ℕ → BookState → Bool
may_resize slots book = nat_le slots (length book.uses) && are_unused book.uses

-- The publisher has only its first `slots` slots, a row of `slots` marks for each of its connections, and this loan limit.
abbrev pub resized : ℕ → ℕ → ℕ → BookState → BookState
resized connections slots most_loans book = record book {
  most_loans = most_loans;
  loans = take slots book.loans;
  referred = take (connections * slots) book.referred;
  uses = take slots book.uses;
}

-- The list with another value at this place; unchanged beyond the end.
abbrev pub put_at : {X : Type 0} → List X → ℕ → X → List X
put_at list at value = if nat_lt at (length list) then set list at value else list

-- The list with one more at this place.
abbrev pub counted_up : List ℕ → ℕ → List ℕ
counted_up list at = put_at list at (successor (get_or list at 0))

-- The list with one fewer at this place.
abbrev pub counted_down : List ℕ → ℕ → List ℕ
counted_down list at = put_at list at (get_or list at 0 - 1)

-- The first place without a use; the list's first place has the number `at`.
abbrev pub first_free : List ℕ → ℕ → Option ℕ
first_free [] at = None
first_free (count ∷ counts) at = if count == 0 then Some at else first_free counts (at + 1)

-- The number in the service of a publisher's slot, at most 2^64 - 1.
abbrev pub number_in : ℕ → ℕ → ℕ
number_in first index = min (first + index) (2 ^ 64 - 1)

-- Whether a slot of the service is a loan of this publisher, and whether it is written.
abbrev pub loan_of : ℕ → BookState → LoanMark
loan_of slot book = if nat_lt slot book.first then mark.No else get_or book.loans (slot - book.first) mark.No

-- The free slot is loaned, if there is one; otherwise the answer is `OutOfMemory`.
abbrev pub lent_from : BookState → Option ℕ → BookState
lent_from book None = record book { answer = Some answer.OutOfMemory }
lent_from book (Some index) = record book {
  loans = put_at book.loans index mark.Lent;
  uses = counted_up book.uses index;
  out = successor book.out;
  answer = Some (answer.Slot (number_in book.first index));
}

-- A free slot is loaned, if the publisher is below its loan limit; otherwise the answer is `ExceedsMaxLoans`.
abbrev pub lent : BookState → BookState
lent book = if nat_lt book.out book.most_loans then lent_from book (first_free book.uses 0) else record book
    { answer = Some answer.ExceedsMaxLoans }

-- The loan is written.
abbrev pub marked : ℕ → BookState → BookState
marked slot book = record book { loans = put_at book.loans (slot - book.first) mark.Written }

-- The slot isn't a loan any longer.
abbrev pub unlent : ℕ → BookState → BookState
unlent slot book = record book { loans = put_at book.loans (slot - book.first) mark.No; out = book.out - 1 }

-- The slot that lanes found is the newest of the history.
abbrev pub found_newest : ℕ → BookState → BookState
found_newest slot book = record book { history = book.history ++ slot ∷ []; uses = counted_up book.uses (slot - book.first) }

-- The slot has one use less.
abbrev pub unused : ℕ → BookState → BookState
unused slot book = record book { uses = counted_down book.uses (slot - book.first) }

-- The loan is dropped.
abbrev pub dropped : ℕ → BookState → BookState
dropped slot book = unused slot (unlent slot book)

-- The slot is the newest of the history, which first loses its oldest one if it is full.
abbrev pub newest_of : ℕ → BookState → BookState
newest_of slot book =
    if nat_lt (length book.history) book.kept
    then record book { history = book.history ++ slot ∷ [] }
    else record book { history = remove book.history 0 ++ slot ∷ []; uses = counted_down book.uses (get_or book.history 0 0 - book.first) }

-- The loan becomes the newest of the history, or is dropped if no history is kept.
abbrev pub remembered : ℕ → BookState → BookState
remembered slot book = if nat_lt 0 book.kept then newest_of slot (unlent slot book) else dropped slot book

-- The connection at this place has the slot.
abbrev pub referred_at : ℕ → ℕ → BookState → BookState
referred_at place slot book = record book {
  referred = put_at book.referred (place * length book.uses + (slot - book.first)) true;
  uses = counted_up book.uses (slot - book.first);
}

-- The connection at this place doesn't have the slot any longer.
abbrev pub unreferred_at : ℕ → ℕ → BookState → BookState
unreferred_at place slot book = record book {
  referred = put_at book.referred (place * length book.uses + (slot - book.first)) false;
  uses = counted_down book.uses (slot - book.first);
}

-- The uses of the slots after this change.
abbrev pub changed : PublisherChange → BookState → BookState
changed Nothing book = book
changed Lend book = lent book
changed (Mark slot) book = marked slot book
changed (Remember slot) book = remembered slot book
changed (TakenBack place slot) book = unreferred_at place slot book
changed (Put place slot) book = referred_at place slot book
changed (LeftOut place slot) book = unreferred_at place slot book
changed (DropLoan slot) book = dropped slot book
