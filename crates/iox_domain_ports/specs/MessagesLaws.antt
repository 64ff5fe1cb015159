-- Theorems about the steps of a publisher.
use Rattle.std.specs.Prelude.{ℕ, ◌+◌, ◌<◌, ◌≤◌, ◌≡◌, ◌≢◌, ◌↔◌, ◌&&◌, Bool, true, if◌then◌else◌, List, [], ◌∷◌, eqb, nat_lt, nat_le}
use Rattle.std.specs.Prelude.{slice_get, Option, Some}
use Rattle.std.specs.List.{list_any}
use Rattle.iox_domain_slots.specs.Uses.{Uses, nobody, placed, connected, connection_at, with_connection, loaned, dropped, begun, finished}
use Rattle.iox_domain_slots.specs.Uses.{segment_opened, offered, taken, given_back, ended, welcomed}
use Rattle.iox_domain_ports.specs.Messages.{Message, Loan, is_written, write_all, sent_as}
use Rattle.iox_domain_ports.specs.MessagesSending.{change_loan}
use Rattle.iox_domain_slots.specs.Counting.{times}

-- How many different numbers the list has.
abbrev pub different : List ℕ → ℕ
different [] = 0
different (number ∷ numbers) = if list_any (λ other. eqb number other) numbers then different numbers else 1 + different numbers

-- Those numbers of the list that are slots of the segment.
abbrev pub of_segment : ℕ → ℕ → List ℕ → List ℕ
of_segment first size [] = []
of_segment first size (slot ∷ slots) = if nat_le first slot && nat_lt slot (first + size) then slot
    ∷ of_segment first size slots else of_segment first size slots

-- Each slot of a segment is in use exactly if as many different slots of that segment are in use as it has slots.
abbrev pub FullExactlyIf : Type 0
FullExactlyIf = (first size : ℕ) (slots : List ℕ)
    → ((slot : ℕ) → first ≤ slot → slot < first + size → 0 < times slot slots) ↔ (different (of_segment first size slots) ≡ size)

-- The subscriber of this connection holds this message, at this place of the borrowed ones.
abbrev pub IsHeld : {L X : Type 0} → ℕ → ℕ → X → Uses L X → Type 0
IsHeld index at message uses = slice_get (connection_at index uses).borrowed at ≡ Some message

-- A message that a subscriber holds stays as it is, and at its place, through each of these steps.
pub record HeldStays (T U : Type 0) : Type 0 where
  pub loan : (index at : ℕ) (message : Message T U) (one : Loan T U) (uses : Uses (Loan T U) (Message T U))
      → IsHeld index at message uses → IsHeld index at message (loaned one uses)
  pub write : (index at : ℕ) (message : Message T U) (slot : ℕ) (change : Loan T U → Loan T U) (uses : Uses (Loan T U) (Message T U))
      → IsHeld index at message uses
      → IsHeld index at message (change_loan slot change uses)
  pub drop : (index at : ℕ) (message : Message T U) (place : ℕ) (uses : Uses (Loan T U) (Message T U)) → IsHeld index at message uses
      → IsHeld index at message (dropped place uses)
  pub begin : (index at : ℕ) (message : Message T U) (place : ℕ) (sent : Message T U) (uses : Uses (Loan T U) (Message T U))
      → IsHeld index at message uses → IsHeld index at message (begun place sent uses)
  pub finish : (index at : ℕ) (message : Message T U) (uses : Uses (Loan T U) (Message T U)) → IsHeld index at message uses
      → IsHeld index at message (finished uses)
  pub segment : (index at : ℕ) (message : Message T U) (uses : Uses (Loan T U) (Message T U)) → IsHeld index at message uses
      → IsHeld index at message (segment_opened uses)
  pub connect : (index at : ℕ) (message : Message T U) (other limit : ℕ) (uses : Uses (Loan T U) (Message T U))
      → connection_at other uses ≡ nobody → IsHeld index at message uses
      → IsHeld index at message (record uses { connections = placed other (connected limit) uses.connections })
  pub offer : (index at : ℕ) (message : Message T U) (other : ℕ) (overflows : Bool) (sent : Message T U)
      (uses : Uses (Loan T U) (Message T U)) → IsHeld index at message uses
      → IsHeld index at message (with_connection other (offered overflows sent (connection_at other uses)) uses)
  pub take : (index at : ℕ) (message : Message T U) (other : ℕ) (uses : Uses (Loan T U) (Message T U)) → IsHeld index at message uses
      → IsHeld index at message (with_connection other (taken (connection_at other uses)) uses)
  pub give_back : (index at : ℕ) (message : Message T U) (other place : ℕ) (uses : Uses (Loan T U) (Message T U)) → other ≢ index
      → IsHeld index at message uses
      → IsHeld index at message (with_connection other (given_back place (connection_at other uses)) uses)
  pub end : (index at : ℕ) (message : Message T U) (other : ℕ) (uses : Uses (Loan T U) (Message T U)) → IsHeld index at message uses
      → IsHeld index at message (with_connection other (ended (connection_at other uses)) uses)
  pub welcome : (index at : ℕ) (message : Message T U) (other : ℕ) (history : List (Message T U)) (uses : Uses (Loan T U) (Message T U))
      → IsHeld index at message uses
      → IsHeld index at message (with_connection other (welcomed history (connection_at other uses)) uses)

-- A loan whose values are written at once is completely written, and its message has just these values.
pub record WholeIsSent (T U : Type 0) : Type 0 where
  pub whole : (values : List T) (loan : Loan T U) → is_written (write_all values loan) ≡ true
  pub values : (sequence : Option ℕ) (values : List T) (loan : Loan T U) → (sent_as sequence (write_all values loan)).values ≡ values
