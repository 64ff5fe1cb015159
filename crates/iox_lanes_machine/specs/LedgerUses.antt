-- What the slots of a publisher are used for: as a loan, in its history, at its connections.
use Rattle.std.specs.Prelude.{ℕ, zero, suc, ◌≡◌, ◌+◌, ◌-◌, ◌*◌, ◌<◌, ◌≤◌, ◌^◌, ◌==◌, Bool, true, false, nat_lt, if◌then◌else◌, List, []}
use Rattle.std.specs.Prelude.{◌∷◌, length, get_or}
use Rattle.iox_lanes_parties.specs.LanesBase.declared.calls.publisher.PublisherChange.{PublisherChange}
use Rattle.iox_lanes_parties.specs.LanesBase.declared.calls.publisher.PublisherChange.TheVariants.{Nothing, Lend, Mark, Remember}
use Rattle.iox_lanes_parties.specs.LanesBase.declared.calls.publisher.PublisherChange.TheVariants.{TakenBack, Put, LeftOut, DropLoan}
use Rattle.iox_lanes_parties.specs.PublisherKeeping.{BookState, changed}
use Rattle.iox_lanes_parties.specs.declared.publisher.slot_book.LoanMark.{LoanMark}
use Rattle.iox_lanes_parties.specs.declared.publisher.slot_book.LoanMark.TheVariants as mark
use Rattle.iox_lanes_parties.specs.Parties.{is_out}

-- One if the test holds, otherwise 0.
abbrev pub one_if : Bool → ℕ
one_if true = 1
one_if false = 0

-- How often the number is in the list.
abbrev pub count : ℕ → List ℕ → ℕ
count value [] = 0
count value (x ∷ xs) = one_if (x == value) + count value xs

-- The number of the first `places` places at which the test holds.
abbrev pub total : (ℕ → Bool) → ℕ → ℕ
total test zero = 0
total test (suc places) = total test places + one_if (test places)

-- The list's value for a slot, if a publisher's slots begin at `first` and the list has one value for each; `none` for any other slot.
abbrev pub entry : {X : Type 0} → ℕ → List X → ℕ → X → X
entry first list slot none = if nat_lt slot first then none else get_or list (slot - first) none

-- Whether the connection at this place has the slot, if `referred` has a row of `width` marks for each connection.
abbrev pub refers : ℕ → ℕ → List Bool → ℕ → ℕ → Bool
refers first width referred place slot =
    if nat_lt slot first then false
    else if nat_lt (slot - first) width then get_or referred (place * width + (slot - first)) false
    else false

-- The number of connections that have the slot.
abbrev pub references : ℕ → ℕ → List Bool → ℕ → ℕ → ℕ
references first width referred connections slot = total (λ place. refers first width referred place slot) connections

-- A slot has one use as a loan, one in the history and one at each connection that has it. It is in the history at most once; a loan is
-- neither in the history nor at a connection.
pub record IsCounted (uses : ℕ) (loan : Bool) (history references : ℕ) : Type 0 where
  pub counted : uses ≡ one_if loan + history + references
  pub once : history ≤ 1
  pub alone : loan ≡ true → (history ≡ 0) × (references ≡ 0)

-- The uses of each of `slots` slots are counted as `IsCounted` says, and the publisher has fewer than 2^62 connections.
pub record AreCounted (connections first slots : ℕ) (loans : List LoanMark) (history : List ℕ) (referred : List Bool) (uses : List ℕ) :
    Type 0 where
  pub loans_each : length loans ≡ slots
  pub uses_each : length uses ≡ slots
  pub rows : length referred ≡ connections * slots
  pub few : connections < 2 ^ 62
  pub each : (slot : ℕ) → IsCounted (entry first uses slot 0) (is_out (entry first loans slot mark.No)) (count slot history)
      (references first slots referred connections slot)

-- A publisher with this many connections counts the uses of its slots.
abbrev pub UsesCounted : ℕ → BookState → Type 0
UsesCounted connections book = AreCounted connections book.first (length book.uses) book.loans book.history book.referred book.uses

-- Whether the connection at this place has the slot, by the publisher's own record.
abbrev pub refers_to : BookState → ℕ → ℕ → Bool
refers_to book place slot = refers book.first (length book.uses) book.referred place slot

-- The slot is one of the publisher's.
pub record IsOwn (book : BookState) (slot : ℕ) : Type 0 where
  pub above : book.first ≤ slot
  pub below : slot < book.first + length book.uses

-- The connection at this place has the slot.
pub record IsReferred (connections : ℕ) (book : BookState) (place slot : ℕ) : Type 0 where
  pub there : place < connections
  pub has : refers_to book place slot ≡ true

-- The connection at this place may be given the slot: the slot is one of the publisher's, isn't a loan, and isn't there yet.
pub record MayBeReferred (connections : ℕ) (book : BookState) (place slot : ℕ) : Type 0 where
  pub there : place < connections
  pub own : IsOwn book slot
  pub lacks : refers_to book place slot ≡ false
  pub not_out : is_out (entry book.first book.loans slot mark.No) ≡ false

-- The change fits: only a loan is written, remembered or dropped, a connection is given only a slot that it doesn't have, and loses only
-- one that it has.
abbrev pub ChangeFits : ℕ → BookState → PublisherChange → Type 0
ChangeFits connections book Nothing = Unit {0}
ChangeFits connections book Lend = Unit {0}
ChangeFits connections book (Mark slot) = is_out (entry book.first book.loans slot mark.No) ≡ true
ChangeFits connections book (Remember slot) = is_out (entry book.first book.loans slot mark.No) ≡ true
ChangeFits connections book (TakenBack place slot) = IsReferred connections book place slot
ChangeFits connections book (Put place slot) = MayBeReferred connections book place slot
ChangeFits connections book (LeftOut place slot) = IsReferred connections book place slot
ChangeFits connections book (DropLoan slot) = is_out (entry book.first book.loans slot mark.No) ≡ true

-- After a change that fits, the uses are still counted.
abbrev pub ChangesKeepCount : Type 0
ChangesKeepCount = (connections : ℕ) (book : BookState) (change : PublisherChange) → ChangeFits connections book change
    → UsesCounted connections book → UsesCounted connections (changed change book)
