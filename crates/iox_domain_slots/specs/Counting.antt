-- How often each slot is used, and what relates the counts of uses to the lists that they count.
use Rattle.std.specs.Prelude.{ℕ, ◌+◌, ◌-◌, ◌<◌, ◌≤◌, ◌≡◌, List, [], ◌∷◌, ◌++◌, length, get_or, set, count_by, eqb, Option, None, Some}
use Rattle.iox_domain_slots.specs.Uses.{Uses, in_use, loaned}

-- How often `slot` occurs in the list `slots`.
abbrev pub times : ℕ → List ℕ → ℕ
times slot slots = count_by (λ other. eqb slot other) slots

-- The bookkeeping of a publisher's slots. `references` has the number of uses of each slot of every segment.
pub record SlotsState : Type 0 where
  pub first : ℕ
  pub size : ℕ
  pub most_loans : ℕ
  pub kept : ℕ
  pub references : List ℕ
  pub loans : List ℕ
  pub history : List ℕ

-- How many uses the slot has.
abbrev pub uses_of : ℕ → SlotsState → ℕ
uses_of slot slots = get_or slots.references slot 0

-- The slot belongs to the current segment.
abbrev pub IsCurrent : ℕ → SlotsState → Type 0
IsCurrent slot slots = (slots.first ≤ slot) × (slot < slots.first + slots.size)

-- The bookkeeping after the slot got one more use.
abbrev pub referred : ℕ → SlotsState → SlotsState
referred slot slots = record slots { references = set slots.references slot (uses_of slot slots + 1) }

-- The bookkeeping after the slot lost one use.
abbrev pub let_go : ℕ → SlotsState → SlotsState
let_go slot slots = record slots { references = set slots.references slot (uses_of slot slots - 1) }

-- A loan takes any slot of the current segment that has no use, counts one use of it, and appends it to the loans. It answers
-- None, and changes nothing, exactly if each of them has a use.
abbrev pub LoanSlot : SlotsState → Option ℕ → SlotsState → Type 0
LoanSlot old None new = ((slot : ℕ) → IsCurrent slot old → 0 < uses_of slot old) × (new ≡ old)
LoanSlot old (Some slot) new =
    IsCurrent slot old × (slot < length old.references) × (uses_of slot old ≡ 0)
    × (new ≡ record (referred slot old) { loans = old.loans ++ slot ∷ [] })

-- Only the counts changed: each slot has as many more uses as it occurs more often in `after` than in `before`.
pub record Moves (old : SlotsState) (before : List ℕ) (new : SlotsState) (after : List ℕ) : Type 0 where
  pub same : new ≡ record old { references = new.references }
  pub length : length new.references ≡ length old.references
  pub moved : (slot : ℕ) → uses_of slot new + times slot before ≡ uses_of slot old + times slot after

-- The uses of each slot that are counted include its occurrences among the loans, in the history and in the list `further`.
abbrev pub Covers : SlotsState → List ℕ → Type 0
Covers slots further = (slot : ℕ) → times slot slots.loans + (times slot slots.history + times slot further) ≤ uses_of slot slots

-- A loan takes any slot of the current segment that isn't in use, and appends it to the loans. It answers None, and changes
-- nothing, exactly if each of them is in use.
abbrev pub LoanUse : Uses ℕ ℕ → Option ℕ → Uses ℕ ℕ → Type 0
LoanUse old None new = ((slot : ℕ) → old.first ≤ slot → slot < old.first + old.size → 0 < times slot (in_use old)) × (new ≡ old)
LoanUse old (Some slot) new =
    (old.first ≤ slot) × (slot < old.first + old.size) × (times slot (in_use old) ≡ 0) × (new ≡ loaned slot old)
