-- Messages and loans by their contents.
use Rattle.std.specs.Prelude.{ℕ, Bool, List, [], ◌∷◌, map, set, replicate, is_some, Option, None, Some}
use Rattle.std.specs.List.{list_all}

-- A message: its slot, in which no other message in use is; the sequence number that its send gave it, if messages are
-- numbered; its number of elements, its user header and its values.
pub record Message (T U : Type 0) : Type 0 where
  pub slot : ℕ
  pub sequence : Option ℕ
  pub elements : ℕ
  pub user_header : U
  pub values : List T

-- A loan: it has no sequence number, and some of its values may not be written yet.
pub record Loan (T U : Type 0) : Type 0 where
  pub slot : ℕ
  pub elements : ℕ
  pub user_header : U
  pub values : List (Option T)

-- The values that are written, in their order.
abbrev pub written_of : {T : Type 0} → List (Option T) → List T
written_of [] = []
written_of (None ∷ values) = written_of values
written_of (Some value ∷ values) = value ∷ written_of values

-- Whether each value of the loan is written.
abbrev pub is_written : {T U : Type 0} → Loan T U → Bool
is_written loan = list_all is_some loan.values

-- The message that a written loan becomes if its send gives it this sequence number.
abbrev pub sent_as : {T U : Type 0} → Option ℕ → Loan T U → Message T U
sent_as sequence loan = record {
  slot = loan.slot;
  sequence = sequence;
  elements = loan.elements;
  user_header = loan.user_header;
  values = written_of loan.values;
}

-- A new loan, of which no value is written.
abbrev pub new_loan : {T U : Type 0} → ℕ → ℕ → ℕ → U → Loan T U
new_loan slot values elements user_header
    = record { slot = slot; elements = elements; user_header = user_header; values = replicate values None }

-- The loan after the value at this place was written.
abbrev pub write_value : {T U : Type 0} → ℕ → T → Loan T U → Loan T U
write_value place value loan = record loan { values = set loan.values place (Some value) }

-- The loan after all its values were replaced by these.
abbrev pub write_all : {T U : Type 0} → List T → Loan T U → Loan T U
write_all values loan = record loan { values = map Some values }

-- The loan with this user header.
abbrev pub write_user_header : {T U : Type 0} → U → Loan T U → Loan T U
write_user_header user_header loan = record loan { user_header = user_header }
