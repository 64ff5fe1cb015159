-- The loans of a publisher, by the slots that they are in.
use Rattle.std.specs.Prelude.{ℕ, List, ◌==◌}
use Rattle.std.specs.List.{position_or_len}

-- The slots of the loans, the oldest first; how many slots were made, among which are those of the loans; and for how many
-- slots memory was allocated at the start.
pub record LoansState : Type 0 where
  pub items : List ℕ
  pub made : ℕ
  pub room : ℕ

-- The place at which `slot` first occurs in `slots`, or their length if it doesn't occur.
abbrev pub place_in : ℕ → List ℕ → ℕ
place_in slot slots = position_or_len (λ other. other == slot) slots
