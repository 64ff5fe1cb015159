-- The slots that a subscriber has borrowed from one connection, by the cells that they lie in.
use Rattle.std.specs.Prelude.{ℕ, ◌≡◌, ◌+◌, ◌-◌, ◌<◌, ◌≤◌, ◌%◌, List, get_or, map, nat_lt, true, if◌then◌else◌}
use Rattle.iox_container.specs.Unique.{is_among}
use Rattle.iox_domain_slots.specs.Loans.{place_in}

-- The borrowed slots, the oldest first, and the maximum number of cells.
pub record BorrowedState : Type 0 where
  pub items : List ℕ
  pub cells : ℕ

-- The cell `step` places after cell `home` of `cells` cells; the first cell follows the last.
abbrev pub cell_behind : ℕ → ℕ → ℕ → ℕ
cell_behind cells home step = if nat_lt step (cells - home) then home + step else step - (cells - home)

-- The cell `step` places after the cell that slot number `slot` names, which is the remainder of `slot` by `cells`.
abbrev pub cell_of : ℕ → ℕ → ℕ → ℕ
cell_of cells slot step = cell_behind cells (slot % cells) step

-- The slots that lie in these cells, in the order of the list.
abbrev pub slots_in : List ℕ → List ℕ → List ℕ
slots_in slots cells = map (λ cell. get_or slots cell 0) cells

-- The taken cell `cell` contains `slot`, and of the cells that contain it this one was taken first.
pub record IsOldest (slots order : List ℕ) (slot cell : ℕ) : Type 0 where
  pub taken : is_among cell order ≡ true
  pub same : get_or slots cell 0 ≡ slot
  pub oldest : place_in slot (slots_in slots order) ≡ place_in cell order

-- Each taken cell lies at most `reach` steps after the cell that the number of its slot names.
abbrev pub IsNear : ℕ → List ℕ → List ℕ → ℕ → Type 0
IsNear cells slots order reach = (cell : ℕ) → is_among cell order ≡ true
    → (step : ℕ) × (step ≤ reach) × (cell ≡ cell_of cells (get_or slots cell 0) step)

-- No two taken cells contain the same slot.
abbrev pub IsOnce : List ℕ → List ℕ → Type 0
IsOnce slots order = (cell other : ℕ) → is_among cell order ≡ true → is_among other order ≡ true
    → get_or slots cell 0 ≡ get_or slots other 0 → cell ≡ other

-- Each taken cell below `count` is within the reach of its slot, as `IsNear` says of all taken cells.
abbrev pub IsNearBelow : ℕ → List ℕ → List ℕ → ℕ → ℕ → Type 0
IsNearBelow cells slots order reach count = (cell : ℕ) → cell < count → is_among cell order ≡ true
    → (step : ℕ) × (step ≤ reach) × (cell ≡ cell_of cells (get_or slots cell 0) step)
