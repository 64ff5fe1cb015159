-- From where on a slot without a use is searched.
use Rattle.std.specs.Prelude.{ℕ, ◌<◌, ◌==◌, ◌&&◌, List, length, get_or, nat_lt, if◌then◌else◌}

-- The number of uses of each slot, and the slot where a search for one without a use begins.
pub record UseCountsState : Type 0 where
  pub counts : List ℕ
  pub mark : ℕ

-- Each slot below the mark has a use.
abbrev pub AreUsedBelow : ℕ → List ℕ → Type 0
AreUsedBelow mark counts = (slot : ℕ) → slot < mark → slot < length counts → 0 < get_or counts slot 0

-- The mark after this slot has one use less: the slot if it is below the mark and has no use any longer; otherwise the mark stays.
abbrev pub mark_after : List ℕ → ℕ → ℕ → ℕ
mark_after counts slot mark = if nat_lt slot mark && (get_or counts slot 1 == 0) then slot else mark
