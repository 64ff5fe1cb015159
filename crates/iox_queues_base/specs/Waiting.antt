-- What a queue is to its caller: a list of at most `capacity` values, oldest first.
use Rattle.std.specs.Prelude.{ℕ, List, ◌∷◌, [], ◌++◌, length, drop, if◌then◌else◌, nat_lt, slice_get, Option, None}

-- The waiting numbers, oldest first, and the capacity.
pub record Bounded : Type 0 where
  pub waiting : List ℕ
  pub capacity : ℕ

-- The list after a put: the value is appended, or the list stays as it was if it is full.
abbrev pub put : {T : Type 0} → ℕ → List T → T → List T
put capacity waiting value =
    if nat_lt (length waiting) capacity then waiting ++ value ∷ [] else waiting

-- The list after an overflowing put: the value is appended, and if the list was full, the oldest value is removed.
abbrev pub put_over : {T : Type 0} → ℕ → List T → T → List T
put_over capacity waiting value =
    if nat_lt (length waiting) capacity then waiting ++ value ∷ [] else drop 1 (waiting ++ value ∷ [])

-- The value that an overflowing put removes: the oldest one, exactly if the list was full.
abbrev pub left_out : {T : Type 0} → ℕ → List T → T → Option T
left_out capacity waiting value =
    if nat_lt (length waiting) capacity then None else slice_get (waiting ++ value ∷ []) 0
