-- What waits in a connection: a list of at most `capacity` messages, the oldest first.
use Rattle.std.specs.Prelude.{ℕ, List, ◌∷◌, [], ◌++◌, length, drop, if◌then◌else◌, nat_lt}

-- The list after `value` was appended; a full list is unchanged.
abbrev pub put : {T : Type 0} → ℕ → List T → T → List T
put capacity waiting value =
    if nat_lt (length waiting) capacity then waiting ++ value ∷ [] else waiting

-- The list after `value` was appended; a full list drops its oldest element for it.
abbrev pub put_over : {T : Type 0} → ℕ → List T → T → List T
put_over capacity waiting value =
    if nat_lt (length waiting) capacity then waiting ++ value ∷ [] else drop 1 (waiting ++ value ∷ [])
