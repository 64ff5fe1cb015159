-- Tables of values, from which step machines take a value by its number; each value is a list of words.
use Rattle.std.specs.Prelude.{ℕ, Option, Some, None, List, [], slice_get, vec_items}
use Rattle.std.specs.Global.{Vec}

-- The words of a value, or none if the value doesn't exist.
abbrev pub words_if_there : Option (Vec ℕ) → List ℕ
words_if_there None = []
words_if_there (Some words) = vec_items words

-- The words of the value with this number in the table, or none if the table has no such value.
abbrev pub table_value : List (Vec ℕ) → ℕ → List ℕ
table_value values number = words_if_there (slice_get values number)
