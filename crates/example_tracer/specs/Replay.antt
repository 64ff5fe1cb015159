-- The script of a record.
use Rattle.std.specs.Prelude.{ℕ, ◌≡◌, Bool, true, false, List, [], ◌∷◌, ◌++◌}
use Rattle.std.specs.List.{flat_map}
use Rattle.csv.specs.Reading.{AreRecords, default_config}
use Rattle.csv.specs.declared.parser.State.TheVariants as st

-- The first column of a row.
abbrev pub line_of : List (List ℕ) → List ℕ
line_of [] = []
line_of (line ∷ others) = line

-- What a row adds to the script: its line, or nothing if it is the header.
abbrev pub added : Bool → List (List ℕ) → List ℕ
added true row = []
added false row = line_of row ++ 10 ∷ []

-- The script of a table: the lines of its rows, without the header.
abbrev pub script_of : List (List (List ℕ)) → List ℕ
script_of [] = []
script_of (header ∷ rows) = flat_map (added false) rows

-- The script is that of the table in this text.
abbrev pub IsReplay : List ℕ → List ℕ → Type 0
IsReplay text script = (rows : List (List (List ℕ))) × AreRecords default_config st.StartRecord text rows × (script ≡ script_of rows)
