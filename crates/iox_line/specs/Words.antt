-- The words of a line.
use Rattle.std.specs.Prelude.{ℕ, ◌+◌, ◌==◌, ◌&&◌, Bool, true, false, not, List, [], ◌∷◌, Option, None, Some, nat_eq, if◌then◌else◌}
use Rattle.std.specs.Prelude.{◌≡◌}
use Rattle.std.specs.List.{list_all}
use Rattle.std.specs.Cmp.Lexicographic.{pointwise}
use Rattle.std.specs.Str.{byte}

-- Whether no byte of the text is this one.
abbrev pub lacks : ℕ → List ℕ → Bool
lacks byte text = list_all (λ b. not (b == byte)) text

-- Whether no byte of the word is a space.
abbrev pub has_no_space : List ℕ → Bool
has_no_space word = lacks (byte " ") word

-- The pieces with a byte in front of the first.
abbrev pub onto_first : ℕ → List (List ℕ) → List (List ℕ)
onto_first b [] = (b ∷ []) ∷ []
onto_first b (piece ∷ pieces) = (b ∷ piece) ∷ pieces

-- The pieces of a text between separators: one more than there are separators.
abbrev pub pieces_of : ℕ → List ℕ → List (List ℕ)
pieces_of separator [] = [] ∷ []
pieces_of separator (b ∷ bs) = if b == separator then [] ∷ pieces_of separator bs else onto_first b (pieces_of separator bs)

-- The words of a line: its pieces between spaces.
abbrev pub words_of : List ℕ → List (List ℕ)
words_of line = pieces_of (byte " ") line

-- The pieces of the rest of a text, if there is a rest.
abbrev pub pieces_left : ℕ → Option (List ℕ) → List (List ℕ)
pieces_left separator None = []
pieces_left separator (Some text) = pieces_of separator text

-- The text before the first separator; all of it, if there is none.
abbrev pub before : ℕ → List ℕ → List ℕ
before separator [] = []
before separator (b ∷ bs) = if b == separator then [] else b ∷ before separator bs

-- The text after the first separator, if there is one.
abbrev pub beyond : ℕ → List ℕ → Option (List ℕ)
beyond separator [] = None
beyond separator (b ∷ bs) = if b == separator then Some bs else beyond separator bs

-- Whether the first byte is this one.
abbrev pub begins : ℕ → List ℕ → Bool
begins mark [] = false
begins mark (b ∷ bs) = b == mark

-- The place of the first separator that the mark follows, counted from `n`.
abbrev pub marked_from : ℕ → ℕ → ℕ → List ℕ → Option ℕ
marked_from mark separator n [] = None
marked_from mark separator n (b ∷ bs) = if b == separator && begins mark bs then Some n else marked_from mark separator (n + 1) bs

-- The words before the first one that begins with this byte.
abbrev pub front : ℕ → List (List ℕ) → List (List ℕ)
front mark [] = []
front mark (w ∷ ws) = if begins mark w then [] else w ∷ front mark ws

-- The words from the first one on that begins with this byte.
abbrev pub back : ℕ → List (List ℕ) → List (List ℕ)
back mark [] = []
back mark (w ∷ ws) = if begins mark w then w ∷ ws else back mark ws

-- Whether there are no words.
abbrev pub no_words : List (List ℕ) → Bool
no_words [] = true
no_words (w ∷ ws) = false

-- Whether the word is this text, byte by byte.
abbrev pub same : List ℕ → List ℕ → Bool
same word text = pointwise nat_eq word text

-- The value of the first row whose text is the word.
abbrev pub choice : {A : Type 0} → List (List ℕ × A) → List ℕ → Option A
choice [] word = None
choice (row ∷ rows) word = if same word row.0 then Some row.1 else choice rows word

-- Each row has its value's text.
abbrev pub AreWritten : {A : Type 0} → (A → List ℕ) → List (List ℕ × A) → Type 0
AreWritten text [] = Unit {0}
AreWritten text (row ∷ rows) = (row.0 ≡ text row.1) × AreWritten text rows
