-- Options of the form `key=value`, in any order.
use Rattle.std.specs.Prelude.{ℕ, ◌==◌, ◌+◌, ◌≡◌, Bool, true, false, ◌&&◌, List, [], ◌∷◌, ◌++◌, Option, None, Some, if◌then◌else◌}
use Rattle.std.specs.List.{list_all}
use Rattle.std.specs.Option.{option_map}

-- The first list has the words of the second list, in any order: the first word of the second list is somewhere in it, and its other words
-- are the rest of the second list, in any order.
abbrev pub AnyOrder : List (List ℕ) → List (List ℕ) → Type 0
AnyOrder words [] = words ≡ []
AnyOrder words (w ∷ ws) = (front : List (List ℕ)) × (back : List (List ℕ)) × (words ≡ front ++ w ∷ back) × AnyOrder (front ++ back) ws

-- The words of options: for each key that has a value, the key, which ends in `=`, and the value.
abbrev pub option_words : List (List ℕ) → List (Option (List ℕ)) → List (List ℕ)
option_words [] values = []
option_words (key ∷ keys) [] = []
option_words (key ∷ keys) (None ∷ values) = option_words keys values
option_words (key ∷ keys) (Some value ∷ values) = (key ++ value) ∷ option_words keys values

-- The part of a word after the key with which it begins; none if the word doesn't begin with the key.
abbrev pub after : List ℕ → List ℕ → Option (List ℕ)
after [] word = Some word
after (k ∷ ks) [] = None
after (k ∷ ks) (b ∷ bs) = if b == k then after ks bs else None

-- The first value, if there is one, or else the second.
abbrev pub or_else : {A : Type 0} → Option A → Option A → Option A
or_else (Some a) other = Some a
or_else None other = other

-- The part after the key of the first word that begins with the key.
abbrev pub find : List ℕ → List (List ℕ) → Option (List ℕ)
find key [] = None
find key (w ∷ ws) = or_else (after key w) (find key ws)

-- The value of an option, if it is named; `None` if its text is none of its values.
abbrev pub named : {A : Type 0} → (List ℕ → Option A) → Option (List ℕ) → Option (Option A)
named of None = Some None
named of (Some text) = option_map (λ a. Some a) (of text)

-- 1 if there is a value, 0 if there is none.
abbrev pub one : {A : Type 0} → Option A → ℕ
one None = 0
one (Some a) = 1

-- How many values there are.
abbrev pub count : {A : Type 0} → List (Option A) → ℕ
count [] = 0
count (None ∷ values) = count values
count (Some value ∷ values) = 1 + count values

-- Whether two keys differ in a byte before the shorter one ends.
abbrev pub differ : List ℕ → List ℕ → Bool
differ [] other = false
differ (a ∷ as') [] = false
differ (a ∷ as') (b ∷ bs) = if a == b then differ as' bs else true

-- Whether any two of the keys differ in a byte before the shorter one ends.
abbrev pub are_apart : List (List ℕ) → Bool
are_apart [] = true
are_apart (key ∷ keys) = list_all (λ other. differ key other && differ other key) keys && are_apart keys
