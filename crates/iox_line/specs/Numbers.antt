-- Numbers, and numbers with the letter of their kind.
use Rattle.std.specs.Prelude.{ℕ, ◌+◌, ◌-◌, ◌*◌, ◌^◌, ◌<◌, Bool, ◌&&◌, ◌==◌, List, [], ◌∷◌, Option, None, Some, nat_lt, nat_le, decimal}
use Rattle.std.specs.Prelude.{if◌then◌else◌}

-- A number of 64 bits.
abbrev pub IsNumber : ℕ → Type 0
IsNumber n = n < 2 ^ 64

-- How the number of a node, factory, port, loan or sample is written: the letter of its kind, and the number.
abbrev pub tag : ℕ → ℕ → List ℕ
tag letter n = letter ∷ decimal n

-- Whether the byte is a decimal digit.
abbrev pub is_digit : ℕ → Bool
is_digit b = nat_le 48 b && nat_le b 57

-- The number that digits spell, if the digits before them spell `front`; none if a byte isn't a digit.
abbrev pub digits_from : ℕ → List ℕ → Option ℕ
digits_from front [] = Some front
digits_from front (b ∷ bs) = if is_digit b then digits_from (front * 10 + (b - 48)) bs else None

-- The number, if it is below 2^64.
abbrev pub below_limit : Option ℕ → Option ℕ
below_limit None = None
below_limit (Some n) = if nat_lt n (2 ^ 64) then Some n else None

-- The number that a word spells: one digit, or several of which the first isn't 0, below 2^64.
abbrev pub number_of : List ℕ → Option ℕ
number_of [] = None
number_of (b ∷ []) = below_limit (digits_from 0 (b ∷ []))
number_of (b ∷ c ∷ bs) = if b == 48 then None else below_limit (digits_from 0 (b ∷ c ∷ bs))

-- The number that a word spells after the letter of its kind.
abbrev pub tagged : ℕ → List ℕ → Option ℕ
tagged letter [] = None
tagged letter (b ∷ bs) = if b == letter then number_of bs else None

-- A number and what is left after it, if there is a number.
abbrev pub number_and_rest : {A : Type 0} → Option ℕ → A → Option (ℕ × A)
number_and_rest None rest = None
number_and_rest (Some n) rest = Some (n, rest)

-- The number of the first word, and the other words.
abbrev pub number_first : List (List ℕ) → Option (ℕ × List (List ℕ))
number_first [] = None
number_first (w ∷ ws) = number_and_rest (number_of w) ws

-- The number of the first word after the letter of its kind, and the other words.
abbrev pub tagged_first : ℕ → List (List ℕ) → Option (ℕ × List (List ℕ))
tagged_first letter [] = None
tagged_first letter (w ∷ ws) = number_and_rest (tagged letter w) ws
