-- What is true of each port of a list.
use Rattle.std.specs.Prelude.{ℕ, ◌+◌, ◌==◌, ◌&&◌, Bool, true, false, List, [], ◌∷◌, Option, None, Some}
use Rattle.iox_domain.specs.Container.declared.container.Member.{Member}

-- Whether the test holds for a place and who is listed there; it holds for a place where nobody is listed.
abbrev pub holds_at : {V : Type 0} → (ℕ → V → Bool) → ℕ → Option (Member V) → Bool
holds_at holds place None = true
holds_at holds place (Some member) = holds place member.value

-- Whether the test holds for each of these places that lists a port; `first` is the number of the first place.
abbrev pub of_each_listed : {V : Type 0} → (ℕ → V → Bool) → ℕ → List (Option (Member V)) → Bool
of_each_listed holds first [] = true
of_each_listed holds first (place ∷ rest) = holds_at holds first place && of_each_listed holds (first + 1) rest

-- Whether the port with this number is the one listed here.
abbrev pub is_member : {V : Type 0} → (V → ℕ) → ℕ → Option (Member V) → Bool
is_member number_of number None = false
is_member number_of number (Some member) = number_of member.value == number
