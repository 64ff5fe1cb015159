-- What is answered when words are read and memory may run out.
use Rattle.std.specs.Prelude.{◌≡◌, Bool, true, false, List, [], ◌∷◌, Option, None, Some, Result, Ok, Err}
use Rattle.std.specs.declared.alloc.AllocError.{AllocError}

-- Either exactly what the words spell; or memory ran out, and the words spell something that takes memory.
abbrev pub MayLack : {A : Type 0} → (A → Bool) → Option A → Result (Option A) AllocError → Type 0
MayLack takes spelled (Ok found) = found ≡ spelled
MayLack {A} takes spelled (Err lacking) = (a : A) × (spelled ≡ Some a) × (takes a ≡ true)

-- Whether the list has an element.
abbrev pub some : {A : Type 0} → List A → Bool
some [] = false
some (a ∷ as') = true

-- A value in front of the values that were read after it, if all were read.
abbrev pub prepend : {A : Type 0} → Option A → Option (List A) → Option (List A)
prepend None rest = None
prepend (Some a) None = None
prepend (Some a) (Some rest) = Some (a ∷ rest)
