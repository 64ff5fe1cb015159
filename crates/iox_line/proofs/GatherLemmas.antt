-- What was gathered of words so far, where memory may have been wanting.
use Rattle.std.proofs.Common.{◌≡◌, Bool, true, false, List, [], ◌∷◌, ◌++◌, Option, None, Some, refl, sym, ap, ◌∙◌}
use Rattle.std.proofs.lemmas.List.{append_assoc}
use Rattle.iox_line.specs.Memory.{prepend, some}

-- just what was read so far; or memory was wanting, and what was read takes some
abbrev pub Gathers : {A : Type 0} → (A → Bool) → A → Bool → A → Type 0
Gathers takes done false value = value ≡ done
Gathers takes done true value = takes done ≡ true

-- what was read, and what is read after it
abbrev pub onto : {A : Type 0} → List A → Option (List A) → Option (List A)
onto done None = None
onto done (Some rest) = Some (done ++ rest)

pub onto_more : {A : Type 0} (done : List A) (a : A) (rest : Option (List A))
    → onto done (prepend (Some a) rest) ≡ onto (done ++ a ∷ []) rest
onto_more done a None = refl
onto_more done a (Some rest) = ap (λ l. Some l) (sym (append_assoc done (a ∷ []) rest))

some_more : {A : Type 0} (done : List A) (a : A) → some (done ++ a ∷ []) ≡ true
some_more [] a = refl
some_more (d ∷ ds) a = refl

kept_more : {A : Type 0} (done : List A) (a : A) (lacking : Bool) (old new : List A) → Gathers some done lacking old → lacking ≡ false
    → new ≡ old ++ a ∷ [] → new ≡ done ++ a ∷ []
kept_more done a true old new g l n = cc
kept_more done a false old new g l n = n ∙ ap (λ x. x ++ a ∷ []) g

-- one more value is gathered
pub gathers_more : {A : Type 0} (done : List A) (a : A) (lacking lacks : Bool) (old new : List A) → Gathers some done lacking old
    → (lacks ≡ false → (lacking ≡ false) × (new ≡ old ++ a ∷ [])) → Gathers some (done ++ a ∷ []) lacks new
gathers_more done a lacking true old new g h = some_more done a
gathers_more done a lacking false old new g h = let r = h refl in kept_more done a lacking old new g r.0 r.1
