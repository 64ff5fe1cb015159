-- Attributes that are gathered one after the other.
use Rattle.std.proofs.Common.{◌≡◌, ℕ, Bool, true, false, ◌||◌, List, [], ◌∷◌, ◌++◌, Option, None, Some, refl, sym, ap, ◌∙◌}
use Rattle.std.proofs.lemmas.List.{append_assoc}
use Rattle.iox_describe_base.specs.declared.attribute.Attribute.{Attribute}
use Rattle.iox_describe_base.specs.Attributes.{Required, required}
use Rattle.iox_line.specs.Memory.{prepend, some}
use Rattle.iox_line.proofs.GatherLemmas.{Gathers, onto, onto_more}
use Rattle.iox_line.specs.AttributesReading.{pair_of, key_of, pairs_of, require, requirements_of, requires_some}

-- what was required, and what is required after it
abbrev pub onto_required : Required → Option Required → Option Required
onto_required done None = None
onto_required done (Some r) = Some (required (done.pairs ++ r.pairs) (done.keys ++ r.keys))

-- pairs

-- one more pair
pub pair_more : (done : List Attribute) (all : Option (List Attribute)) (w : List ℕ) (ws rest : List (List ℕ)) (a : Attribute)
    → all ≡ onto done (pairs_of rest) → rest ≡ w ∷ ws → Some a ≡ pair_of w
    → all ≡ onto (done ++ a ∷ []) (pairs_of ws)
pair_more done all w ws rest a h e s
    = h ∙ ap (λ l. onto done (pairs_of l)) e ∙ ap (λ o. onto done (prepend o (pairs_of ws))) (sym s) ∙ onto_more done a (pairs_of ws)

-- requirements

-- a requirement with one pair more
abbrev pub with_pair : Required → Attribute → Required
with_pair done a = required (done.pairs ++ a ∷ []) done.keys

-- a requirement with one key more
abbrev pub with_key : Required → List ℕ → Required
with_key done k = required done.pairs (done.keys ++ k ∷ [])

onto_pair : (done : Required) (a : Attribute) (k : Option (List ℕ)) (rest : Option Required)
    → onto_required done (require (Some a) k rest) ≡ onto_required (with_pair done a) rest
onto_pair done a k None = refl
onto_pair done a k (Some r) = ap (λ l. Some (required l (done.keys ++ r.keys))) (sym (append_assoc done.pairs (a ∷ []) r.pairs))

onto_key : (done : Required) (k : List ℕ) (rest : Option Required)
    → onto_required done (require None (Some k) rest) ≡ onto_required (with_key done k) rest
onto_key done k None = refl
onto_key done k (Some r) = ap (λ l. Some (required (done.pairs ++ r.pairs) l)) (sym (append_assoc done.keys (k ∷ []) r.keys))

-- what the words after the first are read as, where the first is a pair
pub required_pair : (done : Required) (all : Option Required) (w : List ℕ) (ws rest : List (List ℕ)) (a : Attribute)
    → all ≡ onto_required done (requirements_of rest) → rest ≡ w ∷ ws → Some a ≡ pair_of w
    → all ≡ onto_required (with_pair done a) (requirements_of ws)
required_pair done all w ws rest a h e s =
    h ∙ ap (λ l. onto_required done (requirements_of l)) e ∙ ap (λ o. onto_required done (require o (key_of w) (requirements_of ws)))
    (sym s) ∙ onto_pair done a (key_of w) (requirements_of ws)

-- and where it is a key
pub required_key : (done : Required) (all : Option Required) (w : List ℕ) (ws rest : List (List ℕ)) (k : List ℕ)
    → all ≡ onto_required done (requirements_of rest) → rest ≡ w ∷ ws → None ≡ pair_of w → Some k ≡ key_of w
    → all ≡ onto_required (with_key done k) (requirements_of ws)
required_key done all w ws rest k h e n s =
    h ∙ ap (λ l. onto_required done (requirements_of l)) e ∙ ap (λ o. onto_required done (require o (key_of w) (requirements_of ws)))
    (sym n)
    ∙ ap (λ o. onto_required done (require None o (requirements_of ws))) (sym s) ∙ onto_key done k (requirements_of ws)

some_pair : (done : List Attribute) (a : Attribute) → some (done ++ a ∷ []) ≡ true
some_pair [] a = refl
some_pair (d ∷ ds) a = refl

some_key : (done : List (List ℕ)) (k : List ℕ) → some (done ++ k ∷ []) ≡ true
some_key [] k = refl
some_key (d ∷ ds) k = refl

or_second : (a b : Bool) → b ≡ true → (a || b) ≡ true
or_second true b h = refl
or_second false b h = h

kept_pair : (done : Required) (a : Attribute) (lacking : Bool) (old new : Required) → Gathers requires_some done lacking old
    → lacking ≡ false → new ≡ with_pair old a → new ≡ with_pair done a
kept_pair done a true old new g l n = cc
kept_pair done a false old new g l n = n ∙ ap (λ x. with_pair x a) g

kept_key : (done : Required) (k : List ℕ) (lacking : Bool) (old new : Required) → Gathers requires_some done lacking old
    → lacking ≡ false → new ≡ with_key old k → new ≡ with_key done k
kept_key done k true old new g l n = cc
kept_key done k false old new g l n = n ∙ ap (λ x. with_key x k) g

-- one more pair is gathered
pub gathers_pair : (done : Required) (a : Attribute) (lacking lacks : Bool) (old new : Required) → Gathers requires_some done lacking old
    → (lacks ≡ false → (lacking ≡ false) × (new ≡ with_pair old a)) → Gathers requires_some (with_pair done a) lacks new
gathers_pair done a lacking true old new g h = ap (λ t. t || some done.keys) (some_pair done.pairs a)
gathers_pair done a lacking false old new g h = let r = h refl in kept_pair done a lacking old new g r.0 r.1

-- one more key is gathered
pub gathers_key : (done : Required) (k : List ℕ) (lacking lacks : Bool) (old new : Required) → Gathers requires_some done lacking old
    → (lacks ≡ false → (lacking ≡ false) × (new ≡ with_key old k)) → Gathers requires_some (with_key done k) lacks new
gathers_key done k lacking true old new g h = or_second (some done.pairs) (some (done.keys ++ k ∷ [])) (some_key done.keys k)
gathers_key done k lacking false old new g h = let r = h refl in kept_key done k lacking old new g r.0 r.1
