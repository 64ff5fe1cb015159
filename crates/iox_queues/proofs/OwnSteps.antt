-- A party's own steps, after some more.
use Rattle.std.proofs.Common.{◌≡◌, ℕ, ◌≤◌, Bool, true, false, if◌then◌else◌, ◌==◌, List, [], ◌∷◌, ◌++◌, length, drop, refl, ◌∙◌, ap}
use Rattle.std.proofs.Common.{append-nil}
use Rattle.std.proofs.lemmas.Bool.{eqb-true, eqb-false}
use Rattle.std.proofs.lemmas.List.{drop-append-le}
use Rattle.iox_queues.specs.Told.{own}
use Rattle.iox_queues.specs.declared.bits.machine.Event.{Event}

own_behind : (p : ℕ) (x : Event) (xs ys : List Event) (b : Bool) → own p (xs ++ ys) ≡ own p xs ++ own p ys
    → (if b then x ∷ own p (xs ++ ys) else own p (xs ++ ys)) ≡ (if b then x ∷ own p xs else own p xs) ++ own p ys
own_behind p x xs ys true h = ap (λ (zs : List Event). x ∷ zs) h
own_behind p x xs ys false h = h

own_append : (p : ℕ) (xs ys : List Event) → own p (xs ++ ys) ≡ own p xs ++ own p ys
own_append p [] ys = refl
own_append p (x ∷ xs) ys = own_behind p x xs ys (x.party == p) (own_append p xs ys)

own_is : (p : ℕ) (e : Event) (b : Bool) → (e.party == p) ≡ b → e.party ≡ p → own p (e ∷ []) ≡ e ∷ []
own_is p e true same h = ap (λ (b : Bool). if b then e ∷ [] else []) same
own_is p e false same h = absurd (eqb-false e.party p same h)

own_isnt : (p : ℕ) (e : Event) (b : Bool) → (e.party == p) ≡ b → (e.party ≡ p → ⊥) → own p (e ∷ []) ≡ []
own_isnt p e true same h = absurd (h (eqb-true e.party p same))
own_isnt p e false same h = ap (λ (b : Bool). if b then e ∷ [] else []) same

pub own_more : (p : ℕ) (xs : List Event) (e : Event) → e.party ≡ p → own p (xs ++ e ∷ []) ≡ own p xs ++ e ∷ []
own_more p xs e h = own_append p xs (e ∷ []) ∙ ap (λ (ys : List Event). own p xs ++ ys) (own_is p e (e.party == p) refl h)

pub own_else : (p : ℕ) (xs : List Event) (e : Event) → (e.party ≡ p → ⊥) → own p (xs ++ e ∷ []) ≡ own p xs
own_else p xs e h = own_append p xs (e ∷ []) ∙ ap (λ (ys : List Event). own p xs ++ ys) (own_isnt p e (e.party == p) refl h) ∙
    append-nil (own p xs)

-- the same since a step that was made before
pub own_more_since : (p first : ℕ) (xs : List Event) (e : Event) → first ≤ length xs → e.party ≡ p
    → own p (drop first (xs ++ e ∷ [])) ≡ own p (drop first xs) ++ e ∷ []
own_more_since p first xs e began h = ap (own p) (drop-append-le first xs (e ∷ []) began) ∙ own_more p (drop first xs) e h

pub own_else_since : (p first : ℕ) (xs : List Event) (e : Event) → first ≤ length xs → (e.party ≡ p → ⊥)
    → own p (drop first (xs ++ e ∷ [])) ≡ own p (drop first xs)
own_else_since p first xs e began h = ap (own p) (drop-append-le first xs (e ∷ []) began) ∙ own_else p (drop first xs) e h
