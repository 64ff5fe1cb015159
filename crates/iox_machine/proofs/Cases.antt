-- What a fact by cases comes to, once the case is known.
use Rattle.std.proofs.Common.{◌≡◌, ◌⊎◌, Bool, true, false, cond, ◌&&◌, Option, None, Some, Result, Ok, Err, refl, ap, inl, inr}
use Rattle.std.specs.Prelude.{MatchBool, MatchOption, MatchResult, unwrap_or}

pub by-bool : (b : Bool) (A B : Type 0) → MatchBool b A B → ((b ≡ true) × A) ⊎ ((b ≡ false) × B)
by-bool true A B m = inl (refl, m)
by-bool false A B m = inr (refl, m)

pub by-option : {V : Type 0} (o : Option V) (A : Type 0) (B : V → Type 0) → MatchOption o A B → ((o ≡ None) × A) ⊎
    ((v : V) × (o ≡ Some v) × B v)
by-option None A B m = inl (refl, m)
by-option (Some v) A B m = inr (v, refl, m)

pub by-result : {V E : Type 0} (r : Result V E) (A : V → Type 0) (B : E → Type 0) → MatchResult r A B → ((v : V) × (r ≡ Ok v) × A v) ⊎
    ((e : E) × (r ≡ Err e) × B e)
by-result (Ok v) A B m = inl (v, refl, m)
by-result (Err e) A B m = inr (e, refl, m)

-- what both are, where there is one
pub same-some : {V : Type 0} (one other : V) → Some one ≡ Some other → one ≡ other
same-some one other e = ap (λ o. unwrap_or o one) e

pub never-some : {V : Type 0} {A : Type 0} (v : V) → None ≡ Some v → A
never-some v e = absurd (differ e)
  where
    differ : None ≡ Some v → ⊥
    differ e = cc

-- which of both a choice is
pub chosen : {V : Type 0} (b : Bool) (one other it : V) → cond b one other ≡ it → ((b ≡ true) × (one ≡ it)) ⊎ ((b ≡ false) × (other ≡ it))
chosen b one other it e =
    (elim b as (λ (v : Bool). cond v one other ≡ it → ((v ≡ true) × (one ≡ it)) ⊎ ((v ≡ false) × (other ≡ it))) [
      | true ↦ λ (found : one ≡ it). inl (refl, found)
      | false ↦ λ (found : other ≡ it). inr (refl, found)
    ]) e

pub both-true : (one other : Bool) → (one && other) ≡ true → (one ≡ true) × (other ≡ true)
both-true true other e = (refl, e)
both-true false other e = absurd (differ e)
  where
    differ : false ≡ true → ⊥
    differ e = cc
