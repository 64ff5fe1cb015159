-- Places that are emptied, and then others.
use Rattle.std.proofs.Common.{◌≡◌, ◌∙◌, ◌-◌, ◌⊎◌, ◌++◌, ℕ, Bool, true, false, List, [], ◌∷◌, length, Option, None, Some, refl, sym, ap}
use Rattle.std.proofs.Common.{subst, inl, inr}
use Rattle.std.proofs.lemmas.Bool.{eqb-true, eq-eqb}
use Rattle.std.proofs.lemmas.List.{length-set}
use Rattle.std.specs.Prelude.{IsSome, nat_eq}
use Rattle.iox_hub.specs.Places.{lies_at, emptied}
use Rattle.iox_hub.specs.Taking.{IsAmong, NoneTwice, TakesOnce}
use Rattle.iox_hub.proofs.PlaceLemmas.{gone_there, stays_elsewhere}

only : (P : ℕ → Type 0) (place other : ℕ) → P place → IsAmong other (place ∷ []) → P other
only P place other holds (inl is) = subst P is holds
only P place other holds (inr none) = absurd none

among_first : (place : ℕ) (first second : List ℕ) → IsAmong place first → IsAmong place (first ++ second)
among_first place [] second among = absurd among
among_first place (one ∷ first) second (inl is) = inl is
among_first place (one ∷ first) second (inr later) = inr (among_first place first second later)

among_second : (place : ℕ) (first second : List ℕ) → IsAmong place second → IsAmong place (first ++ second)
among_second place [] second among = among
among_second place (one ∷ first) second among = inr (among_second place first second among)

deeper : (place one : ℕ) (first second : List ℕ) → IsAmong place first ⊎ IsAmong place second → IsAmong place (one ∷ first)
    ⊎ IsAmong place second
deeper place one first second (inl among) = inl (inr among)
deeper place one first second (inr among) = inr among

among_either : (place : ℕ) (first second : List ℕ) → IsAmong place (first ++ second) → IsAmong place first ⊎ IsAmong place second
among_either place [] second among = inr among
among_either place (one ∷ first) second (inl is) = inl (inl is)
among_either place (one ∷ first) second (inr later) = deeper place one first second (among_either place first second later)

-- a place is one of a list, or not
told_on : (place one : ℕ) (rest : List ℕ) (same : Bool) → nat_eq one place ≡ same → IsAmong place rest ⊎ (IsAmong place rest → ⊥)
    → IsAmong place (one ∷ rest) ⊎ (IsAmong place (one ∷ rest) → ⊥)
told_on place one rest true is told = inl (inl (eqb-true one place is))
told_on place one rest false is (inl later) = inl (inr later)
told_on place one rest false is (inr not_later) = inr neither
  where
    neither : IsAmong place (one ∷ rest) → ⊥
    neither (inl same) = cc (is, eq-eqb one place same)
    neither (inr later) = not_later later

told : (place : ℕ) (places : List ℕ) → IsAmong place places ⊎ (IsAmong place places → ⊥)
told place [] = inr (λ none. none)
told place (one ∷ rest) = told_on place one rest (nat_eq one place) refl (told place rest)

none_twice_both : (first second : List ℕ) → NoneTwice first → NoneTwice second
    → ((place : ℕ) → IsAmong place first → IsAmong place second → ⊥) → NoneTwice (first ++ second)
none_twice_both [] second first_twice second_twice apart = second_twice
none_twice_both (one ∷ first) second (once, first_twice) second_twice apart = (
  λ among. again (among_either one first second among),
  none_twice_both first second first_twice second_twice
      (λ place among later. apart place (inr among) later),
)
  where
    again : IsAmong one first ⊎ IsAmong one second → ⊥
    again (inl among) = once among
    again (inr among) = apart one (inl refl) among

module _ {X : Type 0} where
  -- nothing is taken
  pub none_taken : (old new : List (Option X)) → new ≡ old → TakesOnce [] old new
  none_taken old new is = record {
    none_twice = tt;
    lay = λ place among. absurd among;
    gone = λ place among. absurd among;
    stays = λ place apart. ap (λ given. lies_at place given) is;
    as_many = ap length is;
  }

  -- what lies at one place is taken
  pub one_taken : (place : ℕ) (given : List (Option X)) → IsSome (lies_at place given) → TakesOnce (place ∷ []) given (emptied place given)
  one_taken place given lies = record {
    none_twice = (λ none. none, tt);
    lay = λ other among. only (λ at. IsSome (lies_at at given)) place other lies among;
    gone = λ other among. only (λ at. lies_at at (emptied place given) ≡ None) place other (gone_there place given) among;
    stays = λ other apart. stays_elsewhere place other given lies (λ is. apart (inl (sym is)));
    as_many = length-set given (place - 1) None;
  }

  lay_before : (first second : List ℕ) (old mid new : List (Option X)) → TakesOnce first old mid → TakesOnce second mid new
      → (place : ℕ) → IsAmong place first ⊎ (IsAmong place first → ⊥) → IsAmong place second → IsSome (lies_at place old)
  lay_before first second old mid new taken later place (inl among) among_later = taken.lay place among
  lay_before first second old mid new taken later place (inr apart) among_later
      = subst (λ o. IsSome o) (taken.stays place apart) (later.lay place among_later)

  gone_after : (first second : List ℕ) (old mid new : List (Option X)) → TakesOnce first old mid → TakesOnce second mid new
      → (place : ℕ) → IsAmong place first → IsAmong place second ⊎ (IsAmong place second → ⊥) → lies_at place new ≡ None
  gone_after first second old mid new taken later place among (inl among_later) = later.gone place among_later
  gone_after first second old mid new taken later place among (inr apart) = later.stays place apart ∙ taken.gone place among

  lay_in : (first second : List ℕ) (old mid new : List (Option X)) → TakesOnce first old mid → TakesOnce second mid new → (place : ℕ)
      → IsAmong place first ⊎ IsAmong place second → IsSome (lies_at place old)
  lay_in first second old mid new taken later place (inl among) = taken.lay place among
  lay_in first second old mid new taken later place (inr among)
      = lay_before first second old mid new taken later place (told place first) among

  gone_in : (first second : List ℕ) (old mid new : List (Option X)) → TakesOnce first old mid → TakesOnce second mid new → (place : ℕ)
      → IsAmong place first ⊎ IsAmong place second → lies_at place new ≡ None
  gone_in first second old mid new taken later place (inl among)
      = gone_after first second old mid new taken later place among (told place second)
  gone_in first second old mid new taken later place (inr among) = later.gone place among

  nothing_lies : (o : Option X) → o ≡ None → IsSome o → ⊥
  nothing_lies None is lies = cc
  nothing_lies (Some x) is lies = cc

  -- first some places are emptied, then others
  pub taken_then : (first second : List ℕ) (old mid new : List (Option X)) → TakesOnce first old mid → TakesOnce second mid new
      → TakesOnce (first ++ second) old new
  taken_then first second old mid new taken later = record {
    none_twice = none_twice_both first second taken.none_twice later.none_twice
        (λ place among among_later. nothing_lies (lies_at place mid) (taken.gone place among) (later.lay place among_later));
    lay = λ place among. lay_in first second old mid new taken later place (among_either place first second among);
    gone = λ place among. gone_in first second old mid new taken later place (among_either place first second among);
    stays = λ place apart. later.stays place (λ among. apart (among_second place first second among)) ∙ taken.stays place
        (λ among. apart (among_first place first second among));
    as_many = later.as_many ∙ taken.as_many;
  }
