-- What a subscriber's update reports of the connections that failed, in a domain and in the machine.
use Rattle.std.proofs.Common.{◌≡◌, ◌≢◌, ◌<◌, ◌⊎◌, ◌+◌, ◌∷◌, [], ℕ, zero, suc, List, length, get_or, Option, None, Some, Err, refl, sym}
use Rattle.std.proofs.Common.{ap, inl, inr, ◌∙◌, arith}
use Rattle.std.proofs.lemmas.Bool.{cases_eq}
use Rattle.std.specs.Prelude.{MatchOption}
use Rattle.iox_command.specs.DomainValues.declared.connection_failure.ConnectionFailure.{ConnectionFailure}
use Rattle.iox_command.specs.DomainValues.declared.connection_failure.ConnectionFailure.TheVariants.{FailedToEstablishConnection}
use Rattle.iox_command.specs.DomainValues.declared.connection_failure.ZeroCopyCreationError.{ZeroCopyCreationError}
use Rattle.iox_command.specs.DomainValues.declared.degradation.DegradationAction.{DegradationAction}
use Rattle.iox_command.specs.DomainValues.declared.degradation.DegradationAction.TheVariants.{DegradeAndFail, Ignore, Warn}
use Rattle.iox_domain.specs.DomainPorts.PublisherUpdating.{first_failure}
use Rattle.iox_domain.specs.DomainPorts.PublisherUpdating as domain
use Rattle.iox_domain_machine.proofs.Found.{never_some, same_some}
use Rattle.iox_domain_machine.proofs.UpdatePlaces.{Place}
use Rattle.iox_machine.specs.PublisherUpdate.{failure_at, UpdateAnswers}

-- What an update reports of the first `count` places, given what is permitted at a connection that failed: nothing, and each failure
-- may be passed over; or a failure where the port may fail, and each failure at a lower place may be passed over.
pub record ToldBelow (May : DegradationAction → Type 0) (fails : ℕ → Option ZeroCopyCreationError) (count : ℕ)
    (found : Option ConnectionFailure) : Type 0 where
  pub passes : found ≡ None → (place : ℕ) (why : ZeroCopyCreationError) → place < count → fails place ≡ Some why → May Warn ⊎ May Ignore
  pub tells : (failure : ConnectionFailure) → found ≡ Some failure
      → (place : ℕ) × (why : ZeroCopyCreationError) × (place < count) × (fails place ≡ Some why)
      × (failure ≡ FailedToEstablishConnection why) × May DegradeAndFail
      × ((lower : ℕ) (other : ZeroCopyCreationError) → lower < place → fails lower ≡ Some other → May Warn ⊎ May Ignore)

module _ (May : DegradationAction → Type 0) where
  -- nothing of no place
  pub told_of_none : (fails : ℕ → Option ZeroCopyCreationError) → ToldBelow May fails 0 None
  told_of_none fails = record {
    passes = λ is place why below there. absurd (omega (arith, below));
    tells = λ failure is. never_some failure is;
  }

  -- the same of places where the same fails
  pub told_alike : (before now : ℕ → Option ZeroCopyCreationError) (count other : ℕ) (found : Option ConnectionFailure)
      → ((place : ℕ) → now place ≡ before place) → other ≡ count → ToldBelow May before count found → ToldBelow May now other found
  told_alike before now count other found same long is = record {
    passes = λ none place why below there. is.passes none place why (omega (arith, below, long)) (sym (same place) ∙ there);
    tells = λ failure some. let it = is.tells failure some in (
      it.0,
      it.1,
      omega (arith, it.2, long),
      same it.0 ∙ it.3,
      it.4,
      it.5,
      λ lower why below there. it.6 lower why below (sym (same lower) ∙ there),
    );
  }

  module _ (before now : ℕ → Option ZeroCopyCreationError) (count : ℕ) (same : (place : ℕ) → place ≢ count → now place ≡ before place) where
    still_told : (found : Option ConnectionFailure)
        → (found ≡ None → (why : ZeroCopyCreationError) → now count ≡ Some why → May Warn ⊎ May Ignore)
        → ToldBelow May before count found → ToldBelow May now (count + 1) found
    still_told found here first = record {
      passes = λ is place why below there. elim (cases_eq place count) [
        | inl at ↦ here is why (ap now (sym at) ∙ there)
        | inr off ↦ first.passes is place why (omega (arith, below, off)) (sym (same place off) ∙ there)
      ];
      tells = λ failure is. let it = first.tells failure is in (
        it.0,
        it.1,
        omega (arith, it.2),
        same it.0 (λ at. absurd (omega (arith, at, it.2))) ∙ it.3,
        it.4,
        it.5,
        λ lower other below there. it.6 lower other below (sym (same lower (λ at. absurd (omega (arith, at, it.2, below)))) ∙ there),
      );
    }

    -- one more place is gone over, where nothing failed
    pub told_past : (found : Option ConnectionFailure) → now count ≡ None → ToldBelow May before count found
        → ToldBelow May now (count + 1) found
    told_past found here first = still_told found (λ is why there. never_some why (sym here ∙ there)) first

    -- or where a connection failed, and this is done
    pub told_here : (found : Option ConnectionFailure) (why : ZeroCopyCreationError) → now count ≡ Some why
        → (action : DegradationAction) → May action → ToldBelow May before count found
        → ToldBelow May now (count + 1) (first_failure found (FailedToEstablishConnection why) action)
    told_here found why here Ignore may first = still_told found (λ is other there. inr may) first
    told_here found why here Warn may first = still_told found (λ is other there. inl may) first
    told_here (Some failed) why here DegradeAndFail may first =
        still_told (Some failed) (λ is other there. never_some failed (sym is)) first
    told_here None why here DegradeAndFail may first = record {
      passes = λ is. never_some (FailedToEstablishConnection why) (sym is);
      tells = λ failure is. (
        count,
        why,
        omega arith,
        here,
        sym (same_some (FailedToEstablishConnection why) failure is),
        may,
        λ lower other below there. first.passes refl lower other below (sym (same lower (λ at. absurd (omega (arith, at, below)))) ∙ there),
      );
    }

  -- why the connection at a place failed
  abbrev pub failures : List Place → ℕ → Option ZeroCopyCreationError
  failures places place = failure_at (get_or places place (None, None)).0 (get_or places place (None, None)).1

  -- what is told of the places after the first, where nothing is told
  behind_none : (first : Place) (more : List Place) → ToldBelow May (failures (first ∷ more)) (length (first ∷ more)) None
      → ToldBelow May (failures more) (length more) None
  behind_none first more told = record {
    passes = λ is place why below there. told.passes is (suc place) why (omega (arith, below)) there;
    tells = λ failure is. never_some failure is;
  }

  -- and where one after it is told
  behind_some : (more : List Place) (failure : ConnectionFailure) (place : ℕ) (why : ZeroCopyCreationError) → place < length more
      → failures more place ≡ Some why → failure ≡ FailedToEstablishConnection why → May DegradeAndFail
      → ((lower : ℕ) (other : ZeroCopyCreationError) → lower < place → failures more lower ≡ Some other → May Warn ⊎ May Ignore)
      → ToldBelow May (failures more) (length more) (Some failure)
  behind_some more failure place why below there is fails lower = record {
    passes = λ none. never_some failure (sym none);
    tells = λ other some. (place, why, below, there, sym (same_some failure other some) ∙ is, fails, lower);
  }

  -- What is reported of all places is what the machine's update may answer.
  pub answers_told : (places : List Place) (found : Option ConnectionFailure) → ToldBelow May (failures places) (length places) found
      → UpdateAnswers May places (domain.update_answer found)
  answers_told [] None told = refl
  answers_told [] (Some failure) told = let it = told.tells failure refl in absurd (omega (arith, it.2))
  answers_told (first ∷ more) None told = here (failure_at first.0 first.1) refl (answers_told more None (behind_none first more told))
    where
      here : (o : Option ZeroCopyCreationError) → failure_at first.0 first.1 ≡ o → UpdateAnswers May more (domain.update_answer None)
          → MatchOption o (UpdateAnswers May more (domain.update_answer None))
          (λ failure. (May DegradeAndFail × (domain.update_answer None ≡ Err (FailedToEstablishConnection failure)))
          ⊎ ((May Warn ⊎ May Ignore) × UpdateAnswers May more (domain.update_answer None)))
      here None is rest = rest
      here (Some why) is rest = inr (told.passes refl zero why (omega arith) is, rest)
  answers_told (first ∷ more) (Some failure) told =
      by (told.tells failure refl) (λ rest. answers_told more (Some failure) rest)
    where
      by : ((place : ℕ) × (why : ZeroCopyCreationError) × (place < length (first ∷ more)) × (failures (first ∷ more) place ≡ Some why)
          × (failure ≡ FailedToEstablishConnection why) × May DegradeAndFail
          × ((lower : ℕ) (other : ZeroCopyCreationError) → lower < place → failures (first ∷ more) lower ≡ Some other
          → May Warn ⊎ May Ignore))
          → (ToldBelow May (failures more) (length more) (Some failure) → UpdateAnswers May more (domain.update_answer (Some failure)))
          → UpdateAnswers May (first ∷ more) (domain.update_answer (Some failure))
      by (zero, why, below, there, is, fails, lower) go = rw there (inl (fails, ap (λ f. Err f) is))
      by (suc place, why, below, there, is, fails, lower) go = over (failure_at first.0 first.1) refl (go (behind_some more failure place
          why (omega (arith, below)) there is fails (λ low other under at. lower (suc low) other (omega (arith, under)) at)))
        where
          over : (o : Option ZeroCopyCreationError) → failure_at first.0 first.1 ≡ o
              → UpdateAnswers May more (domain.update_answer (Some failure))
              → MatchOption o (UpdateAnswers May more (domain.update_answer (Some failure)))
              (λ failed. (May DegradeAndFail × (domain.update_answer (Some failure) ≡ Err (FailedToEstablishConnection failed)))
              ⊎ ((May Warn ⊎ May Ignore) × UpdateAnswers May more (domain.update_answer (Some failure))))
          over None at rest = rest
          over (Some failed) at rest = inr (lower zero failed (omega arith) at, rest)
