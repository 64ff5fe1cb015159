-- Where a subscriber reads that reads at one index alone.
use Rattle.std.proofs.Common.{arith, ◌≡◌, ◌<◌, ◌∙◌, ℕ, Bool, true, false, cond, List, length, get_or, nat_lt, Option, None, Some, refl}
use Rattle.std.proofs.Common.{sym, ap, inl, inr}
use Rattle.std.specs.List.{position, position_or_len}
use Rattle.std.specs.Prelude.{is_some}
use Rattle.std.proofs.lemmas.Bool.{cases_lt}
use Rattle.std.proofs.lemmas.Bool.Decides.{nat_tests}
use Rattle.std.proofs.lemmas.List.{get_or_past}
use Rattle.std.proofs.lemmas.List.Quantifiers.{position-Some}
use Rattle.std.proofs.lemmas.List.Sums.{fails_before_first}
use Rattle.iox_domain_ports.specs.Places.{leads_to, AreApart, IsFoundAt, IsNowhereElse}
use Rattle.iox_domain_ports.specs.declared.reader.Reader.{Reader}

-- what isn't there is none
pub none_is : (found : Option ℕ) → is_some found ≡ false → found ≡ None
none_is None is = refl
none_is (Some index) is = absurd (cc)

-- where no place is found none passes
none_passes : {X : Type 0} (test : X → Bool) (xs : List X) → position test xs ≡ None → (k : ℕ) (default : X) → k < length xs
    → test (get_or xs k default) ≡ false
none_passes test xs none k default within = by (nat_lt (position_or_len test xs) (length xs)) refl
  where
    by : (found : Bool) → nat_lt (position_or_len test xs) (length xs) ≡ found → test (get_or xs k default) ≡ false
    by true is =
        let no : Some (position_or_len test xs) ≡ None
        = ap (λ found. cond found (Some (position_or_len test xs)) None) (sym is) ∙ none in
        absurd (cc)
    by false is = fails_before_first test xs k default (grind (arith, nat_tests))

module _ (readers : List (Option Reader)) where
  -- where a subscriber reads is within the list
  leads_within : (subscriber index : ℕ) → leads_to subscriber (get_or readers index None) ≡ true → index < length readers
  leads_within subscriber index leads = elim (cases_lt index (length readers)) [
    | inl within ↦ within
    | inr past ↦
        let no : false ≡ true = sym (ap (leads_to subscriber) (get_or_past readers index None (omega (arith, past)))) ∙ leads in absurd (cc)
  ]

  -- it reads nowhere where no connection to it is found
  none_leads : (subscriber : ℕ) → position (leads_to subscriber) readers ≡ None → (index : ℕ)
      → leads_to subscriber (get_or readers index None) ≡ true → ⊥
  none_leads subscriber none index leads =
      let no : true ≡ false
      = sym leads ∙ none_passes (leads_to subscriber) readers none index None (leads_within subscriber index leads) in
      absurd (cc)

  -- so it is nowhere else
  pub nowhere_else : (subscriber index : ℕ) → position (leads_to subscriber) readers ≡ None → IsNowhereElse index subscriber readers
  nowhere_else subscriber index none = λ other leads. absurd (none_leads subscriber none other leads)

  -- where subscribers are apart, one is found where it reads
  pub found_there : (subscriber index : ℕ) → AreApart readers → leads_to subscriber (get_or readers index None) ≡ true
      → IsFoundAt (Some index) subscriber readers
  found_there subscriber index apart leads = at (position (leads_to subscriber) readers) refl
    where
      at : (found : Option ℕ) → position (leads_to subscriber) readers ≡ found → Some index ≡ position (leads_to subscriber) readers
      at None none = absurd (none_leads subscriber none index leads)
      at (Some first) is =
          ap (λ index. Some index) (apart subscriber index first leads (position-Some (leads_to subscriber) readers first None is).1)
          ∙ sym is
