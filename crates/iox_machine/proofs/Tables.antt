-- What goes by a number in a table that changed.
use Rattle.std.proofs.Common.{◌≡◌, ◌⊎◌, ℕ, Bool, true, false, cond, not, List, [], ◌∷◌, ◌++◌, Option, None, Some, refl, sym, ap, subst}
use Rattle.std.proofs.Common.{inl, inr, ◌∙◌}
use Rattle.std.proofs.lemmas.Bool.{eqb-true, eqb-false, eq-eqb, ne_eqb, cases_Bool}
use Rattle.std.specs.Prelude.{find, is_some, option_map, ◌==◌}
use Rattle.iox_machine.specs.Table.{at, changed, removed}
use Rattle.iox_machine.proofs.Cases.{same-some, never-some}

module _ {V : Type 0} where
  abbrev value_of : ℕ × V → V
  value_of entry = entry.1

  same-tail : (b : Bool) (entry : ℕ × V) (one other : Option (ℕ × V)) → option_map value_of one ≡ option_map value_of other
      → option_map value_of (cond b (Some entry) one) ≡ option_map value_of (cond b (Some entry) other)
  same-tail true entry one other e = refl
  same-tail false entry one other e = e

  kept-tail : (b : Bool) (entry : ℕ × V) (one other : Option (ℕ × V)) (v : V)
      → (option_map value_of one ≡ Some v → option_map value_of other ≡ Some v)
      → option_map value_of (cond b (Some entry) one) ≡ Some v → option_map value_of (cond b (Some entry) other) ≡ Some v
  kept-tail true entry one other v on e = e
  kept-tail false entry one other v on e = on e

  pub at-changed : (number : ℕ) (v was : V) (table : List (ℕ × V)) → at number table ≡ Some was
      → at number (changed number v table) ≡ Some v
  at-changed number v was [] e = never-some was e
  at-changed number v was (entry ∷ table) e = step (at-changed number v was table) (entry.0 == number) refl
    where
      more : Option (ℕ × V)
      more = find (λ (other : ℕ × V). other.0 == number) (changed number v table)

      step : (at number table ≡ Some was → at number (changed number v table) ≡ Some v) → (b : Bool) → (entry.0 == number) ≡ b
          → option_map value_of (cond ((cond b (number, v) entry).0 == number) (Some (cond b (number, v) entry)) more) ≡ Some v
      step on true is = ap (λ (c : Bool). option_map value_of (cond c (Some (number, v)) more)) (eq-eqb number number refl)
      step on false is =
          ap (λ (c : Bool). option_map value_of (cond c (Some entry) more)) is
          ∙ on (sym (ap (λ (c : Bool). option_map value_of (cond c (Some entry) (find (λ (other : ℕ × V). other.0 == number) table)))
          is) ∙ e)

  pub at-changed-other : (number other : ℕ) (v : V) (table : List (ℕ × V)) → (other ≡ number → ⊥)
      → at other (changed number v table) ≡ at other table
  at-changed-other number other v [] off = refl
  at-changed-other number other v (entry ∷ table) off = step (at-changed-other number other v table off) (entry.0 == number) refl
    where
      now : Option (ℕ × V)
      now = find (λ (it : ℕ × V). it.0 == other) (changed number v table)

      before : Option (ℕ × V)
      before = find (λ (it : ℕ × V). it.0 == other) table

      step : at other (changed number v table) ≡ at other table → (b : Bool) → (entry.0 == number) ≡ b
          → option_map value_of (cond ((cond b (number, v) entry).0 == other) (Some (cond b (number, v) entry)) now)
          ≡ option_map value_of (cond (entry.0 == other) (Some entry) before)
      step on true is =
          ap (λ (c : Bool). option_map value_of (cond c (Some (number, v)) now)) (ne_eqb number other (λ same. off (sym same)))
          ∙ on
          ∙ sym (ap (λ (c : Bool). option_map value_of (cond c (Some entry) before))
          (ne_eqb entry.0 other (λ same. off (sym same ∙ eqb-true entry.0 number is))))
      step on false is = same-tail (entry.0 == other) entry now before on

  pub at-removed-other : (number other : ℕ) (table : List (ℕ × V)) → (other ≡ number → ⊥) → at other (removed number table) ≡ at other table
  at-removed-other number other [] off = refl
  at-removed-other number other (entry ∷ table) off = step (at-removed-other number other table off) (entry.0 == number) refl
    where
      rest : List (ℕ × V)
      rest = removed number table

      before : Option (ℕ × V)
      before = find (λ (it : ℕ × V). it.0 == other) table

      step : at other (removed number table) ≡ at other table → (b : Bool) → (entry.0 == number) ≡ b
          → at other (cond (not b) (entry ∷ rest) rest) ≡ option_map value_of (cond (entry.0 == other) (Some entry) before)
      step on true is =
          on
          ∙ sym (ap (λ (c : Bool). option_map value_of (cond c (Some entry) before))
          (ne_eqb entry.0 other (λ same. off (sym same ∙ eqb-true entry.0 number is))))
      step on false is = same-tail (entry.0 == other) entry (find (λ (it : ℕ × V). it.0 == other) rest) before on

  pub at-kept : (number : ℕ) (v : V) (table more : List (ℕ × V)) → at number table ≡ Some v → at number (table ++ more) ≡ Some v
  at-kept number v [] more e = never-some v e
  at-kept number v (entry ∷ table) more e =
      kept-tail (entry.0 == number) entry (find (λ (it : ℕ × V). it.0 == number) table)
      (find (λ (it : ℕ × V). it.0 == number) (table ++ more)) v (at-kept number v table more) e

  pub at-behind : (number : ℕ) (table more : List (ℕ × V)) → at number table ≡ None → at number (table ++ more) ≡ at number more
  at-behind number [] more e = refl
  at-behind number (entry ∷ table) more e = step (at-behind number table more) (entry.0 == number) e
    where
      step : (at number table ≡ None → at number (table ++ more) ≡ at number more) → (b : Bool)
          → option_map value_of (cond b (Some entry) (find (λ (it : ℕ × V). it.0 == number) table)) ≡ None
          → option_map value_of (cond b (Some entry) (find (λ (it : ℕ × V). it.0 == number) (table ++ more))) ≡ at number more
      step on true e = never-some entry.1 (sym e)
      step on false e = on e

  -- what goes by a number after a table isn't seen by another number
  pub at-appended-other : (number other : ℕ) (v : V) (table : List (ℕ × V)) → (other ≡ number → ⊥)
      → at other (table ++ (number, v) ∷ []) ≡ at other table
  at-appended-other number other v [] off =
      ap (λ (c : Bool). option_map value_of (cond c (Some (number, v)) None)) (ne_eqb number other (λ same. off (sym same)))
  at-appended-other number other v (entry ∷ table) off =
      same-tail (entry.0 == other) entry (find (λ (it : ℕ × V). it.0 == other) (table ++ (number, v) ∷ []))
      (find (λ (it : ℕ × V). it.0 == other) table) (at-appended-other number other v table off)

  pub at-appended : (number : ℕ) (v : V) (table : List (ℕ × V)) → at number table ≡ None → at number (table ++ (number, v) ∷ []) ≡ Some v
  at-appended number v table e =
      at-behind number table ((number, v) ∷ []) e
      ∙ ap (λ (c : Bool). option_map value_of (cond c (Some (number, v)) None)) (eq-eqb number number refl)

  pub at-either : (number other : ℕ) (v x : V) (table : List (ℕ × V)) → at other (table ++ (number, v) ∷ []) ≡ Some x
      → (at other table ≡ Some x) ⊎ (x ≡ v)
  at-either number other v x [] e = step (number == other) e
    where
      step : (b : Bool) → option_map value_of (cond b (Some (number, v)) None) ≡ Some x → (None ≡ Some x) ⊎ (x ≡ v)
      step true e = inr (sym (same-some v x e))
      step false e = inl e
  at-either number other v x (entry ∷ table) e = step (at-either number other v x table) (entry.0 == other) e
    where
      step : (at other (table ++ (number, v) ∷ []) ≡ Some x → (at other table ≡ Some x) ⊎ (x ≡ v)) → (b : Bool)
          → option_map value_of (cond b (Some entry) (find (λ (it : ℕ × V). it.0 == other) (table ++ (number, v) ∷ []))) ≡ Some x
          → (option_map value_of (cond b (Some entry) (find (λ (it : ℕ × V). it.0 == other) table)) ≡ Some x) ⊎ (x ≡ v)
      step on true e = inl e
      step on false e = on e

  pub at-last : (number : ℕ) (v : V) (table : List (ℕ × V)) → is_some (at number (table ++ (number, v) ∷ [])) ≡ true
  at-last number v [] =
      ap (λ (c : Bool). is_some (option_map value_of (cond c (Some (number, v)) None))) (eq-eqb number number refl)
  at-last number v (entry ∷ table) = step (at-last number v table) (entry.0 == number)
    where
      step : is_some (at number (table ++ (number, v) ∷ [])) ≡ true → (b : Bool)
          → is_some (option_map value_of (cond b (Some entry) (find (λ (it : ℕ × V). it.0 == number) (table ++ (number, v) ∷ [])))) ≡ true
      step on true = refl
      step on false = on

  gone-changed : (number : ℕ) (v x : V) (table : List (ℕ × V)) → at number table ≡ None → at number (changed number v table) ≡ Some x
      → x ≡ v
  gone-changed number v x [] none e = never-some x e
  gone-changed number v x (entry ∷ table) none e = step (gone-changed number v x table) (entry.0 == number) refl
    where
      before : Option (ℕ × V)
      before = find (λ (it : ℕ × V). it.0 == number) table

      now : Option (ℕ × V)
      now = find (λ (it : ℕ × V). it.0 == number) (changed number v table)

      step : (at number table ≡ None → at number (changed number v table) ≡ Some x → x ≡ v) → (b : Bool) → (entry.0 == number) ≡ b → x ≡ v
      step on true is = never-some entry.1 (sym none ∙ ap (λ (c : Bool). option_map value_of (cond c (Some entry) before)) is)
      step on false is =
          on (sym (ap (λ (c : Bool). option_map value_of (cond c (Some entry) before)) is) ∙ none)
          (sym (ap (λ (c : Bool). option_map value_of
          (cond ((cond c (number, v) entry).0 == number) (Some (cond c (number, v) entry)) now)) is
          ∙ ap (λ (c : Bool). option_map value_of (cond c (Some entry) now)) is) ∙ e)

  pub at-changed-either : (number other : ℕ) (v x : V) (table : List (ℕ × V)) → at other (changed number v table) ≡ Some x
      → (at other table ≡ Some x) ⊎ (x ≡ v)
  at-changed-either number other v x table e = elim (cases_Bool (other == number)) [
    | inl is ↦ found (at number table) refl (subst (λ (it : ℕ). at it (changed number v table) ≡ Some x) (eqb-true other number is) e)
    | inr is ↦ inl (sym (at-changed-other number other v table (eqb-false other number is)) ∙ e)
  ]
    where
      found : (o : Option V) → at number table ≡ o → at number (changed number v table) ≡ Some x → (at other table ≡ Some x) ⊎ (x ≡ v)
      found (Some was) is e = inr (same-some x v (sym e ∙ at-changed number v was table is))
      found None is e = inr (gone-changed number v x table is e)

  pub gone-removed : {A : Type 0} (number : ℕ) (x : V) (table : List (ℕ × V)) → at number (removed number table) ≡ Some x → A
  gone-removed number x [] e = never-some x e
  gone-removed {A} number x (entry ∷ table) e = step (gone-removed {A = A} number x table) (entry.0 == number) refl e
    where
      rest : Option (ℕ × V)
      rest = find (λ (it : ℕ × V). it.0 == number) (removed number table)

      step : (at number (removed number table) ≡ Some x → A) → (b : Bool) → (entry.0 == number) ≡ b
          → at number (cond (not b) (entry ∷ removed number table) (removed number table)) ≡ Some x → A
      step on true is e = on e
      step on false is e = on (sym (ap (λ (c : Bool). option_map value_of (cond c (Some entry) rest)) is) ∙ e)

  pub at-removed : (number other : ℕ) (x : V) (table : List (ℕ × V)) → at other (removed number table) ≡ Some x → at other table ≡ Some x
  at-removed number other x table e = elim (cases_Bool (other == number)) [
    | inl is ↦ gone-removed number x table (subst (λ (it : ℕ). at it (removed number table) ≡ Some x) (eqb-true other number is) e)
    | inr is ↦ sym (at-removed-other number other table (eqb-false other number is)) ∙ e
  ]
