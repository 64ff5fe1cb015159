-- What has a number in a table that changed, of the machine and of a domain.
use Rattle.std.proofs.Common.{◌≡◌, ◌≢◌, ℕ, zero, suc, Bool, true, false, cond, List, [], ◌∷◌, map, replicate, get_or, Option, None, Some}
use Rattle.std.proofs.Common.{refl, sym, ap, ◌∙◌}
use Rattle.std.proofs.lemmas.Bool.{eqb-true, eq-eqb, ne_eqb}
use Rattle.std.specs.Map.{lookup, set_value}
use Rattle.std.specs.Prelude.{find, option_map, unwrap_or, ◌==◌}
use Rattle.iox_domain.proofs.Numbered.{at_number, other_fails, other_set}
use Rattle.iox_machine.specs.Table.{at, changed}

pub same_some : {V : Type 0} (one other : V) → Some one ≡ Some other → one ≡ other
same_some one other e = ap (λ o. unwrap_or o one) e

pub never_some : {V : Type 0} {A : Type 0} (v : V) → None ≡ Some v → A
never_some v e = absurd (differ e)
  where
    differ : None ≡ Some v → ⊥
    differ e = cc

pub never_true : {A : Type 0} → false ≡ true → A
never_true e = absurd (differ e)
  where
    differ : false ≡ true → ⊥
    differ e = cc

pub same_everywhere : {V W : Type 0} (f g : V → W) → ((v : V) → f v ≡ g v) → f ≡ g
same_everywhere f g each = λ i v. each v i

-- what is at each place of a list of the same
pub same_at : {V : Type 0} (v : V) (count place : ℕ) → get_or (replicate count v) place v ≡ v
same_at v zero place = refl
same_at v (suc count) zero = refl
same_at v (suc count) (suc place) = same_at v count place

pub mapped_none : {V W : Type 0} (f : V → W) (count : ℕ) → map (option_map f) (replicate count None) ≡ replicate count None
mapped_none f zero = refl
mapped_none f (suc count) = ap (λ places. None ∷ places) (mapped_none f count)

-- another value of a domain
pub other_found : {V : Type 0} (number other : ℕ) (v : V) (table : List (ℕ × V)) → other ≢ number
    → lookup (at_number other) (set_value (at_number number) table v) ≡ lookup (at_number other) table
other_found number other v table off = other_set (at_number number) (at_number other) table v (other_fails other number off)

module _ {V : Type 0} where
  abbrev value_of : ℕ × V → V
  value_of entry = entry.1

  cons_by : (b : Bool) (entry : ℕ × V) (more : Option (ℕ × V))
      → option_map value_of (cond b (Some entry) more) ≡ cond b (Some entry.1) (option_map value_of more)
  cons_by true entry more = refl
  cons_by false entry more = refl

  at_cons : (number : ℕ) (entry : ℕ × V) (table : List (ℕ × V))
      → at number (entry ∷ table) ≡ cond (entry.0 == number) (Some entry.1) (at number table)
  at_cons number entry table = cons_by (entry.0 == number) entry (find (λ (it : ℕ × V). it.0 == number) table)

  pub at_head : (number : ℕ) (entry : ℕ × V) (table : List (ℕ × V)) → (entry.0 == number) ≡ true → at number (entry ∷ table) ≡ Some entry.1
  at_head number entry table on = at_cons number entry table ∙ ap (λ b. cond b (Some entry.1) (at number table)) on

  pub at_behind : (number : ℕ) (entry : ℕ × V) (table : List (ℕ × V)) → (entry.0 == number) ≡ false
      → at number (entry ∷ table) ≡ at number table
  at_behind number entry table off = at_cons number entry table ∙ ap (λ b. cond b (Some entry.1) (at number table)) off

  changed_by : (number : ℕ) (v was : V) (entry : ℕ × V) (table : List (ℕ × V)) (b : Bool) → (entry.0 == number) ≡ b
      → (at number table ≡ Some was → at number (changed number v table) ≡ Some v) → at number (entry ∷ table) ≡ Some was
      → at number (cond b (number, v) entry ∷ changed number v table) ≡ Some v
  changed_by number v was entry table true is on e = at_head number (number, v) (changed number v table) (eq-eqb number number refl)
  changed_by number v was entry table false is on e =
      at_behind number entry (changed number v table) is ∙ on (sym (at_behind number entry table is) ∙ e)

  pub at_changed : (number : ℕ) (v was : V) (table : List (ℕ × V)) → at number table ≡ Some was
      → at number (changed number v table) ≡ Some v
  at_changed number v was [] e = never_some was e
  at_changed number v was (entry ∷ table) e = changed_by number v was entry table (entry.0 == number) refl (at_changed number v was table) e

  other_by : (number other : ℕ) (v : V) (entry : ℕ × V) (table : List (ℕ × V)) (b : Bool) → (entry.0 == number) ≡ b → other ≢ number
      → at other (changed number v table) ≡ at other table
      → at other (cond b (number, v) entry ∷ changed number v table) ≡ at other (entry ∷ table)
  other_by number other v entry table true is off on =
      at_behind other (number, v) (changed number v table) (ne_eqb number other (λ same. off (sym same)))
      ∙ on
      ∙ sym (at_behind other entry table (ne_eqb entry.0 other (λ same. off (sym same ∙ eqb-true entry.0 number is))))
  other_by number other v entry table false is off on =
      at_cons other entry (changed number v table) ∙ ap (λ more. cond (entry.0 == other) (Some entry.1) more) on
      ∙ sym (at_cons other entry table)

  pub at_changed_other : (number other : ℕ) (v : V) (table : List (ℕ × V)) → other ≢ number
      → at other (changed number v table) ≡ at other table
  at_changed_other number other v [] off = refl
  at_changed_other number other v (entry ∷ table) off =
      other_by number other v entry table (entry.0 == number) refl off (at_changed_other number other v table off)

  mapped_by : {W : Type 0} (f : V → W) (b : Bool) (entry : ℕ × V) (one other : Option W) → one ≡ other
      → cond b (Some (f entry.1)) one ≡ cond b (Some (f entry.1)) other
  mapped_by f b entry one other e = ap (λ more. cond b (Some (f entry.1)) more) e

  pushed : {W : Type 0} (f : V → W) (b : Bool) (v : V) (more : Option V)
      → option_map f (cond b (Some v) more) ≡ cond b (Some (f v)) (option_map f more)
  pushed f true v more = refl
  pushed f false v more = refl

-- a table of other values
pub at_mapped : {V W : Type 0} (f : V → W) (number : ℕ) (table : List (ℕ × V))
    → at number (map (λ (entry : ℕ × V). (entry.0, f entry.1)) table) ≡ option_map f (at number table)
at_mapped f number [] = refl
at_mapped {V} {W} f number (entry ∷ table) =
    at_cons number (entry.0, f entry.1) (map (λ (entry : ℕ × V). (entry.0, f entry.1)) table)
    ∙ mapped_by f (entry.0 == number) entry _ _ (at_mapped f number table)
    ∙ sym (ap (option_map f) (at_cons number entry table) ∙ pushed f (entry.0 == number) entry.1 (at number table))
