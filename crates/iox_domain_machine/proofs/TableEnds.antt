-- What has a number at the end of a table.
use Rattle.std.proofs.Common.{◌≡◌, ◌<◌, ◌+◌, ◌∷◌, [], ◌++◌, ℕ, cond, not, List, None, Some, refl, sym, ap, ◌∙◌, arith}
use Rattle.std.proofs.Math.Logic.{⊎_elim}
use Rattle.std.proofs.lemmas.Bool.{eq-eqb, ne_eqb}
use Rattle.std.proofs.lemmas.Bool.Decides.{eqb_tells}
use Rattle.iox_domain_machine.proofs.Found.{never_some, at_head, at_behind}
use Rattle.iox_machine.specs.Table.{at, changed, removed}

module _ {V : Type 0} where
  pub at_end : (number : ℕ) (v : V) (table : List (ℕ × V)) → at number table ≡ None → at number (table ++ (number, v) ∷ []) ≡ Some v
  at_end number v [] none = at_head number (number, v) [] (eq-eqb number number refl)
  at_end number v (entry ∷ table) none = ⊎_elim
      (λ same. never_some entry.1 (sym none ∙ at_head number entry table same.0))
      (λ off. at_behind number entry (table ++ (number, v) ∷ []) off.0
      ∙ at_end number v table (sym (at_behind number entry table off.0) ∙ none))
      (eqb_tells entry.0 number)

  pub changed_end : (number : ℕ) (v was : V) (table : List (ℕ × V)) → at number table ≡ None
      → changed number v (table ++ (number, was) ∷ []) ≡ table ++ (number, v) ∷ []
  changed_end number v was [] none = ap (λ b. cond b (number, v) (number, was) ∷ []) (eq-eqb number number refl)
  changed_end number v was (entry ∷ table) none = ⊎_elim
      (λ same. never_some entry.1 (sym none ∙ at_head number entry table same.0))
      (λ off. ap (λ b. cond b (number, v) entry ∷ changed number v (table ++ (number, was) ∷ [])) off.0
      ∙ ap (λ more. entry ∷ more) (changed_end number v was table (sym (at_behind number entry table off.0) ∙ none)))
      (eqb_tells entry.0 number)

  pub removed_end : (number : ℕ) (v : V) (table : List (ℕ × V)) → at number table ≡ None
      → removed number (table ++ (number, v) ∷ []) ≡ table
  removed_end number v [] none = ap (λ b. cond (not b) ((number, v) ∷ []) []) (eq-eqb number number refl)
  removed_end number v (entry ∷ table) none = ⊎_elim
      (λ same. never_some entry.1 (sym none ∙ at_head number entry table same.0))
      (λ off. ap (λ b. cond (not b) (entry ∷ removed number (table ++ (number, v) ∷ [])) (removed number (table ++ (number, v) ∷ [])))
      off.0
      ∙ ap (λ more. entry ∷ more) (removed_end number v table (sym (at_behind number entry table off.0) ∙ none)))
      (eqb_tells entry.0 number)

  -- above all numbers of a table nothing goes by one
  abbrev pub numbers_total : List (ℕ × V) → ℕ
  numbers_total [] = 0
  numbers_total (entry ∷ table) = entry.0 + numbers_total table

  pub none_above : (number : ℕ) (table : List (ℕ × V)) → numbers_total table < number → at number table ≡ None
  none_above number [] over = refl
  none_above number (entry ∷ table) over =
      at_behind number entry table (ne_eqb entry.0 number (λ same. absurd (omega (arith, over, same))))
      ∙ none_above number table (omega (arith, over))
