-- What comes gets a name, of the machine's.
use Rattle.std.proofs.Common.{◌≡◌, ◌≢◌, ◌∷◌, [], ◌++◌, ℕ, true, List, None, refl, sym, ap, inl, inr, ◌∙◌}
use Rattle.std.proofs.lemmas.Bool.{cases_eq, eq-eqb, ne_eqb}
use Rattle.std.specs.Prelude.{is_some, if◌then◌else◌}
use Rattle.iox_domain_machine.specs.Naming.{NamesPorts, with_name}
use Rattle.iox_domain_machine.proofs.ComesTables.{at_end_other}
use Rattle.iox_domain_machine.proofs.Found.{never_true}
use Rattle.iox_domain_machine.proofs.TableEnds.{at_end}
use Rattle.iox_machine.specs.Table.{at}

-- a name is given to a number that had none
module _ {V : Type 0} (names : ℕ → ℕ) (table : List (ℕ × V)) (name next : ℕ) (v : V) (named : NamesPorts names table)
    (unnamed : names next ≡ 0) (fresh : at name table ≡ None) (some : name ≢ 0) where
  pub name_of_came : with_name next name names next ≡ name
  name_of_came = ap (λ b. if b then name else names next) (eq-eqb next next refl)

  pub name_of_other : (other : ℕ) → other ≢ next → with_name next name names other ≡ names other
  name_of_other other off = ap (λ b. if b then name else names other) (ne_eqb other next off)

  -- who has a name is another
  pub came_earlier : (other : ℕ) → names other ≢ 0 → other ≢ next
  came_earlier other off same = off (ap names same ∙ unnamed)

  -- who was there has another name
  not_name : (other : ℕ) → is_some (at other table) ≡ true → other ≢ name
  not_name other there same = never_true (sym (ap is_some (ap (λ n. at n table) same ∙ fresh)) ∙ there)

  pub kept_at_end : (other : ℕ) → is_some (at other table) ≡ true → at other (table ++ (name, v) ∷ []) ≡ at other table
  kept_at_end other there = at_end_other name v other table (not_name other there)

  pub another_name : (other : ℕ) → names other ≢ 0 → names other ≢ name
  another_name other off = not_name (names other) (named.known other off)

  pub named_came : NamesPorts (with_name next name names) (table ++ (name, v) ∷ [])
  named_came = record {
    known = λ other off. elim (cases_eq other next) [
      | inl same ↦
          ap (λ n. is_some (at n (table ++ (name, v) ∷ []))) (ap (with_name next name names) same ∙ name_of_came)
          ∙ ap is_some (at_end name v table fresh)
      | inr apart ↦
          let there = named.known other (λ none. off (name_of_other other apart ∙ none)) in
          ap (λ n. is_some (at n (table ++ (name, v) ∷ []))) (name_of_other other apart)
          ∙ ap is_some (kept_at_end (names other) there) ∙ there
    ];
    apart = λ first second off same. elim (cases_eq first next) [
      | inl own ↦ elim (cases_eq second next) [
        | inl also ↦ own ∙ sym also
        | inr apart ↦
            let is_name : names second ≡ name =
            sym (name_of_other second apart) ∙ sym same ∙ ap (with_name next name names) own ∙ name_of_came in
            absurd (another_name second (λ none. some (sym is_name ∙ none)) is_name)
      ]
      | inr apart ↦ elim (cases_eq second next) [
        | inl also ↦
            let is_name : names first ≡ name =
            sym (name_of_other first apart) ∙ same ∙ ap (with_name next name names) also ∙ name_of_came in
            absurd (another_name first (λ none. some (sym is_name ∙ none)) is_name)
        | inr other ↦ named.apart first second (λ none. off (name_of_other first apart ∙ none))
            (sym (name_of_other first apart) ∙ same ∙ name_of_other second other)
      ]
    ];
    each = λ there is. elim (cases_eq there name) [
      | inl same ↦ (next, name_of_came ∙ sym same, λ none. some (sym same ∙ none))
      | inr off ↦
          let it = named.each there (sym (ap is_some (at_end_other name v there table off)) ∙ is) in
          (it.0, name_of_other it.0 (came_earlier it.0 (λ none. it.2 (sym it.1 ∙ none))) ∙ it.1, it.2)
    ];
  }
