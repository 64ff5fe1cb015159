-- How often a number is in a list, and in a table.
use Rattle.std.proofs.Common.{◌≡◌, ◌≤◌, ◌⊎◌, ◌+◌, ℕ, zero, suc, Bool, true, false, cond, ◌||◌, List, [], ◌∷◌, ◌++◌, Option, None, Some}
use Rattle.std.proofs.Common.{refl, sym, ap, subst, inl, inr, arith, ◌∙◌, true≢false}
use Rattle.std.proofs.lemmas.Bool.{eqb-true}
use Rattle.std.specs.List.{list_any}
use Rattle.std.specs.Prelude.{◌==◌, filter}
use Rattle.iox_machine.specs.NumberLaws.{numbers_in}
use Rattle.iox_machine.specs.Table.{changed}

-- one, if this is so
abbrev pub one_if : Bool → ℕ
one_if b = cond b 1 0

-- how often a number is in a list
abbrev pub times : ℕ → List ℕ → ℕ
times number [] = 0
times number (one ∷ more) = one_if (one == number) + times number more

-- how often a number is told
abbrev pub of_told : Option ℕ → ℕ → ℕ
of_told None number = 0
of_told (Some told) number = one_if (told == number)

pub longer : (a x y : ℕ) → x ≤ y → a + x ≤ a + y
longer a x y h = omega (arith, h)

pub past : (a x y : ℕ) → x ≤ y → x ≤ a + y
past a x y h = omega (arith, h)

pub behind : (a x y e : ℕ) → x ≡ y + e → a + x ≡ (a + y) + e
behind a x y e h = omega (arith, h)

pub never-one : {A : Type 0} → 1 ≤ 0 → A
never-one h = absurd (never h)
  where
    never : 1 ≤ 0 → ⊥
    never h = omega (arith, h)

one-of : (x y : ℕ) → 1 ≤ x + y → (1 ≤ x) ⊎ (1 ≤ y)
one-of zero y h = inr (omega (arith, h))
one-of (suc x) y h = inl (omega arith)

of-told : (told : Option ℕ) (number : ℕ) → 1 ≤ of_told told number → told ≡ Some number
of-told None number h = never-one h
of-told (Some one) number h = here (one == number) refl h
  where
    here : (b : Bool) → (one == number) ≡ b → 1 ≤ one_if b → Some one ≡ Some number
    here true is h = ap Some (eqb-true one number is)
    here false is h = never-one h

module _ {V : Type 0} where
  -- whether something goes by a number
  abbrev pub has : ℕ → List (ℕ × V) → Bool
  has number table = list_any (λ entry. entry.0 == number) table

  -- By no number goes more than before, but for one that is told.
  abbrev pub Adds : List (ℕ × V) → Option ℕ → List (ℕ × V) → Type 0
  Adds old told new = (number : ℕ) → times number (numbers_in new) ≤ times number (numbers_in old) + of_told told number

  pub joined-has : (one : ℕ) (xs ys : List (ℕ × V)) → has one (xs ++ ys) ≡ true → (has one xs ≡ true) ⊎ (has one ys ≡ true)
  joined-has one [] ys e = inr e
  joined-has one (entry ∷ xs) ys e = here (entry.0 == one) e (joined-has one xs ys)
    where
      here : (b : Bool) → (b || has one (xs ++ ys)) ≡ true → (has one (xs ++ ys) ≡ true → (has one xs ≡ true) ⊎ (has one ys ≡ true))
          → ((b || has one xs) ≡ true) ⊎ (has one ys ≡ true)
      here true e on = inl refl
      here false e on = on e

  pub one-has : (one number : ℕ) (v : V) → has one ((number, v) ∷ []) ≡ true → number ≡ one
  one-has one number v e = here (number == one) refl e
    where
      here : (b : Bool) → (number == one) ≡ b → (b || false) ≡ true → number ≡ one
      here true is e = eqb-true number one is
      here false is e = absurd (differ e)
        where
          differ : false ≡ true → ⊥
          differ e = cc

  pub filter-has : (one : ℕ) (test : ℕ × V → Bool) (table : List (ℕ × V)) → has one (filter test table) ≡ true → has one table ≡ true
  filter-has one test [] e = e
  filter-has one test (entry ∷ table) e = here (test entry) (entry.0 == one) e (filter-has one test table) refl
    where
      here : (b c : Bool) → has one (cond b (entry ∷ filter test table) (filter test table)) ≡ true
          → (has one (filter test table) ≡ true → has one table ≡ true) → (entry.0 == one) ≡ c → (c || has one table) ≡ true
      here b true e on is = refl
      here true false e on is = on (subst (λ (it : Bool). (it || has one (filter test table)) ≡ true) is e)
      here false false e on is = on e

  has-times : (number : ℕ) (table : List (ℕ × V)) → has number table ≡ true → 1 ≤ times number (numbers_in table)
  has-times number [] is = absurd (true≢false (sym is))
  has-times number (entry ∷ table) is = here (entry.0 == number) is (has-times number table)
    where
      here : (b : Bool) → (b || has number table) ≡ true → (has number table ≡ true → 1 ≤ times number (numbers_in table))
          → 1 ≤ one_if b + times number (numbers_in table)
      here true is on = omega arith
      here false is on = past 0 1 (times number (numbers_in table)) (on is)

  times-has : (number : ℕ) (table : List (ℕ × V)) → 1 ≤ times number (numbers_in table) → has number table ≡ true
  times-has number [] h = never-one h
  times-has number (entry ∷ table) h = here (entry.0 == number) h (times-has number table)
    where
      here : (b : Bool) → 1 ≤ one_if b + times number (numbers_in table) → (1 ≤ times number (numbers_in table) → has number table ≡ true)
          → (b || has number table) ≡ true
      here true h on = refl
      here false h on = on (omega (arith, h))

  -- who goes by a number after went by it before, or is told
  pub added : (number : ℕ) (old : List (ℕ × V)) (told : Option ℕ) (new : List (ℕ × V)) → Adds old told new → has number new ≡ true
      → (has number old ≡ true) ⊎ (told ≡ Some number)
  added number old told new adds is =
      elim (one-of (times number (numbers_in old)) (of_told told number)
      (reach (times number (numbers_in new)) (times number (numbers_in old) + of_told told number) (has-times number new is)
      (adds number))) [
        | inl was ↦ inl (times-has number old was)
        | inr came ↦ inr (of-told told number came)
      ]
    where
      reach : (x y : ℕ) → 1 ≤ x → x ≤ y → 1 ≤ y
      reach x y h k = omega (arith, h, k)

  key-kept : (b : Bool) (number : ℕ) (v : V) (entry : ℕ × V) → (b ≡ true → entry.0 ≡ number) → (cond b (number, v) entry).0 ≡ entry.0
  key-kept true number v entry on = sym (on refl)
  key-kept false number v entry on = refl

  times-changed : (one number : ℕ) (v : V) (table : List (ℕ × V))
      → times one (numbers_in (changed number v table)) ≡ times one (numbers_in table)
  times-changed one number v [] = refl
  times-changed one number v (entry ∷ table) =
      ap (λ (key : ℕ). one_if (key == one) + times one (numbers_in (changed number v table)))
      (key-kept (entry.0 == number) number v entry (λ is. eqb-true entry.0 number is))
      ∙ ap (λ (rest : ℕ). one_if (entry.0 == one) + rest) (times-changed one number v table)

  times-joined : (one number : ℕ) (v : V) (table : List (ℕ × V))
      → times one (numbers_in (table ++ (number, v) ∷ [])) ≡ times one (numbers_in table) + one_if (number == one)
  times-joined one number v [] = alone (one_if (number == one))
    where
      alone : (x : ℕ) → x + 0 ≡ 0 + x
      alone x = omega arith
  times-joined one number v (entry ∷ table) =
      behind (one_if (entry.0 == one)) (times one (numbers_in (table ++ (number, v) ∷ []))) (times one (numbers_in table))
      (one_if (number == one)) (times-joined one number v table)

  pub times-filtered : (one : ℕ) (test : ℕ × V → Bool) (table : List (ℕ × V))
      → times one (numbers_in (filter test table)) ≤ times one (numbers_in table)
  times-filtered one test [] = omega arith
  times-filtered one test (entry ∷ table) = here (test entry) (times-filtered one test table)
    where
      here : (b : Bool) → times one (numbers_in (filter test table)) ≤ times one (numbers_in table)
          → times one (numbers_in (cond b (entry ∷ filter test table) (filter test table)))
          ≤ one_if (entry.0 == one) + times one (numbers_in table)
      here true on = longer (one_if (entry.0 == one)) (times one (numbers_in (filter test table))) (times one (numbers_in table)) on
      here false on = past (one_if (entry.0 == one)) (times one (numbers_in (filter test table))) (times one (numbers_in table)) on

  pub adds-itself : (table : List (ℕ × V)) → Adds table None table
  adds-itself table number = same (times number (numbers_in table))
    where
      same : (x : ℕ) → x ≤ x + 0
      same x = omega arith

  module _ (origin table : List (ℕ × V)) (told : Option ℕ) (adds : Adds origin None table) where
    pub adds-still : Adds origin told table
    adds-still number =
        still (times number (numbers_in table)) (times number (numbers_in origin)) (of_told told number) (adds number)
      where
        still : (x o e : ℕ) → x ≤ o + 0 → x ≤ o + e
        still x o e h = omega (arith, h)

    pub adds-changed : (number : ℕ) (v : V) → Adds origin told (changed number v table)
    adds-changed number v one =
        still (times one (numbers_in (changed number v table))) (times one (numbers_in table)) (times one (numbers_in origin))
        (of_told told one) (times-changed one number v table) (adds one)
      where
        still : (y x o e : ℕ) → y ≡ x → x ≤ o + 0 → y ≤ o + e
        still y x o e is h = omega (arith, is, h)

    pub adds-filtered : (test : ℕ × V → Bool) → Adds origin told (filter test table)
    adds-filtered test one =
        still (times one (numbers_in (filter test table))) (times one (numbers_in table)) (times one (numbers_in origin))
        (of_told told one) (times-filtered one test table) (adds one)
      where
        still : (y x o e : ℕ) → y ≤ x → x ≤ o + 0 → y ≤ o + e
        still y x o e is h = omega (arith, is, h)

  pub adds-joined : (origin table : List (ℕ × V)) → Adds origin None table → (number : ℕ) (v : V)
      → Adds origin (Some number) (table ++ (number, v) ∷ [])
  adds-joined origin table adds number v one =
      still (times one (numbers_in (table ++ (number, v) ∷ []))) (times one (numbers_in table)) (times one (numbers_in origin))
      (one_if (number == one)) (times-joined one number v table) (adds one)
    where
      still : (y x o e : ℕ) → y ≡ x + e → x ≤ o + 0 → y ≤ o + e
      still y x o e is h = omega (arith, is, h)

  pub adds-on : (origin mid table : List (ℕ × V)) (told : Option ℕ) → Adds mid None table → Adds origin told mid → Adds origin told table
  adds-on origin mid table told more adds one =
      on (times one (numbers_in table)) (times one (numbers_in mid)) (times one (numbers_in origin)) (of_told told one) (more one)
      (adds one)
    where
      on : (y x o e : ℕ) → y ≤ x + 0 → x ≤ o + e → y ≤ o + e
      on y x o e h k = omega (arith, h, k)
