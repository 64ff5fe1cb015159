-- What holds of all of a list, of part of it, and of what goes by numbers.
use Rattle.std.proofs.Common.{◌≡◌, ◌≤◌, ◌-◌, ℕ, zero, suc, Bool, true, false, cond, List, [], ◌∷◌, ◌++◌, length, take, drop, Option, Some}
use Rattle.std.proofs.Common.{refl, sym, subst, arith, length-drop, true≢false}
use Rattle.std.proofs.lemmas.Bool.{eqb-true}
use Rattle.std.specs.List.{AllByRecursion}
use Rattle.std.specs.Prelude.{filter, fold, find, nat_lt, slice_get, option_map, ◌==◌}
use Rattle.iox_machine.specs.Mailbox.{newest}
use Rattle.iox_machine.specs.Table.{at, changed}
use Rattle.iox_machine.proofs.Cases.{same-some, never-some}

module _ {X : Type 0} (P : X → Type 0) where
  pub all-joined : (xs ys : List X) → AllByRecursion P xs → AllByRecursion P ys → AllByRecursion P (xs ++ ys)
  all-joined [] ys all more = more
  all-joined (x ∷ xs) ys all more = (all.0, all-joined xs ys all.1 more)

  pub all-taken : (n : ℕ) (xs : List X) → AllByRecursion P xs → AllByRecursion P (take n xs)
  all-taken zero xs all = tt
  all-taken (suc n) [] all = tt
  all-taken (suc n) (x ∷ xs) all = (all.0, all-taken n xs all.1)

  pub all-dropped : (n : ℕ) (xs : List X) → AllByRecursion P xs → AllByRecursion P (drop n xs)
  all-dropped zero xs all = all
  all-dropped (suc n) [] all = tt
  all-dropped (suc n) (x ∷ xs) all = all-dropped n xs all.1

  pub all-newest : (n : ℕ) (xs : List X) → AllByRecursion P xs → AllByRecursion P (newest n xs)
  all-newest n xs all = all-dropped (length xs - n) xs all

  all-chosen : (b : Bool) (x : X) (xs : List X) → P x → AllByRecursion P xs → AllByRecursion P (cond b (x ∷ xs) xs)
  all-chosen true x xs p all = (p, all)
  all-chosen false x xs p all = all

  pub all-filtered : (test : X → Bool) (xs : List X) → AllByRecursion P xs → AllByRecursion P (filter test xs)
  all-filtered test [] all = tt
  all-filtered test (x ∷ xs) all = all-chosen (test x) x (filter test xs) all.0 (all-filtered test xs all.1)

  pub first-of : (xs : List X) (x : X) → slice_get xs 0 ≡ Some x → AllByRecursion P xs → P x
  first-of [] x e all = never-some x e
  first-of (y ∷ xs) x e all = subst P (same-some y x e) all.0

pub all-weaker : {X : Type 0} (P Q : X → Type 0) → ((x : X) → P x → Q x) → (xs : List X) → AllByRecursion P xs → AllByRecursion Q xs
all-weaker P Q on [] all = tt
all-weaker P Q on (x ∷ xs) all = (on x all.0, all-weaker P Q on xs all.1)

pub all-both : {X : Type 0} (P Q R : X → Type 0) → ((x : X) → P x → Q x → R x) → (xs : List X) → AllByRecursion P xs → AllByRecursion Q xs
    → AllByRecursion R xs
all-both P Q R on [] ps qs = tt
all-both P Q R on (x ∷ xs) ps qs = (on x ps.0 qs.0, all-both P Q R on xs ps.1 qs.1)

pub newest-fits : {X : Type 0} (n : ℕ) (xs : List X) → length (newest n xs) ≤ n
newest-fits n xs = omega (arith, length-drop (length xs - n) xs)

pub take-fits : {X : Type 0} (n : ℕ) (xs : List X) → length (take n xs) ≤ n
take-fits zero xs = omega arith
take-fits (suc n) [] = omega arith
take-fits (suc n) (x ∷ xs) = omega (arith, take-fits n xs)

pub filter-fits : {X : Type 0} (test : X → Bool) (xs : List X) → length (filter test xs) ≤ length xs
filter-fits test [] = omega arith
filter-fits test (x ∷ xs) = fits (test x) (filter-fits test xs)
  where
    fits : (b : Bool) → length (filter test xs) ≤ length xs → length (cond b (x ∷ filter test xs) (filter test xs)) ≤ length (x ∷ xs)
    fits true h = omega arith
    fits false h = omega arith

pub fold-keeps : {A X : Type 0} (P : A → Type 0) (f : A → X → A) → ((a : A) (x : X) → P a → P (f a x)) → (xs : List X) (a : A) → P a → P
    (fold f a xs)
fold-keeps P f on [] a p = p
fold-keeps P f on (x ∷ xs) a p = fold-keeps P f on xs (f a x) (on a x p)

-- ---- what goes by numbers

module _ {V : Type 0} (P : ℕ → V → Type 0) where
  at-step : (b : Bool) (entry : ℕ × V) (number : ℕ) (more : Option (ℕ × V)) (v : V) → (b ≡ true → entry.0 ≡ number) → P entry.0 entry.1
      → (option_map (λ (e : ℕ × V). e.1) more ≡ Some v → P number v) → option_map (λ (e : ℕ × V). e.1) (cond b (Some entry) more) ≡ Some v
      → P number v
  at-step true entry number more v same p on e = subst (λ w. P number w) (same-some entry.1 v e) (subst (λ n. P n entry.1) (same refl) p)
  at-step false entry number more v same p on e = on e

  pub all-at : (number : ℕ) (v : V) (table : List (ℕ × V)) → at number table ≡ Some v → AllByRecursion (λ entry. P entry.0 entry.1) table
      → P number v
  all-at number v [] e all = never-some v e
  all-at number v (entry ∷ table) e all =
      at-step (entry.0 == number) entry number (find (λ other. other.0 == number) table) v (λ is. eqb-true entry.0 number is) all.0
      (λ found. all-at number v table found all.1) e

  changed-step : (b : Bool) (entry : ℕ × V) (number : ℕ) (v : V) → P number v → P entry.0 entry.1
      → P (cond b (number, v) entry).0 (cond b (number, v) entry).1
  changed-step true entry number v is was = is
  changed-step false entry number v is was = was

  pub all-changed : (number : ℕ) (v : V) (table : List (ℕ × V)) → P number v → AllByRecursion (λ entry. P entry.0 entry.1) table
      → AllByRecursion (λ entry. P entry.0 entry.1) (changed number v table)
  all-changed number v [] is all = tt
  all-changed number v (entry ∷ table) is all =
      (changed-step (entry.0 == number) entry number v is all.0, all-changed number v table is all.1)

pub first-there : {X : Type 0} (xs : List X) → nat_lt 0 (length xs) ≡ true → (x : X) × (slice_get xs 0 ≡ Some x)
first-there [] is = absurd (true≢false (sym is))
first-there (x ∷ xs) is = (x, refl)
