-- How often a message may be sent still, by what a service has, and what commands do to that.
use Rattle.std.proofs.Common.{◌≡◌, ◌≤◌, ◌<◌, ◌+◌, ℕ, Bool, true, false, cond, not, ◌&&◌, List, [], ◌∷◌, ◌++◌, Option, None, Some, refl, sym}
use Rattle.std.proofs.Common.{ap, subst, inl, inr, arith, ◌∙◌}
use Rattle.std.proofs.lemmas.Bool.{eqb-true, eqb-false, cases_Bool, leb-true, leb-false}
use Rattle.std.specs.Prelude.{◌==◌, nat_le, find, option_map}
use Rattle.iox_machine.specs.Message.{Loan}
use Rattle.iox_machine.specs.NumberLaws.{numbers_in}
use Rattle.iox_machine.specs.Service.{Publisher, Service}
use Rattle.iox_machine.proofs.Shorthands.{with_publisher}
use Rattle.iox_machine.specs.Table.{at, changed, removed}
use Rattle.iox_machine.proofs.Cases.{never-some, same-some}
use Rattle.iox_machine.proofs.Counts.{one_if, times}
use Rattle.iox_machine.proofs.Nexts.{Same, next_at, next_of}
use Rattle.iox_machine.proofs.Tables.{at-changed, at-changed-other}

-- one, if a message is still to come, where this is the number of the next one
abbrev pub to_come : ℕ → Option ℕ → ℕ
to_come n None = 0
to_come n (Some next) = one_if (nat_le next n)

come-one : (n next : ℕ) → one_if (nat_le (next + 1) n) + one_if (next == n) ≤ one_if (nat_le next n)
come-one n next =
    here (nat_le (next + 1) n) (next == n) (nat_le next n) (λ is. leb-true (next + 1) n is) (λ is. eqb-true next n is)
    (λ is. leb-false next n is)
  where
    beyond : (m : ℕ) → m + 1 ≤ n → n < m → ⊥
    beyond m h k = omega (arith, h, k)

    apart : (m : ℕ) → m ≡ n → n < m → ⊥
    apart m is k = omega (arith, is, k)

    both : (m : ℕ) → m + 1 ≤ n → m ≡ n → ⊥
    both m h is = omega (arith, h, is)

    here : (a b c : Bool) → (a ≡ true → next + 1 ≤ n) → (b ≡ true → next ≡ n) → (c ≡ false → n < next)
        → one_if a + one_if b ≤ one_if c
    here true true c more same less = absurd (both next (more refl) (same refl))
    here true false true more same less = omega arith
    here true false false more same less = absurd (beyond next (more refl) (less refl))
    here false true true more same less = omega arith
    here false true false more same less = absurd (apart next (same refl) (less refl))
    here false false c more same less = plain (one_if c)
      where
        plain : (x : ℕ) → 0 + 0 ≤ x
        plain x = omega arith

pub to-come-once : (n : ℕ) (o : Option ℕ) → to_come n o ≤ 1
to-come-once n None = omega arith
to-come-once n (Some next) = here (nat_le next n)
  where
    here : (b : Bool) → one_if b ≤ 1
    here true = omega arith
    here false = omega arith

module _ {T : Type 0} (p n : ℕ) where
  -- whether a loan is that message of the publisher
  abbrev pub is_it : Loan T → Bool
  is_it loan = (loan.publisher == p) && (loan.number == n)

  -- how many loans are
  abbrev pub loaned : List (ℕ × Loan T) → ℕ
  loaned [] = 0
  loaned (entry ∷ more) = one_if (is_it entry.1) + loaned more

  -- how often the message may be sent still by a service: it is to come, or is lent
  abbrev pub left_in : Service T → ℕ
  left_in service = to_come n (next_at p service) + loaned service.loans

  pub same-left : (old new : Service T) → Same old new → left_in new ≡ left_in old
  same-left old new (loans, nexts) =
      ap (λ (l : List (ℕ × Loan T)). to_come n (next_at p new) + loaned l) loans
      ∙ ap (λ (o : Option ℕ). to_come n o + loaned old.loans) (nexts p)

  -- ---- loans

  pub loaned-joined : (number : ℕ) (loan : Loan T) (table : List (ℕ × Loan T))
      → loaned (table ++ (number, loan) ∷ []) ≡ loaned table + one_if (is_it loan)
  loaned-joined number loan [] = alone (one_if (is_it loan))
    where
      alone : (x : ℕ) → x + 0 ≡ 0 + x
      alone x = omega arith
  loaned-joined number loan (entry ∷ table) =
      behind (one_if (is_it entry.1)) (loaned (table ++ (number, loan) ∷ [])) (loaned table) (one_if (is_it loan))
      (loaned-joined number loan table)
    where
      behind : (a x y e : ℕ) → x ≡ y + e → a + x ≡ (a + y) + e
      behind a x y e h = omega (arith, h)

  pub loaned-fewer : (number : ℕ) (table : List (ℕ × Loan T)) → loaned (removed number table) ≤ loaned table
  loaned-fewer number [] = omega arith
  loaned-fewer number (entry ∷ table) = here (entry.0 == number) (loaned-fewer number table)
    where
      keeps : (a r s : ℕ) → r ≤ s → a + r ≤ a + s
      keeps a r s h = omega (arith, h)

      drops : (a r s : ℕ) → r ≤ s → r ≤ a + s
      drops a r s h = omega (arith, h)

      here : (b : Bool) → loaned (removed number table) ≤ loaned table
          → loaned (cond (not b) (entry ∷ removed number table) (removed number table)) ≤ one_if (is_it entry.1) + loaned table
      here true on = drops (one_if (is_it entry.1)) (loaned (removed number table)) (loaned table) on
      here false on = keeps (one_if (is_it entry.1)) (loaned (removed number table)) (loaned table) on

  pub loaned-removed : (number : ℕ) (loan : Loan T) (table : List (ℕ × Loan T)) → at number table ≡ Some loan
      → loaned (removed number table) + one_if (is_it loan) ≤ loaned table
  loaned-removed number loan [] e = never-some loan e
  loaned-removed number loan (entry ∷ table) e =
      here (entry.0 == number) e (loaned-removed number loan table) (loaned-fewer number table)
    where
      first : (a b r s : ℕ) → r ≤ s → a ≡ b → r + b ≤ a + s
      first a b r s h is = omega (arith, h, is)

      rest : (a b r s : ℕ) → r + b ≤ s → (a + r) + b ≤ a + s
      rest a b r s h = omega (arith, h)

      here : (b : Bool)
          → option_map (λ (it : ℕ × Loan T). it.1) (cond b (Some entry) (find (λ (it : ℕ × Loan T). it.0 == number) table)) ≡ Some loan
          → (at number table ≡ Some loan → loaned (removed number table) + one_if (is_it loan) ≤ loaned table)
          → loaned (removed number table) ≤ loaned table
          → loaned (cond (not b) (entry ∷ removed number table) (removed number table)) + one_if (is_it loan)
          ≤ one_if (is_it entry.1) + loaned table
      here true e on fewer =
          first (one_if (is_it entry.1)) (one_if (is_it loan)) (loaned (removed number table)) (loaned table) fewer
          (ap (λ (it : Loan T). one_if (is_it it)) (same-some entry.1 loan e))
      here false e on fewer =
          rest (one_if (is_it entry.1)) (one_if (is_it loan)) (loaned (removed number table)) (loaned table) (on e)

  loaned-kept : (number : ℕ) (loan : Loan T) (table : List (ℕ × Loan T)) → times number (numbers_in table) ≤ 0
      → loaned (changed number loan table) ≡ loaned table
  loaned-kept number loan [] none = refl
  loaned-kept number loan (entry ∷ table) none =
      here (entry.0 == number) none (loaned-kept number loan table)
    where
      more : {A : Type 0} → (r : ℕ) → 1 + r ≤ 0 → A
      more r h = absurd (never r h)
        where
          never : (r : ℕ) → 1 + r ≤ 0 → ⊥
          never r h = omega (arith, h)

      plain : (r : ℕ) → 0 + r ≤ 0 → r ≤ 0
      plain r h = omega (arith, h)

      here : (b : Bool) → one_if b + times number (numbers_in table) ≤ 0
          → (times number (numbers_in table) ≤ 0 → loaned (changed number loan table) ≡ loaned table)
          → one_if (is_it (cond b (number, loan) entry).1) + loaned (changed number loan table) ≡ one_if (is_it entry.1) + loaned table
      here true none on = more (times number (numbers_in table)) none
      here false none on =
          ap (λ (k : ℕ). one_if (is_it entry.1) + k) (on (plain (times number (numbers_in table)) none))

  pub loaned-written : (number : ℕ) (was loan : Loan T) (table : List (ℕ × Loan T)) → is_it loan ≡ is_it was
      → at number table ≡ Some was → times number (numbers_in table) ≤ 1
      → loaned (changed number loan table) ≡ loaned table
  loaned-written number was loan [] same e once = refl
  loaned-written number was loan (entry ∷ table) same e once =
      here (entry.0 == number) e once (loaned-written number was loan table same) (loaned-kept number loan table)
    where
      none : (r : ℕ) → 1 + r ≤ 1 → r ≤ 0
      none r h = omega (arith, h)

      plain : (r : ℕ) → 0 + r ≤ 1 → r ≤ 1
      plain r h = omega (arith, h)

      here : (b : Bool)
          → option_map (λ (it : ℕ × Loan T). it.1) (cond b (Some entry) (find (λ (it : ℕ × Loan T). it.0 == number) table)) ≡ Some was
          → one_if b + times number (numbers_in table) ≤ 1
          → (at number table ≡ Some was → times number (numbers_in table) ≤ 1 → loaned (changed number loan table) ≡ loaned table)
          → (times number (numbers_in table) ≤ 0 → loaned (changed number loan table) ≡ loaned table)
          → one_if (is_it (cond b (number, loan) entry).1) + loaned (changed number loan table) ≡ one_if (is_it entry.1) + loaned table
      here true e once on kept =
          ap (λ (b : Bool). one_if b + loaned (changed number loan table))
          (same ∙ ap is_it (sym (same-some entry.1 was e)))
          ∙ ap (λ (k : ℕ). one_if (is_it entry.1) + k) (kept (none (times number (numbers_in table)) once))
      here false e once on kept =
          ap (λ (k : ℕ). one_if (is_it entry.1) + k) (on e (plain (times number (numbers_in table)) once))

  -- ---- a next message

  -- the next message of a publisher is no longer to come
  pub come-next : (number : ℕ) (one after : Publisher T) (service : Service T) → at number service.publishers ≡ Some one
      → after.next ≡ one.next + 1
      → to_come n (next_at p (with_publisher number after service)) + one_if ((number == p) && (one.next == n))
      ≤ to_come n (next_at p service)
  come-next number one after service found is = elim (cases_Bool (number == p)) [
    | inl same ↦ here same
    | inr off ↦ there off
  ]
    where
      here : (number == p) ≡ true
          → to_come n (next_at p (with_publisher number after service)) + one_if ((number == p) && (one.next == n))
          ≤ to_come n (next_at p service)
      here same =
          subst (λ (b : Bool). to_come n (next_at p (with_publisher number after service)) + one_if (b && (one.next == n))
          ≤ to_come n (next_at p service)) (sym same)
          (subst (λ (k : ℕ). to_come n (next_at k (with_publisher number after service)) + one_if (one.next == n)
          ≤ to_come n (next_at k service)) (eqb-true number p same)
          (subst (λ (o : Option ℕ). to_come n o + one_if (one.next == n) ≤ to_come n (next_at number service))
          (sym (ap next_of (at-changed number after one service.publishers found) ∙ ap (λ (k : ℕ). Some k) is))
          (subst (λ (o : Option ℕ). one_if (nat_le (one.next + 1) n) + one_if (one.next == n) ≤ to_come n o)
          (sym (ap next_of found)) (come-one n one.next))))

      there : (number == p) ≡ false
          → to_come n (next_at p (with_publisher number after service)) + one_if ((number == p) && (one.next == n))
          ≤ to_come n (next_at p service)
      there off =
          subst (λ (b : Bool). to_come n (next_at p (with_publisher number after service)) + one_if (b && (one.next == n))
          ≤ to_come n (next_at p service)) (sym off)
          (subst (λ (o : Option (Publisher T)). to_come n (next_of o) + 0 ≤ to_come n (next_at p service))
          (sym (at-changed-other number p after service.publishers (λ same. eqb-false number p off (sym same))))
          (plain (to_come n (next_at p service))))
        where
          plain : (x : ℕ) → x + 0 ≤ x
          plain x = omega arith
