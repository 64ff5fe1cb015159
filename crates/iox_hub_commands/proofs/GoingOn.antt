-- A table goes on through each change, and through one after another.
use Rattle.std.proofs.Common.{arith, ◌≡◌, ◌∙◌, ◌≤◌, ◌+◌, ℕ, Bool, true, false, None, inl, inr, ◌⊎◌, refl, ap}
use Rattle.std.proofs.lemmas.Bool.{eqb-true, eq-eqb}
use Rattle.std.specs.Map.{lookup, remove_entry}
use Rattle.std.specs.Prelude.{nat_eq}
use Rattle.iox_container.proofs.Rising.{Rises-push, Rises-removed}
use Rattle.iox_container.proofs.Telling.{found_and_gone}
use Rattle.iox_delivery.specs.Container.NumberTable.{NumberTable, Rises, value_at}
use Rattle.iox_hub_commands.specs.Lives.{Stays, GetsOne, LosesOne, ChangesOne, GoesOn}

module _ {V : Type 0} where
  pub stays_on : (old new : NumberTable V) → Stays old new → GoesOn old new
  stays_on old new (entries, next) rises
      = (rw (entries, next) rises, omega (arith, next), λ number below. inl (ap (lookup (nat_eq number)) entries))

  gets_on : (old new : NumberTable V) → GetsOne old new → GoesOn old new
  gets_on old new (value, entries, next) rises = (
    rw (entries, next) (Rises-push 1 old.next old.entries value rises),
    omega (arith, next),
    λ number below. inl (ap (lookup (nat_eq number)) entries ∙ (found_and_gone V).put_others old value number
        (λ same. omega (arith, below, same))),
  )

  gone_or_there : (gone number : ℕ) (is : Bool) → nat_eq number gone ≡ is → (old new : NumberTable V)
      → new.entries ≡ remove_entry (nat_eq gone) old.entries → Rises 1 old.entries old.next
      → (value_at new number ≡ value_at old number) ⊎ (value_at new number ≡ None)
  gone_or_there gone number true is old new entries rises =
      inr (ap (lookup (nat_eq number)) entries ∙ rw (eqb-true number gone is) ((found_and_gone V).gone old gone rises))
  gone_or_there gone number false is old new entries rises =
      inl (ap (lookup (nat_eq number)) entries ∙ (found_and_gone V).gone_others old gone number (λ same. cc (is, eq-eqb number gone same)))

  loses_on : (old new : NumberTable V) → LosesOne old new → GoesOn old new
  loses_on old new (gone, entries, next) rises = (
    rw (entries, next) (Rises-removed gone 1 old.next old.entries rises),
    omega (arith, next),
    λ number below. gone_or_there gone number (nat_eq number gone) refl old new entries rises,
  )

  -- a table that is the same changes by nothing
  pub same_changes : (old new : NumberTable V) → new ≡ old → ChangesOne old new
  same_changes old new is = rw is (inl (refl, refl))

  pub stay_longer : (old mid new : NumberTable V) → Stays old mid → Stays mid new → Stays old new
  stay_longer old mid new (entries, next) (later_entries, later_next) = (later_entries ∙ entries, later_next ∙ next)

  -- what stays and then changes by one changes by one
  pub stays_and_changes : (old mid new : NumberTable V) → Stays old mid → ChangesOne mid new → ChangesOne old new
  stays_and_changes old mid new stays (inl same) = inl (stay_longer old mid new stays same)
  stays_and_changes old mid new (entries, next) (inr (inl (value, is, one))) = inr (inl (value, cc (is, entries, next), cc (one, next)))
  stays_and_changes old mid new (entries, next) (inr (inr (number, is, same))) = inr (inr (number, cc (is, entries), same ∙ next))

  -- one number more at most
  pub one_more : (old new : NumberTable V) → ChangesOne old new → new.next ≤ old.next + 1
  one_more old new (inl (entries, next)) = omega (arith, next)
  one_more old new (inr (inl (value, entries, next))) = omega (arith, next)
  one_more old new (inr (inr (number, entries, next))) = omega (arith, next)

  pub changes_on : (old new : NumberTable V) → ChangesOne old new → GoesOn old new
  changes_on old new (inl stays) = stays_on old new stays
  changes_on old new (inr (inl gets)) = gets_on old new gets
  changes_on old new (inr (inr loses)) = loses_on old new loses

  later : (old mid new : NumberTable V) (number : ℕ) → (value_at mid number ≡ value_at old number) ⊎ (value_at mid number ≡ None)
      → (value_at new number ≡ value_at mid number) ⊎ (value_at new number ≡ None)
      → (value_at new number ≡ value_at old number) ⊎ (value_at new number ≡ None)
  later old mid new number first (inr none) = inr none
  later old mid new number (inl same) (inl again) = inl (again ∙ same)
  later old mid new number (inr none) (inl again) = inr (again ∙ none)

  pub on_and_on : (old mid new : NumberTable V) → GoesOn old mid → GoesOn mid new → GoesOn old new
  on_and_on old mid new first second rises =
      let (rises_mid, next_mid, kept_mid) = first rises in
      let (rises_new, next_new, kept_new) = second rises_mid in (
        rises_new,
        omega (arith, next_mid, next_new),
        λ number below. later old mid new number (kept_mid number below)
            (kept_new number (omega (arith, below, next_mid))),
      )
