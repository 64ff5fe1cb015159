-- Two lists of entries, one after the other, of which only one may have a number.
use Rattle.std.proofs.Common.{◌≡◌, ℕ, suc, ◌+◌, Bool, List, [], ◌∷◌, ◌++◌, length, cond, true, false, Option, Some, None, refl, ap, arith}
use Rattle.std.specs.Prelude.{is_some, if◌then◌else◌}
use Rattle.std.specs.Map.{lookup, remove_entry, set_value}
use Rattle.iox_container.specs.NumberTable.{NumberTable}

-- of equal entries, next number and room, the same table
pub same_table : {V : Type 0} (entries entries' : List (ℕ × V)) (next next' room room' : ℕ) → entries' ≡ entries → next' ≡ next
    → room' ≡ room
    → let new : NumberTable V = record { entries = entries'; next = next'; room = room' } in
    let old : NumberTable V = record { entries = entries; next = next; room = room } in new ≡ old
same_table entries entries' next next' room room' e n r = cc

module _ {V : Type 0} (test : ℕ → Bool) where
  -- where nothing is found, nothing goes
  pub remove-absent : (entries : List (ℕ × V)) → lookup test entries ≡ None → remove_entry test entries ≡ entries
  remove-absent [] none = refl
  remove-absent (entry ∷ rest) none = at_test (test entry.0) (λ e. remove-absent rest e) none
    where
      at_test : (b : Bool) → (lookup test rest ≡ None → remove_entry test rest ≡ rest) → cond b (Some entry.1) (lookup test rest) ≡ None
          → cond b rest (entry ∷ remove_entry test rest) ≡ entry ∷ rest
      at_test true rec some = cc
      at_test false rec later = ap (λ es. entry ∷ es) (rec later)

  -- nor does anything change
  pub set_value-absent : (entries : List (ℕ × V)) (value : V) → lookup test entries ≡ None → set_value test entries value ≡ entries
  set_value-absent [] value none = refl
  set_value-absent (entry ∷ rest) value none = at_test (test entry.0) (λ e. set_value-absent rest value e) none
    where
      at_test : (b : Bool) → (lookup test rest ≡ None → set_value test rest value ≡ rest)
          → cond b (Some entry.1) (lookup test rest) ≡ None
          → cond b ((entry.0, value) ∷ rest) (entry ∷ set_value test rest value) ≡ entry ∷ rest
      at_test true rec some = cc
      at_test false rec later = ap (λ es. entry ∷ es) (rec later)

  -- one that is found makes one less when it goes
  pub length-removed : (entries : List (ℕ × V))
      → length (remove_entry test entries) + (if is_some (lookup test entries) then 1 else 0) ≡ length entries
  length-removed [] = refl
  length-removed (entry ∷ rest) = at_test (test entry.0) (length-removed rest)
    where
      at_test : (b : Bool) → length (remove_entry test rest) + (if is_some (lookup test rest) then 1 else 0) ≡ length rest
          → length (cond b rest (entry ∷ remove_entry test rest)) +
          (if is_some (cond b (Some entry.1) (lookup test rest)) then 1 else 0) ≡ suc (length rest)
      at_test true rec = omega arith
      at_test false rec = omega (arith, rec)

  -- as many are left as there were, but for the one that was found
  pub length-taken : (entries entries' : List (ℕ × V)) (value : Option V) → value ≡ lookup test entries
      → entries' ≡ remove_entry test entries
      → length entries' + (if is_some value then 1 else 0) ≡ length entries
  length-taken entries entries' value found gone = rw (gone, found) (length-removed entries)

  module _ (back : List (ℕ × V)) (none : lookup test back ≡ None) where
    pub lookup-front : (front : List (ℕ × V)) → lookup test (front ++ back) ≡ lookup test front
    lookup-front [] = none
    lookup-front (entry ∷ front) = ap (λ found. cond (test entry.0) (Some entry.1) found) (lookup-front front)

    pub remove-front : (front : List (ℕ × V)) → remove_entry test (front ++ back) ≡ remove_entry test front ++ back
    remove-front [] = remove-absent back none
    remove-front (entry ∷ front) = at_test (test entry.0) (remove-front front)
      where
        at_test : (b : Bool) → remove_entry test (front ++ back) ≡ remove_entry test front ++ back
            → cond b (front ++ back) (entry ∷ remove_entry test (front ++ back)) ≡ cond b front (entry ∷ remove_entry test front) ++ back
        at_test true rec = refl
        at_test false rec = ap (λ es. entry ∷ es) rec

    pub set_value-front : (front : List (ℕ × V)) (value : V) → set_value test (front ++ back) value ≡ set_value test front value ++ back
    set_value-front [] value = set_value-absent back value none
    set_value-front (entry ∷ front) value = at_test (test entry.0) (set_value-front front value)
      where
        at_test : (b : Bool) → set_value test (front ++ back) value ≡ set_value test front value ++ back
            → cond b ((entry.0, value) ∷ (front ++ back)) (entry ∷ set_value test (front ++ back) value)
            ≡ cond b ((entry.0, value) ∷ front) (entry ∷ set_value test front value) ++ back
        at_test true rec = refl
        at_test false rec = ap (λ es. entry ∷ es) rec

  pub lookup-back : (back front : List (ℕ × V)) → lookup test front ≡ None → lookup test (front ++ back) ≡ lookup test back
  lookup-back back [] none = refl
  lookup-back back (entry ∷ front) none = at_test (test entry.0) (λ e. lookup-back back front e) none
    where
      at_test : (b : Bool) → (lookup test front ≡ None → lookup test (front ++ back) ≡ lookup test back)
          → cond b (Some entry.1) (lookup test front) ≡ None → cond b (Some entry.1) (lookup test (front ++ back)) ≡ lookup test back
      at_test true rec some = cc
      at_test false rec later = rec later

  pub remove-back : (back front : List (ℕ × V)) → lookup test front ≡ None
      → remove_entry test (front ++ back) ≡ front ++ remove_entry test back
  remove-back back [] none = refl
  remove-back back (entry ∷ front) none = at_test (test entry.0) (λ e. remove-back back front e) none
    where
      at_test : (b : Bool) → (lookup test front ≡ None → remove_entry test (front ++ back) ≡ front ++ remove_entry test back)
          → cond b (Some entry.1) (lookup test front) ≡ None
          → cond b (front ++ back) (entry ∷ remove_entry test (front ++ back)) ≡ entry ∷ (front ++ remove_entry test back)
      at_test true rec some = cc
      at_test false rec later = ap (λ es. entry ∷ es) (rec later)

  pub set_value-back : (back front : List (ℕ × V)) (value : V) → lookup test front ≡ None
      → set_value test (front ++ back) value ≡ front ++ set_value test back value
  set_value-back back [] value none = refl
  set_value-back back (entry ∷ front) value none = at_test (test entry.0) (λ e. set_value-back back front value e) none
    where
      at_test : (b : Bool) → (lookup test front ≡ None → set_value test (front ++ back) value ≡ front ++ set_value test back value)
          → cond b (Some entry.1) (lookup test front) ≡ None
          → cond b ((entry.0, value) ∷ (front ++ back)) (entry ∷ set_value test (front ++ back) value) ≡ entry
          ∷ (front ++ set_value test back value)
      at_test true rec some = cc
      at_test false rec later = ap (λ es. entry ∷ es) (rec later)
