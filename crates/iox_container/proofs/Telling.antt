-- What is found under a number after each change.
use Rattle.std.proofs.Common.{◌≡◌, ◌≢◌, ℕ, ◌+◌, Bool, List, [], ◌∷◌, cond, true, false, Some, None, refl, ap, ◌∙◌, arith}
use Rattle.std.specs.Prelude.{nat_eq}
use Rattle.std.specs.Map.{lookup, remove_entry, set_value}
use Rattle.std.proofs.lemmas.Bool.Decides.{nat_tests}
use Rattle.iox_container.specs.NumberTable.{Rises, NumberTable, value_at, inserted}
use Rattle.iox_container.specs.NumberLaws.{FoundAndGone}
use Rattle.iox_container.proofs.Rising.{lookup-above, lookup-below}
use Rattle.iox_container.proofs.Joined.{lookup-back, lookup-front}

module _ {V : Type 0} where
  pub lookup-removed : (number low next : ℕ) (entries : List (ℕ × V)) → Rises low entries next
      → lookup (nat_eq number) (remove_entry (nat_eq number) entries) ≡ None
  lookup-removed number low next [] rises = refl
  lookup-removed number low next (entry ∷ rest) rises
      = at_test (nat_eq number entry.0) refl (lookup-removed number (entry.0 + 1) next rest rises.1)
    where
      at_test : (b : Bool) → nat_eq number entry.0 ≡ b → lookup (nat_eq number) (remove_entry (nat_eq number) rest) ≡ None
          → lookup (nat_eq number) (cond b rest (entry ∷ remove_entry (nat_eq number) rest)) ≡ None
      at_test true same rec = lookup-below number (entry.0 + 1) next rest rises.1 (grind (arith, nat_tests))
      at_test false apart rec = rw apart rec

  pub lookup-removed_other : (number other : ℕ) (entries : List (ℕ × V)) → other ≢ number
      → lookup (nat_eq other) (remove_entry (nat_eq number) entries) ≡ lookup (nat_eq other) entries
  lookup-removed_other number other [] differs = refl
  lookup-removed_other number other (entry ∷ rest) differs
      = at_test (nat_eq number entry.0) refl (lookup-removed_other number other rest differs)
    where
      at_test : (b : Bool) → nat_eq number entry.0 ≡ b
          → lookup (nat_eq other) (remove_entry (nat_eq number) rest) ≡ lookup (nat_eq other) rest
          → lookup (nat_eq other) (cond b rest (entry ∷ remove_entry (nat_eq number) rest)) ≡ lookup (nat_eq other) (entry ∷ rest)
      at_test true same rec = grind (arith, nat_tests)
      at_test false apart rec = ap (λ found. cond (nat_eq other entry.0) (Some entry.1) found) rec

  pub lookup-written : (number : ℕ) (old value : V) (entries : List (ℕ × V)) → lookup (nat_eq number) entries ≡ Some old
      → lookup (nat_eq number) (set_value (nat_eq number) entries value) ≡ Some value
  lookup-written number old value [] held = cc
  lookup-written number old value (entry ∷ rest) held
      = at_test (nat_eq number entry.0) refl held (λ later. lookup-written number old value rest later)
    where
      at_test : (b : Bool) → nat_eq number entry.0 ≡ b → cond b (Some entry.1) (lookup (nat_eq number) rest) ≡ Some old
          → (lookup (nat_eq number) rest ≡ Some old → lookup (nat_eq number) (set_value (nat_eq number) rest value) ≡ Some value)
          → lookup (nat_eq number) (cond b ((entry.0, value) ∷ rest) (entry ∷ set_value (nat_eq number) rest value)) ≡ Some value
      at_test true same here rec = rw same refl
      at_test false apart later rec = rw apart (rec later)

  pub lookup-written_other : (number other : ℕ) (value : V) (entries : List (ℕ × V)) → other ≢ number
      → lookup (nat_eq other) (set_value (nat_eq number) entries value) ≡ lookup (nat_eq other) entries
  lookup-written_other number other value [] differs = refl
  lookup-written_other number other value (entry ∷ rest) differs
      = at_test (nat_eq number entry.0) refl (lookup-written_other number other value rest differs)
    where
      at_test : (b : Bool) → nat_eq number entry.0 ≡ b
          → lookup (nat_eq other) (set_value (nat_eq number) rest value) ≡ lookup (nat_eq other) rest
          → lookup (nat_eq other) (cond b ((entry.0, value) ∷ rest) (entry ∷ set_value (nat_eq number) rest value))
          ≡ lookup (nat_eq other) (entry ∷ rest)
      at_test true same rec = grind (arith, nat_tests)
      at_test false apart rec = ap (λ found. cond (nat_eq other entry.0) (Some entry.1) found) rec

  pub put : (table : NumberTable V) (value : V) → Rises 1 table.entries table.next → value_at (inserted table value) table.next ≡ Some value
  put table value rises =
      let last : lookup (nat_eq table.next) ((table.next, value) ∷ []) ≡ Some value = grind (arith, nat_tests) in
      lookup-back (nat_eq table.next) ((table.next, value) ∷ []) table.entries
      (lookup-above table.next 1 table.next table.entries rises (omega arith)) ∙ last

  pub put_others : (table : NumberTable V) (value : V) (other : ℕ) → other ≢ table.next
      → value_at (inserted table value) other ≡ value_at table other
  put_others table value other differs =
      let last : lookup (nat_eq other) ((table.next, value) ∷ []) ≡ None = grind (arith, nat_tests) in
      lookup-front (nat_eq other) ((table.next, value) ∷ []) last table.entries

pub found_and_gone : (V : Type 0) → FoundAndGone V
found_and_gone V = record {
  put = put;
  put_others = put_others;
  gone = λ table number rises. lookup-removed number 1 table.next table.entries rises;
  gone_others = λ table number other differs. lookup-removed_other number other table.entries differs;
  written = λ table number old value held. lookup-written number old value table.entries held;
  written_others = λ table number other value differs. lookup-written_other number other value table.entries differs;
  not_given = λ table number rises above. lookup-above number 1 table.next table.entries rises above;
  zero_is_nobody = λ table rises. lookup-below 0 1 table.next table.entries rises (omega arith);
}
