-- What is counted of each owner once the count of one owner is set.
use Rattle.std.proofs.Common.{ℕ, ◌≡◌, ◌==◌, ◌∙◌, List, [], ◌∷◌, Some, Bool, true, false, cond, if◌then◌else◌, refl, sym, ap}
use Rattle.std.proofs.lemmas.Bool.{eqb-true, eqb-false}
use Rattle.std.specs.BTreeMap.{insert_entry, is_at}
use Rattle.std.specs.Map.{lookup}
use Rattle.std.specs.Ordering.{nat_cmp, is_eq, match_ordering}
use Rattle.std.specs.Prelude.{unwrap_or}
use Rattle.std.specs.declared.cmp.Ordering.{Ordering}
use Rattle.std.specs.declared.cmp.Ordering.TheVariants.{Less, Equal, Greater}
use Rattle.iox_container.proofs.Numbers.{is_number, not_number}
use Rattle.iox_domain_ports.specs.Tallies.{count_under}

abbrev at : ℕ → ℕ → Bool
at number = is_at (nat_cmp number)

beside : (order : Ordering) (owner other key x count : ℕ) (rest inserted : List (ℕ × ℕ)) → nat_cmp owner key ≡ order
    → (owner ≡ other → ⊥) → lookup (at other) inserted ≡ lookup (at other) rest
    → lookup (at other) (match_ordering order ((owner, count) ∷ (key, x) ∷ rest) ((key, count) ∷ rest) ((key, x) ∷ inserted))
    ≡ cond (at other key) (Some x) (lookup (at other) rest)
beside Less owner other key x count rest inserted is apart later = rw (not_number other owner (λ same. apart (sym same))) refl
beside Equal owner other key x count rest inserted is apart later =
    let off : at other key ≡ false = not_number other key (λ same. apart (is_number owner key (ap is_eq is) ∙ sym same)) in
    rw off refl
beside Greater owner other key x count rest inserted is apart later = ap (cond (at other key) (Some x)) later

-- a count that comes leaves those of other owners
pub others_beside : (owner other count : ℕ) (counts : List (ℕ × ℕ)) → (owner ≡ other → ⊥)
    → lookup (at other) (insert_entry nat_cmp counts owner count) ≡ lookup (at other) counts
others_beside owner other count [] apart = rw (not_number other owner (λ same. apart (sym same))) refl
others_beside owner other count (first ∷ rest) apart =
    beside (nat_cmp owner first.0) owner other first.0 first.1 count rest (insert_entry nat_cmp rest owner count) refl apart
    (others_beside owner other count rest apart)

-- the owner has the count that was set, and each other one the count that it had
pub is_set : (owner number count : ℕ) (before after : List (ℕ × ℕ)) → count_under owner after ≡ count
    → ((owner ≡ number → ⊥) → lookup (at number) after ≡ lookup (at number) before)
    → count_under number after ≡ (if number == owner then count else count_under number before)
is_set owner number count before after set others = by (number == owner) refl
  where
    by : (same : Bool) → (number == owner) ≡ same
        → count_under number after ≡ (if same then count else count_under number before)
    by true is = ap (λ number. count_under number after) (eqb-true number owner is) ∙ set
    by false is = ap (λ found. unwrap_or found 0) (others (λ same. eqb-false number owner is (sym same)))
