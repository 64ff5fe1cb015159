-- What is kept under a number, and put back.
use Rattle.std.proofs.Common.{ℕ, ◌≡◌, ◌∷◌, [], List, true, Option, None, Some, Result, Ok, Err, refl, sym, ap, ◌∙◌, cond}
use Rattle.std.proofs.lemmas.Cmp.{nat_cmp_total}
use Rattle.std.proofs.lemmas.Map.{lookup-none}
use Rattle.std.proofs.lemmas.Map.Entries.{none_below_head}
use Rattle.std.proofs.lemmas.Map.Keys.{sorted_tail}
use Rattle.std.specs.BTreeMap.{insert_entry, is_at}
use Rattle.std.specs.Cmp.{nat_cmp_is}
use Rattle.std.specs.List.Sorted.{IsStrictlySortedBy}
use Rattle.std.specs.Map.{lookup, remove_entry, keys_of}
use Rattle.std.specs.Ordering.{nat_cmp, is_eq, match_ordering}
use Rattle.std.specs.Prelude.{IfOk, OnOk}
use Rattle.std.specs.declared.cmp.Ordering.{Ordering}
use Rattle.std.specs.declared.cmp.Ordering.TheVariants.{Less, Equal, Greater}
use Rattle.iox_domain.specs.Kept.{kept_under, kept, put_back}

same_number : (number : ℕ) → is_eq (nat_cmp number number) ≡ true
same_number number = ap is_eq (sym (nat_cmp_is number number Equal refl))

came : {X : Type 0} (number other : ℕ) (x y : X) (rest inserted : List (ℕ × X)) (order : Ordering) → nat_cmp number other ≡ order
    → lookup (is_at (nat_cmp number)) inserted ≡ Some x
    → lookup (is_at (nat_cmp number)) (match_ordering order ((number, x) ∷ (other, y) ∷ rest) ((other, x) ∷ rest)
    ((other, y) ∷ inserted)) ≡ Some x
came number other x y rest inserted Less is further
    = ap (λ test. cond test (Some x) (lookup (is_at (nat_cmp number)) ((other, y) ∷ rest))) (same_number number)
came number other x y rest inserted Equal is further = ap (λ order. cond (is_eq order) (Some x) (lookup (is_at (nat_cmp number)) rest)) is
came number other x y rest inserted Greater is further
    = ap (λ order. cond (is_eq order) (Some y) (lookup (is_at (nat_cmp number)) inserted)) is ∙ further

-- what is kept under a number is found there
pub kept_is_there : {X : Type 0} (number : ℕ) (x : X) (values : List (ℕ × X)) → kept_under number (kept number x values) ≡ Some x
kept_is_there number x [] = ap (λ test. cond test (Some x) None) (same_number number)
kept_is_there number x (entry ∷ entries) =
    came number entry.0 x entry.1 entries (insert_entry nat_cmp entries number x) (nat_cmp number entry.0) refl
    (kept_is_there number x entries)

-- what is put back after an entry of another number
put_back-behind : {X : Type 0} (number other : ℕ) (y : X) (inserted : List (ℕ × X)) (before : Option X) → nat_cmp number other ≡ Greater
    → put_back number before ((other, y) ∷ inserted) ≡ (other, y) ∷ put_back number before inserted
put_back-behind number other y inserted None is
    = ap (λ order. cond (is_eq order) inserted ((other, y) ∷ remove_entry (is_at (nat_cmp number)) inserted)) is
put_back-behind number other y inserted (Some value) is
    = ap (λ order. match_ordering order ((number, value) ∷ (other, y) ∷ inserted) ((other, value) ∷ inserted)
    ((other, y) ∷ insert_entry nat_cmp inserted number value)) is

undone-at : {X : Type 0} (number other : ℕ) (x y : X) (rest : List (ℕ × X)) (order : Ordering) → nat_cmp number other ≡ order
    → IsStrictlySortedBy nat_cmp (keys_of ((other, y) ∷ rest))
    → put_back number (kept_under number rest) (insert_entry nat_cmp rest number x) ≡ rest
    → put_back number (cond (is_eq order) (Some y) (kept_under number rest))
    (match_ordering order ((number, x) ∷ (other, y) ∷ rest) ((other, x) ∷ rest) ((other, y) ∷ insert_entry nat_cmp rest number x))
    ≡ (other, y) ∷ rest
undone-at number other x y rest Less is sorted further =
    let nothing : kept_under number ((other, y) ∷ rest) ≡ None
    = lookup-none (is_at (nat_cmp number)) ((other, y) ∷ rest) (none_below_head nat_cmp_total number (other, y) rest sorted is) in
    let behind : kept_under number rest ≡ None = sym (ap (λ order. cond (is_eq order) (Some y) (kept_under number rest)) is) ∙ nothing in
    ap (λ before. put_back number before ((number, x) ∷ (other, y) ∷ rest)) behind
    ∙ ap (λ test. cond test ((other, y) ∷ rest) ((number, x) ∷ remove_entry (is_at (nat_cmp number)) ((other, y) ∷ rest)))
    (same_number number)
undone-at number other x y rest Equal is sorted further
    = ap (λ order. match_ordering order ((number, y) ∷ (other, x) ∷ rest) ((other, y) ∷ rest)
    ((other, x) ∷ insert_entry nat_cmp rest number y)) is
undone-at number other x y rest Greater is sorted further =
    put_back-behind number other y (insert_entry nat_cmp rest number x) (kept_under number rest) is ∙ ap (λ rest. (other, y) ∷ rest) further

-- putting back what was kept before undoes a keeping
pub undone : {X : Type 0} (number : ℕ) (x : X) (values : List (ℕ × X)) → IsStrictlySortedBy nat_cmp (keys_of values)
    → put_back number (kept_under number values) (kept number x values) ≡ values
undone number x [] sorted = ap (λ test. cond test [] ((number, x) ∷ [])) (same_number number)
undone number x (entry ∷ entries) sorted =
    undone-at number entry.0 x entry.1 entries (nat_cmp number entry.0) refl sorted
    (undone number x entries (sorted_tail nat_cmp entry.0 (keys_of entries) sorted))

-- the same of a keeping that may fail
pub undone_kept : {X E : Type 0} (number : ℕ) (x : X) (values after : List (ℕ × X)) (result : Result (Option X) E)
    → IsStrictlySortedBy nat_cmp (keys_of values) → IfOk result (λ before. before ≡ kept_under number values)
    → OnOk result (after ≡ kept number x values) → IfOk result (λ before. put_back number before after ≡ values)
undone_kept number x values after (Ok before) sorted was is = rw was (rw is (undone number x values sorted))
undone_kept number x values after (Err error) sorted was is = tt

-- values that are both there are one
pub same_value : {X : Type 0} {x y : X} → Some x ≡ Some y → x ≡ y
same_value {X} {x} {y} same = ap (λ value. match_value value x) same
  where
    match_value : Option X → X → X
    match_value None default = default
    match_value (Some value) default = value
