-- Values by number: how a change of one value leaves it and the others.
use Rattle.std.proofs.Common.{ℕ, ◌≡◌, Bool, true, false, cond, List, [], ◌∷◌, Option, None, Some, refl, sym, ap, ◌∙◌}
use Rattle.std.proofs.lemmas.Bool.{eqb-true}
use Rattle.std.specs.BTreeMap.{insert_entry, is_at}
use Rattle.std.specs.Cmp.{unsigned_tied}
use Rattle.std.specs.Map.{lookup, set_value}
use Rattle.std.specs.Ordering.{nat_cmp, is_eq, match_ordering}
use Rattle.std.specs.declared.cmp.Ordering.{Ordering}
use Rattle.std.specs.declared.cmp.Ordering.TheVariants.{Less, Equal, Greater}

-- The test whether a key is this number.
abbrev at : ℕ → ℕ → Bool
at number = is_at (nat_cmp number)

-- A key that passes the test is that number.
pub is_number : (number key : ℕ) → is_at (nat_cmp number) key ≡ true → number ≡ key
is_number number key passes = eqb-true number key (sym (unsigned_tied number key) ∙ passes)

-- Another number doesn't pass the test.
another : (b : Bool) (number key : ℕ) → at number key ≡ b → (number ≡ key → ⊥) → b ≡ false
another true number key is apart = absurd (apart (is_number number key is))
another false number key is apart = refl

-- A number that differs from the key doesn't pass the test.
pub not_number : (number key : ℕ) → (number ≡ key → ⊥) → is_at (nat_cmp number) key ≡ false
not_number number key apart = another (at number key) number key refl apart

here : {X : Type 0} (b : Bool) (number key : ℕ) (x y w : X) (rest changed : List (ℕ × X)) → at number key ≡ b
    → (lookup (at number) rest ≡ Some y → lookup (at number) changed ≡ Some w) → cond b (Some x) (lookup (at number) rest) ≡ Some y
    → lookup (at number) (cond b ((key, w) ∷ rest) ((key, x) ∷ changed)) ≡ Some w
here true number key x y w rest changed is later found = rw is refl
here false number key x y w rest changed is later found = rw is (later found)

-- A value that was changed is found under its number.
pub changed_found : {X : Type 0} (number : ℕ) (values : List (ℕ × X)) (y w : X) → lookup (is_at (nat_cmp number)) values ≡ Some y
    → lookup (is_at (nat_cmp number)) (set_value (is_at (nat_cmp number)) values w) ≡ Some w
changed_found number [] y w found = cc
changed_found number (value ∷ values) y w found =
    here (at number value.0) number value.0 value.1 y w values (set_value (at number) values w) refl (changed_found number values y w) found

elsewhere : {X : Type 0} (b : Bool) (number other key : ℕ) (x w : X) (rest changed : List (ℕ × X)) → at number key ≡ b
    → (number ≡ other → ⊥)
    → lookup (at other) changed ≡ lookup (at other) rest
    → lookup (at other) (cond b ((key, w) ∷ rest) ((key, x) ∷ changed)) ≡ cond (at other key) (Some x) (lookup (at other) rest)
elsewhere true number other key x w rest changed is apart later =
    let off : at other key ≡ false = not_number other key (λ same. apart (is_number number key is ∙ sym same)) in
    rw off refl
elsewhere false number other key x w rest changed is apart later = ap (cond (at other key) (Some x)) later

-- A change of one number's value leaves the values of the other numbers as they were.
pub others_unchanged : {X : Type 0} (number other : ℕ) (values : List (ℕ × X)) (w : X) → (number ≡ other → ⊥)
    → lookup (is_at (nat_cmp other)) (set_value (is_at (nat_cmp number)) values w) ≡ lookup (is_at (nat_cmp other)) values
others_unchanged number other [] w apart = refl
others_unchanged number other (value ∷ values) w apart =
    elsewhere (at number value.0) number other value.0 value.1 w values (set_value (at number) values w) refl apart
    (others_unchanged number other values w apart)

abbrev value_or : {X : Type 0} → X → Option X → X
value_or default None = default
value_or default (Some value) = value

-- Two values are equal if the options that have them are.
pub one_value : {X : Type 0} {x y : X} → Some x ≡ Some y → x ≡ y
one_value {X} {x} {y} same = ap (value_or x) same

same_at : {X : Type 0} (b : Bool) (key : ℕ) (x w : X) (rest changed : List (ℕ × X)) (found : Option X)
    → (found ≡ Some w → changed ≡ rest) → cond b (Some x) found ≡ Some w
    → cond b ((key, w) ∷ rest) ((key, x) ∷ changed) ≡ (key, x) ∷ rest
same_at true key x w rest changed found later is = ap (λ value. (key, value) ∷ rest) (sym (one_value is))
same_at false key x w rest changed found later is = ap (λ rest. (key, x) ∷ rest) (later is)

-- Replacing a value by itself changes nothing.
pub same_unchanged : {X : Type 0} (number : ℕ) (values : List (ℕ × X)) (w : X) → lookup (is_at (nat_cmp number)) values ≡ Some w
    → set_value (is_at (nat_cmp number)) values w ≡ values
same_unchanged number [] w found = refl
same_unchanged number (value ∷ values) w found =
    same_at (at number value.0) value.0 value.1 w values (set_value (at number) values w) (lookup (at number) values)
    (same_unchanged number values w) found

absent_at : {X : Type 0} (b : Bool) (key : ℕ) (x w : X) (rest changed : List (ℕ × X)) (found : Option X)
    → (found ≡ None → changed ≡ rest) → cond b (Some x) found ≡ None → cond b ((key, w) ∷ rest) ((key, x) ∷ changed) ≡ (key, x) ∷ rest
absent_at true key x w rest changed found later is = cc
absent_at false key x w rest changed found later is = ap (λ rest. (key, x) ∷ rest) (later is)

-- Replacing the value of a number that has none changes nothing.
pub absent_unchanged : {X : Type 0} (number : ℕ) (values : List (ℕ × X)) (w : X) → lookup (is_at (nat_cmp number)) values ≡ None
    → set_value (is_at (nat_cmp number)) values w ≡ values
absent_unchanged number [] w none = refl
absent_unchanged number (value ∷ values) w none =
    absent_at (at number value.0) value.0 value.1 w values (set_value (at number) values w) (lookup (at number) values)
    (absent_unchanged number values w) none

twice_at : {X : Type 0} (b : Bool) (number key : ℕ) (x v w : X) (rest changed again : List (ℕ × X)) → at number key ≡ b
    → set_value (at number) changed w ≡ again
    → set_value (at number) (cond b ((key, v) ∷ rest) ((key, x) ∷ changed)) w ≡ cond b ((key, w) ∷ rest) ((key, x) ∷ again)
twice_at true number key x v w rest changed again is later = rw is refl
twice_at false number key x v w rest changed again is later = rw is (ap (λ rest. (key, x) ∷ rest) later)

-- If the value of a number is replaced twice, the last one stays.
pub changed_twice : {X : Type 0} (number : ℕ) (values : List (ℕ × X)) (v w : X)
    → set_value (is_at (nat_cmp number)) (set_value (is_at (nat_cmp number)) values v) w ≡ set_value (is_at (nat_cmp number)) values w
changed_twice number [] v w = refl
changed_twice number (value ∷ values) v w =
    twice_at (at number value.0) number value.0 value.1 v w values (set_value (at number) values v) (set_value (at number) values w)
    refl (changed_twice number values v w)

beside : {X : Type 0} (order : Ordering) (number other key : ℕ) (x w : X) (rest inserted : List (ℕ × X)) → nat_cmp number key ≡ order
    → (number ≡ other → ⊥)
    → lookup (at other) inserted ≡ lookup (at other) rest
    → lookup (at other) (match_ordering order ((number, w) ∷ (key, x) ∷ rest) ((key, w) ∷ rest) ((key, x) ∷ inserted))
    ≡ cond (at other key) (Some x) (lookup (at other) rest)
beside Less number other key x w rest inserted is apart later = rw (not_number other number (λ same. apart (sym same))) refl
beside Equal number other key x w rest inserted is apart later =
    let off : at other key ≡ false = not_number other key (λ same. apart (is_number number key (ap is_eq is) ∙ sym same)) in
    rw off refl
beside Greater number other key x w rest inserted is apart later = ap (cond (at other key) (Some x)) later

-- Inserting a value under one number leaves the values of the other numbers as they were.
pub others_beside : {X : Type 0} (number other : ℕ) (values : List (ℕ × X)) (w : X) → (number ≡ other → ⊥)
    → lookup (is_at (nat_cmp other)) (insert_entry nat_cmp values number w) ≡ lookup (is_at (nat_cmp other)) values
others_beside number other [] w apart = rw (not_number other number (λ same. apart (sym same))) refl
others_beside number other (value ∷ values) w apart =
    beside (nat_cmp number value.0) number other value.0 value.1 w values (insert_entry nat_cmp values number w) refl apart
    (others_beside number other values w apart)
