-- A word is read as the number that it writes, and as no other.
use Rattle.std.proofs.Common.{◌≡◌, ℕ, zero, suc, ◌+◌, ◌-◌, ◌*◌, ◌^◌, ◌==◌, ◌<◌, Bool, true, false, not, ◌&&◌, List, [], ◌∷◌, Option, None}
use Rattle.std.proofs.Common.{Some, refl, cond, sym, ap, ◌∙◌, rules, arith, length, get_or, nat_lt, decimal, eqb-true}
use Rattle.std.proofs.lemmas.Grind.{common_steps}
use Rattle.std.proofs.lemmas.Str.Parse.{IsNumeralModel, numerals_by_fold}
use Rattle.std.proofs.lemmas.Fmt.{digits_decimal, digits_value-decimal, decimal-digits_value, decimal_nonempty, first_decimal}
use Rattle.std.proofs.lemmas.Fmt.{length-decimal-le_succ}
use Rattle.iox_line.specs.Words.{has_no_space, lacks}
use Rattle.iox_line.proofs.AfterLemmas.{and_left, and_right}
use Rattle.iox_line.specs.Numbers.{is_digit, digits_from, below_limit, number_of, tagged, tag, IsNumber}

-- whether all bytes are digits
abbrev pub all_digits : List ℕ → Bool
all_digits [] = true
all_digits (b ∷ bs) = is_digit b && all_digits bs

-- the number of digits that follow those of n
abbrev pub read_on : ℕ → List ℕ → ℕ
read_on n [] = n
read_on n (b ∷ bs) = read_on (n * 10 + (b - 48)) bs

own : IsNumeralModel (λ ds. all_digits ds ≡ true) (read_on 0)
own = numerals_by_fold (λ ds. all_digits ds ≡ true) (search rules) read_on (search rules)

digits_at : (front b : ℕ) (bs : List ℕ) (t : Bool)
    → digits_from (front * 10 + (b - 48)) bs ≡ cond (all_digits bs) (Some (read_on (front * 10 + (b - 48)) bs)) None
    → cond t (digits_from (front * 10 + (b - 48)) bs) None ≡ cond (t && all_digits bs) (Some (read_on (front * 10 + (b - 48)) bs)) None
digits_at front b bs true h = h
digits_at front b bs false h = refl

digits_read : (front : ℕ) (bs : List ℕ) → digits_from front bs ≡ cond (all_digits bs) (Some (read_on front bs)) None
digits_read front [] = refl
digits_read front (b ∷ bs) = digits_at front b bs (is_digit b) (digits_read (front * 10 + (b - 48)) bs)

small_at : (v n : ℕ) (t : Bool) → nat_lt v (2 ^ 64) ≡ t → cond t (Some v) None ≡ Some n → (v ≡ n) × (n < 2 ^ 64)
small_at v n true e h = let same : v ≡ n = cc in (same, rw (← same) (search (rules, e)))
small_at v n false e h = cc

limit_at : (ds : List ℕ) (n : ℕ) (t : Bool) → all_digits ds ≡ t → below_limit (cond t (Some (read_on 0 ds)) None) ≡ Some n
    → (all_digits ds ≡ true) × (read_on 0 ds ≡ n) × (n < 2 ^ 64)
limit_at ds n true e h = let s = small_at (read_on 0 ds) n (nat_lt (read_on 0 ds) (2 ^ 64)) refl h in (e, s.0, s.1)
limit_at ds n false e h = cc

limit_some : (ds : List ℕ) (n : ℕ) → below_limit (digits_from 0 ds) ≡ Some n → (all_digits ds ≡ true) × (read_on 0 ds ≡ n) × (n < 2 ^ 64)
limit_some ds n h = limit_at ds n (all_digits ds) refl (ap below_limit (sym (digits_read 0 ds)) ∙ h)

limit_own : (ds : List ℕ) → all_digits ds ≡ true → read_on 0 ds < 2 ^ 64 → below_limit (digits_from 0 ds) ≡ Some (read_on 0 ds)
limit_own ds a small = ap below_limit (digits_read 0 ds ∙ ap (λ t. cond t (Some (read_on 0 ds)) None) a) ∙ grind
    (arith, common_steps, small)

written : (ds : List ℕ) (n : ℕ) → 0 < length ds → (get_or ds 0 0 ≡ 48 → length ds ≡ 1) → below_limit (digits_from 0 ds) ≡ Some n
    → IsNumber n × (ds ≡ decimal n)
written ds n some first h =
    let l = limit_some ds n h in
    let small : read_on 0 ds < 2 ^ 64 = rw l.1 l.2 in
    (l.2, sym (decimal-digits_value own ds l.0 some first small) ∙ ap decimal l.1)

number_at : (b c : ℕ) (bs : List ℕ) (n : ℕ) (t : Bool) → (b == 48) ≡ t → cond t None (below_limit (digits_from 0 (b ∷ c ∷ bs))) ≡ Some n
    → IsNumber n × (b ∷ c ∷ bs ≡ decimal n)
number_at b c bs n true e h = cc
number_at b c bs n false e h = written (b ∷ c ∷ bs) n (search rules) (λ z. absurd (grind (arith, common_steps, e, z))) h

-- a word that is read as a number writes it
pub number_some : (w : List ℕ) (n : ℕ) → number_of w ≡ Some n → IsNumber n × (w ≡ decimal n)
number_some [] n h = cc
number_some (b ∷ []) n h = written (b ∷ []) n (search rules) (λ z. refl) h
number_some (b ∷ c ∷ bs) n h = number_at b c bs n (b == 48) refl h

first_zero : (n : ℕ) → n < 2 ^ 64 → get_or (decimal n) 0 0 ≡ 48 → length (decimal n) ≡ 1
first_zero zero small e = omega (arith, length-decimal-le_succ 0 small, decimal_nonempty 0 small)
first_zero (suc n) small e = absurd (omega (arith, first_decimal (suc n) (omega arith) small, e))

whole_at : (b c : ℕ) (bs : List ℕ) (x : Option ℕ) (t : Bool) → (b == 48) ≡ t → (b ≡ 48 → length (b ∷ c ∷ bs) ≡ 1) → cond t None x ≡ x
whole_at b c bs x true e first = let l : length (b ∷ c ∷ bs) ≡ 1 = first (eqb-true b 48 e) in absurd (omega (arith, l))
whole_at b c bs x false e first = refl

number_whole : (ds : List ℕ) → 0 < length ds → (get_or ds 0 0 ≡ 48 → length ds ≡ 1) → number_of ds ≡ below_limit (digits_from 0 ds)
number_whole [] some first = absurd (omega (arith, some))
number_whole (b ∷ []) some first = refl
number_whole (b ∷ c ∷ bs) some first = whole_at b c bs (below_limit (digits_from 0 (b ∷ c ∷ bs))) (b == 48) refl first

-- a number is read from what writes it
pub number_own : (n : ℕ) → IsNumber n → number_of (decimal n) ≡ Some n
number_own n small =
    let v : read_on 0 (decimal n) ≡ n = digits_value-decimal own n small in
    let below : read_on 0 (decimal n) < 2 ^ 64 = rw v small in
    number_whole (decimal n) (decimal_nonempty n small) (first_zero n small) ∙ limit_own (decimal n) (digits_decimal own n small) below
    ∙ ap (λ m. Some m) v

tagged_at : (letter b : ℕ) (bs : List ℕ) (n : ℕ) (t : Bool) → (b == letter) ≡ t → cond t (number_of bs) None ≡ Some n → IsNumber n
    × (b ∷ bs ≡ tag letter n)
tagged_at letter b bs n true e h = let s = number_some bs n h in (s.0, ap (λ x. x ∷ bs) (eqb-true b letter e) ∙ ap (λ l. letter ∷ l) s.1)
tagged_at letter b bs n false e h = cc

-- a word that is read as the number of a made value writes it
pub tagged_some : (letter : ℕ) (w : List ℕ) (n : ℕ) → tagged letter w ≡ Some n → IsNumber n × (w ≡ tag letter n)
tagged_some letter [] n h = cc
tagged_some letter (b ∷ bs) n h = tagged_at letter b bs n (b == letter) refl h

-- the number of a made value is read from what writes it
pub tagged_own : (letter n : ℕ) → IsNumber n → tagged letter (tag letter n) ≡ Some n
tagged_own letter n small = grind (arith, common_steps, number_own n small)

differ_at : (byte b : ℕ) (t : Bool) → (b == byte) ≡ t → is_digit b ≡ true → is_digit byte ≡ false → t ≡ false
differ_at byte b true e d n = let bad : true ≡ false = sym d ∙ ap is_digit (eqb-true b byte e) ∙ n in cc
differ_at byte b false e d n = refl

digits_lack : (byte : ℕ) (ds : List ℕ) → is_digit byte ≡ false → all_digits ds ≡ true → lacks byte ds ≡ true
digits_lack byte [] n h = refl
digits_lack byte (b ∷ bs) n h =
    ap (λ t. not t && lacks byte bs) (differ_at byte b (b == byte) refl (and_left (is_digit b) (all_digits bs) h) n)
    ∙ digits_lack byte bs n (and_right (is_digit b) (all_digits bs) h)

-- a number is written with digits alone
pub decimal_lacks : (byte n : ℕ) → is_digit byte ≡ false → IsNumber n → lacks byte (decimal n) ≡ true
decimal_lacks byte n d small = digits_lack byte (decimal n) d (digits_decimal own n small)

-- a number is written without a space
pub decimal_no_space : (n : ℕ) → IsNumber n → has_no_space (decimal n) ≡ true
decimal_no_space n small = decimal_lacks 32 n refl small
