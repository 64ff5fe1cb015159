-- A weaker clause is met if the stronger one is met.
use Rattle.std.proofs.Common.{◌≡◌, ℕ, ◌≤◌, nat_le, zero, suc, ◌<◌, Bool, true, false, cond, not, List, [], ◌∷◌, length, get_or, Option}
use Rattle.std.proofs.Common.{Some, None, is_none, Result, Ok, refl, subst, arith}
use Rattle.std.specs.List.{find}
use Rattle.std.specs.Prelude.{Contains, All}
use Rattle.std.proofs.lemmas.Bool.{leb-true, le-leb}
use Rattle.iox_describe_settings.specs.DescribeBase.declared.attribute.Attribute.{Attribute}
use Rattle.iox_describe_settings.specs.DescribeBase.Attributes.{Required, has_pair, has_key, unmet_pair, unmet_lone_key, key_or}
use Rattle.iox_describe_settings.specs.DescribeBase.Attributes.{has_required, IsFewer}
use Rattle.iox_describe_settings.specs.CompatibleLemmas.{compatible-chain}
use Rattle.iox_describe_settings.specs.declared.setting.SettingValue.{SettingValue}
use Rattle.iox_describe_settings.specs.declared.setting.SettingValue.TheVariants.{Switch, Number, OptionalNumber, Types}
use Rattle.iox_describe_verdict.specs.Verdict.{unmet_clause, first_unmet, is_met, meets, AsksLess, IsAtMost}

-- No clause is unmet.
abbrev pub met : {E : Type 0} → Result (Unit {0}) E
met = Ok tt

-- One more clause in front of both lists: if it is weaker, the weaker list is met whenever the stronger one is.
pub step : {E : Type 0} (b c : Bool) (e : E) (cs ds : List (Bool × E)) → (b ≡ true → c ≡ true)
    → (first_unmet cs ≡ met → first_unmet ds ≡ met)
    → first_unmet ((b, e) ∷ cs) ≡ met → first_unmet ((c, e) ∷ ds) ≡ met
unfolding unmet_clause
step true true e cs ds f g h = g h
step true false e cs ds f g h = absurd (let k = f refl in cc)
step false c e cs ds f g h = absurd cc

enough : (weak strong n : ℕ) → weak ≤ strong → nat_le strong n ≡ true → nat_le weak n ≡ true
enough weak strong n h e = le-leb weak n (let k = leb-true strong n e in omega (arith, h, k))

-- A value that meets what the stronger one asks meets what the weaker one asks.
as_asked : (weak strong given : SettingValue) → IsAtMost weak strong → meets strong given ≡ true → meets weak given ≡ true
as_asked (Switch a) (Switch b) given h e = subst (λ (x : Bool). meets (Switch x) given ≡ true) h e
as_asked (Switch a) (Number b) given h e = absurd h
as_asked (Switch a) (OptionalNumber b) given h e = absurd h
as_asked (Switch a) (Types b) given h e = absurd h
as_asked (Number a) (Switch b) given h e = absurd h
as_asked (Number a) (Number b) (Switch g) h e = absurd cc
as_asked (Number a) (Number b) (Number g) h e = enough a b g h e
as_asked (Number a) (Number b) (OptionalNumber g) h e = absurd cc
as_asked (Number a) (Number b) (Types g) h e = absurd cc
as_asked (Number a) (OptionalNumber b) given h e = absurd h
as_asked (Number a) (Types b) given h e = absurd h
as_asked (OptionalNumber a) (Switch b) given h e = absurd h
as_asked (OptionalNumber a) (Number b) given h e = absurd h
as_asked (OptionalNumber a) (OptionalNumber b) given h e = subst (λ (x : Option ℕ). meets (OptionalNumber x) given ≡ true) h e
as_asked (OptionalNumber a) (Types b) given h e = absurd h
as_asked (Types a) (Switch b) given h e = absurd h
as_asked (Types a) (Number b) given h e = absurd h
as_asked (Types a) (OptionalNumber b) given h e = absurd h
as_asked (Types a) (Types b) (Switch g) h e = absurd cc
as_asked (Types a) (Types b) (Number g) h e = absurd cc
as_asked (Types a) (Types b) (OptionalNumber g) h e = absurd cc
as_asked (Types a) (Types b) (Types g) h e = compatible-chain a b g h e

-- A setting that meets the stronger value meets the weaker one.
pub setting : (weak strong : Option SettingValue) (given : SettingValue) → AsksLess weak strong → is_met strong given ≡ true
    → is_met weak given ≡ true
setting None strong given h e = refl
setting (Some w) None given h e = absurd h
setting (Some w) (Some s) given h e = as_asked w s given h e

none-head : {X : Type 0} (b : Bool) (x : X) (o : Option X) → cond b (Some x) o ≡ None → b ≡ false
none-head true x o e = absurd cc
none-head false x o e = refl

none-tail : {X : Type 0} (b : Bool) (x : X) (o : Option X) → cond b (Some x) o ≡ None → o ≡ None
none-tail true x o e = absurd cc
none-tail false x o e = e

none-cons : {X : Type 0} (b : Bool) (x : X) (o : Option X) → b ≡ false → o ≡ None → cond b (Some x) o ≡ None
none-cons true x o e f = absurd cc
none-cons false x o e f = f

-- If nothing is found in a list, each of its elements fails the test.
find-none : {X : Type 0} (p : X → Bool) (xs : List X) (k : ℕ) (d : X) → find p xs ≡ None → k < length xs → p (get_or xs k d) ≡ false
find-none p [] k d e lt = absurd (omega arith)
find-none p (x ∷ xs) zero d e lt = none-head (p x) x (find p xs) e
find-none p (x ∷ xs) (suc k) d e lt = find-none p xs k d (none-tail (p x) x (find p xs) e) (omega arith)

-- If each element of a list fails the test, nothing is found in the list.
none-find : {X : Type 0} (p : X → Bool) (xs : List X) → ((k : ℕ) (d : X) → k < length xs → p (get_or xs k d) ≡ false) → find p xs ≡ None
none-find p [] h = refl
none-find p (x ∷ xs) h = none-cons (p x) x (find p xs) (h 0 x (omega arith)) (none-find p xs (λ k d lt. h (suc k) d (omega arith)))

-- If nothing is found in a list, nothing is found in a list of some of its elements.
fewer : {X : Type 0} (p : X → Bool) (weak strong : List X) → All (λ x. Contains strong x) weak → find p strong ≡ None → find p weak ≡ None
fewer p weak strong h e = none-find p weak (λ k d lt.
    let c = h k d lt in
    subst (λ x. p x ≡ false) c.2 (find-none p strong c.0 (get_or weak k d) e c.1))

no-pair : (o : Option Attribute) (k : Option (List ℕ)) → is_none (key_or o k) ≡ true → (o ≡ None) × (k ≡ None)
no-pair None None e = (refl, refl)
no-pair None (Some k) e = absurd cc
no-pair (Some a) k e = absurd cc

no-pair-from : (o : Option Attribute) (k : Option (List ℕ)) → o ≡ None → k ≡ None → is_none (key_or o k) ≡ true
no-pair-from None None e f = refl
no-pair-from None (Some k) e f = absurd cc
no-pair-from (Some a) k e f = absurd cc

-- Attributes that meet the stronger requirement meet the weaker one.
pub attributes : (weak strong : Required) (given : List Attribute) → IsFewer weak strong → has_required strong given ≡ true
    → has_required weak given ≡ true
attributes weak strong given h e =
    let n = no-pair (unmet_pair strong.pairs given) (unmet_lone_key strong.keys given) e in
    no-pair-from (unmet_pair weak.pairs given) (unmet_lone_key weak.keys given)
    (fewer (λ p. not (has_pair given p)) weak.pairs strong.pairs h.pairs n.0)
    (fewer (λ k. not (has_key given k)) weak.keys strong.keys h.keys n.1)
