-- What is true of each entry, and how often a number occurs, after an entry is changed, removed or added.
use Rattle.std.proofs.Common.{arith, ◌≡◌, ◌≢◌, ◌∙◌, ◌+◌, ◌≤◌, ◌<◌, ◌∷◌, [], ℕ, Bool, true, false, cond, List, if◌then◌else◌, refl, sym}
use Rattle.std.proofs.Common.{ap, subst}
use Rattle.std.proofs.lemmas.List.Elements.{All-cons, All-head, All-nil, All-tail}
use Rattle.std.proofs.lemmas.Map.{keys-set_value}
use Rattle.std.specs.BTreeMap.{insert_entry}
use Rattle.std.specs.FinMap.{nat_cmp-IsAntisymmetric}
use Rattle.std.specs.List.{All}
use Rattle.std.specs.Map.{keys_of, set_value, remove_entry}
use Rattle.std.specs.Ordering.{nat_cmp, match_ordering}
use Rattle.std.specs.declared.cmp.Ordering.{Ordering}
use Rattle.std.specs.declared.cmp.Ordering.TheVariants.{Less, Equal, Greater}
use Rattle.iox_domain.specs.Tries.{how_often}
use Rattle.iox_domain.proofs.Keys.{adds, adds_same, adds_other}
use Rattle.iox_domain.proofs.Numbered.{at_number, number_is}

-- where none goes by a number
all_else : {X : Type 0} (P Q : ℕ × X → Type 0) (number : ℕ) (entries : List (ℕ × X)) → how_often number (keys_of entries) ≡ 0
    → ((key : ℕ) (x : X) → key ≢ number → P (key, x) → Q (key, x)) → All P entries → All Q entries
all_else P Q number [] none follows all = All-nil Q
all_else P Q number (e ∷ es) none follows all =
    All-cons Q e es (follows e.0 e.1 (λ same. absurd (omega (arith, none, adds_same number e.0 (sym same)))) (All-head P e es all))
    (all_else P Q number es (omega (arith, none)) follows (All-tail P e es all))

-- the entry of a number changed, of which there is one at most
set_by : {X : Type 0} (P Q : ℕ × X → Type 0) (number : ℕ) (passes : Bool) (e : ℕ × X) (es : List (ℕ × X)) (x : X)
    → at_number number e.0 ≡ passes → at_number number number ≡ true → how_often number (keys_of (e ∷ es)) ≤ 1 → Q (number, x)
    → ((key : ℕ) (one : X) → key ≢ number → P (key, one) → Q (key, one)) → All P (e ∷ es) → All Q (set_value (at_number number) es x)
    → All Q (cond passes ((e.0, x) ∷ es) (e ∷ set_value (at_number number) es x))
set_by P Q number true e es x is own once here follows all rest =
    let same : number ≡ e.0 = number_is number e.0 is in
    All-cons Q (e.0, x) es (subst (λ key. Q (key, x)) same here)
    (all_else P Q number es (omega (arith, once, adds_same number e.0 same)) follows (All-tail P e es all))
set_by P Q number false e es x is own once here follows all rest =
    All-cons Q e (set_value (at_number number) es x)
    (follows e.0 e.1 (λ same. let no : true ≡ false = sym own ∙ ap (λ key. at_number number key) (sym same) ∙ is in cc)
    (All-head P e es all)) rest

pub all_set_once : {X : Type 0} (P Q : ℕ × X → Type 0) (number : ℕ) (entries : List (ℕ × X)) (x : X) → at_number number number ≡ true
    → how_often number (keys_of entries) ≤ 1 → Q (number, x)
    → ((key : ℕ) (one : X) → key ≢ number → P (key, one) → Q (key, one)) → All P entries → All Q (set_value (at_number number) entries x)
all_set_once P Q number [] x own once here follows all = All-nil Q
all_set_once P Q number (e ∷ es) x own once here follows all =
    set_by P Q number (at_number number e.0) e es x refl own once here follows all
    (all_set_once P Q number es x own (omega (arith, once)) here follows (All-tail P e es all))

-- one came
came_by : {X : Type 0} (P : ℕ × X → Type 0) (came : ℕ) (order : Ordering) (e : ℕ × X) (es : List (ℕ × X)) (x : X)
    → nat_cmp came e.0 ≡ order → P (came, x) → All P (e ∷ es) → All P (insert_entry nat_cmp es came x)
    → All P (match_ordering order ((came, x) ∷ e ∷ es) ((e.0, x) ∷ es) (e ∷ insert_entry nat_cmp es came x))
came_by P came Less e es x is here all rest = All-cons P (came, x) (e ∷ es) here all
came_by P came Equal e es x is here all rest
    = All-cons P (e.0, x) es (subst (λ key. P (key, x)) (nat_cmp-IsAntisymmetric came e.0 is) here) (All-tail P e es all)
came_by P came Greater e es x is here all rest = All-cons P e (insert_entry nat_cmp es came x) (All-head P e es all) rest

pub all_came_at : {X : Type 0} (P : ℕ × X → Type 0) (came : ℕ) (entries : List (ℕ × X)) (x : X) → P (came, x) → All P entries
    → All P (insert_entry nat_cmp entries came x)
all_came_at P came [] x here all = All-cons P (came, x) [] here all
all_came_at P came (e ∷ es) x here all
    = came_by P came (nat_cmp came e.0) e es x refl here all (all_came_at P came es x here (All-tail P e es all))

-- how often a number stands
pub often_set : {X : Type 0} (number : ℕ) (test : ℕ → Bool) (entries : List (ℕ × X)) (x : X)
    → how_often number (keys_of (set_value test entries x)) ≡ how_often number (keys_of entries)
often_set number test entries x = ap (λ keys. how_often number keys) (keys-set_value test entries x)

gone_by : {X : Type 0} (number : ℕ) (test : ℕ → Bool) (passes : Bool) (e : ℕ × X) (es : List (ℕ × X))
    → how_often number (keys_of (remove_entry test es)) ≤ how_often number (keys_of es)
    → how_often number (keys_of (cond passes es (e ∷ remove_entry test es))) ≤ how_often number (keys_of (e ∷ es))
gone_by number test true e es rest = omega arith
gone_by number test false e es rest = omega (arith, rest)

often_removed : {X : Type 0} (number : ℕ) (test : ℕ → Bool) (entries : List (ℕ × X))
    → how_often number (keys_of (remove_entry test entries)) ≤ how_often number (keys_of entries)
often_removed number test [] = omega arith
often_removed number test (e ∷ es) = gone_by number test (test e.0) e es (often_removed number test es)

pub often_gone : {X : Type 0} (number : ℕ) (over : Bool) (test : ℕ → Bool) (entries : List (ℕ × X))
    → how_often number (keys_of (if over then remove_entry test entries else entries)) ≤ how_often number (keys_of entries)
often_gone number true test entries = often_removed number test entries
often_gone number false test entries = omega arith

often_by : {X : Type 0} (number came : ℕ) (order : Ordering) (e : ℕ × X) (es : List (ℕ × X)) (x : X)
    → how_often number (keys_of (insert_entry nat_cmp es came x)) ≤ how_often number (keys_of es) + adds number came
    → how_often number (keys_of (match_ordering order ((came, x) ∷ e ∷ es) ((e.0, x) ∷ es) (e ∷ insert_entry nat_cmp es came x)))
    ≤ how_often number (keys_of (e ∷ es)) + adds number came
often_by number came Less e es x rest = omega arith
often_by number came Equal e es x rest = omega arith
often_by number came Greater e es x rest = omega (arith, rest)

pub often_came : {X : Type 0} (number came : ℕ) (entries : List (ℕ × X)) (x : X)
    → how_often number (keys_of (insert_entry nat_cmp entries came x)) ≤ how_often number (keys_of entries) + adds number came
often_came number came [] x = omega arith
often_came number came (e ∷ es) x = often_by number came (nat_cmp came e.0) e es x (often_came number came es x)

-- a number that none reaches stands nowhere
pub none_below : (next : ℕ) (keys : List ℕ) → All (λ number. number < next) keys → how_often next keys ≡ 0
none_below next [] all = refl
none_below next (key ∷ keys) all =
    let here = All-head (λ number. number < next) key keys all in
    let rest = none_below next keys (All-tail (λ number. number < next) key keys all) in
    omega (arith, rest, adds_other next key (λ same. absurd (omega (arith, same, here))))
