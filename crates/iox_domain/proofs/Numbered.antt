-- What is found under a number after an entry changed, went or came.
use Rattle.std.proofs.Common.{◌≡◌, ◌≢◌, ◌∷◌, [], ℕ, Bool, true, false, List, Option, None, Some, cond, refl, sym, ap, ◌∙◌, subst}
use Rattle.std.proofs.lemmas.List.Elements.{All-cons, All-head, All-nil, All-tail}
use Rattle.std.specs.BTreeMap.{insert_entry, is_at}
use Rattle.std.specs.FinMap.{nat_cmp-IsAntisymmetric}
use Rattle.std.specs.List.{All}
use Rattle.std.specs.Map.{lookup, set_value, remove_entry}
use Rattle.std.specs.Ordering.{nat_cmp, is_eq, match_ordering}
use Rattle.std.specs.declared.cmp.Ordering.{Ordering}
use Rattle.std.specs.declared.cmp.Ordering.TheVariants.{Less, Equal, Greater}

-- the test of a number
abbrev pub at_number : ℕ → ℕ → Bool
at_number number = is_at (nat_cmp number)

equal_of : (order : Ordering) → is_eq order ≡ true → order ≡ Equal
equal_of Less is = cc
equal_of Equal is = refl
equal_of Greater is = cc

-- a number passes its own test alone
pub number_is : (number other : ℕ) → at_number number other ≡ true → number ≡ other
number_is number other is = nat_cmp-IsAntisymmetric number other (equal_of (nat_cmp number other) is)

pub bool_false : (b : Bool) → (b ≡ true → ⊥) → b ≡ false
bool_false true not = absurd (not refl)
bool_false false not = refl

-- an entry of another number doesn't pass
pub other_fails : (number changed : ℕ) → number ≢ changed → (key : ℕ) → at_number changed key ≡ true → at_number number key ≡ false
other_fails number changed not key is
    = bool_false (at_number number key) (λ same. not (number_is number key same ∙ sym (number_is changed key is)))

other_head : {X : Type 0} (passes : Bool) (x y : X) (found : Option X) → passes ≡ false
    → cond passes (Some x) found ≡ cond passes (Some y) found
other_head passes x y found is = ap (λ b. cond b (Some x) found) is ∙ sym (ap (λ b. cond b (Some y) found) is)

-- another entry changed
other_set_by : {X : Type 0} (test number : ℕ → Bool) (passes : Bool) (e : ℕ × X) (es : List (ℕ × X)) (x : X)
    → (passes ≡ true → number e.0 ≡ false) → lookup number (set_value test es x) ≡ lookup number es
    → lookup number (cond passes ((e.0, x) ∷ es) (e ∷ set_value test es x)) ≡ lookup number (e ∷ es)
other_set_by test number true e es x apart rest = other_head (number e.0) x e.1 (lookup number es) (apart refl)
other_set_by test number false e es x apart rest = ap (λ found. cond (number e.0) (Some e.1) found) rest

pub other_set : {X : Type 0} (test number : ℕ → Bool) (entries : List (ℕ × X)) (x : X)
    → ((key : ℕ) → test key ≡ true → number key ≡ false) → lookup number (set_value test entries x) ≡ lookup number entries
other_set test number [] x apart = refl
other_set test number (e ∷ es) x apart = other_set_by test number (test e.0) e es x (apart e.0) (other_set test number es x apart)

-- the entry itself changed
same_set_by : {X : Type 0} (test : ℕ → Bool) (passes : Bool) (e : ℕ × X) (es : List (ℕ × X)) (x y : X) → test e.0 ≡ passes
    → (lookup test es ≡ Some y → lookup test (set_value test es x) ≡ Some x)
    → cond passes (Some e.1) (lookup test es) ≡ Some y → lookup test (cond passes ((e.0, x) ∷ es) (e ∷ set_value test es x)) ≡ Some x
same_set_by test true e es x y is rest there = ap (λ b. cond b (Some x) (lookup test es)) is
same_set_by test false e es x y is rest there = ap (λ b. cond b (Some e.1) (lookup test (set_value test es x))) is ∙ rest there

pub same_set : {X : Type 0} (test : ℕ → Bool) (entries : List (ℕ × X)) (x y : X) → lookup test entries ≡ Some y
    → lookup test (set_value test entries x) ≡ Some x
same_set test [] x y there = cc
same_set test (e ∷ es) x y there = same_set_by test (test e.0) e es x y refl (same_set test es x y) there

-- another entry went
other_gone_by : {X : Type 0} (test number : ℕ → Bool) (passes : Bool) (e : ℕ × X) (es : List (ℕ × X))
    → (passes ≡ true → number e.0 ≡ false) → lookup number (remove_entry test es) ≡ lookup number es
    → lookup number (cond passes es (e ∷ remove_entry test es)) ≡ lookup number (e ∷ es)
other_gone_by test number true e es apart rest = sym (ap (λ b. cond b (Some e.1) (lookup number es)) (apart refl))
other_gone_by test number false e es apart rest = ap (λ found. cond (number e.0) (Some e.1) found) rest

pub other_gone : {X : Type 0} (test number : ℕ → Bool) (entries : List (ℕ × X)) → ((key : ℕ) → test key ≡ true → number key ≡ false)
    → lookup number (remove_entry test entries) ≡ lookup number entries
other_gone test number [] apart = refl
other_gone test number (e ∷ es) apart = other_gone_by test number (test e.0) e es (apart e.0) (other_gone test number es apart)

-- another entry came
other_came_by : {X : Type 0} (came number : ℕ) (order : Ordering) (e : ℕ × X) (es : List (ℕ × X)) (x : X) → nat_cmp came e.0 ≡ order
    → number ≢ came
    → lookup (at_number number) (insert_entry nat_cmp es came x) ≡ lookup (at_number number) es
    → lookup (at_number number) (match_ordering order ((came, x) ∷ e ∷ es) ((e.0, x) ∷ es) (e ∷ insert_entry nat_cmp es came x))
    ≡ lookup (at_number number) (e ∷ es)
other_came_by came number Less e es x is not rest =
    ap (λ b. cond b (Some x) (lookup (at_number number) (e ∷ es)))
    (bool_false (at_number number came) (λ same. not (number_is number came same)))
other_came_by came number Equal e es x is not rest =
    other_head (at_number number e.0) x e.1 (lookup (at_number number) es) (other_fails number came not e.0 (ap is_eq is))
other_came_by came number Greater e es x is not rest = ap (λ found. cond (at_number number e.0) (Some e.1) found) rest

pub other_came : {X : Type 0} (came number : ℕ) (entries : List (ℕ × X)) (x : X) → number ≢ came
    → lookup (at_number number) (insert_entry nat_cmp entries came x) ≡ lookup (at_number number) entries
other_came came number [] x not = ap (λ b. cond b (Some x) None)
    (bool_false (at_number number came) (λ same. not (number_is number came same)))
other_came came number (e ∷ es) x not = other_came_by came number (nat_cmp came e.0) e es x refl not (other_came came number es x not)

-- what holds of each entry holds of the one that is found
pub record FoundEntry {X : Type 0} (P : ℕ × X → Type 0) (test : ℕ → Bool) (x : X) : Type 0 where
  pub key : ℕ
  pub passes : test key ≡ true
  pub holds : P (key, x)

found_by : {X : Type 0} (P : ℕ × X → Type 0) (test : ℕ → Bool) (passes : Bool) (e : ℕ × X) (es : List (ℕ × X)) (x : X)
    → test e.0 ≡ passes → P e → (lookup test es ≡ Some x → FoundEntry P test x)
    → cond passes (Some e.1) (lookup test es) ≡ Some x → FoundEntry P test x
found_by {X} P test true e es x is here rest there =
    let same : e.1 ≡ x = cc in
    record { key = e.0; passes = is; holds = subst (λ (y : X). P (e.0, y)) same here }
found_by P test false e es x is here rest there = rest there

pub found_of_all : {X : Type 0} (P : ℕ × X → Type 0) (test : ℕ → Bool) (entries : List (ℕ × X)) (x : X) → All P entries
    → lookup test entries ≡ Some x → FoundEntry P test x
found_of_all P test [] x all there = cc
found_of_all P test (e ∷ es) x all there
    = found_by P test (test e.0) e es x refl (All-head P e es all) (found_of_all P test es x (All-tail P e es all)) there

all_set_by : {X : Type 0} (P : ℕ × X → Type 0) (test : ℕ → Bool) (passes : Bool) (e : ℕ × X) (es : List (ℕ × X)) (x : X)
    → ((one : ℕ × X) → P one → P (one.0, x)) → All P (e ∷ es) → All P (set_value test es x)
    → All P (cond passes ((e.0, x) ∷ es) (e ∷ set_value test es x))
all_set_by P test true e es x changes all rest = All-cons P (e.0, x) es (changes e (All-head P e es all)) (All-tail P e es all)
all_set_by P test false e es x changes all rest = All-cons P e (set_value test es x) (All-head P e es all) rest

-- and of each, where it holds of the changed one
pub all_set : {X : Type 0} (P : ℕ × X → Type 0) (test : ℕ → Bool) (entries : List (ℕ × X)) (x : X)
    → ((one : ℕ × X) → P one → P (one.0, x)) → All P entries → All P (set_value test entries x)
all_set P test [] x changes all = all
all_set P test (e ∷ es) x changes all = all_set_by P test (test e.0) e es x changes all (all_set P test es x changes (All-tail P e es all))

all_gone_by : {X : Type 0} (P : ℕ × X → Type 0) (test : ℕ → Bool) (passes : Bool) (e : ℕ × X) (es : List (ℕ × X)) → All P (e ∷ es)
    → All P (remove_entry test es) → All P (cond passes es (e ∷ remove_entry test es))
all_gone_by P test true e es all rest = All-tail P e es all
all_gone_by P test false e es all rest = All-cons P e (remove_entry test es) (All-head P e es all) rest

-- one that went
pub all_gone : {X : Type 0} (P : ℕ × X → Type 0) (test : ℕ → Bool) (entries : List (ℕ × X)) → All P entries
    → All P (remove_entry test entries)
all_gone P test [] all = all
all_gone P test (e ∷ es) all = all_gone_by P test (test e.0) e es all (all_gone P test es (All-tail P e es all))

all_came_by : {X : Type 0} (P : ℕ × X → Type 0) (came : ℕ) (order : Ordering) (e : ℕ × X) (es : List (ℕ × X)) (x : X) → P (came, x)
    → ((one : ℕ × X) → P one → P (one.0, x)) → All P (e ∷ es) → All P (insert_entry nat_cmp es came x)
    → All P (match_ordering order ((came, x) ∷ e ∷ es) ((e.0, x) ∷ es) (e ∷ insert_entry nat_cmp es came x))
all_came_by P came Less e es x here changes all rest = All-cons P (came, x) (e ∷ es) here all
all_came_by P came Equal e es x here changes all rest = All-cons P (e.0, x) es (changes e (All-head P e es all)) (All-tail P e es all)
all_came_by P came Greater e es x here changes all rest = All-cons P e (insert_entry nat_cmp es came x) (All-head P e es all) rest

-- one that came
pub all_came : {X : Type 0} (P : ℕ × X → Type 0) (came : ℕ) (entries : List (ℕ × X)) (x : X) → P (came, x)
    → ((one : ℕ × X) → P one → P (one.0, x)) → All P entries → All P (insert_entry nat_cmp entries came x)
all_came P came [] x here changes all = All-cons P (came, x) [] here all
all_came P came (e ∷ es) x here changes all
    = all_came_by P came (nat_cmp came e.0) e es x here changes all (all_came P came es x here changes (All-tail P e es all))

-- what follows of each entry
pub all_then : {X : Type 0} (P Q : ℕ × X → Type 0) (entries : List (ℕ × X)) → ((one : ℕ × X) → P one → Q one) → All P entries
    → All Q entries
all_then P Q [] follows all = All-nil Q
all_then P Q (e ∷ es) follows all = All-cons Q e es (follows e (All-head P e es all)) (all_then P Q es follows (All-tail P e es all))
