-- Lookups at another key after a change, and what is true of each entry.
use Rattle.std.proofs.Common.{◌≡◌, ◌≢◌, Bool, true, false, cond, List, [], ◌∷◌, None, Some, refl, sym, ap, subst, ◌∙◌, ◌⊎◌, inl, inr}
use Rattle.std.specs.List.{AllByRecursion}
use Rattle.std.specs.declared.cmp.Ordering.{Ordering}
use Rattle.std.specs.declared.cmp.Ordering.TheVariants.{Less, Equal, Greater}
use Rattle.std.specs.Ordering.{match_ordering, ordering_reverse}
use Rattle.std.specs.Cmp.{IsTotalOrder}
use Rattle.std.specs.BTreeMap.{insert_entry}
use Rattle.std.specs.Map.{lookup, set_value, remove_entry}

pub no : {X : Type 0} → false ≡ true → X
no h = absurd (differ h)
  where
    differ : false ≡ true → ⊥
    differ e = cc

pub on : {X : Type 0} → true ≡ false → X
on h = absurd (differ h)
  where
    differ : true ≡ false → ⊥
    differ e = cc

-- either answer of a test
pub by_test : {P : Type 0} (b : Bool) → (b ≡ true → P) → (b ≡ false → P) → P
by_test true p q = p refl
by_test false p q = q refl

module _ {K X : Type 0} (test other : K → Bool) (apart : (k : K) → test k ≡ true → other k ≡ false) where
  set-there : (e : K × X) (es : List (K × X)) (w : X) (b : Bool) → test e.0 ≡ b → lookup other (set_value test es w) ≡ lookup other es
      → lookup other (cond b ((e.0, w) ∷ es) (e ∷ set_value test es w)) ≡ cond (other e.0) (Some e.1) (lookup other es)
  set-there e es w true is later = rw (apart e.0 is) refl
  set-there e es w false is later = rw later refl

  -- a value that was set at another key
  pub set-apart : (es : List (K × X)) (w : X) → lookup other (set_value test es w) ≡ lookup other es
  set-apart [] w = refl
  set-apart (e ∷ es) w = set-there e es w (test e.0) refl (set-apart es w)

  remove-there : (e : K × X) (es : List (K × X)) (b : Bool) → test e.0 ≡ b → lookup other (remove_entry test es) ≡ lookup other es
      → lookup other (cond b es (e ∷ remove_entry test es)) ≡ cond (other e.0) (Some e.1) (lookup other es)
  remove-there e es true is later = rw (apart e.0 is) refl
  remove-there e es false is later = rw later refl

  -- an entry that was removed at another key
  pub remove-apart : (es : List (K × X)) → lookup other (remove_entry test es) ≡ lookup other es
  remove-apart [] = refl
  remove-apart (e ∷ es) = remove-there e es (test e.0) refl (remove-apart es)

module _ {K X : Type 0} (cmp : K → K → Ordering) (k : K) (v : X) (other : K → Bool) (away : other k ≡ false)
    (exact : (x y : K) → cmp x y ≡ Equal → x ≡ y) where
  insert-there : (e : K × X) (es later : List (K × X)) (o : Ordering) → cmp k e.0 ≡ o → lookup other later ≡ lookup other es
      → lookup other (match_ordering o ((k, v) ∷ e ∷ es) ((e.0, v) ∷ es) (e ∷ later)) ≡ cond (other e.0) (Some e.1) (lookup other es)
  insert-there e es later Less is found = rw away refl
  insert-there e es later Equal is found = let same : other e.0 ≡ false = subst (λ x. other x ≡ false) (exact k e.0 is) away in rw same refl
  insert-there e es later Greater is found = rw found refl

  -- an entry that was added at another key
  pub insert-apart : (es : List (K × X)) → lookup other (insert_entry cmp es k v) ≡ lookup other es
  insert-apart [] = rw away refl
  insert-apart (e ∷ es) = insert-there e es (insert_entry cmp es k v) (cmp k e.0) refl (insert-apart es)

module _ {K X : Type 0} (P : K × X → Type 0) where
  insert-all-there : (cmp : K → K → Ordering) (k : K) (v : X) (e : K × X) (es later : List (K × X)) (o : Ordering) → cmp k e.0 ≡ o
      → ((x y : K) → cmp x y ≡ Equal → x ≡ y)
      → P e → AllByRecursion P es → P (k, v) → AllByRecursion P later
      → AllByRecursion P (match_ordering o ((k, v) ∷ e ∷ es) ((e.0, v) ∷ es) (e ∷ later))
  insert-all-there cmp k v e es later Less is exact here all given rest = (given, (here, all))
  insert-all-there cmp k v e es later Equal is exact here all given rest = (subst (λ x. P (x, v)) (exact k e.0 is) given, all)
  insert-all-there cmp k v e es later Greater is exact here all given rest = (here, rest)

  -- what holds of each entry and of the one that is added holds of each
  pub insert-all : (cmp : K → K → Ordering) (k : K) (v : X) → ((x y : K) → cmp x y ≡ Equal → x ≡ y) → (es : List (K × X))
      → AllByRecursion P es → P (k, v) → AllByRecursion P (insert_entry cmp es k v)
  insert-all cmp k v exact [] all given = (given, tt)
  insert-all cmp k v exact (e ∷ es) all given =
      insert-all-there cmp k v e es (insert_entry cmp es k v) (cmp k e.0) refl exact all.0 all.1 given
      (insert-all cmp k v exact es all.1 given)

  remove-all-there : (e : K × X) (es later : List (K × X)) (b : Bool) → P e → AllByRecursion P es → AllByRecursion P later
      → AllByRecursion P (cond b es (e ∷ later))
  remove-all-there e es later true here all rest = all
  remove-all-there e es later false here all rest = (here, rest)

  pub remove-all : (test : K → Bool) (es : List (K × X)) → AllByRecursion P es → AllByRecursion P (remove_entry test es)
  remove-all test [] all = tt
  remove-all test (e ∷ es) all = remove-all-there e es (remove_entry test es) (test e.0) all.0 all.1 (remove-all test es all.1)

  set-all-there : (test : K → Bool) (e : K × X) (es later : List (K × X)) (w : X) (b : Bool) → test e.0 ≡ b
      → ((x : K) → test x ≡ true → P (x, w)) → P e → AllByRecursion P es → AllByRecursion P later
      → AllByRecursion P (cond b ((e.0, w) ∷ es) (e ∷ later))
  set-all-there test e es later w true is given here all rest = (given e.0 is, all)
  set-all-there test e es later w false is given here all rest = (here, rest)

  pub set-all : (test : K → Bool) (w : X) → ((x : K) → test x ≡ true → P (x, w)) → (es : List (K × X)) → AllByRecursion P es
      → AllByRecursion P (set_value test es w)
  set-all test w given [] all = tt
  set-all test w given (e ∷ es) all = set-all-there test e es (set_value test es w) w (test e.0) refl given all.0 all.1
      (set-all test w given es all.1)

  set-found-there : (test : K → Bool) (e : K × X) (es later : List (K × X)) (w : X) (b : Bool) → test e.0 ≡ b
      → ((x : K) (v : X) → cond b (Some e.1) (lookup test es) ≡ Some v → P (x, v) → P (x, w)) → P e
      → AllByRecursion P es → (((x : K) (v : X) → lookup test es ≡ Some v → P (x, v) → P (x, w)) → AllByRecursion P later)
      → AllByRecursion P (cond b ((e.0, w) ∷ es) (e ∷ later))
  set-found-there test e es later w true is given here all rest = (given e.0 e.1 refl here, all)
  set-found-there test e es later w false is given here all rest = (here, rest given)

  -- what holds of each entry holds after a value was set, if it passes from the old value to the new one
  pub set-found : (test : K → Bool) (w : X) (es : List (K × X)) → ((x : K) (v : X) → lookup test es ≡ Some v → P (x, v) → P (x, w))
      → AllByRecursion P es → AllByRecursion P (set_value test es w)
  set-found test w [] given all = tt
  set-found test w (e ∷ es) given all
      = set-found-there test e es (set_value test es w) w (test e.0) refl given all.0 all.1 (λ g. set-found test w es g all.1)

  found-there : (test : K → Bool) (e : K × X) (es : List (K × X)) (v : X) (b : Bool) → test e.0 ≡ b → P e
      → (lookup test es ≡ Some v → (k : K) × (test k ≡ true) × P (k, v))
      → cond b (Some e.1) (lookup test es) ≡ Some v → (k : K) × (test k ≡ true) × P (k, v)
  found-there test e es v true is here later found = (e.0, is, subst (λ x. P (e.0, x)) (same found) here)
    where
      same : Some e.1 ≡ Some v → e.1 ≡ v
      same h = cc
  found-there test e es v false is here later found = later found

  -- what holds of each entry holds of the one that is found
  pub found-all : (test : K → Bool) (es : List (K × X)) (v : X) → AllByRecursion P es → lookup test es ≡ Some v → (k : K)
      × (test k ≡ true) × P (k, v)
  found-all test [] v all found = absurd (differ found)
    where
      differ : None ≡ Some v → ⊥
      differ h = cc
  found-all test (e ∷ es) v all found = found-there test e es v (test e.0) refl all.0 (found-all test es v all.1) found

  pub weaker : (Q : K × X → Type 0) → ((e : K × X) → P e → Q e) → (es : List (K × X)) → AllByRecursion P es → AllByRecursion Q es
  weaker Q then [] all = tt
  weaker Q then (e ∷ es) all = (then e all.0, weaker Q then es all.1)

-- nothing is found where no key passes
pub none-found : {K X : Type 0} (test : K → Bool) (es : List (K × X)) → AllByRecursion (λ e. test e.0 ≡ false) es → lookup test es ≡ None
none-found test [] all = refl
none-found test (e ∷ es) all = rw all.0 (none-found test es all.1)

-- and where nothing is found no key passes
none-there : {K X : Type 0} (test : K → Bool) (e : K × X) (es : List (K × X)) (b : Bool) → test e.0 ≡ b
    → (lookup test es ≡ None → AllByRecursion (λ x. test x.0 ≡ false) es)
    → cond b (Some e.1) (lookup test es) ≡ None → (test e.0 ≡ false) × AllByRecursion (λ x. test x.0 ≡ false) es
none-there test e es true is later found = absurd (differ found)
  where
    differ : Some e.1 ≡ None → ⊥
    differ h = cc
none-there test e es false is later found = (is, later found)

pub none-passes : {K X : Type 0} (test : K → Bool) (es : List (K × X)) → lookup test es ≡ None → AllByRecursion (λ e. test e.0 ≡ false) es
none-passes test [] found = tt
none-passes test (e ∷ es) found = none-there test e es (test e.0) refl (none-passes test es) found

-- an entry is among others
abbrev pub Among : {E : Type 0} → E → List E → Type 0
Among e [] = ⊥
Among e (x ∷ xs) = (x ≡ e) ⊎ Among e xs

-- what holds of each holds of one among them
pub among-all : {E : Type 0} (P : E → Type 0) (es : List E) (e : E) → Among e es → AllByRecursion P es → P e
among-all P [] e in_it all = absurd in_it
among-all P (x ∷ xs) e (inl is) all = subst P is all.0
among-all P (x ∷ xs) e (inr later) all = among-all P xs e later all.1

among-there : {K X : Type 0} (test : K → Bool) (e : K × X) (es : List (K × X)) (v : X) (b : Bool) → test e.0 ≡ b
    → (lookup test es ≡ Some v → (k : K) × (test k ≡ true) × Among (k, v) es)
    → cond b (Some e.1) (lookup test es) ≡ Some v → (k : K) × (test k ≡ true) × Among (k, v) (e ∷ es)
among-there test e es v true is later found = (e.0, is, inl (ap (λ x. (e.0, x)) (same found)))
  where
    same : Some e.1 ≡ Some v → e.1 ≡ v
    same h = cc
among-there test e es v false is later found = let l = later found in (l.0, l.1, inr l.2)

-- what is found is among the entries
pub among : {K X : Type 0} (test : K → Bool) (es : List (K × X)) (v : X) → lookup test es ≡ Some v → (k : K) × (test k ≡ true)
    × Among (k, v) es
among test [] v found = absurd (differ found)
  where
    differ : None ≡ Some v → ⊥
    differ h = cc
among test (e ∷ es) v found = among-there test e es v (test e.0) refl (among test es v) found

-- no two of them have the same
abbrev pub Distinct : {E Y : Type 0} → (E → Y) → List E → Type 0
Distinct f [] = Unit {0}
Distinct f (e ∷ es) = AllByRecursion (λ x. f x ≢ f e) es × Distinct f es

module _ {E Y : Type 0} (f : E → Y) where
  others : (e : E) (es : List E) → AllByRecursion (λ x. f x ≢ f e) es → AllByRecursion (λ x. f x ≡ f e → x ≡ e) es
  others e [] all = tt
  others e (x ∷ xs) all = ((λ same. absurd (all.0 same)), others e xs all.1)

  -- one among them is the only one that has the same
  pub once : (es : List E) (e : E) → Distinct f es → Among e es → AllByRecursion (λ x. f x ≡ f e → x ≡ e) es
  once [] e distinct in_it = absurd in_it
  once (x ∷ xs) e distinct (inl is) = ((λ same. is), subst (λ y. AllByRecursion (λ x. f x ≡ f y → x ≡ y) xs) is (others x xs distinct.0))
  once (x ∷ xs) e distinct (inr later) =
      ((λ same. absurd (among-all (λ y. f y ≢ f x) xs e later distinct.0 (sym same))), once xs e distinct.1 later)

module _ {K X Y : Type 0} (f : K × X → Y) where
  pub remove-distinct : (test : K → Bool) (es : List (K × X)) → Distinct f es → Distinct f (remove_entry test es)
  remove-distinct test [] distinct = tt
  remove-distinct test (e ∷ es) distinct = there (test e.0) (remove-distinct test es distinct.1)
    where
      there : (b : Bool) → Distinct f (remove_entry test es) → Distinct f (cond b es (e ∷ remove_entry test es))
      there true rest = distinct.1
      there false rest = (remove-all (λ x. f x ≢ f e) test es distinct.0, rest)

  pub insert-distinct : (cmp : K → K → Ordering) (k : K) (v : X) → ((x y : K) → cmp x y ≡ Equal → x ≡ y) → (es : List (K × X))
      → Distinct f es → AllByRecursion (λ x. f x ≢ f (k, v)) es
      → Distinct f (insert_entry cmp es k v)
  insert-distinct cmp k v exact [] distinct new = (tt, tt)
  insert-distinct cmp k v exact (e ∷ es) distinct new = there (cmp k e.0) refl (insert-distinct cmp k v exact es distinct.1 new.1)
    where
      there : (o : Ordering) → cmp k e.0 ≡ o → Distinct f (insert_entry cmp es k v)
          → Distinct f (match_ordering o ((k, v) ∷ e ∷ es) ((e.0, v) ∷ es) (e ∷ insert_entry cmp es k v))
      there Less is rest = ((new.0, new.1), distinct)
      there Equal is rest = (subst (λ x. AllByRecursion (λ y. f y ≢ f (x, v)) es) (exact k e.0 is) new.1, distinct.1)
      there Greater is rest = (insert-all (λ x. f x ≢ f e) cmp k v exact es distinct.0 (λ same. new.0 (sym same)), rest)

  pub set-distinct : (test : K → Bool) (w : X) (es : List (K × X)) → ((x : K) (v : X) → lookup test es ≡ Some v → f (x, v) ≡ f (x, w))
      → Distinct f es → Distinct f (set_value test es w)
  set-distinct test w [] same distinct = tt
  set-distinct test w (e ∷ es) same distinct = there (test e.0) refl same (λ s. set-distinct test w es s distinct.1)
    where
      there : (b : Bool) → test e.0 ≡ b → ((x : K) (v : X) → cond b (Some e.1) (lookup test es) ≡ Some v → f (x, v) ≡ f (x, w))
          → (((x : K) (v : X) → lookup test es ≡ Some v → f (x, v) ≡ f (x, w)) → Distinct f (set_value test es w))
          → Distinct f (cond b ((e.0, w) ∷ es) (e ∷ set_value test es w))
      there true is same rest = (subst (λ y. AllByRecursion (λ x. f x ≢ y) es) (same e.0 e.1 refl) distinct.0, distinct.1)
      there false is same rest = (
        set-found (λ x. f x ≢ f e) test w es (λ x v found. subst (λ y. y ≢ f e) (same x v found)) distinct.0,
        rest same,
      )

-- an entry that is removed is not found again where the keys are distinct
pub remove-same : {K X : Type 0} (test : K → Bool) → ((x y : K) → test x ≡ true → test y ≡ true → x ≡ y) → (es : List (K × X))
    → Distinct (λ e. e.0) es → lookup test (remove_entry test es) ≡ None
remove-same test one [] distinct = refl
remove-same {K = K} {X = X} test one (e ∷ es) distinct = there (test e.0) refl (remove-same test one es distinct.1)
  where
    differing : (x : List (K × X)) → test e.0 ≡ true → AllByRecursion (λ y. y.0 ≢ e.0) x → AllByRecursion (λ y. test y.0 ≡ false) x
    differing [] is all = tt
    differing (x ∷ xs) is all = (by_test (test x.0) (λ also. absurd (all.0 (one x.0 e.0 also is))) (λ isnt. isnt), differing xs is all.1)

    there : (b : Bool) → test e.0 ≡ b → lookup test (remove_entry test es) ≡ None
        → lookup test (cond b es (e ∷ remove_entry test es)) ≡ None
    there true is rest = none-found test es (differing es is distinct.0)
    there false is rest = rw is rest

-- each key is below those after it
abbrev pub Rising : {K X : Type 0} → (K → K → Ordering) → List (K × X) → Type 0
Rising cmp [] = Unit {0}
Rising cmp (e ∷ es) = AllByRecursion (λ x. cmp e.0 x.0 ≡ Less) es × Rising cmp es

module _ {K X : Type 0} (cmp : K → K → Ordering) (total : IsTotalOrder cmp) (exact : (x y : K) → cmp x y ≡ Equal → x ≡ y) where
  above-all : (k : K) (e : K × X) (es : List (K × X)) → cmp k e.0 ≡ Less → AllByRecursion (λ x. cmp e.0 x.0 ≡ Less) es
      → AllByRecursion (λ x. cmp k x.0 ≡ Less) es
  above-all k e [] less all = tt
  above-all k e (x ∷ es) less all = (total.trans k e.0 x.0 less all.0, above-all k e es less all.1)

  pub insert-rising : (k : K) (v : X) (es : List (K × X)) → Rising cmp es → Rising cmp (insert_entry cmp es k v)
  insert-rising k v [] rising = (tt, tt)
  insert-rising k v (e ∷ es) rising = there (cmp k e.0) refl (insert-rising k v es rising.1)
    where
      there : (o : Ordering) → cmp k e.0 ≡ o → Rising cmp (insert_entry cmp es k v)
          → Rising cmp (match_ordering o ((k, v) ∷ e ∷ es) ((e.0, v) ∷ es) (e ∷ insert_entry cmp es k v))
      there Less is rest = ((is, above-all k e es is rising.0), rising)
      there Equal is rest = (rising.0, rising.1)
      there Greater is rest
          = (insert-all (λ x. cmp e.0 x.0 ≡ Less) cmp k v exact es rising.0 (total.antisymm e.0 k ∙ ap ordering_reverse is), rest)

  pub remove-rising : (test : K → Bool) (es : List (K × X)) → Rising cmp es → Rising cmp (remove_entry test es)
  remove-rising test [] rising = tt
  remove-rising test (e ∷ es) rising = there (test e.0) (remove-rising test es rising.1)
    where
      there : (b : Bool) → Rising cmp (remove_entry test es) → Rising cmp (cond b es (e ∷ remove_entry test es))
      there true rest = rising.1
      there false rest = (remove-all (λ x. cmp e.0 x.0 ≡ Less) test es rising.0, rest)

  pub set-rising : (test : K → Bool) (w : X) (es : List (K × X)) → Rising cmp es → Rising cmp (set_value test es w)
  set-rising test w [] rising = tt
  set-rising test w (e ∷ es) rising = there (test e.0) (set-rising test w es rising.1)
    where
      there : (b : Bool) → Rising cmp (set_value test es w) → Rising cmp (cond b ((e.0, w) ∷ es) (e ∷ set_value test es w))
      there true rest = (rising.0, rising.1)
      there false rest = (set-found (λ x. cmp e.0 x.0 ≡ Less) test w es (λ x v found less. less) rising.0, rest)

  apart-all : (k : K) (es : List (K × X)) → cmp k k ≡ Equal → AllByRecursion (λ x. cmp k x.0 ≡ Less) es → AllByRecursion (λ x. x.0 ≢ k) es
  apart-all k [] self all = tt
  apart-all k (x ∷ es) self all = ((λ same. differ (sym self ∙ subst (λ y. cmp k y ≡ Less) same all.0)), apart-all k es self all.1)
    where
      differ : Equal ≡ Less → ⊥
      differ e = cc

  -- rising keys are distinct
  pub rising-distinct : ((k : K) → cmp k k ≡ Equal) → (es : List (K × X)) → Rising cmp es → Distinct (λ e. e.0) es
  rising-distinct self [] rising = tt
  rising-distinct self (e ∷ es) rising = (apart-all e.0 es (self e.0) rising.0, rising-distinct self es rising.1)
