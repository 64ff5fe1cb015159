-- Look-ups and lengths after a change.
use Rattle.std.proofs.Common.{◌≡◌, ◌+◌, ◌≤◌, Bool, true, false, cond, List, [], ◌∷◌, Some, IsSome, length, refl, arith}
use Rattle.std.specs.declared.cmp.Ordering.{Ordering}
use Rattle.std.specs.declared.cmp.Ordering.TheVariants.{Less, Equal, Greater}
use Rattle.std.specs.Ordering.{match_ordering, ordering_reverse}
use Rattle.std.specs.Cmp.{IsTotalOrder}
use Rattle.std.specs.BTreeMap.{insert_entry, is_at}
use Rattle.std.specs.BTreeSet.{insert_key}
use Rattle.std.specs.Map.{lookup, set_value}
use Rattle.std.specs.Set.{remove_key}

no : {X : Type 0} → false ≡ true → X
no h = absurd (differ h)
  where
    differ : false ≡ true → ⊥
    differ e = cc

set-here : {K X : Type 0} (test : K → Bool) (e : K × X) (es : List (K × X)) (w : X) (b : Bool) → test e.0 ≡ b
    → (IsSome (lookup test es) → lookup test (set_value test es w) ≡ Some w)
    → IsSome (cond b (Some e.1) (lookup test es)) → lookup test (cond b ((e.0, w) ∷ es) (e ∷ set_value test es w)) ≡ Some w
set-here test e es w true is later found = rw is refl
set-here test e es w false is later found = rw is (later found)

-- a value that was set is found
pub lookup-set : {K X : Type 0} (test : K → Bool) (es : List (K × X)) (w : X) → IsSome (lookup test es)
    → lookup test (set_value test es w) ≡ Some w
lookup-set test [] w found = no found
lookup-set test (e ∷ es) w found = set-here test e es w (test e.0) refl (lookup-set test es w) found

insert-here : {K : Type 0} (x k : K) (xs later : List K) (o : Ordering) → length later ≤ length xs + 1
    → length (match_ordering o (k ∷ x ∷ xs) (x ∷ xs) (x ∷ later)) ≤ length (x ∷ xs) + 1
insert-here x k xs later Less h = omega (arith, h)
insert-here x k xs later Equal h = omega (arith, h)
insert-here x k xs later Greater h = omega (arith, h)

-- one key more at most
pub length-insert_key : {K : Type 0} (cmp : K → K → Ordering) (ks : List K) (k : K) → length (insert_key cmp ks k) ≤ length ks + 1
length-insert_key cmp [] k = omega arith
length-insert_key cmp (x ∷ xs) k = insert-here x k xs (insert_key cmp xs k) (cmp k x) (length-insert_key cmp xs k)

remove-here : {K : Type 0} (x : K) (xs later : List K) (b : Bool) → length later ≤ length xs
    → length (cond b xs (x ∷ later)) ≤ length (x ∷ xs)
remove-here x xs later true h = omega (arith, h)
remove-here x xs later false h = omega (arith, h)

-- no more keys than before
pub length-removed : {K : Type 0} (test : K → Bool) (ks : List K) → length (remove_key test ks) ≤ length ks
length-removed test [] = omega arith
length-removed test (x ∷ xs) = remove-here x xs (remove_key test xs) (test x) (length-removed test xs)

-- a list in which something is found isn't empty
pub found-length : {K X : Type 0} (test : K → Bool) (es : List (K × X)) → IsSome (lookup test es) → 1 ≤ length es
found-length test [] found = no found
found-length test (e ∷ es) found = omega arith

-- an order finds each thing equal to itself
self-equal : (o : Ordering) → o ≡ ordering_reverse o → o ≡ Equal
self-equal Less is = absurd (differ is)
  where
    differ : Less ≡ Greater → ⊥
    differ e = cc
self-equal Equal is = refl
self-equal Greater is = absurd (differ is)
  where
    differ : Greater ≡ Less → ⊥
    differ e = cc

pub is-self : {K : Type 0} (cmp : K → K → Ordering) → IsTotalOrder cmp → (k : K) → cmp k k ≡ Equal
is-self cmp total k = self-equal (cmp k k) (total.antisymm k k)

added-here : {K X : Type 0} (cmp : K → K → Ordering) (k : K) (v : X) (e : K × X) (es later : List (K × X)) (o : Ordering)
    → cmp k k ≡ Equal → cmp k e.0 ≡ o
    → lookup (is_at (cmp k)) later ≡ Some v
    → lookup (is_at (cmp k)) (match_ordering o ((k, v) ∷ e ∷ es) ((e.0, v) ∷ es) (e ∷ later)) ≡ Some v
added-here cmp k v e es later Less same is found = rw same refl
added-here cmp k v e es later Equal same is found = rw is refl
added-here cmp k v e es later Greater same is found = rw is found

-- a value that was added is found
pub lookup-added : {K X : Type 0} (cmp : K → K → Ordering) (k : K) (v : X) (es : List (K × X)) → cmp k k ≡ Equal
    → lookup (is_at (cmp k)) (insert_entry cmp es k v) ≡ Some v
lookup-added cmp k v [] same = rw same refl
lookup-added cmp k v (e ∷ es) same = added-here cmp k v e es (insert_entry cmp es k v) (cmp k e.0) same refl (lookup-added cmp k v es same)

grown-here : {K X : Type 0} (k : K) (v : X) (e : K × X) (es later : List (K × X)) (o : Ordering) → length later ≤ length es + 1
    → length (match_ordering o ((k, v) ∷ e ∷ es) ((e.0, v) ∷ es) (e ∷ later)) ≤ length (e ∷ es) + 1
grown-here k v e es later Less h = omega (arith, h)
grown-here k v e es later Equal h = omega (arith, h)
grown-here k v e es later Greater h = omega (arith, h)

-- one entry more at most
pub length-added : {K X : Type 0} (cmp : K → K → Ordering) (k : K) (v : X) (es : List (K × X))
    → length (insert_entry cmp es k v) ≤ length es + 1
length-added cmp k v [] = omega arith
length-added cmp k v (e ∷ es) = grown-here k v e es (insert_entry cmp es k v) (cmp k e.0) (length-added cmp k v es)
