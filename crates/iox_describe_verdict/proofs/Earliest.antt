-- The earliest error of unmet clauses is that of the first of them, where the errors of the clauses rise.
use Rattle.std.proofs.Common.{◌≡◌, ◌⊎◌, inl, inr, Bool, true, false, List, [], ◌∷◌, Option, Some, None, Ok, Err, refl, sym, ap, subst, ◌∙◌}
use Rattle.std.specs.declared.cmp.Ordering.{Ordering}
use Rattle.std.specs.declared.cmp.Ordering.TheVariants.{Less, Equal, Greater}
use Rattle.std.specs.Cmp.{IsTotalOrder}
use Rattle.std.proofs.lemmas.Bool.{cases_Bool}
use Rattle.std.specs.Ordering.{is_eq, is_lt, ord_min, ordering_reverse}
use Rattle.iox_describe_settings.specs.DescribeBase.Attributes.{result_of}
use Rattle.iox_describe_settings.proofs.DescribeBase.CompatibleLemmas.{both}
use Rattle.iox_describe_verdict.specs.Earliest.{AreAmong, AreSame, clause_with, earliest, rise}
use Rattle.iox_describe_verdict.specs.Verdict.{first_unmet, unmet_clause}

-- x is one of the list
abbrev OneOf : {X : Type 0} → X → List X → Type 0
OneOf x [] = ⊥
OneOf x (y ∷ more) = (x ≡ y) ⊎ OneOf x more

some_is : {X : Type 0} (x y : X) → Some x ≡ Some y → x ≡ y
some_is x y h = cc

first_same : {X : Type 0} (x y : X) (xs ys : List X) → x ∷ xs ≡ y ∷ ys → x ≡ y
first_same x y xs ys h = cc

rest_same : {X : Type 0} (x y : X) (xs ys : List X) → x ∷ xs ≡ y ∷ ys → xs ≡ ys
rest_same x y xs ys h = cc

-- the clause that is found is one of the list
one_found : {E : Type 0} (order : E → E → Ordering) (error : E) (clauses : List (Bool × E)) (c : Bool × E)
    → clause_with order error clauses ≡ Some c → OneOf c clauses
one_found order error [] c is = absurd cc
one_found order error (d ∷ more) c is =
    elim (cases_Bool (is_eq (order error d.1))) [
      | inl here ↦ let found : Some d ≡ Some c = rw here at is in inl (sym (some_is d c found))
      | inr other ↦ let later : clause_with order error more ≡ Some c = rw other at is in inr (one_found order error more c later)
    ]

-- what is one of a list is one of the other
one_among : {E : Type 0} (order : E → E → Ordering) (some others : List (Bool × E)) (c : Bool × E) → AreAmong order some others
    → OneOf c some → OneOf c others
one_among order [] others c among one = absurd one
one_among {E} order (d ∷ more) others c among one =
    elim one [
      | inl same ↦ subst (λ (y : Bool × E). OneOf y others) (sym same) (one_found order d.1 others d (first_same _ _ _ _ among))
      | inr later ↦ one_among order more others c (rest_same _ _ _ _ among) later
    ]

own_reverse : (r : Ordering) → r ≡ ordering_reverse r → is_lt r ≡ false
own_reverse Less h = absurd cc
own_reverse Equal h = refl
own_reverse Greater h = refl

not_before_itself : {E : Type 0} {R : E → E → Ordering} → IsTotalOrder R → (x : E) → is_lt (R x x) ≡ false
not_before_itself {R = R} o x = own_reverse (R x x) (o.antisymm x x)

not_before_at : (xm mx me xe : Ordering) → mx ≡ ordering_reverse xm → (mx ≡ Less → xe ≡ Less → me ≡ Less) → (mx ≡ Equal → me ≡ xe)
    → is_lt xm ≡ false → is_lt me ≡ false → is_lt xe ≡ false
not_before_at xm mx me Equal reverse less equal h k = refl
not_before_at xm mx me Greater reverse less equal h k = refl
not_before_at Less mx me Less reverse less equal h k = absurd cc
not_before_at Equal mx me Less reverse less equal h k = let same = equal reverse in absurd cc
not_before_at Greater mx me Less reverse less equal h k = let same = less reverse refl in absurd cc

-- what is not before something is not before anything that comes no later
not_before : {E : Type 0} {R : E → E → Ordering} → IsTotalOrder R → (x m e : E) → is_lt (R x m) ≡ false → is_lt (R m e) ≡ false
    → is_lt (R x e) ≡ false
not_before {R = R} o x m e h k = not_before_at (R x m) (R m x) (R m e) (R x e) (o.antisymm m x) (o.trans m x e) (o.congr m x e) h k

reversed : (xf fx : Ordering) → fx ≡ ordering_reverse xf → is_lt xf ≡ true → is_lt fx ≡ false
reversed Less fx reverse h = rw reverse refl
reversed Equal fx reverse h = absurd cc
reversed Greater fx reverse h = absurd cc

-- of two errors neither is before the lesser, which is one of them
lesser : {E : Type 0} {R : E → E → Ordering} → IsTotalOrder R → (f x : E)
    → (is_lt (R f (ord_min R f x)) ≡ false) × (is_lt (R x (ord_min R f x)) ≡ false) × ((ord_min R f x ≡ f) ⊎ (ord_min R f x ≡ x))
lesser {R = R} o f x =
    elim (cases_Bool (is_lt (R x f))) [
      | inl before ↦
          rw before (reversed (R x f) (R f x) (o.antisymm f x) before, not_before_itself o x, inr refl)
      | inr other ↦
          rw other (not_before_itself o f, other, inl refl)
    ]

-- what is not before the earliest: each unmet clause's error, and the one from before
not_before_earliest : {E : Type 0} {R : E → E → Ordering} → IsTotalOrder R → (f e : E) (clauses : List (Bool × E))
    → earliest R (Some f) clauses ≡ Some e
    → (is_lt (R f e) ≡ false) × ((c : Bool × E) → OneOf c clauses → c.0 ≡ false → is_lt (R c.1 e) ≡ false)
not_before_earliest {R = R} o f e [] is = (subst (λ y. is_lt (R f y) ≡ false) (some_is f e is) (not_before_itself o f), λ c one. absurd one)
not_before_earliest {E} {R = R} o f e ((true, x) ∷ more) is =
    let rest = not_before_earliest o f e more is in (
      rest.0,
      λ c one unmet. elim one
          [ inl same ↦ absurd (let met = ap (λ (d : Bool × E). d.0) same in cc) | inr later ↦ rest.1 c later unmet ],
    )
not_before_earliest {E} {R = R} o f e ((false, x) ∷ more) is =
    let least = lesser {R = R} o f x in
    let rest = not_before_earliest o (ord_min R f x) e more is in (
      not_before o f (ord_min R f x) e least.0 rest.0,
      λ c one unmet. elim one [
        | inl same ↦ subst (λ (y : E). is_lt (R y e) ≡ false) (ap (λ (d : Bool × E). d.1) (sym same))
            (not_before o x (ord_min R f x) e least.1 rest.0)
        | inr later ↦ rest.1 c later unmet
      ],
    )

-- the same with none from before
none_before_earliest : {E : Type 0} {R : E → E → Ordering} → IsTotalOrder R → (e : E) (clauses : List (Bool × E))
    → earliest R None clauses ≡ Some e
    → (c : Bool × E) → OneOf c clauses → c.0 ≡ false → is_lt (R c.1 e) ≡ false
none_before_earliest o e [] is c one unmet = absurd one
none_before_earliest {E} o e ((true, x) ∷ more) is c one unmet =
    elim one [
      | inl same ↦ absurd (let met = ap (λ (d : Bool × E). d.0) same in cc)
      | inr later ↦ none_before_earliest o e more is c later unmet
    ]
none_before_earliest {E} {R = R} o e ((false, x) ∷ more) is c one unmet =
    let rest = not_before_earliest {R = R} o x e more is in
    elim one [
      | inl same ↦ subst (λ (y : E). is_lt (R y e) ≡ false) (ap (λ (d : Bool × E). d.1) (sym same)) rest.0
      | inr later ↦ rest.1 c later unmet
    ]

-- the earliest is the one from before or that of an unmet clause
found_from : {E : Type 0} {R : E → E → Ordering} → IsTotalOrder R → (f e : E) (clauses : List (Bool × E))
    → earliest R (Some f) clauses ≡ Some e
    → (f ≡ e) ⊎ OneOf (false, e) clauses
found_from o f e [] is = inl (some_is f e is)
found_from o f e ((true, x) ∷ more) is = elim (found_from o f e more is) [ inl same ↦ inl same | inr later ↦ inr (inr later) ]
found_from {E} {R = R} o f e ((false, x) ∷ more) is =
    elim (found_from {R = R} o (ord_min R f x) e more is) [
      | inl same ↦ elim (lesser {R = R} o f x).2
          [ inl first ↦ inl (sym first ∙ same) | inr second ↦ inr (inl (ap (λ (y : E). (false, y)) (sym same ∙ second))) ]
      | inr later ↦ inr (inr later)
    ]

found : {E : Type 0} {R : E → E → Ordering} → IsTotalOrder R → (e : E) (clauses : List (Bool × E)) → earliest R None clauses ≡ Some e
    → OneOf (false, e) clauses
found o e [] is = absurd cc
found o e ((true, x) ∷ more) is = inr (found o e more is)
found {E} {R = R} o e ((false, x) ∷ more) is =
    elim (found_from {R = R} o x e more is) [ inl same ↦ inl (ap (λ (y : E). (false, y)) (sym same)) | inr later ↦ inr later ]

stays_found : {E : Type 0} (R : E → E → Ordering) (f : E) (clauses : List (Bool × E)) → earliest R (Some f) clauses ≡ None → ⊥
stays_found R f [] is = cc
stays_found R f ((true, x) ∷ more) is = stays_found R f more is
stays_found R f ((false, x) ∷ more) is = stays_found R (ord_min R f x) more is

-- where there is none, all clauses are met
all_met : {E : Type 0} (R : E → E → Ordering) (clauses : List (Bool × E)) → earliest R None clauses ≡ None → (c : Bool × E)
    → OneOf c clauses → c.0 ≡ true
all_met R [] is c one = absurd one
all_met {E} R ((true, x) ∷ more) is c one = elim one [ inl same ↦ ap (λ (d : Bool × E). d.0) same | inr later ↦ all_met R more is c later ]
all_met R ((false, x) ∷ more) is c one = absurd (stays_found R x more is)

-- where all are met, there is no first that is not
none_is_first : {E : Type 0} (clauses : List (Bool × E)) → ((c : Bool × E) → OneOf c clauses → c.0 ≡ true) → first_unmet clauses ≡ Ok tt
unfolding unmet_clause
none_is_first [] met = refl
none_is_first ((true, x) ∷ more) met = none_is_first more (λ c one. met c (inr one))
none_is_first ((false, x) ∷ more) met = absurd (let here = met (false, x) (inl refl) in cc)

is_less : (o : Ordering) → is_lt o ≡ true → o ≡ Less
is_less Less h = refl
is_less Equal h = absurd cc
is_less Greater h = absurd cc

next_is_later : {E : Type 0} (R : E → E → Ordering) (c d : Bool × E) (more : List (Bool × E)) → rise R (c ∷ d ∷ more) ≡ true
    → R c.1 d.1 ≡ Less
next_is_later R c d more rises = is_less (R c.1 d.1) (both (is_lt (R c.1 d.1)) (rise R (d ∷ more)) rises).0

rises_later : {E : Type 0} (R : E → E → Ordering) (c : Bool × E) (more : List (Bool × E)) → rise R (c ∷ more) ≡ true → rise R more ≡ true
rises_later R c [] rises = refl
rises_later R c (d ∷ more) rises = (both (is_lt (R c.1 d.1)) (rise R (d ∷ more)) rises).1

-- where errors rise, the first is before the others
before_others : {E : Type 0} {R : E → E → Ordering} → IsTotalOrder R → (c : Bool × E) (more : List (Bool × E))
    → rise R (c ∷ more) ≡ true → (d : Bool × E) → OneOf d more → R c.1 d.1 ≡ Less
before_others o c [] rises d one = absurd one
before_others {E} {R = R} o c (x ∷ more) rises d one =
    elim one [
      | inl same ↦ subst (λ (y : Bool × E). R c.1 y.1 ≡ Less) (sym same) (next_is_later R c x more rises)
      | inr later ↦ o.trans c.1 x.1 d.1 (next_is_later R c x more rises)
          (before_others {R = R} o x more (rises_later R c (x ∷ more) rises) d later)
    ]

-- the unmet clause that no other unmet one is before is the first
is_first : {E : Type 0} {R : E → E → Ordering} → IsTotalOrder R → (e : E) (clauses : List (Bool × E)) → rise R clauses ≡ true
    → OneOf (false, e) clauses
    → ((c : Bool × E) → OneOf c clauses → c.0 ≡ false → is_lt (R c.1 e) ≡ false) → first_unmet clauses ≡ Err e
unfolding unmet_clause
is_first o e [] rises one least = absurd one
is_first {E} {R = R} o e ((true, x) ∷ more) rises one least =
    elim one [
      | inl same ↦ absurd (let met = ap (λ (d : Bool × E). d.0) same in cc)
      | inr later ↦ is_first {R = R} o e more (rises_later R (true, x) more rises) later (λ c there. least c (inr there))
    ]
is_first {E} {R = R} o e ((false, x) ∷ more) rises one least =
    elim one [
      | inl same ↦ ap Err (sym (ap (λ (d : Bool × E). d.1) same))
      | inr later ↦
          let before : R x e ≡ Less = before_others {R = R} o (false, x) more rises (false, e) later in
          let here = least (false, x) (inl refl) refl in
          absurd (let both : is_lt Less ≡ false = subst (λ r. is_lt r ≡ false) before here in cc)
    ]

-- the same clauses in any order, and in the order of their errors
pub earliest_is_first : {E : Type 0} {R : E → E → Ordering} → IsTotalOrder R → (listed clauses : List (Bool × E))
    → AreSame R listed clauses → rise R clauses ≡ true
    → (found : Option E) → earliest R None listed ≡ found → result_of found ≡ first_unmet clauses
earliest_is_first {R = R} o listed clauses same rises None is =
    sym (none_is_first clauses (λ c one. all_met R listed is c (one_among R clauses listed c same.1 one)))
earliest_is_first {R = R} o listed clauses same rises (Some e) is =
    sym (is_first {R = R} o e clauses rises (one_among R listed clauses (false, e) same.0 (found {R = R} o e listed is))
    (λ c one unmet. none_before_earliest {R = R} o e listed is c (one_among R clauses listed c same.1 one) unmet))
