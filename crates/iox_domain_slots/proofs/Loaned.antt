-- A list of slots without one of them, read from either end, and the marks of its members.
use Rattle.std.proofs.Common.{arith, ◌≡◌, ◌≢◌, inl, inr, ◌+◌, ◌-◌, ◌^◌, ◌<◌, ◌≤◌, ◌==◌, ◌||◌, ◌∷◌, [], ◌++◌, ℕ, suc, Bool, true, false}
use Rattle.std.proofs.Common.{List, length, get_or, nat_lt, remove, replicate, reverse, refl, sym, ap, ◌∙◌, subst}
use Rattle.std.proofs.Math.Logic.{⊎_elim}
use Rattle.std.proofs.Math.Dec.{eqb}
use Rattle.std.proofs.Math.ListN.{set}
use Rattle.std.proofs.lemmas.Bool.{cases_eq, cases_Bool}
use Rattle.std.proofs.lemmas.Bool.Decides.{eqb_tells, nat_tests}
use Rattle.std.proofs.lemmas.List.{append-nil, reverse-append, get_or_append_left, get_or_past, get_or_push, get_or-set_same}
use Rattle.std.proofs.lemmas.List.{get_or-set_other, get_or-replicate, length-replicate, length-set, length_push}
use Rattle.iox_container.specs.SlotTable.{Among, Distinct, without}
use Rattle.iox_container.specs.Links.{LinksKeys, walk}
use Rattle.iox_container.specs.Unique.{is_among}
use Rattle.iox_container.proofs.Chains.{LinksKeys-added, LinksKeys-first_removed, LinksKeys-grown, LinksKeys-removed, LinksKeys-walked}
use Rattle.iox_container.proofs.Chains.{walk-is}
use Rattle.iox_container.proofs.Keys.{Among-without, Distinct-push, without_here, without_there, without_absent}
use Rattle.iox_domain_slots.specs.Counting.{times}
use Rattle.iox_domain_slots.specs.Loans.{place_in}
use Rattle.iox_domain_slots.proofs.Counts.{one, times_cons, one_same}

pub not_true : false ≡ true → ⊥
not_true is = absurd (grind (arith, is))

-- the test says who is in a list
pub among : (k : ℕ) (xs : List ℕ) → is_among k xs ≡ true → Among k xs
among k [] is = absurd (not_true is)
among k (x ∷ xs) is = ⊎_elim
    (λ same. inl same.1)
    (λ other. let rest : is_among k xs ≡ true = rw other.0 at is in inr (among k xs rest))
    (eqb_tells k x)

pub is_there : (k : ℕ) (xs : List ℕ) → Among k xs → is_among k xs ≡ true
is_there k [] there = absurd there
is_there k (x ∷ xs) there = ⊎_elim
    (λ same. rw same.0 refl)
    (λ other. rw other.0 (elim there as (λ _. is_among k xs ≡ true) [ inl e ↦ absurd (other.1 e) | inr h ↦ is_there k xs h ]))
    (eqb_tells k x)

pub is_apart : (k : ℕ) (xs : List ℕ) → is_among k xs ≡ false → Among k xs → ⊥
is_apart k xs is there = not_true (sym is ∙ is_there k xs there)

pub isnt_there : (k : ℕ) (xs : List ℕ) → (Among k xs → ⊥) → is_among k xs ≡ false
isnt_there k xs apart = ⊎_elim (λ yes. absurd (apart (among k xs yes))) (λ no. no) (cases_Bool (is_among k xs))

among_both : (k : ℕ) (xs ys : List ℕ) → is_among k (xs ++ ys) ≡ (is_among k xs || is_among k ys)
among_both k [] ys = refl
among_both k (x ∷ xs) ys = ⊎_elim (λ same. rw same.0 refl) (λ other. rw other.0 (among_both k xs ys)) (eqb_tells k x)

-- the other way round
pub reverse_step : (x : ℕ) (xs : List ℕ) → reverse (x ∷ xs) ≡ reverse xs ++ x ∷ []
reverse_step x xs = reverse-append (x ∷ []) xs

either : (one other : Bool) → (one || (other || false)) ≡ (other || one)
either true true = refl
either true false = refl
either false true = refl
either false false = refl

pub among_reverse : (k : ℕ) (xs : List ℕ) → is_among k (reverse xs) ≡ is_among k xs
among_reverse k [] = refl
among_reverse k (x ∷ xs) =
    ap (is_among k) (reverse_step x xs) ∙ among_both k (reverse xs) (x ∷ []) ∙ ap (λ b. b || (eqb k x || false)) (among_reverse k xs)
    ∙ either (is_among k xs) (eqb k x)

pub distinct_reverse : (xs : List ℕ) → Distinct xs → Distinct (reverse xs)
distinct_reverse [] distinct = tt
distinct_reverse (x ∷ xs) distinct = subst Distinct (sym (reverse_step x xs))
    (Distinct-push x (reverse xs) (distinct_reverse xs distinct.1)
    (λ there. distinct.0 (among x xs (sym (among_reverse x xs) ∙ is_there x (reverse xs) there))))

without_both : (k : ℕ) (xs ys : List ℕ) → without k (xs ++ ys) ≡ without k xs ++ without k ys
without_both k [] ys = refl
without_both k (x ∷ xs) ys = elim (cases_eq k x) as (λ _. without k (x ∷ xs ++ ys) ≡ without k (x ∷ xs) ++ without k ys) [
  | inl e ↦ without_here k x (xs ++ ys) e ∙ without_both k xs ys ∙ ap (λ rest. rest ++ without k ys) (sym (without_here k x xs e))
  | inr n ↦ without_there k x (xs ++ ys) n ∙ ap (λ rest. x ∷ rest) (without_both k xs ys) ∙ ap (λ rest. rest ++ without k ys)
      (sym (without_there k x xs n))
]

without_reverse : (k : ℕ) (xs : List ℕ) → without k (reverse xs) ≡ reverse (without k xs)
without_reverse k [] = refl
without_reverse k (x ∷ xs) =
    ap (without k) (reverse_step x xs) ∙ without_both k (reverse xs) (x ∷ [])
    ∙ elim (cases_eq k x) as (λ _. without k (reverse xs) ++ without k (x ∷ []) ≡ reverse (without k (x ∷ xs))) [
      | inl e ↦ ap (λ rest. without k (reverse xs) ++ rest) (without_here k x [] e) ∙ append-nil (without k (reverse xs)) ∙
          without_reverse k xs ∙ ap reverse (sym (without_here k x xs e))
      | inr n ↦ ap (λ rest. without k (reverse xs) ++ rest) (without_there k x [] n) ∙ ap (λ rest. rest ++ x ∷ []) (without_reverse k xs)
          ∙ sym (reverse_step x (without k xs)) ∙ ap reverse (sym (without_there k x xs n))
    ]

-- a place further on
pub further_on : (x : ℕ) (xs : List ℕ) (at : ℕ) → get_or (x ∷ xs) (1 + at) 0 ≡ get_or xs at 0
further_on x xs at = let e : 1 + at ≡ suc at = omega arith in rw e refl

further_without : (x : ℕ) (xs : List ℕ) (at : ℕ) → remove (x ∷ xs) (1 + at) ≡ x ∷ remove xs at
further_without x xs at = let e : 1 + at ≡ suc at = omega arith in rw e refl

-- a slot of a list stands where it is first, and without it the list lacks that place
record Placed (k : ℕ) (xs : List ℕ) : Type 0 where
  there : get_or xs (place_in k xs) 0 ≡ k
  within : place_in k xs < length xs
  rest : without k xs ≡ remove xs (place_in k xs)

placed : (k : ℕ) (xs : List ℕ) → Distinct xs → Among k xs → Placed k xs
placed k [] distinct there = absurd there
placed k (x ∷ xs) distinct there = elim (cases_eq k x) as (λ _. Placed k (x ∷ xs)) [
  | inl e ↦
      let here : (x == k) ≡ true = grind (arith, nat_tests, e) in
      let lacks : Among k xs → ⊥ = λ h. let A : ℕ → Type 0 = λ y. Among y xs in distinct.0 (subst A e h) in
      record {
        there = rw here (sym e);
        within = rw here (omega arith);
        rest = rw here (without_absent k xs lacks);
      }
  | inr n ↦
      let further : (x == k) ≡ false = grind (arith, nat_tests, n) in
      let later : Among k xs = elim there as (λ _. Among k xs) [ inl e ↦ absurd (n e) | inr h ↦ h ] in
      let after = placed k xs distinct.1 later in
      record {
        there = rw further (further_on x xs (place_in k xs) ∙ after.there);
        within = rw further (omega (arith, after.within));
        rest = rw further (ap (λ rest. x ∷ rest) after.rest ∙ sym (further_without x xs (place_in k xs)));
      }
]

-- the same read from its other end
pub record Leaves (k : ℕ) (xs : List ℕ) : Type 0 where
  pub there : get_or (reverse xs) (place_in k (reverse xs)) 0 ≡ k
  pub within : place_in k (reverse xs) < length (reverse xs)
  pub rest : reverse (without k xs) ≡ remove (reverse xs) (place_in k (reverse xs))

pub leaves : (k : ℕ) (xs : List ℕ) → Distinct xs → Among k xs → Leaves k xs
leaves k xs distinct there =
    let at = placed k (reverse xs) (distinct_reverse xs distinct) (among k (reverse xs) (among_reverse k xs ∙ is_there k xs there)) in
    record { there = at.there; within = at.within; rest = sym (without_reverse k xs) ∙ at.rest }

pub lies : (k : ℕ) (xs : List ℕ) → is_among k (reverse xs) ≡ true → Among k xs
lies k xs is = among k xs (sym (among_reverse k xs) ∙ is)

-- a slot that no loan uses is no loan
pub isnt_lent : (k : ℕ) (xs : List ℕ) → times k xs ≡ 0 → is_among k xs ≡ false
isnt_lent k [] none = refl
isnt_lent k (x ∷ xs) none = ⊎_elim
    (λ same. let one_here : one k x ≡ 1 = rw (sym same.1) (one_same k) in absurd (omega (arith, none, times_cons k x xs, one_here)))
    (λ other. rw other.0 (isnt_lent k xs (omega (arith, none, times_cons k x xs))))
    (eqb_tells k x)

-- the marks of who is in a list
abbrev pub AreMarks : List Bool → List ℕ → Type 0
AreMarks marks xs = (k : ℕ) → get_or marks k false ≡ is_among k xs

pub marks_added : (marks : List Bool) (k : ℕ) (xs : List ℕ) → AreMarks marks xs → k < length marks → AreMarks (set marks k true) (k ∷ xs)
marks_added marks k xs are within j = ⊎_elim
    (λ same. rw same.0 (rw same.1 (get_or-set_same marks k true false within)))
    (λ other. rw other.0 (get_or-set_other marks k j true false other.1 ∙ are j))
    (eqb_tells j k)

gone : (k : ℕ) (xs : List ℕ) → is_among k (without k xs) ≡ false
gone k xs = isnt_there k (without k xs) (λ there. (Among-without k k xs there).1 refl)

stays : (j k : ℕ) (xs : List ℕ) → (j ≡ k → ⊥) → is_among j (without k xs) ≡ is_among j xs
stays j k [] apart = refl
stays j k (x ∷ xs) apart = elim (cases_eq k x) as (λ _. is_among j (without k (x ∷ xs)) ≡ is_among j (x ∷ xs)) [
  | inl e ↦ ap (is_among j) (without_here k x xs e) ∙ stays j k xs apart
      ∙ ⊎_elim (λ same. absurd (apart (same.1 ∙ sym e))) (λ other. rw other.0 refl) (eqb_tells j x)
  | inr n ↦ ap (is_among j) (without_there k x xs n) ∙ ap (λ b. eqb j x || b) (stays j k xs apart)
]

pub marks_removed : (marks : List Bool) (k : ℕ) (xs : List ℕ) → AreMarks marks xs → k < length marks
    → AreMarks (set marks k false) (without k xs)
marks_removed marks k xs are within j = ⊎_elim
    (λ same. rw same.1 (get_or-set_same marks k false false within ∙ sym (gone k xs)))
    (λ other. get_or-set_other marks k j false false other.1 ∙ are j ∙ sym (stays j k xs other.1))
    (eqb_tells j k)

pub marks_grown : (marks : List Bool) (c : ℕ) (xs : List ℕ) → AreMarks marks xs → length marks ≡ c
    → AreMarks (marks ++ true ∷ []) (xs ++ c ∷ [])
marks_grown marks c xs are long j = ⊎_elim
    (λ same. rw same.1 (get_or_push marks true false c long ∙ sym (is_there c (xs ++ c ∷ []) (last xs))))
    (λ other. before other.1 ∙ are j ∙ sym (among_both j xs (c ∷ []) ∙ rw other.0 (nothing (is_among j xs))))
    (eqb_tells j c)
  where
    last : (ys : List ℕ) → Among c (ys ++ c ∷ [])
    last [] = inl refl
    last (y ∷ ys) = inr (last ys)

    nothing : (b : Bool) → (b || false) ≡ b
    nothing true = refl
    nothing false = refl

    before : j ≢ c → get_or (marks ++ true ∷ []) j false ≡ get_or marks j false
    before apart = ⊎_elim
        (λ low. get_or_append_left marks (true ∷ []) false j (grind (arith, low, nat_tests)))
        (λ high. get_or_past (marks ++ true ∷ []) j false (omega (arith, length_push marks true, long, apart, above high)) ∙ sym
        (get_or_past marks j false (omega (arith, above high))))
        (cases_Bool (nat_lt j (length marks)))
      where
        above : nat_lt j (length marks) ≡ false → length marks ≤ j
        above high = grind (arith, high, nat_tests)

-- the links hold the loans that the marks tell
abbrev pub IsList : List ℕ → List ℕ → ℕ → ℕ → List Bool → Type 0
IsList n p f m lent = LinksKeys n p f (length n) m (walk n m f) × AreMarks lent (walk n m f) × (length lent ≡ length n) × (m + 1 < 2 ^ 64)

listed : (n p : List ℕ) (f c m : ℕ) (lent : List Bool) (ks : List ℕ) → LinksKeys n p f c m ks → AreMarks lent ks
    → length lent ≡ length n → m + 1 < 2 ^ 64
    → IsList n p f m lent × (walk n m f ≡ ks)
listed n p f c m lent ks links marks long few =
    let is = walk-is n p f c m ks links in
    ((LinksKeys-walked n p f c m ks links, (λ k. marks k ∙ ap (is_among k) (sym is)), long, few), is)

-- there is none at first
pub none_yet : (n p : List ℕ) (lent : List Bool) (slots : ℕ) → length n ≡ slots → length p ≡ slots + 1 → lent ≡ replicate slots false
    → IsList n p slots 0 lent
none_yet n p lent slots forth back marks = (
  record {
    forth = refl;
    back = omega (arith, forth, back);
    counted = refl;
    chain = sym forth;
    distinct = tt;
    below = λ k there. absurd there;
  },
  (λ k. ap (λ marks. get_or marks k false) marks ∙ ⊎_elim
      (λ low. get_or-replicate slots k false false (grind (arith, low, nat_tests)))
      (λ high. let past : slots ≤ k = grind (arith, high, nat_tests) in get_or_past (replicate slots false) k false
      (omega (arith, past, length-replicate slots false)))
      (cases_Bool (nat_lt k slots))),
  ap length marks ∙ length-replicate slots false ∙ sym forth,
  omega arith,
)

-- a loan comes, as the newest
pub added : (n p : List ℕ) (f m k : ℕ) (lent : List Bool) → IsList n p f m lent → k < length n
    → is_among k (reverse (walk n m f)) ≡ false → m + 2 < 2 ^ 64
    → IsList (set n k f) (set p f k) k (m + 1) (set lent k true) × (walk (set n k f) (m + 1) k ≡ k ∷ walk n m f)
added n p f m k lent is low free few =
    let ks = walk n m f in
    listed _ _ _ _ _ _ _ (LinksKeys-added n p f (length n) m k ks is.0 low (is_apart k ks (sym (among_reverse k ks) ∙ free)))
    (marks_added lent k ks is.1 (omega (arith, is.2, low))) (omega (arith, length-set lent k true, length-set n k f, is.2))
    (omega (arith, few))

-- the newest ends
pub first_removed : (n p : List ℕ) (f m k to : ℕ) (lent : List Bool) → IsList n p f m lent → Among k (walk n m f) → k ≡ f
    → to ≡ get_or n k 0
    → IsList n p to (m - 1) (set lent k false) × (walk n (m - 1) to ≡ without k (walk n m f))
first_removed n p f m k to lent is there first behind =
    let ks = walk n m f in
    listed _ _ _ _ _ _ _ (LinksKeys-first_removed n p f (length n) m k ks to is.0 there first behind)
    (marks_removed lent k ks is.1 (omega (arith, is.2, is.0.below k there))) (omega (arith, length-set lent k false, is.2))
    (omega (arith, is.3))

-- another ends
pub removed : (n p : List ℕ) (f m k from to : ℕ) (lent : List Bool) → IsList n p f m lent → Among k (walk n m f) → (k ≡ f → ⊥)
    → from ≡ get_or p k 0 → to ≡ get_or n k 0
    → IsList (set n from to) (set p to from) f (m - 1) (set lent k false) × (walk (set n from to) (m - 1) f ≡ without k (walk n m f))
removed n p f m k from to lent is there other before behind =
    let ks = walk n m f in
    listed _ _ _ _ _ _ _ (LinksKeys-removed n p f (length n) m k ks from to is.0 there other before behind)
    (marks_removed lent k ks is.1 (omega (arith, is.2, is.0.below k there)))
    (omega (arith, length-set lent k false, length-set n from to, is.2)) (omega (arith, is.3))

-- the next slot is made, as the oldest loan
pub grown : (n p : List ℕ) (f m : ℕ) (lent : List Bool) → IsList n p f m lent → m + 2 < 2 ^ 64
    → IsList (n ++ (length n + 1) ∷ []) (p ++ length n ∷ []) f (m + 1) (lent ++ true ∷ [])
    × (walk (n ++ (length n + 1) ∷ []) (m + 1) f ≡ walk n m f ++ length n ∷ [])
grown n p f m lent is few =
    let ks = walk n m f in
    listed _ _ _ _ _ _ _ (LinksKeys-grown n p f (length n) m ks is.0)
    (marks_grown lent (length n) ks is.1 is.2) (omega (arith, length_push lent true, length_push n (length n + 1), is.2))
    (omega (arith, few))
