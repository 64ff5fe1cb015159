-- A list that is part of another; and a number that is at one place of a list at most.
use Rattle.std.proofs.Common.{◌≡◌, ◌-◌, ℕ, zero, suc, Bool, true, false, cond, not, ◌&&◌, ◌||◌, List, [], ◌∷◌, ◌++◌, length, drop, map}
use Rattle.std.proofs.Common.{set, Option, None, Some, refl, sym, ap, subst, inl, inr, ◌∙◌, append-nil}
use Rattle.std.proofs.lemmas.Bool.{eqb-true, and_right, or_parts, true≢false}
use Rattle.std.specs.List.{list_all}
use Rattle.std.specs.Prelude.{⊤, ◌==◌, filter, slice_get, MatchBool}
use Rattle.iox_machine.specs.Mailbox.{newest}
use Rattle.iox_machine.specs.MessageLaws.{IsPartOf}
use Rattle.iox_machine.specs.PortList.{those, unless}
use Rattle.iox_machine.specs.Table.{contains}
use Rattle.iox_machine.proofs.Cases.{same-some, never-some, both-true}

never-both : {A : Type 0} → true ≡ false → A
never-both e = absurd (true≢false e)

-- ---- parts

module _ {X : Type 0} where
  first-or : X → List X → X
  first-or x [] = x
  first-or x (y ∷ ys) = y

  same-first : (x y : X) (xs ys : List X) → x ∷ xs ≡ y ∷ ys → x ≡ y
  unfolding first-or
  same-first x y xs ys e = ap (first-or x) e

  same-rest : (x y : X) (xs ys : List X) → x ∷ xs ≡ y ∷ ys → xs ≡ ys
  same-rest x y xs ys e = ap (drop 1) e

  is-empty : List X → Bool
  is-empty [] = true
  is-empty (x ∷ xs) = false

  never-empty : {A : Type 0} (x : X) (xs : List X) → x ∷ xs ≡ [] → A
  unfolding is-empty
  never-empty x xs e = never-both (sym (ap is-empty e))

  pub part-none : (whole : List X) → IsPartOf [] whole
  part-none [] = refl
  part-none (x ∷ whole) = inl (part-none whole)

  pub part-more : (part whole more : List X) → IsPartOf part whole → IsPartOf part (whole ++ more)
  part-more part [] more h = subst (λ (l : List X). IsPartOf l more) (sym h) (part-none more)
  part-more part (x ∷ whole) more (inl h) = inl (part-more part whole more h)
  part-more part (x ∷ whole) more (inr (rest, e, h)) = inr (rest, e, part-more rest whole more h)

  pub part-last : (x : X) (part whole : List X) → IsPartOf part whole → IsPartOf (part ++ x ∷ []) (whole ++ x ∷ [])
  part-last x part [] h = subst (λ (l : List X). IsPartOf (l ++ x ∷ []) (x ∷ [])) (sym h) (inr ([], refl, refl))
  part-last x part (y ∷ whole) (inl h) = inl (part-last x part whole h)
  part-last x part (y ∷ whole) (inr (rest, e, h)) =
      inr (rest ++ x ∷ [], ap (λ (l : List X). l ++ x ∷ []) e, part-last x rest whole h)

  part-shorter : (x : X) (front back whole : List X) → IsPartOf (front ++ x ∷ back) whole → IsPartOf (front ++ back) whole
  part-shorter x [] back [] h = never-empty x back h
  part-shorter x (y ∷ front) back [] h = never-empty y (front ++ x ∷ back) h
  part-shorter x front back (z ∷ whole) (inl h) = inl (part-shorter x front back whole h)
  part-shorter x [] back (z ∷ whole) (inr (rest, e, h)) = inl (subst (λ (l : List X). IsPartOf l whole) (sym (same-rest x z back rest e)) h)
  part-shorter x (y ∷ front) back (z ∷ whole) (inr (rest, e, h)) =
      inr (
        front ++ back,
        ap (λ (it : X). it ∷ (front ++ back)) (same-first y z (front ++ x ∷ back) rest e),
        part-shorter x front back whole
            (subst (λ (l : List X). IsPartOf l whole) (sym (same-rest y z (front ++ x ∷ back) rest e)) h),
      )

  pub part-dropped : (n : ℕ) (front back whole : List X) → IsPartOf (front ++ back) whole → IsPartOf (front ++ drop n back) whole
  part-dropped zero front back whole h = h
  part-dropped (suc n) front [] whole h = h
  part-dropped (suc n) front (x ∷ back) whole h = part-dropped n front back whole (part-shorter x front back whole h)

  pub part-newest : (n : ℕ) (front back whole : List X) → IsPartOf (front ++ back) whole → IsPartOf (front ++ newest n back) whole
  part-newest n front back whole h = part-dropped (length back - n) front back whole h

  pub part-front : (front back whole : List X) → IsPartOf (front ++ back) whole → IsPartOf front whole
  part-front front [] whole h = subst (λ (l : List X). IsPartOf l whole) (append-nil front) h
  part-front front (x ∷ back) whole h = part-front front back whole (part-shorter x front back whole h)

-- ---- at one place at most

module _ (s : ℕ) where
  abbrev pub Once : List ℕ → Type 0
  Once [] = ⊤
  Once (t ∷ more) = MatchBool (t == s) (contains more s ≡ false) (Once more)

  at-false : (b : Bool) (A B : Type 0) → b ≡ false → B → MatchBool b A B
  at-false b A B e h = subst (λ (c : Bool). MatchBool c A B) (sym e) h

  pub once-none : (xs : List ℕ) → contains xs s ≡ false → Once xs
  once-none [] e = tt
  once-none (t ∷ more) e =
      at-false (t == s) (contains more s ≡ false) (Once more) (or_parts (t == s) (contains more s) e).0
      (once-none more (or_parts (t == s) (contains more s) e).1)

  pub once-tail : (t : ℕ) (more : List ℕ) → Once (t ∷ more) → Once more
  once-tail t more h = step (t == s) h
    where
      step : (b : Bool) → MatchBool b (contains more s ≡ false) (Once more) → Once more
      step true e = once-none more e
      step false once = once

  pub once-past : (t : ℕ) (more : List ℕ) → (t == s) ≡ true → Once (t ∷ more) → contains more s ≡ false
  once-past t more e h = subst (λ (b : Bool). MatchBool b (contains more s ≡ false) (Once more)) e h

  -- where a number is of those that pass a test
  pub contains-filter : (test : ℕ → Bool) (xs : List ℕ) → contains (filter test xs) s ≡ (contains xs s && test s)
  contains-filter test [] = refl
  contains-filter test (t ∷ more) = step (contains-filter test more) (t == s) refl (test t) refl
    where
      step : contains (filter test more) s ≡ (contains more s && test s) → (b : Bool) → (t == s) ≡ b → (c : Bool) → test t ≡ c
          → contains (cond c (t ∷ filter test more) (filter test more)) s ≡ ((b || contains more s) && test s)
      step on true is true passes =
          ap (λ (d : Bool). d || contains (filter test more) s) is
          ∙ sym (subst (λ (k : ℕ). test k ≡ true) (eqb-true t s is) passes)
      step on true is false passes =
          on
          ∙ (and_right (contains more s) (test s) (subst (λ (k : ℕ). test k ≡ false) (eqb-true t s is) passes)
          ∙ sym (subst (λ (k : ℕ). test k ≡ false) (eqb-true t s is) passes))
      step on false is true passes = ap (λ (d : Bool). d || contains (filter test more) s) is ∙ on
      step on false is false passes = on

  pub all-contained : (test : ℕ → Bool) (xs : List ℕ) → list_all test xs ≡ true → contains xs s ≡ true → test s ≡ true
  all-contained test [] all e = never-both (sym e)
  all-contained test (t ∷ more) all e = step (all-contained test more) (t == s) refl e
    where
      both : (test t ≡ true) × (list_all test more ≡ true)
      both = both-true (test t) (list_all test more) all

      step : (list_all test more ≡ true → contains more s ≡ true → test s ≡ true) → (b : Bool) → (t == s) ≡ b
          → (b || contains more s) ≡ true → test s ≡ true
      step on true is e = subst (λ (k : ℕ). test k ≡ true) (eqb-true t s is) both.0
      step on false is e = on both.1 e

  -- ---- places

  pub contains-unless : (refused : List ℕ) (places : List (Option ℕ))
      → contains (those (map (unless refused) places)) s ≡ (contains (those places) s && not (contains refused s))
  contains-unless refused [] = refl
  contains-unless refused (None ∷ places) = contains-unless refused places
  contains-unless refused (Some t ∷ places) = step (contains-unless refused places) (t == s) refl (contains refused t) refl
    where
      gone : (t == s) ≡ true → contains refused t ≡ true → not (contains refused s) ≡ false
      gone is out = ap not (subst (λ (k : ℕ). contains refused k ≡ true) (eqb-true t s is) out)

      step : contains (those (map (unless refused) places)) s ≡ (contains (those places) s && not (contains refused s)) → (b : Bool)
          → (t == s) ≡ b → (c : Bool) → contains refused t ≡ c
          → contains (those (cond c None (Some t) ∷ map (unless refused) places)) s
          ≡ ((b || contains (those places) s) && not (contains refused s))
      step on true is true out =
          on
          ∙ (and_right (contains (those places) s) (not (contains refused s)) (gone is out) ∙ sym (gone is out))
      step on true is false out =
          ap (λ (d : Bool). d || contains (those (map (unless refused) places)) s) is
          ∙ sym (ap not (subst (λ (k : ℕ). contains refused k ≡ false) (eqb-true t s is) out))
      step on false is true out = on
      step on false is false out = ap (λ (d : Bool). d || contains (those (map (unless refused) places)) s) is ∙ on

  pub once-unless : (refused : List ℕ) (places : List (Option ℕ)) → Once (those places) → Once (those (map (unless refused) places))
  once-unless refused [] once = tt
  once-unless refused (None ∷ places) once = once-unless refused places once
  once-unless refused (Some t ∷ places) once = step (once-unless refused places) (contains refused t)
    where
      onto : (Once (those places) → Once (those (map (unless refused) places))) → (b : Bool)
          → MatchBool b (contains (those places) s ≡ false) (Once (those places))
          → MatchBool b (contains (those (map (unless refused) places)) s ≡ false) (Once (those (map (unless refused) places)))
      onto on true e = contains-unless refused places ∙ ap (λ (d : Bool). d && not (contains refused s)) e
      onto on false h = on h

      step : (Once (those places) → Once (those (map (unless refused) places))) → (c : Bool)
          → Once (those (cond c None (Some t) ∷ map (unless refused) places))
      step on true = on (once-tail t (those places) once)
      step on false = onto on (t == s) once

  -- a port registers at a free place
  pub contains-set : (t : ℕ) (places : List (Option ℕ)) (place : ℕ) → slice_get places place ≡ Some None
      → contains (those (set places place (Some t))) s ≡ ((t == s) || contains (those places) s)
  contains-set t [] place e = never-some None e
  contains-set t (Some u ∷ places) zero e = never-some u (sym (same-some (Some u) None e))
  contains-set t (None ∷ places) zero e = refl
  contains-set t (None ∷ places) (suc place) e = contains-set t places place e
  contains-set t (Some u ∷ places) (suc place) e =
      ap (λ (d : Bool). (u == s) || d) (contains-set t places place e) ∙ swapped (u == s) (t == s)
    where
      swapped : (b c : Bool) → (b || (c || contains (those places) s)) ≡ (c || (b || contains (those places) s))
      swapped true true = refl
      swapped true false = refl
      swapped false true = refl
      swapped false false = refl

  pub once-set-other : (t : ℕ) (places : List (Option ℕ)) (place : ℕ) → slice_get places place ≡ Some None → (t == s) ≡ false
      → Once (those places) → Once (those (set places place (Some t)))
  once-set-other t [] place e off once = never-some None e
  once-set-other t (Some u ∷ places) zero e off once = never-some u (sym (same-some (Some u) None e))
  once-set-other t (None ∷ places) zero e off once =
      at-false (t == s) (contains (those places) s ≡ false) (Once (those places)) off once
  once-set-other t (None ∷ places) (suc place) e off once = once-set-other t places place e off once
  once-set-other t (Some u ∷ places) (suc place) e off once = step (once-set-other t places place e off) (u == s) once
    where
      step : (Once (those places) → Once (those (set places place (Some t)))) → (b : Bool)
          → MatchBool b (contains (those places) s ≡ false) (Once (those places))
          → MatchBool b (contains (those (set places place (Some t))) s ≡ false) (Once (those (set places place (Some t))))
      step on true h = contains-set t places place e ∙ (ap (λ (d : Bool). d || contains (those places) s) off ∙ h)
      step on false h = on h

  pub once-set-new : (t : ℕ) (places : List (Option ℕ)) (place : ℕ) → slice_get places place ≡ Some None
      → contains (those places) s ≡ false → Once (those (set places place (Some t)))
  once-set-new t [] place e off = never-some None e
  once-set-new t (Some u ∷ places) zero e off = never-some u (sym (same-some (Some u) None e))
  once-set-new t (None ∷ places) zero e off = step (t == s)
    where
      step : (b : Bool) → MatchBool b (contains (those places) s ≡ false) (Once (those places))
      step true = off
      step false = once-none (those places) off
  once-set-new t (None ∷ places) (suc place) e off = once-set-new t places place e off
  once-set-new t (Some u ∷ places) (suc place) e off =
      at-false (u == s) (contains (those (set places place (Some t))) s ≡ false) (Once (those (set places place (Some t))))
      (or_parts (u == s) (contains (those places) s) off).0
      (once-set-new t places place e (or_parts (u == s) (contains (those places) s) off).1)
