use Rattle.std.proofs.Common.{Bool, cond, eqb, ltb, ℕ, ◌≡◌, inl, inr, ◌+◌, ◌<◌, ◌++◌, List, [], ◌∷◌, length, take, get_or, Option, Some}
use Rattle.std.proofs.Common.{None, arith, refl, sym, ap, ◌∙◌, subst}
use Rattle.std.specs.Prelude.{unwrap_or, slice_index}
use Rattle.std.specs.Option.{option_or}
use Rattle.std.proofs.lemmas.Bool.{cases_Bool, cases_lt}
use Rattle.std.proofs.lemmas.Bool.Decides.{nat_tests}
use Rattle.std.proofs.lemmas.List.{get_or_default, length_push, get_or_append_left, get_or_push, take_more}
use Rattle.iox_container.specs.declared.byte_cells.byte_machine.ByteStep.{ByteStep}
use Rattle.iox_container.specs.declared.byte_cells.byte_machine.ByteStep.TheVariants.{Store, Load}
use Rattle.iox_container.specs.declared.byte_cells.byte_machine.ByteAnswer.{ByteAnswer}
use Rattle.iox_container.specs.declared.byte_cells.byte_machine.ByteAnswer.TheVariants.{Stored, Loaded, Skipped}
use Rattle.iox_container.specs.ByteSteps.{HoldsAfter, answer_after, byte_after, last_store}

-- an option in the place of a missing one
option_or-assoc : {X : Type 0} (a b c : Option X) → option_or (option_or a b) c ≡ option_or a (option_or b c)
option_or-assoc None b c = refl
option_or-assoc (Some x) b c = refl

option_or-none : {X : Type 0} (a : Option X) → option_or a None ≡ a
option_or-none None = refl
option_or-none (Some x) = refl

-- the last store of steps in two parts
last_store-append : (place : ℕ) (xs ys : List ByteStep)
    → last_store place (xs ++ ys) ≡ option_or (last_store place ys) (last_store place xs)
last_store-append place [] ys = sym (option_or-none (last_store place ys))
last_store-append place (Load p ∷ xs) ys = last_store-append place xs ys
last_store-append place (Store p byte ∷ xs) ys =
    let one : Option ℕ = cond (eqb p place) (Some byte) None in
    ap (λ o. option_or o one) (last_store-append place xs ys) ∙ option_or-assoc (last_store place ys) (last_store place xs) one

unwrap_or-option_or : {X : Type 0} (a b : Option X) (d : X) → unwrap_or (option_or a b) d ≡ unwrap_or a (unwrap_or b d)
unwrap_or-option_or None b d = refl
unwrap_or-option_or (Some x) b d = refl

-- a byte after steps in two parts
byte_after-append : (before now : List ℕ) (xs ys : List ByteStep) (place : ℕ) → slice_index now place ≡ byte_after before xs place
    → byte_after now ys place ≡ byte_after before (xs ++ ys) place
byte_after-append before now xs ys place same =
    ap (λ b. unwrap_or (last_store place ys) b) same
    ∙ sym (unwrap_or-option_or (last_store place ys) (last_store place xs) (slice_index before place))
    ∙ ap (λ o. unwrap_or o (slice_index before place)) (sym (last_store-append place xs ys))

-- steps in two parts
pub HoldsAfter-append : (before now next : List ℕ) (xs ys : List ByteStep) → HoldsAfter before xs now → HoldsAfter now ys next
    → HoldsAfter before (xs ++ ys) next
HoldsAfter-append before now next xs ys first second = record {
  long = second.long ∙ first.long;
  at = λ place within. second.at place (omega (arith, first.long)) ∙ byte_after-append before now xs ys place (first.at place within);
}

-- the answer to a step is that after the steps before it
pub answer_after-now : (before now : List ℕ) (xs : List ByteStep) (step : ByteStep) → HoldsAfter before xs now
    → answer_after now [] step ≡ answer_after before xs step
answer_after-now before now xs (Store place byte) held = ap (λ n. cond (ltb place n) Stored Skipped) held.long
answer_after-now before now xs (Load place) held =
    elim (cases_Bool (ltb place (length before))) as (λ _. answer_after now [] (Load place) ≡ answer_after before xs (Load place)) [
      | inl within ↦
          let inside : place < length before = grind (arith, nat_tests) in
          ap (λ n. cond (ltb place n) (Loaded (slice_index now place)) Skipped) held.long
          ∙ ap (λ b. cond (ltb place (length before)) (Loaded b) Skipped) (held.at place inside)
      | inr past ↦
          let N : Bool → ByteAnswer = λ t. cond t (Loaded (slice_index now place)) Skipped in
          let B : Bool → ByteAnswer = λ t. cond t (Loaded (byte_after before xs place)) Skipped in
          ap (λ n. N (ltb place n)) held.long ∙ ap N past ∙ sym (ap B past)
    ]

-- a cell after no step
pub HoldsAfter-none : (before : List ℕ) → HoldsAfter before [] before
HoldsAfter-none before = record { long = refl; at = λ place within. refl }

-- one more step
pub HoldsAfter-more : (before now next : List ℕ) (steps : List ByteStep) (i : ℕ) (step : ByteStep) → i < length steps
    → step ≡ get_or steps i step
    → HoldsAfter before (take i steps) now → HoldsAfter now (step ∷ []) next → HoldsAfter before (take (i + 1) steps) next
HoldsAfter-more before now next steps i step within is held moved =
    let H : List ByteStep → Type 0 = λ xs. HoldsAfter before xs next in
    let more : take (i + 1) steps ≡ take i steps ++ step ∷ [] = take_more steps i step within ∙ ap (λ s. take i steps ++ s ∷ []) (sym is) in
    subst H (sym more) (HoldsAfter-append before now next (take i steps) (step ∷ []) held moved)

-- the answers to the first steps
abbrev pub AnswersSoFar : List ℕ → List ByteStep → ℕ → List ByteAnswer → Type 0
AnswersSoFar before steps i answers =
    (length answers ≡ i) × ((k : ℕ) → k < i → get_or answers k Skipped ≡ answer_after before (take k steps) (get_or steps k (Load 0)))

pub AnswersSoFar-more : (before now : List ℕ) (steps : List ByteStep) (i : ℕ) (step : ByteStep) (answers more : List ByteAnswer)
    (answer : ByteAnswer)
    → i < length steps → step ≡ get_or steps i step → HoldsAfter before (take i steps) now → answer ≡ answer_after now [] step
    → more ≡ answers ++ answer ∷ [] → AnswersSoFar before steps i answers → AnswersSoFar before steps (i + 1) more
AnswersSoFar-more before now steps i step answers more answer within is held told e sofar = (
  ap length e ∙ length_push answers answer ∙ ap (λ n. n + 1) sofar.0,
  λ k below. elim (cases_lt k i) as (λ _. get_or more k Skipped ≡ answer_after before (take k steps) (get_or steps k (Load 0))) [
    | inl earlier ↦ ap (λ xs. get_or xs k Skipped) e ∙ get_or_append_left answers (answer ∷ []) Skipped k (omega (arith, sofar.0)) ∙
        sofar.1 k earlier
    | inr late ↦
        let here : k ≡ i = omega arith in
        let A : ℕ → Type 0 = λ j. get_or more j Skipped ≡ answer_after before (take j steps) (get_or steps j (Load 0)) in
        subst A (sym here) (ap (λ xs. get_or xs i Skipped) e ∙ get_or_push answers answer Skipped i sofar.0 ∙ told ∙ answer_after-now
        before now (take i steps) step held
        ∙ ap (λ s. answer_after before (take i steps) s) (is ∙ get_or_default steps i step (Load 0) within))
  ],
)
