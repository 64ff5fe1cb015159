-- What loans have once they are made, set and filled.
use Rattle.std.proofs.Common.{◌≡◌, ◌<◌, ◌+◌, ℕ, zero, suc, Bool, true, false, ◌&&◌, List, [], ◌∷◌, ◌++◌, length, map, set, Option, None}
use Rattle.std.proofs.Common.{Some}
use Rattle.std.proofs.Common.{refl, sym, ap, inl, inr, arith, ◌∙◌, true≢false}
use Rattle.std.proofs.lemmas.Bool.{eqb-true, ltb-true}
use Rattle.std.proofs.lemmas.List.{length-replicate, length-set}
use Rattle.std.specs.List.{AllByRecursion}
use Rattle.std.specs.Prelude.{◌==◌, nat_lt, replicate, slice_get, MatchOption}
use Rattle.iox_machine.proofs.Cases.{both-true, by-bool, by-option}
use Rattle.iox_machine.proofs.Moving.{at-one}
use Rattle.iox_machine.proofs.Shorthands.{AtFree, IsSkipped}
use Rattle.iox_machine.proofs.Tables.{at-changed, at-changed-other}
use Rattle.iox_machine.specs.Choices.{Choices}
use Rattle.iox_machine.specs.Message.{Loan}
use Rattle.iox_machine.specs.OnceLaws.{is_skipped}
use Rattle.iox_machine.specs.Ports.{LendsLoan, Writes, publisher_in}
use Rattle.iox_machine.specs.RunLaws.{is_written}
use Rattle.iox_machine.specs.Service.{Publisher, Service}
use Rattle.iox_machine.specs.State.{AtOne, State}
use Rattle.iox_machine.specs.Table.{at, changed}
use Rattle.iox_machine.specs.WrittenLaws.{FillWritesAll, GetsLoan, IsRewritten, LoansBegin, SetWritesOne}
use Rattle.iox_command.specs.declared.refusal.Refusal.TheVariants as refusal
use Rattle.iox_command.specs.declared.reply.Reply.{Reply}
use Rattle.iox_command.specs.declared.reply.Reply.TheVariants as reply

-- ---- lists

all-replicated : {X : Type 0} (P : X → Type 0) (n : ℕ) (x : X) → P x → AllByRecursion P (replicate n x)
all-replicated P zero x is = tt
all-replicated P (suc n) x is = (is, all-replicated P n x is)

set-at : {X : Type 0} (xs : List X) (place : ℕ) (x : X) → place < length xs → slice_get (set xs place x) place ≡ Some x
set-at [] place x few = absurd (never few)
  where
    never : place < 0 → ⊥
    never h = omega (arith, h)
set-at (y ∷ xs) zero x few = refl
set-at (y ∷ xs) (suc place) x few = set-at xs place x (within few)
  where
    within : suc place < length (y ∷ xs) → place < length xs
    within h = omega (arith, h)

set-aside : {X : Type 0} (xs : List X) (place other : ℕ) (x : X) → (other ≡ place → ⊥) → slice_get (set xs place x) other
    ≡ slice_get xs other
set-aside [] place other x off = refl
set-aside (y ∷ xs) zero zero x off = absurd (off refl)
set-aside (y ∷ xs) zero (suc other) x off = refl
set-aside (y ∷ xs) (suc place) zero x off = refl
set-aside (y ∷ xs) (suc place) (suc other) x off =
    set-aside xs place other x (λ same. off (ap (λ (n : ℕ). suc n) same))

module _ {T : Type 0} where
  -- ---- a loan is made

  abbrev number_told : Reply T → ℕ
  number_told (reply.LoanMade number) = number
  number_told other = 0

  abbrev is_made : Reply T → Bool
  is_made (reply.LoanMade number) = true
  is_made other = false

  never-made : {A : Type 0} (number : ℕ) (other : Reply T) → reply.LoanMade number ≡ other → is_made other ≡ false → A
  never-made number other same silent = absurd (true≢false (ap is_made same ∙ silent))

  gets-loan : (Is : Option T → Type 0) (value : Option T) → Is value → (publisher count number next : ℕ) (old new : State T)
      → AtFree publisher (LendsLoan next publisher count value) old (reply.LoanMade number) new
      → GetsLoan Is publisher count number old new
  gets-loan Is value is publisher count number next old new h =
      elim (at-one (publisher_in publisher)
      (λ (one : Publisher T) (service : Service T) (told : Reply T) (after : Service T). MatchOption one.blocked
      (LendsLoan next publisher count value one service told after) (λ send. IsSkipped service told after)) old (reply.LoanMade number)
      new h) [
        | inl w ↦ never-made number reply.Skipped w.0 refl
        | inr w ↦ elim (by-option w.1.blocked (LendsLoan next publisher count value w.1 w.0 (reply.LoanMade number) w.2)
            (λ send. IsSkipped w.0 (reply.LoanMade number) w.2) w.5) [
              | inl k ↦
                  let lent = made w.1 w.0 w.2 k.1 in
                  (w.0, w.2, lent.0, w.3, ap (λ (state : State T). state.services) w.6, lent.1, lent.2, lent.3, lent.4)
              | inr k ↦ never-made number reply.Skipped k.2.0 refl
            ]
      ]
    where
      made : (one : Publisher T) (service after : Service T)
          → LendsLoan next publisher count value one service (reply.LoanMade number) after
          → (lent : Loan T) × (after.loans ≡ service.loans ++ (number, lent) ∷ []) × (lent.publisher ≡ publisher)
          × (length lent.values ≡ count) × AllByRecursion Is lent.values
      made one service after (None, lending, lent, (told, came)) =
          let it : Loan T = record { publisher = publisher; number = one.next; values = replicate count value } in (
            it,
            ap (λ (end : Service T). end.loans) came
                ∙ ap (λ (n : ℕ). service.loans ++ (n, it) ∷ []) (sym (ap number_told told)),
            refl,
            length-replicate count value,
            all-replicated Is count value is,
          )
      made one service after (Some why, lending, lent, (told, same)) = never-made number (reply.Refused (refusal.Loan why)) told refl

  -- ---- a loan is written

  rewritten : (loan : ℕ) (fit : Loan T → Bool) (values : Loan T → List (Option T)) (old new : State T)
      → AtOne (λ (service : Service T). at loan service.loans) (λ (one : Loan T). Writes loan one (fit one) (values one)) old reply.Done new
      → (one : Loan T) × (fit one ≡ true) × IsRewritten loan one.values (values one) old new
  rewritten loan fit values old new h =
      elim (at-one (λ (service : Service T). at loan service.loans) (λ (one : Loan T). Writes loan one (fit one) (values one)) old
      reply.Done new h) [
        | inl w ↦ absurd (true≢false (sym (ap is_skipped w.0)))
        | inr w ↦ elim (by-bool (fit w.1)
            ((reply.Done ≡ reply.Done)
            × (w.2 ≡ record w.0 { loans = changed loan (record w.1 { values = values w.1 }) w.0.loans }))
            (IsSkipped w.0 reply.Done w.2) w.5) [
              | inl k ↦ (
                w.1,
                k.0,
                (
                  w.0,
                  w.2,
                  w.1,
                  w.3,
                  ap (λ (state : State T). state.services) w.6,
                  w.4,
                  refl,
                  ap (λ (end : Service T). at loan end.loans) k.1.1
                      ∙ at-changed loan (record w.1 { values = values w.1 }) w.1 w.0.loans w.4,
                  (λ other off. ap (λ (end : Service T). at other end.loans) k.1.1
                      ∙ at-changed-other loan other (record w.1 { values = values w.1 }) w.0.loans off),
                  k.1.1 ∙ ap (λ (list : List (ℕ × Loan T)). record w.0 { loans = list })
                      (sym (ap (λ (end : Service T). end.loans) k.1.1)),
                ),
              )
              | inr k ↦ absurd (true≢false (sym (ap is_skipped k.1.0)))
            ]
      ]

pub loans-begin : {T : Type 0} (choices : Choices T) → LoansBegin choices
loans-begin {T} choices types buffer publisher count number old new = (
  (λ h. gets-loan (λ (place : Option T). (value : T) × (place ≡ Some value) × choices.is_default value) (Some h.0) (h.0, refl, h.1)
      publisher count number (old.made.loans + 1) old new h.2),
  (λ h. gets-loan (λ (place : Option T). place ≡ None) None refl publisher count number (old.made.loans + 1) old new h),
)

pub set-writes-one : {T : Type 0} (choices : Choices T) → SetWritesOne choices
set-writes-one {T} choices types buffer loan place value old new h =
    let did = rewritten loan (λ (one : Loan T). is_written one && nat_lt place (length one.values))
    (λ (one : Loan T). set one.values place (Some value)) old new h in
    let few : place < length did.0.values =
    ltb-true place (length did.0.values) (both-true (is_written did.0) (nat_lt place (length did.0.values)) did.1).1 in (
      did.0.values,
      set did.0.values place (Some value),
      did.2,
      few,
      length-set did.0.values place (Some value),
      set-at did.0.values place (Some value) few,
      (λ other off. set-aside did.0.values place other (Some value) off),
    )

pub fill-writes-all : {T : Type 0} (choices : Choices T) → FillWritesAll choices
fill-writes-all {T} choices types buffer loan values old new h =
    let did = rewritten loan (λ (one : Loan T). length values == length one.values) (λ (one : Loan T). map Some values) old new h in
    (did.0.values, did.2, eqb-true (length values) (length did.0.values) did.1)
