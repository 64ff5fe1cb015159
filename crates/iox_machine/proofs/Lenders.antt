-- What a port does leaves the factory of each publisher that stands, or of which a loan is out.
use Rattle.std.proofs.Common.{◌≡◌, ◌⊎◌, ℕ, true, List, [], ◌∷◌, ◌++◌, Option, refl, sym, ap, subst, inl, inr, ◌∙◌, Some}
use Rattle.std.proofs.lemmas.Bool.{eqb-true, eqb-false, cases_Bool}
use Rattle.std.specs.Prelude.{◌==◌}
use Rattle.iox_machine.specs.Message.{Loan}
use Rattle.iox_machine.specs.Service.{Publisher, Service}
use Rattle.iox_machine.proofs.Shorthands.{with_publisher}
use Rattle.iox_machine.specs.State.{Factory}
use Rattle.iox_machine.specs.Table.{at, changed, removed}
use Rattle.iox_machine.specs.UseLaws.{IsOpen}
use Rattle.iox_machine.proofs.Cases.{same-some}
use Rattle.iox_machine.proofs.Tables.{at-changed, at-changed-other, at-changed-either, at-removed, at-kept, at-either}

module _ {T : Type 0} (factories : List (ℕ × Factory)) where
  -- The factory of each publisher that stands is open, and so is that of each loan's publisher.
  abbrev pub HasLenders : Service T → Type 0
  HasLenders service =
      ((number : ℕ) (one : Publisher T) → at number service.publishers ≡ Some one → one.stands ≡ true
      → IsOpen factories service.name one.factory)
      × ((number : ℕ) (out : Loan T) → at number service.loans ≡ Some out
      → (one : Publisher T) × (at out.publisher service.publishers ≡ Some one) × IsOpen factories service.name one.factory)

  -- what a port made of a service still has it
  abbrev pub KeepsLenders : Service T → Service T → Type 0
  KeepsLenders old new = HasLenders old → HasLenders new

  -- ---- what is changed

  -- a publisher is another, of an open factory
  pub lenders-set : (number : ℕ) (one : Publisher T) (service : Service T)
      → (one.stands ≡ true → IsOpen factories service.name one.factory)
      → ((was : Publisher T) → at number service.publishers ≡ Some was → one.factory ≡ was.factory)
      ⊎ IsOpen factories service.name one.factory
      → KeepsLenders service (with_publisher number one service)
  lenders-set number one service opens same own = (
    (λ other it e stands. elim (at-changed-either number other one it service.publishers e) [
      | inl was ↦ own.0 other it was stands
      | inr is ↦ subst (λ (p : Publisher T). IsOpen factories service.name p.factory) (sym is)
          (opens (ap (λ (p : Publisher T). p.stands) (sym is) ∙ stands))
    ]),
    (λ other out e.
        let was : (lender : Publisher T) × (at out.publisher service.publishers ≡ Some lender)
        × IsOpen factories service.name lender.factory = own.1 other out e in
        elim (cases_Bool (out.publisher == number)) [
          | inl is ↦ changed-one out (eqb-true out.publisher number is) was.0 was.1 was.2
          | inr is ↦ (
            was.0,
            at-changed-other number out.publisher one service.publishers (eqb-false out.publisher number is) ∙ was.1,
            was.2,
          )
        ]),
  )
    where
      changed-one : (out : Loan T) → out.publisher ≡ number → (was : Publisher T) → at out.publisher service.publishers ≡ Some was
          → IsOpen factories service.name was.factory
          → (lender : Publisher T) × (at out.publisher (with_publisher number one service).publishers ≡ Some lender)
          × IsOpen factories service.name lender.factory
      changed-one out is was found open_one =
          let there : at number service.publishers ≡ Some was =
          subst (λ (k : ℕ). at k service.publishers ≡ Some was) is found in (
            one,
            subst (λ (k : ℕ). at k (with_publisher number one service).publishers ≡ Some one) (sym is)
                (at-changed number one was service.publishers there),
            elim same [
              | inl on ↦ subst (λ (k : ℕ). IsOpen factories service.name k) (sym (on was there)) open_one
              | inr on ↦ on
            ],
          )

  -- a publisher that is of the same factory, and stands if it stood
  pub lenders-turned : (number : ℕ) (was one : Publisher T) (service : Service T) → at number service.publishers ≡ Some was
      → one.factory ≡ was.factory → (one.stands ≡ true → was.stands ≡ true) → KeepsLenders service (with_publisher number one service)
  lenders-turned number was one service found same stood own =
      lenders-set number one service
      (λ stands. subst (λ (k : ℕ). IsOpen factories service.name k) (sym same) (own.0 number was found (stood stands)))
      (inl (λ it there. same ∙ ap (λ (p : Publisher T). p.factory) (same-some was it (sym found ∙ there)))) own

  -- each loan was out before, of its publisher
  pub lenders-loans : (loans : List (ℕ × Loan T)) (service : Service T)
      → ((number : ℕ) (out : Loan T) → at number loans ≡ Some out
      → (other : ℕ) × (was : Loan T) × (at other service.loans ≡ Some was) × (was.publisher ≡ out.publisher))
      → KeepsLenders service (record service { loans = loans })
  lenders-loans loans service were own = (
    own.0,
    (λ number out e.
        let it : (other : ℕ) × (was : Loan T) × (at other service.loans ≡ Some was) × (was.publisher ≡ out.publisher) =
        were number out e in
        let lender : (one : Publisher T) × (at it.1.publisher service.publishers ≡ Some one)
        × IsOpen factories service.name one.factory = own.1 it.0 it.1 it.2 in
        (lender.0, subst (λ (k : ℕ). at k service.publishers ≡ Some lender.0) it.3 lender.1, lender.2)),
  )

  pub lenders-fewer : (loan : ℕ) (service : Service T) → KeepsLenders service (record service { loans = removed loan service.loans })
  lenders-fewer loan service =
      lenders-loans (removed loan service.loans) service (λ number out e. (number, out, at-removed loan number out service.loans e, refl))

  pub lenders-more : (loan number : ℕ) (one : Publisher T) (out : Loan T) (service : Service T) → at number service.publishers ≡ Some one
      → one.stands ≡ true → out.publisher ≡ number → KeepsLenders service (record service { loans = service.loans ++ (loan, out) ∷ [] })
  lenders-more loan number one out service found stands same own = (
    own.0,
    (λ other it e. elim (at-either loan other out it service.loans e) [
      | inl was ↦ own.1 other it was
      | inr is ↦ (
        one,
        ap (λ (l : Loan T). at l.publisher service.publishers) is ∙ ap (λ (k : ℕ). at k service.publishers) same ∙ found,
        own.0 number one found stands,
      )
    ]),
  )

  pub lenders-come : (number : ℕ) (one : Publisher T) (service : Service T) → IsOpen factories service.name one.factory
      → KeepsLenders service (record service { publishers = service.publishers ++ (number, one) ∷ [] })
  lenders-come number one service open_one own = (
    (λ other it e stands. elim (at-either number other one it service.publishers e) [
      | inl was ↦ own.0 other it was stands
      | inr is ↦ subst (λ (p : Publisher T). IsOpen factories service.name p.factory) (sym is) open_one
    ]),
    (λ other out e.
        let was : (lender : Publisher T) × (at out.publisher service.publishers ≡ Some lender)
        × IsOpen factories service.name lender.factory = own.1 other out e in
        (was.0, at-kept out.publisher was.0 service.publishers ((number, one) ∷ []) was.1, was.2)),
  )

  pub lenders-written : (number : ℕ) (one : Loan T) (values : List (Option T)) (service : Service T) → at number service.loans ≡ Some one
      → KeepsLenders service (record service { loans = changed number (record one { values = values }) service.loans })
  lenders-written number one values service found =
      lenders-loans (changed number (record one { values = values }) service.loans) service
      (λ other out e. elim (at-changed-either number other (record one { values = values }) out service.loans e) [
        | inl was ↦ (other, out, was, refl)
        | inr is ↦ (number, one, found, ap (λ (l : Loan T). l.publisher) (sym is))
      ])
