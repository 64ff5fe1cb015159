-- How a publisher loaned, in a machine that has only one service and whose answer was a loan with unwritten values.
use Rattle.std.proofs.Common.{◌≡◌, ◌⊎◌, ◌+◌, ◌∷◌, [], ◌++◌, ℕ, List, replicate, unwrap_or, Option, None, Some, Result, Ok, Err, refl, sym}
use Rattle.std.proofs.Common.{ap, subst, inl, inr}
use Rattle.std.specs.Prelude.{MatchOption}
use Rattle.iox_command.specs.DomainValues.declared.port_error.LoanError.{LoanError}
use Rattle.iox_command.specs.NegotiateBase.DescribeBase.declared.message_type.MessageTypeDetails.{MessageTypeDetails}
use Rattle.iox_command.specs.declared.command.Command.TheVariants as command
use Rattle.iox_command.specs.declared.refusal.Refusal.TheVariants as refusal
use Rattle.iox_command.specs.declared.reply.Reply.{Reply}
use Rattle.iox_command.specs.declared.reply.Reply.TheVariants as reply
use Rattle.iox_domain_machine.specs.Laws.{with_alone}
use Rattle.iox_domain_machine.specs.LendingLaws.{lent_or_not}
use Rattle.iox_domain_machine.proofs.Alone.{alone_does, alone_skips}
use Rattle.iox_domain_machine.proofs.AloneDid.{by_option, alone_did}
use Rattle.iox_machine.specs.Choices.{Choices}
use Rattle.iox_machine.specs.Lending.{Lends}
use Rattle.iox_machine.specs.Ports.{publisher_in, LendsLoan}
use Rattle.iox_machine.specs.Run.{Step}
use Rattle.iox_machine.specs.Service.{Service, Publisher, Send}
use Rattle.iox_machine.proofs.Shorthands.{with_publisher, IsSkipped, AtFree}
use Rattle.iox_machine.specs.State.{State, counted}

-- A publisher without a blocked send loaned a message with this many values, or was refused.
pub record LentBy {T : Type 0} (name values : ℕ) (service : Service T) (refused : Option LoanError) : Type 0 where
  pub publisher : Publisher T
  pub there : publisher_in name service ≡ Some publisher
  pub free : publisher.blocked ≡ None
  pub after : Publisher T
  pub lends : Lends name values publisher service refused after

-- nobody may lend: the publisher isn't there, or a send of it waits
abbrev pub IsBusy : {T : Type 0} → ℕ → Service T → Type 0
IsBusy {T} name service =
    (publisher_in name service ≡ None)
    ⊎ ((publisher : Publisher T) × (send : Send T) × (publisher_in name service ≡ Some publisher) × (publisher.blocked ≡ Some send))

module _ {T : Type 0} (name : ℕ) (service : Service T) (state : State T)
    (Does : Publisher T → Service T → Reply T → Service T → Type 0) where
  abbrev DoesFree : Publisher T → Service T → Reply T → Service T → Type 0
  DoesFree one before answered after = MatchOption one.blocked (Does one before answered after) (λ send. IsSkipped before answered after)

  -- what a publisher does that is free
  pub free_does : (publisher : Publisher T) → publisher_in name service ≡ Some publisher → publisher.blocked ≡ None → (answer : Reply T)
      (after : Service T) → Does publisher service answer after
      → AtFree name Does (with_alone service state) answer (record (with_alone after state) { made = counted answer state.made })
  free_does publisher there free answer after does =
      alone_does (publisher_in name) DoesFree state service after answer publisher there
      (subst (λ (blocked : Option (Send T)). MatchOption blocked (Does publisher service answer after)
      (λ send. IsSkipped service answer after)) (sym free) does)

  -- else it is skipped
  pub busy_skips : IsBusy name service
      → AtFree name Does (with_alone service state) reply.Skipped (record
      (with_alone service state) { made = counted {T = T} reply.Skipped state.made })
  busy_skips (inl none) = alone_skips (publisher_in name) DoesFree state service none
  busy_skips (inr (publisher, send, there, blocked)) =
      alone_does (publisher_in name) DoesFree state service service reply.Skipped publisher there (rw blocked (refl, refl))

-- why a loan was refused
abbrev why_of : {T : Type 0} → Reply T → Option LoanError
why_of (reply.Refused (refusal.Loan why)) = Some why
why_of other = None

module _ {T : Type 0} (name values loan : ℕ) (service : Service T) where
  -- the service where the loan was made, with these values
  abbrev pub service_with : List (Option T) → LentBy name values service None → Service T
  service_with written by = record (with_publisher name by.after service) {
    loans = service.loans ++ (loan, record { publisher = name; number = by.publisher.next; values = written }) ∷ [];
  }

  -- what a loan came to that is answered so
  abbrev pub LoanCame : Option (Result ℕ LoanError) → Service T → Type 0
  LoanCame None after = IsBusy name service × (after ≡ service)
  LoanCame (Some (Ok slot)) after = (by : LentBy name values service None) × (after ≡ service_with (replicate values None) by)
  LoanCame (Some (Err why)) after = LentBy name values service (Some why) × (after ≡ service)

  module _ (after : Service T) where
    -- what it came to, whatever is answered
    abbrev LentAs : Reply T → Type 0
    LentAs answer =
        (IsBusy name service × (answer ≡ reply.Skipped) × (after ≡ service))
        ⊎ (((by : LentBy name values service None) × (answer ≡ reply.LoanMade loan) × (after ≡ service_with (replicate values None) by))
        ⊎ ((why : LoanError) × LentBy name values service (Some why) × (answer ≡ reply.Refused (refusal.Loan why)) × (after ≡ service)))

    lent_free : (answer : Reply T) (publisher : Publisher T) → publisher_in name service ≡ Some publisher → publisher.blocked ≡ None
        → LendsLoan loan name values None publisher service answer after → LentAs answer
    lent_free answer publisher there free (None, later, lends, told) = inr (inl (
      record { publisher = publisher; there = there; free = free; after = later; lends = lends },
      told.0,
      told.1,
    ))
    lent_free answer publisher there free (Some why, later, lends, told) = inr (inr (
      why,
      record { publisher = publisher; there = there; free = free; after = later; lends = lends },
      told.0,
      told.1,
    ))

    abbrev Does : Publisher T → Service T → Reply T → Service T → Type 0
    Does one before answered later = MatchOption one.blocked (LendsLoan loan name values None one before answered later)
        (λ send. IsSkipped before answered later)

    lent_as : (answer : Reply T)
        → ((one : Publisher T) × (publisher_in name service ≡ Some one) × Does one service answer after)
        ⊎ ((publisher_in name service ≡ None) × (answer ≡ reply.Skipped) × (after ≡ service))
        → LentAs answer
    lent_as answer (inl did) = elim (by_option did.0.blocked (LendsLoan loan name values None did.0 service answer after)
        (λ send. IsSkipped service answer after) did.2) [
          | inl w ↦ lent_free answer did.0 did.1 w.0 w.1
          | inr w ↦ inl (inr (did.0, w.0, did.1, w.1), w.2.0, w.2.1)
        ]
    lent_as answer (inr none) = inl (inl none.0, none.1, none.2)

    lent_by : (answer : Option (Result ℕ LoanError)) → LentAs (lent_or_not loan answer) → LoanCame answer after
    lent_by None (inl busy) = (busy.0, busy.2)
    lent_by None (inr (inl made)) = absurd (differ made.1)
      where
        differ : ◌≡◌ {A = Reply T} reply.Skipped (reply.LoanMade loan) → ⊥
        differ e = cc
    lent_by None (inr (inr refused)) = absurd (differ refused.2)
      where
        differ : ◌≡◌ {A = Reply T} reply.Skipped (reply.Refused (refusal.Loan refused.0)) → ⊥
        differ e = cc
    lent_by (Some (Ok slot)) (inl busy) = absurd (differ busy.1)
      where
        differ : ◌≡◌ {A = Reply T} (reply.LoanMade loan) reply.Skipped → ⊥
        differ e = cc
    lent_by (Some (Ok slot)) (inr (inl made)) = (made.0, made.2)
    lent_by (Some (Ok slot)) (inr (inr refused)) = absurd (differ refused.2)
      where
        differ : ◌≡◌ {A = Reply T} (reply.LoanMade loan) (reply.Refused (refusal.Loan refused.0)) → ⊥
        differ e = cc
    lent_by (Some (Err why)) (inl busy) = absurd (differ busy.1)
      where
        differ : ◌≡◌ {A = Reply T} (reply.Refused (refusal.Loan why)) reply.Skipped → ⊥
        differ e = cc
    lent_by (Some (Err why)) (inr (inl made)) = absurd (differ made.1)
      where
        differ : ◌≡◌ {A = Reply T} (reply.Refused (refusal.Loan why)) (reply.LoanMade loan) → ⊥
        differ e = cc
    lent_by (Some (Err why)) (inr (inr refused)) = (
      subst (λ it. LentBy name values service (Some it)) (sym (ap (λ told. unwrap_or (why_of told) why) refused.2)) refused.1,
      refused.3,
    )

-- how a publisher lent that was answered so
pub lent_back : {T : Type 0} (types : MessageTypeDetails) (choices : Choices T) (buffer name values : ℕ) (service after : Service T)
    (state : State T) (answer : Option (Result ℕ LoanError))
    → Step types choices buffer (command.LoanUninit name values) (with_alone service state) (lent_or_not (state.made.loans + 1) answer)
    (record (with_alone after state) { made = counted {T = T} (lent_or_not (state.made.loans + 1) answer) state.made })
    → LoanCame name values (state.made.loans + 1) service answer after
lent_back types choices buffer name values service after state answer step =
    let loan = state.made.loans + 1 in
    lent_by name values loan service after answer
    (lent_as name values loan service after (lent_or_not loan answer)
    (alone_did (publisher_in name) (Does name values loan service after) state service after (lent_or_not loan answer) step))
