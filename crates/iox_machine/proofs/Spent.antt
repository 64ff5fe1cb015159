-- A loan is sent or dropped once at most.
use Rattle.std.proofs.Common.{◌≡◌, ◌≤◌, ◌+◌, ℕ, Bool, true, false, cond, ◌&&◌, not, List, [], ◌∷◌, Option, None, Some, refl, sym, ap}
use Rattle.std.proofs.Common.{subst, inl, inr, arith, ◌∙◌}
use Rattle.std.proofs.lemmas.Bool.{eqb-true}
use Rattle.std.specs.List.{cons_option}
use Rattle.std.specs.Prelude.{◌==◌, find, is_some, filter_map, option_map, MatchBool}
use Rattle.iox_machine.specs.Choices.{Choices}
use Rattle.iox_machine.specs.Message.{Loan}
use Rattle.iox_machine.specs.RunLaws.{is_written, sent_as}
use Rattle.iox_machine.specs.NumberLaws.{loan_told, numbers_in}
use Rattle.iox_machine.specs.OnceLaws.{LoansAreSpentOnce, is_skipped, spent_by, spent_in}
use Rattle.iox_machine.specs.Ports.{SendsLoan}
use Rattle.iox_machine.proofs.Shorthands.{IsSkipped}
use Rattle.iox_machine.specs.Run.{Step, Runs}
use Rattle.iox_machine.specs.Sending.{Sends}
use Rattle.iox_machine.specs.Service.{Service, Publisher}
use Rattle.iox_machine.specs.State.{State, Made, new_state, counted, replaced}
use Rattle.iox_machine.specs.Table.{at, removed}
use Rattle.iox_machine.proofs.Cases.{by-bool, by-option, never-some}
use Rattle.iox_machine.proofs.Counted.{standing, times-append, step-passes, once-each, numbers-go-up}
use Rattle.iox_machine.proofs.Counts.{times, of_told, one_if, past, times-filtered}
use Rattle.iox_machine.proofs.Kept.{itself, sends}
use Rattle.iox_machine.proofs.Moving.{at-one}
use Rattle.iox_machine.proofs.Totals.{total, total-replaced}
use Rattle.iox_command.specs.NegotiateBase.DescribeBase.declared.message_type.MessageTypeDetails.{MessageTypeDetails}
use Rattle.iox_command.specs.declared.command.Command.{Command}
use Rattle.iox_command.specs.declared.command.Command.TheVariants as command
use Rattle.iox_command.specs.declared.reply.Reply.{Reply}
use Rattle.iox_command.specs.declared.reply.Reply.TheVariants as reply

-- ---- what goes by a number is removed

module _ {V : Type 0} where
  times-gone : (number : ℕ) (table : List (ℕ × V)) → times number (numbers_in (removed number table)) ≤ 0
  times-gone number [] = omega arith
  times-gone number (entry ∷ table) = here (entry.0 == number) refl (times-gone number table)
    where
      plus : (a r : ℕ) → a ≡ 0 → r ≤ 0 → a + r ≤ 0
      plus a r is h = omega (arith, is, h)

      here : (b : Bool) → (entry.0 == number) ≡ b → times number (numbers_in (removed number table)) ≤ 0
          → times number (numbers_in (cond (not b) (entry ∷ removed number table) (removed number table))) ≤ 0
      here true is none = none
      here false is none =
          plus (one_if (entry.0 == number)) (times number (numbers_in (removed number table))) (ap one_if is) none

  times-at : (number : ℕ) (v : V) (table : List (ℕ × V)) → at number table ≡ Some v → 1 ≤ times number (numbers_in table)
  times-at number v [] e = never-some v e
  times-at number v (entry ∷ table) e = here (entry.0 == number) e (times-at number v table)
    where
      first : (r : ℕ) → 1 ≤ 1 + r
      first r = omega arith

      here : (b : Bool)
          → option_map (λ (it : ℕ × V). it.1) (cond b (Some entry) (find (λ (it : ℕ × V). it.0 == number) table)) ≡ Some v
          → (at number table ≡ Some v → 1 ≤ times number (numbers_in table)) → 1 ≤ one_if b + times number (numbers_in table)
      here true e on = first (times number (numbers_in table))
      here false e on = past 0 1 (times number (numbers_in table)) (on e)

  -- by its number goes one thing less
  pub times-removed : (one number : ℕ) (v : V) (table : List (ℕ × V)) → at one table ≡ Some v
      → times number (numbers_in (removed one table)) + one_if (one == number) ≤ times number (numbers_in table)
  times-removed one number v table e = here (one == number) refl
    where
      less : (r t : ℕ) → r ≤ 0 → 1 ≤ t → r + 1 ≤ t
      less r t h k = omega (arith, h, k)

      plain : (r t : ℕ) → r ≤ t → r + 0 ≤ t
      plain r t h = omega (arith, h)

      here : (b : Bool) → (one == number) ≡ b
          → times number (numbers_in (removed one table)) + one_if b ≤ times number (numbers_in table)
      here true is =
          subst (λ (n : ℕ). times n (numbers_in (removed one table)) + 1 ≤ times n (numbers_in table)) (eqb-true one number is)
          (less (times one (numbers_in (removed one table))) (times one (numbers_in table)) (times-gone one table) (times-at one v table e))
      here false is =
          plain (times number (numbers_in (removed one table))) (times number (numbers_in table))
          (times-filtered number (λ entry. not (entry.0 == one)) table)

-- ---- a step, and a run

module _ {T : Type 0} where
  -- the loans of all services
  abbrev pub lent : State T → List ℕ
  lent state = standing (λ (service : Service T). service.loans) state.services

  pub lent-total : (number : ℕ) (services : List (Service T))
      → times number (standing (λ (service : Service T). service.loans) services)
      ≡ total (λ service. times number (numbers_in service.loans)) services
  lent-total number [] = refl
  lent-total number (service ∷ more) =
      times-append number (numbers_in service.loans) (standing (λ (it : Service T). it.loans) more)
      ∙ ap (λ (n : ℕ). times number (numbers_in service.loans) + n) (lent-total number more)

  -- What a step spends is there no longer; no more is there, but for what is lent.
  abbrev Spends : Command T → State T → Reply T → State T → Type 0
  Spends asked old answer new = (number : ℕ)
      → times number (lent new) + of_told (spent_by asked answer) number ≤ times number (lent old) + of_told (loan_told answer) number

  module _ (types : MessageTypeDetails) (choices : Choices T) (buffer : ℕ) where
    skipped-spends : (loan : ℕ) (old : State T) (answer : Reply T) (new : State T) → IsSkipped old answer new → (number : ℕ)
        → times number (lent new) + of_told (cond (is_skipped answer) None (Some loan)) number
        ≤ times number (lent old) + of_told (loan_told answer) number
    skipped-spends loan old answer new (told, same) number =
        subst (λ (it : Reply T). times number (lent new) + of_told (cond (is_skipped it) None (Some loan)) number
        ≤ times number (lent old) + of_told (loan_told it) number) (sym told)
        (subst (λ (it : State T). times number (lent it) + 0 ≤ times number (lent old) + 0) (sym same) (omega arith))

    maybe : (b : Bool) (loan number : ℕ) → of_told (cond b None (Some loan)) number ≤ one_if (loan == number)
    maybe true loan number = omega arith
    maybe false loan number = omega arith

    -- what is left of the loans of a service where one was removed, and nothing else was lent but what is told
    spends-one : (loan : ℕ) (one : Loan T) (service after : Service T) (answer : Reply T) (number : ℕ)
        → at loan service.loans ≡ Some one
        → times number (numbers_in after.loans)
        ≤ times number (numbers_in (removed loan service.loans)) + of_told (loan_told answer) number
        → times number (numbers_in after.loans) + of_told (cond (is_skipped answer) None (Some loan)) number
        ≤ times number (numbers_in service.loans) + of_told (loan_told answer) number
    spends-one loan one service after answer number found fewer =
        less (times number (numbers_in after.loans)) (times number (numbers_in (removed loan service.loans)))
        (times number (numbers_in service.loans)) (of_told (cond (is_skipped answer) None (Some loan)) number) (one_if (loan == number))
        (of_told (loan_told answer) number) fewer (maybe (is_skipped answer) loan number)
        (times-removed loan number one service.loans found)
      where
        less : (a r s o p e : ℕ) → a ≤ r + e → o ≤ p → r + p ≤ s → a + o ≤ s + e
        less a r s o p e h k l = omega (arith, h, k, l)

    spends-moved : (asked : Command T) (has : Service T → Bool) (service after : Service T) (old : State T) (answer : Reply T)
        (new : State T)
        → find has old.services ≡ Some service
        → ((number : ℕ) → times number (numbers_in after.loans) + of_told (spent_by asked answer) number
        ≤ times number (numbers_in service.loans) + of_told (loan_told answer) number)
        → new ≡ record old { made = counted answer old.made; services = replaced has after old.services }
        → Spends asked old answer new
    spends-moved asked has service after old answer new first less came number =
        subst (λ (it : State T). times number (lent it) + of_told (spent_by asked answer) number
        ≤ times number (lent old) + of_told (loan_told answer) number) (sym came)
        (subst (λ (n : ℕ). n + of_told (spent_by asked answer) number ≤ times number (lent old) + of_told (loan_told answer) number)
        (sym (lent-total number (replaced has after old.services)))
        (subst (λ (n : ℕ). total (λ it. times number (numbers_in it.loans)) (replaced has after old.services)
        + of_told (spent_by asked answer) number ≤ n + of_told (loan_told answer) number) (sym (lent-total number old.services))
        (total-replaced (λ it. times number (numbers_in it.loans)) (of_told (spent_by asked answer) number)
        (of_told (loan_told answer) number) has service after old.services first (less number))))

    loan-spends : (loan : ℕ) (one : Loan T) (made : Made) (service after : Service T) (answer : Reply T) (number : ℕ)
        → at loan service.loans ≡ Some one → SendsLoan choices loan one service answer after
        → times number (numbers_in after.loans) + of_told (cond (is_skipped answer) None (Some loan)) number
        ≤ times number (numbers_in service.loans) + of_told (loan_told answer) number
    loan-spends loan one made service after answer number found did =
        elim (by-option (at one.publisher service.publishers) (IsSkipped service answer after)
        (λ publisher. MatchBool (is_written one && not (is_some publisher.blocked))
        (Sends choices one.publisher (sent_as one) publisher (record service { loans = removed loan service.loans }) answer after)
        (IsSkipped service answer after)) did) [
          | inl w ↦ skipped w.1
          | inr w ↦ elim (by-bool (is_written one && not (is_some w.0.blocked))
              (Sends choices one.publisher (sent_as one) w.0 (record service { loans = removed loan service.loans }) answer after)
              (IsSkipped service answer after) w.2) [
                | inl k ↦ spends-one loan one service after answer number found (sent w.0 k.1)
                | inr k ↦ skipped k.1
              ]
        ]
      where
        skipped : IsSkipped service answer after
            → times number (numbers_in after.loans) + of_told (cond (is_skipped answer) None (Some loan)) number
            ≤ times number (numbers_in service.loans) + of_told (loan_told answer) number
        skipped (told, same) =
            subst (λ (it : Reply T). times number (numbers_in after.loans) + of_told (cond (is_skipped it) None (Some loan)) number
            ≤ times number (numbers_in service.loans) + of_told (loan_told it) number) (sym told)
            (subst (λ (it : Service T). times number (numbers_in it.loans) + 0 ≤ times number (numbers_in service.loans) + 0) (sym same)
            (omega arith))

        sent : (publisher : Publisher T)
            → Sends choices one.publisher (sent_as one) publisher (record service { loans = removed loan service.loans }) answer after
            → times number (numbers_in after.loans)
            ≤ times number (numbers_in (removed loan service.loans)) + of_told (loan_told answer) number
        sent publisher h =
            (sends made (record service { loans = removed loan service.loans }) answer choices one.publisher (sent_as one) publisher
            (record service { loans = removed loan service.loans }) after
            (itself made (record service { loans = removed loan service.loans })) h).loans number

    step-spends : (asked : Command T) (old : State T) (answer : Reply T) (new : State T) → Step types choices buffer asked old answer new
        → Spends asked old answer new
    step-spends (command.Send loan) old answer new h =
        elim (at-one (λ (service : Service T). at loan service.loans) (SendsLoan choices loan) old answer new h) [
          | inl skipped ↦ skipped-spends loan old answer new skipped
          | inr (service, one, after, first, found, did, came) ↦
              spends-moved (command.Send loan) (λ (other : Service T). is_some (at loan other.loans)) service after old answer new first
              (λ number. loan-spends loan one old.made service after answer number found did) came
        ]
    step-spends (command.Drop loan) old answer new h =
        elim (at-one (λ (service : Service T). at loan service.loans)
        (λ (one : Loan T) (service : Service T) (answered : Reply T) (after : Service T). (answered ≡ reply.Done)
        × (after ≡ record service { loans = removed loan service.loans })) old answer new h) [
          | inl skipped ↦ skipped-spends loan old answer new skipped
          | inr (service, one, after, first, found, did, came) ↦
              spends-moved (command.Drop loan) (λ (other : Service T). is_some (at loan other.loans)) service after old answer new first
              (λ number. spends-one loan one service after answer number found
              (subst (λ (it : Service T). times number (numbers_in it.loans)
              ≤ times number (numbers_in (removed loan service.loans)) + of_told (loan_told answer) number) (sym did.1)
              (over (times number (numbers_in (removed loan service.loans))) (of_told (loan_told answer) number)))) came
        ]
      where
        over : (x e : ℕ) → x ≤ x + e
        over x e = omega arith
    step-spends asked old answer new h = λ number.
        plain (times number (lent new)) (times number (lent old) + of_told (loan_told answer) number)
        ((step-passes types choices buffer asked old answer new h).loans number)
      where
        plain : (x y : ℕ) → x ≤ y → x + 0 ≤ y
        plain x y h = omega (arith, h)

    run-spends : (asked : List (Command T)) (old : State T) (answers : List (Reply T)) (new : State T)
        → Runs types choices buffer asked old answers new → (number : ℕ)
        → times number (lent new) + times number (spent_in asked answers)
        ≤ times number (lent old) + times number (filter_map loan_told answers)
    run-spends [] old answers new run number =
        subst (λ (it : List (Reply T)). times number (lent new) + times number (spent_in [] it)
        ≤ times number (lent old) + times number (filter_map loan_told it)) (sym run.0)
        (subst (λ (it : State T). times number (lent it) + 0 ≤ times number (lent old) + 0) (sym run.1) (omega arith))
    run-spends (one ∷ more) old answers new run number =
        subst (λ (it : List (Reply T)). times number (lent new) + times number (spent_in (one ∷ more) it)
        ≤ times number (lent old) + times number (filter_map loan_told it)) (sym run.5)
        (both (times number (lent old)) (times number (lent run.1)) (times number (lent new)) (of_told (spent_by one run.0) number)
        (times number (spent_in more run.2)) (times number (cons_option (spent_by one run.0) (spent_in more run.2)))
        (of_told (loan_told run.0) number) (times number (filter_map loan_told run.2))
        (times number (cons_option (loan_told run.0) (filter_map loan_told run.2)))
        (step-spends one old run.0 run.1 run.3 number) (run-spends more run.1 run.2 new run.4 number)
        (with-first (spent_by one run.0) (spent_in more run.2)) (with-first (loan_told run.0) (filter_map loan_told run.2)))
      where
        both : (x y z c d cd e f ef : ℕ) → y + c ≤ x + e → z + d ≤ y + f → cd ≡ c + d → ef ≡ e + f → z + cd ≤ x + ef
        both x y z c d cd e f ef h k l m = omega (arith, h, k, l, m)

        with-first : (o : Option ℕ) (xs : List ℕ) → times number (cons_option o xs) ≡ of_told o number + times number xs
        with-first None xs = omega arith
        with-first (Some n) xs = refl

pub loans-are-spent-once : {T : Type 0} (choices : Choices T) → LoansAreSpentOnce choices
loans-are-spent-once {T} choices types buffer asked answers new run =
    once-each (filter_map loan_told answers) (spent_in asked answers) (numbers-go-up choices types buffer asked answers new run).4
    (λ number. rest (times number (lent new)) (times number (spent_in asked answers)) (times number (filter_map loan_told answers))
    (run-spends types choices buffer asked new_state answers new run number))
  where
    rest : (x c e : ℕ) → x + c ≤ 0 + e → c ≤ 0 + e
    rest x c e h = omega (arith, h)
