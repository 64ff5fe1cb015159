-- A loan that was just made is written whole, of a domain and of the machine.
use Rattle.std.proofs.Common.{◌≡◌, ◌+◌, ◌∷◌, ℕ, zero, suc, List, length, map, replicate, Option, None, Some, Result, Ok, Err, refl, sym}
use Rattle.std.proofs.Common.{ap, subst, inl, inr, ◌∙◌}
use Rattle.std.proofs.lemmas.Bool.{eq-eqb}
use Rattle.std.proofs.lemmas.List.{length-replicate}
use Rattle.std.specs.Prelude.{option_map, ◌==◌}
use Rattle.iox_command.specs.DomainValues.declared.port_error.LoanError.{LoanError}
use Rattle.iox_command.specs.NegotiateBase.DescribeBase.declared.message_type.MessageTypeDetails.{MessageTypeDetails}
use Rattle.iox_command.specs.declared.command.Command.TheVariants as command
use Rattle.iox_command.specs.declared.refusal.Refusal.TheVariants as refusal
use Rattle.iox_command.specs.declared.reply.Reply.{Reply}
use Rattle.iox_command.specs.declared.reply.Reply.TheVariants as reply
use Rattle.iox_domain.specs.DomainPorts.declared.attached.Taken.{Taken}
use Rattle.iox_domain.specs.declared.ports.service_ports.ServicePorts.{ServicePorts}
use Rattle.iox_domain_machine.specs.Laws.{Matches, with_alone}
use Rattle.iox_domain_machine.specs.LendingLaws.{LendMatches, lent_or_not, with_lent_name, with_lent, with_values_in, with_lent_values}
use Rattle.iox_domain_machine.specs.Naming.{Naming}
use Rattle.iox_domain_machine.specs.Standing.{StandsFor}
use Rattle.iox_domain_machine.specs.Tables.{LentSlot, loan_as}
use Rattle.iox_domain_machine.proofs.AloneDid.{by_bool, alone_did}
use Rattle.iox_domain_machine.proofs.Found.{same_some, never_some, never_true, at_mapped}
use Rattle.iox_domain_machine.proofs.Lending.{lend_uninit_matches}
use Rattle.iox_domain_machine.proofs.LendingBack.{LoanCame, service_with, free_does, busy_skips, lent_back}
use Rattle.iox_domain_machine.proofs.TableEnds.{at_end, changed_end}
use Rattle.iox_domain_machine.proofs.Writing.{fill_matches}
use Rattle.iox_machine.specs.Choices.{Choices}
use Rattle.iox_machine.specs.Message as machine
use Rattle.iox_machine.specs.Ports.{LendsLoan, Writes}
use Rattle.iox_machine.specs.Run.{Step}
use Rattle.iox_machine.specs.Service.{Service}
use Rattle.iox_machine.proofs.Shorthands.{with_publisher}
use Rattle.iox_machine.specs.State.{State, counted}
use Rattle.iox_machine.specs.Table.{at, changed}

pub map_same : {X Y : Type 0} (f : X → Y) (count : ℕ) (x : X) → map f (replicate count x) ≡ replicate count (f x)
map_same f zero x = refl
map_same f (suc count) x = ap (λ more. f x ∷ more) (map_same f count x)

-- a loan of a machine that has one service alone was written whole, if it has as many places
filled_back : {T : Type 0} (types : MessageTypeDetails) (choices : Choices T) (buffer loan : ℕ) (values : List T)
    (service after : Service T) (state : State T) (answer : Reply T) (one : machine.Loan T) → at loan service.loans ≡ Some one
    → length one.values ≡ length values
    → Step types choices buffer (command.Fill loan values) (with_alone service state) answer (record
    (with_alone after state) { made = counted answer state.made })
    → after ≡ record service { loans = changed loan (record one { values = map Some values }) service.loans }
filled_back {T} types choices buffer loan values service after state answer one there as_many step =
    elim (alone_did (λ (it : Service T). at loan it.loans)
    (λ it. Writes loan it (length values == length it.values) (map Some values)) state service after answer step) [
      | inl w ↦ written w.0 (same_some w.0 one (sym w.1 ∙ there)) w.2
      | inr w ↦ never_some one (sym w.0 ∙ there)
    ]
  where
    written : (it : machine.Loan T) → it ≡ one
        → Writes loan it (length values == length it.values) (map Some values) service answer after
        → after ≡ record service { loans = changed loan (record one { values = map Some values }) service.loans }
    written it same writes =
        elim (by_bool (length values == length it.values) _ _ writes) [
          | inl w ↦ w.1.1
              ∙ ap (λ (it : machine.Loan T). record service {
                loans = changed loan (record it { values = map Some values }) service.loans;
              }) same
          | inr w ↦ never_true (sym w.0
              ∙ eq-eqb (length values) (length it.values) (sym (ap (λ (it : machine.Loan T). length it.values) same ∙ as_many)))
        ]

module _ {T U : Type 0} (types : MessageTypeDetails) (choices : Choices T) (buffer : ℕ) (names : Naming) (lent : List (ℕ × LentSlot))
    (held : List (ℕ × Taken)) (old made : ServicePorts T U) (service : Service T) (state : State T) (number values : ℕ)
    (stands : StandsFor names lent held buffer old service) (fresh : at (state.made.loans + 1) lent ≡ None) where
  abbrev name : ℕ
  name = names.publisher number

  abbrev loan : ℕ
  loan = state.made.loans + 1

  -- so a loan was made whose values are unwritten
  abbrev pub LoanMatched : Option (Result ℕ LoanError) → Type 0
  LoanMatched answer = (next : ℕ) × Matches T U choices types buffer (command.LoanUninit name values) (lent_or_not loan answer) state
      service
      (with_lent_name number next answer names) (with_lent loan number answer lent) held made

  abbrev pub lent_so : (answer : Option (Result ℕ LoanError)) (came : LoanMatched answer)
      → LoanCame name values loan service answer came.1.0
  lent_so answer came = lent_back types choices buffer name values service came.1.0 state answer came.1.1

  pub none_there : at loan service.loans ≡ None
  none_there = ap (λ loans. at loan loans) stands.loans.same ∙ at_mapped (loan_as names old) loan lent
      ∙ ap (option_map (loan_as names old)) fresh

  -- it is written whole
  pub filled_stands : (slot : ℕ) (came : LoanMatched (Some (Ok slot))) (written : List T) → length written ≡ values
      → StandsFor (with_lent_name number came.0 (Some (Ok slot)) names) (with_lent loan number (Some (Ok slot)) lent) held buffer
      (with_values_in number slot written made)
      (service_with name values loan service (map Some written) (lent_so (Some (Ok slot)) came).0)
  filled_stands slot came written as_many =
      let by = (lent_so (Some (Ok slot)) came).0 in
      let is = (lent_so (Some (Ok slot)) came).1 in
      let one : machine.Loan T = record { publisher = name; number = by.publisher.next; values = replicate values None } in
      let out : LentSlot = record { publisher = number; slot = slot } in
      let there : at loan came.1.0.loans ≡ Some one =
      ap (λ (it : Service T). at loan it.loans) is ∙ at_end loan one service.loans none_there in
      let fill = fill_matches T U choices types buffer (with_lent_name number came.0 (Some (Ok slot)) names)
      (with_lent loan number (Some (Ok slot)) lent) held made came.1.0 state loan written out came.1.2 (at_end loan out lent fresh) in
      let became = filled_back types choices buffer loan written came.1.0 fill.0 state _ one there
      (length-replicate values None ∙ sym as_many) fill.1 in
      subst (λ (it : Service T). StandsFor (with_lent_name number came.0 (Some (Ok slot)) names)
      (with_lent loan number (Some (Ok slot)) lent) held buffer (with_values_in number slot written made) it)
      (became
      ∙ ap (λ (it : Service T). record it { loans = changed loan (record one { values = map Some written }) it.loans }) is
      ∙ ap (λ loans. record (with_publisher name by.after service) { loans = loans })
      (changed_end loan (record one { values = map Some written }) one service.loans none_there))
      fill.2

  module _ (value : T) (default : choices.is_default value) where
    abbrev Comes : Option (Result ℕ LoanError) → Type 0
    Comes answer = (next : ℕ) × Matches T U choices types buffer (command.Loan name values) (lent_or_not loan answer) state service
        (with_lent_name number next answer names) (with_lent loan number answer lent) held
        (with_lent_values number (replicate values value) answer made)

    pub comes : (answer : Option (Result ℕ LoanError)) → LoanMatched answer → Comes answer
    comes None came =
        let busy = lent_so None came in (
          came.0,
          (
            service,
            (value, default, busy_skips name service state (LendsLoan loan name values (Some value)) busy.0),
            subst (λ (it : Service T). StandsFor names lent held buffer made it) busy.1 came.1.2,
          ),
        )
    comes (Some (Err why)) came =
        let so = lent_so (Some (Err why)) came in
        let by = so.0 in (
          came.0,
          (
            service,
            (
              value,
              default,
              free_does name service state (LendsLoan loan name values (Some value)) by.publisher by.there by.free
                  (reply.Refused (refusal.Loan why)) service (Some why, by.after, by.lends, (refl, refl)),
            ),
            subst (λ (it : Service T). StandsFor names lent held buffer made it) so.1 came.1.2,
          ),
        )
    comes (Some (Ok slot)) came =
        let by = (lent_so (Some (Ok slot)) came).0 in
        let new : Service T = service_with name values loan service (replicate values (Some value)) by in (
          came.0,
          (
            new,
            (
              value,
              default,
              free_does name service state (LendsLoan loan name values (Some value)) by.publisher by.there by.free
                  (reply.LoanMade loan) new (None, by.after, by.lends, (refl, refl)),
            ),
            subst (λ (written : List (Option T)). StandsFor (with_lent_name number came.0 (Some (Ok slot)) names)
                (with_lent loan number (Some (Ok slot)) lent) held buffer (with_values_in number slot (replicate values value) made)
                (service_with name values loan service written by)) (map_same Some values value)
                (filled_stands slot came (replicate values value) (length-replicate values value)),
          ),
        )

pub lend_matches : (T U : Type 0) (choices : Choices T) → LendMatches T U choices
lend_matches T U choices types buffer names lent held old made service state number values value answer stands sound known fresh default
    call =
    comes types choices buffer names lent held old made service state number values stands fresh value default answer
    (lend_uninit_matches T U choices types buffer names lent held old made service state number values answer stands sound known fresh
    call)
