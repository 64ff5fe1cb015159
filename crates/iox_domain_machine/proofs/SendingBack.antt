-- How a loan was sent, of a machine that has one service alone.
use Rattle.std.proofs.Common.{◌≡◌, ◌≢◌, ◌&&◌, ℕ, Some, sym, subst, inl, inr, ◌∙◌}
use Rattle.std.specs.Prelude.{is_some, not, MatchBool}
use Rattle.iox_command.specs.NegotiateBase.DescribeBase.declared.message_type.MessageTypeDetails.{MessageTypeDetails}
use Rattle.iox_command.specs.declared.command.Command.TheVariants as command
use Rattle.iox_command.specs.declared.reply.Reply.{Reply}
use Rattle.iox_command.specs.declared.reply.Reply.TheVariants as reply
use Rattle.iox_domain_machine.specs.Laws.{with_alone}
use Rattle.iox_domain_machine.proofs.AloneDid.{by_bool, by_option, alone_did}
use Rattle.iox_domain_machine.proofs.Found.{same_some, never_some}
use Rattle.iox_machine.specs.Choices.{Choices}
use Rattle.iox_machine.specs.Message.{Loan}
use Rattle.iox_machine.specs.RunLaws.{is_written, sent_as}
use Rattle.iox_machine.specs.Ports.{SendsLoan}
use Rattle.iox_machine.proofs.Shorthands.{IsSkipped}
use Rattle.iox_machine.specs.Run.{Step}
use Rattle.iox_machine.specs.Sending.{Sends}
use Rattle.iox_machine.specs.Service.{Service, Publisher}
use Rattle.iox_machine.specs.State.{State, counted}
use Rattle.iox_machine.specs.Table.{at, removed}

module _ {T : Type 0} (choices : Choices T) (loan : ℕ) (service after : Service T) (answer : Reply T) (answered : answer ≢ reply.Skipped)
  where
    abbrev SentBy : Loan T → Publisher T → Type 0
    SentBy one publisher =
        Sends choices one.publisher (sent_as one) publisher (record service { loans = removed loan service.loans }) answer after

    abbrev SentIf : Loan T → Publisher T → Type 0
    SentIf one publisher = MatchBool (is_written one && not (is_some publisher.blocked)) (SentBy one publisher)
        (IsSkipped service answer after)

    sent_if : (one : Loan T) (publisher : Publisher T) → SentIf one publisher → SentBy one publisher
    sent_if one publisher sends =
        elim (by_bool (is_written one && not (is_some publisher.blocked)) (SentBy one publisher) (IsSkipped service answer after) sends) [
          | inl w ↦ w.1
          | inr w ↦ absurd (answered w.1.0)
        ]

    sent_by : (one : Loan T) (publisher : Publisher T) → at one.publisher service.publishers ≡ Some publisher
        → SendsLoan choices loan one service answer after → SentBy one publisher
    sent_by one publisher there sends =
        elim (by_option (at one.publisher service.publishers) (IsSkipped service answer after) (λ it. SentIf one it) sends) [
          | inl w ↦ absurd (answered w.1.0)
          | inr w ↦ sent_if one publisher
              (subst (λ (it : Publisher T). SentIf one it) (same_some w.0 publisher (sym w.1 ∙ there)) w.2)
        ]

    -- what was answered but by a skip was sent
    pub sending_back : (types : MessageTypeDetails) (buffer : ℕ) (state : State T) (one : Loan T)
        (publisher : Publisher T) → at loan service.loans ≡ Some one → at one.publisher service.publishers ≡ Some publisher
        → Step types choices buffer (command.Send loan) (with_alone service state) answer (record
        (with_alone after state) { made = counted answer state.made })
        → SentBy one publisher
    sending_back types buffer state one publisher found there step =
        elim (alone_did (λ (it : Service T). at loan it.loans) (SendsLoan choices loan) state service after answer step) [
          | inl w ↦ sent_by one publisher there
              (subst (λ (it : Loan T). SendsLoan choices loan it service answer after) (same_some w.0 one (sym w.1 ∙ found)) w.2)
          | inr w ↦ never_some one (sym w.0 ∙ found)
        ]
