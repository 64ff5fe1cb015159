-- Each call of a typed publisher, of its loans and of its blocked sends is a step of the machine.
use Rattle.std.proofs.Common.{◌≡◌, ℕ, true, List, Option, Some, Result, Ok, Err, refl, sym, ap, subst, ◌∙◌}
use Rattle.std.specs.Prelude.{is_some}
use Rattle.iox_domain.specs.Lending.{gave_up_in}
use Rattle.iox_command.specs.NegotiateBase.DescribeBase.declared.message_type.MessageTypeDetails.{MessageTypeDetails}
use Rattle.iox_command.specs.NegotiateBase.DescribeBase.declared.type_detail.TypeVariant.{TypeVariant}
use Rattle.iox_command.specs.DomainValues.declared.port_error.LoanError.{LoanError}
use Rattle.iox_command.specs.DomainValues.declared.port_error.SendError.{SendError}
use Rattle.iox_command.specs.declared.command.Command.TheVariants as command
use Rattle.iox_command.specs.declared.port.PortNumber.TheVariants as port
use Rattle.iox_container.specs.NumberTable.{value_at}
use Rattle.iox_delivery.specs.Publishing.{LendsSlot, lent_of, sent_of}
use Rattle.iox_delivery.specs.declared.loan.Loan.{Loan as Lent}
use Rattle.iox_delivery.specs.declared.loan.Uninit.{Uninit}
use Rattle.iox_delivery.specs.declared.port_id.PortId.{PortId}
use Rattle.iox_domain.specs.DomainPorts.declared.meeting.Sent.{Sent as Sending}
use Rattle.iox_domain.specs.DomainPorts.declared.meeting.Sent.TheVariants as sending
use Rattle.iox_domain.specs.Fitting.{asked_types}
use Rattle.iox_hub_base.specs.AsHome.{hub_ports, with_hub_ports, without_hub_publisher}
use Rattle.iox_hub_base.specs.declared.hub.Hub.{Hub}
use Rattle.iox_hub_commands.specs.Calls.{AtPort, AtPortIf, Follows, GivesUp, PublisherGoes, Retries}
use Rattle.iox_hub_commands.specs.CommandSteps.{publisher_may_decide, publisher_may_degrade}
use Rattle.iox_hub_commands.specs.Loans.{SendsUnder, changed_under, filled_in, is_filled, loan_under}
use Rattle.iox_hub_commands.specs.Numbering.{LendsNumbered}
use Rattle.iox_hub_commands.specs.Replies.{sent_reply}
use Rattle.iox_hub_commands.specs.Tables.{lender, port_under, without_loan}
use Rattle.iox_hub_commands.specs.Terms.{Terms}
use Rattle.iox_hub_commands.specs.declared.numbered_hub.NumberedHub.{NumberedHub}
use Rattle.iox_hub_commands.specs.declared.ports.made.MadeLoan.{MadeLoan}
use Rattle.iox_hub_machine.proofs.Dropped.{is_out}
use Rattle.iox_hub_machine.proofs.Going.{loan_goes}
use Rattle.iox_hub_machine.proofs.Lent.{lender_is}
use Rattle.iox_hub_machine.proofs.TypedSteps.{Does, Stands, as_roomy, by_step}
use Rattle.iox_hub_machine.specs.TypedPublishing.{DropIsStep, GiveUpIsStep, LoanUninitIsStep, PublisherLeaveIsStep, PublisherUpdateIsStep}
use Rattle.iox_hub_machine.specs.TypedPublishing.{RetryIsStep, SendIsStep, WriteIsStep}
use Rattle.iox_hub_machine.specs.TypedSteps.{having_lent, hub_after_call, told_loan, told_sent}
use Rattle.iox_hub_machine.specs.TypedTerms.{asked_terms}
use Rattle.iox_machine.specs.State.{State}
use Rattle.iox_machine.specs.Choices.{Choices}

-- what a send is told as
pub sent_alike : (T U : Type 0) (sender : PortId) (outcome : Result Sending SendError)
    → told_sent (sent_of {T = T} {U = U} sender outcome) ≡ sent_reply (Some outcome)
sent_alike T U sender (Ok (sending.Delivered count)) = refl
sent_alike T U sender (Ok sending.Blocked) = refl
sent_alike T U sender (Err why) = refl

module _ {T U B D : Type 0} (variant : TypeVariant) (terms : Terms T U B D) (choices : Choices T) where
  -- the terms of a hub whose messages are values, or slices of them
  abbrev terms_so : Terms T U B D
  terms_so = asked_terms variant terms

  -- the types of the messages: values, or slices of them
  abbrev types : MessageTypeDetails
  types = asked_types variant terms.payload terms.user_header

  -- whoever goes by a number may lend slices
  pub lends_here : (number length : ℕ) (who : PortId) (old : NumberedHub T U B D) (names : List (List ℕ)) (most : ℕ) (state : State T)
      → Stands variant terms choices names most old state
      → port_under (value_at old.made.publishers number) ≡ Some who
      → lender length (value_at old.made.publishers number) ≡ Some who
  lends_here number length who old names most state it there =
      lender_is length (value_at old.made.publishers number) (λ made found. it.stands.ports.slices number made found) ∙ there

  module _ (K : Type 0) where
    abbrev Asked : (number length : ℕ) → NumberedHub T U B D → Hub T U B D → Result (Lent T U K Uninit) LoanError → Type 0
    Asked number length old hub answer =
        Does variant terms choices
        (command.LoanUninit number length) old (told_loan answer old.made) (hub_after_call old (having_lent answer old.made) hub)

    uninit_does : (number length : ℕ) (who : PortId) (old : NumberedHub T U B D) (hub : Hub T U B D) (lent : Result ℕ LoanError)
        → lender length (value_at old.made.publishers number) ≡ Some who
        → LendsSlot hub_ports with_hub_ports who length length old.hub lent hub → Asked number length old hub (lent_of length who lent)
    uninit_does number length who old hub (Ok slot) there lends = (
      (
        Ok (Some (Ok old.made.loans.next)),
        (
          old.made,
          as_roomy old.made,
          subst (λ (found : Option PortId). LendsNumbered hub_ports with_hub_ports length found old.made old.hub
              (Some (Ok old.made.loans.next)) (having_lent (lent_of {T = T} {U = U} {K = K} length who (Ok slot)) old.made) hub) (sym there)
              (Some (Ok slot), lends, (refl, refl)),
        ),
        refl,
      ),
      refl,
    )
    uninit_does number length who old hub (Err why) there lends = (
      (
        Ok (Some (Err why)),
        (
          old.made,
          as_roomy old.made,
          subst (λ (found : Option PortId). LendsNumbered hub_ports with_hub_ports length found old.made old.hub (Some (Err why)) old.made
              hub) (sym there) (Some (Err why), lends, (refl, refl)),
        ),
        refl,
      ),
      refl,
    )

    pub loan_uninit_is_step : LoanUninitIsStep K terms_so choices
    loan_uninit_is_step number length who old hub answer there (lent, lends, is) =
        by_step variant terms choices
        (command.LoanUninit number length) tt old (hub_after_call old (having_lent answer old.made) hub) (told_loan answer old.made)
        (λ names most state it. subst (λ (a : Result (Lent T U K Uninit) LoanError). Asked number length old hub a) (sym is)
        (uninit_does number length who old hub lent (lends_here number length who old names most state it there) lends))

    pub write_is_step : WriteIsStep K terms_so choices
    write_is_step number made values old hub there writes =
        by_step variant terms choices (command.Fill number values) tt old (hub_after_call old old.made hub) _ (λ names most state it. (
          (
            is_filled hub_ports values (Some made) old.hub,
            ap (λ (found : Option MadeLoan). is_filled hub_ports values found old.hub) (sym there),
            writes ∙ ap (λ (found : Option MadeLoan). changed_under hub_ports with_hub_ports (filled_in values) found old.hub) (sym there),
            refl,
          ),
          refl,
        ))

    pub drop_is_step : DropIsStep K terms_so choices
    drop_is_step number made old hub there gives =
        by_step variant terms choices (command.Drop number) tt old (hub_after_call old (without_loan number old.made) hub) _
        (λ names most state it.
        let ports = it.stands.ports in
        let goes = loan_goes choices terms.degrades terms.decides terms.reader_degrades it.naming it.order old state
        ports number made there in
        let out = is_out choices terms.is_default_header terms.degrades terms.decides terms.reader_degrades types
        it.naming it.order old old state ports number it.ran.grown made there goes.ports goes.found goes.mine in (
          (
            true,
            sym (ap (λ (found : Option MadeLoan). is_some (loan_under hub_ports found old.hub)) there ∙ out),
            gives ∙ ap (λ (found : Option MadeLoan). changed_under hub_ports with_hub_ports gave_up_in found old.hub) (sym there),
            refl,
            refl,
          ),
          refl,
        ))

    pub send_is_step : SendIsStep K terms_so choices
    send_is_step number made old hub answer there (outcome, sends, is) =
        by_step variant terms choices (command.Send number) tt old (hub_after_call old (without_loan number old.made) hub) _
        (λ names most state it. (
          (
            Some outcome,
            subst (λ (found : Option MadeLoan). SendsUnder hub_ports with_hub_ports (publisher_may_degrade terms.degrades)
                (publisher_may_decide terms.decides) found old.hub (Some outcome) hub) (sym there) sends,
            refl,
            ap told_sent is ∙ sent_alike T U made.port outcome,
          ),
          refl,
        ))

    pub retry_is_step : RetryIsStep K terms_so choices
    retry_is_step number nanoseconds who old hub answer there (outcome, tries, is) =
        by_step variant terms choices (command.Retry number nanoseconds) tt old (hub_after_call old old.made hub) _
        (λ names most state it. (
          (
            Some outcome,
            subst (λ (found : Option PortId). AtPort (Retries hub_ports with_hub_ports (publisher_may_decide terms.decides) nanoseconds)
                found old.hub (Some outcome) hub) (sym there) tries,
            ap told_sent is ∙ sent_alike T U who outcome,
          ),
          refl,
        ))

    pub give_up_is_step : GiveUpIsStep K terms_so choices
    give_up_is_step number who old hub answer there ends =
        by_step variant terms choices (command.GiveUp number) tt old (hub_after_call old old.made hub) _ (λ names most state it. (
          (
            answer,
            subst (λ (found : Option PortId). AtPort (GivesUp hub_ports with_hub_ports) found old.hub answer hub) (sym there) ends,
            refl,
          ),
          refl,
        ))

    pub publisher_update_is_step : PublisherUpdateIsStep K terms_so choices
    publisher_update_is_step number who old hub answer there follows =
        by_step variant terms choices (command.Update (port.Publisher number)) tt old (hub_after_call old old.made hub) _
        (λ names most state it. (
          (
            Some answer,
            subst (λ (found : Option PortId). AtPort (Follows hub_ports with_hub_ports (publisher_may_degrade terms.degrades)) found old.hub
                (Some answer) hub) (sym there) follows,
            refl,
          ),
          refl,
        ))

    pub publisher_leave_is_step : PublisherLeaveIsStep K terms_so choices
    publisher_leave_is_step number who old hub left there ends =
        by_step variant terms choices (command.Leave (port.Publisher number)) tt old _ _ (λ names most state it. (
          (
            left,
            subst (λ (found : Option PortId). AtPortIf (PublisherGoes hub_ports with_hub_ports without_hub_publisher) found old.hub left
                hub) (sym there) ends,
            refl,
            refl,
          ),
          refl,
        ))
