-- A typed publisher lends values that are written, or sends values at once: each such call is a step of the machine.
use Rattle.std.proofs.Common.{◌≡◌, ◌≤◌, ◌+◌, ℕ, Bool, true, false, cond, not, ◌&&◌, List, [], ◌∷◌, length, replicate, set, nat_lt, Option}
use Rattle.std.proofs.Common.{None, Some, Result, Ok, Err, IsSome, is_some, refl, sym, ap, subst, ◌∙◌, arith, suc, zero}
use Rattle.std.proofs.Math.Dec.{eqb}
use Rattle.std.proofs.lemmas.Bool.{eq-eqb, eqb-true}
use Rattle.std.proofs.lemmas.Bool.Decides.{nat_tests}
use Rattle.std.specs.Prelude.{IfOk, get_or, option_map}
use Rattle.iox_command.specs.DomainValues.declared.backpressure.BackpressureDecision.{BackpressureDecision}
use Rattle.iox_command.specs.DomainValues.declared.backpressure.BackpressureInfo.{BackpressureInfo}
use Rattle.iox_command.specs.DomainValues.declared.degradation.DegradationAction.{DegradationAction}
use Rattle.iox_command.specs.DomainValues.declared.degradation.DegradationCause.{DegradationCause}
use Rattle.iox_command.specs.DomainValues.declared.degradation.DegradationInfo.{DegradationInfo}
use Rattle.iox_command.specs.NegotiateBase.DescribeBase.declared.message_type.MessageTypeDetails.{MessageTypeDetails}
use Rattle.iox_command.specs.NegotiateBase.DescribeBase.declared.type_detail.TypeVariant.{TypeVariant}
use Rattle.iox_command.specs.DomainValues.declared.port_error.LoanError.{LoanError}
use Rattle.iox_command.specs.DomainValues.declared.port_error.SendError.{SendError}
use Rattle.iox_command.specs.DomainValues.declared.port_error.SendError.TheVariants as refusal
use Rattle.iox_command.specs.declared.command.Command.TheVariants as command
use Rattle.iox_container.specs.NumberTable.{value_at}
use Rattle.iox_delivery.proofs.Filled.{filled_is_ready, in_home, written_is_ready}
use Rattle.iox_delivery.proofs.Lent.{lent_there}
use Rattle.iox_delivery.specs.Holding.{loan_found, publisher_blocked}
use Rattle.iox_delivery.specs.KindLaws.{right_of}
use Rattle.iox_delivery.specs.Lent.{IsReady}
use Rattle.iox_delivery.specs.Publishing.{AfterLoan, LendsSlot, LendsValue, SendsCopy, SendsSample, changed_at}
use Rattle.iox_delivery.specs.Publishing.{sent_of, written_of}
use Rattle.iox_delivery.specs.Slices.{LendsFilled, SendsSlice, SendsValues, each_written}
use Rattle.iox_delivery.specs.Slices.{each_written_in}
use Rattle.iox_delivery.specs.declared.loan.Loan.{Loan as Lent}
use Rattle.iox_delivery.specs.declared.loan.Written.{Written}
use Rattle.iox_delivery.specs.declared.port_id.PortId.{PortId}
use Rattle.iox_delivery.specs.declared.sent.Sent.{Sent}
use Rattle.iox_domain.proofs.Homely.{put_is_there}
use Rattle.iox_domain.proofs.Lent.{one_passes}
use Rattle.iox_domain.specs.AtHomes.{AtDomain}
use Rattle.iox_domain.specs.DomainPorts.Messages.{Loan, write_all, write_value}
use Rattle.iox_domain.specs.DomainPorts.MessagesSending.{has_length, has_place}
use Rattle.iox_domain.specs.DomainPorts.Publishers.{changed_at_port, port_of, with_port}
use Rattle.iox_domain.specs.DomainPorts.Writing.{changed_if, changed_there}
use Rattle.iox_domain.specs.DomainPorts.declared.meeting.Sent.{Sent as Sending}
use Rattle.iox_domain.specs.DomainPorts.declared.publisher_port.PublisherPort.{PublisherPort}
use Rattle.iox_domain.specs.DomainSlots.Counting.{times}
use Rattle.iox_domain.specs.Lending.{loan_at_port, loan_changed_in, loan_in, written_in}
use Rattle.iox_domain.specs.Steps.{LoansBy}
use Rattle.iox_domain.specs.declared.domain_id.DomainId.{DomainId}
use Rattle.iox_domain.specs.declared.ports.service_ports.ServicePorts.{ServicePorts}
use Rattle.iox_domain_machine.proofs.Found.{at_mapped, never_some, same_some}
use Rattle.iox_domain_machine.proofs.Lending.{lend_uninit_matches}
use Rattle.iox_domain_machine.proofs.Loans.{found_passes, in_slot, slots}
use Rattle.iox_domain_machine.proofs.TableEnds.{at_end}
use Rattle.iox_domain_machine.proofs.Writing.{IsThere, is_there, loan_found as loan_there}
use Rattle.iox_domain_machine.specs.LendingLaws.{with_lent, with_lent_name}
use Rattle.iox_domain_machine.specs.Services.{those_of}
use Rattle.iox_domain_machine.specs.Tables.{LentSlot}
use Rattle.iox_domain.specs.Fitting.{asked_types}
use Rattle.iox_hub_base.specs.AsHome.{hub_changed, hub_ports, hub_state, with_hub_ports}
use Rattle.iox_hub_base.specs.HomeLaws.{changed_found}
use Rattle.iox_hub_base.specs.declared.hub.Hub.{Hub}
use Rattle.iox_hub_commands.proofs.Written.{numbered}
use Rattle.iox_hub_commands.specs.Calls.{AtPort, Puts, ready}
use Rattle.iox_hub_commands.specs.CommandSteps.{publisher_may_decide, publisher_may_degrade}
use Rattle.iox_hub_commands.specs.Loans.{changed_under, filled_in, is_filled, is_set, loan_under, set_in}
use Rattle.iox_hub_commands.specs.Tables.{lender, port_under}
use Rattle.iox_hub_commands.specs.Terms.{Terms}
use Rattle.iox_hub_commands.specs.declared.numbered_hub.NumberedHub.{NumberedHub}
use Rattle.iox_hub_commands.specs.declared.ports.made.MadeLoan.{MadeLoan}
use Rattle.iox_hub_machine.proofs.Going.{loan_goes, some_service}
use Rattle.iox_hub_machine.proofs.Known.{goes_by_number}
use Rattle.iox_hub_machine.proofs.Lengthened.{none_next}
use Rattle.iox_hub_machine.proofs.Numbered.{is_nobodys}
use Rattle.iox_hub_machine.proofs.Rooming.{roomy_there}
use Rattle.iox_hub_machine.proofs.TypedPublishing.{lends_here, sent_alike}
use Rattle.iox_hub_machine.proofs.TypedSteps.{Does, Stands, as_roomy, by_step}
use Rattle.iox_hub_machine.proofs.WrittenWhole.{changed_alike, with_loans, written_whole}
use Rattle.iox_hub_machine.specs.Standing.{held_in, lent_in, lent_slot}
use Rattle.iox_hub_machine.specs.TypedPublishing.{ChangeIsStep, LoanIsStep, LoanOfOneIsStep, SendCopyIsStep, SendSliceIsStep}
use Rattle.iox_hub_machine.specs.TypedPublishing.{WriteEachIsStep, WriteOneIsStep}
use Rattle.iox_hub_machine.specs.TypedSteps.{having_lent, hub_after_call, told_loan, told_sent}
use Rattle.iox_hub_machine.specs.TypedTerms.{asked_terms}
use Rattle.iox_machine.specs.State.{State}
use Rattle.iox_machine.specs.Table.{at}
use Rattle.iox_machine.specs.Choices.{Choices}

-- ---- loans of one value

-- one value that is set is all that there is
set_one : {T : Type 0} (values : List (Option T)) (value : T) → length values ≡ 1 → set values 0 (Some value) ≡ Some value ∷ []
set_one [] value one = absurd (never one)
  where
    never : ◌≡◌ {A = ℕ} 0 1 → ⊥
    never e = omega (arith, e)
set_one (first ∷ []) value one = refl
set_one (first ∷ second ∷ rest) value one = absurd (never one)
  where
    never : suc (suc (length rest)) ≡ 1 → ⊥
    never e = omega (arith, e)

module _ {T U : Type 0} (number slot : ℕ) (value : T) (ports : ServicePorts T U) where
  abbrev with_these : List (ℕ × PublisherPort T U) → ServicePorts T U
  with_these publishers = record ports { publishers = publishers }

  -- the ports where the value of the loan is written
  abbrev pub one_in : ServicePorts T U
  one_in = written_in number (λ port. has_length slot 1 port.sender.uses) slot (write_value 0 value) ports

  one_each_at : (found : Option (PublisherPort T U)) (loan : Loan T U) → port_of number ports.publishers ≡ found
      → loan_at_port slot found ≡ Some loan → length loan.values ≡ 1 → one_in ≡ each_written_in number slot (value ∷ []) ports
  one_each_at None loan there found one = never_some loan found
  one_each_at (Some port) loan there found one =
      let some : nat_lt 0 (length loan.values) ≡ true = grind (arith, one) in
      let place : has_place slot 0 port.sender.uses ≡ true =
      one_passes slot (λ it. nat_lt 0 (length it.values)) port.sender.uses.loans loan found some in
      let all : has_length slot 1 port.sender.uses ≡ true =
      one_passes slot (λ it. eqb 1 (length it.values)) port.sender.uses.loans loan found (eq-eqb 1 (length loan.values) (sym one)) in
      ap (λ (it : Option (PublisherPort T U)). with_these (changed_at_port number
      (λ (port : PublisherPort T U). changed_if (has_length slot 1 port.sender.uses) slot (write_value 0 value) port) it ports.publishers))
      there
      ∙ ap (λ (b : Bool). with_these (with_port number ports.publishers (changed_if b slot (write_value 0 value) port))) (all ∙ sym place)
      ∙ sym (ap (λ (it : Option (PublisherPort T U)). with_these
      (changed_at_port number (each_written slot 0 (value ∷ [])) it ports.publishers)) there)

  -- a loan of one value is written as one of which each value is
  pub one_each : (loan : Loan T U) → loan_in number slot ports ≡ Some loan → length loan.values ≡ 1
      → one_in ≡ each_written_in number slot (value ∷ []) ports
  one_each loan found one = one_each_at (port_of number ports.publishers) loan refl found one

  module _ (port : PublisherPort T U) (loan : Loan T U) (found : in_slot slot port.sender.uses.loans ≡ Some loan)
      (once : times slot (slots port.sender.uses.loans) ≤ 1) where
    whole_by : (one : Bool) → eqb 1 (length loan.values) ≡ one
        → changed_if one slot (write_value 0 value) port ≡ changed_if one slot (write_all (value ∷ [])) port
    whole_by true one =
        ap (with_loans slot port)
        (changed_alike slot (write_value 0 value) (write_all (value ∷ [])) loan port.sender.uses.loans found once
        (ap (λ (values : List (Option T)). record loan { values = values })
        (set_one loan.values value (sym (eqb-true 1 (length loan.values) one)))))
    whole_by false one = refl

  -- a loan is written as one of which all values are, if it has one
  pub one_whole : (port : PublisherPort T U) (loan : Loan T U) → port_of number ports.publishers ≡ Some port
      → in_slot slot port.sender.uses.loans ≡ Some loan → times slot (slots port.sender.uses.loans) ≤ 1
      → one_in ≡ filled_in (value ∷ []) number slot ports
  one_whole port loan there found once =
      let has = found_passes slot (λ (it : Loan T U). eqb 1 (length it.values)) port.sender.uses.loans loan found once in
      ap (λ (it : Option (PublisherPort T U)). with_these (changed_at_port number
      (λ (port : PublisherPort T U). changed_if (has_length slot 1 port.sender.uses) slot (write_value 0 value) port) it ports.publishers))
      there
      ∙ ap (λ (it : PublisherPort T U). with_these (with_port number ports.publishers it))
      (whole_by port loan found once (has_length slot 1 port.sender.uses) (sym has))
      ∙ sym (ap (λ (it : Option (PublisherPort T U)). with_these (changed_at_port number
      (λ (port : PublisherPort T U). changed_if (has_length slot 1 port.sender.uses) slot (write_all (value ∷ [])) port) it
      ports.publishers)) there)

-- ---- a value of a loan that changes

-- a value that is there is at a place of the list
there_within : {V : Type 0} (values : List (Option V)) (place : ℕ) → is_some (get_or values place None) ≡ true
    → nat_lt place (length values) ≡ true
there_within [] place there = absurd (never there)
  where
    never : false ≡ true → ⊥
    never e = cc
there_within (first ∷ values) zero there = grind (arith, nat_tests)
there_within (first ∷ values) (suc place) there =
    let less = there_within values place there in grind (arith, nat_tests, less)

module _ {T U : Type 0} (number slot place : ℕ) (value : T) (ports : ServicePorts T U) where
  -- a change at a place that a loan has is a change where it has that place
  pub set_there : (port : PublisherPort T U) (loan : Loan T U) → port_of number ports.publishers ≡ Some port
      → in_slot slot port.sender.uses.loans ≡ Some loan → times slot (slots port.sender.uses.loans) ≤ 1
      → is_some (get_or loan.values place None) ≡ true
      → loan_changed_in number slot (write_value place value) ports ≡ set_in place value number slot ports
  set_there port loan there found once some =
      let has : has_place slot place port.sender.uses ≡ true =
      found_passes slot (λ (it : Loan T U). nat_lt place (length it.values)) port.sender.uses.loans loan found once
      ∙ there_within loan.values place some in
      ap (λ (it : Option (PublisherPort T U)). with_these number slot value ports
      (changed_at_port number (changed_there slot (write_value place value)) it ports.publishers)) there
      ∙ ap (λ (b : Bool). with_these number slot value ports
      (with_port number ports.publishers (changed_if b slot (write_value place value) port))) (sym has)
      ∙ sym (ap (λ (it : Option (PublisherPort T U)). with_these number slot value ports (changed_at_port number
      (λ (port : PublisherPort T U). changed_if (has_place slot place port.sender.uses) slot (write_value place value) port) it
      ports.publishers)) there)

module _ {T U B D : Type 0} where
  -- ports that are put into a domain that is here are there
  pub put_there : (id : DomainId) (ports : ServicePorts T U) (hub : Hub T U B D) → IsSome (hub_ports id hub)
      → hub_ports id (with_hub_ports id ports hub) ≡ Some ports
  put_there id ports hub there =
      put_is_there hub_state hub_changed (λ (id : DomainId) step (hub : Hub T U B D). changed_found id step hub.services) id ports hub there

  -- a loan that is filled is ready
  fills_ready : (who : PortId) (length : ℕ) (value : T) (old hub : Hub T U B D) (lent : Result ℕ LoanError)
      → LendsFilled hub_ports with_hub_ports who length value old lent hub
      → IfOk lent (λ slot. IsReady who.number (replicate length value) length slot (hub_ports who.domain hub))
  fills_ready who length value old hub lent (Ok slot, middle, lends, ((writes, whole), is)) =
      subst (λ (it : Result ℕ LoanError). IfOk it (λ slot. IsReady who.number (replicate length value) length slot
      (hub_ports who.domain hub))) (sym is)
      (filled_is_ready (hub_ports who.domain) (λ ports home. with_hub_ports who.domain ports home)
      (λ ports home there. put_there who.domain ports home there) who.number length length slot value old middle hub lends writes)
  fills_ready who length value old hub lent (Err why, middle, lends, (is, same)) =
      subst (λ (it : Result ℕ LoanError). IfOk it (λ slot. IsReady who.number (replicate length value) length slot
      (hub_ports who.domain hub))) (sym is) tt

  -- one value that is lent and written is a loan that is filled
  one_fills : (who : PortId) (value : T) (old hub : Hub T U B D) (lent : Result ℕ LoanError)
      → LendsValue hub_ports with_hub_ports who value old lent hub → LendsFilled hub_ports with_hub_ports who 1 value old lent hub
  one_fills who value old hub lent (Err why, middle, lends, refused) = (Err why, middle, lends, refused)
  one_fills who value old hub lent (Ok slot, middle, lends, (writes, is)) =
      let its = lent_there (hub_ports who.domain) (λ ports home. with_hub_ports who.domain ports home)
      (λ ports home there. put_there who.domain ports home there) who.number 1 1 slot old middle lends in
      let same = one_each who.number slot value its.after _ its.fresh.2 refl in
      let each : hub ≡ changed_at (λ after. with_hub_ports who.domain after middle) (each_written_in who.number slot (value ∷ []))
      (hub_ports who.domain middle) middle =
      writes
      ∙ ap (λ (it : Option (ServicePorts T U)). changed_at (λ after. with_hub_ports who.domain after middle)
      (one_in who.number slot value) it middle) its.are
      ∙ ap (λ (it : ServicePorts T U). with_hub_ports who.domain it middle) same
      ∙ sym (ap (λ (it : Option (ServicePorts T U)). changed_at (λ after. with_hub_ports who.domain after middle)
      (each_written_in who.number slot (value ∷ [])) it middle) its.are) in (
        Ok slot,
        middle,
        lends,
        (
          (
            each,
            λ loan found count. in_home (hub_ports who.domain) (λ ports home. with_hub_ports who.domain ports home)
                (λ ports home there. put_there who.domain ports home there) who.number slot (value ∷ []) middle hub each loan found count,
          ),
          is,
        ),
      )

  module _ (degrades : B → DegradationCause → DegradationInfo → DegradationAction → Type 0)
      (decides : B → BackpressureInfo → BackpressureDecision → Type 0) where
    -- values that are lent, written and sent are ready between
    sends_values : (who : PortId) (values : List T) (old hub : Hub T U B D) (answer : Result (Sent T U) SendError)
        → SendsSlice hub_ports with_hub_ports (publisher_may_degrade degrades) (publisher_may_decide decides) who values old answer hub
        → (sent : Result Sending SendError) × SendsValues hub_ports with_hub_ports (publisher_may_degrade degrades)
        (publisher_may_decide decides) who values old sent hub × (answer ≡ sent_of who sent)
    sends_values who values old hub answer (Ok slot, middle, lends, (between, writes, (outcome, sends, is))) = (
      outcome,
      (
        Ok slot,
        middle,
        lends,
        (
          between,
          writes,
          written_is_ready (hub_ports who.domain) (λ ports home. with_hub_ports who.domain ports home)
              (λ ports home there. put_there who.domain ports home there) who.number (length values) slot values old middle between lends
              writes,
          sends,
        ),
      ),
      is,
    )
    sends_values who values old hub answer (Err why, middle, lends, (is, same)) =
        (Err (refusal.LoanError why), (Err why, middle, lends, (refl, same)), is)

module _ {T U B D : Type 0} (variant : TypeVariant) (terms : Terms T U B D) (choices : Choices T) where
  -- the terms of a hub whose messages are values, or slices of them
  abbrev terms_so : Terms T U B D
  terms_so = asked_terms variant terms

  -- the types of the messages: values, or slices of them
  abbrev types : MessageTypeDetails
  types = asked_types variant terms.payload terms.user_header

  abbrev Stood : NumberedHub T U B D → Type 0
  Stood old = (names : List (List ℕ)) × (most : ℕ) × (state : State T)
      × Stands variant terms choices names most old state

  -- who goes by a number may lend, if no send of it waits
  ready_is : (number length : ℕ) (who : PortId) (old : NumberedHub T U B D) → port_under (value_at old.made.publishers number) ≡ Some who
      → publisher_blocked who.number (hub_ports who.domain old.hub) ≡ false → Stood old
      → ready hub_ports (lender length (value_at old.made.publishers number)) old.hub ≡ Some who
  ready_is number length who old there free (names, most, state, it) =
      let blocked : Bool = publisher_blocked who.number (hub_ports who.domain old.hub) in
      ap (λ (found : Option PortId). ready hub_ports found old.hub)
      (lends_here variant terms choices number length who old names most state it there)
      ∙ ap (λ (up : Bool). cond (up && not blocked) (Some who) None) (it.stands.ports.publishers.known number who there).1
      ∙ ap (λ (b : Bool). cond (not b) (Some who) None) free

  module _ (K : Type 0) where
    abbrev Lends : (number length : ℕ) → NumberedHub T U B D → Hub T U B D → Result (Lent T U K Written) LoanError → Type 0
    Lends number length old hub answer =
        Does variant terms choices
        (command.Loan number length) old (told_loan answer old.made) (hub_after_call old (having_lent answer old.made) hub)

    lent_does : (number length : ℕ) (who : PortId) (value : T) (old : NumberedHub T U B D) (hub : Hub T U B D) (lent : Result ℕ LoanError)
        → choices.is_default value → ready hub_ports (lender length (value_at old.made.publishers number)) old.hub ≡ Some who
        → LendsFilled hub_ports with_hub_ports who length value old.hub lent hub → Lends number length old hub (written_of who lent)
    lent_does number length who value old hub (Ok slot) default there lends = (
      (
        value,
        default,
        Ok (Some (Ok old.made.loans.next)),
        (
          old.made,
          as_roomy old.made,
          numbered hub_ports with_hub_ports length value (ready hub_ports (lender length (value_at old.made.publishers number)) old.hub) who
              (Ok slot) old.made (having_lent (written_of {T = T} {U = U} {K = K} who (Ok slot)) old.made) old.hub hub
              (Some (Ok old.made.loans.next)) (sym there) lends (fills_ready who length value old.hub hub (Ok slot) lends) (refl, refl),
        ),
        refl,
      ),
      refl,
    )
    lent_does number length who value old hub (Err why) default there lends = (
      (
        value,
        default,
        Ok (Some (Err why)),
        (
          old.made,
          as_roomy old.made,
          numbered hub_ports with_hub_ports length value (ready hub_ports (lender length (value_at old.made.publishers number)) old.hub) who
              (Err why) old.made old.made old.hub hub (Some (Err why)) (sym there) lends
              (fills_ready who length value old.hub hub (Err why) lends) (refl, refl),
        ),
        refl,
      ),
      refl,
    )

    pub loan_is_step : LoanIsStep K terms_so choices
    loan_is_step number length who old hub answer there free (value, default, lent, lends, is) =
        by_step variant terms choices
        (command.Loan number length) tt old (hub_after_call old (having_lent answer old.made) hub) (told_loan answer old.made)
        (λ names most state it. subst (λ (a : Result (Lent T U K Written) LoanError). Lends number length old hub a) (sym is)
        (lent_does number length who value old hub lent default (ready_is number length who old there free (names, most, state, it)) lends))

    pub loan_of_one_is_step : LoanOfOneIsStep K terms_so choices
    loan_of_one_is_step number who old hub answer there free (value, default, lent, lends, is) =
        loan_is_step number 1 who old hub answer there free (value, default, lent, one_fills who value old.hub hub lent lends, is)

    -- ---- values that are sent at once

    puts_does : (number : ℕ) (who : PortId) (values : List T) (old : NumberedHub T U B D) (hub : Hub T U B D)
        (answer : Result (Sent T U) SendError)
        → ready hub_ports (lender (length values) (value_at old.made.publishers number)) old.hub ≡ Some who
        → SendsSlice hub_ports with_hub_ports (publisher_may_degrade terms.degrades) (publisher_may_decide terms.decides) who values old.hub
        answer hub
        → Does variant terms choices (command.Put number values) old (told_sent answer) (hub_after_call old old.made hub)
    puts_does number who values old hub answer there puts =
        let (outcome, sends, is) = sends_values terms.degrades terms.decides who values old.hub hub answer puts in (
          (
            Some outcome,
            subst (λ (found : Option PortId). AtPort (Puts hub_ports with_hub_ports (publisher_may_degrade terms.degrades)
                (publisher_may_decide terms.decides) values) found old.hub (Some outcome) hub) (sym there) (outcome, sends, refl),
            ap told_sent is ∙ sent_alike T U who outcome,
          ),
          refl,
        )

    pub send_slice_is_step : SendSliceIsStep K terms_so choices
    send_slice_is_step number who values old hub answer there free puts =
        by_step variant terms choices (command.Put number values) tt old (hub_after_call old old.made hub) (told_sent answer)
        (λ names most state it. puts_does number who values old hub answer
        (ready_is number (length values) who old there free (names, most, state, it)) puts)

    -- a loan that was just made is alone in its slot
    lent_once : (number slot : ℕ) (who : PortId) (old : NumberedHub T U B D) (made : ServicePorts T U) (middle : Hub T U B D)
        → port_under (value_at old.made.publishers number) ≡ Some who → Stood old
        → LendsSlot hub_ports with_hub_ports who 1 1 old.hub (Ok slot) middle → hub_ports who.domain middle ≡ Some made
        → IsThere made (record { publisher = who.number; slot = slot })
    lent_once number slot who old made middle there (names, most, state, it) lends are =
        let stands = it.stands.ports in
        let id = who.domain in
        let goes = goes_by_number choices terms.degrades terms.decides terms.reader_degrades it.naming it.order old
        state stands number who there in
        let (service, its) = some_service choices terms.degrades terms.decides terms.reader_degrades it.naming it.order
        old state stands id goes.ports goes.found in
        let names_of = it.naming id.service in
        let lent = those_of id.service (lent_in old.made) in
        let held = those_of id.service (held_in old.made) in
        let buffer = old.hub.expired_connection_buffer in
        let next = state.made.loans + 1 in
        let out : LentSlot = record { publisher = who.number; slot = slot } in
        let fresh : at next (lent_in old.made) ≡ None =
        at_mapped lent_slot next old.made.loans.entries
        ∙ ap (option_map lent_slot) (ap (λ (n : ℕ). at n old.made.loans.entries) (sym stands.numbers.loans)
        ∙ none_next 1 old.made.loans.next old.made.loans.entries it.ran.rise.3) in
        let none = is_nobodys id.service next (lent_in old.made) fresh in
        let (after, loans, is) = subst (λ (ports : Option (ServicePorts T U)). AtDomain (λ (one : ServicePorts T U). with_hub_ports id one
        old.hub) (LoansBy who.number 1 1) ports old.hub (Some (Ok slot)) middle) goes.found lends in
        let (name, (service_then, does, then))
        = lend_uninit_matches T U choices types buffer names_of lent held goes.ports after service
        state who.number 1 (Some (Ok slot)) its (roomy_there id goes.ports old.hub it.ran.grown goes.found).sound goes.some none loans in
        let same : after ≡ made =
        same_some after made (sym (ap (hub_ports id) is ∙ put_there id after old.hub (ap is_some goes.found)) ∙ are) in
        subst (λ (ports : ServicePorts T U). IsThere ports out) same
        (is_there (with_lent_name who.number name (Some (Ok slot)) names_of) (with_lent next who.number (Some (Ok slot)) lent) held buffer
        after service_then next out then (at_end next out lent none))

    -- one value that is sent at once is a slice of one
    copy_is_slice : (number : ℕ) (who : PortId) (value : T) (old : NumberedHub T U B D) (hub : Hub T U B D)
        (answer : Result (Sent T U) SendError) → port_under (value_at old.made.publishers number) ≡ Some who → Stood old
        → SendsCopy hub_ports with_hub_ports (publisher_may_degrade terms.degrades) (publisher_may_decide terms.decides) who value old.hub
        answer hub
        → SendsSlice hub_ports with_hub_ports (publisher_may_degrade terms.degrades) (publisher_may_decide terms.decides) who (value ∷ [])
        old.hub answer hub
    copy_is_slice number who value old hub answer there stood (lent, between, (Err why, middle, lends, (is, same)), then) =
        let (refused, still) = subst (λ (it : Result ℕ LoanError). AfterLoan (λ error. Err (refusal.LoanError error))
        (SendsSample hub_ports with_hub_ports (publisher_may_degrade terms.degrades) (publisher_may_decide terms.decides) who) it between
        answer hub) is then in
        (Err why, middle, lends, (refused, still ∙ same))
    copy_is_slice number who value old hub answer there stood (lent, between, (Ok slot, middle, lends, (writes, is)), then) =
        let its = lent_there (hub_ports who.domain) (λ ports home. with_hub_ports who.domain ports home)
        (λ ports home there. put_there who.domain ports home there) who.number 1 1 slot old.hub middle lends in
        let alone = lent_once number slot who old its.after middle there stood lends its.are in
        let whole : between ≡ changed_at (λ after. with_hub_ports who.domain after middle) (filled_in (value ∷ []) who.number slot)
        (hub_ports who.domain middle) middle =
        writes
        ∙ ap (λ (it : Option (ServicePorts T U)). changed_at (λ after. with_hub_ports who.domain after middle)
        (one_in who.number slot value) it middle) its.are
        ∙ ap (λ (it : ServicePorts T U). with_hub_ports who.domain it middle)
        (one_whole who.number slot value its.after alone.port alone.loan alone.there alone.found alone.once)
        ∙ sym (ap (λ (it : Option (ServicePorts T U)). changed_at (λ after. with_hub_ports who.domain after middle)
        (filled_in (value ∷ []) who.number slot) it middle) its.are) in (
          Ok slot,
          middle,
          lends,
          (
            between,
            whole,
            subst (λ (it : Result ℕ LoanError). AfterLoan (λ error. Err (refusal.LoanError error))
                (SendsSample hub_ports with_hub_ports (publisher_may_degrade terms.degrades) (publisher_may_decide terms.decides) who) it
                between answer hub) is then,
          ),
        )

    pub send_copy_is_step : SendCopyIsStep K terms_so choices
    send_copy_is_step number who value old hub answer there free sends =
        by_step variant terms choices (command.Put number (value ∷ [])) tt old (hub_after_call old old.made hub) (told_sent answer)
        (λ names most state it. puts_does number who (value ∷ []) old hub answer
        (ready_is number 1 who old there free (names, most, state, it))
        (copy_is_slice number who value old hub answer there (names, most, state, it) sends))

    -- ---- one value is written

    pub write_one_is_step : WriteOneIsStep K terms_so choices
    write_one_is_step number made value old hub there writes =
        by_step variant terms choices (command.Fill number (value ∷ [])) tt old (hub_after_call old old.made hub) _ (λ names most state it.
        let stands = it.stands.ports in
        let id = made.port.domain in
        let goes = loan_goes choices terms.degrades terms.decides terms.reader_degrades it.naming it.order old state
        stands number made there in
        let (service, its) = some_service choices terms.degrades terms.decides terms.reader_degrades it.naming it.order
        old state stands id goes.ports goes.found in
        let out : LentSlot = (lent_slot made).1 in
        let alone = is_there (it.naming id.service) (those_of id.service (lent_in old.made)) (those_of id.service (held_in old.made))
        old.hub.expired_connection_buffer goes.ports service number out its goes.mine in
        let same = one_whole made.port.number made.slot value goes.ports alone.port alone.loan alone.there alone.found alone.once in (
          (
            is_filled hub_ports (value ∷ []) (Some made) old.hub,
            ap (λ (found : Option MadeLoan). is_filled hub_ports (value ∷ []) found old.hub) (sym there),
            writes
                ∙ ap (λ (it : Option (ServicePorts T U)). changed_at (λ after. with_hub_ports id after old.hub)
                (one_in made.port.number made.slot value) it old.hub) goes.found
                ∙ ap (λ (it : ServicePorts T U). with_hub_ports id it old.hub) same
                ∙ sym (ap (λ (it : Option (ServicePorts T U)). changed_at (λ after. with_hub_ports id after old.hub)
                (filled_in (value ∷ []) made.port.number made.slot) it old.hub) goes.found)
                ∙ ap (λ (found : Option MadeLoan). changed_under hub_ports with_hub_ports (filled_in (value ∷ [])) found old.hub)
                (sym there),
            refl,
          ),
          refl,
        ))

    -- ---- values are written one after the other

    pub write_each_is_step : WriteEachIsStep K terms_so choices
    write_each_is_step number made loan values old hub there out count (writes, whole) =
        by_step variant terms choices (command.Fill number values) tt old (hub_after_call old old.made hub) _ (λ names most state it.
        let stands = it.stands.ports in
        let id = made.port.domain in
        let goes = loan_goes choices terms.degrades terms.decides terms.reader_degrades it.naming it.order old state
        stands number made there in
        let (service, its) = some_service choices terms.degrades terms.decides terms.reader_degrades it.naming it.order
        old state stands id goes.ports goes.found in
        let slot_of : LentSlot = (lent_slot made).1 in
        let names_of = it.naming id.service in
        let lent = those_of id.service (lent_in old.made) in
        let held = those_of id.service (held_in old.made) in
        let alone = is_there names_of lent held old.hub.expired_connection_buffer goes.ports service number slot_of its goes.mine in
        let here = loan_there names_of lent held old.hub.expired_connection_buffer goes.ports service number slot_of its goes.mine in
        let same_loan : alone.loan ≡ loan =
        same_some alone.loan loan
        (sym (ap (λ (ports : Option (ServicePorts T U)). loan_found made.port.number made.slot ports) goes.found ∙ here) ∙ out) in
        let same = written_whole made.slot made.port.number values goes.ports alone.port alone.loan alone.there alone.found alone.once
        (ap (λ (one : Loan T U). length one.values) same_loan ∙ count) in (
          (
            is_filled hub_ports values (Some made) old.hub,
            ap (λ (found : Option MadeLoan). is_filled hub_ports values found old.hub) (sym there),
            writes
                ∙ ap (λ (it : Option (ServicePorts T U)). changed_at (λ after. with_hub_ports id after old.hub)
                (each_written_in made.port.number made.slot values) it old.hub) goes.found
                ∙ ap (λ (it : ServicePorts T U). with_hub_ports id it old.hub) same
                ∙ sym (ap (λ (it : Option (ServicePorts T U)). changed_at (λ after. with_hub_ports id after old.hub)
                (filled_in values made.port.number made.slot) it old.hub) goes.found)
                ∙ ap (λ (found : Option MadeLoan). changed_under hub_ports with_hub_ports (filled_in values) found old.hub) (sym there),
            refl,
          ),
          refl,
        ))

    -- ---- one value changes

    pub change_is_step : ChangeIsStep K terms_so choices
    change_is_step number place made value old hub there is_there_to_set changes =
        by_step variant terms choices (command.Set number place value) tt old (hub_after_call old old.made hub) _ (λ names most state it.
        let stands = it.stands.ports in
        let id = made.port.domain in
        let goes = loan_goes choices terms.degrades terms.decides terms.reader_degrades it.naming it.order old state
        stands number made there in
        let (service, its) = some_service choices terms.degrades terms.decides terms.reader_degrades it.naming it.order
        old state stands id goes.ports goes.found in
        let out : LentSlot = (lent_slot made).1 in
        let names_of = it.naming id.service in
        let lent = those_of id.service (lent_in old.made) in
        let held = those_of id.service (held_in old.made) in
        let alone = is_there names_of lent held old.hub.expired_connection_buffer goes.ports service number out its goes.mine in
        let here = loan_there names_of lent held old.hub.expired_connection_buffer goes.ports service number out its goes.mine in
        let some : is_set place (Some alone.loan) ≡ true =
        sym (ap (λ (ports : Option (ServicePorts T U)). is_set place (loan_found made.port.number made.slot ports)) goes.found
        ∙ ap (is_set place) here) ∙ is_there_to_set in
        let same = set_there made.port.number made.slot place value goes.ports alone.port alone.loan alone.there alone.found alone.once
        (right_of _ _ some) in (
          (
            true,
            sym (ap (λ (found : Option MadeLoan). is_set place (loan_under hub_ports found old.hub)) there ∙ is_there_to_set),
            changes
                ∙ ap (λ (it : Option (ServicePorts T U)). changed_at (λ after. with_hub_ports id after old.hub)
                (loan_changed_in made.port.number made.slot (write_value place value)) it old.hub) goes.found
                ∙ ap (λ (it : ServicePorts T U). with_hub_ports id it old.hub) same
                ∙ sym (ap (λ (it : Option (ServicePorts T U)). changed_at (λ after. with_hub_ports id after old.hub)
                (set_in place value made.port.number made.slot) it old.hub) goes.found)
                ∙ ap (λ (found : Option MadeLoan). changed_under hub_ports with_hub_ports (set_in place value) found old.hub) (sym there),
            refl,
          ),
          refl,
        ))
