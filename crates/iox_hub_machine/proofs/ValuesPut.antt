-- Values are put by publishers of a hub.
use Rattle.std.proofs.Common.{◌≡◌, ℕ, Bool, true, false, cond, not, ◌&&◌, ◌||◌, List, length, Option, None, Some, Result, Ok, Err}
use Rattle.std.proofs.Common.{refl, sym, ap, subst, inl, inr, ◌∙◌}
use Rattle.std.specs.Prelude.{◌==◌, MatchOption, if◌then◌else◌}
use Rattle.iox_command.specs.DomainValues.declared.backpressure.BackpressureDecision.{BackpressureDecision}
use Rattle.iox_command.specs.DomainValues.declared.backpressure.BackpressureInfo.{BackpressureInfo}
use Rattle.iox_command.specs.DomainValues.declared.degradation.DegradationAction.{DegradationAction}
use Rattle.iox_command.specs.DomainValues.declared.degradation.DegradationCause.{DegradationCause}
use Rattle.iox_command.specs.DomainValues.declared.degradation.DegradationInfo.{DegradationInfo}
use Rattle.iox_command.specs.DomainValues.declared.port_error.LoanError.{LoanError}
use Rattle.iox_command.specs.DomainValues.declared.port_error.SendError.{SendError}
use Rattle.iox_command.specs.DomainValues.declared.port_error.SendError.TheVariants as error
use Rattle.iox_command.specs.NegotiateBase.DescribeBase.declared.message_type.MessageTypeDetails.{MessageTypeDetails}
use Rattle.iox_command.specs.declared.command.Command.TheVariants as command
use Rattle.iox_command.specs.declared.reply.Reply.{Reply}
use Rattle.iox_container.specs.NumberTable.{value_at}
use Rattle.iox_delivery.specs.Holding.{publisher_stands, publisher_blocked}
use Rattle.iox_delivery.specs.Publishing.{AfterLoan, changed_at}
use Rattle.iox_delivery.specs.Slices.{SendsValues, WritesAndSends}
use Rattle.iox_delivery.specs.declared.port_id.PortId.{PortId}
use Rattle.iox_domain.specs.AtHomes.{AtDomain}
use Rattle.iox_domain.specs.DomainPorts.Publishers.{port_of}
use Rattle.iox_domain.specs.DomainPorts.declared.meeting.Sent.{Sent}
use Rattle.iox_domain.specs.DomainPorts.declared.publisher_port.PublisherPort.{PublisherPort}
use Rattle.iox_domain.specs.Domains.{in_state}
use Rattle.iox_domain.specs.Handling.{kept_decides, kept_degrades}
use Rattle.iox_domain.specs.Lending.{LoansOne, passes_port}
use Rattle.iox_domain.specs.Ports.{AtPublisher}
use Rattle.iox_domain.specs.PortsPublishing.{is_blocked}
use Rattle.iox_domain.specs.States.{with_ports}
use Rattle.iox_domain.specs.Steps.{LoansBy, SendsBy}
use Rattle.iox_domain.specs.declared.domain.Domain.{Domain}
use Rattle.iox_domain.specs.declared.domain_id.DomainId.{DomainId}
use Rattle.iox_domain.specs.declared.ports.service_ports.ServicePorts.{ServicePorts}
use Rattle.iox_domain_machine.specs.Laws.{Matches}
use Rattle.iox_domain_machine.specs.LendingLaws.{with_values_in}
use Rattle.iox_domain_machine.specs.Naming.{Naming}
use Rattle.iox_domain_machine.specs.SendLaws.{sent_or_skipped}
use Rattle.iox_domain_machine.specs.Services.{those_of}
use Rattle.iox_domain_machine.proofs.AloneDid.{by_option}
use Rattle.iox_domain_machine.proofs.Putting.{put_parts_match}
use Rattle.iox_domain_machine.proofs.PuttingParts.{PutParts, lends_none}
use Rattle.iox_hub_base.specs.AsHome.{hub_ports, with_hub_ports}
use Rattle.iox_hub_base.specs.HomeLaws.{stepped_again}
use Rattle.iox_hub_base.specs.Open.{OpenServices}
use Rattle.iox_hub_base.specs.ServicesAsHome.{domain_at, ports_if}
use Rattle.iox_hub_base.specs.declared.hub.Hub.{Hub}
use Rattle.iox_hub_commands.specs.Calls.{AtPort, Puts, may_lend, ready}
use Rattle.iox_hub_commands.specs.CommandSteps.{publisher_may_degrade, publisher_may_decide}
use Rattle.iox_hub_commands.specs.Grown.{HaveGrown}
use Rattle.iox_hub_commands.specs.Replies.{sent_reply}
use Rattle.iox_hub_commands.specs.Tables.{port_under, lender}
use Rattle.iox_hub_commands.specs.declared.numbered_hub.NumberedHub.{NumberedHub}
use Rattle.iox_hub_commands.specs.declared.ports.made.MadePublisher.{MadePublisher}
use Rattle.iox_hub_machine.specs.Laws.{answered_with}
use Rattle.iox_hub_machine.specs.SendLaws.{PutIsSimulated}
use Rattle.iox_hub_machine.specs.Standing.{PortsStandFor, lent_in, held_in}
use Rattle.iox_hub_machine.proofs.Absent.{no_publisher_goes}
use Rattle.iox_hub_machine.proofs.Amidst.{at_one_skips}
use Rattle.iox_hub_machine.proofs.Deciders.{decides_as, degrades_as}
use Rattle.iox_hub_machine.proofs.Deciding.{DecideAlike, same_ports, at_one_decides}
use Rattle.iox_hub_machine.proofs.GivenUp.{standing}
use Rattle.iox_hub_machine.proofs.Going.{same_stands}
use Rattle.iox_hub_machine.proofs.Housed.{some_ports, found_there, same_publisher_handlers, put_again}
use Rattle.iox_hub_machine.proofs.Known.{sent_so, sent_counts, GoesByNumber, goes_by_number}
use Rattle.iox_hub_machine.proofs.Moving.{IsMatched}
use Rattle.iox_hub_machine.proofs.Renaming.{ports_alone_named}
use Rattle.iox_hub_machine.proofs.Rooming.{roomy_there}
use Rattle.iox_hub_machine.proofs.Turning.{put_alike}
use Rattle.iox_machine.specs.Choices.{Choices}
use Rattle.iox_machine.specs.Ports.{publisher_in, Puts as MachinePuts}
use Rattle.iox_machine.proofs.Shorthands.{IsSkipped}
use Rattle.iox_machine.specs.Service.{Service, Publisher}
use Rattle.iox_machine.specs.State.{State, AtOne}
use Rattle.iox_machine.specs.Table.{at}

-- the machine puts
abbrev PutsAt : {T : Type 0} → Choices T → ℕ → List T → Publisher T → Service T → Reply T → Service T → Type 0
PutsAt choices number values one service answered after =
    MatchOption one.blocked (MachinePuts choices number values one service answered after) (λ send. IsSkipped service answered after)

putting_alike : {T : Type 0} (choices : Choices T) (number : ℕ) (values : List T) (state new : State T) (answer : Reply T)
    → AtOne (publisher_in number) (PutsAt choices number values) state answer new → DecideAlike state.services new.services
putting_alike {T} choices number values state new answer did =
    at_one_decides (publisher_in number) (PutsAt choices number values) state new answer
    (λ one service after is does.
    elim (by_option one.blocked (MachinePuts choices number values one service answer after) (λ send. IsSkipped service answer after)
    does) [
      | inl puts ↦ put_alike choices number values one service after answer (standing (at number service.publishers) one is) puts.1
      | inr skipped ↦ same_ports service after (ap (λ (it : Service T). it.publishers) skipped.2.1)
          (ap (λ (it : Service T). it.subscribers) skipped.2.1)
    ]) did

module _ {T U B D : Type 0} (degrades : B → DegradationCause → DegradationInfo → DegradationAction → Type 0)
    (decides : B → BackpressureInfo → BackpressureDecision → Type 0) (port : PortId) (values : List T) (ports : ServicePorts T U)
    (old : Hub T U B D) (found : hub_ports port.domain old ≡ Some ports) where
  abbrev id : DomainId
  id = port.domain

  abbrev may_degrade : DegradationInfo → DegradationAction → Type 0
  may_degrade = publisher_may_degrade degrades id port.number old

  abbrev may_decide : BackpressureInfo → BackpressureDecision → Type 0
  may_decide = publisher_may_decide decides id port.number old

  its : (domain : Domain T U B D) × (domain_at id old.services ≡ Some domain) × (domain.state.ports ≡ ports)
  its = some_ports (domain_at id old.services) ports found

  put_is_found : (after : ServicePorts T U) → hub_ports id (with_hub_ports id after old) ≡ Some after
  put_is_found after = ap ports_if (found_there id after old its.0 its.1)

  -- what is put twice is as it was put last
  put_over : (one other : ServicePorts T U) → with_hub_ports id other (with_hub_ports id one old) ≡ with_hub_ports id other old
  put_over one other = ap (λ (services : OpenServices T U B D). record old { services = services })
      (stepped_again id (in_state (with_ports one)) (in_state (with_ports other)) old.services)

  -- the ports of the domain are others, after what a publisher puts
  abbrev PutSo : Option (Result Sent SendError) → Hub T U B D → Type 0
  PutSo sent new = (after : ServicePorts T U) × PutParts may_degrade may_decide port.number values ports sent after
      × (new ≡ with_hub_ports id after old)

  abbrev LoansHere : Option (Result ℕ LoanError) → ServicePorts T U → Type 0
  LoansHere answer made = LoansBy port.number (length values) (length values) ports answer made

  module _ (slot : ℕ) (made : ServicePorts T U) (loans : LoansHere (Some (Ok slot)) made) (middle : Hub T U B D)
      (is_middle : middle ≡ with_hub_ports id made old) where
    abbrev written : ServicePorts T U
    written = with_values_in port.number slot values made

    abbrev with_written : Hub T U B D
    with_written = with_hub_ports id written old

    written_is : (held : Hub T U B D)
        → held ≡ changed_at (λ after. with_hub_ports id after middle) (with_values_in port.number slot values) (hub_ports id middle) middle
        → held ≡ with_written
    written_is held writes =
        writes
        ∙ ap (λ (it : Hub T U B D). changed_at (λ after. with_hub_ports id after it) (with_values_in port.number slot values)
        (hub_ports id it) it) is_middle
        ∙ ap (λ (it : Option (ServicePorts T U)). changed_at (λ after. with_hub_ports id after (with_hub_ports id made old))
        (with_values_in port.number slot values) it (with_hub_ports id made old)) (put_is_found made)
        ∙ put_over made written

    -- the send, wherever the ports are
    abbrev SendsIn : (sent : Result Sent SendError) → Hub T U B D → Hub T U B D → Option (ServicePorts T U) → Type 0
    SendsIn sent new it there = AtDomain (λ after. with_hub_ports id after it)
        (SendsBy (publisher_may_degrade degrades id port.number it) (publisher_may_decide decides id port.number it) port.number slot) there
        it (Some sent) new

    written_and_sent : (sent : Result Sent SendError) (new : Hub T U B D)
        → WritesAndSends hub_ports with_hub_ports (publisher_may_degrade degrades) (publisher_may_decide decides) port values slot middle
        sent new
        → PutSo (Some sent) new
    written_and_sent sent new (held, writes, ready_to_go, sends) =
        let (after, does, is_new) = subst (SendsIn sent new with_written) (put_is_found written)
        (subst (λ (it : Hub T U B D). SendsIn sent new it (hub_ports id it)) (written_is held writes) sends) in (
          after,
          inr (inr (
            slot,
            made,
            sent,
            refl,
            loans,
            subst (λ (it : Option B). SendsBy (kept_degrades degrades it) (kept_decides decides it) port.number slot written (Some sent)
                after) (same_publisher_handlers id written old its.0 its.1 id port.number) does,
          )),
          is_new ∙ put_over written after,
        )

  after_loan : (lent : Result ℕ LoanError) (made : ServicePorts T U) → LoansHere (Some lent) made → (middle : Hub T U B D)
      → middle ≡ with_hub_ports id made old → (sent : Result Sent SendError) (new : Hub T U B D)
      → AfterLoan (λ why. Err (error.LoanError why))
      (WritesAndSends hub_ports with_hub_ports (publisher_may_degrade degrades) (publisher_may_decide decides) port values) lent middle
      sent new
      → PutSo (Some sent) new
  after_loan (Err why) made loans middle is_middle sent new (told, same) =
      (made, inr (inl (why, ap (λ (it : Result Sent SendError). Some it) told, loans)), same ∙ is_middle)
  after_loan (Ok slot) made loans middle is_middle sent new goes = written_and_sent slot made loans middle is_middle sent new goes

  sends_values : (sent : Result Sent SendError) (new : Hub T U B D)
      → SendsValues hub_ports with_hub_ports (publisher_may_degrade degrades) (publisher_may_decide decides) port values old sent new
      → PutSo (Some sent) new
  sends_values sent new (lent, middle, lends, goes) =
      let (made, loans, is_middle) = subst (λ (it : Option (ServicePorts T U)). AtDomain (λ after. with_hub_ports id after old)
      (LoansBy port.number (length values) (length values)) it old (Some lent) middle) found lends in
      after_loan lent made loans middle is_middle sent new goes

  -- one that may not lend doesn't
  none_lent : (one : Option (PublisherPort T U)) → (passes_port (λ it. it.stands) one && not (passes_port is_blocked one)) ≡ false
      → AtPublisher port.number (LoansOne (length values) (length values)) one ports None ports
  none_lent None busy = (refl, refl)
  none_lent (Some one) busy =
      (one, lends_none one.stands (is_blocked one) (length values) one refl refl busy, refl)

  pub put_so : (may : Bool) → may_lend hub_ports port old ≡ may → (sent : Option (Result Sent SendError)) (new : Hub T U B D)
      → AtPort (Puts hub_ports with_hub_ports (publisher_may_degrade degrades) (publisher_may_decide decides) values)
      (if may then Some port else None) old sent new
      → PutSo sent new
  put_so true may sent new (answer, sends, told) =
      subst (λ (it : Option (Result Sent SendError)). PutSo it new) (sym told) (sends_values answer new sends)
  put_so false busy sent new (told, same) = (
    ports,
    inl (
      told,
      refl,
      none_lent (port_of port.number ports.publishers)
          (sym (ap (λ (it : Option (ServicePorts T U)). publisher_stands port.number it && not (publisher_blocked port.number it)) found)
          ∙ busy),
    ),
    same ∙ sym (put_again id ports old found),
  )

module _ {T U B D : Type 0} (choices : Choices T) (is_default_header : U → Type 0)
    (degrades : B → DegradationCause → DegradationInfo → DegradationAction → Type 0)
    (decides : B → BackpressureInfo → BackpressureDecision → Type 0)
    (reader_degrades : D → DegradationCause → DegradationInfo → DegradationAction → Type 0) where
  module _ (types : MessageTypeDetails) (naming : ℕ → Naming) (order : List (ℕ × ServicePorts T U)) (old new : NumberedHub T U B D)
      (state : State T) (stands : PortsStandFor choices degrades decides reader_degrades naming order old state) (number : ℕ)
      (values : List T)
      (grown : HaveGrown old.hub.services.domains) (same : new ≡ record old { hub = new.hub }) where
    abbrev Replied : Option (Result Sent SendError) → Type 0
    Replied sent = IsMatched degrades decides reader_degrades types choices naming order old state (command.Put number values)
        (sent_reply sent) stands new

    put_there : (sent : Option (Result Sent SendError)) (port : PortId) → port_under (value_at old.made.publishers number) ≡ Some port
        → AtPort (Puts hub_ports with_hub_ports (publisher_may_degrade degrades) (publisher_may_decide decides) values)
        (ready hub_ports (Some port) old.hub) old.hub sent new.hub
        → Replied sent
    put_there sent port there puts =
        let goes : GoesByNumber choices degrades decides reader_degrades naming order old state stands number port =
        goes_by_number choices degrades decides reader_degrades naming order old state stands number port there in
        let it = port.domain in
        let names = naming it.service in
        let lent = those_of it.service (lent_in old.made) in
        let held = those_of it.service (held_in old.made) in
        let buffer = old.hub.expired_connection_buffer in
        let (after, parts, changes) = put_so degrades decides port values goes.ports old.hub goes.found (may_lend hub_ports port old.hub)
        refl sent new.hub puts in
        ports_alone_named degrades decides reader_degrades types choices naming order old new state (command.Put number values)
        (sent_reply sent) it goes.ports after stands goes.found (same ∙ ap (λ (hub : Hub T U B D). record old { hub = hub }) changes)
        (sent_counts T sent state.made) (port.number, goes.named, λ zero. goes.some (goes.named ∙ zero))
        (λ first service last are its.
        let (message, reader, slot, tells, matched) = put_parts_match types choices buffer
        (publisher_may_degrade degrades it port.number old.hub)
        (publisher_may_decide decides it port.number old.hub) names lent held goes.ports service state port.number values its
        (roomy_there it goes.ports old.hub grown goes.found) goes.some
        (decides_as choices degrades decides reader_degrades naming order old state stands it goes.ports goes.found first service last are
        its
        port.number)
        (degrades_as choices degrades decides reader_degrades naming order old state stands it goes.ports goes.found first service last
        are its
        port.number) sent after parts in
        let names_then : Naming = record names { message = message; reader = reader } in (
          names_then,
          refl,
          refl,
          subst (λ (told : Reply T). Matches T U choices types buffer (command.Put number values) told state service names_then lent
              held after) (sent_so sent)
              (subst (λ (name : ℕ). Matches T U choices types buffer (command.Put name values) (sent_or_skipped sent) state service
              names_then lent held after) goes.named matched),
        ))
        (λ services did. putting_alike choices number values state (answered_with (sent_reply sent) services state) (sent_reply sent) did)

    put_by : (sent : Option (Result Sent SendError)) (found : Option MadePublisher) → value_at old.made.publishers number ≡ found
        → AtPort (Puts hub_ports with_hub_ports (publisher_may_degrade degrades) (publisher_may_decide decides) values)
        (ready hub_ports (lender (length values) found) old.hub) old.hub sent new.hub
        → Replied sent
    put_by sent None none (nothing, changes) =
        subst Replied (sym nothing) (
          naming,
          order,
          state.services,
          refl,
          at_one_skips (publisher_in number) (PutsAt choices number values) state
              (no_publisher_goes choices degrades decides reader_degrades naming order old state stands number (ap port_under none)),
          same_stands choices degrades decides reader_degrades naming order old state stands number new changes
              (ap (λ (it : NumberedHub T U B D). it.made) same),
        )
    put_by sent (Some made) there puts =
        put_there sent made.port (ap port_under there)
        (subst (λ (it : Option PortId). AtPort (Puts hub_ports with_hub_ports (publisher_may_degrade degrades)
        (publisher_may_decide decides)
        values) (ready hub_ports it old.hub) old.hub sent new.hub)
        (ap (λ (slices : Bool). cond (slices || (length values == 1)) (Some made.port) None) (stands.slices number made there)) puts)

  pub put_simulated : PutIsSimulated choices is_default_header degrades decides reader_degrades
  put_simulated number values old grown payload user_header types fixed fixed_reader naming order new state answer stands
      ((sent, puts, told), same) =
      subst (λ (it : Reply T). IsMatched degrades decides reader_degrades types choices naming order old state
      (command.Put number values) it stands new) (sym told)
      (put_by types naming order old new state stands number values grown same sent (value_at old.made.publishers number) refl puts)
