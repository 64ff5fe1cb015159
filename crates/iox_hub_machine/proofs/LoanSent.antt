-- Loans of a hub are sent.
use Rattle.std.proofs.Common.{◌≡◌, ℕ, List, Option, None, Some, Result, refl, sym, ap, subst, ◌∙◌}
use Rattle.std.specs.Prelude.{is_some}
use Rattle.iox_command.specs.DomainValues.declared.backpressure.BackpressureDecision.{BackpressureDecision}
use Rattle.iox_command.specs.DomainValues.declared.backpressure.BackpressureInfo.{BackpressureInfo}
use Rattle.iox_command.specs.DomainValues.declared.degradation.DegradationAction.{DegradationAction}
use Rattle.iox_command.specs.DomainValues.declared.degradation.DegradationCause.{DegradationCause}
use Rattle.iox_command.specs.DomainValues.declared.degradation.DegradationInfo.{DegradationInfo}
use Rattle.iox_command.specs.DomainValues.declared.port_error.SendError.{SendError}
use Rattle.iox_command.specs.NegotiateBase.DescribeBase.declared.message_type.MessageTypeDetails.{MessageTypeDetails}
use Rattle.iox_command.specs.declared.command.Command.TheVariants as command
use Rattle.iox_command.specs.declared.reply.Reply.{Reply}
use Rattle.iox_container.specs.NumberTable.{value_at}
use Rattle.iox_domain.specs.AtHomes.{AtDomain}
use Rattle.iox_domain.specs.DomainPorts.declared.attached.Taken.{Taken}
use Rattle.iox_domain.specs.DomainPorts.declared.meeting.Sent.{Sent}
use Rattle.iox_domain.specs.Steps.{SendsBy}
use Rattle.iox_domain.specs.declared.domain_id.DomainId.{DomainId}
use Rattle.iox_domain.specs.declared.ports.service_ports.ServicePorts.{ServicePorts}
use Rattle.iox_domain_machine.specs.Laws.{Matches}
use Rattle.iox_domain_machine.specs.Naming.{Naming, with_name}
use Rattle.iox_domain_machine.specs.SendLaws.{sent_or_skipped, lent_after_send}
use Rattle.iox_domain_machine.specs.ServiceLaws.{ChangesAt}
use Rattle.iox_domain_machine.specs.Services.{those_of}
use Rattle.iox_domain_machine.specs.Tables.{LentSlot}
use Rattle.iox_domain_machine.proofs.SendingLoan.{send_matches}
use Rattle.iox_hub_base.specs.AsHome.{hub_ports, with_hub_ports}
use Rattle.iox_hub_base.specs.declared.hub.Hub.{Hub}
use Rattle.iox_hub_commands.specs.CommandSteps.{publisher_may_degrade, publisher_may_decide}
use Rattle.iox_hub_commands.specs.Grown.{HaveGrown}
use Rattle.iox_hub_commands.specs.Loans.{SendsUnder}
use Rattle.iox_hub_commands.specs.Numbering.{removed_if}
use Rattle.iox_hub_commands.specs.Replies.{sent_reply}
use Rattle.iox_hub_commands.specs.Tables.{without_loan}
use Rattle.iox_hub_commands.specs.declared.numbered_hub.NumberedHub.{NumberedHub}
use Rattle.iox_hub_commands.specs.declared.ports.made.Made.{Made}
use Rattle.iox_hub_commands.specs.declared.ports.made.MadeLoan.{MadeLoan}
use Rattle.iox_hub_commands.specs.declared.ports.made.MadeSample.{MadeSample}
use Rattle.iox_hub_machine.specs.Laws.{answered_with}
use Rattle.iox_hub_machine.specs.SendLaws.{SendIsSimulated}
use Rattle.iox_hub_machine.specs.Standing.{PortsStandFor, AreAsMany, lent_slot, lent_in, held_in}
use Rattle.iox_hub_machine.proofs.Amidst.{at_one_skips}
use Rattle.iox_hub_machine.proofs.Deciders.{decides_as, degrades_as}
use Rattle.iox_hub_machine.proofs.Deciding.{DecideAlike, at_one_decides}
use Rattle.iox_hub_machine.proofs.Going.{loan_goes, no_loan_goes, same_stands}
use Rattle.iox_hub_machine.proofs.Known.{sent_so, sent_counts}
use Rattle.iox_hub_machine.proofs.Lessened.{one_removed, its_removed, changes_less, went_so}
use Rattle.iox_hub_machine.proofs.Moving.{IsMatched}
use Rattle.iox_hub_machine.proofs.Renaming.{machine_does_named}
use Rattle.iox_hub_machine.proofs.Rooming.{roomy_there}
use Rattle.iox_hub_machine.proofs.Turning.{sends_loan_alike}
use Rattle.iox_machine.specs.Choices.{Choices}
use Rattle.iox_machine.specs.Ports.{SendsLoan}
use Rattle.iox_machine.specs.Service.{Service}
use Rattle.iox_machine.specs.State.{State, AtOne}
use Rattle.iox_machine.specs.Table.{at, removed}

sending_alike : {T : Type 0} (choices : Choices T) (loan : ℕ) (state new : State T) (answer : Reply T)
    → AtOne (λ (one : Service T). at loan one.loans) (SendsLoan choices loan) state answer new → DecideAlike state.services new.services
sending_alike {T} choices loan state new answer did =
    at_one_decides (λ (one : Service T). at loan one.loans) (SendsLoan choices loan) state new answer
    (λ one service after is does. sends_loan_alike choices loan one service after answer does) did

module _ {T U B D : Type 0} (choices : Choices T) (is_default_header : U → Type 0)
    (degrades : B → DegradationCause → DegradationInfo → DegradationAction → Type 0)
    (decides : B → BackpressureInfo → BackpressureDecision → Type 0)
    (reader_degrades : D → DegradationCause → DegradationInfo → DegradationAction → Type 0) where
  module _ (types : MessageTypeDetails) (naming : ℕ → Naming) (order : List (ℕ × ServicePorts T U)) (old new : NumberedHub T U B D)
      (state : State T) (stands : PortsStandFor choices degrades decides reader_degrades naming order old state) (loan : ℕ)
      (grown : HaveGrown old.hub.services.domains) where
    abbrev Replied : Option (Result Sent SendError) → NumberedHub T U B D → Type 0
    Replied sent later = IsMatched degrades decides reader_degrades types choices naming order old state (command.Send loan)
        (sent_reply sent) stands later

    -- the loan's number is spent
    one_less : lent_in (without_loan loan old.made) ≡ removed loan (lent_in old.made)
    one_less = one_removed loan lent_slot old.made.loans.entries (stands.domains.loans loan)

    module _ (made : MadeLoan) (there : value_at old.made.loans loan ≡ Some made) where
      abbrev id : DomainId
      id = made.port.domain

      abbrev out : LentSlot
      out = (lent_slot made).1

      -- What goes by numbers after a send: the loan no longer, unless the send was skipped.
      record IsSpent (sent : Option (Result Sent SendError)) (then : Made) : Type 0 where
        lent : those_of id.service (lent_in then) ≡ lent_after_send loan sent (those_of id.service (lent_in old.made))
        changes : ChangesAt id.service (lent_in old.made) (lent_in then)
        held : held_in then ≡ held_in old.made
        publishers : then.publishers.entries ≡ old.made.publishers.entries
        subscribers : then.subscribers.entries ≡ old.made.subscribers.entries
        numbers : AreAsMany then state.made
        loans : (number : ℕ) (one : MadeLoan) → value_at then.loans number ≡ Some one → value_at old.made.loans number ≡ Some one
        samples : (number : ℕ) (one : MadeSample) → value_at then.samples number ≡ Some one → value_at old.made.samples number ≡ Some one

      is_spent : (sent : Option (Result Sent SendError)) → at loan (lent_in old.made) ≡ Some (id.service, out)
          → IsSpent sent (removed_if (is_some sent) (without_loan loan) old.made)
      is_spent None goes = record {
        lent = refl;
        changes = (λ other off. refl, stands.domains.loans);
        held = refl;
        publishers = refl;
        subscribers = refl;
        numbers = stands.numbers;
        loans = λ number one was. was;
        samples = λ number one was. was;
      }
      is_spent (Some result) goes = record {
        lent = ap (those_of id.service) one_less ∙ its_removed loan id.service (lent_in old.made);
        changes = subst (λ (it : List (ℕ × (ℕ × LentSlot))). ChangesAt id.service (lent_in old.made) it) (sym one_less)
            (changes_less loan id.service out (lent_in old.made) stands.domains.loans goes);
        held = refl;
        publishers = refl;
        subscribers = refl;
        numbers = record {
          publishers = stands.numbers.publishers;
          subscribers = stands.numbers.subscribers;
          loans = stands.numbers.loans;
          samples = stands.numbers.samples;
        };
        loans = λ number one was. went_so lent_slot loan number one old.made.loans (stands.domains.loans loan) was;
        samples = λ number one was. was;
      }

      module _ (ports after : ServicePorts T U) (found : hub_ports id old.hub ≡ Some ports)
          (goes : at loan (lent_in old.made) ≡ Some (id.service, out))
          (mine : at loan (those_of id.service (lent_in old.made)) ≡ Some out) (sent : Option (Result Sent SendError))
          (then : Made) (spent : IsSpent sent then)
          (does : SendsBy (publisher_may_degrade degrades id made.port.number old.hub)
          (publisher_may_decide decides id made.port.number old.hub) made.port.number made.slot ports sent after) where
        abbrev later : NumberedHub T U B D
        later = record new { hub = with_hub_ports id after old.hub; made = then }

        send_there : Replied sent later
        send_there =
            let names = naming id.service in
            let lent = those_of id.service (lent_in old.made) in
            let held = those_of id.service (held_in old.made) in
            let buffer = old.hub.expired_connection_buffer in
            machine_does_named degrades decides reader_degrades types choices naming order old later state (command.Send loan)
            (sent_reply sent) id ports after stands found refl (out, goes) spent.changes
            (subst (λ (it : List (ℕ × (ℕ × Taken))). ChangesAt id.service (held_in old.made) it) (sym spent.held)
            (λ other off. refl, stands.domains.samples))
            (λ first service last are its.
            let sends = send_matches T U choices (publisher_may_decide decides id made.port.number old.hub)
            (publisher_may_degrade degrades id made.port.number old.hub) types buffer names lent held ports after service state loan out
            sent its
            (roomy_there id ports old.hub grown found) mine
            (decides_as choices degrades decides reader_degrades naming order old state stands id ports found first service last are its
            made.port.number)
            (degrades_as choices degrades decides reader_degrades naming order old state stands id ports found first service last are its
            made.port.number) does in
            let names_then : Naming = record names { reader = with_name made.port.number sends.0 names.reader } in (
              names_then,
              refl,
              refl,
              subst (λ (it : Reply T). Matches T U choices types buffer (command.Send loan) it state service names_then
                  (those_of id.service (lent_in then)) (those_of id.service (held_in then)) after) (sent_so sent)
                  (subst (λ (it : List (ℕ × LentSlot)). Matches T U choices types buffer (command.Send loan)
                  (sent_or_skipped sent) state service names_then it (those_of id.service (held_in then)) after) (sym spent.lent)
                  (subst (λ (it : List (ℕ × (ℕ × Taken))). Matches T U choices types buffer (command.Send loan)
                  (sent_or_skipped sent) state service names_then (lent_after_send loan sent lent) (those_of id.service it) after)
                  (sym spent.held) sends.1)),
            ))
            (λ services did. sending_alike choices loan state (answered_with (sent_reply sent) services state) (sent_reply sent) did)
            spent.publishers spent.subscribers (subst (AreAsMany then) (sym (sent_counts T sent state.made)) spent.numbers)
            (λ number one was. stands.loans number one (spent.loans number one was))
            (λ number one was. stands.samples number one (spent.samples number one was))

    send_by : (sent : Option (Result Sent SendError)) (found : Option MadeLoan) → value_at old.made.loans loan ≡ found
        → SendsUnder hub_ports with_hub_ports (publisher_may_degrade degrades) (publisher_may_decide decides) found old.hub sent new.hub
        → new.made ≡ removed_if (is_some sent) (without_loan loan) old.made → Replied sent new
    send_by sent None none (nothing, changes) less =
        subst (λ (it : Option (Result Sent SendError)). Replied it new) (sym nothing) (
          naming,
          order,
          state.services,
          refl,
          at_one_skips (λ (service : Service T). at loan service.loans) (SendsLoan choices loan) state
              (no_loan_goes choices degrades decides reader_degrades naming order old state stands loan none),
          same_stands choices degrades decides reader_degrades naming order old state stands loan new changes
              (less ∙ ap (λ (it : Option (Result Sent SendError)). removed_if (is_some it) (without_loan loan) old.made) nothing),
        )
    send_by sent (Some made) there sends less =
        let goes = loan_goes choices degrades decides reader_degrades naming order old state stands loan made there in
        let it = made.port.domain in
        let (after, does, changes) = subst (λ (found : Option (ServicePorts T U)). AtDomain
        (λ (one : ServicePorts T U). with_hub_ports it one old.hub)
        (SendsBy (publisher_may_degrade degrades it made.port.number old.hub) (publisher_may_decide decides it made.port.number old.hub)
        made.port.number made.slot) found old.hub sent new.hub) goes.found sends in
        subst (λ (hub : Hub T U B D). Replied sent (record new { hub = hub })) (sym changes)
        (subst (λ (one : Made). Replied sent (record new { hub = with_hub_ports it after old.hub; made = one })) (sym less)
        (send_there made there goes.ports after goes.found goes.goes goes.mine sent
        (removed_if (is_some sent) (without_loan loan) old.made) (is_spent made there sent goes.goes) does))

  pub send_simulated : SendIsSimulated choices is_default_header degrades decides reader_degrades
  send_simulated loan old grown payload user_header types fixed fixed_reader naming order new state answer stands
      ((sent, sends, less, told), same) =
      subst (λ (it : Reply T). IsMatched degrades decides reader_degrades types choices naming order old state (command.Send loan) it
      stands new) (sym told)
      (send_by types naming order old new state stands loan grown sent (value_at old.made.loans loan) refl sends less)
