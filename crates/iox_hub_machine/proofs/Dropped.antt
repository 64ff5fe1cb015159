-- Loans of a hub are given up.
use Rattle.std.proofs.Common.{◌≡◌, ℕ, Bool, true, false, List, Option, None, Some, refl, sym, ap, subst, ◌∙◌, true≢false}
use Rattle.std.specs.Prelude.{is_some, if◌then◌else◌}
use Rattle.iox_command.specs.DomainValues.declared.backpressure.BackpressureDecision.{BackpressureDecision}
use Rattle.iox_command.specs.DomainValues.declared.backpressure.BackpressureInfo.{BackpressureInfo}
use Rattle.iox_command.specs.DomainValues.declared.degradation.DegradationAction.{DegradationAction}
use Rattle.iox_command.specs.DomainValues.declared.degradation.DegradationCause.{DegradationCause}
use Rattle.iox_command.specs.DomainValues.declared.degradation.DegradationInfo.{DegradationInfo}
use Rattle.iox_command.specs.NegotiateBase.DescribeBase.declared.message_type.MessageTypeDetails.{MessageTypeDetails}
use Rattle.iox_command.specs.declared.command.Command.TheVariants as command
use Rattle.iox_command.specs.declared.reply.Reply.{Reply}
use Rattle.iox_command.specs.declared.reply.Reply.TheVariants as reply
use Rattle.iox_container.specs.NumberTable.{value_at}
use Rattle.iox_delivery.specs.Holding.{loan_found as loan_there}
use Rattle.iox_domain.specs.Lending.{gave_up_in}
use Rattle.iox_domain.specs.declared.domain_id.DomainId.{DomainId}
use Rattle.iox_domain.specs.declared.ports.service_ports.ServicePorts.{ServicePorts}
use Rattle.iox_domain_machine.specs.Laws.{Matches, done_or_skipped}
use Rattle.iox_domain_machine.specs.Naming.{Naming, with_name}
use Rattle.iox_domain_machine.specs.ServiceLaws.{ChangesAt}
use Rattle.iox_domain_machine.specs.Services.{those_of}
use Rattle.iox_domain_machine.specs.Tables.{LentSlot}
use Rattle.iox_domain_machine.proofs.Dropping.{drop_matches, is_given_up}
use Rattle.iox_domain_machine.proofs.Writing.{loan_found}
use Rattle.iox_hub_base.specs.AsHome.{hub_ports, with_hub_ports}
use Rattle.iox_hub_base.specs.declared.hub.Hub.{Hub}
use Rattle.iox_hub_commands.specs.Grown.{HaveGrown}
use Rattle.iox_hub_commands.specs.Loans.{loan_under, changed_under}
use Rattle.iox_hub_commands.specs.Numbering.{removed_if}
use Rattle.iox_hub_commands.specs.Replies.{done_reply}
use Rattle.iox_hub_commands.specs.Tables.{without_loan}
use Rattle.iox_hub_commands.specs.declared.numbered_hub.NumberedHub.{NumberedHub}
use Rattle.iox_hub_commands.specs.declared.ports.made.Made.{Made}
use Rattle.iox_hub_commands.specs.declared.ports.made.MadeLoan.{MadeLoan}
use Rattle.iox_hub_machine.specs.Laws.{answered_with, DropIsSimulated}
use Rattle.iox_hub_machine.specs.Standing.{PortsStandFor, lent_slot, lent_in, held_in}
use Rattle.iox_hub_machine.proofs.Amidst.{at_one_skips}
use Rattle.iox_hub_machine.proofs.Deciding.{DecideAlike, same_ports, at_one_decides}
use Rattle.iox_hub_machine.proofs.Going.{loan_goes, no_loan_goes, same_stands, some_service}
use Rattle.iox_hub_machine.proofs.Lessened.{one_removed, its_removed, changes_less, went_so}
use Rattle.iox_hub_machine.proofs.Loans.{changed_so}
use Rattle.iox_hub_machine.proofs.Moving.{IsMatched, machine_does}
use Rattle.iox_hub_machine.proofs.Rooming.{roomy_there}
use Rattle.iox_machine.specs.Choices.{Choices}
use Rattle.iox_machine.specs.Message as machine
use Rattle.iox_machine.specs.Service.{Service}
use Rattle.iox_machine.specs.State.{State, AtOne}
use Rattle.iox_machine.specs.Table.{at, removed}

-- the machine gives a loan up
abbrev GivesUp : {T : Type 0} → ℕ → machine.Loan T → Service T → Reply T → Service T → Type 0
GivesUp loan one service answer after = (answer ≡ reply.Done) × (after ≡ record service { loans = removed loan service.loans })

giving_up_alike : {T : Type 0} (loan : ℕ) (state new : State T) (answer : Reply T)
    → AtOne (λ (one : Service T). at loan one.loans) (GivesUp loan) state answer new → DecideAlike state.services new.services
giving_up_alike {T} loan state new answer did =
    at_one_decides (λ (one : Service T). at loan one.loans) (GivesUp loan) state new answer
    (λ one service after is does.
    same_ports service after (ap (λ (it : Service T). it.publishers) does.1) (ap (λ (it : Service T). it.subscribers) does.1)) did

module _ {T U B D : Type 0} (choices : Choices T) (is_default_header : U → Type 0)
    (degrades : B → DegradationCause → DegradationInfo → DegradationAction → Type 0)
    (decides : B → BackpressureInfo → BackpressureDecision → Type 0)
    (reader_degrades : D → DegradationCause → DegradationInfo → DegradationAction → Type 0) where
  module _ (types : MessageTypeDetails) (naming : ℕ → Naming) (order : List (ℕ × ServicePorts T U)) (old new : NumberedHub T U B D)
      (state : State T)
      (stands : PortsStandFor choices degrades decides reader_degrades naming order old state) (loan : ℕ)
      (grown : HaveGrown old.hub.services.domains) where
    abbrev Result : Reply T → NumberedHub T U B D → Type 0
    Result answer later = IsMatched degrades decides reader_degrades types choices naming order old state (command.Drop loan) answer
        stands
        later

    abbrev later : DomainId → ServicePorts T U → NumberedHub T U B D
    later id after = record new { hub = with_hub_ports id after old.hub; made = without_loan loan old.made }

    -- the loan's number is spent
    one_less : lent_in (without_loan loan old.made) ≡ removed loan (lent_in old.made)
    one_less = one_removed loan lent_slot old.made.loans.entries (stands.domains.loans loan)

    module _ (made : MadeLoan) (there : value_at old.made.loans loan ≡ Some made) where
      abbrev id : DomainId
      id = made.port.domain

      abbrev out : LentSlot
      out = (lent_slot made).1

      drop_there : (ports : ServicePorts T U) → hub_ports id old.hub ≡ Some ports → at loan (lent_in old.made) ≡ Some (id.service, out)
          → at loan (those_of id.service (lent_in old.made)) ≡ Some out
          → Result reply.Done (later id (gave_up_in made.port.number made.slot ports))
      drop_there ports found goes mine =
          let after : ServicePorts T U = gave_up_in made.port.number made.slot ports in
          let (order_then, services, keys, does, stands_then)
          = machine_does degrades decides reader_degrades types choices naming order old (later id after)
          state
          (command.Drop loan) reply.Done id ports after (naming id.service) stands found refl refl refl (out, goes)
          (subst (λ (it : List (ℕ × (ℕ × LentSlot))). ChangesAt id.service (lent_in old.made) it) (sym one_less)
          (changes_less loan id.service out (lent_in old.made) stands.domains.loans goes))
          (λ other off. refl, stands.domains.samples)
          (λ first service last are its.
          let names = naming id.service in
          let lent = those_of id.service (lent_in old.made) in
          let held = those_of id.service (held_in old.made) in
          let buffer = old.hub.expired_connection_buffer in
          subst (λ (it : List (ℕ × LentSlot)). Matches T U choices types buffer (command.Drop loan) reply.Done state service names it
          held
          after)
          (sym (ap (those_of id.service) one_less ∙ its_removed loan id.service (lent_in old.made)))
          (subst (λ (done : Bool). Matches T U choices types buffer (command.Drop loan) (done_or_skipped done) state service names
          (removed loan lent) held after)
          (is_given_up names lent held buffer ports service loan out its mine)
          (drop_matches T U choices types buffer names lent held ports service state loan out its
          (roomy_there id ports old.hub grown found).sound mine)))
          (λ services did. giving_up_alike loan state (answered_with reply.Done services state) reply.Done did)
          refl refl
          (record {
            publishers = stands.numbers.publishers;
            subscribers = stands.numbers.subscribers;
            loans = stands.numbers.loans;
            samples = stands.numbers.samples;
          })
          (λ number one was. stands.loans number one (went_so lent_slot loan number one old.made.loans (stands.domains.loans loan) was))
          stands.samples in
          (with_name id.service (naming id.service) naming, order_then, services, keys, does, stands_then)

      -- the loan is there
      pub is_out : (ports : ServicePorts T U) → hub_ports id old.hub ≡ Some ports → at loan (those_of id.service (lent_in old.made))
          ≡ Some out
          → is_some (loan_under hub_ports (Some made) old.hub) ≡ true
      is_out ports found mine =
          let (service, its) = some_service choices degrades decides reader_degrades naming order old state stands id ports found in
          ap (λ (it : Option (ServicePorts T U)). is_some (loan_there made.port.number made.slot it)) found
          ∙ ap is_some (loan_found (naming id.service) (those_of id.service (lent_in old.made)) (those_of id.service (held_in old.made))
          old.hub.expired_connection_buffer ports service loan out its mine)

    drop_by : (done : Bool) (found : Option MadeLoan) → value_at old.made.loans loan ≡ found
        → done ≡ is_some (loan_under hub_ports found old.hub)
        → new.hub ≡ (if done then changed_under hub_ports with_hub_ports gave_up_in found old.hub else old.hub)
        → new.made ≡ removed_if done (without_loan loan) old.made → Result (done_reply done) new
    drop_by true None none is changes less = absurd (true≢false is)
    drop_by false None none is changes less = (
      naming,
      order,
      state.services,
      refl,
      at_one_skips (λ (service : Service T). at loan service.loans) (GivesUp loan) state
          (no_loan_goes choices degrades decides reader_degrades naming order old state stands loan none),
      same_stands choices degrades decides reader_degrades naming order old state stands loan new changes less,
    )
    drop_by false (Some made) there is changes less =
        let goes = loan_goes choices degrades decides reader_degrades naming order old state stands loan made there in
        absurd (true≢false (sym (is ∙ is_out made there goes.ports goes.found goes.mine)))
    drop_by true (Some made) there is changes less =
        let goes = loan_goes choices degrades decides reader_degrades naming order old state stands loan made there in
        subst (λ (it : Hub T U B D). Result reply.Done (record new { hub = it }))
        (sym (changes ∙ changed_so gave_up_in made old.hub goes.ports goes.found true))
        (subst (λ (it : Made). Result reply.Done (record new {
          hub = with_hub_ports made.port.domain (gave_up_in made.port.number made.slot goes.ports) old.hub;
          made = it;
        })) (sym less) (drop_there made there goes.ports goes.found goes.goes goes.mine))

  pub drop_simulated : DropIsSimulated choices is_default_header degrades decides reader_degrades
  drop_simulated loan old grown payload user_header types fixed fixed_reader naming order new state answer stands
      ((done, is, changes, less, told), same) =
      subst (λ (it : Reply T). IsMatched degrades decides reader_degrades types choices naming order old state (command.Drop loan) it
      stands
      new)
      (sym told) (drop_by types naming order old new state stands loan grown done (value_at old.made.loans loan) refl is changes less)
