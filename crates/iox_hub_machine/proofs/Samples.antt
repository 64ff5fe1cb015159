-- Samples of a hub are read, and the numbers of their messages told.
use Rattle.std.proofs.Common.{◌≡◌, ℕ, List, Option, None, Some, refl, sym, ap, subst, ◌∙◌}
use Rattle.std.specs.Global.{Vec}
use Rattle.std.specs.Option.{option_map}
use Rattle.std.specs.Vec.{vec_items}
use Rattle.iox_command.specs.DomainValues.declared.backpressure.BackpressureDecision.{BackpressureDecision}
use Rattle.iox_command.specs.DomainValues.declared.backpressure.BackpressureInfo.{BackpressureInfo}
use Rattle.iox_command.specs.DomainValues.declared.degradation.DegradationAction.{DegradationAction}
use Rattle.iox_command.specs.DomainValues.declared.degradation.DegradationCause.{DegradationCause}
use Rattle.iox_command.specs.DomainValues.declared.degradation.DegradationInfo.{DegradationInfo}
use Rattle.iox_command.specs.NegotiateBase.DescribeBase.declared.message_type.MessageTypeDetails.{MessageTypeDetails}
use Rattle.iox_command.specs.declared.command.Command.TheVariants as command
use Rattle.iox_command.specs.declared.reply.Reply.{Reply}
use Rattle.iox_command.specs.declared.reply.Reply.TheVariants as reply
use Rattle.iox_container.specs.NumberTable.{value_at}
use Rattle.iox_delivery.specs.Holding.{message_found}
use Rattle.iox_domain.specs.DomainPorts.Messages.{Message}
use Rattle.iox_domain.specs.Reading.{sample_in}
use Rattle.iox_domain.specs.declared.domain_id.DomainId.{DomainId}
use Rattle.iox_domain.specs.declared.ports.service_ports.ServicePorts.{ServicePorts}
use Rattle.iox_domain_machine.specs.Laws.{Matches}
use Rattle.iox_domain_machine.specs.Naming.{Naming}
use Rattle.iox_domain_machine.specs.Services.{those_of}
use Rattle.iox_domain_machine.specs.Standing.{StandsFor}
use Rattle.iox_domain_machine.proofs.Found.{same_some, never_some}
use Rattle.iox_domain_machine.proofs.Reading.{read_matches, sequence_matches}
use Rattle.iox_hub_base.specs.AsHome.{hub_ports, with_hub_ports}
use Rattle.iox_hub_base.specs.declared.hub.Hub.{Hub}
use Rattle.iox_hub_commands.specs.Messages.{IsReadReply}
use Rattle.iox_hub_commands.specs.Reading.{sequence_under, values_under}
use Rattle.iox_hub_commands.specs.Replies.{sequence_reply}
use Rattle.iox_hub_commands.specs.declared.numbered_hub.NumberedHub.{NumberedHub}
use Rattle.iox_hub_commands.specs.declared.ports.made.MadeSample.{MadeSample}
use Rattle.iox_hub_machine.specs.Laws.{answered_with, ReadIsSimulated, SequenceIsSimulated}
use Rattle.iox_hub_machine.specs.Standing.{PortsStandFor, held_sample, lent_in, held_in}
use Rattle.iox_hub_machine.proofs.Amidst.{at_one_skips}
use Rattle.iox_hub_machine.proofs.Deciding.{DecideAlike, same_ports, at_one_decides}
use Rattle.iox_hub_machine.proofs.Going.{GoesThere, sample_goes, no_sample_goes, same_stands}
use Rattle.iox_hub_machine.proofs.Housed.{put_again}
use Rattle.iox_hub_machine.proofs.Moving.{IsMatched, ports_alone}
use Rattle.iox_machine.specs.Choices.{Choices}
use Rattle.iox_machine.specs.Message as machine
use Rattle.iox_machine.specs.Service.{Service}
use Rattle.iox_machine.specs.State.{State, AtOne}
use Rattle.iox_machine.specs.Table.{at}

-- the machine reads a sample
abbrev Reads : {T : Type 0} → machine.Sample T → Service T → Reply T → Service T → Type 0
Reads {T} one service answer after =
    (values : Vec T) × (vec_items values ≡ one.message.values) × (answer ≡ reply.Values values) × (after ≡ service)

reading_alike : {T : Type 0} (sample : ℕ) (state new : State T) (answer : Reply T)
    → AtOne (λ (one : Service T). at sample one.samples) Reads state answer new → DecideAlike state.services new.services
reading_alike {T} sample state new answer did =
    at_one_decides (λ (one : Service T). at sample one.samples) Reads state new answer
    (λ one service after is does.
    same_ports service after (ap (λ (it : Service T). it.publishers) does.3) (ap (λ (it : Service T). it.subscribers) does.3)) did

-- the machine tells the number of a sample's message
abbrev Tells : {T : Type 0} → machine.Sample T → Service T → Reply T → Service T → Type 0
Tells one service answer after = (answer ≡ reply.Sequence one.message.sequence) × (after ≡ service)

telling_alike : {T : Type 0} (sample : ℕ) (state new : State T) (answer : Reply T)
    → AtOne (λ (one : Service T). at sample one.samples) Tells state answer new → DecideAlike state.services new.services
telling_alike {T} sample state new answer did =
    at_one_decides (λ (one : Service T). at sample one.samples) Tells state new answer
    (λ one service after is does.
    same_ports service after (ap (λ (it : Service T). it.publishers) does.1) (ap (λ (it : Service T). it.subscribers) does.1)) did

module _ {T U B D : Type 0} (choices : Choices T) (is_default_header : U → Type 0)
    (degrades : B → DegradationCause → DegradationInfo → DegradationAction → Type 0)
    (decides : B → BackpressureInfo → BackpressureDecision → Type 0)
    (reader_degrades : D → DegradationCause → DegradationInfo → DegradationAction → Type 0) where
  module _ (types : MessageTypeDetails) (naming : ℕ → Naming) (order : List (ℕ × ServicePorts T U)) (old new : NumberedHub T U B D)
      (state : State T)
      (stands : PortsStandFor choices degrades decides reader_degrades naming order old state) (sample : ℕ) (same : new ≡ old) where
    module _ (made : MadeSample) (goes : GoesThere old made.port.domain sample (held_sample made).1 (held_in old.made)) where
      abbrev id : DomainId
      id = made.port.domain

      -- what is read of the domain is read of the machine
      abbrev Found : Service T → Type 0
      Found service = StandsFor (naming id.service) (those_of id.service (lent_in old.made)) (those_of id.service (held_in old.made))
          old.hub.expired_connection_buffer goes.ports service

      unmoved : new ≡ record old { hub = with_hub_ports id goes.ports old.hub }
      unmoved = same ∙ ap (λ (hub : Hub T U B D). record old { hub = hub }) (sym (put_again id goes.ports old.hub goes.found))

      read_by : (found : Option (Message T U)) → sample_in made.taken goes.ports ≡ found → (answer : Reply T)
          → IsReadReply (option_map (λ (message : Message T U). message.values) found) answer
          → IsMatched degrades decides reader_degrades types choices naming order old state (command.Read sample) answer stands new
      read_by None none answer skipped =
          subst (λ (it : Reply T). IsMatched degrades decides reader_degrades types choices naming order old state
          (command.Read sample) it
          stands
          new) (sym skipped)
          (ports_alone degrades decides reader_degrades types choices naming order old state (command.Read sample) reply.Skipped stands
          new id
          goes.ports goes.ports goes.found unmoved refl (made.taken, goes.goes)
          (λ first service last are its.
          let read = read_matches T U choices types old.hub.expired_connection_buffer (naming id.service) (those_of id.service
          (lent_in old.made)) (those_of id.service (held_in old.made)) goes.ports service state sample made.taken its goes.mine in
          never_some read.0 (sym none ∙ read.1))
          (λ services did. reading_alike sample state (answered_with reply.Skipped services state) reply.Skipped did))
      read_by (Some message) is answer (values, are, told) =
          subst (λ (it : Reply T). IsMatched degrades decides reader_degrades types choices naming order old state
          (command.Read sample) it
          stands
          new) (sym told)
          (ports_alone degrades decides reader_degrades types choices naming order old state (command.Read sample)
          (reply.Values values) stands
          new id goes.ports goes.ports goes.found unmoved refl (made.taken, goes.goes)
          (λ first service last there its.
          let read = read_matches T U choices types old.hub.expired_connection_buffer (naming id.service) (those_of id.service
          (lent_in old.made)) (those_of id.service (held_in old.made)) goes.ports service state sample made.taken its goes.mine in
          read.2 values (are ∙ ap (λ (it : Message T U). it.values) (same_some message read.0 (sym is ∙ read.1))))
          (λ services did. reading_alike sample state (answered_with (reply.Values values) services state) (reply.Values values) did))

      told_by : (found : Option (Message T U)) → sample_in made.taken goes.ports ≡ found → (answer : Reply T)
          → answer ≡ sequence_reply (option_map (λ (message : Message T U). message.sequence) found)
          → IsMatched degrades decides reader_degrades types choices naming order old state (command.Sequence sample) answer stands new
      told_by None none answer skipped =
          subst (λ (it : Reply T). IsMatched degrades decides reader_degrades types choices naming order old state
          (command.Sequence sample) it stands new) (sym skipped)
          (ports_alone degrades decides reader_degrades types choices naming order old state (command.Sequence sample) reply.Skipped stands
          new id goes.ports goes.ports goes.found unmoved refl (made.taken, goes.goes)
          (λ first service last are its.
          let told = sequence_matches T U choices types old.hub.expired_connection_buffer (naming id.service) (those_of id.service
          (lent_in old.made)) (those_of id.service (held_in old.made)) goes.ports service state sample made.taken its goes.mine in
          never_some told.0 (sym none ∙ told.1))
          (λ services did. telling_alike sample state (answered_with reply.Skipped services state) reply.Skipped did))
      told_by (Some message) is answer told_so =
          subst (λ (it : Reply T). IsMatched degrades decides reader_degrades types choices naming order old state
          (command.Sequence sample) it stands new) (sym told_so)
          (ports_alone degrades decides reader_degrades types choices naming order old state (command.Sequence sample)
          (reply.Sequence message.sequence) stands new id goes.ports goes.ports goes.found unmoved refl (made.taken, goes.goes)
          (λ first service last there its.
          let told = sequence_matches T U choices types old.hub.expired_connection_buffer (naming id.service) (those_of id.service
          (lent_in old.made)) (those_of id.service (held_in old.made)) goes.ports service state sample made.taken its goes.mine in
          subst (λ (it : Message T U). Matches T U choices types old.hub.expired_connection_buffer (command.Sequence sample)
          (reply.Sequence it.sequence) state service (naming id.service) (those_of id.service (lent_in old.made))
          (those_of id.service (held_in old.made)) goes.ports) (same_some told.0 message (sym told.1 ∙ is)) told.2)
          (λ services did. telling_alike sample state (answered_with (reply.Sequence message.sequence) services state)
          (reply.Sequence message.sequence) did))

    told_under : (found : Option MadeSample) → value_at old.made.samples sample ≡ found → (answer : Reply T)
        → answer ≡ sequence_reply (sequence_under hub_ports found old.hub)
        → IsMatched degrades decides reader_degrades types choices naming order old state (command.Sequence sample) answer stands new
    told_under None none answer skipped =
        subst (λ (it : Reply T). IsMatched degrades decides reader_degrades types choices naming order old state (command.Sequence sample)
        it stands new)
        (sym skipped) (
          naming,
          order,
          state.services,
          refl,
          at_one_skips (λ (service : Service T). at sample service.samples) Tells state
              (no_sample_goes choices degrades decides reader_degrades naming order old state stands sample none),
          same_stands choices degrades decides reader_degrades naming order old state stands sample new
              (ap (λ (it : NumberedHub T U B D). it.hub) same)
              (ap (λ (it : NumberedHub T U B D). it.made) same),
        )
    told_under (Some made) there answer replied =
        let goes = sample_goes choices degrades decides reader_degrades naming order old state stands sample made there in
        told_by made goes (sample_in made.taken goes.ports) refl answer
        (subst (λ (it : Option (ServicePorts T U)). answer ≡ sequence_reply (option_map (λ (message : Message T U). message.sequence)
        (message_found made.taken it))) goes.found replied)

    read_under : (found : Option MadeSample) → value_at old.made.samples sample ≡ found → (answer : Reply T)
        → IsReadReply (values_under hub_ports found old.hub) answer
        → IsMatched degrades decides reader_degrades types choices naming order old state (command.Read sample) answer stands new
    read_under None none answer skipped =
        subst (λ (it : Reply T). IsMatched degrades decides reader_degrades types choices naming order old state (command.Read sample) it
        stands new)
        (sym skipped) (
          naming,
          order,
          state.services,
          refl,
          at_one_skips (λ (service : Service T). at sample service.samples) Reads state
              (no_sample_goes choices degrades decides reader_degrades naming order old state stands sample none),
          same_stands choices degrades decides reader_degrades naming order old state stands sample new
              (ap (λ (it : NumberedHub T U B D). it.hub) same)
              (ap (λ (it : NumberedHub T U B D). it.made) same),
        )
    read_under (Some made) there answer replied =
        let goes = sample_goes choices degrades decides reader_degrades naming order old state stands sample made there in
        read_by made goes (sample_in made.taken goes.ports) refl answer
        (subst (λ (it : Option (ServicePorts T U)). IsReadReply (option_map (λ (message : Message T U). message.values)
        (message_found made.taken it)) answer) goes.found replied)

  pub read_simulated : ReadIsSimulated choices is_default_header degrades decides reader_degrades
  read_simulated sample old payload user_header types fixed fixed_reader naming order new state answer stands (replied, same) =
      read_under types naming order old new state stands sample same (value_at old.made.samples sample) refl answer replied

  pub sequence_simulated : SequenceIsSimulated choices is_default_header degrades decides reader_degrades
  sequence_simulated sample old payload user_header types fixed fixed_reader naming order new state answer stands (replied, same) =
      told_under types naming order old new state stands sample same (value_at old.made.samples sample) refl answer replied
