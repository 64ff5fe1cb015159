-- Samples of a hub are released.
use Rattle.std.proofs.Common.{◌≡◌, ◌<◌, ℕ, Bool, true, false, cond, List, Option, None, Some, refl, sym, ap, subst, ◌∙◌, true≢false, arith}
use Rattle.std.proofs.lemmas.Bool.{eq-eqb}
use Rattle.std.specs.Prelude.{is_some, ◌==◌, ◌&&◌}
use Rattle.iox_command.specs.DomainValues.declared.backpressure.BackpressureDecision.{BackpressureDecision}
use Rattle.iox_command.specs.DomainValues.declared.backpressure.BackpressureInfo.{BackpressureInfo}
use Rattle.iox_command.specs.DomainValues.declared.degradation.DegradationAction.{DegradationAction}
use Rattle.iox_command.specs.DomainValues.declared.degradation.DegradationCause.{DegradationCause}
use Rattle.iox_command.specs.DomainValues.declared.degradation.DegradationInfo.{DegradationInfo}
use Rattle.iox_command.specs.NegotiateBase.DescribeBase.declared.message_type.MessageTypeDetails.{MessageTypeDetails}
use Rattle.iox_command.specs.declared.command.Command.TheVariants as command
use Rattle.iox_command.specs.declared.reply.Reply.{Reply}
use Rattle.iox_command.specs.declared.reply.Reply.TheVariants as reply
use Rattle.iox_container.specs.NumberTable.{value_at}
use Rattle.iox_delivery.specs.Holding.{holds_message, message_found}
use Rattle.iox_delivery.specs.Subscribing.{ReleasesOne}
use Rattle.iox_domain.specs.AtHomes.{AtDomain}
use Rattle.iox_domain.specs.DomainPorts.Messages.{Message}
use Rattle.iox_domain.specs.DomainPorts.declared.attached.Taken.{Taken}
use Rattle.iox_domain.specs.DomainPorts.declared.subscriber_port.SubscriberPort.{SubscriberPort}
use Rattle.iox_domain.specs.PortsSubscribing as domain
use Rattle.iox_domain.specs.Subscribers.{subscriber_of}
use Rattle.iox_domain.specs.declared.domain_id.DomainId.{DomainId}
use Rattle.iox_domain.specs.declared.ports.service_ports.ServicePorts.{ServicePorts}
use Rattle.iox_domain_machine.specs.Laws.{Matches}
use Rattle.iox_domain_machine.specs.Naming.{Naming, with_name}
use Rattle.iox_domain_machine.specs.ServiceLaws.{ChangesAt}
use Rattle.iox_domain_machine.specs.Services.{those_of}
use Rattle.iox_domain_machine.specs.Tables.{held_at_port}
use Rattle.iox_domain_machine.proofs.Reading.{read_matches}
use Rattle.iox_domain_machine.proofs.ReleaseHeld.{counted_removed}
use Rattle.iox_domain_machine.proofs.Releasing.{release_matches}
use Rattle.iox_hub_base.specs.AsHome.{hub_ports, with_hub_ports}
use Rattle.iox_hub_base.specs.declared.hub.Hub.{Hub}
use Rattle.iox_hub_commands.specs.Grown.{HaveGrown}
use Rattle.iox_hub_commands.specs.Numbering.{removed_if}
use Rattle.iox_hub_commands.specs.Reading.{is_held, ReleasesUnder}
use Rattle.iox_hub_commands.specs.Replies.{done_reply}
use Rattle.iox_hub_commands.specs.Tables.{without_sample}
use Rattle.iox_hub_commands.specs.declared.numbered_hub.NumberedHub.{NumberedHub}
use Rattle.iox_hub_commands.specs.declared.ports.made.Made.{Made}
use Rattle.iox_hub_commands.specs.declared.ports.made.MadeSample.{MadeSample}
use Rattle.iox_hub_machine.specs.Laws.{answered_with, ReleaseIsSimulated}
use Rattle.iox_hub_machine.specs.Standing.{PortsStandFor, held_sample, lent_in, held_in}
use Rattle.iox_hub_machine.proofs.Amidst.{at_one_skips}
use Rattle.iox_hub_machine.proofs.Deciding.{DecideAlike, same_ports, at_one_decides}
use Rattle.iox_hub_machine.proofs.Going.{sample_goes, no_sample_goes, same_stands, some_service}
use Rattle.iox_hub_machine.proofs.Lessened.{one_removed, its_removed, changes_less, went_so}
use Rattle.iox_hub_machine.proofs.Moving.{IsMatched, machine_does}
use Rattle.iox_hub_machine.proofs.Rooming.{roomy_there}
use Rattle.iox_machine.specs.Choices.{Choices}
use Rattle.iox_machine.specs.Ports as machine_ports
use Rattle.iox_machine.specs.Service.{Service}
use Rattle.iox_machine.specs.State.{State, AtOne}
use Rattle.iox_machine.specs.Table.{at, removed}

giving_back_alike : {T : Type 0} (sample : ℕ) (state new : State T) (answer : Reply T)
    → AtOne (λ (one : Service T). at sample one.samples) (machine_ports.Releases sample) state answer new
    → DecideAlike state.services new.services
giving_back_alike {T} sample state new answer did =
    at_one_decides (λ (one : Service T). at sample one.samples) (machine_ports.Releases sample) state new answer
    (λ one service after is does.
    same_ports service after (ap (λ (it : Service T). it.publishers) does.1) (ap (λ (it : Service T). it.subscribers) does.1)) did

some_reader : (found : Option SubscriberPort) → 0 < held_at_port found → is_some found ≡ true
some_reader None some = absurd (omega (arith, some))
some_reader (Some port) some = refl

module _ {T U B D : Type 0} (choices : Choices T) (is_default_header : U → Type 0)
    (degrades : B → DegradationCause → DegradationInfo → DegradationAction → Type 0)
    (decides : B → BackpressureInfo → BackpressureDecision → Type 0)
    (reader_degrades : D → DegradationCause → DegradationInfo → DegradationAction → Type 0) where
  module _ (types : MessageTypeDetails) (naming : ℕ → Naming) (order : List (ℕ × ServicePorts T U)) (old new : NumberedHub T U B D)
      (state : State T)
      (stands : PortsStandFor choices degrades decides reader_degrades naming order old state) (sample : ℕ)
      (grown : HaveGrown old.hub.services.domains) where
    abbrev Result : Reply T → NumberedHub T U B D → Type 0
    Result answer later =
        IsMatched degrades decides reader_degrades types choices naming order old state (command.Release sample) answer stands later

    abbrev later : DomainId → ServicePorts T U → NumberedHub T U B D
    later id after = record new { hub = with_hub_ports id after old.hub; made = without_sample sample old.made }

    -- the sample's number is spent
    one_less : held_in (without_sample sample old.made) ≡ removed sample (held_in old.made)
    one_less = one_removed sample held_sample old.made.samples.entries (stands.domains.samples sample)

    module _ (made : MadeSample) (there : value_at old.made.samples sample ≡ Some made) (ports : ServicePorts T U)
        (found : hub_ports made.port.domain old.hub ≡ Some ports)
        (goes : at sample (held_in old.made) ≡ Some (made.port.domain.service, made.taken))
        (mine : at sample (those_of made.port.domain.service (held_in old.made)) ≡ Some made.taken) where
      abbrev id : DomainId
      id = made.port.domain

      taker : made.taken.subscriber ≡ made.port.number
      taker = (stands.samples sample made there).1

      released : (after : ServicePorts T U) → domain.Releases made.port.number made.taken ports true after
          → Result reply.Done (later id after)
      released after releases =
          let (order_then, services, keys, does, stands_then)
          = machine_does degrades decides reader_degrades types choices naming order old (later id after)
          state
          (command.Release sample) reply.Done id ports after (naming id.service) stands found refl refl refl (made.taken, goes)
          (λ other off. refl, stands.domains.loans)
          (subst (λ (it : List (ℕ × (ℕ × Taken))). ChangesAt id.service (held_in old.made) it) (sym one_less)
          (changes_less sample id.service made.taken (held_in old.made) stands.domains.samples goes))
          (λ first service last are its.
          let names = naming id.service in
          let lent = those_of id.service (lent_in old.made) in
          let held = those_of id.service (held_in old.made) in
          let buffer = old.hub.expired_connection_buffer in
          subst (λ (it : List (ℕ × Taken)). Matches T U choices types buffer (command.Release sample) reply.Done state service names lent
          it after)
          (sym (ap (those_of id.service) one_less ∙ its_removed sample id.service (held_in old.made)))
          (release_matches T U choices types buffer names lent held ports after service state sample made.taken true its
          (roomy_there id ports old.hub grown found).sound mine
          (subst (λ (number : ℕ). domain.Releases number made.taken ports true after) (sym taker) releases)))
          (λ services did. giving_back_alike sample state (answered_with reply.Done services state) reply.Done did)
          refl refl
          (record {
            publishers = stands.numbers.publishers;
            subscribers = stands.numbers.subscribers;
            loans = stands.numbers.loans;
            samples = stands.numbers.samples;
          })
          stands.loans
          (λ number one was. stands.samples number one
          (went_so held_sample sample number one old.made.samples (stands.domains.samples sample) was)) in
          (with_name id.service (naming id.service) naming, order_then, services, keys, does, stands_then)

      -- the sample is held
      pub is_there : is_held hub_ports (Some made) old.hub ≡ true
      is_there =
          let (service, its) = some_service choices degrades decides reader_degrades naming order old state stands id ports found in
          let held = those_of id.service (held_in old.made) in
          let read = read_matches T U choices types old.hub.expired_connection_buffer (naming id.service) (those_of id.service
          (lent_in old.made)) held ports service state sample made.taken its mine in
          let less = counted_removed (λ (entry : ℕ × Taken). entry.1.subscriber == made.taken.subscriber)
          (λ (other : Taken). other.subscriber == made.taken.subscriber) (λ entry. refl) sample made.taken held mine
          (its.samples.once sample) in
          let one : ◌≡◌ {A = ℕ} (cond (made.taken.subscriber == made.taken.subscriber) 1 0) 1 =
          ap (λ (b : Bool). cond b 1 0) (eq-eqb made.taken.subscriber made.taken.subscriber refl) in
          let some : is_some (subscriber_of made.port.number ports.subscribers) ≡ true =
          ap (λ (number : ℕ). is_some (subscriber_of number ports.subscribers)) (sym taker)
          ∙ some_reader (subscriber_of made.taken.subscriber ports.subscribers)
          (omega (arith, one, less, its.samples.counted made.taken.subscriber)) in
          ap (holds_message made.port.number made.taken) found
          ∙ ap (λ (b : Bool). (b && is_some (message_found made.taken (Some ports))) && (made.taken.subscriber == made.port.number)) some
          ∙ ap (λ (it : Option (Message T U)). is_some it && (made.taken.subscriber == made.port.number)) read.1
          ∙ eq-eqb made.taken.subscriber made.port.number taker

    release_by : (done : Bool) (found : Option MadeSample) → value_at old.made.samples sample ≡ found
        → done ≡ is_held hub_ports found old.hub → ReleasesUnder hub_ports with_hub_ports found old.hub done new.hub
        → new.made ≡ removed_if done (without_sample sample) old.made → Result (done_reply done) new
    release_by true None none is changes less = absurd changes
    release_by false None none is changes less = (
      naming,
      order,
      state.services,
      refl,
      at_one_skips (λ (service : Service T). at sample service.samples) (machine_ports.Releases sample) state
          (no_sample_goes choices degrades decides reader_degrades naming order old state stands sample none),
      same_stands choices degrades decides reader_degrades naming order old state stands sample new changes less,
    )
    release_by false (Some made) there is changes less =
        let goes = sample_goes choices degrades decides reader_degrades naming order old state stands sample made there in
        absurd (true≢false (sym (is ∙ is_there made there goes.ports goes.found goes.goes goes.mine)))
    release_by true (Some made) there is changes less =
        let goes = sample_goes choices degrades decides reader_degrades naming order old state stands sample made there in
        let (after, releases, same) = subst (λ (it : Option (ServicePorts T U)). AtDomain
        (λ (one : ServicePorts T U). with_hub_ports made.port.domain one old.hub) (ReleasesOne made.port.number made.taken) it old.hub
        (Some tt)
        new.hub) goes.found changes in
        subst (λ (it : Hub T U B D). Result reply.Done (record new { hub = it })) (sym same)
        (subst (λ (it : Made). Result reply.Done (record new { hub = with_hub_ports made.port.domain after old.hub; made = it })) (sym less)
        (released made there goes.ports goes.found goes.goes goes.mine after releases))

  pub release_simulated : ReleaseIsSimulated choices is_default_header degrades decides reader_degrades
  release_simulated sample old grown payload user_header types fixed fixed_reader naming order new state answer stands
      ((done, is, changes, less, told), same) =
      subst (λ (it : Reply T). IsMatched degrades decides reader_degrades types choices naming order old state (command.Release sample)
      it
      stands
      new) (sym told)
      (release_by types naming order old new state stands sample grown done (value_at old.made.samples sample) refl is changes less)
