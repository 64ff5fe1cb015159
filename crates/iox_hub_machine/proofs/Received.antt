-- Subscribers of a hub receive.
use Rattle.std.proofs.Common.{◌≡◌, ◌<◌, ◌+◌, ◌-◌, ◌^◌, ℕ, true, List, [], ◌∷◌, ◌++◌, length, map, Option, None, Some, Result}
use Rattle.std.proofs.Common.{Ok, Err, refl, sym, ap, subst, ◌∙◌, arith}
use Rattle.std.proofs.lemmas.List.{length-map}
use Rattle.std.proofs.Math.Logic.{⊎_elim}
use Rattle.std.specs.Global.{Vec}
use Rattle.std.specs.List.{AllByRecursion}
use Rattle.std.specs.Option.{option_map}
use Rattle.std.specs.Prelude.{is_some, nat_eq}
use Rattle.std.specs.Map.{lookup}
use Rattle.std.specs.declared.alloc.AllocError.{AllocError}
use Rattle.iox_command.specs.DomainValues.declared.backpressure.BackpressureDecision.{BackpressureDecision}
use Rattle.iox_command.specs.DomainValues.declared.backpressure.BackpressureInfo.{BackpressureInfo}
use Rattle.iox_command.specs.DomainValues.declared.degradation.DegradationAction.{DegradationAction}
use Rattle.iox_command.specs.DomainValues.declared.degradation.DegradationCause.{DegradationCause}
use Rattle.iox_command.specs.DomainValues.declared.degradation.DegradationInfo.{DegradationInfo}
use Rattle.iox_command.specs.DomainValues.declared.port_error.ReceiveError.{ReceiveError}
use Rattle.iox_command.specs.DomainValues.declared.port_error.ReceiveError.TheVariants.{ConnectionFailure}
use Rattle.iox_command.specs.NegotiateBase.DescribeBase.declared.message_type.MessageTypeDetails.{MessageTypeDetails}
use Rattle.iox_command.specs.declared.command.Command.TheVariants as command
use Rattle.iox_command.specs.declared.refusal.Refusal.TheVariants as refusal
use Rattle.iox_command.specs.declared.reply.Reply.{Reply}
use Rattle.iox_command.specs.declared.reply.Reply.TheVariants as reply
use Rattle.iox_container.proofs.Telling.{put}
use Rattle.iox_container.specs.NumberTable.{Rises, value_at}
use Rattle.iox_delivery.specs.Holding.{message_found}
use Rattle.iox_delivery.specs.declared.port_id.PortId.{PortId}
use Rattle.iox_domain.specs.AtHomes.{AtDomain}
use Rattle.iox_domain.specs.DomainPorts.Messages.{Message}
use Rattle.iox_domain.specs.DomainPorts.declared.attached.Taken.{Taken}
use Rattle.iox_domain.specs.Reading.{sample_in}
use Rattle.iox_domain.specs.Steps.{ReceivesBy}
use Rattle.iox_domain.specs.Subscribers.{subscriber_of}
use Rattle.iox_domain.specs.declared.ports.service_ports.ServicePorts.{ServicePorts}
use Rattle.iox_domain_machine.specs.Laws.{Matches}
use Rattle.iox_domain_machine.specs.Naming.{Naming}
use Rattle.iox_domain_machine.specs.ReceiveLaws.{received_or_not, AreReceived, with_held}
use Rattle.iox_domain_machine.specs.ServiceLaws.{ChangesAt}
use Rattle.iox_domain_machine.specs.Services.{those_of, ComesOnce}
use Rattle.iox_domain_machine.specs.Standing.{StandsFor}
use Rattle.iox_domain_machine.specs.Tables.{LentSlot, samples_held_by}
use Rattle.iox_domain_machine.proofs.Found.{never_some, same_some, at_mapped}
use Rattle.iox_domain_machine.proofs.Receiving.{WaitShort}
use Rattle.iox_domain_machine.proofs.ReceivingPort.{receive_matches, received_short}
use Rattle.iox_hub_base.specs.AsHome.{hub_ports, with_hub_ports}
use Rattle.iox_hub_base.specs.ServicesAsHome.{domain_at, ports_if}
use Rattle.iox_hub_commands.specs.Calls.{AtPort, Receives as ReceivesAt}
use Rattle.iox_hub_commands.specs.CommandSteps.{subscriber_may_degrade}
use Rattle.iox_hub_commands.specs.Growing.{GrowsFirst}
use Rattle.iox_hub_commands.specs.Grown.{HaveGrown}
use Rattle.iox_hub_commands.specs.Numbering.{NumbersSample, ReceivesNumbered, with_sample}
use Rattle.iox_hub_commands.specs.Reading.{values_under}
use Rattle.iox_hub_commands.specs.Receiving.{IsArrival, IsReceiveReply, IsTold}
use Rattle.iox_hub_commands.specs.Tables.{IsFull, IsRoomier}
use Rattle.iox_hub_commands.specs.declared.numbered_hub.NumberedHub.{NumberedHub}
use Rattle.iox_hub_commands.specs.declared.ports.made.Made.{Made}
use Rattle.iox_hub_commands.specs.declared.ports.made.MadeLoan.{MadeLoan}
use Rattle.iox_hub_commands.specs.declared.ports.made.MadeSample.{MadeSample}
use Rattle.iox_hub_machine.specs.Laws.{answered_with}
use Rattle.iox_hub_machine.specs.ReceiveLaws.{ReceiveIsSimulated}
use Rattle.iox_hub_machine.specs.Standing.{PortsStandFor, AreAsMany, lent_slot, held_sample, lent_in, held_in}
use Rattle.iox_hub_machine.proofs.Acting.{reader_acts_as}
use Rattle.iox_hub_machine.proofs.Amidst.{at_one_skips}
use Rattle.iox_hub_machine.proofs.Attending.{attending_alike, received_alike, standing_found}
use Rattle.iox_hub_machine.proofs.Deciding.{DecideAlike, at_one_decides}
use Rattle.iox_hub_machine.proofs.Fitting.{among_all, service_place}
use Rattle.iox_hub_machine.proofs.Going.{same_stands}
use Rattle.iox_hub_machine.proofs.Housed.{some_ports, found_there}
use Rattle.iox_hub_machine.proofs.Lengthened.{none_next, one_added, its_added, changes_more, came_or_was}
use Rattle.iox_hub_machine.proofs.Moving.{IsMatched}
use Rattle.iox_hub_machine.proofs.NoValues.{vector_of_none}
use Rattle.iox_hub_machine.proofs.Numbered.{is_nobodys}
use Rattle.iox_hub_machine.proofs.Readers.{ReaderGoes, reader_goes, no_subscriber_goes}
use Rattle.iox_hub_machine.proofs.Renaming.{machine_does_named}
use Rattle.iox_hub_machine.proofs.Roomier.{roomier_stands}
use Rattle.iox_hub_machine.proofs.Rooming.{roomy_there}
use Rattle.iox_hub_machine.proofs.Takers.{who_took, samples_within, rise_within}
use Rattle.iox_machine.specs.Choices.{Choices}
use Rattle.iox_machine.specs.Ports.{subscriber_in}
use Rattle.iox_machine.specs.Receiving.{Receives}
use Rattle.iox_machine.specs.RunLaws.{AllMessages}
use Rattle.iox_machine.specs.Service.{Service, Subscriber}
use Rattle.iox_machine.specs.State.{State, AtOne, counted}
use Rattle.iox_machine.specs.SubscriberUpdate.{UpdatesFirst}
use Rattle.iox_machine.specs.Table.{at}

-- the machine's subscriber receives, once its connections are up to date
abbrev ReaderTakes : {T : Type 0} → Choices T → ℕ → ℕ → ℕ → Subscriber → Service T → Reply T → Service T → Type 0
ReaderTakes choices buffer number sample
    = UpdatesFirst choices buffer number (λ failure. refusal.Receive (ConnectionFailure failure)) (Receives number sample)

taking_alike : {T : Type 0} (choices : Choices T) (buffer number sample : ℕ) (state new : State T) (answer : Reply T)
    → AtOne (subscriber_in number) (ReaderTakes choices buffer number sample) state answer new → DecideAlike state.services new.services
taking_alike {T} choices buffer number sample state new answer did =
    at_one_decides (subscriber_in number) (ReaderTakes choices buffer number sample) state new answer
    (λ one service after is does.
    attending_alike choices buffer number (λ failure. refusal.Receive (ConnectionFailure failure)) (Receives number sample) one service
    after answer
    (standing_found (λ (it : Subscriber). it.stands) (at number service.subscribers) one is)
    (λ other mid attends received. received_alike number sample service mid after other answer attends received) does) did

never_lacks : {V E : Type 0} (v : V) (e : E) → Ok v ≡ Err e → ⊥
never_lacks v e same = cc

module _ {T U B D : Type 0} (choices : Choices T) (is_default_header : U → Type 0)
    (degrades : B → DegradationCause → DegradationInfo → DegradationAction → Type 0)
    (decides : B → BackpressureInfo → BackpressureDecision → Type 0)
    (reader_degrades : D → DegradationCause → DegradationInfo → DegradationAction → Type 0) where
  module _ (types : MessageTypeDetails) (naming : ℕ → Naming) (order : List (ℕ × ServicePorts T U)) (old new : NumberedHub T U B D)
      (state : State T) (answer : Reply T) (stands : PortsStandFor choices degrades decides reader_degrades naming order old state)
      (number : ℕ)
      (grown : HaveGrown old.hub.services.domains) (rises : Rises 1 old.made.samples.entries old.made.samples.next)
      (fits : old.made.samples.next < 2 ^ 64) where
    abbrev Simulates : Reply T → Type 0
    Simulates told = IsMatched degrades decides reader_degrades types choices naming order old state (command.Receive number) told stands
        new

    abbrev buffer : ℕ
    buffer = old.hub.expired_connection_buffer

    -- the number that a sample gets
    abbrev next : ℕ
    next = state.made.samples + 1

    nobody_next : at next (held_in old.made) ≡ None
    nobody_next =
        ap (λ (n : ℕ). at n (held_in old.made)) (sym stands.numbers.samples)
        ∙ at_mapped held_sample old.made.samples.next old.made.samples.entries
        ∙ ap (option_map held_sample) (none_next 1 old.made.samples.next old.made.samples.entries rises)

    few_samples : (domain reader : ℕ) → samples_held_by reader (those_of domain (held_in old.made)) < 2 ^ 64 - 1
    few_samples domain reader =
        let within = samples_within domain reader (held_in old.made) in
        let same = length-map {B = ℕ × (ℕ × Taken)} old.made.samples.entries (λ (entry : ℕ × MadeSample). (entry.0, held_sample entry.1)) in
        let below = rise_within 1 old.made.samples.next old.made.samples.entries rises in
        omega (arith, within, same, below, fits)

    module _ (it : PortId) (goes : ReaderGoes naming old number it) (after : ServicePorts T U)
        (received : Option (Result (Option Taken) ReceiveError)) (values : Vec T)
        (does : ReceivesBy (subscriber_may_degrade reader_degrades it.domain it.number old.hub) it.number goes.ports received after)
        (are : AreReceived values received after) where
      abbrev domain : ℕ
      domain = it.domain.service

      abbrev names : Naming
      names = naming domain

      abbrev lent : List (ℕ × LentSlot)
      lent = those_of domain (lent_in old.made)

      abbrev held : List (ℕ × Taken)
      held = those_of domain (held_in old.made)

      -- the domain's own ports match
      its_match : (first : List (Service T)) (service : Service T) (last : List (Service T)) → state.services ≡ first ++ service ∷ last
          → StandsFor names lent held buffer goes.ports service
          → (reader : ℕ → ℕ → ℕ) × Matches T U choices types buffer (command.Receive (names.subscriber it.number))
          (received_or_not next values received) state service (record names { reader = reader }) lent (with_held next received held) after
      its_match first service last place stood =
          receive_matches T U choices (subscriber_may_degrade reader_degrades it.domain it.number old.hub) types buffer names lent held
          goes.ports after service state it.number received values stood (roomy_there it.domain goes.ports old.hub grown goes.found)
          goes.some
          (reader_acts_as choices degrades decides reader_degrades naming order old state stands it.domain goes.ports goes.found first
          service
          last place
          stood it.number)
          (is_nobodys domain next (held_in old.made) nobody_next) (few_samples domain it.number) does are

      receive_there : new.hub ≡ with_hub_ports it.domain after old.hub → answer ≡ received_or_not next values received
          → lent_in new.made ≡ lent_in old.made → ChangesAt domain (held_in old.made) (held_in new.made)
          → those_of domain (held_in new.made) ≡ with_held next received held
          → new.made.publishers.entries ≡ old.made.publishers.entries → new.made.subscribers.entries ≡ old.made.subscribers.entries
          → AreAsMany new.made (counted answer state.made)
          → ((loan : ℕ) (made : MadeLoan) → value_at new.made.loans loan ≡ Some made
          → is_some (domain_at made.port.domain old.hub.services) ≡ true)
          → ((sample : ℕ) (made : MadeSample) → value_at new.made.samples sample ≡ Some made
          → (is_some (domain_at made.port.domain old.hub.services) ≡ true) × (made.taken.subscriber ≡ made.port.number))
          → Simulates answer
      receive_there changes told same_lent at_held held_still publishers subscribers numbers loans samples =
          machine_does_named degrades decides reader_degrades types choices naming order old new state (command.Receive number) answer
          it.domain goes.ports after stands goes.found changes
          (it.number, goes.named, λ zero. goes.some (goes.named ∙ zero))
          (λ other off. ap (those_of other) same_lent, subst ComesOnce (sym same_lent) stands.domains.loans)
          at_held
          (λ first service last place stood.
          let (reader, matched) = its_match first service last place stood in
          let later : Naming = record names { reader = reader } in (
            later,
            refl,
            refl,
            subst (λ (more : List (ℕ × (ℕ × LentSlot))). Matches T U choices types buffer (command.Receive number) answer state service
                later (those_of domain more) (those_of domain (held_in new.made)) after) (sym same_lent)
                (subst (λ (more : List (ℕ × Taken)). Matches T U choices types buffer (command.Receive number) answer state service later
                lent more after) (sym held_still)
                (subst (λ (reply : Reply T). Matches T U choices types buffer (command.Receive number) reply state service later lent
                (with_held next received held) after) (sym told)
                (subst (λ (name : ℕ). Matches T U choices types buffer (command.Receive name) (received_or_not next values received)
                state service later lent (with_held next received held) after) goes.named matched))),
          ))
          (λ services did. taking_alike choices buffer number next state (answered_with answer services state) answer did)
          publishers subscribers numbers loans samples

    module _ (roomier : Made) (room : IsRoomier old.made roomier) where
      -- nothing goes by a number that didn't
      module _ (made_so : new.made ≡ roomier) where
        publishers_still : new.made.publishers.entries ≡ old.made.publishers.entries
        publishers_still = ap (λ (made : Made). made.publishers.entries) made_so ∙ room.0.0

        subscribers_still : new.made.subscribers.entries ≡ old.made.subscribers.entries
        subscribers_still = ap (λ (made : Made). made.subscribers.entries) made_so ∙ room.1.0

        loans_still : new.made.loans.entries ≡ old.made.loans.entries
        loans_still = ap (λ (made : Made). made.loans.entries) made_so ∙ room.2.0

        samples_still : new.made.samples.entries ≡ old.made.samples.entries
        samples_still = ap (λ (made : Made). made.samples.entries) made_so ∙ room.3.0

        held_still : held_in new.made ≡ held_in old.made
        held_still = ap (map (λ (entry : ℕ × MadeSample). (entry.0, held_sample entry.1))) samples_still

        as_many_still : AreAsMany new.made state.made
        as_many_still = record {
          publishers = ap (λ (made : Made). made.publishers.next) made_so ∙ room.0.1 ∙ stands.numbers.publishers;
          subscribers = ap (λ (made : Made). made.subscribers.next) made_so ∙ room.1.1 ∙ stands.numbers.subscribers;
          loans = ap (λ (made : Made). made.loans.next) made_so ∙ room.2.1 ∙ stands.numbers.loans;
          samples = ap (λ (made : Made). made.samples.next) made_so ∙ room.3.1 ∙ stands.numbers.samples;
        }

        -- no sample came
        receive_without : (it : PortId) (goes : ReaderGoes naming old number it) (after : ServicePorts T U)
            (received : Option (Result (Option Taken) ReceiveError))
            → ReceivesBy (subscriber_may_degrade reader_degrades it.domain it.number old.hub) it.number goes.ports received after
            → new.hub ≡ with_hub_ports it.domain after old.hub → AreReceived vector_of_none received after
            → answer ≡ received_or_not next vector_of_none received → counted answer state.made ≡ state.made
            → with_held next received (those_of it.domain.service (held_in old.made)) ≡ those_of it.domain.service (held_in old.made)
            → Simulates answer
        receive_without it goes after received does changes are told counts held_so =
            receive_there it goes after received vector_of_none does are changes told
            (ap (map (λ (entry : ℕ × MadeLoan). (entry.0, lent_slot entry.1))) loans_still)
            (λ other off. ap (those_of other) held_still, subst ComesOnce (sym held_still) stands.domains.samples)
            (ap (those_of it.domain.service) held_still ∙ sym held_so) publishers_still subscribers_still
            (subst (AreAsMany new.made) (sym counts) as_many_still)
            (λ loan made is. stands.loans loan made (ap (lookup (nat_eq loan)) (sym loans_still) ∙ is))
            (λ sample made is. stands.samples sample made (ap (lookup (nat_eq sample)) (sym samples_still) ∙ is))

        -- no subscriber goes by the number
        receive_nobody : value_at old.made.subscribers number ≡ None → new.hub ≡ old.hub → Simulates reply.Skipped
        receive_nobody none changes = (
          naming,
          order,
          state.services,
          refl,
          at_one_skips (subscriber_in number) (ReaderTakes choices buffer number next) state
              (no_subscriber_goes choices degrades decides reader_degrades naming order old state stands number none),
          same_stands choices degrades decides reader_degrades naming order (record old { made = roomier }) state
              (roomier_stands choices degrades decides reader_degrades naming order old state roomier room stands) number new changes
              made_so,
        )

      -- the service of a subscriber's domain, in its place
      reader_place : (it : PortId) (goes : ReaderGoes naming old number it)
          → (first : List (Service T)) × (service : Service T) × (last : List (Service T)) × (state.services ≡ first ++ service ∷ last)
          × StandsFor (naming it.domain.service) (those_of it.domain.service (lent_in old.made))
          (those_of it.domain.service (held_in old.made)) buffer goes.ports service
      reader_place it goes =
          service_place choices degrades decides reader_degrades naming order old state stands it.domain goes.ports goes.found

      -- a sample came
      module _ (it : PortId) (goes : ReaderGoes naming old number it) (after : ServicePorts T U) (taken : Taken)
          (does : ReceivesBy (subscriber_may_degrade reader_degrades it.domain it.number old.hub) it.number goes.ports
          (Some (Ok (Some taken))) after)
          (changes : new.hub ≡ with_hub_ports it.domain after old.hub) (made_so : new.made ≡ with_sample it taken roomier) where
        abbrev made : MadeSample
        made = record { port = it; taken = taken }

        abbrev there : ℕ
        there = it.domain.service

        next_is : roomier.samples.next ≡ next
        next_is = room.3.1 ∙ stands.numbers.samples

        one_more_held : held_in new.made ≡ held_in old.made ++ (next, (there, taken)) ∷ []
        one_more_held =
            ap held_in made_so
            ∙ one_added held_sample roomier.samples.next made roomier.samples.entries
            ∙ ap (λ (n : ℕ). map (λ (entry : ℕ × MadeSample). (entry.0, held_sample entry.1)) roomier.samples.entries
            ++ (n, (there, taken)) ∷ []) next_is
            ∙ ap (λ (entries : List (ℕ × MadeSample)). map (λ (entry : ℕ × MadeSample). (entry.0, held_sample entry.1)) entries
            ++ (next, (there, taken)) ∷ []) room.3.0

        loans_there : new.made.loans.entries ≡ old.made.loans.entries
        loans_there = ap (λ (it : Made). it.loans.entries) made_so ∙ room.2.0

        -- the subscriber itself took it
        its_own : (values : Vec T) → AreReceived values (Some (Ok (Some taken))) after → taken.subscriber ≡ it.number
        its_own values are =
            let (first, service, last, place, stood) = reader_place it goes in
            let (reader, (then, step, stands_then)) = its_match it goes after (Some (Ok (Some taken))) values does are first service last
            place stood in
            who_took (subscriber_may_degrade reader_degrades it.domain it.number old.hub) it.number goes.ports after taken (naming there)
            (record (naming there) { reader = reader }) (those_of there (lent_in old.made)) (those_of there (lent_in old.made))
            (those_of there (held_in old.made)) buffer next service then stood stands_then does

        receive_one : (values : Vec T) → AreReceived values (Some (Ok (Some taken))) after
            → answer ≡ reply.Received next values → Simulates answer
        receive_one values are told =
            receive_there it goes after (Some (Ok (Some taken))) values does are changes told
            (ap (map (λ (entry : ℕ × MadeLoan). (entry.0, lent_slot entry.1))) loans_there)
            (subst (λ (more : List (ℕ × (ℕ × Taken))). ChangesAt there (held_in old.made) more) (sym one_more_held)
            (changes_more next taken there (held_in old.made) stands.domains.samples nobody_next))
            (ap (those_of there) one_more_held ∙ its_added next taken there (held_in old.made))
            (ap (λ (it : Made). it.publishers.entries) made_so ∙ room.0.0)
            (ap (λ (it : Made). it.subscribers.entries) made_so ∙ room.1.0)
            (subst (λ (told : Reply T). AreAsMany new.made (counted told state.made)) (sym told) record {
              publishers = ap (λ (it : Made). it.publishers.next) made_so ∙ room.0.1 ∙ stands.numbers.publishers;
              subscribers = ap (λ (it : Made). it.subscribers.next) made_so ∙ room.1.1 ∙ stands.numbers.subscribers;
              loans = ap (λ (it : Made). it.loans.next) made_so ∙ room.2.1 ∙ stands.numbers.loans;
              samples = ap (λ (it : Made). it.samples.next) made_so ∙ ap (λ (n : ℕ). n + 1) next_is;
            })
            (λ loan one is. stands.loans loan one (ap (lookup (nat_eq loan)) (sym loans_there) ∙ is))
            (λ sample one is. ⊎_elim
            (λ came. subst (λ (it : MadeSample). (is_some (domain_at it.port.domain old.hub.services) ≡ true)
            × (it.taken.subscriber ≡ it.port.number)) came (here, its_own values are))
            (λ was. stands.samples sample one (ap (lookup (nat_eq sample)) (sym room.3.0) ∙ was))
            (came_or_was sample made one roomier.samples (ap (λ (it : Made). value_at it.samples sample) (sym made_so) ∙ is)))
          where
            here : is_some (domain_at it.domain old.hub.services) ≡ true
            here = ap is_some (some_ports (domain_at it.domain old.hub.services) goes.ports goes.found).1

        ports_found_then : hub_ports it.domain new.hub ≡ Some after
        ports_found_then =
            let (domain, is, same) = some_ports (domain_at it.domain old.hub.services) goes.ports goes.found in
            ap (hub_ports it.domain) changes ∙ ap ports_if (found_there it.domain after old.hub domain is)

        reads_it : values_under hub_ports (value_at new.made.samples roomier.samples.next) new.hub
            ≡ option_map (λ (message : Message T U). message.values) (sample_in taken after)
        reads_it =
            ap (λ (found : Option MadeSample). values_under hub_ports found new.hub)
            (ap (λ (it : Made). value_at it.samples roomier.samples.next) made_so
            ∙ put roomier.samples made (rises_so room.3.0 room.3.1))
            ∙ ap (λ (ports : Option (ServicePorts T U)). option_map (λ (message : Message T U). message.values)
            (message_found taken ports)) ports_found_then
          where
            rises_so : roomier.samples.entries ≡ old.made.samples.entries → roomier.samples.next ≡ old.made.samples.next
                → Rises 1 roomier.samples.entries roomier.samples.next
            rises_so entries number =
                subst (λ (n : ℕ). Rises 1 roomier.samples.entries n) (sym number)
                (subst (λ (these : List (ℕ × MadeSample)). Rises 1 these old.made.samples.next) (sym entries) rises)

        arrived_by : (found : Option (Message T U)) → sample_in taken after ≡ found
            → IsArrival roomier.samples.next (option_map (λ (message : Message T U). message.values) found) answer → Simulates answer
        arrived_by None none arrived = absurd arrived
        arrived_by (Some message) is (values, are, told) =
            receive_one values (message, is, are) (told ∙ ap (λ (n : ℕ). reply.Received n values) next_is)

        receive_arrived : IsArrival roomier.samples.next (values_under hub_ports (value_at new.made.samples roomier.samples.next) new.hub)
            answer → Simulates answer
        receive_arrived arrived =
            arrived_by (sample_in taken after) refl
            (subst (λ (found : Option (List T)). IsArrival roomier.samples.next found answer) reads_it arrived)

        -- what is read under its number is as short as what waits
        newest_short : (most : ℕ) → AllByRecursion (AllMessages (λ publisher message. length message.values < most)) state.services
            → (values : List T) → values_under hub_ports (value_at new.made.samples roomier.samples.next) new.hub ≡ Some values
            → length values < most
        newest_short most all values is = by (sample_in taken after) refl (sym reads_it ∙ is)
          where
            placed : (first : List (Service T)) × (service : Service T) × (last : List (Service T))
                × (state.services ≡ first ++ service ∷ last)
                × StandsFor (naming there) (those_of there (lent_in old.made)) (those_of there (held_in old.made)) buffer goes.ports service
            placed = reader_place it goes

            waits : WaitShort most placed.1
            waits publisher reader box found =
                ((among_all (AllMessages (λ publisher message. length message.values < most)) placed.0 placed.1 placed.2
                (subst (AllByRecursion (AllMessages (λ publisher message. length message.values < most))) placed.3 all)).0 publisher reader
                box found).0

            by : (found : Option (Message T U)) → sample_in taken after ≡ found
                → option_map (λ (message : Message T U). message.values) found ≡ Some values → length values < most
            by None none e = never_some values e
            by (Some message) is_there e =
                subst (λ (items : List T). length items < most) (same_some message.values values e)
                (received_short choices (subscriber_may_degrade reader_degrades it.domain it.number old.hub) types buffer (naming there)
                (those_of there (lent_in old.made)) (those_of there (held_in old.made)) goes.ports after placed.1 state it.number
                vector_of_none placed.4 (roomy_there it.domain goes.ports old.hub grown goes.found) goes.some
                (reader_acts_as choices degrades decides reader_degrades naming order old state stands it.domain goes.ports goes.found
                placed.0 placed.1 placed.2 placed.3 placed.4 it.number)
                (is_nobodys there next (held_in old.made) nobody_next) (few_samples there it.number) most waits
                (Some (Ok (Some taken))) (subscriber_of it.number goes.ports.subscribers) refl does taken refl message is_there)

      -- if a number was given, what is read under it is as short as what waits
      module _ (most : ℕ) (all : AllByRecursion (AllMessages (λ publisher message. length message.values < most)) state.services)
          (up : new.made.samples.next ≡ old.made.samples.next + 1) where
        abbrev IsNewestShort : Type 0
        IsNewestShort = (values : List T)
            → values_under hub_ports (value_at new.made.samples old.made.samples.next) new.hub ≡ Some values → length values < most

        not_up : {A : Type 0} → new.made ≡ roomier → A
        not_up made_so =
            absurd (still (ap (λ (it : Made). it.samples.next) made_so ∙ room.3.1))
          where
            still : new.made.samples.next ≡ old.made.samples.next → ⊥
            still same = omega (arith, up, same)

        short_found : (it : PortId) (goes : ReaderGoes naming old number it) (after : ServicePorts T U)
            (received : Option (Result (Option Taken) ReceiveError)) (answered : Option (Result (Option ℕ) ReceiveError))
            → ReceivesBy (subscriber_may_degrade reader_degrades it.domain it.number old.hub) it.number goes.ports received after
            → new.hub ≡ with_hub_ports it.domain after old.hub → NumbersSample (Some it) received roomier answered new.made
            → IsNewestShort
        short_found it goes after None answered does changes (is, made_so) = not_up made_so
        short_found it goes after (Some (Err why)) answered does changes (is, made_so) = not_up made_so
        short_found it goes after (Some (Ok None)) answered does changes (is, made_so) = not_up made_so
        short_found it goes after (Some (Ok (Some taken))) answered does changes (is, made_so) =
            λ values is_read. newest_short it goes after taken does changes made_so most all values
            (ap (λ (n : ℕ). values_under hub_ports (value_at new.made.samples n) new.hub) room.3.1 ∙ is_read)

        short_by : (received : Option (Result (Option Taken) ReceiveError)) (answered : Option (Result (Option ℕ) ReceiveError))
            (found : Option PortId) → value_at old.made.subscribers number ≡ found
            → AtPort (ReceivesAt hub_ports with_hub_ports (subscriber_may_degrade reader_degrades)) found old.hub received new.hub
            → NumbersSample found received roomier answered new.made → IsNewestShort
        short_by None answered None none (nothing, changes) (is, made_so) = not_up made_so
        short_by (Some told) answered None none (nothing, changes) numbers = never_some told (sym nothing)
        short_by received answered (Some it) is receives numbers =
            let goes = reader_goes choices degrades decides reader_degrades naming order old state stands number it is in
            let may = subscriber_may_degrade reader_degrades it.domain it.number old.hub in
            let (after, does, changes) = subst (λ (ports : Option (ServicePorts T U)). AtDomain
            (λ (one : ServicePorts T U). with_hub_ports it.domain one old.hub) (ReceivesBy may it.number) ports old.hub received new.hub)
            goes.found receives in
            short_found it goes after received answered does changes numbers

      abbrev read : ℕ → Option (List T)
      read sample = values_under hub_ports (value_at new.made.samples sample) new.hub

      abbrev IsReply : Option (Result (Option ℕ) ReceiveError) → Type 0
      IsReply answered = IsReceiveReply read answered answer

      receive_found : (it : PortId) (goes : ReaderGoes naming old number it) (after : ServicePorts T U)
          (received : Option (Result (Option Taken) ReceiveError)) (answered : Option (Result (Option ℕ) ReceiveError))
          → ReceivesBy (subscriber_may_degrade reader_degrades it.domain it.number old.hub) it.number goes.ports received after
          → new.hub ≡ with_hub_ports it.domain after old.hub → NumbersSample (Some it) received roomier answered new.made
          → IsReply answered → Simulates answer
      receive_found it goes after None answered does changes (is, made_so) replied =
          let told : answer ≡ reply.Skipped = subst IsReply is replied in
          receive_without made_so it goes after None does changes tt told (ap (λ (told : Reply T). counted told state.made) told) refl
      receive_found it goes after (Some (Err why)) answered does changes (is, made_so) replied =
          let told : answer ≡ reply.Refused (refusal.Receive why) = subst IsReply is replied in
          receive_without made_so it goes after (Some (Err why)) does changes tt told
          (ap (λ (told : Reply T). counted told state.made) told)
          refl
      receive_found it goes after (Some (Ok None)) answered does changes (is, made_so) replied =
          let told : answer ≡ reply.NothingWaits = subst IsReply is replied in
          receive_without made_so it goes after (Some (Ok None)) does changes tt told
          (ap (λ (told : Reply T). counted told state.made) told)
          refl
      receive_found it goes after (Some (Ok (Some taken))) answered does changes (is, made_so) replied =
          receive_arrived it goes after taken does changes made_so (subst IsReply is replied)

      receive_by : (received : Option (Result (Option Taken) ReceiveError)) (answered : Option (Result (Option ℕ) ReceiveError))
          (found : Option PortId) → value_at old.made.subscribers number ≡ found
          → AtPort (ReceivesAt hub_ports with_hub_ports (subscriber_may_degrade reader_degrades)) found old.hub received new.hub
          → NumbersSample found received roomier answered new.made → IsReply answered → Simulates answer
      receive_by None answered None none (nothing, changes) (is, made_so) replied =
          subst Simulates (sym (subst IsReply is replied)) (receive_nobody made_so none changes)
      receive_by (Some told) answered None none (nothing, changes) numbers replied = never_some told (sym nothing)
      receive_by received answered (Some it) there receives numbers replied =
          let goes = reader_goes choices degrades decides reader_degrades naming order old state stands number it there in
          let may = subscriber_may_degrade reader_degrades it.domain it.number old.hub in
          let (after, does, changes) = subst (λ (ports : Option (ServicePorts T U)). AtDomain
          (λ (one : ServicePorts T U). with_hub_ports it.domain one old.hub) (ReceivesBy may it.number) ports old.hub received new.hub)
          goes.found receives in
          receive_found it goes after received answered does changes numbers replied

    receive_told : (received : Result (Option (Result (Option ℕ) ReceiveError)) AllocError)
        → GrowsFirst (IsFull old.made.samples)
        (ReceivesNumbered hub_ports with_hub_ports (subscriber_may_degrade reader_degrades) (value_at old.made.subscribers number)) old.made
        old.hub received new.made new.hub
        → IsTold (λ (sample : ℕ). values_under hub_ports (value_at new.made.samples sample) new.hub) received (Ok answer) → Simulates answer
    receive_told (Err lacking) grows told = absurd (never_lacks answer lacking told)
    receive_told (Ok answered) (roomier, room, (received, receives, numbers)) replied =
        receive_by roomier room received answered (value_at old.made.subscribers number) refl receives numbers replied

    -- a receive that gives a number reads under it what is as short as what waits
    pub newest_is_short : (most : ℕ) → AllByRecursion (AllMessages (λ publisher message. length message.values < most)) state.services
        → new.made.samples.next ≡ old.made.samples.next + 1
        → (received : Result (Option (Result (Option ℕ) ReceiveError)) AllocError)
        → GrowsFirst (IsFull old.made.samples)
        (ReceivesNumbered hub_ports with_hub_ports (subscriber_may_degrade reader_degrades) (value_at old.made.subscribers number)) old.made
        old.hub received new.made new.hub
        → (values : List T) → values_under hub_ports (value_at new.made.samples old.made.samples.next) new.hub ≡ Some values
        → length values < most
    newest_is_short most all up (Err lacking) (full, made_so, same) = absurd (still (ap (λ (it : Made). it.samples.next) made_so))
      where
        still : new.made.samples.next ≡ old.made.samples.next → ⊥
        still same = omega (arith, up, same)
    newest_is_short most all up (Ok answered) (roomier, room, (received, receives, numbers)) =
        short_by roomier room most all up received answered (value_at old.made.subscribers number) refl receives numbers

  pub receive_simulated : ReceiveIsSimulated choices is_default_header degrades decides reader_degrades
  receive_simulated number old grown rises fits payload user_header types fixed fixed_reader naming order new state answer stands
      ((received, grows, told), same) =
      receive_told types naming order old new state answer stands number grown rises.4 fits received grows told
