-- Each call of a typed subscriber and of its samples is a step of the machine.
use Rattle.std.proofs.Common.{◌≡◌, ℕ, Bool, true, false, List, Option, None, Some, Result, Ok, Err, refl, sym, ap, subst, ◌∙◌}
use Rattle.iox_command.specs.NegotiateBase.DescribeBase.declared.message_type.MessageTypeDetails.{MessageTypeDetails}
use Rattle.iox_command.specs.NegotiateBase.DescribeBase.declared.type_detail.TypeVariant.{TypeVariant}
use Rattle.iox_command.specs.declared.command.Command.TheVariants as command
use Rattle.iox_command.specs.declared.port.PortNumber.TheVariants as port
use Rattle.iox_command.specs.declared.reply.Reply.{Reply}
use Rattle.iox_container.proofs.Telling.{put as found_next}
use Rattle.iox_container.specs.NumberTable.{value_at}
use Rattle.iox_delivery.proofs.Ready.{sample_releases}
use Rattle.iox_delivery.specs.Holding.{holds_message}
use Rattle.iox_delivery.specs.Subscribing.{DropsAt, ReleasesOne, TakesMessage, received_of}
use Rattle.iox_delivery.specs.declared.port_id.PortId.{PortId}
use Rattle.iox_delivery.specs.declared.sample.Sample.{Sample}
use Rattle.iox_command.specs.DomainValues.declared.port_error.ReceiveError.{ReceiveError}
use Rattle.iox_command.specs.declared.reply.Reply.TheVariants as reply
use Rattle.iox_domain.specs.AtHomes.{AtDomain}
use Rattle.iox_domain.specs.DomainPorts.declared.attached.Taken.{Taken}
use Rattle.iox_domain.specs.declared.ports.service_ports.ServicePorts.{ServicePorts}
use Rattle.iox_domain.specs.Fitting.{asked_types}
use Rattle.iox_hub_base.specs.AsHome.{hub_ports, with_hub_ports, without_hub_subscriber}
use Rattle.iox_hub_base.specs.declared.hub.Hub.{Hub}
use Rattle.iox_hub_commands.specs.Calls.{AtPort, AtPortIf, SubscriberGoes, Tells, FollowsPublishers as FollowsPublishersAt}
use Rattle.iox_hub_commands.specs.CommandSteps.{subscriber_may_degrade}
use Rattle.iox_hub_commands.specs.Lives.{NumbersRise}
use Rattle.iox_hub_commands.specs.Messages.{IsReadReply}
use Rattle.iox_hub_commands.specs.Numbering.{ReceivesNumbered}
use Rattle.iox_hub_commands.specs.Reading.{ReleasesUnder, is_held, values_under}
use Rattle.iox_hub_commands.specs.Receiving.{IsArrival}
use Rattle.iox_hub_commands.specs.Tables.{without_sample}
use Rattle.iox_hub_commands.specs.Terms.{Terms}
use Rattle.iox_hub_commands.specs.declared.numbered_hub.NumberedHub.{NumberedHub}
use Rattle.iox_hub_commands.specs.declared.ports.made.MadeSample.{MadeSample}
use Rattle.iox_hub_machine.proofs.Going.{sample_goes}
use Rattle.iox_hub_machine.proofs.Released.{is_there}
use Rattle.iox_hub_machine.proofs.TypedSteps.{Does, as_roomy, by_step}
use Rattle.iox_hub_machine.specs.TypedSubscribing.{HasIsStep, PayloadIsStep, ReceiveIsStep, ReleaseIsStep, SubscriberLeaveIsStep}
use Rattle.iox_hub_machine.specs.TypedSubscribing.{SubscriberUpdateIsStep}
use Rattle.iox_hub_machine.specs.TypedSteps.{IsToldReceived, having_received, hub_after_call}
use Rattle.iox_hub_machine.specs.TypedTerms.{asked_terms}
use Rattle.iox_machine.specs.Choices.{Choices}

module _ {T U B D : Type 0} (variant : TypeVariant) (terms : Terms T U B D) (choices : Choices T) where
  -- the terms of a hub whose messages are values, or slices of them
  abbrev terms_so : Terms T U B D
  terms_so = asked_terms variant terms

  -- the types of the messages: values, or slices of them
  abbrev types : MessageTypeDetails
  types = asked_types variant terms.payload terms.user_header

  module _ (K : Type 0) where
    pub has_is_step : HasIsStep K terms_so choices
    has_is_step number who old hub answer there tells =
        by_step variant terms choices (command.Has number) tt old (hub_after_call old old.made hub) _ (λ names most state it. (
          (
            Some answer,
            subst (λ (found : Option PortId). AtPort (Tells hub_ports with_hub_ports (subscriber_may_degrade terms.reader_degrades)) found
                old.hub (Some answer) hub) (sym there) tells,
            refl,
          ),
          refl,
        ))

    pub subscriber_update_is_step : SubscriberUpdateIsStep K terms_so choices
    subscriber_update_is_step number who old hub answer there follows =
        by_step variant terms choices (command.Update (port.Subscriber number)) tt old (hub_after_call old old.made hub) _
        (λ names most state it. (
          (
            Some answer,
            subst (λ (found : Option PortId). AtPort (FollowsPublishersAt hub_ports with_hub_ports
                (subscriber_may_degrade terms.reader_degrades)) found old.hub (Some answer) hub) (sym there) follows,
            refl,
          ),
          refl,
        ))

    pub subscriber_leave_is_step : SubscriberLeaveIsStep K terms_so choices
    subscriber_leave_is_step number who old hub left there ends =
        by_step variant terms choices (command.Leave (port.Subscriber number)) tt old _ _ (λ names most state it. (
          (
            left,
            subst (λ (found : Option PortId). AtPortIf (SubscriberGoes hub_ports with_hub_ports without_hub_subscriber) found old.hub left
                hub) (sym there) ends,
            refl,
            refl,
          ),
          refl,
        ))

    -- ---- what is received

    abbrev Received : (number : ℕ) → NumberedHub T U B D → Hub T U B D → Reply T → Result (Option (Sample T U K)) ReceiveError → Type 0
    Received number old hub told answer =
        Does variant terms choices (command.Receive number) old told (hub_after_call old (having_received answer old.made) hub)

    abbrev Numbers : ℕ → NumberedHub T U B D → Hub T U B D → Result (Option (Sample T U K)) ReceiveError
        → Option (Result (Option ℕ) ReceiveError) → Option PortId → Type 0
    Numbers number old hub answer received found = ReceivesNumbered hub_ports with_hub_ports (subscriber_may_degrade terms.reader_degrades)
        found old.made old.hub received (having_received answer old.made) hub

    received_does : (number : ℕ) (who : PortId) (old : NumberedHub T U B D) (hub : Hub T U B D) (told : Reply T)
        (received : Result (Option Taken) ReceiveError) → value_at old.made.subscribers number ≡ Some who
        → TakesMessage hub_ports with_hub_ports (subscriber_may_degrade terms.reader_degrades) who old.hub received hub
        → NumbersRise old
        → IsToldReceived (received_of {T = T} {U = U} {K = K} who received) old.made hub told
        → Received number old hub told (received_of who received)
    received_does number who old hub told (Ok (Some taken)) there takes rise (values, read, is) =
        let newest : MadeSample = record { port = who; taken = taken } in (
          (
            Ok (Some (Ok (Some old.made.samples.next))),
            (
              old.made,
              as_roomy old.made,
              subst (Numbers number old hub (received_of who (Ok (Some taken))) (Some (Ok (Some old.made.samples.next)))) (sym there)
                  (Some (Ok (Some taken)), takes, (refl, refl)),
            ),
            subst (λ (found : Option MadeSample). IsArrival old.made.samples.next (values_under hub_ports found hub) told)
                (sym (found_next old.made.samples newest rise.4))
                (subst (λ (found : Option (List T)). IsArrival old.made.samples.next found told) (sym read) (values, refl, is)),
          ),
          refl,
        )
    received_does number who old hub told (Ok None) there takes rise is = (
      (
        Ok (Some (Ok None)),
        (
          old.made,
          as_roomy old.made,
          subst (Numbers number old hub (received_of who (Ok None)) (Some (Ok None))) (sym there) (Some (Ok None), takes, (refl, refl)),
        ),
        is,
      ),
      refl,
    )
    received_does number who old hub told (Err why) there takes rise is = (
      (
        Ok (Some (Err why)),
        (
          old.made,
          as_roomy old.made,
          subst (Numbers number old hub (received_of who (Err why)) (Some (Err why))) (sym there) (Some (Err why), takes, (refl, refl)),
        ),
        is,
      ),
      refl,
    )

    pub receive_is_step : ReceiveIsStep K terms_so choices
    receive_is_step number who old hub answer told there (received, takes, is) tells =
        by_step variant terms choices (command.Receive number) tt old (hub_after_call old (having_received answer old.made) hub) told
        (λ names most state it. subst (λ (a : Result (Option (Sample T U K)) ReceiveError). Received number old hub told a) (sym is)
        (received_does number who old hub told received there takes it.ran.rise
        (subst (λ (a : Result (Option (Sample T U K)) ReceiveError). IsToldReceived a old.made hub told) is tells)))

    -- ---- samples

    pub payload_is_step : PayloadIsStep K terms_so choices
    payload_is_step number made old values there read =
        by_step variant terms choices (command.Read number) tt old old (reply.Values values) (λ names most state it. (
          subst (λ (found : Option MadeSample). IsReadReply (values_under hub_ports found old.hub) (reply.Values values)) (sym there)
              (subst (λ (found : Option (List T)). IsReadReply found (reply.Values values)) (sym read) (values, refl, refl)),
          refl,
        ))

    -- a sample that is held is released
    drops_so : (made : MadeSample) (old hub : Hub T U B D) (found : Option (ServicePorts T U)) (released : Bool)
        → holds_message made.port.number made.taken found ≡ true
        → DropsAt (λ after. with_hub_ports made.port.domain after old) made.port.number made.taken found old released hub
        → AtDomain (λ (after : ServicePorts T U). with_hub_ports made.port.domain after old) (ReleasesOne made.port.number made.taken) found
        old (Some tt) hub
    drops_so made old hub None released held drops = absurd (never held)
      where
        never : false ≡ true → ⊥
        never e = cc
    drops_so made old hub (Some ports) true held drops = drops
    drops_so made old hub (Some ports) false held (after, releases, is) =
        absurd (sample_releases made.port.number made.taken ports after held releases)

    pub release_is_step : ReleaseIsStep K terms_so choices
    release_is_step number made old hub released there drops =
        by_step variant terms choices (command.Release number) tt old (hub_after_call old (without_sample number old.made) hub) _
        (λ names most state it.
        let ports = it.stands.ports in
        let goes = sample_goes choices terms.degrades terms.decides terms.reader_degrades it.naming it.order old state
        ports number made there in
        let held = is_there choices terms.is_default_header terms.degrades terms.decides terms.reader_degrades types
        it.naming it.order old old state ports number it.ran.grown made there goes.ports goes.found goes.goes goes.mine in (
          (
            true,
            sym (ap (λ (found : Option MadeSample). is_held hub_ports found old.hub) there ∙ held),
            subst (λ (found : Option MadeSample). ReleasesUnder hub_ports with_hub_ports found old.hub true hub) (sym there)
                (drops_so made old.hub hub (hub_ports made.port.domain old.hub) released held drops),
            refl,
            refl,
          ),
          refl,
        ))
