-- A loan is sent by a publisher that followed the list of subscribers first, of a domain and of the machine.
use Rattle.std.proofs.Common.{◌≡◌, ◌&&◌, ℕ, true, false, not, List, Option, None, Some, Result, Ok, Err, refl, sym, ap, subst, ◌∙◌}
use Rattle.std.specs.List.{position_or_len}
use Rattle.std.specs.Prelude.{is_some, MatchResult, ◌==◌}
use Rattle.iox_command.specs.DomainValues.declared.backpressure.BackpressureDecision.{BackpressureDecision}
use Rattle.iox_command.specs.DomainValues.declared.backpressure.BackpressureInfo.{BackpressureInfo}
use Rattle.iox_command.specs.DomainValues.declared.connection_failure.ConnectionFailure.{ConnectionFailure}
use Rattle.iox_command.specs.DomainValues.declared.degradation.DegradationAction.{DegradationAction}
use Rattle.iox_command.specs.DomainValues.declared.degradation.DegradationInfo.{DegradationInfo}
use Rattle.iox_command.specs.DomainValues.declared.port_error.SendError.{SendError}
use Rattle.iox_command.specs.DomainValues.declared.port_error.SendError.TheVariants as error
use Rattle.iox_command.specs.declared.refusal.Refusal.TheVariants as refusal
use Rattle.iox_command.specs.declared.reply.Reply.{Reply}
use Rattle.iox_command.specs.declared.reply.Reply.TheVariants as reply
use Rattle.iox_domain.proofs.Numbered.{at_number, same_set}
use Rattle.iox_domain.proofs.StayRoomy.{stay_roomy}
use Rattle.iox_domain.specs.Calls.{PublisherUpdates}
use Rattle.iox_domain.specs.Container.declared.container.Member.{Member}
use Rattle.iox_domain.specs.DomainPorts.Messages as domain
use Rattle.iox_domain.specs.DomainPorts.PublisherUpdating.{Updates}
use Rattle.iox_domain.specs.DomainPorts.Publishers.{with_port}
use Rattle.iox_domain.specs.DomainPorts.Sending.{begun_at, dropped_at, Finishes}
use Rattle.iox_domain.specs.DomainPorts.declared.attached.Taken.{Taken}
use Rattle.iox_domain.specs.DomainPorts.declared.meeting.Sent.{Sent}
use Rattle.iox_domain.specs.DomainPorts.declared.publisher_port.PublisherPort.{PublisherPort}
use Rattle.iox_domain.specs.DomainPorts.declared.subscriber_entry.SubscriberEntry.{SubscriberEntry}
use Rattle.iox_domain.specs.Ports.{with_publisher}
use Rattle.iox_domain.specs.PortsPublishing.{UpdatesIf}
use Rattle.iox_domain.specs.Rolls.{IsListOf}
use Rattle.iox_domain.specs.Roomy.{AreRoomy}
use Rattle.iox_domain.specs.declared.ports.service_ports.ServicePorts.{ServicePorts}
use Rattle.iox_domain_machine.specs.Naming.{Naming}
use Rattle.iox_domain_machine.specs.SendLaws.{DecidesAs, sent_or_skipped}
use Rattle.iox_domain_machine.specs.Standing.{StandsFor, PublisherIs}
use Rattle.iox_domain_machine.specs.Tables.{LentSlot, loan_as}
use Rattle.iox_domain_machine.proofs.Changing.{with_one}
use Rattle.iox_domain_machine.proofs.Dropping as dropping
use Rattle.iox_domain_machine.proofs.FollowFirst.{ItsUpdate}
use Rattle.iox_domain_machine.proofs.FollowStands.{names_after, publisher_after, service_after, follows_stands}
use Rattle.iox_domain_machine.proofs.Found.{same_some, at_changed}
use Rattle.iox_domain_machine.proofs.GivingUp.{kept_there}
use Rattle.iox_domain_machine.proofs.SendBegins.{begins, message_there}
use Rattle.iox_domain_machine.proofs.SendEnds.{set_twice}
use Rattle.iox_domain_machine.proofs.SendFollows.{follows_lending}
use Rattle.iox_domain_machine.proofs.SendReady.{is_ready, within_limit}
use Rattle.iox_domain_machine.proofs.Writing.{IsThere, is_there, goes_there}
use Rattle.iox_machine.specs.RunLaws.{sent_as}
use Rattle.iox_machine.specs.Message as machine
use Rattle.iox_machine.specs.PortList.{PortList}
use Rattle.iox_machine.specs.PublisherUpdate.{UpdatesFirst}
use Rattle.iox_machine.proofs.Shorthands.{IsRefused}
use Rattle.iox_machine.specs.Sending.{Begins}
use Rattle.iox_machine.specs.Service.{Service, Publisher}
use Rattle.iox_machine.specs.Table.{at, removed}
use Rattle.iox_machine.specs.Choices.{Choices}

module _ {T U : Type 0} (choices : Choices T) (names : Naming) (lent : List (ℕ × LentSlot)) (held : List (ℕ × Taken)) (buffer : ℕ)
    (old : ServicePorts T U)
    (service : Service T) (loan : ℕ) (out : LentSlot) (stands : StandsFor names lent held buffer old service) (roomy : AreRoomy old)
    (goes : at loan lent ≡ Some out) (may : BackpressureInfo → BackpressureDecision → Type 0)
    (may_degrade : DegradationInfo → DegradationAction → Type 0) where
  abbrev there : IsThere old out
  there = is_there names lent held buffer old service loan out stands goes

  abbrev port : PublisherPort T U
  port = there.port

  abbrev name : ℕ
  name = names.publisher out.publisher

  abbrev was : PublisherIs names old service out.publisher port
  was = stands.publishers out.publisher port there.there

  abbrev place : ℕ
  place = dropping.place names lent held buffer old service loan out stands goes

  abbrev message : machine.Message T
  message = message_there choices names lent held buffer old service loan out stands goes may

  abbrev before : Service T
  before = record service { loans = removed loan service.loans }

  -- what the machine does that updates first
  abbrev pub UpdatesAndSends : Reply T → Service T → Type 0
  UpdatesAndSends answered after =
      UpdatesFirst choices name (λ failure. refusal.Send (error.ConnectionError failure)) (Begins choices name message) was.0 before
      answered after

  module _ (listed : List (Option (Member SubscriberEntry))) (outcome : Result (Unit {0}) ConnectionFailure) (updated : PublisherPort T U)
      (tells : IsListOf listed old.subscriber_list) (updates : Updates may_degrade listed old.subscriber_list.changes port outcome updated)
      (standing : port.stands ≡ true) (free : port.sender.uses.sending ≡ None) (decides : DecidesAs choices may name was.0)
      (followed : ItsUpdate names lent held buffer old service stands out.publisher port updated there.there
      (choices.publisher_acts name was.0.degradation) outcome)
      (unseen : (port.seen == old.subscriber_list.changes) ≡ false) where
    abbrev names_now : Naming
    names_now = names_after names lent held buffer old service stands out.publisher port updated there.there
        (choices.publisher_acts name was.0.degradation) outcome followed

    abbrev ports_now : ServicePorts T U
    ports_now = with_one out.publisher updated old

    abbrev service_now : Service T
    service_now = service_after names lent held buffer old service stands out.publisher port updated there.there
        (choices.publisher_acts name was.0.degradation) outcome
        followed

    abbrev publisher_now : Publisher T
    publisher_now = publisher_after names lent held buffer old service stands out.publisher port updated there.there
        (choices.publisher_acts name was.0.degradation) outcome
        followed

    abbrev stands_now : StandsFor names_now lent held buffer ports_now service_now
    stands_now = follows_stands names lent held buffer old service stands out.publisher port updated there.there
        (choices.publisher_acts name was.0.degradation) outcome
        followed

    abbrev there_now : IsThere ports_now out
    there_now = is_there names_now lent held buffer ports_now service_now loan out stands_now goes

    is_updated : there_now.port ≡ updated
    is_updated = same_some there_now.port updated
        (sym there_now.there ∙ same_set (at_number out.publisher) old.publishers updated port there.there)

    standing_now : there_now.port.stands ≡ true
    standing_now = ap (λ (one : PublisherPort T U). one.stands) is_updated ∙ ap (λ (one : PublisherPort T U). one.stands) followed.only
        ∙ standing

    free_now : there_now.port.sender.uses.sending ≡ None
    free_now = ap (λ (one : PublisherPort T U). one.sender.uses.sending) is_updated
        ∙ ap (λ (one : PublisherPort T U). one.sender.uses.sending) followed.only ∙ free

    -- the loan is at the same place
    abbrev place_now : ℕ
    place_now = dropping.place names_now lent held buffer ports_now service_now loan out stands_now goes

    same_place : place ≡ place_now
    same_place =
        ap (position_or_len (λ (one : domain.Loan T U). one.slot == out.slot))
        (sym (ap (λ (one : PublisherPort T U). one.sender.uses.loans) is_updated
        ∙ ap (λ (one : PublisherPort T U). one.sender.uses.loans) followed.only))

    -- and has the same values
    abbrev message_now : machine.Message T
    message_now = message_there choices names_now lent held buffer ports_now service_now loan out stands_now goes may

    same_message : message_now ≡ message
    same_message =
        ap (λ (one : machine.Loan T). sent_as one)
        (same_some (loan_as names_now ports_now out) (loan_as names old out)
        (sym (goes_there names_now lent held buffer ports_now service_now loan out stands_now goes)
        ∙ goes_there names lent held buffer old service loan out stands goes))

    abbrev was_now : PublisherIs names_now ports_now service_now out.publisher there_now.port
    was_now = stands_now.publishers out.publisher there_now.port there_now.there

    is_publisher : was_now.0 ≡ publisher_now
    is_publisher = same_some was_now.0 publisher_now
        (sym was_now.1 ∙ at_changed name publisher_now was.0 service.publishers was.1)

    kept_now : (after : PublisherPort T U) → after.stands ≡ true
        → (with_publisher out.publisher after old) ≡ (with_one out.publisher after ports_now)
    kept_now after still =
        ap (λ publishers. record old { publishers = publishers })
        (kept_there out.publisher after (with_port out.publisher old.publishers after)
        (same_set (at_number out.publisher) old.publishers after port there.there) still
        ∙ sym (set_twice (at_number out.publisher) old.publishers updated after))

    roomy_now : AreRoomy ports_now
    roomy_now =
        subst (λ (ports : ServicePorts T U). AreRoomy ports)
        (ap (λ publishers. record old { publishers = publishers })
        (kept_there out.publisher updated (with_port out.publisher old.publishers updated)
        (same_set (at_number out.publisher) old.publishers updated port there.there)
        (ap (λ (one : PublisherPort T U). one.stands) followed.only ∙ standing)))
        (stay_roomy (λ needed slots. ⊥) may_degrade may (PublisherUpdates out.publisher (Some outcome)) old
        (with_publisher out.publisher updated old) (rw there.there (updated, free_updates, refl)) roomy)
      where
        free_updates : UpdatesIf (port.stands && not (is_some port.sender.uses.sending)) may_degrade old.subscriber_list port (Some outcome)
            updated
        free_updates =
            subst (λ b. UpdatesIf b may_degrade old.subscriber_list port (Some outcome) updated)
            (sym (ap (λ b. b && not (is_some port.sender.uses.sending)) standing
            ∙ ap (λ (sending : Option (domain.Message T U)). not (is_some sending)) free))
            (listed, tells, outcome, updates, refl)

    -- the machine's publisher follows first, and then does this
    abbrev Goes : Result (Unit {0}) ConnectionFailure → Reply T → Service T → Type 0
    Goes result answered after =
        MatchResult result (λ done. Begins choices name message publisher_now (record service_now { loans = removed loan service.loans })
        answered
        after)
        (λ failure. IsRefused (refusal.Send (error.ConnectionError failure))
        (record service_now { loans = removed loan service.loans }) answered after)

    unseen_too : (was.0.seen == before.subscriber_list.changes) ≡ false
    unseen_too =
        ap (λ seen. seen == before.subscriber_list.changes) was.2.seen
        ∙ ap (λ (list : PortList). port.seen == list.changes) stands.subscriber_list ∙ unseen

    follows : (answered : Reply T) (after : Service T) → Goes outcome answered after → UpdatesAndSends answered after
    follows answered after does =
        rw unseen_too (
          publisher_now,
          record service_now { loans = removed loan service.loans },
          follows_lending name (removed loan service.loans) was.0 publisher_now service service_now followed.follows,
          (outcome, followed.answered, does),
        )

    -- its update went well
    pub updated_goes_on : outcome ≡ Ok tt → (answer : Result Sent SendError) (after : PublisherPort T U)
        → Finishes may (begun_at place updated) answer after
        → (new : Service T) × UpdatesAndSends (sent_or_skipped (Some answer)) new
        × StandsFor names_now (removed loan lent) held buffer (with_publisher out.publisher after old) new
    updated_goes_on done answer after finishes =
        let to = begins choices names_now lent held buffer ports_now service_now loan out stands_now goes may free_now standing_now
        (is_ready choices names_now lent held buffer ports_now service_now stands_now roomy_now out.publisher there_now.port there_now.there
        standing_now may was_now.0 (subst (λ (one : Publisher T). DecidesAs choices may name one) (sym is_publisher) decides))
        (within_limit ports_now roomy_now out.publisher there_now.port there_now.there) answer after
        (subst (λ (one : PublisherPort T U). Finishes may (begun_at place_now one) answer after) (sym is_updated)
        (subst (λ n. Finishes may (begun_at n updated) answer after) same_place finishes)) in (
          to.0,
          follows (sent_or_skipped (Some answer)) to.0
              (subst (λ result. Goes result (sent_or_skipped (Some answer)) to.0) (sym done)
              (subst (λ (one : machine.Message T). Begins choices name one publisher_now
              (record service_now { loans = removed loan service.loans })
              (sent_or_skipped {T = T} (Some answer)) to.0) same_message
              (subst (λ (one : Publisher T). Begins choices name message_now one (record service_now { loans = removed loan service.loans })
              (sent_or_skipped {T = T} (Some answer)) to.0) is_publisher to.1))),
          subst (λ (ports : ServicePorts T U). StandsFor names_now (removed loan lent) held buffer ports to.0)
              (sym (kept_now after to.3)) to.2,
        )

    -- its update failed: the loan is given up
    pub updated_fails : (failure : ConnectionFailure) → outcome ≡ Err failure
        → (new : Service T) × UpdatesAndSends (reply.Refused (refusal.Send (error.ConnectionError failure))) new
        × StandsFor names_now (removed loan lent) held buffer (with_publisher out.publisher (dropped_at place updated) old) new
    updated_fails failure is =
        let new : Service T = record service_now { loans = removed loan service.loans } in (
          new,
          follows (reply.Refused (refusal.Send (error.ConnectionError failure))) new
              (subst (λ result. Goes result (reply.Refused (refusal.Send (error.ConnectionError failure))) new) (sym is) (refl, refl)),
          subst (λ (ports : ServicePorts T U). StandsFor names_now (removed loan lent) held buffer ports new)
              (ap (λ (one : PublisherPort T U). with_one out.publisher one ports_now)
              (ap (dropped_at place_now) is_updated ∙ ap (λ n. dropped_at n updated) (sym same_place))
              ∙ sym (kept_now (dropped_at place updated)
              (ap (λ (one : PublisherPort T U). one.stands) followed.only ∙ standing)))
              (dropping.dropped_stands names_now lent held buffer ports_now service_now loan out stands_now goes),
        )
