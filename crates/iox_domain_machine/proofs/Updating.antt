-- A publisher updates its connections, of a domain and of the machine.
use Rattle.std.proofs.Common.{◌≡◌, ◌≢◌, ◌&&◌, ◌==◌, ℕ, Bool, true, false, not, List, Option, None, Some, Result, Ok, Err, refl, sym, ap}
use Rattle.std.proofs.Common.{subst, ◌∙◌}
use Rattle.std.proofs.Math.Logic.{⊎_elim}
use Rattle.std.proofs.lemmas.Bool.{eqb-true}
use Rattle.std.specs.Prelude.{is_some, if◌then◌else◌, MatchOption, MatchResult}
use Rattle.iox_command.specs.DomainValues.declared.connection_failure.ConnectionFailure.{ConnectionFailure}
use Rattle.iox_command.specs.DomainValues.declared.degradation.DegradationAction.{DegradationAction}
use Rattle.iox_command.specs.NegotiateBase.DescribeBase.declared.message_type.MessageTypeDetails.{MessageTypeDetails}
use Rattle.iox_command.specs.declared.command.Command.TheVariants as command
use Rattle.iox_command.specs.declared.port.PortNumber.TheVariants as number_of
use Rattle.iox_command.specs.declared.refusal.Refusal.TheVariants as refusal
use Rattle.iox_command.specs.declared.reply.Reply.{Reply}
use Rattle.iox_command.specs.declared.reply.Reply.TheVariants as reply
use Rattle.iox_domain.proofs.Numbered.{at_number, same_set}
use Rattle.iox_domain.specs.Container.declared.container.Member.{Member}
use Rattle.iox_domain.specs.DomainPorts.Messages.{Message}
use Rattle.iox_domain.specs.DomainPorts.PublisherUpdating as domain
use Rattle.iox_domain.specs.DomainPorts.Publishers.{port_of, with_port}
use Rattle.iox_domain.specs.DomainPorts.declared.attached.Taken.{Taken}
use Rattle.iox_domain.specs.DomainPorts.declared.publisher_port.PublisherPort.{PublisherPort}
use Rattle.iox_domain.specs.DomainPorts.declared.subscriber_entry.SubscriberEntry.{SubscriberEntry}
use Rattle.iox_domain.specs.DomainValues.declared.degradation.DegradationInfo.{DegradationInfo}
use Rattle.iox_domain.specs.PortLawsLaws.{IsApart}
use Rattle.iox_domain.specs.Ports.{AtPublisher, with_publisher}
use Rattle.iox_domain.specs.PortsPublishing.{UpdatesIf, UpdatesOne}
use Rattle.iox_domain.specs.Rolls.{IsListOf}
use Rattle.iox_domain.specs.SizeLaws.{AreAllowed}
use Rattle.iox_domain.specs.declared.ports.service_ports.ServicePorts.{ServicePorts}
use Rattle.iox_domain_machine.specs.Laws.{Matches}
use Rattle.iox_domain_machine.specs.Naming.{Naming, with_name}
use Rattle.iox_domain_machine.specs.PublisherUpdateLaws.{PublisherUpdateMatches, DegradesAs}
use Rattle.iox_domain_machine.specs.SubscriberUpdateLaws.{updated_or_skipped}
use Rattle.iox_domain_machine.specs.Publishers.{BlockedStandsFor}
use Rattle.iox_domain_machine.specs.Standing.{StandsFor, PublisherIs}
use Rattle.iox_domain_machine.specs.Tables.{LentSlot}
use Rattle.iox_domain_machine.proofs.Alone.{alone_does, alone_skips}
use Rattle.iox_domain_machine.proofs.Changing.{one_changed}
use Rattle.iox_domain_machine.proofs.FollowFirst.{ItsUpdate, update_is, does_at_once, does_then}
use Rattle.iox_domain_machine.proofs.FollowStands.{publisher_after, service_after, follows_stands}
use Rattle.iox_domain_machine.proofs.Found.{same_some, never_some, same_everywhere}
use Rattle.iox_domain_machine.proofs.GivingUp.{some_of, is_in, isn't_in, kept_there, none_blocked}
use Rattle.iox_domain_machine.proofs.Kept.{loans_kept, samples_kept}
use Rattle.iox_machine.specs.Choices.{Choices}
use Rattle.iox_machine.specs.Ports.{publisher_in}
use Rattle.iox_machine.specs.PublisherUpdate.{UpdatesFirst}
use Rattle.iox_machine.proofs.Shorthands.{IsSkipped, IsRefused}
use Rattle.iox_machine.specs.Service.{Publisher, Service}
use Rattle.iox_machine.specs.State.{State}
use Rattle.iox_machine.specs.Table.{at}

module _ {T U : Type 0} (types : MessageTypeDetails) (choices : Choices T) (buffer : ℕ) (names : Naming) (lent : List (ℕ × LentSlot))
    (held : List (ℕ × Taken)) (old : ServicePorts T U) (service : Service T) (state : State T) (number : ℕ)
    (may : DegradationInfo → DegradationAction → Type 0)
    (stands : StandsFor names lent held buffer old service) (apart : IsApart old) (allowed : AreAllowed old)
    (named_so : names.publisher number ≢ 0) (degrades : DegradesAs choices may (names.publisher number) service) where
  abbrev name : ℕ
  name = names.publisher number

  abbrev IsDone : Publisher T → Service T → Reply T → Service T → Type 0
  IsDone one before answered later = (answered ≡ reply.Done) × (later ≡ before)

  abbrev Does : Publisher T → Service T → Reply T → Service T → Type 0
  Does one before answered later = MatchOption one.blocked (UpdatesFirst choices name refusal.Connection IsDone one before answered later)
      (λ send. IsSkipped before answered later)

  abbrev Outcome : Option (Result (Unit {0}) ConnectionFailure) → ServicePorts T U → Type 0
  Outcome answer new =
      (reader : ℕ → ℕ) × Matches T U choices types buffer (command.Update (number_of.Publisher name)) (updated_or_skipped answer) state
      service (record names { reader = with_name number reader names.reader }) lent held new

  same_names : with_name number (names.reader number) names.reader ≡ names.reader
  same_names = same_everywhere (with_name number (names.reader number) names.reader) names.reader (λ other. by other (other == number) refl)
    where
      by : (other : ℕ) (b : Bool) → (other == number) ≡ b → with_name number (names.reader number) names.reader other ≡ names.reader other
      by other true is =
          ap (λ b. if b then names.reader number else names.reader other) is ∙ ap names.reader (sym (eqb-true other number is))
      by other false is = ap (λ b. if b then names.reader number else names.reader other) is

  -- where no connection is made the names are the same
  stays : (new : ServicePorts T U) → StandsFor names lent held buffer new service
      → StandsFor (record names { reader = with_name number (names.reader number) names.reader }) lent held buffer new service
  stays new it = subst (λ reader. StandsFor (record names { reader = reader }) lent held buffer new service) (sym same_names) it

  skips_left : (publisher : Publisher T) → at name service.publishers ≡ Some publisher → publisher.stands ≡ false → Outcome None old
  skips_left publisher is gone = (
    names.reader number,
    (
      service,
      alone_skips (publisher_in name) Does state service (isn't_in service name publisher is gone),
      stays old stands,
    ),
  )

  there_none : port_of number old.publishers ≡ None → Outcome None old
  there_none none =
      let found = some_of (at name service.publishers) (stands.named_publishers.known number named_so) in
      skips_left found.0 found.1 (stands.gone_publishers number found.0 none found.1)

  module _ (port : PublisherPort T U) (there : port_of number old.publishers ≡ Some port) where
    abbrev found : PublisherIs names old service number port
    found = stands.publishers number port there

    abbrev May : DegradationAction → Type 0
    May = choices.publisher_acts name found.0.degradation

    skips_blocked : (message : Message T U) → port.stands ≡ true → port.sender.uses.sending ≡ Some message → Outcome None old
    skips_blocked message standing waits =
        let blocked = subst (λ (sending : Option (Message T U)). BlockedStandsFor
        (names.message number) found.0.connected port.progress sending found.0.blocked) waits found.2.blocked in (
          names.reader number,
          (
            service,
            alone_does (publisher_in name) Does state service service reply.Skipped found.0
                (is_in service name found.0 found.1 (found.2.stands ∙ standing)) (rw blocked.1 (refl, refl)),
            stays old stands,
          ),
        )

    module _ (standing : port.stands ≡ true) (silent : port.sender.uses.sending ≡ None) where
      free : found.0.blocked ≡ None
      free = none_blocked (names.message number) found.0.connected port.progress port.sender.uses.sending found.0.blocked silent
          found.2.blocked

      here : found.0.stands ≡ true
      here = found.2.stands ∙ standing

      -- a publisher of which no send is blocked updates first
      does_free : (answered : Reply T) (later : Service T)
          → UpdatesFirst choices name refusal.Connection IsDone found.0 service answered later
          → Does found.0 service answered later
      does_free answered later it =
          subst (λ blocked. MatchOption blocked (UpdatesFirst choices name refusal.Connection IsDone found.0 service answered later)
          (λ send. IsSkipped service answered later)) (sym free) it

      -- nothing changed since the last update
      unchanged : (port.seen == old.subscriber_list.changes) ≡ true → Outcome (Some (Ok tt)) (with_publisher number port old)
      unchanged seen = (
        names.reader number,
        (
          service,
          alone_does (publisher_in name) Does state service service reply.Done found.0 (is_in service name found.0 found.1 here)
              (does_free reply.Done service (does_at_once choices names lent held buffer old service stands number port port there (Ok tt)
              refusal.Connection IsDone reply.Done service seen (refl, refl))),
          stays (with_publisher number port old)
              (subst (λ (ports : List (ℕ × PublisherPort T U)).
              StandsFor names lent held buffer (record old { publishers = ports }) service)
              (sym (kept_there number port (with_port number old.publishers port)
              (same_set (at_number number) old.publishers port port there) standing))
              (one_changed names names.message lent lent held buffer old service number port port found.0 service.publishers service.loans
              stands there (λ other off. refl) found.1 (λ other off. refl) found.2 found.3 refl refl refl refl
              (loans_kept number port port old there names lent service.loans refl stands.loans)
              (samples_kept number port port old there names held service.samples refl stands.samples))),
        ),
      )

      module _ (after : PublisherPort T U) (answer : Result (Unit {0}) ConnectionFailure)
          (followed : ItsUpdate names lent held buffer old service stands number port after there May answer)
          (seen : (port.seen == old.subscriber_list.changes) ≡ false) where
        abbrev later : Service T
        later = service_after names lent held buffer old service stands number port after there May answer followed

        abbrev one_after : Publisher T
        one_after = publisher_after names lent held buffer old service stands number port after there May answer followed

        abbrev Ends : Result (Unit {0}) ConnectionFailure → Type 0
        Ends result = MatchResult result (λ done. IsDone one_after later (updated_or_skipped {T = T} (Some answer)) later)
            (λ failure. IsRefused (refusal.Connection failure) later (updated_or_skipped {T = T} (Some answer)) later)

        ends : (result : Result (Unit {0}) ConnectionFailure) → answer ≡ result → Ends result
        ends (Ok done) is = (ap (λ (one : Result (Unit {0}) ConnectionFailure). updated_or_skipped (Some one)) is, refl)
        ends (Err failure) is = (ap (λ (one : Result (Unit {0}) ConnectionFailure). updated_or_skipped (Some one)) is, refl)

        standing_after : after.stands ≡ true
        standing_after = ap (λ (one : PublisherPort T U). one.stands) followed.only ∙ standing

        changed : Outcome (Some answer) (with_publisher number after old)
        changed = (
          followed.new_reader,
          (
            later,
            alone_does (publisher_in name) Does state service later (updated_or_skipped (Some answer)) found.0
                (is_in service name found.0 found.1 here)
                (does_free (updated_or_skipped (Some answer)) later
                (does_then choices names lent held buffer old service stands number port after
                there answer refusal.Connection IsDone (updated_or_skipped (Some answer)) later seen
                followed (ends answer refl))),
            subst (λ (ports : List (ℕ × PublisherPort T U)).
                StandsFor (record names { reader = with_name number followed.new_reader names.reader }) lent held buffer
                (record old { publishers = ports }) later)
                (sym (kept_there number after (with_port number old.publishers after)
                (same_set (at_number number) old.publishers after port there) standing_after))
                (follows_stands names lent held buffer old service stands number port after there May answer followed),
          ),
        )

      updates : (after : PublisherPort T U) (listed : List (Option (Member SubscriberEntry))) (answer : Result (Unit {0}) ConnectionFailure)
          → IsListOf listed old.subscriber_list
          → domain.Updates may listed old.subscriber_list.changes port answer after
          → Outcome (Some answer) (with_publisher number after old)
      updates after listed answer tells is = ⊎_elim
          (λ same. subst (λ (one : PublisherPort T U). Outcome (Some answer) (with_publisher number one old)) (sym same.2)
          (subst (λ result. Outcome (Some result) (with_publisher number port old)) (sym same.1) (unchanged same.0)))
          (λ other. changed after answer other.1 other.0)
          (update_is names lent held buffer old service stands number port after there May answer may apart allowed standing silent
          (degrades found.0 found.1 here) listed tells is)

    -- what comes of a call at a publisher that is there
    by : (answer : Option (Result (Unit {0}) ConnectionFailure)) (new : ServicePorts T U) (standing : Bool)
        (waiting : Option (Message T U)) → port.stands ≡ standing → port.sender.uses.sending ≡ waiting
        → AtPublisher number (λ (one : PublisherPort T U). UpdatesIf (standing && not (is_some waiting)) may old.subscriber_list one)
        (Some port) old answer new → Outcome answer new
    by None new false waiting gone sends call = rw call.2 (skips_left found.0 found.1 (found.2.stands ∙ gone))
    by (Some value) new false waiting gone sends call = never_some value (sym call.1.0)
    by None new true (Some message) standing sends call = rw call.2 (skips_blocked message standing sends)
    by (Some value) new true (Some message) standing sends call = never_some value (sym call.1.0)
    by None new true None standing sends call = never_some call.1.2 call.1.4
    by (Some value) new true None standing sends call =
        subst (λ (ports : ServicePorts T U). Outcome (Some value) ports) (sym call.2)
        (subst (λ result. Outcome (Some result) (with_publisher number call.0 old)) (sym (same_some value call.1.2 call.1.4))
        (updates standing sends call.0 call.1.0 call.1.2 call.1.1 call.1.3))

  by_port : (found : Option (PublisherPort T U)) → port_of number old.publishers ≡ found
      → (answer : Option (Result (Unit {0}) ConnectionFailure)) (new : ServicePorts T U)
      → AtPublisher number (UpdatesOne may old.subscriber_list) found old answer new → Outcome answer new
  by_port None none answer new call = rw call.0 (rw call.1 (there_none none))
  by_port (Some port) there answer new call = by port there answer new port.stands port.sender.uses.sending refl refl call

  updates_publisher : (answer : Option (Result (Unit {0}) ConnectionFailure)) (new : ServicePorts T U)
      → AtPublisher number (UpdatesOne may old.subscriber_list) (port_of number old.publishers) old answer new → Outcome answer new
  updates_publisher answer new call = by_port (port_of number old.publishers) refl answer new call

pub publisher_update_matches : (T U : Type 0) (choices : Choices T) (may : DegradationInfo → DegradationAction → Type 0)
    → PublisherUpdateMatches T U choices may
publisher_update_matches T U choices may types buffer names lent held old new service state number answer stands apart allowed
    named degrades call =
    updates_publisher types choices buffer names lent held old service state number may stands apart allowed named degrades
    answer new call
