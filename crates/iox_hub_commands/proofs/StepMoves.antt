-- Each command moves one domain at most, by calls of ports, and leaves each service of one agreement.
use Rattle.std.proofs.Common.{◌≡◌, Option, None, Some, Result, Ok, Err, ap}
use Rattle.std.specs.declared.alloc.AllocError.{AllocError}
use Rattle.iox_command.specs.declared.command.Command.{Command}
use Rattle.iox_command.specs.declared.command.Command.TheVariants as command
use Rattle.iox_command.specs.declared.port.PublisherOptions.{PublisherOptions}
use Rattle.iox_command.specs.declared.port.SubscriberOptions.{SubscriberOptions}
use Rattle.iox_command.specs.declared.reply.Reply.{Reply}
use Rattle.iox_command.specs.DomainValues.declared.backpressure.BackpressureAction.{BackpressureAction}
use Rattle.iox_command.specs.DomainValues.declared.backpressure_strategy.BackpressureStrategy.{BackpressureStrategy}
use Rattle.iox_command.specs.DomainValues.declared.degradation.DegradationAction.{DegradationAction}
use Rattle.iox_command.specs.DomainValues.declared.degradation.DegradationCause.{DegradationCause}
use Rattle.iox_command.specs.DomainValues.declared.degradation.DegradationInfo.{DegradationInfo}
use Rattle.iox_hub_base.specs.Opening.{Made as Opened}
use Rattle.iox_hub_commands.specs.Naming.{publisher_config, publisher_handlers, subscriber_config, subscriber_handler}
use Rattle.iox_hub_commands.specs.Services.{PublisherComes, SubscriberComes, domain_of_factory, owner_of_factory}
use Rattle.iox_hub_commands.specs.CommandSteps.{IsReplied, Step, publisher_may_degrade, publisher_may_decide, subscriber_may_degrade}
use Rattle.iox_hub_commands.specs.declared.numbered_hub.NumberedHub.{NumberedHub}
use Rattle.iox_negotiate.proofs.Agreements.{no-past}
use Rattle.iox_hub_commands.specs.Agreements.{AreOfOneAgreement}
use Rattle.iox_hub_commands.specs.Terms.{Terms}
use Rattle.iox_hub_commands.proofs.Agreeing.{same_factories, same_agreed}
use Rattle.iox_hub_commands.proofs.Grown.{MovesOne, Serves, none_moves, no_service_serves}
use Rattle.iox_hub_commands.proofs.PortsMove.{loan_moves, loan_uninit_moves, set_moves, fill_moves, drop_moves, send_moves}
use Rattle.iox_hub_commands.proofs.PortsMove.{put_step_moves, retry_moves, give_up_moves, receive_moves, release_moves, update_moves}
use Rattle.iox_hub_commands.proofs.PortsMove.{has_moves, leave_moves, publisher_moves, subscriber_moves}
use Rattle.iox_hub_commands.proofs.ServicesAgree.{kept_agrees, create_agrees, open_agrees, either_agrees, close_agrees, foreign_agrees}
use Rattle.iox_hub_commands.proofs.ServicesMove.{create_moves, open_moves, either_moves, close_moves, foreign_moves}

module _ {T U B D : Type 0} where
  -- one domain at most moves, comes or goes, and where each service was of one agreement each is
  abbrev pub Goes : NumberedHub T U B D → NumberedHub T U B D → Type 0
  Goes old new = Serves old.hub new.hub × (AreOfOneAgreement old.factories.made old.hub → AreOfOneAgreement new.factories.made new.hub)

  -- a command on ports
  ports_go : (old new : NumberedHub T U B D) → MovesOne old.hub new.hub → new.factories ≡ old.factories → Goes old new
  ports_go old new (id, (stay, grow, (table, keep))) same = (
    (id, (stay, grow)),
    kept_agrees old.factories.made new.factories.made old.hub new.hub (no-past old.hub.table new.hub.table table)
        (same_factories old.factories.made new.factories.made (ap (λ factories. factories.made.entries) same)) keep,
  )

  replied : (does : Reply T → Type 0) (old new : NumberedHub T U B D) (answer : Result (Reply T) AllocError)
      → ((reply : Reply T) → does reply → Goes old new) → IsReplied does answer → Goes old new
  replied does old new (Ok reply) moves done = moves reply done
  replied does old new (Err lacking) moves done = absurd done

  publisher_comes : (is_default : U → Type 0) (fixed : BackpressureStrategy → Option BackpressureAction → DegradationAction → B)
      (degrades : B → DegradationCause → DegradationInfo → DegradationAction → Type 0) (opened : Option Opened) (options : PublisherOptions)
      (old new : NumberedHub T U B D) (answer : Reply T) → PublisherComes is_default fixed degrades opened options old answer new
      → Goes old new
  publisher_comes is_default fixed degrades None options old new answer comes
      = ports_go old new (none_moves old.hub new.hub (ap (λ numbered. numbered.hub) comes.1)) (ap (λ numbered. numbered.factories) comes.1)
  publisher_comes is_default fixed degrades (Some opened) options old new answer (steps, same) =
      ports_go old new (publisher_moves degrades is_default (domain_of_factory opened)
      (publisher_config (owner_of_factory opened) options) options.preallocated_samples (publisher_handlers fixed options) old.made
      new.made old.hub new.hub answer steps) same

  subscriber_comes : (fixed : DegradationAction → D) (degrades : D → DegradationCause → DegradationInfo → DegradationAction → Type 0)
      (opened : Option Opened) (options : SubscriberOptions) (old new : NumberedHub T U B D) (answer : Reply T)
      → SubscriberComes fixed degrades opened options old answer new → Goes old new
  subscriber_comes fixed degrades None options old new answer comes
      = ports_go old new (none_moves old.hub new.hub (ap (λ numbered. numbered.hub) comes.1)) (ap (λ numbered. numbered.factories) comes.1)
  subscriber_comes fixed degrades (Some opened) options old new answer (steps, same) =
      ports_go old new (subscriber_moves degrades (domain_of_factory opened) (subscriber_config (owner_of_factory opened) options)
      (subscriber_handler fixed options) old.made new.made old.hub new.hub answer steps) same

  pub step_goes : (terms : Terms T U B D) (asked : Command T) (old new : NumberedHub T U B D) (answer : Result (Reply T) AllocError)
      → Step terms asked old answer new → Goes old new
  step_goes terms command.Node old new answer step =
      replied _ old new answer (λ reply does. (
        no_service_serves old.hub new.hub (ap (λ numbered. numbered.hub.services) does.1),
        kept_agrees old.factories.made new.factories.made old.hub new.hub
            (no-past old.hub.table new.hub.table (ap (λ numbered. numbered.hub.table) does.1))
            (same_factories old.factories.made new.factories.made (ap (λ numbered. numbered.factories.made.entries) does.1))
            (same_agreed old.hub.services.domains new.hub.services.domains (ap (λ numbered. numbered.hub.services.domains) does.1)),
      )) step
  step_goes terms (command.Create node name options attributes steps) old new answer step =
      replied _ old new answer
      (λ reply does. let (made, opens, same, is)
      = does in (
        create_moves _ terms.payload terms.user_header terms.types _ attributes steps old.factories.made new.factories.made old.hub
            new.hub made opens,
        create_agrees _ terms.payload terms.user_header terms.types _ attributes steps old.factories.made new.factories.made old.hub
            new.hub made opens,
      )) step
  step_goes terms (command.Open node name options requirements steps) old new answer step =
      replied _ old new answer
      (λ reply does. let (made, opens, same, is)
      = does in (
        open_moves _ terms.payload terms.user_header terms.types _ requirements steps old.factories.made new.factories.made old.hub
            new.hub made opens,
        open_agrees _ terms.payload terms.user_header terms.types _ requirements steps old.factories.made new.factories.made old.hub
            new.hub made opens,
      )) step
  step_goes terms (command.OpenOrCreate node name options requirements steps) old new answer step =
      replied _ old new answer
      (λ reply does. let (made, opens, same, is)
      = does in (
        either_moves _ terms.payload terms.user_header terms.types _ requirements steps old.factories.made new.factories.made old.hub
            new.hub made opens,
        either_agrees _ terms.payload terms.user_header terms.types _ requirements steps old.factories.made new.factories.made old.hub
            new.hub made opens,
      )) step
  step_goes terms (command.Foreign pattern name steps) old new answer step =
      replied _ old new answer
      (λ reply does. let (acted, acts, same, is)
      = does in (
        foreign_moves pattern name terms.types steps old.hub new.hub acted acts,
        foreign_agrees pattern name terms.types steps old.factories.made new.factories.made old.hub new.hub acted acts
            (ap (λ numbered. numbered.factories.made) same),
      )) step
  step_goes terms (command.Close factory) old new answer step =
      replied _ old new answer
      (λ reply does. let (closed, closes, same, is)
      = does in (
        close_moves factory _ old.factories.made new.factories.made old.hub new.hub closed closes,
        close_agrees factory _
            old.factories.made new.factories.made old.hub new.hub closed closes,
      )) step
  step_goes terms (command.Publisher factory options) old new answer step =
      replied _ old new answer (λ reply does. publisher_comes terms.is_default_header terms.fixed terms.degrades _ options old new reply
      does) step
  step_goes terms (command.Subscriber factory options) old new answer step =
      replied _ old new answer (λ reply does. subscriber_comes terms.fixed_reader terms.reader_degrades _ options old new reply does) step
  step_goes terms (command.Loan publisher length) old new answer step =
      ports_go old new (loan_moves terms.is_default publisher length old.made new.made old.hub new.hub answer step.0) step.1
  step_goes terms (command.LoanUninit publisher length) old new answer step =
      ports_go old new (loan_uninit_moves publisher length old.made new.made old.hub new.hub answer step.0) step.1
  step_goes terms (command.Set loan place value) old new answer step =
      replied _ old new answer (λ reply does. ports_go old new (set_moves loan place value old.made old.hub new.hub reply does.0)
      (ap (λ numbered. numbered.factories) does.1)) step
  step_goes terms (command.Fill loan values) old new answer step =
      replied _ old new answer (λ reply does. ports_go old new (fill_moves loan values old.made old.hub new.hub reply does.0)
      (ap (λ numbered. numbered.factories) does.1)) step
  step_goes terms (command.Drop loan) old new answer step =
      replied _ old new answer (λ reply does. ports_go old new (drop_moves loan old.made new.made old.hub new.hub reply does.0) does.1) step
  step_goes terms (command.Send loan) old new answer step =
      replied _ old new answer (λ reply does. ports_go old new
      (send_moves (publisher_may_degrade terms.degrades) (publisher_may_decide terms.decides) loan old.made new.made old.hub new.hub reply
      does.0) does.1) step
  step_goes terms (command.Put publisher values) old new answer step =
      replied _ old new answer (λ reply does. ports_go old new
      (put_step_moves (publisher_may_degrade terms.degrades) (publisher_may_decide terms.decides) publisher values old.made old.hub
      new.hub reply does.0) (ap (λ numbered. numbered.factories) does.1)) step
  step_goes terms (command.Retry publisher nanoseconds) old new answer step =
      replied _ old new answer (λ reply does. ports_go old new
      (retry_moves (publisher_may_degrade terms.degrades) (publisher_may_decide terms.decides) publisher nanoseconds old.made old.hub
      new.hub reply does.0) (ap (λ numbered. numbered.factories) does.1)) step
  step_goes terms (command.GiveUp publisher) old new answer step =
      replied _ old new answer (λ reply does. ports_go old new (give_up_moves publisher old.made old.hub new.hub reply does.0)
      (ap (λ numbered. numbered.factories) does.1)) step
  step_goes terms (command.Receive subscriber) old new answer step =
      ports_go old new (receive_moves (publisher_may_degrade terms.degrades) (subscriber_may_degrade terms.reader_degrades) subscriber
      old.made new.made old.hub new.hub answer step.0) step.1
  step_goes terms (command.Read sample) old new answer step =
      ports_go old new (none_moves old.hub new.hub (ap (λ numbered. numbered.hub) step.1)) (ap (λ numbered. numbered.factories) step.1)
  step_goes terms (command.Sequence sample) old new answer step =
      replied _ old new answer (λ reply does. ports_go old new (none_moves old.hub new.hub (ap (λ numbered. numbered.hub) does.1))
      (ap (λ numbered. numbered.factories) does.1)) step
  step_goes terms (command.Release sample) old new answer step =
      replied _ old new answer (λ reply does. ports_go old new (release_moves sample old.made new.made old.hub new.hub reply does.0)
      does.1) step
  step_goes terms (command.Update number) old new answer step =
      replied _ old new answer (λ reply does. ports_go old new
      (update_moves (publisher_may_degrade terms.degrades) (subscriber_may_degrade terms.reader_degrades) number old.made old.hub new.hub
      reply does.0) (ap (λ numbered. numbered.factories) does.1)) step
  step_goes terms (command.Leave number) old new answer step =
      replied _ old new answer (λ reply does. ports_go old new (leave_moves number old.made new.made old.hub new.hub reply does.0)
      does.1) step
  step_goes terms (command.Has subscriber) old new answer step =
      replied _ old new answer (λ reply does. ports_go old new
      (has_moves (publisher_may_degrade terms.degrades) (subscriber_may_degrade terms.reader_degrades) subscriber old.made old.hub new.hub
      reply does.0) (ap (λ numbered. numbered.factories) does.1)) step
