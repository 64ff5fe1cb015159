-- What each command on ports leaves of a hub, and that its reply tells no node and no factory.
use Rattle.std.proofs.Common.{◌≡◌, ℕ, Bool, true, false, List, Option, None, Some, Result, Ok, Err, if◌then◌else◌, refl, sym, ap, subst}
use Rattle.std.specs.Option.{unwrap_or}
use Rattle.std.specs.Prelude.{length, replicate}
use Rattle.std.specs.declared.alloc.AllocError.{AllocError}
use Rattle.iox_command.specs.DomainValues.declared.backpressure.BackpressureAction.{BackpressureAction}
use Rattle.iox_command.specs.DomainValues.declared.backpressure.BackpressureDecision.{BackpressureDecision}
use Rattle.iox_command.specs.DomainValues.declared.backpressure.BackpressureInfo.{BackpressureInfo}
use Rattle.iox_command.specs.DomainValues.declared.backpressure_strategy.BackpressureStrategy.{BackpressureStrategy}
use Rattle.iox_command.specs.DomainValues.declared.connection_failure.ConnectionFailure.{ConnectionFailure}
use Rattle.iox_command.specs.DomainValues.declared.create_error.PublisherCreateError.{PublisherCreateError}
use Rattle.iox_command.specs.DomainValues.declared.create_error.SubscriberCreateError.{SubscriberCreateError}
use Rattle.iox_command.specs.DomainValues.declared.degradation.DegradationAction.{DegradationAction}
use Rattle.iox_command.specs.DomainValues.declared.degradation.DegradationCause.{DegradationCause}
use Rattle.iox_command.specs.DomainValues.declared.degradation.DegradationCause.TheVariants.{FailedToEstablishConnection}
use Rattle.iox_command.specs.DomainValues.declared.degradation.DegradationInfo.{DegradationInfo}
use Rattle.iox_command.specs.DomainValues.declared.port_error.LoanError.{LoanError}
use Rattle.iox_command.specs.DomainValues.declared.port_error.ReceiveError.{ReceiveError}
use Rattle.iox_command.specs.DomainValues.declared.port_error.SendError.{SendError}
use Rattle.iox_command.specs.declared.command.Command.{Command}
use Rattle.iox_command.specs.declared.command.Command.TheVariants as command
use Rattle.iox_command.specs.declared.port.PortNumber.TheVariants as port
use Rattle.iox_command.specs.declared.port.PublisherOptions.{PublisherOptions}
use Rattle.iox_command.specs.declared.port.SubscriberOptions.{SubscriberOptions}
use Rattle.iox_command.specs.declared.reply.Reply.{Reply}
use Rattle.iox_command.specs.declared.reply.Reply.TheVariants as reply
use Rattle.iox_container.specs.NumberTable.{value_at}
use Rattle.iox_delivery.specs.Publishing.{AfterLoan}
use Rattle.iox_delivery.specs.Slices.{FillsLent, WritesAndSends, each_written_in}
use Rattle.iox_delivery.specs.Subscribing.{ReleasesOne}
use Rattle.iox_delivery.specs.declared.port_id.PortId.{PortId}
use Rattle.iox_domain.specs.DomainPorts.Messages.{write_all}
use Rattle.iox_domain.specs.DomainPorts.MessagesSending.{has_length}
use Rattle.iox_domain.specs.DomainPorts.declared.meeting.Sent.{Sent}
use Rattle.iox_domain.specs.DomainPorts.declared.meeting.Sent.TheVariants as sent
use Rattle.iox_domain.specs.Lending.{gave_up_in, written_in}
use Rattle.iox_domain.specs.Steps as steps
use Rattle.iox_domain.specs.declared.domain_id.DomainId.{DomainId}
use Rattle.iox_domain.specs.declared.ports.service_ports.ServicePorts.{ServicePorts}
use Rattle.iox_hub_base.specs.AsHome.{hub_ports, with_hub_ports, with_hub_publisher, with_hub_subscriber, without_hub_publisher}
use Rattle.iox_hub_base.specs.AsHome.{without_hub_subscriber}
use Rattle.iox_hub_base.specs.Opening.{Made as Opened}
use Rattle.iox_hub_base.specs.ServicesAsHome.{publisher_forgotten, publisher_kept, subscriber_forgotten, subscriber_kept}
use Rattle.iox_hub_base.specs.declared.hub.Hub.{Hub}
use Rattle.iox_hub_commands.specs.Calls.{AtPort, AtPortIf, Follows, FollowsPublishers, GivesUp, Lends, LendsWritten, PublisherGoes, Puts}
use Rattle.iox_hub_commands.specs.Calls.{Receives, Retries, SubscriberGoes, Tells, ready}
use Rattle.iox_hub_commands.specs.CommandSteps as hub
use Rattle.iox_hub_commands.specs.CommandSteps.{publisher_may_decide, publisher_may_degrade, subscriber_may_degrade}
use Rattle.iox_hub_commands.specs.Growing.{GrowsFirst}
use Rattle.iox_hub_commands.specs.Lending.{lent_reply}
use Rattle.iox_hub_commands.specs.Loans.{SendsUnder, changed_under, filled_in, set_in}
use Rattle.iox_hub_commands.specs.Messages.{IsReadReply}
use Rattle.iox_hub_commands.specs.Naming.{publisher_config, publisher_handlers, subscriber_config, subscriber_handler}
use Rattle.iox_hub_commands.specs.Numbering.{LendsNumbered, LendsWrittenNumbered, ReceivesNumbered}
use Rattle.iox_hub_commands.specs.Reading.{ReleasesUnder, sequence_under, values_under}
use Rattle.iox_hub_commands.specs.Receiving.{IsArrival, IsReceiveReply, IsTold}
use Rattle.iox_hub_commands.specs.Replies.{done_reply, given_up_reply, has_reply, loan_reply, publisher_reply, sent_reply, subscriber_reply}
use Rattle.iox_hub_commands.specs.Replies.{sequence_reply, updated_reply}
use Rattle.iox_hub_commands.specs.Services.{PublisherComes, SubscriberComes, domain_of_factory, owner_of_factory}
use Rattle.iox_hub_commands.specs.ServicesTables.{publish_subscribe_in}
use Rattle.iox_hub_commands.specs.Tables.{IsFull, lender, port_under}
use Rattle.iox_hub_commands.specs.declared.numbered_hub.NumberedHub.{NumberedHub}
use Rattle.iox_hub_commands.specs.declared.ports.made.Made.{Made}
use Rattle.iox_hub_commands.specs.declared.ports.made.MadeLoan.{MadeLoan}
use Rattle.iox_hub_commands.specs.declared.ports.made.MadeSample.{MadeSample}
use Rattle.iox_hub_commands.specs.Terms.{Terms}
use Rattle.iox_hub_machine.proofs.Resting.{Rests, at_domain_rests, changed_rests, leaves_rests, makes_rests, rests_same, rests_then}
use Rattle.iox_hub_machine.proofs.Resting.{step_rests}
use Rattle.iox_machine.proofs.Ported.{is_of_ports}
use Rattle.iox_machine.specs.State as machine
use Rattle.iox_machine.specs.State.{counted}

-- ---- replies

-- A reply tells no node and no factory.
pub record CountsNeither {T : Type 0} (answer : Reply T) : Type 0 where
  pub nodes : (made : machine.Made) → (counted answer made).nodes ≡ made.nodes
  pub factories : (made : machine.Made) → (counted answer made).factories ≡ made.factories

module _ {T : Type 0} where
  neither_by : (one answer : Reply T) → answer ≡ one → CountsNeither one → CountsNeither answer
  neither_by one answer is neither = subst CountsNeither (sym is) neither

  skipped : CountsNeither {T = T} reply.Skipped
  skipped = record { nodes = λ made. refl; factories = λ made. refl }

  refused : (answer : Reply T) → ((made : machine.Made) → counted answer made ≡ made) → CountsNeither answer
  refused answer none = record {
    nodes = λ made. ap (λ (it : machine.Made). it.nodes) (none made);
    factories = λ made. ap (λ (it : machine.Made). it.factories) (none made);
  }

  lent_neither : (lent : Option (Result ℕ LoanError)) → CountsNeither {T = T} (loan_reply lent)
  lent_neither None = skipped
  lent_neither (Some (Ok number)) = record { nodes = λ made. refl; factories = λ made. refl }
  lent_neither (Some (Err error)) = refused _ (λ made. refl)

  sent_neither : (it : Option (Result Sent SendError)) → CountsNeither {T = T} (sent_reply it)
  sent_neither None = skipped
  sent_neither (Some (Ok (sent.Delivered count))) = refused _ (λ made. refl)
  sent_neither (Some (Ok sent.Blocked)) = refused _ (λ made. refl)
  sent_neither (Some (Err error)) = refused _ (λ made. refl)

  given_neither : (count : Option ℕ) → CountsNeither {T = T} (given_up_reply count)
  given_neither None = skipped
  given_neither (Some count) = refused _ (λ made. refl)

  updated_neither : (outcome : Option (Result (Unit {0}) ConnectionFailure)) → CountsNeither {T = T} (updated_reply outcome)
  updated_neither None = skipped
  updated_neither (Some (Ok done)) = refused _ (λ made. refl)
  updated_neither (Some (Err error)) = refused _ (λ made. refl)

  has_neither : (outcome : Option (Result Bool ConnectionFailure)) → CountsNeither {T = T} (has_reply outcome)
  has_neither None = skipped
  has_neither (Some (Ok has)) = refused _ (λ made. refl)
  has_neither (Some (Err error)) = refused _ (λ made. refl)

  done_neither : (done : Bool) → CountsNeither {T = T} (done_reply done)
  done_neither true = refused _ (λ made. refl)
  done_neither false = skipped

  came_neither : (came : Option (Result ℕ PublisherCreateError)) → CountsNeither {T = T} (publisher_reply came)
  came_neither None = skipped
  came_neither (Some (Ok number)) = record { nodes = λ made. refl; factories = λ made. refl }
  came_neither (Some (Err error)) = refused _ (λ made. refl)

  arrived_neither : (came : Option (Result ℕ SubscriberCreateError)) → CountsNeither {T = T} (subscriber_reply came)
  arrived_neither None = skipped
  arrived_neither (Some (Ok number)) = record { nodes = λ made. refl; factories = λ made. refl }
  arrived_neither (Some (Err error)) = refused _ (λ made. refl)

  read_neither : (found : Option (List T)) (answer : Reply T) → IsReadReply found answer → CountsNeither answer
  read_neither None answer is = neither_by reply.Skipped answer is skipped
  read_neither (Some found) answer (values, are, is) = neither_by (reply.Values values) answer is (refused _ (λ made. refl))

  sequence_neither : (sequence : Option (Option ℕ)) → CountsNeither {T = T} (sequence_reply sequence)
  sequence_neither None = skipped
  sequence_neither (Some sequence) = refused _ (λ made. refl)

  arrival_neither : (sample : ℕ) (found : Option (List T)) (answer : Reply T) → IsArrival sample found answer → CountsNeither answer
  arrival_neither sample None answer is = absurd is
  arrival_neither sample (Some found) answer (values, are, is) =
      neither_by (reply.Received sample values) answer is record { nodes = λ made. refl; factories = λ made. refl }

  received_neither : (read : ℕ → Option (List T)) (received : Option (Result (Option ℕ) ReceiveError)) (answer : Reply T)
      → IsReceiveReply read received answer → CountsNeither answer
  received_neither read None answer is = neither_by reply.Skipped answer is skipped
  received_neither read (Some (Err error)) answer is = neither_by _ answer is (refused _ (λ made. refl))
  received_neither read (Some (Ok None)) answer is = neither_by reply.NothingWaits answer is (refused _ (λ made. refl))
  received_neither read (Some (Ok (Some sample))) answer is = arrival_neither sample (read sample) answer is

  told_neither : (read : ℕ → Option (List T)) (received : Result (Option (Result (Option ℕ) ReceiveError)) AllocError) (answer : Reply T)
      → IsTold read received (Ok answer) → CountsNeither answer
  told_neither read (Err lacking) answer is = absurd (differ is)
    where
      differ : Ok answer ≡ Err lacking → ⊥
      differ e = cc
  told_neither read (Ok received) answer is = received_neither read received answer is

  loaned_neither : (lent : Result (Option (Result ℕ LoanError)) AllocError) (answer : Reply T) → Ok answer ≡ lent_reply lent
      → CountsNeither answer
  loaned_neither (Ok lent) answer is = neither_by (loan_reply lent) answer (same is) (lent_neither lent)
    where
      same : ◌≡◌ {A = Result (Reply T) AllocError} (Ok answer) (Ok (loan_reply lent)) → answer ≡ loan_reply lent
      same e = cc
  loaned_neither (Err lacking) answer is = absurd (differ is)
    where
      differ : ◌≡◌ {A = Result (Reply T) AllocError} (Ok answer) (Err lacking) → ⊥
      differ e = cc

-- ---- commands

module _ {T U B D : Type 0} where
  at_port : {A : Type 0} (does : PortId → Hub T U B D → Option A → Hub T U B D → Type 0)
      → ((it : PortId) (old new : Hub T U B D) (answer : Option A) → does it old answer new → Rests old new)
      → (found : Option PortId) (old new : Hub T U B D) (answer : Option A) → AtPort does found old answer new → Rests old new
  at_port does rests None old new answer at = rests_same old new at.1
  at_port does rests (Some it) old new answer at = rests it old new answer at

  at_port_if : (does : PortId → Hub T U B D → Bool → Hub T U B D → Type 0)
      → ((it : PortId) (old new : Hub T U B D) (answer : Bool) → does it old answer new → Rests old new)
      → (found : Option PortId) (old new : Hub T U B D) (answer : Bool) → AtPortIf does found old answer new → Rests old new
  at_port_if does rests None old new answer at = rests_same old new at.1
  at_port_if does rests (Some it) old new answer at = rests it old new answer at

  first : {A : Type 0} (is_full : Type 0) (does : Made → Hub T U B D → A → Made → Hub T U B D → Type 0)
      → ((made after : Made) (old new : Hub T U B D) (answer : A) → does made old answer after new → Rests old new)
      → (made after : Made) (old new : Hub T U B D) (answer : Result A AllocError) → GrowsFirst is_full does made old answer after new
      → Rests old new
  first is_full does rests made after old new (Err lacking) goes = rests_same old new goes.2
  first is_full does rests made after old new (Ok answer) (roomier, is_roomier, done) = rests roomier after old new answer done

  filled : (it : PortId) (elements : ℕ) (value : T) (lent answer : Result ℕ LoanError) (old new : Hub T U B D)
      → AfterLoan Err (FillsLent hub_ports with_hub_ports it elements value) lent old answer new → Rests old new
  filled it elements value (Err error) answer old new after = rests_same old new after.1
  filled it elements value (Ok slot) answer old new ((is, more), is_answer) =
      subst (Rests old) (sym is) (changed_rests it.domain (each_written_in it.number slot (replicate elements value))
      (hub_ports it.domain old) old)

  lends_written : (elements : ℕ) (value : T) (it : PortId) (old new : Hub T U B D) (answer : Option (Result ℕ LoanError))
      → LendsWritten hub_ports with_hub_ports elements value it old answer new → Rests old new
  lends_written elements value it old new answer (came, (lent, middle, lends, fills), is_ready, is) =
      rests_then old middle new
      (at_domain_rests it.domain (steps.LoansBy it.number elements elements) (hub_ports it.domain old) old middle (Some lent) lends)
      (filled it elements value lent came middle new fills)

  under : (change : ℕ → ℕ → ServicePorts T U → ServicePorts T U) (found : Option MadeLoan) (old : Hub T U B D)
      → Rests old (changed_under hub_ports with_hub_ports change found old)
  under change None old = rests_same old old refl
  under change (Some made) old =
      changed_rests made.port.domain (change made.port.number made.slot) (hub_ports made.port.domain old) old

  under_if : (done : Bool) (change : ℕ → ℕ → ServicePorts T U → ServicePorts T U) (found : Option MadeLoan) (old new : Hub T U B D)
      → new ≡ (if done then changed_under hub_ports with_hub_ports change found old else old) → Rests old new
  under_if false change found old new is = rests_same old new is
  under_if true change found old new is = subst (Rests old) (sym is) (under change found old)

  module _ (degrades : DomainId → ℕ → Hub T U B D → DegradationInfo → DegradationAction → Type 0)
      (decides : DomainId → ℕ → Hub T U B D → BackpressureInfo → BackpressureDecision → Type 0) where
    sends_under : (found : Option MadeLoan) (old new : Hub T U B D) (answer : Option (Result Sent SendError))
        → SendsUnder hub_ports with_hub_ports degrades decides found old answer new → Rests old new
    sends_under None old new answer sends = rests_same old new sends.1
    sends_under (Some made) old new answer sends =
        at_domain_rests made.port.domain _ (hub_ports made.port.domain old) old new answer sends

    sent_after : (it : PortId) (values : List T) (refusal : LoanError → Result Sent SendError) (lent : Result ℕ LoanError)
        (answer : Result Sent SendError) (old new : Hub T U B D)
        → AfterLoan refusal (WritesAndSends hub_ports with_hub_ports degrades decides it values) lent old answer new → Rests old new
    sent_after it values refusal (Err error) answer old new after = rests_same old new after.1
    sent_after it values refusal (Ok slot) answer old new (middle, writes, is_ready, sends) =
        rests_then old middle new
        (subst (Rests old) (sym writes) (changed_rests it.domain
        (written_in it.number (λ publisher. has_length slot (length values) publisher.sender.uses) slot (write_all values))
        (hub_ports it.domain old) old))
        (at_domain_rests it.domain _ (hub_ports it.domain middle) middle new (Some answer) sends)

    puts : (values : List T) (it : PortId) (old new : Hub T U B D) (answer : Option (Result Sent SendError))
        → Puts hub_ports with_hub_ports degrades decides values it old answer new → Rests old new
    puts values it old new answer (came, (lent, middle, lends, sends), is) =
        rests_then old middle new
        (at_domain_rests it.domain (steps.LoansBy it.number (length values) (length values)) (hub_ports it.domain old) old middle
        (Some lent) lends)
        (sent_after it values _ lent came middle new sends)

  releases_under : (found : Option MadeSample) (done : Bool) (old new : Hub T U B D)
      → ReleasesUnder hub_ports with_hub_ports found old done new → Rests old new
  releases_under None false old new is = rests_same old new is
  releases_under (Some held) false old new is = rests_same old new is
  releases_under None true old new never = absurd never
  releases_under (Some held) true old new at =
      at_domain_rests held.port.domain (ReleasesOne held.port.number held.taken) (hub_ports held.port.domain old) old new (Some tt) at

  -- What a command on ports leaves: the factories, all of the hub but its domains, and what each of these is for. Its reply tells no node
  -- and no factory.
  pub record Leaves (old new : NumberedHub T U B D) (answer : Reply T) : Type 0 where
    pub factories : new.factories ≡ old.factories
    pub hub : Rests old.hub new.hub
    pub told : CountsNeither answer

  by_hub : (old new : NumberedHub T U B D) (answer : Reply T) → new ≡ record old { hub = new.hub } → Rests old.hub new.hub
      → CountsNeither answer → Leaves old new answer
  by_hub old new answer is rests told =
      record { factories = ap (λ (it : NumberedHub T U B D). it.factories) is; hub = rests; told = told }

  publisher_comes : (is_default : U → Type 0) (fixed : BackpressureStrategy → Option BackpressureAction → DegradationAction → B)
      (degrades : B → DegradationCause → DegradationInfo → DegradationAction → Type 0) (opened : Option Opened)
      (options : PublisherOptions) (old new : NumberedHub T U B D) (answer : Reply T)
      → PublisherComes is_default fixed degrades opened options old answer new → Leaves old new answer
  publisher_comes is_default fixed degrades None options old new answer (told, same) = record {
    factories = ap (λ (it : NumberedHub T U B D). it.factories) same;
    hub = rests_same old.hub new.hub (ap (λ (it : NumberedHub T U B D). it.hub) same);
    told = neither_by reply.Skipped answer told skipped;
  }
  publisher_comes is_default fixed degrades (Some opened) options old new answer
      ((user_header, is_header, came, (roomier, is_roomier, (outcome, comes, numbers)), told), same) = record {
        factories = same;
        hub = makes_rests (domain_of_factory opened)
            (λ number. with_hub_publisher (domain_of_factory opened) number (publisher_handlers fixed options))
            (steps.PublisherComes (λ worst_case named. named ≡ unwrap_or options.preallocated_samples worst_case)
            (degrades (publisher_handlers fixed options) FailedToEstablishConnection)
            (publisher_config (owner_of_factory opened) options) user_header)
            (steps.why_no_publisher (publisher_config (owner_of_factory opened) options))
            (λ number hub. step_rests (domain_of_factory opened) (publisher_kept number (publisher_handlers fixed options)) hub
            (λ domain. refl))
            (hub_ports (domain_of_factory opened) old.hub) old.hub new.hub outcome comes;
        told = neither_by (publisher_reply came) answer told (came_neither came);
      }

  subscriber_comes : (fixed : DegradationAction → D) (degrades : D → DegradationCause → DegradationInfo → DegradationAction → Type 0)
      (opened : Option Opened) (options : SubscriberOptions) (old new : NumberedHub T U B D) (answer : Reply T)
      → SubscriberComes fixed degrades opened options old answer new → Leaves old new answer
  subscriber_comes fixed degrades None options old new answer (told, same) = record {
    factories = ap (λ (it : NumberedHub T U B D). it.factories) same;
    hub = rests_same old.hub new.hub (ap (λ (it : NumberedHub T U B D). it.hub) same);
    told = neither_by reply.Skipped answer told skipped;
  }
  subscriber_comes fixed degrades (Some opened) options old new answer
      ((came, (roomier, is_roomier, (outcome, comes, numbers)), told), same) = record {
        factories = same;
        hub = makes_rests (domain_of_factory opened)
            (λ number. with_hub_subscriber (domain_of_factory opened) number (subscriber_handler fixed options))
            (steps.SubscriberComes (degrades (subscriber_handler fixed options) FailedToEstablishConnection)
            (subscriber_config (owner_of_factory opened) options))
            (steps.why_no_subscriber (subscriber_config (owner_of_factory opened) options))
            (λ number hub. step_rests (domain_of_factory opened) (subscriber_kept number (subscriber_handler fixed options)) hub
            (λ domain. refl))
            (hub_ports (domain_of_factory opened) old.hub) old.hub new.hub outcome comes;
        told = neither_by (subscriber_reply came) answer told (arrived_neither came);
      }

  module _ (terms : Terms T U B D) (old new : NumberedHub T U B D) (answer : Reply T) where
    pub port_leaves : (asked : Command T) → is_of_ports asked ≡ true
        → hub.Step terms asked old (Ok answer) new
        → Leaves old new answer
    port_leaves command.Node is step = absurd (differ is)
      where
        differ : false ≡ true → ⊥
        differ e = cc
    port_leaves (command.Create node name options attributes steps) is step = absurd (differ is)
      where
        differ : false ≡ true → ⊥
        differ e = cc
    port_leaves (command.Open node name options required steps) is step = absurd (differ is)
      where
        differ : false ≡ true → ⊥
        differ e = cc
    port_leaves (command.OpenOrCreate node name options required steps) is step = absurd (differ is)
      where
        differ : false ≡ true → ⊥
        differ e = cc
    port_leaves (command.Foreign pattern name steps) is step = absurd (differ is)
      where
        differ : false ≡ true → ⊥
        differ e = cc
    port_leaves (command.Close factory) is step = absurd (differ is)
      where
        differ : false ≡ true → ⊥
        differ e = cc
    port_leaves (command.Publisher factory options) is step =
        publisher_comes terms.is_default_header terms.fixed terms.degrades (publish_subscribe_in (value_at old.factories.made factory))
        options old new answer step
    port_leaves (command.Subscriber factory options) is step =
        subscriber_comes terms.fixed_reader terms.reader_degrades (publish_subscribe_in (value_at old.factories.made factory)) options old
        new answer step
    port_leaves (command.Loan publisher elements) is ((value, is_value, lent, goes, told), same) =
        let found = ready hub_ports (lender elements (value_at old.made.publishers publisher)) old.hub in record {
          factories = same;
          hub = first (IsFull old.made.loans) (LendsWrittenNumbered hub_ports with_hub_ports elements value found)
              (λ before later it other said (outcome, at, numbers). at_port (LendsWritten hub_ports with_hub_ports elements value)
              (lends_written elements value) found it other outcome at) old.made new.made old.hub new.hub lent goes;
          told = loaned_neither lent answer told;
        }
    port_leaves (command.LoanUninit publisher elements) is ((lent, goes, told), same) =
        let found = lender elements (value_at old.made.publishers publisher) in record {
          factories = same;
          hub = first (IsFull old.made.loans) (LendsNumbered hub_ports with_hub_ports elements found)
              (λ before later it other said (outcome, at, numbers). at_port (Lends hub_ports with_hub_ports elements)
              (λ one first second result does. at_domain_rests one.domain (steps.LoansBy one.number elements elements)
              (hub_ports one.domain first) first second result does) found it other outcome at) old.made new.made old.hub new.hub lent
              goes;
          told = loaned_neither lent answer told;
        }
    port_leaves (command.Set loan place value) is ((done, is_done, changes, told), same) =
        by_hub old new answer same (under_if done (set_in place value) (value_at old.made.loans loan) old.hub new.hub changes)
        (neither_by (done_reply done) answer told (done_neither done))
    port_leaves (command.Fill loan values) is ((done, is_done, changes, told), same) =
        by_hub old new answer same
        (subst (Rests old.hub) (sym changes) (under (filled_in values) (value_at old.made.loans loan) old.hub))
        (neither_by (done_reply done) answer told (done_neither done))
    port_leaves (command.Drop loan) is ((done, is_done, changes, is_made, told), same) = record {
      factories = same;
      hub = under_if done gave_up_in (value_at old.made.loans loan) old.hub new.hub changes;
      told = neither_by (done_reply done) answer told (done_neither done);
    }
    port_leaves (command.Send loan) is ((it, sends, is_made, told), same) = record {
      factories = same;
      hub = sends_under (publisher_may_degrade terms.degrades) (publisher_may_decide terms.decides) (value_at old.made.loans loan) old.hub
          new.hub it sends;
      told = neither_by (sent_reply it) answer told (sent_neither it);
    }
    port_leaves (command.Put publisher values) is ((it, at, told), same) =
        by_hub old new answer same
        (at_port (Puts hub_ports with_hub_ports (publisher_may_degrade terms.degrades) (publisher_may_decide terms.decides) values)
        (puts (publisher_may_degrade terms.degrades) (publisher_may_decide terms.decides) values)
        (ready hub_ports (lender (length values) (value_at old.made.publishers publisher)) old.hub) old.hub new.hub it at)
        (neither_by (sent_reply it) answer told (sent_neither it))
    port_leaves (command.Retry publisher nanoseconds) is ((it, at, told), same) =
        by_hub old new answer same
        (at_port (Retries hub_ports with_hub_ports (publisher_may_decide terms.decides) nanoseconds)
        (λ one first second result does. at_domain_rests one.domain _ (hub_ports one.domain first) first second result does)
        (port_under (value_at old.made.publishers publisher)) old.hub new.hub it at)
        (neither_by (sent_reply it) answer told (sent_neither it))
    port_leaves (command.GiveUp publisher) is ((count, at, told), same) =
        by_hub old new answer same
        (at_port (GivesUp hub_ports with_hub_ports)
        (λ one first second result does. at_domain_rests one.domain _ (hub_ports one.domain first) first second result does)
        (port_under (value_at old.made.publishers publisher)) old.hub new.hub count at)
        (neither_by (given_up_reply count) answer told (given_neither count))
    port_leaves (command.Receive subscriber) is ((received, goes, told), same) =
        let found = value_at old.made.subscribers subscriber in record {
          factories = same;
          hub = first (IsFull old.made.samples) (ReceivesNumbered hub_ports with_hub_ports (subscriber_may_degrade terms.reader_degrades)
              found) (λ before later it other said (outcome, at, numbers).
              at_port (Receives hub_ports with_hub_ports (subscriber_may_degrade terms.reader_degrades))
              (λ one first second result does. at_domain_rests one.domain _ (hub_ports one.domain first) first second result does) found it
              other outcome at) old.made new.made old.hub new.hub received goes;
          told = told_neither (λ sample. values_under hub_ports (value_at new.made.samples sample) new.hub) received answer told;
        }
    port_leaves (command.Read sample) is (read, same) = record {
      factories = ap (λ (it : NumberedHub T U B D). it.factories) same;
      hub = rests_same old.hub new.hub (ap (λ (it : NumberedHub T U B D). it.hub) same);
      told = read_neither (values_under hub_ports (value_at old.made.samples sample) old.hub) answer read;
    }
    port_leaves (command.Sequence sample) is (told, same) =
        let sequence = sequence_under hub_ports (value_at old.made.samples sample) old.hub in record {
          factories = ap (λ (it : NumberedHub T U B D). it.factories) same;
          hub = rests_same old.hub new.hub (ap (λ (it : NumberedHub T U B D). it.hub) same);
          told = neither_by (sequence_reply sequence) answer told (sequence_neither sequence);
        }
    port_leaves (command.Release sample) is ((done, is_done, releases, is_made, told), same) = record {
      factories = same;
      hub = releases_under (value_at old.made.samples sample) done old.hub new.hub releases;
      told = neither_by (done_reply done) answer told (done_neither done);
    }
    port_leaves (command.Update (port.Publisher number)) is ((outcome, at, told), same) =
        by_hub old new answer same
        (at_port (Follows hub_ports with_hub_ports (publisher_may_degrade terms.degrades))
        (λ one first second result does. at_domain_rests one.domain _ (hub_ports one.domain first) first second result does)
        (port_under (value_at old.made.publishers number)) old.hub new.hub outcome at)
        (neither_by (updated_reply outcome) answer told (updated_neither outcome))
    port_leaves (command.Update (port.Subscriber number)) is ((outcome, at, told), same) =
        by_hub old new answer same
        (at_port (FollowsPublishers hub_ports with_hub_ports (subscriber_may_degrade terms.reader_degrades))
        (λ one first second result does. at_domain_rests one.domain _ (hub_ports one.domain first) first second result does)
        (value_at old.made.subscribers number) old.hub new.hub outcome at)
        (neither_by (updated_reply outcome) answer told (updated_neither outcome))
    port_leaves (command.Leave (port.Publisher number)) is ((done, at, is_made, told), same) = record {
      factories = same;
      hub = at_port_if (PublisherGoes hub_ports with_hub_ports without_hub_publisher)
          (λ one first second result does. leaves_rests one.domain (without_hub_publisher one.domain one.number)
          (steps.PublisherLeaves one.number)
          (λ it. step_rests one.domain (publisher_forgotten one.number) it (λ domain. refl)) (hub_ports one.domain first) first second
          result does) (port_under (value_at old.made.publishers number)) old.hub new.hub done at;
      told = neither_by (done_reply done) answer told (done_neither done);
    }
    port_leaves (command.Leave (port.Subscriber number)) is ((done, at, is_made, told), same) = record {
      factories = same;
      hub = at_port_if (SubscriberGoes hub_ports with_hub_ports without_hub_subscriber)
          (λ one first second result does. leaves_rests one.domain (without_hub_subscriber one.domain one.number)
          (steps.SubscriberLeaves one.number)
          (λ it. step_rests one.domain (subscriber_forgotten one.number) it (λ domain. refl)) (hub_ports one.domain first) first second
          result does) (value_at old.made.subscribers number) old.hub new.hub done at;
      told = neither_by (done_reply done) answer told (done_neither done);
    }
    port_leaves (command.Has subscriber) is ((outcome, at, told), same) =
        by_hub old new answer same
        (at_port (Tells hub_ports with_hub_ports (subscriber_may_degrade terms.reader_degrades))
        (λ one first second result does. at_domain_rests one.domain _ (hub_ports one.domain first) first second result does)
        (value_at old.made.subscribers subscriber) old.hub new.hub outcome at)
        (neither_by (has_reply outcome) answer told (has_neither outcome))
