-- What the commands of ports do to the domains of a hub: calls of ports.
use Rattle.std.proofs.Common.{◌≡◌, ℕ, Bool, true, false, List, Option, None, Some, Result, Ok, Err, if◌then◌else◌, refl, length}
use Rattle.std.specs.Option.{unwrap_or}
use Rattle.std.specs.Prelude.{replicate}
use Rattle.std.specs.declared.alloc.AllocError.{AllocError}
use Rattle.iox_command.specs.declared.port.PortNumber.{PortNumber}
use Rattle.iox_command.specs.declared.port.PortNumber.TheVariants as port_number
use Rattle.iox_command.specs.declared.reply.Reply.{Reply}
use Rattle.iox_delivery.specs.Publishing.{AfterLoan}
use Rattle.iox_delivery.specs.Subscribing.{ReleasesOne}
use Rattle.iox_delivery.specs.declared.port_id.PortId.{PortId}
use Rattle.iox_delivery.specs.Slices.{each_written_in, FillsLent, WritesAndSends}
use Rattle.iox_delivery.specs.Domain.AtHomes.{AtDomain}
use Rattle.iox_delivery.specs.Domain.Steps as steps
use Rattle.iox_delivery.specs.Domain.declared.domain_id.DomainId.{DomainId}
use Rattle.iox_delivery.specs.Domain.Calls as calls
use Rattle.iox_delivery.specs.Domain.Lending.{written_in, gave_up_in}
use Rattle.iox_delivery.specs.Domain.declared.ports.making.PublisherConfig.{PublisherConfig}
use Rattle.iox_delivery.specs.Domain.declared.ports.making.SubscriberConfig.{SubscriberConfig}
use Rattle.iox_delivery.specs.Domain.declared.ports.service_ports.ServicePorts.{ServicePorts}
use Rattle.iox_delivery.specs.DomainPorts.declared.meeting.Sent.{Sent}
use Rattle.iox_delivery.specs.DomainPorts.Messages.{write_value, write_all}
use Rattle.iox_delivery.specs.DomainPorts.MessagesSending.{has_place, has_length}
use Rattle.iox_delivery.specs.DomainPorts.declared.attached.Taken.{Taken}
use Rattle.iox_command.specs.DomainValues.declared.backpressure.BackpressureDecision.{BackpressureDecision}
use Rattle.iox_command.specs.DomainValues.declared.backpressure.BackpressureInfo.{BackpressureInfo}
use Rattle.iox_command.specs.DomainValues.declared.connection_failure.ConnectionFailure.{ConnectionFailure}
use Rattle.iox_command.specs.DomainValues.declared.degradation.DegradationAction.{DegradationAction}
use Rattle.iox_command.specs.DomainValues.declared.degradation.DegradationCause.{DegradationCause}
use Rattle.iox_command.specs.DomainValues.declared.degradation.DegradationCause.TheVariants.{FailedToEstablishConnection}
use Rattle.iox_command.specs.DomainValues.declared.degradation.DegradationInfo.{DegradationInfo}
use Rattle.iox_command.specs.DomainValues.declared.port_error.LoanError.{LoanError}
use Rattle.iox_command.specs.DomainValues.declared.port_error.ReceiveError.{ReceiveError}
use Rattle.iox_command.specs.DomainValues.declared.port_error.SendError.{SendError}
use Rattle.iox_hub_base.specs.AsHome.{hub_ports, with_hub_ports, with_hub_publisher, with_hub_subscriber, without_hub_publisher}
use Rattle.iox_hub_base.specs.AsHome.{without_hub_subscriber}
use Rattle.iox_hub_base.specs.declared.hub.Hub.{Hub}
use Rattle.iox_hub_base.specs.ServicesAsHome.{publisher_kept, subscriber_kept, publisher_forgotten, subscriber_forgotten}
use Rattle.iox_hub_commands.specs.Arriving.{PublisherStep, SubscriberStep}
use Rattle.iox_hub_commands.specs.Following.{UpdateStep, HasStep, LeaveStep}
use Rattle.iox_hub_commands.specs.Lending.{LoanStep, LoanUninitStep, PutStep}
use Rattle.iox_hub_commands.specs.Messages.{SetStep, FillStep, DropStep, SendStep, RetryStep, GiveUpStep, ReleaseStep}
use Rattle.iox_hub_commands.specs.Receiving.{ReceiveStep}
use Rattle.iox_hub_commands.specs.Calls.{AtPort, AtPortIf, Lends, LendsWritten, Puts, Follows, Sends, Retries, GivesUp, PublisherGoes}
use Rattle.iox_hub_commands.specs.Calls.{FollowsPublishers, Tells, Receives, SubscriberGoes, ready}
use Rattle.iox_hub_commands.specs.Growing.{GrowsFirst}
use Rattle.iox_hub_commands.specs.Loans.{changed_under, set_in, filled_in, SendsUnder}
use Rattle.iox_hub_commands.specs.Numbering.{LendsNumbered, LendsWrittenNumbered, ReceivesNumbered}
use Rattle.iox_hub_commands.specs.Reading.{ReleasesUnder}
use Rattle.iox_hub_commands.specs.Tables.{IsFull, lender, port_under}
use Rattle.iox_hub_commands.specs.declared.ports.made.Made.{Made}
use Rattle.iox_hub_commands.specs.declared.ports.made.MadeLoan.{MadeLoan}
use Rattle.iox_hub_commands.specs.declared.ports.made.MadeSample.{MadeSample}
use Rattle.iox_delivery.specs.Container.NumberTable.{value_at}
use Rattle.iox_hub_commands.specs.Grown.{AnySlots, AnyAction, AnyDecision, LeadsTo}
use Rattle.iox_hub_commands.proofs.Grown.{Moves, MovesOne, by_call, by_handlers, each_leads, is_moves, none_moves, moves_on, keep_moves}
use Rattle.iox_hub_commands.proofs.Grown.{at_domain_moves, leaves_moves, makes_moves, changed_moves}

module _ {T U B D : Type 0} where
  at_port : {A : Type 0} (does : PortId → Hub T U B D → Option A → Hub T U B D → Type 0)
      → ((port : PortId) (old new : Hub T U B D) (answer : Option A) → does port old answer new → Moves port.domain old new)
      → (port : Option PortId) (old new : Hub T U B D) (answer : Option A) → AtPort does port old answer new → MovesOne old new
  at_port does moves None old new answer at = none_moves old new at.1
  at_port does moves (Some port) old new answer at = (port.domain, moves port old new answer at)

  at_port_if : (does : PortId → Hub T U B D → Bool → Hub T U B D → Type 0)
      → ((port : PortId) (old new : Hub T U B D) (answer : Bool) → does port old answer new → Moves port.domain old new)
      → (port : Option PortId) (old new : Hub T U B D) (answer : Bool) → AtPortIf does port old answer new → MovesOne old new
  at_port_if does moves None old new answer at = none_moves old new at.1
  at_port_if does moves (Some port) old new answer at = (port.domain, moves port old new answer at)

  -- room is made first
  first : {A : Type 0} (is_full : Type 0) (does : Made → Hub T U B D → A → Made → Hub T U B D → Type 0)
      → ((made after : Made) (old new : Hub T U B D) (answer : A) → does made old answer after new → MovesOne old new)
      → (made after : Made) (old new : Hub T U B D) (answer : Result A AllocError) → GrowsFirst is_full does made old answer after new
      → MovesOne old new
  first is_full does moves made after old new (Err lacking) goes = none_moves old new goes.2
  first is_full does moves made after old new (Ok answer) (roomier, is_roomier, done) = moves roomier after old new answer done

  lends_slot : (port : PortId) (values elements : ℕ) (old new : Hub T U B D) (answer : Option (Result ℕ LoanError))
      (found : Option (ServicePorts T U)) → hub_ports port.domain old ≡ found
      → AtDomain (λ after. with_hub_ports port.domain after old) (steps.LoansBy port.number values elements) found old answer new
      → Moves port.domain old new
  lends_slot port values elements old new answer found are at =
      at_domain_moves port.domain (steps.LoansBy port.number values elements)
      (λ ports after outcome does. by_call (calls.Lends port.number values elements outcome) ports after does) found old new answer
      are at

  lends : (elements : ℕ) (port : PortId) (old new : Hub T U B D) (answer : Option (Result ℕ LoanError))
      → Lends hub_ports with_hub_ports elements port old answer new → Moves port.domain old new
  lends elements port old new answer at = lends_slot port elements elements old new answer (hub_ports port.domain old) refl at

  filled : (port : PortId) (elements : ℕ) (value : T) (lent answer : Result ℕ LoanError) (old new : Hub T U B D)
      → AfterLoan Err (FillsLent hub_ports with_hub_ports port elements value) lent old answer new → Moves port.domain old new
  filled port elements value (Err error) answer old new after = is_moves port.domain old new after.1
  filled port elements value (Ok slot) answer old new ((is, more), is_answer) =
      rw is (changed_moves port.domain (each_written_in port.number slot (replicate elements value))
      (λ ports. each_leads port.number slot 0 (replicate elements value) ports) old)

  lends_written : (elements : ℕ) (value : T) (port : PortId) (old new : Hub T U B D) (answer : Option (Result ℕ LoanError))
      → LendsWritten hub_ports with_hub_ports elements value port old answer new → Moves port.domain old new
  lends_written elements value port old new answer (came, (lent, middle, lends, fills), is_ready, is) =
      moves_on port.domain old middle new
      (lends_slot port elements elements old middle (Some lent) (hub_ports port.domain old) refl lends)
      (filled port elements value lent came middle new fills)

  pub loan_moves : (is_default : T → Type 0) (publisher elements : ℕ) (made after : Made) (old new : Hub T U B D)
      (answer : Result (Reply T) AllocError) → LoanStep hub_ports with_hub_ports is_default publisher elements made old answer after new
      → MovesOne old new
  loan_moves is_default publisher elements made after old new answer (value, is_value, lent, goes, is_answer) =
      let port = ready hub_ports (lender elements (value_at made.publishers publisher)) old in
      first (IsFull made.loans) (LendsWrittenNumbered hub_ports with_hub_ports elements value port)
      (λ before later hub other reply (outcome, at, numbers). at_port (LendsWritten hub_ports with_hub_ports elements value)
      (lends_written elements value) port hub other outcome at) made after old new lent goes

  pub loan_uninit_moves : (publisher elements : ℕ) (made after : Made) (old new : Hub T U B D) (answer : Result (Reply T) AllocError)
      → LoanUninitStep hub_ports with_hub_ports publisher elements made old answer after new → MovesOne old new
  loan_uninit_moves publisher elements made after old new answer (lent, goes, is_answer) =
      let port = lender elements (value_at made.publishers publisher) in
      first (IsFull made.loans) (LendsNumbered hub_ports with_hub_ports elements port)
      (λ before later hub other reply (outcome, at, numbers). at_port (Lends hub_ports with_hub_ports elements) (lends elements) port
      hub other outcome at) made after old new lent goes

  under : (change : ℕ → ℕ → ServicePorts T U → ServicePorts T U)
      → ((number slot : ℕ) (ports : ServicePorts T U) → LeadsTo ports (change number slot ports))
      → (found : Option MadeLoan) (old : Hub T U B D) → MovesOne old (changed_under hub_ports with_hub_ports change found old)
  under change leads None old = none_moves old old refl
  under change leads (Some made) old =
      (made.port.domain, changed_moves made.port.domain (change made.port.number made.slot) (leads made.port.number made.slot) old)

  under_if : (done : Bool) (change : ℕ → ℕ → ServicePorts T U → ServicePorts T U)
      → ((number slot : ℕ) (ports : ServicePorts T U) → LeadsTo ports (change number slot ports))
      → (found : Option MadeLoan) (old new : Hub T U B D)
      → new ≡ (if done then changed_under hub_ports with_hub_ports change found old else old) → MovesOne old new
  under_if false change leads found old new is = none_moves old new is
  under_if true change leads found old new is = rw is (under change leads found old)

  pub set_moves : (loan place : ℕ) (value : T) (made : Made) (old new : Hub T U B D) (answer : Reply T)
      → SetStep hub_ports with_hub_ports loan place value made old answer new → MovesOne old new
  set_moves loan place value made old new answer (done, is_done, is, is_answer) =
      under_if done (set_in place value) (λ number slot ports. by_call
      (calls.Writes number slot (λ port. has_place slot place port.sender.uses) (write_value place value)) ports
      (set_in place value number slot ports) refl) (value_at made.loans loan) old new is

  pub fill_moves : (loan : ℕ) (values : List T) (made : Made) (old new : Hub T U B D) (answer : Reply T)
      → FillStep hub_ports with_hub_ports loan values made old answer new → MovesOne old new
  fill_moves loan values made old new answer (done, is_done, is, is_answer) =
      rw is (under (filled_in values) (λ number slot ports. by_call
      (calls.Writes number slot (λ port. has_length slot (length values) port.sender.uses) (write_all values)) ports
      (filled_in values number slot ports) refl) (value_at made.loans loan) old)

  pub drop_moves : (loan : ℕ) (made after : Made) (old new : Hub T U B D) (answer : Reply T)
      → DropStep hub_ports with_hub_ports loan made old answer after new → MovesOne old new
  drop_moves loan made after old new answer (done, is_done, is, is_made, is_answer) =
      under_if done gave_up_in (λ number slot ports. by_call (calls.GivesLoanUp number slot) ports (gave_up_in number slot ports) refl)
      (value_at made.loans loan) old new is

  module _ (degrades : DomainId → ℕ → Hub T U B D → DegradationInfo → DegradationAction → Type 0)
      (decides : DomainId → ℕ → Hub T U B D → BackpressureInfo → BackpressureDecision → Type 0) where
    sends_at : (port : PortId) (slot : ℕ) (old new : Hub T U B D) (answer : Option (Result Sent SendError))
        → Sends hub_ports with_hub_ports degrades decides slot port old answer new → Moves port.domain old new
    sends_at port slot old new answer at =
        at_domain_moves port.domain (steps.SendsBy (degrades port.domain port.number old) (decides port.domain port.number old)
        port.number slot)
        (λ ports after outcome does. by_handlers AnySlots (degrades port.domain port.number old) (decides port.domain port.number old)
        (calls.Sends port.number slot outcome) ports after does) (hub_ports port.domain old) old new answer refl at

    sends_under : (found : Option MadeLoan) (old new : Hub T U B D) (answer : Option (Result Sent SendError))
        → SendsUnder hub_ports with_hub_ports degrades decides found old answer new → MovesOne old new
    sends_under None old new answer sends = none_moves old new sends.1
    sends_under (Some made) old new answer sends = (made.port.domain, sends_at made.port made.slot old new answer sends)

    pub send_moves : (loan : ℕ) (made after : Made) (old new : Hub T U B D) (answer : Reply T)
        → SendStep hub_ports with_hub_ports degrades decides loan made old answer after new → MovesOne old new
    send_moves loan made after old new answer (sent, sends, is_made, is_answer) = sends_under (value_at made.loans loan) old new sent sends

    sent_after : (port : PortId) (values : List T) (refused : LoanError → Result Sent SendError) (lent : Result ℕ LoanError)
        (answer : Result Sent SendError) (old new : Hub T U B D)
        → AfterLoan refused (WritesAndSends hub_ports with_hub_ports degrades decides port values) lent old answer new
        → Moves port.domain old new
    sent_after port values refused (Err error) answer old new after = is_moves port.domain old new after.1
    sent_after port values refused (Ok slot) answer old new (middle, writes, is_ready, sends) =
        let written : Moves port.domain old middle =
        rw writes (changed_moves port.domain
        (written_in port.number (λ publisher. has_length slot (length values) publisher.sender.uses) slot (write_all values))
        (λ ports. by_call (calls.Writes port.number slot (λ publisher. has_length slot (length values) publisher.sender.uses)
        (write_all values)) ports _ refl) old) in
        moves_on port.domain old middle new written (sends_at port slot middle new (Some answer) sends)

    puts : (values : List T) (port : PortId) (old new : Hub T U B D) (answer : Option (Result Sent SendError))
        → Puts hub_ports with_hub_ports degrades decides values port old answer new → Moves port.domain old new
    puts values port old new answer (sent, (lent, middle, lends, sends), is) =
        moves_on port.domain old middle new
        (lends_slot port (length values) (length values) old middle (Some lent) (hub_ports port.domain old) refl lends)
        (sent_after port values _ lent sent middle new sends)

    pub put_step_moves : (publisher : ℕ) (values : List T) (made : Made) (old new : Hub T U B D) (answer : Reply T)
        → PutStep hub_ports with_hub_ports degrades decides publisher values made old answer new → MovesOne old new
    put_step_moves publisher values made old new answer (sent, at, is) =
        at_port (Puts hub_ports with_hub_ports degrades decides values) (puts values)
        (ready hub_ports (lender (length values) (value_at made.publishers publisher)) old) old new sent at

    retries : (elapsed : ℕ) (port : PortId) (old new : Hub T U B D) (answer : Option (Result Sent SendError))
        → Retries hub_ports with_hub_ports decides elapsed port old answer new → Moves port.domain old new
    retries elapsed port old new answer at =
        at_domain_moves port.domain (steps.RetriesBy (decides port.domain port.number old) port.number elapsed)
        (λ ports after outcome does. by_handlers AnySlots AnyAction (decides port.domain port.number old)
        (calls.Retries port.number elapsed outcome) ports after does) (hub_ports port.domain old) old new answer refl at

    pub retry_moves : (publisher elapsed : ℕ) (made : Made) (old new : Hub T U B D) (answer : Reply T)
        → RetryStep hub_ports with_hub_ports decides publisher elapsed made old answer new → MovesOne old new
    retry_moves publisher elapsed made old new answer (sent, at, is) =
        at_port (Retries hub_ports with_hub_ports decides elapsed) (retries elapsed) (port_under (value_at made.publishers publisher))
        old new sent at

  gives_up : (port : PortId) (old new : Hub T U B D) (answer : Option ℕ) → GivesUp hub_ports with_hub_ports port old answer new
      → Moves port.domain old new
  gives_up port old new answer at =
      at_domain_moves port.domain (steps.GivesUpBy port.number)
      (λ ports after outcome does. by_call (calls.GivesSendUp port.number outcome) ports after does) (hub_ports port.domain old) old
      new answer refl at

  pub give_up_moves : (publisher : ℕ) (made : Made) (old new : Hub T U B D) (answer : Reply T)
      → GiveUpStep hub_ports with_hub_ports publisher made old answer new → MovesOne old new
  give_up_moves publisher made old new answer (count, at, is)
      = at_port (GivesUp hub_ports with_hub_ports) gives_up (port_under (value_at made.publishers publisher)) old new count at

  releases_under : (found : Option MadeSample) (done : Bool) (old new : Hub T U B D)
      → ReleasesUnder hub_ports with_hub_ports found old done new → MovesOne old new
  releases_under None false old new is = none_moves old new is
  releases_under (Some held) false old new is = none_moves old new is
  releases_under None true old new never = absurd never
  releases_under (Some held) true old new at = (
    held.port.domain,
    at_domain_moves held.port.domain (ReleasesOne held.port.number held.taken)
        (λ ports after outcome does. by_call (calls.Releases held.port.number held.taken true) ports after does)
        (hub_ports held.port.domain old) old new (Some tt) refl at,
  )

  pub release_moves : (sample : ℕ) (made after : Made) (old new : Hub T U B D) (answer : Reply T)
      → ReleaseStep hub_ports with_hub_ports sample made old answer after new → MovesOne old new
  release_moves sample made after old new answer (done, is_done, releases, is_made, is_answer)
      = releases_under (value_at made.samples sample) done old new releases

  module _ (degrades reader_degrades : DomainId → ℕ → Hub T U B D → DegradationInfo → DegradationAction → Type 0) where
    receives : (port : PortId) (old new : Hub T U B D) (answer : Option (Result (Option Taken) ReceiveError))
        → Receives hub_ports with_hub_ports reader_degrades port old answer new → Moves port.domain old new
    receives port old new answer at =
        at_domain_moves port.domain (steps.ReceivesBy (reader_degrades port.domain port.number old) port.number)
        (λ ports after outcome does. by_handlers AnySlots (reader_degrades port.domain port.number old) AnyDecision
        (calls.Receives port.number outcome) ports after does) (hub_ports port.domain old) old new answer refl at

    pub receive_moves : (subscriber : ℕ) (made after : Made) (old new : Hub T U B D) (answer : Result (Reply T) AllocError)
        → ReceiveStep hub_ports with_hub_ports reader_degrades subscriber made old answer after new → MovesOne old new
    receive_moves subscriber made after old new answer (received, goes, is_told) =
        let port = value_at made.subscribers subscriber in
        first (IsFull made.samples) (ReceivesNumbered hub_ports with_hub_ports reader_degrades port)
        (λ before later hub other reply (outcome, at, numbers). at_port (Receives hub_ports with_hub_ports reader_degrades) receives
        port hub other outcome at) made after old new received goes

    follows : (port : PortId) (old new : Hub T U B D) (answer : Option (Result (Unit {0}) ConnectionFailure))
        → Follows hub_ports with_hub_ports degrades port old answer new → Moves port.domain old new
    follows port old new answer at =
        at_domain_moves port.domain (steps.UpdatesBy (degrades port.domain port.number old) port.number)
        (λ ports after outcome does. by_handlers AnySlots (degrades port.domain port.number old) AnyDecision
        (calls.PublisherUpdates port.number outcome) ports after does) (hub_ports port.domain old) old new answer refl at

    follows_publishers : (port : PortId) (old new : Hub T U B D) (answer : Option (Result (Unit {0}) ConnectionFailure))
        → FollowsPublishers hub_ports with_hub_ports reader_degrades port old answer new → Moves port.domain old new
    follows_publishers port old new answer at =
        at_domain_moves port.domain (steps.FollowsBy (reader_degrades port.domain port.number old) port.number)
        (λ ports after outcome does. by_handlers AnySlots (reader_degrades port.domain port.number old) AnyDecision
        (calls.SubscriberUpdates port.number outcome) ports after does) (hub_ports port.domain old) old new answer refl at

    pub update_moves : (number : PortNumber) (made : Made) (old new : Hub T U B D) (answer : Reply T)
        → UpdateStep hub_ports with_hub_ports degrades reader_degrades number made old answer new → MovesOne old new
    update_moves (port_number.Publisher number) made old new answer (outcome, at, is)
        = at_port (Follows hub_ports with_hub_ports degrades) follows (port_under (value_at made.publishers number)) old new outcome at
    update_moves (port_number.Subscriber number) made old new answer (outcome, at, is)
        = at_port (FollowsPublishers hub_ports with_hub_ports reader_degrades) follows_publishers (value_at made.subscribers number) old
        new outcome at

    tells : (port : PortId) (old new : Hub T U B D) (answer : Option (Result Bool ConnectionFailure))
        → Tells hub_ports with_hub_ports reader_degrades port old answer new → Moves port.domain old new
    tells port old new answer at =
        at_domain_moves port.domain (steps.TellsBy (reader_degrades port.domain port.number old) port.number)
        (λ ports after outcome does. by_handlers AnySlots (reader_degrades port.domain port.number old) AnyDecision
        (calls.AsksForSamples port.number outcome) ports after does) (hub_ports port.domain old) old new answer refl at

    pub has_moves : (subscriber : ℕ) (made : Made) (old new : Hub T U B D) (answer : Reply T)
        → HasStep hub_ports with_hub_ports reader_degrades subscriber made old answer new → MovesOne old new
    has_moves subscriber made old new answer (outcome, at, is)
        = at_port (Tells hub_ports with_hub_ports reader_degrades) tells (value_at made.subscribers subscriber) old new outcome at

  publisher_goes : (port : PortId) (old new : Hub T U B D) (answer : Bool)
      → PublisherGoes hub_ports with_hub_ports without_hub_publisher port old answer new → Moves port.domain old new
  publisher_goes port old new answer at =
      leaves_moves port.domain (without_hub_publisher port.domain port.number) (steps.PublisherLeaves port.number)
      (λ hub. keep_moves port.domain (publisher_forgotten port.number) (λ domain. (refl, refl)) hub)
      (λ ports after done does. by_call (calls.PublisherLeaves port.number done) ports after does) (hub_ports port.domain old) old new
      answer refl at

  subscriber_goes : (port : PortId) (old new : Hub T U B D) (answer : Bool)
      → SubscriberGoes hub_ports with_hub_ports without_hub_subscriber port old answer new → Moves port.domain old new
  subscriber_goes port old new answer at =
      leaves_moves port.domain (without_hub_subscriber port.domain port.number) (steps.SubscriberLeaves port.number)
      (λ hub. keep_moves port.domain (subscriber_forgotten port.number) (λ domain. (refl, refl)) hub)
      (λ ports after done does. by_call (calls.SubscriberLeaves port.number done) ports after does) (hub_ports port.domain old) old new
      answer refl at

  pub leave_moves : (number : PortNumber) (made after : Made) (old new : Hub T U B D) (answer : Reply T)
      → LeaveStep hub_ports with_hub_ports without_hub_publisher without_hub_subscriber number made old answer after new → MovesOne old new
  leave_moves (port_number.Publisher number) made after old new answer (done, at, is_made, is)
      = at_port_if (PublisherGoes hub_ports with_hub_ports without_hub_publisher) publisher_goes
      (port_under (value_at made.publishers number)) old new done at
  leave_moves (port_number.Subscriber number) made after old new answer (done, at, is_made, is)
      = at_port_if (SubscriberGoes hub_ports with_hub_ports without_hub_subscriber) subscriber_goes (value_at made.subscribers number)
      old new done at

  pub publisher_moves : (degrades : B → DegradationCause → DegradationInfo → DegradationAction → Type 0) (is_default : U → Type 0)
      (domain : DomainId) (config : PublisherConfig) (slots : Option ℕ) (handlers : B) (made after : Made) (old new : Hub T U B D)
      (answer : Reply T)
      → PublisherStep hub_ports with_hub_ports with_hub_publisher degrades is_default domain config slots handlers made old answer after
      new → MovesOne old new
  publisher_moves degrades is_default domain config slots handlers made after old new answer
      (user_header, is_header, came, (roomier, is_roomier, (outcome, comes, numbers)), is) = (
        domain,
        makes_moves domain (λ number. with_hub_publisher domain number handlers)
            (steps.PublisherComes (λ worst_case named. named ≡ unwrap_or slots worst_case) (degrades handlers FailedToEstablishConnection)
            config user_header) (steps.why_no_publisher config)
            (λ number hub. keep_moves domain (publisher_kept number handlers) (λ one. (refl, refl)) hub)
            (λ ports later number does. by_handlers (λ worst_case named. named ≡ unwrap_or slots worst_case)
            (degrades handlers FailedToEstablishConnection) AnyDecision (calls.PublisherComes config user_header (Ok number)) ports
            later does)
            (hub_ports domain old) old new outcome refl comes,
      )

  pub subscriber_moves : (degrades : D → DegradationCause → DegradationInfo → DegradationAction → Type 0) (domain : DomainId)
      (config : SubscriberConfig) (handler : D) (made after : Made) (old new : Hub T U B D) (answer : Reply T)
      → SubscriberStep hub_ports with_hub_ports with_hub_subscriber degrades domain config handler made old answer after new
      → MovesOne old new
  subscriber_moves degrades domain config handler made after old new answer (came, (roomier, is_roomier, (outcome, comes, numbers)), is) = (
    domain,
    makes_moves domain (λ number. with_hub_subscriber domain number handler)
        (steps.SubscriberComes (degrades handler FailedToEstablishConnection) config) (steps.why_no_subscriber config)
        (λ number hub. keep_moves domain (subscriber_kept number handler) (λ one. (refl, refl)) hub)
        (λ ports later number does. by_handlers AnySlots (degrades handler FailedToEstablishConnection) AnyDecision
        (calls.SubscriberComes config.owner config.buffer_size (Ok number)) ports later does)
        (hub_ports domain old) old new outcome refl comes,
  )
