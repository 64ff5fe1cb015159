-- What each command changes of what goes by numbers.
use Rattle.std.proofs.Common.{arith, ◌≡◌, ◌≤◌, ◌+◌, ℕ, true, Option, None, Some, Result, Ok, Err, inl, inr, refl, ap}
use Rattle.std.specs.declared.alloc.AllocError.{AllocError}
use Rattle.iox_command.specs.declared.command.Command.{Command}
use Rattle.iox_command.specs.declared.command.Command.TheVariants as command
use Rattle.iox_command.specs.declared.port.PortNumber.{PortNumber}
use Rattle.iox_command.specs.declared.port.PortNumber.TheVariants as port
use Rattle.iox_command.specs.declared.port.PublisherOptions.{PublisherOptions}
use Rattle.iox_command.specs.declared.port.SubscriberOptions.{SubscriberOptions}
use Rattle.iox_command.specs.declared.reply.Reply.{Reply}
use Rattle.iox_delivery.specs.Domain.declared.domain_id.DomainId.{DomainId}
use Rattle.iox_delivery.specs.Domain.declared.ports.service_ports.ServicePorts.{ServicePorts}
use Rattle.iox_command.specs.DomainValues.declared.backpressure.BackpressureAction.{BackpressureAction}
use Rattle.iox_command.specs.DomainValues.declared.backpressure_strategy.BackpressureStrategy.{BackpressureStrategy}
use Rattle.iox_command.specs.DomainValues.declared.degradation.DegradationAction.{DegradationAction}
use Rattle.iox_command.specs.DomainValues.declared.degradation.DegradationCause.{DegradationCause}
use Rattle.iox_command.specs.DomainValues.declared.degradation.DegradationInfo.{DegradationInfo}
use Rattle.iox_hub_base.specs.Opening.{Made as Opened}
use Rattle.iox_hub_commands.specs.Following.{LeaveStep}
use Rattle.iox_hub_commands.specs.Lending.{LoanStep, LoanUninitStep}
use Rattle.iox_hub_commands.specs.Receiving.{ReceiveStep}
use Rattle.iox_hub_commands.specs.Calls.{ready}
use Rattle.iox_hub_commands.specs.Numbering.{LendsNumbered, LendsWrittenNumbered, ReceivesNumbered}
use Rattle.iox_hub_commands.specs.Tables.{IsFull, lender}
use Rattle.iox_hub_commands.specs.declared.ports.made.Made.{Made}
use Rattle.iox_delivery.specs.Container.NumberTable.{value_at}
use Rattle.iox_hub_commands.specs.Lives.{ChangesOne, OneChanges, ChangesOneThing, NumbersGoOn}
use Rattle.iox_hub_commands.specs.Numbers.{numbers_used}
use Rattle.iox_hub_commands.specs.Services.{PublisherComes, SubscriberComes, domain_of_factory}
use Rattle.iox_hub_commands.specs.CommandSteps.{IsReplied, Step}
use Rattle.iox_hub_commands.specs.declared.numbered_hub.NumberedHub.{NumberedHub}
use Rattle.iox_hub_commands.specs.Terms.{Terms}
use Rattle.iox_hub_commands.proofs.FactoryChanges.{create_changes, open_changes, either_changes, close_changes}
use Rattle.iox_hub_commands.proofs.GoingOn.{stays_on, changes_on, on_and_on, one_more}
use Rattle.iox_hub_commands.proofs.MadeChanges.{made_one_more, all_stay, publisher_spent, subscriber_spent, loan_spent, sample_spent}
use Rattle.iox_hub_commands.proofs.MadeChanges.{loan_numbered, sample_numbered, roomier_changes, grown, publisher_numbered}
use Rattle.iox_hub_commands.proofs.MadeChanges.{subscriber_numbered}

-- a publisher lends
loans : {T U H : Type 0} (ports_of : DomainId → H → Option (ServicePorts T U)) (with_ports : DomainId → ServicePorts T U → H → H)
    (is_default : T → Type 0) (publisher elements : ℕ) (made after : Made) (old new : H) (answer : Result (Reply T) AllocError)
    → LoanStep ports_of with_ports is_default publisher elements made old answer after new → OneChanges made after
loans ports_of with_ports is_default publisher elements made after old new answer (value, is_value, lent, grows, is_answer) =
    let port = ready ports_of (lender elements (value_at made.publishers publisher)) old in
    grown (IsFull made.loans) (LendsWrittenNumbered ports_of with_ports elements value port)
    (λ before later hub other reply (outcome, at, numbers). loan_numbered port outcome before later reply numbers) made after old new
    lent grows

-- a publisher lends what isn't written
uninit_loans : {T U H : Type 0} (ports_of : DomainId → H → Option (ServicePorts T U)) (with_ports : DomainId → ServicePorts T U → H → H)
    (publisher elements : ℕ) (made after : Made) (old new : H) (answer : Result (Reply T) AllocError)
    → LoanUninitStep ports_of with_ports publisher elements made old answer after new → OneChanges made after
uninit_loans ports_of with_ports publisher elements made after old new answer (lent, grows, is_answer) =
    let port = lender elements (value_at made.publishers publisher) in
    grown (IsFull made.loans) (LendsNumbered ports_of with_ports elements port)
    (λ before later hub other reply (outcome, at, numbers). loan_numbered port outcome before later reply numbers) made after old new
    lent grows

-- a subscriber receives
receives : {T U H : Type 0} (ports_of : DomainId → H → Option (ServicePorts T U)) (with_ports : DomainId → ServicePorts T U → H → H)
    (degrades : DomainId → ℕ → H → DegradationInfo → DegradationAction → Type 0) (subscriber : ℕ) (made after : Made)
    (old new : H) (answer : Result (Reply T) AllocError) → ReceiveStep ports_of with_ports degrades subscriber made old answer after new
    → OneChanges made after
receives ports_of with_ports degrades subscriber made after old new answer (received, grows, is_answer) =
    let port = value_at made.subscribers subscriber in
    grown (IsFull made.samples) (ReceivesNumbered ports_of with_ports degrades port)
    (λ before later hub other reply (outcome, at, numbers). sample_numbered port outcome before later reply numbers) made after old new
    received grows

-- a port leaves
leaves : {T U H : Type 0} (ports_of : DomainId → H → Option (ServicePorts T U)) (with_ports : DomainId → ServicePorts T U → H → H)
    (without without_reader : DomainId → ℕ → H → H) (number : PortNumber) (made after : Made) (old new : H) (answer : Reply T)
    → LeaveStep ports_of with_ports without without_reader number made old answer after new → OneChanges made after
leaves ports_of with_ports without without_reader (port.Publisher number) made after old new answer (done, at, is, is_answer)
    = publisher_spent done number made after is
leaves ports_of with_ports without without_reader (port.Subscriber number) made after old new answer (done, at, is, is_answer)
    = subscriber_spent done number made after is

module _ {T U B D : Type 0} where
  replied : (does : Reply T → Type 0) (old new : NumberedHub T U B D) (answer : Result (Reply T) AllocError)
      → ((reply : Reply T) → does reply → ChangesOneThing old new) → IsReplied does answer → ChangesOneThing old new
  replied does old new (Ok reply) changes done = changes reply done
  replied does old new (Err lacking) changes done = absurd done

  by_factories : (old new : NumberedHub T U B D) → new.made ≡ old.made → ChangesOne old.factories.made new.factories.made
      → ChangesOneThing old new
  by_factories old new same changes = inl (changes, all_stay old.made new.made same)

  by_made : (old new : NumberedHub T U B D) → new.factories ≡ old.factories → OneChanges old.made new.made → ChangesOneThing old new
  by_made old new same changes = inr ((ap (λ factories. factories.made.entries) same, ap (λ factories. factories.made.next) same), changes)

  by_hub : (old new : NumberedHub T U B D) → new ≡ record old { hub = new.hub } → ChangesOneThing old new
  by_hub old new is = inl (
    inl (ap (λ hub. hub.factories.made.entries) is, ap (λ hub. hub.factories.made.next) is),
    all_stay old.made new.made
        (ap (λ hub. hub.made) is),
  )

  by_same : (old new : NumberedHub T U B D) → new ≡ old → ChangesOneThing old new
  by_same old new is = inl (
    inl (ap (λ hub. hub.factories.made.entries) is, ap (λ hub. hub.factories.made.next) is),
    all_stay old.made new.made
        (ap (λ hub. hub.made) is),
  )

  publisher_comes : (is_default : U → Type 0) (fixed : BackpressureStrategy → Option BackpressureAction → DegradationAction → B)
      (degrades : B → DegradationCause → DegradationInfo → DegradationAction → Type 0) (opened : Option Opened) (options : PublisherOptions)
      (old new : NumberedHub T U B D) (answer : Reply T) → PublisherComes is_default fixed degrades opened options old answer new
      → ChangesOneThing old new
  publisher_comes is_default fixed degrades None options old new answer comes = by_same old new comes.1
  publisher_comes is_default fixed degrades (Some opened) options old new answer
      ((user_header, is_header, came, (roomier, is_roomier, (outcome, comes, numbers)), is_answer), same) =
      by_made old new same (roomier_changes old.made roomier new.made is_roomier
      (publisher_numbered (domain_of_factory opened) true old.made.publishers.next outcome came roomier new.made numbers))

  subscriber_comes : (fixed : DegradationAction → D) (degrades : D → DegradationCause → DegradationInfo → DegradationAction → Type 0)
      (opened : Option Opened) (options : SubscriberOptions) (old new : NumberedHub T U B D) (answer : Reply T)
      → SubscriberComes fixed degrades opened options old answer new → ChangesOneThing old new
  subscriber_comes fixed degrades None options old new answer comes = by_same old new comes.1
  subscriber_comes fixed degrades (Some opened) options old new answer
      ((came, (roomier, is_roomier, (outcome, comes, numbers)), is_answer), same) =
      by_made old new same (roomier_changes old.made roomier new.made is_roomier
      (subscriber_numbered (domain_of_factory opened) old.made.subscribers.next outcome came roomier new.made numbers))

  pub step_changes : (terms : Terms T U B D) (asked : Command T) (old new : NumberedHub T U B D) (answer : Result (Reply T) AllocError)
      → Step terms asked old answer new → ChangesOneThing old new
  step_changes terms command.Node old new answer step =
      replied _ old new answer (λ reply makes. rw makes.1
      (inl (inl (refl, refl), ((refl, refl), (refl, refl), (refl, refl), (refl, refl))))) step
  step_changes terms (command.Create node name options attributes steps) old new answer step =
      replied _ old new answer (λ reply creates. let (made, does, same, is)
      = creates in by_factories old new same
      (create_changes terms.payload terms.user_header terms.types _ _ attributes steps old.factories.made new.factories.made old.hub
      new.hub made does)) step
  step_changes terms (command.Open node name options requirements steps) old new answer step =
      replied _ old new answer (λ reply opens. let (made, does, same, is)
      = opens in by_factories old new same
      (open_changes terms.payload terms.user_header terms.types _ _ requirements steps old.factories.made new.factories.made old.hub
      new.hub made does)) step
  step_changes terms (command.OpenOrCreate node name options requirements steps) old new answer step =
      replied _ old new answer (λ reply opens. let (made, does, same, is)
      = opens in by_factories old new same
      (either_changes terms.payload terms.user_header terms.types _ _ requirements steps old.factories.made new.factories.made old.hub
      new.hub made does)) step
  step_changes terms (command.Foreign pattern name steps) old new answer step =
      replied _ old new answer (λ reply acts. by_hub old new acts.2) step
  step_changes terms (command.Close factory) old new answer step =
      replied _ old new answer (λ reply closes. let (closed, does, same, is)
      = closes in by_factories old new same
      (close_changes factory _ old.factories.made new.factories.made old.hub new.hub closed does)) step
  step_changes terms (command.Publisher factory options) old new answer step =
      replied _ old new answer (λ reply makes. publisher_comes terms.is_default_header terms.fixed terms.degrades _ options old new reply
      makes) step
  step_changes terms (command.Subscriber factory options) old new answer step =
      replied _ old new answer (λ reply makes. subscriber_comes terms.fixed_reader terms.reader_degrades _ options old new reply makes)
      step
  step_changes terms (command.Loan publisher length) old new answer step =
      by_made old new step.1 (loans _ _ terms.is_default publisher length old.made new.made old.hub new.hub answer step.0)
  step_changes terms (command.LoanUninit publisher length) old new answer step =
      by_made old new step.1 (uninit_loans _ _ publisher length old.made new.made old.hub new.hub answer step.0)
  step_changes terms (command.Set loan place value) old new answer step =
      replied _ old new answer (λ reply does. by_hub old new does.1) step
  step_changes terms (command.Fill loan values) old new answer step =
      replied _ old new answer (λ reply does. by_hub old new does.1) step
  step_changes terms (command.Drop loan) old new answer step =
      replied _ old new answer (λ reply does. let ((done, is_done, is_new, is_made, is), same)
      = does in by_made old new same (loan_spent done loan old.made new.made is_made)) step
  step_changes terms (command.Send loan) old new answer step =
      replied _ old new answer (λ reply does. let ((sent, sends, is_made, is), same)
      = does in by_made old new same (loan_spent _ loan old.made new.made is_made)) step
  step_changes terms (command.Put publisher values) old new answer step =
      replied _ old new answer (λ reply does. by_hub old new does.1) step
  step_changes terms (command.Retry publisher nanoseconds) old new answer step =
      replied _ old new answer (λ reply does. by_hub old new does.1) step
  step_changes terms (command.GiveUp publisher) old new answer step =
      replied _ old new answer (λ reply does. by_hub old new does.1) step
  step_changes terms (command.Receive subscriber) old new answer step =
      by_made old new step.1 (receives _ _ _ subscriber old.made new.made old.hub new.hub answer step.0)
  step_changes terms (command.Read sample) old new answer step = by_same old new step.1
  step_changes terms (command.Sequence sample) old new answer step = replied _ old new answer (λ reply does. by_same old new does.1) step
  step_changes terms (command.Release sample) old new answer step =
      replied _ old new answer (λ reply does. let ((done, is_done, releases, is_made, is), same)
      = does in by_made old new same (sample_spent done sample old.made new.made is_made)) step
  step_changes terms (command.Update number) old new answer step =
      replied _ old new answer (λ reply does. by_hub old new does.1) step
  step_changes terms (command.Leave number) old new answer step =
      replied _ old new answer (λ reply does. by_made old new does.1
      (leaves _ _ _ _ number old.made new.made old.hub new.hub reply does.0)) step
  step_changes terms (command.Has subscriber) old new answer step =
      replied _ old new answer (λ reply does. by_hub old new does.1) step

  -- one number more at most
  pub changes_count : (old new : NumberedHub T U B D) → ChangesOneThing old new → numbers_used new ≤ numbers_used old + 1
  changes_count old new (inl (factories, ((p, p_next), (s, s_next), (l, l_next), (m, m_next)))) =
      omega (arith, one_more old.factories.made new.factories.made factories, p_next, s_next, l_next, m_next)
  changes_count old new (inr ((f, f_next), made)) = omega (arith, f_next, made_one_more old.made new.made made)

  pub numbers_still : (hub : NumberedHub T U B D) → NumbersGoOn hub hub
  numbers_still hub = (
    stays_on hub.factories.made hub.factories.made (refl, refl),
    stays_on hub.made.publishers hub.made.publishers
        (refl, refl),
    stays_on hub.made.subscribers hub.made.subscribers (refl, refl),
    stays_on hub.made.loans hub.made.loans (refl, refl),
    stays_on hub.made.samples hub.made.samples (refl, refl),
  )

  pub numbers_go_on : (old new : NumberedHub T U B D) → ChangesOneThing old new → NumbersGoOn old new
  numbers_go_on old new (inl (factories, (publishers, subscribers, loans, samples))) = (
    changes_on old.factories.made new.factories.made factories,
    stays_on old.made.publishers new.made.publishers publishers,
    stays_on
        old.made.subscribers new.made.subscribers subscribers,
    stays_on old.made.loans new.made.loans loans,
    stays_on old.made.samples new.made.samples samples,
  )
  numbers_go_on old new (inr (factories, inl (publishers, subscribers, loans, samples))) = (
    stays_on old.factories.made new.factories.made factories,
    changes_on old.made.publishers new.made.publishers publishers,
    stays_on
        old.made.subscribers new.made.subscribers subscribers,
    stays_on old.made.loans new.made.loans loans,
    stays_on old.made.samples new.made.samples samples,
  )
  numbers_go_on old new (inr (factories, inr (inl (publishers, subscribers, loans, samples)))) = (
    stays_on old.factories.made new.factories.made factories,
    stays_on old.made.publishers new.made.publishers publishers,
    changes_on
        old.made.subscribers new.made.subscribers subscribers,
    stays_on old.made.loans new.made.loans loans,
    stays_on old.made.samples new.made.samples samples,
  )
  numbers_go_on old new (inr (factories, inr (inr (inl (publishers, subscribers, loans, samples))))) = (
    stays_on old.factories.made new.factories.made factories,
    stays_on old.made.publishers new.made.publishers publishers,
    stays_on
        old.made.subscribers new.made.subscribers subscribers,
    changes_on old.made.loans new.made.loans loans,
    stays_on old.made.samples new.made.samples samples,
  )
  numbers_go_on old new (inr (factories, inr (inr (inr (publishers, subscribers, loans, samples))))) = (
    stays_on old.factories.made new.factories.made factories,
    stays_on old.made.publishers new.made.publishers publishers,
    stays_on
        old.made.subscribers new.made.subscribers subscribers,
    stays_on old.made.loans new.made.loans loans,
    changes_on old.made.samples new.made.samples samples,
  )

  pub numbers_on_and_on : (old mid new : NumberedHub T U B D) → NumbersGoOn old mid → NumbersGoOn mid new → NumbersGoOn old new
  numbers_on_and_on old mid new (f, p, s, l, m) (f_later, p_later, s_later, l_later, m_later) = (
    on_and_on old.factories.made mid.factories.made new.factories.made f f_later,
    on_and_on old.made.publishers mid.made.publishers
        new.made.publishers p p_later,
    on_and_on old.made.subscribers mid.made.subscribers new.made.subscribers s s_later,
    on_and_on old.made.loans mid.made.loans new.made.loans l l_later,
    on_and_on old.made.samples mid.made.samples new.made.samples m m_later,
  )
