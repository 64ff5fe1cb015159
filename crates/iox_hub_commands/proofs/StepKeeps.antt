-- What each command makes of what is counted of all open services, and of what goes by numbers.
use Rattle.std.proofs.Common.{arith, ◌≡◌, ◌≤◌, inl, inr, ℕ, Bool, true, false, Option, None, Some, Result, Ok, Err, refl, ap, sym, subst}
use Rattle.std.proofs.Common.{length}
use Rattle.std.specs.Prelude.{nat_eq}
use Rattle.std.specs.declared.alloc.AllocError.{AllocError}
use Rattle.iox_command.specs.declared.command.Command.{Command}
use Rattle.iox_command.specs.declared.command.Command.TheVariants as command
use Rattle.iox_command.specs.declared.port.PortNumber.{PortNumber}
use Rattle.iox_command.specs.declared.port.PortNumber.TheVariants as port
use Rattle.iox_command.specs.declared.reply.Reply.{Reply}
use Rattle.iox_delivery.specs.declared.port_id.PortId.{PortId}
use Rattle.iox_delivery.specs.DescribeBase.Detail.{Detail}
use Rattle.iox_delivery.specs.DescribeSettings.declared.static_config.Settings.{Settings}
use Rattle.iox_delivery.specs.Domain.declared.domain_id.DomainId.{DomainId}
use Rattle.iox_delivery.specs.Domain.declared.ports.service_ports.ServicePorts.{ServicePorts}
use Rattle.iox_delivery.specs.DomainPorts.declared.attached.Taken.{Taken}
use Rattle.iox_command.specs.DomainValues.declared.degradation.DegradationAction.{DegradationAction}
use Rattle.iox_command.specs.DomainValues.declared.degradation.DegradationInfo.{DegradationInfo}
use Rattle.iox_command.specs.DomainValues.declared.port_error.LoanError.{LoanError}
use Rattle.iox_command.specs.DomainValues.declared.port_error.ReceiveError.{ReceiveError}
use Rattle.iox_hub_commands.specs.Following.{LeaveStep}
use Rattle.iox_hub_commands.specs.Calls.{ready}
use Rattle.iox_hub_commands.specs.Growing.{GrowsFirst}
use Rattle.iox_hub_commands.specs.Numbering.{LendsNumbered, LendsWrittenNumbered, ReceivesNumbered, NumbersLoan, NumbersSample, removed_if}
use Rattle.iox_hub_commands.specs.Tables.{IsFull, IsRoomier, lender, without_publisher, without_subscriber, without_loan, without_sample}
use Rattle.iox_hub_commands.specs.declared.ports.made.Made.{Made}
use Rattle.iox_hub_commands.specs.Lending.{LoanStep, LoanUninitStep}
use Rattle.iox_hub_commands.specs.Receiving.{ReceiveStep}
use Rattle.iox_container.proofs.Joined.{length-removed}
use Rattle.iox_hub_base.specs.Open.{OpenServices}
use Rattle.iox_hub_base.specs.ServicesOpening.{Opens, without_service}
use Rattle.iox_delivery.specs.Container.NumberTable.{value_at}
use Rattle.iox_hub_commands.specs.PortRoom.{OfPorts}
use Rattle.iox_hub_commands.specs.CommandSteps.{IsReplied, Step, publisher_may_degrade, publisher_may_decide, subscriber_may_degrade}
use Rattle.iox_hub_commands.specs.declared.numbered_hub.NumberedHub.{NumberedHub}
use Rattle.iox_hub_commands.specs.Terms.{Terms}
use Rattle.iox_hub_commands.proofs.Measures.{Measure, CountsIn, same_counts, come_counts, gone_counts}
use Rattle.iox_hub_commands.proofs.PortsCount.{Balances, still_balances, none_balances, loan_balances, loan_uninit_balances, set_balances}
use Rattle.iox_hub_commands.proofs.PortsCount.{fill_balances, drop_balances, send_balances, put_balances, retry_balances}
use Rattle.iox_hub_commands.proofs.PortsCount.{give_up_balances, receive_balances, release_balances, update_balances, has_balances}
use Rattle.iox_hub_commands.proofs.PortsCount.{leave_balances}
use Rattle.iox_hub_commands.proofs.ServicesGo.{create_go, open_go, either_go, close_go, foreign_go}

-- there are no more publishers, and no more subscribers
abbrev pub PortsStay : Made → Made → Type 0
PortsStay made after = (length after.publishers.entries ≤ length made.publishers.entries)
    × (length after.subscribers.entries ≤ length made.subscribers.entries)

same_stays : (made after : Made) → after ≡ made → PortsStay made after
same_stays made after is = rw is (omega arith, omega arith)

-- a number is spent
loan_stays : (done : Bool) (number : ℕ) (made after : Made) → after ≡ removed_if done (without_loan number) made → PortsStay made after
loan_stays true number made after is = rw is (omega arith, omega arith)
loan_stays false number made after is = same_stays made after is

sample_stays : (done : Bool) (number : ℕ) (made after : Made) → after ≡ removed_if done (without_sample number) made → PortsStay made after
sample_stays true number made after is = rw is (omega arith, omega arith)
sample_stays false number made after is = same_stays made after is

publisher_stays : (done : Bool) (number : ℕ) (made after : Made) → after ≡ removed_if done (without_publisher number) made
    → PortsStay made after
publisher_stays true number made after is = let left
    = length-removed (nat_eq number) made.publishers.entries in rw is (omega (arith, left), omega arith)
publisher_stays false number made after is = same_stays made after is

subscriber_stays : (done : Bool) (number : ℕ) (made after : Made) → after ≡ removed_if done (without_subscriber number) made
    → PortsStay made after
subscriber_stays true number made after is = let left
    = length-removed (nat_eq number) made.subscribers.entries in rw is (omega arith, omega (arith, left))
subscriber_stays false number made after is = same_stays made after is

-- a loan gets a number, and a sample
lent_stays : (port : Option PortId) (lent : Option (Result ℕ LoanError)) (made after : Made) (answer : Option (Result ℕ LoanError))
    → NumbersLoan port lent made answer after → PortsStay made after
lent_stays port None made after answer numbers = same_stays made after numbers.1
lent_stays port (Some (Err error)) made after answer numbers = same_stays made after numbers.1
lent_stays None (Some (Ok slot)) made after answer numbers = absurd numbers
lent_stays (Some port) (Some (Ok slot)) made after answer numbers = rw numbers.1 (omega arith, omega arith)

received_stays : (port : Option PortId) (got : Option (Result (Option Taken) ReceiveError)) (made after : Made)
    (answer : Option (Result (Option ℕ) ReceiveError)) → NumbersSample port got made answer after → PortsStay made after
received_stays port None made after answer numbers = same_stays made after numbers.1
received_stays port (Some (Err error)) made after answer numbers = same_stays made after numbers.1
received_stays port (Some (Ok None)) made after answer numbers = same_stays made after numbers.1
received_stays None (Some (Ok (Some taken))) made after answer numbers = absurd numbers
received_stays (Some port) (Some (Ok (Some taken))) made after answer numbers = rw numbers.1 (omega arith, omega arith)

-- room is made first
roomier_stays : (made roomier after : Made) → IsRoomier made roomier → PortsStay roomier after → PortsStay made after
roomier_stays made roomier after ((publishers, p_next, p_room), (subscribers, s_next, s_room), loans, samples) (fewer, less) =
    let same = ap length publishers in let even = ap length subscribers in (omega (arith, fewer, same), omega (arith, less, even))

grown_stays : {H A : Type 0} (is_full : Type 0) (call : Made → H → A → Made → H → Type 0)
    → ((made after : Made) (old new : H) (answer : A) → call made old answer after new → PortsStay made after)
    → (made after : Made) (old new : H) (answer : Result A AllocError) → GrowsFirst is_full call made old answer after new
    → PortsStay made after
grown_stays is_full call stays made after old new (Err lacking) (full, same, here) = same_stays made after same
grown_stays is_full call stays made after old new (Ok answer) (roomier, is_roomier, calls)
    = roomier_stays made roomier after is_roomier (stays roomier after old new answer calls)

loans_stay : {T U H : Type 0} (ports_of : DomainId → H → Option (ServicePorts T U)) (with_ports : DomainId → ServicePorts T U → H → H)
    (is_default : T → Type 0) (publisher elements : ℕ) (made after : Made) (old new : H) (answer : Result (Reply T) AllocError)
    → LoanStep ports_of with_ports is_default publisher elements made old answer after new → PortsStay made after
loans_stay ports_of with_ports is_default publisher elements made after old new answer (value, is_value, lent, grows, is_answer) =
    let port = ready ports_of (lender elements (value_at made.publishers publisher)) old in
    grown_stays (IsFull made.loans) (LendsWrittenNumbered ports_of with_ports elements value port)
    (λ before later hub other reply (outcome, at, numbers). lent_stays port outcome before later reply numbers) made after old new
    lent grows

uninit_loans_stay : {T U H : Type 0} (ports_of : DomainId → H → Option (ServicePorts T U))
    (with_ports : DomainId → ServicePorts T U → H → H) (publisher elements : ℕ) (made after : Made) (old new : H)
    (answer : Result (Reply T) AllocError)
    → LoanUninitStep ports_of with_ports publisher elements made old answer after new → PortsStay made after
uninit_loans_stay ports_of with_ports publisher elements made after old new answer (lent, grows, is_answer) =
    let port = lender elements (value_at made.publishers publisher) in
    grown_stays (IsFull made.loans) (LendsNumbered ports_of with_ports elements port)
    (λ before later hub other reply (outcome, at, numbers). lent_stays port outcome before later reply numbers) made after old new
    lent grows

receives_stay : {T U H : Type 0} (ports_of : DomainId → H → Option (ServicePorts T U))
    (with_ports : DomainId → ServicePorts T U → H → H) (degrades : DomainId → ℕ → H → DegradationInfo → DegradationAction → Type 0)
    (subscriber : ℕ) (made after : Made)
    (old new : H) (answer : Result (Reply T) AllocError) → ReceiveStep ports_of with_ports degrades subscriber made old answer after new
    → PortsStay made after
receives_stay ports_of with_ports degrades subscriber made after old new answer (received, grows, is_told) =
    let port = value_at made.subscribers subscriber in
    grown_stays (IsFull made.samples) (ReceivesNumbered ports_of with_ports degrades port)
    (λ before later hub other reply (outcome, at, numbers). received_stays port outcome before later reply numbers) made after old
    new received grows

leaves_stay : {T U H : Type 0} (ports_of : DomainId → H → Option (ServicePorts T U)) (with_ports : DomainId → ServicePorts T U → H → H)
    (without without_reader : DomainId → ℕ → H → H) (number : PortNumber) (made after : Made) (old new : H) (answer : Reply T)
    → LeaveStep ports_of with_ports without without_reader number made old answer after new → PortsStay made after
leaves_stay ports_of with_ports without without_reader (port.Publisher number) made after old new answer (done, at, is, is_answer)
    = publisher_stays done number made after is
leaves_stay ports_of with_ports without without_reader (port.Subscriber number) made after old new answer (done, at, is, is_answer)
    = subscriber_stays done number made after is

module _ {T U B D : Type 0} (m : Measure T U) where
  -- what is counted and what goes by numbers is together no more than it was, and there are no more ports
  abbrev pub Keeps : NumberedHub T U B D → NumberedHub T U B D → Type 0
  Keeps old new = PortsStay old.made new.made × Balances m 0 old.made old.hub new.made new.hub

  replied : (does : Reply T → Type 0) (old new : NumberedHub T U B D) (answer : Result (Reply T) AllocError)
      → ((reply : Reply T) → does reply → Keeps old new) → IsReplied does answer → Keeps old new
  replied does old new (Ok reply) keeps done = keeps reply done
  replied does old new (Err lacking) keeps done = absurd done

  -- a command that changes nothing that goes by numbers
  same_keeps : (old new : NumberedHub T U B D) → new.made ≡ old.made → Balances m 0 old.made old.hub old.made new.hub → Keeps old new
  same_keeps old new same balances
      = (same_stays old.made new.made same, subst (λ made. Balances m 0 old.made old.hub made new.hub) (sym same) balances)

  by_hub : (old new : NumberedHub T U B D) → new ≡ record old { hub = new.hub } → Balances m 0 old.made old.hub old.made new.hub
      → Keeps old new
  by_hub old new is balances = same_keeps old new (ap (λ hub. hub.made) is) balances

  -- the services of a hub
  abbrev CountsServices : OpenServices T U B D → OpenServices T U B D → Type 0
  CountsServices old new = CountsIn m 0 0 old.domains new.domains

  still : (old new : OpenServices T U B D) → new ≡ old → CountsServices old new
  still old new is = same_counts m 0 0 old.domains new.domains (omega arith) (ap (λ services. services.domains) is)

  opening : (payload user_header : Detail) (buffer number : ℕ) (settings : Settings) (old new : OpenServices T U B D)
      → Opens payload user_header buffer number settings old (Ok tt) new → CountsServices old new
  opening payload user_header buffer number settings old new (inl (why, same)) = still old new same
  opening payload user_header buffer number settings old new (inr (closed, fits, (domain, is_new, is)))
      = rw is (come_counts m number old.domains domain _ _ is_new.ports)

  closing : (number : ℕ) (old : OpenServices T U B D) → CountsServices old (without_service number old)
  closing number old = gone_counts m number old.domains

  by_services : (old new : NumberedHub T U B D) → new.made ≡ old.made → CountsServices old.hub.services new.hub.services → Keeps old new
  by_services old new same counts = same_keeps old new same (still_balances m old.made old.hub new.hub counts)

  module _ (terms : Terms T U B D)
      (old new : NumberedHub T U B D) (Holds : Type 0) (follows : Keeps old new → Holds) where
    -- what holds where a command keeps all, and of those by which ports come, holds of each
    pub step_holds : (asked : Command T) (answer : Result (Reply T) AllocError)
        → Step terms asked old answer new → OfPorts Holds asked → Holds
    step_holds command.Node answer step of
        = follows (replied _ old new answer
        (λ reply makes. by_services old new (ap (λ hub. hub.made) makes.1)
        (still old.hub.services new.hub.services (ap (λ hub. hub.hub.services) makes.1))) step)
    step_holds (command.Create node name options attributes steps) answer step of =
        follows (replied _ old new answer (λ reply does. let (made, opens, same, is)
        = does in by_services old new same
        (create_go CountsServices still opening closing _ terms.payload terms.user_header terms.types _ attributes steps
        old.factories.made new.factories.made old.hub new.hub made opens)) step)
    step_holds (command.Open node name options requirements steps) answer step of =
        follows (replied _ old new answer (λ reply does. let (made, opens, same, is)
        = does in by_services old new same
        (open_go CountsServices still opening closing _ terms.payload terms.user_header terms.types _ requirements steps
        old.factories.made new.factories.made old.hub new.hub made opens)) step)
    step_holds (command.OpenOrCreate node name options requirements steps) answer step of =
        follows (replied _ old new answer (λ reply does. let (made, opens, same, is)
        = does in by_services old new same
        (either_go CountsServices still opening closing _ terms.payload terms.user_header terms.types _ requirements steps
        old.factories.made new.factories.made old.hub new.hub made opens)) step)
    step_holds (command.Foreign pattern name steps) answer step of =
        follows (replied _ old new answer (λ reply does. let (acted, acts, same, is)
        = does in by_services old new (ap (λ hub. hub.made) same)
        (foreign_go CountsServices still opening closing pattern name terms.types steps old.hub new.hub acted acts)) step)
    step_holds (command.Close factory) answer step of =
        follows (replied _ old new answer (λ reply does. let (closed, closes, same, is)
        = does in by_services old new same
        (close_go CountsServices still opening closing factory _ old.factories.made new.factories.made old.hub new.hub closed
        closes)) step)
    step_holds (command.Publisher factory options) answer step of = of
    step_holds (command.Subscriber factory options) answer step of = of
    step_holds (command.Loan publisher elements) answer step of =
        follows (
          loans_stay _ _ terms.is_default publisher elements old.made new.made old.hub new.hub answer step.0,
          loan_balances m terms.is_default publisher elements old.made new.made old.hub new.hub answer step.0,
        )
    step_holds (command.LoanUninit publisher elements) answer step of =
        follows (
          uninit_loans_stay _ _ publisher elements old.made new.made old.hub new.hub answer step.0,
          loan_uninit_balances m
              publisher elements old.made new.made old.hub new.hub answer step.0,
        )
    step_holds (command.Set loan place value) answer step of
        = follows (replied _ old new answer
        (λ reply does. by_hub old new does.1 (set_balances m loan place value old.made old.hub new.hub reply does.0)) step)
    step_holds (command.Fill loan values) answer step of
        = follows (replied _ old new answer
        (λ reply does. by_hub old new does.1 (fill_balances m loan values old.made old.hub new.hub reply does.0)) step)
    step_holds (command.Drop loan) answer step of =
        follows (replied _ old new answer
        (λ reply does. let ((done, is_done, is_new, is_made, is), same)
        = does in (loan_stays done loan old.made new.made is_made, drop_balances m loan old.made new.made old.hub new.hub reply does.0))
        step)
    step_holds (command.Send loan) answer step of =
        follows (replied _ old new answer
        (λ reply does. let ((sent, sends, is_made, is), same)
        = does in (
          loan_stays _ loan old.made new.made is_made,
          send_balances m (publisher_may_degrade terms.degrades) (publisher_may_decide terms.decides) loan old.made new.made old.hub
              new.hub reply does.0,
        )) step)
    step_holds (command.Put publisher values) answer step of =
        follows (replied _ old new answer (λ reply does. by_hub old new does.1
        (put_balances m (publisher_may_degrade terms.degrades) (publisher_may_decide terms.decides) publisher values old.made old.hub
        new.hub reply does.0)) step)
    step_holds (command.Retry publisher nanoseconds) answer step of =
        follows (replied _ old new answer (λ reply does. by_hub old new does.1
        (retry_balances m (publisher_may_degrade terms.degrades) (publisher_may_decide terms.decides) publisher nanoseconds old.made
        old.hub new.hub reply does.0)) step)
    step_holds (command.GiveUp publisher) answer step of
        = follows (replied _ old new answer
        (λ reply does. by_hub old new does.1 (give_up_balances m publisher old.made old.hub new.hub reply does.0)) step)
    step_holds (command.Receive subscriber) answer step of =
        follows (
          receives_stay _ _ _ subscriber old.made new.made old.hub new.hub answer step.0,
          receive_balances m
              (publisher_may_degrade terms.degrades) (subscriber_may_degrade terms.reader_degrades) subscriber old.made new.made old.hub
              new.hub answer step.0,
        )
    step_holds (command.Read sample) answer step of =
        follows (same_keeps old new (ap (λ hub. hub.made) step.1)
        (none_balances m old.made old.made old.hub new.hub refl (ap (λ hub. hub.hub) step.1)))
    step_holds (command.Sequence sample) answer step of =
        follows (replied _ old new answer (λ reply does. same_keeps old new (ap (λ hub. hub.made) does.1)
        (none_balances m old.made old.made old.hub new.hub refl (ap (λ hub. hub.hub) does.1))) step)
    step_holds (command.Release sample) answer step of =
        follows (replied _ old new answer
        (λ reply does. let ((done, is_done, releases, is_made, is), same)
        = does in (
          sample_stays done sample old.made new.made is_made,
          release_balances m sample old.made new.made old.hub new.hub reply
              does.0,
        )) step)
    step_holds (command.Update number) answer step of =
        follows (replied _ old new answer (λ reply does. by_hub old new does.1
        (update_balances m (publisher_may_degrade terms.degrades) (subscriber_may_degrade terms.reader_degrades) number old.made old.hub
        new.hub reply does.0)) step)
    step_holds (command.Leave number) answer step of =
        follows (replied _ old new answer
        (λ reply does. (
          leaves_stay _ _ _ _ number old.made new.made old.hub new.hub reply does.0,
          leave_balances m number old.made
              new.made old.hub new.hub reply does.0,
        )) step)
    step_holds (command.Has subscriber) answer step of =
        follows (replied _ old new answer (λ reply does. by_hub old new does.1
        (has_balances m (publisher_may_degrade terms.degrades) (subscriber_may_degrade terms.reader_degrades) subscriber old.made old.hub
        new.hub reply does.0)) step)
