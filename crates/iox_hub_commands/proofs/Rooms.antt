-- By no command room for numbers of loans and samples goes, and what a hub with more room is.
use Rattle.std.proofs.Common.{arith, ◌≡◌, ◌∙◌, sym, ◌≤◌, ℕ, Bool, true, false, List, [], ◌∷◌, ◌++◌, length, Option, None, Some, Result}
use Rattle.std.proofs.Common.{Ok, Err, refl, ap, subst}
use Rattle.std.proofs.Math.Seq.{get_or-append_seam}
use Rattle.std.proofs.lemmas.List.{length-append}
use Rattle.std.proofs.lemmas.Option.{slice_get_read}
use Rattle.std.specs.Prelude.{OnOk, is_err, slice_get}
use Rattle.std.specs.declared.alloc.AllocError.{AllocError}
use Rattle.iox_command.specs.declared.command.Command.{Command}
use Rattle.iox_command.specs.declared.command.Command.TheVariants as command
use Rattle.iox_command.specs.declared.port.PortNumber.{PortNumber}
use Rattle.iox_command.specs.declared.port.PortNumber.TheVariants as port
use Rattle.iox_command.specs.declared.port.PublisherOptions.{PublisherOptions}
use Rattle.iox_command.specs.declared.port.SubscriberOptions.{SubscriberOptions}
use Rattle.iox_command.specs.declared.reply.Reply.{Reply}
use Rattle.iox_delivery.specs.declared.port_id.PortId.{PortId}
use Rattle.iox_delivery.specs.Domain.declared.domain_id.DomainId.{DomainId}
use Rattle.iox_delivery.specs.Domain.declared.ports.service_ports.ServicePorts.{ServicePorts}
use Rattle.iox_delivery.specs.DomainPorts.declared.attached.Taken.{Taken}
use Rattle.iox_command.specs.DomainValues.declared.backpressure.BackpressureAction.{BackpressureAction}
use Rattle.iox_command.specs.DomainValues.declared.backpressure_strategy.BackpressureStrategy.{BackpressureStrategy}
use Rattle.iox_command.specs.DomainValues.declared.degradation.DegradationAction.{DegradationAction}
use Rattle.iox_command.specs.DomainValues.declared.degradation.DegradationCause.{DegradationCause}
use Rattle.iox_command.specs.DomainValues.declared.degradation.DegradationInfo.{DegradationInfo}
use Rattle.iox_command.specs.DomainValues.declared.port_error.LoanError.{LoanError}
use Rattle.iox_command.specs.DomainValues.declared.port_error.ReceiveError.{ReceiveError}
use Rattle.iox_hub_commands.specs.Following.{LeaveStep}
use Rattle.iox_hub_commands.specs.Calls.{ready}
use Rattle.iox_hub_commands.specs.Growing.{GrowsFirst}
use Rattle.iox_hub_commands.specs.Making.{NumbersPort, with_publisher, with_subscriber}
use Rattle.iox_hub_commands.specs.Messages.{SomeValues}
use Rattle.iox_hub_commands.specs.Numbering.{LendsNumbered, LendsWrittenNumbered, ReceivesNumbered, NumbersLoan, NumbersSample, removed_if}
use Rattle.iox_hub_commands.specs.Tables.{IsFull, IsRoomier, lender, without_publisher, without_subscriber, without_loan, without_sample}
use Rattle.iox_hub_commands.specs.declared.ports.made.Made.{Made}
use Rattle.iox_hub_commands.specs.Lending.{LoanStep, LoanUninitStep, lent_reply}
use Rattle.iox_hub_commands.specs.Reading.{values_under}
use Rattle.iox_hub_commands.specs.Receiving.{ReceiveStep}
use Rattle.iox_hub_base.specs.AsHome.{hub_ports}
use Rattle.iox_hub_base.specs.Opening.{Made as Opened}
use Rattle.iox_delivery.specs.Container.NumberTable.{NumberTable, Rises, value_at}
use Rattle.iox_hub_base.specs.declared.hub.HubConfig.{HubConfig}
use Rattle.iox_hub_commands.specs.Lives.{NumbersRise}
use Rattle.iox_hub_commands.specs.Numbers.{IsNew}
use Rattle.iox_hub_commands.specs.PortRoom.{LacksInRoom}
use Rattle.iox_hub_commands.specs.Room.{GivesValues, OnlyRoomier}
use Rattle.iox_hub_commands.specs.Services.{PublisherComes, SubscriberComes, domain_of_factory}
use Rattle.iox_hub_commands.specs.CommandSteps.{IsReplied, Step}
use Rattle.iox_hub_commands.specs.declared.numbered_hub.NumberedHub.{NumberedHub}
use Rattle.iox_hub_commands.specs.Terms.{Terms}

-- the tables of loans and of samples have no less room
abbrev pub NoRoomGoes : Made → Made → Type 0
NoRoomGoes old new = (old.loans.room ≤ new.loans.room) × (old.samples.room ≤ new.samples.room)

-- no room goes of what is the same
same_room : (made after : Made) → after ≡ made → NoRoomGoes made after
same_room made after is = rw is (omega arith, omega arith)

-- a number is spent
publisher_spent : (done : Bool) (number : ℕ) (made after : Made) → after ≡ removed_if done (without_publisher number) made
    → NoRoomGoes made after
publisher_spent true number made after is = rw is (omega arith, omega arith)
publisher_spent false number made after is = same_room made after is

subscriber_spent : (done : Bool) (number : ℕ) (made after : Made) → after ≡ removed_if done (without_subscriber number) made
    → NoRoomGoes made after
subscriber_spent true number made after is = rw is (omega arith, omega arith)
subscriber_spent false number made after is = same_room made after is

loan_spent : (done : Bool) (number : ℕ) (made after : Made) → after ≡ removed_if done (without_loan number) made → NoRoomGoes made after
loan_spent true number made after is = rw is (omega arith, omega arith)
loan_spent false number made after is = same_room made after is

sample_spent : (done : Bool) (number : ℕ) (made after : Made) → after ≡ removed_if done (without_sample number) made → NoRoomGoes made after
sample_spent true number made after is = rw is (omega arith, omega arith)
sample_spent false number made after is = same_room made after is

-- a loan gets a number
loan_numbered : (port : Option PortId) (lent : Option (Result ℕ LoanError)) (made after : Made) (answer : Option (Result ℕ LoanError))
    → NumbersLoan port lent made answer after → NoRoomGoes made after
loan_numbered port None made after answer numbers = same_room made after numbers.1
loan_numbered port (Some (Err error)) made after answer numbers = same_room made after numbers.1
loan_numbered None (Some (Ok slot)) made after answer numbers = absurd numbers
loan_numbered (Some port) (Some (Ok slot)) made after answer numbers = rw numbers.1 (omega arith, omega arith)

-- a sample gets a number
sample_numbered : (port : Option PortId) (received : Option (Result (Option Taken) ReceiveError)) (made after : Made)
    (answer : Option (Result (Option ℕ) ReceiveError)) → NumbersSample port received made answer after → NoRoomGoes made after
sample_numbered port None made after answer numbers = same_room made after numbers.1
sample_numbered port (Some (Err error)) made after answer numbers = same_room made after numbers.1
sample_numbered port (Some (Ok None)) made after answer numbers = same_room made after numbers.1
sample_numbered None (Some (Ok (Some taken))) made after answer numbers = absurd numbers
sample_numbered (Some port) (Some (Ok (Some taken))) made after answer numbers = rw numbers.1 (omega arith, omega arith)

-- room is made first
roomier_first : (made roomier after : Made) → IsRoomier made roomier → NoRoomGoes roomier after → NoRoomGoes made after
roomier_first made roomier after ((p, p_next, p_room), (s, s_next, s_room), (l, l_next, l_room), (m, m_next, m_room))
    (loan_room, sample_room) = (omega (arith, l_room, loan_room), omega (arith, m_room, sample_room))

grown : {H A : Type 0} (is_full : Type 0) (call : Made → H → A → Made → H → Type 0)
    → ((made after : Made) (old new : H) (answer : A) → call made old answer after new → NoRoomGoes made after)
    → (made after : Made) (old new : H) (answer : Result A AllocError) → GrowsFirst is_full call made old answer after new
    → NoRoomGoes made after
grown is_full call grows made after old new (Err lacking) (full, same, here) = same_room made after same
grown is_full call grows made after old new (Ok answer) (roomier, is_roomier, calls)
    = roomier_first made roomier after is_roomier (grows roomier after old new answer calls)

-- a port gets a number
publisher_numbered : {E : Type 0} (domain : DomainId) (holds_slices : Bool) (next : ℕ) (came answer : Option (Result ℕ E))
    (made after : Made) → NumbersPort (with_publisher domain holds_slices) next came made answer after → NoRoomGoes made after
publisher_numbered domain holds_slices next None answer made after numbers = same_room made after numbers.1
publisher_numbered domain holds_slices next (Some (Err error)) answer made after numbers = same_room made after numbers.1
publisher_numbered domain holds_slices next (Some (Ok number)) answer made after numbers = rw numbers.1 (omega arith, omega arith)

subscriber_numbered : {E : Type 0} (domain : DomainId) (next : ℕ) (came answer : Option (Result ℕ E)) (made after : Made)
    → NumbersPort (with_subscriber domain) next came made answer after → NoRoomGoes made after
subscriber_numbered domain next None answer made after numbers = same_room made after numbers.1
subscriber_numbered domain next (Some (Err error)) answer made after numbers = same_room made after numbers.1
subscriber_numbered domain next (Some (Ok number)) answer made after numbers = rw numbers.1 (omega arith, omega arith)

-- a publisher lends
loans : {T U H : Type 0} (ports_of : DomainId → H → Option (ServicePorts T U)) (with_ports : DomainId → ServicePorts T U → H → H)
    (is_default : T → Type 0) (publisher elements : ℕ) (made after : Made) (old new : H) (answer : Result (Reply T) AllocError)
    → LoanStep ports_of with_ports is_default publisher elements made old answer after new → NoRoomGoes made after
loans ports_of with_ports is_default publisher elements made after old new answer (value, is_value, lent, grows, is_answer) =
    let port = ready ports_of (lender elements (value_at made.publishers publisher)) old in
    grown (IsFull made.loans) (LendsWrittenNumbered ports_of with_ports elements value port)
    (λ before later hub other reply (outcome, at, numbers). loan_numbered port outcome before later reply numbers) made after old new
    lent grows

-- a publisher lends what isn't written
uninit_loans : {T U H : Type 0} (ports_of : DomainId → H → Option (ServicePorts T U)) (with_ports : DomainId → ServicePorts T U → H → H)
    (publisher elements : ℕ) (made after : Made) (old new : H) (answer : Result (Reply T) AllocError)
    → LoanUninitStep ports_of with_ports publisher elements made old answer after new → NoRoomGoes made after
uninit_loans ports_of with_ports publisher elements made after old new answer (lent, grows, is_answer) =
    let port = lender elements (value_at made.publishers publisher) in
    grown (IsFull made.loans) (LendsNumbered ports_of with_ports elements port)
    (λ before later hub other reply (outcome, at, numbers). loan_numbered port outcome before later reply numbers) made after old new
    lent grows

-- a subscriber receives
receives : {T U H : Type 0} (ports_of : DomainId → H → Option (ServicePorts T U)) (with_ports : DomainId → ServicePorts T U → H → H)
    (degrades : DomainId → ℕ → H → DegradationInfo → DegradationAction → Type 0) (subscriber : ℕ) (made after : Made)
    (old new : H) (answer : Result (Reply T) AllocError) → ReceiveStep ports_of with_ports degrades subscriber made old answer after new
    → NoRoomGoes made after
receives ports_of with_ports degrades subscriber made after old new answer (received, grows, is_answer) =
    let port = value_at made.subscribers subscriber in
    grown (IsFull made.samples) (ReceivesNumbered ports_of with_ports degrades port)
    (λ before later hub other reply (outcome, at, numbers). sample_numbered port outcome before later reply numbers) made after old new
    received grows

-- a port leaves
leaves : {T U H : Type 0} (ports_of : DomainId → H → Option (ServicePorts T U)) (with_ports : DomainId → ServicePorts T U → H → H)
    (without without_reader : DomainId → ℕ → H → H) (number : PortNumber) (made after : Made) (old new : H) (answer : Reply T)
    → LeaveStep ports_of with_ports without without_reader number made old answer after new → NoRoomGoes made after
leaves ports_of with_ports without without_reader (port.Publisher number) made after old new answer (done, at, is, is_answer)
    = publisher_spent done number made after is
leaves ports_of with_ports without without_reader (port.Subscriber number) made after old new answer (done, at, is, is_answer)
    = subscriber_spent done number made after is

-- a loan that isn't replied to found its table full
pub lacking_is_full : {T H : Type 0} (is_full : Type 0) (call : Made → H → Option (Result ℕ LoanError) → Made → H → Type 0)
    (made after : Made) (old new : H) (lacking : AllocError) (lent : Result (Option (Result ℕ LoanError)) AllocError)
    → Err lacking ≡ lent_reply {T = T} lent → GrowsFirst is_full call made old lent after new → is_full
lacking_is_full is_full call made after old new lacking (Ok lent) is grows = cc is
lacking_is_full is_full call made after old new lacking (Err wanting) is (so, same, here) = so

-- the numbers of a table with none rise
none_rise : {V : Type 0} (table : NumberTable V) → (table.entries ≡ []) × (table.next ≡ 1) → Rises 1 table.entries table.next
none_rise table (none, one) = rw (none, one) (omega arith)

module _ {T U B D : Type 0} where
  replied : (does : Reply T → Type 0) (old new : NumberedHub T U B D) (answer : Result (Reply T) AllocError)
      → ((reply : Reply T) → does reply → NoRoomGoes old.made new.made) → IsReplied does answer → NoRoomGoes old.made new.made
  replied does old new (Ok reply) grows done = grows reply done
  replied does old new (Err lacking) grows done = absurd done

  by_hub : (old new : NumberedHub T U B D) → new ≡ record old { hub = new.hub } → NoRoomGoes old.made new.made
  by_hub old new is = same_room old.made new.made (ap (λ hub. hub.made) is)

  publisher_comes : (is_default : U → Type 0) (fixed : BackpressureStrategy → Option BackpressureAction → DegradationAction → B)
      (degrades : B → DegradationCause → DegradationInfo → DegradationAction → Type 0) (opened : Option Opened) (options : PublisherOptions)
      (old new : NumberedHub T U B D) (answer : Reply T) → PublisherComes is_default fixed degrades opened options old answer new
      → NoRoomGoes old.made new.made
  publisher_comes is_default fixed degrades None options old new answer comes = same_room old.made new.made (ap (λ hub. hub.made) comes.1)
  publisher_comes is_default fixed degrades (Some opened) options old new answer
      ((user_header, is_header, came, (roomier, is_roomier, (outcome, comes, numbers)), is_answer), same) =
      roomier_first old.made roomier new.made is_roomier
      (publisher_numbered (domain_of_factory opened) true old.made.publishers.next outcome came roomier new.made numbers)

  subscriber_comes : (fixed : DegradationAction → D) (degrades : D → DegradationCause → DegradationInfo → DegradationAction → Type 0)
      (opened : Option Opened) (options : SubscriberOptions) (old new : NumberedHub T U B D) (answer : Reply T)
      → SubscriberComes fixed degrades opened options old answer new → NoRoomGoes old.made new.made
  subscriber_comes fixed degrades None options old new answer comes = same_room old.made new.made (ap (λ hub. hub.made) comes.1)
  subscriber_comes fixed degrades (Some opened) options old new answer
      ((came, (roomier, is_roomier, (outcome, comes, numbers)), is_answer), same) =
      roomier_first old.made roomier new.made is_roomier
      (subscriber_numbered (domain_of_factory opened) old.made.subscribers.next outcome came roomier new.made numbers)

  module _ (terms : Terms T U B D) where
    -- by no command room goes
    pub no_room_goes : (asked : Command T) (old new : NumberedHub T U B D) (answer : Result (Reply T) AllocError)
        → Step terms asked old answer new → NoRoomGoes old.made new.made
    no_room_goes command.Node old new answer step
        = replied _ old new answer (λ reply makes. same_room old.made new.made (ap (λ hub. hub.made) makes.1)) step
    no_room_goes (command.Create node name options attributes steps) old new answer step
        = replied _ old new answer (λ reply creates. let (made, does, same, is) = creates in same_room old.made new.made same) step
    no_room_goes (command.Open node name options requirements steps) old new answer step
        = replied _ old new answer (λ reply opens. let (made, does, same, is) = opens in same_room old.made new.made same) step
    no_room_goes (command.OpenOrCreate node name options requirements steps) old new answer step
        = replied _ old new answer (λ reply opens. let (made, does, same, is) = opens in same_room old.made new.made same) step
    no_room_goes (command.Foreign pattern name steps) old new answer step
        = replied _ old new answer (λ reply acts. by_hub old new acts.2) step
    no_room_goes (command.Close factory) old new answer step
        = replied _ old new answer (λ reply closes. let (closed, does, same, is) = closes in same_room old.made new.made same) step
    no_room_goes (command.Publisher factory options) old new answer step
        = replied _ old new answer (λ reply makes. publisher_comes terms.is_default_header terms.fixed terms.degrades _ options old new
        reply makes) step
    no_room_goes (command.Subscriber factory options) old new answer step
        = replied _ old new answer (λ reply makes. subscriber_comes terms.fixed_reader terms.reader_degrades _ options old new reply
        makes) step
    no_room_goes (command.Loan publisher elements) old new answer step
        = loans _ _ terms.is_default publisher elements old.made new.made old.hub new.hub answer step.0
    no_room_goes (command.LoanUninit publisher elements) old new answer step
        = uninit_loans _ _ publisher elements old.made new.made old.hub new.hub answer step.0
    no_room_goes (command.Set loan place value) old new answer step = replied _ old new answer (λ reply does. by_hub old new does.1) step
    no_room_goes (command.Fill loan values) old new answer step = replied _ old new answer (λ reply does. by_hub old new does.1) step
    no_room_goes (command.Drop loan) old new answer step =
        replied _ old new answer (λ reply does. let ((done, is_done, is_new, is_made, is), same)
        = does in loan_spent done loan old.made new.made is_made) step
    no_room_goes (command.Send loan) old new answer step
        = replied _ old new answer (λ reply does. let ((sent, sends, is_made, is), same)
        = does in loan_spent _ loan old.made new.made is_made) step
    no_room_goes (command.Put publisher values) old new answer step = replied _ old new answer (λ reply does. by_hub old new does.1) step
    no_room_goes (command.Retry publisher nanoseconds) old new answer step
        = replied _ old new answer (λ reply does. by_hub old new does.1) step
    no_room_goes (command.GiveUp publisher) old new answer step = replied _ old new answer (λ reply does. by_hub old new does.1) step
    no_room_goes (command.Receive subscriber) old new answer step
        = receives _ _ _ subscriber old.made new.made old.hub new.hub answer step.0
    no_room_goes (command.Read sample) old new answer step = same_room old.made new.made (ap (λ hub. hub.made) step.1)
    no_room_goes (command.Sequence sample) old new answer step
        = replied _ old new answer (λ reply does. same_room old.made new.made (ap (λ hub. hub.made) does.1)) step
    no_room_goes (command.Release sample) old new answer step =
        replied _ old new answer (λ reply does. let ((done, is_done, releases, is_made, is), same)
        = does in sample_spent done sample old.made new.made is_made) step
    no_room_goes (command.Update number) old new answer step = replied _ old new answer (λ reply does. by_hub old new does.1) step
    no_room_goes (command.Leave number) old new answer step
        = replied _ old new answer (λ reply does. leaves _ _ _ _ number old.made new.made old.hub new.hub reply does.0) step
    no_room_goes (command.Has subscriber) old new answer step = replied _ old new answer (λ reply does. by_hub old new does.1) step

  -- a command that isn't replied to, though the ports have room, would reply with values
  pub lacks_values : (asked : Command T) (old new : NumberedHub T U B D) → LacksInRoom asked old new → GivesValues asked new
  lacks_values command.Node old new lacks = absurd lacks
  lacks_values (command.Create node name options attributes steps) old new lacks = absurd lacks
  lacks_values (command.Open node name options requirements steps) old new lacks = absurd lacks
  lacks_values (command.OpenOrCreate node name options requirements steps) old new lacks = absurd lacks
  lacks_values (command.Foreign pattern name steps) old new lacks = absurd lacks
  lacks_values (command.Close factory) old new lacks = absurd lacks
  lacks_values (command.Publisher factory options) old new lacks = absurd lacks
  lacks_values (command.Subscriber factory options) old new lacks = absurd lacks
  lacks_values (command.Loan publisher elements) old new lacks = absurd lacks
  lacks_values (command.LoanUninit publisher elements) old new lacks = absurd lacks
  lacks_values (command.Set loan place value) old new lacks = absurd lacks
  lacks_values (command.Fill loan values) old new lacks = absurd lacks
  lacks_values (command.Drop loan) old new lacks = absurd lacks
  lacks_values (command.Send loan) old new lacks = absurd lacks
  lacks_values (command.Put publisher values) old new lacks = absurd lacks
  lacks_values (command.Retry publisher nanoseconds) old new lacks = absurd lacks
  lacks_values (command.GiveUp publisher) old new lacks = absurd lacks
  lacks_values (command.Receive subscriber) old new lacks = (old.made.samples.next, lacks.0, lacks.1)
  lacks_values (command.Read sample) old new lacks =
      subst (λ (hub : NumberedHub T U B D). SomeValues (values_under hub_ports (value_at hub.made.samples sample) hub.hub)) (sym lacks.1)
      lacks.0
  lacks_values (command.Sequence sample) old new lacks = absurd lacks
  lacks_values (command.Release sample) old new lacks = absurd lacks
  lacks_values (command.Update number) old new lacks = absurd lacks
  lacks_values (command.Leave number) old new lacks = absurd lacks
  lacks_values (command.Has subscriber) old new lacks = absurd lacks

  -- one after the other
  pub roomier_and_roomier : (old mid new : NumberedHub T U B D) → OnlyRoomier old mid → OnlyRoomier mid new → OnlyRoomier old new
  roomier_and_roomier old mid new (((p, p_next, p_room), (s, s_next, s_room), (l, l_next, l_room), (m, m_next, m_room)), same)
      (((q, q_next, q_room), (r, r_next, r_room), (k, k_next, k_room), (n, n_next, n_room)), same_new) =
      let with_made : NumberedHub T U B D → NumberedHub T U B D = λ hub. record hub { made = new.made; pledged = new.pledged } in (
        (
          (q ∙ p, q_next ∙ p_next, omega (arith, p_room, q_room)),
          (r ∙ s, r_next ∙ s_next, omega (arith, s_room, r_room)),
          (k ∙ l, k_next ∙ l_next, omega (arith, l_room, k_room)),
          (n ∙ m, n_next ∙ m_next, omega (arith, m_room, n_room)),
        ),
        same_new ∙ ap with_made same,
      )

  -- a new hub with more room is a new hub
  pub still_new : (config : HubConfig) (old roomier : NumberedHub T U B D) → OnlyRoomier old roomier → IsNew config old
      → IsNew config roomier
  still_new config old roomier (((p, p_next, p_room), (s, s_next, s_room), (l, l_next, l_room), (m, m_next, m_room)), same) is = record {
    expired_connection_buffer = ap (λ hub. hub.hub.expired_connection_buffer) same ∙ is.expired_connection_buffer;
    nodes = ap (λ hub. hub.hub.nodes) same ∙ is.nodes;
    factories = ap (λ hub. hub.hub.factories) same ∙ is.factories;
    table = ap (λ hub. hub.hub.table) same ∙ is.table;
    factory_counts = ap (λ hub. hub.hub.factory_counts) same ∙ is.factory_counts;
    services = ap (λ hub. hub.hub.services) same ∙ is.services;
    no_factory = ap (λ hub. hub.factories.made) same ∙ is.no_factory;
    publishers = (p ∙ is.publishers.0, p_next ∙ is.publishers.1);
    subscribers = (s ∙ is.subscribers.0, s_next ∙ is.subscribers.1);
    loans = (l ∙ is.loans.0, l_next ∙ is.loans.1);
    samples = (m ∙ is.samples.0, m_next ∙ is.samples.1);
  }

  -- the numbers of a new hub rise
  pub new_rises : (config : HubConfig) (hub : NumberedHub T U B D) → IsNew config hub → NumbersRise hub
  new_rises config hub is = (
    rw is.no_factory (omega arith),
    none_rise hub.made.publishers is.publishers,
    none_rise hub.made.subscribers is.subscribers,
    none_rise hub.made.loans is.loans,
    none_rise hub.made.samples is.samples,
  )

-- what stands after a list
pub at_seam : {A : Type 0} (xs : List A) (y : A) (ys : List A) → slice_get (xs ++ y ∷ ys) (length xs) ≡ Some y
at_seam xs y ys =
    let long = length-append xs (y ∷ ys) in slice_get_read (xs ++ y ∷ ys) (length (xs ++ y ∷ ys)) (length xs) y refl
    (omega (arith, long)) (sym (get_or-append_seam xs y ys y))

-- what holds where a call went well holds where its test says so
pub when_ok : {A E : Type 0} {P : Type 0} (result : Result A E) → OnOk result P → is_err result ≡ false → P
when_ok (Ok value) holds well = holds
when_ok (Err error) holds well = cc well
