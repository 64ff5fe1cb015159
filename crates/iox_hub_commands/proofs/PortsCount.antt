-- What the commands of ports make of what is counted of all open services, and of what goes by numbers: together it is no more than it was.
use Rattle.std.proofs.Common.{arith, ◌≡◌, ◌∙◌, ◌+◌, ◌*◌, ◌≤◌, ◌++◌, ℕ, suc, Bool, true, false, List, [], ◌∷◌, Option, None, Some, Result}
use Rattle.std.proofs.Common.{Ok, Err, if◌then◌else◌, refl, sym, ap, subst, length, is_some}
use Rattle.std.proofs.Math.Nat.{mul-suc}
use Rattle.std.proofs.lemmas.List.{length-append}
use Rattle.std.specs.Map.{remove_entry}
use Rattle.std.specs.Option.{unwrap_or}
use Rattle.std.specs.Prelude.{replicate, nat_eq}
use Rattle.std.specs.declared.alloc.AllocError.{AllocError}
use Rattle.iox_command.specs.declared.port.PortNumber.{PortNumber}
use Rattle.iox_command.specs.declared.port.PortNumber.TheVariants as port_number
use Rattle.iox_command.specs.declared.reply.Reply.{Reply}
use Rattle.iox_delivery.specs.Publishing.{AfterLoan}
use Rattle.iox_delivery.specs.Subscribing.{ReleasesOne}
use Rattle.iox_delivery.specs.declared.port_id.PortId.{PortId}
use Rattle.iox_delivery.specs.Slices.{each_written_in, FillsLent, WritesAndSends}
use Rattle.iox_delivery.specs.Domain.AtHomes.{AtDomain}
use Rattle.iox_delivery.specs.Domain.Steps as steps
use Rattle.iox_delivery.specs.Domain.declared.domain_id.DomainId.{DomainId}
use Rattle.iox_delivery.specs.Domain.Calls as calls
use Rattle.iox_delivery.specs.Domain.Lending.{written_in, gave_up_in}
use Rattle.iox_delivery.specs.Domain.declared.ports.making.PublisherConfig.{PublisherConfig}
use Rattle.iox_delivery.specs.Domain.declared.ports.making.SubscriberConfig.{SubscriberConfig}
use Rattle.iox_delivery.specs.Domain.declared.ports.service_ports.ServicePorts.{ServicePorts}
use Rattle.iox_delivery.specs.DomainPorts.declared.meeting.Sent.{Sent}
use Rattle.iox_delivery.specs.DomainPorts.declared.publisher_port.PublisherPort.{PublisherPort}
use Rattle.iox_delivery.specs.DomainPorts.Messages.{Loan, write_value, write_all}
use Rattle.iox_delivery.specs.DomainPorts.MessagesSending.{has_place, has_length}
use Rattle.iox_delivery.specs.DomainPorts.declared.attached.Taken.{Taken}
use Rattle.iox_command.specs.DomainValues.declared.backpressure.BackpressureDecision.{BackpressureDecision}
use Rattle.iox_command.specs.DomainValues.declared.backpressure.BackpressureInfo.{BackpressureInfo}
use Rattle.iox_command.specs.DomainValues.declared.connection_failure.ConnectionFailure.{ConnectionFailure}
use Rattle.iox_command.specs.DomainValues.declared.degradation.DegradationAction.{DegradationAction}
use Rattle.iox_command.specs.DomainValues.declared.degradation.DegradationCause.{DegradationCause}
use Rattle.iox_command.specs.DomainValues.declared.degradation.DegradationCause.TheVariants.{FailedToEstablishConnection}
use Rattle.iox_command.specs.DomainValues.declared.degradation.DegradationInfo.{DegradationInfo}
use Rattle.iox_command.specs.DomainValues.declared.port_error.LoanError.{LoanError}
use Rattle.iox_command.specs.DomainValues.declared.port_error.ReceiveError.{ReceiveError}
use Rattle.iox_command.specs.DomainValues.declared.port_error.SendError.{SendError}
use Rattle.iox_hub_base.specs.AsHome.{hub_ports, with_hub_ports, with_hub_publisher, with_hub_subscriber, without_hub_publisher}
use Rattle.iox_hub_base.specs.AsHome.{without_hub_subscriber}
use Rattle.iox_hub_base.specs.declared.hub.Hub.{Hub}
use Rattle.iox_hub_base.specs.ServicesAsHome.{publisher_kept, subscriber_kept, publisher_forgotten, subscriber_forgotten}
use Rattle.iox_hub_commands.specs.Arriving.{PublisherStep, SubscriberStep}
use Rattle.iox_hub_commands.specs.Following.{UpdateStep, HasStep, LeaveStep}
use Rattle.iox_hub_commands.specs.Lending.{LoanStep, LoanUninitStep, PutStep}
use Rattle.iox_hub_commands.specs.Messages.{SetStep, FillStep, DropStep, SendStep, RetryStep, GiveUpStep, ReleaseStep}
use Rattle.iox_hub_commands.specs.Receiving.{ReceiveStep}
use Rattle.iox_hub_commands.specs.Calls.{AtPort, AtPortIf, Lends, LendsWritten, Puts, Follows, Sends, Retries, GivesUp, PublisherGoes}
use Rattle.iox_hub_commands.specs.Calls.{FollowsPublishers, Tells, Receives, SubscriberGoes, ready}
use Rattle.iox_hub_commands.specs.Growing.{GrowsFirst}
use Rattle.iox_hub_commands.specs.Loans.{loan_under, changed_under, set_in, filled_in, SendsUnder}
use Rattle.iox_hub_commands.specs.Making.{NumbersPort, with_publisher, with_subscriber}
use Rattle.iox_hub_commands.specs.Numbering.{LendsNumbered, LendsWrittenNumbered, ReceivesNumbered, NumbersLoan, NumbersSample, removed_if}
use Rattle.iox_hub_commands.specs.Reading.{ReleasesUnder}
use Rattle.iox_hub_commands.specs.Tables.{IsFull, IsRoomier, lender, port_under, without_publisher, without_subscriber, without_loan}
use Rattle.iox_hub_commands.specs.Tables.{without_sample}
use Rattle.iox_hub_commands.specs.declared.ports.made.Made.{Made}
use Rattle.iox_hub_commands.specs.declared.ports.made.MadeLoan.{MadeLoan}
use Rattle.iox_hub_commands.specs.declared.ports.made.MadeSample.{MadeSample}
use Rattle.iox_container.proofs.Joined.{length-removed}
use Rattle.iox_delivery.specs.Container.NumberTable.{NumberTable, value_at}
use Rattle.iox_hub_commands.specs.Grown.{AnySlots, AnyAction, AnyDecision}
use Rattle.iox_hub_commands.proofs.Grown.{each_goes}
use Rattle.iox_hub_commands.proofs.Loosening.{loosened}
use Rattle.iox_hub_commands.proofs.Measures.{Measure, AreFine, total, Steps, Counts, loaned, received, sent, came, call_steps}
use Rattle.iox_hub_commands.proofs.Measures.{steps_nowhere, steps_on, steps_as, counts_as, counts_on, is_counts, keep_counts}
use Rattle.iox_hub_commands.proofs.Measures.{at_domain_counts, leaves_counts, makes_counts, changed_counts}

-- what loans and samples count that go by numbers, where each counts so much
abbrev pub weight : ℕ → ℕ → Made → ℕ
weight loan sample made = loan * length made.loans.entries + sample * length made.samples.entries

one_more : {X : Type 0} (each : ℕ) (xs : List X) (x : X) → each * length (xs ++ x ∷ []) ≡ each * length xs + each
one_more each xs x =
    let joined = length-append xs (x ∷ []) in
    let longer : length (xs ++ x ∷ []) ≡ suc (length xs) = omega (arith, joined) in
    ap (λ n. each * n) longer ∙ mul-suc each (length xs)

fewer : {V : Type 0} (each number : ℕ) (table : NumberTable V) → is_some (value_at table number) ≡ true
    → each * length (remove_entry (nat_eq number) table.entries) + each ≡ each * length table.entries
fewer each number table there =
    let left = length-removed (nat_eq number) table.entries in
    let one = rw there at left in
    let less : length table.entries ≡ suc (length (remove_entry (nat_eq number) table.entries)) = omega (arith, one) in
    sym (ap (λ n. each * n) less ∙ mul-suc each (length (remove_entry (nat_eq number) table.entries)))

same_weight : (loan sample : ℕ) (made after : Made) → after ≡ made → weight loan sample after ≡ weight loan sample made
same_weight loan sample made after is = ap (λ one. weight loan sample one) is

roomier_weight : (loan sample : ℕ) (made roomier : Made) → IsRoomier made roomier → weight loan sample roomier ≡ weight loan sample made
roomier_weight loan sample made roomier (publishers, subscribers, (loans, l_next, l_room), (samples, m_next, m_room))
    = rw (loans, samples) refl

-- a loan gets a number, and a sample
loan_weight : (loan sample : ℕ) (port : Option PortId) (lent : Option (Result ℕ LoanError)) (made after : Made)
    (answer : Option (Result ℕ LoanError)) → NumbersLoan port lent made answer after
    → weight loan sample after ≡ weight loan sample made + loaned loan lent
loan_weight loan sample port None made after answer numbers = let same = same_weight loan sample made after numbers.1 in omega (arith, same)
loan_weight loan sample port (Some (Err error)) made after answer numbers = let same
    = same_weight loan sample made after numbers.1 in omega (arith, same)
loan_weight loan sample None (Some (Ok slot)) made after answer numbers = absurd numbers
loan_weight loan sample (Some port) (Some (Ok slot)) made after answer numbers =
    let more = one_more loan made.loans.entries (made.loans.next, record { port = port; slot = slot }) in
    rw numbers.1 (omega (arith, more))

sample_weight : (loan sample : ℕ) (port : Option PortId) (got : Option (Result (Option Taken) ReceiveError)) (made after : Made)
    (answer : Option (Result (Option ℕ) ReceiveError)) → NumbersSample port got made answer after
    → weight loan sample after ≡ weight loan sample made + received sample got
sample_weight loan sample port None made after answer numbers = let same
    = same_weight loan sample made after numbers.1 in omega (arith, same)
sample_weight loan sample port (Some (Err error)) made after answer numbers = let same
    = same_weight loan sample made after numbers.1 in omega (arith, same)
sample_weight loan sample port (Some (Ok None)) made after answer numbers = let same
    = same_weight loan sample made after numbers.1 in omega (arith, same)
sample_weight loan sample None (Some (Ok (Some taken))) made after answer numbers = absurd numbers
sample_weight loan sample (Some port) (Some (Ok (Some taken))) made after answer numbers =
    let more = one_more sample made.samples.entries (made.samples.next, record { port = port; taken = taken }) in
    rw numbers.1 (omega (arith, more))

-- a number is spent
loan_spent : (loan sample : ℕ) (number : ℕ) (made after : Made) → is_some (value_at made.loans number) ≡ true
    → after ≡ without_loan number made → weight loan sample after + loan ≡ weight loan sample made
loan_spent loan sample number made after there is = let less = fewer loan number made.loans there in rw is (omega (arith, less))

sample_spent : (loan sample : ℕ) (number : ℕ) (made after : Made) → is_some (value_at made.samples number) ≡ true
    → after ≡ without_sample number made → weight loan sample after + sample ≡ weight loan sample made
sample_spent loan sample number made after there is = let less = fewer sample number made.samples there in rw is (omega (arith, less))

publisher_spent : (loan sample : ℕ) (done : Bool) (number : ℕ) (made after : Made)
    → after ≡ removed_if done (without_publisher number) made → weight loan sample after ≡ weight loan sample made
publisher_spent loan sample false number made after is = same_weight loan sample made after is
publisher_spent loan sample true number made after is = rw is refl

subscriber_spent : (loan sample : ℕ) (done : Bool) (number : ℕ) (made after : Made)
    → after ≡ removed_if done (without_subscriber number) made → weight loan sample after ≡ weight loan sample made
subscriber_spent loan sample false number made after is = same_weight loan sample made after is
subscriber_spent loan sample true number made after is = rw is refl

-- a port gets a number
publisher_numbered : {E : Type 0} (loan sample : ℕ) (domain : DomainId) (holds_slices : Bool) (next : ℕ)
    (came answer : Option (Result ℕ E)) (made after : Made)
    → NumbersPort (with_publisher domain holds_slices) next came made answer after → weight loan sample after ≡ weight loan sample made
publisher_numbered loan sample domain holds_slices next None answer made after numbers = same_weight loan sample made after numbers.1
publisher_numbered loan sample domain holds_slices next (Some (Err error)) answer made after numbers
    = same_weight loan sample made after numbers.1
publisher_numbered loan sample domain holds_slices next (Some (Ok number)) answer made after numbers = rw numbers.1 refl

subscriber_numbered : {E : Type 0} (loan sample : ℕ) (domain : DomainId) (next : ℕ) (came answer : Option (Result ℕ E))
    (made after : Made) → NumbersPort (with_subscriber domain) next came made answer after
    → weight loan sample after ≡ weight loan sample made
subscriber_numbered loan sample domain next None answer made after numbers = same_weight loan sample made after numbers.1
subscriber_numbered loan sample domain next (Some (Err error)) answer made after numbers = same_weight loan sample made after numbers.1
subscriber_numbered loan sample domain next (Some (Ok number)) answer made after numbers = rw numbers.1 refl

-- what is found under no number isn't there
loan_there : {T U H : Type 0} (ports_of : DomainId → H → Option (ServicePorts T U)) (found : Option MadeLoan) (home : H)
    → true ≡ is_some (loan_under ports_of found home) → is_some found ≡ true
loan_there ports_of None home is = cc is
loan_there ports_of (Some made) home is = refl

module _ {T U : Type 0} (m : Measure T U) where
  -- a write of a loan
  writes : (number slot : ℕ) (test : PublisherPort T U → Bool) (change : Loan T U → Loan T U) (ports : ServicePorts T U)
      → Steps m 0 0 ports (written_in number test slot change ports)
  writes number slot test change ports
      = steps_as m 0 (0 + 0) 0 0 ports (written_in number test slot change ports) (omega arith)
      (call_steps m (calls.Writes number slot test change) ports (written_in number test slot change ports) refl)

  -- what a subscriber brings to a service, if that is here
  abbrev pub held_at : Option (ServicePorts T U) → ℕ
  held_at None = 0
  held_at (Some ports) = m.holds ports

  -- and what a publisher brings
  abbrev pub brought_at : PublisherConfig → Option (ServicePorts T U) → ℕ
  brought_at config None = 0
  brought_at config (Some ports) = m.brings config ports

module _ {T U B D : Type 0} (m : Measure T U) where
  -- what is counted and what goes by numbers is together no more than it was and is brought
  abbrev pub Balances : ℕ → Made → Hub T U B D → Made → Hub T U B D → Type 0
  Balances brings made old after new =
      AreFine m old.services.domains
      → AreFine m new.services.domains × (weight m.loan m.sample after + total m new.services.domains
      ≤ weight m.loan m.sample made + total m old.services.domains + brings)

  balanced : (brings taken given : ℕ) (made after : Made) (old new : Hub T U B D)
      → weight m.loan m.sample after + given ≤ weight m.loan m.sample made + taken + brings → Counts m taken given old new
      → Balances brings made old after new
  balanced brings taken given made after old new fits counts fine = let (fine_after, few)
      = counts fine in (fine_after, omega (arith, few, fits))

  pub none_balances : (made after : Made) (old new : Hub T U B D) → after ≡ made → new ≡ old → Balances 0 made old after new
  none_balances made after old new same is =
      let even = same_weight m.loan m.sample made after same in
      balanced 0 0 0 made after old new (omega (arith, even)) (is_counts m 0 0 old new (omega arith) is)

  -- a command that changes nothing that goes by numbers
  pub still_balances : (made : Made) (old new : Hub T U B D) → Counts m 0 0 old new → Balances 0 made old made new
  still_balances made old new counts = balanced 0 0 0 made made old new (omega arith) counts

  pub at_port : {A : Type 0} (does : PortId → Hub T U B D → Option A → Hub T U B D → Type 0) (taken given : Option A → ℕ)
      → taken None ≤ given None
      → ((port : PortId) (old new : Hub T U B D) (answer : Option A) → does port old answer new
      → Counts m (taken answer) (given answer) old new)
      → (port : Option PortId) (old new : Hub T U B D) (answer : Option A) → AtPort does port old answer new
      → Counts m (taken answer) (given answer) old new
  at_port does taken given fits counts None old new answer at = rw at.0 (is_counts m (taken None) (given None) old new fits at.1)
  at_port does taken given fits counts (Some port) old new answer at = counts port old new answer at

  at_port_if : (does : PortId → Hub T U B D → Bool → Hub T U B D → Type 0)
      → ((port : PortId) (old new : Hub T U B D) (answer : Bool) → does port old answer new → Counts m 0 0 old new)
      → (port : Option PortId) (old new : Hub T U B D) (answer : Bool) → AtPortIf does port old answer new → Counts m 0 0 old new
  at_port_if does counts None old new answer at = is_counts m 0 0 old new (omega arith) at.1
  at_port_if does counts (Some port) old new answer at = counts port old new answer at

  -- one after the other
  then_still : (taken given : ℕ) (old mid new : Hub T U B D) → Counts m taken given old mid → Counts m 0 0 mid new
      → Counts m taken given old new
  then_still taken given old mid new first second =
      counts_as m (taken + 0) (given + 0) taken given old.services.domains new.services.domains (omega arith)
      (counts_on m taken given 0 0 old.services.domains mid.services.domains new.services.domains first second)

  -- room is made first
  first : {A : Type 0} (is_full : Type 0) (does : Made → Hub T U B D → A → Made → Hub T U B D → Type 0)
      → ((made after : Made) (old new : Hub T U B D) (answer : A) → does made old answer after new → Balances 0 made old after new)
      → (made after : Made) (old new : Hub T U B D) (answer : Result A AllocError) → GrowsFirst is_full does made old answer after new
      → Balances 0 made old after new
  first is_full does balances made after old new (Err lacking) goes = none_balances made after old new goes.1 goes.2
  first is_full does balances made after old new (Ok answer) (roomier, is_roomier, done) =
      let even = roomier_weight m.loan m.sample made roomier is_roomier in
      λ fine. let (fine_after, few) = balances roomier after old new answer done fine in (fine_after, omega (arith, few, even))

  lends_slot : (port : PortId) (values elements : ℕ) (old new : Hub T U B D) (answer : Option (Result ℕ LoanError))
      → AtDomain (λ after. with_hub_ports port.domain after old) (steps.LoansBy port.number values elements) (hub_ports port.domain old)
      old answer new
      → Counts m (loaned m.loan answer) 0 old new
  lends_slot port values elements old new answer at =
      at_domain_counts m port.domain (λ outcome. calls.Lends port.number values elements outcome)
      (steps.LoansBy port.number values elements) (λ ports after outcome does. does) (λ outcome ports. refl) refl
      (hub_ports port.domain old) old new answer refl at

  filled : (port : PortId) (elements : ℕ) (value : T) (lent answer : Result ℕ LoanError) (old new : Hub T U B D)
      → AfterLoan Err (FillsLent hub_ports with_hub_ports port elements value) lent old answer new → Counts m 0 0 old new × (answer ≡ lent)
  filled port elements value (Err error) answer old new after = (is_counts m 0 0 old new (omega arith) after.1, after.0)
  filled port elements value (Ok slot) answer old new ((is, more), is_answer) = (
    rw is (changed_counts m 0 port.domain (each_written_in port.number slot (replicate elements value))
        (λ ports. each_goes port.number (λ one other. Steps m 0 0 one other) (steps_nowhere m) (steps_on m) (writes m port.number) slot
        0 (replicate elements value) ports) old),
    is_answer,
  )

  lends_written : (elements : ℕ) (value : T) (port : PortId) (old new : Hub T U B D) (answer : Option (Result ℕ LoanError))
      → LendsWritten hub_ports with_hub_ports elements value port old answer new → Counts m (loaned m.loan answer) 0 old new
  lends_written elements value port old new answer (outcome, (lent, middle, lends, fills), is_ready, is) =
      let (counts, same) = filled port elements value lent outcome middle new fills in
      let both = then_still (loaned m.loan (Some lent)) 0 old middle new
      (lends_slot port elements elements old middle (Some lent) lends) counts in
      subst (λ one. Counts m (loaned m.loan one) 0 old new) (sym (is ∙ ap (λ one. Some one) same)) both

  -- a loan that is made gets a number
  lent_balances : (port : Option PortId) (made after : Made) (old new : Hub T U B D) (lent answer : Option (Result ℕ LoanError))
      → Counts m (loaned m.loan lent) 0 old new → NumbersLoan port lent made answer after → Balances 0 made old after new
  lent_balances port made after old new lent answer counts numbers =
      let more = loan_weight m.loan m.sample port lent made after answer numbers in
      balanced 0 (loaned m.loan lent) 0 made after old new (omega (arith, more)) counts

  pub loan_balances : (is_default : T → Type 0) (publisher elements : ℕ) (made after : Made) (old new : Hub T U B D)
      (answer : Result (Reply T) AllocError) → LoanStep hub_ports with_hub_ports is_default publisher elements made old answer after new
      → Balances 0 made old after new
  loan_balances is_default publisher elements made after old new answer (value, is_value, lent, goes, is_answer) =
      let port = ready hub_ports (lender elements (value_at made.publishers publisher)) old in
      first (IsFull made.loans) (LendsWrittenNumbered hub_ports with_hub_ports elements value port)
      (λ before later hub other reply (outcome, at, numbers). lent_balances port before later hub other outcome reply
      (at_port (LendsWritten hub_ports with_hub_ports elements value) (loaned m.loan) (λ none. 0) (omega arith)
      (lends_written elements value) port hub other outcome at) numbers)
      made after old new lent goes

  pub loan_uninit_balances : (publisher elements : ℕ) (made after : Made) (old new : Hub T U B D) (answer : Result (Reply T) AllocError)
      → LoanUninitStep hub_ports with_hub_ports publisher elements made old answer after new → Balances 0 made old after new
  loan_uninit_balances publisher elements made after old new answer (lent, goes, is_answer) =
      let port = lender elements (value_at made.publishers publisher) in
      first (IsFull made.loans) (LendsNumbered hub_ports with_hub_ports elements port)
      (λ before later hub other reply (outcome, at, numbers). lent_balances port before later hub other outcome reply
      (at_port (Lends hub_ports with_hub_ports elements) (loaned m.loan) (λ none. 0) (omega arith)
      (λ one. lends_slot one elements elements) port hub other outcome at) numbers)
      made after old new lent goes

  under : (given : ℕ) (change : ℕ → ℕ → ServicePorts T U → ServicePorts T U)
      → ((number slot : ℕ) (ports : ServicePorts T U) → Steps m 0 given ports (change number slot ports))
      → (found : Option MadeLoan) (old : Hub T U B D) → Counts m 0 given old (changed_under hub_ports with_hub_ports change found old)
  under given change steps None old = is_counts m 0 given old old (omega arith) refl
  under given change steps (Some made) old
      = changed_counts m given made.port.domain (change made.port.number made.slot) (steps made.port.number made.slot) old

  set_counts : (done : Bool) (place : ℕ) (value : T) (found : Option MadeLoan) (old new : Hub T U B D)
      → new ≡ (if done then changed_under hub_ports with_hub_ports (set_in place value) found old else old) → Counts m 0 0 old new
  set_counts false place value found old new is = is_counts m 0 0 old new (omega arith) is
  set_counts true place value found old new is
      = rw is (under 0 (set_in place value)
      (λ number slot ports. writes m number slot (λ port. has_place slot place port.sender.uses) (write_value place value) ports) found old)

  pub set_balances : (loan place : ℕ) (value : T) (made : Made) (old new : Hub T U B D) (answer : Reply T)
      → SetStep hub_ports with_hub_ports loan place value made old answer new → Balances 0 made old made new
  set_balances loan place value made old new answer (done, is_done, is, is_answer)
      = still_balances made old new (set_counts done place value (value_at made.loans loan) old new is)

  pub fill_balances : (loan : ℕ) (values : List T) (made : Made) (old new : Hub T U B D) (answer : Reply T)
      → FillStep hub_ports with_hub_ports loan values made old answer new → Balances 0 made old made new
  fill_balances loan values made old new answer (done, is_done, is, is_answer) =
      still_balances made old new (rw is (under 0 (filled_in values)
      (λ number slot ports. writes m number slot (λ port. has_length slot (length values) port.sender.uses) (write_all values)
      ports) (value_at made.loans loan) old))

  dropped : (done : Bool) (loan : ℕ) (made after : Made) (old new : Hub T U B D)
      → done ≡ is_some (loan_under hub_ports (value_at made.loans loan) old)
      → new ≡ (if done then changed_under hub_ports with_hub_ports gave_up_in (value_at made.loans loan) old else old)
      → after ≡ removed_if done (without_loan loan) made → Balances 0 made old after new
  dropped false loan made after old new is_done is is_made = none_balances made after old new is_made is
  dropped true loan made after old new is_done is is_made =
      let less = loan_spent m.loan m.sample loan made after (loan_there hub_ports (value_at made.loans loan) old is_done) is_made in
      balanced 0 0 m.loan made after old new (omega (arith, less))
      (rw is (under m.loan gave_up_in (λ number slot ports. steps_as m 0 (m.loan + 0) 0 m.loan ports (gave_up_in number slot ports)
      (omega arith) (call_steps m (calls.GivesLoanUp number slot) ports (gave_up_in number slot ports) refl))
      (value_at made.loans loan) old))

  pub drop_balances : (loan : ℕ) (made after : Made) (old new : Hub T U B D) (answer : Reply T)
      → DropStep hub_ports with_hub_ports loan made old answer after new → Balances 0 made old after new
  drop_balances loan made after old new answer (done, is_done, is, is_made, is_answer)
      = dropped done loan made after old new is_done is is_made

  module _ (degrades : DomainId → ℕ → Hub T U B D → DegradationInfo → DegradationAction → Type 0)
      (decides : DomainId → ℕ → Hub T U B D → BackpressureInfo → BackpressureDecision → Type 0) where
    sends_at : (port : PortId) (slot : ℕ) (old new : Hub T U B D) (answer : Option (Result Sent SendError))
        → Sends hub_ports with_hub_ports degrades decides slot port old answer new → Counts m 0 (sent m.loan answer) old new
    sends_at port slot old new answer at =
        at_domain_counts m port.domain (λ outcome. calls.Sends port.number slot outcome)
        (steps.SendsBy (degrades port.domain port.number old) (decides port.domain port.number old) port.number slot)
        (λ ports after outcome does. loosened AnySlots (degrades port.domain port.number old) (decides port.domain port.number old)
        (calls.Sends port.number slot outcome) ports after does) (λ outcome ports. refl) refl (hub_ports port.domain old) old new
        answer refl at

    sent_balances : (found : Option MadeLoan) (loan : ℕ) (made after : Made) (old new : Hub T U B D)
        (answer : Option (Result Sent SendError)) → value_at made.loans loan ≡ found
        → SendsUnder hub_ports with_hub_ports degrades decides found old answer new
        → after ≡ removed_if (is_some answer) (without_loan loan) made → Balances 0 made old after new
    sent_balances None loan made after old new answer there sends is_made = none_balances made after old new (rw sends.0 at is_made) sends.1
    sent_balances (Some held) loan made after old new None there sends is_made =
        let even = same_weight m.loan m.sample made after is_made in
        balanced 0 0 0 made after old new (omega (arith, even)) (sends_at held.port held.slot old new None sends)
    sent_balances (Some held) loan made after old new (Some outcome) there sends is_made =
        let less = loan_spent m.loan m.sample loan made after (ap is_some there) is_made in
        balanced 0 0 m.loan made after old new (omega (arith, less)) (sends_at held.port held.slot old new (Some outcome) sends)

    pub send_balances : (loan : ℕ) (made after : Made) (old new : Hub T U B D) (answer : Reply T)
        → SendStep hub_ports with_hub_ports degrades decides loan made old answer after new → Balances 0 made old after new
    send_balances loan made after old new answer (outcome, sends, is_made, is_answer)
        = sent_balances (value_at made.loans loan) loan made after old new outcome refl sends is_made

    sent_after : (port : PortId) (values : List T) (refused : LoanError → Result Sent SendError) (lent : Result ℕ LoanError)
        (answer : Result Sent SendError) (old new : Hub T U B D)
        → AfterLoan refused (WritesAndSends hub_ports with_hub_ports degrades decides port values) lent old answer new
        → Counts m 0 (loaned m.loan (Some lent)) old new
    sent_after port values refused (Err error) answer old new after = is_counts m 0 0 old new (omega arith) after.1
    sent_after port values refused (Ok slot) answer old new (middle, does, is_ready, sends) =
        let written : Counts m 0 0 old middle =
        rw does (changed_counts m 0 port.domain
        (written_in port.number (λ publisher. has_length slot (length values) publisher.sender.uses) slot (write_all values))
        (λ ports. writes m port.number slot (λ publisher. has_length slot (length values) publisher.sender.uses) (write_all values)
        ports) old) in
        counts_as m (0 + 0) (0 + m.loan) 0 m.loan old.services.domains new.services.domains (omega arith)
        (counts_on m 0 0 0 m.loan old.services.domains middle.services.domains new.services.domains written
        (sends_at port slot middle new (Some answer) sends))

    puts : (values : List T) (port : PortId) (old new : Hub T U B D) (answer : Option (Result Sent SendError))
        → Puts hub_ports with_hub_ports degrades decides values port old answer new → Counts m 0 0 old new
    puts values port old new answer (outcome, (lent, middle, lends, sends), is) =
        counts_as m (loaned m.loan (Some lent) + 0) (0 + loaned m.loan (Some lent)) 0 0 old.services.domains new.services.domains
        (omega arith)
        (counts_on m (loaned m.loan (Some lent)) 0 0 (loaned m.loan (Some lent)) old.services.domains middle.services.domains
        new.services.domains (lends_slot port (length values) (length values) old middle (Some lent) lends)
        (sent_after port values _ lent outcome middle new sends))

    pub put_balances : (publisher : ℕ) (values : List T) (made : Made) (old new : Hub T U B D) (answer : Reply T)
        → PutStep hub_ports with_hub_ports degrades decides publisher values made old answer new → Balances 0 made old made new
    put_balances publisher values made old new answer (outcome, at, is) =
        still_balances made old new (at_port (Puts hub_ports with_hub_ports degrades decides values) (λ none. 0) (λ none. 0)
        (omega arith) (puts values) (ready hub_ports (lender (length values) (value_at made.publishers publisher)) old) old new
        outcome at)

    retries : (elapsed : ℕ) (port : PortId) (old new : Hub T U B D) (answer : Option (Result Sent SendError))
        → Retries hub_ports with_hub_ports decides elapsed port old answer new → Counts m 0 0 old new
    retries elapsed port old new answer at =
        at_domain_counts m port.domain (λ outcome. calls.Retries port.number elapsed outcome)
        (steps.RetriesBy (decides port.domain port.number old) port.number elapsed)
        (λ ports after outcome does. loosened AnySlots AnyAction (decides port.domain port.number old)
        (calls.Retries port.number elapsed outcome) ports after does) (λ outcome ports. refl) refl (hub_ports port.domain old) old
        new answer refl at

    pub retry_balances : (publisher elapsed : ℕ) (made : Made) (old new : Hub T U B D) (answer : Reply T)
        → RetryStep hub_ports with_hub_ports decides publisher elapsed made old answer new → Balances 0 made old made new
    retry_balances publisher elapsed made old new answer (outcome, at, is) =
        still_balances made old new (at_port (Retries hub_ports with_hub_ports decides elapsed) (λ none. 0) (λ none. 0) (omega arith)
        (retries elapsed) (port_under (value_at made.publishers publisher)) old new outcome at)

  gives_up : (port : PortId) (old new : Hub T U B D) (answer : Option ℕ) → GivesUp hub_ports with_hub_ports port old answer new
      → Counts m 0 0 old new
  gives_up port old new answer at =
      at_domain_counts m port.domain (λ outcome. calls.GivesSendUp port.number outcome) (steps.GivesUpBy port.number)
      (λ ports after outcome does. does) (λ outcome ports. refl) refl (hub_ports port.domain old) old new answer refl at

  pub give_up_balances : (publisher : ℕ) (made : Made) (old new : Hub T U B D) (answer : Reply T)
      → GiveUpStep hub_ports with_hub_ports publisher made old answer new → Balances 0 made old made new
  give_up_balances publisher made old new answer (count, at, is) =
      still_balances made old new (at_port (GivesUp hub_ports with_hub_ports) (λ none. 0) (λ none. 0) (omega arith) gives_up
      (port_under (value_at made.publishers publisher)) old new count at)

  released_balances : (found : Option MadeSample) (done : Bool) (sample : ℕ) (made after : Made) (old new : Hub T U B D)
      → value_at made.samples sample ≡ found → ReleasesUnder hub_ports with_hub_ports found old done new
      → after ≡ removed_if done (without_sample sample) made → Balances 0 made old after new
  released_balances None false sample made after old new there releases is_made = none_balances made after old new is_made releases
  released_balances (Some held) false sample made after old new there releases is_made = none_balances made after old new is_made releases
  released_balances None true sample made after old new there releases is_made = absurd releases
  released_balances (Some held) true sample made after old new there releases is_made =
      let less = sample_spent m.loan m.sample sample made after (ap is_some there) is_made in
      balanced 0 0 m.sample made after old new (omega (arith, less))
      (at_domain_counts m held.port.domain (λ outcome. calls.Releases held.port.number held.taken true)
      (ReleasesOne held.port.number held.taken) (λ ports later outcome does. does) (λ outcome ports. refl) refl
      (hub_ports held.port.domain old) old new (Some tt) refl releases)

  pub release_balances : (sample : ℕ) (made after : Made) (old new : Hub T U B D) (answer : Reply T)
      → ReleaseStep hub_ports with_hub_ports sample made old answer after new → Balances 0 made old after new
  release_balances sample made after old new answer (done, is_done, releases, is_made, is_answer)
      = released_balances (value_at made.samples sample) done sample made after old new refl releases is_made

  module _ (degrades reader_degrades : DomainId → ℕ → Hub T U B D → DegradationInfo → DegradationAction → Type 0) where
    receives : (port : PortId) (old new : Hub T U B D) (answer : Option (Result (Option Taken) ReceiveError))
        → Receives hub_ports with_hub_ports reader_degrades port old answer new → Counts m (received m.sample answer) 0 old new
    receives port old new answer at =
        at_domain_counts m port.domain (λ outcome. calls.Receives port.number outcome)
        (steps.ReceivesBy (reader_degrades port.domain port.number old) port.number)
        (λ ports after outcome does. loosened AnySlots (reader_degrades port.domain port.number old) AnyDecision
        (calls.Receives port.number outcome) ports after does) (λ outcome ports. refl) refl (hub_ports port.domain old) old new
        answer refl at

    received_balances : (port : Option PortId) (made after : Made) (old new : Hub T U B D)
        (got : Option (Result (Option Taken) ReceiveError)) (answer : Option (Result (Option ℕ) ReceiveError))
        → Counts m (received m.sample got) 0 old new → NumbersSample port got made answer after
        → Balances 0 made old after new
    received_balances port made after old new got answer counts numbers =
        let more = sample_weight m.loan m.sample port got made after answer numbers in
        balanced 0 (received m.sample got) 0 made after old new (omega (arith, more)) counts

    pub receive_balances : (subscriber : ℕ) (made after : Made) (old new : Hub T U B D) (answer : Result (Reply T) AllocError)
        → ReceiveStep hub_ports with_hub_ports reader_degrades subscriber made old answer after new → Balances 0 made old after new
    receive_balances subscriber made after old new answer (got, goes, is_told) =
        let port = value_at made.subscribers subscriber in
        first (IsFull made.samples) (ReceivesNumbered hub_ports with_hub_ports reader_degrades port)
        (λ before later hub other reply (outcome, at, numbers). received_balances port before later hub other outcome reply
        (at_port (Receives hub_ports with_hub_ports reader_degrades) (received m.sample) (λ none. 0) (omega arith) receives port hub
        other outcome at) numbers)
        made after old new got goes

    follows : (port : PortId) (old new : Hub T U B D) (answer : Option (Result (Unit {0}) ConnectionFailure))
        → Follows hub_ports with_hub_ports degrades port old answer new → Counts m 0 0 old new
    follows port old new answer at =
        at_domain_counts m port.domain (λ outcome. calls.PublisherUpdates port.number outcome)
        (steps.UpdatesBy (degrades port.domain port.number old) port.number)
        (λ ports after outcome does. loosened AnySlots (degrades port.domain port.number old) AnyDecision
        (calls.PublisherUpdates port.number outcome) ports after does) (λ outcome ports. refl) refl (hub_ports port.domain old) old
        new answer refl at

    follows_publishers : (port : PortId) (old new : Hub T U B D) (answer : Option (Result (Unit {0}) ConnectionFailure))
        → FollowsPublishers hub_ports with_hub_ports reader_degrades port old answer new → Counts m 0 0 old new
    follows_publishers port old new answer at =
        at_domain_counts m port.domain (λ outcome. calls.SubscriberUpdates port.number outcome)
        (steps.FollowsBy (reader_degrades port.domain port.number old) port.number)
        (λ ports after outcome does. loosened AnySlots (reader_degrades port.domain port.number old) AnyDecision
        (calls.SubscriberUpdates port.number outcome) ports after does) (λ outcome ports. refl) refl (hub_ports port.domain old) old
        new answer refl at

    pub update_balances : (number : PortNumber) (made : Made) (old new : Hub T U B D) (answer : Reply T)
        → UpdateStep hub_ports with_hub_ports degrades reader_degrades number made old answer new → Balances 0 made old made new
    update_balances (port_number.Publisher number) made old new answer (outcome, at, is) =
        still_balances made old new (at_port (Follows hub_ports with_hub_ports degrades) (λ none. 0) (λ none. 0) (omega arith) follows
        (port_under (value_at made.publishers number)) old new outcome at)
    update_balances (port_number.Subscriber number) made old new answer (outcome, at, is) =
        still_balances made old new (at_port (FollowsPublishers hub_ports with_hub_ports reader_degrades) (λ none. 0) (λ none. 0)
        (omega arith) follows_publishers (value_at made.subscribers number) old new outcome at)

    tells : (port : PortId) (old new : Hub T U B D) (answer : Option (Result Bool ConnectionFailure))
        → Tells hub_ports with_hub_ports reader_degrades port old answer new → Counts m 0 0 old new
    tells port old new answer at =
        at_domain_counts m port.domain (λ outcome. calls.AsksForSamples port.number outcome)
        (steps.TellsBy (reader_degrades port.domain port.number old) port.number)
        (λ ports after outcome does. loosened AnySlots (reader_degrades port.domain port.number old) AnyDecision
        (calls.AsksForSamples port.number outcome) ports after does) (λ outcome ports. refl) refl (hub_ports port.domain old) old
        new answer refl at

    pub has_balances : (subscriber : ℕ) (made : Made) (old new : Hub T U B D) (answer : Reply T)
        → HasStep hub_ports with_hub_ports reader_degrades subscriber made old answer new → Balances 0 made old made new
    has_balances subscriber made old new answer (outcome, at, is) =
        still_balances made old new (at_port (Tells hub_ports with_hub_ports reader_degrades) (λ none. 0) (λ none. 0) (omega arith)
        tells (value_at made.subscribers subscriber) old new outcome at)

  publisher_goes : (port : PortId) (old new : Hub T U B D) (answer : Bool)
      → PublisherGoes hub_ports with_hub_ports without_hub_publisher port old answer new → Counts m 0 0 old new
  publisher_goes port old new answer at =
      leaves_counts m port.domain (without_hub_publisher port.domain port.number) (steps.PublisherLeaves port.number)
      (λ hub. keep_counts m port.domain (publisher_forgotten port.number) (λ domain. refl) hub)
      (λ ports after done does. steps_as m 0 (0 + 0) 0 0 ports after (omega arith)
      (call_steps m (calls.PublisherLeaves port.number done) ports after does)) (hub_ports port.domain old) old new answer refl at

  subscriber_goes : (port : PortId) (old new : Hub T U B D) (answer : Bool)
      → SubscriberGoes hub_ports with_hub_ports without_hub_subscriber port old answer new → Counts m 0 0 old new
  subscriber_goes port old new answer at =
      leaves_counts m port.domain (without_hub_subscriber port.domain port.number) (steps.SubscriberLeaves port.number)
      (λ hub. keep_counts m port.domain (subscriber_forgotten port.number) (λ domain. refl) hub)
      (λ ports after done does. steps_as m 0 (0 + 0) 0 0 ports after (omega arith)
      (call_steps m (calls.SubscriberLeaves port.number done) ports after does)) (hub_ports port.domain old) old new answer refl at

  pub leave_balances : (number : PortNumber) (made after : Made) (old new : Hub T U B D) (answer : Reply T)
      → LeaveStep hub_ports with_hub_ports without_hub_publisher without_hub_subscriber number made old answer after new
      → Balances 0 made old after new
  leave_balances (port_number.Publisher number) made after old new answer (done, at, is_made, is) =
      let even = publisher_spent m.loan m.sample done number made after is_made in
      balanced 0 0 0 made after old new (omega (arith, even))
      (at_port_if (PublisherGoes hub_ports with_hub_ports without_hub_publisher) publisher_goes
      (port_under (value_at made.publishers number)) old new done at)
  leave_balances (port_number.Subscriber number) made after old new answer (done, at, is_made, is) =
      let even = subscriber_spent m.loan m.sample done number made after is_made in
      balanced 0 0 0 made after old new (omega (arith, even))
      (at_port_if (SubscriberGoes hub_ports with_hub_ports without_hub_subscriber) subscriber_goes
      (value_at made.subscribers number) old new done at)

  pub publisher_balances : (degrades : B → DegradationCause → DegradationInfo → DegradationAction → Type 0) (is_default : U → Type 0)
      (domain : DomainId) (config : PublisherConfig) (slots : Option ℕ) (handlers : B) (made after : Made) (old new : Hub T U B D)
      (answer : Reply T)
      → PublisherStep hub_ports with_hub_ports with_hub_publisher degrades is_default domain config slots handlers made old answer after
      new → Balances (brought_at m config (hub_ports domain old)) made old after new
  publisher_balances degrades is_default domain config slots handlers made after old new answer
      (user_header, is_header, came, (roomier, is_roomier, (outcome, comes, numbers)), is) =
      let even = roomier_weight m.loan m.sample made roomier is_roomier in
      let still = publisher_numbered m.loan m.sample domain true made.publishers.next outcome came roomier after numbers in
      let brings = brought_at m config (hub_ports domain old) in
      balanced brings 0 brings made after old new (omega (arith, even, still))
      (makes_counts m brings domain (λ number. with_hub_publisher domain number handlers)
      (steps.PublisherComes (λ worst_case named. named ≡ unwrap_or slots worst_case) (degrades handlers FailedToEstablishConnection)
      config user_header) (steps.why_no_publisher config)
      (λ number hub. keep_counts m domain (publisher_kept number handlers) (λ one. refl) hub) (hub_ports domain old)
      (λ ports later number there does. let own : m.brings config ports ≡ brings
      = ap (brought_at m config) (sym there) in steps_as m 0 (0 + m.brings config ports) 0 brings ports later (omega (arith, own))
      (call_steps m (calls.PublisherComes config user_header (Ok number)) ports later
      (loosened (λ worst_case named. named ≡ unwrap_or slots worst_case) (degrades handlers FailedToEstablishConnection) AnyDecision
      (calls.PublisherComes config user_header (Ok number)) ports later does)))
      old new outcome refl comes)

  pub subscriber_balances : (degrades : D → DegradationCause → DegradationInfo → DegradationAction → Type 0) (domain : DomainId)
      (config : SubscriberConfig) (handler : D) (made after : Made) (old new : Hub T U B D) (answer : Reply T)
      → SubscriberStep hub_ports with_hub_ports with_hub_subscriber degrades domain config handler made old answer after new
      → Balances (held_at m (hub_ports domain old)) made old after new
  subscriber_balances degrades domain config handler made after old new answer
      (came, (roomier, is_roomier, (outcome, comes, numbers)), is) =
      let even = roomier_weight m.loan m.sample made roomier is_roomier in
      let still = subscriber_numbered m.loan m.sample domain made.subscribers.next outcome came roomier after numbers in
      let brings = held_at m (hub_ports domain old) in
      balanced brings 0 brings made after old new (omega (arith, even, still))
      (makes_counts m brings domain (λ number. with_hub_subscriber domain number handler)
      (steps.SubscriberComes (degrades handler FailedToEstablishConnection) config) (steps.why_no_subscriber config)
      (λ number hub. keep_counts m domain (subscriber_kept number handler) (λ one. refl) hub) (hub_ports domain old)
      (λ ports later number there does. let own : m.holds ports ≡ brings
      = ap (held_at m) (sym there) in steps_as m 0 (0 + m.holds ports) 0 brings ports later (omega (arith, own))
      (call_steps m (calls.SubscriberComes config.owner config.buffer_size (Ok number)) ports later
      (loosened AnySlots (degrades handler FailedToEstablishConnection) AnyDecision
      (calls.SubscriberComes config.owner config.buffer_size (Ok number)) ports later does)))
      old new outcome refl comes)
