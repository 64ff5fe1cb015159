-- What each step of a publisher that follows no list does to it, put together to what a call does.
use Rattle.std.proofs.Common.{arith, ◌≡◌, ◌-◌, ◌<◌, ◌≤◌, ◌∷◌, ◌++◌, [], cond, drop, length-append, ℕ, zero, suc, Bool, true, false, List}
use Rattle.std.proofs.Common.{get_or, length, nat_lt, nat_le, slice_get, is_some, Option, None, Some, Result, Ok, Err, refl, ap, ◌∙◌}
use Rattle.std.proofs.Common.{if◌then◌else◌, inl, inr}
use Rattle.iox_domain.specs.Container.declared.container.Member.{Member}
use Rattle.iox_domain.specs.DomainValues.Sequences.{next_sequence, is_used_up}
use Rattle.iox_domain.specs.DomainValues.declared.backpressure.BackpressureDecision.{BackpressureDecision}
use Rattle.iox_domain.specs.DomainValues.declared.backpressure.BackpressureDecision.TheVariants as decided
use Rattle.iox_domain.specs.DomainValues.declared.backpressure.BackpressureInfo.{BackpressureInfo}
use Rattle.iox_domain.specs.DomainValues.declared.connection_failure.ConnectionFailure.{ConnectionFailure}
use Rattle.iox_domain.specs.DomainValues.declared.data_segment.AllocationStrategy.{AllocationStrategy}
use Rattle.iox_domain.specs.DomainValues.declared.degradation.DegradationAction.{DegradationAction}
use Rattle.iox_domain.specs.DomainValues.declared.degradation.DegradationInfo.{DegradationInfo}
use Rattle.iox_domain.specs.DomainValues.declared.port_error.LoanError.{LoanError}
use Rattle.iox_domain.specs.DomainValues.declared.port_error.SendError.{SendError}
use Rattle.iox_domain.specs.DomainSlots.Uses.{offered, Connection}
use Rattle.iox_domain.specs.DomainPorts.Messages.{Message, Loan}
use Rattle.iox_domain.specs.DomainPorts.Lengths.{extent}
use Rattle.iox_domain.specs.DomainPorts.Loaning.{with_sender, LendsHere, LendsInNew, LendsBeyond, LendsWhere, LendsUnless, LoansIf}
use Rattle.iox_domain.specs.DomainPorts.Loaning.{first_refusal}
use Rattle.iox_domain.specs.DomainPorts.MessagesSending.{opened_for}
use Rattle.iox_domain.specs.DomainPorts.Ports.{connection_of, with_connection_of, is_live}
use Rattle.iox_domain.specs.DomainPorts.Progress.{tried_again}
use Rattle.iox_domain.specs.DomainPorts.Sending.{with_message, met_by, met, meeting_at, with_progress, decided_by, Steps, GoesOn}
use Rattle.iox_domain.specs.DomainPorts.Sending.{Delivers, concluded, Finishes, begun_by, begun_at, dropped_at, SendsAfter, SendsIf}
use Rattle.iox_domain.specs.DomainPorts.Sending.{SendsStanding}
use Rattle.iox_domain.specs.DomainPorts.Sending.{Sends}
use Rattle.iox_domain.specs.DomainPorts.PublisherUpdating.{Updates}
use Rattle.iox_domain.specs.DomainPorts.Writing.{changed_if, place_of, given_up_at, given_up}
use Rattle.iox_domain.specs.DomainPorts.declared.meeting.Meeting.{Meeting}
use Rattle.iox_domain.specs.DomainPorts.declared.meeting.Meeting.TheVariants as meeting
use Rattle.iox_domain.specs.DomainPorts.declared.meeting.Sent.{Sent}
use Rattle.iox_domain.specs.DomainPorts.declared.publisher_port.PublisherPort.{PublisherPort}
use Rattle.iox_domain.specs.DomainPorts.declared.subscriber_entry.SubscriberEntry.{SubscriberEntry}
use Rattle.iox_domain.specs.Lending.{LoansOne}
use Rattle.iox_domain.specs.Lending as lending
use Rattle.iox_domain.specs.PortsPublishing.{is_blocked, RetriesOne, GivesUpOne}
use Rattle.iox_domain.specs.SizeLaws.{made_for}
use Rattle.iox_domain.specs.PortsPublishing as publishing
use Rattle.std.proofs.lemmas.List.{length-drop}

-- What holds from a publisher before each such step to it after the step, and from step to step: where no connection, tie, reader
-- or size changes, and where other messages wait at a connection that goes on, no more than may.
pub record Carries {T U : Type 0} (R : PublisherPort T U → PublisherPort T U → Type 0) : Type 0 where
  pub is : (old new : PublisherPort T U) → new ≡ old → R old new
  pub on : (old between new : PublisherPort T U) → R old between → R between new → R old new
  pub still : (old new : PublisherPort T U) → new.sender.uses.connections ≡ old.sender.uses.connections → new.ties ≡ old.ties
      → new.readers ≡ old.readers → new.stands ≡ old.stands → made_for new ≡ made_for old → R old new
  pub waiting : (index : ℕ) (waiting : List (Message T U)) (port : PublisherPort T U) → is_live index port ≡ true
      → (length (connection_of index port).waiting ≤ (connection_of index port).limit
      → length waiting ≤ (connection_of index port).limit)
      → R port (with_connection_of index (record (connection_of index port) { waiting = waiting }) port)

carry_to : {T U : Type 0} {R : PublisherPort T U → PublisherPort T U → Type 0} (w : Carries R) (old new other : PublisherPort T U)
    → other ≡ new → R old new → R old other
carry_to w old new other is carried = w.on old new other carried (w.is new other is)

carry_if : {T U : Type 0} {R : PublisherPort T U → PublisherPort T U → Type 0} (w : Carries R) (live : Bool)
    (old one other : PublisherPort T U) → (live ≡ true → R old one) → (live ≡ false → R old other) → R old (if live then one else other)
carry_if w true old one other carried_one carried_other = carried_one refl
carry_if w false old one other carried_one carried_other = carried_other refl

-- a mailbox holds no more than it may after a message came
offered_few_by : {X : Type 0} (overflows room : Bool) (limit : ℕ) (waiting : List X) (message : X)
    → nat_lt (length waiting) limit ≡ room → length waiting ≤ limit
    → length (cond overflows (cond room (waiting ++ message ∷ []) (drop 1 (waiting ++ message ∷ [])))
    (cond room (waiting ++ message ∷ []) waiting)) ≤ limit
offered_few_by true true limit waiting message is few = let below : length waiting < limit
    = grind (arith, is) in omega (arith, below, length-append waiting (message ∷ []))
offered_few_by false true limit waiting message is few = let below : length waiting < limit
    = grind (arith, is) in omega (arith, below, length-append waiting (message ∷ []))
offered_few_by true false limit waiting message is few
    = omega (arith, few, length-append waiting (message ∷ []), length-drop 1 (waiting ++ message ∷ []))
offered_few_by false false limit waiting message is few = few

offered_few : {X : Type 0} (overflows : Bool) (message : X) (connection : Connection X) → length connection.waiting ≤ connection.limit
    → length (offered overflows message connection).waiting ≤ connection.limit
offered_few overflows message connection few
    = offered_few_by overflows (nat_lt (length connection.waiting) connection.limit) connection.limit connection.waiting message refl few

-- a message comes to a mailbox
carry_message : {T U : Type 0} {R : PublisherPort T U → PublisherPort T U → Type 0} (w : Carries R) (index : ℕ)
    (message : Option (Message T U)) (port : PublisherPort T U) → is_live index port ≡ true → R port (with_message index message port)
carry_message w index None port live = w.is port port refl
carry_message w index (Some message) port live =
    w.waiting index (offered port.sender.uses.overflows message (connection_of index port)).waiting port live
    (offered_few port.sender.uses.overflows message (connection_of index port))

carry_met : {T U : Type 0} {R : PublisherPort T U → PublisherPort T U → Type 0} (w : Carries R) (tie : Option ℕ)
    (port : PublisherPort T U) → R port (met_by tie port)
carry_met w None port = w.is port port refl
carry_met w (Some index) port =
    carry_if w (is_live index port) port _ port (λ live. carry_message w index port.sender.uses.sending port live)
    (λ dead. w.is port port refl)

-- a place is gone over
carry_decided : {T U : Type 0} {R : PublisherPort T U → PublisherPort T U → Type 0} (w : Carries R) (decision : BackpressureDecision)
    (port : PublisherPort T U) → R port (decided_by decision port)
carry_decided w decided.Retry port = w.is port port refl
carry_decided w decided.DiscardData port = w.still port _ refl refl refl refl refl
carry_decided w decided.DiscardDataAndFail port = w.still port _ refl refl refl refl refl

carry_steps : {T U : Type 0} {R : PublisherPort T U → PublisherPort T U → Type 0} (w : Carries R)
    (may : BackpressureInfo → BackpressureDecision → Type 0) (came : Meeting) (old new : PublisherPort T U) (went : Bool)
    → Steps may came old went new → R old new
carry_steps w may meeting.Over old new went steps = w.is old new steps.1
carry_steps w may meeting.Passed old new went steps = carry_to w old _ new steps.1 (w.still old _ refl refl refl refl refl)
carry_steps w may meeting.Delivered old new went steps = carry_to w old _ new steps.1 (w.still old _ refl refl refl refl refl)
carry_steps w may (meeting.Full subscriber) old new went steps = carry_to w old _ new steps.3 (carry_decided w steps.0 old)

carry_goes_on : {T U : Type 0} {R : PublisherPort T U → PublisherPort T U → Type 0} (w : Carries R) (went arrived : Bool)
    (next new : PublisherPort T U) (further : Type 0) → (further → R next new) → GoesOn went arrived next new further → R next new
carry_goes_on w false arrived next new further keeps goes = w.is next new goes.1
carry_goes_on w true arrived next new further keeps goes = keeps goes

carry_delivers : {T U : Type 0} {R : PublisherPort T U → PublisherPort T U → Type 0} (w : Carries R)
    (may : BackpressureInfo → BackpressureDecision → Type 0) (places : ℕ) (old new : PublisherPort T U) (arrived : Bool)
    → Delivers may places old arrived new → R old new
carry_delivers w may zero old new arrived delivers = w.is old new delivers.1
carry_delivers {T} {U} w may (suc places) old new arrived delivers =
    let (went, next, steps, goes) = delivers in
    w.on old next new
    (w.on old (met old.progress.place old) next (carry_met w (get_or old.ties.items old.progress.place None) old)
    (carry_steps w may (meeting_at old.progress.place old) (met old.progress.place old) next went steps))
    (carry_goes_on w went arrived next new (Delivers may places next arrived new)
    (λ further. carry_delivers w may places next new arrived further) goes)

pub carry_concluded : {T U : Type 0} {R : PublisherPort T U → PublisherPort T U → Type 0} (w : Carries R) (arrived : Bool)
    (port : PublisherPort T U) → R port (concluded arrived port)
carry_concluded w true port = w.still port _ refl refl refl refl refl
carry_concluded w false port = w.is port port refl

carry_finishes : {T U : Type 0} {R : PublisherPort T U → PublisherPort T U → Type 0} (w : Carries R)
    (may : BackpressureInfo → BackpressureDecision → Type 0) (old new : PublisherPort T U) (answer : Result Sent SendError)
    → Finishes may old answer new → R old new
carry_finishes {T} {U} w may old new answer finishes =
    let (arrived, gone, delivers, is_answer, is_new) = finishes in
    w.on old gone new (carry_delivers w may (length old.ties.items - old.progress.place) old gone arrived delivers)
    (carry_to w gone (concluded arrived gone) new is_new (carry_concluded w arrived gone))

still_numbered : (last : Option ℕ) → is_some (next_sequence last) ≡ is_some last
still_numbered None = refl
still_numbered (Some number) = refl

carry_begun : {T U : Type 0} {R : PublisherPort T U → PublisherPort T U → Type 0} (w : Carries R) (at : ℕ) (loan : Option (Loan T U))
    (port : PublisherPort T U) → R port (begun_by at loan port)
carry_begun w at None port = w.is port port refl
carry_begun w at (Some loan) port
    = w.still port _ refl refl refl refl
    (ap (λ numbered. record (made_for port) { numbered = numbered }) (still_numbered port.last_sequence))

-- a send
carry_sends_after : {T U : Type 0} {R : PublisherPort T U → PublisherPort T U → Type 0} (w : Carries R)
    (may : BackpressureInfo → BackpressureDecision → Type 0) (at : ℕ) (outcome : Result (Unit {0}) ConnectionFailure)
    (updated new : PublisherPort T U) (answer : Option (Result Sent SendError))
    → SendsAfter may at outcome updated answer new → R updated new
carry_sends_after w may at (Err failure) updated new answer sends
    = carry_to w updated (dropped_at at updated) new sends.1 (w.still updated _ refl refl refl refl refl)
carry_sends_after w may at (Ok done) updated new answer sends =
    w.on updated (begun_at at updated) new (carry_begun w at (slice_get updated.sender.uses.loans at) updated)
    (carry_finishes w may (begun_at at updated) new sends.0 sends.1)

carry_sends_standing : {T U : Type 0} {R : PublisherPort T U → PublisherPort T U → Type 0} (w : Carries R) (used : Bool)
    (may_degrade : DegradationInfo → DegradationAction → Type 0) (may : BackpressureInfo → BackpressureDecision → Type 0)
    (listed : List (Option (Member SubscriberEntry))) (changes at : ℕ)
    (old new : PublisherPort T U) (answer : Option (Result Sent SendError))
    → ((outcome : Result (Unit {0}) ConnectionFailure) (updated : PublisherPort T U)
    → Updates may_degrade listed changes old outcome updated → R old updated)
    → SendsStanding used may_degrade may listed changes at old answer new → R old new
carry_sends_standing w true may_degrade may listed changes at old new answer follows sends
    = carry_to w old (dropped_at at old) new sends.1 (w.still old _ refl refl refl refl refl)
carry_sends_standing {T} {U} w false may_degrade may listed changes at old new answer follows sends =
    let (outcome, updated, updates, after) = sends in
    w.on old updated new (follows outcome updated updates) (carry_sends_after w may at outcome updated new answer after)

carry_sends_if : {T U : Type 0} {R : PublisherPort T U → PublisherPort T U → Type 0} (w : Carries R) (stands : Bool)
    (may_degrade : DegradationInfo → DegradationAction → Type 0) (may : BackpressureInfo → BackpressureDecision → Type 0)
    (listed : List (Option (Member SubscriberEntry))) (changes at : ℕ)
    (old new : PublisherPort T U) (answer : Option (Result Sent SendError)) → old.stands ≡ stands
    → (old.stands ≡ true → (outcome : Result (Unit {0}) ConnectionFailure) (updated : PublisherPort T U)
    → Updates may_degrade listed changes old outcome updated → R old updated)
    → SendsIf stands may_degrade may listed changes at old answer new → R old new
carry_sends_if w false may_degrade may listed changes at old new answer is follows sends
    = carry_to w old (dropped_at at old) new sends.1 (w.still old _ refl refl refl refl refl)
carry_sends_if w true may_degrade may listed changes at old new answer is follows sends
    = carry_sends_standing w (is_used_up old.last_sequence) may_degrade may listed changes at old new answer (follows is) sends

pub carry_sends : {T U : Type 0} {R : PublisherPort T U → PublisherPort T U → Type 0} (w : Carries R)
    (may_degrade : DegradationInfo → DegradationAction → Type 0) (may : BackpressureInfo → BackpressureDecision → Type 0)
    (listed : List (Option (Member SubscriberEntry))) (changes : ℕ) (ready : Option ℕ)
    (old new : PublisherPort T U) (answer : Option (Result Sent SendError))
    → (old.stands ≡ true → (outcome : Result (Unit {0}) ConnectionFailure) (updated : PublisherPort T U)
    → Updates may_degrade listed changes old outcome updated → R old updated)
    → Sends may_degrade may listed changes ready old answer new → R old new
carry_sends w may_degrade may listed changes None old new answer follows sends = w.is old new sends.1
carry_sends w may_degrade may listed changes (Some at) old new answer follows sends =
    carry_sends_if w old.stands may_degrade may listed changes at old new answer refl follows sends

-- a loan
carry_lends_here : {T U : Type 0} {R : PublisherPort T U → PublisherPort T U → Type 0} (w : Carries R) (values elements : ℕ)
    (old new : PublisherPort T U) (answer : Result ℕ LoanError) → LendsHere values elements old answer new → R old new
carry_lends_here w values elements old new (Ok slot) lends = w.still old new
    (ap (λ port. port.sender.uses.connections) lends.1 ∙ ap (λ sender. sender.uses.connections) lends.0.3)
    (ap (λ port. port.ties) lends.1) (ap (λ port. port.readers) lends.1) (ap (λ port. port.stands) lends.1)
    (ap (λ port. made_for port) lends.1 ∙ ap
    (λ sender. record {
      overflows = sender.uses.overflows;
      history = sender.uses.kept;
      most_waiting
          = sender.uses.most_waiting;
      most_borrowed = sender.uses.most_borrowed;
      numbered = is_some old.last_sequence;
    }) lends.0.3)
carry_lends_here w values elements old new (Err error) lends = w.still old new
    (ap (λ port. port.sender.uses.connections) lends.2 ∙ ap (λ sender. sender.uses.connections) lends.1.1)
    (ap (λ port. port.ties) lends.2) (ap (λ port. port.readers) lends.2) (ap (λ port. port.stands) lends.2)
    (ap (λ port. made_for port) lends.2 ∙ ap
    (λ sender. record {
      overflows = sender.uses.overflows;
      history = sender.uses.kept;
      most_waiting
          = sender.uses.most_waiting;
      most_borrowed = sender.uses.most_borrowed;
      numbered = is_some old.last_sequence;
    }) lends.1.1)

carry_lends_new : {T U : Type 0} {R : PublisherPort T U → PublisherPort T U → Type 0} (w : Carries R) (room values elements : ℕ)
    (old new : PublisherPort T U) (answer : Result ℕ LoanError) → LendsInNew room values elements old answer new → R old new
carry_lends_new {T} {U} w room values elements old new answer (inl lends) =
    let opened : PublisherPort T U = with_sender (opened_for room old.sender) old in
    w.on old opened new (w.still old opened refl refl refl refl refl) (carry_lends_here w values elements opened new answer lends)
carry_lends_new w room values elements old new answer (inr lacks) = w.is old new lacks.1

carry_lends_beyond : {T U : Type 0} {R : PublisherPort T U → PublisherPort T U → Type 0} (w : Carries R) (room : Option ℕ) (more : Bool)
    (values elements : ℕ) (old new : PublisherPort T U) (answer : Result ℕ LoanError)
    → LendsBeyond room more values elements old answer new → R old new
carry_lends_beyond w None more values elements old new answer lends = w.is old new lends.1
carry_lends_beyond w (Some room) false values elements old new answer lends = w.is old new lends.1
carry_lends_beyond w (Some room) true values elements old new answer lends = carry_lends_new w room values elements old new answer lends

carry_lends_where : {T U : Type 0} {R : PublisherPort T U → PublisherPort T U → Type 0} (w : Carries R) (fits : Bool)
    (allocation : AllocationStrategy) (values elements : ℕ) (old new : PublisherPort T U) (answer : Result ℕ LoanError)
    → LendsWhere fits allocation values elements old answer new → R old new
carry_lends_where w true allocation values elements old new answer lends = carry_lends_here w values elements old new answer lends
carry_lends_where w false allocation values elements old new answer lends =
    carry_lends_beyond w lends.0 (nat_lt old.sender.segments old.sender.most_segments) values elements old new answer lends.2

carry_lends_unless : {T U : Type 0} {R : PublisherPort T U → PublisherPort T U → Type 0} (w : Carries R) (refused : Option LoanError)
    (allocation : AllocationStrategy) (values elements : ℕ) (old new : PublisherPort T U) (answer : Result ℕ LoanError)
    → LendsUnless refused allocation values elements old answer new → R old new
carry_lends_unless w (Some error) allocation values elements old new answer lends = w.is old new lends.1
carry_lends_unless w None allocation values elements old new answer lends
    = carry_lends_where w (nat_le (extent old.unit values elements) old.sender.room) allocation values elements old new answer lends

carry_loans_if : {T U : Type 0} {R : PublisherPort T U → PublisherPort T U → Type 0} (w : Carries R) (sending : Bool)
    (allocation : AllocationStrategy) (values elements : ℕ) (old new : PublisherPort T U) (answer : Option (Result ℕ LoanError))
    → LoansIf sending allocation values elements old answer new → R old new
carry_loans_if w true allocation values elements old new answer loans = w.is old new loans.1
carry_loans_if w false allocation values elements old new answer loans
    = carry_lends_unless w (first_refusal allocation values elements old) allocation values elements old new loans.0 loans.2

carry_loans_one : {T U : Type 0} {R : PublisherPort T U → PublisherPort T U → Type 0} (w : Carries R) (stands : Bool)
    (values elements : ℕ) (old new : PublisherPort T U) (answer : Option (Result ℕ LoanError))
    → lending.LoansIf stands values elements old answer new → R old new
carry_loans_one w false values elements old new answer loans = w.is old new loans.1
carry_loans_one w true values elements old new answer loans
    = carry_loans_if w (is_some old.sender.uses.sending) old.allocation values elements old new answer loans

pub carry_loans : {T U : Type 0} {R : PublisherPort T U → PublisherPort T U → Type 0} (w : Carries R) (values elements : ℕ)
    (old new : PublisherPort T U) (answer : Option (Result ℕ LoanError)) → LoansOne values elements old answer new → R old new
carry_loans w values elements old new answer loans = carry_loans_one w old.stands values elements old new answer loans

-- what lies in a loan is written, or it is given up
pub carry_changed : {T U : Type 0} {R : PublisherPort T U → PublisherPort T U → Type 0} (w : Carries R) (allowed : Bool) (slot : ℕ)
    (change : Loan T U → Loan T U) (port : PublisherPort T U) → R port (changed_if allowed slot change port)
carry_changed w true slot change port = w.still port _ refl refl refl refl refl
carry_changed w false slot change port = w.is port port refl

carry_given_up_at : {T U : Type 0} {R : PublisherPort T U → PublisherPort T U → Type 0} (w : Carries R) (at : Option ℕ)
    (port : PublisherPort T U) → R port (given_up_at at port)
carry_given_up_at w None port = w.is port port refl
carry_given_up_at w (Some at) port = w.still port _ refl refl refl refl refl

pub carry_given_up : {T U : Type 0} {R : PublisherPort T U → PublisherPort T U → Type 0} (w : Carries R) (slot : ℕ)
    (port : PublisherPort T U) → R port (given_up slot port)
carry_given_up w slot port = carry_given_up_at w (place_of slot port) port

-- a blocked send is tried again, or given up
retries_one : {T U : Type 0} {R : PublisherPort T U → PublisherPort T U → Type 0} (w : Carries R) (blocked : Bool)
    (may : BackpressureInfo → BackpressureDecision → Type 0) (elapsed : ℕ) (old new : PublisherPort T U)
    (answer : Option (Result Sent SendError)) → publishing.RetriesIf blocked may elapsed old answer new → R old new
retries_one w false may elapsed old new answer retries = w.is old new retries.1
retries_one {T} {U} w true may elapsed old new answer retries =
    let again : PublisherPort T U = with_progress (tried_again elapsed old.progress) old in
    w.on old again new (w.still old again refl refl refl refl refl) (carry_finishes w may again new retries.0 retries.1)

pub carry_retries : {T U : Type 0} {R : PublisherPort T U → PublisherPort T U → Type 0} (w : Carries R)
    (may : BackpressureInfo → BackpressureDecision → Type 0) (elapsed : ℕ) (old new : PublisherPort T U)
    (answer : Option (Result Sent SendError)) → RetriesOne may elapsed old answer new → R old new
carry_retries w may elapsed old new answer retries = retries_one w (is_blocked old) may elapsed old new answer retries

gives_up_one : {T U : Type 0} {R : PublisherPort T U → PublisherPort T U → Type 0} (w : Carries R) (blocked : Bool)
    (old new : PublisherPort T U) (answer : Option ℕ) → publishing.GivesUpIf blocked old answer new → R old new
gives_up_one w false old new answer gives = w.is old new gives.1
gives_up_one w true old new answer gives = carry_to w old _ new gives.1 (carry_concluded w true old)

pub carry_gives_up : {T U : Type 0} {R : PublisherPort T U → PublisherPort T U → Type 0} (w : Carries R) (old new : PublisherPort T U)
    (answer : Option ℕ) → GivesUpOne old answer new → R old new
carry_gives_up w old new answer gives = gives_up_one w (is_blocked old) old new answer gives
