-- Each step of a publisher but an update leaves its ties, and what it has seen of the list of subscribers.
use Rattle.std.proofs.Common.{◌≡◌, ◌+◌, ◌-◌, ◌∷◌, [], ℕ, zero, suc, Bool, true, false, List, get_or, length, nat_lt, nat_le, slice_get}
use Rattle.std.proofs.Common.{is_some, Option, None, Some, Result, Ok, Err, refl, ap, ◌∙◌, if◌then◌else◌, inl, inr}
use Rattle.iox_domain.specs.DomainPorts.Leaving.{departed, parted_at, parted_from}
use Rattle.iox_domain.specs.DomainPorts.Lengths.{extent}
use Rattle.iox_domain.specs.DomainPorts.Loaning.{LendsBeyond, LendsHere, LendsInNew, LendsUnless, LendsWhere, LoansIf, first_refusal}
use Rattle.iox_domain.specs.DomainPorts.Loaning.{with_sender}
use Rattle.iox_domain.specs.DomainPorts.Messages.{Loan, Message}
use Rattle.iox_domain.specs.DomainPorts.MessagesSending.{opened_for}
use Rattle.iox_domain.specs.DomainPorts.Places.{is_attached}
use Rattle.iox_domain.specs.DomainPorts.Ports.{Attaches, Joins, connection_of, connection_to, detached_at, ended_at, greeted_at, is_live}
use Rattle.iox_domain.specs.DomainPorts.Ports.{unread_at, welcomed_at}
use Rattle.iox_domain.specs.DomainPorts.Progress.{tried_again}
use Rattle.iox_domain.specs.DomainPorts.Publishers.{ended_if_left}
use Rattle.iox_domain.specs.DomainPorts.Reading.{given_back_at}
use Rattle.iox_domain.specs.DomainPorts.Sending.{Delivers, Finishes, GoesOn, SendsAfter, Steps, begun_at, begun_by, concluded, decided_by}
use Rattle.iox_domain.specs.DomainPorts.Sending.{meeting_at, met, met_by, with_message, with_progress}
use Rattle.iox_domain.specs.DomainPorts.Ties.{TiesState, has_tie}
use Rattle.iox_domain.specs.DomainPorts.Writing.{changed_if, changed_there, given_up, given_up_at, place_of}
use Rattle.iox_domain.specs.DomainPorts.declared.meeting.Meeting.{Meeting}
use Rattle.iox_domain.specs.DomainPorts.declared.meeting.Meeting.TheVariants as meeting
use Rattle.iox_domain.specs.DomainPorts.declared.meeting.Sent.{Sent}
use Rattle.iox_domain.specs.DomainPorts.declared.publisher_port.PublisherPort.{PublisherPort}
use Rattle.iox_domain.specs.DomainValues.declared.backpressure.BackpressureDecision.{BackpressureDecision}
use Rattle.iox_domain.specs.DomainValues.declared.backpressure.BackpressureDecision.TheVariants as decided
use Rattle.iox_domain.specs.DomainValues.declared.backpressure.BackpressureInfo.{BackpressureInfo}
use Rattle.iox_domain.specs.DomainValues.declared.connection_failure.ConnectionFailure.{ConnectionFailure}
use Rattle.iox_domain.specs.DomainValues.declared.data_segment.AllocationStrategy.{AllocationStrategy}
use Rattle.iox_domain.specs.DomainValues.declared.port_error.LoanError.{LoanError}
use Rattle.iox_domain.specs.DomainValues.declared.port_error.SendError.{SendError}
use Rattle.iox_domain.specs.Lending as lending
use Rattle.iox_domain.specs.Lending.{LoansOne}
use Rattle.iox_domain.specs.PortsPublishing as publishing
use Rattle.iox_domain.specs.PortsPublishing.{GivesUpOne, RetriesOne, is_blocked}

module _ {T U : Type 0} where
  -- what a publisher has seen of the list of subscribers, and its ties
  abbrev pub followed : PublisherPort T U → ℕ × TiesState
  followed port = (port.seen, port.ties)

  either_stays : (test : Bool) (port one other : PublisherPort T U) → followed one ≡ followed port → followed other ≡ followed port
      → followed (if test then one else other) ≡ followed port
  either_stays true port one other first second = first
  either_stays false port one other first second = second

  -- a connection ends, is joined, or is greeted
  pub ended_stays : (index : ℕ) (port : PublisherPort T U) → followed (ended_at index port) ≡ followed port
  ended_stays index port = either_stays (is_live index port) port _ port refl refl

  pub ended_if_stays : (index : ℕ) (port : PublisherPort T U) → followed (ended_if_left index port) ≡ followed port
  ended_if_stays index port = either_stays port.stands port port (ended_at index port) refl (ended_stays index port)

  pub detached_stays : (index : ℕ) (port : PublisherPort T U) → followed (detached_at index port) ≡ followed port
  detached_stays index port =
      either_stays (has_tie index port.ties) port (unread_at index port) (ended_at index port) refl (ended_stays index port)

  pub joins_stays : (subscriber limit index : ℕ) (found : Option ℕ) (old joined : PublisherPort T U)
      → Joins subscriber limit found old (Ok index) joined → followed joined ≡ followed old
  joins_stays subscriber limit index None old joined joins = ap followed joins.2
  joins_stays subscriber limit index (Some there) old joined joins = ap followed joins.1

  pub attaches_stays : (subscriber limit index : ℕ) (old new : PublisherPort T U) → Attaches subscriber limit old (Ok index) new
      → followed new ≡ followed old
  attaches_stays subscriber limit index old new attaches =
      ap followed attaches.2 ∙ joins_stays subscriber limit index (connection_to subscriber old) old attaches.0 attaches.1

  greeted_stays : (index : ℕ) (waiting : List (Message T U)) (port : PublisherPort T U)
      → followed (greeted_at index waiting port) ≡ followed port
  greeted_stays index [] port = refl
  greeted_stays index (message ∷ waiting) port = refl

  pub welcomed_stays : (index : ℕ) (port : PublisherPort T U) → followed (welcomed_at index port) ≡ followed port
  welcomed_stays index port =
      either_stays (is_live index port) port (greeted_at index (connection_of index port).waiting port) port
      (greeted_stays index (connection_of index port).waiting port) refl

  -- a message is given back
  pub given_back_stays : (index : ℕ) (at : Option ℕ) (port : PublisherPort T U) → followed (given_back_at index at port) ≡ followed port
  given_back_stays index None port = refl
  given_back_stays index (Some at) port = refl

  -- a publisher leaves
  parted_stays : (index : ℕ) (port : PublisherPort T U) → followed (parted_at index port) ≡ followed port
  parted_stays index port =
      either_stays (is_attached (get_or port.readers index None)) port port (ended_at index port) refl (ended_stays index port)

  parted_from_stays : (count index : ℕ) (port : PublisherPort T U) → followed (parted_from count index port) ≡ followed port
  parted_from_stays zero index port = refl
  parted_from_stays (suc count) index port = parted_from_stays count (index + 1) (parted_at index port) ∙ parted_stays index port

  pub departed_stays : (port : PublisherPort T U) → followed (departed port) ≡ followed port
  departed_stays port =
      let gone : PublisherPort T U = record port { stands = false } in
      parted_from_stays (length port.sender.uses.connections) 0 gone

  -- a message comes to a mailbox
  message_stays : (index : ℕ) (message : Option (Message T U)) (port : PublisherPort T U)
      → followed (with_message index message port) ≡ followed port
  message_stays index None port = refl
  message_stays index (Some message) port = refl

  met_stays : (tie : Option ℕ) (port : PublisherPort T U) → followed (met_by tie port) ≡ followed port
  met_stays None port = refl
  met_stays (Some index) port =
      either_stays (is_live index port) port (with_message index port.sender.uses.sending port) port
      (message_stays index port.sender.uses.sending port) refl

  -- a send goes over a place, and over all
  decided_stays : (decision : BackpressureDecision) (port : PublisherPort T U) → followed (decided_by decision port) ≡ followed port
  decided_stays decided.Retry port = refl
  decided_stays decided.DiscardData port = refl
  decided_stays decided.DiscardDataAndFail port = refl

  steps_stay : (may : BackpressureInfo → BackpressureDecision → Type 0) (came : Meeting) (old new : PublisherPort T U) (went : Bool)
      → Steps may came old went new → followed new ≡ followed old
  steps_stay may meeting.Over old new went steps = ap followed steps.1
  steps_stay may meeting.Passed old new went steps = ap followed steps.1
  steps_stay may meeting.Delivered old new went steps = ap followed steps.1
  steps_stay may (meeting.Full subscriber) old new went steps = ap followed steps.3 ∙ decided_stays steps.0 old

  goes_on_stays : (went arrived : Bool) (next new : PublisherPort T U) (further : Type 0) → (further → followed new ≡ followed next)
      → GoesOn went arrived next new further → followed new ≡ followed next
  goes_on_stays false arrived next new further keeps goes = ap followed goes.1
  goes_on_stays true arrived next new further keeps goes = keeps goes

  delivers_stay : (may : BackpressureInfo → BackpressureDecision → Type 0) (places : ℕ) (old new : PublisherPort T U) (arrived : Bool)
      → Delivers may places old arrived new → followed new ≡ followed old
  delivers_stay may zero old new arrived delivers = ap followed delivers.1
  delivers_stay may (suc places) old new arrived delivers =
      let (went, next, steps, goes) = delivers in
      goes_on_stays went arrived next new (Delivers may places next arrived new)
      (λ further. delivers_stay may places next new arrived further) goes
      ∙ steps_stay may (meeting_at old.progress.place old) (met old.progress.place old) next went steps
      ∙ met_stays (get_or old.ties.items old.progress.place None) old

  concluded_stays : (arrived : Bool) (port : PublisherPort T U) → followed (concluded arrived port) ≡ followed port
  concluded_stays true port = refl
  concluded_stays false port = refl

  finishes_stay : (may : BackpressureInfo → BackpressureDecision → Type 0) (old new : PublisherPort T U) (answer : Result Sent SendError)
      → Finishes may old answer new → followed new ≡ followed old
  finishes_stay may old new answer finishes =
      let (arrived, gone, delivers, is_answer, is_new) = finishes in
      ap followed is_new ∙ concluded_stays arrived gone
      ∙ delivers_stay may (length old.ties.items - old.progress.place) old gone arrived delivers

  -- a send after its update
  begun_stays : (at : ℕ) (loan : Option (Loan T U)) (port : PublisherPort T U) → followed (begun_by at loan port) ≡ followed port
  begun_stays at None port = refl
  begun_stays at (Some loan) port = refl

  pub sends_after_stay : (may : BackpressureInfo → BackpressureDecision → Type 0) (at : ℕ)
      (outcome : Result (Unit {0}) ConnectionFailure) (updated new : PublisherPort T U) (answer : Option (Result Sent SendError))
      → SendsAfter may at outcome updated answer new → followed new ≡ followed updated
  sends_after_stay may at (Err failure) updated new answer sends = ap followed sends.1
  sends_after_stay may at (Ok done) updated new answer sends =
      finishes_stay may (begun_at at updated) new sends.0 sends.1 ∙ begun_stays at (slice_get updated.sender.uses.loans at) updated

  -- a blocked send is tried again, or given up
  retries_by : (blocked : Bool) (may : BackpressureInfo → BackpressureDecision → Type 0) (elapsed : ℕ) (old new : PublisherPort T U)
      (answer : Option (Result Sent SendError)) → publishing.RetriesIf blocked may elapsed old answer new → followed new ≡ followed old
  retries_by false may elapsed old new answer retries = ap followed retries.1
  retries_by true may elapsed old new answer retries =
      finishes_stay may (with_progress (tried_again elapsed old.progress) old) new retries.0 retries.1

  pub retries_stay : (may : BackpressureInfo → BackpressureDecision → Type 0) (elapsed : ℕ) (old new : PublisherPort T U)
      (answer : Option (Result Sent SendError)) → RetriesOne may elapsed old answer new → followed new ≡ followed old
  retries_stay may elapsed old new answer retries = retries_by (is_blocked old) may elapsed old new answer retries

  gives_up_by : (blocked : Bool) (old new : PublisherPort T U) (answer : Option ℕ) → publishing.GivesUpIf blocked old answer new
      → followed new ≡ followed old
  gives_up_by false old new answer gives = ap followed gives.1
  gives_up_by true old new answer gives = ap followed gives.1 ∙ concluded_stays true old

  pub gives_up_stay : (old new : PublisherPort T U) (answer : Option ℕ) → GivesUpOne old answer new → followed new ≡ followed old
  gives_up_stay old new answer gives = gives_up_by (is_blocked old) old new answer gives

  -- a loan
  lends_here_stay : (values elements : ℕ) (old new : PublisherPort T U) (answer : Result ℕ LoanError)
      → LendsHere values elements old answer new → followed new ≡ followed old
  lends_here_stay values elements old new (Ok slot) lends = ap followed lends.1
  lends_here_stay values elements old new (Err error) lends = ap followed lends.2

  lends_new_stay : (room values elements : ℕ) (old new : PublisherPort T U) (answer : Result ℕ LoanError)
      → LendsInNew room values elements old answer new → followed new ≡ followed old
  lends_new_stay room values elements old new answer (inl lends) =
      lends_here_stay values elements (with_sender (opened_for room old.sender) old) new answer lends
  lends_new_stay room values elements old new answer (inr lacks) = ap followed lacks.1

  lends_beyond_stay : (room : Option ℕ) (more : Bool) (values elements : ℕ) (old new : PublisherPort T U) (answer : Result ℕ LoanError)
      → LendsBeyond room more values elements old answer new → followed new ≡ followed old
  lends_beyond_stay None more values elements old new answer lends = ap followed lends.1
  lends_beyond_stay (Some room) false values elements old new answer lends = ap followed lends.1
  lends_beyond_stay (Some room) true values elements old new answer lends = lends_new_stay room values elements old new answer lends

  lends_where_stay : (fits : Bool) (allocation : AllocationStrategy) (values elements : ℕ) (old new : PublisherPort T U)
      (answer : Result ℕ LoanError) → LendsWhere fits allocation values elements old answer new → followed new ≡ followed old
  lends_where_stay true allocation values elements old new answer lends = lends_here_stay values elements old new answer lends
  lends_where_stay false allocation values elements old new answer lends =
      lends_beyond_stay lends.0 (nat_lt old.sender.segments old.sender.most_segments) values elements old new answer lends.2

  lends_unless_stay : (refused : Option LoanError) (allocation : AllocationStrategy) (values elements : ℕ) (old new : PublisherPort T U)
      (answer : Result ℕ LoanError) → LendsUnless refused allocation values elements old answer new → followed new ≡ followed old
  lends_unless_stay (Some error) allocation values elements old new answer lends = ap followed lends.1
  lends_unless_stay None allocation values elements old new answer lends =
      lends_where_stay (nat_le (extent old.unit values elements) old.sender.room) allocation values elements old new answer lends

  loans_if_stay : (sending : Bool) (allocation : AllocationStrategy) (values elements : ℕ) (old new : PublisherPort T U)
      (answer : Option (Result ℕ LoanError)) → LoansIf sending allocation values elements old answer new → followed new ≡ followed old
  loans_if_stay true allocation values elements old new answer loans = ap followed loans.1
  loans_if_stay false allocation values elements old new answer loans =
      lends_unless_stay (first_refusal allocation values elements old) allocation values elements old new loans.0 loans.2

  loans_by : (stands : Bool) (values elements : ℕ) (old new : PublisherPort T U) (answer : Option (Result ℕ LoanError))
      → lending.LoansIf stands values elements old answer new → followed new ≡ followed old
  loans_by false values elements old new answer loans = ap followed loans.1
  loans_by true values elements old new answer loans =
      loans_if_stay (is_some old.sender.uses.sending) old.allocation values elements old new answer loans

  pub loans_stay : (values elements : ℕ) (old new : PublisherPort T U) (answer : Option (Result ℕ LoanError))
      → LoansOne values elements old answer new → followed new ≡ followed old
  loans_stay values elements old new answer loans = loans_by old.stands values elements old new answer loans

  -- what lies in a loan is written, or it is given up
  pub changed_stays : (allowed : Bool) (slot : ℕ) (change : Loan T U → Loan T U) (port : PublisherPort T U)
      → followed (changed_if allowed slot change port) ≡ followed port
  changed_stays allowed slot change port = either_stays allowed port (changed_there slot change port) port refl refl

  given_up_at_stays : (at : Option ℕ) (port : PublisherPort T U) → followed (given_up_at at port) ≡ followed port
  given_up_at_stays None port = refl
  given_up_at_stays (Some at) port = refl

  pub given_up_stays : (slot : ℕ) (port : PublisherPort T U) → followed (given_up slot port) ≡ followed port
  given_up_stays slot port = given_up_at_stays (place_of slot port) port
