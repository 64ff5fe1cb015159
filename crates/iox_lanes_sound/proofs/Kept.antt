-- Each step of a publisher but an update leaves what it keeps, and its connections such that one may wait at each.
use Rattle.std.proofs.Common.{arith, ◌≡◌, ◌≢◌, ◌+◌, ◌-◌, ◌<◌, ◌≤◌, ◌==◌, ◌∷◌, ◌++◌, [], ℕ, zero, suc, Bool, true, false, List, get_or}
use Rattle.std.proofs.Common.{length, nat_lt, nat_le, remove, set, slice_get, is_some, Option, None, Some, Result, Ok, Err, refl, sym, ap}
use Rattle.std.proofs.Common.{subst, ◌∙◌, if◌then◌else◌, inl, inr}
use Rattle.std.proofs.lemmas.Bool.{leb-false, lt-ltb}
use Rattle.std.proofs.lemmas.List.{length-drop}
use Rattle.iox_domain.specs.DomainPorts.Leaving.{departed, parted_at, parted_from}
use Rattle.iox_domain.specs.DomainPorts.Lengths.{extent}
use Rattle.iox_domain.specs.DomainPorts.Loaning.{LendsBeyond, LendsHere, LendsInNew, LendsUnless, LendsWhere, LoansIf, first_refusal}
use Rattle.iox_domain.specs.DomainPorts.Loaning.{with_sender}
use Rattle.iox_domain.specs.DomainPorts.Messages.{Loan, Message}
use Rattle.iox_domain.specs.DomainPorts.MessagesSending.{SenderState, opened_for}
use Rattle.iox_domain.specs.DomainPorts.Places.{is_attached}
use Rattle.iox_domain.specs.DomainPorts.Ports.{Attaches, Joins, connection_of, connection_to, detached_at, ended_at, goes_on, greeted_at}
use Rattle.iox_domain.specs.DomainPorts.Ports.{is_live, unread_at, welcomed_at}
use Rattle.iox_domain.specs.DomainPorts.Ties.{has_tie}
use Rattle.iox_domain.specs.DomainPorts.Progress.{tried_again}
use Rattle.iox_domain.specs.DomainPorts.Publishers.{ended_if_left}
use Rattle.iox_domain.specs.DomainPorts.Reading.{given_back_at, taken_at}
use Rattle.iox_domain.specs.DomainPorts.Sending.{Delivers, Finishes, GoesOn, SendsAfter, Steps, begun_at, begun_by, concluded, decided_by}
use Rattle.iox_domain.specs.DomainPorts.Sending.{dropped_at, meeting_at, met, met_by, with_message, with_progress}
use Rattle.iox_domain.specs.DomainPorts.Writing.{changed_if, given_up, given_up_at, place_of}
use Rattle.iox_domain.specs.DomainPorts.declared.meeting.Meeting.{Meeting}
use Rattle.iox_domain.specs.DomainPorts.declared.meeting.Meeting.TheVariants as meeting
use Rattle.iox_domain.specs.DomainPorts.declared.meeting.Sent.{Sent}
use Rattle.iox_domain.specs.DomainPorts.declared.publisher_port.PublisherPort.{PublisherPort}
use Rattle.iox_domain.specs.DomainSlots.Uses.{Connection, connected, ended, given_back, is_open, is_there, newest, nobody, offered, settled}
use Rattle.iox_domain.specs.DomainSlots.Uses.{taken, welcomed}
use Rattle.iox_domain.specs.DomainSlots.declared.stage.Stage.{Stage}
use Rattle.iox_domain.specs.DomainSlots.declared.stage.Stage.TheVariants as stage
use Rattle.iox_domain.specs.DomainValues.declared.backpressure.BackpressureDecision.{BackpressureDecision}
use Rattle.iox_domain.specs.DomainValues.declared.backpressure.BackpressureDecision.TheVariants as decided
use Rattle.iox_domain.specs.DomainValues.declared.backpressure.BackpressureInfo.{BackpressureInfo}
use Rattle.iox_domain.specs.DomainValues.declared.connection_failure.ConnectionFailure.{ConnectionFailure}
use Rattle.iox_domain.specs.DomainValues.declared.data_segment.AllocationStrategy.{AllocationStrategy}
use Rattle.iox_domain.specs.DomainValues.declared.data_segment.AllocationStrategy.TheVariants as strategy
use Rattle.iox_domain.specs.DomainValues.declared.port_error.LoanError.{LoanError}
use Rattle.iox_domain.specs.DomainValues.declared.port_error.SendError.{SendError}
use Rattle.iox_domain.specs.Lending as lending
use Rattle.iox_domain.specs.Lending.{LoansOne}
use Rattle.iox_domain.specs.PortsPublishing as publishing
use Rattle.iox_domain.specs.PortsPublishing.{GivesUpOne, RetriesOne, is_blocked}
use Rattle.iox_lanes_sound.specs.Keeping.{KeepsToOneIfStatic}

-- the last of a list are no more than were asked for
newest_few : {X : Type 0} (n : ℕ) (xs : List X) → length (newest n xs) ≤ n
newest_few n xs = omega (arith, length-drop (length xs - n) xs)

-- a connection that goes on is there
live_there : (now : Stage) → goes_on now ≡ true → is_open now ≡ true
live_there stage.Vacant live = cc
live_there stage.Live live = refl
live_there stage.Ended live = refl

-- what isn't refused isn't too long
not_refused : (test : Bool) (error : LoanError) (rest : Option LoanError) → (if test then Some error else rest) ≡ None → test ≡ false
not_refused true error rest is = absurd (cc is)
not_refused false error rest is = refl

-- what is as it was but the connections
pub record Fixed (T U : Type 0) : Type 0 where
  pub allocation : AllocationStrategy
  pub first : ℕ
  pub kept : ℕ
  pub most_waiting : ℕ
  pub history : List (Message T U)

module _ {T U : Type 0} where
  -- where there is a connection, one may wait there
  abbrev pub Waits : Connection (Message T U) → Type 0
  Waits connection = is_there connection ≡ true → 0 < connection.limit

  waits_same : (old new : Connection (Message T U)) → new ≡ old → Waits old → Waits new
  waits_same old new is waits = subst (λ (connection : Connection (Message T U)). Waits connection) (sym is) waits

  waits_set : (connections : List (Connection (Message T U))) (index : ℕ) (connection : Connection (Message T U)) → Waits connection
      → ((other : ℕ) → Waits (get_or connections other nobody)) → (other : ℕ)
      → Waits (get_or (set connections index connection) other nobody)
  waits_set [] index connection waits all other = all other
  waits_set (x ∷ xs) zero connection waits all zero = waits
  waits_set (x ∷ xs) zero connection waits all (suc other) = all (suc other)
  waits_set (x ∷ xs) (suc index) connection waits all zero = all zero
  waits_set (x ∷ xs) (suc index) connection waits all (suc other) = waits_set xs index connection waits (λ k. all (suc k)) other

  waits_append : (limit : ℕ) (connections : List (Connection (Message T U))) → 0 < limit
      → ((other : ℕ) → Waits (get_or connections other nobody)) → (other : ℕ)
      → Waits (get_or (connections ++ connected limit ∷ []) other nobody)
  waits_append limit [] some all zero = λ there. some
  waits_append limit [] some all (suc other) = all (suc other)
  waits_append limit (x ∷ xs) some all zero = all zero
  waits_append limit (x ∷ xs) some all (suc other) = waits_append limit xs some (λ k. all (suc k)) other

  waits_placed : (behind : Bool) (limit index : ℕ) (connections : List (Connection (Message T U))) → 0 < limit
      → ((other : ℕ) → Waits (get_or connections other nobody)) → (other : ℕ)
      → Waits (get_or (if behind then connections ++ connected limit ∷ [] else set connections index (connected limit)) other nobody)
  waits_placed true limit index connections some all other = waits_append limit connections some all other
  waits_placed false limit index connections some all other
      = waits_set connections index (connected limit) (λ there. some) all other

  waits_settled : (now : Stage) (limit : ℕ) (waiting borrowed : List (Message T U)) → (is_open now ≡ true → 0 < limit)
      → Waits (settled now limit waiting borrowed)
  waits_settled stage.Ended limit waiting [] some = λ there. absurd (cc there)
  waits_settled stage.Ended limit waiting (x ∷ xs) some = some
  waits_settled stage.Vacant limit waiting borrowed some = some
  waits_settled stage.Live limit waiting borrowed some = some

  -- what of a publisher is so
  abbrev pub fixed : PublisherPort T U → Fixed T U
  fixed port = record {
    allocation = port.allocation;
    first = port.sender.uses.first;
    kept = port.sender.uses.kept;
    most_waiting = port.sender.uses.most_waiting;
    history = port.sender.uses.history;
  }

  -- a publisher keeps so after a step if it did before
  pub record Keeps (old new : PublisherPort T U) : Type 0 where
    pub goes : KeepsToOneIfStatic old → KeepsToOneIfStatic new

  pub keeps_stays : (port : PublisherPort T U) → Keeps port port
  keeps_stays port = record { goes = λ kept. kept }

  pub keeps_is : (old new : PublisherPort T U) → new ≡ old → Keeps old new
  keeps_is old new is = rw is (keeps_stays old)

  pub keeps_on : (old between new : PublisherPort T U) → Keeps old between → Keeps between new → Keeps old new
  keeps_on old between new one two = record { goes = λ kept. two.goes (one.goes kept) }

  pub keeps_to : (old new other : PublisherPort T U) → other ≡ new → Keeps old new → Keeps old other
  keeps_to old new other is keeps = rw is keeps

  keeps_if : (test : Bool) (old one other : PublisherPort T U) → (test ≡ true → Keeps old one) → Keeps old other
      → Keeps old (if test then one else other)
  keeps_if true old one other first second = first refl
  keeps_if false old one other first second = second

  keeps_each : (old new : PublisherPort T U) → fixed new ≡ fixed old
      → (KeepsToOneIfStatic old → (index : ℕ) → Waits (connection_of index new)) → Keeps old new
  keeps_each old new same waits = record {
    goes = λ kept. record {
      first = λ is. ap (λ (f : Fixed T U). f.first) same ∙ kept.first (sym (ap (λ (f : Fixed T U). f.allocation) same) ∙ is);
      few = omega (arith, kept.few, ap (λ (f : Fixed T U). f.kept) same, ap (λ (f : Fixed T U). length f.history) same);
      some = waits kept;
      room = omega (arith, kept.room, ap (λ (f : Fixed T U). f.most_waiting) same);
    };
  }

  pub keeps_still : (old new : PublisherPort T U) → fixed new ≡ fixed old
      → new.sender.uses.connections ≡ old.sender.uses.connections → Keeps old new
  keeps_still old new same connections = keeps_each old new same (λ kept index.
      waits_same (connection_of index old) (connection_of index new) (ap (λ all. get_or all index nobody) connections) (kept.some index))

  keeps_set : (index : ℕ) (connection : Connection (Message T U)) (old new : PublisherPort T U) → fixed new ≡ fixed old
      → new.sender.uses.connections ≡ set old.sender.uses.connections index connection
      → (Waits (connection_of index old) → Waits connection) → Keeps old new
  keeps_set index connection old new same is waits = keeps_each old new same (λ kept other.
      waits_same (get_or (set old.sender.uses.connections index connection) other nobody) (connection_of other new)
      (ap (λ all. get_or all other nobody) is)
      (waits_set old.sender.uses.connections index connection (waits (kept.some index)) kept.some other))

  -- a connection ends, is made, joined, or greeted
  pub keeps_ended : (index : ℕ) (port : PublisherPort T U) → Keeps port (ended_at index port)
  keeps_ended index port =
      keeps_if (is_live index port) port _ port (λ live.
      keeps_set index (ended (connection_of index port)) port _ refl refl (λ waits.
      waits_settled stage.Ended (connection_of index port).limit [] (connection_of index port).borrowed
      (λ there. waits (live_there (connection_of index port).stage live)))) (keeps_stays port)

  pub keeps_ended_if : (index : ℕ) (port : PublisherPort T U) → Keeps port (ended_if_left index port)
  keeps_ended_if index port =
      keeps_if port.stands port port (ended_at index port) (λ stands. keeps_stays port) (keeps_ended index port)

  pub keeps_joins : (subscriber limit index : ℕ) (found : Option ℕ) (old joined : PublisherPort T U)
      → (KeepsToOneIfStatic old → 0 < limit) → Joins subscriber limit found old (Ok index) joined → Keeps old joined
  keeps_joins subscriber limit index (Some at) old joined some joins = keeps_is old joined joins.1
  keeps_joins subscriber limit index None old joined some joins =
      keeps_to old _ joined joins.2 (keeps_each old _ refl (λ kept other.
      waits_placed (index == length old.sender.uses.connections) limit index old.sender.uses.connections (some kept) kept.some other))

  pub keeps_attaches : (subscriber limit index : ℕ) (old new : PublisherPort T U) → (KeepsToOneIfStatic old → 0 < limit)
      → Attaches subscriber limit old (Ok index) new → Keeps old new
  keeps_attaches subscriber limit index old new some attaches =
      keeps_on old attaches.0 new
      (keeps_joins subscriber limit index (connection_to subscriber old) old attaches.0 some attaches.1)
      (keeps_to attaches.0 _ new attaches.2 (keeps_still attaches.0 _ refl refl))

  keeps_greeted : (index : ℕ) (waiting : List (Message T U)) (port : PublisherPort T U) → Keeps port (greeted_at index waiting port)
  keeps_greeted index [] port =
      keeps_set index (welcomed port.sender.uses.history (connection_of index port)) port _ refl refl (λ waits. waits)
  keeps_greeted index (message ∷ waiting) port = keeps_stays port

  pub keeps_welcomed : (index : ℕ) (port : PublisherPort T U) → Keeps port (welcomed_at index port)
  keeps_welcomed index port =
      keeps_if (is_live index port) port _ port (λ live. keeps_greeted index (connection_of index port).waiting port) (keeps_stays port)

  -- a message is taken, or given back; nobody reads at a connection any longer
  pub keeps_taken : (index : ℕ) (port : PublisherPort T U) → Keeps port (taken_at index port)
  keeps_taken index port = keeps_set index (taken (connection_of index port)) port _ refl refl (λ waits. waits)

  pub keeps_detached : (index : ℕ) (port : PublisherPort T U) → Keeps port (detached_at index port)
  keeps_detached index port =
      keeps_if (has_tie index port.ties) port (unread_at index port) (ended_at index port)
      (λ tied. keeps_still port (unread_at index port) refl refl) (keeps_ended index port)

  pub keeps_given_back : (index : ℕ) (at : Option ℕ) (port : PublisherPort T U) → Keeps port (given_back_at index at port)
  keeps_given_back index None port = keeps_stays port
  keeps_given_back index (Some at) port =
      keeps_set index (given_back at (connection_of index port)) port _ refl refl
      (waits_settled (connection_of index port).stage (connection_of index port).limit (connection_of index port).waiting
      (remove (connection_of index port).borrowed at))

  -- a publisher leaves
  keeps_parted : (index : ℕ) (port : PublisherPort T U) → Keeps port (parted_at index port)
  keeps_parted index port =
      keeps_if (is_attached (get_or port.readers index None)) port port (ended_at index port) (λ reads. keeps_stays port)
      (keeps_ended index port)

  keeps_parted_from : (count index : ℕ) (port : PublisherPort T U) → Keeps port (parted_from count index port)
  keeps_parted_from zero index port = keeps_stays port
  keeps_parted_from (suc count) index port =
      keeps_on port (parted_at index port) _ (keeps_parted index port) (keeps_parted_from count (index + 1) (parted_at index port))

  pub keeps_departed : (port : PublisherPort T U) → Keeps port (departed port)
  keeps_departed port =
      let gone : PublisherPort T U = record port { stands = false } in
      keeps_on port gone _ (keeps_still port gone refl refl) (keeps_parted_from (length port.sender.uses.connections) 0 gone)

  -- a message comes to a mailbox
  keeps_message : (index : ℕ) (message : Option (Message T U)) (port : PublisherPort T U) → Keeps port (with_message index message port)
  keeps_message index None port = keeps_stays port
  keeps_message index (Some message) port =
      keeps_set index (offered port.sender.uses.overflows message (connection_of index port)) port _ refl refl (λ waits. waits)

  keeps_met : (tie : Option ℕ) (port : PublisherPort T U) → Keeps port (met_by tie port)
  keeps_met None port = keeps_stays port
  keeps_met (Some index) port =
      keeps_if (is_live index port) port _ port (λ live. keeps_message index port.sender.uses.sending port) (keeps_stays port)

  -- a send goes over a place, and over all
  keeps_decided : (decision : BackpressureDecision) (port : PublisherPort T U) → Keeps port (decided_by decision port)
  keeps_decided decided.Retry port = keeps_stays port
  keeps_decided decided.DiscardData port = keeps_still port _ refl refl
  keeps_decided decided.DiscardDataAndFail port = keeps_still port _ refl refl

  keeps_steps : (may : BackpressureInfo → BackpressureDecision → Type 0) (came : Meeting) (old new : PublisherPort T U) (went : Bool)
      → Steps may came old went new → Keeps old new
  keeps_steps may meeting.Over old new went steps = keeps_is old new steps.1
  keeps_steps may meeting.Passed old new went steps = keeps_to old _ new steps.1 (keeps_still old _ refl refl)
  keeps_steps may meeting.Delivered old new went steps = keeps_to old _ new steps.1 (keeps_still old _ refl refl)
  keeps_steps may (meeting.Full subscriber) old new went steps = keeps_to old _ new steps.3 (keeps_decided steps.0 old)

  keeps_goes_on : (went arrived : Bool) (next new : PublisherPort T U) (further : Type 0) → (further → Keeps next new)
      → GoesOn went arrived next new further → Keeps next new
  keeps_goes_on false arrived next new further keeps goes = keeps_is next new goes.1
  keeps_goes_on true arrived next new further keeps goes = keeps goes

  keeps_delivers : (may : BackpressureInfo → BackpressureDecision → Type 0) (places : ℕ) (old new : PublisherPort T U) (arrived : Bool)
      → Delivers may places old arrived new → Keeps old new
  keeps_delivers may zero old new arrived delivers = keeps_is old new delivers.1
  keeps_delivers may (suc places) old new arrived delivers =
      let (went, next, steps, goes) = delivers in
      keeps_on old (met old.progress.place old) new (keeps_met (get_or old.ties.items old.progress.place None) old)
      (keeps_on (met old.progress.place old) next new
      (keeps_steps may (meeting_at old.progress.place old) (met old.progress.place old) next went steps)
      (keeps_goes_on went arrived next new (Delivers may places next arrived new)
      (λ further. keeps_delivers may places next new arrived further) goes))

  keeps_concluded : (arrived : Bool) (port : PublisherPort T U) → Keeps port (concluded arrived port)
  keeps_concluded true port = keeps_still port _ refl refl
  keeps_concluded false port = keeps_stays port

  keeps_finishes : (may : BackpressureInfo → BackpressureDecision → Type 0) (old new : PublisherPort T U) (answer : Result Sent SendError)
      → Finishes may old answer new → Keeps old new
  keeps_finishes may old new answer finishes =
      let (arrived, gone, delivers, is_answer, is_new) = finishes in
      keeps_on old gone new (keeps_delivers may (length old.ties.items - old.progress.place) old gone arrived delivers)
      (keeps_to gone (concluded arrived gone) new is_new (keeps_concluded arrived gone))

  -- a send after its update
  keeps_begun : (at : ℕ) (loan : Option (Loan T U)) (port : PublisherPort T U) → Keeps port (begun_by at loan port)
  keeps_begun at None port = keeps_stays port
  keeps_begun at (Some loan) port = record {
    goes = λ kept. record {
      first = kept.first;
      few = newest_few port.sender.uses.kept _;
      some = kept.some;
      room = kept.room;
    };
  }

  pub keeps_dropped : (at : ℕ) (port : PublisherPort T U) → Keeps port (dropped_at at port)
  keeps_dropped at port = keeps_still port _ refl refl

  pub keeps_sends_after : (may : BackpressureInfo → BackpressureDecision → Type 0) (at : ℕ)
      (outcome : Result (Unit {0}) ConnectionFailure) (updated new : PublisherPort T U) (answer : Option (Result Sent SendError))
      → SendsAfter may at outcome updated answer new → Keeps updated new
  keeps_sends_after may at (Err failure) updated new answer sends =
      keeps_to updated (dropped_at at updated) new sends.1 (keeps_dropped at updated)
  keeps_sends_after may at (Ok done) updated new answer sends =
      keeps_on updated (begun_at at updated) new (keeps_begun at (slice_get updated.sender.uses.loans at) updated)
      (keeps_finishes may (begun_at at updated) new sends.0 sends.1)

  -- a blocked send is tried again, or given up
  keeps_retries_by : (blocked : Bool) (may : BackpressureInfo → BackpressureDecision → Type 0) (elapsed : ℕ) (old new : PublisherPort T U)
      (answer : Option (Result Sent SendError)) → publishing.RetriesIf blocked may elapsed old answer new → Keeps old new
  keeps_retries_by false may elapsed old new answer retries = keeps_is old new retries.1
  keeps_retries_by true may elapsed old new answer retries =
      let again : PublisherPort T U = with_progress (tried_again elapsed old.progress) old in
      keeps_on old again new (keeps_still old again refl refl) (keeps_finishes may again new retries.0 retries.1)

  pub keeps_retries : (may : BackpressureInfo → BackpressureDecision → Type 0) (elapsed : ℕ) (old new : PublisherPort T U)
      (answer : Option (Result Sent SendError)) → RetriesOne may elapsed old answer new → Keeps old new
  keeps_retries may elapsed old new answer retries = keeps_retries_by (is_blocked old) may elapsed old new answer retries

  keeps_gives_up_by : (blocked : Bool) (old new : PublisherPort T U) (answer : Option ℕ) → publishing.GivesUpIf blocked old answer new
      → Keeps old new
  keeps_gives_up_by false old new answer gives = keeps_is old new gives.1
  keeps_gives_up_by true old new answer gives = keeps_to old (concluded true old) new gives.1 (keeps_concluded true old)

  pub keeps_gives_up : (old new : PublisherPort T U) (answer : Option ℕ) → GivesUpOne old answer new → Keeps old new
  keeps_gives_up old new answer gives = keeps_gives_up_by (is_blocked old) old new answer gives

  -- a loan
  keeps_lends_here : (values elements : ℕ) (old new : PublisherPort T U) (answer : Result ℕ LoanError)
      → LendsHere values elements old answer new → Keeps old new
  keeps_lends_here values elements old new (Ok slot) lends =
      keeps_to old (with_sender new.sender old) new lends.1 (keeps_still old _
      (ap (λ (sender : SenderState T U). fixed (with_sender sender old)) lends.0.3)
      (ap (λ (sender : SenderState T U). sender.uses.connections) lends.0.3))
  keeps_lends_here values elements old new (Err error) lends =
      keeps_to old (with_sender new.sender old) new lends.2 (keeps_still old _
      (ap (λ (sender : SenderState T U). fixed (with_sender sender old)) lends.1.1)
      (ap (λ (sender : SenderState T U). sender.uses.connections) lends.1.1))

  -- a segment is opened only where room grows
  keeps_opened : (room : ℕ) (port : PublisherPort T U) → port.allocation ≢ strategy.Static
      → Keeps port (with_sender (opened_for room port.sender) port)
  keeps_opened room port grows = record {
    goes = λ kept. record { first = λ is. absurd (grows is); few = kept.few; some = kept.some; room = kept.room };
  }

  keeps_lends_new : (room values elements : ℕ) (old new : PublisherPort T U) (answer : Result ℕ LoanError)
      → old.allocation ≢ strategy.Static → LendsInNew room values elements old answer new → Keeps old new
  keeps_lends_new room values elements old new answer grows (inl lends) =
      keeps_on old (with_sender (opened_for room old.sender) old) new (keeps_opened room old grows)
      (keeps_lends_here values elements (with_sender (opened_for room old.sender) old) new answer lends)
  keeps_lends_new room values elements old new answer grows (inr lacks) = keeps_is old new lacks.1

  keeps_lends_beyond : (room : Option ℕ) (more : Bool) (values elements : ℕ) (old new : PublisherPort T U) (answer : Result ℕ LoanError)
      → old.allocation ≢ strategy.Static → LendsBeyond room more values elements old answer new → Keeps old new
  keeps_lends_beyond None more values elements old new answer grows lends = keeps_is old new lends.1
  keeps_lends_beyond (Some room) false values elements old new answer grows lends = keeps_is old new lends.1
  keeps_lends_beyond (Some room) true values elements old new answer grows lends =
      keeps_lends_new room values elements old new answer grows lends

  keeps_lends_where : (fits : Bool) (values elements : ℕ) (old new : PublisherPort T U) (answer : Result ℕ LoanError)
      → (fits ≡ false → old.allocation ≢ strategy.Static) → LendsWhere fits old.allocation values elements old answer new → Keeps old new
  keeps_lends_where true values elements old new answer grows lends = keeps_lends_here values elements old new answer lends
  keeps_lends_where false values elements old new answer grows lends =
      keeps_lends_beyond lends.0 (nat_lt old.sender.segments old.sender.most_segments) values elements old new answer (grows refl) lends.2

  -- where room doesn't grow a loan that doesn't fit was refused before
  long_refused : (allocation : AllocationStrategy) (values elements : ℕ) (port : PublisherPort T U)
      → first_refusal allocation values elements port ≡ None
      → nat_le (extent port.unit values elements) port.sender.room ≡ false → allocation ≢ strategy.Static
  long_refused strategy.BestFit values elements port none long = λ same. cc same
  long_refused strategy.PowerOfTwo values elements port none long = λ same. cc same
  long_refused strategy.Static values elements port none long =
      let beyond : port.sender.room < extent port.unit values elements
      = leb-false (extent port.unit values elements) port.sender.room long in
      let no : true ≡ false = sym (lt-ltb port.sender.room (extent port.unit values elements) beyond)
      ∙ not_refused (nat_lt port.sender.room (extent port.unit values elements)) _ _ none in
      absurd (cc no)

  keeps_lends_unless : (refused : Option LoanError) (values elements : ℕ) (old new : PublisherPort T U) (answer : Result ℕ LoanError)
      → first_refusal old.allocation values elements old ≡ refused → LendsUnless refused old.allocation values elements old answer new
      → Keeps old new
  keeps_lends_unless (Some error) values elements old new answer is lends = keeps_is old new lends.1
  keeps_lends_unless None values elements old new answer is lends =
      keeps_lends_where (nat_le (extent old.unit values elements) old.sender.room) values elements old new answer
      (long_refused old.allocation values elements old is) lends

  keeps_loans_if : (sending : Bool) (values elements : ℕ) (old new : PublisherPort T U) (answer : Option (Result ℕ LoanError))
      → LoansIf sending old.allocation values elements old answer new → Keeps old new
  keeps_loans_if true values elements old new answer loans = keeps_is old new loans.1
  keeps_loans_if false values elements old new answer loans =
      keeps_lends_unless (first_refusal old.allocation values elements old) values elements old new loans.0 refl loans.2

  keeps_loans_by : (stands : Bool) (values elements : ℕ) (old new : PublisherPort T U) (answer : Option (Result ℕ LoanError))
      → lending.LoansIf stands values elements old answer new → Keeps old new
  keeps_loans_by false values elements old new answer loans = keeps_is old new loans.1
  keeps_loans_by true values elements old new answer loans =
      keeps_loans_if (is_some old.sender.uses.sending) values elements old new answer loans

  pub keeps_loans : (values elements : ℕ) (old new : PublisherPort T U) (answer : Option (Result ℕ LoanError))
      → LoansOne values elements old answer new → Keeps old new
  keeps_loans values elements old new answer loans = keeps_loans_by old.stands values elements old new answer loans

  -- what lies in a loan is written, or it is given up
  pub keeps_changed : (allowed : Bool) (slot : ℕ) (change : Loan T U → Loan T U) (port : PublisherPort T U)
      → Keeps port (changed_if allowed slot change port)
  keeps_changed true slot change port = keeps_still port _ refl refl
  keeps_changed false slot change port = keeps_stays port

  keeps_given_up_at : (at : Option ℕ) (port : PublisherPort T U) → Keeps port (given_up_at at port)
  keeps_given_up_at None port = keeps_stays port
  keeps_given_up_at (Some at) port = keeps_dropped at port

  pub keeps_given_up : (slot : ℕ) (port : PublisherPort T U) → Keeps port (given_up slot port)
  keeps_given_up slot port = keeps_given_up_at (place_of slot port) port
