-- What each call of a publisher leaves of what it and one of its connections keep.
use Rattle.std.proofs.Common.{◌≡◌, ◌&&◌, ◌||◌, ◌==◌, [], ◌++◌, append-nil, ℕ, Bool, true, false, not, List, get_or, nat_lt, nat_le}
use Rattle.std.proofs.Common.{slice_get, is_some, Option, None, Some, Result, Ok, Err, refl, sym, ap, ◌∙◌, subst, if◌then◌else◌, inl, inr}
use Rattle.std.specs.List.{position}
use Rattle.iox_domain.specs.Container.declared.container.Member.{Member}
use Rattle.iox_domain.specs.DomainValues.declared.backpressure.BackpressureDecision.{BackpressureDecision}
use Rattle.iox_domain.specs.DomainValues.declared.backpressure.BackpressureInfo.{BackpressureInfo}
use Rattle.iox_domain.specs.DomainValues.declared.connection_failure.ConnectionFailure.{ConnectionFailure}
use Rattle.iox_domain.specs.DomainValues.declared.data_segment.AllocationStrategy.{AllocationStrategy}
use Rattle.iox_domain.specs.DomainValues.declared.degradation.DegradationAction.{DegradationAction}
use Rattle.iox_domain.specs.DomainValues.declared.degradation.DegradationInfo.{DegradationInfo}
use Rattle.iox_domain.specs.DomainValues.declared.port_error.LoanError.{LoanError}
use Rattle.iox_domain.specs.DomainValues.Sequences.{next_sequence, is_used_up}
use Rattle.iox_domain.specs.DomainValues.declared.port_error.SendError.{SendError}
use Rattle.iox_domain.specs.DomainValues.declared.port_error.SendError.TheVariants as sending
use Rattle.iox_domain.specs.DomainSlots.Uses.{nobody}
use Rattle.iox_domain.specs.DomainPorts.Messages.{Message, Loan}
use Rattle.iox_domain.specs.DomainPorts.MessagesSending.{opened_for, is_written_at}
use Rattle.iox_domain.proofs.DomainPorts.Finding.{at_place}
use Rattle.iox_domain.specs.DomainPorts.Lengths.{extent}
use Rattle.iox_domain.specs.DomainPorts.Loaning.{with_sender, LendsHere, LendsInNew, LendsBeyond, LendsWhere, LendsUnless, LoansIf}
use Rattle.iox_domain.specs.DomainPorts.Loaning.{first_refusal}
use Rattle.iox_domain.specs.DomainPorts.Progress.{tried_again}
use Rattle.iox_domain.specs.DomainPorts.Sending.{Finishes, with_progress, ready_at, ready_loan, begun_by, begun_at, dropped_at}
use Rattle.iox_domain.specs.DomainPorts.Sending.{SendsAfter, SendsStanding, SendsIf, Sends}
use Rattle.iox_domain.specs.DomainPorts.Writing.{changed_if, place_of, given_up_at, given_up, loan_of}
use Rattle.iox_domain.specs.DomainPorts.declared.meeting.Sent.{Sent}
use Rattle.iox_domain.specs.DomainPorts.declared.meeting.Sent.TheVariants as sent
use Rattle.iox_domain.specs.DomainPorts.declared.publisher_port.PublisherPort.{PublisherPort}
use Rattle.iox_domain.specs.DomainPorts.declared.subscriber_entry.SubscriberEntry.{SubscriberEntry}
use Rattle.iox_domain.specs.Lending.{LoansOne}
use Rattle.iox_domain.specs.Lending as lending
use Rattle.iox_domain.specs.PortsPublishing.{is_blocked, is_free, UpdatesOne, SendsOne, RetriesOne, GivesUpOne}
use Rattle.iox_domain.specs.PortsPublishing as publishing
use Rattle.iox_domain.specs.Rolls.{RollState}
use Rattle.iox_domain.specs.PortLawsLaws.{IsListApart, IsTiedWell, AreTiesApart}
use Rattle.iox_domain.specs.Order.{has_begun, message_of}
use Rattle.iox_domain.proofs.Booked.{steady_alike, PortBooks, steady_port}
use Rattle.iox_domain.proofs.Books.{Books, Missing, books_still, still_is, still_same, leads_same, begun_books, finishes_books}
use Rattle.iox_domain.proofs.Books.{given_up_books}
use Rattle.iox_domain.proofs.Followed.{Updated, updates_books}
use Rattle.iox_domain.proofs.TiedUpdates.{updates_well}
use Rattle.iox_domain.proofs.WellKept.{told_same}

-- what is kept of a publisher that sent so much more
pub record PortSends {T U : Type 0} (index subscriber : ℕ) (more : List (Message T U)) (old new : PublisherPort T U) : Type 0 where
  pub keeps : (sent taken : List (Message T U)) → Books index subscriber sent taken old → Missing index subscriber sent taken old
      → Books index subscriber (sent ++ more) taken new

more_none : {T U : Type 0} (index subscriber : ℕ) (sent taken more : List (Message T U)) (port : PublisherPort T U) → more ≡ []
    → Books index subscriber sent taken port → Books index subscriber (sent ++ more) taken port
more_none {T} {U} index subscriber sent taken more port none books
    = subst (λ (all : List (Message T U)). Books index subscriber all taken port) (sym (ap (λ all. sent ++ all) none ∙ append-nil sent))
    books

pub sends_none : {T U : Type 0} (index subscriber : ℕ) (more : List (Message T U)) (old new : PublisherPort T U) → more ≡ []
    → PortBooks index subscriber old new → PortSends index subscriber more old new
sends_none index subscriber more old new none books
    = record {
      keeps = λ sent taken kept missing. more_none index subscriber sent taken more new none
          (books.keeps sent taken kept missing).0;
    }

-- a loan
record Quiet {T U : Type 0} (old new : PublisherPort T U) : Type 0 where
  connections : new.sender.uses.connections ≡ old.sender.uses.connections
  readers : new.readers ≡ old.readers
  sending : new.sender.uses.sending ≡ old.sender.uses.sending
  history : new.sender.uses.history ≡ old.sender.uses.history
  sequence : new.last_sequence ≡ old.last_sequence
  stands : new.stands ≡ old.stands
  place : new.progress.place ≡ old.progress.place
  ties : new.ties ≡ old.ties

quiet_is : {T U : Type 0} (old new : PublisherPort T U) → new ≡ old → Quiet old new
quiet_is old new is = record {
  connections = ap (λ port. port.sender.uses.connections) is;
  readers = ap (λ port. port.readers) is;
  sending = ap (λ port. port.sender.uses.sending) is;
  history = ap (λ port. port.sender.uses.history) is;
  sequence = ap (λ port. port.last_sequence) is;
  stands = ap (λ port. port.stands) is;
  place = ap (λ port. port.progress.place) is;
  ties = ap (λ port. port.ties) is;
}

quiet_port : {T U : Type 0} (index subscriber : ℕ) (old new : PublisherPort T U) → Quiet old new → PortBooks index subscriber old new
quiet_port index subscriber old new quiet
    = steady_port index subscriber old new
    (steady_alike index subscriber old new quiet.sending quiet.history quiet.sequence quiet.stands quiet.place
    quiet.ties
    (leads_same index subscriber old new quiet.connections quiet.readers) (ap (λ all. (get_or all index nobody).waiting) quiet.connections))

quiet_lends : {T U : Type 0} (values elements : ℕ) (old new : PublisherPort T U) (answer : Result ℕ LoanError)
    → LendsHere values elements old answer new → Quiet old new
quiet_lends values elements old new (Ok slot) lends = record {
  connections = ap (λ sender. sender.uses.connections) lends.0.3;
  readers = ap (λ port. port.readers) lends.1;
  sending = ap (λ sender. sender.uses.sending) lends.0.3;
  history = ap (λ sender. sender.uses.history) lends.0.3;
  sequence = ap (λ port. port.last_sequence) lends.1;
  stands = ap (λ port. port.stands) lends.1;
  place = ap (λ port. port.progress.place) lends.1;
  ties = ap (λ port. port.ties) lends.1;
}
quiet_lends values elements old new (Err error) lends = record {
  connections = ap (λ sender. sender.uses.connections) lends.1.1;
  readers = ap (λ port. port.readers) lends.2;
  sending = ap (λ sender. sender.uses.sending) lends.1.1;
  history = ap (λ sender. sender.uses.history) lends.1.1;
  sequence = ap (λ port. port.last_sequence) lends.2;
  stands = ap (λ port. port.stands) lends.2;
  place = ap (λ port. port.progress.place) lends.2;
  ties = ap (λ port. port.ties) lends.2;
}

quiet_new : {T U : Type 0} (room values elements : ℕ) (old new : PublisherPort T U) (answer : Result ℕ LoanError)
    → LendsInNew room values elements old answer new → Quiet old new
quiet_new {T} {U} room values elements old new answer (inl lends) =
    let opened : PublisherPort T U = with_sender (opened_for room old.sender) old in
    let all : Quiet opened new = quiet_lends values elements opened new answer lends in
    record {
      connections = all.connections;
      readers = all.readers;
      sending = all.sending;
      history = all.history;
      sequence = all.sequence;
      stands
          = all.stands;
      place = all.place;
      ties = all.ties;
    }
quiet_new room values elements old new answer (inr lacks) = quiet_is old new lacks.1

quiet_beyond : {T U : Type 0} (room : Option ℕ) (more : Bool) (values elements : ℕ) (old new : PublisherPort T U)
    (answer : Result ℕ LoanError) → LendsBeyond room more values elements old answer new → Quiet old new
quiet_beyond None more values elements old new answer lends = quiet_is old new lends.1
quiet_beyond (Some room) false values elements old new answer lends = quiet_is old new lends.1
quiet_beyond (Some room) true values elements old new answer lends = quiet_new room values elements old new answer lends

quiet_where : {T U : Type 0} (fits : Bool) (allocation : AllocationStrategy) (values elements : ℕ) (old new : PublisherPort T U)
    (answer : Result ℕ LoanError) → LendsWhere fits allocation values elements old answer new → Quiet old new
quiet_where true allocation values elements old new answer lends = quiet_lends values elements old new answer lends
quiet_where false allocation values elements old new answer lends
    = quiet_beyond lends.0 (nat_lt old.sender.segments old.sender.most_segments) values elements old new answer lends.2

quiet_unless : {T U : Type 0} (refused : Option LoanError) (allocation : AllocationStrategy) (values elements : ℕ)
    (old new : PublisherPort T U) (answer : Result ℕ LoanError) → LendsUnless refused allocation values elements old answer new
    → Quiet old new
quiet_unless (Some error) allocation values elements old new answer lends = quiet_is old new lends.1
quiet_unless None allocation values elements old new answer lends
    = quiet_where (nat_le (extent old.unit values elements) old.sender.room) allocation values elements old new answer lends

quiet_if : {T U : Type 0} (sending : Bool) (allocation : AllocationStrategy) (values elements : ℕ) (old new : PublisherPort T U)
    (answer : Option (Result ℕ LoanError)) → LoansIf sending allocation values elements old answer new → Quiet old new
quiet_if true allocation values elements old new answer loans = quiet_is old new loans.1
quiet_if false allocation values elements old new answer loans
    = quiet_unless (first_refusal allocation values elements old) allocation values elements old new loans.0 loans.2

quiet_one : {T U : Type 0} (stands : Bool) (values elements : ℕ) (old new : PublisherPort T U) (answer : Option (Result ℕ LoanError))
    → lending.LoansIf stands values elements old answer new → Quiet old new
quiet_one false values elements old new answer loans = quiet_is old new loans.1
quiet_one true values elements old new answer loans
    = quiet_if (is_some old.sender.uses.sending) old.allocation values elements old new answer loans

pub port_loans : {T U : Type 0} (index subscriber values elements : ℕ) (old new : PublisherPort T U)
    (answer : Option (Result ℕ LoanError)) → LoansOne values elements old answer new → PortBooks index subscriber old new
port_loans index subscriber values elements old new answer loans
    = quiet_port index subscriber old new (quiet_one old.stands values elements old new answer loans)

-- what lies in a loan is written, or it is given up
pub port_changed : {T U : Type 0} (index subscriber : ℕ) (allowed : Bool) (slot : ℕ) (change : Loan T U → Loan T U)
    (port : PublisherPort T U) → PortBooks index subscriber port (changed_if allowed slot change port)
port_changed index subscriber true slot change port
    = quiet_port index subscriber port _
    (record {
      connections = refl;
      readers = refl;
      sending = refl;
      history = refl;
      sequence = refl;
      stands = refl;
      place = refl;
      ties = refl;
    })
port_changed index subscriber false slot change port = quiet_port index subscriber port port (quiet_is port port refl)

given_up_at_books : {T U : Type 0} (index subscriber : ℕ) (at : Option ℕ) (port : PublisherPort T U)
    → PortBooks index subscriber port (given_up_at at port)
given_up_at_books index subscriber None port = quiet_port index subscriber port port (quiet_is port port refl)
given_up_at_books index subscriber (Some at) port
    = quiet_port index subscriber port (dropped_at at port)
    (record {
      connections = refl;
      readers = refl;
      sending = refl;
      history = refl;
      sequence = refl;
      stands = refl;
      place = refl;
      ties = refl;
    })

pub port_given_up : {T U : Type 0} (index subscriber slot : ℕ) (port : PublisherPort T U)
    → PortBooks index subscriber port (given_up slot port)
port_given_up index subscriber slot port = given_up_at_books index subscriber (place_of slot port) port

-- an update
both_true : (a b : Bool) → a && b ≡ true → (a ≡ true) × (b ≡ true)
both_true true b is = (refl, is)
both_true false b is = cc

not_some : {X : Type 0} (found : Option X) → not (is_some found) ≡ true → found ≡ None
not_some None is = refl
not_some (Some x) is = cc

update_if : {T U : Type 0} (next : ℕ) (list : RollState SubscriberEntry) (index subscriber : ℕ) (free : Bool)
    (may : DegradationInfo → DegradationAction → Type 0) (old new : PublisherPort T U) (value : Result (Unit {0}) ConnectionFailure)
    → IsListApart next list.places
    → (old.stands ≡ true → IsTiedWell next list.places old) → is_free old ≡ free
    → publishing.UpdatesIf free may list old (Some value) new → PortSends index subscriber [] old new
update_if next list index subscriber false may old new value apart well free updates = let no : Some value ≡ None = updates.0 in absurd (cc)
update_if next list index subscriber true may old new value apart well free updates =
    let (listed, is_list, outcome, update, is_answer) = updates in
    let is_free = both_true old.stands (not (is_blocked old)) free in
    record {
      keeps = λ sent taken books missing. more_none index subscriber sent taken [] new refl
          (updates_books next list.places index subscriber sent taken may listed list.changes old new outcome apart
          (told_same listed list is_list) (well is_free.0) is_free.0 (not_some old.sender.uses.sending is_free.1) update books
          missing).books;
    }

pub port_updates : {T U : Type 0} (next : ℕ) (list : RollState SubscriberEntry) (index subscriber : ℕ)
    (may : DegradationInfo → DegradationAction → Type 0) (old new : PublisherPort T U) (value : Result (Unit {0}) ConnectionFailure)
    → IsListApart next list.places
    → (old.stands ≡ true → IsTiedWell next list.places old) → UpdatesOne may list old (Some value) new
    → PortSends index subscriber [] old new
port_updates next list index subscriber may old new value apart well updates
    = update_if next list index subscriber (is_free old) may old new value apart well refl updates

-- a send is tried again, or given up
retry_if : {T U : Type 0} (index subscriber : ℕ) (blocked : Bool) (decide : BackpressureInfo → BackpressureDecision → Type 0)
    (elapsed : ℕ) (old new : PublisherPort T U) (value : Result Sent SendError) → (old.stands ≡ true → AreTiesApart old)
    → is_blocked old ≡ blocked
    → publishing.RetriesIf blocked decide elapsed old (Some value) new → PortSends index subscriber [] old new
retry_if index subscriber false decide elapsed old new value apart blocked retries = let no : Some value ≡ None = retries.0 in absurd (cc)
retry_if {T} {U} index subscriber true decide elapsed old new value apart blocked retries =
    let again : PublisherPort T U = with_progress (tried_again elapsed old.progress) old in
    let (outcome, finishes, is_answer) = retries in
    record {
      keeps = λ sent taken books missing. more_none index subscriber sent taken [] new refl
          (finishes_books index subscriber sent taken decide again new outcome (apart (stands old.stands refl books.left))
          finishes (books_still index subscriber sent taken old again
          (still_same index subscriber old again refl refl refl refl refl refl refl refl) books));
    }
  where
    stands : (is : Bool) → old.stands ≡ is → (old.stands ≡ false → old.sender.uses.sending ≡ None) → old.stands ≡ true
    stands true is left = is
    stands false is left = let no : false ≡ true = sym (ap (λ found. is_some found) (left is)) ∙ blocked in absurd (cc)

pub port_retries : {T U : Type 0} (index subscriber : ℕ) (decide : BackpressureInfo → BackpressureDecision → Type 0) (elapsed : ℕ)
    (old new : PublisherPort T U) (value : Result Sent SendError) → (old.stands ≡ true → AreTiesApart old)
    → RetriesOne decide elapsed old (Some value) new → PortSends index subscriber [] old new
port_retries index subscriber decide elapsed old new value apart retries
    = retry_if index subscriber (is_blocked old) decide elapsed old new value apart refl retries

gives_up_if : {T U : Type 0} (index subscriber : ℕ) (blocked : Bool) (old new : PublisherPort T U) (value : ℕ)
    → publishing.GivesUpIf blocked old (Some value) new → PortSends index subscriber [] old new
gives_up_if index subscriber false old new value gives = let no : Some value ≡ None = gives.0 in absurd (cc)
gives_up_if index subscriber true old new value gives = record {
  keeps = λ sent taken books missing. more_none index subscriber sent taken [] new refl
      (books_still index subscriber sent taken _ new (still_is index subscriber _ new gives.1)
      (given_up_books index subscriber sent taken old books));
}

pub port_gives_up : {T U : Type 0} (index subscriber : ℕ) (old new : PublisherPort T U) (value : ℕ) → GivesUpOne old (Some value) new
    → PortSends index subscriber [] old new
port_gives_up index subscriber old new value gives = gives_up_if index subscriber (is_blocked old) old new value gives

-- a send
begun_more : {T U : Type 0} (index subscriber : ℕ) (sent taken : List (Message T U)) (at : ℕ) (loan : Option (Loan T U))
    (port : PublisherPort T U) → port.stands ≡ true → Books index subscriber sent taken port
    → Books index subscriber (sent ++ message_of (next_sequence port.last_sequence) loan) taken (begun_by at loan port)
begun_more index subscriber sent taken at None port stands books = more_none index subscriber sent taken [] port refl books
begun_more index subscriber sent taken at (Some loan) port stands books = begun_books index subscriber sent taken at loan port stands books

begun_apart : {T U : Type 0} (at : ℕ) (loan : Option (Loan T U)) (port : PublisherPort T U) → AreTiesApart port
    → AreTiesApart (begun_by at loan port)
begun_apart at None port apart = apart
begun_apart at (Some loan) port apart = apart

-- the answer of a send that began says so
begun_answer : {T U : Type 0} (decide : BackpressureInfo → BackpressureDecision → Type 0) (old new : PublisherPort T U)
    (answer : Result Sent SendError) → Finishes decide old answer new → has_begun (Some answer) ≡ true
begun_answer decide old new answer finishes =
    let (arrived, gone, delivers, is_answer, is_new) = finishes in
    ap (λ one. has_begun (Some one)) is_answer ∙ by_case arrived gone.progress.fails gone.progress.delivered
  where
    by_case : (arrived fails : Bool) (delivered : ℕ)
        → has_begun (Some (if arrived then (if fails then Err sending.UnableToDeliver else Ok (sent.Delivered delivered)) else Ok
        sent.Blocked)) ≡ true
    by_case true true delivered = refl
    by_case true false delivered = refl
    by_case false fails delivered = refl

-- what a send that answers so makes of its loan, with this number
abbrev pub sent_so : {T U : Type 0} → Option ℕ → Option (Result Sent SendError) → Option (Loan T U) → List (Message T U)
sent_so sequence answer loan = if has_begun answer then message_of sequence loan else []

so_none : {T U : Type 0} (sequence : Option ℕ) (answer : Option (Result Sent SendError)) (loan : Option (Loan T U))
    → has_begun answer ≡ false → sent_so sequence answer loan ≡ []
so_none sequence answer loan off = ap (λ b. if b then message_of sequence loan else []) off

so_all : {T U : Type 0} (sequence : Option ℕ) (answer : Option (Result Sent SendError)) (loan : Option (Loan T U))
    → has_begun answer ≡ true → sent_so sequence answer loan ≡ message_of sequence loan
so_all sequence answer loan on = ap (λ b. if b then message_of sequence loan else []) on

dropped_books : {T U : Type 0} (index subscriber : ℕ) (all taken : List (Message T U)) (at : ℕ) (port new : PublisherPort T U)
    → new ≡ dropped_at at port → Books index subscriber all taken port → Books index subscriber all taken new
dropped_books index subscriber all taken at port new is books =
    books_still index subscriber all taken (dropped_at at port) new (still_is index subscriber (dropped_at at port) new is)
    (books_still index subscriber all taken port (dropped_at at port)
    (still_same index subscriber port (dropped_at at port) refl refl refl refl refl refl refl refl) books)

-- a send that is refused gives its loan up, and nothing is sent
refused_sends : {T U : Type 0} (index subscriber at : ℕ) (old new : PublisherPort T U) (value : Result Sent SendError)
    (loan : Option (Loan T U)) → has_begun (Some value) ≡ false → new ≡ dropped_at at old
    → PortSends index subscriber (sent_so (next_sequence old.last_sequence) (Some value) loan) old new
refused_sends index subscriber at old new value loan off is = record {
  keeps = λ all taken books missing. more_none index subscriber all taken
      (sent_so (next_sequence old.last_sequence) (Some value) loan) new
      (so_none (next_sequence old.last_sequence) (Some value) loan off) (dropped_books index subscriber all taken at old new is books);
}

sends_after : {T U : Type 0} (index subscriber : ℕ) (all taken : List (Message T U))
    (decide : BackpressureInfo → BackpressureDecision → Type 0) (at : ℕ) (outcome : Result (Unit {0}) ConnectionFailure)
    (updated new : PublisherPort T U) (value : Result Sent SendError) (loan : Option (Loan T U)) (last : Option ℕ)
    → slice_get updated.sender.uses.loans at ≡ loan → updated.last_sequence ≡ last → updated.stands ≡ true → AreTiesApart updated
    → SendsAfter decide at outcome updated (Some value) new → Books index subscriber all taken updated
    → Books index subscriber (all ++ sent_so (next_sequence last) (Some value) loan) taken new
sends_after index subscriber all taken decide at (Err failure) updated new value loan last is_loan is_last stands apart sends books =
    more_none index subscriber all taken (sent_so (next_sequence last) (Some value) loan) new
    (so_none (next_sequence last) (Some value) loan (ap has_begun sends.0))
    (dropped_books index subscriber all taken at updated new sends.1 books)
sends_after {T} {U} index subscriber all taken decide at (Ok done) updated new value loan last is_loan is_last stands apart
    (finished, finishes, is_answer) books =
    let begun : PublisherPort T U = begun_by at loan updated in
    let same : begun_at at updated ≡ begun = ap (λ found. begun_by at found updated) is_loan in
    let goes : Finishes decide begun finished new = subst (λ (port : PublisherPort T U). Finishes decide port finished new) same finishes in
    let sequence : Option ℕ = next_sequence updated.last_sequence in
    let finished_books : Books index subscriber (all ++ message_of sequence loan) taken new =
    finishes_books index subscriber (all ++ message_of sequence loan) taken decide begun new finished
    (begun_apart at loan updated apart) goes
    (begun_more index subscriber all taken at loan updated stands books) in
    let on : has_begun (Some value) ≡ true = ap has_begun is_answer ∙ begun_answer decide begun new finished goes in
    let more : sent_so (next_sequence last) (Some value) loan ≡ message_of sequence loan =
    so_all (next_sequence last) (Some value) loan on ∙ ap (λ number. message_of (next_sequence number) loan) (sym is_last) in
    subst (λ (more : List (Message T U)). Books index subscriber (all ++ more) taken new) (sym more) finished_books

sends_standing : {T U : Type 0} (next : ℕ) (list : RollState SubscriberEntry) (index subscriber : ℕ) (used : Bool)
    (may_degrade : DegradationInfo → DegradationAction → Type 0) (decide : BackpressureInfo → BackpressureDecision → Type 0)
    (listed : List (Option (Member SubscriberEntry))) (at : ℕ)
    (old new : PublisherPort T U) (value : Result Sent SendError) (loan : Option (Loan T U)) → IsListApart next list.places
    → (old.stands ≡ true → IsTiedWell next list.places old)
    → ((place : ℕ) → get_or list.places place None ≡ get_or listed place None) → old.stands ≡ true
    → old.sender.uses.sending ≡ None → slice_get old.sender.uses.loans at ≡ loan
    → SendsStanding used may_degrade decide listed list.changes at old (Some value) new
    → PortSends index subscriber (sent_so (next_sequence old.last_sequence) (Some value) loan) old new
sends_standing next list index subscriber true may_degrade decide listed at old new value loan apart well told stands silent is_loan sends
    = refused_sends index subscriber at old new value loan (ap has_begun sends.0) sends.1
sends_standing {T} {U} next list index subscriber false may_degrade decide listed at old new value loan apart well told stands silent
    is_loan (outcome, updated, update, after) =
    let done = updates_well next list.places may_degrade listed list.changes old updated outcome apart (λ k within. told k)
    (well stands) update in
    record {
      keeps = λ all taken books missing.
          let kept : Updated index subscriber all taken old updated
          = updates_books next list.places index subscriber all taken may_degrade listed list.changes old updated outcome apart told
          (well stands) stands silent update books missing in
          sends_after index subscriber all taken decide at outcome updated new value loan old.last_sequence
          (ap (λ loans. slice_get loans at) kept.loans ∙ is_loan) kept.sequence (done.0 ∙ stands) done.1.apart after kept.books;
    }

sends_if : {T U : Type 0} (next : ℕ) (list : RollState SubscriberEntry) (index subscriber : ℕ) (stands : Bool)
    (may_degrade : DegradationInfo → DegradationAction → Type 0) (decide : BackpressureInfo → BackpressureDecision → Type 0)
    (listed : List (Option (Member SubscriberEntry))) (at : ℕ)
    (old new : PublisherPort T U) (value : Result Sent SendError) (loan : Option (Loan T U)) → IsListApart next list.places
    → (old.stands ≡ true → IsTiedWell next list.places old)
    → ((place : ℕ) → get_or list.places place None ≡ get_or listed place None) → old.stands ≡ stands
    → old.sender.uses.sending ≡ None → slice_get old.sender.uses.loans at ≡ loan
    → SendsIf stands may_degrade decide listed list.changes at old (Some value) new
    → PortSends index subscriber (sent_so (next_sequence old.last_sequence) (Some value) loan) old new
sends_if next list index subscriber false may_degrade decide listed at old new value loan apart well told stands silent is_loan sends
    = refused_sends index subscriber at old new value loan (ap has_begun sends.0) sends.1
sends_if next list index subscriber true may_degrade decide listed at old new value loan apart well told stands silent is_loan sends =
    sends_standing next list index subscriber (is_used_up old.last_sequence) may_degrade decide listed at old new value loan apart well
    told stands silent is_loan sends

-- a loan that may be sent is the one in its slot, and nothing is being sent
ready_is : {T U : Type 0} (slot : ℕ) (place : Option ℕ) (at : ℕ) (port : PublisherPort T U)
    → position (λ loan. loan.slot == slot) port.sender.uses.loans ≡ place → ready_at place port ≡ Some at
    → (position (λ loan. loan.slot == slot) port.sender.uses.loans ≡ Some at) × (port.sender.uses.sending ≡ None)
ready_is slot None at port is ready = let no : None ≡ Some at = ready in absurd (cc)
ready_is slot (Some first) at port is ready = by_case port.sender.uses.sending refl (not (is_written_at first port.sender.uses)) ready
  where
    by_case : (sending : _) → port.sender.uses.sending ≡ sending → (unwritten : Bool)
        → (if is_some sending || unwritten then None else Some first) ≡ Some at
        → (position (λ loan. loan.slot == slot) port.sender.uses.loans ≡ Some at) × (port.sender.uses.sending ≡ None)
    by_case (Some message) sends unwritten ready = let no : None ≡ Some at = ready in absurd (cc)
    by_case None sends true ready = let no : None ≡ Some at = ready in absurd (cc)
    by_case None sends false ready = (is ∙ ready, sends)

sends_ready : {T U : Type 0} (next : ℕ) (list : RollState SubscriberEntry) (index subscriber : ℕ) (ready : Option ℕ)
    (may_degrade : DegradationInfo → DegradationAction → Type 0) (decide : BackpressureInfo → BackpressureDecision → Type 0)
    (listed : List (Option (Member SubscriberEntry))) (slot : ℕ)
    (old new : PublisherPort T U) (value : Result Sent SendError) → IsListApart next list.places
    → (old.stands ≡ true → IsTiedWell next list.places old)
    → ((place : ℕ) → get_or list.places place None ≡ get_or listed place None) → ready_loan slot old ≡ ready
    → Sends may_degrade decide listed list.changes ready old (Some value) new
    → PortSends index subscriber (sent_so (next_sequence old.last_sequence) (Some value) (loan_of slot old)) old new
sends_ready next list index subscriber None may_degrade decide listed slot old new value apart well told ready sends
    = let no : Some value ≡ None = sends.0 in absurd (cc)
sends_ready next list index subscriber (Some at) may_degrade decide listed slot old new value apart well told ready sends =
    let tells = ready_is slot (position (λ loan. loan.slot == slot) old.sender.uses.loans) at old refl ready in
    sends_if next list index subscriber old.stands may_degrade decide listed at old new value (loan_of slot old) apart well told refl
    tells.1 (at_place (λ loan. loan.slot == slot) old.sender.uses.loans at (sym tells.0)) sends

pub port_sends : {T U : Type 0} (next : ℕ) (list : RollState SubscriberEntry) (index subscriber : ℕ)
    (may_degrade : DegradationInfo → DegradationAction → Type 0) (decide : BackpressureInfo → BackpressureDecision → Type 0) (slot : ℕ)
    (old new : PublisherPort T U) (value : Result Sent SendError)
    → IsListApart next list.places → (old.stands ≡ true → IsTiedWell next list.places old)
    → SendsOne may_degrade decide list slot old (Some value) new
    → PortSends index subscriber (sent_so (next_sequence old.last_sequence) (Some value) (loan_of slot old)) old new
port_sends next list index subscriber may_degrade decide slot old new value apart well sends =
    sends_ready next list index subscriber (ready_loan slot old) may_degrade decide sends.0 slot old new value apart well
    (told_same sends.0 list sends.1) refl sends.2
