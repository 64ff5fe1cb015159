-- Values that are put: their loan may be sent once they are written, and their publisher exists as before.
use Rattle.std.proofs.Common.{◌≡◌, ◌==◌, ◌&&◌, ◌∙◌, ℕ, Bool, true, false, not, List, length, replicate, nat_lt, nat_le, is_some, Option}
use Rattle.std.proofs.Common.{None, Some, IsSome, Result, Ok, Err, refl, sym, ap}
use Rattle.std.specs.BTreeMap.{is_at}
use Rattle.std.specs.List.{find}
use Rattle.std.specs.Ordering.{nat_cmp}
use Rattle.std.specs.Prelude.{slice_get}
use Rattle.std.proofs.Math.Dec.{eqb}
use Rattle.std.proofs.Math.Logic.{⊎_elim}
use Rattle.std.proofs.lemmas.List.{length-replicate}
use Rattle.iox_domain.specs.Container.declared.container.Member.{Member}
use Rattle.iox_domain.specs.DomainValues.Sequences.{is_used_up}
use Rattle.iox_domain.specs.DomainValues.declared.backpressure.BackpressureDecision.{BackpressureDecision}
use Rattle.iox_domain.specs.DomainValues.declared.backpressure.BackpressureInfo.{BackpressureInfo}
use Rattle.iox_domain.specs.DomainValues.declared.connection_failure.ConnectionFailure.{ConnectionFailure}
use Rattle.iox_domain.specs.DomainValues.declared.data_segment.AllocationStrategy.{AllocationStrategy}
use Rattle.iox_domain.specs.DomainValues.declared.degradation.DegradationAction.{DegradationAction}
use Rattle.iox_domain.specs.DomainValues.declared.degradation.DegradationInfo.{DegradationInfo}
use Rattle.iox_domain.specs.DomainValues.declared.port_error.LoanError.{LoanError}
use Rattle.iox_domain.specs.DomainValues.declared.port_error.SendError.{SendError}
use Rattle.iox_domain.specs.DomainPorts.Messages.{Loan, new_loan, write_all}
use Rattle.iox_domain.specs.DomainPorts.MessagesSending.{has_length, is_written_loan, opened_for}
use Rattle.iox_domain.proofs.DomainPorts.Lent.{loan_tells}
use Rattle.iox_domain.specs.DomainPorts.Lengths.{extent}
use Rattle.iox_domain.specs.DomainPorts.Loaning.{with_sender, first_refusal, LendsHere, LendsBeyond, LendsWhere, LendsUnless, Loans}
use Rattle.iox_domain.specs.DomainPorts.Loaning as loaning
use Rattle.iox_domain.specs.DomainPorts.Sending.{ready_loan, begun_at, begun_by, Sends, SendsStanding, SendsIf, SendsAfter}
use Rattle.iox_domain.specs.DomainPorts.Writing.{loan_of, changed_if, changed_there}
use Rattle.iox_domain.specs.DomainPorts.declared.meeting.Sent.{Sent}
use Rattle.iox_domain.specs.DomainPorts.declared.publisher_port.PublisherPort.{PublisherPort}
use Rattle.iox_domain.specs.DomainPorts.declared.subscriber_entry.SubscriberEntry.{SubscriberEntry}
use Rattle.iox_domain.specs.DomainPorts.Publishers.{port_of, with_port}
use Rattle.iox_domain.proofs.Numbered.{same_set}
use Rattle.iox_domain.proofs.Allowing.{updates_allows, finishes_allows}
use Rattle.iox_domain.proofs.Lent.{stays_if, free_slot, found_last, same_number, one_passes, found_changed, all_written, still_there}
use Rattle.iox_domain.proofs.Lent.{ready_there, none_ready}
use Rattle.iox_domain.proofs.Lifting.{at_publisher, at_publisher-none}
use Rattle.iox_domain.specs.Lending.{LoansIf}
use Rattle.iox_domain.specs.Ports.{AtPublisher}
use Rattle.iox_domain.specs.PortsPublishing.{is_blocked, is_free, SendsOne}
use Rattle.iox_domain.specs.Putting.{with_values, PutsValues, PutsIf, PutsOne}
use Rattle.iox_domain.specs.Rolls.{RollState}
use Rattle.iox_domain.specs.declared.ports.service_ports.ServicePorts.{ServicePorts}

-- a loan of n values has n
as_many : (T : Type 0) (n : ℕ) → eqb n (length (replicate {A = Option T} n None)) ≡ true
as_many T n = rw (length-replicate {A = Option T} n None) (same_number n)

-- a fresh loan of which all values are written may be sent
pub put_is_ready : {T U : Type 0} (allocation : AllocationStrategy) (values : List T) (slot : ℕ) (old lender : PublisherPort T U)
    → Loans allocation (length values) (length values) old (Some (Ok slot)) lender
    → ready_loan slot (with_values slot values lender) ≡ None → ⊥
put_is_ready {T} {U} allocation values slot old lender loans none =
    let tells = loan_tells allocation (length values) (length values) old lender (Some (Ok slot)) loans in
    let lent = tells.2 in
    let stays = stays_if (is_some old.sender.uses.sending) allocation (length values) (length values) slot old lender loans in
    let loan = new_loan slot (length values) (length values) old.sender.user_header in
    let there : find (λ one. one.slot == slot) lender.sender.uses.loans ≡ Some loan =
    ap (λ loans. find (λ one. one.slot == slot) loans) lent.loan
    ∙ found_last (λ one. one.slot == slot) old.sender.uses.loans loan (free_slot slot old.sender lent.free) (same_number slot) in
    let any : has_length slot (length values) lender.sender.uses ≡ true =
    one_passes slot (λ one. eqb (length values) (length one.values)) lender.sender.uses.loans loan there (as_many T (length values)) in
    let is : with_values slot values lender ≡ changed_there slot (write_all values) lender = rw any refl in
    let written : loan_of slot (with_values slot values lender) ≡ Some (write_all values loan) =
    ap (loan_of slot) is ∙ found_changed slot (write_all values) lender.sender.uses.loans loan (λ one. refl) there in
    let free : is_blocked (with_values slot values lender) ≡ false = ap is_blocked is ∙ ap is_some (stays.sending ∙ tells.0) in
    ready_there slot (with_values slot values lender) _ refl (ap is_written_loan written ∙ all_written values) free none

-- and so it is sent
pub put_sends : {T U : Type 0} (may_degrade : DegradationInfo → DegradationAction → Type 0)
    (may : BackpressureInfo → BackpressureDecision → Type 0) (list : RollState SubscriberEntry)
    (allocation : AllocationStrategy) (values : List T) (slot : ℕ) (old lender after : PublisherPort T U)
    → Loans allocation (length values) (length values) old (Some (Ok slot)) lender
    → SendsOne may_degrade may list slot (with_values slot values lender) None after → ⊥
put_sends may_degrade may list allocation values slot old lender after loans sends =
    put_is_ready allocation values slot old lender loans
    (none_ready may_degrade may sends.0 list.changes (ready_loan slot (with_values slot values lender))
    (with_values slot values lender) after sends.2)

-- a publisher that lends, or is refused, exists as before
here_stands : {T U : Type 0} (values elements : ℕ) (old : PublisherPort T U) (answer : Result ℕ LoanError) (new : PublisherPort T U)
    → LendsHere values elements old answer new → new.stands ≡ old.stands
here_stands values elements old (Ok slot) new lends = ap (λ port. port.stands) lends.1
here_stands values elements old (Err error) new lends = ap (λ port. port.stands) lends.2

beyond_stands : {T U : Type 0} (room : Option ℕ) (more : Bool) (values elements : ℕ) (old : PublisherPort T U)
    (answer : Result ℕ LoanError) (new : PublisherPort T U)
    → LendsBeyond room more values elements old answer new → new.stands ≡ old.stands
beyond_stands None more values elements old answer new lends = ap (λ port. port.stands) lends.1
beyond_stands (Some room) false values elements old answer new lends = ap (λ port. port.stands) lends.1
beyond_stands (Some room) true values elements old answer new lends = ⊎_elim
    (λ made. here_stands values elements (with_sender (opened_for room old.sender) old) answer new made)
    (λ lacks. ap (λ port. port.stands) lacks.1)
    lends

where_stands : {T U : Type 0} (fits : Bool) (allocation : AllocationStrategy) (values elements : ℕ) (old : PublisherPort T U)
    (answer : Result ℕ LoanError) (new : PublisherPort T U)
    → LendsWhere fits allocation values elements old answer new → new.stands ≡ old.stands
where_stands true allocation values elements old answer new lends = here_stands values elements old answer new lends
where_stands false allocation values elements old answer new lends
    = beyond_stands lends.0 (nat_lt old.sender.segments old.sender.most_segments) values elements old answer new lends.2

unless_stands : {T U : Type 0} (refusal : Option LoanError) (allocation : AllocationStrategy) (values elements : ℕ)
    (old : PublisherPort T U) (answer : Result ℕ LoanError) (new : PublisherPort T U)
    → LendsUnless refusal allocation values elements old answer new → new.stands ≡ old.stands
unless_stands (Some error) allocation values elements old answer new lends = ap (λ port. port.stands) lends.1
unless_stands None allocation values elements old answer new lends
    = where_stands (nat_le (extent old.unit values elements) old.sender.room) allocation values elements old answer new lends

loans_stands : {T U : Type 0} (waits : Bool) (allocation : AllocationStrategy) (values elements : ℕ) (old : PublisherPort T U)
    (answer : Option (Result ℕ LoanError)) (new : PublisherPort T U)
    → loaning.LoansIf waits allocation values elements old answer new → new.stands ≡ old.stands
loans_stands true allocation values elements old answer new loans = ap (λ port. port.stands) loans.1
loans_stands false allocation values elements old answer new loans
    = unless_stands (first_refusal allocation values elements old) allocation values elements old loans.0 new loans.2

pub lender_stands : {T U : Type 0} (allocation : AllocationStrategy) (values elements : ℕ) (old : PublisherPort T U)
    (answer : Option (Result ℕ LoanError)) (new : PublisherPort T U)
    → Loans allocation values elements old answer new → new.stands ≡ old.stands
lender_stands allocation values elements old answer new loans
    = loans_stands (is_some old.sender.uses.sending) allocation values elements old answer new loans

-- an open one stays open
pub lends_stand : {T U : Type 0} (values elements : ℕ) (port after : PublisherPort T U) (answer : Option (Result ℕ LoanError))
    → port.stands ≡ true → Loans port.allocation values elements port answer after → after.stands ≡ true
lends_stand values elements port after answer stands loans = lender_stands port.allocation values elements port answer after loans ∙ stands

-- and so does one that writes
pub writer_stands : {T U : Type 0} (test : Bool) (slot : ℕ) (change : Loan T U → Loan T U) (port : PublisherPort T U)
    → (changed_if test slot change port).stands ≡ port.stands
writer_stands true slot change port = refl
writer_stands false slot change port = refl

begun_stands : {T U : Type 0} (at : ℕ) (loan : Option (Loan T U)) (port : PublisherPort T U) → (begun_by at loan port).stands ≡ port.stands
begun_stands at None port = refl
begun_stands at (Some loan) port = refl

after_stands : {T U : Type 0} (may : BackpressureInfo → BackpressureDecision → Type 0) (at : ℕ)
    (outcome : Result (Unit {0}) ConnectionFailure) (updated : PublisherPort T U)
    (answer : Option (Result Sent SendError)) (new : PublisherPort T U) → SendsAfter may at outcome updated answer new
    → new.stands ≡ updated.stands
after_stands may at (Err failure) updated answer new sends = ap (λ port. port.stands) sends.1
after_stands may at (Ok done) updated answer new (finished, finishes, is) =
    ap (λ allowance. allowance.stands) (finishes_allows may (begun_at at updated) finished new finishes) ∙ begun_stands at
    (slice_get updated.sender.uses.loans at) updated

standing_stands : {T U : Type 0} (used : Bool) (may_degrade : DegradationInfo → DegradationAction → Type 0)
    (may : BackpressureInfo → BackpressureDecision → Type 0) (listed : List (Option (Member SubscriberEntry))) (changes at : ℕ)
    (old : PublisherPort T U) (answer : Option (Result Sent SendError)) (new : PublisherPort T U)
    → SendsStanding used may_degrade may listed changes at old answer new → new.stands ≡ old.stands
standing_stands true may_degrade may listed changes at old answer new sends = ap (λ port. port.stands) sends.1
standing_stands false may_degrade may listed changes at old answer new (outcome, updated, updates, after) =
    after_stands may at outcome updated answer new after ∙ ap (λ allowance. allowance.stands)
    (updates_allows may_degrade listed changes old outcome updated updates)

sends_if_stands : {T U : Type 0} (stands : Bool) (may_degrade : DegradationInfo → DegradationAction → Type 0)
    (may : BackpressureInfo → BackpressureDecision → Type 0) (listed : List (Option (Member SubscriberEntry))) (changes at : ℕ)
    (old : PublisherPort T U) (answer : Option (Result Sent SendError)) (new : PublisherPort T U)
    → SendsIf stands may_degrade may listed changes at old answer new → new.stands ≡ old.stands
sends_if_stands false may_degrade may listed changes at old answer new sends = ap (λ port. port.stands) sends.1
sends_if_stands true may_degrade may listed changes at old answer new sends
    = standing_stands (is_used_up old.last_sequence) may_degrade may listed changes at old answer new sends

sends_stands : {T U : Type 0} (may_degrade : DegradationInfo → DegradationAction → Type 0)
    (may : BackpressureInfo → BackpressureDecision → Type 0) (listed : List (Option (Member SubscriberEntry))) (changes : ℕ)
    (ready : Option ℕ)
    (old : PublisherPort T U) (answer : Option (Result Sent SendError)) (new : PublisherPort T U)
    → Sends may_degrade may listed changes ready old answer new → new.stands ≡ old.stands
sends_stands may_degrade may listed changes None old answer new sends = ap (λ port. port.stands) sends.1
sends_stands may_degrade may listed changes (Some at) old answer new sends
    = sends_if_stands old.stands may_degrade may listed changes at old answer new sends

-- and one that sends
pub sender_stands : {T U : Type 0} (may_degrade : DegradationInfo → DegradationAction → Type 0)
    (may : BackpressureInfo → BackpressureDecision → Type 0) (list : RollState SubscriberEntry) (slot : ℕ)
    (old : PublisherPort T U) (answer : Option (Result Sent SendError)) (new : PublisherPort T U)
    → SendsOne may_degrade may list slot old answer new → new.stands ≡ old.stands
sender_stands may_degrade may list slot old answer new sends
    = sends_stands may_degrade may sends.0 list.changes (ready_loan slot old) old answer new sends.2

-- a call of a publisher that exists after it, where it answers: it isn't over, so it stays
pub at_standing : {T U A : Type 0} (number : ℕ) (step : PublisherPort T U → Option A → PublisherPort T U → Type 0)
    (old new : ServicePorts T U) (port after : PublisherPort T U) (answer : Option A)
    → port_of number old.publishers ≡ Some port → step port answer after → (answer ≡ None → after ≡ port)
    → (IsSome answer → after.stands ≡ true)
    → new ≡ record old { publishers = with_port number old.publishers after }
    → AtPublisher number step (port_of number old.publishers) old answer new
at_standing number step old new port after None there steps same stands is
    = at_publisher-none number step old new port after there steps (same refl) is
at_standing number step old new port after (Some value) there steps same stands is =
    at_publisher number step old new port after value there steps
    (is ∙ ap (λ ports. record old { publishers = ports })
    (sym (still_there number (with_port number old.publishers after) after
    (same_set (is_at (nat_cmp number)) old.publishers after port there) (stands refl))))

-- a publisher that exists lends as it does
pub lends_one : {T U : Type 0} (stands : Bool) (count : ℕ) (port after : PublisherPort T U) (answer : Option (Result ℕ LoanError))
    → stands ≡ true → Loans port.allocation count count port answer after
    → LoansIf stands count count port answer after
lends_one true count port after answer is loans = loans
lends_one false count port after answer is loans = cc

-- one that lends writes the values, and sends
pub puts_sent : {T U : Type 0} (may_degrade : DegradationInfo → DegradationAction → Type 0)
    (may : BackpressureInfo → BackpressureDecision → Type 0) (list : RollState SubscriberEntry) (values : List T)
    (port lender written after : PublisherPort T U) (slot : ℕ) (sent : Result Sent SendError) → port.stands ≡ true
    → Loans port.allocation (length values) (length values) port (Some (Ok slot)) lender
    → written ≡ with_values slot values lender → SendsOne may_degrade may list slot written (Some sent) after
    → PutsValues may_degrade may list values port sent after
puts_sent may_degrade may list values port lender written after slot sent stands loans is sends =
    (Ok slot, lender, lends_one port.stands (length values) port lender (Some (Ok slot)) stands loans, rw is at sends)

-- it is sent
pub puts_answers : {T U : Type 0} (may_degrade : DegradationInfo → DegradationAction → Type 0)
    (may : BackpressureInfo → BackpressureDecision → Type 0) (list : RollState SubscriberEntry) (values : List T)
    (port lender written after : PublisherPort T U) (slot : ℕ)
    → Loans port.allocation (length values) (length values) port (Some (Ok slot)) lender
    → written ≡ with_values slot values lender → SendsOne may_degrade may list slot written None after → ⊥
puts_answers may_degrade may list values port lender written after slot loans is sends
    = put_sends may_degrade may list port.allocation values slot port lender after loans (rw is at sends)

-- and it exists after that
pub puts_stand : {T U : Type 0} (may_degrade : DegradationInfo → DegradationAction → Type 0)
    (may : BackpressureInfo → BackpressureDecision → Type 0) (list : RollState SubscriberEntry) (values : List T)
    (port lender written after : PublisherPort T U) (slot : ℕ) (answer : Option (Result Sent SendError)) → port.stands ≡ true
    → Loans port.allocation (length values) (length values) port (Some (Ok slot)) lender
    → written ≡ with_values slot values lender → SendsOne may_degrade may list slot written answer after → after.stands ≡ true
puts_stand may_degrade may list values port lender written after slot answer stands loans is sends =
    sender_stands may_degrade may list slot written answer after sends ∙ ap (λ one. one.stands) is ∙ writer_stands
    (has_length slot (length values) lender.sender.uses) slot (write_all values) lender
    ∙ lender_stands port.allocation (length values) (length values) port (Some (Ok slot)) lender loans ∙ stands

-- whether a publisher is free decides
free_both : (stands blocked : Bool) → stands ≡ true → blocked ≡ false → (stands && not blocked) ≡ true
free_both true false stands free = refl
free_both true true stands free = cc
free_both false blocked stands free = cc

puts_where : {T U : Type 0} (free : Bool) (may_degrade : DegradationInfo → DegradationAction → Type 0)
    (may : BackpressureInfo → BackpressureDecision → Type 0) (list : RollState SubscriberEntry) (values : List T)
    (port after : PublisherPort T U) (sent : Result Sent SendError) → free ≡ true
    → PutsValues may_degrade may list values port sent after → PutsIf free may_degrade may list values port (Some sent) after
puts_where true may_degrade may list values port after sent is puts = (sent, puts, refl)
puts_where false may_degrade may list values port after sent is puts = cc

pub puts_free : {T U : Type 0} (may_degrade : DegradationInfo → DegradationAction → Type 0)
    (may : BackpressureInfo → BackpressureDecision → Type 0) (list : RollState SubscriberEntry) (values : List T)
    (port after : PublisherPort T U) (sent : Result Sent SendError) → port.stands ≡ true → is_blocked port ≡ false
    → PutsValues may_degrade may list values port sent after
    → PutsOne may_degrade may list values port (Some sent) after
puts_free may_degrade may list values port after sent stands free puts =
    puts_where (is_free port) may_degrade may list values port after sent (free_both port.stands (is_blocked port) stands free) puts

pub puts_none : {T U : Type 0} (may_degrade : DegradationInfo → DegradationAction → Type 0)
    (may : BackpressureInfo → BackpressureDecision → Type 0) (list : RollState SubscriberEntry) (values : List T)
    (port : PublisherPort T U) → is_free port ≡ false → PutsOne may_degrade may list values port None port
puts_none may_degrade may list values port not_free = rw not_free (refl, refl)

-- so does one whose loan is refused
pub refused_stands : {T U : Type 0} (count : ℕ) (port after : PublisherPort T U) (error : LoanError) → port.stands ≡ true
    → Loans port.allocation count count port (Some (Err error)) after → after.stands ≡ true
refused_stands count port after error stands loans = lender_stands port.allocation count count port (Some (Err error)) after loans ∙ stands
