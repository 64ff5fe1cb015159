-- How many loans a publisher may still make after it made one, wrote into one, gave one up, or sent one.
use Rattle.std.proofs.Common.{arith, ◌≡◌, ◌+◌, ◌-◌, ◌<◌, ◌≤◌, ◌∷◌, [], ◌∙◌, ℕ, zero, suc, Bool, true, false, List, length, length-append}
use Rattle.std.proofs.Common.{nat_lt, slice_get, remove, Option, None, Some, Result, Ok, Err, if◌then◌else◌, refl, sym, ap}
use Rattle.std.proofs.Math.Logic.{⊎_elim}
use Rattle.std.proofs.lemmas.List.{length-map}
use Rattle.iox_domain.specs.DomainValues.Sequences.{is_used_up}
use Rattle.iox_domain.specs.DomainValues.declared.backpressure.BackpressureDecision.{BackpressureDecision}
use Rattle.iox_domain.specs.DomainValues.declared.backpressure.BackpressureInfo.{BackpressureInfo}
use Rattle.iox_domain.specs.DomainValues.declared.connection_failure.ConnectionFailure.{ConnectionFailure}
use Rattle.iox_domain.specs.DomainValues.declared.data_segment.AllocationStrategy.{AllocationStrategy}
use Rattle.iox_domain.specs.DomainValues.declared.degradation.DegradationAction.{DegradationAction}
use Rattle.iox_domain.specs.DomainValues.declared.degradation.DegradationInfo.{DegradationInfo}
use Rattle.iox_domain.specs.DomainValues.declared.port_error.LoanError.{LoanError}
use Rattle.iox_domain.specs.DomainValues.declared.port_error.LoanError.TheVariants as refusal
use Rattle.iox_domain.specs.DomainValues.declared.port_error.SendError.{SendError}
use Rattle.iox_domain.specs.Container.declared.container.Member.{Member}
use Rattle.iox_domain.specs.DomainPorts.Messages.{Loan, new_loan}
use Rattle.iox_domain.specs.DomainPorts.MessagesSending.{opened_for}
use Rattle.iox_domain.specs.DomainPorts.Loaning.{with_sender, LendsHere, LacksMemory, LendsBeyond, LendsWhere, LendsUnless, is_too_long}
use Rattle.iox_domain.specs.DomainPorts.Loaning.{first_refusal}
use Rattle.iox_domain.specs.DomainPorts.Loaning as loaning
use Rattle.iox_domain.specs.DomainPorts.Progress.{tried_again}
use Rattle.iox_domain.specs.DomainPorts.Sending.{begun_at, begun_by, dropped_at, ready_loan, with_progress, SendsAfter, SendsIf, Sends}
use Rattle.iox_domain.specs.DomainPorts.Sending.{SendsStanding}
use Rattle.iox_domain.specs.DomainPorts.Writing.{place_of, changed_there, changed_if, given_up_at, given_up}
use Rattle.iox_domain.specs.DomainPorts.declared.meeting.Sent.{Sent}
use Rattle.iox_domain.specs.DomainPorts.declared.publisher_port.PublisherPort.{PublisherPort}
use Rattle.iox_domain.specs.DomainPorts.declared.subscriber_entry.SubscriberEntry.{SubscriberEntry}
use Rattle.iox_domain.specs.Lending.{LoansIf, LoansOne}
use Rattle.iox_domain.specs.PortsPublishing.{is_blocked, is_free, UpdatesIf, UpdatesOne, SendsOne, RetriesIf, RetriesOne, GivesUpIf}
use Rattle.iox_domain.specs.PortsPublishing.{GivesUpOne}
use Rattle.iox_domain.specs.Rolls.{RollState}
use Rattle.iox_domain.proofs.Calling.{same_value, no_value}
use Rattle.iox_domain.proofs.Outliving.{added}
use Rattle.iox_domain.specs.Loans.{spare_loans}
use Rattle.iox_domain.proofs.Allowing.{Allowance, allowance_of, spared, as_spare, updates_allows, finishes_allows, concluded_allows}

-- n loans more are out
abbrev with_more : ℕ → Allowance → Allowance
with_more more allowance = record allowance { out = allowance.out + more }

no_more : (allowance : Allowance) → allowance ≡ with_more 0 allowance
no_more allowance = ap (λ n. record allowance { out = n }) (let same : allowance.out ≡ allowance.out + 0 = omega arith in same)

-- a loan is made, or refused
lends_here : {T U : Type 0} (values elements : ℕ) (old : PublisherPort T U) (answer : Result ℕ LoanError) (new : PublisherPort T U)
    → LendsHere values elements old answer new → allowance_of new ≡ with_more (added answer) (allowance_of old)
lends_here values elements old (Ok slot) new lends =
    ap allowance_of lends.1 ∙ ap (λ sender. allowance_of (with_sender sender old)) lends.0.3
    ∙ ap (λ n. record (allowance_of old) { out = n })
    (length-append old.sender.uses.loans (new_loan slot values elements old.sender.user_header ∷ []))
lends_here values elements old (Err error) new lends =
    ap allowance_of lends.2 ∙ ap (λ sender. allowance_of (with_sender sender old)) lends.1.1 ∙ no_more (allowance_of old)

lacks_memory : {T U : Type 0} (old : PublisherPort T U) (answer : Result ℕ LoanError) (new : PublisherPort T U)
    → LacksMemory old answer new → allowance_of new ≡ with_more (added answer) (allowance_of old)
lacks_memory old answer new lacks = ap allowance_of lacks.1 ∙ no_more (allowance_of old) ∙ ap
    (λ outcome. with_more (added outcome) (allowance_of old)) (sym lacks.0)

lends_beyond : {T U : Type 0} (room : Option ℕ) (more : Bool) (values elements : ℕ) (old : PublisherPort T U)
    (answer : Result ℕ LoanError) (new : PublisherPort T U)
    → LendsBeyond room more values elements old answer new → allowance_of new ≡ with_more (added answer) (allowance_of old)
lends_beyond None more values elements old answer new lends = lacks_memory old answer new lends
lends_beyond (Some room) false values elements old answer new lends = lacks_memory old answer new lends
lends_beyond (Some room) true values elements old answer new lends =
    ⊎_elim (lends_here values elements (with_sender (opened_for room old.sender) old) answer new) (lacks_memory old answer new) lends

lends_where : {T U : Type 0} (fits : Bool) (allocation : AllocationStrategy) (values elements : ℕ) (old : PublisherPort T U)
    (answer : Result ℕ LoanError) (new : PublisherPort T U)
    → LendsWhere fits allocation values elements old answer new → allowance_of new ≡ with_more (added answer) (allowance_of old)
lends_where true allocation values elements old answer new lends = lends_here values elements old answer new lends
lends_where false allocation values elements old answer new (room, length, lends) = lends_beyond room _ values elements old answer new lends

-- where no refusal came first, fewer loans are out than may be
not_refused : (long below : Bool) (one other : LoanError) → (if long then Some one else (if below then None else Some other)) ≡ None
    → below ≡ true
not_refused true below one other is = cc
not_refused false true one other is = refl
not_refused false false one other is = cc

below_most : {T U : Type 0} (allocation : AllocationStrategy) (values elements : ℕ) (port : PublisherPort T U)
    → first_refusal allocation values elements port ≡ None
    → length port.sender.uses.loans < port.sender.uses.most_loans
below_most allocation values elements port is =
    let below : nat_lt (length port.sender.uses.loans) port.sender.uses.most_loans ≡ true =
    not_refused (is_too_long allocation values elements port) _ refusal.ExceedsMaxLoanSize refusal.ExceedsMaxLoans is in
    grind (arith, below)

-- one loan more is one that may no longer be made
added_few : (answer : Result ℕ LoanError) → added answer ≤ 1
added_few (Ok slot) = omega arith
added_few (Err error) = omega arith

lent_spares : (stands : Bool) (most out more : ℕ) → stands ≡ true → out < most → more ≤ 1
    → (if stands then most - (out + more) else 0) + more ≤ (if stands then most - out else 0)
lent_spares true most out more is below few = omega (arith, below, few)
lent_spares false most out more is below few = cc

lends_unless : {T U : Type 0} (refused : Option LoanError) (allocation : AllocationStrategy) (values elements : ℕ)
    (old : PublisherPort T U) (answer : Result ℕ LoanError) (new : PublisherPort T U)
    → first_refusal allocation values elements old ≡ refused → old.stands ≡ true
    → LendsUnless refused allocation values elements old answer new → spare_loans new + added answer ≤ spare_loans old
lends_unless (Some error) allocation values elements old answer new is stands lends =
    let none : added answer ≡ 0 = ap added lends.0 in
    omega (arith, none, as_spare old new (ap allowance_of lends.1))
lends_unless None allocation values elements old answer new is stands lends =
    let same : spare_loans new ≡ spared (with_more (added answer) (allowance_of old))
    = ap spared (lends_where _ allocation values elements old answer new lends) in
    omega (
      arith,
      same,
      lent_spares old.stands old.sender.uses.most_loans (length old.sender.uses.loans) (added answer) stands
          (below_most allocation values elements old is) (added_few answer),
    )

loans_unless_sending : {T U : Type 0} (sending : Bool) (values elements : ℕ) (port : PublisherPort T U) (lent : Result ℕ LoanError)
    (after : PublisherPort T U) → port.stands ≡ true
    → loaning.LoansIf sending port.allocation values elements port (Some lent) after → spare_loans after + added lent ≤ spare_loans port
loans_unless_sending true values elements port lent after stands loans = absurd (no_value lent loans.0)
loans_unless_sending false values elements port lent after stands (made, is, lends) =
    let same : added lent ≡ added made = ap added (same_value lent made is) in
    omega (
      arith,
      same,
      lends_unless (first_refusal port.allocation values elements port) port.allocation values elements port made after
          refl stands lends,
    )

loans_if : {T U : Type 0} (stands : Bool) (values elements : ℕ) (port : PublisherPort T U) (lent : Result ℕ LoanError)
    (after : PublisherPort T U) → port.stands ≡ stands
    → LoansIf stands values elements port (Some lent) after → spare_loans after + added lent ≤ spare_loans port
loans_if false values elements port lent after is loans = absurd (no_value lent loans.0)
loans_if true values elements port lent after is loans = loans_unless_sending _ values elements port lent after is loans

pub loans_spare : {T U : Type 0} (values elements : ℕ) (port : PublisherPort T U) (lent : Result ℕ LoanError) (after : PublisherPort T U)
    → LoansOne values elements port (Some lent) after → spare_loans after + added lent ≤ spare_loans port
loans_spare values elements port lent after loans = loans_if port.stands values elements port lent after refl loans

-- what is written changes no number of loans
pub changed_spares : {T U : Type 0} (allowed : Bool) (slot : ℕ) (change : Loan T U → Loan T U) (port : PublisherPort T U)
    → spare_loans (changed_if allowed slot change port) ≤ spare_loans port
changed_spares false slot change port = omega arith
changed_spares true slot change port
    = as_spare port (changed_there slot change port)
    (ap (λ n. record (allowance_of port) { out = n }) (length-map port.sender.uses.loans _))

-- one loan fewer is one more that may be made at most
one_fewer : {X : Type 0} (xs : List X) (at : ℕ) → length xs ≤ length (remove xs at) + 1
one_fewer [] zero = omega arith
one_fewer [] (suc at) = omega arith
one_fewer (x ∷ xs) zero = omega arith
one_fewer (x ∷ xs) (suc at) = let rest = one_fewer xs at in omega (arith, rest)

fewer_spares : (stands : Bool) (most out less : ℕ) → out ≤ less + 1
    → (if stands then most - less else 0) ≤ (if stands then most - out else 0) + 1
fewer_spares true most out less few = omega (arith, few)
fewer_spares false most out less few = omega arith

dropped_spares : {T U : Type 0} (at : ℕ) (port : PublisherPort T U) → spare_loans (dropped_at at port) ≤ spare_loans port + 1
dropped_spares at port = fewer_spares port.stands port.sender.uses.most_loans _ _ (one_fewer port.sender.uses.loans at)

given_up_at_spares : {T U : Type 0} (place : Option ℕ) (port : PublisherPort T U)
    → spare_loans (given_up_at place port) ≤ spare_loans port + 1
given_up_at_spares None port = omega arith
given_up_at_spares (Some at) port = dropped_spares at port

pub given_up_spares : {T U : Type 0} (slot : ℕ) (port : PublisherPort T U) → spare_loans (given_up slot port) ≤ spare_loans port + 1
given_up_spares slot port = given_up_at_spares (place_of slot port) port

-- a publisher follows the list
updates_if : {T U : Type 0} (free : Bool) (may : DegradationInfo → DegradationAction → Type 0) (list : RollState SubscriberEntry)
    (port : PublisherPort T U) (answer : Option (Result (Unit {0}) ConnectionFailure)) (after : PublisherPort T U)
    → UpdatesIf free may list port answer after → spare_loans after ≤ spare_loans port
updates_if false may list port answer after updates = as_spare port after (ap allowance_of updates.1)
updates_if true may list port answer after (listed, is_list, outcome, updates, is)
    = as_spare port after (updates_allows may listed list.changes port outcome after updates)

pub updates_spare : {T U : Type 0} (may : DegradationInfo → DegradationAction → Type 0) (list : RollState SubscriberEntry)
    (port : PublisherPort T U) (answer : Option (Result (Unit {0}) ConnectionFailure)) (after : PublisherPort T U)
    → UpdatesOne may list port answer after → spare_loans after ≤ spare_loans port
updates_spare may list port answer after updates = updates_if (is_free port) may list port answer after updates

-- a send begins, and goes on
begun_by_spares : {T U : Type 0} (at : ℕ) (loan : Option (Loan T U)) (port : PublisherPort T U)
    → spare_loans (begun_by at loan port) ≤ spare_loans port + 1
begun_by_spares at None port = omega arith
begun_by_spares at (Some loan) port = fewer_spares port.stands port.sender.uses.most_loans _ _ (one_fewer port.sender.uses.loans at)

sends_after : {T U : Type 0} (may : BackpressureInfo → BackpressureDecision → Type 0) (at : ℕ)
    (outcome : Result (Unit {0}) ConnectionFailure) (updated : PublisherPort T U) (answer : Option (Result Sent SendError))
    (after : PublisherPort T U)
    → SendsAfter may at outcome updated answer after → spare_loans after ≤ spare_loans updated + 1
sends_after may at (Err failure) updated answer after sends =
    omega (arith, as_spare (dropped_at at updated) after (ap allowance_of sends.1), dropped_spares at updated)
sends_after may at (Ok done) updated answer after (finished, finishes, is) = omega (
  arith,
  as_spare (begun_at at updated) after (finishes_allows may (begun_at at updated) finished after finishes),
  begun_by_spares at (slice_get updated.sender.uses.loans at) updated,
)

sends_standing : {T U : Type 0} (used : Bool) (may_degrade : DegradationInfo → DegradationAction → Type 0)
    (may : BackpressureInfo → BackpressureDecision → Type 0) (listed : List (Option (Member SubscriberEntry))) (changes at : ℕ)
    (port : PublisherPort T U) (answer : Option (Result Sent SendError)) (after : PublisherPort T U)
    → SendsStanding used may_degrade may listed changes at port answer after → spare_loans after ≤ spare_loans port + 1
sends_standing true may_degrade may listed changes at port answer after sends =
    omega (arith, as_spare (dropped_at at port) after (ap allowance_of sends.1), dropped_spares at port)
sends_standing false may_degrade may listed changes at port answer after (outcome, updated, updates, sends) =
    omega (
      arith,
      as_spare port updated (updates_allows may_degrade listed changes port outcome updated updates),
      sends_after may at
          outcome updated answer after sends,
    )

sends_if : {T U : Type 0} (stands : Bool) (may_degrade : DegradationInfo → DegradationAction → Type 0)
    (may : BackpressureInfo → BackpressureDecision → Type 0) (listed : List (Option (Member SubscriberEntry))) (changes at : ℕ)
    (port : PublisherPort T U) (answer : Option (Result Sent SendError)) (after : PublisherPort T U)
    → SendsIf stands may_degrade may listed changes at port answer after → spare_loans after ≤ spare_loans port + 1
sends_if false may_degrade may listed changes at port answer after sends =
    omega (arith, as_spare (dropped_at at port) after (ap allowance_of sends.1), dropped_spares at port)
sends_if true may_degrade may listed changes at port answer after sends
    = sends_standing (is_used_up port.last_sequence) may_degrade may listed changes at port answer after sends

sends_ready : {T U : Type 0} (may_degrade : DegradationInfo → DegradationAction → Type 0)
    (may : BackpressureInfo → BackpressureDecision → Type 0) (listed : List (Option (Member SubscriberEntry))) (changes : ℕ)
    (ready : Option ℕ)
    (port : PublisherPort T U) (answer : Option (Result Sent SendError)) (after : PublisherPort T U)
    → Sends may_degrade may listed changes ready port answer after → spare_loans after ≤ spare_loans port + 1
sends_ready may_degrade may listed changes None port answer after sends = omega (arith, as_spare port after (ap allowance_of sends.1))
sends_ready may_degrade may listed changes (Some at) port answer after sends
    = sends_if port.stands may_degrade may listed changes at port answer after sends

pub sends_spare : {T U : Type 0} (may_degrade : DegradationInfo → DegradationAction → Type 0)
    (may : BackpressureInfo → BackpressureDecision → Type 0) (list : RollState SubscriberEntry) (slot : ℕ)
    (port : PublisherPort T U) (answer : Option (Result Sent SendError)) (after : PublisherPort T U)
    → SendsOne may_degrade may list slot port answer after → spare_loans after ≤ spare_loans port + 1
sends_spare may_degrade may list slot port answer after (listed, is_list, sends)
    = sends_ready may_degrade may listed list.changes (ready_loan slot port) port answer after sends

-- a blocked send is tried again, or given up
retries_if : {T U : Type 0} (blocked : Bool) (may : BackpressureInfo → BackpressureDecision → Type 0) (elapsed : ℕ)
    (port : PublisherPort T U) (answer : Option (Result Sent SendError)) (after : PublisherPort T U)
    → RetriesIf blocked may elapsed port answer after → spare_loans after ≤ spare_loans port
retries_if false may elapsed port answer after retries = as_spare port after (ap allowance_of retries.1)
retries_if true may elapsed port answer after (outcome, finishes, is) =
    as_spare port after (finishes_allows may (with_progress (tried_again elapsed port.progress) port) outcome after finishes)

pub retries_spare : {T U : Type 0} (may : BackpressureInfo → BackpressureDecision → Type 0) (elapsed : ℕ) (port : PublisherPort T U)
    (answer : Option (Result Sent SendError)) (after : PublisherPort T U)
    → RetriesOne may elapsed port answer after → spare_loans after ≤ spare_loans port
retries_spare may elapsed port answer after retries = retries_if (is_blocked port) may elapsed port answer after retries

gives_up_if : {T U : Type 0} (blocked : Bool) (port : PublisherPort T U) (answer : Option ℕ) (after : PublisherPort T U)
    → GivesUpIf blocked port answer after → spare_loans after ≤ spare_loans port
gives_up_if false port answer after gives = as_spare port after (ap allowance_of gives.1)
gives_up_if true port answer after gives = as_spare port after (ap allowance_of gives.1 ∙ concluded_allows true port)

pub gives_up_spares : {T U : Type 0} (port : PublisherPort T U) (answer : Option ℕ) (after : PublisherPort T U)
    → GivesUpOne port answer after → spare_loans after ≤ spare_loans port
gives_up_spares port answer after gives = gives_up_if (is_blocked port) port answer after gives
