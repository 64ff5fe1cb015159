-- A send by its parts.
use Rattle.std.proofs.Common.{◌≡◌, ◌≢◌, ℕ, Bool, true, false, List, Result, Ok, Err, Option, Some, refl, sym, ◌∙◌, if◌then◌else◌}
use Rattle.iox_domain_values.specs.Sequences.{is_used_up}
use Rattle.iox_domain_values.specs.declared.backpressure.BackpressureInfo.{BackpressureInfo}
use Rattle.iox_domain_values.specs.declared.backpressure.BackpressureDecision.{BackpressureDecision}
use Rattle.iox_domain_values.specs.declared.connection_failure.ConnectionFailure.{ConnectionFailure}
use Rattle.iox_domain_values.specs.declared.degradation.DegradationAction.{DegradationAction}
use Rattle.iox_domain_values.specs.declared.degradation.DegradationInfo.{DegradationInfo}
use Rattle.iox_domain_values.specs.declared.port_error.SendError.{SendError}
use Rattle.iox_domain_values.specs.declared.port_error.SendError.TheVariants as sending
use Rattle.iox_domain_slots.specs.Container.declared.container.Member.{Member}
use Rattle.iox_domain_ports.specs.declared.meeting.Sent.{Sent}
use Rattle.iox_domain_ports.specs.declared.meeting.Sent.TheVariants as sent
use Rattle.iox_domain_ports.specs.declared.publisher_port.PublisherPort.{PublisherPort}
use Rattle.iox_domain_ports.specs.declared.subscriber_entry.SubscriberEntry.{SubscriberEntry}
use Rattle.iox_domain_ports.specs.PublisherUpdating.{Updates}
use Rattle.iox_domain_ports.specs.Sending.{Sends, SendsIf, SendsStanding, Finishes, begun_at, dropped_at}

-- a send by a publisher of which is known whether it stands
if_stands : {T U : Type 0} (stands : Bool) (may_degrade : DegradationInfo → DegradationAction → Type 0)
    (may : BackpressureInfo → BackpressureDecision → Type 0) (listed : List (Option (Member SubscriberEntry))) (changes at : ℕ)
    (old : PublisherPort T U) (answer : Option (Result Sent SendError)) (new : PublisherPort T U) → stands ≡ true
    → SendsIf true may_degrade may listed changes at old answer new → SendsIf stands may_degrade may listed changes at old answer new
if_stands stands may_degrade may listed changes at old answer new is sends = rw is sends

-- a send by one that stands, and of which is known whether its numbers are used up
if_used_up : {T U : Type 0} (used_up : Bool) (may_degrade : DegradationInfo → DegradationAction → Type 0)
    (may : BackpressureInfo → BackpressureDecision → Type 0) (listed : List (Option (Member SubscriberEntry))) (changes at : ℕ)
    (old : PublisherPort T U) (answer : Option (Result Sent SendError)) (new : PublisherPort T U) (is : Bool) → used_up ≡ is
    → SendsStanding is may_degrade may listed changes at old answer new
    → SendsStanding used_up may_degrade may listed changes at old answer new
if_used_up used_up may_degrade may listed changes at old answer new is known sends = rw known sends

-- its numbers are used up
pub sends_used_up : {T U : Type 0} (may_degrade : DegradationInfo → DegradationAction → Type 0)
    (may : BackpressureInfo → BackpressureDecision → Type 0) (listed : List (Option (Member SubscriberEntry))) (changes : ℕ)
    (ready : Option ℕ) (at : ℕ) (old new : PublisherPort T U)
    → ready ≡ Some at → old.stands ≡ true → is_used_up old.last_sequence ≡ true → new ≡ dropped_at at old
    → Sends may_degrade may listed changes ready old (Some (Err sending.InternalError)) new
sends_used_up may_degrade may listed changes ready at old new is_ready stands used_up is_new =
    rw is_ready (if_stands old.stands may_degrade may listed changes at old _ new stands
    (if_used_up (is_used_up old.last_sequence) may_degrade may listed changes at old _ new true used_up (refl, is_new)))

-- its update failed
pub sends_refused : {T U : Type 0} (may_degrade : DegradationInfo → DegradationAction → Type 0)
    (may : BackpressureInfo → BackpressureDecision → Type 0) (listed : List (Option (Member SubscriberEntry))) (changes : ℕ)
    (ready : Option ℕ) (at : ℕ) (old updated new : PublisherPort T U) (outcome : Result (Unit {0}) ConnectionFailure)
    (failure : ConnectionFailure)
    → ready ≡ Some at → old.stands ≡ true → is_used_up old.last_sequence ≡ false
    → Updates may_degrade listed changes old outcome updated → outcome ≡ Err failure → new ≡ dropped_at at updated
    → Sends may_degrade may listed changes ready old (Some (Err (sending.ConnectionError failure))) new
sends_refused may_degrade may listed changes ready at old updated new outcome failure is_ready stands left updates is_err is_new =
    rw is_ready (if_stands old.stands may_degrade may listed changes at old _ new stands
    (if_used_up (is_used_up old.last_sequence) may_degrade may listed changes at old _ new false left
    (outcome, updated, updates, rw is_err (refl, is_new))))

-- it was sent
pub sends_sent : {T U : Type 0} (may_degrade : DegradationInfo → DegradationAction → Type 0)
    (may : BackpressureInfo → BackpressureDecision → Type 0) (listed : List (Option (Member SubscriberEntry))) (changes : ℕ)
    (ready : Option ℕ) (at : ℕ) (old updated begun new : PublisherPort T U) (outcome : Result (Unit {0}) ConnectionFailure)
    (done : Unit {0}) (answer : Result Sent SendError)
    → ready ≡ Some at → old.stands ≡ true → is_used_up old.last_sequence ≡ false
    → Updates may_degrade listed changes old outcome updated → outcome ≡ Ok done
    → begun ≡ begun_at at updated → Finishes may begun answer new
    → Sends may_degrade may listed changes ready old (Some answer) new
sends_sent may_degrade may listed changes ready at old updated begun new outcome done answer is_ready stands left updates is_ok
    is_begun finishes =
    rw is_ready (if_stands old.stands may_degrade may listed changes at old _ new stands
    (if_used_up (is_used_up old.last_sequence) may_degrade may listed changes at old _ new false left
    (outcome, updated, updates, rw is_ok (answer, rw is_begun at finishes, refl))))

-- a send that goes over its places isn't refused for want of a connection
answers_else : (arrived fails : Bool) (delivered : ℕ) (failure : ConnectionFailure)
    → (if arrived then (if fails then Err sending.UnableToDeliver else Ok (sent.Delivered delivered)) else Ok sent.Blocked) ≢ Err
    (sending.ConnectionError failure)
answers_else true true delivered failure is = cc
answers_else true false delivered failure is = cc
answers_else false fails delivered failure is = cc

pub finishes_else : {T U : Type 0} (may : BackpressureInfo → BackpressureDecision → Type 0) (old new : PublisherPort T U)
    (answer : Result Sent SendError) → Finishes may old answer new
    → (failure : ConnectionFailure) → Some answer ≢ Some (Err (sending.ConnectionError failure))
finishes_else {T} {U} may old new answer finishes failure is =
    let gone : PublisherPort T U = finishes.1 in
    let same : answer ≡ Err (sending.ConnectionError failure) = cc in
    answers_else finishes.0 gone.progress.fails gone.progress.delivered failure (sym finishes.3 ∙ same)
