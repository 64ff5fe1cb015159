-- What each call of a publisher leaves held.
use Rattle.std.proofs.Common.{arith, ◌≡◌, ◌+◌, ◌-◌, ◌<◌, ◌≤◌, ◌==◌, ◌∷◌, [], ℕ, length-append, take, zero, suc, Bool, true, false, List}
use Rattle.std.proofs.Common.{get_or, length, Option, None, Some, Result, Ok, Err, refl, ap}
use Rattle.std.specs.declared.alloc.AllocError.{AllocError}
use Rattle.iox_domain.specs.Container.declared.container.Member.{Member}
use Rattle.iox_domain.specs.DomainValues.declared.backpressure.BackpressureDecision.{BackpressureDecision}
use Rattle.iox_domain.specs.DomainValues.declared.backpressure.BackpressureInfo.{BackpressureInfo}
use Rattle.iox_domain.specs.DomainValues.declared.connection_failure.ConnectionFailure.{ConnectionFailure}
use Rattle.iox_domain.specs.DomainValues.declared.degradation.DegradationAction.{DegradationAction}
use Rattle.iox_domain.specs.DomainValues.declared.degradation.DegradationInfo.{DegradationInfo}
use Rattle.iox_domain.specs.DomainValues.declared.port_error.LoanError.{LoanError}
use Rattle.iox_domain.specs.DomainValues.declared.port_error.SendError.{SendError}
use Rattle.iox_domain.specs.DomainSlots.Uses.{Connection, welcomed, newest, taken}
use Rattle.iox_domain.specs.DomainPorts.Messages.{Message, Loan}
use Rattle.iox_domain.specs.DomainPorts.Leaving.{parted_at, parted_from, departed}
use Rattle.iox_domain.specs.DomainPorts.Places.{is_attached}
use Rattle.iox_domain.specs.DomainPorts.Ports.{connection_of, connection_to, is_live, greeted_at, welcomed_at, Joins, Attaches, detached_at}
use Rattle.iox_domain.specs.DomainPorts.Ports.{ended_at, unread_at}
use Rattle.iox_domain.specs.DomainPorts.Ties.{has_tie}
use Rattle.iox_domain.specs.DomainPorts.Sending.{ready_loan}
use Rattle.iox_domain.specs.DomainPorts.Ties.{tie_put}
use Rattle.iox_domain.specs.DomainPorts.PublisherUpdating.{let_go_of, untied, untied_from, within_reach, tied, is_tie_to, Ties, Follows}
use Rattle.iox_domain.specs.DomainPorts.PublisherUpdating.{FollowsTo, FollowsAll, UpdatesIf, Updates}
use Rattle.iox_domain.specs.DomainPorts.Writing.{changed_if, given_up}
use Rattle.iox_domain.specs.DomainPorts.declared.meeting.Sent.{Sent}
use Rattle.iox_domain.specs.DomainPorts.declared.publisher_port.PublisherPort.{PublisherPort}
use Rattle.iox_domain.specs.DomainPorts.declared.subscriber_entry.SubscriberEntry.{SubscriberEntry}
use Rattle.iox_domain.specs.DomainPorts.Reading.{taken_at}
use Rattle.iox_domain.specs.Lending.{LoansOne}
use Rattle.iox_domain.specs.PortsPublishing.{is_free, UpdatesOne, SendsOne, RetriesOne, GivesUpOne}
use Rattle.iox_domain.specs.PortsPublishing as publishing
use Rattle.iox_domain.specs.Rolls.{RollState}
use Rattle.std.proofs.lemmas.List.{length-drop}
use Rattle.iox_domain.specs.SizeLaws.{MadeFor, made_for, IsWithin}
use Rattle.iox_domain.proofs.Carrying.{Carries, carry_loans, carry_changed, carry_given_up, carry_retries, carry_gives_up, carry_sends}
use Rattle.iox_domain.proofs.PortLawsKeeping.{PortKeeps, port_stays, port_same, port_is, port_on, port_to, port_set, port_placed, port_if}
use Rattle.iox_domain.proofs.PortLawsKeeping.{port_ended, keeps_taken, keeps_waiting}

-- a place is untied
port_let_go : {T U : Type 0} (place : ℕ) (tie : Option ℕ) (port : PublisherPort T U) → PortKeeps port (let_go_of place tie port)
port_let_go place None port = port_stays port
port_let_go {T} {U} place (Some index) port =
    let gone : PublisherPort T U = record port { ties = tie_put place None port.ties } in
    port_on port gone _ (port_same port gone refl refl) (port_ended index gone)

port_untied : {T U : Type 0} (place : ℕ) (port : PublisherPort T U) → PortKeeps port (untied place port)
port_untied place port = port_let_go place (get_or port.ties.items place None) port

port_untied_from : {T U : Type 0} (count place : ℕ) (port : PublisherPort T U) → PortKeeps port (untied_from count place port)
port_untied_from zero place port = port_stays port
port_untied_from (suc count) place port
    = port_on port (untied place port) _ (port_untied place port) (port_untied_from count (place + 1) (untied place port))

-- the last of a list are no more than were asked for
newest_few : {X : Type 0} (n : ℕ) (xs : List X) → length (newest n xs) ≤ n
newest_few n xs = omega (arith, length-drop (length xs - n) xs)

-- a connection is greeted
port_greeted : {T U : Type 0} (index : ℕ) (waiting : List (Message T U)) (port : PublisherPort T U) → is_live index port ≡ true
    → PortKeeps port (greeted_at index waiting port)
port_greeted index [] port live =
    port_set port _ index (welcomed port.sender.uses.history (connection_of index port)) refl refl
    (λ within. (newest_few (connection_of index port).limit port.sender.uses.history, within.1, within.2))
    (keeps_waiting (connection_of index port) _ live)
port_greeted index (message ∷ waiting) port live = port_stays port

port_welcomed : {T U : Type 0} (index : ℕ) (port : PublisherPort T U) → PortKeeps port (welcomed_at index port)
port_welcomed index port =
    port_if (is_live index port) port _ port (λ live. port_greeted index (connection_of index port).waiting port live)
    (λ dead. port_stays port)

-- a connection is made, or joined
port_connects : {T U : Type 0} (subscriber limit : ℕ) (found : Option ℕ) (old new : PublisherPort T U) (answer : Result ℕ AllocError)
    → limit ≤ old.sender.uses.most_waiting → Joins subscriber limit found old answer new → PortKeeps old new
port_connects subscriber limit (Some index) old new answer fits joins = port_is old new joins.1
port_connects subscriber limit None old new (Err error) fits joins = port_is old new joins
port_connects subscriber limit None old new (Ok index) fits joins
    = port_placed old new index limit fits joins.0 (ap (λ port. port.sender.uses.connections) joins.2) (ap (λ port. made_for port) joins.2)

pub port_attaches : {T U : Type 0} (subscriber limit : ℕ) (old new : PublisherPort T U) (answer : Result ℕ AllocError)
    → limit ≤ old.sender.uses.most_waiting → Attaches subscriber limit old answer new → PortKeeps old new
port_attaches subscriber limit old new (Err error) fits attaches = port_is old new attaches.1
port_attaches {T} {U} subscriber limit old new (Ok index) fits attaches =
    let joined : PublisherPort T U = attaches.0 in
    port_on old joined new (port_connects subscriber limit (connection_to subscriber old) old joined (Ok index) fits attaches.1)
    (port_same joined new (ap (λ port. port.sender.uses.connections) attaches.2) (ap (λ port. made_for port) attaches.2))

-- a place is tied, or followed
port_ties : {T U : Type 0} (place : ℕ) (entry : SubscriberEntry) (old new : PublisherPort T U) (outcome : Result (Unit {0}) AllocError)
    → Ties place entry old outcome new → PortKeeps old new
port_ties place entry old new (Err error) ties = port_is old new ties.1
port_ties {T} {U} place entry old new (Ok done) ties =
    let (index, joined, joins, is) = ties in
    let given : PublisherPort T U = record joined { ties = tie_put place (Some index) joined.ties } in
    port_on old joined new
    (port_on old (within_reach place old) joined (port_same old (within_reach place old) refl refl)
    (port_connects entry.subscriber _ (connection_to entry.subscriber old) (within_reach place old) joined (Ok index) (omega arith)
    joins))
    (port_to joined (tied place index joined) new is
    (port_on joined given _ (port_same joined given refl refl) (port_welcomed index given)))

port_follows_to : {T U : Type 0} (place : ℕ) (entry : SubscriberEntry) (is_tie : Bool) (old new : PublisherPort T U)
    (outcome : Result (Unit {0}) AllocError) → FollowsTo place entry is_tie old outcome new → PortKeeps old new
port_follows_to place entry true old new outcome follows = port_is old new follows.1
port_follows_to place entry false old new outcome follows
    = port_on old (untied place old) new (port_untied place old) (port_ties place entry (untied place old) new outcome follows)

port_follows : {T U : Type 0} (place : ℕ) (listed : Option (Member SubscriberEntry)) (old new : PublisherPort T U)
    (outcome : Result (Unit {0}) AllocError) → Follows place listed old outcome new → PortKeeps old new
port_follows place None old new outcome follows = port_to old (untied place old) new follows.1 (port_untied place old)
port_follows place (Some member) old new outcome follows =
    port_follows_to place member.value (is_tie_to member.value.subscriber (get_or old.ties.items place None) old) old new outcome follows

port_follows_all : {T U : Type 0} (may : DegradationInfo → DegradationAction → Type 0) (place : ℕ)
    (listed : List (Option (Member SubscriberEntry))) (found : Option ConnectionFailure) (old new : PublisherPort T U)
    (answer : Result (Unit {0}) ConnectionFailure)
    → FollowsAll may place listed found old answer new → PortKeeps old new
port_follows_all may place [] found old new answer follows
    = port_to old _ new follows.1 (port_untied_from (length old.ties.items - place) place old)
port_follows_all {T} {U} may place (listed ∷ rest) found old new answer follows =
    let (outcome, next, after, one, asks, further) = follows in
    port_on old next new (port_follows place listed old next outcome one)
    (port_follows_all may (place + 1) rest after next new answer further)

port_updates_if : {T U : Type 0} (is_seen : Bool) (may : DegradationInfo → DegradationAction → Type 0)
    (listed : List (Option (Member SubscriberEntry))) (changes : ℕ) (old new : PublisherPort T U)
    (answer : Result (Unit {0}) ConnectionFailure)
    → UpdatesIf is_seen may listed changes old answer new → PortKeeps old new
port_updates_if true may listed changes old new answer updates = port_is old new updates.1
port_updates_if {T} {U} false may listed changes old new answer updates =
    let begun : PublisherPort T U = record old { seen = changes } in
    port_on old begun new (port_same old begun refl refl) (port_follows_all may 0 listed None begun new answer updates)

pub port_updates : {T U : Type 0} (may : DegradationInfo → DegradationAction → Type 0) (listed : List (Option (Member SubscriberEntry)))
    (changes : ℕ) (old new : PublisherPort T U) (answer : Result (Unit {0}) ConnectionFailure)
    → Updates may listed changes old answer new → PortKeeps old new
port_updates may listed changes old new answer updates = port_updates_if (old.seen == changes) may listed changes old new answer updates

-- it is so with each step of a publisher that follows no list
port_carries : {T U : Type 0} → Carries (λ (old : PublisherPort T U) (new : PublisherPort T U). PortKeeps old new)
port_carries = record {
  is = port_is;
  on = port_on;
  still = λ old new connections ties readers stands sizes. port_same old new connections sizes;
  waiting = λ index waiting port live few. port_set port _ index (record (connection_of index port) { waiting = waiting }) refl refl
      (λ within. (few within.0, within.1, within.2)) (keeps_waiting (connection_of index port) waiting live);
}

pub port_loans : {T U : Type 0} (values elements : ℕ) (old new : PublisherPort T U) (answer : Option (Result ℕ LoanError))
    → LoansOne values elements old answer new → PortKeeps old new
port_loans values elements old new answer loans = carry_loans port_carries values elements old new answer loans

pub port_changed : {T U : Type 0} (allowed : Bool) (slot : ℕ) (change : Loan T U → Loan T U) (port : PublisherPort T U)
    → PortKeeps port (changed_if allowed slot change port)
port_changed allowed slot change port = carry_changed port_carries allowed slot change port

pub port_given_up : {T U : Type 0} (slot : ℕ) (port : PublisherPort T U) → PortKeeps port (given_up slot port)
port_given_up slot port = carry_given_up port_carries slot port

pub port_retries : {T U : Type 0} (may : BackpressureInfo → BackpressureDecision → Type 0) (elapsed : ℕ) (old new : PublisherPort T U)
    (answer : Option (Result Sent SendError)) → RetriesOne may elapsed old answer new → PortKeeps old new
port_retries may elapsed old new answer retries = carry_retries port_carries may elapsed old new answer retries

pub port_gives_up : {T U : Type 0} (old new : PublisherPort T U) (answer : Option ℕ) → GivesUpOne old answer new → PortKeeps old new
port_gives_up old new answer gives = carry_gives_up port_carries old new answer gives

-- it leaves
port_parted : {T U : Type 0} (index : ℕ) (port : PublisherPort T U) → PortKeeps port (parted_at index port)
port_parted index port = port_if (is_attached (get_or port.readers index None)) port port _ (λ reads. port_stays port)
    (λ reads. port_ended index port)

port_parted_from : {T U : Type 0} (count index : ℕ) (port : PublisherPort T U) → PortKeeps port (parted_from count index port)
port_parted_from zero index port = port_stays port
port_parted_from (suc count) index port
    = port_on port (parted_at index port) _ (port_parted index port) (port_parted_from count (index + 1) (parted_at index port))

pub port_departed : {T U : Type 0} (port : PublisherPort T U) → PortKeeps port (departed port)
port_departed {T} {U} port =
    let left : PublisherPort T U = record port { stands = false } in
    port_on port left _ (port_same port left refl refl) (port_parted_from (length port.sender.uses.connections) 0 left)

-- a subscriber reads there, or no longer
pub port_detached : {T U : Type 0} (index : ℕ) (port : PublisherPort T U) → PortKeeps port (detached_at index port)
port_detached index port = port_if (has_tie index port.ties) port (unread_at index port) (ended_at index port)
    (λ tied. port_same port (unread_at index port) refl refl) (λ untied. port_ended index port)

taken_within : {X : Type 0} (sizes : MadeFor) (connection : Connection X) → length connection.borrowed < sizes.most_borrowed
    → IsWithin sizes connection → IsWithin sizes (taken connection)
taken_within sizes connection below within = (
  omega (arith, within.0, length-drop 1 connection.waiting),
  within.1,
  omega
      (arith, below, length-append connection.borrowed (take 1 connection.waiting), one_taken connection.waiting),
)
  where
    one_taken : {X : Type 0} (xs : List X) → length (take 1 xs) ≤ 1
    one_taken [] = omega arith
    one_taken (x ∷ xs) = omega arith

pub port_taken : {T U : Type 0} (index : ℕ) (port : PublisherPort T U)
    → length (connection_of index port).borrowed < port.sender.uses.most_borrowed → PortKeeps port (taken_at index port)
port_taken index port below = port_set port _ index _ refl refl (taken_within (made_for port) (connection_of index port) below)
    (keeps_taken (connection_of index port))

-- the calls by number
updates_one : {T U : Type 0} (free : Bool) (may : DegradationInfo → DegradationAction → Type 0) (list : RollState SubscriberEntry)
    (old new : PublisherPort T U) (answer : Option (Result (Unit {0}) ConnectionFailure))
    → publishing.UpdatesIf free may list old answer new → PortKeeps old new
updates_one false may list old new answer updates = port_is old new updates.1
updates_one true may list old new answer updates = port_updates may updates.0 list.changes old new updates.2 updates.3

pub port_updates_one : {T U : Type 0} (may : DegradationInfo → DegradationAction → Type 0) (list : RollState SubscriberEntry)
    (old new : PublisherPort T U) (answer : Option (Result (Unit {0}) ConnectionFailure)) → UpdatesOne may list old answer new
    → PortKeeps old new
port_updates_one may list old new answer updates = updates_one (is_free old) may list old new answer updates

pub port_sends_one : {T U : Type 0} (may_degrade : DegradationInfo → DegradationAction → Type 0)
    (may : BackpressureInfo → BackpressureDecision → Type 0) (list : RollState SubscriberEntry) (slot : ℕ) (old new : PublisherPort T U)
    (answer : Option (Result Sent SendError)) → SendsOne may_degrade may list slot old answer new → PortKeeps old new
port_sends_one may_degrade may list slot old new answer sends =
    carry_sends port_carries may_degrade may sends.0 list.changes (ready_loan slot old) old new answer
    (λ stands outcome updated updates. port_updates may_degrade sends.0 list.changes old updated outcome updates) sends.2
