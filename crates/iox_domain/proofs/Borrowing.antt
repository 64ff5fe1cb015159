-- What the steps of a publisher leave borrowed at each of its connections: as much as before, or more.
use Rattle.std.proofs.Common.{arith, ◌≡◌, ◌+◌, ◌-◌, ◌≤◌, ◌==◌, ◌∷◌, [], ◌++◌, ℕ, zero, suc, Bool, true, false, List, get_or, length, set}
use Rattle.std.proofs.Common.{take, Option, None, Some, Result, Ok, Err, if◌then◌else◌, refl, ap}
use Rattle.std.proofs.lemmas.List.{length-append}
use Rattle.std.specs.declared.alloc.AllocError.{AllocError}
use Rattle.iox_domain.specs.Container.declared.container.Member.{Member}
use Rattle.iox_domain.specs.PortsPublishing.{is_free, UpdatesOne, SendsOne}
use Rattle.iox_domain.specs.PortsPublishing as publishing
use Rattle.iox_domain.specs.Rolls.{RollState}
use Rattle.iox_domain.specs.DomainPorts.Leaving.{parted_at, parted_from, departed}
use Rattle.iox_domain.specs.DomainPorts.Places.{is_attached}
use Rattle.iox_domain.specs.DomainPorts.Ports.{connection_of, connection_to, is_live, ended_at, detached_at, unread_at, greeted_at}
use Rattle.iox_domain.specs.DomainPorts.Ports.{welcomed_at, Joins, Attaches}
use Rattle.iox_domain.specs.DomainPorts.Sending.{ready_loan}
use Rattle.iox_domain.specs.DomainPorts.Ties.{tie_put, has_tie}
use Rattle.iox_domain.specs.DomainPorts.PublisherUpdating.{is_tie_to, let_go_of, untied, untied_from, within_reach, tied, Ties, FollowsTo}
use Rattle.iox_domain.specs.DomainPorts.PublisherUpdating.{Follows, FollowsAll, UpdatesIf, Updates}
use Rattle.iox_domain.specs.DomainPorts.declared.meeting.Sent.{Sent}
use Rattle.iox_domain.specs.DomainPorts.declared.publisher_port.PublisherPort.{PublisherPort}
use Rattle.iox_domain.specs.DomainPorts.declared.subscriber_entry.SubscriberEntry.{SubscriberEntry}
use Rattle.iox_domain.specs.DomainPorts.Messages.{Message}
use Rattle.iox_domain.specs.DomainSlots.Uses.{Connection, nobody, connected, ended, settled, taken, welcomed}
use Rattle.iox_domain.specs.DomainSlots.declared.stage.Stage.{Stage}
use Rattle.iox_domain.specs.DomainSlots.declared.stage.Stage.TheVariants as stage
use Rattle.iox_domain.specs.DomainPorts.Publishers.{ended_if_left}
use Rattle.iox_domain.specs.DomainPorts.Reading.{taken_at}
use Rattle.iox_domain.specs.DomainValues.declared.backpressure.BackpressureDecision.{BackpressureDecision}
use Rattle.iox_domain.specs.DomainValues.declared.backpressure.BackpressureInfo.{BackpressureInfo}
use Rattle.iox_domain.specs.DomainValues.declared.connection_failure.ConnectionFailure.{ConnectionFailure}
use Rattle.iox_domain.specs.DomainValues.declared.degradation.DegradationAction.{DegradationAction}
use Rattle.iox_domain.specs.DomainValues.declared.degradation.DegradationInfo.{DegradationInfo}
use Rattle.iox_domain.specs.DomainValues.declared.port_error.SendError.{SendError}
use Rattle.iox_domain.proofs.Carrying.{Carries, carry_sends}

-- of each connection as much is borrowed as before, or more
pub record Borrows {T U : Type 0} (old new : PublisherPort T U) : Type 0 where
  pub each : (index : ℕ) → length (connection_of index old).borrowed ≤ length (connection_of index new).borrowed

pub borrows_same : {T U : Type 0} (old new : PublisherPort T U) → new.sender.uses.connections ≡ old.sender.uses.connections
    → Borrows old new
borrows_same old new is = record { each = λ index. omega (arith, ap (λ all. length (get_or all index nobody).borrowed) is) }

pub borrows_is : {T U : Type 0} (old new : PublisherPort T U) → new ≡ old → Borrows old new
borrows_is old new is = borrows_same old new (ap (λ port. port.sender.uses.connections) is)

borrows_on : {T U : Type 0} (old between new : PublisherPort T U) → Borrows old between → Borrows between new → Borrows old new
borrows_on old between new one two = record { each = λ index. omega (arith, one.each index, two.each index) }

borrows_to : {T U : Type 0} (old new other : PublisherPort T U) → other ≡ new → Borrows old new → Borrows old other
borrows_to old new other is borrows = borrows_on old new other borrows (borrows_is new other is)

borrows_if : {T U : Type 0} (test : Bool) (old one other : PublisherPort T U) → Borrows old one → Borrows old other
    → Borrows old (if test then one else other)
borrows_if true old one other borrows_one borrows_other = borrows_one
borrows_if false old one other borrows_one borrows_other = borrows_other

-- one connection changes
set_borrows : {X : Type 0} (connections : List (Connection X)) (index : ℕ) (connection : Connection X)
    → length (get_or connections index nobody).borrowed ≤ length connection.borrowed → (other : ℕ)
    → length (get_or connections other nobody).borrowed ≤ length (get_or (set connections index connection) other nobody).borrowed
set_borrows [] index connection more other = omega arith
set_borrows (x ∷ xs) zero connection more zero = more
set_borrows (x ∷ xs) zero connection more (suc other) = omega arith
set_borrows (x ∷ xs) (suc index) connection more zero = omega arith
set_borrows (x ∷ xs) (suc index) connection more (suc other) = set_borrows xs index connection more other

borrows_set : {T U : Type 0} (old new : PublisherPort T U) (index : ℕ) (connection : Connection (Message T U))
    → new.sender.uses.connections ≡ set old.sender.uses.connections index connection
    → length (connection_of index old).borrowed ≤ length connection.borrowed → Borrows old new
borrows_set old new index connection is more = record {
  each = λ other. omega (
    arith,
    set_borrows old.sender.uses.connections index connection more other,
    ap (λ all. length (get_or all other nobody).borrowed)
        is,
  );
}

-- what is borrowed of a connection stays so when it ends
pub settled_borrowed : {X : Type 0} (now : Stage) (limit : ℕ) (waiting borrowed : List X)
    → (settled now limit waiting borrowed).borrowed ≡ borrowed
settled_borrowed stage.Ended limit waiting [] = refl
settled_borrowed stage.Ended limit waiting (x ∷ xs) = refl
settled_borrowed stage.Live limit waiting borrowed = refl
settled_borrowed stage.Vacant limit waiting borrowed = refl

borrows_ended : {T U : Type 0} (index : ℕ) (port : PublisherPort T U) → Borrows port (ended_at index port)
borrows_ended index port =
    let connection = connection_of index port in
    borrows_if (is_live index port) port _ port
    (borrows_set port _ index (ended connection) refl
    (omega (arith, ap (λ all. length all) (settled_borrowed stage.Ended connection.limit [] connection.borrowed))))
    (borrows_is port port refl)

pub borrows_ended_if : {T U : Type 0} (index : ℕ) (port : PublisherPort T U) → Borrows port (ended_if_left index port)
borrows_ended_if index port = borrows_if port.stands port port (ended_at index port) (borrows_is port port refl) (borrows_ended index port)

-- the reader of one left
pub borrows_detached : {T U : Type 0} (index : ℕ) (port : PublisherPort T U) → Borrows port (detached_at index port)
borrows_detached index port = borrows_if (has_tie index port.ties) port (unread_at index port) (ended_at index port)
    (borrows_same port (unread_at index port) refl) (borrows_ended index port)

-- a connection is made
append_borrows : {X : Type 0} (connections : List (Connection X)) (connection : Connection X) (other : ℕ)
    → length (get_or connections other nobody).borrowed ≤ length (get_or (connections ++ connection ∷ []) other nobody).borrowed
append_borrows [] connection zero = omega arith
append_borrows [] connection (suc other) = omega arith
append_borrows (x ∷ xs) connection zero = omega arith
append_borrows (x ∷ xs) connection (suc other) = append_borrows xs connection other

placed_borrows : {X : Type 0} (behind : Bool) (connections : List (Connection X)) (index limit other : ℕ)
    → get_or connections index nobody ≡ nobody
    → length (get_or connections other nobody).borrowed
    ≤ length (get_or (if behind then connections ++ connected limit ∷ [] else set connections index (connected limit)) other
    nobody).borrowed
placed_borrows true connections index limit other none = append_borrows connections (connected limit) other
placed_borrows false connections index limit other none
    = set_borrows connections index (connected limit) (omega (arith, ap (λ one. length one.borrowed) none)) other

borrows_joins : {T U : Type 0} (subscriber limit : ℕ) (found : Option ℕ) (old new : PublisherPort T U) (answer : Result ℕ AllocError)
    → Joins subscriber limit found old answer new → Borrows old new
borrows_joins subscriber limit (Some index) old new answer joins = borrows_is old new joins.1
borrows_joins subscriber limit None old new (Err error) joins = borrows_is old new joins
borrows_joins subscriber limit None old new (Ok index) joins = record {
  each = λ other. omega (
    arith,
    placed_borrows (index == length old.sender.uses.connections) old.sender.uses.connections index limit other joins.0,
    ap (λ port. length (connection_of other port).borrowed) joins.2,
  );
}

pub borrows_attaches : {T U : Type 0} (subscriber limit : ℕ) (old new : PublisherPort T U) (answer : Result ℕ AllocError)
    → Attaches subscriber limit old answer new → Borrows old new
borrows_attaches subscriber limit old new (Err error) attaches = borrows_is old new attaches.1
borrows_attaches subscriber limit old new (Ok index) attaches =
    borrows_on old attaches.0 new (borrows_joins subscriber limit (connection_to subscriber old) old attaches.0 (Ok index) attaches.1)
    (borrows_same attaches.0 new (ap (λ port. port.sender.uses.connections) attaches.2))

-- a place is untied, or followed
borrows_let_go : {T U : Type 0} (place : ℕ) (tie : Option ℕ) (port : PublisherPort T U) → Borrows port (let_go_of place tie port)
borrows_let_go place None port = borrows_is port port refl
borrows_let_go {T} {U} place (Some index) port =
    let gone : PublisherPort T U = record port { ties = tie_put place None port.ties } in
    borrows_on port gone _ (borrows_same port gone refl) (borrows_ended index gone)

borrows_untied : {T U : Type 0} (place : ℕ) (port : PublisherPort T U) → Borrows port (untied place port)
borrows_untied place port = borrows_let_go place (get_or port.ties.items place None) port

borrows_untied_from : {T U : Type 0} (count place : ℕ) (port : PublisherPort T U) → Borrows port (untied_from count place port)
borrows_untied_from zero place port = borrows_is port port refl
borrows_untied_from (suc count) place port
    = borrows_on port (untied place port) _ (borrows_untied place port) (borrows_untied_from count (place + 1) (untied place port))

borrows_greeted : {T U : Type 0} (index : ℕ) (waiting : List (Message T U)) (port : PublisherPort T U)
    → Borrows port (greeted_at index waiting port)
borrows_greeted index [] port = borrows_set port _ index (welcomed port.sender.uses.history (connection_of index port)) refl (omega arith)
borrows_greeted index (message ∷ waiting) port = borrows_is port port refl

borrows_welcomed : {T U : Type 0} (index : ℕ) (port : PublisherPort T U) → Borrows port (welcomed_at index port)
borrows_welcomed index port = borrows_if (is_live index port) port _ port
    (borrows_greeted index (connection_of index port).waiting port) (borrows_is port port refl)

borrows_ties : {T U : Type 0} (place : ℕ) (entry : SubscriberEntry) (old new : PublisherPort T U)
    (outcome : Result (Unit {0}) AllocError) → Ties place entry old outcome new → Borrows old new
borrows_ties place entry old new (Err error) ties = borrows_is old new ties.1
borrows_ties {T} {U} place entry old new (Ok done) ties =
    let (index, joined, joins, is) = ties in
    let given : PublisherPort T U = record joined { ties = tie_put place (Some index) joined.ties } in
    borrows_on old joined new
    (borrows_on old (within_reach place old) joined (borrows_same old (within_reach place old) refl)
    (borrows_joins entry.subscriber _ (connection_to entry.subscriber old) (within_reach place old) joined (Ok index) joins))
    (borrows_to joined (tied place index joined) new is
    (borrows_on joined given _ (borrows_same joined given refl) (borrows_welcomed index given)))

borrows_follows_to : {T U : Type 0} (place : ℕ) (entry : SubscriberEntry) (is_tie : Bool) (old new : PublisherPort T U)
    (outcome : Result (Unit {0}) AllocError) → FollowsTo place entry is_tie old outcome new → Borrows old new
borrows_follows_to place entry true old new outcome follows = borrows_is old new follows.1
borrows_follows_to place entry false old new outcome follows
    = borrows_on old (untied place old) new (borrows_untied place old) (borrows_ties place entry (untied place old) new outcome follows)

borrows_follows : {T U : Type 0} (place : ℕ) (listed : Option (Member SubscriberEntry)) (old new : PublisherPort T U)
    (outcome : Result (Unit {0}) AllocError) → Follows place listed old outcome new → Borrows old new
borrows_follows place None old new outcome follows = borrows_to old (untied place old) new follows.1 (borrows_untied place old)
borrows_follows place (Some member) old new outcome follows =
    borrows_follows_to place member.value (is_tie_to member.value.subscriber (get_or old.ties.items place None) old) old new outcome follows

borrows_follows_all : {T U : Type 0} (may : DegradationInfo → DegradationAction → Type 0) (place : ℕ)
    (listed : List (Option (Member SubscriberEntry))) (found : Option ConnectionFailure) (old new : PublisherPort T U)
    (answer : Result (Unit {0}) ConnectionFailure)
    → FollowsAll may place listed found old answer new → Borrows old new
borrows_follows_all may place [] found old new answer follows
    = borrows_to old _ new follows.1 (borrows_untied_from (length old.ties.items - place) place old)
borrows_follows_all may place (listed ∷ rest) found old new answer follows =
    let (outcome, next, after, one, asks, further) = follows in
    borrows_on old next new (borrows_follows place listed old next outcome one)
    (borrows_follows_all may (place + 1) rest after next new answer further)

borrows_updates_if : {T U : Type 0} (seen : Bool) (may : DegradationInfo → DegradationAction → Type 0)
    (listed : List (Option (Member SubscriberEntry))) (changes : ℕ) (old new : PublisherPort T U)
    (answer : Result (Unit {0}) ConnectionFailure)
    → UpdatesIf seen may listed changes old answer new → Borrows old new
borrows_updates_if true may listed changes old new answer updates = borrows_is old new updates.1
borrows_updates_if {T} {U} false may listed changes old new answer updates =
    let begun : PublisherPort T U = record old { seen = changes } in
    borrows_on old begun new (borrows_same old begun refl) (borrows_follows_all may 0 listed None begun new answer updates)

borrows_updates : {T U : Type 0} (may : DegradationInfo → DegradationAction → Type 0) (listed : List (Option (Member SubscriberEntry)))
    (changes : ℕ) (old new : PublisherPort T U) (answer : Result (Unit {0}) ConnectionFailure)
    → Updates may listed changes old answer new → Borrows old new
borrows_updates may listed changes old new answer updates
    = borrows_updates_if (old.seen == changes) may listed changes old new answer updates

-- so it is with each step of a publisher that follows no list
pub borrows_carries : {T U : Type 0} → Carries (λ (old : PublisherPort T U) (new : PublisherPort T U). Borrows old new)
borrows_carries = record {
  is = borrows_is;
  on = borrows_on;
  still = λ old new connections ties readers stands sizes. borrows_same old new connections;
  waiting = λ index waiting port live few. borrows_set port _ index (record (connection_of index port) { waiting = waiting }) refl
      (omega arith);
}

-- it leaves
borrows_parted : {T U : Type 0} (index : ℕ) (port : PublisherPort T U) → Borrows port (parted_at index port)
borrows_parted index port = borrows_if (is_attached (get_or port.readers index None)) port port _ (borrows_is port port refl)
    (borrows_ended index port)

borrows_parted_from : {T U : Type 0} (count index : ℕ) (port : PublisherPort T U) → Borrows port (parted_from count index port)
borrows_parted_from zero index port = borrows_is port port refl
borrows_parted_from (suc count) index port
    = borrows_on port (parted_at index port) _ (borrows_parted index port) (borrows_parted_from count (index + 1) (parted_at index port))

pub borrows_departed : {T U : Type 0} (port : PublisherPort T U) → Borrows port (departed port)
borrows_departed {T} {U} port =
    let left : PublisherPort T U = record port { stands = false } in
    borrows_on port left _ (borrows_same port left refl) (borrows_parted_from (length port.sender.uses.connections) 0 left)

-- the oldest message is borrowed besides
pub borrows_taken : {T U : Type 0} (index : ℕ) (port : PublisherPort T U) → Borrows port (taken_at index port)
borrows_taken index port =
    let connection = connection_of index port in
    borrows_set port _ index (taken connection) refl (omega (arith, length-append connection.borrowed (take 1 connection.waiting)))

-- the calls by number
borrows_update_one : {T U : Type 0} (free : Bool) (may : DegradationInfo → DegradationAction → Type 0)
    (list : RollState SubscriberEntry) (old new : PublisherPort T U) (answer : Option (Result (Unit {0}) ConnectionFailure))
    → publishing.UpdatesIf free may list old answer new → Borrows old new
borrows_update_one false may list old new answer updates = borrows_is old new updates.1
borrows_update_one true may list old new answer updates = borrows_updates may updates.0 list.changes old new updates.2 updates.3

pub borrows_updates_one : {T U : Type 0} (may : DegradationInfo → DegradationAction → Type 0) (list : RollState SubscriberEntry)
    (old new : PublisherPort T U) (answer : Option (Result (Unit {0}) ConnectionFailure)) → UpdatesOne may list old answer new
    → Borrows old new
borrows_updates_one may list old new answer updates = borrows_update_one (is_free old) may list old new answer updates

pub borrows_sends_one : {T U : Type 0} (may_degrade : DegradationInfo → DegradationAction → Type 0)
    (may : BackpressureInfo → BackpressureDecision → Type 0) (list : RollState SubscriberEntry) (slot : ℕ) (old new : PublisherPort T U)
    (answer : Option (Result Sent SendError)) → SendsOne may_degrade may list slot old answer new → Borrows old new
borrows_sends_one may_degrade may list slot old new answer sends =
    carry_sends borrows_carries may_degrade may sends.0 list.changes (ready_loan slot old) old new answer
    (λ stands outcome updated updates. borrows_updates may_degrade sends.0 list.changes old updated outcome updates) sends.2
