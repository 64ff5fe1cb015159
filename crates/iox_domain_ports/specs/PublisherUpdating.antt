-- A publisher follows the list of subscribers.
use Rattle.std.specs.Prelude.{zero, suc, ℕ, ◌+◌, ◌-◌, ◌==◌, ◌≡◌, ◌||◌, min, nat_le, is_ok, is_none, Bool, true, false, List, [], ◌∷◌}
use Rattle.std.specs.Prelude.{length, get_or, Option, None, Some, Result, Ok, Err}
use Rattle.std.specs.declared.alloc.AllocError.{AllocError}
use Rattle.iox_domain_values.specs.declared.connection_failure.ConnectionFailure.{ConnectionFailure}
use Rattle.iox_domain_values.specs.declared.connection_failure.ConnectionFailure.TheVariants.{FailedToEstablishConnection}
use Rattle.iox_domain_values.specs.declared.connection_failure.ZeroCopyCreationError.TheVariants as creation
use Rattle.iox_domain_values.specs.declared.degradation.DegradationAction.{DegradationAction}
use Rattle.iox_domain_values.specs.declared.degradation.DegradationAction.TheVariants as action
use Rattle.iox_domain_values.specs.declared.degradation.DegradationInfo.{DegradationInfo}
use Rattle.iox_domain_slots.specs.Container.declared.container.Member.{Member}
use Rattle.iox_domain_ports.specs.Places.{leads_to}
use Rattle.iox_domain_ports.specs.Ties.{ties_reached, tie_put}
use Rattle.iox_domain_ports.specs.Ports.{connection_to, with_connections, Joins, ended_at, welcomed_at}
use Rattle.iox_domain_ports.specs.declared.publisher_port.PublisherPort.{PublisherPort}
use Rattle.iox_domain_ports.specs.declared.subscriber_entry.SubscriberEntry.{SubscriberEntry}

-- Whether the tie leads to this subscriber.
abbrev pub is_tie_to : {T U : Type 0} → ℕ → Option ℕ → PublisherPort T U → Bool
is_tie_to subscriber None port = false
is_tie_to subscriber (Some index) port = leads_to subscriber (get_or port.readers index None)

-- The publisher after the place was untied, and the connection to which it was tied ended.
abbrev pub let_go_of : {T U : Type 0} → ℕ → Option ℕ → PublisherPort T U → PublisherPort T U
let_go_of place None port = port
let_go_of place (Some index) port = ended_at index (record port { ties = tie_put place None port.ties })

-- The publisher after the place was untied and its connection, if it was tied to one, ended.
abbrev pub untied : {T U : Type 0} → ℕ → PublisherPort T U → PublisherPort T U
untied place port = let_go_of place (get_or port.ties.items place None) port

-- The publisher after `count` places from `place` on were untied and their connections ended.
abbrev pub untied_from : {T U : Type 0} → ℕ → ℕ → PublisherPort T U → PublisherPort T U
untied_from zero place port = port
untied_from (suc count) place port = untied_from count (place + 1) (untied place port)

-- The publisher whose ties reach at least to this place.
abbrev pub within_reach : {T U : Type 0} → ℕ → PublisherPort T U → PublisherPort T U
within_reach place port = record port { ties = ties_reached (place + 1) port.ties }

-- The publisher after the place was tied to the connection at this index, which first gets the history if it is new.
abbrev pub tied : {T U : Type 0} → ℕ → ℕ → PublisherPort T U → PublisherPort T U
tied place index port = welcomed_at index (record port { ties = tie_put place (Some index) port.ties })

-- Whether tying a place to a subscriber may fail: the place is beyond the capacity for ties, or no connection leads to the
-- subscriber yet, so that one must be allocated.
abbrev pub may_fail : {T U : Type 0} → ℕ → ℕ → PublisherPort T U → Bool
may_fail place subscriber port = nat_le port.ties.room place || is_none (connection_to subscriber port)

-- The place is tied to the connection of its subscriber, which is made if there is none. As many messages may wait there as the
-- subscriber asks for, up to the publisher's limit. It fails only if `may_fail` says so, and then nothing changes.
abbrev pub Ties : {T U : Type 0} → ℕ → SubscriberEntry → PublisherPort T U → Result (Unit {0}) AllocError → PublisherPort T U → Type 0
Ties place entry old (Err error) new = (may_fail place entry.subscriber old ≡ true) × (new ≡ old)
Ties {T} {U} place entry old (Ok done) new =
    (index : ℕ) × (joined : PublisherPort T U)
    × (Joins entry.subscriber (min entry.buffer_size old.sender.uses.most_waiting) (connection_to entry.subscriber old)
    (within_reach place old) (Ok index) joined)
    × (new ≡ tied place index joined)

-- If the place is tied to the listed subscriber, nothing changes; otherwise the place is untied first and then tied to that
-- subscriber.
abbrev pub FollowsTo : {T U : Type 0} → ℕ → SubscriberEntry → Bool → PublisherPort T U → Result (Unit {0}) AllocError
    → PublisherPort T U → Type 0
FollowsTo place entry true old answer new = (answer ≡ Ok tt) × (new ≡ old)
FollowsTo place entry false old answer new = Ties place entry (untied place old) answer new

-- What happens at a place that lists this subscriber, or none.
abbrev pub Follows : {T U : Type 0} → ℕ → Option (Member SubscriberEntry) → PublisherPort T U → Result (Unit {0}) AllocError
    → PublisherPort T U → Type 0
Follows place None old answer new = (answer ≡ Ok tt) × (new ≡ untied place old)
Follows place (Some member) old answer new =
    FollowsTo place member.value (is_tie_to member.value.subscriber (get_or old.ties.items place None) old) old answer new

-- What the handler is given about a connection that failed.
abbrev pub told_of : {T U : Type 0} → SubscriberEntry → PublisherPort T U → DegradationInfo
told_of entry port = record { service_id = port.service; sender_port_id = port.number; receiver_port_id = entry.subscriber }

-- The failure of a connection for which memory ran out.
abbrev pub no_memory : ConnectionFailure
no_memory = FailedToEstablishConnection creation.OutOfMemory

-- The failure that the call returns in the end: the first one for which the handler said `DegradeAndFail`.
abbrev pub first_failure : Option ConnectionFailure → ConnectionFailure → DegradationAction → Option ConnectionFailure
first_failure found failure action.Ignore = found
first_failure found failure action.Warn = found
first_failure None failure action.DegradeAndFail = Some failure
first_failure (Some found) failure action.DegradeAndFail = Some found

-- What an update answers for the failure that was found, if one was.
abbrev pub update_answer : Option ConnectionFailure → Result (Unit {0}) ConnectionFailure
update_answer None = Ok tt
update_answer (Some failure) = Err failure

-- What is found after a place: if its connection failed, the handler decides.
abbrev pub Asks : {T U : Type 0} → (DegradationInfo → DegradationAction → Type 0) → Option (Member SubscriberEntry) → PublisherPort T U
    → Option ConnectionFailure → Bool → Option ConnectionFailure → Type 0
Asks may listed port found true after = after ≡ found
Asks may None port found false after = after ≡ found
Asks may (Some member) port found false after =
    (action : DegradationAction) × may (told_of member.value port) action × (after ≡ first_failure found no_memory action)

-- The places from `place` on are followed one after the other; places past the end of the list are followed as empty ones. The call
-- returns the first failure that the handler let fail.
abbrev pub FollowsAll : {T U : Type 0} → (DegradationInfo → DegradationAction → Type 0) → ℕ → List (Option (Member SubscriberEntry))
    → Option ConnectionFailure → PublisherPort T U → Result (Unit {0}) ConnectionFailure → PublisherPort T U → Type 0
FollowsAll may place [] found old answer new = (answer ≡ update_answer found)
    × (new ≡ untied_from (length old.ties.items - place) place old)
FollowsAll {T} {U} may place (listed ∷ rest) found old answer new =
    (outcome : Result (Unit {0}) AllocError) × (next : PublisherPort T U) × (after : Option ConnectionFailure)
    × Follows place listed old outcome next × Asks may listed next found (is_ok outcome) after
    × FollowsAll may (place + 1) rest after next answer new

-- If the list is unchanged nothing happens; otherwise each of its places is followed.
abbrev pub UpdatesIf : {T U : Type 0} → Bool → (DegradationInfo → DegradationAction → Type 0) → List (Option (Member SubscriberEntry))
    → ℕ → PublisherPort T U → Result (Unit {0}) ConnectionFailure → PublisherPort T U → Type 0
UpdatesIf true may listed changes old answer new = (answer ≡ Ok tt) × (new ≡ old)
UpdatesIf false may listed changes old answer new = FollowsAll may 0 listed None (record old { seen = changes }) answer new

-- What an update answers and changes: nothing, if the list of subscribers didn't change since the last one; otherwise each of
-- its places is followed.
abbrev pub Updates : {T U : Type 0} → (DegradationInfo → DegradationAction → Type 0) → List (Option (Member SubscriberEntry)) → ℕ
    → PublisherPort T U → Result (Unit {0}) ConnectionFailure → PublisherPort T U → Type 0
Updates may listed changes old answer new =
    UpdatesIf (old.seen == changes) may listed changes old answer new

-- At most the connections, ties and readers changed, and the number of changes of the list that the publisher has seen.
abbrev pub OnlyConnections : {T U : Type 0} → PublisherPort T U → PublisherPort T U → Type 0
OnlyConnections old new = new ≡ record (with_connections new.sender.uses.connections old)
    { seen = new.seen; ties = new.ties; readers = new.readers }
