-- A subscriber follows the list of publishers.
use Rattle.std.specs.Prelude.{ℕ, zero, suc, ◌+◌, ◌==◌, ◌≡◌, ◌&&◌, ◌||◌, is_some, not, Bool, true, false, List, [], ◌∷◌, length, get_or}
use Rattle.std.specs.Prelude.{Option, None, Some, Result, Ok, Err}
use Rattle.iox_domain_values.specs.declared.connection_failure.ConnectionFailure.{ConnectionFailure}
use Rattle.iox_domain_values.specs.declared.connection_failure.ConnectionFailure.TheVariants.{FailedToEstablishConnection}
use Rattle.iox_domain_values.specs.declared.connection_failure.ZeroCopyCreationError.{ZeroCopyCreationError}
use Rattle.iox_domain_values.specs.declared.connection_failure.ZeroCopyCreationError.TheVariants as creation
use Rattle.iox_domain_values.specs.declared.degradation.DegradationAction.{DegradationAction}
use Rattle.iox_domain_values.specs.declared.degradation.DegradationInfo.{DegradationInfo}
use Rattle.iox_domain_values.specs.declared.port_error.ReceiveError.{ReceiveError}
use Rattle.iox_domain_values.specs.declared.port_error.ReceiveError.TheVariants as receiving
use Rattle.iox_domain_slots.specs.Container.declared.container.Member.{Member}
use Rattle.iox_domain_ports.specs.PublisherUpdating.{first_failure, update_answer}
use Rattle.iox_domain_ports.specs.declared.publisher_port.PublisherPort.{PublisherPort}
use Rattle.iox_domain_ports.specs.Subscribing.{has_data}
use Rattle.iox_domain_ports.specs.Receiving.{IsFirst, Receives}
use Rattle.iox_domain_ports.specs.Following.{FollowsListed, FollowsNone, lacks_at}
use Rattle.iox_domain_ports.specs.declared.attached.Taken.{Taken}
use Rattle.iox_domain_ports.specs.declared.publisher_entry.PublisherEntry.{PublisherEntry}
use Rattle.iox_domain_ports.specs.declared.subscriber_port.SubscriberPort.{SubscriberPort}

-- What the handler is given about a connection that failed.
abbrev pub told_of : PublisherEntry → SubscriberPort → DegradationInfo
told_of entry port = record { service_id = port.service; sender_port_id = entry.publisher; receiver_port_id = port.number }

-- A place that lists a publisher is followed; at a place that lists none nothing happens yet.
abbrev pub FollowsOne : {T U : Type 0} → ℕ → Option (Member PublisherEntry) → SubscriberPort → List (ℕ × PublisherPort T U)
    → Result (Unit {0}) ZeroCopyCreationError → SubscriberPort → List (ℕ × PublisherPort T U) → Type 0
FollowsOne place None port ports outcome new new_ports = (outcome ≡ Ok tt) × (new ≡ port) × (new_ports ≡ ports)
FollowsOne place (Some member) port ports outcome new new_ports
    = FollowsListed place member.value.publisher port ports outcome new new_ports

-- A publisher is followed if it is tried. Otherwise its connection fails as before, and nothing changes.
abbrev pub FollowsTried : {T U : Type 0} → Bool → ℕ → ℕ → SubscriberPort → List (ℕ × PublisherPort T U)
    → Result (Unit {0}) ZeroCopyCreationError → SubscriberPort → List (ℕ × PublisherPort T U) → Type 0
FollowsTried true place number port ports outcome new new_ports = FollowsListed place number port ports outcome new new_ports
FollowsTried false place number port ports outcome new new_ports = (outcome ≡ Err creation.OutOfMemory) × (new ≡ port)
    × (new_ports ≡ ports)

-- A place that lists a publisher is followed, unless the list is as it was and a connection would have to be made: that failed when
-- the list changed, and isn't tried again. At a place that lists none nothing happens yet.
abbrev pub FollowsExactly : {T U : Type 0} → Bool → ℕ → Option (Member PublisherEntry) → SubscriberPort → List (ℕ × PublisherPort T U)
    → Result (Unit {0}) ZeroCopyCreationError → SubscriberPort → List (ℕ × PublisherPort T U) → Type 0
FollowsExactly is_new place None port ports outcome new new_ports = (outcome ≡ Ok tt) × (new ≡ port) × (new_ports ≡ ports)
FollowsExactly is_new place (Some member) port ports outcome new new_ports =
    FollowsTried (is_new || not (lacks_at place member.value.publisher port ports)) place member.value.publisher port ports outcome new
    new_ports

-- What is found after a place: if its connection failed, the handler decides.
abbrev pub AsksOf : (DegradationInfo → DegradationAction → Type 0) → Option (Member PublisherEntry) → SubscriberPort
    → Option ConnectionFailure → Result (Unit {0}) ZeroCopyCreationError → Option ConnectionFailure → Type 0
AsksOf may None port found outcome after = after ≡ found
AsksOf may (Some member) port found (Ok done) after = after ≡ found
AsksOf may (Some member) port found (Err failure) after =
    (action : DegradationAction) × may (told_of member.value port) action
    × (after ≡ first_failure found (FailedToEstablishConnection failure) action)

-- The places from `place` on that list a publisher are followed one after the other; `after` is the first failure that the
-- handler let fail.
abbrev pub FollowsFrom : {T U : Type 0} → (DegradationInfo → DegradationAction → Type 0) → ℕ → List (Option (Member PublisherEntry))
    → Option ConnectionFailure → SubscriberPort → List (ℕ × PublisherPort T U) → Option ConnectionFailure → SubscriberPort
    → List (ℕ × PublisherPort T U) → Type 0
FollowsFrom may place [] found port ports after new new_ports = (after ≡ found) × (new ≡ port) × (new_ports ≡ ports)
FollowsFrom {T} {U} may place (listed ∷ rest) found port ports after new new_ports =
    (outcome : Result (Unit {0}) ZeroCopyCreationError) × (next : SubscriberPort) × (next_ports : List (ℕ × PublisherPort T U))
    × (then_found : Option ConnectionFailure)
    × FollowsOne place listed port ports outcome next next_ports × AsksOf may listed next found outcome then_found
    × FollowsFrom may (place + 1) rest then_found next next_ports after new new_ports

-- The same walk, of which each place is followed as `FollowsExactly` says; `is_new` says whether the list changed since the last update.
abbrev pub FollowsEach : {T U : Type 0} → (DegradationInfo → DegradationAction → Type 0) → Bool → ℕ
    → List (Option (Member PublisherEntry)) → Option ConnectionFailure → SubscriberPort → List (ℕ × PublisherPort T U)
    → Option ConnectionFailure → SubscriberPort → List (ℕ × PublisherPort T U) → Type 0
FollowsEach may is_new place [] found port ports after new new_ports = (after ≡ found) × (new ≡ port) × (new_ports ≡ ports)
FollowsEach {T} {U} may is_new place (listed ∷ rest) found port ports after new new_ports =
    (outcome : Result (Unit {0}) ZeroCopyCreationError) × (next : SubscriberPort) × (next_ports : List (ℕ × PublisherPort T U))
    × (then_found : Option ConnectionFailure)
    × FollowsExactly is_new place listed port ports outcome next next_ports × AsksOf may listed next found outcome then_found
    × FollowsEach may is_new (place + 1) rest then_found next next_ports after new new_ports

-- Whether the place lists a publisher.
abbrev pub is_listed : List (Option (Member PublisherEntry)) → ℕ → Bool
is_listed listed place = is_some (get_or listed place None)

-- The place is followed as one that lists no publisher, unless it lists one.
abbrev pub FollowsNoneIf : {T U : Type 0} → Bool → ℕ → SubscriberPort → List (ℕ × PublisherPort T U) → SubscriberPort
    → List (ℕ × PublisherPort T U) → Type 0
FollowsNoneIf true place port ports new new_ports = (new ≡ port) × (new_ports ≡ ports)
FollowsNoneIf false place port ports new new_ports = FollowsNone place port ports new new_ports

-- Of the `count` places from `place` on, those that list no publisher are followed, one after the other.
abbrev pub FollowsNones : {T U : Type 0} → List (Option (Member PublisherEntry)) → ℕ → ℕ → SubscriberPort → List (ℕ × PublisherPort T U)
    → SubscriberPort → List (ℕ × PublisherPort T U) → Type 0
FollowsNones listed place zero port ports new new_ports = (new ≡ port) × (new_ports ≡ ports)
FollowsNones {T} {U} listed place (suc count) port ports new new_ports =
    (next : SubscriberPort) × (next_ports : List (ℕ × PublisherPort T U))
    × FollowsNoneIf (is_listed listed place) place port ports next next_ports
    × FollowsNones listed (place + 1) count next next_ports new new_ports

-- The places that list a publisher are followed first, and then those that list none.
abbrev pub FollowsList : {T U : Type 0} → (DegradationInfo → DegradationAction → Type 0) → List (Option (Member PublisherEntry))
    → SubscriberPort → List (ℕ × PublisherPort T U) → Result (Unit {0}) ConnectionFailure → SubscriberPort
    → List (ℕ × PublisherPort T U) → Type 0
FollowsList {T} {U} may listed port ports answer new new_ports =
    (found : Option ConnectionFailure) × (between : SubscriberPort) × (between_ports : List (ℕ × PublisherPort T U))
    × FollowsFrom may 0 listed None port ports found between between_ports
    × FollowsNones listed 0 (length between.places.items) between between_ports new new_ports × (answer ≡ update_answer found)

-- The same, with each place followed as `FollowsExactly` says.
abbrev pub FollowsListEach : {T U : Type 0} → (DegradationInfo → DegradationAction → Type 0) → Bool → List (Option (Member PublisherEntry))
    → SubscriberPort → List (ℕ × PublisherPort T U) → Result (Unit {0}) ConnectionFailure → SubscriberPort
    → List (ℕ × PublisherPort T U) → Type 0
FollowsListEach {T} {U} may is_new listed port ports answer new new_ports =
    (found : Option ConnectionFailure) × (between : SubscriberPort) × (between_ports : List (ℕ × PublisherPort T U))
    × FollowsEach may is_new 0 listed None port ports found between between_ports
    × FollowsNones listed 0 (length between.places.items) between between_ports new new_ports × (answer ≡ update_answer found)

-- If nothing is to be followed nothing happens; otherwise the list is followed.
abbrev pub UpdatesIf : {T U : Type 0} → Bool → (DegradationInfo → DegradationAction → Type 0) → List (Option (Member PublisherEntry))
    → ℕ → SubscriberPort → List (ℕ × PublisherPort T U) → Result (Unit {0}) ConnectionFailure → SubscriberPort
    → List (ℕ × PublisherPort T U) → Type 0
UpdatesIf true may listed changes port ports answer new new_ports = (answer ≡ Ok tt) × (new ≡ port) × (new_ports ≡ ports)
UpdatesIf false may listed changes port ports answer new new_ports
    = FollowsList may listed (record port { seen = changes; again = false }) ports answer new new_ports

-- What an update answers and changes: nothing, if the list of publishers didn't change since the last update and that update refused
-- no publisher; otherwise the list is followed.
abbrev pub Updates : {T U : Type 0} → (DegradationInfo → DegradationAction → Type 0) → List (Option (Member PublisherEntry)) → ℕ
    → SubscriberPort → List (ℕ × PublisherPort T U) → Result (Unit {0}) ConnectionFailure → SubscriberPort
    → List (ℕ × PublisherPort T U) → Type 0
Updates may listed changes port ports answer new new_ports
    = UpdatesIf ((port.seen == changes) && not port.again) may listed changes port ports answer new new_ports

-- The same exactly: nothing happens, or the list is followed, and `is_new` says whether it changed.
abbrev pub UpdatesEachIf : {T U : Type 0} → Bool → (DegradationInfo → DegradationAction → Type 0) → List (Option (Member PublisherEntry))
    → ℕ → SubscriberPort → List (ℕ × PublisherPort T U) → Result (Unit {0}) ConnectionFailure → SubscriberPort
    → List (ℕ × PublisherPort T U) → Type 0
UpdatesEachIf true may listed changes port ports answer new new_ports = (answer ≡ Ok tt) × (new ≡ port) × (new_ports ≡ ports)
UpdatesEachIf false may listed changes port ports answer new new_ports
    = FollowsListEach may (not (port.seen == changes)) listed (record port { seen = changes; again = false }) ports answer new new_ports

-- What an update tries: a list that changed is followed at each place. If it is as it was, and a publisher was refused, since the former
-- connection at its place could neither end nor expire, no connection is made but at such a place; one that failed for memory fails as
-- before.
abbrev pub UpdatesEach : {T U : Type 0} → (DegradationInfo → DegradationAction → Type 0) → List (Option (Member PublisherEntry)) → ℕ
    → SubscriberPort → List (ℕ × PublisherPort T U) → Result (Unit {0}) ConnectionFailure → SubscriberPort
    → List (ℕ × PublisherPort T U) → Type 0
UpdatesEach may listed changes port ports answer new new_ports
    = UpdatesEachIf ((port.seen == changes) && not port.again) may listed changes port ports answer new new_ports

-- What the call answers after its update: the failure, if the update failed; otherwise whether some connection has data.
abbrev pub HasSamplesAfter : {T U : Type 0} → Result (Unit {0}) ConnectionFailure → SubscriberPort → List (ℕ × PublisherPort T U)
    → Result Bool ConnectionFailure → Type 0
HasSamplesAfter (Err failure) port ports answer = answer ≡ Err failure
HasSamplesAfter (Ok done) port ports answer = (unread : Option ℕ) × IsFirst (has_data port ports) unread × (answer ≡ Ok (is_some unread))

-- What the call answers and changes: it updates, and then says whether some connection, also an expired one, has data.
abbrev pub HasSamples : {T U : Type 0} → (DegradationInfo → DegradationAction → Type 0) → List (Option (Member PublisherEntry)) → ℕ
    → SubscriberPort → List (ℕ × PublisherPort T U) → Result Bool ConnectionFailure → SubscriberPort → List (ℕ × PublisherPort T U) → Type 0
HasSamples may listed changes port ports answer new new_ports =
    (updated : Result (Unit {0}) ConnectionFailure) × Updates may listed changes port ports updated new new_ports
    × HasSamplesAfter updated new new_ports answer

-- What a receive does after its update: if the update failed, it returns the failure and receives nothing.
abbrev pub ReceivesAfter : {T U : Type 0} → Result (Unit {0}) ConnectionFailure → SubscriberPort → List (ℕ × PublisherPort T U)
    → Result (Option Taken) ReceiveError → SubscriberPort → List (ℕ × PublisherPort T U) → Type 0
ReceivesAfter (Err failure) port ports answer new new_ports = (answer ≡ Err (receiving.ConnectionFailure failure)) × (new ≡ port)
    × (new_ports ≡ ports)
ReceivesAfter (Ok done) port ports answer new new_ports = Receives port ports answer new new_ports

-- What a receive answers and changes: the subscriber updates, and then receives a message.
abbrev pub ReceivesNext : {T U : Type 0} → (DegradationInfo → DegradationAction → Type 0) → List (Option (Member PublisherEntry)) → ℕ
    → SubscriberPort → List (ℕ × PublisherPort T U) → Result (Option Taken) ReceiveError → SubscriberPort → List (ℕ × PublisherPort T U)
    → Type 0
ReceivesNext {T} {U} may listed changes port ports answer new new_ports =
    (updated : Result (Unit {0}) ConnectionFailure) × (between : SubscriberPort) × (between_ports : List (ℕ × PublisherPort T U))
    × Updates may listed changes port ports updated between between_ports × ReceivesAfter updated between between_ports answer new new_ports
