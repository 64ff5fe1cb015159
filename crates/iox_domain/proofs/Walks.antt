-- What each step of a subscriber does to the publishers, put together to what a call does to them.
use Rattle.std.proofs.Common.{◌≡◌, ◌+◌, ◌&&◌, ◌==◌, ◌∷◌, [], ℕ, zero, suc, Bool, true, false, not, List, get_or, length, slice_get}
use Rattle.std.proofs.Common.{nat_le, nat_lt, inl, inr, sym, Option, None, Some, Result, Ok, Err, refl, ap, ◌∙◌, if◌then◌else◌}
use Rattle.std.specs.declared.alloc.AllocError.{AllocError}
use Rattle.iox_domain.specs.Container.declared.container.Member.{Member}
use Rattle.iox_domain.specs.DomainValues.declared.connection_failure.ConnectionFailure.{ConnectionFailure}
use Rattle.iox_domain.specs.DomainValues.declared.connection_failure.ZeroCopyCreationError.{ZeroCopyCreationError}
use Rattle.iox_domain.specs.DomainValues.declared.degradation.DegradationAction.{DegradationAction}
use Rattle.iox_domain.specs.DomainValues.declared.degradation.DegradationInfo.{DegradationInfo}
use Rattle.iox_domain.specs.DomainValues.declared.port_error.ReceiveError.{ReceiveError}
use Rattle.iox_domain.specs.DomainPorts.Ports.{detached_at}
use Rattle.iox_domain.specs.DomainPorts.declared.publisher_port.PublisherPort.{PublisherPort}
use Rattle.iox_domain.specs.DomainPorts.Following.{is_of, is_unborrowed, replaced_port, replaced_ports, PartsFor, PartsBorrowed}
use Rattle.iox_domain.specs.DomainPorts.Following.{PartsOver, PartsIf, Parts, ConnectsBy, Connects, unplaced, FollowsFreed, FollowsKey}
use Rattle.iox_domain.specs.DomainPorts.Following.{FollowsAt, freed_if, FollowsNoneAt}
use Rattle.iox_domain.specs.DomainPorts.Publishers.{changed, stands_in, AttachesTo}
use Rattle.iox_domain.specs.DomainPorts.Receiving.{dropped_port, dropped_ports, is_idle_at, swept, given_ports, left_at, left_all, IsMet}
use Rattle.iox_domain.specs.DomainPorts.Receiving.{IsGiver, Serves}
use Rattle.iox_domain.specs.DomainPorts.Subscribing.{attached_at, connection_by, most_by, has_data, is_below, gives, is_idle, without_key}
use Rattle.iox_domain.specs.DomainPorts.Subscribing.{ended_key, ended_ports, taken_ports}
use Rattle.iox_domain.specs.DomainPorts.SubscriberUpdating.{FollowsOne, FollowsFrom, FollowsNoneIf, FollowsNones, UpdatesIf, Updates}
use Rattle.iox_domain.specs.DomainPorts.SubscriberUpdating.{is_listed, ReceivesAfter, ReceivesNext}
use Rattle.iox_domain.specs.DomainPorts.declared.attached.Attached.{Attached}
use Rattle.iox_domain.specs.DomainPorts.declared.attached.Taken.{Taken}
use Rattle.iox_domain.specs.DomainPorts.declared.publisher_entry.PublisherEntry.{PublisherEntry}
use Rattle.iox_domain.specs.DomainPorts.declared.subscriber_port.SubscriberPort.{SubscriberPort}

-- whether fewer messages of a connection are borrowed than may be
abbrev pub may_borrow : {T U : Type 0} → Option Attached → List (ℕ × PublisherPort T U) → Bool
may_borrow attached ports = nat_lt (length (connection_by attached ports).borrowed) (most_by attached ports)

-- What is true between the publishers before each step of a subscriber and after it, and from step to step.
pub record Walks {T U : Type 0} (subscriber : ℕ) (R : List (ℕ × PublisherPort T U) → List (ℕ × PublisherPort T U) → Type 0) : Type 0 where
  pub stays : (ports : List (ℕ × PublisherPort T U)) → R ports ports
  pub on : (old between new : List (ℕ × PublisherPort T U)) → R old between → R between new → R old new
  pub attach : (number limit : ℕ) (old new : List (ℕ × PublisherPort T U)) (answer : Option (Result ℕ AllocError))
      → AttachesTo number subscriber limit old answer new → R old new
  pub end : (attached : Attached) (ports : List (ℕ × PublisherPort T U)) → R ports (ended_ports (Some attached) ports)

-- The same is true if a subscriber leaves a connection.
abbrev pub WalksLeaving : {T U : Type 0} → (List (ℕ × PublisherPort T U) → List (ℕ × PublisherPort T U) → Type 0) → Type 0
WalksLeaving {T} {U} R = (attached : Attached) (ports : List (ℕ × PublisherPort T U))
    → R ports (changed attached.publisher (detached_at attached.index) ports)

-- The same is true if the oldest waiting message of a connection is received, which has borrowed fewer than it may.
abbrev pub WalksTaking : {T U : Type 0} → (List (ℕ × PublisherPort T U) → List (ℕ × PublisherPort T U) → Type 0) → Type 0
WalksTaking {T} {U} R = (attached : Attached) (ports : List (ℕ × PublisherPort T U)) → may_borrow (Some attached) ports ≡ true
    → R ports (taken_ports (Some attached) ports)

both_true : (a b : Bool) → a && b ≡ true → a ≡ true
both_true true b is = refl
both_true false b is = cc

-- What is true after a step: it is the same subscriber, and the publishers are as described.
pub record Walked {T U : Type 0} (R : List (ℕ × PublisherPort T U) → List (ℕ × PublisherPort T U) → Type 0) (port new : SubscriberPort)
    (ports new_ports : List (ℕ × PublisherPort T U)) : Type 0 where
  pub same : new.number ≡ port.number
  pub walked : R ports new_ports

walk_stays : {T U : Type 0} {subscriber : ℕ} {R : List (ℕ × PublisherPort T U) → List (ℕ × PublisherPort T U) → Type 0}
    (w : Walks subscriber R) (ports new : List (ℕ × PublisherPort T U)) → new ≡ ports → R ports new
walk_stays w ports new is = rw is (w.stays ports)

walked_same : {T U : Type 0} {subscriber : ℕ} {R : List (ℕ × PublisherPort T U) → List (ℕ × PublisherPort T U) → Type 0}
    (w : Walks subscriber R) (port new : SubscriberPort) (ports new_ports : List (ℕ × PublisherPort T U))
    → new ≡ port → new_ports ≡ ports → Walked R port new ports new_ports
walked_same w port new ports new_ports is are = record { same = ap (λ one. one.number) is; walked = walk_stays w ports new_ports are }

walked_on : {T U : Type 0} {subscriber : ℕ} {R : List (ℕ × PublisherPort T U) → List (ℕ × PublisherPort T U) → Type 0}
    (w : Walks subscriber R) (port between new : SubscriberPort) (ports between_ports new_ports : List (ℕ × PublisherPort T U))
    → Walked R port between ports between_ports → Walked R between new between_ports new_ports → Walked R port new ports new_ports
walked_on w port between new ports between_ports new_ports one two
    = record { same = two.same ∙ one.same; walked = w.on ports between_ports new_ports one.walked two.walked }

-- a connection ends
ended_same : (key : ℕ) (attached : Option Attached) (port : SubscriberPort) → (without_key key attached port).number ≡ port.number
ended_same key None port = refl
ended_same key (Some attached) port = refl

ended_walk : {T U : Type 0} {subscriber : ℕ} {R : List (ℕ × PublisherPort T U) → List (ℕ × PublisherPort T U) → Type 0}
    (w : Walks subscriber R) (attached : Option Attached) (ports : List (ℕ × PublisherPort T U)) → R ports (ended_ports attached ports)
ended_walk w None ports = w.stays ports
ended_walk w (Some attached) ports = w.end attached ports

walked_ended : {T U : Type 0} {subscriber : ℕ} {R : List (ℕ × PublisherPort T U) → List (ℕ × PublisherPort T U) → Type 0}
    (w : Walks subscriber R) (key : ℕ) (port new : SubscriberPort) (ports new_ports : List (ℕ × PublisherPort T U))
    → new ≡ ended_key key port → new_ports ≡ ended_ports (attached_at key port) ports → Walked R port new ports new_ports
walked_ended w key port new ports new_ports is are = record {
  same = ap (λ one. one.number) is ∙ ended_same key (attached_at key port) port;
  walked = rw are (ended_walk w (attached_at key port) ports);
}

walked_dropped : {T U : Type 0} {subscriber : ℕ} {R : List (ℕ × PublisherPort T U) → List (ℕ × PublisherPort T U) → Type 0}
    (w : Walks subscriber R) (place : ℕ) (key : Option ℕ) (port : SubscriberPort) (ports : List (ℕ × PublisherPort T U))
    → Walked R port (dropped_port place key port) ports (dropped_ports key port ports)
walked_dropped w place None port ports = walked_same w port port ports ports refl refl
walked_dropped w place (Some key) port ports
    = record { same = ended_same key (attached_at key port) port; walked = ended_walk w (attached_at key port) ports }

walked_replaced : {T U : Type 0} {subscriber : ℕ} {R : List (ℕ × PublisherPort T U) → List (ℕ × PublisherPort T U) → Type 0}
    (w : Walks subscriber R) (place out key : ℕ) (port new : SubscriberPort) (ports new_ports : List (ℕ × PublisherPort T U))
    → new ≡ replaced_port place out key port → new_ports ≡ replaced_ports out port ports → Walked R port new ports new_ports
walked_replaced w place out key port new ports new_ports is are =
    let one = walked_dropped w place (Some out) port ports in
    record { same = ap (λ one. one.number) is ∙ one.same; walked = rw are (one.walked) }

-- a connection parts
walked_for : {T U : Type 0} {subscriber : ℕ} {R : List (ℕ × PublisherPort T U) → List (ℕ × PublisherPort T U) → Type 0}
    (w : Walks subscriber R) (out : Option ℕ) (place key : ℕ) (port new : SubscriberPort)
    (ports new_ports : List (ℕ × PublisherPort T U)) (is_free : Bool)
    → PartsFor out place key port ports is_free new new_ports → Walked R port new ports new_ports
walked_for w None place key port new ports new_ports is_free parts = walked_same w port new ports new_ports parts.1 parts.2
walked_for w (Some out) place key port new ports new_ports is_free parts
    = walked_replaced w place out key port new ports new_ports parts.1 parts.2

walked_borrowed : {T U : Type 0} {subscriber : ℕ} {R : List (ℕ × PublisherPort T U) → List (ℕ × PublisherPort T U) → Type 0}
    (w : Walks subscriber R) (unborrowed : Bool) (key : ℕ) (port new : SubscriberPort) (ports new_ports : List (ℕ × PublisherPort T U))
    (is_free : Bool)
    → PartsBorrowed unborrowed key port ports is_free new new_ports → Walked R port new ports new_ports
walked_borrowed w true key port new ports new_ports is_free parts = walked_ended w key port new ports new_ports parts.1 parts.2
walked_borrowed w false key port new ports new_ports is_free parts
    = walked_for w (slice_get port.expired.items parts.0) parts.0 key port new ports new_ports is_free parts.2

walked_over : {T U : Type 0} {subscriber : ℕ} {R : List (ℕ × PublisherPort T U) → List (ℕ × PublisherPort T U) → Type 0}
    (w : Walks subscriber R) (out : Option ℕ) (place key : ℕ) (port new : SubscriberPort)
    (ports new_ports : List (ℕ × PublisherPort T U)) (is_free : Bool)
    → PartsOver out place key port ports is_free new new_ports → Walked R port new ports new_ports
walked_over w None place key port new ports new_ports is_free parts
    = walked_borrowed w (is_unborrowed port ports key) key port new ports new_ports is_free parts
walked_over w (Some out) place key port new ports new_ports is_free parts
    = walked_replaced w place out key port new ports new_ports parts.1 parts.2

walked_if : {T U : Type 0} {subscriber : ℕ} {R : List (ℕ × PublisherPort T U) → List (ℕ × PublisherPort T U) → Type 0}
    (w : Walks subscriber R) (idle full : Bool) (key : ℕ) (port new : SubscriberPort) (ports new_ports : List (ℕ × PublisherPort T U))
    (is_free : Bool)
    → PartsIf idle full key port ports is_free new new_ports → Walked R port new ports new_ports
walked_if w true full key port new ports new_ports is_free parts = walked_ended w key port new ports new_ports parts.1 parts.2
walked_if w false false key port new ports new_ports is_free parts
    = record { same = ap (λ one. one.number) parts.1; walked = walk_stays w ports new_ports parts.2 }
walked_if w false true key port new ports new_ports is_free parts
    = walked_over w (slice_get port.expired.items parts.0) parts.0 key port new ports new_ports is_free parts.2

pub walked_parts : {T U : Type 0} {subscriber : ℕ} {R : List (ℕ × PublisherPort T U) → List (ℕ × PublisherPort T U) → Type 0}
    (w : Walks subscriber R) (key : ℕ) (port new : SubscriberPort) (ports new_ports : List (ℕ × PublisherPort T U)) (is_free : Bool)
    → Parts key port ports is_free new new_ports → Walked R port new ports new_ports
walked_parts w key port new ports new_ports is_free parts =
    walked_if w (is_idle port ports key) (nat_le port.expired.room (length port.expired.items)) key port new ports new_ports is_free parts

-- the subscriber attaches
connected_same : (place number : ℕ) (answer : Option (Result ℕ AllocError)) (port new : SubscriberPort)
    → ConnectsBy place number answer port new → new.number ≡ port.number
connected_same place number None port new connects = ap (λ one. one.number) connects
connected_same place number (Some (Err error)) port new connects = absurd connects
connected_same place number (Some (Ok index)) port new connects = ap (λ one. one.number) connects.2

attach_walk : {T U : Type 0} {subscriber : ℕ} {R : List (ℕ × PublisherPort T U) → List (ℕ × PublisherPort T U) → Type 0}
    (w : Walks subscriber R) (number named limit : ℕ) (old new : List (ℕ × PublisherPort T U)) (answer : Option (Result ℕ AllocError))
    → named ≡ subscriber → AttachesTo number named limit old answer new → R old new
attach_walk w number named limit old new answer is attaches = w.attach number limit old new answer (rw is at attaches)

walked_connects : {T U : Type 0} {subscriber : ℕ} {R : List (ℕ × PublisherPort T U) → List (ℕ × PublisherPort T U) → Type 0}
    (w : Walks subscriber R) (place number : ℕ) (port new : SubscriberPort) (ports new_ports : List (ℕ × PublisherPort T U))
    (answer : Result (Unit {0}) ZeroCopyCreationError)
    → port.number ≡ subscriber → Connects place number port ports answer new new_ports → Walked R port new ports new_ports
walked_connects w place number port new ports new_ports (Err failure) named connects
    = walked_same w port new ports new_ports connects.2 connects.3
walked_connects w place number port new ports new_ports (Ok done) named connects = record {
  same = connected_same place number connects.0 port new connects.2;
  walked = attach_walk w number port.number port.buffer_size ports new_ports connects.0 named connects.1;
}

-- a place is followed
walked_freed : {T U : Type 0} {subscriber : ℕ} {R : List (ℕ × PublisherPort T U) → List (ℕ × PublisherPort T U) → Type 0}
    (w : Walks subscriber R) (is_free : Bool) (place number : ℕ) (port new : SubscriberPort)
    (ports new_ports : List (ℕ × PublisherPort T U)) (answer : Result (Unit {0}) ZeroCopyCreationError)
    → port.number ≡ subscriber → FollowsFreed is_free place number port ports answer new new_ports → Walked R port new ports new_ports
walked_freed w false place number port new ports new_ports answer named follows
    = record { same = ap (λ one. one.number) follows.1; walked = walk_stays w ports new_ports follows.2 }
walked_freed w true place number port new ports new_ports answer named follows =
    let one = walked_connects w place number (unplaced place port) new ports new_ports answer named follows in
    record { same = one.same; walked = one.walked }

walked_key : {T U : Type 0} {subscriber : ℕ} {R : List (ℕ × PublisherPort T U) → List (ℕ × PublisherPort T U) → Type 0}
    (w : Walks subscriber R) (same : Bool) (key place number : ℕ) (port new : SubscriberPort)
    (ports new_ports : List (ℕ × PublisherPort T U)) (answer : Result (Unit {0}) ZeroCopyCreationError)
    → port.number ≡ subscriber → FollowsKey same key place number port ports answer new new_ports → Walked R port new ports new_ports
walked_key w true key place number port new ports new_ports answer named follows
    = walked_same w port new ports new_ports follows.1 follows.2
walked_key w false key place number port new ports new_ports answer named follows =
    let (is_free, between, between_ports, parts, freed) = follows in
    let one = walked_parts w key port between ports between_ports is_free parts in
    walked_on w port between new ports between_ports new_ports one
    (walked_freed w is_free place number between new between_ports new_ports answer (one.same ∙ named) freed)

walked_at : {T U : Type 0} {subscriber : ℕ} {R : List (ℕ × PublisherPort T U) → List (ℕ × PublisherPort T U) → Type 0}
    (w : Walks subscriber R) (key : Option ℕ) (place number : ℕ) (port new : SubscriberPort)
    (ports new_ports : List (ℕ × PublisherPort T U)) (answer : Result (Unit {0}) ZeroCopyCreationError)
    → port.number ≡ subscriber → FollowsAt key place number port ports answer new new_ports → Walked R port new ports new_ports
walked_at w None place number port new ports new_ports answer named follows
    = walked_connects w place number port new ports new_ports answer named follows
walked_at w (Some key) place number port new ports new_ports answer named follows
    = walked_key w (is_of number (attached_at key port)) key place number port new ports new_ports answer named follows

pub walked_one : {T U : Type 0} {subscriber : ℕ} {R : List (ℕ × PublisherPort T U) → List (ℕ × PublisherPort T U) → Type 0}
    (w : Walks subscriber R) (place : ℕ) (listed : Option (Member PublisherEntry)) (port new : SubscriberPort)
    (ports new_ports : List (ℕ × PublisherPort T U)) (outcome : Result (Unit {0}) ZeroCopyCreationError)
    → port.number ≡ subscriber → FollowsOne place listed port ports outcome new new_ports → Walked R port new ports new_ports
walked_one w place None port new ports new_ports outcome named follows = walked_same w port new ports new_ports follows.1 follows.2
walked_one w place (Some member) port new ports new_ports outcome named follows =
    walked_at w (get_or port.places.items place None) place member.value.publisher port new ports new_ports outcome named follows

walked_from : {T U : Type 0} {subscriber : ℕ} {R : List (ℕ × PublisherPort T U) → List (ℕ × PublisherPort T U) → Type 0}
    (w : Walks subscriber R) (may : DegradationInfo → DegradationAction → Type 0) (place : ℕ)
    (listed : List (Option (Member PublisherEntry))) (found after : Option ConnectionFailure)
    (port new : SubscriberPort) (ports new_ports : List (ℕ × PublisherPort T U)) → port.number ≡ subscriber
    → FollowsFrom may place listed found port ports after new new_ports → Walked R port new ports new_ports
walked_from w may place [] found after port new ports new_ports named follows = walked_same w port new ports new_ports follows.1 follows.2
walked_from w may place (listed ∷ rest) found after port new ports new_ports named follows =
    let (outcome, next, next_ports, then_found, one, asks, further) = follows in
    let step = walked_one w place listed port next ports next_ports outcome named one in
    walked_on w port next new ports next_ports new_ports step
    (walked_from w may (place + 1) rest then_found after next new next_ports new_ports (step.same ∙ named) further)

-- a place that lists none is followed
freed_same : (is_free : Bool) (place : ℕ) (port : SubscriberPort) → (freed_if is_free place port).number ≡ port.number
freed_same true place port = refl
freed_same false place port = refl

walked_none_at : {T U : Type 0} {subscriber : ℕ} {R : List (ℕ × PublisherPort T U) → List (ℕ × PublisherPort T U) → Type 0}
    (w : Walks subscriber R) (key : Option ℕ) (place : ℕ) (port new : SubscriberPort) (ports new_ports : List (ℕ × PublisherPort T U))
    → FollowsNoneAt key place port ports new new_ports → Walked R port new ports new_ports
walked_none_at w None place port new ports new_ports follows = walked_same w port new ports new_ports follows.0 follows.1
walked_none_at w (Some key) place port new ports new_ports follows =
    let (is_free, between, parts, is) = follows in
    let one = walked_parts w key port between ports new_ports is_free parts in
    record { same = ap (λ one. one.number) is ∙ freed_same is_free place between ∙ one.same; walked = one.walked }

walked_none_if : {T U : Type 0} {subscriber : ℕ} {R : List (ℕ × PublisherPort T U) → List (ℕ × PublisherPort T U) → Type 0}
    (w : Walks subscriber R) (there : Bool) (place : ℕ) (port new : SubscriberPort) (ports new_ports : List (ℕ × PublisherPort T U))
    → FollowsNoneIf there place port ports new new_ports → Walked R port new ports new_ports
walked_none_if w true place port new ports new_ports follows = walked_same w port new ports new_ports follows.0 follows.1
walked_none_if w false place port new ports new_ports follows
    = walked_none_at w (get_or port.places.items place None) place port new ports new_ports follows

walked_nones : {T U : Type 0} {subscriber : ℕ} {R : List (ℕ × PublisherPort T U) → List (ℕ × PublisherPort T U) → Type 0}
    (w : Walks subscriber R) (listed : List (Option (Member PublisherEntry))) (place count : ℕ) (port new : SubscriberPort)
    (ports new_ports : List (ℕ × PublisherPort T U))
    → FollowsNones listed place count port ports new new_ports → Walked R port new ports new_ports
walked_nones w listed place zero port new ports new_ports follows = walked_same w port new ports new_ports follows.0 follows.1
walked_nones w listed place (suc count) port new ports new_ports follows =
    let (next, next_ports, one, further) = follows in
    walked_on w port next new ports next_ports new_ports (walked_none_if w (is_listed listed place) place port next ports next_ports one)
    (walked_nones w listed (place + 1) count next new next_ports new_ports further)

-- an update
walked_updates_if : {T U : Type 0} {subscriber : ℕ} {R : List (ℕ × PublisherPort T U) → List (ℕ × PublisherPort T U) → Type 0}
    (w : Walks subscriber R) (seen : Bool) (may : DegradationInfo → DegradationAction → Type 0)
    (listed : List (Option (Member PublisherEntry))) (changes : ℕ)
    (port new : SubscriberPort) (ports new_ports : List (ℕ × PublisherPort T U)) (answer : Result (Unit {0}) ConnectionFailure)
    → port.number ≡ subscriber → UpdatesIf seen may listed changes port ports answer new new_ports → Walked R port new ports new_ports
walked_updates_if w true may listed changes port new ports new_ports answer named updates
    = walked_same w port new ports new_ports updates.1 updates.2
walked_updates_if w false may listed changes port new ports new_ports answer named updates =
    let begun : SubscriberPort = record port { seen = changes; again = false } in
    let (found, between, between_ports, follows, nones, is_answer) = updates in
    let one = walked_from w may 0 listed None found begun between ports between_ports named follows in
    let two = walked_nones w listed 0 (length between.places.items) between new between_ports new_ports nones in
    record { same = two.same ∙ one.same; walked = w.on ports between_ports new_ports one.walked two.walked }

pub walked_updates : {T U : Type 0} {subscriber : ℕ} {R : List (ℕ × PublisherPort T U) → List (ℕ × PublisherPort T U) → Type 0}
    (w : Walks subscriber R) (may : DegradationInfo → DegradationAction → Type 0) (listed : List (Option (Member PublisherEntry)))
    (changes : ℕ)
    (port new : SubscriberPort) (ports new_ports : List (ℕ × PublisherPort T U)) (answer : Result (Unit {0}) ConnectionFailure)
    → port.number ≡ subscriber → Updates may listed changes port ports answer new new_ports → Walked R port new ports new_ports
walked_updates w may listed changes port new ports new_ports answer named updates =
    walked_updates_if w ((port.seen == changes) && not port.again) may listed changes port new ports new_ports answer named updates

-- a message is received
taken_walk : {T U : Type 0} {subscriber : ℕ} {R : List (ℕ × PublisherPort T U) → List (ℕ × PublisherPort T U) → Type 0}
    (w : Walks subscriber R) (takes : WalksTaking R) (attached : Option Attached) (ports : List (ℕ × PublisherPort T U))
    → may_borrow attached ports ≡ true → R ports (taken_ports attached ports)
taken_walk w takes None ports below = w.stays ports
taken_walk w takes (Some attached) ports below = takes attached ports below

given_walk : {T U : Type 0} {subscriber : ℕ} {R : List (ℕ × PublisherPort T U) → List (ℕ × PublisherPort T U) → Type 0}
    (w : Walks subscriber R) (takes : WalksTaking R) (giver : Option ℕ) (port : SubscriberPort) (ports : List (ℕ × PublisherPort T U))
    → ((key : ℕ) → giver ≡ Some key → gives port ports key ≡ true) → R ports (given_ports giver port ports)
given_walk w takes None port ports giving = w.stays ports
given_walk w takes (Some key) port ports giving
    = taken_walk w takes (attached_at key port) ports (both_true (is_below port ports key) (has_data port ports key) (giving key refl))

-- who gives is one of whom the test is true
past_end : (xs : List ℕ) → slice_get xs (length xs) ≡ None
past_end [] = refl
past_end (x ∷ xs) = past_end xs

got_there : (xs : List ℕ) (place x : ℕ) → slice_get xs place ≡ Some x → get_or xs place 0 ≡ x
got_there [] place x is = cc
got_there (y ∷ ys) zero x is = cc
got_there (y ∷ ys) (suc place) x is = got_there ys place x is

giver_gives : (test : ℕ → Bool) (keys : List ℕ) (met : ℕ) (found giver : Option ℕ) → slice_get keys met ≡ found → IsMet test keys met
    → IsGiver found test giver → (key : ℕ) → giver ≡ Some key → test key ≡ true
giver_gives test keys met None None is is_met is_giver key same = cc
giver_gives test keys met None (Some first) is is_met is_giver key same = let own : first ≡ key = cc in ap test (sym own) ∙ is_giver.0
giver_gives test keys met (Some first) giver is (before, inl all) is_giver key same = let no : None ≡ Some first
    = sym (past_end keys) ∙ ap (λ place. slice_get keys place) (sym all) ∙ is in cc
giver_gives test keys met (Some first) giver is (before, inr (within, gives_it)) is_giver key same =
    let own : Some first ≡ Some key = sym is_giver ∙ same in
    let named : first ≡ key = cc in
    ap test (sym (got_there keys met first is ∙ named)) ∙ gives_it

walked_either : {T U : Type 0} (R : List (ℕ × PublisherPort T U) → List (ℕ × PublisherPort T U) → Type 0) (test : Bool)
    (port : SubscriberPort) (ports : List (ℕ × PublisherPort T U)) (one other : SubscriberPort × List (ℕ × PublisherPort T U))
    → Walked R port one.0 ports one.1 → Walked R port other.0 ports other.1
    → Walked R port (if test then one else other).0 ports (if test then one else other).1
walked_either R true port ports one other walked_one walked_other = walked_one
walked_either R false port ports one other walked_one walked_other = walked_other

pub walked_swept : {T U : Type 0} {subscriber : ℕ} {R : List (ℕ × PublisherPort T U) → List (ℕ × PublisherPort T U) → Type 0}
    (w : Walks subscriber R) (place count : ℕ) (port : SubscriberPort) (ports : List (ℕ × PublisherPort T U))
    → Walked R port (swept place count (port, ports)).0 ports (swept place count (port, ports)).1
walked_swept w place zero port ports = walked_same w port port ports ports refl refl
walked_swept {R = R} w place (suc count) port ports =
    let key = slice_get port.expired.items place in
    walked_either R (is_idle_at key port ports) port ports
    (swept place count (dropped_port place key port, dropped_ports key port ports)) (swept (place + 1) count (port, ports))
    (walked_on w port (dropped_port place key port) (swept place count (dropped_port place key port, dropped_ports key port ports)).0
    ports (dropped_ports key port ports) (swept place count (dropped_port place key port, dropped_ports key port ports)).1
    (walked_dropped w place key port ports) (walked_swept w place count (dropped_port place key port) (dropped_ports key port ports)))
    (walked_swept w (place + 1) count port ports)

walked_serves : {T U : Type 0} {subscriber : ℕ} {R : List (ℕ × PublisherPort T U) → List (ℕ × PublisherPort T U) → Type 0}
    (w : Walks subscriber R) (takes : WalksTaking R) (port new : SubscriberPort) (ports new_ports : List (ℕ × PublisherPort T U))
    (answer : Option Taken)
    → Serves port ports answer new new_ports → Walked R port new ports new_ports
walked_serves w takes port new ports new_ports answer serves =
    let (met, is_met, giver, is_giver, is_answer, is, are, is_there) = serves in
    let one = walked_swept w 0 met port (given_ports giver port ports) in
    record {
      same = ap (λ one. one.number) is ∙ one.same;
      walked
          = rw are (w.on ports (given_ports giver port ports) _
          (given_walk w takes giver port ports
          (giver_gives (gives port ports) port.expired.items met (slice_get port.expired.items met) giver refl is_met is_giver))
          one.walked);
    }

walked_receives_after : {T U : Type 0} {subscriber : ℕ} {R : List (ℕ × PublisherPort T U) → List (ℕ × PublisherPort T U) → Type 0}
    (w : Walks subscriber R) (takes : WalksTaking R) (updated : Result (Unit {0}) ConnectionFailure) (port new : SubscriberPort)
    (ports new_ports : List (ℕ × PublisherPort T U))
    (answer : Result (Option Taken) ReceiveError) → ReceivesAfter updated port ports answer new new_ports
    → Walked R port new ports new_ports
walked_receives_after w takes (Err failure) port new ports new_ports answer receives
    = walked_same w port new ports new_ports receives.1 receives.2
walked_receives_after w takes (Ok done) port new ports new_ports answer receives
    = walked_serves w takes port new ports new_ports receives.0 receives.1

pub walked_receives : {T U : Type 0} {subscriber : ℕ} {R : List (ℕ × PublisherPort T U) → List (ℕ × PublisherPort T U) → Type 0}
    (w : Walks subscriber R) (takes : WalksTaking R) (may : DegradationInfo → DegradationAction → Type 0)
    (listed : List (Option (Member PublisherEntry))) (changes : ℕ)
    (port new : SubscriberPort) (ports new_ports : List (ℕ × PublisherPort T U)) (answer : Result (Option Taken) ReceiveError)
    → port.number ≡ subscriber → ReceivesNext may listed changes port ports answer new new_ports → Walked R port new ports new_ports
walked_receives w takes may listed changes port new ports new_ports answer named receives =
    let (updated, between, between_ports, updates, after) = receives in
    walked_on w port between new ports between_ports new_ports
    (walked_updates w may listed changes port between ports between_ports updated named updates)
    (walked_receives_after w takes updated between new between_ports new_ports answer after)

-- the subscriber leaves
left_either : {T U : Type 0} (R : List (ℕ × PublisherPort T U) → List (ℕ × PublisherPort T U) → Type 0) (test : Bool)
    (ports one other : List (ℕ × PublisherPort T U)) → R ports one → R ports other → R ports (if test then one else other)
left_either R true ports one other walked_one walked_other = walked_one
left_either R false ports one other walked_one walked_other = walked_other

left_walk : {T U : Type 0} {subscriber : ℕ} {R : List (ℕ × PublisherPort T U) → List (ℕ × PublisherPort T U) → Type 0}
    (w : Walks subscriber R) (leaving : WalksLeaving R) (attached : Option Attached) (ports : List (ℕ × PublisherPort T U))
    → R ports (left_at attached ports)
left_walk w leaving None ports = w.stays ports
left_walk {R = R} w leaving (Some attached) ports
    = left_either R (stands_in attached.publisher ports) ports _ _ (leaving attached ports) (w.end attached ports)

pub left_all_walk : {T U : Type 0} {subscriber : ℕ} {R : List (ℕ × PublisherPort T U) → List (ℕ × PublisherPort T U) → Type 0}
    (w : Walks subscriber R) (leaving : WalksLeaving R) (attached : List (Option Attached)) (ports : List (ℕ × PublisherPort T U))
    → R ports (left_all attached ports)
left_all_walk w leaving [] ports = w.stays ports
left_all_walk w leaving (one ∷ rest) ports
    = w.on ports (left_at one ports) _ (left_walk w leaving one ports) (left_all_walk w leaving rest (left_at one ports))
