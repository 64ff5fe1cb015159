-- What a subscriber does leaves the publishers such that each keeps to one, where one may wait for it.
use Rattle.std.proofs.Common.{arith, ◌≡◌, ◌+◌, ◌<◌, ◌==◌, ◌&&◌, ◌∷◌, [], ℕ, zero, suc, Bool, true, false, not, List, get_or, length, nat_le}
use Rattle.std.proofs.Common.{slice_get, Option, None, Some, Result, Ok, Err, refl, ap, ◌∙◌, if◌then◌else◌}
use Rattle.std.specs.declared.alloc.AllocError.{AllocError}
use Rattle.iox_domain.specs.Container.declared.container.Member.{Member}
use Rattle.iox_domain.specs.DomainPorts.Following.{Connects, ConnectsBy, FollowsAt, FollowsFreed, FollowsKey, FollowsNoneAt, Parts}
use Rattle.iox_domain.specs.DomainPorts.Following.{PartsBorrowed, PartsFor, PartsIf, PartsOver, freed_if, is_of, is_unborrowed}
use Rattle.iox_domain.specs.DomainPorts.Following.{replaced_port, replaced_ports, unplaced}
use Rattle.iox_domain.specs.DomainPorts.Receiving.{Serves, dropped_port, dropped_ports, given_ports, is_idle_at, swept}
use Rattle.iox_domain.specs.DomainPorts.SubscriberUpdating.{FollowsFrom, FollowsNoneIf, FollowsNones, FollowsOne, ReceivesAfter}
use Rattle.iox_domain.specs.DomainPorts.SubscriberUpdating.{ReceivesNext, Updates, UpdatesIf, is_listed}
use Rattle.iox_domain.specs.DomainPorts.Subscribing.{attached_at, ended_key, ended_ports, is_idle, without_key}
use Rattle.iox_domain.specs.DomainPorts.declared.attached.Attached.{Attached}
use Rattle.iox_domain.specs.DomainPorts.declared.attached.Taken.{Taken}
use Rattle.iox_domain.specs.DomainPorts.declared.publisher_entry.PublisherEntry.{PublisherEntry}
use Rattle.iox_domain.specs.DomainPorts.declared.publisher_port.PublisherPort.{PublisherPort}
use Rattle.iox_domain.specs.DomainPorts.declared.subscriber_port.SubscriberPort.{SubscriberPort}
use Rattle.iox_domain.specs.DomainValues.declared.connection_failure.ConnectionFailure.{ConnectionFailure}
use Rattle.iox_domain.specs.DomainValues.declared.connection_failure.ZeroCopyCreationError.{ZeroCopyCreationError}
use Rattle.iox_domain.specs.DomainValues.declared.degradation.DegradationAction.{DegradationAction}
use Rattle.iox_domain.specs.DomainValues.declared.degradation.DegradationInfo.{DegradationInfo}
use Rattle.iox_domain.specs.DomainValues.declared.port_error.ReceiveError.{ReceiveError}
use Rattle.iox_lanes_sound.proofs.KeptLists.{ListKeeps, kept_attaches, kept_ended, kept_on, kept_same, kept_stays, kept_taken}

-- as many may wait for a subscriber of which a connection ends, which connects, or of which a place is free
without_same : (key : ℕ) (attached : Option Attached) (port : SubscriberPort)
    → (without_key key attached port).buffer_size ≡ port.buffer_size
without_same key None port = refl
without_same key (Some attached) port = refl

connected_same : (place number : ℕ) (answer : Option (Result ℕ AllocError)) (port new : SubscriberPort)
    → ConnectsBy place number answer port new → new.buffer_size ≡ port.buffer_size
connected_same place number None port new connects = ap (λ (one : SubscriberPort). one.buffer_size) connects
connected_same place number (Some (Err error)) port new connects = absurd connects
connected_same place number (Some (Ok index)) port new connects = ap (λ (one : SubscriberPort). one.buffer_size) connects.2

freed_same : (is_free : Bool) (place : ℕ) (port : SubscriberPort) → (freed_if is_free place port).buffer_size ≡ port.buffer_size
freed_same true place port = refl
freed_same false place port = refl

module _ {T U : Type 0} where
  -- What a subscriber did: as many may wait for it, and each publisher keeps to one as before.
  pub record Read (port new : SubscriberPort) (ports new_ports : List (ℕ × PublisherPort T U)) : Type 0 where
    pub same : new.buffer_size ≡ port.buffer_size
    pub kept : ListKeeps ports new_ports

  read_same : (port new : SubscriberPort) (ports new_ports : List (ℕ × PublisherPort T U)) → new ≡ port → new_ports ≡ ports
      → Read port new ports new_ports
  read_same port new ports new_ports is are = record {
    same = ap (λ (one : SubscriberPort). one.buffer_size) is;
    kept = kept_same ports new_ports are;
  }

  read_on : (port between new : SubscriberPort) (ports between_ports new_ports : List (ℕ × PublisherPort T U))
      → Read port between ports between_ports → Read between new between_ports new_ports → Read port new ports new_ports
  read_on port between new ports between_ports new_ports one two = record {
    same = two.same ∙ one.same;
    kept = kept_on ports between_ports new_ports one.kept two.kept;
  }

  read_to : (port next new : SubscriberPort) (ports next_ports new_ports : List (ℕ × PublisherPort T U)) → new ≡ next
      → new_ports ≡ next_ports → Read port next ports next_ports → Read port new ports new_ports
  read_to port next new ports next_ports new_ports is are read
      = read_on port next new ports next_ports new_ports read (read_same next new next_ports new_ports is are)

  -- a connection ends
  read_ended : (key : ℕ) (port : SubscriberPort) (ports : List (ℕ × PublisherPort T U))
      → Read port (ended_key key port) ports (ended_ports (attached_at key port) ports)
  read_ended key port ports = record {
    same = without_same key (attached_at key port) port;
    kept = kept_ended (attached_at key port) ports;
  }

  read_dropped : (place : ℕ) (key : Option ℕ) (port : SubscriberPort) (ports : List (ℕ × PublisherPort T U))
      → Read port (dropped_port place key port) ports (dropped_ports key port ports)
  read_dropped place None port ports = read_same port port ports ports refl refl
  read_dropped place (Some key) port ports = record {
    same = without_same key (attached_at key port) port;
    kept = kept_ended (attached_at key port) ports;
  }

  read_replaced : (place out key : ℕ) (port new : SubscriberPort) (ports new_ports : List (ℕ × PublisherPort T U))
      → new ≡ replaced_port place out key port → new_ports ≡ replaced_ports out port ports → Read port new ports new_ports
  read_replaced place out key port new ports new_ports is are =
      let one : Read port (dropped_port place (Some out) port) ports (dropped_ports (Some out) port ports)
      = read_dropped place (Some out) port ports in
      record {
        same = ap (λ (one : SubscriberPort). one.buffer_size) is ∙ one.same;
        kept = rw are (one.kept);
      }

  -- a connection parts
  read_for : (out : Option ℕ) (place key : ℕ) (port new : SubscriberPort) (ports new_ports : List (ℕ × PublisherPort T U))
      (is_free : Bool) → PartsFor out place key port ports is_free new new_ports → Read port new ports new_ports
  read_for None place key port new ports new_ports is_free parts = read_same port new ports new_ports parts.1 parts.2
  read_for (Some out) place key port new ports new_ports is_free parts
      = read_replaced place out key port new ports new_ports parts.1 parts.2

  read_borrowed : (unborrowed : Bool) (key : ℕ) (port new : SubscriberPort) (ports new_ports : List (ℕ × PublisherPort T U))
      (is_free : Bool) → PartsBorrowed unborrowed key port ports is_free new new_ports → Read port new ports new_ports
  read_borrowed true key port new ports new_ports is_free parts =
      read_to port (ended_key key port) new ports (ended_ports (attached_at key port) ports) new_ports parts.1 parts.2
      (read_ended key port ports)
  read_borrowed false key port new ports new_ports is_free parts
      = read_for (slice_get port.expired.items parts.0) parts.0 key port new ports new_ports is_free parts.2

  read_over : (out : Option ℕ) (place key : ℕ) (port new : SubscriberPort) (ports new_ports : List (ℕ × PublisherPort T U))
      (is_free : Bool) → PartsOver out place key port ports is_free new new_ports → Read port new ports new_ports
  read_over None place key port new ports new_ports is_free parts
      = read_borrowed (is_unborrowed port ports key) key port new ports new_ports is_free parts
  read_over (Some out) place key port new ports new_ports is_free parts
      = read_replaced place out key port new ports new_ports parts.1 parts.2

  read_parts_if : (idle full : Bool) (key : ℕ) (port new : SubscriberPort) (ports new_ports : List (ℕ × PublisherPort T U))
      (is_free : Bool) → PartsIf idle full key port ports is_free new new_ports → Read port new ports new_ports
  read_parts_if true full key port new ports new_ports is_free parts =
      read_to port (ended_key key port) new ports (ended_ports (attached_at key port) ports) new_ports parts.1 parts.2
      (read_ended key port ports)
  read_parts_if false false key port new ports new_ports is_free parts = record {
    same = ap (λ (one : SubscriberPort). one.buffer_size) parts.1;
    kept = kept_same ports new_ports parts.2;
  }
  read_parts_if false true key port new ports new_ports is_free parts
      = read_over (slice_get port.expired.items parts.0) parts.0 key port new ports new_ports is_free parts.2

  read_parts : (key : ℕ) (port new : SubscriberPort) (ports new_ports : List (ℕ × PublisherPort T U)) (is_free : Bool)
      → Parts key port ports is_free new new_ports → Read port new ports new_ports
  read_parts key port new ports new_ports is_free parts =
      read_parts_if (is_idle port ports key) (nat_le port.expired.room (length port.expired.items)) key port new ports new_ports is_free
      parts

  -- the subscriber attaches
  read_connects : (place number : ℕ) (port new : SubscriberPort) (ports new_ports : List (ℕ × PublisherPort T U))
      (answer : Result (Unit {0}) ZeroCopyCreationError) → 0 < port.buffer_size → Connects place number port ports answer new new_ports
      → Read port new ports new_ports
  read_connects place number port new ports new_ports (Err failure) some connects
      = read_same port new ports new_ports connects.2 connects.3
  read_connects place number port new ports new_ports (Ok done) some connects = record {
    same = connected_same place number connects.0 port new connects.2;
    kept = kept_attaches number port.number port.buffer_size ports new_ports connects.0 some connects.1;
  }

  -- a place is followed
  read_freed : (is_free : Bool) (place number : ℕ) (port new : SubscriberPort) (ports new_ports : List (ℕ × PublisherPort T U))
      (answer : Result (Unit {0}) ZeroCopyCreationError) → 0 < port.buffer_size
      → FollowsFreed is_free place number port ports answer new new_ports → Read port new ports new_ports
  read_freed false place number port new ports new_ports answer some follows = record {
    same = ap (λ (one : SubscriberPort). one.buffer_size) follows.1;
    kept = kept_same ports new_ports follows.2;
  }
  read_freed true place number port new ports new_ports answer some follows =
      let one : Read (unplaced place port) new ports new_ports
      = read_connects place number (unplaced place port) new ports new_ports answer some follows in
      record { same = one.same; kept = one.kept }

  read_key : (same : Bool) (key place number : ℕ) (port new : SubscriberPort) (ports new_ports : List (ℕ × PublisherPort T U))
      (answer : Result (Unit {0}) ZeroCopyCreationError) → 0 < port.buffer_size
      → FollowsKey same key place number port ports answer new new_ports → Read port new ports new_ports
  read_key true key place number port new ports new_ports answer some follows = read_same port new ports new_ports follows.1 follows.2
  read_key false key place number port new ports new_ports answer some follows =
      let (is_free, between, between_ports, parts, freed) = follows in
      let one : Read port between ports between_ports = read_parts key port between ports between_ports is_free parts in
      read_on port between new ports between_ports new_ports one
      (read_freed is_free place number between new between_ports new_ports answer (omega (arith, some, one.same)) freed)

  read_at : (key : Option ℕ) (place number : ℕ) (port new : SubscriberPort) (ports new_ports : List (ℕ × PublisherPort T U))
      (answer : Result (Unit {0}) ZeroCopyCreationError) → 0 < port.buffer_size
      → FollowsAt key place number port ports answer new new_ports → Read port new ports new_ports
  read_at None place number port new ports new_ports answer some follows
      = read_connects place number port new ports new_ports answer some follows
  read_at (Some key) place number port new ports new_ports answer some follows
      = read_key (is_of number (attached_at key port)) key place number port new ports new_ports answer some follows

  read_one : (place : ℕ) (listed : Option (Member PublisherEntry)) (port new : SubscriberPort)
      (ports new_ports : List (ℕ × PublisherPort T U)) (outcome : Result (Unit {0}) ZeroCopyCreationError) → 0 < port.buffer_size
      → FollowsOne place listed port ports outcome new new_ports → Read port new ports new_ports
  read_one place None port new ports new_ports outcome some follows = read_same port new ports new_ports follows.1 follows.2
  read_one place (Some member) port new ports new_ports outcome some follows =
      read_at (get_or port.places.items place None) place member.value.publisher port new ports new_ports outcome some follows

  read_from : (may : DegradationInfo → DegradationAction → Type 0) (place : ℕ) (listed : List (Option (Member PublisherEntry)))
      (found after : Option ConnectionFailure) (port new : SubscriberPort) (ports new_ports : List (ℕ × PublisherPort T U))
      → 0 < port.buffer_size → FollowsFrom may place listed found port ports after new new_ports → Read port new ports new_ports
  read_from may place [] found after port new ports new_ports some follows = read_same port new ports new_ports follows.1 follows.2
  read_from may place (item ∷ rest) found after port new ports new_ports some follows =
      let (outcome, next, next_ports, then_found, one, asks, further) = follows in
      let step : Read port next ports next_ports = read_one place item port next ports next_ports outcome some one in
      read_on port next new ports next_ports new_ports step
      (read_from may (place + 1) rest then_found after next new next_ports new_ports (omega (arith, some, step.same)) further)

  -- a place that lists none is followed
  read_none_at : (key : Option ℕ) (place : ℕ) (port new : SubscriberPort) (ports new_ports : List (ℕ × PublisherPort T U))
      → FollowsNoneAt key place port ports new new_ports → Read port new ports new_ports
  read_none_at None place port new ports new_ports follows = read_same port new ports new_ports follows.0 follows.1
  read_none_at (Some key) place port new ports new_ports follows =
      let (is_free, between, parts, is) = follows in
      let one : Read port between ports new_ports = read_parts key port between ports new_ports is_free parts in
      record {
        same = ap (λ (one : SubscriberPort). one.buffer_size) is ∙ freed_same is_free place between ∙ one.same;
        kept = one.kept;
      }

  read_none_if : (there : Bool) (place : ℕ) (port new : SubscriberPort) (ports new_ports : List (ℕ × PublisherPort T U))
      → FollowsNoneIf there place port ports new new_ports → Read port new ports new_ports
  read_none_if true place port new ports new_ports follows = read_same port new ports new_ports follows.0 follows.1
  read_none_if false place port new ports new_ports follows
      = read_none_at (get_or port.places.items place None) place port new ports new_ports follows

  read_nones : (listed : List (Option (Member PublisherEntry))) (place count : ℕ) (port new : SubscriberPort)
      (ports new_ports : List (ℕ × PublisherPort T U)) → FollowsNones listed place count port ports new new_ports
      → Read port new ports new_ports
  read_nones listed place zero port new ports new_ports follows = read_same port new ports new_ports follows.0 follows.1
  read_nones listed place (suc count) port new ports new_ports follows =
      let (next, next_ports, one, further) = follows in
      read_on port next new ports next_ports new_ports (read_none_if (is_listed listed place) place port next ports next_ports one)
      (read_nones listed (place + 1) count next new next_ports new_ports further)

  -- an update
  read_updates_if : (seen : Bool) (may : DegradationInfo → DegradationAction → Type 0) (listed : List (Option (Member PublisherEntry)))
      (changes : ℕ) (port new : SubscriberPort) (ports new_ports : List (ℕ × PublisherPort T U))
      (answer : Result (Unit {0}) ConnectionFailure) → 0 < port.buffer_size
      → UpdatesIf seen may listed changes port ports answer new new_ports → Read port new ports new_ports
  read_updates_if true may listed changes port new ports new_ports answer some updates
      = read_same port new ports new_ports updates.1 updates.2
  read_updates_if false may listed changes port new ports new_ports answer some updates =
      let begun : SubscriberPort = record port { seen = changes; again = false } in
      let (found, between, between_ports, follows, nones, is_answer) = updates in
      let one : Read begun between ports between_ports
      = read_from may 0 listed None found begun between ports between_ports some follows in
      let two : Read between new between_ports new_ports
      = read_nones listed 0 (length between.places.items) between new between_ports new_ports nones in
      record { same = two.same ∙ one.same; kept = kept_on ports between_ports new_ports one.kept two.kept }

  pub read_updates : (may : DegradationInfo → DegradationAction → Type 0) (listed : List (Option (Member PublisherEntry)))
      (changes : ℕ) (port new : SubscriberPort) (ports new_ports : List (ℕ × PublisherPort T U))
      (answer : Result (Unit {0}) ConnectionFailure) → 0 < port.buffer_size
      → Updates may listed changes port ports answer new new_ports → Read port new ports new_ports
  read_updates may listed changes port new ports new_ports answer some updates =
      read_updates_if ((port.seen == changes) && not port.again) may listed changes port new ports new_ports answer some updates

  -- a message is received
  kept_given : (giver : Option ℕ) (port : SubscriberPort) (ports : List (ℕ × PublisherPort T U))
      → ListKeeps ports (given_ports giver port ports)
  kept_given None port ports = kept_stays ports
  kept_given (Some key) port ports = kept_taken (attached_at key port) ports

  read_either : (test : Bool) (port : SubscriberPort) (ports : List (ℕ × PublisherPort T U))
      (one other : SubscriberPort × List (ℕ × PublisherPort T U)) → Read port one.0 ports one.1 → Read port other.0 ports other.1
      → Read port (if test then one else other).0 ports (if test then one else other).1
  read_either true port ports one other first second = first
  read_either false port ports one other first second = second

  read_swept : (place count : ℕ) (port : SubscriberPort) (ports : List (ℕ × PublisherPort T U))
      → Read port (swept place count (port, ports)).0 ports (swept place count (port, ports)).1
  read_swept place zero port ports = read_same port port ports ports refl refl
  read_swept place (suc count) port ports =
      let key = slice_get port.expired.items place in
      read_either (is_idle_at key port ports) port ports
      (swept place count (dropped_port place key port, dropped_ports key port ports)) (swept (place + 1) count (port, ports))
      (read_on port (dropped_port place key port) (swept place count (dropped_port place key port, dropped_ports key port ports)).0
      ports (dropped_ports key port ports) (swept place count (dropped_port place key port, dropped_ports key port ports)).1
      (read_dropped place key port ports) (read_swept place count (dropped_port place key port) (dropped_ports key port ports)))
      (read_swept (place + 1) count port ports)

  read_serves : (port new : SubscriberPort) (ports new_ports : List (ℕ × PublisherPort T U)) (answer : Option Taken)
      → Serves port ports answer new new_ports → Read port new ports new_ports
  read_serves port new ports new_ports answer serves =
      let (met, is_met, giver, is_giver, is_answer, is, are, is_there) = serves in
      let one : Read port (swept 0 met (port, given_ports giver port ports)).0 (given_ports giver port ports)
      (swept 0 met (port, given_ports giver port ports)).1 = read_swept 0 met port (given_ports giver port ports) in
      record {
        same = ap (λ (one : SubscriberPort). one.buffer_size) is ∙ one.same;
        kept = rw are (kept_on ports (given_ports giver port ports) _ (kept_given giver port ports) one.kept);
      }

  read_after : (updated : Result (Unit {0}) ConnectionFailure) (port new : SubscriberPort) (ports new_ports : List (ℕ × PublisherPort T U))
      (answer : Result (Option Taken) ReceiveError) → ReceivesAfter updated port ports answer new new_ports
      → Read port new ports new_ports
  read_after (Err failure) port new ports new_ports answer receives = read_same port new ports new_ports receives.1 receives.2
  read_after (Ok done) port new ports new_ports answer receives = read_serves port new ports new_ports receives.0 receives.1

  pub read_receives : (may : DegradationInfo → DegradationAction → Type 0) (listed : List (Option (Member PublisherEntry)))
      (changes : ℕ) (port new : SubscriberPort) (ports new_ports : List (ℕ × PublisherPort T U))
      (answer : Result (Option Taken) ReceiveError) → 0 < port.buffer_size
      → ReceivesNext may listed changes port ports answer new new_ports → Read port new ports new_ports
  read_receives may listed changes port new ports new_ports answer some receives =
      let (updated, between, between_ports, updates, after) = receives in
      read_on port between new ports between_ports new_ports
      (read_updates may listed changes port between ports between_ports updated some updates)
      (read_after updated between new between_ports new_ports answer after)
