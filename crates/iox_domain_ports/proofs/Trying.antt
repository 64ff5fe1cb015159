-- What an update tries is among what it may do.
use Rattle.std.proofs.Common.{◌≡◌, ◌+◌, ◌==◌, ◌&&◌, ◌||◌, ℕ, nat_le, Bool, true, false, not, is_none, List, [], ◌∷◌, length, get_or}
use Rattle.std.proofs.Common.{Result, Err, Option, None, Some, refl, sym, subst}
use Rattle.iox_domain_values.specs.declared.connection_failure.ConnectionFailure.{ConnectionFailure}
use Rattle.iox_domain_values.specs.declared.connection_failure.ZeroCopyCreationError.{ZeroCopyCreationError}
use Rattle.iox_domain_values.specs.declared.connection_failure.ZeroCopyCreationError.TheVariants as creation
use Rattle.iox_domain_values.specs.declared.degradation.DegradationAction.{DegradationAction}
use Rattle.iox_domain_values.specs.declared.degradation.DegradationInfo.{DegradationInfo}
use Rattle.iox_domain_slots.specs.Container.declared.container.Member.{Member}
use Rattle.iox_domain_ports.specs.Following.{FollowsListed, FollowsAt, Connects, lacks_at, lacks_connection}
use Rattle.iox_domain_ports.specs.Publishers.{port_of}
use Rattle.iox_domain_ports.specs.SubscriberUpdating.{FollowsOne, FollowsExactly, FollowsTried, FollowsFrom, FollowsEach, FollowsList}
use Rattle.iox_domain_ports.specs.SubscriberUpdating.{FollowsListEach, UpdatesIf, UpdatesEachIf, Updates, UpdatesEach}
use Rattle.iox_domain_ports.specs.declared.publisher_entry.PublisherEntry.{PublisherEntry}
use Rattle.iox_domain_ports.specs.declared.publisher_port.PublisherPort.{PublisherPort}
use Rattle.iox_domain_ports.specs.declared.subscriber_port.SubscriberPort.{SubscriberPort}

-- nothing is there
none_of : {A : Type 0} (o : Option A) → is_none o ≡ true → o ≡ None
none_of None is = refl
none_of (Some x) is = absurd (cc)

and_parts : (one other : Bool) → (one && other) ≡ true → (one ≡ true) × (other ≡ true)
and_parts true other is = (refl, is)
and_parts false other is = absurd (cc)

or_right : (one other : Bool) → other ≡ true → (one || other) ≡ true
or_right true other is = refl
or_right false other is = is

unless_lacks : (is_new lacks : Bool) → (is_new || not lacks) ≡ false → lacks ≡ true
unless_lacks true lacks is = absurd (cc)
unless_lacks false true is = refl
unless_lacks false false is = absurd (cc)

module _ {T U : Type 0} where
  -- what isn't tried may lack memory
  untried : (place number : ℕ) (port : SubscriberPort) (ports : List (ℕ × PublisherPort T U)) → lacks_at place number port ports ≡ true
      → FollowsListed place number port ports (Err creation.OutOfMemory) port ports
  untried place number port ports lacks =
      let parts = and_parts (is_none (get_or port.places.items place None)) (lacks_connection port.number (port_of number ports)) lacks in
      let connects : Connects place number port ports (Err creation.OutOfMemory) port ports = (
        refl,
        or_right (length port.connections.free == 0)
            (nat_le port.places.room place || lacks_connection port.number (port_of number ports))
            (or_right (nat_le port.places.room place) (lacks_connection port.number (port_of number ports)) parts.1),
        refl,
        refl,
      ) in
      subst (λ (tie : Option ℕ). FollowsAt tie place number port ports (Err creation.OutOfMemory) port ports)
      (sym (none_of (get_or port.places.items place None) parts.0)) connects

  tried : (is : Bool) (is_new : Bool) (place number : ℕ) (port : SubscriberPort) (ports : List (ℕ × PublisherPort T U))
      (outcome : Result (Unit {0}) ZeroCopyCreationError) (new : SubscriberPort) (new_ports : List (ℕ × PublisherPort T U))
      → (is_new || not (lacks_at place number port ports)) ≡ is
      → FollowsTried is place number port ports outcome new new_ports → FollowsListed place number port ports outcome new new_ports
  tried true is_new place number port ports outcome new new_ports is follows = follows
  tried false is_new place number port ports outcome new new_ports is follows =
      subst (λ (o : Result (Unit {0}) ZeroCopyCreationError). FollowsListed place number port ports o new new_ports) (sym follows.0)
      (subst (λ (n : SubscriberPort). FollowsListed place number port ports (Err creation.OutOfMemory) n new_ports) (sym follows.1)
      (subst (λ (n : List (ℕ × PublisherPort T U)). FollowsListed place number port ports (Err creation.OutOfMemory) port n)
      (sym follows.2)
      (untried place number port ports (unless_lacks is_new (lacks_at place number port ports) is))))

  one_follows : (is_new : Bool) (place : ℕ) (listed : Option (Member PublisherEntry)) (port : SubscriberPort)
      (ports : List (ℕ × PublisherPort T U)) (outcome : Result (Unit {0}) ZeroCopyCreationError) (new : SubscriberPort)
      (new_ports : List (ℕ × PublisherPort T U)) → FollowsExactly is_new place listed port ports outcome new new_ports
      → FollowsOne place listed port ports outcome new new_ports
  one_follows is_new place None port ports outcome new new_ports follows = follows
  one_follows is_new place (Some member) port ports outcome new new_ports follows =
      tried (is_new || not (lacks_at place member.value.publisher port ports)) is_new place member.value.publisher port ports outcome new
      new_ports refl follows

  each_follows : (may : DegradationInfo → DegradationAction → Type 0) (is_new : Bool) (place : ℕ)
      (listed : List (Option (Member PublisherEntry))) (found : Option ConnectionFailure) (port : SubscriberPort)
      (ports : List (ℕ × PublisherPort T U)) (after : Option ConnectionFailure) (new : SubscriberPort)
      (new_ports : List (ℕ × PublisherPort T U)) → FollowsEach may is_new place listed found port ports after new new_ports
      → FollowsFrom may place listed found port ports after new new_ports
  each_follows may is_new place [] found port ports after new new_ports follows = follows
  each_follows may is_new place (one ∷ rest) found port ports after new new_ports follows = (
    follows.0,
    follows.1,
    follows.2,
    follows.3,
    one_follows is_new place one port ports follows.0 follows.1 follows.2 follows.4,
    follows.5,
    each_follows may is_new (place + 1) rest follows.3 follows.1 follows.2 after new new_ports follows.6,
  )

  updates_if : (nothing : Bool) (may : DegradationInfo → DegradationAction → Type 0) (listed : List (Option (Member PublisherEntry)))
      (changes : ℕ) (port : SubscriberPort) (ports : List (ℕ × PublisherPort T U)) (answer : Result (Unit {0}) ConnectionFailure)
      (new : SubscriberPort) (new_ports : List (ℕ × PublisherPort T U))
      → UpdatesEachIf nothing may listed changes port ports answer new new_ports
      → UpdatesIf nothing may listed changes port ports answer new new_ports
  updates_if true may listed changes port ports answer new new_ports updates = updates
  updates_if false may listed changes port ports answer new new_ports updates = (
    updates.0,
    updates.1,
    updates.2,
    each_follows may (not (port.seen == changes)) 0 listed None (record port { seen = changes; again = false }) ports updates.0 updates.1
        updates.2 updates.3,
    updates.4,
    updates.5,
  )

  -- so an update does what it may do
  pub each_updates : (may : DegradationInfo → DegradationAction → Type 0) (listed : List (Option (Member PublisherEntry))) (changes : ℕ)
      (port : SubscriberPort) (ports : List (ℕ × PublisherPort T U)) (answer : Result (Unit {0}) ConnectionFailure) (new : SubscriberPort)
      (new_ports : List (ℕ × PublisherPort T U)) → UpdatesEach may listed changes port ports answer new new_ports
      → Updates may listed changes port ports answer new new_ports
  each_updates may listed changes port ports answer new new_ports updates =
      updates_if ((port.seen == changes) && not port.again) may listed changes port ports answer new new_ports updates
