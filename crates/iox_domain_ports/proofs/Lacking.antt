-- When attaching to a publisher may fail.
use Rattle.std.proofs.Common.{arith, ◌≡◌, ◌≢◌, ◌<◌, ◌==◌, ◌||◌, ◌∷◌, [], ℕ, Bool, true, false, nat_le, List, length, Result, Ok, Err}
use Rattle.std.proofs.Common.{Option, None, Some, refl}
use Rattle.std.specs.declared.alloc.AllocError.{AllocError}
use Rattle.iox_domain_values.specs.declared.connection_failure.ZeroCopyCreationError.{ZeroCopyCreationError}
use Rattle.iox_domain_ports.specs.declared.publisher_port.PublisherPort.{PublisherPort}
use Rattle.iox_domain_ports.specs.Publishers.{port_of, AttachesTo, AttachesAtPort}
use Rattle.iox_domain_ports.specs.Following.{lacks_connection, may_fail, Connects, AttachesAtOnce}
use Rattle.iox_domain_ports.specs.declared.subscriber_port.SubscriberPort.{SubscriberPort}

any_true : (a b c : Bool) → c ≡ true → (a || (b || c)) ≡ true
any_true true b c is = refl
any_true false true c is = refl
any_true false false c is = is

-- a publisher that refuses lacks the connection
lacking : {T U : Type 0} (number subscriber limit : ℕ) (port : Option (PublisherPort T U)) (old new : List (ℕ × PublisherPort T U))
    (error : AllocError) → AttachesAtPort number subscriber limit port old (Some (Err error)) new
    → (lacks_connection subscriber port ≡ true) × (new ≡ old)
lacking number subscriber limit None old new error attaches = absurd (cc (attaches.0))
lacking number subscriber limit (Some port) old new error attaches = (rw (attaches.0) refl, attaches.1)

-- so the attaching may fail, and no publisher changes
pub attach_refused : {T U : Type 0} (place number subscriber limit : ℕ) (port : SubscriberPort)
    (ports new : List (ℕ × PublisherPort T U)) (error : AllocError) → subscriber ≡ port.number
    → AttachesTo number subscriber limit ports (Some (Err error)) new → (may_fail place number port ports ≡ true) × (new ≡ ports)
attach_refused {T} {U} place number subscriber limit port ports new error same attaches =
    let lacks = lacking number subscriber limit (port_of number ports) ports new error attaches in
    (any_true _ _ (lacks_connection port.number (port_of number ports)) (rw (← same) (lacks.0)), lacks.1)

-- what is there takes no memory
enough : (free : List ℕ) (place long : ℕ) (lacks : Bool) → free ≢ [] → place < long → lacks ≡ false
    → ((length free == 0) || (nat_le long place || lacks)) ≡ true → ⊥
enough [] place long lacks some within has takes = some refl
enough (key ∷ free) place long lacks some within has takes =
    let not : nat_le long place ≡ false = grind (arith, within) in
    let full : (length (key ∷ free) == 0) ≡ false = grind arith in
    let wrong : false ≡ true = rw (not) at (rw has at (rw full at takes)) in
    cc

connects_made : {T U : Type 0} (place number : ℕ) (port new : SubscriberPort) (ports new_ports : List (ℕ × PublisherPort T U))
    (answer : Result (Unit {0}) ZeroCopyCreationError)
    → place < port.places.room → port.connections.free ≢ [] → lacks_connection port.number (port_of number ports) ≡ false
    → Connects place number port ports answer new new_ports → answer ≡ Ok tt
connects_made place number port new ports new_ports (Ok done) within some has connects = refl
connects_made place number port new ports new_ports (Err failure) within some has connects =
    absurd (enough port.connections.free place port.places.room (lacks_connection port.number (port_of number ports)) some within has
    connects.1)

pub attaches_at_once : {T U : Type 0} → AttachesAtOnce T U
attaches_at_once place number port new ports new_ports answer none within some has follows
    = connects_made place number port new ports new_ports answer within some has (rw none at follows)
