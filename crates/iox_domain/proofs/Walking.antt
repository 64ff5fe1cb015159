-- What the steps of a subscriber leave of how many loans the publishers may still make.
use Rattle.std.proofs.Common.{arith, ◌≡◌, ◌≤◌, ℕ, List, Option, None, Some, Result, Ok, Err, refl, ap}
use Rattle.std.specs.declared.alloc.AllocError.{AllocError}
use Rattle.iox_domain.specs.DomainPorts.Ports.{detached_at, ended_at, unread_at}
use Rattle.iox_domain.specs.DomainPorts.Ties.{has_tie}
use Rattle.iox_domain.specs.DomainPorts.declared.publisher_port.PublisherPort.{PublisherPort}
use Rattle.iox_domain.specs.DomainPorts.Publishers.{port_of, with_port, changed, settled, ended_if_left, released, AttachesAtPort}
use Rattle.iox_domain.specs.DomainPorts.Reading.{taken_at, given_back_at}
use Rattle.iox_domain.proofs.Walks.{Walks, WalksTaking, WalksLeaving}
use Rattle.iox_domain.proofs.Allowing.{allowance_of, as_spare, either_allows, ended_allows, attaches_allows}
use Rattle.iox_domain.proofs.Sums.{left_among, with_left, settled_left, changed_left}

same_left : {T U : Type 0} (old new : List (ℕ × PublisherPort T U)) → new ≡ old → left_among new ≤ left_among old
same_left old new is = let same : left_among new ≡ left_among old = ap left_among is in omega (arith, same)

-- a publisher took a step that leaves it as many loans
stepped_left : {T U : Type 0} (number : ℕ) (step : PublisherPort T U → PublisherPort T U) (ports : List (ℕ × PublisherPort T U))
    → ((port : PublisherPort T U) → allowance_of (step port) ≡ allowance_of port)
    → left_among (changed number step ports) ≤ left_among ports
stepped_left number step ports alike
    = omega (arith, changed_left 0 number step ports (λ port. omega (arith, as_spare port (step port) (alike port))))

-- and is gone if it is over then
stepped_settled : {T U : Type 0} (number : ℕ) (step : PublisherPort T U → PublisherPort T U) (ports : List (ℕ × PublisherPort T U))
    → ((port : PublisherPort T U) → allowance_of (step port) ≡ allowance_of port)
    → left_among (settled number (changed number step ports)) ≤ left_among ports
stepped_settled number step ports alike
    = omega (arith, settled_left number (changed number step ports), stepped_left number step ports alike)

-- a subscriber attaches
attached_left : {T U : Type 0} (number subscriber limit : ℕ) (found : Option (PublisherPort T U))
    (old new : List (ℕ × PublisherPort T U)) (answer : Option (Result ℕ AllocError)) → port_of number old ≡ found
    → AttachesAtPort number subscriber limit found old answer new → left_among new ≤ left_among old
attached_left number subscriber limit None old new answer there attaches = same_left old new attaches.1
attached_left number subscriber limit (Some port) old new None there attaches = absurd attaches
attached_left number subscriber limit (Some port) old new (Some (Err error)) there attaches = same_left old new attaches.1
attached_left number subscriber limit (Some port) old new (Some (Ok index)) there (after, made, is) = omega (
  arith,
  same_left (with_port number old after) new is,
  with_left 0 0 number old port after there (omega (arith, as_spare port after (attaches_allows subscriber _ port (Ok index) after made))),
)

-- so it is with each step of a subscriber
pub left_walks : {T U : Type 0} (subscriber : ℕ)
    → Walks subscriber (λ (old : List (ℕ × PublisherPort T U)) (new : List (ℕ × PublisherPort T U)). left_among new ≤ left_among old)
left_walks subscriber = record {
  stays = λ ports. omega arith;
  on = λ old between new one two. omega (arith, one, two);
  attach = λ number limit old new answer attaches. attached_left number subscriber limit (port_of number old) old new answer refl attaches;
  end = λ attached ports. stepped_settled attached.publisher (ended_if_left attached.index) ports
      (λ port. either_allows port.stands port (ended_at attached.index port) (allowance_of port) refl (ended_allows attached.index port));
}

pub left_leaving : {T U : Type 0} → WalksLeaving
    (λ (old : List (ℕ × PublisherPort T U)) (new : List (ℕ × PublisherPort T U)). left_among new ≤ left_among old)
left_leaving attached ports = stepped_left attached.publisher (detached_at attached.index) ports
    (λ port. either_allows (has_tie attached.index port.ties) (unread_at attached.index port) (ended_at attached.index port)
    (allowance_of port) refl (ended_allows attached.index port))

pub left_takes : {T U : Type 0} → WalksTaking
    (λ (old : List (ℕ × PublisherPort T U)) (new : List (ℕ × PublisherPort T U)). left_among new ≤ left_among old)
left_takes attached ports below = stepped_left attached.publisher (taken_at attached.index) ports (λ port. refl)

-- a sample is released
given_back_allows : {T U : Type 0} (index : ℕ) (place : Option ℕ) (port : PublisherPort T U)
    → allowance_of (given_back_at index place port) ≡ allowance_of port
given_back_allows index None port = refl
given_back_allows index (Some at) port = refl

pub released_left : {T U : Type 0} (number index : ℕ) (place : Option ℕ) (ports : List (ℕ × PublisherPort T U))
    → left_among (released number index place ports) ≤ left_among ports
released_left number index None ports = omega arith
released_left number index (Some at) ports
    = stepped_settled number (given_back_at index (Some at)) ports (given_back_allows index (Some at))
