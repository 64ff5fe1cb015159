-- What most steps of a publisher don't change: whether it exists, how many loans it has, and how many it may have.
use Rattle.std.proofs.Common.{arith, ◌≡◌, ◌-◌, ◌≤◌, ◌∙◌, ℕ, Bool, true, false, List, length, Option, Result, Ok, Err, if◌then◌else◌, refl}
use Rattle.std.proofs.Common.{ap}
use Rattle.std.specs.declared.alloc.AllocError.{AllocError}
use Rattle.iox_domain.specs.Container.declared.container.Member.{Member}
use Rattle.iox_domain.specs.DomainValues.declared.backpressure.BackpressureDecision.{BackpressureDecision}
use Rattle.iox_domain.specs.DomainValues.declared.backpressure.BackpressureInfo.{BackpressureInfo}
use Rattle.iox_domain.specs.DomainValues.declared.connection_failure.ConnectionFailure.{ConnectionFailure}
use Rattle.iox_domain.specs.DomainValues.declared.degradation.DegradationAction.{DegradationAction}
use Rattle.iox_domain.specs.DomainValues.declared.degradation.DegradationInfo.{DegradationInfo}
use Rattle.iox_domain.specs.DomainValues.declared.port_error.SendError.{SendError}
use Rattle.iox_domain.specs.DomainPorts.Leaving.{departed}
use Rattle.iox_domain.specs.DomainPorts.Ports.{Attaches, connection_to, ended_at}
use Rattle.iox_domain.specs.DomainPorts.Sending.{concluded, Finishes}
use Rattle.iox_domain.specs.DomainPorts.PublisherUpdating.{Updates}
use Rattle.iox_domain.specs.DomainPorts.declared.meeting.Sent.{Sent}
use Rattle.iox_domain.specs.DomainPorts.declared.publisher_port.PublisherPort.{PublisherPort}
use Rattle.iox_domain.specs.DomainPorts.declared.subscriber_entry.SubscriberEntry.{SubscriberEntry}
use Rattle.iox_domain.specs.Loans.{spare_loans}
use Rattle.iox_domain.proofs.Lives.{Life, delivers_life, departed_life, ended_life, joins_life, updates_life}

-- how many loans a publisher may still make is told by this: whether it stands, how many are out, and how many may be
pub record Allowance : Type 0 where
  pub stands : Bool
  pub out : ℕ
  pub most : ℕ

abbrev pub allowance_of : {T U : Type 0} → PublisherPort T U → Allowance
allowance_of port = record { stands = port.stands; out = length port.sender.uses.loans; most = port.sender.uses.most_loans }

-- how many loans may still be made by that
abbrev pub spared : Allowance → ℕ
spared allowance = if allowance.stands then allowance.most - allowance.out else 0

-- of two with the same allowance as many loans may still be made
pub as_spare : {T U : Type 0} (port after : PublisherPort T U) → allowance_of after ≡ allowance_of port
    → spare_loans after ≤ spare_loans port
as_spare port after alike = let same : spare_loans after ≡ spare_loans port = ap spared alike in omega (arith, same)

-- one of two with the same allowance
pub either_allows : {T U : Type 0} (b : Bool) (x y : PublisherPort T U) (allowance : Allowance) → allowance_of x ≡ allowance
    → allowance_of y ≡ allowance → allowance_of (if b then x else y) ≡ allowance
either_allows true x y allowance one other = one
either_allows false x y allowance one other = other

-- it is part of what lives of a publisher
abbrev allowed : Life → Allowance
allowed life = record { stands = life.stands; out = life.loans; most = life.most }

pub ended_allows : {T U : Type 0} (index : ℕ) (port : PublisherPort T U) → allowance_of (ended_at index port) ≡ allowance_of port
ended_allows index port = ap allowed (ended_life index port)

-- a connection is made, or joined
pub attaches_allows : {T U : Type 0} (subscriber limit : ℕ) (old : PublisherPort T U) (answer : Result ℕ AllocError)
    (new : PublisherPort T U)
    → Attaches subscriber limit old answer new → allowance_of new ≡ allowance_of old
attaches_allows subscriber limit old (Err error) new attaches = ap allowance_of attaches.1
attaches_allows subscriber limit old (Ok index) new (joined, joins, is) =
    ap allowance_of is ∙ ap allowed (joins_life subscriber limit (connection_to subscriber old) old (Ok index) joined joins)

-- the list of subscribers is followed
pub updates_allows : {T U : Type 0} (may : DegradationInfo → DegradationAction → Type 0)
    (listed : List (Option (Member SubscriberEntry))) (changes : ℕ)
    (old : PublisherPort T U) (answer : Result (Unit {0}) ConnectionFailure) (new : PublisherPort T U)
    → Updates may listed changes old answer new → allowance_of new ≡ allowance_of old
updates_allows may listed changes old answer new updates = ap allowed (updates_life may listed changes old answer new updates)

-- a message goes to the connections
pub concluded_allows : {T U : Type 0} (arrived : Bool) (port : PublisherPort T U)
    → allowance_of (concluded arrived port) ≡ allowance_of port
concluded_allows true port = refl
concluded_allows false port = refl

pub finishes_allows : {T U : Type 0} (may : BackpressureInfo → BackpressureDecision → Type 0) (old : PublisherPort T U)
    (answer : Result Sent SendError) (new : PublisherPort T U)
    → Finishes may old answer new → allowance_of new ≡ allowance_of old
finishes_allows may old answer new (arrived, gone, delivers, told, is) =
    ap allowance_of is ∙ concluded_allows arrived gone ∙ ap allowed
    (delivers_life may (length old.ties.items - old.progress.place) old arrived gone delivers)

-- one that left may make no loan
pub departed_spares : {T U : Type 0} (port : PublisherPort T U) → spare_loans (departed port) ≡ 0
departed_spares port = ap (λ life. spared (allowed life)) (departed_life port)
