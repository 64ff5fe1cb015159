-- Dropping a port reports whether the port left; dropping a loan or a sample reports whether it was there.
use Rattle.std.proofs.Common.{arith, ◌≡◌, ◌==◌, ◌&&◌, ◌∙◌, ℕ, Bool, true, false, not, cond, nat_lt, List, length, Option, None, Some}
use Rattle.std.proofs.Common.{◌⊎◌, ◌<◌, ◌≤◌, inl, inr, is_some, get_or, slice_get, refl, sym, ap, position}
use Rattle.std.specs.List.{find, position_or_len}
use Rattle.std.proofs.lemmas.List.Folds.{find_at}
use Rattle.std.proofs.lemmas.Option.{slice_get_cases}
use Rattle.iox_domain.specs.DomainPorts.declared.publisher_port.PublisherPort.{PublisherPort}
use Rattle.iox_domain.specs.DomainPorts.Ports.{connection_of}
use Rattle.iox_domain.specs.DomainPorts.Publishers.{port_of, connection_in, connection_at_port}
use Rattle.iox_domain.specs.DomainPorts.Reading as reading
use Rattle.iox_domain.specs.DomainPorts.declared.attached.Taken.{Taken}
use Rattle.iox_domain.specs.DomainPorts.declared.subscriber_port.SubscriberPort.{SubscriberPort}
use Rattle.iox_domain.specs.DomainPorts.Writing.{place_of}
use Rattle.iox_domain.specs.Lending.{passes_port, passes, loan_at_port}
use Rattle.iox_domain.specs.PortsPublishing as publishing
use Rattle.iox_domain.specs.Reading.{sample_at_port, sample_in}
use Rattle.iox_domain.specs.Subscribers.{subscriber_of}
use Rattle.iox_domain.specs.PortsSubscribing as subscribing
use Rattle.iox_domain.specs.declared.ports.service_ports.ServicePorts.{ServicePorts}
use Rattle.iox_domain.specs.AtHomes.{LeavesDomain}
use Rattle.iox_domain.specs.Steps.{PublisherLeaves, SubscriberLeaves}
use Rattle.iox_delivery.specs.Holding.{publisher_stands, publisher_blocked, subscriber_stands, stands_there, loan_found}
use Rattle.iox_delivery.specs.Holding.{holds_message}
use Rattle.iox_delivery.specs.Subscribing.{DropsAt}

publisher_leaves_if : {T U : Type 0} (free : Bool) (number : ℕ) (port : PublisherPort T U) (old new : ServicePorts T U) (left : Bool)
    → publishing.LeavesPortIf free number port old left new → left ≡ free
publisher_leaves_if false number port old new left leaves = leaves.0
publisher_leaves_if true number port old new left leaves = leaves.0

publisher_leaves_at : {T U : Type 0} (number : ℕ) (port : Option (PublisherPort T U)) (old new : ServicePorts T U) (left : Bool)
    → publishing.LeavesAt number port old left new
    → left ≡ (passes_port (λ one. one.stands) port && not (passes_port publishing.is_blocked port))
publisher_leaves_at number None old new left leaves = leaves.0
publisher_leaves_at number (Some port) old new left leaves = publisher_leaves_if (publishing.is_free port) number port old new left leaves

-- a publisher left just where it stood and no send of it waited
pub publisher_end_tells : {T U H : Type 0} (with_ports : ServicePorts T U → H) (without : H → H) (number : ℕ)
    (found : Option (ServicePorts T U)) (old new : H) (left : Bool)
    → LeavesDomain with_ports without (PublisherLeaves number) found old left new
    → left ≡ (publisher_stands number found && not (publisher_blocked number found))
publisher_end_tells with_ports without number None old new left leaves = leaves.0
publisher_end_tells with_ports without number (Some ports) old new left leaves
    = publisher_leaves_at number (port_of number ports.publishers) ports leaves.0 left leaves.1

subscriber_leaves_if : {T U : Type 0} (stands : Bool) (number : ℕ) (port : SubscriberPort) (old new : ServicePorts T U) (left : Bool)
    → subscribing.LeavesPortIf stands number port old left new → left ≡ stands
subscriber_leaves_if false number port old new left leaves = leaves.0
subscriber_leaves_if true number port old new left leaves = leaves.0

subscriber_leaves_at : {T U : Type 0} (number : ℕ) (port : Option SubscriberPort) (old new : ServicePorts T U) (left : Bool)
    → subscribing.LeavesAt number port old left new → left ≡ stands_there port
subscriber_leaves_at number None old new left leaves = leaves.0
subscriber_leaves_at number (Some port) old new left leaves = subscriber_leaves_if port.stands number port old new left leaves

-- a subscriber left just where it stood
pub subscriber_end_tells : {T U H : Type 0} (with_ports : ServicePorts T U → H) (without : H → H) (number : ℕ)
    (found : Option (ServicePorts T U)) (old new : H) (left : Bool)
    → LeavesDomain with_ports without (SubscriberLeaves number) found old left new → left ≡ subscriber_stands number found
subscriber_end_tells with_ports without number None old new left leaves = leaves.0
subscriber_end_tells with_ports without number (Some ports) old new left leaves
    = subscriber_leaves_at number (subscriber_of number ports.subscribers) ports leaves.0 left leaves.1

placed_by : {X : Type 0} (test : X → Bool) (xs : List X)
    → ((x : X) × (position_or_len test xs < length xs) × (slice_get xs (position_or_len test xs) ≡ Some x)
    × (get_or xs (position_or_len test xs) x ≡ x))
    ⊎ ((length xs ≤ position_or_len test xs) × (slice_get xs (position_or_len test xs) ≡ None))
    → is_some (position test xs) ≡ is_some (find test xs)
placed_by test xs (inl (x, inside, is, gets)) =
    let within : nat_lt (position_or_len test xs) (length xs) ≡ true = grind (arith, inside) in
    rw within (sym (ap is_some (find_at test xs ∙ is)))
placed_by test xs (inr (over, none)) =
    let past : nat_lt (position_or_len test xs) (length xs) ≡ false = grind (arith, over) in
    rw past (sym (ap is_some (find_at test xs ∙ none)))

-- a list has a place that passes just where something is found
placed_as_found : {X : Type 0} (test : X → Bool) (xs : List X) → is_some (position test xs) ≡ is_some (find test xs)
placed_as_found test xs = placed_by test xs (slice_get_cases xs (position_or_len test xs)).1

placed_at : {T U : Type 0} (slot : ℕ) (port : Option (PublisherPort T U))
    → passes_port (λ one. is_some (place_of slot one)) port ≡ is_some (loan_at_port slot port)
placed_at slot None = refl
placed_at slot (Some port) = placed_as_found (λ loan. loan.slot == slot) port.sender.uses.loans

-- a slot that has a place in the list of loans has a loan
pub placed_is_found : {T U : Type 0} (number slot : ℕ) (ports : ServicePorts T U)
    → passes number (λ port. is_some (place_of slot port)) ports ≡ is_some (loan_found number slot (Some ports))
placed_is_found number slot ports = placed_at slot (port_of number ports.publishers)

tells_there : {T U : Type 0} (taken : Taken) (port : Option (PublisherPort T U))
    → is_some (reading.place_of taken.slot (connection_at_port taken.index port)) ≡ is_some (sample_at_port taken port)
tells_there taken None = refl
tells_there taken (Some port) = placed_as_found (λ message. message.slot == taken.slot) (connection_of taken.index port).borrowed

tells_at : {T U : Type 0} (number : ℕ) (taken : Taken) (place : Option ℕ) (old new : ServicePorts T U) (answer : Bool)
    → subscribing.ReleasesAt number taken place old answer new → answer ≡ is_some place
tells_at number taken None old new answer releases = releases.0
tells_at number taken (Some at) old new answer releases = releases.0

all_of : (found : Bool) → found ≡ ((true && found) && true)
all_of true = refl
all_of false = refl

none_of : (found : Bool) → false ≡ (found && false)
none_of true = refl
none_of false = refl

tells_own : {T U : Type 0} (own : Bool) (subscriber : Option SubscriberPort) (number : ℕ) (taken : Taken) (old new : ServicePorts T U)
    (answer : Bool) → subscribing.ReleasesOf (cond own subscriber None) number taken old answer new
    → answer ≡ ((is_some subscriber && is_some (sample_in taken old)) && own)
tells_own true (Some subscriber) number taken old new answer releases =
    tells_at number taken (reading.place_of taken.slot (connection_in taken.publisher taken.index old.publishers)) old new answer releases
    ∙ tells_there taken (port_of taken.publisher old.publishers) ∙ all_of (is_some (sample_in taken old))
tells_own true None number taken old new answer releases = releases.0
tells_own false subscriber number taken old new answer releases
    = releases.0 ∙ none_of (is_some subscriber && is_some (sample_in taken old))

-- a sample of these ports was released just where it was held
pub release_tells : {T U : Type 0} (number : ℕ) (taken : Taken) (ports new : ServicePorts T U) (answer : Bool)
    → subscribing.Releases number taken ports answer new → answer ≡ holds_message number taken (Some ports)
release_tells number taken ports new answer releases
    = tells_own (taken.subscriber == number) (subscriber_of number ports.subscribers) number taken ports new answer releases

-- a sample was released just where it was held
pub drop_tells : {T U H : Type 0} (with_ports : ServicePorts T U → H) (number : ℕ) (taken : Taken) (found : Option (ServicePorts T U))
    (old new : H) (answer : Bool)
    → DropsAt with_ports number taken found old answer new → answer ≡ holds_message number taken found
drop_tells with_ports number taken None old new answer drops = drops.0
drop_tells with_ports number taken (Some ports) old new answer drops
    = release_tells number taken ports drops.0 answer drops.1
