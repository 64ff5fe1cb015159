-- No more samples may still come than may be held at once.
use Rattle.std.proofs.Common.{arith, ◌≡◌, ◌+◌, ◌≤◌, ◌∙◌, ◌∷◌, [], ℕ, List, ap}
use Rattle.std.proofs.lemmas.List.Sums.{sum_by-cons, sum_by-le-sum_by}
use Rattle.std.specs.Map.{values_of}
use Rattle.std.specs.Prelude.{sum_by}
use Rattle.iox_domain.specs.declared.ports.service_ports.ServicePorts.{ServicePorts}
use Rattle.iox_domain.specs.DomainPorts.declared.publisher_port.PublisherPort.{PublisherPort}
use Rattle.iox_domain.specs.DomainPorts.declared.subscriber_port.SubscriberPort.{SubscriberPort}
use Rattle.iox_domain.specs.Samples.{spare_samples, samples_left, most_held, samples_at_most}

pub few_left : {T U : Type 0} (ports : ServicePorts T U) → samples_left ports ≤ samples_at_most ports
few_left ports =
    let most = ports.sizes.subscriber_max_borrowed_samples in
    sum_by-le-sum_by (λ port. spare_samples most port ports.publishers) (λ port. most_held most port ports.publishers)
    (values_of ports.subscribers) (λ port. omega arith)

-- what the first of some subscribers may hold, and the others
abbrev pub most_among : {T U : Type 0} → ℕ → List (ℕ × PublisherPort T U) → List (ℕ × SubscriberPort) → ℕ
most_among most ports subscribers = sum_by (λ port. most_held most port ports) (values_of subscribers)

pub first_holds : {T U : Type 0} (most : ℕ) (ports : List (ℕ × PublisherPort T U)) (subscribers rest : List (ℕ × SubscriberPort))
    (first : ℕ × SubscriberPort) → subscribers ≡ first ∷ rest
    → most_among most ports subscribers ≡ most_held most first.1 ports + most_among most ports rest
first_holds most ports subscribers rest first is
    = ap (most_among most ports) is ∙ sum_by-cons (λ port. most_held most port ports) first.1 (values_of rest)

pub none_holds : {T U : Type 0} (most : ℕ) (ports : List (ℕ × PublisherPort T U)) (subscribers : List (ℕ × SubscriberPort))
    → subscribers ≡ [] → most_among most ports subscribers ≡ 0
none_holds most ports subscribers is = ap (most_among most ports) is
