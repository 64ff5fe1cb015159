-- What the subscribers of a service may hold while it has no publishers.
use Rattle.std.proofs.Common.{arith, ◌≡◌, ◌-◌, ◌^◌, ℕ, List, [], ◌∷◌, Bool, true, false, min, sum_by, refl, if◌then◌else◌}
use Rattle.std.proofs.lemmas.List.Sums.{sum_by-cons}
use Rattle.std.specs.Map.{values_of}
use Rattle.iox_domain.specs.DomainPorts.declared.subscriber_port.SubscriberPort.{SubscriberPort}
use Rattle.iox_domain.specs.Samples.{held_by_one, samples_at_most}
use Rattle.iox_domain.specs.declared.ports.service_ports.ServicePorts.{ServicePorts}

-- a subscriber that may hold nothing holds nothing, open or closed
none_at : (stands : Bool) (held : ℕ) → held ≡ 0 → (if stands then held else 0) ≡ 0
none_at true held none = none
none_at false held none = refl

-- and so do all of them together
none_of : (held : ℕ) → held ≡ 0 → (ports : List SubscriberPort) → sum_by (λ port. if port.stands then held else 0) ports ≡ 0
none_of held none [] = refl
none_of held none (port ∷ ports) = let first = none_at port.stands held none in let rest = none_of held none ports in
    let both = sum_by-cons (λ port. if port.stands then held else 0) port ports in omega (arith, first, rest, both)

-- where a new subscriber may hold nothing, all of them may hold nothing
pub none_held : {T U : Type 0} (ports : ServicePorts T U) (held : ℕ) → held ≡ min (held_by_one ports) (2 ^ 64 - 1) → held ≡ 0
    → 0 ≡ min (samples_at_most ports) (2 ^ 64 - 1)
none_held ports held is none = let nothing : held_by_one ports ≡ 0 = omega (arith, is, none) in
    let all = none_of (held_by_one ports) nothing (values_of ports.subscribers) in omega (arith, all)
