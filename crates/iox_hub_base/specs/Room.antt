-- How many loans can still be made in all open services together, and how many samples can still be received.
use Rattle.std.specs.Prelude.{ℕ, List, sum_by}
use Rattle.std.specs.Map.{values_of}
use Rattle.iox_domain.specs.declared.ports.service_ports.ServicePorts.{ServicePorts}
use Rattle.iox_domain.specs.Loans.{loans_left}
use Rattle.iox_domain.specs.Samples.{samples_left, samples_at_most}
use Rattle.iox_hub_base.specs.declared.presence.Presence.{Presence}
use Rattle.iox_hub_base.specs.declared.presence.Presence.TheVariants.{Here, Out}

-- The count of the ports of a domain that is in the hub; 0 for one that is out.
abbrev pub counted_at : {T U B D : Type 0} → (ServicePorts T U → ℕ) → Presence T U B D → ℕ
counted_at count (Here domain) = count domain.state.ports
counted_at count (Out agreed) = 0

-- The sum of the counts of all open services.
abbrev pub counted_in : {T U B D : Type 0} → (ServicePorts T U → ℕ) → List (ℕ × Presence T U B D) → ℕ
counted_in count domains = sum_by (λ presence. counted_at count presence) (values_of domains)

-- How many loans the publishers of all open services may still make.
abbrev pub loans_left_in : {T U B D : Type 0} → List (ℕ × Presence T U B D) → ℕ
loans_left_in domains = counted_in (λ ports. loans_left ports) domains

-- How many samples the subscribers of all open services may still receive.
abbrev pub samples_left_in : {T U B D : Type 0} → List (ℕ × Presence T U B D) → ℕ
samples_left_in domains = counted_in (λ ports. samples_left ports) domains

-- How many samples the subscribers of all open services may hold at once.
abbrev pub samples_at_most_in : {T U B D : Type 0} → List (ℕ × Presence T U B D) → ℕ
samples_at_most_in domains = counted_in (λ ports. samples_at_most ports) domains
