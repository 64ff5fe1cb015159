-- A subscriber borrows no more than may be borrowed of the publishers that are there.
use Rattle.std.proofs.Common.{arith, ◌≡◌, ◌≢◌, ◌∙◌, ◌+◌, ◌*◌, ◌≤◌, ◌∷◌, [], ℕ, zero, suc, List, length, Option, None, Some, refl, ap}
use Rattle.std.proofs.lemmas.List.Sums.{sum_by-cons}
use Rattle.iox_domain.specs.Container.SlotTable.{value_at}
use Rattle.iox_domain.specs.declared.ports.service_ports.ServicePorts.{ServicePorts}
use Rattle.iox_domain.specs.DomainPorts.Publishers.{port_of, removed}
use Rattle.iox_domain.specs.DomainPorts.declared.attached.Attached.{Attached}
use Rattle.iox_domain.specs.DomainPorts.declared.publisher_port.PublisherPort.{PublisherPort}
use Rattle.iox_domain.specs.DomainPorts.declared.subscriber_port.SubscriberPort.{SubscriberPort}
use Rattle.iox_domain.specs.Roomy.{ReadsApart}
use Rattle.iox_domain.specs.Samples.{borrowed_at, borrowed_of}
use Rattle.iox_domain.proofs.Numbered.{at_number, other_fails, other_gone}
use Rattle.iox_domain.proofs.SamplesLending.{one_gone}

at_most : {T U : Type 0} (most : ℕ) (attached : Option Attached) (ports : List (ℕ × PublisherPort T U))
    → borrowed_at most attached ports ≤ most
at_most most None ports = omega arith
at_most most (Some attached) ports = omega arith

-- If each key belongs to a publisher of a list, and no two belong to the same one, no more is borrowed than this many publishers may
-- have borrowed.
few_held : {T U : Type 0} (most : ℕ) (values : List (Option Attached)) (ports list : List (ℕ × PublisherPort T U))
    → ((key : ℕ) (attached : Attached) → value_at values key ≡ Some attached → (port : PublisherPort T U)
    × (port_of attached.publisher list ≡ Some port))
    → ((key other : ℕ) (one two : Attached) → value_at values key ≡ Some one → value_at values other ≡ Some two
    → one.publisher ≡ two.publisher → key ≡ other)
    → borrowed_of most values ports ≤ length list * most
few_held most [] ports list there apart = omega arith
few_held most (None ∷ rest) ports list there apart =
    let few = few_held most rest ports list (λ key attached is. there (suc key) attached is)
    (λ key other one two is_key is_other same. let next : suc key ≡ suc other
    = apart (suc key) (suc other) one two is_key is_other same in omega (arith, next)) in
    omega (arith, sum_by-cons (λ attached. borrowed_at most attached ports) None rest, few)
few_held {T} {U} most (Some first ∷ rest) ports list there apart =
    let others : List (ℕ × PublisherPort T U) = removed first.publisher list in
    let not : (key : ℕ) (attached : Attached) → value_at rest key ≡ Some attached
    → attached.publisher ≢ first.publisher = λ key attached is same.
    let clash : suc key ≡ zero = apart (suc key) zero attached first is refl same in omega (arith, clash) in
    let few = few_held most rest ports others
    (λ key attached is. let (port, found)
    = there (suc key) attached is in (
      port,
      other_gone (at_number first.publisher) (at_number attached.publisher) list
          (other_fails attached.publisher first.publisher (not key attached is)) ∙ found,
    ))
    (λ key other one two is_key is_other same. let next : suc key ≡ suc other
    = apart (suc key) (suc other) one two is_key is_other same in omega (arith, next)) in
    let (port, found) = there zero first refl in
    let fewer : length list * most ≡ (length others + 1) * most
    = ap (λ n. n * most) (one_gone (at_number first.publisher) list port found) in
    omega (arith, sum_by-cons (λ attached. borrowed_at most attached ports) (Some first) rest, at_most most (Some first) ports, few, fewer)

pub apart_held : {T U : Type 0} (most number : ℕ) (port : SubscriberPort) (ports : ServicePorts T U) → ReadsApart ports number port
    → borrowed_of most port.connections.values ports.publishers ≤ length ports.publishers * most
apart_held most number port ports reads =
    few_held most port.connections.values ports.publishers ports.publishers
    (λ key attached is. let (one, there, by) = reads.reads key attached is in (one, there)) reads.apart
