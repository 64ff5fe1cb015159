-- The slots of the agreement's worst case are enough for a publisher that has seen all changes of the list.
use Rattle.std.proofs.Common.{arith, ◌≡◌, ◌+◌, ◌*◌, ◌≤◌, ◌∷◌, [], ℕ, Bool, true, false, cond, List, Some, refl, ap, ap₂, ◌∙◌}
use Rattle.std.proofs.lemmas.List.Sums.{sum_by-cons}
use Rattle.std.proofs.Math.Nat.{mul-le-mul_right}
use Rattle.std.specs.List.{count_by}
use Rattle.iox_domain.proofs.Numbered.{at_number, FoundEntry, found_of_all}
use Rattle.iox_domain.specs.DomainPorts.LoanLaws.{IsAmple}
use Rattle.iox_domain.specs.DomainPorts.Messages.{Message}
use Rattle.iox_domain.specs.DomainPorts.Ports.{goes_on}
use Rattle.iox_domain.specs.DomainPorts.Publishers.{port_of}
use Rattle.iox_domain.specs.DomainPorts.declared.publisher_port.PublisherPort.{PublisherPort}
use Rattle.iox_domain.specs.DomainSlots.Uses.{Connection, is_open, how_many}
use Rattle.iox_domain.specs.DomainSlots.declared.stage.Stage.{Stage}
use Rattle.iox_domain.specs.DomainSlots.declared.stage.Stage.TheVariants as stage
use Rattle.iox_domain.specs.SizeLaws.{AreAllowed, IsMadeFor, allowed_by}
use Rattle.iox_domain.specs.declared.ports.service_ports.ServicePorts.{ServicePorts}
use Rattle.iox_domain_machine.specs.ConnectionCounts.{live_connections, held_connections, has_ended, slots_always_enough}

-- a connection that exists is live, or it ended
one_of : (at : Stage) → cond (is_open at) 1 0 ≡ cond (goes_on at) 1 0 + cond (has_ended at) 1 0
one_of stage.Vacant = refl
one_of stage.Live = refl
one_of stage.Ended = refl

all_of : {X : Type 0} (connections : List (Connection X))
    → how_many connections ≡ count_by (λ connection. goes_on connection.stage) connections
    + count_by (λ connection. has_ended connection.stage) connections
all_of [] = refl
all_of (x ∷ xs) =
    sum_by-cons (λ one. cond (is_open one.stage) 1 0) x xs
    ∙ omega (
      arith,
      one_of x.stage,
      all_of xs,
      sum_by-cons (λ one. cond (goes_on one.stage) 1 0) x xs,
      sum_by-cons (λ one. cond (has_ended one.stage) 1 0) x xs,
    )

mul_add : (n m each : ℕ) → (n + m) * each ≡ n * each + m * each
mul_add n m each = grind arith

-- as many slots for each as the sizes say
spread : (live ended most each : ℕ) → live ≤ most → (live + ended) * each ≤ most * each + ended * each
spread live ended most each few = omega (arith, mul-le-mul_right each few, mul_add live ended each)

module _ {T U : Type 0} (ports : ServicePorts T U) (number : ℕ) (port : PublisherPort T U) (allowed : AreAllowed ports)
    (there : port_of number ports.publishers ≡ Some port) where
  made : IsMadeFor (allowed_by ports.sizes) (number, port)
  made =
      let found : FoundEntry (IsMadeFor (allowed_by ports.sizes)) (at_number number) port =
      found_of_all (IsMadeFor (allowed_by ports.sizes)) (at_number number) ports.publishers port allowed there in
      found.holds

  -- so the publisher has enough slots, if it has those
  pub ample : live_connections port ≤ ports.sizes.max_subscribers → slots_always_enough ports port ≤ port.sender.uses.size → IsAmple port
  ample few enough =
      let all : List (Connection (Message T U)) = port.sender.uses.connections in
      let each : ℕ = ports.sizes.subscriber_max_buffer_size + ports.sizes.subscriber_max_borrowed_samples in
      let waiting : port.sender.uses.most_waiting ≡ ports.sizes.subscriber_max_buffer_size = ap (λ it. it.most_waiting) made.0 in
      let borrowed : port.sender.uses.most_borrowed ≡ ports.sizes.subscriber_max_borrowed_samples = ap (λ it. it.most_borrowed) made.0 in
      let kept : port.sender.uses.kept ≡ ports.sizes.history_size = ap (λ it. it.history) made.0 in
      let held : how_many all * (port.sender.uses.most_waiting + port.sender.uses.most_borrowed)
      ≡ (live_connections port + held_connections port) * each
      = ap₂ (λ count slots. count * slots) (all_of all) (ap₂ (λ one other. one + other) waiting borrowed) in
      omega (arith, held, spread (live_connections port) (held_connections port) ports.sizes.max_subscribers each few, kept, enough)
