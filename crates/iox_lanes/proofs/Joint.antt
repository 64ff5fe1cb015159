-- Connections of lanes that hold what a domain has go with it, where no subscriber is listed twice.
use Rattle.std.proofs.Common.{ℕ, ◌≡◌, ◌+◌, ◌*◌, ◌<◌, true, is_some, List, length, get_or, slice_get, Option, None, Some, refl, ap, ◌∙◌}
use Rattle.std.proofs.Common.{Bool}
use Rattle.std.proofs.lemmas.Option.{slice_get-get_or}
use Rattle.iox_domain.specs.DomainValues.declared.backpressure.BackpressureDecision.{BackpressureDecision}
use Rattle.iox_domain.specs.DomainPorts.Publishers.{port_of}
use Rattle.iox_domain.specs.DomainPorts.declared.publisher_port.PublisherPort.{PublisherPort}
use Rattle.iox_domain.specs.DomainPorts.declared.subscriber_port.SubscriberPort.{SubscriberPort}
use Rattle.iox_domain.specs.Subscribers.{subscriber_of}
use Rattle.iox_domain.specs.declared.domain.Domain.{Domain}
use Rattle.iox_domain.specs.declared.ports.service_ports.ServicePorts.{ServicePorts}
use Rattle.iox_lanes_machine.specs.World.{World}
use Rattle.iox_lanes_opening.specs.Refusals.{first_reason}
use Rattle.iox_lanes.specs.Holding.{port_if, reader_if, LanesHold}
use Rattle.iox_lanes.specs.Joined.{row_of, AreListedOnce, LinkJoins}
use Rattle.iox_lanes.specs.Spelling.{Spelling}
use Rattle.iox_lanes.specs.Tied.{tie_for, AreTies}
use Rattle.iox_lanes.proofs.JoinedLanes.{joined_if}
use Rattle.iox_lanes.proofs.Presence.{are_there, readers_there}
use Rattle.iox_lanes.proofs.Tied.{alone_in_row, are_tied, index_is}

module _ {T U B D : Type 0} (decision : B → Option BackpressureDecision) (asks : D → Bool) (spelling : Spelling T U)
    (domain : Domain T U B D) (lanes : World) (publishers subscribers indices : List ℕ)
    (none : first_reason decision asks domain ≡ None)
    (hold : LanesHold spelling domain lanes publishers subscribers indices)
    (ties : AreTies domain.state.ports publishers subscribers indices) (once : AreListedOnce subscribers)
    (publisher subscriber : ℕ) (below : publisher < length publishers) (beneath : subscriber < length subscribers) where
  abbrev ports : ServicePorts T U
  ports = domain.state.ports

  abbrev number : ℕ
  number = get_or publishers publisher 0

  abbrev reader : ℕ
  reader = get_or subscribers subscriber 0

  listed : slice_get publishers publisher ≡ Some number
  listed = slice_get-get_or publishers publisher 0 below

  there : slice_get subscribers subscriber ≡ Some reader
  there = slice_get-get_or subscribers subscriber 0 beneath

  by_reader : (port : PublisherPort T U) (at : Option SubscriberPort) → port_of number ports.publishers ≡ Some port
      → subscriber_of reader ports.subscribers ≡ at → is_some at ≡ true
      → LinkJoins ports.publishers lanes publishers (length subscribers) indices publisher subscriber
  by_reader port None found read some = absurd (cc some)
  by_reader port (Some own) found read some =
      joined_if spelling lanes.table ports.sizes.enable_safe_overflow publisher subscriber
      (row_of (length subscribers) indices publisher) (port_if ports.publishers (slice_get publishers publisher))
      (reader_if ports.subscribers (slice_get subscribers subscriber)) (slice_get lanes.publishers publisher)
      (slice_get indices (publisher * length subscribers + subscriber))
      (slice_get lanes.links (publisher * length subscribers + subscriber)) (tie_for port (Some own))
      (hold.linking publisher subscriber below beneath).0 (hold.linking publisher subscriber below beneath).1
      (are_tied decision asks domain none publishers subscribers indices hold.publishers ties publisher subscriber beneath)
      (index_is decision asks domain none publishers subscribers indices hold.publishers ties publisher subscriber number reader port
      listed found
      there ∙ ap (λ o. Some (tie_for port o)) read)
      (alone_in_row decision asks domain none publishers subscribers indices hold.publishers ties once publisher subscriber number reader
      port own
      listed found there read (readers_there decision asks domain subscribers none hold.subscribers))

  by_port : (port : Option (PublisherPort T U)) → port_of number ports.publishers ≡ port → is_some port ≡ true
      → LinkJoins ports.publishers lanes publishers (length subscribers) indices publisher subscriber
  by_port None found some = absurd (cc some)
  by_port (Some port) found some = by_reader port (subscriber_of reader ports.subscribers) found refl
      (readers_there decision asks domain subscribers none hold.subscribers subscriber reader there)

  pub link_joins : LinkJoins ports.publishers lanes publishers (length subscribers) indices publisher subscriber
  link_joins = by_port (port_of number ports.publishers) refl (are_there decision asks domain publishers none hold.publishers publisher
      number listed)
