-- Lanes that are built of a domain hold what it has, if the slots of its messages are those that were found.
use Rattle.std.proofs.Common.{arith, ℕ, ◌≡◌, ◌+◌, ◌*◌, ◌<◌, Bool, true, is_some, unwrap_or, List, length, slice_get, slice_index, Option}
use Rattle.std.proofs.Common.{None, Some, refl, sym, ap, subst, ◌∙◌, inl, inr}
use Rattle.std.proofs.lemmas.Option.{get_or_from_slice_get}
use Rattle.iox_domain.specs.DomainValues.declared.backpressure.BackpressureDecision.{BackpressureDecision}
use Rattle.iox_domain.specs.DomainPorts.Messages.{Message}
use Rattle.iox_domain.specs.DomainPorts.Ports.{connection_of}
use Rattle.iox_domain.specs.DomainPorts.Publishers.{port_of}
use Rattle.iox_domain.specs.DomainPorts.declared.publisher_port.PublisherPort.{PublisherPort}
use Rattle.iox_domain.specs.DomainPorts.declared.subscriber_port.SubscriberPort.{SubscriberPort}
use Rattle.iox_domain.specs.Subscribers.{subscriber_of}
use Rattle.iox_domain.specs.declared.domain.Domain.{Domain}
use Rattle.iox_lanes_machine.specs.LanesParties.Parties.{PublisherLaneState}
use Rattle.iox_lanes_machine.specs.Links.{LinkState}
use Rattle.iox_lanes_machine.specs.World.{World}
use Rattle.iox_lanes_opening.specs.Refusals.{first_reason}
use Rattle.iox_lanes.specs.Built.{AreBuilt}
use Rattle.iox_lanes.specs.Holding.{numbers_of, port_if, reader_if, IsLaneIf, IsLinkIf, KeepsIf, Leads, LinkHolds, LinkWaits, SenderHolds}
use Rattle.iox_lanes.specs.Holding.{SenderKeeps, WaitsIf}
use Rattle.iox_lanes.specs.Lying.{Lies, WordsLie}
use Rattle.iox_lanes.specs.Spelling.{Spelling}
use Rattle.iox_lanes.specs.Tied.{tie_for, IsTied}
use Rattle.iox_lanes.proofs.Failing.{none_past}
use Rattle.iox_lanes.proofs.Laying.{laid_so}
use Rattle.iox_lanes.proofs.Placing.{words_lie}
use Rattle.iox_lanes.proofs.Presence.{readers_there, remembers_one, waits_one}
use Rattle.iox_lanes.proofs.Saying.{told}

module _ {T U B D : Type 0} (decision : B → Option BackpressureDecision) (asks : D → Bool) (spelling : Spelling T U)
    (domain : Domain T U B D) (publishers subscribers : List ℕ) (lanes : World)
    (built : AreBuilt decision spelling domain publishers subscribers lanes) (none : first_reason decision asks domain ≡ None) where
  abbrev ports : List (ℕ × PublisherPort T U)
  ports = domain.state.ports.publishers

  moved_to : (place : ℕ) (port : PublisherPort T U) (lane : PublisherLaneState) (message : Message T U)
      → lane.port.book.first ≡ place * ((built.sized).sizes).slots
      → WordsLie spelling lanes.table (place * ((built.sized).sizes).slots + message.slot) port message
      → Lies spelling lanes.table lane.port.book.first port message
  moved_to place port lane message first lie =
      subst (λ n. WordsLie spelling lanes.table (n + message.slot) port message) (sym first) lie

  lane_whole : (place number : ℕ) (port : PublisherPort T U) (lane : Option PublisherLaneState)
      → slice_get publishers place ≡ Some number → port_of number ports ≡ Some port → slice_get lanes.publishers place ≡ lane
      → KeepsIf (Some port) lane → IsLaneIf spelling lanes.table (Some port) lane
  lane_whole place number port None listed found there keeps = absurd keeps
  lane_whole place number port (Some lane) listed found there keeps =
      let says = told decision spelling domain publishers subscribers lanes built place number port lane listed found there in
      record {
        slots = says.slots;
        most_loans = says.most_loans;
        history = laid_so spelling lanes.table lane.port.book.first port lane.port.book.history port.sender.uses.history keeps
            (λ at message is.
            let one = remembers_one decision asks domain number port none found at message is in
            moved_to place port lane message says.first
            (words_lie decision spelling domain publishers subscribers lanes built place number
            port message one.0 listed found (inl (at, is)) one.1));
        named = says.named;
        last = says.last;
      }

  port_whole : (place number : ℕ) (port : Option (PublisherPort T U)) → slice_get publishers place ≡ Some number
      → port_of number ports ≡ port → KeepsIf port (slice_get lanes.publishers place)
      → IsLaneIf spelling lanes.table port (slice_get lanes.publishers place)
  port_whole place number None listed found keeps = absurd keeps
  port_whole place number (Some port) listed found keeps
      = lane_whole place number port (slice_get lanes.publishers place) listed found refl keeps

  number_whole : (place : ℕ) (number : Option ℕ) → slice_get publishers place ≡ number
      → KeepsIf (port_if ports number) (slice_get lanes.publishers place)
      → IsLaneIf spelling lanes.table (port_if ports number) (slice_get lanes.publishers place)
  number_whole place None listed keeps = absurd keeps
  number_whole place (Some number) listed keeps = port_whole place number (port_of number ports) listed refl keeps

  -- a publisher of lanes that keeps the domain's messages is the domain's
  pub sender_whole : (place : ℕ) → SenderKeeps domain lanes publishers place
      → SenderHolds spelling domain lanes publishers place
  sender_whole place keeps = number_whole place (slice_get publishers place) refl keeps

  module _ (indices : List ℕ) (publisher subscriber : ℕ) (below : subscriber < length subscribers)
      (numbered : subscribers ≡ numbers_of (λ entry. entry.subscriber) domain.state.ports.subscriber_list.places) where
    abbrev overflows : Bool
    overflows = domain.state.ports.sizes.enable_safe_overflow

    link_whole_of : (number reader_number : ℕ) (port : PublisherPort T U) (reader : SubscriberPort) (lane : PublisherLaneState)
        (index : ℕ) (link : LinkState)
        → slice_get publishers publisher ≡ Some number → port_of number ports ≡ Some port → slice_get lanes.publishers publisher ≡ Some lane
        → slice_get subscribers subscriber ≡ Some reader_number → subscriber_of reader_number domain.state.ports.subscribers ≡ Some reader
        → WaitsIf (Some port) (Some lane) (Some index) (Some link)
        → IsTied (Some port) (Some reader) (Some index)
        → IsLinkIf spelling lanes.table (Some port) (Some reader) (Some lane) (Some index) (Some link)
    link_whole_of number reader_number port reader lane index link listed found there read stands waits tied =
        let says = told decision spelling domain publishers subscribers lanes built publisher number port lane listed found there in
        let tie_is : index ≡ tie_for port (subscriber_of (slice_index subscribers subscriber) domain.state.ports.subscribers) =
        sym (ap (λ n. tie_for port (subscriber_of n domain.state.ports.subscribers))
        (get_or_from_slice_get subscribers subscriber reader_number 0 read) ∙ ap (tie_for port) stands ∙ ap (λ t. unwrap_or t 0)
        tied.0) in
        record {
          tie = tied.0;
          limit = waits.0;
          waiting = laid_so spelling lanes.table lane.port.book.first port link.found (connection_of index port).waiting waits.1
              (λ at message is.
              let one = waits_one decision asks domain number port none found index at message is in
              let laid = ap (λ n. slice_get (connection_of n port).waiting at) (sym tie_is) ∙ is in
              moved_to publisher port lane message says.first
              (words_lie decision spelling domain publishers subscribers lanes built publisher
              number port message one.0 listed found (inr (subscriber, at, below, laid)) one.1));
        }

    link_whole_by : (number reader_number : ℕ) (port : PublisherPort T U) (reader : Option SubscriberPort)
        (lane : Option PublisherLaneState) (index : Option ℕ) (link : Option LinkState)
        → slice_get publishers publisher ≡ Some number → port_of number ports ≡ Some port → slice_get lanes.publishers publisher ≡ lane
        → slice_get subscribers subscriber ≡ Some reader_number → subscriber_of reader_number domain.state.ports.subscribers ≡ reader
        → is_some reader ≡ true
        → WaitsIf (Some port) lane index link → IsTied (Some port) reader index
        → IsLinkIf spelling lanes.table (Some port) reader lane index link
    link_whole_by number reader_number port None lane index link listed found there read stands some waits tied = absurd (cc some)
    link_whole_by number reader_number port (Some reader) None index link listed found there read stands some waits tied
        = absurd waits
    link_whole_by number reader_number port (Some reader) (Some lane) None link listed found there read stands some waits tied
        = absurd waits
    link_whole_by number reader_number port (Some reader) (Some lane) (Some index) None listed found there read stands some waits
        tied = absurd waits
    link_whole_by number reader_number port (Some reader) (Some lane) (Some index) (Some link) listed found there read stands some waits
        tied =
        link_whole_of number reader_number port reader lane index link listed found there read stands waits tied

    abbrev lane_at : Option PublisherLaneState
    lane_at = slice_get lanes.publishers publisher

    abbrev index_at : Option ℕ
    index_at = slice_get indices (publisher * length subscribers + subscriber)

    abbrev link_at : Option LinkState
    link_at = slice_get lanes.links (publisher * length subscribers + subscriber)

    by_port : (number reader_number : ℕ) (port : Option (PublisherPort T U)) → slice_get publishers publisher ≡ Some number
        → port_of number ports ≡ port
        → slice_get subscribers subscriber ≡ Some reader_number → WaitsIf port lane_at index_at link_at
        → IsTied port (subscriber_of reader_number domain.state.ports.subscribers) index_at
        → IsLinkIf spelling lanes.table port (subscriber_of reader_number domain.state.ports.subscribers) lane_at index_at link_at
    by_port number reader_number None listed found read waits tied = absurd waits
    by_port number reader_number (Some port) listed found read waits tied =
        link_whole_by number reader_number port (subscriber_of reader_number domain.state.ports.subscribers) lane_at index_at link_at
        listed found refl read refl
        (readers_there decision asks domain subscribers none numbered subscriber reader_number read) waits tied

    by_reader : (number : ℕ) (reader : Option ℕ) → slice_get publishers publisher ≡ Some number → slice_get subscribers subscriber ≡ reader
        → WaitsIf (port_of number ports) lane_at index_at link_at
        → IsTied (port_of number ports) (reader_if domain.state.ports.subscribers reader) index_at
        → IsLinkIf spelling lanes.table (port_of number ports) (reader_if domain.state.ports.subscribers reader) lane_at index_at link_at
    by_reader number None listed read waits tied = absurd (omega (arith, below, none_past subscribers subscriber read))
    by_reader number (Some reader_number) listed read waits tied
        = by_port number reader_number (port_of number ports) listed refl read waits tied

    by_number : (number : Option ℕ) → slice_get publishers publisher ≡ number → WaitsIf (port_if ports number) lane_at index_at link_at
        → IsTied (port_if ports number) (reader_if domain.state.ports.subscribers (slice_get subscribers subscriber)) index_at
        → IsLinkIf spelling lanes.table (port_if ports number)
        (reader_if domain.state.ports.subscribers (slice_get subscribers subscriber)) lane_at index_at link_at
    by_number None listed waits tied = absurd waits
    by_number (Some number) listed waits tied = by_reader number (slice_get subscribers subscriber) listed refl waits tied

    -- a connection of lanes at which the domain's messages wait is the domain's
    pub link_whole : LinkWaits domain lanes publishers subscribers indices publisher subscriber
        → Leads overflows publisher subscriber link_at
        → IsTied (port_if ports (slice_get publishers publisher))
        (reader_if domain.state.ports.subscribers (slice_get subscribers subscriber)) index_at
        → LinkHolds spelling domain lanes publishers subscribers indices (publisher, subscriber)
    link_whole waits leads tied = (leads, by_number (slice_get publishers publisher) refl waits tied)
