-- Which mailboxes of the machine the connections of a publisher represent.
use Rattle.std.specs.Prelude.{ℕ, ◌≤◌, ◌≡◌, ◌≢◌, true, false, [], List, get_or, is_some, map, Option, None, Some}
use Rattle.iox_domain.specs.DomainPorts.Messages as domain
use Rattle.iox_domain.specs.DomainPorts.Ports.{connection_of, is_live}
use Rattle.iox_domain.specs.DomainPorts.Subscribing.{attached_at}
use Rattle.iox_domain.specs.DomainPorts.declared.publisher_port.PublisherPort.{PublisherPort}
use Rattle.iox_domain.specs.DomainPorts.declared.reader.Reader.{Reader}
use Rattle.iox_domain.specs.DomainPorts.declared.subscriber_port.SubscriberPort.{SubscriberPort}
use Rattle.iox_domain.specs.DomainSlots.Counting.{times}
use Rattle.iox_domain.specs.DomainSlots.Uses.{Connection, held_by, is_there}
use Rattle.iox_domain.specs.DomainSlots.declared.stage.Stage.TheVariants as stage
use Rattle.iox_domain.specs.Subscribers.{subscriber_of}
use Rattle.iox_domain_machine.specs.Naming.{message_as, mailbox_as}
use Rattle.iox_machine.specs.Mailbox.{Mailbox}
use Rattle.iox_machine.specs.Service.{Subscriber}
use Rattle.iox_machine.specs.Table.{at}

-- How often the slot waits in the connection or is borrowed from it.
abbrev pub times_held : {T U : Type 0} → ℕ → ℕ → PublisherPort T U → ℕ
times_held slot index port = times slot (map (λ (message : domain.Message _ _). message.slot) (held_by (connection_of index port)))

-- Nothing waits in the connection, and at least one sample of it is held.
abbrev pub IsOnlyHeld : {X : Type 0} → Connection X → Type 0
IsOnlyHeld connection = (connection.waiting ≡ []) × (connection.borrowed ≢ [])

-- No connection of the publisher leads to the subscriber with this name.
abbrev pub JoinsNobody : {T U : Type 0} → (ℕ → ℕ) → ℕ → PublisherPort T U → Type 0
JoinsNobody reader name port = (index : ℕ) → is_there (connection_of index port) ≡ true → reader index ≢ name

-- How the connections of a publisher represent mailboxes of the machine, by the names of its messages and of its subscribers.
pub record MailboxesStandFor {T U : Type 0} (name reader subscriber_name : ℕ → ℕ) (port : PublisherPort T U)
    (mailboxes : ℕ → Option (Mailbox T)) (subscribers : List (ℕ × Subscriber)) : Type 0 where
  -- A live connection is the mailbox of its subscriber.
  pub live : (index : ℕ) → is_live index port ≡ true → mailboxes (reader index) ≡ Some (mailbox_as name (connection_of index port))
  -- A connection that ended has the same borrowed messages as its mailbox. Messages that wait in the mailbox are received by
  -- nobody; while the publisher is open none waits there, and the subscriber is closed.
  pub ended : (index : ℕ) → (connection_of index port).stage ≡ stage.Ended
      → (box : Mailbox T) × (mailboxes (reader index) ≡ Some box)
      × (box.borrowed ≡ map (message_as name) (connection_of index port).borrowed)
      × (port.stands ≡ true → (box.waiting ≡ [])
      × ((one : Subscriber) → at (reader index) subscribers ≡ Some one → one.stands ≡ false))
  -- Nothing waits in a connection that ended, and at least one sample of it is held.
  pub quiet : (index : ℕ) → (connection_of index port).stage ≡ stage.Ended → IsOnlyHeld (connection_of index port)
  -- Nothing is borrowed from a mailbox without a connection, and while the publisher is open nothing waits in it.
  pub others : (other : ℕ) → JoinsNobody reader other port → (box : Mailbox T) → mailboxes other ≡ Some box
      → (box.borrowed ≡ []) × (port.stands ≡ true → box.waiting ≡ [])
  -- While the publisher and a subscriber are open and not connected, there is no mailbox for them.
  pub none : (other : ℕ) → JoinsNobody reader other port → port.stands ≡ true → (one : Subscriber) → at other subscribers ≡ Some one
      → one.stands ≡ true → mailboxes other ≡ None
  -- Each connection is that of a subscriber of the machine, and no two are those of the same subscriber.
  pub known : (index : ℕ) → is_there (connection_of index port) ≡ true → is_some (at (reader index) subscribers) ≡ true
  pub apart : (one other : ℕ) → is_there (connection_of one port) ≡ true → is_there (connection_of other port) ≡ true
      → reader one ≡ reader other → one ≡ other
  -- A live connection leads to a subscriber.
  pub led : (index : ℕ) → is_live index port ≡ true → is_some (get_or port.readers index None) ≡ true
  -- The name of the connection is that of the subscriber to which it leads.
  pub read : (index : ℕ) (to : Reader) → get_or port.readers index None ≡ Some to
      → (reader index ≡ subscriber_name to.subscriber) × (subscriber_name to.subscriber ≢ 0)
  -- A connection that leads to a subscriber is live.
  pub heard : (index : ℕ) (to : Reader) → get_or port.readers index None ≡ Some to → is_live index port ≡ true
  -- While the publisher is open, nothing waits in a live connection to which no place is tied, and nothing of it is borrowed.
  pub unmet : port.stands ≡ true → (index : ℕ) → is_live index port ≡ true
      → ((place : ℕ) → get_or port.ties.items place None ≢ Some index) → held_by (connection_of index port) ≡ []
  -- No message waits or is borrowed twice in one connection.
  pub once : (index slot : ℕ) → times_held slot index port ≤ 1
  -- The message that is being sent isn't in a connection that the send hasn't reached yet.
  pub due : (message : domain.Message T U) → port.sender.uses.sending ≡ Some message → (place index : ℕ) → port.progress.place ≤ place
      → get_or port.ties.items place None ≡ Some index → times_held message.slot index port ≡ 0

-- A subscriber that reads from a connection is open, and has a key for it.
abbrev pub IsKeyed : {T U : Type 0} → ℕ → PublisherPort T U → List (ℕ × SubscriberPort) → Type 0
IsKeyed number port subscribers =
    (index : ℕ) (to : Reader) → get_or port.readers index None ≡ Some to → to.attached ≡ true
    → (subscriber : SubscriberPort) × (subscriber_of to.subscriber subscribers ≡ Some subscriber) × (subscriber.stands ≡ true)
    × (key : ℕ) × (attached_at key subscriber ≡ Some (record { publisher = number; index = index }))
