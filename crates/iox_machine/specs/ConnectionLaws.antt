-- Theorems about which ports are listed, and which are connected.
use Rattle.std.specs.Prelude.{ℕ, ◌+◌, ◌≡◌, ◌≤◌, Bool, true, false, not, ◌&&◌, ◌==◌, List, [], ◌∷◌, is_some, if◌then◌else◌}
use Rattle.std.specs.List.{AllByRecursion, IsDistinct, list_any}
use Rattle.std.specs.Option.{option_map_or}
use Rattle.iox_machine.specs.Choices.{Choices}
use Rattle.iox_machine.specs.PortList.{those}
use Rattle.iox_machine.specs.Ports.{publisher_in, subscriber_in}
use Rattle.iox_machine.specs.Run.{Runs}
use Rattle.iox_machine.specs.Service.{Service}
use Rattle.iox_machine.specs.State.{State, new_state}
use Rattle.iox_machine.specs.Table.{at, contains}
use Rattle.iox_command.specs.NegotiateBase.DescribeBase.declared.message_type.MessageTypeDetails.{MessageTypeDetails}
use Rattle.iox_command.specs.declared.command.Command.{Command}
use Rattle.iox_command.specs.declared.reply.Reply.{Reply}

module _ {T : Type 0} where
  -- The two lists of the service have exactly its open ports, each at one place.
  abbrev pub ListsWhoStands : Service T → Type 0
  ListsWhoStands service =
      ((number : ℕ) → contains (those service.publisher_list.places) number ≡ is_some (publisher_in number service))
      × ((number : ℕ) → contains (those service.subscriber_list.places) number ≡ is_some (subscriber_in number service))
      × IsDistinct (λ one other. one == other) (those service.publisher_list.places)
      × IsDistinct (λ one other. one == other) (those service.subscriber_list.places)

  -- If a port of the service is connected to another port, the other one is of this service too, and the two have a mailbox.
  abbrev pub JoinsWhoIsConnected : Service T → Type 0
  JoinsWhoIsConnected service =
      ((publisher subscriber : ℕ)
      → option_map_or (λ one. contains (those one.connected) subscriber) (at publisher service.publishers) false ≡ true
      → (is_some (service.mailboxes publisher subscriber) ≡ true) × (is_some (at subscriber service.subscribers) ≡ true))
      × ((publisher subscriber : ℕ)
      → option_map_or (λ one. contains (those one.connected) publisher) (at subscriber service.subscribers) false ≡ true
      → (is_some (service.mailboxes publisher subscriber) ≡ true) × (is_some (at publisher service.publishers) ≡ true))

  -- Whether this publisher is connected to this subscriber.
  abbrev pub reaches : ℕ → ℕ → State T → Bool
  reaches publisher subscriber state = list_any
      (λ service. option_map_or (λ one. contains (those one.connected) subscriber) (at publisher service.publishers) false)
      state.services

  -- Whether this subscriber is connected to this publisher.
  abbrev pub hears : ℕ → ℕ → State T → Bool
  hears publisher subscriber state = list_any
      (λ service. option_map_or (λ one. contains (those one.connected) publisher) (at subscriber service.subscribers) false)
      state.services

module _ {T : Type 0} (types : MessageTypeDetails) (choices : Choices T) (buffer : ℕ) where
  -- How often the condition becomes true in the run: at how many commands it doesn't hold before and holds after.
  abbrev pub begins_in : (State T → Bool) → (asked : List (Command T)) (old : State T) (answers : List (Reply T)) (new : State T)
      → Runs types choices buffer asked old answers new → ℕ
  begins_in is_so [] old answers new run = 0
  begins_in is_so (one ∷ more) old answers new run =
      (if not (is_so old) && is_so run.1 then 1 else 0) + begins_in is_so more run.1 run.2 new run.4

module _ {T : Type 0} (choices : Choices T) where
  -- In every run of a new machine, the lists of each service have exactly its open ports.
  abbrev pub StandingAreListed : Type 0
  StandingAreListed = (types : MessageTypeDetails) (buffer : ℕ) (asked : List (Command T)) (answers : List (Reply T)) (new : State T)
      → Runs types choices buffer asked new_state answers new → AllByRecursion ListsWhoStands new.services

  -- In every run of a new machine, ports that are connected are of one service, and have a mailbox.
  abbrev pub ConnectedAreJoined : Type 0
  ConnectedAreJoined = (types : MessageTypeDetails) (buffer : ℕ) (asked : List (Command T)) (answers : List (Reply T)) (new : State T)
      → Runs types choices buffer asked new_state answers new → AllByRecursion JoinsWhoIsConnected new.services

  -- In every run of a new machine, a publisher gets connected to the same subscriber at most once, and a subscriber to the same publisher:
  -- a connection that ended is never made again.
  abbrev pub PairsConnectOnce : Type 0
  PairsConnectOnce = (types : MessageTypeDetails) (buffer : ℕ) (asked : List (Command T)) (answers : List (Reply T)) (new : State T)
      (run : Runs types choices buffer asked new_state answers new) (publisher subscriber : ℕ)
      → (begins_in types choices buffer (reaches publisher subscriber) asked new_state answers new run ≤ 1)
      × (begins_in types choices buffer (hears publisher subscriber) asked new_state answers new run ≤ 1)
