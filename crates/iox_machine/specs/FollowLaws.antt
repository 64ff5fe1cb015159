-- Theorems about which ports are connected, whenever a port has seen all changes of the list of the other kind.
use Rattle.std.specs.Prelude.{ℕ, ◌≡◌, ◌⊎◌, Bool, true, List, [], ◌∷◌, length, zip, find, is_some, Option, None, Some, MatchOption}
use Rattle.std.specs.List.{AllByRecursion}
use Rattle.iox_machine.specs.Choices.{Choices}
use Rattle.iox_machine.specs.Ports.{publisher_in, subscriber_in}
use Rattle.iox_machine.specs.Run.{Runs}
use Rattle.iox_machine.specs.Service.{Service, Publisher, Subscriber}
use Rattle.iox_machine.specs.State.{State, new_state}
use Rattle.iox_command.specs.NegotiateBase.DescribeBase.declared.message_type.MessageTypeDetails.{MessageTypeDetails}
use Rattle.iox_command.specs.declared.command.Command.{Command}
use Rattle.iox_command.specs.declared.reply.Reply.{Reply}

-- At a place where a port is listed, this port is connected to it, or to none because the connection failed.
abbrev pub IsConnectedOrFailed : (ℕ → Type 0) → Option ℕ × Option ℕ → Type 0
IsConnectedOrFailed Failed place =
    MatchOption place.0 (Unit {0}) (λ listed. (place.1 ≡ Some listed) ⊎ ((place.1 ≡ None) × Failed listed))

-- The place is as `IsConnectedOrFailed` says; or the subscriber is still connected to another publisher there, and is to update again.
abbrev pub IsConnectedOrStays : (ℕ → Type 0) → Bool → Option ℕ × Option ℕ → Type 0
IsConnectedOrStays Failed again place =
    IsConnectedOrFailed Failed place ⊎ ((again ≡ true) × (other : ℕ) × (place.1 ≡ Some other))

module _ {T : Type 0} where
  -- `Is` holds of at least one of these services.
  abbrev pub HasSome : (Service T → Type 0) → List (Service T) → Type 0
  HasSome Is [] = ⊥
  HasSome Is (service ∷ more) = Is service ⊎ HasSome Is more

module _ {T : Type 0} (types : MessageTypeDetails) (choices : Choices T) (buffer : ℕ) where
  -- `Is` held of some service at some state of the run.
  abbrev pub WasOnce : (Service T → Type 0) → (asked : List (Command T)) (old : State T) (answers : List (Reply T)) (new : State T)
      → Runs types choices buffer asked old answers new → Type 0
  WasOnce Is [] old answers new run = HasSome Is old.services
  WasOnce Is (one ∷ more) old answers new run = HasSome Is old.services ⊎ WasOnce Is more run.1 run.2 new run.4

module _ {T : Type 0} (choices : Choices T) where
  -- In every run of a new machine, a publisher that has seen all changes of the list of subscribers has as many places as the list. At each
  -- place where a subscriber is listed, the publisher is connected to it, or to none because the connection failed: at some state of the
  -- run with this same list the two had no mailbox.
  abbrev pub PublisherIsConnected : Type 0
  PublisherIsConnected = (types : MessageTypeDetails) (buffer : ℕ) (asked : List (Command T)) (answers : List (Reply T)) (new : State T)
      (run : Runs types choices buffer asked new_state answers new) (number : ℕ) (service : Service T) (one : Publisher T)
      → find (λ other. is_some (publisher_in number other)) new.services ≡ Some service → publisher_in number service ≡ Some one
      → one.seen ≡ service.subscriber_list.changes
      → (length one.connected ≡ length service.subscriber_list.places)
      × AllByRecursion
      (IsConnectedOrFailed (λ subscriber. WasOnce types choices buffer
      (λ other. (other.subscriber_list ≡ service.subscriber_list) × (other.mailboxes number subscriber ≡ None)) asked new_state answers new
      run)) (zip service.subscriber_list.places one.connected)

  -- The same holds for a subscriber and the list of publishers, except that a subscriber that is to update again may still be connected to
  -- another publisher at a place.
  abbrev pub SubscriberIsConnected : Type 0
  SubscriberIsConnected = (types : MessageTypeDetails) (buffer : ℕ) (asked : List (Command T)) (answers : List (Reply T)) (new : State T)
      (run : Runs types choices buffer asked new_state answers new) (number : ℕ) (service : Service T) (one : Subscriber)
      → find (λ other. is_some (subscriber_in number other)) new.services ≡ Some service → subscriber_in number service ≡ Some one
      → one.seen ≡ service.publisher_list.changes
      → (length one.connected ≡ length service.publisher_list.places)
      × AllByRecursion
      (IsConnectedOrStays (λ publisher. WasOnce types choices buffer
      (λ other. (other.publisher_list ≡ service.publisher_list) × (other.mailboxes publisher number ≡ None)) asked new_state answers new
      run) one.again) (zip service.publisher_list.places one.connected)
