-- Theorems about updates: which ports are connected once a port has followed the list of the other kind, and what waits then.
use Rattle.std.specs.Prelude.{ℕ, ◌≡◌, ◌⊎◌, ◌==◌, Bool, true, false, not, List, [], Option, None, Some, find, zip, is_some, MatchOption}
use Rattle.std.specs.Prelude.{Ok, length, if◌then◌else◌}
use Rattle.std.specs.List.{AllByRecursion}
use Rattle.std.specs.Option.{option_map_or}
use Rattle.iox_machine.specs.Choices.{Choices}
use Rattle.iox_machine.specs.Mailbox.{Mailbox, newest}
use Rattle.iox_machine.specs.Message.{Message}
use Rattle.iox_machine.specs.PortList.{those}
use Rattle.iox_machine.specs.Ports.{publisher_in, subscriber_in}
use Rattle.iox_machine.specs.PublisherUpdate.{UpdateAnswers}
use Rattle.iox_machine.specs.RefusalLaws.{KeepsPorts}
use Rattle.iox_machine.specs.Run.{Step}
use Rattle.iox_machine.specs.Service.{Service, Publisher, Subscriber, mailbox}
use Rattle.iox_machine.specs.State.{State, replaced}
use Rattle.iox_machine.specs.Table.{at, contains}
use Rattle.iox_command.specs.NegotiateBase.DescribeBase.declared.message_type.MessageTypeDetails.{MessageTypeDetails}
use Rattle.iox_command.specs.declared.command.Command.TheVariants as command
use Rattle.iox_command.specs.declared.port.PortNumber.TheVariants as port
use Rattle.iox_command.specs.declared.reply.Reply.TheVariants as reply

-- At a place where a port is listed, this port is connected to it, or to none because memory ran out for their mailbox. At a place where
-- none is listed, it is connected to none.
abbrev pub IsFollowed : (ℕ → Bool) → Option ℕ × Option ℕ → Type 0
IsFollowed has_box place =
    MatchOption place.0 (place.1 ≡ None)
    (λ listed. (place.1 ≡ Some listed) ⊎ ((place.1 ≡ None) × (has_box listed ≡ false)))

-- The place is as `IsFollowed` says; or the subscriber is still connected to a closed publisher there, since something is borrowed of that
-- connection.
abbrev pub IsFollowedOrStays : (ℕ → Bool) → (ℕ → Bool) → Option ℕ × Option ℕ → Type 0
IsFollowedOrStays has_box is_free place =
    IsFollowed has_box place ⊎ ((other : ℕ) × (place.1 ≡ Some other) × (is_free other ≡ false))

module _ {T : Type 0} where
  -- What waits in a mailbox that existed, once its publisher has followed the list of subscribers: nothing, if the subscriber was closed;
  -- what waited before, if the two were connected; otherwise as much of the history as may wait.
  abbrev pub waits_then : Publisher T → Service T → ℕ → Mailbox T → List (Message T)
  waits_then was service subscriber box =
      if not (contains (those service.subscriber_list.places) subscriber) then []
      else (if contains (those was.connected) subscriber then box.waiting else newest box.limit was.history)

  -- The mailbox after the update, if it is one of this publisher; any other mailbox stays as it was.
  abbrev pub box_then : ℕ → Publisher T → Service T → ℕ → ℕ → Mailbox T → Mailbox T
  box_then number was service publisher subscriber box =
      if publisher == number then record box { waiting = waits_then was service subscriber box } else box

  -- The mailbox of a publisher and a subscriber that had none: with the subscriber's buffer size, with as much of the history as may wait,
  -- and with nothing borrowed.
  abbrev pub first_box : Publisher T → Service T → ℕ → Mailbox T
  first_box was service subscriber =
      let limit = option_map_or (λ one. one.buffer_size) (at subscriber service.subscribers) 0 in
      record { limit = limit; waiting = newest limit was.history; borrowed = [] }

  -- An update changes only one service. Of this service it leaves the loans, and what `KeepsPorts` says, samples and histories included.
  abbrev pub UpdateLeaves : (Service T → Bool) → State T → State T → Service T → Service T → Type 0
  UpdateLeaves has old new service after =
      (find has old.services ≡ Some service) × (new ≡ record old { services = replaced has after old.services })
      × (after.loans ≡ service.loans) × KeepsPorts service after

module _ {T : Type 0} (choices : Choices T) where
  -- After a successful update of a publisher, it has seen all changes of the list of subscribers. If there were changes, it is connected to
  -- each listed subscriber, or the connection failed; no connection failed if the publisher's action then is to fail. If there were no
  -- changes, nothing changes.
  abbrev pub PublisherIsUpdated : Type 0
  PublisherIsUpdated = (types : MessageTypeDetails) (buffer number : ℕ) (old new : State T)
      → Step types choices buffer (command.Update (port.Publisher number)) old reply.Done new
      → (service : Service T) × (one : Publisher T)
      × (find (λ other. is_some (publisher_in number other)) new.services ≡ Some service) × (publisher_in number service ≡ Some one)
      × (one.seen ≡ service.subscriber_list.changes)
      × ((new ≡ old)
      ⊎ ((length one.connected ≡ length service.subscriber_list.places)
      × AllByRecursion (IsFollowed (λ subscriber. is_some (service.mailboxes number subscriber)))
      (zip service.subscriber_list.places one.connected)
      × UpdateAnswers (choices.publisher_acts number one.degradation) (zip service.subscriber_list.places one.connected) (Ok tt)))

  -- After a successful update of a subscriber, the same is true for it and the list of publishers, except that a closed publisher may stay
  -- at its place if something is borrowed from it.
  abbrev pub SubscriberIsUpdated : Type 0
  SubscriberIsUpdated = (types : MessageTypeDetails) (buffer number : ℕ) (old new : State T)
      → Step types choices buffer (command.Update (port.Subscriber number)) old reply.Done new
      → (service : Service T) × (one : Subscriber)
      × (find (λ other. is_some (subscriber_in number other)) new.services ≡ Some service) × (subscriber_in number service ≡ Some one)
      × (one.seen ≡ service.publisher_list.changes)
      × ((new ≡ old)
      ⊎ (AllByRecursion (IsFollowedOrStays (λ publisher. is_some (service.mailboxes publisher number))
      (λ publisher. length (mailbox publisher number service).borrowed == 0))
      (zip service.publisher_list.places one.connected)
      × UpdateAnswers (choices.subscriber_acts number one.degradation) (zip service.publisher_list.places one.connected) (Ok tt)))

  -- After a successful update of a publisher, each mailbox that existed still exists, with all that is borrowed. In a mailbox of the
  -- publisher itself, what waited still waits if the publisher was connected to the subscriber and the subscriber is still listed. A new
  -- mailbox is one of the publisher and a listed subscriber, and begins with the history. All else stays.
  abbrev pub PublisherKeepsMailboxes : Type 0
  PublisherKeepsMailboxes = (types : MessageTypeDetails) (buffer number : ℕ) (old new : State T)
      → Step types choices buffer (command.Update (port.Publisher number)) old reply.Done new
      → (new ≡ old)
      ⊎ ((service : Service T) × (after : Service T) × (was : Publisher T)
      × UpdateLeaves (λ other. is_some (publisher_in number other)) old new service after
      × (publisher_in number service ≡ Some was)
      × (find (λ other. is_some (publisher_in number other)) new.services ≡ Some after)
      × ((publisher subscriber : ℕ) (box : Mailbox T) → service.mailboxes publisher subscriber ≡ Some box
      → after.mailboxes publisher subscriber ≡ Some (box_then number was service publisher subscriber box))
      × ((publisher subscriber : ℕ) (box : Mailbox T) → service.mailboxes publisher subscriber ≡ None
      → after.mailboxes publisher subscriber ≡ Some box
      → (publisher ≡ number) × (contains (those service.subscriber_list.places) subscriber ≡ true)
      × (box ≡ first_box was service subscriber)))

  -- After a successful update of a subscriber, each mailbox that existed is as it was. A new mailbox is one of this subscriber, has its
  -- buffer size, and is empty. All else stays.
  abbrev pub SubscriberKeepsMailboxes : Type 0
  SubscriberKeepsMailboxes = (types : MessageTypeDetails) (buffer number : ℕ) (old new : State T)
      → Step types choices buffer (command.Update (port.Subscriber number)) old reply.Done new
      → (new ≡ old)
      ⊎ ((service : Service T) × (after : Service T) × (was : Subscriber)
      × UpdateLeaves (λ other. is_some (subscriber_in number other)) old new service after
      × (subscriber_in number service ≡ Some was)
      × (find (λ other. is_some (subscriber_in number other)) new.services ≡ Some after)
      × ((publisher subscriber : ℕ) (box : Mailbox T) → service.mailboxes publisher subscriber ≡ Some box
      → after.mailboxes publisher subscriber ≡ Some box)
      × ((publisher subscriber : ℕ) (box : Mailbox T) → service.mailboxes publisher subscriber ≡ None
      → after.mailboxes publisher subscriber ≡ Some box
      → (subscriber ≡ number) × (box ≡ record { limit = was.buffer_size; waiting = []; borrowed = [] })))
