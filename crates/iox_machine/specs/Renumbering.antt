-- A service with other numbers for its factories, publishers, subscribers, loans and samples.
use Rattle.std.specs.Prelude.{ℕ, ◌≡◌, ⊤, List, [], ◌∷◌, map, option_map}
use Rattle.iox_machine.specs.Choices.{Choices}
use Rattle.iox_machine.specs.Message.{Loan, Sample}
use Rattle.iox_machine.specs.PortList.{PortList}
use Rattle.iox_machine.specs.Renaming.{Renaming}
use Rattle.iox_machine.specs.Service.{Service, Publisher, Send, Subscriber}

-- The port list with the other numbers of its ports, at the same places.
abbrev pub renumbered_list : (ℕ → ℕ) → PortList → PortList
renumbered_list by list = record { places = map (option_map by) list.places; changes = list.changes }

-- The table with other numbers, and with each value changed.
abbrev pub renumbered_table : {V W : Type 0} → (ℕ → ℕ) → (V → W) → List (ℕ × V) → List (ℕ × W)
renumbered_table by change table = map (λ entry. (by entry.0, change entry.1)) table

-- The subscriber with the other numbers of its factory and of publishers.
abbrev pub renumbered_subscriber : Renaming → Subscriber → Subscriber
renumbered_subscriber by one = record one {
  factory = by.factories one.factory;
  connected = map (option_map by.publishers) one.connected;
  expired = map by.publishers one.expired;
}

module _ {T : Type 0} where
  -- The choices for ports by their other numbers.
  abbrev pub renumbered_choices : Renaming → Choices T → Choices T
  renumbered_choices by choices = record {
    is_default = choices.is_default;
    publisher_decides = λ other retries elapsed named decision. (publisher : ℕ) × (by.publishers publisher ≡ other)
        × choices.publisher_decides publisher retries elapsed named decision;
    publisher_acts = λ other named action. (publisher : ℕ) × (by.publishers publisher ≡ other)
        × choices.publisher_acts publisher named action;
    subscriber_acts = λ other named action. (subscriber : ℕ) × (by.subscribers subscriber ≡ other)
        × choices.subscriber_acts subscriber named action;
  }

  -- The send with the other numbers of the subscribers that are left.
  abbrev pub renumbered_send : Renaming → Send T → Send T
  renumbered_send by send = record send { left = map by.subscribers send.left }

  -- The publisher with the other numbers of its factory and of subscribers.
  abbrev pub renumbered_publisher : Renaming → Publisher T → Publisher T
  renumbered_publisher by one = record one {
    factory = by.factories one.factory;
    connected = map (option_map by.subscribers) one.connected;
    blocked = option_map (renumbered_send by) one.blocked;
  }

  -- The loan with the other number of its publisher.
  abbrev pub renumbered_loan : Renaming → Loan T → Loan T
  renumbered_loan by loan = record loan { publisher = by.publishers loan.publisher }

  -- The sample with the other numbers of its publisher and its subscriber.
  abbrev pub renumbered_sample : Renaming → Sample T → Sample T
  renumbered_sample by sample = record sample {
    publisher = by.publishers sample.publisher;
    subscriber = by.subscribers sample.subscriber;
  }

  -- The second service is the first with these other numbers.
  abbrev pub IsRenumbered : Renaming → Service T → Service T → Type 0
  IsRenumbered by one other =
      (other.name ≡ one.name) × (other.settings ≡ one.settings)
      × (other.publisher_list ≡ renumbered_list by.publishers one.publisher_list)
      × (other.subscriber_list ≡ renumbered_list by.subscribers one.subscriber_list)
      × (other.publishers ≡ renumbered_table by.publishers (renumbered_publisher by) one.publishers)
      × (other.subscribers ≡ renumbered_table by.subscribers (renumbered_subscriber by) one.subscribers)
      × (other.loans ≡ renumbered_table by.loans (renumbered_loan by) one.loans)
      × (other.samples ≡ renumbered_table by.samples (renumbered_sample by) one.samples)
      × ((publisher subscriber : ℕ)
      → other.mailboxes (by.publishers publisher) (by.subscribers subscriber) ≡ one.mailboxes publisher subscriber)

  -- The second services are the first with these other numbers, one by one.
  abbrev pub AreRenumbered : Renaming → List (Service T) → List (Service T) → Type 0
  AreRenumbered by [] [] = ⊤
  AreRenumbered by (one ∷ more) (other ∷ others) = IsRenumbered by one other × AreRenumbered by more others
  AreRenumbered by ones others = ⊥
