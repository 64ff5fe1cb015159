-- Which numbered loans and samples of a domain represent those of the machine.
use Rattle.std.specs.Prelude.{ℕ, ◌==◌, ◌&&◌, ◌≡◌, ◌≤◌, List, [], filter, map, count_by, option_and_then, Option, None, Some}
use Rattle.std.specs.List.{All}
use Rattle.std.specs.Map.{keys_of}
use Rattle.std.specs.Option.{option_map_or}
use Rattle.iox_domain.specs.DomainPorts.Messages as domain
use Rattle.iox_domain.specs.DomainPorts.MessagesSending.{slots_of}
use Rattle.iox_domain.specs.DomainPorts.Publishers.{port_of, connection_in}
use Rattle.iox_domain.specs.DomainPorts.declared.attached.Taken.{Taken}
use Rattle.iox_domain.specs.DomainPorts.declared.publisher_port.PublisherPort.{PublisherPort}
use Rattle.iox_domain.specs.DomainPorts.declared.subscriber_port.SubscriberPort.{SubscriberPort}
use Rattle.iox_domain.specs.Lending.{loan_in}
use Rattle.iox_domain.specs.Reading.{sample_in}
use Rattle.iox_domain.specs.Subscribers.{subscriber_of}
use Rattle.iox_domain.specs.Tries.{how_often}
use Rattle.iox_domain.specs.declared.ports.service_ports.ServicePorts.{ServicePorts}
use Rattle.iox_domain_machine.specs.Naming.{Naming}
use Rattle.iox_machine.specs.Message.{Loan, Sample}

-- A loan of a domain: its publisher and its slot.
pub record LentSlot : Type 0 where
  pub publisher : ℕ
  pub slot : ℕ

-- The slots of the publisher's numbered loans.
abbrev pub slots_lent_by : ℕ → List (ℕ × LentSlot) → List ℕ
slots_lent_by publisher lent =
    map (λ (entry : ℕ × LentSlot). entry.1.slot)
    (filter (λ (entry : ℕ × LentSlot). entry.1.publisher == publisher) lent)

-- The slots of the numbered samples that came through this connection.
abbrev pub slots_held_of : ℕ → ℕ → List (ℕ × Taken) → List ℕ
slots_held_of publisher index held =
    map (λ (entry : ℕ × Taken). entry.1.slot)
    (filter (λ (entry : ℕ × Taken). (entry.1.publisher == publisher) && (entry.1.index == index)) held)

-- How many numbered samples the subscriber received.
abbrev pub samples_held_by : ℕ → List (ℕ × Taken) → ℕ
samples_held_by subscriber held = count_by (λ (entry : ℕ × Taken). entry.1.subscriber == subscriber) held

-- The slots of the loans of the publisher; none without a publisher.
abbrev pub loans_at_port : {T U : Type 0} → Option (PublisherPort T U) → List ℕ
loans_at_port None = []
loans_at_port (Some port) = (slots_of port.sender).loans

-- How many samples the subscriber holds; 0 without a subscriber.
abbrev pub held_at_port : Option SubscriberPort → ℕ
held_at_port None = 0
held_at_port (Some port) = port.held

module _ {T U : Type 0} (names : Naming) (ports : ServicePorts T U) where
  -- The machine's loan that this loan represents, by names.
  abbrev pub loan_as : LentSlot → Loan T
  loan_as lent = record {
    publisher = names.publisher lent.publisher;
    number = names.message lent.publisher lent.slot;
    values = option_map_or (λ (loan : domain.Loan T U). loan.values) (loan_in lent.publisher lent.slot ports) [];
  }

  -- The machine's sample that this sample represents, by names.
  abbrev pub sample_as : Taken → Sample T
  sample_as taken = record {
    publisher = names.publisher taken.publisher;
    subscriber = names.subscriber taken.subscriber;
    message = record {
      number = names.message taken.publisher taken.slot;
      sequence = option_and_then (λ (message : domain.Message T U). message.sequence) (sample_in taken ports);
      values = option_map_or (λ (message : domain.Message T U). message.values) (sample_in taken ports) [];
    };
  }

  -- The machine's loans are represented by the numbered ones. Each of these has its own number, and they are exactly the loans
  -- of the publishers.
  pub record LoansStandFor (lent : List (ℕ × LentSlot)) (loans : List (ℕ × Loan T)) : Type 0 where
    pub same : loans ≡ map (λ (entry : ℕ × LentSlot). (entry.0, loan_as entry.1)) lent
    pub once : (number : ℕ) → how_often number (keys_of lent) ≤ 1
    pub all : (publisher : ℕ) → slots_lent_by publisher lent ≡ loans_at_port (port_of publisher ports.publishers)

  -- The machine's samples are represented by the numbered ones. Each of these has its own number. They are exactly the borrowed
  -- messages of the connections, each with the subscriber of its connection, and the held samples of each subscriber are
  -- counted right.
  pub record SamplesStandFor (held : List (ℕ × Taken)) (samples : List (ℕ × Sample T)) : Type 0 where
    pub same : samples ≡ map (λ (entry : ℕ × Taken). (entry.0, sample_as entry.1)) held
    pub once : (number : ℕ) → how_often number (keys_of held) ≤ 1
    pub all : (publisher index : ℕ)
        → slots_held_of publisher index held
        ≡ map (λ (message : domain.Message T U). message.slot) (connection_in publisher index ports.publishers).borrowed
    pub whose : All (λ (entry : ℕ × Taken). names.reader entry.1.publisher entry.1.index ≡ names.subscriber entry.1.subscriber) held
    pub counted : (subscriber : ℕ) → samples_held_by subscriber held ≡ held_at_port (subscriber_of subscriber ports.subscribers)
