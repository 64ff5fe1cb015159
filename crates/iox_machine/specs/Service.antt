-- A publish-subscribe service that is open in the hub: its ports, their mailboxes, its loans and its samples.
use Rattle.std.specs.Prelude.{ℕ, Bool, ◌&&◌, ◌==◌, List, [], replicate, Option, None, Some, is_some, unwrap_or, if◌then◌else◌}
use Rattle.iox_machine.specs.Message.{Message, Loan, Sample}
use Rattle.iox_machine.specs.Mailbox.{Mailbox}
use Rattle.iox_machine.specs.PortList.{PortList}
use Rattle.iox_command.specs.DomainValues.declared.backpressure.BackpressureAction.{BackpressureAction}
use Rattle.iox_command.specs.DomainValues.declared.backpressure_strategy.BackpressureStrategy.{BackpressureStrategy}
use Rattle.iox_command.specs.DomainValues.declared.data_segment.AllocationStrategy.{AllocationStrategy}
use Rattle.iox_command.specs.DomainValues.declared.degradation.DegradationAction.{DegradationAction}
use Rattle.iox_command.specs.NegotiateBase.DescribeSettings.declared.static_config.publish_subscribe.StaticConfig.{StaticConfig}

-- A send in progress: its message; the subscribers that are `left` to try, in place order; how often the first of these was tried again,
-- and for how many nanoseconds; how many mailboxes took the message; and whether the send is to fail at its end.
pub record Send (T : Type 0) : Type 0 where
  pub message : Message T
  pub left : List ℕ
  pub retries : ℕ
  pub elapsed : ℕ
  pub delivered : ℕ
  pub fails : Bool

-- A publisher; it `stands` while it is open. A loan of more than `room` values needs a new segment. The messages from number `first` on are
-- in the current segment, and at most `slots` of them may be in use at once. The publisher's next message has the number `next`. Its next
-- send gives the sequence number after `last_sequence`, which is none if the service doesn't number messages.
pub record Publisher (T : Type 0) : Type 0 where
  pub factory : ℕ
  pub stands : Bool
  pub max_loaned_samples : ℕ
  pub strategy : BackpressureStrategy
  pub handler : Option BackpressureAction
  pub degradation : DegradationAction
  pub allocation : AllocationStrategy
  pub slots : ℕ
  pub room : ℕ
  pub segments : ℕ
  pub first : ℕ
  pub next : ℕ
  pub last_sequence : Option ℕ
  pub history : List (Message T)
  pub seen : ℕ
  pub connected : List (Option ℕ)
  pub blocked : Option (Send T)

-- A subscriber; it `stands` while it is open. A connection to a closed publisher expires if it isn't idle, and its messages can still be
-- received; `expired` lists these publishers, oldest first. The subscriber is to update `again` if it couldn't connect to a publisher
-- because no more connections may be expired.
pub record Subscriber : Type 0 where
  pub factory : ℕ
  pub stands : Bool
  pub buffer_size : ℕ
  pub degradation : DegradationAction
  pub seen : ℕ
  pub again : Bool
  pub connected : List (Option ℕ)
  pub expired : List ℕ

-- A service, from its first factory in the hub to its last. A publisher and a subscriber that have a connection have a mailbox. A port is
-- `connected` to ports of the other kind, at their places, and has `seen` this many changes of their list.
pub record Service (T : Type 0) : Type 0 where
  pub name : List ℕ
  pub settings : StaticConfig
  pub publisher_list : PortList
  pub subscriber_list : PortList
  pub publishers : List (ℕ × Publisher T)
  pub subscribers : List (ℕ × Subscriber)
  pub mailboxes : ℕ → ℕ → Option (Mailbox T)
  pub loans : List (ℕ × Loan T)
  pub samples : List (ℕ × Sample T)

module _ {T : Type 0} where
  -- A service without ports, mailboxes, loans and samples.
  abbrev pub new_service : List ℕ → StaticConfig → Service T
  new_service name settings = record {
    name = name;
    settings = settings;
    publisher_list = record { places = replicate settings.max_publishers None; changes = 0 };
    subscriber_list = record { places = replicate settings.max_subscribers None; changes = 0 };
    publishers = [];
    subscribers = [];
    mailboxes = λ publisher subscriber. None;
    loans = [];
    samples = [];
  }

  -- The mailbox of a publisher and a subscriber; if they have none, an empty one in which no message may wait.
  abbrev pub mailbox : ℕ → ℕ → Service T → Mailbox T
  mailbox publisher subscriber service = unwrap_or (service.mailboxes publisher subscriber)
      (record { limit = 0; waiting = []; borrowed = [] })

  -- The service with this mailbox for a publisher and a subscriber.
  abbrev pub with_mailbox : ℕ → ℕ → Mailbox T → Service T → Service T
  with_mailbox publisher subscriber box service = record service {
    mailboxes = λ one other. if (one == publisher) && (other == subscriber) then Some box else service.mailboxes one other;
  }

  -- The service once a publisher and a subscriber have a connection: the one that they had, or else a new one in which at most `limit`
  -- messages may wait.
  abbrev pub connect : ℕ → ℕ → ℕ → Service T → Service T
  connect limit publisher subscriber service =
      if is_some (service.mailboxes publisher subscriber) then service
      else with_mailbox publisher subscriber (record { limit = limit; waiting = []; borrowed = [] }) service
