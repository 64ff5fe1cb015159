-- Theorems about messages in every run of the machine: from whom a subscriber receives them, in which order, and how long they can be read.
use Rattle.std.specs.Prelude.{ℕ, ◌≡◌, ◌⊎◌, Bool, true, false, ◌&&◌, ◌==◌, List, [], ◌∷◌, ◌++◌, find, slice_get, is_some, Option, None}
use Rattle.std.specs.Prelude.{Some, option_map, option_and_then, codes, if◌then◌else◌}
use Rattle.std.specs.Global.{Vec}
use Rattle.std.specs.List.{list_any}
use Rattle.std.specs.Vec.{vec_items}
use Rattle.iox_machine.specs.Choices.{Choices, as_named}
use Rattle.iox_machine.specs.Laws.{number_types, plain_publisher, unnamed}
use Rattle.iox_machine.specs.Message.{Message, Loan}
use Rattle.iox_machine.specs.PortList.{those}
use Rattle.iox_machine.specs.Ports.{publisher_in, subscriber_in}
use Rattle.iox_machine.specs.Run.{Answers, Step, Runs}
use Rattle.iox_machine.specs.RunLaws.{BeginsToSend, has_begun, numbered, sent_as}
use Rattle.iox_machine.specs.Service.{Service, Publisher, Subscriber, mailbox}
use Rattle.iox_machine.specs.State.{State, new_state}
use Rattle.iox_machine.specs.Table.{at, contains}
use Rattle.iox_command.specs.DomainValues.Sequences.{next_sequence}
use Rattle.iox_command.specs.NegotiateBase.DescribeSettings.declared.static_config.publish_subscribe.StaticConfig.{StaticConfig}
use Rattle.iox_command.specs.NegotiateBase.DescribeBase.declared.message_type.MessageTypeDetails.{MessageTypeDetails}
use Rattle.iox_command.specs.declared.command.Command.{Command}
use Rattle.iox_command.specs.declared.command.Command.TheVariants as command
use Rattle.iox_command.specs.declared.reply.Reply.{Reply}
use Rattle.iox_command.specs.declared.reply.Reply.TheVariants as reply
use Rattle.iox_command.specs.declared.service.ServiceOptions.TheVariants as options

-- The first list is a subsequence of the second: it is the second with some elements left out.
abbrev pub IsPartOf : {X : Type 0} → List X → List X → Type 0
IsPartOf part [] = part ≡ []
IsPartOf {X} part (x ∷ whole) = IsPartOf part whole ⊎ ((rest : List X) × (part ≡ x ∷ rest) × IsPartOf rest whole)

-- The list with this element in front, if there is one.
abbrev pub with_one : {X : Type 0} → Option X → List X → List X
with_one None xs = xs
with_one (Some x) xs = x ∷ xs

module _ {T : Type 0} where
  -- What `found` finds at the first service where it finds something.
  abbrev pub first_in : {V : Type 0} → (Service T → Option V) → State T → Option V
  first_in found state = option_and_then found (find (λ service. is_some (found service)) state.services)

  -- The message that the publisher's next put would send, with its sequence number.
  abbrev pub next_message : List T → Publisher T → Message T
  next_message values publisher =
      record { number = publisher.next; sequence = next_sequence publisher.last_sequence; values = values }

  -- The message that a loan of this service becomes, with the sequence number that its send gives it.
  abbrev pub sent_in : Service T → Loan T → Option (Message T)
  sent_in service loan = option_map (λ publisher. numbered publisher (sent_as loan)) (at loan.publisher service.publishers)

  -- The message whose send by this publisher the command begins, if it begins one.
  abbrev pub begun_by : ℕ → Command T → State T → Reply T → Option (Message T)
  begun_by publisher (command.Put number values) old answer =
      if (number == publisher) && has_begun answer then option_map (next_message values) (first_in (publisher_in number) old) else None
  begun_by publisher (command.Send loan) old answer = option_and_then
      (λ service. option_and_then
      (λ one. if (one.publisher == publisher) && has_begun answer then sent_in service one else None) (at loan service.loans))
      (find (λ service. is_some (at loan service.loans)) old.services)
  begun_by publisher other old answer = None

  -- The message of this publisher that the command receives at this subscriber, if it receives one.
  abbrev pub received_by : ℕ → ℕ → Command T → Reply T → State T → Option (Message T)
  received_by publisher subscriber (command.Receive number) (reply.Received sample values) new =
      option_and_then (λ one. if (number == subscriber) && (one.publisher == publisher) then Some one.message else None)
      (first_in (λ service. at sample service.samples) new)
  received_by publisher subscriber other answer new = None

  -- Whether the command is to release this sample.
  abbrev pub is_release_of : ℕ → Command T → Bool
  is_release_of sample (command.Release number) = number == sample
  is_release_of sample other = false

  -- The publisher is of an open service with this name and these settings; the publisher itself may be closed.
  abbrev pub IsOfService : ℕ → List ℕ → StaticConfig → State T → Type 0
  IsOfService publisher name settings state =
      (service : Service T) × (find (λ other. is_some (at publisher other.publishers)) state.services ≡ Some service)
      × (service.name ≡ name) × (service.settings ≡ settings)

module _ {T : Type 0} where
  -- A subscriber takes this message of a publisher: the message was the oldest that waited in their mailbox at this service; the subscriber
  -- is connected to the publisher, which may be closed; and it now holds the message as a sample that names both.
  abbrev pub IsTaken : ℕ → ℕ → ℕ → Message T → Service T → State T → Type 0
  IsTaken publisher subscriber sample message service new =
      (slice_get (mailbox publisher subscriber service).waiting 0 ≡ Some message)
      × ((one : Subscriber) × (first_in (subscriber_in subscriber) new ≡ Some one)
      × (contains (those one.connected ++ one.expired) publisher ≡ true))
      × (first_in (λ other. at sample other.samples) new
      ≡ Some (record { publisher = publisher; subscriber = subscriber; message = message }))

module _ {T : Type 0} (types : MessageTypeDetails) (choices : Choices T) (buffer : ℕ) where
  -- The messages that this publisher sent in the run, in the order in which their sends began.
  abbrev pub sent_by : ℕ → (asked : List (Command T)) (old : State T) (answers : List (Reply T)) (new : State T)
      → Runs types choices buffer asked old answers new → List (Message T)
  sent_by publisher [] old answers new run = []
  sent_by publisher (one ∷ more) old answers new run =
      with_one (begun_by publisher one old run.0) (sent_by publisher more run.1 run.2 new run.4)

  -- The messages of this publisher that this subscriber received in the run, in the order in which they were received.
  abbrev pub received_from : ℕ → ℕ → (asked : List (Command T)) (old : State T) (answers : List (Reply T)) (new : State T)
      → Runs types choices buffer asked old answers new → List (Message T)
  received_from publisher subscriber [] old answers new run = []
  received_from publisher subscriber (one ∷ more) old answers new run =
      with_one (received_by publisher subscriber one run.0 run.1) (received_from publisher subscriber more run.1 run.2 new run.4)

  -- Throughout the run, the publisher is of a service with this name and these settings, so no lifetime of that service ended between.
  abbrev pub StaysOfService : ℕ → List ℕ → StaticConfig → (asked : List (Command T)) (old : State T) (answers : List (Reply T))
      (new : State T) → Runs types choices buffer asked old answers new → Type 0
  StaysOfService publisher name settings [] old answers new run = IsOfService publisher name settings old
  StaysOfService publisher name settings (one ∷ more) old answers new run =
      IsOfService publisher name settings old × StaysOfService publisher name settings more run.1 run.2 new run.4

  -- In the run, the publisher began the send of a message with these values, and was of a service with this name and these settings from
  -- then on.
  abbrev pub BeganIn : ℕ → List ℕ → StaticConfig → List T → (asked : List (Command T)) (old : State T) (answers : List (Reply T))
      (new : State T) → Runs types choices buffer asked old answers new → Type 0
  BeganIn publisher name settings values [] old answers new run = ⊥
  BeganIn publisher name settings values (one ∷ more) old answers new run =
      (BeginsToSend publisher values one old run.0 × StaysOfService publisher name settings (one ∷ more) old answers new run)
      ⊎ BeganIn publisher name settings values more run.1 run.2 new run.4

module _ {T : Type 0} (choices : Choices T) where
  -- If a subscriber receives after a run of a new machine, the values are those of a message that it takes from a publisher's mailbox. The
  -- send of that message began in the run. The publisher is of the subscriber's own service, and has been so since that send.
  abbrev pub ReceivedWasSent : Type 0
  ReceivedWasSent = (types : MessageTypeDetails) (buffer : ℕ) (asked : List (Command T)) (answers : List (Reply T)) (old : State T)
      (run : Runs types choices buffer asked new_state answers old)
      (subscriber sample : ℕ) (values : Vec T) (new : State T)
      → Step types choices buffer (command.Receive subscriber) old (reply.Received sample values) new
      → (publisher : ℕ) × (service : Service T) × (message : Message T)
      × (find (λ other. is_some (subscriber_in subscriber other)) old.services ≡ Some service)
      × (find (λ other. is_some (at publisher other.publishers)) old.services ≡ Some service)
      × IsTaken publisher subscriber sample message service new × (vec_items values ≡ message.values)
      × BeganIn types choices buffer publisher service.name service.settings message.values asked new_state answers old run

  -- In every run of a new machine, the messages that a subscriber received from a publisher are a subsequence of those that the publisher
  -- sent.
  abbrev pub ReceivedInOrder : Type 0
  ReceivedInOrder = (types : MessageTypeDetails) (buffer : ℕ) (asked : List (Command T)) (answers : List (Reply T)) (new : State T)
      (run : Runs types choices buffer asked new_state answers new) (publisher subscriber : ℕ)
      → IsPartOf (received_from types choices buffer publisher subscriber asked new_state answers new run)
      (sent_by types choices buffer publisher asked new_state answers new run)

  -- A sample that was received can be read, with the values that were received, until its own release, whatever other commands come
  -- between.
  abbrev pub HeldIsRead : Type 0
  HeldIsRead = (types : MessageTypeDetails) (buffer : ℕ) (asked : List (Command T)) (answers : List (Reply T)) (old : State T)
      → Runs types choices buffer asked new_state answers old
      → (subscriber sample : ℕ) (values : Vec T) (mid : State T)
      → Step types choices buffer (command.Receive subscriber) old (reply.Received sample values) mid
      → (meanwhile : List (Command T)) (told : List (Reply T)) (later : State T) → Runs types choices buffer meanwhile mid told later
      → list_any (is_release_of sample) meanwhile ≡ false
      → (answer : Reply T) (new : State T) → Step types choices buffer (command.Read sample) later answer new
      → (read : Vec T) × (answer ≡ reply.Values read) × (vec_items read ≡ vec_items values)

-- A script: a node, a service, both ports, and two messages of which the first is loaned first and sent last.
abbrev pub swapped_commands : List (Command ℕ)
swapped_commands =
    command.Node
    ∷ command.Create 1 (codes "A") (options.PublishSubscribe unnamed) [] []
    ∷ command.Subscriber 1 (record { buffer_size = None; degradation_handler = None })
    ∷ command.Publisher 1 plain_publisher
    ∷ command.LoanUninit 1 1
    ∷ command.LoanUninit 1 1
    ∷ command.Fill 1 (1 ∷ [])
    ∷ command.Fill 2 (2 ∷ [])
    ∷ command.Send 2
    ∷ command.Send 1
    ∷ command.Receive 1
    ∷ command.Receive 1
    ∷ []

-- A new machine may answer the script so: the message that was sent first is received first, though it was loaned last.
abbrev pub OrderIsOfSends : Type 0
OrderIsOfSends = (buffer : ℕ) (first second : Vec ℕ) → vec_items first ≡ 1 ∷ [] → vec_items second ≡ 2 ∷ []
    → Answers number_types (as_named (λ value. value ≡ 0)) buffer swapped_commands false
    (reply.NodeMade 1
    ∷ reply.FactoryMade 1
    ∷ reply.SubscriberMade 1
    ∷ reply.PublisherMade 1
    ∷ reply.LoanMade 1
    ∷ reply.LoanMade 2
    ∷ reply.Done
    ∷ reply.Done
    ∷ reply.Delivered 1
    ∷ reply.Delivered 1
    ∷ reply.Received 1 second
    ∷ reply.Received 2 first
    ∷ [])
