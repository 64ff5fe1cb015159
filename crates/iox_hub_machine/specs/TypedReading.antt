-- What a program may do with the values that it holds, and what it reads of samples.
use Rattle.std.specs.Prelude.{ℕ, ◌+◌, ◌^◌, ◌<◌, ◌≡◌, true, List, length, find, is_some, Some, Ok}
use Rattle.std.specs.Global.{Vec}
use Rattle.std.specs.Vec.{vec_items}
use Rattle.iox_command.specs.declared.command.Command.{Command}
use Rattle.iox_command.specs.declared.command.Command.TheVariants as command
use Rattle.iox_command.specs.declared.reply.Reply.{Reply}
use Rattle.iox_command.specs.declared.reply.Reply.TheVariants as reply
use Rattle.iox_container.specs.NumberTable.{value_at}
use Rattle.iox_delivery.specs.Holding.{holds_message, loan_found, publisher_stands, subscriber_stands}
use Rattle.iox_delivery.specs.Subscribing.{ReceivesSample}
use Rattle.iox_delivery.specs.declared.port_id.PortId.{PortId}
use Rattle.iox_delivery.specs.declared.sample.Sample.{Sample}
use Rattle.iox_hub_base.specs.AsHome.{hub_ports, with_hub_ports}
use Rattle.iox_hub_base.specs.declared.hub.Hub.{Hub}
use Rattle.iox_hub_commands.specs.CommandSteps.{subscriber_may_degrade}
use Rattle.iox_hub_commands.specs.Reading.{values_under}
use Rattle.iox_hub_commands.specs.Tables.{port_under}
use Rattle.iox_hub_commands.specs.Terms.{Terms}
use Rattle.iox_hub_commands.specs.declared.numbered_hub.NumberedHub.{NumberedHub}
use Rattle.iox_hub_commands.specs.declared.ports.made.MadeLoan.{MadeLoan}
use Rattle.iox_hub_commands.specs.declared.ports.made.MadeSample.{MadeSample}
use Rattle.iox_hub_machine.specs.Ran.{StandsAfter}
use Rattle.iox_hub_machine.specs.TypedSteps.{payload_there}
use Rattle.iox_machine.specs.MessageLaws.{BeganIn}
use Rattle.iox_machine.specs.Ports.{subscriber_in}
use Rattle.iox_machine.specs.Run.{Runs, Step}
use Rattle.iox_machine.specs.Service.{Service}
use Rattle.iox_machine.specs.State.{State, new_state}
use Rattle.iox_machine.specs.Table.{at}
use Rattle.iox_negotiate_machine.specs.Laws.{HaveOwnHashes}
use Rattle.iox_machine.specs.Choices.{Choices}

-- What a program holds by numbers can be used: each port is open, each loan exists, and each sample is held, even if its subscriber was
-- closed.
pub record MayBeUsed {T U B D : Type 0} (hub : NumberedHub T U B D) : Type 0 where
  pub publishers : (number : ℕ) (port : PortId) → port_under (value_at hub.made.publishers number) ≡ Some port
      → publisher_stands port.number (hub_ports port.domain hub.hub) ≡ true
  pub subscribers : (number : ℕ) (port : PortId) → value_at hub.made.subscribers number ≡ Some port
      → subscriber_stands port.number (hub_ports port.domain hub.hub) ≡ true
  pub loans : (number : ℕ) (made : MadeLoan) → value_at hub.made.loans number ≡ Some made
      → is_some (loan_found made.port.number made.slot (hub_ports made.port.domain hub.hub)) ≡ true
  pub samples : (number : ℕ) (made : MadeSample) → value_at hub.made.samples number ≡ Some made
      → holds_message made.port.number made.taken (hub_ports made.port.domain hub.hub) ≡ true

-- If a hub represents a state, what its program holds can be used.
abbrev pub HeldMayBeUsed : {T U B D : Type 0} → Terms T U B D → Choices T → Type 0
HeldMayBeUsed {T} {U} {B} {D} terms choices = (names : List (List ℕ)) (most : ℕ) (hub : NumberedHub T U B D) (state : State T)
    → StandsAfter terms.types choices terms.degrades terms.decides terms.reader_degrades names most hub state
    → MayBeUsed hub

-- Samples are of one kind: single values, or slices. The parameters: the kind, and the terms of the hub.
module _ {T U B D : Type 0} (K : Type 0) (terms : Terms T U B D) (choices : Choices T) where
  -- The values that a subscriber received after a run of the machine were sent in that run, by a publisher of the subscriber's own service,
  -- which has been of that service since that send.
  pub record WasSent (buffer : ℕ) (asked : List (Command T)) (answers : List (Reply T)) (state : State T)
      (run : Runs terms.types choices buffer asked new_state answers state) (subscriber : ℕ) (values : List T) : Type 0
    where
      pub publisher : ℕ
      pub service : Service T
      pub receives : find (λ other. is_some (subscriber_in subscriber other)) state.services ≡ Some service
      pub sends : find (λ other. is_some (at publisher other.publishers)) state.services ≡ Some service
      pub began : BeganIn terms.types choices buffer publisher service.name service.settings values asked new_state
          answers state run

  -- The values that the `payload` of a newly received sample returns were sent. The calls of the program were a run of the machine, with
  -- these commands and answers, and the hub represents the state that it reached; the values fit in a vector; the other premises are those
  -- of each step.
  abbrev pub PayloadWasSent : Type 0
  PayloadWasSent = (names : List (List ℕ)) (most : ℕ) (asked : List (Command T)) (answers : List (Reply T)) (state : State T)
      (old : NumberedHub T U B D) (hub : Hub T U B D)
      (run : Runs terms.types choices old.hub.expired_connection_buffer asked new_state answers state)
      (subscriber : ℕ) (receiver : PortId) (sample : Sample T U K) (values : List T)
      → HaveOwnHashes names → most + 1 < 2 ^ 56
      → StandsAfter terms.types choices terms.degrades terms.decides terms.reader_degrades names most old state
      → value_at old.made.subscribers subscriber ≡ Some receiver
      → ReceivesSample hub_ports with_hub_ports (subscriber_may_degrade terms.reader_degrades) receiver old.hub (Ok (Some sample)) hub
      → payload_there sample hub ≡ Some values → length values < 2 ^ 63
      → WasSent old.hub.expired_connection_buffer asked answers state run subscriber values

  -- The `payload` of a sample returns later what it returned when the sample was received. Between the two calls lies a run of the machine,
  -- to the state that the hub then represents, and the sample still has its number.
  abbrev pub PayloadStays : Type 0
  PayloadStays = (buffer : ℕ) (asked : List (Command T)) (answers : List (Reply T)) (old mid later : State T)
      → Runs terms.types choices buffer asked new_state answers old
      → (subscriber sample : ℕ) (values : Vec T)
      → Step terms.types choices buffer (command.Receive subscriber) old (reply.Received sample values) mid
      → (meanwhile : List (Command T)) (told : List (Reply T)) → Runs terms.types choices buffer meanwhile mid told
      later
      → (names : List (List ℕ)) (most : ℕ) (hub : NumberedHub T U B D) (made : MadeSample) (read : List T)
      → HaveOwnHashes names → most + 1 < 2 ^ 56
      → StandsAfter terms.types choices terms.degrades terms.decides terms.reader_degrades names most hub later
      → hub.hub.expired_connection_buffer ≡ buffer
      → value_at hub.made.samples sample ≡ Some made → values_under hub_ports (Some made) hub.hub ≡ Some read
      → length read < 2 ^ 63 → read ≡ vec_items values
