-- Which service has what a command names.
use Rattle.std.specs.Prelude.{ℕ, Bool, true, false, List, is_some}
use Rattle.std.specs.Option.{option_map_or}
use Rattle.iox_machine.specs.Ports.{publisher_in, subscriber_in}
use Rattle.iox_machine.specs.Service.{Service}
use Rattle.iox_machine.specs.State.{Factory, is_service_of}
use Rattle.iox_machine.specs.Table.{at}
use Rattle.iox_command.specs.declared.command.Command.{Command}
use Rattle.iox_command.specs.declared.command.Command.TheVariants as command
use Rattle.iox_command.specs.declared.port.PortNumber.TheVariants as port

module _ {T : Type 0} where
  -- Whether a command is one on ports, loans and samples: neither on a node, nor on a factory alone.
  abbrev pub is_on_ports : Command T → Bool
  is_on_ports command.Node = false
  is_on_ports (command.Create node name options attributes steps) = false
  is_on_ports (command.Open node name options required steps) = false
  is_on_ports (command.OpenOrCreate node name options required steps) = false
  is_on_ports (command.Foreign pattern name steps) = false
  is_on_ports (command.Close factory) = false
  is_on_ports other = true

  -- Whether a service has what a command on ports, loans and samples names: its factory, an open port, a loan or a sample.
  abbrev pub has_named : List (ℕ × Factory) → Command T → Service T → Bool
  has_named factories (command.Publisher factory options) service =
      option_map_or (λ one. is_service_of one service) (at factory factories) false
  has_named factories (command.Subscriber factory options) service =
      option_map_or (λ one. is_service_of one service) (at factory factories) false
  has_named factories (command.Loan publisher length) service = is_some (publisher_in publisher service)
  has_named factories (command.LoanUninit publisher length) service = is_some (publisher_in publisher service)
  has_named factories (command.Set loan place value) service = is_some (at loan service.loans)
  has_named factories (command.Fill loan values) service = is_some (at loan service.loans)
  has_named factories (command.Drop loan) service = is_some (at loan service.loans)
  has_named factories (command.Send loan) service = is_some (at loan service.loans)
  has_named factories (command.Put publisher values) service = is_some (publisher_in publisher service)
  has_named factories (command.Retry publisher nanoseconds) service = is_some (publisher_in publisher service)
  has_named factories (command.GiveUp publisher) service = is_some (publisher_in publisher service)
  has_named factories (command.Receive subscriber) service = is_some (subscriber_in subscriber service)
  has_named factories (command.Read sample) service = is_some (at sample service.samples)
  has_named factories (command.Sequence sample) service = is_some (at sample service.samples)
  has_named factories (command.Release sample) service = is_some (at sample service.samples)
  has_named factories (command.Update (port.Publisher publisher)) service = is_some (publisher_in publisher service)
  has_named factories (command.Update (port.Subscriber subscriber)) service = is_some (subscriber_in subscriber service)
  has_named factories (command.Leave (port.Publisher publisher)) service = is_some (publisher_in publisher service)
  has_named factories (command.Leave (port.Subscriber subscriber)) service = is_some (subscriber_in subscriber service)
  has_named factories (command.Has subscriber) service = is_some (subscriber_in subscriber service)
  has_named factories other service = false
