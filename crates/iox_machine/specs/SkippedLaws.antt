-- Which commands are skipped: those whose node, factory, port, loan or sample doesn't exist, or isn't ready for them.
use Rattle.std.specs.Prelude.{ℕ, ◌≡◌, Bool, true, false, not, ◌&&◌, ◌==◌, nat_le, nat_lt, length, find, is_some}
use Rattle.std.specs.Option.{option_map_or}
use Rattle.iox_machine.specs.Choices.{Choices}
use Rattle.iox_machine.specs.Named.{has_named}
use Rattle.iox_machine.specs.OnceLaws.{is_skipped}
use Rattle.iox_machine.specs.Run.{Step}
use Rattle.iox_machine.specs.RunLaws.{is_written}
use Rattle.iox_machine.specs.Service.{Service}
use Rattle.iox_machine.specs.State.{State}
use Rattle.iox_machine.specs.Table.{at}
use Rattle.iox_command.specs.NegotiateBase.DescribeBase.declared.message_type.MessageTypeDetails.{MessageTypeDetails}
use Rattle.iox_command.specs.declared.command.Command.{Command}
use Rattle.iox_command.specs.declared.command.Command.TheVariants as command
use Rattle.iox_command.specs.declared.port.PortNumber.TheVariants as port
use Rattle.iox_command.specs.declared.reply.Reply.{Reply}

module _ {T : Type 0} where
  -- Whether the service has this publisher, and no send of it is blocked.
  abbrev pub sends_freely : ℕ → Service T → Bool
  sends_freely number service = option_map_or (λ one. not (is_some one.blocked)) (at number service.publishers) false

  -- Whether the service has this publisher, and a send of it is blocked.
  abbrev pub is_held_up : ℕ → Service T → Bool
  is_held_up number service = option_map_or (λ one. is_some one.blocked) (at number service.publishers) false

  -- Whether what a command on ports, loans and samples names is ready for it at the service that has it. A publisher loans, puts, updates
  -- and leaves if no send of it is blocked; a send that is blocked is retried or given up. A value of a loan is set if the loan is written
  -- and has the place, and a loan is filled with as many values as it has. A loan is sent if it is written and its publisher isn't blocked.
  abbrev pub is_ready_for : Command T → Service T → Bool
  is_ready_for (command.Loan publisher count) service = sends_freely publisher service
  is_ready_for (command.LoanUninit publisher count) service = sends_freely publisher service
  is_ready_for (command.Put publisher values) service = sends_freely publisher service
  is_ready_for (command.Update (port.Publisher publisher)) service = sends_freely publisher service
  is_ready_for (command.Leave (port.Publisher publisher)) service = sends_freely publisher service
  is_ready_for (command.Retry publisher nanoseconds) service = is_held_up publisher service
  is_ready_for (command.GiveUp publisher) service = is_held_up publisher service
  is_ready_for (command.Set loan place value) service =
      option_map_or (λ one. is_written one && nat_lt place (length one.values)) (at loan service.loans) false
  is_ready_for (command.Fill loan values) service =
      option_map_or (λ one. length values == length one.values) (at loan service.loans) false
  is_ready_for (command.Send loan) service =
      option_map_or (λ one. is_written one && sends_freely one.publisher service) (at loan service.loans) false
  is_ready_for other service = true

  -- Whether a command can be carried out: the node that it names was made, the factory that it closes is open, or some service has the
  -- factory, open port, loan or sample that it names, and that is ready. A command that makes a node, or is of other nodes, always can.
  abbrev pub is_applicable : Command T → State T → Bool
  is_applicable command.Node state = true
  is_applicable (command.Create node name options attributes steps) state = nat_le 1 node && nat_le node state.made.nodes
  is_applicable (command.Open node name options required steps) state = nat_le 1 node && nat_le node state.made.nodes
  is_applicable (command.OpenOrCreate node name options required steps) state = nat_le 1 node && nat_le node state.made.nodes
  is_applicable (command.Foreign pattern name steps) state = true
  is_applicable (command.Close factory) state = is_some (at factory state.factories)
  is_applicable other state = option_map_or (is_ready_for other) (find (has_named state.factories other) state.services) false

module _ {T : Type 0} (choices : Choices T) where
  -- A command is skipped exactly if it can't be carried out.
  abbrev pub SkippedIfUnready : Type 0
  SkippedIfUnready = (types : MessageTypeDetails) (buffer : ℕ) (asked : Command T) (old : State T) (answer : Reply T) (new : State T)
      → Step types choices buffer asked old answer new → is_skipped answer ≡ not (is_applicable asked old)
