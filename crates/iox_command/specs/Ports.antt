-- The commands of existing ports, among all commands.
use Rattle.iox_command.specs.declared.command.Command.{Command}
use Rattle.iox_command.specs.declared.command.Command.TheVariants as command
use Rattle.iox_command.specs.declared.ports.port_command.PortCommand.{PortCommand}
use Rattle.iox_command.specs.declared.ports.port_command.PortCommand.TheVariants as port

-- The port's command as one of all commands.
abbrev pub command_of : {T : Type 0} → PortCommand T → Command T
command_of (port.Loan publisher length) = command.Loan publisher length
command_of (port.LoanUninit publisher length) = command.LoanUninit publisher length
command_of (port.Set loan place value) = command.Set loan place value
command_of (port.Fill loan values) = command.Fill loan values
command_of (port.Drop loan) = command.Drop loan
command_of (port.Send loan) = command.Send loan
command_of (port.Put publisher values) = command.Put publisher values
command_of (port.Retry publisher nanoseconds) = command.Retry publisher nanoseconds
command_of (port.GiveUp publisher) = command.GiveUp publisher
command_of (port.Receive subscriber) = command.Receive subscriber
command_of (port.Read sample) = command.Read sample
command_of (port.Sequence sample) = command.Sequence sample
command_of (port.Release sample) = command.Release sample
command_of (port.Update number) = command.Update number
command_of (port.Leave number) = command.Leave number
command_of (port.Has subscriber) = command.Has subscriber
