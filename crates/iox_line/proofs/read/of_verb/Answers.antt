use Rattle.std.proofs.Common.{sym}
use Rattle.iox_command.specs.Ports.{command_of}
use Rattle.iox_line.specs.Reading.{of_verb}
use Rattle.iox_line.proofs.PortLemmas.{stayed}
use Rattle.iox_line.proofs.read.of_verb.Goals as goal

pub returns-in-Some : goal.returns-in-Some
returns-in-Some c = stayed (of_verb c.args.verb c.args.words) (command_of c.in-Some.command) (sym c.in-Some.ensures)
