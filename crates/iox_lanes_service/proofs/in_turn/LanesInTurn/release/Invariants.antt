use Rattle.iox_command.specs.declared.command.Command.TheVariants as command
use Rattle.iox_command.specs.declared.reply.Reply.TheVariants as reply
use Rattle.iox_lanes_service.specs.InTurn.{turned}
use Rattle.iox_machine.specs.Table.{removed}
use Rattle.iox_lanes_service.proofs.in_turn.LanesInTurn.release.Given as goal

abbrev pub ghost-told : goal.ghost-told
ghost-told a = record (turned (command.Release a._asked.now.value) reply.Done a._before.now.turns) {
  held = removed a._asked.now.value a._before.now.turns.held;
}
