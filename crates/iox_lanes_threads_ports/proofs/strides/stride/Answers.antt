use Rattle.std.proofs.Common.{arith, sym, ap, ◌∙◌}
use Rattle.std.proofs.lemmas.Grind.{common_steps}
use Rattle.iox_lanes_machine.specs.LanesBase.Publishing.{publisher_next}
use Rattle.iox_lanes_threads_ports.proofs.Running.{steps_alone}
use Rattle.iox_lanes_threads_ports.proofs.Striding.{strode_once}
use Rattle.iox_lanes_threads_ports.proofs.strides.stride.Goals as goal

pub returns-in_default-clause-strode : goal.returns-in_default-clause-strode
returns-in_default-clause-strode g c =
    strode_once c.args.seat.now.me c.step.new.seat.me c.args.lane.now c.step.new.lane c.requires.seat.0 c.requires.stands
    c.requires.busy c.step.ensures.steps

pub returns-in-Remembering-clause-strode : goal.returns-in-Remembering-clause-strode
returns-in-Remembering-clause-strode g c =
    strode_once c.args.seat.now.me c.args.seat.now.me c.args.lane.now c.go_on.new.self c.requires.seat.0 c.requires.stands c.requires.busy
    (steps_alone c.args.seat.now.me c.args.lane.now c.go_on.new.self c.requires.seat.0
    (ap publisher_next (sym c.stage.ensures ∙ c.in-Remembering.is)) c.go_on.ensures.lane)

pub returns-in-Remembering-clause-table : goal.returns-in-Remembering-clause-table
returns-in-Remembering-clause-table g c = grind (arith, common_steps)

pub returns-in-Remembering-clause-some : goal.returns-in-Remembering-clause-some
returns-in-Remembering-clause-some g c = grind (arith, common_steps)

pub returns-in_default-clause-table : goal.returns-in_default-clause-table
returns-in_default-clause-table g c = grind (arith, common_steps)

pub returns-in_default-clause-some : goal.returns-in_default-clause-some
returns-in_default-clause-some g c = grind (arith, common_steps)
