use Rattle.std.proofs.Common.{ap, ◌∙◌}
use Rattle.iox_hub_base.proofs.Settled.{begun, whole-with}
use Rattle.iox_hub_base.proofs.hub.Hub.lend_parts.Goals as goal

pub returns-clause-table : goal.returns-clause-table
returns-clause-table g c = c.lend_table-table.ensures.lent ∙ ap (begun c.args.steps.items) c.in_ok-room.ensures.rest

pub returns-clause-rest : goal.returns-clause-rest
returns-clause-rest g c =
    whole-with c.args.self.now c.make_room.new.self c.lend_table-table.new.self _ _ c.in_ok-room.ensures.lent
    c.in_ok-room.ensures.rest c.lend_table-table.ensures.rest
