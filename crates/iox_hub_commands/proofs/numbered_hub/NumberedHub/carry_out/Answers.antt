use Rattle.iox_hub_commands.proofs.GrowingFor.{no_growth}
use Rattle.iox_hub_commands.proofs.PortRooms.{no_port}
use Rattle.iox_hub_commands.proofs.numbered_hub.NumberedHub.carry_out.Goals as goal

pub carry_out_port-requires : goal.carry_out_port-requires
carry_out_port-requires g c = rw c.in-Err.ensures.steps.1 c.requires

pub returns-in-Err : goal.returns-in-Err
returns-in-Err g c =
    let (is, same) = c.in-Err.ensures.steps in record {
      comes = rw is (no_port _ c.in-Err.command);
      capacity = rw is (no_growth c.in-Err.command c.args.self.now c.carry_out_port.new.self);
      pledged = rw (is, ← same) c.carry_out_port.ensures.pledged;
      finds = rw (is, ← same) c.carry_out_port.ensures.finds;
      steps = rw (is, ← same) c.carry_out_port.ensures.steps;
    }
