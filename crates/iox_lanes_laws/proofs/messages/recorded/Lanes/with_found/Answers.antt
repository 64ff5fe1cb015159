use Rattle.std.proofs.Common.{◌≡◌, List, subst, sym}
use Rattle.iox_lanes_laws.specs.Messages.{MessageState}
use Rattle.iox_lanes_laws.specs.Numbered.{found_messages}
use Rattle.iox_lanes_laws.specs.Recorded.{AreAsHeld, ArePast}
use Rattle.iox_lanes_laws.proofs.Founds.{found_early, found_held}
use Rattle.iox_lanes_laws.proofs.messages.recorded.Lanes.with_found.Goals as goal

pub returns-in-Ok-clause-held : goal.returns-in-Ok-clause-held
returns-in-Ok-clause-held c =
    let is : c.in-Ok.messages.items ≡ found_messages c.args.lanes = c.in-Ok.ensures in (
      subst (λ (ms : List MessageState). AreAsHeld c.args.lanes ms) (sym is) (found_held c.args.lanes),
      subst (λ (ms : List MessageState). ArePast c.args.lanes ms) (sym is) (found_early c.args.lanes),
    )
