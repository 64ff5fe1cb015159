use Rattle.std.proofs.Common.{Option, Some, le_refl, refl, subst}
use Rattle.iox_domain.specs.Homes as homes
use Rattle.iox_delivery.specs.declared.port_id.PortId.{PortId}
use Rattle.iox_hub_commands.specs.Numbering.{LendsWrittenNumbered}
use Rattle.iox_hub_commands.specs.declared.ports.made.Made.{Made}
use Rattle.iox_hub_commands.proofs.ports.made.Made.loan_growing.Goals as goal

pub returns-clause-grows : goal.returns-clause-grows
returns-clause-grows g c =
    let roomier : Made = record c.args.self.now { loans = c.room_for_one.new.numbers } in
    let P : Option PortId → Type 0 = λ found. LendsWrittenNumbered (homes.ports_of g.H.LendsDomains.domain_of)
    (homes.with_ports g.H.LendsDomains.changed) c.args.elements c.args.value found roomier c.args.home.now (Some c.loan_at.result)
    c.loan_at.new.self c.loan_at.new.home in (
      roomier,
      ((refl, refl, le_refl _), (refl, refl, le_refl _), c.room_for_one.ensures.same, (refl, refl, le_refl _)),
      subst P c.in-Some.ensures.port c.loan_at.ensures,
    )
