use Rattle.std.proofs.Common.{ap, refl, Some, Ok, Err}
use Rattle.iox_domain.specs.Homes as homes
use Rattle.iox_hub_commands.proofs.Written.{numbered}
use Rattle.iox_hub_commands.proofs.ports.made.Made.loan_at.Goals as goal

pub returns-in-Ok : goal.returns-in-Ok
returns-in-Ok g c =
    numbered (λ id held. homes.ports_of g.H.LendsDomains.domain_of id held)
    (λ id ports held. homes.with_ports g.H.LendsDomains.changed id ports held)
    c.args.elements c.args.value _ c.args.port (Ok c.in-Ok.slot) c.args.self.now _ c.args.home.now c.loan_filled.new.home _
    refl c.in-Ok.ensures.lends c.in-Ok.ensures.ready (
      ap (λ number. Some (Ok number)) c.insert_next.ensures.number,
      ap (λ loans. record c.args.self.now { loans = loans })
          c.insert_next.ensures.table,
    )

pub returns-in-Err : goal.returns-in-Err
returns-in-Err g c =
    numbered (λ id held. homes.ports_of g.H.LendsDomains.domain_of id held)
    (λ id ports held. homes.with_ports g.H.LendsDomains.changed id ports held)
    c.args.elements c.args.value _ c.args.port (Err c.in-Err.error) c.args.self.now _ c.args.home.now c.loan_filled.new.home _
    refl c.in-Err.ensures.lends c.in-Err.ensures.ready (refl, refl)
