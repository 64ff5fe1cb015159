use Rattle.std.proofs.Common.{◌≡◌, rules, Option, Some, subst, sym, if◌then◌else◌}
use Rattle.iox_domain.specs.Homes as homes
use Rattle.iox_domain.proofs.Homely.{same_stays}
use Rattle.iox_delivery.specs.Container.NumberTable.{value_at}
use Rattle.iox_hub_commands.specs.Loans.{changed_under, set_in}
use Rattle.iox_hub_commands.specs.declared.ports.made.MadeLoan.{MadeLoan}
use Rattle.iox_hub_commands.proofs.Loaned.{changed_if_done}
use Rattle.iox_hub_commands.proofs.ports.made.Made.set.Goals as goal

pub returns-in-Some-ports_mut-clause-home : goal.returns-in-Some-ports_mut-clause-home
returns-in-Some-ports_mut-clause-home g c =
    let made = c.in-Some.made in
    let there : Some made ≡ value_at c.args.self.now.loans c.args.loan = search (rules, c.get.ensures, c.copied.ensures, c.in-Some.is) in
    let here : Some c.in-Some-ports_mut.ports.now ≡ homes.ports_of g.H.LendsDomains.domain_of made.port.domain c.args.home.now
    = c.in-Some-ports_mut.ensures.value in
    let P : Option MadeLoan → Type 0 = λ found. homes.with_ports g.H.LendsDomains.changed made.port.domain c.set_in.new.ports
    c.args.home.now ≡ (if c.set_in.result then changed_under (homes.ports_of g.H.LendsDomains.domain_of)
    (homes.with_ports g.H.LendsDomains.changed) (set_in c.args.place c.args.value) found c.args.home.now else c.args.home.now) in
    subst P there (changed_if_done (homes.ports_of g.H.LendsDomains.domain_of) (homes.with_ports g.H.LendsDomains.changed)
    (λ id ports home. same_stays g.H.LendsDomains.domain_of g.H.LendsDomains.changed g.met.H.LendsDomains.alike
    g.met.H.LendsDomains.unchanged id ports home) (set_in c.args.place c.args.value) made c.args.home.now c.in-Some-ports_mut.ports.now
    c.set_in.new.ports (sym here) c.set_in.result c.set_in.ensures.ports)
