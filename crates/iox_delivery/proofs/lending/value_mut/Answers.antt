use Rattle.std.proofs.Common.{◌∙◌, sym, ap, refl}
use Rattle.std.specs.Option.{option_copied_mut}
use Rattle.iox_domain.proofs.Homely.{same_stays}
use Rattle.iox_delivery.proofs.lending.value_mut.Goals as goal

-- src/lending.rt:110:1
pub returns-in-Some : goal.returns-in-Some
returns-in-Some g c =
    let found = sym c.ports_mut.follows ∙ ap option_copied_mut c.in-Some.is in
    let same = same_stays g.H.LendsDomains.domain_of g.H.LendsDomains.changed g.met.H.LendsDomains.alike g.met.H.LendsDomains.unchanged
    c.args.port.domain
    c.in-Some.ports.now c.args.home.now found in
    (rw found (rw same refl), record { writes_back = tt; value = rw found c.value_mut.ensures.value })
