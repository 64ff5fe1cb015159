use Rattle.std.proofs.Common.{◌∙◌, sym, ap, refl}
use Rattle.std.specs.Option.{option_copied_mut}
use Rattle.iox_domain.proofs.Homely.{same_stays}
use Rattle.iox_delivery.proofs.lending.user_header_mut.Goals as goal

-- src/lending.rt:132:1
pub returns : goal.returns
returns g c =
    let found = sym c.ports_mut.follows ∙ ap option_copied_mut c.in_ok-ports_mut.was in
    let same = same_stays g.H.LendsDomains.domain_of g.H.LendsDomains.changed g.met.H.LendsDomains.alike g.met.H.LendsDomains.unchanged
    c.args.port.domain
    c.in_ok-ports_mut.field-0.now c.args.home.now found in
    (rw found (rw same refl), record { writes_back = tt; value = rw found c.user_header_mut.ensures.value })
