use Rattle.std.proofs.Common.{rules, ◌≡◌}
use Rattle.std.specs.BTreeMap.{is_at}
use Rattle.std.specs.Map.{lookup}
use Rattle.std.specs.Ordering.{nat_cmp}
use Rattle.iox_domain_ports.specs.Census.{share_at, publisher_share}
use Rattle.iox_domain_ports.specs.Living.{counted, living_of_publisher}
use Rattle.iox_domain_ports.proofs.Adding.{counted_cut}
use Rattle.iox_domain_ports.proofs.Tallied.{noted_counts, told_living}
use Rattle.iox_domain_ports.proofs.publishers.Publishers.living.Goals as goal

pub told-requires : goal.told-requires
told-requires g c = noted_counts publisher_share c.args.owner c.self.inside.census c.self.inside.ports c.self.invariant

pub returns : goal.returns
returns g c =
    let now : c.share_in-now.result ≡ share_at publisher_share
    (lookup (is_at (nat_cmp c.self.inside.census.lent)) c.self.inside.ports)
    = search rules in
    let told = told_living 18446744073709551615 publisher_share
    (λ port. counted c.args.owner port.owner.number (living_of_publisher port)) c.args.owner
    c.share_in-now.result c.told.result c.self.inside.census c.self.inside.ports c.self.invariant
    (λ port. counted_cut c.args.owner port.owner.number (living_of_publisher port) 18446744073709551615) now c.told.ensures in
    search (rules, told)
