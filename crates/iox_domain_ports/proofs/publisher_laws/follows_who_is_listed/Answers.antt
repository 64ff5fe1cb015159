use Rattle.iox_domain_ports.proofs.Listing.{follows_who_is_listed}
use Rattle.iox_domain_ports.proofs.publisher_laws.follows_who_is_listed.Goals as goal

pub returns : goal.returns
returns g c = follows_who_is_listed _
