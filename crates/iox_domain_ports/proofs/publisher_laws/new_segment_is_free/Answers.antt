use Rattle.iox_domain_ports.proofs.Lent.{new_segment_is_free}
use Rattle.iox_domain_ports.proofs.publisher_laws.new_segment_is_free.Goals as goal

pub returns : goal.returns
returns g c = new_segment_is_free
