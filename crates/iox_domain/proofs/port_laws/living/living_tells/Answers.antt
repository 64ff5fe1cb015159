use Rattle.std.proofs.Common.{refl}
use Rattle.iox_domain.proofs.Counting.{all_silent, none_of_silent, owner_within}
use Rattle.iox_domain.proofs.port_laws.living.living_tells.Goals as goal

pub returns : goal.returns
returns g c = record { new = λ owner service sizes. refl; none = λ ports. (all_silent ports, none_of_silent ports); within = owner_within }
