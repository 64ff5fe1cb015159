use Rattle.iox_domain.proofs.Meaning.{what_fits_has_sizes}
use Rattle.iox_domain.proofs.settings.laws.what_fits_has_sizes.Goals as goal

pub returns : goal.returns
returns c = what_fits_has_sizes
