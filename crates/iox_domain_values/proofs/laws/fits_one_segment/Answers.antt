use Rattle.iox_domain_values.proofs.Powers.{fits_one_segment}
use Rattle.iox_domain_values.proofs.laws.fits_one_segment.Goals as goal

pub returns : goal.returns
returns c = fits_one_segment
