use Rattle.iox_domain.proofs.Meaning.{fit_means}
use Rattle.iox_domain.proofs.settings.laws.fit_means.Goals as goal

pub returns : goal.returns
returns c = fit_means
