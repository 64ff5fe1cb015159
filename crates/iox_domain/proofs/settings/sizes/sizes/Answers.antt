use Rattle.iox_domain.proofs.Limits.{history_fits, publishers_fit, subscribers_fit, borrowed_fit, buffer_fits}
use Rattle.iox_domain.proofs.settings.sizes.sizes.Goals as goal

pub overflow_cast-borrowed : goal.overflow_cast-borrowed
overflow_cast-borrowed c = record { fits = borrowed_fit c.args.config.now c.requires }

pub overflow_cast-result : goal.overflow_cast-result
overflow_cast-result c = record { fits = publishers_fit c.args.config.now c.requires }

pub overflow_cast-result-2 : goal.overflow_cast-result-2
overflow_cast-result-2 c = record { fits = subscribers_fit c.args.config.now c.requires }

pub overflow_cast-result-3 : goal.overflow_cast-result-3
overflow_cast-result-3 c = record { fits = buffer_fits c.args.config.now c.requires }

pub overflow_cast-result-4 : goal.overflow_cast-result-4
overflow_cast-result-4 c = record { fits = history_fits c.args.config.now c.requires }
