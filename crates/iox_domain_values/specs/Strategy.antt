-- The text form of a backpressure strategy.
use Rattle.std.specs.Prelude.{ℕ, List, codes}
use Rattle.iox_domain_values.specs.declared.backpressure_strategy.BackpressureStrategy.{BackpressureStrategy}
use Rattle.iox_domain_values.specs.declared.backpressure_strategy.BackpressureStrategy.TheVariants as strategy

-- The name of the variant.
abbrev pub strategy_name : BackpressureStrategy → List ℕ
strategy_name strategy.RetryUntilDelivered = codes "RetryUntilDelivered"
strategy_name strategy.DiscardData = codes "DiscardData"
