-- The values of options, and how they are written.
use Rattle.std.specs.Prelude.{ℕ, List, [], ◌∷◌, Option, codes}
use Rattle.iox_domain_values.specs.declared.backpressure_strategy.BackpressureStrategy.{BackpressureStrategy}
use Rattle.iox_domain_values.specs.declared.backpressure_strategy.BackpressureStrategy.TheVariants as strategy
use Rattle.iox_domain_values.specs.declared.data_segment.AllocationStrategy.{AllocationStrategy}
use Rattle.iox_domain_values.specs.declared.data_segment.AllocationStrategy.TheVariants as allocation
use Rattle.iox_domain_values.specs.declared.backpressure.BackpressureAction.{BackpressureAction}
use Rattle.iox_domain_values.specs.declared.backpressure.BackpressureAction.TheVariants as handler
use Rattle.iox_domain_values.specs.declared.degradation.DegradationAction.{DegradationAction}
use Rattle.iox_domain_values.specs.declared.degradation.DegradationAction.TheVariants as degradation
use Rattle.iox_line.specs.Words.{choice}

-- How an action at a failed connection is written.
abbrev pub degradation_word : DegradationAction → List ℕ
degradation_word degradation.Ignore = codes "ignore"
degradation_word degradation.Warn = codes "warn"
degradation_word degradation.DegradeAndFail = codes "fail"

-- Each strategy with its text.
abbrev pub strategies : List (List ℕ × BackpressureStrategy)
strategies = (codes "retry", strategy.RetryUntilDelivered) ∷ (codes "discard", strategy.DiscardData) ∷ []

-- The strategy that a word spells.
abbrev pub strategy_of : List ℕ → Option BackpressureStrategy
strategy_of word = choice strategies word

-- Each allocation strategy with its text.
abbrev pub allocations : List (List ℕ × AllocationStrategy)
allocations = (codes "static", allocation.Static) ∷ (codes "best", allocation.BestFit) ∷ (codes "power", allocation.PowerOfTwo) ∷ []

-- The allocation strategy that a word spells.
abbrev pub allocation_of : List ℕ → Option AllocationStrategy
allocation_of word = choice allocations word

-- Each action at a full mailbox with its text.
abbrev pub handlers : List (List ℕ × BackpressureAction)
handlers = (codes "follow", handler.FollowBackpressureyStrategy) ∷ (codes "retry", handler.Retry)
    ∷ (codes "discard", handler.DiscardData) ∷ (codes "fail", handler.DiscardDataAndFail) ∷ []

-- The action at a full mailbox that a word spells.
abbrev pub handler_of : List ℕ → Option BackpressureAction
handler_of word = choice handlers word

-- Each action at a failed connection with its text.
abbrev pub degradations : List (List ℕ × DegradationAction)
degradations = (codes "ignore", degradation.Ignore) ∷ (codes "warn", degradation.Warn) ∷ (codes "fail", degradation.DegradeAndFail) ∷ []

-- The action at a failed connection that a word spells.
abbrev pub degradation_of : List ℕ → Option DegradationAction
degradation_of word = choice degradations word
