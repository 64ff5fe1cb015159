-- What a send does at a full mailbox.
use Rattle.std.specs.Prelude.{Option, Some, None}
use Rattle.iox_domain_values.specs.declared.backpressure_strategy.BackpressureStrategy.{BackpressureStrategy}
use Rattle.iox_domain_values.specs.declared.backpressure_strategy.BackpressureStrategy.TheVariants as strategy
use Rattle.iox_domain_values.specs.declared.backpressure.BackpressureAction.{BackpressureAction}
use Rattle.iox_domain_values.specs.declared.backpressure.BackpressureAction.TheVariants as action
use Rattle.iox_domain_values.specs.declared.backpressure.BackpressureToReceiverAction.{BackpressureToReceiverAction}
use Rattle.iox_domain_values.specs.declared.backpressure.BackpressureToReceiverAction.TheVariants as receiver
use Rattle.iox_domain_values.specs.declared.backpressure.BackpressureDecision.{BackpressureDecision}
use Rattle.iox_domain_values.specs.declared.backpressure.BackpressureDecision.TheVariants as decided

-- The same action in the words of a connection, which says "pointer offset" where a handler says "data".
abbrev pub receiver_action : BackpressureAction → BackpressureToReceiverAction
receiver_action action.FollowBackpressureyStrategy = receiver.FollowBackpressureyStrategy
receiver_action action.Retry = receiver.Retry
receiver_action action.DiscardData = receiver.DiscardPointerOffset
receiver_action action.DiscardDataAndFail = receiver.DiscardPointerOffsetAndFail

-- The decision that the strategy alone makes.
abbrev pub followed : BackpressureStrategy → BackpressureDecision
followed strategy.RetryUntilDelivered = decided.Retry
followed strategy.DiscardData = decided.DiscardData

-- The decision at a full mailbox: the strategy decides if there is no handler (`None`) or the handler follows the strategy;
-- otherwise the handler's action decides.
abbrev pub decision_of : BackpressureStrategy → Option BackpressureAction → BackpressureDecision
decision_of strategy None = followed strategy
decision_of strategy (Some action.FollowBackpressureyStrategy) = followed strategy
decision_of strategy (Some action.Retry) = decided.Retry
decision_of strategy (Some action.DiscardData) = decided.DiscardData
decision_of strategy (Some action.DiscardDataAndFail) = decided.DiscardDataAndFail
