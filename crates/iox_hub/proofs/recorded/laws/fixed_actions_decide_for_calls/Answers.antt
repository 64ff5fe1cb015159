use Rattle.iox_hub.proofs.recorded.laws.fixed_actions_decide_for_calls.Goals as goal

pub returns : goal.returns
returns g c = λ calls so. let (own, few, fit) = so in (
  (λ number. c.fixed_actions_are_answered.ensures.publisher),
  (λ number. c.fixed_actions_are_answered.ensures.subscriber),
  own,
  few,
  fit,
)
