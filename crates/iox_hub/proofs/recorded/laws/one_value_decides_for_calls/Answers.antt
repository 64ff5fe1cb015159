use Rattle.iox_hub.proofs.recorded.laws.one_value_decides_for_calls.Goals as goal

pub returns : goal.returns
returns g c = λ who reader calls same also so. let (own, few, fit) = so in ((λ number. same), (λ number. also), own, few, fit)
