use Rattle.iox_hub_machine.proofs.TypedHandlers.{publisher_handlers_are_chosen, subscriber_handler_is_chosen}
use Rattle.iox_hub_machine.proofs.typed.handed_handlers_are_chosen.Goals as goal

pub returns-clause-publisher : goal.returns-clause-publisher
returns-clause-publisher g c =
    publisher_handlers_are_chosen (λ value. g.T.Default.is_default value) (λ who. g.B.Decides.decides who)
    (λ who. g.B.Degrades.degrades who) (λ who. g.D.Degrades.degrades who)

pub returns-clause-subscriber : goal.returns-clause-subscriber
returns-clause-subscriber g c =
    subscriber_handler_is_chosen (λ value. g.T.Default.is_default value) (λ who. g.B.Decides.decides who)
    (λ who. g.B.Degrades.degrades who) (λ who. g.D.Degrades.degrades who)
