use Rattle.iox_hub_base.proofs.Negotiated.{if-of-the-table}
use Rattle.iox_hub_base.proofs.opening.created.Goals as goal

pub returns-in-Some-clause-of_table : goal.returns-in-Some-clause-of_table
returns-in-Some-clause-of_table g c =
    if-of-the-table _ _ _ _ _ c.create_with_attributes.result _ c.create_with_attributes.ensures.negotiated

pub returns-in-None-clause-of_table : goal.returns-in-None-clause-of_table
returns-in-None-clause-of_table g c = if-of-the-table _ _ _ _ _ c.create.result _ c.create.ensures.negotiated
