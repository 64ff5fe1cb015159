use Rattle.iox_hub_base.proofs.Negotiated.{if-of-the-table}
use Rattle.iox_hub_base.proofs.opening.opened_or_created.Goals as goal

pub returns-in-Some : goal.returns-in-Some
returns-in-Some g c = record {
  of_table = if-of-the-table _ _ _ _ _ c.open_or_create_with_attributes.result _ c.open_or_create_with_attributes.ensures.negotiated;
  either = rw c.in-Some.is c.open_or_create_with_attributes.ensures;
}

pub returns-in-None : goal.returns-in-None
returns-in-None g c = record {
  of_table = if-of-the-table _ _ _ _ _ c.open_or_create.result _ c.open_or_create.ensures.negotiated;
  either = rw c.in-None.is c.open_or_create.ensures;
}
