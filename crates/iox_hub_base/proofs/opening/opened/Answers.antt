use Rattle.iox_hub_base.proofs.Negotiated.{if-of-the-table}
use Rattle.iox_hub_base.proofs.opening.opened.Goals as goal

pub returns-in-Some : goal.returns-in-Some
returns-in-Some g c = record {
  of_table = if-of-the-table _ _ _ _ _ c.open_with_attributes.result _ c.open_with_attributes.ensures;
  opens = rw c.in-Some.is c.open_with_attributes.ensures;
}

pub returns-in-None : goal.returns-in-None
returns-in-None g c = record {
  of_table = if-of-the-table _ _ _ _ _ c.open.result _ c.open.ensures;
  opens = rw c.in-None.is c.open.ensures;
}
