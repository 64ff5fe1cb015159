use Rattle.iox_hub_base.proofs.builder.HubBuilder.open_or_create_with_attributes_in.Goals as goal

pub returns : goal.returns
returns g c = rw c.builder.ensures at c.open_or_create.ensures
