use Rattle.iox_hub_base.proofs.builder.HubBuilder.open_in.Goals as goal

pub returns : goal.returns
returns g c = rw c.builder.ensures at c.open.ensures
