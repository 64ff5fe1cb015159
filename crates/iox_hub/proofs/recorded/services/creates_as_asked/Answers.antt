use Rattle.iox_hub.proofs.recorded.services.creates_as_asked.Goals as goal

pub returns : goal.returns
returns g c = rw c.new.ensures.items at c.create_with_attributes_in.ensures
