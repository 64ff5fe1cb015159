use Rattle.iox_hub_commands.proofs.services.opening_call.OpeningCall.refusal_at_first_look.Goals as goal

pub returns : goal.returns
returns g c = rw c.first_look-found.ensures at c.told.ensures
