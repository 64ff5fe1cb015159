use Rattle.std.proofs.Common.{◌∙◌}
use Rattle.iox_container.proofs.Told.{member_of-read}
use Rattle.iox_container.proofs.container.Container.get.Goals as goal

pub returns : goal.returns
returns g c = rw (← c.self.view_is) (c.get.ensures ∙ member_of-read c.self.inside.members c.args.index)
