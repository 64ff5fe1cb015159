use Rattle.std.proofs.Common.{◌∙◌, ◌≡◌, sym, ap, Some, None, get_or}
use Rattle.iox_container.specs.Container.{value_of}
use Rattle.iox_container.proofs.Told.{value_of-read}
use Rattle.iox_container.proofs.container.ContainerState.get.Goals as goal

pub returns : goal.returns
returns g c =
    let read : Some c.in_ok-member.member ≡ get_or c.self.inside.members c.args.index None = sym c.in_ok-member.was ∙ c.get.ensures in
    rw (← c.self.view_is) (ap (λ member. value_of (Some member)) read ∙ value_of-read c.self.inside.members c.args.index)
