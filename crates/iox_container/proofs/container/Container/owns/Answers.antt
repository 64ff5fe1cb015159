use Rattle.std.proofs.Common.{◌∙◌, ◌≡◌, sym, ap, Some, None, get_or, nat_eq, true}
use Rattle.std.proofs.lemmas.Bool.{eq-eqb}
use Rattle.iox_container.specs.Container.{is_numbered}
use Rattle.iox_container.proofs.Told.{is_numbered-read}
use Rattle.iox_container.proofs.container.Container.owns.Goals as goal

pub returns-in-Some : goal.returns-in-Some
returns-in-Some g c =
    let read : Some c.in-Some.member ≡ get_or c.self.inside.members c.args.handle.index None = sym c.in-Some.is ∙ c.get.ensures in
    let same : nat_eq c.args.handle.container c.self.inside.id ≡ true = eq-eqb _ _ c.if-handle-self.false in
    rw (← c.self.view_is, same)
    (ap (λ member. is_numbered c.args.handle.number (Some member)) read ∙ is_numbered-read c.args.handle.number c.self.inside.members
    c.args.handle.index)
