use Rattle.std.proofs.Common.{sym, ◌∙◌}
use Rattle.iox_container.proofs.Halves.{lookup-aged, lookup-ring}
use Rattle.iox_container.proofs.by_number.numbered.Numbered.get.Goals as goal

pub returns-then-number-self : goal.returns-then-number-self
returns-then-number-self g c =
    let t = c.self.inside in
    rw (← c.self.view_is) (c.value_of.ensures ∙ sym
    (lookup-aged t.first c.args.number t.aged.items t.places.items c.self.invariant.0 c.if-number-self.true))

pub returns-else-number-self : goal.returns-else-number-self
returns-else-number-self g c =
    let t = c.self.inside in
    rw (← c.self.view_is) (c.value_in.ensures ∙ sym
    (lookup-ring t.first c.args.number t.aged.items t.places.items c.self.invariant.0 c.if-number-self.false))
