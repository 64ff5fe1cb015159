use Rattle.std.proofs.Common.{◌≡◌, ◌+◌, ◌-◌, length, take, arith}
use Rattle.std.proofs.lemmas.List.{length-take}
use Rattle.iox_conversation.proofs.LineLemmas.{unbroken-append, unbroken-take, take-onto}
use Rattle.iox_conversation.proofs.session.Session.hear.Goals as goal

pub returns-clause-line : goal.returns-clause-line
returns-clause-line g c =
    let full : length c.self.inside.line.items + (1025 - c.len.result) ≡ 1025
    = omega (arith, c.self.inside.line.ok.0, c.self.invariant.1) in
    rw (← c.self.view_is, c.in-Ok.ensures.items, c.min.ensures)
    (take-onto c.self.inside.line.items c.args.part.now (1025 - c.len.result) full)

pub returns-clause-whole : goal.returns-clause-whole
returns-clause-whole g c =
    rw c.in-Ok.ensures.items (unbroken-append c.self.inside.line.items (take c.min.result c.args.part.now) c.self.invariant.0
    (unbroken-take c.min.result c.args.part.now c.requires))

pub invariant_of-self : goal.invariant_of-self
invariant_of-self g c = (
  returns-clause-whole g c,
  omega (
    arith,
    c.in-Ok.ensures.len,
    c.min.ensures,
    c.self.invariant.1,
    c.self.inside.line.ok.0,
    c.len.ensures,
    length-take c.min.result
        c.args.part.now,
  ),
  omega (arith, c.in-Ok.ensures.capacity, c.self.invariant.2),
)
