use Rattle.std.proofs.Common.{◌≡◌, ◌+◌, ◌<◌, ◌∙◌, length, not, is_some, None, Some, sym, ap}
use Rattle.std.proofs.lemmas.List.Quantifiers.{position-Some}
use Rattle.iox_domain_ports.specs.Container.Container.{lowest_free}
use Rattle.iox_domain.proofs.Trimmed.{added_at, ends_filled}
use Rattle.iox_domain.proofs.ports.roll.Roll.enter.Goals as goal

pub invariant_of-self : goal.invariant_of-self
invariant_of-self g c =
    let before = c.self.inside.container in
    let free : lowest_free before ≡ Some c.in-Ok.handle.index
    = added_at before.id (before.changes + 1) before.locked (lowest_free before) c.in-Ok.handle (sym c.add.ensures.answer ∙ c.in-Ok.is) in
    let within : c.in-Ok.handle.index < length before.members
    = (position-Some (λ member. not (is_some member)) before.members c.in-Ok.handle.index None free).0 in (
      ap (λ container. container.locked) c.in-Ok.ensures.ok ∙ c.self.invariant.0,
      c.self.invariant.1,
      rw c.max-self-inside.ensures (rw c.index-place.ensures (rw (ap (λ container. container.members) c.in-Ok.ensures.ok)
          (ends_filled before.members c.self.inside.top c.in-Ok.handle.index _ within c.self.invariant.2))),
    )
