use Rattle.std.proofs.Common.{rules, arith, ◌≡◌, length, get_or, set, None, sym, ap, ◌∙◌}
use Rattle.std.proofs.lemmas.Grind.{common_steps}
use Rattle.iox_domain_ports.specs.Container.declared.release.ReleaseMode.TheVariants as mode
use Rattle.iox_domain.specs.Rolls.{RollState}
use Rattle.iox_domain.proofs.Trimmed.{ends_listed, listed_there, none_emptied}
use Rattle.iox_domain.proofs.Rolling.{left-none, left-some, removed-left}
use Rattle.iox_domain.proofs.ports.roll.Roll.leave.Goals as goal

pub returns-in_default : goal.returns-in_default
returns-in_default g c =
    rw (← c.self.view_is)
    (sym (left-none c.self.inside.container.id c.args.place
    (record { places = c.self.inside.container.members; changes = c.self.inside.container.changes })
    (sym c.handle.ensures ∙ c.in_default.is)))

pub returns : goal.returns
returns g c =
    let told = sym c.handle.ensures ∙ c.in-Some.is in
    rw (← c.self.view_is)
    (removed-left mode.Default c.args.place c.in-Some.handle c.self.inside.container c.remove.new.self c.remove.result told
    c.remove.ensures.answer c.remove.ensures.ok
    ∙ sym (left-some c.self.inside.container.id c.args.place
    (record { places = c.self.inside.container.members; changes = c.self.inside.container.changes }) c.in-Some.handle
    (c.has_room.ensures.0 c.if-not-has_room.false) told))

pub lowered-self-inside-requires : goal.lowered-self-inside-requires
lowered-self-inside-requires g c = λ place past.
    let told = sym c.handle.ensures ∙ c.in-Some.is in
    let gone : c.remove.new.self.members ≡ set c.self.inside.container.members c.args.place None
    = ap (λ (roll : RollState _). roll.places) (removed-left mode.Default c.args.place c.in-Some.handle c.self.inside.container
    c.remove.new.self c.remove.result told c.remove.ensures.answer c.remove.ensures.ok) in
    listed_there (length c.remove.new.self.members) place c.places.result.now c.remove.new.self.members c.places.ensures.whole
    ∙ ap (λ members. get_or members place None) gone
    ∙ none_emptied c.self.inside.container.members c.self.inside.top c.args.place c.self.invariant.2 place past

pub invariant_of-self : goal.invariant_of-self
invariant_of-self g c = (
  first_of (search rules, grind (arith, common_steps)),
  c.self.invariant.1,
  ends_listed (length c.remove.new.self.members) c.lowered-self-inside.result c.places.result.now c.remove.new.self.members
      c.places.ensures.whole c.lowered-self-inside.ensures,
)
