use Rattle.std.proofs.Common.{rules, ◌≡◌, Some}
use Rattle.iox_hub_base.specs.Open.{presence_of}
use Rattle.iox_hub_base.proofs.Own.{own_found, own_changed}
use Rattle.iox_hub_base.proofs.Takings.{takes_presence, own_left, own_given}
use Rattle.iox_hub_base.proofs.services.Services.take.Goals as goal

pub invariant_of-self-2 : goal.invariant_of-self-2
invariant_of-self-2 g c =
    rw c.take.ensures.new (own_changed c.self.inside.hub c.args.number c.self.inside.presences _ c.self.invariant
    (own_left c.self.inside.hub c.args.number c.in-Some.presence.now))

pub returns-clause-takes : goal.returns-clause-takes
returns-clause-takes g c =
    let there : presence_of c.args.number c.self.inside.presences ≡ Some c.in-Some.presence.now = search (rules, c.in-Some.ensures.value) in
    rw (← c.self.view_is) (rw c.ok_or.ensures.value
    (rw c.take.ensures.domain (rw c.take.ensures.new
    (takes_presence c.in-Some.presence.now c.args.number (record { hub = c.self.inside.hub; domains = c.self.inside.presences })
    there))))

pub returns-clause-own : goal.returns-clause-own
returns-clause-own g c =
    let there : presence_of c.args.number c.self.inside.presences ≡ Some c.in-Some.presence.now = search (rules, c.in-Some.ensures.value) in
    rw (← c.self.view_is) (rw c.ok_or.ensures.value
    (rw c.take.ensures.domain (own_given c.self.inside.hub c.args.number c.in-Some.presence.now
    (own_found c.self.inside.hub c.args.number c.self.inside.presences c.in-Some.presence.now c.self.invariant there))))
