use Rattle.std.proofs.Common.{rules, ◌≡◌, false, inr, sym, ap, subst, ◌∙◌}
use Rattle.iox_hub_base.specs.Open.{AreOwn, opened}
use Rattle.iox_hub_base.specs.declared.presence.Presence.TheVariants.{Here}
use Rattle.iox_hub_base.proofs.Own.{own_opened}
use Rattle.iox_hub_base.proofs.service_room.RoomyServices.open.Goals as goal

pub invariant_of-result : goal.invariant_of-result
invariant_of-result g c =
    let (domain, is_new, is) = c.in-Ok.ensures in
    let came : c.insert.result ≡ opened c.args.number (Here domain) c.self.inside.presences
    = c.insert.ensures ∙ ap (λ presence. opened c.args.number presence c.self.inside.presences) is in
    subst (λ domains. AreOwn c.self.inside.hub domains) (sym came)
    (own_opened c.self.inside.hub c.args.number c.self.inside.presences (Here domain) c.self.invariant is_new.id)

pub returns-in-Ok : goal.returns-in-Ok
returns-in-Ok g c =
    let (domain, is_new, is) = c.in-Ok.ensures in
    let came : c.insert.result ≡ opened c.args.number (Here domain) c.self.inside.presences
    = c.insert.ensures ∙ ap (λ presence. opened c.args.number presence c.self.inside.presences) is in
    let none : c.is_open.result ≡ false = search (rules, c.if-is_open.false) in
    let fit = c.fits.ensures.0 (search (rules, c.if-not-fits.false)) in
    let closed = sym (rw (← c.self.view_is) at c.is_open.ensures) ∙ none in
    rw (← c.self.view_is)
    (inr (closed, fit, (domain, is_new, ap (λ domains. record { hub = c.self.inside.hub; domains = domains }) came)))
