use Rattle.std.proofs.Common.{sym, ap, arith, rules, ◌≡◌, ◌<◌, ◌++◌, ◌∷◌, [], length, Some}
use Rattle.iox_domain_slots.specs.Uses.{connected}
use Rattle.iox_domain_slots.specs.Links.{connection_of, all_of}
use Rattle.iox_domain_slots.proofs.AllSlots.{placed_within, placed_uses, appended_uses}
use Rattle.iox_domain_slots.proofs.links.Links.connect.Goals as goal

within : (c : goal.After-replace) → c.vacancy-index.result < length c.args.self.now.links
within c =
    let links : c.args.self.now.links ≡ c.self.inside.items.items = sym (ap (λ l. l.links) c.self.view_is) in
    rw links (grind (arith, c.if-index-len.true, c.len.ensures))

pub returns-then-index-len-clause-after : goal.returns-then-index-len-clause-after
returns-then-index-len-clause-after c = rw c.replace.ensures
    (placed_within c.args.self.now.links c.vacancy-index.result c.in_ok-link.link (connected c.args.limit) (within c)
    (ap connection_of c.in_ok-link.ensures))

pub returns-then-index-len-clause-uses : goal.returns-then-index-len-clause-uses
returns-then-index-len-clause-uses c = rw c.replace.ensures
    (placed_uses c.args.self.now.links c.vacancy-index.result c.in_ok-link.link (within c) c.vacancy-index.ensures.vacant
    (ap all_of c.in_ok-link.ensures))

pub returns-in_ok-append-clause-uses : goal.returns-in_ok-append-clause-uses
returns-in_ok-append-clause-uses c =
    let after : c.append.new.self ≡ record c.args.self.now { links = c.args.self.now.links ++ Some c.in_ok-link.link ∷ [] }
    = search (rules, c.append.ensures.after, c.in_ok-append.was) in
    rw after (appended_uses c.args.self.now.links c.in_ok-link.link (ap all_of c.in_ok-link.ensures))
