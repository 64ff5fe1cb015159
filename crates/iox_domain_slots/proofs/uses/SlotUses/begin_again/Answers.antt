use Rattle.std.proofs.Common.{subst, sym, ◌≡◌, None}
use Rattle.iox_domain_slots.specs.Links.{IsSmall}
use Rattle.iox_domain_slots.proofs.Publishing.{countable, tally_claimed}
use Rattle.iox_domain_slots.proofs.uses.SlotUses.begin_again.Goals as goal

pub claim-requires-clause-room : goal.claim-requires-clause-room
claim-requires-clause-room c = countable c.self.inside.slots c.self.inside.sending c.self.inside.links c.self.invariant.0
    c.self.invariant.1 c.len-indices.ensures.countable c.args.slot

pub invariant_of-self : goal.invariant_of-self
invariant_of-self c =
    let alone : c.self.inside.sending ≡ None = rw (← c.self.view_is) at c.requires.alone in (
      tally_claimed c.self.inside.slots c.claim.new.self c.self.inside.sending c.self.inside.links c.args.slot alone
          c.claim.ensures.there c.claim.ensures.after c.self.invariant.0,
      subst IsSmall (sym c.claim.ensures.after) c.self.invariant.1,
    )
