use Rattle.std.proofs.Common.{sym, ap, inl, inr, arith, ◌≡◌, ◌<◌, ◌≤◌, length, get_or, None, ℕ}
use Rattle.std.proofs.lemmas.Bool.{cases_lt}
use Rattle.iox_domain_slots.proofs.AllSlots.{none_left_of, none_back, taking_step}
use Rattle.iox_domain_slots.proofs.links.Links.take_back.Goals as goal

pub loop-index-preserved : goal.loop-index-preserved
loop-index-preserved c = taking_step c.args.self.now c.args.slots.now c.loop-index.self c.loop-index.slots c.loop-index.index
    c.take_back_one.new.self c.take_back_one.new.slots
    c.loop-index.invariant within c.take_back_one.ensures.after c.take_back_one.ensures.moved
  where
    within : c.loop-index.index < length c.args.self.now.links
    within =
        let links : c.args.self.now.links ≡ c.self.inside.items.items = sym (ap (λ l. l.links) c.self.view_is) in
        rw links (omega (arith, c.loop-index-test.true, c.self.invariant.4))

pub returns-clause-none_left : goal.returns-clause-none_left
returns-clause-none_left c = none_left_of c.loop-index.self.links (λ index below. elim (cases_lt index c.loop-index.index) [
  | inl met ↦ c.loop-index.invariant.done index met
  | inr past ↦
      let links : c.args.self.now.links ≡ c.self.inside.items.items = sym (ap (λ l. l.links) c.self.view_is) in
      let none : get_or c.args.self.now.links index None ≡ None
      = rw links (c.self.invariant.5 index (omega (arith, past, c.loop-index-test.false))) in
      none_back c.args.self.now.links c.loop-index.self.links index c.loop-index.invariant.looks none
])
