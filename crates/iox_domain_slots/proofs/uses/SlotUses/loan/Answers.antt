use Rattle.std.proofs.Common.{sym, subst, ◌<◌, length}
use Rattle.iox_domain_slots.specs.Counting.{LoanUse}
use Rattle.iox_domain_slots.specs.Links.{seen_uses, IsTally, IsSmall}
use Rattle.iox_domain_slots.proofs.Publishing.{tally_moved, tally_loaned, small_loaned, loan_use}
use Rattle.iox_domain_slots.proofs.Enough.{never_none}
use Rattle.iox_domain_slots.proofs.uses.SlotUses.loan.Goals as goal

-- all uses are counted once what came back is taken back
after : (c : goal.After-loan) → IsTally c.take_back.new.slots c.self.inside.sending c.take_back.new.self
after c = tally_moved c.self.inside.slots c.take_back.new.slots c.self.inside.sending c.self.inside.links c.take_back.new.self
    c.self.invariant.0 c.take_back.ensures.moved

pub invariant_of-self : goal.invariant_of-self
invariant_of-self c =
    let small : IsSmall c.take_back.new.slots = subst IsSmall (sym c.take_back.ensures.moved.same) c.self.invariant.1 in
    let room : length c.take_back.new.slots.loans < c.take_back.new.slots.most_loans
    = rw c.take_back.ensures.moved.same (rw (← c.self.view_is) at c.requires) in (
      tally_loaned c.take_back.new.slots c.loan.new.self c.self.inside.sending c.take_back.new.self c.loan.result (after c) c.loan.ensures,
      small_loaned c.take_back.new.slots c.loan.new.self c.loan.result small room c.loan.ensures,
    )

-- the loan, as it is seen
lent : (c : goal.After-loan) → LoanUse (seen_uses c.self.inside.slots c.self.inside.sending c.self.inside.links) c.loan.result
    (seen_uses c.loan.new.self c.self.inside.sending c.take_back.new.self)
lent c = loan_use c.self.inside.slots c.take_back.new.slots c.loan.new.self c.self.inside.sending c.self.inside.links
    c.take_back.new.self c.loan.result
    c.take_back.ensures.moved.same c.take_back.ensures.same c.take_back.ensures.seen (after c) c.take_back.ensures.none_left c.loan.ensures

pub returns-clause-step : goal.returns-clause-step
returns-clause-step c = rw (← c.self.view_is) (lent c)

pub returns-clause-enough : goal.returns-clause-enough
returns-clause-enough c =
    let room : length c.self.inside.slots.loans < c.self.inside.slots.most_loans = rw (← c.self.view_is) at c.requires in
    rw (← c.self.view_is) (λ idle suffices. never_none (seen_uses c.self.inside.slots c.self.inside.sending c.self.inside.links)
    (seen_uses c.loan.new.self c.self.inside.sending c.take_back.new.self) c.loan.result (lent c) idle room c.self.invariant.1.2
    c.len-indices.ensures.few suffices)
