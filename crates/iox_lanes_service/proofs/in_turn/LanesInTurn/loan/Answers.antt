use Rattle.std.proofs.Common.{inl, inr, refl, sym, ◌∙◌, subst}
use Rattle.iox_lanes_service.proofs.Fitting.{loan_fits}
use Rattle.iox_lanes_service.proofs.Tables.{not_both}
use Rattle.iox_lanes_machine.specs.LanesParties.declared.call.Answer.{Answer}
use Rattle.iox_lanes_machine.specs.LanesParties.declared.call.Call.TheVariants as call
use Rattle.iox_lanes_machine.specs.LanesParties.declared.call.Party.TheVariants.{Publisher}
use Rattle.iox_lanes_service.specs.Turning.{TurnEnds, loaned}
use Rattle.iox_lanes_service.proofs.AnswerKinds.{answers_loan}
use Rattle.iox_lanes_service.proofs.Moving.{stuck_so}
use Rattle.iox_lanes_service.proofs.Turns.{kept_going, none_out, lent_numbered, lent_told, loan_recorded, stuck_since}
use Rattle.iox_lanes_service.proofs.in_turn.LanesInTurn.loan.Goals as goal

pub invariant_of-self-in-Ended : goal.invariant_of-self-in-Ended
invariant_of-self-in-Ended c = rw c.told-self-inside.ensures
    (kept_going c.self.inside.ran_out c.self.inside.history.turns
    (loaned c.args.publisher c.in-Lent.given c.self.inside.history.turns) c.self.inside.lanes c.take_turn.new.lanes
    (none_out c.self.inside.ran_out (sym c.is_some.ensures ∙ c.if-is_some.false))
    (λ a. loan_recorded c.self.inside.history.turns c.self.inside.lanes c.take_turn.new.lanes c.args.publisher c.in-Lent.given a
    (subst (λ (it : Answer). TurnEnds c.self.inside.lanes (Publisher c.args.publisher) call.LoanUninit it c.take_turn.new.lanes)
    c.in-Lent.is c.in-Ended.ensures)) c.self.invariant)

pub invariant_of-self-in-Stuck : goal.invariant_of-self-in-Stuck
invariant_of-self-in-Stuck c =
    rw c.stopped-self-inside.ensures
    (stuck_since c.self.inside.ran_out c.self.inside.history.turns c.self.inside.lanes c.take_turn.new.lanes
    (Publisher c.args.publisher) call.LoanUninit
    c.in-Stuck.why c.self.invariant c.in-Stuck.ensures)

pub returns-in-Lent-clause-lent : goal.returns-in-Lent-clause-lent
returns-in-Lent-clause-lent c = rw (c.lent_as.ensures, ← c.self.view_is, c.told-self-inside.ensures)
    (lent_told c.args.publisher c.in-Lent.given c.given-number.result c.self.inside.history.turns)

pub returns-in-Lent-clause-number : goal.returns-in-Lent-clause-number
returns-in-Lent-clause-number c = rw (c.lent_as.ensures, ← c.self.view_is, c.told-self-inside.ensures)
    (lent_numbered c.args.publisher c.in-Lent.given c.given-number.result c.self.inside.history.turns c.self.invariant.low
    c.given-number.ensures)

pub returns-then-is_some-clause-lent : goal.returns-then-is_some-clause-lent
returns-then-is_some-clause-lent c =
    inl (rw (← c.self.view_is) refl, λ low. rw (← c.self.view_is) (c.self.invariant.told ∙ sym c.is_some.ensures ∙ c.if-is_some.true))

pub returns-in-NotBegun-clause-lent : goal.returns-in-NotBegun-clause-lent
returns-in-NotBegun-clause-lent c =
    inl (
      rw (← c.self.view_is) refl,
      λ low. not_both _
          (loan_fits c.self.inside.history.turns.sizes c.self.inside.lanes c.args.publisher
          (c.self.invariant.goes (none_out c.self.inside.ran_out (sym c.is_some.ensures ∙ c.if-is_some.false)))
          (rw c.self.view_is low)) c.in-NotBegun.ensures.0,
    )

pub returns-in-Stuck-clause-lent : goal.returns-in-Stuck-clause-lent
returns-in-Stuck-clause-lent c =
    inr (
      c.in-Stuck.why,
      rw (← c.self.view_is)
          (stuck_so c.self.inside.ran_out c.self.inside.history.turns c.self.inside.lanes c.take_turn.new.lanes (Publisher c.args.publisher)
          call.LoanUninit c.in-Stuck.why c.self.invariant
          (none_out c.self.inside.ran_out (sym c.is_some.ensures ∙ c.if-is_some.false)) c.in-Stuck.ensures),
      rw (← c.self.view_is, c.stopped-self-inside.ensures) refl,
    )

pub returns-in-Lent-clause-stuck : goal.returns-in-Lent-clause-stuck
returns-in-Lent-clause-stuck c =
    λ is. not_both _ (rw c.self.view_is is) (c.self.invariant.told ∙ sym c.is_some.ensures ∙ c.if-is_some.false)

pub unreachable-requires : goal.unreachable-requires
unreachable-requires c =
    let given = answers_loan c.self.inside.lanes c.take_turn.new.lanes c.args.publisher c.in-Ended.answer
    (c.self.invariant.goes (none_out c.self.inside.ran_out (sym c.is_some.ensures ∙ c.if-is_some.false))).small c.in-Ended.ensures in
    c.in_default.not-Lent given.0 (sym given.1)
