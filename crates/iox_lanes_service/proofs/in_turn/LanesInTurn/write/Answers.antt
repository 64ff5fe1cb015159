use Rattle.std.proofs.Common.{inl, inr, refl, sym, ◌∙◌, subst}
use Rattle.iox_lanes_service.proofs.Fitting.{write_fits}
use Rattle.iox_lanes_service.proofs.Tables.{not_both}
use Rattle.iox_lanes_machine.specs.LanesParties.declared.call.Answer.{Answer}
use Rattle.iox_lanes_machine.specs.LanesParties.declared.call.Call.TheVariants as call
use Rattle.iox_lanes_machine.specs.LanesParties.declared.call.Party.TheVariants.{Publisher}
use Rattle.iox_lanes_service.specs.Turning.{TurnEnds, loan_written}
use Rattle.iox_lanes_service.proofs.AnswerKinds.{answers_write}
use Rattle.iox_lanes_service.proofs.Moving.{stuck_so}
use Rattle.iox_lanes_service.proofs.Turns.{kept_going, none_out, write_recorded, stuck_since}
use Rattle.iox_lanes_service.proofs.in_turn.LanesInTurn.write.Goals as goal

pub invariant_of-self-in-Ended : goal.invariant_of-self-in-Ended
invariant_of-self-in-Ended c = rw c.told-history.ensures
    (kept_going c.self.inside.ran_out c.self.inside.history.turns
    (loan_written c.args.loan.now.number.value c.args.payload.items c.self.inside.history.turns) c.self.inside.lanes c.take_turn.new.lanes
    (none_out c.self.inside.ran_out (sym c.is_some.ensures ∙ c.if-is_some.false))
    (λ a. write_recorded c.self.inside.history.turns c.self.inside.lanes c.take_turn.new.lanes c.args.loan.now.number.value
    c.args.loan.now.publisher c.args.loan.now.slot a (rw c.self.view_is c.requires)
    c.args.payload c.args.user_header
    (subst (λ (it : Answer). TurnEnds c.self.inside.lanes (Publisher c.args.loan.now.publisher)
    (call.Write c.args.loan.now.slot c.args.payload c.args.user_header) it
    c.take_turn.new.lanes) c.in-Written.is c.in-Ended.ensures)) c.self.invariant)

pub invariant_of-self-in-Stuck : goal.invariant_of-self-in-Stuck
invariant_of-self-in-Stuck c =
    rw c.stopped-self-inside.ensures
    (stuck_since c.self.inside.ran_out c.self.inside.history.turns c.self.inside.lanes c.take_turn.new.lanes
    (Publisher c.args.loan.now.publisher) (call.Write c.args.loan.now.slot c.args.payload c.args.user_header)
    c.in-Stuck.why c.self.invariant c.in-Stuck.ensures)

pub returns-then-is_some-clause-written : goal.returns-then-is_some-clause-written
returns-then-is_some-clause-written c =
    inl (rw (← c.self.view_is) refl, λ words. rw (← c.self.view_is) (c.self.invariant.told ∙ sym c.is_some.ensures ∙ c.if-is_some.true))

pub returns-in-NotBegun-clause-written : goal.returns-in-NotBegun-clause-written
returns-in-NotBegun-clause-written c = inl (
  rw (← c.self.view_is) refl,
  λ words. not_both _
      (write_fits c.self.inside.ran_out c.self.inside.history.turns c.self.inside.lanes c.self.invariant
      (none_out c.self.inside.ran_out (sym c.is_some.ensures ∙ c.if-is_some.false))
      c.args.loan.now.number.value c.args.loan.now.publisher c.args.loan.now.slot (rw c.self.view_is c.requires)
      c.args.payload c.args.user_header (rw c.self.view_is words.0) (rw c.self.view_is words.1))
      c.in-NotBegun.ensures.0,
)

pub returns-in-Stuck-clause-written : goal.returns-in-Stuck-clause-written
returns-in-Stuck-clause-written c = inr (
  c.in-Stuck.why,
  rw (← c.self.view_is)
      (stuck_so c.self.inside.ran_out c.self.inside.history.turns c.self.inside.lanes c.take_turn.new.lanes
      (Publisher c.args.loan.now.publisher)
      (call.Write c.args.loan.now.slot c.args.payload c.args.user_header) c.in-Stuck.why c.self.invariant
      (none_out c.self.inside.ran_out (sym c.is_some.ensures ∙ c.if-is_some.false)) c.in-Stuck.ensures),
  rw (← c.self.view_is, c.stopped-self-inside.ensures) refl,
)

pub returns-in-Written-clause-stuck : goal.returns-in-Written-clause-stuck
returns-in-Written-clause-stuck c =
    λ is. not_both _ (rw c.self.view_is is) (c.self.invariant.told ∙ sym c.is_some.ensures ∙ c.if-is_some.false)

pub unreachable-requires : goal.unreachable-requires
unreachable-requires c =
    c.in_default.not-Written
    (sym (answers_write c.self.inside.lanes c.take_turn.new.lanes c.args.loan.now.publisher c.in-Ended.answer c.args.loan.now.slot
    c.args.payload
    c.args.user_header c.in-Ended.ensures))
