use Rattle.std.proofs.Common.{inl, inr, refl, sym, ◌∙◌, subst}
use Rattle.iox_lanes_service.proofs.Fitting.{drop_fits}
use Rattle.iox_lanes_service.proofs.Tables.{not_both}
use Rattle.iox_command.specs.declared.command.Command.TheVariants as command
use Rattle.iox_lanes_machine.specs.LanesParties.declared.call.Answer.{Answer}
use Rattle.iox_lanes_machine.specs.LanesParties.declared.call.Call.TheVariants as call
use Rattle.iox_lanes_machine.specs.LanesParties.declared.call.Party.TheVariants.{Publisher}
use Rattle.iox_command.specs.declared.reply.Reply.TheVariants as reply
use Rattle.iox_lanes_service.specs.Turning.{TurnEnds, loan_spent}
use Rattle.iox_lanes_service.proofs.AnswerKinds.{answers_drop}
use Rattle.iox_lanes_service.proofs.Moving.{stuck_so}
use Rattle.iox_lanes_service.proofs.Turns.{kept_going, none_out, drop_recorded, stuck_since}
use Rattle.iox_lanes_service.proofs.in_turn.LanesInTurn.drop_loan.Goals as goal

pub invariant_of-self-in-Ended : goal.invariant_of-self-in-Ended
invariant_of-self-in-Ended c = rw c.told-self-inside.ensures
    (kept_going c.self.inside.ran_out c.self.inside.history.turns
    (loan_spent c.args.loan.now.number.value (command.Drop c.args.loan.now.number.value)
    reply.Done
    c.self.inside.history.turns)
    c.self.inside.lanes c.take_turn.new.lanes (none_out c.self.inside.ran_out (sym c.is_some.ensures ∙ c.if-is_some.false))
    (λ a. drop_recorded c.self.inside.history.turns c.self.inside.lanes c.take_turn.new.lanes c.args.loan.now.number.value
    c.args.loan.now.publisher c.args.loan.now.slot a (rw c.self.view_is c.requires)
    (subst (λ (it : Answer). TurnEnds c.self.inside.lanes (Publisher c.args.loan.now.publisher) (call.DropLoan c.args.loan.now.slot) it
    c.take_turn.new.lanes) c.in-Dropped.is c.in-Ended.ensures)) c.self.invariant)

pub invariant_of-self-in-Stuck : goal.invariant_of-self-in-Stuck
invariant_of-self-in-Stuck c =
    rw c.stopped-self-inside.ensures
    (stuck_since c.self.inside.ran_out c.self.inside.history.turns c.self.inside.lanes c.take_turn.new.lanes
    (Publisher c.args.loan.now.publisher) (call.DropLoan c.args.loan.now.slot)
    c.in-Stuck.why c.self.invariant c.in-Stuck.ensures)

pub returns-then-is_some-clause-dropped : goal.returns-then-is_some-clause-dropped
returns-then-is_some-clause-dropped c =
    inl (rw (← c.self.view_is) refl, λ always. rw (← c.self.view_is) (c.self.invariant.told ∙ sym c.is_some.ensures ∙ c.if-is_some.true))

pub returns-in-NotBegun-clause-dropped : goal.returns-in-NotBegun-clause-dropped
returns-in-NotBegun-clause-dropped c = inl (
  rw (← c.self.view_is) refl,
  λ always. not_both _
      (drop_fits c.self.inside.ran_out c.self.inside.history.turns c.self.inside.lanes c.self.invariant
      (none_out c.self.inside.ran_out (sym c.is_some.ensures ∙ c.if-is_some.false))
      c.args.loan.now.number.value c.args.loan.now.publisher c.args.loan.now.slot (rw c.self.view_is c.requires))
      c.in-NotBegun.ensures.0,
)

pub returns-in-Stuck-clause-dropped : goal.returns-in-Stuck-clause-dropped
returns-in-Stuck-clause-dropped c = inr (
  c.in-Stuck.why,
  rw (← c.self.view_is)
      (stuck_so c.self.inside.ran_out c.self.inside.history.turns c.self.inside.lanes c.take_turn.new.lanes
      (Publisher c.args.loan.now.publisher)
      (call.DropLoan c.args.loan.now.slot) c.in-Stuck.why c.self.invariant
      (none_out c.self.inside.ran_out (sym c.is_some.ensures ∙ c.if-is_some.false)) c.in-Stuck.ensures),
  rw (← c.self.view_is, c.stopped-self-inside.ensures) refl,
)

pub returns-in-Dropped-clause-stuck : goal.returns-in-Dropped-clause-stuck
returns-in-Dropped-clause-stuck c =
    λ is. not_both _ (rw c.self.view_is is) (c.self.invariant.told ∙ sym c.is_some.ensures ∙ c.if-is_some.false)

pub unreachable-requires : goal.unreachable-requires
unreachable-requires c =
    c.in_default.not-Dropped
    (sym (answers_drop c.self.inside.lanes c.take_turn.new.lanes c.args.loan.now.publisher c.in-Ended.answer c.args.loan.now.slot
    c.in-Ended.ensures))
