use Rattle.std.proofs.Common.{inl, inr, refl, sym, ◌∙◌, subst}
use Rattle.iox_lanes_service.proofs.Fitting.{send_fits}
use Rattle.iox_lanes_service.proofs.Tables.{not_both}
use Rattle.iox_command.specs.declared.command.Command.TheVariants as command
use Rattle.iox_lanes_machine.specs.LanesParties.declared.call.Answer.{Answer}
use Rattle.iox_lanes_machine.specs.LanesParties.declared.call.Call.TheVariants as call
use Rattle.iox_lanes_machine.specs.LanesParties.declared.call.Party.TheVariants.{Publisher}
use Rattle.iox_lanes_service.specs.Laws.{send_replied}
use Rattle.iox_lanes_service.specs.Turning.{TurnEnds, loan_spent}
use Rattle.iox_lanes_service.proofs.AnswerKinds.{answers_send}
use Rattle.iox_lanes_service.proofs.Moving.{stuck_so}
use Rattle.iox_lanes_service.proofs.Turns.{kept_going, none_out, send_recorded, sent_told, stuck_since}
use Rattle.iox_lanes_service.proofs.in_turn.LanesInTurn.send.Goals as goal

pub invariant_of-self-in-Ended : goal.invariant_of-self-in-Ended
invariant_of-self-in-Ended c = rw c.told-self-inside.ensures
    (kept_going c.self.inside.ran_out c.self.inside.history.turns
    (loan_spent c.args.loan.now.number.value (command.Send c.args.loan.now.number.value)
    (send_replied c.in-Sent.given)
    c.self.inside.history.turns)
    c.self.inside.lanes c.take_turn.new.lanes (none_out c.self.inside.ran_out (sym c.is_some.ensures ∙ c.if-is_some.false))
    (λ a. send_recorded c.self.inside.history.turns c.self.inside.lanes c.take_turn.new.lanes c.args.loan.now.number.value
    c.args.loan.now.publisher c.args.loan.now.slot a (rw c.self.view_is c.requires)
    c.in-Sent.given
    (subst (λ (it : Answer). TurnEnds c.self.inside.lanes (Publisher c.args.loan.now.publisher) (call.Send c.args.loan.now.slot) it
    c.take_turn.new.lanes) c.in-Sent.is c.in-Ended.ensures)) c.self.invariant)

pub invariant_of-self-in-Stuck : goal.invariant_of-self-in-Stuck
invariant_of-self-in-Stuck c =
    rw c.stopped-self-inside.ensures
    (stuck_since c.self.inside.ran_out c.self.inside.history.turns c.self.inside.lanes c.take_turn.new.lanes
    (Publisher c.args.loan.now.publisher) (call.Send c.args.loan.now.slot)
    c.in-Stuck.why c.self.invariant c.in-Stuck.ensures)

pub returns-in-Sent-clause-sent : goal.returns-in-Sent-clause-sent
returns-in-Sent-clause-sent c = rw (c.sent_as.ensures, ← c.self.view_is, c.told-self-inside.ensures)
    (sent_told c.args.loan.now.number.value c.in-Sent.given c.self.inside.history.turns)

pub returns-then-is_some-clause-sent : goal.returns-then-is_some-clause-sent
returns-then-is_some-clause-sent c =
    inl (rw (← c.self.view_is) refl, λ written. rw (← c.self.view_is) (c.self.invariant.told ∙ sym c.is_some.ensures ∙ c.if-is_some.true))

pub returns-in-NotBegun-clause-sent : goal.returns-in-NotBegun-clause-sent
returns-in-NotBegun-clause-sent c = inl (
  rw (← c.self.view_is) refl,
  λ written. not_both _
      (send_fits c.self.inside.ran_out c.self.inside.history.turns c.self.inside.lanes c.self.invariant
      (none_out c.self.inside.ran_out (sym c.is_some.ensures ∙ c.if-is_some.false))
      c.args.loan.now.number.value c.args.loan.now.publisher c.args.loan.now.slot (rw c.self.view_is c.requires)
      (rw c.self.view_is written))
      c.in-NotBegun.ensures.0,
)

pub returns-in-Stuck-clause-sent : goal.returns-in-Stuck-clause-sent
returns-in-Stuck-clause-sent c = inr (
  c.in-Stuck.why,
  rw (← c.self.view_is)
      (stuck_so c.self.inside.ran_out c.self.inside.history.turns c.self.inside.lanes c.take_turn.new.lanes
      (Publisher c.args.loan.now.publisher)
      (call.Send c.args.loan.now.slot) c.in-Stuck.why c.self.invariant
      (none_out c.self.inside.ran_out (sym c.is_some.ensures ∙ c.if-is_some.false)) c.in-Stuck.ensures),
  rw (← c.self.view_is, c.stopped-self-inside.ensures) refl,
)

pub returns-in-Sent-clause-stuck : goal.returns-in-Sent-clause-stuck
returns-in-Sent-clause-stuck c =
    λ is. not_both _ (rw c.self.view_is is) (c.self.invariant.told ∙ sym c.is_some.ensures ∙ c.if-is_some.false)

pub unreachable-requires : goal.unreachable-requires
unreachable-requires c =
    let given = answers_send c.self.inside.lanes c.take_turn.new.lanes c.args.loan.now.publisher c.in-Ended.answer c.args.loan.now.slot
    c.in-Ended.ensures in
    c.in_default.not-Sent given.0 (sym given.1)
