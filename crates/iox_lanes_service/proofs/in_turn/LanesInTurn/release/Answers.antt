use Rattle.std.proofs.Common.{inl, inr, refl, sym, ◌∙◌, subst, true}
use Rattle.iox_lanes_service.proofs.Fitting.{release_fits}
use Rattle.iox_lanes_service.proofs.Tables.{not_both}
use Rattle.iox_lanes_machine.specs.LanesParties.declared.call.Answer.{Answer}
use Rattle.iox_lanes_machine.specs.LanesParties.declared.call.Call.TheVariants as call
use Rattle.iox_lanes_machine.specs.LanesParties.declared.call.Party.TheVariants.{Subscriber}
use Rattle.iox_lanes_service.specs.Turning.{TurnEnds}
use Rattle.iox_lanes_service.proofs.SampleTurns.{release_recorded, without_sample}
use Rattle.iox_lanes_service.proofs.AnswerKinds.{answers_release}
use Rattle.iox_lanes_service.proofs.Moving.{stuck_so}
use Rattle.iox_lanes_service.proofs.Turns.{kept_going, none_out, stuck_since}
use Rattle.iox_lanes_service.proofs.in_turn.LanesInTurn.release.Goals as goal

pub invariant_of-self-in-Ended : goal.invariant_of-self-in-Ended
invariant_of-self-in-Ended c = rw c.told-self-inside.ensures
    (kept_going c.self.inside.ran_out c.self.inside.history.turns
    (without_sample c.args.sample.now.number.value c.self.inside.history.turns) c.self.inside.lanes c.take_turn.new.lanes
    (none_out c.self.inside.ran_out (sym c.is_some.ensures ∙ c.if-is_some.false))
    (λ a. release_recorded c.self.inside.history.turns c.self.inside.lanes c.take_turn.new.lanes c.args.sample.now.number.value
    c.requires.0 c.args.sample.now.subscriber c.args.sample.now.slot a (rw c.self.view_is c.requires.1)
    (subst (λ (it : Answer). TurnEnds c.self.inside.lanes (Subscriber c.args.sample.now.subscriber)
    (call.Release c.args.sample.now.slot) it c.take_turn.new.lanes)
    (sym (answers_release c.self.inside.lanes c.take_turn.new.lanes c.args.sample.now.subscriber c.in-Ended.answer c.args.sample.now.slot
    c.in-Ended.ensures))
    c.in-Ended.ensures)) c.self.invariant)

pub invariant_of-self-in-Stuck : goal.invariant_of-self-in-Stuck
invariant_of-self-in-Stuck c =
    rw c.stopped-self-inside.ensures
    (stuck_since c.self.inside.ran_out c.self.inside.history.turns c.self.inside.lanes c.take_turn.new.lanes
    (Subscriber c.args.sample.now.subscriber) (call.Release c.args.sample.now.slot)
    c.in-Stuck.why c.self.invariant c.in-Stuck.ensures)

pub returns-then-is_some-clause-released : goal.returns-then-is_some-clause-released
returns-then-is_some-clause-released c =
    inl (rw (← c.self.view_is) refl, λ always. rw (← c.self.view_is) (c.self.invariant.told ∙ sym c.is_some.ensures ∙ c.if-is_some.true))

pub returns-in-NotBegun-clause-released : goal.returns-in-NotBegun-clause-released
returns-in-NotBegun-clause-released c = inl (
  rw (← c.self.view_is) refl,
  λ always. not_both _
      (release_fits c.self.inside.ran_out c.self.inside.history.turns c.self.inside.lanes c.self.invariant
      (none_out c.self.inside.ran_out (sym c.is_some.ensures ∙ c.if-is_some.false))
      c.args.sample.now.number.value c.requires.0 c.args.sample.now.subscriber c.args.sample.now.slot
      (rw c.self.view_is c.requires.1))
      c.in-NotBegun.ensures.0,
)

pub returns-in-Stuck-clause-released : goal.returns-in-Stuck-clause-released
returns-in-Stuck-clause-released c = inr (
  c.in-Stuck.why,
  rw (← c.self.view_is)
      (stuck_so c.self.inside.ran_out c.self.inside.history.turns c.self.inside.lanes c.take_turn.new.lanes
      (Subscriber c.args.sample.now.subscriber)
      (call.Release c.args.sample.now.slot) c.in-Stuck.why c.self.invariant
      (none_out c.self.inside.ran_out (sym c.is_some.ensures ∙ c.if-is_some.false)) c.in-Stuck.ensures),
  rw (← c.self.view_is, c.stopped-self-inside.ensures) refl,
)

pub returns-in-Released-clause-stuck : goal.returns-in-Released-clause-stuck
returns-in-Released-clause-stuck c =
    λ is. not_both _ (rw c.self.view_is is) (c.self.invariant.told ∙ sym c.is_some.ensures ∙ c.if-is_some.false)

pub unreachable-requires : goal.unreachable-requires
unreachable-requires c =
    c.in_default.not-Released true
    (sym (answers_release c.self.inside.lanes c.take_turn.new.lanes c.args.sample.now.subscriber c.in-Ended.answer
    c.args.sample.now.slot c.in-Ended.ensures))
