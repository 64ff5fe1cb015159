use Rattle.std.proofs.Common.{inl, inr, refl, sym, ◌∙◌, subst}
use Rattle.iox_lanes_service.proofs.Fitting.{receive_fits}
use Rattle.iox_lanes_service.proofs.Tables.{not_both}
use Rattle.iox_lanes_machine.specs.LanesParties.declared.call.Answer.{Answer}
use Rattle.iox_lanes_machine.specs.LanesParties.declared.call.Call.TheVariants as call
use Rattle.iox_lanes_machine.specs.LanesParties.declared.call.Party.TheVariants.{Subscriber}
use Rattle.iox_lanes_service.specs.Turning.{TurnEnds}
use Rattle.iox_lanes_service.proofs.SampleTurns.{receive_recorded, received, received_numbered, received_told}
use Rattle.iox_lanes_service.proofs.AnswerKinds.{answers_receive}
use Rattle.iox_lanes_service.proofs.Moving.{stuck_so}
use Rattle.iox_lanes_service.proofs.Turns.{kept_going, none_out, stuck_since}
use Rattle.iox_lanes_service.proofs.in_turn.LanesInTurn.receive.Goals as goal

pub invariant_of-self-in-Ended : goal.invariant_of-self-in-Ended
invariant_of-self-in-Ended c = rw (c.told-self-inside.ensures, c.of-seen.ensures)
    (kept_going c.self.inside.ran_out c.self.inside.history.turns
    (received c.args.subscriber c.in-Received.given c.self.inside.lanes c.self.inside.history.turns) c.self.inside.lanes
    c.take_turn.new.lanes (none_out c.self.inside.ran_out (sym c.is_some.ensures ∙ c.if-is_some.false))
    (λ a. receive_recorded c.self.inside.history.turns c.self.inside.lanes c.take_turn.new.lanes c.args.subscriber
    c.in-Received.given a
    (subst (λ (it : Answer). TurnEnds c.self.inside.lanes (Subscriber c.args.subscriber) call.Receive it c.take_turn.new.lanes)
    c.in-Received.is c.in-Ended.ensures)) c.self.invariant)

pub invariant_of-self-in-Stuck : goal.invariant_of-self-in-Stuck
invariant_of-self-in-Stuck c =
    rw c.stopped-self-inside.ensures
    (stuck_since c.self.inside.ran_out c.self.inside.history.turns c.self.inside.lanes c.take_turn.new.lanes
    (Subscriber c.args.subscriber) call.Receive
    c.in-Stuck.why c.self.invariant c.in-Stuck.ensures)

pub returns-in-Received-clause-received : goal.returns-in-Received-clause-received
returns-in-Received-clause-received c =
    rw (c.taken_as.ensures, ← c.self.view_is, c.told-self-inside.ensures, c.of-seen.ensures)
    (received_told c.args.subscriber c.in-Received.given c.given-number.result c.self.inside.lanes c.self.inside.history.turns)

pub returns-in-Received-clause-number : goal.returns-in-Received-clause-number
returns-in-Received-clause-number c = rw (c.taken_as.ensures, ← c.self.view_is, c.told-self-inside.ensures, c.of-seen.ensures)
    (received_numbered c.args.subscriber c.in-Received.given c.given-number.result c.self.inside.lanes
    c.self.inside.history.turns c.self.invariant.low c.given-number.ensures)

pub returns-then-is_some-clause-received : goal.returns-then-is_some-clause-received
returns-then-is_some-clause-received c =
    inl (rw (← c.self.view_is) refl, λ low. rw (← c.self.view_is) (c.self.invariant.told ∙ sym c.is_some.ensures ∙ c.if-is_some.true))

pub returns-in-NotBegun-clause-received : goal.returns-in-NotBegun-clause-received
returns-in-NotBegun-clause-received c =
    inl (
      rw (← c.self.view_is) refl,
      λ low. not_both _
          (receive_fits c.self.inside.history.turns.sizes c.self.inside.lanes c.args.subscriber
          (c.self.invariant.goes (none_out c.self.inside.ran_out (sym c.is_some.ensures ∙ c.if-is_some.false)))
          (rw c.self.view_is low)) c.in-NotBegun.ensures.0,
    )

pub returns-in-Stuck-clause-received : goal.returns-in-Stuck-clause-received
returns-in-Stuck-clause-received c =
    inr (
      c.in-Stuck.why,
      rw (← c.self.view_is)
          (stuck_so c.self.inside.ran_out c.self.inside.history.turns c.self.inside.lanes c.take_turn.new.lanes
          (Subscriber c.args.subscriber)
          call.Receive c.in-Stuck.why c.self.invariant
          (none_out c.self.inside.ran_out (sym c.is_some.ensures ∙ c.if-is_some.false)) c.in-Stuck.ensures),
      rw (← c.self.view_is, c.stopped-self-inside.ensures) refl,
    )

pub returns-in-Received-clause-stuck : goal.returns-in-Received-clause-stuck
returns-in-Received-clause-stuck c =
    λ is. not_both _ (rw c.self.view_is is) (c.self.invariant.told ∙ sym c.is_some.ensures ∙ c.if-is_some.false)

pub unreachable-requires : goal.unreachable-requires
unreachable-requires c =
    let given = answers_receive c.self.inside.lanes c.take_turn.new.lanes c.args.subscriber c.in-Ended.answer c.in-Ended.ensures in
    c.in_default.not-Received given.0 (sym given.1)
