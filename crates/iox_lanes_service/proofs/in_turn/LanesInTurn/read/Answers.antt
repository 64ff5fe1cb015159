use Rattle.std.proofs.Common.{inl, inr, refl, sym, ◌∙◌, subst}
use Rattle.iox_lanes_service.proofs.Fitting.{read_fits}
use Rattle.iox_lanes_service.proofs.Tables.{not_both}
use Rattle.iox_command.specs.declared.command.Command.TheVariants as command
use Rattle.iox_lanes_machine.specs.LanesParties.declared.call.Answer.{Answer}
use Rattle.iox_lanes_machine.specs.LanesParties.declared.call.Call.TheVariants as call
use Rattle.iox_lanes_machine.specs.LanesParties.declared.call.Party.TheVariants.{Subscriber}
use Rattle.iox_command.specs.declared.reply.Reply.TheVariants as reply
use Rattle.iox_lanes_service.specs.InTurn.{turned}
use Rattle.iox_lanes_service.specs.Turning.{TurnEnds}
use Rattle.iox_lanes_service.proofs.SampleTurns.{one_value, read_recorded, read_told}
use Rattle.iox_lanes_service.proofs.AnswerKinds.{answers_read}
use Rattle.iox_lanes_service.proofs.Moving.{stuck_so}
use Rattle.iox_lanes_service.proofs.Turns.{kept_going, none_out, stuck_since}
use Rattle.iox_lanes_service.proofs.in_turn.LanesInTurn.read.Goals as goal

pub invariant_of-self-in-Ended : goal.invariant_of-self-in-Ended
invariant_of-self-in-Ended c = rw c.told-self-inside.ensures
    (kept_going c.self.inside.ran_out c.self.inside.history.turns
    (turned (command.Read c.args.sample.now.number.value) (reply.Values (one_value c.payload_read-words.result.now))
    c.self.inside.history.turns) c.self.inside.lanes c.take_turn.new.lanes
    (none_out c.self.inside.ran_out (sym c.is_some.ensures ∙ c.if-is_some.false))
    (λ a. read_recorded c.self.inside.history.turns c.self.inside.lanes c.take_turn.new.lanes c.args.sample.now.number.value
    c.requires.0 c.args.sample.now.subscriber c.args.sample.now.slot a (rw c.self.view_is c.requires.1) c.in-Read.from
    c.payload_read-words.result.now c.payload_read-words.ensures
    (subst (λ (it : Answer). TurnEnds c.self.inside.lanes (Subscriber c.args.sample.now.subscriber)
    (call.Read c.args.sample.now.slot) it c.take_turn.new.lanes) c.in-Read.is c.in-Ended.ensures))
    c.self.invariant)

pub invariant_of-self-in-Stuck : goal.invariant_of-self-in-Stuck
invariant_of-self-in-Stuck c =
    rw c.stopped-self-inside.ensures
    (stuck_since c.self.inside.ran_out c.self.inside.history.turns c.self.inside.lanes c.take_turn.new.lanes
    (Subscriber c.args.sample.now.subscriber) (call.Read c.args.sample.now.slot)
    c.in-Stuck.why c.self.invariant c.in-Stuck.ensures)

pub returns-in-Read-clause-read : goal.returns-in-Read-clause-read
returns-in-Read-clause-read c = (
  one_value c.payload_read-words.result.now,
  rw (← c.self.view_is, c.told-self-inside.ensures) refl,
  read_told c.payload_read-words.result.now c.from_slice-copied.result c.from_slice-copied.ensures.items,
)

pub returns-then-is_some-clause-read : goal.returns-then-is_some-clause-read
returns-then-is_some-clause-read c =
    inl (rw (← c.self.view_is) refl, λ always. rw (← c.self.view_is) (c.self.invariant.told ∙ sym c.is_some.ensures ∙ c.if-is_some.true))

pub returns-in-NotBegun-clause-read : goal.returns-in-NotBegun-clause-read
returns-in-NotBegun-clause-read c = inl (
  rw (← c.self.view_is) refl,
  λ always. not_both _
      (read_fits c.self.inside.ran_out c.self.inside.history.turns c.self.inside.lanes c.self.invariant
      (none_out c.self.inside.ran_out (sym c.is_some.ensures ∙ c.if-is_some.false))
      c.args.sample.now.number.value c.requires.0 c.args.sample.now.subscriber c.args.sample.now.slot
      (rw c.self.view_is c.requires.1))
      c.in-NotBegun.ensures.0,
)

pub returns-in-Stuck-clause-read : goal.returns-in-Stuck-clause-read
returns-in-Stuck-clause-read c = inr (
  c.in-Stuck.why,
  rw (← c.self.view_is)
      (stuck_so c.self.inside.ran_out c.self.inside.history.turns c.self.inside.lanes c.take_turn.new.lanes
      (Subscriber c.args.sample.now.subscriber)
      (call.Read c.args.sample.now.slot) c.in-Stuck.why c.self.invariant
      (none_out c.self.inside.ran_out (sym c.is_some.ensures ∙ c.if-is_some.false)) c.in-Stuck.ensures),
  rw (← c.self.view_is, c.stopped-self-inside.ensures) refl,
)

pub returns-in-Read-clause-stuck : goal.returns-in-Read-clause-stuck
returns-in-Read-clause-stuck c =
    λ is. not_both _ (rw c.self.view_is is) (c.self.invariant.told ∙ sym c.is_some.ensures ∙ c.if-is_some.false)

pub unreachable-requires : goal.unreachable-requires
unreachable-requires c =
    let from = answers_read c.self.inside.lanes c.take_turn.new.lanes c.args.sample.now.subscriber c.in-Ended.answer
    c.args.sample.now.slot c.in-Ended.ensures in
    c.in_default.not-Read from.0 (sym from.1)
