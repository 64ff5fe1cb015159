use Rattle.std.proofs.Common.{arith, rules, sym}
use Rattle.std.proofs.lemmas.Option.{slice_get_within}
use borrow.Author.Count.{below_more}
use Rattle.iox_lanes_machine.specs.declared.found.Found.TheVariants as found
use Rattle.iox_lanes.specs.Alone.{IsAloneAt}
use Rattle.iox_lanes.specs.Spelling.{spelling_of}
use Rattle.iox_lanes.proofs.Alone.{alone_at}
use Rattle.iox_lanes.proofs.Behind.{behind_none, next_message}
use Rattle.iox_lanes.proofs.building.find_history.Goals as goal

pub loop-at-init : goal.loop-at-init
loop-at-init g c = (search rules, search rules, sym (behind_none c.args.lanes.now.lanes), λ k below. absurd (omega (arith, below)))

pub loop-at-preserved : goal.loop-at-preserved
loop-at-preserved g c = (
  search rules,
  search rules,
  next_message (spelling_of c.args.numbered g.T.Words.parts g.T.Words.WORDS g.U.Words.parts g.U.Words.WORDS) c.args.first c.args.port.now
      (λ slot. found.Newest c.args.place slot) c.args.port.now.sender.uses.history c.loop-at.at c.remembered-slot.result
      c.saturating_add.result
      c.args.lanes.now.lanes c.loop-at.lanes.lanes c.find_message.new.lanes.lanes c.find.new.self.lanes c.remembered-slot.ensures.slot
      c.loop-at.invariant.2
      (λ message there same. c.in_ok-find_message.ensures.remembered c.loop-at.at message there same) c.saturating_add.ensures
      c.in_ok-find.ensures.behind,
  below_more (λ k. IsAloneAt c.args.port.now c.args.port.now.sender.uses.history k) c.loop-at.at c.loop-at.invariant.3
      (λ message there. alone_at c.args.port.now c.args.port.now.sender.uses.history c.loop-at.at c.remembered-slot.result message
      c.remembered-slot.ensures.slot c.remembered-slot.ensures.inside c.in_ok-find_message.ensures.one there),
)

pub returns-clause-alone : goal.returns-clause-alone
returns-clause-alone g c
    = λ at message there. c.loop-at.invariant.3 at
    (omega (
      arith,
      slice_get_within c.args.port.now.sender.uses.history at message there,
      c.loop-at-test.false,
      c.history-at-end.ensures,
      c.slots.ensures.history,
    ))
    message there
