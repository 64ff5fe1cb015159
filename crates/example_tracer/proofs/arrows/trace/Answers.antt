use Rattle.std.proofs.Common.{◌≡◌, sym, add-one, length, arith}
use Rattle.example_tracer.specs.Trace.{start, silent, sample, IsArrow}
use Rattle.example_tracer.specs.Exchange.{seen}
use Rattle.example_tracer.proofs.TraceLemmas.{all_join, all_in_order, all_lost_for_good, counted}
use Rattle.example_tracer.proofs.arrows.trace.Goals as goal
use Rattle.example_tracer.proofs.arrows.trace.Goals.{in-Some+in_ok-push, in_default}

pub loop-receipt-init : goal.loop-receipt-init
loop-receipt-init c = rw c.new-arrows.ensures.items start

pub loop-receipt-preserved : goal.loop-receipt-preserved
loop-receipt-preserved c = elim c.match-received_at.branch [
  | in-Some+in_ok-push w ↦
      let led : IsArrow c.args.conversation.now c.loop-receipt.arrows.items c.loop-receipt.receipt (seen w.in-Some.received)
      w.way-way.result = rw (← w.deref.ensures.value) w.way-way.ensures in
      rw (w.arrows-is, w.in_ok-push.ensures.items, add-one) (sample c.loop-receipt.invariant (sym w.in-Some.ensures) led)
  | in_default w ↦ rw (w.arrows-is, add-one) (silent c.loop-receipt.invariant (sym w.in_default.ensures))
]

pub returns-clause-one_each : goal.returns-clause-one_each
returns-clause-one_each c =
    let all : c.loop-receipt.receipt ≡ length c.args.conversation.now = omega arith in
    counted c.args.conversation.now c.loop-receipt.arrows.items (rw all at c.loop-receipt.invariant)

pub returns-clause-joins : goal.returns-clause-joins
returns-clause-joins c = all_join c.args.conversation.now c.loop-receipt.invariant

pub returns-clause-order : goal.returns-clause-order
returns-clause-order c = all_in_order c.args.conversation.now c.loop-receipt.invariant

pub returns-clause-lost : goal.returns-clause-lost
returns-clause-lost c = all_lost_for_good c.args.conversation.now c.loop-receipt.invariant
