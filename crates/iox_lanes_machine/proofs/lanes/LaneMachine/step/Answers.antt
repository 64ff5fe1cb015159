use Rattle.std.proofs.Common.{◌≡◌, subst, sym}
use Rattle.iox_lanes_machine.specs.Apart.{StaysApart}
use Rattle.iox_lanes_machine.specs.Fixed.{StaysFixed}
use Rattle.iox_lanes_machine.specs.Held.{ReadsWhole}
use Rattle.iox_lanes_machine.specs.Left.{StoresLeft}
use Rattle.iox_lanes_machine.specs.Loans.{LoansLent}
use Rattle.iox_lanes_machine.specs.Queues.{GivenBackInTurn}
use Rattle.iox_lanes_machine.specs.Told.{Told}
use Rattle.iox_lanes_machine.specs.World.{World}
use Rattle.iox_lanes_machine.specs.Slots.{SlotsStay}
use Rattle.iox_lanes_machine.specs.State.{world_of}
use Rattle.iox_lanes_machine.specs.Alone.{UsedSlotsStay}
use Rattle.iox_lanes_machine.proofs.Alone.{loans_alone, used_stay}
use Rattle.iox_lanes_machine.proofs.Apart.{steps_apart}
use Rattle.iox_lanes_machine.proofs.Fixed.{steps_fixed}
use Rattle.iox_lanes_machine.proofs.Held.{reads_whole}
use Rattle.iox_lanes_machine.proofs.Left.{stores_left}
use Rattle.iox_lanes_machine.proofs.Loans.{loans_lent}
use Rattle.iox_lanes_machine.proofs.Mailboxes.{orders_follow}
use Rattle.iox_lanes_machine.proofs.Queues.{steps_in_turn}
use Rattle.iox_lanes_machine.proofs.Slots.{loans_apart, slots_stay}
use Rattle.iox_lanes_machine.proofs.Told.{steps_told}
use Rattle.iox_lanes_machine.proofs.Whole.{steps_keep}
use Rattle.iox_lanes_machine.proofs.lanes.LaneMachine.step.Goals as goal

pub invariant_of-self : goal.invariant_of-self
invariant_of-self c = steps_keep (world_of c.self.inside.state) c.args.party c.args.step.now c.step.result (world_of c.step.new.self)
    c.step.ensures c.self.invariant

pub returns-clause-orders : goal.returns-clause-orders
returns-clause-orders c = orders_follow (world_of c.step.new.self)
    (steps_keep (world_of c.self.inside.state) c.args.party c.args.step.now c.step.result (world_of c.step.new.self) c.step.ensures
    c.self.invariant)

pub returns-clause-apart : goal.returns-clause-apart
returns-clause-apart c =
    let is : c.args.self.now ≡ world_of c.self.inside.state = cc c.self.view_is in
    subst (λ (m : World). StaysApart m c.args.party c.args.step.now c.step.result (world_of c.step.new.self)) (sym is)
    (steps_apart (world_of c.self.inside.state) c.args.party c.args.step.now c.step.result (world_of c.step.new.self) c.step.ensures
    c.self.invariant.within)

pub returns-clause-receipts : goal.returns-clause-receipts
returns-clause-receipts c =
    let kept = steps_keep (world_of c.self.inside.state) c.args.party c.args.step.now c.step.result (world_of c.step.new.self)
    c.step.ensures c.self.invariant in
    kept.receipts

pub returns-clause-sends : goal.returns-clause-sends
returns-clause-sends c =
    let kept = steps_keep (world_of c.self.inside.state) c.args.party c.args.step.now c.step.result (world_of c.step.new.self)
    c.step.ensures c.self.invariant in
    kept.sends

pub returns-clause-calls : goal.returns-clause-calls
returns-clause-calls c =
    let kept = steps_keep (world_of c.self.inside.state) c.args.party c.args.step.now c.step.result (world_of c.step.new.self)
    c.step.ensures c.self.invariant in
    kept.calls

pub returns-clause-slots : goal.returns-clause-slots
returns-clause-slots c =
    let is : c.args.self.now ≡ world_of c.self.inside.state = cc c.self.view_is in
    subst (λ (m : World). SlotsStay m c.args.party (world_of c.step.new.self)) (sym is)
    (slots_stay (world_of c.self.inside.state) c.args.party c.args.step.now c.step.result (world_of c.step.new.self) c.self.invariant.loans
    (steps_apart (world_of c.self.inside.state) c.args.party c.args.step.now c.step.result (world_of c.step.new.self) c.step.ensures
    c.self.invariant.within))

pub returns-clause-fixed : goal.returns-clause-fixed
returns-clause-fixed c =
    let is : c.args.self.now ≡ world_of c.self.inside.state = cc c.self.view_is in
    subst (λ (m : World). StaysFixed m (world_of c.step.new.self)) (sym is)
    (steps_fixed (world_of c.self.inside.state) c.args.party c.args.step.now c.step.result (world_of c.step.new.self) c.step.ensures)

pub returns-clause-loans : goal.returns-clause-loans
returns-clause-loans c =
    let kept = steps_keep (world_of c.self.inside.state) c.args.party c.args.step.now c.step.result (world_of c.step.new.self)
    c.step.ensures c.self.invariant in
    loans_apart (world_of c.step.new.self) kept.loans

pub returns-clause-told : goal.returns-clause-told
returns-clause-told c =
    let is : c.args.self.now ≡ world_of c.self.inside.state = cc c.self.view_is in
    subst (λ (m : World). Told m c.args.party c.args.step.now c.step.result (world_of c.step.new.self)) (sym is)
    (steps_told (world_of c.self.inside.state) c.args.party c.args.step.now c.step.result (world_of c.step.new.self) c.step.ensures)

pub returns-clause-reads : goal.returns-clause-reads
returns-clause-reads c =
    let kept = steps_keep (world_of c.self.inside.state) c.args.party c.args.step.now c.step.result (world_of c.step.new.self)
    c.step.ensures c.self.invariant in
    kept.reads

pub returns-clause-alone : goal.returns-clause-alone
returns-clause-alone c = loans_alone (world_of c.step.new.self)
    (steps_keep (world_of c.self.inside.state) c.args.party c.args.step.now c.step.result (world_of c.step.new.self) c.step.ensures
    c.self.invariant)

pub returns-clause-uses : goal.returns-clause-uses
returns-clause-uses c =
    let is : c.args.self.now ≡ world_of c.self.inside.state = cc c.self.view_is in
    subst (λ (m : World). UsedSlotsStay m (world_of c.step.new.self)) (sym is)
    (used_stay (world_of c.self.inside.state) c.args.party (world_of c.step.new.self) c.self.invariant
    (slots_stay (world_of c.self.inside.state) c.args.party c.args.step.now c.step.result (world_of c.step.new.self) c.self.invariant.loans
    (steps_apart (world_of c.self.inside.state) c.args.party c.args.step.now c.step.result (world_of c.step.new.self) c.step.ensures
    c.self.invariant.within)))

pub returns-clause-whole : goal.returns-clause-whole
returns-clause-whole c =
    let is : c.args.self.now ≡ world_of c.self.inside.state = cc c.self.view_is in
    subst (λ (m : World). ReadsWhole m (world_of c.step.new.self)) (sym is)
    (reads_whole (world_of c.self.inside.state) c.args.party c.args.step.now c.step.result (world_of c.step.new.self) c.step.ensures
    (steps_told (world_of c.self.inside.state) c.args.party c.args.step.now c.step.result (world_of c.step.new.self) c.step.ensures)
    c.self.invariant.within c.self.invariant.uses c.self.invariant.reads c.self.invariant.calls c.self.invariant.held)

pub returns-clause-left : goal.returns-clause-left
returns-clause-left c =
    let is : c.args.self.now ≡ world_of c.self.inside.state = cc c.self.view_is in
    subst (λ (m : World). StoresLeft m (world_of c.step.new.self)) (sym is)
    (stores_left (world_of c.self.inside.state) c.args.party c.args.step.now c.step.result (world_of c.step.new.self) c.step.ensures
    (steps_told (world_of c.self.inside.state) c.args.party c.args.step.now c.step.result (world_of c.step.new.self) c.step.ensures)
    c.self.invariant.calls c.self.invariant.left)

pub returns-clause-releases : goal.returns-clause-releases
returns-clause-releases c =
    let kept = steps_keep (world_of c.self.inside.state) c.args.party c.args.step.now c.step.result (world_of c.step.new.self)
    c.step.ensures c.self.invariant in
    λ few. (kept.rooms few).releases

pub returns-clause-lent : goal.returns-clause-lent
returns-clause-lent c =
    let is : c.args.self.now ≡ world_of c.self.inside.state = cc c.self.view_is in
    subst (λ (m : World). LoansLent m (world_of c.step.new.self)) (sym is)
    (loans_lent (world_of c.self.inside.state) c.args.party c.args.step.now c.step.result (world_of c.step.new.self) c.step.ensures
    (steps_told (world_of c.self.inside.state) c.args.party c.args.step.now c.step.result (world_of c.step.new.self) c.step.ensures)
    c.self.invariant.within c.self.invariant.uses c.self.invariant.rooms)

pub returns-clause-turns : goal.returns-clause-turns
returns-clause-turns c =
    let is : c.args.self.now ≡ world_of c.self.inside.state = cc c.self.view_is in
    subst (λ (m : World). GivenBackInTurn m c.args.party (world_of c.step.new.self)) (sym is)
    (steps_in_turn (world_of c.self.inside.state) c.args.party c.args.step.now c.step.result (world_of c.step.new.self) c.step.ensures
    c.self.invariant)
