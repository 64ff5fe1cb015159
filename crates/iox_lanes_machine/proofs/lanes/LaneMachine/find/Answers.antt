use Rattle.std.proofs.Common.{rules, ◌≡◌, true, false, Result, Ok, Err, OnErr, refl, sym, subst}
use Rattle.iox_lanes_machine.specs.Findings.{finds, with_found}
use Rattle.iox_lanes_machine.specs.Kept.{IsKept}
use Rattle.iox_lanes_machine.specs.State.{world_of}
use Rattle.iox_lanes_machine.specs.TakenIn.{TakesIn, WantsMemory}
use Rattle.iox_lanes_machine.specs.World.{World}
use Rattle.iox_lanes_machine.proofs.FoundKeptWhole.{found_keeps}
use Rattle.iox_lanes_machine.proofs.TakenInPlaces.{may_first, takes_in}
use Rattle.iox_lanes_machine.proofs.lanes.LaneMachine.find.Goals as goal

pub invariant_of-self-2 : goal.invariant_of-self-2
invariant_of-self-2 c =
    let is : world_of c.find.new.self ≡ with_found (world_of c.self.inside.state) c.args.found = c.in_ok-find.ensures.found in
    let fit : finds (world_of c.self.inside.state) c.args.found ≡ true = search rules in
    subst IsKept (sym is) (found_keeps (world_of c.self.inside.state) c.args.found fit c.self.invariant)

pub returns-clause-takes : goal.returns-clause-takes
returns-clause-takes c =
    let m : World = world_of c.self.inside.state in
    let is : c.args.self.now ≡ m = cc c.self.view_is in
    let fit : finds m c.args.found ≡ true = search rules in
    subst (λ (before : World). TakesIn before c.args.found true (world_of c.find.new.self)) (sym is)
    (takes_in m c.args.found true (world_of c.find.new.self) (fit, c.in_ok-find.ensures.found) c.self.invariant)

pub returns-then-not-finds-clause-takes : goal.returns-then-not-finds-clause-takes
returns-then-not-finds-clause-takes c =
    let m : World = world_of c.self.inside.state in
    let is : c.args.self.now ≡ m = cc c.self.view_is in
    let unfit : finds m c.args.found ≡ false = search rules in
    subst (λ (before : World). TakesIn before c.args.found false before) (sym is)
    (takes_in m c.args.found false m (unfit, refl) c.self.invariant)

-- what holds anyway holds where there is an error
on_err : {T E : Type 0} (r : Result T E) (P : Type 0) → P → OnErr r P
on_err (Ok value) P holds = tt
on_err (Err error) P holds = holds

pub returns-in_err-find-clause-memory : goal.returns-in_err-find-clause-memory
returns-in_err-find-clause-memory c =
    let m : World = world_of c.self.inside.state in
    let is : c.args.self.now ≡ m = cc c.self.view_is in
    let fit : finds m c.args.found ≡ true = search rules in
    subst (λ (before : World). OnErr c.from_residual.result (WantsMemory before c.args.found)) (sym is)
    (on_err c.from_residual.result (WantsMemory m c.args.found)
    (may_first m c.args.found fit c.self.invariant, c.in_err-find.ensures.appended))
