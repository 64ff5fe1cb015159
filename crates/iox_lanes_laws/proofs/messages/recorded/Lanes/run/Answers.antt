use Rattle.std.proofs.Common.{rules, arith, ℕ, ◌≡◌, ◌+◌, ◌≤◌, length, List, [], ◌∷◌, refl, sym, subst, ap, ◌∙◌}
use Rattle.iox_lanes_machine.specs.LanesParties.declared.call.Entry.{Entry}
use Rattle.iox_lanes_machine.proofs.Fixed.{fixed_on}
use Rattle.iox_lanes_machine.proofs.Runs.{counts_one, none_left}
use Rattle.iox_lanes_laws.specs.Recorded.{RecordsRun}
use Rattle.iox_lanes_laws.proofs.Records.{run_more}
use Rattle.iox_lanes_laws.proofs.messages.recorded.Lanes.run.Goals as goal

pub loop-entry-preserved : goal.loop-entry-preserved
loop-entry-preserved c =
    let is : c.loop-entry.rest.now ≡ c.in-Some.entry.now ∷ c.in-Some.tail.now = search rules in
    let longer : length c.loop-entry.rest.now ≡ length c.in-Some.tail.now + 1 = ap (λ (xs : List Entry). length xs) is ∙ omega arith in
    let one : c.count-made.result ≤ 1 = counts_one c.step.result c.count-made.result c.count-made.ensures in (
      λ n k runs. subst (λ (i : ℕ). RecordsRun c.args.self.now c.args.schedule.now i n) (omega arith)
          ((c.loop-entry.invariant.0) n (c.count-made.result + k)
          (subst (λ (xs : List Entry). RecordsRun c.loop-entry.self xs (c.count-made.result + k) n) (sym is)
          (run_more c.loop-entry.self c.in-Some.entry.now c.in-Some.tail.now c.step.result c.step.new.self n k (c.count-made.result + k)
          c.step.ensures.steps (ap (λ (x : ℕ). x + k) c.count-made.ensures) runs))),
      omega (arith, c.loop-entry.invariant.1),
      λ came. c.step.ensures.came (c.loop-entry.invariant.2 came),
      fixed_on c.args.self.now.lanes c.loop-entry.self.lanes c.step.new.self.lanes c.loop-entry.invariant.3 c.step.ensures.fixed,
      record {
        orders = c.step.ensures.orders;
        receipts = c.step.ensures.receipts;
        sends = c.step.ensures.sends;
        calls = c.step.ensures.calls;
        loans = c.step.ensures.loans;
        alone = c.step.ensures.alone;
        reads = c.step.ensures.reads;
        releases = c.step.ensures.releases;
      },
    )

pub returns-clause-runs : goal.returns-clause-runs
returns-clause-runs c =
    let none : length c.loop-entry.rest.now ≡ 0 = search rules in
    let is : c.loop-entry.rest.now ≡ [] = none_left c.loop-entry.rest.now none in
    let e : c.loop-entry.made + 0 ≡ c.loop-entry.made = omega arith in
    subst (λ (i : ℕ). RecordsRun c.args.self.now c.args.schedule.now i c.loop-entry.self) e
    ((c.loop-entry.invariant.0) c.loop-entry.self 0
    (subst (λ (xs : List Entry). RecordsRun c.loop-entry.self xs 0 c.loop-entry.self) (sym is) (refl, refl)))

pub returns-clause-came : goal.returns-clause-came
returns-clause-came c = c.loop-entry.invariant.2

pub returns-clause-fixed : goal.returns-clause-fixed
returns-clause-fixed c = c.loop-entry.invariant.3

pub returns-clause-orders : goal.returns-clause-orders
returns-clause-orders c = (c.loop-entry.invariant.4).orders

pub returns-clause-receipts : goal.returns-clause-receipts
returns-clause-receipts c = (c.loop-entry.invariant.4).receipts

pub returns-clause-sends : goal.returns-clause-sends
returns-clause-sends c = (c.loop-entry.invariant.4).sends

pub returns-clause-calls : goal.returns-clause-calls
returns-clause-calls c = (c.loop-entry.invariant.4).calls

pub returns-clause-loans : goal.returns-clause-loans
returns-clause-loans c = (c.loop-entry.invariant.4).loans

pub returns-clause-alone : goal.returns-clause-alone
returns-clause-alone c = (c.loop-entry.invariant.4).alone

pub returns-clause-reads : goal.returns-clause-reads
returns-clause-reads c = (c.loop-entry.invariant.4).reads

pub returns-clause-releases : goal.returns-clause-releases
returns-clause-releases c = (c.loop-entry.invariant.4).releases
