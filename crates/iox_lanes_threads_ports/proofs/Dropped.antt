-- A drop of a loan is one step, which leaves the port.
use Rattle.std.proofs.Common.{ℕ, ◌≡◌, ◌<◌, true, refl, sym, ◌∙◌, ap, subst, arith}
use Rattle.iox_lanes_machine.specs.LanesParties.Parties.{PublisherLaneState, publisher_fits, publisher_begun, publisher_after}
use Rattle.iox_lanes_machine.specs.LanesParties.declared.call.Call.TheVariants as call
use Rattle.iox_lanes_machine.specs.LanesParties.declared.call.Move.TheVariants.{Begin}
use Rattle.iox_lanes_threads_rule.specs.declared.view.Port.{Port}
use Rattle.iox_lanes_threads_ports.specs.Courses.{PublisherGoes}
use Rattle.iox_lanes_threads_ports.specs.Courses.PublisherGoes.{stays}
use Rattle.iox_lanes_threads_ports.specs.Paces.{steps_in}
use Rattle.iox_lanes_threads_ports.specs.Ports.{PublisherStands}
use Rattle.iox_lanes_threads_ports.specs.Values.{PublisherPort, Drops}
use Rattle.iox_lanes_threads_ports.proofs.Running.{publisher_begun_stands, publisher_last}

-- what a drop that fits does
pub drop_done : (old new : PublisherPort) (loan : ℕ) (begun : PublisherLaneState)
    → publisher_fits old.lane (Begin (call.DropLoan loan)) ≡ true → new.table ≡ old.table → new.port ≡ old.port
    → begun ≡ publisher_begun 0 (call.DropLoan loan) old.lane → new.lane ≡ publisher_after 0 begun → Drops old loan new true
drop_done old new loan begun fit table port begins after =
    let from : PublisherLaneState = publisher_begun 0 (call.DropLoan loan) old.lane in
    let none : (g : PublisherGoes old.port from old.port from) × (steps_in g < 1) = (stays, omega arith) in
    let there : (g : PublisherGoes old.port from new.port from) × (steps_in g < 1)
    = subst (λ (q : Port). (g : PublisherGoes old.port from q from) × (steps_in g < 1)) (sym port) none in (
      fit,
      table,
      port,
      record {
        last = from;
        goes = there.0;
        few = there.1;
        ends = refl;
        after = after ∙ ap (publisher_after 0) begins;
        answers = refl;
      },
    )

-- a publisher that dropped a loan stands as before
pub drop_stands : (p : Port) (lane begun after : PublisherLaneState) (loan : ℕ) → PublisherStands p lane
    → publisher_fits lane (Begin (call.DropLoan loan)) ≡ true → begun ≡ publisher_begun 0 (call.DropLoan loan) lane
    → after ≡ publisher_after 0 begun → PublisherStands p after
drop_stands p lane begun after loan stands fit begins is =
    subst (PublisherStands p) (sym (is ∙ ap (publisher_after 0) begins))
    (publisher_last p (publisher_begun 0 (call.DropLoan loan) lane) (publisher_begun_stands p lane (Begin (call.DropLoan loan)) stands fit)
    refl)
