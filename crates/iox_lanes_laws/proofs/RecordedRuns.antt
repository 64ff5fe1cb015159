-- Runs of lanes that keep messages are runs of the lanes alone.
use Rattle.std.proofs.Common.{ℕ, ◌≡◌, ◌+◌, ◌≤◌, List, [], ◌∷◌, ◌++◌, length, append_assoc, append-nil, refl, sym, ◌∙◌, ap, subst}
use Rattle.std.proofs.Common.{inl, inr, arith}
use Rattle.iox_lanes_machine.specs.QueuesSteps.Schedule.{count_of}
use Rattle.iox_lanes_machine.specs.QueuesSteps.declared.schedule.Stepped.{Stepped}
use Rattle.iox_lanes_machine.specs.QueuesSteps.declared.schedule.Stepped.TheVariants as stepped
use Rattle.iox_lanes_machine.specs.LanesParties.declared.call.Entry.{Entry}
use Rattle.iox_lanes_machine.specs.LanesParties.declared.call.Move.{Move}
use Rattle.iox_lanes_machine.specs.LanesParties.declared.call.Party.{Party}
use Rattle.iox_lanes_machine.specs.WholeReads.{CameTo}
use Rattle.iox_lanes_machine.specs.World.{World, RunsTo, happens}
use Rattle.iox_lanes_machine.proofs.Runs.{steps_come_on}
use Rattle.iox_lanes_laws.specs.Messages.{begun_messages}
use Rattle.iox_lanes_laws.specs.Recorded.{RecordState, RecordsTo, RecordsRun, recorded_after}
use Rattle.iox_lanes_laws.specs.RecordedRuns.{AreSomeOf, IsRunOfLanes, RecordsRunLanes, RecordedStepsAreRuns, RecordedRunsFollow}
use Rattle.iox_lanes_laws.specs.RecordedRuns.{FullRunsGo, FullRunsAreRecorded}
use Rattle.iox_lanes_laws.proofs.Records.{run_more}

pub steps_are_runs : RecordedStepsAreRuns
steps_are_runs r party step answer n h =
    run_more r (record { party = party; step = step }) [] answer n n 0 (count_of answer) h (omega arith) (refl, refl)

pub runs_follow : RecordedRunsFollow
runs_follow r [] made m more count n h g = subst (λ (i : ℕ). RecordsRun r more i n) (omega (arith, h.0))
    (subst (λ (x : RecordState). RecordsRun x more count n) h.1 g)
runs_follow r (e ∷ entries) made m more count n (inl h) g = inl (h.0, runs_follow r entries made m more count n h.1 g)
runs_follow r (e ∷ entries) made m more count n (inr (inl h)) g =
    inr (inl (
      h.0,
      (
        (h.1).0 + count,
        omega (arith, (h.1).1),
        runs_follow (recorded_after r e.party e.step) entries (h.1).0 m more count n (h.1).2 g,
      ),
    ))
runs_follow r (e ∷ entries) made m more count n (inr (inr h)) g =
    inr (inr (h.0, h.1, runs_follow r entries made m more count n h.2 g))

some_more : (some : List Entry) (entry : Entry) (entries : List Entry) → AreSomeOf some entries → AreSomeOf some (entry ∷ entries)
some_more [] entry entries h = tt
some_more (one ∷ some) entry entries h = inr h

-- an entry that is left out changes nothing
left_out : (r : RecordState) (entry : Entry) (entries : List Entry) (made : ℕ) (n : RecordState) → IsRunOfLanes r entries made n
    → IsRunOfLanes r (entry ∷ entries) made n
left_out r entry entries made n h = record {
  steps = h.steps;
  some_of = some_more h.steps entry entries h.some_of;
  count = h.count;
  runs = h.runs;
  sent = h.sent;
  through = h.through;
  kept = h.kept;
}

pub records_run_lanes : RecordsRunLanes
records_run_lanes r [] made n h = record {
  steps = [];
  some_of = tt;
  count = sym h.0;
  runs = (h.0, ap (λ (x : RecordState). x.lanes) h.1);
  sent = [];
  through = (refl, ap (λ (x : RecordState). x.lanes) h.1);
  kept = ap (λ (x : RecordState). x.messages) h.1 ∙ sym (append-nil r.messages);
}
records_run_lanes r (entry ∷ entries) made n (inl h) = left_out r entry entries made n (records_run_lanes r entries made n h.1)
records_run_lanes r (entry ∷ entries) made n (inr (inl h)) =
    let rest = records_run_lanes (recorded_after r entry.party entry.step) entries (h.1).0 n (h.1).2 in
    record {
      steps = entry ∷ rest.steps;
      some_of = inl (refl, rest.some_of);
      count = omega (arith, rest.count, (h.1).1);
      runs = inr (inl (h.0, ((h.1).0, (h.1).1, rest.runs)));
      sent = begun_messages r.lanes entry.party entry.step ++ rest.sent;
      through = inr (h.0, (rest.sent, refl, rest.through));
      kept = rest.kept ∙ append_assoc r.messages (begun_messages r.lanes entry.party entry.step) rest.sent;
    }
records_run_lanes r (entry ∷ entries) made n (inr (inr h)) = left_out r entry entries made n (records_run_lanes r entries made n h.2)

-- no run makes more steps than it has entries
run_bound : (m : World) (entries : List Entry) (made : ℕ) (n : World) → RunsTo m entries made n → made ≤ length entries
run_bound m [] made n h = omega (arith, h.0)
run_bound m (entry ∷ entries) made n (inl h) = omega (arith, run_bound m entries made n h.1)
run_bound m (entry ∷ entries) made n (inr (inl h)) =
    omega (arith, (h.1).1, run_bound (happens m entry.party entry.step) entries (h.1).0 n (h.1).2)
run_bound m (entry ∷ entries) made n (inr (inr h)) = omega (arith, run_bound m entries made n h.2)

pub full_runs_go : FullRunsGo
full_runs_go m [] n h = h.1
full_runs_go m (entry ∷ entries) n (inl h) = absurd (omega (arith, run_bound m entries (length (entry ∷ entries)) n h.1))
full_runs_go m (entry ∷ entries) n (inr (inl h)) =
    let all : (h.1).0 ≡ length entries = omega (arith, (h.1).1) in (
      h.0,
      full_runs_go (happens m entry.party entry.step) entries n
          (subst (λ (i : ℕ). RunsTo (happens m entry.party entry.step) entries i n) all (h.1).2),
    )
full_runs_go m (entry ∷ entries) n (inr (inr h)) = absurd (omega (arith, run_bound m entries (length (entry ∷ entries)) n h.2))

-- so it is of lanes that keep messages
records_bound : (r : RecordState) (entries : List Entry) (made : ℕ) (n : RecordState) → RecordsRun r entries made n
    → made ≤ length entries
records_bound r [] made n h = omega (arith, h.0)
records_bound r (entry ∷ entries) made n (inl h) = omega (arith, records_bound r entries made n h.1)
records_bound r (entry ∷ entries) made n (inr (inl h)) =
    omega (arith, (h.1).1, records_bound (recorded_after r entry.party entry.step) entries (h.1).0 n (h.1).2)
records_bound r (entry ∷ entries) made n (inr (inr h)) = omega (arith, records_bound r entries made n h.2)

pub full_runs_are_recorded : FullRunsAreRecorded
full_runs_are_recorded r [] n h = h.1
full_runs_are_recorded r (entry ∷ entries) n (inl h) =
    absurd (omega (arith, records_bound r entries (length (entry ∷ entries)) n h.1))
full_runs_are_recorded r (entry ∷ entries) n (inr (inl h)) =
    let after = recorded_after r entry.party entry.step in
    let all : (h.1).0 ≡ length entries = omega (arith, (h.1).1) in (
      h.0,
      full_runs_are_recorded after entries n (subst (λ (i : ℕ). RecordsRun after entries i n) all (h.1).2),
    )
full_runs_are_recorded r (entry ∷ entries) n (inr (inr h)) =
    absurd (omega (arith, records_bound r entries (length (entry ∷ entries)) n h.2))

-- lanes that were made and led somewhere are led on by a step, and by a run
pub records_come_on : (r : RecordState) (party : Party) (step : Move) (answer : Stepped) (n : RecordState)
    → RecordsTo r party step answer n → CameTo r.lanes → CameTo n.lanes
records_come_on r party step stepped.Went n h came = steps_come_on r.lanes came party step stepped.Went n.lanes h.0
records_come_on r party step stepped.Finished n h came = steps_come_on r.lanes came party step stepped.Finished n.lanes h.0
records_come_on r party step stepped.Skipped n h came = subst (λ (x : RecordState). CameTo x.lanes) (sym h.1) came
records_come_on r party step stepped.NoMemory n h came = subst (λ (x : RecordState). CameTo x.lanes) (sym h.2) came
