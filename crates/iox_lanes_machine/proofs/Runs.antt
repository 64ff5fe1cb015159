-- Runs of lanes, one step after the other.
use Rattle.std.proofs.Common.{ℕ, ◌≡◌, ◌+◌, ◌≤◌, true, List, [], ◌∷◌, ◌++◌, length, refl, sym, subst, inl, inr, arith}
use Rattle.iox_lanes_machine.specs.QueuesSteps.Schedule.{count_of}
use Rattle.iox_lanes_machine.specs.QueuesSteps.declared.schedule.Stepped.{Stepped}
use Rattle.iox_lanes_machine.specs.QueuesSteps.declared.schedule.Stepped.TheVariants as stepped
use Rattle.iox_lanes_machine.specs.WholeReads.{CameTo, StepsComeOn, RunsComeOn}
use Rattle.iox_lanes_machine.specs.World.{World, StepsTo, RunsTo, fits, happens}
use Rattle.iox_lanes_machine.specs.LanesParties.declared.call.Entry.{Entry}
use Rattle.iox_lanes_machine.specs.LanesParties.declared.call.Move.{Move}
use Rattle.iox_lanes_machine.specs.LanesParties.declared.call.Party.{Party}

-- a step, and a run of the rest
pub run_more : (m : World) (entry : Entry) (entries : List Entry) (r : Stepped) (m' n : World) (k made : ℕ)
    → StepsTo m entry.party entry.step r m' → made ≡ count_of r + k → RunsTo m' entries k n → RunsTo m (entry ∷ entries) made n
run_more m entry entries stepped.Went m' n k made h e g
    = inr (inl (h.0, (k, omega arith, subst (λ (x : World). RunsTo x entries k n) h.2 g)))
run_more m entry entries stepped.Finished m' n k made h e g
    = inr (inl (h.0, (k, omega arith, subst (λ (x : World). RunsTo x entries k n) h.2 g)))
run_more m entry entries stepped.Skipped m' n k made h e g =
    inl (h.0, subst (λ (i : ℕ). RunsTo m entries i n) (omega arith) (subst (λ (x : World). RunsTo x entries k n) h.1 g))
run_more m entry entries stepped.NoMemory m' n k made h e g =
    inr (inr (h.0, h.1, subst (λ (i : ℕ). RunsTo m entries i n) (omega arith) (subst (λ (x : World). RunsTo x entries k n) h.2 g)))

-- a step counts for at most one
pub counts_one : (r : Stepped) (n : ℕ) → n ≡ count_of r → n ≤ 1
counts_one stepped.Went n e = omega arith
counts_one stepped.Finished n e = omega arith
counts_one stepped.Skipped n e = omega arith
counts_one stepped.NoMemory n e = omega arith

pub none_left : (xs : List Entry) → length xs ≡ 0 → xs ≡ []
none_left [] h = refl
none_left (x ∷ xs) h = absurd (omega arith)

-- a run after a run
runs_on : (b : World) (entries : List Entry) (made : ℕ) (m : World) (more : List Entry) (k : ℕ) (n : World) → RunsTo b entries made m
    → RunsTo m more k n → RunsTo b (entries ++ more) (made + k) n
runs_on b [] made m more k n h g = subst (λ (i : ℕ). RunsTo b more i n) (omega (arith, h.0))
    (subst (λ (x : World). RunsTo x more k n) h.1 g)
runs_on b (e ∷ entries) made m more k n (inl h) g = inl (h.0, runs_on b entries made m more k n h.1 g)
runs_on b (e ∷ entries) made m more k n (inr (inl h)) g =
    inr (inl (h.0, ((h.1).0 + k, omega (arith, (h.1).1), runs_on (happens b e.party e.step) entries (h.1).0 m more k n (h.1).2 g)))
runs_on b (e ∷ entries) made m more k n (inr (inr h)) g = inr (inr (h.0, h.1, runs_on b entries made m more k n h.2 g))

pub runs_come_on : RunsComeOn
runs_come_on m c entries made n run =
    record {
      sizes = c.sizes;
      some = c.some;
      ports = c.ports;
      small = c.small;
      found = c.found;
      begun = c.begun;
      finds = c.finds;
      schedule = c.schedule ++ entries;
      made = c.made + made;
      runs = runs_on c.begun c.schedule c.made m entries made n c.runs run;
    }

-- a step that fits leads on
pub came_on : (m : World) (party : Party) (step : Move) → CameTo m → fits m party step ≡ true → CameTo (happens m party step)
came_on m party step c fit = runs_come_on m c (record { party = party; step = step } ∷ []) 1 (happens m party step)
    (inr (inl (fit, (0, omega arith, (refl, refl)))))

pub steps_come_on : StepsComeOn
steps_come_on m c party step stepped.Went n h = subst CameTo (sym h.2) (came_on m party step c h.0)
steps_come_on m c party step stepped.Finished n h = subst CameTo (sym h.2) (came_on m party step c h.0)
steps_come_on m c party step stepped.Skipped n h = subst CameTo (sym h.1) c
steps_come_on m c party step stepped.NoMemory n h = subst CameTo (sym h.2) c
