-- A copy is made just where the count of changes isn't what the party's last copy saw.
use Rattle.std.proofs.Common.{◌≡◌, ℕ, ◌<◌, ⊎_elim, Bool, true, false, not, if◌then◌else◌, ◌==◌, ◌&&◌, nat_lt, List, length, set}
use Rattle.std.proofs.Common.{refl, sym, ◌∙◌, ap, subst}
use Rattle.std.proofs.lemmas.Bool.{and_parts, cases_eq, eq-eqb, ltb-true, ne_eqb}
use Rattle.iox_queues_steps.specs.Access.{answer_of}
use Rattle.iox_queues_steps.specs.declared.schedule.Stepped.{Stepped}
use Rattle.iox_queues_steps.specs.declared.schedule.Stepped.TheVariants as stepped
use Rattle.iox_robust_steps.specs.ContainerSteps.{answer_at, is_clearing, member_begun, member_is_over, member_next, member_take}
use Rattle.iox_robust_steps.specs.ContainerSteps.{visits_from}
use Rattle.iox_robust_steps.specs.ContainerMachine.{asked_at}
use Rattle.iox_robust_steps.specs.ContainerMachine.{ContainerParts, KeepsCopy, LooksForNews, MemberStepsTo, MindsCopies, is_copy, is_look}
use Rattle.iox_robust_steps.specs.ContainerMachine.{member_begins, member_fits, member_seat, member_stage, member_went}
use Rattle.iox_robust_steps.specs.ContainerMachine.{seat_after, width_of}
use Rattle.iox_robust_steps.specs.Machine.{stage_at}
use Rattle.iox_robust_steps.specs.declared.container.call.ContainerCall.{ContainerCall}
use Rattle.iox_robust_steps.specs.declared.container.call.ContainerCall.TheVariants as stage
use Rattle.iox_robust_steps.specs.declared.container.call.MemberAnswer.TheVariants.{Updated}
use Rattle.iox_robust_steps.specs.declared.container.call.MemberCall.{MemberCall}
use Rattle.iox_robust_steps.specs.declared.container.call.MemberCall.TheVariants as call
use Rattle.iox_robust_steps.specs.declared.container.MemberMove.{MemberMove}
use Rattle.iox_robust_steps.specs.declared.container.MemberMove.TheVariants.{Begin, GoOn}
use Rattle.iox_robust_steps.specs.declared.container.state.MemberSeat.{MemberSeat}
use Rattle.iox_robust_steps.proofs.ContainerKeeps.{look_write}
use Rattle.iox_robust_steps.proofs.ContainerSeats.{member_seat_else, member_seat_here}

look_is : (s : ContainerCall) → is_look s ≡ true → s ≡ stage.Look
look_is stage.Idle h = absurd (cc)
look_is (stage.Enter number owner) h = absurd (cc)
look_is (stage.Fill number owner index next) h = absurd (cc)
look_is (stage.Show number owner index seen) h = absurd (cc)
look_is (stage.Sink owner index mode) h = absurd (cc)
look_is (stage.Hide owner index mode seen) h = absurd (cc)
look_is (stage.Leave owner index mode) h = absurd (cc)
look_is (stage.Drop owner index mode) h = absurd (cc)
look_is (stage.Count c a) h = absurd (cc)
look_is (stage.Raise c a seen) h = absurd (cc)
look_is stage.Look h = refl
look_is (stage.Visit i) h = absurd (cc)
look_is (stage.Gather i seen next) h = absurd (cc)
look_is (stage.Search o j mode) h = absurd (cc)
look_is (stage.Watch o j mode i) h = absurd (cc)
look_is (stage.Ask o j mode i seen) h = absurd (cc)
look_is (stage.Expel o j mode i seen) h = absurd (cc)
look_is (stage.Clear o j mode i) h = absurd (cc)
look_is (stage.Close o j mode) h = absurd (cc)
look_is (stage.Done c a) h = absurd (cc)

over_no_look : (s : ContainerCall) → member_is_over s ≡ true → is_look s ≡ false
over_no_look stage.Idle h = absurd (cc)
over_no_look (stage.Enter number owner) h = absurd (cc)
over_no_look (stage.Fill number owner index next) h = absurd (cc)
over_no_look (stage.Show number owner index seen) h = absurd (cc)
over_no_look (stage.Sink owner index mode) h = absurd (cc)
over_no_look (stage.Hide owner index mode seen) h = absurd (cc)
over_no_look (stage.Leave owner index mode) h = absurd (cc)
over_no_look (stage.Drop owner index mode) h = absurd (cc)
over_no_look (stage.Count c a) h = absurd (cc)
over_no_look (stage.Raise c a seen) h = absurd (cc)
over_no_look stage.Look h = absurd (cc)
over_no_look (stage.Visit i) h = absurd (cc)
over_no_look (stage.Gather i seen next) h = absurd (cc)
over_no_look (stage.Search o j mode) h = absurd (cc)
over_no_look (stage.Watch o j mode i) h = absurd (cc)
over_no_look (stage.Ask o j mode i seen) h = absurd (cc)
over_no_look (stage.Expel o j mode i seen) h = absurd (cc)
over_no_look (stage.Clear o j mode i) h = absurd (cc)
over_no_look (stage.Close o j mode) h = absurd (cc)
over_no_look (stage.Done c a) h = refl

copies : (n i : ℕ) → is_copy (visits_from n i) ≡ true
copies n i = either (nat_lt i n)
  where
    either : (b : Bool) → is_copy (if b then stage.Visit i else stage.Done call.Update (Updated true)) ≡ true
    either true = refl
    either false = refl

-- another seat of one party leaves the others theirs
others_keep : (m n : ContainerParts) (party q : ℕ) (seat : MemberSeat) → n.seats ≡ set m.seats party seat → (q ≡ party → ⊥)
    → KeepsCopy m n q
others_keep m n party q seat is differs =
    let same : member_seat n.seats q ≡ member_seat m.seats q
    = ap (λ (seats : List MemberSeat). member_seat seats q) is ∙ member_seat_else m.seats party q seat differs in
    (ap (λ (s : MemberSeat). s.saw) same, ap (λ (s : MemberSeat). s.since) same)

module _ (m : ContainerParts) (party : ℕ) (within : party < length m.seats) where
  abbrev seat : MemberSeat
  seat = member_seat m.seats party

  abbrev answer : ℕ
  answer = answer_of m.words (member_next m.indices.capacity (width_of m) m.values seat.stage)

  abbrev next : ContainerCall
  next = member_take m.indices.capacity (width_of m) seat.saw (answer_at (stage_at m.indices.seats party))
      (is_clearing (stage_at (asked_at m.indices party seat.stage).seats party)) seat.stage answer

  abbrev fresh : MemberSeat
  fresh = record { stage = next; first = seat.first; saw = answer; since = length m.events }

  abbrev stale : MemberSeat
  stale = record seat { stage = next }

  seat_now : member_seat (member_went m party).seats party ≡ seat_after seat next answer (length m.events)
  seat_now = member_seat_here m.seats party (seat_after seat next answer (length m.events)) within

  seat_is : (b : Bool) → (is_look seat.stage && not (answer == seat.saw)) ≡ b
      → member_seat (member_went m party).seats party ≡ (if b then fresh else stale)
  seat_is b e = seat_now ∙ ap (λ (c : Bool). if c then fresh else stale) e

  keeps_stale : (is_look seat.stage && not (answer == seat.saw)) ≡ false → KeepsCopy m (member_went m party) party
  keeps_stale e = (ap (λ (s : MemberSeat). s.saw) (seat_is false e), ap (λ (s : MemberSeat). s.since) (seat_is false e))

  pub keeps_else : is_look seat.stage ≡ false → KeepsCopy m (member_went m party) party
  keeps_else silent = keeps_stale (ap (λ (b : Bool). b && not (answer == seat.saw)) silent)

  pub looks_for_news : is_look seat.stage ≡ true → LooksForNews m (member_went m party) party
  looks_for_news looking = record {
    news = λ differs.
        let other : (answer == seat.saw) ≡ false = ne_eqb answer seat.saw (λ same. differs (sym found ∙ same)) in
        let new : member_seat (member_went m party).seats party ≡ fresh
        = seat_is true (ap (λ (b : Bool). b && not (answer == seat.saw)) looking ∙ ap not other) in (
          ap (λ (s : MemberSeat). is_copy s.stage) new ∙ ap is_copy (goes false other) ∙ copies m.indices.capacity 0,
          ap (λ (s : MemberSeat). s.saw) new ∙ found,
          ap (λ (s : MemberSeat). s.since) new,
        );
    none = λ same.
        let equal : (answer == seat.saw) ≡ true = eq-eqb answer seat.saw (found ∙ same) in
        let none_new : (is_look seat.stage && not (answer == seat.saw)) ≡ false
        = ap (λ (b : Bool). b && not (answer == seat.saw)) looking ∙ ap not equal in
        (ap (λ (s : MemberSeat). s.stage) (seat_is false none_new) ∙ goes true equal, keeps_stale none_new);
  }
    where
      found : answer ≡ m.words.write
      found = look_write m.indices.capacity (width_of m) m.values m.words seat.stage looking

      goes : (b : Bool) → (answer == seat.saw) ≡ b
          → next ≡ (if b then stage.Done call.Update (Updated false) else visits_from m.indices.capacity 0)
      goes b e = ap (λ (s : ContainerCall). member_take m.indices.capacity (width_of m) seat.saw
          (answer_at (stage_at m.indices.seats party)) (is_clearing (stage_at (asked_at m.indices party seat.stage).seats party)) s answer)
          (look_is seat.stage looking)
          ∙ ap (λ (c : Bool). if c then stage.Done call.Update (Updated false) else visits_from m.indices.capacity 0) e

-- a begin, and the last step of a call, leave each party its last copy
begin_keeps : (m : ContainerParts) (party : ℕ) (c : MemberCall) → member_fits m (Begin party c) ≡ true → (q : ℕ)
    → KeepsCopy m (member_begins m party c) q
begin_keeps m party c fit q = ⊎_elim
    (λ (same : q ≡ party). subst (KeepsCopy m (member_begins m party c)) (sym same)
    (ap (λ (s : MemberSeat). s.saw) here, ap (λ (s : MemberSeat). s.since) here))
    (λ (differs : q ≡ party → ⊥). others_keep m (member_begins m party c) party q
    (record (member_seat m.seats party) { stage = member_begun c; first = length m.events }) refl differs)
    (cases_eq q party)
  where
    here : member_seat (member_begins m party c).seats party
        ≡ record (member_seat m.seats party) { stage = member_begun c; first = length m.events }
    here = member_seat_here m.seats party _ (ltb-true party (length m.seats) (and_parts (nat_lt party (length m.seats)) _ fit).0)

pub member_steps_mind : (m : ContainerParts) (step : MemberMove) (r : Stepped) (n : ContainerParts) → MemberStepsTo m step r n
    → MindsCopies m step r n
member_steps_mind m (Begin party c) stepped.Went n h
    = subst (λ (x : ContainerParts). (q : ℕ) → KeepsCopy m x q) (sym h.2) (begin_keeps m party c h.0)
member_steps_mind m (Begin party c) stepped.Finished n h
    = subst (λ (x : ContainerParts). (q : ℕ) → KeepsCopy m x q) (sym h.2) (begin_keeps m party c h.0)
member_steps_mind m (Begin party c) stepped.Skipped n h
    = subst (λ (x : ContainerParts). (q : ℕ) → KeepsCopy m x q) (sym h.1) (λ q. (refl, refl))
member_steps_mind m (Begin party c) stepped.NoMemory n h
    = subst (λ (x : ContainerParts). (q : ℕ) → KeepsCopy m x q) (sym h.1) (λ q. (refl, refl))
member_steps_mind m (GoOn party) stepped.Went n h =
    let within : party < length m.seats
    = ltb-true party (length m.seats) (and_parts (nat_lt party (length m.seats)) _ h.0).0 in
    subst (MindsCopies m (GoOn party) stepped.Went) (sym h.2) (
      looks_for_news m party within,
      keeps_else m party within,
      λ q differs. others_keep m (member_went m party) party q _ refl differs,
    )
member_steps_mind m (GoOn party) stepped.Finished n h =
    let within : party < length m.seats
    = ltb-true party (length m.seats) (and_parts (nat_lt party (length m.seats)) _ h.0).0 in
    subst (λ (x : ContainerParts). (q : ℕ) → KeepsCopy m x q) (sym h.2) (λ q. ⊎_elim
    (λ (same : q ≡ party). subst (KeepsCopy m (member_went m party)) (sym same)
    (keeps_else m party within (over_no_look (member_stage m.seats party) h.1)))
    (λ (differs : q ≡ party → ⊥). others_keep m (member_went m party) party q _ refl differs)
    (cases_eq q party))
member_steps_mind m (GoOn party) stepped.Skipped n h
    = subst (λ (x : ContainerParts). (q : ℕ) → KeepsCopy m x q) (sym h.1) (λ q. (refl, refl))
member_steps_mind m (GoOn party) stepped.NoMemory n h
    = subst (λ (x : ContainerParts). (q : ℕ) → KeepsCopy m x q) (sym h.1) (λ q. (refl, refl))
