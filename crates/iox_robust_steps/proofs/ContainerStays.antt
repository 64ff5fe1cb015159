-- A member stays in a container until it is removed, after each step.
use Rattle.std.proofs.Common.{◌≡◌, ℕ, ◌+◌, ◌*◌, ◌-◌, ◌%◌, ◌^◌, ◌<◌, ⊎_elim, Bool, true, false, not, if◌then◌else◌, ◌==◌, nat_lt, Ok, Err}
use Rattle.std.proofs.Common.{Option}
use Rattle.std.proofs.Common.{Some, None, List, [], ◌∷◌, ◌++◌, length, set, slice_index, drop, refl, sym, ◌∙◌, ap, subst, arith}
use Rattle.std.proofs.Common.{append_assoc, append-nil}
use Rattle.std.specs.Global.{Vec}
use Rattle.std.proofs.Math.Seq.{take-append_seam}
use Rattle.std.proofs.lemmas.Bool.{cases_eq, eq-eqb, lt-ltb, ltb-true, ne_eqb}
use Rattle.std.proofs.lemmas.List.{take-append-le}
use Rattle.iox_container.specs.declared.release.ReleaseMode.{ReleaseMode}
use Rattle.iox_queues_steps.specs.Access.{RingWords, successor}
use Rattle.iox_queues_steps.specs.declared.access.Access.{Access}
use Rattle.iox_queues_steps.specs.declared.access.Access.TheVariants.{Load, Store}
use Rattle.iox_queues_steps.specs.declared.access.Word.TheVariants.{Cell}
use Rattle.iox_queues.specs.Told.{own}
use Rattle.iox_queues.specs.Values.{table_value}
use Rattle.iox_queues.specs.declared.bits.machine.Event.{Event}
use Rattle.iox_robust_steps.specs.ContainerSteps.{asked_for_place, closed}
use Rattle.iox_robust_steps.specs.ContainerSteps.{dropped, entered, is_shown, member_is_idle, member_is_over, member_next, member_take}
use Rattle.iox_robust_steps.specs.ContainerSteps.{value_cell, visited, visits_from, watches_from}
use Rattle.iox_robust_steps.specs.ContainerMachine.{ContainerParts, empty_words, may_ask, member_ended, member_seat, width_of}
use Rattle.iox_robust_steps.specs.ContainerTold.{AreMembersTold}
use Rattle.iox_robust_steps.specs.ContainerStays.{EachLetsPass, LetsPassSoFar, MayBeStored, Passing}
use Rattle.iox_robust_steps.specs.ContainerStays.{passed_by}
use Rattle.iox_robust_steps.specs.ContainerStays.{passed_in, passed_so_far, passed_with, stored_by}
use Rattle.iox_robust_steps.specs.ContainerKept.{FitsWhose, IsLostOwner, KnowsMember, MembersAreKept, MembersAreSound}
use Rattle.iox_robust_steps.specs.ContainerRecovering.{IsCalmAccess}
use Rattle.iox_robust_steps.specs.Machine.{is_lost, stage_at}
use Rattle.iox_robust_steps.specs.declared.call.Answer.{Answer}
use Rattle.iox_robust_steps.specs.declared.call.Answer.TheVariants.{Acquired, Settled}
use Rattle.iox_robust_steps.specs.declared.call.RobustCall.{RobustCall}
use Rattle.iox_robust_steps.specs.declared.container.call.ContainerCall.{ContainerCall}
use Rattle.iox_robust_steps.specs.declared.container.call.ContainerCall.TheVariants as stage
use Rattle.iox_robust_steps.specs.declared.container.call.MemberAnswer.TheVariants.{Updated}
use Rattle.iox_robust_steps.specs.declared.container.call.MemberCall.TheVariants as call
use Rattle.iox_robust_steps.specs.declared.container.MemberFinished.{MemberFinished}
use Rattle.iox_robust_steps.specs.declared.state.Place.{Place}
use Rattle.iox_robust_steps.specs.declared.state.Place.TheVariants as place
use Rattle.iox_robust_steps.proofs.ContainerWords.{behind_counts, count_else, count_here, counts_stay, exact, next_shown, row_below}
use Rattle.iox_robust_steps.proofs.ContainerWords.{rows_apart}

-- what calls let pass, after one more step
pub passed_more : (n : ℕ) (events : List Event) (e : Event) → passed_in n (events ++ e ∷ []) ≡ passed_in n events ++ passed_by n e.access
passed_more n [] e = append-nil (passed_by n e.access)
passed_more n (x ∷ events) e =
    ap (λ (ps : List Passing). passed_by n x.access ++ ps) (passed_more n events e)
    ∙ sym (append_assoc (passed_by n x.access) (passed_in n events) (passed_by n e.access))

pub each_on : (n width : ℕ) (values : List (Vec ℕ)) (start : RingWords) (events : List Event) (e : Event) (finished : List MemberFinished)
    → AreMembersTold n width values start events finished → EachLetsPass n events finished
    → EachLetsPass n (events ++ e ∷ []) finished
each_on n width values start events e [] told h = tt
each_on n width values start events e (f ∷ finished) told h = (
  subst (λ (es : List Event). passed_in n (own f.party (drop f.first es)) ≡ passed_with f.call f.answer)
      (sym (take-append-le f.last events (e ∷ []) (omega (arith, told.0.1.ended)))) h.0,
  each_on n width values start events e finished told.1 h.1,
)

pub each_append : (n : ℕ) (events : List Event) (xs ys : List MemberFinished) → EachLetsPass n events xs → EachLetsPass n events ys
    → EachLetsPass n events (xs ++ ys)
each_append n events [] ys h g = g
each_append n events (x ∷ xs) ys h g = (h.0, each_append n events xs ys h.1 g)

pub ended_passes : (n party first : ℕ) (events : List Event) (e : Event) (t : ContainerCall)
    → LetsPassSoFar n t (own party (drop first events))
    → EachLetsPass n (events ++ e ∷ []) (member_ended party first (length events) t)
ended_passes n party first events e stage.Idle h = tt
ended_passes n party first events e (stage.Enter number owner) h = tt
ended_passes n party first events e (stage.Fill number owner index next) h = tt
ended_passes n party first events e (stage.Show number owner index seen) h = tt
ended_passes n party first events e (stage.Sink owner index mode) h = tt
ended_passes n party first events e (stage.Hide owner index mode seen) h = tt
ended_passes n party first events e (stage.Leave owner index mode) h = tt
ended_passes n party first events e (stage.Drop owner index mode) h = tt
ended_passes n party first events e (stage.Count c a) h = tt
ended_passes n party first events e (stage.Raise c a seen) h = tt
ended_passes n party first events e stage.Look h = tt
ended_passes n party first events e (stage.Visit i) h = tt
ended_passes n party first events e (stage.Gather i seen next) h = tt
ended_passes n party first events e (stage.Search o j mode) h = tt
ended_passes n party first events e (stage.Watch o j mode i) h = tt
ended_passes n party first events e (stage.Ask o j mode i seen) h = tt
ended_passes n party first events e (stage.Expel o j mode i seen) h = tt
ended_passes n party first events e (stage.Clear o j mode i) h = tt
ended_passes n party first events e (stage.Close o j mode) h = tt
ended_passes n party first events e (stage.Done c a) h = (
  subst (λ (es : List Event). passed_in n (own party (drop first es)) ≡ passed_with c a) (sym (take-append_seam events (e ∷ [])))
      (h refl),
  tt,
)

-- the index of a member stays its party's
pub fits_on : (o : Option ℕ) (count : ℕ) (x y : Place) → ((q : ℕ) → is_shown count ≡ true → x ≡ place.Held q → y ≡ place.Held q)
    → FitsWhose o count x → FitsWhose o count y
fits_on None count x y keeps h = h
fits_on (Some q) count x y keeps h = (h.0, keeps q h.0 h.1)

-- a store of a party
module _ (n width p : ℕ) (cells : List ℕ) (size : length cells ≡ n + (n * width + 1)) (small : length cells < 2 ^ 62)
    (x : ℕ → Place) where
  abbrev stored : ℕ → ℕ → ℕ → ℕ
  stored cell value i = slice_index (set cells (cell % length cells) value) i

  abbrev Stays : ℕ → ℕ → ℕ → Option ℕ → Type 0
  Stays cell value i o = ((cell < n + n * width) × MayBeStored n width i o p cell value)
      × FitsWhose (stored_by i p (Store (Cell cell) value) o) (stored cell value i) (x i)

  -- a store elsewhere leaves who is in
  elsewhere : (cell value i : ℕ) (o : Option ℕ) → (cell ≡ i → ⊥) → stored cell value i ≡ slice_index cells i
      → FitsWhose o (slice_index cells i) (x i) → FitsWhose (stored_by i p (Store (Cell cell) value) o) (stored cell value i) (x i)
  elsewhere cell value i o differs same h =
      subst (λ (b : Bool). FitsWhose (if b then (if is_shown value then Some p else None) else o) (stored cell value i) (x i))
      (sym (ne_eqb cell i differs)) (subst (λ (count : ℕ). FitsWhose o count (x i)) (sym same) h)

  -- a word of a value is stored at a place where no member is in
  module _ (index next value : ℕ) (within : index < n) (low : next < width)
      (hidden : is_shown (slice_index cells index) ≡ false) where
    abbrev cell : ℕ
    cell = value_cell n width index next

    apart : (i : ℕ) → i < n → cell ≡ i → ⊥
    apart i inside same = behind_counts n width cells size small index next i within low inside same

    may_fill : (i : ℕ) → i < n → (o : Option ℕ) → FitsWhose o (slice_index cells i) (x i) → MayBeStored n width i o p cell value
    may_fill i inside None h = λ same. absurd (apart i inside same)
    may_fill i inside (Some q) h = (
      λ same. absurd (apart i inside same),
      λ j low_j same. ⊎_elim
          (λ (at : i ≡ index). let wrong : true ≡ false
          = sym h.0 ∙ ap (λ (l : ℕ). is_shown (slice_index cells l)) at ∙ hidden in cc)
          (λ (differs : i ≡ index → ⊥). rows_apart n width cells size small index next i j within low inside low_j
          (λ at. differs (sym at)) same)
          (cases_eq i index),
    )

    pub fill_stays : (i : ℕ) → i < n → (o : Option ℕ) → FitsWhose o (slice_index cells i) (x i) → Stays cell value i o
    fill_stays i inside o h = (
      (
        omega (arith, exact n width cells size small index next within low, row_below n width cells size small index next within low),
        may_fill i inside o h,
      ),
      elsewhere cell value i o (apart i inside) (counts_stay n width cells size small index next value within low i inside) h,
    )

  -- the count of a place that the party holds goes up by one
  module _ (index seen : ℕ) (within : index < n) (held : x index ≡ place.Held p) (is_seen : seen ≡ slice_index cells index)
      (up : successor seen ≡ seen + 1) where
    turned : (b : Bool) → is_shown (slice_index cells index) ≡ b → is_shown (successor seen) ≡ not b
    turned b h = ap is_shown up ∙ next_shown seen ∙ ap not (ap is_shown is_seen ∙ h)

    abbrev Goes : ℕ → Option ℕ → Type 0
    Goes i o = Stays index (successor seen) i o

    here : stored index (successor seen) index ≡ successor seen
    here = count_here n width cells size small index (successor seen) within

    may_else : (i : ℕ) → i < n → (o : Option ℕ) → (i ≡ index → ⊥) → MayBeStored n width i o p index (successor seen)
    may_else i inside None differs = λ same. absurd (differs (sym same))
    may_else i inside (Some q) differs = (
      λ same. absurd (differs (sym same)),
      λ j low same. behind_counts n width cells size small i j index inside low within (sym same),
    )

    goes_else : (i : ℕ) → i < n → (o : Option ℕ) → (i ≡ index → ⊥) → FitsWhose o (slice_index cells i) (x i) → Goes i o
    goes_else i inside o differs h = (
      (omega (arith, within), may_else i inside o differs),
      elsewhere index (successor seen) i o (λ same. differs (sym same))
          (count_else n width cells size small index (successor seen) within i differs) h,
    )

    pub show_stays : is_shown (slice_index cells index) ≡ false → (i : ℕ) → i < n → (o : Option ℕ)
        → FitsWhose o (slice_index cells i) (x i) → Goes i o
    show_stays hidden i inside o h = ⊎_elim
        (λ (same : i ≡ index). subst (λ (l : ℕ). Goes l o) (sym same)
        (at_index o (subst (λ (l : ℕ). FitsWhose o (slice_index cells l) (x l)) same h)))
        (λ (differs : i ≡ index → ⊥). goes_else i inside o differs h)
        (cases_eq i index)
      where
        at_index : (o : Option ℕ) → FitsWhose o (slice_index cells index) (x index) → Goes index o
        at_index None h = (
          (omega (arith, within), λ same. turned false hidden),
          subst (λ (b : Bool). FitsWhose (if b then (if is_shown (successor seen) then Some p else None) else None)
              (stored index (successor seen) index) (x index)) (sym (eq-eqb index index refl))
              (subst (λ (b : Bool). FitsWhose (if b then Some p else None) (stored index (successor seen) index) (x index))
              (sym (turned false hidden)) (ap is_shown here ∙ turned false hidden, held)),
        )
        at_index (Some q) h = absurd (let wrong : true ≡ false = sym h.0 ∙ hidden in cc)

    pub hide_stays : is_shown (slice_index cells index) ≡ true → (i : ℕ) → i < n → (o : Option ℕ)
        → FitsWhose o (slice_index cells i) (x i) → Goes i o
    hide_stays in_then i inside o h = ⊎_elim
        (λ (same : i ≡ index). subst (λ (l : ℕ). Goes l o) (sym same)
        (at_index o (subst (λ (l : ℕ). FitsWhose o (slice_index cells l) (x l)) same h)))
        (λ (differs : i ≡ index → ⊥). goes_else i inside o differs h)
        (cases_eq i index)
      where
        at_index : (o : Option ℕ) → FitsWhose o (slice_index cells index) (x index) → Goes index o
        at_index None h = absurd (let wrong : true ≡ false = sym in_then ∙ h in cc)
        at_index (Some q) h =
            let both : place.Held p ≡ place.Held q = sym held ∙ h.1 in
            let same_party : p ≡ q = cc in (
              (
                omega (arith, within),
                (
                  λ same. (same_party, turned true in_then),
                  λ j low same. behind_counts n width cells size small index j index within low within (sym same),
                ),
              ),
              subst (λ (b : Bool). FitsWhose (if b then (if is_shown (successor seen) then Some p else None) else Some q)
                  (stored index (successor seen) index) (x index)) (sym (eq-eqb index index refl))
                  (subst (λ (b : Bool). FitsWhose (if b then Some p else None) (stored index (successor seen) index) (x index))
                  (sym (turned true in_then)) (ap is_shown here ∙ turned true in_then)),
            )

-- one step inside a call
module _ (m : ContainerParts) (party : ℕ) (k : MembersAreKept m) (few : length m.events + 1 < 2 ^ 64 - 1)
    (s : MembersAreSound m.indices.capacity m) where
  abbrev n : ℕ
  n = m.indices.capacity

  abbrev width : ℕ
  width = width_of m

  abbrev inner : RobustCall
  inner = stage_at m.indices.seats party

  abbrev access_at : ContainerCall → Access
  access_at t = member_next n width m.values t

  abbrev KnowsOwn : ContainerCall → Type 0
  KnowsOwn t = KnowsMember n width m.values (empty_words n width) m.words.cells m.indices party inner
      (member_seat m.seats party).first m.events (own party (drop (member_seat m.seats party).first m.events)) t

  alive : (owner : ℕ) → not (is_lost owner m.indices.lost) ≡ true → is_lost owner m.indices.lost ≡ false
  alive owner = of (is_lost owner m.indices.lost)
    where
      of : (b : Bool) → not b ≡ true → b ≡ false
      of true h = absurd (cc)
      of false h = refl

  up : (index seen : ℕ) → index < n → seen ≡ slice_index m.words.cells index → successor seen ≡ seen + 1
  up index seen within is = omega (arith, is, s.low index within, few)

  -- what a party's own step lets pass is what its call let pass more
  turns : (index seen : ℕ) (b : Bool) → index < n → seen ≡ slice_index m.words.cells index
      → is_shown (slice_index m.words.cells index) ≡ b → is_shown (successor seen) ≡ not b
  turns index seen b within is h = ap is_shown (up index seen within is) ∙ next_shown seen ∙ ap not (ap is_shown is ∙ h)

  counted_at : (index seen : ℕ) (b : Bool) → index < n → seen ≡ slice_index m.words.cells index
      → is_shown (slice_index m.words.cells index) ≡ b
      → passed_by n (Store (Cell index) (successor seen)) ≡ record { place = index; comes_in = not b } ∷ []
  counted_at index seen b within is h =
      ap (λ (c : Bool). if c then record { place = index; comes_in = is_shown (successor seen) } ∷ [] else []) (lt-ltb index n within)
      ∙ ap (λ (c : Bool). record { place = index; comes_in = c } ∷ []) (turns index seen b within is h)

  abbrev HasPassed : List Passing → ContainerCall → Type 0
  HasPassed ps t = ps ≡ passed_so_far t

  either_passed : (b : Bool) (one other : ContainerCall) (ps : List Passing) → HasPassed ps one → HasPassed ps other
      → HasPassed ps (if b then one else other)
  either_passed true one other ps h g = h
  either_passed false one other ps h g = g

  visits_passed : (i : ℕ) → HasPassed [] (visits_from n i)
  visits_passed i = either_passed (nat_lt i n) (stage.Visit i) (stage.Done call.Update (Updated true)) [] refl refl

  visited_passed : (i count : ℕ) → HasPassed [] (visited n i count)
  visited_passed i count = either_passed (is_shown count) (stage.Gather i count 0) _ [] refl (visits_passed (successor i))

  watches_passed : (owner number : ℕ) (mode : ReleaseMode) (i : ℕ) → HasPassed [] (watches_from n owner number mode i)
  watches_passed owner number mode i = either_passed (nat_lt i n) (stage.Watch owner number mode i) (stage.Close owner number mode) [] refl
      refl

  place_passed : (owner number : ℕ) (mode : ReleaseMode) (i seen : ℕ) (finds : Bool)
      → HasPassed [] (asked_for_place n owner number mode i seen finds)
  place_passed owner number mode i seen finds = either_passed (not finds) _ _ [] (watches_passed owner number mode (successor i))
      (either_passed (is_shown seen) (stage.Expel owner number mode i seen) (stage.Clear owner number mode i) [] refl refl)

  closed_passed : (owner number : ℕ) (mode : ReleaseMode) (got : Option Answer) → HasPassed [] (closed owner number mode got)
  closed_passed owner number mode None = refl
  closed_passed owner number mode (Some (Acquired got)) = refl
  closed_passed owner number mode (Some (Settled state)) = refl

  entered_passed : (number owner : ℕ) (got : Option Answer) → HasPassed [] (entered number owner got)
  entered_passed number owner None = refl
  entered_passed number owner (Some (Acquired (Ok i))) = refl
  entered_passed number owner (Some (Acquired (Err why))) = refl
  entered_passed number owner (Some (Settled state)) = refl

  dropped_passed : (owner index : ℕ) (mode : ReleaseMode) (got : Option Answer)
      → HasPassed (record { place = index; comes_in = false } ∷ []) (dropped owner index mode got)
  dropped_passed owner index mode None = refl
  dropped_passed owner index mode (Some (Acquired got)) = refl
  dropped_passed owner index mode (Some (Settled state)) = refl

  filled_passed : (index next value : ℕ) → index < n → (b : Bool) → nat_lt next width ≡ b
      → passed_by n (if b then Store (Cell (value_cell n width index next)) value else Load (Cell index)) ≡ []
  filled_passed index next value within true e = of (nat_lt (value_cell n width index next) n) refl
    where
      of : (b : Bool) → nat_lt (value_cell n width index next) n ≡ b
          → ◌≡◌ {A = List Passing}
          (if b then record { place = value_cell n width index next; comes_in = is_shown value } ∷ [] else []) []
      of true low = absurd (
          let inside : value_cell n width index next < n = ltb-true (value_cell n width index next) n low in
          omega (arith, inside, exact n width m.words.cells k.size k.small index next within (ltb-true next width e)))
      of false low = refl
  filled_passed index next value within false e = refl

  gathered_passed : (i next : ℕ) (b : Bool)
      → passed_by n (if b then Load (Cell (value_cell n width i next)) else Load (Cell i)) ≡ []
  gathered_passed i next true = refl
  gathered_passed i next false = refl

  module _ (saw : ℕ) (got : Option Answer) (finds : Bool) (answer : ℕ) where
    abbrev next_of : ContainerCall → ContainerCall
    next_of t = member_take n width saw got finds t answer

    pub lets_pass : (t : ContainerCall) → may_ask m.indices party t ≡ true → KnowsOwn t → member_is_over t ≡ false
        → passed_so_far t ++ passed_by n (access_at t) ≡ passed_so_far (next_of t)
    lets_pass stage.Idle fit kn over = absurd (cc)
    lets_pass (stage.Enter number owner) fit kn over = entered_passed number owner got
    lets_pass (stage.Fill number owner index next) fit kn over =
        filled_passed index next (slice_index (table_value m.values number) next) kn.1 (nat_lt next width) refl
        ∙ either_passed (nat_lt next width) (stage.Fill number owner index (next + 1)) (stage.Show number owner index answer) [] refl refl
    lets_pass (stage.Show number owner index seen) fit kn over =
        counted_at index seen false kn.1 (kn.2 (alive owner fit)).2 (kn.2 (alive owner fit)).1
    lets_pass (stage.Sink owner index mode) fit kn over = refl
    lets_pass (stage.Hide owner index mode seen) fit kn over =
        counted_at index seen true kn.1 (kn.2 (alive owner fit)).2 (kn.2 (alive owner fit)).1
    lets_pass (stage.Leave owner index mode) fit kn over = refl
    lets_pass (stage.Drop owner index mode) fit kn over = dropped_passed owner index mode got
    lets_pass (stage.Count c a) fit kn over = append-nil (passed_with c a)
    lets_pass (stage.Raise c a seen) fit kn over = append-nil (passed_with c a)
        ∙ either_passed (answer == seen) (stage.Done c a) (stage.Raise c a answer) (passed_with c a) refl refl
    lets_pass stage.Look fit kn over =
        either_passed (answer == saw) (stage.Done call.Update (Updated false)) _ [] refl (visits_passed 0)
    lets_pass (stage.Visit i) fit kn over = visited_passed i answer
    lets_pass (stage.Gather i seen next) fit kn over =
        gathered_passed i next (nat_lt next width)
        ∙ either_passed (nat_lt next width) (stage.Gather i seen (next + 1)) _ [] refl
        (either_passed (answer == seen) _ _ [] (visits_passed (successor i)) (visited_passed i answer))
    lets_pass (stage.Search o j mode) fit kn over = watches_passed o j mode 0
    lets_pass (stage.Watch o j mode i) fit kn over = refl
    lets_pass (stage.Ask o j mode i seen) fit kn over = place_passed o j mode i seen finds
    lets_pass (stage.Expel o j mode i seen) fit kn over = refl
    lets_pass (stage.Clear o j mode i) fit kn over = watches_passed o j mode (successor i)
    lets_pass (stage.Close o j mode) fit kn over = closed_passed o j mode got
    lets_pass (stage.Done c a) fit kn over = absurd (cc)

    -- a call that is over isn't in hand then
    next_idle : (t : ContainerCall) → member_is_over t ≡ true → member_is_idle (next_of t) ≡ true
    next_idle stage.Idle h = refl
    next_idle (stage.Enter number owner) h = absurd (cc)
    next_idle (stage.Fill number owner index next) h = absurd (cc)
    next_idle (stage.Show number owner index seen) h = absurd (cc)
    next_idle (stage.Sink owner index mode) h = absurd (cc)
    next_idle (stage.Hide owner index mode seen) h = absurd (cc)
    next_idle (stage.Leave owner index mode) h = absurd (cc)
    next_idle (stage.Drop owner index mode) h = absurd (cc)
    next_idle (stage.Count c a) h = absurd (cc)
    next_idle (stage.Raise c a seen) h = absurd (cc)
    next_idle stage.Look h = absurd (cc)
    next_idle (stage.Visit i) h = absurd (cc)
    next_idle (stage.Gather i seen next) h = absurd (cc)
    next_idle (stage.Search o j mode) h = absurd (cc)
    next_idle (stage.Watch o j mode i) h = absurd (cc)
    next_idle (stage.Ask o j mode i seen) h = absurd (cc)
    next_idle (stage.Expel o j mode i seen) h = absurd (cc)
    next_idle (stage.Clear o j mode i) h = absurd (cc)
    next_idle (stage.Close o j mode) h = absurd (cc)
    next_idle (stage.Done c a) h = refl

    busy_at : (t : ContainerCall) → may_ask m.indices party t ≡ true → member_is_idle t ≡ false
    busy_at stage.Idle h = absurd (cc)
    busy_at (stage.Enter number owner) h = refl
    busy_at (stage.Fill number owner index next) h = refl
    busy_at (stage.Show number owner index seen) h = refl
    busy_at (stage.Sink owner index mode) h = refl
    busy_at (stage.Hide owner index mode seen) h = refl
    busy_at (stage.Leave owner index mode) h = refl
    busy_at (stage.Drop owner index mode) h = refl
    busy_at (stage.Count c a) h = refl
    busy_at (stage.Raise c a seen) h = refl
    busy_at stage.Look h = refl
    busy_at (stage.Visit i) h = refl
    busy_at (stage.Gather i seen next) h = refl
    busy_at (stage.Search o j mode) h = refl
    busy_at (stage.Watch o j mode i) h = refl
    busy_at (stage.Ask o j mode i seen) h = refl
    busy_at (stage.Expel o j mode i seen) h = refl
    busy_at (stage.Clear o j mode i) h = refl
    busy_at (stage.Close o j mode) h = refl
    busy_at (stage.Done c a) h = refl

    pub own_passes : (t : ContainerCall) → may_ask m.indices party t ≡ true → KnowsOwn t → (es : List Event) (e : Event)
        → e.access ≡ access_at t → LetsPassSoFar n t es → LetsPassSoFar n (next_of t) (es ++ e ∷ [])
    own_passes t fit kn es e is before = of (member_is_over t) refl
      where
        of : (b : Bool) → member_is_over t ≡ b → LetsPassSoFar n (next_of t) (es ++ e ∷ [])
        of true over = λ going. absurd (let wrong : true ≡ false = sym (next_idle t over) ∙ going in cc)
        of false over = λ going.
            passed_more n es e ∙ ap (λ (ps : List Passing). ps ++ passed_by n e.access) (before (busy_at t fit))
            ∙ ap (λ (a : Access). passed_so_far t ++ passed_by n a) is ∙ lets_pass t fit kn over

  -- where no recovery began
  module _ (none : m.indices.lost ≡ []) where
    nobody : (owner : ℕ) → is_lost owner m.indices.lost ≡ false
    nobody owner = ap (is_lost owner) none

    -- no recovery of the set is in progress
    not_lost : (owner : ℕ) → IsLostOwner m.indices owner → ⊥
    not_lost owner lost = let wrong : true ≡ false = sym lost.1 ∙ nobody owner in cc

    either_calm : (b : Bool) (one other : Access) → IsCalmAccess one → IsCalmAccess other → IsCalmAccess (if b then one else other)
    either_calm true one other h g = h
    either_calm false one other h g = g

    -- a step that exchanges no count
    pub calm_step : (t : ContainerCall) → KnowsOwn t → IsCalmAccess (access_at t)
    calm_step stage.Idle kn = tt
    calm_step (stage.Enter number owner) kn = tt
    calm_step (stage.Fill number owner index next) kn = either_calm (nat_lt next width) (Store (Cell (value_cell n width index next)) _)
        (Load (Cell index)) tt tt
    calm_step (stage.Show number owner index seen) kn = tt
    calm_step (stage.Sink owner index mode) kn = tt
    calm_step (stage.Hide owner index mode seen) kn = tt
    calm_step (stage.Leave owner index mode) kn = tt
    calm_step (stage.Drop owner index mode) kn = tt
    calm_step (stage.Count c a) kn = tt
    calm_step (stage.Raise c a seen) kn = tt
    calm_step stage.Look kn = tt
    calm_step (stage.Visit i) kn = tt
    calm_step (stage.Gather i seen next) kn = either_calm (nat_lt next width) (Load (Cell (value_cell n width i next))) (Load (Cell i))
        tt tt
    calm_step (stage.Search o j mode) kn = tt
    calm_step (stage.Watch o j mode i) kn = tt
    calm_step (stage.Ask o j mode i seen) kn = tt
    calm_step (stage.Expel o j mode i seen) kn = absurd (not_lost o kn.2)
    calm_step (stage.Clear o j mode i) kn = tt
    calm_step (stage.Close o j mode) kn = tt
    calm_step (stage.Done c a) kn = tt
