-- After a recovery its owner has no index without a member, unless a recovery removed the member meanwhile.
use Rattle.std.proofs.Common.{◌≡◌, ℕ, ◌+◌, ◌-◌, ◌^◌, ◌<◌, ◌≤◌, ◌⊎◌, inl, inr, ⊎_elim, Bool, true, false, not, if◌then◌else◌, ◌==◌, ◌&&◌}
use Rattle.std.proofs.Common.{◌%◌, Ok, Err, ◌||◌, nat_lt, Option, Some, None, List, [], ◌∷◌, ◌++◌, length, set, slice_index, drop, refl}
use Rattle.std.proofs.Common.{sym, ◌∙◌, ap}
use Rattle.std.proofs.Common.{subst, arith, mod-eq_of_lt}
use Rattle.std.proofs.Math.Seq.{get_or-set_same}
use Rattle.std.proofs.lemmas.Bool.{and_parts, cases_eq, eq-eqb, eqb-false, ltb-false, ltb-true, or_left, or_right}
use Rattle.std.proofs.lemmas.List.{drop-append-le}
use Rattle.iox_container.specs.declared.release.ReleaseMode.{ReleaseMode}
use Rattle.std.specs.Global.{Vec}
use Rattle.iox_robust_steps.specs.ContainerTold.{AreMembersTold}
use Rattle.iox_queues_steps.specs.Access.{RingWords, after_access, after_store, answer_of, successor, word_of}
use Rattle.iox_queues_steps.specs.declared.access.Access.{Access}
use Rattle.iox_queues_steps.specs.declared.access.Access.TheVariants.{Load, Store}
use Rattle.iox_queues_steps.specs.declared.access.Word.TheVariants.{Write, Cell}
use Rattle.iox_queues.specs.Told.{own}
use Rattle.iox_queues.specs.Values.{table_value}
use Rattle.iox_queues.specs.declared.bits.machine.Event.{Event}
use Rattle.iox_robust_steps.specs.ContainerKept.{HasShown, HaveShown, HoldsFor, IsLostOwner, IsOf, KnowsMember, LeaveShown, LeavesShown}
use Rattle.iox_robust_steps.specs.ContainerKept.{MembersAreKept, MembersAreSound, ShownSoFar}
use Rattle.iox_robust_steps.specs.ContainerMachine.{ContainerParts, asked_at, empty_words, may_ask, member_ended, member_seat, width_of}
use Rattle.iox_robust_steps.specs.ContainerMoments.{IsExpelledIn, expels}
use Rattle.iox_robust_steps.specs.ContainerSteps.{asked_for_place, closed, dropped, entered, is_clearing, is_shown, member_next}
use Rattle.iox_robust_steps.specs.ContainerSteps.{member_take}
use Rattle.iox_robust_steps.specs.ContainerSteps.{value_cell, visited, visits_from, watches_from}
use Rattle.iox_robust_steps.specs.Changes.{is_owner}
use Rattle.iox_robust_steps.specs.Kept.{FreesSoFar, IsConsistent}
use Rattle.iox_robust_steps.specs.Machine.{CellFits, RobustSetState, begun, is_lost, may_begin, stage_at, went}
use Rattle.iox_robust_steps.specs.Steps.{call_is_idle, call_next, call_take, decided, is_freed, is_seen_of, looks_from, reserved}
use Rattle.iox_robust_steps.specs.declared.call.Answer.{Answer}
use Rattle.iox_robust_steps.specs.declared.call.Answer.TheVariants.{Acquired, Settled}
use Rattle.iox_robust_steps.specs.declared.call.Call.TheVariants as set_call
use Rattle.iox_robust_steps.specs.declared.call.RobustCall.TheVariants as set_stage
use Rattle.iox_robust_steps.specs.declared.state.Seat.{Seat}
use Rattle.iox_robust_steps.specs.declared.container.call.MemberAnswer.TheVariants.{Updated}
use Rattle.iox_robust_steps.specs.declared.call.RobustCall.{RobustCall}
use Rattle.iox_robust_steps.specs.declared.container.call.ContainerCall.{ContainerCall}
use Rattle.iox_robust_steps.specs.declared.container.call.ContainerCall.TheVariants as stage
use Rattle.iox_robust_steps.specs.declared.container.call.MemberCall.{MemberCall}
use Rattle.iox_robust_steps.specs.declared.container.call.MemberCall.TheVariants as call
use Rattle.iox_robust_steps.specs.declared.container.MemberFinished.{MemberFinished}
use Rattle.iox_robust_steps.specs.declared.state.Place.{Place}
use Rattle.iox_robust_steps.specs.declared.state.Place.TheVariants as place
use Rattle.iox_robust_steps.proofs.ContainerAsking.{looks_clear}
use Rattle.iox_robust_steps.proofs.ContainerRuns.{asks_fit}
use Rattle.iox_robust_steps.proofs.ContainerWords.{count_else, count_position, counts_stay}
use Rattle.iox_robust_steps.proofs.Runs.{lost_now, owner_named}
use Rattle.iox_robust_steps.proofs.Seats.{seat_here}

-- a member that some steps take out
expelled_first : (i : ℕ) (xs ys : List Event) → IsExpelledIn i xs → IsExpelledIn i (xs ++ ys)
expelled_first i [] ys h = absurd h
expelled_first i (x ∷ xs) ys (inl h) = inl h
expelled_first i (x ∷ xs) ys (inr h) = inr (expelled_first i xs ys h)

expelled_last : (i : ℕ) (xs : List Event) (e : Event) → expels i e.access e.answer ≡ true → IsExpelledIn i (xs ++ e ∷ [])
expelled_last i [] e h = inl h
expelled_last i (x ∷ xs) e h = inr (expelled_last i xs e h)

-- one step: an index of a lost owner was its own before, and its count stays, or the step takes its member out
abbrev pub KeepsLost : RobustSetState → RobustSetState → List ℕ → List ℕ → Event → Type 0
KeepsLost indices indices' cells cells' e = (o i : ℕ) → i < indices.capacity → IsLostOwner indices o
    → IsOf o (slice_index indices'.words.cells i)
    → IsOf o (slice_index indices.words.cells i)
    × ((slice_index cells' i ≡ slice_index cells i) ⊎ (expels i e.access e.answer ≡ true))

-- the place of a recovery is one of the n
abbrev pub KnowsIn : ℕ → ContainerCall → Type 0
KnowsIn n stage.Idle = Unit {0}
KnowsIn n (stage.Enter number owner) = Unit {0}
KnowsIn n (stage.Fill number owner index next) = Unit {0}
KnowsIn n (stage.Show number owner index seen) = Unit {0}
KnowsIn n (stage.Sink owner index mode) = Unit {0}
KnowsIn n (stage.Hide owner index mode seen) = Unit {0}
KnowsIn n (stage.Leave owner index mode) = Unit {0}
KnowsIn n (stage.Drop owner index mode) = Unit {0}
KnowsIn n (stage.Count c answer) = Unit {0}
KnowsIn n (stage.Raise c answer seen) = Unit {0}
KnowsIn n stage.Look = Unit {0}
KnowsIn n (stage.Visit i) = Unit {0}
KnowsIn n (stage.Gather i seen next) = Unit {0}
KnowsIn n (stage.Search owner number mode) = Unit {0}
KnowsIn n (stage.Watch owner number mode i) = i < n
KnowsIn n (stage.Ask owner number mode i seen) = i < n
KnowsIn n (stage.Expel owner number mode i seen) = i < n
KnowsIn n (stage.Clear owner number mode i) = i < n
KnowsIn n (stage.Close owner number mode) = Unit {0}
KnowsIn n (stage.Done c answer) = Unit {0}

-- each of these calls began among n steps
abbrev pub AreBegun : ℕ → List MemberFinished → Type 0
AreBegun many [] = Unit {0}
AreBegun many (f ∷ finished) = (f.first ≤ many) × AreBegun many finished

module _ (indices indices' : RobustSetState) (cells cells' : List ℕ) (events : List Event) (e : Event)
    (keeps : KeepsLost indices indices' cells cells' e) (same : indices'.capacity ≡ indices.capacity)
    (gone : (o : ℕ) → is_lost o indices.lost ≡ true → is_lost o indices'.lost ≡ true) where
  has_on : (first owner i : ℕ) → first ≤ length events → i < indices.capacity → IsLostOwner indices owner
      → HasShown indices cells first events owner i → HasShown indices' cells' first (events ++ e ∷ []) owner i
  has_on first owner i began within lost h its =
      let old : IsOf owner (slice_index indices.words.cells i)
      × ((slice_index cells' i ≡ slice_index cells i) ⊎ (expels i e.access e.answer ≡ true)) = keeps owner i within lost its in
      ⊎_elim
      (λ (is : is_shown (slice_index cells i) ≡ true). ⊎_elim
      (λ (still : slice_index cells' i ≡ slice_index cells i). inl (ap is_shown still ∙ is))
      (λ (out : expels i e.access e.answer ≡ true). inr (subst (IsExpelledIn i) (sym (drop-append-le first events (e ∷ []) began))
      (expelled_last i (drop first events) e out)))
      old.1)
      (λ (out : IsExpelledIn i (drop first events)). inr (subst (IsExpelledIn i) (sym (drop-append-le first events (e ∷ []) began))
      (expelled_first i (drop first events) (e ∷ []) out)))
      (h old.0)

  have_on : (first owner m : ℕ) → first ≤ length events → m ≤ indices.capacity → HaveShown indices cells first events owner m
      → HaveShown indices' cells' first (events ++ e ∷ []) owner m
  have_on first owner m began low h = (
    (h.0.0, gone owner h.0.1),
    λ i below. has_on first owner i began (omega (arith, below, low)) h.0 (h.1 i below),
  )

  leaves_on : (first : ℕ) → first ≤ length events → (c : MemberCall) → LeavesShown indices cells first events c
      → LeavesShown indices' cells' first (events ++ e ∷ []) c
  leaves_on first began (call.Add number owner) h = tt
  leaves_on first began (call.Remove owner index mode) h = tt
  leaves_on first began call.Update h = tt
  leaves_on first began (call.Recover owner number mode) h =
      subst (HaveShown indices' cells' first (events ++ e ∷ []) owner) (sym same)
      (have_on first owner indices.capacity began (omega arith) h)

  pub shown_on : (first : ℕ) → first ≤ length events → (t : ContainerCall) → KnowsIn indices.capacity t
      → ShownSoFar indices cells first events t
      → ShownSoFar indices' cells' first (events ++ e ∷ []) t
  shown_on first began stage.Idle low h = tt
  shown_on first began (stage.Enter number owner) low h = tt
  shown_on first began (stage.Fill number owner index next) low h = tt
  shown_on first began (stage.Show number owner index seen) low h = tt
  shown_on first began (stage.Sink owner index mode) low h = tt
  shown_on first began (stage.Hide owner index mode seen) low h = tt
  shown_on first began (stage.Leave owner index mode) low h = tt
  shown_on first began (stage.Drop owner index mode) low h = tt
  shown_on first began (stage.Count c a) low h = leaves_on first began c h
  shown_on first began (stage.Raise c a seen) low h = leaves_on first began c h
  shown_on first began stage.Look low h = tt
  shown_on first began (stage.Visit i) low h = tt
  shown_on first began (stage.Gather i seen next) low h = tt
  shown_on first began (stage.Search owner number mode) low h = tt
  shown_on first began (stage.Watch owner number mode i) low h = have_on first owner i began (omega (arith, low)) h
  shown_on first began (stage.Ask owner number mode i seen) low h = (
    have_on first owner i began (omega (arith, low)) h.0,
    λ in_then. has_on first owner i began low h.0.0 (h.1 in_then),
  )
  shown_on first began (stage.Expel owner number mode i seen) low h = have_on first owner i began (omega (arith, low)) h
  shown_on first began (stage.Clear owner number mode i) low h = have_on first owner i began (omega (arith, low)) h
  shown_on first began (stage.Close owner number mode) low h =
      subst (HaveShown indices' cells' first (events ++ e ∷ []) owner) (sym same)
      (have_on first owner indices.capacity began (omega arith) h)
  shown_on first began (stage.Done c a) low h = leaves_on first began c h

  pub showed_on : (finished : List MemberFinished) → AreBegun (length events) finished → LeaveShown indices cells events finished
      → LeaveShown indices' cells' (events ++ e ∷ []) finished
  showed_on [] began h = tt
  showed_on (f ∷ finished) began h = (leaves_on f.first began.0 f.call h.0, showed_on finished began.1 h.1)

pub all_begun : (n width : ℕ) (values : List (Vec ℕ)) (start : RingWords) (events : List Event) (finished : List MemberFinished)
    → AreMembersTold n width values start events finished → AreBegun (length events) finished
all_begun n width values start events [] told = tt
all_begun n width values start events (f ∷ finished) told =
    (omega (arith, told.0.1.begun, told.0.1.ended), all_begun n width values start events finished told.1)

pub showed_append : (indices : RobustSetState) (cells : List ℕ) (events : List Event) (xs ys : List MemberFinished)
    → LeaveShown indices cells events xs → LeaveShown indices cells events ys → LeaveShown indices cells events (xs ++ ys)
showed_append indices cells events [] ys h g = g
showed_append indices cells events (x ∷ xs) ys h g = (h.0, showed_append indices cells events xs ys h.1 g)

pub showed_ended : (indices : RobustSetState) (cells : List ℕ) (events : List Event) (party first last : ℕ) (t : ContainerCall)
    → ShownSoFar indices cells first events t → LeaveShown indices cells events (member_ended party first last t)
showed_ended indices cells events party first last stage.Idle h = tt
showed_ended indices cells events party first last (stage.Enter number owner) h = tt
showed_ended indices cells events party first last (stage.Fill number owner index next) h = tt
showed_ended indices cells events party first last (stage.Show number owner index seen) h = tt
showed_ended indices cells events party first last (stage.Sink owner index mode) h = tt
showed_ended indices cells events party first last (stage.Hide owner index mode seen) h = tt
showed_ended indices cells events party first last (stage.Leave owner index mode) h = tt
showed_ended indices cells events party first last (stage.Drop owner index mode) h = tt
showed_ended indices cells events party first last (stage.Count c a) h = tt
showed_ended indices cells events party first last (stage.Raise c a seen) h = tt
showed_ended indices cells events party first last stage.Look h = tt
showed_ended indices cells events party first last (stage.Visit i) h = tt
showed_ended indices cells events party first last (stage.Gather i seen next) h = tt
showed_ended indices cells events party first last (stage.Search o j mode) h = tt
showed_ended indices cells events party first last (stage.Watch o j mode i) h = tt
showed_ended indices cells events party first last (stage.Ask o j mode i seen) h = tt
showed_ended indices cells events party first last (stage.Expel o j mode i seen) h = tt
showed_ended indices cells events party first last (stage.Clear o j mode i) h = tt
showed_ended indices cells events party first last (stage.Close o j mode) h = tt
showed_ended indices cells events party first last (stage.Done c a) h = (h, tt)

-- one step inside a call
module _ (m : ContainerParts) (party : ℕ) (k : MembersAreKept m) (few : length m.events + 1 < 2 ^ 64 - 1)
    (s : MembersAreSound m.indices.capacity m) where
  abbrev n : ℕ
  n = m.indices.capacity

  abbrev width : ℕ
  width = width_of m

  abbrev inner : RobustCall
  inner = stage_at m.indices.seats party

  abbrev access_at : ContainerCall → Access
  access_at t = member_next n width m.values t

  abbrev count : ℕ → ℕ
  count i = slice_index m.words.cells i

  abbrev KnowsOwn : ContainerCall → Type 0
  KnowsOwn t = KnowsMember n width m.values (empty_words n width) m.words.cells m.indices party inner
      (member_seat m.seats party).first m.events (own party (drop (member_seat m.seats party).first m.events)) t

  consistent : IsConsistent m.indices
  consistent = k.indices.sound (omega (arith, k.few, few))

  alive : (owner : ℕ) → not (is_lost owner m.indices.lost) ≡ true → is_lost owner m.indices.lost ≡ false
  alive owner = of (is_lost owner m.indices.lost)
    where
      of : (b : Bool) → not b ≡ true → b ≡ false
      of true h = absurd (cc)
      of false h = refl

  abbrev Stays : Access → ℕ → Type 0
  Stays access j = (slice_index (after_access m.words access).cells j ≡ count j)
      ⊎ (expels j access (answer_of m.words access) ≡ true)

  either_stays : (b : Bool) (one other : Access) (j : ℕ) → (b ≡ true → Stays one j) → Stays other j
      → Stays (if b then one else other) j
  either_stays true one other j h g = h refl
  either_stays false one other j h g = g

  -- the index of a party that acts for an owner that isn't lost is no lost owner's
  other_place : (owner index o j : ℕ) → index < n → is_lost owner m.indices.lost ≡ false → HoldsFor m.indices party owner index
      → IsLostOwner m.indices o → IsOf o (slice_index m.indices.words.cells j) → j ≡ index → ⊥
  other_place owner index o j within live holds lost its same =
      of (subst (λ (l : ℕ). IsOf o (slice_index m.indices.words.cells l)) same its)
    where
      fits : CellFits (place.Held party) (slice_index m.indices.words.cells index)
      fits = subst (λ (x : Place). CellFits x (slice_index m.indices.words.cells index)) holds.0 (consistent.whole.cells index within)

      of : IsOf o (slice_index m.indices.words.cells index) → ⊥
      of (inl is) = let wrong : true ≡ false
          = sym lost.1 ∙ ap (λ (l : ℕ). is_lost l m.indices.lost) (sym is ∙ holds.1) ∙ live in cc
      of (inr is) = omega (arith, is, lost.0.0, fits.1)

  raised_stays : (b : Bool) (v j : ℕ) → slice_index (if b then after_store m.words Write v else m.words).cells j ≡ count j
  raised_stays true v j = refl
  raised_stays false v j = refl

  expelled_stays : (i seen j : ℕ) → i < n → (b : Bool) → (word_of m.words (Cell i) == seen) ≡ b
      → (slice_index (if b then after_store m.words (Cell i) (successor seen) else m.words).cells j ≡ count j)
      ⊎ (((i == j) && (word_of m.words (Cell i) == seen)) ≡ true)
  expelled_stays i seen j within true e = ⊎_elim
      (λ (same : j ≡ i). inr (ap (λ (b : Bool). b && (word_of m.words (Cell i) == seen)) (eq-eqb i j (sym same)) ∙ e))
      (λ (differs : j ≡ i → ⊥). inl (count_else n width m.words.cells k.size k.small i (successor seen) within j differs))
      (cases_eq j i)
  expelled_stays i seen j within false e = inl refl

  pub count_stays : (t : ContainerCall) → may_ask m.indices party t ≡ true → KnowsOwn t → (o j : ℕ) → j < n → IsLostOwner m.indices o
      → IsOf o (slice_index m.indices.words.cells j) → Stays (access_at t) j
  count_stays stage.Idle fit kn o j inside lost its = absurd (cc)
  count_stays (stage.Enter number owner) fit kn o j inside lost its = inl refl
  count_stays (stage.Fill number owner index next) fit kn o j inside lost its = either_stays (nat_lt next width)
      (Store (Cell (value_cell n width index next)) (slice_index (table_value m.values number) next)) (Load (Cell index)) j
      (λ e. inl (counts_stay n width m.words.cells k.size k.small index next (slice_index (table_value m.values number) next) kn.1
      (ltb-true next width e) j inside)) (inl refl)
  count_stays (stage.Show number owner index seen) fit kn o j inside lost its = inl
      (count_else n width m.words.cells k.size k.small index (successor seen) kn.1 j
      (other_place owner index o j kn.1 (alive owner fit) (kn.2 (alive owner fit)).0 lost its))
  count_stays (stage.Sink owner index mode) fit kn o j inside lost its = inl refl
  count_stays (stage.Hide owner index mode seen) fit kn o j inside lost its = inl
      (count_else n width m.words.cells k.size k.small index (successor seen) kn.1 j
      (other_place owner index o j kn.1 (alive owner fit) (kn.2 (alive owner fit)).0 lost its))
  count_stays (stage.Leave owner index mode) fit kn o j inside lost its = inl refl
  count_stays (stage.Drop owner index mode) fit kn o j inside lost its = inl refl
  count_stays (stage.Count c a) fit kn o j inside lost its = inl refl
  count_stays (stage.Raise c a seen) fit kn o j inside lost its = inl (raised_stays (word_of m.words Write == seen) (successor seen) j)
  count_stays stage.Look fit kn o j inside lost its = inl refl
  count_stays (stage.Visit i) fit kn o j inside lost its = inl refl
  count_stays (stage.Gather i seen next) fit kn o j inside lost its = either_stays (nat_lt next width)
      (Load (Cell (value_cell n width i next))) (Load (Cell i)) j (λ e. inl refl) (inl refl)
  count_stays (stage.Search owner number mode) fit kn o j inside lost its = inl refl
  count_stays (stage.Watch owner number mode i) fit kn o j inside lost its = inl refl
  count_stays (stage.Ask owner number mode i seen) fit kn o j inside lost its = inl refl
  count_stays (stage.Expel owner number mode i seen) fit kn o j inside lost its =
      expelled_stays i seen j kn.1 (word_of m.words (Cell i) == seen) refl
  count_stays (stage.Clear owner number mode i) fit kn o j inside lost its = inl refl
  count_stays (stage.Close owner number mode) fit kn o j inside lost its = inl refl
  count_stays (stage.Done c a) fit kn o j inside lost its = inl refl

  pub knows_in : (t : ContainerCall) → KnowsOwn t → KnowsIn n t
  knows_in stage.Idle kn = tt
  knows_in (stage.Enter number owner) kn = tt
  knows_in (stage.Fill number owner index next) kn = tt
  knows_in (stage.Show number owner index seen) kn = tt
  knows_in (stage.Sink owner index mode) kn = tt
  knows_in (stage.Hide owner index mode seen) kn = tt
  knows_in (stage.Leave owner index mode) kn = tt
  knows_in (stage.Drop owner index mode) kn = tt
  knows_in (stage.Count c a) kn = tt
  knows_in (stage.Raise c a seen) kn = tt
  knows_in stage.Look kn = tt
  knows_in (stage.Visit i) kn = tt
  knows_in (stage.Gather i seen next) kn = tt
  knows_in (stage.Search owner number mode) kn = tt
  knows_in (stage.Watch owner number mode i) kn = kn.1
  knows_in (stage.Ask owner number mode i seen) kn = kn.1
  knows_in (stage.Expel owner number mode i seen) kn = kn.1
  knows_in (stage.Clear owner number mode i) kn = kn.1
  knows_in (stage.Close owner number mode) kn = tt
  knows_in (stage.Done c a) kn = tt

  -- after the step
  module _ (t : ContainerCall) (saw : ℕ) (got : Option Answer) (same : (asked_at m.indices party t).capacity ≡ n) where
    abbrev x : RobustSetState
    x = asked_at m.indices party t

    abbrev answer : ℕ
    answer = answer_of m.words (access_at t)

    abbrev first : ℕ
    first = (member_seat m.seats party).first

    abbrev cells' : List ℕ
    cells' = (after_access m.words (access_at t)).cells

    abbrev events' : List Event
    events' = m.events ++ record { party = party; access = access_at t; answer = answer } ∷ []

    abbrev So : RobustSetState → ContainerCall → Type 0
    So y u = ShownSoFar y cells' first events' u

    either_so : (y : RobustSetState) (b : Bool) (one other : ContainerCall) → So y one → So y other → So y (if b then one else other)
    either_so y true one other h g = h
    either_so y false one other h g = g

    -- a recovery goes on to a place, if one is left
    watches_so : (y : RobustSetState) (owner number : ℕ) (mode : ReleaseMode) (i : ℕ) → y.capacity ≡ n
        → HaveShown y cells' first events' owner i → So y (watches_from n owner number mode i)
    watches_so y owner number mode i size h = of (nat_lt i n) refl
      where
        of : (b : Bool) → nat_lt i n ≡ b → So y (if b then stage.Watch owner number mode i else stage.Close owner number mode)
        of true e = h
        of false e = (h.0, λ j below. h.1 j (omega (arith, below, size, ltb-false i n e)))

    -- one more place
    one_more : (y : RobustSetState) (owner i : ℕ) → i < n → HaveShown y cells' first events' owner i
        → HasShown y cells' first events' owner i → HaveShown y cells' first events' owner (successor i)
    one_more y owner i within h here = (
      h.0,
      λ j below. ⊎_elim
          (λ (at : j ≡ i). subst (HasShown y cells' first events' owner) (sym at) here)
          (λ (differs : j ≡ i → ⊥). h.1 j (omega (arith, below, within, k.size, k.small, differs)))
          (cases_eq j i),
    )

    visits_so : (i : ℕ) → So x (visits_from n i)
    visits_so i = either_so x (nat_lt i n) (stage.Visit i) (stage.Done call.Update (Updated true)) tt tt

    visited_so : (i c : ℕ) → So x (visited n i c)
    visited_so i c = either_so x (is_shown c) (stage.Gather i c 0) _ tt (visits_so (successor i))

    entered_so : (number owner : ℕ) (got : Option Answer) → So x (entered number owner got)
    entered_so number owner None = tt
    entered_so number owner (Some (Acquired (Ok i))) = tt
    entered_so number owner (Some (Acquired (Err why))) = tt
    entered_so number owner (Some (Settled state)) = tt

    dropped_so : (owner index : ℕ) (mode : ReleaseMode) (got : Option Answer) → So x (dropped owner index mode got)
    dropped_so owner index mode None = tt
    dropped_so owner index mode (Some (Acquired got)) = tt
    dropped_so owner index mode (Some (Settled state)) = tt

    closed_so : (owner number : ℕ) (mode : ReleaseMode) (got : Option Answer) → So x (stage.Close owner number mode)
        → So x (closed owner number mode got)
    closed_so owner number mode None h = h
    closed_so owner number mode (Some (Acquired got)) h = h
    closed_so owner number mode (Some (Settled state)) h = h

  -- the set looked whose the index of a place is
  module _ (owner number : ℕ) (mode : ReleaseMode) (i seen : ℕ) (saw : ℕ) (got : Option Answer)
      (fit : may_ask m.indices party (stage.Ask owner number mode i seen) ≡ true)
      (kn : KnowsOwn (stage.Ask owner number mode i seen)) where
    abbrev ask : ContainerCall
    ask = stage.Ask owner number mode i seen

    abbrev insists : Bool
    insists = not (is_shown seen)

    abbrev found : ℕ
    found = answer_of m.indices.words (call_next inner)

    abbrev freed : Bool
    freed = is_freed m.indices.decisions insists owner number i found

    found_is : found ≡ slice_index m.indices.words.cells i
    found_is = ap (λ (u : RobustCall). answer_of m.indices.words (call_next u)) kn.3
        ∙ ap (λ (l : ℕ). slice_index m.indices.words.cells l) (mod-eq_of_lt (omega (arith, kn.1, k.indices.cells)))

    finds_is : is_clearing (stage_at (went m.indices party insists).seats party) ≡ freed
    finds_is = ap (λ (seat : Seat). is_clearing seat.stage) (seat_here m.indices.seats party _
        (ltb-true party (length m.indices.seats) (and_parts (nat_lt party (length m.indices.seats)) _
        (asks_fit m party k (is_shown seen) fit).0).0))
        ∙ ap (λ (u : RobustCall). is_clearing (call_take n m.indices.decisions insists u found)) kn.3 ∙ of freed
      where
        of : (b : Bool) → is_clearing (if b then set_stage.Clear owner number mode i found
            else looks_from n owner number mode (successor i)) ≡ b
        of true = refl
        of false = looks_clear n owner number mode (successor i)

    same_cells_then : (went m.indices party insists).words ≡ m.indices.words
    same_cells_then = ap (λ (u : RobustCall). after_access m.indices.words (call_next u)) kn.3

    -- where the index is the owner's and isn't freed, a member was seen
    saw_member : freed ≡ false → IsOf owner (slice_index (went m.indices party insists).words.cells i) → is_shown seen ≡ true
    saw_member kept its = shown_if (is_shown seen) refl
      where
        its_found : IsOf owner found
        its_found = subst (IsOf owner) (ap (λ (w : RingWords). slice_index w.cells i) same_cells_then ∙ sym found_is) its

        seen_of : is_seen_of owner found ≡ true
        seen_of = of its_found
          where
            of : IsOf owner found → is_seen_of owner found ≡ true
            of (inl h) = or_left (found == owner) (found == reserved owner) (eq-eqb found owner h)
            of (inr h) = or_right (found == owner) (found == reserved owner) (eq-eqb found (reserved owner) h)

        shown_if : (b : Bool) → is_shown seen ≡ b → is_shown seen ≡ true
        shown_if true e = e
        shown_if false e = absurd (
            let yes : freed ≡ true
            = ap (λ (b : Bool). b && (insists || decided m.indices.decisions number i)) seen_of
            ∙ ap (λ (b : Bool). not b || decided m.indices.decisions number i) e in
            let wrong : true ≡ false = sym yes ∙ kept in cc)

    pub ask_so : So ask saw got refl (went m.indices party insists) ask
        → So ask saw got refl (went m.indices party insists)
        (asked_for_place n owner number mode i seen (is_clearing (stage_at (went m.indices party insists).seats party)))
    ask_so h = subst (λ (b : Bool). So ask saw got refl (went m.indices party insists) (asked_for_place n owner number mode i seen b))
        (sym finds_is) (of freed refl)
      where
        of : (b : Bool) → freed ≡ b → So ask saw got refl (went m.indices party insists) (asked_for_place n owner number mode i seen b)
        of true e = either_so ask saw got refl (went m.indices party insists) (is_shown seen) (stage.Expel owner number mode i seen)
            (stage.Clear owner number mode i) h.0 h.0
        of false e = watches_so ask saw got refl (went m.indices party insists) owner number mode (successor i) refl
            (one_more ask saw got refl (went m.indices party insists) owner i kn.1 h.0
            (λ its. h.1 (saw_member e its) its))

  -- the set freed an index
  module _ (owner number : ℕ) (mode : ReleaseMode) (i : ℕ) (saw : ℕ) (got : Option Answer)
      (kn : KnowsOwn (stage.Clear owner number mode i)) where
    abbrev clear : ContainerCall
    clear = stage.Clear owner number mode i

    gone_then : IsOf owner (slice_index (went m.indices party false).words.cells i) → ⊥
    gone_then its = of (word_of m.indices.words (Cell i) == kn.3.0) refl
        (subst (λ (u : RobustCall). IsOf owner (slice_index (after_access m.indices.words (call_next u)).cells i)) kn.3.1 its)
      where
        position : i % length m.indices.words.cells ≡ i
        position = mod-eq_of_lt (omega (arith, kn.1, k.indices.cells))

        frees : FreesSoFar n m.indices.decisions m.indices.lost m.indices.words.cells (set_stage.Clear owner number mode i kn.3.0)
        frees = subst (FreesSoFar n m.indices.decisions m.indices.lost m.indices.words.cells) kn.3.1 (consistent.frees party)

        none : IsOf owner 0 → ⊥
        none (inl h) = omega (arith, h, kn.2.0.0)
        none (inr h) = omega (arith, h, kn.2.0.0)

        not_of : (slice_index m.indices.words.cells i ≡ owner → ⊥) × (slice_index m.indices.words.cells i ≡ reserved owner → ⊥)
            → IsOf owner (slice_index m.indices.words.cells i) → ⊥
        not_of h (inl is) = h.0 is
        not_of h (inr is) = h.1 is

        of : (b : Bool) → (word_of m.indices.words (Cell i) == kn.3.0) ≡ b
            → IsOf owner (slice_index (if b then after_store m.indices.words (Cell i) 0 else m.indices.words).cells i) → ⊥
        of true e is = none (subst (IsOf owner) (ap (λ (l : ℕ). slice_index (set m.indices.words.cells l 0) i) position
            ∙ get_or-set_same m.indices.words.cells i 0 0 (omega (arith, kn.1, k.indices.cells))) is)
        of false e is = ⊎_elim
            (λ (same : slice_index m.indices.words.cells i ≡ kn.3.0). eqb-false (word_of m.indices.words (Cell i)) kn.3.0 e
            (ap (λ (l : ℕ). slice_index m.indices.words.cells l) position ∙ same))
            (λ (other : (slice_index m.indices.words.cells i ≡ owner → ⊥) × (slice_index m.indices.words.cells i ≡ reserved owner → ⊥)).
            not_of other is)
            frees.1

    pub clear_so : So clear saw got refl (went m.indices party false) clear
        → So clear saw got refl (went m.indices party false) (watches_from n owner number mode (successor i))
    clear_so h = watches_so clear saw got refl (went m.indices party false) owner number mode (successor i) refl
        (one_more clear saw got refl (went m.indices party false) owner i kn.1 h (λ its. absurd (gone_then its)))

  -- a recovery begins
  module _ (owner number : ℕ) (mode : ReleaseMode) (saw : ℕ) (got : Option Answer)
      (fit : may_ask m.indices party (stage.Search owner number mode) ≡ true) where
    search_so : So (stage.Search owner number mode) saw got refl (begun m.indices party (set_call.Recover owner number mode))
        (watches_from n owner number mode 0)
    search_so = watches_so (stage.Search owner number mode) saw got refl (begun m.indices party (set_call.Recover owner number mode)) owner
        number mode 0 refl (
          (
            owner_named m.indices party (set_call.Recover owner number mode) fit k.indices owner may,
            lost_now m.indices party (set_call.Recover owner number mode) fit k.indices owner m.indices.lost,
          ),
          λ j below. absurd (omega (arith, below)),
        )
      where
        parts : (nat_lt party (length m.indices.seats) ≡ true) × ((call_is_idle (stage_at m.indices.seats party)
            && may_begin m.indices party (set_call.Recover owner number mode)) ≡ true)
        parts = and_parts (nat_lt party (length m.indices.seats)) _ fit

        may : is_owner owner ≡ true
        may = (and_parts (call_is_idle (stage_at m.indices.seats party)) (is_owner owner) parts.1).1

  pub shown_next : (t : ContainerCall) (saw : ℕ) (got : Option Answer) (same : (asked_at m.indices party t).capacity ≡ n)
      → may_ask m.indices party t ≡ true → KnowsOwn t → So t saw got same (asked_at m.indices party t) t
      → So t saw got same (asked_at m.indices party t) (member_take n width saw got
      (is_clearing (stage_at (asked_at m.indices party t).seats party)) t (answer_of m.words (access_at t)))
  shown_next stage.Idle saw got same fit kn h = absurd (cc)
  shown_next (stage.Enter number owner) saw got same fit kn h = entered_so (stage.Enter number owner) saw got same number owner got
  shown_next (stage.Fill number owner index next) saw got same fit kn h = either_so (stage.Fill number owner index next) saw got same
      m.indices (nat_lt next width) (stage.Fill number owner index (next + 1)) (stage.Show number owner index _) tt tt
  shown_next (stage.Show number owner index seen) saw got same fit kn h = tt
  shown_next (stage.Sink owner index mode) saw got same fit kn h = tt
  shown_next (stage.Hide owner index mode seen) saw got same fit kn h = tt
  shown_next (stage.Leave owner index mode) saw got same fit kn h = tt
  shown_next (stage.Drop owner index mode) saw got same fit kn h = dropped_so
      (stage.Drop owner index mode) saw got same owner index mode got
  shown_next (stage.Count c a) saw got same fit kn h = h
  shown_next (stage.Raise c a seen) saw got same fit kn h = either_so (stage.Raise c a seen) saw got same m.indices
      (word_of m.words Write == seen) (stage.Done c a) (stage.Raise c a _) h h
  shown_next stage.Look saw got same fit kn h = either_so stage.Look saw got same m.indices (m.words.write == saw)
      (stage.Done call.Update (Updated false)) _ tt (visits_so stage.Look saw got same 0)
  shown_next (stage.Visit i) saw got same fit kn h = visited_so (stage.Visit i) saw got same i _
  shown_next (stage.Gather i seen next) saw got same fit kn h = either_so (stage.Gather i seen next) saw got same m.indices
      (nat_lt next width) (stage.Gather i seen (next + 1)) _ tt
      (either_so (stage.Gather i seen next) saw got same m.indices (_ == seen) _ _
      (visits_so (stage.Gather i seen next) saw got same (successor i)) (visited_so (stage.Gather i seen next) saw got same i _))
  shown_next (stage.Search owner number mode) saw got same fit kn h = search_so owner number mode saw got fit
  shown_next (stage.Watch owner number mode i) saw got same fit kn h = (
    h,
    λ in_then its. inl (ap (λ (l : ℕ). is_shown (slice_index m.words.cells l))
        (sym (count_position n width m.words.cells k.size k.small i kn.1)) ∙ in_then),
  )
  shown_next (stage.Ask owner number mode i seen) saw got same fit kn h = ask_so owner number mode i seen saw got fit kn h
  shown_next (stage.Expel owner number mode i seen) saw got same fit kn h = h
  shown_next (stage.Clear owner number mode i) saw got same fit kn h = clear_so owner number mode i saw got kn h
  shown_next (stage.Close owner number mode) saw got same fit kn h =
      closed_so (stage.Close owner number mode) saw got same owner number mode got h
  shown_next (stage.Done c a) saw got same fit kn h = tt
