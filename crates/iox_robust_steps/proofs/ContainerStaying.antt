-- A member stays in a container until it is removed, after each step of a party, whoever is recovered.
use Rattle.std.proofs.Common.{◌≡◌, ℕ, ◌+◌, ◌-◌, ◌^◌, ◌<◌, Bool, true, false, not, if◌then◌else◌, ◌==◌, ◌&&◌, nat_lt, Option}
use Rattle.std.proofs.Common.{Some, None, List, length, slice_index, drop, refl, sym, ◌∙◌, ap, subst, arith}
use Rattle.std.proofs.lemmas.Bool.{eqb-false, eqb-true, ltb-true}
use Rattle.iox_container.specs.declared.release.ReleaseMode.{ReleaseMode}
use Rattle.iox_queues_steps.specs.Access.{after_access, after_store, answer_of, successor, word_of}
use Rattle.iox_queues_steps.specs.declared.access.Access.{Access}
use Rattle.iox_queues_steps.specs.declared.access.Access.TheVariants.{Load, Store, Exchange}
use Rattle.iox_queues_steps.specs.declared.access.Word.TheVariants.{Write, Cell}
use Rattle.iox_queues.specs.Told.{own}
use Rattle.iox_queues.specs.Values.{table_value}
use Rattle.iox_queues.specs.declared.bits.machine.Event.{Event}
use Rattle.iox_robust_steps.specs.ContainerInside.{FindsMember, MayBeMadeSo, inside_by}
use Rattle.iox_robust_steps.specs.ContainerKept.{FitsWhose, IsOf, KnowsMember, MembersAreKept, MembersAreSound}
use Rattle.iox_robust_steps.specs.ContainerRecovering.{is_settling}
use Rattle.iox_robust_steps.specs.ContainerMachine.{ContainerParts, asked_at, empty_words, may_ask, member_seat, width_of}
use Rattle.iox_robust_steps.specs.ContainerSteps.{is_shown, member_next, value_cell}
use Rattle.iox_robust_steps.specs.Kept.{IsConsistent, Knows}
use Rattle.iox_robust_steps.specs.Machine.{HasFewSteps, fits, is_halted, is_lost, place_of, seat_at, stage_at, went}
use Rattle.iox_robust_steps.specs.Steps.{call_in_hand}
use Rattle.iox_robust_steps.specs.declared.call.Call.{Call}
use Rattle.iox_robust_steps.specs.declared.call.Call.TheVariants as set_call
use Rattle.iox_robust_steps.specs.declared.call.RobustCall.{RobustCall}
use Rattle.iox_robust_steps.specs.declared.call.RobustCall.TheVariants as set_stage
use Rattle.iox_robust_steps.specs.declared.container.call.ContainerCall.{ContainerCall}
use Rattle.iox_robust_steps.specs.declared.container.call.ContainerCall.TheVariants as stage
use Rattle.iox_robust_steps.specs.declared.machine.Move.TheVariants.{GoOn}
use Rattle.iox_robust_steps.specs.declared.state.Place.{Place}
use Rattle.iox_robust_steps.specs.declared.state.Place.TheVariants as place
use Rattle.iox_robust_steps.proofs.ContainerLost.{held_stays}
use Rattle.iox_robust_steps.proofs.ContainerRuns.{asks_fit, went_length}
use Rattle.iox_robust_steps.proofs.ContainerSet.{not_halted}
use Rattle.iox_robust_steps.proofs.ContainerStays.{fill_stays, fits_on, hide_stays, show_stays}
use Rattle.iox_robust_steps.proofs.ContainerWords.{count_else, count_here, count_position, next_shown}

module _ (m : ContainerParts) (party : ℕ) (k : MembersAreKept m) (few : length m.events + 1 < 2 ^ 64 - 1)
    (s : MembersAreSound m.indices.capacity m) where
  abbrev n : ℕ
  n = m.indices.capacity

  abbrev width : ℕ
  width = width_of m

  abbrev inner : RobustCall
  inner = stage_at m.indices.seats party

  abbrev access_at : ContainerCall → Access
  access_at t = member_next n width m.values t

  abbrev count : ℕ → ℕ
  count i = slice_index m.words.cells i

  abbrev KnowsOwn : ContainerCall → Type 0
  KnowsOwn t = KnowsMember n width m.values (empty_words n width) m.words.cells m.indices party inner
      (member_seat m.seats party).first m.events (own party (drop (member_seat m.seats party).first m.events)) t

  abbrev Fits : ℕ → Option ℕ → Type 0
  Fits i o = FitsWhose o (count i) (place_of m.indices.places i)

  abbrev Makes : Access → List Place → ℕ → Option ℕ → Type 0
  Makes access places' i o = MayBeMadeSo n width i o party access (answer_of m.words access)
      × FitsWhose (inside_by i party access (answer_of m.words access) o) (slice_index (after_access m.words access).cells i)
      (place_of places' i)

  inner_few : (insists : Bool) → HasFewSteps (went m.indices party insists)
  inner_few insists = omega (arith, went_length m.indices party insists, k.few, few)

  consistent : IsConsistent m.indices
  consistent = k.indices.sound (omega (arith, k.few, few))

  abbrev inner_own : List Event
  inner_own = own party (drop (seat_at m.indices.seats party).first m.indices.events)

  alive : (owner : ℕ) → not (is_lost owner m.indices.lost) ≡ true → is_lost owner m.indices.lost ≡ false
  alive owner = of (is_lost owner m.indices.lost)
    where
      of : (b : Bool) → not b ≡ true → b ≡ false
      of true h = absurd (cc)
      of false h = refl

  up : (index seen : ℕ) → index < n → seen ≡ count index → successor seen ≡ seen + 1
  up index seen within is = omega (arith, is, s.low index within, few)

  either_made : (b : Bool) (one other : Access) (i : ℕ) (o : Option ℕ) → (b ≡ true → Makes one m.indices.places i o)
      → Makes other m.indices.places i o → Makes (if b then one else other) m.indices.places i o
  either_made true one other i o h g = h refl
  either_made false one other i o h g = g

  same_cells_at : (b : Bool) (new i : ℕ) → slice_index (if b then after_store m.words Write new else m.words).cells i ≡ count i
  same_cells_at true new i = refl
  same_cells_at false new i = refl

  -- the set frees no index at which a member is in
  abbrev ReleasesNone : ℕ → Type 0
  ReleasesNone i = is_shown (count i) ≡ true → (owner j : ℕ) (mode : ReleaseMode) → inner ≡ set_stage.Free owner j mode → i ≡ j → ⊥

  abbrev RecoversNone : ℕ → Type 0
  RecoversNone i = is_shown (count i) ≡ true → (owner number : ℕ) (mode : ReleaseMode) (j seen : ℕ)
      → inner ≡ set_stage.Clear owner number mode j seen → slice_index m.indices.words.cells j ≡ seen → i ≡ j → ⊥

  -- the set makes a step
  asks : (insists : Bool) (fit : fits m.indices (GoOn party) ≡ true) (i : ℕ) (o : Option ℕ) → Fits i o → ReleasesNone i → RecoversNone i
      → FitsWhose o (count i) (place_of (went m.indices party insists).places i)
  asks insists fit i o h releases recovers =
      fits_on o (count i) (place_of m.indices.places i) (place_of (went m.indices party insists).places i)
      (λ q shown is. held_stays n party m.indices.words m.indices.places m.indices.lost k.indices.cells inner_own
      consistent.whole.cells q i is inner (not_halted m.indices party insists fit k.indices (inner_few insists)) (consistent.knows party)
      (releases shown) (recovers shown)) h

  -- a call on the set that is another one
  no_release : (c : Call) → call_in_hand inner ≡ Some c → ((owner j : ℕ) (mode : ReleaseMode) → c ≡ set_call.Release owner j mode → ⊥)
      → (i : ℕ) → ReleasesNone i
  no_release c is other i = λ shown owner j mode same at. other owner j mode
      (let both : Some c ≡ Some (set_call.Release owner j mode) = sym is ∙ ap call_in_hand same in cc)

  no_recovery : (c : Call) → call_in_hand inner ≡ Some c
      → ((owner number : ℕ) (mode : ReleaseMode) → c ≡ set_call.Recover owner number mode → ⊥) → (i : ℕ) → RecoversNone i
  no_recovery c is other i = λ shown owner number mode j seen same found at. other owner number mode
      (let both : Some c ≡ Some (set_call.Recover owner number mode) = sym is ∙ ap call_in_hand same in cc)

  -- a release frees the index of its own member, which is out
  releases_own : fits m.indices (GoOn party) ≡ true → (owner index : ℕ) (mode : ReleaseMode)
      → call_in_hand inner ≡ Some (set_call.Release owner index mode)
      → (place_of m.indices.places index ≡ place.Held party → is_shown (count index) ≡ false) → (i : ℕ) → ReleasesNone i
  releases_own fit owner index mode is out i = λ shown other j mode' same at.
      let both : Some (set_call.Release owner index mode) ≡ Some (set_call.Release other j mode') = sym is ∙ ap call_in_hand same in
      let index_is : index ≡ j = cc in
      let known : Knows n m.indices.words m.indices.places m.indices.lost party inner_own (set_stage.Free other j mode')
      = subst (λ (t : RobustCall). Knows n m.indices.words m.indices.places m.indices.lost party inner_own t) same
      (consistent.knows party) in
      let live : is_lost other m.indices.lost ≡ false
      = sym (ap (λ (t : RobustCall). is_halted m.indices.lost t) same)
      ∙ not_halted m.indices party false fit k.indices (inner_few false) in
      let held : place_of m.indices.places index ≡ place.Held party
      = ap (place_of m.indices.places) index_is ∙ (known.3 live).0 in
      let wrong : true ≡ false = sym shown ∙ ap (λ (l : ℕ). is_shown (count l)) (at ∙ sym index_is) ∙ out held in cc

  -- a recovery takes a member out
  module _ (owner number : ℕ) (mode : ReleaseMode) (j seen : ℕ) (kn : KnowsOwn (stage.Expel owner number mode j seen)) (i : ℕ)
      (inside : i < n) where
    abbrev exchange : Access
    exchange = Exchange (Cell j) seen (successor seen)

    found : word_of m.words (Cell j) ≡ count j
    found = ap (λ (l : ℕ). count l) (count_position n width m.words.cells k.size k.small j kn.1)

    up_seen : successor seen ≡ seen + 1
    up_seen = omega (arith, kn.4, s.low j kn.1, few)

    hidden : is_shown (successor seen) ≡ false
    hidden = ap is_shown up_seen ∙ next_shown seen ∙ ap not kn.6

    finds : (o : Option ℕ) → Fits i o → FindsMember i o j seen (word_of m.words (Cell j))
    finds None h = λ same won.
        let wrong : true ≡ false = sym kn.6 ∙ ap is_shown (sym won ∙ found ∙ ap (λ (l : ℕ). count l) same) ∙ h in cc
    finds (Some q) h = tt

    after : (o : Option ℕ) → Fits i o → (b : Bool) → (word_of m.words (Cell j) == seen) ≡ b
        → FitsWhose (if (j == i) && b then None else o)
        (slice_index (if b then after_store m.words (Cell j) (successor seen) else m.words).cells i) (place_of m.indices.places i)
    after o h true e = at (j == i) refl
      where
        at : (c : Bool) → (j == i) ≡ c → FitsWhose (if c && true then None else o)
            (slice_index (after_store m.words (Cell j) (successor seen)).cells i) (place_of m.indices.places i)
        at true same = ap (λ (l : ℕ). is_shown (slice_index (after_store m.words (Cell j) (successor seen)).cells l))
            (sym (eqb-true j i same))
            ∙ ap is_shown (count_here n width m.words.cells k.size k.small j (successor seen) kn.1) ∙ hidden
        at false other = subst (λ (c : ℕ). FitsWhose o c (place_of m.indices.places i))
            (sym (count_else n width m.words.cells k.size k.small j (successor seen) kn.1 i (λ equal. eqb-false j i other (sym equal)))) h
    after o h false e = at (j == i)
      where
        at : (c : Bool) → FitsWhose (if c && false then None else o) (count i) (place_of m.indices.places i)
        at true = h
        at false = h

    expels : (o : Option ℕ) → Fits i o → Makes exchange m.indices.places i o
    expels o h = ((kn.1, kn.6, hidden, finds o h), after o h (word_of m.words (Cell j) == seen) refl)

  pub goes : (t : ContainerCall) → may_ask m.indices party t ≡ true → KnowsOwn t → (i : ℕ) → i < n → (o : Option ℕ) → Fits i o
      → Makes (access_at t) (asked_at m.indices party t).places i o
  goes stage.Idle fit kn i inside o h = absurd (cc)
  goes (stage.Enter number owner) fit kn i inside o h = (
    tt,
    asks false fit i o h (no_release (set_call.Acquire owner) kn.2 (λ other j mode same. cc) i)
        (no_recovery (set_call.Acquire owner) kn.2 (λ other j mode same. cc) i),
  )
  goes (stage.Fill number owner index next) fit kn i inside o h = either_made (nat_lt next width)
      (Store (Cell (value_cell n width index next)) (slice_index (table_value m.values number) next)) (Load (Cell index)) i o
      (λ e. fill_stays n width party m.words.cells k.size k.small (place_of m.indices.places) index next
      (slice_index (table_value m.values number) next) kn.1 (ltb-true next width e) (kn.3 (alive owner fit)).1 i inside o h) (tt, h)
  goes (stage.Show number owner index seen) fit kn i inside o h =
      let known : _ × _ × (seen ≡ count index) × _ = kn.2 (alive owner fit) in
      show_stays n width party m.words.cells k.size k.small (place_of m.indices.places) index seen kn.1 known.0.0 known.2
      (up index seen kn.1 known.2) known.1 i inside o h
  goes (stage.Sink owner index mode) fit kn i inside o h = (tt, h)
  goes (stage.Hide owner index mode seen) fit kn i inside o h =
      let known : _ × _ × (seen ≡ count index) = kn.2 (alive owner fit) in
      hide_stays n width party m.words.cells k.size k.small (place_of m.indices.places) index seen kn.1 known.0.0 known.2
      (up index seen kn.1 known.2) known.1 i inside o h
  goes (stage.Leave owner index mode) fit kn i inside o h = (tt, h)
  goes (stage.Drop owner index mode) fit kn i inside o h = (
    tt,
    asks false fit i o h (releases_own fit owner index mode kn.4 kn.3 i)
        (no_recovery (set_call.Release owner index mode) kn.4 (λ other j mode same. cc) i),
  )
  goes (stage.Count c a) fit kn i inside o h = (tt, h)
  goes (stage.Raise c a seen) fit kn i inside o h = (
    tt,
    subst (λ (count : ℕ). FitsWhose o count (place_of m.indices.places i))
        (sym (same_cells_at (word_of m.words Write == seen) (successor seen) i)) h,
  )
  goes stage.Look fit kn i inside o h = (tt, h)
  goes (stage.Visit j) fit kn i inside o h = (tt, h)
  goes (stage.Gather j seen next) fit kn i inside o h = either_made (nat_lt next width)
      (Load (Cell (value_cell n width j next))) (Load (Cell j)) i o (λ e. (tt, h)) (tt, h)
  goes (stage.Search owner number mode) fit kn i inside o h = (tt, h)
  goes (stage.Watch owner number mode j) fit kn i inside o h = (tt, h)
  goes (stage.Ask owner number mode j seen) fit kn i inside o h = (
    tt,
    asks (not (is_shown seen)) (asks_fit m party k (is_shown seen) fit).0 i o h (no_release (set_call.Recover owner number mode)
        (ap call_in_hand kn.3) (λ other l mode same. cc) i)
        (λ shown other number' mode' l found same is at.
        let wrong : set_stage.Look owner number mode j ≡ set_stage.Clear other number' mode' l found = sym kn.3 ∙ same in cc),
  )
  goes (stage.Expel owner number mode j seen) fit kn i inside o h = expels owner number mode j seen kn i inside o h
  goes (stage.Clear owner number mode j) fit kn i inside o h = (
    tt,
    asks false fit i o h (no_release (set_call.Recover owner number mode) (ap call_in_hand kn.3.1) (λ other l mode same. cc) i)
        (λ shown other number' mode' l found same is at.
        let both : set_stage.Clear owner number mode j kn.3.0 ≡ set_stage.Clear other number' mode' l found = sym kn.3.1 ∙ same in
        let place_is : j ≡ l = cc in
        let found_is : kn.3.0 ≡ found = cc in
        let owned : slice_index m.indices.words.cells j ≡ kn.3.0
        = ap (λ (r : ℕ). slice_index m.indices.words.cells r) place_is ∙ is ∙ sym found_is in
        let wrong : true ≡ false = sym shown ∙ ap (λ (r : ℕ). is_shown (count r)) (at ∙ sym place_is)
        ∙ kn.4 (subst (IsOf owner) (sym owned) kn.3.2) in cc),
  )
  goes (stage.Close owner number mode) fit kn i inside o h = (
    tt,
    asks false fit i o h (no_release (set_call.Recover owner number mode) kn.2 (λ other l mode same. cc) i)
        (λ shown other number' mode' l found same is at. let wrong : true ≡ false = sym kn.3 ∙ ap is_settling same in cc),
  )
  goes (stage.Done c a) fit kn i inside o h = (tt, h)
