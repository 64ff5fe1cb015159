-- Every step of a container's machine keeps what the machine keeps.
use Rattle.std.proofs.Common.{◌≡◌, ℕ, ◌+◌, ◌-◌, ◌^◌, ◌<◌, ◌≤◌, Bool, true, false, not, if◌then◌else◌, ◌==◌}
use Rattle.std.proofs.Common.{nat_lt, List, [], ◌∷◌, ◌++◌, length, set, take, drop, refl, sym, ◌∙◌, ap, subst, arith}
use Rattle.std.proofs.Common.{length-append}
use Rattle.std.specs.Global.{Vec}
use Rattle.std.proofs.Math.Seq.{take-append_seam}
use Rattle.std.proofs.lemmas.Bool.{and_parts}
use Rattle.std.proofs.lemmas.List.{take-append-le}
use Rattle.iox_container.specs.declared.release.ReleaseMode.{ReleaseMode}
use Rattle.iox_queues_steps.specs.Access.{RingWords, after_access, answer_of, word_of}
use Rattle.iox_queues_steps.specs.declared.access.Access.{Access}
use Rattle.iox_queues_steps.specs.declared.access.Access.TheVariants.{Load, Store, Exchange, Local}
use Rattle.iox_queues_steps.specs.declared.access.Word.TheVariants.{Write, Read, Cell}
use Rattle.iox_queues.specs.Moments.{words_after}
use Rattle.iox_queues.specs.Recorded.{Answered}
use Rattle.iox_queues.specs.Told.{own}
use Rattle.iox_queues.specs.declared.bits.machine.Event.{Event}
use Rattle.iox_robust_steps.specs.ContainerSteps.{answer_at, is_clearing, is_shown, member_next, member_take}
use Rattle.iox_robust_steps.specs.ContainerMachine.{ContainerParts, HasFewMoves, asked_at, empty_words}
use Rattle.iox_robust_steps.specs.ContainerMachine.{may_ask, member_ended}
use Rattle.iox_robust_steps.specs.ContainerMachine.{member_seat, width_of}
use Rattle.iox_robust_steps.specs.ContainerTold.{AreMembersTold, MemberTells, counted_by, times_counted}
use Rattle.iox_robust_steps.specs.ContainerKept.{KnowsMember, MembersAreKept, MembersAreSound}
use Rattle.iox_robust_steps.specs.Kept.{IsConsistent, IsKept}
use Rattle.iox_robust_steps.specs.Machine.{HasFewSteps, RobustSetState, begun, is_lost, stage_at, went}
use Rattle.iox_robust_steps.specs.Machine as robust
use Rattle.iox_robust_steps.specs.declared.call.Call.TheVariants as set_call
use Rattle.iox_robust_steps.specs.declared.call.RobustCall.{RobustCall}
use Rattle.iox_robust_steps.specs.declared.container.call.ContainerCall.{ContainerCall}
use Rattle.iox_robust_steps.specs.declared.container.call.ContainerCall.TheVariants as stage
use Rattle.iox_robust_steps.specs.declared.container.MemberFinished.{MemberFinished}
use Rattle.iox_robust_steps.specs.declared.container.state.MemberSeat.{MemberSeat}
use Rattle.iox_robust_steps.specs.declared.machine.Move.TheVariants as set_move
use Rattle.iox_robust_steps.specs.declared.state.Seat.{Seat}
use Rattle.iox_robust_steps.proofs.ContainerAsking.{ask_made, clear_made, close_made, drop_made, enter_made, leave_made, search_made}
use Rattle.iox_robust_steps.proofs.ContainerGoing.{MemberMade, count_made, expel_made, fill_made, gather_made, hide_made, look_made}
use Rattle.iox_robust_steps.proofs.ContainerGoing.{quiet, raise_made, show_made, sink_made, visit_made, watch_made}
use Rattle.iox_robust_steps.proofs.Knowing.{lost_before}
use Rattle.iox_robust_steps.proofs.Runs.{begun_keeps, went_keeps}
use Rattle.iox_robust_steps.proofs.Seats.{seat_else}

-- each step of the set is one event more
pub went_length : (i : RobustSetState) (p : ℕ) (insists : Bool) → length (went i p insists).events ≡ length i.events + 1
went_length i p insists = length-append i.events (_ ∷ [])

-- the words are those that the steps left
pub answered_after : (words end : RingWords) (events : List Event) → Answered words events end → end ≡ words_after words events
answered_after words end [] h = h
answered_after words end (x ∷ events) h = answered_after (after_access words x.access) end events h.1

-- what was told stays told
pub told_on : (n width : ℕ) (values : List (Vec ℕ)) (start : RingWords) (events : List Event) (e : Event) (finished : List MemberFinished)
    → AreMembersTold n width values start events finished → AreMembersTold n width values start (events ++ e ∷ []) finished
told_on n width values start events e [] h = tt
told_on n width values start events e (f ∷ finished) h = (
  (
    subst (λ (es : List Event). MemberTells n width values start 1 f.party f.first es (own f.party (drop f.first es)) f.call f.answer)
        (sym (take-append-le f.last events (e ∷ []) (omega (arith, h.0.1.ended)))) h.0.0,
    record { begun = h.0.1.begun; ended = omega (arith, h.0.1.ended, length-append events (e ∷ [])) },
  ),
  told_on n width values start events e finished h.1,
)

pub told_append : (n width : ℕ) (values : List (Vec ℕ)) (start : RingWords) (events : List Event) (xs ys : List MemberFinished)
    → AreMembersTold n width values start events xs → AreMembersTold n width values start events ys
    → AreMembersTold n width values start events (xs ++ ys)
told_append n width values start events [] ys h g = g
told_append n width values start events (x ∷ xs) ys h g = (h.0, told_append n width values start events xs ys h.1 g)

module _ (n width : ℕ) (values : List (Vec ℕ)) (start : RingWords) (cells : List ℕ) (indices : RobustSetState)
    (party first : ℕ)
    (events : List Event) (e : Event) (s : RobustCall) (began : first ≤ length events) where
  pub ended_told : (t : ContainerCall)
      → KnowsMember n width values start cells indices party s first events (own party (drop first events)) t
      → AreMembersTold n width values start (events ++ e ∷ []) (member_ended party first (length events) t)
  ended_told stage.Idle k = tt
  ended_told (stage.Enter number owner) k = tt
  ended_told (stage.Fill number owner index next) k = tt
  ended_told (stage.Show number owner index seen) k = tt
  ended_told (stage.Sink owner index mode) k = tt
  ended_told (stage.Hide owner index mode seen) k = tt
  ended_told (stage.Leave owner index mode) k = tt
  ended_told (stage.Drop owner index mode) k = tt
  ended_told (stage.Count c answer) k = tt
  ended_told (stage.Raise c answer seen) k = tt
  ended_told stage.Look k = tt
  ended_told (stage.Visit i) k = tt
  ended_told (stage.Gather i seen next) k = tt
  ended_told (stage.Search o j mode) k = tt
  ended_told (stage.Watch o j mode i) k = tt
  ended_told (stage.Ask o j mode i seen) k = tt
  ended_told (stage.Expel o j mode i seen) k = tt
  ended_told (stage.Clear o j mode i) k = tt
  ended_told (stage.Close o j mode) k = tt
  ended_told (stage.Done c answer) k = (
    (
      subst (λ (es : List Event). MemberTells n width values start 1 party first es (own party (drop first es)) c answer)
          (sym (take-append_seam events (e ∷ []))) k.0,
      record { begun = began; ended = omega (arith, length-append events (e ∷ [])) },
    ),
    tt,
  )

-- the set of indices after a party went on: its own invariant, how many steps it made, and how it stands for others
module _ (m : ContainerParts) (party : ℕ) (k : MembersAreKept m) where
  -- what stays of the set when it is asked
  pub record SetStays (i : RobustSetState) : Type 0 where
    pub kept : IsKept i
    pub same_size : i.capacity ≡ m.indices.capacity
    pub grew : i.lost ≡ [] → m.indices.lost ≡ []
    pub alive : (o : ℕ) → is_lost o i.lost ≡ false → is_lost o m.indices.lost ≡ false
    pub steps : length i.events ≤ length m.indices.events + 1
    pub others : (q : ℕ) → (party ≡ q → ⊥) → stage_at i.seats q ≡ stage_at m.indices.seats q

  pub stays : SetStays m.indices
  stays = record { kept = k.indices; same_size = refl; grew = λ h. h; alive = λ o h. h; steps = omega arith; others = λ q differs. refl }

  stage_else : (q : ℕ) (seat : Seat) → (party ≡ q → ⊥) → stage_at (set m.indices.seats party seat) q ≡ stage_at m.indices.seats q
  stage_else q seat differs = ap (λ (s : Seat). s.stage) (seat_else m.indices.seats party q seat (λ same. differs (sym same)))

  goes_on : (insists : Bool) → robust.fits m.indices (set_move.GoOn party) ≡ true → (insists ≡ true → m.indices.may_insist ≡ true)
      → SetStays (went m.indices party insists)
  goes_on insists fit allowed = record {
    kept = went_keeps m.indices party insists fit k.indices allowed;
    same_size = refl;
    grew = λ h. h;
    alive = λ o h. h;
    steps = omega (arith, went_length m.indices party insists);
    others = λ q differs. stage_else q _ differs;
  }

  pub acquires : (owner : ℕ) → robust.fits m.indices (set_move.Begin party (set_call.Acquire owner)) ≡ true
      → SetStays (begun m.indices party (set_call.Acquire owner))
  acquires owner fit = record {
    kept = begun_keeps m.indices party (set_call.Acquire owner) fit k.indices;
    same_size = refl;
    grew = λ h. h;
    alive = λ o h. h;
    steps = omega (arith, length-append m.indices.events (record { party = party; access = Local; answer = 0 } ∷ []));
    others = λ q differs. stage_else q _ differs;
  }

  releases : (owner index : ℕ) (mode : ReleaseMode) → robust.fits m.indices (set_move.Begin party (set_call.Release owner index mode))
      ≡ true
      → SetStays (begun m.indices party (set_call.Release owner index mode))
  releases owner index mode fit = record {
    kept = begun_keeps m.indices party (set_call.Release owner index mode) fit k.indices;
    same_size = refl;
    grew = λ h. h;
    alive = λ o h. h;
    steps = omega (arith, length-append m.indices.events (record { party = party; access = Local; answer = 0 } ∷ []));
    others = λ q differs. stage_else q _ differs;
  }

  recovers : (owner number : ℕ) (mode : ReleaseMode) → robust.fits m.indices (set_move.Begin party (set_call.Recover owner number mode))
      ≡ true
      → SetStays (begun m.indices party (set_call.Recover owner number mode))
  recovers owner number mode fit = record {
    kept = begun_keeps m.indices party (set_call.Recover owner number mode) fit k.indices;
    same_size = refl;
    grew = λ h. absurd (omega (arith, ap (λ (os : List ℕ). length os) h, length-append m.indices.lost (owner ∷ [])));
    alive = λ o h. lost_before o owner m.indices.lost h;
    steps = omega (arith, length-append m.indices.events (record { party = party; access = Local; answer = 0 } ∷ []));
    others = λ q differs. stage_else q _ differs;
  }

  never : false ≡ true → m.indices.may_insist ≡ true
  never h = absurd (cc)

  -- where the set is asked with this step, it makes one, and insists only where it may
  pub asks_fit : (b : Bool) → robust.fits m.indices (if b then set_move.GoOn party else set_move.Insist party) ≡ true
      → (robust.fits m.indices (set_move.GoOn party) ≡ true) × (not b ≡ true → m.indices.may_insist ≡ true)
  asks_fit true fit = (fit, never)
  asks_fit false fit =
      let both : (m.indices.may_insist ≡ true) × (robust.fits m.indices (set_move.GoOn party) ≡ true)
      = and_parts m.indices.may_insist (robust.fits m.indices (set_move.GoOn party)) fit in (both.1, λ h. both.0)

  pub asked : (t : ContainerCall) → may_ask m.indices party t ≡ true → SetStays (asked_at m.indices party t)
  asked stage.Idle fit = absurd (cc)
  asked (stage.Enter number owner) fit = goes_on false fit never
  asked (stage.Fill number owner index next) fit = stays
  asked (stage.Show number owner index seen) fit = stays
  asked (stage.Sink owner index mode) fit = stays
  asked (stage.Hide owner index mode seen) fit = stays
  asked (stage.Leave owner index mode) fit = releases owner index mode fit
  asked (stage.Drop owner index mode) fit = goes_on false fit never
  asked (stage.Count c answer) fit = stays
  asked (stage.Raise c answer seen) fit = stays
  asked stage.Look fit = stays
  asked (stage.Visit i) fit = stays
  asked (stage.Gather i seen next) fit = stays
  asked (stage.Search o j mode) fit = recovers o j mode fit
  asked (stage.Watch o j mode i) fit = stays
  asked (stage.Ask o j mode i seen) fit =
      let both : _ × _ = asks_fit (is_shown seen) fit in goes_on (not (is_shown seen)) both.0 both.1
  asked (stage.Expel o j mode i seen) fit = stays
  asked (stage.Clear o j mode i) fit = goes_on false fit never
  asked (stage.Close o j mode) fit = goes_on false fit never
  asked (stage.Done c answer) fit = stays

-- one step inside a call
module _ (m : ContainerParts) (party : ℕ) (k : MembersAreKept m) (few : length m.events + 1 < 2 ^ 64 - 1)
    (s : MembersAreSound m.indices.capacity m) where
  abbrev n : ℕ
  n = m.indices.capacity

  abbrev width : ℕ
  width = width_of m

  abbrev start : RingWords
  start = empty_words n width

  abbrev seat : MemberSeat
  seat = member_seat m.seats party

  abbrev mine : List Event
  mine = own party (drop seat.first m.events)

  abbrev inner : RobustCall
  inner = stage_at m.indices.seats party

  abbrev answer : ContainerCall → ℕ
  answer t = answer_of m.words (member_next n width m.values t)

  abbrev step : ContainerCall → Event
  step t = record { party = party; access = member_next n width m.values t; answer = answer t }

  now : m.words ≡ words_after start m.events
  now = answered_after start m.words m.events k.recorded.answered

  few_counted : (events : List Event) → times_counted events ≤ length events
  few_counted [] = omega arith
  few_counted (e ∷ events) = omega (arith, few_counted events, at_most_one e)
    where
      at_most_one : (e : Event) → counted_by e.access e.answer ≤ 1
      at_most_one e = of e.access
        where
          if_one : (b : Bool) → ◌≤◌ (if b then 1 else 0) 1
          if_one true = omega arith
          if_one false = omega arith

          of : (access : Access) → counted_by access e.answer ≤ 1
          of (Load word) = omega arith
          of (Store word value) = omega arith
          of (Exchange Write old new) = if_one (e.answer == old)
          of (Exchange Read old new) = omega arith
          of (Exchange (Cell cell) old new) = omega arith
          of Local = omega arith

  write_low : m.words.write ≤ length m.events
  write_low = omega (arith, s.write, few_counted m.events)

  fewer : HasFewMoves m
  fewer = omega (arith, few)

  inner_few : (insists : Bool) → HasFewSteps (went m.indices party insists)
  inner_few insists = omega (arith, went_length m.indices party insists, k.few, few)

  consistent : IsConsistent m.indices
  consistent = k.indices.sound (omega (arith, k.few, few))

  abbrev Makes : ContainerCall → Type 0
  Makes t = MemberMade n width party m.values start m.words (after_access m.words (member_next n width m.values t)) m.indices
      (asked_at m.indices party t) (stage_at (asked_at m.indices party t).seats party) seat.first m.events mine (step t)
      (member_take n width seat.saw (answer_at inner) (is_clearing (stage_at (asked_at m.indices party t).seats party)) t (answer t))

  abbrev KnowsOwn : ContainerCall → Type 0
  KnowsOwn t = KnowsMember n width m.values start m.words.cells m.indices party inner seat.first m.events mine t

  -- an owner for which a step is made isn't lost
  alive : (owner : ℕ) → not (is_lost owner m.indices.lost) ≡ true → is_lost owner m.indices.lost ≡ false
  alive owner = of (is_lost owner m.indices.lost)
    where
      of : (b : Bool) → not b ≡ true → b ≡ false
      of true h = absurd (cc)
      of false h = refl

  pub makes : (t : ContainerCall) → may_ask m.indices party t ≡ true → KnowsOwn t → Makes t
  makes stage.Idle fit kn = absurd (cc)
  makes (stage.Enter number owner) fit kn = enter_made width party m.values start m.words m.events mine seat.first m.indices k.indices
      s.low s.out false fit
      (inner_few false) number owner kn
  makes (stage.Fill number owner index next) fit kn = fill_made n width party m.values start m.words m.indices m.events mine seat.first now
      k.size k.small s.low s.out
      consistent.whole.cells (k.began party) few write_low inner number owner index next kn.0 kn.1
      (kn.3 (alive owner fit)).0 (kn.3 (alive owner fit)).1 kn.2 (kn.3 (alive owner fit)).2 (nat_lt next width) refl
  makes (stage.Show number owner index seen) fit kn = show_made n width party m.values start m.words m.indices m.events mine seat.first now
      k.size k.small s.low s.out
      consistent.whole.cells (k.began party) few write_low inner index seen kn.1
      (kn.2 (alive owner fit)).2 owner (alive owner fit) (kn.2 (alive owner fit)).0 number kn.0 (kn.2 (alive owner fit)).1
      (kn.2 (alive owner fit)).3
  makes (stage.Sink owner index mode) fit kn = sink_made n width party m.values start m.words m.indices m.events mine seat.first now k.size
      k.small s.low s.out
      consistent.whole.cells (k.began party) few write_low inner owner index mode kn.0 kn.1
      (kn.2 (alive owner fit)).0 (kn.2 (alive owner fit)).1
  makes (stage.Hide owner index mode seen) fit kn = hide_made n width party m.values start m.words m.indices m.events mine seat.first now
      k.size k.small s.low s.out
      consistent.whole.cells (k.began party) few write_low inner index seen kn.1
      (kn.2 (alive owner fit)).2 owner (alive owner fit) (kn.2 (alive owner fit)).0 mode kn.0 (kn.2 (alive owner fit)).1
  makes (stage.Leave owner index mode) fit kn = leave_made width party m.values start m.words m.events mine seat.first m.indices k.indices
      s.low s.out owner
      index mode fit kn
  makes (stage.Drop owner index mode) fit kn = drop_made width party m.values start m.words m.events mine seat.first m.indices k.indices
      s.low s.out false fit
      (inner_few false) owner index mode kn
  makes (stage.Count c a) fit kn = count_made n width party m.values start m.words m.indices m.events mine seat.first now k.size k.small
      s.low s.out
      consistent.whole.cells (k.began party) few write_low inner c a kn.0 kn.1 kn.2
  makes (stage.Raise c a seen) fit kn = raise_made n width party m.values start m.words m.indices m.events mine seat.first now k.size
      k.small s.low s.out
      consistent.whole.cells (k.began party) few write_low inner c a kn.0 kn.1 kn.2 seen (m.words.write == seen) refl
  makes stage.Look fit kn = look_made n width party m.values start m.words m.indices m.events mine seat.first now k.size k.small s.low s.out
      consistent.whole.cells (k.began party) few write_low inner seat.saw (m.words.write == seat.saw)
  makes (stage.Visit i) fit kn = visit_made n width party m.values start m.words m.indices m.events mine seat.first now k.size k.small
      s.low s.out
      consistent.whole.cells (k.began party) few write_low inner i kn.0 kn.1
  makes (stage.Gather i seen next) fit kn = gather_made n width party m.values start m.words m.indices m.events mine seat.first now k.size
      k.small s.low s.out
      consistent.whole.cells (k.began party) few write_low inner i kn.0 kn.1 seen next kn.2 kn.3 kn.4 kn.5 kn.6
      (nat_lt next width) refl
  makes (stage.Search owner number mode) fit kn = search_made width party m.values start m.words m.events mine seat.first m.indices
      k.indices s.low s.out owner
      number mode fit kn
  makes (stage.Watch owner number mode i) fit kn = watch_made n width party m.values start m.words m.indices m.events mine seat.first now
      k.size k.small s.low s.out
      consistent.whole.cells (k.began party) few write_low inner owner number mode i kn.0 kn.1 kn.2 kn.3
  makes (stage.Ask owner number mode i seen) fit kn = ask_made width party m.values start m.words m.events mine seat.first m.indices
      k.indices s.low s.out (not (is_shown seen)) (asks_fit m party k (is_shown seen) fit).0
      (inner_few (not (is_shown seen))) owner number mode i seen refl kn
  makes (stage.Expel owner number mode i seen) fit kn = expel_made n width party m.values start m.words m.indices m.events mine seat.first
      now k.size k.small s.low s.out
      consistent.whole.cells (k.began party) few write_low inner owner number mode i seen kn.0 kn.1
      kn.2 kn.3 kn.5 kn.6 kn.7 (word_of m.words (Cell i) == seen) refl
  makes (stage.Clear owner number mode i) fit kn = clear_made width party m.values start m.words m.events mine seat.first m.indices
      k.indices s.low s.out false fit
      (inner_few false) owner number mode i kn
  makes (stage.Close owner number mode) fit kn = close_made width party m.values start m.words m.events mine seat.first m.indices k.indices
      s.low s.out false fit
      (inner_few false) owner number mode kn
  makes (stage.Done c a) fit kn = quiet n width party m.values start m.words m.indices m.events mine seat.first now k.size k.small s.low
      s.out
      consistent.whole.cells (k.began party) few write_low inner Local 0 stage.Idle refl tt

-- what is known of a party with this seat, in a container of n places
abbrev pub KnowsAt : ℕ → ContainerParts → ℕ → MemberSeat → Type 0
KnowsAt n x q t = KnowsMember n (width_of x) x.values (empty_words n (width_of x)) x.words.cells x.indices q
    (stage_at x.indices.seats q) t.first x.events (own q (drop t.first x.events)) t.stage

pub saw_on : (m : ContainerParts) (e : Event) (t : MemberSeat) → t.since ≤ length m.events → t.saw ≡ times_counted (take t.since m.events)
    → t.saw ≡ times_counted (take t.since (m.events ++ e ∷ []))
saw_on m e t low h = h ∙ ap times_counted (sym (take-append-le t.since m.events (e ∷ []) low))

-- either seat of a party is at the same stage of the same call
pub either_seat : (P : MemberSeat → Type 0) (b : Bool) (one other : MemberSeat) → P one → P other → P (if b then one else other)
either_seat P true one other h g = h
either_seat P false one other h g = g
