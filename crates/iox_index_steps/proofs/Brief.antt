-- If the premise on changes of the head is true after a step, it was true before the step.
use Rattle.std.proofs.Common.{◌≡◌, ℕ, ◌^◌, ◌<◌, ◌≤◌, ⊎_elim, Bool, true, false, if◌then◌else◌, ◌==◌, nat_le, nat_lt, Ok, Err, List, []}
use Rattle.std.proofs.Common.{◌∷◌, ◌++◌, length, set, drop, sym, subst, arith, append-nil, length-take, take, length-drop}
use Rattle.std.proofs.Math.Seq.{take-append_seam}
use Rattle.std.proofs.lemmas.Bool.{and_parts, cases_eq, ltb-true}
use Rattle.std.proofs.lemmas.List.{take-append-le}
use Rattle.iox_queues_steps.specs.Access.{answer_of}
use Rattle.iox_queues_steps.specs.declared.access.Access.{Access}
use Rattle.iox_queues_steps.specs.declared.access.Access.TheVariants.{Load, Store, Exchange, Local}
use Rattle.iox_queues_steps.specs.declared.access.Word.TheVariants.{Write, Read, Cell}
use Rattle.iox_container.specs.declared.error.UniqueIndexSetAcquireFailure.TheVariants.{OutOfIndices, IsLocked}
use Rattle.iox_queues.specs.declared.bits.machine.Event.{Event}
use Rattle.iox_index_steps.specs.Steps.{call_begun, call_is_idle, call_next, call_take, next_free, borrowed_count, lock_mark}
use Rattle.iox_index_steps.specs.Steps.{seen_by_acquire}
use Rattle.iox_index_steps.specs.Changes.{changed_by, head_changes}
use Rattle.iox_index_steps.specs.Told.{LieWithin, AreBrief, IsBrief}
use Rattle.iox_index_steps.specs.Machine.{HasFewChanges, IndexSetState, IsBriefSoFar, call_ended, fits, happens, may_begin, seat_at}
use Rattle.iox_index_steps.specs.Machine.{stage_at}
use Rattle.iox_index_steps.specs.declared.call.Answer.TheVariants.{Acquired}
use Rattle.iox_index_steps.specs.declared.call.Call.{Call}
use Rattle.iox_index_steps.specs.declared.call.Call.TheVariants as call
use Rattle.iox_index_steps.specs.declared.call.IndexCall.{IndexCall}
use Rattle.iox_index_steps.specs.declared.call.IndexCall.TheVariants.{Idle, Acquire, Follow, Take, Release, Link, Give, Done}
use Rattle.iox_index_steps.specs.declared.machine.Finished.{Finished}
use Rattle.iox_index_steps.specs.declared.machine.Move.{Move}
use Rattle.iox_index_steps.specs.declared.machine.Move.TheVariants.{Begin, GoOn}
use Rattle.iox_index_steps.specs.declared.state.Seat.{Seat}
use Rattle.iox_index_steps.proofs.Counts.{changes_since}
use Rattle.iox_index_steps.proofs.Seats.{seat_else, seat_here}

-- of the calls that ended
brief_before : (events : List Event) (e : Event) (finished ended : List Finished) → LieWithin events finished
    → AreBrief (events ++ e ∷ []) (finished ++ ended) → AreBrief events finished
brief_before events e [] ended among brief = tt
brief_before events e (f ∷ finished) ended among brief = (
  subst (λ (es : List Event). IsBrief f.call (drop f.first es)) (take-append-le f.last events (e ∷ []) (omega (arith, among.0.ended)))
      brief.0,
  brief_before events e finished ended among.1 brief.1,
)

brief_last : (events : List Event) (finished ended : List Finished) → AreBrief events (finished ++ ended) → AreBrief events ended
brief_last events [] ended brief = brief
brief_last events (f ∷ finished) ended brief = brief_last events finished ended brief.1

-- of a call in progress, where fewer steps were made
fewer_brief : (c : Call) (xs ys : List Event) → head_changes xs ≤ head_changes ys → IsBrief c ys → IsBrief c xs
fewer_brief call.Acquire xs ys le brief = omega (arith, le, brief)
fewer_brief (call.Release index mode) xs ys le brief = tt

fewer_so_far : (stage : IndexCall) (xs ys : List Event) → head_changes xs ≤ head_changes ys → IsBriefSoFar stage ys → IsBriefSoFar stage xs
fewer_so_far Idle xs ys le brief = tt
fewer_so_far (Acquire capacity) xs ys le brief = omega (arith, le, brief)
fewer_so_far (Follow capacity word) xs ys le brief = omega (arith, le, brief)
fewer_so_far (Take capacity word next) xs ys le brief = omega (arith, le, brief)
fewer_so_far (Release index mode) xs ys le brief = tt
fewer_so_far (Link index mode word) xs ys le brief = tt
fewer_so_far (Give index mode word) xs ys le brief = tt
fewer_so_far (Done c answer) xs ys le brief = fewer_brief c xs ys le brief

idle_brief : (stage : IndexCall) (events : List Event) → call_is_idle stage ≡ true → IsBriefSoFar stage events
idle_brief Idle events idle = tt
idle_brief (Acquire capacity) events idle = absurd (cc)
idle_brief (Follow capacity word) events idle = absurd (cc)
idle_brief (Take capacity word next) events idle = absurd (cc)
idle_brief (Release index mode) events idle = absurd (cc)
idle_brief (Link index mode word) events idle = absurd (cc)
idle_brief (Give index mode word) events idle = absurd (cc)
idle_brief (Done c answer) events idle = absurd (cc)

seen_brief : (capacity word : ℕ) (events : List Event) (full marked : Bool)
    → IsBriefSoFar (if full then Done call.Acquire (Acquired (Err OutOfIndices)) else if marked then Done call.Acquire
    (Acquired (Err IsLocked)) else Follow capacity word) events → head_changes events < 2 ^ 16
seen_brief capacity word events true marked brief = brief
seen_brief capacity word events false true brief = brief
seen_brief capacity word events false false brief = brief

taken_brief : (capacity word next answer : ℕ) (events : List Event) (b : Bool)
    → IsBriefSoFar (if b then Done call.Acquire (Acquired (Ok (next_free word))) else seen_by_acquire capacity answer) events
    → head_changes events < 2 ^ 16
taken_brief capacity word next answer events true brief = brief
taken_brief capacity word next answer events false brief
    = seen_brief capacity answer events (nat_le capacity (next_free answer)) (borrowed_count answer == lock_mark) brief

-- of the call that goes on, by its new stage or by what is recorded of it
going_brief : (stage : IndexCall) (party first answer : ℕ) (events : List Event) (e : Event) → first ≤ length events
    → IsBriefSoFar (call_take stage answer) (drop first (events ++ e ∷ []))
    → AreBrief (events ++ e ∷ []) (call_ended party first (length events) stage) → IsBriefSoFar stage (drop first events)
going_brief Idle party first answer events e began brief ended = tt
going_brief (Acquire capacity) party first answer events e began brief ended =
    omega (
      arith,
      seen_brief capacity answer (drop first (events ++ e ∷ [])) (nat_le capacity (next_free answer))
          (borrowed_count answer == lock_mark) brief,
      changes_since first events e began,
    )
going_brief (Follow capacity word) party first answer events e began brief ended = omega (arith, brief, changes_since first events e began)
going_brief (Take capacity word next) party first answer events e began brief ended =
    omega (
      arith,
      taken_brief capacity word next answer (drop first (events ++ e ∷ [])) (answer == word) brief,
      changes_since first events
          e began,
    )
going_brief (Release index mode) party first answer events e began brief ended = tt
going_brief (Link index mode word) party first answer events e began brief ended = tt
going_brief (Give index mode word) party first answer events e began brief ended = tt
going_brief (Done c answer') party first answer events e began brief ended
    = subst (λ (es : List Event). IsBrief c (drop first es)) (take-append_seam events (e ∷ [])) ended.0

-- the seats of all others stand as they did
module _ (seats : List Seat) (events : List Event) (e : Event) (party : ℕ) (seat : Seat) (within : party < length seats)
    (began : (q : ℕ) → (seat_at seats q).first ≤ length events)
    (brief : (q : ℕ) → IsBriefSoFar (stage_at (set seats party seat) q)
    (drop (seat_at (set seats party seat) q).first (events ++ e ∷ []))) where
  seats_brief : (IsBriefSoFar seat.stage (drop seat.first (events ++ e ∷ []))
      → IsBriefSoFar (stage_at seats party) (drop (seat_at seats party).first events))
      → (q : ℕ) → IsBriefSoFar (stage_at seats q) (drop (seat_at seats q).first events)
  seats_brief here q =
      ⊎_elim
      (λ (same : party ≡ q). subst (λ (q : ℕ). IsBriefSoFar (stage_at seats q) (drop (seat_at seats q).first events)) same
      (here (subst (λ (s : Seat). IsBriefSoFar s.stage (drop s.first (events ++ e ∷ []))) (seat_here seats party seat within)
      (brief party))))
      (λ (differs : party ≡ q → ⊥). fewer_so_far (stage_at seats q) (drop (seat_at seats q).first events)
      (drop (seat_at seats q).first (events ++ e ∷ [])) (omega (arith, changes_since (seat_at seats q).first events e (began q)))
      (subst (λ (s : Seat). IsBriefSoFar s.stage (drop s.first (events ++ e ∷ [])))
      (seat_else seats party q seat (λ same. differs (sym same))) (brief q)))
      (cases_eq party q)

pub few_before : (m : IndexSetState) (step : Move) → fits m step ≡ true → ((q : ℕ) → (seat_at m.seats q).first ≤ length m.events)
    → LieWithin m.events m.finished
    → HasFewChanges (happens m step) → HasFewChanges m
few_before m (Begin party c) fit began among few =
    let idle : (nat_lt party (length m.seats) ≡ true) × _ = and_parts (nat_lt party (length m.seats)) _ fit in
    let event : Event = record { party = party; access = Local; answer = 0 } in
    record {
      ended = brief_before m.events event m.finished [] among
          (subst (λ (fs : List Finished). AreBrief (m.events ++ event ∷ []) fs) (sym (append-nil m.finished)) few.ended);
      going = seats_brief m.seats m.events event party (record { stage = call_begun (length m.words.cells) c; first = length m.events })
          (ltb-true party (length m.seats) idle.0) began few.going
          (λ after. idle_brief (stage_at m.seats party) (drop (seat_at m.seats party).first m.events)
          (and_parts (call_is_idle (stage_at m.seats party)) (may_begin m.holders party c) idle.1).0);
    }
few_before m (GoOn party) fit began among few =
    let there : (nat_lt party (length m.seats) ≡ true) × _ = and_parts (nat_lt party (length m.seats)) _ fit in
    let stage : IndexCall = stage_at m.seats party in
    let answer : ℕ = answer_of m.words (call_next stage) in
    let event : Event = record { party = party; access = call_next stage; answer = answer } in
    record {
      ended = brief_before m.events event m.finished (call_ended party (seat_at m.seats party).first (length m.events) stage) among
          few.ended;
      going = seats_brief m.seats m.events event party
          (record { stage = call_take stage answer; first = (seat_at m.seats party).first }) (ltb-true party (length m.seats) there.0)
          began few.going
          (λ after. going_brief stage party (seat_at m.seats party).first answer m.events event (began party) after
          (brief_last (m.events ++ event ∷ []) m.finished (call_ended party (seat_at m.seats party).first (length m.events) stage)
          few.ended));
    }

-- no more changes than steps
if_at_most_one : (b : Bool) → (if b then 1 else 0) ≤ 1
if_at_most_one true = omega arith
if_at_most_one false = omega arith

one_change : (access : Access) (answer : ℕ) → changed_by access answer ≤ 1
one_change (Load word) answer = omega arith
one_change (Store word value) answer = omega arith
one_change (Exchange Write old new) answer = omega arith
one_change (Exchange Read old new) answer = if_at_most_one (answer == old)
one_change (Exchange (Cell place) old new) answer = omega arith
one_change Local answer = omega arith

changes_within : (events : List Event) → head_changes events ≤ length events
changes_within [] = omega arith
changes_within (e ∷ events) = omega (arith, one_change e.access e.answer, changes_within events)

part_within : (first last : ℕ) (events : List Event) → head_changes (drop first (take last events)) ≤ length events
part_within first last events =
    omega (arith, changes_within (drop first (take last events)), length-drop first (take last events), length-take last events)

brief_if : (c : Call) (events : List Event) → head_changes events < 2 ^ 16 → IsBrief c events
brief_if call.Acquire events few = few
brief_if (call.Release index mode) events few = tt

brief_so_far_if : (stage : IndexCall) (events : List Event) → head_changes events < 2 ^ 16 → IsBriefSoFar stage events
brief_so_far_if Idle events few = tt
brief_so_far_if (Acquire capacity) events few = few
brief_so_far_if (Follow capacity word) events few = few
brief_so_far_if (Take capacity word next) events few = few
brief_so_far_if (Release index mode) events few = tt
brief_so_far_if (Link index mode word) events few = tt
brief_so_far_if (Give index mode word) events few = tt
brief_so_far_if (Done c answer) events few = brief_if c events few

all_brief : (events : List Event) (finished : List Finished) → length events < 2 ^ 16 → AreBrief events finished
all_brief events [] short = tt
all_brief events (f ∷ finished) short = (
  brief_if f.call (drop f.first (take f.last events)) (omega (arith, part_within f.first f.last events, short)),
  all_brief events
      finished short,
)

-- fewer than 2^16 steps are few changes
pub short_few : (m : IndexSetState) → length m.events < 2 ^ 16 → HasFewChanges m
short_few m short = record {
  ended = all_brief m.events m.finished short;
  going = λ party. brief_so_far_if (stage_at m.seats party) (drop (seat_at m.seats party).first m.events)
      (omega (
        arith,
        changes_within (drop (seat_at m.seats party).first m.events),
        length-drop (seat_at m.seats party).first m.events,
        short,
      ));
}
