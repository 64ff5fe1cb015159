-- The steps of each call on a set are those that its value asked for, after one more step.
use Rattle.std.proofs.Common.{◌≡◌, ℕ, ◌<◌, ◌≤◌, Bool, true, false, if◌then◌else◌, ◌==◌, nat_lt, Option, Some, None, List, [], ◌∷◌, ◌++◌}
use Rattle.std.proofs.Common.{length, set, drop, refl, sym, subst, arith, length-append}
use Rattle.std.proofs.Math.Seq.{take-append_seam}
use Rattle.std.proofs.lemmas.List.{take-append-le}
use Rattle.iox_queues_steps.specs.Access.{successor}
use Rattle.iox_queues.specs.Steps.{adding_at, call_begun, call_is_over, call_next, call_take, found_at, going_on_at}
use Rattle.iox_queues.specs.Steps.{swept_by, sweeping_at}
use Rattle.iox_queues.specs.Told.{own}
use Rattle.iox_queues.specs.Recorded.{local_step}
use Rattle.iox_queues.specs.Machine.{call_ended, seat_at, stage_at}
use Rattle.iox_queues.specs.Asked.{AreAsked, IsAsked, IsAskedSoFar, LieWithin, call_in_hand, sweeping_call}
use Rattle.iox_queues.specs.declared.bits.call.Answer.TheVariants.{Added}
use Rattle.iox_queues.specs.declared.bits.call.Call.{Call}
use Rattle.iox_queues.specs.declared.bits.call.Call.TheVariants as call
use Rattle.iox_queues.specs.declared.bits.call.SetCall.{SetCall}
use Rattle.iox_queues.specs.declared.bits.call.SetCall.TheVariants.{Idle, Add, Adding, Next, Sweep, Taking, Found, Done}
use Rattle.iox_queues.specs.declared.bits.machine.Event.{Event}
use Rattle.iox_queues.specs.declared.bits.machine.Finished.{Finished}
use Rattle.iox_queues.specs.declared.bits.state.Seat.{Seat}
use Rattle.iox_queues.proofs.OwnSteps.{own_else_since}
use Rattle.iox_queues.proofs.Recorded.{asked_on}
use Rattle.iox_queues.proofs.Seats.{each_party}

-- a call stays the same one until it is over
either_call : (b : Bool) (one other : SetCall) (c : Option Call) → call_in_hand one ≡ c → call_in_hand other ≡ c
    → call_in_hand (if b then one else other) ≡ c
either_call true one other c h g = h
either_call false one other c h g = g

swept_call : (all : Bool) → call_in_hand (swept_by all) ≡ Some (sweeping_call all)
swept_call true = refl
swept_call false = refl

going_call : (place left capacity : ℕ) (all : Bool) → call_in_hand (going_on_at place left capacity all) ≡ Some (sweeping_call all)
going_call place left capacity all = either_call (left == 0) (swept_by all) _ (Some (sweeping_call all)) (swept_call all) refl

sweeping_same : (place left capacity : ℕ) (all : Bool) (count : ℕ)
    → call_in_hand (sweeping_at place left capacity all count) ≡ Some (sweeping_call all)
sweeping_same place left capacity all count =
    either_call (count == 0) _ (Taking place left capacity all count) (Some (sweeping_call all))
    (going_call (successor place) _ capacity all) refl

found_same : (place left capacity : ℕ) (all : Bool) → call_in_hand (found_at place left capacity all) ≡ Some (sweeping_call all)
found_same place left capacity true = going_call (successor place) _ capacity true
found_same place left capacity false = refl

adding_same : (place max count : ℕ) → call_in_hand (adding_at place max count) ≡ Some (call.Set place)
adding_same place max count =
    either_call (nat_lt count max) (Adding place max count) (Done (call.Set place) (Added false)) (Some (call.Set place)) refl refl

pub same_call : (stage : SetCall) (answer : ℕ) → call_is_over stage ≡ false
    → call_in_hand (call_take stage answer) ≡ call_in_hand stage
same_call Idle answer going = refl
same_call (Add place max) answer going = adding_same place max answer
same_call (Adding place max count) answer going =
    either_call (answer == count) (Done (call.Set place) (Added true)) (adding_at place max answer) (Some (call.Set place)) refl
    (adding_same place max answer)
same_call (Next capacity) answer going = going_call answer capacity capacity false
same_call (Sweep place left capacity all) answer going = sweeping_same place left capacity all answer
same_call (Taking place left capacity all count) answer going =
    either_call (answer == count) (found_at place left capacity all) (sweeping_at place left capacity all answer)
    (Some (sweeping_call all)) (found_same place left capacity all) (sweeping_same place left capacity all answer)
same_call (Found place after) answer going = refl
same_call (Done c answered) answer going = absurd (cc)

pub begun_call : (max n : ℕ) (c : Call) → call_in_hand (call_begun max n c) ≡ Some c
begun_call max n (call.Set place) = refl
begun_call max n call.ResetNext = refl
begun_call max n call.ResetAll = going_call 0 n n true

-- the call in hand, after one more of its steps
module _ (max n party : ℕ) (events : List Event) (e : Event) where
  on_with : (stage : SetCall) (c : Option Call) → e.access ≡ call_next stage → IsAskedSoFar max n party c stage events
      → IsAskedSoFar max n party c (call_take stage e.answer) (events ++ e ∷ [])
  on_with stage None is a = tt
  on_with stage (Some c) is a = asked_on SetCall call_next call_take party events e (call_begun max n c) stage is a

  going_next : (stage : SetCall) → call_is_over stage ≡ false → e.access ≡ call_next stage
      → IsAskedSoFar max n party (call_in_hand stage) stage events
      → IsAskedSoFar max n party (call_in_hand (call_take stage e.answer)) (call_take stage e.answer) (events ++ e ∷ [])
  going_next stage going is a =
      subst (λ (c : Option Call). IsAskedSoFar max n party c (call_take stage e.answer) (events ++ e ∷ []))
      (sym (same_call stage e.answer going)) (on_with stage (call_in_hand stage) is a)

  pub asked_next : (stage : SetCall) → e.access ≡ call_next stage
      → IsAskedSoFar max n party (call_in_hand stage) stage events
      → IsAskedSoFar max n party (call_in_hand (call_take stage e.answer)) (call_take stage e.answer) (events ++ e ∷ [])
  asked_next Idle is a = tt
  asked_next (Add place top) is a = going_next (Add place top) refl is a
  asked_next (Adding place top count) is a = going_next (Adding place top count) refl is a
  asked_next (Next capacity) is a = going_next (Next capacity) refl is a
  asked_next (Sweep place left capacity all) is a = going_next (Sweep place left capacity all) refl is a
  asked_next (Taking place left capacity all count) is a = going_next (Taking place left capacity all count) refl is a
  asked_next (Found place after) is a = going_next (Found place after) refl is a
  asked_next (Done c answer) is a = tt

-- a call that begins made its first step
pub asked_begun : (max n party : ℕ) (c : Call) (events : List Event) → events ≡ local_step party ∷ []
    → IsAskedSoFar max n party (call_in_hand (call_begun max n c)) (call_begun max n c) events
asked_begun max n party c events alone =
    subst (λ (in_hand : Option Call). IsAskedSoFar max n party in_hand (call_begun max n c) events) (sym (begun_call max n c)) first
  where
    first : IsAsked max n party c (call_begun max n c) events
    first = record { between = []; whole = alone; goes = refl }

-- the calls that ended lie among the steps, and are those that were asked for
pub among_on : (events : List Event) (e : Event) (finished : List Finished) → LieWithin events finished
    → LieWithin (events ++ e ∷ []) finished
among_on events e [] h = tt
among_on events e (f ∷ finished) h =
    ((record { begun = h.0.begun; ended = omega (arith, h.0.ended, length-append events (e ∷ [])) }), among_on events e finished h.1)

pub among_append : (events : List Event) (xs ys : List Finished) → LieWithin events xs → LieWithin events ys → LieWithin events (xs ++ ys)
among_append events [] ys h g = g
among_append events (x ∷ xs) ys h g = (h.0, among_append events xs ys h.1 g)

pub ended_among : (events : List Event) (e : Event) (party first : ℕ) (stage : SetCall) → first ≤ length events
    → LieWithin (events ++ e ∷ []) (call_ended party first (length events) stage)
ended_among events e party first Idle h = tt
ended_among events e party first (Add place top) h = tt
ended_among events e party first (Adding place top count) h = tt
ended_among events e party first (Next capacity) h = tt
ended_among events e party first (Sweep place left capacity all) h = tt
ended_among events e party first (Taking place left capacity all count) h = tt
ended_among events e party first (Found place after) h = tt
ended_among events e party first (Done c answer) h = ((record { begun = h; ended = omega (arith, length-append events (e ∷ [])) }), tt)

pub ended_asked_on : (max n : ℕ) (events : List Event) (e : Event) (finished : List Finished) → LieWithin events finished
    → AreAsked max n events finished → AreAsked max n (events ++ e ∷ []) finished
ended_asked_on max n events e [] among h = tt
ended_asked_on max n events e (f ∷ finished) among h = (
  subst (λ (es : List Event). IsAsked max n f.party f.call (Done f.call f.answer) (own f.party (drop f.first es)))
      (sym (take-append-le f.last events (e ∷ []) (omega (arith, among.0.ended)))) h.0,
  ended_asked_on max n events e finished among.1 h.1,
)

pub asked_append : (max n : ℕ) (events : List Event) (xs ys : List Finished) → AreAsked max n events xs → AreAsked max n events ys
    → AreAsked max n events (xs ++ ys)
asked_append max n events [] ys h g = g
asked_append max n events (x ∷ xs) ys h g = (h.0, asked_append max n events xs ys h.1 g)

pub call_asked : (max n party first : ℕ) (events : List Event) (e : Event) (stage : SetCall)
    → IsAskedSoFar max n party (call_in_hand stage) stage (own party (drop first events))
    → AreAsked max n (events ++ e ∷ []) (call_ended party first (length events) stage)
call_asked max n party first events e Idle a = tt
call_asked max n party first events e (Add place top) a = tt
call_asked max n party first events e (Adding place top count) a = tt
call_asked max n party first events e (Next capacity) a = tt
call_asked max n party first events e (Sweep place left capacity all) a = tt
call_asked max n party first events e (Taking place left capacity all count) a = tt
call_asked max n party first events e (Found place after) a = tt
call_asked max n party first events e (Done c answer) a = (
  subst (λ (es : List Event). IsAsked max n party c (Done c answer) (own party (drop first es))) (sym (take-append_seam events (e ∷ []))) a,
  tt,
)

-- each party's call in hand, after a step of one of them
pub asked_all : (max n : ℕ) (seats : List Seat) (events : List Event) (e : Event) (seat : Seat) → e.party < length seats
    → ((q : ℕ) → (seat_at seats q).first ≤ length events)
    → ((q : ℕ) → IsAskedSoFar max n q (call_in_hand (stage_at seats q)) (stage_at seats q) (own q (drop (seat_at seats q).first events)))
    → IsAskedSoFar max n e.party (call_in_hand seat.stage) seat.stage (own e.party (drop seat.first (events ++ e ∷ [])))
    → (q : ℕ) → IsAskedSoFar max n q (call_in_hand (stage_at (set seats e.party seat) q)) (stage_at (set seats e.party seat) q)
    (own q (drop (seat_at (set seats e.party seat) q).first (events ++ e ∷ [])))
asked_all max n seats events e seat within began going here =
    each_party (λ (q : ℕ) (s : Seat). IsAskedSoFar max n q (call_in_hand s.stage) s.stage (own q (drop s.first (events ++ e ∷ []))))
    seats e.party seat within
    (λ q differs. subst (λ (es : List Event). IsAskedSoFar max n q (call_in_hand (stage_at seats q)) (stage_at seats q) es)
    (sym (own_else_since q (seat_at seats q).first events e (began q) differs)) (going q)) here
