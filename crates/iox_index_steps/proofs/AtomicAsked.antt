-- The steps of each call on a single value are those that its value asked for, after one more step; and how often they move the counter.
use Rattle.std.proofs.Common.{◌≡◌, ℕ, ◌+◌, ◌<◌, ◌≤◌, Bool, true, false, not, if◌then◌else◌, ◌==◌, nat_lt, Option, Some, List, []}
use Rattle.std.proofs.Common.{◌∷◌, ◌++◌, length, set, take, drop, slice_index, refl, sym, ap, subst, arith}
use Rattle.std.specs.Global.{Vec}
use Rattle.std.proofs.Math.Seq.{take-append_seam}
use Rattle.std.proofs.lemmas.List.{take-append-le}
use Rattle.iox_queues_steps.specs.Access.{successor}
use Rattle.iox_queues_steps.specs.declared.access.Access.TheVariants.{Load, Store}
use Rattle.iox_queues_steps.specs.declared.access.Word.TheVariants.{Write, Cell}
use Rattle.iox_queues.specs.Recorded.{Goes}
use Rattle.iox_queues.specs.Told.{own}
use Rattle.iox_queues.specs.declared.bits.machine.Event.{Event}
use Rattle.iox_index_steps.specs.AtomicSteps.{call_begun, call_next, call_take, fills_second, place}
use Rattle.iox_queues.specs.Values.{table_value}
use Rattle.iox_index_steps.specs.AtomicTold.{AreAsked, IsAsked, IsAskedSoFar, LieWithin, MoveEach, call_in_hand, moved_by, moves_of}
use Rattle.iox_index_steps.specs.AtomicTold.{times_moved}
use Rattle.iox_index_steps.specs.AtomicMachine.{call_ended, seat_at, stage_at}
use Rattle.iox_index_steps.specs.declared.atomic.call.Call.{Call}
use Rattle.iox_index_steps.specs.declared.atomic.call.Call.TheVariants as call
use Rattle.iox_index_steps.specs.declared.atomic.call.AtomicCall.{AtomicCall}
use Rattle.iox_index_steps.specs.declared.atomic.call.AtomicCall.TheVariants as stage
use Rattle.iox_index_steps.specs.declared.atomic.Finished.{Finished}
use Rattle.iox_index_steps.specs.declared.atomic.state.Seat.{Seat}
use Rattle.iox_queues.proofs.OwnSteps.{own_else_since}
use Rattle.iox_queues.proofs.Recorded.{asked_on}
use Rattle.iox_index_steps.proofs.AtomicSeats.{each_seat}

either_call : (b : Bool) (one other : AtomicCall) (c : Option Call) → call_in_hand one ≡ c → call_in_hand other ≡ c
    → call_in_hand (if b then one else other) ≡ c
either_call true one other c h g = h
either_call false one other c h g = g

module _ (n : ℕ) (values : List (Vec ℕ)) where
  module _ (party : ℕ) (events : List Event) (e : Event) where
    asked_by : (c : Call) (s : AtomicCall) → call_in_hand (call_take n s e.answer) ≡ Some c → e.access ≡ call_next n values s
        → IsAsked n values party c s events
        → IsAskedSoFar n values party (call_in_hand (call_take n s e.answer)) (call_take n s e.answer) (events ++ e ∷ [])
    asked_by c s in_hand is a =
        subst (λ (o : Option Call). IsAskedSoFar n values party o (call_take n s e.answer) (events ++ e ∷ [])) (sym in_hand)
        (asked_on AtomicCall (call_next n values) (call_take n) party events e (call_begun c) s is a)

    pub asked_next : (s : AtomicCall) → e.access ≡ call_next n values s → IsAskedSoFar n values party (call_in_hand s) s events
        → IsAskedSoFar n values party (call_in_hand (call_take n s e.answer)) (call_take n s e.answer) (events ++ e ∷ [])
    asked_next stage.Idle is a = tt
    asked_next (stage.Store number) is a = asked_by (call.Store number) (stage.Store number) refl is a
    asked_next (stage.Fill number counter next) is a = asked_by (call.Store number) (stage.Fill number counter next)
        (either_call (nat_lt next n) (stage.Fill number counter (next + 1)) (stage.Done (call.Store number)) (Some (call.Store number))
        refl refl)
        is a
    asked_next stage.Load is a = asked_by call.Load stage.Load refl is a
    asked_next (stage.Gather counter next) is a = asked_by call.Load (stage.Gather counter next)
        (either_call (nat_lt next n) (stage.Gather counter (next + 1)) _ (Some call.Load) refl
        (either_call (e.answer == counter) (stage.Done call.Load) (stage.Gather e.answer 0) (Some call.Load) refl refl))
        is a
    asked_next (stage.Done c) is a = tt

  pub ended_asked_on : (events : List Event) (e : Event) (finished : List Finished) → LieWithin events finished
      → AreAsked n values events finished → AreAsked n values (events ++ e ∷ []) finished
  ended_asked_on events e [] among h = tt
  ended_asked_on events e (f ∷ finished) among h = (
    subst (λ (es : List Event). IsAsked n values f.party f.call (stage.Done f.call) (own f.party (drop f.first es)))
        (sym (take-append-le f.last events (e ∷ []) (omega (arith, among.0.ended)))) h.0,
    ended_asked_on events e finished among.1 h.1,
  )

  pub asked_append : (events : List Event) (xs ys : List Finished) → AreAsked n values events xs → AreAsked n values events ys
      → AreAsked n values events (xs ++ ys)
  asked_append events [] ys h g = g
  asked_append events (x ∷ xs) ys h g = (h.0, asked_append events xs ys h.1 g)

  pub call_asked : (party first : ℕ) (events : List Event) (e : Event) (s : AtomicCall)
      → IsAskedSoFar n values party (call_in_hand s) s (own party (drop first events))
      → AreAsked n values (events ++ e ∷ []) (call_ended party first (length events) s)
  call_asked party first events e stage.Idle a = tt
  call_asked party first events e (stage.Store number) a = tt
  call_asked party first events e (stage.Fill number counter next) a = tt
  call_asked party first events e stage.Load a = tt
  call_asked party first events e (stage.Gather counter next) a = tt
  call_asked party first events e (stage.Done c) a = (
    subst (λ (es : List Event). IsAsked n values party c (stage.Done c) (own party (drop first es)))
        (sym (take-append_seam events (e ∷ []))) a,
    tt,
  )

  -- each party's call in hand, after a step of one of them
  pub asked_all : (seats : List Seat) (events : List Event) (e : Event) (seat : Seat) → e.party < length seats
      → ((q : ℕ) → (seat_at seats q).first ≤ length events)
      → ((q : ℕ) → IsAskedSoFar n values q (call_in_hand (stage_at seats q)) (stage_at seats q)
      (own q (drop (seat_at seats q).first events)))
      → IsAskedSoFar n values e.party (call_in_hand seat.stage) seat.stage (own e.party (drop seat.first (events ++ e ∷ [])))
      → (q : ℕ) → IsAskedSoFar n values q (call_in_hand (stage_at (set seats e.party seat) q)) (stage_at (set seats e.party seat) q)
      (own q (drop (seat_at (set seats e.party seat) q).first (events ++ e ∷ [])))
  asked_all seats events e seat within began going here =
      each_seat (λ (q : ℕ) (s : Seat). IsAskedSoFar n values q (call_in_hand s.stage) s.stage (own q (drop s.first events))
      × (s.first ≤ length events))
      (λ (q : ℕ) (s : Seat). IsAskedSoFar n values q (call_in_hand s.stage) s.stage (own q (drop s.first (events ++ e ∷ []))))
      seats e.party seat within (λ q. (going q, began q))
      (λ q differs h. subst (λ (es : List Event). IsAskedSoFar n values q (call_in_hand (stage_at seats q)) (stage_at seats q) es)
      (sym (own_else_since q (seat_at seats q).first events e h.1 differs)) h.0)
      here

  -- how often a call that stands there still moves the counter on
  abbrev owed : AtomicCall → ℕ
  owed stage.Idle = 0
  owed (stage.Store number) = 1
  owed (stage.Fill number counter next) = 1
  owed stage.Load = 0
  owed (stage.Gather counter next) = 0
  owed (stage.Done c) = 0

  idle_never : (c : Call) (between : List Event) → Goes (call_next n values) (call_take n) stage.Idle between (stage.Done c) → ⊥
  idle_never c [] h = cc
  idle_never c (e ∷ between) h = idle_never c between h.1

  fills : (b : Bool) (number counter next : ℕ) (e : Event) (rest : ℕ)
      → e.access ≡ (if b then Store (Cell (place n (fills_second counter) next)) (slice_index (table_value values number) next)
      else Store Write (successor counter))
      → rest ≡ owed (if b then stage.Fill number counter (next + 1) else stage.Done (call.Store number)) → moved_by e.access + rest ≡ 1
  fills true number counter next e rest is h = omega (arith, ap moved_by is, h)
  fills false number counter next e rest is h = omega (arith, ap moved_by is, h)

  gathers : (b b2 : Bool) (counter next : ℕ) (e : Event) (rest : ℕ)
      → e.access ≡ (if b then Load (Cell (place n (not (fills_second counter)) next)) else Load Write)
      → rest ≡ owed (if b then stage.Gather counter (next + 1) else if b2 then stage.Done call.Load else stage.Gather e.answer 0)
      → moved_by e.access + rest ≡ 0
  gathers true b2 counter next e rest is h = omega (arith, ap moved_by is, h)
  gathers false true counter next e rest is h = omega (arith, ap moved_by is, h)
  gathers false false counter next e rest is h = omega (arith, ap moved_by is, h)

  moves_asked : (c : Call) (s : AtomicCall) (between : List Event) → Goes (call_next n values) (call_take n) s between (stage.Done c)
      → times_moved between ≡ owed s
  moves_asked c s [] h = ap owed h
  moves_asked c stage.Idle (e ∷ between) h = absurd (idle_never c between h.1)
  moves_asked c (stage.Store number) (e ∷ between) h
      = omega (arith, ap moved_by h.0, moves_asked c (stage.Fill number e.answer 0) between h.1)
  moves_asked c (stage.Fill number counter next) (e ∷ between) h = fills (nat_lt next n) number counter next e (times_moved between) h.0
      (moves_asked c (call_take n (stage.Fill number counter next) e.answer) between h.1)
  moves_asked c stage.Load (e ∷ between) h = omega (arith, ap moved_by h.0, moves_asked c (stage.Gather e.answer 0) between h.1)
  moves_asked c (stage.Gather counter next) (e ∷ between) h = gathers (nat_lt next n) (e.answer == counter) counter next e
      (times_moved between) h.0 (moves_asked c (call_take n (stage.Gather counter next) e.answer) between h.1)
  moves_asked c (stage.Done d) (e ∷ between) h = absurd (idle_never c between h.1)

  begun_owes : (c : Call) → owed (call_begun c) ≡ moves_of c
  begun_owes (call.Store number) = refl
  begun_owes call.Load = refl

  moves_whole : (party : ℕ) (c : Call) (events : List Event) → IsAsked n values party c (stage.Done c) events
      → times_moved events ≡ moves_of c
  moves_whole party c events a =
      let all : times_moved events ≡ 0 + times_moved a.between = ap times_moved a.whole in
      omega (arith, all, moves_asked c (call_begun c) a.between a.goes, begun_owes c)

  pub move_each : (events : List Event) (finished : List Finished) → AreAsked n values events finished → MoveEach events finished
  move_each events [] h = tt
  move_each events (f ∷ finished) h =
      (moves_whole f.party f.call (own f.party (drop f.first (take f.last events))) h.0, move_each events finished h.1)
