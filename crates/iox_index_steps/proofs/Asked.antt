-- The steps of each call are those that its value asked for, after one more step.
use Rattle.std.proofs.Common.{◌≡◌, ℕ, ◌<◌, ◌≤◌, Bool, true, false, if◌then◌else◌, ◌==◌, nat_le, Ok, Err, ⊎_elim, List, [], ◌∷◌, ◌++◌}
use Rattle.std.proofs.Common.{length, set, drop, sym, ◌∙◌, subst, arith}
use Rattle.std.proofs.Math.Seq.{take-append_seam}
use Rattle.std.proofs.lemmas.Bool.{cases_eq}
use Rattle.std.proofs.lemmas.List.{take-append-le}
use Rattle.iox_container.specs.declared.error.UniqueIndexSetAcquireFailure.TheVariants.{OutOfIndices, IsLocked}
use Rattle.iox_queues.specs.Told.{own}
use Rattle.iox_queues.specs.declared.bits.machine.Event.{Event}
use Rattle.iox_index_steps.specs.Steps.{borrowed_count, call_begun, call_next, call_take, lock_mark, next_free, seen_by_acquire}
use Rattle.iox_index_steps.specs.Told.{AreAsked, IsAsked, IsAskedSoFar, LieWithin}
use Rattle.iox_index_steps.specs.Machine.{call_ended, seat_at, stage_at}
use Rattle.iox_index_steps.specs.declared.call.Answer.TheVariants.{Acquired}
use Rattle.iox_index_steps.specs.declared.call.Call.{Call}
use Rattle.iox_index_steps.specs.declared.call.Call.TheVariants as call
use Rattle.iox_index_steps.specs.declared.call.IndexCall.{IndexCall}
use Rattle.iox_index_steps.specs.declared.call.IndexCall.TheVariants.{Idle, Acquire, Follow, Take, Release, Link, Give, Done}
use Rattle.iox_index_steps.specs.declared.machine.Finished.{Finished}
use Rattle.iox_index_steps.specs.declared.state.Seat.{Seat}
use Rattle.iox_queues.proofs.OwnSteps.{own_else_since}
use Rattle.iox_queues.proofs.Recorded.{asked_on}
use Rattle.iox_index_steps.proofs.Seats.{seat_else, seat_here}

module _ (n party : ℕ) (events : List Event) (e : Event) where
  asked_by : (c : Call) (stage : IndexCall) → e.access ≡ call_next stage → IsAsked n party c stage events
      → IsAsked n party c (call_take stage e.answer) (events ++ e ∷ [])
  asked_by c stage is a = asked_on IndexCall call_next call_take party events e (call_begun n c) stage is a

  -- an acquire that saw the head, and calls that won their exchange or lost it
  seen_asked : (capacity word : ℕ) (full marked : Bool) (es : List Event)
      → IsAsked n party call.Acquire (if full then Done call.Acquire (Acquired (Err OutOfIndices)) else if marked then Done call.Acquire
      (Acquired (Err IsLocked)) else Follow capacity word) es
      → IsAskedSoFar n party (if full then Done call.Acquire (Acquired (Err OutOfIndices)) else if marked then Done call.Acquire
      (Acquired (Err IsLocked)) else Follow capacity word) es
  seen_asked capacity word true marked es a = a
  seen_asked capacity word false true es a = a
  seen_asked capacity word false false es a = a

  seen_by : (capacity word : ℕ) (es : List Event) → IsAsked n party call.Acquire (seen_by_acquire capacity word) es
      → IsAskedSoFar n party (seen_by_acquire capacity word) es
  seen_by capacity word es = seen_asked capacity word (nat_le capacity (next_free word)) (borrowed_count word == lock_mark) es

  won_or_lost : (c : Call) (done again : IndexCall) (b : Bool) (es : List Event)
      → (IsAsked n party c done es → IsAskedSoFar n party done es) → (IsAsked n party c again es → IsAskedSoFar n party again es)
      → IsAsked n party c (if b then done else again) es → IsAskedSoFar n party (if b then done else again) es
  won_or_lost c done again true es won lost a = won a
  won_or_lost c done again false es won lost a = lost a

  pub asked_next : (stage : IndexCall) → e.access ≡ call_next stage → IsAskedSoFar n party stage events
      → IsAskedSoFar n party (call_take stage e.answer) (events ++ e ∷ [])
  asked_next Idle is a = tt
  asked_next (Acquire capacity) is a = seen_by capacity e.answer (events ++ e ∷ []) (asked_by call.Acquire (Acquire capacity) is a)
  asked_next (Follow capacity word) is a = asked_by call.Acquire (Follow capacity word) is a
  asked_next (Take capacity word next) is a =
      won_or_lost call.Acquire (Done call.Acquire (Acquired (Ok (next_free word)))) (seen_by_acquire capacity e.answer)
      (e.answer == word) (events ++ e ∷ []) (λ done. done) (seen_by capacity e.answer (events ++ e ∷ []))
      (asked_by call.Acquire (Take capacity word next) is a)
  asked_next (Release index mode) is a = asked_by (call.Release index mode) (Release index mode) is a
  asked_next (Link index mode word) is a = asked_by (call.Release index mode) (Link index mode word) is a
  asked_next (Give index mode word) is a =
      won_or_lost (call.Release index mode) (Done (call.Release index mode) _) (Link index mode e.answer) (e.answer == word)
      (events ++ e ∷ []) (λ done. done) (λ again. again) (asked_by (call.Release index mode) (Give index mode word) is a)
  asked_next (Done c answer) is a = tt

-- the calls that ended
pub ended_asked_on : (n : ℕ) (events : List Event) (e : Event) (finished : List Finished) → LieWithin events finished
    → AreAsked n events finished → AreAsked n (events ++ e ∷ []) finished
ended_asked_on n events e [] among h = tt
ended_asked_on n events e (f ∷ finished) among h = (
  subst (λ (es : List Event). IsAsked n f.party f.call (Done f.call f.answer) (own f.party (drop f.first es)))
      (sym (take-append-le f.last events (e ∷ []) (omega (arith, among.0.ended)))) h.0,
  ended_asked_on n events e finished among.1 h.1,
)

pub asked_append : (n : ℕ) (events : List Event) (xs ys : List Finished) → AreAsked n events xs → AreAsked n events ys
    → AreAsked n events (xs ++ ys)
asked_append n events [] ys h g = g
asked_append n events (x ∷ xs) ys h g = (h.0, asked_append n events xs ys h.1 g)

pub call_asked : (n party first : ℕ) (events : List Event) (e : Event) (stage : IndexCall)
    → IsAskedSoFar n party stage (own party (drop first events))
    → AreAsked n (events ++ e ∷ []) (call_ended party first (length events) stage)
call_asked n party first events e Idle a = tt
call_asked n party first events e (Acquire capacity) a = tt
call_asked n party first events e (Follow capacity word) a = tt
call_asked n party first events e (Take capacity word next) a = tt
call_asked n party first events e (Release index mode) a = tt
call_asked n party first events e (Link index mode word) a = tt
call_asked n party first events e (Give index mode word) a = tt
call_asked n party first events e (Done c answer) a
    = (
      subst (λ (es : List Event). IsAsked n party c (Done c answer) (own party (drop first es))) (sym (take-append_seam events (e ∷ [])))
          a,
      tt,
    )

-- each party's call in hand, after a step of one of them
module _ (n : ℕ) (seats : List Seat) (events : List Event) (e : Event) (party : ℕ) (seat : Seat) (within : party < length seats)
    (its : party ≡ e.party)
    (began : (q : ℕ) → (seat_at seats q).first ≤ length events)
    (going : (q : ℕ) → IsAskedSoFar n q (stage_at seats q) (own q (drop (seat_at seats q).first events)))
    (here : IsAskedSoFar n party seat.stage (own party (drop seat.first (events ++ e ∷ [])))) where
  pub asked_all : (q : ℕ) → IsAskedSoFar n q (stage_at (set seats party seat) q)
      (own q (drop (seat_at (set seats party seat) q).first (events ++ e ∷ [])))
  asked_all q =
      ⊎_elim
      (λ (same : party ≡ q). subst (λ (q : ℕ). IsAskedSoFar n q (stage_at (set seats party seat) q)
      (own q (drop (seat_at (set seats party seat) q).first (events ++ e ∷ [])))) same
      (subst (λ (s : Seat). IsAskedSoFar n party s.stage (own party (drop s.first (events ++ e ∷ []))))
      (sym (seat_here seats party seat within)) here))
      (λ (differs : party ≡ q → ⊥). subst (λ (s : Seat). IsAskedSoFar n q s.stage (own q (drop s.first (events ++ e ∷ []))))
      (sym (seat_else seats party q seat (λ same. differs (sym same))))
      (subst (λ (es : List Event). IsAskedSoFar n q (stage_at seats q) es)
      (sym (own_else_since q (seat_at seats q).first events e (began q) (λ is. differs (its ∙ is)))) (going q)))
      (cases_eq party q)
