-- What a step leaves of each call, of those that ended, and of the sizes.
use Rattle.std.proofs.Common.{◌≡◌, ℕ, ◌<◌, ◌≤◌, ⊎_elim, Bool, true, false, if◌then◌else◌, ◌==◌, nat_le, Option, Some, None, Ok, Err, List}
use Rattle.std.proofs.Common.{[], ◌∷◌, ◌++◌, length, set, take, refl, sym, ◌∙◌, subst, arith, length-append, length-set}
use Rattle.std.proofs.Math.Seq.{take-append_seam}
use Rattle.std.proofs.lemmas.Bool.{cases_eq, leb-false}
use Rattle.std.proofs.lemmas.List.{take-append-le}
use Rattle.iox_queues_steps.specs.Access.{RingWords, after_access}
use Rattle.iox_container.specs.declared.error.UniqueIndexSetAcquireFailure.TheVariants.{OutOfIndices, IsLocked}
use Rattle.iox_queues.specs.declared.bits.machine.Event.{Event}
use Rattle.iox_index_steps.specs.Steps.{call_next, call_take, next_free, head_given, head_taken, borrowed_count, is_locked_by, lock_mark}
use Rattle.iox_index_steps.specs.Steps.{saw_index, seen_by_acquire}
use Rattle.iox_index_steps.specs.Told.{LieWithin, AreTold, Tells}
use Rattle.iox_index_steps.specs.Machine.{call_ended, holders_after, seat_at, stage_at}
use Rattle.iox_index_steps.specs.Kept.{HasCells, Knows}
use Rattle.iox_index_steps.specs.declared.call.Answer.TheVariants.{Acquired}
use Rattle.iox_index_steps.specs.declared.call.Call.TheVariants as call
use Rattle.iox_index_steps.specs.declared.call.IndexCall.{IndexCall}
use Rattle.iox_index_steps.specs.declared.call.IndexCall.TheVariants.{Idle, Acquire, Follow, Take, Release, Link, Give, Done}
use Rattle.iox_index_steps.specs.declared.machine.Finished.{Finished}
use Rattle.iox_index_steps.specs.declared.state.Seat.{Seat}
use Rattle.iox_index_steps.proofs.Knowing.{LeavesToOthers, knows_else, tells_same}
use Rattle.iox_index_steps.proofs.Seats.{seat_else, seat_here}

-- calls that ended stay among the steps, and told
pub among_on : (events : List Event) (e : Event) (finished : List Finished) → LieWithin events finished
    → LieWithin (events ++ e ∷ []) finished
among_on events e [] h = tt
among_on events e (f ∷ finished) h =
    ((record { begun = h.0.begun; ended = omega (arith, h.0.ended, length-append events (e ∷ [])) }), among_on events e finished h.1)

pub among_append : (events : List Event) (xs ys : List Finished) → LieWithin events xs → LieWithin events ys → LieWithin events (xs ++ ys)
among_append events [] ys h g = g
among_append events (x ∷ xs) ys h g = (h.0, among_append events xs ys h.1 g)

pub told_on : (n n' : ℕ) (locked locked' : Bool) (events : List Event) (e : Event) (finished : List Finished) → n' ≡ n
    → (locked ≡ true → locked' ≡ true) → LieWithin events finished
    → AreTold n locked events finished → AreTold n' locked' (events ++ e ∷ []) finished
told_on n n' locked locked' events e [] same keeps among h = tt
told_on n n' locked locked' events e (f ∷ finished) same keeps among h = (
  subst (λ (es : List Event). Tells n' locked' f.party f.first es f.call f.answer)
      (sym (take-append-le f.last events (e ∷ []) (omega (arith, among.0.ended))))
      (tells_same n n' locked locked' f.party f.first (take f.last events) f.call f.answer same keeps h.0),
  told_on n n' locked locked' events e finished same keeps among.1 h.1,
)

pub told_append : (n : ℕ) (locked : Bool) (events : List Event) (xs ys : List Finished) → AreTold n locked events xs
    → AreTold n locked events ys → AreTold n locked events (xs ++ ys)
told_append n locked events [] ys h g = g
told_append n locked events (x ∷ xs) ys h g = (h.0, told_append n locked events xs ys h.1 g)

pub ended_among : (events : List Event) (e : Event) (party first : ℕ) (stage : IndexCall) → first ≤ length events
    → LieWithin (events ++ e ∷ []) (call_ended party first (length events) stage)
ended_among events e party first Idle h = tt
ended_among events e party first (Acquire capacity) h = tt
ended_among events e party first (Follow capacity word) h = tt
ended_among events e party first (Take capacity word next) h = tt
ended_among events e party first (Release index mode) h = tt
ended_among events e party first (Link index mode word) h = tt
ended_among events e party first (Give index mode word) h = tt
ended_among events e party first (Done c answer) h = ((record { begun = h; ended = omega (arith, length-append events (e ∷ [])) }), tt)

pub ended_told : (words : RingWords) (holders : List (Option ℕ)) (n : ℕ) (locked : Bool) (events : List Event) (e : Event)
    (party first : ℕ) (stage : IndexCall)
    → n ≡ length words.cells → (is_locked_by (length words.cells) words.read ≡ true → locked ≡ true)
    → Knows words holders events party first stage
    → AreTold n locked (events ++ e ∷ []) (call_ended party first (length events) stage)
ended_told words holders n locked events e party first Idle same keeps k = tt
ended_told words holders n locked events e party first (Acquire capacity) same keeps k = tt
ended_told words holders n locked events e party first (Follow capacity word) same keeps k = tt
ended_told words holders n locked events e party first (Take capacity word next) same keeps k = tt
ended_told words holders n locked events e party first (Release index mode) same keeps k = tt
ended_told words holders n locked events e party first (Link index mode word) same keeps k = tt
ended_told words holders n locked events e party first (Give index mode word) same keeps k = tt
ended_told words holders n locked events e party first (Done c answer) same keeps k = (
  subst (λ (es : List Event). Tells n locked party first es c answer) (sym (take-append_seam events (e ∷ [])))
      (tells_same (length words.cells) n (is_locked_by (length words.cells) words.read) locked party first events c answer same keeps k),
  tt,
)

-- each party knows its call after a step of one of them
module _ (words words' : RingWords) (holders holders' : List (Option ℕ)) (seats : List Seat) (events : List Event) (e : Event)
    (party : ℕ) (seat : Seat) (within : party < length seats)
    (its : party ≡ e.party) (began : (q : ℕ) → (seat_at seats q).first ≤ length events)
    (knows : (q : ℕ) → Knows words holders events q (seat_at seats q).first (stage_at seats q))
    (leaves : (q : ℕ) → (party ≡ q → ⊥) → LeavesToOthers q words words' holders holders' e)
    (here : Knows words' holders' (events ++ e ∷ []) party seat.first seat.stage) where
  pub knows_all : (q : ℕ) → Knows words' holders' (events ++ e ∷ []) q (seat_at (set seats party seat) q).first
      (stage_at (set seats party seat) q)
  knows_all q =
      ⊎_elim
      (λ (same : party ≡ q). subst (λ (q : ℕ). Knows words' holders' (events ++ e ∷ []) q (seat_at (set seats party seat) q).first
      (stage_at (set seats party seat) q)) same
      (subst (λ (s : Seat). Knows words' holders' (events ++ e ∷ []) party s.first s.stage) (sym (seat_here seats party seat within)) here))
      (λ (differs : party ≡ q → ⊥). subst (λ (s : Seat). Knows words' holders' (events ++ e ∷ []) q s.first s.stage)
      (sym (seat_else seats party q seat (λ same. differs (sym same))))
      (knows_else q (seat_at seats q).first words words' holders holders' events e (λ is. differs (its ∙ is)) (began q)
      (leaves q differs) (stage_at seats q) (knows q)))
      (cases_eq party q)

-- what holds of each seat holds after one was set
pub each_seat : (P : Seat → Type 0) (P' : Seat → Type 0) (seats : List Seat) (party : ℕ) (seat : Seat) → party < length seats
    → ((q : ℕ) → P (seat_at seats q)) → ((s : Seat) → P s → P' s) → P' seat
    → (q : ℕ) → P' (seat_at (set seats party seat) q)
each_seat P P' seats party seat within before keeps here q =
    ⊎_elim
    (λ (same : party ≡ q). subst (λ (q : ℕ). P' (seat_at (set seats party seat) q)) same
    (subst P' (sym (seat_here seats party seat within)) here))
    (λ (differs : party ≡ q → ⊥). subst P' (sym (seat_else seats party q seat (λ same. differs (sym same))))
    (keeps (seat_at seats q) (before q)))
    (cases_eq party q)

-- no step changes how many cells and holders there are
kept_cells : (words : RingWords) (new : ℕ) (b : Bool) → length (if b then record words { read = new } else words).cells ≡ length words.cells
kept_cells words new true = refl
kept_cells words new false = refl

pub same_cells : (words : RingWords) (stage : IndexCall) → length (after_access words (call_next stage)).cells ≡ length words.cells
same_cells words Idle = refl
same_cells words (Acquire capacity) = refl
same_cells words (Follow capacity word) = refl
same_cells words (Take capacity word next) = kept_cells words (head_taken word next) (words.read == word)
same_cells words (Release index mode) = refl
same_cells words (Link index mode word) = length-set words.cells _ _
same_cells words (Give index mode word) = kept_cells words (head_given index mode word) (words.read == word)
same_cells words (Done c answer) = refl

kept_holders : (holders : List (Option ℕ)) (i : ℕ) (holder : Option ℕ) (b : Bool)
    → length (if b then set holders i holder else holders) ≡ length holders
kept_holders holders i holder true = length-set holders i holder
kept_holders holders i holder false = refl

pub same_holders : (holders : List (Option ℕ)) (party answer : ℕ) (stage : IndexCall)
    → length (holders_after holders party stage answer) ≡ length holders
same_holders holders party answer Idle = refl
same_holders holders party answer (Acquire capacity) = refl
same_holders holders party answer (Follow capacity word) = refl
same_holders holders party answer (Take capacity word next) = kept_holders holders (next_free word) (Some party) (answer == word)
same_holders holders party answer (Release index mode) = refl
same_holders holders party answer (Link index mode word) = refl
same_holders holders party answer (Give index mode word) = kept_holders holders index None (answer == word)
same_holders holders party answer (Done c answer') = refl

-- a call has its cells at its next stage
seen_cells : (n capacity word : ℕ) → capacity ≡ n → (full marked : Bool) → nat_le capacity (next_free word) ≡ full
    → HasCells n (if full then Done call.Acquire (Acquired (Err OutOfIndices)) else if marked then Done call.Acquire
    (Acquired (Err IsLocked)) else Follow capacity word)
seen_cells n capacity word same true marked f = tt
seen_cells n capacity word same false true f = tt
seen_cells n capacity word same false false f = (same, omega (arith, same, leb-false capacity (next_free word) f))

taken_cells : (n capacity word answer : ℕ) → capacity ≡ n → (b : Bool)
    → HasCells n (if b then Done call.Acquire (Acquired (Ok (next_free word))) else seen_by_acquire capacity answer)
taken_cells n capacity word answer same true = tt
taken_cells n capacity word answer same false
    = seen_cells n capacity answer same (nat_le capacity (next_free answer)) (borrowed_count answer == lock_mark) refl

given_cells : (n : ℕ) (done again : IndexCall) (b : Bool) → HasCells n done → HasCells n again → HasCells n (if b then done else again)
given_cells n done again true h g = h
given_cells n done again false h g = g

pub next_cells : (n answer : ℕ) (stage : IndexCall) → HasCells n stage → HasCells n (call_take stage answer)
next_cells n answer Idle h = tt
next_cells n answer (Acquire capacity) h
    = seen_cells n capacity answer h (nat_le capacity (next_free answer)) (borrowed_count answer == lock_mark) refl
next_cells n answer (Follow capacity word) h = h
next_cells n answer (Take capacity word next) h = taken_cells n capacity word answer h.0 (answer == word)
next_cells n answer (Release index mode) h = h
next_cells n answer (Link index mode word) h = h
next_cells n answer (Give index mode word) h = given_cells n _ (Link index mode answer) (answer == word) tt h
next_cells n answer (Done c answer') h = tt

pub some_cells : (n : ℕ) (stage : IndexCall) → HasCells n stage → saw_index stage ≡ true → 0 < n
some_cells n Idle h saw = absurd (cc)
some_cells n (Acquire capacity) h saw = absurd (cc)
some_cells n (Follow capacity word) h saw = h.1
some_cells n (Take capacity word next) h saw = h.1
some_cells n (Release index mode) h saw = h
some_cells n (Link index mode word) h saw = h
some_cells n (Give index mode word) h saw = h
some_cells n (Done c answer) h saw = absurd (cc)
