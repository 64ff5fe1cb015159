-- The calls on a container and those on its set of indices belong together after each step.
use Rattle.std.proofs.Common.{◌≡◌, ℕ, ◌+◌, inl, inr, ◌⊎◌, Bool, true, false, if◌then◌else◌, ◌==◌, nat_lt, Ok, Err, Option, Some, None, List}
use Rattle.std.proofs.Common.{[]}
use Rattle.std.proofs.Common.{◌∷◌, ◌++◌, length, take, drop, refl, sym, ◌∙◌, ap, subst, append_assoc, append-nil}
use Rattle.std.proofs.lemmas.Bool.{eq-eqb, eqb-true, ne_eqb}
use Rattle.iox_container.specs.declared.release.ReleaseMode.{ReleaseMode}
use Rattle.iox_queues_steps.specs.Access.{successor}
use Rattle.iox_queues.specs.Told.{own}
use Rattle.iox_queues.specs.declared.bits.machine.Event.{Event}
use Rattle.iox_robust_steps.specs.ContainerSteps.{answer_at, asked_for_place, is_shown, member_take, visited, visits_from, watches_from}
use Rattle.iox_robust_steps.specs.ContainerMachine.{asked_at, member_ended}
use Rattle.iox_robust_steps.specs.ContainerOfSet.{AnsweredCall, HaveReasons, HasReason, IsAnswered, answered_to, asked_for, asked_so_far}
use Rattle.iox_robust_steps.specs.ContainerOfSet.{asks_set}
use Rattle.iox_robust_steps.specs.Kept.{Knows}
use Rattle.iox_robust_steps.specs.Machine.{RobustSetState, call_ended, is_locked, seat_at, stage_at}
use Rattle.iox_robust_steps.specs.Steps.{call_in_hand}
use Rattle.iox_robust_steps.specs.Told.{AreTold, Tells}
use Rattle.iox_robust_steps.specs.declared.call.Answer.{Answer}
use Rattle.iox_robust_steps.specs.declared.call.Answer.TheVariants.{Acquired, Settled}
use Rattle.iox_robust_steps.specs.declared.call.Call.{Call}
use Rattle.iox_robust_steps.specs.declared.call.Call.TheVariants as set_call
use Rattle.iox_robust_steps.specs.declared.call.RobustCall.{RobustCall}
use Rattle.iox_robust_steps.specs.declared.call.RobustCall.TheVariants as set_stage
use Rattle.iox_robust_steps.specs.declared.container.call.ContainerCall.{ContainerCall}
use Rattle.iox_robust_steps.specs.declared.container.call.ContainerCall.TheVariants as stage
use Rattle.iox_robust_steps.specs.declared.container.call.MemberAnswer.{MemberAnswer}
use Rattle.iox_robust_steps.specs.declared.container.call.MemberAnswer.TheVariants.{Added, Removed, Updated}
use Rattle.iox_robust_steps.specs.declared.container.call.MemberCall.{MemberCall}
use Rattle.iox_robust_steps.specs.declared.container.call.MemberCall.TheVariants as call
use Rattle.iox_robust_steps.specs.declared.container.MemberFinished.{MemberFinished}
use Rattle.iox_robust_steps.specs.declared.machine.Finished.{Finished}
use Rattle.iox_robust_steps.proofs.ContainerSet.{never_acquired, never_settled, never_taken}

-- calls after others
pub answered_append : (q : ℕ) (xs ys : List Finished) → answered_to q (xs ++ ys) ≡ answered_to q xs ++ answered_to q ys
answered_append q [] ys = refl
answered_append q (x ∷ xs) ys =
    let first : List AnsweredCall = if x.party == q then record { call = x.call; answer = x.answer } ∷ [] else [] in
    ap (λ (cs : List AnsweredCall). first ++ cs) (answered_append q xs ys)
    ∙ sym (append_assoc first (answered_to q xs) (answered_to q ys))

pub asked_append : (q : ℕ) (xs ys : List MemberFinished) → asked_for q (xs ++ ys) ≡ asked_for q xs ++ asked_for q ys
asked_append q [] ys = refl
asked_append q (x ∷ xs) ys =
    let first : List AnsweredCall = if x.party == q then asks_set x.call x.answer else [] in
    ap (λ (cs : List AnsweredCall). first ++ cs) (asked_append q xs ys)
    ∙ sym (append_assoc first (asked_for q xs) (asked_for q ys))

-- what ends with a party's step is its own
none_answered : (p q first last : ℕ) (s : RobustCall) → (p ≡ q → ⊥) → answered_to q (call_ended p first last s) ≡ []
none_answered p q first last set_stage.Idle differs = refl
none_answered p q first last (set_stage.Acquire owner) differs = refl
none_answered p q first last (set_stage.Claim owner place count) differs = refl
none_answered p q first last (set_stage.Count owner place count) differs = refl
none_answered p q first last (set_stage.Confirm owner place) differs = refl
none_answered p q first last (set_stage.Undo owner place) differs = refl
none_answered p q first last (set_stage.Free owner index mode) differs = refl
none_answered p q first last (set_stage.Look owner number mode place) differs = refl
none_answered p q first last (set_stage.Clear owner number mode place seen) differs = refl
none_answered p q first last (set_stage.Settle c) differs = refl
none_answered p q first last (set_stage.Scan c place count) differs = refl
none_answered p q first last (set_stage.Lock c count) differs = refl
none_answered p q first last (set_stage.Done c a) differs =
    ap (λ (b : Bool). (if b then record { call = c; answer = a } ∷ [] else []) ++ []) (ne_eqb p q differs)

none_asked : (p q first last : ℕ) (t : ContainerCall) → (p ≡ q → ⊥) → asked_for q (member_ended p first last t) ≡ []
none_asked p q first last stage.Idle differs = refl
none_asked p q first last (stage.Enter number owner) differs = refl
none_asked p q first last (stage.Fill number owner index next) differs = refl
none_asked p q first last (stage.Show number owner index seen) differs = refl
none_asked p q first last (stage.Sink owner index mode) differs = refl
none_asked p q first last (stage.Hide owner index mode seen) differs = refl
none_asked p q first last (stage.Leave owner index mode) differs = refl
none_asked p q first last (stage.Drop owner index mode) differs = refl
none_asked p q first last (stage.Count c a) differs = refl
none_asked p q first last (stage.Raise c a seen) differs = refl
none_asked p q first last stage.Look differs = refl
none_asked p q first last (stage.Visit i) differs = refl
none_asked p q first last (stage.Gather i seen next) differs = refl
none_asked p q first last (stage.Search o j mode) differs = refl
none_asked p q first last (stage.Watch o j mode i) differs = refl
none_asked p q first last (stage.Ask o j mode i seen) differs = refl
none_asked p q first last (stage.Expel o j mode i seen) differs = refl
none_asked p q first last (stage.Clear o j mode i) differs = refl
none_asked p q first last (stage.Close o j mode) differs = refl
none_asked p q first last (stage.Done c a) differs =
    ap (λ (b : Bool). (if b then asks_set c a else []) ++ []) (ne_eqb p q differs)

-- a call on the set that has no answer doesn't end
none_ends : (p q first last : ℕ) (s : RobustCall) → answer_at s ≡ None → answered_to q (call_ended p first last s) ≡ []
none_ends p q first last set_stage.Idle h = refl
none_ends p q first last (set_stage.Acquire owner) h = refl
none_ends p q first last (set_stage.Claim owner place count) h = refl
none_ends p q first last (set_stage.Count owner place count) h = refl
none_ends p q first last (set_stage.Confirm owner place) h = refl
none_ends p q first last (set_stage.Undo owner place) h = refl
none_ends p q first last (set_stage.Free owner index mode) h = refl
none_ends p q first last (set_stage.Look owner number mode place) h = refl
none_ends p q first last (set_stage.Clear owner number mode place seen) h = refl
none_ends p q first last (set_stage.Settle c) h = refl
none_ends p q first last (set_stage.Scan c place count) h = refl
none_ends p q first last (set_stage.Lock c count) h = refl
none_ends p q first last (set_stage.Done c a) h = absurd (cc)

-- one that has it ends, and is the one that was in hand
one_ends : (p first last : ℕ) (s : RobustCall) (c : Call) (a : Answer) → call_in_hand s ≡ Some c → answer_at s ≡ Some a
    → answered_to p (call_ended p first last s) ≡ record { call = c; answer = a } ∷ []
one_ends p first last set_stage.Idle c a is h = absurd (cc)
one_ends p first last (set_stage.Acquire owner) c a is h = absurd (cc)
one_ends p first last (set_stage.Claim owner place count) c a is h = absurd (cc)
one_ends p first last (set_stage.Count owner place count) c a is h = absurd (cc)
one_ends p first last (set_stage.Confirm owner place) c a is h = absurd (cc)
one_ends p first last (set_stage.Undo owner place) c a is h = absurd (cc)
one_ends p first last (set_stage.Free owner index mode) c a is h = absurd (cc)
one_ends p first last (set_stage.Look owner number mode place) c a is h = absurd (cc)
one_ends p first last (set_stage.Clear owner number mode place seen) c a is h = absurd (cc)
one_ends p first last (set_stage.Settle d) c a is h = absurd (cc)
one_ends p first last (set_stage.Scan d place count) c a is h = absurd (cc)
one_ends p first last (set_stage.Lock d count) c a is h = absurd (cc)
one_ends p first last (set_stage.Done d b) c a is h =
    let same : d ≡ c = cc in
    let so : b ≡ a = cc in
    ap (λ (t : Bool). (if t then record { call = d; answer = b } ∷ [] else []) ++ []) (eq-eqb p p refl)
    ∙ ap (λ (e : Call). record { call = e; answer = b } ∷ []) same
    ∙ ap (λ (e : Answer). record { call = c; answer = e } ∷ []) so

-- the calls on the set that end where a party at this stage of its call on the container goes on
abbrev pub set_ended : RobustSetState → ℕ → ContainerCall → List Finished
set_ended set p stage.Idle = []
set_ended set p (stage.Enter number owner) = call_ended p (seat_at set.seats p).first (length set.events) (stage_at set.seats p)
set_ended set p (stage.Fill number owner index next) = []
set_ended set p (stage.Show number owner index seen) = []
set_ended set p (stage.Sink owner index mode) = []
set_ended set p (stage.Hide owner index mode seen) = []
set_ended set p (stage.Leave owner index mode) = []
set_ended set p (stage.Drop owner index mode) = call_ended p (seat_at set.seats p).first (length set.events) (stage_at set.seats p)
set_ended set p (stage.Count c a) = []
set_ended set p (stage.Raise c a seen) = []
set_ended set p stage.Look = []
set_ended set p (stage.Visit i) = []
set_ended set p (stage.Gather i seen next) = []
set_ended set p (stage.Search o j mode) = []
set_ended set p (stage.Watch o j mode i) = []
set_ended set p (stage.Ask o j mode i seen) = call_ended p (seat_at set.seats p).first (length set.events) (stage_at set.seats p)
set_ended set p (stage.Expel o j mode i seen) = []
set_ended set p (stage.Clear o j mode i) = call_ended p (seat_at set.seats p).first (length set.events) (stage_at set.seats p)
set_ended set p (stage.Close o j mode) = call_ended p (seat_at set.seats p).first (length set.events) (stage_at set.seats p)
set_ended set p (stage.Done c a) = []

finished_then : (set : RobustSetState) (p : ℕ) (t : ContainerCall) → (asked_at set p t).finished ≡ set.finished ++ set_ended set p t
finished_then set p stage.Idle = sym (append-nil set.finished)
finished_then set p (stage.Enter number owner) = refl
finished_then set p (stage.Fill number owner index next) = sym (append-nil set.finished)
finished_then set p (stage.Show number owner index seen) = sym (append-nil set.finished)
finished_then set p (stage.Sink owner index mode) = sym (append-nil set.finished)
finished_then set p (stage.Hide owner index mode seen) = sym (append-nil set.finished)
finished_then set p (stage.Leave owner index mode) = sym (append-nil set.finished)
finished_then set p (stage.Drop owner index mode) = refl
finished_then set p (stage.Count c a) = sym (append-nil set.finished)
finished_then set p (stage.Raise c a seen) = sym (append-nil set.finished)
finished_then set p stage.Look = sym (append-nil set.finished)
finished_then set p (stage.Visit i) = sym (append-nil set.finished)
finished_then set p (stage.Gather i seen next) = sym (append-nil set.finished)
finished_then set p (stage.Search o j mode) = sym (append-nil set.finished)
finished_then set p (stage.Watch o j mode i) = sym (append-nil set.finished)
finished_then set p (stage.Ask o j mode i seen) = refl
finished_then set p (stage.Expel o j mode i seen) = sym (append-nil set.finished)
finished_then set p (stage.Clear o j mode i) = refl
finished_then set p (stage.Close o j mode) = refl
finished_then set p (stage.Done c a) = sym (append-nil set.finished)

none_ended_else : (set : RobustSetState) (p q : ℕ) (t : ContainerCall) → (p ≡ q → ⊥) → answered_to q (set_ended set p t) ≡ []
none_ended_else set p q stage.Idle differs = refl
none_ended_else set p q (stage.Enter number owner) differs = none_answered p q _ _ (stage_at set.seats p) differs
none_ended_else set p q (stage.Fill number owner index next) differs = refl
none_ended_else set p q (stage.Show number owner index seen) differs = refl
none_ended_else set p q (stage.Sink owner index mode) differs = refl
none_ended_else set p q (stage.Hide owner index mode seen) differs = refl
none_ended_else set p q (stage.Leave owner index mode) differs = refl
none_ended_else set p q (stage.Drop owner index mode) differs = none_answered p q _ _ (stage_at set.seats p) differs
none_ended_else set p q (stage.Count c a) differs = refl
none_ended_else set p q (stage.Raise c a seen) differs = refl
none_ended_else set p q stage.Look differs = refl
none_ended_else set p q (stage.Visit i) differs = refl
none_ended_else set p q (stage.Gather i seen next) differs = refl
none_ended_else set p q (stage.Search o j mode) differs = refl
none_ended_else set p q (stage.Watch o j mode i) differs = refl
none_ended_else set p q (stage.Ask o j mode i seen) differs = none_answered p q _ _ (stage_at set.seats p) differs
none_ended_else set p q (stage.Expel o j mode i seen) differs = refl
none_ended_else set p q (stage.Clear o j mode i) differs = none_answered p q _ _ (stage_at set.seats p) differs
none_ended_else set p q (stage.Close o j mode) differs = none_answered p q _ _ (stage_at set.seats p) differs
none_ended_else set p q (stage.Done c a) differs = refl

-- a stage that has asked the set for nothing so far, or for one call
abbrev HasAsked : ContainerCall → List AnsweredCall → Type 0
HasAsked t cs = asked_so_far t ≡ cs

either_asked : (b : Bool) (one other : ContainerCall) (cs : List AnsweredCall) → HasAsked one cs → HasAsked other cs
    → HasAsked (if b then one else other) cs
either_asked true one other cs h g = h
either_asked false one other cs h g = g

visits_asked : (n i : ℕ) → HasAsked (visits_from n i) []
visits_asked n i = either_asked (nat_lt i n) (stage.Visit i) (stage.Done call.Update (Updated true)) [] refl refl

visited_asked : (n i count : ℕ) → HasAsked (visited n i count) []
visited_asked n i count = either_asked (is_shown count) (stage.Gather i count 0) _ [] refl (visits_asked n (successor i))

watches_asked : (n owner number : ℕ) (mode : ReleaseMode) (i : ℕ) → HasAsked (watches_from n owner number mode i) []
watches_asked n owner number mode i = either_asked (nat_lt i n) (stage.Watch owner number mode i) (stage.Close owner number mode) [] refl
    refl

place_asked : (n owner number : ℕ) (mode : ReleaseMode) (i seen : ℕ) (finds : Bool)
    → HasAsked (asked_for_place n owner number mode i seen finds) []
place_asked n owner number mode i seen true = either_asked (is_shown seen) (stage.Expel owner number mode i seen)
    (stage.Clear owner number mode i) [] refl refl
place_asked n owner number mode i seen false = watches_asked n owner number mode (successor i)

-- a party's own step: what it asked the set for so far, and what the set ends with the step, is what the call ends with it, and what it
-- asked for so far then
module _ (set : RobustSetState) (p n width saw first last answer : ℕ) (finds : Bool) (es : List Event)
    (known : Knows set.capacity set.words set.places set.lost p es (stage_at set.seats p)) where
  abbrev s : RobustCall
  s = stage_at set.seats p

  -- what the call knows of its call on the set, while it asks that
  abbrev pub AsksFor : ContainerCall → Type 0
  AsksFor stage.Idle = Unit {0}
  AsksFor (stage.Enter number owner) = call_in_hand s ≡ Some (set_call.Acquire owner)
  AsksFor (stage.Fill number owner index next) = Unit {0}
  AsksFor (stage.Show number owner index seen) = Unit {0}
  AsksFor (stage.Sink owner index mode) = Unit {0}
  AsksFor (stage.Hide owner index mode seen) = Unit {0}
  AsksFor (stage.Leave owner index mode) = Unit {0}
  AsksFor (stage.Drop owner index mode) = call_in_hand s ≡ Some (set_call.Release owner index mode)
  AsksFor (stage.Count c a) = Unit {0}
  AsksFor (stage.Raise c a seen) = Unit {0}
  AsksFor stage.Look = Unit {0}
  AsksFor (stage.Visit i) = Unit {0}
  AsksFor (stage.Gather i seen next) = Unit {0}
  AsksFor (stage.Search o j mode) = Unit {0}
  AsksFor (stage.Watch o j mode i) = Unit {0}
  AsksFor (stage.Ask o j mode i seen) = answer_at s ≡ None
  AsksFor (stage.Expel o j mode i seen) = Unit {0}
  AsksFor (stage.Clear o j mode i) = answer_at s ≡ None
  AsksFor (stage.Close o j mode) = call_in_hand s ≡ Some (set_call.Recover o j mode)
  AsksFor (stage.Done c a) = Unit {0}

  abbrev Balances : ContainerCall → Type 0
  Balances t = asked_so_far t ++ answered_to p (set_ended set p t)
      ≡ asked_for p (member_ended p first last t) ++ asked_so_far (member_take n width saw (answer_at s) finds t answer)

  enters : (number owner : ℕ) → call_in_hand s ≡ Some (set_call.Acquire owner) → (o : Option Answer) → answer_at s ≡ o
      → answered_to p (call_ended p (seat_at set.seats p).first (length set.events) s)
      ≡ asked_so_far (member_take n width saw o finds (stage.Enter number owner) answer)
  enters number owner is None h = none_ends p p _ _ s h
  enters number owner is (Some (Acquired (Ok i))) h = one_ends p _ _ s (set_call.Acquire owner) (Acquired (Ok i)) is h
  enters number owner is (Some (Acquired (Err why))) h = one_ends p _ _ s (set_call.Acquire owner) (Acquired (Err why)) is h
  enters number owner is (Some (Settled state)) h =
      absurd (never_settled set.capacity p set.words set.places set.lost es owner state s is h known)

  drops : (owner index : ℕ) (mode : ReleaseMode) → call_in_hand s ≡ Some (set_call.Release owner index mode) → (o : Option Answer)
      → answer_at s ≡ o
      → answered_to p (call_ended p (seat_at set.seats p).first (length set.events) s)
      ≡ asked_so_far (member_take n width saw o finds (stage.Drop owner index mode) answer)
  drops owner index mode is None h = none_ends p p _ _ s h
  drops owner index mode is (Some (Settled state)) h = one_ends p _ _ s (set_call.Release owner index mode) (Settled state) is h
  drops owner index mode is (Some (Acquired got)) h =
      absurd (never_acquired set.capacity p set.words set.places set.lost es owner index mode got s is h known)

  closes : (owner number : ℕ) (mode : ReleaseMode) → call_in_hand s ≡ Some (set_call.Recover owner number mode) → (o : Option Answer)
      → answer_at s ≡ o
      → answered_to p (call_ended p (seat_at set.seats p).first (length set.events) s)
      ≡ asked_so_far (member_take n width saw o finds (stage.Close owner number mode) answer)
  closes owner number mode is None h = none_ends p p _ _ s h
  closes owner number mode is (Some (Settled state)) h = one_ends p _ _ s (set_call.Recover owner number mode) (Settled state) is h
  closes owner number mode is (Some (Acquired got)) h =
      absurd (never_taken set.capacity p set.words set.places set.lost es owner number mode got s is h known)

  pub balances : (t : ContainerCall) → AsksFor t → Balances t
  balances stage.Idle k = refl
  balances (stage.Enter number owner) k = enters number owner k (answer_at s) refl
  balances (stage.Fill number owner index next) k = sym (either_asked (nat_lt next width) (stage.Fill number owner index (next + 1))
      (stage.Show number owner index answer) (asked_so_far (stage.Fill number owner index next)) refl refl)
  balances (stage.Show number owner index seen) k = refl
  balances (stage.Sink owner index mode) k = refl
  balances (stage.Hide owner index mode seen) k = refl
  balances (stage.Leave owner index mode) k = refl
  balances (stage.Drop owner index mode) k = drops owner index mode k (answer_at s) refl
  balances (stage.Count c a) k = append-nil (asks_set c a)
  balances (stage.Raise c a seen) k = append-nil (asks_set c a)
      ∙ sym (either_asked (answer == seen) (stage.Done c a) (stage.Raise c a answer) (asks_set c a) refl refl)
  balances (stage.Search o j mode) k = sym (watches_asked n o j mode 0)
  balances (stage.Watch o j mode i) k = refl
  balances (stage.Ask o j mode i seen) k = none_ends p p _ _ s k ∙ sym (place_asked n o j mode i seen finds)
  balances (stage.Expel o j mode i seen) k = refl
  balances (stage.Clear o j mode i) k = none_ends p p _ _ s k ∙ sym (watches_asked n o j mode (successor i))
  balances (stage.Close o j mode) k = closes o j mode k (answer_at s) refl
  balances stage.Look k = sym (either_asked (answer == saw) (stage.Done call.Update (Updated false)) _ [] refl (visits_asked n 0))
  balances (stage.Visit i) k = sym (visited_asked n i answer)
  balances (stage.Gather i seen next) k = sym (either_asked (nat_lt next width) (stage.Gather i seen (next + 1)) _ [] refl
      (either_asked (answer == seen) _ _ [] (visits_asked n (successor i)) (visited_asked n i answer)))
  balances (stage.Done c a) k =
      append-nil (asks_set c a)
      ∙ sym (ap (λ (b : Bool). ((if b then asks_set c a else []) ++ []) ++ []) (eq-eqb p p refl)
      ∙ append-nil (asks_set c a ++ []) ∙ append-nil (asks_set c a))

  -- so of all that the party asked for
  pub own_asks : (t : ContainerCall) → AsksFor t → (finished : List MemberFinished)
      → answered_to p set.finished ≡ asked_for p finished ++ asked_so_far t
      → answered_to p (asked_at set p t).finished
      ≡ asked_for p (finished ++ member_ended p first last t) ++ asked_so_far (member_take n width saw (answer_at s) finds t answer)
  own_asks t k finished before =
      let onward : ContainerCall = member_take n width saw (answer_at s) finds t answer in
      ap (answered_to p) (finished_then set p t)
      ∙ answered_append p set.finished (set_ended set p t)
      ∙ ap (λ (cs : List AnsweredCall). cs ++ answered_to p (set_ended set p t)) before
      ∙ append_assoc (asked_for p finished) (asked_so_far t) (answered_to p (set_ended set p t))
      ∙ ap (λ (cs : List AnsweredCall). asked_for p finished ++ cs) (balances t k)
      ∙ sym (append_assoc (asked_for p finished) (asked_for p (member_ended p first last t)) (asked_so_far onward))
      ∙ ap (λ (cs : List AnsweredCall). cs ++ asked_so_far onward) (sym (asked_append p finished (member_ended p first last t)))

-- another party asked for nothing
pub else_asks : (set : RobustSetState) (p q first last : ℕ) (t u : ContainerCall) (finished : List MemberFinished) → (p ≡ q → ⊥)
    → answered_to q set.finished ≡ asked_for q finished ++ asked_so_far u
    → answered_to q (asked_at set p t).finished ≡ asked_for q (finished ++ member_ended p first last t) ++ asked_so_far u
else_asks set p q first last t u finished differs before =
    ap (answered_to q) (finished_then set p t)
    ∙ answered_append q set.finished (set_ended set p t)
    ∙ ap (λ (cs : List AnsweredCall). answered_to q set.finished ++ cs) (none_ended_else set p q t differs)
    ∙ append-nil (answered_to q set.finished) ∙ before
    ∙ ap (λ (cs : List AnsweredCall). cs ++ asked_so_far u)
    (sym (asked_append q finished (member_ended p first last t)
    ∙ ap (λ (cs : List AnsweredCall). asked_for q finished ++ cs) (none_asked p q first last t differs)
    ∙ append-nil (asked_for q finished)))

-- this call is one of these
abbrev IsIn : AnsweredCall → List AnsweredCall → Type 0
IsIn x [] = ⊥
IsIn x (y ∷ ys) = (y ≡ x) ⊎ IsIn x ys

in_first : (x : AnsweredCall) (xs ys : List AnsweredCall) → IsIn x xs → IsIn x (xs ++ ys)
in_first x [] ys h = absurd h
in_first x (y ∷ xs) ys (inl h) = inl h
in_first x (y ∷ xs) ys (inr h) = inr (in_first x xs ys h)

in_last : (x : AnsweredCall) (xs ys : List AnsweredCall) → IsIn x ys → IsIn x (xs ++ ys)
in_last x [] ys h = h
in_last x (y ∷ xs) ys h = inr (in_last x xs ys h)

module _ (n : ℕ) (locked : Bool) (events : List Event) (party : ℕ) (c : Call) (a : Answer) where
  abbrev x : AnsweredCall
  x = record { call = c; answer = a }

  here : (f : Finished) (rest : List Finished) → f.party ≡ party
      → ◌≡◌ {A = AnsweredCall} (record { call = f.call; answer = f.answer }) x
      → Tells n locked (own f.party (drop f.first (take f.last events))) f.call f.answer
      → IsAnswered n locked events (f ∷ rest) party c a
  here f rest its is told =
      let same : f.call ≡ c = ap (λ (y : AnsweredCall). y.call) is in
      let so : f.answer ≡ a = ap (λ (y : AnsweredCall). y.answer) is in
      record {
        before = [];
        ended = f;
        after = rest;
        whole = refl;
        its = its;
        is = same;
        so = so;
        tells = subst (λ (q : ℕ). Tells n locked (own q (drop f.first (take f.last events))) c a) its
            (subst (λ (b : Answer). Tells n locked (own f.party (drop f.first (take f.last events))) c b) so
            (subst (λ (d : Call). Tells n locked (own f.party (drop f.first (take f.last events))) d f.answer) same told));
      }

  further : (f : Finished) (rest : List Finished) → IsAnswered n locked events rest party c a
      → IsAnswered n locked events (f ∷ rest) party c a
  further f rest h = record {
    before = f ∷ h.before;
    ended = h.ended;
    after = h.after;
    whole = ap (λ (fs : List Finished). f ∷ fs) h.whole;
    its = h.its;
    is = h.is;
    so = h.so;
    tells = h.tells;
  }

  -- it is the first of these calls, if that is the party's, or a further one
  first_or : (f : Finished) (finished : List Finished) → Tells n locked (own f.party (drop f.first (take f.last events))) f.call f.answer
      → (IsIn x (answered_to party finished) → IsAnswered n locked events finished party c a)
      → (b : Bool) → (f.party == party) ≡ b
      → IsIn x ((if b then record { call = f.call; answer = f.answer } ∷ [] else []) ++ answered_to party finished)
      → IsAnswered n locked events (f ∷ finished) party c a
  first_or f finished told rest true e (inl is) = here f finished (eqb-true f.party party e) is told
  first_or f finished told rest true e (inr h) = further f finished (rest h)
  first_or f finished told rest false e h = further f finished (rest h)

  pub found : (finished : List Finished) → AreTold n locked events finished → IsIn x (answered_to party finished)
      → IsAnswered n locked events finished party c a
  found [] told h = absurd h
  found (f ∷ finished) told h = first_or f finished told.0 (λ rest. found finished told.1 rest) (f.party == party) refl h

-- why calls were answered so
module _ (set : RobustSetState) (told : AreTold set.capacity (is_locked set) set.events set.finished) where
  reason : (party : ℕ) (c : MemberCall) (a : MemberAnswer)
      → ((x : AnsweredCall) → IsIn x (asks_set c a) → IsIn x (answered_to party set.finished)) → HasReason set party c a
  reason party (call.Add number owner) (Added got) all =
      found set.capacity (is_locked set) set.events party (set_call.Acquire owner) (Acquired got) set.finished told
      (all (record { call = set_call.Acquire owner; answer = Acquired got }) (inl refl))
  reason party (call.Add number owner) (Removed state) all = tt
  reason party (call.Add number owner) (Updated copied) all = tt
  reason party (call.Remove owner index mode) (Added got) all = tt
  reason party (call.Remove owner index mode) (Removed state) all =
      found set.capacity (is_locked set) set.events party (set_call.Release owner index mode) (Settled state) set.finished told
      (all (record { call = set_call.Release owner index mode; answer = Settled state }) (inl refl))
  reason party (call.Remove owner index mode) (Updated copied) all = tt
  reason party call.Update a all = tt
  reason party (call.Recover owner number mode) (Added got) all = tt
  reason party (call.Recover owner number mode) (Removed state) all =
      found set.capacity (is_locked set) set.events party (set_call.Recover owner number mode) (Settled state) set.finished told
      (all (record { call = set_call.Recover owner number mode; answer = Settled state }) (inl refl))
  reason party (call.Recover owner number mode) (Updated copied) all = tt

  pub reasons_of : (finished : List MemberFinished)
      → ((party : ℕ) (x : AnsweredCall) → IsIn x (asked_for party finished) → IsIn x (answered_to party set.finished))
      → HaveReasons set finished
  reasons_of [] all = tt
  reasons_of (f ∷ finished) all = (
    reason f.party f.call f.answer (λ x is. all f.party x (subst (λ (b : Bool).
        IsIn x ((if b then asks_set f.call f.answer else []) ++ asked_for f.party finished)) (sym (eq-eqb f.party f.party refl))
        (in_first x (asks_set f.call f.answer) (asked_for f.party finished) is))),
    reasons_of finished (λ party x is. all party x (in_last x (if f.party == party then asks_set f.call f.answer else [])
        (asked_for party finished) is)),
  )

  pub all_reasons : (finished : List MemberFinished) (so_far : ℕ → List AnsweredCall)
      → ((party : ℕ) → answered_to party set.finished ≡ asked_for party finished ++ so_far party) → HaveReasons set finished
  all_reasons finished so_far asks = reasons_of finished (λ party x is. subst (IsIn x) (sym (asks party))
      (in_first x (asked_for party finished) (so_far party) is))
