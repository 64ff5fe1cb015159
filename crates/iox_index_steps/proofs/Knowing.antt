-- What a call knows, after a step of another party and after its own.
use Rattle.std.proofs.Common.{◌≡◌, ℕ, ◌+◌, ◌<◌, ◌≤◌, Bool, true, Option, Ok, Err, List, [], ◌∷◌, ◌++◌, length, slice_index, drop, sym}
use Rattle.std.proofs.Common.{◌∙◌, ap, subst, arith, append_assoc}
use Rattle.iox_queues_steps.specs.Access.{RingWords}
use Rattle.iox_container.specs.declared.error.UniqueIndexSetAcquireFailure.TheVariants.{OutOfIndices, IsLocked}
use Rattle.iox_container.specs.declared.release.ReleaseMode.TheVariants.{LockIfLastIndex, Default}
use Rattle.iox_container.specs.declared.release.ReleaseState.TheVariants.{Locked, Unlocked}
use Rattle.iox_queues.specs.Told.{own}
use Rattle.iox_queues.specs.declared.bits.machine.Event.{Event}
use Rattle.iox_index_steps.specs.Steps.{next_free, is_locked_by}
use Rattle.iox_index_steps.specs.Changes.{changed_by}
use Rattle.iox_index_steps.specs.Told.{GaveBeside, GiveOnly, MoveNone, SawAllOut, TakeOnly, Tells}
use Rattle.iox_index_steps.specs.Kept.{HoldsIndex, Knows, Looked}
use Rattle.iox_index_steps.specs.declared.call.Answer.{Answer}
use Rattle.iox_index_steps.specs.declared.call.Answer.TheVariants.{Acquired, Released}
use Rattle.iox_index_steps.specs.declared.call.Call.{Call}
use Rattle.iox_index_steps.specs.declared.call.Call.TheVariants as call
use Rattle.iox_index_steps.specs.declared.call.IndexCall.{IndexCall}
use Rattle.iox_index_steps.specs.declared.call.IndexCall.TheVariants.{Idle, Acquire, Follow, Take, Release, Link, Give, Done}
use Rattle.iox_queues.proofs.OwnSteps.{own_else, own_else_since}
use Rattle.iox_index_steps.proofs.Counts.{more_changes, changes_since}

-- what a step of another party leaves to party q: what q holds, with the cells after, and the head with its cell, unless the head was
-- changed; a locked set
pub record LeavesToOthers (q : ℕ) (words words' : RingWords) (holders holders' : List (Option ℕ)) (e : Event) : Type 0 where
  pub size : length words'.cells ≡ length words.cells
  pub held : (i : ℕ) → HoldsIndex holders q i → HoldsIndex holders' q i
  pub cells : (i : ℕ) → HoldsIndex holders q i → slice_index words'.cells i ≡ slice_index words.cells i
  pub head : changed_by e.access e.answer ≡ 0 → words'.read ≡ words.read
  pub behind : changed_by e.access e.answer ≡ 0 → next_free words.read < length words.cells
      → slice_index words'.cells (next_free words.read) ≡ slice_index words.cells (next_free words.read)
  pub locked : is_locked_by (length words.cells) words.read ≡ true → is_locked_by (length words'.cells) words'.read ≡ true

-- what a look saw all out stays so
saw_on : (n q first : ℕ) (events : List Event) (e : Event) → (e.party ≡ q → ⊥) → SawAllOut n q first events
    → SawAllOut n q first (events ++ e ∷ [])
saw_on n q first events e differs s = record {
  before = s.before;
  look = s.look;
  after = s.after ++ e ∷ [];
  whole = ap (λ (es : List Event). es ++ e ∷ []) s.whole ∙ append_assoc s.before (s.look ∷ s.after) (e ∷ []);
  inside = s.inside;
  its = s.its;
  looks = s.looks;
  last = own_else q s.after e differs ∙ s.last;
  out = s.out;
}

-- what was out beside an index given back stays so
gave_on : (i q first : ℕ) (events : List Event) (e : Event) → GaveBeside i q first events → GaveBeside i q first (events ++ e ∷ [])
gave_on i q first events e g = record {
  before = g.before;
  give = g.give;
  after = g.after ++ e ∷ [];
  whole = ap (λ (es : List Event). es ++ e ∷ []) g.whole ∙ append_assoc g.before (g.give ∷ g.after) (e ∷ []);
  inside = g.inside;
  its = g.its;
  gives = g.gives;
  other = g.other;
  differs = g.differs;
  out = g.out;
}

-- an answer tells the same of a set that may be locked now
pub tells_same : (n n' : ℕ) (locked locked' : Bool) (q first : ℕ) (events : List Event) (c : Call) (answer : Answer) → n' ≡ n
    → (locked ≡ true → locked' ≡ true)
    → Tells n locked q first events c answer → Tells n' locked' q first events c answer
tells_same n n' locked locked' q first events call.Acquire (Acquired (Ok i)) same keeps t = (omega (arith, same, t.0), t.1)
tells_same n n' locked locked' q first events call.Acquire (Acquired (Err OutOfIndices)) same keeps t
    = (t.0, subst (λ (k : ℕ). SawAllOut k q first events) (sym same) t.1)
tells_same n n' locked locked' q first events call.Acquire (Acquired (Err IsLocked)) same keeps t = (t.0, keeps t.1)
tells_same n n' locked locked' q first events call.Acquire (Released state) same keeps t = t
tells_same n n' locked locked' q first events (call.Release i mode) (Acquired got) same keeps t = t
tells_same n n' locked locked' q first events (call.Release i LockIfLastIndex) (Released Locked) same keeps t = (t.0, keeps t.1)
tells_same n n' locked locked' q first events (call.Release i LockIfLastIndex) (Released Unlocked) same keeps t = t
tells_same n n' locked locked' q first events (call.Release i Default) (Released Locked) same keeps t = t
tells_same n n' locked locked' q first events (call.Release i Default) (Released Unlocked) same keeps t = t

-- an answer tells the same of more steps, none of them the party's own
tells_on : (n : ℕ) (locked : Bool) (q first : ℕ) (events : List Event) (e : Event) (c : Call) (answer : Answer)
    → (e.party ≡ q → ⊥) → first ≤ length events → Tells n locked q first events c answer
    → Tells n locked q first (events ++ e ∷ []) c answer
tells_on n locked q first events e call.Acquire (Acquired (Ok i)) differs began t
    = (t.0, subst (TakeOnly i) (sym (own_else_since q first events e began differs)) t.1)
tells_on n locked q first events e call.Acquire (Acquired (Err OutOfIndices)) differs began t =
    (subst MoveNone (sym (own_else_since q first events e began differs)) t.0, saw_on n q first events e differs t.1)
tells_on n locked q first events e call.Acquire (Acquired (Err IsLocked)) differs began t
    = (subst MoveNone (sym (own_else_since q first events e began differs)) t.0, t.1)
tells_on n locked q first events e call.Acquire (Released state) differs began t = t
tells_on n locked q first events e (call.Release i mode) (Acquired got) differs began t = t
tells_on n locked q first events e (call.Release i LockIfLastIndex) (Released Locked) differs began t
    = (subst (GiveOnly i) (sym (own_else_since q first events e began differs)) t.0, t.1)
tells_on n locked q first events e (call.Release i LockIfLastIndex) (Released Unlocked) differs began t =
    (subst (GiveOnly i) (sym (own_else_since q first events e began differs)) t.0, gave_on i q first events e t.1)
tells_on n locked q first events e (call.Release i Default) (Released Locked) differs began t = t
tells_on n locked q first events e (call.Release i Default) (Released Unlocked) differs began t
    = subst (GiveOnly i) (sym (own_else_since q first events e began differs)) t

-- what another party's step leaves of a look at the head, and of a call
module _ (q first : ℕ) (words words' : RingWords) (holders holders' : List (Option ℕ)) (events : List Event) (e : Event)
    (differs : e.party ≡ q → ⊥) (began : first ≤ length events) (l : LeavesToOthers q words words' holders holders' e) where
  abbrev looked_on : (word : ℕ) → Looked words events first word → Looked words' (events ++ e ∷ []) first word
  looked_on word k = record {
    before = k.before;
    since = k.since + changed_by e.access e.answer;
    whole = omega (arith, k.whole, more_changes events (e ∷ []));
    few = omega (arith, k.few, changes_since first events e began);
    seen = k.seen;
    there = omega (arith, k.there, l.size);
    unmarked = k.unmarked;
    still = λ none. l.head (omega (arith, none)) ∙ k.still (omega (arith, none));
  }

  none_on : MoveNone (own q (drop first events)) → MoveNone (own q (drop first (events ++ e ∷ [])))
  none_on h = subst MoveNone (sym (own_else_since q first events e began differs)) h

  linked_on : (word next : ℕ) (k : Looked words events first word) → (k.since ≡ 0 → slice_index words.cells (next_free word) ≡ next)
      → k.since + changed_by e.access e.answer ≡ 0 → slice_index words'.cells (next_free word) ≡ next
  linked_on word next k linked none =
      let is : words.read ≡ word = k.still (omega (arith, none)) in
      subst (λ (w : ℕ). next_free w < length words.cells → slice_index words.cells (next_free w) ≡ next
      → slice_index words'.cells (next_free w) ≡ next) is
      (λ there same. l.behind (omega (arith, none)) there ∙ same) k.there (linked (omega (arith, none)))

  pub knows_else : (stage : IndexCall) → Knows words holders events q first stage → Knows words' holders' (events ++ e ∷ []) q first stage
  knows_else Idle k = tt
  knows_else (Acquire capacity) k = none_on k
  knows_else (Follow capacity word) k = (none_on k.0, looked_on word k.1)
  knows_else (Take capacity word next) k = (none_on k.0, (looked_on word k.1.0, linked_on word next k.1.0 k.1.1))
  knows_else (Release index mode) k = (none_on k.0, l.held index k.1)
  knows_else (Link index mode word) k = (none_on k.0, l.held index k.1)
  knows_else (Give index mode word) k = (none_on k.0, l.held index k.1, l.cells index k.1 ∙ k.2)
  knows_else (Done c answer) k =
      tells_same (length words.cells) (length words'.cells) (is_locked_by (length words.cells) words.read)
      (is_locked_by (length words'.cells) words'.read) q first (events ++ e ∷ []) c answer l.size l.locked
      (tells_on (length words.cells) (is_locked_by (length words.cells) words.read) q first events e c answer differs began k)
