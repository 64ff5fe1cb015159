-- A refused call leaves the table as it was.
use Rattle.std.proofs.Common.{◌≡◌, ℕ, zero, suc, ◌-◌, ◌^◌, Bool, true, false, cond, ◌&&◌, List, [], ◌∷◌, ◌++◌, Option, None, Some, Result}
use Rattle.std.proofs.Common.{Ok, Err, nat_eq, nat_lt, refl, sym, ap, subst, ◌∙◌, inl, inr, arith}
use Rattle.std.proofs.Math.Logic.{⊎_elim}
use Rattle.std.specs.declared.cmp.Ordering.{Ordering}
use Rattle.std.specs.declared.cmp.Ordering.TheVariants.{Less, Equal, Greater}
use Rattle.std.specs.Ordering.{match_ordering, is_eq}
use Rattle.std.specs.BTreeMap.{insert_entry, is_at}
use Rattle.std.specs.Map.{lookup, set_value, remove_entry}
use Rattle.iox_negotiate_table.specs.DescribeBase.declared.hash.ServiceHash.{ServiceHash}
use Rattle.iox_negotiate_table.specs.DescribeSettings.Agreement.{Agreement}
use Rattle.iox_negotiate_table.specs.NegotiateBase.Access.{Access, Look, Lock, MakeSegment, Publish, Unlock, OpenSegment, RemoveSegment}
use Rattle.iox_negotiate_table.specs.NegotiateBase.Runs.{Went, Led, Rounds}
use Rattle.iox_negotiate_table.specs.NegotiateBase.Creating.{Unlocks, Undoes, Publishes, Makes, Locks, CreatesSeen, CreatesIf}
use Rattle.iox_negotiate_table.specs.NegotiateBase.Failing.{created, created_or_again, opened_or_again, entered, refusal_seen}
use Rattle.iox_negotiate_table.specs.NegotiateBase.Opening.{Registers, OpensJudged, OpensSeen, OpenRound, EitherCreates, EitherSeen}
use Rattle.iox_negotiate_table.specs.NegotiateBase.Opening.{EitherRound}
use Rattle.iox_negotiate_table.specs.NegotiateBase.declared.answer.LockAnswer.{LockAnswer}
use Rattle.iox_negotiate_table.specs.NegotiateBase.declared.answer.LockAnswer.TheVariants as lock
use Rattle.iox_negotiate_table.specs.NegotiateBase.declared.answer.MakeSegmentAnswer.{MakeSegmentAnswer}
use Rattle.iox_negotiate_table.specs.NegotiateBase.declared.answer.MakeSegmentAnswer.TheVariants as making
use Rattle.iox_negotiate_table.specs.NegotiateBase.declared.answer.PublishAnswer.{PublishAnswer}
use Rattle.iox_negotiate_table.specs.NegotiateBase.declared.answer.PublishAnswer.TheVariants as publishing
use Rattle.iox_negotiate_table.specs.NegotiateBase.declared.answer.OpenSegmentAnswer.{OpenSegmentAnswer}
use Rattle.iox_negotiate_table.specs.NegotiateBase.declared.answer.OpenSegmentAnswer.TheVariants as opening
use Rattle.iox_negotiate_table.specs.NegotiateBase.declared.answer.RemoveAnswer.{RemoveAnswer}
use Rattle.iox_negotiate_table.specs.NegotiateBase.declared.creation.Attempt.{Attempt}
use Rattle.iox_negotiate_table.specs.NegotiateBase.declared.creation.Attempt.TheVariants as attempt
use Rattle.iox_negotiate_table.specs.NegotiateBase.declared.failure.CreateFailure.{CreateFailure}
use Rattle.iox_negotiate_table.specs.NegotiateBase.declared.failure.OpenFailure.{OpenFailure}
use Rattle.iox_negotiate_table.specs.NegotiateBase.declared.failure.OpenOrCreateFailure.{OpenOrCreateFailure}
use Rattle.iox_negotiate_table.specs.NegotiateBase.declared.request.Opened.{Opened}
use Rattle.iox_negotiate_table.specs.NegotiateBase.declared.sight.Sight.{Sight as Shown}
use Rattle.iox_negotiate_table.specs.NegotiateBase.declared.sight.Sight.TheVariants as shown
use Rattle.iox_negotiate_table.specs.declared.node.Node.TheVariants.{Own}
use Rattle.iox_negotiate_table.specs.declared.entry.Entry.{Entry}
use Rattle.iox_negotiate_table.specs.declared.entry.Entry.TheVariants.{Locked, Described}
use Rattle.iox_negotiate_table.specs.declared.segment.Segment.{Segment}
use Rattle.iox_negotiate_table.specs.declared.segment.Segment.TheVariants.{Open, Emptied}
use Rattle.iox_negotiate_table.specs.Nodes.{count_in, factories_of, first_node, EntersWith, EntersAgain, EntersFirst}
use Rattle.iox_negotiate_table.specs.Segments.{Opens}
use Rattle.iox_negotiate_table.specs.Contents.{Contents, entry_at, segment_at, with_new_segment, with_segment, with_lock, digest_cmp}
use Rattle.iox_negotiate_table.specs.Contents.{place_cmp, may_make, may_publish, may_unlock, may_remove_segment, is_published}
use Rattle.iox_negotiate_table.specs.Sights as table
use Rattle.iox_negotiate_table.specs.Sights.{Sight}
use Rattle.iox_negotiate_table.proofs.Entries.{lookup-added}
use Rattle.iox_negotiate.specs.Calls.{Creates, Opening, Either, Closing, Between}
use Rattle.iox_negotiate.specs.Refused.{IsAsBefore, RefusedLeavesAll}
use Rattle.iox_negotiate.proofs.Tables.{digest-self}
use Rattle.iox_negotiate.proofs.Numbering.{next-unmade}
use Rattle.iox_negotiate.proofs.Changes.{same-place}

-- ---- maps

removed-there : {K X : Type 0} (cmp : K → K → Ordering) (k : K) (v : X) (e : K × X) (es later : List (K × X)) (o : Ordering)
    → cmp k k ≡ Equal → cmp k e.0 ≡ o
    → cond (is_eq o) (Some e.1) (lookup (is_at (cmp k)) es) ≡ None
    → (lookup (is_at (cmp k)) es ≡ None → remove_entry (is_at (cmp k)) later ≡ es)
    → remove_entry (is_at (cmp k)) (match_ordering o ((k, v) ∷ e ∷ es) ((e.0, v) ∷ es) (e ∷ later)) ≡ e ∷ es
removed-there cmp k v e es later Less same is none rest = rw same refl
removed-there cmp k v e es later Equal same is none rest = absurd (differ none)
  where
    differ : Some e.1 ≡ None → ⊥
    differ h = cc
removed-there cmp k v e es later Greater same is none rest = rw is (ap (λ r. e ∷ r) (rest none))

-- what was added is removed
remove-added : {K X : Type 0} (cmp : K → K → Ordering) (k : K) (v : X) (es : List (K × X)) → cmp k k ≡ Equal
    → lookup (is_at (cmp k)) es ≡ None
    → remove_entry (is_at (cmp k)) (insert_entry cmp es k v) ≡ es
remove-added cmp k v [] same none = rw same refl
remove-added cmp k v (e ∷ es) same none
    = removed-there cmp k v e es (insert_entry cmp es k v) (cmp k e.0) same refl none (remove-added cmp k v es same)

-- what is set to what it was
set-same : {K X : Type 0} (test : K → Bool) (es : List (K × X)) (v : X) → lookup test es ≡ Some v → set_value test es v ≡ es
set-same test [] v found = refl
set-same {K = K} {X = X} test (e ∷ es) v found = there (test e.0) found (set-same test es v)
  where
    value : Some e.1 ≡ Some v → v ≡ e.1
    value h = cc

    there : (b : Bool) → cond b (Some e.1) (lookup test es) ≡ Some v → (lookup test es ≡ Some v → set_value test es v ≡ es)
        → cond b ((e.0, v) ∷ es) (e ∷ set_value test es v) ≡ e ∷ es
    there true h rest = ap (λ x. (e.0, x) ∷ es) (value h)
    there false h rest = ap (λ r. e ∷ r) (rest h)

-- ---- storage operations that change nothing

lock-kept : (hash : ServiceHash) (node : ℕ) (answer : LockAnswer) (old new : Contents) → ((n : ℕ) → answer ≡ lock.Taken n → ⊥)
    → Sight old (Lock hash node answer) new → new ≡ old
lock-kept hash node answer old new other h = by_entry (entry_at hash old) h
  where
    free : (b : Bool) → table.LocksFree b hash (Own node) old answer new → new ≡ old
    free true h = h.1
    free false (inl h) = absurd (other old.next h.0)
    free false (inr h) = h.1

    by_entry : (found : Option Entry) → table.LocksAt found hash (Own node) old answer new → new ≡ old
    by_entry None h = free (nat_eq old.next (2 ^ 64 - 1)) h
    by_entry (Some (Locked by number)) h = h.1
    by_entry (Some (Described number bytes)) h = h.1

make-kept : (hash : ServiceHash) (number node max_nodes : ℕ) (answer : MakeSegmentAnswer) (old new : Contents)
    → (answer ≡ making.Made → ⊥) → Sight old (MakeSegment hash number node max_nodes answer) new → new ≡ old
make-kept hash number node max_nodes answer old new other h = by_test (may_make hash number node max_nodes old) h
  where
    by_test : (b : Bool) → table.Makes b hash number node max_nodes old answer new → new ≡ old
    by_test true (inl h) = absurd (other h.0)
    by_test true (inr h) = h.1
    by_test false h = h.1

publish-kept : (hash : ServiceHash) (number : ℕ) (bytes : List ℕ) (answer : PublishAnswer) (old new : Contents)
    → (answer ≡ publishing.Published → ⊥) → Sight old (Publish hash number bytes answer) new → new ≡ old
publish-kept hash number bytes answer old new other h = by_test (may_publish hash number old) h
  where
    by_test : (b : Bool) → table.Publishes b hash number bytes old answer new → new ≡ old
    by_test true (inl h) = absurd (other h.0)
    by_test true (inr h) = h.1
    by_test false h = h.1

-- who isn't registered changes no segment
opens-same : (node : ℕ) (answer : OpenSegmentAnswer) (before after : Segment) → (answer ≡ opening.Registered → ⊥)
    → Opens node before answer after → after ≡ before
opens-same node answer (Open nodes) (Open after) other h = ap Open (by_count (factories_of nodes node) h)
  where
    again : (count : ℕ) (b : Bool) → EntersAgain count b node nodes answer after → after ≡ nodes
    again count true h = h.1
    again count false h = absurd (other h.0)

    first : (b : Bool) → EntersFirst b node nodes answer after → after ≡ nodes
    first true (inl h) = absurd (other h.0)
    first true (inr h) = h.1
    first false h = h.1

    by_count : (found : Option ℕ) → EntersWith found node nodes answer after → after ≡ nodes
    by_count (Some count) h = again count (nat_eq count (2 ^ 64 - 1)) h
    by_count None h = first (nat_lt (count_in nodes) nodes.max_nodes) h
opens-same node answer (Open nodes) (Emptied by) other h = absurd h
opens-same node answer (Emptied by) after other h = h.1

open-kept : (hash : ServiceHash) (number node : ℕ) (answer : OpenSegmentAnswer) (old new : Contents) → (answer ≡ opening.Registered → ⊥)
    → Sight old (OpenSegment hash number node answer) new → new ≡ old
open-kept hash number node answer old new other h = by_test (is_published hash number old) (segment_at hash number old) refl h
  where
    by_test : (b : Bool) (found : Option Segment) → segment_at hash number old ≡ found
        → table.OpensAt b found hash number node old answer new → new ≡ old
    by_test true (Some segment) stood (after, opens, is) =
        let same : after ≡ segment = opens-same node answer segment after other opens in
        is ∙ ap (λ s. with_segment hash number s old) same ∙ ap (λ s. record old { segments = s })
        (set-same (is_at (place_cmp (hash.digest, number))) old.segments segment stood)
    by_test true None stood h = h.1
    by_test false found stood h = h.1

pub as-before : (old new : Contents) → new ≡ old → IsAsBefore old new
as-before old new is = record {
  id = ap (λ t. t.id) is;
  entries = ap (λ t. t.entries) is;
  segments = ap (λ t. t.segments) is;
  next
      = omega (arith, ap (λ t. t.next) is);
}

-- ---- from a lock, back

module _ (hash : ServiceHash) (node : ℕ) (old : Contents) (free : entry_at hash old ≡ None)
    (unmade : segment_at hash old.next old ≡ None) where
  -- the table with the lock
  abbrev locked : Contents
  locked = with_lock hash (Own node) old

  lock-found : entry_at hash locked ≡ Some (Locked (Own node) old.next)
  lock-found = lookup-added digest_cmp hash.digest (Locked (Own node) old.next) old.entries (digest-self hash.digest)

  own-number : (n : ℕ) → (nat_eq n n && true) ≡ true
  own-number n = grind arith

  may-be-unlocked : may_unlock hash old.next locked ≡ true
  may-be-unlocked = rw lock-found (rw unmade (own-number old.next))

  unlocked : (new : Contents) → Sight locked (Unlock hash old.next) new → IsAsBefore old new
  unlocked new h = by_test (may_unlock hash old.next locked) may-be-unlocked h
    where
      by_test : (b : Bool) → b ≡ true → table.Unlocks b hash locked new → IsAsBefore old new
      by_test true may h = record {
        id = ap (λ t. t.id) h;
        entries = ap (λ t. t.entries) h ∙ remove-added digest_cmp hash.digest (Locked (Own node) old.next) old.entries
            (digest-self hash.digest) free;
        segments = ap (λ t. t.segments) h;
        next = omega (arith, ap (λ t. t.next) h);
      }
      by_test false may h = absurd (differ may)
        where
          differ : false ≡ true → ⊥
          differ e = cc

  unlocks-back : (made : List Access) (new : Contents) → Unlocks hash old.next made → Went Sight locked made new → IsAsBefore old new
  unlocks-back (Unlock under of ∷ rest) new (own, same, none) (mid, sight, went) =
      let end : new ≡ mid = subst (λ r. Went Sight mid r new) none went in
      subst (λ t. IsAsBefore old t) (sym end)
      (unlocked mid (subst (λ n. Sight locked (Unlock hash n) mid) same (subst (λ h. Sight locked (Unlock h of) mid) own sight)))
  unlocks-back made new h went = absurd h

  module _ (max_nodes : ℕ) where
    -- the table with lock and segment
    abbrev with_both : Contents
    with_both = with_new_segment hash old.next (Open (first_node node max_nodes)) locked

    unpublished : is_published hash old.next with_both ≡ false
    unpublished = rw lock-found refl

    may-be-removed : may_remove_segment hash old.next with_both ≡ true
    may-be-removed = rw unpublished (rw
        (lookup-added place_cmp (hash.digest, old.next) (Open (first_node node max_nodes)) old.segments
        (same-place (hash.digest, old.next))) refl)

    removed : (answer : RemoveAnswer) (new : Contents) → Sight with_both (RemoveSegment hash old.next answer) new → new ≡ locked
    removed answer new h = by_test (may_remove_segment hash old.next with_both) may-be-removed h
      where
        by_test : (b : Bool) → b ≡ true → table.Removes b
            (record with_both { segments = remove_entry (is_at (place_cmp (hash.digest, old.next))) with_both.segments }) with_both
            answer new → new ≡ locked
        by_test true may h = h.1 ∙ ap (λ s. record locked { segments = s })
            (remove-added place_cmp (hash.digest, old.next) (Open (first_node node max_nodes)) old.segments
            (same-place (hash.digest, old.next)) unmade)
        by_test false may h = absurd (differ may)
          where
            differ : false ≡ true → ⊥
            differ e = cc

    undoes-back : (made : List Access) (new : Contents) → Undoes hash old.next made → Went Sight with_both made new → IsAsBefore old new
    undoes-back (RemoveSegment under of answer ∷ rest) new (own, same, unlocks) (mid, sight, went) =
        let back : mid ≡ locked = removed answer mid
        (subst (λ n. Sight with_both (RemoveSegment hash n answer) mid) same
        (subst (λ h. Sight with_both (RemoveSegment h of answer) mid) own sight)) in
        unlocks-back rest new unlocks (subst (λ t. Went Sight t rest new) back went)
    undoes-back made new h went = absurd h

    publishes-back : (agreed : Agreement) (made : List Access) (came : Attempt) (new : Contents)
        → ((service : Opened) → came ≡ attempt.Made service → ⊥) → Publishes hash old.next agreed made came
        → Went Sight with_both made new → IsAsBefore old new
    publishes-back agreed (Publish under of bytes publishing.Published ∷ rest) came new failed p went = absurd (failed _ p.3.1)
    publishes-back agreed (Publish under of bytes publishing.Fault ∷ rest) came new failed p (mid, sight, went) =
        undoes-back rest new p.3.0 (subst (λ t. Went Sight t rest new)
        (publish-kept under of bytes publishing.Fault with_both mid differ sight) went)
      where
        differ : publishing.Fault ≡ publishing.Published → ⊥
        differ e = cc
    publishes-back agreed (Publish under of bytes publishing.OutOfMemory ∷ rest) came new failed p (mid, sight, went) =
        undoes-back rest new p.3.0 (subst (λ t. Went Sight t rest new)
        (publish-kept under of bytes publishing.OutOfMemory with_both mid differ sight) went)
      where
        differ : publishing.OutOfMemory ≡ publishing.Published → ⊥
        differ e = cc
    publishes-back agreed (RemoveSegment under of answer ∷ rest) came new failed p went
        = undoes-back (RemoveSegment under of answer ∷ rest) new p.0 went
    publishes-back agreed made came new failed p went = absurd p

  made-segment : (max_nodes : ℕ) (mid : Contents) → Sight locked (MakeSegment hash old.next node max_nodes making.Made) mid
      → mid ≡ with_both max_nodes
  made-segment max_nodes mid h = by_test (may_make hash old.next node max_nodes locked) h
    where
      by_test : (b : Bool) → table.Makes b hash old.next node max_nodes locked making.Made mid → mid ≡ with_both max_nodes
      by_test true (inl h) = h.1
      by_test true (inr h) = absurd (differ h.0)
        where
          differ : making.Made ≡ making.OutOfMemory → ⊥
          differ e = cc
      by_test false h = absurd (differ h.0)
        where
          differ : making.Made ≡ making.Fault → ⊥
          differ e = cc

  makes-back : (agreed : Agreement) (made : List Access) (came : Attempt) (new : Contents)
      → ((service : Opened) → came ≡ attempt.Made service → ⊥) → Makes hash node old.next agreed made came
      → Went Sight locked made new → IsAsBefore old new
  makes-back agreed (MakeSegment under of by room making.Made ∷ rest) came new failed (own, same, who, wide, then) (mid, sight, went) =
      let is : mid ≡ with_both room = made-segment room mid
      (subst (λ d. Sight locked (MakeSegment hash old.next d room making.Made) mid) who
      (subst (λ n. Sight locked (MakeSegment hash n by room making.Made) mid) same
      (subst (λ h. Sight locked (MakeSegment h of by room making.Made) mid) own sight))) in
      publishes-back room agreed rest came new failed then (subst (λ t. Went Sight t rest new) is went)
  makes-back agreed (MakeSegment under of by room making.Fault ∷ rest) came new failed m (mid, sight, went) =
      unlocks-back rest new m.4.0 (subst (λ t. Went Sight t rest new) (make-kept under of by room making.Fault locked mid differ sight)
      went)
    where
      differ : making.Fault ≡ making.Made → ⊥
      differ e = cc
  makes-back agreed (MakeSegment under of by room making.OutOfMemory ∷ rest) came new failed m (mid, sight, went) =
      unlocks-back rest new m.4.0 (subst (λ t. Went Sight t rest new)
      (make-kept under of by room making.OutOfMemory locked mid differ sight) went)
    where
      differ : making.OutOfMemory ≡ making.Made → ⊥
      differ e = cc
  makes-back agreed made came new failed m went = absurd m

-- ---- the calls

-- nothing was made
nothing : (made : List Access) (old new : Contents) → made ≡ [] → Went Sight old made new → new ≡ old
nothing made old new none went = subst (λ m. Went Sight old m new) none went

module _ (hash : ServiceHash) (node : ℕ) (agreed : Agreement) where
  -- where the lock isn't taken, nothing is changed
  untaken : (under : ServiceHash) (by : ℕ) (answer : LockAnswer) (rest : List Access) (old new : Contents)
      → ((n : ℕ) → answer ≡ lock.Taken n → ⊥) → rest ≡ []
      → Went Sight old (Lock under by answer ∷ rest) new → new ≡ old
  untaken under by answer rest old new other none (mid, sight, went)
      = nothing rest mid new none went ∙ lock-kept under by answer old mid other sight

  taken : (old mid : Contents) (number : ℕ) → Sight old (Lock hash node (lock.Taken number)) mid → (entry_at hash old ≡ None)
      × (number ≡ old.next) × (mid ≡ with_lock hash (Own node) old)
  taken old mid number h = by_entry (entry_at hash old) refl h
    where
      numbers : lock.Taken number ≡ lock.Taken old.next → number ≡ old.next
      numbers e = cc

      no-lacking : lock.Taken number ≡ lock.OutOfMemory → ⊥
      no-lacking e = cc

      no-fault : lock.Taken number ≡ lock.Fault → ⊥
      no-fault e = cc

      no-locked : lock.Taken number ≡ lock.IsLocked → ⊥
      no-locked e = cc

      no-exists : lock.Taken number ≡ lock.Exists → ⊥
      no-exists e = cc

      free : (b : Bool) → entry_at hash old ≡ None → table.LocksFree b hash (Own node) old (lock.Taken number) mid
          → (entry_at hash old ≡ None) × (number ≡ old.next) × (mid ≡ with_lock hash (Own node) old)
      free true none h = absurd (no-fault h.0)
      free false none (inl h) = (none, numbers h.0, h.1)
      free false none (inr h) = absurd (no-lacking h.0)

      by_entry : (found : Option Entry) → entry_at hash old ≡ found → table.LocksAt found hash (Own node) old (lock.Taken number) mid
          → (entry_at hash old ≡ None) × (number ≡ old.next) × (mid ≡ with_lock hash (Own node) old)
      by_entry None none h = free (nat_eq old.next (2 ^ 64 - 1)) none h
      by_entry (Some (Locked by at)) none h = absurd (no-locked h.0)
      by_entry (Some (Described at bytes)) none h = absurd (no-exists h.0)

  locks-back : (made : List Access) (came : Attempt) (old new : Contents) → segment_at hash old.next old ≡ None
      → ((service : Opened) → came ≡ attempt.Made service → ⊥) → Locks hash node agreed made came
      → Went Sight old made new → IsAsBefore old new
  locks-back (Lock under by (lock.Taken number) ∷ rest) came old new unmade failed (own, who, makes) (mid, sight, went) =
      let t = taken old mid number (subst (λ d. Sight old (Lock hash d (lock.Taken number)) mid) who
      (subst (λ h. Sight old (Lock h by (lock.Taken number)) mid) own sight)) in
      makes-back hash node old t.0 unmade agreed rest came new failed (subst (λ n. Makes hash node n agreed rest came) t.1 makes)
      (subst (λ m. Went Sight m rest new) t.2 went)
  locks-back (Lock under by lock.IsLocked ∷ rest) came old new unmade failed l went
      = as-before old new (untaken under by lock.IsLocked rest old new (λ n e. differ n e) l.2.0 went)
    where
      differ : (n : ℕ) → lock.IsLocked ≡ lock.Taken n → ⊥
      differ n e = cc
  locks-back (Lock under by lock.Exists ∷ rest) came old new unmade failed l went
      = as-before old new (untaken under by lock.Exists rest old new (λ n e. differ n e) l.2.0 went)
    where
      differ : (n : ℕ) → lock.Exists ≡ lock.Taken n → ⊥
      differ n e = cc
  locks-back (Lock under by lock.Denied ∷ rest) came old new unmade failed l went
      = as-before old new (untaken under by lock.Denied rest old new (λ n e. differ n e) l.2.0 went)
    where
      differ : (n : ℕ) → lock.Denied ≡ lock.Taken n → ⊥
      differ n e = cc
  locks-back (Lock under by lock.Fault ∷ rest) came old new unmade failed l went
      = as-before old new (untaken under by lock.Fault rest old new (λ n e. differ n e) l.2.0 went)
    where
      differ : (n : ℕ) → lock.Fault ≡ lock.Taken n → ⊥
      differ n e = cc
  locks-back (Lock under by lock.OutOfMemory ∷ rest) came old new unmade failed l went
      = as-before old new (untaken under by lock.OutOfMemory rest old new (λ n e. differ n e) l.2.0 went)
    where
      differ : (n : ℕ) → lock.OutOfMemory ≡ lock.Taken n → ⊥
      differ n e = cc
  locks-back made came old new unmade failed l went = absurd l

  seen-back : (refusal : Option CreateFailure) (made : List Access) (came : Attempt) (old new : Contents)
      → segment_at hash old.next old ≡ None → ((service : Opened) → came ≡ attempt.Made service → ⊥)
      → CreatesSeen hash node agreed refusal made came → Went Sight old made new → IsAsBefore old new
  seen-back None made came old new unmade failed c went = locks-back made came old new unmade failed c went
  seen-back (Some failure) made came old new unmade failed c went = as-before old new (nothing made old new c.0 went)

  not-made : (came : Attempt) (failure : CreateFailure) → Err failure ≡ created came → (service : Opened) → came ≡ attempt.Made service → ⊥
  not-made came failure h service is = differ (rw is at h)
    where
      differ : Err failure ≡ created (attempt.Made service) → ⊥
      differ e = cc

  pub creates-back : (refusal : Option CreateFailure) (made : List Access) (failure : CreateFailure) (old new : Contents)
      → segment_at hash old.next old ≡ None → CreatesIf hash node agreed refusal made (Err failure)
      → Went Sight old made new → IsAsBefore old new
  creates-back (Some refused) made failure old new unmade c went = as-before old new (nothing made old new c.0 went)
  creates-back None (Look under answer ∷ rest) failure old new unmade (seen, came, own, is, goes, end) (mid, sight, went) =
      let same : mid ≡ old = sight.1 in
      seen-back (refusal_seen seen) rest came old new unmade (not-made came failure end) goes (subst (λ t. Went Sight t rest new) same went)
  creates-back None made failure old new unmade c went = absurd c

-- storage operations in two parts
split : (first second : List Access) (old new : Contents) → Went Sight old (first ++ second) new → (mid : Contents)
    × Went Sight old first mid × Went Sight mid second new
split [] second old new went = (old, refl, went)
split (access ∷ first) second old new (next, sight, went) =
    let s = split first second next new went in (s.0, (next, sight, s.1), s.2)

module _ {R : Type 0} (round : List Access → Option R → Type 0)
    (leads : (made : List Access) (old new : Contents) → round made None → Went Sight old made new → new ≡ old) where
  led-kept : (count : ℕ) (made : List Access) (old new : Contents) → Led round count made → Went Sight old made new → new ≡ old
  led-kept zero made old new led went = nothing made old new led went
  led-kept (suc count) made old new (before, last, all, led, leading) went =
      let s = split before last old new (subst (λ m. Went Sight old m new) all went) in
      leads last s.0 new leading s.2 ∙ led-kept count before old s.0 led s.1

  pub rounds-back : (exhausted result : R) (made : List Access) (old new : Contents)
      → ((made : List Access) (new : Contents) → round made (Some result) → Went Sight old made new → IsAsBefore old new)
      → Rounds round exhausted made result → Went Sight old made new → IsAsBefore old new
  rounds-back exhausted result made old new ends r went =
      let s = split r.before r.last old new (subst (λ m. Went Sight old m new) r.all went) in
      let same : s.0 ≡ old = led-kept r.count r.before old s.0 r.led s.1 in
      let rest : Went Sight old r.last new = subst (λ t. Went Sight t r.last new) same s.2 in
      ⊎_elim (λ ending. ends r.last new ending.1 rest) (λ ending. as-before old new (nothing r.last old new ending.1 rest)) r.ends

-- the attempt has an answer of its own
abbrev is_done : Attempt → Bool
is_done attempt.IsLocked = false
is_done attempt.Exists = false
is_done came = true

done-answers : {V : Type 0} (came : Attempt) → is_done came ≡ true → None ≡ created_or_again {V = V} came → ⊥
done-answers (attempt.Made service) done h = cc
done-answers attempt.IsLocked done h = cc
done-answers attempt.Exists done h = cc
done-answers (attempt.Failed failure) done h = cc

publishes-done : (hash : ServiceHash) (number : ℕ) (agreed : Agreement) (made : List Access) (came : Attempt)
    → Publishes hash number agreed made came → is_done came ≡ true
publishes-done hash number agreed (Publish under of bytes publishing.Published ∷ rest) came p = ap (λ a. is_done a) p.3.1
publishes-done hash number agreed (Publish under of bytes publishing.Fault ∷ rest) came p = ap (λ a. is_done a) p.3.1
publishes-done hash number agreed (Publish under of bytes publishing.OutOfMemory ∷ rest) came p = ap (λ a. is_done a) p.3.1
publishes-done hash number agreed (RemoveSegment under of answer ∷ rest) came p = ap (λ a. is_done a) p.1
publishes-done hash number agreed made came p = absurd p

makes-done : (hash : ServiceHash) (node number : ℕ) (agreed : Agreement) (made : List Access) (came : Attempt)
    → Makes hash node number agreed made came → is_done came ≡ true
makes-done hash node number agreed (MakeSegment under of by room making.Made ∷ rest) came m
    = publishes-done hash number agreed rest came m.4
makes-done hash node number agreed (MakeSegment under of by room making.Fault ∷ rest) came m = ap (λ a. is_done a) m.4.1
makes-done hash node number agreed (MakeSegment under of by room making.OutOfMemory ∷ rest) came m = ap (λ a. is_done a) m.4.1
makes-done hash node number agreed made came m = absurd m

module _ {V : Type 0} (hash : ServiceHash) (node : ℕ) (verdict : Agreement → Result (Unit {0}) V) where
  -- a round of an opening didn't open the service
  abbrev IsUnopened : Option (Result Opened (OpenFailure V)) → Type 0
  IsUnopened result = (service : Opened) → result ≡ Some (Ok service) → ⊥

  registers-kept : (number : ℕ) (agreed : Agreement) (made : List Access) (result : Option (Result Opened (OpenFailure V)))
      (old new : Contents) → IsUnopened result
      → Registers hash node verdict number agreed made result → Went Sight old made new → new ≡ old
  registers-kept number agreed (OpenSegment under of by answer ∷ rest) result old new failed (own, same, who, none, is) (mid, sight, went) =
      nothing rest mid new none went ∙ open-kept under of by answer old mid registered sight
    where
      registered : answer ≡ opening.Registered → ⊥
      registered a = failed _ (is ∙ ap (λ x. entered number agreed x) a)
  registers-kept number agreed made result old new failed h went = absurd h

  judged-kept : (number : ℕ) (agreed : Agreement) (judged : Result (Unit {0}) V) (made : List Access)
      (result : Option (Result Opened (OpenFailure V))) (old new : Contents) → IsUnopened result
      → OpensJudged hash node verdict number agreed judged made result → Went Sight old made new → new ≡ old
  judged-kept number agreed (Ok met) made result old new failed h went = registers-kept number agreed made result old new failed h went
  judged-kept number agreed (Err unmet) made result old new failed h went = nothing made old new h.0 went

  seen-kept : (seen : Shown) (made : List Access) (result : Option (Result Opened (OpenFailure V))) (old new : Contents) → IsUnopened result
      → OpensSeen hash node verdict seen made result → Went Sight old made new → new ≡ old
  seen-kept shown.Absent made result old new failed h went = nothing made old new h.0 went
  seen-kept (shown.Standing number agreed) made result old new failed h went
      = judged-kept number agreed (verdict agreed) made result old new failed h went
  seen-kept (shown.Failed failure) made result old new failed h went = nothing made old new h.0 went

  pub round-kept : (made : List Access) (result : Option (Result Opened (OpenFailure V))) (old new : Contents) → IsUnopened result
      → OpenRound hash node verdict made result → Went Sight old made new → new ≡ old
  round-kept (Look under answer ∷ rest) result old new failed h (mid, sight, went)
      = seen-kept h.0 rest result mid new failed h.3 went ∙ sight.1
  round-kept made result old new failed h went = absurd h

  not-opened : IsUnopened None
  not-opened service e = cc

  not-ok : (failure : OpenFailure V) (service : Opened) → Some (Err failure) ≡ Some (Ok service) → ⊥
  not-ok failure service e = cc

  pub opens-back : (made : List Access) (failure : OpenFailure V) (exhausted : Result Opened (OpenFailure V)) (old new : Contents)
      → Rounds (OpenRound hash node verdict) exhausted made (Err failure) → Went Sight old made new → IsAsBefore old new
  opens-back made failure exhausted old new r went =
      rounds-back (OpenRound hash node verdict) (λ made old new leading went. round-kept made None old new not-opened leading went)
      exhausted (Err failure) made old new
      (λ made new ends went. as-before old new (round-kept made (Some (Err failure)) old new (not-ok failure) ends went)) r went

  module _ (agreed : Agreement) (refusal : Option CreateFailure) where
    answers-none : (answer : Option (Result Opened (OpenFailure V))) → None ≡ opened_or_again answer → IsUnopened answer
    answers-none answer h service is = differ (rw is at h)
      where
        differ : None ≡ opened_or_again {V = V} (Some (Ok service)) → ⊥
        differ e = cc

    answers-failure : (failure : OpenOrCreateFailure V) (answer : Option (Result Opened (OpenFailure V)))
        → Some (Err failure) ≡ opened_or_again answer → IsUnopened answer
    answers-failure failure answer h service is = differ (rw is at h)
      where
        differ : Some (Err failure) ≡ opened_or_again (Some (Ok service)) → ⊥
        differ e = cc

    -- an attempt that leads to the next round took no lock
    again-kept : (made : List Access) (came : Attempt) (old new : Contents) → Locks hash node agreed made came
        → None ≡ created_or_again {V = V} came → Went Sight old made new → new ≡ old
    again-kept (Lock under by (lock.Taken number) ∷ rest) came old new l h went
        = absurd (done-answers came (makes-done hash node number agreed rest came l.2) h)
    again-kept (Lock under by lock.IsLocked ∷ rest) came old new l h went
        = untaken hash node agreed under by lock.IsLocked rest old new (λ n e. differ n e) l.2.0 went
      where
        differ : (n : ℕ) → lock.IsLocked ≡ lock.Taken n → ⊥
        differ n e = cc
    again-kept (Lock under by lock.Exists ∷ rest) came old new l h went
        = untaken hash node agreed under by lock.Exists rest old new (λ n e. differ n e) l.2.0 went
      where
        differ : (n : ℕ) → lock.Exists ≡ lock.Taken n → ⊥
        differ n e = cc
    again-kept (Lock under by lock.Denied ∷ rest) came old new l h went = absurd (done-answers came (ap (λ a. is_done a) l.2.1) h)
    again-kept (Lock under by lock.Fault ∷ rest) came old new l h went = absurd (done-answers came (ap (λ a. is_done a) l.2.1) h)
    again-kept (Lock under by lock.OutOfMemory ∷ rest) came old new l h went = absurd (done-answers came (ap (λ a. is_done a) l.2.1) h)
    again-kept made came old new l h went = absurd l

    failed-made : (came : Attempt) (failure : OpenOrCreateFailure V) → Some (Err failure) ≡ created_or_again came → (service : Opened)
        → came ≡ attempt.Made service → ⊥
    failed-made came failure h service is = differ (rw is at h)
      where
        differ : Some (Err failure) ≡ created_or_again {V = V} (attempt.Made service) → ⊥
        differ e = cc

    either-creates-kept : (refused : Option CreateFailure) (made : List Access) (old new : Contents)
        → EitherCreates hash node verdict agreed refusal refused made None → Went Sight old made new → new ≡ old
    either-creates-kept (Some failure) made old new h went = nothing made old new h.0 went
    either-creates-kept None made old new h went = again-kept made h.0 old new h.1 h.2 went

    either-seen-kept : (seen : Shown) (made : List Access) (old new : Contents)
        → EitherSeen hash node verdict agreed refusal seen made None → Went Sight old made new → new ≡ old
    either-seen-kept shown.Absent made old new h went = either-creates-kept refusal made old new h went
    either-seen-kept (shown.Standing number other) made old new h went
        = judged-kept number other (verdict other) made h.0 old new (answers-none h.0 h.2) h.1 went
    either-seen-kept (shown.Failed failure) made old new h went = nothing made old new h.0 went

    either-kept : (made : List Access) (old new : Contents) → EitherRound hash node verdict agreed refusal made None
        → Went Sight old made new → new ≡ old
    either-kept (Look under answer ∷ rest) old new h (mid, sight, went) = either-seen-kept h.0 rest mid new h.3 went ∙ sight.1
    either-kept made old new h went = absurd h

    either-creates-back : (refused : Option CreateFailure) (made : List Access) (failure : OpenOrCreateFailure V) (old new : Contents)
        → segment_at hash old.next old ≡ None
        → EitherCreates hash node verdict agreed refusal refused made (Some (Err failure)) → Went Sight old made new → IsAsBefore old new
    either-creates-back (Some refused) made failure old new unmade h went = as-before old new (nothing made old new h.0 went)
    either-creates-back None made failure old new unmade h went
        = locks-back hash node agreed made h.0 old new unmade (failed-made h.0 failure h.2) h.1 went

    either-seen-back : (seen : Shown) (made : List Access) (failure : OpenOrCreateFailure V) (old new : Contents)
        → segment_at hash old.next old ≡ None
        → EitherSeen hash node verdict agreed refusal seen made (Some (Err failure)) → Went Sight old made new → IsAsBefore old new
    either-seen-back shown.Absent made failure old new unmade h went = either-creates-back refusal made failure old new unmade h went
    either-seen-back (shown.Standing number other) made failure old new unmade h went =
        as-before old new (judged-kept number other (verdict other) made h.0 old new (answers-failure failure h.0 h.2) h.1 went)
    either-seen-back (shown.Failed of) made failure old new unmade h went = as-before old new (nothing made old new h.0 went)

    either-back : (made : List Access) (failure : OpenOrCreateFailure V) (old new : Contents) → segment_at hash old.next old ≡ None
        → EitherRound hash node verdict agreed refusal made (Some (Err failure)) → Went Sight old made new → IsAsBefore old new
    either-back (Look under answer ∷ rest) failure old new unmade h (mid, sight, went) =
        either-seen-back h.0 rest failure old new unmade h.3 (subst (λ t. Went Sight t rest new) sight.1 went)
    either-back made failure old new unmade h went = absurd h

    pub eithers-back : (made : List Access) (failure : OpenOrCreateFailure V) (exhausted : Result Opened (OpenOrCreateFailure V))
        (old new : Contents) → segment_at hash old.next old ≡ None
        → Rounds (EitherRound hash node verdict agreed refusal) exhausted made (Err failure) → Went Sight old made new → IsAsBefore old new
    eithers-back made failure exhausted old new unmade r went =
        rounds-back (EitherRound hash node verdict agreed refusal) either-kept exhausted (Err failure) made old new
        (λ made new ends went. either-back made failure old new unmade ends went) r went

pub refused-back : (V : ℕ → Type 0) → RefusedLeavesAll V
refused-back V (Creates node agreed refusal (Err failure)) made old new reached refused told went =
    creates-back agreed.service_hash node agreed refusal made failure old new (next-unmade agreed.service_hash old reached) told went
refused-back V (Creates node agreed refusal (Ok service)) made old new reached refused told went = absurd refused
refused-back V (Opening kind hash node verdict (Err failure)) made old new reached refused told went
    = opens-back hash node verdict made failure _ old new told went
refused-back V (Opening kind hash node verdict (Ok service)) made old new reached refused told went = absurd refused
refused-back V (Either kind node verdict agreed refusal (Err failure)) made old new reached refused told went =
    eithers-back agreed.service_hash node verdict agreed refusal made failure _ old new (next-unmade agreed.service_hash old reached)
    told went
refused-back V (Either kind node verdict agreed refusal (Ok service)) made old new reached refused told went = absurd refused
refused-back V (Closing before factory after result) made old new reached refused told went = absurd refused
refused-back V (Between hash step) made old new reached refused told went = absurd refused
