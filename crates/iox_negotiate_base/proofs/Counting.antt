-- The number of storage operations, stage by stage, and what they acquire, create and release.
use Rattle.std.proofs.Common.{◌≡◌, Bool, true, false, ℕ, suc, ◌+◌, ◌≤◌, List, [], ◌∷◌, ◌++◌, Option, None, Some, Result, Ok, Err, length}
use Rattle.std.proofs.Common.{refl, sym, ap, ◌∙◌, arith}
use Rattle.iox_describe.specs.DescribeBase.declared.hash.ServiceHash.{ServiceHash}
use Rattle.iox_describe.specs.DescribeSettings.Agreement.{Agreement, max_nodes_of}
use Rattle.iox_describe.specs.Line.{line}
use Rattle.iox_describe.specs.DescribeSettings.declared.description.Version.TheVariants.{Two}
use Rattle.iox_negotiate_base.specs.Access.{Access, Look, Lock, MakeSegment, Publish, Unlock, RemoveSegment}
use Rattle.iox_negotiate_base.specs.Creating.{Unlocks, Undoes, PublishGoes, Publishes, MakeGoes, Makes, LockGoes, Locks, CreatesSeen}
use Rattle.iox_negotiate_base.specs.Failing.{brought_about, lock_gives, making_failure, publishing_failure, refusal_seen, created}
use Rattle.iox_negotiate_base.specs.Laws.{CreatesInSix, LeavesNoLock, locks_taken, locks_ended, RefusedLeavesNoSegment, segments_made}
use Rattle.iox_negotiate_base.specs.Laws.{segments_removed, CreatedIsPublished}
use Rattle.iox_negotiate_base.specs.declared.answer.LockAnswer.{LockAnswer}
use Rattle.iox_negotiate_base.specs.declared.answer.LockAnswer.TheVariants as lock
use Rattle.iox_negotiate_base.specs.declared.answer.MakeSegmentAnswer.TheVariants as making
use Rattle.iox_negotiate_base.specs.declared.answer.PublishAnswer.TheVariants as publishing
use Rattle.iox_negotiate_base.specs.declared.creation.Attempt.{Attempt}
use Rattle.iox_negotiate_base.specs.declared.creation.Attempt.TheVariants as attempt
use Rattle.iox_negotiate_base.specs.declared.failure.CreateFailure.{CreateFailure}
use Rattle.iox_negotiate_base.specs.declared.request.Opened.{Opened}

unlocks-length : (hash : ServiceHash) (number : ℕ) (made : List Access) → Unlocks hash number made → length made ≡ 1
unlocks-length hash number (Unlock under of ∷ rest) h = ap (λ r. suc (length r)) h.2
unlocks-length hash number made h = absurd h

undoes-length : (hash : ServiceHash) (number : ℕ) (made : List Access) → Undoes hash number made → length made ≡ 2
undoes-length hash number (RemoveSegment under of answer ∷ rest) h = ap suc (unlocks-length hash number rest h.2)
undoes-length hash number made h = absurd h

publish-goes-length : (hash : ServiceHash) (number : ℕ) (agreed : Agreement) (failure : Option CreateFailure) (made : List Access)
    (attempt : Attempt)
    → PublishGoes hash number agreed failure made attempt → length made ≤ 2
publish-goes-length hash number agreed None made attempt h = omega (arith, ap (λ r. length r) h.0)
publish-goes-length hash number agreed (Some failure) made attempt h = omega (arith, undoes-length hash number made h.0)

publishes-length : (hash : ServiceHash) (number : ℕ) (agreed : Agreement) (made : List Access) (attempt : Attempt)
    → Publishes hash number agreed made attempt → length made ≤ 3
publishes-length hash number agreed (Publish under of bytes answer ∷ rest) attempt h =
    omega (arith, publish-goes-length hash number agreed (publishing_failure answer) rest attempt h.3)
publishes-length hash number agreed (RemoveSegment under of answer ∷ rest) attempt h =
    omega (arith, undoes-length hash number (RemoveSegment under of answer ∷ rest) h.0)
publishes-length hash number agreed made attempt h = absurd h

make-goes-length : (hash : ServiceHash) (number : ℕ) (agreed : Agreement) (failure : Option CreateFailure) (made : List Access)
    (attempt : Attempt)
    → MakeGoes hash number agreed failure made attempt → length made ≤ 3
make-goes-length hash number agreed None made attempt h = publishes-length hash number agreed made attempt h
make-goes-length hash number agreed (Some failure) made attempt h = omega (arith, unlocks-length hash number made h.0)

makes-length : (hash : ServiceHash) (node number : ℕ) (agreed : Agreement) (made : List Access) (attempt : Attempt)
    → Makes hash node number agreed made attempt → length made ≤ 4
makes-length hash node number agreed (MakeSegment under of by room answer ∷ rest) attempt h =
    omega (arith, make-goes-length hash number agreed (making_failure answer) rest attempt h.4)
makes-length hash node number agreed made attempt h = absurd h

lock-goes-length : (hash : ServiceHash) (node : ℕ) (agreed : Agreement) (gives : Result ℕ Attempt) (made : List Access) (attempt : Attempt)
    → LockGoes hash node agreed gives made attempt → length made ≤ 4
lock-goes-length hash node agreed (Ok number) made attempt h = makes-length hash node number agreed made attempt h
lock-goes-length hash node agreed (Err came) made attempt h = omega (arith, ap (λ r. length r) h.0)

pub locks-length : (hash : ServiceHash) (node : ℕ) (agreed : Agreement) (made : List Access) (attempt : Attempt)
    → Locks hash node agreed made attempt → length made ≤ 5
locks-length hash node agreed (Lock under by answer ∷ rest) attempt h =
    omega (arith, lock-goes-length hash node agreed (lock_gives answer) rest attempt h.2)
locks-length hash node agreed made attempt h = absurd h

creates-seen-length : (hash : ServiceHash) (node : ℕ) (agreed : Agreement) (refusal : Option CreateFailure) (made : List Access)
    (attempt : Attempt)
    → CreatesSeen hash node agreed refusal made attempt → length made ≤ 5
creates-seen-length hash node agreed None made attempt h = locks-length hash node agreed made attempt h
creates-seen-length hash node agreed (Some failure) made attempt h = omega (arith, ap (λ r. length r) h.0)

pub creates-length : CreatesInSix
creates-length hash node agreed (Some failure) made result h = omega (arith, ap (λ r. length r) h.0)
creates-length hash node agreed None (Look under answer ∷ rest) result h =
    omega (arith, creates-seen-length hash node agreed (refusal_seen h.0) rest h.1 h.4)
creates-length hash node agreed None made result h = absurd h

-- Of the storage operations after a lock: one lock is given up, and none is acquired; and the segments that were made are removed, unless
-- the service is made.
record Ends (made : List Access) (failed : Bool) (segments : ℕ) : Type 0 where
  taken : locks_taken made ≡ 0
  ended : locks_ended made ≡ 1
  more : segments_made made ≡ 0
  removed : failed ≡ true → segments_removed made ≡ segments

-- the attempt did not make a service
abbrev pub has_failed : Attempt → Bool
has_failed (attempt.Made service) = false
has_failed came = true

unlocks-ends : (hash : ServiceHash) (number : ℕ) (made : List Access) (failed : Bool) → Unlocks hash number made → Ends made failed 0
unlocks-ends hash number (Unlock under of ∷ rest) failed h = record {
  taken = ap (λ r. locks_taken r) h.2;
  ended = ap (λ r. 1 + locks_ended r) h.2;
  more = ap (λ r. segments_made r) h.2;
  removed = λ _. ap (λ r. segments_removed r) h.2;
}
unlocks-ends hash number made failed h = absurd h

undoes-ends : (hash : ServiceHash) (number : ℕ) (made : List Access) (failed : Bool) → Undoes hash number made → Ends made failed 1
undoes-ends hash number (RemoveSegment under of answer ∷ rest) failed h =
    let e = unlocks-ends hash number rest failed h.2 in
    record { taken = e.taken; ended = e.ended; more = e.more; removed = λ f. ap (λ k. 1 + k) (e.removed f) }
undoes-ends hash number made failed h = absurd h

publishes-ends : (hash : ServiceHash) (number : ℕ) (agreed : Agreement) (made : List Access) (came : Attempt)
    → Publishes hash number agreed made came → Ends made (has_failed came) 1
publishes-ends hash number agreed (Publish under of bytes publishing.Published ∷ rest) came h = record {
  taken = ap (λ r. locks_taken r) h.3.0;
  ended = ap (λ r. 1 + locks_ended r) h.3.0;
  more = ap (λ r. segments_made r) h.3.0;
  removed = λ failed. absurd (no (ap (λ a. has_failed a) h.3.1) failed);
}
  where
    no : {b : Bool} → b ≡ false → b ≡ true → ⊥
    no is failed = cc
publishes-ends hash number agreed (Publish under of bytes publishing.Fault ∷ rest) came h =
    let e = undoes-ends hash number rest (has_failed came) h.3.0 in record
    { taken = e.taken; ended = e.ended; more = e.more; removed = e.removed }
publishes-ends hash number agreed (Publish under of bytes publishing.OutOfMemory ∷ rest) came h =
    let e = undoes-ends hash number rest (has_failed came) h.3.0 in record
    { taken = e.taken; ended = e.ended; more = e.more; removed = e.removed }
publishes-ends hash number agreed (RemoveSegment under of answer ∷ rest) came h
    = undoes-ends hash number (RemoveSegment under of answer ∷ rest) (has_failed came) h.0
publishes-ends hash number agreed made came h = absurd h

-- of the storage operations of a lock and what follows
pub record Balanced (made : List Access) (failed : Bool) : Type 0 where
  pub locks : locks_taken made ≡ locks_ended made
  pub segments : failed ≡ true → segments_made made ≡ segments_removed made

record Follows (made : List Access) (failed : Bool) : Type 0 where
  taken : locks_taken made ≡ 0
  ended : locks_ended made ≡ 1
  segments : failed ≡ true → segments_made made ≡ segments_removed made

makes-follows : (hash : ServiceHash) (node number : ℕ) (agreed : Agreement) (made : List Access) (came : Attempt)
    → Makes hash node number agreed made came → Follows made (has_failed came)
makes-follows hash node number agreed (MakeSegment under of by room making.Made ∷ rest) came h =
    let e = publishes-ends hash number agreed rest came h.4 in
    record { taken = e.taken; ended = e.ended; segments = λ f. omega (arith, e.more, e.removed f) }
makes-follows hash node number agreed (MakeSegment under of by room making.Fault ∷ rest) came h =
    let e = unlocks-ends hash number rest (has_failed came) h.4.0 in
    record { taken = e.taken; ended = e.ended; segments = λ f. omega (arith, e.more, e.removed f) }
makes-follows hash node number agreed (MakeSegment under of by room making.OutOfMemory ∷ rest) came h =
    let e = unlocks-ends hash number rest (has_failed came) h.4.0 in
    record { taken = e.taken; ended = e.ended; segments = λ f. omega (arith, e.more, e.removed f) }
makes-follows hash node number agreed made came h = absurd h

pub nothing-more : (made : List Access) (failed : Bool) → made ≡ [] → Balanced made failed
nothing-more made failed none = record {
  locks = ap (λ r. locks_taken r) none ∙ sym (ap (λ r. locks_ended r) none);
  segments = λ _. ap (λ r. segments_made r) none ∙ sym (ap (λ r. segments_removed r) none);
}

-- a lock that isn't taken
refused-lock : (hash : ServiceHash) (node : ℕ) (answer : LockAnswer) (rest : List Access) (failed : Bool) → rest ≡ []
    → locks_taken (Lock hash node answer ∷ []) ≡ 0
    → Balanced (Lock hash node answer ∷ rest) failed
refused-lock hash node answer rest failed none free = record {
  locks = ap (λ r. locks_taken (Lock hash node answer ∷ r)) none ∙ free ∙ sym (ap (λ r. locks_ended r) none);
  segments = λ _. ap (λ r. segments_made r) none ∙ sym (ap (λ r. segments_removed r) none);
}

pub locks-balanced : (hash : ServiceHash) (node : ℕ) (agreed : Agreement) (made : List Access) (came : Attempt)
    → Locks hash node agreed made came → Balanced made (has_failed came)
locks-balanced hash node agreed (Lock under by (lock.Taken number) ∷ rest) came h =
    let e = makes-follows hash node number agreed rest came h.2 in record { locks = omega (arith, e.taken, e.ended); segments = e.segments }
locks-balanced hash node agreed (Lock under by lock.IsLocked ∷ rest) came h
    = refused-lock under by lock.IsLocked rest (has_failed came) h.2.0 refl
locks-balanced hash node agreed (Lock under by lock.Exists ∷ rest) came h
    = refused-lock under by lock.Exists rest (has_failed came) h.2.0 refl
locks-balanced hash node agreed (Lock under by lock.Denied ∷ rest) came h
    = refused-lock under by lock.Denied rest (has_failed came) h.2.0 refl
locks-balanced hash node agreed (Lock under by lock.Fault ∷ rest) came h
    = refused-lock under by lock.Fault rest (has_failed came) h.2.0 refl
locks-balanced hash node agreed (Lock under by lock.OutOfMemory ∷ rest) came h
    = refused-lock under by lock.OutOfMemory rest (has_failed came) h.2.0 refl
locks-balanced hash node agreed made came h = absurd h

creates-seen-balanced : (hash : ServiceHash) (node : ℕ) (agreed : Agreement) (refusal : Option CreateFailure) (made : List Access)
    (came : Attempt)
    → CreatesSeen hash node agreed refusal made came → Balanced made (has_failed came)
creates-seen-balanced hash node agreed None made came h = locks-balanced hash node agreed made came h
creates-seen-balanced hash node agreed (Some failure) made came h = nothing-more made (has_failed came) h.0

-- what an attempt is answered by tells whether it failed
is-refused : (came : Attempt) (failure : CreateFailure) → Err failure ≡ created came → has_failed came ≡ true
is-refused (attempt.Made service) failure h = cc
is-refused attempt.IsLocked failure h = refl
is-refused attempt.Exists failure h = refl
is-refused (attempt.Failed other) failure h = refl

pub creates-locks : LeavesNoLock
creates-locks hash node agreed (Some failure) made result h = (nothing-more made false h.0).locks
creates-locks hash node agreed None (Look under answer ∷ rest) result h
    = (creates-seen-balanced hash node agreed (refusal_seen h.0) rest h.1 h.4).locks
creates-locks hash node agreed None made result h = absurd h

pub creates-segments : RefusedLeavesNoSegment
creates-segments hash node agreed (Some refused) made failure h = (nothing-more made true h.0).segments refl
creates-segments hash node agreed None (Look under answer ∷ rest) failure h =
    (creates-seen-balanced hash node agreed (refusal_seen h.0) rest h.1 h.4).segments (is-refused h.1 failure h.5)
creates-segments hash node agreed None made failure h = absurd h

-- a service that was made is the one that is answered
service-is : (came : Attempt) (service made : Opened) → Ok service ≡ created came → came ≡ attempt.Made made → service ≡ made
service-is came service made h is = let same : Ok service ≡ created (attempt.Made made) = rw is at h in cc

no-service : (came : Attempt) (service : Opened) (failure : CreateFailure) → Ok service ≡ created came → came ≡ attempt.Failed failure → ⊥
no-service came service failure h is = let same : Ok service ≡ created (attempt.Failed failure) = rw is at h in cc

refused-came : (came : Attempt) (service : Opened) (other : Attempt) → Ok service ≡ created came → came ≡ other
    → has_failed other ≡ true → ⊥
refused-came came service (attempt.Made made) h is failed = cc
refused-came came service attempt.IsLocked h is failed = let same : Ok service ≡ created attempt.IsLocked = rw is at h in cc
refused-came came service attempt.Exists h is failed = let same : Ok service ≡ created attempt.Exists = rw is at h in cc
refused-came came service (attempt.Failed failure) h is failed = no-service came service failure h is

not-refused : (service : Opened) (failure : CreateFailure) → Ok service ≡ Err failure → ⊥
not-refused service failure h = cc

publishes-service : (hash : ServiceHash) (number : ℕ) (agreed : Agreement) (made : List Access) (came : Attempt) (service : Opened)
    → Publishes hash number agreed made came → Ok service ≡ created came
    → (service ≡ brought_about number agreed) × (made ≡ Publish hash number (line Two agreed) publishing.Published ∷ [])
publishes-service hash number agreed (Publish under of bytes publishing.Published ∷ rest) came service (own, same, spelled, (none, is)) h =
    (service-is came service (brought_about number agreed) h is, cc)
publishes-service hash number agreed (Publish under of bytes publishing.Fault ∷ rest) came service p h
    = absurd (no-service came service _ h p.3.1)
publishes-service hash number agreed (Publish under of bytes publishing.OutOfMemory ∷ rest) came service p h
    = absurd (no-service came service _ h p.3.1)
publishes-service hash number agreed (RemoveSegment under of answer ∷ rest) came service p h = absurd (no-service came service _ h p.1)
publishes-service hash number agreed made came service p h = absurd p

makes-service : (hash : ServiceHash) (node number : ℕ) (agreed : Agreement) (made : List Access) (came : Attempt) (service : Opened)
    → Makes hash node number agreed made came → Ok service ≡ created came
    → (service ≡ brought_about number agreed)
    × (made ≡ MakeSegment hash number node (max_nodes_of agreed.settings) making.Made
    ∷ Publish hash number (line Two agreed) publishing.Published ∷ [])
makes-service hash node number agreed (MakeSegment under of by room making.Made ∷ rest) came service (own, same, who, wide, then) h =
    let p = publishes-service hash number agreed rest came service then h in
    let tail : rest ≡ Publish hash number (line Two agreed) publishing.Published ∷ [] = p.1 in
    (p.0, cc)
makes-service hash node number agreed (MakeSegment under of by room making.Fault ∷ rest) came service m h
    = absurd (no-service came service _ h m.4.1)
makes-service hash node number agreed (MakeSegment under of by room making.OutOfMemory ∷ rest) came service m h
    = absurd (no-service came service _ h m.4.1)
makes-service hash node number agreed made came service m h = absurd m

-- the storage operations of a creation that went well end so
record IsPublished (hash : ServiceHash) (node : ℕ) (agreed : Agreement) (made : List Access) (service : Opened) : Type 0 where
  front : List Access
  agrees : service.description ≡ agreed
  all : made ≡ front ++ (MakeSegment hash service.number node (max_nodes_of agreed.settings) making.Made
      ∷ Publish hash service.number (line Two agreed) publishing.Published ∷ [])

locks-service : (hash : ServiceHash) (node : ℕ) (agreed : Agreement) (made : List Access) (came : Attempt) (service : Opened)
    → Locks hash node agreed made came → Ok service ≡ created came → IsPublished hash node agreed made service
locks-service hash node agreed (Lock under by (lock.Taken number) ∷ rest) came service l h =
    let m = makes-service hash node number agreed rest came service l.2 h in
    let numbered : service.number ≡ number = ap (λ s. s.number) m.0 in
    record {
      front = Lock under by (lock.Taken number) ∷ [];
      agrees = ap (λ s. s.description) m.0;
      all = rw numbered (ap (λ r. Lock under by (lock.Taken number) ∷ r) m.1);
    }
locks-service hash node agreed (Lock under by lock.IsLocked ∷ rest) came service l h
    = absurd (refused-came came service attempt.IsLocked h l.2.1 refl)
locks-service hash node agreed (Lock under by lock.Exists ∷ rest) came service l h
    = absurd (refused-came came service attempt.Exists h l.2.1 refl)
locks-service hash node agreed (Lock under by lock.Denied ∷ rest) came service l h = absurd (no-service came service _ h l.2.1)
locks-service hash node agreed (Lock under by lock.Fault ∷ rest) came service l h = absurd (no-service came service _ h l.2.1)
locks-service hash node agreed (Lock under by lock.OutOfMemory ∷ rest) came service l h = absurd (no-service came service _ h l.2.1)
locks-service hash node agreed made came service l h = absurd l

creates-seen-service : (hash : ServiceHash) (node : ℕ) (agreed : Agreement) (refusal : Option CreateFailure) (made : List Access)
    (came : Attempt) (service : Opened)
    → CreatesSeen hash node agreed refusal made came → Ok service ≡ created came → IsPublished hash node agreed made service
creates-seen-service hash node agreed None made came service c h = locks-service hash node agreed made came service c h
creates-seen-service hash node agreed (Some failure) made came service c h = absurd (no-service came service failure h c.1)

pub creates-service : CreatedIsPublished
creates-service hash node agreed (Some failure) made service c = absurd (not-refused service failure c.1)
creates-service hash node agreed None (Look under answer ∷ rest) service c =
    let p = creates-seen-service hash node agreed (refusal_seen c.0) rest c.1 service c.4 c.5 in
    (Look under answer ∷ p.front, p.agrees, ap (λ r. Look under answer ∷ r) p.all)
creates-service hash node agreed None made service c = absurd c
