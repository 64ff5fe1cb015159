-- Theorems about every creation and every opening.
use Rattle.std.specs.Prelude.{◌≡◌, ℕ, ◌+◌, ◌≤◌, List, [], ◌∷◌, ◌++◌, Option, Result, Ok, Err, length}
use Rattle.iox_describe.specs.DescribeBase.declared.hash.ServiceHash.{ServiceHash}
use Rattle.iox_describe.specs.DescribeSettings.Agreement.{Agreement, max_nodes_of}
use Rattle.iox_describe.specs.Line.{line}
use Rattle.iox_describe.specs.DescribeSettings.declared.description.Version.TheVariants.{Two}
use Rattle.iox_negotiate_base.specs.Access.{Access, Lock, MakeSegment, Publish, Unlock, RemoveSegment}
use Rattle.iox_negotiate_base.specs.Creating.{CreatesIf}
use Rattle.iox_negotiate_base.specs.Opening.{Opens, OpensOrCreates}
use Rattle.iox_negotiate_base.specs.declared.answer.LockAnswer.TheVariants.{Taken}
use Rattle.iox_negotiate_base.specs.declared.answer.MakeSegmentAnswer.TheVariants.{Made}
use Rattle.iox_negotiate_base.specs.declared.answer.PublishAnswer.TheVariants.{Published}
use Rattle.iox_negotiate_base.specs.declared.request.Opened.{Opened}
use Rattle.iox_negotiate_base.specs.declared.failure.CreateFailure.{CreateFailure}
use Rattle.iox_negotiate_base.specs.declared.failure.OpenFailure.{OpenFailure}
use Rattle.iox_negotiate_base.specs.declared.failure.OpenOrCreateFailure.{OpenOrCreateFailure}

-- A creation makes at most six storage operations.
abbrev pub CreatesInSix : Type 0
CreatesInSix = (hash : ServiceHash) (node : ℕ) (agreed : Agreement) (refusal : Option CreateFailure) (made : List Access)
    (result : Result Opened CreateFailure)
    → CreatesIf hash node agreed refusal made result → length made ≤ 6

-- How many locks these storage operations took.
abbrev pub locks_taken : List Access → ℕ
locks_taken [] = 0
locks_taken (Lock hash node (Taken number) ∷ rest) = 1 + locks_taken rest
locks_taken (access ∷ rest) = locks_taken rest

-- How many locks these storage operations ended, by releasing them or by publishing a description.
abbrev pub locks_ended : List Access → ℕ
locks_ended [] = 0
locks_ended (Unlock hash number ∷ rest) = 1 + locks_ended rest
locks_ended (Publish hash number bytes Published ∷ rest) = 1 + locks_ended rest
locks_ended (access ∷ rest) = locks_ended rest

-- A creation leaves no lock, however it ends.
abbrev pub LeavesNoLock : Type 0
LeavesNoLock = (hash : ServiceHash) (node : ℕ) (agreed : Agreement) (refusal : Option CreateFailure) (made : List Access)
    (result : Result Opened CreateFailure)
    → CreatesIf hash node agreed refusal made result → locks_taken made ≡ locks_ended made

-- How many segments these storage operations made.
abbrev pub segments_made : List Access → ℕ
segments_made [] = 0
segments_made (MakeSegment hash number node max_nodes Made ∷ rest) = 1 + segments_made rest
segments_made (access ∷ rest) = segments_made rest

-- How many segments these storage operations tried to remove.
abbrev pub segments_removed : List Access → ℕ
segments_removed [] = 0
segments_removed (RemoveSegment hash number answer ∷ rest) = 1 + segments_removed rest
segments_removed (access ∷ rest) = segments_removed rest

-- A refused creation tries to remove each segment that it made.
abbrev pub RefusedLeavesNoSegment : Type 0
RefusedLeavesNoSegment = (hash : ServiceHash) (node : ℕ) (agreed : Agreement) (refusal : Option CreateFailure) (made : List Access)
    (failure : CreateFailure)
    → CreatesIf hash node agreed refusal made (Err failure) → segments_made made ≡ segments_removed made

-- A successful creation returns what was to be agreed, and its last two storage operations made the segment for the agreed number of nodes
-- and published the line of the agreement, both under the number that it returns.
abbrev pub CreatedIsPublished : Type 0
CreatedIsPublished = (hash : ServiceHash) (node : ℕ) (agreed : Agreement) (refusal : Option CreateFailure) (made : List Access)
    (service : Opened)
    → CreatesIf hash node agreed refusal made (Ok service)
    → (front : List Access) × (service.description ≡ agreed)
    × (made ≡ front ++ (MakeSegment hash service.number node (max_nodes_of agreed.settings) Made
    ∷ Publish hash service.number (line Two agreed) Published ∷ []))

-- An opening makes at most ten storage operations.
abbrev pub OpensInTen : Type 0 → Type 0
OpensInTen V = (hash : ServiceHash) (node : ℕ) (verdict : Agreement
    → Result (Unit {0}) V) (made : List Access) (result : Result Opened (OpenFailure V))
    → Opens hash node verdict made result → length made ≤ 10

-- An opening or creation makes at most fourteen storage operations.
abbrev pub OpensOrCreatesInFourteen : Type 0 → Type 0
OpensOrCreatesInFourteen V = (hash : ServiceHash) (node : ℕ) (verdict : Agreement
    → Result (Unit {0}) V) (agreed : Agreement) (refusal : Option CreateFailure)
    (made : List Access) (result : Result Opened (OpenOrCreateFailure V)) → OpensOrCreates hash node verdict agreed refusal made result
    → length made ≤ 14

-- An opening or creation leaves no lock, however it ends.
abbrev pub EitherLeavesNoLock : Type 0 → Type 0
EitherLeavesNoLock V = (hash : ServiceHash) (node : ℕ) (verdict : Agreement
    → Result (Unit {0}) V) (agreed : Agreement) (refusal : Option CreateFailure)
    (made : List Access) (result : Result Opened (OpenOrCreateFailure V))
    → OpensOrCreates hash node verdict agreed refusal made result → locks_taken made ≡ locks_ended made

-- A refused opening or creation tries to remove each segment that it made.
abbrev pub RefusedEitherLeavesNoSegment : Type 0 → Type 0
RefusedEitherLeavesNoSegment V = (hash : ServiceHash) (node : ℕ) (verdict : Agreement
    → Result (Unit {0}) V) (agreed : Agreement) (refusal : Option CreateFailure)
    (made : List Access) (failure : OpenOrCreateFailure V)
    → OpensOrCreates hash node verdict agreed refusal made (Err failure) → segments_made made ≡ segments_removed made
