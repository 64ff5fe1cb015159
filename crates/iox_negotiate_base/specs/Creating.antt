-- The storage operations that create a service (a lock, its segment, its description), and those that undo a creation.
use Rattle.std.specs.Prelude.{◌≡◌, ℕ, List, [], ◌∷◌, Option, None, Some, Result, Ok, Err}
use Rattle.iox_describe.specs.DescribeBase.declared.hash.ServiceHash.{ServiceHash}
use Rattle.iox_describe.specs.DescribeSettings.Agreement.{Agreement, max_nodes_of}
use Rattle.iox_describe.specs.Line.{line}
use Rattle.iox_describe.specs.DescribeSettings.declared.description.Version.TheVariants.{Two}
use Rattle.iox_negotiate_base.specs.Access.{Access, Look, Lock, MakeSegment, Publish, Unlock, RemoveSegment}
use Rattle.iox_negotiate_base.specs.Failing.{brought_about, refusal_seen, lock_gives, making_failure, publishing_failure, created}
use Rattle.iox_negotiate_base.specs.Sight.{IsSight}
use Rattle.iox_negotiate_base.specs.declared.sight.Sight.{Sight}
use Rattle.iox_negotiate_base.specs.declared.request.Opened.{Opened}
use Rattle.iox_negotiate_base.specs.declared.creation.Attempt.{Attempt}
use Rattle.iox_negotiate_base.specs.declared.creation.Attempt.TheVariants.{Made, Failed}
use Rattle.iox_negotiate_base.specs.declared.failure.CreateFailure.{CreateFailure}
use Rattle.iox_negotiate_base.specs.declared.failure.CreateFailure.TheVariants.{OutOfMemory}

-- The storage operations release the lock.
abbrev pub Unlocks : ServiceHash → ℕ → List Access → Type 0
Unlocks hash number (Unlock under of ∷ rest) = (under ≡ hash) × (of ≡ number) × (rest ≡ [])
Unlocks hash number made = ⊥

-- The storage operations remove the segment, whatever the result is, and release the lock.
abbrev pub Undoes : ServiceHash → ℕ → List Access → Type 0
Undoes hash number (RemoveSegment under of answer ∷ rest) = (under ≡ hash) × (of ≡ number) × Unlocks hash number rest
Undoes hash number made = ⊥

-- After publishing: if the description was published, the service is created; else the storage operations undo what was made.
abbrev pub PublishGoes : ServiceHash → ℕ → Agreement → Option CreateFailure → List Access → Attempt → Type 0
PublishGoes hash number agreed None made attempt = (made ≡ []) × (attempt ≡ Made (brought_about number agreed))
PublishGoes hash number agreed (Some failure) made attempt = Undoes hash number made × (attempt ≡ Failed failure)

-- The storage operations publish the description; or memory to write the line runs out, and they undo what was made.
abbrev pub Publishes : ServiceHash → ℕ → Agreement → List Access → Attempt → Type 0
Publishes hash number agreed (Publish under of bytes answer ∷ rest) attempt =
    (under ≡ hash) × (of ≡ number) × (bytes ≡ line Two agreed) × PublishGoes hash number agreed (publishing_failure answer) rest attempt
Publishes hash number agreed (RemoveSegment under of answer ∷ rest) attempt =
    Undoes hash number (RemoveSegment under of answer ∷ rest) × (attempt ≡ Failed OutOfMemory)
Publishes hash number agreed made attempt = ⊥

-- After making the segment: if it was made, the storage operations publish the description; else they release the lock.
abbrev pub MakeGoes : ServiceHash → ℕ → Agreement → Option CreateFailure → List Access → Attempt → Type 0
MakeGoes hash number agreed None made attempt = Publishes hash number agreed made attempt
MakeGoes hash number agreed (Some failure) made attempt = Unlocks hash number made × (attempt ≡ Failed failure)

-- The storage operations make the segment for the agreed number of nodes, register the node in it, and go on as the result permits.
abbrev pub Makes : ServiceHash → ℕ → ℕ → Agreement → List Access → Attempt → Type 0
Makes hash node number agreed (MakeSegment under of by room answer ∷ rest) attempt =
    (under ≡ hash) × (of ≡ number) × (by ≡ node) × (room ≡ max_nodes_of agreed.settings)
    × MakeGoes hash number agreed (making_failure answer) rest attempt
Makes hash node number agreed made attempt = ⊥

-- After locking: if the lock was taken, for a service with this number, the storage operations make the segment; else there are no more.
abbrev pub LockGoes : ServiceHash → ℕ → Agreement → Result ℕ Attempt → List Access → Attempt → Type 0
LockGoes hash node agreed (Ok number) made attempt = Makes hash node number agreed made attempt
LockGoes hash node agreed (Err came) made attempt = (made ≡ []) × (attempt ≡ came)

-- The storage operations lock the hash, and create the service if the lock is taken.
abbrev pub Locks : ServiceHash → ℕ → Agreement → List Access → Attempt → Type 0
Locks hash node agreed (Lock under by answer ∷ rest) attempt =
    (under ≡ hash) × (by ≡ node) × LockGoes hash node agreed (lock_gives answer) rest attempt
Locks hash node agreed made attempt = ⊥

-- After the lookup: if nothing prevents the creation, the storage operations lock the hash; else there are no more.
abbrev pub CreatesSeen : ServiceHash → ℕ → Agreement → Option CreateFailure → List Access → Attempt → Type 0
CreatesSeen hash node agreed None made attempt = Locks hash node agreed made attempt
CreatesSeen hash node agreed (Some failure) made attempt = (made ≡ []) × (attempt ≡ Failed failure)

-- The storage operations create a service: none if its settings are refused, else a lookup and what follows it.
abbrev pub CreatesIf : ServiceHash → ℕ → Agreement → Option CreateFailure → List Access → Result Opened CreateFailure → Type 0
CreatesIf hash node agreed (Some failure) made result = (made ≡ []) × (result ≡ Err failure)
CreatesIf hash node agreed None (Look under answer ∷ rest) result =
    (shown : Sight) × (attempt : Attempt) × (under ≡ hash) × IsSight hash answer shown
    × CreatesSeen hash node agreed (refusal_seen shown) rest attempt × (result ≡ created attempt)
CreatesIf hash node agreed None made result = ⊥
