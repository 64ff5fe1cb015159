-- What the results of storage operations mean to a node that creates or opens a service.
use Rattle.std.specs.Prelude.{ℕ, true, false, Option, None, Some, Result, Ok, Err}
use Rattle.iox_describe.specs.DescribeSettings.Agreement.{Agreement}
use Rattle.iox_negotiate_base.specs.declared.answer.LockAnswer.{LockAnswer}
use Rattle.iox_negotiate_base.specs.declared.answer.LockAnswer.TheVariants as lock
use Rattle.iox_negotiate_base.specs.declared.answer.MakeSegmentAnswer.{MakeSegmentAnswer}
use Rattle.iox_negotiate_base.specs.declared.answer.MakeSegmentAnswer.TheVariants as making
use Rattle.iox_negotiate_base.specs.declared.answer.PublishAnswer.{PublishAnswer}
use Rattle.iox_negotiate_base.specs.declared.answer.PublishAnswer.TheVariants as publishing
use Rattle.iox_negotiate_base.specs.declared.answer.OpenSegmentAnswer.{OpenSegmentAnswer}
use Rattle.iox_negotiate_base.specs.declared.answer.OpenSegmentAnswer.TheVariants as opening
use Rattle.iox_negotiate_base.specs.declared.sight.Sight.{Sight}
use Rattle.iox_negotiate_base.specs.declared.sight.Sight.TheVariants as seen
use Rattle.iox_negotiate_base.specs.declared.sight.SightFailure.{SightFailure}
use Rattle.iox_negotiate_base.specs.declared.sight.SightFailure.TheVariants as sight
use Rattle.iox_negotiate_base.specs.declared.request.Opened.{Opened}
use Rattle.iox_negotiate_base.specs.declared.creation.Attempt.{Attempt}
use Rattle.iox_negotiate_base.specs.declared.creation.Attempt.TheVariants as attempt
use Rattle.iox_negotiate_base.specs.declared.failure.CreateFailure.{CreateFailure}
use Rattle.iox_negotiate_base.specs.declared.failure.CreateFailure.TheVariants as uncreated
use Rattle.iox_negotiate_base.specs.declared.failure.OpenFailure.{OpenFailure}
use Rattle.iox_negotiate_base.specs.declared.failure.OpenFailure.TheVariants as unopened
use Rattle.iox_negotiate_base.specs.declared.failure.OpenOrCreateFailure.{OpenOrCreateFailure}
use Rattle.iox_negotiate_base.specs.declared.failure.OpenOrCreateFailure.TheVariants as either

-- A service that was opened.
abbrev pub opened : ℕ → Agreement → Opened
opened number agreed = record { number = number; description = agreed; is_new = false }

-- A service that was created.
abbrev pub brought_about : ℕ → Agreement → Opened
brought_about number agreed = record { number = number; description = agreed; is_new = true }

-- Why the service isn't created after this lookup; nothing prevents the creation if the service doesn't exist.
abbrev pub refusal_seen : Sight → Option CreateFailure
refusal_seen seen.Absent = None
refusal_seen (seen.Standing number agreed) = Some uncreated.AlreadyExists
refusal_seen (seen.Failed sight.HangsInCreation) = Some uncreated.HangsInCreation
refusal_seen (seen.Failed sight.InsufficientPermissions) = Some uncreated.InsufficientPermissions
refusal_seen (seen.Failed sight.ServiceInCorruptedState) = Some uncreated.ServiceInCorruptedState
refusal_seen (seen.Failed sight.OutOfMemory) = Some uncreated.OutOfMemory

-- Why the service isn't opened if the lookup failed.
abbrev pub open_failure_of : {V : Type 0} → SightFailure → OpenFailure V
open_failure_of sight.HangsInCreation = unopened.HangsInCreation
open_failure_of sight.InsufficientPermissions = unopened.InsufficientPermissions
open_failure_of sight.ServiceInCorruptedState = unopened.ServiceInCorruptedState
open_failure_of sight.OutOfMemory = unopened.OutOfMemory

-- The number of the service to create, or the result of the attempt to create it.
abbrev pub lock_gives : LockAnswer → Result ℕ Attempt
lock_gives (lock.Taken number) = Ok number
lock_gives lock.IsLocked = Err attempt.IsLocked
lock_gives lock.Exists = Err attempt.Exists
lock_gives lock.Denied = Err (attempt.Failed uncreated.InsufficientPermissions)
lock_gives lock.Fault = Err (attempt.Failed uncreated.InternalFailure)
lock_gives lock.OutOfMemory = Err (attempt.Failed uncreated.OutOfMemory)

-- Why the segment isn't made, if it isn't.
abbrev pub making_failure : MakeSegmentAnswer → Option CreateFailure
making_failure making.Made = None
making_failure making.Fault = Some uncreated.InternalFailure
making_failure making.OutOfMemory = Some uncreated.OutOfMemory

-- Why the description isn't published, if it isn't.
abbrev pub publishing_failure : PublishAnswer → Option CreateFailure
publishing_failure publishing.Published = None
publishing_failure publishing.Fault = Some uncreated.InternalFailure
publishing_failure publishing.OutOfMemory = Some uncreated.OutOfMemory

-- The result of opening the segment of a service: the service, an error, or the next round if the segment is absent.
abbrev pub entered : {V : Type 0} → ℕ → Agreement → OpenSegmentAnswer → Option (Result Opened (OpenFailure V))
entered number agreed opening.Registered = Some (Ok (opened number agreed))
entered number agreed opening.Absent = None
entered number agreed opening.Marked = Some (Err unopened.IsMarkedForDestruction)
entered number agreed opening.Full = Some (Err unopened.ExceedsMaxNumberOfNodes)
entered number agreed opening.Denied = Some (Err unopened.InsufficientPermissions)
entered number agreed opening.Fault = Some (Err unopened.InternalFailure)
entered number agreed opening.OutOfMemory = Some (Err unopened.OutOfMemory)

-- The result of an attempt for a node that only creates: another node's lock and an existing service are errors.
abbrev pub created : Attempt → Result Opened CreateFailure
created (attempt.Made service) = Ok service
created attempt.IsLocked = Err uncreated.IsBeingCreatedByAnotherInstance
created attempt.Exists = Err uncreated.AlreadyExists
created (attempt.Failed failure) = Err failure

-- The result of an attempt for a node that opens or creates: another node's lock and an existing service lead to the next round.
abbrev pub created_or_again : {V : Type 0} → Attempt → Option (Result Opened (OpenOrCreateFailure V))
created_or_again (attempt.Made service) = Some (Ok service)
created_or_again attempt.IsLocked = None
created_or_again attempt.Exists = None
created_or_again (attempt.Failed failure) = Some (Err (either.Create failure))

-- The result of an opening for a node that opens or creates.
abbrev pub opened_or_again : {V : Type 0} → Option (Result Opened (OpenFailure V)) → Option (Result Opened (OpenOrCreateFailure V))
opened_or_again None = None
opened_or_again (Some (Ok service)) = Some (Ok service)
opened_or_again (Some (Err failure)) = Some (Err (either.Open failure))
