-- The operations of a storage, with their arguments and their results.
use Rattle.std.specs.Prelude.{ℕ, List}
use Rattle.iox_describe.specs.DescribeBase.declared.hash.ServiceHash.{ServiceHash}
use Rattle.iox_negotiate_base.specs.declared.answer.LookAnswer.{LookAnswer}
use Rattle.iox_negotiate_base.specs.declared.answer.LockAnswer.{LockAnswer}
use Rattle.iox_negotiate_base.specs.declared.answer.MakeSegmentAnswer.{MakeSegmentAnswer}
use Rattle.iox_negotiate_base.specs.declared.answer.PublishAnswer.{PublishAnswer}
use Rattle.iox_negotiate_base.specs.declared.answer.OpenSegmentAnswer.{OpenSegmentAnswer}
use Rattle.iox_negotiate_base.specs.declared.answer.LeaveAnswer.{LeaveAnswer}
use Rattle.iox_negotiate_base.specs.declared.answer.RemoveAnswer.{RemoveAnswer}

-- One storage operation: the hash, the number of the service if the storage operation has one, the node, its other arguments, and the
-- result.
pub data Access : Type 0 where
  Look : (hash : ServiceHash) (answer : LookAnswer) → Access
  Lock : (hash : ServiceHash) (node : ℕ) (answer : LockAnswer) → Access
  MakeSegment : (hash : ServiceHash) (number node max_nodes : ℕ) (answer : MakeSegmentAnswer) → Access
  Publish : (hash : ServiceHash) (number : ℕ) (bytes : List ℕ) (answer : PublishAnswer) → Access
  Unlock : (hash : ServiceHash) (number : ℕ) → Access
  OpenSegment : (hash : ServiceHash) (number node : ℕ) (answer : OpenSegmentAnswer) → Access
  Leave : (hash : ServiceHash) (number node : ℕ) (answer : LeaveAnswer) → Access
  RemoveDescription : (hash : ServiceHash) (number : ℕ) (answer : RemoveAnswer) → Access
  RemoveSegment : (hash : ServiceHash) (number : ℕ) (answer : RemoveAnswer) → Access
