-- What is done to a segment that was found.
use Rattle.std.proofs.Common.{◌≡◌, ℕ, Option, Some}
use Rattle.iox_negotiate_base.specs.DescribeBase.declared.hash.ServiceHash.{ServiceHash}
use Rattle.iox_negotiate_base.specs.declared.answer.OpenSegmentAnswer.{OpenSegmentAnswer}
use Rattle.iox_negotiate_base.specs.declared.answer.LeaveAnswer.{LeaveAnswer}
use Rattle.iox_negotiate_table.specs.declared.segment.Segment.{Segment}
use Rattle.iox_negotiate_table.specs.Segments.{Opens, after_leave, leave_answer}
use Rattle.iox_negotiate_table.specs.Contents.{Contents, with_segment}
use Rattle.iox_negotiate_table.specs.Sights.{OpensPublished, LeavesPublished}

pub opens-found : (hash : ServiceHash) (number node : ℕ) (old new : Contents) (answer : OpenSegmentAnswer) (segment after : Segment)
    (found : Option Segment)
    → found ≡ Some segment → Opens node segment answer after → new ≡ with_segment hash number after old
    → OpensPublished found hash number node old answer new
opens-found hash number node old new answer segment after found is opens new_is = rw is (after, opens, new_is)

pub leaves-found : (hash : ServiceHash) (number node : ℕ) (old new : Contents) (answer : LeaveAnswer) (segment after : Segment)
    (found : Option Segment)
    → found ≡ Some segment → after ≡ after_leave node segment → answer ≡ leave_answer segment after
    → new ≡ with_segment hash number after old
    → LeavesPublished found hash number node old answer new
leaves-found hash number node old new answer segment after found is after_is answer_is new_is =
    rw is (rw (← after_is) answer_is, rw (← after_is) new_is)
