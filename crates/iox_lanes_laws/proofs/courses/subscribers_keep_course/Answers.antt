use Rattle.iox_lanes_laws.proofs.SubscriberCourses as laws
use Rattle.iox_lanes_laws.proofs.courses.subscribers_keep_course.Goals as goal

pub returns-clause-course : goal.returns-clause-course
returns-clause-course c = laws.subscribers_keep_course

pub returns-clause-ends : goal.returns-clause-ends
returns-clause-ends c = laws.subscribers_end_at_once
