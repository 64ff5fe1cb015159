use Rattle.iox_lanes_laws.proofs.PublisherCourses as laws
use Rattle.iox_lanes_laws.proofs.courses.publishers_keep_course.Goals as goal

pub returns-clause-course : goal.returns-clause-course
returns-clause-course c = laws.publishers_keep_course

pub returns-clause-ends : goal.returns-clause-ends
returns-clause-ends c = laws.publishers_end_at_once
