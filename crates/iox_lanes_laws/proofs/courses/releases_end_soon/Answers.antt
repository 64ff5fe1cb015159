use Rattle.iox_lanes_laws.proofs.SubscriberCourses as laws
use Rattle.iox_lanes_laws.proofs.courses.releases_end_soon.Goals as goal

pub returns : goal.returns
returns c = laws.releases_end_soon
