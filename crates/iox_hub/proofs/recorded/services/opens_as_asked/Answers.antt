use Rattle.std.proofs.Common.{sym}
use Rattle.iox_hub.proofs.recorded.services.opens_as_asked.Goals as goal

pub returns : goal.returns
returns g c = λ asked is. rw (sym is) (rw (c.with_requirement-required.ensures, c.new.ensures.items) at c.open_with_attributes_in.ensures)
