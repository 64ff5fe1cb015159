use Rattle.std.proofs.Common.{◌∙◌}
use Rattle.iox_lanes_parties.proofs.UseCounts.{stands_if_any}
use Rattle.iox_lanes_parties.proofs.publisher.slot_book.stands_in.Goals as goal

pub returns : goal.returns
returns c = c.contains.ensures.value ∙ stands_if_any c.args.slot c.args.list.now.items
