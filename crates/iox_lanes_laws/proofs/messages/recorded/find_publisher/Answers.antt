use Rattle.std.proofs.Common.{◌≡◌, ◌++◌, slice_get, option_copied, None, append-nil, sym, ap, ◌∙◌}
use Rattle.iox_lanes_laws.specs.Numbered.{found_of}
use Rattle.iox_lanes_laws.proofs.messages.recorded.find_publisher.Goals as goal

pub returns-in-None : goal.returns-in-None
returns-in-None c =
    let none : slice_get c.args.lanes.now.publishers c.args.publisher ≡ None = sym c.lane_at.ensures ∙ ap option_copied c.in-None.is in
    sym (ap (λ at. c.args.messages.now.items ++ found_of c.args.lanes.now c.args.publisher at) none ∙ append-nil c.args.messages.now.items)
