use Rattle.std.proofs.Common.{rules, ◌≡◌, ◌+◌, ◌-◌, ◌++◌, take, replicate, length, is_ok, IsOk, if◌then◌else◌}
use Rattle.iox_domain_ports.proofs.Opening.{resized_is}
use Rattle.iox_domain_ports.proofs.messages.sender.open_slots.Goals as goal

pub returns-clause-longer : goal.returns-clause-longer
returns-clause-longer g c =
    let count : c.len-before.result ≡ length c.args.headers.now.items = search (rules, c.len-before.ensures) in
    let done : IsOk c.resize-resized.result
    = search (rules, c.resize-resized.ensures.succeeds, c.in_ok-reserve.ensures.ok, c.in_ok-reserve.ensures.len, c.len-before.ensures) in
    let resized : c.resize-resized.new.self.items
    ≡ (if is_ok c.resize-resized.result then take (length c.args.headers.now.items + c.args.count)
    c.args.headers.now.items ++ replicate
    (length c.args.headers.now.items + c.args.count - length c.args.headers.now.items) c.args.blank else
    c.args.headers.now.items) =
    search (rules, c.resize-resized.ensures.items, c.in_ok-reserve.ensures.items, c.in_ok-reserve.ensures.len, count) in
    resized_is c.resize-resized.result c.resize-resized.new.self.items c.args.headers.now.items c.args.count c.args.blank done resized
