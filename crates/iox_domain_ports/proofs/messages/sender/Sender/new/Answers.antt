use Rattle.std.proofs.Common.{rules, ◌≡◌, length, None, ap}
use Rattle.iox_domain_ports.proofs.Seen.{fresh, fresh_seen}
use Rattle.iox_domain_ports.proofs.messages.sender.Sender.new.Goals as goal

pub invariant_of-result : goal.invariant_of-result
invariant_of-result g c =
    let headers : length c.in_ok-headers.headers.items ≡ c.args.config.slots = search (rules, c.in_ok-headers.ensures.len) in
    fresh c.in_ok-values.values c.in_ok-written.written c.in_ok-headers.headers.items
    (record { elements = 0; user_header = c.args.user_header; sequence = None })
    c.in_ok-uses.uses c.args.config.slots c.args.config.most_segments c.args.config.room
    (ap (λ u. u.first) c.in_ok-uses.ensures) (ap (λ u. u.size) c.in_ok-uses.ensures) (ap (λ u. u.sending) c.in_ok-uses.ensures)
    (ap (λ u. u.loans) c.in_ok-uses.ensures)
    (ap (λ u. u.history) c.in_ok-uses.ensures) (ap (λ u. u.connections) c.in_ok-uses.ensures)
    c.in_ok-values.ensures c.in_ok-written.ensures headers

pub returns : goal.returns
returns g c =
    fresh_seen c.in_ok-values.values c.in_ok-written.written c.in_ok-headers.headers.items
    (record { elements = 0; user_header = c.args.user_header; sequence = None })
    c.in_ok-uses.uses _ _ c.in_ok-uses.ensures c.in_ok-values.ensures
