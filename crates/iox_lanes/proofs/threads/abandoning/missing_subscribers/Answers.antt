use Rattle.std.proofs.Common.{ℕ, ◌≡◌, ◌<◌, ◌≤◌, length, subst, arith}
use Rattle.iox_lanes_threads.specs.Ending.{has_subscriber}
use Rattle.iox_lanes.proofs.Missing.{looked_at_none, next_there, looked_on, looked_at_all}
use Rattle.iox_lanes.proofs.threads.abandoning.missing_subscribers.Goals as goal

pub loop-place-init : goal.loop-place-init
loop-place-init c = looked_at_none (λ place. has_subscriber c.args.board.now place c.args.ports.now) c.args.ids.items

pub look-at-requires : goal.look-at-requires
look-at-requires c =
    let all : c.len-count.result ≡ length c.args.ids.items = omega (arith, c.len-count.ensures, c.args.ids.ok.0) in
    next_there (λ place. has_subscriber c.args.board.now place c.args.ports.now) c.loop-place.at c.loop-place.place c.loop-place.left.items
    c.args.ids.items c.loop-place.invariant (subst (λ (n : ℕ). c.loop-place.place < n) all c.loop-place-test.true)

pub loop-place-preserved : goal.loop-place-preserved
loop-place-preserved c =
    let all : c.len-count.result ≡ length c.args.ids.items = omega (arith, c.len-count.ensures, c.args.ids.ok.0) in
    looked_on (λ place. has_subscriber c.args.board.now place c.args.ports.now) c.loop-place.at c.loop-place.place
    c.loop-place.left.items c.args.ids.items c.has_subscriber.result c.look-at.result c.look-at.new.left.items c.loop-place.invariant
    (subst (λ (n : ℕ). c.loop-place.place < n) all c.loop-place-test.true)
    c.has_subscriber.ensures c.look-at.ensures.goes c.look-at.ensures.stays

pub returns : goal.returns
returns c =
    let all : c.len-count.result ≡ length c.args.ids.items = omega (arith, c.len-count.ensures, c.args.ids.ok.0) in
    looked_at_all (λ place. has_subscriber c.args.board.now place c.args.ports.now) c.loop-place.at c.loop-place.place
    c.loop-place.left.items c.args.ids.items c.loop-place.invariant (subst (λ (n : ℕ). n ≤ c.loop-place.place) all c.loop-place-test.false)
