-- What is kept says it of each connection's order and positions.
use Rattle.std.proofs.Common.{ℕ, ◌≡◌, ◌+◌, ◌<◌, ◌≤◌, if◌then◌else◌, List, [], length, get_or, slice_get, Some, inl, inr, arith}
use Rattle.std.proofs.lemmas.Bool.{cases_lt}
use Rattle.std.proofs.lemmas.Option.{slice_get_within, slice_get-get_or}
use Rattle.iox_lanes_machine.specs.QueuesSteps.Access.{RingWords}
use Rattle.iox_lanes_machine.specs.QueuesSteps.OverflowingRing as overflowing_ring
use Rattle.iox_lanes_machine.specs.QueuesSteps.declared.rings.overflowing.push.Push as overflowing_push_type
use Rattle.iox_lanes_machine.specs.QueuesSteps.declared.rings.overflowing.push.Push.TheVariants as overflowing_push
use Rattle.iox_lanes_machine.specs.QueuesSteps.Ends.{Shape, overflows}
use Rattle.iox_lanes_machine.specs.QueuesSteps.declared.rings.ends.RingKind.{RingKind}
use Rattle.iox_lanes_machine.specs.QueuesSteps.declared.rings.ends.RingKind.TheVariants as kind
use Rattle.iox_lanes_machine.specs.QueuesSteps.declared.rings.ends.Push.{Push}
use Rattle.iox_lanes_machine.specs.QueuesSteps.declared.rings.ends.Push.TheVariants as push
use Rattle.iox_lanes_machine.specs.QueuesSteps.declared.rings.ends.Pop.{Pop}
use Rattle.iox_lanes_machine.specs.QueuesSteps.declared.rings.ends.Pop.TheVariants as pop
use Rattle.iox_lanes_machine.specs.Kept.{IsKept}
use Rattle.iox_lanes_machine.specs.Mailboxes.{OrderFollows, OrdersFollow, positions_of, PositionsNear}
use Rattle.iox_lanes_machine.specs.Returns.{ReturnsNear}
use Rattle.iox_lanes_machine.specs.World.{World}
use Rattle.iox_lanes_machine.specs.Links.{LinkState}

pub orders_follow : (m : World) → IsKept m → OrdersFollow m
orders_follow m k = λ connection order got few link found. ((k.rings few) connection link order found got).mailbox

pub order_there : (m : World) (connection : ℕ) (link : LinkState) → IsKept m → slice_get m.links connection ≡ Some link
    → slice_get m.orders connection ≡ Some (get_or m.orders connection [])
order_there m connection link k found
    = slice_get-get_or m.orders connection [] (omega (arith, slice_get_within m.links connection link found, k.within.orders))

pub order_follows : (m : World) (connection : ℕ) → IsKept m → OrderFollows m connection (get_or m.orders connection [])
order_follows m connection k = λ few link found.
    ((k.rings few) connection link (get_or m.orders connection []) found (order_there m connection link k found)).mailbox

-- the positions by the stage of the push
pub record Near (limit more : ℕ) (words : RingWords) : Type 0 where
  pub behind : words.read ≤ words.write
  pub near : words.write ≤ words.read + limit + more

late_near : (limit : ℕ) (words : RingWords) (q : List ℕ) (value seen : ℕ) → length q ≤ limit
    → overflowing_ring.IsLate limit words q value seen → Near limit 1 words
late_near limit words q value seen room h = elim (cases_lt seen words.read) [
  | inl lt ↦ let level : words.read + length q ≡ words.write
      = h.moved lt in record { behind = omega (arith, level); near = omega (arith, level, room) }
  | inr ge ↦ record { behind = omega (arith, ge, h.written, h.seen_before); near = omega (arith, h.written, h.seen_before) }
]

level_near : (limit : ℕ) (words : RingWords) (q : List ℕ) → length q ≤ limit → words.read + length q ≡ words.write → Near limit 1 words
level_near limit words q room h = record { behind = omega (arith, h); near = omega (arith, h, room) }

push_near : (limit : ℕ) (words : RingWords) (q : List ℕ) (p : overflowing_push_type.Push) → length q ≤ limit
    → overflowing_ring.PushKnows limit words q p → Near limit 1 words
push_near limit words q overflowing_push.Idle room h = level_near limit words q room h
push_near limit words q (overflowing_push.Begun l value) room h = level_near limit words q room h.0
push_near limit words q (overflowing_push.SawWrite l value write next) room h = level_near limit words q room h.0
push_near limit words q (overflowing_push.SawRead l value write next seen) room h = level_near limit words q room h.0
push_near limit words q (overflowing_push.Filled l value write next seen) room h = level_near limit words q room h.0
push_near limit words q (overflowing_push.Full value seen next) room h = late_near limit words q value seen room h.0
push_near limit words q (overflowing_push.SawOldest value seen next oldest) room h = late_near limit words q value seen room h.0
push_near limit words q (overflowing_push.Pushed value answer) room h = level_near limit words q room h

pub shape_near : (k : RingKind) (limit : ℕ) (words : RingWords) (q : List ℕ) (p : Push) (c : Pop) → Shape k limit words q p c
    → Near limit (if overflows k then 1 else 0) words
shape_near kind.Overflowing limit words q (push.Overflowing p) (pop.Overflowing c) s = push_near limit words q p s.room s.push_knows
shape_near kind.Overflowing limit words q (push.Overflowing p) (pop.Refusing c) s = absurd s
shape_near kind.Overflowing limit words q (push.Refusing p) (pop.Overflowing c) s = absurd s
shape_near kind.Overflowing limit words q (push.Refusing p) (pop.Refusing c) s = absurd s
shape_near kind.Refusing limit words q (push.Overflowing p) (pop.Overflowing c) s = absurd s
shape_near kind.Refusing limit words q (push.Overflowing p) (pop.Refusing c) s = absurd s
shape_near kind.Refusing limit words q (push.Refusing p) (pop.Overflowing c) s = absurd s
shape_near kind.Refusing limit words q (push.Refusing p) (pop.Refusing c) s
    = record { behind = omega (arith, s.level); near = omega (arith, s.level, s.room) }

pub positions_near : (m : World) (connection : ℕ) → IsKept m → PositionsNear m connection (positions_of m.table connection)
positions_near m connection k = λ few link found.
    let is = (k.rings few) connection link (get_or m.orders connection []) found (order_there m connection link k found) in
    let near = shape_near link.kind link.limit _ _ _ _ is.shape in
    record { behind = near.behind; near = near.near }

-- a connection that there is has its words
pub is_connection : (m : World) (connection : ℕ) → IsKept m → connection < length m.links → connection < m.table.sizes.connections
is_connection m connection k below =
    let d : LinkState = record { publisher = 0; subscriber = 0; kind = kind.Refusing; limit = 0; found = [] } in
    (k.within.links connection (get_or m.links connection d) (slice_get-get_or m.links connection d below)).connection_is

-- no more samples stand given back than there are cells
pub returns_near : (m : World) (connection : ℕ) → IsKept m → connection < length m.links → ReturnsNear m (positions_of m.table connection)
returns_near m connection k below = λ few.
    let d : LinkState = record { publisher = 0; subscriber = 0; kind = kind.Refusing; limit = 0; found = [] } in
    let is = ((k.returns).rings few) connection (get_or m.links connection d) (slice_get-get_or m.links connection d below) in
    record { behind = omega (arith, (is.shape).level); near = omega (arith, (is.shape).level, (is.shape).room) }
