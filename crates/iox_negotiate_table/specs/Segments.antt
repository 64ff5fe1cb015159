-- The segment of a service: the nodes that are registered in it, until the last one leaves.
use Rattle.std.specs.Prelude.{ℕ, ◌≡◌, Bool, true, false, Result, Ok, nat_eq}
use Rattle.std.specs.declared.alloc.AllocError.{AllocError}
use Rattle.iox_negotiate_base.specs.declared.answer.OpenSegmentAnswer.{OpenSegmentAnswer}
use Rattle.iox_negotiate_base.specs.declared.answer.OpenSegmentAnswer.TheVariants.{Marked}
use Rattle.iox_negotiate_base.specs.declared.answer.LeaveAnswer.{LeaveAnswer}
use Rattle.iox_negotiate_base.specs.declared.answer.LeaveAnswer.TheVariants as leaving
use Rattle.iox_negotiate_table.specs.declared.node.Node.{Node}
use Rattle.iox_negotiate_table.specs.declared.node.Node.TheVariants.{Own, Foreign}
use Rattle.iox_negotiate_table.specs.declared.segment.Segment.{Segment}
use Rattle.iox_negotiate_table.specs.declared.segment.Segment.TheVariants.{Open, Emptied}
use Rattle.iox_negotiate_table.specs.Nodes.{Nodes, count_in, left, has_foreign, without_foreign, Enters, Registers}

-- An own node opens the service; after the last node left, no node can open it.
abbrev pub Opens : ℕ → Segment → OpenSegmentAnswer → Segment → Type 0
Opens node (Open nodes) answer (Open after) = Enters node nodes answer after
Opens node (Open nodes) answer (Emptied by) = ⊥
Opens node (Emptied by) answer after = (answer ≡ Marked) × (after ≡ Emptied by)

-- The segment after a node left: emptied by this node, if no node is left.
abbrev pub closed_if : Bool → Node → Nodes → Segment
closed_if true node nodes = Emptied node
closed_if false node nodes = Open nodes

-- The segment after a node left these nodes: emptied by this node, if no node is left.
abbrev pub settled : Node → Nodes → Segment
settled node nodes = closed_if (nat_eq (count_in nodes) 0) node nodes

-- The segment after one factory of an own node is removed.
abbrev pub after_leave : ℕ → Segment → Segment
after_leave node (Open nodes) = settled (Own node) (left node nodes)
after_leave node (Emptied by) = Emptied by

-- The result of leaving: whether this leave emptied the segment.
abbrev pub leave_answer : Segment → Segment → LeaveAnswer
leave_answer (Open nodes) (Emptied by) = leaving.Emptied
leave_answer (Open nodes) (Open after) = leaving.Stays
leave_answer (Emptied other) after = leaving.Stays

-- A foreign node is registered in the segment, unless the last node left it.
abbrev pub RegistersIn : ℕ → Segment → Result (Unit {0}) AllocError → Segment → Type 0
RegistersIn node (Open nodes) result (Open after) = Registers node nodes result after
RegistersIn node (Open nodes) result (Emptied by) = ⊥
RegistersIn node (Emptied by) result after = (result ≡ Ok tt) × (after ≡ Emptied by)

-- The segment after a foreign node left, if it was registered.
abbrev pub foreign_left_if : Bool → ℕ → Nodes → Segment
foreign_left_if true node nodes = settled (Foreign node) (without_foreign node nodes)
foreign_left_if false node nodes = Open nodes

-- The segment after a foreign node left, if it was registered; an emptied segment stays emptied.
abbrev pub after_foreign_leave : ℕ → Segment → Segment
after_foreign_leave node (Open nodes) = foreign_left_if (has_foreign node nodes) node nodes
after_foreign_leave node (Emptied by) = Emptied by

-- Whether the last node left.
abbrev pub is_emptied : Segment → Bool
is_emptied (Open nodes) = false
is_emptied (Emptied by) = true

-- Whether the last node to leave was this foreign node.
abbrev pub is_emptied_by : ℕ → Segment → Bool
is_emptied_by node (Emptied (Foreign by)) = nat_eq by node
is_emptied_by node segment = false
