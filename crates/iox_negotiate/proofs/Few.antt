-- A segment never has more nodes than its capacity, whichever nodes are added and removed.
use Rattle.std.proofs.Common.{◌≡◌, ℕ, ◌+◌, ◌-◌, ◌^◌, ◌≤◌, Bool, true, false, cond, not, ◌&&◌, Option, None, Some, Result, Ok, Err, length}
use Rattle.std.proofs.Common.{nat_eq, nat_lt, refl, inl, inr, arith}
use Rattle.std.specs.declared.alloc.AllocError.{AllocError}
use Rattle.std.specs.Ordering.{nat_cmp}
use Rattle.std.specs.BTreeMap.{is_at}
use Rattle.std.specs.Map.{remove_entry}
use Rattle.std.proofs.lemmas.Map.{length-set_value}
use Rattle.iox_negotiate_table.specs.NegotiateBase.declared.answer.OpenSegmentAnswer.{OpenSegmentAnswer}
use Rattle.iox_negotiate_table.specs.declared.node.Node.{Node}
use Rattle.iox_negotiate_table.specs.declared.segment.Segment.{Segment}
use Rattle.iox_negotiate_table.specs.declared.segment.Segment.TheVariants.{Open, Emptied}
use Rattle.iox_negotiate_table.specs.Nodes.{Nodes, count_in, factories_of, with_node, with_factories, without_node, less_one, left}
use Rattle.iox_negotiate_table.specs.Nodes.{with_foreign, without_foreign, has_foreign, Enters, EntersWith, EntersAgain, EntersFirst}
use Rattle.iox_negotiate_table.specs.Nodes.{RegistersIf}
use Rattle.iox_negotiate_table.specs.Segments.{Opens, after_leave, closed_if, RegistersIn, after_foreign_leave, foreign_left_if}
use Rattle.iox_negotiate_table.proofs.Entries.{length-added, length-insert_key, length-removed}
use Rattle.iox_negotiate.proofs.Maps.{on}
use Rattle.std.proofs.Common.{List, [], ◌∷◌}

-- no more than there is room for
abbrev pub IsFew : Segment → Type 0
IsFew (Open nodes) = count_in nodes ≤ nodes.max_nodes
IsFew (Emptied by) = Unit {0}

removed-here : {K X : Type 0} (e : K × X) (es later : List (K × X)) (b : Bool) → length later ≤ length es
    → length (cond b es (e ∷ later)) ≤ length (e ∷ es)
removed-here e es later true h = omega (arith, h)
removed-here e es later false h = omega (arith, h)

length-removed-entry : {K X : Type 0} (test : K → Bool) (es : List (K × X)) → length (remove_entry test es) ≤ length es
length-removed-entry test [] = omega arith
length-removed-entry test (e ∷ es) = removed-here e es (remove_entry test es) (test e.0) (length-removed-entry test es)

-- as many as before
again : (node count : ℕ) (nodes : Nodes) → count_in nodes ≤ nodes.max_nodes → count_in (with_factories node count nodes) ≤ nodes.max_nodes
again node count nodes few =
    let same : length (with_factories node count nodes).own ≡ length nodes.own
    = length-set_value (is_at (nat_cmp node)) nodes.own count in omega (arith, same, few)

entered : (node : ℕ) (before after : Nodes) (answer : OpenSegmentAnswer) → count_in before ≤ before.max_nodes
    → Enters node before answer after → count_in after ≤ after.max_nodes
entered node before after answer few h = by_count (factories_of before node) h
  where
    more : (count : ℕ) (b : Bool) → EntersAgain count b node before answer after → count_in after ≤ after.max_nodes
    more count true h = rw h.1 few
    more count false h = rw h.1 (again node (count + 1) before few)

    first : (b : Bool) → nat_lt (count_in before) before.max_nodes ≡ b → EntersFirst b node before answer after
        → count_in after ≤ after.max_nodes
    first true room (inl h) =
        let longer : length (with_node node before).own ≤ length before.own + 1
        = length-added nat_cmp node 1 before.own in rw h.1 (grind (arith, room, longer))
    first true room (inr h) = rw h.1 few
    first false room h = rw h.1 few

    by_count : (found : Option ℕ) → EntersWith found node before answer after → count_in after ≤ after.max_nodes
    by_count (Some count) h = more count (nat_eq count (2 ^ 64 - 1)) h
    by_count None h = first (nat_lt (count_in before) before.max_nodes) refl h

pub opens-few : (node : ℕ) (segment after : Segment) (answer : OpenSegmentAnswer) → IsFew segment → Opens node segment answer after
    → IsFew after
opens-few node (Open before) (Open after) answer few h = entered node before after answer few h
opens-few node (Open before) (Emptied by) answer few h = absurd h
opens-few node (Emptied by) after answer few h = rw h.1 tt

closed-few : (b : Bool) (node : Node) (nodes : Nodes) → count_in nodes ≤ nodes.max_nodes → IsFew (closed_if b node nodes)
closed-few true node nodes few = tt
closed-few false node nodes few = few

pub left-few : (node : ℕ) (nodes : Nodes) → count_in nodes ≤ nodes.max_nodes → count_in (left node nodes) ≤ (left node nodes).max_nodes
left-few node nodes few = by_count (factories_of nodes node)
  where
    out : count_in (without_node node nodes) ≤ nodes.max_nodes
    out = let shorter : length (without_node node nodes).own ≤ length nodes.own
        = length-removed-entry (is_at (nat_cmp node)) nodes.own in omega (arith, shorter, few)

    less : (count : ℕ) (b : Bool) → count_in (cond b (with_factories node (count - 1) nodes) (without_node node nodes))
        ≤ (cond b (with_factories node (count - 1) nodes) (without_node node nodes)).max_nodes
    less count true = again node (count - 1) nodes few
    less count false = out

    by_count : (found : Option ℕ) → count_in (less_one nodes node found) ≤ (less_one nodes node found).max_nodes
    by_count (Some count) = less count (nat_lt 1 count)
    by_count None = few

pub leave-few : (node : ℕ) (segment : Segment) → IsFew segment → IsFew (after_leave node segment)
leave-few node (Open nodes) few = closed-few (nat_eq (count_in (left node nodes)) 0) _ (left node nodes) (left-few node nodes few)
leave-few node (Emptied by) few = tt

registered : (by : ℕ) (nodes after : Nodes) (fits : Bool) (result : Result (Unit {0}) AllocError)
    → fits ≡ (not (has_foreign by nodes) && nat_lt (count_in nodes) nodes.max_nodes)
    → RegistersIf fits by nodes result after → count_in nodes ≤ nodes.max_nodes → count_in after ≤ after.max_nodes
registered by nodes after true (Ok done) fits h few =
    let longer : length (with_foreign by nodes).foreign ≤ length nodes.foreign + 1
    = length-insert_key nat_cmp nodes.foreign by in rw h (bound (has_foreign by nodes) fits longer)
  where
    bound : (b : Bool) → true ≡ (not b && nat_lt (count_in nodes) nodes.max_nodes)
        → length (with_foreign by nodes).foreign ≤ length nodes.foreign + 1
        → count_in (with_foreign by nodes) ≤ nodes.max_nodes
    bound true is longer = on is
    bound false is longer = grind (arith, is, longer)
registered by nodes after true (Err lacking) fits h few = rw h few
registered by nodes after false (Ok done) fits h few = rw h few
registered by nodes after false (Err lacking) fits h few = absurd h

pub register-few : (by : ℕ) (segment after : Segment) (result : Result (Unit {0}) AllocError) → IsFew segment
    → RegistersIn by segment result after → IsFew after
register-few by (Open nodes) (Open after) result few h
    = registered by nodes after (not (has_foreign by nodes) && nat_lt (count_in nodes) nodes.max_nodes) result refl h few
register-few by (Open nodes) (Emptied other) result few h = absurd h
register-few by (Emptied other) after result few h = rw h.1 tt

taken-out : (b : Bool) (by : ℕ) (nodes : Nodes) → count_in nodes ≤ nodes.max_nodes → IsFew (foreign_left_if b by nodes)
taken-out true by nodes few =
    let shorter : length (without_foreign by nodes).foreign ≤ length nodes.foreign = length-removed (is_at (nat_cmp by)) nodes.foreign in
    closed-few (nat_eq (count_in (without_foreign by nodes)) 0) _ (without_foreign by nodes) (omega (arith, shorter, few))
taken-out false by nodes few = few

pub foreign-leave-few : (by : ℕ) (segment : Segment) → IsFew segment → IsFew (after_foreign_leave by segment)
foreign-leave-few by (Open nodes) few = taken-out (has_foreign by nodes) by nodes few
foreign-leave-few by (Emptied other) few = tt
