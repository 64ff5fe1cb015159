-- Each own node lies once in a segment.
use Rattle.std.proofs.Common.{◌≡◌, ◌≢◌, ℕ, ◌+◌, ◌-◌, ◌^◌, Bool, true, false, cond, not, ◌&&◌, List, [], ◌∷◌, Option, None, Some, Result}
use Rattle.std.proofs.Common.{Ok, Err, nat_eq, nat_lt, refl, ◌∙◌, inl, inr}
use Rattle.std.specs.List.{AllByRecursion}
use Rattle.std.specs.declared.alloc.AllocError.{AllocError}
use Rattle.std.specs.Ordering.{nat_cmp}
use Rattle.std.specs.Cmp.{nat_cmp_total}
use Rattle.std.specs.BTreeMap.{is_at}
use Rattle.std.proofs.lemmas.Map.Lookups.{exact_unsigned}
use Rattle.iox_negotiate_table.specs.NegotiateBase.declared.answer.OpenSegmentAnswer.{OpenSegmentAnswer}
use Rattle.iox_negotiate_table.specs.declared.node.Node.{Node}
use Rattle.iox_negotiate_table.specs.declared.segment.Segment.{Segment}
use Rattle.iox_negotiate_table.specs.declared.segment.Segment.TheVariants.{Open, Emptied}
use Rattle.iox_negotiate_table.specs.Nodes.{Nodes, count_in, factories_of, with_factories, without_node, less_one, left, has_foreign}
use Rattle.iox_negotiate_table.specs.Nodes.{without_foreign, Enters, EntersWith, EntersAgain, EntersFirst, RegistersIf}
use Rattle.iox_negotiate_table.specs.Segments.{Opens, after_leave, closed_if, RegistersIn, after_foreign_leave, foreign_left_if}
use Rattle.iox_negotiate_table.proofs.Entries.{is-self}
use Rattle.iox_negotiate.proofs.Maps.{on, none-passes, Distinct, insert-distinct, set-distinct, remove-distinct}

abbrev pub AreOnce : Nodes → Type 0
AreOnce nodes = Distinct (λ e. e.0) nodes.own

abbrev pub IsSeat : Segment → Type 0
IsSeat (Open nodes) = AreOnce nodes
IsSeat (Emptied by) = Unit {0}

out-of : (node : ℕ) (es : List (ℕ × ℕ)) → AllByRecursion (λ e. is_at (nat_cmp node) e.0 ≡ false) es → AllByRecursion (λ e. e.0 ≢ node) es
out-of node [] all = tt
out-of node (e ∷ es) all = ((λ same. on (passes same ∙ all.0)), out-of node es all.1)
  where
    passes : e.0 ≡ node → true ≡ is_at (nat_cmp node) e.0
    passes same = rw same (rw (is-self nat_cmp nat_cmp_total node) refl)

again : (node count : ℕ) (nodes : Nodes) → AreOnce nodes → AreOnce (with_factories node count nodes)
again node count nodes once = set-distinct (λ e. e.0) (is_at (nat_cmp node)) count nodes.own (λ x v found. refl) once

entered : (node : ℕ) (before after : Nodes) (answer : OpenSegmentAnswer) → AreOnce before → Enters node before answer after → AreOnce after
entered node before after answer once h = by_count (factories_of before node) refl h
  where
    more : (count : ℕ) (b : Bool) → EntersAgain count b node before answer after → AreOnce after
    more count true h = rw h.1 once
    more count false h = rw h.1 (again node (count + 1) before once)

    first : (b : Bool) → factories_of before node ≡ None → EntersFirst b node before answer after → AreOnce after
    first true out (inl h) = rw h.1 (insert-distinct (λ e. e.0) nat_cmp node 1 exact_unsigned before.own once
        (out-of node before.own (none-passes (is_at (nat_cmp node)) before.own out)))
    first true out (inr h) = rw h.1 once
    first false out h = rw h.1 once

    by_count : (found : Option ℕ) → factories_of before node ≡ found → EntersWith found node before answer after → AreOnce after
    by_count (Some count) is h = more count (nat_eq count (2 ^ 64 - 1)) h
    by_count None is h = first (nat_lt (count_in before) before.max_nodes) is h

pub opens-seat : (node : ℕ) (segment after : Segment) (answer : OpenSegmentAnswer) → IsSeat segment → Opens node segment answer after
    → IsSeat after
opens-seat node (Open before) (Open after) answer once h = entered node before after answer once h
opens-seat node (Open before) (Emptied by) answer once h = absurd h
opens-seat node (Emptied by) after answer once h = rw h.1 tt

closed-seat : (b : Bool) (node : Node) (nodes : Nodes) → AreOnce nodes → IsSeat (closed_if b node nodes)
closed-seat true node nodes once = tt
closed-seat false node nodes once = once

left-once : (node : ℕ) (nodes : Nodes) → AreOnce nodes → AreOnce (left node nodes)
left-once node nodes once = by_count (factories_of nodes node)
  where
    less : (count : ℕ) (b : Bool) → AreOnce (cond b (with_factories node (count - 1) nodes) (without_node node nodes))
    less count true = again node (count - 1) nodes once
    less count false = remove-distinct (λ e. e.0) (is_at (nat_cmp node)) nodes.own once

    by_count : (found : Option ℕ) → AreOnce (less_one nodes node found)
    by_count (Some count) = less count (nat_lt 1 count)
    by_count None = once

pub leave-seat : (node : ℕ) (segment : Segment) → IsSeat segment → IsSeat (after_leave node segment)
leave-seat node (Open nodes) once = closed-seat (nat_eq (count_in (left node nodes)) 0) _ (left node nodes) (left-once node nodes once)
leave-seat node (Emptied by) once = tt

registered : (by : ℕ) (nodes after : Nodes) (fits : Bool) (result : Result (Unit {0}) AllocError)
    → RegistersIf fits by nodes result after → AreOnce nodes → AreOnce after
registered by nodes after true (Ok done) h once = rw h once
registered by nodes after true (Err lacking) h once = rw h once
registered by nodes after false (Ok done) h once = rw h once
registered by nodes after false (Err lacking) h once = absurd h

pub register-seat : (by : ℕ) (segment after : Segment) (result : Result (Unit {0}) AllocError) → IsSeat segment
    → RegistersIn by segment result after → IsSeat after
register-seat by (Open nodes) (Open after) result once h
    = registered by nodes after (not (has_foreign by nodes) && nat_lt (count_in nodes) nodes.max_nodes) result h once
register-seat by (Open nodes) (Emptied other) result once h = absurd h
register-seat by (Emptied other) after result once h = rw h.1 tt

taken-out : (b : Bool) (by : ℕ) (nodes : Nodes) → AreOnce nodes → IsSeat (foreign_left_if b by nodes)
taken-out true by nodes once = closed-seat (nat_eq (count_in (without_foreign by nodes)) 0) _ (without_foreign by nodes) once
taken-out false by nodes once = once

pub foreign-leave-seat : (by : ℕ) (segment : Segment) → IsSeat segment → IsSeat (after_foreign_leave by segment)
foreign-leave-seat by (Open nodes) once = taken-out (has_foreign by nodes) by nodes once
foreign-leave-seat by (Emptied other) once = tt
