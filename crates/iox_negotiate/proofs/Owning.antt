-- No more factories of an own node are registered in a published service than are open.
use Rattle.std.proofs.Common.{◌≡◌, ◌≢◌, ℕ, ◌+◌, ◌-◌, ◌^◌, ◌≤◌, Bool, true, false, cond, not, ◌&&◌, List, [], Option, None, Some, Result}
use Rattle.std.proofs.Common.{Ok, Err, nat_eq, nat_lt, refl, sym, ap, subst, ◌∙◌, inl, inr, arith}
use Rattle.std.specs.declared.alloc.AllocError.{AllocError}
use Rattle.std.specs.Ordering.{nat_cmp}
use Rattle.std.specs.Cmp.{nat_cmp_total}
use Rattle.std.specs.BTreeMap.{is_at}
use Rattle.std.specs.Map.{lookup}
use Rattle.std.proofs.lemmas.Map.Lookups.{exact_unsigned}
use Rattle.iox_negotiate_table.specs.DescribeBase.declared.hash.ServiceHash.{ServiceHash}
use Rattle.iox_negotiate_table.specs.DescribeSettings.Agreement.{max_nodes_of}
use Rattle.iox_negotiate_table.specs.Describe.Line.{line}
use Rattle.iox_negotiate_table.specs.NegotiateBase.Access.{Access, Publish, OpenSegment, Leave}
use Rattle.iox_negotiate_table.specs.NegotiateBase.declared.answer.OpenSegmentAnswer.{OpenSegmentAnswer}
use Rattle.iox_negotiate_table.specs.NegotiateBase.declared.answer.OpenSegmentAnswer.TheVariants as opening
use Rattle.iox_negotiate_table.specs.NegotiateBase.declared.answer.PublishAnswer.TheVariants as publishing
use Rattle.iox_negotiate_table.specs.declared.node.Node.{Node}
use Rattle.iox_negotiate_table.specs.declared.node.Node.TheVariants.{Own}
use Rattle.iox_negotiate_table.specs.declared.entry.Entry.TheVariants.{Locked, Described}
use Rattle.iox_negotiate_table.specs.declared.segment.Segment.{Segment}
use Rattle.iox_negotiate_table.specs.declared.segment.Segment.TheVariants.{Open, Emptied}
use Rattle.iox_negotiate_table.specs.declared.step.ForeignStep.{ForeignStep}
use Rattle.iox_negotiate_table.specs.declared.step.ForeignStep.TheVariants as step
use Rattle.iox_negotiate_table.specs.Nodes.{Nodes, count_in, factories_of, less_one, left, first_node, first_foreign, has_foreign}
use Rattle.iox_negotiate_table.specs.Nodes.{without_foreign, Enters, EntersWith, EntersAgain, EntersFirst, RegistersIf}
use Rattle.iox_negotiate_table.specs.Segments.{Opens, after_leave, closed_if, RegistersIn, after_foreign_leave, foreign_left_if}
use Rattle.iox_negotiate_table.specs.Contents.{Contents, empty_table, entry_at, segment_at, digest_cmp, place_cmp, may_publish}
use Rattle.iox_negotiate_table.specs.Foreign.{Acts}
use Rattle.iox_negotiate_table.specs.Sights.{Sight, Publishes}
use Rattle.iox_negotiate_table.proofs.Entries.{lookup-set, lookup-added, is-self}
use Rattle.iox_negotiate.specs.Histories.{Event, Accesses, Steps as StepsUnder}
use Rattle.iox_negotiate.proofs.Maps.{set-apart, insert-apart, remove-apart}
use Rattle.iox_negotiate.proofs.Seats.{AreOnce, IsSeat}
use Rattle.iox_negotiate.proofs.Tables.{IsTable, sees, acts, new-table, seat-found, digest-self}
use Rattle.iox_negotiate.proofs.Changes.{Turns, Change, Same, LockOf, Without, PublishOf, NewSegment, OfSegment, WithoutSegment}
use Rattle.iox_negotiate.proofs.Changes.{ServiceOf, Removal, changes, hash_of, by_hash, elsewhere, same-place, place-apart}
use Rattle.iox_negotiate.proofs.Lives.{not-locked, not-none}
use Rattle.iox_negotiate.proofs.Held.{by_number, nodes-apart, node-away, entered-same, entered-first}
use Rattle.iox_negotiate.proofs.Closing.{taken, entry-gone, segment-gone}
use Rattle.iox_negotiate.proofs.Rooming.{UnpublishingEvent, no-publish, open-is}
use Rattle.iox_negotiate.proofs.Gaining.{added, Calm}

-- a node that is out; or that has a factory, and no more than n
abbrev pub IsBelow : Option ℕ → ℕ → Type 0
IsBelow None limit = Unit {0}
IsBelow (Some count) limit = (1 ≤ count) × (count ≤ limit)

below-to : (found : Option ℕ) (limit larger : ℕ) → limit ≤ larger → IsBelow found limit → IsBelow found larger
below-to None limit larger more h = tt
below-to (Some count) limit larger more h = let below = h.1 in (h.0, omega (arith, below, more))

below-more : (found : Option ℕ) (limit more : ℕ) → IsBelow found limit → IsBelow found (limit + more)
below-more found limit more h = below-to found limit (limit + more) (omega arith) h

-- ---- the nodes of a segment

-- each node has at most as many factories as before, and n more
abbrev Grows : (ℕ → ℕ) → Segment → Segment → Type 0
Grows more (Open before) (Open after) = (node limit : ℕ) → IsBelow (factories_of before node) limit
    → IsBelow (factories_of after node) (limit + more node)
Grows more (Emptied by) (Open after) = ⊥
Grows more before (Emptied by) = Unit {0}

same-grows : (more : ℕ → ℕ) (before after : Nodes) → after.own ≡ before.own → Grows more (Open before) (Open after)
same-grows more before after same node limit h =
    subst (λ own. IsBelow (lookup (is_at (nat_cmp node)) own) (limit + more node)) (sym same)
    (below-more (factories_of before node) limit (more node) h)

-- an opening with another answer changes nothing
enters-else : (node : ℕ) (before after : Nodes) (answer : OpenSegmentAnswer) → (answer ≡ opening.Registered → ⊥)
    → Enters node before answer after → after ≡ before
enters-else node before after answer other h = by_count (factories_of before node) h
  where
    again : (count : ℕ) (b : Bool) → EntersAgain count b node before answer after → after ≡ before
    again count true h = h.1
    again count false h = absurd (other h.0)

    first : (b : Bool) → EntersFirst b node before answer after → after ≡ before
    first true (inl h) = absurd (other h.0)
    first true (inr h) = h.1
    first false h = h.1

    by_count : (found : Option ℕ) → EntersWith found node before answer after → after ≡ before
    by_count (Some count) h = again count (nat_eq count (2 ^ 64 - 1)) h
    by_count None h = first (nat_lt (count_in before) before.max_nodes) h

else-grows : (node : ℕ) (answer : OpenSegmentAnswer) → (answer ≡ opening.Registered → ⊥) → (more : ℕ → ℕ) (before after : Segment)
    → Opens node before answer after → Grows more before after
else-grows node answer other more (Open before) (Open after) h
    = same-grows more before after (ap (λ n. n.own) (enters-else node before after answer other h))
else-grows node answer other more (Open before) (Emptied by) h = absurd h
else-grows node answer other more (Emptied by) after h = subst (λ s. Grows more (Emptied by) s) (sym h.1) tt

-- an opening leaves the other nodes their factories
enters-others : (node other : ℕ) (before after : Nodes) (answer : OpenSegmentAnswer) → node ≢ other → Enters node before answer after
    → factories_of after other ≡ factories_of before other
enters-others node other before after answer differ h = by_count (factories_of before node) h
  where
    again : (count : ℕ) (b : Bool) → EntersAgain count b node before answer after → factories_of after other ≡ factories_of before other
    again count true h = ap (λ n. factories_of n other) h.1
    again count false h = rw h.1 (set-apart (is_at (nat_cmp node)) (is_at (nat_cmp other)) (nodes-apart node other differ) before.own
        (count + 1))

    first : (b : Bool) → EntersFirst b node before answer after → factories_of after other ≡ factories_of before other
    first true (inl h) = rw h.1 (insert-apart nat_cmp node 1 (is_at (nat_cmp other)) (node-away node other differ) exact_unsigned
        before.own)
    first true (inr h) = ap (λ n. factories_of n other) h.1
    first false h = ap (λ n. factories_of n other) h.1

    by_count : (found : Option ℕ) → EntersWith found node before answer after → factories_of after other ≡ factories_of before other
    by_count (Some count) h = again count (nat_eq count (2 ^ 64 - 1)) h
    by_count None h = first (nat_lt (count_in before) before.max_nodes) h

-- and gives its own node one more
enters-one : (node limit : ℕ) (before after : Nodes) → Enters node before opening.Registered after
    → IsBelow (factories_of before node) limit → IsBelow (factories_of after node) (limit + 1)
enters-one node limit before after h below = by_count (factories_of before node) refl below
  where
    by_count : (found : Option ℕ) → factories_of before node ≡ found → IsBelow found limit → IsBelow (factories_of after node) (limit + 1)
    by_count (Some count) has below = let upper
        = below.1 in rw (entered-same node count before after has h) (omega arith, omega (arith, upper))
    by_count None out below = rw (entered-first node before after out h) (omega arith, omega arith)

registered-grows : (hash : ServiceHash) (number node : ℕ) (before after : Segment) → Opens node before opening.Registered after
    → Grows (added (Accesses (OpenSegment hash number node opening.Registered)) number) before after
registered-grows hash number node (Open before) (Open after) h
    = λ other limit below. by_number node other (same other limit below) (apart other limit below)
  where
    same : (other limit : ℕ) → IsBelow (factories_of before other) limit → node ≡ other
        → IsBelow (factories_of after other) (limit + cond (nat_eq number number && nat_eq node other) 1 0)
    same other limit below is =
        let flag : (nat_eq number number && nat_eq node other) ≡ true = grind (arith, is) in
        subst (λ b. IsBelow (factories_of after other) (limit + cond b 1 0)) (sym flag)
        (subst (λ n. IsBelow (factories_of after n) (limit + 1)) is
        (enters-one node limit before after h (subst (λ n. IsBelow (factories_of before n) limit) (sym is) below)))

    apart : (other limit : ℕ) → IsBelow (factories_of before other) limit → node ≢ other
        → IsBelow (factories_of after other) (limit + cond (nat_eq number number && nat_eq node other) 1 0)
    apart other limit below differ = rw (enters-others node other before after opening.Registered differ h)
        (below-more (factories_of before other) limit _ below)
registered-grows hash number node (Open before) (Emptied by) h = absurd h
registered-grows hash number node (Emptied by) after h
    = subst (λ s. Grows (added (Accesses (OpenSegment hash number node opening.Registered)) number) (Emptied by) s) (sym h.1) tt

opens-grows : (hash : ServiceHash) (number node : ℕ) (answer : OpenSegmentAnswer) (before after : Segment)
    → Opens node before answer after → Grows (added (Accesses (OpenSegment hash number node answer)) number) before after
opens-grows hash number node opening.Registered before after h = registered-grows hash number node before after h
opens-grows hash number node opening.Absent before after h = else-grows node opening.Absent (λ e. cc) _ before after h
opens-grows hash number node opening.Marked before after h = else-grows node opening.Marked (λ e. cc) _ before after h
opens-grows hash number node opening.Full before after h = else-grows node opening.Full (λ e. cc) _ before after h
opens-grows hash number node opening.Denied before after h = else-grows node opening.Denied (λ e. cc) _ before after h
opens-grows hash number node opening.Fault before after h = else-grows node opening.Fault (λ e. cc) _ before after h
opens-grows hash number node opening.OutOfMemory before after h = else-grows node opening.OutOfMemory (λ e. cc) _ before after h

-- a leave takes one off
pub left-own : (node limit : ℕ) (nodes : Nodes) → AreOnce nodes → IsBelow (factories_of nodes node) limit
    → IsBelow (factories_of (left node nodes) node) (limit - 1)
left-own node limit nodes once below = by_count (factories_of nodes node) refl below
  where
    fewer : (count : ℕ) (b : Bool) → nat_lt 1 count ≡ b → count ≤ limit → IsBelow (cond b (Some (count - 1)) None) (limit - 1)
    fewer count true many upper = let some : 2 ≤ count = grind (arith, many) in (omega (arith, some), omega (arith, some, upper))
    fewer count false few upper = tt

    by_count : (found : Option ℕ) → factories_of nodes node ≡ found → IsBelow found limit
        → IsBelow (factories_of (left node nodes) node) (limit - 1)
    by_count (Some count) has below = rw ((taken node nodes once).off count has) (fewer count (nat_lt 1 count) refl below.1)
    by_count None out below = subst (λ f. IsBelow f (limit - 1)) (sym (ap (λ f. factories_of (less_one nodes node f) node) out ∙ out)) tt

left-below : (by : ℕ) (nodes : Nodes) → AreOnce nodes → (node limit : ℕ) → IsBelow (factories_of nodes node) limit
    → IsBelow (factories_of (left by nodes) node) limit
left-below by nodes once node limit below = by_number node by same (λ differ. rw ((taken by nodes once).others node differ) below)
  where
    same : node ≡ by → IsBelow (factories_of (left by nodes) node) limit
    same is = subst (λ n. IsBelow (factories_of (left n nodes) node) limit) is
        (below-to (factories_of (left node nodes) node) (limit - 1) limit (omega arith) (left-own node limit nodes once below))

closed-grows : (b : Bool) (by : Node) (more : ℕ → ℕ) (before after : Nodes)
    → ((node limit : ℕ) → IsBelow (factories_of before node) limit → IsBelow (factories_of after node) limit)
    → Grows more (Open before) (closed_if b by after)
closed-grows true by more before after kept = tt
closed-grows false by more before after kept = λ node limit h. below-more (factories_of after node) limit (more node) (kept node limit h)

leave-grows : (node : ℕ) (more : ℕ → ℕ) (before : Segment) → IsSeat before → Grows more before (after_leave node before)
leave-grows node more (Open nodes) once
    = closed-grows (nat_eq (count_in (left node nodes)) 0) _ more nodes (left node nodes) (left-below node nodes once)
leave-grows node more (Emptied by) once = tt

-- foreign nodes don't touch the factories of own ones
registers-own : (by : ℕ) (nodes after : Nodes) (fits : Bool) (result : Result (Unit {0}) AllocError)
    → RegistersIf fits by nodes result after → after.own ≡ nodes.own
registers-own by nodes after true (Ok done) h = ap (λ n. n.own) h
registers-own by nodes after true (Err lacking) h = ap (λ n. n.own) h
registers-own by nodes after false (Ok done) h = ap (λ n. n.own) h
registers-own by nodes after false (Err lacking) h = absurd h

register-grows : (by : ℕ) (more : ℕ → ℕ) (before after : Segment) (result : Result (Unit {0}) AllocError)
    → RegistersIn by before result after → Grows more before after
register-grows by more (Open nodes) (Open after) result h
    = same-grows more nodes after (registers-own by nodes after (not (has_foreign by nodes) && nat_lt (count_in nodes) nodes.max_nodes)
    result h)
register-grows by more (Open nodes) (Emptied other) result h = absurd h
register-grows by more (Emptied other) after result h = subst (λ s. Grows more (Emptied other) s) (sym h.1) tt

foreign-leave-grows : (by : ℕ) (more : ℕ → ℕ) (before : Segment) → Grows more before (after_foreign_leave by before)
foreign-leave-grows by more (Open nodes) = there (has_foreign by nodes)
  where
    there : (b : Bool) → Grows more (Open nodes) (foreign_left_if b by nodes)
    there true = closed-grows (nat_eq (count_in (without_foreign by nodes)) 0) _ more nodes (without_foreign by nodes) (λ node limit h. h)
    there false = same-grows more nodes nodes refl
foreign-leave-grows by more (Emptied other) = tt

turned : (event : Event) (number : ℕ) (before after : Segment) → IsSeat before → Turns event number before after
    → Grows (added event number) before after
turned (Accesses (OpenSegment hash at node answer)) number before after seat (same, opens) =
    subst (λ n. Grows (added (Accesses (OpenSegment hash at node answer)) n) before after) same
    (opens-grows hash at node answer before after opens)
turned (Accesses (Leave hash at node answer)) number before after seat (same, is) =
    subst (λ s. Grows (added (Accesses (Leave hash at node answer)) number) before s) (sym is) (leave-grows node _ before seat)
turned (StepsUnder hash (step.Register node)) number before after seat (result, h) = register-grows node _ before after result h
turned (StepsUnder hash (step.Leave node)) number before after seat is =
    subst (λ s. Grows (added (StepsUnder hash (step.Leave node)) number) before s) (sym is) (foreign-leave-grows node _ before)
turned event number before after seat turns = absurd turns

-- what was before: an open segment too
before-of : (more : ℕ → ℕ) (before : Segment) (nodes : Nodes) → Grows more before (Open nodes) → (was : Nodes) × (before ≡ Open was)
    × Grows more (Open was) (Open nodes)
before-of more (Open was) nodes g = (was, refl, g)
before-of more (Emptied by) nodes g = absurd g

-- ---- the services of a table

-- each own node in a published service has at most n factories
abbrev pub BoundedAt : (ℕ → ℕ → ℕ) → ServiceHash → ℕ → Contents → Type 0
BoundedAt limit hash number table = (bytes : List ℕ) (nodes : Nodes) (node : ℕ) → entry_at hash table ≡ Some (Described number bytes)
    → segment_at hash number table ≡ Some (Open nodes)
    → IsBelow (factories_of nodes node) (limit number node)

pub record Owned (limit : ℕ → ℕ → ℕ) (table : Contents) : Type 0 where
  pub is : IsTable table
  pub bounded : (hash : ServiceHash) (number : ℕ) → BoundedAt limit hash number table

pub loosened : (limit larger : ℕ → ℕ → ℕ) (table : Contents) → ((number node : ℕ) → limit number node ≤ larger number node)
    → Owned limit table → Owned larger table
loosened limit larger table more o = record {
  is = o.is;
  bounded = λ hash number bytes nodes node published stands. below-to (factories_of nodes node) (limit number node) (larger number node)
      (more number node) (o.bounded hash number bytes nodes node published stands);
}

abbrev raised : (ℕ → ℕ → ℕ) → Event → ℕ → ℕ → ℕ
raised limit event number node = limit number node + added event number node

module _ (limit : ℕ → ℕ → ℕ) (hash : ServiceHash) (number : ℕ) (old new : Contents) (is : IsTable old) (event : Event)
    (un : UnpublishingEvent event) (bound : BoundedAt limit hash number old) where
  not-described : (node : Node) (at : ℕ) → entry_at hash new ≡ Some (Locked node at) → BoundedAt (raised limit event) hash number new
  not-described node at locked bytes nodes d published stands = absurd (not-locked node at number bytes (sym locked ∙ published))

  no-entry : entry_at hash new ≡ None → BoundedAt (raised limit event) hash number new
  no-entry gone bytes nodes d published stands = absurd (not-none number bytes (sym gone ∙ published))

  kept-here : Change event hash old new → BoundedAt (raised limit event) hash number new
  kept-here (Same same) bytes nodes node published stands =
      below-more (factories_of nodes node) (limit number node) (added event number node)
      (bound bytes nodes node (subst (λ t. entry_at hash t ≡ Some (Described number bytes)) same published)
      (subst (λ t. segment_at hash number t ≡ Some (Open nodes)) same stands))
  kept-here (LockOf by free same) bytes nodes node published stands
      = (not-described by old.next (rw same
      (lookup-added digest_cmp hash.digest (Locked by old.next) old.entries (digest-self hash.digest)))) bytes nodes node published stands
  kept-here (Without same) bytes nodes node published stands
      = (no-entry (rw same (entry-gone hash old is))) bytes nodes node published stands
  kept-here (PublishOf by at text locked as_told same) bytes nodes node published stands
      = absurd (no-publish hash at by text old event un locked as_told)
  kept-here (NewSegment at by segment locked same) bytes nodes node published stands
      = (not-described (Own by) at (rw same locked)) bytes nodes node published stands
  kept-here (OfSegment at before segment stood room turns same) bytes nodes node published stands = by_number at number here there
    where
      entry : entry_at hash old ≡ Some (Described number bytes)
      entry = subst (λ t. entry_at hash t ≡ Some (Described number bytes)) same published

      there : at ≢ number → IsBelow (factories_of nodes node) (raised limit event number node)
      there differ = below-more (factories_of nodes node) (limit number node) (added event number node) (bound bytes nodes node entry
          (sym (set-apart (is_at (place_cmp (hash.digest, at))) (is_at (place_cmp (hash.digest, number)))
          (place-apart (hash.digest, at) (hash.digest, number) (λ e. differ (ap (λ p. p.1) e))) old.segments segment)
          ∙ subst (λ t. segment_at hash number t ≡ Some (Open nodes)) same stands))

      here : at ≡ number → IsBelow (factories_of nodes node) (raised limit event number node)
      here is_it =
          let found : segment_at hash at new ≡ Some segment
          = rw same (lookup-set (is_at (place_cmp (hash.digest, at))) old.segments segment (rw stood refl)) in
          let segment_is : segment ≡ Open nodes = open-is segment nodes (sym found ∙ ap (λ n. segment_at hash n new) is_it ∙ stands) in
          let was = before-of (added event at) before nodes
          (subst (λ s. Grows (added event at) before s) segment_is
          (turned event at before segment (seat-found hash old is at before stood) turns)) in
          let below = bound bytes was.0 node entry (sym (ap (λ n. segment_at hash n old) is_it) ∙ stood ∙ ap (λ s. Some s) was.1) in
          subst (λ n. IsBelow (factories_of nodes node) (limit number node + added event n node)) is_it
          (was.2 node (limit number node) below)
  kept-here (WithoutSegment at same) bytes nodes node published stands = by_number at number here there
    where
      there : at ≢ number → IsBelow (factories_of nodes node) (raised limit event number node)
      there differ = below-more (factories_of nodes node) (limit number node) (added event number node)
          (bound bytes nodes node (subst (λ t. entry_at hash t ≡ Some (Described number bytes)) same published)
          (sym (remove-apart (is_at (place_cmp (hash.digest, at))) (is_at (place_cmp (hash.digest, number)))
          (place-apart (hash.digest, at) (hash.digest, number) (λ e. differ (ap (λ p. p.1) e))) old.segments)
          ∙ subst (λ t. segment_at hash number t ≡ Some (Open nodes)) same stands))

      gone-not : None ≡ Some (Open nodes) → ⊥
      gone-not e = cc

      here : at ≡ number → IsBelow (factories_of nodes node) (raised limit event number node)
      here is_it =
          let gone : segment_at hash at new ≡ None = rw same (segment-gone hash at old is) in
          absurd (gone-not (sym gone ∙ ap (λ n. segment_at hash n new) is_it ∙ stands))
  kept-here (ServiceOf version by at given locked as_told own same) bytes nodes node published stands =
      let found : entry_at hash new ≡ Some (Described at (line version given))
      = rw same (lookup-set (is_at (digest_cmp hash.digest)) old.entries (Described at (line version given)) (rw locked refl)) in
      let is_it : at ≡ number = numbers (sym found ∙ published) in
      let seat : segment_at hash at new ≡ Some (Open (first_foreign by (max_nodes_of given.settings)))
      = rw same (lookup-added place_cmp (hash.digest, at) (Open (first_foreign by (max_nodes_of given.settings))) old.segments
      (same-place (hash.digest, at))) in
      subst (λ k. IsBelow (factories_of k node) (raised limit event number node))
      (opened-as (sym seat ∙ ap (λ n. segment_at hash n new) is_it ∙ stands)) tt
    where
      numbers : Some (Described at (line version given)) ≡ Some (Described number bytes) → at ≡ number
      numbers e = cc

      opened-as : Some (Open (first_foreign by (max_nodes_of given.settings))) ≡ Some (Open nodes)
          → first_foreign by (max_nodes_of given.settings) ≡ nodes
      opened-as e = cc
  kept-here (Removal at same) bytes nodes node published stands
      = (no-entry (rw same (entry-gone hash old is))) bytes nodes node published stands

-- what lies elsewhere is as it was
pub bounded-there : (limit larger : ℕ → ℕ → ℕ) (hash other : ServiceHash) (number : ℕ) (old new : Contents) (event : Event)
    → ((node : ℕ) → limit number node ≤ larger number node) → hash.digest ≢ other.digest → Change event hash old new
    → BoundedAt limit other number old → BoundedAt larger other number new
bounded-there limit larger hash other number old new event more differ change bound bytes nodes node published stands =
    let e = elsewhere hash other differ old new event change in
    below-to (factories_of nodes node) (limit number node) (larger number node) (more node)
    (bound bytes nodes node (sym e.entry ∙ published) (sym (e.segment number) ∙ stands))

event-bounded : (limit : ℕ → ℕ → ℕ) (event : Event) (hash : ServiceHash) (old new : Contents) → Owned limit old
    → UnpublishingEvent event → Change event hash old new → (other : ServiceHash) (number : ℕ)
    → BoundedAt (raised limit event) other number new
event-bounded limit event hash old new o un change other number = by_hash hash other
    (λ same. kept-here limit other number old new o.is event un (o.bounded other number) (subst (λ h. Change event h old new) same change))
    (λ differ. bounded-there limit (raised limit event) hash other number old new event (λ node. omega arith) differ change
    (o.bounded other number))

pub owned-step : (limit : ℕ → ℕ → ℕ) (hash : ServiceHash) (step : ForeignStep) (result : Result (Unit {0}) AllocError)
    (old new : Contents) → Owned limit old → Acts hash step old result new → Owned limit new
owned-step limit hash step result old new o h
    = loosened (raised limit (StepsUnder hash step)) limit new (λ number node. omega arith) (record {
      is = acts old new o.is hash step result h;
      bounded = event-bounded limit (StepsUnder hash step) hash old new o tt (changes old new (StepsUnder hash step) (result, h));
    })

-- a storage operation that publishes nothing
owned-raised : (limit : ℕ → ℕ → ℕ) (access : Access) (old new : Contents) → UnpublishingEvent (Accesses access) → Owned limit old
    → Sight old access new → Owned (raised limit (Accesses access)) new
owned-raised limit access old new un o h = record {
  is = sees old new o.is access h;
  bounded = event-bounded limit (Accesses access) (hash_of (Accesses access)) old new o un (changes old new (Accesses access) h);
}

pub owned-access : (limit : ℕ → ℕ → ℕ) (access : Access) (old new : Contents) → Calm access → Owned limit old → Sight old access new
    → Owned limit new
owned-access limit access old new calm o h =
    loosened (raised limit (Accesses access)) limit new (λ number node. let none = calm.1 number node in omega (arith, none))
    (owned-raised limit access old new calm.0 o h)

-- with one factory more of this node in the service of this number
abbrev pub one_more : ℕ → ℕ → (ℕ → ℕ → ℕ) → ℕ → ℕ → ℕ
one_more number node limit at by = cond (nat_eq number at && nat_eq node by) 1 0 + limit at by

pub owned-opening : (limit : ℕ → ℕ → ℕ) (hash : ServiceHash) (number node : ℕ) (old new : Contents) → Owned limit old
    → Sight old (OpenSegment hash number node opening.Registered) new → Owned (one_more number node limit) new
owned-opening limit hash number node old new o h =
    loosened (raised limit (Accesses (OpenSegment hash number node opening.Registered))) (one_more number node limit) new
    (λ at by. omega arith) (owned-raised limit (OpenSegment hash number node opening.Registered) old new tt o h)

-- a publication, of a segment with its first node
module _ (limit : ℕ → ℕ → ℕ) (hash : ServiceHash) (number node room : ℕ) (bytes : List ℕ) (old new : Contents) (o : Owned limit old) where
  first-below : (by : ℕ) → IsBelow (factories_of (first_node node room) by) (one_more number node limit number by)
  first-below by = by_number node by same apart
    where
      same : node ≡ by → IsBelow (factories_of (first_node node room) by) (one_more number node limit number by)
      same is =
          let flag : (nat_eq number number && nat_eq node by) ≡ true = grind (arith, is) in
          let has : factories_of (first_node node room) by ≡ Some 1
          = subst (λ n. factories_of (first_node node room) n ≡ Some 1) is
          (lookup-added nat_cmp node 1 [] (is-self nat_cmp nat_cmp_total node)) in
          rw has (subst (λ b. (1 ≤ 1) × (1 ≤ cond b 1 0 + limit number by)) (sym flag) (omega arith, omega arith))

      apart : node ≢ by → IsBelow (factories_of (first_node node room) by) (one_more number node limit number by)
      apart differ =
          let out : factories_of (first_node node room) by ≡ None
          = insert-apart nat_cmp node 1 (is_at (nat_cmp by)) (node-away node by differ) exact_unsigned [] in
          rw out tt

  pub owned-publication : entry_at hash old ≡ Some (Locked (Own node) number)
      → segment_at hash number old ≡ Some (Open (first_node node room)) → Sight old (Publish hash number bytes publishing.Published) new
      → Owned (one_more number node limit) new
  owned-publication locked made sight
      = record { is = sees old new o.is (Publish hash number bytes publishing.Published) sight; bounded = bounds }
    where
      here : (b : Bool) → Publishes b hash number bytes old publishing.Published new → (n : ℕ)
          → BoundedAt (one_more number node limit) hash n new
      here true (inl h) n text nodes by published stands =
          let found : entry_at hash new ≡ Some (Described number bytes)
          = rw h.1 (lookup-set (is_at (digest_cmp hash.digest)) old.entries (Described number bytes) (rw locked refl)) in
          let is_it : number ≡ n = numbers (sym found ∙ published) in
          let seat : segment_at hash number new ≡ Some (Open (first_node node room)) = rw h.1 made in
          let nodes_are : first_node node room ≡ nodes = opened-as (sym seat ∙ ap (λ k. segment_at hash k new) is_it ∙ stands) in
          subst (λ k. IsBelow (factories_of nodes by) (one_more number node limit k by)) is_it
          (subst (λ k. IsBelow (factories_of k by) (one_more number node limit number by)) nodes_are (first-below by))
        where
          numbers : Some (Described number bytes) ≡ Some (Described n text) → number ≡ n
          numbers e = cc

          opened-as : Some (Open (first_node node room)) ≡ Some (Open nodes) → first_node node room ≡ nodes
          opened-as e = cc
      here true (inr h) n text nodes by published stands = absurd (differ h.0)
        where
          differ : publishing.Published ≡ publishing.OutOfMemory → ⊥
          differ e = cc
      here false h n text nodes by published stands = absurd (differ h.0)
        where
          differ : publishing.Published ≡ publishing.Fault → ⊥
          differ e = cc

      bounds : (other : ServiceHash) (n : ℕ) → BoundedAt (one_more number node limit) other n new
      bounds other n = by_hash hash other
          (λ same. subst (λ h. BoundedAt (one_more number node limit) h n new) same (here (may_publish hash number old) sight n))
          (λ differ. bounded-there limit (one_more number node limit) hash other n old new
          (Accesses (Publish hash number bytes publishing.Published)) (λ by. omega arith) differ
          (changes old new (Accesses (Publish hash number bytes publishing.Published)) sight) (o.bounded other n))

pub new-owned : (limit : ℕ → ℕ → ℕ) (id : ℕ) → Owned limit (empty_table id)
new-owned limit id = record
    { is = new-table id; bounded = λ hash number bytes nodes node published stands. absurd (not-none number bytes published) }
