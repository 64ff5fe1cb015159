-- A service that is open for an own node stays so, with as many factories of the node, whatever foreign nodes do, and what
-- the storage operations of own nodes make of it.
use Rattle.std.proofs.Common.{◌≡◌, ◌≢◌, ℕ, ◌+◌, ◌-◌, ◌^◌, ◌≤◌, Bool, true, false, cond, not, ◌&&◌, List, Option, None, Some, is_some}
use Rattle.std.proofs.Common.{Result, length, nat_eq, nat_lt, refl, sym, ap, subst, ◌∙◌, inl, inr, arith}
use Rattle.std.specs.declared.alloc.AllocError.{AllocError}
use Rattle.std.specs.Ordering.{nat_cmp}
use Rattle.std.specs.Cmp.{nat_cmp_total}
use Rattle.std.specs.BTreeMap.{is_at}
use Rattle.std.proofs.lemmas.Map.Lookups.{exact_unsigned}
use Rattle.iox_negotiate_table.specs.DescribeBase.declared.hash.ServiceHash.{ServiceHash}
use Rattle.iox_negotiate_table.specs.NegotiateBase.Access.{Access, Look, Lock, MakeSegment, Publish, Unlock, OpenSegment, Leave}
use Rattle.iox_negotiate_table.specs.NegotiateBase.Access.{RemoveDescription, RemoveSegment}
use Rattle.iox_negotiate_table.specs.NegotiateBase.declared.answer.OpenSegmentAnswer.{OpenSegmentAnswer}
use Rattle.iox_negotiate_table.specs.NegotiateBase.declared.answer.OpenSegmentAnswer.TheVariants as opening
use Rattle.iox_negotiate_table.specs.NegotiateBase.declared.answer.LeaveAnswer.{LeaveAnswer}
use Rattle.iox_negotiate_table.specs.NegotiateBase.declared.answer.RemoveAnswer.{RemoveAnswer}
use Rattle.iox_negotiate_table.specs.declared.node.Node.TheVariants.{Own}
use Rattle.iox_negotiate_table.specs.declared.entry.Entry.TheVariants.{Described}
use Rattle.iox_negotiate_table.specs.declared.segment.Segment.{Segment}
use Rattle.iox_negotiate_table.specs.declared.segment.Segment.TheVariants.{Open, Emptied}
use Rattle.iox_negotiate_table.specs.declared.step.ForeignStep.{ForeignStep}
use Rattle.iox_negotiate_table.specs.Nodes.{Nodes, count_in, factories_of, with_factories, without_node, less_one, left, Enters}
use Rattle.iox_negotiate_table.specs.Nodes.{EntersWith, EntersAgain, EntersFirst}
use Rattle.iox_negotiate_table.specs.Segments.{closed_if, Opens}
use Rattle.iox_negotiate_table.specs.Contents.{Contents, entry_at, segment_at, with_segment, without_entry, without_segment, place_cmp}
use Rattle.iox_negotiate_table.specs.Contents.{is_published, is_left, may_make, may_publish, may_unlock, may_remove_description}
use Rattle.iox_negotiate_table.specs.Contents.{may_remove_segment}
use Rattle.iox_negotiate_table.specs.Foreign.{Acts}
use Rattle.iox_negotiate_table.specs.Sights.{Sight, LocksAt, Makes, Publishes, Unlocks, OpensAt, OpensPublished, LeavesAt}
use Rattle.iox_negotiate_table.specs.Sights.{LeavesPublished, Removes}
use Rattle.iox_negotiate_table.proofs.Staying.{IsSeated, stays-seated}
use Rattle.iox_negotiate_table.proofs.Entries.{lookup-set, lookup-added, found-length, is-self}
use Rattle.iox_negotiate.specs.Histories.{Accesses}
use Rattle.iox_negotiate.proofs.Maps.{on, by_test, set-apart, insert-apart, remove-apart}
use Rattle.iox_negotiate.proofs.Few.{opens-few, left-few as leave-few-in}
use Rattle.iox_negotiate.proofs.Changes.{hash_of, apart-of, place-apart, IsElsewhere}

-- the service is open for the node, and these are its factories there
pub record IsHeld (hash : ServiceHash) (number node : ℕ) (bytes : List ℕ) (count : ℕ) (table : Contents) : Type 0 where
  pub nodes : Nodes
  pub published : entry_at hash table ≡ Some (Described number bytes)
  pub stands : segment_at hash number table ≡ Some (Open nodes)
  pub has : factories_of nodes node ≡ Some count
  pub few : count_in nodes ≤ nodes.max_nodes

module _ (hash : ServiceHash) (number node : ℕ) (bytes : List ℕ) (count : ℕ) where
  -- the node has this many factories
  abbrev Has : Nodes → Type 0
  Has nodes = factories_of nodes node ≡ Some count

  seated-so : (table : Contents) → IsHeld hash number node bytes count table → IsSeated Has hash number bytes table
  seated-so table h = record { nodes = h.nodes; published = h.published; stands = h.stands; seated = h.has; few = h.few }

  held-of : (table : Contents) → IsSeated Has hash number bytes table → IsHeld hash number node bytes count table
  held-of table s = record { nodes = s.nodes; published = s.published; stands = s.stands; has = s.seated; few = s.few }

  pub stays : (step : ForeignStep) (old new : Contents) (result : Result (Unit {0}) AllocError)
      → IsHeld hash number node bytes count old → Acts hash step old result new
      → IsHeld hash number node bytes count new
  stays step old new result held h =
      held-of new (stays-seated Has (λ nodes foreign has. has)
      (λ nodes has. found-length (is_at (nat_cmp node)) nodes.own (rw has refl)) hash number bytes step old new result
      (seated-so old held) h)

-- ---- own nodes

pub some-same : (one other : ℕ) → Some one ≡ Some other → one ≡ other
some-same one other e = cc

pub nodes-apart : (one other : ℕ) → one ≢ other → (k : ℕ) → is_at (nat_cmp one) k ≡ true → is_at (nat_cmp other) k ≡ false
nodes-apart one other differ k at = apart-of nat_cmp exact_unsigned one other differ k at

pub node-away : (one other : ℕ) → one ≢ other → is_at (nat_cmp other) one ≡ false
node-away one other differ = nodes-apart one other differ one (rw (is-self nat_cmp nat_cmp_total one) refl)

pub by_number : {P : Type 0} (one other : ℕ) → (one ≡ other → P) → (one ≢ other → P) → P
by_number one other same differ = by_test (nat_eq one other) (λ is. same (grind (arith, is))) (λ isnt. differ (λ e. unequal e isnt))
  where
    unequal : one ≡ other → nat_eq one other ≡ false → ⊥
    unequal e isnt = grind (arith, e, isnt)

-- a node that opens once more has one factory more
pub entered-same : (node count : ℕ) (nodes after : Nodes) → factories_of nodes node ≡ Some count
    → Enters node nodes opening.Registered after → factories_of after node ≡ Some (count + 1)
entered-same node count nodes after has h
    = there (nat_eq count (2 ^ 64 - 1)) (subst (λ f. EntersWith f node nodes opening.Registered after) has h)
  where
    there : (b : Bool) → EntersAgain count b node nodes opening.Registered after → factories_of after node ≡ Some (count + 1)
    there true h = absurd (differ h.0)
      where
        differ : opening.Registered ≡ opening.Fault → ⊥
        differ e = cc
    there false h = rw h.1 (lookup-set (is_at (nat_cmp node)) nodes.own (count + 1) (rw has refl))

-- a node that comes in has its first factory
pub entered-first : (node : ℕ) (nodes after : Nodes) → factories_of nodes node ≡ None → Enters node nodes opening.Registered after
    → factories_of after node ≡ Some 1
entered-first node nodes after out h
    = there (nat_lt (count_in nodes) nodes.max_nodes) (subst (λ f. EntersWith f node nodes opening.Registered after) out h)
  where
    there : (b : Bool) → EntersFirst b node nodes opening.Registered after → factories_of after node ≡ Some 1
    there true (inl h) = rw h.1 (lookup-added nat_cmp node 1 nodes.own (is-self nat_cmp nat_cmp_total node))
    there true (inr h) = absurd (differ h.0)
      where
        differ : opening.Registered ≡ opening.OutOfMemory → ⊥
        differ e = cc
    there false h = absurd (differ h.0)
      where
        differ : opening.Registered ≡ opening.Full → ⊥
        differ e = cc

-- no fewer factories
abbrev pub AtLeast : ℕ → Nodes → ℕ → Type 0
AtLeast node after count = (c : ℕ) × (count ≤ c) × (factories_of after node ≡ Some c)

module _ (node count : ℕ) (nodes after : Nodes) (has : factories_of nodes node ≡ Some count) where
  as-before : after ≡ nodes → AtLeast node after count
  as-before is = (count, omega arith, rw is has)

  other-entered : (other : ℕ) (answer : OpenSegmentAnswer) → other ≢ node → Enters other nodes answer after → AtLeast node after count
  other-entered other answer differ h = by_count (factories_of nodes other) h
    where
      again : (found : ℕ) (b : Bool) → EntersAgain found b other nodes answer after → AtLeast node after count
      again found true h = as-before h.1
      again found false h = (
        count,
        omega arith,
        rw h.1
            (set-apart (is_at (nat_cmp other)) (is_at (nat_cmp node)) (nodes-apart other node differ) nodes.own (found + 1) ∙ has),
      )

      first : (b : Bool) → EntersFirst b other nodes answer after → AtLeast node after count
      first true (inl h) = (
        count,
        omega arith,
        rw h.1
            (insert-apart nat_cmp other 1 (is_at (nat_cmp node)) (node-away other node differ) exact_unsigned nodes.own ∙ has),
      )
      first true (inr h) = as-before h.1
      first false h = as-before h.1

      by_count : (found : Option ℕ) → EntersWith found other nodes answer after → AtLeast node after count
      by_count (Some found) h = again found (nat_eq found (2 ^ 64 - 1)) h
      by_count None h = first (nat_lt (count_in nodes) nodes.max_nodes) h

  same-entered : (answer : OpenSegmentAnswer) → Enters node nodes answer after → AtLeast node after count
  same-entered answer h = there (nat_eq count (2 ^ 64 - 1)) (subst (λ f. EntersWith f node nodes answer after) has h)
    where
      there : (b : Bool) → EntersAgain count b node nodes answer after → AtLeast node after count
      there true h = as-before h.1
      there false h = (count + 1, omega arith, rw h.1 (lookup-set (is_at (nat_cmp node)) nodes.own (count + 1) (rw has refl)))

  entered : (other : ℕ) (answer : OpenSegmentAnswer) → Enters other nodes answer after → AtLeast node after count
  entered other answer h = by_number other node (λ same. same-entered answer (subst (λ n. Enters n nodes answer after) same h))
      (λ differ. other-entered other answer differ h)

-- a leave of another node
other-left : (node count : ℕ) (nodes : Nodes) (other : ℕ) → other ≢ node → factories_of nodes node ≡ Some count
    → factories_of (left other nodes) node ≡ Some count
other-left node count nodes other differ has = by_count (factories_of nodes other)
  where
    less : (found : ℕ) (b : Bool) → factories_of (cond b (with_factories other (found - 1) nodes) (without_node other nodes)) node
        ≡ Some count
    less found true = set-apart (is_at (nat_cmp other)) (is_at (nat_cmp node)) (nodes-apart other node differ) nodes.own (found - 1) ∙ has
    less found false = remove-apart (is_at (nat_cmp other)) (is_at (nat_cmp node)) (nodes-apart other node differ) nodes.own ∙ has

    by_count : (found : Option ℕ) → factories_of (less_one nodes other found) node ≡ Some count
    by_count (Some found) = less found (nat_lt 1 found)
    by_count None = has

-- a leave of a node that has more than one factory
same-left : (node count : ℕ) (nodes : Nodes) → 2 ≤ count → factories_of nodes node ≡ Some count
    → factories_of (left node nodes) node ≡ Some (count - 1)
same-left node count nodes many has
    = subst (λ f. factories_of (less_one nodes node f) node ≡ Some (count - 1)) (sym has) (less (nat_lt 1 count) refl)
  where
    less : (b : Bool) → nat_lt 1 count ≡ b
        → factories_of (cond b (with_factories node (count - 1) nodes) (without_node node nodes)) node ≡ Some (count - 1)
    less true is = lookup-set (is_at (nat_cmp node)) nodes.own (count - 1) (rw has refl)
    less false is = absurd (grind (arith, is, many))

-- the service is open for the node, with no fewer factories
pub record IsHeldStill (hash : ServiceHash) (number node : ℕ) (bytes : List ℕ) (count : ℕ) (table : Contents) : Type 0 where
  pub now : ℕ
  pub enough : count ≤ now
  pub held : IsHeld hash number node bytes now table

module _ (hash : ServiceHash) (number node : ℕ) (bytes : List ℕ) (count : ℕ) (old new : Contents)
    (held : IsHeld hash number node bytes count old) where
  abbrev Still : Type 0
  Still = IsHeldStill hash number node bytes count new

  same-still : new ≡ old → Still
  same-still is = record { now = count; enough = omega arith; held = rw is held }

  -- the segment has other nodes
  seat-still : (after : Nodes) (c : ℕ) → new ≡ with_segment hash number (Open after) old → count ≤ c → factories_of after node ≡ Some c
      → count_in after ≤ after.max_nodes → Still
  seat-still after c is enough has few = record {
    now = c;
    enough = enough;
    held = rw is (record {
      nodes = after;
      published = held.published;
      stands
          = lookup-set (is_at (place_cmp (hash.digest, number))) old.segments (Open after) (rw held.stands refl);
      has = has;
      few = few;
    });
  }

  opens-here : (by : ℕ) (answer : OpenSegmentAnswer) (after : Segment) → Opens by (Open held.nodes) answer after
      → new ≡ with_segment hash number after old → Still
  opens-here by answer (Open after) h is =
      let grown = entered node count held.nodes after held.has by answer h in seat-still after grown.0 is grown.1 grown.2
      (opens-few by (Open held.nodes) (Open after) answer held.few h)
  opens-here by answer (Emptied other) h is = absurd h

  -- the segment after a leave that leaves the node in
  left-still : (by c : ℕ) (b : Bool) → nat_eq (count_in (left by held.nodes)) 0 ≡ b → factories_of (left by held.nodes) node ≡ Some c
      → new ≡ with_segment hash number (closed_if b (Own by) (left by held.nodes)) old
      → IsHeld hash number node bytes c new
  left-still by c true none has is = absurd (grind (arith, none, some))
    where
      some : 1 ≤ length (left by held.nodes).own
      some = found-length (is_at (nat_cmp node)) (left by held.nodes).own (rw has refl)
  left-still by c false any has is = rw is (record {
    nodes = left by held.nodes;
    published = held.published;
    stands = lookup-set (is_at (place_cmp (hash.digest, number))) old.segments (Open (left by held.nodes)) (rw held.stands refl);
    has = has;
    few = leave-few-in by held.nodes held.few;
  })

  at-number : (at : ℕ) → is_published hash at old ≡ nat_eq number at
  at-number at = rw held.published refl

  opens-at : (at by : ℕ) (answer : OpenSegmentAnswer) (b : Bool) → nat_eq number at ≡ b
      → OpensAt b (segment_at hash at old) hash at by old answer new → Still
  opens-at at by answer true is h =
      let same : number ≡ at = grind (arith, is) in
      found (subst (λ n. OpensPublished (segment_at hash n old) hash n by old answer new) (sym same) h)
    where
      found-open : OpensPublished (Some (Open held.nodes)) hash number by old answer new → Still
      found-open h = opens-here by answer h.0 h.1 h.2

      found : OpensPublished (segment_at hash number old) hash number by old answer new → Still
      found h = found-open (subst (λ s. OpensPublished s hash number by old answer new) held.stands h)
  opens-at at by answer false is h = same-still h.1

  leaves-at : (at by : ℕ) (answer : LeaveAnswer) (b : Bool) → ((at ≡ number) → by ≢ node) → nat_eq number at ≡ b
      → LeavesAt b (segment_at hash at old) hash at by old answer new → Still
  leaves-at at by answer true other is h =
      let same : number ≡ at = grind (arith, is) in
      found (other (sym same)) (subst (λ n. LeavesPublished (segment_at hash n old) hash n by old answer new) (sym same) h)
    where
      found-open : by ≢ node → LeavesPublished (Some (Open held.nodes)) hash number by old answer new → Still
      found-open differ h = record {
        now = count;
        enough = omega arith;
        held
            = left-still by count (nat_eq (count_in (left by held.nodes)) 0) refl (other-left node count held.nodes by differ held.has) h.1;
      }

      found : by ≢ node → LeavesPublished (segment_at hash number old) hash number by old answer new → Still
      found differ h = found-open differ (subst (λ s. LeavesPublished s hash number by old answer new) held.stands h)
  leaves-at at by answer false other is h = same-still h.1

  removes-at : (at : ℕ) (answer : RemoveAnswer) (b : Bool) → nat_eq number at ≡ b
      → Removes (not b && is_some (segment_at hash at old)) (without_segment hash at old) old answer new → Still
  removes-at at answer true is h = same-still h.1
  removes-at at answer false is h = there (is_some (segment_at hash at old)) h
    where
      differ : ◌≡◌ {A = List ℕ × ℕ} (hash.digest, at) (hash.digest, number) → ⊥
      differ e = let same : at ≡ number = ap (λ p. p.1) e in grind (arith, same, is)

      there : (b : Bool) → Removes b (without_segment hash at old) old answer new → Still
      there true h = record {
        now = count;
        enough = omega arith;
        held = rw h.1 (record {
          nodes = held.nodes;
          published = held.published;
          stands = remove-apart (is_at (place_cmp (hash.digest, at))) (is_at (place_cmp (hash.digest, number)))
              (place-apart (hash.digest, at) (hash.digest, number) differ) old.segments ∙ held.stands;
          has = held.has;
          few = held.few;
        });
      }
      there false h = same-still h.1

  -- a storage operation under the hash, but for a leave of the node from the service
  pub here : (access : Access) → hash_of (Accesses access) ≡ hash
      → ((at by : ℕ) (answer : LeaveAnswer) → access ≡ Leave hash at by answer → at ≡ number → by ≢ node) → Sight old access new → Still
  here (Look under answer) same other h = same-still h.1
  here (Lock under by answer) same other h = locks (subst (λ g. LocksAt (entry_at g old) g (Own by) old answer new) same h)
    where
      locked : LocksAt (Some (Described number bytes)) hash (Own by) old answer new → Still
      locked h = same-still h.1

      locks : LocksAt (entry_at hash old) hash (Own by) old answer new → Still
      locks h = locked (subst (λ e. LocksAt e hash (Own by) old answer new) held.published h)
  here (MakeSegment under at by room answer) same other h
      = makes (subst (λ g. Makes (may_make g at by room old) g at by room old answer new) same h)
    where
      made : (b : Bool) → b ≡ false → Makes b hash at by room old answer new → Still
      made true is h = on is
      made false is h = same-still h.1

      makes : Makes (may_make hash at by room old) hash at by room old answer new → Still
      makes h = made (may_make hash at by room old) (rw held.published refl) h
  here (Publish under at text answer) same other h
      = publishes (subst (λ g. Publishes (may_publish g at old) g at text old answer new) same h)
    where
      made : (b : Bool) → b ≡ false → Publishes b hash at text old answer new → Still
      made true is h = on is
      made false is h = same-still h.1

      publishes : Publishes (may_publish hash at old) hash at text old answer new → Still
      publishes h = made (may_publish hash at old) (rw held.published refl) h
  here (Unlock under at) same other h = unlocks (subst (λ g. Unlocks (may_unlock g at old) g old new) same h)
    where
      made : (b : Bool) → b ≡ false → Unlocks b hash old new → Still
      made true is h = on is
      made false is h = same-still h

      unlocks : Unlocks (may_unlock hash at old) hash old new → Still
      unlocks h = made (may_unlock hash at old) (rw held.published refl) h
  here (OpenSegment under at by answer) same other h
      = opens (subst (λ g. OpensAt (is_published g at old) (segment_at g at old) g at by old answer new) same h)
    where
      opens : OpensAt (is_published hash at old) (segment_at hash at old) hash at by old answer new → Still
      opens h = opens-at at by answer (nat_eq number at) refl
          (subst (λ b. OpensAt b (segment_at hash at old) hash at by old answer new) (at-number at) h)
  here (Leave under at by answer) same other h
      = leaves (subst (λ g. LeavesAt (is_published g at old) (segment_at g at old) g at by old answer new) same h)
    where
      leaves : LeavesAt (is_published hash at old) (segment_at hash at old) hash at by old answer new → Still
      leaves h = leaves-at at by answer (nat_eq number at) (other at by answer (ap (λ g. Leave g at by answer) same)) refl
          (subst (λ b. LeavesAt b (segment_at hash at old) hash at by old answer new) (at-number at) h)
  here (RemoveDescription under at answer) same other h
      = removes (subst (λ g. Removes (may_remove_description g at old) (without_entry g old) old answer new) same h)
    where
      made : (b : Bool) → b ≡ false → Removes b (without_entry hash old) old answer new → Still
      made true is h = on is
      made false is h = same-still h.1

      stays : (b : Bool) → nat_eq number at ≡ b → (b && is_left (segment_at hash at old)) ≡ false
      stays true is = let same : number ≡ at
          = grind (arith, is) in subst (λ n. is_left (segment_at hash n old) ≡ false) same (rw held.stands refl)
      stays false is = refl

      removes : Removes (may_remove_description hash at old) (without_entry hash old) old answer new → Still
      removes h = made (may_remove_description hash at old) (rw (at-number at) (stays (nat_eq number at) refl)) h
  here (RemoveSegment under at answer) same other h
      = removes (subst (λ g. Removes (may_remove_segment g at old) (without_segment g at old) old answer new) same h)
    where
      removes : Removes (may_remove_segment hash at old) (without_segment hash at old) old answer new → Still
      removes h = removes-at at answer (nat_eq number at) refl
          (subst (λ b. Removes (not b && is_some (segment_at hash at old)) (without_segment hash at old) old answer new) (at-number at) h)

  -- a leave of one of several factories of the node
  pub leaves-one : (answer : LeaveAnswer) → 2 ≤ count → Sight old (Leave hash number node answer) new
      → IsHeld hash number node bytes (count - 1) new
  leaves-one answer many h = found (subst (λ b. LeavesAt b (segment_at hash number old) hash number node old answer new)
      (at-number number ∙ equal number) h)
    where
      equal : (n : ℕ) → nat_eq n n ≡ true
      equal n = grind arith

      found-open : LeavesPublished (Some (Open held.nodes)) hash number node old answer new → IsHeld hash number node bytes (count - 1) new
      found-open h = left-still node (count - 1) (nat_eq (count_in (left node held.nodes)) 0) refl
          (same-left node count held.nodes many held.has) h.1

      found : LeavesPublished (segment_at hash number old) hash number node old answer new → IsHeld hash number node bytes (count - 1) new
      found h = found-open (subst (λ s. LeavesPublished s hash number node old answer new) held.stands h)

  -- what lies elsewhere is as it was
  pub away : IsElsewhere hash old new → IsHeld hash number node bytes count new
  away same = record {
    nodes = held.nodes;
    published = same.entry ∙ held.published;
    stands = same.segment number ∙ held.stands;
    has
        = held.has;
    few = held.few;
  }
