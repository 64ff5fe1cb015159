-- An open service stays open through actions of other nodes.
use Rattle.std.proofs.Common.{◌≡◌, ℕ, ◌+◌, ◌≤◌, Bool, true, false, cond, not, ◌&&◌, List, [], ◌∷◌, Option, Some, IsSome, is_some, Result}
use Rattle.std.proofs.Common.{Ok, Err, length, nat_eq, nat_lt, refl, subst, arith}
use Rattle.std.specs.declared.alloc.AllocError.{AllocError}
use Rattle.std.specs.Ordering.{nat_cmp}
use Rattle.std.specs.BTreeMap.{is_at}
use Rattle.iox_negotiate_base.specs.DescribeBase.declared.hash.ServiceHash.{ServiceHash}
use Rattle.iox_negotiate_base.specs.DescribeSettings.Agreement.{Agreement}
use Rattle.iox_negotiate_base.specs.DescribeSettings.declared.description.Version.{Version}
use Rattle.iox_negotiate_base.specs.DescribeSettings.declared.description.Version.TheVariants.{One, Two}
use Rattle.iox_negotiate_table.specs.declared.node.Node.TheVariants.{Foreign}
use Rattle.iox_negotiate_table.specs.declared.entry.Entry.TheVariants.{Described}
use Rattle.iox_negotiate_table.specs.declared.segment.Segment.{Segment}
use Rattle.iox_negotiate_table.specs.declared.segment.Segment.TheVariants.{Open, Emptied}
use Rattle.iox_negotiate_table.specs.declared.step.ForeignStep.{ForeignStep}
use Rattle.iox_negotiate_table.specs.declared.step.ForeignStep.TheVariants as step
use Rattle.iox_negotiate_table.specs.Nodes.{Nodes, count_in, factories_of, has_foreign, with_foreign, without_foreign, RegistersIf}
use Rattle.iox_negotiate_table.specs.Segments.{RegistersIn, foreign_left_if, closed_if}
use Rattle.iox_negotiate_table.specs.Contents.{Contents, entry_at, segment_at, with_segment, with_lock, without_entry, without_segment}
use Rattle.iox_negotiate_table.specs.Contents.{place_cmp}
use Rattle.iox_negotiate_table.specs.Foreign.{Acts, DoneOrLacking, Done, foreign_lock, PublishesForeign, RegistersForeign, RegistersAt}
use Rattle.iox_negotiate_table.specs.Foreign.{published_number, after_leaving, left_at, after_removal, is_left_by}
use Rattle.iox_negotiate_table.specs.Stepped.{ActsAll, GoesOn}
use Rattle.iox_negotiate_table.specs.Laws.{IsOpenIn}
use Rattle.iox_negotiate_table.proofs.Entries.{lookup-set, length-insert_key, length-removed, found-length}

-- The service with this number is open: these bytes are published under its hash, its segment exists, `Q` is true of its nodes, and
-- it has no more nodes than its capacity.
pub record IsSeated (Q : Nodes → Type 0) (hash : ServiceHash) (number : ℕ) (bytes : List ℕ) (table : Contents) : Type 0 where
  pub nodes : Nodes
  pub published : entry_at hash table ≡ Some (Described number bytes)
  pub stands : segment_at hash number table ≡ Some (Open nodes)
  pub seated : Q nodes
  pub few : count_in nodes ≤ nodes.max_nodes

-- What is true of the own nodes alone, and only if there are own nodes, stays true whatever a foreign node does.
module _ (Q : Nodes → Type 0) (of_own : (nodes : Nodes) (foreign : List ℕ) → Q nodes → Q (record nodes { foreign = foreign }))
    (own_in : (nodes : Nodes) → Q nodes → 1 ≤ length nodes.own) (hash : ServiceHash) (number : ℕ) (bytes : List ℕ) where
  -- nothing changed
  unchanged : (old new : Contents) → IsSeated Q hash number bytes old → new ≡ old → IsSeated Q hash number bytes new
  unchanged old new is_open same = rw same is_open

  -- the segment has other foreign nodes
  changed : (old new : Contents) (after : Nodes) → IsSeated Q hash number bytes old → new ≡ with_segment hash number (Open after) old
      → Q after → count_in after ≤ after.max_nodes → IsSeated Q hash number bytes new
  changed old new after is_open is in_still few = rw is (record {
    nodes = after;
    published = is_open.published;
    stands = lookup-set (is_at (place_cmp (hash.digest, number))) old.segments (Open after) (rw is_open.stands refl);
    seated = in_still;
    few = few;
  })

  -- a step that doesn't fit
  idle : (b : Bool) (done old new : Contents) (result : Result (Unit {0}) AllocError) → b ≡ false → DoneOrLacking b done old result new
      → new ≡ old
  idle true done old new result unfit h = absurd (differ unfit)
    where
      differ : true ≡ false → ⊥
      differ is = cc
  idle false done old new (Ok happened) unfit h = h
  idle false done old new (Err lacking) unfit h = absurd h

  registered : (old new : Contents) (nodes after : Nodes) (by : ℕ) (fits : Bool) (result : Result (Unit {0}) AllocError)
      → fits ≡ (not (has_foreign by nodes) && nat_lt (count_in nodes) nodes.max_nodes)
      → RegistersIf fits by nodes result after → Q nodes → count_in nodes ≤ nodes.max_nodes
      → Q after × (count_in after ≤ after.max_nodes)
  registered old new nodes after by true (Ok done) fits h in_before few =
      let longer : length (with_foreign by nodes).foreign ≤ length nodes.foreign + 1 = length-insert_key nat_cmp nodes.foreign by in
      (rw h (of_own nodes (with_foreign by nodes).foreign in_before), rw h (bound (has_foreign by nodes) fits longer))
    where
      bound : (b : Bool) → true ≡ (not b && nat_lt (count_in nodes) nodes.max_nodes)
          → length (with_foreign by nodes).foreign ≤ length nodes.foreign + 1
          → count_in (with_foreign by nodes) ≤ nodes.max_nodes
      bound true is longer = absurd (differ is)
        where
          differ : true ≡ false → ⊥
          differ e = cc
      bound false is longer = grind (arith, is, longer)
  registered old new nodes after by true (Err lacking) fits h in_before few = (rw h in_before, rw h few)
  registered old new nodes after by false (Ok done) fits h in_before few = (rw h in_before, rw h few)
  registered old new nodes after by false (Err lacking) fits h in_before few = absurd h

  register : (old new : Contents) (by : ℕ) (result : Result (Unit {0}) AllocError) (is_open : IsSeated Q hash number bytes old)
      (after : Segment) → RegistersIn by (Open is_open.nodes) result after
      → new ≡ with_segment hash number after old → IsSeated Q hash number bytes new
  register old new by result is_open (Open after) h is =
      let kept = registered old new is_open.nodes after by
      (not (has_foreign by is_open.nodes) && nat_lt (count_in is_open.nodes) is_open.nodes.max_nodes) result refl h is_open.seated
      is_open.few in
      changed old new after is_open is kept.0 kept.1
  register old new by result is_open (Emptied other) h is = absurd h

  -- after a foreign node left: an own node is in, so the segment isn't emptied
  left : (old new : Contents) (by : ℕ) (is_open : IsSeated Q hash number bytes old) (b : Bool)
      → new ≡ with_segment hash number (foreign_left_if b by is_open.nodes) old
      → IsSeated Q hash number bytes new
  left old new by is_open false is = changed old new is_open.nodes is_open is is_open.seated is_open.few
  left old new by is_open true is = closed (nat_eq (count_in (without_foreign by is_open.nodes)) 0) refl is
    where
      shorter : length (without_foreign by is_open.nodes).foreign ≤ length is_open.nodes.foreign
      shorter = length-removed (is_at (nat_cmp by)) is_open.nodes.foreign

      some : 1 ≤ length is_open.nodes.own
      some = own_in is_open.nodes is_open.seated

      closed : (b : Bool) → nat_eq (count_in (without_foreign by is_open.nodes)) 0 ≡ b
          → new ≡ with_segment hash number (closed_if b (Foreign by) (without_foreign by is_open.nodes)) old
          → IsSeated Q hash number bytes new
      closed true none is = absurd (grind (arith, none, some))
      closed false any is = changed old new (without_foreign by is_open.nodes) is_open is
          (of_own is_open.nodes (without_foreign by is_open.nodes).foreign is_open.seated) (omega (arith, shorter, is_open.few))

  -- a foreign node has no lock where a service stands
  not-published : (version : Version) (by : ℕ) (agreed : Agreement) (old new : Contents) (result : Result (Unit {0}) AllocError)
      → IsSeated Q hash number bytes old → PublishesForeign version (foreign_lock by (entry_at hash old)) hash by agreed old result new
      → IsSeated Q hash number bytes new
  not-published version by agreed old new result is_open h
      = unchanged old new is_open (publishes
      (subst (λ e. PublishesForeign version (foreign_lock by e) hash by agreed old result new) is_open.published h))
    where
      publishes : PublishesForeign version (foreign_lock by (Some (Described number bytes))) hash by agreed old result new → new ≡ old
      publishes h = h.1

  pub stays-seated : (step : ForeignStep) (old new : Contents) (result : Result (Unit {0}) AllocError)
      → IsSeated Q hash number bytes old → Acts hash step old result new
      → IsSeated Q hash number bytes new
  stays-seated (step.Lock by) old new result is_open h =
      unchanged old new is_open (idle _ (with_lock hash (Foreign by) old) old new result (rw is_open.published refl) h)
  stays-seated (step.GiveUp by) old new result is_open h
      = unchanged old new is_open (gives
      (subst (λ e. Done (is_some (foreign_lock by e)) (without_entry hash old) old result new) is_open.published h))
    where
      gives : Done (is_some (foreign_lock by (Some (Described number bytes)))) (without_entry hash old) old result new → new ≡ old
      gives h = h.1
  stays-seated (step.Publish by agreed) old new result is_open h = not-published Two by agreed old new result is_open h
  stays-seated (step.PublishV1 by agreed) old new result is_open h = not-published One by agreed old new result is_open h
  stays-seated (step.Register by) old new result is_open h
      = registers (subst (λ e. RegistersForeign (published_number e) hash by old result new) is_open.published h)
    where
      at : RegistersAt (Some (Open is_open.nodes)) hash number by old result new → IsSeated Q hash number bytes new
      at h = register old new by result is_open h.0 h.1 h.2

      registers : RegistersForeign (published_number (Some (Described number bytes))) hash by old result new
          → IsSeated Q hash number bytes new
      registers h = at (subst (λ e. RegistersAt e hash number by old result new) is_open.stands h)
  stays-seated (step.Leave by) old new result is_open h
      = leaves (subst (λ e. new ≡ after_leaving (published_number e) hash by old) is_open.published h.1)
    where
      at : new ≡ left_at (Some (Open is_open.nodes)) hash number by old → IsSeated Q hash number bytes new
      at h = left old new by is_open (has_foreign by is_open.nodes) h

      leaves : new ≡ after_leaving (published_number (Some (Described number bytes))) hash by old → IsSeated Q hash number bytes new
      leaves h = at (subst (λ e. new ≡ left_at e hash number by old) is_open.stands h)
  stays-seated (step.Remove by) old new result is_open h =
      unchanged old new is_open (removes (subst (λ e. new ≡ after_removal (published_number e) hash by old) is_open.published h.1))
    where
      at : (segment : Option Segment) → segment ≡ Some (Open is_open.nodes)
          → new ≡ cond (is_left_by by segment) (without_segment hash number (without_entry hash old)) old → new ≡ old
      at segment is h = subst (λ e. new ≡ cond (is_left_by by e) (without_segment hash number (without_entry hash old)) old) is h

      removes : new ≡ after_removal (published_number (Some (Described number bytes))) hash by old → new ≡ old
      removes h = at (segment_at hash number old) is_open.stands h

module _ (hash : ServiceHash) (number node : ℕ) (bytes : List ℕ) where
  -- the node is in
  abbrev IsIn : Nodes → Type 0
  IsIn nodes = IsSome (factories_of nodes node)

  seated-in : (table : Contents) → IsOpenIn hash number node bytes table → IsSeated IsIn hash number bytes table
  seated-in table o = record { nodes = o.nodes; published = o.published; stands = o.stands; seated = o.is_in; few = o.few }

  open-of : (table : Contents) → IsSeated IsIn hash number bytes table → IsOpenIn hash number node bytes table
  open-of table s = record { nodes = s.nodes; published = s.published; stands = s.stands; is_in = s.seated; few = s.few }

  pub stays : (step : ForeignStep) (old new : Contents) (result : Result (Unit {0}) AllocError) → IsOpenIn hash number node bytes old
      → Acts hash step old result new
      → IsOpenIn hash number node bytes new
  stays step old new result is_open h =
      open-of new (stays-seated IsIn (λ nodes foreign is_in. is_in) (λ nodes is_in. found-length (is_at (nat_cmp node)) nodes.own is_in)
      hash number bytes step old new result (seated-in old is_open) h)

  goes : (hash' : ServiceHash) (steps : List ForeignStep) (mid new : Contents) (first result : Result (Unit {0}) AllocError)
      → IsOpenIn hash number node bytes mid
      → ((done : Result (Unit {0}) AllocError) → ActsAll hash' steps mid done new → IsOpenIn hash number node bytes new)
      → GoesOn first (ActsAll hash' steps mid result new) ((result ≡ first) × (new ≡ mid)) → IsOpenIn hash number node bytes new
  goes hash' steps mid new (Ok happened) result is_open later h = later result h
  goes hash' steps mid new (Err lacking) result is_open later h = rw h.1 is_open

  pub stays-through : (steps : List ForeignStep) (old new : Contents) (result : Result (Unit {0}) AllocError)
      → IsOpenIn hash number node bytes old → ActsAll hash steps old result new
      → IsOpenIn hash number node bytes new
  stays-through [] old new result is_open h = rw h.1 is_open
  stays-through (one ∷ steps) old new result is_open h =
      let after = stays one old h.0 h.1 is_open h.2 in
      goes hash steps h.0 new h.1 result after (λ done acts. stays-through steps h.0 new done after acts) h.3
