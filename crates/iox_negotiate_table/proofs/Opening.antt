-- What is opened, and what is created, is open.
use Rattle.std.proofs.Common.{◌≡◌, ℕ, ◌+◌, ◌-◌, ◌^◌, ◌≤◌, Bool, true, false, ◌&&◌, List, [], Option, None, Some, IsSome, is_some, length}
use Rattle.std.proofs.Common.{nat_eq, nat_lt, refl, subst, inl, inr, arith}
use Rattle.std.specs.declared.cmp.Ordering.TheVariants.{Equal}
use Rattle.std.specs.Ordering.{nat_cmp}
use Rattle.std.specs.Cmp.{nat_cmp_total}
use Rattle.std.specs.Cmp.Lexicographic.{slice_cmp, nat_list_cmp_total}
use Rattle.std.specs.BTreeMap.{is_at}
use Rattle.std.proofs.lemmas.Map.{length-set_value}
use Rattle.iox_negotiate_base.specs.DescribeBase.declared.hash.ServiceHash.{ServiceHash}
use Rattle.iox_negotiate_base.specs.declared.answer.OpenSegmentAnswer.TheVariants as opening
use Rattle.iox_negotiate_base.specs.declared.answer.MakeSegmentAnswer.TheVariants as making
use Rattle.iox_negotiate_base.specs.declared.answer.PublishAnswer.TheVariants as publishing
use Rattle.iox_negotiate_table.specs.declared.entry.Entry.{Entry}
use Rattle.iox_negotiate_table.specs.declared.entry.Entry.TheVariants.{Locked, Described}
use Rattle.iox_negotiate_table.specs.declared.segment.Segment.{Segment}
use Rattle.iox_negotiate_table.specs.declared.segment.Segment.TheVariants.{Open, Emptied}
use Rattle.iox_negotiate_table.specs.Nodes.{Nodes, count_in, factories_of, with_node, with_factories, first_node, Enters, EntersWith}
use Rattle.iox_negotiate_table.specs.Nodes.{EntersAgain, EntersFirst}
use Rattle.iox_negotiate_table.specs.Segments.{Opens}
use Rattle.iox_negotiate_table.specs.Contents.{Contents, entry_at, segment_at, with_segment, place_cmp, digest_cmp, is_description_of}
use Rattle.iox_negotiate_table.specs.Contents.{is_left, is_own_lock, may_make, may_publish}
use Rattle.iox_negotiate_table.specs.Sights.{OpensAt, unopened, Makes, Publishes}
use Rattle.iox_negotiate_table.specs.Laws.{IsOpenIn, HasFew, OpenedIsOpen, CreatedIsOpen}
use Rattle.iox_negotiate_table.proofs.Entries.{lookup-set, lookup-added, length-added, is-self}

some-of : {X : Type 0} (o : Option X) (x : X) → o ≡ Some x → IsSome o
some-of o x is = rw is refl

-- the node that entered is in, and still few are
entered : (node : ℕ) (before after : Nodes) → count_in before ≤ before.max_nodes → Enters node before opening.Registered after
    → IsSome (factories_of after node) × (count_in after ≤ after.max_nodes)
entered node before after few h = by_count (factories_of before node) refl h
  where
    again : (count : ℕ) (b : Bool) → IsSome (factories_of before node) → EntersAgain count b node before opening.Registered after
        → IsSome (factories_of after node) × (count_in after ≤ after.max_nodes)
    again count true found h = absurd (differ h.0)
      where
        differ : opening.Registered ≡ opening.Fault → ⊥
        differ e = cc
    again count false found h =
        let same : length (with_factories node (count + 1) before).own ≡ length before.own
        = length-set_value (is_at (nat_cmp node)) before.own (count + 1) in (
          rw h.1 (some-of _ _ (lookup-set (is_at (nat_cmp node)) before.own (count + 1) found)),
          rw h.1 (omega (arith, same, few)),
        )

    first : (b : Bool) → nat_lt (count_in before) before.max_nodes ≡ b → EntersFirst b node before opening.Registered after
        → IsSome (factories_of after node) × (count_in after ≤ after.max_nodes)
    first true room (inl h) =
        let longer : length (with_node node before).own ≤ length before.own + 1 = length-added nat_cmp node 1 before.own in (
          rw h.1 (some-of _ _ (lookup-added nat_cmp node 1 before.own (is-self nat_cmp nat_cmp_total node))),
          rw h.1 (grind (arith, room, longer)),
        )
    first true room (inr h) = absurd (differ h.0)
      where
        differ : opening.Registered ≡ opening.OutOfMemory → ⊥
        differ e = cc
    first false room h = absurd (differ h.0)
      where
        differ : opening.Registered ≡ opening.Full → ⊥
        differ e = cc

    by_count : (found : Option ℕ) → factories_of before node ≡ found → EntersWith found node before opening.Registered after
        → IsSome (factories_of after node) × (count_in after ≤ after.max_nodes)
    by_count (Some count) is h = again count (nat_eq count (2 ^ 64 - 1)) (some-of _ _ is) h
    by_count None is h = first (nat_lt (count_in before) before.max_nodes) refl h

unopened-not : (b : Bool) → opening.Registered ≡ unopened b → ⊥
unopened-not true e = cc
unopened-not false e = cc

module _ (hash : ServiceHash) (number node : ℕ) (old new : Contents) (few : HasFew hash number old) where
  opens : (bytes : List ℕ) → entry_at hash old ≡ Some (Described number bytes) → (segment after : Segment)
      → segment_at hash number old ≡ Some segment
      → Opens node segment opening.Registered after → new ≡ with_segment hash number after old → IsOpenIn hash number node bytes new
  opens bytes entry (Open nodes) (Open after) stands h is =
      let e = entered node nodes after (few nodes stands) h in
      rw is (record {
        nodes = after;
        published = entry;
        stands = lookup-set (is_at (place_cmp (hash.digest, number))) old.segments (Open after) (some-of _ _ stands);
        is_in = e.0;
        few = e.1;
      })
  opens bytes entry (Open nodes) (Emptied by) stands h is = absurd h
  opens bytes entry (Emptied by) after stands h is = absurd (differ h.0)
    where
      differ : opening.Registered ≡ opening.Marked → ⊥
      differ e = cc

  at : (bytes : List ℕ) (found : ℕ) (b : Bool) → nat_eq found number ≡ b → entry_at hash old ≡ Some (Described found bytes)
      → (segment : Option Segment) → segment_at hash number old ≡ segment
      → OpensAt b segment hash number node old opening.Registered new → (bytes : List ℕ)
      × (entry_at hash old ≡ Some (Described number bytes)) × IsOpenIn hash number node bytes new
  at bytes found true same entry (Some segment) stands h =
      let is : found ≡ number = grind (arith, same) in
      let own : entry_at hash old ≡ Some (Described number bytes) = subst (λ n. entry_at hash old ≡ Some (Described n bytes)) is entry in
      (bytes, own, opens bytes own segment h.0 stands h.1 h.2)
  at bytes found true same entry None stands h = absurd (differ h.0)
    where
      differ : opening.Registered ≡ opening.Absent → ⊥
      differ e = cc
  at bytes found false same entry segment stands h = absurd (unopened-not (is_left segment) h.0)

  pub opened : (entry : Option Entry) → entry_at hash old ≡ entry
      → OpensAt (is_description_of number entry) (segment_at hash number old) hash number node old opening.Registered new
      → (bytes : List ℕ) × (entry_at hash old ≡ Some (Described number bytes)) × IsOpenIn hash number node bytes new
  opened None is h = absurd (unopened-not (is_left (segment_at hash number old)) h.0)
  opened (Some (Locked by found)) is h = absurd (unopened-not (is_left (segment_at hash number old)) h.0)
  opened (Some (Described found bytes)) is h = at bytes found (nat_eq found number) refl is (segment_at hash number old) refl h

pub opened-is-open : OpenedIsOpen
opened-is-open hash number node old new few h = opened hash number node old new few (entry_at hash old) refl h

-- the order of digests with numbers finds each equal to itself
same-place : (hash : ServiceHash) (number : ℕ) → place_cmp (hash.digest, number) (hash.digest, number) ≡ Equal
same-place hash number = rw (is-self (slice_cmp nat_cmp) nat_list_cmp_total hash.digest) (is-self nat_cmp nat_cmp_total number)

-- the segment that was made stands, with room
made : (hash : ServiceHash) (number node max_nodes : ℕ) (old mid : Contents) (b : Bool) → may_make hash number node max_nodes old ≡ b
    → Makes b hash number node max_nodes old making.Made mid
    → (segment_at hash number mid ≡ Some (Open (first_node node max_nodes))) × (1 ≤ max_nodes)
made hash number node max_nodes old mid true fits (inl h) = (
  rw h.1 (lookup-added place_cmp (hash.digest, number) (Open (first_node node max_nodes)) old.segments (same-place hash number)),
  grind
      (arith, fits),
)
made hash number node max_nodes old mid true fits (inr h) = absurd (differ h.0)
  where
    differ : making.Made ≡ making.OutOfMemory → ⊥
    differ e = cc
made hash number node max_nodes old mid false fits h = absurd (differ h.0)
  where
    differ : making.Made ≡ making.Fault → ⊥
    differ e = cc

-- where an own node has the lock, something lies under the hash
locked : (number : ℕ) (entry : Option Entry) (b : Bool) → (is_own_lock number entry && b) ≡ true → IsSome entry
locked number None b is = absurd (differ is)
  where
    differ : false ≡ true → ⊥
    differ e = cc
locked number (Some entry) b is = refl

published : (hash : ServiceHash) (number node max_nodes : ℕ) (bytes : List ℕ) (mid new : Contents)
    → segment_at hash number mid ≡ Some (Open (first_node node max_nodes)) → 1 ≤ max_nodes
    → (b : Bool) → may_publish hash number mid ≡ b → Publishes b hash number bytes mid publishing.Published new
    → IsOpenIn hash number node bytes new
published hash number node max_nodes bytes mid new stands room true fits (inl h) =
    rw h.1 (record {
      nodes = first_node node max_nodes;
      published = lookup-set (is_at (digest_cmp hash.digest)) mid.entries (Described number bytes)
          (locked number (entry_at hash mid) (is_some (segment_at hash number mid)) fits);
      stands = stands;
      is_in = some-of _ _ (lookup-added nat_cmp node 1 [] (is-self nat_cmp nat_cmp_total node));
      few = omega (arith, room);
    })
published hash number node max_nodes bytes mid new stands room true fits (inr h) = absurd (differ h.0)
  where
    differ : publishing.Published ≡ publishing.OutOfMemory → ⊥
    differ e = cc
published hash number node max_nodes bytes mid new stands room false fits h = absurd (differ h.0)
  where
    differ : publishing.Published ≡ publishing.Fault → ⊥
    differ e = cc

pub created-is-open : CreatedIsOpen
created-is-open hash number node max_nodes bytes old mid new makes publishes =
    let m = made hash number node max_nodes old mid (may_make hash number node max_nodes old) refl makes in
    published hash number node max_nodes bytes mid new m.0 m.1 (may_publish hash number mid) refl publishes
