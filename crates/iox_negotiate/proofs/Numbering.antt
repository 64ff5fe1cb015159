-- The numbers of segments are below the next one.
use Rattle.std.proofs.Common.{◌≡◌, ℕ, ◌+◌, ◌<◌, true, false, List, [], ◌∷◌, None, Some, refl, sym, ap, subst, arith}
use Rattle.std.specs.List.{AllByRecursion}
use Rattle.std.specs.declared.cmp.Ordering.{Ordering}
use Rattle.std.specs.declared.cmp.Ordering.TheVariants.{Equal, Less, Greater}
use Rattle.std.specs.Ordering.{is_eq}
use Rattle.std.specs.BTreeMap.{is_at}
use Rattle.iox_negotiate_table.specs.DescribeBase.declared.hash.ServiceHash.{ServiceHash}
use Rattle.iox_negotiate_table.specs.declared.entry.Entry.{Entry}
use Rattle.iox_negotiate_table.specs.declared.segment.Segment.{Segment}
use Rattle.iox_negotiate_table.specs.Contents.{Contents, empty_table, entry_at, segment_at, digest_cmp, place_cmp}
use Rattle.iox_negotiate.specs.Histories.{Event, Accesses, Steps, Happens, Ran, IsReached}
use Rattle.iox_negotiate.specs.Lives.{number_of}
use Rattle.iox_negotiate.proofs.Maps.{by_test, insert-all, remove-all, set-found, found-all, weaker, none-found}
use Rattle.iox_negotiate.proofs.Tables.{IsTable, new-table, place-exact, sees, acts}
use Rattle.iox_negotiate.proofs.Changes.{Change, Same, LockOf, Without, PublishOf, NewSegment, OfSegment, WithoutSegment, ServiceOf}
use Rattle.iox_negotiate.proofs.Changes.{Removal, hash_of, changes}

-- each segment's number is below the next one
abbrev pub Below : ℕ → List ((List ℕ × ℕ) × Segment) → Type 0
Below next segments = AllByRecursion (λ e. e.0.1 < next) segments

lock-below : (hash : ServiceHash) (table : Contents) (entry : Entry) → IsTable table → entry_at hash table ≡ Some entry
    → number_of entry < table.next
lock-below hash table entry is found
    = (found-all (λ e. number_of e.1 < table.next) (is_at (digest_cmp hash.digest)) table.entries entry is.below found).2

below-changed : (event : Event) (hash : ServiceHash) (old new : Contents) → IsTable old → Below old.next old.segments
    → Change event hash old new → Below new.next new.segments
below-changed event hash old new table below (Same is) = subst (λ t. Below t.next t.segments) (sym is) below
below-changed event hash old new table below (LockOf node free is)
    = rw is (weaker (λ e. e.0.1 < old.next) (λ e. e.0.1 < old.next + 1) (λ e less. omega (arith, less)) old.segments below)
below-changed event hash old new table below (Without is) = rw is below
below-changed event hash old new table below (PublishOf node number bytes locked by is) = rw is below
below-changed event hash old new table below (NewSegment number node segment locked is) =
    rw is (insert-all (λ e. e.0.1 < old.next) place_cmp (hash.digest, number) segment place-exact old.segments below
    (lock-below hash old _ table locked))
below-changed event hash old new table below (OfSegment number before segment stood room turns is) =
    rw is (set-found (λ e. e.0.1 < old.next) (is_at (place_cmp (hash.digest, number))) segment old.segments (λ x v found less. less) below)
below-changed event hash old new table below (WithoutSegment number is)
    = rw is (remove-all (λ e. e.0.1 < old.next) (is_at (place_cmp (hash.digest, number))) old.segments below)
below-changed event hash old new table below (ServiceOf version node number agreed locked by own is) =
    rw is (insert-all (λ e. e.0.1 < old.next) place_cmp (hash.digest, number) _ place-exact old.segments below
    (lock-below hash old _ table locked))
below-changed event hash old new table below (Removal number is)
    = rw is (remove-all (λ e. e.0.1 < old.next) (is_at (place_cmp (hash.digest, number))) old.segments below)

table-after : (event : Event) (old new : Contents) → IsTable old → Happens old event new → IsTable new
table-after (Accesses access) old new is h = sees old new is access h
table-after (Steps hash step) old new is h = acts old new is hash step h.0 h.1

ran-below : (events : List Event) (old new : Contents) → IsTable old → Below old.next old.segments → Ran old events new
    → Below new.next new.segments
ran-below [] old new is below ran = subst (λ t. Below t.next t.segments) (sym ran) below
ran-below (event ∷ events) old new is below (mid, happens, ran) =
    ran-below events mid new (table-after event old mid is happens)
    (below-changed event (hash_of event) old mid is below (changes old mid event happens)) ran

-- no segment has the next number
fresh-segment : (hash : ServiceHash) (next : ℕ) (segments : List ((List ℕ × ℕ) × Segment)) → Below next segments
    → AllByRecursion (λ e. is_at (place_cmp (hash.digest, next)) e.0 ≡ false) segments
fresh-segment hash next [] below = tt
fresh-segment hash next (e ∷ es) below
    = (
      by_test (is_at (place_cmp (hash.digest, next)) e.0) (λ is. absurd (there (place_cmp (hash.digest, next) e.0) refl is))
          (λ isnt. isnt),
      fresh-segment hash next es below.1,
    )
  where
    numbers : (hash.digest, next) ≡ e.0 → next ≡ e.0.1
    numbers same = ap (λ p. p.1) same

    there : (o : Ordering) → place_cmp (hash.digest, next) e.0 ≡ o → is_eq o ≡ true → ⊥
    there Equal is passes = omega (arith, numbers (place-exact (hash.digest, next) e.0 is), below.0)
    there Less is passes = cc
    there Greater is passes = cc

pub next-unmade : (hash : ServiceHash) (table : Contents) → IsReached table → segment_at hash table.next table ≡ None
next-unmade hash table reached =
    none-found (is_at (place_cmp (hash.digest, table.next))) table.segments
    (fresh-segment hash table.next table.segments
    (ran-below reached.events (empty_table reached.id) table (new-table reached.id) tt reached.ran))
