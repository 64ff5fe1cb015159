-- The lives of services: numbers are taken once, and one description is published under each.
use Rattle.std.proofs.Common.{◌≡◌, ℕ, ◌+◌, ◌-◌, ◌^◌, ◌≤◌, ◌<◌, Bool, true, false, List, [], ◌∷◌, Option, None, Some, Result, Ok, Err}
use Rattle.std.proofs.Common.{nat_eq, refl, sym, ap, subst, ◌∙◌, ◌⊎◌, inl, inr, arith}
use Rattle.std.specs.List.{AllByRecursion}
use Rattle.std.specs.declared.alloc.AllocError.{AllocError}
use Rattle.std.specs.BTreeMap.{is_at}
use Rattle.std.specs.Map.{lookup, set_value, remove_entry}
use Rattle.iox_negotiate_table.specs.DescribeBase.declared.hash.ServiceHash.{ServiceHash}
use Rattle.iox_negotiate_table.specs.Describe.Line.{line}
use Rattle.iox_negotiate_table.specs.NegotiateBase.Access.{Lock}
use Rattle.iox_negotiate_table.specs.NegotiateBase.declared.answer.LockAnswer.{LockAnswer}
use Rattle.iox_negotiate_table.specs.NegotiateBase.declared.answer.LockAnswer.TheVariants as lock
use Rattle.iox_negotiate_table.specs.declared.node.Node.{Node}
use Rattle.iox_negotiate_table.specs.declared.node.Node.TheVariants.{Own, Foreign}
use Rattle.iox_negotiate_table.specs.declared.entry.Entry.{Entry}
use Rattle.iox_negotiate_table.specs.declared.entry.Entry.TheVariants.{Locked, Described}
use Rattle.iox_negotiate_table.specs.declared.step.ForeignStep.TheVariants as step
use Rattle.iox_negotiate_table.specs.Contents.{Contents, entry_at, with_lock, digest_cmp}
use Rattle.iox_negotiate_table.specs.Foreign.{DoneOrLacking}
use Rattle.iox_negotiate_table.specs.Sights.{LocksAt, LocksFree}
use Rattle.iox_negotiate_table.proofs.Entries.{lookup-set, lookup-added}
use Rattle.iox_negotiate.specs.Histories.{Event, Accesses, Steps, Happens, Ran}
use Rattle.iox_negotiate.specs.Lives.{number_of, Begins, TakenOnce, Continues, OneLife, PublishesAs, PublishedByItsLock}
use Rattle.iox_negotiate.proofs.Maps.{insert-all, remove-all, set-found, found-all, among, once, weaker, remove-same}
use Rattle.iox_negotiate.proofs.Tables.{IsTable, digest-exact, digest-self, reached}
use Rattle.iox_negotiate.proofs.Changes.{Change, Same, LockOf, Without, PublishOf, NewSegment, OfSegment, WithoutSegment, ServiceOf}
use Rattle.iox_negotiate.proofs.Changes.{Removal, changes, hash_of, rises, elsewhere, by_hash, equal-of, hash-from}

-- ---- numbers

abbrev Begun : Contents → Contents → ℕ → Type 0
Begun old new number = (old.next ≡ number) × (new.next ≡ number + 1)

begun : (old new : Contents) (hash : ServiceHash) (node : Node) → new ≡ with_lock hash node old → Begun old new old.next
begun old new hash node is = (refl, rw is refl)

same-number : (one other : ℕ) → lock.Taken one ≡ lock.Taken other → one ≡ other
same-number one other same = cc

locks-begin : (hash : ServiceHash) (node : Node) (old new : Contents) (answer : LockAnswer) (number : ℕ) (found : Option Entry)
    → answer ≡ lock.Taken number → LocksAt found hash node old answer new → Begun old new number
locks-begin hash node old new answer number None took h = taken (nat_eq old.next (2 ^ 64 - 1)) h
  where
    taken : (b : Bool) → LocksFree b hash node old answer new → Begun old new number
    taken true h = absurd (differ (sym h.0 ∙ took))
      where
        differ : lock.Fault ≡ lock.Taken number → ⊥
        differ e = cc
    taken false (inl h) = subst (λ n. Begun old new n) (same-number old.next number (sym h.0 ∙ took)) (begun old new hash node h.1)
    taken false (inr h) = absurd (differ (sym h.0 ∙ took))
      where
        differ : lock.OutOfMemory ≡ lock.Taken number → ⊥
        differ e = cc
locks-begin hash node old new answer number (Some (Locked by at)) took h = absurd (differ (sym h.0 ∙ took))
  where
    differ : lock.IsLocked ≡ lock.Taken number → ⊥
    differ e = cc
locks-begin hash node old new answer number (Some (Described at bytes)) took h = absurd (differ (sym h.0 ∙ took))
  where
    differ : lock.Exists ≡ lock.Taken number → ⊥
    differ e = cc

foreign-begin : (hash : ServiceHash) (node : ℕ) (old new : Contents) (number : ℕ) (b : Bool) (result : Result (Unit {0}) AllocError)
    → entry_at hash old ≡ None → entry_at hash new ≡ Some (Locked (Foreign node) number)
    → DoneOrLacking b (with_lock hash (Foreign node) old) old result new → Begun old new number
foreign-begin hash node old new number b result free taken h = there b result h
  where
    idle : new ≡ old → ⊥
    idle is = differ (sym free ∙ subst (λ t. entry_at hash t ≡ Some (Locked (Foreign node) number)) is taken)
      where
        differ : None ≡ Some (Locked (Foreign node) number) → ⊥
        differ e = cc

    done : new ≡ with_lock hash (Foreign node) old → Begun old new number
    done is = subst (λ n. Begun old new n)
        (same (sym (lookup-added digest_cmp hash.digest (Locked (Foreign node) old.next) old.entries (digest-self hash.digest)) ∙ subst
        (λ t. entry_at hash t ≡ Some (Locked (Foreign node) number)) is taken))
        (begun old new hash (Foreign node) is)
      where
        same : Some (Locked (Foreign node) old.next) ≡ Some (Locked (Foreign node) number) → old.next ≡ number
        same e = cc

    there : (b : Bool) (result : Result (Unit {0}) AllocError) → DoneOrLacking b (with_lock hash (Foreign node) old) old result new
        → Begun old new number
    there true (Ok happened) h = done h
    there true (Err lacking) h = absurd (idle h)
    there false (Ok happened) h = absurd (idle h)
    there false (Err lacking) h = absurd h

begins : (old new : Contents) (event : Event) (number : ℕ) → Happens old event new → Begins old event new number → Begun old new number
begins old new (Accesses (Lock hash node answer)) number h took
    = locks-begin hash (Own node) old new answer number (entry_at hash old) took h
begins old new (Steps hash (step.Lock node)) number h took = foreign-begin hash node old new number _ h.0 took.0 took.1 h.1
begins old new event number h took = absurd took

never-falls : (events : List Event) (old new : Contents) → Ran old events new → old.next ≤ new.next
never-falls [] old new ran = rw ran (omega arith)
never-falls (event ∷ events) old new ran =
    let first = rises event (hash_of event) old ran.0 (changes old ran.0 event ran.1) in omega
    (arith, first, never-falls events ran.0 new ran.2)

pub taken-once : TakenOnce
taken-once one other before after later last events first second happened took ran happens takes =
    let a = begins before after one first happened took in
    let b = begins later last other second happens takes in
    omega (arith, a.0, a.1, b.0, b.1, never-falls events after later ran)

-- ---- one life

-- the number belongs to this hash, and each entry of it continues this one
record IsLife (hash : ServiceHash) (entry : Entry) (table : Contents) : Type 0 where
  below : number_of entry < table.next
  own : AllByRecursion (λ x. number_of x.1 ≡ number_of entry → (x.0 ≡ hash.digest) × Continues entry x.1) table.entries

continues-itself : (entry : Entry) → Continues entry entry
continues-itself (Locked node number) = refl
continues-itself (Described number bytes) = refl

-- what continues a lock is continued by a description
published-continues : (entry : Entry) (node : Node) (number : ℕ) (bytes : List ℕ) → Continues entry (Locked node number)
    → Continues entry (Described number bytes)
published-continues (Locked by at) node number bytes h = tt
published-continues (Described at text) node number bytes h = absurd h

module _ (life_hash : ServiceHash) (entry : Entry) (hash : ServiceHash) (old new : Contents) (life : IsLife life_hash entry old) where
  abbrev Owned : List ℕ × Entry → Type 0
  Owned x = number_of x.1 ≡ number_of entry → (x.0 ≡ life_hash.digest) × Continues entry x.1

  published-life : (node : Node) (number : ℕ) (bytes : List ℕ) → entry_at hash old ≡ Some (Locked node number)
      → AllByRecursion Owned (set_value (is_at (digest_cmp hash.digest)) old.entries (Described number bytes))
  published-life node number bytes locked
      = set-found Owned (is_at (digest_cmp hash.digest)) (Described number bytes) old.entries passes life.own
    where
      at : (x : List ℕ) (v : Entry) → Some v ≡ Some (Locked node number) → Owned (x, v) → Owned (x, Described number bytes)
      at x v is own same =
          let lock : v ≡ Locked node number = out is in
          let first : (x ≡ life_hash.digest) × Continues entry (Locked node number)
          = subst (λ e. number_of e ≡ number_of entry → (x ≡ life_hash.digest) × Continues entry e) lock own same in
          (first.0, published-continues entry node number bytes first.1)
        where
          out : Some v ≡ Some (Locked node number) → v ≡ Locked node number
          out e = cc

      passes : (x : List ℕ) (v : Entry) → lookup (is_at (digest_cmp hash.digest)) old.entries ≡ Some v → Owned (x, v)
          → Owned (x, Described number bytes)
      passes x v found = at x v (sym found ∙ locked)

  lives-on : (event : Event) → Change event hash old new → IsLife life_hash entry new
  lives-on event (Same is) = rw is life
  lives-on event (LockOf node free is) = rw is (record {
    below = omega (arith, life.below);
    own = insert-all Owned digest_cmp hash.digest (Locked node old.next) digest-exact old.entries life.own
        (λ same. absurd (omega (arith, same, life.below)));
  })
  lives-on event (Without is) = rw is
      (record { below = life.below; own = remove-all Owned (is_at (digest_cmp hash.digest)) old.entries life.own })
  lives-on event (PublishOf node number bytes locked by is)
      = rw is (record { below = life.below; own = published-life (Own node) number bytes locked })
  lives-on event (NewSegment number node segment locked is) = rw is (record { below = life.below; own = life.own })
  lives-on event (OfSegment number before segment stood room turns is) = rw is (record { below = life.below; own = life.own })
  lives-on event (WithoutSegment number is) = rw is (record { below = life.below; own = life.own })
  lives-on event (ServiceOf version node number agreed locked by own is)
      = rw is (record { below = life.below; own = published-life (Foreign node) number (line version agreed) locked })
  lives-on event (Removal number is) = rw is
      (record { below = life.below; own = remove-all Owned (is_at (digest_cmp hash.digest)) old.entries life.own })

runs-on : (hash : ServiceHash) (entry : Entry) (events : List Event) (old new : Contents) → IsLife hash entry old → Ran old events new
    → IsLife hash entry new
runs-on hash entry [] old new life ran = rw ran life
runs-on hash entry (event ∷ events) old new life ran =
    runs-on hash entry events ran.0 new (lives-on hash entry (hash_of event) old ran.0 life event (changes old ran.0 event ran.1)) ran.2

-- the life of what lies in a table
life-of : (hash : ServiceHash) (entry : Entry) (table : Contents) → IsTable table → entry_at hash table ≡ Some entry
    → IsLife hash entry table
life-of hash entry table is found =
    let less = found-all (λ e. number_of e.1 < table.next) (is_at (digest_cmp hash.digest)) table.entries entry is.below found in
    let here = among (is_at (digest_cmp hash.digest)) table.entries entry found in
    let digest : hash.digest ≡ here.0 = digest-exact hash.digest here.0 (equal-of _ here.1) in
    record {
      below = less.2;
      own = weaker (λ x. number_of x.1 ≡ number_of entry → x ≡ (here.0, entry))
          (λ x. number_of x.1 ≡ number_of entry → (x.0 ≡ hash.digest) × Continues entry x.1)
          (λ x only same. (
            ap (λ y. y.0) (only same) ∙ sym digest,
            subst (λ e. Continues entry e) (sym (ap (λ y. y.1) (only same)))
                (continues-itself entry),
          ))
          table.entries (once (λ e. number_of e.1) table.entries (here.0, entry) is.numbers here.2);
    }

pub one-life-of : (old new : Contents) (events : List Event) (hash later_hash : ServiceHash) (entry later : Entry)
    → IsTable old → Ran old events new → entry_at hash old ≡ Some entry → entry_at later_hash new ≡ Some later
    → number_of later ≡ number_of entry
    → (later_hash ≡ hash) × Continues entry later
one-life-of old new events hash later_hash entry later table ran found late same =
    let life = runs-on hash entry events old new (life-of hash entry old table found) ran in
    let at = found-all (λ x. number_of x.1 ≡ number_of entry → (x.0 ≡ hash.digest) × Continues entry x.1)
    (is_at (digest_cmp later_hash.digest)) new.entries later life.own late in
    let both = at.2 same in
    (hash-from later_hash hash (digest-exact later_hash.digest at.0 (equal-of _ at.1) ∙ both.0), both.1)

pub one-life : OneLife
one-life old new events hash later_hash entry later r ran found late same
    = one-life-of old new events hash later_hash entry later (reached old r) ran found late same

-- ---- publishing

pub not-locked : (node : Node) (at number : ℕ) (bytes : List ℕ) → Some (Locked node at) ≡ Some (Described number bytes) → ⊥
not-locked node at number bytes e = cc

pub not-none : (number : ℕ) (bytes : List ℕ) → None ≡ Some (Described number bytes) → ⊥
not-none number bytes e = cc

module _ (hash : ServiceHash) (number : ℕ) (bytes : List ℕ) (old new : Contents) (table : IsTable old) (event : Event)
    (stands : entry_at hash new ≡ Some (Described number bytes)) where
  abbrev Before : Type 0
  Before = (entry_at hash old ≡ Some (Described number bytes)) ⊎ PublishesAs hash number bytes old event

  removed : lookup (is_at (digest_cmp hash.digest)) (remove_entry (is_at (digest_cmp hash.digest)) old.entries)
      ≡ Some (Described number bytes) → Before
  removed h = absurd (not-none number bytes
      (sym (remove-same (is_at (digest_cmp hash.digest))
      (λ x y a b. sym (digest-exact hash.digest x (equal-of _ a)) ∙ digest-exact hash.digest y (equal-of _ b)) old.entries table.keys) ∙ h))

  -- what this event published is what stands
  set : (at : ℕ) (text : List ℕ) (node : Node) → entry_at hash old ≡ Some (Locked node at) → PublishesAs hash at text old event
      → lookup (is_at (digest_cmp hash.digest)) (set_value (is_at (digest_cmp hash.digest)) old.entries (Described at text))
      ≡ Some (Described number bytes) → Before
  set at text node locked by h =
      let found = lookup-set (is_at (digest_cmp hash.digest)) old.entries (Described at text) (rw locked refl) in
      let numbers : at ≡ number = first (sym found ∙ h) in
      let texts : text ≡ bytes = second (sym found ∙ h) in
      inr (subst (λ b. PublishesAs hash number b old event) texts (subst (λ n. PublishesAs hash n text old event) numbers by))
    where
      first : Some (Described at text) ≡ Some (Described number bytes) → at ≡ number
      first e = cc

      second : Some (Described at text) ≡ Some (Described number bytes) → text ≡ bytes
      second e = cc

  now : (new' : Contents) → new ≡ new' → entry_at hash new' ≡ Some (Described number bytes)
  now new' is = subst (λ t. entry_at hash t ≡ Some (Described number bytes)) is stands

  publishes-here : Change event hash old new → Before
  publishes-here (Same is) = inl (now old is)
  publishes-here (LockOf node free is)
      = absurd (not-locked node old.next number bytes
      (sym (lookup-added digest_cmp hash.digest (Locked node old.next) old.entries (digest-self hash.digest)) ∙ now
      (with_lock hash node old) is))
  publishes-here (Without is) = removed (now _ is)
  publishes-here (PublishOf node at text locked by is) = set at text (Own node) locked by (now _ is)
  publishes-here (NewSegment at node segment locked is) = inl (now _ is)
  publishes-here (OfSegment at before segment stood room turns is) = inl (now _ is)
  publishes-here (WithoutSegment at is) = inl (now _ is)
  publishes-here (ServiceOf version node at agreed locked by own is) = set at (line version agreed) (Foreign node) locked by (now _ is)
  publishes-here (Removal at is) = removed (now _ is)

pub published-by-its-lock : PublishedByItsLock
published-by-its-lock old new event hash number bytes r happened stands = by_hash (hash_of event) hash
    (λ same. publishes-here hash number bytes old new (reached old r) event stands
    (subst (λ h. Change event h old new) same (changes old new event happened)))
    (λ differ. inl (sym (elsewhere (hash_of event) hash differ old new event (changes old new event happened)).entry ∙ stands))
