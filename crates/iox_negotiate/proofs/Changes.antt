-- What an event may change: at most one thing, under its own hash.
use Rattle.std.proofs.Common.{◌≡◌, ◌≢◌, ℕ, ◌-◌, ◌^◌, ◌≤◌, Bool, true, false, cond, not, ◌&&◌, List, Option, None, Some, is_some, Result}
use Rattle.std.proofs.Common.{Ok, Err, nat_eq, refl, sym, ap, subst, ◌∙◌, inl, inr, arith}
use Rattle.std.specs.declared.alloc.AllocError.{AllocError}
use Rattle.std.specs.declared.cmp.Ordering.{Ordering}
use Rattle.std.specs.declared.cmp.Ordering.TheVariants.{Less, Equal, Greater}
use Rattle.std.specs.Ordering.{nat_cmp, is_eq}
use Rattle.std.specs.Cmp.{nat_cmp_total}
use Rattle.std.specs.Cmp.Lexicographic.{slice_cmp, nat_list_cmp_total}
use Rattle.std.specs.BTreeMap.{is_at}
use Rattle.iox_negotiate_table.specs.DescribeBase.declared.hash.ServiceHash.{ServiceHash}
use Rattle.iox_negotiate_table.specs.DescribeSettings.Agreement.{Agreement, max_nodes_of}
use Rattle.iox_negotiate_table.specs.Describe.Line.{line}
use Rattle.iox_negotiate_table.specs.DescribeSettings.declared.description.Version.{Version}
use Rattle.iox_negotiate_table.specs.DescribeSettings.declared.description.Version.TheVariants.{One, Two}
use Rattle.iox_negotiate_table.specs.NegotiateBase.Access.{Access, Look, Lock, MakeSegment, Publish, Unlock, OpenSegment, Leave}
use Rattle.iox_negotiate_table.specs.NegotiateBase.Access.{RemoveDescription, RemoveSegment}
use Rattle.iox_negotiate_table.specs.NegotiateBase.declared.answer.LockAnswer.{LockAnswer}
use Rattle.iox_negotiate_table.specs.NegotiateBase.declared.answer.MakeSegmentAnswer.{MakeSegmentAnswer}
use Rattle.iox_negotiate_table.specs.NegotiateBase.declared.answer.PublishAnswer.{PublishAnswer}
use Rattle.iox_negotiate_table.specs.NegotiateBase.declared.answer.OpenSegmentAnswer.{OpenSegmentAnswer}
use Rattle.iox_negotiate_table.specs.NegotiateBase.declared.answer.LeaveAnswer.{LeaveAnswer}
use Rattle.iox_negotiate_table.specs.NegotiateBase.declared.answer.RemoveAnswer.{RemoveAnswer}
use Rattle.iox_negotiate_table.specs.declared.node.Node.{Node}
use Rattle.iox_negotiate_table.specs.declared.node.Node.TheVariants.{Own, Foreign}
use Rattle.iox_negotiate_table.specs.declared.entry.Entry.{Entry}
use Rattle.iox_negotiate_table.specs.declared.entry.Entry.TheVariants.{Locked, Described}
use Rattle.iox_negotiate_table.specs.declared.segment.Segment.{Segment}
use Rattle.iox_negotiate_table.specs.declared.segment.Segment.TheVariants.{Open}
use Rattle.iox_negotiate_table.specs.declared.step.ForeignStep.{ForeignStep}
use Rattle.iox_negotiate_table.specs.declared.step.ForeignStep.TheVariants as step
use Rattle.iox_negotiate_table.specs.Nodes.{first_node, first_foreign}
use Rattle.iox_negotiate_table.specs.Segments.{Opens, after_leave, RegistersIn, after_foreign_leave}
use Rattle.iox_negotiate_table.specs.Contents.{Contents, entry_at, segment_at, with_entry, without_entry, with_new_segment, with_segment}
use Rattle.iox_negotiate_table.specs.Contents.{without_segment, with_lock, digest_cmp, place_cmp, may_make, may_publish, may_unlock}
use Rattle.iox_negotiate_table.specs.Contents.{is_published, may_remove_description, may_remove_segment}
use Rattle.iox_negotiate_table.specs.Foreign.{Acts, IsFor, DoneOrLacking, Done, foreign_lock, published_number, with_service}
use Rattle.iox_negotiate_table.specs.Foreign.{PublishesForeign, RegistersForeign, RegistersAt, after_leaving, left_at, after_removal}
use Rattle.iox_negotiate_table.specs.Foreign.{is_left_by}
use Rattle.iox_negotiate_table.specs.Sights.{Sight, LocksAt, LocksFree, Makes, Publishes, Unlocks, OpensAt, LeavesAt, Removes}
use Rattle.iox_negotiate_table.proofs.Entries.{is-self}
use Rattle.iox_negotiate.specs.Histories.{Event, Accesses, Steps, Happens}
use Rattle.iox_negotiate.specs.Lives.{PublishesAs}
use Rattle.iox_negotiate.proofs.Maps.{no, on, by_test, insert-apart, remove-apart, set-apart}
use Rattle.iox_negotiate.proofs.Rooms.{SameRoom, opens-room, leave-room, register-room, foreign-leave-room}
use Rattle.iox_negotiate.proofs.Tables.{lock-of, digest-exact, place-exact, digest-self, own-lock, foreign-locked}

-- what an event makes of a segment that stands: own nodes open and leave it, and foreign nodes come in and leave
abbrev pub Turns : Event → ℕ → Segment → Segment → Type 0
Turns (Accesses (OpenSegment hash number node answer)) at before after = (number ≡ at) × Opens node before answer after
Turns (Accesses (Leave hash number node answer)) at before after = (number ≡ at) × (after ≡ after_leave node before)
Turns (Steps hash (step.Register node)) at before after = (result : Result (Unit {0}) AllocError) × RegistersIn node before result after
Turns (Steps hash (step.Leave node)) at before after = after ≡ after_foreign_leave node before
Turns event at before after = ⊥

-- What an event on a hash may make of a table.
pub data Change (event : Event) (hash : ServiceHash) (old new : Contents) : Type 0 where
  Same : (is : new ≡ old) → Change event hash old new
  LockOf : (node : Node) (free : entry_at hash old ≡ None) (is : new ≡ with_lock hash node old) → Change event hash old new
  Without : (is : new ≡ without_entry hash old) → Change event hash old new
  PublishOf : (node number : ℕ) (bytes : List ℕ) (locked : entry_at hash old ≡ Some (Locked (Own node) number))
      (by : PublishesAs hash number bytes old event) (is : new ≡ with_entry hash (Described number bytes) old)
      → Change event hash old new
  NewSegment : (number node : ℕ) (segment : Segment) (locked : entry_at hash old ≡ Some (Locked (Own node) number))
      (is : new ≡ with_new_segment hash number segment old) → Change event hash old new
  OfSegment : (number : ℕ) (before segment : Segment) (stood : segment_at hash number old ≡ Some before)
      (room : SameRoom before segment) (turns : Turns event number before segment)
      (is : new ≡ with_segment hash number segment old) → Change event hash old new
  WithoutSegment : (number : ℕ) (is : new ≡ without_segment hash number old) → Change event hash old new
  ServiceOf : (version : Version) (node number : ℕ) (agreed : Agreement) (locked : entry_at hash old ≡ Some (Locked (Foreign node) number))
      (by : PublishesAs hash number (line version agreed) old event)
      (own : IsFor version hash agreed) (is : new ≡ with_service version hash number node agreed old) → Change event hash old new
  Removal : (number : ℕ) (is : new ≡ without_segment hash number (without_entry hash old)) → Change event hash old new

-- the hash of an event
abbrev pub hash_of : Event → ServiceHash
hash_of (Accesses (Look hash answer)) = hash
hash_of (Accesses (Lock hash node answer)) = hash
hash_of (Accesses (MakeSegment hash number node max_nodes answer)) = hash
hash_of (Accesses (Publish hash number bytes answer)) = hash
hash_of (Accesses (Unlock hash number)) = hash
hash_of (Accesses (OpenSegment hash number node answer)) = hash
hash_of (Accesses (Leave hash number node answer)) = hash
hash_of (Accesses (RemoveDescription hash number answer)) = hash
hash_of (Accesses (RemoveSegment hash number answer)) = hash
hash_of (Steps hash step) = hash

module _ (event : Event) (hash : ServiceHash) (old new : Contents) where
  locks : (node : Node) (answer : LockAnswer) (found : Option Entry) → entry_at hash old ≡ found
      → LocksAt found hash node old answer new → Change event hash old new
  locks node answer None free h = taken (nat_eq old.next (2 ^ 64 - 1)) h
    where
      taken : (b : Bool) → LocksFree b hash node old answer new → Change event hash old new
      taken true h = Same h.1
      taken false (inl h) = LockOf node free h.1
      taken false (inr h) = Same h.1
  locks node answer (Some (Locked by number)) free h = Same h.1
  locks node answer (Some (Described number bytes)) free h = Same h.1

  makes : (number node max_nodes : ℕ) (answer : MakeSegmentAnswer) (b : Bool) → may_make hash number node max_nodes old ≡ b
      → Makes b hash number node max_nodes old answer new → Change event hash old new
  makes number node max_nodes answer true may (inl h)
      = NewSegment number node (Open (first_node node max_nodes))
      (lock-of number node (entry_at hash old) (not (is_some (segment_at hash number old)) && true) (grind (arith, may))) h.1
  makes number node max_nodes answer true may (inr h) = Same h.1
  makes number node max_nodes answer false may h = Same h.1

  unlocks : (b : Bool) → Unlocks b hash old new → Change event hash old new
  unlocks true h = Without h
  unlocks false h = Same h

  opens : (number node : ℕ) (answer : OpenSegmentAnswer)
      → ((before after : Segment) → Opens node before answer after → Turns event number before after)
      → (b : Bool) (found : Option Segment) → segment_at hash number old ≡ found → OpensAt b found hash number node old answer new
      → Change event hash old new
  opens number node answer turns true (Some segment) stood h
      = OfSegment number segment h.0 stood (opens-room node segment h.0 answer h.1) (turns segment h.0 h.1) h.2
  opens number node answer turns true None stood h = Same h.1
  opens number node answer turns false found stood h = Same h.1

  leaves : (number node : ℕ) (answer : LeaveAnswer) → ((before : Segment) → Turns event number before (after_leave node before))
      → (b : Bool) (found : Option Segment) → segment_at hash number old ≡ found → LeavesAt b found hash number node old answer new
      → Change event hash old new
  leaves number node answer turns true (Some segment) stood h
      = OfSegment number segment (after_leave node segment) stood (leave-room node segment) (turns segment) h.1
  leaves number node answer turns true None stood h = Same h.1
  leaves number node answer turns false found stood h = Same h.1

  removes-description : (answer : RemoveAnswer) (b : Bool) → Removes b (without_entry hash old) old answer new → Change event hash old new
  removes-description answer true h = Without h.1
  removes-description answer false h = Same h.1

  removes-segment : (number : ℕ) (answer : RemoveAnswer) (b : Bool) → Removes b (without_segment hash number old) old answer new
      → Change event hash old new
  removes-segment number answer true h = WithoutSegment number h.1
  removes-segment number answer false h = Same h.1

  locks-foreign : (node : ℕ) (result : Result (Unit {0}) AllocError) (found : Option Entry) (b : Bool) → entry_at hash old ≡ found
      → DoneOrLacking (not (is_some found) && b) (with_lock hash (Foreign node) old) old result new → Change event hash old new
  locks-foreign node (Ok done) None true free h = LockOf (Foreign node) free h
  locks-foreign node (Err lacking) None true free h = Same h
  locks-foreign node (Ok done) None false free h = Same h
  locks-foreign node (Err lacking) None false free h = absurd h
  locks-foreign node (Ok done) (Some entry) b free h = Same h
  locks-foreign node (Err lacking) (Some entry) b free h = absurd h

  gives-up : (result : Result (Unit {0}) AllocError) (b : Bool) → Done b (without_entry hash old) old result new → Change event hash old new
  gives-up result true h = Without h.1
  gives-up result false h = Same h.1

  module _ (node : ℕ) (result : Result (Unit {0}) AllocError)
      (turns : (number : ℕ) (before after : Segment) → RegistersIn node before result after → Turns event number before after) where
    registers-foreign : (number : ℕ) (found : Option Segment) → segment_at hash number old ≡ found
        → RegistersAt found hash number node old result new → Change event hash old new
    registers-foreign number (Some segment) stood h
        = OfSegment number segment h.0 stood (register-room node segment h.0 result h.1) (turns number segment h.0 h.1) h.2
    registers-foreign number None stood h = Same h.1

    registers-at : (found : Option ℕ) → RegistersForeign found hash node old result new → Change event hash old new
    registers-at (Some number) h = registers-foreign number (segment_at hash number old) refl h
    registers-at None h = Same h.1

  module _ (node : ℕ) (turns : (number : ℕ) (before : Segment) → Turns event number before (after_foreign_leave node before)) where
    leaves-foreign : (number : ℕ) (found : Option Segment) → segment_at hash number old ≡ found
        → new ≡ left_at found hash number node old → Change event hash old new
    leaves-foreign number (Some segment) stood h
        = OfSegment number segment (after_foreign_leave node segment) stood (foreign-leave-room node segment) (turns number segment) h
    leaves-foreign number None stood h = Same h

    leaves-number : (found : Option ℕ) → new ≡ after_leaving found hash node old → Change event hash old new
    leaves-number (Some number) h = leaves-foreign number (segment_at hash number old) refl h
    leaves-number None h = Same h

  removes-foreign : (number : ℕ) (b : Bool) → new ≡ cond b (without_segment hash number (without_entry hash old)) old
      → Change event hash old new
  removes-foreign number true h = Removal number h
  removes-foreign number false h = Same h

  removes-number : (node : ℕ) (found : Option ℕ) → new ≡ after_removal found hash node old → Change event hash old new
  removes-number node (Some number) h = removes-foreign number (is_left_by node (segment_at hash number old)) h
  removes-number node None h = Same h

publishes : (hash : ServiceHash) (old new : Contents) (number : ℕ) (bytes : List ℕ) (answer : PublishAnswer) (b : Bool)
    → may_publish hash number old ≡ b → Publishes b hash number bytes old answer new
    → Change (Accesses (Publish hash number bytes answer)) hash old new
publishes hash old new number bytes answer true may (inl h) =
    let locked = own-lock number (entry_at hash old) (is_some (segment_at hash number old)) may in
    PublishOf locked.0 number bytes locked.1 (locked.0, locked.1, refl, refl, refl, h.0) h.1
publishes hash old new number bytes answer true may (inr h) = Same h.1
publishes hash old new number bytes answer false may h = Same h.1

publishes-foreign : (version : Version) (event : Event) (hash : ServiceHash) (old new : Contents) (node : ℕ)
    (result : Result (Unit {0}) AllocError) (agreed : Agreement)
    → ((number : ℕ) → entry_at hash old ≡ Some (Locked (Foreign node) number) → IsFor version hash agreed
    → PublishesAs hash number (line version agreed) old event)
    → (found : Option ℕ) → foreign_lock node (entry_at hash old) ≡ found
    → PublishesForeign version found hash node agreed old result new → Change event hash old new
publishes-foreign version event hash old new node result agreed told None lock h = Same h.1
publishes-foreign version event hash old new node result agreed told (Some number) lock h = there h.0 result h.1.0 h.2
  where
    locked : entry_at hash old ≡ Some (Locked (Foreign node) number)
    locked = foreign-locked node number (entry_at hash old) lock

    there : (b : Bool) (result : Result (Unit {0}) AllocError) → (b ≡ true → IsFor version hash agreed)
        → DoneOrLacking b (with_service version hash number node agreed old) old result new
        → Change event hash old new
    there true (Ok done) own h = ServiceOf version node number agreed locked (told number locked (own refl)) (own refl) h
    there true (Err lacking) own h = Same h
    there false (Ok done) own h = Same h
    there false (Err lacking) own h = absurd h

module _ (old new : Contents) where
  sees : (access : Access) → Sight old access new → Change (Accesses access) (hash_of (Accesses access)) old new
  sees (Look hash answer) h = Same h.1
  sees (Lock hash node answer) h = locks _ hash old new (Own node) answer (entry_at hash old) refl h
  sees (MakeSegment hash number node max_nodes answer) h
      = makes _ hash old new number node max_nodes answer (may_make hash number node max_nodes old) refl h
  sees (Publish hash number bytes answer) h = publishes hash old new number bytes answer (may_publish hash number old) refl h
  sees (Unlock hash number) h = unlocks _ hash old new (may_unlock hash number old) h
  sees (OpenSegment hash number node answer) h
      = opens (Accesses (OpenSegment hash number node answer)) hash old new number node answer (λ before after turned. (refl, turned))
      (is_published hash number old) (segment_at hash number old) refl h
  sees (Leave hash number node answer) h
      = leaves (Accesses (Leave hash number node answer)) hash old new number node answer (λ before. (refl, refl))
      (is_published hash number old) (segment_at hash number old) refl h
  sees (RemoveDescription hash number answer) h = removes-description _ hash old new answer (may_remove_description hash number old) h
  sees (RemoveSegment hash number answer) h = removes-segment _ hash old new number answer (may_remove_segment hash number old) h

  acts : (hash : ServiceHash) (step : ForeignStep) (result : Result (Unit {0}) AllocError) → Acts hash step old result new
      → Change (Steps hash step) hash old new
  acts hash (step.Lock node) result h
      = locks-foreign _ hash old new node result (entry_at hash old) (not (nat_eq old.next (2 ^ 64 - 1))) refl h
  acts hash (step.GiveUp node) result h = gives-up _ hash old new result (is_some (foreign_lock node (entry_at hash old))) h
  acts hash (step.Publish node agreed) result h
      = publishes-foreign Two (Steps hash (step.Publish node agreed)) hash old new node result agreed
      (λ number locked own. (locked, refl, own, refl)) (foreign_lock node (entry_at hash old)) refl h
  acts hash (step.PublishV1 node agreed) result h
      = publishes-foreign One (Steps hash (step.PublishV1 node agreed)) hash old new node result agreed
      (λ number locked own. (locked, refl, own, refl)) (foreign_lock node (entry_at hash old)) refl h
  acts hash (step.Register node) result h
      = registers-at (Steps hash (step.Register node)) hash old new node result (λ number before after turned. (result, turned))
      (published_number (entry_at hash old)) h
  acts hash (step.Leave node) result h
      = leaves-number (Steps hash (step.Leave node)) hash old new node (λ number before. refl) (published_number (entry_at hash old)) h.1
  acts hash (step.Remove node) result h = removes-number _ hash old new node (published_number (entry_at hash old)) h.1

  pub changes : (event : Event) → Happens old event new → Change event (hash_of event) old new
  changes (Accesses access) h = sees access h
  changes (Steps hash step) h = acts hash step h.0 h.1

-- ---- what is elsewhere stays

pub equal-of : (o : Ordering) → is_eq o ≡ true → o ≡ Equal
equal-of Less is = no is
equal-of Equal is = refl
equal-of Greater is = no is

pub hash-from : (one other : ServiceHash) → one.digest ≡ other.digest → one ≡ other
hash-from one other same = ap {B = ServiceHash} (λ d. record { digest = d }) same

pub same-place : (place : List ℕ × ℕ) → place_cmp place place ≡ Equal
same-place place = rw (is-self (slice_cmp nat_cmp) nat_list_cmp_total place.0) (is-self nat_cmp nat_cmp_total place.1)

-- tests of keys that differ
pub apart-of : {K : Type 0} (cmp : K → K → Ordering) → ((x y : K) → cmp x y ≡ Equal → x ≡ y) → (a b : K) → a ≢ b → (k : K)
    → is_at (cmp a) k ≡ true → is_at (cmp b) k ≡ false
apart-of cmp exact a b differ k at = by_test (is_at (cmp b) k)
    (λ also. absurd (differ (exact a k (equal-of (cmp a k) at) ∙ sym (exact b k (equal-of (cmp b k) also))))) (λ isnt. isnt)

-- a hash either is another, or their digests differ
pub by_hash : {P : Type 0} (one other : ServiceHash) → (one ≡ other → P) → (one.digest ≢ other.digest → P) → P
by_hash one other same apart = by_test (is_at (digest_cmp one.digest) other.digest)
    (λ is. same (hash-from one other (digest-exact one.digest other.digest (equal-of (digest_cmp one.digest other.digest) is))))
    (λ isnt. apart (λ is. on (self is ∙ isnt)))
  where
    self : one.digest ≡ other.digest → true ≡ is_at (digest_cmp one.digest) other.digest
    self is = subst (λ d. true ≡ is_at (digest_cmp one.digest) d) is (rw (digest-self one.digest) refl)

module _ (hash other : ServiceHash) (differ : hash.digest ≢ other.digest) where
  hash-apart : (k : List ℕ) → is_at (digest_cmp hash.digest) k ≡ true → is_at (digest_cmp other.digest) k ≡ false
  hash-apart k at = apart-of digest_cmp digest-exact hash.digest other.digest differ k at

  hash-away : is_at (digest_cmp other.digest) hash.digest ≡ false
  hash-away = hash-apart hash.digest (rw (digest-self hash.digest) refl)

  place-differs : (number n : ℕ) → ◌≢◌ {A = List ℕ × ℕ} (hash.digest, number) (other.digest, n)
  place-differs number n same = differ (ap (λ p. p.0) same)

-- the segments of other places
module _ (place other : List ℕ × ℕ) (differ : place ≢ other) where
  pub place-apart : (k : List ℕ × ℕ) → is_at (place_cmp place) k ≡ true → is_at (place_cmp other) k ≡ false
  place-apart k at = apart-of place_cmp place-exact place other differ k at

  pub place-away : is_at (place_cmp other) place ≡ false
  place-away = place-apart place (rw (same-place place) refl)

-- what another hash has is as it was
pub record IsElsewhere (other : ServiceHash) (old new : Contents) : Type 0 where
  pub entry : entry_at other new ≡ entry_at other old
  pub segment : (n : ℕ) → segment_at other n new ≡ segment_at other n old

module _ (hash other : ServiceHash) (differ : hash.digest ≢ other.digest) (old new : Contents) where
  pub elsewhere : (event : Event) → Change event hash old new → IsElsewhere other old new
  elsewhere event (Same is) = record { entry = ap (λ t. entry_at other t) is; segment = λ n. ap (λ t. segment_at other n t) is }
  elsewhere event (LockOf node free is)
      = rw is (record {
        entry
            = insert-apart digest_cmp hash.digest (Locked node old.next) (is_at (digest_cmp other.digest)) (hash-away hash other differ)
            digest-exact old.entries;
        segment = λ n. refl;
      })
  elsewhere event (Without is)
      = rw is (record {
        entry
            = remove-apart (is_at (digest_cmp hash.digest)) (is_at (digest_cmp other.digest)) (hash-apart hash other differ) old.entries;
        segment = λ n. refl;
      })
  elsewhere event (PublishOf node number bytes locked by is)
      = rw is (record {
        entry
            = set-apart (is_at (digest_cmp hash.digest)) (is_at (digest_cmp other.digest)) (hash-apart hash other differ) old.entries
            (Described number bytes);
        segment = λ n. refl;
      })
  elsewhere event (NewSegment number node segment locked is) = rw is (record {
    entry = refl;
    segment = λ n. insert-apart place_cmp (hash.digest, number) segment (is_at (place_cmp (other.digest, n)))
        (place-away (hash.digest, number) (other.digest, n) (place-differs hash other differ number n)) place-exact old.segments;
  })
  elsewhere event (OfSegment number before segment stood room turns is) = rw is (record {
    entry = refl;
    segment = λ n. set-apart (is_at (place_cmp (hash.digest, number))) (is_at (place_cmp (other.digest, n)))
        (place-apart (hash.digest, number) (other.digest, n) (place-differs hash other differ number n)) old.segments segment;
  })
  elsewhere event (WithoutSegment number is) = rw is (record {
    entry = refl;
    segment = λ n. remove-apart (is_at (place_cmp (hash.digest, number))) (is_at (place_cmp (other.digest, n)))
        (place-apart (hash.digest, number) (other.digest, n) (place-differs hash other differ number n)) old.segments;
  })
  elsewhere event (ServiceOf version node number agreed locked by own is) = rw is (record {
    entry = set-apart (is_at (digest_cmp hash.digest)) (is_at (digest_cmp other.digest)) (hash-apart hash other differ) old.entries
        (Described number (line version agreed));
    segment = λ n. insert-apart place_cmp (hash.digest, number) (Open (first_foreign node (max_nodes_of agreed.settings)))
        (is_at (place_cmp (other.digest, n)))
        (place-away (hash.digest, number) (other.digest, n) (place-differs hash other differ number n)) place-exact old.segments;
  })
  elsewhere event (Removal number is) = rw is (record {
    entry = remove-apart (is_at (digest_cmp hash.digest)) (is_at (digest_cmp other.digest)) (hash-apart hash other differ) old.entries;
    segment = λ n. remove-apart (is_at (place_cmp (hash.digest, number))) (is_at (place_cmp (other.digest, n)))
        (place-apart (hash.digest, number) (other.digest, n) (place-differs hash other differ number n)) old.segments;
  })

-- ---- lives

-- the next number never falls
pub rises : (event : Event) (hash : ServiceHash) (old new : Contents) → Change event hash old new → old.next ≤ new.next
rises event hash old new (Same is) = rw is (omega arith)
rises event hash old new (LockOf node free is) = rw is (omega arith)
rises event hash old new (Without is) = rw is (omega arith)
rises event hash old new (PublishOf node number bytes locked by is) = rw is (omega arith)
rises event hash old new (NewSegment number node segment locked is) = rw is (omega arith)
rises event hash old new (OfSegment number before segment stood room turns is) = rw is (omega arith)
rises event hash old new (WithoutSegment number is) = rw is (omega arith)
rises event hash old new (ServiceOf version node number agreed locked by own is) = rw is (omega arith)
rises event hash old new (Removal number is) = rw is (omega arith)
