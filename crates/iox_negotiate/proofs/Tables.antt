-- What is true of every reachable table, whatever happens.
use Rattle.std.proofs.Common.{◌≡◌, ◌≢◌, ℕ, ◌+◌, ◌-◌, ◌^◌, ◌≤◌, ◌<◌, Bool, true, false, cond, not, ◌&&◌, List, [], ◌∷◌, Option, None, Some}
use Rattle.std.proofs.Common.{is_some, Result, Ok, Err, nat_eq, refl, ap, subst, ◌∙◌, inl, inr, arith}
use Rattle.std.specs.List.{AllByRecursion}
use Rattle.std.specs.declared.alloc.AllocError.{AllocError}
use Rattle.std.specs.declared.cmp.Ordering.TheVariants.{Equal}
use Rattle.std.specs.Ordering.{nat_cmp}
use Rattle.std.specs.Cmp.{IsTotalOrder, nat_cmp_total}
use Rattle.std.proofs.lemmas.Cmp.{then_total, on_total}
use Rattle.std.specs.Cmp.Lexicographic.{slice_cmp, nat_list_cmp_total}
use Rattle.std.specs.BTreeMap.{is_at}
use Rattle.std.specs.Map.{lookup}
use Rattle.std.proofs.lemmas.Map.Lookups.{exact_bytes, exact_unsigned, exact_pairs}
use Rattle.iox_negotiate_table.specs.DescribeBase.declared.hash.ServiceHash.{ServiceHash}
use Rattle.iox_negotiate_table.specs.DescribeSettings.Agreement.{Agreement, max_nodes_of, AreWithinLimits}
use Rattle.iox_negotiate_table.specs.DescribeSettings.declared.static_config.Settings.{Settings}
use Rattle.iox_negotiate_table.specs.DescribeSettings.declared.static_config.Settings.TheVariants as settings
use Rattle.iox_negotiate_table.specs.DescribeSettings.declared.static_config.event.Setting.TheVariants as event
use Rattle.iox_negotiate_table.specs.DescribeSettings.declared.static_config.publish_subscribe.Setting.TheVariants as publish_subscribe
use Rattle.iox_negotiate_table.specs.DescribeSettings.declared.static_config.request_response.Setting.TheVariants as request_response
use Rattle.iox_negotiate_table.specs.Describe.Line.{line}
use Rattle.iox_negotiate_table.specs.DescribeSettings.declared.description.Version.{Version}
use Rattle.iox_negotiate_table.specs.DescribeSettings.declared.description.Version.TheVariants.{One, Two}
use Rattle.iox_negotiate_table.specs.NegotiateBase.Access.{Access, Look, Lock, MakeSegment, Publish, Unlock, OpenSegment, Leave}
use Rattle.iox_negotiate_table.specs.NegotiateBase.Access.{RemoveDescription, RemoveSegment}
use Rattle.iox_negotiate_table.specs.NegotiateBase.declared.answer.LockAnswer.{LockAnswer}
use Rattle.iox_negotiate_table.specs.NegotiateBase.declared.answer.MakeSegmentAnswer.{MakeSegmentAnswer}
use Rattle.iox_negotiate_table.specs.NegotiateBase.declared.answer.PublishAnswer.{PublishAnswer}
use Rattle.iox_negotiate_table.specs.NegotiateBase.declared.answer.OpenSegmentAnswer.{OpenSegmentAnswer}
use Rattle.iox_negotiate_table.specs.NegotiateBase.declared.answer.LeaveAnswer.{LeaveAnswer}
use Rattle.iox_negotiate_table.specs.NegotiateBase.declared.answer.RemoveAnswer.{RemoveAnswer}
use Rattle.iox_negotiate_table.specs.declared.node.Node.{Node}
use Rattle.iox_negotiate_table.specs.declared.node.Node.TheVariants.{Own, Foreign}
use Rattle.iox_negotiate_table.specs.declared.entry.Entry.{Entry}
use Rattle.iox_negotiate_table.specs.declared.entry.Entry.TheVariants.{Locked, Described}
use Rattle.iox_negotiate_table.specs.declared.segment.Segment.{Segment}
use Rattle.iox_negotiate_table.specs.declared.segment.Segment.TheVariants.{Open}
use Rattle.iox_negotiate_table.specs.declared.step.ForeignStep.{ForeignStep}
use Rattle.iox_negotiate_table.specs.declared.step.ForeignStep.TheVariants as step
use Rattle.iox_negotiate_table.specs.Nodes.{first_node, first_foreign}
use Rattle.iox_negotiate_table.specs.Segments.{after_leave, after_foreign_leave}
use Rattle.iox_negotiate_table.specs.Contents.{Contents, empty_table, entry_at, segment_at, with_entry, without_entry, with_new_segment}
use Rattle.iox_negotiate_table.specs.Contents.{with_segment, without_segment, with_lock, digest_cmp, place_cmp, may_make, may_publish}
use Rattle.iox_negotiate_table.specs.Contents.{may_unlock, is_own_lock, is_lock_of, is_published, may_remove_description}
use Rattle.iox_negotiate_table.specs.Contents.{may_remove_segment}
use Rattle.iox_negotiate_table.specs.Foreign.{Acts, DoneOrLacking, Done, foreign_lock, published_number, with_service, PublishesForeign}
use Rattle.iox_negotiate_table.specs.Foreign.{RegistersForeign, RegistersAt, after_leaving, left_at, after_removal, is_left_by}
use Rattle.iox_negotiate_table.specs.Sights.{Sight, LocksAt, LocksFree, Makes, Publishes, Unlocks, OpensAt, LeavesAt, Removes}
use Rattle.iox_negotiate_table.proofs.Entries.{is-self}
use Rattle.iox_negotiate.specs.Histories.{Event, Accesses, Steps, Happens, Ran, IsReached}
use Rattle.iox_negotiate_table.specs.Laws.{HasFew}
use Rattle.iox_negotiate_table.proofs.Opening.{opened-is-open}
use Rattle.iox_negotiate.specs.Lives.{number_of, FewAreIn, OpenedStands}
use Rattle.iox_negotiate.proofs.Maps.{no, on, insert-all, remove-all, set-all, set-found, found-all, weaker, none-passes, Rising}
use Rattle.iox_negotiate.proofs.Maps.{insert-rising, remove-rising, set-rising, Distinct, insert-distinct, remove-distinct, set-distinct}
use Rattle.iox_negotiate.proofs.Seats.{IsSeat, opens-seat, leave-seat, register-seat, foreign-leave-seat}
use Rattle.iox_negotiate.proofs.Few.{IsFew, opens-few, leave-few, register-few, foreign-leave-few}

-- Each life's number is below the next one, each hash and each number occurs once, and no segment has too many nodes.
pub record IsTable (table : Contents) : Type 0 where
  pub below : AllByRecursion (λ e. number_of e.1 < table.next) table.entries
  pub keys : Distinct (λ e. e.0) table.entries
  pub numbers : Distinct (λ e. number_of e.1) table.entries
  pub few : AllByRecursion (λ e. IsFew e.1) table.segments
  pub places : Rising place_cmp table.segments
  pub seats : AllByRecursion (λ e. IsSeat e.1) table.segments

pub digest-exact : (x y : List ℕ) → digest_cmp x y ≡ Equal → x ≡ y
digest-exact x y same = exact_bytes x y same

pub place-exact : (x y : List ℕ × ℕ) → place_cmp x y ≡ Equal → x ≡ y
place-exact x y same = exact_pairs (slice_cmp nat_cmp) nat_cmp exact_bytes exact_unsigned x y same

pub place-total : IsTotalOrder place_cmp
place-total = then_total (on_total (λ (p : List ℕ × ℕ). p.0) nat_list_cmp_total) (on_total (λ (p : List ℕ × ℕ). p.1) nat_cmp_total)

pub digest-self : (k : List ℕ) → digest_cmp k k ≡ Equal
digest-self k = is-self (slice_cmp nat_cmp) nat_list_cmp_total k

pub new-table : (id : ℕ) → IsTable (empty_table id)
new-table id = record { below = tt; keys = tt; numbers = tt; few = tt; places = tt; seats = tt }

-- a hash under which nothing lies differs from each
free-keys : (hash : ServiceHash) (es : List (List ℕ × Entry)) → AllByRecursion (λ e. is_at (digest_cmp hash.digest) e.0 ≡ false) es
    → AllByRecursion (λ e. e.0 ≢ hash.digest) es
free-keys hash [] all = tt
free-keys hash (e ∷ es) all = ((λ same. on (passes same ∙ all.0)), free-keys hash es all.1)
  where
    passes : e.0 ≡ hash.digest → true ≡ is_at (digest_cmp hash.digest) e.0
    passes same = rw same (rw (digest-self hash.digest) refl)

-- a new number differs from each
fresh : (next : ℕ) (es : List (List ℕ × Entry)) → AllByRecursion (λ e. number_of e.1 < next) es
    → AllByRecursion (λ e. number_of e.1 ≢ next) es
fresh next [] all = tt
fresh next (e ∷ es) all = ((λ same. absurd (omega (arith, same, all.0))), fresh next es all.1)

module _ (hash : ServiceHash) (old : Contents) (table : IsTable old) where
  pub lock-table : (node : Node) → entry_at hash old ≡ None → IsTable (with_lock hash node old)
  lock-table node free = record {
    below = insert-all (λ e. number_of e.1 < old.next + 1) digest_cmp hash.digest (Locked node old.next) digest-exact old.entries
        (weaker (λ e. number_of e.1 < old.next) (λ e. number_of e.1 < old.next + 1) (λ e less. omega (arith, less)) old.entries
        table.below) (omega arith);
    keys = insert-distinct (λ e. e.0) digest_cmp hash.digest (Locked node old.next) digest-exact old.entries table.keys
        (free-keys hash old.entries (none-passes (is_at (digest_cmp hash.digest)) old.entries free));
    numbers = insert-distinct (λ e. number_of e.1) digest_cmp hash.digest (Locked node old.next) digest-exact old.entries table.numbers
        (fresh old.next old.entries table.below);
    few = table.few;
    places = table.places;
    seats = table.seats;
  }

  pub without-table : IsTable (without_entry hash old)
  without-table = record {
    below = remove-all (λ e. number_of e.1 < old.next) (is_at (digest_cmp hash.digest)) old.entries table.below;
    keys = remove-distinct (λ e. e.0) (is_at (digest_cmp hash.digest)) old.entries table.keys;
    numbers = remove-distinct (λ e. number_of e.1) (is_at (digest_cmp hash.digest)) old.entries table.numbers;
    few = table.few;
    places = table.places;
    seats = table.seats;
  }

  pub publish-table : (node : Node) (number : ℕ) (bytes : List ℕ) → entry_at hash old ≡ Some (Locked node number)
      → IsTable (with_entry hash (Described number bytes) old)
  publish-table node number bytes locked = record {
    below = set-found (λ e. number_of e.1 < old.next) (is_at (digest_cmp hash.digest)) (Described number bytes) old.entries
        (λ x v found less. subst (λ n. n < old.next) (same x v found) less) table.below;
    keys = set-distinct (λ e. e.0) (is_at (digest_cmp hash.digest)) (Described number bytes) old.entries (λ x v found. refl) table.keys;
    numbers = set-distinct (λ e. number_of e.1) (is_at (digest_cmp hash.digest)) (Described number bytes) old.entries same table.numbers;
    few = table.few;
    places = table.places;
    seats = table.seats;
  }
    where
      value : (v : Entry) → Some v ≡ Some (Locked node number) → number_of v ≡ number
      value v is = cc

      same : (x : List ℕ) (v : Entry) → lookup (is_at (digest_cmp hash.digest)) old.entries ≡ Some v → number_of v ≡ number
      same x v found = value v (rw (← found) locked)

  module _ (number : ℕ) (segment : Segment) (few : IsFew segment) (seat : IsSeat segment) where
    pub new-segment-table : IsTable (with_new_segment hash number segment old)
    new-segment-table = record {
      below = table.below;
      keys = table.keys;
      numbers = table.numbers;
      few = insert-all (λ e. IsFew e.1) place_cmp (hash.digest, number) segment place-exact old.segments table.few few;
      places = insert-rising place_cmp place-total place-exact (hash.digest, number) segment old.segments table.places;
      seats = insert-all (λ e. IsSeat e.1) place_cmp (hash.digest, number) segment place-exact old.segments table.seats seat;
    }

    pub segment-table : IsTable (with_segment hash number segment old)
    segment-table = record {
      below = table.below;
      keys = table.keys;
      numbers = table.numbers;
      few = set-all (λ e. IsFew e.1) (is_at (place_cmp (hash.digest, number))) segment (λ x is. few) old.segments table.few;
      places = set-rising place_cmp place-total place-exact (is_at (place_cmp (hash.digest, number))) segment old.segments table.places;
      seats = set-all (λ e. IsSeat e.1) (is_at (place_cmp (hash.digest, number))) segment (λ x is. seat) old.segments table.seats;
    }

  pub without-segment-table : (number : ℕ) → IsTable (without_segment hash number old)
  without-segment-table number = record {
    below = table.below;
    keys = table.keys;
    numbers = table.numbers;
    few = remove-all (λ e. IsFew e.1) (is_at (place_cmp (hash.digest, number))) old.segments table.few;
    places = remove-rising place_cmp place-total place-exact (is_at (place_cmp (hash.digest, number))) old.segments table.places;
    seats = remove-all (λ e. IsSeat e.1) (is_at (place_cmp (hash.digest, number))) old.segments table.seats;
  }

  -- each own node lies once in the segment that is found
  pub seat-found : (number : ℕ) (segment : Segment) → segment_at hash number old ≡ Some segment → IsSeat segment
  seat-found number segment found = (found-all (λ e. IsSeat e.1) (is_at (place_cmp (hash.digest, number))) old.segments segment
      table.seats found).2

  -- few are in the segment that is found
  pub few-found : (number : ℕ) (segment : Segment) → segment_at hash number old ≡ Some segment → IsFew segment
  few-found number segment found = (found-all (λ e. IsFew e.1) (is_at (place_cmp (hash.digest, number))) old.segments segment table.few
      found).2

-- equal tables
pub unchanged : (old new : Contents) → IsTable old → new ≡ old → IsTable new
unchanged old new table is = rw is table

-- an own lock is a lock
pub own-lock : (number : ℕ) (entry : Option Entry) (b : Bool) → (is_own_lock number entry && b) ≡ true → (node : ℕ)
    × (entry ≡ Some (Locked (Own node) number))
own-lock number None b is = no is
own-lock number (Some (Described at bytes)) b is = no is
own-lock number (Some (Locked (Foreign node) at)) b is = no is
own-lock number (Some (Locked (Own node) at)) b is = let same : at ≡ number
    = grind (arith, is) in (node, ap (λ n. Some (Locked (Own node) n)) same)

-- the lock of this own node
pub lock-of : (number node : ℕ) (entry : Option Entry) (b : Bool) → (is_lock_of node number entry && b) ≡ true
    → entry ≡ Some (Locked (Own node) number)
lock-of number node None b is = no is
lock-of number node (Some (Described at bytes)) b is = no is
lock-of number node (Some (Locked (Foreign by) at)) b is = no is
lock-of number node (Some (Locked (Own by) at)) b is = let who : by ≡ node = grind (arith, is) in let which : at ≡ number
    = grind (arith, is) in cc

module _ (hash : ServiceHash) (old new : Contents) (table : IsTable old) where
  locks : (node : Node) (answer : LockAnswer) (found : Option Entry) → entry_at hash old ≡ found
      → LocksAt found hash node old answer new → IsTable new
  locks node answer None free h = taken (nat_eq old.next (2 ^ 64 - 1)) h
    where
      taken : (b : Bool) → LocksFree b hash node old answer new → IsTable new
      taken true h = unchanged old new table h.1
      taken false (inl h) = rw h.1 (lock-table hash old table node free)
      taken false (inr h) = unchanged old new table h.1
  locks node answer (Some (Locked by number)) free h = unchanged old new table h.1
  locks node answer (Some (Described number bytes)) free h = unchanged old new table h.1

  makes : (number node max_nodes : ℕ) (answer : MakeSegmentAnswer) (b : Bool) → may_make hash number node max_nodes old ≡ b
      → Makes b hash number node max_nodes old answer new → IsTable new
  makes number node max_nodes answer true may (inl h) =
      let room : 1 ≤ max_nodes = grind (arith, may) in rw h.1
      (new-segment-table hash old table number (Open (first_node node max_nodes)) (omega (arith, room)) (tt, tt))
  makes number node max_nodes answer true may (inr h) = unchanged old new table h.1
  makes number node max_nodes answer false may h = unchanged old new table h.1

  publishes : (number : ℕ) (bytes : List ℕ) (answer : PublishAnswer) (b : Bool) → may_publish hash number old ≡ b
      → Publishes b hash number bytes old answer new → IsTable new
  publishes number bytes answer true may (inl h) =
      let locked = own-lock number (entry_at hash old) (is_some (segment_at hash number old)) may in rw h.1
      (publish-table hash old table (Own locked.0) number bytes locked.1)
  publishes number bytes answer true may (inr h) = unchanged old new table h.1
  publishes number bytes answer false may h = unchanged old new table h.1

  unlocks : (b : Bool) → Unlocks b hash old new → IsTable new
  unlocks true h = rw h (without-table hash old table)
  unlocks false h = unchanged old new table h

  opens : (number node : ℕ) (answer : OpenSegmentAnswer) (b : Bool) (found : Option Segment) → segment_at hash number old ≡ found
      → OpensAt b found hash number node old answer new → IsTable new
  opens number node answer true (Some segment) stands h
      = rw h.2 (segment-table hash old table number h.0
      (opens-few node segment h.0 answer (few-found hash old table number segment stands) h.1)
      (opens-seat node segment h.0 answer (seat-found hash old table number segment stands) h.1))
  opens number node answer true None stands h = unchanged old new table h.1
  opens number node answer false found stands h = unchanged old new table h.1

  leaves : (number node : ℕ) (answer : LeaveAnswer) (b : Bool) (found : Option Segment) → segment_at hash number old ≡ found
      → LeavesAt b found hash number node old answer new → IsTable new
  leaves number node answer true (Some segment) stands h
      = rw h.1 (segment-table hash old table number (after_leave node segment)
      (leave-few node segment (few-found hash old table number segment stands))
      (leave-seat node segment (seat-found hash old table number segment stands)))
  leaves number node answer true None stands h = unchanged old new table h.1
  leaves number node answer false found stands h = unchanged old new table h.1

  removes : (without : Contents) (answer : RemoveAnswer) (b : Bool) → IsTable without → Removes b without old answer new → IsTable new
  removes without answer true kept h = rw h.1 kept
  removes without answer false kept h = unchanged old new table h.1

  locks-foreign : (node : ℕ) (result : Result (Unit {0}) AllocError) (found : Option Entry) (b : Bool) → entry_at hash old ≡ found
      → DoneOrLacking (not (is_some found) && b) (with_lock hash (Foreign node) old) old result new → IsTable new
  locks-foreign node (Ok done) None true free h = rw h (lock-table hash old table (Foreign node) free)
  locks-foreign node (Err lacking) None true free h = unchanged old new table h
  locks-foreign node (Ok done) None false free h = unchanged old new table h
  locks-foreign node (Err lacking) None false free h = absurd h
  locks-foreign node (Ok done) (Some entry) b free h = unchanged old new table h
  locks-foreign node (Err lacking) (Some entry) b free h = absurd h

  gives-up : (result : Result (Unit {0}) AllocError) (b : Bool) → Done b (without_entry hash old) old result new → IsTable new
  gives-up result true h = rw h.1 (without-table hash old table)
  gives-up result false h = unchanged old new table h.1

  registers-foreign : (number node : ℕ) (result : Result (Unit {0}) AllocError) (found : Option Segment)
      → segment_at hash number old ≡ found → RegistersAt found hash number node old result new → IsTable new
  registers-foreign number node result (Some segment) stands h
      = rw h.2 (segment-table hash old table number h.0
      (register-few node segment h.0 result (few-found hash old table number segment stands) h.1)
      (register-seat node segment h.0 result (seat-found hash old table number segment stands) h.1))
  registers-foreign number node result None stands h = unchanged old new table h.1

  registers-at : (node : ℕ) (result : Result (Unit {0}) AllocError) (found : Option ℕ) → RegistersForeign found hash node old result new
      → IsTable new
  registers-at node result (Some number) h = registers-foreign number node result (segment_at hash number old) refl h
  registers-at node result None h = unchanged old new table h.1

  leaves-foreign : (number node : ℕ) (found : Option Segment) → segment_at hash number old ≡ found
      → new ≡ left_at found hash number node old → IsTable new
  leaves-foreign number node (Some segment) stands h
      = rw h (segment-table hash old table number (after_foreign_leave node segment)
      (foreign-leave-few node segment (few-found hash old table number segment stands))
      (foreign-leave-seat node segment (seat-found hash old table number segment stands)))
  leaves-foreign number node None stands h = unchanged old new table h

  leaves-number : (node : ℕ) (found : Option ℕ) → new ≡ after_leaving found hash node old → IsTable new
  leaves-number node (Some number) h = leaves-foreign number node (segment_at hash number old) refl h
  leaves-number node None h = unchanged old new table h

  removes-foreign : (number : ℕ) (b : Bool) → new ≡ cond b (without_segment hash number (without_entry hash old)) old → IsTable new
  removes-foreign number true h = rw h (without-segment-table hash (without_entry hash old) (without-table hash old table) number)
  removes-foreign number false h = unchanged old new table h

  removes-number : (node : ℕ) (found : Option ℕ) → new ≡ after_removal found hash node old → IsTable new
  removes-number node (Some number) h = removes-foreign number (is_left_by node (segment_at hash number old)) h
  removes-number node None h = unchanged old new table h

-- the lock of a foreign node
pub foreign-locked : (node number : ℕ) (entry : Option Entry) → foreign_lock node entry ≡ Some number
    → entry ≡ Some (Locked (Foreign node) number)
foreign-locked node number None is = absurd (differ is)
  where
    differ : None ≡ Some number → ⊥
    differ e = cc
foreign-locked node number (Some (Described at bytes)) is = absurd (differ is)
  where
    differ : None ≡ Some number → ⊥
    differ e = cc
foreign-locked node number (Some (Locked (Own by) at)) is = absurd (differ is)
  where
    differ : None ≡ Some number → ⊥
    differ e = cc
foreign-locked node number (Some (Locked (Foreign by) at)) is = there (nat_eq by node) refl is
  where
    there : (b : Bool) → nat_eq by node ≡ b → cond b (Some at) None ≡ Some number
        → Some (Locked (Foreign by) at) ≡ Some (Locked (Foreign node) number)
    there true same is = let who : by ≡ node = grind (arith, same) in cc
    there false same is = cc

-- a description within the limits has room for a node
pub room-of : (settings : Settings) → AreWithinLimits settings → 1 ≤ max_nodes_of settings
room-of (settings.RequestResponse c) within = (within 7 request_response.MaxNodes (omega arith)).0
room-of (settings.PublishSubscribe c) within = (within 2 publish_subscribe.MaxNodes (omega arith)).0
room-of (settings.Event c) within = (within 3 event.MaxNodes (omega arith)).0

publishes-foreign : (version : Version) (hash : ServiceHash) (old new : Contents) (node : ℕ) (result : Result (Unit {0}) AllocError)
    (agreed : Agreement)
    → IsTable old → (found : Option ℕ) → foreign_lock node (entry_at hash old) ≡ found
    → PublishesForeign version found hash node agreed old result new → IsTable new
publishes-foreign version hash old new node result agreed table None lock h = unchanged old new table h.1
publishes-foreign version hash old new node result agreed table (Some number) lock h = there h.0 result (λ is. (h.1.0 is).0.limits) h.2
  where
    seat : Segment
    seat = Open (first_foreign node (max_nodes_of agreed.settings))

    whole : 1 ≤ max_nodes_of agreed.settings → IsTable (with_service version hash number node agreed old)
    whole room = publish-table hash (with_new_segment hash number seat old)
        (new-segment-table hash old table number seat (omega (arith, room)) tt) (Foreign node) number (line version agreed)
        (foreign-locked node number (entry_at hash old) lock)

    there : (b : Bool) (result : Result (Unit {0}) AllocError) → (b ≡ true → AreWithinLimits agreed.settings)
        → DoneOrLacking b (with_service version hash number node agreed old) old result new → IsTable new
    there true (Ok done) within h = rw h (whole (room-of agreed.settings (within refl)))
    there true (Err lacking) within h = unchanged old new table h
    there false (Ok done) within h = unchanged old new table h
    there false (Err lacking) within h = absurd h

module _ (old new : Contents) (table : IsTable old) where
  pub sees : (access : Access) → Sight old access new → IsTable new
  sees (Look hash answer) h = unchanged old new table h.1
  sees (Lock hash node answer) h = locks hash old new table (Own node) answer (entry_at hash old) refl h
  sees (MakeSegment hash number node max_nodes answer) h
      = makes hash old new table number node max_nodes answer (may_make hash number node max_nodes old) refl h
  sees (Publish hash number bytes answer) h = publishes hash old new table number bytes answer (may_publish hash number old) refl h
  sees (Unlock hash number) h = unlocks hash old new table (may_unlock hash number old) h
  sees (OpenSegment hash number node answer) h
      = opens hash old new table number node answer (is_published hash number old) (segment_at hash number old) refl h
  sees (Leave hash number node answer) h
      = leaves hash old new table number node answer (is_published hash number old) (segment_at hash number old) refl h
  sees (RemoveDescription hash number answer) h
      = removes hash old new table (without_entry hash old) answer (may_remove_description hash number old) (without-table hash old table) h
  sees (RemoveSegment hash number answer) h
      = removes hash old new table (without_segment hash number old) answer (may_remove_segment hash number old)
      (without-segment-table hash old table number) h

  pub acts : (hash : ServiceHash) (step : ForeignStep) (result : Result (Unit {0}) AllocError) → Acts hash step old result new → IsTable new
  acts hash (step.Lock node) result h
      = locks-foreign hash old new table node result (entry_at hash old) (not (nat_eq old.next (2 ^ 64 - 1))) refl h
  acts hash (step.GiveUp node) result h = gives-up hash old new table result (is_some (foreign_lock node (entry_at hash old))) h
  acts hash (step.Publish node agreed) result h
      = publishes-foreign Two hash old new node result agreed table (foreign_lock node (entry_at hash old)) refl h
  acts hash (step.PublishV1 node agreed) result h
      = publishes-foreign One hash old new node result agreed table (foreign_lock node (entry_at hash old)) refl h
  acts hash (step.Register node) result h = registers-at hash old new table node result (published_number (entry_at hash old)) h
  acts hash (step.Leave node) result h = leaves-number hash old new table node (published_number (entry_at hash old)) h.1
  acts hash (step.Remove node) result h = removes-number hash old new table node (published_number (entry_at hash old)) h.1

  pub happens : (event : Event) → Happens old event new → IsTable new
  happens (Accesses access) h = sees access h
  happens (Steps hash step) h = acts hash step h.0 h.1

pub runs : (events : List Event) (old new : Contents) → IsTable old → Ran old events new → IsTable new
runs [] old new table ran = unchanged old new table ran
runs (event ∷ events) old new table ran = runs events ran.0 new (happens old ran.0 table event ran.1) ran.2

-- every table that can be reached
pub reached : (table : Contents) → IsReached table → IsTable table
reached table r = runs r.events (empty_table r.id) table (new-table r.id) r.ran

pub has-few : (table : Contents) (hash : ServiceHash) (number : ℕ) → IsTable table → HasFew hash number table
has-few table hash number is nodes stands = few-found hash table is number (Open nodes) stands

pub reached-few : FewAreIn
reached-few table hash number r = has-few table hash number (reached table r)

pub opened-stands : OpenedStands
opened-stands hash number node old new r opened = opened-is-open hash number node old new (reached-few old hash number r) opened
