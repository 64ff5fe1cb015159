-- A lock of a node of the hub, what is made under it, and what is taken back.
use Rattle.std.proofs.Common.{◌≡◌, ℕ, ◌+◌, ◌-◌, ◌^◌, ◌≤◌, Bool, true, false, not, ◌&&◌, List, [], ◌∷◌, ◌++◌, Option, None, Some, is_some}
use Rattle.std.proofs.Common.{Result, Ok, Err, length, nat_eq, refl, sym, subst, ◌∙◌, ◌⊎◌, inl, inr, arith}
use Rattle.std.proofs.lemmas.Bool.{eq-eqb, eqb-true, lt-ltb}
use Rattle.std.specs.BTreeMap.{is_at}
use Rattle.std.specs.declared.alloc.AllocError.{AllocError}
use Rattle.iox_command.specs.NegotiateBase.Describe.Line.{line}
use Rattle.iox_command.specs.NegotiateBase.DescribeSettings.declared.description.Version.TheVariants.{One, Two}
use Rattle.iox_command.specs.NegotiateBase.Describe.Within.{IsWithinLimits}
use Rattle.iox_command.specs.NegotiateBase.DescribeBase.Hash.{service_hash_of}
use Rattle.iox_command.specs.NegotiateBase.DescribeBase.declared.hash.ServiceHash.{ServiceHash}
use Rattle.iox_command.specs.NegotiateBase.DescribeBase.declared.pattern.MessagingPattern.{MessagingPattern}
use Rattle.iox_command.specs.NegotiateBase.DescribeSettings.Agreement.{Agreement as Description, max_nodes_of, pattern_of}
use Rattle.iox_machine.specs.Agreement.{Agreement}
use Rattle.iox_machine.specs.Phase.{Own, Absent, Published, same_node}
use Rattle.iox_negotiate.proofs.Changes.{hash_of, place-apart, place-away, same-place}
use Rattle.iox_negotiate.proofs.Closing.{entry-gone, segment-gone}
use Rattle.iox_negotiate.proofs.Maps.{by_test, insert-apart, on, remove-apart}
use Rattle.iox_negotiate.proofs.Tables.{place-exact, reached}
use Rattle.iox_negotiate.specs.Histories.{Accesses}
use Rattle.iox_negotiate_machine.proofs.Acted.{Leaves, left-by, left-then}
use Rattle.iox_negotiate_machine.proofs.Acting.{places-apart}
use Rattle.iox_negotiate_machine.proofs.Limits.{and-true}
use Rattle.iox_negotiate_machine.proofs.Preceding.{Ends}
use Rattle.iox_negotiate_machine.specs.Standing.{AreFalling, IsLast, NodesStand, description_of}
use Rattle.iox_negotiate_table.proofs.Entries.{lookup-added, lookup-set}
use Rattle.iox_negotiate_table.specs.Contents.{Contents, entry_at, segment_at, digest_cmp, is_description_of, is_lock_of, is_own_lock}
use Rattle.iox_negotiate_table.specs.Contents.{may_make, may_publish, may_remove_segment, may_unlock, place_cmp, with_entry, with_lock}
use Rattle.iox_negotiate_table.specs.Contents.{with_new_segment, without_entry, without_segment}
use Rattle.iox_negotiate_table.specs.Foreign.{Acts, Done, DoneOrLacking, PublishesForeign, RegistersForeign, after_leaving, after_removal}
use Rattle.iox_negotiate_table.specs.Foreign.{foreign_lock, published_number}
use Rattle.iox_negotiate_table.specs.NegotiateBase.Access.{Access, MakeSegment, Publish, RemoveSegment, Unlock}
use Rattle.iox_negotiate_table.specs.NegotiateBase.Creating as creating
use Rattle.iox_negotiate_table.specs.NegotiateBase.Failing.{brought_about, making_failure, publishing_failure}
use Rattle.iox_negotiate_table.specs.NegotiateBase.Runs.{Went}
use Rattle.iox_negotiate_table.specs.NegotiateBase.declared.answer.MakeSegmentAnswer.{MakeSegmentAnswer}
use Rattle.iox_negotiate_table.specs.NegotiateBase.declared.answer.MakeSegmentAnswer.TheVariants as making
use Rattle.iox_negotiate_table.specs.NegotiateBase.declared.answer.PublishAnswer.{PublishAnswer}
use Rattle.iox_negotiate_table.specs.NegotiateBase.declared.answer.PublishAnswer.TheVariants as publishing
use Rattle.iox_negotiate_table.specs.NegotiateBase.declared.answer.RemoveAnswer.{RemoveAnswer}
use Rattle.iox_negotiate_table.specs.NegotiateBase.declared.creation.Attempt.{Attempt}
use Rattle.iox_negotiate_table.specs.NegotiateBase.declared.creation.Attempt.TheVariants.{Made, Failed}
use Rattle.iox_negotiate_table.specs.NegotiateBase.declared.failure.CreateFailure.TheVariants.{OutOfMemory}
use Rattle.iox_negotiate_table.specs.Nodes.{first_node}
use Rattle.iox_negotiate_table.specs.Sights as sights
use Rattle.iox_negotiate_table.specs.Sights.{Sight}
use Rattle.iox_negotiate_table.specs.Stepped.{ActsAll, GoesOn, Preceded, Steps, SteppedSight, next_list}
use Rattle.iox_negotiate_table.specs.declared.entry.Entry.{Entry}
use Rattle.iox_negotiate_table.specs.declared.entry.Entry.TheVariants.{Locked, Described}
use Rattle.iox_negotiate_table.specs.declared.node.Node.TheVariants as table_node
use Rattle.iox_negotiate_table.specs.declared.segment.Segment.{Segment}
use Rattle.iox_negotiate_table.specs.declared.segment.Segment.TheVariants as segment
use Rattle.iox_negotiate_table.specs.declared.step.ForeignStep.{ForeignStep as TableStep}
use Rattle.iox_negotiate_table.specs.declared.step.ForeignStep.TheVariants as table_step

-- ---- steps of nodes outside the hub do nothing under a lock of it

module _ (hash : ServiceHash) (node number : ℕ) where
  quiet-step : (step : TableStep) (old new : Contents) (result : Result (Unit {0}) AllocError)
      → entry_at hash old ≡ Some (Locked (table_node.Own node) number) → Acts hash step old result new → (result ≡ Ok tt) × (new ≡ old)
  quiet-step (table_step.Lock by) old new result lies h =
      there result (subst (λ (e : Option Entry). DoneOrLacking (not (is_some e) && not (nat_eq old.next (2 ^ 64 - 1)))
      (with_lock hash (table_node.Foreign by) old) old result new) lies h)
    where
      there : (result : Result (Unit {0}) AllocError) → DoneOrLacking false (with_lock hash (table_node.Foreign by) old) old result new
          → (result ≡ Ok tt) × (new ≡ old)
      there (Ok done) h = (refl, h)
      there (Err lacking) h = absurd h
  quiet-step (table_step.GiveUp by) old new result lies h =
      subst (λ (e : Option Entry). Done (is_some (foreign_lock by e)) (without_entry hash old) old result new) lies h
  quiet-step (table_step.Publish by agreed) old new result lies h =
      subst (λ (e : Option Entry). PublishesForeign Two (foreign_lock by e) hash by agreed old result new) lies h
  quiet-step (table_step.PublishV1 by agreed) old new result lies h =
      subst (λ (e : Option Entry). PublishesForeign One (foreign_lock by e) hash by agreed old result new) lies h
  quiet-step (table_step.Register by) old new result lies h =
      subst (λ (e : Option Entry). RegistersForeign (published_number e) hash by old result new) lies h
  quiet-step (table_step.Leave by) old new result lies h =
      (h.0, subst (λ (e : Option Entry). new ≡ after_leaving (published_number e) hash by old) lies h.1)
  quiet-step (table_step.Remove by) old new result lies h =
      (h.0, subst (λ (e : Option Entry). new ≡ after_removal (published_number e) hash by old) lies h.1)

  quiet-steps : (steps : List TableStep) (old new : Contents) (result : Result (Unit {0}) AllocError)
      → entry_at hash old ≡ Some (Locked (table_node.Own node) number) → ActsAll hash steps old result new → (result ≡ Ok tt) × (new ≡ old)
  quiet-steps [] old new result lies h = h
  quiet-steps (step ∷ steps) old new result lies (mid, first, acts, rest) =
      let one = quiet-step step old mid first lies acts in
      let went : ActsAll hash steps mid result new =
      subst (λ (r : Result (Unit {0}) AllocError). GoesOn r (ActsAll hash steps mid result new) ((result ≡ r) × (new ≡ mid))) one.0 rest in
      quiet-steps steps old new result lies (subst (λ (t : Contents). ActsAll hash steps t result new) one.1 went)

  -- so a storage operation sees the table that the one before it left
  quiet-access : (access : Access) (lacking : Type 0) (before after : Steps)
      → entry_at hash before.table ≡ Some (Locked (table_node.Own node) number) → Preceded hash access lacking before after
      → Sight before.table access after.table
  quiet-access access lacking before after lies (mid, happened, acts, goes, lists) =
      let none = quiet-steps (next_list before.lists) before.table mid happened lies acts in
      subst (λ (t : Contents). Sight t access after.table) none.1
      (subst (λ (r : Result (Unit {0}) AllocError). GoesOn r (Sight mid access after.table) (lacking × (after.table ≡ mid))) none.0 goes)

-- ---- what a node does that has a lock

module _ (pattern : MessagingPattern) (name : List ℕ) (old : Contents) (taken : List ℕ) (node number lives : ℕ) where
  abbrev hash : ServiceHash
  hash = service_hash_of pattern name

  -- The node has the lock with this number, after `lives` earlier lives of the service; this is its segment, and the hash has no
  -- other.
  pub record HasLock (made : Option Segment) (table : Contents) : Type 0 where
    pub leaves : Leaves hash old table
    pub more : List ℕ
    pub lived : lives ≡ length (more ++ taken)
    pub falling : AreFalling table.next (number ∷ more ++ taken)
    pub lies : entry_at hash table ≡ Some (Locked (table_node.Own node) number)
    pub seat : segment_at hash number table ≡ made
    pub others : (n : ℕ) → nat_eq number n ≡ false → segment_at hash n table ≡ None

  itself : nat_eq number number ≡ true
  itself = eq-eqb number number refl

  -- a storage operation of the node under its lock
  then-leaves : (access : Access) (made : Option Segment) (table after : Contents) → HasLock made table → Sight table access after
      → Leaves (hash_of (Accesses access)) table after
  then-leaves access made table after lock sight = left-by (Accesses access) table after lock.leaves.reached sight

  -- no segment lies under the hash where the lock's own doesn't
  none-lies : (table : Contents) → HasLock None table → (n : ℕ) → segment_at hash n table ≡ None
  none-lies table lock n = by_test (nat_eq number n)
      (λ same. subst (λ (m : ℕ). segment_at hash m table ≡ None) (eqb-true number n same) lock.seat)
      (λ differ. lock.others n differ)

  -- ---- taking back

  unlocked : (table after : Contents) → HasLock None table → Sight table (Unlock hash number) after
      → Ends pattern name old taken after (Absent (lives + 1))
  unlocked table after lock sight = there (may_unlock hash number table) may sight
    where
      may : may_unlock hash number table ≡ true
      may = and-true _ _ (subst (λ (e : Option Entry). is_own_lock number e ≡ true) (sym lock.lies) itself)
          (subst (λ (s : Option Segment). not (is_some s) ≡ true) (sym lock.seat) refl)

      there : (b : Bool) → b ≡ true → sights.Unlocks b hash table after → Ends pattern name old taken after (Absent (lives + 1))
      there false is h = on (sym is)
      there true is h = record {
        leaves = left-then hash old table after lock.leaves (then-leaves (Unlock hash number) None table after lock sight);
        more = number ∷ lock.more;
        stands = rw h (record {
          lives = omega (arith, lock.lived);
          falling = lock.falling;
          lies = entry-gone hash table (reached table lock.leaves.reached);
          segments = λ n isnt. none-lies table lock n;
        });
      }

  segment-removed : (some : Segment) (answer : RemoveAnswer) (table after : Contents) → HasLock (Some some) table
      → Sight table (RemoveSegment hash number answer) after → HasLock None after
  segment-removed some answer table after lock sight = there (may_remove_segment hash number table) may sight
    where
      may : may_remove_segment hash number table ≡ true
      may = and-true _ _ (subst (λ (e : Option Entry). not (is_description_of number e) ≡ true) (sym lock.lies) refl)
          (subst (λ (s : Option Segment). is_some s ≡ true) (sym lock.seat) refl)

      there : (b : Bool) → b ≡ true → sights.Removes b (without_segment hash number table) table answer after → HasLock None after
      there false is h = on (sym is)
      there true is h = record {
        leaves = left-then hash old table after lock.leaves
            (then-leaves (RemoveSegment hash number answer) (Some some) table after lock sight);
        more = lock.more;
        lived = lock.lived;
        falling = rw h.1 lock.falling;
        lies = rw h.1 lock.lies;
        seat = rw h.1 (segment-gone hash number table (reached table lock.leaves.reached));
        others = rw h.1 (λ n differ. remove-apart (is_at (place_cmp (hash.digest, number))) (is_at (place_cmp (hash.digest, n)))
            (place-apart (hash.digest, number) (hash.digest, n) (places-apart hash number n differ)) table.segments
            ∙ lock.others n differ);
      }

  unlocks : (made : List Access) (start end : Steps) → HasLock None start.table → creating.Unlocks hash number made
      → Went SteppedSight start made end → Ends pattern name old taken end.table (Absent (lives + 1))
  unlocks (Unlock under of ∷ rest) start end lock (own, same, none) (mid, sight, went) =
      subst (λ (s : Steps). Ends pattern name old taken s.table (Absent (lives + 1)))
      (sym (subst (λ (l : List Access). Went SteppedSight mid l end) none went))
      (unlocked start.table mid.table lock
      (subst (λ (n : ℕ). Sight start.table (Unlock hash n) mid.table) same
      (subst (λ (h : ServiceHash). Sight start.table (Unlock h of) mid.table) own sight.0)))
  unlocks made start end lock told went = absurd told

  undoes : (some : Segment) (made : List Access) (start end : Steps) → HasLock (Some some) start.table → creating.Undoes hash number made
      → Went SteppedSight start made end → Ends pattern name old taken end.table (Absent (lives + 1))
  undoes some (RemoveSegment under of answer ∷ rest) start end lock (own, same, more) (mid, sight, went) =
      unlocks rest mid end
      (segment-removed some answer start.table mid.table lock
      (subst (λ (n : ℕ). Sight start.table (RemoveSegment hash n answer) mid.table) same
      (subst (λ (h : ServiceHash). Sight start.table (RemoveSegment h of answer) mid.table) own sight.0))) more went
  undoes some made start end lock told went = absurd told

  -- ---- making

  module _ (agreed : Agreement) (kind : pattern_of agreed.settings ≡ pattern) (within : IsWithinLimits (description_of pattern name agreed))
      (room : 1 ≤ max_nodes_of agreed.settings) where
    abbrev description : Description
    description = description_of pattern name agreed

    abbrev first : Segment
    first = segment.Open (first_node node (max_nodes_of agreed.settings))

    -- the service is published, under the number of the lock
    abbrev pub IsPublished : Contents → Type 0
    IsPublished table =
        (ends : Ends pattern name old taken table (Published (lives + 1) agreed ((Own node, 1) ∷ [])))
        × IsLast (λ last. number ≡ last) (ends.more ++ taken)

    -- The service is made; or memory runs out, and the lock is given up.
    abbrev pub Makes : Attempt → Contents → Type 0
    Makes attempt table =
        ((attempt ≡ Made (brought_about number description)) × IsPublished table)
        ⊎ ((attempt ≡ Failed OutOfMemory) × Ends pattern name old taken table (Absent (lives + 1)))

    alone : NodesStand (first_node node (max_nodes_of agreed.settings)) ((Own node, 1) ∷ [])
    alone = record {
      same = λ m. refl;
      once = λ m. by_test (same_node (Own node) m) (λ is. rw is (omega arith)) (λ isnt. rw isnt (omega arith));
      many = refl;
    }

    published : (table after : Contents) → HasLock (Some first) table
        → Sight table (Publish hash number (line Two description) publishing.Published) after
        → after ≡ with_entry hash (Described number (line Two description)) table → IsPublished after
    published table after lock sight is = (
      record {
        leaves = left-then hash old table after lock.leaves
            (then-leaves (Publish hash number (line Two description) publishing.Published) (Some first) table after lock sight);
        more = number ∷ lock.more;
        stands = rw is (record {
          lives = omega (arith, lock.lived);
          falling = lock.falling;
          lies = (
            record { version = Two; said = tt; described = there; kind = kind; within = within },
            record { seated = first_node node (max_nodes_of agreed.settings); stands = lock.seat; nodes_stand = alone; room = refl },
          );
          segments = λ n isnt. lock.others n (subst (λ (e : Option Entry). is_description_of n e ≡ false) there isnt);
        });
      },
      refl,
    )
      where
        there : entry_at hash (with_entry hash (Described number (line Two description)) table)
            ≡ Some (Described number (line Two description))
        there = lookup-set (is_at (digest_cmp hash.digest)) table.entries (Described number (line Two description)) (rw lock.lies refl)

    publishes : (made : List Access) (attempt : Attempt) (start end : Steps) → HasLock (Some first) start.table
        → creating.Publishes hash number description made attempt → Went SteppedSight start made end → Makes attempt end.table
    publishes (Publish under of bytes answer ∷ rest) attempt start end lock (own, same, spelled, goes) (mid, sight, went) =
        there (may_publish hash number start.table) may there-sight
      where
        exact : SteppedSight start (Publish hash number (line Two description) answer) mid
        exact = subst (λ (b : List ℕ). SteppedSight start (Publish hash number b answer) mid) spelled
            (subst (λ (n : ℕ). SteppedSight start (Publish hash n bytes answer) mid) same
            (subst (λ (h : ServiceHash). SteppedSight start (Publish h of bytes answer) mid) own sight))

        there-sight : Sight start.table (Publish hash number (line Two description) answer) mid.table
        there-sight = quiet-access hash node number (Publish hash number (line Two description) answer) (answer ≡ publishing.OutOfMemory)
            start mid
            lock.lies exact

        may : may_publish hash number start.table ≡ true
        may = and-true _ _ (subst (λ (e : Option Entry). is_own_lock number e ≡ true) (sym lock.lies) itself)
            (subst (λ (s : Option Segment). is_some s ≡ true) (sym lock.seat) refl)

        done : answer ≡ publishing.Published → mid.table ≡ with_entry hash (Described number (line Two description)) start.table
            → Makes attempt end.table
        done is after =
            let goes_on : creating.PublishGoes hash number description None rest attempt =
            subst (λ (a : PublishAnswer). creating.PublishGoes hash number description (publishing_failure a) rest attempt) is goes in
            inl (
              goes_on.1,
              subst (λ (s : Steps). IsPublished s.table)
                  (sym (subst (λ (l : List Access). Went SteppedSight mid l end) goes_on.0 went))
                  (published start.table mid.table lock
                  (subst (λ (a : PublishAnswer). Sight start.table (Publish hash number (line Two description) a) mid.table) is there-sight)
                  after),
            )

        lacks : answer ≡ publishing.OutOfMemory → mid.table ≡ start.table → Makes attempt end.table
        lacks is after =
            let goes_on : creating.PublishGoes hash number description (Some OutOfMemory) rest attempt =
            subst (λ (a : PublishAnswer). creating.PublishGoes hash number description (publishing_failure a) rest attempt) is goes in
            inr (goes_on.1, undoes first rest mid end (subst (λ (t : Contents). HasLock (Some first) t) (sym after) lock) goes_on.0 went)

        there : (b : Bool) → b ≡ true → sights.Publishes b hash number (line Two description) start.table answer mid.table
            → Makes attempt end.table
        there false is h = on (sym is)
        there true is (inl h) = done h.0 h.1
        there true is (inr h) = lacks h.0 h.1
    publishes (RemoveSegment under of answer ∷ rest) attempt start end lock told went =
        inr (told.1, undoes first (RemoveSegment under of answer ∷ rest) start end lock told.0 went)
    publishes made attempt start end lock told went = absurd told

    seated : (table after : Contents) (answer : MakeSegmentAnswer) → HasLock None table
        → Sight table (MakeSegment hash number node (max_nodes_of agreed.settings) answer) after
        → after ≡ with_new_segment hash number first table
        → HasLock (Some first) after
    seated table after answer lock sight is = record {
      leaves = left-then hash old table after lock.leaves
          (then-leaves (MakeSegment hash number node (max_nodes_of agreed.settings) answer) None table after lock sight);
      more = lock.more;
      lived = lock.lived;
      falling = rw is lock.falling;
      lies = rw is lock.lies;
      seat = rw is (lookup-added place_cmp (hash.digest, number) first table.segments (same-place (hash.digest, number)));
      others = rw is (λ n differ. insert-apart place_cmp (hash.digest, number) first (is_at (place_cmp (hash.digest, n)))
          (place-away (hash.digest, number) (hash.digest, n) (places-apart hash number n differ)) place-exact table.segments
          ∙ lock.others n differ);
    }

    pub makes : (made : List Access) (attempt : Attempt) (start end : Steps) → HasLock None start.table
        → creating.Makes hash node number description made attempt → Went SteppedSight start made end → Makes attempt end.table
    makes (MakeSegment under of by max_nodes answer ∷ rest) attempt start end lock (own, same, whose, roomy, goes) (mid, sight, went) =
        there (may_make hash number node (max_nodes_of agreed.settings) start.table) may there-sight
      where
        exact : SteppedSight start (MakeSegment hash number node (max_nodes_of agreed.settings) answer) mid
        exact = subst (λ (r : ℕ). SteppedSight start (MakeSegment hash number node r answer) mid) roomy
            (subst (λ (w : ℕ). SteppedSight start (MakeSegment hash number w max_nodes answer) mid) whose
            (subst (λ (n : ℕ). SteppedSight start (MakeSegment hash n by max_nodes answer) mid) same
            (subst (λ (h : ServiceHash). SteppedSight start (MakeSegment h of by max_nodes answer) mid) own sight)))

        there-sight : Sight start.table (MakeSegment hash number node (max_nodes_of agreed.settings) answer) mid.table
        there-sight = quiet-access hash node number (MakeSegment hash number node (max_nodes_of agreed.settings) answer)
            (answer ≡ making.OutOfMemory) start mid lock.lies exact

        may : may_make hash number node (max_nodes_of agreed.settings) start.table ≡ true
        may = and-true _ _ (and-true _ _
            (subst (λ (e : Option Entry). is_lock_of node number e ≡ true) (sym lock.lies) (and-true _ _ (eq-eqb node node refl) itself))
            (subst (λ (s : Option Segment). not (is_some s) ≡ true) (sym lock.seat) refl)) (lt-ltb _ _ room)

        done : answer ≡ making.Made → mid.table ≡ with_new_segment hash number first start.table → Makes attempt end.table
        done is after =
            publishes rest attempt mid end (seated start.table mid.table answer lock there-sight after)
            (subst (λ (a : MakeSegmentAnswer). creating.MakeGoes hash number description (making_failure a) rest attempt) is goes) went

        lacks : answer ≡ making.OutOfMemory → mid.table ≡ start.table → Makes attempt end.table
        lacks is after =
            let goes_on : creating.MakeGoes hash number description (Some OutOfMemory) rest attempt =
            subst (λ (a : MakeSegmentAnswer). creating.MakeGoes hash number description (making_failure a) rest attempt) is goes in
            inr (goes_on.1, unlocks rest mid end (subst (λ (t : Contents). HasLock None t) (sym after) lock) goes_on.0 went)

        there : (b : Bool) → b ≡ true → sights.Makes b hash number node (max_nodes_of agreed.settings) start.table answer mid.table
            → Makes attempt end.table
        there false is h = on (sym is)
        there true is (inl h) = done h.0 h.1
        there true is (inr h) = lacks h.0 h.1
    makes made attempt start end lock told went = absurd told
