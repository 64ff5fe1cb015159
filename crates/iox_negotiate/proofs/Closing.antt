-- A closing removes one factory, and the last factory of the last node removes the service.
use Rattle.std.proofs.Common.{◌≡◌, ◌≢◌, ℕ, ◌-◌, Bool, true, false, cond, List, [], ◌∷◌, Option, None, Some, Result, Ok, nat_eq, nat_lt}
use Rattle.std.proofs.Common.{refl, sym, ap, subst, ◌∙◌, arith}
use Rattle.std.specs.Ordering.{nat_cmp}
use Rattle.std.specs.BTreeMap.{is_at}
use Rattle.std.specs.Map.{lookup, remove_entry}
use Rattle.std.proofs.lemmas.Map.Lookups.{exact_unsigned}
use Rattle.iox_negotiate_table.specs.DescribeBase.declared.hash.ServiceHash.{ServiceHash}
use Rattle.iox_negotiate_table.specs.NegotiateBase.Access.{Access, Leave, RemoveDescription, RemoveSegment}
use Rattle.iox_negotiate_table.specs.NegotiateBase.Runs.{Went}
use Rattle.iox_negotiate_table.specs.NegotiateBase.declared.answer.LeaveAnswer.{LeaveAnswer}
use Rattle.iox_negotiate_table.specs.NegotiateBase.declared.answer.LeaveAnswer.TheVariants as leaving
use Rattle.iox_negotiate_table.specs.NegotiateBase.declared.answer.RemoveAnswer.{RemoveAnswer}
use Rattle.iox_negotiate_table.specs.NegotiateBase.declared.answer.RemoveAnswer.TheVariants as removing
use Rattle.iox_negotiate.specs.NegotiateBase.declared.errors.close.CloseError.{CloseError}
use Rattle.iox_negotiate.specs.Factory.{Closes, LeaveGoes, Removes as RemovesBoth, RemovalGoes, RemovesSegment, segment_removed}
use Rattle.iox_negotiate_table.specs.declared.node.Node.{Node}
use Rattle.iox_negotiate_table.specs.declared.node.Node.TheVariants.{Own}
use Rattle.iox_negotiate_table.specs.declared.entry.Entry.TheVariants.{Described}
use Rattle.iox_negotiate_table.specs.declared.segment.Segment.TheVariants.{Open, Emptied}
use Rattle.iox_negotiate_table.specs.Nodes.{Nodes, count_in, factories_of, with_factories, without_node, less_one, left}
use Rattle.iox_negotiate_table.specs.Segments.{closed_if, leave_answer}
use Rattle.iox_negotiate_table.specs.Contents.{Contents, entry_at, segment_at, with_segment, without_entry, without_segment, digest_cmp}
use Rattle.iox_negotiate_table.specs.Contents.{place_cmp, is_published, may_remove_description, may_remove_segment}
use Rattle.iox_negotiate_table.specs.Sights.{Sight, LeavesAt, LeavesPublished, Removes}
use Rattle.iox_negotiate_table.specs.Laws.{IsOpenIn}
use Rattle.iox_negotiate_table.specs.Stepped.{Steps, SteppedSight}
use Rattle.iox_negotiate_table.proofs.Entries.{lookup-set}
use Rattle.iox_negotiate.specs.Histories.{Accesses}
use Rattle.iox_negotiate.specs.Closing.{one_less, TakesOneOff, StandsOrGone, IsUntouched, ClosesOne}
use Rattle.iox_negotiate.proofs.Maps.{on, remove-same, rising-distinct, set-apart, remove-apart}
use Rattle.iox_negotiate.proofs.Tables.{IsTable, reached, sees, seat-found, digest-exact, place-exact, place-total}
use Rattle.iox_negotiate.proofs.Changes.{Change, hash_of, changes, elsewhere, equal-of, same-place, hash-from}
use Rattle.iox_negotiate.proofs.Held.{nodes-apart}
use Rattle.iox_negotiate.proofs.Seats.{AreOnce}

-- ---- the nodes

pub taken : (node : ℕ) (before : Nodes) → AreOnce before → TakesOneOff node before (left node before)
taken node before once = by_count (factories_of before node) refl
  where
    nothing : factories_of before node ≡ None → TakesOneOff node before before
    nothing out = record {
      off = λ count has. absurd (differ count (sym out ∙ has));
      others = λ other apart. refl;
      foreign = refl;
      room
          = refl;
    }
      where
        differ : (count : ℕ) → None ≡ Some count → ⊥
        differ count e = cc

    same : (one other : ℕ) → Some one ≡ Some other → one ≡ other
    same one other e = cc

    gone : lookup (is_at (nat_cmp node)) (remove_entry (is_at (nat_cmp node)) before.own) ≡ None
    gone = remove-same (is_at (nat_cmp node))
        (λ x y a b. sym (exact_unsigned node x (equal-of _ a)) ∙ exact_unsigned node y (equal-of _ b)) before.own once

    apart-from : (other : ℕ) → other ≢ node → node ≢ other
    apart-from other differ is = differ (sym is)

    less : (count : ℕ) → factories_of before node ≡ Some count → (b : Bool) → nat_lt 1 count ≡ b
        → TakesOneOff node before (cond b (with_factories node (count - 1) before) (without_node node before))
    less count has true more = record {
      off = λ c also. let is = same count c (sym has ∙ also) in subst
          (λ n. factories_of (with_factories node (count - 1) before) node ≡ one_less n) is
          (lookup-set (is_at (nat_cmp node)) before.own (count - 1) (rw has refl) ∙ rw more refl);
      others = λ other differ. set-apart (is_at (nat_cmp node)) (is_at (nat_cmp other))
          (nodes-apart node other (apart-from other differ)) before.own (count - 1);
      foreign = refl;
      room = refl;
    }
    less count has false last = record {
      off = λ c also. let is = same count c (sym has ∙ also) in subst (λ n. factories_of (without_node node before) node ≡ one_less n)
          is (gone ∙ rw last refl);
      others = λ other differ. remove-apart (is_at (nat_cmp node)) (is_at (nat_cmp other))
          (nodes-apart node other (apart-from other differ)) before.own;
      foreign = refl;
      room = refl;
    }

    by_count : (found : Option ℕ) → factories_of before node ≡ found → TakesOneOff node before (less_one before node found)
    by_count (Some count) has = less count has (nat_lt 1 count) refl
    by_count None has = nothing has

-- ---- the storage operations

equal : (n : ℕ) → nat_eq n n ≡ true
equal n = grind arith

module _ (hash : ServiceHash) (number node : ℕ) (bytes : List ℕ) (old : Contents) (table : IsTable old)
    (is_open : IsOpenIn hash number node bytes old) where
  abbrev pub after : Nodes
  after = left node is_open.nodes

  -- what the leave found and left
  pub record Left (b : Bool) (answer : LeaveAnswer) (mid : Contents) : Type 0 where
    pub answered : answer ≡ leave_answer (Open is_open.nodes) (closed_if b (Own node) after)
    pub is : mid ≡ with_segment hash number (closed_if b (Own node) after) old

  flag : is_published hash number old ≡ true
  flag = rw is_open.published (equal number)

  pub leaves : (answer : LeaveAnswer) (mid : Contents) → Sight old (Leave hash number node answer) mid
      → Left (nat_eq (count_in after) 0) answer mid
  leaves answer mid h = found (subst (λ b. LeavesAt b (segment_at hash number old) hash number node old answer mid) flag h)
    where
      found-open : LeavesPublished (Some (Open is_open.nodes)) hash number node old answer mid → Left (nat_eq (count_in after) 0) answer mid
      found-open h = record { answered = h.0; is = h.1 }

      found : LeavesPublished (segment_at hash number old) hash number node old answer mid → Left (nat_eq (count_in after) 0) answer mid
      found h = found-open (subst (λ s. LeavesPublished s hash number node old answer mid) is_open.stands h)

-- the description is removed where the last node left
removes-first : (hash : ServiceHash) (number : ℕ) (bytes : List ℕ) (by : Node) (old new : Contents) (answer : RemoveAnswer)
    → entry_at hash old ≡ Some (Described number bytes) → segment_at hash number old ≡ Some (Emptied by)
    → Sight old (RemoveDescription hash number answer) new → (answer ≡ removing.Removed) × (new ≡ without_entry hash old)
removes-first hash number bytes by old new answer published emptied h = there (may_remove_description hash number old) may h
  where
    may : may_remove_description hash number old ≡ true
    may = rw published (rw (equal number) (rw emptied refl))

    there : (b : Bool) → b ≡ true → Removes b (without_entry hash old) old answer new → (answer ≡ removing.Removed)
        × (new ≡ without_entry hash old)
    there true is h = h
    there false is h = on (sym is)

-- and then its segment
removes-then : (hash : ServiceHash) (number : ℕ) (by : Node) (old new : Contents) (answer : RemoveAnswer) → entry_at hash old ≡ None
    → segment_at hash number old ≡ Some (Emptied by)
    → Sight old (RemoveSegment hash number answer) new → (answer ≡ removing.Removed) × (new ≡ without_segment hash number old)
removes-then hash number by old new answer free emptied h = there (may_remove_segment hash number old) may h
  where
    may : may_remove_segment hash number old ≡ true
    may = rw free (rw emptied refl)

    there : (b : Bool) → b ≡ true → Removes b (without_segment hash number old) old answer new → (answer ≡ removing.Removed)
        × (new ≡ without_segment hash number old)
    there true is h = h
    there false is h = on (sym is)

-- what lies under the hash after a removal
pub entry-gone : (hash : ServiceHash) (table : Contents) → IsTable table → entry_at hash (without_entry hash table) ≡ None
entry-gone hash table is = remove-same (is_at (digest_cmp hash.digest))
    (λ x y a b. sym (digest-exact hash.digest x (equal-of _ a)) ∙ digest-exact hash.digest y (equal-of _ b)) table.entries is.keys

pub segment-gone : (hash : ServiceHash) (number : ℕ) (table : Contents) → IsTable table
    → segment_at hash number (without_segment hash number table) ≡ None
segment-gone hash number table is = remove-same (is_at (place_cmp (hash.digest, number)))
    (λ x y a b. sym (place-exact (hash.digest, number) x (equal-of _ a)) ∙ place-exact (hash.digest, number) y (equal-of _ b))
    table.segments
    (rising-distinct place_cmp place-total place-exact same-place table.segments is.places)

-- ---- the whole closing

module _ (hash : ServiceHash) (number node : ℕ) (bytes : List ℕ) (old new : Steps) (result : Result (Unit {0}) CloseError)
    (is_open : IsOpenIn hash number node bytes old.table) where
  -- what a closing leaves
  record Closed (after : Nodes) : Type 0 where
    well : result ≡ Ok tt
    stands : StandsOrGone (nat_eq (count_in after) 0) hash number bytes after new.table

  stays : (answer : LeaveAnswer) (rest : List Access) (mid : Steps) → nat_eq (count_in (left node is_open.nodes)) 0 ≡ false
      → answer ≡ leaving.Stays → mid.table ≡ with_segment hash number (Open (left node is_open.nodes)) old.table
      → LeaveGoes hash number answer rest result → Went SteppedSight mid rest new → Closed (left node is_open.nodes)
  stays answer rest mid some stayed is goes went =
      let g : LeaveGoes hash number leaving.Stays rest result = subst (λ a. LeaveGoes hash number a rest result) stayed goes in
      let end : new ≡ mid = subst (λ r. Went SteppedSight mid r new) g.0 went in
      let table : new.table ≡ with_segment hash number (Open (left node is_open.nodes)) old.table = ap (λ s. s.table) end ∙ is in
      record {
        well = g.1;
        stands = subst (λ b. StandsOrGone b hash number bytes (left node is_open.nodes) new.table) (sym some) (
          subst (λ t. entry_at hash t ≡ Some (Described number bytes)) (sym table) is_open.published,
          subst (λ t. segment_at hash number t ≡ Some (Open (left node is_open.nodes))) (sym table)
              (lookup-set (is_at (place_cmp (hash.digest, number))) old.table.segments (Open (left node is_open.nodes))
              (rw is_open.stands refl)),
        );
      }

  last : (answer : RemoveAnswer) (rest : List Access) (mid : Steps) → nat_eq (count_in (left node is_open.nodes)) 0 ≡ true
      → IsTable mid.table → entry_at hash mid.table ≡ None → segment_at hash number mid.table ≡ Some (Emptied (Own node))
      → answer ≡ removing.Removed → RemovalGoes hash number answer rest result → Went SteppedSight mid rest new
      → Closed (left node is_open.nodes)
  last answer rest mid none is free emptied removed goes went
      = segment rest (subst (λ a. RemovalGoes hash number a rest result) removed goes) went
    where
      ends : (second : RemoveAnswer) (more : List Access) (end : Steps) → Sight mid.table (RemoveSegment hash number second) end.table
          → more ≡ [] → result ≡ segment_removed second → Went SteppedSight end more new → Closed (left node is_open.nodes)
      ends second more end sight none-left told went =
          let r = removes-then hash number (Own node) mid.table end.table second free emptied sight in
          let over : new ≡ end = subst (λ m. Went SteppedSight end m new) none-left went in
          let table : new.table ≡ without_segment hash number mid.table = ap (λ s. s.table) over ∙ r.1 in
          record {
            well = told ∙ ap (λ a. segment_removed a) r.0;
            stands = subst (λ b. StandsOrGone b hash number bytes (left node is_open.nodes) new.table) (sym none) (
              subst (λ t. entry_at hash t ≡ None) (sym table) free,
              subst (λ t. segment_at hash number t ≡ None) (sym table)
                  (segment-gone hash number mid.table is),
            );
          }

      segment : (rest : List Access) → RemovesSegment hash number rest result → Went SteppedSight mid rest new
          → Closed (left node is_open.nodes)
      segment (RemoveSegment under of second ∷ more) (own, same, none-left, told) (end, sight, went) =
          ends second more end (subst (λ n. Sight mid.table (RemoveSegment hash n second) end.table) same
          (subst (λ h. Sight mid.table (RemoveSegment h of second) end.table) own sight.0)) none-left told went
      segment rest told went = absurd told

  empties : (answer : LeaveAnswer) (rest : List Access) (mid : Steps) → nat_eq (count_in (left node is_open.nodes)) 0 ≡ true
      → IsTable mid.table → answer ≡ leaving.Emptied
      → mid.table ≡ with_segment hash number (Emptied (Own node)) old.table → LeaveGoes hash number answer rest result
      → Went SteppedSight mid rest new → Closed (left node is_open.nodes)
  empties answer rest mid none table emptied is goes went
      = description rest (subst (λ a. LeaveGoes hash number a rest result) emptied goes) went
    where
      published : entry_at hash mid.table ≡ Some (Described number bytes)
      published = subst (λ t. entry_at hash t ≡ Some (Described number bytes)) (sym is) is_open.published

      seat : segment_at hash number mid.table ≡ Some (Emptied (Own node))
      seat = subst (λ t. segment_at hash number t ≡ Some (Emptied (Own node))) (sym is)
          (lookup-set (is_at (place_cmp (hash.digest, number))) old.table.segments (Emptied (Own node)) (rw is_open.stands refl))

      then : (first : RemoveAnswer) (more : List Access) (end : Steps) → Sight mid.table (RemoveDescription hash number first) end.table
          → RemovalGoes hash number first more result → Went SteppedSight end more new → Closed (left node is_open.nodes)
      then first more end sight goes went =
          let r = removes-first hash number bytes (Own node) mid.table end.table first published seat sight in
          last first more end none (sees mid.table end.table table (RemoveDescription hash number first) sight)
          (subst (λ t. entry_at hash t ≡ None) (sym r.1) (entry-gone hash mid.table table))
          (subst (λ t. segment_at hash number t ≡ Some (Emptied (Own node))) (sym r.1) seat) r.0 goes went

      description : (rest : List Access) → RemovesBoth hash number rest result → Went SteppedSight mid rest new
          → Closed (left node is_open.nodes)
      description (RemoveDescription under of first ∷ more) (own, same, goes) (end, sight, went) =
          then first more end (subst (λ n. Sight mid.table (RemoveDescription hash n first) end.table) same
          (subst (λ h. Sight mid.table (RemoveDescription h of first) end.table) own sight.0)) goes went
      description rest told went = absurd told

  leaves-then : (answer : LeaveAnswer) (rest : List Access) (mid : Steps) → IsTable old.table
      → Sight old.table (Leave hash number node answer) mid.table → LeaveGoes hash number answer rest result
      → Went SteppedSight mid rest new
      → Closed (left node is_open.nodes)
  leaves-then answer rest mid table sight goes went
      = by (nat_eq (count_in (left node is_open.nodes)) 0) refl
      (leaves hash number node bytes old.table table is_open answer mid.table sight)
    where
      by : (b : Bool) → nat_eq (count_in (left node is_open.nodes)) 0 ≡ b
          → Left hash number node bytes old.table table is_open b answer mid.table → Closed (left node is_open.nodes)
      by true none l = empties answer rest mid none (sees old.table mid.table table (Leave hash number node answer) sight) l.answered
          l.is goes went
      by false some l = stays answer rest mid some l.answered l.is goes went

  closes : (made : List Access) → IsTable old.table → Closes hash number node made result → Went SteppedSight old made new
      → Closed (left node is_open.nodes)
  closes (Leave under of by answer ∷ rest) table (own, same, who, goes) (mid, sight, went) =
      leaves-then answer rest mid table
      (subst (λ d. Sight old.table (Leave hash number d answer) mid.table) who
      (subst (λ n. Sight old.table (Leave hash n by answer) mid.table) same
      (subst (λ h. Sight old.table (Leave h of by answer) mid.table) own sight.0))) goes went
  closes made table told went = absurd told

-- ---- what lies elsewhere

untouched-by : (hash other : ServiceHash) (access : Access) (old new : Contents) → other ≢ hash → hash_of (Accesses access) ≡ hash
    → Sight old access new → IsUntouched other old new
untouched-by hash other access old new differ own sight =
    let e = elsewhere hash other (λ same. differ (sym (hash-from hash other same))) old new (Accesses access)
    (subst (λ h. Change (Accesses access) h old new) own (changes old new (Accesses access) sight)) in
    record { entry = e.entry; segments = e.segment }

untouched-then : (other : ServiceHash) (old mid new : Contents) → IsUntouched other old mid → IsUntouched other mid new
    → IsUntouched other old new
untouched-then other old mid new one two = record { entry = two.entry ∙ one.entry; segments = λ n. two.segments n ∙ one.segments n }

module _ (hash other : ServiceHash) (differ : other ≢ hash) (number : ℕ) (result : Result (Unit {0}) CloseError) where
  none-touched : (old new : Steps) → new ≡ old → IsUntouched other old.table new.table
  none-touched old new is = subst (λ s. IsUntouched other old.table s.table) (sym is) (record { entry = refl; segments = λ n. refl })

  segment-touched : (rest : List Access) (old new : Steps) → RemovesSegment hash number rest result → Went SteppedSight old rest new
      → IsUntouched other old.table new.table
  segment-touched (RemoveSegment under of answer ∷ more) old new (own, same, none, told) (mid, sight, went) =
      untouched-then other old.table mid.table new.table
      (untouched-by hash other (RemoveSegment under of answer) old.table mid.table differ own sight.0)
      (none-touched mid new (subst (λ m. Went SteppedSight mid m new) none went))
  segment-touched rest old new told went = absurd told

  removal-touched : (answer : RemoveAnswer) (rest : List Access) (old new : Steps) → RemovalGoes hash number answer rest result
      → Went SteppedSight old rest new → IsUntouched other old.table new.table
  removal-touched removing.Removed rest old new told went = segment-touched rest old new told went
  removal-touched removing.Fault rest old new told went = none-touched old new (subst (λ m. Went SteppedSight old m new) told.0 went)

  description-touched : (rest : List Access) (old new : Steps) → RemovesBoth hash number rest result → Went SteppedSight old rest new
      → IsUntouched other old.table new.table
  description-touched (RemoveDescription under of answer ∷ more) old new (own, same, goes) (mid, sight, went) =
      untouched-then other old.table mid.table new.table
      (untouched-by hash other (RemoveDescription under of answer) old.table mid.table differ own sight.0)
      (removal-touched answer more mid new goes went)
  description-touched rest old new told went = absurd told

  leave-touched : (answer : LeaveAnswer) (rest : List Access) (old new : Steps) → LeaveGoes hash number answer rest result
      → Went SteppedSight old rest new → IsUntouched other old.table new.table
  leave-touched leaving.Stays rest old new told went = none-touched old new (subst (λ m. Went SteppedSight old m new) told.0 went)
  leave-touched leaving.Emptied rest old new told went = description-touched rest old new told went

  closing-touched : (node : ℕ) (made : List Access) (old new : Steps) → Closes hash number node made result
      → Went SteppedSight old made new → IsUntouched other old.table new.table
  closing-touched node (Leave under of by answer ∷ rest) old new (own, same, who, goes) (mid, sight, went) =
      untouched-then other old.table mid.table new.table
      (untouched-by hash other (Leave under of by answer) old.table mid.table differ own sight.0)
      (leave-touched answer rest mid new goes went)
  closing-touched node made old new told went = absurd told

pub closes-one : ClosesOne
closes-one hash number node bytes old new made result is_open r told went =
    let table = reached old.table r in
    let c = closes hash number node bytes old new result is_open made table told went in (
      left node is_open.nodes,
      c.well,
      taken node is_open.nodes
          (seat-found hash old.table table number (Open is_open.nodes) is_open.stands),
      c.stands,
      (λ other differ. closing-touched hash other differ number result node made old new told went),
    )
