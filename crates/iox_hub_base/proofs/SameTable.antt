-- The id of a table never changes, whatever its storage operations and the actions of other nodes are.
use Rattle.std.proofs.Common.{ℕ, ◌≡◌, Bool, true, false, cond, List, [], ◌∷◌, Option, None, Some, Result, Ok, Err, ◌⊎◌, ⊎_elim, refl, ap}
use Rattle.std.proofs.Common.{◌∙◌}
use Rattle.std.specs.declared.alloc.AllocError.{AllocError}
use Rattle.iox_delivery_factories.specs.DescribeBase.declared.hash.ServiceHash.{ServiceHash}
use Rattle.iox_delivery_factories.specs.DescribeSettings.Agreement.{Agreement}
use Rattle.iox_delivery_factories.specs.DescribeSettings.declared.description.Version.{Version}
use Rattle.iox_delivery_factories.specs.DescribeSettings.declared.description.Version.TheVariants.{One, Two}
use Rattle.iox_negotiate_table.specs.NegotiateBase.Access.{Access, Look, Lock, MakeSegment, Publish, Unlock, OpenSegment, Leave}
use Rattle.iox_negotiate_table.specs.NegotiateBase.Access.{RemoveDescription, RemoveSegment}
use Rattle.iox_negotiate_table.specs.NegotiateBase.Runs.{Went}
use Rattle.iox_negotiate_table.specs.NegotiateBase.declared.answer.LeaveAnswer.{LeaveAnswer}
use Rattle.iox_negotiate_table.specs.NegotiateBase.declared.answer.LockAnswer.{LockAnswer}
use Rattle.iox_negotiate_table.specs.NegotiateBase.declared.answer.LockAnswer.TheVariants as lock
use Rattle.iox_negotiate_table.specs.NegotiateBase.declared.answer.LookAnswer.TheVariants as look
use Rattle.iox_negotiate_table.specs.NegotiateBase.declared.answer.MakeSegmentAnswer.TheVariants as making
use Rattle.iox_negotiate_table.specs.NegotiateBase.declared.answer.OpenSegmentAnswer.TheVariants as opening
use Rattle.iox_negotiate_table.specs.NegotiateBase.declared.answer.PublishAnswer.TheVariants as publishing
use Rattle.iox_negotiate_table.specs.NegotiateBase.declared.answer.OpenSegmentAnswer.{OpenSegmentAnswer}
use Rattle.iox_negotiate_table.specs.NegotiateBase.declared.answer.RemoveAnswer.{RemoveAnswer}
use Rattle.iox_negotiate_table.specs.Contents.{Contents, entry_at, segment_at, with_lock, may_make, may_publish, may_unlock, is_published}
use Rattle.iox_negotiate_table.specs.Contents.{may_remove_description, may_remove_segment, without_entry, without_segment}
use Rattle.iox_negotiate_table.specs.Foreign.{Acts, DoneOrLacking, Done, PublishesForeign, RegistersForeign, RegistersAt, foreign_lock}
use Rattle.iox_negotiate_table.specs.Foreign.{published_number, after_leaving, left_at, after_removal, is_left_by, with_service}
use Rattle.iox_negotiate_table.specs.Sights.{Sight, LocksAt, LocksFree, Makes, Publishes, Unlocks, OpensAt, OpensPublished, LeavesAt}
use Rattle.iox_negotiate_table.specs.Sights.{LeavesPublished, Removes}
use Rattle.iox_negotiate_table.specs.Stepped.{Steps, ActsAll, GoesOn, Preceded, SteppedSight, next_list}
use Rattle.iox_negotiate_table.specs.declared.entry.Entry.{Entry}
use Rattle.iox_negotiate_table.specs.declared.entry.Entry.TheVariants.{Locked, Described}
use Rattle.iox_negotiate_table.specs.declared.node.Node.{Node}
use Rattle.iox_negotiate_table.specs.declared.node.Node.TheVariants.{Own, Foreign}
use Rattle.iox_negotiate_table.specs.declared.segment.Segment.{Segment}
use Rattle.iox_negotiate_table.specs.declared.step.ForeignStep.{ForeignStep}
use Rattle.iox_negotiate_table.specs.declared.step.ForeignStep.TheVariants as step

-- a table that is another in its contents alone
is : {old new : Contents} → new ≡ old → new.id ≡ old.id
is same = ap (λ table. table.id) same

-- of two tables of one id one it is
either : {old new : Contents} {X Y : Type 0} {done : Contents} → done.id ≡ old.id → (X × (new ≡ done)) ⊎ (Y × (new ≡ old)) → new.id ≡ old.id
either own h = ⊎_elim (λ x. is x.1 ∙ own) (λ y. is y.1) h

locks : (entry : Option Entry) (b : Bool) (hash : ServiceHash) (node : Node) (old new : Contents) (answer : LockAnswer)
    → LocksFree b hash node old answer new → new.id ≡ old.id
locks entry true hash node old new answer h = is h.1
locks entry false hash node old new answer h = either {done = with_lock hash node old} refl h

locks-at : (entry : Option Entry) (hash : ServiceHash) (node : Node) (old new : Contents) (answer : LockAnswer)
    → LocksAt entry hash node old answer new → new.id ≡ old.id
locks-at None hash node old new answer h = locks None _ hash node old new answer h
locks-at (Some (Locked by number)) hash node old new answer h = is h.1
locks-at (Some (Described number bytes)) hash node old new answer h = is h.1

unlocks : (b : Bool) (hash : ServiceHash) (old new : Contents) → Unlocks b hash old new → new.id ≡ old.id
unlocks true hash old new h = is h
unlocks false hash old new h = is h

opens : (segment : Option Segment) (hash : ServiceHash) (number node : ℕ) (old new : Contents) (answer : OpenSegmentAnswer)
    → OpensPublished segment hash number node old answer new → new.id ≡ old.id
opens (Some segment) hash number node old new answer h = is h.2
opens None hash number node old new answer h = is h.1

opens-at : (b : Bool) (segment : Option Segment) (hash : ServiceHash) (number node : ℕ) (old new : Contents)
    (answer : OpenSegmentAnswer) → OpensAt b segment hash number node old answer new → new.id ≡ old.id
opens-at true segment hash number node old new answer h = opens segment hash number node old new answer h
opens-at false segment hash number node old new answer h = is h.1

leaves : (segment : Option Segment) (hash : ServiceHash) (number node : ℕ) (old new : Contents) (answer : LeaveAnswer)
    → LeavesPublished segment hash number node old answer new → new.id ≡ old.id
leaves (Some segment) hash number node old new answer h = is h.1
leaves None hash number node old new answer h = is h.1

leaves-at : (b : Bool) (segment : Option Segment) (hash : ServiceHash) (number node : ℕ) (old new : Contents) (answer : LeaveAnswer)
    → LeavesAt b segment hash number node old answer new → new.id ≡ old.id
leaves-at true segment hash number node old new answer h = leaves segment hash number node old new answer h
leaves-at false segment hash number node old new answer h = is h.1

removes : (b : Bool) (without old new : Contents) (answer : RemoveAnswer) → without.id ≡ old.id → Removes b without old answer new
    → new.id ≡ old.id
removes true without old new answer own h = is h.1 ∙ own
removes false without old new answer own h = is h.1

-- a storage operation keeps the id of its table
pub sight-keeps : (old : Contents) (access : Access) (new : Contents) → Sight old access new → new.id ≡ old.id
sight-keeps old (Look hash answer) new h = is h.1
sight-keeps old (Lock hash node answer) new h = locks-at (entry_at hash old) hash (Own node) old new answer h
sight-keeps old (MakeSegment hash number node max_nodes answer) new h = makes (may_make hash number node max_nodes old) h
  where
    makes : (b : Bool) → Makes b hash number node max_nodes old answer new → new.id ≡ old.id
    makes true h = ⊎_elim (λ x. is x.1) (λ y. is y.1) h
    makes false h = is h.1
sight-keeps old (Publish hash number bytes answer) new h = publishes (may_publish hash number old) h
  where
    publishes : (b : Bool) → Publishes b hash number bytes old answer new → new.id ≡ old.id
    publishes true h = ⊎_elim (λ x. is x.1) (λ y. is y.1) h
    publishes false h = is h.1
sight-keeps old (Unlock hash number) new h = unlocks (may_unlock hash number old) hash old new h
sight-keeps old (OpenSegment hash number node answer) new h
    = opens-at (is_published hash number old) (segment_at hash number old) hash number node old new answer h
sight-keeps old (Leave hash number node answer) new h
    = leaves-at (is_published hash number old) (segment_at hash number old) hash number node old new answer h
sight-keeps old (RemoveDescription hash number answer) new h
    = removes (may_remove_description hash number old) (without_entry hash old) old new answer refl h
sight-keeps old (RemoveSegment hash number answer) new h
    = removes (may_remove_segment hash number old) (without_segment hash number old) old new answer refl h

done : (b : Bool) (other old new : Contents) (result : Result (Unit {0}) AllocError) → other.id ≡ old.id
    → DoneOrLacking b other old result new → new.id ≡ old.id
done true other old new (Ok happened) own h = is h ∙ own
done true other old new (Err lacking) own h = is h
done false other old new (Ok happened) own h = is h
done false other old new (Err lacking) own h = absurd h

given-up : (b : Bool) (other old new : Contents) (result : Result (Unit {0}) AllocError) → other.id ≡ old.id
    → Done b other old result new → new.id ≡ old.id
given-up true other old new result own h = is h.1 ∙ own
given-up false other old new result own h = is h.1

publishes : (version : Version) (number : Option ℕ) (hash : ServiceHash) (node : ℕ) (agreed : Agreement) (old new : Contents)
    (result : Result (Unit {0}) AllocError) → PublishesForeign version number hash node agreed old result new → new.id ≡ old.id
publishes version (Some number) hash node agreed old new result h
    = done h.0 (with_service version hash number node agreed old) old new result refl h.2
publishes version None hash node agreed old new result h = is h.1

registers : (segment : Option Segment) (hash : ServiceHash) (number node : ℕ) (old new : Contents)
    (result : Result (Unit {0}) AllocError) → RegistersAt segment hash number node old result new → new.id ≡ old.id
registers (Some segment) hash number node old new result h = is h.2
registers None hash number node old new result h = is h.1

registers-at : (number : Option ℕ) (hash : ServiceHash) (node : ℕ) (old new : Contents) (result : Result (Unit {0}) AllocError)
    → RegistersForeign number hash node old result new → new.id ≡ old.id
registers-at (Some number) hash node old new result h = registers (segment_at hash number old) hash number node old new result h
registers-at None hash node old new result h = is h.1

left : (segment : Option Segment) (hash : ServiceHash) (number node : ℕ) (old : Contents)
    → (left_at segment hash number node old).id ≡ old.id
left (Some segment) hash number node old = refl
left None hash number node old = refl

left-by : (number : Option ℕ) (hash : ServiceHash) (node : ℕ) (old : Contents) → (after_leaving number hash node old).id ≡ old.id
left-by (Some number) hash node old = left (segment_at hash number old) hash number node old
left-by None hash node old = refl

removed : (number : Option ℕ) (hash : ServiceHash) (node : ℕ) (old : Contents) → (after_removal number hash node old).id ≡ old.id
removed None hash node old = refl
removed (Some number) hash node old = if-left (is_left_by node (segment_at hash number old))
  where
    if-left : (b : Bool) → (cond b (without_segment hash number (without_entry hash old)) old).id ≡ old.id
    if-left true = refl
    if-left false = refl

-- the step of a foreign node keeps the id of the table
pub act-keeps : (hash : ServiceHash) (by : ForeignStep) (old new : Contents) (result : Result (Unit {0}) AllocError)
    → Acts hash by old result new → new.id ≡ old.id
act-keeps hash (step.Lock node) old new result h = done _ (with_lock hash (Foreign node) old) old new result refl h
act-keeps hash (step.GiveUp node) old new result h = given-up _ (without_entry hash old) old new result refl h
act-keeps hash (step.Publish node agreed) old new result h
    = publishes Two (foreign_lock node (entry_at hash old)) hash node agreed old new result h
act-keeps hash (step.PublishV1 node agreed) old new result h
    = publishes One (foreign_lock node (entry_at hash old)) hash node agreed old new result h
act-keeps hash (step.Register node) old new result h = registers-at (published_number (entry_at hash old)) hash node old new result h
act-keeps hash (step.Leave node) old new result h = is h.1 ∙ left-by (published_number (entry_at hash old)) hash node old
act-keeps hash (step.Remove node) old new result h = is h.1 ∙ removed (published_number (entry_at hash old)) hash node old

-- so do any such steps
pub acts-keep : (hash : ServiceHash) (steps : List ForeignStep) (old new : Contents) (result : Result (Unit {0}) AllocError)
    → ActsAll hash steps old result new → new.id ≡ old.id
acts-keep hash [] old new result h = is h.1
acts-keep hash (by ∷ steps) old new result (mid, first, act, rest)
    = go first (λ h. acts-keep hash steps mid new result h) rest ∙ act-keeps hash by old mid first act
  where
    go : (first : Result (Unit {0}) AllocError) → (ActsAll hash steps mid result new → new.id ≡ mid.id)
        → GoesOn first (ActsAll hash steps mid result new) ((result ≡ first) × (new ≡ mid)) → new.id ≡ mid.id
    go (Ok happened) later h = later h
    go (Err lacking) later h = is h.1

preceded : (hash : ServiceHash) (access : Access) (lacking : Type 0) (old new : Steps) → Preceded hash access lacking old new
    → new.table.id ≡ old.table.id
preceded hash access lacking old new (mid, happened, acts, then, lists)
    = go happened then ∙ acts-keep hash (next_list old.lists) old.table mid happened acts
  where
    go : (happened : Result (Unit {0}) AllocError) → GoesOn happened (Sight mid access new.table) (lacking × (new.table ≡ mid))
        → new.table.id ≡ mid.id
    go (Ok done) h = sight-keeps mid access new.table h
    go (Err lack) h = is h.1

stepped : (old : Steps) (access : Access) (new : Steps) → SteppedSight old access new → new.table.id ≡ old.table.id
stepped old (Look hash answer) new h = preceded hash (Look hash answer) (answer ≡ look.OutOfMemory) old new h
stepped old (Lock hash node answer) new h = preceded hash (Lock hash node answer) (answer ≡ lock.OutOfMemory) old new h
stepped old (MakeSegment hash number node max_nodes answer) new h
    = preceded hash (MakeSegment hash number node max_nodes answer) (answer ≡ making.OutOfMemory) old new h
stepped old (Publish hash number bytes answer) new h
    = preceded hash (Publish hash number bytes answer) (answer ≡ publishing.OutOfMemory) old new h
stepped old (OpenSegment hash number node answer) new h
    = preceded hash (OpenSegment hash number node answer) (answer ≡ opening.OutOfMemory) old new h
stepped old (Unlock hash number) new h = sight-keeps old.table (Unlock hash number) new.table h.0
stepped old (Leave hash number node answer) new h = sight-keeps old.table (Leave hash number node answer) new.table h.0
stepped old (RemoveDescription hash number answer) new h = sight-keeps old.table (RemoveDescription hash number answer) new.table h.0
stepped old (RemoveSegment hash number answer) new h = sight-keeps old.table (RemoveSegment hash number answer) new.table h.0

-- any storage operations, with the actions before them, keep the id of their table
pub went-keeps : (made : List Access) (old new : Steps) → Went SteppedSight old made new → new.table.id ≡ old.table.id
went-keeps [] old new h = ap (λ steps. steps.table.id) h
went-keeps (access ∷ made) old new (mid, first, rest) = went-keeps made mid new rest ∙ stepped old access mid first

-- and those with no steps before them
pub sights-keep : (made : List Access) (old new : Contents) → Went Sight old made new → new.id ≡ old.id
sights-keep [] old new h = is h
sights-keep (access ∷ made) old new (mid, first, rest) = sights-keep made mid new rest ∙ sight-keeps old access mid first
