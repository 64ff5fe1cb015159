-- A table on which foreign nodes act before a storage operation.
use Rattle.std.specs.Prelude.{◌≡◌, List, [], ◌∷◌, Result, Ok, Err, drop}
use Rattle.std.specs.declared.alloc.AllocError.{AllocError}
use Rattle.iox_negotiate_base.specs.DescribeBase.declared.hash.ServiceHash.{ServiceHash}
use Rattle.iox_negotiate_base.specs.Access.{Access, Look, Lock, MakeSegment, Publish, Unlock, OpenSegment, Leave, RemoveDescription}
use Rattle.iox_negotiate_base.specs.Access.{RemoveSegment}
use Rattle.iox_negotiate_base.specs.declared.answer.LookAnswer.TheVariants as look
use Rattle.iox_negotiate_base.specs.declared.answer.LockAnswer.TheVariants as lock
use Rattle.iox_negotiate_base.specs.declared.answer.MakeSegmentAnswer.TheVariants as making
use Rattle.iox_negotiate_base.specs.declared.answer.PublishAnswer.TheVariants as publishing
use Rattle.iox_negotiate_base.specs.declared.answer.OpenSegmentAnswer.TheVariants as opening
use Rattle.iox_negotiate_table.specs.declared.step.ForeignStep.{ForeignStep}
use Rattle.iox_negotiate_table.specs.Contents.{Contents}
use Rattle.iox_negotiate_table.specs.Foreign.{Acts}
use Rattle.iox_negotiate_table.specs.Sights.{Sight}

-- A table, and the lists of actions of foreign nodes that are still to be made, each list before a storage operation.
pub record Steps : Type 0 where
  pub table : Contents
  pub lists : List (List ForeignStep)

-- `well` holds if the actions were made, and `lacking` holds if memory ran out.
abbrev pub GoesOn : Result (Unit {0}) AllocError → Type 0 → Type 0 → Type 0
GoesOn (Ok happened) well lacking = well
GoesOn (Err lack) well lacking = lacking

-- The actions are made one after another, up to the first for which memory runs out.
abbrev pub ActsAll : ServiceHash → List ForeignStep → Contents → Result (Unit {0}) AllocError → Contents → Type 0
ActsAll hash [] old result new = (result ≡ Ok tt) × (new ≡ old)
ActsAll hash (step ∷ steps) old result new =
    (mid : Contents) × (first : Result (Unit {0}) AllocError) × Acts hash step old first mid
    × GoesOn first (ActsAll hash steps mid result new) ((result ≡ first) × (new ≡ mid))

-- The actions of the next list, or none if no list is left.
abbrev pub next_list : List (List ForeignStep) → List ForeignStep
next_list [] = []
next_list (list ∷ lists) = list

-- The actions of the next list are made, and then the storage operation; if memory for an action runs out, the result of the storage
-- operation says so.
abbrev pub Preceded : ServiceHash → Access → Type 0 → Steps → Steps → Type 0
Preceded hash access lacking old new =
    (mid : Contents) × (happened : Result (Unit {0}) AllocError) × ActsAll hash (next_list old.lists) old.table happened mid
    × GoesOn happened (Sight mid access new.table) (lacking × (new.table ≡ mid))
    × (new.lists ≡ drop 1 old.lists)

-- A storage operation before which no actions are made.
abbrev pub Alone : Access → Steps → Steps → Type 0
Alone access old new = Sight old.table access new.table × (new.lists ≡ old.lists)

-- What a storage operation finds after the actions before it: each storage operation that looks up, locks, makes, publishes or opens
-- something has its list of actions; the others have none.
abbrev pub SteppedSight : Steps → Access → Steps → Type 0
SteppedSight old (Look hash answer) new = Preceded hash (Look hash answer) (answer ≡ look.OutOfMemory) old new
SteppedSight old (Lock hash node answer) new = Preceded hash (Lock hash node answer) (answer ≡ lock.OutOfMemory) old new
SteppedSight old (MakeSegment hash number node max_nodes answer) new =
    Preceded hash (MakeSegment hash number node max_nodes answer) (answer ≡ making.OutOfMemory) old new
SteppedSight old (Publish hash number bytes answer) new
    = Preceded hash (Publish hash number bytes answer) (answer ≡ publishing.OutOfMemory) old new
SteppedSight old (OpenSegment hash number node answer) new =
    Preceded hash (OpenSegment hash number node answer) (answer ≡ opening.OutOfMemory) old new
SteppedSight old (Unlock hash number) new = Alone (Unlock hash number) old new
SteppedSight old (Leave hash number node answer) new = Alone (Leave hash number node answer) old new
SteppedSight old (RemoveDescription hash number answer) new = Alone (RemoveDescription hash number answer) old new
SteppedSight old (RemoveSegment hash number answer) new = Alone (RemoveSegment hash number answer) old new
