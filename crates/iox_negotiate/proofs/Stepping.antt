-- Storage operations that follow actions of other nodes.
use Rattle.std.proofs.Common.{◌≡◌, ℕ, Bool, true, false, is_some, ◌∙◌, List, [], ◌∷◌, ◌++◌, Some, Result, Ok, Err, refl, sym, subst}
use Rattle.std.specs.declared.alloc.AllocError.{AllocError}
use Rattle.iox_negotiate_table.specs.DescribeBase.declared.hash.ServiceHash.{ServiceHash}
use Rattle.iox_negotiate_table.specs.NegotiateBase.Access.{Access, Look, Lock, MakeSegment, Publish, Unlock, OpenSegment, Leave}
use Rattle.iox_negotiate_table.specs.NegotiateBase.Access.{RemoveDescription, RemoveSegment}
use Rattle.iox_negotiate_table.specs.NegotiateBase.Runs.{Went}
use Rattle.iox_negotiate_table.specs.declared.node.Node.TheVariants.{Own, Foreign}
use Rattle.iox_negotiate_table.specs.declared.entry.Entry.TheVariants.{Locked}
use Rattle.iox_negotiate_table.specs.declared.step.ForeignStep.{ForeignStep}
use Rattle.iox_negotiate_table.specs.declared.step.ForeignStep.TheVariants as step
use Rattle.iox_negotiate_table.specs.Contents.{Contents, entry_at, with_lock, without_entry}
use Rattle.iox_negotiate_table.specs.DescribeSettings.declared.description.Version.TheVariants.{One, Two}
use Rattle.iox_negotiate_table.specs.Foreign.{Acts, DoneOrLacking, Done, foreign_lock, PublishesForeign, RegistersForeign}
use Rattle.iox_negotiate_table.specs.Foreign.{published_number, after_leaving, after_removal}
use Rattle.iox_negotiate_table.specs.Sights.{Sight}
use Rattle.iox_negotiate_table.specs.Stepped.{Steps, GoesOn, ActsAll, next_list, Preceded, SteppedSight}
use Rattle.iox_negotiate.specs.Histories as history
use Rattle.iox_negotiate.specs.Histories.{Event, Ran}
use Rattle.iox_negotiate.proofs.Maps.{on}
use Rattle.iox_negotiate.proofs.Standing.{Quiet}

-- ---- what each action of another node and each quiet storage operation keeps

module _ (P : Contents → Type 0) (by_step : (hash : ServiceHash) (step : ForeignStep) (result : Result (Unit {0}) AllocError)
    (old new : Contents) → P old → Acts hash step old result new → P new) where
  pub acts-keep : (hash : ServiceHash) (steps : List ForeignStep) (old new : Contents) (result : Result (Unit {0}) AllocError) → P old
      → ActsAll hash steps old result new → P new
  acts-keep hash [] old new result p h = subst P (sym h.1) p
  acts-keep hash (one ∷ steps) old new result p h
      = goes h.1 (by_step hash one h.1 old h.0 p h.2) (λ q later. acts-keep hash steps h.0 new result q later) h.3
    where
      goes : (first : Result (Unit {0}) AllocError) → P h.0 → (P h.0 → ActsAll hash steps h.0 result new → P new)
          → GoesOn first (ActsAll hash steps h.0 result new) ((result ≡ first) × (new ≡ h.0)) → P new
      goes (Ok happened) q later g = later q g
      goes (Err lacking) q later g = subst P (sym g.1) q

  module _ (Q : Access → Type 0) (by_access : (access : Access) (old new : Contents) → Q access → P old → Sight old access new → P new)
    where
      preceded-keeps : (hash : ServiceHash) (access : Access) (lacking : Type 0) (old new : Steps) → Q access → P old.table
          → Preceded hash access lacking old new → P new.table
      preceded-keeps hash access lacking old new quiet p h = goes h.1 (acts-keep hash (next_list old.lists) old.table h.0 h.1 p h.2) h.3
        where
          goes : (happened : Result (Unit {0}) AllocError) → P h.0
              → GoesOn happened (Sight h.0 access new.table) (lacking × (new.table ≡ h.0)) → P new.table
          goes (Ok done) q g = by_access access h.0 new.table quiet q g
          goes (Err lack) q g = subst P (sym g.1) q

      pub stepped-keeps : (access : Access) (old new : Steps) → Q access → P old.table → SteppedSight old access new → P new.table
      stepped-keeps (Look hash answer) old new quiet p h = preceded-keeps hash (Look hash answer) _ old new quiet p h
      stepped-keeps (Lock hash node answer) old new quiet p h = preceded-keeps hash (Lock hash node answer) _ old new quiet p h
      stepped-keeps (MakeSegment hash number node max_nodes answer) old new quiet p h
          = preceded-keeps hash (MakeSegment hash number node max_nodes answer) _ old new quiet p h
      stepped-keeps (Publish hash number bytes answer) old new quiet p h
          = preceded-keeps hash (Publish hash number bytes answer) _ old new quiet p h
      stepped-keeps (OpenSegment hash number node answer) old new quiet p h
          = preceded-keeps hash (OpenSegment hash number node answer) _ old new quiet p h
      stepped-keeps (Unlock hash number) old new quiet p h = by_access (Unlock hash number) old.table new.table quiet p h.0
      stepped-keeps (Leave hash number node answer) old new quiet p h
          = by_access (Leave hash number node answer) old.table new.table quiet p h.0
      stepped-keeps (RemoveDescription hash number answer) old new quiet p h
          = by_access (RemoveDescription hash number answer) old.table new.table quiet p h.0
      stepped-keeps (RemoveSegment hash number answer) old new quiet p h
          = by_access (RemoveSegment hash number answer) old.table new.table quiet p h.0

-- a storage operation that didn't lack memory was made, after its steps
pub record Seen (hash : ServiceHash) (access : Access) (old new : Steps) : Type 0 where
  pub mid : Contents
  pub happened : Result (Unit {0}) AllocError
  pub acts : ActsAll hash (next_list old.lists) old.table happened mid
  pub sight : Sight mid access new.table

pub seen : (hash : ServiceHash) (access : Access) (lacking : Type 0) (old new : Steps) → (lacking → ⊥)
    → Preceded hash access lacking old new → Seen hash access old new
seen hash access lacking old new not_lacking h = goes h.1 h.2 h.3
  where
    goes : (happened : Result (Unit {0}) AllocError) → ActsAll hash (next_list old.lists) old.table happened h.0
        → GoesOn happened (Sight h.0 access new.table) (lacking × (new.table ≡ h.0)) → Seen hash access old new
    goes (Ok done) acts g = record { mid = h.0; happened = Ok done; acts = acts; sight = g }
    goes (Err lack) acts g = absurd (not_lacking g.0)

-- actions of other nodes are events
pub record Past (old new : Contents) : Type 0 where
  pub events : List Event
  pub ran : Ran old events new

pub acts-ran : (hash : ServiceHash) (steps : List ForeignStep) (old new : Contents) (result : Result (Unit {0}) AllocError)
    → ActsAll hash steps old result new → Past old new
acts-ran hash [] old new result h = record { events = []; ran = h.1 }
acts-ran hash (one ∷ steps) old new result h = goes h.1 (λ later. acts-ran hash steps h.0 new result later) h.2 h.3
  where
    goes : (first : Result (Unit {0}) AllocError) → (ActsAll hash steps h.0 result new → Past h.0 new) → Acts hash one old first h.0
        → GoesOn first (ActsAll hash steps h.0 result new) ((result ≡ first) × (new ≡ h.0)) → Past old new
    goes (Ok happened) later acts g = let past
        = later g in record { events = history.Steps hash one ∷ past.events; ran = (h.0, (Ok happened, acts), past.ran) }
    goes (Err lacking) later acts g = record { events = history.Steps hash one ∷ []; ran = (h.0, (Err lacking, acts), g.1) }

-- under a hash that an own node locked no action of another node fits
module _ (hash : ServiceHash) (node number : ℕ) where
  own-lock-idle : (step : ForeignStep) (old new : Contents) (result : Result (Unit {0}) AllocError)
      → entry_at hash old ≡ Some (Locked (Own node) number) → Acts hash step old result new → new ≡ old
  own-lock-idle (step.Lock by) old new result locked h = idle _ result (rw locked refl) h
    where
      idle : (b : Bool) (result : Result (Unit {0}) AllocError) → b ≡ false
          → DoneOrLacking b (with_lock hash (Foreign by) old) old result new → new ≡ old
      idle true result is h = on is
      idle false (Ok happened) is h = h
      idle false (Err lacking) is h = absurd h
  own-lock-idle (step.GiveUp by) old new result locked h
      = idle (subst (λ e. Done (is_some (foreign_lock by e)) (without_entry hash old) old result new) locked h)
    where
      idle : Done false (without_entry hash old) old result new → new ≡ old
      idle h = h.1
  own-lock-idle (step.Publish by agreed) old new result locked h
      = idle (subst (λ e. PublishesForeign Two (foreign_lock by e) hash by agreed old result new) locked h)
    where
      idle : (result ≡ Ok tt) × (new ≡ old) → new ≡ old
      idle h = h.1
  own-lock-idle (step.PublishV1 by agreed) old new result locked h
      = idle (subst (λ e. PublishesForeign One (foreign_lock by e) hash by agreed old result new) locked h)
    where
      idle : (result ≡ Ok tt) × (new ≡ old) → new ≡ old
      idle h = h.1
  own-lock-idle (step.Register by) old new result locked h
      = idle (subst (λ e. RegistersForeign (published_number e) hash by old result new) locked h)
    where
      idle : (result ≡ Ok tt) × (new ≡ old) → new ≡ old
      idle h = h.1
  own-lock-idle (step.Leave by) old new result locked h
      = idle (subst (λ e. new ≡ after_leaving (published_number e) hash by old) locked h.1)
    where
      idle : new ≡ old → new ≡ old
      idle h = h
  own-lock-idle (step.Remove by) old new result locked h
      = idle (subst (λ e. new ≡ after_removal (published_number e) hash by old) locked h.1)
    where
      idle : new ≡ old → new ≡ old
      idle h = h

  pub acts-idle : (steps : List ForeignStep) (old new : Contents) (result : Result (Unit {0}) AllocError)
      → entry_at hash old ≡ Some (Locked (Own node) number) → ActsAll hash steps old result new → new ≡ old
  acts-idle [] old new result locked h = h.1
  acts-idle (one ∷ steps) old new result locked h =
      let same = own-lock-idle one old h.0 h.1 locked h.2 in goes h.1 same
      (λ later. acts-idle steps h.0 new result (subst (λ t. entry_at hash t ≡ Some (Locked (Own node) number)) (sym same) locked)
      later) h.3
    where
      goes : (first : Result (Unit {0}) AllocError) → h.0 ≡ old → (ActsAll hash steps h.0 result new → new ≡ h.0)
          → GoesOn first (ActsAll hash steps h.0 result new) ((result ≡ first) × (new ≡ h.0)) → new ≡ old
      goes (Ok happened) same later g = later g ∙ same
      goes (Err lacking) same later g = g.1 ∙ same

-- ---- lists of storage operations

abbrev pub AllQuiet : List Access → Type 0
AllQuiet [] = Unit {0}
AllQuiet (access ∷ accesses) = Quiet access × AllQuiet accesses

pub quiet-append : (front back : List Access) → AllQuiet front → AllQuiet back → AllQuiet (front ++ back)
quiet-append [] back first last = last
quiet-append (access ∷ front) back first last = (first.0, quiet-append front back first.1 last)

pub quiet-front : (front back : List Access) → AllQuiet (front ++ back) → AllQuiet front
quiet-front [] back all = tt
quiet-front (access ∷ front) back all = (all.0, quiet-front front back all.1)

pub went-split : {S : Type 0} (gives : S → Access → S → Type 0) (front back : List Access) (old new : S)
    → Went gives old (front ++ back) new → (mid : S) × Went gives old front mid × Went gives mid back new
went-split gives [] back old new went = (old, refl, went)
went-split gives (access ∷ front) back old new went = let rest
    = went-split gives front back went.0 new went.2 in (rest.0, (went.0, went.1, rest.1), rest.2)

pub quiet-keeps : (P : Contents → Type 0)
    → ((hash : ServiceHash) (step : ForeignStep) (result : Result (Unit {0}) AllocError) (old new : Contents) → P old
    → Acts hash step old result new → P new)
    → ((access : Access) (old new : Contents) → Quiet access → P old → Sight old access new → P new)
    → (made : List Access) (old new : Steps) → AllQuiet made → P old.table → Went SteppedSight old made new → P new.table
quiet-keeps P by_step by_access [] old new all p went = subst (λ s. P s.table) (sym went) p
quiet-keeps P by_step by_access (access ∷ made) old new all p went =
    quiet-keeps P by_step by_access made went.0 new all.1
    (stepped-keeps P by_step (λ a. Quiet a) by_access access old went.0 all.0 p went.1) went.2
