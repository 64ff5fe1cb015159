-- Who creates beside a service that stands is refused, and the table stays as it is, if its look is the first that is done.
use Rattle.std.proofs.Common.{◌≡◌, ◌⊎◌, ◌∙◌, ℕ, List, [], ◌∷◌, Option, None, Some, Result, Err, inl, inr, refl, ap, subst}
use Rattle.std.specs.declared.alloc.AllocError.{AllocError}
use Rattle.iox_command.specs.NegotiateBase.DescribeBase.declared.hash.ServiceHash.{ServiceHash}
use Rattle.iox_hub_base.specs.DescribeSettings.Agreement.{Agreement}
use Rattle.iox_hub_base.specs.Hubs.{hash_state}
use Rattle.iox_hub_base.specs.declared.hub.HashState.TheVariants as lying
use Rattle.iox_negotiate_table.specs.Contents.{Contents, entry_at}
use Rattle.iox_negotiate_table.specs.NegotiateBase.Access.{Access, Look, Lock, MakeSegment, Publish, Unlock, OpenSegment, Leave}
use Rattle.iox_negotiate_table.specs.NegotiateBase.Access.{RemoveDescription, RemoveSegment}
use Rattle.iox_negotiate_table.specs.NegotiateBase.Creating.{CreatesIf, CreatesSeen}
use Rattle.iox_negotiate_table.specs.NegotiateBase.Failing.{created, refusal_seen}
use Rattle.iox_negotiate_table.specs.NegotiateBase.Runs.{Went}
use Rattle.iox_negotiate_table.specs.NegotiateBase.Sight.{IsSight}
use Rattle.iox_negotiate_table.specs.NegotiateBase.declared.answer.LookAnswer.{LookAnswer}
use Rattle.iox_negotiate_table.specs.NegotiateBase.declared.answer.LookAnswer.TheVariants as look
use Rattle.iox_negotiate_table.specs.NegotiateBase.declared.failure.CreateFailure.{CreateFailure}
use Rattle.iox_negotiate_table.specs.NegotiateBase.declared.failure.CreateFailure.TheVariants as uncreated
use Rattle.iox_negotiate_table.specs.NegotiateBase.declared.request.Opened.{Opened}
use Rattle.iox_negotiate_table.specs.NegotiateBase.declared.sight.Sight.{Sight}
use Rattle.iox_negotiate_table.specs.NegotiateBase.declared.sight.Sight.TheVariants as sight
use Rattle.iox_negotiate_table.specs.NegotiateBase.declared.sight.SightFailure.TheVariants as unseen
use Rattle.iox_negotiate_table.specs.Sights.{Looks, Sight as Finds}
use Rattle.iox_negotiate_table.specs.Stepped.{ActsAll, GoesOn, Steps, SteppedSight, next_list}
use Rattle.iox_negotiate_table.specs.declared.entry.Entry.{Entry}
use Rattle.iox_negotiate_table.specs.declared.entry.Entry.TheVariants as entry
use Rattle.iox_negotiate_table.specs.declared.step.ForeignStep.{ForeignStep}

-- who looks at a description isn't shown that no service stands
none_absent : (hash : ServiceHash) (number : ℕ) (bytes : List ℕ) (saw : LookAnswer)
    → (saw ≡ look.Found number bytes) ⊎ (saw ≡ look.OutOfMemory) → IsSight hash saw sight.Absent → ⊥
none_absent hash number bytes saw (inl found) shows = subst (λ (it : LookAnswer). IsSight hash it sight.Absent) found shows
none_absent hash number bytes saw (inr lacks) shows = differ (subst (λ (it : LookAnswer). IsSight hash it sight.Absent) lacks shows)
  where
    differ : sight.Absent ≡ sight.Failed unseen.OutOfMemory → ⊥
    differ e = cc

-- so there is a refusal
refuses_shown : (hash : ServiceHash) (number : ℕ) (bytes : List ℕ) (saw : LookAnswer) (shown : Sight)
    → (saw ≡ look.Found number bytes) ⊎ (saw ≡ look.OutOfMemory) → IsSight hash saw shown
    → (failure : CreateFailure) × (refusal_seen shown ≡ Some failure)
refuses_shown hash number bytes saw sight.Absent looks shows = absurd (none_absent hash number bytes saw looks shows)
refuses_shown hash number bytes saw (sight.Standing shown agreed) looks shows = (uncreated.AlreadyExists, refl)
refuses_shown hash number bytes saw (sight.Failed unseen.HangsInCreation) looks shows = (uncreated.HangsInCreation, refl)
refuses_shown hash number bytes saw (sight.Failed unseen.InsufficientPermissions) looks shows = (uncreated.InsufficientPermissions, refl)
refuses_shown hash number bytes saw (sight.Failed unseen.ServiceInCorruptedState) looks shows = (uncreated.ServiceInCorruptedState, refl)
refuses_shown hash number bytes saw (sight.Failed unseen.OutOfMemory) looks shows = (uncreated.OutOfMemory, refl)

-- where a description lies
refuses_described : (hash : ServiceHash) (lies : Option Entry) (saw : LookAnswer) (shown : Sight) → hash_state lies ≡ lying.Described
    → Looks lies saw → IsSight hash saw shown → (failure : CreateFailure) × (refusal_seen shown ≡ Some failure)
refuses_described hash None saw shown is looks shows = absurd cc
refuses_described hash (Some (entry.Locked by number)) saw shown is looks shows = absurd cc
refuses_described hash (Some (entry.Described number bytes)) saw shown is looks shows
    = refuses_shown hash number bytes saw shown looks shows

module _ (hash : ServiceHash) (node : ℕ) (agreed : Agreement) where
  -- a creation over a table where a description lies, before which no step is done, is refused, and the table stays as it is
  pub beside : (made : List Access) (answer : Result Opened CreateFailure) (old new : Steps) → next_list old.lists ≡ []
      → hash_state (entry_at hash old.table) ≡ lying.Described → Went SteppedSight old made new
      → CreatesIf hash node agreed None made answer
      → (failure : CreateFailure) × (answer ≡ Err failure) × (new.table ≡ old.table)
  beside [] answer old new none stands went creates = absurd creates
  beside (Look under saw ∷ rest) answer old new none stands (mid, (between, happened, acted, looked, left), later)
      (shown, tried, same, shows, seen, is) =
      let (fine, kept) = subst (λ (some : List ForeignStep). ActsAll under some old.table happened between) none acted in
      let (looks, stays) = subst (λ (it : Result (Unit {0}) AllocError). GoesOn it (Finds between (Look under saw) mid.table)
      ((saw ≡ look.OutOfMemory) × (mid.table ≡ between))) fine looked in
      let finds : Looks (entry_at hash old.table) saw
      = subst (λ (it : ServiceHash). Looks (entry_at it old.table) saw) same
      (subst (λ (it : Contents). Looks (entry_at under it) saw) kept looks) in
      let (failure, why) = refuses_described hash (entry_at hash old.table) saw shown stands finds shows in
      let (ends, fails) = subst (λ (it : Option CreateFailure). CreatesSeen hash node agreed it rest tried) why seen in
      let last : new ≡ mid = subst (λ (some : List Access). Went SteppedSight mid some new) ends later in
      (failure, is ∙ ap created fails, ap (λ (it : Steps). it.table) last ∙ stays ∙ kept)
  beside (Lock under by saw ∷ rest) answer old new none stands went creates = absurd creates
  beside (MakeSegment under number by most saw ∷ rest) answer old new none stands went creates = absurd creates
  beside (Publish under number bytes saw ∷ rest) answer old new none stands went creates = absurd creates
  beside (Unlock under number ∷ rest) answer old new none stands went creates = absurd creates
  beside (OpenSegment under number by saw ∷ rest) answer old new none stands went creates = absurd creates
  beside (Leave under number by saw ∷ rest) answer old new none stands went creates = absurd creates
  beside (RemoveDescription under number saw ∷ rest) answer old new none stands went creates = absurd creates
  beside (RemoveSegment under number saw ∷ rest) answer old new none stands went creates = absurd creates
