-- What creating, opening and closing publish, they publish right after its segment was made, with room for the agreed nodes.
use Rattle.std.proofs.Common.{◌≡◌, ℕ, zero, suc, List, [], ◌∷◌, ◌++◌, Option, None, Some, Result, Ok, Err, refl, sym, ap, subst, ◌∙◌, ◌⊎◌}
use Rattle.std.proofs.Common.{inl, inr}
use Rattle.std.proofs.Math.Logic.{⊎_elim}
use Rattle.iox_negotiate_table.specs.DescribeBase.declared.hash.ServiceHash.{ServiceHash}
use Rattle.iox_negotiate_table.specs.DescribeSettings.Agreement.{Agreement, max_nodes_of}
use Rattle.iox_negotiate_table.specs.Describe.Line.{line}
use Rattle.iox_negotiate_table.specs.DescribeSettings.declared.description.Version.TheVariants.{Two}
use Rattle.iox_negotiate_table.specs.Describe.Within.{IsWithinLimits}
use Rattle.iox_negotiate_table.specs.NegotiateBase.Access.{Access, Look, Lock, MakeSegment, Publish, Unlock, OpenSegment, Leave}
use Rattle.iox_negotiate_table.specs.NegotiateBase.Access.{RemoveDescription, RemoveSegment}
use Rattle.iox_negotiate_table.specs.NegotiateBase.Creating.{Unlocks, Undoes, Publishes, Makes, LockGoes, Locks, CreatesSeen, CreatesIf}
use Rattle.iox_negotiate_table.specs.NegotiateBase.Failing.{refusal_seen, lock_gives}
use Rattle.iox_negotiate_table.specs.NegotiateBase.Opening.{Registers, OpensJudged, OpensSeen, OpenRound, EitherCreates, EitherSeen}
use Rattle.iox_negotiate_table.specs.NegotiateBase.Opening.{EitherRound}
use Rattle.iox_negotiate_table.specs.NegotiateBase.Runs.{Went, Led, Rounds}
use Rattle.iox_negotiate_table.specs.NegotiateBase.declared.answer.MakeSegmentAnswer.TheVariants as making
use Rattle.iox_negotiate_table.specs.NegotiateBase.declared.answer.PublishAnswer.TheVariants as publishing
use Rattle.iox_negotiate_table.specs.NegotiateBase.declared.answer.LeaveAnswer.{LeaveAnswer}
use Rattle.iox_negotiate_table.specs.NegotiateBase.declared.answer.LeaveAnswer.TheVariants as leaving
use Rattle.iox_negotiate_table.specs.NegotiateBase.declared.answer.RemoveAnswer.{RemoveAnswer}
use Rattle.iox_negotiate_table.specs.NegotiateBase.declared.answer.RemoveAnswer.TheVariants as removing
use Rattle.iox_negotiate_table.specs.NegotiateBase.declared.creation.Attempt.{Attempt}
use Rattle.iox_negotiate_table.specs.NegotiateBase.declared.failure.CreateFailure.{CreateFailure}
use Rattle.iox_negotiate_table.specs.NegotiateBase.declared.failure.OpenFailure.{OpenFailure}
use Rattle.iox_negotiate_table.specs.NegotiateBase.declared.failure.OpenOrCreateFailure.{OpenOrCreateFailure}
use Rattle.iox_negotiate_table.specs.NegotiateBase.declared.request.Opened.{Opened}
use Rattle.iox_negotiate_table.specs.NegotiateBase.declared.sight.Sight.{Sight}
use Rattle.iox_negotiate_table.specs.NegotiateBase.declared.sight.Sight.TheVariants as sight
use Rattle.iox_negotiate.specs.NegotiateBase.declared.errors.close.CloseError.{CloseError}
use Rattle.iox_negotiate.specs.Factory.{RemovesSegment, RemovalGoes, Removes, LeaveGoes, Closes}
use Rattle.iox_negotiate_table.specs.Stepped.{Steps, SteppedSight}
use Rattle.iox_negotiate.proofs.Stepping.{stepped-keeps}
use Rattle.iox_negotiate.proofs.Rooming.{Roomy, Unpublishing, roomy-step, roomy-access, pair-roomy}

-- a storage operation that publishes nothing; or a segment that is made, and its description published
data Piece : Type 0 where
  One : (access : Access) → Piece
  Both : (number node : ℕ) (agreed : Agreement) → Piece

abbrev flat : List Piece → List Access
flat [] = []
flat (One access ∷ pieces) = access ∷ flat pieces
flat (Both number node agreed ∷ pieces) =
    MakeSegment agreed.service_hash number node (max_nodes_of agreed.settings) making.Made
    ∷ Publish agreed.service_hash number (line Two agreed) publishing.Published ∷ flat pieces

abbrev AreFine : List Piece → Type 0
AreFine [] = Unit {0}
AreFine (One access ∷ pieces) = Unpublishing access × AreFine pieces
AreFine (Both number node agreed ∷ pieces) = IsWithinLimits agreed × AreFine pieces

pub record Careful (made : List Access) : Type 0 where
  pieces : List Piece
  is : made ≡ flat pieces
  fine : AreFine pieces

nothing : (made : List Access) → made ≡ [] → Careful made
nothing made none = record { pieces = []; is = none; fine = tt }

one : (access : Access) (rest : List Access) → Unpublishing access → Careful rest → Careful (access ∷ rest)
one access rest un c = record { pieces = One access ∷ c.pieces; is = ap (λ r. access ∷ r) c.is; fine = (un, c.fine) }

flat-append : (front back : List Piece) → flat (front ++ back) ≡ flat front ++ flat back
flat-append [] back = refl
flat-append (One access ∷ front) back = ap (λ r. access ∷ r) (flat-append front back)
flat-append (Both number node agreed ∷ front) back =
    ap (λ r. MakeSegment agreed.service_hash number node (max_nodes_of agreed.settings) making.Made
    ∷ Publish agreed.service_hash number (line Two agreed) publishing.Published ∷ r) (flat-append front back)

fine-append : (front back : List Piece) → AreFine front → AreFine back → AreFine (front ++ back)
fine-append [] back first last = last
fine-append (One access ∷ front) back first last = (first.0, fine-append front back first.1 last)
fine-append (Both number node agreed ∷ front) back first last = (first.0, fine-append front back first.1 last)

careful-append : (front back : List Access) → Careful front → Careful back → Careful (front ++ back)
careful-append front back first last = record {
  pieces = first.pieces ++ last.pieces;
  is = ap (λ f. f ++ back) first.is ∙ ap (λ b. flat first.pieces ++ b) last.is ∙ sym (flat-append first.pieces last.pieces);
  fine = fine-append first.pieces last.pieces first.fine last.fine;
}

pieces-roomy : (pieces : List Piece) (old new : Steps) → AreFine pieces → Roomy old.table → Went SteppedSight old (flat pieces) new
    → Roomy new.table
pieces-roomy [] old new fine roomy went = subst (λ s. Roomy s.table) (sym went) roomy
pieces-roomy (One access ∷ pieces) old new fine roomy (mid, sight, went) =
    pieces-roomy pieces mid new fine.1 (stepped-keeps (λ t. Roomy t) roomy-step (λ a. Unpublishing a) roomy-access access old mid fine.0
    roomy sight) went
pieces-roomy (Both number node agreed ∷ pieces) old new fine roomy (mid, made, (end, published, went)) =
    pieces-roomy pieces end new fine.1 (pair-roomy agreed number node fine.0 old mid end roomy made published) went

pub careful-roomy : (made : List Access) (old new : Steps) → Careful made → Roomy old.table → Went SteppedSight old made new
    → Roomy new.table
careful-roomy made old new c roomy went = pieces-roomy c.pieces old new c.fine roomy (subst (λ m. Went SteppedSight old m new) c.is went)

-- and so is any front of them
pieces-front : (pieces : List Piece) (done rest : List Access) (old mid : Steps) → AreFine pieces → Roomy old.table
    → done ++ rest ≡ flat pieces → Went SteppedSight old done mid → Roomy mid.table
pieces-front pieces [] rest old mid fine roomy is went = subst (λ s. Roomy s.table) (sym went) roomy
pieces-front [] (access ∷ done) rest old mid fine roomy is went = absurd (differ is)
  where
    differ : access ∷ (done ++ rest) ≡ [] → ⊥
    differ e = cc
pieces-front (One next ∷ pieces) (access ∷ done) rest old mid fine roomy is (first, sight, went) =
    pieces-front pieces done rest first mid fine.1
    (stepped-keeps (λ t. Roomy t) roomy-step (λ a. Unpublishing a) roomy-access next old first fine.0 roomy
    (subst (λ a. SteppedSight old a first) (head is) sight)) (tail is) went
  where
    head : access ∷ (done ++ rest) ≡ next ∷ flat pieces → access ≡ next
    head e = cc

    tail : access ∷ (done ++ rest) ≡ next ∷ flat pieces → done ++ rest ≡ flat pieces
    tail e = cc
pieces-front (Both number node agreed ∷ pieces) (access ∷ []) rest old mid fine roomy is (first, sight, went) =
    subst (λ s. Roomy s.table) (sym went)
    (stepped-keeps (λ t. Roomy t) roomy-step (λ a. Unpublishing a) roomy-access
    (MakeSegment agreed.service_hash number node (max_nodes_of agreed.settings) making.Made) old first tt roomy
    (subst (λ a. SteppedSight old a first) (head is) sight))
  where
    head : access ∷ rest ≡ MakeSegment agreed.service_hash number node (max_nodes_of agreed.settings) making.Made
        ∷ Publish agreed.service_hash number (line Two agreed) publishing.Published ∷ flat pieces
        → access ≡ MakeSegment agreed.service_hash number node (max_nodes_of agreed.settings) making.Made
    head e = cc
pieces-front (Both number node agreed ∷ pieces) (access ∷ next ∷ done) rest old mid fine roomy is (first, made, (second, published, went)) =
    pieces-front pieces done rest second mid fine.1
    (pair-roomy agreed number node fine.0 old first second roomy (subst (λ a. SteppedSight old a first) (head is) made)
    (subst (λ a. SteppedSight first a second) (then is) published)) (tail is) went
  where
    head : access ∷ next ∷ (done ++ rest) ≡ MakeSegment agreed.service_hash number node (max_nodes_of agreed.settings) making.Made
        ∷ Publish agreed.service_hash number (line Two agreed) publishing.Published ∷ flat pieces
        → access ≡ MakeSegment agreed.service_hash number node (max_nodes_of agreed.settings) making.Made
    head e = cc

    then : access ∷ next ∷ (done ++ rest) ≡ MakeSegment agreed.service_hash number node (max_nodes_of agreed.settings) making.Made
        ∷ Publish agreed.service_hash number (line Two agreed) publishing.Published ∷ flat pieces
        → next ≡ Publish agreed.service_hash number (line Two agreed) publishing.Published
    then e = cc

    tail : access ∷ next ∷ (done ++ rest) ≡ MakeSegment agreed.service_hash number node (max_nodes_of agreed.settings) making.Made
        ∷ Publish agreed.service_hash number (line Two agreed) publishing.Published ∷ flat pieces
        → done ++ rest ≡ flat pieces
    tail e = cc

pub careful-front : (done rest : List Access) (old mid : Steps) → Careful (done ++ rest) → Roomy old.table
    → Went SteppedSight old done mid → Roomy mid.table
careful-front done rest old mid c roomy went = pieces-front c.pieces done rest old mid c.fine roomy c.is went

-- ---- closing

module _ (hash : ServiceHash) where
  unlocks-careful : (number : ℕ) (made : List Access) → Unlocks hash number made → Careful made
  unlocks-careful number (Unlock under of ∷ rest) h = one (Unlock under of) rest tt (nothing rest h.2)
  unlocks-careful number made h = absurd h

  undoes-careful : (number : ℕ) (made : List Access) → Undoes hash number made → Careful made
  undoes-careful number (RemoveSegment under of answer ∷ rest) h
      = one (RemoveSegment under of answer) rest tt (unlocks-careful number rest h.2)
  undoes-careful number made h = absurd h

  removes-segment-careful : (number : ℕ) (made : List Access) (result : Result (Unit {0}) CloseError)
      → RemovesSegment hash number made result → Careful made
  removes-segment-careful number (RemoveSegment under of answer ∷ rest) result h
      = one (RemoveSegment under of answer) rest tt (nothing rest h.2)
  removes-segment-careful number made result h = absurd h

  removal-careful : (number : ℕ) (answer : RemoveAnswer) (made : List Access) (result : Result (Unit {0}) CloseError)
      → RemovalGoes hash number answer made result → Careful made
  removal-careful number removing.Removed made result h = removes-segment-careful number made result h
  removal-careful number removing.Fault made result h = nothing made h.0

  removes-careful : (number : ℕ) (made : List Access) (result : Result (Unit {0}) CloseError) → Removes hash number made result
      → Careful made
  removes-careful number (RemoveDescription under of answer ∷ rest) result h
      = one (RemoveDescription under of answer) rest tt (removal-careful number answer rest result h.2)
  removes-careful number made result h = absurd h

  leave-goes-careful : (number : ℕ) (answer : LeaveAnswer) (made : List Access) (result : Result (Unit {0}) CloseError)
      → LeaveGoes hash number answer made result → Careful made
  leave-goes-careful number leaving.Stays made result h = nothing made h.0
  leave-goes-careful number leaving.Emptied made result h = removes-careful number made result h

  pub closes-careful : (number node : ℕ) (made : List Access) (result : Result (Unit {0}) CloseError)
      → Closes hash number node made result → Careful made
  closes-careful number node (Leave under of by answer ∷ rest) result h
      = one (Leave under of by answer) rest tt (leave-goes-careful number answer rest result h.3)
  closes-careful number node made result h = absurd h

-- ---- creating

module _ (node : ℕ) (agreed : Agreement) where
  abbrev hash : ServiceHash
  hash = agreed.service_hash

  publishes-shape : (number : ℕ) (made : List Access) (came : Attempt) → Publishes agreed.service_hash number agreed made came
      → Careful made ⊎ (made ≡ Publish agreed.service_hash number (line Two agreed) publishing.Published ∷ [])
  publishes-shape number (Publish under of bytes publishing.Published ∷ rest) came (own, same, spelled, (none, is)) = inr cc
  publishes-shape number (Publish under of bytes publishing.Fault ∷ rest) came h
      = inl (one (Publish under of bytes publishing.Fault) rest tt (undoes-careful agreed.service_hash number rest h.3.0))
  publishes-shape number (Publish under of bytes publishing.OutOfMemory ∷ rest) came h
      = inl (one (Publish under of bytes publishing.OutOfMemory) rest tt (undoes-careful agreed.service_hash number rest h.3.0))
  publishes-shape number (RemoveSegment under of answer ∷ rest) came h
      = inl (undoes-careful agreed.service_hash number (RemoveSegment under of answer ∷ rest) h.0)
  publishes-shape number made came h = absurd h

  makes-careful : (number : ℕ) (made : List Access) (came : Attempt) → IsWithinLimits agreed
      → Makes agreed.service_hash node number agreed made came → Careful made
  makes-careful number (MakeSegment under of by room making.Made ∷ rest) came within (own, same, who, wide, goes)
      = there (publishes-shape number rest came goes)
    where
      there : Careful rest ⊎ (rest ≡ Publish agreed.service_hash number (line Two agreed) publishing.Published ∷ [])
          → Careful (MakeSegment under of by room making.Made ∷ rest)
      there (inl c) = one (MakeSegment under of by room making.Made) rest tt c
      there (inr is) = record { pieces = Both number node agreed ∷ []; is = cc; fine = (within, tt) }
  makes-careful number (MakeSegment under of by room making.Fault ∷ rest) came within h
      = one (MakeSegment under of by room making.Fault) rest tt (unlocks-careful agreed.service_hash number rest h.4.0)
  makes-careful number (MakeSegment under of by room making.OutOfMemory ∷ rest) came within h
      = one (MakeSegment under of by room making.OutOfMemory) rest tt (unlocks-careful agreed.service_hash number rest h.4.0)
  makes-careful number made came within h = absurd h

  lock-goes-careful : (took : Result ℕ Attempt) (made : List Access) (came : Attempt) → IsWithinLimits agreed
      → LockGoes agreed.service_hash node agreed took made came → Careful made
  lock-goes-careful (Ok number) made came within h = makes-careful number made came within h
  lock-goes-careful (Err other) made came within h = nothing made h.0

  locks-careful : (made : List Access) (came : Attempt) → IsWithinLimits agreed → Locks agreed.service_hash node agreed made came
      → Careful made
  locks-careful (Lock under by answer ∷ rest) came within h
      = one (Lock under by answer) rest tt (lock-goes-careful (lock_gives answer) rest came within h.2)
  locks-careful made came within h = absurd h

  creates-seen-careful : (refusal : Option CreateFailure) (made : List Access) (came : Attempt) → IsWithinLimits agreed
      → CreatesSeen agreed.service_hash node agreed refusal made came → Careful made
  creates-seen-careful None made came within h = locks-careful made came within h
  creates-seen-careful (Some failure) made came within h = nothing made h.0

  pub creates-careful : (refusal : Option CreateFailure) (made : List Access) (result : Result Opened CreateFailure)
      → (refusal ≡ None → IsWithinLimits agreed) → CreatesIf agreed.service_hash node agreed refusal made result → Careful made
  creates-careful (Some failure) made result within h = nothing made h.0
  creates-careful None (Look under answer ∷ rest) result within h
      = one (Look under answer) rest tt (creates-seen-careful (refusal_seen h.0) rest h.1 (within refl) h.4)
  creates-careful None made result within h = absurd h

-- ---- opening

module _ {R : Type 0} (round : List Access → Option R → Type 0)
    (careful : (made : List Access) (result : Option R) → round made result → Careful made) where
  led-careful : (count : ℕ) (made : List Access) → Led round count made → Careful made
  led-careful zero made h = nothing made h
  led-careful (suc count) made (before, last, all, led, leading)
      = subst (λ m. Careful m) (sym all) (careful-append before last (led-careful count before led) (careful last None leading))

  pub rounds-careful : (exhausted : R) (made : List Access) (result : R) → Rounds round exhausted made result → Careful made
  rounds-careful exhausted made result r =
      let before = led-careful r.count r.before r.led in
      subst (λ m. Careful m) (sym r.all) (careful-append r.before r.last before
      (⊎_elim (λ ending. careful r.last (Some result) ending.1) (λ ending. nothing r.last ending.1) r.ends))

module _ {V : Type 0} (hash : ServiceHash) (node : ℕ) (verdict : Agreement → Result (Unit {0}) V) where
  registers-careful : (number : ℕ) (agreed : Agreement) (made : List Access) (result : Option (Result Opened (OpenFailure V)))
      → Registers hash node verdict number agreed made result → Careful made
  registers-careful number agreed (OpenSegment under of by answer ∷ rest) result h
      = one (OpenSegment under of by answer) rest tt (nothing rest h.3)
  registers-careful number agreed made result h = absurd h

  judged-careful : (number : ℕ) (agreed : Agreement) (judged : Result (Unit {0}) V) (made : List Access)
      (result : Option (Result Opened (OpenFailure V)))
      → OpensJudged hash node verdict number agreed judged made result → Careful made
  judged-careful number agreed (Ok met) made result h = registers-careful number agreed made result h
  judged-careful number agreed (Err unmet) made result h = nothing made h.0

  seen-careful : (shown : Sight) (made : List Access) (result : Option (Result Opened (OpenFailure V)))
      → OpensSeen hash node verdict shown made result → Careful made
  seen-careful sight.Absent made result h = nothing made h.0
  seen-careful (sight.Standing number agreed) made result h = judged-careful number agreed (verdict agreed) made result h
  seen-careful (sight.Failed failure) made result h = nothing made h.0

  pub round-careful : (made : List Access) (result : Option (Result Opened (OpenFailure V))) → OpenRound hash node verdict made result
      → Careful made
  round-careful (Look under answer ∷ rest) result h = one (Look under answer) rest tt (seen-careful h.0 rest result h.3)
  round-careful made result h = absurd h

module _ {V : Type 0} (node : ℕ) (verdict : Agreement → Result (Unit {0}) V) (agreed : Agreement) (refusal : Option CreateFailure)
    (within : refusal ≡ None → IsWithinLimits agreed) where
  either-creates-careful : (refused : Option CreateFailure) (made : List Access)
      (result : Option (Result Opened (OpenOrCreateFailure V))) → (refused ≡ None → IsWithinLimits agreed)
      → EitherCreates agreed.service_hash node verdict agreed refusal refused made result → Careful made
  either-creates-careful (Some failure) made result fits h = nothing made h.0
  either-creates-careful None made result fits h = locks-careful node agreed made h.0 (fits refl) h.1

  either-seen-careful : (shown : Sight) (made : List Access) (result : Option (Result Opened (OpenOrCreateFailure V)))
      → EitherSeen agreed.service_hash node verdict agreed refusal shown made result → Careful made
  either-seen-careful sight.Absent made result h = either-creates-careful refusal made result within h
  either-seen-careful (sight.Standing number other) made result h
      = judged-careful agreed.service_hash node verdict number other (verdict other) made h.0 h.1
  either-seen-careful (sight.Failed failure) made result h = nothing made h.0

  pub either-careful : (made : List Access) (result : Option (Result Opened (OpenOrCreateFailure V)))
      → EitherRound agreed.service_hash node verdict agreed refusal made result → Careful made
  either-careful (Look under answer ∷ rest) result h = one (Look under answer) rest tt (either-seen-careful h.0 rest result h.3)
  either-careful made result h = absurd h
