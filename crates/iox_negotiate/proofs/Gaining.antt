-- What a call registers: one that answers no service registers nothing, and one that answers a service registers it with its last storage
-- operations.
use Rattle.std.proofs.Common.{◌≡◌, ℕ, zero, suc, cond, ◌&&◌, List, [], ◌∷◌, ◌++◌, Option, None, Some, Result, Ok, Err, nat_eq, refl, sym}
use Rattle.std.proofs.Common.{ap, subst, ◌∙◌, ◌⊎◌, inl, inr}
use Rattle.std.proofs.Math.Logic.{⊎_elim}
use Rattle.iox_negotiate_table.specs.DescribeBase.declared.hash.ServiceHash.{ServiceHash}
use Rattle.iox_negotiate_table.specs.DescribeSettings.Agreement.{Agreement}
use Rattle.iox_negotiate_table.specs.NegotiateBase.Access.{Access, Look, Lock, MakeSegment, Publish, Unlock, OpenSegment}
use Rattle.iox_negotiate_table.specs.NegotiateBase.Access.{RemoveDescription, RemoveSegment}
use Rattle.iox_negotiate_table.specs.NegotiateBase.Creating.{Unlocks, Undoes, Publishes, Makes, LockGoes, Locks, CreatesSeen, CreatesIf}
use Rattle.iox_negotiate_table.specs.NegotiateBase.Failing.{refusal_seen, lock_gives, brought_about, entered, created, created_or_again}
use Rattle.iox_negotiate_table.specs.NegotiateBase.Failing.{opened_or_again}
use Rattle.iox_negotiate_table.specs.NegotiateBase.Opening.{Registers, OpensJudged, OpensSeen, OpenRound, EitherCreates, EitherSeen}
use Rattle.iox_negotiate_table.specs.NegotiateBase.Opening.{EitherRound}
use Rattle.iox_negotiate_table.specs.NegotiateBase.Runs.{Led, Rounds}
use Rattle.iox_negotiate_table.specs.NegotiateBase.declared.answer.LockAnswer.{LockAnswer}
use Rattle.iox_negotiate_table.specs.NegotiateBase.declared.answer.LockAnswer.TheVariants as lock
use Rattle.iox_negotiate_table.specs.NegotiateBase.declared.answer.MakeSegmentAnswer.TheVariants as making
use Rattle.iox_negotiate_table.specs.NegotiateBase.declared.answer.PublishAnswer.TheVariants as publishing
use Rattle.iox_negotiate_table.specs.NegotiateBase.declared.answer.OpenSegmentAnswer.{OpenSegmentAnswer}
use Rattle.iox_negotiate_table.specs.NegotiateBase.declared.answer.OpenSegmentAnswer.TheVariants as opening
use Rattle.iox_negotiate_table.specs.NegotiateBase.declared.answer.LeaveAnswer.{LeaveAnswer}
use Rattle.iox_negotiate_table.specs.NegotiateBase.declared.answer.LeaveAnswer.TheVariants as leaving
use Rattle.iox_negotiate_table.specs.NegotiateBase.declared.answer.RemoveAnswer.{RemoveAnswer}
use Rattle.iox_negotiate_table.specs.NegotiateBase.declared.answer.RemoveAnswer.TheVariants as removing
use Rattle.iox_negotiate_table.specs.NegotiateBase.declared.creation.Attempt.{Attempt}
use Rattle.iox_negotiate_table.specs.NegotiateBase.declared.creation.Attempt.TheVariants as attempt
use Rattle.iox_negotiate_table.specs.NegotiateBase.declared.failure.CreateFailure.{CreateFailure}
use Rattle.iox_negotiate_table.specs.NegotiateBase.declared.failure.OpenFailure.{OpenFailure}
use Rattle.iox_negotiate_table.specs.NegotiateBase.declared.failure.OpenOrCreateFailure.{OpenOrCreateFailure}
use Rattle.iox_negotiate_table.specs.NegotiateBase.declared.request.Opened.{Opened}
use Rattle.iox_negotiate_table.specs.NegotiateBase.declared.sight.Sight.{Sight}
use Rattle.iox_negotiate_table.specs.NegotiateBase.declared.sight.Sight.TheVariants as sight
use Rattle.iox_negotiate.specs.NegotiateBase.declared.errors.close.CloseError.{CloseError}
use Rattle.iox_negotiate.specs.Factory.{RemovesSegment, RemovalGoes, Removes, LeaveGoes}
use Rattle.iox_negotiate.specs.Histories.{Event, Accesses}
use Rattle.iox_negotiate.proofs.Rooming.{Unpublishing}

-- how many factories an event registers of a node, in the service of a number
abbrev pub added : Event → ℕ → ℕ → ℕ
added (Accesses (OpenSegment hash number node opening.Registered)) at by = cond (nat_eq number at && nat_eq node by) 1 0
added event at by = 0

-- a storage operation that registers nothing
abbrev pub Calm : Access → Type 0
Calm access = Unpublishing access × ((at by : ℕ) → added (Accesses access) at by ≡ 0)

abbrev pub AllCalm : List Access → Type 0
AllCalm [] = Unit {0}
AllCalm (access ∷ accesses) = Calm access × AllCalm accesses

-- the last storage operations of a call that goes well
pub data Last (node number : ℕ) (made : List Access) : Type 0 where
  Entrance : (hash : ServiceHash) (is : made ≡ OpenSegment hash number node opening.Registered ∷ []) → Last node number made
  Publication : (hash : ServiceHash) (room : ℕ) (bytes : List ℕ)
      (is : made ≡ MakeSegment hash number node room making.Made ∷ Publish hash number bytes publishing.Published ∷ [])
      → Last node number made

-- storage operations of which the last ones register a factory, and no others
pub record Gain (node : ℕ) (service : Opened) (made : List Access) : Type 0 where
  pub front : List Access
  pub last : List Access
  pub is : made ≡ front ++ last
  pub calm : AllCalm front
  pub ends : Last node service.number last

abbrev pub Gains : ℕ → Option Opened → List Access → Type 0
Gains node None made = AllCalm made
Gains node (Some service) made = Gain node service made

-- the service that was answered
abbrev pub won : {F : Type 0} → Result Opened F → Option Opened
won (Ok service) = Some service
won (Err failure) = None

abbrev came : {F : Type 0} → Option (Result Opened F) → Option Opened
came None = None
came (Some result) = won result

abbrev made_of : Attempt → Option Opened
made_of (attempt.Made service) = Some service
made_of attempt.IsLocked = None
made_of attempt.Exists = None
made_of (attempt.Failed failure) = None

nothing : (made : List Access) → made ≡ [] → AllCalm made
nothing made none = subst (λ m. AllCalm m) (sym none) tt

calm-append : (front back : List Access) → AllCalm front → AllCalm back → AllCalm (front ++ back)
calm-append [] back first last = last
calm-append (access ∷ front) back first last = (first.0, calm-append front back first.1 last)

module _ (node : ℕ) where
  more : (service : Option Opened) (access : Access) (rest : List Access) → Calm access → Gains node service rest
      → Gains node service (access ∷ rest)
  more None access rest calm g = (calm, g)
  more (Some service) access rest calm g
      = record { front = access ∷ g.front; last = g.last; is = ap (λ r. access ∷ r) g.is; calm = (calm, g.calm); ends = g.ends }

  behind : (service : Option Opened) (front rest : List Access) → AllCalm front → Gains node service rest
      → Gains node service (front ++ rest)
  behind service [] rest calm g = g
  behind service (access ∷ front) rest calm g = more service access (front ++ rest) calm.0 (behind service front rest calm.1 g)

  none-gained : {T : Type 0} (of : T → Option Opened) (given answer : T) (made : List Access) → made ≡ [] → given ≡ answer
      → of answer ≡ None → Gains node (of given) made
  none-gained of given answer made none is not = subst (λ g. Gains node g made) (sym (ap (λ t. of t) is ∙ not)) (nothing made none)

-- ---- closing, and what is undone

module _ (hash : ServiceHash) where
  unlocks-calm : (number : ℕ) (made : List Access) → Unlocks hash number made → AllCalm made
  unlocks-calm number (Unlock under of ∷ rest) h = ((tt, λ at by. refl), nothing rest h.2)
  unlocks-calm number made h = absurd h

  undoes-calm : (number : ℕ) (made : List Access) → Undoes hash number made → AllCalm made
  undoes-calm number (RemoveSegment under of answer ∷ rest) h = ((tt, λ at by. refl), unlocks-calm number rest h.2)
  undoes-calm number made h = absurd h

  removes-segment-calm : (number : ℕ) (made : List Access) (result : Result (Unit {0}) CloseError)
      → RemovesSegment hash number made result → AllCalm made
  removes-segment-calm number (RemoveSegment under of answer ∷ rest) result h = ((tt, λ at by. refl), nothing rest h.2)
  removes-segment-calm number made result h = absurd h

  removal-calm : (number : ℕ) (answer : RemoveAnswer) (made : List Access) (result : Result (Unit {0}) CloseError)
      → RemovalGoes hash number answer made result → AllCalm made
  removal-calm number removing.Removed made result h = removes-segment-calm number made result h
  removal-calm number removing.Fault made result h = nothing made h.0

  removes-calm : (number : ℕ) (made : List Access) (result : Result (Unit {0}) CloseError) → Removes hash number made result → AllCalm made
  removes-calm number (RemoveDescription under of answer ∷ rest) result h
      = ((tt, λ at by. refl), removal-calm number answer rest result h.2)
  removes-calm number made result h = absurd h

  pub leave-goes-calm : (number : ℕ) (answer : LeaveAnswer) (made : List Access) (result : Result (Unit {0}) CloseError)
      → LeaveGoes hash number answer made result → AllCalm made
  leave-goes-calm number leaving.Stays made result h = nothing made h.0
  leave-goes-calm number leaving.Emptied made result h = removes-calm number made result h

-- ---- creating

module _ (hash : ServiceHash) (node : ℕ) (agreed : Agreement) where
  -- the description is published, or no service is made
  publishes-shape : (number : ℕ) (made : List Access) (came-to : Attempt) → Publishes hash number agreed made came-to
      → (AllCalm made × (made_of came-to ≡ None))
      ⊎ ((bytes : List ℕ) × (made ≡ Publish hash number bytes publishing.Published ∷ [])
      × (came-to ≡ attempt.Made (brought_about number agreed)))
  publishes-shape number (Publish under of bytes publishing.Published ∷ rest) came-to (own, same, spelled, (none, is)) = inr (bytes, cc, is)
  publishes-shape number (Publish under of bytes publishing.Fault ∷ rest) came-to (own, same, spelled, (undone, is)) =
      inl (((tt, λ at by. refl), undoes-calm hash number rest undone), ap (λ a. made_of a) is)
  publishes-shape number (Publish under of bytes publishing.OutOfMemory ∷ rest) came-to (own, same, spelled, (undone, is)) =
      inl (((tt, λ at by. refl), undoes-calm hash number rest undone), ap (λ a. made_of a) is)
  publishes-shape number (RemoveSegment under of answer ∷ rest) came-to h
      = inl (undoes-calm hash number (RemoveSegment under of answer ∷ rest) h.0, ap (λ a. made_of a) h.1)
  publishes-shape number made came-to h = absurd h

  makes-gains : (number : ℕ) (made : List Access) (came-to : Attempt) → Makes hash node number agreed made came-to
      → Gains node (made_of came-to) made
  makes-gains number (MakeSegment under of by room making.Made ∷ rest) came-to (own, same, who, wide, goes)
      = there (publishes-shape number rest came-to goes)
    where
      there : (AllCalm rest × (made_of came-to ≡ None))
          ⊎ ((bytes : List ℕ) × (rest ≡ Publish hash number bytes publishing.Published ∷ [])
          × (came-to ≡ attempt.Made (brought_about number agreed)))
          → Gains node (made_of came-to) (MakeSegment under of by room making.Made ∷ rest)
      there (inl (calm, none)) = subst (λ s. Gains node s (MakeSegment under of by room making.Made ∷ rest)) (sym none)
          ((tt, λ at d. refl), calm)
      there (inr (bytes, list, is)) = subst (λ a. Gains node (made_of a) (MakeSegment under of by room making.Made ∷ rest)) (sym is)
          (record {
            front = [];
            last = MakeSegment under of by room making.Made ∷ rest;
            is = refl;
            calm = tt;
            ends
                = Publication hash room bytes (whole bytes list);
          })
        where
          whole : (bytes : List ℕ) → rest ≡ Publish hash number bytes publishing.Published ∷ []
              → MakeSegment under of by room making.Made ∷ rest ≡ MakeSegment hash number node room making.Made
              ∷ Publish hash number bytes publishing.Published ∷ []
          whole bytes list = cc
  makes-gains number (MakeSegment under of by room making.Fault ∷ rest) came-to (own, same, who, wide, (undone, is)) =
      subst (λ a. Gains node (made_of a) (MakeSegment under of by room making.Fault ∷ rest)) (sym is)
      ((tt, λ at d. refl), unlocks-calm hash number rest undone)
  makes-gains number (MakeSegment under of by room making.OutOfMemory ∷ rest) came-to (own, same, who, wide, (undone, is)) =
      subst (λ a. Gains node (made_of a) (MakeSegment under of by room making.OutOfMemory ∷ rest)) (sym is)
      ((tt, λ at d. refl), unlocks-calm hash number rest undone)
  makes-gains number made came-to h = absurd h

  lock-gains : (answer : LockAnswer) (made : List Access) (came-to : Attempt)
      → LockGoes hash node agreed (lock_gives answer) made came-to → Gains node (made_of came-to) made
  lock-gains (lock.Taken number) made came-to h = makes-gains number made came-to h
  lock-gains lock.IsLocked made came-to h = none-gained node (λ a. made_of a) came-to _ made h.0 h.1 refl
  lock-gains lock.Exists made came-to h = none-gained node (λ a. made_of a) came-to _ made h.0 h.1 refl
  lock-gains lock.Denied made came-to h = none-gained node (λ a. made_of a) came-to _ made h.0 h.1 refl
  lock-gains lock.Fault made came-to h = none-gained node (λ a. made_of a) came-to _ made h.0 h.1 refl
  lock-gains lock.OutOfMemory made came-to h = none-gained node (λ a. made_of a) came-to _ made h.0 h.1 refl

  locks-gains : (made : List Access) (came-to : Attempt) → Locks hash node agreed made came-to → Gains node (made_of came-to) made
  locks-gains (Lock under by answer ∷ rest) came-to h
      = more node (made_of came-to) (Lock under by answer) rest (tt, λ at d. refl) (lock-gains answer rest came-to h.2)
  locks-gains made came-to h = absurd h

  creates-seen-gains : (refusal : Option CreateFailure) (made : List Access) (came-to : Attempt)
      → CreatesSeen hash node agreed refusal made came-to → Gains node (made_of came-to) made
  creates-seen-gains None made came-to h = locks-gains made came-to h
  creates-seen-gains (Some failure) made came-to h = none-gained node (λ a. made_of a) came-to _ made h.0 h.1 refl

  created-same : (came-to : Attempt) → made_of came-to ≡ won (created came-to)
  created-same (attempt.Made service) = refl
  created-same attempt.IsLocked = refl
  created-same attempt.Exists = refl
  created-same (attempt.Failed failure) = refl

  pub creates-gains : (refusal : Option CreateFailure) (made : List Access) (result : Result Opened CreateFailure)
      → CreatesIf hash node agreed refusal made result → Gains node (won result) made
  creates-gains (Some failure) made result h = none-gained node (λ r. won r) result _ made h.0 h.1 refl
  creates-gains None (Look under answer ∷ rest) result h =
      subst (λ s. Gains node s (Look under answer ∷ rest)) (created-same h.1 ∙ sym (ap (λ r. won r) h.5))
      (more node (made_of h.1) (Look under answer) rest (tt, λ at d. refl) (creates-seen-gains (refusal_seen h.0) rest h.1 h.4))
  creates-gains None made result h = absurd h

-- ---- opening

module _ {F : Type 0} (node : ℕ) (round : List Access → Option (Result Opened F) → Type 0)
    (gains : (made : List Access) (result : Option (Result Opened F)) → round made result → Gains node (came result) made) where
  led-calm : (count : ℕ) (made : List Access) → Led round count made → AllCalm made
  led-calm zero made h = nothing made h
  led-calm (suc count) made (before, last, all, led, leading)
      = subst (λ m. AllCalm m) (sym all) (calm-append before last (led-calm count before led) (gains last None leading))

  pub rounds-gains : (failure : F) (made : List Access) (result : Result Opened F) → Rounds round (Err failure) made result
      → Gains node (won result) made
  rounds-gains failure made result r =
      subst (λ m. Gains node (won result) m) (sym r.all) (behind node (won result) r.before r.last (led-calm r.count r.before r.led)
      (⊎_elim (λ ending. gains r.last (Some result) ending.1)
      (λ ending. none-gained node (λ a. won a) result (Err failure) r.last ending.1 ending.2 refl) r.ends))

module _ {V : Type 0} (hash : ServiceHash) (node : ℕ) (verdict : Agreement → Result (Unit {0}) V) where
  entered-gains : (number : ℕ) (agreed : Agreement) (answer : OpenSegmentAnswer) (made : List Access)
      → made ≡ OpenSegment hash number node answer ∷ [] → Gains node (came (entered {V = V} number agreed answer)) made
  entered-gains number agreed opening.Registered made is = record { front = []; last = made; is = refl; calm = tt; ends = Entrance hash is }
  entered-gains number agreed opening.Absent made is = subst (λ m. AllCalm m) (sym is) ((tt, λ at d. refl), tt)
  entered-gains number agreed opening.Marked made is = subst (λ m. AllCalm m) (sym is) ((tt, λ at d. refl), tt)
  entered-gains number agreed opening.Full made is = subst (λ m. AllCalm m) (sym is) ((tt, λ at d. refl), tt)
  entered-gains number agreed opening.Denied made is = subst (λ m. AllCalm m) (sym is) ((tt, λ at d. refl), tt)
  entered-gains number agreed opening.Fault made is = subst (λ m. AllCalm m) (sym is) ((tt, λ at d. refl), tt)
  entered-gains number agreed opening.OutOfMemory made is = subst (λ m. AllCalm m) (sym is) ((tt, λ at d. refl), tt)

  registers-gains : (number : ℕ) (agreed : Agreement) (made : List Access) (result : Option (Result Opened (OpenFailure V)))
      → Registers hash node verdict number agreed made result → Gains node (came result) made
  registers-gains number agreed (OpenSegment under of by answer ∷ rest) result (own, same, who, none, is) =
      subst (λ r. Gains node (came r) (OpenSegment under of by answer ∷ rest)) (sym is)
      (entered-gains number agreed answer (OpenSegment under of by answer ∷ rest) cc)
  registers-gains number agreed made result h = absurd h

  judged-gains : (number : ℕ) (agreed : Agreement) (judged : Result (Unit {0}) V) (made : List Access)
      (result : Option (Result Opened (OpenFailure V)))
      → OpensJudged hash node verdict number agreed judged made result → Gains node (came result) made
  judged-gains number agreed (Ok met) made result h = registers-gains number agreed made result h
  judged-gains number agreed (Err unmet) made result h = none-gained node (λ r. came r) result _ made h.0 h.1 refl

  seen-gains : (shown : Sight) (made : List Access) (result : Option (Result Opened (OpenFailure V)))
      → OpensSeen hash node verdict shown made result → Gains node (came result) made
  seen-gains sight.Absent made result h = none-gained node (λ r. came r) result _ made h.0 h.1 refl
  seen-gains (sight.Standing number agreed) made result h = judged-gains number agreed (verdict agreed) made result h
  seen-gains (sight.Failed failure) made result h = none-gained node (λ r. came r) result _ made h.0 h.1 refl

  pub round-gains : (made : List Access) (result : Option (Result Opened (OpenFailure V))) → OpenRound hash node verdict made result
      → Gains node (came result) made
  round-gains (Look under answer ∷ rest) result h
      = more node (came result) (Look under answer) rest (tt, λ at d. refl) (seen-gains h.0 rest result h.3)
  round-gains made result h = absurd h

  again-same : (came-to : Attempt) → made_of came-to ≡ came (created_or_again {V = V} came-to)
  again-same (attempt.Made service) = refl
  again-same attempt.IsLocked = refl
  again-same attempt.Exists = refl
  again-same (attempt.Failed failure) = refl

  passed-same : (answer : Option (Result Opened (OpenFailure V))) → came answer ≡ came (opened_or_again answer)
  passed-same None = refl
  passed-same (Some (Ok service)) = refl
  passed-same (Some (Err failure)) = refl

  module _ (agreed : Agreement) (refusal : Option CreateFailure) where
    either-creates-gains : (refused : Option CreateFailure) (made : List Access) (result : Option (Result Opened (OpenOrCreateFailure V)))
        → EitherCreates hash node verdict agreed refusal refused made result → Gains node (came result) made
    either-creates-gains (Some failure) made result h = none-gained node (λ r. came r) result _ made h.0 h.1 refl
    either-creates-gains None made result h
        = subst (λ s. Gains node s made) (again-same h.0 ∙ sym (ap (λ r. came r) h.2)) (locks-gains hash node agreed made h.0 h.1)

    either-seen-gains : (shown : Sight) (made : List Access) (result : Option (Result Opened (OpenOrCreateFailure V)))
        → EitherSeen hash node verdict agreed refusal shown made result → Gains node (came result) made
    either-seen-gains sight.Absent made result h = either-creates-gains refusal made result h
    either-seen-gains (sight.Standing number other) made result h =
        subst (λ s. Gains node s made) (passed-same h.0 ∙ sym (ap (λ r. came r) h.2))
        (judged-gains number other (verdict other) made h.0 h.1)
    either-seen-gains (sight.Failed failure) made result h = none-gained node (λ r. came r) result _ made h.0 h.1 refl

    pub either-gains : (made : List Access) (result : Option (Result Opened (OpenOrCreateFailure V)))
        → EitherRound hash node verdict agreed refusal made result → Gains node (came result) made
    either-gains (Look under answer ∷ rest) result h
        = more node (came result) (Look under answer) rest (tt, λ at d. refl) (either-seen-gains h.0 rest result h.3)
    either-gains made result h = absurd h
