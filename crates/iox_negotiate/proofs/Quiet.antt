-- Creating and opening make no leave, and closing makes one, first.
use Rattle.std.proofs.Common.{◌≡◌, ℕ, zero, suc, List, [], ◌∷◌, Option, None, Some, Result, Ok, Err, sym, subst}
use Rattle.std.proofs.Math.Logic.{⊎_elim}
use Rattle.iox_negotiate_table.specs.DescribeBase.declared.hash.ServiceHash.{ServiceHash}
use Rattle.iox_negotiate_table.specs.DescribeSettings.Agreement.{Agreement}
use Rattle.iox_negotiate_table.specs.NegotiateBase.Access.{Access, Look, Lock, MakeSegment, Publish, Unlock, OpenSegment}
use Rattle.iox_negotiate_table.specs.NegotiateBase.Access.{RemoveDescription, RemoveSegment}
use Rattle.iox_negotiate_table.specs.NegotiateBase.Creating.{Unlocks, Undoes, PublishGoes, Publishes, MakeGoes, Makes, LockGoes, Locks}
use Rattle.iox_negotiate_table.specs.NegotiateBase.Creating.{CreatesSeen, CreatesIf}
use Rattle.iox_negotiate_table.specs.NegotiateBase.Failing.{refusal_seen, lock_gives, making_failure, publishing_failure}
use Rattle.iox_negotiate_table.specs.NegotiateBase.Opening.{Registers, OpensJudged, OpensSeen, OpenRound, EitherCreates, EitherSeen}
use Rattle.iox_negotiate_table.specs.NegotiateBase.Opening.{EitherRound}
use Rattle.iox_negotiate_table.specs.NegotiateBase.Runs.{Led, Rounds}
use Rattle.iox_negotiate_table.specs.NegotiateBase.declared.creation.Attempt.{Attempt}
use Rattle.iox_negotiate_table.specs.NegotiateBase.declared.failure.CreateFailure.{CreateFailure}
use Rattle.iox_negotiate_table.specs.NegotiateBase.declared.failure.OpenFailure.{OpenFailure}
use Rattle.iox_negotiate_table.specs.NegotiateBase.declared.failure.OpenOrCreateFailure.{OpenOrCreateFailure}
use Rattle.iox_negotiate_table.specs.NegotiateBase.declared.request.Opened.{Opened}
use Rattle.iox_negotiate_table.specs.NegotiateBase.declared.sight.Sight.{Sight}
use Rattle.iox_negotiate_table.specs.NegotiateBase.declared.sight.Sight.TheVariants as sight
use Rattle.iox_negotiate_table.specs.NegotiateBase.declared.answer.LeaveAnswer.{LeaveAnswer}
use Rattle.iox_negotiate_table.specs.NegotiateBase.declared.answer.LeaveAnswer.TheVariants as leaving
use Rattle.iox_negotiate_table.specs.NegotiateBase.declared.answer.RemoveAnswer.{RemoveAnswer}
use Rattle.iox_negotiate_table.specs.NegotiateBase.declared.answer.RemoveAnswer.TheVariants as removing
use Rattle.iox_negotiate.specs.NegotiateBase.declared.errors.close.CloseError.{CloseError}
use Rattle.iox_negotiate.specs.Factory.{RemovesSegment, RemovalGoes, Removes, LeaveGoes}
use Rattle.iox_negotiate.proofs.Stepping.{AllQuiet, quiet-append}

nothing : (made : List Access) → made ≡ [] → AllQuiet made
nothing made none = subst (λ m. AllQuiet m) (sym none) tt

module _ (hash : ServiceHash) where
  unlocks-quiet : (number : ℕ) (made : List Access) → Unlocks hash number made → AllQuiet made
  unlocks-quiet number (Unlock under of ∷ rest) h = (tt, nothing rest h.2)
  unlocks-quiet number made h = absurd h

  undoes-quiet : (number : ℕ) (made : List Access) → Undoes hash number made → AllQuiet made
  undoes-quiet number (RemoveSegment under of answer ∷ rest) h = (tt, unlocks-quiet number rest h.2)
  undoes-quiet number made h = absurd h

  publish-goes-quiet : (number : ℕ) (agreed : Agreement) (failure : Option CreateFailure) (made : List Access) (came : Attempt)
      → PublishGoes hash number agreed failure made came → AllQuiet made
  publish-goes-quiet number agreed None made came h = nothing made h.0
  publish-goes-quiet number agreed (Some failure) made came h = undoes-quiet number made h.0

  publishes-quiet : (number : ℕ) (agreed : Agreement) (made : List Access) (came : Attempt) → Publishes hash number agreed made came
      → AllQuiet made
  publishes-quiet number agreed (Publish under of bytes answer ∷ rest) came h
      = (tt, publish-goes-quiet number agreed (publishing_failure answer) rest came h.3)
  publishes-quiet number agreed (RemoveSegment under of answer ∷ rest) came h
      = undoes-quiet number (RemoveSegment under of answer ∷ rest) h.0
  publishes-quiet number agreed made came h = absurd h

  make-goes-quiet : (number : ℕ) (agreed : Agreement) (failure : Option CreateFailure) (made : List Access) (came : Attempt)
      → MakeGoes hash number agreed failure made came → AllQuiet made
  make-goes-quiet number agreed None made came h = publishes-quiet number agreed made came h
  make-goes-quiet number agreed (Some failure) made came h = unlocks-quiet number made h.0

  makes-quiet : (node number : ℕ) (agreed : Agreement) (made : List Access) (came : Attempt) → Makes hash node number agreed made came
      → AllQuiet made
  makes-quiet node number agreed (MakeSegment under of by room answer ∷ rest) came h
      = (tt, make-goes-quiet number agreed (making_failure answer) rest came h.4)
  makes-quiet node number agreed made came h = absurd h

  lock-goes-quiet : (node : ℕ) (agreed : Agreement) (took : Result ℕ Attempt) (made : List Access) (came : Attempt)
      → LockGoes hash node agreed took made came → AllQuiet made
  lock-goes-quiet node agreed (Ok number) made came h = makes-quiet node number agreed made came h
  lock-goes-quiet node agreed (Err other) made came h = nothing made h.0

  locks-quiet : (node : ℕ) (agreed : Agreement) (made : List Access) (came : Attempt) → Locks hash node agreed made came → AllQuiet made
  locks-quiet node agreed (Lock under by answer ∷ rest) came h = (tt, lock-goes-quiet node agreed (lock_gives answer) rest came h.2)
  locks-quiet node agreed made came h = absurd h

  creates-seen-quiet : (node : ℕ) (agreed : Agreement) (refusal : Option CreateFailure) (made : List Access) (came : Attempt)
      → CreatesSeen hash node agreed refusal made came → AllQuiet made
  creates-seen-quiet node agreed None made came h = locks-quiet node agreed made came h
  creates-seen-quiet node agreed (Some failure) made came h = nothing made h.0

  pub creates-quiet : (node : ℕ) (agreed : Agreement) (refusal : Option CreateFailure) (made : List Access)
      (result : Result Opened CreateFailure) → CreatesIf hash node agreed refusal made result → AllQuiet made
  creates-quiet node agreed (Some failure) made result h = nothing made h.0
  creates-quiet node agreed None (Look under answer ∷ rest) result h = (tt, creates-seen-quiet node agreed (refusal_seen h.0) rest h.1 h.4)
  creates-quiet node agreed None made result h = absurd h

  removes-segment-quiet : (number : ℕ) (made : List Access) (result : Result (Unit {0}) CloseError)
      → RemovesSegment hash number made result → AllQuiet made
  removes-segment-quiet number (RemoveSegment under of answer ∷ rest) result h = (tt, nothing rest h.2)
  removes-segment-quiet number made result h = absurd h

  removal-quiet : (number : ℕ) (answer : RemoveAnswer) (made : List Access) (result : Result (Unit {0}) CloseError)
      → RemovalGoes hash number answer made result → AllQuiet made
  removal-quiet number removing.Removed made result h = removes-segment-quiet number made result h
  removal-quiet number removing.Fault made result h = nothing made h.0

  removes-quiet : (number : ℕ) (made : List Access) (result : Result (Unit {0}) CloseError) → Removes hash number made result
      → AllQuiet made
  removes-quiet number (RemoveDescription under of answer ∷ rest) result h = (tt, removal-quiet number answer rest result h.2)
  removes-quiet number made result h = absurd h

  pub leave-goes-quiet : (number : ℕ) (answer : LeaveAnswer) (made : List Access) (result : Result (Unit {0}) CloseError)
      → LeaveGoes hash number answer made result → AllQuiet made
  leave-goes-quiet number leaving.Stays made result h = nothing made h.0
  leave-goes-quiet number leaving.Emptied made result h = removes-quiet number made result h

module _ {R : Type 0} (round : List Access → Option R → Type 0)
    (quiet : (made : List Access) (result : Option R) → round made result → AllQuiet made) where
  pub led-quiet : (count : ℕ) (made : List Access) → Led round count made → AllQuiet made
  led-quiet zero made h = nothing made h
  led-quiet (suc count) made (before, last, all, led, leading)
      = subst (λ m. AllQuiet m) (sym all) (quiet-append before last (led-quiet count before led) (quiet last None leading))

  pub rounds-quiet : (exhausted : R) (made : List Access) (result : R) → Rounds round exhausted made result → AllQuiet made
  rounds-quiet exhausted made result r =
      let before = led-quiet r.count r.before r.led in
      subst (λ m. AllQuiet m) (sym r.all)
      (quiet-append r.before r.last before
      (⊎_elim (λ ending. quiet r.last (Some result) ending.1) (λ ending. nothing r.last ending.1) r.ends))

module _ {V : Type 0} (hash : ServiceHash) (node : ℕ) (verdict : Agreement → Result (Unit {0}) V) where
  registers-quiet : (number : ℕ) (agreed : Agreement) (made : List Access) (result : Option (Result Opened (OpenFailure V)))
      → Registers hash node verdict number agreed made result → AllQuiet made
  registers-quiet number agreed (OpenSegment under of by answer ∷ rest) result h = (tt, nothing rest h.3)
  registers-quiet number agreed made result h = absurd h

  judged-quiet : (number : ℕ) (agreed : Agreement) (judged : Result (Unit {0}) V) (made : List Access)
      (result : Option (Result Opened (OpenFailure V)))
      → OpensJudged hash node verdict number agreed judged made result → AllQuiet made
  judged-quiet number agreed (Ok met) made result h = registers-quiet number agreed made result h
  judged-quiet number agreed (Err unmet) made result h = nothing made h.0

  seen-quiet : (shown : Sight) (made : List Access) (result : Option (Result Opened (OpenFailure V)))
      → OpensSeen hash node verdict shown made result → AllQuiet made
  seen-quiet sight.Absent made result h = nothing made h.0
  seen-quiet (sight.Standing number agreed) made result h = judged-quiet number agreed (verdict agreed) made result h
  seen-quiet (sight.Failed failure) made result h = nothing made h.0

  pub round-quiet : (made : List Access) (result : Option (Result Opened (OpenFailure V))) → OpenRound hash node verdict made result
      → AllQuiet made
  round-quiet (Look under answer ∷ rest) result h = (tt, seen-quiet h.0 rest result h.3)
  round-quiet made result h = absurd h

  module _ (agreed : Agreement) (refusal : Option CreateFailure) where
    either-creates-quiet : (refused : Option CreateFailure) (made : List Access) (result : Option (Result Opened (OpenOrCreateFailure V)))
        → EitherCreates hash node verdict agreed refusal refused made result → AllQuiet made
    either-creates-quiet (Some failure) made result h = nothing made h.0
    either-creates-quiet None made result h = locks-quiet hash node agreed made h.0 h.1

    either-seen-quiet : (shown : Sight) (made : List Access) (result : Option (Result Opened (OpenOrCreateFailure V)))
        → EitherSeen hash node verdict agreed refusal shown made result → AllQuiet made
    either-seen-quiet sight.Absent made result h = either-creates-quiet refusal made result h
    either-seen-quiet (sight.Standing number other) made result h = judged-quiet number other (verdict other) made h.0 h.1
    either-seen-quiet (sight.Failed failure) made result h = nothing made h.0

    pub either-quiet : (made : List Access) (result : Option (Result Opened (OpenOrCreateFailure V)))
        → EitherRound hash node verdict agreed refusal made result → AllQuiet made
    either-quiet (Look under answer ∷ rest) result h = (tt, either-seen-quiet h.0 rest result h.3)
    either-quiet made result h = absurd h
