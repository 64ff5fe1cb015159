-- How many storage operations openings make.
use Rattle.std.proofs.Common.{◌≡◌, Bool, true, false, ℕ, zero, suc, ◌+◌, ◌*◌, ◌≤◌, List, ◌∷◌, Option, None, Some, Result, Ok, Err, length}
use Rattle.std.proofs.Common.{length-append, ap, arith}
use Rattle.std.proofs.Math.Logic.{⊎_elim}
use Rattle.iox_describe.specs.DescribeBase.declared.hash.ServiceHash.{ServiceHash}
use Rattle.iox_describe.specs.DescribeSettings.Agreement.{Agreement}
use Rattle.iox_negotiate_base.specs.Access.{Access, Look, Lock, MakeSegment, Publish, OpenSegment, RemoveSegment}
use Rattle.iox_negotiate_base.specs.Creating.{Publishes, Makes, Locks}
use Rattle.iox_negotiate_base.specs.Failing.{created_or_again}
use Rattle.iox_negotiate_base.specs.Laws.{OpensInTen, OpensOrCreatesInFourteen}
use Rattle.iox_negotiate_base.specs.Opening.{Registers, OpensJudged, OpensSeen, OpenRound, EitherCreates, EitherSeen, EitherRound}
use Rattle.iox_negotiate_base.specs.Runs.{Led, Rounds}
use Rattle.iox_negotiate_base.specs.declared.answer.LockAnswer.TheVariants as lock
use Rattle.iox_negotiate_base.specs.declared.answer.MakeSegmentAnswer.TheVariants as making
use Rattle.iox_negotiate_base.specs.declared.answer.PublishAnswer.TheVariants as publishing
use Rattle.iox_negotiate_base.specs.declared.creation.Attempt.{Attempt}
use Rattle.iox_negotiate_base.specs.declared.creation.Attempt.TheVariants as attempt
use Rattle.iox_negotiate_base.specs.declared.failure.CreateFailure.{CreateFailure}
use Rattle.iox_negotiate_base.specs.declared.failure.OpenFailure.{OpenFailure}
use Rattle.iox_negotiate_base.specs.declared.failure.OpenOrCreateFailure.{OpenOrCreateFailure}
use Rattle.iox_negotiate_base.specs.declared.request.Opened.{Opened}
use Rattle.iox_negotiate_base.specs.declared.sight.Sight.{Sight}
use Rattle.iox_negotiate_base.specs.declared.sight.Sight.TheVariants as sight
use Rattle.iox_negotiate_base.proofs.Counting.{locks-length}

-- the attempt has an answer of its own
abbrev is_done : Attempt → Bool
is_done attempt.IsLocked = false
is_done attempt.Exists = false
is_done came = true

done-answers : {V : Type 0} (came : Attempt) → is_done came ≡ true → None ≡ created_or_again {V = V} came → ⊥
done-answers (attempt.Made service) done h = cc
done-answers attempt.IsLocked done h = cc
done-answers attempt.Exists done h = cc
done-answers (attempt.Failed failure) done h = cc

no-answer : {X : Type 0} (answer : X) → None ≡ Some answer → ⊥
no-answer answer h = cc

publishes-done : (hash : ServiceHash) (number : ℕ) (agreed : Agreement) (made : List Access) (came : Attempt)
    → Publishes hash number agreed made came → is_done came ≡ true
publishes-done hash number agreed (Publish under of bytes publishing.Published ∷ rest) came p = ap (λ a. is_done a) p.3.1
publishes-done hash number agreed (Publish under of bytes publishing.Fault ∷ rest) came p = ap (λ a. is_done a) p.3.1
publishes-done hash number agreed (Publish under of bytes publishing.OutOfMemory ∷ rest) came p = ap (λ a. is_done a) p.3.1
publishes-done hash number agreed (RemoveSegment under of answer ∷ rest) came p = ap (λ a. is_done a) p.1
publishes-done hash number agreed made came p = absurd p

makes-done : (hash : ServiceHash) (node number : ℕ) (agreed : Agreement) (made : List Access) (came : Attempt)
    → Makes hash node number agreed made came → is_done came ≡ true
makes-done hash node number agreed (MakeSegment under of by room making.Made ∷ rest) came m
    = publishes-done hash number agreed rest came m.4
makes-done hash node number agreed (MakeSegment under of by room making.Fault ∷ rest) came m = ap (λ a. is_done a) m.4.1
makes-done hash node number agreed (MakeSegment under of by room making.OutOfMemory ∷ rest) came m = ap (λ a. is_done a) m.4.1
makes-done hash node number agreed made came m = absurd m

-- a lock that leads to the next round is one storage operation
again-locks : {V : Type 0} (hash : ServiceHash) (node : ℕ) (agreed : Agreement) (made : List Access) (came : Attempt)
    → Locks hash node agreed made came
    → None ≡ created_or_again {V = V} came → length made ≤ 1
again-locks hash node agreed (Lock under by (lock.Taken number) ∷ rest) came l h =
    absurd (done-answers came (makes-done hash node number agreed rest came l.2) h)
again-locks hash node agreed (Lock under by lock.IsLocked ∷ rest) came l h = omega (arith, ap (λ r. length r) l.2.0)
again-locks hash node agreed (Lock under by lock.Exists ∷ rest) came l h = omega (arith, ap (λ r. length r) l.2.0)
again-locks hash node agreed (Lock under by lock.Denied ∷ rest) came l h = omega (arith, ap (λ r. length r) l.2.0)
again-locks hash node agreed (Lock under by lock.Fault ∷ rest) came l h = omega (arith, ap (λ r. length r) l.2.0)
again-locks hash node agreed (Lock under by lock.OutOfMemory ∷ rest) came l h = omega (arith, ap (λ r. length r) l.2.0)
again-locks hash node agreed made came l h = absurd l

module _ {R : Type 0} (round : List Access → Option R → Type 0) (leads : (made : List Access) → round made None → length made ≤ 2) where
  led-length : (count : ℕ) (made : List Access) → Led round count made → length made ≤ 2 * count
  led-length zero made h = omega (arith, ap (λ r. length r) h)
  led-length (suc count) made (before, last, all, led, leading) =
      omega (arith, ap (λ r. length r) all, length-append before last, led-length count before led, leads last leading)

  -- five rounds of two storage operations at most, the last of which may make more
  pub rounds-length : (most : ℕ) → 2 ≤ most → ((made : List Access) (result : R) → round made (Some result) → length made ≤ most)
      → (exhausted : R) (made : List Access) (result : R) → Rounds round exhausted made result → length made ≤ 8 + most
  rounds-length most wide ends exhausted made result r =
      let before = led-length r.count r.before r.led in
      let whole = ap (λ a. length a) r.all in
      ⊎_elim
      (λ ending. omega (arith, before, whole, length-append r.before r.last, ending.0, ends r.last result ending.1))
      (λ ending. omega (arith, before, whole, length-append r.before r.last, ending.0, ap (λ a. length a) ending.1, wide))
      r.ends

module _ {V : Type 0} (hash : ServiceHash) (node : ℕ) (verdict : Agreement → Result (Unit {0}) V) where
  registers-length : (number : ℕ) (agreed : Agreement) (made : List Access) (result : Option (Result Opened (OpenFailure V)))
      → Registers hash node verdict number agreed made result → length made ≤ 1
  registers-length number agreed (OpenSegment under of by answer ∷ rest) result h = omega (arith, ap (λ r. length r) h.3)
  registers-length number agreed made result h = absurd h

  judged-length : (number : ℕ) (agreed : Agreement) (judged : Result (Unit {0}) V) (made : List Access)
      (result : Option (Result Opened (OpenFailure V)))
      → OpensJudged hash node verdict number agreed judged made result → length made ≤ 1
  judged-length number agreed (Ok met) made result h = registers-length number agreed made result h
  judged-length number agreed (Err unmet) made result h = omega (arith, ap (λ r. length r) h.0)

  seen-length : (shown : Sight) (made : List Access) (result : Option (Result Opened (OpenFailure V)))
      → OpensSeen hash node verdict shown made result → length made ≤ 1
  seen-length sight.Absent made result h = omega (arith, ap (λ r. length r) h.0)
  seen-length (sight.Standing number agreed) made result h = judged-length number agreed (verdict agreed) made result h
  seen-length (sight.Failed failure) made result h = omega (arith, ap (λ r. length r) h.0)

  pub round-length : (made : List Access) (result : Option (Result Opened (OpenFailure V))) → OpenRound hash node verdict made result
      → length made ≤ 2
  round-length (Look under answer ∷ rest) result h = omega (arith, seen-length h.0 rest result h.3)
  round-length made result h = absurd h

  module _ (agreed : Agreement) (refusal : Option CreateFailure) where
    either-creates-length : (refused : Option CreateFailure) (made : List Access) (result : Option (Result Opened (OpenOrCreateFailure V)))
        → EitherCreates hash node verdict agreed refusal refused made result → length made ≤ 5
    either-creates-length (Some failure) made result h = omega (arith, ap (λ r. length r) h.0)
    either-creates-length None made result h = locks-length hash node agreed made h.0 h.1

    either-seen-length : (shown : Sight) (made : List Access) (result : Option (Result Opened (OpenOrCreateFailure V)))
        → EitherSeen hash node verdict agreed refusal shown made result → length made ≤ 5
    either-seen-length sight.Absent made result h = either-creates-length refusal made result h
    either-seen-length (sight.Standing number other) made result h = omega (arith, judged-length number other (verdict other) made h.0 h.1)
    either-seen-length (sight.Failed failure) made result h = omega (arith, ap (λ r. length r) h.0)

    pub either-length : (made : List Access) (result : Result Opened (OpenOrCreateFailure V))
        → EitherRound hash node verdict agreed refusal made (Some result) → length made ≤ 6
    either-length (Look under answer ∷ rest) result h = omega (arith, either-seen-length h.0 rest (Some result) h.3)
    either-length made result h = absurd h

    again-creates-length : (refused : Option CreateFailure) (made : List Access)
        → EitherCreates hash node verdict agreed refusal refused made None → length made ≤ 1
    again-creates-length (Some failure) made h = absurd (no-answer _ h.1)
    again-creates-length None made h = again-locks hash node agreed made h.0 h.1 h.2

    again-seen-length : (shown : Sight) (made : List Access) → EitherSeen hash node verdict agreed refusal shown made None → length made ≤ 1
    again-seen-length sight.Absent made h = again-creates-length refusal made h
    again-seen-length (sight.Standing number other) made h = judged-length number other (verdict other) made h.0 h.1
    again-seen-length (sight.Failed failure) made h = omega (arith, ap (λ r. length r) h.0)

    pub again-length : (made : List Access) → EitherRound hash node verdict agreed refusal made None → length made ≤ 2
    again-length (Look under answer ∷ rest) h = omega (arith, again-seen-length h.0 rest h.3)
    again-length made h = absurd h

pub opens-length : (V : Type 0) → OpensInTen V
opens-length V hash node verdict made result h =
    omega (
      arith,
      rounds-length (OpenRound hash node verdict) (λ made led. round-length hash node verdict made None led) 2 (omega arith)
          (λ made answer ended. round-length hash node verdict made (Some answer) ended) _ made result h,
    )

pub either-rounds-length : (V : Type 0) → OpensOrCreatesInFourteen V
either-rounds-length V hash node verdict agreed refusal made result h =
    omega (
      arith,
      rounds-length (EitherRound hash node verdict agreed refusal) (again-length hash node verdict agreed refusal) 6 (omega arith)
          (either-length hash node verdict agreed refusal) _ made result h,
    )
