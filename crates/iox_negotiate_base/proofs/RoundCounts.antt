-- What the rounds of openings and creations acquire, create and release.
use Rattle.std.proofs.Common.{◌≡◌, Bool, true, false, ℕ, zero, suc, ◌+◌, List, [], ◌∷◌, ◌++◌, Option, None, Some, Result, Ok, Err, refl}
use Rattle.std.proofs.Common.{sym, ap, ◌∙◌, subst, arith}
use Rattle.std.proofs.Math.Logic.{⊎_elim}
use Rattle.iox_describe.specs.DescribeBase.declared.hash.ServiceHash.{ServiceHash}
use Rattle.iox_describe.specs.DescribeSettings.Agreement.{Agreement}
use Rattle.iox_negotiate_base.specs.Access.{Access, Look, Lock, MakeSegment, Publish, Unlock, OpenSegment, Leave, RemoveDescription}
use Rattle.iox_negotiate_base.specs.Access.{RemoveSegment}
use Rattle.iox_negotiate_base.specs.Failing.{created_or_again}
use Rattle.iox_negotiate_base.specs.Laws.{locks_taken, locks_ended, segments_made, segments_removed, EitherLeavesNoLock}
use Rattle.iox_negotiate_base.specs.Laws.{RefusedEitherLeavesNoSegment}
use Rattle.iox_negotiate_base.specs.Opening.{OpensJudged, EitherCreates, EitherSeen, EitherRound}
use Rattle.iox_negotiate_base.specs.Runs.{Led, Rounds}
use Rattle.iox_negotiate_base.specs.declared.answer.LockAnswer.TheVariants as lock
use Rattle.iox_negotiate_base.specs.declared.answer.MakeSegmentAnswer.TheVariants as making
use Rattle.iox_negotiate_base.specs.declared.answer.PublishAnswer.TheVariants as publishing
use Rattle.iox_negotiate_base.specs.declared.creation.Attempt.{Attempt}
use Rattle.iox_negotiate_base.specs.declared.creation.Attempt.TheVariants as attempt
use Rattle.iox_negotiate_base.specs.declared.failure.CreateFailure.{CreateFailure}
use Rattle.iox_negotiate_base.specs.declared.failure.OpenFailure.{OpenFailure}
use Rattle.iox_negotiate_base.specs.declared.failure.OpenOrCreateFailure.{OpenOrCreateFailure}
use Rattle.iox_negotiate_base.specs.declared.request.Opened.{Opened}
use Rattle.iox_negotiate_base.specs.declared.sight.Sight.{Sight}
use Rattle.iox_negotiate_base.specs.declared.sight.Sight.TheVariants as sight
use Rattle.iox_negotiate_base.proofs.Counting.{Balanced, has_failed, locks-balanced, nothing-more}

-- what a storage operation counts for
weight-taken : (access : Access) → (n : ℕ) × ((rest : List Access) → locks_taken (access ∷ rest) ≡ n + locks_taken rest)
weight-taken (Lock hash node (lock.Taken number)) = (1, λ rest. refl)
weight-taken (Lock hash node lock.IsLocked) = (0, λ rest. omega arith)
weight-taken (Lock hash node lock.Exists) = (0, λ rest. omega arith)
weight-taken (Lock hash node lock.Denied) = (0, λ rest. omega arith)
weight-taken (Lock hash node lock.Fault) = (0, λ rest. omega arith)
weight-taken (Lock hash node lock.OutOfMemory) = (0, λ rest. omega arith)
weight-taken (Look hash answer) = (0, λ rest. omega arith)
weight-taken (MakeSegment hash number node max_nodes answer) = (0, λ rest. omega arith)
weight-taken (Publish hash number bytes answer) = (0, λ rest. omega arith)
weight-taken (Unlock hash number) = (0, λ rest. omega arith)
weight-taken (OpenSegment hash number node answer) = (0, λ rest. omega arith)
weight-taken (Leave hash number node answer) = (0, λ rest. omega arith)
weight-taken (RemoveDescription hash number answer) = (0, λ rest. omega arith)
weight-taken (RemoveSegment hash number answer) = (0, λ rest. omega arith)

weight-ended : (access : Access) → (n : ℕ) × ((rest : List Access) → locks_ended (access ∷ rest) ≡ n + locks_ended rest)
weight-ended (Unlock hash number) = (1, λ rest. refl)
weight-ended (Publish hash number bytes publishing.Published) = (1, λ rest. refl)
weight-ended (Publish hash number bytes publishing.Fault) = (0, λ rest. omega arith)
weight-ended (Publish hash number bytes publishing.OutOfMemory) = (0, λ rest. omega arith)
weight-ended (Look hash answer) = (0, λ rest. omega arith)
weight-ended (Lock hash node answer) = (0, λ rest. omega arith)
weight-ended (MakeSegment hash number node max_nodes answer) = (0, λ rest. omega arith)
weight-ended (OpenSegment hash number node answer) = (0, λ rest. omega arith)
weight-ended (Leave hash number node answer) = (0, λ rest. omega arith)
weight-ended (RemoveDescription hash number answer) = (0, λ rest. omega arith)
weight-ended (RemoveSegment hash number answer) = (0, λ rest. omega arith)

weight-made : (access : Access) → (n : ℕ) × ((rest : List Access) → segments_made (access ∷ rest) ≡ n + segments_made rest)
weight-made (MakeSegment hash number node max_nodes making.Made) = (1, λ rest. refl)
weight-made (MakeSegment hash number node max_nodes making.Fault) = (0, λ rest. omega arith)
weight-made (MakeSegment hash number node max_nodes making.OutOfMemory) = (0, λ rest. omega arith)
weight-made (Look hash answer) = (0, λ rest. omega arith)
weight-made (Lock hash node answer) = (0, λ rest. omega arith)
weight-made (Publish hash number bytes answer) = (0, λ rest. omega arith)
weight-made (Unlock hash number) = (0, λ rest. omega arith)
weight-made (OpenSegment hash number node answer) = (0, λ rest. omega arith)
weight-made (Leave hash number node answer) = (0, λ rest. omega arith)
weight-made (RemoveDescription hash number answer) = (0, λ rest. omega arith)
weight-made (RemoveSegment hash number answer) = (0, λ rest. omega arith)

weight-removed : (access : Access) → (n : ℕ) × ((rest : List Access) → segments_removed (access ∷ rest) ≡ n + segments_removed rest)
weight-removed (RemoveSegment hash number answer) = (1, λ rest. refl)
weight-removed (Look hash answer) = (0, λ rest. omega arith)
weight-removed (Lock hash node answer) = (0, λ rest. omega arith)
weight-removed (MakeSegment hash number node max_nodes answer) = (0, λ rest. omega arith)
weight-removed (Publish hash number bytes answer) = (0, λ rest. omega arith)
weight-removed (Unlock hash number) = (0, λ rest. omega arith)
weight-removed (OpenSegment hash number node answer) = (0, λ rest. omega arith)
weight-removed (Leave hash number node answer) = (0, λ rest. omega arith)
weight-removed (RemoveDescription hash number answer) = (0, λ rest. omega arith)

-- a count of storage operations is that of both parts
module _ (count : List Access → ℕ) (none : count [] ≡ 0)
    (weight : (access : Access) → (n : ℕ) × ((rest : List Access) → count (access ∷ rest) ≡ n + count rest)) where
  counted : (first second : List Access) → count (first ++ second) ≡ count first + count second
  counted [] second = omega (arith, none)
  counted (access ∷ first) second =
      let w = weight access in omega (arith, w.1 (first ++ second), w.1 first, counted first second)

-- as many locks are taken as end, and where it failed, as many segments are asked to be removed as were made, in both parts together
both : (failed : Bool) (first second : List Access) → Balanced first true → Balanced second failed → Balanced (first ++ second) failed
both failed first second a b = record {
  locks = omega (
    arith,
    counted locks_taken refl weight-taken first second,
    counted locks_ended refl weight-ended first second,
    a.locks,
    b.locks,
  );
  segments = λ f. omega (
    arith,
    counted segments_made refl weight-made first second,
    counted segments_removed refl weight-removed first second,
    a.segments
        refl,
    b.segments f,
  );
}

module _ {R : Type 0} (round : List Access → Option R → Type 0) (leads : (made : List Access) → round made None → Balanced made true) where
  led-balanced : (count : ℕ) (made : List Access) → Led round count made → Balanced made true
  led-balanced zero made led = nothing-more made true led
  led-balanced (suc count) made (before, last, all, led, leading) =
      subst (λ m. Balanced m true) (sym all) (both true before last (led-balanced count before led) (leads last leading))

  rounds-balanced : (failed : Bool) (exhausted result : R) (made : List Access)
      → ((made : List Access) → round made (Some result) → Balanced made failed) → Rounds round exhausted made result → Balanced made failed
  rounds-balanced failed exhausted result made ends r =
      subst (λ m. Balanced m failed) (sym r.all) (both failed r.before r.last (led-balanced r.count r.before r.led)
      (⊎_elim (λ ending. ends r.last ending.1) (λ ending. nothing-more r.last failed ending.1) r.ends))

module _ {V : Type 0} (hash : ServiceHash) (node : ℕ) (verdict : Agreement → Result (Unit {0}) V) (agreed : Agreement)
    (refusal : Option CreateFailure) where
  judged-balanced : (failed : Bool) (number : ℕ) (other : Agreement) (judged : Result (Unit {0}) V) (made : List Access)
      (result : Option (Result Opened (OpenFailure V)))
      → OpensJudged hash node verdict number other judged made result → Balanced made failed
  judged-balanced failed number other (Ok met) (OpenSegment under of by answer ∷ rest) result h =
      let n = nothing-more rest failed h.3 in record { locks = n.locks; segments = n.segments }
  judged-balanced failed number other (Ok met) made result h = absurd h
  judged-balanced failed number other (Err unmet) made result h = nothing-more made failed h.0

  -- whether the round has no service to answer
  abbrev has_none : Option (Result Opened (OpenOrCreateFailure V)) → Bool
  has_none (Some (Ok service)) = false
  has_none answer = true

  as-attempt : (came : Attempt) → has_none (created_or_again came) ≡ has_failed came
  as-attempt (attempt.Made service) = refl
  as-attempt attempt.IsLocked = refl
  as-attempt attempt.Exists = refl
  as-attempt (attempt.Failed failure) = refl

  creates-balanced : (refused : Option CreateFailure) (made : List Access) (result : Option (Result Opened (OpenOrCreateFailure V)))
      → EitherCreates hash node verdict agreed refusal refused made result → Balanced made (has_none result)
  creates-balanced (Some failure) made result h = nothing-more made (has_none result) h.0
  creates-balanced None made result h =
      subst (λ b. Balanced made b) (sym (as-attempt h.0) ∙ sym (ap (λ r. has_none r) h.2)) (locks-balanced hash node agreed made h.0 h.1)

  seen-balanced : (shown : Sight) (made : List Access) (result : Option (Result Opened (OpenOrCreateFailure V)))
      → EitherSeen hash node verdict agreed refusal shown made result → Balanced made (has_none result)
  seen-balanced sight.Absent made result h = creates-balanced refusal made result h
  seen-balanced (sight.Standing number other) made result h = judged-balanced (has_none result) number other (verdict other) made h.0 h.1
  seen-balanced (sight.Failed failure) made result h = nothing-more made (has_none result) h.0

  round-balanced : (made : List Access) (result : Option (Result Opened (OpenOrCreateFailure V)))
      → EitherRound hash node verdict agreed refusal made result → Balanced made (has_none result)
  round-balanced (Look under answer ∷ rest) result h = let b
      = seen-balanced h.0 rest result h.3 in record { locks = b.locks; segments = b.segments }
  round-balanced made result h = absurd h

pub either-locks : (V : Type 0) → EitherLeavesNoLock V
either-locks V hash node verdict agreed refusal made result h =
    (rounds-balanced (EitherRound hash node verdict agreed refusal)
    (λ made led. round-balanced hash node verdict agreed refusal made None led)
    (has_none hash node verdict agreed refusal (Some result)) _ result made
    (λ made ended. round-balanced hash node verdict agreed refusal made (Some result) ended) h).locks

pub either-segments : (V : Type 0) → RefusedEitherLeavesNoSegment V
either-segments V hash node verdict agreed refusal made failure h =
    (rounds-balanced (EitherRound hash node verdict agreed refusal)
    (λ made led. round-balanced hash node verdict agreed refusal made None led)
    true _ (Err failure) made (λ made ended. round-balanced hash node verdict agreed refusal made (Some (Err failure)) ended)
    h).segments refl
