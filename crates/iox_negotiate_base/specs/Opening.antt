-- The storage operations that open a service: a lookup, and the opening of its segment if it meets the request.
use Rattle.std.specs.Prelude.{◌≡◌, ℕ, List, [], ◌∷◌, Option, None, Some, Result, Ok, Err}
use Rattle.iox_describe.specs.DescribeBase.declared.hash.ServiceHash.{ServiceHash}
use Rattle.iox_describe.specs.DescribeSettings.Agreement.{Agreement}
use Rattle.iox_negotiate_base.specs.Access.{Access, Look, OpenSegment}
use Rattle.iox_negotiate_base.specs.Creating.{Locks}
use Rattle.iox_negotiate_base.specs.Failing.{open_failure_of, entered, created_or_again, opened_or_again}
use Rattle.iox_negotiate_base.specs.Runs.{Rounds}
use Rattle.iox_negotiate_base.specs.Sight.{IsSight}
use Rattle.iox_negotiate_base.specs.declared.sight.Sight.{Sight}
use Rattle.iox_negotiate_base.specs.declared.sight.Sight.TheVariants as sight
use Rattle.iox_negotiate_base.specs.declared.request.Opened.{Opened}
use Rattle.iox_negotiate_base.specs.declared.creation.Attempt.{Attempt}
use Rattle.iox_negotiate_base.specs.declared.failure.CreateFailure.{CreateFailure}
use Rattle.iox_negotiate_base.specs.declared.failure.OpenFailure.{OpenFailure}
use Rattle.iox_negotiate_base.specs.declared.failure.OpenFailure.TheVariants.{Clause, DoesNotExist, ServiceInCorruptedState}
use Rattle.iox_negotiate_base.specs.declared.failure.OpenOrCreateFailure.{OpenOrCreateFailure}
use Rattle.iox_negotiate_base.specs.declared.failure.OpenOrCreateFailure.TheVariants as either

module _ {V : Type 0} (hash : ServiceHash) (node : ℕ) (verdict : Agreement → Result (Unit {0}) V) where
  -- The storage operations register the node in the segment of the service that was read.
  abbrev pub Registers : ℕ → Agreement → List Access → Option (Result Opened (OpenFailure V)) → Type 0
  Registers number agreed (OpenSegment under of by answer ∷ rest) result =
      (under ≡ hash) × (of ≡ number) × (by ≡ node) × (rest ≡ []) × (result ≡ entered number agreed answer)
  Registers number agreed made result = ⊥

  -- After the compatibility check: the storage operations register the node if the service meets the request; else there are none.
  abbrev pub OpensJudged : ℕ → Agreement → Result (Unit {0}) V → List Access → Option (Result Opened (OpenFailure V)) → Type 0
  OpensJudged number agreed (Ok met) made result = Registers number agreed made result
  OpensJudged number agreed (Err unmet) made result = (made ≡ []) × (result ≡ Some (Err (Clause unmet)))

  -- After the lookup: if the service exists, it is checked; else there are no more storage operations.
  abbrev pub OpensSeen : Sight → List Access → Option (Result Opened (OpenFailure V)) → Type 0
  OpensSeen sight.Absent made result = (made ≡ []) × (result ≡ Some (Err DoesNotExist))
  OpensSeen (sight.Standing number agreed) made result = OpensJudged number agreed (verdict agreed) made result
  OpensSeen (sight.Failed failure) made result = (made ≡ []) × (result ≡ Some (Err (open_failure_of failure)))

  -- One round of an opening: a lookup and what follows it. The round has no result if the segment is absent.
  abbrev pub OpenRound : List Access → Option (Result Opened (OpenFailure V)) → Type 0
  OpenRound (Look under answer ∷ rest) result =
      (shown : Sight) × (under ≡ hash) × IsSight hash answer shown × OpensSeen shown rest result
  OpenRound made result = ⊥

  -- The storage operations open a service, in at most five rounds.
  abbrev pub Opens : List Access → Result Opened (OpenFailure V) → Type 0
  Opens made result = Rounds OpenRound (Err ServiceInCorruptedState) made result

  module _ (agreed : Agreement) (refusal : Option CreateFailure) where
    -- If no service exists, the storage operations create it, unless its settings are refused. Another node's lock or an existing service
    -- lead to the next round.
    abbrev pub EitherCreates : Option CreateFailure → List Access → Option (Result Opened (OpenOrCreateFailure V)) → Type 0
    EitherCreates (Some failure) made result = (made ≡ []) × (result ≡ Some (Err (either.Create failure)))
    EitherCreates None made result = (attempt : Attempt) × Locks hash node agreed made attempt × (result ≡ created_or_again attempt)

    -- After the lookup: an existing service is checked and opened, a missing one is created, and a failed lookup ends the call.
    abbrev pub EitherSeen : Sight → List Access → Option (Result Opened (OpenOrCreateFailure V)) → Type 0
    EitherSeen sight.Absent made result = EitherCreates refusal made result
    EitherSeen (sight.Standing number other) made result =
        (answer : Option (Result Opened (OpenFailure V))) × OpensJudged number other (verdict other) made answer
        × (result ≡ opened_or_again answer)
    EitherSeen (sight.Failed failure) made result = (made ≡ []) × (result ≡ Some (Err (either.Open (open_failure_of failure))))

    -- One round of an opening or creation: a lookup and what follows it.
    abbrev pub EitherRound : List Access → Option (Result Opened (OpenOrCreateFailure V)) → Type 0
    EitherRound (Look under answer ∷ rest) result =
        (shown : Sight) × (under ≡ hash) × IsSight hash answer shown × EitherSeen shown rest result
    EitherRound made result = ⊥

    -- The storage operations open or create a service, in at most five rounds.
    abbrev pub OpensOrCreates : List Access → Result Opened (OpenOrCreateFailure V) → Type 0
    OpensOrCreates made result = Rounds EitherRound (Err either.SystemInFlux) made result
