-- What creating and opening mean for a builder: the rounds, and their result as a factory or an error of the pattern.
use Rattle.std.specs.Prelude.{◌≡◌, ℕ, List, Option, None, Result}
use Rattle.std.specs.Result.{result_map_both}
use Rattle.iox_negotiate_base.specs.DescribeBase.declared.hash.ServiceHash.{ServiceHash}
use Rattle.iox_negotiate_base.specs.DescribeSettings.Agreement.{Agreement}
use Rattle.iox_negotiate_base.specs.Describe.Within.{IsWithinLimits}
use Rattle.iox_negotiate_base.specs.Access.{Access}
use Rattle.iox_negotiate_base.specs.Creating.{CreatesIf}
use Rattle.iox_negotiate_base.specs.Opening.{OpensOrCreates}
use Rattle.iox_negotiate_base.specs.Runs.{Does}
use Rattle.iox_negotiate_base.specs.declared.failure.CreateFailure.{CreateFailure}
use Rattle.iox_negotiate_base.specs.declared.failure.OpenOrCreateFailure.{OpenOrCreateFailure}
use Rattle.iox_negotiate_base.specs.declared.request.Opened.{Opened}
use Rattle.iox_negotiate.specs.Asked.{IsRefusal}
use Rattle.iox_negotiate.specs.Factory.{membership}
use Rattle.iox_negotiate.specs.declared.factory.Membership.{Membership}

-- The storage operations are those of the rounds, with their result; on success the node is a member of the service in this storage, and a
-- failure is returned as the error of the pattern.
pub record Negotiates {S F E : Type 0} (gives : S → Access → S → Type 0) (storage node : ℕ) (error : F → E) (rounds : List Access
    → Result Opened F → Type 0)
    (old : S) (result : Result Membership E) (new : S) : Type 0 where
  pub answer : Result Opened F
  pub done : Does gives old (λ made. rounds made answer) new
  pub told : result ≡ result_map_both (membership storage node) error answer

-- The service is created, unless its settings are refused; if they aren't, what is to be agreed is within the limits of a description.
pub record Creates {S E : Type 0} (gives : S → Access → S → Type 0) (storage : ℕ) (hash : ServiceHash) (node : ℕ) (agreed : Agreement)
    (is_within is_history_too_long : Type 0) (error : CreateFailure → E) (old : S) (result : Result Membership E) (new : S) : Type 0 where
  pub refusal : Option CreateFailure
  pub refused : IsRefusal is_within is_history_too_long refusal
  pub within : refusal ≡ None → IsWithinLimits agreed
  pub negotiated : Negotiates gives storage node error (λ made answer. CreatesIf hash node agreed refusal made answer) old result new

-- The service is opened, or created unless its settings are refused; if they aren't, what is to be agreed is within the limits of a
-- description.
pub record Either {S V E : Type 0} (gives : S → Access → S → Type 0) (storage : ℕ) (hash : ServiceHash) (node : ℕ) (verdict : Agreement
    → Result (Unit {0}) V)
    (agreed : Agreement) (is_within is_history_too_long : Type 0) (error : OpenOrCreateFailure V → E) (old : S)
    (result : Result Membership E) (new : S) : Type 0 where
  pub refusal : Option CreateFailure
  pub refused : IsRefusal is_within is_history_too_long refusal
  pub within : refusal ≡ None → IsWithinLimits agreed
  pub negotiated : Negotiates gives storage node error (λ made answer. OpensOrCreates hash node verdict agreed refusal made answer) old
      result new
