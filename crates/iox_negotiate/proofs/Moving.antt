-- The same negotiation of equal things.
use Rattle.std.proofs.Common.{◌≡◌, ℕ, Option, Result, subst}
use Rattle.iox_negotiate_base.specs.DescribeBase.declared.hash.ServiceHash.{ServiceHash}
use Rattle.iox_negotiate_base.specs.DescribeSettings.Agreement.{Agreement}
use Rattle.iox_negotiate_base.specs.Access.{Access}
use Rattle.iox_negotiate_base.specs.Opening.{Opens, OpensOrCreates}
use Rattle.iox_negotiate_base.specs.declared.failure.CreateFailure.{CreateFailure}
use Rattle.iox_negotiate_base.specs.declared.failure.OpenFailure.{OpenFailure}
use Rattle.iox_negotiate_base.specs.declared.failure.OpenOrCreateFailure.{OpenOrCreateFailure}
use Rattle.iox_negotiate.specs.Negotiation.{Negotiates, Either}
use Rattle.iox_negotiate.specs.declared.factory.Membership.{Membership}

module _ {S V R E : Type 0} (gives : S → Access → S → Type 0) (storage : ℕ) (verdict : R → Agreement → Result (Unit {0}) V) (old : S)
    (result : Result Membership E) (new : S) where
  pub opens-as : (error : OpenFailure V → E) (h1 h2 : ServiceHash) (n1 n2 : ℕ) (r1 r2 : R) → h1 ≡ h2 → n1 ≡ n2 → r1 ≡ r2
      → Negotiates gives storage n1 error (λ made answer. Opens h1 n1 (λ given. verdict r1 given) made answer) old result new
      → Negotiates gives storage n2 error (λ made answer. Opens h2 n2 (λ given. verdict r2 given) made answer) old result new
  opens-as error h1 h2 n1 n2 r1 r2 h n r d =
      let P : ServiceHash → Type 0 = λ x. Negotiates gives storage n1 error
      (λ made answer. Opens x n1 (λ given. verdict r1 given) made answer) old result new in
      let Q : ℕ → Type 0 = λ x. Negotiates gives storage x error (λ made answer. Opens h2 x (λ given. verdict r1 given) made answer) old
      result new in
      let T : R → Type 0 = λ x. Negotiates gives storage n2 error (λ made answer. Opens h2 n2 (λ given. verdict x given) made answer)
      old result new in
      subst T r (subst Q n (subst P h d))

  pub either-as : (error : OpenOrCreateFailure V → E) (refusal : Option CreateFailure) (h1 h2 : ServiceHash) (n1 n2 : ℕ) (r1 r2 : R)
      (a1 a2 : Agreement)
      → h1 ≡ h2 → n1 ≡ n2 → r1 ≡ r2 → a1 ≡ a2
      → Negotiates gives storage n1 error (λ made answer. OpensOrCreates h1 n1 (λ given. verdict r1 given) a1 refusal made answer) old
      result new
      → Negotiates gives storage n2 error (λ made answer. OpensOrCreates h2 n2 (λ given. verdict r2 given) a2 refusal made answer) old
      result new
  either-as error refusal h1 h2 n1 n2 r1 r2 a1 a2 h n r a d =
      let P : ServiceHash → Type 0 = λ x. Negotiates gives storage n1 error
      (λ made answer. OpensOrCreates x n1 (λ given. verdict r1 given) a1 refusal made answer) old result new in
      let Q : ℕ → Type 0 = λ x. Negotiates gives storage x error
      (λ made answer. OpensOrCreates h2 x (λ given. verdict r1 given) a1 refusal made answer) old result new in
      let T : R → Type 0 = λ x. Negotiates gives storage n2 error
      (λ made answer. OpensOrCreates h2 n2 (λ given. verdict x given) a1 refusal made answer) old result new in
      let U : Agreement → Type 0 = λ x. Negotiates gives storage n2 error
      (λ made answer. OpensOrCreates h2 n2 (λ given. verdict r2 given) x refusal made answer) old result new in
      subst U a (subst T r (subst Q n (subst P h d)))

  pub either-of : (error : OpenOrCreateFailure V → E) (hash : ServiceHash) (node : ℕ) (agreed : R → Agreement)
      (is_within is_too_long : R → Type 0) (r1 r2 : R) → r1 ≡ r2
      → Either gives storage hash node (λ given. verdict r1 given) (agreed r1) (is_within r1) (is_too_long r1) error old result new
      → Either gives storage hash node (λ given. verdict r2 given) (agreed r2) (is_within r2) (is_too_long r2) error old result new
  either-of error hash node agreed is_within is_too_long r1 r2 r d =
      let P : R → Type 0 = λ x. Either gives storage hash node (λ given. verdict x given) (agreed x) (is_within x) (is_too_long x) error
      old result new in
      subst P r d
