-- What an update of a publisher answers, of a domain and of the machine.
use Rattle.std.proofs.Common.{◌≡◌, ◌∷◌, ℕ, Bool, true, false, List, Option, None, Some, Result, Err, refl, subst, inl, inr}
use Rattle.std.specs.Prelude.{is_some, if◌then◌else◌}
use Rattle.iox_command.specs.DomainValues.declared.connection_failure.ConnectionFailure.{ConnectionFailure}
use Rattle.iox_command.specs.DomainValues.declared.connection_failure.ZeroCopyCreationError.TheVariants.{OutOfMemory}
use Rattle.iox_command.specs.DomainValues.declared.degradation.DegradationAction.{DegradationAction}
use Rattle.iox_command.specs.DomainValues.declared.degradation.DegradationAction.TheVariants as action
use Rattle.iox_domain.specs.Container.declared.container.Member.{Member}
use Rattle.iox_domain.specs.DomainPorts.PublisherUpdating.{Asks}
use Rattle.iox_domain.specs.DomainPorts.PublisherUpdating as domain
use Rattle.iox_domain.specs.DomainPorts.declared.publisher_port.PublisherPort.{PublisherPort}
use Rattle.iox_domain.specs.DomainPorts.declared.subscriber_entry.SubscriberEntry.{SubscriberEntry}
use Rattle.iox_domain.specs.DomainValues.declared.degradation.DegradationInfo.{DegradationInfo}
use Rattle.iox_domain_machine.proofs.Found.{never_true}
use Rattle.iox_machine.specs.PublisherUpdate.{failure_at, UpdateAnswers}

-- What may be answered for the remaining places, after a failure was found at the earlier places, or none.
abbrev pub AnswersFrom : (DegradationAction → Type 0) → Option ConnectionFailure → List (Option ℕ × Option ℕ)
    → Result (Unit {0}) ConnectionFailure → Type 0
AnswersFrom May None places answer = UpdateAnswers May places answer
AnswersFrom May (Some failure) places answer = answer ≡ Err failure

-- a place without a failure is no matter
passed_over : (May : DegradationAction → Type 0) (found : Option ConnectionFailure) (item one : Option ℕ)
    (more : List (Option ℕ × Option ℕ)) (answer : Result (Unit {0}) ConnectionFailure) → failure_at item one ≡ None
    → AnswersFrom May found more answer → AnswersFrom May found ((item, one) ∷ more) answer
passed_over May (Some failure) item one more answer none is = is
passed_over May None item one more answer none is = rw none is

-- at one with a failure it is decided
failed_at : (May : DegradationAction → Type 0) (told : DegradationAction) → May told → (found : Option ConnectionFailure)
    (item one : Option ℕ) (more : List (Option ℕ × Option ℕ)) (answer : Result (Unit {0}) ConnectionFailure)
    → failure_at item one ≡ Some OutOfMemory
    → AnswersFrom May (domain.first_failure found domain.no_memory told) more answer
    → AnswersFrom May found ((item, one) ∷ more) answer
failed_at May action.Ignore may None item one more answer failed is = rw failed (inr (inr may, is))
failed_at May action.Ignore may (Some failure) item one more answer failed is = is
failed_at May action.Warn may None item one more answer failed is = rw failed (inr (inl may, is))
failed_at May action.Warn may (Some failure) item one more answer failed is = is
failed_at May action.DegradeAndFail may None item one more answer failed is = rw failed (inl (may, is))
failed_at May action.DegradeAndFail may (Some failure) item one more answer failed is = is

-- one place more
pub answer_on : {T U : Type 0} (may : DegradationInfo → DegradationAction → Type 0) (May : DegradationAction → Type 0)
    (over : (info : DegradationInfo) (told : DegradationAction) → may info told → May told)
    (member : Option (Member SubscriberEntry)) (port : PublisherPort T U) (found after : Option ConnectionFailure) (made : Bool)
    (item one : Option ℕ) (more : List (Option ℕ × Option ℕ)) (answer : Result (Unit {0}) ConnectionFailure)
    → Asks may member port found made after → failure_at item one ≡ (if made then None else Some OutOfMemory)
    → (made ≡ false → is_some member ≡ true)
    → AnswersFrom May after more answer → AnswersFrom May found ((item, one) ∷ more) answer
answer_on may May over None port found after true item one more answer asks failure there is =
    passed_over May found item one more answer failure (subst (λ f. AnswersFrom May f more answer) asks is)
answer_on may May over (Some member) port found after true item one more answer asks failure there is =
    passed_over May found item one more answer failure (subst (λ f. AnswersFrom May f more answer) asks is)
answer_on may May over None port found after false item one more answer asks failure there is = never_true (there refl)
answer_on may May over (Some member) port found after false item one more answer asks failure there is =
    failed_at May asks.0 (over _ asks.0 asks.1) found item one more answer failure
    (subst (λ f. AnswersFrom May f more answer) asks.2 is)
