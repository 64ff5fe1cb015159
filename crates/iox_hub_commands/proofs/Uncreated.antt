-- Settings that can't be are refused for one reason, and aren't accepted.
use Rattle.std.proofs.Common.{◌≡◌, ◌⊎◌, Option, None, Some, refl, ap, inl, inr}
use Rattle.std.proofs.Math.Logic.{⊎_elim}
use Rattle.iox_hub_base.specs.DescribeSettings.Agreement.{AreWithinLimits, HasNoRoomForHistory}
use Rattle.iox_hub_base.specs.DescribeSettings.declared.static_config.Settings.{Settings}
use Rattle.iox_command.specs.NegotiateBase.declared.failure.CreateFailure.{CreateFailure}
use Rattle.iox_command.specs.NegotiateBase.declared.failure.CreateFailure.TheVariants as failure
use Rattle.iox_hub_commands.specs.Refusing.{IsUncreated}

-- what a failure tells of the settings
abbrev Tells : Settings → CreateFailure → Type 0
Tells settings told = ((told ≡ failure.InternalFailure) × (AreWithinLimits settings → ⊥))
    ⊎ ((told ≡ failure.SubscriberBufferMustBeLargerThanHistorySize) × AreWithinLimits settings × HasNoRoomForHistory settings)

tells : (settings : Settings) (told : CreateFailure) → IsUncreated settings (Some told) → Tells settings told
tells settings failure.AlreadyExists is = absurd is
tells settings failure.InsufficientPermissions is = absurd is
tells settings failure.InternalFailure is = inl (refl, is)
tells settings failure.IsBeingCreatedByAnotherInstance is = absurd is
tells settings failure.HangsInCreation is = absurd is
tells settings failure.ServiceInCorruptedState is = absurd is
tells settings failure.SubscriberBufferMustBeLargerThanHistorySize is = inr (refl, is.0, is.1)
tells settings failure.OutOfMemory is = absurd is

-- settings that are refused aren't accepted
not_accepted : (settings : Settings) (told : CreateFailure) → IsUncreated settings (Some told) → IsUncreated settings None → ⊥
not_accepted settings told is accepted = ⊎_elim (λ beyond. beyond.1 accepted.0) (λ long. accepted.1 long.2) (tells settings told is)

-- they are refused for one reason
one_reason : (settings : Settings) (one other : CreateFailure) → IsUncreated settings (Some one) → IsUncreated settings (Some other)
    → one ≡ other
one_reason settings one other is also = ⊎_elim
    (λ beyond. ⊎_elim (λ beyond_too. rw (beyond.0, beyond_too.0) refl) (λ long. absurd (beyond.1 long.1)) (tells settings other also))
    (λ long. ⊎_elim (λ beyond. absurd (beyond.1 long.1)) (λ long_too. rw (long.0, long_too.0) refl) (tells settings other also))
    (tells settings one is)

-- whether they are refused is one thing
pub one_refusal : (settings : Settings) (one other : Option CreateFailure) → IsUncreated settings one → IsUncreated settings other
    → one ≡ other
one_refusal settings None None is also = refl
one_refusal settings None (Some other) is also = absurd (not_accepted settings other also is)
one_refusal settings (Some one) None is also = absurd (not_accepted settings one is also)
one_refusal settings (Some one) (Some other) is also = ap (λ it. Some it) (one_reason settings one other is also)
