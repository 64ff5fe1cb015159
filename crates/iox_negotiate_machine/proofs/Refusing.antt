-- Why a service can't be created with its settings, for the machine and for a builder.
use Rattle.std.proofs.Common.{◌≡◌, Bool, true, false, cond, not, ◌&&◌, Option, None, Some, nat_lt, refl, ◌∙◌}
use Rattle.std.proofs.lemmas.Bool.{lt-ltb, ltb-true}
use Rattle.iox_command.specs.NegotiateBase.DescribeBase.declared.message_type.MessageTypeDetails.{MessageTypeDetails}
use Rattle.iox_command.specs.NegotiateBase.DescribeSettings.Agreement.{AreWithinLimits, HasNoRoomForHistory}
use Rattle.iox_command.specs.NegotiateBase.DescribeSettings.PublishSubscribeSettings as publish_subscribe
use Rattle.iox_command.specs.NegotiateBase.DescribeSettings.declared.static_config.Settings.{Settings}
use Rattle.iox_command.specs.NegotiateBase.DescribeSettings.declared.static_config.Settings.TheVariants as settings
use Rattle.iox_command.specs.NegotiateBase.DescribeSettings.declared.static_config.publish_subscribe.StaticConfig.{StaticConfig}
use Rattle.iox_command.specs.NegotiateBase.declared.failure.CreateFailure.{CreateFailure}
use Rattle.iox_command.specs.NegotiateBase.declared.failure.CreateFailure.TheVariants as uncreated
use Rattle.iox_command.specs.declared.service.ServiceOptions.{ServiceOptions}
use Rattle.iox_machine.specs.Agreement.{are_within_limits, unfit}
use Rattle.iox_machine.specs.Asked.{settings_of}
use Rattle.iox_negotiate.proofs.Maps.{no, on}
use Rattle.iox_negotiate.specs.Asked.{IsRefusal}
use Rattle.iox_negotiate_machine.proofs.Limits.{and-true, both, limits-back, limits-within}

-- what the machine says, by its two tests
abbrev refused_by : Bool → Bool → Option CreateFailure
refused_by within short =
    cond (not within) (Some uncreated.InternalFailure) (cond short (Some uncreated.SubscriberBufferMustBeLargerThanHistorySize) None)

-- where it is refused so, the tests tell it
tells : (IsWithin IsTooLong : Type 0) (within short : Bool) → (within ≡ true → IsWithin) → (IsWithin → within ≡ true)
    → (short ≡ true → IsTooLong) → (IsTooLong → short ≡ true) → (refusal : Option CreateFailure) → IsRefusal IsWithin IsTooLong refusal
    → refused_by within short ≡ refusal
tells IsWithin IsTooLong true true to from short_to short_from None is = absurd (is.1 (short_to refl))
tells IsWithin IsTooLong true false to from short_to short_from None is = refl
tells IsWithin IsTooLong false short to from short_to short_from None is = no (from is.0)
tells IsWithin IsTooLong true short to from short_to short_from (Some uncreated.InternalFailure) is = absurd (is (to refl))
tells IsWithin IsTooLong false short to from short_to short_from (Some uncreated.InternalFailure) is = refl
tells IsWithin IsTooLong true true to from short_to short_from (Some uncreated.SubscriberBufferMustBeLargerThanHistorySize) is = refl
tells IsWithin IsTooLong true false to from short_to short_from (Some uncreated.SubscriberBufferMustBeLargerThanHistorySize) is =
    no (short_from is.1)
tells IsWithin IsTooLong false short to from short_to short_from (Some uncreated.SubscriberBufferMustBeLargerThanHistorySize) is =
    no (from is.0)
tells IsWithin IsTooLong within short to from short_to short_from (Some uncreated.AlreadyExists) is = absurd is
tells IsWithin IsTooLong within short to from short_to short_from (Some uncreated.InsufficientPermissions) is = absurd is
tells IsWithin IsTooLong within short to from short_to short_from (Some uncreated.IsBeingCreatedByAnotherInstance) is = absurd is
tells IsWithin IsTooLong within short to from short_to short_from (Some uncreated.HangsInCreation) is = absurd is
tells IsWithin IsTooLong within short to from short_to short_from (Some uncreated.ServiceInCorruptedState) is = absurd is
tells IsWithin IsTooLong within short to from short_to short_from (Some uncreated.OutOfMemory) is = absurd is

false-of : (b : Bool) → not b ≡ true → b ≡ false
false-of true is = no is
false-of false is = refl

not-of : (b : Bool) → b ≡ false → not b ≡ true
not-of true is = on is
not-of false is = refl

short-to : (c : StaticConfig) → (not c.enable_safe_overflow && nat_lt c.subscriber_max_buffer_size c.history_size) ≡ true
    → publish_subscribe.IsHistoryTooLong c
short-to c is = let split = both _ _ is in (false-of c.enable_safe_overflow split.0, ltb-true _ _ split.1)

short-from : (c : StaticConfig) → publish_subscribe.IsHistoryTooLong c
    → (not c.enable_safe_overflow && nat_lt c.subscriber_max_buffer_size c.history_size) ≡ true
short-from c is = and-true _ _ (not-of c.enable_safe_overflow is.0) (lt-ltb _ _ is.1)

refused-as : (c : StaticConfig) → (are_within_limits (settings.PublishSubscribe c) ≡ true → AreWithinLimits (settings.PublishSubscribe c))
    → (refusal : Option CreateFailure)
    → IsRefusal (AreWithinLimits (settings.PublishSubscribe c)) (HasNoRoomForHistory (settings.PublishSubscribe c)) refusal
    → unfit (settings.PublishSubscribe c) ≡ refusal
refused-as c to refusal is =
    tells (AreWithinLimits (settings.PublishSubscribe c)) (publish_subscribe.IsHistoryTooLong c)
    (are_within_limits (settings.PublishSubscribe c))
    (not c.enable_safe_overflow && nat_lt c.subscriber_max_buffer_size c.history_size) to (limits-back (settings.PublishSubscribe c))
    (short-to c) (short-from c) refusal is

plain : (within : Bool) → cond within None (Some uncreated.InternalFailure) ≡ refused_by within false
plain true = refl
plain false = refl

any-unfit : (s : Settings) → (are_within_limits s ≡ true → AreWithinLimits s) → (refusal : Option CreateFailure)
    → IsRefusal (AreWithinLimits s) (HasNoRoomForHistory s) refusal → unfit s ≡ refusal
any-unfit (settings.PublishSubscribe c) to refusal is = refused-as c to refusal is
any-unfit (settings.Event c) to refusal is =
    plain (are_within_limits (settings.Event c))
    ∙ tells _ _ _ false to (limits-back (settings.Event c)) no (λ never. absurd never) refusal is
any-unfit (settings.RequestResponse c) to refusal is =
    plain (are_within_limits (settings.RequestResponse c))
    ∙ tells _ _ _ false to (limits-back (settings.RequestResponse c)) no (λ never. absurd never) refusal is

-- a builder refuses settings just as the machine does
pub unfit-is : (types : MessageTypeDetails) (named : ServiceOptions) (refusal : Option CreateFailure)
    → IsRefusal (AreWithinLimits (settings_of types named)) (HasNoRoomForHistory (settings_of types named)) refusal
    → unfit (settings_of types named) ≡ refusal
unfit-is types named = any-unfit (settings_of types named) (limits-within types named)
