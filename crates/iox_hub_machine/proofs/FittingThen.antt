-- A service that is opened, or created, has messages of the types of the hub.
use Rattle.std.proofs.Common.{◌≡◌, Bool, true, false, cond, List, Result, Ok, Err, refl, ap, subst, sym, inl}
use Rattle.std.proofs.Common.{inr, arith}
use Rattle.iox_command.specs.NegotiateBase.DescribeBase.Attributes.{Required}
use Rattle.iox_command.specs.NegotiateBase.DescribeBase.Detail.{Detail}
use Rattle.iox_command.specs.NegotiateBase.DescribeBase.declared.attribute.Attribute.{Attribute}
use Rattle.iox_command.specs.NegotiateBase.DescribeBase.declared.message_type.MessageTypeDetails.{MessageTypeDetails}
use Rattle.iox_command.specs.NegotiateBase.DescribeBase.declared.type_detail.TypeVariant.{TypeVariant}
use Rattle.iox_command.specs.NegotiateBase.DescribeBase.declared.type_detail.TypeVariant.TheVariants.{Dynamic, FixedSize}
use Rattle.iox_command.specs.NegotiateBase.DescribeSettings.Agreement.{AreWithinLimits}
use Rattle.iox_command.specs.NegotiateBase.DescribeSettings.declared.static_config.Settings.{Settings}
use Rattle.iox_command.specs.NegotiateBase.DescribeSettings.declared.static_config.Settings.TheVariants as settings
use Rattle.iox_command.specs.NegotiateBase.DescribeSettings.declared.static_config.publish_subscribe.StaticConfig.{StaticConfig}
use Rattle.iox_command.specs.declared.service.PublishSubscribeOptions.{PublishSubscribeOptions}
use Rattle.iox_command.specs.declared.service.ServiceOptions.TheVariants as options
use Rattle.iox_describe_base.proofs.CompatibleLemmas.{compatible-from, compatible-true}
use Rattle.iox_describe_base.specs.Compatible.{IsCompatible, is_compatible, same_detail}
use Rattle.iox_domain.specs.Fitting.{FitTypes, Fits, any_payload, any_user_header, asked_types}
use Rattle.iox_machine.specs.Agreement.{Agreement, verdict}
use Rattle.iox_machine.specs.Asked.{settings_of}

-- of clauses that are met the first is
first_met : {E : Type 0} (error : E) (met : Bool) (rest : Result (Unit {0}) E) → cond met rest (Err error) ≡ Ok tt → met ≡ true
first_met error true rest is = refl
first_met {E} error false rest is = absurd (differ is)
  where
    differ : ◌≡◌ {A = Result (Unit {0}) E} (Err error) (Ok tt) → ⊥
    differ e = cc

module _ (payload user_header : Detail) where
  -- Publish-subscribe settings fit the hub, where they are within the limits.
  abbrev pub FitsHere : Settings → Type 0
  FitsHere all = (c : StaticConfig) → all ≡ settings.PublishSubscribe c → AreWithinLimits all → Fits payload user_header all

module _ (payload user_header : Detail) (variant : TypeVariant) where
  -- the types that are asked for
  abbrev types : MessageTypeDetails
  types = asked_types variant payload user_header

  stood_for_so : (given : MessageTypeDetails) (any_value any_header : Bool) → IsCompatible types given
      → IsCompatible (asked_types variant (cond any_value given.payload payload) (cond any_header given.user_header user_header)) given
  stood_for_so given true true fit = record {
    header = fit.header;
    user_header = refl;
    variant = fit.variant;
    name = refl;
    size = refl;
    alignment = omega arith;
  }
  stood_for_so given true false fit = record {
    header = fit.header;
    user_header = fit.user_header;
    variant = fit.variant;
    name = refl;
    size = refl;
    alignment = omega arith;
  }
  stood_for_so given false true fit = record {
    header = fit.header;
    user_header = refl;
    variant = fit.variant;
    name = fit.name;
    size = fit.size;
    alignment = fit.alignment;
  }
  stood_for_so given false false fit = record {
    header = fit.header;
    user_header = fit.user_header;
    variant = fit.variant;
    name = fit.name;
    size = fit.size;
    alignment = fit.alignment;
  }

  -- types that a builder over values or over slices finds compatible fit
  types_fit : (given : MessageTypeDetails) → IsCompatible types given → FitTypes payload user_header given
  types_fit given fit = by_variant variant refl
    where
      of : TypeVariant → MessageTypeDetails
      of one = asked_types one (cond (same_detail payload any_payload) given.payload payload)
          (cond (same_detail user_header any_user_header) given.user_header user_header)

      by_variant : (one : TypeVariant) → one ≡ variant → FitTypes payload user_header given
      by_variant FixedSize is =
          inl (compatible-from _ _ (subst (λ (it : TypeVariant). IsCompatible (of it) given) (sym is)
          (stood_for_so given (same_detail payload any_payload) (same_detail user_header any_user_header) fit)))
      by_variant Dynamic is =
          inr (compatible-from _ _ (subst (λ (it : TypeVariant). IsCompatible (of it) given) (sym is)
          (stood_for_so given (same_detail payload any_payload) (same_detail user_header any_user_header) fit)))

  fits_there : (all : Settings) → ((c : StaticConfig) → all ≡ settings.PublishSubscribe c → IsCompatible types c.types)
      → FitsHere payload user_header all
  fits_there all compatible c is within = (c, is, within, types_fit c.types (compatible c is))

  met_types : (types : MessageTypeDetails) (required : Required) (named : PublishSubscribeOptions) (attributes : List Attribute)
      (c : StaticConfig)
      → verdict types (options.PublishSubscribe named) required
      (record { settings = settings.PublishSubscribe c; attributes = attributes }) ≡ Ok tt
      → is_compatible types c.types ≡ true
  met_types types required named attributes c met = first_met _ (is_compatible types c.types) _ met

  -- what is opened fits
  pub met_fits : (required : Required) (named : PublishSubscribeOptions) (agreed : Agreement)
      → verdict types (options.PublishSubscribe named) required agreed ≡ Ok tt → FitsHere payload user_header agreed.settings
  met_fits required named agreed met = fits_there agreed.settings
      (λ c is. compatible-true types c.types (met_types types required named agreed.attributes c
      (subst (λ (s : Settings). verdict types (options.PublishSubscribe named) required
      (record { settings = s; attributes = agreed.attributes })
      ≡ Ok tt) is met)))

  types_of_new : (named : PublishSubscribeOptions) (c : StaticConfig)
      → settings_of types (options.PublishSubscribe named) ≡ settings.PublishSubscribe c → types ≡ c.types
  types_of_new named c is = ap types_in is
    where
      types_in : Settings → MessageTypeDetails
      types_in (settings.PublishSubscribe other) = other.types
      types_in other = types

  -- what is new fits
  pub new_fits : (named : PublishSubscribeOptions) → FitsHere payload user_header (settings_of types (options.PublishSubscribe named))
  new_fits named = fits_there (settings_of types (options.PublishSubscribe named))
      (λ c is. subst (λ (t : MessageTypeDetails). IsCompatible types t) (types_of_new named c is)
      (record { header = refl; user_header = refl; variant = refl; name = refl; size = refl; alignment = omega arith }))
