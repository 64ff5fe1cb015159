-- What it means that types fit.
use Rattle.std.proofs.Common.{arith, ◌≡◌, ◌≤◌, ◌⊎◌, inl, inr, ◌∙◌, None, Some, refl, sym, ap}
use Rattle.std.proofs.Math.Logic.{⊎_elim}
use Rattle.std.proofs.lemmas.Bool.{cases_Bool}
use Rattle.iox_describe_settings.specs.DescribeBase.Detail.{Detail}
use Rattle.iox_describe_settings.specs.DescribeBase.Compatible.{same_detail, IsCompatible}
use Rattle.iox_describe_settings.proofs.DescribeBase.CompatibleLemmas.{compatible-true, compatible-from, same_detail-true, same_detail-refl}
use Rattle.iox_describe_settings.specs.DescribeBase.declared.type_detail.TypeVariant.{TypeVariant}
use Rattle.iox_describe_settings.specs.DescribeBase.declared.type_detail.TypeVariant.TheVariants.{FixedSize, Dynamic}
use Rattle.iox_describe_settings.specs.DescribeBase.declared.message_type.MessageTypeDetails.{MessageTypeDetails}
use Rattle.iox_domain.specs.Fitting.{any_payload, any_user_header, stood_for, asked_types, FitTypes}
use Rattle.iox_domain.specs.Laws.{TypesFit, FitMeans, WhatFitsHasSizes}

-- what stands for any is given, or what is asked stays
stands : (any asked given : Detail) → (asked ≡ any) ⊎ (stood_for any asked given ≡ asked)
stands any asked given = ⊎_elim (λ same. inl (same_detail-true asked any same)) (λ other. inr (rw other refl))
    (cases_Bool (same_detail asked any))

-- where it stands for any, what is given is taken
taken : (any asked given : Detail) → asked ≡ any → stood_for any asked given ≡ given
taken any asked given same = rw (same_detail-refl asked any same) refl

-- what a builder finds compatible fits
from_builder : (variant : TypeVariant) (payload user_header : Detail) (types : MessageTypeDetails)
    → IsCompatible (asked_types variant (stood_for any_payload payload types.payload)
    (stood_for any_user_header user_header types.user_header)) types
    → TypesFit payload user_header types
from_builder variant payload user_header types is = record {
  header = sym is.header;
  user_header = ⊎_elim (λ any. inl any) (λ asked. inr (sym is.user_header ∙ asked)) (stands any_user_header user_header types.user_header);
  payload = ⊎_elim
      (λ any. inl any)
      (λ asked. inr (
        sym is.name ∙ ap (λ one. one.name) asked,
        sym is.size ∙ ap (λ one. one.size) asked,
        omega
            (arith, is.alignment, ap (λ one. one.alignment) asked),
      ))
      (stands any_payload payload types.payload);
}

-- what fits is what is asked for, or given
user_header_is : (user_header : Detail) (types : MessageTypeDetails) → (user_header ≡ any_user_header) ⊎ (types.user_header ≡ user_header)
    → stood_for any_user_header user_header types.user_header ≡ types.user_header
user_header_is user_header types either = ⊎_elim
    (λ any. taken any_user_header user_header types.user_header any)
    (λ same. ⊎_elim (λ any. taken any_user_header user_header types.user_header any) (λ asked. asked ∙ sym same)
    (stands any_user_header user_header types.user_header))
    either

-- and so is a payload, but for its variant and alignment
record PayloadIs (asked given : Detail) : Type 0 where
  name : asked.name ≡ given.name
  size : asked.size ≡ given.size
  alignment : asked.alignment ≤ given.alignment

payload_is : (payload : Detail) (types : MessageTypeDetails)
    → (payload ≡ any_payload) ⊎ ((types.payload.name ≡ payload.name) × (types.payload.size ≡ payload.size)
    × (payload.alignment ≤ types.payload.alignment))
    → PayloadIs (stood_for any_payload payload types.payload) types.payload
payload_is payload types either =
    let any_is : payload ≡ any_payload → PayloadIs (stood_for any_payload payload types.payload) types.payload = λ any.
    rw (taken any_payload payload types.payload any) (record { name = refl; size = refl; alignment = omega arith }) in
    ⊎_elim
    any_is
    (λ same. ⊎_elim
    any_is
    (λ asked. rw asked (record { name = sym same.0; size = sym same.1; alignment = same.2 }))
    (stands any_payload payload types.payload))
    either

-- what fits a builder finds compatible that asks for that variant
compatible : (variant : TypeVariant) (payload user_header : Detail) (types : MessageTypeDetails) → types.payload.variant ≡ variant
    → TypesFit payload user_header types
    → IsCompatible (asked_types variant (stood_for any_payload payload types.payload)
    (stood_for any_user_header user_header types.user_header)) types
compatible variant payload user_header types is fit =
    let one = payload_is payload types fit.payload in
    record {
      header = sym fit.header;
      user_header = user_header_is user_header types fit.user_header;
      variant = sym is;
      name
          = one.name;
      size = one.size;
      alignment = one.alignment;
    }

to_builder : (variant : TypeVariant) (payload user_header : Detail) (types : MessageTypeDetails) → types.payload.variant ≡ variant
    → TypesFit payload user_header types
    → FitTypes payload user_header types
to_builder FixedSize payload user_header types is fit = inl (compatible-from _ _ (compatible FixedSize payload user_header types is fit))
to_builder Dynamic payload user_header types is fit = inr (compatible-from _ _ (compatible Dynamic payload user_header types is fit))

-- types fit exactly if that holds
pub fit_means : FitMeans
fit_means payload user_header types = (
  (λ fit. ⊎_elim
      (λ value. from_builder FixedSize payload user_header types (compatible-true _ _ value))
      (λ slice. from_builder Dynamic payload user_header types (compatible-true _ _ slice))
      fit),
  (λ fit. to_builder types.payload.variant payload user_header types refl fit),
)

-- what fits has sizes
pub what_fits_has_sizes : WhatFitsHasSizes
what_fits_has_sizes payload user_header settings expired None fits sizes = absurd (sizes fits.0 fits.1 fits.2)
what_fits_has_sizes payload user_header settings expired (Some found) fits sizes = refl
