-- Theorems about which types fit.
use Rattle.std.specs.Prelude.{ℕ, ◌≡◌, ◌≤◌, ◌⊎◌, ◌↔◌, true, is_some, codes, Option}
use Rattle.iox_domain_values.specs.declared.service_sizes.ServiceSizes.{ServiceSizes}
use Rattle.iox_describe_settings.specs.DescribeBase.Detail.{Detail, detail}
use Rattle.iox_describe_settings.specs.DescribeBase.declared.type_detail.TypeVariant.TheVariants.{FixedSize}
use Rattle.iox_describe_settings.specs.DescribeBase.declared.message_type.MessageTypeDetails.{MessageTypeDetails}
use Rattle.iox_describe_settings.specs.declared.static_config.Settings.{Settings}
use Rattle.iox_domain.specs.Fitting.{any_payload, any_user_header, FitTypes, Fits}
use Rattle.iox_domain.specs.Sizes.{SizesOf}

-- The header is that of all services. The user header is the one asked for, unless that matches any. The payload has the name
-- and the size of the one asked for, and at least its alignment, unless that matches any; it may be single values or slices.
pub record TypesFit (asked_payload asked_user_header : Detail) (types : MessageTypeDetails) : Type 0 where
  pub header : types.header ≡ detail FixedSize (codes "Header") 24 8
  pub user_header : (asked_user_header ≡ any_user_header) ⊎ (types.user_header ≡ asked_user_header)
  pub payload : (asked_payload ≡ any_payload)
      ⊎ ((types.payload.name ≡ asked_payload.name) × (types.payload.size ≡ asked_payload.size)
      × (asked_payload.alignment ≤ types.payload.alignment))

-- Types fit exactly if `TypesFit` holds.
abbrev pub FitMeans : Type 0
FitMeans = (payload user_header : Detail) (types : MessageTypeDetails) → FitTypes payload user_header types
    ↔ TypesFit payload user_header types

-- Settings that fit have sizes, whatever number of expired connections is asked for.
abbrev pub WhatFitsHasSizes : Type 0
WhatFitsHasSizes = (payload user_header : Detail) (settings : Settings) (expired_connection_buffer : ℕ) (sizes : Option ServiceSizes)
    → Fits payload user_header settings → SizesOf expired_connection_buffer settings sizes → is_some sizes ≡ true
