-- How many values the elements of a service have.
use Rattle.std.proofs.Common.{arith, ◌≡◌, ◌==◌, ◌∙◌, ℕ, zero, suc, Bool, true, false, not, refl, sym, ap}
use Rattle.std.proofs.Math.Logic.{⊎_elim}
use Rattle.std.proofs.Math.Nat.{div-one, div_self}
use Rattle.std.proofs.lemmas.Bool.{cases_Bool}
use Rattle.std.proofs.lemmas.Bool.Decides.{eqb_tells}
use Rattle.iox_describe_base.proofs.CompatibleLemmas.{same_detail-true}
use Rattle.iox_domain.specs.DescribeBase.Compatible.{same_detail}
use Rattle.iox_domain.specs.DescribeBase.declared.type_detail.TypeVariant.{TypeVariant}
use Rattle.iox_domain.specs.DescribeBase.declared.type_detail.TypeVariant.TheVariants.{FixedSize, Dynamic}
use Rattle.iox_domain.specs.Fitting.{any_payload}
use Rattle.iox_domain.proofs.Meaning.{fit_means}
use Rattle.iox_delivery_factories.specs.Elements.{values_each, by_variant, ElementsHaveValues, HasOneKind}

-- a value of the same size
as_large : (size : ℕ) → values_each size size ≡ 1
as_large zero = refl
as_large (suc size) = ⊎_elim
    (λ none. absurd (omega (arith, none.1)))
    (λ some. rw some.0 (div_self {n = suc size} (omega arith)))
    (eqb_tells (suc size) 0)

bytes : (size value : ℕ) → value ≡ 1 → values_each size value ≡ size
bytes size value is = ap (λ v. values_each size v) is ∙ div-one size

-- all of it
pub elements_have_values : ElementsHaveValues
elements_have_values payload user_header types fit = record {
  bytes = λ is. bytes types.payload.size payload.size (ap (λ detail. detail.size) is);
  single = λ other. ⊎_elim
      (λ any. absurd (other any))
      (λ same. ap (λ size. values_each size payload.size) same.1 ∙ as_large payload.size)
      ((fit_means payload user_header types).0 fit).payload;
}

-- a payload is one element or a slice
one_kind : (variant : TypeVariant) (custom single : Bool) → custom ≡ false → single ≡ true
    → by_variant variant custom true ≡ not (by_variant variant single false)
one_kind FixedSize custom single is one = is ∙ sym (ap not one)
one_kind Dynamic custom single is one = refl

pub has_one_kind : HasOneKind
has_one_kind payload user_header types fit other = one_kind types.payload.variant (same_detail payload any_payload)
    (values_each types.payload.size payload.size == 1)
    (⊎_elim (λ same. absurd (other (same_detail-true payload any_payload same))) (λ apart. apart)
    (cases_Bool (same_detail payload any_payload)))
    (ap (λ values. values == 1) ((elements_have_values payload user_header types fit).single other))
