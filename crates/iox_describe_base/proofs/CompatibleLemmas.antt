-- Compatibility of types, in words and as a test.
use Rattle.std.proofs.Common.{◌≡◌, ℕ, Bool, true, false, ◌&&◌, List, refl, ◌∙◌, subst, arith, nat_eq, nat_le}
use Rattle.std.specs.Cmp.Lexicographic.{pointwise, bytes_decides}
use Rattle.std.proofs.lemmas.Bool.{eq-eqb, eqb-true, leb-true, le-leb}
use Rattle.iox_describe_base.specs.declared.type_detail.TypeVariant.{TypeVariant}
use Rattle.iox_describe_base.specs.declared.type_detail.TypeVariant.TheVariants.{FixedSize, Dynamic}
use Rattle.iox_describe_base.specs.declared.message_type.MessageTypeDetails.{MessageTypeDetails}
use Rattle.iox_describe_base.specs.Detail.{Detail, detail}
use Rattle.iox_describe_base.specs.Compatible.{same_variant, same_detail, is_compatible, IsCompatible}

-- both tests of a pair were met
pub both : (a b : Bool) → (a && b) ≡ true → (a ≡ true) × (b ≡ true)
both true b e = (refl, e)
both false b e = absurd cc

-- a pair of tests that are met is met
pub both_met : (a b : Bool) → a ≡ true → b ≡ true → (a && b) ≡ true
both_met true b e f = f
both_met false b e f = absurd cc

pub same_variant-true : (a b : TypeVariant) → same_variant a b ≡ true → a ≡ b
same_variant-true FixedSize FixedSize e = refl
same_variant-true FixedSize Dynamic e = absurd cc
same_variant-true Dynamic FixedSize e = absurd cc
same_variant-true Dynamic Dynamic e = refl

same_variant-itself : (a : TypeVariant) → same_variant a a ≡ true
same_variant-itself FixedSize = refl
same_variant-itself Dynamic = refl

pub same_variant-refl : (a b : TypeVariant) → a ≡ b → same_variant a b ≡ true
same_variant-refl a b e = subst (λ (c : TypeVariant). same_variant a c ≡ true) e (same_variant-itself a)

pub text-true : (a b : List ℕ) → pointwise nat_eq a b ≡ true → a ≡ b
text-true a b e = (bytes_decides a b).0 e

pub text-refl : (a b : List ℕ) → a ≡ b → pointwise nat_eq a b ≡ true
text-refl a b e = (bytes_decides a b).1 e

same_parts : (v w : TypeVariant) (m n : List ℕ) (s t a b : ℕ) → v ≡ w → m ≡ n → s ≡ t → a ≡ b → detail v m s a ≡ detail w n t b
same_parts v w m n s t a b e f g h = cc

pub same_detail-true : (a b : Detail) → same_detail a b ≡ true → a ≡ b
same_detail-true a b e =
    let p = both (same_variant a.variant b.variant) _ e in
    let q = both (pointwise nat_eq a.name b.name) _ p.1 in
    let r = both (nat_eq a.size b.size) (nat_eq a.alignment b.alignment) q.1 in
    same_parts a.variant b.variant a.name b.name a.size b.size a.alignment b.alignment
    (same_variant-true _ _ p.0) (text-true _ _ q.0) (eqb-true _ _ r.0) (eqb-true _ _ r.1)

same_detail-itself : (a : Detail) → same_detail a a ≡ true
same_detail-itself a =
    both_met _ _ (same_variant-refl a.variant a.variant refl)
    (both_met _ _ (text-refl a.name a.name refl)
    (both_met _ _ (eq-eqb a.size a.size refl) (eq-eqb a.alignment a.alignment refl)))

pub same_detail-refl : (a b : Detail) → a ≡ b → same_detail a b ≡ true
same_detail-refl a b e = subst (λ (c : Detail). same_detail a c ≡ true) e (same_detail-itself a)

-- what the test means
pub compatible-true : (a b : MessageTypeDetails) → is_compatible a b ≡ true → IsCompatible a b
compatible-true a b e =
    let p = both _ (nat_le a.payload.alignment b.payload.alignment) e in
    let q = both _ (nat_eq a.payload.size b.payload.size) p.0 in
    let r = both _ (pointwise nat_eq a.payload.name b.payload.name) q.0 in
    let s = both _ (same_variant a.payload.variant b.payload.variant) r.0 in
    let t = both (same_detail a.header b.header) (same_detail a.user_header b.user_header) s.0 in
    record {
      header = same_detail-true _ _ t.0;
      user_header = same_detail-true _ _ t.1;
      variant = same_variant-true _ _ s.1;
      name = text-true _ _ r.1;
      size = eqb-true _ _ q.1;
      alignment = leb-true _ _ p.1;
    }

pub compatible-from : (a b : MessageTypeDetails) → IsCompatible a b → is_compatible a b ≡ true
compatible-from a b h =
    both_met _ _
    (both_met _ _
    (both_met _ _
    (both_met _ _
    (both_met _ _ (same_detail-refl _ _ h.header) (same_detail-refl _ _ h.user_header))
    (same_variant-refl _ _ h.variant))
    (text-refl _ _ h.name))
    (eq-eqb _ _ h.size))
    (le-leb _ _ h.alignment)

pub compatible-itself : (a : MessageTypeDetails) → is_compatible a a ≡ true
compatible-itself a = compatible-from a a
    (record { header = refl; user_header = refl; variant = refl; name = refl; size = refl; alignment = omega arith })

chain : (a b c : MessageTypeDetails) → IsCompatible a b → IsCompatible b c → IsCompatible a c
chain a b c p q = record {
  header = p.header ∙ q.header;
  user_header = p.user_header ∙ q.user_header;
  variant = p.variant ∙ q.variant;
  name = p.name ∙ q.name;
  size = p.size ∙ q.size;
  alignment = omega (arith, p.alignment, q.alignment);
}

pub compatible-chain : (a b c : MessageTypeDetails) → is_compatible a b ≡ true → is_compatible b c ≡ true → is_compatible a c ≡ true
compatible-chain a b c p q = compatible-from a c (chain a b c (compatible-true a b p) (compatible-true b c q))
