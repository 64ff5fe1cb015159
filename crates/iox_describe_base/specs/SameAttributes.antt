-- When lists of attributes are equal.
use Rattle.std.specs.Prelude.{◌≡◌, ◌&&◌, Bool, List, nat_eq}
use Rattle.std.proofs.Common.{ap, ◌∙◌}
use Rattle.std.specs.Bool.{Decides}
use Rattle.std.specs.Cmp.{IsPartialEquivalence, decided, first_so, second_so}
use Rattle.std.specs.Cmp.Lexicographic.{pointwise, pointwise_decides, bytes_decides}
use Rattle.iox_describe_base.specs.declared.attribute.Attribute.{Attribute}
use Rattle.iox_describe_base.specs.Attributes.{attribute, same_attribute}

-- Whether two lists of attributes are equal.
abbrev pub same_attributes : List Attribute → List Attribute → Bool
same_attributes a b = pointwise same_attribute a b

same_parts : (a b : Attribute) → a.key ≡ b.key → a.value ≡ b.value → a ≡ b
same_parts a b e f = ap (λ key. attribute key a.value) e ∙ ap (λ value. attribute b.key value) f

-- The test of two attributes decides whether they are equal.
pub same_attribute_decides : (a b : Attribute) → Decides (same_attribute a b) (a ≡ b)
same_attribute_decides a b = (
  λ e.
      same_parts a b
      ((bytes_decides a.key b.key).0 (first_so (pointwise nat_eq a.key b.key) (pointwise nat_eq a.value b.value) e))
      ((bytes_decides a.value b.value).0 (second_so (pointwise nat_eq a.key b.key) (pointwise nat_eq a.value b.value) e)),
  λ e.
      let p = (bytes_decides a.key b.key).1 (ap (λ (x : Attribute). x.key) e) in
      let q = (bytes_decides a.value b.value).1 (ap (λ (x : Attribute). x.value) e) in
      λ i. p i && q i,
)

-- The test of two lists of attributes decides whether they are equal.
pub same_attributes_decides : (a b : List Attribute) → Decides (same_attributes a b) (a ≡ b)
same_attributes_decides = pointwise_decides same_attribute_decides

-- The test of two lists of attributes is symmetric and transitive.
pub same_attributes_laws : IsPartialEquivalence same_attributes
same_attributes_laws =
    let e = decided same_attributes same_attributes_decides in
    record { symm = e.symm; trans = λ x y z p q. e.congr x y z p ∙ q }
