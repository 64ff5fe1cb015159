-- The attributes of a tree, one by one.
use Rattle.std.proofs.Common.{◌≡◌, ◌<◌, ◌+◌, ℕ, zero, suc, List, [], ◌∷◌, ◌++◌, length, map, take, get_or, Some, refl, sym, ap, ◌∙◌, arith}
use Rattle.std.proofs.lemmas.List.{take_more, length-take-le, length-map}
use Rattle.serde_json.specs.Data.{Data}
use Rattle.serde_json.specs.Find.{as_array}
use Rattle.serde_json.specs.View.{items_of, items_view, view}
use Rattle.serde_json.specs.declared.value.Value.{Value}
use Rattle.iox_describe_verdict.specs.DescribeBase.declared.attribute.Attribute.{Attribute}
use Rattle.iox_describe_verdict.specs.DescribeBase.Attributes.{attribute, AreAttributes, IsAttribute}
use Rattle.iox_describe.specs.Line.{attribute_tree, attributes_tree}

-- lists of equal items are equal
pub same_items : (xs ys : List Data) → items_of xs ≡ items_of ys → xs ≡ ys
same_items [] [] e = refl
same_items [] (y ∷ ys) e = absurd cc
same_items (x ∷ xs) [] e = absurd cc
same_items (x ∷ xs) (y ∷ ys) e =
    let first : x ≡ y = cc in
    let rest : items_of xs ≡ items_of ys = cc in
    let more = same_items xs ys rest in
    λ i. first i ∷ more i

-- the items of the attributes' JSON are those of the attributes
pub items_are : (values : List Value) (pairs : List Attribute) (d : Data) → d ≡ attributes_tree pairs
    → Some (items_view values) ≡ as_array d → map view values ≡ map attribute_tree pairs
items_are values pairs d is found =
    let both : Some (items_view values) ≡ Some (items_of (map attribute_tree pairs)) = found ∙ ap as_array is in
    same_items (map view values) (map attribute_tree pairs) (let e : items_view values ≡ items_of (map attribute_tree pairs) = cc in e)

pub as_many : (values : List Value) (pairs : List Attribute) → map view values ≡ map attribute_tree pairs → length values ≡ length pairs
as_many values pairs e = sym (length-map values view) ∙ ap length e ∙ length-map pairs attribute_tree

item_at : (values : List Value) (pairs : List Attribute) (i : ℕ) (v : Value) (a : Attribute)
    → map view values ≡ map attribute_tree pairs → i < length values → view (get_or values i v) ≡ attribute_tree (get_or pairs i a)
item_at [] pairs i v a e lt = absurd (omega arith)
item_at (x ∷ xs) [] i v a e lt = absurd cc
item_at (x ∷ xs) (y ∷ ys) zero v a e lt = cc
item_at (x ∷ xs) (y ∷ ys) (suc i) v a e lt = item_at xs ys i v a (let rest : map view xs ≡ map attribute_tree ys = cc in rest) (omega arith)

-- the attribute that comes next
pub record IsNext (pairs old : List Attribute) (i : ℕ) (value : Value) (pair : Attribute) : Type 0 where
  pub good : IsAttribute pair
  pub room : length old < 8
  pub is : view value ≡ attribute_tree pair
  pub grown : old ++ pair ∷ [] ≡ take (i + 1) pairs

pub next : (values : List Value) (pairs old : List Attribute) (i : ℕ) (v : Value) → map view values ≡ map attribute_tree pairs
    → AreAttributes pairs → old ≡ take i pairs → i < length values → v ≡ get_or values i v
    → IsNext pairs old i v (get_or pairs i (attribute [] []))
next values pairs old i v e within before lt is =
    let many = as_many values pairs e in
    let far : i < length pairs = omega (arith, many, lt) in
    let long = length-take-le i pairs (omega (arith, far)) in record {
      good = within.1 i (attribute [] []) far;
      room = omega (arith, ap length before, long, within.0, far);
      is = ap view is ∙ item_at values pairs i v (attribute [] []) e lt;
      grown = ap (λ l. l ++ get_or pairs i (attribute [] []) ∷ []) before ∙ sym (take_more pairs i (attribute [] []) far);
    }
