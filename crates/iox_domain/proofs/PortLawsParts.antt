-- Lists that are part of others, in order.
use Rattle.std.proofs.Common.{◌≡◌, ◌≢◌, ◌∷◌, [], ◌++◌, ℕ, zero, suc, List, drop, refl, sym, ap, ◌∙◌, inl, inr}
use Rattle.iox_domain.specs.Order.{IsPartOf}

pub part_later : {X : Type 0} (y : X) (xs ys : List X) → IsPartOf xs ys → IsPartOf xs (y ∷ ys)
part_later y [] ys part = tt
part_later y (x ∷ xs) ys part = inr part

pub part_same : {X : Type 0} (xs : List X) → IsPartOf xs xs
part_same [] = tt
part_same (x ∷ xs) = inl (refl, part_same xs)

pub part_on : {X : Type 0} (xs ys zs : List X) → IsPartOf xs ys → IsPartOf ys zs → IsPartOf xs zs
part_on [] ys zs one two = tt
part_on (x ∷ xs) [] zs one two = absurd one
part_on (x ∷ xs) (y ∷ ys) [] one two = absurd two
part_on (x ∷ xs) (y ∷ ys) (z ∷ zs) (inl one) (inl two) = inl (one.0 ∙ two.0, part_on xs ys zs one.1 two.1)
part_on (x ∷ xs) (y ∷ ys) (z ∷ zs) (inr one) (inl two) = inr (part_on (x ∷ xs) ys zs one two.1)
part_on (x ∷ xs) (y ∷ ys) (z ∷ zs) one (inr two) = inr (part_on (x ∷ xs) (y ∷ ys) zs one two)

-- of a longer one
pub part_behind : {X : Type 0} (xs ys zs : List X) → IsPartOf xs ys → IsPartOf xs (ys ++ zs)
part_behind [] ys zs part = tt
part_behind (x ∷ xs) [] zs part = absurd part
part_behind (x ∷ xs) (y ∷ ys) zs (inl part) = inl (part.0, part_behind xs ys zs part.1)
part_behind (x ∷ xs) (y ∷ ys) zs (inr part) = inr (part_behind (x ∷ xs) ys zs part)

part_end : {X : Type 0} (z : X) (ys : List X) → IsPartOf (z ∷ []) (ys ++ z ∷ [])
part_end z [] = inl (refl, tt)
part_end z (y ∷ ys) = inr (part_end z ys)

-- both with one more after
pub part_last : {X : Type 0} (z : X) (xs ys : List X) → IsPartOf xs ys → IsPartOf (xs ++ z ∷ []) (ys ++ z ∷ [])
part_last z [] ys part = part_end z ys
part_last z (x ∷ xs) [] part = absurd part
part_last z (x ∷ xs) (y ∷ ys) (inl part) = inl (part.0, part_last z xs ys part.1)
part_last z (x ∷ xs) (y ∷ ys) (inr part) = inr (part_last z (x ∷ xs) ys part)

-- both after the same
pub part_within : {X : Type 0} (xs ys zs : List X) → IsPartOf ys zs → IsPartOf (xs ++ ys) (xs ++ zs)
part_within [] ys zs part = part
part_within (x ∷ xs) ys zs part = inl (refl, part_within xs ys zs part)

-- the first of it
pub part_first : {X : Type 0} (xs ys zs : List X) → IsPartOf (xs ++ ys) zs → IsPartOf xs zs
part_first [] ys zs part = tt
part_first (x ∷ xs) ys [] part = absurd part
part_first (x ∷ xs) ys (z ∷ zs) (inl part) = inl (part.0, part_first xs ys zs part.1)
part_first (x ∷ xs) ys (z ∷ zs) (inr part) = inr (part_first (x ∷ xs) ys zs part)

-- what is left without the oldest
pub part_drop : {X : Type 0} (n : ℕ) (xs : List X) → IsPartOf (drop n xs) xs
part_drop zero xs = part_same xs
part_drop (suc n) [] = tt
part_drop (suc n) (x ∷ xs) = part_later x (drop n xs) xs (part_drop n xs)

pub part_nothing : {X : Type 0} (xs ys : List X) → xs ≡ [] → IsPartOf xs ys
part_nothing [] ys is = tt
part_nothing (x ∷ xs) ys is = cc

-- two lists that together are none
pub none_first : {X : Type 0} (xs ys : List X) → xs ++ ys ≡ [] → xs ≡ []
none_first [] ys is = refl
none_first (x ∷ xs) ys is = cc

-- what comes before the last of a list is one
pub before_last : {X : Type 0} (x y : X) (xs ys : List X) → xs ++ x ∷ [] ≡ ys ++ y ∷ [] → xs ≡ ys
before_last x y [] [] is = refl
before_last x y [] (z ∷ zs) is = let none : [] ≡ zs ++ y ∷ [] = ap (λ all. drop 1 all) is in absurd (not_none y zs (sym none))
  where
    not_none : {X : Type 0} (y : X) (zs : List X) → zs ++ y ∷ [] ≢ []
    not_none y [] is = cc
    not_none y (z ∷ zs) is = cc
before_last x y (w ∷ ws) [] is = let none : ws ++ x ∷ [] ≡ [] = ap (λ all. drop 1 all) is in absurd (not_none x ws none)
  where
    not_none : {X : Type 0} (y : X) (zs : List X) → zs ++ y ∷ [] ≢ []
    not_none y [] is = cc
    not_none y (z ∷ zs) is = cc
before_last x y (w ∷ ws) (z ∷ zs) is =
    let heads : w ≡ z = cc in
    let rest : ws ++ x ∷ [] ≡ zs ++ y ∷ [] = ap (λ all. drop 1 all) is in
    ap (λ one. one ∷ ws) heads ∙ ap (λ all. z ∷ all) (before_last x y ws zs rest)
