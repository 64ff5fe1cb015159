-- Lists in which something else stands in the place of each element.
use Rattle.std.proofs.Common.{◌≡◌, ℕ, zero, suc, Bool, true, false, cond, ◌&&◌, ◌||◌, List, [], ◌∷◌, ◌++◌, map, Option, None, Some, Ok}
use Rattle.std.proofs.Common.{Err, refl, ap, ap₂, sym, subst, ◌∙◌}
use Rattle.std.specs.List.{list_any, list_all, cons_option, fold}
use Rattle.std.specs.Option.{option_map_or}
use Rattle.std.specs.Prelude.{find, filter, filter_map, flat_map, zip, slice_get, replicate, option_map, is_some, MatchBool, MatchOption}
use Rattle.std.specs.Prelude.{MatchResult, Result}

-- a choice of what two become is what the chosen one becomes
pub cond-of : {X Y : Type 0} (f : X → Y) (b : Bool) (x y : X) → cond b (f x) (f y) ≡ f (cond b x y)
cond-of f true x y = refl
cond-of f false x y = refl

module _ {X Y : Type 0} (f : X → Y) where
  pub find-by : (q : Y → Bool) (p : X → Bool) → ((x : X) → q (f x) ≡ p x) → (xs : List X) → find q (map f xs) ≡ option_map f (find p xs)
  find-by q p on [] = refl
  find-by q p on (x ∷ xs) =
      ap (λ (b : Bool). cond b (Some (f x)) (find q (map f xs))) (on x)
      ∙ ap (λ (rest : Option Y). cond (p x) (Some (f x)) rest) (find-by q p on xs)
      ∙ cond-of (option_map f) (p x) (Some x) (find p xs)

  pub filter-by : (q : Y → Bool) (p : X → Bool) → ((x : X) → q (f x) ≡ p x) → (xs : List X)
      → filter q (map f xs) ≡ map f (filter p xs)
  filter-by q p on [] = refl
  filter-by q p on (x ∷ xs) =
      ap (λ (b : Bool). cond b (f x ∷ filter q (map f xs)) (filter q (map f xs))) (on x)
      ∙ ap (λ (rest : List Y). cond (p x) (f x ∷ rest) rest) (filter-by q p on xs)
      ∙ cond-of (map f) (p x) (x ∷ filter p xs) (filter p xs)

  pub any-by : (q : Y → Bool) (p : X → Bool) → ((x : X) → q (f x) ≡ p x) → (xs : List X) → list_any q (map f xs) ≡ list_any p xs
  any-by q p on [] = refl
  any-by q p on (x ∷ xs) = ap₂ (λ (a b : Bool). a || b) (on x) (any-by q p on xs)

  pub all-by : (q : Y → Bool) (p : X → Bool) → ((x : X) → q (f x) ≡ p x) → (xs : List X) → list_all q (map f xs) ≡ list_all p xs
  all-by q p on [] = refl
  all-by q p on (x ∷ xs) = ap₂ (λ (a b : Bool). a && b) (on x) (all-by q p on xs)

  pub get-by : (xs : List X) (i : ℕ) → slice_get (map f xs) i ≡ option_map f (slice_get xs i)
  get-by [] i = refl
  get-by (x ∷ xs) zero = refl
  get-by (x ∷ xs) (suc i) = get-by xs i

  pub flat_map-same : {Z : Type 0} (g : Y → List Z) (h : X → List Z) → ((x : X) → g (f x) ≡ h x) → (xs : List X)
      → flat_map g (map f xs) ≡ flat_map h xs
  flat_map-same {Z} g h on [] = refl
  flat_map-same {Z} g h on (x ∷ xs) = ap₂ (λ (one other : List Z). one ++ other) (on x) (flat_map-same g h on xs)

  pub map-same : {Z : Type 0} (g : Y → Z) (h : X → Z) → ((x : X) → g (f x) ≡ h x) → (xs : List X) → map g (map f xs) ≡ map h xs
  map-same {Z} g h on [] = refl
  map-same {Z} g h on (x ∷ xs) = ap₂ (λ (one : Z) (more : List Z). one ∷ more) (on x) (map-same g h on xs)

  cons-by : (o : Option X) (xs : List X) → cons_option (option_map f o) (map f xs) ≡ map f (cons_option o xs)
  cons-by None xs = refl
  cons-by (Some x) xs = refl

  pub filter_map-by : {V W : Type 0} (k : V → W) (h : W → Option Y) (g : V → Option X) → ((v : V) → h (k v) ≡ option_map f (g v))
      → (vs : List V) → filter_map h (map k vs) ≡ map f (filter_map g vs)
  filter_map-by k h g on [] = refl
  filter_map-by k h g on (v ∷ vs) = ap₂ cons_option (on v) (filter_map-by k h g on vs) ∙ cons-by (g v) (filter_map g vs)

  pub replicate-by : (n : ℕ) (x : X) → replicate n (f x) ≡ map f (replicate n x)
  replicate-by zero x = refl
  replicate-by (suc n) x = ap (λ (rest : List Y). f x ∷ rest) (replicate-by n x)

  pub some-by : (o : Option X) → is_some (option_map f o) ≡ is_some o
  some-by None = refl
  some-by (Some x) = refl

  pub or-by : {Z : Type 0} (g : Y → Z) (h : X → Z) (z : Z) → ((x : X) → g (f x) ≡ h x) → (o : Option X)
      → option_map_or g (option_map f o) z ≡ option_map_or h o z
  or-by g h z on None = refl
  or-by g h z on (Some x) = on x

pub map-swap : {X Y Z W : Type 0} (f : X → Y) (g : Y → W) (h : X → Z) (k : Z → W) → ((x : X) → g (f x) ≡ k (h x)) → (xs : List X)
    → map g (map f xs) ≡ map k (map h xs)
map-swap {X} {Y} {Z} {W} f g h k on [] = refl
map-swap {X} {Y} {Z} {W} f g h k on (x ∷ xs) =
    ap₂ (λ (one : W) (more : List W). one ∷ more) (on x) (map-swap f g h k on xs)

pub option-swap : {X Y Z W : Type 0} (f : X → Y) (g : Y → W) (h : X → Z) (k : Z → W) → ((x : X) → g (f x) ≡ k (h x)) → (o : Option X)
    → option_map g (option_map f o) ≡ option_map k (option_map h o)
option-swap f g h k on None = refl
option-swap f g h k on (Some x) = ap Some (on x)

pub zip-by : {X Y V W : Type 0} (f : X → Y) (g : V → W) (xs : List X) (vs : List V)
    → zip (map f xs) (map g vs) ≡ map (λ (pair : X × V). (f pair.0, g pair.1)) (zip xs vs)
zip-by f g [] vs = refl
zip-by f g (x ∷ xs) [] = refl
zip-by {X} {Y} {V} {W} f g (x ∷ xs) (v ∷ vs) = ap (λ (rest : List (Y × W)). (f x, g v) ∷ rest) (zip-by f g xs vs)

pub fold-by : {A B X Y : Type 0} (r : A → B) (f : X → Y) (g : B → Y → B) (h : A → X → A) → ((a : A) (x : X) → g (r a) (f x) ≡ r (h a x))
    → (a : A) (xs : List X) → fold g (r a) (map f xs) ≡ r (fold h a xs)
fold-by r f g h on a [] = refl
fold-by {A} {B} {X} {Y} r f g h on a (x ∷ xs) =
    ap (λ (b : B). fold g b (map f xs)) (on a x) ∙ fold-by r f g h on (h a x) xs

-- ---- what is so by cases, and then so of what stands in the place

pub over-bool : {A B C D : Type 0} (b c : Bool) → c ≡ b → (A → C) → (B → D) → MatchBool b A B → MatchBool c C D
over-bool {A} {B} {C} {D} b c same on_true on_false h = subst (λ (it : Bool). MatchBool it C D) (sym same) (here b h)
  where
    here : (b : Bool) → MatchBool b A B → MatchBool b C D
    here true h = on_true h
    here false h = on_false h

pub over-option : {V W A C : Type 0} {B : V → Type 0} (D : W → Type 0) (f : V → W) (o : Option V) (p : Option W)
    → p ≡ option_map f o → (A → C) → ((v : V) → B v → D (f v)) → MatchOption o A B → MatchOption p C D
over-option {V} {W} {A} {C} {B} D f o p same none some h = subst (λ (it : Option W). MatchOption it C D) (sym same) (here o h)
  where
    here : (o : Option V) → MatchOption o A B → MatchOption (option_map f o) C D
    here None h = none h
    here (Some v) h = some v h

pub over-result : {V E : Type 0} {A C : V → Type 0} {B D : E → Type 0} (r q : Result V E)
    → q ≡ r → ((v : V) → A v → C v) → ((e : E) → B e → D e) → MatchResult r A B → MatchResult q C D
over-result {V} {E} {A} {C} {B} {D} r q same on_ok on_err h = subst (λ (it : Result V E). MatchResult it C D) (sym same) (here r h)
  where
    here : (r : Result V E) → MatchResult r A B → MatchResult r C D
    here (Ok v) h = on_ok v h
    here (Err e) h = on_err e h

pub over-same : {V A C : Type 0} {B D : V → Type 0} (o p : Option V) → p ≡ o → (A → C) → ((v : V) → B v → D v) → MatchOption o A B
    → MatchOption p C D
over-same {V} {A} {C} {B} {D} o p same none some h = subst (λ (it : Option V). MatchOption it C D) (sym same) (here o h)
  where
    here : (o : Option V) → MatchOption o A B → MatchOption o C D
    here None h = none h
    here (Some v) h = some v h
