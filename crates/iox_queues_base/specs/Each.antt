-- The words of an array's elements, one word each, from which the array is decoded.
use Rattle.std.proofs.Common.{ℕ, zero, suc, ◌≡◌, ◌+◌, ◌-◌, ◌<◌, List, [], ◌∷◌, length, get_or, map, take, drop, arith, refl, ap, ◌∙◌, sym}
use Rattle.std.proofs.Common.{subst, set, ◌++◌}
use Rattle.std.specs.Prelude.{All, slice_index}
use Rattle.std.proofs.lemmas.List.{drop_more, take_more, take_more_set, length-map}
use Rattle.std.proofs.lemmas.List.Elements.{All-head, All-tail}

-- The first word of each of `n` elements, or 0 where an element is missing.
abbrev pub first_words : {X : Type 0} → (X → List ℕ) → ℕ → List X → List ℕ
first_words parts zero items = []
first_words parts (suc n) [] = 0 ∷ first_words parts n []
first_words parts (suc n) (item ∷ items) = slice_index (parts item) 0 ∷ first_words parts n items

-- The elements that these words encode, one word each.
abbrev pub each_of_words : {X : Type 0} → (List ℕ → X) → List ℕ → List X
each_of_words of_parts words = map (λ word. of_parts (word ∷ [])) words

-- An array of `n` elements has `n` words.
pub many_first : {X : Type 0} (parts : X → List ℕ) (n : ℕ) (items : List X) → length (first_words parts n items) ≡ n
many_first parts zero items = refl
many_first parts (suc n) [] = ap suc (many_first parts n [])
many_first parts (suc n) (item ∷ items) = ap suc (many_first parts n items)

alone : (words : List ℕ) → length words ≡ 1 → slice_index words 0 ∷ [] ≡ words
alone [] h = absurd (omega (arith, h))
alone (word ∷ []) h = refl
alone (word ∷ next ∷ words) h = absurd (omega (arith, h))

-- Decoding the words of an array gives the array back, if each element has one word that gives the element back.
pub each_given_back : {X : Type 0} (parts : X → List ℕ) (of_parts : List ℕ → X) (is_value : X → Type 0) → ((x : X) → length (parts x) ≡ 1)
    → ((x : X) → is_value x → of_parts (parts x) ≡ x)
    → (n : ℕ) (items : List X) → length items ≡ n → All is_value items → each_of_words of_parts (first_words parts n items) ≡ items
each_given_back parts of_parts is_value one back zero [] long all = refl
each_given_back parts of_parts is_value one back zero (item ∷ items) long all = absurd (omega (arith, long))
each_given_back parts of_parts is_value one back (suc n) [] long all = absurd (omega (arith, long))
each_given_back parts of_parts is_value one back (suc n) (item ∷ items) long all =
    let head : of_parts (slice_index (parts item) 0 ∷ []) ≡ item =
    ap of_parts (alone (parts item) (one item)) ∙ back item (All-head is_value item items all) in
    let tail : each_of_words of_parts (first_words parts n items) ≡ items =
    each_given_back parts of_parts is_value one back n items (omega (arith, long)) (All-tail is_value item items all) in
    ap (λ x. x ∷ each_of_words of_parts (first_words parts n items)) head ∙ ap (λ xs. item ∷ xs) tail

-- Word `i` of an array of `n` elements is the first word of its element `i`.
pub first_at : {X : Type 0} (parts : X → List ℕ) (n i : ℕ) (items : List X) (d : X) → i < n → length items ≡ n
    → slice_index (first_words parts n items) i ≡ slice_index (parts (get_or items i d)) 0
first_at parts zero i items d within long = absurd (omega (arith, within))
first_at parts (suc n) i [] d within long = absurd (omega (arith, long))
first_at parts (suc n) zero (item ∷ items) d within long = refl
first_at parts (suc n) (suc i) (item ∷ items) d within long = first_at parts n i items d (omega (arith, within)) (omega (arith, long))

-- If every value of a type has `many` words, and `many` is 1, every value has one word.
pub one_each : {X : Type 0} (parts : X → List ℕ) (many : ℕ) → ((x : X) → length (parts x) ≡ many) → many ≡ 1 → (x : X)
    → length (parts x) ≡ 1
one_each parts many as_many one x = as_many x ∙ one

-- The slice of the words from `i` up to `i + 1` has word `i` alone.
pub one_of : (words : List ℕ) (i : ℕ) → i < length words → take (i + 1 - i) (drop i words) ≡ slice_index words i ∷ []
one_of words i within =
    let one : i + 1 - i ≡ 1 = omega arith in
    ap (λ n. take n (drop i words)) one ∙ ap (take 1) (drop_more words i 0 within)

-- Element `i` of a mapped list is the image of word `i`.
pub map_at : {X : Type 0} (g : ℕ → X) (words : List ℕ) (i : ℕ) (d : X) → i < length words
    → get_or (map g words) i d ≡ g (slice_index words i)
map_at g [] i d within = absurd (omega (arith, within))
map_at g (word ∷ words) zero d within = refl
map_at g (word ∷ words) (suc i) d within = map_at g words i d (omega (arith, within))

-- Setting element `i` of an array whose first `i` elements are decoded leaves one more decoded element.
pub each_more : {X : Type 0} (of_parts : List ℕ → X) (words : List ℕ) (items : List X) (i : ℕ) (x : X) → i < length words → i < length items
    → take i items ≡ take i (each_of_words of_parts words) → x ≡ of_parts (take (i + 1 - i) (drop i words))
    → take (i + 1) (set items i x) ≡ take (i + 1) (each_of_words of_parts words)
each_more of_parts words items i x within there before is =
    let all : List _ = each_of_words of_parts words in
    let at : get_or all i x ≡ x = map_at (λ word. of_parts (word ∷ [])) words i x within ∙ ap of_parts (sym (one_of words i within)) ∙
    sym is in
    take_more_set items i x there ∙ ap (λ xs. xs ++ x ∷ []) before
    ∙ sym (take_more all i x (subst (λ n. i < n) (sym (length-map words (λ word. of_parts (word ∷ [])))) within) ∙ ap
    (λ y. take i all ++ y ∷ []) at)
