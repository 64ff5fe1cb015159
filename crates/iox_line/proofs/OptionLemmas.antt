-- Options are found exactly where they stand among the words, in any order.
use Rattle.std.proofs.Common.{◌≡◌, ℕ, ◌+◌, Bool, true, ◌&&◌, List, [], ◌∷◌, ◌++◌, Option, None, Some, refl, sym, ap, ◌∙◌, arith, length}
use Rattle.std.proofs.Common.{subst}
use Rattle.std.specs.List.{list_all}
use Rattle.std.proofs.lemmas.List.{length-append}
use Rattle.iox_line.specs.Options.{after, differ, are_apart, or_else, find, count, option_words, AnyOrder}
use Rattle.iox_line.proofs.AfterLemmas.{and_left, and_right, after_some, after_own, after_differ}

-- no word begins with the key
abbrev pub NoneAfter : List ℕ → List (List ℕ) → Type 0
NoneAfter key [] = Unit {0}
NoneAfter key (w ∷ ws) = (after key w ≡ None) × NoneAfter key ws

-- these values are found for the keys
abbrev pub Found : List (List ℕ) → List (List ℕ) → List (Option (List ℕ)) → Type 0
Found [] words [] = Unit {0}
Found [] words (v ∷ vs) = ⊥
Found (k ∷ ks) words [] = ⊥
Found (k ∷ ks) words (v ∷ vs) = (find k words ≡ v) × Found ks words vs

-- a key differs from each of the keys, both ways
abbrev pub differs : List ℕ → List (List ℕ) → Bool
differs key keys = list_all (λ other. differ key other && differ other key) keys

find_at : (key w : List ℕ) (ws : List (List ℕ)) (t : List ℕ) (r : Option (List ℕ)) → after key w ≡ r → or_else r (find key ws) ≡ Some t
    → (find key ws ≡ Some t → (front : List (List ℕ)) × (back : List (List ℕ)) × (ws ≡ front ++ (key ++ t) ∷ back))
    → (front : List (List ℕ)) × (back : List (List ℕ)) × (w ∷ ws ≡ front ++ (key ++ t) ∷ back)
find_at key w ws t (Some u) e h more = ([], ws, ap (λ x. x ∷ ws) (after_some key w t (e ∙ h)))
find_at key w ws t None e h more = let r = more h in (w ∷ r.0, r.1, ap (λ l. w ∷ l) r.2)

-- what is found stands among the words
pub find_some : (key : List ℕ) (ws : List (List ℕ)) (t : List ℕ) → find key ws ≡ Some t → (front : List (List ℕ))
    × (back : List (List ℕ)) × (ws ≡ front ++ (key ++ t) ∷ back)
find_some key [] t h = cc
find_some key (w ∷ ws) t h = find_at key w ws t (after key w) refl h (find_some key ws t)

-- a word that doesn't begin with the key is passed over
find_removed : (key : List ℕ) (front back : List (List ℕ)) (w : List ℕ) → after key w ≡ None
    → find key (front ++ w ∷ back) ≡ find key (front ++ back)
find_removed key [] back w h = ap (λ r. or_else r (find key back)) h
find_removed key (f ∷ fs) back w h = ap (λ r. or_else (after key f) r) (find_removed key fs back w h)

find_none : (key : List ℕ) (ws : List (List ℕ)) → NoneAfter key ws → find key ws ≡ None
find_none key [] n = refl
find_none key (w ∷ ws) n = ap (λ r. or_else r (find key ws)) n.0 ∙ find_none key ws n.1

-- the one word that begins with the key is found
find_only : (key t : List ℕ) (front back : List (List ℕ)) → NoneAfter key (front ++ back) → find key (front ++ (key ++ t) ∷ back) ≡ Some t
find_only key t [] back n = ap (λ r. or_else r (find key back)) (after_own key t)
find_only key t (f ∷ fs) back n = ap (λ r. or_else r (find key (fs ++ (key ++ t) ∷ back))) n.0 ∙ find_only key t fs back n.1

none_inserted : (key : List ℕ) (front back : List (List ℕ)) (w : List ℕ) → NoneAfter key (front ++ back) → after key w ≡ None
    → NoneAfter key (front ++ w ∷ back)
none_inserted key [] back w n h = (h, n)
none_inserted key (f ∷ fs) back w n h = (n.0, none_inserted key fs back w n.1 h)

none_anyhow : (key : List ℕ) (words ws : List (List ℕ)) → AnyOrder words ws → NoneAfter key ws → NoneAfter key words
none_anyhow key words [] o n = subst (λ l. NoneAfter key l) (sym o) tt
none_anyhow key words (w ∷ ws) o n = subst (λ l. NoneAfter key l) (sym o.2)
    (none_inserted key o.0 o.1 w (none_anyhow key (o.0 ++ o.1) ws o.3 n.1) n.0)

none_of_others : (key : List ℕ) (keys : List (List ℕ)) (values : List (Option (List ℕ))) → differs key keys ≡ true
    → NoneAfter key (option_words keys values)
none_of_others key [] values d = tt
none_of_others key (k ∷ ks) [] d = tt
none_of_others key (k ∷ ks) (None ∷ vs) d = none_of_others key ks vs (and_right (differ key k && differ k key) (differs key ks) d)
none_of_others key (k ∷ ks) (Some v ∷ vs) d =
    let both = and_left (differ key k && differ k key) (differs key ks) d in (
      after_differ k key v (and_right (differ key k) (differ k key) both),
      none_of_others key ks vs
          (and_right (differ key k && differ k key) (differs key ks) d),
    )

-- a word of another key neither hides nor brings a value
found_without : (key t : List ℕ) (front back : List (List ℕ)) (keys : List (List ℕ)) (values : List (Option (List ℕ)))
    → differs key keys ≡ true
    → Found keys (front ++ (key ++ t) ∷ back) values → Found keys (front ++ back) values
found_without key t front back [] [] d f = tt
found_without key t front back [] (v ∷ vs) d f = f
found_without key t front back (k ∷ ks) [] d f = f
found_without key t front back (k ∷ ks) (v ∷ vs) d f =
    let both = and_left (differ key k && differ k key) (differs key ks) d in
    let other = after_differ key k t (and_left (differ key k) (differ k key) both) in (
      sym (find_removed k front back (key ++ t) other) ∙ f.0,
      found_without key t front back ks vs
          (and_right (differ key k && differ k key) (differs key ks) d) f.1,
    )

found_with : (key t : List ℕ) (front back : List (List ℕ)) (keys : List (List ℕ)) (values : List (Option (List ℕ)))
    → differs key keys ≡ true
    → Found keys (front ++ back) values → Found keys (front ++ (key ++ t) ∷ back) values
found_with key t front back [] [] d f = tt
found_with key t front back [] (v ∷ vs) d f = f
found_with key t front back (k ∷ ks) [] d f = f
found_with key t front back (k ∷ ks) (v ∷ vs) d f =
    let both = and_left (differ key k && differ k key) (differs key ks) d in
    let other = after_differ key k t (and_left (differ key k) (differ k key) both) in (
      find_removed k front back (key ++ t) other ∙ f.0,
      found_with key t front back ks vs
          (and_right (differ key k && differ k key) (differs key ks) d) f.1,
    )

no_length : (ws : List (List ℕ)) → length ws ≡ 0 → ws ≡ []
no_length [] h = refl
no_length (w ∷ ws) h = absurd (omega (arith, h))

one_fewer : (front back : List (List ℕ)) (w : List ℕ) (ws : List (List ℕ)) (n : ℕ) → ws ≡ front ++ w ∷ back → length ws ≡ 1 + n
    → length (front ++ back) ≡ n
one_fewer front back w ws n e h =
    let l : length ws ≡ length (front ++ w ∷ back) = ap length e in
    omega (arith, l, h, length-append front (w ∷ back), length-append front back)

one_more : (front back : List (List ℕ)) (w : List ℕ) (ws : List (List ℕ)) (n : ℕ) → ws ≡ front ++ w ∷ back → length (front ++ back) ≡ n
    → length ws ≡ 1 + n
one_more front back w ws n e h =
    let l : length ws ≡ length (front ++ w ∷ back) = ap length e in
    omega (arith, l, h, length-append front (w ∷ back), length-append front back)

-- words that are as many as the values found are their options, in any order
pub options_sound : (keys : List (List ℕ)) (values : List (Option (List ℕ))) (words : List (List ℕ)) → are_apart keys ≡ true
    → Found keys words values
    → length words ≡ count values → AnyOrder words (option_words keys values)
options_sound [] [] words a f n = no_length words n
options_sound [] (v ∷ vs) words a f n = absurd f
options_sound (k ∷ ks) [] words a f n = absurd f
options_sound (k ∷ ks) (None ∷ vs) words a f n = options_sound ks vs words (and_right (differs k ks) (are_apart ks) a) f.1 n
options_sound (k ∷ ks) (Some t ∷ vs) words a f n =
    let p = find_some k words t f.0 in
    let found = found_without k t p.0 p.1 ks vs (and_left (differs k ks) (are_apart ks) a) (subst (λ l. Found ks l vs) p.2 f.1) in (
      p.0,
      p.1,
      p.2,
      options_sound ks vs (p.0 ++ p.1) (and_right (differs k ks) (are_apart ks) a) found
          (one_fewer p.0 p.1 (k ++ t) words (count vs) p.2 n),
    )

-- options in any order are found, and the words are as many as they
pub options_complete : (keys : List (List ℕ)) (values : List (Option (List ℕ))) (words : List (List ℕ)) → are_apart keys ≡ true
    → length keys ≡ length values
    → AnyOrder words (option_words keys values) → Found keys words values × (length words ≡ count values)
options_complete [] [] words a l o = (tt, ap length o)
options_complete [] (v ∷ vs) words a l o = absurd (omega (arith, l))
options_complete (k ∷ ks) [] words a l o = absurd (omega (arith, l))
options_complete (k ∷ ks) (None ∷ vs) words a l o =
    let r = options_complete ks vs words (and_right (differs k ks) (are_apart ks) a) (omega (arith, l)) o in
    let none = none_anyhow k words (option_words ks vs) o (none_of_others k ks vs (and_left (differs k ks) (are_apart ks) a)) in
    ((find_none k words none, r.0), r.1)
options_complete (k ∷ ks) (Some t ∷ vs) words a l o =
    let r = options_complete ks vs (o.0 ++ o.1) (and_right (differs k ks) (are_apart ks) a) (omega (arith, l)) o.3 in
    let apart = and_left (differs k ks) (are_apart ks) a in
    let none = none_anyhow k (o.0 ++ o.1) (option_words ks vs) o.3 (none_of_others k ks vs apart) in
    let here : find k words ≡ Some t = ap (λ l. find k l) o.2 ∙ find_only k t o.0 o.1 none in
    let rest = subst (λ l. Found ks l vs) (sym o.2) (found_with k t o.0 o.1 ks vs apart r.0) in
    ((here, rest), one_more o.0 o.1 (k ++ t) words (count vs) o.2 r.1)
