-- What follows a key in a word.
use Rattle.std.proofs.Common.{◌≡◌, ℕ, ◌+◌, ◌==◌, Bool, true, false, ◌&&◌, nat_eq, List, [], ◌∷◌, ◌++◌, Option, None, Some, MatchOption}
use Rattle.std.proofs.Common.{Bor, refl, cond, sym, ap, ◌∙◌, arith, length, take, drop, eqb-true}
use Rattle.std.specs.Cmp.Lexicographic.{pointwise}
use Rattle.std.specs.Option.{option_map}
use Rattle.std.proofs.lemmas.Grind.{common_steps}
use Rattle.iox_line.specs.Options.{after, differ}

-- the parts of a test of two
pub and_left : (a b : Bool) → (a && b) ≡ true → a ≡ true
and_left true b h = refl
and_left false b h = h

pub and_right : (a b : Bool) → (a && b) ≡ true → b ≡ true
and_right true b h = h
and_right false b h = cc

yes_at : (k b : ℕ) (ks bs : List ℕ) (t : Bool) → (t && pointwise nat_eq (take (length ks) bs) ks) ≡ true
    → (pointwise nat_eq (take (length ks) bs) ks ≡ true → after ks bs ≡ Some (drop (length ks) bs))
    → cond t (after ks bs) None ≡ Some (drop (length ks) bs)
yes_at k b ks bs true h more = more h
yes_at k b ks bs false h more = cc

after_yes : (key word : List ℕ) → pointwise nat_eq (take (length key) word) key ≡ true → after key word ≡ Some (drop (length key) word)
after_yes [] word h = refl
after_yes (k ∷ ks) [] h = cc
after_yes (k ∷ ks) (b ∷ bs) h = yes_at k b ks bs (b == k) h (after_yes ks bs)

no_at : (k b : ℕ) (ks bs : List ℕ) (t : Bool) → (t && pointwise nat_eq (take (length ks) bs) ks) ≡ false
    → (pointwise nat_eq (take (length ks) bs) ks ≡ false → after ks bs ≡ None) → cond t (after ks bs) None ≡ None
no_at k b ks bs true h more = more h
no_at k b ks bs false h more = refl

after_no : (key word : List ℕ) → pointwise nat_eq (take (length key) word) key ≡ false → after key word ≡ None
after_no [] word h = cc
after_no (k ∷ ks) [] h = refl
after_no (k ∷ ks) (b ∷ bs) h = no_at k b ks bs (b == k) h (after_no ks bs)

-- what `strip_prefix` gives
pub stripped : (key word : List ℕ) (r : Option (Bor (List ℕ)))
    → MatchOption r (pointwise nat_eq (take (length key) word) key ≡ false)
    (λ x. (pointwise nat_eq (take (length key) word) key ≡ true) × (x.now ≡ drop (length key) word)
    × (length x.now + length key ≡ length word))
    → option_map (λ text. text.now) r ≡ after key word
stripped key word None h = sym (after_no key word h)
stripped key word (Some x) h = ap (λ l. Some l) h.1 ∙ sym (after_yes key word h.0)

some_at : (k b : ℕ) (ks bs t : List ℕ) (same : Bool) → (b == k) ≡ same → cond same (after ks bs) None ≡ Some t
    → (after ks bs ≡ Some t → bs ≡ ks ++ t)
    → b ∷ bs ≡ k ∷ (ks ++ t)
some_at k b ks bs t true e h more = ap (λ x. x ∷ bs) (eqb-true b k e) ∙ ap (λ l. k ∷ l) (more h)
some_at k b ks bs t false e h more = cc

-- a word in which something follows the key begins with it
pub after_some : (key word t : List ℕ) → after key word ≡ Some t → word ≡ key ++ t
after_some [] word t h = cc
after_some (k ∷ ks) [] t h = cc
after_some (k ∷ ks) (b ∷ bs) t h = some_at k b ks bs t (b == k) refl h (after_some ks bs t)

-- what was written after a key follows it
pub after_own : (key t : List ℕ) → after key (key ++ t) ≡ Some t
after_own [] t = refl
after_own (k ∷ ks) t = grind (arith, common_steps, after_own ks t)

differ_at : (a b : ℕ) (as' bs t : List ℕ) (same : Bool) → cond same (differ as' bs) true ≡ true
    → (differ as' bs ≡ true → after bs (as' ++ t) ≡ None)
    → cond same (after bs (as' ++ t)) None ≡ None
differ_at a b as' bs t true h more = more h
differ_at a b as' bs t false h more = refl

-- a word that begins with a key doesn't begin with one that differs
pub after_differ : (key other t : List ℕ) → differ key other ≡ true → after other (key ++ t) ≡ None
after_differ [] other t h = cc
after_differ (a ∷ as') [] t h = cc
after_differ (a ∷ as') (b ∷ bs) t h = differ_at a b as' bs t (a == b) h (after_differ as' bs t)
