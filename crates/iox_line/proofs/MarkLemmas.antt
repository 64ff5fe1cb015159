-- The words before the first that begins with a mark, and the others.
use Rattle.std.proofs.Common.{◌≡◌, ℕ, suc, ◌+◌, ◌<◌, ◌==◌, Bool, true, false, not, ◌&&◌, List, [], ◌∷◌, ◌++◌, Option, None, Some, refl}
use Rattle.std.proofs.Common.{cond, sym, ap, ◌∙◌, arith, length, take, drop, eqb-true, subst}
use Rattle.iox_line.specs.Words.{lacks, pieces_of, onto_first, begins, front, back, marked_from}
use Rattle.std.specs.List.{list_all}
use Rattle.iox_line.specs.Options.{AnyOrder, option_words}
use Rattle.iox_line.proofs.AfterLemmas.{and_left, and_right}
use Rattle.iox_line.proofs.WordLemmas.{other}
use Rattle.iox_line.proofs.SpacedLemmas.{pieces_some, pieces_lack}
use Rattle.iox_line.proofs.Shorthands.{AllLack, AllOf}

-- the first word, and of the others those before the mark
abbrev pub first_and_front : ℕ → List (List ℕ) → List (List ℕ)
first_and_front mark [] = []
first_and_front mark (w ∷ ws) = w ∷ front mark ws

-- of the words after the first those from the mark on
abbrev pub back_of_rest : ℕ → List (List ℕ) → List (List ℕ)
back_of_rest mark [] = []
back_of_rest mark (w ∷ ws) = back mark ws

-- whether the first word begins with the mark
abbrev pub first_begins : ℕ → List (List ℕ) → Bool
first_begins mark [] = false
first_begins mark (w ∷ ws) = begins mark w

begins_at : (mark sep b : ℕ) (bs : List ℕ) (t : Bool) → (sep == mark) ≡ false → (b == sep) ≡ t
    → first_begins mark (cond t ([] ∷ pieces_of sep bs) (onto_first b (pieces_of sep bs))) ≡ (b == mark)
begins_at mark sep b bs true m e = sym (ap (λ x. x == mark) (eqb-true b sep e) ∙ m)
begins_at mark sep b bs false m e = ap (λ l. first_begins mark (onto_first b l)) (pieces_some sep bs).2

-- the first word begins as its text does
pub first_as_text : (mark sep : ℕ) (text : List ℕ) → (sep == mark) ≡ false → first_begins mark (pieces_of sep text) ≡ begins mark text
first_as_text mark sep [] m = refl
first_as_text mark sep (b ∷ bs) m = begins_at mark sep b bs (b == sep) m refl

-- where the first word is marked, it and all after it are those from the mark on
pub marked_first : (mark : ℕ) (ws : List (List ℕ)) → first_begins mark ws ≡ true → (front mark ws ≡ []) × (back mark ws ≡ ws)
marked_first mark [] h = cc
marked_first mark (w ∷ ws) h = (ap (λ t. cond t [] (w ∷ front mark ws)) h, ap (λ t. cond t (w ∷ ws) (back mark ws)) h)

-- where it isn't, it is before the mark
pub unmarked_first : (mark : ℕ) (ws : List (List ℕ)) → first_begins mark ws ≡ false → (front mark ws ≡ first_and_front mark ws)
    × (back mark ws ≡ back_of_rest mark ws)
unmarked_first mark [] h = (refl, refl)
unmarked_first mark (w ∷ ws) h = (ap (λ t. cond t [] (w ∷ front mark ws)) h, ap (λ t. cond t (w ∷ ws) (back mark ws)) h)

onto_front : (mark b : ℕ) (ws : List (List ℕ)) → first_and_front mark (onto_first b ws) ≡ onto_first b (first_and_front mark ws)
onto_front mark b [] = refl
onto_front mark b (w ∷ ws) = refl

onto_back : (mark b : ℕ) (ws : List (List ℕ)) → back_of_rest mark (onto_first b ws) ≡ back_of_rest mark ws
onto_back mark b [] = refl
onto_back mark b (w ∷ ws) = refl

-- after n bytes stands a separator, and the words are cut there
abbrev pub IsCut : ℕ → ℕ → List ℕ → ℕ → Type 0
IsCut mark sep text i = (i < length text) × (first_and_front mark (pieces_of sep text) ≡ pieces_of sep (take i text))
    × (back_of_rest mark (pieces_of sep text) ≡ pieces_of sep (drop (suc i) text))

-- the words aren't cut
abbrev pub IsWhole : ℕ → ℕ → List ℕ → Type 0
IsWhole mark sep text = (first_and_front mark (pieces_of sep text) ≡ pieces_of sep text) × (back_of_rest mark (pieces_of sep text) ≡ [])

found_at : (mark sep n k b : ℕ) (bs : List ℕ) (t u : Bool) → (b == sep) ≡ t → first_begins mark (pieces_of sep bs) ≡ u
    → cond (t && u) (Some n) (marked_from mark sep (n + 1) bs) ≡ Some k
    → (marked_from mark sep (n + 1) bs ≡ Some k → (i : ℕ) × (k ≡ n + 1 + i) × IsCut mark sep bs i)
    → (i : ℕ) × (k ≡ n + i) × (i < length (b ∷ bs))
    × (first_and_front mark (cond t ([] ∷ pieces_of sep bs) (onto_first b (pieces_of sep bs))) ≡ pieces_of sep (take i (b ∷ bs)))
    × (back_of_rest mark (cond t ([] ∷ pieces_of sep bs) (onto_first b (pieces_of sep bs))) ≡ pieces_of sep (drop (suc i) (b ∷ bs)))
found_at mark sep n k b bs true true e f h more =
    let m = marked_first mark (pieces_of sep bs) f in
    let same : n ≡ k = cc in
    (0, omega (arith, same), omega arith, ap (λ l. [] ∷ l) m.0, m.1)
found_at mark sep n k b bs true false e f h more =
    let r = more h in
    let m = unmarked_first mark (pieces_of sep bs) f in (
      suc r.0,
      omega (arith, r.1),
      omega (arith, r.2.0),
      ap (λ l. [] ∷ l) (m.0 ∙ r.2.1) ∙ ap
          (λ t. cond t ([] ∷ pieces_of sep (take r.0 bs)) (onto_first b (pieces_of sep (take r.0 bs)))) (sym e),
      m.1 ∙ r.2.2,
    )
found_at mark sep n k b bs false u e f h more =
    let r = more h in (
      suc r.0,
      omega (arith, r.1),
      omega (arith, r.2.0),
      onto_front mark b (pieces_of sep bs) ∙ ap (λ l. onto_first b l) r.2.1 ∙ ap
          (λ t. cond t ([] ∷ pieces_of sep (take r.0 bs)) (onto_first b (pieces_of sep (take r.0 bs)))) (sym e),
      onto_back mark b (pieces_of sep bs) ∙ r.2.2,
    )

found_from : (mark sep n k : ℕ) (text : List ℕ) → (sep == mark) ≡ false → marked_from mark sep n text ≡ Some k → (i : ℕ) × (k ≡ n + i)
    × IsCut mark sep text i
found_from mark sep n k [] m h = cc
found_from mark sep n k (b ∷ bs) m h =
    let r = found_at mark sep n k b bs (b == sep) (begins mark bs) refl (first_as_text mark sep bs m) h
    (found_from mark sep (n + 1) k bs m) in
    (r.0, r.1, (r.2, r.3, r.4))

whole_at : (mark sep n b : ℕ) (bs : List ℕ) (t u : Bool) → first_begins mark (pieces_of sep bs) ≡ u
    → cond (t && u) (Some n) (marked_from mark sep (n + 1) bs) ≡ None
    → (marked_from mark sep (n + 1) bs ≡ None → IsWhole mark sep bs)
    → (first_and_front mark (cond t ([] ∷ pieces_of sep bs) (onto_first b (pieces_of sep bs)))
    ≡ cond t ([] ∷ pieces_of sep bs) (onto_first b (pieces_of sep bs)))
    × (back_of_rest mark (cond t ([] ∷ pieces_of sep bs) (onto_first b (pieces_of sep bs))) ≡ [])
whole_at mark sep n b bs true true f h more = cc
whole_at mark sep n b bs true false f h more =
    let r = more h in
    let m = unmarked_first mark (pieces_of sep bs) f in
    (ap (λ l. [] ∷ l) (m.0 ∙ r.0), m.1 ∙ r.1)
whole_at mark sep n b bs false u f h more =
    let r = more h in
    (onto_front mark b (pieces_of sep bs) ∙ ap (λ l. onto_first b l) r.0, onto_back mark b (pieces_of sep bs) ∙ r.1)

whole_from : (mark sep n : ℕ) (text : List ℕ) → (sep == mark) ≡ false → marked_from mark sep n text ≡ None → IsWhole mark sep text
whole_from mark sep n [] m h = (refl, refl)
whole_from mark sep n (b ∷ bs) m h = whole_at mark sep n b bs (b == sep) (begins mark bs) (first_as_text mark sep bs m) h
    (whole_from mark sep (n + 1) bs m)

apart_at : (a b : ℕ) (t : Bool) → (a == b) ≡ t → (a ≡ b → ⊥) → t ≡ false
apart_at a b true e h = absurd (h (eqb-true a b e))
apart_at a b false e h = refl

-- numbers that differ are told apart
pub apart : (a b : ℕ) → (a ≡ b → ⊥) → (a == b) ≡ false
apart a b h = apart_at a b (a == b) refl h

-- the place that is found cuts the words
pub cut_found : (mark sep k : ℕ) (text : List ℕ) → (sep ≡ mark → ⊥) → begins mark text ≡ false → marked_from mark sep 0 text ≡ Some k
    → (k < length text) × (pieces_of sep (take k text) ≡ front mark (pieces_of sep text))
    × (pieces_of sep (drop (k + 1) text) ≡ back mark (pieces_of sep text))
cut_found mark sep k text m f h =
    let r = found_from mark sep 0 k text (apart sep mark m) h in
    let u = unmarked_first mark (pieces_of sep text) (first_as_text mark sep text (apart sep mark m) ∙ f) in
    let at : r.0 ≡ k = omega (arith, r.1) in
    let next : suc r.0 ≡ k + 1 = omega (arith, r.1) in (
      omega (arith, r.1, r.2.0),
      sym (u.0 ∙ r.2.1 ∙ ap (λ i. pieces_of sep (take i text)) at),
      sym
          (u.1 ∙ r.2.2 ∙ ap (λ i. pieces_of sep (drop i text)) next),
    )

-- where none is found, no word is marked
pub cut_none : (mark sep : ℕ) (text : List ℕ) → (sep ≡ mark → ⊥) → begins mark text ≡ false → marked_from mark sep 0 text ≡ None
    → (pieces_of sep text ≡ front mark (pieces_of sep text)) × ([] ≡ back mark (pieces_of sep text))
cut_none mark sep text m f h =
    let r = whole_from mark sep 0 text (apart sep mark m) h in
    let u = unmarked_first mark (pieces_of sep text) (first_as_text mark sep text (apart sep mark m) ∙ f) in
    (sym (u.0 ∙ r.0), sym (u.1 ∙ r.1))

-- where the text begins with the mark, no word is before it
pub cut_first : (mark sep : ℕ) (text : List ℕ) → (sep ≡ mark → ⊥) → begins mark text ≡ true → ([] ≡ front mark (pieces_of sep text))
    × (pieces_of sep text ≡ back mark (pieces_of sep text))
cut_first mark sep text m f =
    let u = marked_first mark (pieces_of sep text) (first_as_text mark sep text (apart sep mark m) ∙ f) in
    (sym u.0, sym u.1)

-- a text that lacks a byte doesn't begin with it
pub lacking_begins : (mark : ℕ) (w : List ℕ) → lacks mark w ≡ true → begins mark w ≡ false
lacking_begins mark [] h = refl
lacking_begins mark (b ∷ bs) h = (other mark b bs h).0

-- where no word has the mark, all are before it
pub cut_never : (mark : ℕ) (ws : List (List ℕ)) → AllLack mark ws → (front mark ws ≡ ws) × (back mark ws ≡ [])
cut_never mark [] l = (refl, refl)
cut_never mark (w ∷ ws) l =
    let r = cut_never mark ws l.1 in
    let u = lacking_begins mark w l.0 in
    (ap (λ t. cond t [] (w ∷ front mark ws)) u ∙ ap (λ l. w ∷ l) r.0, ap (λ t. cond t (w ∷ ws) (back mark ws)) u ∙ r.1)

-- no word begins with what stands between words
pub cut_separator : (mark sep : ℕ) (text : List ℕ) → sep ≡ mark → (pieces_of sep text ≡ front mark (pieces_of sep text))
    × ([] ≡ back mark (pieces_of sep text))
cut_separator mark sep text e =
    let r = cut_never sep (pieces_of sep text) (pieces_lack sep text) in
    (sym r.0 ∙ ap (λ m. front m (pieces_of sep text)) e, sym r.1 ∙ ap (λ m. back m (pieces_of sep text)) e)

-- no word begins with the mark
abbrev pub Unmarked : ℕ → List (List ℕ) → Type 0
Unmarked mark ws = AllOf (λ w. begins mark w ≡ false) ws

-- whether the first word, if there is one, begins with the mark
abbrev pub starts : ℕ → List (List ℕ) → Bool
starts mark [] = true
starts mark (w ∷ ws) = begins mark w

front_starts : (mark : ℕ) (ys : List (List ℕ)) → starts mark ys ≡ true → (front mark ys ≡ []) × (back mark ys ≡ ys)
front_starts mark [] s = (refl, refl)
front_starts mark (w ∷ ws) s = marked_first mark (w ∷ ws) s

-- words with no mark before words that start with it are those before it, and these the others
pub cut_own : (mark : ℕ) (xs ys : List (List ℕ)) → Unmarked mark xs → starts mark ys ≡ true → (front mark (xs ++ ys) ≡ xs)
    × (back mark (xs ++ ys) ≡ ys)
cut_own mark [] ys u s = front_starts mark ys s
cut_own mark (w ∷ ws) ys u s =
    let r = cut_own mark ws ys u.1 s in (
      ap (λ t. cond t [] (w ∷ front mark (ws ++ ys))) u.0 ∙ ap (λ l. w ∷ l) r.0,
      ap (λ t. cond t (w ∷ ws ++ ys) (back mark (ws ++ ys))) u.0
          ∙ r.1,
    )

parts_at : (mark : ℕ) (w : List ℕ) (ws : List (List ℕ)) (t : Bool) → front mark ws ++ back mark ws ≡ ws
    → cond t [] (w ∷ front mark ws) ++ cond t (w ∷ ws) (back mark ws) ≡ w ∷ ws
parts_at mark w ws true h = refl
parts_at mark w ws false h = ap (λ l. w ∷ l) h

-- both together are all words
pub cut_parts : (mark : ℕ) (ws : List (List ℕ)) → front mark ws ++ back mark ws ≡ ws
cut_parts mark [] = refl
cut_parts mark (w ∷ ws) = parts_at mark w ws (begins mark w) (cut_parts mark ws)

all_inserted : (Good : List ℕ → Type 0) (fs bs : List (List ℕ)) (w : List ℕ) → AllOf Good (fs ++ bs) → Good w → AllOf Good (fs ++ w ∷ bs)
all_inserted Good [] bs w n h = (h, n)
all_inserted Good (f ∷ fs) bs w n h = (n.0, all_inserted Good fs bs w n.1 h)

-- what each word keeps to, each keeps to in any order
pub all_anyhow : (Good : List ℕ → Type 0) (words ws : List (List ℕ)) → AnyOrder words ws → AllOf Good ws → AllOf Good words
all_anyhow Good words [] o n = subst (λ l. AllOf Good l) (sym o) tt
all_anyhow Good words (w ∷ ws) o n = subst (λ l. AllOf Good l) (sym o.2)
    (all_inserted Good o.0 o.1 w (all_anyhow Good (o.0 ++ o.1) ws o.3 n.1) n.0)

-- whether a text begins, and not with this byte
abbrev pub starts_other : ℕ → List ℕ → Bool
starts_other mark [] = false
starts_other mark (b ∷ bs) = not (b == mark)

not_false : (t : Bool) → not t ≡ true → t ≡ false
not_false true h = cc
not_false false h = refl

key_unmarked : (mark : ℕ) (key value : List ℕ) → starts_other mark key ≡ true → begins mark (key ++ value) ≡ false
key_unmarked mark [] value h = cc
key_unmarked mark (b ∷ bs) value h = not_false (b == mark) h

-- options whose keys don't begin with the mark don't
pub options_unmarked : (mark : ℕ) (keys : List (List ℕ)) (values : List (Option (List ℕ))) → list_all (starts_other mark) keys ≡ true
    → Unmarked mark (option_words keys values)
options_unmarked mark [] values h = tt
options_unmarked mark (key ∷ keys) [] h = tt
options_unmarked mark (key ∷ keys) (None ∷ values) h
    = options_unmarked mark keys values (and_right (starts_other mark key) (list_all (starts_other mark) keys) h)
options_unmarked mark (key ∷ keys) (Some value ∷ values) h = (
  key_unmarked mark key value (and_left (starts_other mark key) (list_all (starts_other mark) keys) h),
  options_unmarked mark keys
      values (and_right (starts_other mark key) (list_all (starts_other mark) keys) h),
)
