-- The shared words fit the steps after a store put one more word, and at its moment.
use Rattle.std.proofs.Common.{◌≡◌, ℕ, ◌+◌, ◌-◌, ◌%◌, ◌^◌, ◌<◌, ⊎_elim, Bool, true, false, not, ◌==◌, List, [], ◌∷◌, ◌++◌, length, set}
use Rattle.std.proofs.Common.{slice_index, refl, sym, ◌∙◌, subst, arith, length-append}
use Rattle.std.proofs.Math.Seq.{get_or-set_same, get_or-set_other}
use Rattle.std.proofs.lemmas.Bool.{cases_eq, eqb-true, eqb-false, eq-eqb, ne_eqb}
use Rattle.std.proofs.lemmas.List.{get_or_append_left, get_or_push}
use Rattle.iox_queues_steps.specs.Access.{RingWords, successor}
use Rattle.iox_index_steps.specs.AtomicSteps.{fills_second, place}
use Rattle.iox_index_steps.specs.AtomicKept.{HalvesFit}

pub place_within : (n : ℕ) (second : Bool) (i : ℕ) → i < n → place n second i < n + (n + 1)
place_within n true i within = omega arith
place_within n false i within = omega arith

-- cells of one half are those of the same words alone, and none of the other half
place_else : (n : ℕ) (second : Bool) (i j : ℕ) → (i ≡ j → ⊥) → place n second i ≡ place n second j → ⊥
place_else n true i j differs same = differs (omega (arith, same))
place_else n false i j differs same = differs same

place_other : (n : ℕ) (second : Bool) (i j : ℕ) → i < n → j < n → place n (not second) i ≡ place n second j → ⊥
place_other n true i j a b same = omega (arith, a, b, same)
place_other n false i j a b same = omega (arith, a, b, same)

-- the next counter fills the other half
pub other_half : (counter : ℕ) → fills_second (counter + 1) ≡ not (fills_second counter)
other_half counter = test (counter % 2 == 1) refl
  where
    test : (b : Bool) → (counter % 2 == 1) ≡ b → ((counter + 1) % 2 == 1) ≡ not b
    test true e = ne_eqb ((counter + 1) % 2) 1 (λ same. omega (arith, same, eqb-true (counter % 2) 1 e))
    test false e = eq-eqb ((counter + 1) % 2) 1 (odd (eqb-false (counter % 2) 1 e))
      where
        odd : (counter % 2 ≡ 1 → ⊥) → (counter + 1) % 2 ≡ 1
        odd differs = omega (arith, differs)

not_not : (b : Bool) → not (not b) ≡ b
not_not true = refl
not_not false = refl

-- one more word was put
module _ (n : ℕ) (words : RingWords) (current put : List ℕ) (moved : ℕ) (w : HalvesFit n words current put moved)
    (size : length words.cells ≡ n + (n + 1)) where
  abbrev second : Bool
  second = fills_second words.write

  pub words_put : (value next position : ℕ) → next ≡ length put → next < n → position ≡ place n second next
      → HalvesFit n (record words { cells = set words.cells position value }) current (put ++ value ∷ []) moved
  words_put value next position is within at = subst
      (λ (k : ℕ). HalvesFit n (record words { cells = set words.cells k value }) current (put ++ value ∷ []) moved) (sym at) (record {
        counter = w.counter;
        wide = w.wide;
        few = omega (arith, length-append put (value ∷ []), is, within);
        shows = λ i h. get_or-set_other words.cells (place n second next) (place n (not second) i) value 0
            (place_other n second i next h within) ∙ w.shows i h;
        filled = λ i h. ⊎_elim
            (λ (same : i ≡ next). subst
            (λ (k : ℕ). slice_index (set words.cells (place n second next) value) (place n second k) ≡ slice_index (put ++ value ∷ []) k)
            (sym same)
            (get_or-set_same words.cells (place n second next) value 0 (omega (arith, place_within n second next within, size))
            ∙ sym (get_or_push put value 0 next (sym is))))
            (λ (differs : i ≡ next → ⊥). get_or-set_other words.cells (place n second next) (place n second i) value 0
            (place_else n second i next differs)
            ∙ w.filled i (before i h differs) ∙ sym (get_or_append_left put (value ∷ []) 0 i (before i h differs)))
            (cases_eq i next);
      })
    where
      before : (i : ℕ) → i < length (put ++ value ∷ []) → (i ≡ next → ⊥) → i < length put
      before i h differs = omega (arith, h, differs, is, length-append put (value ∷ []))

  -- the moment of a store that put all its words
  pub words_moved : length put ≡ n → moved + 1 < 2 ^ 64 - 1
      → HalvesFit n (record words { write = successor words.write }) put [] (moved + 1)
  words_moved all few = subst (λ (k : ℕ). HalvesFit n (record words { write = k }) put [] (moved + 1)) (sym next) (record {
    counter = omega (arith, w.counter);
    wide = all;
    few = omega arith;
    shows = λ i h. subst (λ (b : Bool). slice_index words.cells (place n (not b) i) ≡ slice_index put i)
        (sym (other_half words.write))
        (subst (λ (b : Bool). slice_index words.cells (place n b i) ≡ slice_index put i) (sym (not_not second))
        (w.filled i (omega (arith, h, all))));
    filled = λ i h. absurd (omega (arith, h));
  })
    where
      next : successor words.write ≡ words.write + 1
      next = omega (arith, w.counter, few)
