-- A text that is tested to be of visible bytes is one, and the other way round.
use Rattle.std.proofs.Common.{◌≡◌, ℕ, ◌≤◌, ◌==◌, Bool, true, ◌&&◌, not, nat_le, List, [], ◌∷◌, refl, ap, ◌∙◌, length, arith, rules}
use Rattle.std.specs.List.{list_all, slice_index_or}
use Rattle.std.proofs.lemmas.List.Sums.{AllPass-from_list_all, list_all-from_AllPass}
use Rattle.std.proofs.lemmas.Grind.{common_steps}
use Rattle.iox_line.specs.Words.{has_no_space}
use Rattle.iox_line.specs.Visible.{IsVisibleText, is_visible, is_visible_text}
use Rattle.iox_line.proofs.AfterLemmas.{and_left, and_right}
use Rattle.iox_line.proofs.Shorthands.{IsVisible}

visible : (b : ℕ) → is_visible b ≡ true → IsVisible b
visible b h = search (rules, h)

seen : (b : ℕ) → IsVisible b → is_visible b ≡ true
seen b v = grind (arith, common_steps, v.0, v.1)

-- a number that passes the test is no larger
pub at_most : (n m : ℕ) → nat_le n m ≡ true → n ≤ m
at_most n m h = search (rules, h)

-- a number that is no larger passes the test
pub at_most_own : (n m : ℕ) → n ≤ m → nat_le n m ≡ true
at_most_own n m h = grind (arith, common_steps, h)

-- a text that passes the test is one of visible bytes
pub visible_sound : (least most : ℕ) (w : List ℕ) → is_visible_text least most w ≡ true → IsVisibleText least most w
visible_sound least most w h =
    let more = and_right (nat_le least (length w)) (nat_le (length w) most && list_all is_visible w) h in
    let all = AllPass-from_list_all is_visible w (and_right (nat_le (length w) most) (list_all is_visible w) more) in (
      at_most least (length w) (and_left (nat_le least (length w)) (nat_le (length w) most && list_all is_visible w) h),
      at_most (length w)
          most (and_left (nat_le (length w) most) (list_all is_visible w) more),
      λ k d l. visible (slice_index_or w k d) (all k d l),
    )

-- of two tests that are passed, both are
pub both_true : (a b : Bool) → a ≡ true → b ≡ true → (a && b) ≡ true
both_true a b p q = ap (λ x. x && b) p ∙ q

-- a text of visible bytes passes the test
pub visible_complete : (least most : ℕ) (w : List ℕ) → IsVisibleText least most w → is_visible_text least most w ≡ true
visible_complete least most w n =
    both_true (nat_le least (length w)) (nat_le (length w) most && list_all is_visible w) (at_most_own least (length w) n.0)
    (both_true (nat_le (length w) most) (list_all is_visible w) (at_most_own (length w) most n.1)
    (list_all-from_AllPass is_visible w (λ k d l. seen (slice_index_or w k d) (n.2 k d l))))

no_space_at : (b : ℕ) → is_visible b ≡ true → not (b == 32) ≡ true
no_space_at b h = grind (arith, common_steps, h)

no_space_from : (w : List ℕ) → list_all is_visible w ≡ true → has_no_space w ≡ true
no_space_from [] h = refl
no_space_from (b ∷ bs) h =
    ap (λ t. t && has_no_space bs) (no_space_at b (and_left (is_visible b) (list_all is_visible bs) h)) ∙ no_space_from bs
    (and_right (is_visible b) (list_all is_visible bs) h)

-- visible bytes are no spaces
pub visible_no_space : (least most : ℕ) (w : List ℕ) → IsVisibleText least most w → has_no_space w ≡ true
visible_no_space least most w n =
    let more = and_right (nat_le least (length w)) (nat_le (length w) most && list_all is_visible w) (visible_complete least most w n) in
    no_space_from w (and_right (nat_le (length w) most) (list_all is_visible w) more)
