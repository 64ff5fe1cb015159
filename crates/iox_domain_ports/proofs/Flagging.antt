-- The flagged keys are still among the keys after another key is removed or added.
use Rattle.std.proofs.Common.{arith, ◌≡◌, ◌≢◌, ◌+◌, ◌-◌, ◌<◌, ◌≤◌, ◌∙◌, ◌==◌, ◌||◌, ◌++◌, ◌∷◌, [], ℕ, zero, suc, Bool, true, false, List}
use Rattle.std.proofs.Common.{length, get_or, nat_lt, remove, slice_get, Some, refl, sym, ap, subst, ◌⊎◌, inl, inr}
use Rattle.std.proofs.Math.Logic.{⊎_elim}
use Rattle.std.specs.List.{list_any}
use Rattle.std.proofs.lemmas.Bool.{cases_Bool, eqb-true, eq-eqb}
use Rattle.std.proofs.lemmas.Bool.Decides.{eqb_tells}
use Rattle.std.proofs.lemmas.List.{get_or_append_left, get_or_push, length_push}
use Rattle.std.proofs.lemmas.Map.Keys.{any_passes_from_place}
use Rattle.std.proofs.lemmas.List.Edits.{length-remove, get_or-remove_below, get_or-remove_above}
use Rattle.std.proofs.lemmas.Option.{get_or_from_slice_get, slice_get_within, slice_get-get_or}
use Rattle.iox_domain_slots.proofs.Loaned.{not_true}
use Rattle.iox_domain_ports.specs.Keys.{IsKeyOf}

-- the key at another place stays
kept_key : (items : List ℕ) (place gone key at : ℕ) → place < length items → gone ≡ get_or items place gone → key ≢ gone
    → slice_get items at ≡ Some key → IsKeyOf key (remove items place)
kept_key items place gone key at inside is differs here =
    let within : at < length items = slice_get_within items at key here in
    let there : get_or items at 0 ≡ key = get_or_from_slice_get items at key 0 here in
    let shorter : length (remove items place) + 1 ≡ length items = length-remove items place inside in
    ⊎_elim
    (λ same.
    let wrong : key ≡ gone = sym (get_or_from_slice_get items at key gone here) ∙ ap (λ n. get_or items n gone) same.1 ∙ sym is in
    absurd (differs wrong))
    (λ apart. by within there shorter apart.1)
    (eqb_tells at place)
  where
    by : at < length items → get_or items at 0 ≡ key → length (remove items place) + 1 ≡ length items → at ≢ place
        → IsKeyOf key (remove items place)
    by within there shorter apart = ⊎_elim
        (λ yes.
        let low : at < place = grind (arith, yes) in
        let short : at < length (remove items place) = omega (arith, low, inside, shorter) in
        let same : get_or (remove items place) at 0 ≡ key = get_or-remove_below items place 0 at low inside ∙ there in
        (at, slice_get-get_or (remove items place) at 0 short ∙ ap Some same))
        (λ no.
        let over : place ≤ at = grind (arith, no) in
        let high : place ≤ at - 1 = omega (arith, over, apart) in
        let short : at - 1 < length (remove items place) = omega (arith, over, apart, within, shorter) in
        let back : at - 1 + 1 ≡ at = omega (arith, over, apart) in
        let same : get_or (remove items place) (at - 1) 0 ≡ key
        = get_or-remove_above items place 0 (at - 1) high inside ∙ ap (λ n. get_or items n 0) back ∙ there in
        (at - 1, slice_get-get_or (remove items place) (at - 1) 0 short ∙ ap Some same))
        (cases_Bool (nat_lt at place))

-- the key at a place goes, and its flag before
pub unflagged : (before after : List Bool) (items : List ℕ) (place gone : ℕ) → place < length items
    → gone ≡ get_or items place gone → get_or after gone false ≡ false
    → ((other : ℕ) → other ≢ gone → get_or after other false ≡ get_or before other false)
    → ((key : ℕ) → get_or before key false ≡ true → IsKeyOf key items) → (key : ℕ) → get_or after key false ≡ true
    → IsKeyOf key (remove items place)
unflagged before after items place gone inside is none others among key flagged = ⊎_elim
    (λ same. let wrong : false ≡ true = sym none ∙ ap (λ n. get_or after n false) (sym same.1) ∙ flagged in absurd (not_true wrong))
    (λ differs.
    let (at, here) = among key (sym (others key differs.1) ∙ flagged) in
    kept_key items place gone key at inside is differs.1 here)
    (eqb_tells key gone)

-- a key that is found is among the keys, and the other way round
found_at : (key : ℕ) (items : List ℕ) → list_any (λ other. other == key) items ≡ true
    → (place : ℕ) × (place < length items) × (get_or items place 0 ≡ key)
found_at key [] found = let no : false ≡ true = found in absurd (not_true no)
found_at key (item ∷ items) found = by (item == key) refl found (λ later. found_at key items later)
  where
    by : (same : Bool) → (item == key) ≡ same → (same || list_any (λ other. other == key) items) ≡ true
        → (list_any (λ other. other == key) items ≡ true → (place : ℕ) × (place < length items) × (get_or items place 0 ≡ key))
        → (place : ℕ) × (place < length (item ∷ items)) × (get_or (item ∷ items) place 0 ≡ key)
    by true same found rest = (zero, omega arith, eqb-true item key same)
    by false same found rest = let (place, within, is) = rest found in (suc place, omega (arith, within), is)

pub found_there : (key : ℕ) (items : List ℕ) → list_any (λ other. other == key) items ≡ true → IsKeyOf key items
found_there key items found =
    let (place, within, is) = found_at key items found in (place, slice_get-get_or items place 0 within ∙ ap Some is)

pub there_found : (key : ℕ) (items : List ℕ) → IsKeyOf key items → list_any (λ other. other == key) items ≡ true
there_found key items (place, here) = any_passes_from_place (λ other. other == key) items place key here (eq-eqb key key refl)

-- a key among the keys after one went was among them before
removed_from : (key place : ℕ) (items : List ℕ) → place < length items → IsKeyOf key (remove items place) → IsKeyOf key items
removed_from key place items inside (at, here) =
    let shorter : length (remove items place) + 1 ≡ length items = length-remove items place inside in
    let within : at < length (remove items place) = slice_get_within (remove items place) at key here in
    let there : get_or (remove items place) at 0 ≡ key = get_or_from_slice_get (remove items place) at key 0 here in
    ⊎_elim
    (λ yes.
    let low : at < place = grind (arith, yes) in (
      at,
      slice_get-get_or items at 0 (omega (arith, within, shorter)) ∙ ap Some (sym (get_or-remove_below items place 0 at low inside) ∙
          there),
    ))
    (λ no.
    let high : place ≤ at = grind (arith, no) in (
      at + 1,
      slice_get-get_or items (at + 1) 0 (omega (arith, within, shorter))
          ∙ ap Some (sym (get_or-remove_above items place 0 at high inside) ∙ there),
    ))
    (cases_Bool (nat_lt at place))

-- each key below the maximum is flagged still where one is added after the others
pub all_flagged_pushed : (before after : List Bool) (items : List ℕ) (most added : ℕ)
    → ((other : ℕ) → other ≢ added → get_or after other false ≡ get_or before other false)
    → (added < most → get_or after added false ≡ true)
    → ((key : ℕ) → key < most → IsKeyOf key items → get_or before key false ≡ true)
    → (key : ℕ) → key < most → IsKeyOf key (items ++ added ∷ []) → get_or after key false ≡ true
all_flagged_pushed before after items most added others flagged all key low (at, here) = ⊎_elim
    (λ same. ap (λ n. get_or after n false) same.1 ∙ flagged (omega (arith, low, same.1)))
    (λ differs. others key differs.1 ∙ all key low (by (cases_Bool (nat_lt at (length items))) differs.1))
    (eqb_tells key added)
  where
    there : get_or (items ++ added ∷ []) at 0 ≡ key
    there = get_or_from_slice_get (items ++ added ∷ []) at key 0 here

    by : (nat_lt at (length items) ≡ true) ⊎ (nat_lt at (length items) ≡ false) → key ≢ added → IsKeyOf key items
    by (inl below) apart =
        let low : at < length items = grind (arith, below) in
        (at, slice_get-get_or items at 0 low ∙ ap Some (sym (get_or_append_left items (added ∷ []) 0 at low) ∙ there))
    by (inr above) apart =
        let within : at < length (items ++ added ∷ []) = slice_get_within (items ++ added ∷ []) at key here in
        let over : length items ≤ at = grind (arith, above) in
        let last : at ≡ length items = omega (arith, over, within, length_push items added) in
        absurd (apart (sym there ∙ get_or_push items added 0 at (sym last)))

-- each key below the maximum is flagged still where one goes
pub all_flagged_removed : (flags : List Bool) (items : List ℕ) (most place : ℕ) → place < length items
    → ((key : ℕ) → key < most → IsKeyOf key items → get_or flags key false ≡ true)
    → (key : ℕ) → key < most → IsKeyOf key (remove items place) → get_or flags key false ≡ true
all_flagged_removed flags items most place inside all key low among = all key low (removed_from key place items inside among)

-- and where the flag of the one that went is cleared, as it isn't among the keys any longer
pub all_flagged_cleared : (before after : List Bool) (items : List ℕ) (most place gone : ℕ) → place < length items
    → ((other : ℕ) → other ≢ gone → get_or after other false ≡ get_or before other false)
    → list_any (λ other. other == gone) (remove items place) ≡ false
    → ((key : ℕ) → key < most → IsKeyOf key items → get_or before key false ≡ true)
    → (key : ℕ) → key < most → IsKeyOf key (remove items place) → get_or after key false ≡ true
all_flagged_cleared before after items most place gone inside others none all key low among = ⊎_elim
    (λ same.
    let wrong : false ≡ true = sym none
    ∙ there_found gone (remove items place) (subst (λ n. IsKeyOf n (remove items place)) same.1 among) in
    absurd (not_true wrong))
    (λ differs. others key differs.1 ∙ all key low (removed_from key place items inside among))
    (eqb_tells key gone)

-- a key that stays flagged where another of the same number is left is among the keys
pub still_flagged : (flags : List Bool) (items : List ℕ) (place gone : ℕ) → place < length items → gone ≡ get_or items place gone
    → list_any (λ other. other == gone) (remove items place) ≡ true
    → ((key : ℕ) → get_or flags key false ≡ true → IsKeyOf key items)
    → (key : ℕ) → get_or flags key false ≡ true → IsKeyOf key (remove items place)
still_flagged flags items place gone inside is left among key flagged = ⊎_elim
    (λ same. subst (λ n. IsKeyOf n (remove items place)) (sym same.1) (found_there gone (remove items place) left))
    (λ differs. let (at, here) = among key flagged in kept_key items place gone key at inside is differs.1 here)
    (eqb_tells key gone)

-- the keys that are flagged are among the keys where one is added after the others
pub flagged_pushed : (before after : List Bool) (items : List ℕ) (added : ℕ)
    → ((other : ℕ) → other ≢ added → get_or after other false ≡ get_or before other false)
    → ((key : ℕ) → get_or before key false ≡ true → IsKeyOf key items)
    → (key : ℕ) → get_or after key false ≡ true → IsKeyOf key (items ++ added ∷ [])
flagged_pushed before after items added others among key flagged = ⊎_elim
    (λ same. (
      length items,
      slice_get-get_or (items ++ added ∷ []) (length items) 0 (omega (arith, length_push items added))
          ∙ ap Some (get_or_push items added 0 (length items) refl ∙ sym same.1),
    ))
    (λ differs.
    let (at, here) = among key (sym (others key differs.1) ∙ flagged) in
    let low : at < length items = slice_get_within items at key here in (
      at,
      slice_get-get_or (items ++ added ∷ []) at 0 (omega (arith, low, length_push items added))
          ∙ ap Some (get_or_append_left items (added ∷ []) 0 at low ∙ get_or_from_slice_get items at key 0 here),
    ))
    (eqb_tells key added)
