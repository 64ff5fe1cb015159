use Rattle.std.proofs.Common.{cond, Bool, true, false, ℕ, zero, suc, ◌≡◌, inl, inr, ◌+◌, ◌-◌, ◌<◌, ◌≤◌, List, [], ◌∷◌, length, drop}
use Rattle.std.proofs.Common.{Option, Some, None, get_or, arith, refl, sym, ap, ◌∙◌, subst}
use Rattle.std.specs.Prelude.{◌↔◌, is_some, count_by, option_map, IsTrue, IsSome, IfSome, IfNone}
use Rattle.std.proofs.Math.ListN.{set}
use Rattle.std.proofs.lemmas.Bool.{cases_Bool, cases_eq}
use Rattle.std.proofs.lemmas.List.{at_drop_all, at_drop_more, get_or-set_same, get_or-set_other, nil_from_length}
use Rattle.std.proofs.lemmas.List.Sums.{sum_by-cons}
use Rattle.iox_container.specs.SlotTable.{SlotTable, stored, value_at}
use Rattle.iox_container.specs.declared.callback_progression.CallbackProgression.{CallbackProgression}
use Rattle.iox_container.specs.declared.callback_progression.CallbackProgression.TheVariants.{Continue, Stop}
use Rattle.iox_container.specs.PairTable.{CallsAtKeys, KeysDiffer, pairs, place_from, place_of}

module _ {K V : Type 0} where
  -- there are as many pairs as places that hold one
  pub length-pairs : (xs : List (Option (K × V))) → length (pairs xs) ≡ count_by is_some xs
  length-pairs [] = refl
  length-pairs (None ∷ xs) = length-pairs xs
  length-pairs (Some p ∷ xs) =
      let one : Option (K × V) → ℕ = λ o. cond (is_some o) 1 0 in
      omega (arith, length-pairs xs, sum_by-cons one (Some p) xs)

  -- the search for a key, one place further
  pub place_at_none : (test : K → Bool) (xs : List (Option (K × V))) (i : ℕ) → i < length xs → value_at xs i ≡ None
      → place_from test i (drop i xs) ≡ place_from test (i + 1) (drop (i + 1) xs)
  place_at_none test xs i within none =
      let F : Option (K × V) → Option (ℕ × (K × V)) = λ o. place_from test i (o ∷ drop (i + 1) xs) in
      at_drop_more (λ ys. place_from test i ys) xs i None within ∙ ap F none

  pub place_at_other : (test : K → Bool) (xs : List (Option (K × V))) (i : ℕ) (p : K × V) → i < length xs → value_at xs i ≡ Some p
      → test p.0 ≡ false
      → place_from test i (drop i xs) ≡ place_from test (i + 1) (drop (i + 1) xs)
  place_at_other test xs i p within some other =
      let F : Option (K × V) → Option (ℕ × (K × V)) = λ o. place_from test i (o ∷ drop (i + 1) xs) in
      let C : Bool → Option (ℕ × (K × V)) = λ b. cond b (Some (i, p)) (place_from test (i + 1) (drop (i + 1) xs)) in
      at_drop_more (λ ys. place_from test i ys) xs i None within ∙ ap F some ∙ ap C other

  pub place_at_found : (test : K → Bool) (xs : List (Option (K × V))) (i : ℕ) (p : K × V) → i < length xs → value_at xs i ≡ Some p
      → test p.0 ≡ true
      → place_from test i (drop i xs) ≡ Some (i, p)
  place_at_found test xs i p within some found =
      let F : Option (K × V) → Option (ℕ × (K × V)) = λ o. place_from test i (o ∷ drop (i + 1) xs) in
      let C : Bool → Option (ℕ × (K × V)) = λ b. cond b (Some (i, p)) (place_from test (i + 1) (drop (i + 1) xs)) in
      at_drop_more (λ ys. place_from test i ys) xs i None within ∙ ap F some ∙ ap C found

  pub place_at_end : (test : K → Bool) (xs : List (Option (K × V))) (i : ℕ) → length xs ≤ i → place_from test i (drop i xs) ≡ None
  place_at_end test xs i done = at_drop_all (λ ys. place_from test i ys) xs i done

  -- what the search found is there
  place_from-found : (test : K → Bool) (at : ℕ) (xs : List (Option (K × V))) (i : ℕ) (p : K × V) → place_from test at xs ≡ Some (i, p)
      → (at ≤ i) × (value_at xs (i - at) ≡ Some p) × (test p.0 ≡ true)
  place_from-found test at [] i p e = absurd (cc)
  place_from-found test at (None ∷ xs) i p e =
      let later : (at + 1 ≤ i) × (value_at xs (i - (at + 1)) ≡ Some p) × (test p.0 ≡ true) = place_from-found test (at + 1) xs i p e in
      let there : i - at ≡ suc (i - (at + 1)) = omega (arith, later.0) in
      (omega (arith, later.0), ap (λ k. get_or (None ∷ xs) k None) there ∙ later.1, later.2)
  place_from-found test at (Some q ∷ xs) i p e =
      let C : Bool → Option (ℕ × (K × V)) = λ b. cond b (Some (at, q)) (place_from test (at + 1) xs) in
      elim (cases_Bool (test q.0)) as (λ _. (at ≤ i) × (value_at (Some q ∷ xs) (i - at) ≡ Some p) × (test p.0 ≡ true)) [
        | inl passes ↦
            let same : ◌≡◌ {A = Option (ℕ × (K × V))} (Some (at, q)) (Some (i, p)) = sym (ap C passes) ∙ e in
            let pair : ◌≡◌ {A = ℕ × (K × V)} (at, q) (i, p) = cc in
            let here : at ≡ i = ap (λ (x : ℕ × (K × V)). x.0) pair in
            let what : q ≡ p = ap (λ (x : ℕ × (K × V)). x.1) pair in
            let none : i - at ≡ zero = omega arith in
            (omega arith, ap (λ k. get_or (Some q ∷ xs) k None) none ∙ ap Some what, sym (ap (λ (x : K × V). test x.0) what) ∙ passes)
        | inr fails ↦
            let later : (at + 1 ≤ i) × (value_at xs (i - (at + 1)) ≡ Some p) × (test p.0 ≡ true) =
            place_from-found test (at + 1) xs i p (sym (ap C fails) ∙ e) in
            let there : i - at ≡ suc (i - (at + 1)) = omega (arith, later.0) in
            (omega (arith, later.0), ap (λ k. get_or (Some q ∷ xs) k None) there ∙ later.1, later.2)
      ]

  pub place_of-found : (eq : K → K → Bool) (key : K) (t : SlotTable (K × V)) (i : ℕ) (p : K × V) → place_of eq key t ≡ Some (i, p)
      → (value_at t.values i ≡ Some p) × (eq p.0 key ≡ true)
  place_of-found eq key t i p e =
      let found : (0 ≤ i) × (value_at t.values (i - 0) ≡ Some p)
      × (eq p.0 key ≡ true) = place_from-found (λ k. eq k key) 0 t.values i p e in
      (ap (λ k. value_at t.values k) (omega arith) ∙ found.1, found.2)

  -- where the search found nothing, no place has the key
  none_behind : (test : K → Bool) (xs : List (Option (K × V))) (p : K × V) (j : ℕ) (q : K × V) → test p.0 ≡ false
      → ((k : ℕ) (r : K × V) → value_at xs k ≡ Some r → test r.0 ≡ false) → value_at (Some p ∷ xs) j ≡ Some q → test q.0 ≡ false
  none_behind test xs p zero q fails rest some =
      let what : p ≡ q = cc in sym (ap (λ (x : K × V). test x.0) what) ∙ fails
  none_behind test xs p (suc j) q fails rest some = rest j q some

  none_before : (test : K → Bool) (xs : List (Option (K × V))) (j : ℕ) (q : K × V)
      → ((k : ℕ) (r : K × V) → value_at xs k ≡ Some r → test r.0 ≡ false) → value_at (None ∷ xs) j ≡ Some q → test q.0 ≡ false
  none_before test xs zero q rest some = absurd (cc)
  none_before test xs (suc j) q rest some = rest j q some

  place_from-none : (test : K → Bool) (at : ℕ) (xs : List (Option (K × V))) (j : ℕ) (q : K × V) → place_from test at xs ≡ None
      → value_at xs j ≡ Some q → test q.0 ≡ false
  place_from-none test at [] j q e some = absurd (cc)
  place_from-none test at (None ∷ xs) j q e some = none_before test xs j q (λ k r h. place_from-none test (at + 1) xs k r e h) some
  place_from-none test at (Some p ∷ xs) j q e some =
      let C : Bool → Option (ℕ × (K × V)) = λ b. cond b (Some (at, p)) (place_from test (at + 1) xs) in
      elim (cases_Bool (test p.0)) as (λ _. test q.0 ≡ false) [
        | inl passes ↦ let bad : ◌≡◌ {A = Option (ℕ × (K × V))} (Some (at, p)) None = sym (ap C passes) ∙ e in absurd (cc)
        | inr fails ↦ none_behind test xs p j q fails (λ k r h. place_from-none test (at + 1) xs k r (sym (ap C fails) ∙ e) h) some
      ]

  pub place_of-none : (eq : K → K → Bool) (key : K) (t : SlotTable (K × V)) (j : ℕ) (q : K × V) → place_of eq key t ≡ None
      → value_at t.values j ≡ Some q → eq q.0 key ≡ false
  place_of-none eq key t j q e some = place_from-none (λ k. eq k key) 0 t.values j q e some

  -- a pair whose key differs from those of the other places
  pub KeysDiffer-set : (eq : K → K → Bool) → ((x y : K) → eq x y ≡ eq y x) → (xs : List (Option (K × V))) (i : ℕ) (r : K × V)
      → i < length xs → KeysDiffer eq xs
      → ((j : ℕ) (q : K × V) → (j ≡ i → ⊥) → value_at xs j ≡ Some q → eq q.0 r.0 ≡ false) → KeysDiffer eq (set xs i (Some r))
  KeysDiffer-set eq symm xs i r within differ apart = λ a b p q other at_a at_b.
      let here : get_or (set xs i (Some r)) i None ≡ Some r = get_or-set_same xs i (Some r) None within in
      elim (cases_eq a i) as (λ _. eq p.0 q.0 ≡ false) [
        | inl e ↦
            let P : ℕ → Type 0 = λ k. value_at (set xs i (Some r)) k ≡ Some p in
            let is_r : Some r ≡ Some p = sym here ∙ subst P e at_a in
            let r_p : r ≡ p = cc in
            let not_i : b ≡ i → ⊥ = λ f. other (e ∙ sym f) in
            symm p.0 q.0 ∙ ap (λ (x : K × V). eq q.0 x.0) (sym r_p) ∙ apart b q not_i
            (sym (get_or-set_other xs i b (Some r) None not_i) ∙ at_b)
        | inr not_a ↦ elim (cases_eq b i) as (λ _. eq p.0 q.0 ≡ false) [
          | inl f ↦
              let Q : ℕ → Type 0 = λ k. value_at (set xs i (Some r)) k ≡ Some q in
              let is_r : Some r ≡ Some q = sym here ∙ subst Q f at_b in
              let r_q : r ≡ q = cc in
              ap (λ (x : K × V). eq p.0 x.0) (sym r_q) ∙ apart a p not_a (sym (get_or-set_other xs i a (Some r) None not_a) ∙ at_a)
          | inr not_b ↦ differ a b p q other (sym (get_or-set_other xs i a (Some r) None not_a) ∙ at_a)
              (sym (get_or-set_other xs i b (Some r) None not_b) ∙ at_b)
        ]
      ]

  pub KeysDiffer-released : (eq : K → K → Bool) (xs : List (Option (K × V))) (i : ℕ) → i < length xs → KeysDiffer eq xs
      → KeysDiffer eq (set xs i None)
  KeysDiffer-released eq xs i within differ = λ a b p q other at_a at_b.
      let here : get_or (set xs i None) i None ≡ None = get_or-set_same xs i None None within in
      let not_i : (k : ℕ) (s : K × V) → value_at (set xs i None) k ≡ Some s → k ≡ i → ⊥ = λ k s there e.
      let S : ℕ → Type 0 = λ j. value_at (set xs i None) j ≡ Some s in
      let bad : None ≡ Some s = sym here ∙ subst S e there in absurd (cc) in
      differ a b p q other (sym (get_or-set_other xs i a None None (not_i a p at_a)) ∙ at_a)
      (sym (get_or-set_other xs i b None None (not_i b q at_b)) ∙ at_b)

  pub KeysDiffer-empty : (eq : K → K → Bool) (xs : List (Option (K × V))) → ((k : ℕ) → value_at xs k ≡ None) → KeysDiffer eq xs
  KeysDiffer-empty eq xs empty = λ a b p q other at_a at_b. let bad : None ≡ Some p = sym (empty a) ∙ at_a in absurd (cc)

  found_as : (eq : K → K → Bool) (key : K) (t : SlotTable (K × V)) (i : ℕ) (p : K × V) (o : Option (ℕ × (K × V))) → place_of eq key t ≡ o
      → option_map (λ (found : ℕ × (K × V)). found.0) o ≡ Some i → value_at t.values i ≡ Some p → o ≡ Some (i, p)
  found_as eq key t i p None is placed there = absurd (cc)
  found_as eq key t i p (Some f) is placed there =
      let at : f.0 ≡ i = cc in
      let found : (value_at t.values f.0 ≡ Some f.1) × (eq f.1.0 key ≡ true) = place_of-found eq key t f.0 f.1 is in
      let same : Some f.1 ≡ Some p = sym found.0 ∙ ap (λ k. value_at t.values k) at ∙ there in
      let what : f.1 ≡ p = cc in
      let F : ℕ → K × V → Option (ℕ × (K × V)) = λ k q. Some (k, q) in
      ap (λ k. F k f.1) at ∙ ap (λ q. F i q) what

  holds_as : (eq : K → K → Bool) (key : K) (t : SlotTable (K × V)) (i : ℕ) (o : Option (ℕ × (K × V))) → place_of eq key t ≡ o
      → option_map (λ (found : ℕ × (K × V)). found.0) o ≡ Some i → value_at t.values i ≡ None → ⊥
  holds_as eq key t i None is placed there = cc
  holds_as eq key t i (Some f) is placed there =
      let at : f.0 ≡ i = cc in
      let found : (value_at t.values f.0 ≡ Some f.1) × (eq f.1.0 key ≡ true) = place_of-found eq key t f.0 f.1 is in
      let same : Some f.1 ≡ None = sym found.0 ∙ ap (λ k. value_at t.values k) at ∙ there in cc

  -- the value of a key is the one beside the key that the search found
  pub value_of_at : (eq : K → K → Bool) (key : K) (t : SlotTable (K × V)) (i : ℕ) (p : K × V)
      → option_map (λ (found : ℕ × (K × V)). found.0) (place_of eq key t) ≡ Some i → value_at t.values i ≡ Some p
      → place_of eq key t ≡ Some (i, p)
  value_of_at eq key t i p placed there =
      found_as eq key t i p (place_of eq key t) refl placed there

  pub place_holds : (eq : K → K → Bool) (key : K) (t : SlotTable (K × V)) (i : ℕ)
      → option_map (λ (found : ℕ × (K × V)). found.0) (place_of eq key t) ≡ Some i → value_at t.values i ≡ None → ⊥
  place_holds eq key t i placed there = holds_as eq key t i (place_of eq key t) refl placed there

  -- where a test for the key fails, the search finds nothing
  pub none_from_no_value : (o : Option (ℕ × (K × V))) (b : Bool)
      → (IsTrue b ↔ IsSome (option_map (λ (found : ℕ × (K × V)). found.1.1) o)) → b ≡ false → o ≡ None
  none_from_no_value None b told lacks = refl
  none_from_no_value (Some f) b told lacks = let bad : b ≡ true = told.1 refl in absurd (cc)

  -- the keys differ after a pair of a new key went to a place
  pub KeysDiffer-inserted : (eq : K → K → Bool) → ((x y : K) → eq x y ≡ eq y x)
      → (t new : SlotTable (K × V)) (key : K) (value : V) (r : Option ℕ)
      → KeysDiffer eq t.values → place_of eq key t ≡ None → IfSome r (λ i. new ≡ stored t i (key, value))
      → IfSome r (λ i. i < length t.values) → IfNone r (new ≡ t)
      → KeysDiffer eq new.values
  KeysDiffer-inserted eq symm t new key value None differ absent some within none =
      let D : SlotTable (K × V) → Type 0 = λ m. KeysDiffer eq m.values in subst D (sym none) differ
  KeysDiffer-inserted eq symm t new key value (Some i) differ absent some within none =
      let D : SlotTable (K × V) → Type 0 = λ m. KeysDiffer eq m.values in
      subst D (sym some) (KeysDiffer-set eq symm t.values i (key, value) within differ
      (λ j q other there. place_of-none eq key t j q absent there))

  -- what the callback is still to be called at
  pub pairs_at_none : (xs : List (Option (K × V))) (i : ℕ) → i < length xs → value_at xs i ≡ None
      → pairs (drop i xs) ≡ pairs (drop (i + 1) xs)
  pairs_at_none xs i within none =
      let F : Option (K × V) → List (K × V) = λ o. pairs (o ∷ drop (i + 1) xs) in
      at_drop_more pairs xs i None within ∙ ap F none

  pub pairs_at_some : (xs : List (Option (K × V))) (i : ℕ) (p : K × V) → i < length xs → value_at xs i ≡ Some p
      → pairs (drop i xs) ≡ p ∷ pairs (drop (i + 1) xs)
  pairs_at_some xs i p within some =
      let F : Option (K × V) → List (K × V) = λ o. pairs (o ∷ drop (i + 1) xs) in
      at_drop_more pairs xs i None within ∙ ap F some

  -- a call that answers `Stop` ends the calls
  pub calls_stop : {F : Type 0} (step : F → K → CallbackProgression → F → Type 0) (first now next : F) (xs : List (Option (K × V)))
      (i : ℕ) (p : K × V)
      → i < length xs → value_at xs i ≡ Some p → step now p.0 Stop next
      → ((last : F) → CallsAtKeys step now (pairs (drop i xs)) last → CallsAtKeys step first (pairs xs) last)
      → CallsAtKeys step first (pairs xs) next
  calls_stop step first now next xs i p within some call before =
      let C : List (K × V) → Type 0 = λ ps. CallsAtKeys step now ps next in
      before next (subst C (sym (pairs_at_some xs i p within some)) (Stop, next, call, refl))

  -- a call that answers `Continue` leaves the calls at the other pairs
  pub calls_continue : {F : Type 0} (step : F → K → CallbackProgression → F → Type 0) (first now next : F) (xs : List (Option (K × V)))
      (i : ℕ) (p : K × V)
      → i < length xs → value_at xs i ≡ Some p → step now p.0 Continue next
      → ((last : F) → CallsAtKeys step now (pairs (drop i xs)) last → CallsAtKeys step first (pairs xs) last)
      → (last : F) → CallsAtKeys step next (pairs (drop (i + 1) xs)) last → CallsAtKeys step first (pairs xs) last
  calls_continue step first now next xs i p within some call before last rest =
      let C : List (K × V) → Type 0 = λ ps. CallsAtKeys step now ps last in
      before last (subst C (sym (pairs_at_some xs i p within some)) (Continue, next, call, rest))

  -- a place that holds no pair is passed over
  pub calls_skip : {F : Type 0} (step : F → K → CallbackProgression → F → Type 0) (first now : F) (xs : List (Option (K × V))) (i : ℕ)
      → i < length xs → value_at xs i ≡ None
      → ((last : F) → CallsAtKeys step now (pairs (drop i xs)) last → CallsAtKeys step first (pairs xs) last)
      → (last : F) → CallsAtKeys step now (pairs (drop (i + 1) xs)) last → CallsAtKeys step first (pairs xs) last
  calls_skip step first now xs i within none before last rest =
      let C : List (K × V) → Type 0 = λ ps. CallsAtKeys step now ps last in
      before last (subst C (sym (pairs_at_none xs i within none)) rest)

module _ {K V : Type 0} where
  place_from-no_pairs : (test : K → Bool) (at : ℕ) (xs : List (Option (K × V))) → length (pairs xs) ≡ 0 → place_from test at xs ≡ None
  place_from-no_pairs test at [] seen = refl
  place_from-no_pairs test at (None ∷ xs) seen = place_from-no_pairs test (at + 1) xs seen
  place_from-no_pairs test at (Some p ∷ xs) seen = absurd (omega arith)

  -- pairs that are all seen leave no place to look at
  pub place_at_seen : (test : K → Bool) (xs : List (Option (K × V))) (i : ℕ) → length (pairs (drop i xs)) ≡ 0
      → place_from test i (drop i xs) ≡ None
  place_at_seen test xs i seen = place_from-no_pairs test i (drop i xs) seen

  -- how many pairs are left after one more place
  pub unseen_at_none : (xs : List (Option (K × V))) (i : ℕ) → i < length xs → value_at xs i ≡ None
      → length (pairs (drop i xs)) ≡ length (pairs (drop (i + 1) xs))
  unseen_at_none xs i within none = ap length (pairs_at_none xs i within none)

  pub unseen_at_some : (xs : List (Option (K × V))) (i : ℕ) (p : K × V) → i < length xs → value_at xs i ≡ Some p
      → length (pairs (drop i xs)) ≡ length (pairs (drop (i + 1) xs)) + 1
  unseen_at_some xs i p within some = omega (arith, ap length (pairs_at_some xs i p within some))

  -- where all pairs are seen, the calls are over
  pub calls_over : {F : Type 0} (step : F → K → CallbackProgression → F → Type 0) (first now : F) (xs : List (Option (K × V))) (i : ℕ)
      → length (pairs (drop i xs)) ≡ 0
      → ((last : F) → CallsAtKeys step now (pairs (drop i xs)) last → CallsAtKeys step first (pairs xs) last)
      → CallsAtKeys step first (pairs xs) now
  calls_over step first now xs i seen before =
      let C : List (K × V) → Type 0 = λ ps. CallsAtKeys step now ps now in
      before now (subst C (sym (nil_from_length (pairs (drop i xs)) seen)) refl)
