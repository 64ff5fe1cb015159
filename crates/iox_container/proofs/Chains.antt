use Rattle.std.proofs.Common.{ℕ, ◌≡◌, ◌⊎◌, inl, inr, ◌+◌, ◌-◌, ◌<◌, ◌≤◌, List, [], ◌∷◌, ◌++◌, length, get_or, Some, arith, refl, sym, ap}
use Rattle.std.proofs.Common.{◌∙◌, subst}
use Rattle.std.specs.Prelude.{slice_get}
use Rattle.std.proofs.Math.ListN.{set}
use Rattle.std.proofs.lemmas.Bool.{cases_eq}
use Rattle.std.proofs.lemmas.List.{get_or-set_same, get_or-set_other, get_or_append_left, get_or_push, length-set, length_push}
use Rattle.iox_container.specs.SlotTable.{Among, Distinct, without}
use Rattle.iox_container.specs.Links.{Chain, ChainFrom, LinksKeys, walk}
use Rattle.iox_container.proofs.Keys.{Among-append, Among-without, Distinct-push, Distinct-without, length-without, without_absent}
use Rattle.iox_container.proofs.Keys.{without_first, without_here, without_there}

-- the walk along a chain meets its keys
walk-chain : (n p : List ℕ) (at : ℕ) (ks : List ℕ) (end : ℕ) → Chain n p at ks end → walk n (length ks) (get_or n at 0) ≡ ks
walk-chain n p at [] end chain = refl
walk-chain n p at (k ∷ ks) end chain =
    let W : ℕ → List ℕ = λ key. walk n (length (k ∷ ks)) key in
    ap W chain.0 ∙ ap (λ rest. k ∷ rest) (walk-chain n p k ks end chain.2)

walk-from : (n p : List ℕ) (first : ℕ) (ks : List ℕ) (end : ℕ) → ChainFrom n p first ks end → walk n (length ks) first ≡ ks
walk-from n p first [] end chain = refl
walk-from n p first (k ∷ ks) end chain =
    let W : ℕ → List ℕ = λ key. walk n (length (k ∷ ks)) key in
    ap W chain.0 ∙ ap (λ rest. k ∷ rest) (walk-chain n p k ks end chain.1)

-- the keys of the links are those that the walk meets
pub walk-is : (n p : List ℕ) (f c m : ℕ) (ks : List ℕ) → LinksKeys n p f c m ks → walk n m f ≡ ks
walk-is n p f c m ks links = ap (λ count. walk n count f) (sym links.counted) ∙ walk-from n p f ks c links.chain

-- and as many keys were made as the links have cells
pub LinksKeys-walked : (n p : List ℕ) (f c m : ℕ) (ks : List ℕ) → LinksKeys n p f c m ks → LinksKeys n p f (length n) m (walk n m f)
LinksKeys-walked n p f c m ks links =
    let R : List ℕ → Type 0 = λ xs. LinksKeys n p f c m xs in
    let M : ℕ → Type 0 = λ made. LinksKeys n p f made m (walk n m f) in
    subst M (sym links.forth) (subst R (sym (walk-is n p f c m ks links)) links)

-- links that are the same at each place of a chain make the same chain
Chain-frame : (n p n' p' : List ℕ) (at : ℕ) (ks : List ℕ) (end : ℕ) → Chain n p at ks end
    → get_or n' at 0 ≡ get_or n at 0 → ((k : ℕ) → Among k ks → get_or n' k 0 ≡ get_or n k 0)
    → ((k : ℕ) → Among k ks → get_or p' k 0 ≡ get_or p k 0) → get_or p' end 0 ≡ get_or p end 0
    → Chain n' p' at ks end
Chain-frame n p n' p' at [] end chain first forth back last = (first ∙ chain.0, last ∙ chain.1)
Chain-frame n p n' p' at (k ∷ ks) end chain first forth back last = (
  first ∙ chain.0,
  back k (inl refl) ∙ chain.1,
  Chain-frame n p n' p' k ks end chain.2 (forth k (inl refl)) (λ j there. forth j (inr there)) (λ j there. back j (inr there)) last,
)

-- what stands before and after a key of a chain
before_key : (n p : List ℕ) (at : ℕ) (ks : List ℕ) (end key : ℕ) → Chain n p at ks end → Among key ks
    → (get_or p key 0 ≡ at) ⊎ Among (get_or p key 0) ks
before_key n p at [] end key chain there = absurd there
before_key n p at (k ∷ ks) end key chain there =
    elim there as (λ _. (get_or p key 0 ≡ at) ⊎ Among (get_or p key 0) (k ∷ ks)) [
      | inl e ↦ inl (ap (λ j. get_or p j 0) e ∙ chain.1)
      | inr later ↦ inr (before_key n p k ks end key chain.2 later)
    ]

first_behind : (n p : List ℕ) (at : ℕ) (ks : List ℕ) (end : ℕ) → Chain n p at ks end → (get_or n at 0 ≡ end) ⊎ Among (get_or n at 0) ks
first_behind n p at [] end chain = inl chain.0
first_behind n p at (k ∷ ks) end chain = inr (inl chain.0)

behind_key : (n p : List ℕ) (at : ℕ) (ks : List ℕ) (end key : ℕ) → Chain n p at ks end → Among key ks
    → (get_or n key 0 ≡ end) ⊎ Among (get_or n key 0) ks
behind_key n p at [] end key chain there = absurd there
behind_key n p at (k ∷ ks) end key chain there =
    elim there as (λ _. (get_or n key 0 ≡ end) ⊎ Among (get_or n key 0) (k ∷ ks)) [
      | inl e ↦ let N : ℕ → Type 0 = λ j. (get_or n j 0 ≡ end) ⊎ Among (get_or n j 0) (k ∷ ks) in
          subst N (sym e) (elim (first_behind n p k ks end chain.2) as (λ _. (get_or n k 0 ≡ end) ⊎ Among (get_or n k 0) (k ∷ ks)) [
            | inl f ↦ inl f
            | inr h ↦ inr (inr h)
          ])
      | inr later ↦ elim (behind_key n p k ks end key chain.2 later) as (λ _. (get_or n key 0 ≡ end) ⊎ Among (get_or n key 0) (k ∷ ks)) [
        | inl e ↦ inl e
        | inr h ↦ inr (inr h)
      ]
    ]

-- a key that lacks in a list is none of its keys
apart : (j k : ℕ) (ks : List ℕ) → Among j ks → (Among k ks → ⊥) → j ≡ k → ⊥
apart j k ks there absent e = let A : ℕ → Type 0 = λ x. Among x ks in absent (subst A e there)

-- a chain whose first key is taken out
unlinked_first : (n p : List ℕ) (at k : ℕ) (ks : List ℕ) (end : ℕ) → Chain n p at (k ∷ ks) end → Distinct (k ∷ ks)
    → (Among at (k ∷ ks) → ⊥) → (Among end (k ∷ ks) → ⊥) → at < length n → end < length p → ((j : ℕ) → Among j (k ∷ ks) → j < length p)
    → (from to : ℕ) → from ≡ at → to ≡ get_or n k 0 → Chain (set n from to) (set p to from) at ks end
unlinked_first n p at k [] end chain distinct far_at far_end at_in end_in within from to e f =
    let N : ℕ → Type 0 = λ i. get_or (set n i to) at 0 ≡ end in
    let P : ℕ → Type 0 = λ j. get_or (set p j from) end 0 ≡ at in (
      subst N (sym e) (get_or-set_same n at to 0 at_in ∙ f ∙ chain.2.0),
      subst P (sym (f ∙ chain.2.0)) (get_or-set_same p end from 0 end_in ∙ e),
    )
unlinked_first n p at k (y ∷ ys) end chain distinct far_at far_end at_in end_in within from to e f =
    let to_y : to ≡ y = f ∙ chain.2.0 in
    let not_at : (j : ℕ) → Among j (y ∷ ys) → j ≡ at → ⊥ = λ j there. apart j at (y ∷ ys) there (λ h. far_at (inr h)) in
    let F : ℕ → Type 0 = λ i. Chain (set n i to) (set p to i) at (y ∷ ys) end in
    let T : ℕ → Type 0 = λ j. Chain (set n at j) (set p j at) at (y ∷ ys) end in
    subst F (sym e) (subst T (sym to_y) (
      get_or-set_same n at y 0 at_in,
      get_or-set_same p y at 0 (within y (inr (inl refl))),
      Chain-frame n p (set n at y) (set p y at) y ys end chain.2.2
          (get_or-set_other n at y y 0 (not_at y (inl refl)))
          (λ j there. get_or-set_other n at j y 0 (not_at j (inr there)))
          (λ j there. get_or-set_other p y j at 0 (apart j y ys there distinct.1.0))
          (get_or-set_other p y end at 0 (λ h. far_end (inr (inl h)))),
    ))

-- a chain without one of its keys
unlinked : (n p : List ℕ) (at : ℕ) (ks : List ℕ) (end key : ℕ) → Chain n p at ks end → Among key ks → Distinct ks
    → (Among at ks → ⊥) → (Among end ks → ⊥) → at < length n → end < length p → ((j : ℕ) → Among j ks → (j < length n) × (j < length p))
    → Chain (set n (get_or p key 0) (get_or n key 0)) (set p (get_or n key 0) (get_or p key 0)) at (without key ks) end
unlinked n p at [] end key chain there distinct far_at far_end at_in end_in within = absurd there
unlinked n p at (x ∷ xs) end key chain there distinct far_at far_end at_in end_in within =
    let from : ℕ = get_or p key 0 in
    let to : ℕ = get_or n key 0 in
    let C : List ℕ → Type 0 = λ ks. Chain (set n from to) (set p to from) at ks end in
    elim (cases_eq key x) as (λ _. Chain (set n from to) (set p to from) at (without key (x ∷ xs)) end) [
      | inl e ↦ let lacks : Among key xs → ⊥ = λ h. let A : ℕ → Type 0 = λ y. Among y xs in distinct.0 (subst A e h) in
          subst C (sym (without_here key x xs e ∙ without_absent key xs lacks))
          (unlinked_first n p at x xs end chain distinct far_at far_end at_in end_in (λ j h. (within j h).1) from to
          (ap (λ j. get_or p j 0) e ∙ chain.1) (ap (λ j. get_or n j 0) e))
      | inr other ↦
          let later : Among key xs = elim there as (λ _. Among key xs) [ inl e ↦ absurd (other e) | inr h ↦ h ] in
          let not_from : at ≡ from → ⊥ = λ e. elim (before_key n p x xs end key chain.2 later) as (λ _. ⊥) [
            | inl f ↦ far_at (inl (e ∙ f))
            | inr h ↦ far_at (inr (let A : ℕ → Type 0 = λ y. Among y xs in subst A (sym e) h))
          ] in
          let not_to : x ≡ to → ⊥ = λ e. elim (behind_key n p x xs end key chain.2 later) as (λ _. ⊥) [
            | inl f ↦ far_end (inl (sym (e ∙ f)))
            | inr h ↦ distinct.0 (let A : ℕ → Type 0 = λ y. Among y xs in subst A (sym e) h)
          ] in
          subst C (sym (without_there key x xs other)) (
            get_or-set_other n from at to 0 not_from ∙ chain.0,
            get_or-set_other p to x from 0 not_to ∙ chain.1,
            unlinked n p x xs end key chain.2 later distinct.1 distinct.0 (λ h. far_end (inr h)) (within x (inl refl)).0 end_in
                (λ j h. within j (inr h)),
          )
    ]

-- what the links of a key name, if it isn't the first, lies within them
pub links_within : (n p : List ℕ) (f c m key : ℕ) (ks : List ℕ) → LinksKeys n p f c m ks → Among key ks → (key ≡ f → ⊥)
    → (get_or n key 0 ≤ c) × (get_or p key 0 < c)
links_within n p f c m key [] links there other = absurd there
links_within n p f c m key (k ∷ ks) links there other =
    let later : Among key ks = elim there as (λ _. Among key ks) [ inl e ↦ absurd (other (e ∙ sym links.chain.0)) | inr h ↦ h ] in (
      elim (behind_key n p k ks c key links.chain.1 later) as (λ _. get_or n key 0 ≤ c)
          [ inl e ↦ omega arith | inr h ↦ omega (arith, links.below _ (inr h)) ],
      elim (before_key n p k ks c key links.chain.1 later) as (λ _. get_or p key 0 < c)
          [ inl e ↦ omega (arith, links.below k (inl refl)) | inr h ↦ omega (arith, links.below _ (inr h)) ],
    )

-- the links without a key that isn't the first
pub LinksKeys-removed : (n p : List ℕ) (f c m key : ℕ) (ks : List ℕ) (from to : ℕ) → LinksKeys n p f c m ks → Among key ks → (key ≡ f → ⊥)
    → from ≡ get_or p key 0 → to ≡ get_or n key 0 → LinksKeys (set n from to) (set p to from) f c (m - 1) (without key ks)
LinksKeys-removed n p f c m key [] from to links there other e g = absurd there
LinksKeys-removed n p f c m key (k ∷ ks) from to links there other e g =
    let not_k : key ≡ k → ⊥ = λ h. other (h ∙ sym links.chain.0) in
    let later : Among key ks = elim there as (λ _. Among key ks) [ inl h ↦ absurd (not_k h) | inr h ↦ h ] in
    let far : Among c ks → ⊥ = λ h. absurd (omega (arith, links.below c (inr h))) in
    let C : ℕ → ℕ → Type 0 = λ a b. Chain (set n a b) (set p b a) k (without key ks) c in
    let chain : Chain (set n from to) (set p to from) k (without key ks) c =
    (let A : ℕ → Type 0 = λ a. C a to in let B : ℕ → Type 0 = λ b. C (get_or p key 0) b in
    subst A (sym e) (subst B (sym g) (unlinked n p k ks c key links.chain.1 later links.distinct.1 links.distinct.0 far
    (omega (arith, links.forth, links.below k (inl refl))) (omega (arith, links.back))
    (λ j h. (omega (arith, links.forth, links.below j (inr h)), omega (arith, links.back, links.below j (inr h))))))) in
    let F : List ℕ → Type 0 = λ xs. ChainFrom (set n from to) (set p to from) f xs c in
    record {
      forth = length-set n from to ∙ links.forth;
      back = length-set p to from ∙ links.back;
      counted = omega (arith, length-without key (k ∷ ks) links.distinct there, links.counted);
      chain = subst F (sym (without_there key k ks not_k)) (links.chain.0, chain);
      distinct = Distinct-without key (k ∷ ks) links.distinct;
      below = λ j h. links.below j (Among-without key j (k ∷ ks) h).0;
    }

-- the links without their first key
ChainFrom-next : (n p : List ℕ) (k c : ℕ) (ks : List ℕ) → Chain n p k ks c → ChainFrom n p (get_or n k 0) ks c
ChainFrom-next n p k c [] chain = chain.0
ChainFrom-next n p k c (y ∷ ys) chain = (chain.0, chain.2)

pub LinksKeys-first_removed : (n p : List ℕ) (f c m key : ℕ) (ks : List ℕ) (to : ℕ) → LinksKeys n p f c m ks → Among key ks → key ≡ f
    → to ≡ get_or n key 0 → LinksKeys n p to c (m - 1) (without key ks)
LinksKeys-first_removed n p f c m key [] to links there e g = absurd there
LinksKeys-first_removed n p f c m key (k ∷ ks) to links there e g =
    let key_k : key ≡ k = e ∙ links.chain.0 in
    let rest : without key (k ∷ ks) ≡ ks = ap (λ j. without j (k ∷ ks)) key_k ∙ without_first k ks links.distinct in
    let first : to ≡ get_or n k 0 = g ∙ ap (λ j. get_or n j 0) key_k in
    let F : ℕ → Type 0 = λ j. ChainFrom n p j ks c in
    let L : List ℕ → Type 0 = λ xs. LinksKeys n p to c (m - 1) xs in
    subst L (sym rest) (record {
      forth = links.forth;
      back = links.back;
      counted = omega (arith, links.counted);
      chain = subst F (sym first) (ChainFrom-next n p k c ks links.chain.1);
      distinct = links.distinct.1;
      below = λ j h. links.below j (inr h);
    })

-- the first place that the links name lies within them
pub first_within : (n p : List ℕ) (f c m : ℕ) (ks : List ℕ) → LinksKeys n p f c m ks → f ≤ c
first_within n p f c m [] links = omega (arith, links.chain)
first_within n p f c m (k ∷ ks) links = omega (arith, links.chain.0, links.below k (inl refl))

-- a chain with a further first key
linked : (n p : List ℕ) (f c key : ℕ) (ks : List ℕ) → ChainFrom n p f ks c → Distinct ks → (Among key ks → ⊥) → (Among c ks → ⊥)
    → key < length n → c < length p → ((j : ℕ) → Among j ks → j < length p) → Chain (set n key f) (set p f key) key ks c
linked n p f c key [] chain distinct fresh far low end_in within =
    let P : ℕ → Type 0 = λ j. get_or (set p j key) c 0 ≡ key in
    (get_or-set_same n key f 0 low ∙ chain, subst P (sym chain) (get_or-set_same p c key 0 end_in))
linked n p f c key (y ∷ ys) chain distinct fresh far low end_in within =
    let C : ℕ → Type 0 = λ j. Chain (set n key j) (set p j key) key (y ∷ ys) c in
    subst C (sym chain.0) (
      get_or-set_same n key y 0 low,
      get_or-set_same p y key 0 (within y (inl refl)),
      Chain-frame n p (set n key y) (set p y key) y ys c chain.1
          (get_or-set_other n key y y 0 (λ e. fresh (inl (sym e))))
          (λ j there. get_or-set_other n key j y 0 (apart j key (y ∷ ys) (inr there) fresh))
          (λ j there. get_or-set_other p y j key 0 (apart j y ys there distinct.0))
          (get_or-set_other p y c key 0 (λ h. far (inl h))),
    )

pub LinksKeys-added : (n p : List ℕ) (f c m key : ℕ) (ks : List ℕ) → LinksKeys n p f c m ks → key < c → (Among key ks → ⊥)
    → LinksKeys (set n key f) (set p f key) key c (m + 1) (key ∷ ks)
LinksKeys-added n p f c m key ks links low fresh = record {
  forth = length-set n key f ∙ links.forth;
  back = length-set p f key ∙ links.back;
  counted = omega (arith, links.counted);
  chain = (
    refl,
    linked n p f c key ks links.chain links.distinct fresh (λ h. absurd (omega (arith, links.below c h))) (omega (arith, links.forth))
        (omega (arith, links.back))
        (λ j h. omega (arith, links.back, links.below j h)),
  );
  distinct = (fresh, links.distinct);
  below = λ j there. elim there as (λ _. j < c) [ inl e ↦ omega arith | inr h ↦ links.below j h ];
}

-- a chain with a further last key, the next one that is made
Chain-grown : (n p : List ℕ) (at : ℕ) (ks : List ℕ) (c : ℕ) → Chain n p at ks c → length n ≡ c → length p ≡ c + 1
    → at < c → ((k : ℕ) → Among k ks → k < c) → Chain (n ++ (c + 1) ∷ []) (p ++ c ∷ []) at (ks ++ c ∷ []) (c + 1)
Chain-grown n p at [] c chain forth back low below = (
  get_or_append_left n _ 0 at (omega arith) ∙ chain.0,
  get_or_append_left p _ 0 c (omega arith) ∙ chain.1,
  (get_or_push n (c + 1) 0 c forth, get_or_push p c 0 (c + 1) back),
)
Chain-grown n p at (k ∷ ks) c chain forth back low below = (
  get_or_append_left n _ 0 at (omega arith) ∙ chain.0,
  get_or_append_left p _ 0 k (omega (arith, below k (inl refl))) ∙ chain.1,
  Chain-grown n p k ks c chain.2 forth back (below k (inl refl)) (λ j there. below j (inr there)),
)

ChainFrom-grown : (n p : List ℕ) (f : ℕ) (ks : List ℕ) (c : ℕ) → ChainFrom n p f ks c → length n ≡ c → length p ≡ c + 1
    → ((k : ℕ) → Among k ks → k < c) → ChainFrom (n ++ (c + 1) ∷ []) (p ++ c ∷ []) f (ks ++ c ∷ []) (c + 1)
ChainFrom-grown n p f [] c chain forth back below = (chain, (get_or_push n (c + 1) 0 c forth, get_or_push p c 0 (c + 1) back))
ChainFrom-grown n p f (k ∷ ks) c chain forth back below =
    (chain.0, Chain-grown n p k ks c chain.1 forth back (below k (inl refl)) (λ j there. below j (inr there)))

-- the links with the next key made
pub LinksKeys-grown : (n p : List ℕ) (f c m : ℕ) (ks : List ℕ) → LinksKeys n p f c m ks
    → LinksKeys (n ++ (c + 1) ∷ []) (p ++ c ∷ []) f (c + 1) (m + 1) (ks ++ c ∷ [])
LinksKeys-grown n p f c m ks links = record {
  forth = omega (arith, length_push n (c + 1), links.forth);
  back = omega (arith, length_push p c, links.back);
  counted = omega (arith, length_push ks c, links.counted);
  chain = ChainFrom-grown n p f ks c links.chain links.forth links.back links.below;
  distinct = Distinct-push c ks links.distinct (λ there. absurd (omega (arith, links.below c there)));
  below = λ j there. elim (Among-append j ks (c ∷ []) there) as (λ _. j < c + 1) [
    | inl h ↦ omega (arith, links.below j h)
    | inr h ↦ elim h as (λ _. j < c + 1) [ inl e ↦ omega arith | inr gone ↦ absurd gone ]
  ];
}

-- the first key
pub first_of_links : (n p : List ℕ) (f c m : ℕ) (ks : List ℕ) → LinksKeys n p f c m ks → (m ≡ 0 → ⊥) → Some f ≡ slice_get ks 0
first_of_links n p f c m [] links some = absurd (some (sym links.counted))
first_of_links n p f c m (k ∷ ks) links some = ap (λ j. Some j) links.chain.0
