-- A node of the hub in a segment, and in a phase: it comes, comes again, and leaves.
use Rattle.std.proofs.Common.{◌≡◌, ℕ, ◌+◌, ◌-◌, ◌≤◌, Bool, true, false, cond, List, [], ◌∷◌, ◌++◌, Option, None, Some, is_some, length}
use Rattle.std.proofs.Common.{map, append-nil, refl, sym, ap, subst, ◌∙◌, arith}
use Rattle.std.proofs.lemmas.Bool.{eqb-true}
use Rattle.std.specs.Prelude.{◌==◌, nat_le}
use Rattle.std.specs.declared.cmp.Ordering.{Ordering}
use Rattle.std.specs.declared.cmp.Ordering.TheVariants.{Less, Equal, Greater}
use Rattle.std.specs.Ordering.{nat_cmp, match_ordering, is_eq}
use Rattle.std.specs.BTreeMap.{insert_entry, is_at}
use Rattle.std.specs.Map.{lookup, set_value, remove_entry}
use Rattle.iox_machine.specs.Phase.{Node, Own, same_node, is_in, entered, left}
use Rattle.iox_negotiate.proofs.Maps.{by_test, on}
use Rattle.iox_negotiate_machine.proofs.Seats.{Entry, own, outside, counted, passed, aside, behind, come, counts-joined, in-counted}
use Rattle.iox_negotiate_machine.proofs.Seats.{is_some_of, longer, node-is, node-itself, tested}
use Rattle.iox_negotiate_machine.specs.Standing.{NodesStand, counts_of}
use Rattle.iox_negotiate_table.specs.Nodes.{Nodes, factories_of, with_factories, with_node, without_node}

-- ---- the nodes of the hub in a segment

-- the first of some
abbrev head_of : List ℕ → Option ℕ
head_of [] = None
head_of (count ∷ counts) = Some count

found-there : (node : ℕ) (entry : ℕ × ℕ) (entries : List (ℕ × ℕ)) (b : Bool)
    → lookup (is_at (nat_cmp node)) entries ≡ head_of (counts_of (Own node) (map own entries))
    → cond b (Some entry.1) (lookup (is_at (nat_cmp node)) entries) ≡ head_of (counted (Own node) (own entry) (map own entries) b)
found-there node entry entries true later = refl
found-there node entry entries false later = later

-- what is found of a node is how many factories it has
found : (node : ℕ) (entries : List (ℕ × ℕ)) → lookup (is_at (nat_cmp node)) entries ≡ head_of (counts_of (Own node) (map own entries))
found node [] = refl
found node (entry ∷ entries) = rw (tested node entry.0) (found-there node entry entries (entry.0 == node) (found node entries))

none-outside : (node : ℕ) (numbers : List ℕ) → counts_of (Own node) (map outside numbers) ≡ []
none-outside node [] = refl
none-outside node (number ∷ numbers) = none-outside node numbers

rest : {l : List ℕ} (x y : ℕ) → x ∷ l ≡ y ∷ [] → l ≡ []
rest x y e = cc

first : {l : List ℕ} (x y : ℕ) → x ∷ l ≡ y ∷ [] → x ≡ y
first x y e = cc

some-none : {X : Type 0} {l : List ℕ} (x : ℕ) → x ∷ l ≡ [] → X
some-none x e = absurd cc

module _ (node : ℕ) (m : Node) where
  abbrev test : ℕ → Bool
  test = is_at (nat_cmp node)

  abbrev there_in : List (ℕ × ℕ) → List ℕ
  there_in entries = counts_of m (map own entries)

  same-there : (entry : ℕ × ℕ) (b : Bool) → (entry.0 == node) ≡ b → same_node (Own node) m ≡ true → same_node (Own entry.0) m ≡ b
  same-there entry b at is = subst (λ (n : Node). same_node (Own entry.0) n ≡ b) (node-is (Own node) m is) at

  other-there : (number : ℕ) → (number == node) ≡ true → same_node (Own node) m ≡ false → same_node (Own number) m ≡ false
  other-there number at is = subst (λ (n : ℕ). same_node (Own n) m ≡ false) (sym (eqb-true number node at)) is

  to-own : (entries : List (ℕ × ℕ)) → same_node (Own node) m ≡ true → counts_of (Own node) (map own entries) ≡ [] → there_in entries ≡ []
  to-own entries is none = subst (λ (n : Node). counts_of n (map own entries) ≡ []) (node-is (Own node) m is) none

  -- ---- another number of factories

  set-there : (w c : ℕ) (entry : ℕ × ℕ) (entries : List (ℕ × ℕ)) (p b : Bool) → same_node (Own node) m ≡ p → (entry.0 == node) ≡ b
      → counted (Own node) (own entry) (map own entries) b ≡ c ∷ []
      → (counts_of (Own node) (map own entries) ≡ c ∷ [] → there_in (set_value test entries w) ≡ cond p (w ∷ []) (there_in entries))
      → there_in (cond b ((entry.0, w) ∷ entries) (entry ∷ set_value test entries w)) ≡ cond p (w ∷ []) (there_in (entry ∷ entries))
  set-there w c entry entries true true is at one later =
      passed m (own (entry.0, w)) (map own entries) (same-there entry true at is)
      ∙ ap (λ (l : List ℕ). w ∷ l) (to-own entries is (rest entry.1 c one))
  set-there w c entry entries false true is at one later =
      aside m (own (entry.0, w)) (map own entries) (other-there entry.0 at is)
      ∙ sym (aside m (own entry) (map own entries) (other-there entry.0 at is))
  set-there w c entry entries true false is at one later =
      aside m (own entry) (map own (set_value test entries w)) (same-there entry false at is) ∙ later one
  set-there w c entry entries false false is at one later =
      behind m (own entry) (map own (set_value test entries w)) (map own entries) (later one)

  set-counts : (w c : ℕ) (entries : List (ℕ × ℕ)) → counts_of (Own node) (map own entries) ≡ c ∷ []
      → there_in (set_value test entries w) ≡ cond (same_node (Own node) m) (w ∷ []) (there_in entries)
  set-counts w c [] one = some-none c (sym one)
  set-counts w c (entry ∷ entries) one = rw (tested node entry.0)
      (set-there w c entry entries (same_node (Own node) m) (entry.0 == node) refl refl one (λ later. set-counts w c entries later))

  -- ---- a node that wasn't there

  outside-of : (entry : ℕ × ℕ) (entries : List (ℕ × ℕ)) (b : Bool) → counted (Own node) (own entry) (map own entries) b ≡ []
      → (b ≡ false) × (counts_of (Own node) (map own entries) ≡ [])
  outside-of entry entries true none = some-none entry.1 none
  outside-of entry entries false none = (refl, none)

  insert-there : (w : ℕ) (entry : ℕ × ℕ) (entries : List (ℕ × ℕ)) (p : Bool) (o : Ordering) → same_node (Own node) m ≡ p
      → nat_cmp node entry.0 ≡ o → (entry.0 == node) ≡ false → counts_of (Own node) (map own entries) ≡ []
      → there_in (insert_entry nat_cmp entries node w) ≡ cond p (w ∷ []) (there_in entries)
      → there_in (match_ordering o ((node, w) ∷ entry ∷ entries) ((entry.0, w) ∷ entries) (entry ∷ insert_entry nat_cmp entries node w))
      ≡ cond p (w ∷ []) (there_in (entry ∷ entries))
  insert-there w entry entries p Equal is at apart none later = on (sym (sym (tested node entry.0) ∙ ap is_eq at) ∙ apart)
  insert-there w entry entries true Less is at apart none later =
      passed m (own (node, w)) (map own (entry ∷ entries)) is
      ∙ ap (λ (l : List ℕ). w ∷ l) (aside m (own entry) (map own entries) (same-there entry false apart is) ∙ to-own entries is none)
  insert-there w entry entries false Less is at apart none later = aside m (own (node, w)) (map own (entry ∷ entries)) is
  insert-there w entry entries true Greater is at apart none later =
      aside m (own entry) (map own (insert_entry nat_cmp entries node w)) (same-there entry false apart is) ∙ later
  insert-there w entry entries false Greater is at apart none later =
      behind m (own entry) (map own (insert_entry nat_cmp entries node w)) (map own entries) later

  insert-counts : (w : ℕ) (entries : List (ℕ × ℕ)) → counts_of (Own node) (map own entries) ≡ []
      → there_in (insert_entry nat_cmp entries node w) ≡ cond (same_node (Own node) m) (w ∷ []) (there_in entries)
  insert-counts w [] none = by_test (same_node (Own node) m) (λ is. rw is refl) (λ isnt. rw isnt refl)
  insert-counts w (entry ∷ entries) none =
      let out = outside-of entry entries (entry.0 == node) none in
      insert-there w entry entries (same_node (Own node) m) (nat_cmp node entry.0) refl refl out.0 out.1 (insert-counts w entries out.1)

  -- ---- a node that is out

  remove-there : (c : ℕ) (entry : ℕ × ℕ) (entries : List (ℕ × ℕ)) (p b : Bool) → same_node (Own node) m ≡ p → (entry.0 == node) ≡ b
      → counted (Own node) (own entry) (map own entries) b ≡ c ∷ []
      → (counts_of (Own node) (map own entries) ≡ c ∷ [] → there_in (remove_entry test entries) ≡ cond p [] (there_in entries))
      → there_in (cond b entries (entry ∷ remove_entry test entries)) ≡ cond p [] (there_in (entry ∷ entries))
  remove-there c entry entries true true is at one later = to-own entries is (rest entry.1 c one)
  remove-there c entry entries false true is at one later = sym (aside m (own entry) (map own entries) (other-there entry.0 at is))
  remove-there c entry entries true false is at one later =
      aside m (own entry) (map own (remove_entry test entries)) (same-there entry false at is) ∙ later one
  remove-there c entry entries false false is at one later =
      behind m (own entry) (map own (remove_entry test entries)) (map own entries) (later one)

  remove-counts : (c : ℕ) (entries : List (ℕ × ℕ)) → counts_of (Own node) (map own entries) ≡ c ∷ []
      → there_in (remove_entry test entries) ≡ cond (same_node (Own node) m) [] (there_in entries)
  remove-counts c [] one = some-none c (sym one)
  remove-counts c (entry ∷ entries) one = rw (tested node entry.0)
      (remove-there c entry entries (same_node (Own node) m) (entry.0 == node) refl refl one (λ later. remove-counts c entries later))

  -- ---- with the nodes outside

  emptied-of : (W l : List ℕ) → l ≡ [] → W ++ l ≡ W
  emptied-of W l none = rw none (append-nil W)

  seats-there : (W : List ℕ) (before after : List (ℕ × ℕ)) (outsiders : List ℕ) (p : Bool) → same_node (Own node) m ≡ p
      → there_in after ≡ cond p W (there_in before)
      → there_in after ++ counts_of m (map outside outsiders) ≡ cond p W (there_in before ++ counts_of m (map outside outsiders))
  seats-there W before after outsiders true is same =
      ap (λ (l : List ℕ). l ++ counts_of m (map outside outsiders)) same
      ∙ emptied-of W (counts_of m (map outside outsiders))
      (subst (λ (n : Node). counts_of n (map outside outsiders) ≡ []) (node-is (Own node) m is) (none-outside node outsiders))
  seats-there W before after outsiders false is same = ap (λ (l : List ℕ). l ++ counts_of m (map outside outsiders)) same

  seats-counts : (W : List ℕ) (before after : List (ℕ × ℕ)) (outsiders : List ℕ)
      → there_in after ≡ cond (same_node (Own node) m) W (there_in before)
      → counts_of m (map own after ++ map outside outsiders)
      ≡ cond (same_node (Own node) m) W (counts_of m (map own before ++ map outside outsiders))
  seats-counts W before after outsiders same =
      counts-joined m (map own after) (map outside outsiders)
      ∙ seats-there W before after outsiders (same_node (Own node) m) refl same
      ∙ ap (λ (l : List ℕ). cond (same_node (Own node) m) W l) (sym (counts-joined m (map own before) (map outside outsiders)))

-- ---- how many entries there are

set-length-there : (entry : ℕ × ℕ) (entries later : List (ℕ × ℕ)) (w : ℕ) (b : Bool) → length later ≡ length entries
    → length (cond b ((entry.0, w) ∷ entries) (entry ∷ later)) ≡ length (entry ∷ entries)
set-length-there entry entries later w true same = omega arith
set-length-there entry entries later w false same = omega (arith, same)

set-length : (node w : ℕ) (entries : List (ℕ × ℕ)) → length (set_value (is_at (nat_cmp node)) entries w) ≡ length entries
set-length node w [] = refl
set-length node w (entry ∷ entries) =
    set-length-there entry entries (set_value (is_at (nat_cmp node)) entries w) w (is_at (nat_cmp node) entry.0) (set-length node w entries)

insert-length-there : (node w : ℕ) (entry : ℕ × ℕ) (entries later : List (ℕ × ℕ)) (o : Ordering) → nat_cmp node entry.0 ≡ o
    → (entry.0 == node) ≡ false → length later ≡ length entries + 1
    → length (match_ordering o ((node, w) ∷ entry ∷ entries) ((entry.0, w) ∷ entries) (entry ∷ later)) ≡ length (entry ∷ entries) + 1
insert-length-there node w entry entries later Less at apart same = omega arith
insert-length-there node w entry entries later Equal at apart same = on (sym (sym (tested node entry.0) ∙ ap is_eq at) ∙ apart)
insert-length-there node w entry entries later Greater at apart same = omega (arith, same)

insert-length : (node w : ℕ) (entries : List (ℕ × ℕ)) → counts_of (Own node) (map own entries) ≡ []
    → length (insert_entry nat_cmp entries node w) ≡ length entries + 1
insert-length node w [] none = refl
insert-length node w (entry ∷ entries) none =
    let out = outside-of node (Own node) entry entries (entry.0 == node) none in
    insert-length-there node w entry entries (insert_entry nat_cmp entries node w) (nat_cmp node entry.0) refl out.0
    (insert-length node w entries out.1)

remove-length-there : (node c : ℕ) (entry : ℕ × ℕ) (entries later : List (ℕ × ℕ)) (b : Bool)
    → counted (Own node) (own entry) (map own entries) b ≡ c ∷ []
    → (counts_of (Own node) (map own entries) ≡ c ∷ [] → length later + 1 ≡ length entries)
    → length (cond b entries (entry ∷ later)) + 1 ≡ length (entry ∷ entries)
remove-length-there node c entry entries later true one same = omega arith
remove-length-there node c entry entries later false one same = omega (arith, same one)

remove-length : (node c : ℕ) (entries : List (ℕ × ℕ)) → counts_of (Own node) (map own entries) ≡ c ∷ []
    → length (remove_entry (is_at (nat_cmp node)) entries) + 1 ≡ length entries
remove-length node c [] one = some-none c (sym one)
remove-length node c (entry ∷ entries) one = rw (tested node entry.0)
    (remove-length-there node c entry entries (remove_entry (is_at (nat_cmp node)) entries) (entry.0 == node) one
    (λ later. remove-length node c entries later))

-- ---- the same in a phase

module _ (node : Node) (m : Node) where
  is-there : (number : Node) (b : Bool) → same_node number node ≡ b → same_node node m ≡ true → same_node number m ≡ b
  is-there number b at is = subst (λ (n : Node). same_node number n ≡ b) (node-is node m is) at

  isnt-there : (number : Node) → same_node number node ≡ true → same_node node m ≡ false → same_node number m ≡ false
  isnt-there number at is = subst (λ (n : Node). same_node n m ≡ false) (sym (node-is number node at)) is

  none-there : (nodes : List Entry) → same_node node m ≡ true → counts_of node nodes ≡ [] → counts_of m nodes ≡ []
  none-there nodes is none = subst (λ (n : Node). counts_of n nodes ≡ []) (node-is node m is) none

  again-there : (c : ℕ) (entry : Entry) (nodes : List Entry) (p b : Bool) → same_node node m ≡ p → same_node entry.0 node ≡ b
      → counted node entry nodes b ≡ c ∷ []
      → (counts_of node nodes ≡ c ∷ [] → counts_of m (entered node nodes) ≡ cond p ((c + 1) ∷ []) (counts_of m nodes))
      → counts_of m (cond b ((node, entry.1 + 1) ∷ nodes) (entry ∷ entered node nodes)) ≡ cond p ((c + 1) ∷ [])
      (counts_of m (entry ∷ nodes))
  again-there c entry nodes true true is at one later =
      passed m (node, entry.1 + 1) nodes is
      ∙ ap (λ (l : List ℕ). (entry.1 + 1) ∷ l) (none-there nodes is (rest entry.1 c one))
      ∙ ap (λ (n : ℕ). (n + 1) ∷ []) (first entry.1 c one)
  again-there c entry nodes false true is at one later =
      aside m (node, entry.1 + 1) nodes is ∙ sym (aside m entry nodes (isnt-there entry.0 at is))
  again-there c entry nodes true false is at one later =
      aside m entry (entered node nodes) (is-there entry.0 false at is) ∙ later one
  again-there c entry nodes false false is at one later = behind m entry (entered node nodes) nodes (later one)

  again : (c : ℕ) (nodes : List Entry) → counts_of node nodes ≡ c ∷ []
      → counts_of m (entered node nodes) ≡ cond (same_node node m) ((c + 1) ∷ []) (counts_of m nodes)
  again c [] one = some-none c (sym one)
  again c (entry ∷ nodes) one =
      again-there c entry nodes (same_node node m) (same_node entry.0 node) refl refl one (λ later. again c nodes later)

  -- what is left of n
  abbrev less : ℕ → List ℕ
  less c = cond (nat_le c 1) [] ((c - 1) ∷ [])

  off-there : (count : ℕ) (nodes : List Entry) (p d : Bool) → same_node node m ≡ p → counts_of node nodes ≡ []
      → counts_of m (cond d nodes ((node, count - 1) ∷ nodes)) ≡ cond p (cond d [] ((count - 1) ∷ [])) (counts_of m nodes)
  off-there count nodes true true is none = none-there nodes is none
  off-there count nodes true false is none =
      passed m (node, count - 1) nodes is ∙ ap (λ (l : List ℕ). (count - 1) ∷ l) (none-there nodes is none)
  off-there count nodes false true is none = refl
  off-there count nodes false false is none = aside m (node, count - 1) nodes is

  off-before : (entry : Entry) (nodes : List Entry) (W : List ℕ) (p : Bool) → same_node node m ≡ p → same_node entry.0 node ≡ true
      → cond p W (counts_of m nodes) ≡ cond p W (counts_of m (entry ∷ nodes))
  off-before entry nodes W true is at = refl
  off-before entry nodes W false is at = sym (aside m entry nodes (isnt-there entry.0 at is))

  off-aside : (entry : Entry) (nodes : List Entry) (W : List ℕ) (p : Bool) → same_node node m ≡ p → same_node entry.0 node ≡ false
      → counts_of m (left node nodes) ≡ cond p W (counts_of m nodes)
      → counts_of m (entry ∷ left node nodes) ≡ cond p W (counts_of m (entry ∷ nodes))
  off-aside entry nodes W true is at same = aside m entry (left node nodes) (is-there entry.0 false at is) ∙ same
  off-aside entry nodes W false is at same = behind m entry (left node nodes) nodes same

  off-here : (c : ℕ) (entry : Entry) (nodes : List Entry) (b : Bool) → same_node entry.0 node ≡ b
      → counted node entry nodes b ≡ c ∷ []
      → (counts_of node nodes ≡ c ∷ [] → counts_of m (left node nodes) ≡ cond (same_node node m) (less c) (counts_of m nodes))
      → counts_of m (cond b (cond (nat_le entry.1 1) nodes ((node, entry.1 - 1) ∷ nodes)) (entry ∷ left node nodes))
      ≡ cond (same_node node m) (less c) (counts_of m (entry ∷ nodes))
  off-here c entry nodes true at one later =
      off-there entry.1 nodes (same_node node m) (nat_le entry.1 1) refl (rest entry.1 c one)
      ∙ ap (λ (n : ℕ). cond (same_node node m) (less n) (counts_of m nodes)) (first entry.1 c one)
      ∙ off-before entry nodes (less c) (same_node node m) refl at
  off-here c entry nodes false at one later = off-aside entry nodes (less c) (same_node node m) refl at (later one)

  off : (c : ℕ) (nodes : List Entry) → counts_of node nodes ≡ c ∷ []
      → counts_of m (left node nodes) ≡ cond (same_node node m) (less c) (counts_of m nodes)
  off c [] one = some-none c (sym one)
  off c (entry ∷ nodes) one = off-here c entry nodes (same_node entry.0 node) refl one (λ later. off c nodes later)

again-length-there : (node : Node) (c : ℕ) (entry : Entry) (nodes : List Entry) (b : Bool) → counted node entry nodes b ≡ c ∷ []
    → (counts_of node nodes ≡ c ∷ [] → length (entered node nodes) ≡ length nodes)
    → length (cond b ((node, entry.1 + 1) ∷ nodes) (entry ∷ entered node nodes)) ≡ length (entry ∷ nodes)
again-length-there node c entry nodes true one later = omega arith
again-length-there node c entry nodes false one later = omega (arith, later one)

again-length : (node : Node) (c : ℕ) (nodes : List Entry) → counts_of node nodes ≡ c ∷ [] → length (entered node nodes) ≡ length nodes
again-length node c [] one = some-none c (sym one)
again-length node c (entry ∷ nodes) one =
    again-length-there node c entry nodes (same_node entry.0 node) one (λ later. again-length node c nodes later)

off-length-there : (node : Node) (c : ℕ) (entry : Entry) (nodes : List Entry) (b : Bool) → counted node entry nodes b ≡ c ∷ []
    → (counts_of node nodes ≡ c ∷ [] → length (left node nodes) + cond (nat_le c 1) 1 0 ≡ length nodes)
    → length (cond b (cond (nat_le entry.1 1) nodes ((node, entry.1 - 1) ∷ nodes)) (entry ∷ left node nodes)) + cond (nat_le c 1) 1 0
    ≡ length (entry ∷ nodes)
off-length-there node c entry nodes true one later =
    ap (λ (n : ℕ). length (cond (nat_le entry.1 1) nodes ((node, entry.1 - 1) ∷ nodes)) + cond (nat_le n 1) 1 0) (sym (first entry.1 c one))
    ∙ there (nat_le entry.1 1)
  where
    there : (d : Bool) → length (cond d nodes ((node, entry.1 - 1) ∷ nodes)) + cond d 1 0 ≡ length (entry ∷ nodes)
    there true = omega arith
    there false = omega arith
off-length-there node c entry nodes false one later = omega (arith, later one)

off-length : (node : Node) (c : ℕ) (nodes : List Entry) → counts_of node nodes ≡ c ∷ []
    → length (left node nodes) + cond (nat_le c 1) 1 0 ≡ length nodes
off-length node c [] one = some-none c (sym one)
off-length node c (entry ∷ nodes) one =
    off-length-there node c entry nodes (same_node entry.0 node) one (λ later. off-length node c nodes later)

entered-there : (node : Node) (entry : Entry) (nodes : List Entry) (b : Bool) → same_node entry.0 node ≡ b
    → is_in node (entered node nodes) ≡ true → is_in node (cond b ((node, entry.1 + 1) ∷ nodes) (entry ∷ entered node nodes)) ≡ true
entered-there node entry nodes true at later = rw (node-itself node) refl
entered-there node entry nodes false at later = rw at later

-- who came is in
pub entered-in : (node : Node) (nodes : List Entry) → is_in node (entered node nodes) ≡ true
entered-in node [] = rw (node-itself node) refl
entered-in node (entry ∷ nodes) = entered-there node entry nodes (same_node entry.0 node) refl (entered-in node nodes)

-- ---- both together

short : (p : Bool) (W l : List ℕ) → length W ≤ 1 → length l ≤ 1 → length (cond p W l) ≤ 1
short true W l one few = one
short false W l one few = few

module _ (node : ℕ) (seated : Nodes) (nodes : List Entry) (stands : NodesStand seated nodes) where
  seated-counts : counts_of (Own node) nodes ≡ counts_of (Own node) (map own seated.own)
  seated-counts = stands.same (Own node) ∙ counts-joined (Own node) (map own seated.own) (map outside seated.foreign)
      ∙ emptied-of node (Own node) (counts_of (Own node) (map own seated.own)) (counts_of (Own node) (map outside seated.foreign))
      (none-outside node seated.foreign)

  found-head : factories_of seated node ≡ head_of (counts_of (Own node) nodes)
  found-head = found node seated.own ∙ ap head_of (sym seated-counts)

  none-of : (l : List ℕ) → head_of l ≡ None → l ≡ []
  none-of [] e = refl
  none-of (x ∷ xs) e = absurd cc

  one-of : (c : ℕ) (l : List ℕ) → length l ≤ 1 → head_of l ≡ Some c → l ≡ c ∷ []
  one-of c [] few e = absurd cc
  one-of c (x ∷ []) few e = ap (λ (n : ℕ). n ∷ []) cc
  one-of c (x ∷ y ∷ more) few e = absurd (omega (arith, few))

  -- a node that has none isn't in
  pub counts-none : factories_of seated node ≡ None → counts_of (Own node) nodes ≡ []
  counts-none none = none-of (counts_of (Own node) nodes) (sym found-head ∙ none)

  -- a node that has n is there once, with as many
  pub counts-some : (c : ℕ) → factories_of seated node ≡ Some c → counts_of (Own node) nodes ≡ c ∷ []
  counts-some c some = one-of c (counts_of (Own node) nodes) (stands.once (Own node)) (sym found-head ∙ some)

  some-head : (l : List ℕ) → is_some_of l ≡ is_some (head_of l)
  some-head [] = refl
  some-head (x ∷ xs) = refl

  -- a node of the hub is in the segment just if it is in the phase
  pub own-in : is_in (Own node) nodes ≡ is_some (factories_of seated node)
  own-in = in-counted (Own node) nodes ∙ some-head (counts_of (Own node) nodes) ∙ ap (λ (o : Option ℕ). is_some o) (sym found-head)

  -- it comes in with its first factory
  pub own-comes : factories_of seated node ≡ None → NodesStand (with_node node seated) (entered (Own node) nodes)
  own-comes none = record {
    same = λ m. come (Own node) nodes m isnt ∙ ap (λ (l : List ℕ). cond (same_node (Own node) m) (1 ∷ []) l) (stands.same m)
        ∙ sym (seats-counts node m (1 ∷ []) seated.own (insert_entry nat_cmp seated.own node 1) seated.foreign
        (insert-counts node m 1 seated.own there));
    once = λ m. subst (λ (l : List ℕ). length l ≤ 1) (sym (come (Own node) nodes m isnt))
        (short (same_node (Own node) m) (1 ∷ []) (counts_of m nodes) (omega arith) (stands.once m));
    many = omega (arith, longer (Own node) nodes isnt, insert-length node 1 seated.own there, stands.many);
  }
    where
      there : counts_of (Own node) (map own seated.own) ≡ []
      there = sym seated-counts ∙ counts-none none

      isnt : is_in (Own node) nodes ≡ false
      isnt = own-in ∙ ap (λ (o : Option ℕ). is_some o) none

  module _ (c : ℕ) (has : factories_of seated node ≡ Some c) where
    here : counts_of (Own node) (map own seated.own) ≡ c ∷ []
    here = sym seated-counts ∙ counts-some c has

    -- it gets one factory more
    pub own-again : NodesStand (with_factories node (c + 1) seated) (entered (Own node) nodes)
    own-again = record {
      same = λ m. again (Own node) m c nodes (counts-some c has)
          ∙ ap (λ (l : List ℕ). cond (same_node (Own node) m) ((c + 1) ∷ []) l) (stands.same m)
          ∙ sym (seats-counts node m ((c + 1) ∷ []) seated.own (set_value (is_at (nat_cmp node)) seated.own (c + 1)) seated.foreign
          (set-counts node m (c + 1) c seated.own here));
      once = λ m. subst (λ (l : List ℕ). length l ≤ 1) (sym (again (Own node) m c nodes (counts-some c has)))
          (short (same_node (Own node) m) ((c + 1) ∷ []) (counts_of m nodes) (omega arith) (stands.once m));
      many = omega (arith, again-length (Own node) c nodes (counts-some c has), set-length node (c + 1) seated.own, stands.many);
    }

    few-left : (d : Bool) → length (cond d [] ((c - 1) ∷ [])) ≤ 1
    few-left true = omega arith
    few-left false = omega arith

    -- it has one factory less
    pub own-less : nat_le c 1 ≡ false → NodesStand (with_factories node (c - 1) seated) (left (Own node) nodes)
    own-less more = record {
      same = λ m. off (Own node) m c nodes (counts-some c has)
          ∙ ap (λ (d : Bool). cond (same_node (Own node) m) (cond d [] ((c - 1) ∷ [])) (counts_of m nodes)) more
          ∙ ap (λ (l : List ℕ). cond (same_node (Own node) m) ((c - 1) ∷ []) l) (stands.same m)
          ∙ sym (seats-counts node m ((c - 1) ∷ []) seated.own (set_value (is_at (nat_cmp node)) seated.own (c - 1)) seated.foreign
          (set-counts node m (c - 1) c seated.own here));
      once = once-less;
      many = omega (
        arith,
        subst (λ (d : Bool). length (left (Own node) nodes) + cond d 1 0 ≡ length nodes) more
            (off-length (Own node) c nodes (counts-some c has)),
        set-length node (c - 1) seated.own,
        stands.many,
      );
    }
      where
        once-less : (m : Node) → length (counts_of m (left (Own node) nodes)) ≤ 1
        once-less m = subst (λ (l : List ℕ). length l ≤ 1) (sym (off (Own node) m c nodes (counts-some c has)))
            (short (same_node (Own node) m) (less (Own node) m c) (counts_of m nodes) (few-left (nat_le c 1)) (stands.once m))

    -- with its last factory it is out
    pub own-goes : nat_le c 1 ≡ true → NodesStand (without_node node seated) (left (Own node) nodes)
    own-goes last = record {
      same = λ m. off (Own node) m c nodes (counts-some c has)
          ∙ ap (λ (d : Bool). cond (same_node (Own node) m) (cond d [] ((c - 1) ∷ [])) (counts_of m nodes)) last
          ∙ ap (λ (l : List ℕ). cond (same_node (Own node) m) [] l) (stands.same m)
          ∙ sym (seats-counts node m [] seated.own (remove_entry (is_at (nat_cmp node)) seated.own) seated.foreign
          (remove-counts node m c seated.own here));
      once = λ m. subst (λ (l : List ℕ). length l ≤ 1) (sym (off (Own node) m c nodes (counts-some c has)))
          (short (same_node (Own node) m) (less (Own node) m c) (counts_of m nodes) (few-left (nat_le c 1)) (stands.once m));
      many = omega (
        arith,
        subst (λ (d : Bool). length (left (Own node) nodes) + cond d 1 0 ≡ length nodes) last
            (off-length (Own node) c nodes (counts-some c has)),
        remove-length node c seated.own here,
        stands.many,
      );
    }
