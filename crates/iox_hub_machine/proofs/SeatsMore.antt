-- How many factories a node has once one got one more.
use Rattle.std.proofs.Common.{◌≡◌, ◌+◌, ◌&&◌, ℕ, zero, suc, Bool, true, false, cond, List, [], ◌∷◌, ◌++◌, length, filter, refl, sym, ap}
use Rattle.std.proofs.Common.{subst, ◌∙◌, arith, length-append}
use Rattle.std.proofs.Math.Logic.{⊎_elim}
use Rattle.std.proofs.lemmas.Bool.Decides.{eqb_tells}
use Rattle.std.proofs.lemmas.List.Elements.{filter-append}
use Rattle.iox_command.specs.NegotiateBase.DescribeBase.declared.pattern.MessagingPattern.{MessagingPattern}
use Rattle.iox_domain_machine.proofs.Settling.{both}
use Rattle.iox_hub_machine.specs.Seats.{seats_for, is_factory_of_node, factories_of_node}
use Rattle.iox_machine.specs.Phase.{Node, Own, entered, same_node, same_pattern}
use Rattle.iox_machine.specs.State.{Factory}
use Rattle.std.specs.Prelude.{bytes_eq, ◌==◌}
use Rattle.iox_negotiate_machine.proofs.Acted.{name-is}
use Rattle.iox_negotiate_machine.proofs.Acting.{name-itself, pattern-is, pattern-itself}
use Rattle.iox_negotiate_machine.proofs.Seats.{node-is, node-itself, passed, aside, behind}
use Rattle.iox_negotiate_machine.specs.Standing.{counts_of}

-- ---- of one service

-- a pattern and a name are themselves
pub its_own : (pattern : MessagingPattern) (name : List ℕ) → (same_pattern pattern pattern && bytes_eq name name) ≡ true
its_own pattern name =
    ap (λ (b : Bool). b && bytes_eq name name) (pattern-itself pattern) ∙ name-itself name

more_by : (b : Bool) (entry : ℕ × Factory) (some : List (ℕ × Factory)) → length (some ++ cond b (entry ∷ []) []) ≡ length some + cond b 1 0
more_by true entry some = length-append some (entry ∷ [])
more_by false entry some = length-append some []

-- how many factories of a service a node has where one came after the others
pub more_of_node : (pattern : MessagingPattern) (name : List ℕ) (node number : ℕ) (factory : Factory) (factories : List (ℕ × Factory))
    → factories_of_node pattern name node (factories ++ (number, factory) ∷ [])
    ≡ factories_of_node pattern name node factories + cond (is_factory_of_node pattern name node factory) 1 0
more_of_node pattern name node number factory factories =
    ap length (filter-append (λ (entry : ℕ × Factory). is_factory_of_node pattern name node entry.1) factories ((number, factory) ∷ []))
    ∙ more_by (is_factory_of_node pattern name node factory) (number, factory)
    (filter (λ (entry : ℕ × Factory). is_factory_of_node pattern name node entry.1) factories)

module _ (pattern : MessagingPattern) (name : List ℕ) (node : ℕ) where
  -- the factory that a node gets of a service
  abbrev pub factory_got : Factory
  factory_got = record { pattern = pattern; name = name; node = node }

  -- it is one of this node alone, of the service
  pub is_its : (other : ℕ) → is_factory_of_node pattern name other factory_got ≡ (node == other)
  is_its other =
      ap (λ (b : Bool). b && (bytes_eq name name && node == other)) (pattern-itself pattern)
      ∙ ap (λ (b : Bool). b && node == other) (name-itself name)

  never_its : (one : MessagingPattern) (other : List ℕ) (which : ℕ) (b : Bool) → is_factory_of_node one other which factory_got ≡ b
      → (same_pattern one pattern && bytes_eq other name) ≡ false → b ≡ false
  never_its one other which false is isnt = refl
  never_its one other which true is isnt =
      let first = both _ _ is in
      let second = both _ _ first.1 in
      sym (subst (λ (p : MessagingPattern). (same_pattern p pattern && bytes_eq other name) ≡ true) (pattern-is pattern one first.0)
      (subst (λ (n : List ℕ). (same_pattern pattern pattern && bytes_eq n name) ≡ true) (name-is name other second.0)
      (its_own pattern name))) ∙ isnt

  -- and of no other service
  pub is_not_its : (one : MessagingPattern) (other : List ℕ) (which : ℕ) → (same_pattern one pattern && bytes_eq other name) ≡ false
      → is_factory_of_node one other which factory_got ≡ false
  is_not_its one other which isnt = never_its one other which _ refl isnt

-- ---- in the phase

none_some : (many : ℕ) {X : Type 0} → [] ≡ suc many ∷ [] → X
none_some many is = absurd (differ is)
  where
    differ : [] ≡ suc many ∷ [] → ⊥
    differ e = cc

some_none : (one : ℕ) (more : List ℕ) {X : Type 0} → one ∷ more ≡ [] → X
some_none one more is = absurd (differ is)
  where
    differ : one ∷ more ≡ [] → ⊥
    differ e = cc

first_is : (one other : ℕ) (more : List ℕ) → one ∷ more ≡ other ∷ [] → one ≡ other
first_is one other more e = cc

rest_is : (one other : ℕ) (more : List ℕ) → one ∷ more ≡ other ∷ [] → more ≡ []
rest_is one other more e = cc

seats_for_more : (many : ℕ) → seats_for (many + 1) ≡ (many + 1) ∷ []
seats_for_more many =
    let next : many + 1 ≡ suc many = omega arith in
    ap seats_for next ∙ ap (λ (n : ℕ). n ∷ []) (sym next)

module _ (node : ℕ) where
  own_here : (many : ℕ) (entry : Node × ℕ) (nodes : List (Node × ℕ)) → entry.1 ∷ counts_of (Own node) nodes ≡ seats_for many
      → counts_of (Own node) ((Own node, entry.1 + 1) ∷ nodes) ≡ (many + 1) ∷ []
  own_here zero entry nodes has = some_none entry.1 (counts_of (Own node) nodes) has
  own_here (suc many) entry nodes has =
      passed (Own node) (Own node, entry.1 + 1) nodes (node-itself (Own node))
      ∙ ap (λ (more : List ℕ). (entry.1 + 1) ∷ more) (rest_is entry.1 (suc many) (counts_of (Own node) nodes) has)
      ∙ ap (λ (n : ℕ). (n + 1) ∷ []) (first_is entry.1 (suc many) (counts_of (Own node) nodes) has)

  own_by : (many : ℕ) (entry : Node × ℕ) (nodes : List (Node × ℕ)) (b : Bool) → same_node entry.0 (Own node) ≡ b
      → counts_of (Own node) (entry ∷ nodes) ≡ seats_for many
      → (counts_of (Own node) nodes ≡ seats_for many → counts_of (Own node) (entered (Own node) nodes) ≡ (many + 1) ∷ [])
      → counts_of (Own node) (cond b ((Own node, entry.1 + 1) ∷ nodes) (entry ∷ entered (Own node) nodes)) ≡ (many + 1) ∷ []
  own_by many entry nodes true is has rest = own_here many entry nodes (sym (passed (Own node) entry nodes is) ∙ has)
  own_by many entry nodes false is has rest =
      aside (Own node) entry (entered (Own node) nodes) is ∙ rest (sym (aside (Own node) entry nodes is) ∙ has)

  own_first : (many : ℕ) → [] ≡ seats_for many → counts_of (Own node) ((Own node, 1) ∷ []) ≡ (many + 1) ∷ []
  own_first zero has = passed (Own node) (Own node, 1) [] (node-itself (Own node))
  own_first (suc many) has = none_some many has

  -- a node that enters has one factory more
  own_entered : (many : ℕ) (nodes : List (Node × ℕ)) → counts_of (Own node) nodes ≡ seats_for many
      → counts_of (Own node) (entered (Own node) nodes) ≡ (many + 1) ∷ []
  own_entered many [] has = own_first many has
  own_entered many (entry ∷ nodes) has =
      own_by many entry nodes (same_node entry.0 (Own node)) refl has (own_entered many nodes)

  other_by : (other : ℕ) (entry : Node × ℕ) (nodes : List (Node × ℕ)) (b : Bool) → same_node entry.0 (Own node) ≡ b
      → (node == other) ≡ false → counts_of (Own other) (entered (Own node) nodes) ≡ counts_of (Own other) nodes
      → counts_of (Own other) (cond b ((Own node, entry.1 + 1) ∷ nodes) (entry ∷ entered (Own node) nodes))
      ≡ counts_of (Own other) (entry ∷ nodes)
  other_by other entry nodes true is off rest =
      aside (Own other) (Own node, entry.1 + 1) nodes off
      ∙ sym (aside (Own other) entry nodes
      (subst (λ (n : Node). same_node n (Own other) ≡ false) (sym (node-is entry.0 (Own node) is)) off))
  other_by other entry nodes false is off rest = behind (Own other) entry (entered (Own node) nodes) nodes rest

  -- the others have as many
  other_entered : (other : ℕ) (nodes : List (Node × ℕ)) → (node == other) ≡ false
      → counts_of (Own other) (entered (Own node) nodes) ≡ counts_of (Own other) nodes
  other_entered other [] off = aside (Own other) (Own node, 1) [] off
  other_entered other (entry ∷ nodes) off =
      other_by other entry nodes (same_node entry.0 (Own node)) refl off (other_entered other nodes off)

  -- how many factories each node has once one entered
  pub seats_entered : (many : ℕ → ℕ) (nodes : List (Node × ℕ)) → ((other : ℕ) → counts_of (Own other) nodes ≡ seats_for (many other))
      → (other : ℕ) → counts_of (Own other) (entered (Own node) nodes) ≡ seats_for (many other + cond (node == other) 1 0)
  seats_entered many nodes has other = ⊎_elim
      (λ same. ap (λ (n : ℕ). counts_of (Own n) (entered (Own node) nodes)) (sym same.1)
      ∙ own_entered (many node) nodes (has node) ∙ sym (seats_for_more (many node))
      ∙ ap (λ (n : ℕ). seats_for (many n + 1)) same.1
      ∙ ap (λ (b : Bool). seats_for (many other + cond b 1 0)) (sym same.0))
      (λ off. other_entered other nodes off.0 ∙ has other
      ∙ ap seats_for (none (many other)) ∙ ap (λ (b : Bool). seats_for (many other + cond b 1 0)) (sym off.0))
      (eqb_tells node other)
    where
      none : (n : ℕ) → n ≡ n + 0
      none n = omega arith
