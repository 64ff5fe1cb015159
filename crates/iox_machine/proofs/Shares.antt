-- How many factories each node has in a service, by the phase.
use Rattle.std.proofs.Common.{◌≡◌, ◌≤◌, ◌+◌, ◌-◌, ℕ, Bool, true, false, cond, not, ◌&&◌, ◌||◌, List, [], ◌∷◌, length, refl, sym, ap}
use Rattle.std.proofs.Common.{subst, arith, ◌∙◌, true≢false}
use Rattle.std.proofs.lemmas.Bool.{eqb-true, eq-eqb, leb-true, leb-false}
use Rattle.std.specs.List.{AllByRecursion}
use Rattle.std.specs.Prelude.{◌==◌, nat_le, nat_lt}
use Rattle.iox_machine.specs.Agreement.{Agreement, are_within_limits}
use Rattle.iox_machine.specs.Asked.{settings_of}
use Rattle.iox_machine.specs.Phase.{Node, Own, Foreign, Phase, Absent, BeingMade, Published, Emptied, same_pattern, same_node, is_in}
use Rattle.iox_machine.specs.Phase.{entered, left, removed_by, acted, published_by, has_numbers}
use Rattle.iox_machine.proofs.Shorthands.{closed_by}
use Rattle.iox_machine.proofs.Counts.{one_if}
use Rattle.iox_machine.proofs.Phases.{chosen-phase}
use Rattle.iox_command.specs.NegotiateBase.DescribeBase.declared.message_type.MessageTypeDetails.{MessageTypeDetails}
use Rattle.iox_command.specs.NegotiateBase.DescribeBase.declared.pattern.MessagingPattern.{MessagingPattern}
use Rattle.iox_command.specs.NegotiateBase.DescribeSettings.Agreement.{max_nodes_of}
use Rattle.iox_command.specs.Patterns.{pattern_of}
use Rattle.iox_command.specs.declared.step.ForeignStep.{ForeignStep}
use Rattle.iox_command.specs.declared.step.ForeignStep.TheVariants as step
use Rattle.iox_command.specs.declared.service.ServiceOptions.{ServiceOptions}

-- how many factories a node has, of those that are counted
abbrev pub share : Node → List (Node × ℕ) → ℕ
share node [] = 0
share node (entry ∷ more) = cond (same_node entry.0 node) entry.1 0 + share node more

-- Each node that is in has a factory.
abbrev pub Full : List (Node × ℕ) → Type 0
Full nodes = AllByRecursion (λ (entry : Node × ℕ). 1 ≤ entry.1) nodes

-- Each node of the hub has n factories in a phase.
abbrev pub Counts : (ℕ → ℕ) → Phase → Type 0
Counts f (Absent lives) = (m : ℕ) → f m ≡ 0
Counts f (BeingMade life by) = (m : ℕ) → f m ≡ 0
Counts f (Published life agreed nodes) = Full nodes × ((m : ℕ) → share (Own m) nodes ≡ f m)
Counts f (Emptied life agreed by) = (m : ℕ) → f m ≡ 0

pub node-is : (one other : Node) → same_node one other ≡ true → one ≡ other
node-is (Own one) (Own other) e = ap Own (eqb-true one other e)
node-is (Foreign one) (Foreign other) e = ap Foreign (eqb-true one other e)
node-is (Own one) (Foreign other) e = absurd (true≢false (sym e))
node-is (Foreign one) (Own other) e = absurd (true≢false (sym e))

pub node-itself : (one : Node) → same_node one one ≡ true
node-itself (Own one) = eq-eqb one one refl
node-itself (Foreign one) = eq-eqb one one refl

one-more : (c : Bool) (count rest : ℕ) → cond c (count + 1) 0 + rest ≡ (cond c count 0 + rest) + one_if c
one-more true count rest = omega arith
one-more false count rest = omega arith

one-less : (c : Bool) (count rest : ℕ) → 2 ≤ count → cond c count 0 + rest ≡ (cond c (count - 1) 0 + rest) + one_if c
one-less true count rest h = omega (arith, h)
one-less false count rest h = omega arith

one-gone : (c : Bool) (count rest : ℕ) → count ≡ 1 → cond c count 0 + rest ≡ rest + one_if c
one-gone true count rest h = omega (arith, h)
one-gone false count rest h = omega arith

behind : (first one other extra : ℕ) → one ≡ other + extra → first + one ≡ (first + other) + extra
behind first one other extra h = omega (arith, h)

pub share-entered : (node other : Node) (nodes : List (Node × ℕ))
    → share other (entered node nodes) ≡ share other nodes + one_if (same_node node other)
share-entered node other [] = none (same_node node other)
  where
    none : (c : Bool) → cond c 1 0 + 0 ≡ 0 + one_if c
    none true = omega arith
    none false = omega arith
share-entered node other (entry ∷ more) = here (same_node entry.0 node) refl (share-entered node other more)
  where
    here : (b : Bool) → same_node entry.0 node ≡ b
        → share other (entered node more) ≡ share other more + one_if (same_node node other)
        → share other (cond b ((node, entry.1 + 1) ∷ more) (entry ∷ entered node more))
        ≡ (cond (same_node entry.0 other) entry.1 0 + share other more) + one_if (same_node node other)
    here true is on =
        subst (λ (it : Node). cond (same_node node other) (entry.1 + 1) 0 + share other more
        ≡ (cond (same_node it other) entry.1 0 + share other more) + one_if (same_node node other))
        (sym (node-is entry.0 node is)) (one-more (same_node node other) entry.1 (share other more))
    here false is on =
        behind (cond (same_node entry.0 other) entry.1 0) (share other (entered node more)) (share other more)
        (one_if (same_node node other)) on

pub full-entered : (node : Node) (nodes : List (Node × ℕ)) → Full nodes → Full (entered node nodes)
full-entered node [] full = (omega arith, tt)
full-entered node (entry ∷ more) full = here (same_node entry.0 node) (full-entered node more full.1)
  where
    here : (b : Bool) → Full (entered node more) → Full (cond b ((node, entry.1 + 1) ∷ more) (entry ∷ entered node more))
    here true on = (omega arith, full.1)
    here false on = (full.0, on)

pub share-left : (node other : Node) (nodes : List (Node × ℕ)) → Full nodes → is_in node nodes ≡ true
    → share other nodes ≡ share other (left node nodes) + one_if (same_node node other)
share-left node other [] full is = absurd (true≢false (sym is))
share-left node other (entry ∷ more) full is = here (same_node entry.0 node) refl is (share-left node other more full.1)
  where
    few : (b : Bool) → nat_le entry.1 1 ≡ b
        → cond (same_node node other) entry.1 0 + share other more
        ≡ share other (cond b more ((node, entry.1 - 1) ∷ more)) + one_if (same_node node other)
    few true le =
        one-gone (same_node node other) entry.1 (share other more) (only (leb-true entry.1 1 le) full.0)
      where
        only : entry.1 ≤ 1 → 1 ≤ entry.1 → entry.1 ≡ 1
        only low high = omega (arith, low, high)
    few false gt = one-less (same_node node other) entry.1 (share other more) (leb-false entry.1 1 gt)

    here : (b : Bool) → same_node entry.0 node ≡ b → (b || is_in node more) ≡ true
        → (is_in node more ≡ true → share other more ≡ share other (left node more) + one_if (same_node node other))
        → cond (same_node entry.0 other) entry.1 0 + share other more
        ≡ share other (cond b (cond (nat_le entry.1 1) more ((node, entry.1 - 1) ∷ more)) (entry ∷ left node more))
        + one_if (same_node node other)
    here true same found on =
        subst (λ (it : Node). cond (same_node it other) entry.1 0 + share other more
        ≡ share other (cond (nat_le entry.1 1) more ((node, entry.1 - 1) ∷ more)) + one_if (same_node node other))
        (sym (node-is entry.0 node same)) (few (nat_le entry.1 1) refl)
    here false same found on =
        behind (cond (same_node entry.0 other) entry.1 0) (share other more) (share other (left node more))
        (one_if (same_node node other)) (on found)

pub full-left : (node : Node) (nodes : List (Node × ℕ)) → Full nodes → Full (left node nodes)
full-left node [] full = tt
full-left node (entry ∷ more) full = here (same_node entry.0 node) (full-left node more full.1)
  where
    few : (b : Bool) → nat_le entry.1 1 ≡ b → Full (cond b more ((node, entry.1 - 1) ∷ more))
    few true le = full.1
    few false gt = (one (leb-false entry.1 1 gt), full.1)
      where
        one : 2 ≤ entry.1 → 1 ≤ entry.1 - 1
        one h = omega (arith, h)

    here : (b : Bool) → Full (left node more)
        → Full (cond b (cond (nat_le entry.1 1) more ((node, entry.1 - 1) ∷ more)) (entry ∷ left node more))
    here true on = few (nat_le entry.1 1) refl
    here false on = (full.0, on)

pub in-share : (node : Node) (nodes : List (Node × ℕ)) → 1 ≤ share node nodes → is_in node nodes ≡ true
in-share node [] h = absurd (none h)
  where
    none : 1 ≤ 0 → ⊥
    none h = omega (arith, h)
in-share node (entry ∷ more) h = here (same_node entry.0 node) h (in-share node more)
  where
    here : (b : Bool) → 1 ≤ cond b entry.1 0 + share node more → (1 ≤ share node more → is_in node more ≡ true)
        → (b || is_in node more) ≡ true
    here true h on = refl
    here false h on = on (omega (arith, h))

pub counts-same : (f g : ℕ → ℕ) → ((m : ℕ) → f m ≡ g m) → (phase : Phase) → Counts f phase → Counts g phase
counts-same f g on (Absent lives) c = λ m. sym (on m) ∙ c m
counts-same f g on (BeingMade life by) c = λ m. sym (on m) ∙ c m
counts-same f g on (Published life agreed nodes) c = (c.0, λ m. c.1 m ∙ on m)
counts-same f g on (Emptied life agreed by) c = λ m. sym (on m) ∙ c m

-- the phase that a node leaves behind, where these are left
left-counts : (g : ℕ → ℕ) (life : ℕ) (agreed : Agreement) (node : Node) (nodes : List (Node × ℕ)) → Full nodes
    → ((m : ℕ) → share (Own m) nodes ≡ g m)
    → Counts g (elim nodes [ [] ↦ Emptied life agreed node | entry ∷ more ↦ Published life agreed (entry ∷ more) ])
left-counts g life agreed node [] full is = λ m. sym (is m)
left-counts g life agreed node (entry ∷ more) full is = (full, is)

counts-published : (types : MessageTypeDetails) (pattern : MessagingPattern) (f : ℕ → ℕ) (life : ℕ) (by : Node) (node : ℕ)
    (options : ServiceOptions)
    → Counts f (BeingMade life by) → Counts f (published_by types pattern life by node options)
counts-published types pattern f life by node options c =
    chosen-phase (Counts f)
    (same_node by (Foreign node) && (same_pattern (pattern_of options) pattern && are_within_limits (settings_of types options)))
    (Published life (record { settings = settings_of types options; attributes = [] }) ((Foreign node, 1) ∷ [])) (BeingMade life by)
    ((omega arith, tt), λ m. none m (c m)) c
  where
    none : (m : ℕ) → f m ≡ 0 → 0 + 0 ≡ f m
    none m h = omega (arith, h)

pub counts-acted : (types : MessageTypeDetails) (pattern : MessagingPattern) (f : ℕ → ℕ) (phase : Phase) (one : ForeignStep)
    → Counts f phase → Counts f (acted types pattern phase one)
counts-acted types pattern f (Absent lives) (step.Lock node) c = c
counts-acted types pattern f (BeingMade life by) (step.GiveUp node) c =
    chosen-phase (Counts f) (same_node by (Foreign node)) (Absent life) (BeingMade life by) c c
counts-acted types pattern f (BeingMade life by) (step.Publish node options) c =
    counts-published types pattern f life by node options c
counts-acted types pattern f (BeingMade life by) (step.PublishV1 node options) c =
    chosen-phase (Counts f) (has_numbers (settings_of types options)) (BeingMade life by)
    (published_by types pattern life by node options) c (counts-published types pattern f life by node options c)
counts-acted types pattern f (Published life agreed nodes) (step.Register node) c =
    chosen-phase (Counts f) (not (is_in (Foreign node) nodes) && nat_lt (length nodes) (max_nodes_of agreed.settings))
    (Published life agreed (entered (Foreign node) nodes)) (Published life agreed nodes)
    (full-entered (Foreign node) nodes c.0, λ m. same m (share-entered (Foreign node) (Own m) nodes) (c.1 m)) c
  where
    same : (m : ℕ) → share (Own m) (entered (Foreign node) nodes) ≡ share (Own m) nodes + 0 → share (Own m) nodes ≡ f m
        → share (Own m) (entered (Foreign node) nodes) ≡ f m
    same m h k = omega (arith, h, k)
counts-acted types pattern f (Published life agreed nodes) (step.Leave node) c = here (is_in (Foreign node) nodes) refl
  where
    same : (m : ℕ) → share (Own m) nodes ≡ share (Own m) (left (Foreign node) nodes) + 0 → share (Own m) nodes ≡ f m
        → share (Own m) (left (Foreign node) nodes) ≡ f m
    same m h k = omega (arith, h, k)

    here : (b : Bool) → is_in (Foreign node) nodes ≡ b
        → Counts f (cond b (elim (left (Foreign node) nodes) [
          | [] ↦ Emptied life agreed (Foreign node)
          | entry ∷ more ↦ Published life agreed (entry ∷ more)
        ]) (Published life agreed nodes))
    here true is =
        left-counts f life agreed (Foreign node) (left (Foreign node) nodes) (full-left (Foreign node) nodes c.0)
        (λ m. same m (share-left (Foreign node) (Own m) nodes c.0 is) (c.1 m))
    here false is = c
counts-acted types pattern f (Emptied life agreed by) (step.Remove node) c =
    chosen-phase (Counts f) (same_node by (Foreign node)) (Absent life) (Emptied life agreed by) c c
counts-acted types pattern f phase other c = c

-- a node of the hub has one factory more
abbrev pub more_of : ℕ → (ℕ → ℕ) → ℕ → ℕ
more_of node f m = f m + one_if (node == m)

pub counts-entered : (f : ℕ → ℕ) (node life : ℕ) (agreed : Agreement) (nodes : List (Node × ℕ))
    → Counts f (Published life agreed nodes) → Counts (more_of node f) (Published life agreed (entered (Own node) nodes))
counts-entered f node life agreed nodes c =
    (full-entered (Own node) nodes c.0, λ m. same m (share-entered (Own node) (Own m) nodes) (c.1 m))
  where
    same : (m : ℕ) → share (Own m) (entered (Own node) nodes) ≡ share (Own m) nodes + one_if (node == m) → share (Own m) nodes ≡ f m
        → share (Own m) (entered (Own node) nodes) ≡ f m + one_if (node == m)
    same m h k = h ∙ ap (λ (n : ℕ). n + one_if (node == m)) k

pub counts-made : (f : ℕ → ℕ) (node life : ℕ) (agreed : Agreement) → ((m : ℕ) → f m ≡ 0)
    → Counts (more_of node f) (Published life agreed ((Own node, 1) ∷ []))
counts-made f node life agreed none = ((omega arith, tt), λ m. same (node == m) m (none m))
  where
    same : (b : Bool) (m : ℕ) → f m ≡ 0 → cond b 1 0 + 0 ≡ f m + one_if b
    same true m h = omega (arith, h)
    same false m h = omega (arith, h)

-- a node of the hub leaves with a factory
pub counts-closed : (f g : ℕ → ℕ) (node : ℕ) (phase : Phase) → Counts g phase → ((m : ℕ) → g m ≡ more_of node f m)
    → Counts f (closed_by node phase)
counts-closed f g node (Absent lives) c on = absurd (one (node == node) (eq-eqb node node refl) (sym (c node) ∙ on node))
  where
    one : (b : Bool) → b ≡ true → 0 ≡ f node + one_if b → ⊥
    one true is h = omega (arith, h)
    one false is h = true≢false (sym is)
counts-closed f g node (BeingMade life by) c on = absurd (one (node == node) (eq-eqb node node refl) (sym (c node) ∙ on node))
  where
    one : (b : Bool) → b ≡ true → 0 ≡ f node + one_if b → ⊥
    one true is h = omega (arith, h)
    one false is h = true≢false (sym is)
counts-closed f g node (Emptied life agreed by) c on = absurd (one (node == node) (eq-eqb node node refl) (sym (c node) ∙ on node))
  where
    one : (b : Bool) → b ≡ true → 0 ≡ f node + one_if b → ⊥
    one true is h = omega (arith, h)
    one false is h = true≢false (sym is)
counts-closed f g node (Published life agreed nodes) c on = here (is_in (Own node) nodes) refl
  where
    one : (b : Bool) → b ≡ true → 1 ≤ f node + one_if b
    one true is = omega arith
    one false is = absurd (true≢false (sym is))

    there : is_in (Own node) nodes ≡ true
    there =
        in-share (Own node) nodes
        (subst (λ (n : ℕ). 1 ≤ n) (sym (c.1 node ∙ on node)) (one (node == node) (eq-eqb node node refl)))

    same : (m : ℕ) → share (Own m) nodes ≡ share (Own m) (left (Own node) nodes) + one_if (node == m)
        → share (Own m) nodes ≡ f m + one_if (node == m) → share (Own m) (left (Own node) nodes) ≡ f m
    same m h k = omega (arith, h, k)

    gone : (others : List (Node × ℕ)) → Full others → ((m : ℕ) → share (Own m) others ≡ f m)
        → Counts f (removed_by (Own node) (elim others [
          | [] ↦ Emptied life agreed (Own node)
          | entry ∷ more ↦ Published life agreed (entry ∷ more)
        ]))
    gone [] full is =
        chosen-phase (Counts f) (same_node (Own node) (Own node)) (Absent life) (Emptied life agreed (Own node)) (λ m. sym (is m))
        (λ m. sym (is m))
    gone (entry ∷ more) full is = (full, is)

    here : (b : Bool) → is_in (Own node) nodes ≡ b
        → Counts f (removed_by (Own node) (cond b (elim (left (Own node) nodes) [
          | [] ↦ Emptied life agreed (Own node)
          | entry ∷ more ↦ Published life agreed (entry ∷ more)
        ]) (Published life agreed nodes)))
    here true is =
        gone (left (Own node) nodes) (full-left (Own node) nodes c.0)
        (λ m. same m (share-left (Own node) (Own m) nodes c.0 there) (c.1 m ∙ on m))
    here false is = absurd (true≢false (sym there ∙ is))
