-- What steps of nodes outside the hub leave of a phase: in one life what is agreed on stays, and each node of the hub keeps its factories.
use Rattle.std.proofs.Common.{◌≡◌, ℕ, ◌-◌, ◌^◌, ◌≤◌, ◌<◌, Bool, true, false, cond, not, ◌&&◌, List, [], ◌∷◌, fold, length, nat_lt, refl}
use Rattle.std.proofs.Common.{sym, subst, ◌∙◌, ◌⊎◌, inl, inr, arith}
use Rattle.std.specs.List.{AllByRecursion}
use Rattle.std.specs.Prelude.{nat_le}
use Rattle.iox_command.specs.NegotiateBase.DescribeBase.declared.message_type.MessageTypeDetails.{MessageTypeDetails}
use Rattle.iox_command.specs.NegotiateBase.DescribeBase.declared.pattern.MessagingPattern.{MessagingPattern}
use Rattle.iox_command.specs.NegotiateBase.DescribeSettings.Agreement.{max_nodes_of}
use Rattle.iox_command.specs.Patterns.{pattern_of}
use Rattle.iox_command.specs.declared.step.ForeignStep.{ForeignStep}
use Rattle.iox_command.specs.declared.step.ForeignStep.TheVariants as step
use Rattle.iox_machine.specs.Agreement.{Agreement, are_within_limits}
use Rattle.iox_machine.specs.Asked.{settings_of}
use Rattle.iox_machine.specs.Phase.{Node, Own, Foreign, Phase, Absent, BeingMade, Published, Emptied, same_node, same_pattern, is_in}
use Rattle.iox_machine.specs.Phase.{entered, left, left_by, acted, has_numbers, published_by}
use Rattle.iox_negotiate.proofs.Maps.{no}
use Rattle.iox_negotiate_machine.proofs.Seats.{Entry, aside, behind, come, node-is}
use Rattle.iox_negotiate_machine.specs.CallLaws.{HasFewFactories}
use Rattle.iox_negotiate_machine.specs.Standing.{counts_of}

pub by-choice : (P : Phase → Type 0) (b : Bool) (one other : Phase) → (b ≡ true → P one) → P other → P (cond b one other)
by-choice P true one other p q = p refl
by-choice P false one other p q = q

-- the phase after a node left
pub by-left : (P : Phase → Type 0) (life : ℕ) (agreed : Agreement) (node : Node) (nodes : List Entry) → P (Published life agreed nodes)
    → P (Emptied life agreed node) → P (Published life agreed (left node nodes)) → P (left_by node (Published life agreed nodes))
by-left P life agreed node nodes same none some =
    by-choice P (is_in node nodes)
    (elim (left node nodes) [ [] ↦ Emptied life agreed node | entry ∷ more ↦ Published life agreed (entry ∷ more) ])
    (Published life agreed nodes) (λ is. there (left node nodes) some) same
  where
    there : (l : List Entry) → P (Published life agreed l)
        → P (elim l [ [] ↦ Emptied life agreed node | entry ∷ more ↦ Published life agreed (entry ∷ more) ])
    there [] some = none
    there (entry ∷ more) some = some

-- ---- what is agreed on

module _ (types : MessageTypeDetails) (pattern : MessagingPattern) (life : ℕ) (agreed : Agreement) where
  -- The phase is of a later life, or the service of this life still has exactly this agreement.
  abbrev pub IsSince : Phase → Type 0
  IsSince (Absent lives) = life ≤ lives
  IsSince (BeingMade now by) = life < now
  IsSince (Published now other nodes) = (life < now) ⊎ ((now ≡ life) × (other ≡ agreed))
  IsSince (Emptied now other by) = (life < now) ⊎ ((now ≡ life) × (other ≡ agreed))

  since-acted : (phase : Phase) (one : ForeignStep) → IsSince phase → IsSince (acted types pattern phase one)
  since-acted (Absent lives) (step.Lock node) since = omega (arith, since)
  since-acted (BeingMade now by) (step.GiveUp node) since =
      by-choice IsSince (same_node by (Foreign node)) (Absent now) (BeingMade now by) (λ is. omega (arith, since)) since
  since-acted (BeingMade now by) (step.Publish node options) since =
      by-choice IsSince
      (same_node by (Foreign node) && (same_pattern (pattern_of options) pattern && are_within_limits (settings_of types options)))
      (Published now (record { settings = settings_of types options; attributes = [] }) ((Foreign node, 1) ∷ [])) (BeingMade now by)
      (λ is. inl since) since
  since-acted (BeingMade now by) (step.PublishV1 node options) since =
      by-choice IsSince (has_numbers (settings_of types options)) (BeingMade now by) (published_by types pattern now by node options)
      (λ is. since)
      (by-choice IsSince
      (same_node by (Foreign node) && (same_pattern (pattern_of options) pattern && are_within_limits (settings_of types options)))
      (Published now (record { settings = settings_of types options; attributes = [] }) ((Foreign node, 1) ∷ [])) (BeingMade now by)
      (λ is. inl since) since)
  since-acted (Published now other nodes) (step.Register node) since =
      by-choice IsSince (not (is_in (Foreign node) nodes) && nat_lt (length nodes) (max_nodes_of other.settings))
      (Published now other (entered (Foreign node) nodes)) (Published now other nodes) (λ is. since) since
  since-acted (Published now other nodes) (step.Leave node) since =
      by-left IsSince now other (Foreign node) nodes since since since
  since-acted (Emptied now other by) (step.Remove node) since =
      by-choice IsSince (same_node by (Foreign node)) (Absent now) (Emptied now other by) (λ is. there since) since
    where
      there : (life < now) ⊎ ((now ≡ life) × (other ≡ agreed)) → life ≤ now
      there (inl less) = omega (arith, less)
      there (inr same) = omega (arith, same.0)
  since-acted phase other since = since

  pub since : (phase : Phase) (steps : List ForeignStep) → IsSince phase → IsSince (fold (acted types pattern) phase steps)
  since phase [] is = is
  since phase (one ∷ steps) is = since (acted types pattern phase one) steps (since-acted phase one is)

-- ---- who of the hub is in

left-there : (node : Node) (entry : Entry) (nodes : List Entry) (m : Node) (c d : Bool) → same_node node m ≡ false
    → same_node entry.0 node ≡ c
    → counts_of m (left node nodes) ≡ counts_of m nodes
    → counts_of m (cond c (cond d nodes ((node, entry.1 - 1) ∷ nodes)) (entry ∷ left node nodes)) ≡ counts_of m (entry ∷ nodes)
left-there node entry nodes m true true apart at later =
    sym (aside m entry nodes (subst (λ (n : Node). same_node n m ≡ false) (sym (node-is entry.0 node at)) apart))
left-there node entry nodes m true false apart at later =
    aside m (node, entry.1 - 1) nodes apart
    ∙ sym (aside m entry nodes (subst (λ (n : Node). same_node n m ≡ false) (sym (node-is entry.0 node at)) apart))
left-there node entry nodes m false d apart at later = behind m entry (left node nodes) nodes later

-- who leaves changes nobody else
pub left-others : (node : Node) (nodes : List Entry) (m : Node) → same_node node m ≡ false
    → counts_of m (left node nodes) ≡ counts_of m nodes
left-others node [] m apart = refl
left-others node (entry ∷ nodes) m apart =
    left-there node entry nodes m (same_node entry.0 node) (nat_le entry.1 1) apart refl (left-others node nodes m apart)

module _ (types : MessageTypeDetails) (pattern : MessagingPattern) (node : ℕ) where
  pub out-of : (c d : Bool) → (not c && d) ≡ true → c ≡ false
  out-of true d is = no is
  out-of false d is = refl

  few-acted : (phase : Phase) (one : ForeignStep) → HasFewFactories node phase → HasFewFactories node (acted types pattern phase one)
  few-acted (Absent lives) (step.Lock other) few = tt
  few-acted (BeingMade now by) (step.GiveUp other) few =
      by-choice (HasFewFactories node) (same_node by (Foreign other)) (Absent now) (BeingMade now by) (λ is. tt) tt
  few-acted (BeingMade now by) (step.Publish other options) few =
      by-choice (HasFewFactories node)
      (same_node by (Foreign other) && (same_pattern (pattern_of options) pattern && are_within_limits (settings_of types options)))
      (Published now (record { settings = settings_of types options; attributes = [] }) ((Foreign other, 1) ∷ [])) (BeingMade now by)
      (λ is. tt) tt
  few-acted (BeingMade now by) (step.PublishV1 other options) few =
      by-choice (HasFewFactories node) (has_numbers (settings_of types options)) (BeingMade now by)
      (published_by types pattern now by other options) (λ is. tt)
      (by-choice (HasFewFactories node)
      (same_node by (Foreign other) && (same_pattern (pattern_of options) pattern && are_within_limits (settings_of types options)))
      (Published now (record { settings = settings_of types options; attributes = [] }) ((Foreign other, 1) ∷ [])) (BeingMade now by)
      (λ is. tt) tt)
  few-acted (Published now agreed nodes) (step.Register other) few =
      by-choice (HasFewFactories node) (not (is_in (Foreign other) nodes) && nat_lt (length nodes) (max_nodes_of agreed.settings))
      (Published now agreed (entered (Foreign other) nodes)) (Published now agreed nodes)
      (λ is. subst (λ (l : List ℕ). AllByRecursion (λ count. count < 2 ^ 64 - 1) l)
      (sym (come (Foreign other) nodes (Own node) (out-of _ _ is))) few) few
  few-acted (Published now agreed nodes) (step.Leave other) few =
      by-left (HasFewFactories node) now agreed (Foreign other) nodes few tt
      (subst (λ (l : List ℕ). AllByRecursion (λ count. count < 2 ^ 64 - 1) l) (sym (left-others (Foreign other) nodes (Own node) refl)) few)
  few-acted (Emptied now agreed by) (step.Remove other) few =
      by-choice (HasFewFactories node) (same_node by (Foreign other)) (Absent now) (Emptied now agreed by) (λ is. tt) tt
  few-acted phase other few = few

  pub few-factories : (phase : Phase) (steps : List ForeignStep) → HasFewFactories node phase
      → HasFewFactories node (fold (acted types pattern) phase steps)
  few-factories phase [] few = few
  few-factories phase (one ∷ steps) few = few-factories (acted types pattern phase one) steps (few-acted phase one few)
