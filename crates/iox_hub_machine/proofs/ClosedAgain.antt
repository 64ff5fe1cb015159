-- A factory that a node got is closed again: the hub has in the phase what it had.
use Rattle.std.proofs.Common.{◌≡◌, ℕ, zero, suc, ◌+◌, ◌-◌, ◌≤◌, Bool, true, false, cond, List, [], ◌∷◌, refl, sym, ap, subst, ◌∙◌, arith}
use Rattle.std.proofs.lemmas.Bool.{lt-leb}
use Rattle.std.specs.List.{AllByRecursion}
use Rattle.std.specs.Prelude.{nat_le}
use Rattle.iox_command.specs.NegotiateBase.DescribeBase.declared.pattern.MessagingPattern.{MessagingPattern}
use Rattle.iox_hub_machine.proofs.Entering.{KeepsHeld, IsEntered}
use Rattle.iox_hub_machine.specs.Seats.{seats_for, seats_in}
use Rattle.iox_machine.specs.Agreement.{Agreement}
use Rattle.iox_machine.specs.Phase.{Node, Own, Phase, Absent, Published, Emptied, entered, left, removed_by, same_node}
use Rattle.iox_machine.proofs.Shorthands.{closed_by}
use Rattle.iox_negotiate_machine.proofs.OwnSeats.{entered-in}
use Rattle.iox_negotiate_machine.proofs.Seats.{Entry, aside, node-is, node-itself, passed}
use Rattle.iox_negotiate_machine.specs.Standing.{counts_of}

-- each of these is at least 1
abbrev pub AreSome : List ℕ → Type 0
AreSome counts = AllByRecursion (λ count. 1 ≤ count) counts

-- a node that is in has at least one factory
pub some_for : (count : ℕ) → AreSome (seats_for count)
some_for zero = tt
some_for (suc more) = (omega arith, tt)

more_than_one : (count : ℕ) → 1 ≤ count → nat_le (count + 1) 1 ≡ false
more_than_one count some = lt-leb (count + 1) 1 (omega (arith, some))

one_less : (count : ℕ) → count + 1 - 1 ≡ count
one_less count = omega arith

first_there : (node : Node) (nodes : List Entry) → left node ((node, 1) ∷ nodes) ≡ nodes
first_there node nodes =
    ap (λ (b : Bool). cond b nodes ((node, 1) ∷ left node nodes)) (node-itself node)

again_there : (node : Node) (entry : Entry) (nodes : List Entry) → 1 ≤ entry.1 → same_node entry.0 node ≡ true
    → left node ((node, entry.1 + 1) ∷ nodes) ≡ entry ∷ nodes
again_there node entry nodes some is =
    ap (λ (b : Bool). cond b (cond (nat_le (entry.1 + 1) 1) nodes ((node, entry.1 + 1 - 1) ∷ nodes))
    ((node, entry.1 + 1) ∷ left node nodes)) (node-itself node)
    ∙ ap (λ (b : Bool). cond b nodes ((node, entry.1 + 1 - 1) ∷ nodes)) (more_than_one entry.1 some)
    ∙ ap (λ (n : ℕ). (node, n) ∷ nodes) (one_less entry.1)
    ∙ ap (λ (n : Node). (n, entry.1) ∷ nodes) (sym (node-is entry.0 node is))

out_there : (node : Node) (entry : Entry) (nodes : List Entry) (b : Bool) → same_node entry.0 node ≡ b
    → AreSome (counts_of node (entry ∷ nodes))
    → (AreSome (counts_of node nodes) → left node (entered node nodes) ≡ nodes)
    → left node (cond b ((node, entry.1 + 1) ∷ nodes) (entry ∷ entered node nodes)) ≡ entry ∷ nodes
out_there node entry nodes true is some later =
    again_there node entry nodes (subst AreSome (passed node entry nodes is) some).0 is
out_there node entry nodes false is some later =
    ap (λ (b : Bool). cond b
    (cond (nat_le entry.1 1) (entered node nodes) ((node, entry.1 - 1) ∷ entered node nodes)) (entry ∷ left node (entered node nodes))) is
    ∙ ap (λ (more : List Entry). entry ∷ more) (later (subst AreSome (aside node entry nodes is) some))

-- who comes in and goes out again leaves all as it was
out_again : (node : Node) (nodes : List Entry) → AreSome (counts_of node nodes) → left node (entered node nodes) ≡ nodes
out_again node [] some = first_there node []
out_again node (entry ∷ nodes) some =
    out_there node entry nodes (same_node entry.0 node) refl some (λ later. out_again node nodes later)

-- the phase in which these nodes stay
abbrev staying : ℕ → Agreement → List Entry → Phase
staying life agreed [] = Absent life
staying life agreed (entry ∷ nodes) = Published life agreed (entry ∷ nodes)

module _ (node life : ℕ) (agreed : Agreement) where
  -- the phase that the node left, where these stay
  abbrev left_to : List Entry → Phase
  left_to nodes = elim nodes [
    | [] ↦ Emptied life agreed (Own node)
    | entry ∷ more ↦ Published life agreed (entry ∷ more)
  ]

  removed_then : (nodes : List Entry) → removed_by (Own node) (left_to nodes) ≡ staying life agreed nodes
  removed_then [] = ap (λ (b : Bool). cond b (Absent life) (Emptied life agreed (Own node))) (node-itself (Own node))
  removed_then (entry ∷ nodes) = refl

  closed_then : (nodes : List Entry) → AreSome (counts_of (Own node) nodes)
      → closed_by node (Published life agreed (entered (Own node) nodes)) ≡ staying life agreed nodes
  closed_then nodes some =
      ap (λ (b : Bool). removed_by (Own node)
      (cond b (left_to (left (Own node) (entered (Own node) nodes))) (Published life agreed (entered (Own node) nodes))))
      (entered-in (Own node) nodes)
      ∙ ap (λ (rest : List Entry). removed_by (Own node) (left_to rest)) (out_again (Own node) nodes some)
      ∙ removed_then nodes

module _ (pattern : MessagingPattern) (name taken : List ℕ) (before : Phase) where
  stays_held : (life : ℕ) (agreed : Agreement) (nodes : List Entry) → KeepsHeld pattern name taken before (Published life agreed nodes)
      → KeepsHeld pattern name taken before (staying life agreed nodes)
  stays_held life agreed [] held = record {
    seats = held.seats;
    services = λ other opened is. absurd (never (held.services other opened is).1.0);
  }
    where
      never : false ≡ true → ⊥
      never e = cc
  stays_held life agreed (entry ∷ nodes) held = record { seats = held.seats; services = held.services }

  -- what the hub has in the phase once the node is out again
  pub closed_keeps : (node : ℕ) (phase : Phase) → AreSome (seats_in node before) → IsEntered pattern name taken before node phase
      → KeepsHeld pattern name taken before (closed_by node phase)
  closed_keeps node phase some it =
      subst (KeepsHeld pattern name taken before)
      (sym (ap (closed_by node) it.is
      ∙ closed_then node it.life it.agreed it.nodes (subst AreSome (sym (it.had.seats node)) some)))
      (stays_held it.life it.agreed it.nodes it.had)
