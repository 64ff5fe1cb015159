-- No more nodes are in a service than its settings name.
use Rattle.std.proofs.Common.{◌≡◌, ◌≤◌, ◌<◌, ◌+◌, ◌-◌, ℕ, Bool, true, false, cond, not, ◌&&◌, ◌||◌, List, [], ◌∷◌, length, refl, sym}
use Rattle.std.proofs.Common.{subst, inl, inr, arith, true≢false}
use Rattle.std.proofs.lemmas.Bool.{ltb-true, or_cases}
use Rattle.std.specs.List.{AllByRecursion}
use Rattle.std.specs.Prelude.{⊤, nat_le, nat_lt}
use Rattle.iox_machine.specs.Choices.{Choices}
use Rattle.iox_machine.specs.Agreement.{Agreement, are_within_limits}
use Rattle.iox_machine.specs.AgreementLaws.{NodesAreAgreed}
use Rattle.iox_machine.specs.Asked.{settings_of}
use Rattle.iox_machine.specs.Phase.{Absent, BeingMade, Emptied, Foreign, Node, Own, Phase, Published, acted, entered, is_in}
use Rattle.iox_machine.proofs.Shorthands.{closed_by}
use Rattle.iox_machine.specs.Phase.{left, left_by, removed_by, same_node, same_pattern, published_by, has_numbers}
use Rattle.iox_machine.specs.Run.{Runs}
use Rattle.iox_machine.specs.State.{State, new_state}
use Rattle.iox_machine.proofs.Calls.{HasRoom}
use Rattle.iox_machine.proofs.Phases.{Begins, chosen-phase, each-all, phases-move}
use Rattle.iox_command.specs.NegotiateBase.DescribeBase.declared.message_type.MessageTypeDetails.{MessageTypeDetails}
use Rattle.iox_command.specs.NegotiateBase.DescribeBase.declared.pattern.MessagingPattern.{MessagingPattern}
use Rattle.iox_command.specs.NegotiateBase.DescribeSettings.Agreement.{max_nodes_of}
use Rattle.iox_command.specs.Patterns.{pattern_of}
use Rattle.iox_command.specs.declared.command.Command.{Command}
use Rattle.iox_command.specs.declared.command.Command.TheVariants as command
use Rattle.iox_command.specs.declared.reply.Reply.{Reply}
use Rattle.iox_command.specs.declared.service.ServiceOptions.{ServiceOptions}
use Rattle.iox_command.specs.declared.service.ServiceOptions.TheVariants as options
use Rattle.iox_command.specs.declared.step.ForeignStep.{ForeignStep}
use Rattle.iox_command.specs.declared.step.ForeignStep.TheVariants as step
use Rattle.iox_command.specs.declared.step.StepBefore.{StepBefore}

-- No more nodes are in than may be.
abbrev Few : Phase → Type 0
Few (Absent lives) = ⊤
Few (BeingMade life by) = ⊤
Few (Published life agreed nodes) = length nodes ≤ max_nodes_of agreed.settings
Few (Emptied life agreed by) = ⊤

-- whatever is asked for, one node may be in
one-may : (types : MessageTypeDetails) (named : ServiceOptions) → 1 ≤ max_nodes_of (settings_of types named)
one-may types (options.PublishSubscribe named) = omega arith
one-may types (options.Event named) = omega arith
one-may types (options.RequestResponse named) = omega arith

entered-in : (node : Node) (nodes : List (Node × ℕ)) → is_in node nodes ≡ true → length (entered node nodes) ≡ length nodes
entered-in node [] is = absurd (true≢false (sym is))
entered-in node (entry ∷ more) is = here (same_node entry.0 node) is (entered-in node more)
  where
    next : (x y : ℕ) → x ≡ y → 1 + x ≡ 1 + y
    next x y h = omega (arith, h)

    here : (b : Bool) → (b || is_in node more) ≡ true → (is_in node more ≡ true → length (entered node more) ≡ length more)
        → length (cond b ((node, entry.1 + 1) ∷ more) (entry ∷ entered node more)) ≡ length (entry ∷ more)
    here true is on = omega arith
    here false is on = omega (arith, on is)

entered-one : (node : Node) (nodes : List (Node × ℕ)) → length (entered node nodes) ≤ length nodes + 1
entered-one node [] = omega arith
entered-one node (entry ∷ more) = here (same_node entry.0 node) (entered-one node more)
  where
    here : (b : Bool) → length (entered node more) ≤ length more + 1
        → length (cond b ((node, entry.1 + 1) ∷ more) (entry ∷ entered node more)) ≤ length (entry ∷ more) + 1
    here true on = omega arith
    here false on = omega (arith, on)

left-fewer : (node : Node) (nodes : List (Node × ℕ)) → length (left node nodes) ≤ length nodes
left-fewer node [] = omega arith
left-fewer node (entry ∷ more) = here (same_node entry.0 node) (nat_le entry.1 1) (left-fewer node more)
  where
    here : (b c : Bool) → length (left node more) ≤ length more
        → length (cond b (cond c more ((node, entry.1 - 1) ∷ more)) (entry ∷ left node more)) ≤ length (entry ∷ more)
    here true true on = omega arith
    here true false on = omega arith
    here false c on = omega (arith, on)

entered-few : (node : Node) (agreed : Agreement) (nodes : List (Node × ℕ)) → HasRoom node agreed nodes
    → length nodes ≤ max_nodes_of agreed.settings → length (entered node nodes) ≤ max_nodes_of agreed.settings
entered-few node agreed nodes room few =
    elim (or_cases (is_in node nodes) (nat_lt (length nodes) (max_nodes_of agreed.settings)) room) [
      | inl is ↦ subst (λ (n : ℕ). n ≤ max_nodes_of agreed.settings) (sym (entered-in node nodes is)) few
      | inr less ↦ within (length (entered node nodes)) (length nodes) (max_nodes_of agreed.settings) (entered-one node nodes)
          (ltb-true (length nodes) (max_nodes_of agreed.settings) less)
    ]
  where
    within : (x y z : ℕ) → x ≤ y + 1 → y < z → x ≤ z
    within x y z h k = omega (arith, h, k)

left-few : (life : ℕ) (agreed : Agreement) (node : Node) (others : List (Node × ℕ)) → length others ≤ max_nodes_of agreed.settings
    → Few (elim others [ [] ↦ Emptied life agreed node | entry ∷ more ↦ Published life agreed (entry ∷ more) ])
left-few life agreed node [] few = tt
left-few life agreed node (entry ∷ more) few = few

left-by-few : (node : Node) (phase : Phase) → Few phase → Few (left_by node phase)
left-by-few node (Absent lives) few = tt
left-by-few node (BeingMade life by) few = tt
left-by-few node (Published life agreed nodes) few =
    chosen-phase Few (is_in node nodes)
    (elim (left node nodes) [ [] ↦ Emptied life agreed node | entry ∷ more ↦ Published life agreed (entry ∷ more) ])
    (Published life agreed nodes)
    (left-few life agreed node (left node nodes)
    (within (length (left node nodes)) (length nodes) (max_nodes_of agreed.settings) (left-fewer node nodes) few)) few
  where
    within : (x y z : ℕ) → x ≤ y → y ≤ z → x ≤ z
    within x y z h k = omega (arith, h, k)
left-by-few node (Emptied life agreed by) few = tt

removed-few : (node : Node) (phase : Phase) → Few phase → Few (removed_by node phase)
removed-few node (Absent lives) few = tt
removed-few node (BeingMade life by) few = tt
removed-few node (Published life agreed nodes) few = few
removed-few node (Emptied life agreed by) few =
    chosen-phase Few (same_node by node) (Absent life) (Emptied life agreed by) tt tt

closed-few : (node : ℕ) (phase : Phase) → Few phase → Few (closed_by node phase)
closed-few node phase few = removed-few (Own node) (left_by (Own node) phase) (left-by-few (Own node) phase few)

published-few : (types : MessageTypeDetails) (pattern : MessagingPattern) (life : ℕ) (by : Node) (node : ℕ) (named : ServiceOptions)
    → Few (published_by types pattern life by node named)
published-few types pattern life by node named =
    chosen-phase Few
    (same_node by (Foreign node) && (same_pattern (pattern_of named) pattern && are_within_limits (settings_of types named)))
    (Published life (record { settings = settings_of types named; attributes = [] }) ((Foreign node, 1) ∷ [])) (BeingMade life by)
    (one-may types named) tt

acted-few : (types : MessageTypeDetails) (pattern : MessagingPattern) (phase : Phase) (one : ForeignStep) → Few phase
    → Few (acted types pattern phase one)
acted-few types pattern (Absent lives) (step.Lock node) few = tt
acted-few types pattern (BeingMade life by) (step.GiveUp node) few =
    chosen-phase Few (same_node by (Foreign node)) (Absent life) (BeingMade life by) tt tt
acted-few types pattern (BeingMade life by) (step.Publish node named) few = published-few types pattern life by node named
acted-few types pattern (BeingMade life by) (step.PublishV1 node named) few =
    chosen-phase Few (has_numbers (settings_of types named)) (BeingMade life by) (published_by types pattern life by node named) tt
    (published-few types pattern life by node named)
acted-few types pattern (Published life agreed nodes) (step.Register node) few =
    here (not (is_in (Foreign node) nodes)) (nat_lt (length nodes) (max_nodes_of agreed.settings)) refl
  where
    here : (b c : Bool) → nat_lt (length nodes) (max_nodes_of agreed.settings) ≡ c
        → Few (cond (b && c) (Published life agreed (entered (Foreign node) nodes)) (Published life agreed nodes))
    here true true less = entered-few (Foreign node) agreed nodes (room (is_in (Foreign node) nodes)) few
      where
        room : (b : Bool) → (b || nat_lt (length nodes) (max_nodes_of agreed.settings)) ≡ true
        room true = refl
        room false = less
    here true false less = few
    here false c less = few
acted-few types pattern (Published life agreed nodes) (step.Leave node) few = left-by-few (Foreign node) (Published life agreed nodes) few
acted-few types pattern (Emptied life agreed by) (step.Remove node) few = removed-few (Foreign node) (Emptied life agreed by) few
acted-few types pattern phase other few = few

-- ---- a run

-- what holds of each phase, be it of whichever pattern and name
abbrev FewOf : MessagingPattern → List ℕ → Phase → Type 0
FewOf pattern name phase = Few phase

acts-few : (types : MessageTypeDetails) (pattern : MessagingPattern) (steps : List StepBefore)
    → AllByRecursion (λ (before : StepBefore). (phase : Phase) → Few phase → Few (acted types pattern phase before.step)) steps
acts-few types pattern steps =
    each-all (λ (before : StepBefore). (phase : Phase) → Few phase → Few (acted types pattern phase before.step))
    (λ before phase few. acted-few types pattern phase before.step few) steps

begins-few : {T : Type 0} (types : MessageTypeDetails) (asked : Command T) → Begins types FewOf asked
begins-few types (command.Create node name named attributes steps) =
    (acts-few types (pattern_of named) steps, λ lives few. one-may types named)
begins-few types (command.Open node name named required steps) = acts-few types (pattern_of named) steps
begins-few types (command.OpenOrCreate node name named required steps) =
    (acts-few types (pattern_of named) steps, λ lives few. one-may types named)
begins-few types (command.Foreign pattern name steps) =
    each-all (λ (one : ForeignStep). (phase : Phase) → Few phase → Few (acted types pattern phase one))
    (λ one phase few. acted-few types pattern phase one few) steps
begins-few types other = tt

runs-few : {T : Type 0} (types : MessageTypeDetails) (choices : Choices T) (buffer : ℕ) (asked : List (Command T)) (old : State T)
    (answers : List (Reply T)) (new : State T) → Runs types choices buffer asked old answers new
    → ((pattern : MessagingPattern) (name : List ℕ) → Few (old.phases pattern name))
    → (pattern : MessagingPattern) (name : List ℕ) → Few (new.phases pattern name)
runs-few types choices buffer [] old answers new run all =
    subst (λ (state : State _). (pattern : MessagingPattern) (name : List ℕ) → Few (state.phases pattern name)) (sym run.1) all
runs-few types choices buffer (one ∷ more) old answers new run all =
    runs-few types choices buffer more run.1 run.2 new run.4
    (phases-move types FewOf (λ pattern name lives few. tt)
    (λ pattern name node life agreed nodes room few. entered-few node agreed nodes room few)
    (λ pattern name node phase few. closed-few node phase few)
    choices buffer one old run.0 run.1 (begins-few types one) run.3 all)

pub nodes-are-agreed : {T : Type 0} (choices : Choices T) → NodesAreAgreed choices
nodes-are-agreed {T} choices types buffer asked answers new run pattern name life agreed nodes is =
    subst Few is (runs-few types choices buffer asked new_state answers new run (λ one other. tt) pattern name)
