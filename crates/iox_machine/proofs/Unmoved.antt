-- A refused call during which no other node acts leaves agreements and nodes.
use Rattle.std.proofs.Common.{◌≡◌, ◌≤◌, ◌+◌, ◌-◌, ℕ, Bool, true, false, cond, not, ◌&&◌, ◌||◌, List, [], ◌∷◌, length, refl, sym, ap}
use Rattle.std.proofs.Common.{subst, inl, inr, arith, ◌∙◌, true≢false}
use Rattle.std.proofs.lemmas.Bool.{leb-true}
use Rattle.std.specs.List.{AllByRecursion}
use Rattle.std.specs.Prelude.{⊤, nat_le, nat_lt}
use Rattle.iox_machine.specs.Choices.{Choices}
use Rattle.iox_machine.specs.Agreement.{Agreement, are_within_limits}
use Rattle.iox_machine.specs.Asked.{settings_of}
use Rattle.iox_machine.specs.Phase.{Absent, BeingMade, Emptied, Foreign, Node, Own, Phase, Published, acted, entered, is_in}
use Rattle.iox_machine.proofs.Shorthands.{closed_by, factory_of}
use Rattle.iox_machine.specs.Phase.{left, left_by, removed_by, same_node, same_pattern, published_by, has_numbers}
use Rattle.iox_machine.specs.RefusalLaws.{IsAsBefore, RefusedCallsLeaveNodes}
use Rattle.iox_machine.specs.Run.{Runs}
use Rattle.iox_machine.specs.State.{Factory, State, new_state}
use Rattle.iox_machine.proofs.Calls.{HasRoom, IsSettled, create-settles, either-settles, open-settles}
use Rattle.iox_machine.proofs.Names.{phase-there}
use Rattle.iox_machine.proofs.Phases.{Begins, chosen-phase, each-all, phases-move}
use Rattle.iox_machine.proofs.Shares.{Full, full-entered, full-left, node-is, node-itself}
use Rattle.iox_command.specs.NegotiateBase.DescribeBase.declared.message_type.MessageTypeDetails.{MessageTypeDetails}
use Rattle.iox_command.specs.NegotiateBase.DescribeBase.declared.pattern.MessagingPattern.{MessagingPattern}
use Rattle.iox_command.specs.NegotiateBase.DescribeSettings.Agreement.{max_nodes_of}
use Rattle.iox_command.specs.Patterns.{pattern_of}
use Rattle.iox_command.specs.declared.command.Command.{Command}
use Rattle.iox_command.specs.declared.command.Command.TheVariants as command
use Rattle.iox_command.specs.declared.refusal.Refusal.{Refusal}
use Rattle.iox_command.specs.declared.reply.Reply.{Reply}
use Rattle.iox_command.specs.declared.reply.Reply.TheVariants as reply
use Rattle.iox_command.specs.declared.step.ForeignStep.{ForeignStep}
use Rattle.iox_command.specs.declared.step.ForeignStep.TheVariants as step
use Rattle.iox_command.specs.declared.step.StepBefore.{StepBefore}
use Rattle.iox_command.specs.declared.service.ServiceOptions.{ServiceOptions}

-- Some node is in a service that is published, and each that is has a factory.
abbrev pub Whole : Phase → Type 0
Whole (Published life agreed nodes) = Full nodes × (1 ≤ length nodes)
Whole other = ⊤

-- ---- a node enters and leaves again

entered-some : (node : Node) (nodes : List (Node × ℕ)) → 1 ≤ length (entered node nodes)
entered-some node [] = omega arith
entered-some node (entry ∷ more) = here (same_node entry.0 node)
  where
    here : (b : Bool) → 1 ≤ length (cond b ((node, entry.1 + 1) ∷ more) (entry ∷ entered node more))
    here true = omega arith
    here false = omega arith

entered-in : (node : Node) (nodes : List (Node × ℕ)) → is_in node (entered node nodes) ≡ true
entered-in node [] = ap (λ (b : Bool). b || false) (node-itself node)
entered-in node (entry ∷ more) = here (same_node entry.0 node) refl (entered-in node more)
  where
    here : (b : Bool) → same_node entry.0 node ≡ b → is_in node (entered node more) ≡ true
        → is_in node (cond b ((node, entry.1 + 1) ∷ more) (entry ∷ entered node more)) ≡ true
    here true is on = ap (λ (b : Bool). b || is_in node more) (node-itself node)
    here false is on = ap (λ (b : Bool). b || is_in node (entered node more)) is ∙ on

left-entered : (node : Node) (nodes : List (Node × ℕ)) → Full nodes → left node (entered node nodes) ≡ nodes
left-entered node [] full = ap (λ (b : Bool). cond b [] ((node, 1) ∷ [])) (node-itself node)
left-entered node (entry ∷ more) full = here (same_node entry.0 node) refl (left-entered node more full.1)
  where
    back : (n : ℕ) → (n + 1) - 1 ≡ n
    back n = omega arith

    over : (b : Bool) → nat_le (entry.1 + 1) 1 ≡ b → b ≡ false
    over false is = refl
    over true is = absurd (never (leb-true (entry.1 + 1) 1 is) full.0)
      where
        never : entry.1 + 1 ≤ 1 → 1 ≤ entry.1 → ⊥
        never h k = omega (arith, h, k)

    here : (b : Bool) → same_node entry.0 node ≡ b → left node (entered node more) ≡ more
        → left node (cond b ((node, entry.1 + 1) ∷ more) (entry ∷ entered node more)) ≡ entry ∷ more
    here true is on =
        ap (λ (b : Bool). cond b (cond (nat_le (entry.1 + 1) 1) more ((node, (entry.1 + 1) - 1) ∷ more))
        ((node, entry.1 + 1) ∷ left node more)) (node-itself node)
        ∙ (ap (λ (b : Bool). cond b more ((node, (entry.1 + 1) - 1) ∷ more)) (over (nat_le (entry.1 + 1) 1) refl)
        ∙ (ap (λ (k : ℕ). (node, k) ∷ more) (back entry.1) ∙ ap (λ (it : Node). (it, entry.1) ∷ more) (sym (node-is entry.0 node is))))
    here false is on =
        ap (λ (b : Bool). cond b (cond (nat_le entry.1 1) (entered node more) ((node, entry.1 - 1) ∷ entered node more))
        (entry ∷ left node (entered node more))) is
        ∙ ap (λ (rest : List (Node × ℕ)). entry ∷ rest) on

pub closed-entered : (node life : ℕ) (agreed : Agreement) (nodes : List (Node × ℕ)) → Whole (Published life agreed nodes)
    → closed_by node (Published life agreed (entered (Own node) nodes)) ≡ Published life agreed nodes
closed-entered node life agreed nodes whole =
    ap (removed_by (Own node))
    (ap (λ (b : Bool). cond b (by (left (Own node) (entered (Own node) nodes))) (Published life agreed (entered (Own node) nodes)))
    (entered-in (Own node) nodes)
    ∙ (ap by (left-entered (Own node) nodes whole.0) ∙ some nodes whole.1))
  where
    by : List (Node × ℕ) → Phase
    by others = elim others [ [] ↦ Emptied life agreed (Own node) | entry ∷ more ↦ Published life agreed (entry ∷ more) ]

    some : (others : List (Node × ℕ)) → 1 ≤ length others → by others ≡ Published life agreed others
    some [] h = absurd (never h)
      where
        never : 1 ≤ 0 → ⊥
        never h = omega (arith, h)
    some (entry ∷ more) h = refl

pub closed-made : (node life : ℕ) (agreed : Agreement) → closed_by node (Published life agreed ((Own node, 1) ∷ [])) ≡ Absent life
closed-made node life agreed =
    ap (λ (b : Bool). removed_by (Own node) (cond (b || false) (by (cond b [] ((Own node, 1) ∷ [])))
    (Published life agreed ((Own node, 1) ∷ [])))) (node-itself (Own node))
    ∙ ap (λ (b : Bool). cond b (Absent life) (Emptied life agreed (Own node))) (node-itself (Own node))
  where
    by : List (Node × ℕ) → Phase
    by others = elim others [ [] ↦ Emptied life agreed (Own node) | entry ∷ more ↦ Published life agreed (entry ∷ more) ]

-- ---- some node is in

left-whole : (node : Node) (life : ℕ) (agreed : Agreement) (others : List (Node × ℕ)) → Full others
    → Whole (elim others [ [] ↦ Emptied life agreed node | entry ∷ more ↦ Published life agreed (entry ∷ more) ])
left-whole node life agreed [] full = tt
left-whole node life agreed (entry ∷ more) full = (full, omega arith)

left-by-whole : (node : Node) (life : ℕ) (agreed : Agreement) (nodes : List (Node × ℕ)) → Whole (Published life agreed nodes)
    → Whole (left_by node (Published life agreed nodes))
left-by-whole node life agreed nodes whole =
    chosen-phase Whole (is_in node nodes)
    (elim (left node nodes) [ [] ↦ Emptied life agreed node | entry ∷ more ↦ Published life agreed (entry ∷ more) ])
    (Published life agreed nodes) (left-whole node life agreed (left node nodes) (full-left node nodes whole.0)) whole

removed-whole : (node : Node) (phase : Phase) → Whole phase → Whole (removed_by node phase)
removed-whole node (Absent lives) whole = tt
removed-whole node (BeingMade life by) whole = tt
removed-whole node (Published life agreed nodes) whole = whole
removed-whole node (Emptied life agreed by) whole = chosen-phase Whole (same_node by node) (Absent life) (Emptied life agreed by) tt tt

closed-whole : (node : ℕ) (phase : Phase) → Whole phase → Whole (closed_by node phase)
closed-whole node (Absent lives) whole = tt
closed-whole node (BeingMade life by) whole = tt
closed-whole node (Published life agreed nodes) whole =
    removed-whole (Own node) (left_by (Own node) (Published life agreed nodes)) (left-by-whole (Own node) life agreed nodes whole)
closed-whole node (Emptied life agreed by) whole = removed-whole (Own node) (Emptied life agreed by) tt

one-full : (node : Node) → Full ((node, 1) ∷ []) × (1 ≤ length {A = Node × ℕ} ((node, 1) ∷ []))
one-full node = ((omega arith, tt), omega arith)

published-whole : (types : MessageTypeDetails) (pattern : MessagingPattern) (life : ℕ) (by : Node) (node : ℕ) (named : ServiceOptions)
    → Whole (published_by types pattern life by node named)
published-whole types pattern life by node named =
    chosen-phase Whole
    (same_node by (Foreign node) && (same_pattern (pattern_of named) pattern && are_within_limits (settings_of types named)))
    (Published life (record { settings = settings_of types named; attributes = [] }) ((Foreign node, 1) ∷ [])) (BeingMade life by)
    (one-full (Foreign node)) tt

pub acted-whole : (types : MessageTypeDetails) (pattern : MessagingPattern) (phase : Phase) (one : ForeignStep) → Whole phase
    → Whole (acted types pattern phase one)
acted-whole types pattern (Absent lives) (step.Lock node) whole = tt
acted-whole types pattern (BeingMade life by) (step.GiveUp node) whole =
    chosen-phase Whole (same_node by (Foreign node)) (Absent life) (BeingMade life by) tt tt
acted-whole types pattern (BeingMade life by) (step.Publish node named) whole = published-whole types pattern life by node named
acted-whole types pattern (BeingMade life by) (step.PublishV1 node named) whole =
    chosen-phase Whole (has_numbers (settings_of types named)) (BeingMade life by) (published_by types pattern life by node named) tt
    (published-whole types pattern life by node named)
acted-whole types pattern (Published life agreed nodes) (step.Register node) whole =
    chosen-phase Whole (not (is_in (Foreign node) nodes) && nat_lt (length nodes) (max_nodes_of agreed.settings))
    (Published life agreed (entered (Foreign node) nodes)) (Published life agreed nodes)
    (full-entered (Foreign node) nodes whole.0, entered-some (Foreign node) nodes) whole
acted-whole types pattern (Published life agreed nodes) (step.Leave node) whole = left-by-whole (Foreign node) life agreed nodes whole
acted-whole types pattern (Emptied life agreed by) (step.Remove node) whole = removed-whole (Foreign node) (Emptied life agreed by) tt
acted-whole types pattern phase other whole = whole

abbrev WholeOf : MessagingPattern → List ℕ → Phase → Type 0
WholeOf pattern name phase = Whole phase

acts-whole : (types : MessageTypeDetails) (pattern : MessagingPattern) (steps : List StepBefore)
    → AllByRecursion (λ (before : StepBefore). (phase : Phase) → Whole phase → Whole (acted types pattern phase before.step)) steps
acts-whole types pattern steps =
    each-all (λ (before : StepBefore). (phase : Phase) → Whole phase → Whole (acted types pattern phase before.step))
    (λ before phase whole. acted-whole types pattern phase before.step whole) steps

begins-whole : {T : Type 0} (types : MessageTypeDetails) (asked : Command T) → Begins types WholeOf asked
begins-whole types (command.Create node name named attributes steps) =
    (acts-whole types (pattern_of named) steps, λ lives whole. one-full (Own node))
begins-whole types (command.Open node name named required steps) = acts-whole types (pattern_of named) steps
begins-whole types (command.OpenOrCreate node name named required steps) =
    (acts-whole types (pattern_of named) steps, λ lives whole. one-full (Own node))
begins-whole types (command.Foreign pattern name steps) =
    each-all (λ (one : ForeignStep). (phase : Phase) → Whole phase → Whole (acted types pattern phase one))
    (λ one phase whole. acted-whole types pattern phase one whole) steps
begins-whole types other = tt

pub runs-whole : {T : Type 0} (types : MessageTypeDetails) (choices : Choices T) (buffer : ℕ) (asked : List (Command T)) (old : State T)
    (answers : List (Reply T)) (new : State T) → Runs types choices buffer asked old answers new
    → ((pattern : MessagingPattern) (name : List ℕ) → Whole (old.phases pattern name))
    → (pattern : MessagingPattern) (name : List ℕ) → Whole (new.phases pattern name)
runs-whole types choices buffer [] old answers new run all =
    subst (λ (state : State _). (pattern : MessagingPattern) (name : List ℕ) → Whole (state.phases pattern name)) (sym run.1) all
runs-whole types choices buffer (one ∷ more) old answers new run all =
    runs-whole types choices buffer more run.1 run.2 new run.4
    (phases-move types WholeOf (λ pattern name lives whole. tt)
    (λ pattern name node life agreed nodes room whole. (full-entered node nodes whole.0, entered-some node nodes))
    (λ pattern name node phase whole. closed-whole node phase whole)
    choices buffer one old run.0 run.1 (begins-whole types one) run.3 all)

-- ---- a call

-- A phase is as before once the node left again.
abbrev IsAfter : ℕ → Phase → Phase → Type 0
IsAfter node start phase = IsAsBefore start (closed_by node phase)

none-made : (start : Phase) (lives : ℕ) → IsAsBefore start (Absent lives) → IsAsBefore start (Absent (lives + 1))
none-made start lives (inl same) = inr (lives, lives + 1, sym same, refl)
none-made start lives (inr (was, later, is, same)) = inr (was, lives + 1, is, refl)

made-ends : (node : ℕ) (start : Phase) (agreed : Agreement) (lives : ℕ) → IsAsBefore start (Absent lives)
    → IsAfter node start (Published (lives + 1) agreed ((Own node, 1) ∷ []))
made-ends node start agreed lives so =
    subst (IsAsBefore start) (sym (closed-made node (lives + 1) agreed)) (none-made start lives so)

abbrev is_absent : Phase → Bool
is_absent (Absent lives) = true
is_absent other = false

entered-ends : (node : ℕ) (start : Phase) → Whole start → (life : ℕ) (agreed : Agreement) (nodes : List (Node × ℕ))
    → HasRoom (Own node) agreed nodes → IsAsBefore start (Published life agreed nodes)
    → IsAfter node start (Published life agreed (entered (Own node) nodes))
entered-ends node start whole life agreed nodes room (inl same) =
    inl (closed-entered node life agreed nodes (subst Whole (sym same) whole) ∙ same)
entered-ends node start whole life agreed nodes room (inr (was, later, is, same)) =
    absurd (true≢false (sym (ap is_absent same)))

none-acts : (types : MessageTypeDetails) (pattern : MessagingPattern) (start : Phase) (steps : List StepBefore) → steps ≡ []
    → AllByRecursion (λ (before : StepBefore). (phase : Phase) → IsAsBefore start phase
    → IsAsBefore start (acted types pattern phase before.step)) steps
none-acts types pattern start steps none =
    subst (λ (l : List StepBefore). AllByRecursion (λ (before : StepBefore). (phase : Phase) → IsAsBefore start phase
    → IsAsBefore start (acted types pattern phase before.step)) l) (sym none) tt

module _ {T : Type 0} where
  abbrev pub tells_refused : Reply T → Bool
  tells_refused (reply.Refused why) = true
  tells_refused other = false

  settled-so : (types : MessageTypeDetails) (steps : List StepBefore) (factory : Factory) (old : State T) (why : Refusal) (new : State T)
      (acts : AllByRecursion (λ (before : StepBefore). (phase : Phase) → IsAsBefore (old.phases factory.pattern factory.name) phase
      → IsAsBefore (old.phases factory.pattern factory.name) (acted types factory.pattern phase before.step)) steps)
      (ready : IsAsBefore (old.phases factory.pattern factory.name) (old.phases factory.pattern factory.name))
      → IsSettled types steps factory (IsAsBefore (old.phases factory.pattern factory.name))
      (IsAfter factory.node (old.phases factory.pattern factory.name)) acts old (reply.Refused why) new ready
      → IsAsBefore (old.phases factory.pattern factory.name) (new.phases factory.pattern factory.name)
  settled-so types steps factory old why new acts ready (inl skipped) = absurd (true≢false (ap tells_refused skipped.0))
  settled-so types steps factory old why new acts ready (inr (inl (reason, refused))) =
      inl (ap (λ (state : State T). state.phases factory.pattern factory.name) refused.1)
  settled-so types steps factory old why new acts ready (inr (inr (inl (phase, reason, so, refused)))) =
      subst (IsAsBefore (old.phases factory.pattern factory.name))
      (sym (ap (λ (state : State T). state.phases factory.pattern factory.name) refused.1
      ∙ phase-there factory.pattern factory.name phase old)) so
  settled-so types steps factory old why new acts ready (inr (inr (inr (inl (phase, reason, so, refused))))) =
      subst (IsAsBefore (old.phases factory.pattern factory.name))
      (sym (ap (λ (state : State T). state.phases factory.pattern factory.name) refused.1
      ∙ phase-there factory.pattern factory.name (closed_by factory.node phase) old)) so
  settled-so types steps factory old why new acts ready (inr (inr (inr (inr (phase, so, told, came))))) =
      absurd (true≢false (ap tells_refused told))

  at-same : (old new : State T) (one pattern : MessagingPattern) (other name : List ℕ) → one ≡ pattern → other ≡ name
      → IsAsBefore (old.phases one other) (new.phases one other) → IsAsBefore (old.phases pattern name) (new.phases pattern name)
  at-same old new one pattern other name same is so =
      subst (λ (p : MessagingPattern). IsAsBefore (old.phases p name) (new.phases p name)) same
      (subst (λ (n : List ℕ). IsAsBefore (old.phases one n) (new.phases one n)) is so)

pub refused-calls-leave-nodes : {T : Type 0} (choices : Choices T) → RefusedCallsLeaveNodes choices
refused-calls-leave-nodes {T} choices types buffer before told old run pattern name
    (command.Create node other options attributes steps) new why (same, is, none) h =
    at-same old new (pattern_of options) pattern other name same is
    (settled-so types steps (factory_of node other options) old why new
    (none-acts types (pattern_of options) (old.phases (pattern_of options) other) steps none) (inl refl)
    (create-settles types steps (factory_of node other options) (IsAsBefore (old.phases (pattern_of options) other))
    (IsAfter node (old.phases (pattern_of options) other))
    (none-acts types (pattern_of options) (old.phases (pattern_of options) other) steps none) old (reply.Refused why) new (inl refl)
    options attributes (λ lives so. none-made (old.phases (pattern_of options) other) lives so)
    (λ lives so. made-ends node (old.phases (pattern_of options) other)
    (record { settings = settings_of types options; attributes = attributes }) lives so) h))
refused-calls-leave-nodes {T} choices types buffer before told old run pattern name
    (command.Open node other options required steps) new why (same, is, none) h =
    at-same old new (pattern_of options) pattern other name same is
    (settled-so types steps (factory_of node other options) old why new
    (none-acts types (pattern_of options) (old.phases (pattern_of options) other) steps none) (inl refl)
    (open-settles types steps (factory_of node other options) (IsAsBefore (old.phases (pattern_of options) other))
    (IsAfter node (old.phases (pattern_of options) other))
    (none-acts types (pattern_of options) (old.phases (pattern_of options) other) steps none) old (reply.Refused why) new (inl refl)
    options required
    (entered-ends node (old.phases (pattern_of options) other)
    (runs-whole types choices buffer before new_state told old run (λ one another. tt) (pattern_of options) other)) h))
refused-calls-leave-nodes {T} choices types buffer before told old run pattern name
    (command.OpenOrCreate node other options required steps) new why (same, is, none) h =
    at-same old new (pattern_of options) pattern other name same is
    (settled-so types steps (factory_of node other options) old why new
    (none-acts types (pattern_of options) (old.phases (pattern_of options) other) steps none) (inl refl)
    (either-settles types steps (factory_of node other options) (IsAsBefore (old.phases (pattern_of options) other))
    (IsAfter node (old.phases (pattern_of options) other))
    (none-acts types (pattern_of options) (old.phases (pattern_of options) other) steps none) old (reply.Refused why) new (inl refl)
    options required
    (entered-ends node (old.phases (pattern_of options) other)
    (runs-whole types choices buffer before new_state told old run (λ one another. tt) (pattern_of options) other))
    (λ lives so. none-made (old.phases (pattern_of options) other) lives so)
    (λ lives so. made-ends node (old.phases (pattern_of options) other)
    (record { settings = settings_of types options; attributes = required.pairs }) lives so) h))
refused-calls-leave-nodes {T} choices types buffer before told old run pattern name asked new why never h = absurd never
