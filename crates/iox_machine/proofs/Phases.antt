-- How the phase of a pattern and name moves: in one life what is agreed on stays, and whoever makes a life describes it.
use Rattle.std.proofs.Common.{◌≡◌, ◌⊎◌, ◌≤◌, ◌<◌, ◌+◌, ℕ, Bool, true, false, cond, not, ◌&&◌, List, [], ◌∷◌, length, take, Option, None}
use Rattle.std.proofs.Common.{Some, refl, sym, ap, subst, inl, inr, arith, ◌∙◌, true≢false}
use Rattle.std.specs.List.{AllByRecursion}
use Rattle.std.specs.Prelude.{⊤, nat_lt, fold}
use Rattle.iox_machine.specs.Choices.{Choices}
use Rattle.iox_machine.specs.Agreement.{Agreement, are_within_limits}
use Rattle.iox_machine.specs.AgreementLaws.{life_of, agreed_in, HasOne, IsPublishedBy, Describes, AgreementStays, AgreementIsDescribed}
use Rattle.iox_machine.specs.AgreementLaws.{CreatesAsDescribed}
use Rattle.iox_machine.specs.Asked.{settings_of}
use Rattle.iox_machine.specs.Phase.{Node, Own, Foreign, Phase, Absent, BeingMade, Published, Emptied, same_pattern, same_node, is_in}
use Rattle.iox_machine.specs.Phase.{entered, left, left_by, removed_by, acted, published_by, has_numbers}
use Rattle.iox_machine.proofs.Shorthands.{closed_by, factory_of}
use Rattle.iox_machine.specs.Run.{Step, Runs}
use Rattle.iox_machine.specs.State.{State, Factory}
use Rattle.iox_machine.proofs.Calls.{HasRoom, IsSettled, create-settles, open-settles, either-settles, fold-all}
use Rattle.iox_machine.proofs.Cases.{same-some, never-some, both-true}
use Rattle.iox_machine.proofs.Lists.{all-weaker, all-taken}
use Rattle.iox_machine.proofs.Moving.{IsClosed, closed}
use Rattle.iox_machine.proofs.Names.{pattern-is, phase-there, phases-all}
use Rattle.iox_machine.proofs.Ported.{IsBeside, ports-move}
use Rattle.iox_command.specs.NegotiateBase.DescribeBase.declared.attribute.Attribute.{Attribute}
use Rattle.iox_command.specs.NegotiateBase.DescribeBase.declared.message_type.MessageTypeDetails.{MessageTypeDetails}
use Rattle.iox_command.specs.NegotiateBase.DescribeBase.declared.pattern.MessagingPattern.{MessagingPattern}
use Rattle.iox_command.specs.NegotiateBase.DescribeSettings.Agreement.{max_nodes_of}
use Rattle.iox_command.specs.Patterns.{pattern_of}
use Rattle.iox_command.specs.declared.command.Command.{Command}
use Rattle.iox_command.specs.declared.command.Command.TheVariants as command
use Rattle.iox_command.specs.declared.reply.Reply.{Reply}
use Rattle.iox_command.specs.declared.reply.Reply.TheVariants as reply
use Rattle.iox_command.specs.declared.service.ServiceOptions.{ServiceOptions}
use Rattle.iox_command.specs.declared.step.ForeignStep.{ForeignStep}
use Rattle.iox_command.specs.declared.step.ForeignStep.TheVariants as step
use Rattle.iox_command.specs.declared.step.StepBefore.{StepBefore}

module _ (types : MessageTypeDetails) (R : MessagingPattern → List ℕ → Phase → Type 0) where
  -- What holds of phases holds after the steps of nodes outside the hub.
  abbrev pub ActsBefore : MessagingPattern → List ℕ → List StepBefore → Type 0
  ActsBefore pattern name steps =
      AllByRecursion (λ (before : StepBefore). (phase : Phase) → R pattern name phase → R pattern name
      (acted types pattern phase before.step)) steps

  abbrev pub Wins : MessagingPattern → List ℕ → ℕ → Agreement → Type 0
  Wins pattern name node agreed =
      (lives : ℕ) → R pattern name (Absent lives) → R pattern name (Published (lives + 1) agreed ((Own node, 1) ∷ []))

  -- What a command may do to a phase.
  abbrev pub Begins : {T : Type 0} → Command T → Type 0
  Begins (command.Create node name options attributes steps) =
      ActsBefore (pattern_of options) name steps
      × Wins (pattern_of options) name node (record { settings = settings_of types options; attributes = attributes })
  Begins (command.Open node name options required steps) = ActsBefore (pattern_of options) name steps
  Begins (command.OpenOrCreate node name options required steps) =
      ActsBefore (pattern_of options) name steps
      × Wins (pattern_of options) name node (record { settings = settings_of types options; attributes = required.pairs })
  Begins (command.Foreign pattern name steps) =
      AllByRecursion (λ (step : ForeignStep). (phase : Phase) → R pattern name phase → R pattern name
      (acted types pattern phase step)) steps
  Begins other = ⊤

  module _ (lost : (pattern : MessagingPattern) (name : List ℕ) (lives : ℕ) → R pattern name (Absent lives)
      → R pattern name (Absent (lives + 1)))
      (comes : (pattern : MessagingPattern) (name : List ℕ) (node : Node) (life : ℕ) (agreed : Agreement) (nodes : List (Node × ℕ))
      → HasRoom node agreed nodes → R pattern name (Published life agreed nodes)
      → R pattern name (Published life agreed (entered node nodes)))
      (goes : (pattern : MessagingPattern) (name : List ℕ) (node : ℕ) (phase : Phase) → R pattern name phase
      → R pattern name (closed_by node phase)) where
    abbrev AllPhases : {T : Type 0} → State T → Type 0
    AllPhases state = (pattern : MessagingPattern) (name : List ℕ) → R pattern name (state.phases pattern name)

    module _ {T : Type 0} (choices : Choices T) (buffer : ℕ) where
      settled : (steps : List StepBefore) (factory : Factory)
          (acts : ActsBefore factory.pattern factory.name steps) (old : State T) (answer : Reply T) (new : State T) (all : AllPhases old)
          → IsSettled types steps factory (R factory.pattern factory.name) (R factory.pattern factory.name) acts old answer new
          (all factory.pattern factory.name)
          → AllPhases new
      settled steps factory acts old answer new all (inl skipped) = subst (λ (it : State T). AllPhases it) (sym skipped.1) all
      settled steps factory acts old answer new all (inr (inl (why, refused))) =
          subst (λ (it : State T). AllPhases it) (sym refused.1) all
      settled steps factory acts old answer new all (inr (inr (inl (phase, why, so, refused)))) =
          subst (λ (it : State T). AllPhases it) (sym refused.1) (phases-all R factory.pattern factory.name phase old all so)
      settled steps factory acts old answer new all (inr (inr (inr (inl (phase, why, so, refused))))) =
          subst (λ (it : State T). AllPhases it) (sym refused.1)
          (phases-all R factory.pattern factory.name (closed_by factory.node phase) old all
          (goes factory.pattern factory.name factory.node phase so))
      settled steps factory acts old answer new all (inr (inr (inr (inr (phase, so, told, came))))) =
          subst (λ (it : State T). AllPhases it) (sym came) (phases-all R factory.pattern factory.name phase old all so)

      beside : (asked : Command T) (old : State T) (answer : Reply T) (new : State T) → AllPhases old → IsBeside asked old answer new
          → AllPhases new
      beside asked old answer new all (inl skipped) = subst (λ (it : State T). AllPhases it) (sym skipped.1) all
      beside asked old answer new all (inr (has, service, after, first, kept, off, came)) = subst (λ (it : State T). AllPhases it)
          (sym came) all

      closing : (number : ℕ) (old : State T) (answer : Reply T) (new : State T) → AllPhases old → IsClosed number old answer new
          → AllPhases new
      closing number old answer new all (inl skipped) = subst (λ (it : State T). AllPhases it) (sym skipped.1) all
      closing number old answer new all (inr (inl refused)) = subst (λ (it : State T). AllPhases it) (sym refused.1) all
      closing number old answer new all (inr (inr (factory, found, unused, told, came))) =
          subst (λ (it : State T). AllPhases it) (sym came)
          (phases-all R factory.pattern factory.name (closed_by factory.node (old.phases factory.pattern factory.name)) old all
          (goes factory.pattern factory.name factory.node (old.phases factory.pattern factory.name)
          (all factory.pattern factory.name)))

      pub phases-move : (asked : Command T) (old : State T) (answer : Reply T) (new : State T) → Begins asked
          → Step types choices buffer asked old answer new → AllPhases old → AllPhases new
      phases-move command.Node old answer new begins (inl (told, came)) all = subst (λ (it : State T). AllPhases it) (sym came) all
      phases-move command.Node old answer new begins (inr refused) all = subst (λ (it : State T). AllPhases it) (sym refused.1) all
      phases-move (command.Create node name options attributes steps) old answer new begins h all =
          settled steps (factory_of node name options) begins.0 old answer new all
          (create-settles types steps (factory_of node name options) (R (pattern_of options) name) (R (pattern_of options) name) begins.0
          old answer new (all (pattern_of options) name) options attributes (lost (pattern_of options) name) begins.1 h)
      phases-move (command.Open node name options required steps) old answer new begins h all =
          settled steps (factory_of node name options) begins old answer new all
          (open-settles types steps (factory_of node name options) (R (pattern_of options) name) (R (pattern_of options) name) begins
          old answer new (all (pattern_of options) name) options required (comes (pattern_of options) name (Own node)) h)
      phases-move (command.OpenOrCreate node name options required steps) old answer new begins h all =
          settled steps (factory_of node name options) begins.0 old answer new all
          (either-settles types steps (factory_of node name options) (R (pattern_of options) name) (R (pattern_of options) name) begins.0
          old answer new (all (pattern_of options) name) options required (comes (pattern_of options) name (Own node))
          (lost (pattern_of options) name) begins.1 h)
      phases-move (command.Foreign pattern name steps) old answer new begins (inl (told, came)) all =
          subst (λ (it : State T). AllPhases it) (sym came)
          (phases-all R pattern name (fold (acted types pattern) (old.phases pattern name) steps) old all
          (fold-all (R pattern name) (acted types pattern) steps begins (old.phases pattern name) (all pattern name)))
      phases-move (command.Foreign pattern name steps) old answer new begins (inr (done, few, refused)) all =
          subst (λ (it : State T). AllPhases it) (sym refused.1)
          (phases-all R pattern name (fold (acted types pattern) (old.phases pattern name) (take done steps)) old all
          (fold-all (R pattern name) (acted types pattern) (take done steps)
          (all-taken (λ (step : ForeignStep). (phase : Phase) → R pattern name phase → R pattern name (acted types pattern phase step)) done
          steps begins) (old.phases pattern name) (all pattern name)))
      phases-move (command.Close factory) old answer new begins h all =
          closing factory old answer new all (closed factory old answer new h)
      phases-move asked old answer new begins h all =
          beside asked old answer new all (ports-move types choices buffer asked old answer new refl h)

pub each-all : {X : Type 0} (P : X → Type 0) → ((x : X) → P x) → (xs : List X) → AllByRecursion P xs
each-all P on [] = tt
each-all P on (x ∷ xs) = (on x, each-all P on xs)

-- ---- lives

-- What was agreed on in the life of a phase is what may be so in that life.
abbrev pub Same : Option Agreement → Phase → Type 0
Same None phase = ⊤
Same (Some one) (Absent lives) = ⊤
Same (Some one) (BeingMade life by) = ⊥
Same (Some one) (Published life agreed nodes) = agreed ≡ one
Same (Some one) (Emptied life agreed by) = agreed ≡ one

abbrev pub Since : Phase → Phase → Type 0
Since from phase = (life_of from < life_of phase) ⊎ ((life_of phase ≡ life_of from) × Same (agreed_in from) phase)

pub since-itself : (phase : Phase) → Since phase phase
since-itself (Absent lives) = inr (refl, tt)
since-itself (BeingMade life by) = inr (refl, tt)
since-itself (Published life agreed nodes) = inr (refl, refl)
since-itself (Emptied life agreed by) = inr (refl, refl)

-- a phase of the same life
turned : (from one other : Phase) → life_of other ≡ life_of one → ((o : Option Agreement) → Same o one → Same o other) → Since from one
    → Since from other
turned from one other life on (inl above) = inl (subst (λ (n : ℕ). life_of from < n) (sym life) above)
turned from one other life on (inr (same, so)) = inr (life ∙ same, on (agreed_in from) so)

-- a phase of the next life
risen : (from one other : Phase) → life_of other ≡ life_of one + 1 → Since from one → Since from other
risen from one other life (inl above) = inl (subst (λ (n : ℕ). life_of from < n) (sym life) (omega (arith, above)))
risen from one other life (inr (same, so)) = inl (subst (λ (n : ℕ). life_of from < n) (sym life) (omega (arith, same)))

-- nothing was agreed on in the life of a phase that is being made
unmade : (from : Phase) (life : ℕ) (by : Node) (other : Phase) → life_of other ≡ life → Since from (BeingMade life by) → Since from other
unmade from life by other is since = turned from (BeingMade life by) other is on since
  where
    on : (o : Option Agreement) → Same o (BeingMade life by) → Same o other
    on None so = tt
    on (Some one) so = absurd so

pub chosen-phase : (P : Phase → Type 0) (b : Bool) (one other : Phase) → P one → P other → P (cond b one other)
chosen-phase P true one other p q = p
chosen-phase P false one other p q = q

-- the phase of a service that a node left, by who is left then
left-phase : (P : Phase → Type 0) (life : ℕ) (agreed : Agreement) (node : Node) (nodes : List (Node × ℕ)) → P (Emptied life agreed node)
    → ((others : List (Node × ℕ)) → P (Published life agreed others))
    → P (elim nodes [ [] ↦ Emptied life agreed node | entry ∷ more ↦ Published life agreed (entry ∷ more) ])
left-phase P life agreed node [] emptied published = emptied
left-phase P life agreed node (entry ∷ more) emptied published = published (entry ∷ more)

pub left-by-phase : (P : Phase → Type 0) (life : ℕ) (agreed : Agreement) (node : Node) (nodes : List (Node × ℕ)) → P
    (Emptied life agreed node)
    → ((others : List (Node × ℕ)) → P (Published life agreed others)) → P (left_by node (Published life agreed nodes))
left-by-phase P life agreed node nodes emptied published =
    chosen-phase P (is_in node nodes)
    (elim (left node nodes) [ [] ↦ Emptied life agreed node | entry ∷ more ↦ Published life agreed (entry ∷ more) ])
    (Published life agreed nodes) (left-phase P life agreed node (left node nodes) emptied published) (published nodes)

-- A phase is of the same life, and nothing else is agreed on there.
abbrev Stays : Phase → Phase → Type 0
Stays one other = (life_of other ≡ life_of one) × ((o : Option Agreement) → Same o one → Same o other)

stays-itself : (phase : Phase) → Stays phase phase
stays-itself phase = (refl, λ o so. so)

published-stays : (life : ℕ) (agreed : Agreement) (nodes others : List (Node × ℕ))
    → Stays (Published life agreed nodes) (Published life agreed others)
published-stays life agreed nodes others = (refl, on)
  where
    on : (o : Option Agreement) → Same o (Published life agreed nodes) → Same o (Published life agreed others)
    on None so = tt
    on (Some one) so = so

emptied-stays : (life : ℕ) (agreed : Agreement) (nodes : List (Node × ℕ)) (by : Node)
    → Stays (Published life agreed nodes) (Emptied life agreed by)
emptied-stays life agreed nodes by = (refl, on)
  where
    on : (o : Option Agreement) → Same o (Published life agreed nodes) → Same o (Emptied life agreed by)
    on None so = tt
    on (Some one) so = so

absent-stays : (life : ℕ) (agreed : Agreement) (by : Node) → Stays (Emptied life agreed by) (Absent life)
absent-stays life agreed by = (refl, on)
  where
    on : (o : Option Agreement) → Same o (Emptied life agreed by) → Same o (Absent life)
    on None so = tt
    on (Some one) so = tt

stays-on : (one two three : Phase) → Stays one two → Stays two three → Stays one three
stays-on one two three s t = (t.0 ∙ s.0, λ o so. t.1 o (s.1 o so))

leaving-stays : (node : Node) (life : ℕ) (agreed : Agreement) (nodes : List (Node × ℕ))
    → Stays (Published life agreed nodes) (left_by node (Published life agreed nodes))
leaving-stays node life agreed nodes =
    left-by-phase (λ phase. Stays (Published life agreed nodes) phase) life agreed node nodes
    (emptied-stays life agreed nodes node) (λ others. published-stays life agreed nodes others)

removing-stays : (node : Node) (phase : Phase) → Stays phase (removed_by node phase)
removing-stays node (Absent lives) = stays-itself (Absent lives)
removing-stays node (BeingMade life by) = stays-itself (BeingMade life by)
removing-stays node (Published life agreed nodes) = stays-itself (Published life agreed nodes)
removing-stays node (Emptied life agreed by) =
    chosen-phase (λ phase. Stays (Emptied life agreed by) phase) (same_node by node) (Absent life) (Emptied life agreed by)
    (absent-stays life agreed by) (stays-itself (Emptied life agreed by))

left-stays : (node : Node) (phase : Phase) → Stays phase (left_by node phase)
left-stays node (Absent lives) = stays-itself (Absent lives)
left-stays node (BeingMade life by) = stays-itself (BeingMade life by)
left-stays node (Published life agreed nodes) = leaving-stays node life agreed nodes
left-stays node (Emptied life agreed by) = stays-itself (Emptied life agreed by)

closing-stays : (node : ℕ) (phase : Phase) → Stays phase (closed_by node phase)
closing-stays node phase = stays-on phase (left_by (Own node) phase) (closed_by node phase) (left-stays (Own node) phase)
    (removing-stays (Own node) (left_by (Own node) phase))

since-published : (types : MessageTypeDetails) (pattern : MessagingPattern) (from : Phase) (life : ℕ) (by : Node) (node : ℕ)
    (options : ServiceOptions)
    → Since from (BeingMade life by) → Since from (published_by types pattern life by node options)
since-published types pattern from life by node options since =
    chosen-phase (Since from)
    (same_node by (Foreign node) && (same_pattern (pattern_of options) pattern && are_within_limits (settings_of types options)))
    (Published life (record { settings = settings_of types options; attributes = [] }) ((Foreign node, 1) ∷ [])) (BeingMade life by)
    (unmade from life by (Published life (record { settings = settings_of types options; attributes = [] }) ((Foreign node, 1) ∷ [])) refl
    since) since

pub since-acted : (types : MessageTypeDetails) (pattern : MessagingPattern) (from phase : Phase) (one : ForeignStep) → Since from phase
    → Since from (acted types pattern phase one)
since-acted types pattern from (Absent lives) (step.Lock node) since =
    risen from (Absent lives) (BeingMade (lives + 1) (Foreign node)) refl since
since-acted types pattern from (BeingMade life by) (step.GiveUp node) since =
    chosen-phase (Since from) (same_node by (Foreign node)) (Absent life) (BeingMade life by) (unmade from life by (Absent life) refl since)
    since
since-acted types pattern from (BeingMade life by) (step.Publish node options) since =
    since-published types pattern from life by node options since
since-acted types pattern from (BeingMade life by) (step.PublishV1 node options) since =
    chosen-phase (Since from) (has_numbers (settings_of types options)) (BeingMade life by)
    (published_by types pattern life by node options) since (since-published types pattern from life by node options since)
since-acted types pattern from (Published life agreed nodes) (step.Register node) since =
    chosen-phase (Since from) (not (is_in (Foreign node) nodes) && nat_lt (length nodes) (max_nodes_of agreed.settings))
    (Published life agreed (entered (Foreign node) nodes)) (Published life agreed nodes)
    (turned from (Published life agreed nodes) (Published life agreed (entered (Foreign node) nodes)) refl
    (published-stays life agreed nodes (entered (Foreign node) nodes)).1 since) since
since-acted types pattern from (Published life agreed nodes) (step.Leave node) since =
    let so : Stays (Published life agreed nodes) (left_by (Foreign node) (Published life agreed nodes)) =
    leaving-stays (Foreign node) life agreed nodes in
    turned from (Published life agreed nodes) (left_by (Foreign node) (Published life agreed nodes)) so.0 so.1 since
since-acted types pattern from (Emptied life agreed by) (step.Remove node) since =
    let so : Stays (Emptied life agreed by) (removed_by (Foreign node) (Emptied life agreed by)) =
    removing-stays (Foreign node) (Emptied life agreed by) in
    turned from (Emptied life agreed by) (removed_by (Foreign node) (Emptied life agreed by)) so.0 so.1 since
since-acted types pattern from phase other since = since

since-lost : (from : Phase) (lives : ℕ) → Since from (Absent lives) → Since from (Absent (lives + 1))
since-lost from lives since = risen from (Absent lives) (Absent (lives + 1)) refl since

since-closed : (from : Phase) (node : ℕ) (phase : Phase) → Since from phase → Since from (closed_by node phase)
since-closed from node phase since =
    let so : Stays phase (closed_by node phase) = closing-stays node phase in turned from phase (closed_by node phase) so.0 so.1 since

since-come : (from : Phase) (node : Node) (life : ℕ) (agreed : Agreement) (nodes : List (Node × ℕ))
    → Since from (Published life agreed nodes) → Since from (Published life agreed (entered node nodes))
since-come from node life agreed nodes since =
    turned from (Published life agreed nodes) (Published life agreed (entered node nodes)) refl
    (published-stays life agreed nodes (entered node nodes)).1 since

module _ {T : Type 0} (types : MessageTypeDetails) (choices : Choices T) (buffer : ℕ) (start : State T) where
  -- what a phase is since a moment of the run
  abbrev SinceStart : MessagingPattern → List ℕ → Phase → Type 0
  SinceStart pattern name phase = Since (start.phases pattern name) phase

  acts-since : (pattern : MessagingPattern) (name : List ℕ) (steps : List StepBefore)
      → AllByRecursion (λ (before : StepBefore). (phase : Phase) → SinceStart pattern name phase
      → SinceStart pattern name (acted types pattern phase before.step)) steps
  acts-since pattern name steps =
      each-all (λ (before : StepBefore). (phase : Phase) → SinceStart pattern name phase
      → SinceStart pattern name (acted types pattern phase before.step))
      (λ before phase since. since-acted types pattern (start.phases pattern name) phase before.step since) steps

  wins-since : (pattern : MessagingPattern) (name : List ℕ) (node : ℕ) (agreed : Agreement) (lives : ℕ)
      → SinceStart pattern name (Absent lives) → SinceStart pattern name (Published (lives + 1) agreed ((Own node, 1) ∷ []))
  wins-since pattern name node agreed lives since =
      risen (start.phases pattern name) (Absent lives) (Published (lives + 1) agreed ((Own node, 1) ∷ [])) refl since

  begins-since : (asked : Command T) → Begins types SinceStart asked
  begins-since (command.Create node name options attributes steps) = (
    acts-since (pattern_of options) name steps,
    wins-since (pattern_of options) name node (record { settings = settings_of types options; attributes = attributes }),
  )
  begins-since (command.Open node name options required steps) = acts-since (pattern_of options) name steps
  begins-since (command.OpenOrCreate node name options required steps) = (
    acts-since (pattern_of options) name steps,
    wins-since (pattern_of options) name node (record { settings = settings_of types options; attributes = required.pairs }),
  )
  begins-since (command.Foreign pattern name steps) =
      each-all (λ (one : ForeignStep). (phase : Phase) → SinceStart pattern name phase
      → SinceStart pattern name (acted types pattern phase one))
      (λ one phase since. since-acted types pattern (start.phases pattern name) phase one since) steps
  begins-since other = tt

  runs-since : (asked : List (Command T)) (old : State T) (answers : List (Reply T)) (new : State T)
      → Runs types choices buffer asked old answers new
      → ((pattern : MessagingPattern) (name : List ℕ) → SinceStart pattern name (old.phases pattern name))
      → (pattern : MessagingPattern) (name : List ℕ) → SinceStart pattern name (new.phases pattern name)
  runs-since [] old answers new run all =
      subst (λ (state : State T). (pattern : MessagingPattern) (name : List ℕ) → SinceStart pattern name (state.phases pattern name))
      (sym run.1) all
  runs-since (one ∷ more) old answers new run all =
      runs-since more run.1 run.2 new run.4
      (phases-move types SinceStart
      (λ pattern name lives since. since-lost (start.phases pattern name) lives since)
      (λ pattern name node life agreed nodes room since. since-come (start.phases pattern name) node life agreed nodes since)
      (λ pattern name node phase since. since-closed (start.phases pattern name) node phase since)
      choices buffer one old run.0 run.1 (begins-since one) run.3 all)

pub stays-told : (from phase : Phase) → Since from phase → (life_of from ≤ life_of phase)
    × ((one other : Agreement) → life_of phase ≡ life_of from → agreed_in from ≡ Some one → agreed_in phase ≡ Some other → other ≡ one)
stays-told from phase (inl above) = (omega (arith, above), λ one other life is was. absurd (never life))
  where
    never : life_of phase ≡ life_of from → ⊥
    never life = omega (arith, above, life)
stays-told from phase (inr (life, so)) =
    (omega (arith, life), λ one other same is was. agree phase one other (subst (λ (o : Option Agreement). Same o phase) is so) was)
  where
    agree : (now : Phase) (one other : Agreement) → Same (Some one) now → agreed_in now ≡ Some other → other ≡ one
    agree (Absent lives) one other same was = never-some other was
    agree (BeingMade now by) one other same was = never-some other was
    agree (Published now agreed nodes) one other same was = sym (same-some agreed other was) ∙ same
    agree (Emptied now agreed by) one other same was = sym (same-some agreed other was) ∙ same

pub agreement-stays : {T : Type 0} (choices : Choices T) → AgreementStays choices
agreement-stays choices types buffer asked old answers new run pattern name =
    stays-told (old.phases pattern name) (new.phases pattern name)
    (runs-since types choices buffer old asked old answers new run (λ one other. since-itself (old.phases one other)) pattern name)

-- ---- descriptions

each-one : {A X : Type 0} (Is : A → X → Type 0) (xs : List X) → AllByRecursion (λ (x : X). (a : A) → Is a x → HasOne (Is a) xs) xs
each-one {A} Is [] = tt
each-one {A} {X} Is (x ∷ xs) = (
  λ a is. inl is,
  all-weaker (λ (y : X). (a : A) → Is a y → HasOne (Is a) xs) (λ (y : X). (a : A) → Is a y → HasOne (Is a) (x ∷ xs))
      (λ y on a is. inr (on a is)) xs (each-one Is xs),
)

pub agreed-closed : (node : ℕ) (phase : Phase) (agreed : Agreement) → agreed_in (closed_by node phase) ≡ Some agreed
    → agreed_in phase ≡ Some agreed
agreed-closed node (Absent lives) agreed is = is
agreed-closed node (BeingMade life by) agreed is = is
agreed-closed node (Published life standing nodes) agreed is =
    left-by-phase (λ (phase : Phase). agreed_in (removed_by (Own node) phase) ≡ Some agreed → Some standing ≡ Some agreed) life standing
    (Own node) nodes
    (chosen-phase (λ (phase : Phase). agreed_in phase ≡ Some agreed → Some standing ≡ Some agreed) (same_node (Own node) (Own node))
    (Absent life) (Emptied life standing (Own node)) (λ e. never-some agreed e) (λ e. e))
    (λ others e. e) is
agreed-closed node (Emptied life standing by) agreed is =
    chosen-phase (λ (phase : Phase). agreed_in phase ≡ Some agreed → Some standing ≡ Some agreed) (same_node by (Own node)) (Absent life)
    (Emptied life standing by) (λ e. never-some agreed e) (λ e. e) is

agreed-published : (types : MessageTypeDetails) (pattern : MessagingPattern) (life : ℕ) (by : Node) (node : ℕ) (options : ServiceOptions)
    (agreed : Agreement) → agreed_in (published_by types pattern life by node options) ≡ Some agreed
    → (None ≡ Some agreed)
    ⊎ (pattern_of options ≡ pattern) × (agreed ≡ record { settings = settings_of types options; attributes = [] })
agreed-published types pattern life by node options agreed is =
    here (same_node by (Foreign node) && (same_pattern (pattern_of options) pattern && are_within_limits (settings_of types options))) refl
    is
  where
    here : (b : Bool)
        → (same_node by (Foreign node) && (same_pattern (pattern_of options) pattern && are_within_limits (settings_of types options))) ≡ b
        → agreed_in (cond b
        (Published life (record { settings = settings_of types options; attributes = [] }) ((Foreign node, 1) ∷ []))
        (BeingMade life by)) ≡ Some agreed
        → (None ≡ Some agreed)
        ⊎ (pattern_of options ≡ pattern) × (agreed ≡ record { settings = settings_of types options; attributes = [] })
    here true fits e =
        inr (
          pattern-is (pattern_of options) pattern
              (both-true (same_pattern (pattern_of options) pattern) (are_within_limits (settings_of types options))
              (both-true (same_node by (Foreign node))
              (same_pattern (pattern_of options) pattern && are_within_limits (settings_of types options)) fits).1).0,
          sym (same-some (record { settings = settings_of types options; attributes = [] }) agreed e),
        )
    here false fits e = inl e

pub agreed-acted : (types : MessageTypeDetails) (pattern : MessagingPattern) (phase : Phase) (one : ForeignStep) (agreed : Agreement)
    → agreed_in (acted types pattern phase one) ≡ Some agreed
    → (agreed_in phase ≡ Some agreed) ⊎ IsPublishedBy types pattern agreed one
agreed-acted types pattern (Absent lives) (step.Lock node) agreed is = inl is
agreed-acted types pattern (BeingMade life by) (step.GiveUp node) agreed is =
    never-some agreed (chosen-phase (λ (phase : Phase). agreed_in phase ≡ Some agreed → None ≡ Some agreed) (same_node by (Foreign node))
    (Absent life) (BeingMade life by) (λ e. e) (λ e. e) is)
agreed-acted types pattern (BeingMade life by) (step.Publish node options) agreed is =
    agreed-published types pattern life by node options agreed is
agreed-acted types pattern (BeingMade life by) (step.PublishV1 node options) agreed is =
    here (has_numbers (settings_of types options)) refl is
  where
    here : (b : Bool) → has_numbers (settings_of types options) ≡ b
        → agreed_in (cond b (BeingMade life by) (published_by types pattern life by node options)) ≡ Some agreed
        → (None ≡ Some agreed) ⊎ IsPublishedBy types pattern agreed (step.PublishV1 node options)
    here true on e = inl e
    here false off e = elim (agreed-published types pattern life by node options agreed e) [
      | inl w ↦ inl w
      | inr w ↦ inr (w.0, w.1, ap (λ (it : Agreement). has_numbers it.settings) w.1 ∙ off)
    ]
agreed-acted types pattern (Published life standing nodes) (step.Register node) agreed is =
    inl (chosen-phase (λ (phase : Phase). agreed_in phase ≡ Some agreed → Some standing ≡ Some agreed)
    (not (is_in (Foreign node) nodes) && nat_lt (length nodes) (max_nodes_of standing.settings))
    (Published life standing (entered (Foreign node) nodes)) (Published life standing nodes) (λ e. e) (λ e. e) is)
agreed-acted types pattern (Published life standing nodes) (step.Leave node) agreed is =
    inl (left-by-phase (λ (phase : Phase). agreed_in phase ≡ Some agreed → Some standing ≡ Some agreed) life standing (Foreign node) nodes
    (λ e. e) (λ others e. e) is)
agreed-acted types pattern (Emptied life standing by) (step.Remove node) agreed is =
    inl (chosen-phase (λ (phase : Phase). agreed_in phase ≡ Some agreed → Some standing ≡ Some agreed) (same_node by (Foreign node))
    (Absent life) (Emptied life standing by) (λ e. never-some agreed e) (λ e. e) is)
agreed-acted types pattern phase other agreed is = inl is

module _ {T : Type 0} (types : MessageTypeDetails) (asked : Command T) (old : State T) where
  -- What is agreed on was so before the command, or is described by it.
  abbrev IsTold : MessagingPattern → List ℕ → Phase → Type 0
  IsTold pattern name phase =
      (agreed : Agreement) → agreed_in phase ≡ Some agreed
      → (agreed_in (old.phases pattern name) ≡ Some agreed) ⊎ Describes types pattern agreed name asked

  told-acted : {X : Type 0} (pattern : MessagingPattern) (name : List ℕ) (step_of : X → ForeignStep) (steps : List X)
      → ((agreed : Agreement) → HasOne (λ (one : X). IsPublishedBy types pattern agreed (step_of one)) steps
      → Describes types pattern agreed name asked)
      → AllByRecursion (λ (one : X). (phase : Phase) → IsTold pattern name phase
      → IsTold pattern name (acted types pattern phase (step_of one))) steps
  told-acted {X} pattern name step_of steps describes =
      all-weaker
      (λ (one : X). (agreed : Agreement) → IsPublishedBy types pattern agreed (step_of one)
      → HasOne (λ (other : X). IsPublishedBy types pattern agreed (step_of other)) steps)
      (λ (one : X). (phase : Phase) → IsTold pattern name phase → IsTold pattern name (acted types pattern phase (step_of one)))
      (λ one on phase told agreed is. elim (agreed-acted types pattern phase (step_of one) agreed is) [
        | inl was ↦ told agreed was
        | inr published ↦ inr (describes agreed (on agreed published))
      ])
      steps (each-one (λ (agreed : Agreement) (one : X). IsPublishedBy types pattern agreed (step_of one)) steps)

begins-told : {T : Type 0} (types : MessageTypeDetails) (asked : Command T) (old : State T)
    → Begins types (IsTold {T = T} types asked old) asked
begins-told types (command.Create node name options attributes steps) old = (
  told-acted types (command.Create node name options attributes steps) old (pattern_of options) name
      (λ (before : StepBefore). before.step) steps (λ agreed has. (refl, refl, inr has)),
  λ lives told agreed is.
      inr (refl, refl, inl (sym (same-some (record { settings = settings_of types options; attributes = attributes }) agreed is))),
)
begins-told types (command.Open node name options required steps) old =
    told-acted types (command.Open node name options required steps) old (pattern_of options) name
    (λ (before : StepBefore). before.step) steps (λ agreed has. (refl, refl, has))
begins-told types (command.OpenOrCreate node name options required steps) old = (
  told-acted types (command.OpenOrCreate node name options required steps) old (pattern_of options) name
      (λ (before : StepBefore). before.step) steps (λ agreed has. (refl, refl, inr has)),
  λ lives told agreed is.
      inr (refl, refl, inl (sym (same-some (record { settings = settings_of types options; attributes = required.pairs }) agreed is))),
)
begins-told types (command.Foreign pattern name steps) old =
    told-acted types (command.Foreign pattern name steps) old pattern name (λ (one : ForeignStep). one) steps
    (λ agreed has. (refl, refl, has))
begins-told types other old = tt

pub agreement-described : {T : Type 0} (choices : Choices T) → AgreementIsDescribed choices
agreement-described choices types buffer asked old answer new h =
    phases-move types (IsTold types asked old) (λ pattern name lives told agreed is. never-some agreed is)
    (λ pattern name node life agreed nodes room told. told)
    (λ pattern name node phase told agreed is. told agreed (agreed-closed node phase agreed is))
    choices buffer asked old answer new (begins-told types asked old) h (λ pattern name agreed is. inl is)

-- ---- a service that is created

module _ {T : Type 0} where
  abbrev tells_factory : Reply T → Bool
  tells_factory (reply.FactoryMade number) = true
  tells_factory other = false

life-acted : (types : MessageTypeDetails) (pattern : MessagingPattern) (least : ℕ) (phase : Phase) (one : ForeignStep)
    → least ≤ life_of phase → least ≤ life_of (acted types pattern phase one)
life-acted types pattern least phase one low = elim (since-acted types pattern phase phase one (since-itself phase)) [
  | inl above ↦ omega (arith, low, above)
  | inr same ↦ omega (arith, low, same.0)
]

module _ {T : Type 0} (types : MessageTypeDetails) (node : ℕ) (name : List ℕ) (options : ServiceOptions) (attributes : List Attribute)
    (old : State T) where
  abbrev Low : Phase → Type 0
  Low phase = life_of (old.phases (pattern_of options) name) ≤ life_of phase

  abbrev Fresh : Phase → Type 0
  Fresh phase =
      (life : ℕ) × (life_of (old.phases (pattern_of options) name) < life)
      × (phase ≡ Published life (record { settings = settings_of types options; attributes = attributes }) ((Own node, 1) ∷ []))

  low-acts : (steps : List StepBefore) → AllByRecursion (λ (before : StepBefore). (phase : Phase) → Low phase
      → Low (acted types (pattern_of options) phase before.step)) steps
  low-acts steps = each-all (λ (before : StepBefore). (phase : Phase) → Low phase → Low
      (acted types (pattern_of options) phase before.step))
      (λ before phase low. life-acted types (pattern_of options) (life_of (old.phases (pattern_of options) name)) phase before.step low)
      steps

  created-so : (steps : List StepBefore) (number : ℕ) (new : State T) (ready : Low (old.phases (pattern_of options) name))
      → IsSettled types steps (factory_of node name options) Low Fresh (low-acts steps) old (reply.FactoryMade number) new ready
      → Fresh (new.phases (pattern_of options) name)
  created-so steps number new ready (inl skipped) = absurd (true≢false (ap tells_factory skipped.0))
  created-so steps number new ready (inr (inl (why, refused))) = absurd (true≢false (ap tells_factory refused.0))
  created-so steps number new ready (inr (inr (inl (phase, why, so, refused)))) = absurd (true≢false (ap tells_factory refused.0))
  created-so steps number new ready (inr (inr (inr (inl (phase, why, so, refused))))) = absurd (true≢false (ap tells_factory refused.0))
  created-so steps number new ready (inr (inr (inr (inr (phase, so, told, came))))) =
      subst Fresh
      (sym (ap (λ (state : State T). state.phases (pattern_of options) name) came ∙ phase-there (pattern_of options) name phase old)) so

pub creates-as-described : {T : Type 0} (choices : Choices T) → CreatesAsDescribed choices
creates-as-described {T} choices types buffer node name options attributes steps old number new h =
    created-so types node name options attributes old steps number new (omega arith)
    (create-settles types steps (factory_of node name options) (Low types node name options attributes old)
    (Fresh types node name options attributes old) (low-acts types node name options attributes old steps) old
    (reply.FactoryMade number) new
    (omega arith) options attributes (λ lives low. omega (arith, low)) (λ lives low. (lives + 1, omega (arith, low), refl)) h)
