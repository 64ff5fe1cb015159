-- What steps of nodes outside the hub leave of what the hub has in a phase: its nodes keep their factories, and what they opened stands.
use Rattle.std.proofs.Common.{◌≡◌, ℕ, suc, ◌+◌, true, not, ◌&&◌, List, [], ◌∷◌, ◌++◌, length, fold, nat_lt, refl, sym, ap, ◌∙◌, arith}
use Rattle.std.proofs.Common.{length-append}
use Rattle.iox_command.specs.NegotiateBase.DescribeBase.declared.message_type.MessageTypeDetails.{MessageTypeDetails}
use Rattle.iox_command.specs.NegotiateBase.DescribeBase.declared.pattern.MessagingPattern.{MessagingPattern}
use Rattle.iox_command.specs.NegotiateBase.DescribeSettings.Agreement.{max_nodes_of}
use Rattle.iox_command.specs.NegotiateBase.declared.request.Opened.{Opened}
use Rattle.iox_command.specs.Patterns.{pattern_of}
use Rattle.iox_command.specs.declared.service.ServiceOptions.{ServiceOptions}
use Rattle.iox_command.specs.declared.step.ForeignStep.{ForeignStep}
use Rattle.iox_command.specs.declared.step.ForeignStep.TheVariants as step
use Rattle.iox_hub_machine.specs.Seats.{seats_in}
use Rattle.iox_machine.specs.Agreement.{Agreement, are_within_limits}
use Rattle.iox_machine.specs.AgreementLaws.{life_of}
use Rattle.iox_machine.specs.Asked.{settings_of}
use Rattle.iox_machine.specs.Phase.{Node, Own, Foreign, Phase, Absent, BeingMade, Published, Emptied, acted, entered, is_in, left}
use Rattle.iox_machine.specs.Phase.{has_numbers, left_by, published_by, same_node, same_pattern}
use Rattle.iox_negotiate.proofs.Maps.{on}
use Rattle.iox_negotiate_machine.proofs.Meanwhile.{by-choice, left-others, out-of}
use Rattle.iox_negotiate_machine.proofs.Seats.{Entry, come, in-counted, is_some_of}
use Rattle.iox_negotiate_machine.specs.CallLaws.{IsServiceIn}
use Rattle.iox_negotiate_machine.specs.Standing.{PhaseStands, counts_of}
use Rattle.iox_negotiate_table.specs.Contents.{Contents}

-- who of the hub is in is so where the counts are the same
same_in : (node : Node) (nodes after : List Entry) → counts_of node after ≡ counts_of node nodes → is_in node nodes ≡ true
    → is_in node after ≡ true
same_in node nodes after same is = in-counted node after ∙ ap is_some_of same ∙ sym (in-counted node nodes) ∙ is

-- a phase after a node outside left, of which something holds whether it was in or not
by_leaving : (P : Phase → Type 0) (life : ℕ) (agreed : Agreement) (node : Node) (nodes : List Entry) → P (Published life agreed nodes)
    → ((after : List Entry) → left node nodes ≡ after
    → P (elim after [ [] ↦ Emptied life agreed node | entry ∷ more ↦ Published life agreed (entry ∷ more) ]))
    → P (left_by node (Published life agreed nodes))
by_leaving P life agreed node nodes same gone =
    by-choice P (is_in node nodes)
    (elim (left node nodes) [ [] ↦ Emptied life agreed node | entry ∷ more ↦ Published life agreed (entry ∷ more) ])
    (Published life agreed nodes) (λ is. gone (left node nodes) refl) same

module _ (types : MessageTypeDetails) (pattern : MessagingPattern) (node : ℕ) where
  -- something that holds of a phase, and is the same where a node of the hub is in the same life with as many factories
  module _ (P : Phase → Type 0)
      (still : (life : ℕ) (agreed : Agreement) (nodes after : List Entry) → counts_of (Own node) after ≡ counts_of (Own node) nodes
      → P (Published life agreed nodes) → P (Published life agreed after))
      (over : (life : ℕ) (agreed : Agreement) (by : ℕ) (nodes : List Entry) → counts_of (Own node) nodes ≡ []
      → P (Published life agreed nodes) → P (Emptied life agreed (Foreign by)))
      (begun : (life other : ℕ) (by : Node) → P (Absent life) → P (BeingMade other by))
      (given_up : (life other : ℕ) (by : Node) → P (BeingMade life by) → P (Absent other))
      (made : (life by : ℕ) (agreed : Agreement) (maker : Node) → P (BeingMade life maker)
      → P (Published life agreed ((Foreign by, 1) ∷ [])))
      (removed : (life : ℕ) (agreed : Agreement) (by : Node) → P (Emptied life agreed by) → P (Absent life)) where
    by_publishing : (now other : ℕ) (by : Node) (options : ServiceOptions) → P (BeingMade now by)
        → P (published_by types pattern now by other options)
    by_publishing now other by options so =
        by-choice P
        (same_node by (Foreign other) && (same_pattern (pattern_of options) pattern && are_within_limits (settings_of types options)))
        (Published now (record { settings = settings_of types options; attributes = [] }) ((Foreign other, 1) ∷ [])) (BeingMade now by)
        (λ is. made now other (record { settings = settings_of types options; attributes = [] }) by so) so

    by_step : (phase : Phase) (one : ForeignStep) → P phase → P (acted types pattern phase one)
    by_step (Absent lives) (step.Lock other) so = begun lives (lives + 1) (Foreign other) so
    by_step (BeingMade now by) (step.GiveUp other) so =
        by-choice P (same_node by (Foreign other)) (Absent now) (BeingMade now by) (λ is. given_up now now by so) so
    by_step (BeingMade now by) (step.Publish other options) so = by_publishing now other by options so
    by_step (BeingMade now by) (step.PublishV1 other options) so =
        by-choice P (has_numbers (settings_of types options)) (BeingMade now by) (published_by types pattern now by other options)
        (λ is. so) (by_publishing now other by options so)
    by_step (Published now agreed nodes) (step.Register other) so =
        by-choice P (not (is_in (Foreign other) nodes) && nat_lt (length nodes) (max_nodes_of agreed.settings))
        (Published now agreed (entered (Foreign other) nodes)) (Published now agreed nodes)
        (λ is. still now agreed nodes (entered (Foreign other) nodes)
        (come (Foreign other) nodes (Own node) (out-of types pattern node _ _ is)) so) so
    by_step (Published now agreed nodes) (step.Leave other) so =
        by_leaving P now agreed (Foreign other) nodes so there
      where
        there : (after : List Entry) → left (Foreign other) nodes ≡ after
            → P (elim after [ [] ↦ Emptied now agreed (Foreign other) | entry ∷ more ↦ Published now agreed (entry ∷ more) ])
        there [] is = over now agreed other nodes
            (sym (left-others (Foreign other) nodes (Own node) refl) ∙ ap (counts_of (Own node)) is) so
        there (entry ∷ more) is = still now agreed nodes (entry ∷ more)
            (sym (ap (counts_of (Own node)) is) ∙ left-others (Foreign other) nodes (Own node) refl) so
    by_step (Emptied now agreed by) (step.Remove other) so =
        by-choice P (same_node by (Foreign other)) (Absent now) (Emptied now agreed by) (λ is. removed now agreed by so) so
    by_step phase other so = so

    pub by_steps : (phase : Phase) (steps : List ForeignStep) → P phase → P (fold (acted types pattern) phase steps)
    by_steps phase [] so = so
    by_steps phase (one ∷ steps) so = by_steps (acted types pattern phase one) steps (by_step phase one so)

module _ (types : MessageTypeDetails) (pattern : MessagingPattern) (node : ℕ) where
  -- a node of the hub has as many factories
  pub seats_stay : (phase : Phase) (steps : List ForeignStep)
      → seats_in node (fold (acted types pattern) phase steps) ≡ seats_in node phase
  seats_stay phase steps = by_steps types pattern node (λ now. seats_in node now ≡ seats_in node phase)
      (λ life agreed nodes after same so. same ∙ so)
      (λ life agreed by nodes none so. sym none ∙ so)
      (λ life other by so. so)
      (λ life other by so. so)
      (λ life by agreed maker so. so)
      (λ life agreed by so. so)
      phase steps refl

  -- what a node of the hub opened is that of the phase still, in the same life
  pub service_stays : (name taken : List ℕ) (opened : Opened) (phase : Phase) (steps : List ForeignStep)
      → IsServiceIn node pattern name phase taken opened
      → (life_of (fold (acted types pattern) phase steps) ≡ life_of phase)
      × IsServiceIn node pattern name (fold (acted types pattern) phase steps) taken opened
  service_stays name taken opened phase steps is = by_steps types pattern node
      (λ now. (life_of now ≡ life_of phase) × IsServiceIn node pattern name now taken opened)
      (λ life agreed nodes after same so. (so.0, (same_in (Own node) nodes after same so.1.0, so.1.1, so.1.2)))
      (λ life agreed by nodes none so. on (sym so.1.0 ∙ (in-counted (Own node) nodes ∙ ap is_some_of none)))
      (λ life other by so. absurd so.1)
      (λ life other by so. absurd so.1)
      (λ life by agreed maker so. absurd so.1)
      (λ life agreed by so. absurd so.1)
      phase steps (refl, is)

-- where a phase is of the same life, no more numbers were taken
pub same_numbers : (pattern : MessagingPattern) (name : List ℕ) (old new : Contents) (taken later : List ℕ) (before after : Phase)
    → PhaseStands pattern name old taken before → PhaseStands pattern name new later after → life_of after ≡ life_of before
    → (more : List ℕ) × (later ≡ more ++ taken) → later ≡ taken
same_numbers pattern name old new taken later before after was is same ([], comes) = comes
same_numbers pattern name old new taken later before after was is same (one ∷ more, comes) =
    absurd (too_many (length more) (length taken) (length (more ++ taken)) (length-append more taken)
    (sym (ap length comes) ∙ sym is.lives ∙ same ∙ was.lives))
  where
    too_many : (few many all : ℕ) → all ≡ few + many → suc all ≡ many → ⊥
    too_many few many all sum less = omega (arith, sum, less)
