-- What the steps publish of which a hub makes lists has the form of a description.
use Rattle.std.proofs.Common.{◌≡◌, ℕ, zero, suc, ◌+◌, List, [], ◌∷◌, map, drop, sym, subst}
use Rattle.std.specs.List.{AllByRecursion}
use Rattle.iox_command.specs.NegotiateBase.DescribeBase.declared.message_type.MessageTypeDetails.{MessageTypeDetails}
use Rattle.iox_command.specs.declared.step.ForeignStep.{ForeignStep}
use Rattle.iox_command.specs.declared.step.ForeignStep.TheVariants as step
use Rattle.iox_command.specs.declared.step.StepBefore.{StepBefore}
use Rattle.iox_hub_commands.specs.Steps.{PublishesInForm, lists_of}
use Rattle.iox_hub_machine.proofs.Listed.{lists_are_named}
use Rattle.iox_machine.specs.RefusalLaws.{steps_at}
use Rattle.iox_negotiate_machine.specs.CallLaws.{AreListed, HaveStepForms}
use Rattle.iox_negotiate_machine.specs.Laws.{HasStepForm, table_step_of}
use Rattle.iox_negotiate_table.specs.Stepped.{next_list}
use Rattle.iox_negotiate_table.specs.declared.step.ForeignStep.{ForeignStep as TableStep}

-- lists that are made of named steps, and what they publish has the form of a description
abbrev pub AreMade : MessageTypeDetails → List ℕ → List StepBefore → List (List TableStep) → Type 0
AreMade types name steps lists = (lists ≡ lists_of name types steps) × AllByRecursion (AllByRecursion PublishesInForm) lists

-- the list that comes next after n
formed_at : (made : ℕ) (lists : List (List TableStep)) → AllByRecursion (AllByRecursion PublishesInForm) lists
    → AllByRecursion PublishesInForm (next_list (drop made lists))
formed_at zero [] forms = tt
formed_at (suc made) [] forms = tt
formed_at zero (list ∷ lists) forms = forms.0
formed_at (suc made) (list ∷ lists) forms = formed_at made lists forms.1

module _ (types : MessageTypeDetails) (name : List ℕ) where
  one_formed : (one : ForeignStep) → PublishesInForm (table_step_of types name one) → HasStepForm types name one
  one_formed (step.Lock node) form = tt
  one_formed (step.GiveUp node) form = tt
  one_formed (step.Publish node options) form = form
  one_formed (step.PublishV1 node options) form = form
  one_formed (step.Register node) form = tt
  one_formed (step.Leave node) form = tt
  one_formed (step.Remove node) form = tt

  -- what named steps publish has it where what the steps of a table publish has it that they are
  pub all_formed : (steps : List ForeignStep) → AllByRecursion PublishesInForm (map (table_step_of types name) steps)
      → AllByRecursion (HasStepForm types name) steps
  all_formed [] forms = tt
  all_formed (one ∷ steps) forms = (one_formed one forms.0, all_formed steps forms.1)

  module _ (steps : List StepBefore) (lists : List (List TableStep)) (made : AreMade types name steps lists) where
    pub listed_so : AreListed types name steps lists
    listed_so = subst (AreListed types name steps) (sym made.0) (lists_are_named types name steps)

    pub formed_so : HaveStepForms types name steps
    formed_so access few =
        all_formed (steps_at steps (access + 1))
        (subst (AllByRecursion PublishesInForm) (listed_so access few) (formed_at access lists made.1))
