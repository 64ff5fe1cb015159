-- The lists of steps that a hub makes of those that a command names.
use Rattle.std.proofs.Common.{◌≡◌, ◌⊎◌, ℕ, zero, suc, ◌+◌, ◌<◌, ◌≤◌, Bool, true, false, cond, List, [], ◌∷◌, drop, map, max, min, nat_lt}
use Rattle.std.proofs.Common.{refl, sym, ap, ◌∙◌, inl, inr, arith}
use Rattle.std.proofs.Math.Logic.{⊎_elim}
use Rattle.std.proofs.lemmas.Bool.{ltb-true, ltb-false}
use Rattle.std.proofs.lemmas.Bool.Decides.{eqb_tells}
use Rattle.std.specs.Prelude.{filter, ◌==◌}
use Rattle.iox_command.specs.NegotiateBase.DescribeBase.declared.message_type.MessageTypeDetails.{MessageTypeDetails}
use Rattle.iox_command.specs.declared.step.StepBefore.{StepBefore}
use Rattle.iox_hub_commands.specs.Steps.{from, last_access, list_before, lists_of, step_of}
use Rattle.iox_hub_machine.proofs.SameSteps.{same_step}
use Rattle.iox_hub_machine.specs.ServiceLaws.{ListsAreNamed}
use Rattle.iox_machine.specs.RefusalLaws.{steps_at}
use Rattle.iox_negotiate_machine.specs.Laws.{table_step_of}
use Rattle.iox_negotiate_table.specs.Stepped.{next_list}
use Rattle.iox_negotiate_table.specs.declared.step.ForeignStep.{ForeignStep as TableStep}

-- the steps before a storage operation, as the table does them
same_steps : (types : MessageTypeDetails) (name : List ℕ) (steps : List StepBefore)
    → map (λ (before : StepBefore). step_of name types before.step) steps
    ≡ map (table_step_of types name) (map (λ (before : StepBefore). before.step) steps)
same_steps types name [] = refl
same_steps types name (before ∷ steps) =
    ap (λ (one : TableStep). one ∷ map (λ (b : StepBefore). step_of name types b.step) steps) (same_step name types before.step)
    ∙ ap (λ (l : List TableStep). table_step_of types name before.step ∷ l) (same_steps types name steps)

-- n numbers on
list_at : (f : ℕ → List TableStep) (first count made : ℕ) → made < count
    → next_list (drop made (map f (from first count))) ≡ f (first + made)
list_at f first zero made less = absurd (none made less)
  where
    none : (made : ℕ) → made < 0 → ⊥
    none made less = omega (arith, less)
list_at f first (suc count) zero less = ap f (omega arith)
list_at f first (suc count) (suc made) less = list_at f (first + 1) count made (omega (arith, less)) ∙ ap f (omega arith)

-- after the last list there is none
none_behind : (f : ℕ → List TableStep) (first count made : ℕ) → count ≤ made → next_list (drop made (map f (from first count))) ≡ []
none_behind f first zero zero less = refl
none_behind f first zero (suc made) less = refl
none_behind f first (suc count) zero less = absurd (none count less)
  where
    none : (count : ℕ) → suc count ≤ 0 → ⊥
    none count less = omega (arith, less)
none_behind f first (suc count) (suc made) less = none_behind f (first + 1) count made (omega (arith, less))

-- no steps are named before a storage operation after the last before which some are
none_named : (steps : List StepBefore) (access : ℕ) → last_access steps < access
    → filter (λ (before : StepBefore). before.access == access) steps ≡ []
none_named [] access less = refl
none_named (before ∷ steps) access less = ⊎_elim
    (λ same. absurd (never before.access (last_access steps) same.1 less))
    (λ off. ap (λ (b : Bool). cond b (before ∷ filter (λ (one : StepBefore). one.access == access) steps)
    (filter (λ (one : StepBefore). one.access == access) steps)) off.0
    ∙ none_named steps access (omega (arith, less))) (eqb_tells before.access access)
  where
    never : (one last : ℕ) → one ≡ access → max one last < access → ⊥
    never one last same less = omega (arith, same, less)

pub lists_are_named : ListsAreNamed
lists_are_named types name steps made few = ⊎_elim within over (less_or_not made (min (last_access steps) 16))
  where
    less_or_not : (one other : ℕ) → (one < other) ⊎ (other ≤ one)
    less_or_not one other = there (nat_lt one other) refl
      where
        there : (b : Bool) → nat_lt one other ≡ b → (one < other) ⊎ (other ≤ one)
        there true is = inl (ltb-true one other is)
        there false is = inr (ltb-false one other is)

    within : made < min (last_access steps) 16
        → next_list (drop made (lists_of name types steps)) ≡ map (table_step_of types name) (steps_at steps (made + 1))
    within less =
        list_at (list_before name types steps) 1 (min (last_access steps) 16) made less
        ∙ same_steps types name (filter (λ (before : StepBefore). before.access == (1 + made)) steps)
        ∙ ap (λ (access : ℕ). map (table_step_of types name) (steps_at steps access)) (omega arith)

    over : min (last_access steps) 16 ≤ made
        → next_list (drop made (lists_of name types steps)) ≡ map (table_step_of types name) (steps_at steps (made + 1))
    over less =
        none_behind (list_before name types steps) 1 (min (last_access steps) 16) made less
        ∙ sym (ap (λ (l : List StepBefore). map (table_step_of types name) (map (λ (before : StepBefore). before.step) l))
        (none_named steps (made + 1) (omega (arith, less, few))))
