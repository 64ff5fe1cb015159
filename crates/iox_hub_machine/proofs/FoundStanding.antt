-- A machine refuses at its first lookup whom a hub refuses there.
use Rattle.std.proofs.Common.{◌≡◌, ◌||◌, ◌∙◌, ℕ, Bool, true, false, cond, List, [], ◌∷◌, map, Option, None, Some, Result, Err}
use Rattle.std.proofs.Common.{inl, inr, refl, sym, ap, subst}
use Rattle.std.specs.Prelude.{filter, fold, nat_eq, MatchOption, if◌then◌else◌}
use Rattle.iox_command.specs.NegotiateBase.DescribeBase.Hash.{service_hash_of}
use Rattle.iox_command.specs.NegotiateBase.DescribeBase.declared.message_type.MessageTypeDetails.{MessageTypeDetails}
use Rattle.iox_command.specs.NegotiateBase.DescribeBase.declared.pattern.MessagingPattern.{MessagingPattern}
use Rattle.iox_command.specs.NegotiateBase.declared.failure.CreateFailure.{CreateFailure}
use Rattle.iox_command.specs.NegotiateBase.declared.failure.CreateFailure.TheVariants as uncreated
use Rattle.iox_command.specs.NegotiateBase.declared.failure.OpenFailure.{OpenFailure}
use Rattle.iox_command.specs.NegotiateBase.declared.failure.OpenFailure.TheVariants as unopened
use Rattle.iox_command.specs.NegotiateBase.declared.failure.OpenOrCreateFailure.{OpenOrCreateFailure}
use Rattle.iox_command.specs.NegotiateBase.declared.failure.OpenOrCreateFailure.TheVariants as neither
use Rattle.iox_command.specs.declared.refusal.Refusal.{Refusal}
use Rattle.iox_command.specs.declared.service.ServiceOptions.{ServiceOptions}
use Rattle.iox_command.specs.declared.service.ServiceOptions.TheVariants as options
use Rattle.iox_command.specs.declared.step.StepBefore.{StepBefore}
use Rattle.iox_hub_base.specs.Hubs.{hash_state}
use Rattle.iox_hub_base.specs.declared.hub.HashState.{HashState}
use Rattle.iox_hub_base.specs.declared.hub.HashState.TheVariants as lying
use Rattle.iox_hub_base.specs.declared.hub.Hub.{Hub}
use Rattle.iox_hub_commands.proofs.FirstLook.{answers}
use Rattle.iox_hub_commands.specs.Asking.{hash_of}
use Rattle.iox_hub_commands.specs.Refusing.{IsInTheWay, either_locked, either_refused, either_told, first_look, open_absent, open_locked}
use Rattle.iox_hub_commands.specs.Refusing.{open_told}
use Rattle.iox_hub_commands.specs.Steps.{acts_first}
use Rattle.iox_hub_commands.specs.declared.services.asked.ServiceAsked.{ServiceAsked}
use Rattle.iox_hub_machine.proofs.Skipping.{by_none}
use Rattle.iox_machine.proofs.Names.{phases-all}
use Rattle.iox_machine.proofs.Shorthands.{Opens, OpensOrCreates}
use Rattle.iox_machine.specs.Agreement.{Agreement, unfit}
use Rattle.iox_machine.specs.Negotiation.{Access, Answer, Call, CreateLooks, Creates, EitherLooks, Fails, OpenLooks}
use Rattle.iox_machine.specs.Phase.{Node, Phase, Absent, BeingMade, Published, Emptied, acted}
use Rattle.iox_machine.specs.Refusals.{either_refusal, open_refusal}
use Rattle.iox_machine.specs.State.{State, with_phase}
use Rattle.iox_negotiate_machine.proofs.Told.{event-either-told, publish-subscribe-either-told, request-response-either-told}
use Rattle.iox_negotiate_machine.specs.Standing.{Lies}
use Rattle.iox_negotiate_table.specs.Contents.{Contents, entry_at}

-- what a first lookup finds lies under the hash, and no step is named before it
pub look_finds : {T U B D : Type 0} (asked : ServiceAsked) (steps : List StepBefore) (hub : Hub T U B D) (it : HashState)
    → first_look asked steps hub ≡ Some it
    → (acts_first steps ≡ false) × (hash_state (entry_at (hash_of asked.name asked.options) hub.table) ≡ it)
look_finds asked steps hub it is = here (acts_first steps) (hash_state (entry_at (hash_of asked.name asked.options) hub.table)) is
  where
    here : (acts : Bool) (at : HashState) → (if acts then None else Some at) ≡ Some it → (acts ≡ false) × (at ≡ it)
    here true at is = absurd cc
    here false at is = (refl, cc)

-- what a look finds in this phase
abbrev pub state_in : Phase → HashState
state_in (Absent lives) = lying.Absent
state_in (BeingMade life by) = lying.Locked
state_in (Published life agreed nodes) = lying.Described
state_in (Emptied life agreed by) = lying.Described

module _ (pattern : MessagingPattern) (name : List ℕ) (table : Contents) where
  -- it is what lies under the hash
  pub found_so : (phase : Phase) (taken : List ℕ) → Lies pattern name table phase taken
      → hash_state (entry_at (service_hash_of pattern name) table) ≡ state_in phase
  found_so (Absent lives) taken lies = ap hash_state lies
  found_so (BeingMade life by) [] lies = absurd lies
  found_so (BeingMade life by) (number ∷ before) lies = ap hash_state lies
  found_so (Published life agreed nodes) [] lies = absurd lies
  found_so (Published life agreed nodes) (number ∷ before) lies = ap hash_state lies.0.described
  found_so (Emptied life agreed by) [] lies = absurd lies
  found_so (Emptied life agreed by) (number ∷ before) lies = ap hash_state lies.0.described

-- where no step is named before the first storage operation, none is done there
none_first : (steps : List StepBefore) → acts_first steps ≡ false → filter (λ (before : StepBefore). nat_eq before.access 1) steps ≡ []
none_first [] none = refl
none_first (before ∷ rest) none = here (nat_eq before.access 1) none (none_first rest)
  where
    here : (is : Bool) → (is || acts_first rest) ≡ false
        → (acts_first rest ≡ false → filter (λ (it : StepBefore). nat_eq it.access 1) rest ≡ [])
        → cond is (before ∷ filter (λ (it : StepBefore). nat_eq it.access 1) rest) (filter (λ (it : StepBefore). nat_eq it.access 1) rest)
        ≡ []
    here true none later = absurd cc
    here false none later = later none

-- what is done where this is found
pub by_some : {V : Type 0} (P : Type 0) (Q : V → Type 0) (found : Option V) (v : V) → found ≡ Some v → Q v → MatchOption found P Q
by_some P Q found v is q = subst (λ o. MatchOption o P Q) (sym is) q

-- ---- how a first lookup's refusals are told

absent_is : (named : ServiceOptions) → open_absent named ≡ open_refusal named unopened.DoesNotExist
absent_is (options.PublishSubscribe named) = refl
absent_is (options.Event named) = refl
absent_is (options.RequestResponse named) = refl

locked_is : (named : ServiceOptions) → open_locked named ≡ open_refusal named unopened.HangsInCreation
locked_is (options.PublishSubscribe named) = refl
locked_is (options.Event named) = refl
locked_is (options.RequestResponse named) = refl

either_locked_is : (named : ServiceOptions) → either_locked named ≡ either_refusal named (neither.Open unopened.HangsInCreation)
either_locked_is (options.PublishSubscribe named) = refl
either_locked_is (options.Event named) = refl
either_locked_is (options.RequestResponse named) = refl

refused_is : (named : ServiceOptions) (failure : CreateFailure)
    → either_refused named failure ≡ either_refusal named (neither.Create failure)
refused_is (options.PublishSubscribe named) failure = publish-subscribe-either-told named (neither.Create failure)
refused_is (options.Event named) failure = event-either-told named (neither.Create failure)
refused_is (options.RequestResponse named) failure = request-response-either-told named (neither.Create failure)

-- ---- the first storage operation

module _ (types : MessageTypeDetails) (pattern : MessagingPattern) (steps : List StepBefore) (node : Node) where
  -- where no step is named before the first storage operation, it finds the phase as it was
  first_access : {F : Type 0} (lacking : F) (Found : Phase → Call → Answer F → Call → Type 0) (phase : Phase) (answer : Answer F)
      → acts_first steps ≡ false
      → Found phase (record { phase = phase; accesses = 1 }) answer (record { phase = phase; accesses = 1 })
      → Access types pattern steps node lacking Found (record { phase = phase; accesses = 0 }) answer
      (record { phase = phase; accesses = 1 })
  first_access lacking Found phase answer none found =
      inl (subst (λ (some : List StepBefore). Found
      (fold (acted types pattern) phase (map (λ (before : StepBefore). before.step) some))
      (record { phase = fold (acted types pattern) phase (map (λ (before : StepBefore). before.step) some); accesses = 1 })
      answer (record { phase = phase; accesses = 1 }))
      (sym (none_first steps none)) found)

  -- a look refuses who creates where this is in the way
  looks_in_the_way : (agreed : Agreement) (phase : Phase) (why : CreateFailure) → IsInTheWay (Some (state_in phase)) why → (call : Call)
      → CreateLooks types pattern steps node agreed phase call (Some (Err why)) call
  looks_in_the_way agreed (Absent lives) why (inl (finds, is)) call = absurd cc
  looks_in_the_way agreed (Absent lives) why (inr (finds, is)) call = absurd cc
  looks_in_the_way agreed (BeingMade life by) why (inl (finds, is)) call = absurd cc
  looks_in_the_way agreed (BeingMade life by) why (inr (finds, is)) call = (ap (λ (it : CreateFailure). Some (Err it)) is, refl)
  looks_in_the_way agreed (Published life other nodes) why (inl (finds, is)) call = (ap (λ (it : CreateFailure). Some (Err it)) is, refl)
  looks_in_the_way agreed (Published life other nodes) why (inr (finds, is)) call = absurd cc
  looks_in_the_way agreed (Emptied life other by) why (inl (finds, is)) call = (ap (λ (it : CreateFailure). Some (Err it)) is, refl)
  looks_in_the_way agreed (Emptied life other by) why (inr (finds, is)) call = absurd cc

  -- so it is the one storage operation, and the phase stays as it is
  pub refuses_to_create : (agreed : Agreement) (phase : Phase) (why : CreateFailure) → IsInTheWay (Some (state_in phase)) why
      → acts_first steps ≡ false → unfit agreed.settings ≡ None
      → Creates types pattern steps node agreed (record { phase = phase; accesses = 0 }) (Some (Err why))
      (record { phase = phase; accesses = 1 })
  refuses_to_create agreed phase why way none fits =
      by_none (λ failure. Fails failure (record { phase = phase; accesses = 0 }) (Some (Err why))
      (record { phase = phase; accesses = 1 })) (unfit agreed.settings) fits
      (first_access uncreated.OutOfMemory (CreateLooks types pattern steps node agreed) phase (Some (Err why)) none
      (looks_in_the_way agreed phase why way (record { phase = phase; accesses = 1 })))

  module _ (named : ServiceOptions) (verdict : Agreement → Result (Unit {0}) Refusal) where
    -- a look refuses who opens as the hub's tells
    looks_untold : (phase : Phase) (why : Refusal) → open_told named (Some (state_in phase)) ≡ Some why
        → (failure : OpenFailure Refusal) × (why ≡ open_refusal named failure)
        × ((call : Call) → OpenLooks types pattern steps node verdict phase call (Some (Err failure)) call)
    looks_untold (Absent lives) why told = (unopened.DoesNotExist, sym (answers told) ∙ absent_is named, λ call. (refl, refl))
    looks_untold (BeingMade life by) why told = (unopened.HangsInCreation, sym (answers told) ∙ locked_is named, λ call. (refl, refl))
    looks_untold (Published life agreed nodes) why told = absurd cc
    looks_untold (Emptied life agreed by) why told = absurd cc

    -- so its one round ends
    pub refuses_to_open : (phase : Phase) (why : Refusal) → open_told named (Some (state_in phase)) ≡ Some why
        → acts_first steps ≡ false
        → (failure : OpenFailure Refusal) × (why ≡ open_refusal named failure)
        × Opens types pattern steps node verdict (record { phase = phase; accesses = 0 }) (Some (Err failure))
        (record { phase = phase; accesses = 1 })
    refuses_to_open phase why told none =
        let (failure, is, looks) = looks_untold phase why told in (
          failure,
          is,
          (
            record { phase = phase; accesses = 1 },
            Some (Err failure),
            first_access unopened.OutOfMemory (OpenLooks types pattern steps node verdict) phase (Some (Err failure)) none
                (looks (record { phase = phase; accesses = 1 })),
            (refl, refl),
          ),
        )

    module _ (agreed : Agreement) where
      -- who opens or creates is refused so, too
      looks_neither : (phase : Phase) (refused : Option CreateFailure) → unfit agreed.settings ≡ refused → (why : Refusal)
          → either_told named refused (Some (state_in phase)) ≡ Some why
          → (failure : OpenOrCreateFailure Refusal) × (why ≡ either_refusal named failure)
          × ((call : Call) → EitherLooks types pattern steps node verdict agreed phase call (Some (Err failure)) call)
      looks_neither (Absent lives) None fits why told = absurd cc
      looks_neither (Absent lives) (Some failure) fits why told = (
        neither.Create failure,
        sym (answers told) ∙ refused_is named failure,
        λ call. by_some _
            (λ (it : CreateFailure). Fails {F = OpenOrCreateFailure Refusal} (neither.Create it) call (Some (Err (neither.Create failure)))
            call)
            (unfit agreed.settings) failure fits (refl, refl),
      )
      looks_neither (BeingMade life by) refused fits why told = (
        neither.Open unopened.HangsInCreation,
        sym (answers told) ∙ either_locked_is named,
        λ call. (Some (Err unopened.HangsInCreation), (refl, refl), refl),
      )
      looks_neither (Published life other nodes) refused fits why told = absurd cc
      looks_neither (Emptied life other by) refused fits why told = absurd cc

      pub refuses_either : (phase : Phase) (refused : Option CreateFailure) → unfit agreed.settings ≡ refused → (why : Refusal)
          → either_told named refused (Some (state_in phase)) ≡ Some why → acts_first steps ≡ false
          → (failure : OpenOrCreateFailure Refusal) × (why ≡ either_refusal named failure)
          × OpensOrCreates types pattern steps node verdict agreed (record { phase = phase; accesses = 0 }) (Some (Err failure))
          (record { phase = phase; accesses = 1 })
      refuses_either phase refused fits why told none =
          let (failure, is, looks) = looks_neither phase refused fits why told in (
            failure,
            is,
            (
              record { phase = phase; accesses = 1 },
              Some (Err failure),
              first_access (neither.Open unopened.OutOfMemory) (EitherLooks types pattern steps node verdict agreed) phase
                  (Some (Err failure)) none (looks (record { phase = phase; accesses = 1 })),
              (refl, refl),
            ),
          )

-- a state in which a phase is what it was
pub same_phase : {T : Type 0} (pattern : MessagingPattern) (name : List ℕ) (state : State T)
    → with_phase pattern name (state.phases pattern name) state ≡ state
same_phase pattern name state = λ i. record state {
  phases = λ one other. phases-all (λ (it : MessagingPattern) (another : List ℕ) (phase : Phase). phase ≡ state.phases it another) pattern
      name (state.phases pattern name) state (λ it another. refl) refl one other i;
}
