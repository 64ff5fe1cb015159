-- How a node of the hub creates a service, opens it, or opens or creates it.
use Rattle.std.specs.Prelude.{ℕ, zero, suc, ◌+◌, ◌≡◌, ◌⊎◌, Bool, true, false, ◌||◌, ◌==◌, nat_lt, List, [], ◌∷◌, length, take, map, filter}
use Rattle.std.specs.Prelude.{fold, Option, None, Some}
use Rattle.std.specs.Prelude.{option_map, Result, Ok, Err, MatchOption, MatchResult, if◌then◌else◌}
use Rattle.std.specs.Result.{result_map_both}
use Rattle.iox_machine.specs.Agreement.{Agreement, unfit}
use Rattle.iox_machine.specs.Phase.{Node, Phase, Absent, BeingMade, Published, Emptied, is_in, entered, acted}
use Rattle.iox_command.specs.NegotiateBase.DescribeBase.declared.message_type.MessageTypeDetails.{MessageTypeDetails}
use Rattle.iox_command.specs.NegotiateBase.DescribeBase.declared.pattern.MessagingPattern.{MessagingPattern}
use Rattle.iox_command.specs.NegotiateBase.DescribeSettings.Agreement.{max_nodes_of}
use Rattle.iox_command.specs.NegotiateBase.declared.failure.CreateFailure.{CreateFailure}
use Rattle.iox_command.specs.NegotiateBase.declared.failure.CreateFailure.TheVariants as uncreated
use Rattle.iox_command.specs.NegotiateBase.declared.failure.OpenFailure.{OpenFailure}
use Rattle.iox_command.specs.NegotiateBase.declared.failure.OpenFailure.TheVariants as unopened
use Rattle.iox_command.specs.NegotiateBase.declared.failure.OpenOrCreateFailure.{OpenOrCreateFailure}
use Rattle.iox_command.specs.NegotiateBase.declared.failure.OpenOrCreateFailure.TheVariants as neither
use Rattle.iox_command.specs.declared.step.StepBefore.{StepBefore}

-- A call in progress: the phase of its pattern and name, and the number of storage operations that the call has made.
pub record Call : Type 0 where
  pub phase : Phase
  pub accesses : ℕ

-- The answer of a round: whether the service is new, or why the call failed; or no answer, and the next round begins.
abbrev pub Answer : Type 0 → Type 0
Answer F = Option (Result Bool F)

-- The answer of a creation as an answer of `open_or_create`: if another node has the lock or has created the service, the next round
-- begins.
abbrev pub created : {V : Type 0} → Answer CreateFailure → Answer (OpenOrCreateFailure V)
created None = None
created (Some (Ok new)) = Some (Ok new)
created (Some (Err uncreated.IsBeingCreatedByAnotherInstance)) = None
created (Some (Err uncreated.AlreadyExists)) = None
created (Some (Err failure)) = Some (Err (neither.Create failure))

-- The call fails with this error, and does nothing.
abbrev pub Fails : {F : Type 0} → F → Call → Answer F → Call → Type 0
Fails failure call answer after = (answer ≡ Some (Err failure)) × (after ≡ call)

-- At most this many rounds: the first that has an answer ends them. If none has an answer, the call fails with the error `exhausted`.
abbrev pub Rounds : {F : Type 0} → (Call → Answer F → Call → Type 0) → F → ℕ → Call → Answer F → Call → Type 0
Rounds Round exhausted zero call answer after = Fails exhausted call answer after
Rounds {F} Round exhausted (suc count) call answer after =
    (mid : Call) × (first : Answer F) × Round call first mid × MatchOption first (Rounds Round exhausted count mid answer after)
    (λ found. (answer ≡ first) × (after ≡ mid))

-- How a node registers in the lifetime that it saw: it enters if it is in the service already, or if there is a place for one more node. If
-- that lifetime is over, there is no answer.
abbrev pub registered : {V : Type 0} → ℕ → Node → Phase → Answer (OpenFailure V) × Phase
registered life node (Published now agreed nodes) =
    if now == life then (if is_in node nodes || nat_lt (length nodes) (max_nodes_of agreed.settings) then
    (Some (Ok false), Published now agreed (entered node nodes))
    else (Some (Err unopened.ExceedsMaxNumberOfNodes), Published now agreed nodes)) else (None, Published now agreed nodes)
registered life node (Emptied now agreed by) =
    (if now == life then Some (Err unopened.IsMarkedForDestruction) else None, Emptied now agreed by)
registered life node phase = (None, phase)

module _ (types : MessageTypeDetails) (pattern : MessagingPattern) (steps : List StepBefore) (node : Node) where
  -- A storage operation. First, other nodes do the actions that are asked for before it; then `Found` says how the call goes on with the
  -- phase that the storage operation finds. Or memory runs out at the storage operation or at one of these actions, and the actions before
  -- it stay done.
  abbrev pub Access : {F : Type 0} → F → (Phase → Call → Answer F → Call → Type 0) → Call → Answer F → Call → Type 0
  Access lacking Found call answer after =
      let meanwhile = map (λ before. before.step) (filter (λ before. before.access == call.accesses + 1) steps) in
      let next = fold (acted types pattern) call.phase meanwhile in
      Found next (record { phase = next; accesses = call.accesses + 1 }) answer after
      ⊎ ((done : ℕ) × Fails lacking (record call { phase = fold (acted types pattern) call.phase (take done meanwhile) }) answer after)

  module _ (agreed : Agreement) where
    -- What a call does with the phase that its lock finds. If the phase is absent, the service is made and published at once; or memory
    -- runs out, and the lock is released.
    abbrev pub Locks : Phase → Call → Answer CreateFailure → Call → Type 0
    Locks (Absent lives) call answer after =
        ((answer ≡ Some (Ok true)) × (after ≡ record call { phase = Published (lives + 1) agreed ((node, 1) ∷ []) }))
        ⊎ Fails uncreated.OutOfMemory (record call { phase = Absent (lives + 1) }) answer after
    Locks (BeingMade life by) call answer after = Fails uncreated.IsBeingCreatedByAnotherInstance call answer after
    Locks found call answer after = Fails uncreated.AlreadyExists call answer after

    -- What a creation does with the phase that its lookup finds: if the phase is absent, it locks.
    abbrev pub CreateLooks : Phase → Call → Answer CreateFailure → Call → Type 0
    CreateLooks (Absent lives) call answer after = Access uncreated.OutOfMemory Locks call answer after
    CreateLooks (BeingMade life by) call answer after = Fails uncreated.HangsInCreation call answer after
    CreateLooks found call answer after = Fails uncreated.AlreadyExists call answer after

    -- `create` refuses impossible settings before its lookup.
    abbrev pub Creates : Call → Answer CreateFailure → Call → Type 0
    Creates call answer after =
        MatchOption (unfit agreed.settings) (Access uncreated.OutOfMemory CreateLooks call answer after)
        (λ failure. Fails failure call answer after)

  module _ {V : Type 0} (verdict : Agreement → Result (Unit {0}) V) where
    -- A service that was found is opened if it meets what is asked for: the node registers in the lifetime that was found.
    abbrev pub OpensFound : ℕ → Agreement → Call → Answer (OpenFailure V) → Call → Type 0
    OpensFound life agreed call answer after =
        MatchResult (verdict agreed)
        (λ met. Access unopened.OutOfMemory
        (λ phase now found later. (found ≡ (registered {V = V} life node phase).0) ×
        (later ≡ record now { phase = (registered {V = V} life node phase).1 })) call answer after)
        (λ unmet. Fails (unopened.Clause unmet) call answer after)

    -- What an opening does with the phase that its lookup finds.
    abbrev pub OpenLooks : Phase → Call → Answer (OpenFailure V) → Call → Type 0
    OpenLooks (Absent lives) call answer after = Fails unopened.DoesNotExist call answer after
    OpenLooks (BeingMade life by) call answer after = Fails unopened.HangsInCreation call answer after
    OpenLooks (Published life agreed nodes) call answer after = OpensFound life agreed call answer after
    OpenLooks (Emptied life agreed by) call answer after = OpensFound life agreed call answer after

    module _ (agreed : Agreement) where
      -- What `open_or_create` does with the phase that its lookup finds: if the phase is absent, the service is created, provided that its
      -- settings are possible; otherwise the service is opened.
      abbrev pub EitherLooks : Phase → Call → Answer (OpenOrCreateFailure V) → Call → Type 0
      EitherLooks (Absent lives) call answer after =
          MatchOption (unfit agreed.settings)
          ((made : Answer CreateFailure) × Access uncreated.OutOfMemory (Locks agreed) call made after × (answer ≡ created made))
          (λ failure. Fails (neither.Create failure) call answer after)
      EitherLooks phase call answer after =
          (found : Answer (OpenFailure V)) × OpenLooks phase call found after
          × (answer ≡ option_map (result_map_both (λ is_new. is_new) neither.Open) found)
