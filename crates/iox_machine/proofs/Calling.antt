-- A call of a node may come to an answer that doesn't report that memory ran out.
use Rattle.std.proofs.Common.{◌≡◌, ◌⊎◌, ◌+◌, ℕ, zero, suc, Bool, true, false, cond, not, ◌&&◌, ◌||◌, List, [], ◌∷◌, length, map}
use Rattle.std.proofs.Common.{Option, None, Some, Result, Ok, Err, refl, sym, subst, inl, inr}
use Rattle.std.specs.Prelude.{⊤, ◌==◌, filter, fold, nat_lt, option_map, MatchOption, MatchResult}
use Rattle.std.specs.Result.{result_map_both}
use Rattle.iox_machine.proofs.Cases.{never-some, same-some}
use Rattle.iox_machine.proofs.Shorthands.{Opens, OpensOrCreates}
use Rattle.iox_machine.proofs.Verdicts.{verdicts-are-so}
use Rattle.iox_machine.specs.Agreement.{Agreement, are_within_limits, unfit, verdict}
use Rattle.iox_machine.specs.MemoryLaws.{is_for_memory}
use Rattle.iox_machine.specs.Negotiation.{Access, Answer, Call, CreateLooks, Creates, EitherLooks, Locks, OpenLooks, Rounds, created}
use Rattle.iox_machine.specs.Negotiation.{OpensFound, registered}
use Rattle.iox_machine.specs.Phase.{Absent, BeingMade, Emptied, Node, Phase, Published, acted, entered as entered_by, is_in}
use Rattle.iox_machine.specs.Refusals.{create_refusal, either_refusal, open_refusal, within_either}
use Rattle.iox_command.specs.NegotiateBase.DescribeBase.Attributes.{Required}
use Rattle.iox_command.specs.NegotiateBase.DescribeBase.declared.message_type.MessageTypeDetails.{MessageTypeDetails}
use Rattle.iox_command.specs.NegotiateBase.DescribeBase.declared.pattern.MessagingPattern.{MessagingPattern}
use Rattle.iox_command.specs.NegotiateBase.DescribeSettings.Agreement.{max_nodes_of}
use Rattle.iox_command.specs.NegotiateBase.DescribeSettings.declared.static_config.Settings.{Settings}
use Rattle.iox_command.specs.NegotiateBase.DescribeSettings.declared.static_config.Settings.TheVariants as settings
use Rattle.iox_command.specs.NegotiateBase.declared.failure.CreateFailure.{CreateFailure}
use Rattle.iox_command.specs.NegotiateBase.declared.failure.CreateFailure.TheVariants as uncreated
use Rattle.iox_command.specs.NegotiateBase.declared.failure.OpenFailure.{OpenFailure}
use Rattle.iox_command.specs.NegotiateBase.declared.failure.OpenFailure.TheVariants as unopened
use Rattle.iox_command.specs.NegotiateBase.declared.failure.OpenOrCreateFailure.{OpenOrCreateFailure}
use Rattle.iox_command.specs.NegotiateBase.declared.failure.OpenOrCreateFailure.TheVariants as neither
use Rattle.iox_command.specs.declared.refusal.Refusal.{Refusal}
use Rattle.iox_command.specs.declared.service.ServiceOptions.{ServiceOptions}
use Rattle.iox_command.specs.declared.service.ServiceOptions.TheVariants as options
use Rattle.iox_command.specs.declared.step.ForeignStep.{ForeignStep}
use Rattle.iox_command.specs.declared.step.StepBefore.{StepBefore}

-- ---- refusals

-- The refusal doesn't report that memory ran out.
abbrev pub IsOther : Refusal → Type 0
IsOther why = is_for_memory why ≡ false

-- So isn't any failure reported that a creation may have but for memory.
abbrev pub CreatesOther : (CreateFailure → Refusal) → Type 0
CreatesOther told =
    IsOther (told uncreated.InternalFailure) × IsOther (told uncreated.SubscriberBufferMustBeLargerThanHistorySize)
    × IsOther (told uncreated.HangsInCreation) × IsOther (told uncreated.AlreadyExists)
    × IsOther (told uncreated.IsBeingCreatedByAnotherInstance)

-- So isn't any failure reported that an opening may have but for memory.
abbrev OpensOther : (OpenFailure Refusal → Refusal) → Type 0
OpensOther told =
    IsOther (told unopened.DoesNotExist) × IsOther (told unopened.HangsInCreation) × IsOther (told unopened.ExceedsMaxNumberOfNodes)
    × IsOther (told unopened.IsMarkedForDestruction) × IsOther (told unopened.ServiceInCorruptedState)

-- A refusal is one of an opening, but not for memory.
abbrev IsOtherBoth : Refusal → Type 0
IsOtherBoth why = IsOther why × IsOther (within_either why)

pub creates-other : (named : ServiceOptions) → CreatesOther (create_refusal named)
creates-other (options.PublishSubscribe named) = (refl, refl, refl, refl, refl)
creates-other (options.Event named) = (refl, refl, refl, refl, refl)
creates-other (options.RequestResponse named) = (refl, refl, refl, refl, refl)

opens-other : (named : ServiceOptions) → OpensOther (open_refusal named)
opens-other (options.PublishSubscribe named) = (refl, refl, refl, refl, refl)
opens-other (options.Event named) = (refl, refl, refl, refl, refl)
opens-other (options.RequestResponse named) = (refl, refl, refl, refl, refl)

either-creates-other : (named : ServiceOptions) → CreatesOther (λ failure. either_refusal named (neither.Create failure))
either-creates-other (options.PublishSubscribe named) = (refl, refl, refl, refl, refl)
either-creates-other (options.Event named) = (refl, refl, refl, refl, refl)
either-creates-other (options.RequestResponse named) = (refl, refl, refl, refl, refl)

either-opens-other : (named : ServiceOptions) → OpensOther (λ failure. either_refusal named (neither.Open failure))
either-opens-other (options.PublishSubscribe named) = (refl, refl, refl, refl, refl)
either-opens-other (options.Event named) = (refl, refl, refl, refl, refl)
either-opens-other (options.RequestResponse named) = (refl, refl, refl, refl, refl)

in-flux-other : (named : ServiceOptions) → IsOther (either_refusal named neither.SystemInFlux)
in-flux-other (options.PublishSubscribe named) = refl
in-flux-other (options.Event named) = refl
in-flux-other (options.RequestResponse named) = refl

-- impossible settings are refused, but not for memory
pub unfit-other : (told : CreateFailure → Refusal) → CreatesOther told → (given : Settings) (failure : CreateFailure)
    → unfit given ≡ Some failure → IsOther (told failure)
unfit-other told fine (settings.PublishSubscribe c) failure is =
    within (not (are_within_limits (settings.PublishSubscribe c)))
    (not c.enable_safe_overflow && nat_lt c.subscriber_max_buffer_size c.history_size) is
  where
    within : (b d : Bool)
        → cond b (Some uncreated.InternalFailure)
        (cond d (Some uncreated.SubscriberBufferMustBeLargerThanHistorySize) None) ≡ Some failure → IsOther (told failure)
    within true d is = subst (λ (it : CreateFailure). IsOther (told it)) (same-some uncreated.InternalFailure failure is) fine.0
    within false true is =
        subst (λ (it : CreateFailure). IsOther (told it))
        (same-some uncreated.SubscriberBufferMustBeLargerThanHistorySize failure is) fine.1
    within false false is = never-some failure is
unfit-other told fine (settings.Event c) failure is = within (are_within_limits (settings.Event c)) is
  where
    within : (b : Bool) → cond b None (Some uncreated.InternalFailure) ≡ Some failure → IsOther (told failure)
    within true is = never-some failure is
    within false is = subst (λ (it : CreateFailure). IsOther (told it)) (same-some uncreated.InternalFailure failure is) fine.0
unfit-other told fine (settings.RequestResponse c) failure is = within (are_within_limits (settings.RequestResponse c)) is
  where
    within : (b : Bool) → cond b None (Some uncreated.InternalFailure) ≡ Some failure → IsOther (told failure)
    within true is = never-some failure is
    within false is = subst (λ (it : CreateFailure). IsOther (told it)) (same-some uncreated.InternalFailure failure is) fine.0

-- what a verdict on clauses comes to
abbrev IsMetOrOther : Result (Unit {0}) Refusal → Type 0
IsMetOrOther verdict = MatchResult verdict (λ met. ⊤) (λ unmet. IsOtherBoth unmet)

all-met : (found : Result (Unit {0}) Refusal) → found ≡ Ok tt → IsMetOrOther found
all-met found is = subst IsMetOrOther (sym is) tt

or-told : {Clause Rest : Type 0} {error : Refusal} (found : Result (Unit {0}) Refusal)
    → (Clause × Rest) ⊎ ((Clause → ⊥) × (found ≡ Err error)) → IsOtherBoth error → (Rest → IsMetOrOther found) → IsMetOrOther found
or-told found (inl met) other on = on met.1
or-told found (inr unmet) other on = subst IsMetOrOther (sym unmet.1) other

verdict-other : (types : MessageTypeDetails) (named : ServiceOptions) (required : Required) (agreed : Agreement)
    → IsMetOrOther (verdict types named required agreed)
verdict-other types named required agreed = here named agreed.settings
  where
    on : ServiceOptions → Settings → Result (Unit {0}) Refusal
    on named given = verdict types named required (record { settings = given; attributes = agreed.attributes })

    here : (named : ServiceOptions) (given : Settings) → IsMetOrOther (on named given)
    here (options.PublishSubscribe named) (settings.PublishSubscribe c) =
        let found = on (options.PublishSubscribe named) (settings.PublishSubscribe c) in
        or-told found (verdicts-are-so types (options.PublishSubscribe named) required agreed.attributes (settings.PublishSubscribe c))
        (refl, refl)
        (λ rest.
        or-told found rest (refl, refl) (λ rest.
        or-told found rest (refl, refl) (λ rest.
        or-told found rest (refl, refl) (λ rest.
        or-told found rest (refl, refl) (λ rest.
        or-told found rest (refl, refl) (λ rest.
        or-told found rest (refl, refl) (λ rest.
        or-told found rest (refl, refl) (λ rest.
        or-told found rest (refl, refl) (λ rest.
        or-told found rest (refl, refl) (λ rest.
        all-met found rest))))))))))
    here (options.PublishSubscribe named) (settings.Event c) = (refl, refl)
    here (options.PublishSubscribe named) (settings.RequestResponse c) = (refl, refl)
    here (options.Event named) (settings.PublishSubscribe c) = (refl, refl)
    here (options.Event named) (settings.Event c) =
        let found = on (options.Event named) (settings.Event c) in
        or-told found (verdicts-are-so types (options.Event named) required agreed.attributes (settings.Event c)) (refl, refl)
        (λ rest.
        or-told found rest (refl, refl) (λ rest.
        or-told found rest (refl, refl) (λ rest.
        or-told found rest (refl, refl) (λ rest.
        or-told found rest (refl, refl) (λ rest.
        or-told found rest (refl, refl) (λ rest.
        or-told found rest (refl, refl) (λ rest.
        or-told found rest (refl, refl) (λ rest.
        or-told found rest (refl, refl) (λ rest.
        all-met found rest)))))))))
    here (options.Event named) (settings.RequestResponse c) = (refl, refl)
    here (options.RequestResponse named) (settings.PublishSubscribe c) = (refl, refl)
    here (options.RequestResponse named) (settings.Event c) = (refl, refl)
    here (options.RequestResponse named) (settings.RequestResponse c) =
        let found = on (options.RequestResponse named) (settings.RequestResponse c) in
        or-told found (verdicts-are-so types (options.RequestResponse named) required agreed.attributes (settings.RequestResponse c))
        (refl, refl)
        (λ rest.
        or-told found rest (refl, refl) (λ rest.
        or-told found rest (refl, refl) (λ rest.
        or-told found rest (refl, refl) (λ rest.
        or-told found rest (refl, refl) (λ rest.
        or-told found rest (refl, refl) (λ rest.
        or-told found rest (refl, refl) (λ rest.
        or-told found rest (refl, refl) (λ rest.
        or-told found rest (refl, refl) (λ rest.
        or-told found rest (refl, refl) (λ rest.
        or-told found rest (refl, refl) (λ rest.
        or-told found rest (refl, refl) (λ rest.
        or-told found rest (refl, refl) (λ rest.
        all-met found rest)))))))))))))

-- ---- calls

-- An answer of a round, if it is a failure, is reported by another refusal than one for memory.
abbrev IsFine : {F : Type 0} → (F → Refusal) → Answer F → Type 0
IsFine told None = ⊤
IsFine told (Some (Ok is_new)) = ⊤
IsFine told (Some (Err failure)) = IsOther (told failure)

-- So is the outcome of a call.
abbrev IsOver : {F : Type 0} → (F → Refusal) → Answer F → Type 0
IsOver told None = ⊥
IsOver told (Some (Ok is_new)) = ⊤
IsOver told (Some (Err failure)) = IsOther (told failure)

-- Something comes of a call that is so.
abbrev Comes : {F : Type 0} → (Answer F → Type 0) → (Answer F → Call → Type 0) → Type 0
Comes {F} Is Does = (answer : Answer F) × (after : Call) × Does answer after × Is answer

-- The outcome of a call isn't that memory ran out.
abbrev pub Ends : {F : Type 0} → (F → Refusal) → (Answer F → Call → Type 0) → Type 0
Ends {F} told Does =
    (found : Result Bool F) × (after : Call) × Does (Some found) after × MatchResult found (λ is_new. ⊤) (λ failure. IsOther (told failure))

module _ {F : Type 0} where
  fails : (Is : Answer F → Type 0) (failure : F) (call : Call) → Is (Some (Err failure))
      → Comes Is (λ answer after. (answer ≡ Some (Err failure)) × (after ≡ call))
  fails Is failure call other = (Some (Err failure), call, (refl, refl), other)

  access : (Is : Answer F → Type 0) (types : MessageTypeDetails) (pattern : MessagingPattern) (steps : List StepBefore) (node : Node)
      (lacking : F) (Found : Phase → Call → Answer F → Call → Type 0) (call : Call)
      → ((next : Phase) (mid : Call) → Comes Is (Found next mid)) → Comes Is (Access types pattern steps node lacking Found call)
  access Is types pattern steps node lacking Found call goes =
      let meanwhile : List ForeignStep =
      map (λ (before : StepBefore). before.step) (filter (λ (before : StepBefore). before.access == call.accesses + 1) steps) in
      let next : Phase = fold (acted types pattern) call.phase meanwhile in
      let did = goes next (record { phase = next; accesses = call.accesses + 1 }) in
      (did.0, did.1, inl did.2, did.3)

  ends : (told : F → Refusal) (Does : Answer F → Call → Type 0) → Comes (IsOver told) Does → Ends told Does
  ends told Does (None, after, did, over) = absurd over
  ends told Does (Some (Ok is_new), after, did, over) = (Ok is_new, after, did, tt)
  ends told Does (Some (Err failure), after, did, over) = (Err failure, after, did, over)

  rounds : (told : F → Refusal) (Round : Call → Answer F → Call → Type 0) (exhausted : F) → IsOther (told exhausted)
      → ((call : Call) → Comes (IsFine told) (Round call)) → (count : ℕ) (call : Call) → Ends told (Rounds Round exhausted count call)
  rounds told Round exhausted other goes zero call = (Err exhausted, call, (refl, refl), other)
  rounds told Round exhausted other goes (suc count) call =
      here (goes call) (λ mid. rounds told Round exhausted other goes count mid)
    where
      here : Comes (IsFine told) (Round call) → ((mid : Call) → Ends told (Rounds Round exhausted count mid))
          → Ends told (Rounds Round exhausted (suc count) call)
      here (None, mid, went, fine) more = let rest = more mid in (rest.0, rest.1, (mid, None, went, rest.2), rest.3)
      here (Some (Ok is_new), mid, went, fine) more = (Ok is_new, mid, (mid, Some (Ok is_new), went, (refl, refl)), tt)
      here (Some (Err failure), mid, went, fine) more = (Err failure, mid, (mid, Some (Err failure), went, (refl, refl)), fine)

module _ (types : MessageTypeDetails) (pattern : MessagingPattern) (steps : List StepBefore) (node : Node) where
  module _ (agreed : Agreement) where
    locks : (Is : Answer CreateFailure → Type 0) → Is (Some (Ok true)) → Is (Some (Err uncreated.IsBeingCreatedByAnotherInstance))
        → Is (Some (Err uncreated.AlreadyExists)) → (found : Phase) (call : Call)
        → Comes Is (Locks types pattern steps node agreed found call)
    locks Is made making exists (Absent lives) call = (
      Some (Ok true),
      record call { phase = Published (lives + 1) agreed ((node, 1) ∷ []) },
      inl (refl, refl),
      made,
    )
    locks Is made making exists (BeingMade life by) call = fails Is uncreated.IsBeingCreatedByAnotherInstance call making
    locks Is made making exists (Published life other nodes) call = fails Is uncreated.AlreadyExists call exists
    locks Is made making exists (Emptied life other by) call = fails Is uncreated.AlreadyExists call exists

    create-looks : (told : CreateFailure → Refusal) → CreatesOther told → (found : Phase) (call : Call)
        → Comes (IsOver told) (CreateLooks types pattern steps node agreed found call)
    create-looks told fine (Absent lives) call =
        access (IsOver told) types pattern steps node uncreated.OutOfMemory (Locks types pattern steps node agreed) call
        (locks (IsOver told) tt fine.4 fine.3)
    create-looks told fine (BeingMade life by) call = fails (IsOver told) uncreated.HangsInCreation call fine.2
    create-looks told fine (Published life other nodes) call = fails (IsOver told) uncreated.AlreadyExists call fine.3
    create-looks told fine (Emptied life other by) call = fails (IsOver told) uncreated.AlreadyExists call fine.3

    pub creates-end : (named : ServiceOptions) → unfit agreed.settings ≡ None → (call : Call)
        → Ends (create_refusal named) (Creates types pattern steps node agreed call)
    creates-end named fit call =
        subst (λ (o : Option CreateFailure). Ends (create_refusal named) (Body o)) (sym fit)
        (ends (create_refusal named) (Body None)
        (access (IsOver (create_refusal named)) types pattern steps node uncreated.OutOfMemory
        (CreateLooks types pattern steps node agreed) call (create-looks (create_refusal named) (creates-other named))))
      where
        Body : Option CreateFailure → Answer CreateFailure → Call → Type 0
        Body o answer after =
            MatchOption o
            (Access types pattern steps node uncreated.OutOfMemory (CreateLooks types pattern steps node agreed) call answer after)
            (λ failure. (answer ≡ Some (Err failure)) × (after ≡ call))

  module _ (named : ServiceOptions) (required : Required) where
    abbrev pub asks : Agreement → Result (Unit {0}) Refusal
    asks = verdict types named required

    registers : (Is : Answer (OpenFailure Refusal) → Type 0) → Is None → Is (Some (Ok false))
        → Is (Some (Err unopened.ExceedsMaxNumberOfNodes)) → Is (Some (Err unopened.IsMarkedForDestruction)) → (life : ℕ) (phase : Phase)
        → Is (registered {V = Refusal} life node phase).0
    registers Is over entered full marked life (Absent lives) = over
    registers Is over entered full marked life (BeingMade other by) = over
    registers Is over entered full marked life (Published now agreed nodes) =
        here (now == life) (is_in node nodes || nat_lt (length nodes) (max_nodes_of agreed.settings))
      where
        here : (b c : Bool)
            → Is (cond {A = Answer (OpenFailure Refusal) × Phase} b (cond {A = Answer (OpenFailure Refusal) × Phase} c
            (Some (Ok false), Published now agreed (entered_by node nodes))
            (Some (Err unopened.ExceedsMaxNumberOfNodes), Published now agreed nodes)) (None, Published now agreed nodes)).0
        here true true = entered
        here true false = full
        here false c = over
    registers Is over entered full marked life (Emptied now agreed by) = here (now == life)
      where
        here : (b : Bool) → Is (cond b (Some (Err unopened.IsMarkedForDestruction)) None)
        here true = marked
        here false = over

    found-so : (told : OpenFailure Refusal → Refusal) → OpensOther told
        → ((agreed : Agreement) → MatchResult (asks agreed) (λ met. ⊤) (λ unmet. IsOther (told (unopened.Clause unmet))))
        → (life : ℕ) (agreed : Agreement) (call : Call) → Comes (IsFine told) (OpensFound types pattern steps node asks life agreed call)
    found-so told fine clause life agreed call = here (asks agreed) (clause agreed)
      where
        Registers : Phase → Call → Answer (OpenFailure Refusal) → Call → Type 0
        Registers phase now found later =
            (found ≡ (registered {V = Refusal} life node phase).0)
            × (later ≡ record now { phase = (registered {V = Refusal} life node phase).1 })

        here : (met : Result (Unit {0}) Refusal) → MatchResult met (λ it. ⊤) (λ unmet. IsOther (told (unopened.Clause unmet)))
            → Comes (IsFine told) (λ answer after. MatchResult met
            (λ it. Access types pattern steps node unopened.OutOfMemory Registers call answer after)
            (λ unmet. (answer ≡ Some (Err (unopened.Clause unmet))) × (after ≡ call)))
        here (Ok it) other =
            access (IsFine told) types pattern steps node unopened.OutOfMemory Registers call
            (λ phase now. (
              (registered {V = Refusal} life node phase).0,
              record now { phase = (registered {V = Refusal} life node phase).1 },
              (refl, refl),
              registers (IsFine told) tt tt fine.2 fine.3 life phase,
            ))
        here (Err unmet) other = fails (IsFine told) (unopened.Clause unmet) call other

    open-looks : (told : OpenFailure Refusal → Refusal) → OpensOther told
        → ((agreed : Agreement) → MatchResult (asks agreed) (λ met. ⊤) (λ unmet. IsOther (told (unopened.Clause unmet))))
        → (found : Phase) (call : Call) → Comes (IsFine told) (OpenLooks types pattern steps node asks found call)
    open-looks told fine clause (Absent lives) call = fails (IsFine told) unopened.DoesNotExist call fine.0
    open-looks told fine clause (BeingMade life by) call = fails (IsFine told) unopened.HangsInCreation call fine.1
    open-looks told fine clause (Published life agreed nodes) call = found-so told fine clause life agreed call
    open-looks told fine clause (Emptied life agreed by) call = found-so told fine clause life agreed call

    pub opens-end : (call : Call) → Ends (open_refusal named) (Opens types pattern steps node asks call)
    opens-end call =
        rounds (open_refusal named)
        (Access types pattern steps node unopened.OutOfMemory (OpenLooks types pattern steps node asks)) unopened.ServiceInCorruptedState
        (opens-other named).4
        (λ round. access (IsFine (open_refusal named)) types pattern steps node unopened.OutOfMemory
        (OpenLooks types pattern steps node asks) round
        (open-looks (open_refusal named) (opens-other named) (λ agreed. here (asks agreed) (verdict-other types named required agreed))))
        5 call
      where
        here : (met : Result (Unit {0}) Refusal) → IsMetOrOther met
            → MatchResult met (λ it. ⊤) (λ unmet. IsOther (open_refusal named (unopened.Clause unmet)))
        here (Ok it) other = tt
        here (Err unmet) other = other.0

    module _ (agreed : Agreement) where
      abbrev pub told_either : OpenOrCreateFailure Refusal → Refusal
      told_either = either_refusal named

      opens-so : (phase : Phase) (call : Call)
          → Comes (IsFine told_either) (λ answer after. (found : Answer (OpenFailure Refusal))
          × OpenLooks types pattern steps node asks phase call found after
          × (answer ≡ option_map (result_map_both (λ is_new. is_new) neither.Open) found))
      opens-so phase call =
          here (open-looks (λ failure. told_either (neither.Open failure)) (either-opens-other named)
          (λ other. clause (asks other) (verdict-other types named required other)) phase call)
        where
          clause : (met : Result (Unit {0}) Refusal) → IsMetOrOther met
              → MatchResult met (λ it. ⊤) (λ unmet. IsOther (told_either (neither.Open (unopened.Clause unmet))))
          clause (Ok it) other = tt
          clause (Err unmet) other = other.1

          here : Comes (IsFine (λ failure. told_either (neither.Open failure))) (OpenLooks types pattern steps node asks phase call)
              → Comes (IsFine told_either) (λ answer after. (found : Answer (OpenFailure Refusal))
              × OpenLooks types pattern steps node asks phase call found after
              × (answer ≡ option_map (result_map_both (λ is_new. is_new) neither.Open) found))
          here (None, after, did, fine) = (None, after, (None, did, refl), tt)
          here (Some (Ok is_new), after, did, fine) = (Some (Ok is_new), after, (Some (Ok is_new), did, refl), tt)
          here (Some (Err failure), after, did, fine) =
              (Some (Err (neither.Open failure)), after, (Some (Err failure), did, refl), fine)

      either-looks : (found : Phase) (call : Call)
          → Comes (IsFine told_either) (EitherLooks types pattern steps node asks agreed found call)
      either-looks (Absent lives) call = absent (unfit agreed.settings) refl
        where
          made : Comes (λ (it : Answer CreateFailure). IsFine told_either (created {V = Refusal} it))
              (Access types pattern steps node uncreated.OutOfMemory (Locks types pattern steps node agreed) call)
          made =
              access (λ (it : Answer CreateFailure). IsFine told_either (created {V = Refusal} it)) types pattern steps node
              uncreated.OutOfMemory (Locks types pattern steps node agreed) call
              (locks agreed (λ (it : Answer CreateFailure). IsFine told_either (created {V = Refusal} it)) tt tt tt)

          absent : (o : Option CreateFailure) → unfit agreed.settings ≡ o
              → Comes (IsFine told_either) (λ answer after. MatchOption o
              ((made : Answer CreateFailure)
              × Access types pattern steps node uncreated.OutOfMemory (Locks types pattern steps node agreed) call made after
              × (answer ≡ created made))
              (λ failure. (answer ≡ Some (Err (neither.Create failure))) × (after ≡ call)))
          absent None fit = (created made.0, made.1, (made.0, made.2, refl), made.3)
          absent (Some failure) is =
              fails (IsFine told_either) (neither.Create failure) call
              (unfit-other (λ it. told_either (neither.Create it)) (either-creates-other named) agreed.settings failure is)
      either-looks (BeingMade life by) call = opens-so (BeingMade life by) call
      either-looks (Published life other nodes) call = opens-so (Published life other nodes) call
      either-looks (Emptied life other by) call = opens-so (Emptied life other by) call

      pub either-ends : (call : Call) → Ends told_either (OpensOrCreates types pattern steps node asks agreed call)
      either-ends call =
          rounds told_either
          (Access types pattern steps node (neither.Open unopened.OutOfMemory) (EitherLooks types pattern steps node asks agreed))
          neither.SystemInFlux (in-flux-other named)
          (λ round. access (IsFine told_either) types pattern steps node (neither.Open unopened.OutOfMemory)
          (EitherLooks types pattern steps node asks agreed) round either-looks)
          5 call
