-- Calls of the machine whose clauses are stated in other words, and builders that report failures as the machine does.
use Rattle.std.proofs.Common.{◌≡◌, ℕ, zero, suc, ◌&&◌, Bool, true, false, cond, List, Option, None, Some, Result, Ok, Err, refl, ap, subst}
use Rattle.std.proofs.Common.{◌⊎◌, ◌∙◌, inl, inr}
use Rattle.std.specs.Prelude.{◌==◌, ◌||◌, length, nat_le, nat_lt, option_map, MatchBool, MatchOption, MatchResult}
use Rattle.std.specs.Result.{result_map_both}
use Rattle.iox_command.specs.NegotiateBase.DescribeBase.Attributes.{Required}
use Rattle.iox_command.specs.NegotiateBase.DescribeBase.declared.message_type.MessageTypeDetails.{MessageTypeDetails}
use Rattle.iox_command.specs.NegotiateBase.DescribeBase.declared.pattern.MessagingPattern.{MessagingPattern}
use Rattle.iox_command.specs.NegotiateBase.DescribeVerdict.declared.requirement.event.ClauseError.{ClauseError as EventClause}
use Rattle.iox_command.specs.NegotiateBase.DescribeVerdict.declared.requirement.publish_subscribe.ClauseError as publish_subscribe_unmet
use Rattle.iox_command.specs.NegotiateBase.DescribeVerdict.declared.requirement.request_response.ClauseError as request_response_unmet
use Rattle.iox_command.specs.NegotiateBase.DescribeSettings.Agreement.{max_nodes_of}
use Rattle.iox_command.specs.NegotiateBase.EventErrors as event
use Rattle.iox_command.specs.NegotiateBase.PublishSubscribeErrors as publish_subscribe
use Rattle.iox_command.specs.NegotiateBase.RequestResponseErrors as request_response
use Rattle.iox_command.specs.NegotiateBase.declared.failure.CreateFailure.{CreateFailure}
use Rattle.iox_command.specs.NegotiateBase.declared.failure.CreateFailure.TheVariants as uncreated
use Rattle.iox_command.specs.NegotiateBase.declared.failure.OpenFailure.{OpenFailure}
use Rattle.iox_command.specs.NegotiateBase.declared.failure.OpenFailure.TheVariants as unopened
use Rattle.iox_command.specs.NegotiateBase.declared.failure.OpenOrCreateFailure.{OpenOrCreateFailure}
use Rattle.iox_command.specs.NegotiateBase.declared.failure.OpenOrCreateFailure.TheVariants as neither
use Rattle.iox_command.specs.declared.refusal.Refusal.{Refusal}
use Rattle.iox_command.specs.declared.refusal.Refusal.TheVariants as refusal
use Rattle.iox_command.specs.declared.reply.Reply.{Reply}
use Rattle.iox_command.specs.declared.service.EventOptions.{EventOptions}
use Rattle.iox_command.specs.declared.service.PublishSubscribeOptions.{PublishSubscribeOptions}
use Rattle.iox_command.specs.declared.service.RequestResponseOptions.{RequestResponseOptions}
use Rattle.iox_command.specs.declared.service.ServiceOptions.{ServiceOptions}
use Rattle.iox_command.specs.declared.service.ServiceOptions.TheVariants as options
use Rattle.iox_command.specs.declared.step.StepBefore.{StepBefore}
use Rattle.iox_machine.proofs.Shorthands.{IsRefused, IsSkipped, Opens, OpensOrCreates, either_lacking, opened}
use Rattle.iox_machine.specs.Agreement.{Agreement, unfit, verdict}
use Rattle.iox_machine.specs.Asked.{settings_of}
use Rattle.iox_machine.specs.Factories.{Enters, Negotiates, OpensService, OpensOrCreatesService}
use Rattle.iox_machine.specs.Negotiation.{Access, Answer, Call, EitherLooks, Fails, Locks, OpenLooks, OpensFound, Rounds, created}
use Rattle.iox_machine.specs.Negotiation.{registered}
use Rattle.iox_machine.specs.Phase.{Node, Own, Phase, Absent, BeingMade, Published, Emptied, entered, is_in}
use Rattle.iox_machine.specs.Refusals.{create_refusal, open_refusal, within_either, either_refusal}
use Rattle.iox_machine.specs.State.{Factory, State, with_phase}

-- a failure to open, of which a clause is told in other words
abbrev pub open_as : {V W : Type 0} → (V → W) → OpenFailure V → OpenFailure W
open_as told (unopened.Clause unmet) = unopened.Clause (told unmet)
open_as told unopened.DoesNotExist = unopened.DoesNotExist
open_as told unopened.InsufficientPermissions = unopened.InsufficientPermissions
open_as told unopened.ServiceInCorruptedState = unopened.ServiceInCorruptedState
open_as told unopened.InternalFailure = unopened.InternalFailure
open_as told unopened.HangsInCreation = unopened.HangsInCreation
open_as told unopened.ExceedsMaxNumberOfNodes = unopened.ExceedsMaxNumberOfNodes
open_as told unopened.IsMarkedForDestruction = unopened.IsMarkedForDestruction
open_as told unopened.OutOfMemory = unopened.OutOfMemory

-- a failure to open or create, of which a clause is told in other words
abbrev pub either_as : {V W : Type 0} → (V → W) → OpenOrCreateFailure V → OpenOrCreateFailure W
either_as told (neither.Open failure) = neither.Open (open_as told failure)
either_as told (neither.Create failure) = neither.Create failure
either_as told neither.SystemInFlux = neither.SystemInFlux

-- an answer of which a failure is told in other words
abbrev pub answer_as : {F G : Type 0} → (F → G) → Answer F → Answer G
answer_as told answer = option_map (result_map_both (λ is_new. is_new) told) answer

module _ {F G : Type 0} (told : F → G) where
  fails-as : (failure : F) (call : Call) (answer : Answer F) (after : Call) → Fails failure call answer after
      → Fails (told failure) call (answer_as told answer) after
  fails-as failure call answer after (is, same) = (ap (answer_as told) is, same)

  rounds-as : (One : Call → Answer F → Call → Type 0) (Other : Call → Answer G → Call → Type 0)
      → ((call : Call) (answer : Answer F) (after : Call) → One call answer after → Other call (answer_as told answer) after)
      → (exhausted : F) (count : ℕ) (call : Call) (answer : Answer F) (after : Call)
      → Rounds One exhausted count call answer after → Rounds Other (told exhausted) count call (answer_as told answer) after
  rounds-as One Other round exhausted zero call answer after failed = fails-as exhausted call answer after failed
  rounds-as One Other round exhausted (suc count) call answer after (mid, None, went, more) =
      (mid, None, round call None mid went, rounds-as One Other round exhausted count mid answer after more)
  rounds-as One Other round exhausted (suc count) call answer after (mid, Some found, went, (is, same)) =
      (mid, answer_as told (Some found), round call (Some found) mid went, (ap (answer_as told) is, same))

  module _ (types : MessageTypeDetails) (pattern : MessagingPattern) (steps : List StepBefore) (node : Node) where
    access-as : (lacking : F) (One : Phase → Call → Answer F → Call → Type 0) (Other : Phase → Call → Answer G → Call → Type 0)
        → ((phase : Phase) (call : Call) (answer : Answer F) (after : Call) → One phase call answer after
        → Other phase call (answer_as told answer) after)
        → (call : Call) (answer : Answer F) (after : Call) → Access types pattern steps node lacking One call answer after
        → Access types pattern steps node (told lacking) Other call (answer_as told answer) after
    access-as lacking One Other found call answer after (inl went) = inl (found _ _ answer after went)
    access-as lacking One Other found call answer after (inr (done, failed)) = inr (done, fails-as lacking _ answer after failed)

  module _ {T : Type 0} (Calls : Call → Answer F → Call → Type 0) (Others : Call → Answer G → Call → Type 0)
      (calls : (call : Call) (answer : Answer F) (after : Call) → Calls call answer after → Others call (answer_as told answer) after)
      (one : F → Refusal) (other : G → Refusal) (alike : (failure : F) → one failure ≡ other (told failure))
      (lacks : Bool → F) (lacking : Bool → G) (same : (is_new : Bool) → told (lacks is_new) ≡ lacking is_new)
      (factory : Factory) (old : State T) (answer : Reply T) (new : State T) where
    lacks-told : (is_new : Bool) → one (lacks is_new) ≡ other (lacking is_new)
    lacks-told is_new = alike (lacks is_new) ∙ ap other (same is_new)

    abbrev Comes : {H : Type 0} → (Call → Answer H → Call → Type 0) → (H → Refusal) → (Bool → H) → Type 0
    Comes {H} Goes tells lack =
        IsRefused (tells (lack false)) old answer new
        ⊎ ((found : Result Bool H) × (after : Call) × Goes (record { phase = old.phases factory.pattern factory.name; accesses = 0 })
        (Some found) after
        × MatchResult found
        (λ is_new. Enters factory after.phase (tells (lack is_new)) old answer new)
        (λ failure. IsRefused (tells failure) (with_phase factory.pattern factory.name after.phase old) answer new))

    -- who negotiates is answered alike
    negotiates-as : Negotiates Calls one lacks factory old answer new → Negotiates Others other lacking factory old answer new
    negotiates-as h = by (nat_le 1 factory.node && nat_le factory.node old.made.nodes) h
      where
        by : (b : Bool) → MatchBool b (Comes {H = F} Calls one lacks) (IsSkipped old answer new)
            → MatchBool b (Comes {H = G} Others other lacking) (IsSkipped old answer new)
        by true (inl refused) = inl (subst (λ (why : Refusal). IsRefused why old answer new) (lacks-told false) refused)
        by true (inr (Ok is_new, after, went, enters)) =
            inr (
              Ok is_new,
              after,
              calls _ (Some (Ok is_new)) after went,
              subst (λ (why : Refusal). Enters factory after.phase why old answer new) (lacks-told is_new) enters,
            )
        by true (inr (Err failure, after, went, refused)) =
            inr (
              Err (told failure),
              after,
              calls _ (Some (Err failure)) after went,
              subst (λ (why : Refusal). IsRefused why (with_phase factory.pattern factory.name after.phase old) answer new) (alike failure)
                  refused,
            )
        by false skipped = skipped

module _ {V W : Type 0} (told : V → W) (types : MessageTypeDetails) (pattern : MessagingPattern) (steps : List StepBefore) (node : Node)
    (one : Agreement → Result (Unit {0}) V) (other : Agreement → Result (Unit {0}) W)
    (alike : (agreed : Agreement) → result_map_both (λ met. met) told (one agreed) ≡ other agreed) where
  -- what registering comes to, by whether the life is the same, and whether there is room
  abbrev comes_to : {X : Type 0} → Bool → Bool → Phase → Phase → Answer (OpenFailure X) × Phase
  comes_to same room joined out =
      cond same (cond room (Some (Ok false), joined) (Some (Err unopened.ExceedsMaxNumberOfNodes), out)) (None, out)

  -- what registering comes to where the service was emptied
  abbrev over_is : {X : Type 0} → Bool → Answer (OpenFailure X)
  over_is same = cond same (Some (Err unopened.IsMarkedForDestruction)) None

  abbrev Both : Answer (OpenFailure V) × Phase → Answer (OpenFailure W) × Phase → Type 0
  Both it both = (answer_as (open_as told) it.0 ≡ both.0) × (it.1 ≡ both.1)

  registers-as : (life : ℕ) (phase : Phase) → Both (registered {V = V} life node phase) (registered {V = W} life node phase)
  registers-as life (Absent lives) = (refl, refl)
  registers-as life (BeingMade now by) = (refl, refl)
  registers-as life (Published now agreed nodes) =
      in_life (now == life) (is_in node nodes || nat_lt (length nodes) (max_nodes_of agreed.settings)) (Published now agreed
      (entered node nodes)) (Published now agreed nodes)
    where
      in_life : (same room : Bool) (joined out : Phase)
          → Both (comes_to {X = V} same room joined out) (comes_to {X = W} same room joined out)
      in_life true true joined out = (refl, refl)
      in_life true false joined out = (refl, refl)
      in_life false room joined out = (refl, refl)
  registers-as life (Emptied now agreed by) = (emptied (now == life), refl)
    where
      emptied : (same : Bool) → answer_as (open_as told) (over_is {X = V} same) ≡ over_is {X = W} same
      emptied true = refl
      emptied false = refl

  -- what a node finds that registers
  abbrev Registers : {X : Type 0} → ℕ → Phase → Call → Answer (OpenFailure X) → Call → Type 0
  Registers {X} life phase now found later = (found ≡ (registered {V = X} life node phase).0)
      × (later ≡ record now { phase = (registered {V = X} life node phase).1 })

  -- what a node does that registers, told in other words
  abbrev Goes : ℕ → Call → Answer (OpenFailure V) → Call → Type 0
  Goes life call answer after =
      Access types pattern steps node unopened.OutOfMemory (Registers {X = W} life) call (answer_as (open_as told) answer) after

  found-as : (life : ℕ) (agreed : Agreement) (call : Call) (answer : Answer (OpenFailure V)) (after : Call)
      → OpensFound types pattern steps node one life agreed call answer after
      → OpensFound types pattern steps node other life agreed call (answer_as (open_as told) answer) after
  found-as life agreed call answer after h =
      subst (λ (met : Result (Unit {0}) W). MatchResult met (λ it. Goes life call answer after) (λ unmet. Fails (unopened.Clause unmet) call
      (answer_as (open_as told) answer) after)) (alike agreed) (by (one agreed) h)
    where
      by : (met : Result (Unit {0}) V)
          → MatchResult met (λ it. Access types pattern steps node unopened.OutOfMemory (Registers {X = V} life) call answer after)
          (λ unmet. Fails (unopened.Clause unmet) call answer after)
          → MatchResult (result_map_both (λ it. it) told met) (λ it. Goes life call answer after)
          (λ unmet. Fails (unopened.Clause unmet) call (answer_as (open_as told) answer) after)
      by (Ok it) went =
          access-as (open_as told) types pattern steps node unopened.OutOfMemory (Registers {X = V} life) (Registers {X = W} life)
          (λ phase now found later w. (
            ap (answer_as (open_as told)) w.0 ∙ (registers-as life phase).0,
            w.1 ∙ ap (λ (p : Phase). record now { phase = p }) (registers-as life phase).1,
          )) call answer after went
      by (Err unmet) failed = fails-as (open_as told) (unopened.Clause unmet) call answer after failed

  looks-as : (phase : Phase) (call : Call) (answer : Answer (OpenFailure V)) (after : Call)
      → OpenLooks types pattern steps node one phase call answer after
      → OpenLooks types pattern steps node other phase call (answer_as (open_as told) answer) after
  looks-as (Absent lives) call answer after failed = fails-as (open_as told) unopened.DoesNotExist call answer after failed
  looks-as (BeingMade life by) call answer after failed = fails-as (open_as told) unopened.HangsInCreation call answer after failed
  looks-as (Published life agreed nodes) call answer after went = found-as life agreed call answer after went
  looks-as (Emptied life agreed by) call answer after went = found-as life agreed call answer after went

  opens-as : (call : Call) (answer : Answer (OpenFailure V)) (after : Call)
      → Opens types pattern steps node one call answer after
      → Opens types pattern steps node other call (answer_as (open_as told) answer) after
  opens-as =
      rounds-as (open_as told) (Access types pattern steps node unopened.OutOfMemory (OpenLooks types pattern steps node one))
      (Access types pattern steps node unopened.OutOfMemory (OpenLooks types pattern steps node other))
      (access-as (open_as told) types pattern steps node unopened.OutOfMemory (OpenLooks types pattern steps node one)
      (OpenLooks types pattern steps node other) looks-as) unopened.ServiceInCorruptedState 5

  created-as : (made : Answer CreateFailure) → answer_as (either_as told) (created {V = V} made) ≡ created {V = W} made
  created-as None = refl
  created-as (Some (Ok is_new)) = refl
  created-as (Some (Err uncreated.AlreadyExists)) = refl
  created-as (Some (Err uncreated.InsufficientPermissions)) = refl
  created-as (Some (Err uncreated.InternalFailure)) = refl
  created-as (Some (Err uncreated.IsBeingCreatedByAnotherInstance)) = refl
  created-as (Some (Err uncreated.HangsInCreation)) = refl
  created-as (Some (Err uncreated.ServiceInCorruptedState)) = refl
  created-as (Some (Err uncreated.SubscriberBufferMustBeLargerThanHistorySize)) = refl
  created-as (Some (Err uncreated.OutOfMemory)) = refl

  opened-as : (found : Answer (OpenFailure V))
      → answer_as (either_as told) (opened {V = V} found) ≡ opened {V = W} (answer_as (open_as told) found)
  opened-as None = refl
  opened-as (Some (Ok is_new)) = refl
  opened-as (Some (Err failure)) = refl

  module _ (asked : Agreement) where
    -- what is made where nothing stands
    abbrev Makes : {X : Type 0} → Call → Call → Answer (OpenOrCreateFailure X) → Type 0
    Makes {X} call after given = (made : Answer CreateFailure)
        × Access types pattern steps node uncreated.OutOfMemory (Locks types pattern steps node asked) call made after
        × (given ≡ created {V = X} made)

    either-looks-as : (phase : Phase) (call : Call) (answer : Answer (OpenOrCreateFailure V)) (after : Call)
        → EitherLooks types pattern steps node one asked phase call answer after
        → EitherLooks types pattern steps node other asked phase call (answer_as (either_as told) answer) after
    either-looks-as (Absent lives) call answer after h = by (unfit asked.settings) h
      where
        by : (refused : Option CreateFailure)
            → MatchOption refused (Makes {X = V} call after answer) (λ failure. Fails (neither.Create failure) call answer after)
            → MatchOption refused (Makes {X = W} call after (answer_as (either_as told) answer))
            (λ failure. Fails (neither.Create failure) call (answer_as (either_as told) answer) after)
        by None (made, went, is) = (made, went, ap (answer_as (either_as told)) is ∙ created-as made)
        by (Some failure) failed = fails-as (either_as told) (neither.Create failure) call answer after failed
    either-looks-as (BeingMade life by) call answer after (found, looked, is) = (
      answer_as (open_as told) found,
      looks-as (BeingMade life by) call found after looked,
      ap (answer_as (either_as told)) is
          ∙ opened-as found,
    )
    either-looks-as (Published life agreed nodes) call answer after (found, looked, is) = (
      answer_as (open_as told) found,
      looks-as (Published life agreed nodes) call found after looked,
      ap (answer_as (either_as told)) is ∙ opened-as found,
    )
    either-looks-as (Emptied life agreed by) call answer after (found, looked, is) = (
      answer_as (open_as told) found,
      looks-as (Emptied life agreed by) call found after looked,
      ap (answer_as (either_as told)) is ∙ opened-as found,
    )

    opens-or-creates-as : (call : Call) (answer : Answer (OpenOrCreateFailure V)) (after : Call)
        → OpensOrCreates types pattern steps node one asked call answer after
        → OpensOrCreates types pattern steps node other asked call (answer_as (either_as told) answer) after
    opens-or-creates-as =
        rounds-as (either_as told)
        (Access types pattern steps node (neither.Open unopened.OutOfMemory) (EitherLooks types pattern steps node one asked))
        (Access types pattern steps node (neither.Open unopened.OutOfMemory) (EitherLooks types pattern steps node other asked))
        (access-as (either_as told) types pattern steps node (neither.Open unopened.OutOfMemory)
        (EitherLooks types pattern steps node one asked) (EitherLooks types pattern steps node other asked) either-looks-as)
        neither.SystemInFlux 5

  same-lacking : (is_new : Bool) → either_as told (either_lacking {V = V} is_new) ≡ either_lacking {V = W} is_new
  same-lacking true = refl
  same-lacking false = refl

-- ---- of a factory

module _ {T V : Type 0} (types : MessageTypeDetails) (steps : List StepBefore) (factory : Factory) (named : ServiceOptions)
    (required : Required) (clause : V → Refusal) (one : Agreement → Result (Unit {0}) V)
    (alike : (agreed : Agreement) → result_map_both (λ met. met) clause (one agreed) ≡ verdict types named required agreed)
    (old : State T) (answer : Reply T) (new : State T) where
  -- an opening whose failures are told as the machine tells them is one of the machine
  pub opening-told : (told : OpenFailure V → Refusal)
      → ((failure : OpenFailure V) → told failure ≡ open_refusal named (open_as clause failure))
      → Negotiates (Opens types factory.pattern steps (Own factory.node) one) told (λ is_new. unopened.OutOfMemory) factory old answer new
      → OpensService types steps factory named required old answer new
  opening-told told tells =
      negotiates-as (open_as clause) (Opens types factory.pattern steps (Own factory.node) one)
      (Opens types factory.pattern steps (Own factory.node) (verdict types named required))
      (opens-as clause types factory.pattern steps (Own factory.node) one (verdict types named required) alike)
      told (open_refusal named) tells (λ is_new. unopened.OutOfMemory) (λ is_new. unopened.OutOfMemory) (λ is_new. refl) factory old
      answer new

  -- so it is where a service is opened or created
  pub either-told : (told : OpenOrCreateFailure V → Refusal)
      → ((failure : OpenOrCreateFailure V) → told failure ≡ either_refusal named (either_as clause failure))
      → Negotiates (OpensOrCreates types factory.pattern steps (Own factory.node) one
      (record { settings = settings_of types named; attributes = required.pairs })) told either_lacking factory old answer new
      → OpensOrCreatesService types steps factory named required old answer new
  either-told told tells =
      negotiates-as (either_as clause) (OpensOrCreates types factory.pattern steps (Own factory.node) one asked)
      (OpensOrCreates types factory.pattern steps (Own factory.node) (verdict types named required) asked)
      (opens-or-creates-as clause types factory.pattern steps (Own factory.node) one (verdict types named required) alike asked)
      told (either_refusal named) tells either_lacking either_lacking
      (same-lacking clause types factory.pattern steps (Own factory.node) one (verdict types named required) alike) factory old answer new
    where
      asked : Agreement
      asked = record { settings = settings_of types named; attributes = required.pairs }

-- ---- how builders tell failures

pub publish-subscribe-create-told : (named : PublishSubscribeOptions) (failure : CreateFailure)
    → refusal.PublishSubscribeCreate (publish_subscribe.create_error failure) ≡ create_refusal (options.PublishSubscribe named) failure
publish-subscribe-create-told named uncreated.AlreadyExists = refl
publish-subscribe-create-told named uncreated.InsufficientPermissions = refl
publish-subscribe-create-told named uncreated.InternalFailure = refl
publish-subscribe-create-told named uncreated.IsBeingCreatedByAnotherInstance = refl
publish-subscribe-create-told named uncreated.HangsInCreation = refl
publish-subscribe-create-told named uncreated.ServiceInCorruptedState = refl
publish-subscribe-create-told named uncreated.SubscriberBufferMustBeLargerThanHistorySize = refl
publish-subscribe-create-told named uncreated.OutOfMemory = refl

-- the clause that isn't met, as it is told
abbrev pub publish_subscribe_clause : publish_subscribe_unmet.ClauseError → Refusal
publish_subscribe_clause unmet = refusal.PublishSubscribeOpen (publish_subscribe.clause_error unmet)

pub publish-subscribe-open-told : (named : PublishSubscribeOptions) (failure : OpenFailure publish_subscribe_unmet.ClauseError)
    → refusal.PublishSubscribeOpen (publish_subscribe.open_error failure)
    ≡ open_refusal (options.PublishSubscribe named) (open_as publish_subscribe_clause failure)
publish-subscribe-open-told named (unopened.Clause unmet) = refl
publish-subscribe-open-told named unopened.DoesNotExist = refl
publish-subscribe-open-told named unopened.InsufficientPermissions = refl
publish-subscribe-open-told named unopened.ServiceInCorruptedState = refl
publish-subscribe-open-told named unopened.InternalFailure = refl
publish-subscribe-open-told named unopened.HangsInCreation = refl
publish-subscribe-open-told named unopened.ExceedsMaxNumberOfNodes = refl
publish-subscribe-open-told named unopened.IsMarkedForDestruction = refl
publish-subscribe-open-told named unopened.OutOfMemory = refl

pub publish-subscribe-either-told : (named : PublishSubscribeOptions) (failure : OpenOrCreateFailure publish_subscribe_unmet.ClauseError)
    → refusal.PublishSubscribeOpenOrCreate (publish_subscribe.open_or_create_error failure)
    ≡ either_refusal (options.PublishSubscribe named) (either_as publish_subscribe_clause failure)
publish-subscribe-either-told named (neither.Open failure) = ap within_either (publish-subscribe-open-told named failure)
publish-subscribe-either-told named (neither.Create failure) = ap within_either (publish-subscribe-create-told named failure)
publish-subscribe-either-told named neither.SystemInFlux = refl

pub event-create-told : (named : EventOptions) (failure : CreateFailure)
    → refusal.EventCreate (event.create_error failure) ≡ create_refusal (options.Event named) failure
event-create-told named uncreated.AlreadyExists = refl
event-create-told named uncreated.InsufficientPermissions = refl
event-create-told named uncreated.InternalFailure = refl
event-create-told named uncreated.IsBeingCreatedByAnotherInstance = refl
event-create-told named uncreated.HangsInCreation = refl
event-create-told named uncreated.ServiceInCorruptedState = refl
event-create-told named uncreated.SubscriberBufferMustBeLargerThanHistorySize = refl
event-create-told named uncreated.OutOfMemory = refl

-- the clause that isn't met, as it is told
abbrev pub event_clause : EventClause → Refusal
event_clause unmet = refusal.EventOpen (event.clause_error unmet)

pub event-open-told : (named : EventOptions) (failure : OpenFailure EventClause)
    → refusal.EventOpen (event.open_error failure)
    ≡ open_refusal (options.Event named) (open_as event_clause failure)
event-open-told named (unopened.Clause unmet) = refl
event-open-told named unopened.DoesNotExist = refl
event-open-told named unopened.InsufficientPermissions = refl
event-open-told named unopened.ServiceInCorruptedState = refl
event-open-told named unopened.InternalFailure = refl
event-open-told named unopened.HangsInCreation = refl
event-open-told named unopened.ExceedsMaxNumberOfNodes = refl
event-open-told named unopened.IsMarkedForDestruction = refl
event-open-told named unopened.OutOfMemory = refl

pub event-either-told : (named : EventOptions) (failure : OpenOrCreateFailure EventClause)
    → refusal.EventOpenOrCreate (event.open_or_create_error failure)
    ≡ either_refusal (options.Event named) (either_as event_clause failure)
event-either-told named (neither.Open failure) = ap within_either (event-open-told named failure)
event-either-told named (neither.Create failure) = ap within_either (event-create-told named failure)
event-either-told named neither.SystemInFlux = refl

pub request-response-create-told : (named : RequestResponseOptions) (failure : CreateFailure)
    → refusal.RequestResponseCreate (request_response.create_error failure) ≡ create_refusal (options.RequestResponse named) failure
request-response-create-told named uncreated.AlreadyExists = refl
request-response-create-told named uncreated.InsufficientPermissions = refl
request-response-create-told named uncreated.InternalFailure = refl
request-response-create-told named uncreated.IsBeingCreatedByAnotherInstance = refl
request-response-create-told named uncreated.HangsInCreation = refl
request-response-create-told named uncreated.ServiceInCorruptedState = refl
request-response-create-told named uncreated.SubscriberBufferMustBeLargerThanHistorySize = refl
request-response-create-told named uncreated.OutOfMemory = refl

-- the clause that isn't met, as it is told
abbrev pub request_response_clause : request_response_unmet.ClauseError → Refusal
request_response_clause unmet = refusal.RequestResponseOpen (request_response.clause_error unmet)

pub request-response-open-told : (named : RequestResponseOptions) (failure : OpenFailure request_response_unmet.ClauseError)
    → refusal.RequestResponseOpen (request_response.open_error failure)
    ≡ open_refusal (options.RequestResponse named) (open_as request_response_clause failure)
request-response-open-told named (unopened.Clause unmet) = refl
request-response-open-told named unopened.DoesNotExist = refl
request-response-open-told named unopened.InsufficientPermissions = refl
request-response-open-told named unopened.ServiceInCorruptedState = refl
request-response-open-told named unopened.InternalFailure = refl
request-response-open-told named unopened.HangsInCreation = refl
request-response-open-told named unopened.ExceedsMaxNumberOfNodes = refl
request-response-open-told named unopened.IsMarkedForDestruction = refl
request-response-open-told named unopened.OutOfMemory = refl

pub request-response-either-told : (named : RequestResponseOptions) (failure : OpenOrCreateFailure request_response_unmet.ClauseError)
    → refusal.RequestResponseOpenOrCreate (request_response.open_or_create_error failure)
    ≡ either_refusal (options.RequestResponse named) (either_as request_response_clause failure)
request-response-either-told named (neither.Open failure) = ap within_either (request-response-open-told named failure)
request-response-either-told named (neither.Create failure) = ap within_either (request-response-create-told named failure)
request-response-either-told named neither.SystemInFlux = refl
