-- What a creation and an opening answer while no other node acts.
use Rattle.std.proofs.Common.{◌≡◌, ◌≤◌, ◌⊎◌, ◌+◌, ℕ, zero, suc, Bool, true, false, cond, not, ◌&&◌, ◌||◌, List, [], length, Option, None}
use Rattle.std.proofs.Common.{Some, Result, Ok, Err, refl, sym, ap, subst, inl, inr, arith, ◌∙◌, true≢false}
use Rattle.std.proofs.lemmas.Bool.{eq-eqb}
use Rattle.std.specs.Prelude.{◌==◌, max, nat_le, nat_lt, unwrap_or, MatchBool, MatchOption, MatchResult}
use Rattle.iox_machine.proofs.Cases.{by-bool, by-option, never-some, same-some}
use Rattle.iox_machine.proofs.Phases.{creates-as-described}
use Rattle.iox_machine.proofs.Shorthands.{IsRefused, IsSkipped, factory_of}
use Rattle.iox_machine.specs.Agreement.{Agreement, are_within_limits, unfit, verdict}
use Rattle.iox_machine.specs.Asked.{settings_of}
use Rattle.iox_machine.specs.ServiceReplyLaws.{CreationAnswers, CreationsAnswerSo, DefaultsAreKnown, IsNamedOr, OpeningAnswers}
use Rattle.iox_machine.specs.ServiceReplyLaws.{OpeningsAnswerSo, create_told, open_told, unfit_told}
use Rattle.iox_machine.specs.Choices.{Choices}
use Rattle.iox_machine.specs.Factories.{Enters, Negotiates}
use Rattle.iox_machine.specs.Negotiation.{Access, Answer, Call, CreateLooks, Creates, Fails, Locks, OpenLooks, Rounds}
use Rattle.iox_machine.specs.Negotiation.{registered}
use Rattle.iox_machine.specs.OnceLaws.{is_skipped}
use Rattle.iox_machine.specs.Phase.{Absent, BeingMade, Emptied, Node, Own, Phase, Published, entered, is_in}
use Rattle.iox_machine.specs.Refusals.{create_refusal, open_refusal}
use Rattle.iox_machine.specs.State.{Factory, State, with_phase}
use Rattle.iox_command.specs.NegotiateBase.DescribeBase.Attributes.{Required}
use Rattle.iox_command.specs.NegotiateBase.DescribeBase.declared.message_type.MessageTypeDetails.{MessageTypeDetails}
use Rattle.iox_command.specs.NegotiateBase.DescribeBase.declared.pattern.MessagingPattern.{MessagingPattern}
use Rattle.iox_command.specs.NegotiateBase.DescribeSettings.Agreement.{max_nodes_of}
use Rattle.iox_command.specs.NegotiateBase.DescribeSettings.declared.static_config.publish_subscribe.StaticConfig.{StaticConfig}
use Rattle.iox_command.specs.NegotiateBase.declared.errors.event.EventCreateError.TheVariants as event_create
use Rattle.iox_command.specs.NegotiateBase.declared.errors.event.EventOpenError.TheVariants as event_open
use Rattle.iox_command.specs.NegotiateBase.declared.errors.publish_subscribe.PublishSubscribeCreateError.TheVariants as
    publish_subscribe_create
use Rattle.iox_command.specs.NegotiateBase.declared.errors.publish_subscribe.PublishSubscribeOpenError.TheVariants as publish_subscribe_open
use Rattle.iox_command.specs.NegotiateBase.declared.errors.request_response.RequestResponseCreateError.TheVariants as
    request_response_create
use Rattle.iox_command.specs.NegotiateBase.declared.errors.request_response.RequestResponseOpenError.TheVariants as request_response_open
use Rattle.iox_command.specs.NegotiateBase.declared.failure.CreateFailure.{CreateFailure}
use Rattle.iox_command.specs.NegotiateBase.declared.failure.CreateFailure.TheVariants as uncreated
use Rattle.iox_command.specs.NegotiateBase.declared.failure.OpenFailure.{OpenFailure}
use Rattle.iox_command.specs.NegotiateBase.declared.failure.OpenFailure.TheVariants as unopened
use Rattle.iox_command.specs.Patterns.{pattern_of}
use Rattle.iox_command.specs.declared.refusal.Refusal.{Refusal}
use Rattle.iox_command.specs.declared.reply.Reply.{Reply}
use Rattle.iox_command.specs.declared.reply.Reply.TheVariants as reply
use Rattle.iox_command.specs.declared.service.ServiceOptions.{ServiceOptions}
use Rattle.iox_command.specs.declared.service.ServiceOptions.TheVariants as options

-- ---- what a look finds

-- what a creation comes to
abbrev CreatesSo : Phase → Result Bool CreateFailure → Type 0
CreatesSo (Absent lives) found = found ≡ Ok true
CreatesSo (BeingMade life by) found = found ≡ Err uncreated.HangsInCreation
CreatesSo other found = found ≡ Err uncreated.AlreadyExists

-- what an opening comes to
abbrev pub OpensSo : {V : Type 0} → (Agreement → Result (Unit {0}) V) → Node → Phase → Result Bool (OpenFailure V) → Type 0
OpensSo meets node (Absent lives) found = found ≡ Err unopened.DoesNotExist
OpensSo meets node (BeingMade life by) found = found ≡ Err unopened.HangsInCreation
OpensSo meets node (Published life agreed nodes) found =
    MatchResult (meets agreed)
    (λ met. MatchBool (is_in node nodes || nat_lt (length nodes) (max_nodes_of agreed.settings)) (found ≡ Ok false)
    (found ≡ Err unopened.ExceedsMaxNumberOfNodes))
    (λ unmet. found ≡ Err (unopened.Clause unmet))
OpensSo meets node (Emptied life agreed by) found =
    MatchResult (meets agreed) (λ met. found ≡ Err unopened.IsMarkedForDestruction) (λ unmet. found ≡ Err (unopened.Clause unmet))

module _ (types : MessageTypeDetails) (pattern : MessagingPattern) (node : Node) where
  module _ (agreed : Agreement) where
    locks-so : (phase : Phase) (call : Call) (found : Result Bool CreateFailure) (after : Call) (lives : ℕ) → phase ≡ Absent lives
        → Locks types pattern [] node agreed phase call (Some found) after
        → (found ≡ Ok true) ⊎ (found ≡ Err uncreated.OutOfMemory)
    locks-so phase call found after lives is h =
        made (subst (λ (it : Phase). Locks types pattern [] node agreed it call (Some found) after) is h)
      where
        made : Locks types pattern [] node agreed (Absent lives) call (Some found) after
            → (found ≡ Ok true) ⊎ (found ≡ Err uncreated.OutOfMemory)
        made (inl (told, came)) = inl (same-some found (Ok true) told)
        made (inr (told, came)) = inr (same-some found (Err uncreated.OutOfMemory) told)

    looks-so : (phase : Phase) (call : Call) (found : Result Bool CreateFailure) (after : Call) → call.phase ≡ phase
        → CreateLooks types pattern [] node agreed phase call (Some found) after
        → CreatesSo phase found ⊎ (found ≡ Err uncreated.OutOfMemory)
    looks-so (Absent lives) call found after is (inl locks) =
        locks-so call.phase (record { phase = call.phase; accesses = call.accesses + 1 }) found after lives is locks
    looks-so (Absent lives) call found after is (inr (done, (told, came))) = inr (same-some found (Err uncreated.OutOfMemory) told)
    looks-so (BeingMade life by) call found after is (told, came) = inl (same-some found (Err uncreated.HangsInCreation) told)
    looks-so (Published life standing nodes) call found after is (told, came) =
        inl (same-some found (Err uncreated.AlreadyExists) told)
    looks-so (Emptied life standing by) call found after is (told, came) = inl (same-some found (Err uncreated.AlreadyExists) told)

    creates-so : (phase : Phase) (found : Result Bool CreateFailure) (after : Call) → unfit agreed.settings ≡ None
        → Creates types pattern [] node agreed (record { phase = phase; accesses = 0 }) (Some found) after
        → CreatesSo phase found ⊎ (found ≡ Err uncreated.OutOfMemory)
    creates-so phase found after fit h =
        elim (by-option (unfit agreed.settings)
        (Access types pattern [] node uncreated.OutOfMemory (CreateLooks types pattern [] node agreed)
        (record { phase = phase; accesses = 0 }) (Some found) after)
        (λ failure. Fails failure (record { phase = phase; accesses = 0 }) (Some found) after) h) [
          | inl w ↦ looked w.1
          | inr w ↦ never-some w.0 (sym fit ∙ w.1)
        ]
      where
        looked : Access types pattern [] node uncreated.OutOfMemory (CreateLooks types pattern [] node agreed)
            (record { phase = phase; accesses = 0 }) (Some found) after
            → CreatesSo phase found ⊎ (found ≡ Err uncreated.OutOfMemory)
        looked (inl look) = looks-so phase (record { phase = phase; accesses = 1 }) found after refl look
        looked (inr (done, (told, came))) = inr (same-some found (Err uncreated.OutOfMemory) told)

  module _ {V : Type 0} (meets : Agreement → Result (Unit {0}) V) where
    -- what the first round answers
    abbrev Answers : Phase → Answer (OpenFailure V) → Type 0
    Answers phase first =
        (found : Result Bool (OpenFailure V)) × (first ≡ Some found)
        × (OpensSo meets node phase found ⊎ (found ≡ Err unopened.OutOfMemory))

    -- what a node finds that registers
    enters-so : (life : ℕ) (agreed : Agreement) (nodes : List (Node × ℕ)) (first : Answer (OpenFailure V))
        → first ≡ (registered {V = V} life node (Published life agreed nodes)).0
        → (found : Result Bool (OpenFailure V)) × (first ≡ Some found)
        × MatchBool (is_in node nodes || nat_lt (length nodes) (max_nodes_of agreed.settings)) (found ≡ Ok false)
        (found ≡ Err unopened.ExceedsMaxNumberOfNodes)
    enters-so life agreed nodes first told =
        here (life == life) (is_in node nodes || nat_lt (length nodes) (max_nodes_of agreed.settings)) (eq-eqb life life refl) told
      where
        there : Bool → Bool → Answer (OpenFailure V) × Phase
        there b c = cond b (cond c (Some (Ok false), Published life agreed (entered node nodes))
            (Some (Err unopened.ExceedsMaxNumberOfNodes), Published life agreed nodes)) (None, Published life agreed nodes)

        here : (b c : Bool) → b ≡ true → first ≡ (there b c).0
            → (found : Result Bool (OpenFailure V)) × (first ≡ Some found)
            × MatchBool c (found ≡ Ok false) (found ≡ Err unopened.ExceedsMaxNumberOfNodes)
        here true true is told = (Ok false, told, refl)
        here true false is told = (Err unopened.ExceedsMaxNumberOfNodes, told, refl)
        here false c is told = absurd (true≢false (sym is))

    pub finds-so : (phase : Phase) (call : Call) (first : Answer (OpenFailure V)) (mid : Call) → call.phase ≡ phase
        → OpenLooks types pattern [] node meets phase call first mid → Answers phase first
    finds-so (Absent lives) call first mid is (told, came) = (Err unopened.DoesNotExist, told, inl refl)
    finds-so (BeingMade life by) call first mid is (told, came) = (Err unopened.HangsInCreation, told, inl refl)
    finds-so (Published life agreed nodes) call first mid is h = here (meets agreed) refl h
      where
        Registers : Type 0
        Registers =
            Access types pattern [] node unopened.OutOfMemory
            (λ phase now found later. (found ≡ (registered {V = V} life node phase).0)
            × (later ≡ record now { phase = (registered {V = V} life node phase).1 })) call first mid

        registers : (met : Unit {0}) → meets agreed ≡ Ok met → Registers → Answers (Published life agreed nodes) first
        registers met so (inl (told, later)) =
            let came = enters-so life agreed nodes first
            (told ∙ ap (λ (it : Phase). (registered {V = V} life node it).0) is) in (
              came.0,
              came.1,
              inl (subst (λ (r : Result (Unit {0}) V). MatchResult r
                  (λ met. MatchBool (is_in node nodes || nat_lt (length nodes) (max_nodes_of agreed.settings)) (came.0 ≡ Ok false)
                  (came.0 ≡ Err unopened.ExceedsMaxNumberOfNodes))
                  (λ unmet. came.0 ≡ Err (unopened.Clause unmet))) (sym so) came.2),
            )
        registers met so (inr (done, (told, came))) = (Err unopened.OutOfMemory, told, inr refl)

        here : (r : Result (Unit {0}) V) → meets agreed ≡ r
            → MatchResult r (λ met. Registers) (λ unmet. Fails (unopened.Clause unmet) call first mid)
            → Answers (Published life agreed nodes) first
        here (Ok met) so h = registers met so h
        here (Err unmet) so (told, came) = (
          Err (unopened.Clause unmet),
          told,
          inl (subst (λ (r : Result (Unit {0}) V). MatchResult r
              (λ met. MatchBool (is_in node nodes || nat_lt (length nodes) (max_nodes_of agreed.settings))
              (◌≡◌ {A = Result Bool (OpenFailure V)} (Err (unopened.Clause unmet)) (Ok false))
              (◌≡◌ {A = Result Bool (OpenFailure V)} (Err (unopened.Clause unmet)) (Err unopened.ExceedsMaxNumberOfNodes)))
              (λ other. ◌≡◌ {A = Result Bool (OpenFailure V)} (Err (unopened.Clause unmet)) (Err (unopened.Clause other)))) (sym so)
              refl),
        )
    finds-so (Emptied life agreed by) call first mid is h = here (meets agreed) refl h
      where
        Registers : Type 0
        Registers =
            Access types pattern [] node unopened.OutOfMemory
            (λ phase now found later. (found ≡ (registered {V = V} life node phase).0)
            × (later ≡ record now { phase = (registered {V = V} life node phase).1 })) call first mid

        marked : (b : Bool) → b ≡ true → first ≡ cond b (Some (Err unopened.IsMarkedForDestruction)) None
            → first ≡ Some (Err unopened.IsMarkedForDestruction)
        marked true is told = told
        marked false is told = absurd (true≢false (sym is))

        registers : (met : Unit {0}) → meets agreed ≡ Ok met → Registers → Answers (Emptied life agreed by) first
        registers met so (inl (told, later)) = (
          Err unopened.IsMarkedForDestruction,
          marked (life == life) (eq-eqb life life refl) (told ∙ ap (λ (it : Phase). (registered {V = V} life node it).0) is),
          inl (subst (λ (r : Result (Unit {0}) V). MatchResult r
              (λ met. ◌≡◌ {A = Result Bool (OpenFailure V)} (Err unopened.IsMarkedForDestruction) (Err unopened.IsMarkedForDestruction))
              (λ unmet. ◌≡◌ {A = Result Bool (OpenFailure V)} (Err unopened.IsMarkedForDestruction) (Err (unopened.Clause unmet))))
              (sym so) refl),
        )
        registers met so (inr (done, (told, came))) = (Err unopened.OutOfMemory, told, inr refl)

        here : (r : Result (Unit {0}) V) → meets agreed ≡ r
            → MatchResult r (λ met. Registers) (λ unmet. Fails (unopened.Clause unmet) call first mid)
            → Answers (Emptied life agreed by) first
        here (Ok met) so h = registers met so h
        here (Err unmet) so (told, came) = (
          Err (unopened.Clause unmet),
          told,
          inl (subst (λ (r : Result (Unit {0}) V). MatchResult r
              (λ met. ◌≡◌ {A = Result Bool (OpenFailure V)} (Err (unopened.Clause unmet)) (Err unopened.IsMarkedForDestruction))
              (λ other. ◌≡◌ {A = Result Bool (OpenFailure V)} (Err (unopened.Clause unmet)) (Err (unopened.Clause other)))) (sym so)
              refl),
        )

    opens-so : (phase : Phase) (found : Result Bool (OpenFailure V)) (after : Call)
        → Rounds (Access types pattern [] node unopened.OutOfMemory (OpenLooks types pattern [] node meets))
        unopened.ServiceInCorruptedState 5 (record { phase = phase; accesses = 0 }) (Some found) after
        → OpensSo meets node phase found ⊎ (found ≡ Err unopened.OutOfMemory)
    opens-so phase found after (mid, first, round, h) =
        let came = looked round in
        subst (λ (it : Result Bool (OpenFailure V)). OpensSo meets node phase it ⊎ (it ≡ Err unopened.OutOfMemory))
        (sym (ended first came.0 came.1 h)) came.2
      where
        looked : Access types pattern [] node unopened.OutOfMemory (OpenLooks types pattern [] node meets)
            (record { phase = phase; accesses = 0 }) first mid → Answers phase first
        looked (inl look) = finds-so phase (record { phase = phase; accesses = 1 }) first mid refl look
        looked (inr (done, (told, came))) = (Err unopened.OutOfMemory, told, inr refl)

        ended : (first : Answer (OpenFailure V)) (it : Result Bool (OpenFailure V)) → first ≡ Some it
            → MatchOption first
            (Rounds (Access types pattern [] node unopened.OutOfMemory (OpenLooks types pattern [] node meets))
            unopened.ServiceInCorruptedState 4 mid (Some found) after)
            (λ one. (Some found ≡ first) × (after ≡ mid)) → found ≡ it
        ended None it is h = never-some it is
        ended (Some one) it is (told, same) = same-some found it (told ∙ is)

-- ---- how it is told

pub create-lacks : (named : ServiceOptions) → create_refusal named uncreated.OutOfMemory
    ≡ create_told named publish_subscribe_create.OutOfMemory event_create.OutOfMemory request_response_create.OutOfMemory
create-lacks (options.PublishSubscribe named) = refl
create-lacks (options.Event named) = refl
create-lacks (options.RequestResponse named) = refl

pub create-hangs : (named : ServiceOptions) → create_refusal named uncreated.HangsInCreation
    ≡ create_told named publish_subscribe_create.HangsInCreation event_create.HangsInCreation request_response_create.HangsInCreation
create-hangs (options.PublishSubscribe named) = refl
create-hangs (options.Event named) = refl
create-hangs (options.RequestResponse named) = refl

pub create-exists : (named : ServiceOptions) → create_refusal named uncreated.AlreadyExists
    ≡ create_told named publish_subscribe_create.AlreadyExists event_create.AlreadyExists request_response_create.AlreadyExists
create-exists (options.PublishSubscribe named) = refl
create-exists (options.Event named) = refl
create-exists (options.RequestResponse named) = refl

create-internal : (named : ServiceOptions) → create_refusal named uncreated.InternalFailure ≡ unfit_told named uncreated.InternalFailure
create-internal (options.PublishSubscribe named) = refl
create-internal (options.Event named) = refl
create-internal (options.RequestResponse named) = refl

pub open-lacks : (named : ServiceOptions) → open_refusal named unopened.OutOfMemory
    ≡ open_told named publish_subscribe_open.OutOfMemory event_open.OutOfMemory request_response_open.OutOfMemory
open-lacks (options.PublishSubscribe named) = refl
open-lacks (options.Event named) = refl
open-lacks (options.RequestResponse named) = refl

pub open-absent : (named : ServiceOptions) → open_refusal named unopened.DoesNotExist
    ≡ open_told named publish_subscribe_open.DoesNotExist event_open.DoesNotExist request_response_open.DoesNotExist
open-absent (options.PublishSubscribe named) = refl
open-absent (options.Event named) = refl
open-absent (options.RequestResponse named) = refl

pub open-hangs : (named : ServiceOptions) → open_refusal named unopened.HangsInCreation
    ≡ open_told named publish_subscribe_open.HangsInCreation event_open.HangsInCreation request_response_open.HangsInCreation
open-hangs (options.PublishSubscribe named) = refl
open-hangs (options.Event named) = refl
open-hangs (options.RequestResponse named) = refl

pub open-full : (named : ServiceOptions) → open_refusal named unopened.ExceedsMaxNumberOfNodes
    ≡ open_told named publish_subscribe_open.ExceedsMaxNumberOfNodes event_open.ExceedsMaxNumberOfNodes
    request_response_open.ExceedsMaxNumberOfNodes
open-full (options.PublishSubscribe named) = refl
open-full (options.Event named) = refl
open-full (options.RequestResponse named) = refl

pub open-marked : (named : ServiceOptions) → open_refusal named unopened.IsMarkedForDestruction
    ≡ open_told named publish_subscribe_open.IsMarkedForDestruction event_open.IsMarkedForDestruction
    request_response_open.IsMarkedForDestruction
open-marked (options.PublishSubscribe named) = refl
open-marked (options.Event named) = refl
open-marked (options.RequestResponse named) = refl

-- why settings are impossible
pub unfit-so : (types : MessageTypeDetails) (named : ServiceOptions) (failure : CreateFailure)
    → unfit (settings_of types named) ≡ Some failure
    → create_refusal named failure ≡ unfit_told named failure
unfit-so types (options.PublishSubscribe named) failure e =
    here (are_within_limits (settings_of types (options.PublishSubscribe named)))
    (not (unwrap_or named.enable_safe_overflow true)
    && nat_lt (max (unwrap_or named.subscriber_max_buffer_size 2) 1) (unwrap_or named.history_size 0)) e
  where
    here : (b c : Bool)
        → cond (not b) (Some uncreated.InternalFailure)
        (cond c (Some uncreated.SubscriberBufferMustBeLargerThanHistorySize) None) ≡ Some failure
        → create_refusal (options.PublishSubscribe named) failure ≡ unfit_told (options.PublishSubscribe named) failure
    here false c e =
        subst (λ (it : CreateFailure). create_refusal (options.PublishSubscribe named) it ≡ unfit_told (options.PublishSubscribe named) it)
        (same-some uncreated.InternalFailure failure e) refl
    here true true e =
        subst (λ (it : CreateFailure). create_refusal (options.PublishSubscribe named) it ≡ unfit_told (options.PublishSubscribe named) it)
        (same-some uncreated.SubscriberBufferMustBeLargerThanHistorySize failure e) refl
    here true false e = never-some failure e
unfit-so types (options.Event named) failure e = here (are_within_limits (settings_of types (options.Event named))) e
  where
    here : (b : Bool) → cond b None (Some uncreated.InternalFailure) ≡ Some failure
        → create_refusal (options.Event named) failure ≡ unfit_told (options.Event named) failure
    here true e = never-some failure e
    here false e =
        subst (λ (it : CreateFailure). create_refusal (options.Event named) it ≡ unfit_told (options.Event named) it)
        (same-some uncreated.InternalFailure failure e) refl
unfit-so types (options.RequestResponse named) failure e = here (are_within_limits (settings_of types (options.RequestResponse named))) e
  where
    here : (b : Bool) → cond b None (Some uncreated.InternalFailure) ≡ Some failure
        → create_refusal (options.RequestResponse named) failure ≡ unfit_told (options.RequestResponse named) failure
    here true e = never-some failure e
    here false e =
        subst (λ (it : CreateFailure). create_refusal (options.RequestResponse named) it ≡ unfit_told (options.RequestResponse named) it)
        (same-some uncreated.InternalFailure failure e) refl

-- ---- the commands

module _ {T : Type 0} where
  -- what a node gets once it is in, or is refused
  enters-answers : (factory : Factory) (phase : Phase) (lacking : Refusal) (old : State T) (answer : Reply T) (new : State T)
      → Enters factory phase lacking old answer new
      → (answer ≡ reply.FactoryMade (old.made.factories + 1)) ⊎ (answer ≡ reply.Refused lacking)
  enters-answers factory phase lacking old answer new (inl (told, came)) = inl told
  enters-answers factory phase lacking old answer new (inr (told, came)) = inr told

  -- What a call comes to that isn't skipped: memory runs out, or it fails, or its node is in.
  pub called-with : {F : Type 0} (Calls : Call → Answer F → Call → Type 0) (told : F → Refusal) (lacking : Bool → F) (factory : Factory)
      (old : State T) (answer : Reply T) (new : State T) → is_skipped answer ≡ false
      → Negotiates Calls told lacking factory old answer new
      → (answer ≡ reply.Refused (told (lacking false)))
      ⊎ ((found : Result Bool F) × (after : Call)
      × Calls (record { phase = old.phases factory.pattern factory.name; accesses = 0 }) (Some found) after
      × MatchResult found
      (λ is_new. (answer ≡ reply.FactoryMade (old.made.factories + 1)) ⊎ (answer ≡ reply.Refused (told (lacking is_new))))
      (λ failure. answer ≡ reply.Refused (told failure)))
  called-with {F} Calls told lacking factory old answer new unskipped h =
      elim (by-bool (nat_le 1 factory.node && nat_le factory.node old.made.nodes) Called (IsSkipped old answer new) h) [
        | inl w ↦ calls w.1
        | inr w ↦ absurd (true≢false (sym (ap is_skipped w.1.0) ∙ unskipped))
      ]
    where
      Called : Type 0
      Called =
          IsRefused (told (lacking false)) old answer new
          ⊎ ((found : Result Bool F) × (after : Call)
          × Calls (record { phase = old.phases factory.pattern factory.name; accesses = 0 }) (Some found) after
          × MatchResult found
          (λ is_new. Enters factory after.phase (told (lacking is_new)) old answer new)
          (λ failure. IsRefused (told failure) (with_phase factory.pattern factory.name after.phase old) answer new))

      calls : Called → (answer ≡ reply.Refused (told (lacking false)))
          ⊎ ((found : Result Bool F) × (after : Call)
          × Calls (record { phase = old.phases factory.pattern factory.name; accesses = 0 }) (Some found) after
          × MatchResult found
          (λ is_new. (answer ≡ reply.FactoryMade (old.made.factories + 1)) ⊎ (answer ≡ reply.Refused (told (lacking is_new))))
          (λ failure. answer ≡ reply.Refused (told failure)))
      calls (inl refused) = inl refused.0
      calls (inr (Ok is_new, after, called, enters)) =
          inr (Ok is_new, after, called, enters-answers factory after.phase (told (lacking is_new)) old answer new enters)
      calls (inr (Err failure, after, called, refused)) = inr (Err failure, after, called, refused.0)

  called : {F : Type 0} (Calls : Call → Answer F → Call → Type 0) (told : F → Refusal) (lacks : F) (factory : Factory) (old : State T)
      (answer : Reply T) (new : State T) → is_skipped answer ≡ false
      → Negotiates Calls told (λ is_new. lacks) factory old answer new
      → (answer ≡ reply.Refused (told lacks))
      ⊎ ((found : Result Bool F) × (after : Call)
      × Calls (record { phase = old.phases factory.pattern factory.name; accesses = 0 }) (Some found) after
      × (MatchResult found (λ is_new. answer ≡ reply.FactoryMade (old.made.factories + 1))
      (λ failure. answer ≡ reply.Refused (told failure))
      ⊎ (answer ≡ reply.Refused (told lacks))))
  called {F} Calls told lacks factory old answer new unskipped h =
      elim (called-with Calls told (λ is_new. lacks) factory old answer new unskipped h) [
        | inl refused ↦ inl refused
        | inr (Ok is_new, after, calls, inl told_so) ↦ inr (Ok is_new, after, calls, inl told_so)
        | inr (Ok is_new, after, calls, inr told_so) ↦ inr (Ok is_new, after, calls, inr told_so)
        | inr (Err failure, after, calls, told_so) ↦ inr (Err failure, after, calls, inl told_so)
      ]

  module _ (answer : Reply T) (number : ℕ) (named : ServiceOptions) where
    creation-told : (phase : Phase) (found : Result Bool CreateFailure) → CreatesSo phase found
        → MatchResult found (λ is_new. answer ≡ reply.FactoryMade number) (λ failure. answer ≡ reply.Refused (create_refusal named failure))
        → CreationAnswers answer number named phase
    creation-told (Absent lives) found is told =
        subst (λ (r : Result Bool CreateFailure). MatchResult r (λ is_new. answer ≡ reply.FactoryMade number)
        (λ failure. answer ≡ reply.Refused (create_refusal named failure))) is told
    creation-told (BeingMade life by) found is told =
        subst (λ (r : Result Bool CreateFailure). MatchResult r (λ is_new. answer ≡ reply.FactoryMade number)
        (λ failure. answer ≡ reply.Refused (create_refusal named failure))) is told
        ∙ ap (λ (why : Refusal). reply.Refused why) (create-hangs named)
    creation-told (Published life agreed nodes) found is told =
        subst (λ (r : Result Bool CreateFailure). MatchResult r (λ is_new. answer ≡ reply.FactoryMade number)
        (λ failure. answer ≡ reply.Refused (create_refusal named failure))) is told
        ∙ ap (λ (why : Refusal). reply.Refused why) (create-exists named)
    creation-told (Emptied life agreed by) found is told =
        subst (λ (r : Result Bool CreateFailure). MatchResult r (λ is_new. answer ≡ reply.FactoryMade number)
        (λ failure. answer ≡ reply.Refused (create_refusal named failure))) is told
        ∙ ap (λ (why : Refusal). reply.Refused why) (create-exists named)

    abbrev Told : Result Bool (OpenFailure Refusal) → Type 0
    Told found =
        MatchResult found (λ is_new. answer ≡ reply.FactoryMade number) (λ failure. answer ≡ reply.Refused (open_refusal named failure))

    pub opening-told : (types : MessageTypeDetails) (required : Required) (node : ℕ) (phase : Phase)
        (found : Result Bool (OpenFailure Refusal))
        → OpensSo (verdict types named required) (Own node) phase found → Told found
        → OpeningAnswers answer number named types required node phase
    opening-told types required node (Absent lives) found is told =
        subst Told is told ∙ ap (λ (why : Refusal). reply.Refused why) (open-absent named)
    opening-told types required node (BeingMade life by) found is told =
        subst Told is told ∙ ap (λ (why : Refusal). reply.Refused why) (open-hangs named)
    opening-told types required node (Published life agreed nodes) found is told = here (verdict types named required agreed) is
      where
        free : Bool
        free = is_in (Own node) nodes || nat_lt (length nodes) (max_nodes_of agreed.settings)

        entering : (b : Bool) → MatchBool b (found ≡ Ok false) (found ≡ Err unopened.ExceedsMaxNumberOfNodes)
            → MatchBool b (answer ≡ reply.FactoryMade number)
            (answer ≡ reply.Refused (open_told named publish_subscribe_open.ExceedsMaxNumberOfNodes event_open.ExceedsMaxNumberOfNodes
            request_response_open.ExceedsMaxNumberOfNodes))
        entering true is = subst Told is told
        entering false is = subst Told is told ∙ ap (λ (why : Refusal). reply.Refused why) (open-full named)

        here : (r : Result (Unit {0}) Refusal)
            → MatchResult r
            (λ met. MatchBool free (found ≡ Ok false) (found ≡ Err unopened.ExceedsMaxNumberOfNodes))
            (λ unmet. found ≡ Err (unopened.Clause unmet))
            → MatchResult r
            (λ met. MatchBool free (answer ≡ reply.FactoryMade number)
            (answer ≡ reply.Refused (open_told named publish_subscribe_open.ExceedsMaxNumberOfNodes event_open.ExceedsMaxNumberOfNodes
            request_response_open.ExceedsMaxNumberOfNodes)))
            (λ unmet. answer ≡ reply.Refused unmet)
        here (Ok met) is = entering free is
        here (Err unmet) is = subst Told is told
    opening-told types required node (Emptied life agreed by) found is told = here (verdict types named required agreed) is
      where
        here : (r : Result (Unit {0}) Refusal)
            → MatchResult r (λ met. found ≡ Err unopened.IsMarkedForDestruction) (λ unmet. found ≡ Err (unopened.Clause unmet))
            → MatchResult r
            (λ met. answer ≡ reply.Refused (open_told named publish_subscribe_open.IsMarkedForDestruction event_open.IsMarkedForDestruction
            request_response_open.IsMarkedForDestruction))
            (λ unmet. answer ≡ reply.Refused unmet)
        here (Ok met) is = subst Told is told ∙ ap (λ (why : Refusal). reply.Refused why) (open-marked named)
        here (Err unmet) is = subst Told is told

pub creations-answer-so : {T : Type 0} (choices : Choices T) → CreationsAnswerSo choices
creations-answer-so {T} choices types buffer node name named attributes old answer new unskipped h =
    here (unfit (settings_of types named)) refl h
  where
    asked : Agreement
    asked = record { settings = settings_of types named; attributes = attributes }

    phase : Phase
    phase = old.phases (pattern_of named) name

    lacks : Refusal
    lacks = create_told named publish_subscribe_create.OutOfMemory event_create.OutOfMemory request_response_create.OutOfMemory

    Calls : Call → Answer CreateFailure → Call → Type 0
    Calls = Creates types (pattern_of named) [] (Own node) asked

    lacking : answer ≡ reply.Refused (create_refusal named uncreated.OutOfMemory) → answer ≡ reply.Refused lacks
    lacking told = told ∙ ap (λ (why : Refusal). reply.Refused why) (create-lacks named)

    fits : unfit (settings_of types named) ≡ None
        → Negotiates Calls (create_refusal named) (λ is_new. uncreated.OutOfMemory) (factory_of node name named) old answer new
        → (answer ≡ reply.Refused lacks) ⊎ CreationAnswers answer (old.made.factories + 1) named phase
    fits fit h = elim (called Calls (create_refusal named) uncreated.OutOfMemory (factory_of node name named) old answer new unskipped h) [
      | inl told ↦ inl (lacking told)
      | inr (found, after, calls, inr told) ↦ inl (lacking told)
      | inr (found, after, calls, inl told) ↦
          elim (creates-so types (pattern_of named) (Own node) asked phase found after fit calls) [
            | inl is ↦ inr (creation-told answer (old.made.factories + 1) named phase found is told)
            | inr is ↦ inl (lacking (subst (λ (r : Result Bool CreateFailure). MatchResult r
                (λ is_new. answer ≡ reply.FactoryMade (old.made.factories + 1))
                (λ failure. answer ≡ reply.Refused (create_refusal named failure))) is told))
          ]
    ]

    here : (o : Option CreateFailure) → unfit (settings_of types named) ≡ o
        → MatchOption o
        (Negotiates Calls (create_refusal named) (λ is_new. uncreated.OutOfMemory) (factory_of node name named) old answer new)
        (λ failure. MatchBool (nat_le 1 node && nat_le node old.made.nodes)
        (IsRefused (create_refusal named failure) old answer new) (IsSkipped old answer new))
        → MatchOption o
        ((answer ≡ reply.Refused lacks) ⊎ CreationAnswers answer (old.made.factories + 1) named phase)
        (λ failure. answer ≡ reply.Refused (unfit_told named failure))
    here None fit h = fits fit h
    here (Some failure) is h =
        elim (by-bool (nat_le 1 node && nat_le node old.made.nodes) (IsRefused (create_refusal named failure) old answer new)
        (IsSkipped old answer new) h) [
          | inl w ↦ w.1.0 ∙ ap (λ (why : Refusal). reply.Refused why) (unfit-so types named failure is)
          | inr w ↦ absurd (true≢false (sym (ap is_skipped w.1.0) ∙ unskipped))
        ]

pub openings-answer-so : {T : Type 0} (choices : Choices T) → OpeningsAnswerSo choices
openings-answer-so {T} choices types buffer node name named required old answer new unskipped h =
    elim (called Calls (open_refusal named) unopened.OutOfMemory (factory_of node name named) old answer new unskipped h) [
      | inl told ↦ inl (lacking told)
      | inr (found, after, calls, inr told) ↦ inl (lacking told)
      | inr (found, after, calls, inl told) ↦
          elim (opens-so types (pattern_of named) (Own node) (verdict types named required) phase found after calls) [
            | inl is ↦ inr (opening-told answer (old.made.factories + 1) named types required node phase found is told)
            | inr is ↦ inl (lacking (subst (Told answer (old.made.factories + 1) named) is told))
          ]
    ]
  where
    phase : Phase
    phase = old.phases (pattern_of named) name

    Calls : Call → Answer (OpenFailure Refusal) → Call → Type 0
    Calls = Rounds (Access types (pattern_of named) [] (Own node) unopened.OutOfMemory
        (OpenLooks types (pattern_of named) [] (Own node) (verdict types named required))) unopened.ServiceInCorruptedState 5

    lacking : answer ≡ reply.Refused (open_refusal named unopened.OutOfMemory)
        → answer ≡ reply.Refused (open_told named publish_subscribe_open.OutOfMemory event_open.OutOfMemory
        request_response_open.OutOfMemory)
    lacking told = told ∙ ap (λ (why : Refusal). reply.Refused why) (open-lacks named)

-- ---- defaults

pub named-or : (default : ℕ) (named : Option ℕ) → 1 ≤ default → IsNamedOr default named (max (unwrap_or named default) 1)
named-or default None one = above default one
  where
    above : (n : ℕ) → 1 ≤ n → max n 1 ≡ n
    above n h = omega (arith, h)
named-or default (Some zero) one = inr (refl, refl)
named-or default (Some (suc n)) one = inl (omega arith, above n)
  where
    above : (n : ℕ) → max (suc n) 1 ≡ suc n
    above n = omega arith

pub defaults-are-known : {T : Type 0} (choices : Choices T) → DefaultsAreKnown choices
defaults-are-known choices types buffer node name named attributes old number new h =
    let came = creates-as-described choices types buffer node name (options.PublishSubscribe named) attributes [] old number new h in (
      came.0,
      given,
      came.2,
      (
        refl,
        refl,
        named-or 2 named.max_publishers (omega arith),
        named-or 8 named.max_subscribers (omega arith),
        refl,
        named-or 2 named.subscriber_max_buffer_size (omega arith),
        refl,
        named-or 2 named.subscriber_max_borrowed_samples (omega arith),
        named-or 20 named.max_nodes (omega arith),
      ),
    )
  where
    given : StaticConfig
    given = record {
      types = types;
      enable_safe_overflow = unwrap_or named.enable_safe_overflow true;
      max_publishers = max (unwrap_or named.max_publishers 2) 1;
      max_subscribers = max (unwrap_or named.max_subscribers 8) 1;
      sequence_numbers = unwrap_or named.sequence_numbers false;
      subscriber_max_buffer_size = max (unwrap_or named.subscriber_max_buffer_size 2) 1;
      history_size = unwrap_or named.history_size 0;
      subscriber_max_borrowed_samples = max (unwrap_or named.subscriber_max_borrowed_samples 2) 1;
      max_nodes = max (unwrap_or named.max_nodes 20) 1;
    }
