-- What a creation and an opening answer while other nodes act.
use Rattle.std.proofs.Common.{◌≡◌, ◌⊎◌, ◌+◌, ℕ, zero, suc, Bool, true, false, cond, ◌&&◌, ◌||◌, List, length, Option}
use Rattle.std.proofs.Common.{None, Some, Result, Ok}
use Rattle.std.proofs.Common.{Err, refl, sym, ap, subst, inl, inr, ◌∙◌, true≢false}
use Rattle.std.specs.Prelude.{◌==◌, nat_le, nat_lt, MatchBool, MatchOption, MatchResult}
use Rattle.iox_machine.proofs.Called.{called-with, create-exists, create-hangs, create-lacks}
use Rattle.iox_machine.proofs.Called.{open-absent, open-full, open-hangs, open-lacks}
use Rattle.iox_machine.proofs.Called.{open-marked, unfit-so}
use Rattle.iox_machine.proofs.Cases.{by-bool, by-option, never-some, same-some}
use Rattle.iox_machine.proofs.Shorthands.{IsRefused, IsSkipped, factory_of}
use Rattle.iox_machine.specs.Agreement.{Agreement, unfit, verdict}
use Rattle.iox_machine.specs.Asked.{settings_of}
use Rattle.iox_machine.specs.Choices.{Choices}
use Rattle.iox_machine.specs.Factories.{Negotiates}
use Rattle.iox_machine.specs.MeanwhileLaws.{CreationAnswersThen, CreationsAnswerMeanwhile, NodesAnswerSo, OpeningsAnswerMeanwhile}
use Rattle.iox_machine.specs.MeanwhileLaws.{LockAnswers, RegisteringAnswers, RoundAnswers, RoundsAnswer, phase_before}
use Rattle.iox_machine.specs.Negotiation.{Access, Answer, Call, CreateLooks, Creates, Fails, Locks, OpenLooks, Rounds}
use Rattle.iox_machine.specs.Negotiation.{registered}
use Rattle.iox_machine.specs.OnceLaws.{is_skipped}
use Rattle.iox_machine.specs.Phase.{Absent, BeingMade, Emptied, Node, Own, Phase, Published, entered, is_in}
use Rattle.iox_machine.specs.Refusals.{create_refusal, open_refusal}
use Rattle.iox_machine.specs.ServiceReplyLaws.{create_told, open_told, unfit_told}
use Rattle.iox_command.specs.NegotiateBase.DescribeBase.Attributes.{Required}
use Rattle.iox_command.specs.NegotiateBase.DescribeBase.declared.message_type.MessageTypeDetails.{MessageTypeDetails}
use Rattle.iox_command.specs.NegotiateBase.DescribeBase.declared.pattern.MessagingPattern.{MessagingPattern}
use Rattle.iox_command.specs.NegotiateBase.DescribeSettings.Agreement.{max_nodes_of}
use Rattle.iox_command.specs.NegotiateBase.declared.errors.event.EventCreateError.TheVariants as event_create
use Rattle.iox_command.specs.NegotiateBase.declared.errors.event.EventOpenError.TheVariants as event_open
use Rattle.iox_command.specs.NegotiateBase.declared.errors.publish_subscribe.PublishSubscribeCreateError.TheVariants as
    publish_subscribe_create
use Rattle.iox_command.specs.NegotiateBase.declared.errors.publish_subscribe.PublishSubscribeOpenError.TheVariants as publish_subscribe_open
use Rattle.iox_command.specs.NegotiateBase.declared.errors.request_response.RequestResponseCreateError.TheVariants as
    request_response_create
use Rattle.iox_command.specs.NegotiateBase.declared.errors.request_response.RequestResponseOpenError.TheVariants as request_response_open
use Rattle.iox_command.specs.NegotiateBase.declared.failure.CreateFailure.{CreateFailure}
use Rattle.iox_command.specs.NegotiateBase.declared.failure.CreateFailure.TheVariants as uncreated
use Rattle.iox_command.specs.NegotiateBase.declared.failure.OpenFailure.{OpenFailure}
use Rattle.iox_command.specs.NegotiateBase.declared.failure.OpenFailure.TheVariants as unopened
use Rattle.iox_command.specs.Patterns.{pattern_of}
use Rattle.iox_command.specs.declared.refusal.Refusal.{Refusal}
use Rattle.iox_command.specs.declared.reply.Reply.{Reply}
use Rattle.iox_command.specs.declared.reply.Reply.TheVariants as reply
use Rattle.iox_command.specs.declared.service.ServiceOptions.{ServiceOptions}
use Rattle.iox_command.specs.declared.service.ServiceOptions.TheVariants as options
use Rattle.iox_command.specs.declared.step.StepBefore.{StepBefore}

create-busy : (named : ServiceOptions) → create_refusal named uncreated.IsBeingCreatedByAnotherInstance
    ≡ create_told named publish_subscribe_create.IsBeingCreatedByAnotherInstance event_create.IsBeingCreatedByAnotherInstance
    request_response_create.IsBeingCreatedByAnotherInstance
create-busy (options.PublishSubscribe named) = refl
create-busy (options.Event named) = refl
create-busy (options.RequestResponse named) = refl

open-corrupted : (named : ServiceOptions) → open_refusal named unopened.ServiceInCorruptedState
    ≡ open_told named publish_subscribe_open.ServiceInCorruptedState event_open.ServiceInCorruptedState
    request_response_open.ServiceInCorruptedState
open-corrupted (options.PublishSubscribe named) = refl
open-corrupted (options.Event named) = refl
open-corrupted (options.RequestResponse named) = refl

module _ {T : Type 0} (types : MessageTypeDetails) (steps : List StepBefore) (answer : Reply T) (number : ℕ) (named : ServiceOptions) where
  abbrev pattern : MessagingPattern
  pattern = pattern_of named

  refused-so : (why other : Refusal) → answer ≡ reply.Refused why → why ≡ other → answer ≡ reply.Refused other
  refused-so why other told same = told ∙ ap (λ (it : Refusal). reply.Refused it) same

  -- ---- a creation

  abbrev Creation : Result Bool CreateFailure → Type 0
  Creation found =
      MatchResult found
      (λ is_new. (answer ≡ reply.FactoryMade number) ⊎ (answer ≡ reply.Refused (create_refusal named uncreated.OutOfMemory)))
      (λ failure. answer ≡ reply.Refused (create_refusal named failure))

  abbrev CreateLacks : Type 0
  CreateLacks =
      answer ≡ reply.Refused (create_told named publish_subscribe_create.OutOfMemory event_create.OutOfMemory
      request_response_create.OutOfMemory)

  create-lacking : answer ≡ reply.Refused (create_refusal named uncreated.OutOfMemory) → CreateLacks
  create-lacking told = told ∙ ap (λ (why : Refusal). reply.Refused why) (create-lacks named)

  created-as : (found other : Result Bool CreateFailure) → Some found ≡ Some other → Creation found → Creation other
  created-as found other same told = subst Creation (same-some found other same) told

  module _ (node : Node) (agreed : Agreement) where
    locks-answer : (phase : Phase) (call : Call) (found : Result Bool CreateFailure) (after : Call)
        → Locks types pattern steps node agreed phase call (Some found) after → Creation found
        → CreateLacks ⊎ LockAnswers answer number named phase
    locks-answer (Absent lives) call found after (inl (told, came)) said =
        elim (created-as found (Ok true) told said) [ inl made ↦ inr made | inr lacking ↦ inl (create-lacking lacking) ]
    locks-answer (Absent lives) call found after (inr (told, came)) said =
        inl (create-lacking (created-as found (Err uncreated.OutOfMemory) told said))
    locks-answer (BeingMade life by) call found after (told, came) said =
        inr (created-as found (Err uncreated.IsBeingCreatedByAnotherInstance) told said
        ∙ ap (λ (why : Refusal). reply.Refused why) (create-busy named))
    locks-answer (Published life standing nodes) call found after (told, came) said =
        inr (created-as found (Err uncreated.AlreadyExists) told said ∙ ap (λ (why : Refusal). reply.Refused why) (create-exists named))
    locks-answer (Emptied life standing by) call found after (told, came) said =
        inr (created-as found (Err uncreated.AlreadyExists) told said ∙ ap (λ (why : Refusal). reply.Refused why) (create-exists named))

    looks-answer : (phase : Phase) (call : Call) (found : Result Bool CreateFailure) (after : Call)
        → CreateLooks types pattern steps node agreed phase call (Some found) after → Creation found
        → CreateLacks
        ⊎ CreationAnswersThen answer number named phase (phase_before types pattern steps call.phase (call.accesses + 1))
    looks-answer (Absent lives) call found after (inl locks) said =
        locks-answer (phase_before types pattern steps call.phase (call.accesses + 1))
        (record { phase = phase_before types pattern steps call.phase (call.accesses + 1); accesses = call.accesses + 1 }) found after locks
        said
    looks-answer (Absent lives) call found after (inr (done, (told, came))) said =
        inl (create-lacking (created-as found (Err uncreated.OutOfMemory) told said))
    looks-answer (BeingMade life by) call found after (told, came) said =
        inr (created-as found (Err uncreated.HangsInCreation) told said ∙ ap (λ (why : Refusal). reply.Refused why) (create-hangs named))
    looks-answer (Published life standing nodes) call found after (told, came) said =
        inr (created-as found (Err uncreated.AlreadyExists) told said ∙ ap (λ (why : Refusal). reply.Refused why) (create-exists named))
    looks-answer (Emptied life standing by) call found after (told, came) said =
        inr (created-as found (Err uncreated.AlreadyExists) told said ∙ ap (λ (why : Refusal). reply.Refused why) (create-exists named))

    creates-answer : (phase : Phase) (found : Result Bool CreateFailure) (after : Call) → unfit agreed.settings ≡ None
        → Creates types pattern steps node agreed (record { phase = phase; accesses = 0 }) (Some found) after → Creation found
        → CreateLacks
        ⊎ CreationAnswersThen answer number named (phase_before types pattern steps phase 1)
        (phase_before types pattern steps (phase_before types pattern steps phase 1) 2)
    creates-answer phase found after fit h said =
        elim (by-option (unfit agreed.settings)
        (Access types pattern steps node uncreated.OutOfMemory (CreateLooks types pattern steps node agreed)
        (record { phase = phase; accesses = 0 }) (Some found) after)
        (λ failure. Fails failure (record { phase = phase; accesses = 0 }) (Some found) after) h) [
          | inl w ↦ looked w.1
          | inr w ↦ never-some w.0 (sym fit ∙ w.1)
        ]
      where
        looked : Access types pattern steps node uncreated.OutOfMemory (CreateLooks types pattern steps node agreed)
            (record { phase = phase; accesses = 0 }) (Some found) after
            → CreateLacks
            ⊎ CreationAnswersThen answer number named (phase_before types pattern steps phase 1)
            (phase_before types pattern steps (phase_before types pattern steps phase 1) 2)
        looked (inl look) =
            looks-answer (phase_before types pattern steps phase 1)
            (record { phase = phase_before types pattern steps phase 1; accesses = 1 }) found after look said
        looked (inr (done, (told, came))) = inl (create-lacking (created-as found (Err uncreated.OutOfMemory) told said))

  -- ---- an opening

  abbrev pub Opening : Result Bool (OpenFailure Refusal) → Type 0
  Opening found =
      MatchResult found
      (λ is_new. (answer ≡ reply.FactoryMade number) ⊎ (answer ≡ reply.Refused (open_refusal named unopened.OutOfMemory)))
      (λ failure. answer ≡ reply.Refused (open_refusal named failure))

  abbrev pub OpenLacks : Type 0
  OpenLacks =
      answer ≡ reply.Refused (open_told named publish_subscribe_open.OutOfMemory event_open.OutOfMemory
      request_response_open.OutOfMemory)

  pub open-lacking : answer ≡ reply.Refused (open_refusal named unopened.OutOfMemory) → OpenLacks
  open-lacking told = told ∙ ap (λ (why : Refusal). reply.Refused why) (open-lacks named)

  opened-as : (found other : Result Bool (OpenFailure Refusal)) → Some found ≡ Some other → Opening found → Opening other
  opened-as found other same told = subst Opening (same-some found other same) told

  module _ (required : Required) (node : ℕ) where
    -- what comes of a round: an answer, or the next round, which answers `Next` if memory suffices
    abbrev pub Goes : Type 0 → Answer (OpenFailure Refusal) → Type 0
    Goes Next None = OpenLacks ⊎ Next
    Goes Next (Some found) = Opening found

    registers-answer : (rest : Phase → Type 0) (life : ℕ) (phase : Phase)
        → Goes (rest (registered {V = Refusal} life (Own node) phase).1) (registered {V = Refusal} life (Own node) phase).0
        → OpenLacks ⊎ RegisteringAnswers answer number named types required node life (rest phase) phase
    registers-answer rest life (Absent lives) goes = goes
    registers-answer rest life (BeingMade now by) goes = goes
    registers-answer rest life (Published now agreed nodes) goes =
        here (now == life) (is_in (Own node) nodes || nat_lt (length nodes) (max_nodes_of agreed.settings)) goes
      where
        there : Bool → Bool → Answer (OpenFailure Refusal) × Phase
        there b c = cond b (cond c (Some (Ok false), Published now agreed (entered (Own node) nodes))
            (Some (Err unopened.ExceedsMaxNumberOfNodes), Published now agreed nodes)) (None, Published now agreed nodes)

        here : (b c : Bool) → Goes (rest (there b c).1) (there b c).0
            → OpenLacks
            ⊎ MatchBool b
            (MatchBool c (answer ≡ reply.FactoryMade number)
            (answer ≡ reply.Refused (open_told named publish_subscribe_open.ExceedsMaxNumberOfNodes event_open.ExceedsMaxNumberOfNodes
            request_response_open.ExceedsMaxNumberOfNodes)))
            (rest (Published now agreed nodes))
        here true true (inl made) = inr made
        here true true (inr lacking) = inl (open-lacking lacking)
        here true false told = inr (told ∙ ap (λ (why : Refusal). reply.Refused why) (open-full named))
        here false c goes = goes
    registers-answer rest life (Emptied now agreed by) goes = here (now == life) goes
      where
        here : (b : Bool) → Goes (rest (Emptied now agreed by)) (cond b (Some (Err unopened.IsMarkedForDestruction)) None)
            → OpenLacks
            ⊎ MatchBool b
            (answer ≡ reply.Refused (open_told named publish_subscribe_open.IsMarkedForDestruction event_open.IsMarkedForDestruction
            request_response_open.IsMarkedForDestruction))
            (rest (Emptied now agreed by))
        here true told = inr (told ∙ ap (λ (why : Refusal). reply.Refused why) (open-marked named))
        here false goes = goes

    told-as : (Next : Type 0) (first : Answer (OpenFailure Refusal)) (failure : OpenFailure Refusal) → first ≡ Some (Err failure)
        → Goes Next first → answer ≡ reply.Refused (open_refusal named failure)
    told-as Next first failure told goes = subst (λ (it : Answer (OpenFailure Refusal)). Goes Next it) told goes

    module _ (rest : Phase → ℕ → Type 0) (phase : Phase) (accesses : ℕ) (first : Answer (OpenFailure Refusal)) (mid : Call)
        (goes : Goes (rest mid.phase mid.accesses) first) where
      abbrev looking : Call
      looking = record { phase = phase; accesses = accesses }

      abbrev later : Phase
      later = phase_before types pattern steps phase (accesses + 1)

      abbrev Registers : ℕ → Type 0
      Registers life =
          Access types pattern steps (Own node) unopened.OutOfMemory
          (λ phase now found later. (found ≡ (registered {V = Refusal} life (Own node) phase).0)
          × (later ≡ record now { phase = (registered {V = Refusal} life (Own node) phase).1 })) looking first mid

      finds-answer : (life : ℕ) (r : Result (Unit {0}) Refusal)
          → MatchResult r (λ met. Registers life) (λ unmet. Fails (unopened.Clause unmet) looking first mid)
          → OpenLacks
          ⊎ MatchResult r (λ met. RegisteringAnswers answer number named types required node life (rest later (accesses + 1)) later)
          (λ unmet. answer ≡ reply.Refused unmet)
      finds-answer life (Ok met) (inl (told, came)) =
          registers-answer (λ (it : Phase). rest it (accesses + 1)) life later
          (subst (λ (it : Answer (OpenFailure Refusal)). Goes
          (rest (registered {V = Refusal} life (Own node) later).1 (accesses + 1)) it) told
          (subst (λ (end : Call). Goes (rest end.phase end.accesses) first) came goes))
      finds-answer life (Ok met) (inr (done, (told, came))) = inl (open-lacking (told-as
          (rest mid.phase mid.accesses) first unopened.OutOfMemory told goes))
      finds-answer life (Err unmet) (told, came) = inr (told-as (rest mid.phase mid.accesses) first (unopened.Clause unmet) told goes)

    pub round-answers : (rest : Phase → ℕ → Type 0) (phase : Phase) (accesses : ℕ) (first : Answer (OpenFailure Refusal)) (mid : Call)
        → Goes (rest mid.phase mid.accesses) first
        → OpenLooks types pattern steps (Own node) (verdict types named required) phase
        (record { phase = phase; accesses = accesses }) first mid
        → OpenLacks
        ⊎ RoundAnswers answer number named types required node (phase_before types pattern steps phase (accesses + 1))
        (rest (phase_before types pattern steps phase (accesses + 1)) (accesses + 1)) phase
    round-answers rest (Absent lives) accesses first mid goes (told, came) =
        inr (told-as (rest mid.phase mid.accesses) first unopened.DoesNotExist told goes
        ∙ ap (λ (why : Refusal). reply.Refused why) (open-absent named))
    round-answers rest (BeingMade life by) accesses first mid goes (told, came) =
        inr (told-as (rest mid.phase mid.accesses) first unopened.HangsInCreation told goes
        ∙ ap (λ (why : Refusal). reply.Refused why) (open-hangs named))
    round-answers rest (Published life agreed nodes) accesses first mid goes h =
        finds-answer rest (Published life agreed nodes) accesses first mid goes life (verdict types named required agreed) h
    round-answers rest (Emptied life agreed by) accesses first mid goes h =
        finds-answer rest (Emptied life agreed by) accesses first mid goes life (verdict types named required agreed) h

    abbrev Looks : Call → Answer (OpenFailure Refusal) → Call → Type 0
    Looks =
        Access types pattern steps (Own node) unopened.OutOfMemory
        (OpenLooks types pattern steps (Own node) (verdict types named required))

    abbrev Rest : ℕ → Phase → ℕ → Type 0
    Rest rounds phase accesses = RoundsAnswer answer number named types required node steps rounds phase accesses

    rounds-answer : (rounds : ℕ) (call : Call) (found : Result Bool (OpenFailure Refusal)) (after : Call) → Opening found
        → Rounds Looks unopened.ServiceInCorruptedState rounds call (Some found) after
        → OpenLacks ⊎ Rest rounds call.phase call.accesses
    rounds-answer zero call found after said (told, came) =
        inr (opened-as found (Err unopened.ServiceInCorruptedState) told said
        ∙ ap (λ (why : Refusal). reply.Refused why) (open-corrupted named))
    rounds-answer (suc rounds) call found after said (mid, first, round, more) =
        looked round (goes first (λ next. rounds-answer rounds mid found after said next) more)
      where
        goes : (it : Answer (OpenFailure Refusal))
            → (Rounds Looks unopened.ServiceInCorruptedState rounds mid (Some found) after
            → OpenLacks ⊎ Rest rounds mid.phase mid.accesses)
            → MatchOption it (Rounds Looks unopened.ServiceInCorruptedState rounds mid (Some found) after)
            (λ one. (Some found ≡ it) × (after ≡ mid))
            → Goes (Rest rounds mid.phase mid.accesses) it
        goes None on h = on h
        goes (Some one) on h = opened-as found one h.0 said

        looked : Looks call first mid → Goes (Rest rounds mid.phase mid.accesses) first
            → OpenLacks ⊎ Rest (suc rounds) call.phase call.accesses
        looked (inl look) going =
            round-answers (Rest rounds) (phase_before types pattern steps call.phase (call.accesses + 1))
            (call.accesses + 1) first mid going
            look
        looked (inr (done, (told, came))) going =
            inl (open-lacking (told-as (Rest rounds mid.phase mid.accesses) first unopened.OutOfMemory told going))

pub creations-answer-meanwhile : {T : Type 0} (choices : Choices T) → CreationsAnswerMeanwhile choices
creations-answer-meanwhile {T} choices types buffer node name named attributes steps old answer new unskipped h =
    here (unfit (settings_of types named)) refl h
  where
    asked : Agreement
    asked = record { settings = settings_of types named; attributes = attributes }

    phase : Phase
    phase = old.phases (pattern_of named) name

    Calls : Call → Answer CreateFailure → Call → Type 0
    Calls = Creates types (pattern_of named) steps (Own node) asked

    Then : Type 0
    Then =
        CreationAnswersThen answer (old.made.factories + 1) named (phase_before types (pattern_of named) steps phase 1)
        (phase_before types (pattern_of named) steps (phase_before types (pattern_of named) steps phase 1) 2)

    Lacks : Type 0
    Lacks =
        answer ≡ reply.Refused (create_told named publish_subscribe_create.OutOfMemory event_create.OutOfMemory
        request_response_create.OutOfMemory)

    fits : unfit (settings_of types named) ≡ None
        → Negotiates Calls (create_refusal named) (λ is_new. uncreated.OutOfMemory) (factory_of node name named) old answer new
        → Lacks ⊎ Then
    fits fit h =
        elim (called-with Calls (create_refusal named) (λ is_new. uncreated.OutOfMemory) (factory_of node name named) old answer new
        unskipped h) [
          | inl told ↦ inl (create-lacking types steps answer (old.made.factories + 1) named told)
          | inr w ↦ creates-answer types steps answer (old.made.factories + 1) named (Own node) asked phase w.0 w.1 fit w.2 w.3
        ]

    here : (o : Option CreateFailure) → unfit (settings_of types named) ≡ o
        → MatchOption o
        (Negotiates Calls (create_refusal named) (λ is_new. uncreated.OutOfMemory) (factory_of node name named) old answer new)
        (λ failure. MatchBool (nat_le 1 node && nat_le node old.made.nodes)
        (IsRefused (create_refusal named failure) old answer new) (IsSkipped old answer new))
        → MatchOption o (Lacks ⊎ Then) (λ failure. answer ≡ reply.Refused (unfit_told named failure))
    here None fit h = fits fit h
    here (Some failure) is h =
        elim (by-bool (nat_le 1 node && nat_le node old.made.nodes) (IsRefused (create_refusal named failure) old answer new)
        (IsSkipped old answer new) h) [
          | inl w ↦ w.1.0 ∙ ap (λ (why : Refusal). reply.Refused why) (unfit-so types named failure is)
          | inr w ↦ absurd (true≢false (sym (ap is_skipped w.1.0) ∙ unskipped))
        ]

pub openings-answer-meanwhile : {T : Type 0} (choices : Choices T) → OpeningsAnswerMeanwhile choices
openings-answer-meanwhile {T} choices types buffer node name named required steps old answer new unskipped h =
    elim (called-with Calls (open_refusal named) (λ is_new. unopened.OutOfMemory) (factory_of node name named) old answer new
    unskipped h) [
      | inl told ↦ inl (open-lacking types steps answer (old.made.factories + 1) named told)
      | inr w ↦ rounds-answer types steps answer (old.made.factories + 1) named required node 5
          (record { phase = old.phases (pattern_of named) name; accesses = 0 }) w.0 w.1 w.3 w.2
    ]
  where
    Calls : Call → Answer (OpenFailure Refusal) → Call → Type 0
    Calls = Rounds (Access types (pattern_of named) steps (Own node) unopened.OutOfMemory
        (OpenLooks types (pattern_of named) steps (Own node) (verdict types named required))) unopened.ServiceInCorruptedState 5

pub nodes-answer-so : {T : Type 0} (choices : Choices T) → NodesAnswerSo choices
nodes-answer-so choices types buffer old answer new = (
  (λ h. elim h [ inl made ↦ inl made.0 | inr refused ↦ inr refused.0 ]),
  (λ pattern name steps h. elim h [ inl done ↦ inl done.0 | inr refused ↦ inr refused.2.0 ]),
)
