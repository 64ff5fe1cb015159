-- What `open_or_create` answers while other nodes act.
use Rattle.std.proofs.Common.{◌≡◌, ◌⊎◌, ◌+◌, ℕ, zero, suc, Bool, true, false, ◌||◌, List, length, Option, None, Some, Result, Ok, Err, refl}
use Rattle.std.proofs.Common.{ap, subst, inl, inr, ◌∙◌}
use Rattle.std.specs.Prelude.{◌==◌, nat_lt, MatchBool, MatchOption, MatchResult}
use Rattle.iox_machine.proofs.Acting.{OpenLacks, Opening, open-lacking, round-answers}
use Rattle.iox_machine.proofs.Acting as acting
use Rattle.iox_machine.proofs.Called.{called-with, create-lacks, open-lacks, unfit-so}
use Rattle.iox_machine.proofs.Either.{within-told}
use Rattle.iox_machine.proofs.Shorthands.{either_lacking, factory_of, opened}
use Rattle.iox_machine.specs.Agreement.{Agreement, unfit, verdict}
use Rattle.iox_machine.specs.Asked.{settings_of}
use Rattle.iox_machine.specs.Choices.{Choices}
use Rattle.iox_machine.specs.EitherLaws.{EitherAnswersMeanwhile, EitherRoundTells, EitherRoundsTell, LockTells, in_flux}
use Rattle.iox_machine.specs.MeanwhileLaws.{RegisteringAnswers, RoundAnswers, phase_before}
use Rattle.iox_machine.specs.Negotiation.{Access, Answer, Call, EitherLooks, Fails, Locks, OpenLooks, Rounds, created}
use Rattle.iox_machine.specs.Phase.{Absent, BeingMade, Emptied, Own, Phase, Published, is_in}
use Rattle.iox_machine.specs.Refusals.{create_refusal, either_refusal, open_refusal}
use Rattle.iox_machine.specs.ServiceReplyLaws.{create_told, open_told, told_within, unfit_told}
use Rattle.iox_command.specs.NegotiateBase.DescribeBase.Attributes.{Required}
use Rattle.iox_command.specs.NegotiateBase.DescribeBase.declared.message_type.MessageTypeDetails.{MessageTypeDetails}
use Rattle.iox_command.specs.NegotiateBase.DescribeBase.declared.pattern.MessagingPattern.{MessagingPattern}
use Rattle.iox_command.specs.NegotiateBase.DescribeSettings.Agreement.{max_nodes_of}
use Rattle.iox_command.specs.NegotiateBase.declared.errors.event.EventCreateError.TheVariants as event_create
use Rattle.iox_command.specs.NegotiateBase.declared.errors.event.EventOpenError.TheVariants as event_open
use Rattle.iox_command.specs.NegotiateBase.declared.errors.publish_subscribe.PublishSubscribeCreateError.TheVariants as
    publish_subscribe_create
use Rattle.iox_command.specs.NegotiateBase.declared.errors.publish_subscribe.PublishSubscribeOpenError.TheVariants as publish_subscribe_open
use Rattle.iox_command.specs.NegotiateBase.declared.errors.request_response.RequestResponseCreateError.TheVariants as
    request_response_create
use Rattle.iox_command.specs.NegotiateBase.declared.errors.request_response.RequestResponseOpenError.TheVariants as request_response_open
use Rattle.iox_command.specs.NegotiateBase.declared.failure.CreateFailure.{CreateFailure}
use Rattle.iox_command.specs.NegotiateBase.declared.failure.CreateFailure.TheVariants as uncreated
use Rattle.iox_command.specs.NegotiateBase.declared.failure.OpenFailure.{OpenFailure}
use Rattle.iox_command.specs.NegotiateBase.declared.failure.OpenFailure.TheVariants as unopened
use Rattle.iox_command.specs.NegotiateBase.declared.failure.OpenOrCreateFailure.{OpenOrCreateFailure}
use Rattle.iox_command.specs.NegotiateBase.declared.failure.OpenOrCreateFailure.TheVariants as neither
use Rattle.iox_command.specs.Patterns.{pattern_of}
use Rattle.iox_command.specs.declared.refusal.Refusal.{Refusal}
use Rattle.iox_command.specs.declared.reply.Reply.{Reply}
use Rattle.iox_command.specs.declared.reply.Reply.TheVariants as reply
use Rattle.iox_command.specs.declared.service.ServiceOptions.{ServiceOptions}
use Rattle.iox_command.specs.declared.service.ServiceOptions.TheVariants as options
use Rattle.iox_command.specs.declared.step.StepBefore.{StepBefore}

-- how a failure is told before it is within the error for both
abbrev untold : ServiceOptions → OpenOrCreateFailure Refusal → Refusal
untold named (neither.Open failure) = open_refusal named failure
untold named (neither.Create failure) = create_refusal named failure
untold named neither.SystemInFlux = in_flux named

either-is : (T : Type 0) (named : ServiceOptions) (failure : OpenOrCreateFailure Refusal)
    → reply.Refused (either_refusal named failure) ≡ told_within {T = T} (reply.Refused (untold named failure))
either-is T named (neither.Open failure) = within-told {T = T} (open_refusal named failure)
either-is T named (neither.Create failure) = within-told {T = T} (create_refusal named failure)
either-is T (options.PublishSubscribe named) neither.SystemInFlux = refl
either-is T (options.Event named) neither.SystemInFlux = refl
either-is T (options.RequestResponse named) neither.SystemInFlux = refl

module _ {T : Type 0} (types : MessageTypeDetails) (steps : List StepBefore) (told : Reply T) (number : ℕ) (named : ServiceOptions)
    (required : Required) (node : ℕ) where
  abbrev pattern : MessagingPattern
  pattern = pattern_of named

  abbrev asked : Agreement
  asked = record { settings = settings_of types named; attributes = required.pairs }

  abbrev CreateLacks : Type 0
  CreateLacks =
      told ≡ reply.Refused (create_told named publish_subscribe_create.OutOfMemory event_create.OutOfMemory
      request_response_create.OutOfMemory)

  abbrev Lacks : Type 0
  Lacks = OpenLacks types steps told number named ⊎ CreateLacks

  create-lacking : told ≡ reply.Refused (create_refusal named uncreated.OutOfMemory) → Lacks
  create-lacking is = inr (is ∙ ap (λ (why : Refusal). reply.Refused why) (create-lacks named))

  abbrev Tells : Result Bool (OpenOrCreateFailure Refusal) → Type 0
  Tells found =
      MatchResult found
      (λ is_new. (told ≡ reply.FactoryMade number) ⊎ (told ≡ reply.Refused (untold named (either_lacking is_new))))
      (λ failure. told ≡ reply.Refused (untold named failure))

  -- what comes of a round: an answer, or the next round, which tells `Next` if memory suffices
  abbrev Goes : Type 0 → Answer (OpenOrCreateFailure Refusal) → Type 0
  Goes Next None = Lacks ⊎ Next
  Goes Next (Some found) = Tells found

  goes-as : (Next : Type 0) (first other : Answer (OpenOrCreateFailure Refusal)) → first ≡ other → Goes Next first → Goes Next other
  goes-as Next first other same goes = subst (Goes Next) same goes

  -- ---- a round of an opening

  as-opening : (Next : Type 0) (found : Answer (OpenFailure Refusal)) → Goes Next (opened {V = Refusal} found)
      → Lacks ⊎ acting.Goes types steps told number named required node (Lacks ⊎ Next) found
  as-opening Next None goes = inr (inr goes)
  as-opening Next (Some (Ok true)) (inl made) = inr (inl made)
  as-opening Next (Some (Ok true)) (inr lacking) = inl (create-lacking lacking)
  as-opening Next (Some (Ok false)) (inl made) = inr (inl made)
  as-opening Next (Some (Ok false)) (inr lacking) = inr (inr lacking)
  as-opening Next (Some (Err failure)) is = inr is

  registering-out : (life : ℕ) (Next : Type 0) (phase : Phase)
      → RegisteringAnswers told number named types required node life (Lacks ⊎ Next) phase
      → Lacks ⊎ RegisteringAnswers told number named types required node life Next phase
  registering-out life Next (Absent lives) it = it
  registering-out life Next (BeingMade now by) it = it
  registering-out life Next (Published now agreed nodes) it = here (now == life) it
    where
      Found : Type 0
      Found =
          MatchBool (is_in (Own node) nodes || nat_lt (length nodes) (max_nodes_of agreed.settings))
          (told ≡ reply.FactoryMade number)
          (told ≡ reply.Refused (open_told named publish_subscribe_open.ExceedsMaxNumberOfNodes event_open.ExceedsMaxNumberOfNodes
          request_response_open.ExceedsMaxNumberOfNodes))

      here : (b : Bool) → MatchBool b Found (Lacks ⊎ Next) → Lacks ⊎ MatchBool b Found Next
      here true found = inr found
      here false next = next
  registering-out life Next (Emptied now agreed by) it = here (now == life) it
    where
      Found : Type 0
      Found =
          told ≡ reply.Refused (open_told named publish_subscribe_open.IsMarkedForDestruction event_open.IsMarkedForDestruction
          request_response_open.IsMarkedForDestruction)

      here : (b : Bool) → MatchBool b Found (Lacks ⊎ Next) → Lacks ⊎ MatchBool b Found Next
      here true found = inr found
      here false next = next

  found-out : (life : ℕ) (Next : Type 0) (later : Phase) (r : Result (Unit {0}) Refusal)
      → MatchResult r (λ met. RegisteringAnswers told number named types required node life (Lacks ⊎ Next) later)
      (λ unmet. told ≡ reply.Refused unmet)
      → Lacks
      ⊎ MatchResult r (λ met. RegisteringAnswers told number named types required node life Next later)
      (λ unmet. told ≡ reply.Refused unmet)
  found-out life Next later (Ok met) it = registering-out life Next later it
  found-out life Next later (Err unmet) is = inr is

  round-out : (Next : Type 0) (later looked : Phase)
      → RoundAnswers told number named types required node later (Lacks ⊎ Next) looked
      → Lacks ⊎ RoundAnswers told number named types required node later Next looked
  round-out Next later (Absent lives) is = inr is
  round-out Next later (BeingMade life by) is = inr is
  round-out Next later (Published life agreed nodes) it = found-out life Next later (verdict types named required agreed) it
  round-out Next later (Emptied life agreed by) it = found-out life Next later (verdict types named required agreed) it

  opening-tells : (rest : Phase → ℕ → Type 0) (phase : Phase) (accesses : ℕ) (first : Answer (OpenOrCreateFailure Refusal)) (mid : Call)
      → Goes (rest mid.phase mid.accesses) first
      → (found : Answer (OpenFailure Refusal))
      × OpenLooks types pattern steps (Own node) (verdict types named required) phase (record { phase = phase; accesses = accesses })
      found mid
      × (first ≡ opened found)
      → Lacks
      ⊎ RoundAnswers told number named types required node (phase_before types pattern steps phase (accesses + 1))
      (rest (phase_before types pattern steps phase (accesses + 1)) (accesses + 1)) phase
  opening-tells rest phase accesses first mid goes (found, looks, told_so) =
      elim (as-opening (rest mid.phase mid.accesses) found
      (goes-as (rest mid.phase mid.accesses) first (opened {V = Refusal} found) told_so goes)) [
        | inl lacks ↦ inl lacks
        | inr so ↦ elim (round-answers types steps told number named required node
            (λ (it : Phase) (k : ℕ). Lacks ⊎ rest it k) phase accesses
            found mid so looks) [
              | inl lacks ↦ inl (inl lacks)
              | inr it ↦ round-out (rest (phase_before types pattern steps phase (accesses + 1)) (accesses + 1))
                  (phase_before types pattern steps phase (accesses + 1)) phase it
            ]
      ]

  -- ---- a round of a creation

  locks-tell : (rest : Phase → ℕ → Type 0) (phase : Phase) (accesses : ℕ) (first : Answer (OpenOrCreateFailure Refusal)) (mid : Call)
      → Goes (rest mid.phase mid.accesses) first → (made : Answer CreateFailure)
      → Locks types pattern steps (Own node) asked phase (record { phase = phase; accesses = accesses }) made mid
      → first ≡ created made → Lacks ⊎ LockTells told number named types required node (rest phase accesses) phase
  locks-tell rest (Absent lives) accesses first mid goes made (inl (is, came)) told_so =
      elim (goes-as (rest mid.phase mid.accesses) first (Some (Ok true)) (told_so ∙ ap (created {V = Refusal}) is) goes) [
        | inl it ↦ inr it
        | inr lacking ↦ inl (create-lacking lacking)
      ]
  locks-tell rest (Absent lives) accesses first mid goes made (inr (is, came)) told_so =
      inl (create-lacking (goes-as (rest mid.phase mid.accesses) first (Some (Err (neither.Create uncreated.OutOfMemory)))
      (told_so ∙ ap (created {V = Refusal}) is) goes))
  locks-tell rest (BeingMade life by) accesses first mid goes made (is, came) told_so =
      subst (λ (end : Call). Lacks ⊎ rest end.phase end.accesses) came
      (goes-as (rest mid.phase mid.accesses) first None (told_so ∙ ap (created {V = Refusal}) is) goes)
  locks-tell rest (Published life standing nodes) accesses first mid goes made (is, came) told_so =
      subst (λ (end : Call). Lacks ⊎ rest end.phase end.accesses) came
      (goes-as (rest mid.phase mid.accesses) first None (told_so ∙ ap (created {V = Refusal}) is) goes)
  locks-tell rest (Emptied life standing by) accesses first mid goes made (is, came) told_so =
      subst (λ (end : Call). Lacks ⊎ rest end.phase end.accesses) came
      (goes-as (rest mid.phase mid.accesses) first None (told_so ∙ ap (created {V = Refusal}) is) goes)

  either-tells : (rest : Phase → ℕ → Type 0) (phase : Phase) (accesses : ℕ) (first : Answer (OpenOrCreateFailure Refusal)) (mid : Call)
      → Goes (rest mid.phase mid.accesses) first
      → EitherLooks types pattern steps (Own node) (verdict types named required) asked phase
      (record { phase = phase; accesses = accesses }) first mid
      → Lacks
      ⊎ EitherRoundTells told number named types required node (phase_before types pattern steps phase (accesses + 1))
      (rest (phase_before types pattern steps phase (accesses + 1)) (accesses + 1)) phase
  either-tells rest (Absent lives) accesses first mid goes h = here (unfit (settings_of types named)) refl h
    where
      later : Phase
      later = phase_before types pattern steps (Absent lives) (accesses + 1)

      Locked : Type 0
      Locked =
          (made : Answer CreateFailure)
          × Access types pattern steps (Own node) uncreated.OutOfMemory (Locks types pattern steps (Own node) asked)
          (record { phase = Absent lives; accesses = accesses }) made mid × (first ≡ created made)

      here : (o : Option CreateFailure) → unfit (settings_of types named) ≡ o
          → MatchOption o Locked (λ failure. Fails (neither.Create failure)
          (record { phase = Absent lives; accesses = accesses }) first mid)
          → Lacks
          ⊎ MatchOption o (LockTells told number named types required node (rest later (accesses + 1)) later)
          (λ failure. told ≡ reply.Refused (unfit_told named failure))
      here None fit (made, inl locks, told_so) = locks-tell rest later (accesses + 1) first mid goes made locks told_so
      here None fit (made, inr (done, (is, came)), told_so) =
          inl (create-lacking (goes-as (rest mid.phase mid.accesses) first (Some (Err (neither.Create uncreated.OutOfMemory)))
          (told_so ∙ ap (created {V = Refusal}) is) goes))
      here (Some failure) is (told_so, came) =
          inr (goes-as (rest mid.phase mid.accesses) first (Some (Err (neither.Create failure))) told_so goes
          ∙ ap (λ (why : Refusal). reply.Refused why) (unfit-so types named failure is))
  either-tells rest (BeingMade life by) accesses first mid goes h = opening-tells rest (BeingMade life by) accesses first mid goes h
  either-tells rest (Published life standing nodes) accesses first mid goes h =
      opening-tells rest (Published life standing nodes) accesses first mid goes h
  either-tells rest (Emptied life standing by) accesses first mid goes h =
      opening-tells rest (Emptied life standing by) accesses first mid goes h

  -- ---- the rounds

  abbrev Looks : Call → Answer (OpenOrCreateFailure Refusal) → Call → Type 0
  Looks =
      Access types pattern steps (Own node) (neither.Open unopened.OutOfMemory)
      (EitherLooks types pattern steps (Own node) (verdict types named required) asked)

  abbrev Rest : ℕ → Phase → ℕ → Type 0
  Rest rounds phase accesses = EitherRoundsTell told number named types required node steps rounds phase accesses

  rounds-tell : (rounds : ℕ) (call : Call) (found : Result Bool (OpenOrCreateFailure Refusal)) (after : Call) → Tells found
      → Rounds Looks neither.SystemInFlux rounds call (Some found) after → Lacks ⊎ Rest rounds call.phase call.accesses
  rounds-tell zero call found after said (is, came) =
      inr (goes-as (Rest 0 call.phase call.accesses) (Some found) (Some (Err neither.SystemInFlux)) is said)
  rounds-tell (suc rounds) call found after said (mid, first, round, more) =
      looked round (goes first (λ next. rounds-tell rounds mid found after said next) more)
    where
      goes : (it : Answer (OpenOrCreateFailure Refusal))
          → (Rounds Looks neither.SystemInFlux rounds mid (Some found) after → Lacks ⊎ Rest rounds mid.phase mid.accesses)
          → MatchOption it (Rounds Looks neither.SystemInFlux rounds mid (Some found) after) (λ one. (Some found ≡ it) × (after ≡ mid))
          → Goes (Rest rounds mid.phase mid.accesses) it
      goes None on h = on h
      goes (Some one) on h = goes-as (Rest rounds mid.phase mid.accesses) (Some found) (Some one) h.0 said

      looked : Looks call first mid → Goes (Rest rounds mid.phase mid.accesses) first → Lacks ⊎ Rest (suc rounds) call.phase call.accesses
      looked (inl look) going =
          either-tells (Rest rounds) (phase_before types pattern steps call.phase (call.accesses + 1)) (call.accesses + 1) first mid going
          look
      looked (inr (done, (is, came))) going =
          inl (inl (open-lacking types steps told number named
          (goes-as (Rest rounds mid.phase mid.accesses) first (Some (Err (neither.Open unopened.OutOfMemory))) is going)))

pub either-answers-meanwhile : {T : Type 0} (choices : Choices T) → EitherAnswersMeanwhile choices
either-answers-meanwhile {T} choices types buffer node name named required steps old answer new unskipped h =
    elim (called-with Calls (either_refusal named) either_lacking (factory_of node name named) old answer new unskipped h) [
      | inl lacks ↦ (
        reply.Refused (open_refusal named unopened.OutOfMemory),
        lacks ∙ either-is T named (neither.Open unopened.OutOfMemory),
        inl (ap (λ (why : Refusal). reply.Refused why) (open-lacks named)),
      )
      | inr w ↦ read w.0 w.1 w.2 w.3
    ]
  where
    number : ℕ
    number = old.made.factories + 1

    Calls : Call → Answer (OpenOrCreateFailure Refusal) → Call → Type 0
    Calls = Rounds (Access types (pattern_of named) steps (Own node) (neither.Open unopened.OutOfMemory)
        (EitherLooks types (pattern_of named) steps (Own node) (verdict types named required)
        (record { settings = settings_of types named; attributes = required.pairs }))) neither.SystemInFlux 5

    Answered : Type 0
    Answered =
        (told : Reply T) × (answer ≡ told_within told)
        × ((told ≡ reply.Refused (open_told named publish_subscribe_open.OutOfMemory event_open.OutOfMemory
        request_response_open.OutOfMemory))
        ⊎ ((told ≡ reply.Refused (create_told named publish_subscribe_create.OutOfMemory event_create.OutOfMemory
        request_response_create.OutOfMemory))
        ⊎ EitherRoundsTell told number named types required node steps 5 (old.phases (pattern_of named) name) 0))

    called : (told : Reply T) → answer ≡ told_within told → (found : Result Bool (OpenOrCreateFailure Refusal)) (after : Call)
        → Calls (record { phase = old.phases (pattern_of named) name; accesses = 0 }) (Some found) after
        → Tells types steps told number named required node found → Answered
    called told is found after calls tells =
        elim (rounds-tell types steps told number named required node 5
        (record { phase = old.phases (pattern_of named) name; accesses = 0 }) found after tells calls) [
          | inl lacks ↦ elim lacks [ inl one ↦ (told, is, inl one) | inr other ↦ (told, is, inr (inl other)) ]
          | inr rounds ↦ (told, is, inr (inr rounds))
        ]

    read : (found : Result Bool (OpenOrCreateFailure Refusal)) (after : Call)
        → Calls (record { phase = old.phases (pattern_of named) name; accesses = 0 }) (Some found) after
        → MatchResult found
        (λ is_new. (answer ≡ reply.FactoryMade number) ⊎ (answer ≡ reply.Refused (either_refusal named (either_lacking is_new))))
        (λ failure. answer ≡ reply.Refused (either_refusal named failure))
        → Answered
    read (Ok is_new) after calls (inl made) = called (reply.FactoryMade number) made (Ok is_new) after calls (inl refl)
    read (Ok is_new) after calls (inr lacks) =
        called (reply.Refused (untold named (either_lacking is_new))) (lacks ∙ either-is T named (either_lacking is_new)) (Ok is_new) after
        calls (inr refl)
    read (Err failure) after calls failed =
        called (reply.Refused (untold named failure)) (failed ∙ either-is T named failure) (Err failure) after calls refl
