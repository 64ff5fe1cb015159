-- What `open_or_create` answers while no other node acts.
use Rattle.std.proofs.Common.{◌≡◌, ◌⊎◌, ◌+◌, ℕ, Bool, true, false, ◌||◌, [], length, Option, None}
use Rattle.std.proofs.Common.{Some, Result, Ok, Err, refl, sym, ap, subst, inl, inr, ◌∙◌}
use Rattle.std.specs.Prelude.{nat_lt, option_map, MatchBool, MatchOption, MatchResult}
use Rattle.std.specs.Result.{result_map_both}
use Rattle.iox_machine.proofs.Cases.{never-some, same-some}
use Rattle.iox_machine.proofs.Shorthands.{either_lacking, factory_of}
use Rattle.iox_machine.specs.Agreement.{Agreement, unfit, verdict}
use Rattle.iox_machine.specs.Asked.{settings_of}
use Rattle.iox_machine.specs.ServiceReplyLaws.{OpeningAnswers}
use Rattle.iox_machine.specs.ServiceReplyLaws.{EitherAnswers, EitherAnswersSo, create_told, open_told, told_within, unfit_told}
use Rattle.iox_machine.specs.Choices.{Choices}
use Rattle.iox_machine.specs.Negotiation.{Access, Answer, Call, EitherLooks, Fails, Locks, OpenLooks, Rounds}
use Rattle.iox_machine.specs.Negotiation.{created}
use Rattle.iox_machine.specs.Phase.{Absent, BeingMade, Emptied, Node, Own, Phase, Published, is_in}
use Rattle.iox_machine.specs.Refusals.{create_refusal, either_refusal, open_refusal, within_either}
use Rattle.iox_command.specs.NegotiateBase.DescribeBase.Attributes.{Required}
use Rattle.iox_command.specs.NegotiateBase.DescribeBase.declared.message_type.MessageTypeDetails.{MessageTypeDetails}
use Rattle.iox_command.specs.NegotiateBase.DescribeBase.declared.pattern.MessagingPattern.{MessagingPattern}
use Rattle.iox_command.specs.NegotiateBase.DescribeSettings.Agreement.{max_nodes_of}
use Rattle.iox_command.specs.NegotiateBase.declared.errors.event.EventCreateError.TheVariants as event_create
use Rattle.iox_command.specs.NegotiateBase.declared.errors.event.EventOpenError.TheVariants as event_open
use Rattle.iox_command.specs.NegotiateBase.declared.errors.publish_subscribe.PublishSubscribeCreateError.TheVariants as
    publish_subscribe_create
use Rattle.iox_command.specs.NegotiateBase.declared.errors.publish_subscribe.PublishSubscribeOpenError.TheVariants as publish_subscribe_open
use Rattle.iox_command.specs.NegotiateBase.declared.errors.request_response.RequestResponseCreateError.TheVariants as
    request_response_create
use Rattle.iox_command.specs.NegotiateBase.declared.errors.request_response.RequestResponseOpenError.TheVariants as request_response_open
use Rattle.iox_command.specs.NegotiateBase.declared.failure.CreateFailure.{CreateFailure}
use Rattle.iox_command.specs.NegotiateBase.declared.failure.CreateFailure.TheVariants as uncreated
use Rattle.iox_command.specs.NegotiateBase.declared.failure.OpenFailure.{OpenFailure}
use Rattle.iox_command.specs.NegotiateBase.declared.failure.OpenFailure.TheVariants as unopened
use Rattle.iox_command.specs.NegotiateBase.declared.failure.OpenOrCreateFailure.{OpenOrCreateFailure}
use Rattle.iox_command.specs.NegotiateBase.declared.failure.OpenOrCreateFailure.TheVariants as neither
use Rattle.iox_command.specs.Patterns.{pattern_of}
use Rattle.iox_command.specs.declared.refusal.Refusal.{Refusal}
use Rattle.iox_command.specs.declared.refusal.Refusal.TheVariants as refusal
use Rattle.iox_command.specs.declared.reply.Reply.{Reply}
use Rattle.iox_command.specs.declared.reply.Reply.TheVariants as reply
use Rattle.iox_command.specs.declared.service.ServiceOptions.{ServiceOptions}
use Rattle.iox_machine.proofs.Called.{OpensSo, called-with, create-lacks, finds-so, open-lacks, opening-told, unfit-so}

module _ {T : Type 0} where
  pub within-told : (why : Refusal) → reply.Refused (within_either why) ≡ told_within {T = T} (reply.Refused why)
  within-told (refusal.PublishSubscribeOpen error) = refl
  within-told (refusal.EventOpen error) = refl
  within-told (refusal.RequestResponseOpen error) = refl
  within-told (refusal.PublishSubscribeCreate error) = refl
  within-told (refusal.EventCreate error) = refl
  within-told (refusal.RequestResponseCreate error) = refl
  within-told other = refl

module _ (types : MessageTypeDetails) (pattern : MessagingPattern) (node : Node) (agreed : Agreement) {V : Type 0}
    (meets : Agreement → Result (Unit {0}) V) where
  -- what both come to: a creation where the phase is absent, else an opening
  abbrev BothSo : Phase → Result Bool (OpenOrCreateFailure V) → Type 0
  BothSo (Absent lives) found =
      MatchOption (unfit agreed.settings) ((found ≡ Ok true) ⊎ (found ≡ Err (neither.Create uncreated.OutOfMemory)))
      (λ failure. found ≡ Err (neither.Create failure))
  BothSo phase found =
      (outcome : Result Bool (OpenFailure V)) × (OpensSo meets node phase outcome ⊎ (outcome ≡ Err unopened.OutOfMemory))
      × (found ≡ result_map_both (λ is_new. is_new) neither.Open outcome)

  abbrev BothAnswer : Phase → Answer (OpenOrCreateFailure V) → Type 0
  BothAnswer phase first =
      (found : Result Bool (OpenOrCreateFailure V)) × (first ≡ Some found)
      × (BothSo phase found ⊎ (found ≡ Err (neither.Open unopened.OutOfMemory)))

  -- a service is found, and opened
  opens-both : (phase : Phase) (call : Call) (first : Answer (OpenOrCreateFailure V)) (mid : Call) → call.phase ≡ phase
      → (opened : Answer (OpenFailure V)) → OpenLooks types pattern [] node meets phase call opened mid
      → first ≡ option_map (result_map_both (λ is_new. is_new) neither.Open) opened
      → (outcome : Result Bool (OpenFailure V)) × (first ≡ Some (result_map_both (λ is_new. is_new) neither.Open outcome))
      × (OpensSo meets node phase outcome ⊎ (outcome ≡ Err unopened.OutOfMemory))
  opens-both phase call first mid is opened looks told =
      let came = finds-so types pattern node meets phase call opened mid is looks in
      (came.0, told ∙ ap (option_map (result_map_both (λ is_new. is_new) neither.Open)) came.1, came.2)

  both-look : (phase : Phase) (call : Call) (first : Answer (OpenOrCreateFailure V)) (mid : Call) → call.phase ≡ phase
      → EitherLooks types pattern [] node meets agreed phase call first mid → BothAnswer phase first
  both-look (Absent lives) call first mid is h = here (unfit agreed.settings) refl h
    where
      Locked : Type 0
      Locked = (made : Answer CreateFailure)
          × Access types pattern [] node uncreated.OutOfMemory (Locks types pattern [] node agreed) call made mid
          × (first ≡ created made)

      Fits : Result Bool (OpenOrCreateFailure V) → Option CreateFailure → Type 0
      Fits found o = MatchOption o ((found ≡ Ok true) ⊎ (found ≡ Err (neither.Create uncreated.OutOfMemory)))
          (λ failure. found ≡ Err (neither.Create failure))

      lacks : unfit agreed.settings ≡ None → first ≡ Some (Err (neither.Create uncreated.OutOfMemory)) → BothAnswer (Absent lives) first
      lacks fit told = (
        Err (neither.Create uncreated.OutOfMemory),
        told,
        inl (subst (Fits (Err (neither.Create uncreated.OutOfMemory))) (sym fit)
            (inr refl)),
      )

      locks : unfit agreed.settings ≡ None → (made : Answer CreateFailure)
          → Locks types pattern [] node agreed (Absent lives) (record { phase = call.phase; accesses = call.accesses + 1 }) made mid
          → first ≡ created made → BothAnswer (Absent lives) first
      locks fit made (inl (is_made, came)) told =
          (Ok true, told ∙ ap created is_made, inl (subst (Fits (Ok true)) (sym fit) (inl refl)))
      locks fit made (inr (is_made, came)) told = lacks fit (told ∙ ap created is_made)

      locked : unfit agreed.settings ≡ None → Locked → BothAnswer (Absent lives) first
      locked fit (made, inl look, told) =
          locks fit made
          (subst (λ (phase : Phase). Locks types pattern [] node agreed phase
          (record { phase = call.phase; accesses = call.accesses + 1 }) made mid) is look) told
      locked fit (made, inr (done, (is_made, came)), told) = lacks fit (told ∙ ap created is_made)

      here : (o : Option CreateFailure) → unfit agreed.settings ≡ o
          → MatchOption o Locked (λ failure. Fails (neither.Create failure) call first mid) → BothAnswer (Absent lives) first
      here None fit h = locked fit h
      here (Some failure) unfit_so (told, came) =
          (Err (neither.Create failure), told, inl (subst (Fits (Err (neither.Create failure))) (sym unfit_so) refl))
  both-look (BeingMade life by) call first mid is (opened, looks, told) =
      let came = opens-both (BeingMade life by) call first mid is opened looks told in
      (result_map_both (λ is_new. is_new) neither.Open came.0, came.1, inl (came.0, came.2, refl))
  both-look (Published life standing nodes) call first mid is (opened, looks, told) =
      let came = opens-both (Published life standing nodes) call first mid is opened looks told in
      (result_map_both (λ is_new. is_new) neither.Open came.0, came.1, inl (came.0, came.2, refl))
  both-look (Emptied life standing by) call first mid is (opened, looks, told) =
      let came = opens-both (Emptied life standing by) call first mid is opened looks told in
      (result_map_both (λ is_new. is_new) neither.Open came.0, came.1, inl (came.0, came.2, refl))

  both-so : (phase : Phase) (found : Result Bool (OpenOrCreateFailure V)) (after : Call)
      → Rounds (Access types pattern [] node (neither.Open unopened.OutOfMemory) (EitherLooks types pattern [] node meets agreed))
      neither.SystemInFlux 5 (record { phase = phase; accesses = 0 }) (Some found) after
      → BothSo phase found ⊎ (found ≡ Err (neither.Open unopened.OutOfMemory))
  both-so phase found after (mid, first, round, h) =
      let came = looked round in
      subst (λ (it : Result Bool (OpenOrCreateFailure V)). BothSo phase it ⊎ (it ≡ Err (neither.Open unopened.OutOfMemory)))
      (sym (ended first came.0 came.1 h)) came.2
    where
      looked : Access types pattern [] node (neither.Open unopened.OutOfMemory) (EitherLooks types pattern [] node meets agreed)
          (record { phase = phase; accesses = 0 }) first mid → BothAnswer phase first
      looked (inl look) = both-look phase (record { phase = phase; accesses = 1 }) first mid refl look
      looked (inr (done, (told, came))) = (Err (neither.Open unopened.OutOfMemory), told, inr refl)

      ended : (first : Answer (OpenOrCreateFailure V)) (it : Result Bool (OpenOrCreateFailure V)) → first ≡ Some it
          → MatchOption first
          (Rounds (Access types pattern [] node (neither.Open unopened.OutOfMemory) (EitherLooks types pattern [] node meets agreed))
          neither.SystemInFlux 4 mid (Some found) after)
          (λ one. (Some found ≡ first) × (after ≡ mid)) → found ≡ it
      ended None it is h = never-some it is
      ended (Some one) it is (told, same) = same-some found it (told ∙ is)

module _ {T : Type 0} (answer : Reply T) (number : ℕ) (named : ServiceOptions) (types : MessageTypeDetails) (required : Required)
    (node : ℕ) where
  abbrev lacks_open : Refusal
  lacks_open = open_told named publish_subscribe_open.OutOfMemory event_open.OutOfMemory request_response_open.OutOfMemory

  abbrev lacks_create : Refusal
  lacks_create = create_told named publish_subscribe_create.OutOfMemory event_create.OutOfMemory request_response_create.OutOfMemory

  abbrev asked_both : Agreement
  asked_both = record { settings = settings_of types named; attributes = required.pairs }

  -- what is told, and that it is what may be told in this phase
  abbrev Both : Phase → Type 0
  Both phase =
      (told : Reply T) × (answer ≡ told_within told)
      × ((told ≡ reply.Refused lacks_open) ⊎ EitherAnswers told number named types required node phase)

  -- what follows of a call that found this
  abbrev Tells : Result Bool (OpenOrCreateFailure Refusal) → Type 0
  Tells found =
      MatchResult found
      (λ is_new. (answer ≡ reply.FactoryMade number) ⊎ (answer ≡ reply.Refused (either_refusal named (either_lacking is_new))))
      (λ failure. answer ≡ reply.Refused (either_refusal named failure))

  refused-so : (why shown : Refusal) → why ≡ shown → answer ≡ reply.Refused (within_either why) → answer ≡ told_within (reply.Refused shown)
  refused-so why shown same told =
      told ∙ (ap (λ (it : Refusal). reply.Refused (within_either it)) same ∙ within-told shown)

  lacking-open : (phase : Phase) → answer ≡ reply.Refused (either_refusal named (neither.Open unopened.OutOfMemory)) → Both phase
  lacking-open phase told =
      (reply.Refused lacks_open, refused-so (open_refusal named unopened.OutOfMemory) lacks_open (open-lacks named) told, inl refl)

  absent-tells : (lives : ℕ) (found : Result Bool (OpenOrCreateFailure Refusal))
      → BothSo types (pattern_of named) (Own node) asked_both (verdict types named required) (Absent lives) found → Tells found
      → Both (Absent lives)
  absent-tells lives found so tells = here (unfit (settings_of types named)) refl so
    where
      Fits : Reply T → Option CreateFailure → Type 0
      Fits told o =
          MatchOption o ((told ≡ reply.FactoryMade number) ⊎ (told ≡ reply.Refused lacks_create))
          (λ failure. told ≡ reply.Refused (unfit_told named failure))

      lacks : unfit (settings_of types named) ≡ None
          → answer ≡ reply.Refused (either_refusal named (neither.Create uncreated.OutOfMemory)) → Both (Absent lives)
      lacks fit told = (
        reply.Refused lacks_create,
        refused-so (create_refusal named uncreated.OutOfMemory) lacks_create (create-lacks named) told,
        inr (subst (Fits (reply.Refused lacks_create)) (sym fit) (inr refl)),
      )

      made : unfit (settings_of types named) ≡ None
          → (answer ≡ reply.FactoryMade number) ⊎ (answer ≡ reply.Refused (either_refusal named (either_lacking true)))
          → Both (Absent lives)
      made fit (inl told) = (reply.FactoryMade number, told, inr (subst (Fits (reply.FactoryMade number)) (sym fit) (inl refl)))
      made fit (inr told) = lacks fit told

      here : (o : Option CreateFailure) → unfit (settings_of types named) ≡ o
          → MatchOption o ((found ≡ Ok true) ⊎ (found ≡ Err (neither.Create uncreated.OutOfMemory)))
          (λ failure. found ≡ Err (neither.Create failure)) → Both (Absent lives)
      here None fit (inl is) = made fit (subst Tells is tells)
      here None fit (inr is) = lacks fit (subst Tells is tells)
      here (Some failure) unfit_is is = (
        reply.Refused (unfit_told named failure),
        refused-so (create_refusal named failure) (unfit_told named failure) (unfit-so types named failure unfit_is) (subst Tells is tells),
        inr (subst (Fits (reply.Refused (unfit_told named failure))) (sym unfit_is) refl),
      )

  -- who opens is not the first
  old-one : (phase : Phase) (is_new : Bool) → OpensSo (verdict types named required) (Own node) phase (Ok is_new) → is_new ≡ false
  old-one (Absent lives) is_new so = absurd (differ so)
    where
      differ : ◌≡◌ {A = Result Bool (OpenFailure Refusal)} (Ok is_new) (Err unopened.DoesNotExist) → ⊥
      differ e = cc
  old-one (BeingMade life by) is_new so = absurd (differ so)
    where
      differ : ◌≡◌ {A = Result Bool (OpenFailure Refusal)} (Ok is_new) (Err unopened.HangsInCreation) → ⊥
      differ e = cc
  old-one (Published life agreed nodes) is_new so = here (verdict types named required agreed) so
    where
      flag : Result Bool (OpenFailure Refusal) → Bool
      flag (Ok it) = it
      flag (Err failure) = false

      inside : (b : Bool) → MatchBool b (◌≡◌ {A = Result Bool (OpenFailure Refusal)} (Ok is_new) (Ok false))
          (◌≡◌ {A = Result Bool (OpenFailure Refusal)} (Ok is_new) (Err unopened.ExceedsMaxNumberOfNodes)) → is_new ≡ false
      inside true is = ap flag is
      inside false is = ap flag is

      here : (r : Result (Unit {0}) Refusal)
          → MatchResult r
          (λ met. MatchBool (is_in (Own node) nodes || nat_lt (length nodes) (max_nodes_of agreed.settings))
          (◌≡◌ {A = Result Bool (OpenFailure Refusal)} (Ok is_new) (Ok false))
          (◌≡◌ {A = Result Bool (OpenFailure Refusal)} (Ok is_new) (Err unopened.ExceedsMaxNumberOfNodes)))
          (λ unmet. ◌≡◌ {A = Result Bool (OpenFailure Refusal)} (Ok is_new) (Err (unopened.Clause unmet))) → is_new ≡ false
      here (Ok met) is = inside (is_in (Own node) nodes || nat_lt (length nodes) (max_nodes_of agreed.settings)) is
      here (Err unmet) is = ap flag is
  old-one (Emptied life agreed by) is_new so = here (verdict types named required agreed) so
    where
      flag : Result Bool (OpenFailure Refusal) → Bool
      flag (Ok it) = it
      flag (Err failure) = false

      here : (r : Result (Unit {0}) Refusal)
          → MatchResult r (λ met. ◌≡◌ {A = Result Bool (OpenFailure Refusal)} (Ok is_new) (Err unopened.IsMarkedForDestruction))
          (λ unmet. ◌≡◌ {A = Result Bool (OpenFailure Refusal)} (Ok is_new) (Err (unopened.Clause unmet))) → is_new ≡ false
      here (Ok met) is = ap flag is
      here (Err unmet) is = ap flag is

  open-tells : (phase : Phase) → ((told : Reply T) → OpeningAnswers told number named types required node phase
      → EitherAnswers told number named types required node phase)
      → (outcome : Result Bool (OpenFailure Refusal)) → OpensSo (verdict types named required) (Own node) phase outcome
      → Tells (result_map_both (λ is_new. is_new) neither.Open outcome) → Both phase
  open-tells phase as_either (Ok is_new) so (inl told) = (
    reply.FactoryMade number,
    told,
    inr (as_either (reply.FactoryMade number)
        (opening-told (reply.FactoryMade number) number named types required node phase (Ok is_new) so refl)),
  )
  open-tells phase as_either (Ok is_new) so (inr told) =
      lacking-open phase (told ∙ ap (λ (b : Bool). reply.Refused (either_refusal named (either_lacking b))) (old-one phase is_new so))
  open-tells phase as_either (Err failure) so told = (
    reply.Refused (open_refusal named failure),
    refused-so (open_refusal named failure) (open_refusal named failure) refl told,
    inr (as_either (reply.Refused (open_refusal named failure))
        (opening-told (reply.Refused (open_refusal named failure)) number named types required node phase (Err failure) so refl)),
  )

  opened-tells : (phase : Phase) → ((told : Reply T) → OpeningAnswers told number named types required node phase
      → EitherAnswers told number named types required node phase)
      → (found : Result Bool (OpenOrCreateFailure Refusal)) (outcome : Result Bool (OpenFailure Refusal))
      → OpensSo (verdict types named required) (Own node) phase outcome ⊎ (outcome ≡ Err unopened.OutOfMemory)
      → found ≡ result_map_both (λ is_new. is_new) neither.Open outcome → Tells found → Both phase
  opened-tells phase as_either found outcome (inl so) is tells = open-tells phase as_either outcome so (subst Tells is tells)
  opened-tells phase as_either found outcome (inr lacks) is tells =
      lacking-open phase (subst Tells (is ∙ ap (result_map_both (λ (is_new : Bool). is_new) neither.Open) lacks) tells)

  both-tells : (phase : Phase) (found : Result Bool (OpenOrCreateFailure Refusal))
      → BothSo types (pattern_of named) (Own node) asked_both (verdict types named required) phase found → Tells found → Both phase
  both-tells (Absent lives) found so tells = absent-tells lives found so tells
  both-tells (BeingMade life by) found (outcome, so, is) tells =
      opened-tells (BeingMade life by) (λ told it. it) found outcome so is tells
  both-tells (Published life agreed nodes) found (outcome, so, is) tells =
      opened-tells (Published life agreed nodes) (λ told it. it) found outcome so is tells
  both-tells (Emptied life agreed by) found (outcome, so, is) tells =
      opened-tells (Emptied life agreed by) (λ told it. it) found outcome so is tells

pub either-answers-so : {T : Type 0} (choices : Choices T) → EitherAnswersSo choices
either-answers-so {T} choices types buffer node name named required old answer new unskipped h =
    elim (called-with (Rounds (Access types (pattern_of named) [] (Own node) (neither.Open unopened.OutOfMemory)
    (EitherLooks types (pattern_of named) [] (Own node) (verdict types named required)
    (record { settings = settings_of types named; attributes = required.pairs }))) neither.SystemInFlux 5)
    (either_refusal named) either_lacking (factory_of node name named) old answer new unskipped h) [
      | inl told ↦ lacking-open answer number named types required node phase told
      | inr (found, after, calls, tells) ↦
          elim (both-so types (pattern_of named) (Own node) (record { settings = settings_of types named; attributes = required.pairs })
          (verdict types named required) phase found after calls) [
            | inl so ↦ both-tells answer number named types required node phase found so tells
            | inr is ↦ lacking-open answer number named types required node phase
                (subst (Tells answer number named types required node) is tells)
          ]
    ]
  where
    number : ℕ
    number = old.made.factories + 1

    phase : Phase
    phase = old.phases (pattern_of named) name
