-- An update that fails tells the first failure at which its port is to fail.
use Rattle.std.proofs.Common.{◌≡◌, ◌⊎◌, ℕ, Bool, true, false, not, ◌&&◌, List, [], ◌∷◌, length, Option, None, Some, Result, Ok, Err}
use Rattle.std.proofs.Common.{refl, sym, ap, subst, inl, inr, ◌∙◌, true≢false}
use Rattle.std.proofs.lemmas.Bool.{eq-eqb, eqb-true}
use Rattle.std.specs.List.{AllByRecursion}
use Rattle.std.specs.Prelude.{◌==◌, find, is_some, zip, MatchOption}
use Rattle.iox_machine.proofs.Cases.{by-bool, by-option, chosen, never-some, same-some}
use Rattle.iox_machine.proofs.Delivering.{Outcomes, by-outcome}
use Rattle.iox_machine.proofs.Moving.{at-one}
use Rattle.iox_machine.proofs.Shorthands.{IsRefused, IsSkipped, is_unborrowed, with_publisher, with_subscriber}
use Rattle.iox_machine.proofs.Tables.{at-changed}
use Rattle.iox_machine.proofs.Updated.{Same, find-replaced, publisher-followed, standing, stood, subscriber-followed, subscriber-standing}
use Rattle.iox_machine.proofs.Updated.{subscriber-stood}
use Rattle.iox_machine.specs.Choices.{Choices}
use Rattle.iox_machine.specs.FailedLaws.{HasFailed, HasNotFailed, IsFirstFailure, PublisherTellsFirst, SubscriberTellsFirst}
use Rattle.iox_machine.specs.PortList.{PortList}
use Rattle.iox_machine.specs.Ports.{publisher_in, subscriber_in}
use Rattle.iox_machine.specs.PublisherUpdate as publishing
use Rattle.iox_machine.specs.PublisherUpdate.{UpdateAnswers, failure_at}
use Rattle.iox_machine.specs.Service.{Publisher, Service, Subscriber}
use Rattle.iox_machine.specs.State.{State, replaced}
use Rattle.iox_machine.specs.SubscriberUpdate as subscribing
use Rattle.iox_machine.specs.Table.{at}
use Rattle.iox_machine.specs.UpdateLaws.{IsFollowed, IsFollowedOrStays}
use Rattle.iox_command.specs.DomainValues.declared.connection_failure.ConnectionFailure.{ConnectionFailure}
use Rattle.iox_command.specs.DomainValues.declared.connection_failure.ConnectionFailure.TheVariants.{FailedToEstablishConnection}
use Rattle.iox_command.specs.DomainValues.declared.connection_failure.ZeroCopyCreationError.{ZeroCopyCreationError}
use Rattle.iox_command.specs.DomainValues.declared.connection_failure.ZeroCopyCreationError.TheVariants.{OutOfMemory}
use Rattle.iox_command.specs.DomainValues.declared.connection_failure.ZeroCopyCreationError.TheVariants.{ExpiredConnectionBufferFull}
use Rattle.iox_command.specs.DomainValues.declared.degradation.DegradationAction.{DegradationAction}
use Rattle.iox_command.specs.DomainValues.declared.degradation.DegradationAction.TheVariants.{DegradeAndFail, Warn, Ignore}
use Rattle.iox_command.specs.declared.refusal.Refusal.TheVariants as refusal
use Rattle.iox_command.specs.declared.reply.Reply.{Reply}
use Rattle.iox_command.specs.declared.reply.Reply.TheVariants as reply

-- ---- places

not-failed : (place : Option ℕ × Option ℕ) → failure_at place.0 place.1 ≡ None → HasNotFailed place
not-failed (None, connected) e = inl refl
not-failed (Some listed, None) e = never-some OutOfMemory (sym e)
not-failed (Some listed, Some other) e =
    elim (chosen (other == listed) None (Some ExpiredConnectionBufferFull) None e) [
      | inl w ↦ inr (ap (λ (n : ℕ). Some n) (eqb-true other listed w.0))
      | inr w ↦ never-some ExpiredConnectionBufferFull (sym w.1)
    ]

has-failed : (place : Option ℕ × Option ℕ) (cause : ZeroCopyCreationError) → failure_at place.0 place.1 ≡ Some cause → HasFailed cause place
has-failed (None, connected) cause e = never-some cause e
has-failed (Some listed, None) cause e = (listed, refl, inl (refl, sym (same-some OutOfMemory cause e)))
has-failed (Some listed, Some other) cause e =
    elim (chosen (other == listed) None (Some ExpiredConnectionBufferFull) (Some cause) e) [
      | inl w ↦ never-some cause w.1
      | inr w ↦ (
        listed,
        refl,
        inr (
          other,
          refl,
          (λ same. true≢false (sym (eq-eqb other listed same) ∙ w.0)),
          sym (same-some ExpiredConnectionBufferFull cause w.1),
        ),
      )
    ]

abbrev failure_of : ConnectionFailure → Result (Unit {0}) ConnectionFailure → ConnectionFailure
failure_of other (Ok done) = other
failure_of other (Err failure) = failure

pub first-failure : (May : DegradationAction → Type 0) (places : List (Option ℕ × Option ℕ)) (failure : ConnectionFailure)
    → UpdateAnswers May places (Err failure) → IsFirstFailure May places failure
first-failure May [] failure answers = absurd (differ answers)
  where
    differ : ◌≡◌ {A = Result (Unit {0}) ConnectionFailure} (Err failure) (Ok tt) → ⊥
    differ e = cc
first-failure May (place ∷ more) failure answers =
    elim (by-option (failure_at place.0 place.1) (UpdateAnswers May more (Err failure)) Fails answers) [
      | inl w ↦ later (inl (not-failed place w.0)) (first-failure May more failure w.1)
      | inr w ↦ here (first-failure May more failure) w.0 (has-failed place w.0 w.1) w.2
    ]
  where
    Fails : ZeroCopyCreationError → Type 0
    Fails cause =
        (May DegradeAndFail
        × ◌≡◌ {A = Result (Unit {0}) ConnectionFailure} (Err failure) (Err (FailedToEstablishConnection cause)))
        ⊎ ((May Warn ⊎ May Ignore) × UpdateAnswers May more (Err failure))

    later : HasNotFailed place ⊎ (May Warn ⊎ May Ignore) → IsFirstFailure May more failure → IsFirstFailure May (place ∷ more) failure
    later on (before, it, behind, cause, is, all, failed, may, told) =
        (place ∷ before, it, behind, cause, ap (λ (l : List (Option ℕ × Option ℕ)). place ∷ l) is, (on, all), failed, may, told)

    here : (UpdateAnswers May more (Err failure) → IsFirstFailure May more failure) → (cause : ZeroCopyCreationError)
        → HasFailed cause place
        → Fails cause → IsFirstFailure May (place ∷ more) failure
    here goes cause failed (inl (may, told)) =
        ([], place, more, cause, refl, tt, failed, may, ap (failure_of failure) told)
    here goes cause failed (inr (on, rest)) = later (inr on) (goes rest)

-- ---- the commands

module _ {T : Type 0} where
  abbrev is_refused : Reply T → Bool
  is_refused (reply.Refused why) = true
  is_refused other = false

  never-refused : {A : Type 0} (failure : ConnectionFailure) (other : Reply T) → reply.Refused (refusal.Connection failure) ≡ other
      → is_refused other ≡ false → A
  never-refused failure other same silent = absurd (true≢false (ap is_refused same ∙ silent))

  abbrev failure_in : ConnectionFailure → Reply T → ConnectionFailure
  failure_in other (reply.Refused (refusal.Connection failure)) = failure
  failure_in other answer = other

  same-failure : (one other : ConnectionFailure)
      → ◌≡◌ {A = Reply T} (reply.Refused (refusal.Connection one)) (reply.Refused (refusal.Connection other)) → one ≡ other
  same-failure one other e = ap (failure_in one) e

pub publisher-tells-first : {T : Type 0} (choices : Choices T) → PublisherTellsFirst choices
publisher-tells-first {T} choices types buffer number failure old new h =
    elim (at-one (publisher_in number)
    (λ (one : Publisher T) (service : Service T) (told : Reply T) (after : Service T). MatchOption one.blocked
    (publishing.UpdatesFirst choices number refusal.Connection Done one service told after) (λ send. IsSkipped service told after))
    old refused new h) [
      | inl w ↦ never-refused failure reply.Skipped w.0 refl
      | inr w ↦ elim (by-option w.1.blocked (publishing.UpdatesFirst choices number refusal.Connection Done w.1 w.0 refused w.2)
          (λ send. IsSkipped w.0 refused w.2) w.5) [
            | inl k ↦ updated w.0 w.1 w.2 w.3 w.4 (ap (λ (state : State T). state.services) w.6) k.1
            | inr k ↦ never-refused failure reply.Skipped k.2.0 refl
          ]
    ]
  where
    refused : Reply T
    refused = reply.Refused (refusal.Connection failure)

    Done : Publisher T → Service T → Reply T → Service T → Type 0
    Done it mid answered end = (answered ≡ reply.Done) × (end ≡ mid)

    has : Service T → Bool
    has other = is_some (publisher_in number other)

    Tells : Type 0
    Tells =
        (service : Service T) × (one : Publisher T)
        × (find has new.services ≡ Some service) × (publisher_in number service ≡ Some one)
        × (one.seen ≡ service.subscriber_list.changes)
        × IsFirstFailure (choices.publisher_acts number one.degradation) (zip service.subscriber_list.places one.connected) failure

    ended : (service : Service T) (one : Publisher T) (mid : Service T) (after : Publisher T) → find has old.services ≡ Some service
        → publisher_in number service ≡ Some one → publishing.Follows number one service after mid
        → UpdateAnswers (choices.publisher_acts number one.degradation) (zip service.subscriber_list.places after.connected) (Err failure)
        → new.services ≡ replaced has mid old.services → Tells
    ended service one mid after first found (refused, allowed, is, folded) answers came =
        let did : Same (with_publisher number after service) mid × (after.stands ≡ one.stands)
        × (after.seen ≡ service.subscriber_list.changes)
        × (length after.connected ≡ length service.subscriber_list.places)
        × AllByRecursion (IsFollowed (λ subscriber. is_some (mid.mailboxes number subscriber)))
        (zip service.subscriber_list.places after.connected) =
        publisher-followed number one service after mid (refused, allowed, is, folded) in
        let was : (one.stands ≡ true) × (at number service.publishers ≡ Some one) = stood (at number service.publishers) one found in
        let there : publisher_in number mid ≡ Some after =
        standing after (at number mid.publishers) (did.1 ∙ was.0)
        (ap (at number) did.0.0 ∙ at-changed number after one service.publishers was.1) in (
          mid,
          after,
          ap (λ (l : List (Service T)). find has l) came
              ∙ find-replaced has service mid old.services first (ap (λ (o : Option (Publisher T)). is_some o) there),
          there,
          did.2 ∙ ap (λ (list : PortList). list.changes) (sym did.0.3),
          subst (λ (list : PortList). IsFirstFailure (choices.publisher_acts number after.degradation)
              (zip list.places after.connected) failure) (sym did.0.3)
              (subst (λ (it : DegradationAction). IsFirstFailure (choices.publisher_acts number it)
              (zip service.subscriber_list.places after.connected) failure) (sym (ap (λ (it : Publisher T). it.degradation) is))
              (first-failure (choices.publisher_acts number one.degradation) (zip service.subscriber_list.places after.connected) failure
              answers)),
        )

    updated : (service : Service T) (one : Publisher T) (end : Service T) → find has old.services ≡ Some service
        → publisher_in number service ≡ Some one → new.services ≡ replaced has end old.services
        → publishing.UpdatesFirst choices number refusal.Connection Done one service refused end → Tells
    updated service one end first found came did =
        elim (by-bool (one.seen == service.subscriber_list.changes) ((refused ≡ reply.Done) × (end ≡ service))
        ((after : Publisher T) × (mid : Service T) × publishing.Follows number one service after mid
        × Outcomes (choices.publisher_acts number one.degradation) (zip service.subscriber_list.places after.connected)
        (λ well. (refused ≡ reply.Done) × (end ≡ mid)) (λ why. IsRefused (refusal.Connection why) mid refused end)) did) [
          | inl w ↦ never-refused failure reply.Done w.1.0 refl
          | inr w ↦ elim (by-outcome (choices.publisher_acts number one.degradation) (zip service.subscriber_list.places w.1.0.connected)
              (λ well. (refused ≡ reply.Done) × (end ≡ w.1.1)) (λ why. IsRefused (refusal.Connection why) w.1.1 refused end) w.1.3) [
                | inl r ↦ never-refused failure reply.Done r.2.0 refl
                | inr r ↦ ended service one w.1.1 w.1.0 first found w.1.2
                    (subst (λ (why : ConnectionFailure). UpdateAnswers (choices.publisher_acts number one.degradation)
                    (zip service.subscriber_list.places w.1.0.connected) (Err why)) (sym (same-failure failure r.0 r.2.0)) r.1)
                    (came ∙ ap (λ (it : Service T). replaced has it old.services) r.2.1)
              ]
        ]

pub subscriber-tells-first : {T : Type 0} (choices : Choices T) → SubscriberTellsFirst choices
subscriber-tells-first {T} choices types buffer number failure old new h =
    elim (at-one (subscriber_in number) (subscribing.UpdatesFirst choices buffer number refusal.Connection Done) old refused new h) [
      | inl w ↦ never-refused failure reply.Skipped w.0 refl
      | inr w ↦ updated w.0 w.1 w.2 w.3 w.4 (ap (λ (state : State T). state.services) w.6) w.5
    ]
  where
    refused : Reply T
    refused = reply.Refused (refusal.Connection failure)

    Done : Subscriber → Service T → Reply T → Service T → Type 0
    Done it mid answered end = (answered ≡ reply.Done) × (end ≡ mid)

    has : Service T → Bool
    has other = is_some (subscriber_in number other)

    Tells : Type 0
    Tells =
        (service : Service T) × (one : Subscriber)
        × (find has new.services ≡ Some service) × (subscriber_in number service ≡ Some one)
        × (one.seen ≡ service.publisher_list.changes)
        × IsFirstFailure (choices.subscriber_acts number one.degradation) (zip service.publisher_list.places one.connected) failure

    ended : (service : Service T) (one : Subscriber) (mid : Service T) (after : Subscriber) → find has old.services ≡ Some service
        → subscriber_in number service ≡ Some one → subscribing.Follows buffer number one service after mid
        → UpdateAnswers (choices.subscriber_acts number one.degradation) (zip service.publisher_list.places after.connected) (Err failure)
        → new.services ≡ replaced has mid old.services → Tells
    ended service one mid after first found followed answers came =
        let did : Same (with_subscriber number after service) mid × (after.stands ≡ one.stands)
        × (after.seen ≡ service.publisher_list.changes) × (after.degradation ≡ one.degradation)
        × AllByRecursion (IsFollowedOrStays (λ publisher. is_some (mid.mailboxes publisher number)) (is_unborrowed buffer number mid))
        (zip service.publisher_list.places after.connected) =
        subscriber-followed buffer number one service after mid followed in
        let was : (one.stands ≡ true) × (at number service.subscribers ≡ Some one) =
        subscriber-stood (at number service.subscribers) one found in
        let there : subscriber_in number mid ≡ Some after =
        subscriber-standing after (at number mid.subscribers) (did.1 ∙ was.0)
        (ap (at number) did.0.1 ∙ at-changed number after one service.subscribers was.1) in (
          mid,
          after,
          ap (λ (l : List (Service T)). find has l) came
              ∙ find-replaced has service mid old.services first (ap (λ (o : Option Subscriber). is_some o) there),
          there,
          did.2 ∙ ap (λ (list : PortList). list.changes) (sym did.0.2),
          subst (λ (list : PortList). IsFirstFailure (choices.subscriber_acts number after.degradation)
              (zip list.places after.connected) failure) (sym did.0.2)
              (subst (λ (it : DegradationAction). IsFirstFailure (choices.subscriber_acts number it)
              (zip service.publisher_list.places after.connected) failure) (sym did.3)
              (first-failure (choices.subscriber_acts number one.degradation) (zip service.publisher_list.places after.connected) failure
              answers)),
        )

    updated : (service : Service T) (one : Subscriber) (end : Service T) → find has old.services ≡ Some service
        → subscriber_in number service ≡ Some one → new.services ≡ replaced has end old.services
        → subscribing.UpdatesFirst choices buffer number refusal.Connection Done one service refused end → Tells
    updated service one end first found came did =
        elim (by-bool ((one.seen == service.publisher_list.changes) && not one.again) ((refused ≡ reply.Done) × (end ≡ service))
        ((after : Subscriber) × (mid : Service T) × subscribing.Follows buffer number one service after mid
        × Outcomes (choices.subscriber_acts number one.degradation) (zip service.publisher_list.places after.connected)
        (λ well. (refused ≡ reply.Done) × (end ≡ mid)) (λ why. IsRefused (refusal.Connection why) mid refused end)) did) [
          | inl w ↦ never-refused failure reply.Done w.1.0 refl
          | inr w ↦ elim (by-outcome (choices.subscriber_acts number one.degradation) (zip service.publisher_list.places w.1.0.connected)
              (λ well. (refused ≡ reply.Done) × (end ≡ w.1.1)) (λ why. IsRefused (refusal.Connection why) w.1.1 refused end) w.1.3) [
                | inl r ↦ never-refused failure reply.Done r.2.0 refl
                | inr r ↦ ended service one w.1.1 w.1.0 first found w.1.2
                    (subst (λ (why : ConnectionFailure). UpdateAnswers (choices.subscriber_acts number one.degradation)
                    (zip service.publisher_list.places w.1.0.connected) (Err why)) (sym (same-failure failure r.0 r.2.0)) r.1)
                    (came ∙ ap (λ (it : Service T). replaced has it old.services) r.2.1)
              ]
        ]
