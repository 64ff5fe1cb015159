-- How a publisher updates its connections.
use Rattle.std.specs.Prelude.{ℕ, ◌≡◌, ◌⊎◌, true, not, ◌&&◌, ◌==◌, List, [], ◌∷◌, map, filter, fold, zip, Option, None, Some, is_some}
use Rattle.std.specs.Prelude.{option_map, Result, Ok, Err, MatchBool, MatchOption, MatchResult, if◌then◌else◌}
use Rattle.std.specs.List.{list_all}
use Rattle.std.specs.Option.{option_map_or}
use Rattle.iox_machine.specs.Choices.{Choices}
use Rattle.iox_machine.specs.Message.{Message}
use Rattle.iox_machine.specs.Mailbox.{Mailbox, newest}
use Rattle.iox_machine.specs.PortList.{those, unless}
use Rattle.iox_machine.specs.Service.{Service, Publisher, mailbox, with_mailbox, connect}
use Rattle.iox_machine.specs.Table.{at, changed, contains}
use Rattle.iox_machine.specs.Replies.{OnlyAnswers}
use Rattle.iox_command.specs.DomainValues.declared.connection_failure.ConnectionFailure.{ConnectionFailure}
use Rattle.iox_command.specs.DomainValues.declared.connection_failure.ConnectionFailure.TheVariants.{FailedToEstablishConnection}
use Rattle.iox_command.specs.DomainValues.declared.connection_failure.ZeroCopyCreationError.{ZeroCopyCreationError}
use Rattle.iox_command.specs.DomainValues.declared.connection_failure.ZeroCopyCreationError.TheVariants.{OutOfMemory}
use Rattle.iox_command.specs.DomainValues.declared.connection_failure.ZeroCopyCreationError.TheVariants.{ExpiredConnectionBufferFull}
use Rattle.iox_command.specs.DomainValues.declared.degradation.DegradationAction.{DegradationAction}
use Rattle.iox_command.specs.DomainValues.declared.degradation.DegradationAction.TheVariants.{DegradeAndFail, Warn, Ignore}
use Rattle.iox_command.specs.declared.refusal.Refusal.{Refusal}
use Rattle.iox_command.specs.declared.reply.Reply.{Reply}
use Rattle.iox_command.specs.declared.reply.Reply.TheVariants as reply

-- Why the connection to the port that is listed at a place failed: the port is connected to none there, or still to another one. None if it
-- didn't fail.
abbrev pub failure_at : Option ℕ → Option ℕ → Option ZeroCopyCreationError
failure_at None connected = None
failure_at (Some listed) None = Some OutOfMemory
failure_at (Some listed) (Some other) = if other == listed then None else Some ExpiredConnectionBufferFull

-- What an update may answer, if `May` says which actions the port may take at a failed connection: the first failure, in place order, at
-- which the port is to fail; or success.
abbrev pub UpdateAnswers : (DegradationAction → Type 0) → List (Option ℕ × Option ℕ) → Result (Unit {0}) ConnectionFailure → Type 0
UpdateAnswers May [] answer = answer ≡ Ok tt
UpdateAnswers May (place ∷ more) answer =
    MatchOption (failure_at place.0 place.1) (UpdateAnswers May more answer)
    (λ failure. (May DegradeAndFail × (answer ≡ Err (FailedToEstablishConnection failure)))
    ⊎ ((May Warn ⊎ May Ignore) × UpdateAnswers May more answer))

module _ {T : Type 0} (number : ℕ) where
  -- The service once the publisher's connections to closed subscribers have ended: what waits there is lost; what is borrowed stays in use
  -- until it is released.
  abbrev pub ended : Service T → Service T
  ended service = record service {
    mailboxes = λ publisher subscriber. if (publisher == number) && not (contains (those service.subscriber_list.places) subscriber)
        then option_map (λ (box : Mailbox T). record box { waiting = [] }) (service.mailboxes publisher subscriber)
        else service.mailboxes publisher subscriber;
  }

  -- The service once the publisher is connected to a new subscriber, whose mailbox gets as much of the history as may wait there, oldest
  -- first.
  abbrev pub welcome : List (Message T) → Service T → ℕ → Service T
  welcome history service subscriber =
      let met = connect (option_map_or (λ one. one.buffer_size) (at subscriber service.subscribers) 0) number subscriber service in
      let box = mailbox number subscriber met in
      with_mailbox number subscriber (record box { waiting = newest box.limit history }) met

  -- A publisher follows the list of subscribers: its connections to closed subscribers end, and it connects to each listed one. A
  -- connection that has no mailbox yet may fail, because memory runs out.
  abbrev pub Follows : Publisher T → Service T → Publisher T → Service T → Type 0
  Follows publisher old after new =
      (refused : List ℕ)
      × (list_all (λ subscriber. contains (those old.subscriber_list.places) subscriber && not
      (is_some (old.mailboxes number subscriber))) refused ≡ true)
      × (after ≡ record publisher { seen = old.subscriber_list.changes; connected = map (unless refused) old.subscriber_list.places })
      × (new ≡ fold (welcome publisher.history) (record (ended old) { publishers = changed number after old.publishers })
      (filter (λ subscriber. not (contains (those publisher.connected) subscriber)) (those after.connected)))

module _ {T : Type 0} (choices : Choices T) (number : ℕ) where
  -- The publisher updates its connections if the list of subscribers changed, and then `Does` what it was asked. If the update fails, that
  -- failure is the reply.
  abbrev pub UpdatesFirst : (ConnectionFailure → Refusal) → (Publisher T → Service T → Reply T → Service T → Type 0)
      → Publisher T → Service T → Reply T → Service T → Type 0
  UpdatesFirst told Does publisher old answer new =
      MatchBool (publisher.seen == old.subscriber_list.changes)
      (Does publisher old answer new)
      ((after : Publisher T) × (mid : Service T) × Follows number publisher old after mid
      × ((outcome : Result (Unit {0}) ConnectionFailure)
      × UpdateAnswers (choices.publisher_acts number publisher.degradation)
      (zip old.subscriber_list.places after.connected) outcome
      × MatchResult outcome
      (λ done. Does after mid answer new)
      (λ failure. OnlyAnswers (reply.Refused (told failure)) mid answer new)))
