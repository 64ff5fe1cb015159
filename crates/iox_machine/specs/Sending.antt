-- How a publisher sends.
use Rattle.std.specs.Prelude.{ℕ, ◌+◌, ◌-◌, ◌^◌, ◌≡◌, ◌⊎◌, false, true, ◌&&◌, ◌==◌, List, [], ◌∷◌, ◌++◌, slice_get, None, Some, is_some}
use Rattle.std.specs.Prelude.{option_map, MatchBool, MatchOption, if◌then◌else◌}
use Rattle.std.specs.Option.{option_map_or}
use Rattle.iox_machine.specs.Message.{Message}
use Rattle.iox_machine.specs.Choices.{Choices}
use Rattle.iox_machine.specs.Mailbox.{newest, put}
use Rattle.iox_machine.specs.PortList.{those}
use Rattle.iox_machine.specs.PublisherUpdate.{UpdatesFirst}
use Rattle.iox_machine.specs.Service.{Service, Publisher, Send, mailbox, with_mailbox}
use Rattle.iox_machine.specs.Table.{at, changed, contains}
use Rattle.iox_machine.specs.Replies.{OnlyAnswers}
use Rattle.iox_command.specs.DomainValues.Actions.{decision_of}
use Rattle.iox_command.specs.DomainValues.declared.backpressure.BackpressureDecision.{BackpressureDecision}
use Rattle.iox_command.specs.DomainValues.declared.backpressure.BackpressureDecision.TheVariants.{Retry, DiscardData, DiscardDataAndFail}
use Rattle.iox_command.specs.DomainValues.declared.port_error.SendError.TheVariants as error
use Rattle.iox_command.specs.declared.refusal.Refusal.TheVariants as refusal
use Rattle.iox_command.specs.declared.reply.Reply.{Reply}
use Rattle.iox_command.specs.declared.reply.Reply.TheVariants as reply

module _ {T : Type 0} (choices : Choices T) (number : ℕ) where
  -- What may be decided at the full mailbox of a subscriber: a subscriber that is closed, or isn't connected to the publisher, is skipped;
  -- otherwise the publisher's choice applies.
  abbrev pub MayDecide : Publisher T → ℕ → Send T → Service T → BackpressureDecision → Type 0
  MayDecide publisher subscriber send service decision =
      MatchBool (option_map_or (λ one. one.stands && contains (those one.connected) number) (at subscriber service.subscribers) false)
      (choices.publisher_decides number send.retries send.elapsed (decision_of publisher.strategy publisher.handler) decision)
      (decision ≡ DiscardData)

  -- A message goes to these subscribers, one after the other. A mailbox takes it. If a mailbox is full, a decision applies: the send is
  -- blocked there, or it skips the mailbox and goes on.
  abbrev pub Delivers : Publisher T → List ℕ → Send T → Service T → Send T → Service T → Type 0
  Delivers publisher [] send old after new = (after ≡ record send { left = [] }) × (new ≡ old)
  Delivers publisher (subscriber ∷ more) send old after new =
      MatchOption (put old.settings.enable_safe_overflow send.message (mailbox number subscriber old))
      ((MayDecide publisher subscriber send old Retry × (after ≡ record send { left = subscriber ∷ more }) × (new ≡ old))
      ⊎ (MayDecide publisher subscriber send old DiscardData
      × Delivers publisher more (record send { retries = 0; elapsed = 0 }) old after new)
      ⊎ (MayDecide publisher subscriber send old DiscardDataAndFail
      × Delivers publisher more (record send { retries = 0; elapsed = 0; fails = true }) old after new))
      (λ box. Delivers publisher more (record send { retries = 0; elapsed = 0; delivered = send.delivered + 1 })
      (with_mailbox number subscriber box old) after new)

  -- A send goes on to the subscribers that are left. If some are left after that, it is blocked; otherwise it is over, and the reply says
  -- how many mailboxes took its message, or that it couldn't be delivered.
  abbrev pub GoesOn : Publisher T → Send T → Service T → Reply T → Service T → Type 0
  GoesOn publisher send old answer new =
      (after : Send T) × (mid : Service T) × Delivers publisher send.left send old after mid
      × (answer ≡ (if is_some (slice_get after.left 0) then reply.Blocked
      else (if after.fails then reply.Refused (refusal.Send error.UnableToDeliver) else reply.Delivered after.delivered)))
      × (new ≡ record mid {
        publishers = changed number (record publisher { blocked = if is_some (slice_get after.left 0) then Some after else None })
            mid.publishers;
      })

  -- A send begins: its message gets the publisher's next sequence number, if the service numbers messages. The message becomes the newest
  -- of the publisher's history, and goes to the connected subscribers.
  abbrev pub Begins : Message T → Publisher T → Service T → Reply T → Service T → Type 0
  Begins message publisher old answer new =
      let sequence = option_map (λ last. last + 1) publisher.last_sequence in
      let sent = record message { sequence = sequence } in
      GoesOn
      (record publisher {
        last_sequence = sequence;
        history = newest old.settings.history_size (publisher.history ++ sent ∷ []);
      })
      (record {
        message = sent;
        left = those publisher.connected;
        retries = 0;
        elapsed = 0;
        delivered = 0;
        fails = false;
      })
      old answer new

  -- A publisher sends a message, after an update of its connections. The send is refused if the publisher is closed or has no sequence
  -- number left.
  abbrev pub Sends : Message T → Publisher T → Service T → Reply T → Service T → Type 0
  Sends message publisher old answer new =
      MatchBool publisher.stands
      (MatchBool (option_map_or (λ last. last == 2 ^ 64 - 1) publisher.last_sequence false)
      (OnlyAnswers (reply.Refused (refusal.Send error.InternalError)) old answer new)
      (UpdatesFirst choices number (λ failure. refusal.Send (error.ConnectionError failure)) (Begins message)
      publisher old answer new))
      (OnlyAnswers (reply.Refused (refusal.Send error.ConnectionBrokenSinceSenderNoLongerExists)) old answer new)
