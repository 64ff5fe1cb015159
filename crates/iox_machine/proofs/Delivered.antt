-- What a send, a retry and the end of a blocked send tell of the mailboxes that took the message.
use Rattle.std.proofs.Common.{◌≡◌, ◌+◌, ℕ, Bool, true, false, cond, not, ◌&&◌, List, [], ◌∷◌, length, Option, None, Some, refl, sym}
use Rattle.std.proofs.Common.{ap, subst, inl, inr, ◌∙◌, true≢false}
use Rattle.std.proofs.lemmas.Bool.{eqb-true}
use Rattle.std.specs.Prelude.{◌==◌, find, is_some, slice_get, zip, MatchBool, MatchOption}
use Rattle.iox_machine.proofs.Cases.{by-bool, by-option, chosen}
use Rattle.iox_machine.proofs.Delivering.{Outcomes, by-outcome, by-send, sending}
use Rattle.iox_machine.proofs.Frames.{publisher-stands}
use Rattle.iox_machine.proofs.Moving.{at-one}
use Rattle.iox_machine.proofs.Offered.{delivers-came}
use Rattle.iox_machine.proofs.Order.{follows-publishers}
use Rattle.iox_machine.proofs.OrderLaws.{connects-once, waits-once}
use Rattle.iox_machine.proofs.Parts.{Once, once-unless}
use Rattle.iox_machine.proofs.RefusedPorts.{Alike, Left, left-lent, left-same, lends-alike}
use Rattle.iox_machine.proofs.Shorthands.{IsRefused, IsSkipped, with_publisher}
use Rattle.iox_machine.proofs.Tables.{at-changed}
use Rattle.iox_machine.proofs.Through.{keeps-loans, keeps-messages, keeps-ports}
use Rattle.iox_machine.specs.Choices.{Choices}
use Rattle.iox_machine.specs.DeliveredLaws.{GivingUpTellsTakers, RetriesTellTakers, SendsTellTakers, TellsTakers, begun, is_going}
use Rattle.iox_machine.specs.Mailbox.{Mailbox}
use Rattle.iox_machine.specs.Message.{Loan, Message}
use Rattle.iox_machine.specs.OnceLaws.{is_skipped}
use Rattle.iox_machine.specs.PortList.{those}
use Rattle.iox_machine.specs.Ports.{Puts, SendsLoan, publisher_in}
use Rattle.iox_machine.specs.PublisherUpdate as publishing
use Rattle.iox_machine.specs.RefusalLaws.{IsSentBy, KeepsMessages, KeepsPorts, is_sending, loans_left}
use Rattle.iox_machine.specs.Run.{Runs, Step}
use Rattle.iox_machine.specs.RunLaws.{is_written, numbered, sent_as}
use Rattle.iox_machine.specs.Sending.{Begins, GoesOn, Sends}
use Rattle.iox_machine.specs.Service.{Publisher, Send, Service, mailbox}
use Rattle.iox_machine.specs.State.{State, counted, new_state, replaced}
use Rattle.iox_machine.specs.Table.{at, changed, removed}
use Rattle.iox_command.specs.DomainValues.declared.port_error.SendError.TheVariants as error
use Rattle.iox_command.specs.NegotiateBase.DescribeBase.declared.message_type.MessageTypeDetails.{MessageTypeDetails}
use Rattle.iox_command.specs.declared.command.Command.{Command}
use Rattle.iox_command.specs.declared.command.Command.TheVariants as command
use Rattle.iox_command.specs.declared.refusal.Refusal.TheVariants as refusal
use Rattle.iox_command.specs.declared.reply.Reply.{Reply}
use Rattle.iox_command.specs.declared.reply.Reply.TheVariants as reply

module _ {T : Type 0} where
  -- ---- a send that goes on

  goes-off : {A : Type 0} (answer other : Reply T) → answer ≡ other → is_going answer ≡ true → is_going other ≡ false → A
  goes-off answer other same going silent = absurd (true≢false (sym going ∙ (ap is_going same ∙ silent)))

  goes-on-tells : (choices : Choices T) (number : ℕ) (keeps : Publisher T) (message : Message T) (send : Send T) (old : Service T)
      (answer : Reply T) (new : Service T) → ((s : ℕ) → Once s send.left) → send.message ≡ message
      → GoesOn choices number keeps send old answer new
      → TellsTakers choices number keeps message send.left send.delivered send.retries send.elapsed send.fails old answer new
  goes-on-tells choices number keeps message send old answer new once same (after, mid, went, told, came) =
      let on = delivers-came number message choices keeps send.left send old after mid once same went in (
        on.0,
        after.left,
        after.fails,
        blocked_now,
        on.1,
        (λ p s. ap (λ (end : Service T). mailbox p s end) came ∙ on.2 p s),
        on.7,
        elim (chosen (is_some (slice_get after.left 0)) reply.Blocked
            (cond after.fails (reply.Refused (refusal.Send error.UnableToDeliver)) (reply.Delivered after.delivered)) answer (sym told)) [
              | inl w ↦ elim on.6 [
                | inl none ↦ absurd (true≢false (sym w.0 ∙ ap (λ (l : List ℕ). is_some (slice_get l 0)) none))
                | inr (s, more, is, waits, retries, elapsed) ↦ inr (
                  sym w.1,
                  after,
                  ap (λ (b : Bool). cond b (Some after) None) w.0,
                  on.5,
                  refl,
                  on.3,
                  refl,
                  retries,
                  elapsed,
                  (s, more, is, waits),
                )
              ]
              | inr w ↦ inl (
                none-left after.left w.0,
                ap (λ (b : Bool). cond b (Some after) None) w.0,
                sym w.1 ∙ ap (λ (n : ℕ). cond after.fails (reply.Refused (refusal.Send error.UnableToDeliver)) (reply.Delivered n)) on.3,
              )
            ],
        came
            ∙ (ap (λ (it : Service T). with_publisher number (record keeps { blocked = blocked_now }) it) on.4
            ∙ ap (λ (boxes : ℕ → ℕ → Option (Mailbox T)). record old {
              publishers = changed number (record keeps { blocked = blocked_now }) old.publishers;
              mailboxes = boxes;
            }) (sym (ap (λ (end : Service T). end.mailboxes) came))),
      )
    where
      none-left : (l : List ℕ) → is_some (slice_get l 0) ≡ false → l ≡ []
      none-left [] e = refl
      none-left (x ∷ l) e = absurd (true≢false e)

      blocked_now : Option (Send T)
      blocked_now = cond (is_some (slice_get after.left 0)) (Some after) None

  -- ---- a send begins

  abbrev AreOnce : Publisher T → Service T → Type 0
  AreOnce one service = (s : ℕ) → Once s (those service.subscriber_list.places) × Once s (those one.connected)

  -- a publisher that is up to date began to send to all
  abbrev Begun : (choices : Choices T) → ℕ → Message T → Service T → Reply T → Service T → Type 0
  Begun choices number message old answer new =
      (mid : Service T) × (one : Publisher T) × Left old mid × (at number mid.publishers ≡ Some one)
      × (one.seen ≡ mid.subscriber_list.changes)
      × TellsTakers choices number (begun message one mid) (numbered one message) (those one.connected) 0 0 0 false mid answer new

  begins-tells : (choices : Choices T) (number : ℕ) (message : Message T) (one : Publisher T) (old : Service T) (answer : Reply T)
      (new : Service T) → ((s : ℕ) → Once s (those one.connected)) → Begins choices number message one old answer new
      → TellsTakers choices number (begun message one old) (numbered one message) (those one.connected) 0 0 0 false old answer new
  begins-tells choices number message one old answer new once h =
      goes-on-tells choices number (begun message one old) (numbered one message) (sending message one) old answer new once refl h

  sends-begun : (choices : Choices T) (number : ℕ) (message : Message T) (publisher : Publisher T) (old : Service T) (answer : Reply T)
      (new : Service T) → is_going answer ≡ true → at number old.publishers ≡ Some publisher → AreOnce publisher old
      → Sends choices number message publisher old answer new → Begun choices number message old answer new
  sends-begun choices number message publisher old answer new going found once h =
      elim (by-send choices number message publisher old answer new h) [
        | inl w ↦ elim (by-bool (publisher.seen == old.subscriber_list.changes) (Begins choices number message publisher old answer new)
            ((after : Publisher T) × (mid : Service T) × publishing.Follows number publisher old after mid
            × Outcomes (choices.publisher_acts number publisher.degradation) (zip old.subscriber_list.places after.connected)
            (λ done. Begins choices number message after mid answer new)
            (λ failure. IsRefused (refusal.Send (error.ConnectionError failure)) mid answer new)) w) [
              | inl k ↦ (
                old,
                publisher,
                left-same old,
                found,
                eqb-true publisher.seen old.subscriber_list.changes k.0,
                begins-tells choices number message publisher old answer new (λ s. (once s).1) k.1,
              )
              | inr k ↦ followed k.1.0 k.1.1 k.1.2 k.1.3
            ]
        | inr w ↦ at-once w.0 w.1.0
      ]
    where
      at-once : (used_up : Bool) → answer ≡ reply.Refused (refusal.Send (cond used_up error.InternalError
          error.ConnectionBrokenSinceSenderNoLongerExists)) → Begun choices number message old answer new
      at-once true told = goes-off answer (reply.Refused (refusal.Send error.InternalError)) told going refl
      at-once false told =
          goes-off answer (reply.Refused (refusal.Send error.ConnectionBrokenSinceSenderNoLongerExists)) told going refl

      followed : (after : Publisher T) (mid : Service T) → publishing.Follows number publisher old after mid
          → Outcomes (choices.publisher_acts number publisher.degradation) (zip old.subscriber_list.places after.connected)
          (λ done. Begins choices number message after mid answer new)
          (λ failure. IsRefused (refusal.Send (error.ConnectionError failure)) mid answer new)
          → Begun choices number message old answer new
      followed after mid came told =
          let ports : KeepsPorts old mid = keeps-ports number publisher old after mid found came in
          let known : at number mid.publishers ≡ Some after = follows-publishers number 0 publisher old after mid found came in
          elim (by-outcome (choices.publisher_acts number publisher.degradation) (zip old.subscriber_list.places after.connected)
          (λ done. Begins choices number message after mid answer new)
          (λ failure. IsRefused (refusal.Send (error.ConnectionError failure)) mid answer new) told) [
            | inl r ↦ (
              mid,
              after,
              (
                keeps-loans number publisher old after mid found came,
                ports,
                keeps-messages number publisher old after mid found came,
              ),
              known,
              ap (λ (it : Publisher T). it.seen) came.2 ∙ sym (ap (λ l. l.changes) ports.3),
              begins-tells choices number message after mid answer new
                  (λ s. subst (λ (it : Publisher T). Once s (those it.connected)) (sym came.2)
                  (once-unless s came.0 old.subscriber_list.places (once s).0)) r.2,
            )
            | inr r ↦ goes-off answer (reply.Refused (refusal.Send (error.ConnectionError r.0))) r.2.0 going refl
          ]

  -- ---- the commands

  module _ (choices : Choices T) (types : MessageTypeDetails) (buffer : ℕ) (before : List (Command T)) (told : List (Reply T))
      (old : State T) (run : Runs types choices buffer before new_state told old) (answer : Reply T) (going : is_going answer ≡ true) where
    once-in : (number : ℕ) (has : Service T → Bool) (service : Service T) (one : Publisher T) → find has old.services ≡ Some service
        → at number service.publishers ≡ Some one → AreOnce one service
    once-in number has service one first found s =
        connects-once choices types buffer before told old run s number has service one first found

    abbrev Leaves : Command T → State T → Type 0
    Leaves asked new =
        (has : Service T → Bool) × (service : Service T) × (mid : Service T) × (after : Service T)
        × (number : ℕ) × (one : Publisher T) × (message : Message T)
        × (find has old.services ≡ Some service) × (new.services ≡ replaced has after old.services)
        × IsSentBy asked service number message
        × (mid.loans ≡ loans_left asked service.loans) × KeepsPorts service mid × KeepsMessages service mid
        × (at number mid.publishers ≡ Some one) × (one.seen ≡ mid.subscriber_list.changes)
        × TellsTakers choices number (begun message one mid) (numbered one message) (those one.connected) 0 0 0 false mid answer after

    leaves : (asked : Command T) (new : State T) → is_sending asked ≡ true → Step types choices buffer asked old answer new
        → Leaves asked new
    leaves (command.Send loan) new is h =
        elim (at-one (λ (service : Service T). at loan service.loans) (SendsLoan choices loan) old answer new h) [
          | inl w ↦ goes-off answer reply.Skipped w.0 going refl
          | inr w ↦ elim (by-option (at w.1.publisher w.0.publishers) (IsSkipped w.0 answer w.2)
              (λ publisher. MatchBool (is_written w.1 && not (is_some publisher.blocked))
              (Sends choices w.1.publisher (sent_as w.1) publisher (record w.0 { loans = removed loan w.0.loans }) answer w.2)
              (IsSkipped w.0 answer w.2)) w.5) [
                | inl k ↦ goes-off answer reply.Skipped k.1.0 going refl
                | inr k ↦ elim (by-bool (is_written w.1 && not (is_some k.0.blocked))
                    (Sends choices w.1.publisher (sent_as w.1) k.0 (record w.0 { loans = removed loan w.0.loans }) answer w.2)
                    (IsSkipped w.0 answer w.2) k.2) [
                      | inl j ↦ sent w.0 w.1 w.2 w.3 w.4 (ap (λ (state : State T). state.services) w.6) k.0 k.1 j.1
                      | inr j ↦ goes-off answer reply.Skipped j.1.0 going refl
                    ]
              ]
        ]
      where
        has : Service T → Bool
        has other = is_some (at loan other.loans)

        sent : (service : Service T) (lent : Loan T) (after : Service T) → find has old.services ≡ Some service
            → at loan service.loans ≡ Some lent → new.services ≡ replaced has after old.services
            → (publisher : Publisher T) → at lent.publisher service.publishers ≡ Some publisher
            → Sends choices lent.publisher (sent_as lent) publisher (record service { loans = removed loan service.loans }) answer after
            → Leaves (command.Send loan) new
        sent service lent after first there came publisher found did =
            let so : Begun choices lent.publisher (sent_as lent) (record service { loans = removed loan service.loans }) answer after =
            sends-begun choices lent.publisher (sent_as lent) publisher (record service { loans = removed loan service.loans })
            answer after going found
            (once-in lent.publisher has service publisher first found) did in (
              has,
              service,
              so.0,
              after,
              lent.publisher,
              so.1,
              sent_as lent,
              first,
              came,
              (lent, there, refl, refl),
              so.2.0,
              so.2.1,
              so.2.2,
              so.3,
              so.4,
              so.5,
            )
    leaves (command.Put number values) new is h =
        elim (at-one (publisher_in number)
        (λ (publisher : Publisher T) (service : Service T) (answered : Reply T) (after : Service T). MatchOption publisher.blocked
        (Puts choices number values publisher service answered after) (λ send. IsSkipped service answered after)) old answer new h) [
          | inl w ↦ goes-off answer reply.Skipped w.0 going refl
          | inr w ↦ elim (by-option w.1.blocked (Puts choices number values w.1 w.0 answer w.2) (λ send. IsSkipped w.0 answer w.2) w.5) [
            | inl k ↦ sent w.0 w.1 w.2 w.3 (publisher-stands number w.0 w.1 w.4) (ap (λ (state : State T). state.services) w.6) k.1
            | inr k ↦ goes-off answer reply.Skipped k.2.0 going refl
          ]
        ]
      where
        has : Service T → Bool
        has other = is_some (publisher_in number other)

        sent : (service : Service T) (one : Publisher T) (after : Service T) → find has old.services ≡ Some service
            → at number service.publishers ≡ Some one → new.services ≡ replaced has after old.services
            → Puts choices number values one service answer after → Leaves (command.Put number values) new
        sent service one after first found came (Some why, lent, lends, refused) =
            goes-off answer (reply.Refused (refusal.Send (error.LoanError why))) refused.0 going refl
        sent service one after first found came (None, lent, lends, did) =
            let message : Message T = record { number = one.next; sequence = None; values = values } in
            let alike : Alike one lent = lends-alike number (length values) one service None lent lends in
            let so : Begun choices number message (with_publisher number lent service) answer after =
            sends-begun choices number message lent (with_publisher number lent service) answer after going
            (at-changed number lent one service.publishers found)
            (λ s. (
              (once-in number has service one first found s).0,
              subst (λ (l : List (Option ℕ)). Once s (those l)) (sym alike.1)
                  (once-in number has service one first found s).1,
            )) did in
            let left : Left service so.0 = left-lent number one lent service so.0 found alike so.2 in (
              has,
              service,
              so.0,
              after,
              number,
              so.1,
              message,
              first,
              came,
              (one, found, refl, refl),
              left.0,
              left.1,
              left.2,
              so.3,
              so.4,
              so.5,
            )
    leaves other new is h = absurd (true≢false (sym is))

pub sends-tell-takers : {T : Type 0} (choices : Choices T) → SendsTellTakers choices
sends-tell-takers choices types buffer before told old run asked answer new is going h =
    leaves choices types buffer before told old run answer going asked new is h

pub retries-tell-takers : {T : Type 0} (choices : Choices T) → RetriesTellTakers choices
retries-tell-takers {T} choices types buffer before told old run number nanoseconds answer new going h =
    elim (at-one (publisher_in number)
    (λ (publisher : Publisher T) (service : Service T) (answered : Reply T) (after : Service T). MatchOption publisher.blocked
    (IsSkipped service answered after)
    (λ send. GoesOn choices number publisher (record send { retries = send.retries + 1; elapsed = nanoseconds }) service answered after))
    old answer new h) [
      | inl w ↦ goes-off answer reply.Skipped w.0 going refl
      | inr w ↦ elim (by-option w.1.blocked (IsSkipped w.0 answer w.2)
          (λ send. GoesOn choices number w.1 (record send { retries = send.retries + 1; elapsed = nanoseconds }) w.0 answer w.2) w.5) [
            | inl k ↦ goes-off answer reply.Skipped k.1.0 going refl
            | inr k ↦ (
              w.0,
              w.2,
              w.1,
              k.0,
              w.3,
              ap (λ (state : State T). state.services) w.6,
              w.4,
              k.1,
              goes-on-tells choices number w.1 k.0.message (record k.0 { retries = k.0.retries + 1; elapsed = nanoseconds }) w.0 answer
                  w.2
                  (λ s. waits-once choices types buffer before told old run s number
                  (λ (other : Service T). is_some (publisher_in number other)) w.0 w.1 k.0 w.3 (publisher-stands number w.0 w.1 w.4) k.1)
                  refl k.2,
            )
          ]
    ]

pub giving-up-tells-takers : {T : Type 0} (choices : Choices T) → GivingUpTellsTakers choices
giving-up-tells-takers {T} choices types buffer number old answer new h unskipped =
    elim (at-one (publisher_in number)
    (λ (publisher : Publisher T) (service : Service T) (answered : Reply T) (after : Service T). MatchOption publisher.blocked
    (IsSkipped service answered after)
    (λ send. (answered ≡ reply.Delivered send.delivered)
    × (after ≡ with_publisher number (record publisher { blocked = None }) service)))
    old answer new h) [
      | inl w ↦ absurd (true≢false (sym (ap is_skipped w.0) ∙ unskipped))
      | inr w ↦ elim (by-option w.1.blocked (IsSkipped w.0 answer w.2)
          (λ send. (answer ≡ reply.Delivered send.delivered)
          × (w.2 ≡ with_publisher number (record w.1 { blocked = None }) w.0)) w.5) [
            | inl k ↦ absurd (true≢false (sym (ap is_skipped k.1.0) ∙ unskipped))
            | inr k ↦ (
              w.0,
              w.1,
              k.0,
              w.3,
              w.4,
              k.1,
              k.2.0,
              w.6
                  ∙ (ap (λ (it : Reply T). record old {
                    made = counted it old.made;
                    services = replaced (λ (other : Service T). is_some (publisher_in number other)) w.2 old.services;
                  }) k.2.0
                  ∙ ap (λ (it : Service T). record old {
                    services = replaced (λ (other : Service T). is_some (publisher_in number other)) it old.services;
                  }) k.2.1),
            )
          ]
    ]
