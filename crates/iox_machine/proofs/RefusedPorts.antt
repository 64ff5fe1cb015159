-- What a refused call of a port leaves of a service.
use Rattle.std.proofs.Common.{◌≡◌, ◌+◌, ℕ, Bool, true, false, cond, not, ◌&&◌, List, length, Option, None, Some, refl, sym}
use Rattle.std.proofs.Common.{ap, subst, inl, inr, ◌∙◌, true≢false}
use Rattle.std.specs.Option.{option_map_or}
use Rattle.std.specs.Prelude.{◌==◌, find, is_some, nat_lt, option_map, slice_get, MatchBool, MatchOption, zip}
use Rattle.iox_machine.specs.Choices.{Choices}
use Rattle.iox_machine.proofs.Delivering.{Outcomes, by-outcome, at_once, by-send}
use Rattle.iox_machine.specs.Lending.{Lends, loan_refusal}
use Rattle.iox_machine.specs.Message.{Loan, Message}
use Rattle.iox_machine.specs.RunLaws.{is_written, sent_as}
use Rattle.iox_machine.specs.PortList.{those}
use Rattle.iox_machine.specs.Ports.{Puts, SendsLoan, publisher_in, subscriber_in}
use Rattle.iox_machine.specs.PublisherUpdate as publishing
use Rattle.iox_machine.specs.Receiving.{Receives, has_samples, lasting}
use Rattle.iox_machine.specs.RefusalLaws.{KeepsMessages, KeepsPorts, RefusedPortsLeave, loans_left, publisher_staying, subscriber_staying}
use Rattle.iox_machine.specs.Sending.{Begins, Sends}
use Rattle.iox_machine.specs.Service.{Publisher, Service, Subscriber}
use Rattle.iox_machine.proofs.Shorthands.{with_publisher, with_subscriber, IsSkipped, IsRefused, AtFree, LendsLonger}
use Rattle.iox_machine.specs.State.{AtOne, State, replaced}
use Rattle.iox_machine.specs.SubscriberUpdate as subscribing
use Rattle.iox_machine.specs.Table.{at, changed, contains, removed}
use Rattle.iox_machine.proofs.Cases.{by-bool, by-option, same-some}
use Rattle.iox_machine.proofs.Frames.{publisher-stands, soft-follows, subscriber-stands}
use Rattle.iox_machine.proofs.Linking.{changed-view, reach, reach_of, subscriber_listed}
use Rattle.iox_machine.proofs.Moving.{at-one}
use Rattle.iox_machine.proofs.Tables.{at-changed}
use Rattle.iox_command.specs.DomainValues.declared.connection_failure.ConnectionFailure.{ConnectionFailure}
use Rattle.iox_command.specs.DomainValues.declared.port_error.LoanError.{LoanError}
use Rattle.iox_command.specs.DomainValues.declared.port_error.ReceiveError.TheVariants as receive_error
use Rattle.iox_command.specs.DomainValues.declared.port_error.SendError.TheVariants as error
use Rattle.iox_command.specs.declared.command.Command.{Command}
use Rattle.iox_command.specs.declared.command.Command.TheVariants as command
use Rattle.iox_command.specs.declared.port.PortNumber.TheVariants as port
use Rattle.iox_command.specs.declared.refusal.Refusal.{Refusal}
use Rattle.iox_command.specs.declared.refusal.Refusal.TheVariants as refusal
use Rattle.iox_command.specs.declared.reply.Reply.{Reply}
use Rattle.iox_command.specs.declared.reply.Reply.TheVariants as reply
use Rattle.iox_machine.proofs.Through.{attended-loans, attended-messages, attended-ports, keeps-loans, keeps-messages, keeps-ports}

module _ {T : Type 0} where
  -- ---- what is left of a service

  abbrev pub Left : Service T → Service T → Type 0
  Left old new = (new.loans ≡ old.loans) × KeepsPorts old new × KeepsMessages old new

  pub ports-same : (service : Service T) → KeepsPorts service service
  ports-same service = (refl, refl, refl, refl, refl, (λ n. refl), (λ n. refl))

  ports-both : (one two three : Service T) → KeepsPorts one two → KeepsPorts two three → KeepsPorts one three
  ports-both one two three h k = (
    k.0 ∙ h.0,
    k.1 ∙ h.1,
    k.2 ∙ h.2,
    k.3 ∙ h.3,
    k.4 ∙ h.4,
    (λ n. k.5 n ∙ h.5 n),
    (λ n. k.6 n ∙ h.6 n),
  )

  pub left-same : (service : Service T) → Left service service
  left-same service = (refl, ports-same service, (λ p s. (refl, (λ both. refl), (λ box there both. there))))

  left-refused : (why : Refusal) (old mid : Service T) (answer : Reply T) (new : Service T) → Left old mid → IsRefused why mid answer new
      → Left old new
  left-refused why old mid answer new on refused = subst (Left old) (sym refused.1) on

  -- A publisher that was found does something after it brought its connections up to date, or is refused.
  left-updates : (choices : Choices T) (number : ℕ) (told : ConnectionFailure → Refusal)
      (Does : Publisher T → Service T → Reply T → Service T → Type 0)
      (publisher : Publisher T) (old : Service T) (why : Refusal) (new : Service T) → at number old.publishers ≡ Some publisher
      → ((after : Publisher T) (mid : Service T) → Does after mid (reply.Refused why) new → ⊥)
      → publishing.UpdatesFirst choices number told Does publisher old (reply.Refused why) new → Left old new
  left-updates choices number told Does publisher old why new found never h =
      elim (by-bool (publisher.seen == old.subscriber_list.changes) (Does publisher old (reply.Refused why) new)
      ((after : Publisher T) × (mid : Service T) × publishing.Follows number publisher old after mid
      × Outcomes (choices.publisher_acts number publisher.degradation) (zip old.subscriber_list.places after.connected)
      (λ done. Does after mid (reply.Refused why) new) (λ failure. IsRefused (told failure) mid (reply.Refused why) new)) h) [
        | inl w ↦ absurd (never publisher old w.1)
        | inr w ↦ elim (by-outcome (choices.publisher_acts number publisher.degradation) (zip old.subscriber_list.places w.1.0.connected)
            (λ done. Does w.1.0 w.1.1 (reply.Refused why) new) (λ failure. IsRefused (told failure) w.1.1 (reply.Refused why) new) w.1.3) [
              | inl r ↦ absurd (never w.1.0 w.1.1 r.2)
              | inr r ↦ left-refused (told r.0) old w.1.1 (reply.Refused why) new (
                keeps-loans number publisher old w.1.0 w.1.1 found w.1.2,
                keeps-ports number publisher old w.1.0 w.1.1 found w.1.2,
                keeps-messages number publisher old w.1.0 w.1.1 found w.1.2,
              ) r.2
            ]
      ]

  left-attends : (choices : Choices T) (buffer number : ℕ) (told : ConnectionFailure → Refusal)
      (Does : Subscriber → Service T → Reply T → Service T → Type 0)
      (subscriber : Subscriber) (old : Service T) (answer : Reply T) (new : Service T) → at number old.subscribers ≡ Some subscriber
      → ((after : Subscriber) (mid : Service T) → Left old mid → at number mid.subscribers ≡ Some after → Does after mid answer new
      → Left old new)
      → subscribing.UpdatesFirst choices buffer number told Does subscriber old answer new → Left old new
  left-attends choices buffer number told Does subscriber old answer new found does h =
      elim (by-bool ((subscriber.seen == old.publisher_list.changes) && not subscriber.again) (Does subscriber old answer new)
      ((after : Subscriber) × (mid : Service T) × subscribing.Follows buffer number subscriber old after mid
      × Outcomes (choices.subscriber_acts number subscriber.degradation) (zip old.publisher_list.places after.connected)
      (λ done. Does after mid answer new) (λ failure. IsRefused (told failure) mid answer new)) h) [
        | inl w ↦ does subscriber old (left-same old) found w.1
        | inr w ↦ followed w.1.0 w.1.1 w.1.2 w.1.3
      ]
    where
      followed : (after : Subscriber) (mid : Service T) → subscribing.Follows buffer number subscriber old after mid
          → Outcomes (choices.subscriber_acts number subscriber.degradation) (zip old.publisher_list.places after.connected)
          (λ done. Does after mid answer new) (λ failure. IsRefused (told failure) mid answer new) → Left old new
      followed after mid came told_so =
          let on : Left old mid = (
            attended-loans buffer number subscriber old after mid found came,
            attended-ports buffer number subscriber old after mid found came,
            attended-messages buffer number subscriber old after mid found came,
          ) in
          elim (by-outcome (choices.subscriber_acts number subscriber.degradation) (zip old.publisher_list.places after.connected)
          (λ done. Does after mid answer new) (λ failure. IsRefused (told failure) mid answer new) told_so) [
            | inl r ↦ does after mid on (soft-follows buffer number subscriber old after mid found came).1 r.2
            | inr r ↦ left-refused (told r.0) old mid answer new on r.2
          ]

  -- ---- replies that no refusal is

  abbrev pub tells_why : Reply T → Option Refusal
  tells_why (reply.Refused why) = Some why
  tells_why other = None

  pub never-told : {A : Type 0} (why : Refusal) (other : Reply T) → reply.Refused why ≡ other → tells_why other ≡ None → A
  never-told why other same silent = absurd (differ (ap tells_why same ∙ silent))
    where
      differ : Some why ≡ None → ⊥
      differ e = cc

  -- a send that begins is refused since it couldn't deliver
  never-begins : (choices : Choices T) (why : Refusal) → (why ≡ refusal.Send error.UnableToDeliver → ⊥) → (number : ℕ) (message : Message T)
      (publisher : Publisher T) (old new : Service T) → Begins choices number message publisher old (reply.Refused why) new → ⊥
  never-begins choices why off number message publisher old new h =
      told (is_some (slice_get h.0.left 0)) h.0.fails h.0.delivered h.3
    where
      told : (waits fails : Bool) (count : ℕ)
          → ◌≡◌ {A = Reply T} (reply.Refused why)
          (cond waits reply.Blocked (cond fails (reply.Refused (refusal.Send error.UnableToDeliver)) (reply.Delivered count))) → ⊥
      told true fails count same = never-told why reply.Blocked same refl
      told false true count same =
          off (same-some why (refusal.Send error.UnableToDeliver) (ap tells_why same))
      told false false count same = never-told why (reply.Delivered count) same refl

  left-sends : (choices : Choices T) (why : Refusal) → (why ≡ refusal.Send error.UnableToDeliver → ⊥) → (number : ℕ) (message : Message T)
      (publisher : Publisher T) (old new : Service T) → at number old.publishers ≡ Some publisher
      → Sends choices number message publisher old (reply.Refused why) new → Left old new
  left-sends choices why off number message publisher old new found h =
      elim (by-send choices number message publisher old (reply.Refused why) new h) [
        | inl w ↦ left-updates choices number (λ failure. refusal.Send (error.ConnectionError failure)) (Begins choices number message)
            publisher old why
            new found (λ after mid begun. never-begins choices why off number message after mid new begun) w
        | inr w ↦ left-refused (refusal.Send (at_once w.0)) old old (reply.Refused why) new
            (left-same old) w.1
      ]

  -- ---- a put

  abbrev pub Alike : Publisher T → Publisher T → Type 0
  Alike one after = (publisher_staying after ≡ publisher_staying one) × (after.connected ≡ one.connected)

  pub lends-alike : (number count : ℕ) (one : Publisher T) (service : Service T) (refused : Option LoanError) (after : Publisher T)
      → Lends number count one service refused after → Alike one after
  lends-alike number count one service refused after h =
      elim (by-option (loan_refusal number count one service)
      (MatchBool (nat_lt one.room count) (LendsLonger number count one refused after)
      ((refused ≡ None) × (after ≡ record one { next = one.next + 1 })))
      (λ why. (refused ≡ Some why) × (after ≡ one)) h) [
        | inl w ↦ elim (by-bool (nat_lt one.room count) (LendsLonger number count one refused after)
            ((refused ≡ None) × (after ≡ record one { next = one.next + 1 })) w.1) [
              | inl k ↦ longer k.1
              | inr k ↦ subst (Alike one) (sym k.1.1) (refl, refl)
            ]
        | inr w ↦ subst (Alike one) (sym w.2.1) (refl, refl)
      ]
    where
      longer : LendsLonger number count one refused after → Alike one after
      longer (inl (told, same)) = subst (Alike one) (sym same) (refl, refl)
      longer (inr (room, allowed, few, told, same)) = subst (Alike one) (sym same) (refl, refl)

  -- what stays of a service where a publisher lent, stays of it before
  pub left-lent : (number : ℕ) (publisher after : Publisher T) (old new : Service T) → at number old.publishers ≡ Some publisher
      → Alike publisher after → Left (with_publisher number after old) new → Left old new
  left-lent number publisher after old new found alike on = (
    on.0,
    ports-both old (with_publisher number after old) new (
      refl,
      refl,
      refl,
      refl,
      refl,
      (λ n. changed-view publisher_staying number n publisher after old.publishers found alike.0),
      (λ n. refl),
    ) on.1,
    (λ p s. (
      (on.2 p s).0,
      (λ both. (on.2 p s).1 (ap (λ (b : Bool). subscriber_listed s old && b) (reach-same p s alike.1) ∙ both)),
      (λ box there both. (on.2 p s).2 box there (ap (λ (b : Bool). subscriber_listed s old && b) (reach-same p s alike.1) ∙ both)),
    )),
  )
    where
      reach-connected : (s : ℕ) (o : Option (Publisher T))
          → reach_of s o
          ≡ option_map_or (λ (l : List (Option ℕ)). contains (those l) s) (option_map (λ (one : Publisher T). one.connected) o) false
      reach-connected s None = refl
      reach-connected s (Some one) = refl

      reach-same : (p s : ℕ) → after.connected ≡ publisher.connected
          → reach_of s (at p (changed number after old.publishers)) ≡ reach p s old
      reach-same p s same =
          reach-connected s (at p (changed number after old.publishers))
          ∙ (ap (λ (o : Option (List (Option ℕ))). option_map_or (λ (l : List (Option ℕ)). contains (those l) s) o false)
          (changed-view (λ (one : Publisher T). one.connected) number p publisher after old.publishers found same)
          ∙ sym (reach-connected s (at p old.publishers)))

  left-puts : (choices : Choices T) (why : Refusal) → (why ≡ refusal.Send error.UnableToDeliver → ⊥) → (number : ℕ) (values : List T)
      (publisher : Publisher T) (old new : Service T) → at number old.publishers ≡ Some publisher
      → Puts choices number values publisher old (reply.Refused why) new → Left old new
  left-puts choices why off number values publisher old new found (Some reason, after, lent, refused) =
      left-refused (refusal.Send (error.LoanError reason)) old old (reply.Refused why) new (left-same old) refused
  left-puts choices why off number values publisher old new found (None, after, lent, sent) =
      left-lent number publisher after old new found (lends-alike number (length values) publisher old None after lent)
      (left-sends choices why off number (record { number = publisher.next; sequence = None; values = values }) after
      (with_publisher number after old) new (at-changed number after publisher old.publishers found) sent)

  -- ---- the commands

  abbrev Leaves : (Service T → Bool) → Command T → State T → State T → Type 0
  Leaves has asked old new =
      (service : Service T) × (after : Service T) × (find has old.services ≡ Some service)
      × (new ≡ record old { services = replaced has after old.services })
      × (after.loans ≡ loans_left asked service.loans) × KeepsPorts service after × KeepsMessages service after

  leaves-at : {V : Type 0} (asked : Command T) (found : Service T → Option V) (Does : V → Service T → Reply T → Service T → Type 0)
      (old : State T) (why : Refusal) (new : State T)
      → ((one : V) (service after : Service T) → found service ≡ Some one → Does one service (reply.Refused why) after
      → (after.loans ≡ loans_left asked service.loans) × KeepsPorts service after × KeepsMessages service after)
      → AtOne found Does old (reply.Refused why) new → Leaves (λ (other : Service T). is_some (found other)) asked old new
  leaves-at asked found Does old why new does h =
      elim (at-one found Does old (reply.Refused why) new h) [
        | inl w ↦ never-told why reply.Skipped w.0 refl
        | inr w ↦ let left = does w.1 w.0 w.2 w.4 w.5 in
            (w.0, w.2, w.3, w.6, left.0, left.1, left.2)
      ]

  leaves-free : (asked : Command T) (number : ℕ) (Does : Publisher T → Service T → Reply T → Service T → Type 0) (old : State T)
      (why : Refusal) (new : State T)
      → ((one : Publisher T) (service after : Service T) → at number service.publishers ≡ Some one
      → Does one service (reply.Refused why) after
      → (after.loans ≡ loans_left asked service.loans) × KeepsPorts service after × KeepsMessages service after)
      → AtFree number Does old (reply.Refused why) new → Leaves (λ (other : Service T). is_some (publisher_in number other)) asked old new
  leaves-free asked number Does old why new does h =
      leaves-at asked (publisher_in number)
      (λ (publisher : Publisher T) (service : Service T) (told : Reply T) (after : Service T). MatchOption publisher.blocked
      (Does publisher service told after) (λ send. IsSkipped service told after)) old why new
      (λ one service after is did. elim
      (by-option one.blocked (Does one service (reply.Refused why) after) (λ send. IsSkipped service (reply.Refused why) after) did) [
        | inl w ↦ does one service after (publisher-stands number service one is) w.1
        | inr w ↦ never-told why reply.Skipped w.2.0 refl
      ]) h

  leaves-subscriber : (choices : Choices T) (asked : Command T) (buffer number : ℕ) (told : ConnectionFailure → Refusal)
      (Does : Subscriber → Service T → Reply T → Service T → Type 0) (old : State T) (why : Refusal) (new : State T)
      → ((service : Service T) → loans_left asked service.loans ≡ service.loans)
      → ((one : Subscriber) (service mid after : Service T) → Left service mid → at number mid.subscribers ≡ Some one
      → Does one mid (reply.Refused why) after → Left service after)
      → AtOne (subscriber_in number) (subscribing.UpdatesFirst choices buffer number told Does) old (reply.Refused why) new
      → Leaves (λ (other : Service T). is_some (subscriber_in number other)) asked old new
  leaves-subscriber choices asked buffer number told Does old why new same does h =
      leaves-at asked (subscriber_in number) (subscribing.UpdatesFirst choices buffer number told Does) old why new
      (λ one service after is did.
      let left : Left service after =
      left-attends choices buffer number told Does one service (reply.Refused why) after (subscriber-stands number service one is).0
      (λ then mid on found done. does then service mid after on found done) did in
      (left.0 ∙ sym (same service), left.1, left.2)) h

  -- a receive that is refused once connections are up to date only sweeps what expired
  left-receives : (number sample : ℕ) (one : Subscriber) (old mid : Service T) (why : Refusal) (new : Service T) → Left old mid
      → at number mid.subscribers ≡ Some one → Receives number sample one mid (reply.Refused why) new → Left old new
  left-receives number sample one old mid why new on found (None, is, (told, came)) =
      subst (Left old) (sym came) (
        on.0,
        ports-both old mid (with_subscriber number (record one { expired = lasting number mid one.expired }) mid) on.1 (
          refl,
          refl,
          refl,
          refl,
          refl,
          (λ n. refl),
          (λ n. changed-view subscriber_staying number n one
              (record one { expired = lasting number mid one.expired }) mid.subscribers found refl),
        ),
        on.2,
      )
  left-receives number sample one old mid why new on found (Some publisher, is, (message, values, first, same, told, came)) =
      never-told why (reply.Received sample values) told refl

  never-done : (why : Refusal) (after mid : Service T) → ◌≡◌ {A = Reply T} (reply.Refused why) reply.Done × (after ≡ mid) → ⊥
  never-done why after mid h = never-told why reply.Done h.0 refl

pub refused-ports-leave : {T : Type 0} (choices : Choices T) → RefusedPortsLeave choices
refused-ports-leave {T} choices types buffer (command.Send loan) old new why is off h =
    leaves-at (command.Send loan) (λ (service : Service T). at loan service.loans) (SendsLoan choices loan) old why new
    (λ one service after found did. sent one service after did) h
  where
    sent : (one : Loan T) (service after : Service T) → SendsLoan choices loan one service (reply.Refused why) after
        → (after.loans ≡ removed loan service.loans) × KeepsPorts service after × KeepsMessages service after
    sent one service after did =
        elim (by-option (at one.publisher service.publishers) (IsSkipped service (reply.Refused why) after)
        (λ publisher. MatchBool (is_written one && not (is_some publisher.blocked))
        (Sends choices one.publisher (sent_as one) publisher (record service { loans = removed loan service.loans }) (reply.Refused why)
        after)
        (IsSkipped service (reply.Refused why) after)) did) [
          | inl w ↦ never-told why reply.Skipped w.1.0 refl
          | inr w ↦ elim (by-bool (is_written one && not (is_some w.0.blocked))
              (Sends choices one.publisher (sent_as one) w.0 (record service { loans = removed loan service.loans }) (reply.Refused why)
              after)
              (IsSkipped service (reply.Refused why) after) w.2) [
                | inl k ↦ left-sends choices why off one.publisher (sent_as one) w.0
                    (record service { loans = removed loan service.loans }) after
                    w.1 k.1
                | inr k ↦ never-told why reply.Skipped k.1.0 refl
              ]
        ]
refused-ports-leave choices types buffer (command.Put publisher values) old new why is off h =
    leaves-free (command.Put publisher values) publisher (Puts choices publisher values) old why new
    (λ one service after found did. left-puts choices why off publisher values one service after found did) h
refused-ports-leave choices types buffer (command.Receive subscriber) old new why is off h =
    leaves-subscriber choices (command.Receive subscriber) buffer subscriber
    (λ failure. refusal.Receive (receive_error.ConnectionFailure failure)) (Receives subscriber (old.made.samples + 1)) old why new
    (λ service. refl)
    (λ one service mid after on found did. left-receives subscriber (old.made.samples + 1) one service mid why after on found did) h
refused-ports-leave {T} choices types buffer (command.Update (port.Publisher number)) old new why is off h =
    leaves-free (command.Update (port.Publisher number)) number
    (publishing.UpdatesFirst choices number refusal.Connection
    (λ (one : Publisher T) (service : Service T) (answered : Reply T) (after : Service T). (answered ≡ reply.Done) × (after ≡ service)))
    old why new
    (λ one service after found did. left-updates choices number refusal.Connection
    (λ (it : Publisher T) (mid : Service T) (answered : Reply T) (end : Service T). (answered ≡ reply.Done) × (end ≡ mid)) one service why
    after found (λ then mid done. never-done why after mid done) did) h
refused-ports-leave {T} choices types buffer (command.Update (port.Subscriber number)) old new why is off h =
    leaves-subscriber choices (command.Update (port.Subscriber number)) buffer number refusal.Connection
    (λ (one : Subscriber) (service : Service T) (answered : Reply T) (after : Service T). (answered ≡ reply.Done) × (after ≡ service))
    old why new (λ service. refl) (λ one service mid after on found done. absurd (never-done why after mid done)) h
refused-ports-leave {T} choices types buffer (command.Has subscriber) old new why is off h =
    leaves-subscriber choices (command.Has subscriber) buffer subscriber refusal.Connection
    (λ (one : Subscriber) (service : Service T) (answered : Reply T) (after : Service T).
    (answered ≡ reply.Has (has_samples subscriber one service)) × (after ≡ service))
    old why new (λ service. refl)
    (λ one service mid after on found done. never-told why (reply.Has (has_samples subscriber one mid)) done.0 refl) h
refused-ports-leave choices types buffer asked old new why is off h = absurd (true≢false (sym is))
