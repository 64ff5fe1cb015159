-- A blocked send, a receive and an update keep what a subscriber is due to get, and what is lost in one is lost for a cause.
use Rattle.std.proofs.Common.{◌≡◌, ◌+◌, ℕ, Bool, true, false, cond, ◌&&◌, List, [], ◌∷◌, ◌++◌, Option, None, Some, refl, sym, ap, subst}
use Rattle.std.proofs.Common.{inl, inr, ◌∙◌, append_assoc, append-nil}
use Rattle.std.proofs.lemmas.Bool.{cases_Bool, eqb-true}
use Rattle.std.specs.List.{AllByRecursion}
use Rattle.std.specs.Prelude.{⊤, ◌==◌, find, is_some, option_and_then, slice_get, MatchOption}
use Rattle.iox_machine.specs.Choices.{Choices}
use Rattle.iox_machine.specs.Mailbox.{Mailbox}
use Rattle.iox_machine.specs.Message.{Message, Sample}
use Rattle.iox_machine.specs.MessageLaws.{IsPartOf, begun_by, first_in, received_by, with_one}
use Rattle.iox_machine.specs.Ports.{publisher_in, subscriber_in}
use Rattle.iox_machine.specs.PublisherUpdate as publishing
use Rattle.iox_machine.specs.Receiving.{Receives, has_samples, lasting}
use Rattle.iox_machine.specs.Sending.{GoesOn}
use Rattle.iox_machine.specs.SequenceLaws.{has_message, still_brought}
use Rattle.iox_machine.specs.Service.{Publisher, Send, Service, Subscriber, mailbox, with_mailbox}
use Rattle.iox_machine.specs.State.{AtOne, State, counted, replaced}
use Rattle.iox_machine.specs.SubscriberUpdate as subscribing
use Rattle.iox_machine.specs.Table.{at, changed}
use Rattle.iox_machine.proofs.Cases.{both-true, never-some}
use Rattle.iox_machine.proofs.Causes.{Due, among-either, due-fewer, due-same, front-none, taken-due, way_in}
use Rattle.iox_machine.proofs.CauseSteps.{AreDue, Comes, HasDue, goes-on-due, has-one, is-passed, updates-due}
use Rattle.iox_machine.proofs.CauseUpdates.{DueOf}
use Rattle.iox_machine.proofs.Frames.{box-same, BySubscriber, soft-both, soft-set, soft-updates, subscriber-stands, waiting_in}
use Rattle.iox_machine.proofs.Losses.{Anything}
use Rattle.iox_machine.proofs.Moving.{at-one}
use Rattle.iox_machine.proofs.Order.{BetweenOf, IsUnder, MayCome}
use Rattle.iox_machine.proofs.OrderLaws.{one-found}
use Rattle.iox_machine.proofs.OrderPorts.{taken-elsewhere}
use Rattle.iox_machine.proofs.OrderSends.{first-fresh}
use Rattle.iox_machine.proofs.OrderSteps.{Alike, IsOrdered, alike-refused, alike-soft, between-found, noted}
use Rattle.iox_machine.proofs.Parts.{part-front}
use Rattle.iox_machine.proofs.Runs.{all-found}
use Rattle.iox_machine.proofs.Shorthands.{taken, with_publisher, with_subscriber}
use Rattle.iox_machine.proofs.Tables.{at-appended, at-changed}
use Rattle.iox_command.specs.DomainValues.declared.port_error.ReceiveError.TheVariants as receive_error
use Rattle.iox_command.specs.declared.command.Command.{Command}
use Rattle.iox_command.specs.declared.command.Command.TheVariants as command
use Rattle.iox_command.specs.declared.refusal.Refusal.TheVariants as refusal
use Rattle.iox_command.specs.declared.reply.Reply.{Reply}
use Rattle.iox_command.specs.declared.reply.Reply.TheVariants as reply
use Rattle.iox_machine.proofs.CauseCommands.{LostThen, alike-due, are-due-on, between-one, both-of, done-acted, done-quiet, drops-at}
use Rattle.iox_machine.proofs.CauseCommands.{due-on, passes-at, still-lost}

module _ {T : Type 0} (p s : ℕ) where
  alike-both : (one two three : Service T) → Alike p s one two → Alike p s two three → Alike p s one three
  alike-both one two three h k =
      (k.0 ∙ h.0, k.1 ∙ h.1, k.2 ∙ h.2, k.3 ∙ h.3, (k.4.0 ∙ h.4.0, λ is. k.4.1 (h.4.1 is)))

  module _ (D : Message T → Type 0) (sent received : List (Message T)) where
    -- ---- a send that was blocked

    module _ (choices : Choices T) (number nanoseconds : ℕ) (old : State T) (answer : Reply T) (new : State T)
        (ordered : IsOrdered p s (Anything p s) sent received old) where
      pub retry-own : (one : Publisher T) (send : Send T) (service after : Service T) → number ≡ p
          → find (λ (other : Service T). is_some (publisher_in number other)) old.services ≡ Some service
          → at p service.publishers ≡ Some one → one.blocked ≡ Some send
          → GoesOn choices number one (record send { retries = send.retries + 1; elapsed = nanoseconds }) service answer after
          → new ≡ record old {
            made = counted answer old.made;
            services = replaced (λ (other : Service T). is_some (publisher_in number other)) after old.services;
          }
          → DueOf p s D sent received one service
          → HasDue p s (LostThen p s D sent received (command.Retry number nanoseconds) old answer new) sent received after
      retry-own one send service after same first found waits did came due =
          let asked : Command T = command.Retry number nanoseconds in
          let has : Service T → Bool = λ (other : Service T). is_some (publisher_in number other) in
          let next : Send T = record send { retries = send.retries + 1; elapsed = nanoseconds } in
          let b : BetweenOf p s sent received old.made.subscribers one service =
          between-one p s D sent received asked old answer new has service after one ordered first found came in
          let u : IsUnder T s (MayCome s old.made.subscribers service.subscriber_list.places) sent received one.connected
          (service.mailboxes p s) send =
          subst (λ (o : Option (Send T)). MatchOption o ⊤ (IsUnder T s (MayCome s old.made.subscribers service.subscriber_list.places)
          sent received one.connected (service.mailboxes p s))) waits b.under in
          let brought : (x : Message T) → has_message (still_brought s (Some next)) x ≡ true
          → has_message (still_brought s one.blocked ++ with_one (begun_by p asked old answer) []) x ≡ true =
          λ x is. ap (λ (o : Option (Send T)). has_message (still_brought s o ++ []) x) waits
          ∙ (ap (λ (l : List (Message T)). has_message l x) (append-nil (still_brought s (Some send))) ∙ is) in
          let came_to : Comes p s (LostThen p s D sent received asked old answer new) sent received after =
          goes-on-due p s choices D (LostThen p s D sent received asked old answer new)
          (still-lost p s D sent received asked old answer new) sent received one one next
          service answer after found u.2.once (subst (λ (k : ℕ). GoesOn choices k one next service answer after) same did)
          (inl (drops-at p s D sent received asked old answer new has service after one ordered first found came refl send.message
          (still_brought s (Some next)) brought))
          (passes-at p s D sent received asked old answer new has service after one ordered first found came
          (still_brought s (Some next)) brought)
          (due-same p s D D (λ x lost. lost) sent received one.history one.connected one.blocked (Some next) (service.mailboxes p s)
          (service.mailboxes p s)
          (ap (λ (o : Option (Send T)). way_in p s o (service.mailboxes p s)) (sym waits)) due) in
          has-one p s (LostThen p s D sent received asked old answer new) sent received after came_to.0 came_to.1 came_to.2

      pub gives-own : (one : Publisher T) (send : Send T) (service after : Service T) → number ≡ p
          → find (λ (other : Service T). is_some (publisher_in number other)) old.services ≡ Some service
          → at p service.publishers ≡ Some one → one.blocked ≡ Some send
          → after ≡ with_publisher number (record one { blocked = None }) service
          → new ≡ record old {
            made = counted answer old.made;
            services = replaced (λ (other : Service T). is_some (publisher_in number other)) after old.services;
          }
          → DueOf p s D sent received one service
          → HasDue p s (LostThen p s D sent received (command.GiveUp number) old answer new) sent received after
      gives-own one send service after same first found waits is came due =
          let asked : Command T = command.GiveUp number in
          let has : Service T → Bool = λ (other : Service T). is_some (publisher_in number other) in
          let now : Publisher T = record one { blocked = None } in
          let boxes : after.mailboxes p s ≡ service.mailboxes p s = ap (λ (it : Service T). it.mailboxes p s) is in
          let there : at p after.publishers ≡ Some now =
          ap (λ (it : Service T). at p it.publishers) is
          ∙ (ap (λ (k : ℕ). at p (changed k now service.publishers)) same ∙ at-changed p now one service.publishers found) in
          has-one p s (LostThen p s D sent received asked old answer new) sent received after now there
          (due-fewer p s D (LostThen p s D sent received asked old answer new) (still-lost p s D sent received asked old answer new) sent
          received one.history one.connected one.blocked None (service.mailboxes p s) (after.mailboxes p s)
          (λ whole h. subst (λ (l : List (Message T)). IsPartOf (received ++ l) whole)
          (sym (way_now boxes))
          (part-front (received ++ waiting_in (service.mailboxes p s)) (still_brought s one.blocked) whole
          (subst (λ (l : List (Message T)). IsPartOf l whole)
          (sym (append_assoc received (waiting_in (service.mailboxes p s)) (still_brought s one.blocked))) h)))
          (λ none. way_now boxes ∙ front-none (waiting_in (service.mailboxes p s)) (still_brought s one.blocked) none)
          (λ x was off.
          let unwaited : has_message (waiting_in (service.mailboxes p s)) x ≡ false =
          sym (ap (λ (l : List (Message T)). has_message l x) (way_now boxes)) ∙ off in
          let brought : has_message (still_brought s one.blocked) x ≡ true =
          among-either x (waiting_in (service.mailboxes p s)) (still_brought s one.blocked) was unwaited in
          inr (inr (
            is-passed p s asked old answer new service after one now x
                (both-of p s D sent received asked old answer new has service after one ordered first found came now there)
                (ap (λ (l : List (Message T)). has_message l x) (append-nil (still_brought s one.blocked)) ∙ brought) off,
            inl (ap (λ (k : ℕ). command.GiveUp k) same),
          )))
          due)
        where
          way_now : after.mailboxes p s ≡ service.mailboxes p s
              → way_in p s None (after.mailboxes p s) ≡ waiting_in (service.mailboxes p s)
          way_now boxes =
              ap (λ (o : Option (Mailbox T)). waiting_in o ++ []) boxes ∙ append-nil (waiting_in (service.mailboxes p s))

    -- ---- a receive

    module _ (choices : Choices T) (buffer number : ℕ) (old : State T) (answer : Reply T) (new : State T)
        (ordered : IsOrdered p s (Anything p s) sent received old)
        (fresh : AllByRecursion (λ (other : Service T). at (old.made.samples + 1) other.samples ≡ None) old.services) where
      abbrev ReceiveLost : Message T → Type 0
      ReceiveLost = LostThen p s D sent received (command.Receive number) old answer new

      abbrev Receipt : Type 0
      Receipt = AreDue p s ReceiveLost sent (noted received (received_by p s (command.Receive number) answer new)) new

      unreceived : received_by p s (command.Receive number) answer new ≡ None → AreDue p s ReceiveLost sent received new → Receipt
      unreceived none it = subst (λ (o : Option (Message T)). AreDue p s ReceiveLost sent (noted received o) new) (sym none) it

      untaken : (b : Bool) → answer ≡ cond b (reply.Refused (refusal.Receive receive_error.ExceedsMaxBorrows)) reply.NothingWaits
          → received_by p s (command.Receive number) answer new ≡ None
      untaken true e = ap (λ (told : Reply T). received_by p s (command.Receive number) told new) e
      untaken false e = ap (λ (told : Reply T). received_by p s (command.Receive number) told new) e

      module _ (service : Service T) (one : Subscriber) (after : Service T)
          (first : find (λ (other : Service T). is_some (subscriber_in number other)) old.services ≡ Some service)
          (came : new ≡ record old {
            made = counted answer old.made;
            services = replaced (λ (other : Service T). is_some (subscriber_in number other)) after old.services;
          })
          (due : AreDue p s D sent received old) where
        alike-receipt : Alike p s service after → received_by p s (command.Receive number) answer new ≡ None → Receipt
        alike-receipt a none =
            unreceived none (done-quiet p s D ReceiveLost (still-lost p s D sent received (command.Receive number) old answer new) sent
            received (λ (other : Service T). is_some (subscriber_in number other)) service after old answer new first
            (λ has. alike-due p s D ReceiveLost (still-lost p s D sent received (command.Receive number) old answer new) sent received
            service after a has) came due)

        -- the message is one of the publisher for the subscriber
        takes-own : (swept : Service T) → BySubscriber service swept → (message : Message T) (samples : List (ℕ × Sample T))
            → slice_get (mailbox p s swept).waiting 0 ≡ Some message
            → after ≡ with_mailbox p s (taken (mailbox p s swept)) (record swept { samples = samples })
            → received_by p s (command.Receive number) answer new ≡ Some message → Receipt
        takes-own swept soft message samples waits is told =
            elim (one-found p s (Anything p s) old sent received (λ (other : Service T). is_some (subscriber_in number other)) service
            old.services first ordered.0) [
              | inl lacks ↦ never-some message (sym (ap (λ (l : List (Message T)). slice_get l 0) ((soft.6 p s).0 ∙ lacks.1)) ∙ waits)
              | inr fits ↦ own fits.0.0.0 fits.0.0.1
            ]
          where
            own : (it : Publisher T) → at p service.publishers ≡ Some it → Receipt
            own it found =
                let has : Service T → Bool = λ (other : Service T). is_some (subscriber_in number other) in
                let there : at p after.publishers ≡ Some it =
                ap (λ (end : Service T). at p end.publishers) is ∙ (ap (at p) soft.3 ∙ found) in
                let box : after.mailboxes p s ≡ Some (taken (mailbox p s swept)) =
                ap (λ (end : Service T). end.mailboxes p s) is
                ∙ box-same p s (taken (mailbox p s swept)) (record swept { samples = samples }) in
                let then_due : DueOf p s D sent received it swept =
                due-same p s D D (λ x lost. lost) sent received it.history it.connected it.blocked it.blocked (service.mailboxes p s)
                (swept.mailboxes p s) (ap (λ (l : List (Message T)). l ++ still_brought s it.blocked) (soft.6 p s).0)
                (all-found (HasDue p s D sent received) has old.services service first due.1 it found) in
                subst (λ (o : Option (Message T)). AreDue p s ReceiveLost sent (noted received o) new) (sym told)
                (done-acted p s D sent received (command.Receive number) old answer new has service after it ordered first found came
                ReceiveLost sent (received ++ message ∷ []) (
                  it,
                  there,
                  subst (λ (o : Option (Mailbox T)). Due p s ReceiveLost sent (received ++ message ∷ []) it.history it.connected it.blocked
                      o) (sym box)
                      (taken-due p s D ReceiveLost (still-lost p s D sent received (command.Receive number) old answer new) sent received
                      it.history it.connected it.blocked (swept.mailboxes p s) message waits then_due),
                ))

        receives-due : (now : Subscriber) (mid : Service T) → BySubscriber service mid → at number mid.subscribers ≡ Some now
            → Receives number (old.made.samples + 1) now mid answer after → Receipt
        receives-due now mid soft found (None, gives, (told, is_so)) =
            let later : Subscriber = record now { expired = lasting number mid now.expired } in
            let swept : Service T = with_subscriber number later mid in
            alike-receipt
            (subst (λ (it : Service T). Alike p s service it) (sym is_so)
            (alike-soft p s service swept (soft-both service mid swept soft (soft-set number now later mid found refl))))
            (untaken (has_samples number now mid) told)
        receives-due now mid soft found (Some publisher, gives, took) =
            let later : Subscriber = record now { expired = lasting number mid now.expired } in
            let swept : Service T = with_subscriber number later mid in
            let softly : BySubscriber service swept = soft-both service mid swept soft (soft-set number now later mid found refl) in
            let it : Sample T = record { publisher = publisher; subscriber = number; message = took.0 } in
            let unknown : at (old.made.samples + 1) swept.samples ≡ None =
            ap (at (old.made.samples + 1)) softly.4
            ∙ all-found (λ (other : Service T). at (old.made.samples + 1) other.samples ≡ None)
            (λ (other : Service T). is_some (subscriber_in number other)) old.services service first fresh in
            let there : at (old.made.samples + 1) after.samples ≡ Some it =
            ap (λ (end : Service T). at (old.made.samples + 1) end.samples) took.5 ∙ at-appended (old.made.samples + 1) it swept.samples
            unknown in
            let seen : first_in (λ (other : Service T). at (old.made.samples + 1) other.samples) new ≡ Some it =
            ap (λ (state : State T). first_in (λ (other : Service T). at (old.made.samples + 1) other.samples) state) came
            ∙ (ap (option_and_then (λ (other : Service T). at (old.made.samples + 1) other.samples))
            (first-fresh (old.made.samples + 1) (λ (other : Service T). is_some (subscriber_in number other)) service after it
            old.services fresh first there)
            ∙ there) in
            let told : received_by p s (command.Receive number) answer new
            ≡ cond ((number == s) && (publisher == p)) (Some took.0) None =
            ap (λ (answered : Reply T). received_by p s (command.Receive number) answered new) took.4
            ∙ ap (λ (o : Option (Sample T)). option_and_then
            (λ (sample : Sample T). cond ((number == s) && (sample.publisher == p)) (Some sample.message) None) o) seen in
            takes swept softly publisher took.0 took.2 (swept.samples ++ (old.made.samples + 1, it) ∷ []) took.5 told
          where
            takes : (swept : Service T) → BySubscriber service swept → (publisher : ℕ) (message : Message T)
                → slice_get (mailbox publisher number swept).waiting 0 ≡ Some message → (samples : List (ℕ × Sample T))
                → after ≡ with_mailbox publisher number (taken (mailbox publisher number swept)) (record swept { samples = samples })
                → received_by p s (command.Receive number) answer new
                ≡ cond ((number == s) && (publisher == p)) (Some message) None → Receipt
            takes swept softly publisher message waits samples is told = elim (cases_Bool ((number == s) && (publisher == p))) [
              | inr other ↦ alike-receipt
                  (alike-both service swept after (alike-soft p s service swept softly)
                  (subst (λ (end : Service T). Alike p s swept end) (sym is)
                  (taken-elsewhere p s (Anything p s) publisher number swept samples other)))
                  (told ∙ ap (λ (b : Bool). cond b (Some message) None) other)
              | inl both ↦
                  let same : (number ≡ s) × (publisher ≡ p) = (
                    eqb-true number s (both-true (number == s) (publisher == p) both).0,
                    eqb-true publisher p (both-true (number == s) (publisher == p) both).1,
                  ) in
                  takes-own swept softly message samples
                  (subst (λ (n : ℕ). slice_get (mailbox p n swept).waiting 0 ≡ Some message) same.0
                  (subst (λ (q : ℕ). slice_get (mailbox q number swept).waiting 0 ≡ Some message) same.1 waits))
                  (subst (λ (n : ℕ). after ≡ with_mailbox p n (taken (mailbox p n swept)) (record swept { samples = samples })) same.0
                  (subst (λ (q : ℕ). after ≡ with_mailbox q number (taken (mailbox q number swept))
                  (record swept { samples = samples })) same.1 is))
                  (told ∙ ap (λ (b : Bool). cond b (Some message) None) both)
            ]

      pub receive-due : AtOne (subscriber_in number)
          (subscribing.UpdatesFirst choices buffer number (λ failure. refusal.Receive (receive_error.ConnectionFailure failure))
          (Receives number (old.made.samples + 1))) old answer new
          → AreDue p s D sent received old → Receipt
      receive-due h due =
          elim (at-one (subscriber_in number)
          (subscribing.UpdatesFirst choices buffer number (λ failure. refusal.Receive (receive_error.ConnectionFailure failure))
          (Receives number (old.made.samples + 1))) old answer new h) [
            | inl skipped ↦ unreceived (ap (λ (told : Reply T). received_by p s (command.Receive number) told new) skipped.0)
                (are-due-on p s D ReceiveLost (still-lost p s D sent received (command.Receive number) old answer new) sent received old new
                (ap (λ (state : State T). state.services) skipped.1) due)
            | inr w ↦ soft-updates choices Receipt buffer number
                (λ failure. refusal.Receive (receive_error.ConnectionFailure failure)) (Receives number (old.made.samples + 1)) w.1 w.0
                answer w.2 (subscriber-stands number w.0 w.1 w.4).0
                (λ now mid soft found same h. receives-due w.0 w.1 w.2 w.3 w.6 due now mid soft found h)
                (λ why mid soft refused. alike-receipt w.0 w.1 w.2 w.3 w.6 due
                (alike-refused p s why w.0 mid answer w.2 (alike-soft p s w.0 mid soft) refused)
                (ap (λ (told : Reply T). received_by p s (command.Receive number) told new) refused.0)) w.5
          ]

    -- ---- an update of the publisher

    pub update-own : (choices : Choices T) (E : Message T → Type 0) (on : (x : Message T) → D x → E x) (number : ℕ) (old : State T)
        (answer : Reply T) → IsOrdered p s (Anything p s) sent received old → (has : Service T → Bool) (one : Publisher T)
        (service after : Service T) → number ≡ p → find has old.services ≡ Some service
        → at p service.publishers ≡ Some one → one.blocked ≡ None
        → publishing.UpdatesFirst choices number refusal.Connection
        (λ (it : Publisher T) (mid : Service T) (answered : Reply T) (end : Service T). (answered ≡ reply.Done) × (end ≡ mid)) one service
        answer after
        → DueOf p s D sent received one service → HasDue p s E sent received after
    update-own choices E on number old answer ordered has one service after same first found free did due =
        due-on p s D E on sent received after
        (updates-due p s choices D E on (HasDue p s D sent received after) sent received old.made.subscribers refusal.Connection
        (λ (it : Publisher T) (mid : Service T) (answered : Reply T) (end : Service T). (answered ≡ reply.Done) × (end ≡ mid)) one service
        answer after found free between due
        (λ it mid there unblocked now now_due kept last done. subst (λ (end : Service T). HasDue p s D sent received end) (sym done.1)
        (has-one p s D sent received mid it there now_due))
        (λ failure mid comes refused. subst (λ (end : Service T). HasDue p s D sent received end) (sym refused.1)
        (has-one p s D sent received mid comes.0 comes.1 comes.2))
        (subst (λ (k : ℕ). publishing.UpdatesFirst choices k refusal.Connection
        (λ (it : Publisher T) (mid : Service T) (answered : Reply T) (end : Service T). (answered ≡ reply.Done) × (end ≡ mid)) one service
        answer after) same did))
      where
        between : BetweenOf p s sent received old.made.subscribers one service
        between = elim (one-found p s (Anything p s) old sent received has service old.services first ordered.0) [
          | inl lacks ↦ never-some one (sym lacks.0 ∙ found)
          | inr fits ↦ between-found p s sent received old.made.subscribers service one found fits.0.0
        ]
