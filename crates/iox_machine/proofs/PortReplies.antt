-- How calls of ports are answered, and what those that are done at once change.
use Rattle.std.proofs.Common.{◌≡◌, ◌⊎◌, ◌-◌, ◌^◌, ℕ, Bool, true, false, cond, not, ◌&&◌, List, [], ◌∷◌, Option, None, Some, Err, refl}
use Rattle.std.proofs.Common.{sym, ap, subst, inl, inr, ◌∙◌, true≢false}
use Rattle.std.proofs.lemmas.Bool.{eq-eqb, eqb-true}
use Rattle.std.specs.Prelude.{◌==◌, filter, find, is_some, map, nat_lt, option_map, set, slice_get, unwrap_or, zip, length, MatchBool}
use Rattle.std.specs.Prelude.{MatchOption}
use Rattle.iox_machine.proofs.Attending.{Attends, attended-state, attends-first}
use Rattle.iox_machine.proofs.Cases.{both-true, by-bool, by-option}
use Rattle.iox_machine.proofs.Delivering.{Outcomes, by-outcome, keeping, sending}
use Rattle.iox_machine.proofs.Failed.{first-failure}
use Rattle.iox_machine.proofs.Frames.{publisher-stands}
use Rattle.iox_machine.proofs.Lent.{left-by}
use Rattle.iox_machine.proofs.Moving.{at-one}
use Rattle.iox_machine.proofs.Order.{follows-publishers}
use Rattle.iox_machine.proofs.Shorthands.{IsRefused, IsSkipped, is_used_up, left, with_publisher, with_subscriber}
use Rattle.iox_machine.proofs.Tables.{at-changed, at-removed-other}
use Rattle.iox_machine.proofs.Through.{keeps-ports}
use Rattle.iox_machine.specs.Choices.{Choices}
use Rattle.iox_machine.specs.DeliveredLaws.{is_going}
use Rattle.iox_machine.specs.FailedLaws.{IsFirstFailure}
use Rattle.iox_machine.specs.Mailbox.{Mailbox}
use Rattle.iox_machine.specs.Message.{Loan, Message, Sample}
use Rattle.iox_machine.specs.OnceLaws.{is_skipped}
use Rattle.iox_machine.specs.PortList.{PortList}
use Rattle.iox_machine.specs.PortReplyLaws.{DoneUnlessSkipped, DropsEndLoans, IsRefusedOrGoes, IsReturned, IsWithout}
use Rattle.iox_machine.specs.PortReplyLaws.{LeavesClosePorts, LooksAnswerAsUpdates, ReleasesEndSamples, SendsAreRefusedSo}
use Rattle.iox_machine.specs.Ports.{Puts, Releases, SendsLoan, Writes, publisher_in, subscriber_in}
use Rattle.iox_machine.specs.PublisherUpdate as publishing
use Rattle.iox_machine.specs.Receiving.{has_samples}
use Rattle.iox_machine.specs.RefusalLaws.{KeepsPorts}
use Rattle.iox_machine.specs.Run.{Step}
use Rattle.iox_machine.specs.RunLaws.{is_written, sent_as}
use Rattle.iox_machine.specs.Sending.{Begins, GoesOn, Sends}
use Rattle.iox_machine.specs.Service.{Publisher, Send, Service, Subscriber, mailbox, with_mailbox}
use Rattle.iox_machine.specs.State.{AtOne, State, counted, replaced}
use Rattle.iox_machine.specs.SubscriberUpdate as subscribing
use Rattle.iox_machine.specs.Table.{at, changed, removed}
use Rattle.iox_command.specs.DomainValues.declared.connection_failure.ConnectionFailure.{ConnectionFailure}
use Rattle.iox_command.specs.DomainValues.declared.port_error.SendError.TheVariants as error
use Rattle.iox_command.specs.declared.command.Command.TheVariants as command
use Rattle.iox_command.specs.declared.port.PortNumber.{PortNumber}
use Rattle.iox_command.specs.declared.port.PortNumber.TheVariants as port
use Rattle.iox_command.specs.declared.refusal.Refusal.TheVariants as refusal
use Rattle.iox_command.specs.declared.reply.Reply.{Reply}
use Rattle.iox_command.specs.declared.reply.Reply.TheVariants as reply

-- ---- tables

module _ {V : Type 0} (number : ℕ) where
  none-left : (table : List (ℕ × V)) → at number (removed number table) ≡ None
  none-left [] = refl
  none-left (entry ∷ table) = here (entry.0 == number) refl (none-left table)
    where
      here : (b : Bool) → (entry.0 == number) ≡ b → at number (removed number table) ≡ None
          → at number (cond (not b) (entry ∷ removed number table) (removed number table)) ≡ None
      here true is on = on
      here false is on =
          ap (λ (c : Bool). option_map (λ (it : ℕ × V). it.1) (cond c (Some entry)
          (find (λ (it : ℕ × V). it.0 == number) (removed number table)))) is ∙ on

  is-without : (table : List (ℕ × V)) → IsWithout number table (removed number table)
  is-without table = (none-left table, (λ other off. at-removed-other number other table off))

-- ---- sequence numbers

used-up : (last : Option ℕ) → is_used_up last ≡ true → last ≡ Some (2 ^ 64 - 1)
used-up None e = absurd (true≢false (sym e))
used-up (Some number) e = ap (λ (n : ℕ). Some n) (eqb-true number (2 ^ 64 - 1) e)

not-used-up : (last : Option ℕ) → is_used_up last ≡ false → last ≡ Some (2 ^ 64 - 1) → ⊥
not-used-up last off is = true≢false (sym (ap is_used_up is ∙ eq-eqb (2 ^ 64 - 1) (2 ^ 64 - 1) refl) ∙ off)

module _ {T : Type 0} where
  -- ---- what is carried out

  -- A command that isn't skipped did something at the first service that has what it names.
  abbrev Did : {V : Type 0} → (Service T → Option V) → (V → Service T → Reply T → Service T → Type 0) → State T → Reply T → State T
      → Type 0
  Did {V} found Does old answer new =
      (service : Service T) × (one : V) × (after : Service T)
      × (find (λ (other : Service T). is_some (found other)) old.services ≡ Some service)
      × (found service ≡ Some one) × Does one service answer after
      × (new ≡ record old {
        made = counted answer old.made;
        services = replaced (λ (other : Service T). is_some (found other)) after old.services;
      })

  never-skipped : {A : Type 0} (answer : Reply T) → answer ≡ reply.Skipped → is_skipped answer ≡ false → A
  never-skipped answer is unskipped = absurd (true≢false (sym (ap is_skipped is) ∙ unskipped))

  done-at : {V : Type 0} (found : Service T → Option V) (Does : V → Service T → Reply T → Service T → Type 0) (old : State T)
      (answer : Reply T) (new : State T) → is_skipped answer ≡ false → AtOne found Does old answer new → Did found Does old answer new
  done-at found Does old answer new unskipped h =
      elim (at-one found Does old answer new h) [
        | inl w ↦ never-skipped answer w.0 unskipped
        | inr w ↦ w
      ]

  -- what a command does at a publisher of which no send is blocked
  abbrev AtReady : (Publisher T → Service T → Reply T → Service T → Type 0) → Publisher T → Service T → Reply T → Service T → Type 0
  AtReady Does one service answer after = MatchOption one.blocked (Does one service answer after) (λ send. IsSkipped service answer after)

  ready : (Does : Publisher T → Service T → Reply T → Service T → Type 0) (one : Publisher T) (service : Service T) (answer : Reply T)
      (after : Service T) → is_skipped answer ≡ false → AtReady Does one service answer after → Does one service answer after
  ready Does one service answer after unskipped h =
      elim (by-option one.blocked (Does one service answer after) (λ send. IsSkipped service answer after) h) [
        | inl k ↦ k.1
        | inr k ↦ never-skipped answer k.2.0 unskipped
      ]

  -- what a drop, and the leave of a port do
  abbrev Drops : ℕ → Loan T → Service T → Reply T → Service T → Type 0
  Drops loan one service answer after = (answer ≡ reply.Done) × (after ≡ record service { loans = removed loan service.loans })

  abbrev LeavesAs : ℕ → Publisher T → Service T → Reply T → Service T → Type 0
  LeavesAs number one service answer after =
      (answer ≡ reply.Done)
      × (after ≡ with_publisher number (record one { stands = false })
      (record service { publisher_list = left number service.publisher_list }))

  abbrev SubscriberLeaves : ℕ → Subscriber → Service T → Reply T → Service T → Type 0
  SubscriberLeaves number one service answer after =
      (answer ≡ reply.Done)
      × (after ≡ with_subscriber number (record one { stands = false })
      (record service { subscriber_list = left number service.subscriber_list }))

  writes-done : (loan : ℕ) (one : Loan T) (fit : Bool) (values : List (Option T)) (service : Service T) (answer : Reply T)
      (after : Service T) → is_skipped answer ≡ false → Writes loan one fit values service answer after → answer ≡ reply.Done
  writes-done loan one fit values service answer after unskipped h =
      elim (by-bool fit ((answer ≡ reply.Done) × (after ≡ record service {
        loans = changed loan (record one { values = values }) service.loans;
      })) (IsSkipped service answer after) h) [
        | inl k ↦ k.1.0
        | inr k ↦ never-skipped answer k.1.0 unskipped
      ]

  returned : (one : Sample T) (old new : Service T)
      → new.mailboxes ≡ (with_mailbox one.publisher one.subscriber (record (mailbox one.publisher one.subscriber old) {
        borrowed = filter (λ (message : Message T). not (message.number == one.message.number))
            (mailbox one.publisher one.subscriber old).borrowed;
      }) old).mailboxes
      → IsReturned one old new
  returned one old new came p s =
      ap (λ (boxes : ℕ → ℕ → Option (Mailbox T)). unwrap_or (boxes p s) (record { limit = 0; waiting = []; borrowed = [] })) came
      ∙ here ((p == one.publisher) && (s == one.subscriber)) refl
    where
      without : Mailbox T → Mailbox T
      without box = record box { borrowed = filter (λ (message : Message T). not (message.number == one.message.number)) box.borrowed }

      here : (b : Bool) → ((p == one.publisher) && (s == one.subscriber)) ≡ b
          → unwrap_or (cond b (Some (without (mailbox one.publisher one.subscriber old))) (old.mailboxes p s))
          (record { limit = 0; waiting = []; borrowed = [] })
          ≡ cond b (without (mailbox p s old)) (mailbox p s old)
      here true is =
          let both = both-true (p == one.publisher) (s == one.subscriber) is in
          ap (λ (n : ℕ). without (mailbox n one.subscriber old)) (sym (eqb-true p one.publisher both.0))
          ∙ ap (λ (n : ℕ). without (mailbox p n old)) (sym (eqb-true s one.subscriber both.1))
      here false is = refl

  -- ---- a send

  goes : (choices : Choices T) (number : ℕ) (keeps : Publisher T) (send : Send T) (old : Service T) (answer : Reply T) (new : Service T)
      → GoesOn choices number keeps send old answer new → is_going answer ≡ true
  goes choices number keeps send old answer new (after, mid, went, told, came) =
      ap is_going told ∙ here (is_some (slice_get after.left 0)) after.fails
    where
      here : (waits fails : Bool)
          → is_going {T = T} (cond waits reply.Blocked (cond fails (reply.Refused (refusal.Send error.UnableToDeliver))
          (reply.Delivered after.delivered))) ≡ true
      here true fails = refl
      here false true = refl
      here false false = refl

  module _ (choices : Choices T) (number : ℕ) where
    sends-so : (message : Message T) (one : Publisher T) (old : Service T) (answer : Reply T) (new : Service T)
        → at number old.publishers ≡ Some one → Sends choices number message one old answer new
        → IsRefusedOrGoes choices number one answer new
    sends-so message one old answer new found h = stood one.stands (is_used_up one.last_sequence) refl refl h
      where
        Updates : Type 0
        Updates =
            publishing.UpdatesFirst choices number (λ failure. refusal.Send (error.ConnectionError failure))
            (Begins choices number message) one old answer new

        Fails : Type 0
        Fails =
            (failure : ConnectionFailure) × (now : Publisher T) × (at number new.publishers ≡ Some now)
            × (now.seen ≡ new.subscriber_list.changes)
            × IsFirstFailure (choices.publisher_acts number one.degradation) (zip new.subscriber_list.places now.connected) failure
            × (answer ≡ reply.Refused (refusal.Send (error.ConnectionError failure)))

        fails : (after : Publisher T) (mid : Service T) → publishing.Follows number one old after mid → (failure : ConnectionFailure)
            → new.subscriber_list ≡ old.subscriber_list → at number new.publishers ≡ Some after
            → publishing.UpdateAnswers (choices.publisher_acts number one.degradation) (zip old.subscriber_list.places after.connected)
            (Err failure)
            → answer ≡ reply.Refused (refusal.Send (error.ConnectionError failure)) → Fails ⊎ (is_going answer ≡ true)
        fails after mid came failure lists known answers told =
            inl (
              failure,
              after,
              known,
              ap (λ (it : Publisher T). it.seen) came.2 ∙ sym (ap (λ (l : PortList). l.changes) lists),
              subst
                  (λ (l : PortList). IsFirstFailure (choices.publisher_acts number one.degradation) (zip l.places after.connected) failure)
                  (sym lists)
                  (first-failure (choices.publisher_acts number one.degradation) (zip old.subscriber_list.places after.connected) failure
                  answers),
              told,
            )

        followed : (after : Publisher T) (mid : Service T) → publishing.Follows number one old after mid
            → Outcomes (choices.publisher_acts number one.degradation) (zip old.subscriber_list.places after.connected)
            (λ done. Begins choices number message after mid answer new)
            (λ failure. IsRefused (refusal.Send (error.ConnectionError failure)) mid answer new)
            → Fails ⊎ (is_going answer ≡ true)
        followed after mid came told =
            let ports : KeepsPorts old mid = keeps-ports number one old after mid found came in
            let known : at number mid.publishers ≡ Some after = follows-publishers number 0 one old after mid found came in
            elim (by-outcome (choices.publisher_acts number one.degradation) (zip old.subscriber_list.places after.connected)
            (λ done. Begins choices number message after mid answer new)
            (λ failure. IsRefused (refusal.Send (error.ConnectionError failure)) mid answer new) told) [
              | inl r ↦ inr (goes choices number (keeping message after mid) (sending message after) mid answer new r.2)
              | inr r ↦ fails after mid came r.0 (ap (λ (end : Service T). end.subscriber_list) r.2.1 ∙ ports.3)
                  (ap (λ (end : Service T). at number end.publishers) r.2.1 ∙ known) r.1 r.2.0
            ]

        updates : Updates → Fails ⊎ (is_going answer ≡ true)
        updates w =
            elim (by-bool (one.seen == old.subscriber_list.changes) (Begins choices number message one old answer new)
            ((after : Publisher T) × (mid : Service T) × publishing.Follows number one old after mid
            × Outcomes (choices.publisher_acts number one.degradation) (zip old.subscriber_list.places after.connected)
            (λ done. Begins choices number message after mid answer new)
            (λ failure. IsRefused (refusal.Send (error.ConnectionError failure)) mid answer new)) w) [
              | inl k ↦ inr (goes choices number (keeping message one old) (sending message one) old answer new k.1)
              | inr k ↦ followed k.1.0 k.1.1 k.1.2 k.1.3
            ]

        stood : (stands used : Bool) → one.stands ≡ stands → is_used_up one.last_sequence ≡ used
            → MatchBool stands (MatchBool used (IsRefused (refusal.Send error.InternalError) old answer new) Updates)
            (IsRefused (refusal.Send error.ConnectionBrokenSinceSenderNoLongerExists) old answer new)
            → IsRefusedOrGoes choices number one answer new
        stood false used s u did = inl (s, did.0)
        stood true true s u did = inr (inl (s, used-up one.last_sequence u, did.0))
        stood true false s u did = inr (inr (s, not-used-up one.last_sequence u, updates did))

-- ---- the laws

pub done-unless-skipped : {T : Type 0} (choices : Choices T) → DoneUnlessSkipped choices
done-unless-skipped {T} choices types buffer (command.Set loan place value) old answer new is unskipped h =
    let did = done-at (λ (service : Service T). at loan service.loans)
    (λ (one : Loan T). Writes loan one (is_written one && nat_lt place (length one.values)) (set one.values place (Some value))) old answer
    new unskipped h in
    writes-done loan did.1 (is_written did.1 && nat_lt place (length did.1.values)) (set did.1.values place (Some value)) did.0 answer did.2
    unskipped did.5
done-unless-skipped {T} choices types buffer (command.Fill loan values) old answer new is unskipped h =
    let did = done-at (λ (service : Service T). at loan service.loans)
    (λ (one : Loan T). Writes loan one (length values == length one.values) (map Some values)) old answer new unskipped h in
    writes-done loan did.1 (length values == length did.1.values) (map Some values) did.0 answer did.2 unskipped did.5
done-unless-skipped {T} choices types buffer (command.Drop loan) old answer new is unskipped h =
    (done-at (λ (service : Service T). at loan service.loans) (Drops loan) old answer new unskipped h).5.0
done-unless-skipped {T} choices types buffer (command.Release sample) old answer new is unskipped h =
    (done-at (λ (service : Service T). at sample service.samples) (Releases sample) old answer new unskipped h).5.0
done-unless-skipped {T} choices types buffer (command.Leave (port.Publisher number)) old answer new is unskipped h =
    let did = done-at (publisher_in number) (AtReady (LeavesAs number)) old answer new unskipped h in
    (ready (LeavesAs number) did.1 did.0 answer did.2 unskipped did.5).0
done-unless-skipped {T} choices types buffer (command.Leave (port.Subscriber number)) old answer new is unskipped h =
    (done-at (subscriber_in number) (SubscriberLeaves number) old answer new unskipped h).5.0
done-unless-skipped choices types buffer other old answer new is unskipped h = absurd (true≢false (sym is))

pub drops-end-loans : {T : Type 0} (choices : Choices T) → DropsEndLoans choices
drops-end-loans {T} choices types buffer loan old new h =
    let did = done-at (λ (service : Service T). at loan service.loans) (Drops loan) old reply.Done new refl h in
    let came : did.2 ≡ record did.0 { loans = removed loan did.0.loans } = did.5.1 in (
      did.0,
      did.2,
      did.3,
      did.6,
      subst (λ (table : List (ℕ × Loan T)). IsWithout loan did.0.loans table) (sym (ap (λ (end : Service T). end.loans) came))
          (is-without loan did.0.loans),
      came ∙ ap (λ (table : List (ℕ × Loan T)). record did.0 { loans = table }) (sym (ap (λ (end : Service T). end.loans) came)),
    )

pub releases-end-samples : {T : Type 0} (choices : Choices T) → ReleasesEndSamples choices
releases-end-samples {T} choices types buffer sample old new h =
    let did = done-at (λ (service : Service T). at sample service.samples) (Releases sample) old reply.Done new refl h in
    released did.0 did.1 did.2 did.3 did.4 did.5.1 did.6
  where
    has : Service T → Bool
    has other = is_some (at sample other.samples)

    released : (service : Service T) (one : Sample T) (after : Service T) → find has old.services ≡ Some service
        → at sample service.samples ≡ Some one
        → after ≡ with_mailbox one.publisher one.subscriber (record (mailbox one.publisher one.subscriber service) {
          borrowed = filter (λ (message : Message T). not (message.number == one.message.number))
              (mailbox one.publisher one.subscriber service).borrowed;
        }) (record service { samples = removed sample service.samples })
        → new ≡ record old { services = replaced has after old.services }
        → (it : Service T) × (end : Service T) × (what : Sample T) × (find has old.services ≡ Some it)
        × (new ≡ record old { services = replaced has end old.services }) × (at sample it.samples ≡ Some what)
        × IsWithout sample it.samples end.samples × IsReturned what it end
        × (end ≡ record it { mailboxes = end.mailboxes; samples = end.samples })
    released service one after first there came replaces = (
      service,
      after,
      one,
      first,
      replaces,
      there,
      subst (λ (table : List (ℕ × Sample T)). IsWithout sample service.samples table) (sym (ap (λ (end : Service T). end.samples) came))
          (is-without sample service.samples),
      returned one service after (ap (λ (end : Service T). end.mailboxes) came),
      came ∙ (λ i. record service {
        mailboxes = sym (ap (λ (end : Service T). end.mailboxes) came) i;
        samples = sym (ap (λ (end : Service T). end.samples) came) i;
      }),
    )

pub leaves-close-ports : {T : Type 0} (choices : Choices T) → LeavesClosePorts choices
leaves-close-ports {T} choices types buffer number old new = (
  (λ h.
      let did = done-at (publisher_in number) (AtReady (LeavesAs number)) old reply.Done new refl h in
      let came : did.2 ≡ with_publisher number (record did.1 { stands = false })
      (record did.0 { publisher_list = left number did.0.publisher_list }) =
      (ready (LeavesAs number) did.1 did.0 reply.Done did.2 refl did.5).1 in
      let list : did.2.publisher_list ≡ left number did.0.publisher_list = ap (λ (end : Service T). end.publisher_list) came in (
        did.0,
        did.2,
        did.1,
        did.3,
        did.6,
        did.4,
        (ap (λ (l : PortList). l.changes) list, ap (λ (l : PortList). l.places) list),
        came ∙ ap (λ (l : PortList). with_publisher number (record did.1 { stands = false }) (record did.0 { publisher_list = l }))
            (sym list),
      )),
  (λ h.
      let did = done-at (subscriber_in number) (SubscriberLeaves number) old reply.Done new refl h in
      let came : did.2 ≡ with_subscriber number (record did.1 { stands = false })
      (record did.0 { subscriber_list = left number did.0.subscriber_list }) = did.5.1 in
      let list : did.2.subscriber_list ≡ left number did.0.subscriber_list = ap (λ (end : Service T). end.subscriber_list) came in (
        did.0,
        did.2,
        did.1,
        did.3,
        did.6,
        did.4,
        (ap (λ (l : PortList). l.changes) list, ap (λ (l : PortList). l.places) list),
        came ∙ ap (λ (l : PortList). with_subscriber number (record did.1 { stands = false }) (record did.0 { subscriber_list = l }))
            (sym list),
      )),
)

pub looks-answer-as-updates : {T : Type 0} (choices : Choices T) → LooksAnswerAsUpdates choices
looks-answer-as-updates {T} choices types buffer old answer new unskipped = (updates, looks)
  where
    updates : (which : PortNumber) → Step types choices buffer (command.Update which) old answer new
        → (answer ≡ reply.Done) ⊎ ((failure : ConnectionFailure) × (answer ≡ reply.Refused (refusal.Connection failure)))
    updates (port.Publisher number) h =
        let did = done-at (publisher_in number) (AtReady (publishing.UpdatesFirst choices number refusal.Connection
        (λ (one : Publisher T) (service : Service T) (told : Reply T) (after : Service T). (told ≡ reply.Done) × (after ≡ service)))) old
        answer new unskipped h in
        here did.1 did.0 did.2 (ready (publishing.UpdatesFirst choices number refusal.Connection
        (λ (one : Publisher T) (service : Service T) (told : Reply T) (after : Service T). (told ≡ reply.Done) × (after ≡ service)))
        did.1 did.0 answer did.2 unskipped did.5)
      where
        here : (one : Publisher T) (service after : Service T)
            → publishing.UpdatesFirst choices number refusal.Connection
            (λ (it : Publisher T) (mid : Service T) (told : Reply T) (end : Service T). (told ≡ reply.Done) × (end ≡ mid)) one service
            answer after
            → (answer ≡ reply.Done) ⊎ ((failure : ConnectionFailure) × (answer ≡ reply.Refused (refusal.Connection failure)))
        here one service after w =
            elim (by-bool (one.seen == service.subscriber_list.changes) ((answer ≡ reply.Done) × (after ≡ service))
            ((now : Publisher T) × (mid : Service T) × publishing.Follows number one service now mid
            × Outcomes (choices.publisher_acts number one.degradation) (zip service.subscriber_list.places now.connected)
            (λ done. (answer ≡ reply.Done) × (after ≡ mid)) (λ failure. IsRefused (refusal.Connection failure) mid answer after)) w) [
              | inl k ↦ inl k.1.0
              | inr k ↦ elim (by-outcome (choices.publisher_acts number one.degradation)
                  (zip service.subscriber_list.places k.1.0.connected)
                  (λ done. (answer ≡ reply.Done) × (after ≡ k.1.1)) (λ failure. IsRefused (refusal.Connection failure) k.1.1 answer after)
                  k.1.3) [
                    | inl r ↦ inl r.2.0
                    | inr r ↦ inr (r.0, r.2.0)
                  ]
            ]
    updates (port.Subscriber number) h =
        let did = done-at (subscriber_in number) (subscribing.UpdatesFirst choices buffer number refusal.Connection
        (λ (one : Subscriber) (service : Service T) (told : Reply T) (after : Service T). (told ≡ reply.Done) × (after ≡ service))) old
        answer new unskipped h in
        elim (attends-first choices buffer number refusal.Connection
        (λ (one : Subscriber) (service : Service T) (told : Reply T) (after : Service T). (told ≡ reply.Done) × (after ≡ service)) did.1
        did.0 answer did.2 did.4 did.5) [
          | inl r ↦ inr (r.0, r.1)
          | inr r ↦ inl r.4.0
        ]

    looks : (number : ℕ) → Step types choices buffer (command.Has number) old answer new
        → ((waits : Bool) × (answer ≡ reply.Has waits))
        ⊎ ((failure : ConnectionFailure) × (answer ≡ reply.Refused (refusal.Connection failure))
        × Step types choices buffer (command.Update (port.Subscriber number)) old answer new)
    looks number h =
        let did = done-at (subscriber_in number) (subscribing.UpdatesFirst choices buffer number refusal.Connection Tells) old answer new
        unskipped h in
        elim (attends-first choices buffer number refusal.Connection Tells did.1 did.0 answer did.2 did.4 did.5) [
          | inl r ↦ inr (
            r.0,
            r.1,
            subst (λ (state : State T). Step types choices buffer (command.Update (port.Subscriber number)) old answer state) (sym did.6)
                (attended-state choices buffer number types old answer did.0 did.1 did.2 did.3 did.4
                (subst (λ (told : Reply T). Attends choices buffer number did.1 did.0 told did.2) (sym r.1) r.2)),
          )
          | inr r ↦ inl (has_samples number r.0 r.1, r.4.0)
        ]
      where
        Tells : Subscriber → Service T → Reply T → Service T → Type 0
        Tells one service told after = (told ≡ reply.Has (has_samples number one service)) × (after ≡ service)

pub sends-are-refused-so : {T : Type 0} (choices : Choices T) → SendsAreRefusedSo choices
sends-are-refused-so {T} choices types buffer (command.Send loan) old answer new is unskipped lends h =
    let did = done-at (λ (service : Service T). at loan service.loans) (SendsLoan choices loan) old answer new unskipped h in
    elim (by-option (at did.1.publisher did.0.publishers) (IsSkipped did.0 answer did.2)
    (λ publisher. MatchBool (is_written did.1 && not (is_some publisher.blocked))
    (Sends choices did.1.publisher (sent_as did.1) publisher (record did.0 { loans = removed loan did.0.loans }) answer did.2)
    (IsSkipped did.0 answer did.2)) did.5) [
      | inl k ↦ never-skipped answer k.1.0 unskipped
      | inr k ↦ elim (by-bool (is_written did.1 && not (is_some k.0.blocked))
          (Sends choices did.1.publisher (sent_as did.1) k.0 (record did.0 { loans = removed loan did.0.loans }) answer did.2)
          (IsSkipped did.0 answer did.2) k.2) [
            | inl j ↦ (
              (λ (other : Service T). is_some (at loan other.loans)),
              did.0,
              did.2,
              did.1.publisher,
              k.0,
              sent_as did.1,
              did.3,
              ap (λ (state : State T). state.services) did.6,
              (did.1, did.4, refl, refl),
              k.1,
              sends-so choices did.1.publisher (sent_as did.1) k.0 (record did.0 { loans = removed loan did.0.loans }) answer did.2 k.1 j.1,
            )
            | inr j ↦ never-skipped answer j.1.0 unskipped
          ]
    ]
sends-are-refused-so {T} choices types buffer (command.Put number values) old answer new is unskipped lends h =
    let did = done-at (publisher_in number) (AtReady (Puts choices number values)) old answer new unskipped h in
    let found : at number did.0.publishers ≡ Some did.1 = publisher-stands number did.0 did.1 did.4 in (
      (λ (other : Service T). is_some (publisher_in number other)),
      did.0,
      did.2,
      number,
      did.1,
      record { number = did.1.next; sequence = None; values = values },
      did.3,
      ap (λ (state : State T). state.services) did.6,
      (did.1, found, refl, refl),
      found,
      put did.1 did.0 did.2 found (ready (Puts choices number values) did.1 did.0 answer did.2 unskipped did.5),
    )
  where
    put : (one : Publisher T) (service after : Service T) → at number service.publishers ≡ Some one
        → Puts choices number values one service answer after → IsRefusedOrGoes choices number one answer after
    put one service after found (Some why, lent, lending, refused) = absurd (lends why refused.0)
    put one service after found (None, lent, lending, sent) =
        elim (left-by number one service (length values) None lent lending) [
          | inl w ↦ subst (λ (it : Publisher T). IsRefusedOrGoes choices number it answer after) w.1 so
          | inr w ↦ subst (λ (it : Publisher T). IsRefusedOrGoes choices number it answer after) w.5 so
        ]
      where
        so : IsRefusedOrGoes choices number lent answer after
        so =
            sends-so choices number (record { number = one.next; sequence = None; values = values }) lent
            (with_publisher number lent service) answer after (at-changed number lent one service.publishers found) sent
sends-are-refused-so choices types buffer other old answer new is unskipped lends h = absurd (true≢false (sym is))
