-- Whatever a publisher of the machine does, ports stand as they stood, and decide as they did.
use Rattle.std.proofs.Common.{◌≡◌, ◌+◌, ◌++◌, ℕ, Bool, true, false, cond, not, ◌&&◌, List, [], ◌∷◌, Option, None, Some, refl, sym, ap}
use Rattle.std.proofs.Common.{subst, inl, inr, ◌∙◌}
use Rattle.std.specs.Option.{option_map_or}
use Rattle.std.specs.Prelude.{◌==◌, nat_lt, is_some, fold, filter, slice_get, MatchBool, drop, zip}
use Rattle.iox_command.specs.DomainValues.Sequences.{next_sequence}
use Rattle.iox_command.specs.DomainValues.declared.backpressure.BackpressureDecision.{BackpressureDecision}
use Rattle.iox_command.specs.DomainValues.declared.backpressure.BackpressureDecision.TheVariants.{Retry, DiscardData, DiscardDataAndFail}
use Rattle.iox_command.specs.DomainValues.declared.connection_failure.ConnectionFailure.{ConnectionFailure}
use Rattle.iox_command.specs.DomainValues.declared.port_error.LoanError.{LoanError}
use Rattle.iox_command.specs.DomainValues.declared.port_error.SendError.TheVariants as error
use Rattle.iox_command.specs.declared.refusal.Refusal.{Refusal}
use Rattle.iox_command.specs.declared.refusal.Refusal.TheVariants as refusal
use Rattle.iox_command.specs.declared.reply.Reply.{Reply}
use Rattle.iox_domain_machine.proofs.AloneDid.{by_bool, by_option}
use Rattle.iox_domain_machine.proofs.Found.{at_changed}
use Rattle.iox_hub_machine.proofs.Deciding.{DecidesAlike, deciding, same_ports, publisher_alike}
use Rattle.iox_machine.specs.Lending.{Lends, loan_refusal}
use Rattle.iox_machine.specs.Mailbox.{Mailbox, newest, put}
use Rattle.iox_machine.specs.Message.{Message, Loan}
use Rattle.iox_machine.specs.PortList.{those}
use Rattle.iox_machine.specs.Ports.{Puts, SendsLoan}
use Rattle.iox_machine.specs.PublisherUpdate.{Follows, UpdatesFirst, ended, welcome}
use Rattle.iox_machine.specs.Sending.{GoesOn, Begins, Sends}
use Rattle.iox_machine.specs.RunLaws.{numbered, sent_as, is_written}
use Rattle.iox_machine.specs.Service.{Service, Publisher, Send, mailbox, with_mailbox}
use Rattle.iox_machine.proofs.Shorthands.{with_publisher, IsSkipped, IsRefused, LendsLonger, is_used_up}
use Rattle.iox_machine.specs.Table.{at, contains, removed}
use Rattle.iox_machine.specs.Choices.{Choices}
use Rattle.iox_machine.proofs.Delivering.{Outcomes, by-outcome, deliver, first_of, goes-on-so, offered}

module _ {T : Type 0} where
  pub alike_then : (one two three : Service T) → DecidesAlike one two → DecidesAlike two three → DecidesAlike one three
  alike_then one two three before behind = record {
    publishers = λ number. behind.publishers number ∙ before.publishers number;
    subscribers = λ number. behind.subscribers number ∙ before.subscribers number;
  }

  -- a service has the ports of another
  abbrev HasPorts : Service T → Service T → Type 0
  HasPorts old new = (new.publishers ≡ old.publishers) × (new.subscribers ≡ old.subscribers)

  offered_keeps : (number : ℕ) (met : Option (Mailbox T)) (decision : BackpressureDecision) (subscriber : ℕ) (more : List ℕ)
      (goes_on : Send T → Service T → Send T × Service T) (send : Send T) (service : Service T)
      → ((next : Send T) (mid : Service T) → HasPorts mid (goes_on next mid).1)
      → HasPorts service (offered number met decision subscriber more goes_on send service).1
  offered_keeps number (Some box) decision subscriber more goes_on send service on =
      on (record send { retries = 0; elapsed = 0; delivered = send.delivered + 1 }) (with_mailbox number subscriber box service)
  offered_keeps number None Retry subscriber more goes_on send service on = (refl, refl)
  offered_keeps number None DiscardData subscriber more goes_on send service on = on (record send { retries = 0; elapsed = 0 }) service
  offered_keeps number None DiscardDataAndFail subscriber more goes_on send service on =
      on (record send { retries = 0; elapsed = 0; fails = true }) service

  deliver_keeps : (number : ℕ) (decisions : List BackpressureDecision) (left : List ℕ) (send : Send T) (service : Service T)
      → HasPorts service (deliver number decisions left send service).1
  deliver_keeps number decisions [] send service = (refl, refl)
  deliver_keeps number decisions (subscriber ∷ more) send service =
      offered_keeps number (put service.settings.enable_safe_overflow send.message (mailbox number subscriber service))
      (first_of decisions) subscriber more (deliver number (drop 1 decisions) more) send service
      (λ next mid. deliver_keeps number (drop 1 decisions) more next mid)

  connect_by : (b : Bool) (one other : Service T) → HasPorts one other → HasPorts one (cond b one other)
  connect_by true one other same = (refl, refl)
  connect_by false one other same = same

  welcome_keeps : (number : ℕ) (history : List (Message T)) (service : Service T) (subscriber : ℕ)
      → HasPorts service (welcome number history service subscriber)
  welcome_keeps number history service subscriber =
      connect_by (is_some (service.mailboxes number subscriber)) service
      (with_mailbox number subscriber (record {
        limit = option_map_or (λ one. one.buffer_size) (at subscriber service.subscribers) 0;
        waiting = [];
        borrowed = [];
      }) service) (refl, refl)

  welcomes_keep : (number : ℕ) (history : List (Message T)) (new : List ℕ) (service : Service T)
      → HasPorts service (fold (welcome number history) service new)
  welcomes_keep number history [] service = (refl, refl)
  welcomes_keep number history (subscriber ∷ more) service =
      let rest = welcomes_keep number history more (welcome number history service subscriber) in
      let first = welcome_keeps number history service subscriber in
      (rest.0 ∙ first.0, rest.1 ∙ first.1)

  -- A publisher is there, and all ports of its service decide as they did.
  pub record IsTurned (number : ℕ) (old new : Service T) (publisher : Publisher T) : Type 0 where
    pub there : at number new.publishers ≡ Some publisher
    pub alike : DecidesAlike old new

  pub turned_none : (number : ℕ) (service : Service T) (publisher : Publisher T) → at number service.publishers ≡ Some publisher
      → IsTurned number service service publisher
  turned_none number service publisher there = record { there = there; alike = same_ports service service refl refl }

  turned_same : (number : ℕ) (old mid new : Service T) (publisher : Publisher T) → IsTurned number old mid publisher → HasPorts mid new
      → IsTurned number old new publisher
  turned_same number old mid new publisher turned same = record {
    there = ap (at number) same.0 ∙ turned.there;
    alike = alike_then old mid new turned.alike (same_ports mid new same.0 same.1);
  }

  turned_so : (number : ℕ) (old mid : Service T) (was is : Publisher T) → IsTurned number old mid was → deciding is ≡ deciding was
      → IsTurned number old (with_publisher number is mid) is
  turned_so number old mid was is turned same = record {
    there = at_changed number is was mid.publishers turned.there;
    alike = alike_then old mid (with_publisher number is mid) turned.alike (publisher_alike number was is mid turned.there same);
  }

  -- a send goes on
  pub goes_on_alike : (choices : Choices T) (number : ℕ) (old mid new : Service T) (was publisher : Publisher T) (send : Send T)
      (answer : Reply T)
      → IsTurned number old mid was → deciding publisher ≡ deciding was → GoesOn choices number publisher send mid answer new
      → DecidesAlike old new
  goes_on_alike choices number old mid new was publisher send answer turned same does =
      let so = goes-on-so choices number publisher send mid answer new does in
      let gone : Send T × Service T = deliver number so.0 send.left send mid in
      let now : Publisher T = record publisher { blocked = cond (is_some (slice_get gone.0.left 0)) (Some gone.0) None } in
      subst (DecidesAlike old) (sym so.1.1)
      (turned_so number old gone.1 was now
      (turned_same number old mid gone.1 was turned (deliver_keeps number so.0 send.left send mid)) same).alike

  -- a publisher follows the list of subscribers
  follows_turned : (number : ℕ) (old mid new : Service T) (publisher after : Publisher T) → IsTurned number old mid publisher
      → Follows number publisher mid after new → IsTurned number old new after
  follows_turned number old mid new publisher after turned (refused, allowed, is, came) =
      let begun : Service T = with_publisher number after (ended number mid) in
      subst (λ (it : Service T). IsTurned number old it after) (sym came)
      (turned_same number old begun
      (fold (welcome number publisher.history) begun
      (filter (λ subscriber. not (contains (those publisher.connected) subscriber)) (those after.connected))) after
      (turned_so number old (ended number mid) publisher after
      (turned_same number old mid (ended number mid) publisher turned (refl, refl)) (ap deciding is))
      (welcomes_keep number publisher.history
      (filter (λ subscriber. not (contains (those publisher.connected) subscriber)) (those after.connected)) begun))

  -- a publisher brings its connections up to date, and does something then, or is refused
  pub updates_alike : (choices : Choices T) (number : ℕ) (told : ConnectionFailure → Refusal)
      (Does : Publisher T → Service T → Reply T → Service T → Type 0)
      (publisher : Publisher T) (old mid new : Service T) (answer : Reply T) → IsTurned number old mid publisher
      → ((one : Publisher T) (then : Service T) → IsTurned number old then one → Does one then answer new → DecidesAlike old new)
      → UpdatesFirst choices number told Does publisher mid answer new → DecidesAlike old new
  updates_alike choices number told Does publisher old mid new answer turned does updates =
      elim (by_bool (publisher.seen == mid.subscriber_list.changes) (Does publisher mid answer new)
      ((after : Publisher T) × (then : Service T) × Follows number publisher mid after then
      × Outcomes (choices.publisher_acts number publisher.degradation) (zip mid.subscriber_list.places after.connected)
      (λ done. Does after then answer new) (λ failure. IsRefused (told failure) then answer new)) updates) [
        | inl at_once ↦ does publisher mid turned at_once.1
        | inr first ↦ followed first.1.0 first.1.1 first.1.2 first.1.3
      ]
    where
      followed : (after : Publisher T) (then : Service T) → Follows number publisher mid after then
          → Outcomes (choices.publisher_acts number publisher.degradation) (zip mid.subscriber_list.places after.connected)
          (λ done. Does after then answer new) (λ failure. IsRefused (told failure) then answer new) → DecidesAlike old new
      followed after then follows goes =
          let turned_then = follows_turned number old mid then publisher after turned follows in
          elim (by-outcome (choices.publisher_acts number publisher.degradation) (zip mid.subscriber_list.places after.connected)
          (λ done. Does after then answer new) (λ failure. IsRefused (told failure) then answer new) goes) [
            | inl done ↦ does after then turned_then done.2
            | inr failed ↦ subst (DecidesAlike old) (sym failed.2.1) turned_then.alike
          ]

  -- a publisher sends
  pub send_alike : (choices : Choices T) (number : ℕ) (message : Message T) (publisher : Publisher T) (old mid new : Service T)
      (answer : Reply T)
      → IsTurned number old mid publisher → Sends choices number message publisher mid answer new → DecidesAlike old new
  send_alike choices number message publisher old mid new answer turned sends =
      elim (by_bool publisher.stands
      (MatchBool (is_used_up publisher.last_sequence) (IsRefused (refusal.Send error.InternalError) mid answer new) Updates)
      (IsRefused (refusal.Send error.ConnectionBrokenSinceSenderNoLongerExists) mid answer new) sends) [
        | inl stands ↦ elim (by_bool (is_used_up publisher.last_sequence) (IsRefused (refusal.Send error.InternalError) mid answer new)
            Updates stands.1) [
              | inl used ↦ subst (DecidesAlike old) (sym used.1.1) turned.alike
              | inr updates ↦ updates_alike choices number (λ failure. refusal.Send (error.ConnectionError failure))
                  (Begins choices number message) publisher old
                  mid new answer turned
                  (λ one then turned_then begins.
                  goes_on_alike choices number old then new one
                  (record one {
                    last_sequence = next_sequence one.last_sequence;
                    history = newest then.settings.history_size (one.history ++ numbered one message ∷ []);
                  })
                  (record {
                    message = numbered one message;
                    left = those one.connected;
                    retries = 0;
                    elapsed = 0;
                    delivered = 0;
                    fails = false;
                  }) answer turned_then refl begins) updates.1
            ]
        | inr refused ↦ subst (DecidesAlike old) (sym refused.1.1) turned.alike
      ]
    where
      Updates : Type 0
      Updates = UpdatesFirst choices number (λ failure. refusal.Send (error.ConnectionError failure)) (Begins choices number message)
          publisher mid answer new

  -- a loan is sent
  pub sends_loan_alike : (choices : Choices T) (number : ℕ) (loan : Loan T) (old new : Service T) (answer : Reply T)
      → SendsLoan choices number loan old answer new
      → DecidesAlike old new
  sends_loan_alike choices number loan old new answer does =
      elim (by_option (at loan.publisher old.publishers) (IsSkipped old answer new)
      (λ publisher. MatchBool (is_written loan && not (is_some publisher.blocked)) (Sent publisher) (IsSkipped old answer new)) does) [
        | inl none ↦ skipped none.1
        | inr one ↦ elim (by_bool (is_written loan && not (is_some one.0.blocked)) (Sent one.0) (IsSkipped old answer new) one.2) [
          | inl sent ↦ send_alike choices loan.publisher (sent_as loan) one.0 old fewer new answer
              (turned_same loan.publisher old old fewer one.0 (turned_none loan.publisher old one.0 one.1) (refl, refl)) sent.1
          | inr unwritten ↦ skipped unwritten.1
        ]
      ]
    where
      fewer : Service T
      fewer = record old { loans = removed number old.loans }

      Sent : Publisher T → Type 0
      Sent publisher = Sends choices loan.publisher (sent_as loan) publisher (record old { loans = removed number old.loans }) answer new

      skipped : IsSkipped old answer new → DecidesAlike old new
      skipped (told, same) = same_ports old new (ap (λ (it : Service T). it.publishers) same) (ap (λ (it : Service T). it.subscribers) same)

  abbrev LendsAtOnce : Publisher T → Option LoanError → Publisher T → Type 0
  LendsAtOnce publisher refused after = (refused ≡ None) × (after ≡ record publisher { next = publisher.next + 1 })

  longer_decides : (number values : ℕ) (publisher : Publisher T) (refused : Option LoanError) (after : Publisher T)
      → LendsLonger number values publisher refused after → deciding after ≡ deciding publisher
  longer_decides number values publisher refused after (inl lacks) = ap deciding lacks.1
  longer_decides number values publisher refused after (inr opened) = ap deciding opened.4

  -- a publisher that lends
  pub lends_decides : (number values : ℕ) (publisher : Publisher T) (service : Service T) (refused : Option LoanError)
      (after : Publisher T) → Lends number values publisher service refused after → deciding after ≡ deciding publisher
  lends_decides number values publisher service refused after lends =
      elim (by_option (loan_refusal number values publisher service)
      (MatchBool (nat_lt publisher.room values) (LendsLonger number values publisher refused after) (LendsAtOnce publisher refused after))
      (λ why. (refused ≡ Some why) × (after ≡ publisher)) lends) [
        | inl lent ↦ elim (by_bool (nat_lt publisher.room values) (LendsLonger number values publisher refused after)
            (LendsAtOnce publisher refused after) lent.1) [
              | inl longer ↦ longer_decides number values publisher refused after longer.1
              | inr short ↦ ap deciding short.1.1
            ]
        | inr none ↦ ap deciding none.2.1
      ]

  -- a publisher puts
  pub put_alike : (choices : Choices T) (number : ℕ) (values : List T) (publisher : Publisher T) (old new : Service T) (answer : Reply T)
      → at number old.publishers ≡ Some publisher → Puts choices number values publisher old answer new → DecidesAlike old new
  put_alike choices number values publisher old new answer there (None, after, lent, sent) =
      send_alike choices number (record { number = publisher.next; sequence = None; values = values }) after old
      (with_publisher number after old) new answer
      (turned_so number old old publisher after (turned_none number old publisher there)
      (lends_decides number _ publisher old None after lent)) sent
  put_alike choices number values publisher old new answer there (Some why, after, lent, (told, same)) =
      same_ports old new (ap (λ (it : Service T). it.publishers) same) (ap (λ (it : Service T). it.subscribers) same)
