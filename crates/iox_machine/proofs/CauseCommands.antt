-- What a subscriber is due to get from a publisher stays so in each step, and what is lost to it in one is lost for a cause.
use Rattle.iox_machine.proofs.Moves.{begun-loan, first-is, unbegun-loan}
use Rattle.std.proofs.Common.{◌≡◌, ◌⊎◌, ℕ, Bool, true, false, cond, not, ◌&&◌, List, [], ◌∷◌, ◌++◌, length, map, replicate, Option, None}
use Rattle.std.proofs.Common.{Some, refl, sym, ap, subst, inl, inr, ◌∙◌}
use Rattle.std.proofs.lemmas.Bool.{and_from, and_right, cases_Bool, eqb-true, eqb-false, true≢false}
use Rattle.std.specs.List.{AllByRecursion, IsDistinct}
use Rattle.std.specs.Prelude.{⊤, ◌==◌, find, is_some, option_map, MatchBool, MatchOption}
use Rattle.iox_machine.specs.Choices.{Choices}
use Rattle.iox_machine.specs.LossLaws.{IsDropped, IsPassedOver}
use Rattle.iox_machine.specs.Message.{Loan, Message}
use Rattle.iox_machine.specs.MessageLaws.{begun_by, first_in, next_message, received_by, sent_in, with_one}
use Rattle.iox_machine.specs.Ports.{LendsLoan, Puts, SendsLoan, publisher_in, subscriber_in}
use Rattle.iox_machine.specs.RunLaws.{has_begun, sent_as, is_written, numbered}
use Rattle.iox_machine.specs.Sending.{Sends}
use Rattle.iox_machine.specs.SequenceLaws.{has_message, still_brought}
use Rattle.iox_machine.specs.Service.{Publisher, Send, Service, Subscriber, new_service}
use Rattle.iox_machine.specs.State.{AtOne, State, counted, replaced}
use Rattle.iox_machine.specs.SubscriberUpdate as subscribing
use Rattle.iox_machine.specs.Table.{at, removed}
use Rattle.iox_machine.proofs.Cases.{both-true, by-bool, by-option, never-some}
use Rattle.iox_machine.proofs.Causes.{due-same, splits-due, splits-weaker}
use Rattle.iox_machine.proofs.CauseSteps.{AreDue, Both, Comes, DropsAt, HasDue, PassesAt, acted, has-one, has_p, is-dropped, last-apart}
use Rattle.iox_machine.proofs.CauseSteps.{is-passed, lends-due, sends-due, unsent-so}
use Rattle.iox_machine.proofs.CauseUpdates.{DueOf}
use Rattle.iox_machine.proofs.Frames.{ByPublisher, by-puts, by-sends-loan, publisher-stands, soft-updates, subscriber-stands}
use Rattle.iox_machine.proofs.Lists.{all-weaker}
use Rattle.iox_machine.proofs.Losses.{Anything}
use Rattle.iox_machine.proofs.Moving.{at-one, replaced-keeps}
use Rattle.iox_machine.proofs.Order.{BetweenOf, lends-between, lends-free, lends-stands}
use Rattle.iox_command.specs.DomainValues.Sequences.{next_sequence}
use Rattle.iox_machine.proofs.OrderLaws.{one-found}
use Rattle.iox_machine.proofs.OrderSteps.{Alike, IsOrdered, alike-by, alike-refused, alike-soft, between-found, noted}
use Rattle.iox_machine.proofs.Runs.{all-found}
use Rattle.iox_machine.proofs.Tables.{at-changed}
use Rattle.iox_command.specs.DomainValues.declared.connection_failure.ConnectionFailure.{ConnectionFailure}
use Rattle.iox_command.specs.DomainValues.declared.port_error.SendError.TheVariants as error
use Rattle.iox_command.specs.NegotiateBase.DescribeSettings.declared.static_config.publish_subscribe.StaticConfig.{StaticConfig}
use Rattle.iox_command.specs.declared.command.Command.{Command}
use Rattle.iox_command.specs.declared.command.Command.TheVariants as command
use Rattle.iox_command.specs.declared.refusal.Refusal.{Refusal}
use Rattle.iox_command.specs.declared.refusal.Refusal.TheVariants as refusal
use Rattle.iox_machine.proofs.Shorthands.{IsSkipped, with_publisher, AtBlocked, AtFree}
use Rattle.iox_command.specs.declared.reply.Reply.{Reply}

module _ {T : Type 0} (p s : ℕ) where
  module _ (D E : Message T → Type 0) (on : (x : Message T) → D x → E x) (sent received : List (Message T)) where
    pub due-on : (service : Service T) → HasDue p s D sent received service → HasDue p s E sent received service
    due-on service has one there =
        due-same p s D E on sent received one.history one.connected one.blocked one.blocked (service.mailboxes p s)
        (service.mailboxes p s) refl (has one there)

    pub are-due-on : (old new : State T) → new.services ≡ old.services → AreDue p s D sent received old → AreDue p s E sent received new
    are-due-on old new same due = (
      splits-weaker p s D E on sent received due.0,
      subst (AllByRecursion (HasDue p s E sent received)) (sym same)
          (all-weaker (HasDue p s D sent received) (HasDue p s E sent received) due-on old.services due.1),
    )

    pub alike-due : (service after : Service T) → Alike p s service after → HasDue p s D sent received service
        → HasDue p s E sent received after
    alike-due service after a has one there =
        due-same p s D E on sent received one.history one.connected one.blocked one.blocked (service.mailboxes p s) (after.mailboxes p s)
        (ap (λ (l : List (Message T)). l ++ still_brought s one.blocked) a.4.0) (has one (sym a.2 ∙ there))

    -- a command did something at one service that is as it should be
    pub done-quiet : (has : Service T → Bool) (service after : Service T) (old : State T) (answer : Reply T) (new : State T)
        → find has old.services ≡ Some service → (HasDue p s D sent received service → HasDue p s E sent received after)
        → new ≡ record old { made = counted answer old.made; services = replaced has after old.services }
        → AreDue p s D sent received old → AreDue p s E sent received new
    done-quiet has service after old answer new first does came due = (
      splits-weaker p s D E on sent received due.0,
      subst (λ (state : State T). AllByRecursion (HasDue p s E sent received) state.services) (sym came)
          (replaced-keeps (HasDue p s D sent received) (HasDue p s E sent received) has service after old.services due-on does first due.1),
    )

    pub quiet-due : {V : Type 0} (found : Service T → Option V) (Does : V → Service T → Reply T → Service T → Type 0) (old : State T)
        (answer : Reply T) (new : State T)
        → ((service : Service T) (one : V) (after : Service T)
        → find (λ (other : Service T). is_some (found other)) old.services ≡ Some service → found service ≡ Some one
        → Does one service answer after
        → new ≡ record old {
          made = counted answer old.made;
          services = replaced (λ (other : Service T). is_some (found other)) after old.services;
        }
        → HasDue p s D sent received service → HasDue p s E sent received after)
        → AtOne found Does old answer new → AreDue p s D sent received old → AreDue p s E sent received new
    quiet-due found Does old answer new does h due =
        elim (at-one found Does old answer new h) [
          | inl skipped ↦ are-due-on old new (ap (λ (state : State T). state.services) skipped.1) due
          | inr w ↦ done-quiet (λ (other : Service T). is_some (found other)) w.0 w.2 old answer new w.3
              (λ has. does w.0 w.1 w.2 w.3 w.4 w.5 w.6 has) w.6 due
        ]

    pub skip-due : (service : Service T) (answer : Reply T) (after : Service T) → IsSkipped service answer after
        → HasDue p s D sent received service → HasDue p s E sent received after
    skip-due service answer after skipped has =
        subst (λ (it : Service T). HasDue p s E sent received it) (sym skipped.1) (due-on service has)

    pub free-due : (number : ℕ) (Does : Publisher T → Service T → Reply T → Service T → Type 0) (old : State T) (answer : Reply T)
        (new : State T)
        → ((one : Publisher T) (service after : Service T) → Does one service answer after → ByPublisher number service after)
        → ((one : Publisher T) (service after : Service T) → number ≡ p
        → find (λ (other : Service T). is_some (publisher_in number other)) old.services ≡ Some service
        → at p service.publishers ≡ Some one → one.blocked ≡ None → Does one service answer after
        → DueOf p s D sent received one service → HasDue p s E sent received after)
        → AtFree number Does old answer new → AreDue p s D sent received old → AreDue p s E sent received new
    free-due number Does old answer new by own h due =
        quiet-due (publisher_in number)
        (λ (publisher : Publisher T) (service : Service T) (told : Reply T) (after : Service T). MatchOption publisher.blocked
        (Does publisher service told after) (λ send. IsSkipped service told after)) old answer new
        (λ service one after first is did came has. elim (by-option one.blocked (Does one service answer after)
        (λ send. IsSkipped service answer after) did) [
          | inl w ↦ free service one after first is w.0 w.1 has
          | inr w ↦ skip-due service answer after w.2 has
        ]) h due
      where
        free : (service : Service T) (one : Publisher T) (after : Service T)
            → find (λ (other : Service T). is_some (publisher_in number other)) old.services ≡ Some service
            → publisher_in number service ≡ Some one
            → one.blocked ≡ None → Does one service answer after → HasDue p s D sent received service
            → HasDue p s E sent received after
        free service one after first is unblocked did has = elim (cases_Bool (number == p)) [
          | inl same ↦
              let there : at p service.publishers ≡ Some one =
              subst (λ (k : ℕ). at k service.publishers ≡ Some one) (eqb-true number p same) (publisher-stands number service one is) in
              own one service after (eqb-true number p same) first there unblocked did (has one there)
          | inr other ↦ alike-due service after
              (alike-by p s number service after (λ e. eqb-false number p other (sym e)) (by one service after did)) has
        ]

    pub blocked-due : (number : ℕ) (Does : Publisher T → Send T → Service T → Reply T → Service T → Type 0) (old : State T)
        (answer : Reply T) (new : State T)
        → ((one : Publisher T) (send : Send T) (service after : Service T) → Does one send service answer after
        → ByPublisher number service after)
        → ((one : Publisher T) (send : Send T) (service after : Service T) → number ≡ p
        → find (λ (other : Service T). is_some (publisher_in number other)) old.services ≡ Some service
        → at p service.publishers ≡ Some one → one.blocked ≡ Some send → Does one send service answer after
        → new ≡ record old {
          made = counted answer old.made;
          services = replaced (λ (other : Service T). is_some (publisher_in number other)) after old.services;
        }
        → DueOf p s D sent received one service → HasDue p s E sent received after)
        → AtBlocked number Does old answer new → AreDue p s D sent received old → AreDue p s E sent received new
    blocked-due number Does old answer new by own h due =
        quiet-due (publisher_in number)
        (λ (publisher : Publisher T) (service : Service T) (told : Reply T) (after : Service T). MatchOption publisher.blocked
        (IsSkipped service told after) (λ send. Does publisher send service told after)) old answer new
        (λ service one after first is did came has. elim (by-option one.blocked (IsSkipped service answer after)
        (λ send. Does one send service answer after) did) [
          | inl w ↦ skip-due service answer after w.1 has
          | inr w ↦ blocked service one after first is w.0 w.1 w.2 came has
        ]) h due
      where
        blocked : (service : Service T) (one : Publisher T) (after : Service T)
            → find (λ (other : Service T). is_some (publisher_in number other)) old.services ≡ Some service
            → publisher_in number service ≡ Some one
            → (send : Send T) → one.blocked ≡ Some send → Does one send service answer after
            → new ≡ record old {
              made = counted answer old.made;
              services = replaced (λ (other : Service T). is_some (publisher_in number other)) after old.services;
            }
            → HasDue p s D sent received service → HasDue p s E sent received after
        blocked service one after first is send waits did came has = elim (cases_Bool (number == p)) [
          | inl same ↦
              let there : at p service.publishers ≡ Some one =
              subst (λ (k : ℕ). at k service.publishers ≡ Some one) (eqb-true number p same) (publisher-stands number service one is) in
              own one send service after (eqb-true number p same) first there waits did came (has one there)
          | inr other ↦ alike-due service after
              (alike-by p s number service after (λ e. eqb-false number p other (sym e)) (by one send service after did)) has
        ]

    pub subscriber-due : (choices : Choices T) (buffer number : ℕ) (told : ConnectionFailure → Refusal)
        (Does : Subscriber → Service T → Reply T → Service T → Type 0) (old : State T) (answer : Reply T) (new : State T)
        → ((one : Subscriber) (service after : Service T) → Does one service answer after → after ≡ service)
        → AtOne (subscriber_in number) (subscribing.UpdatesFirst choices buffer number told Does) old answer new
        → AreDue p s D sent received old → AreDue p s E sent received new
    subscriber-due choices buffer number told Does old answer new does h due =
        quiet-due (subscriber_in number) (subscribing.UpdatesFirst choices buffer number told Does) old answer new
        (λ service one after first is did came has. soft-updates choices (HasDue p s E sent received after) buffer number told Does one
        service answer after
        (subscriber-stands number service one is).0
        (λ now mid soft found same done. alike-due service after
        (subst (λ (it : Service T). Alike p s service it) (sym (does now mid after done)) (alike-soft p s service mid soft)) has)
        (λ why mid soft refused. alike-due service after
        (alike-refused p s why service mid answer after (alike-soft p s service mid soft) refused) has) did) h due

    -- ---- services that come and go

    pub fresh-due : (name : List ℕ) (c : StaticConfig) → HasDue p s E sent received (new_service {T = T} name c)
    fresh-due name c one there = never-some one there

  -- ---- what a command loses

  module _ (D : Message T → Type 0) (sent received : List (Message T)) where
    -- It was lost before, or this command drops it or passes it over.
    abbrev pub LostThen : Command T → State T → Reply T → State T → Message T → Type 0
    LostThen asked old answer new x = D x ⊎ (IsDropped p s x asked old answer new ⊎ IsPassedOver p s x asked old answer new)

    pub still-lost : (asked : Command T) (old : State T) (answer : Reply T) (new : State T) (x : Message T) → D x
        → LostThen asked old answer new x
    still-lost asked old answer new x lost = inl lost

    module _ (asked : Command T) (old : State T) (answer : Reply T) (new : State T) (has : Service T → Bool) (service after : Service T)
        (one : Publisher T) (ordered : IsOrdered p s (Anything p s) sent received old) (first : find has old.services ≡ Some service)
        (found : at p service.publishers ≡ Some one)
        (came : new ≡ record old { made = counted answer old.made; services = replaced has after old.services }) where
      pub both-of : (now : Publisher T) → at p after.publishers ≡ Some now → Both p s old new service after one now
      both-of now there =
          let it : (find (has_p p s) old.services ≡ Some service) × (find (has_p p s) (replaced has after old.services) ≡ Some after)
          × AllByRecursion (λ (any : Service T). ⊤) (replaced has after old.services) =
          acted p s (Anything p s) old.made sent received has service after one now (λ (any : Service T). ⊤) old.services ordered.0 first
          found there tt (λ any none. tt) in
          record {
            first = it.0;
            then_first = ap (λ (state : State T). find (has_p p s) state.services) came ∙ it.1;
            found = found;
            then_found = there;
          }

      pub between-one : BetweenOf p s sent received old.made.subscribers one service
      between-one = elim (one-found p s (Anything p s) old sent received has service old.services first ordered.0) [
        | inl lacks ↦ never-some one (sym lacks.0 ∙ found)
        | inr fits ↦ between-found p s sent received old.made.subscribers service one found fits.0.0
      ]

      pub drops-at : received_by p s asked answer new ≡ None → (m : Message T) (brought : List (Message T))
          → ((x : Message T) → has_message brought x ≡ true
          → has_message (still_brought s one.blocked ++ with_one (begun_by p asked old answer) []) x ≡ true)
          → DropsAt p s (LostThen asked old answer new) brought (service.mailboxes p s) m after
      drops-at unreceived m brought sends now there x is_brought waited off over waits =
          inr (inl (is-dropped p s asked old answer new service after one now x m (both-of now there) unreceived waited off over
          (sends m is_brought) waits))

      pub passes-at : (brought : List (Message T))
          → ((x : Message T) → has_message brought x ≡ true
          → has_message (still_brought s one.blocked ++ with_one (begun_by p asked old answer) []) x ≡ true)
          → PassesAt p s (LostThen asked old answer new) brought after
      passes-at brought sends now there x is off met full =
          let both : Both p s old new service after one now = both-of now there in
          inr (inr (
            is-passed p s asked old answer new service after one now x both (sends x is) off,
            inr (after, now, both.then_first, there, met, full),
          ))

      pub done-acted : (E : Message T → Type 0) (then_sent then_received : List (Message T))
          → Comes p s E then_sent then_received after → AreDue p s E then_sent then_received new
      done-acted E then_sent then_received (now, there, due) = (
        splits-due p s E then_sent then_received now.history now.connected now.blocked (after.mailboxes p s) due,
        subst (λ (state : State T). AllByRecursion (HasDue p s E then_sent then_received) state.services) (sym came)
            (acted p s (Anything p s) old.made sent received has service after one now (HasDue p s E then_sent then_received) old.services
            ordered.0 first found there (has-one p s E then_sent then_received after now there due)
            (λ it none other is. never-some other (sym none ∙ is))).2,
      )

      begun-brought : (m : Message T) → one.blocked ≡ None → begun_by p asked old answer ≡ Some m → (x : Message T)
          → has_message (m ∷ []) x ≡ true
          → has_message (still_brought s one.blocked ++ with_one (begun_by p asked old answer) []) x ≡ true
      begun-brought m free begun x is =
          ap (λ (o : Option (Send T)). has_message (still_brought s o ++ with_one (begun_by p asked old answer) []) x) free
          ∙ (ap (λ (o : Option (Message T)). has_message (with_one o []) x) begun ∙ is)

      -- a send came to this
      came-due : (choices : Choices T) (m : Message T) → received_by p s asked answer new ≡ None
          → (has_begun answer ≡ true → begun_by p asked old answer ≡ Some m)
          → (has_begun answer ≡ false → begun_by p asked old answer ≡ None)
          → ((has_begun answer ≡ true) × Comes p s (LostThen asked old answer new) (sent ++ m ∷ []) received after)
          ⊎ ((has_begun answer ≡ false) × Comes p s D sent received after)
          → AreDue p s D sent received old
          → AreDue p s (LostThen asked old answer new) (noted sent (begun_by p asked old answer)) received new
      came-due choices m unreceived begun silent (inl (told, comes)) due =
          subst (λ (o : Option (Message T)). AreDue p s (LostThen asked old answer new) (noted sent o) received new) (sym (begun told))
          (done-acted (LostThen asked old answer new) (sent ++ m ∷ []) received comes)
      came-due choices m unreceived begun silent (inr (told, comes)) due =
          subst (λ (o : Option (Message T)). AreDue p s (LostThen asked old answer new) (noted sent o) received new) (sym (silent told))
          (done-quiet D (LostThen asked old answer new) (still-lost asked old answer new) sent received has service after old answer new
          first
          (λ was. due-on D (LostThen asked old answer new) (still-lost asked old answer new) sent received after
          (has-one p s D sent received after comes.0 comes.1 comes.2)) came due)

    -- ---- a publisher's own commands

    -- a message is lent and sent
    puts-due : (choices : Choices T) (E : Message T → Type 0) (on : (x : Message T) → D x → E x) (born : ℕ) (values : List T)
        (one : Publisher T) (old : Service T) (answer : Reply T) (new : Service T) → at p old.publishers ≡ Some one → one.blocked ≡ None
        → (has_begun answer ≡ true → AllByRecursion (λ x. has_message (next_message values one ∷ []) x ≡ false) sent)
        → BetweenOf p s sent received born one old → DueOf p s D sent received one old
        → (has_begun answer ≡ true
        → DropsAt p s E (next_message values one ∷ []) (old.mailboxes p s) (next_message values one) new)
        → (has_begun answer ≡ true → PassesAt p s E (next_message values one ∷ []) new)
        → Puts choices p values one old answer new
        → ((has_begun answer ≡ true) × Comes p s E (sent ++ next_message values one ∷ []) received new)
        ⊎ ((has_begun answer ≡ false) × Comes p s D sent received new)
    puts-due choices E on born values one old answer new found free fresh b due drops passes (None, after, lent, sent_so) =
        let same : after.last_sequence ≡ one.last_sequence =
        lends-between p s p (length values) one old None after (λ history connected blocked last. last ≡ one.last_sequence) lent refl in
        let next : (at p (with_publisher p after old).publishers ≡ Some after)
        × BetweenOf p s sent received born after (with_publisher p after old) =
        lends-stands p s sent received born (length values) one old None after found b lent in
        subst (λ (last : Option ℕ).
        ((has_begun answer ≡ true)
        × Comes p s E (sent ++ record { number = one.next; sequence = next_sequence last; values = values } ∷ []) received new)
        ⊎ ((has_begun answer ≡ false) × Comes p s D sent received new)) same
        (sends-due p s choices D E on sent received born (record { number = one.next; sequence = None; values = values }) after
        (with_publisher p after old) answer new next.0 (lends-free p s (length values) one old None after free lent) fresh next.1
        (lends-due p s D sent received (length values) one old None after lent due)
        (λ told. subst (λ (last : Option ℕ). DropsAt p s E
        (record { number = one.next; sequence = next_sequence last; values = values } ∷ []) (old.mailboxes p s)
        (record { number = one.next; sequence = next_sequence last; values = values }) new) (sym same) (drops told))
        (λ told. subst (λ (last : Option ℕ). PassesAt p s E
        (record { number = one.next; sequence = next_sequence last; values = values } ∷ []) new) (sym same) (passes told)) sent_so)
    puts-due choices E on born values one old answer new found free fresh b due drops passes (Some why, after, lent, refused) =
        unsent-so p s choices D E on sent received (next_message values one) (refusal.Send (error.LoanError why)) old answer new refl
        (one, found, due) refused

    pub lends-loan-due : (E : Message T → Type 0) (on : (x : Message T) → D x → E x) (loan count : ℕ) (value : Option T) (one : Publisher T)
        (old : Service T) (answer : Reply T) (new : Service T) → at p old.publishers ≡ Some one
        → LendsLoan loan p count value one old answer new → DueOf p s D sent received one old → HasDue p s E sent received new
    lends-loan-due E on loan count value one old answer new found (None, after, lent, (told, came)) due =
        subst (λ (service : Service T). HasDue p s E sent received service) (sym came)
        (due-on D E on sent received
        (record (with_publisher p after old) {
          loans = old.loans ++ (loan, record { publisher = p; number = one.next; values = replicate count value }) ∷ [];
        })
        (has-one p s D sent received
        (record (with_publisher p after old) {
          loans = old.loans ++ (loan, record { publisher = p; number = one.next; values = replicate count value }) ∷ [];
        }) after (at-changed p after one old.publishers found)
        (lends-due p s D sent received count one old None after lent due)))
    lends-loan-due E on loan count value one old answer new found (Some why, after, lent, (told, same)) due =
        subst (λ (service : Service T). HasDue p s E sent received service) (sym same)
        (due-on D E on sent received old (has-one p s D sent received old one found due))

    -- a message that is begun is another than those before
    begun-fresh : (o : Option (Message T)) (m : Message T)
        → IsDistinct (λ one other. one == other) (map (λ (x : Message T). x.number) (noted sent o)) → o ≡ Some m
        → AllByRecursion (λ x. has_message (m ∷ []) x ≡ false) sent
    begun-fresh o m apart is =
        last-apart p s sent [] m (subst (λ (it : Option (Message T)).
        IsDistinct (λ one other. one == other) (map (λ (x : Message T). x.number) (noted sent it))) is apart)

    module _ (choices : Choices T) (number : ℕ) (values : List T) (old : State T) (answer : Reply T) (new : State T)
        (ordered : IsOrdered p s (Anything p s) sent received old)
        (apart : IsDistinct (λ one other. one == other) (map (λ (x : Message T). x.number)
        (noted sent (begun_by p (command.Put number values) old answer)))) where
      abbrev PutLost : Message T → Type 0
      PutLost = LostThen (command.Put number values) old answer new

      put-unbegun : begun_by p (command.Put number values) old answer ≡ None → AreDue p s PutLost sent received new
          → AreDue p s PutLost (noted sent (begun_by p (command.Put number values) old answer)) received new
      put-unbegun none it = subst (λ (o : Option (Message T)). AreDue p s PutLost (noted sent o) received new) (sym none) it

      put-silent : has_begun answer ≡ false → begun_by p (command.Put number values) old answer ≡ None
      put-silent off =
          ap (λ (b : Bool). cond b (option_map (next_message values) (first_in (publisher_in number) old)) None)
          (and_right (number == p) (has_begun answer) off)

      put-other : (number == p) ≡ false → begun_by p (command.Put number values) old answer ≡ None
      put-other off =
          ap (λ (b : Bool). cond (b && has_begun answer) (option_map (next_message values) (first_in (publisher_in number) old)) None) off

      put-own : (service after : Service T) (one : Publisher T)
          → find (λ (other : Service T). is_some (publisher_in number other)) old.services ≡ Some service
          → publisher_in number service ≡ Some one → number ≡ p → (number == p) ≡ true → one.blocked ≡ None
          → Puts choices number values one service answer after
          → new ≡ record old {
            made = counted answer old.made;
            services = replaced (λ (other : Service T). is_some (publisher_in number other)) after old.services;
          }
          → AreDue p s D sent received old
          → AreDue p s PutLost (noted sent (begun_by p (command.Put number values) old answer)) received new
      put-own service after one first is same there free did came due =
          let found : at p service.publishers ≡ Some one =
          subst (λ (k : ℕ). at k service.publishers ≡ Some one) same (publisher-stands number service one is) in
          let has : Service T → Bool = λ (other : Service T). is_some (publisher_in number other) in
          let begun : has_begun answer ≡ true → begun_by p (command.Put number values) old answer ≡ Some (next_message values one) =
          λ told. ap (λ (o : Option (Publisher T)). cond ((number == p) && has_begun answer) (option_map (next_message values) o) None)
          (first-is (publisher_in number) old service one first is)
          ∙ ap (λ (b : Bool). cond b (Some (next_message values one)) None) (and_from (number == p) (has_begun answer) there told) in
          came-due (command.Put number values) old answer new has service after one ordered first found came choices
          (next_message values one) refl begun put-silent
          (puts-due choices PutLost (still-lost (command.Put number values) old answer new) old.made.subscribers values one service answer
          after found free
          (λ told. begun-fresh (begun_by p (command.Put number values) old answer) (next_message values one) apart (begun told))
          (between-one (command.Put number values) old answer new has service after one ordered first found came)
          (all-found (HasDue p s D sent received) has old.services service first due.1 one found)
          (λ told. drops-at (command.Put number values) old answer new has service after one ordered first found came refl
          (next_message values one) (next_message values one ∷ [])
          (begun-brought (command.Put number values) old answer new has service after one ordered first found came
          (next_message values one) free (begun told)))
          (λ told. passes-at (command.Put number values) old answer new has service after one ordered first found came
          (next_message values one ∷ [])
          (begun-brought (command.Put number values) old answer new has service after one ordered first found came
          (next_message values one) free (begun told)))
          (subst (λ (k : ℕ). Puts choices k values one service answer after) same did)) due

      pub put-due : AtFree number (Puts choices number values) old answer new → AreDue p s D sent received old
          → AreDue p s PutLost (noted sent (begun_by p (command.Put number values) old answer)) received new
      put-due h due =
          elim (at-one (publisher_in number)
          (λ (one : Publisher T) (service : Service T) (told : Reply T) (after : Service T). MatchOption one.blocked
          (Puts choices number values one service told after) (λ send. IsSkipped service told after)) old answer new h) [
            | inl skipped ↦ put-unbegun (put-silent (ap has_begun skipped.0))
                (are-due-on D PutLost (still-lost (command.Put number values) old answer new) sent received old new
                (ap (λ (state : State T). state.services) skipped.1) due)
            | inr w ↦ elim (by-option w.1.blocked (Puts choices number values w.1 w.0 answer w.2) (λ send. IsSkipped w.0 answer w.2) w.5) [
              | inr k ↦ put-unbegun (put-silent (ap has_begun k.2.0))
                  (done-quiet D PutLost (still-lost (command.Put number values) old answer new) sent received
                  (λ (other : Service T). is_some (publisher_in number other)) w.0 w.2 old answer new w.3
                  (λ has. skip-due D PutLost (still-lost (command.Put number values) old answer new) sent received w.0 answer w.2 k.2 has)
                  w.6 due)
              | inl k ↦ elim (cases_Bool (number == p)) [
                | inl same ↦ put-own w.0 w.2 w.1 w.3 w.4 (eqb-true number p same) same k.0 k.1 w.6 due
                | inr other ↦ put-unbegun (put-other other)
                    (done-quiet D PutLost (still-lost (command.Put number values) old answer new) sent received
                    (λ (one : Service T). is_some (publisher_in number one)) w.0 w.2 old answer new w.3
                    (λ has. alike-due D PutLost (still-lost (command.Put number values) old answer new) sent received w.0 w.2
                    (alike-by p s number w.0 w.2 (λ e. eqb-false number p other (sym e))
                    (by-puts choices number values w.1 w.0 answer w.2 k.1)) has) w.6 due)
              ]
            ]
          ]

    module _ (choices : Choices T) (loan : ℕ) (old : State T) (answer : Reply T) (new : State T)
        (ordered : IsOrdered p s (Anything p s) sent received old)
        (apart : IsDistinct (λ one other. one == other) (map (λ (x : Message T). x.number)
        (noted sent (begun_by p (command.Send loan) old answer)))) where
      abbrev SendLost : Message T → Type 0
      SendLost = LostThen (command.Send loan) old answer new

      send-unbegun : begun_by p (command.Send loan) old answer ≡ None → AreDue p s SendLost sent received new
          → AreDue p s SendLost (noted sent (begun_by p (command.Send loan) old answer)) received new
      send-unbegun none it = subst (λ (o : Option (Message T)). AreDue p s SendLost (noted sent o) received new) (sym none) it

      send-quiet : (service after : Service T) → find (λ (other : Service T). is_some (at loan other.loans)) old.services ≡ Some service
          → (HasDue p s D sent received service → HasDue p s SendLost sent received after)
          → new ≡ record old {
            made = counted answer old.made;
            services = replaced (λ (other : Service T). is_some (at loan other.loans)) after old.services;
          }
          → begun_by p (command.Send loan) old answer ≡ None → AreDue p s D sent received old
          → AreDue p s SendLost (noted sent (begun_by p (command.Send loan) old answer)) received new
      send-quiet service after first does came none due =
          send-unbegun none (done-quiet D SendLost (still-lost (command.Send loan) old answer new) sent received
          (λ (other : Service T). is_some (at loan other.loans)) service after old answer new first does came due)

      send-own : (service after : Service T) (one : Loan T) (publisher : Publisher T)
          → find (λ (other : Service T). is_some (at loan other.loans)) old.services ≡ Some service
          → at loan service.loans ≡ Some one → one.publisher ≡ p → (one.publisher == p) ≡ true
          → at one.publisher service.publishers ≡ Some publisher → publisher.blocked ≡ None
          → Sends choices one.publisher (sent_as one) publisher (record service { loans = removed loan service.loans }) answer after
          → new ≡ record old {
            made = counted answer old.made;
            services = replaced (λ (other : Service T). is_some (at loan other.loans)) after old.services;
          }
          → AreDue p s D sent received old
          → AreDue p s SendLost (noted sent (begun_by p (command.Send loan) old answer)) received new
      send-own service after one publisher first is same there stands free did came due =
          let found : at p service.publishers ≡ Some publisher =
          subst (λ (k : ℕ). at k service.publishers ≡ Some publisher) same stands in
          let has : Service T → Bool = λ (other : Service T). is_some (at loan other.loans) in
          let message : Message T = numbered publisher (sent_as one) in
          let shown : begun_by p (command.Send loan) old answer
          ≡ cond ((one.publisher == p) && has_begun answer) (sent_in service one) None =
          begun-loan p loan old answer service one first is in
          let begun : has_begun answer ≡ true → begun_by p (command.Send loan) old answer ≡ Some message =
          λ told. shown
          ∙ (ap (λ (o : Option (Publisher T)). cond ((one.publisher == p) && has_begun answer)
          (option_map (λ sender. numbered sender (sent_as one)) o) None) stands
          ∙ ap (λ (b : Bool). cond b (Some message) None) (and_from (one.publisher == p) (has_begun answer) there told)) in
          came-due (command.Send loan) old answer new has service after publisher ordered first found came choices message refl begun
          (λ off. unbegun-loan p loan old answer off)
          (sends-due p s choices D SendLost (still-lost (command.Send loan) old answer new) sent received old.made.subscribers (sent_as one)
          publisher (record service { loans = removed loan service.loans }) answer after found free
          (λ told. begun-fresh (begun_by p (command.Send loan) old answer) message apart (begun told))
          (between-one (command.Send loan) old answer new has service after publisher ordered first found came)
          (all-found (HasDue p s D sent received) has old.services service first due.1 publisher found)
          (λ told. drops-at (command.Send loan) old answer new has service after publisher ordered first found came refl message
          (message ∷ [])
          (begun-brought (command.Send loan) old answer new has service after publisher ordered first found came message free
          (begun told)))
          (λ told. passes-at (command.Send loan) old answer new has service after publisher ordered first found came (message ∷ [])
          (begun-brought (command.Send loan) old answer new has service after publisher ordered first found came message free
          (begun told)))
          (subst (λ (k : ℕ). Sends choices k (sent_as one) publisher (record service { loans = removed loan service.loans }) answer after)
          same did)) due

      none-blocked : (o : Option (Send T)) → not (is_some o) ≡ true → o ≡ None
      none-blocked None e = refl
      none-blocked (Some send) e = absurd (true≢false (sym e))

      send-done : (service after : Service T) (one : Loan T)
          → find (λ (other : Service T). is_some (at loan other.loans)) old.services ≡ Some service → at loan service.loans ≡ Some one
          → SendsLoan choices loan one service answer after
          → new ≡ record old {
            made = counted answer old.made;
            services = replaced (λ (other : Service T). is_some (at loan other.loans)) after old.services;
          }
          → AreDue p s D sent received old
          → AreDue p s SendLost (noted sent (begun_by p (command.Send loan) old answer)) received new
      send-done service after one first is did came due = elim (cases_Bool (one.publisher == p)) [
        | inr other ↦ send-quiet service after first
            (λ has. alike-due D SendLost (still-lost (command.Send loan) old answer new) sent received service after
            (alike-by p s one.publisher service after (λ e. eqb-false one.publisher p other (sym e))
            (by-sends-loan choices loan one service answer after did)) has) came
            (begun-loan p loan old answer service one first is
            ∙ ap (λ (b : Bool). cond (b && has_begun answer) (sent_in service one) None) other) due
        | inl same ↦ elim (by-option (at one.publisher service.publishers) (IsSkipped service answer after)
            (λ publisher. MatchBool (is_written one && not (is_some publisher.blocked))
            (Sends choices one.publisher (sent_as one) publisher (record service { loans = removed loan service.loans }) answer after)
            (IsSkipped service answer after)) did) [
              | inl w ↦ skips w.1
              | inr w ↦ elim (by-bool (is_written one && not (is_some w.0.blocked))
                  (Sends choices one.publisher (sent_as one) w.0 (record service { loans = removed loan service.loans }) answer after)
                  (IsSkipped service answer after) w.2) [
                    | inl k ↦ send-own service after one w.0 first is (eqb-true one.publisher p same) same w.1
                        (none-blocked w.0.blocked (both-true (is_written one) (not (is_some w.0.blocked)) k.0).1) k.1 came due
                    | inr k ↦ skips k.1
                  ]
            ]
      ]
        where
          skips : IsSkipped service answer after
              → AreDue p s SendLost (noted sent (begun_by p (command.Send loan) old answer)) received new
          skips skipped =
              send-quiet service after first
              (λ has. skip-due D SendLost (still-lost (command.Send loan) old answer new) sent received service answer after skipped has)
              came (unbegun-loan p loan old answer (ap has_begun skipped.0)) due

      pub send-due : AtOne (λ (service : Service T). at loan service.loans) (SendsLoan choices loan) old answer new
          → AreDue p s D sent received old
          → AreDue p s SendLost (noted sent (begun_by p (command.Send loan) old answer)) received new
      send-due h due =
          elim (at-one (λ (service : Service T). at loan service.loans) (SendsLoan choices loan) old answer new h) [
            | inl skipped ↦ send-unbegun (unbegun-loan p loan old answer (ap has_begun skipped.0))
                (are-due-on D SendLost (still-lost (command.Send loan) old answer new) sent received old new
                (ap (λ (state : State T). state.services) skipped.1) due)
            | inr w ↦ send-done w.0 w.2 w.1 w.3 w.4 w.5 w.6 due
          ]
