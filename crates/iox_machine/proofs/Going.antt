-- A command at a service or a node has an answer, which reports that memory ran out only where more memory is no help.
use Rattle.std.proofs.Common.{◌≡◌, ◌⊎◌, ◌+◌, ◌^◌, ℕ, Bool, true, false, cond, not, ◌&&◌, ◌||◌, List, [], ◌∷◌, ◌++◌, length, map}
use Rattle.std.proofs.Common.{replicate, Option, None, Some, Result, Ok, Err, refl, sym, ap, subst, inl, inr, ◌∙◌, true≢false}
use Rattle.std.proofs.lemmas.Bool.{eqb-true, eq-eqb}
use Rattle.std.specs.Global.{Vec}
use Rattle.std.specs.List.{AllByRecursion, list_any, list_all}
use Rattle.std.specs.Prelude.{◌==◌, nat_lt, nat_le, is_some, filter, find, fold, slice_get, unwrap_or, zip, MatchBool, MatchOption}
use Rattle.std.specs.Vec.{vec_items}
use Rattle.iox_machine.proofs.Shorthands.{now_at, parting, registered, taken, with_subscriber}
use Rattle.iox_machine.proofs.Shorthands.{has_data, AtFree, AtBlocked, gone_from}
use Rattle.iox_machine.proofs.Shorthands.{is_used_up}
use Rattle.iox_machine.proofs.Arrived.{free-place}
use Rattle.iox_machine.proofs.Calling.{Ends}
use Rattle.iox_machine.proofs.Skipped.{find-alike}
use Rattle.iox_machine.proofs.Sufficing.{HasMemory, IsBeyond, LendsSo, fails-as-full, kept-have-memory, lends-or-beyond, listed-have-memory}
use Rattle.iox_machine.specs.Factories.{with_open}
use Rattle.iox_machine.specs.MemoryLaws.{is_for_memory, reports_memory}
use Rattle.std.specs.Option.{option_map_or}
use Rattle.iox_command.specs.DomainValues.declared.connection_failure.ConnectionFailure.TheVariants.{FailedToEstablishConnection}
use Rattle.iox_command.specs.DomainValues.declared.connection_failure.ZeroCopyCreationError.TheVariants.{ExpiredConnectionBufferFull}
use Rattle.iox_machine.specs.Choices.{Choices}
use Rattle.iox_machine.proofs.AlwaysChosen.{answers-go, delivers-goes}
use Rattle.iox_machine.proofs.Delivering.{Outcomes, keeping, sending}
use Rattle.iox_machine.specs.PublisherUpdate.{UpdateAnswers}
use Rattle.iox_machine.specs.Arriving.{PublisherArrives, SubscriberArrives, worst_case}
use Rattle.iox_machine.specs.Closing.{Closes, is_used_by}
use Rattle.iox_machine.specs.Factories.{Negotiates, Enters}
use Rattle.iox_machine.specs.GoingLaws.{AlwaysChoose}
use Rattle.iox_machine.specs.Mailbox.{Mailbox}
use Rattle.iox_machine.specs.Message.{Message, Loan}
use Rattle.iox_machine.specs.Negotiation.{Call, Answer}
use Rattle.iox_machine.specs.Phase.{same_pattern}
use Rattle.iox_machine.specs.PortList.{those, unless}
use Rattle.iox_machine.specs.Ports.{publisher_in, LendsLoan, Puts, SendsLoan, Writes}
use Rattle.iox_machine.specs.PublisherUpdate as publishing
use Rattle.iox_machine.specs.Receiving.{Receives, IsGiver, gives, has_samples, lasting, Takes}
use Rattle.iox_machine.specs.Run.{AtFactory}
use Rattle.iox_machine.specs.RunLaws.{AllMessages, sent_as, is_written}
use Rattle.iox_machine.specs.Sending.{GoesOn, Begins, Sends}
use Rattle.iox_machine.specs.Service.{Service, Publisher, Subscriber, Send, mailbox, with_mailbox, connect}
use Rattle.iox_machine.proofs.Shorthands.{with_publisher, IsSkipped, IsRefused, closed_by}
use Rattle.iox_machine.specs.State.{State, Factory, AtOne, is_service_of, counted, replaced, with_phase}
use Rattle.std.specs.Prelude.{bytes_eq, MatchResult}
use Rattle.iox_machine.specs.SubscriberUpdate as subscribing
use Rattle.iox_machine.specs.SubscriberUpdate.{Parted, part}
use Rattle.iox_machine.specs.Table.{at, changed, contains, removed}
use Rattle.iox_machine.proofs.Cases.{both-true}
use Rattle.iox_machine.proofs.Lists.{first-of, first-there, fold-keeps}
use Rattle.iox_machine.proofs.Names.{and-true}
use Rattle.iox_machine.proofs.Sound.{find-passes}
use Rattle.iox_command.specs.DomainValues.declared.connection_failure.ConnectionFailure.{ConnectionFailure}
use Rattle.iox_command.specs.DomainValues.declared.create_error.PublisherCreateError.TheVariants as publisher_error
use Rattle.iox_command.specs.DomainValues.declared.create_error.SubscriberCreateError.TheVariants as subscriber_error
use Rattle.iox_command.specs.DomainValues.declared.port_error.LoanError.{LoanError}
use Rattle.iox_command.specs.DomainValues.declared.port_error.LoanError.TheVariants as loan_error
use Rattle.iox_command.specs.DomainValues.declared.port_error.ReceiveError.TheVariants as receive_error
use Rattle.iox_command.specs.DomainValues.declared.port_error.SendError.TheVariants as error
use Rattle.iox_command.specs.NegotiateBase.DescribeBase.declared.message_type.MessageTypeDetails.{MessageTypeDetails}
use Rattle.iox_command.specs.NegotiateBase.declared.errors.close.CloseError.TheVariants.{StillInUse}
use Rattle.iox_command.specs.declared.refusal.Refusal.{Refusal}
use Rattle.iox_command.specs.declared.refusal.Refusal.TheVariants as refusal
use Rattle.iox_command.specs.declared.reply.Reply.{Reply}
use Rattle.iox_command.specs.declared.reply.Reply.TheVariants as reply
use Rattle.iox_command.specs.DomainValues.declared.degradation.DegradationAction.{DegradationAction}

-- ---- cases

-- The reply doesn't report that memory ran out, or more memory is no help.
abbrev pub IsRight : {T : Type 0} → Type 0 → Reply T → Type 0
IsRight May answer = reports_memory answer ≡ true → May

pub never : {May : Type 0} → false ≡ true → May
never is = absurd (true≢false (sym is))

module _ {T S : Type 0} where
  -- Something is answered, and not that memory ran out, unless this may be.
  abbrev pub Answered : Type 0 → (Reply T → S → Type 0) → Type 0
  Answered May Does = (answer : Reply T) × (new : S) × Does answer new × IsRight May answer

  pub skip : {May : Type 0} (old : S) → Answered May (IsSkipped old)
  skip old = (reply.Skipped, old, (refl, refl), never)

  pub refuse : {May : Type 0} (why : Refusal) (old : S) → is_for_memory why ≡ false → Answered May (IsRefused why old)
  refuse why old other = (reply.Refused why, old, (refl, refl), λ is. never (sym other ∙ is))

  pub if-bool : {May : Type 0} (b : Bool) (A B : Reply T → S → Type 0) → (b ≡ true → Answered May A) → (b ≡ false → Answered May B)
      → Answered May (λ answer new. MatchBool b (A answer new) (B answer new))
  if-bool true A B a other = a refl
  if-bool false A B a other = other refl

  pub if-option : {May V : Type 0} (o : Option V) (A : Reply T → S → Type 0) (B : V → Reply T → S → Type 0) → (o ≡ None → Answered May A)
      → ((v : V) → o ≡ Some v → Answered May (B v))
      → Answered May (λ answer new. MatchOption o (A answer new) (λ v. B v answer new))
  if-option None A B a other = a refl
  if-option (Some v) A B a other = other v refl

-- ---- lists

any-one : (test : ℕ → Bool) (xs : List ℕ) → list_any test xs ≡ true → (x : ℕ) × ((contains xs x && test x) ≡ true)
any-one test [] is = absurd (true≢false (sym is))
any-one test (y ∷ xs) is = here (test y) refl is (any-one test xs)
  where
    mine : (b : Bool) → b ≡ true → (b || contains xs y) ≡ true
    mine true same = refl
    mine false same = absurd (true≢false (sym same))

    late : (b c : Bool) → c ≡ true → (b || c) ≡ true
    late true c same = refl
    late false c same = same

    here : (b : Bool) → test y ≡ b → (b || list_any test xs) ≡ true
        → (list_any test xs ≡ true → (x : ℕ) × ((contains xs x && test x) ≡ true)) → (x : ℕ) × ((contains (y ∷ xs) x && test x) ≡ true)
    here true passes found on = (y, and-true (contains (y ∷ xs) y) (test y) (mine (y == y) (eq-eqb y y refl)) passes)
    here false fails found on =
        let more : (x : ℕ) × ((contains xs x && test x) ≡ true) = on found in (
          more.0,
          and-true (contains (y ∷ xs) more.0) (test more.0)
              (late (y == more.0) (contains xs more.0) (both-true (contains xs more.0) (test more.0) more.1).0)
              (both-true (contains xs more.0) (test more.0) more.1).1,
        )

-- ---- a service

module _ {T : Type 0} (choices : Choices T) (always : AlwaysChoose choices) (May : Type 0) where
  -- what comes of something that an update answers
  if-outcome : (Acts : DegradationAction → Type 0) (places : List (Option ℕ × Option ℕ)) (A : Unit {0} → Reply T → Service T → Type 0)
      (B : ConnectionFailure → Reply T → Service T → Type 0) → ((action : DegradationAction) × Acts action)
      → AllByRecursion HasMemory places → ((v : Unit {0}) → Answered May (A v))
      → Answered May (B (FailedToEstablishConnection ExpiredConnectionBufferFull))
      → Answered May (λ answer new. Outcomes Acts places (λ v. A v answer new) (λ e. B e answer new))
  if-outcome Acts places A B may enough a other = here (answers-go Acts may.0 may.1 places)
    where
      here : (outcome : Result (Unit {0}) ConnectionFailure) × UpdateAnswers Acts places outcome
          → Answered May (λ answer new. Outcomes Acts places (λ v. A v answer new) (λ e. B e answer new))
      here (Ok v, answers) = let did = a v in (did.0, did.1, (Ok v, answers, did.2), did.3)
      here (Err e, answers) =
          let did : Answered May (B e) =
          subst (λ (it : ConnectionFailure). Answered May (B it)) (sym (fails-as-full Acts places e enough answers)) other in
          (did.0, did.1, (Err e, answers, did.2), did.3)

  pub at-one-goes : {V : Type 0} (found : Service T → Option V) (Does : V → Service T → Reply T → Service T → Type 0) (old : State T)
      → ((one : V) (service : Service T) → find (λ (other : Service T). is_some (found other)) old.services ≡ Some service
      → found service ≡ Some one → Answered May (Does one service))
      → Answered May (AtOne found Does old)
  at-one-goes {V} found Does old does =
      if-option (find (λ (other : Service T). is_some (found other)) old.services) (IsSkipped old)
      (λ service answer new. (after : Service T) × MatchOption (found service) ⊥ (λ one. Does one service answer after)
      × (new ≡ record old {
        made = counted answer old.made;
        services = replaced (λ (other : Service T). is_some (found other)) after old.services;
      })) (λ none. skip old)
      (λ service first. there service first (found service) refl
      (find-passes (λ (other : Service T). is_some (found other)) old.services service first))
    where
      there : (service : Service T) → find (λ (other : Service T). is_some (found other)) old.services ≡ Some service → (o : Option V)
          → found service ≡ o → is_some o ≡ true
          → Answered May (λ answer new. (after : Service T) × MatchOption (found service) ⊥ (λ one. Does one service answer after)
          × (new ≡ record old {
            made = counted answer old.made;
            services = replaced (λ (other : Service T). is_some (found other)) after old.services;
          }))
      there service first None same is = absurd (true≢false (sym is))
      there service first (Some one) same is =
          let did : Answered May (Does one service) = does one service first same in (
            did.0,
            record old {
              made = counted did.0 old.made;
              services = replaced (λ (other : Service T). is_some (found other)) did.1 old.services;
            },
            (did.1, subst (λ (o : Option V). MatchOption o ⊥ (λ it. Does it service did.0 did.1)) (sym same) did.2, refl),
            did.3,
          )

  pub at-free-goes : (number : ℕ) (Does : Publisher T → Service T → Reply T → Service T → Type 0) (old : State T)
      → ((one : Publisher T) (service : Service T)
      → find (λ (other : Service T). is_some (publisher_in number other)) old.services ≡ Some service
      → publisher_in number service ≡ Some one → Answered May (Does one service)) → Answered May (AtFree number Does old)
  at-free-goes number Does old does =
      at-one-goes (publisher_in number)
      (λ publisher service answer new. MatchOption publisher.blocked (Does publisher service answer new)
      (λ send. IsSkipped service answer new))
      old (λ one service first found. if-option one.blocked (Does one service) (λ send. IsSkipped service)
      (λ none. does one service first found) (λ send is. skip service))

  pub at-blocked-goes : (number : ℕ) (Does : Publisher T → Send T → Service T → Reply T → Service T → Type 0) (old : State T)
      → ((one : Publisher T) (send : Send T) (service : Service T) → Answered May (Does one send service))
      → Answered May (AtBlocked number Does old)
  at-blocked-goes number Does old does =
      at-one-goes (publisher_in number)
      (λ publisher service answer new. MatchOption publisher.blocked (IsSkipped service answer new)
      (λ send. Does publisher send service answer new))
      old (λ one service first found. if-option one.blocked (IsSkipped service) (λ send. Does one send service) (λ none. skip service)
      (λ send is. does one send service))

  pub at-factory-goes : (types : MessageTypeDetails) (choices : Choices T) (buffer number : ℕ)
      (Does : Service T → Reply T → Service T → Type 0) (old : State T)
      → ((service : Service T)
      → find (λ (it : Service T). option_map_or (λ (one : Factory). is_service_of one it) (at number old.factories) false) old.services
      ≡ Some service → Answered May (Does service))
      → Answered May (AtFactory types choices buffer number Does old)
  at-factory-goes types choices buffer number Does old does =
      if-option (at number old.factories) (IsSkipped old)
      (λ factory. AtOne (λ (service : Service T). cond (is_service_of factory service) (Some service) None)
      (λ (service : Service T). Does) old) (λ none. skip old)
      (λ factory is. at-one-goes (λ (service : Service T). cond (is_service_of factory service) (Some service) None)
      (λ (service : Service T). Does) old
      (λ one service first found. does service
      (find-alike
      (λ (it : Service T). option_map_or (λ (one : Factory). is_service_of one it) (at number old.factories) false)
      (λ (it : Service T). is_some (cond (is_service_of factory it) (Some it) None))
      (λ it. ap (λ (o : Option Factory). option_map_or (λ (one : Factory). is_service_of one it) o false) is
      ∙ some-if (is_service_of factory it) it) old.services ∙ first)))
    where
      some-if : (b : Bool) (service : Service T) → b ≡ is_some (cond b (Some service) None)
      some-if true service = refl
      some-if false service = refl

  -- ---- a publisher

  publisher-follows : (number : ℕ) (publisher : Publisher T) (old : Service T)
      → (after : Publisher T) × (mid : Service T) × publishing.Follows number publisher old after mid
      × AllByRecursion HasMemory (zip old.subscriber_list.places after.connected)
  publisher-follows number publisher old =
      let after : Publisher T = record publisher {
        seen = old.subscriber_list.changes;
        connected = map (unless []) old.subscriber_list.places;
      } in (
        after,
        fold (publishing.welcome number publisher.history) (with_publisher number after (publishing.ended number old))
            (filter (λ (subscriber : ℕ). not (contains (those publisher.connected) subscriber)) (those after.connected)),
        ([], refl, refl, refl),
        listed-have-memory old.subscriber_list.places,
      )

  pub publisher-updates : (number : ℕ) (told : ConnectionFailure → Refusal) (Does : Publisher T → Service T → Reply T → Service T → Type 0)
      (publisher : Publisher T) (old : Service T)
      → is_for_memory (told (FailedToEstablishConnection ExpiredConnectionBufferFull)) ≡ false
      → ((one : Publisher T) (mid : Service T) → Answered May (Does one mid))
      → Answered May (publishing.UpdatesFirst choices number told Does publisher old)
  publisher-updates number told Does publisher old other does =
      if-bool (publisher.seen == old.subscriber_list.changes) (Does publisher old)
      (λ answer new. (after : Publisher T) × (mid : Service T) × publishing.Follows number publisher old after mid
      × Outcomes (choices.publisher_acts number publisher.degradation) (zip old.subscriber_list.places after.connected)
      (λ done. Does after mid answer new) (λ failure. IsRefused (told failure) mid answer new))
      (λ is. does publisher old) (λ is. followed (publisher-follows number publisher old))
    where
      followed : (after : Publisher T) × (mid : Service T) × publishing.Follows number publisher old after mid
          × AllByRecursion HasMemory (zip old.subscriber_list.places after.connected)
          → Answered May (λ answer new. (after : Publisher T) × (mid : Service T) × publishing.Follows number publisher old after mid
          × Outcomes (choices.publisher_acts number publisher.degradation) (zip old.subscriber_list.places after.connected)
          (λ done. Does after mid answer new) (λ failure. IsRefused (told failure) mid answer new))
      followed (after, mid, came, enough) =
          let did : Answered May (λ answer new. Outcomes (choices.publisher_acts number publisher.degradation)
          (zip old.subscriber_list.places after.connected)
          (λ done. Does after mid answer new) (λ failure. IsRefused (told failure) mid answer new)) =
          if-outcome (choices.publisher_acts number publisher.degradation) (zip old.subscriber_list.places after.connected)
          (λ done. Does after mid) (λ failure. IsRefused (told failure) mid) (always.1 number publisher.degradation) enough
          (λ done. does after mid)
          (refuse (told (FailedToEstablishConnection ExpiredConnectionBufferFull)) mid other) in
          (did.0, did.1, (after, mid, came, did.2), did.3)

  pub goes-on-goes : (number : ℕ) (publisher : Publisher T) (send : Send T) (old : Service T)
      → Answered May (GoesOn choices number publisher send old)
  goes-on-goes number publisher send old =
      let went = delivers-goes choices always number publisher send.left send old in
      let after : Send T = went.0 in (
        cond (is_some (slice_get after.left 0)) reply.Blocked
            (cond after.fails (reply.Refused (refusal.Send error.UnableToDeliver)) (reply.Delivered after.delivered)),
        with_publisher number (record publisher { blocked = cond (is_some (slice_get after.left 0)) (Some after) None }) went.1,
        (after, went.1, went.2, refl, refl),
        over (is_some (slice_get after.left 0)) after.fails after.delivered,
      )
    where
      over : (blocked fails : Bool) (count : ℕ)
          → IsRight {T = T} May (cond blocked reply.Blocked
          (cond fails (reply.Refused (refusal.Send error.UnableToDeliver)) (reply.Delivered count)))
      over true fails count = never
      over false true count = never
      over false false count = never

  sends-go : (number : ℕ) (message : Message T) (publisher : Publisher T) (old : Service T)
      → Answered May (Sends choices number message publisher old)
  sends-go number message publisher old =
      if-bool publisher.stands
      (λ answer new. MatchBool (is_used_up publisher.last_sequence) (IsRefused (refusal.Send error.InternalError) old answer new)
      (publishing.UpdatesFirst choices number (λ failure. refusal.Send (error.ConnectionError failure)) (Begins choices number message)
      publisher old answer new))
      (IsRefused (refusal.Send error.ConnectionBrokenSinceSenderNoLongerExists) old)
      (λ stands. if-bool (is_used_up publisher.last_sequence) (IsRefused (refusal.Send error.InternalError) old)
      (publishing.UpdatesFirst choices number (λ failure. refusal.Send (error.ConnectionError failure)) (Begins choices number message)
      publisher old)
      (λ is. refuse (refusal.Send error.InternalError) old refl)
      (λ is. publisher-updates number (λ failure. refusal.Send (error.ConnectionError failure)) (Begins choices number message) publisher
      old refl
      (λ one mid. goes-on-goes number
      (keeping message one mid)
      (sending message one) mid)))
      (λ is. refuse (refusal.Send error.ConnectionBrokenSinceSenderNoLongerExists) old refl)

  pub loan-goes : (loan number count : ℕ) (value : Option T) (publisher : Publisher T) (old : Service T)
      → (IsBeyond number count publisher old → May) → Answered May (LendsLoan loan number count value publisher old)
  loan-goes loan number count value publisher old beyond = here (lends-or-beyond number count publisher old)
    where
      here : (refused : Option LoanError) × (after : Publisher T) × LendsSo number count publisher old refused after
          → Answered May (LendsLoan loan number count value publisher old)
      here (None, after, lent) = (
        reply.LoanMade loan,
        record (with_publisher number after old) {
          loans = old.loans ++ (loan, record { publisher = number; number = publisher.next; values = replicate count value }) ∷ [];
        },
        (None, after, lent.0, (refl, refl)),
        never,
      )
      here (Some why, after, lent) = (
        reply.Refused (refusal.Loan why),
        old,
        (Some why, after, lent.0, (refl, refl)),
        out why (λ told. beyond (lent.1 (ap Some told))),
      )
        where
          out : (why : LoanError) → (why ≡ loan_error.OutOfMemory → May) → IsRight {T = T} May (reply.Refused (refusal.Loan why))
          out loan_error.OutOfMemory may = λ is. may refl
          out loan_error.InternalFailure may = never
          out loan_error.ExceedsMaxLoans may = never
          out loan_error.ExceedsMaxLoanSize may = never

  pub put-goes : (number : ℕ) (values : List T) (publisher : Publisher T) (old : Service T)
      → (IsBeyond number (length values) publisher old → May) → Answered May (Puts choices number values publisher old)
  put-goes number values publisher old beyond = here (lends-or-beyond number (length values) publisher old)
    where
      here : (refused : Option LoanError) × (after : Publisher T) × LendsSo number (length values) publisher old refused after
          → Answered May (Puts choices number values publisher old)
      here (None, after, lent) =
          let did : Answered May (Sends choices number (record { number = publisher.next; sequence = None; values = values }) after
          (with_publisher number after old)) =
          sends-go number (record { number = publisher.next; sequence = None; values = values }) after (with_publisher number after old) in
          (did.0, did.1, (None, after, lent.0, did.2), did.3)
      here (Some why, after, lent) = (
        reply.Refused (refusal.Send (error.LoanError why)),
        old,
        (Some why, after, lent.0, (refl, refl)),
        out why (λ told. beyond (lent.1 (ap Some told))),
      )
        where
          out : (why : LoanError) → (why ≡ loan_error.OutOfMemory → May)
              → IsRight {T = T} May (reply.Refused (refusal.Send (error.LoanError why)))
          out loan_error.OutOfMemory may = λ is. may refl
          out loan_error.InternalFailure may = never
          out loan_error.ExceedsMaxLoans may = never
          out loan_error.ExceedsMaxLoanSize may = never

  pub send-goes : (number : ℕ) (loan : Loan T) (old : Service T) → Answered May (SendsLoan choices number loan old)
  send-goes number loan old =
      if-option (at loan.publisher old.publishers) (IsSkipped old)
      (λ publisher answer new. MatchBool (is_written loan && not (is_some publisher.blocked))
      (Sends choices loan.publisher (sent_as loan) publisher (record old { loans = removed number old.loans }) answer new)
      (IsSkipped old answer new)) (λ none. skip old)
      (λ publisher is. if-bool (is_written loan && not (is_some publisher.blocked))
      (Sends choices loan.publisher (sent_as loan) publisher (record old { loans = removed number old.loans })) (IsSkipped old)
      (λ fit. sends-go loan.publisher (sent_as loan) publisher (record old { loans = removed number old.loans })) (λ unfit. skip old))

  pub write-goes : (number : ℕ) (loan : Loan T) (fit : Bool) (values : List (Option T)) (old : Service T)
      → Answered May (Writes number loan fit values old)
  write-goes number loan fit values old =
      if-bool fit
      (λ answer new. (answer ≡ reply.Done) × (new ≡ record old { loans = changed number (record loan { values = values }) old.loans }))
      (IsSkipped old)
      (λ is. (reply.Done, record old { loans = changed number (record loan { values = values }) old.loans }, (refl, refl), never))
      (λ is. skip old)

  -- ---- a subscriber

  -- What waits is as before.
  abbrev pub WaitsAsBefore : Service T → Service T → Type 0
  WaitsAsBefore old new = (publisher subscriber : ℕ)
      → (mailbox publisher subscriber new).waiting ≡ (mailbox publisher subscriber old).waiting

  connect-waits : (limit publisher subscriber : ℕ) (old service : Service T) → WaitsAsBefore old service
      → WaitsAsBefore old (connect limit publisher subscriber service)
  connect-waits limit publisher subscriber old service same =
      here (service.mailboxes publisher subscriber) refl
    where
      fresh : Mailbox T
      fresh = record { limit = limit; waiting = []; borrowed = [] }

      none : Mailbox T
      none = record { limit = 0; waiting = []; borrowed = [] }

      at-pair : service.mailboxes publisher subscriber ≡ None → (one other : ℕ) (b c : Bool) → (one == publisher) ≡ b
          → (other == subscriber) ≡ c
          → (unwrap_or (cond (b && c) (Some fresh) (service.mailboxes one other)) none).waiting ≡ (mailbox one other service).waiting
      at-pair empty one other true true is so =
          sym (ap (λ (o : Option (Mailbox T)). (unwrap_or o none).waiting)
          (ap (λ (n : ℕ). service.mailboxes n other) (eqb-true one publisher is)
          ∙ (ap (λ (n : ℕ). service.mailboxes publisher n) (eqb-true other subscriber so) ∙ empty)))
      at-pair empty one other true false is so = refl
      at-pair empty one other false c is so = refl

      here : (o : Option (Mailbox T)) → service.mailboxes publisher subscriber ≡ o
          → WaitsAsBefore old (cond (is_some o) service (with_mailbox publisher subscriber fresh service))
      here None empty = λ one other.
          turned (one == publisher) (other == subscriber) one other
          (at-pair empty one other (one == publisher) (other == subscriber) refl refl)
        where
          turned : (b c : Bool) (one other : ℕ)
              → (unwrap_or (cond (b && c) (Some fresh) (service.mailboxes one other)) none).waiting ≡ (mailbox one other service).waiting
              → (unwrap_or (cond (b && c) (Some fresh) (service.mailboxes one other)) none).waiting ≡ (mailbox one other old).waiting
          turned b c one other is = is ∙ same one other
      here (Some box) is = same

  subscriber-follows : (buffer number : ℕ) (subscriber : Subscriber) (old : Service T)
      → (after : Subscriber) × (mid : Service T) × subscribing.Follows buffer number subscriber old after mid × WaitsAsBefore old mid
      × AllByRecursion HasMemory (zip old.publisher_list.places after.connected)
  subscriber-follows buffer number subscriber old =
      let places : List (Option ℕ × Option ℕ) = zip subscriber.connected old.publisher_list.places in
      let parted : Parted = fold (part buffer number old) (record { expired = subscriber.expired; staying = [] }) (parting places) in
      let connected : List (Option ℕ) = map (now_at parted.staying []) places in
      let after : Subscriber = record subscriber {
        seen = old.publisher_list.changes;
        again = list_any (λ (place : Option ℕ × Option ℕ). is_some place.1 && is_some (gone_from place))
            (zip connected old.publisher_list.places);
        connected = connected;
        expired = parted.expired;
      } in (
        after,
        fold (λ (service : Service T) (publisher : ℕ). connect subscriber.buffer_size publisher number service)
            (with_subscriber number after old)
            (those connected),
        ([], refl, connected, refl, refl, refl),
        fold-keeps (WaitsAsBefore old) (λ (service : Service T) (publisher : ℕ). connect subscriber.buffer_size publisher number service)
            (λ service publisher same. connect-waits subscriber.buffer_size publisher number old service same)
            (those connected) (with_subscriber number after old) (λ one other. refl),
        kept-have-memory parted.staying subscriber.connected old.publisher_list.places,
      )

  pub subscriber-updates : (buffer number : ℕ) (told : ConnectionFailure → Refusal)
      (Does : Subscriber → Service T → Reply T → Service T → Type 0) (subscriber : Subscriber) (old : Service T)
      → is_for_memory (told (FailedToEstablishConnection ExpiredConnectionBufferFull)) ≡ false
      → ((one : Subscriber) (mid : Service T) → WaitsAsBefore old mid → Answered May (Does one mid))
      → Answered May (subscribing.UpdatesFirst choices buffer number told Does subscriber old)
  subscriber-updates buffer number told Does subscriber old other does =
      if-bool ((subscriber.seen == old.publisher_list.changes) && not subscriber.again) (Does subscriber old)
      (λ answer new. (after : Subscriber) × (mid : Service T) × subscribing.Follows buffer number subscriber old after mid
      × Outcomes (choices.subscriber_acts number subscriber.degradation) (zip old.publisher_list.places after.connected)
      (λ done. Does after mid answer new) (λ failure. IsRefused (told failure) mid answer new))
      (λ is. does subscriber old (λ one other. refl)) (λ is. followed (subscriber-follows buffer number subscriber old))
    where
      followed : (after : Subscriber) × (mid : Service T) × subscribing.Follows buffer number subscriber old after mid
          × WaitsAsBefore old mid × AllByRecursion HasMemory (zip old.publisher_list.places after.connected)
          → Answered May (λ answer new. (after : Subscriber) × (mid : Service T)
          × subscribing.Follows buffer number subscriber old after mid
          × Outcomes (choices.subscriber_acts number subscriber.degradation) (zip old.publisher_list.places after.connected)
          (λ done. Does after mid answer new) (λ failure. IsRefused (told failure) mid answer new))
      followed (after, mid, came, same, enough) =
          let did : Answered May (λ answer new. Outcomes (choices.subscriber_acts number subscriber.degradation)
          (zip old.publisher_list.places after.connected)
          (λ done. Does after mid answer new) (λ failure. IsRefused (told failure) mid answer new)) =
          if-outcome (choices.subscriber_acts number subscriber.degradation) (zip old.publisher_list.places after.connected)
          (λ done. Does after mid) (λ failure. IsRefused (told failure) mid) (always.2 number subscriber.degradation) enough
          (λ done. does after mid same)
          (refuse (told (FailedToEstablishConnection ExpiredConnectionBufferFull)) mid other) in
          (did.0, did.1, (after, mid, came, did.2), did.3)

  -- The values of a message fit in a vector.
  abbrev pub Fits : Message T → Type 0
  Fits message = (values : Vec T) × (vec_items values ≡ message.values)

  -- What waits can be told.
  abbrev pub CanBeTold : Service T → Type 0
  CanBeTold service = (publisher subscriber : ℕ) → AllByRecursion Fits (mailbox publisher subscriber service).waiting

  pub can-be-told : (service : Service T) → AllMessages (λ publisher message. Fits message) service → CanBeTold service
  can-be-told service all publisher subscriber = here (service.mailboxes publisher subscriber) (all.0 publisher subscriber)
    where
      here : (o : Option (Mailbox T))
          → ((box : Mailbox T) → o ≡ Some box → AllByRecursion Fits box.waiting × AllByRecursion Fits box.borrowed)
          → AllByRecursion Fits (unwrap_or o (record { limit = 0; waiting = []; borrowed = [] })).waiting
      here None each = tt
      here (Some box) each = (each box refl).0

  pub receive-goes : (number sample : ℕ) (subscriber : Subscriber) (old : Service T) → CanBeTold old
      → Answered May (Receives number sample subscriber old)
  receive-goes number sample subscriber old can = here (find (gives number old) subscriber.expired) refl
    where
      swept : Service T
      swept = with_subscriber number (record subscriber { expired = lasting number old subscriber.expired }) old

      take-goes : (publisher : ℕ) → gives number old publisher ≡ true → Answered May (Takes number sample publisher swept)
      take-goes publisher is =
          let found : (message : Message T) × (slice_get (mailbox publisher number old).waiting 0 ≡ Some message) =
          first-there (mailbox publisher number old).waiting
          (both-true (has_data (mailbox publisher number old))
          (nat_lt (length (mailbox publisher number old).borrowed) old.settings.subscriber_max_borrowed_samples) is).0 in
          let fits : Fits found.0 = first-of Fits (mailbox publisher number old).waiting found.0 found.1 (can publisher number) in (
            reply.Received sample fits.0,
            with_mailbox publisher number (taken (mailbox publisher number old))
                (record swept {
                  samples = old.samples ++ (sample, record { publisher = publisher; subscriber = number; message = found.0 }) ∷ [];
                }),
            (found.0, fits.0, found.1, fits.1, refl, refl),
            never,
          )

      nothing : Reply T
      nothing = cond (has_samples number subscriber old)
          (reply.Refused (refusal.Receive receive_error.ExceedsMaxBorrows)) reply.NothingWaits

      idle : (b : Bool)
          → IsRight {T = T} May (cond b (reply.Refused (refusal.Receive receive_error.ExceedsMaxBorrows)) reply.NothingWaits)
      idle true = never
      idle false = never

      others : find (gives number old) subscriber.expired ≡ None → (b : Bool)
          → list_any (gives number old) (those subscriber.connected) ≡ b → Answered May (Receives number sample subscriber old)
      others off false none = (
        nothing,
        swept,
        (
          None,
          subst (λ (o : Option ℕ). IsGiver number o subscriber old None) (sym off) none,
          (refl, refl),
        ),
        idle (has_samples number subscriber old),
      )
      others off true some =
          let one : (x : ℕ) × ((contains (those subscriber.connected) x && gives number old x) ≡ true) =
          any-one (gives number old) (those subscriber.connected) some in
          let took : Answered May (Takes number sample one.0 swept) =
          take-goes one.0 (both-true (contains (those subscriber.connected) one.0) (gives number old one.0) one.1).1 in (
            took.0,
            took.1,
            (Some one.0, subst (λ (o : Option ℕ). IsGiver number o subscriber old (Some one.0)) (sym off) one.1, took.2),
            took.3,
          )

      here : (o : Option ℕ) → find (gives number old) subscriber.expired ≡ o → Answered May (Receives number sample subscriber old)
      here None off = others off (list_any (gives number old) (those subscriber.connected)) refl
      here (Some publisher) on =
          let took : Answered May (Takes number sample publisher swept) =
          take-goes publisher (find-passes (gives number old) subscriber.expired publisher on) in (
            took.0,
            took.1,
            (Some publisher, subst (λ (o : Option ℕ). IsGiver number o subscriber old (Some publisher)) (sym on) refl, took.2),
            took.3,
          )

  -- ---- nodes and factories

  pub negotiation-goes : {F : Type 0} (Calls : Call → Answer F → Call → Type 0) (told : F → Refusal) (lacking : Bool → F)
      (factory : Factory) (old : State T) → ((call : Call) → Ends told (Calls call))
      → Answered May (Negotiates Calls told lacking factory old)
  negotiation-goes {F} Calls told lacking factory old ends =
      if-bool (nat_le 1 factory.node && nat_le factory.node old.made.nodes)
      (λ answer new. IsRefused (told (lacking false)) old answer new
      ⊎ ((found : Result Bool F) × (after : Call) × Calls begun (Some found) after
      × MatchResult found
      (λ is_new. Enters factory after.phase (told (lacking is_new)) old answer new)
      (λ failure. IsRefused (told failure) (with_phase factory.pattern factory.name after.phase old) answer new)))
      (IsSkipped old)
      (λ is. here (ends begun)) (λ is. skip old)
    where
      begun : Call
      begun = record { phase = old.phases factory.pattern factory.name; accesses = 0 }

      here : Ends told (Calls begun) → Answered May (λ answer new. IsRefused (told (lacking false)) old answer new
          ⊎ ((found : Result Bool F) × (after : Call) × Calls begun (Some found) after
          × MatchResult found
          (λ is_new. Enters factory after.phase (told (lacking is_new)) old answer new)
          (λ failure. IsRefused (told failure) (with_phase factory.pattern factory.name after.phase old) answer new)))
      here (Ok is_new, after, went, fine) = (
        reply.FactoryMade (old.made.factories + 1),
        record (with_phase factory.pattern factory.name after.phase old) {
          made = record old.made { factories = old.made.factories + 1 };
          factories = old.factories ++ (old.made.factories + 1, factory) ∷ [];
          services = with_open factory.name after.phase old.services;
        },
        inr (Ok is_new, after, went, inl (refl, refl)),
        never,
      )
      here (Err failure, after, went, other) = (
        reply.Refused (told failure),
        with_phase factory.pattern factory.name after.phase old,
        inr (Err failure, after, went, (refl, refl)),
        λ is. never (sym other ∙ is),
      )

  pub close-goes : (number : ℕ) (old : State T) → Answered May (Closes number old)
  close-goes number old =
      if-option (at number old.factories) (IsSkipped old)
      (λ factory answer new. MatchBool
      (list_any (λ (service : Service T). is_service_of factory service && is_used_by number service) old.services)
      (IsRefused (refusal.Close StillInUse) old answer new)
      ((answer ≡ reply.Done) × (new ≡ ended factory))) (λ none. skip old)
      (λ factory is. if-bool (list_any (λ (service : Service T). is_service_of factory service && is_used_by number service) old.services)
      (IsRefused (refusal.Close StillInUse) old) (λ answer new. (answer ≡ reply.Done) × (new ≡ ended factory))
      (λ used. refuse (refusal.Close StillInUse) old refl) (λ unused. (reply.Done, ended factory, (refl, refl), never)))
    where
      ended : Factory → State T
      ended factory = record (with_phase factory.pattern factory.name (closed_by factory.node (old.phases factory.pattern factory.name))
          old) {
            factories = removed number old.factories;
            services = cond (list_any (λ (entry : ℕ × Factory). same_pattern entry.1.pattern factory.pattern
                && bytes_eq entry.1.name factory.name)
                (removed number old.factories))
                old.services (filter (λ (service : Service T). not (is_service_of factory service)) old.services);
          }

  pub publisher-goes : (number : ℕ) (one : Publisher T) (old : Service T)
      → ((nat_le (2 ^ 32) (worst_case old.settings one.max_loaned_samples) || nat_le (2 ^ 32) one.room) ≡ true → May)
      → Answered May (PublisherArrives number one old)
  publisher-goes number one old large =
      if-bool (nat_le (2 ^ 32) (worst_case old.settings one.max_loaned_samples) || nat_le (2 ^ 32) one.room)
      (IsRefused (refusal.Publisher publisher_error.UnableToCreateDataSegment) old)
      (λ answer new. MatchBool (list_all is_some old.publisher_list.places)
      (IsRefused (refusal.Publisher publisher_error.ExceedsMaxSupportedPublishers) old answer new) (Comes answer new))
      (λ is. (reply.Refused (refusal.Publisher publisher_error.UnableToCreateDataSegment), old, (refl, refl), λ told. large is))
      (λ is. if-bool (list_all is_some old.publisher_list.places)
      (IsRefused (refusal.Publisher publisher_error.ExceedsMaxSupportedPublishers) old) Comes
      (λ full. refuse (refusal.Publisher publisher_error.ExceedsMaxSupportedPublishers) old refl)
      (λ free. comes (free-place old.publisher_list.places free)
      (publisher-follows number one (record old { publishers = old.publishers ++ (number, one) ∷ [] }))))
    where
      Comes : Reply T → Service T → Type 0
      Comes answer new =
          (IsRefused (refusal.Publisher publisher_error.UnableToCreateDataSegment) old answer new)
          ⊎ ((place : ℕ) × (slice_get old.publisher_list.places place ≡ Some None) × (after : Publisher T) × (mid : Service T)
          × publishing.Follows number one (record old { publishers = old.publishers ++ (number, one) ∷ [] }) after mid
          × (answer ≡ reply.PublisherMade number) × (new ≡ record mid { publisher_list = registered place number mid.publisher_list }))

      comes : (place : ℕ) × (slice_get old.publisher_list.places place ≡ Some None)
          → (after : Publisher T) × (mid : Service T)
          × publishing.Follows number one (record old { publishers = old.publishers ++ (number, one) ∷ [] }) after mid
          × AllByRecursion HasMemory (zip old.subscriber_list.places after.connected) → Answered May Comes
      comes (place, free) (after, mid, came, enough) = (
        reply.PublisherMade number,
        record mid { publisher_list = registered place number mid.publisher_list },
        inr (place, free, after, mid, came, refl, refl),
        never,
      )

  pub subscriber-goes : (buffer number : ℕ) (one : Subscriber) (old : Service T) → Answered May (SubscriberArrives buffer number one old)
  subscriber-goes buffer number one old =
      if-bool (nat_lt old.settings.subscriber_max_buffer_size one.buffer_size)
      (IsRefused (refusal.Subscriber subscriber_error.BufferSizeExceedsMaxSupportedBufferSizeOfService) old)
      (λ answer new. MatchBool (list_all is_some old.subscriber_list.places)
      (IsRefused (refusal.Subscriber subscriber_error.ExceedsMaxSupportedSubscribers) old answer new) (Comes answer new))
      (λ is. refuse (refusal.Subscriber subscriber_error.BufferSizeExceedsMaxSupportedBufferSizeOfService) old refl)
      (λ is. if-bool (list_all is_some old.subscriber_list.places)
      (IsRefused (refusal.Subscriber subscriber_error.ExceedsMaxSupportedSubscribers) old) Comes
      (λ full. refuse (refusal.Subscriber subscriber_error.ExceedsMaxSupportedSubscribers) old refl)
      (λ free. comes (free-place old.subscriber_list.places free)
      (subscriber-follows buffer number one (record old { subscribers = old.subscribers ++ (number, one) ∷ [] }))))
    where
      Comes : Reply T → Service T → Type 0
      Comes answer new =
          (IsRefused (refusal.Subscriber subscriber_error.OutOfMemory) old answer new)
          ⊎ ((place : ℕ) × (slice_get old.subscriber_list.places place ≡ Some None) × (after : Subscriber) × (mid : Service T)
          × subscribing.Follows buffer number one (record old { subscribers = old.subscribers ++ (number, one) ∷ [] }) after mid
          × (answer ≡ reply.SubscriberMade number) × (new ≡ record mid { subscriber_list = registered place number mid.subscriber_list }))

      comes : (place : ℕ) × (slice_get old.subscriber_list.places place ≡ Some None)
          → (after : Subscriber) × (mid : Service T)
          × subscribing.Follows buffer number one (record old { subscribers = old.subscribers ++ (number, one) ∷ [] }) after mid
          × WaitsAsBefore (record old { subscribers = old.subscribers ++ (number, one) ∷ [] }) mid
          × AllByRecursion HasMemory (zip old.publisher_list.places after.connected) → Answered May Comes
      comes (place, free) (after, mid, came, same, enough) = (
        reply.SubscriberMade number,
        record mid { subscriber_list = registered place number mid.subscriber_list },
        inr (place, free, after, mid, came, refl, refl),
        never,
      )
