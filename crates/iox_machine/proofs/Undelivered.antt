-- What a send leaves that couldn't deliver.
use Rattle.std.proofs.Common.{◌≡◌, ◌≤◌, ◌<◌, ◌⊎◌, ◌+◌, ◌-◌, ℕ, Bool, true, false, cond, not, ◌&&◌, ◌||◌, List, [], ◌∷◌, ◌++◌, length}
use Rattle.std.proofs.Common.{drop, Option, None, Some, refl, sym, ap, subst, inl, inr, arith, ◌∙◌, length-append, true≢false}
use Rattle.std.proofs.lemmas.Bool.{eq-eqb, eqb-false, eqb-true, leb-false, or_right}
use Rattle.std.specs.Option.{option_map_or}
use Rattle.std.specs.Prelude.{◌==◌, find, is_some, nat_le, slice_get, unwrap_or, MatchBool, MatchOption, zip}
use Rattle.iox_machine.specs.Choices.{Choices}
use Rattle.iox_machine.proofs.Delivering.{Outcomes, by-outcome, keeping, sending, at_once, by-send}
use Rattle.iox_machine.specs.RunLaws.{numbered, sent_as, is_written}
use Rattle.iox_machine.specs.Mailbox.{Mailbox, newest, put}
use Rattle.iox_machine.specs.Message.{Loan, Message}
use Rattle.iox_machine.specs.PortList.{those}
use Rattle.iox_machine.specs.Ports.{Puts, SendsLoan, publisher_in}
use Rattle.iox_machine.specs.PublisherUpdate as publishing
use Rattle.iox_machine.specs.RefusalLaws.{IsRetried, IsSentBy, IsUndelivered, KeepsMessages, KeepsPorts, LacksOne, RetriesLeave}
use Rattle.iox_machine.specs.RefusalLaws.{UndeliveredLeaves, is_sending, loans_left, offered_to}
use Rattle.iox_machine.specs.Run.{Runs, Step}
use Rattle.iox_machine.specs.Sending.{Begins, GoesOn, Sends, Delivers, MayDecide}
use Rattle.iox_machine.specs.Service.{Publisher, Send, Service, Subscriber, mailbox, with_mailbox}
use Rattle.iox_machine.proofs.Shorthands.{with_publisher, IsSkipped, IsRefused}
use Rattle.iox_machine.specs.State.{State, new_state, replaced}
use Rattle.iox_machine.specs.Table.{at, contains, removed}
use Rattle.iox_machine.proofs.Cases.{both-true, by-bool, by-option, chosen, never-some}
use Rattle.iox_machine.proofs.Frames.{box-aside, box-same, publisher-stands}
use Rattle.iox_machine.proofs.Moving.{at-one}
use Rattle.iox_machine.proofs.Order.{absurd-both, follows-publishers}
use Rattle.iox_machine.proofs.OrderLaws.{connects-once, waits-once}
use Rattle.iox_machine.proofs.Parts.{Once, once-past, once-tail, once-unless}
use Rattle.iox_machine.proofs.RefusedPorts.{Alike, Left, left-lent, left-same, lends-alike, never-told, tells_why}
use Rattle.iox_machine.proofs.Tables.{at-changed}
use Rattle.iox_machine.proofs.Through.{keeps-loans, keeps-messages, keeps-ports}
use Rattle.iox_command.specs.DomainValues.Actions.{decision_of}
use Rattle.iox_command.specs.DomainValues.declared.backpressure.BackpressureDecision.TheVariants.{Retry, DiscardData, DiscardDataAndFail}
use Rattle.iox_command.specs.DomainValues.declared.connection_failure.ConnectionFailure.{ConnectionFailure}
use Rattle.iox_command.specs.DomainValues.declared.port_error.LoanError.{LoanError}
use Rattle.iox_command.specs.DomainValues.declared.port_error.SendError.TheVariants as error
use Rattle.iox_command.specs.NegotiateBase.DescribeBase.declared.message_type.MessageTypeDetails.{MessageTypeDetails}
use Rattle.iox_command.specs.declared.command.Command.{Command}
use Rattle.iox_command.specs.declared.command.Command.TheVariants as command
use Rattle.iox_command.specs.declared.refusal.Refusal.TheVariants as refusal
use Rattle.iox_command.specs.declared.reply.Reply.{Reply}
use Rattle.iox_command.specs.declared.reply.Reply.TheVariants as reply

-- the newest of a list that isn't too long are all of it
newest-all : {X : Type 0} (n : ℕ) (xs : List X) → length xs ≤ n → newest n xs ≡ xs
newest-all n xs fits = ap (λ (k : ℕ). drop k xs) (none fits)
  where
    none : length xs ≤ n → length xs - n ≡ 0
    none fits = omega (arith, fits)

module _ {T : Type 0} where
  -- ---- a full mailbox, and one with room

  abbrev is_full : Mailbox T → Bool
  is_full box = nat_le box.limit (length box.waiting)

  put-none : (overflows : Bool) (message : Message T) (box : Mailbox T) → put overflows message box ≡ None
      → (overflows ≡ false) × (is_full box ≡ true)
  put-none overflows message box e =
      elim (chosen (not overflows && is_full box) None
      (Some (record box { waiting = newest box.limit (box.waiting ++ message ∷ []) })) None e) [
        | inl w ↦ (unlike overflows (both-true (not overflows) (is_full box) w.0).0, (both-true (not overflows) (is_full box) w.0).1)
        | inr w ↦ never-some (record box { waiting = newest box.limit (box.waiting ++ message ∷ []) }) (sym w.1)
      ]
    where
      unlike : (b : Bool) → not b ≡ true → b ≡ false
      unlike true e = sym e
      unlike false e = refl

  put-offered : (overflows : Bool) (message : Message T) (box : Mailbox T) → overflows ≡ false
      → unwrap_or (put overflows message box) box ≡ offered_to message box
  put-offered overflows message box none =
      ap (λ (b : Bool). unwrap_or (cond (not b && is_full box) None
      (Some (record box { waiting = newest box.limit (box.waiting ++ message ∷ []) }))) box) none ∙ here (is_full box) refl
    where
      here : (b : Bool) → is_full box ≡ b
          → unwrap_or (cond b None (Some (record box { waiting = newest box.limit (box.waiting ++ message ∷ []) }))) box
          ≡ cond b box (record box { waiting = box.waiting ++ message ∷ [] })
      here true full = refl
      here false free =
          ap (λ (l : List (Message T)). record box { waiting = l })
          (newest-all box.limit (box.waiting ++ message ∷ []) (room (leb-false box.limit (length box.waiting) free)
          (length-append box.waiting (message ∷ []))))
        where
          room : length box.waiting < box.limit → length (box.waiting ++ message ∷ []) ≡ length box.waiting + 1
              → length (box.waiting ++ message ∷ []) ≤ box.limit
          room h k = omega (arith, h, k)

  -- ---- what is delivered

  module _ (number : ℕ) (one : Publisher T) (message : Message T) where
    abbrev counts : ℕ → Service T → Bool
    counts s service =
        option_map_or (λ (it : Subscriber). it.stands && contains (those it.connected) number) (at s service.subscribers) false

    abbrev Lacks : (choices : Choices T) → List ℕ → Service T → Type 0
    Lacks choices left service = LacksOne choices number one left service

    -- a mailbox once the message was put there, if that is possible
    abbrev put_so : Service T → Mailbox T → Mailbox T
    put_so service box = unwrap_or (put service.settings.enable_safe_overflow message box) box

    abbrev Goes : List ℕ → Service T → Service T → Type 0
    Goes left service after = (p s : ℕ) → mailbox p s after
        ≡ cond ((p == number) && contains left s) (put_so service (mailbox p s service)) (mailbox p s service)

    abbrev ends : Send T × Service T → Bool
    ends after = is_some (slice_get after.0.left 0)

    -- what comes of a send that goes on to some subscribers
    abbrev Came : (choices : Choices T) → List ℕ → Send T → Service T → Send T × Service T → Type 0
    Came choices left send service after =
        (after.1 ≡ record service { mailboxes = after.1.mailboxes })
        × (after.0.fails ≡ true → (send.fails ≡ true) ⊎ Lacks choices left service)
        × (ends after ≡ false → Goes left service after.1)

    differs : (t s : ℕ) (more : List ℕ) → contains more t ≡ false → contains more s ≡ true → s ≡ t → ⊥
    differs t s more past is same = absurd-both (contains more t) (ap (contains more) (sym same) ∙ is) past

    aside : (t s : ℕ) (box : Mailbox T) (service : Service T) → (s ≡ t → ⊥)
        → mailbox number s (with_mailbox number t box service) ≡ mailbox number s service
    aside t s box service off =
        ap (λ (o : Option (Mailbox T)). unwrap_or o (record { limit = 0; waiting = []; borrowed = [] }))
        (box-aside number t box service number s off)

    -- what is passed over at a full mailbox
    passes : (t : ℕ) (more : List ℕ) (service after : Service T) → contains more t ≡ false
        → put service.settings.enable_safe_overflow message (mailbox number t service) ≡ None → Goes more service after
        → Goes (t ∷ more) service after
    passes t more service after past full on p s = here (p == number) refl (t == s) refl (on p s)
      where
        here : (b : Bool) → (p == number) ≡ b → (c : Bool) → (t == s) ≡ c
            → mailbox p s after ≡ cond (b && contains more s) (put_so service (mailbox p s service)) (mailbox p s service)
            → mailbox p s after ≡ cond (b && (c || contains more s)) (put_so service (mailbox p s service)) (mailbox p s service)
        here false off c is so = so
        here true same false other so = so
        here true same true is so =
            so
            ∙ (ap (λ (b : Bool). cond b (put_so service (mailbox p s service)) (mailbox p s service))
            (ap (contains more) (sym (eqb-true t s is)) ∙ past)
            ∙ sym (ap (λ (o : Option (Mailbox T)). unwrap_or o (mailbox p s service))
            (ap (λ (k : ℕ). put service.settings.enable_safe_overflow message (mailbox k s service)) (eqb-true p number same)
            ∙ (ap (λ (k : ℕ). put service.settings.enable_safe_overflow message (mailbox number k service)) (sym (eqb-true t s is))
            ∙ full))))

    weaker : (choices : Choices T) (t : ℕ) (more : List ℕ) (service : Service T) → Lacks choices more service
        → Lacks choices (t ∷ more) service
    weaker choices t more service (overflow, decided, (lacking, is, full, counted)) =
        (overflow, decided, (lacking, or_right (t == lacking) (contains more lacking) is, full, counted))

    offered-came : (choices : Choices T) (t : ℕ) (more : List ℕ) (service : Service T) (met : Option (Mailbox T)) (send after : Send T)
        (new : Service T)
        → put service.settings.enable_safe_overflow message (mailbox number t service) ≡ met
        → contains more t ≡ false
        → ((next : Send T) (mid : Service T) → Delivers choices number one more next mid after new → next.message ≡ message
        → Came choices more next mid (after, new))
        → send.message ≡ message
        → MatchOption met
        ((MayDecide choices number one t send service Retry × (after ≡ record send { left = t ∷ more }) × (new ≡ service))
        ⊎ (MayDecide choices number one t send service DiscardData
        × Delivers choices number one more (record send { retries = 0; elapsed = 0 }) service after new)
        ⊎ (MayDecide choices number one t send service DiscardDataAndFail
        × Delivers choices number one more (record send { retries = 0; elapsed = 0; fails = true }) service after new))
        (λ box. Delivers choices number one more (record send { retries = 0; elapsed = 0; delivered = send.delivered + 1 })
        (with_mailbox number t box service) after new)
        → Came choices (t ∷ more) send service (after, new)
    offered-came choices t more service (Some box) send after new puts past on same went =
        let next : Send T = record send { retries = 0; elapsed = 0; delivered = send.delivered + 1 } in
        let mid : Service T = with_mailbox number t box service in
        let rest : Came choices more next mid (after, new) = on next mid went same in (
          rest.0,
          (λ fails. elim (rest.1 fails) [
            | inl was ↦ inl was
            | inr lacks ↦ inr (
              lacks.0,
              lacks.1,
              (
                lacks.2.0,
                or_right (t == lacks.2.0) (contains more lacks.2.0) lacks.2.1,
                sym (ap is_full (aside t lacks.2.0 box service (differs t lacks.2.0 more past lacks.2.1))) ∙ lacks.2.2,
                lacks.2.3,
              ),
            )
          ]),
          (λ over p s. here p s (mailbox p s new) (p == number) refl (t == s) refl
              (rest.2 over p s)),
        )
      where
        here : (p s : ℕ) (now : Mailbox T) (b : Bool) → (p == number) ≡ b → (c : Bool)
            → (t == s) ≡ c
            → now ≡ cond (b && contains more s) (put_so service (mailbox p s (with_mailbox number t box service)))
            (mailbox p s (with_mailbox number t box service))
            → now ≡ cond (b && (c || contains more s)) (put_so service (mailbox p s service)) (mailbox p s service)
        here p s now false off c is so =
            so
            ∙ ap (λ (b : Bool). unwrap_or (cond (b && (s == t)) (Some box) (service.mailboxes p s))
            (record { limit = 0; waiting = []; borrowed = [] })) off
        here p s now true found false other so =
            subst (λ (it : Mailbox T). now ≡ cond (contains more s) (put_so service it) it)
            (ap (λ (k : ℕ). mailbox k s (with_mailbox number t box service)) (eqb-true p number found)
            ∙ (aside t s box service (λ e. eqb-false t s other (sym e))
            ∙ ap (λ (k : ℕ). mailbox k s service) (sym (eqb-true p number found)))) so
        here p s now true found true is so =
            so
            ∙ (ap (λ (b : Bool). cond b (put_so service (mailbox p s (with_mailbox number t box service)))
            (mailbox p s (with_mailbox number t box service))) (ap (contains more) (sym (eqb-true t s is)) ∙ past)
            ∙ (ap (λ (k : ℕ). mailbox k s (with_mailbox number t box service)) (eqb-true p number found)
            ∙ (ap (λ (k : ℕ). mailbox number k (with_mailbox number t box service)) (sym (eqb-true t s is))
            ∙ (ap (λ (o : Option (Mailbox T)). unwrap_or o (record { limit = 0; waiting = []; borrowed = [] }))
            (box-same number t box service)
            ∙ (sym (ap (λ (o : Option (Mailbox T)). unwrap_or o (mailbox number t service)) puts)
            ∙ (ap (λ (k : ℕ). put_so service (mailbox number k service)) (eqb-true t s is)
            ∙ ap (λ (k : ℕ). put_so service (mailbox k s service)) (sym (eqb-true p number found))))))))
    offered-came choices t more service None send after new puts past on same (inl (may, is, stays)) = (
      stays ∙ ap (λ (it : Service T). record service { mailboxes = it.mailboxes }) (sym stays),
      (λ fails. inl (sym (ap (λ (it : Send T). it.fails) is) ∙ fails)),
      (λ over. absurd (true≢false (sym (ap (λ (it : Send T). is_some (slice_get it.left 0)) is) ∙ over))),
    )
    offered-came choices t more service None send after new puts past on same (inr (inl (may, went))) =
        let next : Send T = record send { retries = 0; elapsed = 0 } in
        let rest : Came choices more next service (after, new) = on next service went same in
        let full : (service.settings.enable_safe_overflow ≡ false) × (is_full (mailbox number t service) ≡ true) =
        put-none service.settings.enable_safe_overflow message (mailbox number t service) puts in (
          rest.0,
          (λ fails. elim (rest.1 fails) [
            | inl was ↦ inl was
            | inr lacks ↦ inr (weaker choices t more service lacks)
          ]),
          (λ over. passes t more service new past puts (rest.2 over)),
        )
    offered-came choices t more service None send after new puts past on same (inr (inr (may, went))) =
        let next : Send T = record send { retries = 0; elapsed = 0; fails = true } in
        let rest : Came choices more next service (after, new) = on next service went same in
        let full : (service.settings.enable_safe_overflow ≡ false) × (is_full (mailbox number t service) ≡ true) =
        put-none service.settings.enable_safe_overflow message (mailbox number t service) puts in (
          rest.0,
          (λ fails. inr (elim (by-bool (counts t service)
              (choices.publisher_decides number send.retries send.elapsed (decision_of one.strategy one.handler) DiscardDataAndFail)
              (DiscardDataAndFail ≡ DiscardData) may) [
                | inl w ↦ (
                  full.0,
                  (send.retries, send.elapsed, w.1),
                  (t, ap (λ (b : Bool). b || contains more t) (eq-eqb t t refl), full.1, w.0),
                )
                | inr w ↦ absurd (differ (sym w.1))
              ])),
          (λ over. passes t more service new past puts (rest.2 over)),
        )
      where
        differ : DiscardData ≡ DiscardDataAndFail → ⊥
        differ e = cc

    deliver-came : (choices : Choices T) (left : List ℕ) (send : Send T) (service : Service T) (after : Send T) (new : Service T)
        → ((s : ℕ) → Once s left)
        → send.message ≡ message → Delivers choices number one left send service after new → Came choices left send service (after, new)
    deliver-came choices [] send service after new once same (is, stays) = (
      stays ∙ ap (λ (it : Service T). record service { mailboxes = it.mailboxes }) (sym stays),
      (λ fails. inl (sym (ap (λ (it : Send T). it.fails) is) ∙ fails)),
      (λ over p s. ap (mailbox p s) stays ∙ none_of (p == number) (mailbox p s service)),
    )
      where
        none_of : (b : Bool) (box : Mailbox T) → box ≡ cond (b && false) (put_so service box) box
        none_of true box = refl
        none_of false box = refl
    deliver-came choices (t ∷ more) send service after new once same went =
        offered-came choices t more service (put service.settings.enable_safe_overflow send.message (mailbox number t service)) send after
        new
        (ap (λ (m : Message T). put service.settings.enable_safe_overflow m (mailbox number t service)) (sym same))
        (once-past t t more (eq-eqb t t refl) (once t))
        (λ next mid on is. deliver-came choices more next mid after new (λ s. once-tail s t more (once s)) is on) same went

  -- ---- a send

  abbrev unable : Reply T
  unable = reply.Refused (refusal.Send error.UnableToDeliver)

  abbrev AreOnce : Publisher T → Service T → Type 0
  AreOnce one service = (s : ℕ) → Once s (those service.subscriber_list.places) × Once s (those one.connected)

  -- a publisher that is up to date sent to all
  abbrev Undelivered : (choices : Choices T) → ℕ → Message T → Service T → Service T → Type 0
  Undelivered choices number message old new =
      (mid : Service T) × (one : Publisher T) × Left old mid × (at number mid.publishers ≡ Some one)
      × (one.seen ≡ mid.subscriber_list.changes) × IsUndelivered choices number one message mid new

  is-unable : (waits fails : Bool) (count : ℕ)
      → ◌≡◌ {A = Reply T} unable (cond waits reply.Blocked (cond fails unable (reply.Delivered count)))
      → (waits ≡ false) × (fails ≡ true)
  is-unable true fails count same = never-told (refusal.Send error.UnableToDeliver) reply.Blocked same refl
  is-unable false true count same = (refl, refl)
  is-unable false false count same = never-told (refusal.Send error.UnableToDeliver) (reply.Delivered count) same refl

  begun-undelivered : (choices : Choices T) (number : ℕ) (message : Message T) (one : Publisher T) (old new : Service T)
      → ((s : ℕ) → Once s (those one.connected)) → Begins choices number message one old unable new
      → IsUndelivered choices number one message old new
  begun-undelivered choices number message one old new once h =
      let keeps : Publisher T = keeping message one old in
      let send : Send T = sending message one in
      let after : Send T × Service T = (h.0, h.1) in
      let told : (is_some (slice_get after.0.left 0) ≡ false) × (after.0.fails ≡ true) =
      is-unable (is_some (slice_get after.0.left 0)) after.0.fails after.0.delivered h.3 in
      let came : Came number keeps (numbered one message) choices (those one.connected) send old after =
      deliver-came number keeps (numbered one message) choices (those one.connected) send old h.0 h.1 once refl h.2 in
      let lacks : Lacks number keeps (numbered one message) choices (those one.connected) old =
      elim (came.1 told.1) [ inl never ↦ absurd (true≢false (sym never)) | inr so ↦ so ] in
      let is : new ≡ with_publisher number (record keeps { blocked = None }) after.1 =
      h.4
      ∙ ap (λ (b : Bool). with_publisher number (record keeps { blocked = cond b (Some after.0) None }) after.1) told.0 in
      let whole : new ≡ record (with_publisher number (record keeps { blocked = None }) old) { mailboxes = after.1.mailboxes } =
      is ∙ ap (with_publisher number (record keeps { blocked = None })) came.0 in (
        lacks,
        (λ p s. ap (mailbox p s) whole
            ∙ (came.2 told.0 p s
            ∙ ap (λ (it : Mailbox T). cond ((p == number) && contains (those one.connected) s) it (mailbox p s old))
            (put-offered old.settings.enable_safe_overflow (numbered one message) (mailbox p s old) lacks.0))),
        whole
            ∙ ap (λ (boxes : ℕ → ℕ → Option (Mailbox T)). record (with_publisher number (record keeps { blocked = None }) old) {
              mailboxes = boxes;
            }) (sym (ap (λ (it : Service T). it.mailboxes) whole)),
      )

  not-failure : {A : Type 0} (failure : ConnectionFailure) (old new : Service T)
      → IsRefused (refusal.Send (error.ConnectionError failure)) old unable new → A
  not-failure failure old new h = absurd (differ (ap tells_why h.0))
    where
      differ : Some (refusal.Send error.UnableToDeliver) ≡ Some (refusal.Send (error.ConnectionError failure)) → ⊥
      differ e = cc

  sends-undelivered : (choices : Choices T) (number : ℕ) (message : Message T) (publisher : Publisher T) (old new : Service T)
      → at number old.publishers ≡ Some publisher → AreOnce publisher old → Sends choices number message publisher old unable new
      → Undelivered choices number message old new
  sends-undelivered choices number message publisher old new found once h =
      elim (by-send choices number message publisher old unable new h) [
        | inl w ↦ elim (by-bool (publisher.seen == old.subscriber_list.changes) (Begins choices number message publisher old unable new)
            ((after : Publisher T) × (mid : Service T) × publishing.Follows number publisher old after mid
            × Outcomes (choices.publisher_acts number publisher.degradation) (zip old.subscriber_list.places after.connected)
            (λ done. Begins choices number message after mid unable new)
            (λ failure. IsRefused (refusal.Send (error.ConnectionError failure)) mid unable new)) w) [
              | inl k ↦ (
                old,
                publisher,
                left-same old,
                found,
                eqb-true publisher.seen old.subscriber_list.changes k.0,
                begun-undelivered choices number message publisher old new (λ s. (once s).1) k.1,
              )
              | inr k ↦ followed k.1.0 k.1.1 k.1.2 k.1.3
            ]
        | inr w ↦ absurd (differ w.0 (ap tells_why w.1.0))
      ]
    where
      differ : (used_up : Bool) → Some (refusal.Send error.UnableToDeliver) ≡ Some (refusal.Send (at_once used_up)) → ⊥
      differ true e = cc
      differ false e = cc

      followed : (after : Publisher T) (mid : Service T) → publishing.Follows number publisher old after mid
          → Outcomes (choices.publisher_acts number publisher.degradation) (zip old.subscriber_list.places after.connected)
          (λ done. Begins choices number message after mid unable new)
          (λ failure. IsRefused (refusal.Send (error.ConnectionError failure)) mid unable new) → Undelivered choices number message old new
      followed after mid came told =
          let ports : KeepsPorts old mid = keeps-ports number publisher old after mid found came in
          elim (by-outcome (choices.publisher_acts number publisher.degradation) (zip old.subscriber_list.places after.connected)
          (λ done. Begins choices number message after mid unable new)
          (λ failure. IsRefused (refusal.Send (error.ConnectionError failure)) mid unable new) told) [
            | inl r ↦ (
              mid,
              after,
              (
                keeps-loans number publisher old after mid found came,
                ports,
                keeps-messages number publisher old after mid found came,
              ),
              follows-publishers number 0 publisher old after mid found came,
              ap (λ (it : Publisher T). it.seen) came.2 ∙ sym (ap (λ l. l.changes) ports.3),
              begun-undelivered choices number message after mid new
                  (λ s. subst (λ (it : Publisher T). Once s (those it.connected)) (sym came.2)
                  (once-unless s came.0 old.subscriber_list.places (once s).0)) r.2,
            )
            | inr r ↦ not-failure r.0 mid new r.2
          ]

  -- ---- the commands

  module _ (choices : Choices T) (types : MessageTypeDetails) (buffer : ℕ) (before : List (Command T)) (told : List (Reply T))
      (old : State T) (run : Runs types choices buffer before new_state told old) where
    once-in : (number : ℕ) (has : Service T → Bool) (service : Service T) (one : Publisher T) → find has old.services ≡ Some service
        → at number service.publishers ≡ Some one → AreOnce one service
    once-in number has service one first found s =
        connects-once choices types buffer before told old run s number has service one first found

    abbrev Leaves : Command T → State T → Type 0
    Leaves asked new =
        (has : Service T → Bool) × (service : Service T) × (mid : Service T) × (after : Service T)
        × (number : ℕ) × (one : Publisher T) × (message : Message T)
        × (find has old.services ≡ Some service) × (new ≡ record old { services = replaced has after old.services })
        × IsSentBy asked service number message
        × (mid.loans ≡ loans_left asked service.loans) × KeepsPorts service mid × KeepsMessages service mid
        × (at number mid.publishers ≡ Some one) × (one.seen ≡ mid.subscriber_list.changes)
        × IsUndelivered choices number one message mid after

    leaves : (asked : Command T) (new : State T) → is_sending asked ≡ true → Step types choices buffer asked old unable new
        → Leaves asked new
    leaves (command.Send loan) new is h =
        elim (at-one (λ (service : Service T). at loan service.loans) (SendsLoan choices loan) old unable new h) [
          | inl w ↦ never-told (refusal.Send error.UnableToDeliver) reply.Skipped w.0 refl
          | inr w ↦ elim (by-option (at w.1.publisher w.0.publishers) (IsSkipped w.0 unable w.2)
              (λ publisher. MatchBool (is_written w.1 && not (is_some publisher.blocked))
              (Sends choices w.1.publisher (sent_as w.1) publisher (record w.0 { loans = removed loan w.0.loans }) unable w.2)
              (IsSkipped w.0 unable w.2)) w.5) [
                | inl k ↦ never-told (refusal.Send error.UnableToDeliver) reply.Skipped k.1.0 refl
                | inr k ↦ elim (by-bool (is_written w.1 && not (is_some k.0.blocked))
                    (Sends choices w.1.publisher (sent_as w.1) k.0 (record w.0 { loans = removed loan w.0.loans }) unable w.2)
                    (IsSkipped w.0 unable w.2) k.2) [
                      | inl j ↦ sent w.0 w.1 w.2 w.3 w.4 w.6 k.0 k.1 j.1
                      | inr j ↦ never-told (refusal.Send error.UnableToDeliver) reply.Skipped j.1.0 refl
                    ]
              ]
        ]
      where
        has : Service T → Bool
        has other = is_some (at loan other.loans)

        sent : (service : Service T) (lent : Loan T) (after : Service T) → find has old.services ≡ Some service
            → at loan service.loans ≡ Some lent → new ≡ record old { services = replaced has after old.services }
            → (publisher : Publisher T) → at lent.publisher service.publishers ≡ Some publisher
            → Sends choices lent.publisher (sent_as lent) publisher (record service { loans = removed loan service.loans }) unable after
            → Leaves (command.Send loan) new
        sent service lent after first there came publisher found did =
            let so : Undelivered choices lent.publisher (sent_as lent) (record service { loans = removed loan service.loans }) after =
            sends-undelivered choices lent.publisher (sent_as lent) publisher (record service { loans = removed loan service.loans })
            after found
            (once-in lent.publisher has service publisher first found) did in (
              has,
              service,
              so.0,
              after,
              lent.publisher,
              so.1,
              sent_as lent,
              first,
              came,
              (lent, there, refl, refl),
              so.2.0,
              so.2.1,
              so.2.2,
              so.3,
              so.4,
              so.5,
            )
    leaves (command.Put number values) new is h =
        elim (at-one (publisher_in number)
        (λ (publisher : Publisher T) (service : Service T) (answer : Reply T) (after : Service T). MatchOption publisher.blocked
        (Puts choices number values publisher service answer after) (λ send. IsSkipped service answer after)) old unable new h) [
          | inl w ↦ never-told (refusal.Send error.UnableToDeliver) reply.Skipped w.0 refl
          | inr w ↦ elim (by-option w.1.blocked (Puts choices number values w.1 w.0 unable w.2) (λ send. IsSkipped w.0 unable w.2) w.5) [
            | inl k ↦ sent w.0 w.1 w.2 w.3 (publisher-stands number w.0 w.1 w.4) w.6 k.1
            | inr k ↦ never-told (refusal.Send error.UnableToDeliver) reply.Skipped k.2.0 refl
          ]
        ]
      where
        has : Service T → Bool
        has other = is_some (publisher_in number other)

        differ : (why : LoanError) → Some (refusal.Send error.UnableToDeliver) ≡ Some (refusal.Send (error.LoanError why)) → ⊥
        differ why e = cc

        sent : (service : Service T) (one : Publisher T) (after : Service T) → find has old.services ≡ Some service
            → at number service.publishers ≡ Some one → new ≡ record old { services = replaced has after old.services }
            → Puts choices number values one service unable after → Leaves (command.Put number values) new
        sent service one after first found came (Some why, lent, lends, refused) = absurd (differ why (ap tells_why refused.0))
        sent service one after first found came (None, lent, lends, did) =
            let message : Message T = record { number = one.next; sequence = None; values = values } in
            let alike : Alike one lent = lends-alike number (length values) one service None lent lends in
            let so : Undelivered choices number message (with_publisher number lent service) after =
            sends-undelivered choices number message lent (with_publisher number lent service) after
            (at-changed number lent one service.publishers found)
            (λ s. (
              (once-in number has service one first found s).0,
              subst (λ (l : List (Option ℕ)). Once s (those l)) (sym alike.1)
                  (once-in number has service one first found s).1,
            )) did in
            let left : Left service so.0 = left-lent number one lent service so.0 found alike so.2 in (
              has,
              service,
              so.0,
              after,
              number,
              so.1,
              message,
              first,
              came,
              (one, found, refl, refl),
              left.0,
              left.1,
              left.2,
              so.3,
              so.4,
              so.5,
            )
    leaves other new is h = absurd (true≢false (sym is))

pub undelivered-leaves : {T : Type 0} (choices : Choices T) → UndeliveredLeaves choices
undelivered-leaves choices types buffer before told old run asked new is h =
    leaves choices types buffer before told old run asked new is h

pub retries-leave : {T : Type 0} (choices : Choices T) → RetriesLeave choices
retries-leave {T} choices types buffer before told old run number nanoseconds new h =
    elim (at-one (publisher_in number)
    (λ (publisher : Publisher T) (service : Service T) (answer : Reply T) (after : Service T). MatchOption publisher.blocked
    (IsSkipped service answer after)
    (λ send. GoesOn choices number publisher (record send { retries = send.retries + 1; elapsed = nanoseconds }) service answer after)) old
    (reply.Refused (refusal.Send error.UnableToDeliver)) new h) [
      | inl w ↦ never-told (refusal.Send error.UnableToDeliver) reply.Skipped w.0 refl
      | inr w ↦ elim (by-option w.1.blocked (IsSkipped w.0 (reply.Refused (refusal.Send error.UnableToDeliver)) w.2)
          (λ send. GoesOn choices number w.1 (record send { retries = send.retries + 1; elapsed = nanoseconds }) w.0
          (reply.Refused (refusal.Send error.UnableToDeliver)) w.2) w.5) [
            | inl k ↦ never-told (refusal.Send error.UnableToDeliver) reply.Skipped k.1.0 refl
            | inr k ↦ (
              has,
              w.0,
              w.2,
              w.1,
              k.0,
              w.3,
              w.6,
              publisher-stands number w.0 w.1 w.4,
              k.1,
              retried w.0 w.1 k.0 w.2
                  (λ s. waits-once choices types buffer before told old run s number has w.0 w.1 k.0 w.3
                  (publisher-stands number w.0 w.1 w.4) k.1) k.2,
            )
          ]
    ]
  where
    has : Service T → Bool
    has other = is_some (publisher_in number other)

    retried : (service : Service T) (one : Publisher T) (send : Send T) (after : Service T) → ((s : ℕ) → Once s send.left)
        → GoesOn choices number one (record send { retries = send.retries + 1; elapsed = nanoseconds }) service
        (reply.Refused (refusal.Send error.UnableToDeliver)) after
        → IsRetried choices number one send service after
    retried service one send after once h =
        let again : Send T = record send { retries = send.retries + 1; elapsed = nanoseconds } in
        let end : Send T × Service T = (h.0, h.1) in
        let told : (is_some (slice_get end.0.left 0) ≡ false) × (end.0.fails ≡ true) =
        is-unable (is_some (slice_get end.0.left 0)) end.0.fails end.0.delivered h.3 in
        let came : Came number one send.message choices send.left again service end =
        deliver-came number one send.message choices send.left again service h.0 h.1 once refl h.2 in
        let whole : after ≡ record (with_publisher number (record one { blocked = None }) service) { mailboxes = end.1.mailboxes } =
        h.4
        ∙ (ap (λ (b : Bool). with_publisher number (record one { blocked = cond b (Some end.0) None }) end.1) told.0
        ∙ ap (with_publisher number (record one { blocked = None })) came.0) in (
          came.1 told.1,
          (λ p s. ap (mailbox p s) whole ∙ came.2 told.0 p s),
          whole
              ∙ ap (λ (boxes : ℕ → ℕ → Option (Mailbox T)). record (with_publisher number (record one { blocked = None }) service) {
                mailboxes = boxes;
              }) (sym (ap (λ (it : Service T). it.mailboxes) whole)),
        )
