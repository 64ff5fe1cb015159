-- A send goes through the remaining places, in a domain and in the machine.
use Rattle.std.proofs.Common.{◌≡◌, ◌⊎◌, inl, inr, ◌≢◌, ◌≤◌, ◌<◌, ◌+◌, ◌-◌, ◌∷◌, [], ◌&&◌, ℕ, Bool, true, false, List, length, get_or}
use Rattle.std.proofs.Common.{set, drop, map}
use Rattle.std.proofs.Common.{nat_lt, Option, None, Some, refl, sym, ap, subst, ◌∙◌, arith, if◌then◌else◌}
use Rattle.std.proofs.Math.Logic.{⊎_elim}
use Rattle.std.proofs.lemmas.Bool.{cases_Bool}
use Rattle.std.proofs.lemmas.List.{drop_more, length-drop, set-get_or}
use Rattle.std.specs.Prelude.{is_some, min, ◌^◌, option_map, unwrap_or, MatchOption, MatchBool}
use Rattle.iox_command.specs.DomainValues.Actions.{decision_of}
use Rattle.iox_command.specs.DomainValues.declared.backpressure.BackpressureDecision.{BackpressureDecision}
use Rattle.iox_command.specs.DomainValues.declared.backpressure.BackpressureDecision.TheVariants.{Retry, DiscardData, DiscardDataAndFail}
use Rattle.iox_command.specs.DomainValues.declared.backpressure.BackpressureInfo.{BackpressureInfo}
use Rattle.iox_domain.proofs.DomainSlots.Counts.{one_other}
use Rattle.iox_domain.proofs.Once.{offered_full}
use Rattle.iox_domain.specs.DomainPorts.Messages as domain
use Rattle.iox_domain.specs.DomainPorts.MessagesSending.{with_uses}
use Rattle.iox_domain.specs.DomainPorts.Places.{is_attached, unheard}
use Rattle.iox_domain.specs.DomainPorts.Ports.{connection_of, goes_on, is_live}
use Rattle.iox_domain.specs.DomainPorts.Progress.{ProgressState, passed, counted, failing}
use Rattle.iox_domain.specs.DomainPorts.Sending.{meeting_by, meeting_at, met_by, met, with_message, goes_on_by, decided_by, Steps, GoesOn}
use Rattle.iox_domain.specs.DomainPorts.Sending.{Delivers}
use Rattle.iox_domain.specs.DomainPorts.declared.meeting.Meeting.{Meeting}
use Rattle.iox_domain.specs.DomainPorts.declared.meeting.Meeting.TheVariants as meeting
use Rattle.iox_domain.specs.DomainPorts.declared.publisher_port.PublisherPort.{PublisherPort}
use Rattle.iox_domain.specs.DomainPorts.declared.reader.Reader.{Reader}
use Rattle.iox_domain.specs.DomainSlots.Counting.{times}
use Rattle.iox_domain.specs.DomainSlots.Uses.{Connection, nobody, held_by, accepts}
use Rattle.iox_domain.specs.DomainSlots.Uses as slots
use Rattle.iox_domain_machine.specs.Mailboxes.{MailboxesStandFor}
use Rattle.iox_domain_machine.specs.Naming.{message_as, mailbox_as}
use Rattle.iox_domain_machine.proofs.LendingUses.{message_slots}
use Rattle.iox_domain_machine.proofs.Loans.{unlike}
use Rattle.iox_domain_machine.proofs.Releasing.{box_now, others_box, other_boxes, same_boxes}
use Rattle.iox_domain_machine.proofs.SendBoxes.{takes, is_full, held_more, still_within}
use Rattle.iox_domain_machine.proofs.SendReady.{IsReadyToSend}
use Rattle.iox_domain_machine.proofs.SendPut.{further, each_given, put_boxes, same_stage, same_borrowed}
use Rattle.iox_machine.specs.Mailbox.{Mailbox, put}
use Rattle.iox_machine.specs.PortList.{those}
use Rattle.iox_machine.specs.Choices.{Choices}
use Rattle.iox_machine.specs.Sending as machine
use Rattle.iox_machine.specs.Service.{Service, Publisher, Send, mailbox, with_mailbox}

-- what comes first of the rest of a list, and then
rest_is : (place : ℕ) (items : List (Option ℕ)) (tie : Option ℕ) (rest : List (Option ℕ)) → drop place items ≡ tie ∷ rest
    → (place < length items) × (get_or items place None ≡ tie) × (drop (place + 1) items ≡ rest)
rest_is place items tie rest is =
    let some : place < length items = omega (arith, ap length is, length-drop place items) in
    let both : get_or items place None ∷ drop (place + 1) items ≡ tie ∷ rest = sym (drop_more items place None some) ∙ is in
    (some, ap (λ xs. get_or xs 0 None) both, ap (drop 1) both)

module _ {T U : Type 0} (choices : Choices T) (may : BackpressureInfo → BackpressureDecision → Type 0)
    (name reader subscriber_name : ℕ → ℕ) (number : ℕ)
    (publisher : Publisher T) (service : Service T) (port : PublisherPort T U) (message : domain.Message T U) where
  -- the publisher with these connections, as far as this
  abbrev pub port_at : List (Connection (domain.Message T U)) → ProgressState → PublisherPort T U
  port_at connections progress = record port {
    sender = with_uses (record port.sender.uses { connections = connections }) port.sender;
    progress = progress;
  }

  -- the service with these mailboxes
  abbrev pub service_at : (ℕ → ℕ → Option (Mailbox T)) → Service T
  service_at mailboxes = record service { mailboxes = mailboxes }

  -- A send is as far in the machine as in the domain: it has the same message, was taken by as many, and the mailboxes are the
  -- connections. These are as they were but for the message, which may wait there.
  pub record IsAsFar (connections : List (Connection (domain.Message T U))) (progress : ProgressState)
      (mailboxes : ℕ → ℕ → Option (Mailbox T)) (send : Send T) : Type 0 where
    pub boxes : MailboxesStandFor name reader subscriber_name (port_at connections progress) (mailboxes number) service.subscribers
    pub stage : (index : ℕ) → (get_or connections index nobody).stage ≡ (connection_of index port).stage
    pub borrowed : (index : ℕ) → (get_or connections index nobody).borrowed ≡ (connection_of index port).borrowed
    pub within : (index : ℕ) → length (get_or connections index nobody).waiting ≤ (get_or connections index nobody).limit
    pub used : (index slot : ℕ) → slot ≢ message.slot → 0 < times slot (message_slots (held_by (get_or connections index nobody)))
        → 0 < times slot (message_slots (held_by (connection_of index port)))
    pub others : (other : ℕ) → other ≢ number → mailboxes other ≡ service.mailboxes other
    pub same : (one other : ℕ) → is_some (mailboxes one other) ≡ is_some (service.mailboxes one other)
    pub carries : send.message ≡ message_as name message
    pub delivered : send.delivered ≡ progress.delivered
    pub fails : send.fails ≡ progress.fails
    pub retries : progress.retries ≡ min send.retries (2 ^ 64 - 1)
    pub elapsed : progress.elapsed ≡ send.elapsed
    pub untried : get_or port.ties.items progress.place None ≡ None → (send.retries ≡ 0) × (send.elapsed ≡ 0)

  -- the subscribers at these places
  abbrev pub readers_of : List (Option ℕ) → List ℕ
  readers_of ties = those (map (option_map reader) ties)

  -- none is left of a send that came to the end; another waits at the first that is
  abbrev pub Ends : Bool → ProgressState → Send T → Type 0
  Ends true progress send = send.left ≡ []
  Ends false progress send =
      (subscriber : ℕ) × (more : List ℕ) × (send.left ≡ subscriber ∷ more)
      × (subscriber ∷ more ≡ readers_of (drop progress.place port.ties.items))
      × (index : ℕ) × (get_or port.ties.items progress.place None ≡ Some index)

  -- The effect of a send, in the domain and in the machine.
  pub record EndsAlike (arrived : Bool) (gone : PublisherPort T U) (Found : Send T → Service T → Type 0) : Type 0 where
    pub connections : List (Connection (domain.Message T U))
    pub progress : ProgressState
    pub mailboxes : ℕ → ℕ → Option (Mailbox T)
    pub send : Send T
    pub is_gone : gone ≡ port_at connections progress
    pub is_found : Found send (service_at mailboxes)
    pub is_at : IsAsFar connections progress mailboxes send
    pub ends : Ends arrived progress send

  -- A send that is as far in the domain as in the machine goes through these places in both.
  abbrev pub WalksAlike : List (Option ℕ) → Type 0
  WalksAlike rest =
      (connections : List (Connection (domain.Message T U))) (progress : ProgressState) (mailboxes : ℕ → ℕ → Option (Mailbox T))
      (send : Send T) (arrived : Bool) (gone : PublisherPort T U)
      → drop progress.place port.ties.items ≡ rest → IsAsFar connections progress mailboxes send
      → Delivers may (length rest) (port_at connections progress) arrived gone
      → EndsAlike arrived gone (machine.Delivers choices number publisher (readers_of rest) send (service_at mailboxes))

  -- what is found may be told in other words
  as_found : (arrived : Bool) (gone : PublisherPort T U) (Found Other : Send T → Service T → Type 0)
      → ((after : Send T) (new : Service T) → Found after new → Other after new) → EndsAlike arrived gone Found
      → EndsAlike arrived gone Other
  as_found arrived gone Found Other over is = record {
    connections = is.connections;
    progress = is.progress;
    mailboxes = is.mailboxes;
    send = is.send;
    is_gone = is.is_gone;
    is_found = over is.send (service_at is.mailboxes) is.is_found;
    is_at = is.is_at;
    ends = is.ends;
  }

  walk_end : WalksAlike []
  walk_end connections progress mailboxes send arrived gone is so_far delivers =
      subst (λ b. EndsAlike b gone (machine.Delivers choices number publisher [] send (service_at mailboxes))) (sym delivers.0) (record {
        connections = connections;
        progress = progress;
        mailboxes = mailboxes;
        send = record send { left = [] };
        is_gone = delivers.1;
        is_found = (refl, refl);
        is_at = record {
          boxes = so_far.boxes;
          stage = so_far.stage;
          borrowed = so_far.borrowed;
          within = so_far.within;
          used = so_far.used;
          others = so_far.others;
          same = so_far.same;
          carries = so_far.carries;
          delivered = so_far.delivered;
          fails = so_far.fails;
          retries = so_far.retries;
          elapsed = so_far.elapsed;
          untried = so_far.untried;
        };
        ends = refl;
      })

  module _ (connections : List (Connection (domain.Message T U))) (progress : ProgressState) (mailboxes : ℕ → ℕ → Option (Mailbox T))
      (send : Send T) (so_far : IsAsFar connections progress mailboxes send) where
    -- a place that is passed over, where the send isn't to fail, or is
    passed_at : (retries elapsed : ℕ) → retries ≡ 0 → elapsed ≡ 0
        → IsAsFar connections (passed progress) mailboxes (record send { retries = retries; elapsed = elapsed })
    passed_at retries elapsed none at_once = record {
      boxes = further name reader subscriber_name (port_at connections progress) (passed progress) (mailboxes number) service.subscribers
          so_far.boxes (omega arith);
      stage = so_far.stage;
      borrowed = so_far.borrowed;
      within = so_far.within;
      used = so_far.used;
      others = so_far.others;
      same = so_far.same;
      carries = so_far.carries;
      delivered = so_far.delivered;
      fails = so_far.fails;
      retries = omega (arith, none);
      elapsed = sym at_once;
      untried = λ nobody. (none, at_once);
    }

    failed_at : IsAsFar connections (failing progress) mailboxes (record send { retries = 0; elapsed = 0; fails = true })
    failed_at = record {
      boxes = further name reader subscriber_name (port_at connections progress) (failing progress) (mailboxes number) service.subscribers
          so_far.boxes (omega arith);
      stage = so_far.stage;
      borrowed = so_far.borrowed;
      within = so_far.within;
      used = so_far.used;
      others = so_far.others;
      same = so_far.same;
      carries = so_far.carries;
      delivered = so_far.delivered;
      fails = refl;
      retries = omega arith;
      elapsed = refl;
      untried = λ nobody. (refl, refl);
    }

  module _ (is : IsReadyToSend choices may reader number publisher service port) (sent_is : port.sender.uses.sending ≡ Some message)
      (rest : List (Option ℕ)) (walks : WalksAlike rest)
      (connections : List (Connection (domain.Message T U))) (progress : ProgressState) (mailboxes : ℕ → ℕ → Option (Mailbox T))
      (send : Send T) (arrived : Bool) (gone : PublisherPort T U) (so_far : IsAsFar connections progress mailboxes send) where
    abbrev now : PublisherPort T U
    now = port_at connections progress

    -- what a place comes to, by what it is tied to
    steps_by : (tie : Option ℕ) → drop progress.place port.ties.items ≡ tie ∷ rest → (went : Bool) (next : PublisherPort T U)
        → Steps may (meeting_at progress.place now) (met progress.place now) went next
        → Steps may (meeting_by tie now) (met_by tie now) went next
    steps_by tie left went next steps =
        let it = rest_is progress.place port.ties.items tie rest left in
        let within : nat_lt progress.place (length port.ties.items) ≡ true = grind (arith, it.0) in
        subst (λ one. Steps may (meeting_by one now) (met_by one now) went next) it.1
        (subst (λ b. Steps may (if b then meeting_by (get_or port.ties.items progress.place None) now else meeting.Over)
        (met progress.place now) went next) within steps)

    abbrev Further : Bool → PublisherPort T U → Type 0
    Further went next = GoesOn went arrived next gone (Delivers may (length rest) next arrived gone)

    goes : (went : Bool) (next after : PublisherPort T U) → went ≡ true → next ≡ after → Further went next
        → Delivers may (length rest) after arrived gone
    goes went next after on same more =
        subst (λ one. Delivers may (length rest) one arrived gone) same (subst (λ b. Further b next) on more)

    next_left : (tie : Option ℕ) → drop progress.place port.ties.items ≡ tie ∷ rest → drop (progress.place + 1) port.ties.items ≡ rest
    next_left tie left = (rest_is progress.place port.ties.items tie rest left).2

    -- a place that is tied to nobody
    passes_none : drop progress.place port.ties.items ≡ None ∷ rest
        → Delivers may (length (None ∷ rest)) now arrived gone
        → EndsAlike arrived gone (machine.Delivers choices number publisher (readers_of rest) send (service_at mailboxes))
    passes_none left delivers =
        let step = steps_by None left delivers.0 delivers.1 delivers.2 in
        let untried = so_far.untried (rest_is progress.place port.ties.items None rest left).1 in
        walks connections (passed progress) mailboxes send arrived gone (next_left None left)
        (passed_at connections progress mailboxes send so_far send.retries send.elapsed untried.0 untried.1)
        (goes delivers.0 delivers.1 (port_at connections (passed progress)) step.0 step.1 delivers.3)

    module _ (index : ℕ) (left : drop progress.place port.ties.items ≡ Some index ∷ rest) where
      abbrev was : Connection (domain.Message T U)
      was = get_or connections index nobody

      abbrev subscriber : ℕ
      subscriber = reader index

      abbrev overflows : Bool
      overflows = port.sender.uses.overflows

      abbrev given : Connection (domain.Message T U)
      given = slots.offered overflows message was

      tied : get_or port.ties.items progress.place None ≡ Some index
      tied = (rest_is progress.place port.ties.items (Some index) rest left).1

      live_first : is_live index port ≡ true
      live_first = is.live progress.place index tied

      live : is_live index now ≡ true
      live = ap goes_on (so_far.stage index) ∙ live_first

      boxed : mailbox number subscriber (service_at mailboxes) ≡ mailbox_as name was
      boxed = ap (λ found. unwrap_or found (record { limit = 0; waiting = []; borrowed = [] })) (so_far.boxes.live index live)

      -- what the machine puts there
      put_is : put service.settings.enable_safe_overflow send.message (mailbox number subscriber (service_at mailboxes))
          ≡ put overflows (message_as name message) (mailbox_as name was)
      put_is =
          ap (λ b. put b send.message (mailbox number subscriber (service_at mailboxes))) (sym is.overflows)
          ∙ ap (λ one. put overflows one (mailbox number subscriber (service_at mailboxes))) so_far.carries
          ∙ ap (λ box. put overflows (message_as name message) box) boxed

      -- what comes of the message there
      abbrev meets : Bool → Meeting
      meets accepted = if accepted then meeting.Delivered else unheard (get_or port.readers index None)

      steps_there : (went : Bool) (next : PublisherPort T U) → Steps may (meeting_by (Some index) now) (met_by (Some index) now) went next
          → Steps may (meets (accepts overflows was)) (port_at (set connections index given) progress) went next
      steps_there went next steps =
          subst (λ sending. Steps may (meets (accepts overflows was)) (with_message index sending now) went next) sent_is
          (subst (λ b. Steps may (meets (accepts overflows was)) (if b then with_message index port.sender.uses.sending now else now) went
          next) live
          (subst (λ b. Steps may (if b then meets (accepts overflows was) else meeting.Passed) (met_by (Some index) now) went next)
          (ap (λ b. b && is_some port.sender.uses.sending) live ∙ ap is_some sent_is) steps))

      -- what the machine may decide there
      abbrev May : BackpressureDecision → Type 0
      May decision = machine.MayDecide choices number publisher subscriber send (service_at mailboxes) decision

      -- and then the others
      abbrev Then : Send T → Send T → Service T → Type 0
      Then next = machine.Delivers choices number publisher (readers_of rest) next (service_at mailboxes)

      -- the machine's subscriber, and then the others
      abbrev Goes : Option (Mailbox T) → Send T → Service T → Type 0
      Goes found after new =
          MatchOption found
          ((May Retry × (after ≡ record send { left = subscriber ∷ readers_of rest }) × (new ≡ service_at mailboxes))
          ⊎ (May DiscardData × Then (record send { retries = 0; elapsed = 0 }) after new)
          ⊎ (May DiscardDataAndFail × Then (record send { retries = 0; elapsed = 0; fails = true }) after new))
          (λ box. machine.Delivers choices number publisher (readers_of rest)
          (record send { retries = 0; elapsed = 0; delivered = send.delivered + 1 })
          (with_mailbox number subscriber box (service_at mailboxes)) after new)

      -- the connection accepts the message
      module _ (accepted : accepts overflows was ≡ true) where
        abbrev taken : Mailbox T
        taken = mailbox_as name given

        abbrev boxes_now : ℕ → ℕ → Option (Mailbox T)
        boxes_now = (with_mailbox number subscriber taken (service_at mailboxes)).mailboxes

        there : is_some (mailboxes number subscriber) ≡ true
        there = ap is_some (so_far.boxes.live index live)

        taken_at : IsAsFar (set connections index given) (counted progress) boxes_now
            (record send { retries = 0; elapsed = 0; delivered = send.delivered + 1 })
        taken_at = record {
          boxes = put_boxes now overflows message index live name reader subscriber_name (mailboxes number) (boxes_now number)
              service.subscribers so_far.boxes (counted progress) progress.place sent_is is.apart tied (omega arith) (omega arith)
              (box_now number subscriber taken (service_at mailboxes)) (others_box number subscriber taken (service_at mailboxes));
          stage = λ i. same_stage now overflows message index live i ∙ so_far.stage i;
          borrowed = λ i. same_borrowed now overflows message index live i ∙ so_far.borrowed i;
          within = each_given now overflows message index live (λ i connection. length connection.waiting ≤ connection.limit)
              (still_within message overflows was (so_far.within index)) so_far.within;
          used = each_given now overflows message index live
              (λ i connection. (slot : ℕ) → slot ≢ message.slot → 0 < times slot (message_slots (held_by connection))
              → 0 < times slot (message_slots (held_by (connection_of i port))))
              (λ slot off some. so_far.used index slot off (omega (
                arith,
                some,
                held_more message overflows slot was,
                one_other slot message.slot (unlike slot message.slot (λ same. off (sym same))),
              )))
              so_far.used;
          others = λ other off. other_boxes number subscriber taken (service_at mailboxes) other off ∙ so_far.others other off;
          same = λ one other. same_boxes number subscriber taken (service_at mailboxes) there one other ∙ so_far.same one other;
          carries = so_far.carries;
          delivered = ap (λ n. n + 1) so_far.delivered;
          fails = so_far.fails;
          retries = omega arith;
          elapsed = refl;
          untried = λ nobody. (refl, refl);
        }

        takes_it : (went : Bool) (next : PublisherPort T U)
            → Steps may (meets (accepts overflows was)) (port_at (set connections index given) progress) went next → Further went next
            → EndsAlike arrived gone (Goes (put overflows (message_as name message) (mailbox_as name was)))
        takes_it went next steps more =
            let step = subst (λ b. Steps may (meets b) (port_at (set connections index given) progress) went next) accepted steps in
            subst (λ found. EndsAlike arrived gone (Goes found))
            (sym (takes name message overflows was accepted (so_far.within index)))
            (walks (set connections index given) (counted progress) boxes_now
            (record send { retries = 0; elapsed = 0; delivered = send.delivered + 1 }) arrived gone (next_left (Some index) left) taken_at
            (goes went next (port_at (set connections index given) (counted progress)) step.0 step.1 more))

      -- the connection doesn't accept it
      module _ (refused : accepts overflows was ≡ false) (went : Bool) (next : PublisherPort T U) (more : Further went next) where
        passes : May DiscardData → went ≡ true → next ≡ port_at connections (passed progress) → EndsAlike arrived gone (Goes None)
        passes may_so on same =
            as_found arrived gone (Then (record send { retries = 0; elapsed = 0 })) (Goes None)
            (λ after new found. inr (inl (may_so, found)))
            (walks connections (passed progress) mailboxes (record send { retries = 0; elapsed = 0 }) arrived gone
            (next_left (Some index) left) (passed_at connections progress mailboxes send so_far 0 0 refl refl)
            (goes went next (port_at connections (passed progress)) on same more))

        decides : (decision : BackpressureDecision) → May decision → went ≡ goes_on_by decision → next ≡ decided_by decision now
            → EndsAlike arrived gone (Goes None)
        decides DiscardData may_so on same = passes may_so on same
        decides DiscardDataAndFail may_so on same =
            as_found arrived gone (Then (record send { retries = 0; elapsed = 0; fails = true })) (Goes None)
            (λ after new found. inr (inr (may_so, found)))
            (walks connections (failing progress) mailboxes (record send { retries = 0; elapsed = 0; fails = true }) arrived gone
            (next_left (Some index) left) (failed_at connections progress mailboxes send so_far)
            (goes went next (port_at connections (failing progress)) on same more))
        decides Retry may_so on same =
            let waits = subst (λ b. Further b next) on more in
            let stopped : Send T = record send { left = subscriber ∷ readers_of rest } in
            subst (λ b. EndsAlike b gone (Goes None)) (sym waits.0) (record {
              connections = connections;
              progress = progress;
              mailboxes = mailboxes;
              send = stopped;
              is_gone = waits.1 ∙ same;
              is_found = inl (may_so, refl, refl);
              is_at = record {
                boxes = so_far.boxes;
                stage = so_far.stage;
                borrowed = so_far.borrowed;
                within = so_far.within;
                used = so_far.used;
                others = so_far.others;
                same = so_far.same;
                carries = so_far.carries;
                delivered = so_far.delivered;
                fails = so_far.fails;
                retries = so_far.retries;
                elapsed = so_far.elapsed;
                untried = so_far.untried;
              };
              ends = (subscriber, readers_of rest, refl, ap readers_of (sym left), index, tied);
            })

        -- what may be decided, by whether the subscriber is connected
        abbrev By : Bool → BackpressureDecision → Type 0
        By attached decision =
            MatchBool attached
            (choices.publisher_decides number send.retries send.elapsed (decision_of publisher.strategy publisher.handler) decision)
            (decision ≡ DiscardData)

        by_attached : (attached : Bool) (other : ℕ) → ((decision : BackpressureDecision) → By attached decision → May decision)
            → Steps may (if attached then meeting.Full other else meeting.Passed) now went next → EndsAlike arrived gone (Goes None)
        by_attached false other over step = passes (over DiscardData refl) step.0 step.1
        by_attached true other over step =
            decides step.0 (over step.0
            (subst (λ (elapsed : ℕ). choices.publisher_decides number send.retries elapsed
            (decision_of publisher.strategy publisher.handler) step.0) so_far.elapsed
            (is.decides _ step.0 send.retries step.1 so_far.retries))) step.2 step.3

        by_reader : (found : Option Reader) → ((decision : BackpressureDecision) → By (is_attached found) decision → May decision)
            → Steps may (unheard found) now went next → EndsAlike arrived gone (Goes None)
        by_reader None over step = passes (over DiscardData refl) step.0 step.1
        by_reader (Some to) over step = by_attached to.attached to.subscriber over step

        kept : port_at (set connections index given) progress ≡ now
        kept = ap (λ one. port_at one progress)
            (ap (set connections index) (offered_full overflows message was refused) ∙ set-get_or connections index nobody)

        refuses_it : Steps may (meets (accepts overflows was)) (port_at (set connections index given) progress) went next
            → EndsAlike arrived gone (Goes (put overflows (message_as name message) (mailbox_as name was)))
        refuses_it steps =
            subst (λ found. EndsAlike arrived gone (Goes found))
            (sym (is_full name message overflows was refused))
            (by_reader (get_or port.readers index None)
            (λ decision by. subst (λ (attached : Bool). By attached decision) (sym (is.readers index live_first)) by)
            (subst (λ one. Steps may (unheard (get_or port.readers index None)) one went next) kept
            (subst (λ b. Steps may (meets b) (port_at (set connections index given) progress) went next) refused steps)))

      -- a place that is tied to somebody
      passes_some : Delivers may (length (Some index ∷ rest)) now arrived gone
          → EndsAlike arrived gone (machine.Delivers choices number publisher (readers_of (Some index ∷ rest)) send (service_at mailboxes))
      passes_some delivers =
          let steps = steps_there delivers.0 delivers.1 (steps_by (Some index) left delivers.0 delivers.1 delivers.2) in
          subst (λ found. EndsAlike arrived gone (Goes found)) (sym put_is)
          (⊎_elim
          (λ accepted. takes_it accepted delivers.0 delivers.1 steps delivers.3)
          (λ refused. refuses_it refused delivers.0 delivers.1 delivers.3 steps)
          (cases_Bool (accepts overflows was)))

  -- a send goes over places in both
  pub walk : IsReadyToSend choices may reader number publisher service port → port.sender.uses.sending ≡ Some message
      → (rest : List (Option ℕ))
      → WalksAlike rest
  walk is sent_is [] = walk_end
  walk is sent_is (None ∷ rest) = λ connections progress mailboxes send arrived gone left so_far delivers.
      passes_none is sent_is rest (walk is sent_is rest) connections progress mailboxes send arrived gone so_far left delivers
  walk is sent_is (Some index ∷ rest) = λ connections progress mailboxes send arrived gone left so_far delivers.
      passes_some is sent_is rest (walk is sent_is rest) connections progress mailboxes send arrived gone so_far index left delivers
