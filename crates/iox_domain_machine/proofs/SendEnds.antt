-- The result of a send in a domain represents its result in the machine.
use Rattle.std.proofs.Common.{◌≡◌, ◌≢◌, ◌≤◌, ◌<◌, ◌⊎◌, ◌-◌, ◌∷◌, [], ◌++◌, ℕ, zero, suc, Bool, true, false, cond, List, length, get_or}
use Rattle.std.proofs.Common.{drop, map, replicate, Option, None, Some, Result, Ok, Err, refl, sym, ap, subst, inl, inr, ◌∙◌, arith}
use Rattle.std.proofs.Common.{if◌then◌else◌}
use Rattle.std.proofs.Math.Logic.{⊎_elim}
use Rattle.std.proofs.lemmas.Bool.{cases_eq}
use Rattle.std.proofs.lemmas.List.{drop-map, drop-replicate, length-drop}
use Rattle.std.specs.Map.{set_value}
use Rattle.std.specs.Prelude.{is_some, min, ◌^◌, option_map, option_to_list, slice_get}
use Rattle.iox_command.specs.DomainValues.declared.backpressure.BackpressureDecision.{BackpressureDecision}
use Rattle.iox_command.specs.DomainValues.declared.backpressure.BackpressureInfo.{BackpressureInfo}
use Rattle.iox_command.specs.DomainValues.declared.port_error.SendError.{SendError}
use Rattle.iox_command.specs.DomainValues.declared.port_error.SendError.TheVariants as error
use Rattle.iox_command.specs.declared.refusal.Refusal.TheVariants as refusal
use Rattle.iox_command.specs.declared.reply.Reply.{Reply}
use Rattle.iox_command.specs.declared.reply.Reply.TheVariants as reply
use Rattle.iox_domain.proofs.DomainSlots.Counts.{times_one, one_same}
use Rattle.iox_domain.proofs.Numbered.{at_number, same_set}
use Rattle.iox_domain.specs.DomainPorts.Messages as domain
use Rattle.iox_domain.specs.DomainPorts.MessagesSending.{slots_of, with_uses}
use Rattle.iox_domain.specs.DomainPorts.Places.{reached}
use Rattle.iox_domain.specs.DomainPorts.Ports.{connection_of}
use Rattle.iox_domain.specs.DomainPorts.Progress.{ProgressState}
use Rattle.iox_domain.specs.DomainPorts.Publishers.{port_of}
use Rattle.iox_domain.specs.DomainPorts.Sending.{Delivers, Finishes, sent_answer, concluded}
use Rattle.iox_domain.specs.DomainPorts.declared.attached.Taken.{Taken}
use Rattle.iox_domain.specs.DomainPorts.declared.meeting.Sent.{Sent}
use Rattle.iox_domain.specs.DomainPorts.declared.meeting.Sent.TheVariants as sent
use Rattle.iox_domain.specs.DomainPorts.declared.publisher_port.PublisherPort.{PublisherPort}
use Rattle.iox_domain.specs.DomainSlots.Counting.{times}
use Rattle.iox_domain.specs.DomainSlots.Uses.{Connection, in_use}
use Rattle.iox_domain.specs.DomainSlots.Uses as uses
use Rattle.iox_domain.specs.declared.ports.service_ports.ServicePorts.{ServicePorts}
use Rattle.iox_domain_machine.specs.Mailboxes.{MailboxesStandFor}
use Rattle.iox_domain_machine.specs.Naming.{Naming, message_as}
use Rattle.iox_domain_machine.specs.Publishers.{PublisherStandsFor, BlockedStandsFor, NamesSlots}
use Rattle.iox_domain_machine.specs.SendLaws.{sent_or_skipped}
use Rattle.iox_domain_machine.specs.Standing.{StandsFor, PublisherIs}
use Rattle.iox_domain_machine.specs.Tables.{LentSlot, LoansStandFor}
use Rattle.iox_domain_machine.proofs.Changing.{all_changed, with_one}
use Rattle.iox_domain_machine.proofs.Found.{never_some, never_true, at_changed, at_changed_other}
use Rattle.iox_domain_machine.proofs.Kept.{loans_kept}
use Rattle.iox_domain_machine.proofs.LeaveSamples.{samples_alike}
use Rattle.iox_domain_machine.proofs.LendingTally.{some_or_none}
use Rattle.iox_domain_machine.proofs.LendingUses.{held_from, held_to}
use Rattle.iox_domain_machine.proofs.ReleasePort.{used}
use Rattle.iox_domain_machine.proofs.SendNames.{named_still}
use Rattle.iox_domain_machine.proofs.SendReady.{IsReadyToSend}
use Rattle.iox_domain_machine.proofs.SendWalk.{IsAsFar, EndsAlike, walk, readers_of}
use Rattle.iox_machine.specs.Mailbox.{Mailbox}
use Rattle.iox_machine.specs.Message.{Message, Loan}
use Rattle.iox_machine.specs.PortList.{those}
use Rattle.iox_machine.specs.Sending.{GoesOn}
use Rattle.iox_machine.specs.Sending as machine
use Rattle.iox_machine.specs.Service.{Service, Publisher, Send}
use Rattle.iox_machine.proofs.Shorthands.{with_publisher}
use Rattle.iox_machine.specs.Table.{changed}
use Rattle.iox_machine.specs.Choices.{Choices}

module _ (reader : ℕ → ℕ) where
  nobody_at : (count : ℕ) → those (map (option_map reader) (replicate count None)) ≡ []
  nobody_at zero = refl
  nobody_at (suc count) = nobody_at count

  no_more : (place count : ℕ) → those (map (option_map reader) (drop place (replicate count None))) ≡ []
  no_more place count =
      ap (λ (places : List (Option ℕ)). those (map (option_map reader) places)) (drop-replicate place count None)
      ∙ nobody_at (count - place)

  nothing_left : (place : ℕ) → those (map (option_map reader) (drop place [])) ≡ []
  nothing_left zero = refl
  nothing_left (suc place) = refl

  as_many : (place count : ℕ) (ties : List (Option ℕ))
      → those (map (option_map reader) (drop place (ties ++ replicate count None))) ≡ those (map (option_map reader) (drop place ties))
  as_many place count [] = no_more place count ∙ sym (nothing_left place)
  as_many zero count (None ∷ ties) = as_many zero count ties
  as_many zero count (Some index ∷ ties) = ap (λ rest. reader index ∷ rest) (as_many zero count ties)
  as_many (suc place) count (tie ∷ ties) = as_many place count ties

  -- who is connected at a place is who its tie leads to
  pub reader_at : (place count : ℕ) (ties : List (Option ℕ))
      → get_or (map (option_map reader) (ties ++ replicate count None)) place None ≡ option_map reader (get_or ties place None)
  reader_at place zero [] = refl
  reader_at zero (suc count) [] = refl
  reader_at (suc place) (suc count) [] = reader_at place count []
  reader_at zero count (tie ∷ ties) = refl
  reader_at (suc place) count (tie ∷ ties) = reader_at place count ties

  -- nobody is after the places that are reached
  pub left_is : (place most : ℕ) (ties : List (Option ℕ))
      → those (drop place (map (option_map reader) (reached most ties))) ≡ those (map (option_map reader) (drop place ties))
  left_is place most ties =
      ap those (drop-map (option_map reader) place (reached most ties)) ∙ as_many place (most - length ties) ties

set_twice_by : {X : Type 0} (test : ℕ → Bool) (b : Bool) (entry : ℕ × X) (entries : List (ℕ × X)) (one other : X) → test entry.0 ≡ b
    → set_value test (set_value test entries one) other ≡ set_value test entries other
    → set_value test (cond b ((entry.0, one) ∷ entries) (entry ∷ set_value test entries one)) other
    ≡ cond b ((entry.0, other) ∷ entries) (entry ∷ set_value test entries other)
set_twice_by test true entry entries one other is rest =
    ap (λ b. cond b ((entry.0, other) ∷ entries) ((entry.0, one) ∷ set_value test entries other)) is
set_twice_by test false entry entries one other is rest =
    ap (λ b. cond b ((entry.0, other) ∷ set_value test entries one) (entry ∷ set_value test (set_value test entries one) other)) is
    ∙ ap (λ more. entry ∷ more) rest

-- a value that is set twice is the one that was set last
pub set_twice : {X : Type 0} (test : ℕ → Bool) (entries : List (ℕ × X)) (one other : X)
    → set_value test (set_value test entries one) other ≡ set_value test entries other
set_twice test [] one other = refl
set_twice test (entry ∷ entries) one other =
    set_twice_by test (test entry.0) entry entries one other refl (set_twice test entries one other)

-- what is replied where a send came to its end
abbrev told : {T : Type 0} → Bool → ℕ → Reply T
told fails count = if fails then reply.Refused (refusal.Send error.UnableToDeliver) else reply.Delivered count

answered_by : {T : Type 0} (fails : Bool) (count : ℕ)
    → ◌≡◌ {A = Reply T} (sent_or_skipped (Some (if fails then Err error.UnableToDeliver else Ok (sent.Delivered count)))) (told fails count)
answered_by true count = refl
answered_by false count = refl

ended_by : {T : Type 0} (fails other : Bool) (count number : ℕ) → other ≡ fails → number ≡ count
    → ◌≡◌ {A = Reply T} (told fails count) (told other number)
ended_by {T} fails other count number same same_count =
    ap (λ b. told {T = T} b count) (sym same) ∙ ap (λ n. told {T = T} other n) (sym same_count)

-- A send that begins, or a blocked send that continues, is as far in the domain as in the machine: it has this message, its next
-- subscribers are those connected at the remaining places, and as many took it; it was tried again as often and for as long, if a
-- subscriber is connected at the first of these places, and not yet otherwise.
pub record IsBegun {T U : Type 0} (name : ℕ → ℕ) (connected ties : List (Option ℕ)) (progress : ProgressState)
    (sent : domain.Message T U) (send : Send T) : Type 0 where
  pub carries : send.message ≡ message_as name sent
  pub left : send.left ≡ those (drop progress.place connected)
  pub delivered : send.delivered ≡ progress.delivered
  pub fails : send.fails ≡ progress.fails
  pub retries : progress.retries ≡ min send.retries (2 ^ 64 - 1)
  pub elapsed : progress.elapsed ≡ send.elapsed
  pub untried : get_or ties progress.place None ≡ None → (send.retries ≡ 0) × (send.elapsed ≡ 0)

module _ {T U : Type 0} (choices : Choices T) (names : Naming) (lent after_lent : List (ℕ × LentSlot)) (held : List (ℕ × Taken))
    (buffer : ℕ)
    (old : ServicePorts T U) (service : Service T) (number : ℕ) (port : PublisherPort T U)
    (stands : StandsFor names lent held buffer old service) (there : port_of number old.publishers ≡ Some port) (from : ProgressState)
    (last last_there : Option ℕ) (out : List (domain.Loan T U)) (kept : List (domain.Message T U)) (history : List (Message T))
    (loans : List (ℕ × Loan T)) (message : domain.Message T U) (send : Send T)
    (may : BackpressureInfo → BackpressureDecision → Type 0) where
  abbrev was : PublisherIs names old service number port
  was = stands.publishers number port there

  -- the publisher of a domain that sends the message, as far as this, with this number as its last, these loans and this history
  abbrev pub started : PublisherPort T U
  started = record port {
    last_sequence = last;
    sender = with_uses (record port.sender.uses { sending = Some message; loans = out; history = kept }) port.sender;
    progress = from;
  }

  -- and that of the machine
  abbrev pub publisher : Publisher T
  publisher = record was.0 { last_sequence = last_there; history = history }

  abbrev name : ℕ
  name = names.publisher number

  abbrev before : Service T
  before = record service { loans = loans }

  -- the publisher of a domain with these connections, as far as this, of which this is still sent
  abbrev after_with : List (Connection (domain.Message T U)) → ProgressState → Option (domain.Message T U) → PublisherPort T U
  after_with connections progress sending = record started {
    sender = with_uses (record started.sender.uses { connections = connections; sending = sending }) started.sender;
    progress = progress;
  }

  abbrev IsFar : List (Connection (domain.Message T U)) → ProgressState → (ℕ → ℕ → Option (Mailbox T)) → Send T → Type 0
  IsFar = IsAsFar choices may (names.message number) (names.reader number) names.subscriber name publisher before started message

  abbrev Comes : Bool → PublisherPort T U → (Send T → Service T → Type 0) → Type 0
  Comes = EndsAlike choices may (names.message number) (names.reader number) names.subscriber name publisher before started message

  -- what the machine answers to a send that is blocked or isn't, and what it makes of its publisher
  abbrev TellsBy : Bool → Send T → Service T → Reply T → Service T → Type 0
  TellsBy waiting so_far after answered new =
      (answered ≡ (if waiting then reply.Blocked else told so_far.fails so_far.delivered))
      × (new ≡ with_publisher name (record publisher { blocked = if waiting then Some so_far else None }) after)

  -- a publisher that began to send comes to this in a domain, and in the machine
  abbrev pub Finished : Result Sent SendError → PublisherPort T U → Type 0
  Finished answer after =
      (new : Service T) × GoesOn choices name publisher send before (sent_or_skipped (Some answer)) new
      × StandsFor names after_lent held buffer (with_one number after old) new × (after.stands ≡ true)

  module _ (standing : port.stands ≡ true) (sequence_is : last_there ≡ last)
      (history_is : history ≡ map (message_as (names.message number)) kept)
      (once : (slot : ℕ) → times slot (slots_of started.sender).history ≤ 1)
      (named : NamesSlots (names.message number) (slots_of started.sender) was.0.first was.0.next)
      (begins : IsBegun (names.message number) was.0.connected port.ties.items from message send)
      (boxes : MailboxesStandFor (names.message number) (names.reader number) names.subscriber started (service.mailboxes name)
      service.subscribers)
      (within : (index : ℕ) → length (connection_of index port).waiting ≤ (connection_of index port).limit)
      (ready : IsReadyToSend choices may (names.reader number) name publisher before started)
      (lends : LoansStandFor names (with_one number started old) after_lent loans) where
    abbrev slot_of : domain.Message T U → ℕ
    slot_of one = one.slot

    connected_at : (place : ℕ) → get_or publisher.connected place None
        ≡ option_map (names.reader number) (get_or started.ties.items place None)
    connected_at place =
        ap (λ connected. get_or connected place None) was.2.connected
        ∙ reader_at (names.reader number) place (old.sizes.max_subscribers - length started.ties.items) started.ties.items

    first : IsFar started.sender.uses.connections started.progress service.mailboxes send
    first = record {
      boxes = boxes;
      stage = λ index. refl;
      borrowed = λ index. refl;
      within = within;
      used = λ index slot off some. some;
      others = λ other off. refl;
      same = λ one other. refl;
      carries = begins.carries;
      delivered = begins.delivered;
      fails = begins.fails;
      retries = begins.retries;
      elapsed = begins.elapsed;
      untried = begins.untried;
    }

    left_there : (place : ℕ) → those (drop place publisher.connected)
        ≡ readers_of choices may (names.message number) (names.reader number) names.subscriber name publisher before started message
        (drop place started.ties.items)
    left_there place =
        ap (λ connected. those (drop place connected)) was.2.connected
        ∙ left_is (names.reader number) place old.sizes.max_subscribers started.ties.items

    walked : (arrived : Bool) (gone : PublisherPort T U)
        → Delivers may (length started.ties.items - started.progress.place) started arrived gone
        → Comes arrived gone (machine.Delivers choices name publisher send.left send before)
    walked arrived gone delivers =
        subst (λ left. Comes arrived gone (machine.Delivers choices name publisher left send before))
        (sym (begins.left ∙ left_there started.progress.place))
        (walk choices may (names.message number) (names.reader number) names.subscriber name publisher before started message ready refl
        (drop started.progress.place started.ties.items) started.sender.uses.connections started.progress service.mailboxes send arrived
        gone refl first
        (subst (λ count. Delivers may count started arrived gone) (sym (length-drop started.progress.place started.ties.items)) delivers))

    module _ (connections : List (Connection (domain.Message T U))) (progress : ProgressState) (mailboxes : ℕ → ℕ → Option (Mailbox T))
        (so_far : Send T) (far : IsFar connections progress mailboxes so_far) (sending : Option (domain.Message T U))
        (still : (sending ≡ None) ⊎ (sending ≡ started.sender.uses.sending)) where
      abbrev after : PublisherPort T U
      after = after_with connections progress sending

      sent_less : (slot : ℕ) → times slot (option_to_list (option_map slot_of sending))
          ≤ times slot (option_to_list (slots_of started.sender).sending)
      sent_less slot = ⊎_elim
          (λ none. omega (arith, ap (λ one. times slot (option_to_list (option_map slot_of one))) none))
          (λ same. omega (arith, ap (λ one. times slot (option_to_list (option_map slot_of one))) same))
          still

      sent_once : times message.slot (option_to_list (slots_of started.sender).sending) ≡ 1
      sent_once =
          times_one message.slot message.slot ∙ one_same message.slot

      abbrev held_now : ℕ → ℕ
      held_now slot = times slot (uses.held (slots_of after.sender).connections)

      abbrev held_first : ℕ → ℕ
      held_first slot = times slot (uses.held (slots_of started.sender).connections)

      -- what is held now was, or it is the message
      held_was : (slot : ℕ) → slot ≢ message.slot → 0 < held_now slot → 0 < held_first slot
      held_was slot off some =
          let it = held_from slot connections some in
          held_to slot it.0 started.sender.uses.connections (far.used it.0 slot off it.1)

      used_before : (slot : ℕ) → 0 < times slot (in_use (slots_of after.sender)) → 0 < times slot (in_use (slots_of started.sender))
      used_before slot some = ⊎_elim
          (λ same. omega (
            arith,
            used slot (slots_of started.sender),
            sent_once,
            ap (λ n. times n (option_to_list (slots_of started.sender).sending)) same,
          ))
          (λ off. some_or_none (held_now slot)
          (λ held_some. omega (arith, used slot (slots_of started.sender), held_was slot off held_some))
          (λ none. omega (arith, some, none, sent_less slot, used slot (slots_of started.sender), used slot (slots_of after.sender))))
          (cases_eq slot message.slot)

      sole : (slot : ℕ) → 0 < times slot (slots_of started.sender).loans → times slot (in_use (slots_of after.sender)) ≡ 1
      sole slot some =
          let alone = named.sole slot some in
          let whole = used slot (slots_of started.sender) in
          let off : slot ≢ message.slot = λ same. absurd (omega (
            arith,
            some,
            alone,
            whole,
            sent_once,
            ap (λ n. times n (option_to_list (slots_of started.sender).sending)) same,
          )) in
          some_or_none (held_now slot)
          (λ held_some. absurd (omega (arith, some, alone, whole, held_was slot off held_some)))
          (λ none. omega (arith, some, alone, whole, none, sent_less slot, used slot (slots_of after.sender)))

      port_after : (blocked : Option (Send T)) → BlockedStandsFor (names.message number) publisher.connected progress sending blocked
          → PublisherStandsFor (names.message number) (names.reader number) old.sizes.max_subscribers after
          (record publisher { blocked = blocked })
      port_after blocked is = record {
        factory = was.2.factory;
        stands = was.2.stands;
        max_loaned_samples = was.2.max_loaned_samples;
        allocation = was.2.allocation;
        slots = was.2.slots;
        room = was.2.room;
        segments = was.2.segments;
        last_sequence = sequence_is;
        history = history_is;
        once = once;
        seen = was.2.seen;
        connected = was.2.connected;
        ties = was.2.ties;
        blocked = is;
        left = λ left. never_true (sym left ∙ standing);
        named = named_still (names.message number) (slots_of started.sender) (slots_of after.sender) publisher.first publisher.next refl
            refl used_before sole named;
        unit = was.2.unit;
        most_segments = was.2.most_segments;
        ample = was.2.ample;
      }

      still_sent : (one : domain.Message T U) → sending ≡ Some one → started.sender.uses.sending ≡ Some one
      still_sent one is = ⊎_elim (λ none. never_some one (sym none ∙ is)) (λ same. sym same ∙ is) still

      boxes_after : MailboxesStandFor (names.message number) (names.reader number) names.subscriber after (mailboxes name)
          service.subscribers
      boxes_after = record {
        live = far.boxes.live;
        ended = far.boxes.ended;
        quiet = far.boxes.quiet;
        others = far.boxes.others;
        none = far.boxes.none;
        known = far.boxes.known;
        apart = far.boxes.apart;
        led = far.boxes.led;
        read = far.boxes.read;
        heard = far.boxes.heard;
        unmet = far.boxes.unmet;
        once = far.boxes.once;
        due = λ one is. far.boxes.due one (still_sent one is);
      }

      now_started : port_of number (with_one number started old).publishers ≡ Some started
      now_started = same_set (at_number number) old.publishers started port there

      loans_after : LoansStandFor names (with_one number after old) after_lent loans
      loans_after =
          subst (λ publishers. LoansStandFor names (record old { publishers = publishers }) after_lent loans)
          (set_twice (at_number number) old.publishers started after)
          (loans_kept number started after (with_one number started old) now_started names after_lent loans refl lends)

      -- the ports stand for the service then
      stands_after : (blocked : Option (Send T)) → BlockedStandsFor (names.message number) publisher.connected progress sending blocked
          → StandsFor names after_lent held buffer (with_one number after old)
          (with_publisher name (record publisher { blocked = blocked }) (record before { mailboxes = mailboxes }))
      stands_after blocked is =
          all_changed names names.message lent after_lent held held buffer old service number port after
          (record publisher { blocked = blocked }) (changed name (record publisher { blocked = blocked }) service.publishers) loans
          service.samples mailboxes old.subscribers stands there (λ other off. refl)
          (at_changed name (record publisher { blocked = blocked }) was.0 service.publishers was.1)
          (λ other off. at_changed_other name other (record publisher { blocked = blocked }) service.publishers off)
          (port_after blocked is) boxes_after far.others (λ one other there. sym (far.same one other) ∙ there) (λ other. refl)
          stands.once_subscribers refl refl refl
          (stands.keyed number port there) loans_after
          (samples_alike names held old number port after there
          far.borrowed service.samples stands.samples)

    -- what is told of a send that went so far
    tells : (so_far : Send T) (after : Service T) → machine.Delivers choices name publisher send.left send before so_far after
        → (answered : Reply T) (new : Service T) → TellsBy (is_some (slice_get so_far.left 0)) so_far after answered new
        → GoesOn choices name publisher send before answered new
    tells so_far after went answered new (told_so, is) = (so_far, after, went, told_so, is)

    -- a send that came to the end
    arrives : (gone : PublisherPort T U) → Comes true gone (machine.Delivers choices name publisher send.left send before)
        → Finished (sent_answer true gone.progress) (concluded true gone)
    arrives gone to =
        let new : Service T = with_publisher name (record publisher { blocked = None }) (record before { mailboxes = to.mailboxes }) in
        let none : is_some (slice_get to.send.left 0) ≡ false = ap (λ left. is_some (slice_get left 0)) to.ends in
        let after : Service T = record before { mailboxes = to.mailboxes } in
        subst (λ (one : PublisherPort T U). Finished (sent_answer true one.progress) (concluded true one)) (sym to.is_gone) (
          new,
          tells to.send after to.is_found (sent_or_skipped (Some (sent_answer true to.progress))) new
              (subst (λ b. TellsBy b to.send after (sent_or_skipped {T = T} (Some (sent_answer true to.progress))) new) (sym none) (
                answered_by to.progress.fails to.progress.delivered
                    ∙ ended_by to.progress.fails to.send.fails to.progress.delivered to.send.delivered to.is_at.fails to.is_at.delivered,
                refl,
              )),
          stands_after to.connections to.progress to.mailboxes to.send to.is_at None (inl refl) None refl,
          standing,
        )

    -- a blocked send
    waits : (gone : PublisherPort T U) → Comes false gone (machine.Delivers choices name publisher send.left send before)
        → Finished (sent_answer false gone.progress) (concluded false gone)
    waits gone to =
        let new : Service T = with_publisher name (record publisher { blocked = Some to.send })
        (record before { mailboxes = to.mailboxes }) in
        let some : is_some (slice_get to.send.left 0) ≡ true = ap (λ left. is_some (slice_get left 0)) to.ends.2 in
        let blocked : BlockedStandsFor (names.message number) publisher.connected to.progress started.sender.uses.sending (Some to.send) = (
          to.send,
          refl,
          record {
            message = to.is_at.carries;
            left = to.ends.2 ∙ to.ends.3 ∙ sym (left_there to.progress.place);
            delivered = to.is_at.delivered;
            fails = to.is_at.fails;
            retries = to.is_at.retries;
            elapsed = to.is_at.elapsed;
            meets = ap is_some (connected_at to.progress.place ∙ ap (option_map (names.reader number)) to.ends.5);
          },
        ) in
        subst (λ (one : PublisherPort T U). Finished (sent_answer false one.progress) (concluded false one)) (sym to.is_gone) (
          new,
          tells to.send (record before { mailboxes = to.mailboxes }) to.is_found reply.Blocked new
              (subst (λ b. TellsBy b to.send (record before { mailboxes = to.mailboxes }) reply.Blocked new) (sym some) (refl, refl)),
          stands_after to.connections to.progress to.mailboxes to.send to.is_at started.sender.uses.sending (inr refl) (Some to.send)
              blocked,
          standing,
        )

    by_end : (arrived : Bool) (gone : PublisherPort T U)
        → Comes arrived gone (machine.Delivers choices name publisher send.left send before)
        → Finished (sent_answer arrived gone.progress) (concluded arrived gone)
    by_end true gone to = arrives gone to
    by_end false gone to = waits gone to

    -- A send that began goes through the remaining places in both, and has the same answer in both.
    pub finishes : (answer : Result Sent SendError) (last : PublisherPort T U) → Finishes may started answer last → Finished answer last
    finishes answer last goes =
        subst (λ (one : PublisherPort T U). Finished answer one) (sym goes.4)
        (subst (λ result. Finished result (concluded goes.0 goes.1)) (sym goes.3)
        (by_end goes.0 goes.1 (walked goes.0 goes.1 goes.2)))
