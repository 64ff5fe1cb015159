-- The connection of a subscriber that a place lists: the one that it has, or a new one.
use Rattle.std.proofs.Common.{◌≡◌, ◌≢◌, ◌≤◌, ◌<◌, ◌+◌, ◌++◌, ◌∷◌, [], ℕ, zero, suc, Bool, true, false, cond, not, List, get_or, set}
use Rattle.std.proofs.Common.{length, map, Option, None, Some, Ok, refl, inl, inr, sym, ap, subst, ◌∙◌, arith}
use Rattle.std.proofs.lemmas.Bool.{cases_eq, eqb-true, eq-eqb, ne_eqb, lt-ltb}
use Rattle.std.proofs.lemmas.List.{get_or-set_same, get_or_push}
use Rattle.std.specs.List.{position, position_or_len}
use Rattle.std.specs.Option.{option_map_or}
use Rattle.std.specs.Prelude.{is_some, if◌then◌else◌, ◌==◌}
use Rattle.iox_domain.proofs.Numbered.{bool_false}
use Rattle.iox_domain.proofs.TiedWell.{long_enough}
use Rattle.iox_domain.proofs.TiedUpdates.{MadeAt, connects_made, found_leads}
use Rattle.iox_domain.specs.Container.declared.container.Member.{Member}
use Rattle.iox_domain.specs.DomainPorts.Messages.{Message}
use Rattle.iox_domain.specs.DomainPorts.Places.{leads_to, reached}
use Rattle.iox_domain.specs.DomainPorts.Ports.{connection_of, connection_to, goes_on, is_live, Connects}
use Rattle.iox_domain.specs.DomainPorts.PublisherUpdating.{within_reach, is_tie_to}
use Rattle.iox_domain.specs.DomainPorts.declared.publisher_port.PublisherPort.{PublisherPort}
use Rattle.iox_domain.specs.DomainPorts.declared.reader.Reader.{Reader}
use Rattle.iox_domain.specs.DomainPorts.declared.subscriber_entry.SubscriberEntry.{SubscriberEntry}
use Rattle.iox_domain.specs.DomainSlots.Uses.{Connection, nobody, connected, welcomed, is_there}
use Rattle.iox_domain.specs.DomainSlots.declared.stage.Stage.{Stage}
use Rattle.iox_domain.specs.DomainSlots.declared.stage.Stage.TheVariants as stage
use Rattle.iox_domain.specs.PortLawsLaws.{IsTiedWell}
use Rattle.iox_domain_machine.specs.Mailboxes.{MailboxesStandFor, JoinsNobody}
use Rattle.iox_domain_machine.specs.Naming.{message_as, mailbox_as, with_name}
use Rattle.iox_domain_machine.proofs.FollowSteps.{OnlyTied}
use Rattle.iox_domain_machine.proofs.FollowTied.{greeting, newest_map, JoinedAt}
use Rattle.iox_domain_machine.proofs.Found.{never_some, never_true}
use Rattle.iox_domain_machine.proofs.GivingUp.{some_of}
use Rattle.iox_domain_machine.proofs.ReleasePort.{differ, live_open}
use Rattle.iox_machine.specs.Mailbox.{Mailbox}
use Rattle.iox_machine.specs.Mailbox as mailbox
use Rattle.iox_machine.specs.Message as machine
use Rattle.iox_machine.specs.Service.{Subscriber}
use Rattle.iox_machine.specs.Table.{at}

-- who leads to a subscriber, of these readers, is found
led_within : (subscriber : ℕ) (readers : List (Option Reader)) (index : ℕ) → leads_to subscriber (get_or readers index None) ≡ true
    → position_or_len (leads_to subscriber) readers < length readers
led_within subscriber [] index is = never_true is
led_within subscriber (reader ∷ readers) zero is =
    omega (arith, ap (λ b. cond (not b) (1 + position_or_len (leads_to subscriber) readers) 0) is)
led_within subscriber (reader ∷ readers) (suc index) is =
    by (leads_to subscriber reader) (led_within subscriber readers index is)
  where
    by : (b : Bool) → position_or_len (leads_to subscriber) readers < length readers
        → cond (not b) (1 + position_or_len (leads_to subscriber) readers) 0 < suc (length readers)
    by true within = omega arith
    by false within = omega (arith, within)

found_leading : (subscriber : ℕ) (readers : List (Option Reader)) (index : ℕ) → leads_to subscriber (get_or readers index None) ≡ true
    → is_some (position (leads_to subscriber) readers) ≡ true
found_leading subscriber readers index is =
    let first = position_or_len (leads_to subscriber) readers in
    ap (λ b. is_some (cond b (Some first) None))
    (lt-ltb first (length readers) (led_within subscriber readers index is))

-- where no connection leads to a subscriber, none does
none_leads : {T U : Type 0} (subscriber : ℕ) (port : PublisherPort T U) (index : ℕ) → connection_to subscriber port ≡ None
    → leads_to subscriber (get_or port.readers index None) ≡ false
none_leads subscriber port index none =
    bool_false _ (λ leads. never_true (sym (ap is_some none) ∙ found_leading subscriber port.readers index leads))

-- who a reader leads to
pub led_to : (subscriber : ℕ) (reader : Option Reader) → leads_to subscriber reader ≡ true
    → (to : Reader) × (reader ≡ Some to) × (to.subscriber ≡ subscriber)
led_to subscriber None leads = never_true leads
led_to subscriber (Some reader) leads = (reader, refl, eqb-true reader.subscriber subscriber leads)

pub first_nil : {X : Type 0} (xs ys : List X) → xs ++ ys ≡ [] → (xs ≡ []) × (ys ≡ [])
first_nil [] ys is = (refl, is)
first_nil (x ∷ xs) ys is = absurd (cc)

-- a connection that is placed
placed_there : {X : Type 0} (behind : Bool) (connections : List (Connection X)) (index : ℕ) (connection : Connection X)
    → (index == length connections) ≡ behind → index ≤ length connections
    → get_or (if behind then connections ++ connection ∷ [] else set connections index connection) index nobody ≡ connection
placed_there true connections index connection is within =
    get_or_push connections connection nobody index (sym (eqb-true index (length connections) is))
placed_there false connections index connection is within = elim (cases_eq index (length connections)) [
  | inl same ↦ differ (sym (eq-eqb index (length connections) same) ∙ is)
  | inr off ↦ get_or-set_same connections index connection nobody (omega (arith, within, off))
]

pub stage_live : (now : Stage) → is_there {X = ℕ} (record { stage = now; limit = 0; waiting = []; borrowed = [] }) ≡ true
    → goes_on now ≡ false → now ≡ stage.Ended
stage_live stage.Vacant there stops = never_true there
stage_live stage.Live there stops = differ stops
stage_live stage.Ended there stops = refl

module _ {T U : Type 0} (name subscriber_name reader : ℕ → ℕ) (subscribers : List (ℕ × Subscriber)) (port : PublisherPort T U)
    (mailboxes : ℕ → Option (Mailbox T)) (boxes : MailboxesStandFor name reader subscriber_name port mailboxes subscribers)
    (standing : port.stands ≡ true)
    (names_apart : (one other : ℕ) → subscriber_name one ≢ 0 → subscriber_name one ≡ subscriber_name other → one ≡ other)
    (subscriber : ℕ) (one : Subscriber) (is_one : at (subscriber_name subscriber) subscribers ≡ Some one) (stands : one.stands ≡ true)
  where
    -- where no connection leads to a subscriber that stands, it is joined by none
    joins_by : connection_to subscriber port ≡ None → (index : ℕ) (live : Bool) → is_live index port ≡ live
        → is_there (connection_of index port) ≡ true → reader index ≢ subscriber_name subscriber
    joins_by none index true live there same =
        let to = some_of (get_or port.readers index None) (boxes.led index live) in
        let its = boxes.read index to.0 to.1 in
        let it : to.0.subscriber ≡ subscriber = names_apart to.0.subscriber subscriber its.1 (sym its.0 ∙ same) in
        never_true (sym (none_leads subscriber port index none) ∙ ap (leads_to subscriber) to.1 ∙ eq-eqb to.0.subscriber subscriber it)
    joins_by none index false live there same =
        let ended = boxes.ended index (stage_live (connection_of index port).stage there live) in
        never_true (sym ((ended.3 standing).1 one (ap (λ n. at n subscribers) same ∙ is_one)) ∙ stands)

    joins_nobody : connection_to subscriber port ≡ None → JoinsNobody reader (subscriber_name subscriber) port
    joins_nobody none index there = joins_by none index (is_live index port) refl there

    -- and has no mailbox
    pub no_mailbox : connection_to subscriber port ≡ None → mailboxes (subscriber_name subscriber) ≡ None
    no_mailbox none = boxes.none (subscriber_name subscriber) (joins_nobody none) standing one is_one stands

    module _ (next : ℕ) (places : List (Option (Member SubscriberEntry))) (well : IsTiedWell next places port) (place : ℕ)
        (member : Member SubscriberEntry) (listed : get_or places place None ≡ Some member) (its : member.value.subscriber ≡ subscriber)
        (untied : get_or port.ties.items place None ≡ None) (some : subscriber_name subscriber ≢ 0) (limit : ℕ)
        (sized : one.buffer_size ≡ limit) where
      -- the one that it has
      pub joined_there : (index : ℕ) → connection_to subscriber port ≡ Some index
          → JoinedAt name subscriber_name subscribers place index port (within_reach place port) reader reader mailboxes subscriber
      joined_there index found =
          let leads : leads_to subscriber (get_or port.readers index None) ≡ true = found_leads subscriber index port found in
          let to = led_to subscriber (get_or port.readers index None) leads in
          let live : is_live index port ≡ true = well.read subscriber index leads in
          let named = boxes.read index to.0 to.1 in
          let free : (other : ℕ) → other ≢ place → get_or port.ties.items other None ≢ Some index =
          λ other off tie. differ (sym leads ∙ ap (λ n. leads_to n (get_or port.readers index None)) (sym its)
          ∙ ap (λ one. is_tie_to member.value.subscriber one port) (sym tie) ∙ well.alone place other member listed off) in
          let nothing = first_nil (connection_of index port).waiting (connection_of index port).borrowed
          (boxes.unmet standing index live (λ other tie. elim (cases_eq other place) [
            | inl same ↦ never_some index (sym untied ∙ ap (λ n. get_or port.ties.items n None) (sym same) ∙ tie)
            | inr off ↦ free other off tie
          ])) in
          record {
            only = refl;
            ties = refl;
            elsewhere = λ other off. refl;
            reads = λ other off. refl;
            called = λ other off. refl;
            apart = λ other off there same. off (boxes.apart other index there (live_open (connection_of index port).stage live) same);
            same = λ there. refl;
            live = live;
            waits = nothing.0;
            borrows = nothing.1;
            borrowed = nothing.1;
            to = to.0;
            reads_to = to.1;
            its = named.0;
            whose = to.2;
            some = named.1;
            read = λ attached. to.1;
            free = free;
            box = ap (greeting (map (message_as name) port.sender.uses.history) subscribers (reader index)) (boxes.live index live)
                ∙ ap (λ (all : List (machine.Message T)). record (mailbox_as name (connection_of index port)) { waiting = all })
                (newest_map (message_as name) (connection_of index port).limit port.sender.uses.history);
          }

      -- a new one
      pub joined_new : (index : ℕ) (joined : PublisherPort T U) → connection_to subscriber port ≡ None
          → Connects limit (record { subscriber = subscriber; attached = false }) (within_reach place port) (Ok index) joined
          → JoinedAt name subscriber_name subscribers place index port joined reader
          (with_name index (subscriber_name subscriber) reader) mailboxes subscriber
      joined_new index joined none connects =
          let made : MadeAt subscriber index (within_reach place port) joined =
          connects_made subscriber limit index false (within_reach place port) joined connects in
          let new_reader : ℕ → ℕ = with_name index (subscriber_name subscriber) reader in
          let to : Reader = record { subscriber = subscriber; attached = false } in
          let count = length port.sender.uses.connections + 1 in
          let reads_to : get_or joined.readers index None ≡ Some to =
          ap (λ (one : PublisherPort T U). get_or one.readers index None) connects.2
          ∙ get_or-set_same (reached count port.readers) index (Some to) None
          (omega (arith, connects.1, long_enough port.readers count)) in
          let here : connection_of index joined ≡ connected limit =
          ap (λ (one : PublisherPort T U). connection_of index one) connects.2
          ∙ placed_there (index == length port.sender.uses.connections) port.sender.uses.connections index (connected limit) refl connects.1
          in
          let named : new_reader index ≡ subscriber_name subscriber =
          ap (λ b. if b then subscriber_name subscriber else reader index) (eq-eqb index index refl) in
          let called : (other : ℕ) → other ≢ index → new_reader other ≡ reader other =
          λ other off. ap (λ b. if b then subscriber_name subscriber else reader other) (ne_eqb other index off) in
          let was : connection_of index port ≡ nobody = connects.0 in
          record {
            only = subst (λ (one : PublisherPort T U). OnlyTied port one) (sym connects.2) refl;
            ties = made.ties;
            elsewhere = made.others;
            reads = made.readers;
            called = called;
            apart = λ other off there same. joins_nobody none other there (same ∙ named);
            same = λ there. never_true (sym (ap is_there was) ∙ there);
            live = made.goes;
            waits = made.waits;
            borrows = ap (λ (one : Connection (Message T U)). one.borrowed) here;
            borrowed = ap (λ (one : Connection (Message T U)). one.borrowed) was;
            to = to;
            reads_to = reads_to;
            its = named;
            whose = refl;
            some = some;
            read = λ attached. never_true attached;
            free = λ other off tie.
                never_true (sym (ap (λ (one : Connection (Message T U)). goes_on one.stage) was) ∙ well.live other index tie);
            box = ap (λ n. greeting (map (message_as name) port.sender.uses.history) subscribers n (mailboxes n)) named
                ∙ ap (greeting (map (message_as name) port.sender.uses.history) subscribers (subscriber_name subscriber)) (no_mailbox none)
                ∙ ap (λ (found : Option Subscriber). let most = option_map_or (λ (one : Subscriber). one.buffer_size) found 0 in
                let box : Mailbox T = record {
                  limit = most;
                  waiting = mailbox.newest most (map (message_as name) port.sender.uses.history);
                  borrowed = [];
                } in box) is_one
                ∙ ap (λ most. let box : Mailbox T = record {
                  limit = most;
                  waiting = mailbox.newest most (map (message_as name) port.sender.uses.history);
                  borrowed = [];
                } in box) sized
                ∙ ap (λ (all : List (machine.Message T)).
                let box : Mailbox T = record { limit = limit; waiting = all; borrowed = [] } in box)
                (newest_map (message_as name) limit port.sender.uses.history)
                ∙ ap (λ (one : Connection (Message T U)). mailbox_as name (welcomed port.sender.uses.history one)) (sym here);
          }
