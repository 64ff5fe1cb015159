-- A publisher that follows the list of subscribers is one of the machine that does.
use Rattle.std.proofs.Common.{◌≡◌, ◌≢◌, ◌<◌, ◌-◌, ◌⊎◌, ◌&&◌, [], ℕ, Bool, true, false, not, List, get_or, length, length-append, map}
use Rattle.std.proofs.Common.{Option, None, Some, Result, refl, sym, ap, subst, inl, inr, ◌∙◌, arith}
use Rattle.std.proofs.Math.Logic.{⊎_elim}
use Rattle.std.proofs.lemmas.Bool.{cases_eq, cases_lt, eq-eqb}
use Rattle.std.proofs.lemmas.List.{get_or-map, get_or_past, length-map, length-replicate}
use Rattle.std.specs.List.{filter, list_all}
use Rattle.std.specs.Prelude.{is_some, option_map, replicate, if◌then◌else◌, zip}
use Rattle.iox_command.specs.DomainValues.declared.connection_failure.ConnectionFailure.{ConnectionFailure}
use Rattle.iox_command.specs.DomainValues.declared.degradation.DegradationAction.{DegradationAction}
use Rattle.iox_domain.proofs.TiedWell.{alike_still, still_there, well_alike}
use Rattle.iox_domain.specs.Container.declared.container.Member.{Member}
use Rattle.iox_domain.specs.DomainPorts.Messages as domain
use Rattle.iox_domain.specs.DomainPorts.Places.{leads_to, reached}
use Rattle.iox_domain.specs.DomainPorts.Ports.{connection_of, with_connections, is_live}
use Rattle.iox_domain.specs.DomainPorts.PublisherUpdating.{FollowsAll, is_tie_to}
use Rattle.iox_domain.specs.DomainPorts.declared.publisher_port.PublisherPort.{PublisherPort}
use Rattle.iox_domain.specs.DomainPorts.declared.reader.Reader.{Reader}
use Rattle.iox_domain.specs.DomainPorts.declared.subscriber_entry.SubscriberEntry.{SubscriberEntry}
use Rattle.iox_domain.specs.DomainSlots.Uses.{is_there}
use Rattle.iox_domain.specs.DomainValues.declared.degradation.DegradationInfo.{DegradationInfo}
use Rattle.iox_domain.specs.PortLawsLaws.{IsTiedWell}
use Rattle.iox_domain.specs.Rolls.{RollState}
use Rattle.iox_domain_machine.specs.Mailboxes.{MailboxesStandFor}
use Rattle.iox_domain_machine.specs.Naming.{list_as, message_as, mailbox_as}
use Rattle.iox_domain_machine.specs.Publishers.{PublisherStandsFor, BlockedStandsFor}
use Rattle.iox_domain_machine.proofs.FollowAll.{FollowedAll, follows_all}
use Rattle.iox_domain_machine.proofs.FollowJoined.{led_to, stage_live, first_nil}
use Rattle.iox_domain_machine.proofs.FollowLists.{mapped_at, same_places, contains_there, contained_at, contained_nowhere}
use Rattle.iox_domain_machine.proofs.FollowLists.{contains_filter, all_pass}
use Rattle.iox_domain_machine.proofs.FollowMachine.{all_greeted, greeted_here, greeted_others, all_welcomed, ended_here, ended_others}
use Rattle.iox_domain_machine.proofs.FollowMidway.{FollowsList, HasBecome, Midway, named_by}
use Rattle.iox_domain_machine.proofs.FollowSteps.{emptied, IsUnlisted, OnlyTied}
use Rattle.iox_domain_machine.proofs.FollowTied.{greeting}
use Rattle.iox_domain_machine.proofs.FollowUses.{named_still}
use Rattle.iox_domain_machine.proofs.Found.{same_some, never_some, never_true, same_everywhere}
use Rattle.iox_domain_machine.proofs.GivingUp.{none_blocked, some_of}
use Rattle.iox_domain_machine.proofs.LeavePort.{search_reader}
use Rattle.iox_domain_machine.proofs.ReleasePort.{differ}
use Rattle.iox_domain_machine.proofs.Settling.{both, isn't}
use Rattle.iox_machine.specs.Mailbox.{Mailbox}
use Rattle.iox_machine.specs.PortList.{those, unless}
use Rattle.iox_machine.specs.PublisherUpdate.{Follows, UpdateAnswers, ended}
use Rattle.iox_machine.specs.Service.{Publisher, Service}
use Rattle.iox_machine.proofs.Shorthands.{with_publisher}
use Rattle.iox_machine.specs.Table.{at, contains}

module _ {T U : Type 0} (name subscriber_name reader : ℕ → ℕ) (next most_subscribers most : ℕ) (roll : RollState SubscriberEntry)
    (port after : PublisherPort T U) (service : Service T) (its_name : ℕ) (publisher : Publisher T) where
  -- the publisher when it begins: it has seen all changes of the list
  abbrev pub begun : PublisherPort T U
  begun = record port { seen = roll.changes }

  -- The effect of an update: the machine's publisher follows the list, with this answer, and represents the domain's.
  pub record HasFollowed (May : DegradationAction → Type 0) (answer : Result (Unit {0}) ConnectionFailure) : Type 0 where
    pub new_reader : ℕ → ℕ
    pub connected : List (Option ℕ)
    pub new_mailboxes : ℕ → ℕ → Option (Mailbox T)
    pub follows : Follows its_name publisher service
        (record publisher { seen = service.subscriber_list.changes; connected = connected })
        (record (with_publisher its_name (record publisher { seen = service.subscriber_list.changes; connected = connected }) service) {
          mailboxes = new_mailboxes;
        })
    pub answered : UpdateAnswers May (zip service.subscriber_list.places connected) answer
    pub port_stands : PublisherStandsFor name new_reader most_subscribers after
        (record publisher { seen = service.subscriber_list.changes; connected = connected })
    pub boxes_stand : MailboxesStandFor name new_reader subscriber_name after (new_mailboxes its_name) service.subscribers
    pub others : (one other : ℕ) → one ≢ its_name → new_mailboxes one other ≡ service.mailboxes one other
    pub joined : (other : ℕ) → is_some (new_mailboxes its_name other) ≡ true
        → (is_some (service.mailboxes its_name other) ≡ true) ⊎ (is_some (at other service.subscribers) ≡ true)
    pub only : OnlyTied begun after
    pub borrowed : (index : ℕ) → (connection_of index after).borrowed ≡ (connection_of index port).borrowed
    pub named : (index : ℕ) → (connection_of index port).borrowed ≢ [] → new_reader index ≡ reader index
    pub read : (index : ℕ) (to : Reader) → get_or after.readers index None ≡ Some to → to.attached ≡ true
        → get_or port.readers index None ≡ Some to

  module _ (follows : FollowsList subscriber_name next most roll.places service.subscribers)
      (list : service.subscriber_list ≡ list_as (λ (entry : SubscriberEntry). subscriber_name entry.subscriber) roll)
      (long : length roll.places ≡ most_subscribers) (standing : port.stands ≡ true) (silent : port.sender.uses.sending ≡ None)
      (most_waiting : port.sender.uses.most_waiting ≡ most) (well : IsTiedWell next roll.places port)
      (is : PublisherStandsFor name reader most_subscribers port publisher)
      (boxes : MailboxesStandFor name reader subscriber_name port (service.mailboxes its_name) service.subscribers)
      (may : DegradationInfo → DegradationAction → Type 0) (May : DegradationAction → Type 0)
      (told : (info : DegradationInfo) (action : DegradationAction) → may info action → May action)
      (answer : Result (Unit {0}) ConnectionFailure) (call : FollowsAll may 0 roll.places None begun answer after) where
    abbrev places : List (Option (Member SubscriberEntry))
    places = roll.places

    abbrev first_boxes : ℕ → Option (Mailbox T)
    first_boxes = service.mailboxes its_name

    begun_boxes : MailboxesStandFor name reader subscriber_name begun first_boxes service.subscribers
    begun_boxes = record {
      live = boxes.live;
      ended = boxes.ended;
      quiet = boxes.quiet;
      others = boxes.others;
      none = boxes.none;
      known = boxes.known;
      apart = boxes.apart;
      led = boxes.led;
      read = boxes.read;
      heard = boxes.heard;
      unmet = boxes.unmet;
      once = boxes.once;
      due = boxes.due;
    }

    begins : Midway name subscriber_name next places service.subscribers begun reader first_boxes 0 0 begun reader first_boxes
    begins = record {
      only = refl;
      well = well_alike next places port begun (alike_still port begun refl refl refl refl) well;
      boxes_stand = begun_boxes;
      size = omega (arith, is.ties, long);
      ahead = λ place later. refl;
      tied = λ place index later tie. (refl, refl);
      untouched = λ place member later listed. refl;
      done = λ place below. absurd (omega (arith, below));
      lost = λ other unlisted. refl;
      borrowed = λ index. refl;
      held = λ slot none index. omega arith;
      named = λ index some. refl;
      read = λ index to is attached. is;
    }

    all : FollowedAll name subscriber_name next most places service.subscribers begun reader first_boxes follows standing silent
        most_waiting is.once may May told 0 places None begun after reader answer
    all = follows_all name subscriber_name next most places service.subscribers begun reader first_boxes follows standing silent
        most_waiting is.once may May told 0 places None begun after reader first_boxes answer (omega arith)
        (λ place. ap (λ n. get_or places n None) (omega arith)) begins call

    abbrev mid : Midway name subscriber_name next places service.subscribers begun reader first_boxes (length places) (length places) after
        all.new_reader all.new_boxes
    mid = all.midway

    abbrev now_connected : List (Option ℕ)
    now_connected = map (option_map all.new_reader) (reached most_subscribers after.ties.items)

    abbrev listed : List (Option ℕ)
    listed = map (named_by subscriber_name) places

    same_listed : service.subscriber_list.places ≡ listed
    same_listed = ap (λ one. one.places) list

    connected_at : (place : ℕ) → get_or now_connected place None ≡ option_map all.new_reader (get_or after.ties.items place None)
    connected_at place =
        mapped_at all.new_reader (reached most_subscribers after.ties.items) place
        ∙ ap (option_map all.new_reader) (still_there after.ties.items (most_subscribers - length after.ties.items) place)

    listed_at : (place : ℕ) → get_or listed place None ≡ named_by subscriber_name (get_or places place None)
    listed_at place = mapped_at (λ (member : Member SubscriberEntry). subscriber_name member.value.subscriber) places place

    connected_long : length now_connected ≡ length places
    connected_long =
        let none : Option ℕ = None in
        omega (
          arith,
          long,
          mid.size,
          length-map (reached most_subscribers after.ties.items) (option_map all.new_reader),
          length-append after.ties.items (replicate (most_subscribers - length after.ties.items) none),
          length-replicate {A = Option ℕ} (most_subscribers - length after.ties.items) none,
        )

    -- what became of a place
    fate : (place : ℕ) (item : Option (Member SubscriberEntry)) → get_or places place None ≡ item → place < length places
        → HasBecome name subscriber_name next places service.subscribers begun reader first_boxes place item after all.new_reader
        all.new_boxes
    fate place item same below =
        subst (λ item. HasBecome name subscriber_name next places service.subscribers begun reader first_boxes place item after
        all.new_reader all.new_boxes) same (mid.done place below)

    within : (place : ℕ) (member : Member SubscriberEntry) → get_or places place None ≡ Some member → place < length places
    within place member is = elim (cases_lt place (length places)) [
      | inl below ↦ below
      | inr past ↦ never_some member (sym (get_or_past places place None past) ∙ is)
    ]

    -- where one is connected it is listed
    connected_by : (place one : ℕ) (item : Option (Member SubscriberEntry)) → get_or places place None ≡ item → place < length places
        → get_or now_connected place None ≡ Some one → named_by subscriber_name item ≡ Some one
    connected_by place one None same below is =
        never_some one (sym (connected_at place ∙ ap (option_map all.new_reader) (fate place None same below)) ∙ is)
    connected_by place one (Some member) same below is = ⊎_elim
        (λ failed. never_some one (sym (connected_at place ∙ ap (option_map all.new_reader) failed.none) ∙ is))
        (λ tied. ap (λ n. Some n) (sym tied.called)
        ∙ sym (connected_at place ∙ ap (option_map all.new_reader) tied.tie) ∙ is)
        (fate place (Some member) same below)

    connected_listed : (place one : ℕ) → get_or now_connected place None ≡ Some one → get_or listed place None ≡ Some one
    connected_listed place one is = elim (cases_lt place (length places)) [
      | inl below ↦ listed_at place ∙ connected_by place one (get_or places place None) refl below is
      | inr past ↦ never_some one (sym (get_or_past now_connected place None (omega (arith, past, connected_long))) ∙ is)
    ]

    member_of : (one : ℕ) (item : Option (Member SubscriberEntry)) → named_by subscriber_name item ≡ Some one
        → (member : Member SubscriberEntry) × (item ≡ Some member) × (subscriber_name member.value.subscriber ≡ one)
    member_of one None is = never_some one is
    member_of one (Some member) is = (member, refl, same_some (subscriber_name member.value.subscriber) one is)

    -- who is listed is listed once
    once_listed : (place other : ℕ) (member : Member SubscriberEntry) → get_or places place None ≡ Some member
        → get_or listed other None ≡ Some (subscriber_name member.value.subscriber) → other ≡ place
    once_listed place other member is is_other =
        let its = member_of (subscriber_name member.value.subscriber) (get_or places other None) (sym (listed_at other) ∙ is_other) in
        follows.list.apart other place its.0 member its.1 is
        (follows.apart its.0.value.subscriber member.value.subscriber (follows.some other its.0 its.1) its.2)

    not_connected : (place : ℕ) (member : Member SubscriberEntry) → get_or places place None ≡ Some member
        → get_or after.ties.items place None ≡ None
        → contains (those now_connected) (subscriber_name member.value.subscriber) ≡ false
    not_connected place member is none = contained_nowhere now_connected (subscriber_name member.value.subscriber)
        (λ other is_other.
        let same = once_listed place other member is (connected_listed other (subscriber_name member.value.subscriber) is_other) in
        never_some (subscriber_name member.value.subscriber) (sym (connected_at place ∙ ap (option_map all.new_reader) none)
        ∙ ap (λ n. get_or now_connected n None) (sym same) ∙ is_other))

    is_connected : (place index : ℕ) (member : Member SubscriberEntry) → get_or after.ties.items place None ≡ Some index
        → all.new_reader index ≡ subscriber_name member.value.subscriber
        → contains (those now_connected) (subscriber_name member.value.subscriber) ≡ true
    is_connected place index member tie called =
        contains_there now_connected place (subscriber_name member.value.subscriber)
        (connected_at place ∙ ap (option_map all.new_reader) tie ∙ ap (λ n. Some n) called)

    is_listed : (place : ℕ) (member : Member SubscriberEntry) → get_or places place None ≡ Some member
        → contains (those listed) (subscriber_name member.value.subscriber) ≡ true
    is_listed place member is =
        contains_there listed place (subscriber_name member.value.subscriber) (listed_at place ∙ ap (named_by subscriber_name) is)

    -- who was connected before
    old_at : (place : ℕ) → get_or publisher.connected place None ≡ option_map reader (get_or port.ties.items place None)
    old_at place =
        ap (λ connected. get_or connected place None) is.connected
        ∙ mapped_at reader (reached most_subscribers port.ties.items) place
        ∙ ap (option_map reader) (still_there port.ties.items (most_subscribers - length port.ties.items) place)

    was_connected : (place : ℕ) (member : Member SubscriberEntry) (tie : Option ℕ) → get_or port.ties.items place None ≡ tie
        → is_tie_to member.value.subscriber tie port ≡ true
        → contains (those publisher.connected) (subscriber_name member.value.subscriber) ≡ true
    was_connected place member None tie leads = never_true leads
    was_connected place member (Some index) tie leads =
        let to = led_to member.value.subscriber (get_or port.readers index None) leads in
        contains_there publisher.connected place (subscriber_name member.value.subscriber)
        (old_at place ∙ ap (option_map reader) tie
        ∙ ap (λ n. Some n) ((boxes.read index to.0 to.1).0 ∙ ap subscriber_name to.2))

    leads_by : (place other : ℕ) (member : Member SubscriberEntry) (tie : Option ℕ) → get_or port.ties.items other None ≡ tie
        → get_or places place None ≡ Some member
        → option_map reader tie ≡ Some (subscriber_name member.value.subscriber)
        → is_tie_to member.value.subscriber (get_or port.ties.items other None) port ≡ true
    leads_by place other member None tie is called = never_some (subscriber_name member.value.subscriber) called
    leads_by place other member (Some index) tie is called =
        let to = some_of (get_or port.readers index None) (boxes.led index (well.live other index tie)) in
        let named = boxes.read index to.0 to.1 in
        let same : to.0.subscriber ≡ member.value.subscriber =
        follows.apart to.0.subscriber member.value.subscriber named.1
        (sym named.0 ∙ same_some (reader index) (subscriber_name member.value.subscriber) called) in
        ap (λ one. is_tie_to member.value.subscriber one port) tie
        ∙ ap (leads_to member.value.subscriber) to.1 ∙ eq-eqb to.0.subscriber member.value.subscriber same

    wasn't_connected : (place : ℕ) (member : Member SubscriberEntry) → get_or places place None ≡ Some member
        → is_tie_to member.value.subscriber (get_or port.ties.items place None) port ≡ false
        → contains (those publisher.connected) (subscriber_name member.value.subscriber) ≡ false
    wasn't_connected place member is off = contained_nowhere publisher.connected (subscriber_name member.value.subscriber)
        (λ other is_other.
        let leads = leads_by place other member (get_or port.ties.items other None) refl is (sym (old_at other) ∙ is_other) in
        elim (cases_eq other place) [
          | inl same ↦ differ (sym leads
              ∙ ap (λ n. is_tie_to member.value.subscriber (get_or port.ties.items n None) port) same ∙ off)
          | inr apart ↦ differ (sym leads ∙ well.alone place other member is apart)
        ])

    -- to whom no connection could be made
    abbrev refused : List ℕ
    refused = filter (λ one. not (contains (those now_connected) one)) (those listed)

    unless_is : (one : ℕ) (b : Bool) → contains (those now_connected) one ≡ b → contains (those listed) one ≡ true
        → unless refused (Some one) ≡ (if b then Some one else None)
    unless_is one true in_it there =
        ap (λ b. if b then None else Some one)
        (contains_filter (λ one. not (contains (those now_connected) one)) (those listed) one
        ∙ ap (λ b. not b && contains (those listed) one) in_it)
    unless_is one false in_it there =
        ap (λ b. if b then None else Some one)
        (contains_filter (λ one. not (contains (those now_connected) one)) (those listed) one
        ∙ ap (λ b. not b && contains (those listed) one) in_it ∙ there)

    connected_there : (place : ℕ) (item : Option (Member SubscriberEntry)) → get_or places place None ≡ item → place < length places
        → unless refused (named_by subscriber_name item) ≡ get_or now_connected place None
    connected_there place None same below =
        sym (connected_at place ∙ ap (option_map all.new_reader) (fate place None same below))
    connected_there place (Some member) same below = ⊎_elim
        (λ failed. unless_is (subscriber_name member.value.subscriber) false (not_connected place member same failed.none)
        (is_listed place member same)
        ∙ sym (connected_at place ∙ ap (option_map all.new_reader) failed.none))
        (λ tied. unless_is (subscriber_name member.value.subscriber) true (is_connected place tied.index member tied.tie tied.called)
        (is_listed place member same)
        ∙ sym (connected_at place ∙ ap (option_map all.new_reader) tied.tie ∙ ap (λ n. Some n) tied.called))
        (fate place (Some member) same below)

    connected_is : now_connected ≡ map (unless refused) service.subscriber_list.places
    connected_is =
        sym (same_places (map (unless refused) listed) now_connected
        (omega (arith, length-map listed (unless refused), length-map places (named_by subscriber_name), connected_long))
        (λ place below.
        let inside : place < length places =
        omega (arith, below, length-map listed (unless refused), length-map places (named_by subscriber_name)) in
        get_or-map (unless refused) listed place None None (omega (arith, inside, length-map places (named_by subscriber_name)))
        ∙ ap (unless refused) (listed_at place) ∙ connected_there place (get_or places place None) refl inside))
        ∙ ap (map (unless refused)) (sym same_listed)

    -- who was refused has no mailbox
    refused_by : (one place : ℕ) (item : Option (Member SubscriberEntry)) → get_or places place None ≡ item
        → named_by subscriber_name item ≡ Some one → contains (those now_connected) one ≡ false → first_boxes one ≡ None
    refused_by one place None same called off = never_some one called
    refused_by one place (Some member) same called off =
        let its : subscriber_name member.value.subscriber ≡ one = same_some (subscriber_name member.value.subscriber) one called in
        ⊎_elim
        (λ failed. ap first_boxes (sym its) ∙ failed.before)
        (λ tied. differ (sym (is_connected place tied.index member tied.tie tied.called)
        ∙ ap (λ n. contains (those now_connected) n) its ∙ off))
        (fate place (Some member) same (within place member same))

    abbrev IsFree : ℕ → Bool
    IsFree one = contains (those service.subscriber_list.places) one && not (is_some (first_boxes one))

    are_refused : list_all IsFree refused ≡ true
    are_refused = all_pass IsFree refused (λ one is_in.
        let pair = both (not (contains (those now_connected) one)) (contains (those listed) one)
        (sym (contains_filter (λ one. not (contains (those now_connected) one)) (those listed) one) ∙ is_in) in
        let there = contained_at listed one pair.1 in
        let none = refused_by one there.0 (get_or places there.0 None) refl (sym (listed_at there.0) ∙ there.1)
        (isn't (contains (those now_connected) one) pair.0) in
        ap (λ all. contains (those all) one && not (is_some (first_boxes one))) same_listed
        ∙ ap (λ b. b && not (is_some (first_boxes one))) pair.1 ∙ ap (λ box. not (is_some box)) none)

    abbrev news : List ℕ
    news = filter (λ one. not (contains (those publisher.connected) one)) (those now_connected)

    abbrev after_boxes : ℕ → ℕ → Option (Mailbox T)
    after_boxes = all_greeted its_name publisher.history service.subscribers news (ended its_name service).mailboxes

    abbrev publisher_after : Publisher T
    publisher_after = record publisher { seen = service.subscriber_list.changes; connected = now_connected }

    new_by : (one : ℕ) (old new : Bool) → contains (those publisher.connected) one ≡ old → contains (those now_connected) one ≡ new
        → contains news one ≡ (not old && new)
    new_by one old new is_old is_new =
        contains_filter (λ one. not (contains (those publisher.connected) one)) (those now_connected) one
        ∙ ap (λ b. not b && contains (those now_connected) one) is_old ∙ ap (λ b. not old && b) is_new

    -- the mailbox of who isn't new
    box_old : (one : ℕ) (listed_there : Bool) → contains (those listed) one ≡ listed_there → contains news one ≡ false
        → after_boxes its_name one ≡ (if not listed_there then option_map emptied (first_boxes one) else first_boxes one)
    box_old one listed_there is_there isn't_new =
        greeted_here its_name publisher.history service.subscribers news (ended its_name service).mailboxes one
        ∙ ap (λ b. if b then Some (greeting publisher.history service.subscribers one ((ended its_name service).mailboxes its_name one))
        else (ended its_name service).mailboxes its_name one) isn't_new
        ∙ ended_here its_name publisher.history service one listed_there
        (ap (λ all. contains (those all) one) same_listed ∙ is_there)

    never_and : (b : Bool) → (b && false) ≡ false
    never_and true = refl
    never_and false = refl

    -- a tie is to the same subscriber when the update begins
    same_tie : (subscriber : ℕ) (tie : Option ℕ) → is_tie_to subscriber tie port ≡ is_tie_to subscriber tie begun
    same_tie subscriber None = refl
    same_tie subscriber (Some index) = refl

    box_listed : (place : ℕ) (member : Member SubscriberEntry) → get_or places place None ≡ Some member
        → after_boxes its_name (subscriber_name member.value.subscriber) ≡ all.new_boxes (subscriber_name member.value.subscriber)
    box_listed place member same =
        let one : ℕ = subscriber_name member.value.subscriber in
        let there = is_listed place member same in
        ⊎_elim
        (λ failed. box_old one true there (new_by one (contains (those publisher.connected) one) false refl
        (not_connected place member same failed.none) ∙ never_and (not (contains (those publisher.connected) one)))
        ∙ failed.before ∙ sym failed.without)
        (λ tied. ⊎_elim
        (λ kept. box_old one true there (new_by one true (contains (those now_connected) one)
        (was_connected place member (get_or port.ties.items place None) refl
        (same_tie member.value.subscriber (get_or port.ties.items place None) ∙ kept.0)) refl) ∙ sym kept.1)
        (λ new.
        let old = ended_here its_name publisher.history service one true
        (ap (λ all. contains (those all) one) same_listed ∙ there) in
        greeted_here its_name publisher.history service.subscribers news (ended its_name service).mailboxes one
        ∙ ap (λ b. if b then Some (greeting publisher.history service.subscribers one ((ended its_name service).mailboxes its_name one))
        else (ended its_name service).mailboxes its_name one)
        (new_by one false true (wasn't_connected place member same
        (same_tie member.value.subscriber (get_or port.ties.items place None) ∙ new.0))
        (is_connected place tied.index member tied.tie tied.called))
        ∙ ap (λ box. Some (greeting publisher.history service.subscribers one box)) old
        ∙ ap (λ all. Some (greeting all service.subscribers one (first_boxes one))) is.history ∙ sym new.1)
        tied.box)
        (fate place (Some member) same (within place member same))

    standing_after : after.stands ≡ true
    standing_after = ap (λ (one : PublisherPort T U). one.stands) mid.only ∙ standing

    -- a tie leads to who is listed
    tied_listed : (place index : ℕ) (item : Option (Member SubscriberEntry)) → get_or places place None ≡ item
        → place < length places → get_or after.ties.items place None ≡ Some index
        → (member : Member SubscriberEntry) × (item ≡ Some member) × (all.new_reader index ≡ subscriber_name member.value.subscriber)
    tied_listed place index None same below tie = never_some index (sym (fate place None same below) ∙ tie)
    tied_listed place index (Some member) same below tie = ⊎_elim
        (λ failed. never_some index (sym failed.none ∙ tie))
        (λ tied. (member, refl, ap all.new_reader (same_some index tied.index (sym tie ∙ tied.tie)) ∙ tied.called))
        (fate place (Some member) same below)

    module _ (other : ℕ) (unlisted : IsUnlisted subscriber_name places other) where
      untied : (index : ℕ) → all.new_reader index ≡ other → (place : ℕ) → get_or after.ties.items place None ≢ Some index
      untied index called place tie = elim (cases_lt place (length places)) [
        | inl below ↦
            let it = tied_listed place index (get_or places place None) refl below tie in
            unlisted place it.0 it.1 (sym it.2 ∙ called)
        | inr past ↦ never_some index (sym (get_or_past after.ties.items place None (omega (arith, past, mid.size))) ∙ tie)
      ]

      waits_by : (index : ℕ) (live : Bool) → is_live index after ≡ live → is_there (connection_of index after) ≡ true
          → all.new_reader index ≡ other → (box : Mailbox T) → all.new_boxes other ≡ Some box → box.waiting ≡ []
      waits_by index true live there called box is_box =
          let it : box ≡ mailbox_as name (connection_of index after) =
          same_some box (mailbox_as name (connection_of index after))
          (sym is_box ∙ ap all.new_boxes (sym called) ∙ mid.boxes_stand.live index live) in
          let nothing = first_nil (connection_of index after).waiting (connection_of index after).borrowed
          (mid.boxes_stand.unmet standing_after index live (untied index called)) in
          ap (λ (one : Mailbox T). one.waiting) it ∙ ap (map (message_as name)) nothing.0
      waits_by index false live there called box is_box =
          let ended = mid.boxes_stand.ended index (stage_live (connection_of index after).stage there live) in
          let it : box ≡ ended.0 = same_some box ended.0 (sym is_box ∙ ap all.new_boxes (sym called) ∙ ended.1) in
          ap (λ (one : Mailbox T). one.waiting) it ∙ (ended.3 standing_after).0

      nothing_waits : (box : Mailbox T) → all.new_boxes other ≡ Some box → box.waiting ≡ []
      nothing_waits box is_box = ⊎_elim
          (λ found. waits_by found.0 (is_live found.0 after) refl found.1 found.2 box is_box)
          (λ none. (mid.boxes_stand.others other none box is_box).1 standing_after)
          (search_reader after.sender.uses.connections all.new_reader other)

    all_lost : (found : Option (Mailbox T)) → ((box : Mailbox T) → found ≡ Some box → box.waiting ≡ [])
        → option_map emptied found ≡ found
    all_lost None nothing = refl
    all_lost (Some box) nothing = ap (λ waiting. Some (record box { waiting = waiting })) (sym (nothing box refl))

    box_by : (other : ℕ) (b : Bool) → contains (those listed) other ≡ b → after_boxes its_name other ≡ all.new_boxes other
    box_by other true there =
        let at_place = contained_at listed other there in
        let its = member_of other (get_or places at_place.0 None) (sym (listed_at at_place.0) ∙ at_place.1) in
        ap (after_boxes its_name) (sym its.2) ∙ box_listed at_place.0 its.0 its.1 ∙ ap all.new_boxes its.2
    box_by other false off =
        let unlisted : IsUnlisted subscriber_name places other =
        λ place member same called. differ (sym (is_listed place member same) ∙ ap (λ n. contains (those listed) n) called ∙ off) in
        let not_now : contains (those now_connected) other ≡ false = contained_nowhere now_connected other
        (λ place is_other. differ (sym (contains_there listed place other (connected_listed place other is_other)) ∙ off)) in
        box_old other false off (new_by other (contains (those publisher.connected) other) false refl not_now
        ∙ never_and (not (contains (those publisher.connected) other)))
        ∙ sym (mid.lost other unlisted) ∙ all_lost (all.new_boxes other) (nothing_waits other unlisted)

    box_here : (other : ℕ) → after_boxes its_name other ≡ all.new_boxes other
    box_here other = box_by other (contains (those listed) other) refl

    -- whose mailbox is there had one before, or is a subscriber
    joined_by : (other : ℕ) (b : Bool) → contains (those listed) other ≡ b → is_some (after_boxes its_name other) ≡ true
        → (is_some (first_boxes other) ≡ true) ⊎ (is_some (at other service.subscribers) ≡ true)
    joined_by other true there some =
        let at_place = contained_at listed other there in
        let its = member_of other (get_or places at_place.0 None) (sym (listed_at at_place.0) ∙ at_place.1) in
        inr (ap (λ n. is_some (at n service.subscribers)) (sym its.2) ∙ ap is_some (follows.stands at_place.0 its.0 its.1).1)
    joined_by other false off some =
        let unlisted : IsUnlisted subscriber_name places other =
        λ place member same called. differ (sym (is_listed place member same) ∙ ap (λ n. contains (those listed) n) called ∙ off) in
        inl (same_is_some (all.new_boxes other) (first_boxes other) (mid.lost other unlisted) ∙ ap is_some (sym (box_here other)) ∙ some)
      where
        same_is_some : (one other : Option (Mailbox T)) → option_map emptied one ≡ option_map emptied other → is_some other ≡ is_some one
        same_is_some None None same = refl
        same_is_some None (Some box) same = never_some (emptied box) same
        same_is_some (Some box) None same = never_some (emptied box) (sym same)
        same_is_some (Some one) (Some other) same = refl

    abbrev shown : PublisherPort T U
    shown = record (with_connections after.sender.uses.connections begun) { ties = after.ties; readers = after.readers }

    stands_now : PublisherStandsFor name all.new_reader most_subscribers after publisher_after
    stands_now =
        subst (λ (one : PublisherPort T U). PublisherStandsFor name all.new_reader most_subscribers one publisher_after) (sym mid.only)
        (record {
          factory = is.factory;
          stands = is.stands;
          max_loaned_samples = is.max_loaned_samples;
          allocation = is.allocation;
          slots = is.slots;
          room = is.room;
          segments = is.segments;
          last_sequence = is.last_sequence;
          history = is.history;
          once = is.once;
          seen = ap (λ one. one.changes) list;
          connected = refl;
          ties = omega (arith, mid.size, long);
          blocked = subst (λ (sending : Option (domain.Message T U)). BlockedStandsFor name now_connected port.progress sending
              publisher.blocked) (sym silent)
              (none_blocked name publisher.connected port.progress port.sender.uses.sending publisher.blocked silent is.blocked);
          left = λ gone. silent;
          named = named_still port after.sender.uses.connections (λ slot none index. mid.held slot none index) name publisher.first
              publisher.next is.named;
          unit = is.unit;
          most_segments = is.most_segments;
          ample = is.ample;
        })

    pub port_follows : HasFollowed May answer
    port_follows = record {
      new_reader = all.new_reader;
      connected = now_connected;
      new_mailboxes = after_boxes;
      follows = (
        refused,
        are_refused,
        ap (λ connected. record publisher { seen = service.subscriber_list.changes; connected = connected }) connected_is,
        sym (all_welcomed its_name publisher.history news (with_publisher its_name publisher_after (ended its_name service))),
      );
      answered = subst (λ (places : List (Option ℕ)). UpdateAnswers May (zip places now_connected) answer) (sym same_listed)
          (all.answered now_connected connected_long (λ place below. connected_at place
          ∙ ap (λ n. option_map all.new_reader (get_or after.ties.items n None)) (omega arith)));
      port_stands = stands_now;
      boxes_stand = subst (λ (boxes : ℕ → Option (Mailbox T)). MailboxesStandFor name all.new_reader subscriber_name after boxes
          service.subscribers) (sym (same_everywhere (after_boxes its_name) all.new_boxes box_here)) mid.boxes_stand;
      others = λ one other off.
          greeted_others its_name publisher.history service.subscribers news (ended its_name service).mailboxes one other off
          ∙ ended_others its_name publisher.history service one other off;
      joined = λ other some. joined_by other (contains (those listed) other) refl some;
      only = mid.only;
      borrowed = mid.borrowed;
      named = mid.named;
      read = mid.read;
    }
