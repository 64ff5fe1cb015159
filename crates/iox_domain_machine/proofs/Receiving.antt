-- A subscriber receive_stands, of a domain and of the machine.
use Rattle.std.proofs.Common.{◌≡◌, ◌≢◌, ◌<◌, ◌+◌, ◌-◌, ◌^◌, ◌∷◌, [], ◌++◌, ◌&&◌, ◌||◌, ◌==◌, ℕ, min, Bool, true, false, not, List, length}
use Rattle.std.proofs.Common.{map, get_or, Option, None, Some, Result, Ok, Err, refl, sym, ap, subst, ◌∙◌, arith}
use Rattle.std.proofs.lemmas.Bool.{and_parts, ltb-true}
use Rattle.std.proofs.lemmas.List.{map-append, same_from_push}
use Rattle.std.proofs.lemmas.List.Folds.{list_any-append}
use Rattle.std.specs.Global.{Vec}
use Rattle.std.specs.List.{AllByRecursion, list_any}
use Rattle.std.specs.Option.{option_map_or}
use Rattle.std.specs.Prelude.{is_some, nat_lt, slice_get, unwrap_or, if◌then◌else◌}
use Rattle.std.specs.Vec.{vec_items}
use Rattle.iox_command.specs.DomainValues.declared.port_error.ReceiveError.{ReceiveError}
use Rattle.iox_command.specs.DomainValues.declared.port_error.ReceiveError.TheVariants.{ExceedsMaxBorrows}
use Rattle.iox_command.specs.declared.refusal.Refusal.TheVariants as refusal
use Rattle.iox_command.specs.declared.reply.Reply.TheVariants as reply
use Rattle.iox_domain.proofs.Numbered.{at_number, same_set}
use Rattle.iox_domain.specs.DomainPorts.Messages.{Message}
use Rattle.iox_domain.specs.DomainPorts.Ports.{connection_of}
use Rattle.iox_domain.specs.DomainPorts.Publishers.{connection_at_port, connection_in, changed_at_port}
use Rattle.iox_domain.specs.DomainPorts.Reading.{taken_at}
use Rattle.iox_domain.specs.DomainPorts.Receiving.{IsFirst, IsMet, IsReceiveAnswer, given_ports, nothing_taken, swept}
use Rattle.iox_domain.specs.DomainPorts.Receiving as domain
use Rattle.iox_domain.specs.DomainPorts.Subscribing.{attached_at, connection_by, is_below, taken_of, taken_ports}
use Rattle.iox_domain.specs.DomainPorts.Subscribing as seen
use Rattle.iox_domain.specs.DomainPorts.declared.attached.Attached.{Attached}
use Rattle.iox_domain.specs.DomainPorts.declared.attached.Taken.{Taken}
use Rattle.iox_domain.specs.DomainPorts.declared.publisher_port.PublisherPort.{PublisherPort}
use Rattle.iox_domain.specs.DomainPorts.declared.subscriber_port.SubscriberPort.{SubscriberPort}
use Rattle.iox_domain.specs.Ports.{with_both}
use Rattle.iox_domain.specs.PortsSubscribing.{counted_by}
use Rattle.iox_domain.specs.Reading.{sample_in}
use Rattle.iox_domain.specs.Roomy.{AreRoomy, IsAttached}
use Rattle.iox_domain.specs.Subscribers.{subscriber_of}
use Rattle.iox_domain.specs.Tries.{how_often}
use Rattle.iox_domain.specs.declared.ports.service_ports.ServicePorts.{ServicePorts}
use Rattle.iox_domain_machine.specs.Naming.{Naming, message_as}
use Rattle.iox_domain_machine.specs.ReceiveLaws.{AreReceived, received_or_not, with_held}
use Rattle.iox_domain_machine.specs.Standing.{StandsFor}
use Rattle.iox_domain_machine.specs.Subscribers.{SubscriberStandsFor, publisher_by}
use Rattle.iox_domain_machine.specs.Tables.{LentSlot, sample_as, samples_held_by, held_at_port}
use Rattle.iox_domain_machine.proofs.GivingUp.{some_of}
use Rattle.iox_domain_machine.proofs.Found.{same_some, never_some, never_true, at_changed}
use Rattle.iox_domain_machine.proofs.Hearing.{Hears, asked, often_behind, often_head}
use Rattle.iox_domain_machine.proofs.ReceiveGiver.{SplitsAt, splits, expired_is, fails_there, giver_held, giver_is, giver_passes}
use Rattle.iox_domain_machine.proofs.ReceiveGiver.{lasting_is, same_test}
use Rattle.iox_domain_machine.proofs.ReceiveHolding.{both_holding, swept_holding, swept_holds}
use Rattle.iox_domain_machine.proofs.ReceiveSamples.{after_taking, holding_one_more, received_as, taken_as}
use Rattle.iox_domain_machine.proofs.ReceiveSweeping.{HasSwept, not_idle, set_again, sweep_stands, swept_to}
use Rattle.iox_domain_machine.proofs.ReceiveTaking.{box_is, service_after, taking_hears, taking_sound, taking_stands}
use Rattle.iox_domain_machine.proofs.Releasing.{other_boxes}
use Rattle.iox_machine.specs.Mailbox.{Mailbox, is_idle}
use Rattle.iox_machine.specs.Message.{Message as Sent, Sample}
use Rattle.iox_machine.specs.PortList.{those}
use Rattle.iox_machine.specs.Receiving as machine
use Rattle.iox_machine.specs.Receiving.{gives, has_samples, lasting, Takes}
use Rattle.iox_machine.specs.Service.{Service, Subscriber, mailbox}
use Rattle.iox_machine.proofs.Shorthands.{with_subscriber, taken, has_data}
use Rattle.iox_machine.specs.Table.{at}

not_idle_by : (test : ℕ → Bool) (some none : Bool) (one : ℕ) (left : List ℕ) (rest : Bool) → test one ≡ some → list_any test left ≡ rest
    → list_any test (if not (not some && none) then one ∷ left else left) ≡ (some || rest)
not_idle_by test true none one left rest is same = ap (λ b. b || list_any test left) is
not_idle_by test false true one left rest is same = same
not_idle_by test false false one left rest is same = ap (λ b. b || list_any test left) is ∙ same

-- where only idle connections are left out, as many have data
any_not_idle : {T : Type 0} (number : ℕ) (service : Service T) (publishers : List ℕ)
    → list_any (λ publisher. has_data (mailbox publisher number service)) (not_idle number service publishers)
    ≡ list_any (λ publisher. has_data (mailbox publisher number service)) publishers
any_not_idle number service [] = refl
any_not_idle number service (publisher ∷ publishers) =
    let test : ℕ → Bool = λ publisher. has_data (mailbox publisher number service) in
    not_idle_by test (has_data (mailbox publisher number service)) (length (mailbox publisher number service).borrowed == 0) publisher
    (not_idle number service publishers) (list_any test publishers) refl (any_not_idle number service publishers)

-- connections that are idle in one service as in another
not_idle_same : {T : Type 0} (number : ℕ) (one other : Service T) (name : ℕ → ℕ) (keys : List ℕ)
    → ((key : ℕ) → 0 < how_often key keys → mailbox (name key) number one ≡ mailbox (name key) number other)
    → not_idle number one (map name keys) ≡ not_idle number other (map name keys)
not_idle_same number one other name [] same = refl
not_idle_same number one other name (key ∷ keys) same =
    ap (λ box. if not (is_idle box) then name key ∷ not_idle number one (map name keys) else not_idle number one (map name keys))
    (same key (often_head key keys))
    ∙ ap (λ rest. if not (is_idle (mailbox (name key) number other)) then name key ∷ rest else rest)
    (not_idle_same number one other name keys (λ again among. same again (often_behind again key keys among)))

-- each message that waits in a mailbox of a service has fewer values than this
abbrev pub WaitShort : {T : Type 0} → ℕ → Service T → Type 0
WaitShort {T} most service = (publisher subscriber : ℕ) (box : Mailbox T) → service.mailboxes publisher subscriber ≡ Some box
    → AllByRecursion (λ (message : Sent T). length message.values < most) box.waiting

short_first : {T : Type 0} (most : ℕ) (waiting : List (Sent T)) (message : Sent T) → slice_get waiting 0 ≡ Some message
    → AllByRecursion (λ (one : Sent T). length one.values < most) waiting → length message.values < most
short_first most [] message is all = never_some message is
short_first {T} most (first ∷ more) message is all =
    subst (λ (one : Sent T). length one.values < most) (same_some first message is) all.0

short_in : {T : Type 0} (most : ℕ) (found : Option (Mailbox T))
    → ((box : Mailbox T) → found ≡ Some box → AllByRecursion (λ (one : Sent T). length one.values < most) box.waiting)
    → (message : Sent T) → slice_get (unwrap_or found (record { limit = 0; waiting = []; borrowed = [] })).waiting 0 ≡ Some message
    → length message.values < most
short_in most None short message is = never_some message is
short_in most (Some box) short message is = short_first most box.waiting message is (short box refl)

-- what was taken, if something was
abbrev taken_in : Result (Option Taken) ReceiveError → Option Taken
taken_in (Ok found) = found
taken_in (Err why) = None

not_taken : {A : Type 0} (unread : Option ℕ) (one : Taken) → Ok (Some one) ≡ nothing_taken unread → A
not_taken None one is = never_some one (sym (ap taken_in is))
not_taken (Some key) one is = never_some one (sym (ap taken_in is))

first_waits : {X : Type 0} (waiting : List X) → 0 < length waiting → (first : X) × (more : List X) × (waiting ≡ first ∷ more)
first_waits [] some = absurd (omega (arith, some))
first_waits (first ∷ more) some = (first, more, refl)

module _ {T U : Type 0} (names : Naming) (lent : List (ℕ × LentSlot)) (held : List (ℕ × Taken)) (buffer : ℕ) (ports : ServicePorts T U)
    (service : Service T) (number : ℕ) (port : SubscriberPort) (stands : StandsFor names lent held buffer ports service)
    (roomy : AreRoomy ports) (there : subscriber_of number ports.subscribers ≡ Some port) (heard : Hears number port ports.publishers)
    (sample : ℕ) (values : Vec T) where
  abbrev subscriber : Subscriber
  subscriber = (stands.subscribers number port there).0

  abbrev name : ℕ
  name = names.subscriber number

  abbrev by_key : ℕ → ℕ
  by_key = publisher_by names.publisher port

  at_it : at name service.subscribers ≡ Some subscriber
  at_it = (stands.subscribers number port there).1

  is : SubscriberStandsFor names.publisher ports.sizes.max_publishers ports.sizes.expired_connections port subscriber
  is = (stands.subscribers number port there).2

  -- the machine's service without the expired connections that end
  abbrev later : Subscriber
  later = record subscriber { expired = lasting name service subscriber.expired }

  -- what a receive leaves: the machine does it, and has a service for which the ports stand
  abbrev pub IsReceived : Result (Option Taken) ReceiveError → SubscriberPort → List (ℕ × PublisherPort T U) → Type 0
  IsReceived outcome received publishers =
      (after : Service T)
      × machine.Receives name sample subscriber service (received_or_not sample values (Some outcome)) after
      × StandsFor names lent (with_held sample (Some outcome) held) buffer
      (with_both number (counted_by outcome received) publishers ports) after

  module _ (met : ℕ) (is_met : IsMet (seen.gives port ports.publishers) port.expired.items met) where
    abbrev meeting : SplitsAt (seen.gives port ports.publishers) port.expired.items met
    meeting = splits (seen.gives port ports.publishers) port.expired.items met is_met

    abbrev first_names : List ℕ
    first_names = map by_key meeting.first

    last : lasting name service subscriber.expired ≡ not_idle name service first_names ++ map by_key meeting.more
    last = lasting_is names lent held buffer ports service number port stands there heard roomy subscriber is met meeting

    expired : subscriber.expired ≡ first_names ++ map by_key meeting.more
    expired = expired_is names lent held buffer ports service number port stands there heard roomy subscriber is met meeting

    swept_only : HasSwept names lent held buffer ports service number subscriber later.expired (swept 0 met (port, ports.publishers))
    swept_only =
        swept_to names lent held buffer number ports service subscriber (not_idle name service first_names ++ map by_key meeting.more)
        later.expired (swept 0 (length meeting.first) (port, ports.publishers)) (swept 0 met (port, ports.publishers)) (sym last)
        (ap (λ count. swept 0 count (port, ports.publishers)) (sym meeting.count))
        (sweep_stands names lent held buffer number meeting.first [] meeting.more ports service port subscriber first_names []
        (map by_key meeting.more) stands roomy.sound there at_it heard meeting.split refl refl refl)

    -- where nothing was taken
    abbrev end : SubscriberPort × List (ℕ × PublisherPort T U)
    end = swept 0 met (port, ports.publishers)

    abbrev test : ℕ → Bool
    test publisher = has_data (mailbox publisher name service)

    as_many : has_samples name later service ≡ has_samples name subscriber service
    as_many =
        list_any-append test (those subscriber.connected) later.expired
        ∙ ap (λ b. list_any test (those subscriber.connected) || b)
        (ap (list_any test) last ∙ list_any-append test (not_idle name service first_names) (map by_key meeting.more)
        ∙ ap (λ b. b || list_any test (map by_key meeting.more)) (any_not_idle name service first_names)
        ∙ sym (list_any-append test first_names (map by_key meeting.more)) ∙ ap (list_any test) (sym expired))
        ∙ sym (list_any-append test (those subscriber.connected) subscriber.expired)

    unread_is : (unread : Option ℕ) → IsFirst (seen.has_data end.0 end.1) unread → is_some unread ≡ has_samples name subscriber service
    unread_is unread first =
        let end_there = same_set (at_number number) ports.subscribers end.0 port there in
        let was = swept_only.stands.subscribers number end.0 end_there in
        let it = same_some was.0 later (sym was.1 ∙ at_changed name later subscriber service.subscribers at_it) in
        sym (asked names lent held buffer (with_both number end.0 end.1 ports) (with_subscriber name later service) number end.0
        swept_only.stands end_there swept_only.hears later
        (subst (λ (one : Subscriber). SubscriberStandsFor names.publisher ports.sizes.max_publishers ports.sizes.expired_connections end.0
        one) it was.2) unread first)
        ∙ as_many

    none_by : (unread : Option ℕ) → is_some unread ≡ has_samples name subscriber service
        → domain.IsGiver (slice_get port.expired.items met) (seen.gives port ports.publishers) None
        → IsReceived (nothing_taken unread) end.0 end.1
    none_by None told given = (
      with_subscriber name later service,
      (
        None,
        giver_is names lent held buffer ports service number port stands there heard roomy subscriber is met meeting None given,
        (ap (λ b. if b then reply.Refused (refusal.Receive ExceedsMaxBorrows) else reply.NothingWaits) told, refl),
      ),
      swept_only.stands,
    )
    none_by (Some key) told given = (
      with_subscriber name later service,
      (
        None,
        giver_is names lent held buffer ports service number port stands there heard roomy subscriber is met meeting None given,
        (ap (λ b. if b then reply.Refused (refusal.Receive ExceedsMaxBorrows) else reply.NothingWaits) told, refl),
      ),
      swept_only.stands,
    )

    none_received : (unread : Option ℕ) → IsFirst (seen.has_data end.0 end.1) unread
        → domain.IsGiver (slice_get port.expired.items met) (seen.gives port ports.publishers) None
        → IsReceived (nothing_taken unread) end.0 end.1
    none_received unread first given = none_by unread (unread_is unread first) given

    module _ (key : ℕ) (given : domain.IsGiver (slice_get port.expired.items met) (seen.gives port ports.publishers) (Some key))
        (free : at sample held ≡ None) (few : samples_held_by number held < 2 ^ 64 - 1) where
      passes : seen.gives port ports.publishers key ≡ true
      passes = giver_passes names lent held buffer ports service number port stands there heard roomy subscriber is met meeting key given

      key_held : is_some (attached_at key port) ≡ true
      key_held = giver_held names lent held buffer ports service number port stands there heard roomy subscriber is met meeting key passes

      abbrev giver : Attached
      giver = (some_of (attached_at key port) key_held).0

      is_giver : attached_at key port ≡ Some giver
      is_giver = (some_of (attached_at key port) key_held).1

      abbrev read : IsAttached number giver ports.publishers
      read = heard.reads key giver is_giver

      abbrev publisher : PublisherPort T U
      publisher = read.0

      some_wait : 0 < length (connection_of giver.index publisher).waiting
      some_wait =
          ltb-true 0 (length (connection_of giver.index publisher).waiting)
          (sym (ap (λ found. nat_lt 0 (length (connection_by found ports.publishers).waiting)) is_giver
          ∙ ap (λ found. nat_lt 0 (length (connection_at_port giver.index found).waiting)) read.1)
          ∙ (and_parts (is_below port ports.publishers key) (seen.has_data port ports.publishers key) passes).1)

      abbrev waits : (first : Message T U) × (more : List (Message T U)) × ((connection_of giver.index publisher).waiting ≡ first ∷ more)
      waits = first_waits (connection_of giver.index publisher).waiting some_wait

      abbrev message : Message T U
      message = waits.0

      abbrev came : Taken
      came = taken_as number giver message

      abbrev new : ServicePorts T U
      new = after_taking number port giver publisher ports

      abbrev between : Service T
      between = service_after names lent held buffer ports service number port stands roomy.sound there heard giver publisher read.1 read.2
          message waits.1 waits.2 sample free

      by_giver : by_key key ≡ names.publisher giver.publisher
      by_giver = ap (λ found. option_map_or (λ (attached : Attached). names.publisher attached.publisher) found 0) is_giver

      gives_giver : gives name service (names.publisher giver.publisher) ≡ true
      gives_giver =
          ap (gives name service) (sym by_giver)
          ∙ same_test names lent held buffer ports service number port stands there heard roomy subscriber is met meeting key key_held
          ∙ passes

      -- the mailboxes of those that are met before are as they were
      box_same : (other : ℕ) → 0 < how_often other meeting.first
          → mailbox (by_key other) name between ≡ mailbox (by_key other) name service
      box_same other among =
          let off : by_key other ≢ names.publisher giver.publisher = λ same.
          never_true (sym (ap (gives name service) (sym same)
          ∙ fails_there names lent held buffer ports service number port stands there heard roomy subscriber is met meeting other among)
          ∙ gives_giver) in
          ap (λ boxes. unwrap_or (boxes name) (record { limit = 0; waiting = []; borrowed = [] }))
          (other_boxes (names.publisher giver.publisher) name (taken (mailbox (names.publisher giver.publisher) name service)) service
          (by_key other) off)

      swept_after : HasSwept names lent (held ++ (sample, came) ∷ []) buffer new between number subscriber later.expired
          (swept 0 met (holding_one_more port, new.publishers))
      swept_after =
          swept_to names lent (held ++ (sample, came) ∷ []) buffer number new between subscriber
          (not_idle name between first_names ++ map by_key meeting.more) later.expired
          (swept 0 (length meeting.first) (holding_one_more port, new.publishers))
          (swept 0 met (holding_one_more port, new.publishers))
          (ap (λ left. left ++ map by_key meeting.more) (not_idle_same name between service by_key meeting.first box_same) ∙ sym last)
          (ap (λ count. swept 0 count (holding_one_more port, new.publishers)) (sym meeting.count))
          (sweep_stands names lent (held ++ (sample, came) ∷ []) buffer number meeting.first [] meeting.more new between
          (holding_one_more port) subscriber first_names [] (map by_key meeting.more)
          (taking_stands names lent held buffer ports service number port stands roomy.sound there heard giver publisher read.1 read.2
          message waits.1 waits.2 sample free)
          (taking_sound names lent held buffer ports service number port stands roomy.sound there heard giver publisher read.1 read.2
          message waits.1 waits.2 sample free)
          (same_set (at_number number) ports.subscribers (holding_one_more port) port there) at_it
          (taking_hears names lent held buffer ports service number port stands roomy.sound there heard giver publisher read.1 read.2
          message waits.1 waits.2 sample free)
          meeting.split refl refl refl)

      -- where one was taken
      abbrev taken_end : SubscriberPort × List (ℕ × PublisherPort T U)
      taken_end = swept 0 met (port, given_ports (Some key) port ports.publishers)

      given_are : given_ports (Some key) port ports.publishers ≡ new.publishers
      given_are =
          ap (λ found. taken_ports found ports.publishers) is_giver
          ∙ ap (λ found. changed_at_port giver.publisher (taken_at giver.index) found ports.publishers) read.1

      as_counted : min (taken_end.0.held + 1) (2 ^ 64 - 1) ≡ port.held + 1
      as_counted =
          ap (λ count. min (count + 1) (2 ^ 64 - 1)) (swept_holds met 0 port (given_ports (Some key) port ports.publishers))
          ∙ omega (arith, few, stands.samples.counted number, ap held_at_port there)

      abbrev counted : SubscriberPort
      counted = counted_by (Ok (Some came)) taken_end.0

      end_is : swept 0 met (holding_one_more port, new.publishers) ≡ (counted, taken_end.1)
      end_is =
          swept_holding met (port.held + 1) 0 port new.publishers
          ∙ ap (λ publishers. both_holding (port.held + 1) (swept 0 met (port, publishers))) (sym given_are)
          ∙ ap (λ count. both_holding count taken_end) (sym as_counted)

      abbrev final : ServicePorts T U
      final = with_both number counted taken_end.1 ports

      final_stands : StandsFor names lent (held ++ (sample, came) ∷ []) buffer final (with_subscriber name later between)
      final_stands =
          subst (λ (state : SubscriberPort × List (ℕ × PublisherPort T U)). StandsFor names lent (held ++ (sample, came) ∷ []) buffer
          (with_both number state.0 state.1 ports) (with_subscriber name later between)) end_is
          (subst (λ (all : List (ℕ × SubscriberPort)). StandsFor names lent (held ++ (sample, came) ∷ []) buffer
          (record ports { subscribers = all; publishers = (swept 0 met (holding_one_more port, new.publishers)).1 })
          (with_subscriber name later between))
          (set_again (at_number number) ports.subscribers (holding_one_more port) (swept 0 met (holding_one_more port, new.publishers)).0)
          swept_after.stands)

      taken_is : domain.given (Some key) port ports.publishers ≡ Some came
      taken_is =
          ap (λ found. taken_of port.number found ports.publishers) is_giver
          ∙ ap (λ number. Some (record {
            subscriber = number;
            publisher = giver.publisher;
            index = giver.index;
            slot = get_or (map (λ (message : Message T U). message.slot) (connection_in giver.publisher giver.index
                ports.publishers).waiting) 0 0;
          })) heard.named
          ∙ ap (λ (waiting : List (Message T U)). Some (record {
            subscriber = number;
            publisher = giver.publisher;
            index = giver.index;
            slot = get_or (map (λ (message : Message T U). message.slot) waiting) 0 0;
          })) (ap (λ found. (connection_at_port giver.index found).waiting) read.1 ∙ waits.2)

      -- the values of the sample are those of the message
      same_values : message.values ≡ (sample_as names final came).message.values
      same_values =
          ap (λ (entry : ℕ × Sample T). entry.1.message.values)
          (same_from_push service.samples (map (λ (entry : ℕ × Taken). (entry.0, sample_as names final entry.1)) held)
          (sample, received_as names number giver message) (sample, sample_as names final came)
          (final_stands.samples.same
          ∙ map-append (λ (entry : ℕ × Taken). (entry.0, sample_as names final entry.1)) held ((sample, came) ∷ []))).1

      some_received : (read_there : Message T U) → sample_in came final ≡ Some read_there → vec_items values ≡ read_there.values
          → IsReceived (Ok (Some came)) taken_end.0 taken_end.1
      some_received read_there is_there are = (
        with_subscriber name later between,
        (
          Some (by_key key),
          giver_is names lent held buffer ports service number port stands there heard roomy subscriber is met meeting (Some key) given,
          subst (λ publisher. Takes name sample publisher (with_subscriber name later service) (reply.Received sample values)
              (with_subscriber name later between)) (sym by_giver) (
                message_as (names.message giver.publisher) message,
                values,
                ap (λ box. slice_get box.waiting 0) (box_is names lent held buffer ports service number port stands roomy.sound there heard
                    giver publisher read.1 read.2 message waits.1 waits.2 sample free)
                    ∙ ap (λ (waiting : List (Message T U)). slice_get (map (message_as (names.message giver.publisher)) waiting) 0) waits.2,
                are ∙ sym (same_values ∙ ap (λ found. option_map_or (λ (message : Message T U). message.values) found []) is_there),
                refl,
                refl,
              ),
        ),
        final_stands,
      )

      -- the sample is as long as the message that waited first
      some_short : (most : ℕ) → WaitShort most service → (found : Message T U) → sample_in came final ≡ Some found
          → length found.values < most
      some_short most short found is_there =
          subst (λ (items : List T). length items < most)
          (same_values ∙ ap (λ it. option_map_or (λ (message : Message T U). message.values) it []) is_there)
          (short_in most (service.mailboxes (names.publisher giver.publisher) name) (short (names.publisher giver.publisher) name)
          (message_as (names.message giver.publisher) message)
          (ap (λ box. slice_get box.waiting 0) (box_is names lent held buffer ports service number port stands roomy.sound there heard
          giver publisher read.1 read.2 message waits.1 waits.2 sample free)
          ∙ ap (λ (waiting : List (Message T U)). slice_get (map (message_as (names.message giver.publisher)) waiting) 0) waits.2))

  abbrev Answers : Option Taken → SubscriberPort → List (ℕ × PublisherPort T U) → Result (Option Taken) ReceiveError → Type 0
  Answers taken received publishers outcome = IsReceiveAnswer taken (seen.has_data received publishers) outcome

  module _ (free : at sample held ≡ None) (few : samples_held_by number held < 2 ^ 64 - 1) where
    served : (met : ℕ) (is_met : IsMet (seen.gives port ports.publishers) port.expired.items met) (giver : Option ℕ)
        → domain.IsGiver (slice_get port.expired.items met) (seen.gives port ports.publishers) giver
        → (outcome : Result (Option Taken) ReceiveError)
        → Answers (domain.given giver port ports.publishers) (swept 0 met (port, given_ports giver port ports.publishers)).0
        (swept 0 met (port, given_ports giver port ports.publishers)).1 outcome
        → AreReceived values (Some outcome)
        (with_both number (counted_by outcome (swept 0 met (port, given_ports giver port ports.publishers)).0)
        (swept 0 met (port, given_ports giver port ports.publishers)).1 ports)
        → IsReceived outcome (swept 0 met (port, given_ports giver port ports.publishers)).0
        (swept 0 met (port, given_ports giver port ports.publishers)).1
    served met is_met None given outcome (unread, first, is_outcome) are = rw is_outcome (none_received met is_met unread first given)
    served met is_met (Some key) given outcome answers are =
        let state = swept 0 met (port, given_ports (Some key) port ports.publishers) in
        let came = taken_as number (giver met is_met key given free few) (message met is_met key given free few) in
        let is_outcome : outcome ≡ Ok (Some came) =
        subst (λ (taken : Option Taken). Answers taken state.0 state.1 outcome) (taken_is met is_met key given free few) answers in
        let there = subst (λ (outcome : Result (Option Taken) ReceiveError). AreReceived values (Some outcome)
        (with_both number (counted_by outcome state.0) state.1 ports)) is_outcome are in
        rw is_outcome (some_received met is_met key given free few there.0 there.1 there.2)

    -- whatever is received
    pub receive_stands : (outcome : Result (Option Taken) ReceiveError) (received : SubscriberPort)
        (publishers : List (ℕ × PublisherPort T U)) → domain.Receives port ports.publishers outcome received publishers
        → AreReceived values (Some outcome) (with_both number (counted_by outcome received) publishers ports)
        → IsReceived outcome received publishers
    receive_stands outcome received publishers (taken, (met, is_met, giver, given, is_taken, is_port, are_ports, is_there), answers) are =
        let state = swept 0 met (port, given_ports giver port ports.publishers) in
        let told = subst (λ (taken : Option Taken). Answers taken received publishers outcome) is_taken answers in
        let answered = subst (λ (one : SubscriberPort). Answers (domain.given giver port ports.publishers) one state.1 outcome) is_port
        (subst (λ (all : List (ℕ × PublisherPort T U)). Answers (domain.given giver port ports.publishers) received all outcome)
        are_ports told) in
        let read = subst (λ (one : SubscriberPort). AreReceived values (Some outcome)
        (with_both number (counted_by outcome one) state.1 ports)) is_port
        (subst (λ (all : List (ℕ × PublisherPort T U)). AreReceived values (Some outcome)
        (with_both number (counted_by outcome received) all ports)) are_ports are) in
        subst (λ (one : SubscriberPort). IsReceived outcome one publishers) (sym is_port)
        (subst (λ (all : List (ℕ × PublisherPort T U)). IsReceived outcome state.0 all) (sym are_ports)
        (served met is_met giver given outcome answered read))

    -- the sample that is received is as short as all that wait
    module _ (most : ℕ) (short : WaitShort most service) where
      served_short : (met : ℕ) (is_met : IsMet (seen.gives port ports.publishers) port.expired.items met) (giver : Option ℕ)
          → domain.IsGiver (slice_get port.expired.items met) (seen.gives port ports.publishers) giver → (taken : Taken)
          → Answers (domain.given giver port ports.publishers) (swept 0 met (port, given_ports giver port ports.publishers)).0
          (swept 0 met (port, given_ports giver port ports.publishers)).1 (Ok (Some taken))
          → (found : Message T U) → sample_in taken
          (with_both number (counted_by (Ok (Some taken)) (swept 0 met (port, given_ports giver port ports.publishers)).0)
          (swept 0 met (port, given_ports giver port ports.publishers)).1 ports) ≡ Some found
          → length found.values < most
      served_short met is_met None given taken (unread, first, is_outcome) found is_there = not_taken unread taken is_outcome
      served_short met is_met (Some key) given taken answers found is_there =
          let state = swept 0 met (port, given_ports (Some key) port ports.publishers) in
          let came = taken_as number (giver met is_met key given free few) (message met is_met key given free few) in
          let is_outcome : ◌≡◌ {A = Result (Option Taken) ReceiveError} (Ok (Some taken)) (Ok (Some came)) =
          subst (λ (it : Option Taken). Answers it state.0 state.1 (Ok (Some taken))) (taken_is met is_met key given free few) answers in
          some_short met is_met key given free few most short found
          (subst (λ (it : Taken). sample_in it (with_both number (counted_by (Ok (Some it)) state.0) state.1 ports) ≡ Some found)
          (same_some taken came (ap taken_in is_outcome)) is_there)

      pub receive_short : (taken : Taken) (received : SubscriberPort) (publishers : List (ℕ × PublisherPort T U))
          → domain.Receives port ports.publishers (Ok (Some taken)) received publishers
          → (found : Message T U)
          → sample_in taken (with_both number (counted_by (Ok (Some taken)) received) publishers ports) ≡ Some found
          → length found.values < most
      receive_short taken received publishers (one, (met, is_met, giver, given, is_taken, is_port, are_ports, is_there), answers) found
          is_found =
          let state = swept 0 met (port, given_ports giver port ports.publishers) in
          let told = subst (λ (it : Option Taken). Answers it received publishers (Ok (Some taken))) is_taken answers in
          let answered = subst (λ (it : SubscriberPort). Answers (domain.given giver port ports.publishers) it state.1 (Ok (Some taken)))
          is_port
          (subst (λ (all : List (ℕ × PublisherPort T U)). Answers (domain.given giver port ports.publishers) received all
          (Ok (Some taken))) are_ports told) in
          served_short met is_met giver given taken answered found
          (subst (λ (it : SubscriberPort). sample_in taken (with_both number (counted_by (Ok (Some taken)) it) state.1 ports)
          ≡ Some found) is_port
          (subst (λ (all : List (ℕ × PublisherPort T U)). sample_in taken
          (with_both number (counted_by (Ok (Some taken)) received) all ports) ≡ Some found) are_ports is_found))
