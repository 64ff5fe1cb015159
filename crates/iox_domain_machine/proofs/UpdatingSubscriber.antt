-- A subscriber brings its connections up to date, of a domain and of the machine.
use Rattle.std.proofs.Common.{◌≡◌, ◌≤◌, ◌<◌, ◌⊎◌, ◌+◌, ◌-◌, [], ◌&&◌, ◌||◌, ℕ, Bool, true, false, List, length, map, get_or, nat_lt}
use Rattle.std.proofs.Common.{replicate, Option, None, Some, Result, refl, sym, ap, subst, inl, inr, ◌∙◌, arith}
use Rattle.std.proofs.lemmas.Bool.{cases_eq, cases_lt, le-ltb, lt-ltb}
use Rattle.std.proofs.lemmas.List.{ext_get_or, get_or-map, get_or_past, length-append, length-map, length-replicate}
use Rattle.std.proofs.lemmas.List.Elements.{All-from_get_or}
use Rattle.std.proofs.lemmas.List.Folds.{list_any_at}
use Rattle.std.proofs.lemmas.Map.{keys-set_value}
use Rattle.std.proofs.lemmas.Slice.Zip.{get_or-zip, length-zip}
use Rattle.std.specs.List.{All, list_any}
use Rattle.std.specs.Prelude.{fold, is_some, option_map, zip}
use Rattle.iox_command.specs.DomainValues.declared.connection_failure.ConnectionFailure.{ConnectionFailure}
use Rattle.iox_command.specs.DomainValues.declared.degradation.DegradationAction.{DegradationAction}
use Rattle.iox_command.specs.DomainValues.declared.degradation.DegradationInfo.{DegradationInfo}
use Rattle.iox_domain.proofs.Fitting.{goes_same}
use Rattle.iox_domain.proofs.Numbered.{at_number, same_set}
use Rattle.iox_domain.proofs.TiedWell.{still_there}
use Rattle.iox_domain.specs.Attaching.{KeysFit}
use Rattle.iox_domain.specs.Container.declared.container.Member.{Member}
use Rattle.iox_domain.specs.DomainPorts.Places.{reached}
use Rattle.iox_domain.specs.DomainPorts.PublisherUpdating as domain
use Rattle.iox_domain.specs.DomainPorts.SubscriberUpdating.{FollowsList}
use Rattle.iox_domain.specs.DomainPorts.Subscribing.{attached_at}
use Rattle.iox_domain.specs.DomainPorts.declared.attached.Taken.{Taken}
use Rattle.iox_domain.specs.DomainPorts.declared.publisher_entry.PublisherEntry.{PublisherEntry}
use Rattle.iox_domain.specs.DomainPorts.declared.publisher_port.PublisherPort.{PublisherPort}
use Rattle.iox_domain.specs.DomainPorts.declared.subscriber_port.SubscriberPort.{SubscriberPort}
use Rattle.iox_domain.specs.PortLawsLaws.{IsSoundEntry, IsWellEntry}
use Rattle.iox_domain.specs.Ports.{with_both}
use Rattle.iox_domain.specs.Rolls.{IsListOf}
use Rattle.iox_domain.specs.Roomy.{IsListOnce}
use Rattle.iox_domain.specs.SizeLaws.{IsMadeFor, allowed_by}
use Rattle.iox_domain.specs.Subscribers.{subscriber_of, with_subscriber}
use Rattle.iox_domain.specs.Tries.{how_often}
use Rattle.iox_domain.specs.declared.ports.service_ports.ServicePorts.{ServicePorts}
use Rattle.iox_domain_machine.specs.Mailboxes.{IsKeyed}
use Rattle.iox_domain_machine.specs.Naming.{Naming}
use Rattle.iox_domain_machine.specs.Standing.{StandsFor, SubscriberIs}
use Rattle.iox_domain_machine.specs.Subscribers.{SubscriberStandsFor, publisher_by}
use Rattle.iox_domain_machine.specs.Tables.{LentSlot}
use Rattle.iox_domain_machine.proofs.Found.{same_some, never_some, never_true, same_everywhere, other_found, at_changed, at_changed_other}
use Rattle.iox_domain_machine.proofs.UpdateAlong.{is_stuck}
use Rattle.iox_domain_machine.proofs.UpdateBody.{Walked}
use Rattle.iox_domain_machine.proofs.UpdateLists.{any_not, mapped_at, those_at, those_has}
use Rattle.iox_domain_machine.proofs.UpdateMachine.{all_came, all_else, all_kept, all_off, connects, empty_box, only_boxes}
use Rattle.iox_domain_machine.proofs.UpdateMidway.{IsSamePort, Midway, as_stands, box_now, connected_at, connected_is, one_now}
use Rattle.iox_domain_machine.proofs.UpdateMidway.{service_at, subscriber_as}
use Rattle.iox_domain_machine.proofs.UpdateParting.{got}
use Rattle.iox_domain_machine.proofs.UpdatePlaces.{Place, leaving_then, parting_in_two}
use Rattle.iox_domain_machine.proofs.UpdateTold.{ToldBelow, answers_told, failures, told_alike, told_of_none}
use Rattle.iox_domain_machine.proofs.UpdateReading.{IsReading, expired_key, key_attached, placed_key, reads_alike}
use Rattle.iox_domain_machine.proofs.UpdateSubscriber.{subscriber_changed}
use Rattle.iox_domain_machine.proofs.UpdateWalk.{went_first, went_then, WentFirst, WentThen, parts}
use Rattle.iox_machine.proofs.Shorthands.{now_at, parting, with_subscriber as with_machine_subscriber}
use Rattle.iox_machine.specs.Mailbox.{Mailbox}
use Rattle.iox_machine.specs.PortList.{PortList, those}
use Rattle.iox_machine.specs.PublisherUpdate.{failure_at, UpdateAnswers}
use Rattle.iox_machine.specs.Service.{Service, Subscriber}
use Rattle.iox_machine.specs.SubscriberUpdate.{Follows, Parted}
use Rattle.iox_machine.specs.Table.{at, changed, contains}

-- Ports in which the subscriber with this number is in order: its keys, its connections, and the publishers.
pub record IsReady {T U : Type 0} (number : ℕ) (port : SubscriberPort) (ports : ServicePorts T U) : Type 0 where
  pub fit : KeysFit port
  pub room : port.places.room ≡ ports.sizes.max_publishers
  pub reads : IsReading number ports.publisher_list.places port ports.publishers
  pub sound : All (IsSoundEntry ports.next_port) ports.publishers
  pub sized : All (IsMadeFor (allowed_by ports.sizes)) ports.publishers
  pub well : All (IsWellEntry ports.next_port ports.subscriber_list.places) ports.publishers
  pub list_once : IsListOnce ports.next_port ports.publisher_list.places
  pub places : length ports.publisher_list.places ≡ ports.sizes.max_publishers

module _ {T U : Type 0} (names : Naming) (lent : List (ℕ × LentSlot)) (held : List (ℕ × Taken)) (buffer : ℕ) (old : ServicePorts T U)
    (service : Service T) (number : ℕ) (first : SubscriberPort) (was : Subscriber)
    (stands : StandsFor names lent held buffer old service) (there : subscriber_of number old.subscribers ≡ Some first)
    (was_there : at (names.subscriber number) service.subscribers ≡ Some was)
    (ready : IsReady number first old) (few : was.buffer_size ≤ old.sizes.subscriber_max_buffer_size) (was_stands : was.stands ≡ true) where
  abbrev its : ℕ
  its = names.subscriber number

  abbrev begun : SubscriberPort
  begun = record first { seen = old.publisher_list.changes; again = false }

  abbrev as_one : SubscriberPort → Subscriber
  as_one port = subscriber_as names.publisher old.sizes.max_publishers was port

  abbrev found_is : SubscriberIs names old service number first
  found_is = stands.subscribers number first there

  was_is : SubscriberStandsFor names.publisher old.sizes.max_publishers old.sizes.expired_connections first was
  was_is = subst (λ (one : Subscriber). SubscriberStandsFor names.publisher old.sizes.max_publishers old.sizes.expired_connections first
      one)
      (same_some found_is.0 was (sym found_is.1 ∙ was_there)) found_is.2

  own : found_is.0 ≡ was
  own = same_some found_is.0 was (sym found_is.1 ∙ was_there)

  there_begun : subscriber_of number (with_subscriber number old.subscribers begun) ≡ Some begun
  there_begun = same_set (at_number number) old.subscribers begun first there

  begun_keyed : (other : ℕ) (found : PublisherPort T U) → IsKeyed other found old.subscribers
      → IsKeyed other found (with_subscriber number old.subscribers begun)
  begun_keyed other found keyed index to led attached =
      let key = keyed index to led attached in
      elim (cases_eq to.subscriber number) [
        | inl same ↦
            let its_port : key.0 ≡ first = same_some key.0 first (sym key.1 ∙ ap (λ n. subscriber_of n old.subscribers) same ∙ there) in (
              begun,
              ap (λ n. subscriber_of n (with_subscriber number old.subscribers begun)) same ∙ there_begun,
              sym (ap (λ (one : SubscriberPort). one.stands) its_port) ∙ key.2,
              key.3,
              sym (ap (λ (one : SubscriberPort). attached_at key.3 one) its_port) ∙ key.4,
            )
        | inr off ↦ (key.0, other_found number to.subscriber begun old.subscribers off ∙ key.1, key.2, key.3, key.4)
      ]

  same_begun : IsSamePort first begun
  same_begun = record { number = refl; owner = refl; stands = refl; buffer_size = refl; place = refl; held = refl; room = refl }

  -- the update begins
  start : Midway names lent held buffer old service number first was names.reader begun old.publishers service.mailboxes
  start = record {
    stands = subscriber_changed names lent held buffer old service number first begun (with_subscriber number old.subscribers begun)
        (as_one begun) (changed its (as_one begun) service.subscribers) stands there there_begun
        (λ other off. other_found number other begun old.subscribers off)
        (λ other. subst (λ keys. how_often other keys ≤ 1) (sym (keys-set_value (at_number number) old.subscribers begun))
        (stands.once_subscribers other))
        refl refl refl (at_changed its (as_one begun) was service.subscribers was_there)
        (λ other off. at_changed_other its other (as_one begun) service.subscribers off)
        (sym (ap (λ (one : Subscriber). one.stands) own)) (sym (ap (λ (one : Subscriber). one.buffer_size) own))
        (as_stands names.publisher old.sizes.max_publishers old.sizes.expired_connections was first begun was_is same_begun)
        (λ other found it. begun_keyed other found (stands.keyed other found it));
    same = same_begun;
    fit = (goes_same first begun ready.fit refl refl refl).fit;
    room = ready.room;
    reads = reads_alike number old.publisher_list.places first begun old.publishers refl refl refl ready.reads;
    sound = ready.sound;
    sized = ready.sized;
    well = ready.well;
  }

  abbrev Here : (ℕ → Bool) → SubscriberPort → List (ℕ × PublisherPort T U) → Parted → Type 0
  Here done port ports parted =
      Walked names lent held buffer old service number first was there was_there was_is stands.once_subscribers begun start
      ready.list_once few
      was_stands done port ports parted

  abbrev before_at : ℕ → Option ℕ
  before_at place = connected_at names.publisher begun place

  abbrev list_at : ℕ → Option ℕ
  list_at place =
      option_map (λ (member : Member PublisherEntry). names.publisher member.value.publisher) (get_or old.publisher_list.places place None)

  abbrev zipped : List Place
  zipped = zip was.connected service.publisher_list.places

  abbrev most : ℕ
  most = old.sizes.max_publishers

  same_list : service.publisher_list.places
      ≡ map (option_map (λ (member : Member PublisherEntry). names.publisher member.value.publisher)) old.publisher_list.places
  same_list = ap (λ (list : PortList). list.places) stands.publisher_list

  listed_long : length service.publisher_list.places ≡ most
  listed_long =
      ap (λ all. length all) same_list
      ∙ length-map old.publisher_list.places (option_map (λ (member : Member PublisherEntry). names.publisher member.value.publisher))
      ∙ ready.places

  connected_long : (port : SubscriberPort) → KeysFit port → port.places.room ≡ most → length (as_one port).connected ≡ most
  connected_long port fit room =
      length-map (reached most port.places.items) (option_map (publisher_by names.publisher port))
      ∙ length-append port.places.items (replicate (most - length port.places.items) None)
      ∙ ap (λ n. length port.places.items + n) (length-replicate (most - length port.places.items) (let none : Option ℕ = None in none))
      ∙ (let few_places = fit.places in omega (arith, few_places, room))

  standing_first : first.stands ≡ true
  standing_first = sym was_is.stands ∙ was_stands

  was_connected : was.connected ≡ (as_one begun).connected
  was_connected = was_is.connected standing_first

  was_long : length was.connected ≡ most
  was_long = ap (λ all. length all) was_connected ∙ connected_long begun start.fit start.room

  list_is : (place : ℕ) → get_or service.publisher_list.places place None ≡ list_at place
  list_is place =
      ap (λ all. get_or all place None) same_list
      ∙ mapped_at (λ (member : Member PublisherEntry). names.publisher member.value.publisher) old.publisher_list.places place

  -- two lists of places, one by one
  both_at : (one other : List (Option ℕ)) (place : ℕ) → length one ≡ most → length other ≡ most
      → get_or (zip one other) place (None, None) ≡ (get_or one place None, get_or other place None)
  both_at one other place long also_long = elim (cases_lt place most) [
    | inl within ↦ get_or-zip one other place (None, None) (omega (arith, within, long)) (omega (arith, within, also_long))
    | inr past ↦
        get_or_past (zip one other) place (None, None) (let it = length-zip one other in omega (arith, it, past, long, also_long))
        ∙ ap (λ (c : Option ℕ). (c, None)) (sym (get_or_past one place None (omega (arith, past, long))))
        ∙ ap (λ (l : Option ℕ). (get_or one place None, l)) (sym (get_or_past other place None (omega (arith, past, also_long))))
  ]

  both_long : (one other : List (Option ℕ)) → length one ≡ most → length other ≡ most → length (zip one other) ≡ most
  both_long one other long also_long = let it = length-zip one other in omega (arith, it, long, also_long)

  zipped_at : (place : ℕ) → get_or zipped place (None, None) ≡ (before_at place, list_at place)
  zipped_at place =
      both_at was.connected service.publisher_list.places place was_long listed_long
      ∙ ap (λ (c : Option ℕ). (c, get_or service.publisher_list.places place None))
      (ap (λ all. get_or all place None) was_connected ∙ connected_is names.publisher most was begun place)
      ∙ ap (λ (l : Option ℕ). (before_at place, l)) (list_is place)

  abbrev parted_first : Parted
  parted_first = record { expired = was.expired; staying = [] }

  known_first : All (λ n. is_some (service.mailboxes n its) ≡ true) was.expired
  known_first = subst (λ all. All (λ n. is_some (service.mailboxes n its) ≡ true) all) (sym (was_is.expired standing_first))
      (All-from_get_or (λ n. is_some (service.mailboxes n its) ≡ true) (map (publisher_by names.publisher first) first.expired.items) 0
      (λ place within.
      let below : place < length first.expired.items =
      omega (arith, within, length-map first.expired.items (publisher_by names.publisher first)) in
      let key = get_or first.expired.items place 0 in
      let it = key_attached begun key start.fit (expired_key begun place key (got first.expired.items place below)) in
      ap (λ n. is_some (service.mailboxes n its)) (get_or-map (publisher_by names.publisher first) first.expired.items place 0 0 below)
      ∙ ap is_some (box_now names lent held buffer old service number first was there was_there was_is stands.once_subscribers names.reader
      begun old.publishers service.mailboxes start (λ one other some. refl) key it.0 it.1)))

  none_done : (place : ℕ) → (nat_lt place 0 && is_some (list_at place)) ≡ false
  none_done place = ap (λ b. b && is_some (list_at place)) (le-ltb place 0 (omega arith))

  walked_first : Here (λ place. nat_lt place 0 && is_some (list_at place)) begun old.publishers parted_first
  walked_first = record {
    reader = names.reader;
    mailboxes = service.mailboxes;
    refused = [];
    body = record {
      mid = start;
      kept = λ one other some. refl;
      came = λ one other. inl refl;
      expired_so = sym (was_is.expired standing_first);
      known = known_first;
      refused_all = refl;
      seen = refl;
    };
    along = record {
      here = λ place is. never_true (sym (none_done place) ∙ is);
      rest = λ place is. refl;
      stays = λ port has. never_true has;
      refuses = λ port has. never_true has;
    };
    again = record { stuck = λ so. never_true so; free = λ so place is. never_true (sym (none_done place) ∙ is) };
  }

  -- What the machine does, and what the ports represent afterwards.
  pub record HasUpdated (May : DegradationAction → Type 0) (outcome : Result (Unit {0}) ConnectionFailure) (after : SubscriberPort)
      (ports_after : List (ℕ × PublisherPort T U))
      : Type 0 where
    pub reader : ℕ → ℕ → ℕ
    pub later : Subscriber
    pub mid : Service T
    pub follows : Follows buffer (names.subscriber number) was service later mid
    pub now : at (names.subscriber number) mid.subscribers ≡ Some later
    pub answers : UpdateAnswers May (zip service.publisher_list.places later.connected) outcome
    pub stands_after : StandsFor (record names { reader = reader }) lent held buffer (with_both number after ports_after old) mid

  module _ (may : DegradationInfo → DegradationAction → Type 0) (May : DegradationAction → Type 0)
      (acts : (info : DegradationInfo) (action : DegradationAction) → may info action → May action)
      (items : List (Option (Member PublisherEntry))) (is_list : IsListOf items old.publisher_list)
      (outcome : Result (Unit {0}) ConnectionFailure) (after : SubscriberPort) (ports_after : List (ℕ × PublisherPort T U)) where
    same_items : (place : ℕ) → get_or old.publisher_list.places place None ≡ get_or items place None
    same_items place = ap (λ all. get_or all place None) (sym is_list) ∙ still_there items _ place

    items_few : length items ≤ most
    items_few = omega (
      arith,
      ready.places,
      ap (λ all. length all) is_list,
      length-append items (replicate (length old.publisher_list.places - length items) None),
    )

    abbrev First : SubscriberPort → List (ℕ × PublisherPort T U) → Option ConnectionFailure → Type 0
    First between between_ports found =
        WentFirst names lent held buffer old service number first was there was_there was_is stands.once_subscribers begun start
        ready.list_once few was_stands may May acts zipped zipped_at
        (both_long was.connected service.publisher_list.places was_long listed_long)
        between between_ports parted_first 0 found

    module _ (found : Option ConnectionFailure) (between : SubscriberPort) (between_ports : List (ℕ × PublisherPort T U))
        (went : First between between_ports found)
        (then_went : WentThen names lent held buffer old service number first was there was_there was_is stands.once_subscribers begun start
        ready.list_once few was_stands may May acts zipped zipped_at
        (both_long was.connected service.publisher_list.places was_long listed_long)
        between after ports_after went.after 0 (length between.places.items))
        (is_answer : outcome ≡ domain.update_answer found) where
      abbrev later : Subscriber
      later = as_one after

      abbrev final : Here (λ place. is_some (list_at place) || nat_lt place (length between.places.items)) after ports_after then_went.after
      final = then_went.walked

      abbrev parted : Parted
      parted = then_went.after

      abbrev now_so : ℕ → Option ℕ
      now_so place = connected_at names.publisher after place

      later_long : length later.connected ≡ most
      later_long = connected_long after final.body.mid.fit final.body.mid.room

      later_at : (place : ℕ) → get_or later.connected place None ≡ now_so place
      later_at place = connected_is names.publisher most was after place

      -- who is connected then
      now_is : (place : ℕ) → now_so place ≡ now_at parted.staying final.refused (before_at place, list_at place)
      now_is place = by (is_some (list_at place) || nat_lt place (length between.places.items)) refl
        where
          none_there : (l : Option ℕ) → list_at place ≡ l → (is_some l || nat_lt place (length between.places.items)) ≡ false
              → now_so place ≡ now_at parted.staying final.refused (before_at place, l)
          none_there (Some port) is not_done = never_true (sym not_done)
          none_there None is not_done =
              let past : length between.places.items ≤ place = elim (cases_lt place (length between.places.items)) [
                | inl below ↦ never_true (sym not_done ∙ lt-ltb place (length between.places.items) below)
                | inr higher ↦ higher
              ] in
              let none = then_went.past place past in
              let was_none : before_at place ≡ None =
              sym (final.along.rest place (ap (λ l. is_some l || nat_lt place (length between.places.items)) is ∙ not_done)) ∙ none in
              none ∙ sym (ap (λ c. now_at parted.staying final.refused (c, None)) was_none)

          by : (done : Bool) → (is_some (list_at place) || nat_lt place (length between.places.items)) ≡ done
              → now_so place ≡ now_at parted.staying final.refused (before_at place, list_at place)
          by true done = final.along.here place done
          by false not_done = none_there (list_at place) refl not_done

      connected_so : later.connected ≡ map (now_at parted.staying final.refused) zipped
      connected_so = ext_get_or None later.connected (map (now_at parted.staying final.refused) zipped)
          (later_long ∙ sym (length-map zipped (now_at parted.staying final.refused)
          ∙ both_long was.connected service.publisher_list.places was_long listed_long))
          (λ place within. later_at place ∙ now_is place
          ∙ sym (get_or-map (now_at parted.staying final.refused) zipped place (None, None) None
          (omega (arith, within, later_long, both_long was.connected service.publisher_list.places was_long listed_long))
          ∙ ap (now_at parted.staying final.refused) (zipped_at place)))

      parted_so : fold (parts names lent held buffer old service number first was there was_there was_is stands.once_subscribers begun start
          ready.list_once few was_stands) parted_first (parting zipped) ≡ parted
      parted_so =
          let step = parts names lent held buffer old service number first was there was_there was_is stands.once_subscribers begun start
          ready.list_once few was_stands in
          parting_in_two step parted_first zipped ∙ ap (λ one. fold step one (leaving_then zipped)) went.folds ∙ then_went.folds

      -- whether it is to be done again
      stuck_at : (place : ℕ) → get_or (zip later.connected service.publisher_list.places) place (None, None) ≡ (now_so place, list_at place)
      stuck_at place =
          both_at later.connected service.publisher_list.places place later_long listed_long
          ∙ ap (λ (c : Option ℕ). (c, get_or service.publisher_list.places place None)) (later_at place)
          ∙ ap (λ (l : Option ℕ). (now_so place, l)) (list_is place)

      again_so : after.again ≡ list_any is_stuck (zip later.connected service.publisher_list.places)
      again_so = by after.again refl
        where
          within_of : (place : ℕ) → is_stuck (now_so place, list_at place) ≡ true → place < most
          within_of place stuck = elim (cases_lt place most) [
            | inl below ↦ below
            | inr past ↦ never_true (sym (ap (λ l. is_stuck (now_so place, l))
                (sym (list_is place) ∙ get_or_past service.publisher_list.places place None (omega (arith, past, listed_long)))) ∙ stuck)
          ]

          not_stuck : (place : ℕ) → after.again ≡ false → (l : Option ℕ) → list_at place ≡ l → is_stuck (now_so place, l) ≡ false
          not_stuck place not_again None is = refl
          not_stuck place not_again (Some port) is =
              ap (λ l. is_stuck (now_so place, l)) (sym is)
              ∙ final.again.free not_again place (ap (λ l. is_some l || nat_lt place (length between.places.items)) is)

          by : (again : Bool) → after.again ≡ again → again ≡ list_any is_stuck (zip later.connected service.publisher_list.places)
          by true is =
              let it = final.again.stuck is in
              sym (list_any_at is_stuck (zip later.connected service.publisher_list.places) it.0 (None, None)
              (let long = both_long later.connected service.publisher_list.places later_long listed_long in
              let below = within_of it.0 it.2 in omega (arith, long, below))
              (ap is_stuck (stuck_at it.0) ∙ it.2))
          by false is = sym (any_not is_stuck (zip later.connected service.publisher_list.places) (None, None)
              (λ place within. ap is_stuck (stuck_at place) ∙ not_stuck place is (list_at place) refl))

      -- the mailboxes are those that came by connecting all
      abbrev with_later : Service T
      with_later = with_machine_subscriber its later service

      box_so : (one other : ℕ) → final.mailboxes one other
          ≡ (connects was.buffer_size its with_later (those later.connected)).mailboxes one other
      box_so one other = by (final.body.came one other)
        where
          still : final.mailboxes one other ≡ service.mailboxes one other → (has : Bool) → contains (those later.connected) one ≡ has
              → final.mailboxes one other ≡ (connects was.buffer_size its with_later (those later.connected)).mailboxes one other
          still same false hasn't = same ∙ sym (all_else was.buffer_size its (those later.connected) with_later one other hasn't)
          still same true has = elim (cases_eq other its) [
            | inl its_own ↦
                let place = those_at later.connected one has in
                let some : is_some (service.mailboxes one other) ≡ true =
                ap is_some (sym same) ∙ ap (λ n. is_some (final.mailboxes one n)) its_own
                ∙ has_box place.0 (get_or after.places.items place.0 None) refl (sym (later_at place.0) ∙ place.1) in
                same ∙ sym (all_kept was.buffer_size its (those later.connected) with_later one other some)
            | inr off ↦ same ∙ sym (all_off was.buffer_size its (those later.connected) with_later one other off)
          ]
            where
              has_box : (place : ℕ) (found : Option ℕ) → get_or after.places.items place None ≡ found → now_so place ≡ Some one
                  → is_some (final.mailboxes one its) ≡ true
              has_box place None none is = never_some one (sym (ap (option_map (publisher_by names.publisher after)) none) ∙ is)
              has_box place (Some key) placed is =
                  let it = key_attached after key final.body.mid.fit (placed_key after place key placed) in
                  ap (λ n. is_some (final.mailboxes n its)) (same_some one (publisher_by names.publisher after key)
                  (sym is ∙ ap (option_map (publisher_by names.publisher after)) placed))
                  ∙ ap is_some (box_now names lent held buffer old service number first was there was_there was_is stands.once_subscribers
                  final.reader after ports_after final.mailboxes final.body.mid final.body.kept key it.0 it.1)

          by : (final.mailboxes one other ≡ service.mailboxes one other)
              ⊎ ((other ≡ its) × (service.mailboxes one other ≡ None)
              × (final.mailboxes one other ≡ Some (empty_box {T = T} was.buffer_size number))
              × ((place : ℕ) × (connected_at names.publisher after place ≡ Some one)))
              → final.mailboxes one other ≡ (connects was.buffer_size its with_later (those later.connected)).mailboxes one other
          by (inl same) = still same (contains (those later.connected) one) refl
          by (inr came) =
              came.2
              ∙ sym (ap (λ n. (connects was.buffer_size its with_later (those later.connected)).mailboxes one n) came.0
              ∙ all_came was.buffer_size its (those later.connected) with_later one
              (those_has later.connected came.3.0 one (later_at came.3.0 ∙ came.3.1))
              (ap (service.mailboxes one) (sym came.0) ∙ came.1))

      abbrev service_after : Service T
      service_after = service_at names lent held buffer old service number first was after final.mailboxes

      service_so : service_after ≡ connects was.buffer_size its with_later (those later.connected)
      service_so =
          ap (λ (boxes : ℕ → ℕ → Option (Mailbox T)). record with_later { mailboxes = boxes })
          (same_everywhere final.mailboxes (connects was.buffer_size its with_later (those later.connected)).mailboxes
          (λ one. same_everywhere (final.mailboxes one) ((connects was.buffer_size its with_later (those later.connected)).mailboxes one)
          (λ other. box_so one other)))
          ∙ sym (only_boxes was.buffer_size its (those later.connected) with_later)

      later_so : later ≡ record was {
        seen = service.publisher_list.changes;
        again = list_any is_stuck (zip later.connected service.publisher_list.places);
        connected = later.connected;
        expired = parted.expired;
      }
      later_so =
          ap (λ n. record later { seen = n }) (final.body.seen ∙ sym (ap (λ (list : PortList). list.changes) stands.publisher_list))
          ∙ ap (λ b. record later { seen = service.publisher_list.changes; again = b }) again_so
          ∙ ap (λ all. record later {
            seen = service.publisher_list.changes;
            again = list_any is_stuck (zip later.connected service.publisher_list.places);
            expired = all;
          }) final.body.expired_so

      -- what is answered
      fails_there : (place : ℕ) → get_or (zip service.publisher_list.places later.connected) place (None, None)
          ≡ (list_at place, now_so place)
      fails_there place =
          both_at service.publisher_list.places later.connected place listed_long later_long
          ∙ ap (λ (l : Option ℕ). (l, get_or later.connected place None)) (list_is place)
          ∙ ap (λ (c : Option ℕ). (list_at place, c)) (later_at place)

      told_so : ToldBelow May (failures May (zip service.publisher_list.places later.connected))
          (length (zip service.publisher_list.places later.connected)) found
      told_so =
          told_alike May (λ place. failure_at (list_at place) (connected_at names.publisher between place))
          (failures May (zip service.publisher_list.places later.connected)) old.sizes.max_publishers
          (length (zip service.publisher_list.places later.connected)) found
          (λ place. ap (λ (it : Place). failure_at it.0 it.1) (fails_there place) ∙ then_went.same_fails place)
          (both_long service.publisher_list.places later.connected listed_long later_long) went.is_told

      updated : HasUpdated May outcome after ports_after
      updated = record {
        reader = final.reader;
        later = later;
        mid = service_after;
        follows = (
          final.refused,
          final.body.refused_all,
          later.connected,
          connected_so ∙ ap (λ (one : Parted). map (now_at one.staying final.refused) zipped) (sym parted_so),
          later_so ∙ ap (λ (one : Parted). record was {
            seen = service.publisher_list.changes;
            again = list_any is_stuck (zip later.connected service.publisher_list.places);
            connected = later.connected;
            expired = one.expired;
          }) (sym parted_so),
          service_so,
        );
        now = one_now names lent held buffer old service number first was there was_there was_is stands.once_subscribers after;
        answers = subst (λ (one : Result (Unit {0}) ConnectionFailure). UpdateAnswers May
            (zip service.publisher_list.places later.connected) one) (sym is_answer)
            (answers_told May (zip service.publisher_list.places later.connected) found told_so);
        stands_after = final.body.mid.stands;
      }

    -- A subscriber that must follow the list does what the machine's subscriber does.
    pub update_stands : FollowsList may items begun old.publishers outcome after ports_after → HasUpdated May outcome after ports_after
    update_stands (found, between, between_ports, firsts, nones, is_answer) =
        let long = both_long was.connected service.publisher_list.places was_long listed_long in
        let went = went_first names lent held buffer old service number first was there was_there was_is stands.once_subscribers begun start
        ready.list_once few was_stands may May acts zipped zipped_at long items 0 None found begun between old.publishers between_ports
        parted_first
        (λ k. ap (λ n. get_or old.publisher_list.places n None) (omega arith) ∙ same_items k) (omega (arith, items_few)) walked_first
        (told_of_none May (λ place. failure_at (list_at place) (connected_at names.publisher begun place))) firsts in
        let few_between = went.walked.body.mid.fit.places in
        let room_between = went.walked.body.mid.room in
        let then_went = went_then names lent held buffer old service number first was there was_there was_is stands.once_subscribers
        begun start
        ready.list_once few was_stands may May acts zipped zipped_at long (length between.places.items) 0 (length between.places.items)
        items between
        after between_ports ports_after went.after same_items (omega arith) (omega (arith, few_between, room_between))
        (λ place past. ap (option_map (publisher_by names.publisher between)) (get_or_past between.places.items place None past))
        went.walked nones in
        updated found between between_ports went then_went is_answer
