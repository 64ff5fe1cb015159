-- One place of the list of publishers is gone over, of a domain and of the machine.
use Rattle.std.proofs.Common.{◌≡◌, ◌≢◌, ◌≤◌, ◌<◌, ◌⊎◌, ◌∷◌, ◌++◌, [], ◌&&◌, ◌||◌, ℕ, Bool, true, false, List, map, get_or, not, Option}
use Rattle.std.proofs.Common.{None, Some, Result, Ok, Err, refl, sym, ap, subst, inl, inr, ◌∙◌, arith}
use Rattle.std.proofs.lemmas.Bool.{eq-eqb, eqb-true, ne_eqb}
use Rattle.std.proofs.lemmas.List.{get_or-set_other}
use Rattle.std.specs.List.{All, list_all}
use Rattle.std.specs.Map.{keys_of}
use Rattle.std.specs.Option.{option_map_or}
use Rattle.std.specs.Prelude.{fold, is_some, option_map, if◌then◌else◌}
use Rattle.iox_command.specs.DomainValues.declared.connection_failure.ZeroCopyCreationError.{ZeroCopyCreationError}
use Rattle.iox_command.specs.DomainValues.declared.connection_failure.ZeroCopyCreationError.TheVariants.{ExpiredConnectionBufferFull}
use Rattle.iox_command.specs.DomainValues.declared.connection_failure.ZeroCopyCreationError.TheVariants.{OutOfMemory}
use Rattle.iox_domain.proofs.Fitting.{goes_same}
use Rattle.iox_domain.specs.Container.declared.container.Member.{Member}
use Rattle.iox_domain.specs.DomainPorts.Following.{Connects, FollowsAt, FollowsFreed, FollowsKey, FollowsListed, FollowsNone}
use Rattle.iox_domain.specs.DomainPorts.Following.{FollowsNoneAt, Parts, freed_if, is_of, unplaced}
use Rattle.iox_domain.specs.DomainPorts.Subscribing.{attached_at}
use Rattle.iox_domain.specs.DomainPorts.declared.attached.Attached.{Attached}
use Rattle.iox_domain.specs.DomainPorts.declared.attached.Taken.{Taken}
use Rattle.iox_domain.specs.DomainPorts.declared.publisher_entry.PublisherEntry.{PublisherEntry}
use Rattle.iox_domain.specs.DomainPorts.declared.publisher_port.PublisherPort.{PublisherPort}
use Rattle.iox_domain.specs.DomainPorts.declared.subscriber_port.SubscriberPort.{SubscriberPort}
use Rattle.iox_domain.specs.Roomy.{IsListOnce}
use Rattle.iox_domain.specs.Subscribers.{subscriber_of}
use Rattle.iox_domain.specs.Tries.{how_often}
use Rattle.iox_domain.specs.declared.ports.service_ports.ServicePorts.{ServicePorts}
use Rattle.iox_domain_machine.specs.Naming.{Naming}
use Rattle.iox_domain_machine.specs.Subscribers.{SubscriberStandsFor, publisher_by}
use Rattle.iox_domain_machine.specs.Tables.{LentSlot}
use Rattle.iox_domain_machine.proofs.Changing.{not_zero}
use Rattle.iox_domain_machine.proofs.Found.{same_some, never_some, never_true}
use Rattle.iox_domain_machine.proofs.LeavePort.{none_set}
use Rattle.iox_domain_machine.proofs.UpdateAlong.{Along, AreApart, IsAgain, again_now, again_on, along_on, at_free, at_stays, end_has}
use Rattle.iox_domain_machine.proofs.UpdateAlong.{has_end, has_head, has_same, is_stuck, no_refused, no_stayer, HasMore}
use Rattle.iox_domain_machine.proofs.UpdateConnecting.{comes, lacks}
use Rattle.iox_domain_machine.proofs.UpdateLists.{mapped_at, those_has}
use Rattle.iox_domain_machine.proofs.UpdateMachine.{empty_box, part_known}
use Rattle.iox_domain_machine.proofs.UpdateMidway.{Midway, box_now, connected_at, same_publisher}
use Rattle.iox_domain_machine.proofs.UpdateParting.{HasPartedSo, IsFreed, parted_so, place_once, stays_midway}
use Rattle.iox_domain_machine.proofs.UpdatePlaces.{Place, first_other, first_same, gone_other, gone_same, leaving_first, leaving_then}
use Rattle.iox_domain_machine.proofs.UpdateReading.{HasNone, key_attached, placed_key, reads_alike}
use Rattle.iox_machine.proofs.Shorthands.{now_at}
use Rattle.iox_machine.specs.Mailbox.{Mailbox}
use Rattle.iox_machine.specs.PortList.{PortList, those, unless}
use Rattle.iox_machine.specs.PublisherUpdate.{failure_at}
use Rattle.iox_machine.specs.Service.{Service, Subscriber}
use Rattle.iox_machine.specs.SubscriberUpdate.{Parted, part}
use Rattle.iox_machine.specs.Table.{at, contains}

-- what comes of a place where a connection failed so
abbrev pub outcome_of : Option ZeroCopyCreationError → Result (Unit {0}) ZeroCopyCreationError
outcome_of None = Ok tt
outcome_of (Some failure) = Err failure

module _ {T U : Type 0} (names : Naming) (lent : List (ℕ × LentSlot)) (held : List (ℕ × Taken)) (buffer : ℕ) (old : ServicePorts T U)
    (service : Service T) (number : ℕ) (first : SubscriberPort) (was : Subscriber)
    (there : subscriber_of number old.subscribers ≡ Some first)
    (was_there : at (names.subscriber number) service.subscribers ≡ Some was)
    (was_is : SubscriberStandsFor names.publisher old.sizes.max_publishers old.sizes.expired_connections first was)
    (once : (other : ℕ) → how_often other (keys_of old.subscribers) ≤ 1) (begun : SubscriberPort)
    (start : Midway names lent held buffer old service number first was names.reader begun old.publishers service.mailboxes)
    (list_once : IsListOnce old.next_port old.publisher_list.places)
    (few : was.buffer_size ≤ old.sizes.subscriber_max_buffer_size) (was_stands : was.stands ≡ true) where
  abbrev its : ℕ
  its = names.subscriber number

  abbrev name : ℕ → ℕ
  name = names.publisher

  abbrev places : List (Option (Member PublisherEntry))
  places = old.publisher_list.places

  -- who was connected at a place, and who is listed there
  abbrev pub before : ℕ → Option ℕ
  before place = connected_at names.publisher begun place

  abbrev pub listed : ℕ → Option ℕ
  listed place = option_map (λ (member : Member PublisherEntry). names.publisher member.value.publisher)
      (get_or old.publisher_list.places place None)

  abbrev pub Mid : (ℕ → ℕ → ℕ) → SubscriberPort → List (ℕ × PublisherPort T U) → (ℕ → ℕ → Option (Mailbox T)) → Type 0
  Mid reader port ports mailboxes = Midway names lent held buffer old service number first was reader port ports mailboxes

  -- who is connected at a place has a key there
  record HasKey (port : SubscriberPort) (place connected : ℕ) : Type 0 where
    key : ℕ
    placed : get_or port.places.items place None ≡ Some key
    attached : Attached
    has : attached_at key port ≡ Some attached
    is : connected ≡ names.publisher attached.publisher

  has_key : (reader : ℕ → ℕ → ℕ) (port : SubscriberPort) (ports : List (ℕ × PublisherPort T U)) (mailboxes : ℕ → ℕ → Option (Mailbox T))
      → Mid reader port ports mailboxes → (place connected : ℕ) → connected_at names.publisher port place ≡ Some connected
      → HasKey port place connected
  has_key reader port ports mailboxes mid place connected is = by (get_or port.places.items place None) refl
    where
      by : (found : Option ℕ) → get_or port.places.items place None ≡ found → HasKey port place connected
      by None none = never_some connected (sym (ap (option_map (publisher_by names.publisher port)) none) ∙ is)
      by (Some key) placed =
          let it = key_attached port key mid.fit (placed_key port place key placed) in
          record {
            key = key;
            placed = placed;
            attached = it.0;
            has = it.1;
            is = same_some connected (publisher_by names.publisher port key)
                (sym is ∙ ap (option_map (publisher_by names.publisher port)) placed)
                ∙ ap (λ (found : Option Attached). option_map_or (λ (a : Attached). names.publisher a.publisher) found 0) it.1;
          }

  -- no two publishers have one name
  same_number : (reader : ℕ → ℕ → ℕ) (port : SubscriberPort) (ports : List (ℕ × PublisherPort T U)) (mailboxes : ℕ → ℕ → Option (Mailbox T))
      → Mid reader port ports mailboxes → (key : ℕ) (attached : Attached) → attached_at key port ≡ Some attached → (other : ℕ)
      → names.publisher attached.publisher ≡ names.publisher other → attached.publisher ≡ other
  same_number reader port ports mailboxes mid key attached has other same =
      let read = mid.reads.reads key attached has in
      let named = mid.stands.publishers attached.publisher read.0 read.1 in
      mid.stands.named_publishers.apart attached.publisher other
      (not_zero names.publisher (names.publisher attached.publisher) named.0 service.publishers mid.stands.named_publishers named.1) same

  pub apart_before : AreApart before
  apart_before one other connected is also =
      let first_key = has_key names.reader begun old.publishers service.mailboxes start one connected is in
      let second_key = has_key names.reader begun old.publishers service.mailboxes start other connected also in
      let same = same_number names.reader begun old.publishers service.mailboxes start first_key.key first_key.attached first_key.has
      second_key.attached.publisher (sym first_key.is ∙ second_key.is) in
      let key_same = start.reads.apart first_key.key second_key.key first_key.attached second_key.attached first_key.has second_key.has
      same in
      place_once begun one other first_key.key start.fit first_key.placed
      (second_key.placed ∙ ap (λ k. Some k) (sym key_same))

  pub apart_listed : AreApart listed
  apart_listed one other port is also = by (get_or places one None) refl (get_or places other None) refl
    where
      by : (found : Option (Member PublisherEntry)) → get_or places one None ≡ found → (found_other : Option (Member PublisherEntry))
          → get_or places other None ≡ found_other → one ≡ other
      by None none found_other so =
          never_some port (sym (ap (option_map (λ (m : Member PublisherEntry). names.publisher m.value.publisher)) none) ∙ is)
      by (Some member) so None none =
          never_some port (sym (ap (option_map (λ (m : Member PublisherEntry). names.publisher m.value.publisher)) none) ∙ also)
      by (Some member) so (Some second) so_other =
          let name_one = same_some (names.publisher member.value.publisher) port
          (sym (ap (option_map (λ (m : Member PublisherEntry). names.publisher m.value.publisher)) so) ∙ is) in
          let name_other = same_some (names.publisher second.value.publisher) port
          (sym (ap (option_map (λ (m : Member PublisherEntry). names.publisher m.value.publisher)) so_other) ∙ also) in
          let there_one = start.stands.present one member so in
          let named = start.stands.publishers member.value.publisher there_one.0 there_one.1 in
          list_once.apart one other member second so so_other
          (start.stands.named_publishers.apart member.value.publisher second.value.publisher
          (not_zero names.publisher (names.publisher member.value.publisher) named.0 service.publishers start.stands.named_publishers
          named.1)
          (name_one ∙ sym name_other))

  -- who was connected has a mailbox
  pub known_before : (place connected : ℕ) → before place ≡ Some connected → is_some (service.mailboxes connected its) ≡ true
  known_before place connected is =
      let it = has_key names.reader begun old.publishers service.mailboxes start place connected is in
      let by_key : publisher_by names.publisher begun it.key ≡ connected =
      ap (λ (found : Option Attached). option_map_or (λ (a : Attached). names.publisher a.publisher) found 0) it.has ∙ sym it.is in
      ap (λ n. is_some (service.mailboxes n its)) (sym by_key)
      ∙ ap is_some (box_now names lent held buffer old service number first was there was_there was_is once names.reader begun
      old.publishers
      service.mailboxes start (λ one other some. refl) it.key it.attached it.has)

  -- the machine's list has who is listed
  list_at : (place : ℕ) → get_or service.publisher_list.places place None ≡ listed place
  list_at place =
      ap (λ list. get_or list place None) (ap (λ (list : PortList). list.places) start.stands.publisher_list)
      ∙ mapped_at (λ (member : Member PublisherEntry). names.publisher member.value.publisher) places place

  -- a mailbox that came is that of who is connected now
  abbrev pub CameTo : SubscriberPort → (ℕ → ℕ → Option (Mailbox T)) → ℕ → ℕ → Type 0
  CameTo port mailboxes one other =
      (other ≡ its) × (service.mailboxes one other ≡ None) × (mailboxes one other ≡ Some (empty_box {T = T} was.buffer_size number))
      × ((place : ℕ) × (connected_at names.publisher port place ≡ Some one))

  abbrev pub IsKnown : ℕ → Type 0
  IsKnown port = is_some (service.mailboxes port (names.subscriber number)) ≡ true

  abbrev pub may_refuse : ℕ → Bool
  may_refuse publisher =
      contains (those service.publisher_list.places) publisher && not (is_some (service.mailboxes publisher (names.subscriber number)))

  -- What is true in the middle of the update, of the parted connections and of the publishers that were refused.
  pub record Body (reader : ℕ → ℕ → ℕ) (port : SubscriberPort) (ports : List (ℕ × PublisherPort T U))
      (mailboxes : ℕ → ℕ → Option (Mailbox T)) (parted : Parted) (refused : List ℕ) : Type 0 where
    pub mid : Mid reader port ports mailboxes
    pub kept : (one other : ℕ) → is_some (service.mailboxes one other) ≡ true → mailboxes one other ≡ service.mailboxes one other
    pub came : (one other : ℕ) → (mailboxes one other ≡ service.mailboxes one other) ⊎ CameTo port mailboxes one other
    pub expired_so : map (publisher_by names.publisher port) port.expired.items ≡ parted.expired
    pub known : All IsKnown parted.expired
    pub refused_all : list_all may_refuse refused ≡ true
    pub seen : port.seen ≡ begun.seen

  -- Ports and the machine after some places were visited.
  pub record Walked (done : ℕ → Bool) (port : SubscriberPort) (ports : List (ℕ × PublisherPort T U)) (parted : Parted) : Type 0 where
    pub reader : ℕ → ℕ → ℕ
    pub mailboxes : ℕ → ℕ → Option (Mailbox T)
    pub refused : List ℕ
    pub body : Body reader port ports mailboxes parted refused
    pub along : Along before listed done (connected_at names.publisher port) parted.staying refused
    pub again : IsAgain listed done (connected_at names.publisher port) port.again

  -- how the machine parts from a publisher
  abbrev pub parts_from : Parted → ℕ → Parted
  parts_from = part buffer (names.subscriber number) service

  -- The effect of visiting a place.
  pub record HasStepped (leaving : List Place → List ℕ) (place : ℕ) (then_done : ℕ → Bool) (port new : SubscriberPort)
      (new_ports : List (ℕ × PublisherPort T U)) (parted : Parted) (outcome : Result (Unit {0}) ZeroCopyCreationError) : Type 0 where
    pub after : Parted
    pub walked : Walked then_done new new_ports after
    pub folds : (more : List Place) → fold parts_from parted (leaving ((before place, listed place) ∷ more))
        ≡ fold parts_from after (leaving more)
    pub others : (other : ℕ) → other ≢ place → connected_at names.publisher new other ≡ connected_at names.publisher port other
    pub fails : outcome ≡ outcome_of (failure_at (listed place) (connected_at names.publisher new place))

  module _ (done then_done : ℕ → Bool) (port : SubscriberPort) (ports : List (ℕ × PublisherPort T U)) (parted : Parted)
      (walked : Walked done port ports parted) (place : ℕ) (not_done : done place ≡ false) (is_done : then_done place ≡ true)
      (same_done : (other : ℕ) → other ≢ place → then_done other ≡ done other) where
    abbrev now : ℕ → Option ℕ
    now = connected_at names.publisher port

    mid : Mid walked.reader port ports walked.mailboxes
    mid = walked.body.mid

    -- who is at the place was there before the update
    now_before : now place ≡ before place
    now_before = walked.along.rest place not_done

    nobody_stays : (connected : ℕ) → before place ≡ Some connected → contains parted.staying connected ≡ false
    nobody_stays = no_stayer before listed apart_before apart_listed place done then_done now now parted.staying parted.staying
        walked.refused walked.refused not_done walked.along

    -- What is true if the place has no connection, or no longer has one.
    record IsVacant (vacated : SubscriberPort) (vacated_ports : List (ℕ × PublisherPort T U)) (then_parted : Parted) : Type 0 where
      body : Body walked.reader vacated vacated_ports walked.mailboxes then_parted walked.refused
      none : get_or vacated.places.items place None ≡ None
      others : (other : ℕ) → other ≢ place → connected_at names.publisher vacated other ≡ now other
      staying : then_parted.staying ≡ parted.staying
      again : vacated.again ≡ port.again

    -- The effect at a publisher that is listed there.
    record IsMet (then_parted : Parted) (new : SubscriberPort) (new_ports : List (ℕ × PublisherPort T U))
        (outcome : Result (Unit {0}) ZeroCopyCreationError) : Type 0 where
      walked_on : Walked then_done new new_ports then_parted
      others : (other : ℕ) → other ≢ place → connected_at names.publisher new other ≡ now other
      fails : outcome ≡ outcome_of (failure_at (listed place) (connected_at names.publisher new place))

    module _ (member : Member PublisherEntry) (is_listed : get_or old.publisher_list.places place None ≡ Some member)
        (within : place < old.sizes.max_publishers) where
      abbrev here : ℕ
      here = names.publisher member.value.publisher

      listed_here : listed place ≡ Some here
      listed_here = ap (option_map (λ (m : Member PublisherEntry). names.publisher m.value.publisher)) is_listed

      not_refused : contains walked.refused here ≡ false
      not_refused = no_refused before listed apart_before apart_listed place done then_done now now parted.staying parted.staying
          walked.refused walked.refused not_done walked.along here listed_here

      -- who is listed there is connected where nobody stays, unless it is refused
      free_now : (staying refused : List ℕ) → staying ≡ parted.staying
          → now_at staying refused (before place, listed place) ≡ unless refused (Some here)
      free_now staying refused same =
          at_free staying refused (before place) (listed place)
          (λ connected is. ap (λ all. contains all connected) same ∙ nobody_stays connected is)
          ∙ ap (unless refused) listed_here

      no_failure : (connected : Option ℕ) → connected ≡ Some here → Ok tt ≡ outcome_of (failure_at (listed place) connected)
      no_failure connected is =
          sym (ap (λ l. outcome_of (failure_at l connected)) listed_here ∙ ap (λ c. outcome_of (failure_at (Some here) c)) is
          ∙ ap (λ b. outcome_of (if b then None else Some ExpiredConnectionBufferFull)) (eq-eqb here here refl))

      unstuck : (connected : Option ℕ) → connected ≡ Some here → is_stuck (connected, listed place) ≡ false
      unstuck connected is =
          ap (λ l. is_stuck (connected, l)) listed_here ∙ ap (λ c. is_stuck (c, Some here)) is
          ∙ ap (λ found. is_some found) (gone_same here here refl)

      module _ (vacated : SubscriberPort) (vacated_ports : List (ℕ × PublisherPort T U)) (then_parted : Parted)
          (vacant : IsVacant vacated vacated_ports then_parted) (new : SubscriberPort) (new_ports : List (ℕ × PublisherPort T U)) where
        along_open : Along before listed done now then_parted.staying walked.refused
        along_open = subst (λ all. Along before listed done now all walked.refused) (sym vacant.staying) walked.along

        within_open : place < vacated.places.room
        within_open = omega (arith, within, vacant.body.mid.room)

        -- a mailbox that there isn't wasn't there before
        none_open : (one other : ℕ)
            → (walked.mailboxes one other ≡ service.mailboxes one other) ⊎ CameTo vacated walked.mailboxes one other
            → walked.mailboxes one other ≡ None → service.mailboxes one other ≡ None
        none_open one other (inl same) none = sym same ∙ none
        none_open one other (inr came) none = came.1

        -- it is connected
        connects : Connects place member.value.publisher vacated vacated_ports (Ok tt) new new_ports
            → IsMet then_parted new new_ports (Ok tt)
        connects so =
            let come = comes names lent held buffer old service number first was there was_there was_is once walked.reader vacated
            vacated_ports
            walked.mailboxes vacant.body.mid place member is_listed vacant.none within_open was_stands list_once few new new_ports so in
            let others : (other : ℕ) → other ≢ place → connected_at names.publisher new other ≡ now other =
            λ other off. come.others other off ∙ vacant.others other off in
            record {
              walked_on = record {
                reader = come.read;
                mailboxes = come.boxes;
                refused = walked.refused;
                body = record {
                  mid = come.mid;
                  kept = λ one other some. elim (come.came one other) [
                    | inl same ↦ same ∙ vacant.body.kept one other some
                    | inr came ↦ never_true (sym (ap is_some came.2) ∙ ap is_some (vacant.body.kept one other some) ∙ some)
                  ];
                  came = λ one other. elim (come.came one other) [
                    | inl same ↦ elim (vacant.body.came one other) [
                      | inl still ↦ inl (same ∙ still)
                      | inr was_so ↦
                          let at_place = was_so.3.0 in
                          let off : at_place ≢ place = λ wrong. never_some one (sym (ap (option_map (publisher_by names.publisher vacated))
                          vacant.none) ∙ ap (connected_at names.publisher vacated) (sym wrong) ∙ was_so.3.1) in
                          inr (was_so.0, was_so.1, same ∙ was_so.2, (at_place, come.others at_place off ∙ was_so.3.1))
                    ]
                    | inr came ↦ inr (
                      came.1,
                      none_open one other (vacant.body.came one other) came.2,
                      came.3,
                      (place, come.here ∙ ap (λ n. Some n) (sym came.0)),
                    )
                  ];
                  expired_so = come.expired ∙ vacant.body.expired_so;
                  known = vacant.body.known;
                  refused_all = vacant.body.refused_all;
                  seen = come.seen ∙ vacant.body.seen;
                };
                along = along_on before listed apart_before apart_listed place done then_done now (connected_at names.publisher new)
                    then_parted.staying then_parted.staying walked.refused walked.refused not_done along_open is_done same_done
                    (come.here ∙ sym (free_now then_parted.staying walked.refused vacant.staying
                    ∙ ap (λ b. if b then None else Some here) not_refused)) others
                    (has_same then_parted.staying (before place)) (has_same walked.refused (listed place));
                again = subst (λ b. IsAgain listed then_done (connected_at names.publisher new) b) (sym (come.again ∙ vacant.again))
                    (again_on listed place done then_done now (connected_at names.publisher new) not_done is_done same_done others
                    port.again
                    (unstuck (connected_at names.publisher new place) come.here) walked.again);
              };
              others = others;
              fails = no_failure (connected_at names.publisher new place) come.here;
            }

        -- or it is refused
        refuses : (failure : ZeroCopyCreationError)
            → Connects place member.value.publisher vacated vacated_ports (Err failure) new new_ports
            → IsMet then_parted new new_ports (Err failure)
        refuses failure so =
            let lack = lacks names lent held buffer old service number first was there was_there was_is once walked.reader vacated
            vacated_ports
            walked.mailboxes vacant.body.mid place member is_listed vacant.none within_open was_stands failure new new_ports so in
            subst (λ one. IsMet then_parted one new_ports (Err failure)) (sym lack.1)
            (subst (λ all. IsMet then_parted vacated all (Err failure)) (sym lack.2)
            (subst (λ why. IsMet then_parted vacated vacated_ports (Err why)) (sym lack.0)
            (refused_so (none_open here its (vacant.body.came here its) lack.3))))
          where
            none_there : connected_at names.publisher vacated place ≡ None
            none_there = ap (option_map (publisher_by names.publisher vacated)) vacant.none

            refused_so : service.mailboxes here its ≡ None → IsMet then_parted vacated vacated_ports (Err OutOfMemory)
            refused_so no_box = record {
              walked_on = record {
                reader = walked.reader;
                mailboxes = walked.mailboxes;
                refused = here ∷ walked.refused;
                body = record {
                  mid = vacant.body.mid;
                  kept = vacant.body.kept;
                  came = vacant.body.came;
                  expired_so = vacant.body.expired_so;
                  known = vacant.body.known;
                  refused_all =
                      ap (λ b. (b && not (is_some (service.mailboxes here its))) && list_all may_refuse walked.refused)
                      (those_has service.publisher_list.places place here (list_at place ∙ listed_here))
                      ∙ ap (λ box. not (is_some box) && list_all may_refuse walked.refused) no_box ∙ vacant.body.refused_all;
                  seen = vacant.body.seen;
                };
                along = along_on before listed apart_before apart_listed place done then_done now (connected_at names.publisher vacated)
                    then_parted.staying then_parted.staying walked.refused (here ∷ walked.refused) not_done along_open is_done same_done
                    (none_there ∙ sym (free_now then_parted.staying (here ∷ walked.refused) vacant.staying
                    ∙ ap (λ b. if b || contains walked.refused here then None else Some here) (eq-eqb here here refl))) vacant.others
                    (has_same then_parted.staying (before place))
                    (subst (λ l. HasMore walked.refused (here ∷ walked.refused) l) (sym listed_here) (has_head walked.refused here));
                again = subst (λ b. IsAgain listed then_done (connected_at names.publisher vacated) b) (sym vacant.again)
                    (again_on listed place done then_done now (connected_at names.publisher vacated) not_done is_done same_done
                    vacant.others port.again
                    (ap (λ c. is_stuck (c, listed place)) none_there ∙ ap (λ l. is_stuck (None, l)) listed_here) walked.again);
              };
              others = vacant.others;
              fails = sym (ap (λ l. outcome_of (failure_at l (connected_at names.publisher vacated place))) listed_here
                  ∙ ap (λ c. outcome_of (failure_at (Some here) c)) none_there);
            }

        meets : (outcome : Result (Unit {0}) ZeroCopyCreationError)
            → Connects place member.value.publisher vacated vacated_ports outcome new new_ports → IsMet then_parted new new_ports outcome
        meets (Ok tt) so = connects so
        meets (Err failure) so = refuses failure so

    -- where nobody is connected nothing parts
    nobody_vacant : get_or port.places.items place None ≡ None → IsVacant port ports parted
    nobody_vacant none = record { body = walked.body; none = none; others = λ other off. refl; staying = refl; again = refl }

    nobody_before : get_or port.places.items place None ≡ None → before place ≡ None
    nobody_before none = sym now_before ∙ ap (option_map (publisher_by names.publisher port)) none

    -- somebody who isn't listed there parts
    module _ (key : ℕ) (gone : Attached) (placed : get_or port.places.items place None ≡ Some key) (has : attached_at key port ≡ Some gone)
        (unlisted : (member : Member PublisherEntry) → get_or old.publisher_list.places place None ≡ Some member
        → HasNone member.value.publisher port) where
      abbrev leaver : ℕ
      leaver = publisher_by names.publisher port key

      leaver_now : now place ≡ Some leaver
      leaver_now = ap (option_map (publisher_by names.publisher port)) placed

      leaver_before : before place ≡ Some leaver
      leaver_before = sym now_before ∙ leaver_now

      leaver_known : IsKnown leaver
      leaver_known = known_before place leaver leaver_before

      abbrev then_parted : Parted
      then_parted = parts_from parted leaver

      abbrev Freed : SubscriberPort → List (ℕ × PublisherPort T U) → Type 0
      Freed new new_ports =
          IsFreed names lent held buffer old service number first was there was_there was_is once walked.reader port ports
          walked.mailboxes mid
          walked.body.kept place key gone placed has unlisted parted walked.body.expired_so walked.body.known leaver_known new new_ports

      abbrev PartedSo : Bool → SubscriberPort → List (ℕ × PublisherPort T U) → Type 0
      PartedSo is_free new new_ports =
          HasPartedSo names lent held buffer old service number first was there was_there was_is once walked.reader port ports
          walked.mailboxes
          mid walked.body.kept place key gone placed has unlisted parted walked.body.expired_so walked.body.known leaver_known is_free new
          new_ports

      so_parted : (is_free : Bool) (new : SubscriberPort) (new_ports : List (ℕ × PublisherPort T U))
          → Parts key port ports is_free new new_ports → PartedSo is_free new new_ports
      so_parted is_free new new_ports parts =
          parted_so names lent held buffer old service number first was there was_there was_is once walked.reader port ports
          walked.mailboxes mid
          walked.body.kept place key gone placed has unlisted parted walked.body.expired_so walked.body.known leaver_known is_free new
          new_ports parts

      then_known : All IsKnown then_parted.expired
      then_known = part_known buffer its service parted leaver IsKnown walked.body.known leaver_known

      vacant_of : (vacated : SubscriberPort) (vacated_ports : List (ℕ × PublisherPort T U)) → Freed vacated vacated_ports
          → IsVacant vacated vacated_ports then_parted
      vacant_of vacated vacated_ports freed = record {
        body = record {
          mid = freed.mid;
          kept = walked.body.kept;
          came = λ one other. elim (walked.body.came one other) [
            | inl same ↦ inl same
            | inr came ↦
                let at_place = came.3.0 in
                let off : at_place ≢ place = λ wrong. never_true
                (sym (ap is_some came.1) ∙ ap (λ n. is_some (service.mailboxes one n)) came.0
                ∙ known_before place one (sym now_before ∙ ap now (sym wrong) ∙ came.3.1)) in
                inr (came.0, came.1, came.2, (at_place, elsewhere at_place off ∙ came.3.1))
          ];
          expired_so = sym (ap (λ (all : Parted). all.expired) freed.parts);
          known = then_known;
          refused_all = walked.body.refused_all;
          seen = freed.seen ∙ walked.body.seen;
        };
        none = ap (λ all. get_or all place None) freed.items_so ∙ none_set port.places.items place;
        others = elsewhere;
        staying = ap (λ (all : Parted). all.staying) freed.parts;
        again = freed.again;
      }
        where
          same_items : (other : ℕ) → other ≢ place → get_or vacated.places.items other None ≡ get_or port.places.items other None
          same_items other off =
              ap (λ all. get_or all other None) freed.items_so ∙ get_or-set_other port.places.items place other None None off

          elsewhere_by : (other : ℕ) → other ≢ place → (found : Option ℕ) → get_or vacated.places.items other None ≡ found
              → connected_at names.publisher vacated other ≡ now other
          elsewhere_by other off None none =
              ap (option_map (publisher_by names.publisher vacated)) none
              ∙ sym (ap (option_map (publisher_by names.publisher port)) (sym (same_items other off) ∙ none))
          elsewhere_by other off (Some which) is =
              let it = key_attached vacated which freed.mid.fit (placed_key vacated other which is) in
              ap (option_map (publisher_by names.publisher vacated)) is
              ∙ ap (λ n. Some n) (same_publisher names.publisher port vacated which it.0 it.1 (freed.fewer which it.0 it.1))
              ∙ sym (ap (option_map (publisher_by names.publisher port)) (sym (same_items other off) ∙ is))

          elsewhere : (other : ℕ) → other ≢ place → connected_at names.publisher vacated other ≡ now other
          elsewhere other off = elsewhere_by other off (get_or vacated.places.items other None) refl

      -- it stays
      module _ (stays : then_parted ≡ record parted { staying = parted.staying ++ leaver ∷ [] }) where
        stays_body : (new : SubscriberPort) → Mid walked.reader new ports walked.mailboxes
            → new ≡ record port { again = new.again } → Body walked.reader new ports walked.mailboxes then_parted walked.refused
        stays_body new mid_new is = record {
          mid = mid_new;
          kept = walked.body.kept;
          came = λ one other. subst (λ (it : SubscriberPort). (walked.mailboxes one other ≡ service.mailboxes one other)
              ⊎ CameTo it walked.mailboxes one other) (sym is) (walked.body.came one other);
          expired_so = ap (λ (it : SubscriberPort). map (publisher_by names.publisher it) it.expired.items) is ∙ walked.body.expired_so
              ∙ sym (ap (λ (all : Parted). all.expired) stays);
          known = then_known;
          refused_all = walked.body.refused_all;
          seen = ap (λ (it : SubscriberPort). it.seen) is ∙ walked.body.seen;
        }

        stays_along : Along before listed then_done now then_parted.staying walked.refused
        stays_along =
            subst (λ (all : Parted). Along before listed then_done now all.staying walked.refused) (sym stays)
            (along_on before listed apart_before apart_listed place done then_done now now parted.staying (parted.staying ++ leaver ∷ [])
            walked.refused walked.refused not_done walked.along is_done same_done
            (leaver_now ∙ sym (ap (λ c. now_at (parted.staying ++ leaver ∷ []) walked.refused (c, listed place)) leaver_before
            ∙ at_stays (parted.staying ++ leaver ∷ []) walked.refused leaver (listed place) (end_has parted.staying leaver)))
            (λ other off. refl)
            (subst (λ c. HasMore parted.staying (parted.staying ++ leaver ∷ []) c) (sym leaver_before) (has_end parted.staying leaver))
            (has_same walked.refused (listed place)))

    -- a place that lists a publisher
    module _ (member : Member PublisherEntry) (is_listed : get_or old.publisher_list.places place None ≡ Some member)
        (within : place < old.sizes.max_publishers) (outcome : Result (Unit {0}) ZeroCopyCreationError) (new : SubscriberPort)
        (new_ports : List (ℕ × PublisherPort T U)) where
      abbrev its_name : ℕ
      its_name = names.publisher member.value.publisher

      is_here : listed place ≡ Some its_name
      is_here = listed_here member is_listed within

      abbrev Result_so : Type 0
      Result_so = HasStepped leaving_first place then_done port new new_ports parted outcome

      folded : (then_parted : Parted) (more : List Place) (connected : Option ℕ) → before place ≡ connected
          → fold parts_from parted (leaving_first ((connected, Some its_name) ∷ more)) ≡ fold parts_from then_parted (leaving_first more)
          → fold parts_from parted (leaving_first ((before place, listed place) ∷ more)) ≡ fold parts_from then_parted (leaving_first more)
      folded left_parted more connected is same =
          ap (λ c. fold parts_from parted (leaving_first ((c, listed place) ∷ more))) is
          ∙ ap (λ l. fold parts_from parted (leaving_first ((connected, l) ∷ more))) is_here ∙ same

      nobody_there : get_or port.places.items place None ≡ None → Connects place member.value.publisher port ports outcome new new_ports
          → Result_so
      nobody_there none follows =
          let met = meets member is_listed within port ports parted (nobody_vacant none) new new_ports outcome follows in
          record {
            after = parted;
            walked = met.walked_on;
            folds = λ more. folded parted more None (nobody_before none) refl;
            others = met.others;
            fails = met.fails;
          }

      module _ (key : ℕ) (gone : Attached) (placed : get_or port.places.items place None ≡ Some key)
          (has : attached_at key port ≡ Some gone) where
        by_key : publisher_by names.publisher port key ≡ names.publisher gone.publisher
        by_key = ap (λ (found : Option Attached). option_map_or (λ (a : Attached). names.publisher a.publisher) found 0) has

        key_now : now place ≡ Some (publisher_by names.publisher port key)
        key_now = ap (option_map (publisher_by names.publisher port)) placed

        -- it is connected already
        same_there : gone.publisher ≡ member.value.publisher → outcome ≡ Ok tt → new ≡ port → new_ports ≡ ports → Result_so
        same_there same is_ok is_new is_ports =
            let here_now : now place ≡ Some its_name = key_now ∙ ap (λ n. Some n) (by_key ∙ ap names.publisher same) in
            subst (λ one. HasStepped leaving_first place then_done port one new_ports parted outcome) (sym is_new)
            (subst (λ all. HasStepped leaving_first place then_done port port all parted outcome) (sym is_ports)
            (subst (λ so. HasStepped leaving_first place then_done port port ports parted so) (sym is_ok)
            (record {
              after = parted;
              walked = record {
                reader = walked.reader;
                mailboxes = walked.mailboxes;
                refused = walked.refused;
                body = walked.body;
                along = along_on before listed apart_before apart_listed place done then_done now now parted.staying parted.staying
                    walked.refused walked.refused not_done walked.along is_done same_done
                    (here_now ∙ sym (free_now member is_listed within parted.staying walked.refused refl
                    ∙ ap (λ b. if b then None else Some its_name) (not_refused member is_listed within)))
                    (λ other off. refl) (has_same parted.staying (before place)) (has_same walked.refused (listed place));
                again = again_on listed place done then_done now now not_done is_done same_done (λ other off. refl) port.again
                    (unstuck member is_listed within (now place) here_now) walked.again;
              };
              folds = λ more. folded parted more (Some its_name) (sym now_before ∙ here_now)
                  (ap (fold parts_from parted) (first_same its_name its_name more refl));
              others = λ other off. refl;
              fails = no_failure member is_listed within (now place) here_now;
            })))

        -- or another parts first
        module _ (off : gone.publisher ≢ member.value.publisher) where
          unlisted : (second : Member PublisherEntry) → get_or old.publisher_list.places place None ≡ Some second
              → HasNone second.value.publisher port
          unlisted second is_second other attached has_other same =
              let key_same : other ≡ key =
              same_some other key (sym (mid.reads.placed other place attached second has_other is_second same) ∙ placed) in
              let own : attached ≡ gone = same_some attached gone (sym has_other ∙ ap (λ k. attached_at k port) key_same ∙ has) in
              let second_is : second ≡ member = same_some second member (sym is_second ∙ is_listed) in
              off (ap (λ (a : Attached). a.publisher) (sym own) ∙ same
              ∙ ap (λ (m : Member PublisherEntry). m.value.publisher) second_is)

          abbrev its_leaver : ℕ
          its_leaver = publisher_by names.publisher port key

          off_name : its_name ≢ its_leaver
          off_name same = off (same_number walked.reader port ports walked.mailboxes mid key gone has member.value.publisher
              (sym by_key ∙ sym same))

          leaves : (more : List Place) → fold parts_from parted (leaving_first ((before place, listed place) ∷ more))
              ≡ fold parts_from (parts_from parted its_leaver) (leaving_first more)
          leaves more = folded (parts_from parted its_leaver) more (Some its_leaver) (sym now_before ∙ key_now)
              (ap (fold parts_from parted) (first_other its_leaver its_name more off_name))

          parts_first : (is_free : Bool) (between : SubscriberPort) (between_ports : List (ℕ × PublisherPort T U))
              → Parts key port ports is_free between between_ports
              → FollowsFreed is_free place member.value.publisher between between_ports outcome new new_ports → Result_so
          parts_first true between between_ports parts follows =
              let so = so_parted key gone placed has unlisted true between between_ports parts in
              let vacant = vacant_of key gone placed has unlisted (unplaced place between) between_ports (so.freed refl) in
              let met = meets member is_listed within (unplaced place between) between_ports (parts_from parted its_leaver) vacant new
              new_ports
              outcome follows in
              record {
                after = parts_from parted its_leaver;
                walked = met.walked_on;
                folds = leaves;
                others = met.others;
                fails = met.fails;
              }
          parts_first false between between_ports parts (is_full, is_new, is_ports) =
              let so = so_parted key gone placed has unlisted false between between_ports parts in
              let stays = so.stays refl in
              let again_port : SubscriberPort = record port { again = true } in
              subst (λ one. HasStepped leaving_first place then_done port one new_ports parted outcome)
              (sym (is_new ∙ ap (λ (it : SubscriberPort). record it { again = true }) stays.0))
              (subst (λ all. HasStepped leaving_first place then_done port again_port all parted outcome) (sym (is_ports ∙ stays.1))
              (subst (λ why. HasStepped leaving_first place then_done port again_port ports parted why) (sym is_full)
              (record {
                after = parts_from parted its_leaver;
                walked = record {
                  reader = walked.reader;
                  mailboxes = walked.mailboxes;
                  refused = walked.refused;
                  body = stays_body key gone placed has unlisted stays.2 again_port
                      (stays_midway names lent held buffer old service number first was there was_there was_is once walked.reader port ports
                      walked.mailboxes mid again_port (record {
                        number = mid.same.number;
                        owner = mid.same.owner;
                        stands = mid.same.stands;
                        buffer_size = mid.same.buffer_size;
                        place = mid.same.place;
                        held = mid.same.held;
                        room = mid.same.room;
                      }) (goes_same port again_port mid.fit refl refl refl).fit mid.room
                      (reads_alike number old.publisher_list.places port again_port ports refl refl refl mid.reads) refl) refl;
                  along = stays_along key gone placed has unlisted stays.2;
                  again = again_now listed place done then_done now now not_done is_done same_done (λ other off. refl)
                      (ap (λ l. is_stuck (now place, l)) is_here ∙ ap (λ c. is_stuck (c, Some its_name)) key_now
                      ∙ ap (λ found. is_some found) (gone_other its_leaver its_name off_name));
                };
                folds = leaves;
                others = λ other off. refl;
                fails = sym (ap (λ l. outcome_of (failure_at l (now place))) is_here
                    ∙ ap (λ c. outcome_of (failure_at (Some its_name) c)) key_now
                    ∙ ap (λ b. outcome_of (if b then None else Some ExpiredConnectionBufferFull))
                    (ne_eqb its_leaver its_name (λ same. off_name (sym same))));
              })))

        follows_key : (same : Bool) → is_of member.value.publisher (attached_at key port) ≡ same
            → FollowsKey same key place member.value.publisher port ports outcome new new_ports → Result_so
        follows_key true is follows =
            same_there (eqb-true gone.publisher member.value.publisher
            (sym (ap (is_of member.value.publisher) has) ∙ is)) follows.0 follows.1 follows.2
        follows_key false is (is_free, between, between_ports, parts, follows) =
            parts_first (λ same. never_true
            (sym is ∙ ap (is_of member.value.publisher) has ∙ eq-eqb gone.publisher member.value.publisher same))
            is_free between between_ports parts follows

      pub step_listed : FollowsListed place member.value.publisher port ports outcome new new_ports → Result_so
      step_listed = by (get_or port.places.items place None) refl
        where
          by : (found : Option ℕ) → get_or port.places.items place None ≡ found
              → FollowsAt found place member.value.publisher port ports outcome new new_ports → Result_so
          by None none follows = nobody_there none follows
          by (Some key) placed follows =
              let it = key_attached port key mid.fit (placed_key port place key placed) in
              follows_key key it.0 placed it.1 (is_of member.value.publisher (attached_at key port)) refl follows

    -- a place that lists none
    module _ (none_listed : get_or old.publisher_list.places place None ≡ None) (new : SubscriberPort)
        (new_ports : List (ℕ × PublisherPort T U)) where
      none_here : listed place ≡ None
      none_here = ap (option_map (λ (m : Member PublisherEntry). names.publisher m.value.publisher)) none_listed

      no_outcome : (connected : Option ℕ) → Ok tt ≡ outcome_of (failure_at (listed place) connected)
      no_outcome connected = sym (ap (λ l. outcome_of (failure_at l connected)) none_here)

      not_stuck : (connected : Option ℕ) → is_stuck (connected, listed place) ≡ false
      not_stuck connected = ap (λ l. is_stuck (connected, l)) none_here

      nobody_unlisted : (second : Member PublisherEntry) → get_or old.publisher_list.places place None ≡ Some second
          → HasNone second.value.publisher port
      nobody_unlisted second is_second = never_some second (sym none_listed ∙ is_second)

      abbrev Stepped : SubscriberPort → List (ℕ × PublisherPort T U) → Type 0
      Stepped one all = HasStepped leaving_then place then_done port one all parted (Ok tt)

      folds_then : (then_parted : Parted) (more : List Place) (connected : Option ℕ) → before place ≡ connected
          → fold parts_from parted (leaving_then ((connected, None) ∷ more)) ≡ fold parts_from then_parted (leaving_then more)
          → fold parts_from parted (leaving_then ((before place, listed place) ∷ more)) ≡ fold parts_from then_parted (leaving_then more)
      folds_then left_parted more connected is same =
          ap (λ c. fold parts_from parted (leaving_then ((c, listed place) ∷ more))) is
          ∙ ap (λ l. fold parts_from parted (leaving_then ((connected, l) ∷ more))) none_here ∙ same

      -- nobody is connected there then
      vacant_walked : (vacated : SubscriberPort) (vacated_ports : List (ℕ × PublisherPort T U)) (then_parted : Parted)
          → IsVacant vacated vacated_ports then_parted → Walked then_done vacated vacated_ports then_parted
      vacant_walked vacated vacated_ports then_parted vacant =
          let none_now : connected_at names.publisher vacated place
          ≡ None = ap (option_map (publisher_by names.publisher vacated)) vacant.none in
          record {
            reader = walked.reader;
            mailboxes = walked.mailboxes;
            refused = walked.refused;
            body = vacant.body;
            along = along_on before listed apart_before apart_listed place done then_done now (connected_at names.publisher vacated)
                then_parted.staying then_parted.staying walked.refused walked.refused not_done
                (subst (λ all. Along before listed done now all walked.refused) (sym vacant.staying) walked.along) is_done same_done
                (none_now ∙ sym (at_free then_parted.staying walked.refused (before place) (listed place)
                (λ connected is. ap (λ all. contains all connected) vacant.staying ∙ nobody_stays connected is)
                ∙ ap (unless walked.refused) none_here)) vacant.others
                (has_same then_parted.staying (before place)) (has_same walked.refused (listed place));
            again = subst (λ b. IsAgain listed then_done (connected_at names.publisher vacated) b) (sym vacant.again)
                (again_on listed place done then_done now (connected_at names.publisher vacated) not_done is_done same_done
                vacant.others port.again
                (not_stuck (connected_at names.publisher vacated place)) walked.again);
          }

      by_free : (key : ℕ) (gone : Attached) → get_or port.places.items place None ≡ Some key → attached_at key port ≡ Some gone
          → (is_free : Bool) (between : SubscriberPort) → Parts key port ports is_free between new_ports
          → new ≡ freed_if is_free place between → Stepped new new_ports
      by_free key gone placed has true between parts is_new =
          let so = so_parted key gone placed has nobody_unlisted true between new_ports parts in
          let vacant = vacant_of key gone placed has nobody_unlisted (unplaced place between) new_ports (so.freed refl) in
          subst (λ one. Stepped one new_ports) (sym is_new) (record {
            after = parts_from parted (publisher_by names.publisher port key);
            walked = vacant_walked (unplaced place between) new_ports (parts_from parted (publisher_by names.publisher port key)) vacant;
            folds = λ more. folds_then (parts_from parted (publisher_by names.publisher port key)) more
                (Some (publisher_by names.publisher port key))
                (leaver_before key gone placed has nobody_unlisted) refl;
            others = vacant.others;
            fails = no_outcome (connected_at names.publisher (unplaced place between) place);
          })
      by_free key gone placed has false between parts is_new =
          let so = so_parted key gone placed has nobody_unlisted false between new_ports parts in
          let stays = so.stays refl in
          subst (λ one. Stepped one new_ports) (sym (is_new ∙ stays.0))
          (subst (λ all. Stepped port all) (sym stays.1) (record {
            after = parts_from parted (publisher_by names.publisher port key);
            walked = record {
              reader = walked.reader;
              mailboxes = walked.mailboxes;
              refused = walked.refused;
              body = stays_body key gone placed has nobody_unlisted stays.2 port mid refl;
              along = stays_along key gone placed has nobody_unlisted stays.2;
              again = again_on listed place done then_done now now not_done is_done same_done (λ other off. refl) port.again
                  (not_stuck (now place)) walked.again;
            };
            folds = λ more. folds_then (parts_from parted (publisher_by names.publisher port key)) more
                (Some (publisher_by names.publisher port key))
                (leaver_before key gone placed has nobody_unlisted) refl;
            others = λ other off. refl;
            fails = no_outcome (now place);
          }))

      pub step_unlisted : FollowsNone place port ports new new_ports → Stepped new new_ports
      step_unlisted = by (get_or port.places.items place None) refl
        where
          by : (found : Option ℕ) → get_or port.places.items place None ≡ found → FollowsNoneAt found place port ports new new_ports
              → Stepped new new_ports
          by None none follows =
              subst (λ one. Stepped one new_ports) (sym follows.0) (subst (λ all. Stepped port all) (sym follows.1) (record {
                after = parted;
                walked = vacant_walked port ports parted (nobody_vacant none);
                folds = λ more. folds_then parted more None (nobody_before none) refl;
                others = λ other off. refl;
                fails = no_outcome (now place);
              }))
          by (Some key) placed (is_free, between, parts, is_new) =
              let it = key_attached port key mid.fit (placed_key port place key placed) in
              by_free key it.0 placed it.1 is_free between parts is_new
