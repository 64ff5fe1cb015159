-- A sample is released, of a domain and of the machine.
use Rattle.std.proofs.Common.{◌≡◌, ◌≢◌, ◌≤◌, ◌<◌, ◌⊎◌, ◌+◌, ◌-◌, ◌∷◌, [], ◌&&◌, ℕ, Bool, true, false, cond, List, map, Option, None, Some}
use Rattle.std.proofs.Common.{refl, sym, ap, subst, inl, inr, ◌∙◌, arith}
use Rattle.std.proofs.Math.Logic.{⊎_elim}
use Rattle.std.proofs.lemmas.Bool.{cases_eq, eq-eqb, eqb-true, ne_eqb}
use Rattle.std.proofs.lemmas.Bool.Decides.{eqb_tells}
use Rattle.std.proofs.lemmas.List.{map-append}
use Rattle.std.proofs.lemmas.List.Elements.{All-filter, All-head, All-tail}
use Rattle.std.proofs.lemmas.Map.{keys-set_value}
use Rattle.std.specs.List.{All, position_or_len}
use Rattle.std.specs.Option.{option_map_or}
use Rattle.std.specs.Prelude.{find, is_some, not, option_and_then, option_map, unwrap_or, ◌==◌, if◌then◌else◌}
use Rattle.iox_command.specs.declared.reply.Reply.{Reply}
use Rattle.iox_command.specs.declared.reply.Reply.TheVariants as reply
use Rattle.iox_domain.proofs.DomainSlots.Counts.{times_append}
use Rattle.iox_domain.proofs.Numbered.{at_number, found_of_all, same_set}
use Rattle.iox_domain.specs.DomainPorts.Messages.{Message}
use Rattle.iox_domain.specs.DomainPorts.Ports.{connection_of, goes_on}
use Rattle.iox_domain.specs.DomainPorts.Publishers as publishers
use Rattle.iox_domain.specs.DomainPorts.Publishers.{port_of, connection_in, connection_at_port, released, changed_at_port}
use Rattle.iox_domain.specs.DomainPorts.Reading.{place_of, borrowed_in, given_back_at}
use Rattle.iox_domain.specs.DomainPorts.declared.attached.Taken.{Taken}
use Rattle.iox_domain.specs.DomainPorts.declared.publisher_port.PublisherPort.{PublisherPort}
use Rattle.iox_domain.specs.DomainPorts.declared.subscriber_port.SubscriberPort.{SubscriberPort}
use Rattle.iox_domain.specs.DomainSlots.Counting.{times}
use Rattle.iox_domain.specs.DomainSlots.Uses.{Connection}
use Rattle.iox_domain.specs.DomainSlots.declared.stage.Stage.{Stage}
use Rattle.iox_domain.specs.DomainSlots.declared.stage.Stage.TheVariants as stage
use Rattle.iox_domain.specs.PortLawsLaws.{IsSound, IsSoundEntry, IsTidy}
use Rattle.iox_domain.specs.PortsSubscribing.{Releases, ReleasesOf, ReleasesAt, let_go, let_go_at, taker_of}
use Rattle.iox_domain.specs.Subscribers as subscribers
use Rattle.iox_domain.specs.Subscribers.{subscriber_of, with_subscriber}
use Rattle.iox_domain.specs.Tries.{how_often}
use Rattle.iox_domain.specs.declared.ports.service_ports.ServicePorts.{ServicePorts}
use Rattle.iox_domain_machine.specs.Mailboxes.{MailboxesStandFor}
use Rattle.iox_domain_machine.specs.Naming.{Naming, mailbox_as}
use Rattle.iox_domain_machine.specs.ReleaseLaws.{ReleaseMatches}
use Rattle.iox_domain_machine.specs.Standing.{StandsFor, PublisherIs}
use Rattle.iox_domain_machine.specs.Tables.{LentSlot, LoansStandFor, SamplesStandFor, sample_as, slots_held_of, samples_held_by}
use Rattle.iox_domain_machine.specs.Tables.{held_at_port}
use Rattle.iox_domain_machine.proofs.Alone.{alone_does}
use Rattle.iox_domain_machine.proofs.Changing.{all_changed, with_one, AreButHeld}
use Rattle.iox_domain_machine.proofs.Found.{same_some, never_some, same_everywhere, at_mapped, at_head, at_behind, other_found}
use Rattle.iox_domain_machine.proofs.Kept.{loans_kept, sample_by}
use Rattle.iox_domain_machine.proofs.Reading.{is_of, held_counts, borrowed_there}
use Rattle.iox_domain_machine.proofs.ReleaseHeld.{is_same, IsIts, all_its, held_removed, others_held, samples_removed, counted_removed}
use Rattle.iox_domain_machine.proofs.ReleaseOthers.{slots_in_others, found_in_others}
use Rattle.iox_domain_machine.proofs.ReleasePort.{differ, after, borrowed_now, borrowed_elsewhere, tidy_after, port_after, alone}
use Rattle.iox_domain_machine.proofs.ReleasePort.{boxes_after}
use Rattle.iox_domain_machine.proofs.ReleaseSettling.{subscriber_settled}
use Rattle.iox_domain_machine.proofs.Removing.{placed, but, often_removed}
use Rattle.iox_domain_machine.proofs.Settling.{both, settled_stands}
use Rattle.iox_machine.specs.Choices.{Choices}
use Rattle.iox_machine.proofs.Shorthands.{given_back}
use Rattle.iox_machine.specs.Mailbox.{Mailbox}
use Rattle.iox_machine.specs.Message.{Sample}
use Rattle.iox_machine.specs.Ports as ports
use Rattle.iox_machine.specs.Service.{Service, mailbox, with_mailbox}
use Rattle.iox_machine.specs.Table.{at, removed}

-- what holds of each of a table holds of what goes by a number
found_holds : {V : Type 0} (P : V → Type 0) (number : ℕ) (v : V) (table : List (ℕ × V)) → All (λ (entry : ℕ × V). P entry.1) table
    → at number table ≡ Some v → P v
found_holds P number v [] all is = never_some v is
found_holds {V} P number v (entry ∷ table) all is = ⊎_elim
    (λ same. subst P (same_some entry.1 v (sym (at_head number entry table same.0) ∙ is))
    (All-head (λ (entry : ℕ × V). P entry.1) entry table all))
    (λ off. found_holds P number v table (All-tail (λ (entry : ℕ × V). P entry.1) entry table all)
    (sym (at_behind number entry table off.0) ∙ is))
    (eqb_tells entry.0 number)

and_false : (b : Bool) → (b && false) ≡ false
and_false true = refl
and_false false = refl

-- another mailbox of a publisher and a subscriber stands there, and elsewhere none does
module _ {T : Type 0} (publisher subscriber : ℕ) (box : Mailbox T) (service : Service T) where
  abbrev with_box : Service T
  with_box = with_mailbox publisher subscriber box service

  pub box_now : with_box.mailboxes publisher subscriber ≡ Some box
  box_now =
      ap (λ b. if b && (subscriber == subscriber) then Some box else service.mailboxes publisher subscriber)
      (eq-eqb publisher publisher refl)
      ∙ ap (λ b. if b then Some box else service.mailboxes publisher subscriber) (eq-eqb subscriber subscriber refl)

  pub others_box : (other : ℕ) → other ≢ subscriber → with_box.mailboxes publisher other ≡ service.mailboxes publisher other
  others_box other off =
      ap (λ b. if (publisher == publisher) && b then Some box else service.mailboxes publisher other) (ne_eqb other subscriber off)
      ∙ ap (λ b. if b then Some box else service.mailboxes publisher other) (and_false (publisher == publisher))

  pub other_boxes : (other : ℕ) → other ≢ publisher → with_box.mailboxes other ≡ service.mailboxes other
  other_boxes other off = same_everywhere (with_box.mailboxes other) (service.mailboxes other)
      (λ one. ap (λ b. if b && (one == subscriber) then Some box else service.mailboxes other one) (ne_eqb other publisher off))

  pub same_boxes : is_some (service.mailboxes publisher subscriber) ≡ true → (one other : ℕ)
      → is_some (with_box.mailboxes one other) ≡ is_some (service.mailboxes one other)
  same_boxes there one other = ⊎_elim
      (λ same. ⊎_elim
      (λ here. ap (λ n. is_some (with_box.mailboxes n other)) same ∙ ap (λ n. is_some (with_box.mailboxes publisher n)) here
      ∙ ap is_some box_now ∙ sym there
      ∙ sym (ap (λ n. is_some (service.mailboxes n other)) same ∙ ap (λ n. is_some (service.mailboxes publisher n)) here))
      (λ off. ap (λ n. is_some (with_box.mailboxes n other)) same ∙ ap is_some (others_box other off)
      ∙ ap (λ n. is_some (service.mailboxes n other)) (sym same))
      (cases_eq other subscriber))
      (λ off. ap (λ boxes. is_some (boxes other)) (other_boxes one off))
      (cases_eq one publisher)

-- The sample with this number exists, with its publisher and its subscriber.
record SampleIsThere {T U : Type 0} (ports : ServicePorts T U) (taken : Taken) : Type 0 where
  pub port : PublisherPort T U
  pub there : port_of taken.publisher ports.publishers ≡ Some port
  pub counts : 0 < times taken.slot (map (λ (message : Message T U). message.slot) (connection_of taken.index port).borrowed)
  pub subscriber : SubscriberPort
  pub reads : subscriber_of taken.subscriber ports.subscribers ≡ Some subscriber

module _ {T U : Type 0} (names : Naming) (lent : List (ℕ × LentSlot)) (held : List (ℕ × Taken)) (buffer : ℕ) (old : ServicePorts T U)
    (service : Service T) (sample : ℕ) (taken : Taken) (stands : StandsFor names lent held buffer old service) (sound : IsSound old)
    (goes : at sample held ≡ Some taken) where
  abbrev slot_of : Message T U → ℕ
  slot_of message = message.slot

  counts_there : 0 < times taken.slot (map slot_of (connection_in taken.publisher taken.index old.publishers).borrowed)
  counts_there =
      subst (λ (slots : List ℕ). 0 < times taken.slot slots) (stands.samples.all taken.publisher taken.index)
      (held_counts sample taken held goes)

  one_less : (subscriber : ℕ)
      → samples_held_by subscriber (removed sample held) + cond (taken.subscriber == subscriber) 1 0 ≡ samples_held_by subscriber held
  one_less subscriber =
      counted_removed (λ (entry : ℕ × Taken). entry.1.subscriber == subscriber) (λ (other : Taken). other.subscriber == subscriber)
      (λ entry. refl) sample taken held goes (stands.samples.once sample)

  itself : (taken.subscriber == taken.subscriber) ≡ true
  itself = eq-eqb taken.subscriber taken.subscriber refl

  reads_some : 0 < held_at_port (subscriber_of taken.subscriber old.subscribers)
  reads_some =
      let one : ◌≡◌ {A = ℕ} (cond (taken.subscriber == taken.subscriber) 1 0) 1 = ap (λ b. cond b 1 0) itself in
      omega (arith, one, one_less taken.subscriber, stands.samples.counted taken.subscriber)

  subscriber_by : (found : Option SubscriberPort) → 0 < held_at_port found → (port : SubscriberPort) × (found ≡ Some port)
  subscriber_by None some = absurd (omega (arith, some))
  subscriber_by (Some port) some = (port, refl)

  port_by : (found : Option (PublisherPort T U)) → port_of taken.publisher old.publishers ≡ found
      → 0 < times taken.slot (map slot_of (connection_at_port taken.index found).borrowed) → SampleIsThere old taken
  port_by None there some = absurd (omega (arith, some))
  port_by (Some port) there some =
      let reader = subscriber_by (subscriber_of taken.subscriber old.subscribers) reads_some in
      record { port = port; there = there; counts = some; subscriber = reader.0; reads = reader.1 }

  is_held : SampleIsThere old taken
  is_held = port_by (port_of taken.publisher old.publishers) refl counts_there

  whose : names.reader taken.publisher taken.index ≡ names.subscriber taken.subscriber
  whose = found_holds (λ (taken : Taken). names.reader taken.publisher taken.index ≡ names.subscriber taken.subscriber)
      sample taken held stands.samples.whose goes

  module _ (it : SampleIsThere old taken) where
    abbrev was : PublisherIs names old service taken.publisher it.port
    was = stands.publishers taken.publisher it.port it.there

    abbrev borrowed : List (Message T U)
    borrowed = (connection_of taken.index it.port).borrowed

    tidy : IsTidy it.port
    tidy = (found_of_all (IsSoundEntry old.next_port) (at_number taken.publisher) old.publishers it.port sound it.there).holds.1

    once : times taken.slot (map slot_of borrowed) ≤ 1
    once =
        let connection : Connection (Message T U) = connection_of taken.index it.port in
        let before = was.3.once taken.index taken.slot in
        let parts = ap (times taken.slot) (map-append slot_of connection.waiting connection.borrowed) in
        omega (arith, before, parts, times_append taken.slot (map slot_of connection.waiting) (map slot_of connection.borrowed))

    abbrev back : PublisherPort T U
    back = after it.port taken.index taken.slot tidy it.counts once

    abbrev less : SubscriberPort
    less = record it.subscriber { held = it.subscriber.held - 1 }

    abbrev new : ServicePorts T U
    new = record (with_one taken.publisher back old) { subscribers = with_subscriber taken.subscriber old.subscribers less }

    now : port_of taken.publisher new.publishers ≡ Some back
    now = same_set (at_number taken.publisher) old.publishers back it.port it.there

    now_reads : subscriber_of taken.subscriber new.subscribers ≡ Some less
    now_reads = same_set (at_number taken.subscriber) old.subscribers less it.subscriber it.reads

    boxes : MailboxesStandFor (names.message taken.publisher) (names.reader taken.publisher) names.subscriber it.port
        (service.mailboxes (names.publisher taken.publisher)) service.subscribers
    boxes = was.3

    -- the mailbox is there
    has_box : (box : Mailbox T)
        × (service.mailboxes (names.publisher taken.publisher) (names.reader taken.publisher taken.index) ≡ Some box)
    has_box = by (connection_of taken.index it.port).stage refl
      where
        by : (now : Stage) → (connection_of taken.index it.port).stage ≡ now
            → (box : Mailbox T)
            × (service.mailboxes (names.publisher taken.publisher) (names.reader taken.publisher taken.index) ≡ Some box)
        by stage.Vacant is = absurd (let some = it.counts in omega (
          arith,
          some,
          ap (λ (connection : Connection (Message T U)). times taken.slot (map slot_of connection.borrowed)) (tidy taken.index is),
        ))
        by stage.Live is =
            (mailbox_as (names.message taken.publisher) (connection_of taken.index it.port), boxes.live taken.index (ap goes_on is))
        by stage.Ended is = let ended = boxes.ended taken.index is in (ended.0, ended.1)

    box_there : service.mailboxes (names.publisher taken.publisher) (names.subscriber taken.subscriber) ≡ Some has_box.0
    box_there = ap (service.mailboxes (names.publisher taken.publisher)) (sym whose) ∙ has_box.1

    abbrev gone : Sample T
    gone = sample_as names old taken

    abbrev given : Mailbox T
    given = given_back gone.message.number (mailbox gone.publisher gone.subscriber service)

    abbrev service_after : Service T
    service_after = with_mailbox gone.publisher gone.subscriber given (record service { samples = removed sample service.samples })

    given_is : given ≡ given_back (names.message taken.publisher taken.slot) has_box.0
    given_is = ap (λ (found : Option (Mailbox T)). given_back gone.message.number
        (unwrap_or found (record { limit = 0; waiting = []; borrowed = [] }))) box_there

    boxes_now : MailboxesStandFor (names.message taken.publisher) (names.reader taken.publisher) names.subscriber back
        (service_after.mailboxes (names.publisher taken.publisher)) service.subscribers
    boxes_now =
        let name = names.message taken.publisher in
        boxes_after it.port taken.index taken.slot tidy it.counts once name (names.reader taken.publisher) names.subscriber
        (service.mailboxes (names.publisher taken.publisher)) (service_after.mailboxes (names.publisher taken.publisher))
        service.subscribers boxes
        (alone it.port taken.index taken.slot tidy it.counts once name was.0.first was.0.next was.2.named)
        has_box.0 has_box.1
        (ap (service_after.mailboxes (names.publisher taken.publisher)) whose
        ∙ box_now gone.publisher gone.subscriber given service ∙ ap (λ (box : Mailbox T). Some box) given_is)
        (λ other off. others_box gone.publisher gone.subscriber given service other (λ same. off (same ∙ sym whose)))

    -- the samples are
    each_its : All (IsIts sample taken) held
    each_its = all_its sample taken held goes (stands.samples.once sample)
        (subst (λ (slots : List ℕ). times taken.slot slots ≤ 1)
        (sym (stands.samples.all taken.publisher taken.index
        ∙ ap (λ found. map slot_of (connection_at_port taken.index found).borrowed) it.there)) once)

    connection_elsewhere : (other index : ℕ) → other ≢ taken.publisher
        → connection_in other index new.publishers ≡ connection_in other index old.publishers
    connection_elsewhere other index off =
        ap (λ found. connection_at_port index found) (other_found taken.publisher other back old.publishers off)

    borrowed_before : (other index : ℕ) → other ≡ taken.publisher
        → (connection_in other index old.publishers).borrowed ≡ (connection_of index it.port).borrowed
    borrowed_before other index same =
        ap (λ n. (connection_in n index old.publishers).borrowed) same
        ∙ ap (λ found. (connection_at_port index found).borrowed) it.there

    borrowed_after : (other index : ℕ) → other ≡ taken.publisher
        → (connection_in other index new.publishers).borrowed ≡ (connection_of index back).borrowed
    borrowed_after other index same =
        ap (λ n. (connection_in n index new.publishers).borrowed) same
        ∙ ap (λ found. (connection_at_port index found).borrowed) now

    slots_after : (other index : ℕ) → (other ≡ taken.publisher) ⊎ (other ≢ taken.publisher) → (index ≡ taken.index) ⊎ (index ≢ taken.index)
        → slots_held_of other index (removed sample held) ≡ map slot_of (connection_in other index new.publishers).borrowed
    slots_after other index (inr off) at_index =
        others_held sample taken other index held
        (λ one is. ap (λ b. b && (one.index == index)) (ne_eqb one.publisher other (λ same. off (sym same
        ∙ is_publisher one is)))) each_its
        ∙ stands.samples.all other index
        ∙ ap (λ (connection : Connection (Message T U)). map slot_of connection.borrowed) (sym (connection_elsewhere other index off))
      where
        is_publisher : (one : Taken) → is_of taken one ≡ true → one.publisher ≡ taken.publisher
        is_publisher one is =
            eqb-true one.publisher taken.publisher (both (one.publisher == taken.publisher) (one.index == taken.index) is).0
    slots_after other index (inl same) (inr off) =
        others_held sample taken other index held
        (λ one is. ap (λ b. (one.publisher == other) && b) (ne_eqb one.index index (λ at_it. off (sym at_it ∙ is_index one is)))
        ∙ and_false (one.publisher == other)) each_its
        ∙ stands.samples.all other index ∙ ap (map slot_of) (borrowed_before other index same
        ∙ sym (borrowed_elsewhere it.port taken.index taken.slot tidy it.counts once index off)
        ∙ sym (borrowed_after other index same))
      where
        is_index : (one : Taken) → is_of taken one ≡ true → one.index ≡ taken.index
        is_index one is = eqb-true one.index taken.index (both (one.publisher == taken.publisher) (one.index == taken.index) is).1
    slots_after other index (inl same) (inl at_it) =
        ap (λ n. slots_held_of n index (removed sample held)) same ∙ ap (λ i. slots_held_of taken.publisher i (removed sample held)) at_it
        ∙ held_removed sample taken held each_its
        ∙ ap (but taken.slot) (stands.samples.all taken.publisher taken.index
        ∙ ap (map slot_of) (borrowed_before taken.publisher taken.index refl))
        ∙ sym (slots_in_others slot_of taken.slot borrowed)
        ∙ ap (map slot_of) (sym (borrowed_now it.port taken.index taken.slot tidy it.counts once)
        ∙ sym (borrowed_after taken.publisher taken.index refl))
        ∙ sym (ap (λ n. map slot_of (connection_in n index new.publishers).borrowed) same
        ∙ ap (λ i. map slot_of (connection_in taken.publisher i new.publishers).borrowed) at_it)

    -- what else is borrowed is found as before
    found_by : (other : Taken) → (other.publisher ≡ taken.publisher) ⊎ (other.publisher ≢ taken.publisher)
        → (other.index ≡ taken.index) ⊎ (other.index ≢ taken.index)
        → is_same taken other ≡ false
        → borrowed_in other.slot (connection_in other.publisher other.index new.publishers)
        ≡ borrowed_in other.slot (connection_in other.publisher other.index old.publishers)
    found_by other (inr off) at_index apart =
        ap (λ (connection : Connection (Message T U)). borrowed_in other.slot connection)
        (connection_elsewhere other.publisher other.index off)
    found_by other (inl same) (inr off) apart =
        ap (find (λ (message : Message T U). message.slot == other.slot)) (borrowed_after other.publisher other.index same
        ∙ borrowed_elsewhere it.port taken.index taken.slot tidy it.counts once other.index off
        ∙ sym (borrowed_before other.publisher other.index same))
    found_by other (inl same) (inl at_it) apart =
        ap (find (λ (message : Message T U). message.slot == other.slot)) (borrowed_after other.publisher other.index same
        ∙ ap (λ i. (connection_of i back).borrowed) at_it
        ∙ borrowed_now it.port taken.index taken.slot tidy it.counts once)
        ∙ found_in_others slot_of taken.slot other.slot borrowed (λ slot. differ (sym (all_same slot) ∙ apart))
        ∙ ap (find (λ (message : Message T U). message.slot == other.slot)) (sym (borrowed_before other.publisher other.index same
        ∙ ap (λ i. (connection_of i it.port).borrowed) at_it))
      where
        all_same : other.slot ≡ taken.slot → is_same taken other ≡ true
        all_same slot =
            ap (λ b. (b && (other.index == taken.index)) && (other.slot == taken.slot)) (eq-eqb other.publisher taken.publisher same)
            ∙ ap (λ b. b && (other.slot == taken.slot)) (eq-eqb other.index taken.index at_it) ∙ eq-eqb other.slot taken.slot slot

    not_it : (other : Taken) → is_same taken other ≡ false → sample_as names new other ≡ sample_as names old other
    not_it other apart =
        ap (λ (found : Option (Message T U)). record {
          publisher = names.publisher other.publisher;
          subscriber = names.subscriber other.subscriber;
          message = record {
            number = names.message other.publisher other.slot;
            sequence = option_and_then (λ (message : Message T U). message.sequence) found;
            values = option_map_or (λ (message : Message T U). message.values) found [];
          };
        }) (sample_by other new
        ∙ found_by other (cases_eq other.publisher taken.publisher) (cases_eq other.index taken.index) apart ∙ sym (sample_by other old))

    counted : (other : ℕ) → (other ≡ taken.subscriber) ⊎ (other ≢ taken.subscriber)
        → samples_held_by other (removed sample held) ≡ held_at_port (subscriber_of other new.subscribers)
    counted other (inl same) =
        let one : ◌≡◌ {A = ℕ} (cond (taken.subscriber == taken.subscriber) 1 0) 1 = ap (λ b. cond b 1 0) itself in
        let before = stands.samples.counted taken.subscriber ∙ ap held_at_port it.reads in
        ap (λ n. samples_held_by n (removed sample held)) same ∙ omega (arith, one, one_less taken.subscriber, before)
        ∙ sym (ap (λ n. held_at_port (subscriber_of n new.subscribers)) same ∙ ap held_at_port now_reads)
    counted other (inr off) =
        let none : ◌≡◌ {A = ℕ} (cond (taken.subscriber == other) 1 0) 0 =
        ap (λ b. cond b 1 0) (ne_eqb taken.subscriber other (λ same. off (sym same))) in
        omega (arith, none, one_less other) ∙ stands.samples.counted other
        ∙ ap held_at_port (sym (other_found taken.subscriber other less old.subscribers off))

    samples_after : SamplesStandFor names new (removed sample held) (removed sample service.samples)
    samples_after = record {
      same = ap (removed sample) stands.samples.same
          ∙ samples_removed sample taken (sample_as names old) (sample_as names new) held not_it each_its;
      once = λ number. let before = stands.samples.once number in omega (arith, before, often_removed sample number held);
      all = λ other index. slots_after other index (cases_eq other taken.publisher) (cases_eq index taken.index);
      whose = All-filter (λ (entry : ℕ × Taken). not (entry.0 == sample))
          (λ (entry : ℕ × Taken). names.reader entry.1.publisher entry.1.index ≡ names.subscriber entry.1.subscriber) held
          stands.samples.whose;
      counted = λ other. counted other (cases_eq other taken.subscriber);
    }

    same_subscribers : AreButHeld old.subscribers new.subscribers
    same_subscribers other = ⊎_elim
        (λ same.
        ap (λ n. option_map (λ (port : SubscriberPort). record port { held = 0 }) (subscriber_of n new.subscribers)) same
        ∙ ap (option_map (λ (port : SubscriberPort). record port { held = 0 })) now_reads
        ∙ sym (ap (λ n. option_map (λ (port : SubscriberPort). record port { held = 0 }) (subscriber_of n old.subscribers)) same
        ∙ ap (option_map (λ (port : SubscriberPort). record port { held = 0 })) it.reads))
        (λ off. ap (option_map (λ (port : SubscriberPort). record port { held = 0 }))
        (other_found taken.subscriber other less old.subscribers off))
        (cases_eq other taken.subscriber)

    loans_after : LoansStandFor names new lent service.loans
    loans_after =
        let loans = loans_kept taken.publisher it.port back old it.there names lent service.loans refl stands.loans in
        record { same = loans.same; once = loans.once; all = loans.all }

    given_stands : StandsFor names lent (removed sample held) buffer new service_after
    given_stands =
        all_changed names names.message lent lent held (removed sample held) buffer old service taken.publisher it.port back was.0
        service.publishers service.loans (removed sample service.samples) service_after.mailboxes new.subscribers
        stands it.there (λ other off. refl) was.1 (λ other off. refl)
        (port_after it.port taken.index taken.slot tidy it.counts once (names.message taken.publisher) (names.reader taken.publisher)
        old.sizes.max_subscribers was.0 was.2)
        boxes_now (other_boxes gone.publisher gone.subscriber given service)
        (λ one other there. sym (same_boxes gone.publisher gone.subscriber given service (ap is_some box_there) one other) ∙ there)
        same_subscribers
        (λ other. subst (λ keys. how_often other keys ≤ 1) (sym (keys-set_value (at_number taken.subscriber) old.subscribers less))
        (stands.once_subscribers other))
        refl refl refl (stands.keyed taken.publisher it.port it.there) loans_after samples_after

    abbrev settled_ports : ServicePorts T U
    settled_ports = record new { publishers = publishers.settled taken.publisher new.publishers }

    abbrev final : ServicePorts T U
    final = record settled_ports { subscribers = subscribers.settled taken.subscriber new.subscribers }

    final_stands : StandsFor names lent (removed sample held) buffer final service_after
    final_stands =
        subscriber_settled names lent (removed sample held) buffer settled_ports service_after taken.subscriber less
        (settled_stands names lent (removed sample held) buffer new service_after taken.publisher back given_stands
        (tidy_after it.port taken.index taken.slot tidy it.counts once) now) now_reads

    -- the domain's release leads there
    abbrev place : ℕ
    place = position_or_len (λ (message : Message T U). message.slot == taken.slot) borrowed

    is_placed : place_of taken.slot (connection_in taken.publisher taken.index old.publishers) ≡ Some place
    is_placed =
        let found = borrowed_there taken.slot borrowed it.counts in
        ap (λ found. place_of taken.slot (connection_at_port taken.index found)) it.there
        ∙ placed (λ (message : Message T U). message.slot == taken.slot) borrowed found.0 found.1

    is_taker : taker_of taken.subscriber taken old.subscribers ≡ Some it.subscriber
    is_taker = ap (λ b. if b then subscriber_of taken.subscriber old.subscribers else None) itself ∙ it.reads

    leads : let_go taken.subscriber (record old { publishers = released taken.publisher taken.index (Some place) old.publishers }) ≡ final
    leads =
        ap (λ (found : Option SubscriberPort). record old {
          publishers = released taken.publisher taken.index (Some place) old.publishers;
          subscribers = subscribers.settled taken.subscriber (let_go_at taken.subscriber found old.subscribers);
        }) it.reads
        ∙ ap (λ (found : Option (PublisherPort T U)). record final {
          publishers = publishers.settled taken.publisher
              (changed_at_port taken.publisher (given_back_at taken.index (Some place)) found old.publishers);
        }) it.there

    call_is : (answer : Bool) (later : ServicePorts T U) → Releases taken.subscriber taken old answer later
        → (answer ≡ true) × (later ≡ final)
    call_is answer later call =
        let of_taker = subst (λ (taker : Option SubscriberPort). ReleasesOf taker taken.subscriber taken old answer later) is_taker call in
        let at_place = subst (λ (place : Option ℕ). ReleasesAt taken.subscriber taken place old answer later) is_placed of_taker in
        (at_place.0, at_place.1 ∙ leads)

  there : at sample service.samples ≡ Some (sample_as names old taken)
  there =
      ap (λ samples. at sample samples) stands.samples.same ∙ at_mapped (sample_as names old) sample held
      ∙ ap (option_map (sample_as names old)) goes

pub release_matches : (T U : Type 0) (choices : Choices T) → ReleaseMatches T U choices
release_matches T U choices types buffer names lent held old new service state sample taken answer stands sound goes call =
    let it = is_held names lent held buffer old service sample taken stands sound goes in
    let is = call_is names lent held buffer old service sample taken stands sound goes it answer new call in
    let after : Service T = service_after names lent held buffer old service sample taken stands sound goes it in
    rw is.0 (
      after,
      alone_does (λ (one : Service T). at sample one.samples)
          (λ (one : Sample T) (before : Service T) (answered : Reply T) (later : Service T).
          ports.Releases sample one before answered later)
          state service after reply.Done (sample_as names old taken)
          (there names lent held buffer old service sample taken stands sound goes) (refl, refl),
      subst (λ (ports : ServicePorts T U). StandsFor names lent (removed sample held) buffer ports after) (sym is.1)
          (final_stands names lent held buffer old service sample taken stands sound goes it),
    )
