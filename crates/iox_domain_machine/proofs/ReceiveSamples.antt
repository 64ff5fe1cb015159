-- One more sample gets a number, in a domain and in the machine.
use Rattle.std.proofs.Common.{◌≡◌, ◌≢◌, ◌≤◌, ◌⊎◌, ◌+◌, ◌∷◌, [], ◌++◌, ◌&&◌, ◌==◌, ℕ, Bool, true, false, cond, List, map, take, Option}
use Rattle.std.proofs.Common.{None, Some, refl, sym, ap, inl, inr, ◌∙◌, arith}
use Rattle.std.proofs.lemmas.Bool.{and_from, and_right, cases_eq, eq-eqb, eqb-false, ne_eqb}
use Rattle.std.proofs.lemmas.List.{append-nil, get_or-set_other, map-append}
use Rattle.std.proofs.lemmas.List.Elements.{All-append, All-cons, All-nil, filter-append}
use Rattle.std.proofs.lemmas.List.Sums.{sum_by-append}
use Rattle.std.specs.Map.{keys_of}
use Rattle.std.specs.Option.{option_map_or}
use Rattle.std.specs.Prelude.{filter, find, option_and_then}
use Rattle.iox_domain.proofs.BookedTakes.{taken_set}
use Rattle.iox_domain.proofs.DomainSlots.Counts.{one, one_same, times_append, times_cons}
use Rattle.iox_domain.proofs.Numbered.{at_number, same_set}
use Rattle.iox_domain.specs.DomainPorts.Messages.{Message}
use Rattle.iox_domain.specs.DomainPorts.Ports.{connection_of}
use Rattle.iox_domain.specs.DomainPorts.Publishers.{port_of, connection_in, connection_at_port}
use Rattle.iox_domain.specs.DomainPorts.Reading.{borrowed_in, taken_at}
use Rattle.iox_domain.specs.DomainPorts.declared.attached.Attached.{Attached}
use Rattle.iox_domain.specs.DomainPorts.declared.attached.Taken.{Taken}
use Rattle.iox_domain.specs.DomainPorts.declared.publisher_port.PublisherPort.{PublisherPort}
use Rattle.iox_domain.specs.DomainPorts.declared.subscriber_port.SubscriberPort.{SubscriberPort}
use Rattle.iox_domain.specs.DomainSlots.Counting.{times}
use Rattle.iox_domain.specs.DomainSlots.Uses.{Connection, held_by, nobody, taken}
use Rattle.iox_domain.specs.Subscribers.{subscriber_of, with_subscriber}
use Rattle.iox_domain.specs.Tries.{how_often}
use Rattle.iox_domain.specs.declared.ports.service_ports.ServicePorts.{ServicePorts}
use Rattle.iox_domain_machine.specs.Naming.{Naming, message_as}
use Rattle.iox_domain_machine.specs.Tables.{SamplesStandFor, sample_as, slots_held_of, samples_held_by, held_at_port}
use Rattle.iox_domain_machine.proofs.Changing.{with_one}
use Rattle.iox_domain_machine.proofs.Found.{other_found}
use Rattle.iox_domain_machine.proofs.Kept.{sample_by}
use Rattle.iox_domain_machine.proofs.LendingTables.{not_there, often_end}
use Rattle.iox_domain_machine.proofs.Reading.{is_of, counts_cons}
use Rattle.iox_domain_machine.proofs.ReleaseHeld.{is_same, misses}
use Rattle.iox_machine.specs.Message.{Sample}
use Rattle.iox_machine.specs.Table.{at}

module _ {T U : Type 0} where
  abbrev in_slot : ℕ → Message T U → Bool
  in_slot slot message = message.slot == slot

  -- a message after others is found where none of them is in its slot
  found_last : (slot : ℕ) (messages : List (Message T U)) (last : Message T U)
      → times slot (map (λ (message : Message T U). message.slot) messages) ≡ 0 → last.slot ≡ slot
      → find (in_slot slot) (messages ++ last ∷ []) ≡ Some last
  found_last slot [] last none same = ap (λ b. cond b (Some last) None) (eq-eqb last.slot slot same)
  found_last slot (first ∷ messages) last none same =
      let cons = times_cons slot first.slot (map (λ (message : Message T U). message.slot) messages) in
      let off : first.slot ≢ slot = λ it. absurd (omega (arith, none, cons, ap (one slot) it, one_same slot)) in
      ap (λ b. cond b (Some first) (find (in_slot slot) (messages ++ last ∷ []))) (ne_eqb first.slot slot off)
      ∙ found_last slot messages last (omega (arith, none, cons)) same

  -- and another is found as before
  found_before : (slot : ℕ) (messages : List (Message T U)) (last : Message T U) → (last.slot == slot) ≡ false
      → find (in_slot slot) (messages ++ last ∷ []) ≡ find (in_slot slot) messages
  found_before slot [] last off = ap (λ b. cond b (Some last) None) off
  found_before slot (first ∷ messages) last off =
      ap (λ more. cond (first.slot == slot) (Some first) more) (found_before slot messages last off)

-- what changes at a sample that none of these is changes none of them
kept_but : {W : Type 0} (taken : Taken) (f g : Taken → W) (held : List (ℕ × Taken))
    → times taken.slot (slots_held_of taken.publisher taken.index held) ≡ 0
    → ((other : Taken) → is_same taken other ≡ false → f other ≡ g other)
    → map {B = ℕ × W} (λ (entry : ℕ × Taken). (entry.0, f entry.1)) held
    ≡ map (λ (entry : ℕ × Taken). (entry.0, g entry.1)) held
kept_but taken f g [] none same = refl
kept_but {W} taken f g (entry ∷ held) none same =
    let cons = counts_cons taken entry held in
    ap (λ (w : W). (entry.0, w) ∷ map {B = ℕ × W} (λ (entry : ℕ × Taken). (entry.0, f entry.1)) held)
    (same entry.1 (misses (is_of taken entry.1) taken.slot entry.1.slot (omega (arith, none, cons))))
    ∙ ap (λ more. (entry.0, g entry.1) ∷ more) (kept_but taken f g held (omega (arith, none, cons)) same)

-- how the slots of a connection that are held end
held_end : (publisher index sample : ℕ) (taken : Taken) (held : List (ℕ × Taken)) (on : Bool)
    → ((taken.publisher == publisher) && (taken.index == index)) ≡ on
    → slots_held_of publisher index (held ++ (sample, taken) ∷ []) ≡ slots_held_of publisher index held ++ cond on (taken.slot ∷ []) []
held_end publisher index sample taken held on is =
    let test : ℕ × Taken → Bool = λ entry. (entry.1.publisher == publisher) && (entry.1.index == index) in
    ap (map (λ (entry : ℕ × Taken). entry.1.slot)) (filter-append test held ((sample, taken) ∷ []))
    ∙ map-append (λ (entry : ℕ × Taken). entry.1.slot) (filter test held) (filter test ((sample, taken) ∷ []))
    ∙ ap (λ more. slots_held_of publisher index held ++ more) (by on is)
  where
    by : (on : Bool) → ((taken.publisher == publisher) && (taken.index == index)) ≡ on
        → map (λ (entry : ℕ × Taken). entry.1.slot)
        (cond ((taken.publisher == publisher) && (taken.index == index)) ((sample, taken) ∷ []) [])
        ≡ cond on (taken.slot ∷ []) []
    by true is = ap (λ b. map (λ (entry : ℕ × Taken). entry.1.slot) (cond b ((sample, taken) ∷ []) [])) is
    by false is = ap (λ b. map (λ (entry : ℕ × Taken). entry.1.slot) (cond b ((sample, taken) ∷ []) [])) is

-- a subscriber that holds one sample more
abbrev pub holding_one_more : SubscriberPort → SubscriberPort
holding_one_more port = record port { held = port.held + 1 }

-- the sample that a message of a connection is once a subscriber took it
abbrev pub taken_as : {T U : Type 0} → ℕ → Attached → Message T U → Taken
taken_as number giver message =
    record { subscriber = number; publisher = giver.publisher; index = giver.index; slot = message.slot }

-- and that of the machine
abbrev pub received_as : {T U : Type 0} → Naming → ℕ → Attached → Message T U → Sample T
received_as names number giver message = record {
  publisher = names.publisher giver.publisher;
  subscriber = names.subscriber number;
  message = message_as (names.message giver.publisher) message;
}

-- the ports after a subscriber took the oldest message of a connection
abbrev pub after_taking : {T U : Type 0} → ℕ → SubscriberPort → Attached → PublisherPort T U → ServicePorts T U → ServicePorts T U
after_taking number port giver publisher old =
    record (with_one giver.publisher (taken_at giver.index publisher) old) {
      subscribers = with_subscriber number old.subscribers (holding_one_more port);
    }

module _ {T U : Type 0} (names : Naming) (held : List (ℕ × Taken)) (old : ServicePorts T U) (samples : List (ℕ × Sample T)) (sample : ℕ)
    (giver : Attached) (publisher : PublisherPort T U) (number : ℕ) (port : SubscriberPort) (message : Message T U)
    (more : List (Message T U)) (stands : SamplesStandFor names old held samples)
    (there : port_of giver.publisher old.publishers ≡ Some publisher) (found : subscriber_of number old.subscribers ≡ Some port)
    (waits : (connection_of giver.index publisher).waiting ≡ message ∷ more)
    (once : times message.slot (map (λ (message : Message T U). message.slot) (held_by (connection_of giver.index publisher))) ≤ 1)
    (free : at sample held ≡ None) (reads : names.reader giver.publisher giver.index ≡ names.subscriber number) where
  abbrev slot_of : Message T U → ℕ
  slot_of message = message.slot

  abbrev was : Connection (Message T U)
  was = connection_of giver.index publisher

  abbrev came : Taken
  came = taken_as number giver message

  abbrev after : PublisherPort T U
  after = taken_at giver.index publisher

  abbrev holder : SubscriberPort
  holder = holding_one_more port

  abbrev new : ServicePorts T U
  new = after_taking number port giver publisher old

  now : port_of giver.publisher new.publishers ≡ Some after
  now = same_set (at_number giver.publisher) old.publishers after publisher there

  now_found : subscriber_of number new.subscribers ≡ Some holder
  now_found = same_set (at_number number) old.subscribers holder port found

  none_borrowed : times message.slot (map slot_of was.borrowed) ≡ 0
  none_borrowed = omega (
    arith,
    once,
    ap (times message.slot) (map-append slot_of was.waiting was.borrowed),
    times_append message.slot (map slot_of was.waiting) (map slot_of was.borrowed),
    ap (λ all. times message.slot (map slot_of all)) waits,
    times_cons message.slot message.slot (map slot_of more),
    one_same message.slot,
  )

  none_held : times message.slot (slots_held_of giver.publisher giver.index held) ≡ 0
  none_held =
      ap (times message.slot) (stands.all giver.publisher giver.index
      ∙ ap (λ found. map slot_of (connection_at_port giver.index found).borrowed) there)
      ∙ none_borrowed

  here_now : connection_in giver.publisher giver.index new.publishers ≡ taken was
  here_now =
      ap (λ found. connection_at_port giver.index found) now ∙ taken_set publisher.sender.uses.connections giver.index

  borrowed_now : (connection_in giver.publisher giver.index new.publishers).borrowed ≡ was.borrowed ++ message ∷ []
  borrowed_now =
      ap (λ (connection : Connection (Message T U)). connection.borrowed) here_now
      ∙ ap (λ (waiting : List (Message T U)). was.borrowed ++ take 1 waiting) waits

  connection_elsewhere : (other index : ℕ) → other ≢ giver.publisher
      → connection_in other index new.publishers ≡ connection_in other index old.publishers
  connection_elsewhere other index off =
      ap (λ found. connection_at_port index found) (other_found giver.publisher other after old.publishers off)

  connection_beside : (index : ℕ) → index ≢ giver.index
      → connection_in giver.publisher index new.publishers ≡ connection_in giver.publisher index old.publishers
  connection_beside index off =
      ap (λ found. connection_at_port index found) now
      ∙ get_or-set_other publisher.sender.uses.connections giver.index index (taken was) nobody off
      ∙ sym (ap (λ found. connection_at_port index found) there)

  is_another : (other : Taken) → other.publisher ≡ giver.publisher → other.index ≡ giver.index → is_same came other ≡ false
      → (message.slot == other.slot) ≡ false
  is_another other same at_it apart =
      let off : (other.slot == message.slot) ≡ false =
      sym (ap (λ b. (b && (other.index == giver.index)) && (other.slot == message.slot)) (eq-eqb other.publisher giver.publisher same)
      ∙ ap (λ b. b && (other.slot == message.slot)) (eq-eqb other.index giver.index at_it)) ∙ apart in
      ne_eqb message.slot other.slot (λ is. eqb-false other.slot message.slot off (sym is))

  found_by : (other : Taken) → (other.publisher ≡ giver.publisher) ⊎ (other.publisher ≢ giver.publisher)
      → (other.index ≡ giver.index) ⊎ (other.index ≢ giver.index) → is_same came other ≡ false
      → borrowed_in other.slot (connection_in other.publisher other.index old.publishers)
      ≡ borrowed_in other.slot (connection_in other.publisher other.index new.publishers)
  found_by other (inr off) at_index apart =
      ap (borrowed_in other.slot) (sym (connection_elsewhere other.publisher other.index off))
  found_by other (inl same) (inr off) apart =
      ap (λ n. borrowed_in other.slot (connection_in n other.index old.publishers)) same
      ∙ ap (borrowed_in other.slot) (sym (connection_beside other.index off))
      ∙ sym (ap (λ n. borrowed_in other.slot (connection_in n other.index new.publishers)) same)
  found_by other (inl same) (inl at_it) apart =
      ap (λ n. borrowed_in other.slot (connection_in n other.index old.publishers)) same
      ∙ ap (λ i. borrowed_in other.slot (connection_in giver.publisher i old.publishers)) at_it
      ∙ ap (λ found. borrowed_in other.slot (connection_at_port giver.index found)) there
      ∙ sym (found_before other.slot was.borrowed message (is_another other same at_it apart))
      ∙ ap (find (in_slot other.slot)) (sym borrowed_now)
      ∙ sym (ap (λ n. borrowed_in other.slot (connection_in n other.index new.publishers)) same
      ∙ ap (λ i. borrowed_in other.slot (connection_in giver.publisher i new.publishers)) at_it)

  abbrev with_values : Taken → Option (Message T U) → Sample T
  with_values taken found = record {
    publisher = names.publisher taken.publisher;
    subscriber = names.subscriber taken.subscriber;
    message = record {
      number = names.message taken.publisher taken.slot;
      sequence = option_and_then (λ (message : Message T U). message.sequence) found;
      values = option_map_or (λ (message : Message T U). message.values) found [];
    };
  }

  not_it : (other : Taken) → is_same came other ≡ false → sample_as names old other ≡ sample_as names new other
  not_it other apart =
      ap (with_values other) (sample_by other old
      ∙ found_by other (cases_eq other.publisher giver.publisher) (cases_eq other.index giver.index) apart ∙ sym (sample_by other new))

  abbrev received : Sample T
  received = received_as names number giver message

  received_is : sample_as names new came ≡ received
  received_is =
      ap (with_values came) (sample_by came new ∙ ap (find (in_slot message.slot)) borrowed_now
      ∙ found_last message.slot was.borrowed message none_borrowed refl)

  slots_after : (other index : ℕ) → (other ≡ giver.publisher) ⊎ (other ≢ giver.publisher) → (index ≡ giver.index) ⊎ (index ≢ giver.index)
      → slots_held_of other index (held ++ (sample, came) ∷ []) ≡ map slot_of (connection_in other index new.publishers).borrowed
  slots_after other index (inr off) at_index =
      held_end other index sample came held false
      (ap (λ b. b && (giver.index == index)) (ne_eqb giver.publisher other (λ same. off (sym same))))
      ∙ append-nil (slots_held_of other index held) ∙ stands.all other index
      ∙ ap (λ (connection : Connection (Message T U)). map slot_of connection.borrowed) (sym (connection_elsewhere other index off))
  slots_after other index (inl same) (inr off) =
      held_end other index sample came held false
      (and_right (giver.publisher == other) (giver.index == index) (ne_eqb giver.index index (λ at_it. off (sym at_it))))
      ∙ append-nil (slots_held_of other index held) ∙ stands.all other index
      ∙ ap (λ n. map slot_of (connection_in n index old.publishers).borrowed) same
      ∙ ap (λ (connection : Connection (Message T U)). map slot_of connection.borrowed) (sym (connection_beside index off))
      ∙ sym (ap (λ n. map slot_of (connection_in n index new.publishers).borrowed) same)
  slots_after other index (inl same) (inl at_it) =
      held_end other index sample came held true
      (and_from (giver.publisher == other) (giver.index == index) (eq-eqb giver.publisher other (sym same))
      (eq-eqb giver.index index (sym at_it)))
      ∙ ap (λ all. all ++ message.slot ∷ []) (stands.all other index
      ∙ ap (λ n. map slot_of (connection_in n index old.publishers).borrowed) same
      ∙ ap (λ i. map slot_of (connection_in giver.publisher i old.publishers).borrowed) at_it
      ∙ ap (λ found. map slot_of (connection_at_port giver.index found).borrowed) there)
      ∙ sym (map-append slot_of was.borrowed (message ∷ [])) ∙ ap (map slot_of) (sym borrowed_now)
      ∙ sym (ap (λ n. map slot_of (connection_in n index new.publishers).borrowed) same
      ∙ ap (λ i. map slot_of (connection_in giver.publisher i new.publishers).borrowed) at_it)

  once_by : (other : ℕ) → (other ≡ sample) ⊎ (other ≢ sample) → how_often other (keys_of (held ++ (sample, came) ∷ [])) ≤ 1
  once_by other (inl same) =
      let none : how_often other (keys_of held) ≡ 0 = ap (λ n. how_often n (keys_of held)) same ∙ not_there sample held free in
      omega (arith, none, often_end other held (sample, came), ap (λ n. one n sample) same, one_same sample)
  once_by other (inr off) =
      let none : one other sample ≡ 0 = ap (λ b. cond b 1 0) (ne_eqb other sample off) in
      let before = stands.once other in
      omega (arith, none, before, often_end other held (sample, came))

  counted_by : (other : ℕ) → (other ≡ number) ⊎ (other ≢ number)
      → samples_held_by other (held ++ (sample, came) ∷ []) ≡ held_at_port (subscriber_of other new.subscribers)
  counted_by other at_it =
      sum_by-append (λ (entry : ℕ × Taken). cond (entry.1.subscriber == other) 1 0) held ((sample, came) ∷ []) ∙ by at_it
    where
      by : (other ≡ number) ⊎ (other ≢ number)
          → samples_held_by other held + samples_held_by other ((sample, came) ∷ []) ≡ held_at_port (subscriber_of other new.subscribers)
      by (inl same) =
          let counted : ◌≡◌ {A = ℕ} (cond (number == other) 1 0) 1 = ap (λ b. cond b 1 0) (eq-eqb number other (sym same)) in
          omega (
            arith,
            counted,
            stands.counted other,
            ap (λ n. held_at_port (subscriber_of n old.subscribers)) same ∙ ap held_at_port found,
            ap (λ n. held_at_port (subscriber_of n new.subscribers)) same ∙ ap held_at_port now_found,
          )
      by (inr off) =
          let none : ◌≡◌ {A = ℕ} (cond (number == other) 1 0) 0 = ap (λ b. cond b 1 0) (ne_eqb number other (λ same. off (sym same))) in
          omega (
            arith,
            none,
            stands.counted other,
            ap held_at_port (other_found number other holder old.subscribers off),
          )

  pub samples_after : SamplesStandFor names new (held ++ (sample, came) ∷ []) (samples ++ (sample, received) ∷ [])
  samples_after = record {
    same = ap (λ all. all ++ (sample, received) ∷ []) (stands.same ∙ kept_but came (sample_as names old) (sample_as names new) held
        none_held not_it)
        ∙ ap (λ (one : Sample T). map (λ (entry : ℕ × Taken). (entry.0, sample_as names new entry.1)) held ++ (sample, one) ∷ [])
        (sym received_is)
        ∙ sym (map-append (λ (entry : ℕ × Taken). (entry.0, sample_as names new entry.1)) held ((sample, came) ∷ []));
    once = λ other. once_by other (cases_eq other sample);
    all = λ other index. slots_after other index (cases_eq other giver.publisher) (cases_eq index giver.index);
    whose = All-append (λ (entry : ℕ × Taken). names.reader entry.1.publisher entry.1.index ≡ names.subscriber entry.1.subscriber) held
        ((sample, came) ∷ []) stands.whose
        (All-cons (λ (entry : ℕ × Taken). names.reader entry.1.publisher entry.1.index ≡ names.subscriber entry.1.subscriber) (sample, came)
        [] reads (All-nil _));
    counted = λ other. counted_by other (cases_eq other number);
  }
