-- The sequence numbers of what lanes find to wait are those that wait in the domain.
use Rattle.std.proofs.Common.{ℕ, zero, suc, ◌≡◌, ◌+◌, ◌-◌, ◌<◌, ◌==◌, ◌&&◌, Bool, true, false, nat_le, List, [], ◌∷◌}
use Rattle.std.proofs.Common.{length}
use Rattle.std.proofs.Common.{map, get_or, slice_get, is_some, unwrap_or, if◌then◌else◌, Option, Some, None}
use Rattle.std.proofs.Common.{refl, sym, ◌∙◌, ap, subst, arith}
use Rattle.std.proofs.lemmas.Bool.{eqb-true, lt-ltb}
use Rattle.std.proofs.lemmas.List.Elements.{All-head, All-tail}
use Rattle.std.specs.Bool.{beq}
use Rattle.std.specs.List.{All}
use Rattle.std.specs.Option.{option_map_or}
use Rattle.iox_domain.specs.DomainValues.declared.backpressure.BackpressureDecision.{BackpressureDecision}
use Rattle.iox_domain.specs.DomainPorts.Messages.{Message}
use Rattle.iox_domain.specs.DomainPorts.Places.{leads_to}
use Rattle.iox_domain.specs.DomainPorts.Ports.{connection_of, goes_on, is_live}
use Rattle.iox_domain.specs.DomainPorts.declared.publisher_port.PublisherPort.{PublisherPort}
use Rattle.iox_domain.specs.DomainPorts.declared.reader.Reader.{Reader}
use Rattle.iox_domain.specs.Order.{leads_at}
use Rattle.iox_domain.specs.declared.domain.Domain.{Domain}
use Rattle.iox_domain.specs.declared.ports.service_ports.ServicePorts.{ServicePorts}
use Rattle.iox_lanes.proofs.Presence.{both, not_no}
use Rattle.iox_lanes.proofs.Tied.{goes_there}
use Rattle.iox_lanes.specs.Holding.{LanesHold}
use Rattle.iox_lanes.specs.Lying.{IsLaidAt}
use Rattle.iox_lanes.specs.Spelling.{Spelling, spelling_of}
use Rattle.iox_lanes.specs.Tied.{tie_for}
use Rattle.iox_lanes_laws.proofs.Founds.{found_held}
use Rattle.iox_lanes_laws.proofs.HaveNumbers.{orders_have_numbers}
use Rattle.iox_lanes_laws.specs.HaveNumbers.{HasNumber}
use Rattle.iox_lanes_laws.specs.Messages.{MessageState}
use Rattle.iox_lanes_laws.specs.Numbered.{found_messages, last_number, number_by, was_sent_by}
use Rattle.iox_lanes_laws.specs.Sequences.{GoUpTo, sequence_of, sequence_under, sequences_found}
use Rattle.iox_lanes_machine.proofs.Ends.{some_is}
use Rattle.iox_lanes_machine.proofs.LanesParties.Rings.{all_at}
use Rattle.iox_lanes_machine.proofs.Mailboxes.{order_there}
use Rattle.iox_lanes_machine.proofs.Paces.{came_kept}
use Rattle.iox_lanes_machine.proofs.Start.{listed_get}
use Rattle.iox_lanes_machine.specs.Held.{extent_of, slot_held}
use Rattle.iox_lanes_machine.specs.Kept.{IsKept}
use Rattle.iox_lanes_machine.specs.LanesBase.Subscribing.{word_at}
use Rattle.iox_lanes_machine.specs.LanesBase.Table.{TableWords, held_by}
use Rattle.iox_lanes_machine.specs.LanesBase.declared.words.word.SharedWord.TheVariants.{Slot}
use Rattle.iox_lanes_machine.specs.LanesBase.declared.words.word.SlotWord.TheVariants.{Payload, UserHeader}
use Rattle.iox_lanes_machine.specs.Reads.{width}
use Rattle.iox_lanes_machine.specs.WholeReads.{CameTo}
use Rattle.iox_lanes_machine.specs.World.{World}
use Rattle.iox_lanes_opening.specs.Refusals.{first_reason}
use Rattle.iox_lanes_opening.specs.UpToDate.{is_reader}
use Rattle.iox_lanes_sound.proofs.Having.{beq_same, some_middle, well_numbered}
use Rattle.iox_lanes_sound.proofs.Joints.{joint, laid, sender_at}
use Rattle.iox_lanes_sound.specs.Sequences.{SequencesFound, SequencesWait, waiting_sequences}

-- the message of a slot's number is one of the slot
one_of_slot : (messages : List MessageState) (slot moment many number : ℕ) → last_number messages slot moment many ≡ Some number
    → (message : MessageState) × (slice_get messages number ≡ Some message) × (message.slot ≡ slot)
one_of_slot messages slot moment zero number is = absurd (cc is)
one_of_slot messages slot moment (suc many) number is =
    by (was_sent_by slot moment (slice_get messages many)) refl is (one_of_slot messages slot moment many number)
  where
    of : (found : Option MessageState) → slice_get messages many ≡ found → was_sent_by slot moment found ≡ true → many ≡ number
        → (message : MessageState) × (slice_get messages number ≡ Some message) × (message.slot ≡ slot)
    of None there sent same = absurd (cc sent)
    of (Some message) there sent same = (
      message,
      ap (slice_get messages) (sym same) ∙ there,
      eqb-true message.slot slot (both (message.slot == slot) (nat_le message.moment moment) sent).0,
    )

    by : (b : Bool) → was_sent_by slot moment (slice_get messages many) ≡ b
        → (if b then Some many else last_number messages slot moment many) ≡ Some number
        → (last_number messages slot moment many ≡ Some number
        → (message : MessageState) × (slice_get messages number ≡ Some message) × (message.slot ≡ slot))
        → (message : MessageState) × (slice_get messages number ≡ Some message) × (message.slot ≡ slot)
    by true sent last rest = of (slice_get messages many) refl sent (some_is many number last)
    by false sent last rest = rest last

-- the fourth word of a slot is the first one after its header, if there is one
fourth_held : (table : TableWords) (slot : ℕ) → 0 < table.sizes.user_header_words
    → get_or (slot_held table slot) 3 0 ≡ held_by table (Slot slot (UserHeader 0))
fourth_held table slot some =
    listed_get (λ word. held_by table (Slot slot (word_at (extent_of table.sizes) word))) (width table.sizes) 3 0 (omega (arith, some))
    ∙ ap (λ (b : Bool). held_by table (Slot slot (if b then UserHeader 0 else Payload (3 - 3 - table.sizes.user_header_words))))
    (lt-ltb 0 table.sizes.user_header_words some)

-- so by its number a slot has the sequence number of its message
sequence_held : (m : World) (slot : ℕ) → 0 < m.table.sizes.user_header_words → HasNumber (found_messages m) 0 slot
    → sequence_under (found_messages m) (number_by (found_messages m) 0 slot) ≡ held_by m.table (Slot slot (UserHeader 0))
sequence_held m slot some have =
    let number : ℕ = have.0 in
    let (message, there, same) = one_of_slot (found_messages m) slot 0 (length (found_messages m)) number have.1 in
    let words : message.words ≡ slot_held m.table message.slot =
    all_at (λ (one : MessageState). one.words ≡ slot_held m.table one.slot) (found_messages m) number message there (found_held m) in
    ap (λ (o : Option ℕ). sequence_under (found_messages m) (unwrap_or o 0)) have.1
    ∙ sequence_is number message there
    ∙ ap (λ (ws : List ℕ). get_or ws 3 0) (words ∙ ap (slot_held m.table) same)
    ∙ fourth_held m.table slot some
  where
    sequence_is : (number : ℕ) (message : MessageState) → slice_get (found_messages m) number ≡ Some message
        → sequence_under (found_messages m) number ≡ sequence_of message
    sequence_is number message there = ap (λ (o : Option MessageState). option_map_or sequence_of o 0) there

module _ {T U B D : Type 0} (decision : B → Option BackpressureDecision) (asks : D → Bool) (payload_words : T
    → List ℕ) (header_words : U → List ℕ)
    (payload_count header_count : ℕ) (domain : Domain T U B D) (none : first_reason decision asks domain ≡ None)
    (m : World) (came : CameTo m) (senders readers indices : List ℕ)
    (h : LanesHold (spelling_of domain.state.ports.sizes.sequence_numbers payload_words payload_count header_words header_count) domain m
    senders readers indices) where
  abbrev ports : ServicePorts T U
  ports = domain.state.ports

  abbrev spelling : Bool → Spelling T U
  spelling numbered = spelling_of numbered payload_words payload_count header_words header_count

  kept : IsKept m
  kept = (came_kept m came).0

  -- what is laid has the sequence numbers of its messages
  laid_sequences : (numbered : Bool) → numbered ≡ true → 0 < m.table.sizes.user_header_words → (first : ℕ) (port : PublisherPort T U)
      (slots : List ℕ) (messages : List (Message T U)) → length slots ≡ length messages
      → ((place : ℕ) → IsLaidAt (spelling numbered) m.table first port (slice_get slots place) (slice_get messages place))
      → All (HasNumber (found_messages m) 0) slots
      → map (sequence_under (found_messages m)) (map (number_by (found_messages m) 0) slots)
      ≡ map (λ (message : Message T U). unwrap_or message.sequence 0) messages
  laid_sequences false not some first port slots messages many each have = absurd (cc not)
  laid_sequences true agreed some first port [] [] many each have = refl
  laid_sequences true agreed some first port [] (message ∷ messages) many each have = absurd (omega (arith, many))
  laid_sequences true agreed some first port (slot ∷ slots) [] many each have = absurd (omega (arith, many))
  laid_sequences true agreed some first port (slot ∷ slots) (message ∷ messages) many each have =
      let here = each 0 in
      let same : slot ≡ first + message.slot = some_is slot (first + message.slot) here.0 in
      let sequence : held_by m.table (Slot slot (UserHeader 0)) ≡ unwrap_or message.sequence 0 =
      ap (λ k. held_by m.table (Slot k (UserHeader 0))) same ∙ (here.1).1 0 some in
      ap (λ k. k ∷ map (sequence_under (found_messages m)) (map (number_by (found_messages m) 0) slots))
      (sequence_held m slot some (All-head (HasNumber (found_messages m) 0) slot slots have) ∙ sequence)
      ∙ ap (λ rest. unwrap_or message.sequence 0 ∷ rest)
      (laid_sequences true agreed some first port slots messages (omega (arith, many)) (λ place. each (suc place))
      (All-tail (HasNumber (found_messages m) 0) slot slots have))

  leads_so : (reader index : ℕ) (port : PublisherPort T U) (to : Option Reader) → get_or port.readers index None ≡ to
      → is_reader reader to ≡ true → is_live index port ≡ true → leads_at index reader port ≡ true
  leads_so reader index port None there reads live = absurd (cc reads)
  leads_so reader index port (Some to) there reads live =
      ap (λ b. b && leads_to reader (get_or port.readers index None)) live
      ∙ ap (leads_to reader) there
      ∙ (both (to.subscriber == reader) to.attached reads).0

  pub found_go_up : SequencesWait ports → SequencesFound m (found_messages m)
  found_go_up wait = λ connection last link lane there got is.
      let j = joint (spelling ports.sizes.sequence_numbers) domain m senders readers indices h connection link there in
      let l = laid (spelling ports.sizes.sequence_numbers) domain m senders readers indices h link.publisher lane got in
      let same_port : l.port ≡ j.port = some_is l.port j.port (sym l.found ∙ j.found) in
      let last_is : j.port.last_sequence ≡ Some last =
      ap (λ (p : PublisherPort T U). p.last_sequence) (sym same_port) ∙ sym (l.is).last ∙ is in
      let numbered : ports.sizes.sequence_numbers ≡ true =
      sym (beq_same (is_some j.port.last_sequence) ports.sizes.sequence_numbers
      (not_no (beq (is_some j.port.last_sequence) ports.sizes.sequence_numbers)
      (well_numbered decision asks domain none (get_or senders link.publisher 0) j.port j.found).0)) ∙ ap is_some last_is in
      let some : 0 < m.table.sizes.user_header_words = subst (λ n. 0 < n) (sym h.user_header)
      (some_middle ports.sizes.sequence_numbers header_count numbered) in
      let goes = goes_there decision asks domain none link.publisher (get_or senders link.publisher 0) (get_or readers link.subscriber 0)
      j.port j.reader
      (ap (λ numbers. slice_get numbers link.publisher) (sym h.publishers)
      ∙ sender_at (spelling ports.sizes.sequence_numbers) domain m senders readers indices h link.publisher j.from) j.found j.read in
      let index_is : tie_for j.port (Some j.reader) ≡ j.index = some_is (tie_for j.port (Some j.reader)) j.index (sym goes.0 ∙ j.tie) in
      let leads : leads_at (tie_for j.port (Some j.reader)) (get_or readers link.subscriber 0) j.port ≡ true =
      leads_so (get_or readers link.subscriber 0) (tie_for j.port (Some j.reader)) j.port
      (get_or j.port.readers (tie_for j.port (Some j.reader)) None) refl goes.2 (ap goes_on goes.1) in
      let have = (orders_have_numbers (record { lanes = m; messages = found_messages m }) [] 0
      (record { lanes = m; messages = found_messages m }) came h.moments refl (refl, refl) (omega (arith, h.moments)) connection link
      (get_or m.orders connection []) there (order_there m connection link kept there)).0 in
      let same : sequences_found (found_messages m) link ≡ waiting_sequences j.index j.port =
      laid_sequences ports.sizes.sequence_numbers numbered some j.lane.port.book.first j.port link.found
      (connection_of j.index j.port).waiting j.waits.as_many j.waits.each have in
      subst (λ (xs : List ℕ). GoUpTo 0 xs last) (sym same)
      (wait (get_or senders link.publisher 0) last j.index (get_or readers link.subscriber 0) j.port j.found last_is
      (ap (λ k. leads_at k (get_or readers link.subscriber 0) j.port) (sym index_is) ∙ leads))
