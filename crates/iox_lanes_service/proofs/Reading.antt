-- A read that no other call overlaps is one of the machine.
use Rattle.std.proofs.Common.{ℕ, ◌≡◌, ◌+◌, ◌-◌, ◌<◌, ◌≤◌, Bool, true, false, if◌then◌else◌, List, [], ◌∷◌, ◌++◌, length, drop, map, get_or}
use Rattle.std.proofs.Common.{slice_get, Option, Some, refl, sym, ◌∙◌, ap, subst, nat_lt, arith, length-drop}
use Rattle.std.proofs.lemmas.Bool.{lt-ltb}
use Rattle.std.specs.Prelude.{option_map}
use Rattle.std.specs.Global.{Vec}
use Rattle.std.specs.Vec.{vec_items}
use Rattle.std.proofs.lemmas.List.{ext_get_or, get_or-drop}
use Rattle.iox_command.specs.NegotiateBase.DescribeBase.declared.message_type.MessageTypeDetails.{MessageTypeDetails}
use Rattle.iox_command.specs.declared.reply.Reply.{Reply}
use Rattle.iox_command.specs.declared.reply.Reply.TheVariants as reply
use Rattle.iox_lanes_machine.specs.LanesBase.Table.{TableWords, held_by}
use Rattle.iox_lanes_machine.specs.LanesBase.declared.words.word.SharedWord.TheVariants.{Slot}
use Rattle.iox_lanes_machine.specs.LanesBase.declared.words.word.SlotWord.{SlotWord}
use Rattle.iox_lanes_machine.specs.LanesBase.declared.words.word.SlotWord.TheVariants.{Payload, UserHeader}
use Rattle.iox_lanes_machine.specs.LanesBase.Subscribing.{word_at}
use Rattle.iox_lanes_machine.specs.LanesParties.Parties.{SubscriberLaneState, name_of}
use Rattle.iox_lanes_machine.specs.LanesParties.declared.call.Call.TheVariants as call
use Rattle.iox_lanes_machine.specs.LanesParties.declared.call.CallName.TheVariants as name
use Rattle.iox_lanes_machine.specs.Held.{extent_of, slot_held}
use Rattle.iox_lanes_machine.specs.Links.{LinkState}
use Rattle.iox_lanes_machine.specs.LedgerUses.{count, one_if}
use Rattle.iox_lanes_machine.specs.Reads.{width}
use Rattle.iox_lanes_machine.specs.World.{World}
use Rattle.iox_lanes_machine.proofs.Start.{listed_get, listed_length}
use Rattle.iox_lanes_laws.specs.Messages.{payload_held}
use Rattle.iox_lanes_laws.specs.Subscribing.{OnlySubscriber, SamplesStay}
use Rattle.iox_lanes_laws.specs.Turns.{MailStays}
use Rattle.iox_lanes_machine.specs.Resting.{mail_at}
use Rattle.iox_lanes_laws.proofs.Ends.{subscriber_there}
use Rattle.iox_lanes_laws.proofs.Samples.{reads_in_turn}
use Rattle.iox_lanes_laws.proofs.Words.{at_payload}
use Rattle.iox_lanes_service.specs.Laws.{NumbersAreTold, ReadsAreSteps, payload_read, sequence_read}
use Rattle.iox_lanes_service.specs.Naming.{LaneNaming, LaneLoan, LaneSample, sample_by_numbers, lane_mailbox, slots_held_over, slot_message}
use Rattle.iox_lanes_service.specs.Naming.{slot_sequence}
use Rattle.iox_lanes_service.specs.Standing.{LanesStandFor}
use Rattle.iox_lanes_service.proofs.Beside.{one_does}
use Rattle.iox_lanes_service.proofs.Carrying.{SameReader, same_reader}
use Rattle.iox_lanes_service.proofs.Holding.{borrows_stay, mail_messages, over_messages, sample_entries}
use Rattle.iox_lanes_service.proofs.Subscribing.{ReaderCall, reader_call, carried}
use Rattle.iox_lanes_service.proofs.Tables.{at_mapped}
use Rattle.iox_lanes_service.proofs.Used.{held_borrowed}
use Rattle.iox_machine.specs.Choices.{Choices}
use Rattle.iox_machine.specs.Message.{Sample}
use Rattle.iox_machine.specs.Service.{Service, Subscriber as Reader}
use Rattle.iox_machine.specs.Table.{at}

-- the payload of a slot is what lies after its header and user header
abbrev head_width : TableWords → ℕ
head_width table = 3 + table.sizes.user_header_words

abbrev word_of : TableWords → ℕ → ℕ → ℕ
word_of table slot word = held_by table (Slot slot (word_at (extent_of table.sizes) word))

pub payload_behind : (table : TableWords) (slot : ℕ)
    → drop (3 + table.sizes.user_header_words) (slot_held table slot) ≡ payload_held table slot
payload_behind table slot =
    ext_get_or 0 (drop (head_width table) (slot_held table slot)) (payload_held table slot)
    (omega (
      arith,
      length-drop (head_width table) (slot_held table slot),
      listed_length (word_of table slot) (width table.sizes),
      listed_length (λ w. held_by table (Slot slot (Payload w))) table.sizes.payload_words,
    ))
    (λ i below.
    let within : i < table.sizes.payload_words = omega (
      arith,
      below,
      length-drop (head_width table) (slot_held table slot),
      listed_length (word_of table slot) (width table.sizes),
    ) in
    get_or-drop (head_width table) (slot_held table slot) i 0
    ∙ listed_get (word_of table slot) (width table.sizes) (head_width table + i) 0 (omega (arith, within))
    ∙ ap (λ (w : SlotWord). held_by table (Slot slot w))
    (at_payload table.sizes (head_width table + i) (nat_lt (head_width table + i) 3)
    (nat_lt (head_width table + i - 3) table.sizes.user_header_words) refl refl
    (omega arith))
    ∙ ap (λ (w : ℕ). held_by table (Slot slot (Payload w))) (omega arith)
    ∙ sym (listed_get (λ w. held_by table (Slot slot (Payload w))) table.sizes.payload_words i 0 within))

behind : (xs ys : List ℕ) → drop (length xs) (xs ++ ys) ≡ ys
behind [] ys = refl
behind (x ∷ xs) ys = behind xs ys

-- so the payload that a read gave is that of its slot
pub payload_given : (m n : World) (slot : ℕ) → n.read ≡ m.read ++ slot_held m.table slot → payload_read m n ≡ payload_held m.table slot
payload_given m n slot e =
    ap (λ (words : List ℕ). drop (3 + m.table.sizes.user_header_words) (drop (length m.read) words)) e
    ∙ ap (drop (3 + m.table.sizes.user_header_words)) (behind m.read (slot_held m.table slot))
    ∙ payload_behind m.table slot

-- and the number that it gave is the one in the header of its slot, where headers have a word for it
pub sequence_given : (numbered : Bool) (m n : World) (slot : ℕ) → (numbered ≡ true → 1 ≤ m.table.sizes.user_header_words)
    → n.read ≡ m.read ++ slot_held m.table slot → sequence_read numbered m n ≡ slot_sequence numbered m.table slot
sequence_given false m n slot wide e = refl
sequence_given true m n slot wide e =
    ap (λ (words : List ℕ). Some (get_or (drop (length m.read) words) 3 0)) e
    ∙ ap (λ (words : List ℕ). Some (get_or words 3 0)) (behind m.read (slot_held m.table slot))
    ∙ ap Some (listed_get (word_of m.table slot) (width m.table.sizes) 3 0 (omega (arith, wide refl)))
    ∙ ap (λ (b : Bool). Some (held_by m.table (Slot slot (if b then UserHeader 0
    else Payload (3 - 3 - m.table.sizes.user_header_words))))) (lt-ltb 0 m.table.sizes.user_header_words (wide refl))

module _ {T : Type 0} (choices : Choices T) (value : List ℕ → T) (names : LaneNaming) (lent : List (ℕ × LaneLoan))
    (held : List (ℕ × LaneSample)) (m n : World) (place : ℕ) (before after : SubscriberLaneState) (service : Service T)
    (s : LanesStandFor choices value names lent held m service) (c : ReaderCall m n place before after) where
  -- lanes on which nothing waits elsewhere, and nothing else is borrowed, stand for the same service, but for what a subscriber keeps
  pub same_service : (subscribers : List (ℕ × Reader)) → OnlySubscriber m place n → MailStays m n → SamplesStay before after
      → ((other : ℕ) (one : Reader) → at other service.subscribers ≡ Some one
      → (another : Reader) × (at other subscribers ≡ Some another) × SameReader choices value names one another)
      → LanesStandFor choices value names lent held n (record service { subscribers = subscribers })
  same_service subscribers others mail samples readers =
      carried choices value names lent held held m n place before after service subscribers service.mailboxes service.samples
      (record {
        call = c;
        others = others;
        readers = readers;
        boxes = λ connection link found. s.mailboxes connection link found ∙ ap Some (sym (box_same connection link found));
        other_boxes = λ who other lane there joins. refl;
        same = s.samples ∙ sym (sample_entries choices value names lent held m service s n place before after c);
        once = s.samples_once;
        there = s.samples_there;
        all = λ connection link slot found. s.samples_all connection link slot found
            ∙ sym (ap one_if (borrows_stay m n place before after c others slot (samples slot) connection link.subscriber));
        waits = λ connection slot some. subst (λ (xs : List ℕ). 0 < count slot xs) (mail connection) some;
        borrowed = λ slot b. held_borrowed m slot c.kept (record {
          connection = b.connection;
          link = b.link;
          found = sym (ap (λ ls. slice_get ls b.connection) c.links) ∙ b.found;
          has = sym (borrows_stay m n place before after c others slot (samples slot) b.connection (b.link).subscriber) ∙ b.has;
        });
      }) s
    where
      box_same : (connection : ℕ) (link : LinkState) → slice_get m.links connection ≡ Some link
          → lane_mailbox value names n held connection link ≡ lane_mailbox value names m held connection link
      box_same connection link found =
          ap (λ waiting. record {
            limit = link.limit;
            waiting = waiting;
            borrowed = map (slot_message value names n.table) (slots_held_over link held);
          })
          (ap (map (slot_message value names n.table)) (mail connection)
          ∙ mail_messages choices value names lent held m service s n place before after c connection)
          ∙ ap (λ borrowed. record {
            limit = link.limit;
            waiting = map (slot_message value names m.table) (mail_at m connection);
            borrowed = borrowed;
          })
          (over_messages choices value names lent held m service s n place before after c connection link found)

pub reads_are_steps : {T : Type 0} (choices : Choices T) (value : List ℕ → T) (types : MessageTypeDetails) (buffer : ℕ)
    → ReadsAreSteps choices value types buffer
reads_are_steps {T} choices value types buffer = λ names lent held m n service state sample one s there t.
    let before = subscriber_there m one.subscriber (call.Read one.slot) (slice_get m.subscribers one.subscriber) refl t.begins.0 in
    let c = reader_call m n one.subscriber (call.Read one.slot) before.0 t before.1 (λ slot e. absurd (differ one.slot slot e)) in
    let law = reads_in_turn m n one.subscriber one.slot before.0 c.0 t before.1 c.1.now in
    let found : at sample service.samples ≡ Some (sample_by_numbers value names m one) =
    ap (at sample) s.samples ∙ at_mapped (sample_by_numbers value names m) sample held
    ∙ ap (option_map (sample_by_numbers value names m)) there in (
      law.0,
      λ values are. (
        service,
        one_does (λ (one : Service T). at sample one.samples)
            (λ (one : Sample T) (old : Service T) (answered : Reply T) (new : Service T). (read : Vec T)
            × (vec_items read ≡ one.message.values) × (answered ≡ reply.Values read) × (new ≡ old))
            state service service (reply.Values values) (sample_by_numbers value names m one) found
            (values, are ∙ ap (λ (words : List ℕ). value words ∷ []) (payload_given m n one.slot law.1), refl, refl),
        same_service choices value names lent held m n one.subscriber before.0 c.0 service s c.1 service.subscribers law.2 law.3 law.4
            (λ other reader is. (reader, is, same_reader choices value names reader)),
      ),
    )
  where
    differ : (sample slot : ℕ) → name_of (call.Read sample) ≡ name.Write slot → ⊥
    differ sample slot e = cc e

pub numbers_are_told : {T : Type 0} (choices : Choices T) (value : List ℕ → T) (types : MessageTypeDetails) (buffer : ℕ)
    → NumbersAreTold choices value types buffer
numbers_are_told {T} choices value types buffer = λ names lent held m n service state sample one s there t.
    let before = subscriber_there m one.subscriber (call.Read one.slot) (slice_get m.subscribers one.subscriber) refl t.begins.0 in
    let c = reader_call m n one.subscriber (call.Read one.slot) before.0 t before.1 (λ slot e. absurd (differ one.slot slot e)) in
    let law = reads_in_turn m n one.subscriber one.slot before.0 c.0 t before.1 c.1.now in
    let found : at sample service.samples ≡ Some (sample_by_numbers value names m one) =
    ap (at sample) s.samples ∙ at_mapped (sample_by_numbers value names m) sample held
    ∙ ap (option_map (sample_by_numbers value names m)) there in (
      service,
      one_does (λ (it : Service T). at sample it.samples)
          (λ (it : Sample T) (old : Service T) (answered : Reply T) (new : Service T).
          (answered ≡ reply.Sequence it.message.sequence) × (new ≡ old))
          state service service (reply.Sequence (sequence_read names.numbered m n)) (sample_by_numbers value names m one) found (
            ap told (sequence_given names.numbered m n one.slot (λ is. s.numbers.wide is) law.1),
            refl,
          ),
      same_service choices value names lent held m n one.subscriber before.0 c.0 service s c.1 service.subscribers law.2 law.3 law.4
          (λ other reader is. (reader, is, same_reader choices value names reader)),
    )
  where
    differ : (sample slot : ℕ) → name_of (call.Read sample) ≡ name.Write slot → ⊥
    differ sample slot e = cc e

    told : Option ℕ → Reply T
    told o = reply.Sequence o
