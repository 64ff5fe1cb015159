-- What waits and is remembered in the lanes of a domain is what its service of the machine has there.
use Rattle.std.proofs.Common.{ℕ, zero, suc, ◌≡◌, ◌≢◌, ◌+◌, ◌-◌, ◌*◌, ◌/◌, ◌%◌, ◌<◌, ◌≤◌, ◌^◌, ◌==◌, ◌&&◌, Bool, true, false, nat_lt, List}
use Rattle.std.proofs.Common.{[]}
use Rattle.std.proofs.Common.{◌||◌, cond, not}
use Rattle.std.proofs.Common.{◌∷◌, ◌++◌, length, map, take, get_or, slice_get, slice_index, is_some, if◌then◌else◌, Option, Some, None}
use Rattle.std.proofs.Common.{refl, sym, ◌∙◌, ap, subst, inl, inr, arith}
use Rattle.std.proofs.lemmas.Bool.{cases_lt, cond-true, cond-false, eq-eqb, eqb-true, le-ltb, lt-ltb, ltb-true}
use Rattle.std.proofs.lemmas.List.{take_all, take_more}
use Rattle.std.proofs.lemmas.List.Elements.{All-head, All-tail}
use Rattle.std.proofs.lemmas.Nat.{div-add-mod', div_below}
use Rattle.std.proofs.lemmas.Option.{slice_get-get_or, slice_get_within}
use Rattle.std.proofs.Math.Nat.{mod-lt}
use Rattle.std.specs.BTreeMap.{is_at}
use Rattle.std.specs.Bool.{beq}
use Rattle.std.specs.List.{All, list_any}
use Rattle.std.specs.Ordering.{nat_cmp}
use Rattle.std.specs.Prelude.{filter}
use Rattle.iox_domain.specs.DomainValues.declared.backpressure.BackpressureDecision.{BackpressureDecision}
use Rattle.iox_domain.specs.Container.declared.container.Member.{Member}
use Rattle.iox_domain.specs.DomainPorts.Messages.{Loan, Message}
use Rattle.iox_domain.specs.DomainPorts.Ports.{connection_of}
use Rattle.iox_domain.specs.DomainPorts.Progress.{ProgressState}
use Rattle.iox_domain.specs.DomainPorts.Publishers.{connection_at_port, port_of}
use Rattle.iox_domain.specs.DomainPorts.declared.attached.Taken.{Taken}
use Rattle.iox_domain.specs.DomainPorts.declared.publisher_entry.PublisherEntry.{PublisherEntry}
use Rattle.iox_domain.specs.DomainPorts.declared.publisher_port.PublisherPort.{PublisherPort}
use Rattle.iox_domain.specs.DomainPorts.declared.reader.Reader.{Reader}
use Rattle.iox_domain.specs.DomainPorts.declared.subscriber_port.SubscriberPort.{SubscriberPort}
use Rattle.iox_domain.specs.Subscribers.{subscriber_of}
use Rattle.iox_domain.specs.declared.domain.Domain.{Domain}
use Rattle.iox_domain.specs.declared.ports.service_ports.ServicePorts.{ServicePorts}
use Rattle.iox_domain_machine.specs.Mailboxes.{MailboxesStandFor}
use Rattle.iox_domain_machine.specs.Naming.{Naming, NamesPorts, mailbox_as, message_as}
use Rattle.iox_domain_machine.specs.Publishers.{BlockedStandsFor}
use Rattle.iox_domain_machine.specs.Standing.{StandsFor}
use Rattle.iox_domain_machine.specs.Tables.{LentSlot, loan_as, loans_at_port, sample_as, slots_held_of, slots_lent_by}
use Rattle.iox_lanes.proofs.Presence.{both, neither, no_reason, none_under, not_no, readers_there, rested}
use Rattle.iox_lanes.proofs.Sound.{fits, publishers_once, subscribers_once}
use Rattle.iox_lanes.proofs.Tied.{goes_there}
use Rattle.iox_lanes.specs.Holding.{IsLaneIf, IsLaneOf, IsLinkIf, IsLinkOf, LanesHold, Leads, kind_of, numbers_of}
use Rattle.iox_lanes.specs.Holding.{port_if, reader_if}
use Rattle.iox_lanes.specs.Lying.{IsLaidAt, Lies, PayloadLies, UserHeaderLies, ValueLies}
use Rattle.iox_lanes.specs.Spelling.{Spelling, spelling_of}
use Rattle.iox_lanes.specs.Tied.{tie_for}
use Rattle.iox_lanes_laws.specs.Messages.{payload_held}
use Rattle.iox_lanes_machine.proofs.Ends.{some_is}
use Rattle.iox_lanes_machine.proofs.Mailboxes.{order_there}
use Rattle.iox_lanes_machine.proofs.Owned.{histories_are_own, mail_is_own}
use Rattle.iox_lanes_machine.proofs.Paces.{came_kept}
use Rattle.iox_lanes_machine.proofs.RestingRings.{mail_is}
use Rattle.iox_lanes_machine.specs.Fresh.{IsFresh}
use Rattle.iox_lanes_machine.specs.Kept.{IsKept}
use Rattle.iox_lanes_machine.specs.LanesBase.Table.{TableWords, held_by}
use Rattle.iox_lanes_machine.specs.LanesBase.declared.words.word.SharedWord.TheVariants.{Slot}
use Rattle.iox_lanes_machine.specs.LanesBase.declared.words.word.SlotWord.TheVariants.{Payload}
use Rattle.iox_lanes_machine.specs.LanesParties.Parties.{PublisherLaneState}
use Rattle.iox_lanes_machine.specs.Links.{LinkState}
use Rattle.iox_lanes_machine.specs.Made.{listed}
use Rattle.iox_lanes_machine.specs.Owned.{IsSlotOf}
use Rattle.iox_lanes_machine.specs.QueuesSteps.Ends.{overflows}
use Rattle.iox_lanes_machine.specs.Resting.{mail_at}
use Rattle.iox_lanes_machine.specs.Rings.{waiting}
use Rattle.iox_lanes_machine.specs.WholeReads.{CameTo}
use Rattle.iox_lanes_machine.specs.World.{World}
use Rattle.iox_lanes_opening.specs.Middles.{middle_count, middle_words}
use Rattle.iox_lanes_opening.specs.Deciding.{has_handlers, is_retrying}
use Rattle.iox_lanes_opening.specs.Lingering.{is_lingering}
use Rattle.iox_lanes_opening.specs.Refusals.{first_reason, has_growing, is_blocked}
use Rattle.iox_lanes_opening.specs.Sequences.{has_too_large, is_too_large}
use Rattle.iox_lanes_opening.specs.Slices.{has_slices}
use Rattle.iox_lanes_opening.specs.Soundness.{are_placed, attaches_twice, is_misfit, is_misnumbered, is_unsound, remembers_ill, waits_ill}
use Rattle.iox_lanes_opening.specs.UpToDate.{is_up_to_date}
use Rattle.iox_lanes_opening.specs.UpToDate.{is_reader}
use Rattle.iox_lanes_service.specs.Naming.{LaneNaming, lane_mailbox, slot_message, slot_sequence, slot_value}
use Rattle.iox_lanes_service.specs.Standing.{NumbersFit}
use Rattle.iox_lanes_sound.specs.Having.{AreReadBack, HaveMessages, IsReadBack, RemembersAs, lane_names, slot_name}
use Rattle.iox_machine.specs.Mailbox.{Mailbox}
use Rattle.iox_machine.specs.Message as machine
use Rattle.iox_machine.specs.Service.{Publisher, Send, Service}
use Rattle.iox_machine.specs.Table.{at}

listed_same : (f : ℕ → ℕ) (xs : List ℕ) (n : ℕ) → n ≤ length xs → ((k : ℕ) → k < n → f k ≡ slice_index xs k) → listed f n ≡ take n xs
listed_same f xs zero fit same = refl
listed_same f xs (suc n) fit same =
    let more : suc n ≡ n + 1 = omega arith in
    ap (λ ys. ys ++ f n ∷ []) (listed_same f xs n (omega (arith, fit)) (λ k below. same k (omega (arith, below))))
    ∙ ap (λ y. take n xs ++ y ∷ []) (same n (omega arith))
    ∙ sym (take_more xs n 0 (omega (arith, fit))) ∙ ap (λ k. take k xs) (sym more)

-- where a number stands among those of a list, somebody of that number is listed
pub listed_as : {V : Type 0} (number_of : V → ℕ) (places : List (Option (Member V))) (place number : ℕ)
    → slice_get (numbers_of number_of places) place ≡ Some number
    → (own : ℕ) × (member : Member V) × (get_or places own None ≡ Some member) × (number_of member.value ≡ number)
listed_as number_of [] place number is = absurd (cc is)
listed_as number_of (None ∷ rest) place number is =
    let later = listed_as number_of rest place number is in
    (suc later.0, later.1, later.2, later.3)
listed_as number_of (Some member ∷ rest) zero number is = (zero, member, refl, some_is (number_of member.value) number is)
listed_as number_of (Some member ∷ rest) (suc place) number is =
    let later = listed_as number_of rest place number is in
    (suc later.0, later.1, later.2, later.3)

-- the slots of publishers lie in rows, each publisher's before those of the ones after it
abbrev pub InRows : List PublisherLaneState → Type 0
InRows lanes = (one other : ℕ) (lane behind : PublisherLaneState) → slice_get lanes one ≡ Some lane → slice_get lanes other ≡ Some behind
    → one < other → lane.port.book.first + length lane.port.book.loans ≤ behind.port.book.first

-- so each slot goes by its own publisher's number
pub name_is : (name : ℕ → ℕ → ℕ) (numbers : List ℕ) (lanes : List PublisherLaneState) (place number : ℕ) (lane : PublisherLaneState)
    → slice_get numbers place ≡ Some number → slice_get lanes place ≡ Some lane → InRows lanes → (slot : ℕ)
    → slot < length lane.port.book.loans → slot_name name numbers lanes (lane.port.book.first + slot) ≡ name number slot
name_is name [] lanes place number lane found got rows slot below = absurd (cc found)
name_is name (n ∷ numbers) [] place number lane found got rows slot below = absurd (cc got)
name_is name (n ∷ numbers) (l ∷ lanes) zero number lane found got rows slot below =
    let is : l ≡ lane = some_is l lane got in
    let own : lane.port.book.first + slot - lane.port.book.first ≡ slot = omega arith in
    let within : lane.port.book.first + slot < lane.port.book.first + length lane.port.book.loans = omega (arith, below) in
    ap (λ (x : PublisherLaneState). if nat_lt (lane.port.book.first + slot) (x.port.book.first + length x.port.book.loans)
    then name n (lane.port.book.first + slot - x.port.book.first) else slot_name name numbers lanes (lane.port.book.first + slot)) is
    ∙ cond-true (nat_lt (lane.port.book.first + slot) (lane.port.book.first + length lane.port.book.loans))
    (name n (lane.port.book.first + slot - lane.port.book.first)) (slot_name name numbers lanes (lane.port.book.first + slot))
    (lt-ltb (lane.port.book.first + slot) (lane.port.book.first + length lane.port.book.loans) within)
    ∙ ap (name n) own ∙ ap (λ k. name k slot) (some_is n number found)
name_is name (n ∷ numbers) (l ∷ lanes) (suc place) number lane found got rows slot below =
    let before = rows zero (suc place) l lane refl got (omega arith) in
    cond-false (nat_lt (lane.port.book.first + slot) (l.port.book.first + length l.port.book.loans))
    (name n (lane.port.book.first + slot - l.port.book.first)) (slot_name name numbers lanes (lane.port.book.first + slot))
    (le-ltb (lane.port.book.first + slot) (l.port.book.first + length l.port.book.loans) (omega (arith, before)))
    ∙ name_is name numbers lanes place number lane found got
    (λ one other z behind a b c. rows (suc one) (suc other) z behind a b (omega (arith, c))) slot below

kind_same : (b : Bool) → overflows (kind_of b) ≡ b
kind_same true = refl
kind_same false = refl

none_blocks : {T U : Type 0} (name : ℕ → ℕ) (connected : List (Option ℕ)) (progress : ProgressState) (sending : Option (Message T U))
    (blocked : Option (Send T)) → sending ≡ None → BlockedStandsFor name connected progress sending blocked → blocked ≡ None
none_blocks name connected progress None blocked is h = h
none_blocks name connected progress (Some message) blocked is h = absurd (cc is)

-- where no publisher has lent anything, nothing is lent
none_lent : (lent : List (ℕ × LentSlot)) → ((publisher : ℕ) → slots_lent_by publisher lent ≡ []) → lent ≡ []
none_lent [] all = refl
none_lent (entry ∷ rest) all =
    let here = ap (λ (b : Bool). map (λ (e : ℕ × LentSlot). e.1.slot)
    (cond b (entry ∷ filter (λ (e : ℕ × LentSlot). e.1.publisher == entry.1.publisher) rest)
    (filter (λ (e : ℕ × LentSlot). e.1.publisher == entry.1.publisher) rest)))
    (eq-eqb entry.1.publisher entry.1.publisher refl) in
    absurd (cc (sym here ∙ all entry.1.publisher))

-- where nothing of a connection is borrowed, nothing is held
none_held : (held : List (ℕ × Taken)) → ((publisher index : ℕ) → slots_held_of publisher index held ≡ []) → held ≡ []
none_held [] all = refl
none_held (entry ∷ rest) all =
    let both_same : (entry.1.publisher == entry.1.publisher) && (entry.1.index == entry.1.index) ≡ true =
    ap (λ (b : Bool). b && (entry.1.index == entry.1.index)) (eq-eqb entry.1.publisher entry.1.publisher refl)
    ∙ eq-eqb entry.1.index entry.1.index refl in
    let here = ap (λ (b : Bool). map (λ (e : ℕ × Taken). e.1.slot)
    (cond b (entry ∷ filter (λ (e : ℕ × Taken). (e.1.publisher == entry.1.publisher) && (e.1.index == entry.1.index)) rest)
    (filter (λ (e : ℕ × Taken). (e.1.publisher == entry.1.publisher) && (e.1.index == entry.1.index)) rest))) both_same in
    absurd (cc (sym here ∙ all entry.1.publisher entry.1.index))

pub beq_same : (a b : Bool) → beq a b ≡ true → a ≡ b
beq_same true true h = refl
beq_same true false h = absurd (cc h)
beq_same false true h = absurd (cc h)
beq_same false false h = refl

not_large : (last : ℕ) → is_too_large (Some last) ≡ false → last < 2 ^ 63
not_large last h = ltb-true last (2 ^ 63) (not_no (nat_lt last (2 ^ 63)) h)

-- whoever goes by a name has one
some_name : {V : Type 0} (name : ℕ → ℕ) (table : List (ℕ × V)) (number : ℕ) (value : V) → NamesPorts name table
    → at (name number) table ≡ Some value → name number ≢ 0
some_name name table number value named there = (named.each (name number) (ap is_some there)).2

-- what a lane and a link are of a domain
pub lane_of : {T U : Type 0} (spelling : Spelling T U) (table : TableWords) (port : Option (PublisherPort T U))
    (lane : Option PublisherLaneState) → IsLaneIf spelling table port lane
    → (one : PublisherPort T U) × (port ≡ Some one) × (other : PublisherLaneState) × (lane ≡ Some other)
    × IsLaneOf spelling table one other
lane_of spelling table None lane is = absurd is
lane_of spelling table (Some one) None is = absurd is
lane_of spelling table (Some one) (Some other) is = (one, refl, other, refl, is)

pub link_of : {T U : Type 0} (spelling : Spelling T U) (table : TableWords) (overflow : Bool) (publisher subscriber : ℕ)
    (port : Option (PublisherPort T U)) (reader : Option SubscriberPort) (lane : Option PublisherLaneState) (index : Option ℕ)
    (link : Option LinkState) → Leads overflow publisher subscriber link → IsLinkIf spelling table port reader lane index link
    → (a : PublisherPort T U) × (port ≡ Some a) × (b : SubscriberPort) × (reader ≡ Some b) × (c : PublisherLaneState) × (lane ≡ Some c)
    × (i : ℕ) × (l : LinkState) × (link ≡ Some l) × Leads overflow publisher subscriber (Some l)
    × IsLinkOf spelling table a b c.port.book.first i l
link_of spelling table overflow publisher subscriber None reader lane index link leads is = absurd is
link_of spelling table overflow publisher subscriber (Some a) None lane index link leads is = absurd is
link_of spelling table overflow publisher subscriber (Some a) (Some b) None index link leads is = absurd is
link_of spelling table overflow publisher subscriber (Some a) (Some b) (Some c) None link leads is = absurd is
link_of spelling table overflow publisher subscriber (Some a) (Some b) (Some c) (Some i) None leads is = absurd is
link_of spelling table overflow publisher subscriber (Some a) (Some b) (Some c) (Some i) (Some l) leads is =
    (a, refl, b, refl, c, refl, i, l, refl, leads, is)

-- a publisher numbers its messages as agreed, and its last number isn't too large
pub well_numbered : {T U B D : Type 0} (decision : B → Option BackpressureDecision) (asks : D → Bool)
    (domain : Domain T U B D) → first_reason decision asks domain ≡ None → (number : ℕ) (port : PublisherPort T U)
    → port_of number domain.state.ports.publishers ≡ Some port
    → (is_misnumbered domain.state.ports.sizes port ≡ false) × (is_too_large port.last_sequence ≡ false)
well_numbered {T} {U} decision asks domain none number port there =
    let ports : ServicePorts T U = domain.state.ports in
    let blocked = no_reason (is_blocked ports) _ _ none in
    let current = no_reason (not (is_up_to_date ports)) _ _ blocked.1 in
    let growing = no_reason (has_growing ports) _ _ current.1 in
    let handled = no_reason (has_handlers decision asks domain) _ _ growing.1 in
    let retrying = no_reason (is_retrying decision domain) _ _ handled.1 in
    let lingering = no_reason (is_lingering ports) _ _ retrying.1 in
    let sliced = no_reason (has_slices domain) _ _ lingering.1 in
    let sound = no_reason (is_unsound ports) _ _ sliced.1 in
    let large = no_reason (has_too_large ports) _ _ sound.1 in
    let places = neither (not (are_placed ports)) (list_any (λ (entry : ℕ × PublisherPort T U). is_misfit ports.sizes entry.1)
    ports.publishers || list_any (λ (entry : ℕ × SubscriberPort). attaches_twice entry.1) ports.subscribers) sound.0 in
    let made = neither (list_any (λ (entry : ℕ × PublisherPort T U). is_misfit ports.sizes entry.1) ports.publishers)
    (list_any (λ (entry : ℕ × SubscriberPort). attaches_twice entry.1) ports.subscribers) places.1 in
    let misfit = none_under (λ (entry : ℕ × PublisherPort T U). is_misfit ports.sizes entry.1) (is_at (nat_cmp number)) ports.publishers
    port made.0 there in
    let far = none_under (λ (entry : ℕ × PublisherPort T U). is_too_large entry.1.last_sequence) (is_at (nat_cmp number))
    ports.publishers port large.0 there in (
      (neither (is_misnumbered ports.sizes port) (nat_lt 0 port.sender.uses.first
          || (not (port.sender.uses.kept == ports.sizes.history_size) || (remembers_ill ports.sizes port
          || list_any (waits_ill ports.sizes) port.sender.uses.connections))) misfit.1).0,
      far.1,
    )

-- where messages have numbers, something lies between header and payload
pub some_middle : (numbered : Bool) (count : ℕ) → numbered ≡ true → 0 < middle_count numbered count
some_middle true count is = omega arith
some_middle false count is = absurd (cc is)

module _ {T U B D : Type 0} (decision : B → Option BackpressureDecision) (asks : D → Bool) (payload_words : T
    → List ℕ) (header_words : U → List ℕ)
    (value : List ℕ → T) (payload_count header_count : ℕ) (long : (x : T) → length (payload_words x) ≡ payload_count)
    (domain : Domain T U B D) (none : first_reason decision asks domain ≡ None) (m : World) (came : CameTo m)
    (senders readers indices : List ℕ)
    (h : LanesHold (spelling_of domain.state.ports.sizes.sequence_numbers payload_words payload_count header_words header_count) domain m
    senders readers indices)
    (back : AreReadBack payload_words value domain.state.ports)
    (names : Naming) (lent : List (ℕ × LentSlot)) (held : List (ℕ × Taken)) (buffer : ℕ) (service : Service T)
    (s : StandsFor names lent held buffer domain.state.ports service) where
  abbrev ports : ServicePorts T U
  ports = domain.state.ports

  abbrev numbered : Bool
  numbered = domain.state.ports.sizes.sequence_numbers

  abbrev spelling : Spelling T U
  spelling = spelling_of numbered payload_words payload_count header_words header_count

  abbrev own : LaneNaming
  own = lane_names names numbered senders readers m

  abbrev Back : Message T U → Type 0
  Back = IsReadBack payload_words value numbered

  kept : IsKept m
  kept = (came_kept m came).0

  few : m.moments ≤ 2 ^ 63
  few = omega (arith, h.moments)

  fresh : IsFresh m
  fresh = kept.fresh h.moments

  counted : m.table.sizes.payload_words ≡ payload_count
  counted = h.payload

  wide : numbered ≡ true → 0 < m.table.sizes.user_header_words
  wide is = subst (λ n. 0 < n) (sym h.user_header) (some_middle numbered header_count is)

  payload_is : (slot : ℕ) (x : T) → ValueLies payload_words m.table slot x → payload_held m.table slot ≡ payload_words x
  payload_is slot x lies =
      listed_same (λ word. held_by m.table (Slot slot (Payload word))) (payload_words x) m.table.sizes.payload_words
      (omega (arith, counted, long x)) (λ word below. lies word below)
      ∙ take_all m.table.sizes.payload_words (payload_words x) (omega (arith, counted, long x))

  values_same : (slot : ℕ) (values : List T) → All (λ x. value (payload_words x) ≡ x) values → PayloadLies payload_words m.table slot values
      → values ≡ slot_value value own m.table slot ∷ []
  values_same slot [] given lies = absurd lies
  values_same slot (x ∷ []) given lies =
      ap (λ y. y ∷ []) (sym (ap value (payload_is slot x lies) ∙ All-head (λ y. value (payload_words y) ≡ y) x [] given))
  values_same slot (x ∷ y ∷ rest) given lies = absurd lies

  sequence_same : (slot : ℕ) (numbers : Bool) (sequence : Option ℕ) (user_header : U) → is_some sequence ≡ numbers
      → (numbers ≡ true → 0 < m.table.sizes.user_header_words)
      → UserHeaderLies (middle_words numbers header_words) m.table slot (sequence, user_header)
      → sequence ≡ slot_sequence numbers m.table slot
  sequence_same slot true None user_header is room lies = absurd (cc is)
  sequence_same slot true (Some number) user_header is room lies = ap (λ k. Some k) (sym (lies 0 (room refl)))
  sequence_same slot false None user_header is room lies = refl
  sequence_same slot false (Some number) user_header is room lies = absurd (cc is)

  abbrev message_of : ℕ → Option ℕ → List T → machine.Message T
  message_of number sequence values = record { number = number; sequence = sequence; values = values }

  same_message : (a b : ℕ) (c d : Option ℕ) (e f : List T) → a ≡ b → c ≡ d → e ≡ f → message_of a c e ≡ message_of b d f
  same_message a b c d e f p q r = ap (λ x. message_of x c e) p ∙ ap (λ x. message_of b x e) q ∙ ap (λ x. message_of b d x) r

  one_same : (number first : ℕ) (port : PublisherPort T U) (message : Message T U)
      → own.message (first + message.slot) ≡ names.message number message.slot → Back message
      → Lies spelling m.table first port message
      → message_as (names.message number) message ≡ slot_message value own m.table (first + message.slot)
  one_same number first port message named given lies =
      same_message (names.message number message.slot) (own.message (first + message.slot)) message.sequence
      (slot_sequence numbered m.table (first + message.slot)) message.values (slot_value value own m.table (first + message.slot) ∷ [])
      (sym named)
      (sequence_same (first + message.slot) numbered message.sequence message.user_header given.numbers
      wide lies.1)
      (values_same (first + message.slot) message.values given.values lies.2)

  laid_same : (number first size : ℕ) (port : PublisherPort T U)
      → ((slot : ℕ) → slot < size → own.message (first + slot) ≡ names.message number slot)
      → (laid : List ℕ) (messages : List (Message T U)) → length laid ≡ length messages
      → ((place : ℕ) → IsLaidAt spelling m.table first port (slice_get laid place) (slice_get messages place))
      → ((place slot : ℕ) → slice_get laid place ≡ Some slot → slot < first + size)
      → All Back messages
      → map (message_as (names.message number)) messages ≡ map (slot_message value own m.table) laid
  laid_same number first size port named [] [] many each within given = refl
  laid_same number first size port named [] (message ∷ messages) many each within given = absurd (omega (arith, many))
  laid_same number first size port named (slot ∷ laid) [] many each within given = absurd (omega (arith, many))
  laid_same number first size port named (slot ∷ laid) (message ∷ messages) many each within given =
      let here = each 0 in
      let is : slot ≡ first + message.slot = some_is slot (first + message.slot) here.0 in
      ap (λ x. x ∷ map (message_as (names.message number)) messages)
      (one_same number first port message (named message.slot (omega (arith, is, within 0 slot refl)))
      (All-head Back message messages given) here.1 ∙ ap (slot_message value own m.table) (sym is))
      ∙ ap (λ xs. slot_message value own m.table slot ∷ xs)
      (laid_same number first size port named laid messages (omega (arith, many)) (λ place. each (suc place))
      (λ place. within (suc place)) (All-tail Back message messages given))

  sender_at : (place : ℕ) → place < length senders → slice_get senders place ≡ Some (get_or senders place 0)
  sender_at place below = slice_get-get_or senders place 0 below

  reader_at : (place : ℕ) → place < length readers → slice_get readers place ≡ Some (get_or readers place 0)
  reader_at place below = slice_get-get_or readers place 0 below

  -- each slot of a lane goes by the number of its publisher in the domain
  named_own : (place : ℕ) (lane : PublisherLaneState) → place < length senders → slice_get m.publishers place ≡ Some lane → (slot : ℕ)
      → slot < length lane.port.book.loans
      → own.message (lane.port.book.first + slot) ≡ names.message (get_or senders place 0) slot
  named_own place lane below found slot within =
      name_is names.message senders m.publishers place (get_or senders place 0) lane (sender_at place below) found fresh.rows slot within

  port_at : (place : ℕ) (one : PublisherPort T U) → place < length senders
      → port_if ports.publishers (slice_get senders place) ≡ Some one → port_of (get_or senders place 0) ports.publishers ≡ Some one
  port_at place one below is = ap (port_if ports.publishers) (sym (sender_at place below)) ∙ is

  subscriber_at : (place : ℕ) (one : SubscriberPort) → place < length readers
      → reader_if ports.subscribers (slice_get readers place) ≡ Some one
      → subscriber_of (get_or readers place 0) ports.subscribers ≡ Some one
  subscriber_at place one below is = ap (reader_if ports.subscribers) (sym (reader_at place below)) ∙ is

  -- a listed publisher stands
  stands_there : (place : ℕ) (port : PublisherPort T U) → place < length senders
      → port_of (get_or senders place 0) ports.publishers ≡ Some port → port.stands ≡ true
  stands_there place port below found =
      let (spot, member, there, same) = listed_as (λ (entry : PublisherEntry). entry.publisher) ports.publisher_list.places place
      (get_or senders place 0) (ap (λ numbers. slice_get numbers place) (sym h.publishers) ∙ sender_at place below) in
      let (one, is, stands, at_place) = s.present spot member there in
      let same_port : one ≡ port = some_is one port (sym is ∙ ap (λ n. port_of n ports.publishers) same ∙ found) in
      ap (λ (p : PublisherPort T U). p.stands) (sym same_port) ∙ stands

  publisher_there : (place : ℕ) (lane : PublisherLaneState) → slice_get m.publishers place ≡ Some lane
      → (publisher : Publisher T) × (at (own.publisher place) service.publishers ≡ Some publisher) × RemembersAs value own m lane publisher
  publisher_there place lane found =
      let below : place < length senders = omega (arith, slice_get_within m.publishers place lane found, h.publisher_count) in
      let (port, is, other, got, of) = lane_of spelling m.table
      (port_if ports.publishers (slice_get senders place)) (slice_get m.publishers place)
      (h.sending place below) in
      let same : other ≡ lane = some_is other lane (sym got ∙ found) in
      let lane_is : IsLaneOf spelling m.table port lane =
      subst (IsLaneOf spelling m.table port) same of in
      let there = port_at place port below is in
      let (publisher, by_name, p, boxes) = s.publishers (get_or senders place 0) port there in
      let rest = rested decision asks domain (get_or senders place 0) port none there in
      let fit = fits decision asks domain none (get_or senders place 0) port there in (
        publisher,
        by_name,
        record {
          stands = p.stands ∙ stands_there place port below there;
          free = none_blocks (names.message (get_or senders place 0)) publisher.connected port.progress port.sender.uses.sending
              publisher.blocked rest.quiet.idle p.blocked;
          most_loans = p.max_loaned_samples ∙ sym lane_is.most_loans;
          slots = omega (arith, p.slots, lane_is.slots, fit.first);
          room = omega (arith, p.room, rest.quiet.room);
          last = p.last_sequence ∙ sym lane_is.last;
          history = p.history
              ∙ laid_same (get_or senders place 0) lane.port.book.first (length lane.port.book.loans) port
              (named_own place lane below found) lane.port.book.history port.sender.uses.history
              lane_is.history.as_many lane_is.history.each
              (λ spot slot stood.
              let whose : IsSlotOf m place slot = (histories_are_own m kept few place lane found).own spot slot stood in
              let one : whose.lane ≡ lane = some_is whose.lane lane (sym whose.found ∙ found) in
              subst (λ (x : PublisherLaneState). slot < x.port.book.first + length x.port.book.loans) one whose.below)
              (back.remembered (get_or senders place 0) port there);
        },
      )

  -- who reads at a connection of a publisher of the domain
  read_by : (number reader index : ℕ) (a : PublisherPort T U) (box : MailboxesStandFor (names.message number) (names.reader number)
      names.subscriber a (service.mailboxes (names.publisher number)) service.subscribers) (to : Option Reader)
      → get_or a.readers index None ≡ to → is_reader reader to ≡ true
      → service.mailboxes (names.publisher number) (names.subscriber reader)
      ≡ Some (mailbox_as (names.message number) (connection_of index a))
  read_by number reader index a box None got is = absurd (cc is)
  read_by number reader index a box (Some to) got is =
      let same : to.subscriber ≡ reader = eqb-true to.subscriber reader (both (to.subscriber == reader) to.attached is).0 in
      ap (service.mailboxes (names.publisher number)) (ap names.subscriber (sym same) ∙ sym (box.read index to got).0)
      ∙ box.live index (box.heard index to got)

  abbrev box_of : ℕ → List (machine.Message T) → List (machine.Message T) → Mailbox T
  box_of limit waits borrowed = record { limit = limit; waiting = waits; borrowed = borrowed }

  same_box : (a b : ℕ) (c d e f : List (machine.Message T)) → a ≡ b → c ≡ d → e ≡ f → box_of a c e ≡ box_of b d f
  same_box a b c d e f p q r = ap (λ x. box_of x c e) p ∙ ap (λ x. box_of b x e) q ∙ ap (λ x. box_of b d x) r

  mailbox_there : (publisher subscriber connection : ℕ) (link : LinkState) → publisher < length senders → subscriber < length readers
      → connection ≡ publisher * length readers + subscriber → slice_get m.links connection ≡ Some link
      → (service.mailboxes (own.publisher link.publisher) (own.subscriber link.subscriber)
      ≡ Some (lane_mailbox value own m [] connection link)) × (overflows link.kind ≡ service.settings.enable_safe_overflow)
  mailbox_there publisher subscriber connection link sends reads where_is found =
      let number : ℕ = get_or senders publisher 0 in
      let reader : ℕ = get_or readers subscriber 0 in
      let (a, port_is, b, reader_is, c, lane_got, i, l, link_got, leads, of) = link_of spelling m.table
      ports.sizes.enable_safe_overflow publisher subscriber
      (port_if ports.publishers (slice_get senders publisher)) (reader_if ports.subscribers (slice_get readers subscriber))
      (slice_get m.publishers publisher) (slice_get indices (publisher * length readers + subscriber))
      (slice_get m.links (publisher * length readers + subscriber)) (h.linking publisher subscriber sends reads).0
      (h.linking publisher subscriber sends reads).1 in
      let same : l ≡ link = some_is l link (sym link_got ∙ ap (slice_get m.links) (sym where_is) ∙ found) in
      let is : IsLinkOf spelling m.table a b c.port.book.first i link = subst (IsLinkOf spelling m.table a b c.port.book.first i) same of in
      let led : Leads ports.sizes.enable_safe_overflow publisher subscriber (Some link) =
      subst (λ (k : LinkState). Leads ports.sizes.enable_safe_overflow publisher subscriber (Some k)) same leads in
      let there = port_at publisher a sends port_is in
      let read = subscriber_at subscriber b reads reader_is in
      let (one, by_name, p, box) = s.publishers number a there in
      let goes = goes_there decision asks domain none publisher number reader a b
      (ap (λ numbers. slice_get numbers publisher) (sym h.publishers) ∙ sender_at publisher sends) there read in
      let index_is : i ≡ tie_for a (Some b) = some_is i (tie_for a (Some b)) (sym is.tie ∙ goes.0) in
      let reader_there : is_reader reader (get_or a.readers i None) ≡ true =
      subst (λ k. is_reader reader (get_or a.readers k None) ≡ true) (sym index_is) goes.2 in
      let its = read_by number reader i a box (get_or a.readers i None) refl reader_there in
      let order : get_or m.orders connection [] ≡ [] = fresh.orders connection (get_or m.orders connection [])
      (order_there m connection link kept found) in
      let mail : mail_at m connection ≡ link.found = mail_is m connection link found ∙ ap (waiting link) order in
      let waits = laid_same number c.port.book.first (length c.port.book.loans) a (named_own publisher c sends lane_got)
      link.found (connection_of i a).waiting is.waiting.as_many is.waiting.each
      (λ spot slot stood.
      let whose : IsSlotOf m link.publisher slot = mail_is_own m connection kept few link found spot slot
      (ap (λ slots. slice_get slots spot) mail ∙ stood) in
      let lane : whose.lane ≡ c = some_is whose.lane c (sym whose.found ∙ ap (slice_get m.publishers) led.0 ∙ lane_got) in
      subst (λ (x : PublisherLaneState). slot < x.port.book.first + length x.port.book.loans) lane whose.below)
      (back.waiting number a there i) in (
        ap (λ place. service.mailboxes (own.publisher place) (own.subscriber link.subscriber)) led.0
            ∙ ap (λ place. service.mailboxes (own.publisher publisher) (own.subscriber place)) led.1 ∙ its
            ∙ ap (λ (x : Mailbox T). Some x) (same_box (connection_of i a).limit link.limit
            (map (message_as (names.message number)) (connection_of i a).waiting)
            (map (slot_message value own m.table) (mail_at m connection))
            (map (message_as (names.message number)) (connection_of i a).borrowed) [] (sym is.limit)
            (waits ∙ ap (map (slot_message value own m.table)) (sym mail))
            (ap (map (message_as (names.message number))) ((rested decision asks domain number a none there).none i))),
        ap overflows led.2 ∙ kind_same ports.sizes.enable_safe_overflow ∙ ap (λ sizes. sizes.enable_safe_overflow) s.sizes,
      )

  each_mailbox : (connection : ℕ) (link : LinkState) → slice_get m.links connection ≡ Some link
      → (service.mailboxes (own.publisher link.publisher) (own.subscriber link.subscriber)
      ≡ Some (lane_mailbox value own m [] connection link)) × (overflows link.kind ≡ service.settings.enable_safe_overflow)
  each_mailbox connection link found = elim (cases_lt 0 (length readers)) [
    | inl some ↦ mailbox_there (connection / length readers) (connection % length readers) connection link
        (div_below connection (length readers) (length senders) some below) (mod-lt connection some)
        (sym (div-add-mod' connection (length readers))) found
    | inr empty ↦
        let no_readers : length readers ≡ 0 = omega (arith, empty) in
        let no_links : length senders * length readers ≡ length senders * 0 = ap (λ n. length senders * n) no_readers in
        absurd (omega (arith, below, no_links))
  ]
    where
      below : connection < length senders * length readers
      below = omega (arith, slice_get_within m.links connection link found, h.link_count)

  senders_apart : (one other : ℕ) → one < length m.publishers → other < length m.publishers → own.publisher one ≡ own.publisher other
      → one ≡ other
  senders_apart one other first second same =
      let one_below : one < length senders = omega (arith, first, h.publisher_count) in
      let other_below : other < length senders = omega (arith, second, h.publisher_count) in
      let (port, is, lane, got, of) = lane_of spelling m.table
      (port_if ports.publishers (slice_get senders one)) (slice_get m.publishers one)
      (h.sending one one_below) in
      let (publisher, by_name, rest) = publisher_there one lane got in
      let number_same : get_or senders one 0 ≡ get_or senders other 0 = s.named_publishers.apart (get_or senders one 0)
      (get_or senders other 0) (some_name names.publisher service.publishers (get_or senders one 0) publisher s.named_publishers by_name)
      same in
      publishers_once decision asks domain none senders h.publishers one other (get_or senders one 0) (sender_at one one_below)
      (sender_at other other_below ∙ ap (λ n. Some n) (sym number_same))

  readers_apart : (one other : ℕ) → one < length m.subscribers → other < length m.subscribers
      → own.subscriber one ≡ own.subscriber other → one ≡ other
  readers_apart one other first second same =
      let one_below : one < length readers = omega (arith, first, h.subscriber_count) in
      let other_below : other < length readers = omega (arith, second, h.subscriber_count) in
      let (port, found) = there one one_below (subscriber_of (get_or readers one 0) ports.subscribers) refl in
      let (subscriber, by_name, rest) = s.subscribers (get_or readers one 0) port found in
      let number_same : get_or readers one 0 ≡ get_or readers other 0 = s.named_subscribers.apart (get_or readers one 0)
      (get_or readers other 0)
      (some_name names.subscriber service.subscribers (get_or readers one 0) subscriber s.named_subscribers by_name) same in
      subscribers_once decision asks domain none readers h.subscribers one other (get_or readers one 0) (reader_at one one_below)
      (reader_at other other_below ∙ ap (λ n. Some n) (sym number_same))
    where
      there : (place : ℕ) → place < length readers → (port : Option SubscriberPort)
          → subscriber_of (get_or readers place 0) ports.subscribers ≡ port
          → (one : SubscriberPort) × (subscriber_of (get_or readers place 0) ports.subscribers ≡ Some one)
      there place below None is = absurd (cc (
        readers_there decision asks domain readers none h.subscribers place (get_or readers place 0)
            (reader_at place below),
        is,
      ))
      there place below (Some one) is = (one, is)

  lends_none : (number : ℕ) (port : Option (PublisherPort T U)) → port_of number ports.publishers ≡ port → loans_at_port port ≡ []
  lends_none number None is = refl
  lends_none number (Some port) is = ap (map (λ (loan : Loan T U). loan.slot)) (rested decision asks domain number port none
      is).quiet.unlent

  borrows_none : (number index : ℕ) (port : Option (PublisherPort T U)) → port_of number ports.publishers ≡ port
      → map (λ (message : Message T U). message.slot) (connection_at_port index port).borrowed ≡ []
  borrows_none number index None is = refl
  borrows_none number index (Some port) is = ap (map (λ (message : Message T U). message.slot)) ((rested decision asks domain number port
      none is).none
      index)

  -- a lane gave the same number last as its publisher
  last_there : (place : ℕ) (lane : PublisherLaneState) → slice_get m.publishers place ≡ Some lane
      → (number : ℕ) × (port : PublisherPort T U) × (port_of number ports.publishers ≡ Some port) × (lane.last ≡ port.last_sequence)
  last_there place lane found =
      let below : place < length senders = omega (arith, slice_get_within m.publishers place lane found, h.publisher_count) in
      let (port, is, other, got, of) = lane_of spelling m.table
      (port_if ports.publishers (slice_get senders place)) (slice_get m.publishers place)
      (h.sending place below) in
      let same : other ≡ lane = some_is other lane (sym got ∙ found) in
      (get_or senders place 0, port, port_at place port below is, ap (λ (l : PublisherLaneState). l.last) (sym same) ∙ of.last)

  numbers_fit : NumbersFit numbered m
  numbers_fit = record {
    wide = wide;
    each = λ place lane found.
        let (number, port, there, last) = last_there place lane found in
        ap is_some last
        ∙ beq_same (is_some port.last_sequence) numbered (not_no (beq (is_some port.last_sequence) numbered)
        (well_numbered decision asks domain none number port there).0);
    low = λ place lane last found is.
        let (number, port, there, same) = last_there place lane found in
        let small = not_large last (ap is_too_large (sym is ∙ same) ∙ (well_numbered decision asks domain none number port there).1) in
        omega (arith, small);
  }

  pub have_messages : HaveMessages value own m service
  have_messages = record {
    publishers = publisher_there;
    mailboxes = λ connection link found. (each_mailbox connection link found).0;
    kinds = λ connection link found. (each_mailbox connection link found).1;
    publishers_apart = senders_apart;
    subscribers_apart = readers_apart;
    loans = s.loans.same ∙ ap (map (λ (entry : ℕ × LentSlot). (entry.0, loan_as names ports entry.1)))
        (none_lent lent (λ publisher. s.loans.all publisher ∙ lends_none publisher (port_of publisher ports.publishers) refl));
    samples = s.samples.same ∙ ap (map (λ (entry : ℕ × Taken). (entry.0, sample_as names ports entry.1)))
        (none_held held (λ publisher index. s.samples.all publisher index
        ∙ borrows_none publisher index (port_of publisher ports.publishers) refl));
    numbers = numbers_fit;
  }
