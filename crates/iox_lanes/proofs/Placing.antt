-- The messages of a domain lie in the slots of the lanes that are built of it.
use Rattle.std.proofs.Common.{arith, ℕ, zero, suc, ◌≡◌, ◌+◌, ◌*◌, ◌/◌, ◌<◌, ◌≤◌, ◌⊎◌, Bool, List, [], ◌∷◌, ◌++◌, length, slice_get}
use Rattle.std.proofs.Common.{slice_index, Option, None, Some, refl, sym, ◌∙◌, ap, subst, inl, inr}
use Rattle.std.proofs.lemmas.Bool.Decides.{eqb_tells}
use Rattle.std.proofs.lemmas.Nat.{div-mul-add, mul-le, row_fits}
use Rattle.std.proofs.lemmas.Option.{slice_get-get_or, get_or_from_slice_get, slice_get_within}
use Rattle.iox_domain.specs.DomainValues.declared.backpressure.BackpressureDecision.{BackpressureDecision}
use Rattle.iox_domain.specs.DomainPorts.Messages.{Message}
use Rattle.iox_domain.specs.DomainPorts.Ports.{connection_of}
use Rattle.iox_domain.specs.DomainPorts.Publishers.{port_of}
use Rattle.iox_domain.specs.DomainPorts.declared.publisher_port.PublisherPort.{PublisherPort}
use Rattle.iox_domain.specs.Kept.{kept_under}
use Rattle.iox_domain.specs.Subscribers.{subscriber_of}
use Rattle.iox_domain.specs.declared.domain.Domain.{Domain}
use Rattle.iox_lanes_machine.specs.LanesBase.Numbers.{slot_words, IsSlotWord, IsWord}
use Rattle.iox_lanes_machine.specs.LanesBase.Table.{held_by}
use Rattle.iox_lanes_machine.specs.LanesBase.declared.words.sizes.TableSizes.{TableSizes}
use Rattle.iox_lanes_machine.specs.LanesBase.declared.words.word.SharedWord.TheVariants.{Slot}
use Rattle.iox_lanes_machine.specs.LanesBase.declared.words.word.SlotWord.{SlotWord}
use Rattle.iox_lanes_machine.specs.LanesBase.declared.words.word.SlotWord.TheVariants.{Header, UserHeader, Payload}
use Rattle.iox_lanes_machine.specs.Made.{publisher_at, start, table_sizes}
use Rattle.iox_lanes_machine.specs.World.{World}
use Rattle.iox_lanes_machine.specs.declared.found.Found.{Found}
use Rattle.iox_lanes_machine.specs.declared.found.Found.TheVariants as found
use Rattle.iox_lanes_machine.proofs.Ends.{some_is}
use Rattle.iox_lanes_machine.proofs.Start.{listed_at}
use Rattle.iox_lanes_machine.proofs.StartUses.{start_kept}
use Rattle.iox_lanes_opening.specs.Deciding.{would_fail}
use Rattle.iox_lanes.specs.Alone.{IsAlone, IsMessageOf}
use Rattle.iox_lanes.specs.Behind.{behind_findings, behind_finding}
use Rattle.iox_lanes.specs.Built.{AreBuilt}
use Rattle.iox_lanes.specs.Laid.{first_slot, flat_listed, header_findings, history_findings, link_findings, message_findings}
use Rattle.iox_lanes.specs.Laid.{messages_behind, payload_findings, publisher_behind, sender_behind, slot_in, slots_in}
use Rattle.iox_lanes.specs.Lying.{PayloadLies, WordsLie}
use Rattle.iox_lanes.specs.Spelling.{Spelling}
use Rattle.iox_lanes.specs.Tied.{tie_for}
use Rattle.iox_lanes.proofs.Each.{each_of, each_word, in_flat, in_flat_listed, in_left, in_listed, in_right, readers_leave, Each, IsIn}
use Rattle.iox_lanes.proofs.Saying.{counted, few_slots, found_at}
use Rattle.iox_lanes.proofs.Settling.{introduces, settle}
use Rattle.iox_lanes.proofs.Wording.{comes_behind, hold_behind, hold_on, steady_on, Agrees, AreSteady, Hold}

-- the words of the first value
abbrev pub first_words : {T : Type 0} → (T → List ℕ) → List T → List ℕ
first_words words [] = []
first_words words (value ∷ rest) = words value

first_is : {T : Type 0} (words : T → List ℕ) (values : List T) (value : T) → slice_get values 0 ≡ Some value
    → words value ≡ first_words words values
first_is words [] value there = absurd (cc there)
first_is words (first ∷ rest) value there = ap words (sym (some_is first value there))

-- what the slot of a message is to hold
abbrev pub content_of : {T U : Type 0} → Spelling T U → PublisherPort T U → Message T U → SlotWord → ℕ
content_of spelling port message (Header word)
    = slice_index (port.owner.node_id ∷ port.number ∷ message.elements ∷ []) word
content_of spelling port message (UserHeader word) = slice_index (spelling.middle (message.sequence, message.user_header)) word
content_of spelling port message (Payload word) = slice_index (first_words spelling.payload message.values) word

module _ {T U : Type 0} (spelling : Spelling T U) (first : ℕ) (port : PublisherPort T U) where
  -- what is found of a message is that
  agree_own : (slot : ℕ) (message : Message T U)
      → Each (Agrees slot (content_of spelling port message)) (message_findings spelling first port message)
  agree_own slot message =
      each_word spelling (Agrees slot (content_of spelling port message))
      (slot_in first message.slot) port.owner.node_id port.number message.elements (message.sequence, message.user_header) message.values
      (λ same. refl) (λ same. refl) (λ same. refl) (λ word below same. refl)
      (λ word below value there same. ap (λ words. slice_index words word) (first_is spelling.payload message.values value there))

  -- and that of one in another slot is no matter
  agree_apart : (slot : ℕ) (content : SlotWord → ℕ) (message : Message T U) → (slot_in first message.slot ≡ slot → ⊥)
      → Each (Agrees slot content) (message_findings spelling first port message)
  agree_apart slot content message apart =
      each_word spelling (Agrees slot content) (slot_in first message.slot)
      port.owner.node_id port.number message.elements (message.sequence, message.user_header) message.values
      (λ same. absurd (apart same)) (λ same. absurd (apart same)) (λ same. absurd (apart same)) (λ word below same. absurd (apart same))
      (λ word below value there same. absurd (apart same))

  in_payload : (slot word : ℕ) (values : List T) (value : T) → slice_get values 0 ≡ Some value → word < spelling.payload_count
      → IsIn (found.Held slot (Payload word) (slice_index (first_words spelling.payload values) word))
      (payload_findings spelling.payload spelling.payload_count slot values)
  in_payload slot word [] value there below = absurd (cc there)
  in_payload slot word (own ∷ rest) value there below
      = in_listed (λ at. found.Held slot (Payload at) (slice_index (spelling.payload own) at)) spelling.payload_count word below

  -- each word of its slot is found
  in_message : (sizes : TableSizes) (message : Message T U) (value : T) (word : SlotWord) → slice_get message.values 0 ≡ Some value
      → sizes.payload_words ≡ spelling.payload_count → sizes.user_header_words ≡ spelling.middle_count → IsSlotWord sizes word
      → IsIn (found.Held (slot_in first message.slot) word (content_of spelling port message word))
      (message_findings spelling first port message)
  in_message sizes message value (Header zero) there payload header is = inl refl
  in_message sizes message value (Header (suc zero)) there payload header is = inr (inl refl)
  in_message sizes message value (Header (suc (suc zero))) there payload header is = inr (inr (inl refl))
  in_message sizes message value (Header (suc (suc (suc word)))) there payload header is = absurd (omega (arith, is))
  in_message sizes message value (UserHeader word) there payload header is =
      inr (inr (inr (in_left (found.Held (slot_in first message.slot) (UserHeader word)
      (slice_index (spelling.middle (message.sequence, message.user_header)) word))
      (header_findings spelling.middle spelling.middle_count (slot_in first message.slot) (message.sequence, message.user_header))
      (payload_findings spelling.payload spelling.payload_count (slot_in first message.slot) message.values)
      (in_listed (λ at. found.Held (slot_in first message.slot) (UserHeader at)
      (slice_index (spelling.middle (message.sequence, message.user_header)) at)) spelling.middle_count word (omega (arith, is, header))))))
  in_message sizes message value (Payload word) there payload header is =
      inr (inr (inr (in_right (found.Held (slot_in first message.slot) (Payload word)
      (slice_index (first_words spelling.payload message.values) word))
      (header_findings spelling.middle spelling.middle_count (slot_in first message.slot) (message.sequence, message.user_header))
      (payload_findings spelling.payload spelling.payload_count (slot_in first message.slot) message.values)
      (in_payload (slot_in first message.slot) word message.values value there (omega (arith, is, payload))))))

-- places in two rows are two places
pub rows_apart : (one other width at to : ℕ) → at < width → to < width → one * width + at ≡ other * width + to → one ≡ other
rows_apart one other width at to below beneath same
    = sym (div-mul-add one width at below) ∙ ap (λ n. n / width) same ∙ div-mul-add other width to beneath

pub steady_behind : (sizes : TableSizes) (m : World) (fs : List Found) → AreSteady sizes m → AreSteady sizes (behind_findings m fs)
unfolding behind_findings
steady_behind sizes m [] steady = steady
steady_behind sizes m (f ∷ fs) steady = steady_behind sizes (behind_finding m f) fs (steady_on sizes m f steady)

module _ {T U B D : Type 0} (decision : B → Option BackpressureDecision) (spelling : Spelling T U) (domain : Domain T U B D)
    (publishers subscribers : List ℕ) (lanes : World)
    (built : AreBuilt decision spelling domain publishers subscribers lanes) where
  abbrev pub width : ℕ
  width = ((built.sized).sizes).slots

  abbrev pub table : TableSizes
  table = table_sizes (built.sized).sizes

  abbrev pub ports : List (ℕ × PublisherPort T U)
  ports = domain.state.ports.publishers

  abbrev pub tie_at : PublisherPort T U → ℕ → ℕ
  tie_at port other = tie_for port (subscriber_of (slice_index subscribers other) domain.state.ports.subscribers)

  -- the lanes after the first n publishers
  abbrev pub so_far : ℕ → World
  so_far count = found_at decision spelling domain publishers subscribers lanes built count

  -- a message is one that is laid: of the history, or it waits at a connection to a subscriber of the lanes
  abbrev pub IsLaidOf : PublisherPort T U → Message T U → Type 0
  IsLaidOf port message = ((at : ℕ) × (slice_get port.sender.uses.history at ≡ Some message))
      ⊎ ((other : ℕ) × (at : ℕ) × (other < length subscribers)
      × (slice_get (connection_of (tie_at port other) port).waiting at ≡ Some message))

  is_of : (port : PublisherPort T U) (message : Message T U) → IsLaidOf port message → IsMessageOf port message
  is_of port message (inl kept) = inl kept
  is_of port message (inr waits) = inr (tie_at port waits.0, waits.1, waits.3)

  is_alone : (place number : ℕ) (port : PublisherPort T U) (message : Message T U) → slice_get publishers place ≡ Some number
      → port_of number ports ≡ Some port → IsLaidOf port message → IsAlone port message
  is_alone place number port message listed found (inl kept) = (built.alone place number port listed found).remembered kept.0 message kept.1
  is_alone place number port message listed found (inr waits)
      = (built.alone place number port listed found).waiting waits.0 waits.2 waits.1 message waits.3

  pub below_width : (place number : ℕ) (port : PublisherPort T U) (message : Message T U) → slice_get publishers place ≡ Some number
      → port_of number ports ≡ Some port → IsLaidOf port message → message.slot < width
  below_width place number port message listed found laid =
      let within = slice_get_within publishers place number listed in
      let few = few_slots (built.sized).sizes (omega (arith, within, ((built.sized).are_agreed).as_many_publishers)) built.small in
      let fit = built.room place number port listed found in
      omega (arith, (is_alone place number port message listed found laid).inside, counted port width fit few, fit)

  pub all_slots : (place slot : ℕ) → place < length publishers → slot < width → (place * width + slot < table.slots)
      × (slot_in (place * width) slot ≡ place * width + slot)
  all_slots place slot within below =
      let row = row_fits place width ((built.sized).sizes).publishers width
      (omega (arith, within, ((built.sized).are_agreed).as_many_publishers))
      (omega arith) in
      let all = mul-le table.slots 1 table.slots (slot_words table) (omega arith) (omega arith) in
      (omega (arith, row, below), omega (arith, row, below, all, built.small))

  module _ (place number : ℕ) (port : PublisherPort T U) (message : Message T U) (value : T)
      (listed : slice_get publishers place ≡ Some number) (found_port : port_of number ports ≡ Some port)
      (laid : IsLaidOf port message) (one : message.values ≡ value ∷ []) where
    abbrev slot : ℕ
    slot = slot_in (place * width) message.slot

    abbrev content : SlotWord → ℕ
    content = content_of spelling port message

    within : place < length publishers
    within = slice_get_within publishers place number listed

    slot_is : slot ≡ place * width + message.slot
    slot_is = (all_slots place message.slot within (below_width place number port message listed found_port laid)).1

    -- each message that is laid agrees with what the slot is to hold
    agree_any : (at other_number : ℕ) (own : PublisherPort T U) (other : Message T U) → slice_get publishers at ≡ Some other_number
        → port_of other_number ports ≡ Some own → IsLaidOf own other
        → Each (Agrees slot content) (message_findings spelling (at * width) own other)
    agree_any at other_number own other there found other_laid = elim (eqb_tells at place) [
      | inl same_place ↦ by_slot same_place.1
      | inr apart ↦ agree_apart spelling (at * width) own slot content other
          (λ same. apart.1 (rows_apart at place width other.slot message.slot below
          (below_width place number port message listed found_port laid) (sym own_slot ∙ same ∙ slot_is)))
    ]
      where
        below : other.slot < width
        below = below_width at other_number own other there found other_laid

        own_slot : slot_in (at * width) other.slot ≡ at * width + other.slot
        own_slot = (all_slots at other.slot (slice_get_within publishers at other_number there) below).1

        same_port : at ≡ place → own ≡ port
        same_port same = some_is own port (sym found ∙ ap (λ n. port_of n ports)
            (some_is other_number number (sym there ∙ ap (slice_get publishers) same ∙ listed)) ∙ found_port)

        by_slot : at ≡ place → Each (Agrees slot content)
            (message_findings spelling (at * width) own other)
        by_slot same = elim (eqb_tells other.slot message.slot) [
          | inl equal ↦
              let alone = is_alone place number port message listed found_port laid in
              let of_port : IsMessageOf port other
              = subst (λ (p : PublisherPort T U). IsMessageOf p other) (same_port same) (is_of own other other_laid) in
              let is : message ≡ other = alone.only message other (is_of port message laid) of_port refl equal.1 in
              subst (λ (p : PublisherPort T U). Each (Agrees slot content)
              (message_findings spelling (at * width) p other)) (sym (same_port same))
              (subst (λ (m : Message T U). Each (Agrees slot content)
              (message_findings spelling (at * width) port m)) is (agree_own spelling (at * width) port slot message))
          | inr apart ↦ agree_apart spelling (at * width) own slot content other
              (λ equal. apart.1 (omega (arith, sym own_slot ∙ equal ∙ slot_is, ap (λ n. n * width) same)))
        ]

    agree_all : (at other_number : ℕ) (own : PublisherPort T U) → slice_get publishers at ≡ Some other_number
        → port_of other_number ports ≡ Some own
        → Each (Agrees slot content) (history_findings spelling at (at * width) own own.sender.uses.history)
        × Each (Agrees slot content) (flat_listed
        (λ other. link_findings spelling at other (at * width) own (tie_at own other)) (length subscribers))
    agree_all at other_number own there found =
        each_of spelling (Agrees slot content) at (at * width) own (tie_at own) (length subscribers)
        (λ k other is. agree_any at other_number own other there found (inl (k, is)))
        (λ reader below k other is. agree_any at other_number own other there found (inr (reader, k, below, is)))
        (λ n. tt) (λ reader n. tt) (λ reader n. tt)

    module _ (word : SlotWord) (is_word : IsSlotWord table word) where
      whole_word : IsWord table (Slot slot word)
      whole_word = (
        subst (λ n. n < table.slots) (sym slot_is)
            (all_slots place message.slot within (below_width place number port message listed found_port laid)).0,
        is_word,
      )

      abbrev Holds : World → Type 0
      Holds m = Hold table slot content word whole_word m

      in_words : IsIn (found.Held slot word (content word))
          (message_findings spelling (place * width) port message)
      in_words = in_message spelling (place * width) port table message value word
          (ap (λ vs. slice_get vs 0) one) ((built.sized).are_agreed).payload ((built.sized).are_agreed).user_header is_word

      -- the slot comes to hold it as its own publisher is laid
      comes_own : (m : World) → AreSteady table m
          → Holds (behind_findings (behind_findings m
          (history_findings spelling place (place * width) port port.sender.uses.history))
          (flat_listed (λ other. link_findings spelling place other (place * width) port (tie_at port other)) (length subscribers)))
      comes_own m steady = by laid
        where
          kept : List Found
          kept = history_findings spelling place (place * width) port port.sender.uses.history

          links : List Found
          links = flat_listed (λ other. link_findings spelling place other (place * width) port (tie_at port other)) (length subscribers)

          agree : Each (Agrees slot content) kept × Each (Agrees slot content) links
          agree = agree_all place number port listed found_port

          by : IsLaidOf port message → Holds (behind_findings (behind_findings m kept) links)
          by (inl there) =
              hold_behind table slot content word whole_word (behind_findings m kept) links agree.1
              (comes_behind table slot content word whole_word m kept
              (in_flat (found.Held slot word (content word))
              (λ one. message_findings spelling (place * width) port one ++ found.Newest place (slot_in (place * width) one.slot) ∷ [])
              port.sender.uses.history there.0 message there.1
              (in_left (found.Held slot word (content word))
              (message_findings spelling (place * width) port message) (found.Newest place slot ∷ []) in_words)) agree.0 steady)
          by (inr waits) =
              comes_behind table slot content word whole_word (behind_findings m kept) links
              (in_flat_listed (found.Held slot word (content word))
              (λ other. link_findings spelling place other (place * width) port (tie_at port other)) (length subscribers) waits.0 waits.2
              (inr (in_flat (found.Held slot word (content word))
              (λ one. message_findings spelling (place * width) port one
              ++ found.Waiting place waits.0 (slot_in (place * width) one.slot) ∷ [])
              (connection_of (tie_at port waits.0) port).waiting waits.1 message waits.3
              (in_left (found.Held slot word (content word))
              (message_findings spelling (place * width) port message)
              (found.Waiting place waits.0 slot ∷ []) in_words)))) agree.1 (steady_behind table m kept steady)

      -- lanes after the first n publishers: if the message's own is among them, its slot holds the word
      record AreLaidTo (m : World) (count : ℕ) : Type 0 where
        pub steady : AreSteady table m
        pub holds : place < count → held_by m.table (Slot slot word) ≡ content word

      lay_one : (m : World) (count : ℕ) (own : Option (PublisherPort T U)) → count < length publishers
          → port_of (slice_index publishers count) ports ≡ own
          → m.moments ≡ 0 → slice_get m.publishers count ≡ slice_get (start (built.sized).sizes).publishers count → AreLaidTo m count
          → AreLaidTo (publisher_behind spelling domain.state.ports.subscribers subscribers m count
          (would_fail decision (kept_under (slice_index publishers count) domain.state.publisher_handlers)) own) (suc count)
      lay_one m count None below is fresh rest sofar = record {
        steady = sofar.steady;
        holds = λ less. elim (eqb_tells place count) [
          | inl same ↦ absurd (cc (sym is ∙ ap (λ n. port_of (slice_index publishers n) ports) (sym same.1) ∙ ap (λ n. port_of n ports)
              (get_or_from_slice_get publishers place number 0 listed) ∙ found_port))
          | inr apart ↦ sofar.holds (omega (arith, less, apart.1))
        ];
      }
      lay_one m count (Some own) below is fresh rest sofar =
          subst (λ n. AreLaidTo (messages_behind spelling domain.state.ports.subscribers
          subscribers count own n begun) (suc count)) (sym first_is) (record {
            steady = steady_behind table (behind_findings begun kept) links (steady_behind table begun kept begun_steady);
            holds = λ less. elim (eqb_tells place count) [
              | inl same ↦ subst (λ n. Laid n own) same.1
                  (subst (λ p. Laid place p) (sym (same_port same.1)) (comes_own begun begun_steady).holds)
              | inr apart ↦ (hold_behind table slot content word whole_word (behind_findings begun kept) links agree.1
                  (hold_behind table slot content word whole_word begun kept agree.0 (held (omega (arith, less, apart.1))))).holds
            ];
          })
        where
          fails : Bool
          fails = would_fail decision (kept_under (slice_index publishers count) domain.state.publisher_handlers)

          sized : World
          sized = behind_finding m (found.Slots count (slots_in own) own.sender.uses.most_loans)

          begun : World
          begun = sender_behind m count fails own

          here : slice_get publishers count ≡ Some (slice_index publishers count)
          here = slice_get-get_or publishers count 0 below

          first_is : first_slot (slice_get begun.publishers count) ≡ count * width
          first_is = ap first_slot (introduces (built.sized).sizes m count fails own fresh
              (rest ∙ listed_at (publisher_at (built.sized).sizes) ((built.sized).sizes).publishers count
              (omega (arith, below, ((built.sized).are_agreed).as_many_publishers)))
              (built.room count (slice_index publishers count) own here is)).here

          begun_steady : AreSteady table begun
          begun_steady = steady_on table sized (found.Sender count own.owner.node_id own.number fails own.last_sequence)
              (steady_on table m (found.Slots count (slots_in own) own.sender.uses.most_loans) sofar.steady)

          held : place < count → Holds begun
          held less =
              hold_on table slot content word whole_word sized (found.Sender count own.owner.node_id own.number fails own.last_sequence) tt
              (hold_on table slot content word whole_word m (found.Slots count (slots_in own) own.sender.uses.most_loans) tt
              (record { steady = sofar.steady; holds = sofar.holds less }))

          kept : List Found
          kept = history_findings spelling count (count * width) own own.sender.uses.history

          links : List Found
          links = flat_listed (λ other. link_findings spelling count other (count * width) own (tie_at own other)) (length subscribers)

          agree : Each (Agrees slot content) kept × Each (Agrees slot content) links
          agree = agree_all count (slice_index publishers count) own here is

          same_port : place ≡ count → own ≡ port
          same_port same = some_is own port (sym is ∙ ap (λ n. port_of (slice_index publishers n) ports) (sym same) ∙ ap
              (λ n. port_of n ports) (get_or_from_slice_get publishers place number 0 listed) ∙ found_port)

          Laid : ℕ → PublisherPort T U → Type 0
          Laid at of_it = held_by (messages_behind spelling domain.state.ports.subscribers
              subscribers at of_it (at * width) begun).table (Slot slot word) ≡ content word

      lay_all : (count : ℕ) → count ≤ length publishers → AreLaidTo (so_far count) count
      lay_all zero few = record {
        steady = record {
          moments = refl;
          table = refl;
          kept
              = start_kept (built.sized).sizes ((built.sized).found).some ((built.sized).found).ports ((built.sized).found).small;
        };
        holds = λ less. absurd (omega (arith, less));
      }
      lay_all (suc count) few =
          let settled = settle decision spelling domain publishers subscribers (built.sized).sizes
          ((built.sized).are_agreed).as_many_publishers built.room count (omega (arith, few)) in
          lay_one (so_far count) count (port_of (slice_index publishers count) ports) (omega (arith, few)) refl settled.moments
          (settled.rest count (omega arith)) (lay_all count (omega (arith, few)))

      -- the slot holds the word in the end
      lies : Holds lanes
      lies =
          let laid = lay_all (length publishers) (omega arith) in
          subst Holds (sym built.behind) (readers_leave Holds
          (λ m who one other hold. hold_on table slot content word whole_word m (found.Swapped who one other) tt hold) publishers
          domain.state.ports.subscribers subscribers
          (so_far (length publishers)) (length subscribers) (record { steady = laid.steady; holds = laid.holds within }))

    -- the message lies there
    pub words_lie : WordsLie spelling lanes.table (place * width + message.slot) port message
    words_lie =
        let sizes_are : lanes.table.sizes ≡ table = ((lies (Header 0) (omega arith)).steady).table in
        subst (λ n. WordsLie spelling lanes.table n port message) slot_is (
          ((lies (Header 0) (omega arith)).holds, (lies (Header 1) (omega arith)).holds, (lies (Header 2) (omega arith)).holds),
          (λ word below. (lies (UserHeader word) (subst (λ s. word < s.user_header_words) sizes_are below)).holds),
          subst (PayloadLies spelling.payload lanes.table slot) (sym one)
              (λ word below. (lies (Payload word) (subst (λ s. word < s.payload_words) sizes_are below)).holds ∙ ap
              (λ vs. slice_index (first_words spelling.payload vs) word) one),
        )
