-- The words of a message, and those that its slot holds.
use Rattle.std.proofs.Common.{ℕ, ◌≡◌, ◌+◌, ◌-◌, ◌<◌, ◌≤◌, ◌==◌, Bool, true, false, if◌then◌else◌, nat_lt, List, [], ◌∷◌, ◌++◌, length}
use Rattle.std.proofs.Common.{get_or, refl, sym, ◌∙◌, ap, subst, inl, inr, arith}
use Rattle.std.proofs.lemmas.Bool.{cases_lt, ltb-true, ltb-false}
use Rattle.std.proofs.lemmas.Bool.Decides.{eqb_tells}
use Rattle.std.proofs.lemmas.List.{ext_get_or, get_or_append_left, get_or-append-add, length-append}
use Rattle.iox_lanes_machine.specs.LanesBase.Numbers.{IsWord}
use Rattle.iox_lanes_machine.specs.LanesBase.Table.{TableWords, held_by}
use Rattle.iox_lanes_machine.specs.LanesBase.declared.words.sizes.TableSizes.{TableSizes}
use Rattle.iox_lanes_machine.specs.LanesBase.declared.words.word.SharedWord.TheVariants.{Slot}
use Rattle.iox_lanes_machine.specs.LanesBase.declared.words.word.SlotWord.{SlotWord}
use Rattle.iox_lanes_machine.specs.LanesBase.declared.words.word.SlotWord.TheVariants.{Header, UserHeader, Payload}
use Rattle.iox_lanes_machine.specs.LanesBase.Subscribing.{word_at}
use Rattle.iox_lanes_machine.proofs.Entries.{choose_one, choose_other}
use Rattle.iox_lanes_machine.specs.Held.{extent_of, slot_held, HoldsFirst}
use Rattle.iox_lanes_machine.specs.Left.{HoldsAllHead}
use Rattle.iox_lanes_machine.specs.Reads.{width}
use Rattle.iox_lanes_machine.proofs.Held.{word_is}
use Rattle.iox_lanes_machine.proofs.Start.{listed_get, listed_length}
use Rattle.iox_lanes_laws.specs.Messages.{MessageState, payload_held, last_in}

-- a slot holds just these words
pub record Holds (table : TableWords) (slot : ℕ) (words : List ℕ) : Type 0 where
  pub wide : length words ≡ width table.sizes
  pub each : HoldsFirst table slot (width table.sizes) words

-- a slot that is being sent: these words begin with the head that the send stores, and end with the payload that the slot holds
pub record IsSent (table : TableWords) (words head : List ℕ) (slot : ℕ) : Type 0 where
  pub wide : length words ≡ width table.sizes
  pub head_is : (word : ℕ) → word < 3 + table.sizes.user_header_words → get_or words word 0 ≡ get_or head word 0
  pub payload_is : (word : ℕ) → word < table.sizes.payload_words
      → get_or words (3 + table.sizes.user_header_words + word) 0 ≡ held_by table (Slot slot (Payload word))

-- what a slot holds are its words
pub holds_held : (table : TableWords) (slot : ℕ) → Holds table slot (slot_held table slot)
holds_held table slot = record {
  wide = listed_length (λ word. held_by table (Slot slot (word_at (extent_of table.sizes) word))) (width table.sizes);
  each = λ word below. listed_get (λ w. held_by table (Slot slot (word_at (extent_of table.sizes) w))) (width table.sizes) word 0 below;
}

-- and they are no others
pub held_is : (table : TableWords) (slot : ℕ) (words : List ℕ) → Holds table slot words → slot_held table slot ≡ words
held_is table slot words h =
    let own = holds_held table slot in
    ext_get_or 0 (slot_held table slot) words (own.wide ∙ sym h.wide)
    (λ i below. own.each i (omega (arith, below, own.wide)) ∙ sym (h.each i (omega (arith, below, own.wide))))

at_head : (sizes : TableSizes) (word : ℕ) (b d : Bool) → nat_lt word 3 ≡ b → nat_lt (word - 3) sizes.user_header_words ≡ d
    → word < 3 + sizes.user_header_words
    → (if b then Header word else if d then UserHeader (word - 3) else Payload (word - 3 - sizes.user_header_words))
    ≡ (if b then Header word else UserHeader (word - 3))
at_head sizes word true d e f below = refl
at_head sizes word false true e f below = refl
at_head sizes word false false e f below = absurd (omega (arith, ltb-false word 3 e, ltb-false (word - 3) sizes.user_header_words f, below))

pub at_payload : (sizes : TableSizes) (word : ℕ) (b d : Bool) → nat_lt word 3 ≡ b → nat_lt (word - 3) sizes.user_header_words ≡ d
    → 3 + sizes.user_header_words ≤ word
    → (if b then Header word else if d then UserHeader (word - 3) else Payload (word - 3 - sizes.user_header_words))
    ≡ Payload (word - 3 - sizes.user_header_words)
at_payload sizes word true d e f past = absurd (omega (arith, ltb-true word 3 e, past))
at_payload sizes word false true e f past = absurd (omega (arith, ltb-true (word - 3) sizes.user_header_words f, past))
at_payload sizes word false false e f past = refl

-- once its head is stored, the slot holds the words
pub sent_holds : (table : TableWords) (words head : List ℕ) (slot : ℕ) → IsSent table words head slot → HoldsAllHead table slot head
    → Holds table slot words
sent_holds table words head slot h stored = record {
  wide = h.wide;
  each = λ word below. elim (cases_lt word (3 + table.sizes.user_header_words)) [
    | inl lt ↦
        h.head_is word lt ∙ stored word lt
        ∙ ap (λ (w : SlotWord). held_by table (Slot slot w))
        (sym (at_head table.sizes word (nat_lt word 3) (nat_lt (word - 3) table.sizes.user_header_words) refl refl lt))
    | inr ge ↦
        let place : 3 + table.sizes.user_header_words + (word - 3 - table.sizes.user_header_words) ≡ word = omega (arith, ge) in
        ap (λ (k : ℕ). get_or words k 0) (sym place)
        ∙ h.payload_is (word - 3 - table.sizes.user_header_words) (omega (arith, ge, below))
        ∙ ap (λ (w : SlotWord). held_by table (Slot slot w))
        (sym (at_payload table.sizes word (nat_lt word 3) (nat_lt (word - 3) table.sizes.user_header_words) refl refl ge))
  ];
}

-- a message that begins to be sent
pub message_sent : (table : TableWords) (slot : ℕ) (head : List ℕ) → length head ≡ 3 + table.sizes.user_header_words
    → IsSent table (head ++ payload_held table slot) head slot
message_sent table slot head wide =
    let payload : length (payload_held table slot) ≡ table.sizes.payload_words
    = listed_length (λ word. held_by table (Slot slot (Payload word))) table.sizes.payload_words in
    record {
      wide = length-append head (payload_held table slot) ∙ omega (arith, wide, payload);
      head_is = λ word below. get_or_append_left head (payload_held table slot) 0 word (omega (arith, below, wide));
      payload_is = λ word below.
          ap (λ (n : ℕ). get_or (head ++ payload_held table slot) (n + word) 0) (sym wide)
          ∙ get_or-append-add head (payload_held table slot) word 0
          ∙ listed_get (λ w. held_by table (Slot slot (Payload w))) table.sizes.payload_words word 0 below;
    }

-- words that no step touched stay
pub holds_stays : (t u : TableWords) (slot : ℕ) (words : List ℕ) → u.sizes ≡ t.sizes → slot < t.sizes.slots
    → ((word : SlotWord) → IsWord t.sizes (Slot slot word) → held_by u (Slot slot word) ≡ held_by t (Slot slot word))
    → Holds t slot words → Holds u slot words
holds_stays t u slot words e there same h = record {
  wide = h.wide ∙ ap width (sym e);
  each = λ word below.
      let within : word < width t.sizes = subst (λ (s : TableSizes). word < width s) e below in
      h.each word within
      ∙ sym (same (word_at (extent_of t.sizes) word)
      (there, word_is t.sizes word (nat_lt word 3) (nat_lt (word - 3) t.sizes.user_header_words) refl refl within))
      ∙ ap (λ (s : TableSizes). held_by u (Slot slot (word_at (extent_of s) word))) (sym e);
}

pub sent_stays : (t u : TableWords) (words head : List ℕ) (slot : ℕ) → u.sizes ≡ t.sizes
    → ((word : ℕ) → word < t.sizes.payload_words → held_by u (Slot slot (Payload word)) ≡ held_by t (Slot slot (Payload word)))
    → IsSent t words head slot → IsSent u words head slot
sent_stays t u words head slot e same h = record {
  wide = h.wide ∙ ap width (sym e);
  head_is = λ word below. h.head_is word (subst (λ (s : TableSizes). word < 3 + s.user_header_words) e below);
  payload_is = λ word below.
      let within : word < t.sizes.payload_words = subst (λ (s : TableSizes). word < s.payload_words) e below in
      ap (λ (s : TableSizes). get_or words (3 + s.user_header_words + word) 0) e ∙ h.payload_is word within ∙ sym (same word within);
}

-- the last of one message in its slot, and in another
pub last_same : (before : List ℕ) (message : MessageState) (slot : ℕ) → message.slot ≡ slot
    → last_in before (message ∷ []) slot ≡ message.words
last_same before message slot e = elim (eqb_tells message.slot slot) [
  | inl same ↦ choose_one (message.slot == slot) message.words before same.0
  | inr other ↦ absurd (other.1 e)
]

pub last_other : (before : List ℕ) (message : MessageState) (slot : ℕ) → (message.slot ≡ slot → ⊥)
    → last_in before (message ∷ []) slot ≡ before
last_other before message slot not = elim (eqb_tells message.slot slot) [
  | inl same ↦ absurd (not same.1)
  | inr other ↦ choose_other (message.slot == slot) message.words before other.0
]

-- some messages, and then others
pub last_append : (before : List ℕ) (one other : List MessageState) (slot : ℕ)
    → last_in before (one ++ other) slot ≡ last_in (last_in before one slot) other slot
last_append before [] other slot = refl
last_append before (message ∷ one) other slot = last_append (if message.slot == slot then message.words else before) one other slot
