-- The numbers of the shared words: each its own, and all within the table.
use Rattle.std.proofs.Common.{ℕ, ◌≡◌, ◌+◌, ◌*◌, ◌/◌, ◌%◌, ◌<◌, ◌^◌, refl, sym, ◌∙◌, ap, arith}
use Rattle.std.proofs.lemmas.Nat.{div-mul-add, mod-mul-add, row_fits}
use Rattle.iox_queues_steps.specs.declared.access.Word.{Word}
use Rattle.iox_queues_steps.specs.declared.access.Word.TheVariants.{Write, Read, Cell}
use Rattle.iox_lanes_base.specs.declared.words.word.ConnectionRing.{ConnectionRing}
use Rattle.iox_lanes_base.specs.declared.words.word.ConnectionRing.TheVariants.{Submission, Completion}
use Rattle.iox_lanes_base.specs.declared.words.word.SlotWord.{SlotWord}
use Rattle.iox_lanes_base.specs.declared.words.word.SlotWord.TheVariants.{Header, UserHeader, Payload}
use Rattle.iox_lanes_base.specs.declared.words.word.SharedWord.{SharedWord}
use Rattle.iox_lanes_base.specs.declared.words.word.SharedWord.TheVariants.{Ring, Slot}
use Rattle.iox_lanes_base.specs.declared.words.sizes.TableSizes.{TableSizes}
use Rattle.iox_lanes_base.specs.Numbers.{connection_words, slot_words, slots_first, ring_offset, ring_word_number, slot_word_number}
use Rattle.iox_lanes_base.specs.Numbers.{number_of, most_cells, IsRingWord, IsSlotWord, IsWord, IsSmall, AreApart, AreWithin}

-- rows of one width: a place has one row and one column
same_place : (w a b o p : ℕ) → o < w → p < w → a * w + o ≡ b * w + p → (a ≡ b) × (o ≡ p)
same_place w a b o p left right e = (
  sym (div-mul-add a w o left) ∙ ap (λ (n : ℕ). n / w) e ∙ div-mul-add b w p right,
  sym (mod-mul-add a w o left) ∙ ap (λ (n : ℕ). n % w) e ∙ mod-mul-add b w p right,
)

-- a ring's word lies within its ring
in_cells : (cells : ℕ) (word : Word) → IsRingWord cells word → ring_word_number word < 2 + cells
in_cells cells Write h = omega arith
in_cells cells Read h = omega arith
in_cells cells (Cell cell) h = omega (arith, h)

-- a ring's word lies within its connection
in_connection : (sizes : TableSizes) (ring : ConnectionRing) (word : Word) → IsRingWord (most_cells sizes ring) word
    → ring_offset sizes ring + ring_word_number word < connection_words sizes
in_connection sizes Submission word h = omega (arith, in_cells sizes.submission_cells word h)
in_connection sizes Completion word h = omega (arith, in_cells sizes.completion_cells word h)

-- a slot's word lies within its slot
in_slot : (sizes : TableSizes) (word : SlotWord) → IsSlotWord sizes word → slot_word_number sizes word < slot_words sizes
in_slot sizes (Header word) h = omega (arith, h)
in_slot sizes (UserHeader word) h = omega (arith, h)
in_slot sizes (Payload word) h = omega (arith, h)

-- words of a ring with one number are one
same_ring_word : (one other : Word) → ring_word_number one ≡ ring_word_number other → one ≡ other
same_ring_word Write Write e = refl
same_ring_word Write Read e = absurd (omega (arith, e))
same_ring_word Write (Cell cell) e = absurd (omega (arith, e))
same_ring_word Read Write e = absurd (omega (arith, e))
same_ring_word Read Read e = refl
same_ring_word Read (Cell cell) e = absurd (omega (arith, e))
same_ring_word (Cell cell) Write e = absurd (omega (arith, e))
same_ring_word (Cell cell) Read e = absurd (omega (arith, e))
same_ring_word (Cell cell) (Cell other) e = ap (λ (n : ℕ). Cell n) (omega (arith, e))

-- words of a connection with one number are one
same_in_connection : (sizes : TableSizes) (ring other : ConnectionRing) (x y : Word) → IsRingWord (most_cells sizes ring) x
    → IsRingWord (most_cells sizes other) y
    → ring_offset sizes ring + ring_word_number x ≡ ring_offset sizes other + ring_word_number y → (ring ≡ other) × (x ≡ y)
same_in_connection sizes Submission Submission x y h k e = (refl, same_ring_word x y (omega (arith, e)))
same_in_connection sizes Submission Completion x y h k e = absurd (omega (arith, e, in_cells sizes.submission_cells x h))
same_in_connection sizes Completion Submission x y h k e = absurd (omega (arith, e, in_cells sizes.submission_cells y k))
same_in_connection sizes Completion Completion x y h k e = (refl, same_ring_word x y (omega (arith, e)))

-- words of a slot with one number are one
same_slot_word : (sizes : TableSizes) (one other : SlotWord) → IsSlotWord sizes one → IsSlotWord sizes other
    → slot_word_number sizes one ≡ slot_word_number sizes other → one ≡ other
same_slot_word sizes (Header x) (Header y) h k e = ap (λ (n : ℕ). Header n) (omega (arith, e))
same_slot_word sizes (Header x) (UserHeader y) h k e = absurd (omega (arith, e, h))
same_slot_word sizes (Header x) (Payload y) h k e = absurd (omega (arith, e, h))
same_slot_word sizes (UserHeader x) (Header y) h k e = absurd (omega (arith, e, k))
same_slot_word sizes (UserHeader x) (UserHeader y) h k e = ap (λ (n : ℕ). UserHeader n) (omega (arith, e))
same_slot_word sizes (UserHeader x) (Payload y) h k e = absurd (omega (arith, e, h))
same_slot_word sizes (Payload x) (Header y) h k e = absurd (omega (arith, e, k))
same_slot_word sizes (Payload x) (UserHeader y) h k e = absurd (omega (arith, e, k))
same_slot_word sizes (Payload x) (Payload y) h k e = ap (λ (n : ℕ). Payload n) (omega (arith, e))

-- a word of a connection lies before the slots
before_slots : (sizes : TableSizes) (connection : ℕ) (ring : ConnectionRing) (word : Word) → connection < sizes.connections
    → IsRingWord (most_cells sizes ring) word → number_of sizes (Ring connection ring word) < slots_first sizes
before_slots sizes connection ring word h k =
    omega (
      arith,
      in_connection sizes ring word k,
      row_fits connection (connection_words sizes) sizes.connections (connection_words sizes)
          h (omega arith),
    )

ring_same : (c d : ℕ) (r s : ConnectionRing) (x y : Word) → c ≡ d → (r ≡ s) × (x ≡ y) → Ring c r x ≡ Ring d s y
ring_same c d r s x y e f = cc (e, f.0, f.1)

slot_same : (c d : ℕ) (x y : SlotWord) → c ≡ d → x ≡ y → Slot c x ≡ Slot d y
slot_same c d x y e f = cc (e, f)

pub apart : AreApart
apart sizes (Ring c r x) (Ring d s y) h k e =
    let same : (c ≡ d) × (ring_offset sizes r + ring_word_number x ≡ ring_offset sizes s + ring_word_number y) =
    same_place (connection_words sizes) c d (ring_offset sizes r + ring_word_number x) (ring_offset sizes s + ring_word_number y)
    (in_connection sizes r x h.1) (in_connection sizes s y k.1) (omega (arith, e)) in
    ring_same c d r s x y same.0 (same_in_connection sizes r s x y h.1 k.1 same.1)
apart sizes (Ring c r x) (Slot d y) h k e = absurd (omega (arith, e, before_slots sizes c r x h.0 h.1))
apart sizes (Slot c x) (Ring d s y) h k e = absurd (omega (arith, e, before_slots sizes d s y k.0 k.1))
apart sizes (Slot c x) (Slot d y) h k e =
    let same : (c ≡ d) × (slot_word_number sizes x ≡ slot_word_number sizes y) =
    same_place (slot_words sizes) c d (slot_word_number sizes x) (slot_word_number sizes y) (in_slot sizes x h.1) (in_slot sizes y k.1)
    (omega (arith, e)) in
    slot_same c d x y same.0 (same_slot_word sizes x y h.1 k.1 same.1)

pub within : AreWithin
within sizes (Ring c r x) h = (omega arith, omega (arith, before_slots sizes c r x h.0 h.1))
within sizes (Slot c x) h
    = (omega arith, omega (arith, in_slot sizes x h.1, row_fits c (slot_words sizes) sizes.slots (slot_words sizes) h.0 (omega arith)))

-- a word's number has 64 bits
pub number_fits : (sizes : TableSizes) (word : SharedWord) → IsWord sizes word → IsSmall sizes → number_of sizes word < 2 ^ 64
number_fits sizes word h small = omega (arith, (within sizes word h).1, small.all)
