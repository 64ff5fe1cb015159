-- The number of each shared word in one table.
use Rattle.std.specs.Prelude.{ℕ, ◌+◌, ◌*◌, ◌<◌, ◌≡◌, ◌^◌}
use Rattle.iox_queues_steps.specs.declared.access.Word.{Word}
use Rattle.iox_queues_steps.specs.declared.access.Word.TheVariants.{Write, Read, Cell}
use Rattle.iox_lanes_base.specs.declared.words.word.ConnectionRing.{ConnectionRing}
use Rattle.iox_lanes_base.specs.declared.words.word.ConnectionRing.TheVariants.{Submission, Completion}
use Rattle.iox_lanes_base.specs.declared.words.word.SlotWord.{SlotWord}
use Rattle.iox_lanes_base.specs.declared.words.word.SlotWord.TheVariants.{Header, UserHeader, Payload}
use Rattle.iox_lanes_base.specs.declared.words.word.SharedWord.{SharedWord}
use Rattle.iox_lanes_base.specs.declared.words.word.SharedWord.TheVariants.{Ring, Slot}
use Rattle.iox_lanes_base.specs.declared.words.sizes.TableSizes.{TableSizes}

-- How many words the two rings of a connection have.
abbrev pub connection_words : TableSizes → ℕ
connection_words sizes = 4 + sizes.submission_cells + sizes.completion_cells

-- How many words a slot has: three of its header, those of its user header and those of its payload.
abbrev pub slot_words : TableSizes → ℕ
slot_words sizes = 3 + sizes.user_header_words + sizes.payload_words

-- The number of the first word of the slots. The table begins with a word that isn't the service's; then come the connections, and then the
-- slots.
abbrev pub slots_first : TableSizes → ℕ
slots_first sizes = 1 + sizes.connections * connection_words sizes

-- How many words the table has.
abbrev pub words_of : TableSizes → ℕ
words_of sizes = slots_first sizes + sizes.slots * slot_words sizes

-- Where a ring begins within the words of its connection.
abbrev pub ring_offset : TableSizes → ConnectionRing → ℕ
ring_offset sizes Submission = 0
ring_offset sizes Completion = 2 + sizes.submission_cells

-- The number of the first word of a ring.
abbrev pub ring_first : TableSizes → ℕ → ConnectionRing → ℕ
ring_first sizes connection ring = 1 + connection * connection_words sizes + ring_offset sizes ring

-- The number of a word within its ring.
abbrev pub ring_word_number : Word → ℕ
ring_word_number Write = 0
ring_word_number Read = 1
ring_word_number (Cell cell) = 2 + cell

-- The number of a word within its slot.
abbrev pub slot_word_number : TableSizes → SlotWord → ℕ
slot_word_number sizes (Header word) = word
slot_word_number sizes (UserHeader word) = 3 + word
slot_word_number sizes (Payload word) = 3 + sizes.user_header_words + word

-- The number of a word in the table.
abbrev pub number_of : TableSizes → SharedWord → ℕ
number_of sizes (Ring connection ring word) = ring_first sizes connection ring + ring_word_number word
number_of sizes (Slot slot word) = slots_first sizes + slot * slot_words sizes + slot_word_number sizes word

-- The maximum number of cells of a ring.
abbrev pub most_cells : TableSizes → ConnectionRing → ℕ
most_cells sizes Submission = sizes.submission_cells
most_cells sizes Completion = sizes.completion_cells

-- A ring with this many cells has the word.
abbrev pub IsRingWord : ℕ → Word → Type 0
IsRingWord cells Write = Unit {0}
IsRingWord cells Read = Unit {0}
IsRingWord cells (Cell cell) = cell < cells

-- A slot has the word.
abbrev pub IsSlotWord : TableSizes → SlotWord → Type 0
IsSlotWord sizes (Header word) = word < 3
IsSlotWord sizes (UserHeader word) = word < sizes.user_header_words
IsSlotWord sizes (Payload word) = word < sizes.payload_words

-- The service has the word.
abbrev pub IsWord : TableSizes → SharedWord → Type 0
IsWord sizes (Ring connection ring word) = (connection < sizes.connections) × IsRingWord (most_cells sizes ring) word
IsWord sizes (Slot slot word) = (slot < sizes.slots) × IsSlotWord sizes word

-- The counts of words are less than 2^64.
pub record IsSmall (sizes : TableSizes) : Type 0 where
  pub connection : connection_words sizes < 2 ^ 64
  pub slot : slot_words sizes < 2 ^ 64
  pub all : words_of sizes < 2 ^ 64

-- Words of a service that have the same number are the same word.
abbrev pub AreApart : Type 0
AreApart = (sizes : TableSizes) (one other : SharedWord) → IsWord sizes one → IsWord sizes other
    → number_of sizes one ≡ number_of sizes other → one ≡ other

-- The number of each word of a service is larger than 0, and less than the number of words of the table.
abbrev pub AreWithin : Type 0
AreWithin = (sizes : TableSizes) (word : SharedWord) → IsWord sizes word
    → (0 < number_of sizes word) × (number_of sizes word < words_of sizes)
