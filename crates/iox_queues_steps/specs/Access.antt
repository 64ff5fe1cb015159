-- The shared words of a ring, and one access to one of them.
use Rattle.std.specs.Prelude.{ℕ, ◌+◌, ◌-◌, ◌^◌, ◌%◌, min, List, length, set, slice_index, if◌then◌else◌, ◌==◌}
use Rattle.iox_queues_steps.specs.declared.access.Word.{Word}
use Rattle.iox_queues_steps.specs.declared.access.Word.TheVariants.{Write, Read, Cell}
use Rattle.iox_queues_steps.specs.declared.access.Access.{Access}
use Rattle.iox_queues_steps.specs.declared.access.Access.TheVariants.{Load, Store, Exchange, Local}

-- Two positions that only grow, and the cells, which the positions address modulo their number.
pub record RingWords : Type 0 where
  pub cells : List ℕ
  pub write : ℕ
  pub read : ℕ

-- The content of a word.
abbrev pub word_of : RingWords → Word → ℕ
word_of words Write = words.write
word_of words Read = words.read
word_of words (Cell position) = slice_index words.cells (position % length words.cells)

-- The words after a store.
abbrev pub after_store : RingWords → Word → ℕ → RingWords
after_store words Write value = record words { write = value }
after_store words Read value = record words { read = value }
after_store words (Cell position) value =
    record words { cells = set words.cells (position % length words.cells) value }

-- The result of an access.
abbrev pub answer_of : RingWords → Access → ℕ
answer_of words (Load word) = word_of words word
answer_of words (Store word value) = 0
answer_of words (Exchange word old new) = word_of words word
answer_of words Local = 0

-- The words after an access.
abbrev pub after_access : RingWords → Access → RingWords
after_access words (Load word) = words
after_access words (Store word value) = after_store words word value
after_access words (Exchange word old new) =
    if word_of words word == old then after_store words word new else words
after_access words Local = words

-- The next position; positions stop at the largest 64-bit number.
abbrev pub successor : ℕ → ℕ
successor position = min (position + 1) (2 ^ 64 - 1)
