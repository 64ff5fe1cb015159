-- How the head of a set is stored in a 64-bit word: from the highest bits down, 24 for the next free index, 16 for the count of changes,
-- and 24 for the count of held indices.
use Rattle.std.specs.Prelude.{ℕ, ◌+◌, ◌-◌, ◌*◌, ◌^◌, ◌%◌, ◌/◌}
use Rattle.iox_container.specs.declared.head.HeadDetails.{HeadDetails}

-- The word that encodes a head.
abbrev pub word_of_head : HeadDetails → ℕ
word_of_head details = (details.head % 2 ^ 24 * 2 ^ 16 + details.aba) * 2 ^ 24 + details.borrowed_indices % 2 ^ 24

-- The head that a word encodes.
abbrev pub head_of_word : ℕ → HeadDetails
head_of_word word = record {
  head = word / 2 ^ 24 / 2 ^ 16;
  aba = word / 2 ^ 24 % 2 ^ 16;
  borrowed_indices = word % 2 ^ 24;
}

-- The head after its next free index is taken; the counts wrap around.
abbrev pub head_after_acquire : ℕ → HeadDetails → HeadDetails
head_after_acquire next old = record {
  head = next;
  aba = (old.aba + 1) % 2 ^ 16;
  borrowed_indices = (old.borrowed_indices + 1) % 2 ^ 32;
}

-- The head after an index is released; the counts wrap around.
abbrev pub head_after_release : ℕ → HeadDetails → HeadDetails
head_after_release index old = record {
  head = index;
  aba = (old.aba + 1) % 2 ^ 16;
  borrowed_indices = (old.borrowed_indices + (2 ^ 32 - 1)) % 2 ^ 32;
}
