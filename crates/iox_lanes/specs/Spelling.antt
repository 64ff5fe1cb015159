-- How messages are spelled in the words of slots.
use Rattle.std.specs.Prelude.{ℕ, Bool, List, Option}
use Rattle.iox_lanes_opening.specs.Middles.{middle_count, middle_of, middle_words}

-- How the messages of a domain are spelled: the words of a payload, the words between header and payload, and how many each has.
pub record Spelling (T U : Type 0) : Type 0 where
  pub payload : T → List ℕ
  pub middle : Option ℕ × U → List ℕ
  pub payload_count : ℕ
  pub middle_count : ℕ

-- The spelling in which payloads and user headers have these words; before those of a user header comes the sequence number, where messages
-- have one.
abbrev pub spelling_of : {T U : Type 0} → Bool → (T → List ℕ) → ℕ → (U → List ℕ) → ℕ → Spelling T U
spelling_of numbered payload_words payload_count header_words header_count = record {
  payload = payload_words;
  middle = middle_words numbered header_words;
  payload_count = payload_count;
  middle_count = middle_count numbered header_count;
}

-- How messages are read: the payload from its words, and the sequence number and user header from the words between header and payload.
pub record ReadingBack (T U : Type 0) : Type 0 where
  pub payload : List ℕ → T
  pub middle : List ℕ → Option ℕ × U

-- The reading that reads payloads and user headers with these functions; a sequence number comes before a user header, where messages have
-- one.
abbrev pub reading_back : {T U : Type 0} → Bool → (List ℕ → T) → (List ℕ → U) → ReadingBack T U
reading_back numbered payload_of header_of = record { payload = payload_of; middle = middle_of numbered header_of }
