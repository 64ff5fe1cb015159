-- What a port may do with a shared word, what that reports, and what the port knows afterwards.
use Rattle.std.specs.Prelude.{ℕ, ◌≡◌, ◌+◌, ◌-◌, ◌<◌, ◌≤◌, ◌^◌, max, Bool, false, List, [], ◌∷◌, ◌++◌, set, slice_index, if◌then◌else◌}
use Rattle.std.specs.Prelude.{◌==◌}
use mathlib.Core.Option.{some}
use lib.ListN.{get_elem?}
use Rattle.iox_lanes_parties.specs.LanesBase.Numbers.{number_of, IsWord}
use Rattle.iox_lanes_parties.specs.LanesBase.declared.words.word.SharedWord.{SharedWord}
use Rattle.iox_lanes_parties.specs.LanesBase.declared.words.word.SharedWord.TheVariants.{Ring, Slot}
use Rattle.iox_lanes_parties.specs.Parties.{is_borrowed, place_of}
use Rattle.iox_lanes_parties.specs.declared.call.Party.{Party}
use Rattle.iox_lanes_parties.specs.declared.call.Party.TheVariants.{Publisher, Subscriber}
use Rattle.iox_lanes_threads_rule.specs.Service.{Stores, IsPosition, IsCell, write_word, read_word}
use Rattle.iox_lanes_threads_rule.specs.Rule.{held, Overflows, Fits}
use Rattle.iox_lanes_threads_rule.specs.declared.service.Line.{Line}
use Rattle.iox_lanes_threads_rule.specs.declared.service.Service.{Service}
use Rattle.iox_lanes_threads_rule.specs.declared.view.Port.{Port}
use Rattle.iox_lanes_threads_rule.specs.declared.view.PortParty.{PortParty}
use Rattle.iox_lanes_threads_rule.specs.declared.view.PortParty.TheVariants as port_party

-- Whether the word is one of a slot that the port holds as a sample.
abbrev pub is_of_sample : PortParty → SharedWord → Bool
is_of_sample (port_party.Publisher lane) w = false
is_of_sample (port_party.Subscriber lane) (Ring connection ring word) = false
is_of_sample (port_party.Subscriber lane) (Slot slot word) = is_borrowed (place_of slot lane)

-- Those of these words that are words of samples.
abbrev pub of_samples : PortParty → List SharedWord → List SharedWord
of_samples own [] = []
of_samples own (w ∷ ws) = (if is_of_sample own w then w ∷ [] else []) ++ of_samples own ws

-- The port after it loaded a word.
abbrev pub saw : Port → SharedWord → Port
saw p w = record p { seen = w ∷ p.seen }

-- The port after it made another access, learned something and continued. Of the words that it has loaded, it keeps those of samples that
-- it still holds.
abbrev pub learned : Port → List ℕ → PortParty → Port
learned p known party = record p { known = known; accesses = p.accesses + 1; party = party; seen = of_samples party p.seen }

-- What a port knows after its exchange failed on the word with number `i`: a subscriber then knows that a message waits, so the write
-- position, which is the word before, is beyond the position found.
abbrev pub known_lost : Party → List ℕ → ℕ → ℕ → List ℕ
known_lost (Publisher place) known i found = set known i found
known_lost (Subscriber place) known i found = set (set known i found) (i - 1) (max (slice_index known (i - 1)) (found + 1))

-- What a port knows after an exchange on the word with number `i`.
abbrev pub known_exchanged : Party → List ℕ → ℕ → ℕ → ℕ → ℕ → List ℕ
known_exchanged name known i old new found = if found == old then set known i new else known_lost name known i found

-- What a load of a word with the value `found` reports: a word that only this port stores has the value that it knows; a position isn't
-- below the one that it knows; a cell names a slot; the write position of an overflowing ring isn't below the read position that it knows.
pub record Told (s : Service) (p : Port) (w : SharedWord) (found : ℕ) : Type 0 where
  pub small : found < 2 ^ 64
  pub own : Stores s p.name w → held s p.known w ≡ found
  pub grows : IsPosition w → held s p.known w ≤ found
  pub cell : IsCell w → 0 < s.sizes.slots → found < s.sizes.slots
  pub above : (connection : ℕ) (line : Line) → Overflows s connection line → w ≡ write_word connection
      → held s p.known (read_word connection) ≤ found

-- A port may make this store: only it stores the word, a position isn't lowered, and a cell gets the number of a slot.
pub record MayStore (s : Service) (p : Port) (w : SharedWord) (new : ℕ) : Type 0 where
  pub word : IsWord s.sizes w
  pub own : Stores s p.name w
  pub grows : IsPosition w → held s p.known w ≤ new
  pub cell : IsCell w → 0 < s.sizes.slots → new < s.sizes.slots

-- An exchange of the publisher leaves a message waiting; an exchange of the subscriber expects the position that the subscriber knows.
abbrev pub MoveOn : Service → Port → Line → ℕ → ℕ → ℕ → Party → Type 0
MoveOn s p line connection old new (Publisher place) = (place ≡ line.publisher) × (new < held s p.known (write_word connection))
MoveOn s p line connection old new (Subscriber place) = (place ≡ line.subscriber) × (old ≡ held s p.known (read_word connection))

-- A port may make this exchange: it moves the read position of an overflowing ring, and not past the write position that the port knows.
pub record MayExchange (s : Service) (p : Port) (w : SharedWord) (old new : ℕ) : Type 0 where
  pub connection : ℕ
  pub line : Line
  pub ring : Overflows s connection line
  pub word : w ≡ read_word connection
  pub rises : old ≤ new
  pub below : new ≤ held s p.known (write_word connection)
  pub end : MoveOn s p line connection old new p.name

-- A load keeps the rule, and reports what the rule says of the word.
abbrev pub LoadsKeep : Type 0
LoadsKeep = (s : Service) (words : List ℕ) (ports : List Port) (p : Port) (w : SharedWord) (party : PortParty) → Fits s words ports
    → get_elem? ports p.number ≡ some p → IsWord s.sizes w
    → held s words w < 2 ^ 64
    → Told s p w (held s words w)
    × Fits s (set words (number_of s.sizes w) (held s words w))
    (set ports p.number (learned (saw p w) (set p.known (number_of s.sizes w) (held s words w)) party))

-- A store that a port may make keeps the rule.
abbrev pub StoresKeep : Type 0
StoresKeep = (s : Service) (words : List ℕ) (ports : List Port) (p : Port) (w : SharedWord) (new : ℕ) (party : PortParty)
    → Fits s words ports → get_elem? ports p.number ≡ some p
    → MayStore s p w new
    → Fits s (set words (number_of s.sizes w) new) (set ports p.number (learned p (set p.known (number_of s.sizes w) new) party))

-- An exchange that a port may make keeps the rule, and its answer isn't below what the port knows.
abbrev pub ExchangesKeep : Type 0
ExchangesKeep = (s : Service) (words : List ℕ) (ports : List Port) (p : Port) (w : SharedWord) (old new : ℕ) (party : PortParty)
    → Fits s words ports → get_elem? ports p.number ≡ some p
    → MayExchange s p w old new
    → (held s p.known w ≤ held s words w)
    × Fits s (set words (number_of s.sizes w) (if held s words w == old then new else held s words w))
    (set ports p.number (learned p (known_exchanged p.name p.known (number_of s.sizes w) old new (held s words w)) party))
