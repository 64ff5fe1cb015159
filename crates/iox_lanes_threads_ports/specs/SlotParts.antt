-- The words of a slot that a write or a send stores one after the other.
use Rattle.std.specs.Prelude.{ℕ, List}
use Rattle.iox_lanes_machine.specs.LanesBase.Publishing.{header_word, write_at, head_at}
use Rattle.iox_lanes_machine.specs.LanesBase.declared.calls.publisher.PublisherCall.{PublisherCall}
use Rattle.iox_lanes_machine.specs.LanesBase.declared.calls.publisher.PublisherCall.TheVariants.{Writing, Heading}
use Rattle.iox_lanes_machine.specs.LanesBase.declared.words.word.SlotWord.{SlotWord}
use Rattle.iox_lanes_machine.specs.LanesBase.declared.words.word.SlotWord.TheVariants as own
use Rattle.iox_lanes_threads_ports.specs.declared.strides.SlotPart.{SlotPart}
use Rattle.iox_lanes_threads_ports.specs.declared.strides.SlotPart.TheVariants.{Payload, Head}

-- The stage at which a call stores this value next, in this word of a part of the slot.
abbrev pub storing : SlotPart → ℕ → ℕ → ℕ → PublisherCall
storing Payload slot word value = Writing slot word value
storing Head slot word value = Heading slot word value

-- The stage of a call that stores these words in a part of the slot, at which it stores word `word` next.
abbrev pub storing_at : SlotPart → List ℕ → ℕ → ℕ → PublisherCall
storing_at Payload words slot word = write_at words slot word
storing_at Head words slot word = head_at words slot word

-- The word of the slot that is this word of the part.
abbrev pub part_word : SlotPart → ℕ → SlotWord
part_word Payload word = own.Payload word
part_word Head word = header_word word
