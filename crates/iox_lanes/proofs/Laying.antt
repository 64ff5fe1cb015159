-- Messages that lie in slots.
use Rattle.std.proofs.Common.{ℕ, ◌≡◌, List, Option, None, Some}
use Rattle.std.proofs.Common.{slice_get, refl}
use Rattle.iox_domain.specs.DomainPorts.Messages.{Message}
use Rattle.iox_domain.specs.DomainPorts.declared.publisher_port.PublisherPort.{PublisherPort}
use Rattle.iox_lanes_machine.specs.LanesBase.Table.{TableWords}
use Rattle.iox_lanes.specs.Lying.{AreLaid, AreSlotsOf, IsLaidAt, IsSlotOf, Lies}
use Rattle.iox_lanes.specs.Spelling.{Spelling}

-- messages whose slots these are, and which lie there, are laid
pub laid_so : {T U : Type 0} (spelling : Spelling T U) (table : TableWords) (first : ℕ)
    (port : PublisherPort T U) (laid : List ℕ) (messages : List (Message T U))
    → AreSlotsOf first laid messages → ((at : ℕ) (message : Message T U) → slice_get messages at ≡ Some message
    → Lies spelling table first port message)
    → AreLaid spelling table first port laid messages
laid_so {T} {U} spelling table first port laid messages slots lie
    = record { as_many = slots.as_many; each = λ at. by at (slice_get messages at) refl (slots.each at) }
  where
    by : (at : ℕ) (there : Option (Message T U)) → slice_get messages at ≡ there → IsSlotOf first (slice_get laid at) there
        → IsLaidAt spelling table first port (slice_get laid at) there
    by at None is slot = tt
    by at (Some message) is slot = (slot, lie at message is)
