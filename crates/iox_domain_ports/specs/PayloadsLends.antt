-- The final state of the payloads once a `&mut` to one of their values has ended.
use Rattle.std.specs.Prelude.{ℕ, set}
use Rattle.std.specs.Borrow.{Fml, Lends, MutBor, RattleType}
use Rattle.iox_domain_ports.specs.Payloads.{PayloadsState, payload_at, with_payload}
use Rattle.iox_domain_ports.specs.contracts.messages.payloads.Payloads.{the_row}

module _ (T : RattleType) where
  -- When the reference ends, the payloads have its last value at this place of this slot.
  abbrev pub LendsInSlot : MutBor (PayloadsState T.Denot) → ℕ → ℕ → MutBor T.Denot → Fml
  LendsInSlot payloads slot place answer
      = Lends (the_row T) T payloads answer (λ value. with_payload slot (set (payload_at slot payloads.now) place value) payloads.now)
