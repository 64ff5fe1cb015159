-- What services are, once a `&mut` into them has ended.
use Rattle.std.specs.Prelude.{ℕ, List, Option}
use Rattle.std.specs.Borrow.{Fml, Lends, LendsIf, MutBor, RattleType}
use Rattle.iox_domain.specs.declared.domain.Domain.{Domain}
use Rattle.iox_domain.specs.contracts.domain.Domain as domain
use Rattle.iox_hub_base.specs.Open.{with_presence, with_domain}
use Rattle.iox_hub_base.specs.declared.presence.Presence.{Presence}
use Rattle.iox_hub_base.specs.declared.presence.Presence.TheVariants.{Here}
use Rattle.iox_hub_base.specs.contracts.presence.Presence as presence
use Rattle.iox_hub_base.specs.contracts.presences.Presences as presences

module _ (T U B D : RattleType) where
  -- Once the reference has ended, the service has the domain that was last written through it, and the domain is in the hub.
  abbrev pub LendsDomain : MutBor (Presence T.Denot U.Denot B.Denot D.Denot) → MutBor (Domain T.Denot U.Denot B.Denot D.Denot) → Fml
  LendsDomain lent answer = Lends (presence.the_row T U B D) (domain.the_row T U B D) lent answer (λ last. Here last)

  -- Once the reference has ended, the service that was last written through it is open under the number. If no service was open under the
  -- number, nothing has changed.
  abbrev pub LendsPresence : MutBor (List (ℕ × Presence T.Denot U.Denot B.Denot D.Denot)) → ℕ
      → Option (MutBor (Presence T.Denot U.Denot B.Denot D.Denot)) → Fml
  LendsPresence lent number answer = LendsIf (presences.the_row T U B D) (presence.the_row T U B D) lent answer
      (with_presence number lent.now) lent.now

  -- Once the reference has ended, the domain that was last written through it is under the number.
  abbrev pub LendsDomainAt : MutBor (List (ℕ × Presence T.Denot U.Denot B.Denot D.Denot)) → ℕ
      → MutBor (Domain T.Denot U.Denot B.Denot D.Denot) → Fml
  LendsDomainAt lent number answer = Lends (presences.the_row T U B D) (domain.the_row T U B D) lent answer (with_domain number lent.now)
