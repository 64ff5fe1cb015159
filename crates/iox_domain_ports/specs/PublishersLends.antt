-- The final state of the publishers once a `&mut` to one of them has ended.
use Rattle.std.specs.Prelude.{ℕ, List, Option}
use Rattle.std.specs.Borrow.{Fml, LendsIf, MutBor, RattleType}
use Rattle.iox_domain_ports.specs.declared.publisher_port.PublisherPort.{PublisherPort}
use Rattle.iox_domain_ports.specs.contracts.publisher_port.PublisherPort as port
use Rattle.iox_domain_ports.specs.Publishers.{with_port}
use Rattle.iox_domain_ports.specs.contracts.publishers.Publishers.{the_row}

module _ (T U : RattleType) where
  -- When the reference ends, its last publisher is stored under this number; if there was no reference, the publishers are unchanged.
  abbrev pub LendsPort : MutBor (List (ℕ × PublisherPort T.Denot U.Denot)) → ℕ → Option (MutBor (PublisherPort T.Denot U.Denot)) → Fml
  LendsPort ports number answer = LendsIf (the_row T U) (port.the_row T U) ports answer (with_port number ports.now) ports.now
