-- The final state of the subscribers once a `&mut` to one of them has ended.
use Rattle.std.specs.Prelude.{ℕ, List, Option}
use Rattle.std.specs.Borrow.{Fml, LendsIf, MutBor}
use Rattle.iox_domain_ports.specs.declared.subscriber_port.SubscriberPort.{SubscriberPort}
use Rattle.iox_domain_ports.specs.contracts.subscriber_port.SubscriberPort as port
use Rattle.iox_domain.specs.Subscribers.{with_subscriber}
use Rattle.iox_domain.specs.contracts.ports.subscribers.Subscribers.{the_row}

-- When the reference ends, its last subscriber is stored under this number; if there was no reference, the subscribers are unchanged.
abbrev pub LendsSubscriber : MutBor (List (ℕ × SubscriberPort)) → ℕ → Option (MutBor SubscriberPort) → Fml
LendsSubscriber ports number answer = LendsIf the_row port.the_row ports answer (with_subscriber number ports.now) ports.now
