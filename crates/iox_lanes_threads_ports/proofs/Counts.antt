-- Each step of a call that touches a shared word is counted by its port, and no other.
use Rattle.std.proofs.Common.{ℕ, ◌≡◌, ◌+◌, refl, arith}
use Rattle.iox_lanes_machine.specs.LanesBase.Publishing.{publisher_next}
use Rattle.iox_lanes_machine.specs.LanesBase.Subscribing.{subscriber_next}
use Rattle.iox_lanes_machine.specs.LanesBase.declared.words.access.SharedAccess.{SharedAccess}
use Rattle.iox_lanes_machine.specs.LanesBase.declared.words.access.SharedAccess.TheVariants.{Load, Store, Exchange, Local}
use Rattle.iox_lanes_threads_rule.specs.Acts.{stepped}
use Rattle.iox_lanes_threads_rule.specs.declared.view.Port.{Port}
use Rattle.iox_lanes_threads_rule.specs.declared.view.PortParty.{PortParty}
use Rattle.iox_lanes_threads_ports.specs.Courses.{publisher_party, subscriber_party}
use Rattle.iox_lanes_threads_ports.specs.Courses.PublisherGoes.{stays as publisher_stays, goes as publisher_goes}
use Rattle.iox_lanes_threads_ports.specs.Courses.SubscriberGoes.{stays as subscriber_stays, goes as subscriber_goes}
use Rattle.iox_lanes_threads_ports.specs.Counts.{words_touched, PublishersCount, SubscribersCount}

-- one access
counted : (p : Port) (access : SharedAccess) (answer : ℕ) (after : ℕ → PortParty)
    → (stepped p access answer after).accesses ≡ p.accesses + words_touched access
counted p (Load w) answer after = refl
counted p (Store w new) answer after = refl
counted p (Exchange w old new) answer after = refl
counted p Local answer after = omega arith

pub publishers_count : PublishersCount
publishers_count p lane q now publisher_stays = omega arith
publishers_count p lane q now (publisher_goes last was answer before told) =
    omega (arith, publishers_count p lane last was before, counted last (publisher_next was.port.call) answer (publisher_party was))

pub subscribers_count : SubscribersCount
subscribers_count p lane q now subscriber_stays = omega arith
subscribers_count p lane q now (subscriber_goes last was answer before told) =
    omega (arith, subscribers_count p lane last was before, counted last (subscriber_next was.port.call) answer (subscriber_party was))
