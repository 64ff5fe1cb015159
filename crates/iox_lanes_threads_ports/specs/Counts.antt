-- How many accesses to shared words the steps of a call make: a port counts each one that it makes.
use Rattle.std.specs.Prelude.{ℕ, ◌≡◌, ◌+◌}
use Rattle.iox_lanes_machine.specs.LanesBase.Publishing.{publisher_next}
use Rattle.iox_lanes_machine.specs.LanesBase.Subscribing.{subscriber_next}
use Rattle.iox_lanes_machine.specs.LanesBase.declared.words.access.SharedAccess.{SharedAccess}
use Rattle.iox_lanes_machine.specs.LanesBase.declared.words.access.SharedAccess.TheVariants.{Load, Store, Exchange, Local}
use Rattle.iox_lanes_machine.specs.LanesParties.Parties.{PublisherLaneState, SubscriberLaneState}
use Rattle.iox_lanes_threads_rule.specs.declared.view.Port.{Port}
use Rattle.iox_lanes_threads_ports.specs.Courses.{PublisherGoes, SubscriberGoes}
use Rattle.iox_lanes_threads_ports.specs.Courses.PublisherGoes.{stays as publisher_stays, goes as publisher_goes}
use Rattle.iox_lanes_threads_ports.specs.Courses.SubscriberGoes.{stays as subscriber_stays, goes as subscriber_goes}

-- How many shared words an access touches: one, or none for a local step.
abbrev pub words_touched : SharedAccess → ℕ
words_touched (Load w) = 1
words_touched (Store w new) = 1
words_touched (Exchange w old new) = 1
words_touched Local = 0

-- How many of these publisher's steps touch a shared word.
abbrev pub accesses_of_publisher : {p : Port} {lane : PublisherLaneState} {q : Port} {now : PublisherLaneState}
    → PublisherGoes p lane q now → ℕ
accesses_of_publisher publisher_stays = 0
accesses_of_publisher (publisher_goes q now answer before told)
    = accesses_of_publisher before + words_touched (publisher_next now.port.call)

-- How many of these subscriber's steps touch a shared word.
abbrev pub accesses_of_subscriber : {p : Port} {lane : SubscriberLaneState} {q : Port} {now : SubscriberLaneState}
    → SubscriberGoes p lane q now → ℕ
accesses_of_subscriber subscriber_stays = 0
accesses_of_subscriber (subscriber_goes q now answer before told)
    = accesses_of_subscriber before + words_touched (subscriber_next now.port.call)

-- After any steps of a publisher, its port's count of accesses has risen by exactly the number of accesses that these steps make.
abbrev pub PublishersCount : Type 0
PublishersCount = (p : Port) (lane : PublisherLaneState) (q : Port) (now : PublisherLaneState) (steps : PublisherGoes p lane q now)
    → q.accesses ≡ p.accesses + accesses_of_publisher steps

-- After any steps of a subscriber, its port's count of accesses has risen by exactly the number of accesses that these steps make.
abbrev pub SubscribersCount : Type 0
SubscribersCount = (p : Port) (lane : SubscriberLaneState) (q : Port) (now : SubscriberLaneState) (steps : SubscriberGoes p lane q now)
    → q.accesses ≡ p.accesses + accesses_of_subscriber steps
