-- The steps of a port in threads: each makes the access that the stage of its call names, and goes on with the answer.
use Rattle.std.specs.Prelude.{ℕ, ◌≡◌, true, Some}
use Rattle.atomic_table.specs.Table.{Me}
use Rattle.iox_lanes_machine.specs.LanesBase.Publishing.{publisher_next}
use Rattle.iox_lanes_machine.specs.LanesBase.Subscribing.{subscriber_next, subscriber_is_over}
use Rattle.iox_lanes_machine.specs.LanesParties.Parties.{PublisherLaneState, SubscriberLaneState, publisher_after, subscriber_after}
use Rattle.iox_lanes_machine.specs.LanesParties.Parties.{subscriber_answer}
use Rattle.iox_lanes_machine.specs.LanesParties.declared.call.Answer.{Answer}
use Rattle.iox_lanes_threads_rule.specs.Acts.{single, stepped, ToldBy}
use Rattle.iox_lanes_threads_rule.specs.declared.view.Port.{Port}
use Rattle.iox_lanes_threads_rule.specs.declared.view.PortParty.{PortParty}
use Rattle.iox_lanes_threads_rule.specs.declared.view.PortParty.TheVariants as party
use Rattle.iox_lanes_threads_rule.specs.declared.view.View.{View}

-- The publisher as a party after its access got this answer.
abbrev pub publisher_party : PublisherLaneState → ℕ → PortParty
publisher_party lane answer = party.Publisher (publisher_after answer lane)

-- The subscriber as a party after its access got this answer.
abbrev pub subscriber_party : SubscriberLaneState → ℕ → PortParty
subscriber_party lane answer = party.Subscriber (subscriber_after answer lane)

-- The publisher's port after its next access got this answer.
abbrev pub publisher_stepped : Port → PublisherLaneState → ℕ → Port
publisher_stepped p lane answer = stepped p (publisher_next lane.port.call) answer (publisher_party lane)

-- The subscriber's port after its next access got this answer.
abbrev pub subscriber_stepped : Port → SubscriberLaneState → ℕ → Port
subscriber_stepped p lane answer = stepped p (subscriber_next lane.port.call) answer (subscriber_party lane)

-- A publisher goes from one state to another by steps, one after the other: each makes the access that its call names next, and goes on
-- with the answer.
pub data PublisherGoes (p : Port) (lane : PublisherLaneState) : Port → PublisherLaneState → Type 0 where
  stays : PublisherGoes p lane p lane
  goes : (q : Port) (now : PublisherLaneState) (answer : ℕ) → PublisherGoes p lane q now → ToldBy q (publisher_next now.port.call) answer
      → PublisherGoes p lane (publisher_stepped q now answer) (publisher_after answer now)

-- A subscriber goes from one state to another by steps, one after the other: each makes the access that its call names next, and goes on
-- with the answer.
pub data SubscriberGoes (p : Port) (lane : SubscriberLaneState) : Port → SubscriberLaneState → Type 0 where
  stays : SubscriberGoes p lane p lane
  goes : (q : Port) (now : SubscriberLaneState) (answer : ℕ) → SubscriberGoes p lane q now → ToldBy q (subscriber_next now.port.call) answer
      → SubscriberGoes p lane (subscriber_stepped q now answer) (subscriber_after answer now)

-- A publisher makes one step on the shared words, and its port learns what the answer reports of them.
abbrev pub PublisherSteps : Port → PublisherLaneState → Me ℕ View → PublisherLaneState → Type 0
PublisherSteps p lane me now = (answer : ℕ) × ToldBy p (publisher_next lane.port.call) answer
    × (me ≡ single (publisher_stepped p lane answer)) × (now ≡ publisher_after answer lane)

-- A subscriber makes one step on the shared words, and its port learns what the answer reports of them.
abbrev pub SubscriberSteps : Port → SubscriberLaneState → Me ℕ View → SubscriberLaneState → Type 0
SubscriberSteps p lane me now = (answer : ℕ) × ToldBy p (subscriber_next lane.port.call) answer
    × (me ≡ single (subscriber_stepped p lane answer)) × (now ≡ subscriber_after answer lane)

-- A subscriber makes all steps of its call, and the last one gives this answer.
pub record SubscriberEnds (p : Port) (lane : SubscriberLaneState) (q : Port) (now : SubscriberLaneState) (answer : Answer) : Type 0 where
  pub last : SubscriberLaneState
  pub goes : SubscriberGoes p lane q last
  pub ends : subscriber_is_over last.port.call ≡ true
  pub after : now ≡ subscriber_after 0 last
  pub answers : subscriber_answer last.port.call 0 ≡ Some answer
