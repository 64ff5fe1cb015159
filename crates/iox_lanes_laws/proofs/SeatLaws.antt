-- Each step of a call is of a kind that its port makes.
use Rattle.std.proofs.Common.{ℕ}
use Rattle.iox_queues_steps.specs.declared.rings.overflowing.push.Push.TheVariants as overflowing_push
use Rattle.iox_queues_steps.specs.declared.rings.overflowing.pop.Pop.TheVariants as overflowing_pop
use Rattle.iox_queues_steps.specs.Refusing as refusing
use Rattle.iox_queues_steps.specs.declared.rings.refusing.push.Push as refusing_push_type
use Rattle.iox_queues_steps.specs.declared.rings.refusing.push.Push.TheVariants as refusing_push
use Rattle.iox_queues_steps.specs.declared.rings.refusing.pop.Pop as refusing_pop_type
use Rattle.iox_queues_steps.specs.declared.rings.refusing.pop.Pop.TheVariants as refusing_pop
use Rattle.iox_queues_steps.specs.Ends.{push_next, pop_next}
use Rattle.iox_queues_steps.specs.declared.rings.ends.Push.{Push}
use Rattle.iox_queues_steps.specs.declared.rings.ends.Push.TheVariants as push
use Rattle.iox_queues_steps.specs.declared.rings.ends.Pop.{Pop}
use Rattle.iox_queues_steps.specs.declared.rings.ends.Pop.TheVariants as pop
use Rattle.iox_lanes_base.specs.Words.{on_ring}
use Rattle.iox_lanes_base.specs.declared.words.word.ConnectionRing.TheVariants.{Submission, Completion}
use Rattle.iox_lanes_base.specs.declared.calls.publisher.PublisherCall.TheVariants as publisher
use Rattle.iox_lanes_base.specs.declared.calls.subscriber.SubscriberCall.TheVariants as subscriber
use Rattle.iox_lanes_laws.specs.Seats.{PublisherMay, SubscriberMay, PublishersStay, SubscribersStay}

-- taking back
takes_back : (connection cells : ℕ) (p : refusing_pop_type.Pop) → PublisherMay (on_ring connection Completion cells (refusing.pop_next p))
takes_back connection cells refusing_pop.Idle = tt
takes_back connection cells refusing_pop.Begun = tt
takes_back connection cells (refusing_pop.SawRead read) = tt
takes_back connection cells (refusing_pop.Nonempty read next) = tt
takes_back connection cells (refusing_pop.SawCell next value) = tt
takes_back connection cells (refusing_pop.Popped got) = tt
takes_back connection cells refusing_pop.LookBegun = tt
takes_back connection cells (refusing_pop.LookRead read) = tt
takes_back connection cells (refusing_pop.Looked some) = tt

-- pushing a message
sends : (connection cells : ℕ) (p : Push) → PublisherMay (on_ring connection Submission cells (push_next p))
sends connection cells (push.Overflowing overflowing_push.Idle) = tt
sends connection cells (push.Overflowing (overflowing_push.Begun limit value)) = tt
sends connection cells (push.Overflowing (overflowing_push.SawWrite limit value write next)) = tt
sends connection cells (push.Overflowing (overflowing_push.SawRead limit value write next read)) = tt
sends connection cells (push.Overflowing (overflowing_push.Filled limit value write next read)) = tt
sends connection cells (push.Overflowing (overflowing_push.Full value read next)) = tt
sends connection cells (push.Overflowing (overflowing_push.SawOldest value read next oldest)) = tt
sends connection cells (push.Overflowing (overflowing_push.Pushed value answer)) = tt
sends connection cells (push.Refusing refusing_push.Idle) = tt
sends connection cells (push.Refusing (refusing_push.Begun limit value)) = tt
sends connection cells (push.Refusing (refusing_push.SawWrite limit value write next)) = tt
sends connection cells (push.Refusing (refusing_push.SawRoom value write next)) = tt
sends connection cells (push.Refusing (refusing_push.Filled value next)) = tt
sends connection cells (push.Refusing (refusing_push.Pushed value answer)) = tt

-- popping a message, or looking for one
receives : (connection cells : ℕ) (p : Pop) → SubscriberMay (on_ring connection Submission cells (pop_next p))
receives connection cells (pop.Overflowing overflowing_pop.Idle) = tt
receives connection cells (pop.Overflowing overflowing_pop.Begun) = tt
receives connection cells (pop.Overflowing (overflowing_pop.SawRead read)) = tt
receives connection cells (pop.Overflowing (overflowing_pop.Nonempty read next)) = tt
receives connection cells (pop.Overflowing (overflowing_pop.SawCell read next value)) = tt
receives connection cells (pop.Overflowing (overflowing_pop.Popped got)) = tt
receives connection cells (pop.Overflowing overflowing_pop.LookBegun) = tt
receives connection cells (pop.Overflowing (overflowing_pop.LookRead read)) = tt
receives connection cells (pop.Overflowing (overflowing_pop.Looked some)) = tt
receives connection cells (pop.Refusing refusing_pop.Idle) = tt
receives connection cells (pop.Refusing refusing_pop.Begun) = tt
receives connection cells (pop.Refusing (refusing_pop.SawRead read)) = tt
receives connection cells (pop.Refusing (refusing_pop.Nonempty read next)) = tt
receives connection cells (pop.Refusing (refusing_pop.SawCell next value)) = tt
receives connection cells (pop.Refusing (refusing_pop.Popped got)) = tt
receives connection cells (pop.Refusing refusing_pop.LookBegun) = tt
receives connection cells (pop.Refusing (refusing_pop.LookRead read)) = tt
receives connection cells (pop.Refusing (refusing_pop.Looked some)) = tt

-- giving back
gives_back : (connection cells : ℕ) (p : refusing_push_type.Push)
    → SubscriberMay (on_ring connection Completion cells (refusing.push_next p))
gives_back connection cells refusing_push.Idle = tt
gives_back connection cells (refusing_push.Begun limit value) = tt
gives_back connection cells (refusing_push.SawWrite limit value write next) = tt
gives_back connection cells (refusing_push.SawRoom value write next) = tt
gives_back connection cells (refusing_push.Filled value next) = tt
gives_back connection cells (refusing_push.Pushed value answer) = tt

pub publishers_stay : PublishersStay
publishers_stay publisher.Idle = tt
publishers_stay (publisher.LoanReclaims place route p) = takes_back route.connection route.completion_cells p
publishers_stay publisher.Lending = tt
publishers_stay (publisher.Writing slot word value) = tt
publishers_stay (publisher.Written slot) = tt
publishers_stay (publisher.Heading slot word value) = tt
publishers_stay (publisher.Remembering slot) = tt
publishers_stay (publisher.SendReclaims slot place route p) = takes_back route.connection route.completion_cells p
publishers_stay (publisher.Pushing slot place route p delivery) = sends route.connection route.submission_cells p
publishers_stay (publisher.Sent slot delivery) = tt
publishers_stay (publisher.Dropping slot) = tt

pub subscribers_stay : SubscribersStay
subscribers_stay subscriber.Idle = tt
subscribers_stay (subscriber.Receiving place route p waits) = receives route.connection route.submission_cells p
subscribers_stay (subscriber.Received receipt) = tt
subscribers_stay (subscriber.Reading slot word extent) = tt
subscribers_stay (subscriber.WasRead slot) = tt
subscribers_stay (subscriber.Releasing place route p) = gives_back route.connection route.completion_cells p
subscribers_stay (subscriber.Released done) = tt
