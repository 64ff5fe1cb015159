-- What a begin and a step make of lanes, from what each call of theirs tells.
use Rattle.std.proofs.Common.{ℕ, ◌≡◌, ◌++◌, List, length, set, slice_get, Option, Some}
use Rattle.iox_lanes_machine.specs.QueuesSteps.Access.{successor}
use Rattle.iox_lanes_machine.specs.LanesBase.Table.{TableWords, after_shared}
use Rattle.iox_lanes_machine.specs.LanesBase.Publishing.{publisher_next}
use Rattle.iox_lanes_machine.specs.LanesBase.Subscribing.{subscriber_next}
use Rattle.iox_lanes_machine.specs.LanesParties.Parties.{PublisherLaneState, SubscriberLaneState, publisher_begun, publisher_after}
use Rattle.iox_lanes_machine.specs.LanesParties.Parties.{subscriber_begun, subscriber_after, subscriber_answer, words_read}
use Rattle.iox_lanes_machine.specs.LanesParties.declared.call.Answer.{Answer}
use Rattle.iox_lanes_machine.specs.LanesParties.declared.call.Call.{Call}
use Rattle.iox_lanes_machine.specs.LanesParties.declared.call.CallName.{CallName}
use Rattle.iox_lanes_machine.specs.LanesParties.declared.call.FinishedCall.{FinishedCall}
use Rattle.iox_lanes_machine.specs.LanesParties.declared.call.Party.TheVariants.{Publisher, Subscriber}
use Rattle.iox_lanes_machine.specs.World.{World, ended, publisher_begins, publisher_given, publisher_ending, publisher_goes_on}
use Rattle.iox_lanes_machine.specs.World.{subscriber_begins, subscriber_given, subscriber_goes_on}

-- a publisher that is there began a call
pub publisher_began : (m : World) (place : ℕ) (call : Call) (lane begun : PublisherLaneState) (moments : ℕ)
    → slice_get m.publishers place ≡ Some lane → begun ≡ publisher_begun m.moments call lane → moments ≡ successor m.moments
    → record m { publishers = set m.publishers place begun; moments = moments }
    ≡ publisher_begins m place call (slice_get m.publishers place)
publisher_began m place call lane begun moments found begins steps = rw (found, begins, steps)

-- a subscriber that is there began a call
pub subscriber_began : (m : World) (place : ℕ) (call : Call) (lane begun : SubscriberLaneState) (moments : ℕ)
    → slice_get m.subscribers place ≡ Some lane → begun ≡ subscriber_begun m.moments call lane → moments ≡ successor m.moments
    → record m { subscribers = set m.subscribers place begun; moments = moments }
    ≡ subscriber_begins m place call (slice_get m.subscribers place)
subscriber_began m place call lane begun moments found begins steps = rw (found, begins, steps)

-- a publisher that is there went on
pub publisher_went : (m : World) (place : ℕ) (lane gone : PublisherLaneState) (table : TableWords) (call : CallName) (first : ℕ)
    (answer : Option Answer) (finished : List FinishedCall) (moments : ℕ) → slice_get m.publishers place ≡ Some lane
    → table ≡ after_shared m.table (publisher_next lane.port.call) → gone ≡ publisher_after (publisher_given m.table lane) lane
    → answer ≡ publisher_ending m.table lane → call ≡ gone.call → first ≡ gone.first
    → finished ≡ m.finished ++ ended (Publisher place) call first m.moments answer → moments ≡ successor m.moments
    → record m { table = table; publishers = set m.publishers place gone; finished = finished; moments = moments }
    ≡ publisher_goes_on m place (slice_get m.publishers place)
publisher_went m place lane gone table call first answer finished moments found access goes ends name begin told steps =
    rw (found, access, told, name, begin, ends, steps, goes)

-- a subscriber that is there went on; `words` are those of a read whose last step this is, and `read` what was read by then
pub subscriber_went : (m : World) (place : ℕ) (lane gone : SubscriberLaneState) (table : TableWords) (call : CallName) (first from : ℕ)
    (answer : Option Answer) (words read : List ℕ) (finished : List FinishedCall) (moments : ℕ)
    → slice_get m.subscribers place ≡ Some lane → table ≡ after_shared m.table (subscriber_next lane.port.call)
    → gone ≡ subscriber_after (subscriber_given m.table lane) lane → answer ≡ subscriber_answer lane.port.call from
    → from ≡ length m.read → words ≡ words_read lane.port.call lane.port.words → read ≡ m.read ++ words → call ≡ gone.call
    → first ≡ gone.first → finished ≡ m.finished ++ ended (Subscriber place) call first m.moments answer → moments ≡ successor m.moments
    → record m { table = table; subscribers = set m.subscribers place gone; finished = finished; read = read; moments = moments }
    ≡ subscriber_goes_on m place (slice_get m.subscribers place)
subscriber_went m place lane gone table call first from answer words read finished moments found access goes ends begins loads reads name
    begin told steps = rw (found, access, told, name, begin, ends, begins, reads, loads, steps, goes)
