-- The answer of a send, from its delivery.
use Rattle.std.specs.Prelude.{◌&&◌, Bool, if◌then◌else◌, nat_lt}
use Rattle.iox_lanes_parties.specs.LanesBase.declared.calls.publisher.Delivery.{Delivery}
use Rattle.iox_lanes_parties.specs.declared.call.SendAnswer.{SendAnswer}
use Rattle.iox_lanes_parties.specs.declared.call.SendAnswer.TheVariants.{Delivered, UnableToDeliver}

-- The answer of a send: `UnableToDeliver` if the publisher's sends fail at a full mailbox and a connection refused the message, and
-- `Delivered` otherwise.
abbrev pub send_answer : Bool → Delivery → SendAnswer
send_answer fails delivery = if fails && nat_lt 0 delivery.refused then UnableToDeliver delivery else Delivered delivery

-- How many connections took the message, and how many refused it.
abbrev pub delivery_in : SendAnswer → Delivery
delivery_in (Delivered delivery) = delivery
delivery_in (UnableToDeliver delivery) = delivery
