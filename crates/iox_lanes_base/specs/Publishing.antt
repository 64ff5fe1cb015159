-- The calls of a publisher, by stage. The loads and stores of rings are those of the rings' ends.
use Rattle.std.specs.Prelude.{ℕ, ◌-◌, Bool, true, false, List, slice_get, Option, Some, None, if◌then◌else◌, ◌==◌, nat_lt}
use Rattle.iox_lanes_base.specs.QueuesSteps.Access.{successor}
use Rattle.iox_lanes_base.specs.QueuesSteps.declared.order.PushAnswer.{PushAnswer}
use Rattle.iox_lanes_base.specs.QueuesSteps.declared.order.PushAnswer.TheVariants.{Kept, LeftOut, Refused}
use Rattle.iox_lanes_base.specs.QueuesSteps.declared.order.PopAnswer.{PopAnswer}
use Rattle.iox_lanes_base.specs.QueuesSteps.declared.order.PopAnswer.TheVariants.{Got, Saw}
use Rattle.iox_queues_steps.specs.declared.rings.overflowing.push.Push as overflowing_type
use Rattle.iox_queues_steps.specs.declared.rings.overflowing.push.Push.TheVariants as overflowing
use Rattle.iox_queues_steps.specs.Refusing.{pop_next, pop_take}
use Rattle.iox_queues_steps.specs.declared.rings.refusing.push.Push as refusing_type
use Rattle.iox_queues_steps.specs.declared.rings.refusing.push.Push.TheVariants as refusing
use Rattle.iox_queues_steps.specs.declared.rings.refusing.pop.Pop.{Pop}
use Rattle.iox_queues_steps.specs.declared.rings.refusing.pop.Pop.TheVariants.{Begun}
use Rattle.iox_queues_steps.specs.Ends.{push_begun, push_next, push_take}
use Rattle.iox_queues_steps.specs.declared.rings.ends.Push.{Push}
use Rattle.iox_queues_steps.specs.declared.rings.ends.Push.TheVariants as ring
use Rattle.iox_lanes_base.specs.Words.{on_ring}
use Rattle.iox_lanes_base.specs.declared.words.word.ConnectionRing.TheVariants.{Submission, Completion}
use Rattle.iox_lanes_base.specs.declared.words.word.SlotWord.{SlotWord}
use Rattle.iox_lanes_base.specs.declared.words.word.SlotWord.TheVariants.{Header, UserHeader, Payload}
use Rattle.iox_lanes_base.specs.declared.words.word.SharedWord.TheVariants.{Slot}
use Rattle.iox_lanes_base.specs.declared.words.access.SharedAccess.{SharedAccess}
use Rattle.iox_lanes_base.specs.declared.words.access.SharedAccess.TheVariants.{Store, Local}
use Rattle.iox_lanes_base.specs.Answers.{refusing_pop_answer, push_answer}
use Rattle.iox_lanes_base.specs.declared.calls.route.Route.{Route}
use Rattle.iox_lanes_base.specs.declared.calls.publisher.Delivery.{Delivery}
use Rattle.iox_lanes_base.specs.declared.calls.publisher.PublisherCall.{PublisherCall}
use Rattle.iox_lanes_base.specs.declared.calls.publisher.PublisherCall.TheVariants.{Idle, LoanReclaims, Lending, Writing, Written}
use Rattle.iox_lanes_base.specs.declared.calls.publisher.PublisherCall.TheVariants.{Heading, Remembering, SendReclaims, Pushing, Sent}
use Rattle.iox_lanes_base.specs.declared.calls.publisher.PublisherCall.TheVariants.{Dropping}
use Rattle.iox_lanes_base.specs.declared.calls.publisher.PublisherChange.{PublisherChange}
use Rattle.iox_lanes_base.specs.declared.calls.publisher.PublisherChange.TheVariants as change

-- The word of header and user header with this number: the three words of the header come before those of the user header.
abbrev pub header_word : ℕ → SlotWord
header_word word = if nat_lt word 3 then Header word else UserHeader (word - 3)

-- The access that a call makes next at each stage.
abbrev pub publisher_next : PublisherCall → SharedAccess
publisher_next Idle = Local
publisher_next (LoanReclaims place route pop) = on_ring route.connection Completion route.completion_cells (pop_next pop)
publisher_next Lending = Local
publisher_next (Writing slot word value) = Store (Slot slot (Payload word)) value
publisher_next (Written slot) = Local
publisher_next (Heading slot word value) = Store (Slot slot (header_word word)) value
publisher_next (Remembering slot) = Local
publisher_next (SendReclaims slot place route pop) = on_ring route.connection Completion route.completion_cells (pop_next pop)
publisher_next (Pushing slot place route push delivery) = on_ring route.connection Submission route.submission_cells (push_next push)
publisher_next (Sent slot delivery) = Local
publisher_next (Dropping slot) = Local

-- The stage of a loan that takes samples back at this connection; after the last connection it looks for a slot.
abbrev pub loan_from : ℕ → Option Route → PublisherCall
loan_from place None = Lending
loan_from place (Some route) = LoanReclaims place route Begun

-- The stage of a loan at this place.
abbrev pub loan_at : List Route → ℕ → PublisherCall
loan_at routes place = loan_from place (slice_get routes place)

-- The stage of a loan after an answer of its pop: it takes back one sample after the other until it finds none; then it goes to the next
-- connection.
abbrev pub loan_reclaimed : List Route → ℕ → Route → Pop → Option PopAnswer → PublisherCall
loan_reclaimed routes place route pop None = LoanReclaims place route pop
loan_reclaimed routes place route pop (Some (Got (Some slot))) = LoanReclaims place route Begun
loan_reclaimed routes place route pop (Some (Got None)) = loan_at routes (successor place)
loan_reclaimed routes place route pop (Some (Saw some)) = loan_at routes (successor place)

-- The stage of a write that stores this word; after the last word it ends.
abbrev pub write_from : ℕ → ℕ → Option ℕ → PublisherCall
write_from slot word None = Written slot
write_from slot word (Some value) = Writing slot word value

-- The stage of a write at this word.
abbrev pub write_at : List ℕ → ℕ → ℕ → PublisherCall
write_at words slot word = write_from slot word (slice_get words word)

-- The stage of a send that stores this word of header and user header; after the last word comes the history.
abbrev pub head_from : ℕ → ℕ → Option ℕ → PublisherCall
head_from slot word None = Remembering slot
head_from slot word (Some value) = Heading slot word value

-- The stage of a send at this word of header and user header.
abbrev pub head_at : List ℕ → ℕ → ℕ → PublisherCall
head_at words slot word = head_from slot word (slice_get words word)

-- The stage of a send that pushes at this connection; after the last connection it ends.
abbrev pub push_from : ℕ → ℕ → Delivery → Option Route → PublisherCall
push_from slot place delivery None = Sent slot delivery
push_from slot place delivery (Some route) = Pushing slot place route (push_begun route.kind route.limit slot) delivery

-- The stage of a send that pushes at this place.
abbrev pub push_at : List Route → ℕ → ℕ → Delivery → PublisherCall
push_at routes slot place delivery = push_from slot place delivery (slice_get routes place)

-- No connection has taken the message yet, and none has refused it.
abbrev pub nothing_sent : Delivery
nothing_sent = record { taken = 0; refused = 0 }

-- The stage of a send that takes samples back at this connection; after the last connection it begins to push.
abbrev pub sweep_from : List Route → ℕ → ℕ → Option Route → PublisherCall
sweep_from routes slot place None = push_at routes slot 0 nothing_sent
sweep_from routes slot place (Some route) = SendReclaims slot place route Begun

-- The stage of a send that takes samples back at this place.
abbrev pub sweep_at : List Route → ℕ → ℕ → PublisherCall
sweep_at routes slot place = sweep_from routes slot place (slice_get routes place)

-- The stage of a send after an answer of its pop: it takes back one sample after the other until it finds none; then it goes to the next
-- connection.
abbrev pub send_reclaimed : List Route → ℕ → ℕ → Route → Pop → Option PopAnswer → PublisherCall
send_reclaimed routes slot place route pop None = SendReclaims slot place route pop
send_reclaimed routes slot place route pop (Some (Got (Some back))) = SendReclaims slot place route Begun
send_reclaimed routes slot place route pop (Some (Got None)) = sweep_at routes slot (successor place)
send_reclaimed routes slot place route pop (Some (Saw some)) = sweep_at routes slot (successor place)

-- The delivery with one more connection that took the message, or refused it.
abbrev pub counted : Delivery → PushAnswer → Delivery
counted delivery Kept = record delivery { taken = successor delivery.taken }
counted delivery (LeftOut oldest) = record delivery { taken = successor delivery.taken }
counted delivery Refused = record delivery { refused = successor delivery.refused }

-- The stage of a send after an answer of its push: it goes on with the push, or to the next connection after the push is over.
abbrev pub pushed : List Route → ℕ → ℕ → Route → Push → Delivery → Option PushAnswer → PublisherCall
pushed routes slot place route push delivery None = Pushing slot place route push delivery
pushed routes slot place route push delivery (Some answer) = push_at routes slot (successor place) (counted delivery answer)

-- The stage after the answer of the next access; `words` are those that a write or a send stores.
abbrev pub publisher_take : List Route → List ℕ → PublisherCall → ℕ → PublisherCall
publisher_take routes words Idle answer = Idle
publisher_take routes words (LoanReclaims place route pop) answer =
    loan_reclaimed routes place route (pop_take pop answer) (refusing_pop_answer (pop_take pop answer))
publisher_take routes words Lending answer = Idle
publisher_take routes words (Writing slot word value) answer = write_at words slot (successor word)
publisher_take routes words (Written slot) answer = Idle
publisher_take routes words (Heading slot word value) answer = head_at words slot (successor word)
publisher_take routes words (Remembering slot) answer = sweep_at routes slot 0
publisher_take routes words (SendReclaims slot place route pop) answer =
    send_reclaimed routes slot place route (pop_take pop answer) (refusing_pop_answer (pop_take pop answer))
publisher_take routes words (Pushing slot place route push delivery) answer =
    pushed routes slot place route (push_take push answer) delivery (push_answer (push_take push answer))
publisher_take routes words (Sent slot delivery) answer = Idle
publisher_take routes words (Dropping slot) answer = Idle

-- Whether no call is in progress.
abbrev pub publisher_is_idle : PublisherCall → Bool
publisher_is_idle Idle = true
publisher_is_idle (LoanReclaims place route pop) = false
publisher_is_idle Lending = false
publisher_is_idle (Writing slot word value) = false
publisher_is_idle (Written slot) = false
publisher_is_idle (Heading slot word value) = false
publisher_is_idle (Remembering slot) = false
publisher_is_idle (SendReclaims slot place route pop) = false
publisher_is_idle (Pushing slot place route push delivery) = false
publisher_is_idle (Sent slot delivery) = false
publisher_is_idle (Dropping slot) = false

-- Whether the next step is the last one of the call.
abbrev pub publisher_is_over : PublisherCall → Bool
publisher_is_over Idle = false
publisher_is_over (LoanReclaims place route pop) = false
publisher_is_over Lending = true
publisher_is_over (Writing slot word value) = false
publisher_is_over (Written slot) = true
publisher_is_over (Heading slot word value) = false
publisher_is_over (Remembering slot) = false
publisher_is_over (SendReclaims slot place route pop) = false
publisher_is_over (Pushing slot place route push delivery) = false
publisher_is_over (Sent slot delivery) = true
publisher_is_over (Dropping slot) = true

-- What a pop changes: the slot that it popped, if any, came back.
abbrev pub taken_back : ℕ → Option PopAnswer → PublisherChange
taken_back place None = change.Nothing
taken_back place (Some (Got (Some slot))) = change.TakenBack place slot
taken_back place (Some (Got None)) = change.Nothing
taken_back place (Some (Saw some)) = change.Nothing

-- What the next access of a push on a refusing ring changes: the slot is put by the store of the write position.
abbrev pub refusing_push_change : ℕ → refusing_type.Push → PublisherChange
refusing_push_change place refusing.Idle = change.Nothing
refusing_push_change place (refusing.Begun limit value) = change.Nothing
refusing_push_change place (refusing.SawWrite limit value write next) = change.Nothing
refusing_push_change place (refusing.SawRoom value write next) = change.Nothing
refusing_push_change place (refusing.Filled value next) = change.Put place value
refusing_push_change place (refusing.Pushed value answered) = change.Nothing

-- What the next access of a push on an overflowing ring changes: the slot is put by the store of the write position, and the oldest one is
-- dropped if the exchange succeeds.
abbrev pub overflowing_push_change : ℕ → overflowing_type.Push → ℕ → PublisherChange
overflowing_push_change place overflowing.Idle answer = change.Nothing
overflowing_push_change place (overflowing.Begun limit value) answer = change.Nothing
overflowing_push_change place (overflowing.SawWrite limit value write next) answer = change.Nothing
overflowing_push_change place (overflowing.SawRead limit value write next read) answer = change.Nothing
overflowing_push_change place (overflowing.Filled limit value write next read) answer = change.Put place value
overflowing_push_change place (overflowing.Full value read next) answer = change.Nothing
overflowing_push_change place (overflowing.SawOldest value read next oldest) answer =
    if answer == read then change.LeftOut place oldest else change.Nothing
overflowing_push_change place (overflowing.Pushed value answered) answer = change.Nothing

-- What the next access of a push on a ring of either kind changes, with this answer.
abbrev pub push_change : ℕ → Push → ℕ → PublisherChange
push_change place (ring.Overflowing push) answer = overflowing_push_change place push answer
push_change place (ring.Refusing push) answer = refusing_push_change place push

-- What the answer of the next access changes of what the publisher keeps for itself: steps that move a position of a ring change which
-- slots are there, and local steps change all else.
abbrev pub publisher_change : PublisherCall → ℕ → PublisherChange
publisher_change Idle answer = change.Nothing
publisher_change (LoanReclaims place route pop) answer = taken_back place (refusing_pop_answer (pop_take pop answer))
publisher_change Lending answer = change.Lend
publisher_change (Writing slot word value) answer = change.Nothing
publisher_change (Written slot) answer = change.Mark slot
publisher_change (Heading slot word value) answer = change.Nothing
publisher_change (Remembering slot) answer = change.Remember slot
publisher_change (SendReclaims slot place route pop) answer = taken_back place (refusing_pop_answer (pop_take pop answer))
publisher_change (Pushing slot place route push delivery) answer = push_change place push answer
publisher_change (Sent slot delivery) answer = change.Nothing
publisher_change (Dropping slot) answer = change.DropLoan slot
