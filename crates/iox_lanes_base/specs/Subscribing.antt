-- The calls of a subscriber, by stage. The loads and stores of rings are those of the rings' ends.
use Rattle.std.specs.Prelude.{ℕ, ◌+◌, ◌-◌, Bool, true, false, ◌||◌, not, List, slice_get, Option, Some, None, if◌then◌else◌, nat_lt}
use Rattle.iox_lanes_base.specs.QueuesSteps.Access.{successor}
use Rattle.iox_lanes_base.specs.QueuesSteps.declared.order.PushAnswer.{PushAnswer}
use Rattle.iox_lanes_base.specs.QueuesSteps.declared.order.PushAnswer.TheVariants.{Kept, LeftOut, Refused}
use Rattle.iox_lanes_base.specs.QueuesSteps.declared.order.PopAnswer.{PopAnswer}
use Rattle.iox_lanes_base.specs.QueuesSteps.declared.order.PopAnswer.TheVariants.{Got, Saw}
use Rattle.iox_queues_steps.specs.Refusing as refusing
use Rattle.iox_queues_steps.specs.declared.rings.refusing.push.Push.{Push}
use Rattle.iox_queues_steps.specs.declared.rings.refusing.push.Push.TheVariants as push
use Rattle.iox_queues_steps.specs.Ends.{pop_first, pop_next, pop_take}
use Rattle.iox_queues_steps.specs.declared.rings.ends.Pop.{Pop}
use Rattle.iox_lanes_base.specs.Words.{on_ring}
use Rattle.iox_lanes_base.specs.declared.words.word.ConnectionRing.TheVariants.{Submission, Completion}
use Rattle.iox_lanes_base.specs.declared.words.word.SlotWord.{SlotWord}
use Rattle.iox_lanes_base.specs.declared.words.word.SlotWord.TheVariants.{Header, UserHeader, Payload}
use Rattle.iox_lanes_base.specs.declared.words.word.SharedWord.TheVariants.{Slot}
use Rattle.iox_lanes_base.specs.declared.words.access.SharedAccess.{SharedAccess}
use Rattle.iox_lanes_base.specs.declared.words.access.SharedAccess.TheVariants.{Load, Local}
use Rattle.iox_lanes_base.specs.Answers.{pop_answer, refusing_push_answer}
use Rattle.iox_lanes_base.specs.declared.calls.route.Route.{Route}
use Rattle.iox_lanes_base.specs.declared.calls.subscriber.Receipt.{Receipt}
use Rattle.iox_lanes_base.specs.declared.calls.subscriber.Receipt.TheVariants as receipt
use Rattle.iox_lanes_base.specs.declared.calls.subscriber.SlotExtent.{SlotExtent}
use Rattle.iox_lanes_base.specs.declared.calls.subscriber.SubscriberCall.{SubscriberCall}
use Rattle.iox_lanes_base.specs.declared.calls.subscriber.SubscriberCall.TheVariants.{Idle, Receiving, Received, Reading, WasRead}
use Rattle.iox_lanes_base.specs.declared.calls.subscriber.SubscriberCall.TheVariants.{Releasing, Released}
use Rattle.iox_lanes_base.specs.declared.calls.subscriber.SubscriberChange.{SubscriberChange}
use Rattle.iox_lanes_base.specs.declared.calls.subscriber.SubscriberChange.TheVariants as change

-- The word of header, user header and payload with this number; these lie one after the other.
abbrev pub word_at : SlotExtent → ℕ → SlotWord
word_at extent word =
    if nat_lt word 3 then Header word
    else if nat_lt (word - 3) extent.user_header_words then UserHeader (word - 3)
    else Payload (word - 3 - extent.user_header_words)

-- The access that a call makes next at each stage.
abbrev pub subscriber_next : SubscriberCall → SharedAccess
subscriber_next Idle = Local
subscriber_next (Receiving place route pop waits) = on_ring route.connection Submission route.submission_cells (pop_next pop)
subscriber_next (Received receipt) = Local
subscriber_next (Reading slot word extent) = Load (Slot slot (word_at extent word))
subscriber_next (WasRead slot) = Local
subscriber_next (Releasing place route push) = on_ring route.connection Completion route.completion_cells (refusing.push_next push)
subscriber_next (Released done) = Local

-- Whether the maximum number of samples is borrowed.
abbrev pub is_full : ℕ → Option ℕ → Bool
is_full most None = false
is_full most (Some borrowed) = not (nat_lt borrowed most)

-- Whether the maximum number of samples is borrowed from the connection at this place.
abbrev pub is_full_at : List ℕ → ℕ → ℕ → Bool
is_full_at borrowed most place = is_full most (slice_get borrowed place)

-- The receipt of a receive that got no message: it is refused if a message waits at a connection from which the maximum number of samples
-- is borrowed.
abbrev pub nothing_received : Bool → Receipt
nothing_received waits = if waits then receipt.ExceedsMaxBorrows else receipt.Nothing

-- The stage of a receive that pops at this connection, or only looks where it may borrow no more; after the last connection it ends.
abbrev pub receive_from : ℕ → Bool → Bool → Option Route → SubscriberCall
receive_from place full waits None = Received (nothing_received waits)
receive_from place full waits (Some route) = Receiving place route (pop_first route.kind full) waits

-- The stage of a receive at this place.
abbrev pub receive_at : List Route → List ℕ → ℕ → ℕ → Bool → SubscriberCall
receive_at routes borrowed most place waits = receive_from place (is_full_at borrowed most place) waits (slice_get routes place)

-- The stage of a receive after an answer of its pop: the first slot ends it; without one it goes to the next connection.
abbrev pub received : List Route → List ℕ → ℕ → ℕ → Route → Pop → Bool → Option PopAnswer → SubscriberCall
received routes borrowed most place route pop waits None = Receiving place route pop waits
received routes borrowed most place route pop waits (Some (Got (Some slot))) = Received (receipt.Taken place slot)
received routes borrowed most place route pop waits (Some (Got None)) = receive_at routes borrowed most (successor place) waits
received routes borrowed most place route pop waits (Some (Saw some)) = receive_at routes borrowed most (successor place) (waits || some)

-- The stage of a read that loads this word; after the last word it ends.
abbrev pub read_at : ℕ → SlotExtent → ℕ → SubscriberCall
read_at slot extent word =
    if nat_lt word (3 + extent.user_header_words + extent.payload_words) then Reading slot word extent else WasRead slot

-- The stage of a release after an answer of its push: it goes on with the push, or ends after the push is over.
abbrev pub released : ℕ → Route → Push → Option PushAnswer → SubscriberCall
released place route push None = Releasing place route push
released place route push (Some Kept) = Released true
released place route push (Some (LeftOut oldest)) = Released true
released place route push (Some Refused) = Released false

-- The stage after the answer of the next access; `borrowed` has the number of samples that are borrowed from each connection, and `most` is
-- their maximum.
abbrev pub subscriber_take : List Route → List ℕ → ℕ → SubscriberCall → ℕ → SubscriberCall
subscriber_take routes borrowed most Idle answer = Idle
subscriber_take routes borrowed most (Receiving place route pop waits) answer =
    received routes borrowed most place route (pop_take pop answer) waits (pop_answer (pop_take pop answer))
subscriber_take routes borrowed most (Received receipt) answer = Idle
subscriber_take routes borrowed most (Reading slot word extent) answer = read_at slot extent (successor word)
subscriber_take routes borrowed most (WasRead slot) answer = Idle
subscriber_take routes borrowed most (Releasing place route push) answer =
    released place route (refusing.push_take push answer) (refusing_push_answer (refusing.push_take push answer))
subscriber_take routes borrowed most (Released done) answer = Idle

-- Whether no call is in progress.
abbrev pub subscriber_is_idle : SubscriberCall → Bool
subscriber_is_idle Idle = true
subscriber_is_idle (Receiving place route pop waits) = false
subscriber_is_idle (Received receipt) = false
subscriber_is_idle (Reading slot word extent) = false
subscriber_is_idle (WasRead slot) = false
subscriber_is_idle (Releasing place route push) = false
subscriber_is_idle (Released done) = false

-- Whether the next step is the last one of the call.
abbrev pub subscriber_is_over : SubscriberCall → Bool
subscriber_is_over Idle = false
subscriber_is_over (Receiving place route pop waits) = false
subscriber_is_over (Received receipt) = true
subscriber_is_over (Reading slot word extent) = false
subscriber_is_over (WasRead slot) = true
subscriber_is_over (Releasing place route push) = false
subscriber_is_over (Released done) = true

-- What a pop changes: the slot that it popped, if any, is borrowed.
abbrev pub borrowed_by : ℕ → Option PopAnswer → SubscriberChange
borrowed_by place None = change.Nothing
borrowed_by place (Some (Got (Some slot))) = change.Borrow place slot
borrowed_by place (Some (Got None)) = change.Nothing
borrowed_by place (Some (Saw some)) = change.Nothing

-- What the next access of a release's push changes: the slot goes back by the store of the write position.
abbrev pub given_back_by : ℕ → Push → SubscriberChange
given_back_by place push.Idle = change.Nothing
given_back_by place (push.Begun limit value) = change.Nothing
given_back_by place (push.SawWrite limit value write next) = change.Nothing
given_back_by place (push.SawRoom value write next) = change.Nothing
given_back_by place (push.Filled value next) = change.GiveBack place value
given_back_by place (push.Pushed value answered) = change.Nothing

-- What the answer of the next access changes of what the subscriber keeps for itself: steps that move a position of a ring change its
-- samples, and each load of a read changes what it has read.
abbrev pub subscriber_change : SubscriberCall → ℕ → SubscriberChange
subscriber_change Idle answer = change.Nothing
subscriber_change (Receiving place route pop waits) answer = borrowed_by place (pop_answer (pop_take pop answer))
subscriber_change (Received receipt) answer = change.Nothing
subscriber_change (Reading slot word extent) answer = change.Note word answer
subscriber_change (WasRead slot) answer = change.Nothing
subscriber_change (Releasing place route push) answer = given_back_by place push
subscriber_change (Released done) answer = change.Nothing
