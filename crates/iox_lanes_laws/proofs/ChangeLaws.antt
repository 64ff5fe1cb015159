-- Ports change their record of slots at the steps that move a position.
use Rattle.std.proofs.Common.{ℕ, ◌≡◌, ◌==◌, Bool, true, false, not, if◌then◌else◌, Option, refl, ◌∙◌, ap}
use Rattle.std.proofs.lemmas.Bool.{lt-ltb, le-ltb}
use Rattle.iox_queues_steps.specs.Overflowing as overflowing
use Rattle.iox_queues_steps.specs.declared.rings.overflowing.push.Push.TheVariants as overflowing_push
use Rattle.iox_queues_steps.specs.declared.rings.overflowing.pop.Pop.TheVariants as overflowing_pop
use Rattle.iox_queues_steps.specs.Refusing as refusing
use Rattle.iox_queues_steps.specs.declared.rings.refusing.push.Push as refusing_push_type
use Rattle.iox_queues_steps.specs.declared.rings.refusing.push.Push.TheVariants as refusing_push
use Rattle.iox_queues_steps.specs.declared.rings.refusing.pop.Pop as refusing_pop_type
use Rattle.iox_queues_steps.specs.declared.rings.refusing.pop.Pop.TheVariants as refusing_pop
use Rattle.iox_queues_steps.specs.Ends.{push_next, pop_next, pop_take}
use Rattle.iox_queues_steps.specs.declared.rings.ends.Push.{Push}
use Rattle.iox_queues_steps.specs.declared.rings.ends.Push.TheVariants as push
use Rattle.iox_queues_steps.specs.declared.rings.ends.Pop.{Pop}
use Rattle.iox_queues_steps.specs.declared.rings.ends.Pop.TheVariants as pop
use Rattle.iox_lanes_base.specs.Words.{on_ring}
use Rattle.iox_lanes_base.specs.declared.words.word.ConnectionRing.TheVariants.{Submission, Completion}
use Rattle.iox_lanes_base.specs.Answers.{refusing_pop_answer, pop_answer}
use Rattle.iox_lanes_base.specs.Publishing.{taken_back, push_change}
use Rattle.iox_lanes_base.specs.Subscribing.{borrowed_by, given_back_by, is_full}
use Rattle.iox_lanes_base.specs.declared.calls.publisher.PublisherCall.TheVariants as publisher
use Rattle.iox_lanes_base.specs.declared.calls.publisher.PublisherChange.TheVariants as publisher_change
use Rattle.iox_lanes_base.specs.declared.calls.subscriber.SubscriberCall.TheVariants as subscriber
use Rattle.iox_lanes_laws.specs.Changes.{moves, is_of_slots, is_of_samples, PublishersKeepPace, SubscribersKeepPace, LimitsHold}

-- after the write position was loaded nothing is back yet
nothing_back : (place read : ℕ) (empty : Bool)
    → is_of_slots (taken_back place (refusing_pop_answer (refusing.pop_emptied empty read))) ≡ false
nothing_back place read true = refl
nothing_back place read false = refl

takes_back : (connection cells place answer : ℕ) (p : refusing_pop_type.Pop)
    → is_of_slots (taken_back place (refusing_pop_answer (refusing.pop_take p answer)))
    ≡ moves (on_ring connection Completion cells (refusing.pop_next p)) answer
takes_back connection cells place answer refusing_pop.Idle = refl
takes_back connection cells place answer refusing_pop.Begun = refl
takes_back connection cells place answer (refusing_pop.SawRead read) = nothing_back place read (answer == read)
takes_back connection cells place answer (refusing_pop.Nonempty read next) = refl
takes_back connection cells place answer (refusing_pop.SawCell next value) = refl
takes_back connection cells place answer (refusing_pop.Popped got) = refl
takes_back connection cells place answer refusing_pop.LookBegun = refl
takes_back connection cells place answer (refusing_pop.LookRead read) = refl
takes_back connection cells place answer (refusing_pop.Looked some) = refl

-- the oldest leaves exactly if the exchange is won
left_out : (place oldest : ℕ) (won : Bool)
    → is_of_slots (if won then publisher_change.LeftOut place oldest else publisher_change.Nothing) ≡ won
left_out place oldest true = refl
left_out place oldest false = refl

pushes : (connection cells place answer : ℕ) (p : Push)
    → is_of_slots (push_change place p answer) ≡ moves (on_ring connection Submission cells (push_next p)) answer
pushes connection cells place answer (push.Overflowing overflowing_push.Idle) = refl
pushes connection cells place answer (push.Overflowing (overflowing_push.Begun limit value)) = refl
pushes connection cells place answer (push.Overflowing (overflowing_push.SawWrite limit value write next)) = refl
pushes connection cells place answer (push.Overflowing (overflowing_push.SawRead limit value write next read)) = refl
pushes connection cells place answer (push.Overflowing (overflowing_push.Filled limit value write next read)) = refl
pushes connection cells place answer (push.Overflowing (overflowing_push.Full value read next)) = refl
pushes connection cells place answer (push.Overflowing (overflowing_push.SawOldest value read next oldest))
    = left_out place oldest (answer == read)
pushes connection cells place answer (push.Overflowing (overflowing_push.Pushed value answered)) = refl
pushes connection cells place answer (push.Refusing refusing_push.Idle) = refl
pushes connection cells place answer (push.Refusing (refusing_push.Begun limit value)) = refl
pushes connection cells place answer (push.Refusing (refusing_push.SawWrite limit value write next)) = refl
pushes connection cells place answer (push.Refusing (refusing_push.SawRoom value write next)) = refl
pushes connection cells place answer (push.Refusing (refusing_push.Filled value next)) = refl
pushes connection cells place answer (push.Refusing (refusing_push.Pushed value answered)) = refl

pub publishers_keep_pace : PublishersKeepPace
publishers_keep_pace publisher.Idle answer = refl
publishers_keep_pace (publisher.LoanReclaims place route p) answer = takes_back route.connection route.completion_cells place answer p
publishers_keep_pace publisher.Lending answer = refl
publishers_keep_pace (publisher.Writing slot word value) answer = refl
publishers_keep_pace (publisher.Written slot) answer = refl
publishers_keep_pace (publisher.Heading slot word value) answer = refl
publishers_keep_pace (publisher.Remembering slot) answer = refl
publishers_keep_pace (publisher.SendReclaims slot place route p) answer = takes_back route.connection route.completion_cells place answer p
publishers_keep_pace (publisher.Pushing slot place route p delivery) answer = pushes route.connection route.submission_cells place answer p
publishers_keep_pace (publisher.Sent slot delivery) answer = refl
publishers_keep_pace (publisher.Dropping slot) answer = refl

-- after the write position was loaded nothing is borrowed yet
nothing_borrowed : (place read : ℕ) (empty : Bool)
    → is_of_samples (borrowed_by place (pop_answer (pop.Overflowing (overflowing.pop_emptied empty read)))) ≡ false
nothing_borrowed place read true = refl
nothing_borrowed place read false = refl

nothing_taken : (place read : ℕ) (empty : Bool)
    → is_of_samples (borrowed_by place (pop_answer (pop.Refusing (refusing.pop_emptied empty read)))) ≡ false
nothing_taken place read true = refl
nothing_taken place read false = refl

-- a slot is borrowed exactly if the exchange is won
swapped : (place found value : ℕ) (won : Bool)
    → is_of_samples (borrowed_by place (pop_answer (pop.Overflowing (overflowing.pop_swapped won found value)))) ≡ won
swapped place found value true = refl
swapped place found value false = refl

borrows : (connection cells place answer : ℕ) (p : Pop)
    → is_of_samples (borrowed_by place (pop_answer (pop_take p answer))) ≡ moves (on_ring connection Submission cells (pop_next p)) answer
borrows connection cells place answer (pop.Overflowing overflowing_pop.Idle) = refl
borrows connection cells place answer (pop.Overflowing overflowing_pop.Begun) = refl
borrows connection cells place answer (pop.Overflowing (overflowing_pop.SawRead read)) = nothing_borrowed place read (answer == read)
borrows connection cells place answer (pop.Overflowing (overflowing_pop.Nonempty read next)) = refl
borrows connection cells place answer (pop.Overflowing (overflowing_pop.SawCell read next value))
    = swapped place answer value (answer == read)
borrows connection cells place answer (pop.Overflowing (overflowing_pop.Popped got)) = refl
borrows connection cells place answer (pop.Overflowing overflowing_pop.LookBegun) = refl
borrows connection cells place answer (pop.Overflowing (overflowing_pop.LookRead read)) = refl
borrows connection cells place answer (pop.Overflowing (overflowing_pop.Looked some)) = refl
borrows connection cells place answer (pop.Refusing refusing_pop.Idle) = refl
borrows connection cells place answer (pop.Refusing refusing_pop.Begun) = refl
borrows connection cells place answer (pop.Refusing (refusing_pop.SawRead read)) = nothing_taken place read (answer == read)
borrows connection cells place answer (pop.Refusing (refusing_pop.Nonempty read next)) = refl
borrows connection cells place answer (pop.Refusing (refusing_pop.SawCell next value)) = refl
borrows connection cells place answer (pop.Refusing (refusing_pop.Popped got)) = refl
borrows connection cells place answer (pop.Refusing refusing_pop.LookBegun) = refl
borrows connection cells place answer (pop.Refusing (refusing_pop.LookRead read)) = refl
borrows connection cells place answer (pop.Refusing (refusing_pop.Looked some)) = refl

gives_back : (connection cells place answer : ℕ) (p : refusing_push_type.Push)
    → is_of_samples (given_back_by place p) ≡ moves (on_ring connection Completion cells (refusing.push_next p)) answer
gives_back connection cells place answer refusing_push.Idle = refl
gives_back connection cells place answer (refusing_push.Begun limit value) = refl
gives_back connection cells place answer (refusing_push.SawWrite limit value write next) = refl
gives_back connection cells place answer (refusing_push.SawRoom value write next) = refl
gives_back connection cells place answer (refusing_push.Filled value next) = refl
gives_back connection cells place answer (refusing_push.Pushed value answered) = refl

pub subscribers_keep_pace : SubscribersKeepPace
subscribers_keep_pace subscriber.Idle answer = refl
subscribers_keep_pace (subscriber.Receiving place route p waits) answer = borrows route.connection route.submission_cells place answer p
subscribers_keep_pace (subscriber.Received receipt) answer = refl
subscribers_keep_pace (subscriber.Reading slot word extent) answer = refl
subscribers_keep_pace (subscriber.WasRead slot) answer = refl
subscribers_keep_pace (subscriber.Releasing place route p) answer = gives_back route.connection route.completion_cells place answer p
subscribers_keep_pace (subscriber.Released done) answer = refl

pub limits_hold : LimitsHold
limits_hold borrowed most place count found = (
  λ h. ap (λ (at : Option ℕ). is_full most at) found ∙ ap not (le-ltb count most h),
  λ h. ap (λ (at : Option ℕ). is_full most at) found ∙ ap not (lt-ltb count most h),
)
