-- How a call goes from one stage of its pop or push to the next with each answer, as long as that pop or push asks for more words and moves
-- no position.
use Rattle.std.proofs.Common.{ℕ, ◌≡◌, Bool, None, refl, ap, subst, sym, ◌∙◌}
use Rattle.iox_lanes_machine.specs.QueuesSteps.Ends.{pop_next, pop_take, push_next, push_take}
use Rattle.iox_lanes_machine.specs.QueuesSteps.Overflowing as overflowing
use Rattle.iox_lanes_machine.specs.QueuesSteps.Refusing as refusing
use Rattle.iox_lanes_machine.specs.QueuesSteps.declared.rings.overflowing.push.Push.TheVariants as overflowing_push
use Rattle.iox_lanes_machine.specs.QueuesSteps.declared.rings.overflowing.pop.Pop.TheVariants as overflowing_pop
use Rattle.iox_lanes_machine.specs.QueuesSteps.declared.rings.refusing.push.Push as refusing_push_type
use Rattle.iox_lanes_machine.specs.QueuesSteps.declared.rings.refusing.push.Push.TheVariants as refusing_push
use Rattle.iox_lanes_machine.specs.QueuesSteps.declared.rings.refusing.pop.Pop as refusing_pop_type
use Rattle.iox_lanes_machine.specs.QueuesSteps.declared.rings.refusing.pop.Pop.TheVariants as refusing_pop
use Rattle.iox_lanes_machine.specs.QueuesSteps.declared.access.Access.{Access}
use Rattle.iox_lanes_machine.specs.QueuesSteps.declared.rings.ends.Push.{Push}
use Rattle.iox_lanes_machine.specs.QueuesSteps.declared.rings.ends.Push.TheVariants as push
use Rattle.iox_lanes_machine.specs.QueuesSteps.declared.rings.ends.Pop.{Pop}
use Rattle.iox_lanes_machine.specs.QueuesSteps.declared.rings.ends.Pop.TheVariants as pop
use Rattle.iox_lanes_machine.specs.LanesBase.Answers.{refusing_push_answer, refusing_pop_answer, push_answer, pop_answer}
use Rattle.iox_lanes_machine.specs.LanesBase.Publishing.{loan_reclaimed, send_reclaimed, pushed}
use Rattle.iox_lanes_machine.specs.LanesBase.Publishing.{taken_back, push_change}
use Rattle.iox_lanes_machine.specs.LanesBase.Subscribing.{received, released, borrowed_by, given_back_by}
use Rattle.iox_lanes_machine.specs.LanesBase.declared.calls.publisher.Delivery.{Delivery}
use Rattle.iox_lanes_machine.specs.LanesBase.declared.calls.publisher.PublisherCall.TheVariants as publishing
use Rattle.iox_lanes_machine.specs.LanesBase.declared.calls.publisher.PublisherChange.TheVariants as publisher_change
use Rattle.iox_lanes_machine.specs.LanesBase.declared.calls.route.Route.{Route}
use Rattle.iox_lanes_machine.specs.LanesBase.declared.calls.subscriber.SubscriberCall.TheVariants as subscribing
use Rattle.iox_lanes_machine.specs.LanesBase.declared.calls.subscriber.SubscriberChange.TheVariants as subscriber_change
use Rattle.iox_lanes_machine.specs.LanesParties.PublisherKeeping.{changed as publisher_changed}
use Rattle.iox_lanes_machine.specs.LanesParties.Keeping.{changed as subscriber_changed}
use Rattle.iox_lanes_machine.specs.LanesParties.Parties.{PublisherLaneState, SubscriberLaneState, publisher_after, subscriber_after}
use Rattle.iox_lanes_machine.specs.LanesBase.declared.words.word.ConnectionRing.TheVariants as own_ring
use Rattle.iox_lanes_threads_ports.specs.declared.ring_calls.RouteRing.{RouteRing}
use Rattle.iox_lanes_threads_ports.specs.Strides.{called, subscriber_called, AsksWord, KeepsPositions}

-- The submission ring of a connection, through which its messages go.
abbrev pub submission_ring : Route → RouteRing
submission_ring route = record { connection = route.connection; ring = own_ring.Submission; cells = route.submission_cells }

-- The completion ring of a connection, through which its samples come back.
abbrev pub completion_ring : Route → RouteRing
completion_ring route = record { connection = route.connection; ring = own_ring.Completion; cells = route.completion_cells }

-- A call on one kind of ring is a call on either kind (`whole`): both ask for the same accesses, and take answers in the same way.
pub record AreAlike {S E : Type 0} (whole : S → E) (asks : S → Access) (takes : S → ℕ → S) (asks_as : E → Access) (takes_as : E → ℕ → E)
    : Type 0 where
  pub asks_alike : (s : S) → asks_as (whole s) ≡ asks s
  pub takes_alike : (s : S) (answer : ℕ) → takes_as (whole s) answer ≡ whole (takes s answer)

-- Pushes on a refusing ring are pushes on a ring of either kind.
pub refusing_pushes : AreAlike (λ s. push.Refusing s) refusing.push_next refusing.push_take push_next push_take
refusing_pushes = record { asks_alike = λ s. refl; takes_alike = λ s answer. refl }

-- Pushes on an overflowing ring are pushes on a ring of either kind.
pub overflowing_pushes : AreAlike (λ s. push.Overflowing s) overflowing.push_next overflowing.push_take push_next push_take
overflowing_pushes = record { asks_alike = λ s. refl; takes_alike = λ s answer. refl }

-- Pops on a refusing ring are pops on a ring of either kind.
pub refusing_pops : AreAlike (λ s. pop.Refusing s) refusing.pop_next refusing.pop_take pop_next pop_take
refusing_pops = record { asks_alike = λ s. refl; takes_alike = λ s answer. refl }

-- Pops on an overflowing ring are pops on a ring of either kind.
pub overflowing_pops : AreAlike (λ s. pop.Overflowing s) overflowing.pop_next overflowing.pop_take pop_next pop_take
overflowing_pops = record { asks_alike = λ s. refl; takes_alike = λ s answer. refl }

-- A pop on a refusing ring that asks for a word has no answer yet.
refusing_pop_unanswered : (s : refusing_pop_type.Pop) → AsksWord (refusing.pop_next s) → refusing_pop_answer s ≡ None
refusing_pop_unanswered refusing_pop.Idle a = refl
refusing_pop_unanswered refusing_pop.Begun a = refl
refusing_pop_unanswered (refusing_pop.SawRead read) a = refl
refusing_pop_unanswered (refusing_pop.Nonempty read next) a = refl
refusing_pop_unanswered (refusing_pop.SawCell next value) a = refl
refusing_pop_unanswered (refusing_pop.Popped got) a = absurd a
refusing_pop_unanswered refusing_pop.LookBegun a = refl
refusing_pop_unanswered (refusing_pop.LookRead read) a = refl
refusing_pop_unanswered (refusing_pop.Looked some) a = absurd a

pop_unanswered : (s : Pop) → AsksWord (pop_next s) → pop_answer s ≡ None
pop_unanswered (pop.Overflowing overflowing_pop.Idle) a = refl
pop_unanswered (pop.Overflowing overflowing_pop.Begun) a = refl
pop_unanswered (pop.Overflowing (overflowing_pop.SawRead read)) a = refl
pop_unanswered (pop.Overflowing (overflowing_pop.Nonempty read next)) a = refl
pop_unanswered (pop.Overflowing (overflowing_pop.SawCell read next value)) a = refl
pop_unanswered (pop.Overflowing (overflowing_pop.Popped got)) a = absurd a
pop_unanswered (pop.Overflowing overflowing_pop.LookBegun) a = refl
pop_unanswered (pop.Overflowing (overflowing_pop.LookRead read)) a = refl
pop_unanswered (pop.Overflowing (overflowing_pop.Looked some)) a = absurd a
pop_unanswered (pop.Refusing s) a = refusing_pop_unanswered s a

refusing_push_unanswered : (s : refusing_push_type.Push) → AsksWord (refusing.push_next s) → refusing_push_answer s ≡ None
refusing_push_unanswered refusing_push.Idle a = refl
refusing_push_unanswered (refusing_push.Begun limit value) a = refl
refusing_push_unanswered (refusing_push.SawWrite limit value write next) a = refl
refusing_push_unanswered (refusing_push.SawRoom value write next) a = refl
refusing_push_unanswered (refusing_push.Filled value next) a = refl
refusing_push_unanswered (refusing_push.Pushed value answer) a = absurd a

push_unanswered : (s : Push) → AsksWord (push_next s) → push_answer s ≡ None
push_unanswered (push.Overflowing overflowing_push.Idle) a = refl
push_unanswered (push.Overflowing (overflowing_push.Begun limit value)) a = refl
push_unanswered (push.Overflowing (overflowing_push.SawWrite limit value write next)) a = refl
push_unanswered (push.Overflowing (overflowing_push.SawRead limit value write next read)) a = refl
push_unanswered (push.Overflowing (overflowing_push.Filled limit value write next read)) a = refl
push_unanswered (push.Overflowing (overflowing_push.Full value read next)) a = refl
push_unanswered (push.Overflowing (overflowing_push.SawOldest value read next oldest)) a = refl
push_unanswered (push.Overflowing (overflowing_push.Pushed value answer)) a = absurd a
push_unanswered (push.Refusing s) a = refusing_push_unanswered s a

-- A push whose next access moves no position puts nothing.
puts_nothing : (place : ℕ) (s : Push) (answer : ℕ) → KeepsPositions (push_next s) → push_change place s answer ≡ publisher_change.Nothing
puts_nothing place (push.Refusing refusing_push.Idle) answer k = refl
puts_nothing place (push.Refusing (refusing_push.Begun limit value)) answer k = refl
puts_nothing place (push.Refusing (refusing_push.SawWrite limit value write next)) answer k = refl
puts_nothing place (push.Refusing (refusing_push.SawRoom value write next)) answer k = refl
puts_nothing place (push.Refusing (refusing_push.Filled value next)) answer k = absurd k
puts_nothing place (push.Refusing (refusing_push.Pushed value answered)) answer k = refl
puts_nothing place (push.Overflowing overflowing_push.Idle) answer k = refl
puts_nothing place (push.Overflowing (overflowing_push.Begun limit value)) answer k = refl
puts_nothing place (push.Overflowing (overflowing_push.SawWrite limit value write next)) answer k = refl
puts_nothing place (push.Overflowing (overflowing_push.SawRead limit value write next read)) answer k = refl
puts_nothing place (push.Overflowing (overflowing_push.Filled limit value write next read)) answer k = absurd k
puts_nothing place (push.Overflowing (overflowing_push.Full value read next)) answer k = refl
puts_nothing place (push.Overflowing (overflowing_push.SawOldest value read next oldest)) answer k = absurd k
puts_nothing place (push.Overflowing (overflowing_push.Pushed value answered)) answer k = refl

gives_nothing_back : (place : ℕ) (s : refusing_push_type.Push) → KeepsPositions (refusing.push_next s)
    → given_back_by place s ≡ subscriber_change.Nothing
gives_nothing_back place refusing_push.Idle k = refl
gives_nothing_back place (refusing_push.Begun limit value) k = refl
gives_nothing_back place (refusing_push.SawWrite limit value write next) k = refl
gives_nothing_back place (refusing_push.SawRoom value write next) k = refl
gives_nothing_back place (refusing_push.Filled value next) k = absurd k
gives_nothing_back place (refusing_push.Pushed value answer) k = refl

-- A loan that takes samples back goes to the next stage of its pop.
pub loan_goes_on : (lane : PublisherLaneState) (place : ℕ) (route : Route) (s : refusing_pop_type.Pop) (answer : ℕ)
    → AsksWord (refusing.pop_next (refusing.pop_take s answer))
    → publisher_after answer (called (publishing.LoanReclaims place route s) lane)
    ≡ called (publishing.LoanReclaims place route (refusing.pop_take s answer)) lane
loan_goes_on lane place route s answer a =
    let none = refusing_pop_unanswered (refusing.pop_take s answer) a in
    λ i. record lane {
      port = record lane.port {
        call = loan_reclaimed lane.port.routes place route (refusing.pop_take s answer) (none i);
        book = publisher_changed (taken_back place (none i)) lane.port.book;
      };
    }

-- A send that takes samples back goes to the next stage of its pop.
pub sweep_goes_on : (lane : PublisherLaneState) (slot place : ℕ) (route : Route) (s : refusing_pop_type.Pop) (answer : ℕ)
    → AsksWord (refusing.pop_next (refusing.pop_take s answer))
    → publisher_after answer (called (publishing.SendReclaims slot place route s) lane)
    ≡ called (publishing.SendReclaims slot place route (refusing.pop_take s answer)) lane
sweep_goes_on lane slot place route s answer a =
    let none = refusing_pop_unanswered (refusing.pop_take s answer) a in
    λ i. record lane {
      port = record lane.port {
        call = send_reclaimed lane.port.routes slot place route (refusing.pop_take s answer) (none i);
        book = publisher_changed (taken_back place (none i)) lane.port.book;
      };
    }

-- A send that pushes goes to the next stage of its push.
pub push_goes_on : {S : Type 0} {whole : S → Push} {asks : S → Access} {takes : S → ℕ → S}
    → AreAlike whole asks takes push_next push_take
    → (lane : PublisherLaneState) (slot place : ℕ) (route : Route) (delivery : Delivery) (s : S) (answer : ℕ) → KeepsPositions (asks s)
    → AsksWord (asks (takes s answer))
    → publisher_after answer (called (publishing.Pushing slot place route (whole s) delivery) lane)
    ≡ called (publishing.Pushing slot place route (whole (takes s answer)) delivery) lane
push_goes_on {whole = whole} {takes = takes} alike lane slot place route delivery s answer k a =
    let takes_so = alike.takes_alike s answer in
    let none = ap push_answer takes_so ∙ push_unanswered (whole (takes s answer))
    (subst AsksWord (sym (alike.asks_alike (takes s answer))) a) in
    let nothing = puts_nothing place (whole s) answer (subst KeepsPositions (sym (alike.asks_alike s)) k) in
    λ i. record lane {
      port = record lane.port {
        call = pushed lane.port.routes slot place route (takes_so i) delivery (none i);
        book = publisher_changed (nothing i) lane.port.book;
      };
    }

-- A receive that pops goes to the next stage of its pop.
pub pop_goes_on : {S : Type 0} {whole : S → Pop} {asks : S → Access} {takes : S → ℕ → S}
    → AreAlike whole asks takes pop_next pop_take
    → (lane : SubscriberLaneState) (place : ℕ) (route : Route) (waits : Bool) (s : S) (answer : ℕ) → AsksWord (asks (takes s answer))
    → subscriber_after answer (subscriber_called (subscribing.Receiving place route (whole s) waits) lane)
    ≡ subscriber_called (subscribing.Receiving place route (whole (takes s answer)) waits) lane
pop_goes_on {whole = whole} {takes = takes} alike lane place route waits s answer a =
    let takes_so = alike.takes_alike s answer in
    let none = ap pop_answer takes_so ∙ pop_unanswered (whole (takes s answer))
    (subst AsksWord (sym (alike.asks_alike (takes s answer))) a) in
    λ i. record lane {
      port =
          subscriber_changed (borrowed_by place (none i))
          (record lane.port {
            call = received lane.port.routes lane.port.borrowed lane.port.most_borrowed place route (takes_so i) waits (none i);
          });
    }

-- A release that pushes goes to the next stage of its push.
pub release_goes_on : (lane : SubscriberLaneState) (place : ℕ) (route : Route) (s : refusing_push_type.Push) (answer : ℕ)
    → KeepsPositions (refusing.push_next s) → AsksWord (refusing.push_next (refusing.push_take s answer))
    → subscriber_after answer (subscriber_called (subscribing.Releasing place route s) lane)
    ≡ subscriber_called (subscribing.Releasing place route (refusing.push_take s answer)) lane
release_goes_on lane place route s answer k a =
    let none = refusing_push_unanswered (refusing.push_take s answer) a in
    let nothing = gives_nothing_back place s k in
    λ i. record lane {
      port = subscriber_changed (nothing i) (record lane.port { call = released place route (refusing.push_take s answer) (none i) });
    }
