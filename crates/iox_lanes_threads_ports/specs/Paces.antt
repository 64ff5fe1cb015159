-- How many steps a publisher's call makes, and how it ends; and when the steps of a call loaded words.
use Rattle.std.specs.Prelude.{ℕ, ◌≡◌, ◌+◌, ◌*◌, ◌<◌, ◌==◌, if◌then◌else◌, true, slice_get, Option, None, Some}
use Rattle.iox_lanes_machine.specs.LanesBase.declared.words.sizes.TableSizes.{TableSizes}
use Rattle.iox_lanes_machine.specs.LanesBase.Publishing.{publisher_next, publisher_is_over, publisher_change}
use Rattle.iox_lanes_machine.specs.LanesBase.declared.calls.publisher.PublisherChange.{PublisherChange}
use Rattle.iox_lanes_machine.specs.LanesBase.declared.calls.publisher.PublisherChange.TheVariants as change
use Rattle.iox_lanes_machine.specs.LanesBase.declared.calls.route.Route.{Route}
use Rattle.iox_lanes_machine.specs.LanesBase.Subscribing.{subscriber_next}
use Rattle.iox_lanes_machine.specs.LanesParties.Parties.{PublisherLaneState, SubscriberLaneState, publisher_after, publisher_answer}
use Rattle.iox_lanes_machine.specs.LanesParties.declared.call.Answer.{Answer}
use Rattle.iox_lanes_machine.specs.LanesBase.declared.words.access.SharedAccess.{SharedAccess}
use Rattle.iox_lanes_machine.specs.LanesBase.declared.words.access.SharedAccess.TheVariants.{Load, Store, Exchange, Local}
use Rattle.iox_lanes_threads_rule.specs.Acts.{ToldBy}
use Rattle.iox_lanes_threads_rule.specs.Lanes.{IsEarly, as_table}
use Rattle.iox_lanes_threads_rule.specs.declared.view.Port.{Port}
use Rattle.iox_lanes_threads_ports.specs.Courses.{PublisherGoes, SubscriberGoes}
use Rattle.iox_lanes_threads_ports.specs.Courses.PublisherGoes.{stays, goes}
use Rattle.iox_lanes_threads_ports.specs.Courses.SubscriberGoes.{stays as none, goes as one_more}

-- The number of samples that a step with this change takes back at the connection of this place: one or none.
abbrev pub back_at : ℕ → PublisherChange → ℕ
back_at place change.Nothing = 0
back_at place change.Lend = 0
back_at place (change.Mark slot) = 0
back_at place (change.Remember slot) = 0
back_at place (change.TakenBack at slot) = if at == place then 1 else 0
back_at place (change.Put at slot) = 0
back_at place (change.LeftOut at slot) = 0
back_at place (change.DropLoan slot) = 0

-- The number of these steps.
abbrev pub steps_in : {p : Port} {lane : PublisherLaneState} {q : Port} {now : PublisherLaneState} → PublisherGoes p lane q now → ℕ
steps_in stays = 0
steps_in (goes q now answer before told) = steps_in before + 1

-- The number of samples that these steps took back at the connection of a place.
abbrev pub taken_in : {p : Port} {lane : PublisherLaneState} {q : Port} {now : PublisherLaneState} → PublisherGoes p lane q now → ℕ → ℕ
taken_in stays = λ place. 0
taken_in (goes q now answer before told) = λ place. taken_in before place + back_at place (publisher_change now.port.call answer)

-- The maximum number of steps that take samples back: at each connection four for each cell of its completion ring, four for one more
-- sample, and two that find no further sample.
abbrev pub sweep_steps : TableSizes → ℕ
sweep_steps sizes = sizes.connections * (4 * (sizes.completion_cells + 1) + 2)

-- The maximum number of steps of a loan: it takes samples back, and then looks for a free slot.
abbrev pub loan_steps : TableSizes → ℕ
loan_steps sizes = sweep_steps sizes + 1

-- The maximum number of steps of a write: one for each word, and one that ends it.
abbrev pub write_steps : TableSizes → ℕ
write_steps sizes = sizes.payload_words + 1

-- The maximum number of steps of a send: one for each word of header and user header, one for the history, those that take samples back, at
-- most six at each connection, and one that ends it.
abbrev pub send_steps : TableSizes → ℕ
send_steps sizes = 3 + sizes.user_header_words + 1 + sweep_steps sizes + 6 * sizes.connections + 1

-- A publisher makes the steps of its call, at most `most` with the last one, which gives this answer.
pub record PublisherEnds (most : ℕ) (p : Port) (lane : PublisherLaneState) (q : Port) (now : PublisherLaneState) (answer : Answer) :
    Type 0 where
  pub last : PublisherLaneState
  pub goes : PublisherGoes p lane q last
  pub few : steps_in goes < most
  pub ends : publisher_is_over last.port.call ≡ true
  pub after : now ≡ publisher_after 0 last
  pub answers : publisher_answer last.fails last.port.call now.port.book.answer ≡ Some answer

-- If this access is a load, no write position was 2^64 - 1 when it was answered.
abbrev pub IsLoadedEarly : (p : Port) (access : SharedAccess) (answer : ℕ) → ToldBy p access answer → Type 0
IsLoadedEarly p (Load w) answer told = IsEarly (as_table p.service told.1.words)
IsLoadedEarly p (Store w new) answer told = Unit {0}
IsLoadedEarly p (Exchange w old new) answer told = Unit {0}
IsLoadedEarly p Local answer told = Unit {0}

-- No write position was 2^64 - 1 at any of these publisher's steps that loaded a word.
abbrev pub AreLoadedEarly : {p : Port} {lane : PublisherLaneState} {q : Port} {now : PublisherLaneState} → PublisherGoes p lane q now
    → Type 0
AreLoadedEarly stays = Unit {0}
AreLoadedEarly (goes q now answer before told) =
    AreLoadedEarly before × IsLoadedEarly q (publisher_next now.port.call) answer told

-- No write position was 2^64 - 1 at any of these subscriber's steps that loaded a word.
abbrev pub AreFoundEarly : {p : Port} {lane : SubscriberLaneState} {q : Port} {now : SubscriberLaneState} → SubscriberGoes p lane q now
    → Type 0
AreFoundEarly none = Unit {0}
AreFoundEarly (one_more q now answer before told) =
    AreFoundEarly before × IsLoadedEarly q (subscriber_next now.port.call) answer told

-- A publisher made `most` steps of its call, and the last step of the call isn't among them. This happens only where some write position
-- was 2^64 - 1 when one of these steps loaded a word, and more samples came back at one connection in this one call than its completion
-- ring has cells.
pub record StaysInside (most : ℕ) (p : Port) (lane : PublisherLaneState) (q : Port) (now : PublisherLaneState) : Type 0 where
  pub goes : PublisherGoes p lane q now
  pub all : steps_in goes ≡ most
  pub place : ℕ
  pub route : Route
  pub found : slice_get lane.port.routes place ≡ Some route
  pub more : p.service.sizes.completion_cells < taken_in goes place
  pub late : AreLoadedEarly goes → ⊥

-- A publisher runs its call. If there is an answer, the call ended with it, in at most `most` steps. If there is none, the publisher made
-- `most` steps and is still inside the call.
abbrev pub PublisherRuns : ℕ → Port → PublisherLaneState → Port → PublisherLaneState → Option Answer → Type 0
PublisherRuns most p lane q now None = StaysInside most p lane q now
PublisherRuns most p lane q now (Some answer) = PublisherEnds most p lane q now answer
