-- What was asked of lanes by calls that don't overlap, and their answers.
use Rattle.std.specs.Prelude.{ℕ, suc, ◌≡◌, ◌+◌, ◌*◌, ◌<◌, ◌≤◌, ◌^◌, ◌⊎◌, ⊤, Bool, true, false, List, [], ◌∷◌, ◌++◌, length, Option, None}
use Rattle.std.specs.Prelude.{Some}
use Rattle.iox_command.specs.DomainValues.Actions.{decision_of}
use Rattle.iox_command.specs.DomainValues.declared.backpressure.BackpressureDecision.TheVariants.{DiscardData}
use Rattle.iox_command.specs.declared.command.Command.{Command}
use Rattle.iox_command.specs.declared.reply.Reply.{Reply}
use Rattle.iox_lanes_machine.specs.QueuesSteps.Ends.{overflows}
use Rattle.iox_lanes_machine.specs.Made.{listed}
use Rattle.iox_lanes_machine.specs.declared.sizes.LaneSizes.{LaneSizes}
use Rattle.iox_lanes_service.specs.Naming.{LaneLoan, LaneSample}
use Rattle.iox_lanes_service.specs.declared.in_turn.RanOut.{RanOut}
use Rattle.iox_lanes_service.specs.declared.in_turn.RanOut.TheVariants as out
use Rattle.iox_machine.specs.PortList.{those}
use Rattle.iox_machine.specs.Service.{Publisher, Service, Subscriber, mailbox}
use Rattle.iox_machine.specs.State.{State}
use Rattle.iox_machine.specs.Table.{at}

-- What was asked of lanes of these sizes, one whole call after the other, as commands, and the answer to each; how many loans and samples
-- were made so far; which loans and samples have numbers; and which loans were written. The lanes are stuck after memory or steps ran out
-- within a call; `ran_out` says which.
pub record Turns : Type 0 where
  pub sizes : LaneSizes
  pub asked : List (Command (List ℕ))
  pub answers : List (Reply (List ℕ))
  pub loans : ℕ
  pub samples : ℕ
  pub lent : List (ℕ × LaneLoan)
  pub held : List (ℕ × LaneSample)
  pub written : List ℕ
  pub stuck : Bool
  pub ran_out : Option RanOut

-- The record with one more command and this answer to it.
abbrev pub turned : Command (List ℕ) → Reply (List ℕ) → Turns → Turns
turned asked answer turns = record turns { asked = turns.asked ++ asked ∷ []; answers = turns.answers ++ answer ∷ [] }

-- The maximum number of steps of a call, on lanes of these sizes.
abbrev pub most_steps : LaneSizes → ℕ
most_steps sizes = 4 * sizes.subscribers * (sizes.buffer + sizes.most_borrowed + 3) + 8 * sizes.publishers + sizes.user_header_words
    + sizes.payload_words + 7

-- Memory or steps ran out within a call: a step of it found no memory for what it records; or the call made 2^62 steps and isn't over; or
-- more than 2^63 steps were made in all. Steps run out only if the calls that were answered, and one more, may make 2^61 steps.
abbrev pub RunsOut : Turns → RanOut → Type 0
RunsOut turns out.Memory = ⊤
RunsOut turns (out.Steps made) = (2 ^ 62 ≤ made) × (2 ^ 61 ≤ (length turns.asked + 1) * most_steps turns.sizes)
RunsOut turns (out.Moments made) = (2 ^ 63 < made) × (2 ^ 61 ≤ (length turns.asked + 1) * most_steps turns.sizes)

-- A call wasn't answered. Either nothing changed, and if the call fits, the lanes were stuck before; or memory or steps ran out within it,
-- the lanes are stuck from then on, and nothing else changed.
abbrev pub IsUnanswered : Type 0 → Turns → Turns → Type 0
IsUnanswered Fits old new =
    ((new ≡ old) × (Fits → old.stuck ≡ true))
    ⊎ ((why : RanOut) × RunsOut old why × (new ≡ record old { stuck = true; ran_out = Some why }))

-- A publisher that was created and is connected to each subscriber, before it loans and sends. Its messages have no sequence numbers, and
-- if mailboxes don't overflow, it discards messages at full mailboxes.
pub record ComesToSend (sizes : LaneSizes) (service : Service (List ℕ)) (publisher : Publisher (List ℕ)) : Type 0 where
  pub stands : publisher.stands ≡ true
  pub free : publisher.blocked ≡ None
  pub seen : publisher.seen ≡ service.subscriber_list.changes
  pub most_loans : publisher.max_loaned_samples ≡ sizes.most_loans
  pub slots : publisher.slots ≡ sizes.slots
  pub room : 1 ≤ publisher.room
  pub connected : those publisher.connected ≡ listed (λ place. suc place) sizes.subscribers
  pub last : publisher.last_sequence ≡ None
  pub history : publisher.history ≡ []
  pub ahead : publisher.first ≤ publisher.next
  pub discards : service.settings.enable_safe_overflow ≡ false → decision_of publisher.strategy publisher.handler ≡ DiscardData

-- A subscriber that was created and is connected to each publisher.
pub record ComesToReceive (sizes : LaneSizes) (service : Service (List ℕ)) (subscriber : Subscriber) : Type 0 where
  pub stands : subscriber.stands ≡ true
  pub seen : subscriber.seen ≡ service.publisher_list.changes
  pub done : subscriber.again ≡ false
  pub expired : length subscriber.expired ≡ 0
  pub connected : those subscriber.connected ≡ listed (λ place. suc place) sizes.publishers

-- The state of the machine from which lanes go on: it has one service, with the same sizes, where at least as many ports were created as
-- the lanes have. The number of a port is its place plus one. Nothing was loaned or sent yet.
pub record BeginsTurns (sizes : LaneSizes) (state : State (List ℕ)) : Type 0 where
  pub service : Service (List ℕ)
  pub alone : state.services ≡ service ∷ []
  pub publishers : (place : ℕ) → place < sizes.publishers
      → (publisher : Publisher (List ℕ)) × (at (suc place) service.publishers ≡ Some publisher) × ComesToSend sizes service publisher
  pub subscribers : (place : ℕ) → place < sizes.subscribers
      → (subscriber : Subscriber) × (at (suc place) service.subscribers ≡ Some subscriber) × ComesToReceive sizes service subscriber
  pub history : service.settings.history_size ≡ sizes.history
  pub most_borrowed : service.settings.subscriber_max_borrowed_samples ≡ sizes.most_borrowed
  pub kind : overflows sizes.kind ≡ service.settings.enable_safe_overflow
  pub mailboxes : (one other : ℕ) → one < sizes.publishers → other < sizes.subscribers
      → service.mailboxes (suc one) (suc other) ≡ Some (record { limit = sizes.buffer; waiting = []; borrowed = [] })
  pub others : (one other : ℕ) → one < sizes.publishers → ((place : ℕ) → place < sizes.subscribers → suc place ≡ other → ⊥)
      → ((mailbox (suc one) other service).waiting ≡ []) × ((mailbox (suc one) other service).borrowed ≡ [])
  pub loans : service.loans ≡ []
  pub samples : service.samples ≡ []
  pub no_loans : state.made.loans ≡ 0
  pub no_samples : state.made.samples ≡ 0

-- For any sizes there is a state of the machine from which lanes go on.
abbrev pub TurnsBegin : Type 0
TurnsBegin = (sizes : LaneSizes) → (state : State (List ℕ)) × BeginsTurns sizes state
