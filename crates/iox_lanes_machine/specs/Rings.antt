-- The submission ring of a connection, as it lies in the table of all words, and its two ends.
use Rattle.std.specs.Prelude.{ℕ, ◌==◌, if◌then◌else◌, List, take, drop}
use Rattle.iox_lanes_machine.specs.QueuesSteps.Access.{RingWords}
use Rattle.iox_lanes_machine.specs.QueuesSteps.Order.{after_acts, acts_of}
use Rattle.iox_lanes_machine.specs.QueuesSteps.declared.access.Word.{Word}
use Rattle.iox_lanes_machine.specs.QueuesSteps.declared.access.Word.TheVariants.{Write, Read, Cell}
use Rattle.iox_lanes_machine.specs.QueuesSteps.declared.order.Placed.{Placed}
use Rattle.iox_lanes_machine.specs.QueuesSteps.Ends.{overflows, push_idle, pop_idle}
use Rattle.iox_lanes_machine.specs.QueuesSteps.declared.rings.ends.RingKind.{RingKind}
use Rattle.iox_lanes_machine.specs.QueuesSteps.declared.rings.ends.Push.{Push}
use Rattle.iox_lanes_machine.specs.QueuesSteps.declared.rings.ends.Pop.{Pop}
use Rattle.iox_lanes_machine.specs.LanesBase.Numbers.{number_of}
use Rattle.iox_lanes_machine.specs.LanesBase.Table.{TableWords, held_by}
use Rattle.iox_lanes_machine.specs.LanesBase.declared.words.word.ConnectionRing.TheVariants.{Submission}
use Rattle.iox_lanes_machine.specs.LanesBase.declared.words.word.SharedWord.{SharedWord}
use Rattle.iox_lanes_machine.specs.LanesBase.declared.words.word.SharedWord.TheVariants.{Ring}
use Rattle.iox_lanes_machine.specs.LanesBase.declared.calls.publisher.PublisherCall.{PublisherCall}
use Rattle.iox_lanes_machine.specs.LanesBase.declared.calls.publisher.PublisherCall.TheVariants as publishing
use Rattle.iox_lanes_machine.specs.LanesBase.declared.calls.subscriber.SubscriberCall.{SubscriberCall}
use Rattle.iox_lanes_machine.specs.LanesBase.declared.calls.subscriber.SubscriberCall.TheVariants as subscribing
use Rattle.iox_lanes_machine.specs.Links.{LinkState}

-- A word of the submission ring of a connection.
abbrev pub sent_word : ℕ → Word → SharedWord
sent_word connection word = Ring connection Submission word

-- The first `cells` cells of the submission ring of a connection.
abbrev pub cells_in : TableWords → ℕ → ℕ → List ℕ
cells_in table connection cells = take cells (drop (number_of table.sizes (sent_word connection (Cell 0))) table.words)

-- The submission ring of a connection, with this many cells.
abbrev pub ring_in : TableWords → ℕ → ℕ → RingWords
ring_in table connection cells = record {
  cells = cells_in table connection cells;
  write = held_by table (sent_word connection Write);
  read = held_by table (sent_word connection Read);
}

-- What waits at a connection, by what waited before the first step and by its order.
abbrev pub waiting : LinkState → List Placed → List ℕ
waiting link order = after_acts (overflows link.kind) link.limit link.found (acts_of order)

-- The push that a call makes on this connection; an idle one if it makes none there.
abbrev pub push_on : ℕ → RingKind → PublisherCall → Push
push_on connection kind publishing.Idle = push_idle kind
push_on connection kind (publishing.LoanReclaims place route pop) = push_idle kind
push_on connection kind publishing.Lending = push_idle kind
push_on connection kind (publishing.Writing slot word value) = push_idle kind
push_on connection kind (publishing.Written slot) = push_idle kind
push_on connection kind (publishing.Heading slot word value) = push_idle kind
push_on connection kind (publishing.Remembering slot) = push_idle kind
push_on connection kind (publishing.SendReclaims slot place route pop) = push_idle kind
push_on connection kind (publishing.Pushing slot place route push delivery) =
    if route.connection == connection then push else push_idle kind
push_on connection kind (publishing.Sent slot delivery) = push_idle kind
push_on connection kind (publishing.Dropping slot) = push_idle kind

-- The pop or look that a call makes on this connection; an idle one if it makes none there.
abbrev pub pop_on : ℕ → RingKind → SubscriberCall → Pop
pop_on connection kind subscribing.Idle = pop_idle kind
pop_on connection kind (subscribing.Receiving place route pop waits) =
    if route.connection == connection then pop else pop_idle kind
pop_on connection kind (subscribing.Received receipt) = pop_idle kind
pop_on connection kind (subscribing.Reading slot word extent) = pop_idle kind
pop_on connection kind (subscribing.WasRead slot) = pop_idle kind
pop_on connection kind (subscribing.Releasing place route push) = pop_idle kind
pop_on connection kind (subscribing.Released done) = pop_idle kind
