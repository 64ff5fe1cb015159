-- The completion ring of a connection is a queue: its subscriber's releases append their samples, and its publisher's calls take the first.
use Rattle.std.specs.Prelude.{ℕ, ◌≡◌, ◌≤◌, ◌^◌, ◌⊎◌, true, false, [], ◌∷◌, ◌++◌, slice_get, Some}
use Rattle.iox_lanes_machine.specs.LanesBase.declared.calls.route.Route.{Route}
use Rattle.iox_lanes_machine.specs.LanesParties.Parties.{PublisherLaneState}
use Rattle.iox_lanes_machine.specs.LanesParties.declared.call.Party.{Party}
use Rattle.iox_lanes_machine.specs.LanesParties.declared.call.Party.TheVariants.{Publisher, Subscriber}
use Rattle.iox_lanes_machine.specs.Borrowing.{borrows}
use Rattle.iox_lanes_machine.specs.LedgerUses.{refers_to}
use Rattle.iox_lanes_machine.specs.Uses.{given_back}
use Rattle.iox_lanes_machine.specs.World.{World}
use Rattle.iox_lanes_machine.specs.Links.{LinkState}

-- The publisher's record says before a step that the connection has the slot, and after it no longer.
pub record IsTakenBack (m n : World) (who connection slot : ℕ) : Type 0 where
  pub before : PublisherLaneState
  pub after : PublisherLaneState
  pub found : slice_get m.publishers who ≡ Some before
  pub now : slice_get n.publishers who ≡ Some after
  pub place : ℕ
  pub route : Route
  pub at : slice_get before.port.routes place ≡ Some route
  pub same : route.connection ≡ connection
  pub had : refers_to before.port.book place slot ≡ true
  pub lacks : refers_to after.port.book place slot ≡ false

-- A step leaves the samples in the completion ring as they are; or the subscriber appends one, which it borrowed until then; or the
-- publisher takes the first.
abbrev pub QueueMoves : World → Party → World → ℕ → LinkState → Type 0
QueueMoves m party n connection link =
    (given_back n.table connection ≡ given_back m.table connection)
    ⊎ (((sample : ℕ) × (party ≡ Subscriber link.subscriber) × (borrows connection sample (slice_get m.subscribers link.subscriber) ≡ true)
    × (borrows connection sample (slice_get n.subscribers link.subscriber) ≡ false)
    × (given_back n.table connection ≡ given_back m.table connection ++ sample ∷ []))
    ⊎ ((sample : ℕ) × (party ≡ Publisher link.publisher) × (given_back m.table connection ≡ sample ∷ given_back n.table connection)
    × IsTakenBack m n link.publisher connection sample))

-- A step changes the queue of each connection only as `QueueMoves` says.
abbrev pub GivenBackInTurn : World → Party → World → Type 0
GivenBackInTurn m party n = n.moments ≤ 2 ^ 63 → (connection : ℕ) (link : LinkState) → slice_get m.links connection ≡ Some link
    → QueueMoves m party n connection link
