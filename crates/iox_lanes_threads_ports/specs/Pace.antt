-- How many steps a publisher's call in threads may still make, if at most a given number of samples comes back at each connection.
use Rattle.std.specs.Prelude.{ℕ, ◌≡◌, ◌+◌, ◌-◌, ◌*◌, ◌≤◌}
use Rattle.iox_lanes_machine.specs.QueuesSteps.declared.rings.refusing.pop.Pop.TheVariants.{Begun}
use Rattle.iox_lanes_machine.specs.LanesBase.declared.words.sizes.TableSizes.{TableSizes}
use Rattle.iox_lanes_machine.specs.LanesBase.declared.calls.publisher.PublisherCall.{PublisherCall}
use Rattle.iox_lanes_machine.specs.LanesBase.declared.calls.publisher.PublisherCall.TheVariants as publishing
use Rattle.iox_lanes_machine.specs.Pace.{taking_left, pushing_left, sweeps_left}
use Rattle.iox_lanes_machine.specs.LedgerRooms.{TakesSome, PushGoes}
use Rattle.iox_lanes_machine.specs.LanesParties.declared.call.Call.TheVariants as call
use Rattle.iox_lanes_machine.specs.LanesParties.declared.call.Move.{Move}
use Rattle.iox_lanes_machine.specs.LanesParties.declared.call.Move.TheVariants.{Begin, GoOn}
use Rattle.iox_lanes_threads_ports.specs.Paces.{loan_steps, write_steps, send_steps}

-- A call is in progress, and it stores at most `words` words.
abbrev pub IsGoing : TableSizes → ℕ → PublisherCall → Type 0
IsGoing sizes words publishing.Idle = ⊥
IsGoing sizes words (publishing.LoanReclaims at route pop) = TakesSome 1 pop
IsGoing sizes words publishing.Lending = Unit {0}
IsGoing sizes words (publishing.Writing slot word value) = sizes.payload_words ≤ words
IsGoing sizes words (publishing.Written slot) = Unit {0}
IsGoing sizes words (publishing.Heading slot word value) = 3 + sizes.user_header_words ≤ words
IsGoing sizes words (publishing.Remembering slot) = Unit {0}
IsGoing sizes words (publishing.SendReclaims slot at route pop) = TakesSome 1 pop
IsGoing sizes words (publishing.Pushing slot at route push delivery) = PushGoes push
IsGoing sizes words (publishing.Sent slot delivery) = Unit {0}
IsGoing sizes words (publishing.Dropping slot) = Unit {0}

-- The maximum number of steps that the call still makes, if it already took `taken place` samples back at each place, takes at most `most`
-- there in all, and stores `words` words.
abbrev pub steps_to_go : ℕ → ℕ → ℕ → (ℕ → ℕ) → PublisherCall → ℕ
steps_to_go most connections words taken publishing.Idle = 0
steps_to_go most connections words taken (publishing.LoanReclaims at route pop)
    = taking_left (most - taken at) pop + sweeps_left most (connections - at - 1) + 1
steps_to_go most connections words taken publishing.Lending = 1
steps_to_go most connections words taken (publishing.Writing slot word value) = words - word + 1
steps_to_go most connections words taken (publishing.Written slot) = 1
steps_to_go most connections words taken (publishing.Heading slot word value)
    = words - word + sweeps_left most connections + 6 * connections + 2
steps_to_go most connections words taken (publishing.Remembering slot) = sweeps_left most connections + 6 * connections + 2
steps_to_go most connections words taken (publishing.SendReclaims slot at route pop)
    = taking_left (most - taken at) pop + sweeps_left most (connections - at - 1) + 6 * connections + 1
steps_to_go most connections words taken (publishing.Pushing slot at route push delivery)
    = pushing_left push + 6 * (connections - at - 1) + 1
steps_to_go most connections words taken (publishing.Sent slot delivery) = 1
steps_to_go most connections words taken (publishing.Dropping slot) = 1

-- If the call is taking samples back, it has loaded no word of a connection yet.
abbrev pub HasNotLoaded : PublisherCall → Type 0
HasNotLoaded publishing.Idle = Unit {0}
HasNotLoaded (publishing.LoanReclaims at route pop) = pop ≡ Begun
HasNotLoaded publishing.Lending = Unit {0}
HasNotLoaded (publishing.Writing slot word value) = Unit {0}
HasNotLoaded (publishing.Written slot) = Unit {0}
HasNotLoaded (publishing.Heading slot word value) = Unit {0}
HasNotLoaded (publishing.Remembering slot) = Unit {0}
HasNotLoaded (publishing.SendReclaims slot at route pop) = pop ≡ Begun
HasNotLoaded (publishing.Pushing slot at route push delivery) = Unit {0}
HasNotLoaded (publishing.Sent slot delivery) = Unit {0}
HasNotLoaded (publishing.Dropping slot) = Unit {0}

-- A call that begins makes at most `most` steps.
pub record StartsWithin (sizes : TableSizes) (most : ℕ) (c : PublisherCall) : Type 0 where
  pub words : ℕ
  pub going : IsGoing sizes words c
  pub first : HasNotLoaded c
  pub few : steps_to_go (sizes.completion_cells + 1) sizes.connections words (λ place. 0) c ≤ most

-- The move begins a loan, a write or a send, which makes at most `most` steps.
abbrev pub HasSteps : TableSizes → Move → ℕ → Type 0
HasSteps sizes GoOn most = ⊥
HasSteps sizes (Begin call.LoanUninit) most = loan_steps sizes ≤ most
HasSteps sizes (Begin (call.Write loan payload user_header)) most = write_steps sizes ≤ most
HasSteps sizes (Begin (call.Send loan)) most = send_steps sizes ≤ most
HasSteps sizes (Begin (call.DropLoan loan)) most = ⊥
HasSteps sizes (Begin call.Receive) most = ⊥
HasSteps sizes (Begin (call.Read sample)) most = ⊥
HasSteps sizes (Begin (call.Release sample)) most = ⊥
