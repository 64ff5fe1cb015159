-- A read returns the message that was sent in its slot, whole and as it was when its send began, whatever steps were made in between.
use Rattle.std.specs.Prelude.{ℕ, ◌≡◌, ◌≤◌, ◌^◌, ◌⊎◌, true, false, List, [], ◌∷◌, ◌++◌}
use Rattle.iox_lanes_machine.specs.LanesParties.declared.call.CallName.TheVariants as name
use Rattle.iox_lanes_machine.specs.LanesParties.declared.call.Entry.{Entry}
use Rattle.iox_lanes_machine.specs.LanesParties.declared.call.FinishedCall.{FinishedCall}
use Rattle.iox_lanes_machine.specs.LanesParties.declared.call.Move.{Move}
use Rattle.iox_lanes_machine.specs.LanesParties.declared.call.Party.{Party}
use Rattle.iox_lanes_machine.specs.Alone.{IsRemembered, IsAtConnection}
use Rattle.iox_lanes_machine.specs.Held.{slot_held}
use Rattle.iox_lanes_machine.specs.Resting.{AllBetween}
use Rattle.iox_lanes_machine.specs.WholeReads.{CameTo}
use Rattle.iox_lanes_machine.specs.World.{World, fits, happens}
use Rattle.iox_lanes_laws.specs.Messages.{MessageState, begun_messages, last_in}

-- The entries lead from one state to the other, and these are the messages whose sends begin on the way.
abbrev pub SendsThrough : World → List Entry → List MessageState → World → Type 0
SendsThrough m [] sent n = (sent ≡ []) × (n ≡ m)
SendsThrough m (entry ∷ entries) sent n =
    ((fits m entry.party entry.step ≡ false) × SendsThrough m entries sent n)
    ⊎ ((fits m entry.party entry.step ≡ true)
    × ((later : List MessageState) × (sent ≡ begun_messages m entry.party entry.step ++ later)
    × SendsThrough (happens m entry.party entry.step) entries later n))

-- From a state in which nobody is inside a call, whatever steps follow: a read returns exactly the words of the last message whose send
-- began in its slot, header, user header and payload, as they were when that send began; or the words that the slot had at first if no send
-- began in it. This holds as long as at most 2^63 steps were made.
abbrev pub ReadsGiveWhatWasSent : Type 0
ReadsGiveWhatWasSent = (m : World) → CameTo m → AllBetween m → (entries : List Entry) (sent : List MessageState) (n : World)
    → SendsThrough m entries sent n → n.moments ≤ 2 ^ 63
    → (party : Party) (step : Move) (call : FinishedCall) (slot : ℕ) → fits n party step ≡ true
    → (happens n party step).finished ≡ n.finished ++ call ∷ [] → call.call ≡ name.Read slot
    → (happens n party step).read ≡ n.read ++ last_in (slot_held m.table slot) sent slot

-- While a slot is in a history or at a connection, no send begins in it. So the last message whose send began there is the one that is
-- there.
abbrev pub UsedSlotsSendNothing : Type 0
UsedSlotsSendNothing = (m : World) → CameTo m → m.moments ≤ 2 ^ 63 → (slot : ℕ) → IsRemembered m slot ⊎ IsAtConnection m slot
    → (party : Party) (step : Move) (message : MessageState) → fits m party step ≡ true → begun_messages m party step ≡ message ∷ []
    → message.slot ≡ slot → ⊥
