-- The number of steps that a loan and a send take, however the steps of other parties come between theirs.
use Rattle.std.specs.Prelude.{ℕ, ◌≡◌, ◌+◌, ◌*◌, ◌<◌, ◌≤◌, ◌^◌, Bool, true, false, List, [], ◌∷◌, slice_get, Some}
use Rattle.iox_lanes_machine.specs.LanesBase.Publishing.{publisher_is_idle}
use Rattle.iox_lanes_machine.specs.LanesParties.Parties.{PublisherLaneState}
use Rattle.iox_lanes_machine.specs.LanesParties.declared.call.Call.TheVariants as call
use Rattle.iox_lanes_machine.specs.LanesParties.declared.call.Entry.{Entry}
use Rattle.iox_lanes_machine.specs.LanesParties.declared.call.Move.TheVariants.{Begin}
use Rattle.iox_lanes_machine.specs.LanesParties.declared.call.Party.{Party}
use Rattle.iox_lanes_machine.specs.LanesParties.declared.call.Party.TheVariants.{Publisher}
use Rattle.iox_lanes_machine.specs.LedgerUses.{one_if}
use Rattle.iox_lanes_machine.specs.Sends.{is_sender}
use Rattle.iox_lanes_machine.specs.WholeReads.{CameTo}
use Rattle.iox_lanes_machine.specs.World.{World, fits, happens}

-- The lanes after an entry, which is made if it fits.
abbrev pub after_entry : Bool → World → Entry → World
after_entry true m entry = happens m entry.party entry.step
after_entry false m entry = m

-- The lanes after these entries.
abbrev pub led : World → List Entry → World
led m [] = m
led m (entry ∷ entries) = led (after_entry (fits m entry.party entry.step) m entry) entries

-- One if an entry is made and is this publisher's, otherwise 0.
abbrev pub one_of : Bool → ℕ → Party → ℕ
one_of true place party = one_if (is_sender party place)
one_of false place party = 0

-- How many of these entries a publisher makes.
abbrev pub own_steps : World → ℕ → List Entry → ℕ
own_steps m place [] = 0
own_steps m place (entry ∷ entries)
    = one_of (fits m entry.party entry.step) place entry.party + own_steps (after_entry (fits m entry.party entry.step) m entry) place
    entries

-- The publisher is still in the call that it began at this moment.
pub record IsInCall (m : World) (place first : ℕ) : Type 0 where
  pub lane : PublisherLaneState
  pub found : slice_get m.publishers place ≡ Some lane
  pub since : lane.first ≡ first
  pub busy : publisher_is_idle lane.port.call ≡ false

-- As long as at most 2^63 steps were made: for a loan that isn't over yet, its beginning, the steps that its publisher made since then and
-- the next one are at most 4 * S * (B + R + 2) + 2, for S subscribers that buffer B messages and borrow R samples, whatever other parties
-- do in between. So no loan takes more steps.
abbrev pub LoansEndSoon : Type 0
LoansEndSoon = (m : World) (came : CameTo m) (place : ℕ) (entries : List Entry) → fits m (Publisher place) (Begin call.LoanUninit) ≡ true
    → (led (happens m (Publisher place) (Begin call.LoanUninit)) entries).moments ≤ 2 ^ 63
    → IsInCall (led (happens m (Publisher place) (Begin call.LoanUninit)) entries) place m.moments
    → 1 + own_steps (happens m (Publisher place) (Begin call.LoanUninit)) place entries + 1
    ≤ 4 * came.sizes.subscribers * (came.sizes.buffer + came.sizes.most_borrowed + 2) + 2

-- As long as at most 2^63 steps were made: for a send that isn't over yet, its beginning, the steps that its publisher made since then and
-- the next one are at most 4 * S * (B + R + 3) + W + 7. W, which is less than 2^61, is the number of words between the three words of the
-- header and the payload: those of a user header, and the sequence number, where messages have one. For a user header of U words, W + 7 is
-- at most U + 8.
abbrev pub SendsEndSoon : Type 0
SendsEndSoon = (m : World) (came : CameTo m) (place loan : ℕ) (entries : List Entry) → came.sizes.user_header_words < 2 ^ 61
    → fits m (Publisher place) (Begin (call.Send loan)) ≡ true
    → (led (happens m (Publisher place) (Begin (call.Send loan))) entries).moments ≤ 2 ^ 63
    → IsInCall (led (happens m (Publisher place) (Begin (call.Send loan))) entries) place m.moments
    → 1 + own_steps (happens m (Publisher place) (Begin (call.Send loan))) place entries + 1
    ≤ 4 * came.sizes.subscribers * (came.sizes.buffer + came.sizes.most_borrowed + 3) + came.sizes.user_header_words + 7
