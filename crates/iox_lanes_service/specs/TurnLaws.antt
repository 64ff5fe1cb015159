-- Whole calls of lanes, one after the other, are a run of the machine.
use Rattle.std.specs.Prelude.{ℕ, ◌+◌, ◌<◌, ◌≤◌, ◌≡◌, ◌^◌, true, List, [], ◌∷◌, slice_get, Some}
use Rattle.std.specs.Global.{Vec}
use Rattle.std.specs.Vec.{vec_items}
use Rattle.iox_command.specs.NegotiateBase.DescribeBase.declared.message_type.MessageTypeDetails.{MessageTypeDetails}
use Rattle.iox_command.specs.declared.command.Command.{Command}
use Rattle.iox_command.specs.declared.command.Command.TheVariants as command
use Rattle.iox_command.specs.declared.reply.Reply.{Reply}
use Rattle.iox_command.specs.declared.reply.Reply.TheVariants as reply
use Rattle.iox_lanes_machine.specs.LanesParties.Parties.{SubscriberLaneState}
use Rattle.iox_lanes_machine.specs.LanesParties.declared.call.Answer.{Answer}
use Rattle.iox_lanes_machine.specs.LanesParties.declared.call.Answer.TheVariants as answer
use Rattle.iox_lanes_machine.specs.LanesParties.declared.call.Call.{Call}
use Rattle.iox_lanes_machine.specs.LanesParties.declared.call.Call.TheVariants as call
use Rattle.iox_lanes_machine.specs.LanesParties.declared.call.Party.{Party}
use Rattle.iox_lanes_machine.specs.LanesParties.declared.call.Party.TheVariants.{Publisher, Subscriber}
use Rattle.iox_lanes_machine.specs.LanesParties.declared.publisher.slot_book.LoanAnswer.TheVariants as loan
use Rattle.iox_lanes_machine.specs.World.{World}
use Rattle.iox_lanes_laws.specs.Turns.{IsAnswered, IsInTurn}
use Rattle.iox_lanes_service.specs.Laws.{AreTaken, loan_replied, payload_read, received_as, send_replied, with_lent_slot, with_received}
use Rattle.iox_lanes_service.specs.Naming.{LaneNaming, LaneLoan, LaneSample}
use Rattle.iox_lanes_service.specs.Standing.{LanesStandFor}
use Rattle.iox_machine.specs.Choices.{Choices}
use Rattle.iox_machine.specs.Run.{Runs}
use Rattle.iox_machine.specs.Service.{Service}
use Rattle.iox_machine.specs.State.{Made, State, counted}
use Rattle.iox_machine.specs.Table.{at, removed}

-- These calls of parties don't overlap: each begins after the one before it has ended.
abbrev pub GoInTurn : World → List (Party × Call) → World → Type 0
GoInTurn m [] n = n ≡ m
GoInTurn m (one ∷ more) n = (mid : World) × IsInTurn m one.0 one.1 mid × GoInTurn mid more n

-- The names that the machine has for what lanes have, and the numbers of the loans and samples.
pub record LaneNumbers : Type 0 where
  pub names : LaneNaming
  pub lent : List (ℕ × LaneLoan)
  pub held : List (ℕ × LaneSample)

-- No number of a loan or a sample is larger than the count of those that were made.
pub record AreMade (numbers : LaneNumbers) (made : Made) : Type 0 where
  pub loans : (index : ℕ) (entry : ℕ × LaneLoan) → slice_get numbers.lent index ≡ Some entry → entry.0 ≤ made.loans
  pub samples : (index : ℕ) (entry : ℕ × LaneSample) → slice_get numbers.held index ≡ Some entry → entry.0 ≤ made.samples

-- The loan of this publisher and slot has this number.
abbrev pub IsLentAs : ℕ → ℕ → ℕ → LaneNumbers → Type 0
IsLentAs number place slot numbers = at number numbers.lent ≡ Some (record { publisher = place; slot = slot })

-- A sample in this slot, which the subscriber at this place holds, has this number.
abbrev pub IsHeldAs : ℕ → ℕ → ℕ → LaneNumbers → Type 0
IsHeldAs number place slot numbers =
    (one : LaneSample) × (at number numbers.held ≡ Some one) × (one.subscriber ≡ place) × (one.slot ≡ slot)

-- Messages have one value, which is read from the words of a payload.
module _ {T : Type 0} (value : List ℕ → T) where
  -- A call with this answer corresponds to this command with this reply, under these numbers before and after it, if this many loans and
  -- samples were made.
  abbrev pub IsSaid : LaneNumbers → Made → World → World → Party → Call → Answer → Command T → Reply T → LaneNumbers → Type 0
  IsSaid old made m n (Publisher place) call.LoanUninit (answer.Lent given) asked replied new =
      (asked ≡ command.LoanUninit (old.names.publisher place) 1) × (replied ≡ loan_replied (made.loans + 1) given)
      × ((message : ℕ → ℕ) × ((slot : ℕ) → (given ≡ loan.Slot slot → ⊥) → message slot ≡ old.names.message slot)
      × (new ≡ record {
        names = record old.names { message = message };
        lent = with_lent_slot (made.loans + 1) place given old.lent;
        held = old.held;
      }))
  IsSaid old made m n (Publisher place) (call.Write slot payload user_header) answer.Written asked replied new =
      (number : ℕ) × IsLentAs number place slot old × (asked ≡ command.Fill number (value payload.items ∷ [])) × (replied ≡ reply.Done)
      × (new ≡ old)
  IsSaid old made m n (Publisher place) (call.Send slot) (answer.Sent given) asked replied new =
      (number : ℕ) × IsLentAs number place slot old × (asked ≡ command.Send number) × (replied ≡ send_replied given)
      × (new ≡ record old { lent = removed number old.lent })
  IsSaid old made m n (Publisher place) (call.DropLoan slot) answer.Dropped asked replied new =
      (number : ℕ) × IsLentAs number place slot old × (asked ≡ command.Drop number) × (replied ≡ reply.Done)
      × (new ≡ record old { lent = removed number old.lent })
  IsSaid old made m n (Subscriber place) call.Receive (answer.Received given) asked replied new =
      (values : Vec T) × AreTaken value m.table given values × (asked ≡ command.Receive (old.names.subscriber place))
      × (replied ≡ received_as (made.samples + 1) values given)
      × ((lane : SubscriberLaneState) × (slice_get m.subscribers place ≡ Some lane)
      × (new ≡ record old { held = with_received (made.samples + 1) place m.links lane given old.held }))
  IsSaid old made m n (Subscriber place) (call.Read slot) (answer.Read from) asked replied new =
      (sample : ℕ) × IsHeldAs sample place slot old
      × ((values : Vec T) × (vec_items values ≡ value (payload_read m n) ∷ []) × (asked ≡ command.Read sample)
      × (replied ≡ reply.Values values) × (new ≡ old))
  IsSaid old made m n (Subscriber place) (call.Release slot) (answer.Released true) asked replied new =
      (sample : ℕ) × IsHeldAs sample place slot old × (asked ≡ command.Release sample) × (replied ≡ reply.Done)
      × (new ≡ record old { held = removed sample old.held })
  IsSaid old made m n party asking given asked replied new = ⊥

  -- Calls that don't overlap correspond to these commands, one each, with these replies.
  abbrev pub AreSaid : LaneNumbers → Made → World → List (Party × Call) → World → List (Command T) → List (Reply T) → LaneNumbers → Type 0
  AreSaid old made m [] n [] [] new = (n ≡ m) × (new ≡ old)
  AreSaid old made m (one ∷ more) n (asked ∷ commands) (replied ∷ replies) new =
      (mid : World) × IsInTurn m one.0 one.1 mid × (given : Answer) × IsAnswered m one.0 one.1 given mid × (next : LaneNumbers)
      × IsSaid old made m mid one.0 one.1 given asked replied next × AreSaid next (counted replied made) mid more n commands replies new
  AreSaid old made m calls n commands replies new = ⊥

-- The machine has these message types, and these choices that others may make; its messages have one value, which is read from words.
module _ {T : Type 0} (choices : Choices T) (value : List ℕ → T) (types : MessageTypeDetails) (buffer : ℕ) where
  -- What the machine did for calls that don't overlap: commands with their replies, after which the lanes represent its one service.
  pub record IsRun (old : LaneNumbers) (m : World) (state : State T) (calls : List (Party × Call)) (n : World) : Type 0 where
    pub commands : List (Command T)
    pub replies : List (Reply T)
    pub after : State T
    pub new : LaneNumbers
    pub service : Service T
    pub runs : Runs types choices buffer commands state replies after
    pub said : AreSaid value old state.made m calls n commands replies new
    pub alone : after.services ≡ service ∷ []
    pub stands : LanesStandFor choices value new.names new.lent new.held n service
    pub made : AreMade new after.made

  -- Calls that don't overlap, of lanes that represent the one service of a machine, are a run of the machine. No number of a loan or a
  -- sample may be larger than the count of those that were made, and there must be fewer than 2^64 slots.
  abbrev pub TurnsAreRuns : Type 0
  TurnsAreRuns = (old : LaneNumbers) (m n : World) (service : Service T) (state : State T) (calls : List (Party × Call))
      → LanesStandFor choices value old.names old.lent old.held m service → AreMade old state.made → state.services ≡ service ∷ []
      → m.table.sizes.slots < 2 ^ 64 → GoInTurn m calls n → IsRun old m state calls n
