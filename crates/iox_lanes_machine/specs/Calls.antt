-- The calls of parties in time: each has an answer of its own kind, and those of one party follow one another.
use Rattle.std.specs.Prelude.{ℕ, ◌≡◌, ◌<◌, ◌≤◌, ◌^◌, false, List, [], ◌∷◌, slice_get, Some, None}
use Rattle.std.specs.List.{All}
use Rattle.iox_lanes_machine.specs.LanesBase.Answers.{push_answer}
use Rattle.iox_lanes_machine.specs.LanesBase.Publishing.{publisher_is_idle}
use Rattle.iox_lanes_machine.specs.LanesBase.Subscribing.{subscriber_is_idle}
use Rattle.iox_lanes_machine.specs.LanesBase.declared.calls.publisher.PublisherCall.{PublisherCall}
use Rattle.iox_lanes_machine.specs.LanesBase.declared.calls.publisher.PublisherCall.TheVariants as publishing
use Rattle.iox_lanes_machine.specs.LanesBase.declared.calls.subscriber.SubscriberCall.{SubscriberCall}
use Rattle.iox_lanes_machine.specs.LanesBase.declared.calls.subscriber.SubscriberCall.TheVariants as subscribing
use Rattle.iox_lanes_machine.specs.LanesParties.Parties.{PublisherLaneState, SubscriberLaneState}
use Rattle.iox_lanes_machine.specs.LanesParties.declared.call.Answer.{Answer}
use Rattle.iox_lanes_machine.specs.LanesParties.declared.call.Answer.TheVariants as answer
use Rattle.iox_lanes_machine.specs.LanesParties.declared.call.CallName.{CallName}
use Rattle.iox_lanes_machine.specs.LanesParties.declared.call.CallName.TheVariants as name
use Rattle.iox_lanes_machine.specs.LanesParties.declared.call.FinishedCall.{FinishedCall}
use Rattle.iox_lanes_machine.specs.LanesParties.declared.call.Party.{Party}
use Rattle.iox_lanes_machine.specs.LanesParties.declared.call.Party.TheVariants.{Publisher, Subscriber}
use Rattle.iox_lanes_machine.specs.World.{World}

-- The answer is one of this call's kind.
abbrev pub IsAnswerOf : CallName → Answer → Type 0
IsAnswerOf call (answer.Lent loan) = call ≡ name.LoanUninit
IsAnswerOf call answer.Written = (loan : ℕ) × (call ≡ name.Write loan)
IsAnswerOf call (answer.Sent given) = (loan : ℕ) × (call ≡ name.Send loan)
IsAnswerOf call answer.Dropped = (loan : ℕ) × (call ≡ name.DropLoan loan)
IsAnswerOf call (answer.Received given) = call ≡ name.Receive
IsAnswerOf call (answer.Read from) = (sample : ℕ) × (call ≡ name.Read sample)
IsAnswerOf call (answer.Released done) = (sample : ℕ) × (call ≡ name.Release sample)

-- A call that ended has an answer of its own kind, began before its last step, and made its last step before now.
pub record IsEnded (moments : ℕ) (call : FinishedCall) : Type 0 where
  pub kind : IsAnswerOf call.call call.answer
  pub lasts : call.first < call.last
  pub past : call.last < moments

-- One call ended before the other did; if both are of one party, the first ended even before the other began.
pub record IsBefore (earlier later : FinishedCall) : Type 0 where
  pub ended : earlier.last < later.last
  pub apart : earlier.party ≡ later.party → earlier.last < later.first

-- Each call ended before those that follow it in the list.
abbrev pub AreInTurn : List FinishedCall → Type 0
AreInTurn [] = Unit {0}
AreInTurn (call ∷ calls) = All (IsBefore call) calls × AreInTurn calls

-- The calls of the party ended before this moment.
abbrev pub EndedBefore : Party → ℕ → List FinishedCall → Type 0
EndedBefore party moment calls = All (λ call. call.party ≡ party → call.last < moment) calls

-- The stage of a publisher is one of the call that it began.
abbrev pub IsStageOf : CallName → PublisherCall → Type 0
IsStageOf call publishing.Idle = Unit {0}
IsStageOf call (publishing.LoanReclaims place route pop) = call ≡ name.LoanUninit
IsStageOf call publishing.Lending = call ≡ name.LoanUninit
IsStageOf call (publishing.Writing slot word value) = call ≡ name.Write slot
IsStageOf call (publishing.Written slot) = call ≡ name.Write slot
IsStageOf call (publishing.Heading slot word value) = call ≡ name.Send slot
IsStageOf call (publishing.Remembering slot) = call ≡ name.Send slot
IsStageOf call (publishing.SendReclaims slot place route pop) = call ≡ name.Send slot
IsStageOf call (publishing.Pushing slot place route push delivery) = (call ≡ name.Send slot) × (push_answer push ≡ None)
IsStageOf call (publishing.Sent slot delivery) = call ≡ name.Send slot
IsStageOf call (publishing.Dropping slot) = call ≡ name.DropLoan slot

-- The stage of a subscriber is one of the call that it began.
abbrev pub IsReceiverStageOf : CallName → SubscriberCall → Type 0
IsReceiverStageOf call subscribing.Idle = Unit {0}
IsReceiverStageOf call (subscribing.Receiving place route pop waits) = call ≡ name.Receive
IsReceiverStageOf call (subscribing.Received given) = call ≡ name.Receive
IsReceiverStageOf call (subscribing.Reading slot word extent) = call ≡ name.Read slot
IsReceiverStageOf call (subscribing.WasRead slot) = call ≡ name.Read slot
IsReceiverStageOf call (subscribing.Releasing place route push) = (sample : ℕ) × (call ≡ name.Release sample)
IsReceiverStageOf call (subscribing.Released done) = (sample : ℕ) × (call ≡ name.Release sample)

-- The call that the party is in began after all calls that it ended.
pub record IsInHand (party : Party) (first moments : ℕ) (finished : List FinishedCall) : Type 0 where
  pub begun : first < moments
  pub behind : EndedBefore party first finished

-- A publisher is in the call that it began last.
abbrev pub PublisherFollows : ℕ → List FinishedCall → ℕ → PublisherLaneState → Type 0
PublisherFollows moments finished place lane =
    IsStageOf lane.call lane.port.call
    × (publisher_is_idle lane.port.call ≡ false → IsInHand (Publisher place) lane.first moments finished)

-- A subscriber is in the call that it began last.
abbrev pub SubscriberFollows : ℕ → List FinishedCall → ℕ → SubscriberLaneState → Type 0
SubscriberFollows moments finished place lane =
    IsReceiverStageOf lane.call lane.port.call
    × (subscriber_is_idle lane.port.call ≡ false → IsInHand (Subscriber place) lane.first moments finished)

-- Each call that ended has an answer of its own kind; the calls ended one after the other, and those of one party, including the one that
-- it is in, don't overlap.
pub record CallsFollow (m : World) : Type 0 where
  pub ended : All (IsEnded m.moments) m.finished
  pub in_turn : AreInTurn m.finished
  pub publishers : (place : ℕ) (lane : PublisherLaneState) → slice_get m.publishers place ≡ Some lane
      → PublisherFollows m.moments m.finished place lane
  pub subscribers : (place : ℕ) (lane : SubscriberLaneState) → slice_get m.subscribers place ≡ Some lane
      → SubscriberFollows m.moments m.finished place lane

-- The calls follow one another (`CallsFollow`), as long as at most 2^63 steps were made.
abbrev pub CallsKeepTime : World → Type 0
CallsKeepTime m = m.moments ≤ 2 ^ 63 → CallsFollow m
