-- Several steps of a port at once, which its lane records after the last of them.
use Rattle.std.specs.Prelude.{ℕ, ◌≡◌, ◌+◌, ◌<◌, Bool, false}
use Rattle.atomic_table.specs.Seated.{TableId}
use Rattle.atomic_table.specs.Table.{Me}
use Rattle.iox_lanes_machine.specs.QueuesSteps.declared.access.Access.{Access}
use Rattle.iox_lanes_machine.specs.QueuesSteps.declared.access.Access.TheVariants as own
use Rattle.iox_lanes_machine.specs.QueuesSteps.declared.access.Word.TheVariants.{Write, Read, Cell}
use Rattle.iox_lanes_machine.specs.LanesBase.Numbers.{words_of, IsSmall}
use Rattle.iox_lanes_machine.specs.LanesBase.Publishing.{publisher_next, publisher_is_over}
use Rattle.iox_lanes_machine.specs.LanesBase.declared.calls.publisher.PublisherCall.{PublisherCall}
use Rattle.iox_lanes_machine.specs.LanesBase.declared.calls.subscriber.SubscriberCall.{SubscriberCall}
use Rattle.iox_lanes_machine.specs.LanesBase.declared.words.sizes.TableSizes.{TableSizes}
use Rattle.iox_lanes_machine.specs.LanesBase.declared.words.access.SharedAccess.{SharedAccess}
use Rattle.iox_lanes_machine.specs.LanesBase.declared.words.access.SharedAccess.TheVariants.{Load, Store, Exchange, Local}
use Rattle.iox_lanes_machine.specs.LanesBase.Subscribing.{subscriber_next}
use Rattle.iox_lanes_machine.specs.LanesParties.Parties.{PublisherLaneState, SubscriberLaneState, publisher_after, subscriber_after}
use Rattle.iox_lanes_threads_rule.specs.Acts.{single, port_of, stepped, MayAct, ToldBy}
use Rattle.iox_lanes_threads_rule.specs.Lanes.{MakesNext}
use Rattle.iox_lanes_threads_rule.specs.declared.view.Port.{Port}
use Rattle.iox_lanes_threads_rule.specs.declared.view.PortParty.{PortParty}
use Rattle.iox_lanes_threads_rule.specs.declared.view.View.{View}
use Rattle.iox_lanes_threads_ports.specs.Courses.{publisher_stepped, publisher_party, subscriber_party, SubscriberGoes}
use Rattle.iox_lanes_threads_ports.specs.Ports.{PublisherStands, SubscriberStands}

-- The publisher's lane with its call set to this stage.
abbrev pub called : PublisherCall → PublisherLaneState → PublisherLaneState
called call lane = record lane { port = record lane.port { call = call } }

-- A publisher goes from one state to another by this many steps, none of which is the last one of a call: each makes the access that its
-- call names next, and goes on with the answer.
pub data PublisherStrides (p : Port) (lane : PublisherLaneState) : ℕ → Port → PublisherLaneState → Type 0 where
  stays : PublisherStrides p lane 0 p lane
  goes : (made : ℕ) (q : Port) (now : PublisherLaneState) (answer : ℕ) → PublisherStrides p lane made q now
      → publisher_is_over now.port.call ≡ false
      → ToldBy q (publisher_next now.port.call) answer
      → PublisherStrides p lane (made + 1) (publisher_stepped q now answer) (publisher_after answer now)

-- A port that is alone on its seat, and whose lane made steps: the port knows what the lane's next step needs (`Stands`), and the lane came
-- there by steps of which `Went` is true.
pub record Strode {L : Type 0} (Stands : Port → L → Type 0) (Went : Port → L → Type 0) (p : Port) (me : Me ℕ View) (now : L) : Type 0 where
  pub alone : me ≡ single (port_of me)
  pub service : (port_of me).service ≡ p.service
  pub name : (port_of me).name ≡ p.name
  pub stands : Stands (port_of me) now
  pub strides : Went (port_of me) now

-- A publisher, alone on its seat, that made `made` steps.
abbrev pub PublisherStrode : Port → PublisherLaneState → ℕ → Me ℕ View → PublisherLaneState → Type 0
PublisherStrode p lane made me now = Strode PublisherStands (PublisherStrides p lane made) p me now

-- The subscriber's lane with its call set to this stage.
abbrev pub subscriber_called : SubscriberCall → SubscriberLaneState → SubscriberLaneState
subscriber_called call lane = record lane { port = record lane.port { call = call } }

-- A subscriber goes from one state to another by steps, of whatever number.
abbrev pub SubscriberStrides : Port → SubscriberLaneState → ℕ → Port → SubscriberLaneState → Type 0
SubscriberStrides p lane made q now = SubscriberGoes p lane q now

-- A subscriber, alone on its seat, that made some steps.
abbrev pub SubscriberStrode : Port → SubscriberLaneState → Me ℕ View → SubscriberLaneState → Type 0
SubscriberStrode p lane me now = Strode SubscriberStands (SubscriberGoes p lane) p me now

-- The access is one to a shared word.
abbrev pub TouchesWord : SharedAccess → Type 0
TouchesWord (Load w) = Unit {0}
TouchesWord (Store w new) = Unit {0}
TouchesWord (Exchange w old new) = Unit {0}
TouchesWord Local = ⊥

-- What the lanes of a kind do with their calls: `standing` is the stage of a lane's call, `called` the lane with its call set to a stage,
-- `next` the access that comes next at a stage, `after` the lane after an answer, and `party` what its port is after that answer. A lane
-- `Stands` if its port knows what its next step needs, and `Strides` says that the lane goes from one state to another by a number of
-- steps.
pub record LaneKind (L C : Type 0) : Type 1 where
  pub standing : L → C
  pub called : C → L → L
  pub next : C → SharedAccess
  pub after : ℕ → L → L
  pub party : L → ℕ → PortParty
  pub Stands : Port → L → Type 0
  pub Strides : Port → L → ℕ → Port → L → Type 0

-- The kind of the publishers' lanes.
abbrev pub publishers : LaneKind PublisherLaneState PublisherCall
publishers = record {
  standing = λ lane. lane.port.call;
  called = called;
  next = publisher_next;
  after = publisher_after;
  party = publisher_party;
  Stands = PublisherStands;
  Strides = PublisherStrides;
}

-- The kind of the subscribers' lanes.
abbrev pub subscribers : LaneKind SubscriberLaneState SubscriberCall
subscribers = record {
  standing = λ lane. lane.port.call;
  called = subscriber_called;
  next = subscriber_next;
  after = subscriber_after;
  party = subscriber_party;
  Stands = SubscriberStands;
  Strides = SubscriberStrides;
}

-- A lane of a kind, alone on its seat, that made `made` steps.
abbrev pub StrodeBy : {L C : Type 0} → LaneKind L C → Port → L → ℕ → Me ℕ View → L → Type 0
StrodeBy kind p lane made me now = Strode kind.Stands (kind.Strides p lane made) p me now

-- A port goes from one lane to another by `more` steps: whatever steps it made before, it then made `more` further ones.
abbrev pub StridesOn : {L C : Type 0} → LaneKind L C → ℕ → Me ℕ View → L → Me ℕ View → L → Type 0
StridesOn {L = L} kind more me lane me' next = (p : Port) (begun : L) (made : ℕ) → StrodeBy kind p begun made me lane
    → StrodeBy kind p begun (made + more) me' next

-- A port may make the next access of a lane of a kind, on a ring with `count` cells. The port is alone on its seat, which is a seat of this
-- table; table and service have the words of these sizes; the port knows what the lane's next step needs; and the ring has cells.
pub record MayStride {L C : Type 0} (kind : LaneKind L C) (words seat : TableId) (me : Me ℕ View) (sizes : TableSizes) (lane : L)
    (count : ℕ) : Type 0 where
  pub table : (seat ≡ words) × (words.words ≡ words_of sizes) × IsSmall sizes
  pub own : (me ≡ single (port_of me)) × ((port_of me).service.sizes ≡ sizes)
  pub stands : kind.Stands (port_of me) lane
  pub cells : 0 < count

-- Lanes of a kind may be set to the stage to which their port's accesses lead. Where `Stands` holds for a lane, its port may make the
-- access that comes next. After no steps a lane is as it was. After another access to a shared word, and its answer, `Stands` holds again
-- and the lane has made one more step.
pub record GoesAhead (L C : Type 0) (kind : LaneKind L C) : Type 0 where
  pub itself : (lane : L) → lane ≡ kind.called (kind.standing lane) lane
  pub may : (p : Port) (call : C) (lane : L) → kind.Stands p (kind.called call lane) → MayAct p (kind.next call)
  pub makes : (p : Port) (call : C) (lane : L) → kind.Stands p (kind.called call lane)
      → MakesNext p.party (kind.next call) (kind.party (kind.called call lane))
  pub stays : (p : Port) (lane : L) → kind.Strides p lane 0 p lane
  pub goes : (p : Port) (begun : L) (made : ℕ) (q : Port) (call : C) (lane : L) (answer : ℕ)
      → kind.Stands q (kind.called call lane) → kind.Strides p begun made q (kind.called call lane)
      → TouchesWord (kind.next call) → ToldBy q (kind.next call) answer
      → kind.Stands (stepped q (kind.next call) answer (kind.party (kind.called call lane))) (kind.after answer (kind.called call lane))
      × kind.Strides p begun (made + 1) (stepped q (kind.next call) answer (kind.party (kind.called call lane)))
      (kind.after answer (kind.called call lane))

-- The access of a ring's end moves no position.
abbrev pub KeepsPositions : Access → Type 0
KeepsPositions (own.Load word) = Unit {0}
KeepsPositions (own.Store Write value) = ⊥
KeepsPositions (own.Store Read value) = ⊥
KeepsPositions (own.Store (Cell position) value) = Unit {0}
KeepsPositions (own.Exchange word old new) = ⊥
KeepsPositions own.Local = Unit {0}

-- The access of a ring's end is one to a word.
abbrev pub AsksWord : Access → Type 0
AsksWord (own.Load word) = Unit {0}
AsksWord (own.Store word value) = Unit {0}
AsksWord (own.Exchange word old new) = Unit {0}
AsksWord own.Local = ⊥

-- A pop or a push makes two accesses to words from this stage on, of which the first moves no position.
pub record MakesTwo {S : Type 0} (asks : S → Access) (takes : S → ℕ → S) (stage : S) : Type 0 where
  pub first : AsksWord (asks stage)
  pub keeps : KeepsPositions (asks stage)
  pub second : (answer : ℕ) → AsksWord (asks (takes stage answer))

-- A pop or a push makes two accesses to words from this stage on, and two more unless it is over then. Where it makes four, none of the
-- first three moves a position.
pub record RunsAhead {S : Type 0} (asks : S → Access) (takes : S → ℕ → S) (over : S → Bool) (begun : S) : Type 0 where
  pub two : MakesTwo asks takes begun
  pub keeps : (a b : ℕ) → over (takes (takes begun a) b) ≡ false → KeepsPositions (asks (takes begun a))
  pub more : (a b : ℕ) → over (takes (takes begun a) b) ≡ false → MakesTwo asks takes (takes (takes begun a) b)
