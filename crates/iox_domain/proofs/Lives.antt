-- What a publisher's steps change of whether it exists, its owner, its loans, and whether one of its sends is blocked.
use Rattle.std.proofs.Common.{◌≡◌, ◌+◌, ◌-◌, ◌==◌, ◌∙◌, ℕ, zero, suc, Bool, true, false, List, [], ◌∷◌, length, get_or, is_some, Option}
use Rattle.std.proofs.Common.{None, Some, Result, Ok, Err, if◌then◌else◌, refl, sym, ap}
use Rattle.std.specs.declared.alloc.AllocError.{AllocError}
use Rattle.iox_domain.specs.Container.declared.container.Member.{Member}
use Rattle.iox_domain.specs.DomainValues.declared.backpressure.BackpressureDecision.{BackpressureDecision}
use Rattle.iox_domain.specs.DomainValues.declared.backpressure.BackpressureDecision.TheVariants as decided
use Rattle.iox_domain.specs.DomainValues.declared.backpressure.BackpressureInfo.{BackpressureInfo}
use Rattle.iox_domain.specs.DomainValues.declared.connection_failure.ConnectionFailure.{ConnectionFailure}
use Rattle.iox_domain.specs.DomainValues.declared.degradation.DegradationAction.{DegradationAction}
use Rattle.iox_domain.specs.DomainValues.declared.degradation.DegradationInfo.{DegradationInfo}
use Rattle.iox_domain.specs.DomainValues.declared.port_error.SendError.{SendError}
use Rattle.iox_domain.specs.DomainValues.declared.port_error.SendError.TheVariants as sending
use Rattle.iox_domain.specs.DomainPorts.Messages.{Message}
use Rattle.iox_domain.specs.DomainPorts.Leaving.{parted_at, parted_from, departed}
use Rattle.iox_domain.specs.DomainPorts.Places.{is_attached}
use Rattle.iox_domain.specs.DomainPorts.Ports.{Joins, connection_to, connection_of, is_live, ended_at, welcomed_at, greeted_at}
use Rattle.iox_domain.specs.DomainPorts.Sending.{meeting_at, met, met_by, with_message, decided_by, concluded, sent_answer, Steps}
use Rattle.iox_domain.specs.DomainPorts.Sending.{Delivers, Finishes}
use Rattle.iox_domain.specs.DomainPorts.Ties.{tie_put}
use Rattle.iox_domain.specs.DomainPorts.PublisherUpdating.{is_tie_to, let_go_of, untied, untied_from, within_reach, Ties, FollowsTo}
use Rattle.iox_domain.specs.DomainPorts.PublisherUpdating.{Follows, FollowsAll, UpdatesIf, Updates}
use Rattle.iox_domain.specs.DomainPorts.declared.meeting.Meeting.{Meeting}
use Rattle.iox_domain.specs.DomainPorts.declared.meeting.Meeting.TheVariants as meeting
use Rattle.iox_domain.specs.DomainPorts.declared.meeting.Sent.{Sent}
use Rattle.iox_domain.specs.DomainPorts.declared.meeting.Sent.TheVariants as sent
use Rattle.iox_domain.specs.DomainPorts.declared.publisher_port.PublisherPort.{PublisherPort}
use Rattle.iox_domain.specs.DomainPorts.declared.subscriber_entry.SubscriberEntry.{SubscriberEntry}

-- what lives of a publisher is told by this: whether it stands, whose it is, how many loans are out and may be, and whether a send is
-- blocked
pub record Life : Type 0 where
  pub stands : Bool
  pub number : ℕ
  pub loans : ℕ
  pub most : ℕ
  pub sending : Bool

abbrev pub life_of : {T U : Type 0} → PublisherPort T U → Life
life_of port = record {
  stands = port.stands;
  number = port.owner.number;
  loans = length port.sender.uses.loans;
  most = port.sender.uses.most_loans;
  sending = is_some port.sender.uses.sending;
}

-- one of two that live alike
either : {T U : Type 0} (b : Bool) (x y : PublisherPort T U) (life : Life) → life_of x ≡ life → life_of y ≡ life
    → life_of (if b then x else y) ≡ life
either true x y life one other = one
either false x y life one other = other

pub ended_life : {T U : Type 0} (index : ℕ) (port : PublisherPort T U) → life_of (ended_at index port) ≡ life_of port
ended_life index port = either (is_live index port) _ _ (life_of port) refl refl

let_go_life : {T U : Type 0} (place : ℕ) (tie : Option ℕ) (port : PublisherPort T U) → life_of (let_go_of place tie port) ≡ life_of port
let_go_life place None port = refl
let_go_life place (Some index) port = ended_life index (record port { ties = tie_put place None port.ties })

untied_life : {T U : Type 0} (place : ℕ) (port : PublisherPort T U) → life_of (untied place port) ≡ life_of port
untied_life place port = let_go_life place (get_or port.ties.items place None) port

untied_from_life : {T U : Type 0} (count place : ℕ) (port : PublisherPort T U) → life_of (untied_from count place port) ≡ life_of port
untied_from_life zero place port = refl
untied_from_life (suc count) place port = untied_from_life count (place + 1) (untied place port) ∙ untied_life place port

pub joins_life : {T U : Type 0} (subscriber limit : ℕ) (found : Option ℕ) (old : PublisherPort T U) (answer : Result ℕ AllocError)
    (new : PublisherPort T U)
    → Joins subscriber limit found old answer new → life_of new ≡ life_of old
joins_life subscriber limit (Some index) old answer new joins = ap life_of joins.1
joins_life subscriber limit None old (Err error) new joins = ap life_of joins
joins_life subscriber limit None old (Ok index) new joins = ap life_of joins.2

greeted_life : {T U : Type 0} (index : ℕ) (waiting : List (Message T U)) (port : PublisherPort T U)
    → life_of (greeted_at index waiting port) ≡ life_of port
greeted_life index [] port = refl
greeted_life index (message ∷ waiting) port = refl

welcomed_life : {T U : Type 0} (index : ℕ) (port : PublisherPort T U) → life_of (welcomed_at index port) ≡ life_of port
welcomed_life index port = either (is_live index port) _ _ (life_of port) (greeted_life index (connection_of index port).waiting port) refl

ties_life : {T U : Type 0} (place : ℕ) (entry : SubscriberEntry) (old : PublisherPort T U) (answer : Result (Unit {0}) AllocError)
    (new : PublisherPort T U)
    → Ties place entry old answer new → life_of new ≡ life_of old
ties_life place entry old (Err error) new ties = ap life_of ties.1
ties_life place entry old (Ok done) new (index, joined, joins, is) =
    ap life_of is ∙ welcomed_life index (record joined { ties = tie_put place (Some index) joined.ties })
    ∙ joins_life _ _ (connection_to entry.subscriber old) (within_reach place old) (Ok index) joined joins

follows_to_life : {T U : Type 0} (place : ℕ) (entry : SubscriberEntry) (same : Bool) (old : PublisherPort T U)
    (answer : Result (Unit {0}) AllocError) (new : PublisherPort T U)
    → FollowsTo place entry same old answer new → life_of new ≡ life_of old
follows_to_life place entry true old answer new follows = ap life_of follows.1
follows_to_life place entry false old answer new follows
    = ties_life place entry (untied place old) answer new follows ∙ untied_life place old

follows_life : {T U : Type 0} (place : ℕ) (listed : Option (Member SubscriberEntry)) (old : PublisherPort T U)
    (answer : Result (Unit {0}) AllocError) (new : PublisherPort T U)
    → Follows place listed old answer new → life_of new ≡ life_of old
follows_life place None old answer new follows = ap life_of follows.1 ∙ untied_life place old
follows_life place (Some member) old answer new follows =
    follows_to_life place member.value (is_tie_to member.value.subscriber (get_or old.ties.items place None) old) old answer new follows

follows_all_life : {T U : Type 0} (may : DegradationInfo → DegradationAction → Type 0) (place : ℕ)
    (listed : List (Option (Member SubscriberEntry))) (found : Option ConnectionFailure)
    (old : PublisherPort T U) (answer : Result (Unit {0}) ConnectionFailure) (new : PublisherPort T U)
    → FollowsAll may place listed found old answer new → life_of new ≡ life_of old
follows_all_life may place [] found old answer new follows
    = ap life_of follows.1 ∙ untied_from_life (length old.ties.items - place) place old
follows_all_life may place (first ∷ rest) found old answer new (outcome, next, after, follows, asks, further) =
    follows_all_life may (place + 1) rest after next answer new further ∙ follows_life place first old outcome next follows

updates_if_life : {T U : Type 0} (same : Bool) (may : DegradationInfo → DegradationAction → Type 0)
    (listed : List (Option (Member SubscriberEntry))) (changes : ℕ)
    (old : PublisherPort T U) (answer : Result (Unit {0}) ConnectionFailure) (new : PublisherPort T U)
    → UpdatesIf same may listed changes old answer new → life_of new ≡ life_of old
updates_if_life true may listed changes old answer new updates = ap life_of updates.1
updates_if_life false may listed changes old answer new updates
    = follows_all_life may 0 listed None (record old { seen = changes }) answer new updates

-- an update changes nothing of what lives
pub updates_life : {T U : Type 0} (may : DegradationInfo → DegradationAction → Type 0) (listed : List (Option (Member SubscriberEntry)))
    (changes : ℕ)
    (old : PublisherPort T U) (answer : Result (Unit {0}) ConnectionFailure) (new : PublisherPort T U)
    → Updates may listed changes old answer new → life_of new ≡ life_of old
updates_life may listed changes old answer new updates = updates_if_life (old.seen == changes) may listed changes old answer new updates

message_life : {T U : Type 0} (index : ℕ) (message : Option (Message T U)) (port : PublisherPort T U)
    → life_of (with_message index message port) ≡ life_of port
message_life index None port = refl
message_life index (Some message) port = refl

met_life : {T U : Type 0} (tie : Option ℕ) (port : PublisherPort T U) → life_of (met_by tie port) ≡ life_of port
met_life None port = refl
met_life (Some index) port = either (is_live index port) _ _ (life_of port) (message_life index port.sender.uses.sending port) refl

decided_life : {T U : Type 0} (decision : BackpressureDecision) (port : PublisherPort T U)
    → life_of (decided_by decision port) ≡ life_of port
decided_life decided.Retry port = refl
decided_life decided.DiscardData port = refl
decided_life decided.DiscardDataAndFail port = refl

steps_life : {T U : Type 0} (may : BackpressureInfo → BackpressureDecision → Type 0) (what : Meeting) (port : PublisherPort T U)
    (went : Bool) (new : PublisherPort T U)
    → Steps may what port went new → life_of new ≡ life_of port
steps_life may meeting.Over port went new steps = ap life_of steps.1
steps_life may meeting.Passed port went new steps = ap life_of steps.1
steps_life may meeting.Delivered port went new steps = ap life_of steps.1
steps_life may (meeting.Full subscriber) port went new (decision, allowed, goes, is) = ap life_of is ∙ decided_life decision port

-- a delivery neither
pub delivers_life : {T U : Type 0} (may : BackpressureInfo → BackpressureDecision → Type 0) (places : ℕ) (old : PublisherPort T U)
    (arrived : Bool) (new : PublisherPort T U)
    → Delivers may places old arrived new → life_of new ≡ life_of old
delivers_life may zero old arrived new delivers = ap life_of delivers.1
delivers_life may (suc places) old arrived new (false, next, steps, goes) =
    ap life_of goes.1 ∙ steps_life may (meeting_at old.progress.place old) (met old.progress.place old) false next steps ∙ met_life
    (get_or old.ties.items old.progress.place None) old
delivers_life may (suc places) old arrived new (true, next, steps, goes) =
    delivers_life may places next arrived new goes
    ∙ steps_life may (meeting_at old.progress.place old) (met old.progress.place old) true next steps ∙ met_life
    (get_or old.ties.items old.progress.place None) old

-- whether a send that answers so ended
abbrev pub is_ended : Result Sent SendError → Bool
is_ended (Ok sent.Blocked) = false
is_ended (Ok (sent.Delivered connections)) = true
is_ended (Err error) = true

-- what lives once a send ended, or not
abbrev pub life_after : Bool → Life → Life
life_after true life = record life { sending = false }
life_after false life = life

told_ended : (fails : Bool) (connections : ℕ)
    → is_ended (if fails then Err sending.UnableToDeliver else Ok (sent.Delivered connections)) ≡ true
told_ended true connections = refl
told_ended false connections = refl

concluded_life : {T U : Type 0} (arrived : Bool) (gone : PublisherPort T U)
    → life_of (concluded arrived gone) ≡ life_after (is_ended (sent_answer arrived gone.progress)) (life_of gone)
concluded_life true gone = ap (λ ended. life_after ended (life_of gone)) (sym (told_ended gone.progress.fails gone.progress.delivered))
concluded_life false gone = refl

-- what lives after the places that are left were gone over
pub finishes_life : {T U : Type 0} (may : BackpressureInfo → BackpressureDecision → Type 0) (old : PublisherPort T U)
    (answer : Result Sent SendError) (new : PublisherPort T U)
    → Finishes may old answer new → life_of new ≡ life_after (is_ended answer) (life_of old)
finishes_life may old answer new (arrived, gone, delivers, told, is) =
    ap life_of is ∙ concluded_life arrived gone
    ∙ ap (λ life. life_after (is_ended (sent_answer arrived gone.progress)) life)
    (delivers_life may (length old.ties.items - old.progress.place) old arrived gone delivers)
    ∙ ap (λ outcome. life_after (is_ended outcome) (life_of old)) (sym told)

parted_life : {T U : Type 0} (index : ℕ) (port : PublisherPort T U) → life_of (parted_at index port) ≡ life_of port
parted_life index port = either (is_attached (get_or port.readers index None)) _ _ (life_of port) refl (ended_life index port)

parted_from_life : {T U : Type 0} (count index : ℕ) (port : PublisherPort T U) → life_of (parted_from count index port) ≡ life_of port
parted_from_life zero index port = refl
parted_from_life (suc count) index port = parted_from_life count (index + 1) (parted_at index port) ∙ parted_life index port

-- a publisher that left doesn't stand, and else as much lives of it
pub departed_life : {T U : Type 0} (port : PublisherPort T U) → life_of (departed port) ≡ record (life_of port) { stands = false }
departed_life port = parted_from_life (length port.sender.uses.connections) 0 (record port { stands = false })
