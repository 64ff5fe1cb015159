-- A blocked send is left where it is by each call that doesn't go on with it.
use Rattle.std.proofs.Common.{arith, ◌≡◌, ◌<◌, ◌&&◌, ◌||◌, ◌==◌, ℕ, Bool, true, false, not, is_some, List, length, Option, None, Some}
use Rattle.std.proofs.Common.{Result, Ok, Err, refl, sym, ap, ◌∙◌, subst, if◌then◌else◌, inl, inr}
use Rattle.std.proofs.lemmas.Bool.{cases_eq, eq-eqb}
use Rattle.std.specs.List.{position, list_any}
use Rattle.std.specs.declared.alloc.AllocError.{AllocError}
use Rattle.iox_domain.specs.DomainValues.Sizes.{buffer_of}
use Rattle.iox_domain.specs.DomainValues.declared.backpressure.BackpressureDecision.{BackpressureDecision}
use Rattle.iox_domain.specs.DomainValues.declared.backpressure.BackpressureInfo.{BackpressureInfo}
use Rattle.iox_domain.specs.DomainValues.declared.connection_failure.ConnectionFailure.{ConnectionFailure}
use Rattle.iox_domain.specs.DomainValues.declared.create_error.PublisherCreateError.{PublisherCreateError}
use Rattle.iox_domain.specs.DomainValues.declared.create_error.SubscriberCreateError.{SubscriberCreateError}
use Rattle.iox_domain.specs.DomainValues.declared.degradation.DegradationAction.{DegradationAction}
use Rattle.iox_domain.specs.DomainValues.declared.degradation.DegradationInfo.{DegradationInfo}
use Rattle.iox_domain.specs.DomainValues.declared.port_error.LoanError.{LoanError}
use Rattle.iox_domain.specs.DomainValues.declared.port_error.ReceiveError.{ReceiveError}
use Rattle.iox_domain.specs.DomainValues.declared.port_error.SendError.{SendError}
use Rattle.iox_domain.specs.DomainValues.declared.port_owner.PortOwner.{PortOwner}
use Rattle.iox_domain.specs.DomainPorts.Messages.{Loan}
use Rattle.iox_domain.specs.DomainSlots.Uses.{is_there}
use Rattle.iox_domain.specs.DomainPorts.MessagesSending.{is_written_at}
use Rattle.iox_domain.specs.DomainPorts.Leaving.{departed}
use Rattle.iox_domain.specs.DomainPorts.Loaning as loaning
use Rattle.iox_domain.specs.DomainPorts.Ports.{connection_to, is_live, ended_at, detached_at, unread_at, attached_at, Joins}
use Rattle.iox_domain.specs.DomainPorts.Ties.{has_tie}
use Rattle.iox_domain.specs.DomainPorts.Sending.{ready_at, ready_loan, Sends}
use Rattle.iox_domain.specs.DomainPorts.Writing.{changed_if, given_up, given_up_at}
use Rattle.iox_domain.specs.DomainPorts.Writing as writing
use Rattle.iox_domain.specs.DomainPorts.declared.meeting.Sent.{Sent}
use Rattle.iox_domain.specs.DomainPorts.declared.publisher_port.PublisherPort.{PublisherPort}
use Rattle.iox_domain.specs.DomainPorts.Arriving.{new_subscriber}
use Rattle.iox_domain.specs.DomainPorts.Publishers.{port_of, with_port, changed, changed_at_port, connection_in, ended_if_left}
use Rattle.iox_domain.specs.DomainPorts.Publishers.{is_over_in, is_over_port, removed, settled, AttachesAtPort}
use Rattle.iox_domain.specs.DomainPorts.Reading.{is_over, place_of, taken_at, given_back_at}
use Rattle.iox_domain.specs.DomainPorts.declared.attached.Taken.{Taken}
use Rattle.iox_domain.specs.DomainPorts.declared.publisher_entry.PublisherEntry.{PublisherEntry}
use Rattle.iox_domain.specs.DomainPorts.declared.subscriber_port.SubscriberPort.{SubscriberPort}
use Rattle.iox_domain.specs.Calls as call
use Rattle.iox_domain.specs.Calls.{PortCall, Happens}
use Rattle.iox_domain.specs.PortLawsLaws.{IsSound}
use Rattle.iox_domain.specs.Tries.{IsSameSend, goes_on_with, SendWaits}
use Rattle.iox_domain.specs.Lending.{LoansOne}
use Rattle.iox_domain.specs.Lending as lending
use Rattle.iox_domain.specs.Making.{slots_needed, publisher_place, subscriber_place, identity_of, AddsPublisher, CreatesPublisher}
use Rattle.iox_domain.specs.Making.{AddsSubscriber, CreatesSubscriber}
use Rattle.iox_domain.specs.Ports.{AtPublisher, AtSubscriber}
use Rattle.iox_domain.specs.PortsPublishing.{is_blocked, is_free}
use Rattle.iox_domain.specs.PortsPublishing as publishing
use Rattle.iox_domain.specs.Rolls.{RollState}
use Rattle.iox_domain.specs.Subscribers.{subscriber_of}
use Rattle.iox_domain.specs.PortsSubscribing as subscribing
use Rattle.iox_domain.specs.declared.ports.making.PublisherConfig.{PublisherConfig}
use Rattle.iox_domain.specs.declared.ports.service_ports.ServicePorts.{ServicePorts}
use Rattle.iox_domain.proofs.ListKeeps.{number_found}
use Rattle.iox_domain.proofs.Numbered.{at_number, other_fails, other_set, same_set, other_gone, other_came}
use Rattle.iox_domain.proofs.Walks.{Walks, WalksTaking, WalksLeaving, walked_updates, walked_receives, left_all_walk}

-- a send of a publisher that waits is where it was
abbrev Waits : {T U : Type 0} → ℕ → List (ℕ × PublisherPort T U) → List (ℕ × PublisherPort T U) → Type 0
Waits {T} {U} publisher old new =
    (port : PublisherPort T U) → port_of publisher old ≡ Some port → is_some port.sender.uses.sending ≡ true
    → (after : PublisherPort T U) × (port_of publisher new ≡ Some after) × IsSameSend port after

same_send : {T U : Type 0} (port after : PublisherPort T U) → after ≡ port → IsSameSend port after
same_send port after is = rw is (record { place = refl; delivered = refl; sending = refl; ties = refl })

waits_same : {T U : Type 0} (publisher : ℕ) (old new : List (ℕ × PublisherPort T U)) → new ≡ old → Waits publisher old new
waits_same publisher old new is port there waits = rw is (port, there, same_send port port refl)

waits_on : {T U : Type 0} (publisher : ℕ) (old between new : List (ℕ × PublisherPort T U)) → Waits publisher old between
    → Waits publisher between new → Waits publisher old new
waits_on publisher old between new one two port there waits =
    let (middle, is, first) = one port there waits in
    let (after, now, second) = two middle is (ap (λ found. is_some found) first.sending ∙ waits) in (
      after,
      now,
      record {
        place = second.place ∙ first.place;
        delivered = second.delivered ∙ first.delivered;
        sending
            = second.sending ∙ first.sending;
        ties = second.ties ∙ first.ties;
      },
    )

-- the publisher of a number is as after a step
waits_with : {T U : Type 0} (publisher number : ℕ) (ports : List (ℕ × PublisherPort T U)) (before after : PublisherPort T U)
    → port_of number ports ≡ Some before
    → (publisher ≡ number → is_some before.sender.uses.sending ≡ true → IsSameSend before after)
    → Waits publisher ports (with_port number ports after)
waits_with {T} {U} publisher number ports before after is step port there waits = elim (cases_eq publisher number) [
  | inl same ↦
      let both : Some port ≡ Some before = sym there ∙ ap (λ n. port_of n ports) same ∙ is in
      let one : port ≡ before = cc in
      let now : port_of publisher (with_port number ports after) ≡ Some after
      = ap (λ n. port_of n (with_port number ports after)) same ∙ same_set (at_number number) ports after before is in (
        after,
        now,
        subst (λ found. IsSameSend found after) (sym one)
            (step same (ap (λ found. is_some found.sender.uses.sending) (sym one) ∙ waits)),
      )
  | inr other ↦ (
    port,
    other_set (at_number number) (at_number publisher) ports after (other_fails publisher number other) ∙ there,
    same_send port port refl,
  )
]

waits_changed : {T U : Type 0} (publisher number : ℕ) (step : PublisherPort T U → PublisherPort T U)
    (found : Option (PublisherPort T U)) (ports : List (ℕ × PublisherPort T U)) → port_of number ports ≡ found
    → ((port : PublisherPort T U) → IsSameSend port (step port)) → Waits publisher ports (changed_at_port number step found ports)
waits_changed publisher number step None ports there steps = waits_same publisher ports ports refl
waits_changed publisher number step (Some before) ports there steps
    = waits_with publisher number ports before (step before) there (λ same waits. steps before)

-- one whose send is blocked isn't over
over_silent : (stands loans sending connections : Bool) → (not stands && (loans && (not sending && not connections))) ≡ true
    → sending ≡ false
over_silent true loans sending connections is = cc
over_silent false false sending connections is = cc
over_silent false true true connections is = cc
over_silent false true false connections is = refl

waits_settled : {T U : Type 0} (publisher number : ℕ) (over : Bool) (ports : List (ℕ × PublisherPort T U))
    → is_over_in number ports ≡ over → Waits publisher ports (if over then removed number ports else ports)
waits_settled publisher number false ports is = waits_same publisher ports ports refl
waits_settled {T} {U} publisher number true ports is = λ port there waits. elim (cases_eq publisher number) [
  | inl same ↦
      let over : is_over port ≡ true = ap (λ found. is_over_port found) (sym there ∙ ap (λ n. port_of n ports) same) ∙ is in
      let silent : is_some port.sender.uses.sending ≡ false
      = over_silent port.stands (length port.sender.uses.loans == 0) (is_some port.sender.uses.sending)
      (list_any is_there port.sender.uses.connections) over in
      let no : true ≡ false = sym waits ∙ silent in
      absurd (cc)
  | inr other ↦ (
    port,
    other_gone (at_number number) (at_number publisher) ports (other_fails publisher number other) ∙ there,
    same_send
        port port refl,
  )
]

settles : {T U : Type 0} (publisher number : ℕ) (old ports : List (ℕ × PublisherPort T U)) → Waits publisher old ports
    → Waits publisher old (settled number ports)
settles publisher number old ports waits
    = waits_on publisher old ports (settled number ports) waits (waits_settled publisher number (is_over_in number ports) ports refl)

-- so it is with each step of a subscriber
ended_same : {T U : Type 0} (live : Bool) (index : ℕ) (port gone : PublisherPort T U) → IsSameSend port gone
    → IsSameSend port (if live then gone else port)
ended_same true index port gone same = same
ended_same false index port gone same = same_send port port refl

ended_if : {T U : Type 0} (stands : Bool) (index : ℕ) (port : PublisherPort T U)
    → IsSameSend port (if stands then port else ended_at index port)
ended_if true index port = same_send port port refl
ended_if false index port = ended_same (is_live index port) index port _
    (record { place = refl; delivered = refl; sending = refl; ties = refl })

joined_same : {T U : Type 0} (subscriber limit index : ℕ) (found : Option ℕ) (old joined : PublisherPort T U)
    → Joins subscriber limit found old (Ok index) joined → IsSameSend old joined
joined_same subscriber limit index (Some at) old joined joins = same_send old joined joins.1
joined_same subscriber limit index None old joined joins
    = rw (joins.2) (record { place = refl; delivered = refl; sending = refl; ties = refl })

attached_same : {T U : Type 0} (subscriber index : ℕ) (old joined after : PublisherPort T U) → IsSameSend old joined
    → after ≡ attached_at subscriber index joined → IsSameSend old after
attached_same subscriber index old joined after same is
    = rw is (record { place = same.place; delivered = same.delivered; sending = same.sending; ties = same.ties })

attaches : {T U : Type 0} (publisher subscriber number limit : ℕ) (found : Option (PublisherPort T U))
    (old new : List (ℕ × PublisherPort T U)) (answer : Option (Result ℕ AllocError)) → port_of number old ≡ found
    → AttachesAtPort number subscriber limit found old answer new → Waits publisher old new
attaches publisher subscriber number limit None old new answer there step = waits_same publisher old new step.1
attaches publisher subscriber number limit (Some port) old new None there step = absurd step
attaches publisher subscriber number limit (Some port) old new (Some (Err error)) there step = waits_same publisher old new step.1
attaches {T} {U} publisher subscriber number limit (Some port) old new (Some (Ok index)) there step =
    let after : PublisherPort T U = step.0 in
    rw (step.2) (waits_with publisher number old port after there
    (λ same waits. attached_same subscriber index port step.1.0 after
    (joined_same subscriber _ index (connection_to subscriber port) port step.1.0 step.1.1) step.1.2))

waits_walks : {T U : Type 0} (publisher subscriber : ℕ)
    → Walks subscriber (λ (old : List (ℕ × PublisherPort T U)) (new : List (ℕ × PublisherPort T U)). Waits publisher old new)
waits_walks publisher subscriber = record {
  stays = λ ports. waits_same publisher ports ports refl;
  on = waits_on publisher;
  attach = λ number limit old new answer step. attaches publisher subscriber number limit (port_of number old) old new answer refl step;
  end = λ attached ports. settles publisher attached.publisher ports (changed attached.publisher (ended_if_left attached.index) ports)
      (waits_changed publisher attached.publisher (ended_if_left attached.index) (port_of attached.publisher ports) ports refl
      (λ port. ended_if port.stands attached.index port));
}

detached_if : {T U : Type 0} (tied : Bool) (index : ℕ) (port : PublisherPort T U)
    → IsSameSend port (if tied then unread_at index port else ended_at index port)
detached_if true index port = record { place = refl; delivered = refl; sending = refl; ties = refl }
detached_if false index port = ended_same (is_live index port) index port _
    (record { place = refl; delivered = refl; sending = refl; ties = refl })

waits_leaving : {T U : Type 0} (publisher : ℕ)
    → WalksLeaving (λ (old : List (ℕ × PublisherPort T U)) (new : List (ℕ × PublisherPort T U)). Waits publisher old new)
waits_leaving publisher attached ports
    = waits_changed publisher attached.publisher (detached_at attached.index) (port_of attached.publisher ports) ports refl
    (λ port. detached_if (has_tie attached.index port.ties) attached.index port)

waits_takes : {T U : Type 0} (publisher : ℕ)
    → WalksTaking (λ (old : List (ℕ × PublisherPort T U)) (new : List (ℕ × PublisherPort T U)). Waits publisher old new)
waits_takes publisher attached ports below
    = waits_changed publisher attached.publisher (taken_at attached.index) (port_of attached.publisher ports) ports refl
    (λ port. record { place = refl; delivered = refl; sending = refl; ties = refl })

-- a call of a publisher
by_publisher : {T U A : Type 0} (publisher number : ℕ) (step : PublisherPort T U → Option A → PublisherPort T U → Type 0)
    (found : Option (PublisherPort T U)) (old new : ServicePorts T U) (answer : Option A) → port_of number old.publishers ≡ found
    → ((port after : PublisherPort T U) (answer : Option A) → step port answer after → publisher ≡ number
    → is_some port.sender.uses.sending ≡ true → IsSameSend port after) → AtPublisher number step found old answer new
    → Waits publisher old.publishers new.publishers
by_publisher publisher number step None old new answer there keeps happens
    = waits_same publisher old.publishers new.publishers (ap (λ ports. ports.publishers) happens.1)
by_publisher publisher number step (Some port) old new None there keeps happens
    = waits_same publisher old.publishers new.publishers (ap (λ ports. ports.publishers) happens.2)
by_publisher {T} {U} publisher number step (Some port) old new (Some value) there keeps (after, steps, is) =
    let are : new.publishers ≡ settled number (with_port number old.publishers after) = ap (λ ports. ports.publishers) is in
    rw are (settles publisher number old.publishers (with_port number old.publishers after)
    (waits_with publisher number old.publishers port after there (keeps port after (Some value) steps)))

loan_waits : {T U : Type 0} (stands waits : Bool) (values elements : ℕ) (port after : PublisherPort T U)
    (answer : Option (Result ℕ LoanError)) → is_some port.sender.uses.sending ≡ waits → waits ≡ true
    → lending.LoansIf stands values elements port answer after → IsSameSend port after
loan_waits false waits values elements port after answer is blocked loans = same_send port after loans.1
loan_waits true waits values elements port after answer is blocked loans
    = same_send port after (out (is_some port.sender.uses.sending) (is ∙ blocked) loans)
  where
    out : (some : Bool) → some ≡ true → loaning.LoansIf some port.allocation values elements port answer after → after ≡ port
    out true is loans = loans.1
    out false is loans = cc

unfree : (stands blocked : Bool) → blocked ≡ true → (stands && not blocked) ≡ false
unfree stands blocked is = rw is (both stands)
  where
    both : (stands : Bool) → (stands && false) ≡ false
    both true = refl
    both false = refl

update_waits : {T U : Type 0} (free : Bool) (may : DegradationInfo → DegradationAction → Type 0) (list : _)
    (port after : PublisherPort T U) (answer : Option (Result (Unit {0}) ConnectionFailure)) → free ≡ false
    → publishing.UpdatesIf free may list port answer after → IsSameSend port after
update_waits false may list port after answer is updates = same_send port after updates.1
update_waits true may list port after answer is updates = cc

unready : {T U : Type 0} (found : Option ℕ) (port : PublisherPort T U) → is_some port.sender.uses.sending ≡ true
    → ready_at found port ≡ None
unready None port waits = refl
unready (Some at) port waits = ap (λ b. if b || not (is_written_at at port.sender.uses) then None else Some at) waits

send_same : {T U : Type 0} (ready : Option ℕ) (may : DegradationInfo → DegradationAction → Type 0)
    (decide : BackpressureInfo → BackpressureDecision → Type 0) (listed : List _) (changes : ℕ) (port after : PublisherPort T U)
    (answer : Option (Result Sent SendError)) → ready ≡ None
    → Sends may decide listed changes ready port answer after → IsSameSend port after
send_same None may decide listed changes port after answer is sends = same_send port after sends.1
send_same (Some at) may decide listed changes port after answer is sends = cc

changed_same : {T U : Type 0} (allowed : Bool) (slot : ℕ) (change : Loan T U → Loan T U) (port : PublisherPort T U)
    → IsSameSend port (changed_if allowed slot change port)
changed_same true slot change port = record { place = refl; delivered = refl; sending = refl; ties = refl }
changed_same false slot change port = same_send port port refl

dropped_same : {T U : Type 0} (found : Option ℕ) (port : PublisherPort T U) → IsSameSend port (given_up_at found port)
dropped_same None port = same_send port port refl
dropped_same (Some at) port = record { place = refl; delivered = refl; sending = refl; ties = refl }

-- a call of a subscriber
by_subscriber : {T U A : Type 0} (publisher number : ℕ)
    (step : SubscriberPort → List (ℕ × PublisherPort T U) → Option A → SubscriberPort → List (ℕ × PublisherPort T U) → Type 0)
    (found : Option SubscriberPort) (old new : ServicePorts T U) (answer : Option A)
    → ((port after : SubscriberPort) (ports ports_after : List (ℕ × PublisherPort T U)) (answer : Option A)
    → step port ports answer after ports_after → Waits publisher ports ports_after) → AtSubscriber number step found old answer new
    → Waits publisher old.publishers new.publishers
by_subscriber publisher number step None old new answer waits happens
    = waits_same publisher old.publishers new.publishers (ap (λ ports. ports.publishers) happens.1)
by_subscriber publisher number step (Some port) old new None waits happens
    = waits_same publisher old.publishers new.publishers (ap (λ ports. ports.publishers) happens.3)
by_subscriber {T} {U} publisher number step (Some port) old new (Some value) waits (after, ports_after, steps, is) =
    let are : new.publishers ≡ ports_after = ap (λ ports. ports.publishers) is in
    rw are (waits port after old.publishers ports_after (Some value) steps)

updates_wait : {T U : Type 0} (publisher : ℕ) (stands : Bool) (may : DegradationInfo → DegradationAction → Type 0)
    (list : RollState PublisherEntry) (port after : SubscriberPort) (ports ports_after : List (ℕ × PublisherPort T U))
    (answer : Option (Result (Unit {0}) ConnectionFailure))
    → subscribing.UpdatesIf stands may list port ports answer after ports_after → Waits publisher ports ports_after
updates_wait publisher false may list port after ports ports_after answer updates = waits_same publisher ports ports_after updates.2
updates_wait publisher true may list port after ports ports_after answer updates
    = (walked_updates (waits_walks publisher port.number) may updates.0 list.changes port after ports ports_after updates.2 refl
    updates.3).walked

has_wait : {T U : Type 0} (publisher : ℕ) (stands : Bool) (may : DegradationInfo → DegradationAction → Type 0)
    (list : RollState PublisherEntry) (port after : SubscriberPort) (ports ports_after : List (ℕ × PublisherPort T U))
    (answer : Option (Result Bool ConnectionFailure))
    → subscribing.HasSamplesIf stands may list port ports answer after ports_after → Waits publisher ports ports_after
has_wait publisher false may list port after ports ports_after answer has = waits_same publisher ports ports_after has.2
has_wait publisher true may list port after ports ports_after answer has
    = (walked_updates (waits_walks publisher port.number) may has.0 list.changes port after ports ports_after has.3.0 refl has.3.1).walked

receives_wait : {T U : Type 0} (publisher : ℕ) (stands : Bool) (may : DegradationInfo → DegradationAction → Type 0)
    (list : RollState PublisherEntry) (port after : SubscriberPort) (ports ports_after : List (ℕ × PublisherPort T U))
    (answer : Option (Result (Option Taken) ReceiveError))
    → subscribing.ReceivesIf stands may list port ports answer after ports_after → Waits publisher ports ports_after
receives_wait publisher false may list port after ports ports_after answer receives = waits_same publisher ports ports_after receives.2
receives_wait publisher true may list port after ports ports_after answer receives =
    (walked_receives (waits_walks publisher port.number) (waits_takes publisher) may receives.0 list.changes port receives.3 ports
    ports_after receives.2 refl receives.4).walked

-- a port comes
publisher_comes : {T U : Type 0} (publisher : ℕ) (may : DegradationInfo → DegradationAction → Type 0) (config : PublisherConfig)
    (user_header : U) (place slots : ℕ) (old new : ServicePorts T U) (outcome : Result ℕ AllocError) → IsSound old
    → AddsPublisher may config user_header place slots old outcome new → Waits publisher old.publishers new.publishers
publisher_comes publisher may config user_header place slots old new (Err error) sound adds
    = waits_same publisher old.publishers new.publishers (ap (λ ports. ports.publishers) adds)
publisher_comes {T} {U} publisher may config user_header place slots old new (Ok number) sound
    (listed, is_list, outcome, came, updates, is_number, is_new) = λ port there waits.
    let below : publisher < old.next_port = number_found old.next_port publisher old.publishers port sound there in (
      port,
      ap (λ ports. port_of publisher ports.publishers) is_new ∙ other_came old.next_port publisher old.publishers came
          (λ same. absurd (omega (arith, same, below))) ∙ there,
      same_send port port refl,
    )

creates_publisher : {T U : Type 0} (publisher : ℕ) (overrides : ℕ → ℕ → Type 0) (may : DegradationInfo → DegradationAction → Type 0)
    (config : PublisherConfig) (user_header : U) (needed place : Option ℕ) (old new : ServicePorts T U)
    (answer : Result ℕ PublisherCreateError) → IsSound old
    → CreatesPublisher overrides may config user_header needed place old answer new → Waits publisher old.publishers new.publishers
creates_publisher publisher overrides may config user_header None place old new answer sound creates
    = waits_same publisher old.publishers new.publishers (ap (λ ports. ports.publishers) creates.1)
creates_publisher publisher overrides may config user_header (Some needed) None old new answer sound creates
    = waits_same publisher old.publishers new.publishers (ap (λ ports. ports.publishers) creates.1)
creates_publisher publisher overrides may config user_header (Some needed) (Some place) old new answer sound creates
    = publisher_comes publisher may config user_header place _ old new creates.2 sound creates.3

subscriber_comes : {T U : Type 0} (publisher : ℕ) (may : DegradationInfo → DegradationAction → Type 0) (owner : PortOwner)
    (place buffer_size : ℕ) (old new : ServicePorts T U) (outcome : Result ℕ AllocError)
    → AddsSubscriber may owner place buffer_size old outcome new → Waits publisher old.publishers new.publishers
subscriber_comes publisher may owner place buffer_size old new (Err error) adds
    = waits_same publisher old.publishers new.publishers (ap (λ ports. ports.publishers) adds)
subscriber_comes {T} {U} publisher may owner place buffer_size old new (Ok number) adds =
    let (between, follows, is_number, is_new) = adds in
    let (listed, is_list, outcome, after, publishers_after, updates, is_between) = follows in
    let first : SubscriberPort = new_subscriber (identity_of owner place old) buffer_size old.sizes.max_publishers
    old.sizes.expired_connections in
    let are : new.publishers ≡ publishers_after = ap (λ ports. ports.publishers) is_new ∙ ap (λ ports. ports.publishers) is_between in
    rw are ((walked_updates (waits_walks publisher first.number) may listed old.publisher_list.changes first after old.publishers
    publishers_after outcome refl updates).walked)

creates_subscriber : {T U : Type 0} (publisher : ℕ) (may : DegradationInfo → DegradationAction → Type 0) (owner : PortOwner)
    (buffer_size : Result ℕ SubscriberCreateError) (place : Option ℕ) (old new : ServicePorts T U) (answer : Result ℕ SubscriberCreateError)
    → CreatesSubscriber may owner buffer_size place old answer new → Waits publisher old.publishers new.publishers
creates_subscriber publisher may owner (Err refusal) place old new answer creates
    = waits_same publisher old.publishers new.publishers (ap (λ ports. ports.publishers) creates.1)
creates_subscriber publisher may owner (Ok buffer_size) None old new answer creates
    = waits_same publisher old.publishers new.publishers (ap (λ ports. ports.publishers) creates.1)
creates_subscriber publisher may owner (Ok buffer_size) (Some place) old new answer creates
    = subscriber_comes publisher may owner place buffer_size old new creates.0 creates.1

-- a port leaves
publisher_leaves : {T U : Type 0} (publisher : ℕ) (free : Bool) (number : ℕ) (port : PublisherPort T U) (old new : ServicePorts T U)
    (answer : Bool) → port_of number old.publishers ≡ Some port → is_free port ≡ free
    → publishing.LeavesPortIf free number port old answer new → Waits publisher old.publishers new.publishers
publisher_leaves publisher false number port old new answer there free leaves
    = waits_same publisher old.publishers new.publishers (ap (λ ports. ports.publishers) leaves.1)
publisher_leaves {T} {U} publisher true number port old new answer there free leaves =
    let are : new.publishers ≡ settled number (with_port number old.publishers (departed port)) = ap (λ ports. ports.publishers) leaves.1 in
    rw are (settles publisher number old.publishers (with_port number old.publishers (departed port))
    (waits_with publisher number old.publishers port (departed port) there
    (λ same waits. let no : false ≡ true = sym (unfree port.stands (is_blocked port) waits) ∙ free in absurd (cc))))

leaves_at : {T U : Type 0} (publisher number : ℕ) (found : Option (PublisherPort T U)) (old new : ServicePorts T U) (answer : Bool)
    → port_of number old.publishers ≡ found → publishing.LeavesAt number found old answer new
    → Waits publisher old.publishers new.publishers
leaves_at publisher number None old new answer there leaves
    = waits_same publisher old.publishers new.publishers (ap (λ ports. ports.publishers) leaves.1)
leaves_at publisher number (Some port) old new answer there leaves
    = publisher_leaves publisher (is_free port) number port old new answer there refl leaves

subscriber_leaves : {T U : Type 0} (publisher : ℕ) (stands : Bool) (number : ℕ) (port : SubscriberPort) (old new : ServicePorts T U)
    (answer : Bool) → subscribing.LeavesPortIf stands number port old answer new → Waits publisher old.publishers new.publishers
subscriber_leaves publisher false number port old new answer leaves
    = waits_same publisher old.publishers new.publishers (ap (λ ports. ports.publishers) leaves.1)
subscriber_leaves {T} {U} publisher true number port old new answer leaves =
    let are = ap (λ ports. ports.publishers) leaves.1 in
    rw are (left_all_walk (waits_walks publisher port.number) (waits_leaving publisher) port.connections.values old.publishers)

left_at : {T U : Type 0} (publisher number : ℕ) (found : Option SubscriberPort) (old new : ServicePorts T U) (answer : Bool)
    → subscribing.LeavesAt number found old answer new → Waits publisher old.publishers new.publishers
left_at publisher number None old new answer leaves
    = waits_same publisher old.publishers new.publishers (ap (λ ports. ports.publishers) leaves.1)
left_at publisher number (Some port) old new answer leaves = subscriber_leaves publisher port.stands number port old new answer leaves

-- a sample is released
released_at : {T U : Type 0} (publisher number : ℕ) (given : Taken) (place : Option ℕ) (old new : ServicePorts T U) (answer : Bool)
    → subscribing.ReleasesAt number given place old answer new → Waits publisher old.publishers new.publishers
released_at publisher number given None old new answer releases
    = waits_same publisher old.publishers new.publishers (ap (λ ports. ports.publishers) releases.1)
released_at {T} {U} publisher number given (Some at) old new answer releases =
    let are : new.publishers ≡ settled given.publisher (changed given.publisher (given_back_at given.index (Some at)) old.publishers)
    = ap (λ ports. ports.publishers) releases.1 in
    rw are (settles publisher given.publisher old.publishers (changed given.publisher (given_back_at given.index (Some at)) old.publishers)
    (waits_changed publisher given.publisher (given_back_at given.index (Some at)) (port_of given.publisher old.publishers)
    old.publishers refl (λ port. record { place = refl; delivered = refl; sending = refl; ties = refl })))

released_of : {T U : Type 0} (publisher : ℕ) (found : Option SubscriberPort) (number : ℕ) (given : Taken) (old new : ServicePorts T U)
    (answer : Bool) → subscribing.ReleasesOf found number given old answer new → Waits publisher old.publishers new.publishers
released_of publisher None number given old new answer releases
    = waits_same publisher old.publishers new.publishers (ap (λ ports. ports.publishers) releases.1)
released_of publisher (Some port) number given old new answer releases
    = released_at publisher number given (place_of given.slot (connection_in given.publisher given.index old.publishers)) old new answer
    releases

another : (publisher number : ℕ) → (publisher == number) ≡ false → publisher ≡ number → ⊥
another publisher number not same = let no : true ≡ false = sym (eq-eqb publisher number same) ∙ not in cc

calls_wait : {T U : Type 0} (overrides : ℕ → ℕ → Type 0) (may : DegradationInfo → DegradationAction → Type 0)
    (decide : BackpressureInfo → BackpressureDecision → Type 0) (one : PortCall T U) (old new : ServicePorts T U) (publisher : ℕ)
    → Happens overrides may decide one old new → IsSound old
    → goes_on_with publisher one ≡ false → Waits publisher old.publishers new.publishers
calls_wait overrides may decide (call.PublisherComes config user_header answer) old new publisher happens sound other
    = creates_publisher publisher overrides may config user_header (slots_needed config old) (publisher_place old) old new answer sound
    happens
calls_wait overrides may decide (call.SubscriberComes owner buffer_size answer) old new publisher happens sound other
    = creates_subscriber publisher may owner (buffer_of buffer_size old.sizes) (subscriber_place old) old new answer happens
calls_wait overrides may decide (call.Lends number values elements answer) old new publisher happens sound other =
    by_publisher publisher number (LoansOne values elements) (port_of number old.publishers) old new answer refl
    (λ port after answer loans same waits. loan_waits port.stands true values elements port after answer waits refl loans) happens
calls_wait overrides may decide (call.Writes number slot test change) old new publisher happens sound other =
    let are = ap (λ ports. ports.publishers) happens in
    rw are (waits_changed publisher number (λ port. changed_if (test port) slot change port) (port_of number old.publishers)
    old.publishers refl (λ port. changed_same (test port) slot change port))
calls_wait overrides may decide (call.GivesLoanUp number slot) old new publisher happens sound other =
    let are = ap (λ ports. ports.publishers) happens in
    rw are (settles publisher number old.publishers (changed number (given_up slot) old.publishers)
    (waits_changed publisher number (given_up slot) (port_of number old.publishers) old.publishers refl
    (λ port. dropped_same (writing.place_of slot port) port)))
calls_wait overrides may decide (call.PublisherUpdates number answer) old new publisher happens sound other =
    by_publisher publisher number (publishing.UpdatesOne may old.subscriber_list) (port_of number old.publishers) old new answer refl
    (λ port after answer updates same waits. update_waits (is_free port) may old.subscriber_list port after answer
    (unfree port.stands (is_blocked port) waits) updates) happens
calls_wait overrides may decide (call.Sends number slot answer) old new publisher happens sound other =
    by_publisher publisher number (publishing.SendsOne may decide old.subscriber_list slot) (port_of number old.publishers) old new
    answer refl
    (λ port after answer sends same waits. send_same (ready_loan slot port) may decide sends.0 old.subscriber_list.changes port after
    answer (unready (position (λ loan. loan.slot == slot) port.sender.uses.loans) port waits) sends.2) happens
calls_wait overrides may decide (call.Retries number elapsed answer) old new publisher happens sound other =
    by_publisher publisher number (publishing.RetriesOne decide elapsed) (port_of number old.publishers) old new answer refl
    (λ port after answer retries same waits. absurd (another publisher number other same)) happens
calls_wait overrides may decide (call.GivesSendUp number answer) old new publisher happens sound other =
    by_publisher publisher number publishing.GivesUpOne (port_of number old.publishers) old new answer refl
    (λ port after answer gives same waits. absurd (another publisher number other same)) happens
calls_wait overrides may decide (call.PublisherLeaves number answer) old new publisher happens sound other
    = leaves_at publisher number (port_of number old.publishers) old new answer refl happens
calls_wait overrides may decide (call.SubscriberUpdates number answer) old new publisher happens sound other =
    by_subscriber publisher number (subscribing.UpdatesOne may old.publisher_list) (subscriber_of number old.subscribers) old new answer
    (λ port after ports ports_after answer updates. updates_wait publisher port.stands may old.publisher_list port after ports
    ports_after answer updates) happens
calls_wait overrides may decide (call.AsksForSamples number answer) old new publisher happens sound other =
    by_subscriber publisher number (subscribing.HasSamplesOne may old.publisher_list) (subscriber_of number old.subscribers) old new
    answer (λ port after ports ports_after answer has. has_wait publisher port.stands may old.publisher_list port after ports
    ports_after answer has) happens
calls_wait overrides may decide (call.Receives number answer) old new publisher happens sound other =
    by_subscriber publisher number (subscribing.ReceivesOne may old.publisher_list) (subscriber_of number old.subscribers) old new
    answer (λ port after ports ports_after answer receives. receives_wait publisher port.stands may old.publisher_list port after
    ports ports_after answer receives) happens
calls_wait overrides may decide (call.Releases number given answer) old new publisher happens sound other
    = released_of publisher (subscribing.taker_of number given old.subscribers) number given old new answer happens
calls_wait overrides may decide (call.SubscriberLeaves number answer) old new publisher happens sound other
    = left_at publisher number (subscriber_of number old.subscribers) old new answer happens

pub send_waits : {T U : Type 0} (overrides : ℕ → ℕ → Type 0) (may : DegradationInfo → DegradationAction → Type 0)
    (decide : BackpressureInfo → BackpressureDecision → Type 0) → SendWaits T U overrides may decide
send_waits overrides may decide = record {
  waits = λ one old new publisher port happens sound there waits other. calls_wait overrides may decide one old new publisher happens
      sound other port there waits;
}
