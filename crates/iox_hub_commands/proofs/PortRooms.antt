-- Room for numbers goes on from command to command, and where it is there no loan and no sample lacks memory for its number.
use Rattle.std.proofs.Common.{arith, ◌≡◌, ◌≤◌, ◌<◌, ◌+◌, ◌∙◌, inl, inr, ◌⊎◌, ℕ, Bool, true, false, List, [], ◌∷◌, Option, None, Some, Result, Ok}
use Rattle.std.proofs.Common.{Err, refl, ap, sym, subst, length}
use Rattle.std.proofs.lemmas.List.Elements.{All-cons, All-nil}
use Rattle.std.proofs.lemmas.List.Sums.{sum_by-le-sum_by}
use Rattle.std.specs.Map.{values_of}
use Rattle.std.specs.Prelude.{min, ◌-◌, ◌^◌, IsSome, OnErr, OnOk}
use Rattle.std.specs.declared.alloc.AllocError.{AllocError}
use Rattle.iox_command.specs.Ports.{command_of}
use Rattle.iox_command.specs.declared.ports.port_command.PortCommand.{PortCommand}
use Rattle.iox_command.specs.declared.ports.port_command.PortCommand.TheVariants as port_command
use Rattle.iox_domain.specs.Roomy.{AreRoomy}
use Rattle.iox_domain.specs.Samples.{samples_left, samples_at_most}
use Rattle.iox_domain.proofs.Bounds.{few_left}
use Rattle.iox_domain.proofs.StayRoomy.{new_roomy, stay_roomy}
use Rattle.iox_hub_commands.specs.Arriving.{PublisherStep, SubscriberStep}
use Rattle.iox_command.specs.declared.command.Command.{Command}
use Rattle.iox_command.specs.declared.command.Command.TheVariants as command
use Rattle.iox_command.specs.declared.reply.Reply.{Reply}
use Rattle.iox_delivery.specs.declared.port_id.PortId.{PortId}
use Rattle.iox_delivery.specs.Domain.declared.domain_id.DomainId.{DomainId}
use Rattle.iox_delivery.specs.Domain.Calls.{PortCall}
use Rattle.iox_delivery.specs.Domain.Order.{Happen}
use Rattle.iox_delivery.specs.Domain.Ports.{no_ports}
use Rattle.iox_delivery.specs.Domain.declared.ports.making.PublisherConfig.{PublisherConfig}
use Rattle.iox_delivery.specs.Domain.declared.ports.making.SubscriberConfig.{SubscriberConfig}
use Rattle.iox_delivery.specs.Domain.declared.ports.service_ports.ServicePorts.{ServicePorts}
use Rattle.iox_delivery.specs.Domain.Sizes.{sizes}
use Rattle.iox_delivery.specs.DomainPorts.declared.attached.Taken.{Taken}
use Rattle.iox_command.specs.DomainValues.declared.degradation.DegradationAction.{DegradationAction}
use Rattle.iox_command.specs.DomainValues.declared.degradation.DegradationCause.{DegradationCause}
use Rattle.iox_command.specs.DomainValues.declared.degradation.DegradationInfo.{DegradationInfo}
use Rattle.iox_command.specs.DomainValues.declared.port_error.ReceiveError.{ReceiveError}
use Rattle.iox_command.specs.declared.port.PortNumber.{PortNumber}
use Rattle.iox_command.specs.declared.port.PortNumber.TheVariants as port_number
use Rattle.iox_hub_commands.specs.Calls.{AtPortIf, PublisherGoes, ready}
use Rattle.iox_hub_commands.specs.Following.{LeaveStep}
use Rattle.iox_hub_commands.specs.Replies.{done_reply}
use Rattle.iox_hub_commands.specs.Growing.{GrowsFirst}
use Rattle.iox_hub_commands.specs.Making.{NumbersPort, with_publisher, with_subscriber}
use Rattle.iox_hub_commands.specs.Numbering.{LendsNumbered, LendsWrittenNumbered, ReceivesNumbered, NumbersSample, removed_if}
use Rattle.iox_hub_commands.specs.Reading.{values_under}
use Rattle.iox_hub_commands.specs.Tables.{SameNumbers, IsFull, lender, port_under, without_publisher}
use Rattle.iox_hub_commands.specs.declared.ports.made.Made.{Made}
use Rattle.iox_hub_commands.specs.declared.ports.made.MadePublisher.{MadePublisher}
use Rattle.iox_hub_commands.specs.Messages.{SomeValues}
use Rattle.iox_hub_commands.specs.Receiving.{IsTold}
use Rattle.iox_hub_base.specs.AsHome.{hub_ports, with_hub_ports, with_hub_publisher, with_hub_subscriber, without_hub_publisher}
use Rattle.iox_hub_base.specs.AsHome.{without_hub_subscriber}
use Rattle.iox_hub_base.specs.declared.hub.Hub.{Hub}
use Rattle.iox_hub_base.specs.Room.{counted_at, loans_left_in, samples_left_in, samples_at_most_in}
use Rattle.iox_hub_base.specs.declared.presence.Presence.{Presence}
use Rattle.iox_hub_base.specs.declared.presence.Presence.TheVariants.{Here, Out}
use Rattle.iox_delivery.specs.Container.NumberTable.{NumberTable, value_at}
use Rattle.iox_hub_commands.specs.Grown.{AnySlots, AnyAction, AnyDecision, HasGrown, HaveGrown, GrowsOn}
use Rattle.iox_hub_commands.specs.PortRoom.{OfPorts, Pledges, IsPledged, most_samples, most_samples_of, HasLoanRoom}
use Rattle.iox_hub_commands.specs.PortRoom.{HasSampleRoom, HasRoom, KeepsRoom, CameUnread, FindsPort, LacksInRoom, PledgesStay, spare_closed}
use Rattle.iox_hub_commands.specs.Room.{OnlyRoomier}
use Rattle.iox_hub_commands.specs.CommandSteps.{IsReplied, Step, subscriber_may_degrade}
use Rattle.iox_hub_commands.specs.declared.numbered_hub.NumberedHub.{NumberedHub}
use Rattle.iox_hub_commands.specs.declared.room.Pledged.{Pledged}
use Rattle.iox_hub_commands.specs.Terms.{Terms}
use Rattle.iox_hub_commands.proofs.LoanMeasure.{loan_measure}
use Rattle.iox_hub_commands.proofs.LoansFreed.{publisher_frees}
use Rattle.iox_hub_commands.proofs.Measures.{IsFineAt, AreFine}
use Rattle.iox_hub_commands.proofs.PortsCount.{Balances, held_at, brought_at, leave_balances, publisher_balances, subscriber_balances}
use Rattle.iox_hub_commands.proofs.Rooms.{no_room_goes, lacking_is_full}
use Rattle.iox_hub_commands.proofs.SampleMeasure.{sample_measure}
use Rattle.iox_hub_commands.proofs.StepKeeps.{step_holds}

-- by no command of a port one comes
pub no_port : {T : Type 0} (Holds : Type 0) (asked : PortCommand T) → OfPorts Holds (command_of asked)
no_port Holds (port_command.Loan publisher length) = tt
no_port Holds (port_command.LoanUninit publisher length) = tt
no_port Holds (port_command.Set loan place value) = tt
no_port Holds (port_command.Fill loan values) = tt
no_port Holds (port_command.Drop loan) = tt
no_port Holds (port_command.Send loan) = tt
no_port Holds (port_command.Put publisher values) = tt
no_port Holds (port_command.Retry publisher nanoseconds) = tt
no_port Holds (port_command.GiveUp publisher) = tt
no_port Holds (port_command.Receive subscriber) = tt
no_port Holds (port_command.Read sample) = tt
no_port Holds (port_command.Sequence sample) = tt
no_port Holds (port_command.Release sample) = tt
no_port Holds (port_command.Update number) = tt
no_port Holds (port_command.Leave number) = tt
no_port Holds (port_command.Has subscriber) = tt

-- what follows of ports that come
of_ports : {T : Type 0} {P Q : Type 0} (asked : Command T) → (P → Q) → OfPorts P asked → OfPorts Q asked
of_ports command.Node follows holds = tt
of_ports (command.Create node name options attributes steps) follows holds = tt
of_ports (command.Open node name options requirements steps) follows holds = tt
of_ports (command.OpenOrCreate node name options requirements steps) follows holds = tt
of_ports (command.Foreign pattern name steps) follows holds = tt
of_ports (command.Close factory) follows holds = tt
of_ports (command.Publisher factory options) follows holds = follows holds
of_ports (command.Subscriber factory options) follows holds = follows holds
of_ports (command.Loan publisher elements) follows holds = tt
of_ports (command.LoanUninit publisher elements) follows holds = tt
of_ports (command.Set loan place value) follows holds = tt
of_ports (command.Fill loan values) follows holds = tt
of_ports (command.Drop loan) follows holds = tt
of_ports (command.Send loan) follows holds = tt
of_ports (command.Put publisher values) follows holds = tt
of_ports (command.Retry publisher nanoseconds) follows holds = tt
of_ports (command.GiveUp publisher) follows holds = tt
of_ports (command.Receive subscriber) follows holds = tt
of_ports (command.Read sample) follows holds = tt
of_ports (command.Sequence sample) follows holds = tt
of_ports (command.Release sample) follows holds = tt
of_ports (command.Update number) follows holds = tt
of_ports (command.Leave number) follows holds = tt
of_ports (command.Has subscriber) follows holds = tt

-- what holds of ports that come; or all is pledged that was; or a port is closed
by_pledges : {T U B D : Type 0} {P : Type 0} (asked : Command T) (old new : NumberedHub T U B D) (answer : Result (Reply T) AllocError)
    → OfPorts P asked → PledgesStay asked old answer new
    → P ⊎ ((new.pledged ≡ old.pledged) ⊎ ((number : PortNumber) × (asked ≡ command.Leave number)
    × (new.pledged ≡ record old.pledged { loans = old.pledged.loans - spare_closed number answer old })))
by_pledges command.Node old new answer comes stay = inr (inl stay)
by_pledges (command.Create node name options attributes steps) old new answer comes stay = inr (inl stay)
by_pledges (command.Open node name options requirements steps) old new answer comes stay = inr (inl stay)
by_pledges (command.OpenOrCreate node name options requirements steps) old new answer comes stay = inr (inl stay)
by_pledges (command.Foreign pattern name steps) old new answer comes stay = inr (inl stay)
by_pledges (command.Close factory) old new answer comes stay = inr (inl stay)
by_pledges (command.Publisher factory options) old new answer comes stay = inl comes
by_pledges (command.Subscriber factory options) old new answer comes stay = inl comes
by_pledges (command.Loan publisher elements) old new answer comes stay = inr (inl stay)
by_pledges (command.LoanUninit publisher elements) old new answer comes stay = inr (inl stay)
by_pledges (command.Set loan place value) old new answer comes stay = inr (inl stay)
by_pledges (command.Fill loan values) old new answer comes stay = inr (inl stay)
by_pledges (command.Drop loan) old new answer comes stay = inr (inl stay)
by_pledges (command.Send loan) old new answer comes stay = inr (inl stay)
by_pledges (command.Put publisher values) old new answer comes stay = inr (inl stay)
by_pledges (command.Retry publisher nanoseconds) old new answer comes stay = inr (inl stay)
by_pledges (command.GiveUp publisher) old new answer comes stay = inr (inl stay)
by_pledges (command.Receive subscriber) old new answer comes stay = inr (inl stay)
by_pledges (command.Read sample) old new answer comes stay = inr (inl stay)
by_pledges (command.Sequence sample) old new answer comes stay = inr (inl stay)
by_pledges (command.Release sample) old new answer comes stay = inr (inl stay)
by_pledges (command.Update number) old new answer comes stay = inr (inl stay)
by_pledges (command.Leave number) old new answer comes stay = inr (inr (number, refl, stay))
by_pledges (command.Has subscriber) old new answer comes stay = inr (inl stay)

-- a list with no more than none is empty
pub empty : {X : Type 0} (xs : List X) → length xs ≤ 0 → xs ≡ []
empty [] few = refl
empty (x ∷ xs) few = absurd (omega (arith, few))

-- a port that comes leaves the tables of loans and of samples as they are, and a subscriber that of publishers
publisher_tables : {E : Type 0} (domain : DomainId) (holds_slices : Bool) (next : ℕ) (came answer : Option (Result ℕ E))
    (made after : Made) → NumbersPort (with_publisher domain holds_slices) next came made answer after
    → (after.loans ≡ made.loans) × (after.samples ≡ made.samples)
publisher_tables domain holds_slices next None answer made after numbers = rw numbers.1 (refl, refl)
publisher_tables domain holds_slices next (Some (Err error)) answer made after numbers = rw numbers.1 (refl, refl)
publisher_tables domain holds_slices next (Some (Ok number)) answer made after numbers = rw numbers.1 (refl, refl)

subscriber_tables : {E : Type 0} (domain : DomainId) (next : ℕ) (came answer : Option (Result ℕ E)) (made after : Made)
    → NumbersPort (with_subscriber domain) next came made answer after
    → (after.loans ≡ made.loans) × (after.samples ≡ made.samples) × (after.publishers ≡ made.publishers)
subscriber_tables domain next None answer made after numbers = rw numbers.1 (refl, refl, refl)
subscriber_tables domain next (Some (Err error)) answer made after numbers = rw numbers.1 (refl, refl, refl)
subscriber_tables domain next (Some (Ok number)) answer made after numbers = rw numbers.1 (refl, refl, refl)

none_held : {T U : Type 0} (found : Option (ServicePorts T U)) → held_at loan_measure found ≡ 0
none_held None = refl
none_held (Some ports) = refl

held_is : {T U : Type 0} (found : Option (ServicePorts T U)) → held_at sample_measure found ≡ most_samples found
held_is None = refl
held_is (Some ports) = refl

few_loans : {T U : Type 0} (config : PublisherConfig) (found : Option (ServicePorts T U))
    → brought_at loan_measure config found ≤ config.max_loaned_samples
few_loans config None = omega arith
few_loans config (Some ports) = omega arith

brought_is : {T U : Type 0} (config : PublisherConfig) (found : Option (ServicePorts T U))
    → brought_at sample_measure config found ≡ most_samples_of found
brought_is config None = refl
brought_is config (Some ports) = refl

-- where no more ports are there, no more stands in a table and may come to it, and no more is pledged, there is room still
room_kept : {V W : Type 0} (ports ports_after : NumberTable V) (table table_after : NumberTable W)
    (left left_after pledged pledged_after : ℕ) → length ports_after.entries ≤ length ports.entries → table.room ≤ table_after.room
    → length table_after.entries + left_after ≤ length table.entries + left → pledged_after ≡ pledged
    → IsPledged ports left pledged table → IsPledged ports_after left_after pledged_after table_after
room_kept ports ports_after table table_after left left_after pledged pledged_after stay roomier few same (enough, inl none) =
    (omega (arith, few, same, enough), inl (empty ports_after.entries (let nothing = ap length none in omega (arith, stay, nothing))))
room_kept ports ports_after table table_after left left_after pledged pledged_after stay roomier few same (enough, inr fits) =
    (omega (arith, few, same, enough), inr (omega (arith, fits, same, roomier)))

-- and where as many fewer are pledged as may no longer come to it
room_left : {V W : Type 0} (ports ports_after : NumberTable V) (table table_after : NumberTable W)
    (left left_after pledged pledged_after spare : ℕ) → length ports_after.entries ≤ length ports.entries → table.room ≤ table_after.room
    → length table_after.entries + left_after + spare ≤ length table.entries + left → pledged_after ≡ pledged - spare
    → IsPledged ports left pledged table → IsPledged ports_after left_after pledged_after table_after
room_left ports ports_after table table_after left left_after pledged pledged_after spare stay roomier few same (enough, inl none) =
    (omega (arith, few, same, enough), inl (empty ports_after.entries (let nothing = ap length none in omega (arith, stay, nothing))))
room_left ports ports_after table table_after left left_after pledged pledged_after spare stay roomier few same (enough, inr fits) =
    (omega (arith, few, same, enough), inr (omega (arith, fits, same, roomier)))

-- where something stands in a table there is room in the other, so that isn't full
not_full : {V W : Type 0} (ports : NumberTable V) (left pledged : ℕ) (table : NumberTable W) → IsPledged ports left pledged table
    → IsFull table → ports.entries ≡ []
not_full ports left pledged table (enough, inl none) full = none
not_full ports left pledged table (enough, inr fits) full = absurd (omega (arith, enough, fits, full))

-- nothing is found in a table where nothing stands
none_found : {V : Type 0} (table : NumberTable V) (number : ℕ) → table.entries ≡ [] → IsSome (value_at table number) → ⊥
none_found table number none found = cc (rw none at found)

-- a publisher that may lend is there
lender_found : (elements : ℕ) (made : Option MadePublisher) → IsSome (lender elements made) → IsSome made
lender_found elements None found = found
lender_found elements (Some made) found = refl

ready_found : {T U H : Type 0} (ports_of : DomainId → H → Option (ServicePorts T U)) (port : Option PortId) (home : H)
    → IsSome (ready ports_of port home) → IsSome port
ready_found ports_of None home found = found
ready_found ports_of (Some port) home found = refl

-- a sample that came has the next number
numbered_next : (port : Option PortId) (got : Option (Result (Option Taken) ReceiveError)) (made after : Made) (sample : ℕ)
    → NumbersSample port got made (Some (Ok (Some sample))) after → (sample ≡ made.samples.next)
    × (after.samples.next ≡ made.samples.next + 1)
numbered_next port None made after sample numbers = cc numbers.0
numbered_next port (Some (Err error)) made after sample numbers = cc numbers.0
numbered_next port (Some (Ok None)) made after sample numbers = cc numbers.0
numbered_next None (Some (Ok (Some taken))) made after sample numbers = absurd numbers
numbered_next (Some port) (Some (Ok (Some taken))) made after sample numbers = let is = numbers.0 in let same : sample
    ≡ made.samples.next = cc in (same, rw numbers.1 refl)

-- n more are pledged where there is room
pub more_pledges : {V : Type 0} (table : NumberTable V) (left more pledged all : ℕ) → all ≡ pledged + more → all < table.room
    → length table.entries + left ≤ pledged → Pledges (left + more) all table
more_pledges table left more pledged all is fits enough = (omega (arith, is, enough), omega (arith, fits))

-- what is pledged anew of as many as may be held at once is enough for those that may come
pub anew_pledges : {V : Type 0} (table : NumberTable V) (left all most more pledged : ℕ) → left ≤ all → most ≡ min all (2 ^ 64 - 1)
    → Pledges (most + more) pledged table → most + more + 1 < 2 ^ 64 → Pledges (left + more) pledged table
anew_pledges table left all most more pledged few is (enough, fits) small = (omega (arith, few, is, enough, small), fits)

-- what is pledged of a table is pledged still where that has only more room
pub pledges_still : {V : Type 0} (more pledged pledged_after : ℕ) (table roomier : NumberTable V) → SameNumbers table roomier
    → pledged_after ≡ pledged → Pledges more pledged table → Pledges more pledged_after roomier
pledges_still more pledged pledged_after table roomier (same, next, room) is (enough, fits) = let even
    = ap length same in (omega (arith, even, is, enough), omega (arith, is, fits, room))

-- what a publisher brings is pledged where that is less than 2^64 - 1
pub pledges_brought : {A E V : Type 0} (result : Result A E) (left left_mid most brings pledged : ℕ) (table : NumberTable V)
    → left_mid ≡ left → most ≡ min brings (2 ^ 64 - 1) → OnOk result (Pledges (left_mid + most) pledged table)
    → OnOk result (most + 1 < 2 ^ 64) → OnOk result (Pledges (left + brings) pledged table)
pledges_brought (Ok value) left left_mid most brings pledged table same is (enough, fits) small
    = (omega (arith, same, is, enough, small), fits)
pledges_brought (Err error) left left_mid most brings pledged table same is pledges small = tt

-- what holds holds where a call goes well
pub where_it_works : {A E : Type 0} {P : Type 0} (result : Result A E) → P → OnOk result P
where_it_works (Ok value) holds = holds
where_it_works (Err error) holds = tt

module _ {T U : Type 0} where
  -- calls leave the ports of a service roomy
  roomy_on : (calls : List (PortCall T U × ServicePorts T U)) (old new : ServicePorts T U)
      → Happen AnySlots AnyAction AnyDecision calls old new → AreRoomy old → AreRoomy new
  roomy_on [] old new is roomy = subst (λ ports. AreRoomy ports) (sym is) roomy
  roomy_on ((call, mid) ∷ calls) old new (happens, rest) roomy
      = roomy_on calls mid new rest (stay_roomy AnySlots AnyAction AnyDecision call old mid happens roomy)

module _ {T U B D : Type 0} where
  fine_any : (presence : Presence T U B D) → IsFineAt loan_measure presence
  fine_any (Here domain) = tt
  fine_any (Out agreed) = tt

  all_fine : (domains : List (ℕ × Presence T U B D)) → AreFine loan_measure domains
  all_fine domains = λ k d within. fine_any _

  fine_grown : (number : ℕ) (presence : Presence T U B D) → HasGrown number presence → IsFineAt sample_measure presence
  fine_grown number (Here domain) (buffer, (calls, happen))
      = roomy_on calls (no_ports number (sizes buffer domain.agreed)) domain.state.ports happen
      (new_roomy AnySlots AnyAction AnyDecision number (sizes buffer domain.agreed))
  fine_grown number (Out agreed) grown = tt

  -- domains that grew by calls of ports are roomy
  roomy_grown : (domains : List (ℕ × Presence T U B D)) → HaveGrown domains → AreFine sample_measure domains
  roomy_grown [] grown = All-nil (λ presence. IsFineAt sample_measure presence)
  roomy_grown (service ∷ services) (first, rest)
      = All-cons (λ presence. IsFineAt sample_measure presence) service.1 (values_of services) (fine_grown service.0 service.1 first)
      (roomy_grown services rest)

  few_at : (presence : Presence T U B D)
      → counted_at (λ ports. samples_left ports) presence ≤ counted_at (λ ports. samples_at_most ports) presence
  few_at (Here domain) = few_left domain.state.ports
  few_at (Out agreed) = omega arith

  -- no more samples may still come than may be held at once
  pub few_samples : (domains : List (ℕ × Presence T U B D)) → samples_left_in domains ≤ samples_at_most_in domains
  few_samples domains = sum_by-le-sum_by (λ presence. counted_at (λ ports. samples_left ports) presence)
      (λ presence. counted_at (λ ports. samples_at_most ports) presence) (values_of domains) few_at

  -- the loans that are out, and those that may still be made, are together no more than they were and are brought
  loans_over : (brings : ℕ) (made after : Made) (old new : Hub T U B D) → Balances loan_measure brings made old after new
      → length after.loans.entries + loans_left_in new.services.domains
      ≤ length made.loans.entries + loans_left_in old.services.domains + brings
  loans_over brings made after old new balances = let (fine, few) = balances (all_fine old.services.domains) in omega (arith, few)

  -- and so are the samples that are held, and those that may still come
  samples_over : (brings : ℕ) (made after : Made) (old new : Hub T U B D) → HaveGrown old.services.domains
      → Balances sample_measure brings made old after new
      → length after.samples.entries + samples_left_in new.services.domains
      ≤ length made.samples.entries + samples_left_in old.services.domains + brings
  samples_over brings made after old new grown balances = let (fine, few)
      = balances (roomy_grown old.services.domains grown) in omega (arith, few)

  loans_kept : (old new : NumberedHub T U B D) → old.made.loans.room ≤ new.made.loans.room
      → length new.made.publishers.entries ≤ length old.made.publishers.entries → new.pledged ≡ old.pledged
      → Balances loan_measure 0 old.made old.hub new.made new.hub → HasLoanRoom old → HasLoanRoom new
  loans_kept old new roomier stay same balances =
      let few = loans_over 0 old.made new.made old.hub new.hub balances in
      room_kept old.made.publishers new.made.publishers old.made.loans new.made.loans (loans_left_in old.hub.services.domains)
      (loans_left_in new.hub.services.domains) old.pledged.loans new.pledged.loans stay roomier (omega (arith, few))
      (ap (λ (all : Pledged). all.loans) same)

  -- a port that is closed leaves fewer loans that may still be made, by those that it could have made
  freed_done : (number : ℕ) (done : Bool) (old new : NumberedHub T U B D) (reply : Reply T)
      → AtPortIf (PublisherGoes hub_ports with_hub_ports without_hub_publisher) (port_under (value_at old.made.publishers number)) old.hub
      done new.hub
      → new.made ≡ removed_if done (without_publisher number) old.made → reply ≡ done_reply done
      → length new.made.loans.entries + loans_left_in new.hub.services.domains
      + spare_closed (port_number.Publisher number) (Ok reply) old
      ≤ length old.made.loans.entries + loans_left_in old.hub.services.domains
  freed_done number true old new reply at is_made is =
      let same = ap (λ made. length made.loans.entries) is_made in
      let (fine, few) = publisher_frees (port_under (value_at old.made.publishers number)) old new at
      (all_fine old.hub.services.domains) in
      rw is (omega (arith, same, few))
  freed_done number false old new reply at is_made is =
      let few = loans_over 0 old.made new.made old.hub new.hub
      (leave_balances loan_measure (port_number.Publisher number) old.made new.made old.hub new.hub reply (false, at, is_made, is)) in
      rw is (omega (arith, few))

  freed_never : (number : ℕ) (done : Bool) (old : NumberedHub T U B D)
      → spare_closed (port_number.Subscriber number) (Ok (done_reply done)) old ≡ 0
  freed_never number true old = refl
  freed_never number false old = refl

  freed_by : (number : PortNumber) (old new : NumberedHub T U B D) (reply : Reply T)
      → LeaveStep hub_ports with_hub_ports without_hub_publisher without_hub_subscriber number old.made old.hub reply new.made new.hub
      → length new.made.loans.entries + loans_left_in new.hub.services.domains + spare_closed number (Ok reply) old
      ≤ length old.made.loans.entries + loans_left_in old.hub.services.domains
  freed_by (port_number.Publisher number) old new reply (done, at, is_made, is) = freed_done number done old new reply at is_made is
  freed_by (port_number.Subscriber number) old new reply (done, at, is_made, is) =
      let few = loans_over 0 old.made new.made old.hub new.hub
      (leave_balances loan_measure (port_number.Subscriber number) old.made new.made old.hub new.hub reply (done, at, is_made, is)) in
      let none = freed_never number done old in
      rw is (omega (arith, few, none))

  loans_freed : (number : PortNumber) (old new : NumberedHub T U B D) (answer : Result (Reply T) AllocError)
      → IsReplied (λ reply. LeaveStep hub_ports with_hub_ports without_hub_publisher without_hub_subscriber number old.made old.hub reply
      new.made new.hub × (new.factories ≡ old.factories)) answer
      → length new.made.loans.entries + loans_left_in new.hub.services.domains + spare_closed number answer old
      ≤ length old.made.loans.entries + loans_left_in old.hub.services.domains
  loans_freed number old new (Ok reply) leaves = freed_by number old new reply leaves.0
  loans_freed number old new (Err lacking) leaves = absurd leaves

  samples_kept : (old new : NumberedHub T U B D) → old.made.samples.room ≤ new.made.samples.room
      → length new.made.subscribers.entries ≤ length old.made.subscribers.entries → new.pledged.samples ≡ old.pledged.samples
      → Balances sample_measure 0 old.made old.hub new.made new.hub → HaveGrown old.hub.services.domains → HasSampleRoom old
      → HasSampleRoom new
  samples_kept old new roomier stay same balances grown =
      let few = samples_over 0 old.made new.made old.hub new.hub grown balances in
      room_kept old.made.subscribers new.made.subscribers old.made.samples new.made.samples (samples_left_in old.hub.services.domains)
      (samples_left_in new.hub.services.domains) old.pledged.samples new.pledged.samples stay roomier (omega (arith, few)) same

  -- where as many are pledged, more room is room still
  pub roomier_loans : (old new : NumberedHub T U B D) → OnlyRoomier old new → new.pledged.loans ≡ old.pledged.loans → HasLoanRoom old
      → HasLoanRoom new
  roomier_loans old new (((publishers, p_next, p_room), subscribers, (loans, l_next, l_room), samples), is) same =
      let out = ap length loans in
      let stay = ap length publishers in
      let left = ap (λ hub. loans_left_in hub.hub.services.domains) is in
      room_kept old.made.publishers new.made.publishers old.made.loans new.made.loans (loans_left_in old.hub.services.domains)
      (loans_left_in new.hub.services.domains) old.pledged.loans new.pledged.loans (omega (arith, stay)) (omega (arith, l_room))
      (omega (arith, out, left)) same

  pub roomier_samples : (old new : NumberedHub T U B D) → OnlyRoomier old new → new.pledged.samples ≡ old.pledged.samples
      → HasSampleRoom old → HasSampleRoom new
  roomier_samples old new ((publishers, (subscribers, s_next, s_room), loans, (samples, m_next, m_room)), is) same =
      let held = ap length samples in
      let remain = ap length subscribers in
      let come = ap (λ hub. samples_left_in hub.hub.services.domains) is in
      room_kept old.made.subscribers new.made.subscribers old.made.samples new.made.samples (samples_left_in old.hub.services.domains)
      (samples_left_in new.hub.services.domains) old.pledged.samples new.pledged.samples (omega (arith, remain))
      (omega (arith, m_room)) (omega (arith, held, come)) same

  -- where numbers of loans were pledged, or that failed, there is room still
  pub loans_pledged : {A E : Type 0} (result : Result A E) (more : ℕ) (old new : NumberedHub T U B D) → OnlyRoomier old new
      → (HasLoanRoom old → OnOk result (Pledges (loans_left_in old.hub.services.domains + more) new.pledged.loans new.made.loans))
      → OnErr result (new.pledged ≡ old.pledged) → new.pledged.samples ≡ old.pledged.samples → KeepsRoom old new
  loans_pledged (Ok value) more old new only pledges stays same =
      let left = ap (λ hub. loans_left_in hub.hub.services.domains) only.1 in (
        λ room. let (enough, fits) = pledges room in (omega (arith, enough, left), inr fits),
        λ grown. roomier_samples old new only same,
      )
  loans_pledged (Err error) more old new only pledges stays same
      = (roomier_loans old new only (ap (λ (all : Pledged). all.loans) stays), λ grown. roomier_samples old new only same)

  -- and where those of samples were
  pub samples_pledged : {A E : Type 0} (result : Result A E) (more : ℕ) (old new : NumberedHub T U B D) → OnlyRoomier old new
      → (HasSampleRoom old → OnOk result (Pledges (samples_left_in old.hub.services.domains + more) new.pledged.samples new.made.samples))
      → OnErr result (new.pledged ≡ old.pledged) → new.pledged.loans ≡ old.pledged.loans → KeepsRoom old new
  samples_pledged (Ok value) more old new only pledges stays same =
      let come = ap (λ hub. samples_left_in hub.hub.services.domains) only.1 in (
        roomier_loans old new only same,
        λ grown room. let (enough, fits) = pledges room in (omega (arith, enough, come), inr fits),
      )
  samples_pledged (Err error) more old new only pledges stays same
      = (roomier_loans old new only same, λ grown. roomier_samples old new only (ap (λ (all : Pledged). all.samples) stays))

  -- one after the other
  pub keeps_on : (old mid new : NumberedHub T U B D) → GrowsOn old.hub mid.hub → KeepsRoom old mid → KeepsRoom mid new → KeepsRoom old new
  keeps_on old mid new grows (loans, samples) (more_loans, more_samples)
      = (λ room. more_loans (loans room), λ grown room. more_samples (grows grown) (samples grown room))

  pub keeps_nowhere : (hub : NumberedHub T U B D) → KeepsRoom hub hub
  keeps_nowhere hub = (λ room. room, λ grown room. room)

  -- only more room leaves domains as they grew
  pub roomier_grows_on : (old new : NumberedHub T U B D) → OnlyRoomier old new → GrowsOn old.hub new.hub
  roomier_grows_on old new (tables, is) = subst (λ hub. GrowsOn old.hub hub) (sym (ap (λ hub. hub.hub) is)) (λ grown. grown)

  -- a publisher comes, for whose loans, and for the samples of which, numbers were pledged
  pub publisher_room : (degrades : B → DegradationCause → DegradationInfo → DegradationAction → Type 0) (is_default : U → Type 0)
      (domain : DomainId) (config : PublisherConfig) (slots : Option ℕ) (handlers : B) (old mid new : NumberedHub T U B D)
      (answer : Reply T)
      → OnlyRoomier old mid → (HasLoanRoom old
      → Pledges (loans_left_in old.hub.services.domains + config.max_loaned_samples) mid.pledged.loans mid.made.loans)
      → (HasSampleRoom old → Pledges (samples_left_in old.hub.services.domains + most_samples_of (hub_ports domain old.hub))
      mid.pledged.samples mid.made.samples) → new.pledged ≡ mid.pledged
      → PublisherStep hub_ports with_hub_ports with_hub_publisher degrades is_default domain config slots handlers mid.made mid.hub
      answer new.made new.hub → KeepsRoom old new
  publisher_room degrades is_default domain config slots handlers old mid new answer only loans_pledge samples_pledge same comes =
      let few = loans_over (brought_at loan_measure config (hub_ports domain mid.hub)) mid.made new.made mid.hub new.hub
      (publisher_balances loan_measure degrades is_default domain config slots handlers mid.made new.made mid.hub new.hub answer
      comes) in
      let within = few_loans config (hub_ports domain mid.hub) in
      let arrives = publisher_balances sample_measure degrades is_default domain config slots handlers mid.made new.made mid.hub new.hub
      answer comes in
      let (tables, is) = only in
      let left = ap (λ hub. loans_left_in hub.hub.services.domains) is in
      let come = ap (λ hub. samples_left_in hub.hub.services.domains) is in
      let held = ap (λ hub. brought_at sample_measure config (hub_ports domain hub.hub)) is ∙ brought_is config
      (hub_ports domain old.hub) in
      let (user_header, is_header, came, (roomier, is_roomier, (outcome, makes, numbers)), is_answer) = comes in
      let (loans, samples) = publisher_tables domain true mid.made.publishers.next outcome came roomier new.made numbers in
      let even = ap (λ table. table.room) loans in
      let steady = ap (λ table. table.room) samples in
      let more = is_roomier.2.2 in
      let more_samples = is_roomier.3.2 in
      let of_loans = ap (λ (all : Pledged). all.loans) same in
      let of_samples = ap (λ (all : Pledged). all.samples) same in (
        λ room. let (enough, fits) = loans_pledge room in
            (omega (arith, enough, few, within, left, of_loans), inr (omega (arith, fits, even, more, of_loans))),
        λ grown room.
            let (enough, fits) = samples_pledge room in
            let many = samples_over (brought_at sample_measure config (hub_ports domain mid.hub)) mid.made new.made mid.hub new.hub
            (roomier_grows_on old mid only grown) arrives in
            (omega (arith, enough, many, come, held, of_samples), inr (omega (arith, fits, steady, more_samples, of_samples))),
      )

  -- a subscriber comes, for whose samples numbers were pledged
  pub subscriber_room : (degrades : D → DegradationCause → DegradationInfo → DegradationAction → Type 0) (domain : DomainId)
      (config : SubscriberConfig) (handler : D) (old mid new : NumberedHub T U B D) (answer : Reply T)
      → OnlyRoomier old mid → mid.pledged.loans ≡ old.pledged.loans
      → (HasSampleRoom old → Pledges (samples_left_in old.hub.services.domains + most_samples (hub_ports domain old.hub))
      mid.pledged.samples mid.made.samples) → new.pledged ≡ mid.pledged
      → SubscriberStep hub_ports with_hub_ports with_hub_subscriber degrades domain config handler mid.made mid.hub answer new.made
      new.hub → KeepsRoom old new
  subscriber_room degrades domain config handler old mid new answer only stays samples_pledge same comes =
      let balances = subscriber_balances loan_measure degrades domain config handler mid.made new.made mid.hub new.hub answer comes in
      let nothing = none_held (hub_ports domain mid.hub) in
      let arrives = subscriber_balances sample_measure degrades domain config handler mid.made new.made mid.hub new.hub answer comes in
      let (tables, is) = only in
      let left = ap (λ hub. samples_left_in hub.hub.services.domains) is in
      let held = ap (λ hub. held_at sample_measure (hub_ports domain hub.hub)) is ∙ held_is (hub_ports domain old.hub) in
      let (came, (roomier, is_roomier, (outcome, makes, numbers)), is_answer) = comes in
      let (loans, samples, publishers) = subscriber_tables domain mid.made.subscribers.next outcome came roomier new.made numbers in
      let even = ap (λ table. table.room) loans in
      let steady = ap (λ table. table.room) samples in
      let stay = ap (λ table. length table.entries) publishers in
      let remain = ap length is_roomier.0.0 in
      let more = is_roomier.2.2 in
      let more_samples = is_roomier.3.2 in
      let of_samples = ap (λ (all : Pledged). all.samples) same in (
        λ room. loans_kept mid new (omega (arith, even, more)) (omega (arith, stay, remain)) same (rw nothing at balances)
            (roomier_loans old mid only stays room),
        λ grown room.
            let (enough, fits) = samples_pledge room in
            let few = samples_over (held_at sample_measure (hub_ports domain mid.hub)) mid.made new.made mid.hub new.hub
            (roomier_grows_on old mid only grown) arrives in
            (omega (arith, enough, few, left, held, of_samples), inr (omega (arith, fits, steady, more_samples, of_samples))),
      )

  module _ (terms : Terms T U B D)
      (asked : Command T) (old new : NumberedHub T U B D) (answer : Result (Reply T) AllocError) where
    samples_stay : Step terms asked old answer new → OfPorts (KeepsRoom old new) asked → new.pledged.samples ≡ old.pledged.samples
        → HaveGrown old.hub.services.domains → HasSampleRoom old → HasSampleRoom new
    samples_stay step of same =
        let (loan_room, sample_room) = no_room_goes terms asked old new answer step in
        step_holds sample_measure terms old new (HaveGrown old.hub.services.domains → HasSampleRoom old → HasSampleRoom new)
        (λ keeps. let (stay, balances) = keeps in samples_kept old new sample_room stay.1 same balances) asked answer step
        (of_ports asked (λ keeps. keeps.1) of)

    -- each command leaves the room, if those do by which ports come, and no other pledges
    pub step_room : Step terms asked old answer new → OfPorts (KeepsRoom old new) asked → PledgesStay asked old answer new
        → KeepsRoom old new
    step_room step of pledges =
        let (loan_room, sample_room) = no_room_goes terms asked old new answer step in
        elim (by_pledges asked old new answer of pledges) [
          | inl keeps ↦ keeps
          | inr (inl same) ↦ (
            step_holds loan_measure terms old new (HasLoanRoom old → HasLoanRoom new)
                (λ keeps. let (stay, balances) = keeps in loans_kept old new loan_room stay.0 same balances) asked answer step
                (of_ports asked (λ keeps. keeps.0) of),
            samples_stay step of (ap (λ (all : Pledged). all.samples) same),
          )
          | inr (inr (number, is, same)) ↦
              let few = loans_freed number old new answer (subst (λ one. Step terms one old answer new) is step) in
              let fewer = ap (λ (all : Pledged). all.loans) same in (
                step_holds loan_measure terms old new (HasLoanRoom old → HasLoanRoom new)
                    (λ keeps. room_left old.made.publishers new.made.publishers old.made.loans new.made.loans
                    (loans_left_in old.hub.services.domains) (loans_left_in new.hub.services.domains) old.pledged.loans
                    new.pledged.loans (spare_closed number answer old) keeps.0.0 loan_room few fewer) asked answer step
                    (of_ports asked (λ keeps. keeps.0) of),
                samples_stay step of (ap (λ (all : Pledged). all.samples) same),
              )
        ]

  module _ (terms : Terms T U B D) where
    received_in_room : (subscriber : ℕ) (old new : NumberedHub T U B D) (lacking : AllocError)
        (received : Result (Option (Result (Option ℕ) ReceiveError)) AllocError)
        → GrowsFirst (IsFull old.made.samples)
        (ReceivesNumbered hub_ports with_hub_ports (subscriber_may_degrade terms.reader_degrades)
        (value_at old.made.subscribers subscriber)) old.made old.hub received new.made new.hub
        → IsTold {T = T} (λ sample. values_under hub_ports (value_at new.made.samples sample) new.hub) received (Err lacking)
        → IsSome (value_at old.made.subscribers subscriber) → HasSampleRoom old → CameUnread old new
    received_in_room subscriber old new lacking (Err wanting) (full, same, here) told finds room
        = absurd (none_found old.made.subscribers subscriber (not_full old.made.subscribers _ _ old.made.samples room full) finds)
    received_in_room subscriber old new lacking (Ok None) grows told finds room = absurd told
    received_in_room subscriber old new lacking (Ok (Some (Err error))) grows told finds room = absurd told
    received_in_room subscriber old new lacking (Ok (Some (Ok None))) grows told finds room = absurd told
    received_in_room subscriber old new lacking (Ok (Some (Ok (Some sample)))) (roomier, is_roomier, (outcome, at, numbers)) told finds
        room =
        let (named, next) = numbered_next (value_at old.made.subscribers subscriber) outcome roomier new.made sample numbers in
        let same = is_roomier.3.1 in (
          next ∙ ap (λ n. n + 1) same,
          subst (λ number. SomeValues (values_under hub_ports (value_at new.made.samples number) new.hub))
              (named ∙ same) told,
        )

    -- where there is room a command that isn't replied to lacked memory for values
    lacks : (asked : Command T) (old new : NumberedHub T U B D) (lacking : AllocError)
        → Step terms asked old (Err lacking) new → FindsPort asked old → HasRoom old → LacksInRoom asked old new
    lacks command.Node old new lacking step finds room = absurd step
    lacks (command.Create node name options attributes steps) old new lacking step finds room = absurd step
    lacks (command.Open node name options requirements steps) old new lacking step finds room = absurd step
    lacks (command.OpenOrCreate node name options requirements steps) old new lacking step finds room = absurd step
    lacks (command.Foreign pattern name steps) old new lacking step finds room = absurd step
    lacks (command.Close factory) old new lacking step finds room = absurd step
    lacks (command.Publisher factory options) old new lacking step finds room = absurd step
    lacks (command.Subscriber factory options) old new lacking step finds room = absurd step
    lacks (command.Loan publisher elements) old new lacking ((value, is_value, lent, grows, is_answer), same) finds room =
        let port = ready hub_ports (lender elements (value_at old.made.publishers publisher)) old.hub in
        let none = not_full old.made.publishers _ _ old.made.loans room.0
        (lacking_is_full {T = T} (IsFull old.made.loans) (LendsWrittenNumbered hub_ports with_hub_ports elements value port)
        old.made new.made old.hub new.hub lacking lent is_answer grows) in
        absurd (none_found old.made.publishers publisher none
        (lender_found elements (value_at old.made.publishers publisher)
        (ready_found hub_ports (lender elements (value_at old.made.publishers publisher)) old.hub finds)))
    lacks (command.LoanUninit publisher elements) old new lacking ((lent, grows, is_answer), same) finds room =
        let port = lender elements (value_at old.made.publishers publisher) in
        let none = not_full old.made.publishers _ _ old.made.loans room.0
        (lacking_is_full {T = T} (IsFull old.made.loans) (LendsNumbered hub_ports with_hub_ports elements port) old.made new.made
        old.hub new.hub lacking lent is_answer grows) in
        absurd (none_found old.made.publishers publisher none (lender_found elements (value_at old.made.publishers publisher) finds))
    lacks (command.Set loan place value) old new lacking step finds room = absurd step
    lacks (command.Fill loan values) old new lacking step finds room = absurd step
    lacks (command.Drop loan) old new lacking step finds room = absurd step
    lacks (command.Send loan) old new lacking step finds room = absurd step
    lacks (command.Put publisher values) old new lacking step finds room = absurd step
    lacks (command.Retry publisher nanoseconds) old new lacking step finds room = absurd step
    lacks (command.GiveUp publisher) old new lacking step finds room = absurd step
    lacks (command.Receive subscriber) old new lacking ((received, grows, told), same) finds room
        = received_in_room subscriber old new lacking received grows told finds room.1
    lacks (command.Read sample) old new lacking step finds room = step
    lacks (command.Sequence sample) old new lacking step finds room = absurd step
    lacks (command.Release sample) old new lacking step finds room = absurd step
    lacks (command.Update number) old new lacking step finds room = absurd step
    lacks (command.Leave number) old new lacking step finds room = absurd step
    lacks (command.Has subscriber) old new lacking step finds room = absurd step

    pub lacks_in_room : (asked : Command T) (old new : NumberedHub T U B D) (answer : Result (Reply T) AllocError)
        → Step terms asked old answer new → OnErr answer (FindsPort asked old) → HasRoom old → OnErr answer (LacksInRoom asked old new)
    lacks_in_room asked old new (Ok reply) step finds room = tt
    lacks_in_room asked old new (Err lacking) step finds room = lacks asked old new lacking step finds room
