-- The messages that are received from a connection are in the order in which they were sent, after any calls.
use Rattle.std.proofs.Common.{arith, ◌≡◌, ◌≢◌, ◌+◌, ◌≤◌, ◌&&◌, ◌==◌, ◌∷◌, [], ◌++◌, append-nil, ℕ, Bool, true, false, not, is_some, List}
use Rattle.std.proofs.Common.{get_or, Option, None, Some, Result, Ok, Err, refl, sym, ap, ◌∙◌, subst, if◌then◌else◌, inl, inr, take}
use Rattle.std.proofs.lemmas.Bool.{cases_eq, eqb-true, eq-eqb}
use Rattle.std.specs.declared.alloc.AllocError.{AllocError}
use Rattle.iox_domain.specs.DomainValues.declared.service_sizes.ServiceSizes.{ServiceSizes}
use Rattle.iox_domain.specs.DomainValues.Sequences.{next_sequence}
use Rattle.iox_domain.specs.DomainValues.declared.backpressure.BackpressureDecision.{BackpressureDecision}
use Rattle.iox_domain.specs.DomainValues.declared.backpressure.BackpressureInfo.{BackpressureInfo}
use Rattle.iox_domain.specs.DomainValues.declared.connection_failure.ConnectionFailure.{ConnectionFailure}
use Rattle.iox_domain.specs.DomainValues.declared.create_error.PublisherCreateError.{PublisherCreateError}
use Rattle.iox_domain.specs.DomainValues.declared.create_error.SubscriberCreateError.{SubscriberCreateError}
use Rattle.iox_domain.specs.DomainValues.declared.degradation.DegradationAction.{DegradationAction}
use Rattle.iox_domain.specs.DomainValues.declared.degradation.DegradationInfo.{DegradationInfo}
use Rattle.iox_domain.specs.DomainValues.declared.port_error.ReceiveError.{ReceiveError}
use Rattle.iox_domain.specs.DomainValues.declared.port_error.SendError.{SendError}
use Rattle.iox_domain.specs.DomainValues.declared.port_owner.PortOwner.{PortOwner}
use Rattle.iox_domain.specs.DomainValues.Sizes.{buffer_of}
use Rattle.iox_domain.specs.DomainSlots.Uses.{nobody}
use Rattle.iox_domain.specs.DomainPorts.Messages.{Message}
use Rattle.iox_domain.specs.DomainPorts.Leaving.{new_port, departed}
use Rattle.iox_domain.specs.DomainPorts.Ports.{connection_of}
use Rattle.iox_domain.specs.DomainPorts.Writing.{changed_if, given_up, loan_of}
use Rattle.iox_domain.specs.DomainPorts.declared.meeting.Sent.{Sent}
use Rattle.iox_domain.specs.DomainPorts.declared.publisher_port.PublisherPort.{PublisherPort}
use Rattle.iox_domain.specs.DomainPorts.Arriving.{new_subscriber}
use Rattle.iox_domain.specs.DomainPorts.Publishers as publishers
use Rattle.iox_domain.specs.DomainPorts.Publishers.{port_of, with_port, changed, connection_in, connection_at_port}
use Rattle.iox_domain.specs.DomainPorts.Reading.{place_of}
use Rattle.iox_domain.specs.DomainPorts.SubscriberUpdating.{ReceivesNext}
use Rattle.iox_domain.specs.DomainPorts.declared.attached.Taken.{Taken}
use Rattle.iox_domain.specs.DomainPorts.declared.publisher_entry.PublisherEntry.{PublisherEntry}
use Rattle.iox_domain.specs.DomainPorts.declared.subscriber_port.SubscriberPort.{SubscriberPort}
use Rattle.iox_domain.specs.Calls.{PortCall, PublisherComes, SubscriberComes, Lends, Writes, GivesLoanUp, PublisherUpdates, Sends}
use Rattle.iox_domain.specs.Calls.{Retries, GivesSendUp, PublisherLeaves, SubscriberUpdates, AsksForSamples, Receives, Releases}
use Rattle.iox_domain.specs.Calls.{SubscriberLeaves, Happens}
use Rattle.iox_domain.specs.PortLawsLaws.{IsSound, IsApart, IsTiedWell}
use Rattle.iox_domain.specs.Order.{IsPartOf, leads_at, leads_at_port, leads_in, has_begun, message_of, sent_by, is_named, taken_by}
use Rattle.iox_domain.specs.Order.{sequence_at_port, sequence_in, Account, account_on, account_after, Happen, nothing_yet, InOrder}
use Rattle.iox_domain.proofs.Gaps.{numbered_none}
use Rattle.iox_domain.proofs.Coming.{lookup-came}
use Rattle.iox_domain.specs.Lending.{loan_in, loan_at_port}
use Rattle.iox_domain.specs.Lending as lending
use Rattle.iox_domain.specs.Making.{slots_needed, publisher_place, subscriber_place, identity_of, sender_config, AddsPublisher}
use Rattle.iox_domain.specs.Making.{sequence_before, CreatesPublisher, AddsSubscriber, CreatesSubscriber}
use Rattle.iox_domain.specs.Ports.{AtPublisher, AtSubscriber, no_ports, with_publisher}
use Rattle.iox_domain.specs.PortsPublishing.{is_free, is_blocked}
use Rattle.iox_domain.specs.PortsPublishing as publishing
use Rattle.iox_domain.specs.Rolls.{RollState}
use Rattle.iox_domain.specs.Subscribers.{subscriber_of}
use Rattle.iox_domain.specs.PortsSubscribing as subscribing
use Rattle.iox_domain.specs.declared.ports.making.PublisherConfig.{PublisherConfig}
use Rattle.iox_domain.specs.declared.ports.service_ports.ServicePorts.{ServicePorts}
use Rattle.iox_domain.proofs.PortLawsApart.{new_apart, new_well, stays_apart}
use Rattle.iox_domain.proofs.Booked.{departed_books}
use Rattle.iox_domain.proofs.BookedLists.{Booked, ListBooks, lists_stay, lists_on, lists_found, lists_changed, lists_settled}
use Rattle.iox_domain.proofs.BookedLists.{lists_released, book_walks, settled_found, ListKept, kept_lists, kept_walks, kept_leaving}
use Rattle.iox_domain.proofs.BookedSends.{PortSends, sends_none, sent_so, port_loans, port_changed, port_given_up, port_updates}
use Rattle.iox_domain.proofs.BookedSends.{port_retries, port_gives_up, port_sends}
use Rattle.iox_domain.proofs.BookedTakes.{taken_so, receives_books, receives_sole, receives_slot}
use Rattle.iox_domain.proofs.Books.{Books, Missing}
use Rattle.iox_domain.proofs.Followed.{updates_books}
use Rattle.iox_domain.proofs.Held.{held_stays}
use Rattle.iox_domain.proofs.ListKeeps.{number_found}
use Rattle.iox_domain.proofs.Numbered.{at_number, number_is, other_fails, other_set, same_set, other_came, bool_false}
use Rattle.iox_domain.proofs.PortLawsParts.{part_nothing}
use Rattle.iox_domain.proofs.Roomy.{well_of}
use Rattle.iox_domain.proofs.Sole.{IsSole, sole_set, sole_came}
use Rattle.iox_domain.proofs.Walks.{walked_updates, left_all_walk}
use Rattle.iox_domain.proofs.WellKept.{told_same}

-- What stays true of a publisher that sent more messages in a call, and of a connection from which more were taken.
record CallBooks {T U : Type 0} (publisher index subscriber : ℕ) (led : Bool) (sends takes : List (Message T U))
    (old new : ServicePorts T U) : Type 0 where
  next : old.next_port ≤ new.next_port
  sole : IsSole publisher old.publishers → IsSole publisher new.publishers
  books : (sent taken : List (Message T U)) → (old.next_port ≤ publisher → sent ≡ []) → (led ≡ false → taken ≡ [])
      → Booked publisher index subscriber sent taken old.publishers → leads_in publisher index subscriber old ≡ led
      → (port : PublisherPort T U) → port_of publisher new.publishers ≡ Some port
      → Books index subscriber (sent ++ sends) (taken ++ takes) port

-- only the publishers changed
call_kept : {T U : Type 0} (publisher index subscriber : ℕ) (led : Bool) (sends takes : List (Message T U))
    (old new : ServicePorts T U) → sends ≡ [] → takes ≡ [] → old.next_port ≤ new.next_port
    → ListKept publisher index subscriber old.publishers new.publishers
    → CallBooks publisher index subscriber led sends takes old new
call_kept {T} {U} publisher index subscriber led sends takes old new no_sends no_takes next lists = record {
  next = next;
  sole = lists.sole;
  books = λ sent taken fresh untaken booked is_led port there.
      let kept : Books index subscriber sent taken port = (lists.keeps sent taken booked).books port there in
      subst (λ (all : List (Message T U)). Books index subscriber all (taken ++ takes) port)
      (sym (ap (λ all. sent ++ all) no_sends ∙ append-nil sent))
      (subst (λ (all : List (Message T U)). Books index subscriber sent all port)
      (sym (ap (λ all. taken ++ all) no_takes ∙ append-nil taken)) kept);
}

call_lists : {T U : Type 0} (publisher index subscriber : ℕ) (led : Bool) (sends takes : List (Message T U))
    (old new : ServicePorts T U) → sends ≡ [] → takes ≡ [] → old.next_port ≤ new.next_port
    → ListBooks publisher index subscriber old.publishers new.publishers
    → CallBooks publisher index subscriber led sends takes old new
call_lists publisher index subscriber led sends takes old new no_sends no_takes next lists
    = call_kept publisher index subscriber led sends takes old new no_sends no_takes next
    (kept_lists publisher index subscriber old.publishers new.publishers lists)

call_same : {T U : Type 0} (publisher index subscriber : ℕ) (led : Bool) (sends takes : List (Message T U)) (old new : ServicePorts T U)
    → sends ≡ [] → takes ≡ [] → new ≡ old → CallBooks publisher index subscriber led sends takes old new
call_same publisher index subscriber led sends takes old new no_sends no_takes is =
    rw is (call_lists publisher index subscriber led sends takes old old no_sends no_takes (omega arith)
    (lists_stay publisher index subscriber old.publishers))

call_to : {T U : Type 0} (publisher index subscriber : ℕ) (led : Bool) (sends takes : List (Message T U))
    (old new other : ServicePorts T U) → new ≡ other → CallBooks publisher index subscriber led sends takes old other
    → CallBooks publisher index subscriber led sends takes old new
call_to publisher index subscriber led sends takes old new other is books = rw is books

-- a call of a publisher
call_publisher : {T U A : Type 0} (publisher index subscriber : ℕ) (led : Bool) (sends : List (Message T U)) (number : ℕ)
    (step : PublisherPort T U → Option A → PublisherPort T U → Type 0) (found : Option (PublisherPort T U)) (old new : ServicePorts T U)
    (answer : Option A)
    → (publisher ≢ number → sends ≡ []) → (answer ≡ None → sends ≡ []) → port_of number old.publishers ≡ found
    → ((port after : PublisherPort T U) (value : A) → publisher ≡ number → found ≡ Some port → answer ≡ Some value
    → step port (Some value) after → PortSends index subscriber sends port after)
    → AtPublisher number step found old answer new → CallBooks publisher index subscriber led sends [] old new
call_publisher publisher index subscriber led sends number step None old new answer other none there books happens
    = call_same publisher index subscriber led sends [] old new (none happens.0) refl happens.1
call_publisher publisher index subscriber led sends number step (Some port) old new None other none there books happens
    = call_same publisher index subscriber led sends [] old new (none refl) refl happens.2
call_publisher {T} {U} publisher index subscriber led sends number step (Some port) old new (Some value) other none there books
    (after, steps, is) = elim (cases_eq publisher number) [
      | inl same ↦
          let before : port_of publisher old.publishers ≡ Some port = ap (λ n. port_of n old.publishers) same ∙ there in
          let now : port_of publisher (with_port publisher old.publishers after) ≡ Some after
          = same_set (at_number publisher) old.publishers after port before in
          let made : PortSends index subscriber sends port after = books port after value same refl refl steps in
          let whole : new.publishers ≡ publishers.settled publisher (with_port publisher old.publishers after)
          = ap (λ one. one.publishers) is ∙ ap (λ n. publishers.settled n (with_port n old.publishers after)) (sym same) in
          record {
            next = omega (arith, ap (λ one. one.next_port) is);
            sole = λ sole. rw whole ((lists_settled publisher index subscriber publisher (with_port publisher old.publishers after)).sole
                (sole_set publisher (at_number publisher) old.publishers after sole));
            books = λ sent taken fresh untaken booked is_led found found_there.
                let found_before : port_of publisher (with_port publisher old.publishers after) ≡ Some found =
                settled_found publisher (with_port publisher old.publishers after) found
                (sole_set publisher (at_number publisher) old.publishers after booked.sole)
                (ap (λ all. port_of publisher all) (sym whole) ∙ found_there) in
                let both : Some after ≡ Some found = sym now ∙ found_before in
                let one : after ≡ found = cc in
                subst (λ (all : List (Message T U)). Books index subscriber (sent ++ sends) all found) (sym (append-nil taken))
                (subst (λ (port : PublisherPort T U). Books index subscriber (sent ++ sends) taken port) one
                (made.keeps sent taken (booked.books port before) (booked.missing port before)));
          }
      | inr apart ↦ call_to publisher index subscriber led sends [] old new (with_publisher number after old) is
          (call_lists publisher index subscriber led sends [] old (with_publisher number after old) (other apart) refl (omega arith)
          (lists_on publisher index subscriber old.publishers (with_port number old.publishers after) _
          (lists_found publisher index subscriber old.publishers (with_port number old.publishers after)
          (other_set (at_number number) (at_number publisher) old.publishers after (other_fails publisher number apart))
          (sole_set publisher (at_number number) old.publishers after))
          (lists_settled publisher index subscriber number (with_port number old.publishers after))))
    ]

-- a call of a subscriber, but a receive
call_subscriber : {T U A : Type 0} (publisher index subscriber : ℕ) (led : Bool) (number : ℕ)
    (step : SubscriberPort → List (ℕ × PublisherPort T U) → Option A → SubscriberPort → List (ℕ × PublisherPort T U) → Type 0)
    (found : Option SubscriberPort) (old new : ServicePorts T U) (answer : Option A)
    → ((port after : SubscriberPort) (ports ports_after : List (ℕ × PublisherPort T U)) (answer : Option A)
    → step port ports answer after ports_after → ListBooks publisher index subscriber ports ports_after)
    → AtSubscriber number step found old answer new → CallBooks publisher index subscriber led [] [] old new
call_subscriber publisher index subscriber led number step None old new answer books happens
    = call_same publisher index subscriber led [] [] old new refl refl happens.1
call_subscriber publisher index subscriber led number step (Some port) old new None books happens
    = call_same publisher index subscriber led [] [] old new refl refl happens.3
call_subscriber publisher index subscriber led number step (Some port) old new (Some value) books (after, ports_after, steps, is) =
    call_to publisher index subscriber led [] [] old new _ is
    (call_lists publisher index subscriber led [] [] old _ refl refl (omega arith)
    (books port after old.publishers ports_after (Some value) steps))

stays_if : {T U : Type 0} (publisher index subscriber : ℕ) (ports new : List (ℕ × PublisherPort T U)) → new ≡ ports
    → ListBooks publisher index subscriber ports new
stays_if publisher index subscriber ports new is = rw is (lists_stay publisher index subscriber ports)

updates_keep : {T U : Type 0} (publisher index subscriber : ℕ) (stands : Bool) (may : DegradationInfo → DegradationAction → Type 0)
    (list : RollState PublisherEntry) (port after : SubscriberPort) (ports ports_after : List (ℕ × PublisherPort T U))
    (answer : Option (Result (Unit {0}) ConnectionFailure))
    → subscribing.UpdatesIf stands may list port ports answer after ports_after → ListBooks publisher index subscriber ports ports_after
updates_keep publisher index subscriber false may list port after ports ports_after answer updates
    = stays_if publisher index subscriber ports ports_after updates.2
updates_keep publisher index subscriber true may list port after ports ports_after answer updates =
    (walked_updates (book_walks publisher index subscriber port.number) may updates.0 list.changes port after ports ports_after
    updates.2 refl updates.3).walked

has_keeps : {T U : Type 0} (publisher index subscriber : ℕ) (stands : Bool) (may : DegradationInfo → DegradationAction → Type 0)
    (list : RollState PublisherEntry) (port after : SubscriberPort) (ports ports_after : List (ℕ × PublisherPort T U))
    (answer : Option (Result Bool ConnectionFailure))
    → subscribing.HasSamplesIf stands may list port ports answer after ports_after → ListBooks publisher index subscriber ports ports_after
has_keeps publisher index subscriber false may list port after ports ports_after answer has
    = stays_if publisher index subscriber ports ports_after has.2
has_keeps publisher index subscriber true may list port after ports ports_after answer has =
    (walked_updates (book_walks publisher index subscriber port.number) may has.0 list.changes port after ports ports_after has.3.0 refl
    has.3.1).walked

-- a receive
no_take : {X : Type 0} (led : Bool) (waiting : List X) → taken_so led false waiting ≡ []
no_take true waiting = refl
no_take false waiting = refl

receives_if : {T U : Type 0} (publisher index subscriber : ℕ) (led stands : Bool) (may : DegradationInfo → DegradationAction → Type 0)
    (number : ℕ) (port after : SubscriberPort) (old new : ServicePorts T U) (ports_after : List (ℕ × PublisherPort T U))
    (value : Result (Option Taken) ReceiveError)
    → subscribing.ReceivesIf stands may old.publisher_list port old.publishers (Some value) after ports_after
    → new.publishers ≡ ports_after → old.next_port ≤ new.next_port
    → CallBooks publisher index subscriber led []
    (taken_so led (is_named publisher index (Some value)) (connection_in publisher index old.publishers).waiting) old new
receives_if publisher index subscriber led false may number port after old new ports_after value receives are next = let no : Some value
    ≡ None = receives.0 in absurd (cc)
receives_if {T} {U} publisher index subscriber led true may number port after old new ports_after value
    (listed, is_list, outcome, received, receive, is_after, is_answer) are next =
    let same : value ≡ outcome = cc in
    let takes : List (Message T U) = taken_so led (is_named publisher index (Some outcome))
    (connection_in publisher index old.publishers).waiting in
    let books : CallBooks publisher index subscriber led [] takes old new = record {
      next = next;
      sole = λ sole. rw are (receives_sole publisher index subscriber may listed old.publisher_list.changes port received old.publishers
          ports_after outcome receive sole);
      books = λ sent taken fresh untaken booked is_led found there.
          let kept = receives_books publisher index subscriber may listed old.publisher_list.changes port received old.publishers
          ports_after outcome receive sent taken booked led is_led in
          subst (λ (all : List (Message T U)). Books index subscriber all (taken ++ takes) found) (sym (append-nil sent))
          (kept.books found (ap (λ all. port_of publisher all) (sym are) ∙ there));
    } in
    subst (λ (one : Result (Option Taken) ReceiveError). CallBooks publisher index subscriber led []
    (taken_so led (is_named publisher index (Some one)) (connection_in publisher index old.publishers).waiting) old new) (sym same)
    books

call_receives : {T U : Type 0} (publisher index subscriber : ℕ) (led : Bool) (may : DegradationInfo → DegradationAction → Type 0)
    (number : ℕ) (found : Option SubscriberPort) (old new : ServicePorts T U) (answer : Option (Result (Option Taken) ReceiveError))
    → AtSubscriber number (subscribing.ReceivesOne may old.publisher_list) found old answer new
    → CallBooks publisher index subscriber led []
    (taken_so led (is_named publisher index answer) (connection_in publisher index old.publishers).waiting) old new
call_receives publisher index subscriber led may number None old new answer happens =
    call_same publisher index subscriber led [] _ old new refl
    (ap (λ one. taken_so led (is_named publisher index one) (connection_in publisher index old.publishers).waiting) happens.0 ∙
    no_take led (connection_in publisher index old.publishers).waiting) happens.1
call_receives publisher index subscriber led may number (Some port) old new None happens
    = call_same publisher index subscriber led [] _ old new refl (no_take led (connection_in publisher index old.publishers).waiting)
    happens.3
call_receives publisher index subscriber led may number (Some port) old new (Some value) (after, ports_after, receives, is) =
    receives_if publisher index subscriber led port.stands may number port after old new ports_after value receives
    (ap (λ one. one.publishers) is) (omega (arith, ap (λ one. one.next_port) is))

-- a publisher that comes, of which nothing was sent and taken
new_books : {T U : Type 0} (index subscriber : ℕ) (port : PublisherPort T U) → port.sender.uses.history ≡ []
    → port.sender.uses.sending ≡ None → port.sender.uses.connections ≡ [] → port.stands ≡ true → Books index subscriber [] [] port
new_books {T} {U} index subscriber port history silent none stands =
    let empty : (connection_of index port).waiting ≡ [] = ap (λ all. (get_or all index nobody).waiting) none in
    record {
      history = part_nothing port.sender.uses.history [] history;
      numbered = numbered_none T U port.last_sequence;
      last = λ message sending. let no : None ≡ Some message = sym silent ∙ sending in cc;
      left = λ left. silent;
      part = λ leads. part_nothing (connection_of index port).waiting [] empty;
      due = λ leads message before sending. let no : None ≡ Some message = sym silent ∙ sending in cc;
      idle = λ leads is untied. empty;
    }

off_new : {T U : Type 0} (index subscriber : ℕ) (port : PublisherPort T U) → Missing index subscriber [] [] port
off_new index subscriber port gone = inl refl

first_books : {T U : Type 0} (index subscriber : ℕ) (sent taken : List (Message T U)) (port found : PublisherPort T U) → port ≡ found
    → sent ≡ [] → taken ≡ [] → Books index subscriber [] [] port → Books index subscriber (sent ++ []) (taken ++ []) found
first_books {T} {U} index subscriber sent taken port found is silent none books =
    subst (λ (all : List (Message T U)). Books index subscriber all (taken ++ []) found) (sym (append-nil sent ∙ silent))
    (subst (λ (all : List (Message T U)). Books index subscriber [] all found) (sym (append-nil taken ∙ none))
    (subst (λ (one : PublisherPort T U). Books index subscriber [] [] one) is books))

not_found : {T U : Type 0} (publisher : ℕ) (ports : ServicePorts T U) → IsSound ports → ports.next_port ≤ publisher
    → (found : Option (PublisherPort T U)) → port_of publisher ports.publishers ≡ found → found ≡ None
not_found publisher ports sound from None there = refl
not_found publisher ports sound from (Some port) there
    = absurd (omega (arith, from, number_found ports.next_port publisher ports.publishers port sound there))

-- a publisher comes
call_added : {T U : Type 0} (publisher index subscriber : ℕ) (led : Bool) (may : DegradationInfo → DegradationAction → Type 0)
    (config : PublisherConfig) (user_header : U) (place slots : ℕ) (old new : ServicePorts T U) (outcome : Result ℕ AllocError)
    → IsSound old → IsApart old
    → AddsPublisher may config user_header place slots old outcome new → CallBooks publisher index subscriber led [] [] old new
call_added publisher index subscriber led may config user_header place slots old new (Err error) sound apart adds
    = call_same publisher index subscriber led [] [] old new refl refl adds
call_added {T} {U} publisher index subscriber led may config user_header place slots old new (Ok number) sound apart adds =
    let (listed, is_list, outcome, port, updates, is_number, is_new) = adds in
    let first : PublisherPort T U = new_port (identity_of config.owner place old) old.sizes.max_subscribers config.allocation
    config.unit (sequence_before config old) (sender_config config slots old) user_header in
    let are : new.publishers ≡ publishers.added old.next_port port old.publishers = ap (λ one. one.publishers) is_new in
    let next : new.next_port ≡ old.next_port + 1 = ap (λ one. one.next_port) is_new in
    let well : IsTiedWell old.next_port old.subscriber_list.places first
    = new_well old.next_port old.subscriber_list.places first refl refl refl (omega (arith, apart.places)) in
    let none_yet : publisher ≡ old.next_port
    → port_of publisher old.publishers ≡ None
    = λ same. not_found publisher old sound (omega (arith, same)) (port_of publisher old.publishers) refl in
    record {
      next = omega (arith, next);
      sole = λ sole. rw are (sole_came publisher old.next_port old.publishers port (number_is publisher) none_yet sole);
      books = λ sent taken fresh untaken booked is_led found there. elim (cases_eq publisher old.next_port) [
        | inl same ↦
            let now : port_of publisher new.publishers ≡ Some port
            = ap (λ all. port_of publisher all) are ∙ ap (λ n. port_of n (publishers.added old.next_port port old.publishers)) same
            ∙ lookup-came old.next_port port old.publishers in
            let both : Some port ≡ Some found = sym now ∙ there in
            let is_found : port ≡ found = cc in
            let silent : sent ≡ [] = fresh (omega (arith, same)) in
            let off : leads_in publisher index subscriber old ≡ false = ap (λ one. leads_at_port index subscriber one) (none_yet same) in
            let kept = updates_books old.next_port old.subscriber_list.places index subscriber [] [] may listed
            old.subscriber_list.changes first port outcome apart.list (told_same listed old.subscriber_list is_list) well refl refl
            updates (new_books index subscriber first refl refl refl refl) (off_new index subscriber first) in
            first_books index subscriber sent taken port found is_found silent (untaken (sym is_led ∙ off)) kept.books
        | inr other ↦
            let was : port_of publisher old.publishers ≡ Some found
            = sym (ap (λ all. port_of publisher all) are ∙ other_came old.next_port publisher old.publishers port other) ∙ there in
            subst (λ (all : List (Message T U)). Books index subscriber all (taken ++ []) found) (sym (append-nil sent))
            (subst (λ (all : List (Message T U)). Books index subscriber sent all found) (sym (append-nil taken)) (booked.books found was))
      ];
    }

call_creates : {T U : Type 0} (publisher index subscriber : ℕ) (led : Bool) (overrides : ℕ → ℕ → Type 0)
    (may : DegradationInfo → DegradationAction → Type 0) (config : PublisherConfig) (user_header : U) (needed place : Option ℕ)
    (old new : ServicePorts T U) (answer : Result ℕ PublisherCreateError) → IsSound old → IsApart old
    → CreatesPublisher overrides may config user_header needed place old answer new → CallBooks publisher index subscriber led [] [] old new
call_creates publisher index subscriber led overrides may config user_header None place old new answer sound apart creates
    = call_same publisher index subscriber led [] [] old new refl refl creates.1
call_creates publisher index subscriber led overrides may config user_header (Some needed) None old new answer sound apart creates
    = call_same publisher index subscriber led [] [] old new refl refl creates.1
call_creates publisher index subscriber led overrides may config user_header (Some needed) (Some place) old new answer sound apart
    creates = call_added publisher index subscriber led may config user_header place _ old new creates.2 sound apart creates.3

-- a subscriber comes
call_subscribes : {T U : Type 0} (publisher index subscriber : ℕ) (led : Bool) (may : DegradationInfo → DegradationAction → Type 0)
    (owner : PortOwner) (place buffer_size : ℕ) (old new : ServicePorts T U) (outcome : Result ℕ AllocError)
    → AddsSubscriber may owner place buffer_size old outcome new → CallBooks publisher index subscriber led [] [] old new
call_subscribes publisher index subscriber led may owner place buffer_size old new (Err error) adds
    = call_same publisher index subscriber led [] [] old new refl refl adds
call_subscribes {T} {U} publisher index subscriber led may owner place buffer_size old new (Ok number) adds =
    let (between, follows, is_number, is_new) = adds in
    let (listed, is_list, outcome, after, publishers_after, updates, is_between) = follows in
    let first : SubscriberPort = new_subscriber (identity_of owner place old) buffer_size old.sizes.max_publishers
    old.sizes.expired_connections in
    let walked : ListBooks publisher index subscriber old.publishers publishers_after =
    (walked_updates (book_walks publisher index subscriber first.number) may listed old.publisher_list.changes first after
    old.publishers publishers_after outcome refl updates).walked in
    let are : new.publishers ≡ publishers_after = ap (λ ports. ports.publishers) is_new ∙ ap (λ ports. ports.publishers) is_between in
    let all : ListBooks publisher index subscriber old.publishers new.publishers = rw are walked in
    call_lists publisher index subscriber led [] [] old new refl refl (omega (arith, ap (λ ports. ports.next_port) is_new)) all

call_creates_subscriber : {T U : Type 0} (publisher index subscriber : ℕ) (led : Bool)
    (may : DegradationInfo → DegradationAction → Type 0) (owner : PortOwner) (buffer_size : Result ℕ SubscriberCreateError)
    (place : Option ℕ) (old new : ServicePorts T U) (answer : Result ℕ SubscriberCreateError)
    → CreatesSubscriber may owner buffer_size place old answer new → CallBooks publisher index subscriber led [] [] old new
call_creates_subscriber publisher index subscriber led may owner (Err refusal) place old new answer creates
    = call_same publisher index subscriber led [] [] old new refl refl creates.1
call_creates_subscriber publisher index subscriber led may owner (Ok buffer_size) None old new answer creates
    = call_same publisher index subscriber led [] [] old new refl refl creates.1
call_creates_subscriber publisher index subscriber led may owner (Ok buffer_size) (Some place) old new answer creates
    = call_subscribes publisher index subscriber led may owner place buffer_size old new creates.0 creates.1

-- a publisher leaves: as a call of a publisher, but for the list
call_leaves : {T U : Type 0} (publisher index subscriber : ℕ) (led free : Bool) (number : ℕ) (port : PublisherPort T U)
    (old new : ServicePorts T U) (answer : Bool) → port_of number old.publishers ≡ Some port → is_free port ≡ free
    → publishing.LeavesPortIf free number port old answer new → CallBooks publisher index subscriber led [] [] old new
call_leaves publisher index subscriber led false number port old new answer there free leaves
    = call_same publisher index subscriber led [] [] old new refl refl leaves.1
call_leaves {T} {U} publisher index subscriber led true number port old new answer there free leaves =
    let between : ServicePorts T U = with_publisher number (departed port) old in
    let left : CallBooks publisher index subscriber led [] [] old between =
    call_publisher publisher index subscriber led [] number
    (λ (one : PublisherPort T U) (value : Option ℕ) (after : PublisherPort T U). (is_blocked one ≡ false) × (after ≡ departed one))
    (Some port) old between (Some 0)
    (λ not. refl) (λ none. refl) there
    (λ one after value same is_found is_answer steps. record {
      keeps = λ sent taken books missing.
          let gone = departed_books index subscriber sent taken one (no_some one.sender.uses.sending steps.0) books missing in
          subst (λ (all : List (Message T U)). Books index subscriber all taken after) (sym (append-nil sent)) (rw (steps.1) (gone.0));
    })
    (departed port, (not_true (is_blocked port) (second port.stands (not (is_blocked port)) free), refl), refl) in
    let are : new.publishers ≡ between.publishers = ap (λ ports. ports.publishers) leaves.1 in
    record {
      next = omega (arith, ap (λ ports. ports.next_port) leaves.1);
      sole = λ sole. rw are (left.sole sole);
      books = λ sent taken fresh untaken booked is_led found found_there. left.books sent taken fresh untaken booked is_led found
          (ap (λ all. port_of publisher all) (sym are) ∙ found_there);
    }
  where
    second : (a b : Bool) → a && b ≡ true → b ≡ true
    second true b is = is
    second false b is = cc

    not_true : (b : Bool) → not b ≡ true → b ≡ false
    not_true true is = cc
    not_true false is = refl

    no_some : {X : Type 0} (found : Option X) → is_some found ≡ false → found ≡ None
    no_some None is = refl
    no_some (Some x) is = cc

call_leaves_at : {T U : Type 0} (publisher index subscriber : ℕ) (led : Bool) (number : ℕ) (found : Option (PublisherPort T U))
    (old new : ServicePorts T U) (answer : Bool) → port_of number old.publishers ≡ found → publishing.LeavesAt number found old answer new
    → CallBooks publisher index subscriber led [] [] old new
call_leaves_at publisher index subscriber led number None old new answer there leaves
    = call_same publisher index subscriber led [] [] old new refl refl leaves.1
call_leaves_at publisher index subscriber led number (Some port) old new answer there leaves
    = call_leaves publisher index subscriber led (is_free port) number port old new answer there refl leaves

-- a subscriber leaves
call_left : {T U : Type 0} (publisher index subscriber : ℕ) (led stands : Bool) (number : ℕ) (port : SubscriberPort)
    (old new : ServicePorts T U) (answer : Bool) → subscribing.LeavesPortIf stands number port old answer new
    → CallBooks publisher index subscriber led [] [] old new
call_left publisher index subscriber led false number port old new answer leaves
    = call_same publisher index subscriber led [] [] old new refl refl leaves.1
call_left publisher index subscriber led true number port old new answer leaves =
    call_to publisher index subscriber led [] [] old new _ leaves.1
    (call_kept publisher index subscriber led [] [] old _ refl refl (omega arith)
    (left_all_walk (kept_walks publisher index subscriber port.number) (kept_leaving publisher index subscriber)
    port.connections.values old.publishers))

call_left_at : {T U : Type 0} (publisher index subscriber : ℕ) (led : Bool) (number : ℕ) (found : Option SubscriberPort)
    (old new : ServicePorts T U) (answer : Bool) → subscribing.LeavesAt number found old answer new
    → CallBooks publisher index subscriber led [] [] old new
call_left_at publisher index subscriber led number None old new answer leaves
    = call_same publisher index subscriber led [] [] old new refl refl leaves.1
call_left_at publisher index subscriber led number (Some port) old new answer leaves
    = call_left publisher index subscriber led port.stands number port old new answer leaves

-- a sample is released
call_released : {T U : Type 0} (publisher index subscriber : ℕ) (led : Bool) (number : ℕ) (given : Taken) (place : Option ℕ)
    (old new : ServicePorts T U) (answer : Bool) → subscribing.ReleasesAt number given place old answer new
    → CallBooks publisher index subscriber led [] [] old new
call_released publisher index subscriber led number given None old new answer releases
    = call_same publisher index subscriber led [] [] old new refl refl releases.1
call_released publisher index subscriber led number given (Some at) old new answer releases =
    call_to publisher index subscriber led [] [] old new _ releases.1
    (call_lists publisher index subscriber led [] [] old _ refl refl (omega arith)
    (lists_released publisher index subscriber given.publisher given.index at old.publishers))

call_releases : {T U : Type 0} (publisher index subscriber : ℕ) (led : Bool) (found : Option SubscriberPort) (number : ℕ)
    (given : Taken) (old new : ServicePorts T U) (answer : Bool) → subscribing.ReleasesOf found number given old answer new
    → CallBooks publisher index subscriber led [] [] old new
call_releases publisher index subscriber led None number given old new answer releases
    = call_same publisher index subscriber led [] [] old new refl refl releases.1
call_releases publisher index subscriber led (Some port) number given old new answer releases
    = call_released publisher index subscriber led number given
    (place_of given.slot (connection_in given.publisher given.index old.publishers)) old new answer releases

-- a send
sent_other : {T U : Type 0} (publisher number slot : ℕ) (answer : Option (Result Sent SendError)) (old : ServicePorts T U)
    → publisher ≢ number → sent_by publisher (Sends number slot answer) old ≡ []
sent_other publisher number slot answer old not =
    ap (λ b. if b && has_begun answer then message_of (sequence_in number old) (loan_in number slot old) else [])
    (bool_false (publisher == number) (λ same. not (eqb-true publisher number same)))

sent_none : {T U : Type 0} (publisher number slot : ℕ) (answer : Option (Result Sent SendError)) (old : ServicePorts T U)
    → answer ≡ None → sent_by publisher (Sends number slot answer) old ≡ []
sent_none publisher number slot answer old is
    = ap (λ one. if (publisher == number) && has_begun one then message_of (sequence_in number old) (loan_in number slot old) else []) is
    ∙ by_case
    (publisher == number)
  where
    by_case : (same : Bool) → (if same && false then message_of (sequence_in number old) (loan_in number slot old) else []) ≡ []
    by_case true = refl
    by_case false = refl

sent_here : {T U : Type 0} (publisher number slot : ℕ) (value : Result Sent SendError) (port : PublisherPort T U)
    (old : ServicePorts T U) → publisher ≡ number → port_of number old.publishers ≡ Some port
    → sent_so (next_sequence port.last_sequence) (Some value) (loan_of slot port)
    ≡ sent_by publisher (Sends number slot (Some value)) old
sent_here publisher number slot value port old same there =
    sym (ap (λ b. if b && has_begun (Some value) then message_of (sequence_in number old) (loan_in number slot old) else [])
    (eq-eqb publisher number same)
    ∙ ap (λ found. if has_begun (Some value) then message_of (sequence_at_port found) (loan_at_port slot found) else []) there)

with_takes : {T U : Type 0} (publisher index subscriber : ℕ) (led : Bool) (sends : List (Message T U)) (old new : ServicePorts T U)
    → CallBooks publisher index subscriber led sends [] old new
    → CallBooks publisher index subscriber led sends (if led then [] else []) old new
with_takes publisher index subscriber true sends old new books = books
with_takes publisher index subscriber false sends old new books = books

no_takes : {T U : Type 0} (publisher index subscriber : ℕ) (led : Bool) (old new : ServicePorts T U)
    → CallBooks publisher index subscriber led [] [] old new → CallBooks publisher index subscriber led [] (if led then [] else []) old new
no_takes publisher index subscriber led old new books = with_takes publisher index subscriber led [] old new books

sends_so : {T U : Type 0} (index subscriber : ℕ) (port after : PublisherPort T U) (one other : List (Message T U)) → one ≡ other
    → PortSends index subscriber one port after → PortSends index subscriber other port after
sends_so {T} {U} index subscriber port after one other is sends
    = subst (λ (all : List (Message T U)). PortSends index subscriber all port after) is sends

call_books : {T U : Type 0} (publisher index subscriber : ℕ) (led : Bool) (overrides : ℕ → ℕ → Type 0)
    (may : DegradationInfo → DegradationAction → Type 0) (decide : BackpressureInfo → BackpressureDecision → Type 0)
    (call : PortCall T U) (old new : ServicePorts T U) → IsSound old → IsApart old
    → Happens overrides may decide call old new
    → CallBooks publisher index subscriber led (sent_by publisher call old) (if led then taken_by publisher index call old else [])
    old new
call_books publisher index subscriber led overrides may decide (PublisherComes config user_header answer) old new sound apart happens =
    no_takes publisher index subscriber led old new
    (call_creates publisher index subscriber led overrides may config user_header (slots_needed config old) (publisher_place old)
    old new answer sound apart happens)
call_books publisher index subscriber led overrides may decide (SubscriberComes owner buffer_size answer) old new sound apart happens =
    no_takes publisher index subscriber led old new
    (call_creates_subscriber publisher index subscriber led may owner (buffer_of buffer_size old.sizes) (subscriber_place old) old
    new answer happens)
call_books publisher index subscriber led overrides may decide (Lends number values elements answer) old new sound apart happens =
    no_takes publisher index subscriber led old new
    (call_publisher publisher index subscriber led [] number (lending.LoansOne values elements) (port_of number old.publishers) old
    new answer (λ not. refl) (λ none. refl) refl
    (λ port after value same is_found is_answer loans. sends_none index subscriber [] port after refl
    (port_loans index subscriber values elements port after (Some value) loans)) happens)
call_books publisher index subscriber led overrides may decide (Writes number slot test change) old new sound apart happens =
    no_takes publisher index subscriber led old new
    (call_to publisher index subscriber led [] [] old new _ happens
    (call_lists publisher index subscriber led [] [] old _ refl refl (omega arith)
    (lists_changed publisher index subscriber number (λ port. changed_if (test port) slot change port) old.publishers
    (λ port. port_changed index subscriber (test port) slot change port))))
call_books publisher index subscriber led overrides may decide (GivesLoanUp number slot) old new sound apart happens =
    no_takes publisher index subscriber led old new
    (call_to publisher index subscriber led [] [] old new _ happens
    (call_lists publisher index subscriber led [] [] old _ refl refl (omega arith)
    (lists_on publisher index subscriber old.publishers (changed number (given_up slot) old.publishers) _
    (lists_changed publisher index subscriber number (given_up slot) old.publishers (port_given_up index subscriber slot))
    (lists_settled publisher index subscriber number (changed number (given_up slot) old.publishers)))))
call_books publisher index subscriber led overrides may decide (PublisherUpdates number answer) old new sound apart happens =
    no_takes publisher index subscriber led old new
    (call_publisher publisher index subscriber led [] number (publishing.UpdatesOne may old.subscriber_list)
    (port_of number old.publishers) old new answer (λ not. refl) (λ none. refl) refl
    (λ port after value same is_found is_answer updates.
    port_updates old.next_port old.subscriber_list index subscriber may port after value apart.list
    (well_of old number port apart is_found) updates) happens)
call_books publisher index subscriber led overrides may decide (Retries number elapsed answer) old new sound apart happens =
    no_takes publisher index subscriber led old new
    (call_publisher publisher index subscriber led [] number (publishing.RetriesOne decide elapsed) (port_of number old.publishers)
    old new answer (λ not. refl) (λ none. refl) refl (λ port after value same is_found is_answer retries.
    port_retries index subscriber decide elapsed port after value (λ stands. (well_of old number port apart is_found stands).apart)
    retries) happens)
call_books publisher index subscriber led overrides may decide (GivesSendUp number answer) old new sound apart happens =
    no_takes publisher index subscriber led old new
    (call_publisher publisher index subscriber led [] number publishing.GivesUpOne (port_of number old.publishers) old new answer
    (λ not. refl) (λ none. refl) refl
    (λ port after value same is_found is_answer gives. port_gives_up index subscriber port after value gives) happens)
call_books publisher index subscriber led overrides may decide (PublisherLeaves number answer) old new sound apart happens =
    no_takes publisher index subscriber led old new
    (call_leaves_at publisher index subscriber led number (port_of number old.publishers) old new answer refl happens)
call_books publisher index subscriber led overrides may decide (SubscriberUpdates number answer) old new sound apart happens =
    no_takes publisher index subscriber led old new
    (call_subscriber publisher index subscriber led number (subscribing.UpdatesOne may old.publisher_list)
    (subscriber_of number old.subscribers) old new answer
    (λ port after ports ports_after answer updates. updates_keep publisher index subscriber port.stands may old.publisher_list port
    after ports ports_after answer updates) happens)
call_books publisher index subscriber led overrides may decide (AsksForSamples number answer) old new sound apart happens =
    no_takes publisher index subscriber led old new
    (call_subscriber publisher index subscriber led number (subscribing.HasSamplesOne may old.publisher_list)
    (subscriber_of number old.subscribers) old new answer
    (λ port after ports ports_after answer has. has_keeps publisher index subscriber port.stands may old.publisher_list port after
    ports ports_after answer has) happens)
call_books publisher index subscriber led overrides may decide (Releases number given answer) old new sound apart happens =
    no_takes publisher index subscriber led old new
    (call_releases publisher index subscriber led (subscribing.taker_of number given old.subscribers) number given old new answer
    happens)
call_books publisher index subscriber led overrides may decide (SubscriberLeaves number answer) old new sound apart happens =
    no_takes publisher index subscriber led old new
    (call_left_at publisher index subscriber led number (subscriber_of number old.subscribers) old new answer happens)
call_books publisher index subscriber led overrides may decide (Sends number slot answer) old new sound apart happens =
    with_takes publisher index subscriber led (sent_by publisher (Sends number slot answer) old) old new
    (call_publisher publisher index subscriber led (sent_by publisher (Sends number slot answer) old) number
    (publishing.SendsOne may decide old.subscriber_list slot) (port_of number old.publishers) old new answer
    (sent_other publisher number slot answer old) (sent_none publisher number slot answer old) refl
    (λ port after value same is_found is_answer sends.
    sends_so index subscriber port after (sent_so (next_sequence port.last_sequence) (Some value) (loan_of slot port)) _
    (sent_here publisher number slot value port old same is_found ∙ ap (λ one. sent_by publisher (Sends number slot one) old)
    (sym is_answer))
    (port_sends old.next_port old.subscriber_list index subscriber may decide slot port after value apart.list
    (well_of old number port apart is_found) sends)) happens)
call_books publisher index subscriber led overrides may decide (Receives number answer) old new sound apart happens
    = call_receives publisher index subscriber led may number (subscriber_of number old.subscribers) old new answer happens

-- What is true after calls.
pub record Holds {T U : Type 0} (publisher index subscriber : ℕ) (account : Account T U) (ports : ServicePorts T U) : Type 0 where
  sound : IsSound ports
  apart : IsApart ports
  sole : IsSole publisher ports.publishers
  fresh : ports.next_port ≤ publisher → account.sent ≡ []
  pub books : (port : PublisherPort T U) → port_of publisher ports.publishers ≡ Some port
      → Books index subscriber account.sent account.taken port

-- of a connection that isn't there nothing was taken
books_off : {T U : Type 0} (index subscriber : ℕ) (sent taken : List (Message T U)) (port : PublisherPort T U)
    → leads_at index subscriber port ≡ false → Books index subscriber sent taken port → Books index subscriber sent [] port
books_off index subscriber sent taken port off books = record {
  history = books.history;
  numbered = books.numbered;
  last = books.last;
  left = books.left;
  part = λ leads. let no : false ≡ true = sym off ∙ leads in absurd (cc);
  due = λ leads. let no : false ≡ true = sym off ∙ leads in absurd (cc);
  idle = λ leads. let no : false ≡ true = sym off ∙ leads in absurd (cc);
}

holds_on : {T U : Type 0} (publisher index subscriber : ℕ) (overrides : ℕ → ℕ → Type 0)
    (may : DegradationInfo → DegradationAction → Type 0) (decide : BackpressureInfo → BackpressureDecision → Type 0)
    (call : PortCall T U) (old new : ServicePorts T U) (account : Account T U) (led : Bool)
    → leads_in publisher index subscriber old ≡ led → Happens overrides may decide call old new
    → Holds publisher index subscriber account old → (port : PublisherPort T U) → port_of publisher new.publishers ≡ Some port
    → Books index subscriber (account.sent ++ sent_by publisher call old)
    (if led then account.taken ++ taken_by publisher index call old else []) port
holds_on {T} {U} publisher index subscriber overrides may decide call old new account true is_led happens holds port there =
    let call_kept = call_books publisher index subscriber true overrides may decide call old new holds.sound holds.apart happens in
    call_kept.books account.sent account.taken holds.fresh (λ no. cc) (record {
      sole = holds.sole;
      books = holds.books;
      missing = λ found is off. let no : true ≡ false = sym is_led ∙ ap (λ one. leads_at_port index subscriber one) is ∙ off in absurd (cc);
    }) is_led port there
holds_on {T} {U} publisher index subscriber overrides may decide call old new account false is_led happens holds port there =
    let call_kept = call_books publisher index subscriber false overrides may decide call old new holds.sound holds.apart happens in
    call_kept.books account.sent [] holds.fresh (λ no. refl) (record {
      sole = holds.sole;
      books = λ found is. books_off index subscriber account.sent account.taken found
          (sym (ap (λ one. leads_at_port index subscriber one) is) ∙ is_led) (holds.books found is);
      missing = λ found is off. inl refl;
    }) is_led port there

-- nothing is sent by a publisher that didn't come yet
sent_nothing : {T U : Type 0} (publisher : ℕ) (call : PortCall T U) (old : ServicePorts T U) → port_of publisher old.publishers ≡ None
    → sent_by publisher call old ≡ []
sent_nothing publisher (Sends number slot answer) old none = elim (cases_eq publisher number) [
  | inl same ↦
      ap (λ found. if (publisher == number) && has_begun answer then message_of (sequence_at_port found) (loan_at_port slot found) else [])
      (ap (λ n. port_of n old.publishers) (sym same) ∙ none) ∙ nothing ((publisher == number) && has_begun answer)
  | inr other ↦ sent_other publisher number slot answer old other
]
  where
    nothing : {X : Type 0} (b : Bool) → (if b then (let none : List X = [] in none) else []) ≡ (let none : List X = [] in none)
    nothing true = refl
    nothing false = refl
sent_nothing publisher (PublisherComes config user_header answer) old none = refl
sent_nothing publisher (SubscriberComes owner buffer_size answer) old none = refl
sent_nothing publisher (Lends number values elements answer) old none = refl
sent_nothing publisher (Writes number slot test change) old none = refl
sent_nothing publisher (GivesLoanUp number slot) old none = refl
sent_nothing publisher (PublisherUpdates number answer) old none = refl
sent_nothing publisher (Retries number elapsed answer) old none = refl
sent_nothing publisher (GivesSendUp number answer) old none = refl
sent_nothing publisher (PublisherLeaves number answer) old none = refl
sent_nothing publisher (SubscriberUpdates number answer) old none = refl
sent_nothing publisher (AsksForSamples number answer) old none = refl
sent_nothing publisher (Receives number answer) old none = refl
sent_nothing publisher (Releases number given answer) old none = refl
sent_nothing publisher (SubscriberLeaves number answer) old none = refl

holds_call : {T U : Type 0} (publisher index subscriber : ℕ) (overrides : ℕ → ℕ → Type 0)
    (may : DegradationInfo → DegradationAction → Type 0) (decide : BackpressureInfo → BackpressureDecision → Type 0)
    (call : PortCall T U) (old new : ServicePorts T U) (account : Account T U)
    → Happens overrides may decide call old new → Holds publisher index subscriber account old
    → Holds publisher index subscriber (account_on publisher index subscriber call old account) new
holds_call {T} {U} publisher index subscriber overrides may decide call old new account happens holds =
    let kept = call_books publisher index subscriber (leads_in publisher index subscriber old) overrides may decide call old new
    holds.sound holds.apart happens in
    record {
      sound = (held_stays overrides may decide).goes_on call old new happens holds.sound;
      apart = stays_apart overrides may decide call old new happens holds.apart;
      sole = kept.sole holds.sole;
      fresh = λ from.
          let before : old.next_port ≤ publisher = omega (arith, from, kept.next) in
          ap (λ all. all ++ sent_by publisher call old) (holds.fresh before) ∙ sent_nothing publisher call old
          (not_found publisher old holds.sound before (port_of publisher old.publishers) refl);
      books = holds_on publisher index subscriber overrides may decide call old new account (leads_in publisher index subscriber old)
          refl happens holds;
    }

holds_after : {T U : Type 0} (publisher index subscriber : ℕ) (overrides : ℕ → ℕ → Type 0)
    (may : DegradationInfo → DegradationAction → Type 0) (decide : BackpressureInfo → BackpressureDecision → Type 0)
    (calls : List (PortCall T U × ServicePorts T U)) (old new : ServicePorts T U) (account : Account T U)
    → Happen overrides may decide calls old new → Holds publisher index subscriber account old
    → Holds publisher index subscriber (account_after publisher index subscriber calls old account) new
holds_after publisher index subscriber overrides may decide [] old new account happen holds = rw happen holds
holds_after publisher index subscriber overrides may decide ((call, next) ∷ calls) old new account (happens, further) holds =
    holds_after publisher index subscriber overrides may decide calls next new (account_on publisher index subscriber call old account)
    further (holds_call publisher index subscriber overrides may decide call old next account happens holds)

-- it holds after any calls from a new service on
pub holds_so : {T U : Type 0} (publisher index subscriber : ℕ) (overrides : ℕ → ℕ → Type 0)
    (may : DegradationInfo → DegradationAction → Type 0) (decide : BackpressureInfo → BackpressureDecision → Type 0)
    (service : ℕ) (sizes : ServiceSizes) (calls : List (PortCall T U × ServicePorts T U)) (new : ServicePorts T U)
    → Happen overrides may decide calls (no_ports service sizes) new
    → Holds publisher index subscriber (account_after publisher index subscriber calls (no_ports service sizes) nothing_yet) new
holds_so {T} {U} publisher index subscriber overrides may decide service sizes calls new happen =
    holds_after publisher index subscriber overrides may decide calls (no_ports service sizes) new nothing_yet happen (record {
      sound = (held_stays {T = T} {U = U} overrides may decide).begins service sizes (no_ports service sizes) refl;
      apart = new_apart service sizes (no_ports service sizes) refl;
      sole = tt;
      fresh = λ from. refl;
      books = λ port there. let no : None ≡ Some port = there in absurd (cc);
    })

pub order_of : {T U : Type 0} (publisher index subscriber : ℕ) (account : Account T U) (ports : ServicePorts T U)
    (found : Option (PublisherPort T U)) → port_of publisher ports.publishers ≡ found → leads_at_port index subscriber found ≡ true
    → Holds publisher index subscriber account ports
    → IsPartOf (account.taken ++ (connection_in publisher index ports.publishers).waiting) account.sent
order_of publisher index subscriber account ports None there led holds = cc
order_of {T} {U} publisher index subscriber account ports (Some port) there led holds =
    subst (λ (all : List (Message T U)). IsPartOf (account.taken ++ all) account.sent)
    (sym (ap (λ found. (connection_at_port index found).waiting) there)) ((holds.books port there).part led)

-- what a receive takes is one message, whose slot is named
slot_if : {T U : Type 0} (stands : Bool) (may : DegradationInfo → DegradationAction → Type 0) (list : RollState PublisherEntry)
    (port after : SubscriberPort) (old ports_after : List (ℕ × PublisherPort T U)) (one : Taken)
    → subscribing.ReceivesIf stands may list port old (Some (Ok (Some one))) after ports_after → IsSole one.publisher old
    → (message : Message T U) × (take 1 (connection_in one.publisher one.index old).waiting ≡ message ∷ []) × (one.slot ≡ message.slot)
slot_if false may list port after old ports_after one receives sole = cc (receives.0)
slot_if {T} {U} true may list port after old ports_after one (listed, is_list, outcome, received, receive, is_after, is_answer) sole =
    let same : outcome ≡ Ok (Some one) = cc in
    receives_slot may listed list.changes port received old ports_after one
    (subst (λ value. ReceivesNext may listed list.changes port old value received ports_after) same receive) sole

slot_at : {T U : Type 0} (may : DegradationInfo → DegradationAction → Type 0) (number : ℕ) (found : Option SubscriberPort)
    (old new : ServicePorts T U) (one : Taken)
    → AtSubscriber number (subscribing.ReceivesOne may old.publisher_list) found old (Some (Ok (Some one))) new
    → IsSole one.publisher old.publishers
    → (message : Message T U) × (take 1 (connection_in one.publisher one.index old.publishers).waiting ≡ message ∷ [])
    × (one.slot ≡ message.slot)
slot_at may number None old new one happens sole = cc (happens.0)
slot_at may number (Some port) old new one (after, ports_after, receives, is) sole
    = slot_if port.stands may old.publisher_list port after old.publishers ports_after one receives sole

named_so : {X : Type 0} (same_publisher same_index : Bool) (waiting : List X) → same_publisher ≡ true → same_index ≡ true
    → (if same_publisher && same_index then take 1 waiting else []) ≡ take 1 waiting
named_so same_publisher same_index waiting publisher index = rw publisher (rw index refl)

pub in_order : {T U : Type 0} (overrides : ℕ → ℕ → Type 0) (may : DegradationInfo → DegradationAction → Type 0)
    (decide : BackpressureInfo → BackpressureDecision → Type 0) → InOrder T U overrides may decide
in_order {T} {U} overrides may decide = record {
  order = λ service sizes calls new publisher index subscriber happen led.
      let first : ServicePorts T U = no_ports service sizes in
      order_of publisher index subscriber (account_after publisher index subscriber calls first nothing_yet) new
      (port_of publisher new.publishers) refl led
      (holds_so publisher index subscriber overrides may decide service sizes calls new happen);
  names = λ service sizes calls old new subscriber one happen happens.
      let holds = holds_so one.publisher one.index subscriber overrides may decide service sizes calls old happen in
      let (message, taken, slot) = slot_at may subscriber (subscriber_of subscriber old.subscribers) old new one happens holds.sole in (
        message,
        named_so (one.publisher == one.publisher) (one.index == one.index)
            (connection_in one.publisher one.index old.publishers).waiting (eq-eqb one.publisher one.publisher refl)
            (eq-eqb one.index one.index refl) ∙ taken,
        slot,
      );
}
