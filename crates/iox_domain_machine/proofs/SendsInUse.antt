-- What is true of the header of each message in use of a publisher, after each loan and after each step of a send.
use Rattle.std.proofs.Common.{◌≡◌, ◌-◌, ◌==◌, ◌||◌, ◌∷◌, [], ◌++◌, ℕ, zero, suc, Bool, true, false, not, List, length, nat_lt, nat_le}
use Rattle.std.proofs.Common.{slice_get, is_some, get_or, Option, None, Some, Result, Ok, Err, refl, sym, ap, subst, ◌∙◌, inl, inr}
use Rattle.std.proofs.Common.{if◌then◌else◌}
use Rattle.std.specs.Prelude.{position, ⊤}
use Rattle.std.proofs.lemmas.List.Elements.{All-drop, All-push}
use Rattle.iox_domain.proofs.DomainPorts.Finding.{at_place}
use Rattle.iox_domain.specs.Container.declared.container.Member.{Member}
use Rattle.iox_domain.specs.DescribeBase.declared.header.Header.{Header}
use Rattle.iox_domain.specs.DomainPorts.Lengths.{extent}
use Rattle.iox_domain.specs.DomainPorts.Loaning.{LendsBeyond, LendsHere, LendsInNew, LendsUnless, LendsWhere, LoansIf, first_refusal}
use Rattle.iox_domain.specs.DomainPorts.Loaning.{with_sender}
use Rattle.iox_domain.specs.DomainPorts.Messages.{Loan, Message, sent_as}
use Rattle.iox_domain.specs.DomainPorts.MessagesSending.{is_written_at, opened_for}
use Rattle.iox_domain.specs.DomainPorts.Ports.{connection_of, is_live}
use Rattle.iox_domain.specs.DomainPorts.Progress.{tried_again}
use Rattle.iox_domain.specs.DomainPorts.Sending.{Delivers, Finishes, GoesOn, Sends, SendsAfter, SendsIf, SendsStanding, Steps, begun_at}
use Rattle.iox_domain.specs.DomainPorts.Sending.{begun_by, concluded, decided_by, meeting_at, met, met_by, ready_at, ready_loan}
use Rattle.iox_domain.specs.DomainPorts.Sending.{with_message, with_progress}
use Rattle.iox_domain.specs.DomainPorts.Writing.{changed_if, given_up, given_up_at, loan_of, place_of}
use Rattle.iox_domain.specs.DomainPorts.declared.meeting.Meeting.{Meeting}
use Rattle.iox_domain.specs.DomainPorts.declared.meeting.Meeting.TheVariants as meeting
use Rattle.iox_domain.specs.DomainPorts.declared.meeting.Sent.{Sent}
use Rattle.iox_domain.specs.DomainPorts.declared.meeting.Sent.TheVariants as sent
use Rattle.iox_domain.specs.DomainPorts.declared.publisher_port.PublisherPort.{PublisherPort}
use Rattle.iox_domain.specs.DomainPorts.declared.subscriber_entry.SubscriberEntry.{SubscriberEntry}
use Rattle.iox_domain.specs.DomainSlots.Uses.{offered}
use Rattle.iox_domain.specs.DomainValues.Sequences.{is_used_up, next_sequence}
use Rattle.iox_domain.specs.DomainValues.declared.backpressure.BackpressureDecision.{BackpressureDecision}
use Rattle.iox_domain.specs.DomainValues.declared.backpressure.BackpressureDecision.TheVariants as decided
use Rattle.iox_domain.specs.DomainValues.declared.backpressure.BackpressureInfo.{BackpressureInfo}
use Rattle.iox_domain.specs.DomainValues.declared.connection_failure.ConnectionFailure.{ConnectionFailure}
use Rattle.iox_domain.specs.DomainValues.declared.data_segment.AllocationStrategy.{AllocationStrategy}
use Rattle.iox_domain.specs.DomainValues.declared.degradation.DegradationAction.{DegradationAction}
use Rattle.iox_domain.specs.DomainValues.declared.degradation.DegradationInfo.{DegradationInfo}
use Rattle.iox_domain.specs.DomainValues.declared.port_error.LoanError.{LoanError}
use Rattle.iox_domain.specs.DomainValues.declared.port_error.SendError.{SendError}
use Rattle.iox_domain.specs.DomainValues.declared.port_error.SendError.TheVariants as sending
use Rattle.iox_domain.specs.DomainValues.declared.port_owner.PortOwner.{PortOwner}
use Rattle.iox_domain.specs.Lending as lending
use Rattle.iox_domain.specs.Lending.{LoansOne}
use Rattle.iox_domain.specs.Order.{has_begun}
use Rattle.iox_domain.specs.PortsPublishing as publishing
use Rattle.iox_domain.specs.PortsPublishing.{GivesUpOne, RetriesOne, SendsOne, UpdatesOne, is_blocked, is_free}
use Rattle.iox_domain.specs.Reading.{header_of}
use Rattle.iox_domain.specs.Rolls.{RollState}
use Rattle.iox_domain_machine.proofs.Found.{never_some, same_some}
use Rattle.iox_domain_machine.proofs.MessagesInUse.{Passes, offered_each, so_updates, with_passes}

-- the answer of a send that began says so
begun_answer : (arrived fails : Bool) (delivered : ℕ)
    → has_begun (Some (if arrived then (if fails then Err sending.UnableToDeliver else Ok (sent.Delivered delivered)) else Ok sent.Blocked))
    ≡ true
begun_answer true true delivered = refl
begun_answer true false delivered = refl
begun_answer false fails delivered = refl

module _ {T U : Type 0} (P : Header → Message T U → Type 0) where
  passes_if : (b : Bool) (one other : PublisherPort T U) → Passes P one → Passes P other → Passes P (if b then one else other)
  passes_if true one other is_one is_other = is_one
  passes_if false one other is_one is_other = is_other

  -- the message that is sent comes to a mailbox
  passes_message : (index : ℕ) (message : Option (Message T U)) (port : PublisherPort T U) → port.sender.uses.sending ≡ message
      → Passes P port → Passes P (with_message index message port)
  passes_message index None port is passes = passes
  passes_message index (Some message) port is passes =
      with_passes P index (offered port.sender.uses.overflows message (connection_of index port)) port passes
      (offered_each (λ one. P (header_of port one) one) port.sender.uses.overflows message (connection_of index port)
      (passes.0 message is) (passes.2 index))

  passes_met : (tie : Option ℕ) (port : PublisherPort T U) → Passes P port → Passes P (met_by tie port)
  passes_met None port passes = passes
  passes_met (Some index) port passes =
      passes_if (is_live index port) (with_message index port.sender.uses.sending port) port
      (passes_message index port.sender.uses.sending port refl passes) passes

  passes_decided : (decision : BackpressureDecision) (port : PublisherPort T U) → Passes P port → Passes P (decided_by decision port)
  passes_decided decided.Retry port passes = passes
  passes_decided decided.DiscardData port passes = passes
  passes_decided decided.DiscardDataAndFail port passes = passes

  passes_steps : (may : BackpressureInfo → BackpressureDecision → Type 0) (came : Meeting) (old new : PublisherPort T U) (went : Bool)
      → Steps may came old went new → Passes P old → Passes P new
  passes_steps may meeting.Over old new went steps passes = subst (Passes P) (sym steps.1) passes
  passes_steps may meeting.Passed old new went steps passes = subst (Passes P) (sym steps.1) passes
  passes_steps may meeting.Delivered old new went steps passes = subst (Passes P) (sym steps.1) passes
  passes_steps may (meeting.Full subscriber) old new went steps passes =
      subst (Passes P) (sym steps.3) (passes_decided steps.0 old passes)

  passes_on : (went arrived : Bool) (next new : PublisherPort T U) (further : Type 0) → (further → Passes P new)
      → GoesOn went arrived next new further → Passes P next → Passes P new
  passes_on false arrived next new further rest goes passes = subst (Passes P) (sym goes.1) passes
  passes_on true arrived next new further rest goes passes = rest goes

  passes_delivers : (may : BackpressureInfo → BackpressureDecision → Type 0) (places : ℕ) (old new : PublisherPort T U) (arrived : Bool)
      → Delivers may places old arrived new → Passes P old → Passes P new
  passes_delivers may zero old new arrived delivers passes = subst (Passes P) (sym delivers.1) passes
  passes_delivers may (suc places) old new arrived delivers passes =
      let (went, next, steps, goes) = delivers in
      let there : Passes P next = passes_steps may (meeting_at old.progress.place old) (met old.progress.place old) next went steps
      (passes_met (get_or old.ties.items old.progress.place None) old passes) in
      passes_on went arrived next new (Delivers may places next arrived new)
      (λ further. passes_delivers may places next new arrived further there) goes there

  passes_concluded : (arrived : Bool) (port : PublisherPort T U) → Passes P port → Passes P (concluded arrived port)
  passes_concluded true port passes = (λ message sends. never_some message sends, passes.1, passes.2)
  passes_concluded false port passes = passes

  -- a send goes over the places that are left
  passes_finishes : (may : BackpressureInfo → BackpressureDecision → Type 0) (old new : PublisherPort T U) (answer : Result Sent SendError)
      → Finishes may old answer new → Passes P old → Passes P new
  passes_finishes may old new answer finishes passes =
      let (arrived, gone, delivers, is_answer, is_new) = finishes in
      subst (Passes P) (sym is_new)
      (passes_concluded arrived gone
      (passes_delivers may (length old.ties.items - old.progress.place) old gone arrived delivers passes))

  -- a send begins, of a message of which it holds
  passes_begun : (at : ℕ) (found : Option (Loan T U)) (port : PublisherPort T U)
      → ((loan : Loan T U) → found ≡ Some loan
      → P (header_of port (sent_as (next_sequence port.last_sequence) loan)) (sent_as (next_sequence port.last_sequence) loan))
      → Passes P port → Passes P (begun_by at found port)
  passes_begun at None port here passes = passes
  passes_begun at (Some loan) port here passes =
      let message : Message T U = sent_as (next_sequence port.last_sequence) loan in (
        λ one sends. subst (λ (it : Message T U). P (header_of port it) it) (same_some message one sends) (here loan refl),
        All-drop (λ one. P (header_of port one) one) (length (port.sender.uses.history ++ message ∷ []) - port.sender.uses.kept)
            (port.sender.uses.history ++ message ∷ [])
            (All-push (λ one. P (header_of port one) one) port.sender.uses.history message passes.1 (here loan refl)),
        passes.2,
      )

  -- ---- a send

  -- what a send that answers so makes of a loan passes, with this header
  abbrev pub BeginsSo : PublisherPort T U → Option (Result Sent SendError) → Option (Loan T U) → Type 0
  BeginsSo port answer found =
      has_begun answer ≡ true → (loan : Loan T U) → found ≡ Some loan
      → P (header_of port (sent_as (next_sequence port.last_sequence) loan)) (sent_as (next_sequence port.last_sequence) loan)

  -- an update leaves the loans, the last number, and whose the publisher is
  abbrev LeavesTheRest : PublisherPort T U → List (Loan T U) → Option ℕ → PortOwner → ℕ → Type 0
  LeavesTheRest port loans last owner number =
      (loans ≡ port.sender.uses.loans) × (last ≡ port.last_sequence) × (owner ≡ port.owner) × (number ≡ port.number)

  -- the message has the header that it has before the update
  same_header : (port updated : PublisherPort T U) → updated.owner ≡ port.owner → updated.number ≡ port.number
      → (message : Message T U) → header_of port message ≡ header_of updated message
  same_header port updated owners numbers message =
      ap (λ (owner : PortOwner). record {
        node_id = owner.node_id;
        publisher_id = port.number;
        number_of_elements = message.elements;
        sequence = message.sequence;
      }) (sym owners)
      ∙ ap (λ n. record {
        node_id = updated.owner.node_id;
        publisher_id = n;
        number_of_elements = message.elements;
        sequence = message.sequence;
      }) (sym numbers)

  begins_then : (port updated : PublisherPort T U) (answer : Option (Result Sent SendError)) (found : Option (Loan T U))
      → LeavesTheRest port updated.sender.uses.loans updated.last_sequence updated.owner updated.number
      → BeginsSo port answer found → BeginsSo updated answer found
  begins_then port updated answer found rest begins on loan is =
      subst (λ last. P (header_of updated (sent_as (next_sequence last) loan)) (sent_as (next_sequence last) loan)) (sym rest.1)
      (subst (λ header. P header (sent_as (next_sequence port.last_sequence) loan))
      (same_header port updated rest.2 rest.3 (sent_as (next_sequence port.last_sequence) loan)) (begins on loan is))

  passes_after : (may : BackpressureInfo → BackpressureDecision → Type 0) (at : ℕ) (outcome : Result (Unit {0}) ConnectionFailure)
      (updated new : PublisherPort T U) (answer : Option (Result Sent SendError))
      → BeginsSo updated answer (slice_get updated.sender.uses.loans at)
      → SendsAfter may at outcome updated answer new → Passes P updated → Passes P new
  passes_after may at (Err failure) updated new answer begins sends passes = subst (Passes P) (sym sends.1) passes
  passes_after may at (Ok done) updated new answer begins (finished, finishes, is) passes =
      let (arrived, gone, delivers, is_answer, is_new) = finishes in
      let on : has_begun answer ≡ true = ap has_begun is ∙ ap (λ (one : Result Sent SendError). has_begun (Some one)) is_answer
      ∙ begun_answer arrived gone.progress.fails gone.progress.delivered in
      passes_finishes may (begun_at at updated) new finished finishes
      (passes_begun at (slice_get updated.sender.uses.loans at) updated (begins on) passes)

  passes_standing : (used : Bool) (may_degrade : DegradationInfo → DegradationAction → Type 0)
      (may : BackpressureInfo → BackpressureDecision → Type 0) (listed : List (Option (Member SubscriberEntry))) (changes at : ℕ)
      (old new : PublisherPort T U) (answer : Option (Result Sent SendError)) → BeginsSo old answer (slice_get old.sender.uses.loans at)
      → SendsStanding used may_degrade may listed changes at old answer new → Passes P old → Passes P new
  passes_standing true may_degrade may listed changes at old new answer begins sends passes = subst (Passes P) (sym sends.1) passes
  passes_standing false may_degrade may listed changes at old new answer begins (outcome, updated, updates, after) passes =
      let so = so_updates P (LeavesTheRest old) may_degrade listed changes old updated outcome updates (passes, (refl, refl, refl, refl)) in
      passes_after may at outcome updated new answer
      (subst (λ (loans : List (Loan T U)). BeginsSo updated answer (slice_get loans at)) (sym so.1.0)
      (begins_then old updated answer (slice_get old.sender.uses.loans at) so.1 begins)) after so.0

  passes_sends_if : (stands : Bool) (may_degrade : DegradationInfo → DegradationAction → Type 0)
      (may : BackpressureInfo → BackpressureDecision → Type 0) (listed : List (Option (Member SubscriberEntry))) (changes at : ℕ)
      (old new : PublisherPort T U) (answer : Option (Result Sent SendError)) → BeginsSo old answer (slice_get old.sender.uses.loans at)
      → SendsIf stands may_degrade may listed changes at old answer new → Passes P old → Passes P new
  passes_sends_if false may_degrade may listed changes at old new answer begins sends passes = subst (Passes P) (sym sends.1) passes
  passes_sends_if true may_degrade may listed changes at old new answer begins sends passes =
      passes_standing (is_used_up old.last_sequence) may_degrade may listed changes at old new answer begins sends passes

  -- the loan that may be sent is the one in the slot
  ready_is : (place : Option ℕ) (at : ℕ) (port : PublisherPort T U) → ready_at place port ≡ Some at → place ≡ Some at
  ready_is None at port ready = never_some at ready
  ready_is (Some first) at port ready = by_case (is_some port.sender.uses.sending || not (is_written_at first port.sender.uses)) ready
    where
      by_case : (no : Bool) → (if no then None else Some first) ≡ Some at → Some first ≡ Some at
      by_case true is = never_some at is
      by_case false is = is

  passes_sends_ready : (may_degrade : DegradationInfo → DegradationAction → Type 0)
      (may : BackpressureInfo → BackpressureDecision → Type 0) (listed : List (Option (Member SubscriberEntry))) (changes slot : ℕ)
      (ready : Option ℕ) (old new : PublisherPort T U) (answer : Option (Result Sent SendError)) → ready_loan slot old ≡ ready
      → BeginsSo old answer (loan_of slot old) → Sends may_degrade may listed changes ready old answer new → Passes P old → Passes P new
  passes_sends_ready may_degrade may listed changes slot None old new answer is begins sends passes = subst (Passes P) (sym sends.1) passes
  passes_sends_ready may_degrade may listed changes slot (Some at) old new answer is begins sends passes =
      passes_sends_if old.stands may_degrade may listed changes at old new answer
      (subst (λ (found : Option (Loan T U)). BeginsSo old answer found)
      (sym (at_place (λ (loan : Loan T U). loan.slot == slot) old.sender.uses.loans at
      (sym (ready_is (position (λ (loan : Loan T U). loan.slot == slot) old.sender.uses.loans) at old is)))) begins) sends passes

  -- a publisher sends
  pub passes_sends : (may_degrade : DegradationInfo → DegradationAction → Type 0) (may : BackpressureInfo → BackpressureDecision → Type 0)
      (list : RollState SubscriberEntry) (slot : ℕ) (old new : PublisherPort T U) (answer : Option (Result Sent SendError))
      → BeginsSo old answer (loan_of slot old) → SendsOne may_degrade may list slot old answer new → Passes P old → Passes P new
  passes_sends may_degrade may list slot old new answer begins sends passes =
      passes_sends_ready may_degrade may sends.0 list.changes slot (ready_loan slot old) old new answer refl begins sends.2 passes

  -- ---- what else it does

  passes_retries_if : (blocked : Bool) (may : BackpressureInfo → BackpressureDecision → Type 0) (elapsed : ℕ) (old new : PublisherPort T U)
      (answer : Option (Result Sent SendError)) → publishing.RetriesIf blocked may elapsed old answer new → Passes P old → Passes P new
  passes_retries_if false may elapsed old new answer retries passes = subst (Passes P) (sym retries.1) passes
  passes_retries_if true may elapsed old new answer retries passes =
      passes_finishes may (with_progress (tried_again elapsed old.progress) old) new retries.0 retries.1 passes

  pub passes_retries : (may : BackpressureInfo → BackpressureDecision → Type 0) (elapsed : ℕ) (old new : PublisherPort T U)
      (answer : Option (Result Sent SendError)) → RetriesOne may elapsed old answer new → Passes P old → Passes P new
  passes_retries may elapsed old new answer retries passes = passes_retries_if (is_blocked old) may elapsed old new answer retries passes

  passes_gives_up_if : (blocked : Bool) (old new : PublisherPort T U) (answer : Option ℕ) → publishing.GivesUpIf blocked old answer new
      → Passes P old → Passes P new
  passes_gives_up_if false old new answer gives passes = subst (Passes P) (sym gives.1) passes
  passes_gives_up_if true old new answer gives passes = subst (Passes P) (sym gives.1) (passes_concluded true old passes)

  pub passes_gives_up : (old new : PublisherPort T U) (answer : Option ℕ) → GivesUpOne old answer new → Passes P old → Passes P new
  passes_gives_up old new answer gives passes = passes_gives_up_if (is_blocked old) old new answer gives passes

  passes_updates_if : (free : Bool) (may : DegradationInfo → DegradationAction → Type 0) (list : RollState SubscriberEntry)
      (old new : PublisherPort T U) (answer : Option (Result (Unit {0}) ConnectionFailure))
      → publishing.UpdatesIf free may list old answer new → Passes P old → Passes P new
  passes_updates_if false may list old new answer updates passes = subst (Passes P) (sym updates.1) passes
  passes_updates_if true may list old new answer updates passes =
      (so_updates P (λ loans last owner number. ⊤) may updates.0 list.changes old new updates.2 updates.3 (passes, tt)).0

  pub passes_updates : (may : DegradationInfo → DegradationAction → Type 0) (list : RollState SubscriberEntry) (old new : PublisherPort T U)
      (answer : Option (Result (Unit {0}) ConnectionFailure)) → UpdatesOne may list old answer new → Passes P old → Passes P new
  passes_updates may list old new answer updates passes = passes_updates_if (is_free old) may list old new answer updates passes

  -- what lies in a loan is written, or it is given up
  pub passes_changed : (allowed : Bool) (slot : ℕ) (change : Loan T U → Loan T U) (port : PublisherPort T U) → Passes P port
      → Passes P (changed_if allowed slot change port)
  passes_changed true slot change port passes = passes
  passes_changed false slot change port passes = passes

  passes_given_up_at : (at : Option ℕ) (port : PublisherPort T U) → Passes P port → Passes P (given_up_at at port)
  passes_given_up_at None port passes = passes
  passes_given_up_at (Some at) port passes = passes

  pub passes_given_up : (slot : ℕ) (port : PublisherPort T U) → Passes P port → Passes P (given_up slot port)
  passes_given_up slot port passes = passes_given_up_at (place_of slot port) port passes

  -- ---- a loan

  passes_lends_here : (values elements : ℕ) (old new : PublisherPort T U) (answer : Result ℕ LoanError)
      → LendsHere values elements old answer new → Passes P old → Passes P new
  passes_lends_here values elements old new (Ok slot) lends passes =
      subst (Passes P) (sym (lends.1 ∙ ap (λ sender. with_sender sender old) lends.0.3)) passes
  passes_lends_here values elements old new (Err error) lends passes =
      subst (Passes P) (sym (lends.2 ∙ ap (λ sender. with_sender sender old) lends.1.1)) passes

  passes_lends_new : (room values elements : ℕ) (old new : PublisherPort T U) (answer : Result ℕ LoanError)
      → LendsInNew room values elements old answer new → Passes P old → Passes P new
  passes_lends_new room values elements old new answer (inl lends) passes =
      passes_lends_here values elements (with_sender (opened_for room old.sender) old) new answer lends passes
  passes_lends_new room values elements old new answer (inr lacks) passes = subst (Passes P) (sym lacks.1) passes

  passes_lends_beyond : (room : Option ℕ) (more : Bool) (values elements : ℕ) (old new : PublisherPort T U) (answer : Result ℕ LoanError)
      → LendsBeyond room more values elements old answer new → Passes P old → Passes P new
  passes_lends_beyond None more values elements old new answer lends passes = subst (Passes P) (sym lends.1) passes
  passes_lends_beyond (Some room) false values elements old new answer lends passes = subst (Passes P) (sym lends.1) passes
  passes_lends_beyond (Some room) true values elements old new answer lends passes =
      passes_lends_new room values elements old new answer lends passes

  passes_lends_where : (fits : Bool) (allocation : AllocationStrategy) (values elements : ℕ) (old new : PublisherPort T U)
      (answer : Result ℕ LoanError) → LendsWhere fits allocation values elements old answer new → Passes P old → Passes P new
  passes_lends_where true allocation values elements old new answer lends passes =
      passes_lends_here values elements old new answer lends passes
  passes_lends_where false allocation values elements old new answer lends passes =
      passes_lends_beyond lends.0 (nat_lt old.sender.segments old.sender.most_segments) values elements old new answer lends.2 passes

  passes_lends_unless : (refused : Option LoanError) (allocation : AllocationStrategy) (values elements : ℕ) (old new : PublisherPort T U)
      (answer : Result ℕ LoanError) → LendsUnless refused allocation values elements old answer new → Passes P old → Passes P new
  passes_lends_unless (Some error) allocation values elements old new answer lends passes = subst (Passes P) (sym lends.1) passes
  passes_lends_unless None allocation values elements old new answer lends passes =
      passes_lends_where (nat_le (extent old.unit values elements) old.sender.room) allocation values elements old new answer lends passes

  passes_loans_if : (sending : Bool) (allocation : AllocationStrategy) (values elements : ℕ) (old new : PublisherPort T U)
      (answer : Option (Result ℕ LoanError)) → LoansIf sending allocation values elements old answer new → Passes P old → Passes P new
  passes_loans_if true allocation values elements old new answer loans passes = subst (Passes P) (sym loans.1) passes
  passes_loans_if false allocation values elements old new answer loans passes =
      passes_lends_unless (first_refusal allocation values elements old) allocation values elements old new loans.0 loans.2 passes

  passes_loans_one : (stands : Bool) (values elements : ℕ) (old new : PublisherPort T U) (answer : Option (Result ℕ LoanError))
      → lending.LoansIf stands values elements old answer new → Passes P old → Passes P new
  passes_loans_one false values elements old new answer loans passes = subst (Passes P) (sym loans.1) passes
  passes_loans_one true values elements old new answer loans passes =
      passes_loans_if (is_some old.sender.uses.sending) old.allocation values elements old new answer loans passes

  pub passes_loans : (values elements : ℕ) (old new : PublisherPort T U) (answer : Option (Result ℕ LoanError))
      → LoansOne values elements old answer new → Passes P old → Passes P new
  passes_loans values elements old new answer loans passes = passes_loans_one old.stands values elements old new answer loans passes
