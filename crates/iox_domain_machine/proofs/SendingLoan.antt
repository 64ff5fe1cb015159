-- The loan with a given number is sent, in a domain and in the machine.
use Rattle.std.proofs.Common.{◌≡◌, ◌&&◌, ◌||◌, ℕ, Bool, true, false, not, List, Option, None, Some, Result, Ok, Err, refl, sym, ap, subst}
use Rattle.std.proofs.Common.{◌∙◌, if◌then◌else◌}
use Rattle.std.proofs.Math.Logic.{⊎_elim}
use Rattle.std.proofs.lemmas.Bool.{eqb-true}
use Rattle.std.specs.List.{list_all}
use Rattle.std.specs.Prelude.{is_some, MatchBool, MatchOption, ◌==◌}
use Rattle.iox_command.specs.DomainValues.declared.backpressure.BackpressureDecision.{BackpressureDecision}
use Rattle.iox_command.specs.DomainValues.declared.backpressure.BackpressureInfo.{BackpressureInfo}
use Rattle.iox_command.specs.DomainValues.declared.connection_failure.ConnectionFailure.{ConnectionFailure}
use Rattle.iox_command.specs.DomainValues.declared.degradation.DegradationAction.{DegradationAction}
use Rattle.iox_command.specs.DomainValues.declared.degradation.DegradationInfo.{DegradationInfo}
use Rattle.iox_command.specs.DomainValues.declared.port_error.SendError.{SendError}
use Rattle.iox_command.specs.DomainValues.declared.port_error.SendError.TheVariants as error
use Rattle.iox_command.specs.NegotiateBase.DescribeBase.declared.message_type.MessageTypeDetails.{MessageTypeDetails}
use Rattle.iox_command.specs.declared.command.Command.TheVariants as command
use Rattle.iox_command.specs.declared.refusal.Refusal.TheVariants as refusal
use Rattle.iox_command.specs.declared.reply.Reply.{Reply}
use Rattle.iox_command.specs.declared.reply.Reply.TheVariants as reply
use Rattle.iox_domain.proofs.Numbered.{at_number, same_set}
use Rattle.iox_domain.proofs.ListKeeps.{tidy_found}
use Rattle.iox_domain.specs.Container.declared.container.Member.{Member}
use Rattle.iox_domain.specs.DomainPorts.Messages as domain
use Rattle.iox_domain.specs.DomainPorts.MessagesSending.{is_written_loan}
use Rattle.iox_domain.specs.DomainPorts.PublisherUpdating.{Updates}
use Rattle.iox_domain.specs.DomainPorts.Publishers.{with_port}
use Rattle.iox_domain.specs.DomainPorts.Sending.{ready_at, ready_loan, begun_at, dropped_at, Finishes, Sends, SendsIf, SendsAfter}
use Rattle.iox_domain.specs.DomainPorts.Sending.{SendsStanding}
use Rattle.iox_domain.specs.DomainPorts.declared.attached.Taken.{Taken}
use Rattle.iox_domain.specs.DomainPorts.declared.meeting.Sent.{Sent}
use Rattle.iox_domain.specs.DomainPorts.declared.publisher_port.PublisherPort.{PublisherPort}
use Rattle.iox_domain.specs.DomainPorts.declared.subscriber_entry.SubscriberEntry.{SubscriberEntry}
use Rattle.iox_domain.specs.DomainValues.Sequences.{is_used_up}
use Rattle.iox_machine.proofs.Shorthands as shorthands
use Rattle.iox_domain.specs.Ports.{AtPublisher, with_publisher}
use Rattle.iox_domain.specs.PortsPublishing.{SendsOne}
use Rattle.iox_domain.specs.Rolls.{IsListOf}
use Rattle.iox_domain.specs.Roomy.{AreRoomy}
use Rattle.iox_domain.specs.declared.ports.service_ports.ServicePorts.{ServicePorts}
use Rattle.iox_domain_machine.specs.Laws.{Matches}
use Rattle.iox_domain_machine.specs.Naming.{Naming, with_name}
use Rattle.iox_domain_machine.specs.PublisherUpdateLaws.{DegradesAs}
use Rattle.iox_domain_machine.specs.Publishers.{BlockedStandsFor}
use Rattle.iox_domain_machine.specs.SendLaws.{SendMatches, DecidesAs, sent_or_skipped, lent_after_send}
use Rattle.iox_domain_machine.specs.Standing.{StandsFor, PublisherIs}
use Rattle.iox_domain_machine.specs.Tables.{LentSlot, loan_as}
use Rattle.iox_domain_machine.proofs.Alone.{alone_does}
use Rattle.iox_domain_machine.proofs.Changing.{with_one}
use Rattle.iox_domain_machine.proofs.Dropping as dropping
use Rattle.iox_domain_machine.proofs.FollowFirst.{ItsUpdate, update_is}
use Rattle.iox_domain_machine.proofs.Found.{same_some, never_some, never_true, same_everywhere}
use Rattle.iox_domain_machine.proofs.GivingUp.{kept_there, none_blocked}
use Rattle.iox_domain_machine.proofs.SendBegins.{found_at, begins}
use Rattle.iox_domain_machine.proofs.SendReady.{is_ready, within_limit}
use Rattle.iox_domain_machine.proofs.SendUpdated.{UpdatesAndSends, updated_goes_on, updated_fails}
use Rattle.iox_domain_machine.proofs.Settling.{settled_stands}
use Rattle.iox_domain_machine.proofs.Writing.{IsThere, is_there, goes_there, same_values}
use Rattle.iox_machine.specs.Choices.{Choices}
use Rattle.iox_machine.specs.RunLaws.{sent_as}
use Rattle.iox_machine.specs.Message as machine
use Rattle.iox_machine.specs.RunLaws as run_laws
use Rattle.iox_machine.specs.PortList.{PortList}
use Rattle.iox_machine.specs.Ports.{SendsLoan}
use Rattle.iox_machine.specs.PublisherUpdate.{UpdatesFirst}
use Rattle.iox_machine.proofs.Shorthands.{IsSkipped, IsRefused}
use Rattle.iox_machine.specs.Sending as sending
use Rattle.iox_machine.specs.Service.{Service, Publisher}
use Rattle.iox_machine.specs.State.{State}
use Rattle.iox_machine.specs.Table.{at, removed}

and_false : (b : Bool) → (b && false) ≡ false
and_false true = refl
and_false false = refl

none_of : {X : Type 0} (found : Option X) → is_some found ≡ false → found ≡ None
none_of None is = refl
none_of (Some x) is = never_true (sym is)

-- nothing changes where the name that is there is given again
same_name : {V : Type 0} (number : ℕ) (names : ℕ → V) → with_name number (names number) names ≡ names
same_name number names = same_everywhere (with_name number (names number) names) names (λ other. by other (other == number) refl)
  where
    by : (other : ℕ) (b : Bool) → (other == number) ≡ b → with_name number (names number) names other ≡ names other
    by other true is = ap (λ b. if b then names number else names other) is ∙ ap names (sym (eqb-true other number is))
    by other false is = ap (λ b. if b then names number else names other) is

module _ {T U : Type 0} (types : MessageTypeDetails) (choices : Choices T) (buffer : ℕ)
    (may_degrade : DegradationInfo → DegradationAction → Type 0) (may : BackpressureInfo → BackpressureDecision → Type 0) (names : Naming)
    (lent : List (ℕ × LentSlot)) (held : List (ℕ × Taken)) (old : ServicePorts T U) (service : Service T) (state : State T) (loan : ℕ)
    (out : LentSlot) (stands : StandsFor names lent held buffer old service) (roomy : AreRoomy old) (goes : at loan lent ≡ Some out)
    (decides : (publisher : Publisher T) → at (names.publisher out.publisher) service.publishers ≡ Some publisher
    → publisher.stands ≡ true → DecidesAs choices may (names.publisher out.publisher) publisher)
    (degrades : DegradesAs choices may_degrade (names.publisher out.publisher) service) where
  abbrev there : IsThere old out
  there = is_there names lent held buffer old service loan out stands goes

  abbrev port : PublisherPort T U
  port = there.port

  abbrev name : ℕ
  name = names.publisher out.publisher

  abbrev was : PublisherIs names old service out.publisher port
  was = stands.publishers out.publisher port there.there

  abbrev place : ℕ
  place = dropping.place names lent held buffer old service loan out stands goes

  abbrev lent_loan : machine.Loan T
  lent_loan = loan_as names old out

  abbrev before : Service T
  before = record service { loans = removed loan service.loans }

  -- the names where the subscribers at the connections of the publisher have these
  abbrev read_by : (ℕ → ℕ) → Naming
  read_by reader = record names { reader = with_name out.publisher reader names.reader }

  abbrev Comes : Option (Result Sent SendError) → ServicePorts T U → Type 0
  Comes answer new =
      (reader : ℕ → ℕ) × Matches T U choices types buffer (command.Send loan) (sent_or_skipped answer) state service (read_by reader)
      (lent_after_send loan answer lent) held new

  -- where no connection is made the names are the same
  stays : (after_lent : List (ℕ × LentSlot)) (new : ServicePorts T U) (after : Service T)
      → StandsFor names after_lent held buffer new after → StandsFor (read_by (names.reader out.publisher)) after_lent held buffer new after
  stays after_lent new after it =
      subst (λ reader. StandsFor (record names { reader = reader }) after_lent held buffer new after)
      (sym (same_name out.publisher names.reader)) it

  -- what the machine does with the message of the loan, where the numbers of its publisher are used up, or aren't
  abbrev SendsNumbered : Bool → Reply T → Service T → Type 0
  SendsNumbered used answered after =
      MatchBool used
      (IsRefused {T = T} (refusal.Send error.InternalError) before answered after)
      (UpdatesFirst choices name (λ failure. refusal.Send (error.ConnectionError failure))
      (sending.Begins choices name (sent_as lent_loan)) was.0
      before answered after)

  -- and where its publisher stands, or left
  abbrev SendsIt : Bool → Reply T → Service T → Type 0
  SendsIt standing answered after =
      MatchBool standing
      (SendsNumbered (shorthands.is_used_up was.0.last_sequence) answered after)
      (IsRefused {T = T} (refusal.Send error.ConnectionBrokenSinceSenderNoLongerExists) before answered after)

  -- and where the loan is written and no send is blocked, or it isn't and one is
  abbrev Does : Bool → Reply T → Service T → Type 0
  Does may_send answered after =
      MatchBool may_send (SendsIt was.0.stands answered after) (IsSkipped {T = T} service answered after)

  comes : (may_send : Bool) → (run_laws.is_written lent_loan && not (is_some was.0.blocked)) ≡ may_send
      → (answer : Option (Result Sent SendError)) (new : ServicePorts T U) (after : Service T)
      → Does may_send (sent_or_skipped answer) after → (reader : ℕ → ℕ)
      → StandsFor (read_by reader) (lent_after_send loan answer lent) held buffer new after → Comes answer new
  comes may_send is answer new after does reader after_stands = (
    reader,
    (
      after,
      alone_does (λ (one : Service T). at loan one.loans) (SendsLoan choices loan) state service after (sent_or_skipped answer) lent_loan
          (goes_there names lent held buffer old service loan out stands goes)
          (subst (λ (found : Option (Publisher T)). MatchOption found (IsSkipped {T = T} service (sent_or_skipped answer) after)
          (λ publisher. MatchBool (run_laws.is_written lent_loan && not (is_some publisher.blocked))
          (sending.Sends choices name (sent_as lent_loan) publisher before (sent_or_skipped {T = T} answer) after)
          (IsSkipped {T = T} service (sent_or_skipped answer) after))) (sym was.1)
          (subst (λ b. Does b (sent_or_skipped {T = T} answer) after) (sym is) does)),
      after_stands,
    ),
  )

  -- a loan is written in both, or in neither
  written_alike : run_laws.is_written lent_loan ≡ domain.is_written there.loan
  written_alike = ap (list_all is_some) (same_values names lent held buffer old service loan out stands goes)

  -- and a send is blocked of both, or of neither
  blocked_by : (waiting : Option (domain.Message T U)) → port.sender.uses.sending ≡ waiting → is_some was.0.blocked ≡ is_some waiting
  blocked_by None free =
      ap is_some (none_blocked (names.message out.publisher) was.0.connected port.progress port.sender.uses.sending was.0.blocked free
      was.2.blocked)
  blocked_by (Some message) waits =
      let blocked = subst (λ (one : Option (domain.Message T U)). BlockedStandsFor (names.message out.publisher) was.0.connected
      port.progress one was.0.blocked) waits was.2.blocked in
      ap is_some blocked.1

  skips : (run_laws.is_written lent_loan && not (is_some was.0.blocked)) ≡ false → Comes None old
  skips is = comes false is None old service (refl, refl) (names.reader out.publisher) (stays lent old service stands)

  -- numbers are used up of both, or of neither
  used_alike : shorthands.is_used_up was.0.last_sequence ≡ is_used_up port.last_sequence
  used_alike = ap shorthands.is_used_up was.2.last_sequence ∙ same_used port.last_sequence
    where
      same_used : (last : Option ℕ) → shorthands.is_used_up last ≡ is_used_up last
      same_used None = refl
      same_used (Some last) = refl

  -- a send is refused before its update: the loan is given up
  refuses : (why : SendError) → (run_laws.is_written lent_loan && not (is_some was.0.blocked)) ≡ true
      → SendsIt was.0.stands (reply.Refused (refusal.Send why)) before
      → Comes (Some (Err why)) (with_publisher out.publisher (dropping.after names lent held buffer old service loan out stands goes) old)
  refuses why is does =
      comes true is (Some (Err why))
      (with_publisher out.publisher (dropping.after names lent held buffer old service loan out stands goes) old) before
      does (names.reader out.publisher)
      (stays (removed loan lent)
      (with_publisher out.publisher (dropping.after names lent held buffer old service loan out stands goes) old) before
      (settled_stands names (removed loan lent) held buffer
      (with_one out.publisher (dropping.after names lent held buffer old service loan out stands goes) old) before out.publisher
      (dropping.after names lent held buffer old service loan out stands goes)
      (dropping.dropped_stands names lent held buffer old service loan out stands goes)
      (tidy_found old.next_port out.publisher old.publishers port roomy.sound there.there)
      (same_set (at_number out.publisher) old.publishers
      (dropping.after names lent held buffer old service loan out stands goes) port there.there)))

  -- the publisher left
  breaks : port.stands ≡ false → (run_laws.is_written lent_loan && not (is_some was.0.blocked)) ≡ true
      → Comes (Some (Err error.ConnectionBrokenSinceSenderNoLongerExists))
      (with_publisher out.publisher (dropping.after names lent held buffer old service loan out stands goes) old)
  breaks left is =
      refuses error.ConnectionBrokenSinceSenderNoLongerExists is
      (subst (λ b. SendsIt b (reply.Refused (refusal.Send error.ConnectionBrokenSinceSenderNoLongerExists)) before)
      (sym (was.2.stands ∙ left)) (refl, refl))

  -- its last message has the last number
  runs_out : port.stands ≡ true → is_used_up port.last_sequence ≡ true
      → (run_laws.is_written lent_loan && not (is_some was.0.blocked)) ≡ true
      → Comes (Some (Err error.InternalError))
      (with_publisher out.publisher (dropping.after names lent held buffer old service loan out stands goes) old)
  runs_out standing used is =
      refuses error.InternalError is
      (subst (λ b. SendsIt b (reply.Refused (refusal.Send error.InternalError)) before) (sym (was.2.stands ∙ standing))
      (subst (λ b. SendsNumbered b (reply.Refused (refusal.Send error.InternalError)) before) (sym (used_alike ∙ used)) (refl, refl)))

  module _ (free : port.sender.uses.sending ≡ None) (standing : port.stands ≡ true) (unused : is_used_up port.last_sequence ≡ false)
      (is : (run_laws.is_written lent_loan && not (is_some was.0.blocked)) ≡ true) where
    -- what a publisher does that stands, and has a number left
    sends_it : (answer : Result Sent SendError) (after : PublisherPort T U) (new : Service T)
        → UpdatesAndSends choices names lent held buffer old service loan out stands roomy goes may may_degrade
        (sent_or_skipped (Some answer)) new → (reader : ℕ → ℕ)
        → StandsFor (read_by reader) (removed loan lent) held buffer (with_publisher out.publisher after old) new
        → Comes (Some answer) (with_publisher out.publisher after old)
    sends_it answer after new does reader after_stands =
        comes true is (Some answer) (with_publisher out.publisher after old) new
        (subst (λ b. SendsIt b (sent_or_skipped (Some answer)) new) (sym (was.2.stands ∙ standing))
        (subst (λ b. SendsNumbered b (sent_or_skipped (Some answer)) new) (sym (used_alike ∙ unused)) does)) reader after_stands

    -- no update is due in the machine either
    seen_alike : (port.seen == old.subscriber_list.changes) ≡ true → (was.0.seen == before.subscriber_list.changes) ≡ true
    seen_alike seen =
        ap (λ n. n == before.subscriber_list.changes) was.2.seen
        ∙ ap (λ (list : PortList). port.seen == list.changes) stands.subscriber_list ∙ seen

    goes_on : (port.seen == old.subscriber_list.changes) ≡ true → (answer : Result Sent SendError) (after : PublisherPort T U)
        → Finishes may (begun_at place port) answer after → Comes (Some answer) (with_publisher out.publisher after old)
    goes_on seen answer after finishes =
        let to = begins choices names lent held buffer old service loan out stands goes may free standing
        (is_ready choices names lent held buffer old service stands roomy out.publisher port there.there standing may was.0
        (decides was.0 was.1 (was.2.stands ∙ standing)))
        (within_limit old roomy out.publisher port there.there) answer after finishes in
        sends_it answer after to.0 (rw (seen_alike seen) to.1) (names.reader out.publisher)
        (stays (removed loan lent) (with_publisher out.publisher after old) to.0
        (subst (λ (ports : List (ℕ × PublisherPort T U)). StandsFor names (removed loan lent) held buffer
        (record old { publishers = ports }) to.0)
        (sym (kept_there out.publisher after (with_port out.publisher old.publishers after)
        (same_set (at_number out.publisher) old.publishers after port there.there) to.3)) to.2))

  -- what a call comes to
  abbrev Gone : Option (Result Sent SendError) → PublisherPort T U → Type 0
  Gone answer after =
      (result : Result Sent SendError) × (answer ≡ Some result) × Comes (Some result) (with_publisher out.publisher after old)

  module _ (listed : List (Option (Member SubscriberEntry))) (tells : IsListOf listed old.subscriber_list) where
    module _ (free : port.sender.uses.sending ≡ None) (standing : port.stands ≡ true) (unused : is_used_up port.last_sequence ≡ false)
        (is : (run_laws.is_written lent_loan && not (is_some was.0.blocked)) ≡ true) (outcome : Result (Unit {0}) ConnectionFailure)
        (updated : PublisherPort T U) (updates : Updates may_degrade listed old.subscriber_list.changes port outcome updated)
        (answer : Option (Result Sent SendError)) (after : PublisherPort T U) where
      -- the list didn't change
      unchanged : (port.seen == old.subscriber_list.changes) ≡ true → outcome ≡ Ok tt → updated ≡ port
          → SendsAfter may place outcome updated answer after → Gone answer after
      unchanged seen done same sent =
          let on : SendsAfter may place (Ok tt) port answer after =
          subst (λ (one : PublisherPort T U). SendsAfter may place (Ok tt) one answer after) same
          (subst (λ (result : Result (Unit {0}) ConnectionFailure). SendsAfter may place result updated answer after) done sent) in
          (on.0, on.2, goes_on free standing unused is seen on.0 after on.1)

      -- it did
      module _ (unseen : (port.seen == old.subscriber_list.changes) ≡ false)
          (followed : ItsUpdate names lent held buffer old service stands out.publisher port updated there.there
          (choices.publisher_acts name was.0.degradation) outcome) where
        follows : (result : Result (Unit {0}) ConnectionFailure) → outcome ≡ result → SendsAfter may place result updated answer after
            → Gone answer after
        follows (Ok done) is_done sent =
            let to = updated_goes_on choices names lent held buffer old service loan out stands roomy goes may may_degrade listed outcome
            updated
            tells updates standing free (decides was.0 was.1 (was.2.stands ∙ standing)) followed unseen is_done
            sent.0 after sent.1 in
            (sent.0, sent.2, sends_it free standing unused is sent.0 after to.0 to.1 followed.new_reader to.2)
        follows (Err failure) failed sent =
            let to = updated_fails choices names lent held buffer old service loan out stands roomy goes may may_degrade listed outcome
            updated
            tells updates standing free (decides was.0 was.1 (was.2.stands ∙ standing)) followed unseen failure
            failed in (
              Err (error.ConnectionError failure),
              sent.0,
              subst (λ (one : PublisherPort T U). Comes (Some (Err (error.ConnectionError failure))) (with_publisher out.publisher one old))
                  (sym sent.1)
                  (sends_it free standing unused is (Err (error.ConnectionError failure)) (dropped_at place updated) to.0 to.1
                  followed.new_reader to.2),
            )

      sends_after : SendsAfter may place outcome updated answer after → Gone answer after
      sends_after sent = ⊎_elim
          (λ same. unchanged same.0 same.1 same.2 sent)
          (λ changed. follows changed.0 changed.1 outcome refl sent)
          (update_is names lent held buffer old service stands out.publisher port updated there.there
          (choices.publisher_acts name was.0.degradation) outcome may_degrade
          roomy.tied roomy.allowed standing free (degrades was.0 was.1 (was.2.stands ∙ standing)) listed tells updates)

    sends_standing : port.sender.uses.sending ≡ None → port.stands ≡ true
        → (run_laws.is_written lent_loan && not (is_some was.0.blocked)) ≡ true
        → (used : Bool) → is_used_up port.last_sequence ≡ used → (answer : Option (Result Sent SendError)) (after : PublisherPort T U)
        → SendsStanding used may_degrade may listed old.subscriber_list.changes place port answer after → Gone answer after
    sends_standing free standing is true used answer after sends = (
      Err error.InternalError,
      sends.0,
      subst (λ (one : PublisherPort T U). Comes (Some (Err error.InternalError)) (with_publisher out.publisher one old)) (sym sends.1)
          (runs_out standing used is),
    )
    sends_standing free standing is false unused answer after sends =
        sends_after free standing unused is sends.0 sends.1 sends.2 answer after sends.3

    sends_if : port.sender.uses.sending ≡ None → (run_laws.is_written lent_loan && not (is_some was.0.blocked)) ≡ true
        → (standing : Bool) → port.stands ≡ standing → (answer : Option (Result Sent SendError)) (after : PublisherPort T U)
        → SendsIf standing may_degrade may listed old.subscriber_list.changes place port answer after → Gone answer after
    sends_if free is false left answer after sends = (
      Err error.ConnectionBrokenSinceSenderNoLongerExists,
      sends.0,
      subst (λ (one : PublisherPort T U). Comes (Some (Err error.ConnectionBrokenSinceSenderNoLongerExists))
          (with_publisher out.publisher one old)) (sym sends.1) (breaks left is),
    )
    sends_if free is true standing answer after sends =
        sends_standing free standing is (is_used_up port.last_sequence) refl answer after sends

    -- the ports after a call, which did nothing where it answers none
    abbrev Leaves : Option (Result Sent SendError) → PublisherPort T U → ServicePorts T U → Type 0
    Leaves None after new = new ≡ old
    Leaves (Some result) after new = new ≡ with_publisher out.publisher after old

    skips_by : (run_laws.is_written lent_loan && not (is_some was.0.blocked)) ≡ false → (answer : Option (Result Sent SendError))
        (after : PublisherPort T U) (new : ServicePorts T U) → answer ≡ None → Leaves answer after new → Comes answer new
    skips_by is None after new none leaves = subst (λ (ports : ServicePorts T U). Comes None ports) (sym leaves) (skips is)
    skips_by is (Some result) after new none leaves = never_some result (sym none)

    gone_by : (answer : Option (Result Sent SendError)) (after : PublisherPort T U) (new : ServicePorts T U) → Gone answer after
        → Leaves answer after new → Comes answer new
    gone_by None after new gone leaves = never_some gone.0 gone.1
    gone_by (Some result) after new gone leaves =
        subst (λ (ports : ServicePorts T U). Comes (Some result) ports) (sym leaves)
        (subst (λ (one : Result Sent SendError). Comes (Some one) (with_publisher out.publisher after old))
        (sym (same_some result gone.0 gone.1)) gone.2)

    -- whether the machine's may be sent
    may_send : (waits written : Bool) → is_some port.sender.uses.sending ≡ waits → domain.is_written there.loan ≡ written
        → (run_laws.is_written lent_loan && not (is_some was.0.blocked)) ≡ (written && not waits)
    may_send waits written is_waiting is_written =
        ap (λ b. b && not (is_some was.0.blocked)) (written_alike ∙ is_written)
        ∙ ap (λ b. written && not b) (blocked_by port.sender.uses.sending refl ∙ is_waiting)

    by_ready : (waits written : Bool) → is_some port.sender.uses.sending ≡ waits → domain.is_written there.loan ≡ written
        → (answer : Option (Result Sent SendError)) (after : PublisherPort T U) (new : ServicePorts T U)
        → Sends may_degrade may listed old.subscriber_list.changes (if waits || not written then None else Some place) port answer after
        → Leaves answer after new → Comes answer new
    by_ready true written is_waiting is_written answer after new sends leaves =
        skips_by (may_send true written is_waiting is_written ∙ and_false written) answer after new sends.0 leaves
    by_ready false false is_waiting is_written answer after new sends leaves =
        skips_by (may_send false false is_waiting is_written) answer after new sends.0 leaves
    by_ready false true is_waiting is_written answer after new sends leaves =
        gone_by answer after new
        (sends_if (none_of port.sender.uses.sending is_waiting) (may_send false true is_waiting is_written) port.stands refl answer after
        sends) leaves

    ready_is : ready_loan out.slot port
        ≡ (if is_some port.sender.uses.sending || not (domain.is_written there.loan) then None else Some place)
    ready_is =
        ap (λ found. ready_at found port) (dropping.is_placed names lent held buffer old service loan out stands goes)
        ∙ ap (λ found. if is_some port.sender.uses.sending || not (is_written_loan found) then None else Some place)
        (found_at (λ (one : domain.Loan T U). one.slot == out.slot) port.sender.uses.loans there.loan there.found).0

    sends_one : (answer : Option (Result Sent SendError)) (after : PublisherPort T U) (new : ServicePorts T U)
        → Sends may_degrade may listed old.subscriber_list.changes (ready_loan out.slot port) port answer after
        → Leaves answer after new → Comes answer new
    sends_one answer after new sends leaves =
        by_ready (is_some port.sender.uses.sending) (domain.is_written there.loan) refl refl answer after new
        (subst (λ ready. Sends may_degrade may listed old.subscriber_list.changes ready port answer after) ready_is sends) leaves

  by_answer : (answer : Option (Result Sent SendError)) (new : ServicePorts T U)
      → AtPublisher out.publisher (SendsOne may_degrade may old.subscriber_list out.slot) (Some port) old answer new → Comes answer new
  by_answer None new call = sends_one call.1.0 call.1.1 None call.0 new call.1.2 call.2
  by_answer (Some result) new call = sends_one call.1.0 call.1.1 (Some result) call.0 new call.1.2 call.2

pub send_matches : (T U : Type 0) (choices : Choices T) (may : BackpressureInfo → BackpressureDecision → Type 0)
    (may_degrade : DegradationInfo → DegradationAction → Type 0) → SendMatches T U choices may may_degrade
send_matches T U choices may may_degrade types buffer names lent held old new service state loan out answer stands roomy goes
    decides degrades call =
    let there = is_there names lent held buffer old service loan out stands goes in
    by_answer types choices buffer may_degrade may names lent held old service state loan out stands roomy goes decides
    degrades answer new
    (subst (λ (found : Option (PublisherPort T U)). AtPublisher out.publisher
    (SendsOne may_degrade may old.subscriber_list out.slot) found old answer new) there.there call)
