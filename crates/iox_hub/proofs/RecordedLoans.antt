-- Calls on loans keep a recorded hub tied to what was asked of it, and are told in the words of their contracts.
use Rattle.std.proofs.Common.{◌≡◌, ◌∙◌, ◌||◌, ◌==◌, ℕ, Bool, true, false, length, List, Option, None, Some}
use Rattle.std.proofs.Common.{Result, Ok, Err}
use Rattle.std.proofs.Common.{IfOk, IfErr, IfSome, MatchResult, refl, sym, ap, subst, is_ok, if◌then◌else◌}
use Rattle.std.specs.Result.{result_ok}
use Rattle.iox_command.specs.declared.command.Command.{Command}
use Rattle.iox_command.specs.declared.command.Command.TheVariants as command
use Rattle.iox_command.specs.declared.refusal.Refusal.TheVariants as refusal
use Rattle.iox_command.specs.declared.reply.Reply.{Reply}
use Rattle.iox_command.specs.declared.reply.Reply.TheVariants as reply
use Rattle.iox_container.proofs.Rising.{Rises-push, Rises-removed}
use Rattle.iox_container.proofs.Telling.{put as found_next}
use Rattle.iox_container.specs.NumberTable.{Rises, inserted, removed, value_at}
use Rattle.iox_delivery.specs.Holding.{loan_found, publisher_blocked, publisher_stands}
use Rattle.iox_delivery.specs.DomainPorts.Messages.{write_value}
use Rattle.iox_delivery.specs.Publishing.{GivesUpLoan, SendsSample, lent_of, loan_changed, written_of}
use Rattle.iox_delivery.specs.Slices.{LendsDefaults, LendsSlice, WritesAll}
use Rattle.iox_delivery.specs.declared.kind.Slice.{Slice}
use Rattle.iox_delivery.specs.declared.loan.Loan.{Loan as Lent}
use Rattle.iox_delivery.specs.declared.loan.Uninit.{Uninit}
use Rattle.iox_delivery.specs.declared.loan.Written.{Written}
use Rattle.iox_delivery.specs.declared.port_id.PortId.{PortId}
use Rattle.iox_delivery.specs.declared.sent.Sent.{Sent}
use Rattle.iox_delivery.specs.declared.sent.Sent.TheVariants as sent
use Rattle.iox_domain.specs.Steps.{LoansBy, SendsBy}
use Rattle.iox_hub_base.specs.AsHome.{hub_ports, with_hub_ports}
use Rattle.iox_hub_base.specs.declared.hub.Hub.{Hub}
use Rattle.iox_hub_commands.specs.Calls.{AtPort, Lends, LendsWritten, may_lend}
use Rattle.iox_hub_commands.specs.CommandSteps.{publisher_may_decide, publisher_may_degrade}
use Rattle.iox_hub_commands.specs.DomainValues.declared.backpressure.BackpressureDecision.{BackpressureDecision}
use Rattle.iox_hub_commands.specs.DomainValues.declared.backpressure.BackpressureInfo.{BackpressureInfo}
use Rattle.iox_hub_commands.specs.DomainValues.declared.degradation.DegradationAction.{DegradationAction}
use Rattle.iox_hub_commands.specs.DomainValues.declared.degradation.DegradationCause.{DegradationCause}
use Rattle.iox_hub_commands.specs.DomainValues.declared.degradation.DegradationInfo.{DegradationInfo}
use Rattle.iox_hub_commands.specs.DomainValues.declared.port_error.LoanError.{LoanError}
use Rattle.iox_hub_commands.specs.DomainValues.declared.port_error.SendError.{SendError}
use Rattle.iox_hub_commands.specs.Loans.{SendsUnder, fits_in, is_set, loan_under}
use Rattle.iox_hub_commands.specs.Numbering.{removed_if}
use Rattle.iox_hub_commands.specs.Replies.{done_reply}
use Rattle.iox_hub_commands.specs.Tables.{lender, port_under, without_loan}
use Rattle.iox_hub_commands.specs.declared.ports.made.Made.{Made}
use Rattle.iox_hub_commands.specs.declared.ports.made.MadeLoan.{MadeLoan}
use Rattle.iox_hub_commands.specs.declared.ports.made.MadePublisher.{MadePublisher}
use Rattle.iox_hub_machine.proofs.TypedSteps.{as_roomy}
use Rattle.iox_hub_machine.specs.TypedPublishing.{ChangeIsStep, DropIsStep, LoanIsStep, LoanUninitIsStep, SendIsStep, WriteIsStep}
use Rattle.iox_hub_machine.specs.TypedRuns.{CallsGoOn}
use Rattle.iox_hub_machine.specs.TypedSteps.{having_lent, hub_after_call, told_loan, told_sent}
use Rattle.iox_hub.proofs.KeptNumbers.{one_more_keeps}
use Rattle.iox_hub.proofs.LoanSkips.{lends_none, sends_none, written_where_fits}
use Rattle.iox_hub.proofs.RecordedCame.{told_too}
use Rattle.iox_hub.proofs.RecordedIds.{at_keeps, changed_keeps, defaults_keep}
use Rattle.iox_hub.proofs.Recording.{calls_lent}
use Rattle.iox_hub.proofs.RecordedRuns.{AreOfSlices, Recorded, Steps, plain_on, run_on, skipped_on}
use Rattle.iox_hub.proofs.RecordedSkips.{none_ready, not_waiting}
use Rattle.iox_hub.proofs.RecordedTold.{WaitsAt, outcome_waits}
use Rattle.iox_hub.specs.Recorded.{Calls, asked_too}
use Rattle.iox_hub.specs.RecordedCalls.{KeepNumbers, answered_as, told_send}
use Rattle.iox_hub.specs.RecordedNames.{back_by, named_by}
use Rattle.iox_hub.specs.Recording.{IsDoneIf, asked_with, is_written_with, may_send, numbered, told_sent_if}
use Rattle.iox_hub.specs.declared.recorded.named.Named.{Named}
use Rattle.iox_hub.specs.declared.recorded.named.Number.{Number}
use Rattle.iox_hub_commands.specs.Terms.{Terms}
use Rattle.iox_hub.specs.Turns.{choices_of}
use Rattle.iox_machine.specs.Choices.{Handed}

module _ {T U B D : Type 0} where
  lend_none_if : (b : Bool) (elements : ℕ) (who : PortId) (hub : Hub T U B D) → may_lend hub_ports who hub ≡ false
      → AtPort (Lends hub_ports with_hub_ports elements) (if b then Some who else None) hub None hub
  lend_none_if true elements who hub never = lends_none elements who hub (hub_ports who.domain hub) refl never
  lend_none_if false elements who hub never = (refl, refl)

  -- a publisher that may not lend lends nothing, by its number
  lend_none : (elements : ℕ) (found : Option MadePublisher) (who : PortId) (hub : Hub T U B D) → port_under found ≡ Some who
      → may_lend hub_ports who hub ≡ false → AtPort (Lends hub_ports with_hub_ports elements) (lender elements found) hub None hub
  lend_none elements None who hub there never = (refl, refl)
  lend_none elements (Some made) who hub there never =
      let same : made.port ≡ who = cc in
      lend_none_if (made.holds_slices || (elements == 1)) elements made.port hub
      (ap (λ (port : PortId). may_lend hub_ports port hub) same ∙ never)

-- how a loan that came is named
module _ {T U S : Type 0} (calls : Calls T) (asked : Command T) (number : Number) where
  pub lent_so : (answer : Option (Result (Lent T U Slice S) LoanError))
      → calls_lent asked answer calls
      ≡ answered_as (named_by number answer) asked (λ loan. reply.LoanMade calls.made.loans.next) refusal.Loan (λ loan after. record after {
        made = record after.made { loans = inserted after.made.loans (record { port = loan.it.port; slot = loan.it.slot }) };
      }) calls
  lent_so None = refl
  lent_so (Some (Ok loan)) = refl
  lent_so (Some (Err why)) = refl

  -- it goes by its number
  pub loan_goes_by : (answer : Option (Result (Lent T U Slice S) LoanError)) → number.value ≡ calls.made.loans.next
      → Rises 1 calls.made.loans.entries calls.made.loans.next
      → IfSome (named_by number answer) (λ it. IfOk it (λ loan. (loan.number.value ≡ calls.made.loans.next)
      × (value_at (calls_lent asked answer calls).made.loans loan.number.value
      ≡ Some (record { port = loan.it.port; slot = loan.it.slot }))))
  loan_goes_by None is rises = tt
  loan_goes_by (Some (Ok loan)) is rises = (
    is,
    ap (value_at (calls_lent asked (Some (Ok loan)) calls).made.loans) is
        ∙ found_next calls.made.loans (record { port = loan.port; slot = loan.slot }) rises,
  )
  loan_goes_by (Some (Err why)) is rises = tt

  -- the others keep their numbers
  pub loans_keep : (answer : Option (Result (Lent T U Slice S) LoanError))
      → KeepNumbers calls.made.loans (calls_lent asked answer calls).made.loans
  loans_keep None at held is = is
  loans_keep (Some (Ok loan)) at held is = one_more_keeps calls.made.loans _ at held is
  loans_keep (Some (Err why)) at held is = is

-- what was lent is of the publisher that lent it, with n values
module _ {T U B D : Type 0} (port : PortId) (len : ℕ) (number : Number) (old new : Hub T U B D) where
  lent_is : (answer : Result (Lent T U Slice Uninit) LoanError) (lent : Result ℕ LoanError) → answer ≡ lent_of len port lent
      → IfOk answer (λ loan. (loan.port ≡ port) × (loan.state.len ≡ len))
  lent_is answer (Ok slot) is =
      subst (λ (it : Result (Lent T U Slice Uninit) LoanError). IfOk it (λ loan. (loan.port ≡ port) × (loan.state.len ≡ len))) (sym is)
      (refl, refl)
  lent_is answer (Err why) is =
      subst (λ (it : Result (Lent T U Slice Uninit) LoanError). IfOk it (λ loan. (loan.port ≡ port) × (loan.state.len ≡ len))) (sym is) tt

  named_lent : (answer : Result (Lent T U Slice Uninit) LoanError) → IfOk answer (λ loan. (loan.port ≡ port) × (loan.state.len ≡ len))
      → IfSome (named_by number (Some answer)) (λ it. IfOk it (λ loan. (loan.it.port ≡ port) × (loan.it.state.len ≡ len)))
  named_lent (Ok loan) is = is
  named_lent (Err why) is = tt

  pub lends_so : (may : Bool) (answer : Option (Result (Lent T U Slice Uninit) LoanError))
      → IsDoneIf may (LendsSlice hub_ports with_hub_ports port len) old answer new
      → IfSome (named_by number answer) (λ it. IfOk it (λ loan. (loan.it.port ≡ port) × (loan.it.state.len ≡ len)))
  lends_so may None done = tt
  lends_so may (Some answer) (so, (lent, lends, is)) = named_lent answer (lent_is answer lent is)

  written_is : (answer : Result (Lent T U Slice Written) LoanError) (lent : Result ℕ LoanError) → answer ≡ written_of port lent
      → IfOk answer (λ loan. loan.port ≡ port)
  written_is answer (Ok slot) is =
      subst (λ (it : Result (Lent T U Slice Written) LoanError). IfOk it (λ loan. loan.port ≡ port)) (sym is) refl
  written_is answer (Err why) is =
      subst (λ (it : Result (Lent T U Slice Written) LoanError). IfOk it (λ loan. loan.port ≡ port)) (sym is) tt

  named_written : (answer : Result (Lent T U Slice Written) LoanError) → IfOk answer (λ loan. loan.port ≡ port)
      → IfSome (named_by number (Some answer)) (λ it. IfOk it (λ loan. loan.it.port ≡ port))
  named_written (Ok loan) is = is
  named_written (Err why) is = tt

  pub defaults_so : (is_default : T → Type 0) (may : Bool) (answer : Option (Result (Lent T U Slice Written) LoanError))
      → IsDoneIf may (LendsDefaults hub_ports with_hub_ports is_default port len) old answer new
      → IfSome (named_by number answer) (λ it. IfOk it (λ loan. loan.it.port ≡ port))
  defaults_so is_default may None done = tt
  defaults_so is_default may (Some answer) (so, (value, default, lent, lends, is)) = named_written answer (written_is answer lent is)

-- how a loan that was to be filled is told
pub filled_so : {T : Type 0} (asked : Command T) (calls : Calls T) (done : Bool)
    → asked_too asked (done_reply done) calls ≡ asked_too asked (if done then reply.Done else reply.Skipped) calls
filled_so asked calls true = refl
filled_so asked calls false = refl

-- A written loan is sent if it may be, else handed back.
abbrev pub SendsOrBack : {T U B D : Type 0} → (B → DegradationCause → DegradationInfo → DegradationAction → Type 0)
    → (B → BackpressureInfo → BackpressureDecision → Type 0) → Lent T U Slice Written → Hub T U B D
    → Result (Result (Sent T U) SendError) (Lent T U Slice Written) → Hub T U B D → Type 0
SendsOrBack degrades decides sample old answer new =
    MatchResult answer
    (λ sent. SendsSample hub_ports with_hub_ports (publisher_may_degrade degrades) (publisher_may_decide decides) sample.port sample.slot
    old sent new)
    (λ back. (back ≡ sample) × (new ≡ old) × (may_send hub_ports sample.port sample.slot old ≡ false))

module _ {T U : Type 0} (calls : Calls T) (number : Number) where
  pub sends_so : {S : Type 0} (answer : Result (Result (Sent T U) SendError) S)
      → MatchResult (back_by number answer)
      (λ sent. asked_with (removed_if (is_ok answer) (without_loan number.value) calls.made) (command.Send number.value)
      (told_sent_if (result_ok answer)) calls
      ≡ record (asked_too (command.Send number.value) (told_send (Some sent)) calls) {
        made = record calls.made { loans = removed calls.made.loans number.value };
      })
      (λ back. asked_with (removed_if (is_ok answer) (without_loan number.value) calls.made) (command.Send number.value)
      (told_sent_if (result_ok answer)) calls
      ≡ asked_too (command.Send number.value) reply.Skipped calls)
  sends_so (Ok (Ok (sent.Delivered count))) = refl
  sends_so (Ok (Ok (sent.Blocked blocked))) = refl
  sends_so (Ok (Err why)) = refl
  sends_so (Err back) = refl

module _ {T U B D : Type 0} (degrades : B → DegradationCause → DegradationInfo → DegradationAction → Type 0)
    (decides : B → BackpressureInfo → BackpressureDecision → Type 0) (sample : Named (Lent T U Slice Written)) (old new : Hub T U B D) where
  pub sample_back : (answer : Result (Result (Sent T U) SendError) (Lent T U Slice Written))
      → SendsOrBack degrades decides sample.it old answer new → IfErr (back_by sample.number answer) (λ back. back ≡ sample)
  sample_back (Ok sent) done = tt
  sample_back (Err back) (is, same, never) = ap (λ it. record { it = it; number = sample.number }) is

  pub sample_waits : (answer : Result (Result (Sent T U) SendError) (Lent T U Slice Written))
      → SendsOrBack degrades decides sample.it old answer new
      → IfOk (back_by sample.number answer) (λ it. IfOk it (λ sent. WaitsAt sample.it.port sent))
  sample_waits (Ok answer) (outcome, sends, is) = outcome_waits T U sample.it.port answer outcome is
  sample_waits (Err back) done = tt

module _ {T U B D : Type 0} (terms : Terms T U B D) (of_slices : AreOfSlices terms) (handed : Handed B D) where
  abbrev GoesOn : Type 0
  GoesOn = CallsGoOn terms (choices_of terms handed)

  abbrev Kept : Bool → Calls T → Hub T U B D → Type 0
  Kept fit calls hub
      = Recorded terms of_slices handed fit calls hub

  abbrev IsOne : Command T → Calls T → Hub T U B D → Reply T → Made → Hub T U B D → Type 0
  IsOne asked old hub answer made after =
      Steps terms of_slices handed asked (numbered old hub) answer (hub_after_call (numbered old hub) made after)

  -- a publisher lends by a command, which is a step
  lent_on : {S : Type 0} {fit : Bool} → GoesOn → (old : Calls T) (hub after : Hub T U B D) (asked : Command T)
      (answer : Result (Lent T U Slice S) LoanError) → after.table.id ≡ hub.table.id
      → IsOne asked old hub (told_loan answer old.made) (having_lent answer old.made) after
      → Kept fit old hub → Kept fit (calls_lent asked (Some answer) old) after
  lent_on goes_on old hub after asked (Ok loan) kept does was =
      let (factories, publishers, subscribers, loans, samples) = was.rise in record {
        rise = (
          factories,
          publishers,
          subscribers,
          Rises-push 1 old.made.loans.next old.made.loans.entries (record { port = loan.port; slot = loan.slot }) loans,
          samples,
        );
        id = kept ∙ was.id;
        all_fit = was.all_fit;
        told = told_too asked (reply.LoanMade old.made.loans.next) was.told;
        run = run_on terms of_slices handed goes_on old hub after asked (reply.LoanMade old.made.loans.next) (having_lent
            (Ok loan) old.made)
            old.factories does was.run;
      }
  lent_on goes_on old hub after asked (Err why) kept does was =
      plain_on terms of_slices handed goes_on old hub after asked (reply.Refused (refusal.Loan why)) kept does was

  pub lent_recorded : {fit : Bool} → GoesOn
      → LoanUninitIsStep Slice terms (choices_of terms handed)
      → (old : Calls T) (hub after : Hub T U B D) (number len : ℕ) (who : PortId)
      (answer : Option (Result (Lent T U Slice Uninit) LoanError)) → port_under (value_at old.made.publishers number) ≡ Some who
      → IsDoneIf (may_lend hub_ports who hub) (LendsSlice hub_ports with_hub_ports who len) hub answer after
      → Kept fit old hub → Kept fit (calls_lent (command.LoanUninit number len) answer old) after
  lent_recorded {fit} goes_on steps old hub after number len who None there (never, same) was =
      subst (λ (it : Hub T U B D). Kept fit (asked_too (command.LoanUninit number len) reply.Skipped old) it) (sym same)
      (skipped_on terms of_slices handed goes_on old hub hub (command.LoanUninit number len) refl (λ names most state it. (
        (
          Ok None,
          (old.made, as_roomy old.made, (None, lend_none len (value_at old.made.publishers number) who hub there never, (refl, refl))),
          refl,
        ),
        refl,
      )) was)
  lent_recorded goes_on steps old hub after number len who (Some answer) there (may, (lent, lends, is)) was =
      lent_on goes_on old hub after (command.LoanUninit number len) answer
      (at_keeps who.domain (LoansBy who.number len len) (hub_ports who.domain hub) hub after (Some lent) lends)
      (steps number len who (numbered old hub) after answer there (lent, lends, is)) was

  pub defaults_recorded : {fit : Bool} → GoesOn
      → LoanIsStep Slice terms (choices_of terms handed)
      → (old : Calls T) (hub after : Hub T U B D) (number len : ℕ) (who : PortId)
      (answer : Option (Result (Lent T U Slice Written) LoanError)) → port_under (value_at old.made.publishers number) ≡ Some who
      → IsDoneIf (may_lend hub_ports who hub) (LendsDefaults hub_ports with_hub_ports terms.is_default who len) hub answer after
      → (value : T) × terms.is_default value
      → Kept fit old hub → Kept fit (calls_lent (command.Loan number len) answer old) after
  defaults_recorded {fit} goes_on steps old hub after number len who None there (never, same) (value, default) was =
      subst (λ (it : Hub T U B D). Kept fit (asked_too (command.Loan number len) reply.Skipped old) it) (sym same)
      (skipped_on terms of_slices handed goes_on old hub hub (command.Loan number len) refl (λ names most state it. (
        (
          value,
          default,
          Ok None,
          (
            old.made,
            as_roomy old.made,
            (
              None,
              subst (λ (found : Option PortId). AtPort (LendsWritten hub_ports with_hub_ports len value) found hub None hub)
                  (sym (none_ready len (value_at old.made.publishers number) who hub there never)) (refl, refl),
              (refl, refl),
            ),
          ),
          refl,
        ),
        refl,
      )) was)
  defaults_recorded goes_on steps old hub after number len who (Some answer) there (may, lends) default was =
      lent_on goes_on old hub after (command.Loan number len) answer (defaults_keep terms.is_default who len hub after answer lends)
      (steps number len who (numbered old hub) after answer there
      (not_waiting (publisher_stands who.number (hub_ports who.domain hub)) (publisher_blocked who.number (hub_ports who.domain hub)) may)
      lends) was

  -- all values of a loan are written, if it has as many
  pub filled_recorded : {fit : Bool} → GoesOn
      → WriteIsStep Slice terms (choices_of terms handed)
      → (old : Calls T) (hub after : Hub T U B D) (number : ℕ) (made : MadeLoan) (values : List T) (done : Bool)
      → value_at old.made.loans number ≡ Some made → WritesAll hub_ports with_hub_ports made.port made.slot values hub after
      → done ≡ is_written_with (loan_found made.port.number made.slot (hub_ports made.port.domain after)) (length values)
      → Kept fit old hub → Kept fit (asked_too (command.Fill number values) (done_reply done) old) after
  filled_recorded {fit} goes_on steps old hub after number made values done there writes is was =
      let same : done ≡ fits_in values made.port.number made.slot (hub_ports made.port.domain hub)
      = is ∙ written_where_fits values made.port made.slot hub after writes in
      subst (λ (b : Bool). Kept fit (asked_too (command.Fill number values) (done_reply b) old) after) (sym same)
      (plain_on terms of_slices handed goes_on old hub after (command.Fill number values)
      (done_reply (fits_in values made.port.number made.slot (hub_ports made.port.domain hub)))
      (ap (λ hub. hub.table.id) writes ∙ changed_keeps made.port.domain _ (hub_ports made.port.domain hub) hub)
      (steps number made values (numbered old hub) after there writes) was)

  -- one value of a loan is written, if the loan is written and has its place
  pub set_recorded : {fit : Bool} → GoesOn
      → ChangeIsStep Slice terms (choices_of terms handed)
      → (old : Calls T) (hub after : Hub T U B D) (number place : ℕ) (made : MadeLoan) (value : T) (done : Bool)
      → value_at old.made.loans number ≡ Some made
      → done ≡ is_set place (loan_found made.port.number made.slot (hub_ports made.port.domain hub))
      → after ≡ (if done then loan_changed hub_ports with_hub_ports made.port made.slot (write_value place value) hub else hub)
      → Kept fit old hub → Kept fit (asked_too (command.Set number place value) (done_reply done) old) after
  set_recorded goes_on steps old hub after number place made value true there is same was =
      plain_on terms of_slices handed goes_on old hub after (command.Set number place value) (done_reply true)
      (ap (λ hub. hub.table.id) same ∙ changed_keeps made.port.domain _ (hub_ports made.port.domain hub) hub)
      (steps number place made value (numbered old hub) after there (sym is) same) was
  set_recorded {fit} goes_on steps old hub after number place made value false there is same was =
      subst (λ (it : Hub T U B D). Kept fit (asked_too (command.Set number place value) reply.Skipped old) it) (sym same)
      (skipped_on terms of_slices handed goes_on old hub hub (command.Set number place value) refl (λ names most state it. (
        (false, is ∙ sym (ap (λ (found : Option MadeLoan). is_set place (loan_under hub_ports found hub)) there), refl, refl),
        refl,
      )) was)

  -- a loan's number is spent by a command, which is a step
  spent_on : {fit : Bool} → GoesOn → (old : Calls T) (hub after : Hub T U B D) (asked : Command T) (answer : Reply T) (number : ℕ)
      → after.table.id ≡ hub.table.id → IsOne asked old hub answer (without_loan number old.made) after
      → Kept fit old hub → Kept fit (asked_with (without_loan number old.made) asked answer old) after
  spent_on goes_on old hub after asked answer number kept does was =
      let (factories, publishers, subscribers, loans, samples) = was.rise in record {
        rise = (
          factories,
          publishers,
          subscribers,
          Rises-removed number 1 old.made.loans.next old.made.loans.entries loans,
          samples,
        );
        id = kept ∙ was.id;
        all_fit = was.all_fit;
        told = told_too asked answer was.told;
        run = run_on terms of_slices handed goes_on old hub after asked answer (without_loan number old.made) old.factories does was.run;
      }

  pub dropped_recorded : {fit : Bool} → GoesOn
      → DropIsStep Slice terms (choices_of terms handed)
      → (old : Calls T) (hub after : Hub T U B D) (number : ℕ) (made : MadeLoan) → value_at old.made.loans number ≡ Some made
      → GivesUpLoan hub_ports with_hub_ports made.port made.slot hub after
      → Kept fit old hub → Kept fit (asked_with (without_loan number old.made) (command.Drop number) (done_reply true) old) after
  dropped_recorded goes_on steps old hub after number made there gives was =
      spent_on goes_on old hub after (command.Drop number) (done_reply true) number
      (ap (λ hub. hub.table.id) gives ∙ changed_keeps made.port.domain _ (hub_ports made.port.domain hub) hub)
      (steps number made (numbered old hub) after there gives) was

  pub sent_recorded : {fit : Bool} → GoesOn
      → SendIsStep Slice terms (choices_of terms handed)
      → (old : Calls T) (hub after : Hub T U B D) (number : ℕ) (sample : Lent T U Slice Written)
      (answer : Result (Result (Sent T U) SendError) (Lent T U Slice Written))
      → value_at old.made.loans number ≡ Some (record { port = sample.port; slot = sample.slot })
      → SendsOrBack terms.degrades terms.decides sample hub answer after
      → Kept fit old hub
      → Kept fit (asked_with (removed_if (is_ok answer) (without_loan number) old.made) (command.Send number)
      (told_sent_if (result_ok answer)) old) after
  sent_recorded goes_on steps old hub after number sample (Ok answer) there (outcome, sends, is) was =
      spent_on goes_on old hub after (command.Send number) (told_sent answer) number
      (at_keeps sample.port.domain (SendsBy (publisher_may_degrade terms.degrades sample.port.domain sample.port.number hub)
      (publisher_may_decide terms.decides sample.port.domain sample.port.number hub) sample.port.number sample.slot)
      (hub_ports sample.port.domain hub) hub after (Some outcome) sends)
      (steps number (record { port = sample.port; slot = sample.slot }) (numbered old hub) after answer there (outcome, sends, is)) was
  sent_recorded {fit} goes_on steps old hub after number sample (Err back) there (is, same, never) was =
      subst (λ (it : Hub T U B D). Kept fit (asked_too (command.Send number) reply.Skipped old) it) (sym same)
      (skipped_on terms of_slices handed goes_on old hub hub (command.Send number) refl (λ names most state it. (
        (
          None,
          subst (λ (found : Option MadeLoan). SendsUnder hub_ports with_hub_ports (publisher_may_degrade terms.degrades)
              (publisher_may_decide terms.decides) found hub None hub) (sym there)
              (sends_none (publisher_may_degrade terms.degrades sample.port.domain sample.port.number hub)
              (publisher_may_decide terms.decides sample.port.domain sample.port.number hub) sample.port sample.slot hub never),
          refl,
          refl,
        ),
        refl,
      )) was)
