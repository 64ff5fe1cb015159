-- The laws of all commands, and what a run comes to by them.
use Rattle.std.proofs.Common.{Option}
use Rattle.iox_command.specs.DomainValues.declared.backpressure.BackpressureAction.{BackpressureAction}
use Rattle.iox_command.specs.DomainValues.declared.backpressure.BackpressureDecision.{BackpressureDecision}
use Rattle.iox_command.specs.DomainValues.declared.backpressure.BackpressureInfo.{BackpressureInfo}
use Rattle.iox_command.specs.DomainValues.declared.backpressure_strategy.BackpressureStrategy.{BackpressureStrategy}
use Rattle.iox_command.specs.DomainValues.declared.degradation.DegradationAction.{DegradationAction}
use Rattle.iox_command.specs.DomainValues.declared.degradation.DegradationCause.{DegradationCause}
use Rattle.iox_command.specs.DomainValues.declared.degradation.DegradationInfo.{DegradationInfo}
use Rattle.iox_command.specs.NegotiateBase.DescribeBase.Detail.{Detail}
use Rattle.iox_command.specs.NegotiateBase.DescribeBase.declared.message_type.MessageTypeDetails.{MessageTypeDetails}
use Rattle.iox_command.specs.NegotiateBase.DescribeBase.declared.type_detail.TypeVariant.{TypeVariant}
use Rattle.iox_domain.specs.Fitting.{asked_types}
use Rattle.iox_hub_machine.proofs.Attended.{has_simulated, subscriber_update_simulated}
use Rattle.iox_hub_machine.proofs.Begun.{hub_begins}
use Rattle.iox_hub_machine.proofs.Closing.{closing_follows}
use Rattle.iox_hub_machine.proofs.ComesAsked.{subscriber_coming_followed}
use Rattle.iox_hub_machine.proofs.ComesAskedPublisher.{publisher_coming_followed}
use Rattle.iox_hub_machine.proofs.Created.{create_matches}
use Rattle.iox_hub_machine.proofs.Dropped.{drop_simulated}
use Rattle.iox_hub_machine.proofs.EachCommand.{CommandLaws, each_followed}
use Rattle.iox_hub_machine.proofs.Foreign.{foreign_matches}
use Rattle.iox_hub_machine.proofs.GivenUp.{give_up_simulated}
use Rattle.iox_hub_machine.proofs.Lent.{lend_simulated, lend_uninit_simulated}
use Rattle.iox_hub_machine.proofs.LoanSent.{send_simulated}
use Rattle.iox_hub_machine.proofs.Loans.{fill_simulated, set_simulated}
use Rattle.iox_hub_machine.proofs.Nodes.{node_matches}
use Rattle.iox_hub_machine.proofs.Openings.{openings_match}
use Rattle.iox_hub_machine.proofs.OpeningsOrCreations.{openings_or_creations_match}
use Rattle.iox_hub_machine.proofs.PublisherLeft.{publisher_leave_simulated}
use Rattle.iox_hub_machine.proofs.Received.{receive_simulated}
use Rattle.iox_hub_machine.proofs.Released.{release_simulated}
use Rattle.iox_hub_machine.proofs.Retried.{retry_simulated}
use Rattle.iox_hub_machine.proofs.Running.{decided_go_on, run_answers, run_stands, runs_go_on}
use Rattle.iox_hub_machine.proofs.Samples.{read_simulated, sequence_simulated}
use Rattle.iox_hub_machine.proofs.SubscriberLeft.{subscriber_leave_simulated}
use Rattle.iox_hub_machine.proofs.Updated.{publisher_update_simulated}
use Rattle.iox_hub_machine.proofs.ValuesPut.{put_simulated}
use Rattle.iox_hub_machine.specs.GoingOnLaws.{DecidedRunsGoOn, NewHubBegins, RunsGoOn, decided_terms}
use Rattle.iox_hub_machine.specs.RunLaws.{RunAnswers, RunStands}
use Rattle.iox_hub_machine.specs.TypedTerms.{asked_terms}
use Rattle.iox_machine.specs.Choices.{Choices, as_named}
use Rattle.iox_machine.specs.RunLaws.{MessagesAreShort}
use Rattle.iox_hub_commands.specs.Terms.{Terms}

module _ {T U B D : Type 0} (variant : TypeVariant) (terms : Terms T U B D) (choices : Choices T) where
  abbrev terms_so : Terms T U B D
  terms_so = asked_terms variant terms

  all_laws : CommandLaws terms_so choices
  all_laws = record {
    node = node_matches terms_so choices;
    create = create_matches variant terms choices;
    opening = openings_match variant terms choices;
    either = openings_or_creations_match variant terms choices;
    foreign = foreign_matches terms_so choices;
    close = closing_follows terms_so choices;
    publisher = publisher_coming_followed terms_so choices;
    subscriber = subscriber_coming_followed terms_so choices;
    loan = lend_simulated choices terms.is_default_header terms.degrades terms.decides terms.reader_degrades;
    loan_uninit = lend_uninit_simulated choices terms.is_default_header terms.degrades terms.decides terms.reader_degrades;
    set = set_simulated choices terms.is_default_header terms.degrades terms.decides terms.reader_degrades;
    fill = fill_simulated choices terms.is_default_header terms.degrades terms.decides terms.reader_degrades;
    drop = drop_simulated choices terms.is_default_header terms.degrades terms.decides terms.reader_degrades;
    send = send_simulated choices terms.is_default_header terms.degrades terms.decides terms.reader_degrades;
    put = put_simulated choices terms.is_default_header terms.degrades terms.decides terms.reader_degrades;
    retry = retry_simulated choices terms.is_default_header terms.degrades terms.decides terms.reader_degrades;
    give_up = give_up_simulated choices terms.is_default_header terms.degrades terms.decides terms.reader_degrades;
    receive = receive_simulated choices terms.is_default_header terms.degrades terms.decides terms.reader_degrades;
    read = read_simulated choices terms.is_default_header terms.degrades terms.decides terms.reader_degrades;
    sequence = sequence_simulated choices terms.is_default_header terms.degrades terms.decides terms.reader_degrades;
    release = release_simulated choices terms.is_default_header terms.degrades terms.decides terms.reader_degrades;
    update_publisher = publisher_update_simulated choices terms.is_default_header terms.degrades terms.decides terms.reader_degrades;
    update_subscriber = subscriber_update_simulated choices terms.is_default_header terms.degrades terms.decides terms.reader_degrades;
    publisher_leaves = publisher_leave_simulated choices terms.is_default_header terms.degrades terms.decides terms.reader_degrades;
    subscriber_leaves = subscriber_leave_simulated choices terms.is_default_header terms.degrades terms.decides terms.reader_degrades;
    has = has_simulated choices terms.is_default_header terms.degrades terms.decides terms.reader_degrades;
  }

module _ {T U B D : Type 0} (payload user_header : Detail) (variant : TypeVariant) (choices : Choices T)
    (is_default_header : U → Type 0)
    (degrades : B → DegradationCause → DegradationInfo → DegradationAction → Type 0)
    (decides : B → BackpressureInfo → BackpressureDecision → Type 0)
    (reader_degrades : D → DegradationCause → DegradationInfo → DegradationAction → Type 0) where
  abbrev types : MessageTypeDetails
  types = asked_types variant payload user_header

  -- the terms of a hub, where these decide for a port that comes
  abbrev terms_by : (BackpressureStrategy → Option BackpressureAction → DegradationAction → B) → (DegradationAction → D) → Terms T U B D
  terms_by = decided_terms types choices degrades decides reader_degrades payload user_header is_default_header

  pub decided_commands_go_on : DecidedRunsGoOn types choices degrades decides reader_degrades payload user_header is_default_header
  decided_commands_go_on = decided_go_on payload user_header types choices is_default_header degrades decides reader_degrades
      (λ fixed fixed_reader. each_followed (terms_by fixed fixed_reader) choices (all_laws variant (terms_by fixed fixed_reader) choices))

module _ {T U B D : Type 0} (variant : TypeVariant) (terms : Terms T U B D) (choices : Choices T) where
  pub commands_go_on : RunsGoOn (asked_terms variant terms) choices
  commands_go_on =
      runs_go_on (asked_terms variant terms) choices
      (decided_commands_go_on terms.payload terms.user_header variant choices terms.is_default_header terms.degrades terms.decides
      terms.reader_degrades)

module _ {T U B D : Type 0} (variant : TypeVariant) (terms : Terms T U B D) where
  abbrev its_terms : Terms T U B D
  its_terms = asked_terms variant terms

  goes_on : RunsGoOn its_terms (as_named terms.is_default)
  goes_on = commands_go_on variant terms (as_named terms.is_default)

  begins : NewHubBegins U its_terms.types (as_named terms.is_default) terms.degrades terms.decides terms.reader_degrades
  begins = hub_begins its_terms.types (as_named terms.is_default) terms.degrades terms.decides terms.reader_degrades

  pub commands_answer : MessagesAreShort (as_named terms.is_default) → RunAnswers its_terms
  commands_answer short = run_answers its_terms goes_on begins short

  pub commands_stand : RunStands its_terms
  commands_stand = run_stands its_terms goes_on begins
