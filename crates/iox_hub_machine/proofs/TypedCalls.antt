-- Each typed call is a step.
use Rattle.iox_command.specs.NegotiateBase.DescribeBase.declared.type_detail.TypeVariant.{TypeVariant}
use Rattle.iox_hub_commands.specs.Terms.{Terms}
use Rattle.iox_hub_machine.proofs.TypedLending.{change_is_step, loan_is_step, loan_of_one_is_step, send_copy_is_step, send_slice_is_step}
use Rattle.iox_hub_machine.proofs.TypedLending.{write_each_is_step, write_one_is_step}
use Rattle.iox_hub_machine.proofs.TypedOpening.{create_is_step, foreign_is_step, open_is_step, open_or_create_is_step}
use Rattle.iox_hub_machine.proofs.TypedPublishing.{drop_is_step, give_up_is_step, loan_uninit_is_step, publisher_leave_is_step}
use Rattle.iox_hub_machine.proofs.TypedPublishing.{publisher_update_is_step, retry_is_step, send_is_step, write_is_step}
use Rattle.iox_hub_machine.proofs.TypedServices.{new_node_is_step, subscriber_is_step}
use Rattle.iox_hub_machine.proofs.TypedSubscribing.{has_is_step, payload_is_step, receive_is_step, release_is_step}
use Rattle.iox_hub_machine.proofs.TypedSubscribing.{subscriber_leave_is_step, subscriber_update_is_step}
use Rattle.iox_hub_machine.specs.TypedOpening.{ServiceCallsAreSteps}
use Rattle.iox_hub_machine.specs.TypedPublishing.{PublisherCallsAreSteps}
use Rattle.iox_hub_machine.specs.TypedSubscribing.{SubscriberCallsAreSteps}
use Rattle.iox_hub_machine.specs.TypedTerms.{asked_terms}
use Rattle.iox_machine.specs.Choices.{Choices}

module _ {T U B D : Type 0} (variant : TypeVariant) (terms : Terms T U B D) (choices : Choices T) where
  pub service_calls_are_steps : ServiceCallsAreSteps (asked_terms variant terms) choices
  service_calls_are_steps = record {
    node = new_node_is_step variant terms choices;
    create = create_is_step variant terms choices;
    opening = open_is_step variant terms choices;
    either = open_or_create_is_step variant terms choices;
    foreign = foreign_is_step variant terms choices;
    subscriber = subscriber_is_step variant terms choices;
  }

  module _ (K : Type 0) where
    pub publisher_calls_are_steps : PublisherCallsAreSteps K (asked_terms variant terms) choices
    publisher_calls_are_steps = record {
      loan_uninit = loan_uninit_is_step variant terms choices K;
      loan = loan_is_step variant terms choices K;
      loan_of_one = loan_of_one_is_step variant terms choices K;
      write = write_is_step variant terms choices K;
      write_one = write_one_is_step variant terms choices K;
      write_each = write_each_is_step variant terms choices K;
      change = change_is_step variant terms choices K;
      send_slice = send_slice_is_step variant terms choices K;
      send_copy = send_copy_is_step variant terms choices K;
      send = send_is_step variant terms choices K;
      drop = drop_is_step variant terms choices K;
      retry = retry_is_step variant terms choices K;
      give_up = give_up_is_step variant terms choices K;
      update = publisher_update_is_step variant terms choices K;
      leave = publisher_leave_is_step variant terms choices K;
    }

    pub subscriber_calls_are_steps : SubscriberCallsAreSteps K (asked_terms variant terms) choices
    subscriber_calls_are_steps = record {
      receive = receive_is_step variant terms choices K;
      has = has_is_step variant terms choices K;
      update = subscriber_update_is_step variant terms choices K;
      leave = subscriber_leave_is_step variant terms choices K;
      payload = payload_is_step variant terms choices K;
      release = release_is_step variant terms choices K;
    }
