-- The loans that may still be made are a measure: each loan takes one, and what ends it gives one.
use Rattle.std.proofs.Common.{arith, ◌+◌, ◌≤◌, true, false, None, Some, Ok, Err, refl}
use Rattle.iox_domain.specs.Loans.{loans_left, lent_by, ended_by, brought_by as lent_room}
use Rattle.iox_domain.proofs.AllowancesCalling.{loans_left_by_calls}
use Rattle.iox_delivery.specs.Domain.Calls.{PortCall, PublisherComes, SubscriberComes, Lends, Writes, GivesLoanUp, PublisherUpdates}
use Rattle.iox_delivery.specs.Domain.Calls.{Sends, Retries, GivesSendUp, PublisherLeaves, SubscriberUpdates, AsksForSamples, Receives}
use Rattle.iox_delivery.specs.Domain.Calls.{Releases, SubscriberLeaves, Happens}
use Rattle.iox_delivery.specs.Domain.declared.ports.service_ports.ServicePorts.{ServicePorts}
use Rattle.iox_hub_commands.specs.Grown.{AnySlots, AnyAction, AnyDecision}
use Rattle.iox_hub_commands.proofs.Measures.{Measure, taken_by, given_by, brought_by}

module _ {T U : Type 0} where
  few : (call : PortCall T U) (old new : ServicePorts T U) → Happens AnySlots AnyAction AnyDecision call old new
      → loans_left new + lent_by call ≤ loans_left old + ended_by call + lent_room call
  few call old new happens = (loans_left_by_calls AnySlots AnyAction AnyDecision).goes_on call old new happens

  pub less_left : (call : PortCall T U) (old new : ServicePorts T U) → Happens AnySlots AnyAction AnyDecision call old new
      → loans_left new + taken_by 1 0 call
      ≤ loans_left old + given_by 1 0 call + brought_by (λ config ports. config.max_loaned_samples) (λ ports. 0) call old
  less_left (PublisherComes config user_header (Ok number)) old new happens
      = omega (arith, few (PublisherComes config user_header (Ok number)) old new happens)
  less_left (PublisherComes config user_header (Err error)) old new happens
      = omega (arith, few (PublisherComes config user_header (Err error)) old new happens)
  less_left (SubscriberComes owner buffer_size (Ok number)) old new happens
      = omega (arith, few (SubscriberComes owner buffer_size (Ok number)) old new happens)
  less_left (SubscriberComes owner buffer_size (Err error)) old new happens
      = omega (arith, few (SubscriberComes owner buffer_size (Err error)) old new happens)
  less_left (Lends number values elements None) old new happens = omega (arith, few (Lends number values elements None) old new happens)
  less_left (Lends number values elements (Some (Err error))) old new happens
      = omega (arith, few (Lends number values elements (Some (Err error))) old new happens)
  less_left (Lends number values elements (Some (Ok slot))) old new happens
      = omega (arith, few (Lends number values elements (Some (Ok slot))) old new happens)
  less_left (Writes number slot test change) old new happens = omega (arith, few (Writes number slot test change) old new happens)
  less_left (GivesLoanUp number slot) old new happens = omega (arith, few (GivesLoanUp number slot) old new happens)
  less_left (PublisherUpdates number answer) old new happens = omega (arith, few (PublisherUpdates number answer) old new happens)
  less_left (Sends number slot None) old new happens = omega (arith, few (Sends number slot None) old new happens)
  less_left (Sends number slot (Some answer)) old new happens = omega (arith, few (Sends number slot (Some answer)) old new happens)
  less_left (Retries number elapsed answer) old new happens = omega (arith, few (Retries number elapsed answer) old new happens)
  less_left (GivesSendUp number answer) old new happens = omega (arith, few (GivesSendUp number answer) old new happens)
  less_left (PublisherLeaves number answer) old new happens = omega (arith, few (PublisherLeaves number answer) old new happens)
  less_left (SubscriberUpdates number answer) old new happens = omega (arith, few (SubscriberUpdates number answer) old new happens)
  less_left (AsksForSamples number answer) old new happens = omega (arith, few (AsksForSamples number answer) old new happens)
  less_left (Receives number None) old new happens = omega (arith, few (Receives number None) old new happens)
  less_left (Receives number (Some (Err error))) old new happens = omega (arith, few (Receives number (Some (Err error))) old new happens)
  less_left (Receives number (Some (Ok None))) old new happens = omega (arith, few (Receives number (Some (Ok None))) old new happens)
  less_left (Receives number (Some (Ok (Some taken)))) old new happens
      = omega (arith, few (Receives number (Some (Ok (Some taken)))) old new happens)
  less_left (Releases number taken true) old new happens = omega (arith, few (Releases number taken true) old new happens)
  less_left (Releases number taken false) old new happens = omega (arith, few (Releases number taken false) old new happens)
  less_left (SubscriberLeaves number answer) old new happens = omega (arith, few (SubscriberLeaves number answer) old new happens)

  -- each loan counts one
  abbrev pub loan_measure : Measure T U
  loan_measure = record {
    count = λ ports. loans_left ports;
    Fine = λ ports. Unit {0};
    loan = 1;
    sample = 0;
    brings = λ config ports. config.max_loaned_samples;
    holds = λ ports. 0;
    begins = λ service sizes. tt;
    nothing = λ service sizes. refl;
    goes_on = λ call old new happens fine. tt;
    left = λ call old new happens fine. less_left call old new happens;
  }
