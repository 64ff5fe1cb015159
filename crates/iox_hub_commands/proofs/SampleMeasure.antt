-- The samples that may still come are a measure: each that comes takes one, and one that is released gives one.
use Rattle.std.proofs.Common.{arith, ◌+◌, ◌≤◌, true, false, None, Some, Ok, Err, refl}
use Rattle.iox_domain.specs.Roomy.{AreRoomy}
use Rattle.iox_domain.specs.Samples.{samples_left, received_by, released_by, held_by_one, held_of_one, brought_by as sample_room}
use Rattle.iox_domain.proofs.LessLeft.{less_left}
use Rattle.iox_domain.proofs.StayRoomy.{new_roomy, stay_roomy}
use Rattle.iox_delivery.specs.Domain.Calls.{PortCall, PublisherComes, SubscriberComes, Lends, Writes, GivesLoanUp, PublisherUpdates}
use Rattle.iox_delivery.specs.Domain.Calls.{Sends, Retries, GivesSendUp, PublisherLeaves, SubscriberUpdates, AsksForSamples, Receives}
use Rattle.iox_delivery.specs.Domain.Calls.{Releases, SubscriberLeaves, Happens}
use Rattle.iox_delivery.specs.Domain.declared.ports.service_ports.ServicePorts.{ServicePorts}
use Rattle.iox_hub_commands.specs.Grown.{AnySlots, AnyAction, AnyDecision}
use Rattle.iox_hub_commands.proofs.Measures.{Measure, taken_by, given_by, brought_by}

module _ {T U : Type 0} where
  few : (call : PortCall T U) (old new : ServicePorts T U) → Happens AnySlots AnyAction AnyDecision call old new → AreRoomy old
      → samples_left new + received_by call ≤ samples_left old + released_by call + sample_room call old
  few call old new happens roomy = less_left AnySlots AnyAction AnyDecision call old new happens roomy

  pub samples_less : (call : PortCall T U) (old new : ServicePorts T U) → Happens AnySlots AnyAction AnyDecision call old new → AreRoomy old
      → samples_left new + taken_by 0 1 call
      ≤ samples_left old + given_by 0 1 call + brought_by (λ config ports. held_of_one ports) (λ ports. held_by_one ports) call old
  samples_less (PublisherComes config user_header (Ok number)) old new happens roomy
      = omega (arith, few (PublisherComes config user_header (Ok number)) old new happens roomy)
  samples_less (PublisherComes config user_header (Err error)) old new happens roomy
      = omega (arith, few (PublisherComes config user_header (Err error)) old new happens roomy)
  samples_less (SubscriberComes owner buffer_size (Ok number)) old new happens roomy
      = omega (arith, few (SubscriberComes owner buffer_size (Ok number)) old new happens roomy)
  samples_less (SubscriberComes owner buffer_size (Err error)) old new happens roomy
      = omega (arith, few (SubscriberComes owner buffer_size (Err error)) old new happens roomy)
  samples_less (Lends number values elements None) old new happens roomy
      = omega (arith, few (Lends number values elements None) old new happens roomy)
  samples_less (Lends number values elements (Some (Err error))) old new happens roomy
      = omega (arith, few (Lends number values elements (Some (Err error))) old new happens roomy)
  samples_less (Lends number values elements (Some (Ok slot))) old new happens roomy
      = omega (arith, few (Lends number values elements (Some (Ok slot))) old new happens roomy)
  samples_less (Writes number slot test change) old new happens roomy
      = omega (arith, few (Writes number slot test change) old new happens roomy)
  samples_less (GivesLoanUp number slot) old new happens roomy = omega (arith, few (GivesLoanUp number slot) old new happens roomy)
  samples_less (PublisherUpdates number answer) old new happens roomy
      = omega (arith, few (PublisherUpdates number answer) old new happens roomy)
  samples_less (Sends number slot None) old new happens roomy = omega (arith, few (Sends number slot None) old new happens roomy)
  samples_less (Sends number slot (Some answer)) old new happens roomy
      = omega (arith, few (Sends number slot (Some answer)) old new happens roomy)
  samples_less (Retries number elapsed answer) old new happens roomy
      = omega (arith, few (Retries number elapsed answer) old new happens roomy)
  samples_less (GivesSendUp number answer) old new happens roomy = omega (arith, few (GivesSendUp number answer) old new happens roomy)
  samples_less (PublisherLeaves number answer) old new happens roomy
      = omega (arith, few (PublisherLeaves number answer) old new happens roomy)
  samples_less (SubscriberUpdates number answer) old new happens roomy
      = omega (arith, few (SubscriberUpdates number answer) old new happens roomy)
  samples_less (AsksForSamples number answer) old new happens roomy
      = omega (arith, few (AsksForSamples number answer) old new happens roomy)
  samples_less (Receives number None) old new happens roomy = omega (arith, few (Receives number None) old new happens roomy)
  samples_less (Receives number (Some (Err error))) old new happens roomy
      = omega (arith, few (Receives number (Some (Err error))) old new happens roomy)
  samples_less (Receives number (Some (Ok None))) old new happens roomy
      = omega (arith, few (Receives number (Some (Ok None))) old new happens roomy)
  samples_less (Receives number (Some (Ok (Some taken)))) old new happens roomy
      = omega (arith, few (Receives number (Some (Ok (Some taken)))) old new happens roomy)
  samples_less (Releases number taken true) old new happens roomy = omega (arith, few (Releases number taken true) old new happens roomy)
  samples_less (Releases number taken false) old new happens roomy = omega (arith, few (Releases number taken false) old new happens roomy)
  samples_less (SubscriberLeaves number answer) old new happens roomy
      = omega (arith, few (SubscriberLeaves number answer) old new happens roomy)

  -- each sample counts one
  abbrev pub sample_measure : Measure T U
  sample_measure = record {
    count = λ ports. samples_left ports;
    Fine = λ ports. AreRoomy ports;
    loan = 0;
    sample = 1;
    brings = λ config ports. held_of_one ports;
    holds = λ ports. held_by_one ports;
    begins = λ service sizes. new_roomy AnySlots AnyAction AnyDecision service sizes;
    nothing = λ service sizes. refl;
    goes_on = λ call old new happens roomy. stay_roomy AnySlots AnyAction AnyDecision call old new happens roomy;
    left = λ call old new happens roomy. samples_less call old new happens roomy;
  }
