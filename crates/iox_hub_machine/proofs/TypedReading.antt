-- What a program may do with what it holds, and what it reads of samples.
use Rattle.std.proofs.Common.{ℕ, List, Some, Ok, refl, sym, subst, arith}
use Rattle.iox_command.specs.NegotiateBase.DescribeBase.declared.message_type.MessageTypeDetails.{MessageTypeDetails}
use Rattle.iox_command.specs.NegotiateBase.DescribeBase.declared.type_detail.TypeVariant.{TypeVariant}
use Rattle.iox_command.specs.declared.command.Command.TheVariants as command
use Rattle.iox_command.specs.declared.reply.Reply.TheVariants as reply
use Rattle.iox_domain.specs.Fitting.{asked_types}
use Rattle.iox_hub_commands.specs.Terms.{Terms}
use Rattle.iox_hub_machine.proofs.Dropped.{is_out}
use Rattle.iox_hub_machine.proofs.Going.{loan_goes, sample_goes}
use Rattle.iox_hub_machine.proofs.Lacking.{vector_of}
use Rattle.iox_hub_machine.proofs.Released.{is_there}
use Rattle.iox_hub_machine.proofs.TypedSubscribing.{payload_is_step, receive_is_step}
use Rattle.iox_hub_machine.specs.TypedReading.{HeldMayBeUsed, PayloadStays, PayloadWasSent}
use Rattle.iox_hub_machine.specs.TypedTerms.{asked_terms}
use Rattle.iox_machine.specs.MessageLaws.{BeganIn, ReceivedWasSent}
use Rattle.iox_machine.specs.Run.{Step}
use Rattle.iox_machine.specs.RunLaws.{SamplesReadTheSame}
use Rattle.iox_machine.specs.State.{new_state}
use Rattle.iox_machine.specs.Choices.{Choices}

module _ {T U B D : Type 0} (variant : TypeVariant) (terms : Terms T U B D) (choices : Choices T) where
  -- the terms of a hub whose messages are values, or slices of them
  abbrev terms_so : Terms T U B D
  terms_so = asked_terms variant terms

  -- the types of the messages: values, or slices of them
  abbrev types : MessageTypeDetails
  types = asked_types variant terms.payload terms.user_header

  pub held_may_be_used : HeldMayBeUsed terms_so choices
  held_may_be_used names most hub state it = record {
    publishers = λ number port there. (it.stands.ports.publishers.known number port there).1;
    subscribers = λ number port there. (it.stands.ports.subscribers.known number port there).1;
    loans = λ number made there.
        let goes = loan_goes choices terms.degrades terms.decides terms.reader_degrades it.naming it.order hub state
        it.stands.ports number made there in
        is_out choices terms.is_default_header terms.degrades terms.decides terms.reader_degrades types it.naming
        it.order hub hub state it.stands.ports number it.ran.grown made there goes.ports goes.found goes.mine;
    samples = λ number made there.
        let goes = sample_goes choices terms.degrades terms.decides terms.reader_degrades it.naming it.order hub state
        it.stands.ports number made there in
        is_there choices terms.is_default_header terms.degrades terms.decides terms.reader_degrades types it.naming
        it.order hub hub state it.stands.ports number it.ran.grown made there goes.ports goes.found goes.goes goes.mine;
  }

  module _ (K : Type 0) where
    pub payload_was_sent : ReceivedWasSent choices
        → PayloadWasSent K terms_so choices
    payload_was_sent sent names most asked answers state old hub run subscriber receiver sample values own few it
        there receives read fits =
        let one = receive_is_step variant terms choices
        K subscriber receiver old hub (Ok (Some sample)) (reply.Received old.made.samples.next (vector_of values fits)) there receives
        (vector_of values fits, read, refl) names most state own tt (omega (arith, few)) it in
        let (publisher, service, message, receiving, sending, taken, same, began) = sent types
        old.hub.expired_connection_buffer asked answers state run subscriber old.made.samples.next (vector_of values fits)
        one.0.after one.0.step in record {
          publisher = publisher;
          service = service;
          receives = receiving;
          sends = sending;
          began = subst (λ (these : List T). BeganIn types choices old.hub.expired_connection_buffer publisher
              service.name service.settings these asked new_state answers state run) (sym same) began;
        }

    pub payload_stays : SamplesReadTheSame choices
        → PayloadStays K terms_so choices
    payload_stays the_same buffer asked answers old mid later came subscriber sample values received meanwhile told between names most hub
        made read own few it same there reads fits =
        let one = payload_is_step variant terms choices
        K sample made hub (vector_of read fits) there reads names most later own tt (omega (arith, few)) it in
        the_same types buffer asked answers old came subscriber sample values mid received meanwhile told later between
        (vector_of read fits) one.0.after
        (subst (λ (n : ℕ). Step types choices n (command.Read sample) later (reply.Values (vector_of read fits))
        one.0.after) same one.0.step)
