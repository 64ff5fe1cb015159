-- A typed call as a step of the machine, by the command that asks for the same. A program holds its factories, ports, loans and samples as
-- values; here these have numbers, in the order in which they were made, like all that commands make.
use Rattle.std.specs.Prelude.{ℕ, ◌+◌, ◌^◌, ◌<◌, ◌≡◌, List, Option, None, Some, Result, Ok, Err, option_map}
use Rattle.std.specs.Global.{Vec}
use Rattle.std.specs.Vec.{vec_items}
use Rattle.iox_command.specs.DomainValues.declared.port_error.LoanError.{LoanError}
use Rattle.iox_command.specs.DomainValues.declared.port_error.ReceiveError.{ReceiveError}
use Rattle.iox_command.specs.DomainValues.declared.port_error.SendError.{SendError}
use Rattle.iox_command.specs.declared.command.Command.{Command}
use Rattle.iox_command.specs.declared.refusal.Refusal.TheVariants as refusal
use Rattle.iox_command.specs.declared.reply.Reply.{Reply}
use Rattle.iox_command.specs.declared.reply.Reply.TheVariants as reply
use Rattle.iox_delivery.specs.Holding.{message_found}
use Rattle.iox_delivery.specs.declared.loan.Loan.{Loan as Lent}
use Rattle.iox_delivery.specs.declared.sample.Sample.{Sample}
use Rattle.iox_delivery.specs.declared.sent.Sent.{Sent}
use Rattle.iox_delivery.specs.declared.sent.Sent.TheVariants as sent
use Rattle.iox_hub_base.specs.AsHome.{hub_ports}
use Rattle.iox_hub_base.specs.declared.hub.Hub.{Hub}
use Rattle.iox_hub_commands.specs.Numbering.{with_loan, with_sample}
use Rattle.iox_hub_commands.specs.Terms.{Terms}
use Rattle.iox_hub_commands.specs.declared.numbered_hub.NumberedHub.{NumberedHub}
use Rattle.iox_hub_commands.specs.declared.ports.made.Made.{Made}
use Rattle.iox_hub_machine.specs.GoingOnLaws.{IsOneOn}
use Rattle.iox_hub_machine.specs.Ran.{StandsAfter}
use Rattle.iox_hub_machine.specs.RunLaws.{AsksAmong, steps_named}
use Rattle.iox_machine.specs.State.{State}
use Rattle.iox_negotiate_machine.specs.Laws.{HaveOwnHashes}
use Rattle.iox_machine.specs.Choices.{Choices}

module _ {T U K S : Type 0} where
  -- What a program holds after it asked for a loan: a new one gets the next number.
  abbrev pub having_lent : Result (Lent T U K S) LoanError → Made → Made
  having_lent (Ok loan) made = with_loan loan.port loan.slot made
  having_lent (Err why) made = made

  -- The reply to a loan: its number, or the refusal.
  abbrev pub told_loan : Result (Lent T U K S) LoanError → Made → Reply T
  told_loan (Ok loan) made = reply.LoanMade made.loans.next
  told_loan (Err why) made = reply.Refused (refusal.Loan why)

module _ {T U : Type 0} where
  -- The reply to a send: how many mailboxes took the message, that the send is blocked, or the refusal.
  abbrev pub told_sent : Result (Sent T U) SendError → Reply T
  told_sent (Ok (sent.Delivered count)) = reply.Delivered count
  told_sent (Ok (sent.Blocked blocked)) = reply.Blocked
  told_sent (Err why) = reply.Refused (refusal.Send why)

module _ {T U K : Type 0} where
  -- What a program holds after it received: a received sample gets the next number.
  abbrev pub having_received : Result (Option (Sample T U K)) ReceiveError → Made → Made
  having_received (Ok (Some sample)) made = with_sample sample.port sample.taken made
  having_received (Ok None) made = made
  having_received (Err why) made = made

  -- The values of a sample that a hub holds: those that its `payload` returns.
  abbrev pub payload_there : {B D : Type 0} → Sample T U K → Hub T U B D → Option (List T)
  payload_there sample hub = option_map (λ message. message.values) (message_found sample.taken (hub_ports sample.port.domain hub))

  -- The reply to a receive: a sample by its number, with the values that its `payload` returns then; that nothing waits; or the refusal.
  abbrev pub IsToldReceived : {B D : Type 0} → Result (Option (Sample T U K)) ReceiveError → Made → Hub T U B D → Reply T → Type 0
  IsToldReceived (Ok (Some sample)) made hub told =
      (values : Vec T) × (payload_there sample hub ≡ Some (vec_items values)) × (told ≡ reply.Received made.samples.next values)
  IsToldReceived (Ok None) made hub told = told ≡ reply.NothingWaits
  IsToldReceived (Err why) made hub told = told ≡ reply.Refused (refusal.Receive why)

module _ {T U B D : Type 0} where
  -- The hub after a call, with the ports, loans and samples that its program holds then; factories are as they were.
  abbrev pub hub_after_call : NumberedHub T U B D → Made → Hub T U B D → NumberedHub T U B D
  hub_after_call old made hub = record old { hub = hub; made = made }

-- The parameters: the terms of the hub.
module _ {T U B D : Type 0} (terms : Terms T U B D) (choices : Choices T) where
  -- A call of a hub is a step of the machine by this command, with this answer. If the hub, with what its program holds, represents a
  -- state, the machine may give this answer from there; and the hub after the call, with what the program holds then, represents the
  -- machine's state afterwards. This holds if no two services of the names that are asked for share a hash, and all commands and actions
  -- of other nodes, with those before, are fewer than 2 ^ 56.
  abbrev pub IsStepBy : Command T → NumberedHub T U B D → Reply T → NumberedHub T U B D → Type 0
  IsStepBy asked old answer new = (names : List (List ℕ)) (most : ℕ) (state : State T)
      → HaveOwnHashes names → AsksAmong names asked → most + (1 + steps_named asked) < 2 ^ 56
      → StandsAfter terms.types choices terms.degrades terms.decides terms.reader_degrades names most old state
      → IsOneOn terms.types choices terms.degrades terms.decides terms.reader_degrades names most
      old.hub.expired_connection_buffer asked state answer new
      × (new.hub.expired_connection_buffer ≡ old.hub.expired_connection_buffer)
