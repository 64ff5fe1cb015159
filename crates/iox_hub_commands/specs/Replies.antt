-- The replies to the answers of calls. `None` is a command that was skipped.
use Rattle.std.specs.Prelude.{ℕ, Bool, true, false, Option, None, Some, Result, Ok, Err}
use Rattle.iox_command.specs.declared.refusal.HubError.{HubError}
use Rattle.iox_command.specs.declared.refusal.Refusal.{Refusal}
use Rattle.iox_command.specs.declared.refusal.Refusal.TheVariants as refusal
use Rattle.iox_command.specs.declared.reply.Reply.{Reply}
use Rattle.iox_command.specs.declared.reply.Reply.TheVariants as reply
use Rattle.iox_delivery.specs.DomainPorts.declared.meeting.Sent.{Sent}
use Rattle.iox_delivery.specs.DomainPorts.declared.meeting.Sent.TheVariants as sent
use Rattle.iox_command.specs.DomainValues.declared.connection_failure.ConnectionFailure.{ConnectionFailure}
use Rattle.iox_command.specs.DomainValues.declared.create_error.PublisherCreateError.{PublisherCreateError}
use Rattle.iox_command.specs.DomainValues.declared.create_error.SubscriberCreateError.{SubscriberCreateError}
use Rattle.iox_command.specs.DomainValues.declared.port_error.LoanError.{LoanError}
use Rattle.iox_command.specs.DomainValues.declared.port_error.SendError.{SendError}
use Rattle.iox_command.specs.NegotiateBase.declared.errors.close.CloseError.{CloseError}

module _ {T : Type 0} where
  -- The reply to the creation or opening of a service.
  abbrev pub factory_reply : Option (Result ℕ Refusal) → Reply T
  factory_reply None = reply.Skipped
  factory_reply (Some (Ok number)) = reply.FactoryMade number
  factory_reply (Some (Err why)) = reply.Refused why

  -- The reply to actions of other nodes.
  abbrev pub foreign_reply : Result (Unit {0}) HubError → Reply T
  foreign_reply (Ok done) = reply.Done
  foreign_reply (Err error) = reply.Refused (refusal.Hub error)

  -- The reply to the closing of a factory.
  abbrev pub closed_reply : Option (Result (Unit {0}) CloseError) → Reply T
  closed_reply None = reply.Skipped
  closed_reply (Some (Ok done)) = reply.Done
  closed_reply (Some (Err error)) = reply.Refused (refusal.Close error)

  -- The reply to the creation of a publisher.
  abbrev pub publisher_reply : Option (Result ℕ PublisherCreateError) → Reply T
  publisher_reply None = reply.Skipped
  publisher_reply (Some (Ok number)) = reply.PublisherMade number
  publisher_reply (Some (Err error)) = reply.Refused (refusal.Publisher error)

  -- The reply to the creation of a subscriber.
  abbrev pub subscriber_reply : Option (Result ℕ SubscriberCreateError) → Reply T
  subscriber_reply None = reply.Skipped
  subscriber_reply (Some (Ok number)) = reply.SubscriberMade number
  subscriber_reply (Some (Err error)) = reply.Refused (refusal.Subscriber error)

  -- The reply to a loan.
  abbrev pub loan_reply : Option (Result ℕ LoanError) → Reply T
  loan_reply None = reply.Skipped
  loan_reply (Some (Ok number)) = reply.LoanMade number
  loan_reply (Some (Err error)) = reply.Refused (refusal.Loan error)

  -- The reply to a send: how many mailboxes took the message, or that the send is blocked.
  abbrev pub sent_reply : Option (Result Sent SendError) → Reply T
  sent_reply None = reply.Skipped
  sent_reply (Some (Ok (sent.Delivered count))) = reply.Delivered count
  sent_reply (Some (Ok sent.Blocked)) = reply.Blocked
  sent_reply (Some (Err error)) = reply.Refused (refusal.Send error)

  -- The reply to a send that was given up: how many mailboxes took the message.
  abbrev pub given_up_reply : Option ℕ → Reply T
  given_up_reply None = reply.Skipped
  given_up_reply (Some count) = reply.Delivered count

  -- The reply to an update of a port.
  abbrev pub updated_reply : Option (Result (Unit {0}) ConnectionFailure) → Reply T
  updated_reply None = reply.Skipped
  updated_reply (Some (Ok done)) = reply.Done
  updated_reply (Some (Err error)) = reply.Refused (refusal.Connection error)

  -- The reply that says whether a subscriber has messages.
  abbrev pub has_reply : Option (Result Bool ConnectionFailure) → Reply T
  has_reply None = reply.Skipped
  has_reply (Some (Ok has)) = reply.Has has
  has_reply (Some (Err error)) = reply.Refused (refusal.Connection error)

  -- The reply with the sequence number of a sample's message, if the message has one.
  abbrev pub sequence_reply : Option (Option ℕ) → Reply T
  sequence_reply None = reply.Skipped
  sequence_reply (Some sequence) = reply.Sequence sequence

  -- The reply that something was done, or skipped.
  abbrev pub done_reply : Bool → Reply T
  done_reply true = reply.Done
  done_reply false = reply.Skipped
