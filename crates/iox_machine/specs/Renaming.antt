-- Other numbers for factories, ports, loans and samples.
use Rattle.std.specs.Prelude.{ℕ, ◌≡◌}
use Rattle.iox_command.specs.declared.command.Command.{Command}
use Rattle.iox_command.specs.declared.command.Command.TheVariants as command
use Rattle.iox_command.specs.declared.port.PortNumber.{PortNumber}
use Rattle.iox_command.specs.declared.port.PortNumber.TheVariants as port
use Rattle.iox_command.specs.declared.reply.Reply.{Reply}
use Rattle.iox_command.specs.declared.reply.Reply.TheVariants as reply

-- The other number of each factory, publisher, subscriber, loan and sample.
pub record Renaming : Type 0 where
  pub factories : ℕ → ℕ
  pub publishers : ℕ → ℕ
  pub subscribers : ℕ → ℕ
  pub loans : ℕ → ℕ
  pub samples : ℕ → ℕ

-- No two numbers have the same other number.
abbrev pub IsOneToOne : (ℕ → ℕ) → Type 0
IsOneToOne by = (one other : ℕ) → by one ≡ by other → one ≡ other

-- No two of a kind have the same other number.
abbrev pub KeepsApart : Renaming → Type 0
KeepsApart by =
    IsOneToOne by.factories × IsOneToOne by.publishers × IsOneToOne by.subscribers × IsOneToOne by.loans × IsOneToOne by.samples

-- The port with its other number.
abbrev pub renamed_port : Renaming → PortNumber → PortNumber
renamed_port by (port.Publisher publisher) = port.Publisher (by.publishers publisher)
renamed_port by (port.Subscriber subscriber) = port.Subscriber (by.subscribers subscriber)

module _ {T : Type 0} where
  -- The command with the other numbers of what it names.
  abbrev pub renamed : Renaming → Command T → Command T
  renamed by (command.Close factory) = command.Close (by.factories factory)
  renamed by (command.Publisher factory options) = command.Publisher (by.factories factory) options
  renamed by (command.Subscriber factory options) = command.Subscriber (by.factories factory) options
  renamed by (command.Loan publisher length) = command.Loan (by.publishers publisher) length
  renamed by (command.LoanUninit publisher length) = command.LoanUninit (by.publishers publisher) length
  renamed by (command.Set loan place value) = command.Set (by.loans loan) place value
  renamed by (command.Fill loan values) = command.Fill (by.loans loan) values
  renamed by (command.Drop loan) = command.Drop (by.loans loan)
  renamed by (command.Send loan) = command.Send (by.loans loan)
  renamed by (command.Put publisher values) = command.Put (by.publishers publisher) values
  renamed by (command.Retry publisher nanoseconds) = command.Retry (by.publishers publisher) nanoseconds
  renamed by (command.GiveUp publisher) = command.GiveUp (by.publishers publisher)
  renamed by (command.Receive subscriber) = command.Receive (by.subscribers subscriber)
  renamed by (command.Read sample) = command.Read (by.samples sample)
  renamed by (command.Sequence sample) = command.Sequence (by.samples sample)
  renamed by (command.Release sample) = command.Release (by.samples sample)
  renamed by (command.Has subscriber) = command.Has (by.subscribers subscriber)
  renamed by (command.Update number) = command.Update (renamed_port by number)
  renamed by (command.Leave number) = command.Leave (renamed_port by number)
  renamed by asked = asked

  -- The reply with the other number of what it reports.
  abbrev pub renamed_reply : Renaming → Reply T → Reply T
  renamed_reply by (reply.FactoryMade number) = reply.FactoryMade (by.factories number)
  renamed_reply by (reply.PublisherMade number) = reply.PublisherMade (by.publishers number)
  renamed_reply by (reply.SubscriberMade number) = reply.SubscriberMade (by.subscribers number)
  renamed_reply by (reply.LoanMade number) = reply.LoanMade (by.loans number)
  renamed_reply by (reply.Received sample values) = reply.Received (by.samples sample) values
  renamed_reply by told = told
