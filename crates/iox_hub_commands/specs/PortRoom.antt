-- Capacity that is made when ports are created, so that memory never runs out for the number of a publisher's loan, or of a subscriber's
-- sample.
use Rattle.std.specs.Prelude.{ℕ, ◌≡◌, ◌+◌, ◌-◌, ◌<◌, ◌≤◌, ◌⊎◌, [], length, max, Option, None, Some, IsSome, Result, Ok, Err}
use Rattle.std.specs.declared.alloc.AllocError.{AllocError}
use Rattle.iox_command.specs.declared.command.Command.{Command}
use Rattle.iox_command.specs.declared.command.Command.TheVariants as command
use Rattle.iox_command.specs.declared.port.PortNumber.{PortNumber}
use Rattle.iox_command.specs.declared.port.PortNumber.TheVariants as port_number
use Rattle.iox_command.specs.declared.reply.Reply.{Reply}
use Rattle.iox_command.specs.declared.reply.Reply.TheVariants as reply
use Rattle.iox_domain.specs.Loans.{spare_loans}
use Rattle.iox_domain.specs.Samples.{held_by_one, held_of_one}
use Rattle.iox_delivery.specs.DomainPorts.Publishers.{port_of}
use Rattle.iox_delivery.specs.DomainPorts.declared.publisher_port.PublisherPort.{PublisherPort}
use Rattle.iox_delivery.specs.declared.port_id.PortId.{PortId}
use Rattle.iox_delivery.specs.Domain.declared.domain_id.DomainId.{DomainId}
use Rattle.iox_delivery.specs.Domain.declared.ports.service_ports.ServicePorts.{ServicePorts}
use Rattle.iox_hub_commands.specs.Reading.{values_under}
use Rattle.iox_hub_commands.specs.Messages.{SomeValues}
use Rattle.iox_hub_base.specs.AsHome.{hub_ports}
use Rattle.iox_hub_base.specs.Opening.{Made as Opened}
use Rattle.iox_hub_base.specs.Room.{loans_left_in, samples_left_in, samples_at_most_in}
use Rattle.iox_delivery.specs.Container.NumberTable.{NumberTable, value_at}
use Rattle.iox_hub_commands.specs.Calls.{ready}
use Rattle.iox_hub_commands.specs.Grown.{HaveGrown}
use Rattle.iox_hub_commands.specs.Naming.{most_loans}
use Rattle.iox_hub_commands.specs.Services.{domain_of_factory}
use Rattle.iox_hub_commands.specs.ServicesTables.{publish_subscribe_in}
use Rattle.iox_hub_commands.specs.Tables.{lender, port_under}
use Rattle.iox_hub_commands.specs.declared.numbered_hub.NumberedHub.{NumberedHub}

-- `Holds` is stated of a command that creates a port; nothing is stated of other commands.
abbrev pub OfPorts : {T : Type 0} → Type 0 → Command T → Type 0
OfPorts Holds (command.Publisher factory options) = Holds
OfPorts Holds (command.Subscriber factory options) = Holds
OfPorts Holds other = Unit {0}

-- The table has capacity for its entries, for this many more, and for one more besides.
abbrev pub FitsBeside : {V : Type 0} → ℕ → NumberTable V → Type 0
FitsBeside more table = length table.entries + more < table.room

-- The number of entries that is reserved for a table is enough for its entries and for this many more. The table has capacity for what is
-- reserved, and for one more.
abbrev pub Pledges : {V : Type 0} → ℕ → ℕ → NumberTable V → Type 0
Pledges more pledged table = (length table.entries + more ≤ pledged) × (pledged < table.room)

-- The table's capacity has grown at most to twice this number, plus `beside`.
abbrev pub GrowsTwice : {V : Type 0} → ℕ → ℕ → NumberTable V → NumberTable V → Type 0
GrowsTwice reserved beside old new = new.room ≤ max old.room (reserved + reserved + beside)

-- The number of entries that is reserved for a table is enough for its entries and for this many more. If the table of ports has entries,
-- there is capacity for what is reserved, and for one more.
abbrev pub IsPledged : {V W : Type 0} → NumberTable V → ℕ → ℕ → NumberTable W → Type 0
IsPledged ports more pledged table = (length table.entries + more ≤ pledged) × ((ports.entries ≡ []) ⊎ (pledged < table.room))

-- How many samples a new subscriber of the service may hold at once; 0 if the service's domain isn't in the hub.
abbrev pub most_samples : {T U : Type 0} → Option (ServicePorts T U) → ℕ
most_samples None = 0
most_samples (Some ports) = held_by_one ports

-- How many samples of a new publisher of the service may be held at once; 0 if the service's domain isn't in the hub.
abbrev pub most_samples_of : {T U : Type 0} → Option (ServicePorts T U) → ℕ
most_samples_of None = 0
most_samples_of (Some ports) = held_of_one ports

-- How many more loans the publisher may make; 0 if there is none.
abbrev pub spare_at : {T U : Type 0} → Option (PublisherPort T U) → ℕ
spare_at None = 0
spare_at (Some port) = spare_loans port

-- How many more loans the publisher with this number may make; 0 if the service's domain isn't in the hub, or has no such publisher.
abbrev pub spare_of : {T U : Type 0} → ℕ → Option (ServicePorts T U) → ℕ
spare_of number None = 0
spare_of number (Some ports) = spare_at (port_of number ports.publishers)

module _ {T U B D : Type 0} where
  -- How many samples a new subscriber of this domain may hold at once.
  abbrev pub most_samples_at : DomainId → NumberedHub T U B D → ℕ
  most_samples_at domain hub = most_samples (hub_ports domain hub.hub)

  -- How many samples of a new publisher of this domain may be held at once.
  abbrev pub most_samples_from : DomainId → NumberedHub T U B D → ℕ
  most_samples_from domain hub = most_samples_of (hub_ports domain hub.hub)

  -- Numbers are reserved for all loans that exist and all loans that publishers may still make. If there are publishers, there is capacity
  -- for the reserved numbers, and for one more.
  abbrev pub HasLoanRoom : NumberedHub T U B D → Type 0
  HasLoanRoom hub = IsPledged hub.made.publishers (loans_left_in hub.hub.services.domains) hub.pledged.loans hub.made.loans

  -- Numbers are reserved for all samples that are held and all samples that may still be received. If there are subscribers, there is
  -- capacity for the reserved numbers, and for one more.
  abbrev pub HasSampleRoom : NumberedHub T U B D → Type 0
  HasSampleRoom hub = IsPledged hub.made.subscribers (samples_left_in hub.hub.services.domains) hub.pledged.samples hub.made.samples

  -- The existing ports have the capacity that they need.
  abbrev pub HasRoom : NumberedHub T U B D → Type 0
  HasRoom hub = HasLoanRoom hub × HasSampleRoom hub

  -- If the ports had the capacity that they need, they still have it. For samples this holds if the hub's domains result from calls of
  -- ports.
  abbrev pub KeepsRoom : NumberedHub T U B D → NumberedHub T U B D → Type 0
  KeepsRoom old new = (HasLoanRoom old → HasLoanRoom new) × (HaveGrown old.hub.services.domains → HasSampleRoom old → HasSampleRoom new)

  -- How many more loans the publisher with this id may make; 0 if there is none.
  abbrev pub spare_under : Option PortId → NumberedHub T U B D → ℕ
  spare_under None hub = 0
  spare_under (Some port) hub = spare_of port.number (hub_ports port.domain hub.hub)

  -- How many more loans the port may make that a command names: none if it is a subscriber.
  abbrev pub spare_named : PortNumber → NumberedHub T U B D → ℕ
  spare_named (port_number.Publisher number) hub = spare_under (port_under (value_at hub.made.publishers number)) hub
  spare_named (port_number.Subscriber number) hub = 0

  -- How many loans a port could still have made when a command closed it; 0 if that was skipped.
  abbrev pub spare_closed : PortNumber → Result (Reply T) AllocError → NumberedHub T U B D → ℕ
  spare_closed number (Ok reply.Done) hub = spare_named number hub
  spare_closed number other hub = 0

  -- What a command makes of the reserved numbers, if it creates no port: the numbers of the loans that a closed publisher could still have
  -- made are reserved no longer, and all others stay reserved. Nothing is stated of a command that creates a port.
  abbrev pub PledgesStay : Command T → NumberedHub T U B D → Result (Reply T) AllocError → NumberedHub T U B D → Type 0
  PledgesStay (command.Publisher factory options) old answer new = Unit {0}
  PledgesStay (command.Subscriber factory options) old answer new = Unit {0}
  PledgesStay (command.Leave number) old answer new =
      new.pledged ≡ record old.pledged { loans = old.pledged.loans - spare_closed number answer old }
  PledgesStay other old answer new = new.pledged ≡ old.pledged

  -- The capacity for numbers has grown at most to twice as many as are in use, as the existing ports may still need, and as `loans` and
  -- `samples` say, plus one for each factory, and one more.
  abbrev pub GrowsFor : ℕ → ℕ → NumberedHub T U B D → NumberedHub T U B D → Type 0
  GrowsFor loans samples old new =
      GrowsTwice (length old.made.loans.entries + loans_left_in old.hub.services.domains + loans)
      (length old.factories.made.entries + 1) old.made.loans new.made.loans
      × GrowsTwice (length old.made.samples.entries + samples_at_most_in old.hub.services.domains + samples)
      (length old.factories.made.entries + 1) old.made.samples new.made.samples

  -- How many samples of a new publisher of this factory's service may be held at once; 0 if there is no factory.
  abbrev pub samples_from : Option Opened → NumberedHub T U B D → ℕ
  samples_from None hub = 0
  samples_from (Some opened) hub = most_samples_from (domain_of_factory opened) hub

  -- How many samples a new subscriber of this factory's service may hold at once; 0 if there is no factory.
  abbrev pub samples_at : Option Opened → NumberedHub T U B D → ℕ
  samples_at None hub = 0
  samples_at (Some opened) hub = most_samples_at (domain_of_factory opened) hub

  -- The capacity for numbers has grown as far as the port may need that a command creates. Nothing is stated of other commands.
  abbrev pub GrowsAs : Command T → NumberedHub T U B D → NumberedHub T U B D → Type 0
  GrowsAs (command.Publisher factory options) old new =
      GrowsFor (most_loans options) (samples_from (publish_subscribe_in (value_at old.factories.made factory)) old) old new
  GrowsAs (command.Subscriber factory options) old new =
      GrowsFor 0 (samples_at (publish_subscribe_in (value_at old.factories.made factory)) old) old new
  GrowsAs other old new = Unit {0}

  -- A sample with values was received, and is held under the number that was next before.
  abbrev pub CameUnread : NumberedHub T U B D → NumberedHub T U B D → Type 0
  CameUnread old new = (new.made.samples.next ≡ old.made.samples.next + 1)
      × SomeValues (values_under hub_ports (value_at new.made.samples old.made.samples.next) new.hub)

  -- The publisher of a loan may loan what the command names, and the subscriber of a receive exists. Nothing is stated of other commands.
  abbrev pub FindsPort : Command T → NumberedHub T U B D → Type 0
  FindsPort (command.Loan publisher elements) hub
      = IsSome (ready hub_ports (lender elements (value_at hub.made.publishers publisher)) hub.hub)
  FindsPort (command.LoanUninit publisher elements) hub = IsSome (lender elements (value_at hub.made.publishers publisher))
  FindsPort (command.Receive subscriber) hub = IsSome (value_at hub.made.subscribers subscriber)
  FindsPort other hub = Unit {0}

  -- What memory ran out for at a command without a reply, if the ports have the capacity that they need: at a receive, the values of the
  -- sample that was received; at a read, the values. Every other command has a reply.
  abbrev pub LacksInRoom : Command T → NumberedHub T U B D → NumberedHub T U B D → Type 0
  LacksInRoom (command.Receive subscriber) old new = CameUnread old new
  LacksInRoom (command.Read sample) old new = SomeValues (values_under hub_ports (value_at old.made.samples sample) old.hub) × (new ≡ old)
  LacksInRoom other old new = ⊥
