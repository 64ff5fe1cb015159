-- How far the capacity for numbers grows where a port is created.
use Rattle.std.proofs.Common.{arith, ◌≡◌, ◌≤◌, ◌+◌, ℕ, length, min, Option, None, Some, option_map, Result, Ok, Err, refl, sym, ap, subst}
use Rattle.iox_delivery.specs.Container.NumberTable.{NumberTable}
use Rattle.iox_command.specs.Ports.{command_of}
use Rattle.iox_command.specs.declared.ports.port_command.PortCommand.{PortCommand}
use Rattle.iox_command.specs.declared.ports.port_command.PortCommand.TheVariants as port_command
use Rattle.iox_command.specs.DomainValues.declared.port_owner.PortOwner.{PortOwner}
use Rattle.iox_delivery.specs.Domain.declared.domain_id.DomainId.{DomainId}
use Rattle.iox_hub_base.specs.Opening.{Made as Opened}
use Rattle.iox_hub_base.specs.Room.{loans_left_in, samples_at_most_in}
use Rattle.iox_hub_commands.specs.Making.{NumbersPort}
use Rattle.iox_hub_commands.specs.PortRoom.{GrowsAs, GrowsTwice, GrowsFor, most_samples_at, most_samples_from, samples_at, samples_from}
use Rattle.iox_hub_commands.specs.Room.{OnlyRoomier}
use Rattle.iox_hub_commands.specs.Services.{domain_of_factory, owner_of_factory}
use Rattle.iox_hub_commands.specs.Tables.{SameMessages}
use Rattle.iox_hub_commands.specs.declared.numbered_hub.NumberedHub.{NumberedHub}
use Rattle.iox_hub_commands.specs.declared.ports.made.Made.{Made}

-- a port that gets a number changes no number of a message
pub numbered_messages : {E : Type 0} (numbered : ℕ → Made → Made) → ((number : ℕ) (made : Made) → SameMessages made (numbered number made))
    → (next : ℕ) (came : Option (Result ℕ E)) (old : Made) (answer : Option (Result ℕ E)) (new : Made)
    → NumbersPort numbered next came old answer new → SameMessages old new
numbered_messages numbered same next None old answer new is = (ap (λ made. made.loans) is.1, ap (λ made. made.samples) is.1)
numbered_messages numbered same next (Some (Err error)) old answer new is =
    (ap (λ made. made.loans) is.1, ap (λ made. made.samples) is.1)
numbered_messages numbered same next (Some (Ok number)) old answer new is =
    subst (λ (made : Made). SameMessages old made) (sym is.1) (same number old)

-- a table that stays hasn't grown
same_grows : {V : Type 0} (reserved beside : ℕ) (old new : NumberTable V) → new ≡ old → GrowsTwice reserved beside old new
same_grows reserved beside old new is = let room = ap (λ table. table.room) is in omega (arith, room)

-- where a factory's ports are, and whose
abbrev place_of : Opened → DomainId × PortOwner
place_of opened = (domain_of_factory opened, owner_of_factory opened)

module _ {T U B D : Type 0} where
  -- nothing grows
  pub grows_none : (loans samples : ℕ) (hub : NumberedHub T U B D) → GrowsFor loans samples hub hub
  grows_none loans samples hub = (
    same_grows (length hub.made.loans.entries + loans_left_in hub.hub.services.domains + loans) (length hub.factories.made.entries + 1)
        hub.made.loans hub.made.loans refl,
    same_grows (length hub.made.samples.entries + samples_at_most_in hub.hub.services.domains + samples)
        (length hub.factories.made.entries + 1) hub.made.samples hub.made.samples refl,
  )

  -- only the capacity for loans grows
  pub grows_loans : (loans samples : ℕ) (old new : NumberedHub T U B D)
      → GrowsTwice (length old.made.loans.entries + loans_left_in old.hub.services.domains + loans) (length old.factories.made.entries + 1)
      old.made.loans new.made.loans → new.made.samples ≡ old.made.samples → GrowsFor loans samples old new
  grows_loans loans samples old new grows same = (
    grows,
    same_grows (length old.made.samples.entries + samples_at_most_in old.hub.services.domains + samples)
        (length old.factories.made.entries + 1) old.made.samples new.made.samples same,
  )

  -- and then that for samples
  pub grows_both : (loans samples more : ℕ) (old mid new : NumberedHub T U B D) → OnlyRoomier old mid
      → GrowsTwice (length old.made.loans.entries + loans_left_in old.hub.services.domains + loans) (length old.factories.made.entries + 1)
      old.made.loans mid.made.loans → mid.made.samples ≡ old.made.samples → more ≤ samples
      → GrowsTwice (length mid.made.samples.entries + samples_at_most_in mid.hub.services.domains + more)
      (length mid.factories.made.entries + 1) mid.made.samples new.made.samples → new.made.loans ≡ mid.made.loans
      → GrowsFor loans samples old new
  grows_both loans samples more old mid new roomier grows same few further stays =
      let room : new.made.loans.room ≡ mid.made.loans.room = ap (λ table. table.room) stays in
      let entries : length mid.made.samples.entries ≡ length old.made.samples.entries = ap (λ table. length table.entries) same in
      let had : mid.made.samples.room ≡ old.made.samples.room = ap (λ table. table.room) same in
      let left : samples_at_most_in mid.hub.services.domains ≡ samples_at_most_in old.hub.services.domains =
      ap (λ hub. samples_at_most_in hub.hub.services.domains) roomier.1 in
      let factories : length mid.factories.made.entries ≡ length old.factories.made.entries =
      ap (λ hub. length hub.factories.made.entries) roomier.1 in
      (omega (arith, room, grows), omega (arith, entries, had, left, factories, few, further))

  -- a port that comes afterwards needs no more
  pub grows_still : (loans samples : ℕ) (old mid new : NumberedHub T U B D) → GrowsFor loans samples old mid
      → SameMessages mid.made new.made → GrowsFor loans samples old new
  grows_still loans samples old mid new grows same =
      let loans_room : new.made.loans.room ≡ mid.made.loans.room = ap (λ table. table.room) same.0 in
      let samples_room : new.made.samples.room ≡ mid.made.samples.room = ap (λ table. table.room) same.1 in
      (omega (arith, loans_room, grows.0), omega (arith, samples_room, grows.1))

  -- only the capacity for samples grows
  pub grows_samples : (samples more : ℕ) (old new : NumberedHub T U B D) → new.made.loans ≡ old.made.loans → more ≤ samples
      → GrowsTwice (length old.made.samples.entries + samples_at_most_in old.hub.services.domains + more)
      (length old.factories.made.entries + 1) old.made.samples new.made.samples → GrowsFor 0 samples old new
  grows_samples samples more old new same few grows = (
    same_grows (length old.made.loans.entries + loans_left_in old.hub.services.domains + 0) (length old.factories.made.entries + 1)
        old.made.loans new.made.loans same,
    omega (arith, few, grows),
  )

  -- the samples of a new port in the factory's domain
  pub from_factory : (found : Option Opened) (domain : DomainId) (owner : PortOwner) (hub : NumberedHub T U B D)
      → option_map place_of found ≡ Some (domain, owner) → most_samples_from domain hub ≡ samples_from found hub
  from_factory None domain owner hub is = cc
  from_factory (Some opened) domain owner hub is =
      let one : place_of opened ≡ (domain, owner) = cc in
      sym (ap (λ (place : DomainId × PortOwner). most_samples_from place.0 hub) one)

  pub at_factory : (found : Option Opened) (domain : DomainId) (owner : PortOwner) (hub : NumberedHub T U B D)
      → option_map place_of found ≡ Some (domain, owner) → most_samples_at domain hub ≡ samples_at found hub
  at_factory None domain owner hub is = cc
  at_factory (Some opened) domain owner hub is =
      let one : place_of opened ≡ (domain, owner) = cc in
      sym (ap (λ (place : DomainId × PortOwner). most_samples_at place.0 hub) one)

-- the least of a number and another is at most the number
pub least : (number bound counted : ℕ) → counted ≡ min number bound → counted ≤ number
least number bound counted is = omega (arith, is)

-- a command of a port creates none
module _ {T U B D : Type 0} where
  pub no_growth : (asked : PortCommand T) (old new : NumberedHub T U B D) → GrowsAs (command_of asked) old new
  no_growth (port_command.Loan publisher length) old new = tt
  no_growth (port_command.LoanUninit publisher length) old new = tt
  no_growth (port_command.Set loan place value) old new = tt
  no_growth (port_command.Fill loan values) old new = tt
  no_growth (port_command.Drop loan) old new = tt
  no_growth (port_command.Send loan) old new = tt
  no_growth (port_command.Put publisher values) old new = tt
  no_growth (port_command.Retry publisher nanoseconds) old new = tt
  no_growth (port_command.GiveUp publisher) old new = tt
  no_growth (port_command.Receive subscriber) old new = tt
  no_growth (port_command.Read sample) old new = tt
  no_growth (port_command.Sequence sample) old new = tt
  no_growth (port_command.Release sample) old new = tt
  no_growth (port_command.Update number) old new = tt
  no_growth (port_command.Leave number) old new = tt
  no_growth (port_command.Has subscriber) old new = tt
