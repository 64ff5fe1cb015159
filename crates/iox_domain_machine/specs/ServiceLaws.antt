-- A call at one domain among others matches the command at a machine with the services of all.
use Rattle.std.specs.Prelude.{ℕ, ◌≡◌, ◌≢◌, List, ◌∷◌, ◌++◌, Some}
use Rattle.iox_command.specs.NegotiateBase.DescribeBase.declared.message_type.MessageTypeDetails.{MessageTypeDetails}
use Rattle.iox_command.specs.declared.command.Command.{Command}
use Rattle.iox_command.specs.declared.command.Command.TheVariants as command
use Rattle.iox_command.specs.declared.port.PortNumber.TheVariants as port
use Rattle.iox_command.specs.declared.reply.Reply.{Reply}
use Rattle.iox_domain.specs.DomainPorts.declared.attached.Taken.{Taken}
use Rattle.iox_domain.specs.declared.ports.service_ports.ServicePorts.{ServicePorts}
use Rattle.iox_domain_machine.specs.Laws.{Matches}
use Rattle.iox_domain_machine.specs.Naming.{Naming, with_name}
use Rattle.iox_domain_machine.specs.Services.{those_of, ComesOnce, DomainsStandFor}
use Rattle.iox_domain_machine.specs.Standing.{StandsFor}
use Rattle.iox_domain_machine.specs.Tables.{LentSlot}
use Rattle.iox_machine.specs.Choices.{Choices}
use Rattle.iox_machine.specs.Run.{Step}
use Rattle.iox_machine.specs.Service.{Service}
use Rattle.iox_machine.specs.State.{State, counted}
use Rattle.iox_machine.specs.Table.{at}

-- Some port has this name, which isn't 0.
abbrev pub IsNamed : (ℕ → ℕ) → ℕ → Type 0
IsNamed name number = (port : ℕ) × (name port ≡ number) × (number ≢ 0)

-- The table has an entry of this domain under this number.
abbrev pub GoesBy : {V : Type 0} → ℕ → ℕ → List (ℕ × (ℕ × V)) → Type 0
GoesBy {V} domain number table = (value : V) × (at number table ≡ Some (domain, value))

-- The command names a port, a loan or a sample of this domain.
abbrev pub NamesOf : {T : Type 0} → ℕ → Naming → List (ℕ × (ℕ × LentSlot)) → List (ℕ × (ℕ × Taken)) → Command T → Type 0
NamesOf domain names lent held (command.Loan publisher length) = IsNamed names.publisher publisher
NamesOf domain names lent held (command.LoanUninit publisher length) = IsNamed names.publisher publisher
NamesOf domain names lent held (command.Put publisher values) = IsNamed names.publisher publisher
NamesOf domain names lent held (command.Retry publisher nanoseconds) = IsNamed names.publisher publisher
NamesOf domain names lent held (command.GiveUp publisher) = IsNamed names.publisher publisher
NamesOf domain names lent held (command.Update (port.Publisher publisher)) = IsNamed names.publisher publisher
NamesOf domain names lent held (command.Leave (port.Publisher publisher)) = IsNamed names.publisher publisher
NamesOf domain names lent held (command.Receive subscriber) = IsNamed names.subscriber subscriber
NamesOf domain names lent held (command.Has subscriber) = IsNamed names.subscriber subscriber
NamesOf domain names lent held (command.Update (port.Subscriber subscriber)) = IsNamed names.subscriber subscriber
NamesOf domain names lent held (command.Leave (port.Subscriber subscriber)) = IsNamed names.subscriber subscriber
NamesOf domain names lent held (command.Set loan place value) = GoesBy domain loan lent
NamesOf domain names lent held (command.Fill loan values) = GoesBy domain loan lent
NamesOf domain names lent held (command.Drop loan) = GoesBy domain loan lent
NamesOf domain names lent held (command.Send loan) = GoesBy domain loan lent
NamesOf domain names lent held (command.Read sample) = GoesBy domain sample held
NamesOf domain names lent held (command.Sequence sample) = GoesBy domain sample held
NamesOf domain names lent held (command.Release sample) = GoesBy domain sample held
NamesOf domain names lent held other = ⊥

-- The table changes only in entries of this domain, and still has each number at most once.
abbrev pub ChangesAt : {V : Type 0} → ℕ → List (ℕ × (ℕ × V)) → List (ℕ × (ℕ × V)) → Type 0
ChangesAt domain old new = ((other : ℕ) → other ≢ domain → those_of other new ≡ those_of other old) × ComesOnce new

-- The domains represent the services of a machine, and a command names something of one of them. If the call of this domain
-- matches the command at its own service alone, the machine with all services gives the same reply to the command, and all
-- domains represent its services afterwards. The call creates no port.
abbrev pub AmongOthersMatches : (T U : Type 0) → Choices T → Type 0
AmongOthersMatches T U choices = (types : MessageTypeDetails) (buffer : ℕ) (names : ℕ → Naming)
    (lent lent_then : List (ℕ × (ℕ × LentSlot))) (held held_then : List (ℕ × (ℕ × Taken))) (before behind : List (ℕ × ServicePorts T U))
    (domain : ℕ) (old new : ServicePorts T U) (state : State T) (asked : Command T) (answer : Reply T) (names_then : Naming)
    → DomainsStandFor names lent held buffer (before ++ (domain, old) ∷ behind) state.services
    → NamesOf domain (names domain) lent held asked
    → names_then.publisher ≡ (names domain).publisher → names_then.subscriber ≡ (names domain).subscriber
    → ChangesAt domain lent lent_then → ChangesAt domain held held_then
    → ((first : List (Service T)) (service : Service T) (last : List (Service T)) → state.services ≡ first ++ service ∷ last
    → StandsFor (names domain) (those_of domain lent) (those_of domain held) buffer old service
    → Matches T U choices types buffer asked answer state service names_then (those_of domain lent_then) (those_of domain held_then) new)
    → (services : List (Service T))
    × Step types choices buffer asked state answer (record state { made = counted answer state.made; services = services })
    × DomainsStandFor (with_name domain names_then names) lent_then held_then buffer (before ++ (domain, new) ∷ behind) services
