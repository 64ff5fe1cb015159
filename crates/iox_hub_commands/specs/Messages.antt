-- What the commands on loans, sends and samples do to the tables of numbers, and to the home of the ports. `ports_of` finds the ports of a
-- domain in a home, `with_ports` replaces them.
use Rattle.std.specs.Prelude.{ℕ, ◌≡◌, ◌<◌, Bool, List, length, is_some, Option, None, Some, Result, Ok, Err, if◌then◌else◌}
use Rattle.std.specs.Vec.{vec_items}
use Rattle.std.specs.Global.{Vec}
use Rattle.std.specs.declared.alloc.AllocError.{AllocError}
use Rattle.iox_command.specs.declared.reply.Reply.{Reply}
use Rattle.iox_command.specs.declared.reply.Reply.TheVariants as reply
use Rattle.iox_delivery.specs.Domain.declared.domain_id.DomainId.{DomainId}
use Rattle.iox_delivery.specs.Domain.Lending.{gave_up_in}
use Rattle.iox_delivery.specs.Domain.declared.ports.service_ports.ServicePorts.{ServicePorts}
use Rattle.iox_delivery.specs.DomainPorts.declared.meeting.Sent.{Sent}
use Rattle.iox_command.specs.DomainValues.declared.backpressure.BackpressureDecision.{BackpressureDecision}
use Rattle.iox_command.specs.DomainValues.declared.backpressure.BackpressureInfo.{BackpressureInfo}
use Rattle.iox_command.specs.DomainValues.declared.degradation.DegradationAction.{DegradationAction}
use Rattle.iox_command.specs.DomainValues.declared.degradation.DegradationInfo.{DegradationInfo}
use Rattle.iox_command.specs.DomainValues.declared.port_error.SendError.{SendError}
use Rattle.iox_hub_commands.specs.Calls.{AtPort, Retries, GivesUp}
use Rattle.iox_hub_commands.specs.Loans.{loan_under, changed_under, is_set, set_in, is_filled, filled_in, SendsUnder}
use Rattle.iox_hub_commands.specs.Numbering.{removed_if}
use Rattle.iox_hub_commands.specs.Reading.{values_under, sequence_under, is_held, ReleasesUnder}
use Rattle.iox_hub_commands.specs.Tables.{port_under, without_loan, without_sample}
use Rattle.iox_hub_commands.specs.declared.ports.made.Made.{Made}
use Rattle.iox_delivery.specs.Container.NumberTable.{value_at}
use Rattle.iox_hub_commands.specs.Replies.{sent_reply, given_up_reply, sequence_reply, done_reply}

-- One value of a written loan is replaced.
abbrev pub SetStep : {T U H : Type 0} → (DomainId → H → Option (ServicePorts T U)) → (DomainId → ServicePorts T U → H → H) → ℕ → ℕ → T
    → Made → H → Reply T → H → Type 0
SetStep ports_of with_ports loan place value made old answer new =
    (done : Bool) × (done ≡ is_set place (loan_under ports_of (value_at made.loans loan) old))
    × (new ≡ (if done then changed_under ports_of with_ports (set_in place value) (value_at made.loans loan) old else old))
    × (answer ≡ done_reply done)

-- All values of a loan are written.
abbrev pub FillStep : {T U H : Type 0} → (DomainId → H → Option (ServicePorts T U)) → (DomainId → ServicePorts T U → H → H) → ℕ → List T
    → Made → H → Reply T → H → Type 0
FillStep ports_of with_ports loan values made old answer new =
    (done : Bool) × (done ≡ is_filled ports_of values (value_at made.loans loan) old)
    × (new ≡ changed_under ports_of with_ports (filled_in values) (value_at made.loans loan) old)
    × (answer ≡ done_reply done)

-- A loan is dropped.
abbrev pub DropStep : {T U H : Type 0} → (DomainId → H → Option (ServicePorts T U)) → (DomainId → ServicePorts T U → H → H) → ℕ → Made
    → H → Reply T → Made → H → Type 0
DropStep ports_of with_ports loan made old answer made_after new =
    (done : Bool) × (done ≡ is_some (loan_under ports_of (value_at made.loans loan) old))
    × (new ≡ (if done then changed_under ports_of with_ports gave_up_in (value_at made.loans loan) old else old))
    × (made_after ≡ removed_if done (without_loan loan) made) × (answer ≡ done_reply done)

-- A loan is sent.
abbrev pub SendStep : {T U H : Type 0} → (DomainId → H → Option (ServicePorts T U)) → (DomainId → ServicePorts T U → H → H)
    → (DomainId → ℕ → H → DegradationInfo → DegradationAction → Type 0)
    → (DomainId → ℕ → H → BackpressureInfo → BackpressureDecision → Type 0) → ℕ → Made → H → Reply T → Made → H → Type 0
SendStep ports_of with_ports degrades decides loan made old answer made_after new =
    (sent : Option (Result Sent SendError)) × SendsUnder ports_of with_ports degrades decides (value_at made.loans loan) old sent new
    × (made_after ≡ removed_if (is_some sent) (without_loan loan) made) × (answer ≡ sent_reply sent)

-- A blocked send is tried again.
abbrev pub RetryStep : {T U H : Type 0} → (DomainId → H → Option (ServicePorts T U)) → (DomainId → ServicePorts T U → H → H)
    → (DomainId → ℕ → H → BackpressureInfo → BackpressureDecision → Type 0) → ℕ → ℕ → Made → H → Reply T → H → Type 0
RetryStep ports_of with_ports decides publisher elapsed made old answer new =
    (sent : Option (Result Sent SendError))
    × AtPort (Retries ports_of with_ports decides elapsed) (port_under (value_at made.publishers publisher)) old sent new
    × (answer ≡ sent_reply sent)

-- A blocked send is given up.
abbrev pub GiveUpStep : {T U H : Type 0} → (DomainId → H → Option (ServicePorts T U)) → (DomainId → ServicePorts T U → H → H) → ℕ → Made
    → H → Reply T → H → Type 0
GiveUpStep ports_of with_ports publisher made old answer new =
    (count : Option ℕ) × AtPort (GivesUp ports_of with_ports) (port_under (value_at made.publishers publisher)) old count new
    × (answer ≡ given_up_reply count)

-- The reply to a read of a sample: its values.
abbrev pub IsReadReply : {T : Type 0} → Option (List T) → Reply T → Type 0
IsReadReply None answer = answer ≡ reply.Skipped
IsReadReply {T} (Some found) answer = (values : Vec T) × (vec_items values ≡ found) × (answer ≡ reply.Values values)

-- The message has at least one value.
abbrev pub SomeValues : {T : Type 0} → Option (List T) → Type 0
SomeValues None = ⊥
SomeValues (Some values) = 0 < length values

-- A sample is read. The command has no reply only if the sample has values and memory runs out for them.
abbrev pub ReadStep : {T U H : Type 0} → (DomainId → H → Option (ServicePorts T U)) → ℕ → Made → H → Result (Reply T) AllocError → Type 0
ReadStep ports_of sample made old (Ok answer) = IsReadReply (values_under ports_of (value_at made.samples sample) old) answer
ReadStep ports_of sample made old (Err lacking) = SomeValues (values_under ports_of (value_at made.samples sample) old)

-- The sequence number of a sample's message is reported.
abbrev pub SequenceStep : {T U H : Type 0} → (DomainId → H → Option (ServicePorts T U)) → ℕ → Made → H → Reply T → Type 0
SequenceStep ports_of sample made old answer = answer ≡ sequence_reply (sequence_under ports_of (value_at made.samples sample) old)

-- A sample is released.
abbrev pub ReleaseStep : {T U H : Type 0} → (DomainId → H → Option (ServicePorts T U)) → (DomainId → ServicePorts T U → H → H) → ℕ
    → Made → H → Reply T → Made → H → Type 0
ReleaseStep ports_of with_ports sample made old answer made_after new =
    (done : Bool) × (done ≡ is_held ports_of (value_at made.samples sample) old)
    × ReleasesUnder ports_of with_ports (value_at made.samples sample) old done new
    × (made_after ≡ removed_if done (without_sample sample) made) × (answer ≡ done_reply done)
