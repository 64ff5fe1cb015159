-- Theorems about sends.
use Rattle.std.specs.Prelude.{zero, suc, ℕ, ◌+◌, ◌≡◌, Bool, false, length, get_or, Option, None, Some, Result, Ok, Err, ◌≢◌, if◌then◌else◌}
use Rattle.iox_domain_values.specs.declared.port_error.SendError.{SendError}
use Rattle.iox_domain_values.specs.declared.port_error.SendError.TheVariants as sending
use Rattle.iox_domain_ports.specs.declared.meeting.Sent.{Sent}
use Rattle.iox_domain_ports.specs.declared.meeting.Sent.TheVariants as sent
use Rattle.iox_domain_ports.specs.Ports.{is_live}
use Rattle.iox_domain_ports.specs.declared.publisher_port.PublisherPort.{PublisherPort}

-- Whether the tie leads to a live connection.
abbrev pub is_live_tie : {T U : Type 0} → Option ℕ → PublisherPort T U → Bool
is_live_tie None port = false
is_live_tie (Some index) port = is_live index port

-- How many of `count` places, from `place` on, are tied to a live connection.
abbrev pub live_from : {T U : Type 0} → ℕ → ℕ → PublisherPort T U → ℕ
live_from zero place port = 0
live_from (suc count) place port = (if is_live_tie (get_or port.ties.items place None) port then 1 else 0) + live_from count (place + 1)
    port

-- How many places of the list of subscribers are tied to a live connection.
abbrev pub live_ties : {T U : Type 0} → PublisherPort T U → ℕ
live_ties port = live_from (length port.ties.items) 0 port

-- Each live connection to which a place is tied took the message: a send that answers Ok reports as many of them, and the send
-- doesn't fail with `UnableToDeliver`.
abbrev pub ReachesAll : {T U : Type 0} → Option (Result Sent SendError) → PublisherPort T U → Type 0
ReachesAll answer new = ((done : Sent) → answer ≡ Some (Ok done) → done ≡ sent.Delivered (live_ties new))
    × (answer ≢ Some (Err sending.UnableToDeliver))
