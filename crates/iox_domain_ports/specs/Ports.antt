-- The connections of a publisher are made and ended.
use Rattle.std.specs.Prelude.{ℕ, ◌+◌, ◌≡◌, ◌<◌, ◌≤◌, Bool, true, false, List, [], length, get_or, set, Option, None, Some, Result, Ok, Err}
use Rattle.std.specs.Prelude.{if◌then◌else◌}
use Rattle.std.specs.List.{position}
use Rattle.std.specs.declared.alloc.AllocError.{AllocError}
use Rattle.iox_domain_slots.specs.Uses.{Connection, connection_at, with_connection, connected, placed, nobody, ended, welcomed, is_there}
use Rattle.iox_domain_slots.specs.declared.stage.Stage.{Stage}
use Rattle.iox_domain_slots.specs.declared.stage.Stage.TheVariants as stage
use Rattle.iox_domain_ports.specs.Messages.{Message}
use Rattle.iox_domain_ports.specs.MessagesSending.{with_uses}
use Rattle.iox_domain_ports.specs.Places.{reached, leads_to, left}
use Rattle.iox_domain_ports.specs.Ties.{has_tie}
use Rattle.iox_domain_ports.specs.declared.reader.Reader.{Reader}
use Rattle.iox_domain_ports.specs.declared.publisher_port.PublisherPort.{PublisherPort}

-- Whether a connection in this stage is live.
abbrev pub goes_on : Stage → Bool
goes_on stage.Vacant = false
goes_on stage.Live = true
goes_on stage.Ended = false

-- The connection at this index.
abbrev pub connection_of : {T U : Type 0} → ℕ → PublisherPort T U → Connection (Message T U)
connection_of index port = connection_at index port.sender.uses

-- Whether the connection at this index is live.
abbrev pub is_live : {T U : Type 0} → ℕ → PublisherPort T U → Bool
is_live index port = goes_on (connection_of index port).stage

-- The publisher with this connection at this index.
abbrev pub with_connection_of : {T U : Type 0} → ℕ → Connection (Message T U) → PublisherPort T U → PublisherPort T U
with_connection_of index connection port
    = record port { sender = with_uses (with_connection index connection port.sender.uses) port.sender }

-- The publisher with these connections, and otherwise unchanged.
abbrev pub with_connections : {T U : Type 0} → List (Connection (Message T U)) → PublisherPort T U → PublisherPort T U
with_connections connections port = record port { sender = with_uses (record port.sender.uses { connections = connections }) port.sender }

-- The index of the first connection that leads to this subscriber.
abbrev pub connection_to : {T U : Type 0} → ℕ → PublisherPort T U → Option ℕ
connection_to subscriber port = position (leads_to subscriber) port.readers

-- A connection exists at each index below this one.
abbrev pub IsFullBelow : {T U : Type 0} → ℕ → PublisherPort T U → Type 0
IsFullBelow index port = (lower : ℕ) → lower < index → is_there (connection_of lower port) ≡ true

-- A new connection in which `limit` messages may wait is made at an index without one, and leads to this reader. If memory runs
-- out nothing changes.
abbrev pub Connects : {T U : Type 0} → ℕ → Reader → PublisherPort T U → Result ℕ AllocError → PublisherPort T U → Type 0
Connects limit reader old (Err error) new = new ≡ old
Connects limit reader old (Ok index) new =
    (connection_of index old ≡ nobody) × (index ≤ length old.sender.uses.connections)
    × (new ≡ record (with_connections (placed index (connected limit) old.sender.uses.connections) old) {
      readers = set (reached (length old.sender.uses.connections + 1) old.readers) index (Some reader);
    })

-- The connection that leads to this subscriber is used; if there is none, one is made.
abbrev pub Joins : {T U : Type 0} → ℕ → ℕ → Option ℕ → PublisherPort T U → Result ℕ AllocError → PublisherPort T U → Type 0
Joins subscriber limit (Some index) old answer new = (answer ≡ Ok index) × (new ≡ old)
Joins subscriber limit None old answer new = Connects limit (record { subscriber = subscriber; attached = false }) old answer new

-- The publisher after the subscriber was attached to the connection at this index.
abbrev pub attached_at : {T U : Type 0} → ℕ → ℕ → PublisherPort T U → PublisherPort T U
attached_at subscriber index port = record port
    { readers = set port.readers index (Some (record { subscriber = subscriber; attached = true })) }

-- A subscriber attaches to its connection, which is made if there is none. Only then the call can fail, and nothing changes.
abbrev pub Attaches : {T U : Type 0} → ℕ → ℕ → PublisherPort T U → Result ℕ AllocError → PublisherPort T U → Type 0
Attaches subscriber limit old (Err error) new = (connection_to subscriber old ≡ None) × (new ≡ old)
Attaches {T} {U} subscriber limit old (Ok index) new =
    (joined : PublisherPort T U) × Joins subscriber limit (connection_to subscriber old) old (Ok index) joined
    × (new ≡ attached_at subscriber index joined)

-- The publisher after the subscriber was detached from the connection at this index.
abbrev pub unread_at : {T U : Type 0} → ℕ → PublisherPort T U → PublisherPort T U
unread_at index port = record port { readers = set port.readers index (left (get_or port.readers index None)) }

-- The publisher after the connection at this index, if it is live, ended: what waits is lost, and what is borrowed stays in
-- use.
abbrev pub ended_at : {T U : Type 0} → ℕ → PublisherPort T U → PublisherPort T U
ended_at index port =
    if is_live index port then record (with_connection_of index (ended (connection_of index port)) port)
    { readers = set port.readers index None }
    else port

-- The publisher after the subscriber of the connection at this index was closed. A connection to which a place is tied ends
-- later, when the publisher follows the list of subscribers; another one ends at once.
abbrev pub detached_at : {T U : Type 0} → ℕ → PublisherPort T U → PublisherPort T U
detached_at index port = if has_tie index port.ties then unread_at index port else ended_at index port

-- The publisher after the connection at this index got the newest messages of the history, if nothing waits in it.
abbrev pub greeted_at : {T U : Type 0} → ℕ → List (Message T U) → PublisherPort T U → PublisherPort T U
greeted_at index [] port = with_connection_of index (welcomed port.sender.uses.history (connection_of index port)) port
greeted_at index waiting port = port

-- The publisher after its live connection at this index, if nothing waits in it, got as many of the newest messages of the
-- history as may wait there.
abbrev pub welcomed_at : {T U : Type 0} → ℕ → PublisherPort T U → PublisherPort T U
welcomed_at index port = if is_live index port then greeted_at index (connection_of index port).waiting port else port
