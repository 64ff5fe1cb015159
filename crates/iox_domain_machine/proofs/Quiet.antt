-- Once a message is released, no message is waiting at connections that ended, and something is borrowed from each.
use Rattle.std.proofs.Common.{◌≡◌, ◌∷◌, [], ℕ, zero, suc, List, get_or, set, refl}
use Rattle.iox_domain.specs.DomainPorts.Ports.{connection_of, with_connection_of}
use Rattle.iox_domain.specs.DomainPorts.declared.publisher_port.PublisherPort.{PublisherPort}
use Rattle.iox_domain.specs.DomainSlots.Uses.{Connection, nobody, ended, settled, given_back}
use Rattle.iox_domain.specs.DomainSlots.declared.stage.Stage.{Stage}
use Rattle.iox_domain.specs.DomainSlots.declared.stage.Stage.TheVariants as stage
use Rattle.iox_domain_machine.specs.Mailboxes.{IsOnlyHeld}

-- nothing waits at a connection if it ended, and something is borrowed
abbrev pub IsQuiet : {X : Type 0} → Connection X → Type 0
IsQuiet connection = connection.stage ≡ stage.Ended → IsOnlyHeld connection

settled_quiet : {X : Type 0} (now : Stage) (limit : ℕ) (waiting borrowed : List X) → (now ≡ stage.Ended → waiting ≡ [])
    → IsQuiet (settled now limit waiting borrowed)
settled_quiet stage.Ended limit waiting [] quiet = λ is. absurd (cc)
settled_quiet stage.Ended limit waiting (one ∷ more) quiet = λ is. (quiet is, λ none. cc)
settled_quiet stage.Live limit waiting borrowed quiet = λ is. absurd (cc)
settled_quiet stage.Vacant limit waiting borrowed quiet = λ is. absurd (cc)

-- so is what is left of one that ended
pub ended_quiet : {X : Type 0} (connection : Connection X) → IsQuiet (ended connection)
ended_quiet connection = settled_quiet stage.Ended connection.limit [] connection.borrowed (λ is. refl)

set_quiet : {X : Type 0} (connections : List (Connection X)) (index : ℕ) (connection : Connection X) → IsQuiet connection
    → ((other : ℕ) → IsQuiet (get_or connections other nobody)) → (other : ℕ)
    → IsQuiet (get_or (set connections index connection) other nobody)
set_quiet [] index connection quiet all other = all other
set_quiet (first ∷ more) zero connection quiet all zero = quiet
set_quiet (first ∷ more) zero connection quiet all (suc other) = all (suc other)
set_quiet (first ∷ more) (suc index) connection quiet all zero = all zero
set_quiet (first ∷ more) (suc index) connection quiet all (suc other) =
    set_quiet more index connection quiet (λ which. all (suc which)) other

pub back_quiet : {T U : Type 0} (index place : ℕ) (port : PublisherPort T U) → ((other : ℕ) → IsQuiet (connection_of other port))
    → (other : ℕ) → IsQuiet (connection_of other (with_connection_of index (given_back place (connection_of index port)) port))
back_quiet index place port quiet other =
    set_quiet port.sender.uses.connections index (given_back place (connection_of index port))
    (settled_quiet (connection_of index port).stage (connection_of index port).limit (connection_of index port).waiting _
    (λ is. (quiet index is).0))
    quiet
    other
