-- A domain as the home of its own ports.
use Rattle.std.specs.Prelude.{◌==◌, ◌&&◌, Bool, Option, None, Some, if◌then◌else◌}
use Rattle.iox_domain.specs.declared.domain_id.DomainId.{DomainId}
use Rattle.iox_domain.specs.Domains.{in_state}
use Rattle.iox_domain.specs.declared.domain.Domain.{Domain}
use Rattle.iox_domain.specs.declared.state.DomainState.{DomainState}

-- Whether both ids are the same.
abbrev pub same_id : DomainId → DomainId → Bool
same_id a b = (a.hub == b.hub) && (a.service == b.service)

-- The state that the domain has under this id: its own, if the id is its own, and otherwise none.
abbrev pub own_state : {T U B D : Type 0} → DomainId → Domain T U B D → Option (DomainState T U B D)
own_state id domain = if same_id domain.id id then Some domain.state else None

-- The domain after this step of its state, if it has this id; otherwise unchanged.
abbrev pub own_changed : {T U B D : Type 0} → DomainId → (DomainState T U B D → DomainState T U B D) → Domain T U B D → Domain T U B D
own_changed id step domain = if same_id domain.id id then in_state step domain else domain
