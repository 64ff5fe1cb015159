-- What was negotiated over the table of a hub is of that hub.
use Rattle.std.proofs.Common.{ℕ, ◌≡◌, List, Result, Ok, Err, ap, sym, ◌∙◌}
use Rattle.std.specs.Prelude.{IfOk}
use Rattle.std.specs.Result.{result_map_both}
use Rattle.iox_negotiate.specs.Factory.{membership}
use Rattle.iox_negotiate.specs.Negotiation.{Negotiates}
use Rattle.iox_negotiate.specs.declared.factory.Membership.{Membership}
use Rattle.iox_negotiate_table.specs.NegotiateBase.Access.{Access}
use Rattle.iox_negotiate_table.specs.NegotiateBase.declared.request.Opened.{Opened}
use Rattle.iox_negotiate_table.specs.Stepped.{Steps, SteppedSight}
use Rattle.iox_hub_base.proofs.SameTable.{went-keeps}

storage-of : {F E : Type 0} (storage node : ℕ) (error : F → E) (answer : Result Opened F) (member : Membership)
    → Ok member ≡ result_map_both (membership storage node) error answer → member.storage ≡ storage
storage-of storage node error (Ok service) member told = let same : member ≡ membership storage node service
    = cc in ap (λ m. m.storage) same
storage-of storage node error (Err failure) member told = cc

-- the factory is of the storage whose id the table has, before and after
of-the-table : {F E : Type 0} (node : ℕ) (error : F → E) (rounds : List Access → Result Opened F → Type 0) (old : Steps)
    (member : Membership) (new : Steps)
    → Negotiates SteppedSight old.table.id node error rounds old (Ok member) new → member.storage ≡ new.table.id
of-the-table node error rounds old member new negotiated =
    storage-of old.table.id node error negotiated.answer member negotiated.told ∙ sym
    (went-keeps negotiated.done.made old new negotiated.done.went)

-- the same of what may be a factory
pub if-of-the-table : {A F E : Type 0} (node : ℕ) (error : F → E) (rounds : List Access → Result Opened F → Type 0) (old : Steps)
    (member : A → Membership) (answer : Result A E) (new : Steps)
    → Negotiates SteppedSight old.table.id node error rounds old (result_map_both member (λ error. error) answer) new
    → IfOk answer (λ service. (member service).storage ≡ new.table.id)
if-of-the-table node error rounds old member (Ok service) new negotiated
    = of-the-table node error rounds old (member service) new negotiated
if-of-the-table node error rounds old member (Err failure) new negotiated = tt
