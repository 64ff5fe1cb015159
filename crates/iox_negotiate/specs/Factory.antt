-- What a factory represents, and how it is closed.
use Rattle.std.specs.Prelude.{◌≡◌, ℕ, List, [], ◌∷◌, Result, Ok, Err}
use Rattle.iox_negotiate_base.specs.DescribeBase.declared.hash.ServiceHash.{ServiceHash}
use Rattle.iox_negotiate_base.specs.Access.{Access, Leave, RemoveDescription, RemoveSegment}
use Rattle.iox_negotiate_base.specs.declared.answer.LeaveAnswer.{LeaveAnswer}
use Rattle.iox_negotiate_base.specs.declared.answer.LeaveAnswer.TheVariants as leaving
use Rattle.iox_negotiate_base.specs.declared.answer.RemoveAnswer.{RemoveAnswer}
use Rattle.iox_negotiate_base.specs.declared.answer.RemoveAnswer.TheVariants as removing
use Rattle.iox_negotiate_base.specs.declared.request.Opened.{Opened}
use Rattle.iox_negotiate_base.specs.declared.errors.close.CloseError.{CloseError}
use Rattle.iox_negotiate_base.specs.declared.errors.close.CloseError.TheVariants.{UnableToRemoveDescription, UnableToRemoveSegment}
use Rattle.iox_negotiate.specs.declared.factory.Membership.{Membership}

-- The membership of a node in a service of a storage.
abbrev pub membership : ℕ → ℕ → Opened → Membership
membership storage node service = record { storage = storage; node = node; service = service }

-- The result of closing after the segment is removed, or can't be.
abbrev pub segment_removed : RemoveAnswer → Result (Unit {0}) CloseError
segment_removed removing.Removed = Ok tt
segment_removed removing.Fault = Err UnableToRemoveSegment

-- The storage operations remove the segment.
abbrev pub RemovesSegment : ServiceHash → ℕ → List Access → Result (Unit {0}) CloseError → Type 0
RemovesSegment hash number (RemoveSegment under of answer ∷ rest) result = (under ≡ hash) × (of ≡ number) × (rest ≡ [])
    × (result ≡ segment_removed answer)
RemovesSegment hash number made result = ⊥

-- After the removal of the description: if it succeeded, the storage operations remove the segment; else the segment stays.
abbrev pub RemovalGoes : ServiceHash → ℕ → RemoveAnswer → List Access → Result (Unit {0}) CloseError → Type 0
RemovalGoes hash number removing.Removed made result = RemovesSegment hash number made result
RemovalGoes hash number removing.Fault made result = (made ≡ []) × (result ≡ Err UnableToRemoveDescription)

-- The storage operations remove the description, and then the segment.
abbrev pub Removes : ServiceHash → ℕ → List Access → Result (Unit {0}) CloseError → Type 0
Removes hash number (RemoveDescription under of answer ∷ rest) result = (under ≡ hash) × (of ≡ number)
    × RemovalGoes hash number answer rest result
Removes hash number made result = ⊥

-- After the leave: the last node that leaves removes the service.
abbrev pub LeaveGoes : ServiceHash → ℕ → LeaveAnswer → List Access → Result (Unit {0}) CloseError → Type 0
LeaveGoes hash number leaving.Stays made result = (made ≡ []) × (result ≡ Ok tt)
LeaveGoes hash number leaving.Emptied made result = Removes hash number made result

-- The storage operations remove one factory of the node from the segment, and the service too if it was the last factory of the last node.
abbrev pub Closes : ServiceHash → ℕ → ℕ → List Access → Result (Unit {0}) CloseError → Type 0
Closes hash number node (Leave under of by answer ∷ rest) result = (under ≡ hash) × (of ≡ number) × (by ≡ node)
    × LeaveGoes hash number answer rest result
Closes hash number node made result = ⊥
