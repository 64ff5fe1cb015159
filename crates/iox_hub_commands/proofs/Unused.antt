-- A factory that is closed in the table is never answered to be in use.
use Rattle.std.proofs.Common.{◌≡◌, ℕ, List, [], ◌∷◌, Result, Err}
use Rattle.iox_hub_base.specs.DescribeBase.declared.hash.ServiceHash.{ServiceHash}
use Rattle.iox_hub_base.specs.declared.hub.Hub.{Hub}
use Rattle.iox_hub_base.specs.Negotiate.Factory.{segment_removed, RemovesSegment, RemovalGoes, Removes, LeaveGoes, Closes}
use Rattle.iox_hub_base.specs.Negotiate.declared.factory.Membership.{Membership}
use Rattle.iox_command.specs.NegotiateBase.declared.errors.close.CloseError.{CloseError}
use Rattle.iox_command.specs.NegotiateBase.declared.errors.close.CloseError.TheVariants.{StillInUse}
use Rattle.iox_command.specs.NegotiateBase.Access.{Access, Look, Lock, MakeSegment, Publish, Unlock, OpenSegment, Leave}
use Rattle.iox_command.specs.NegotiateBase.Access.{RemoveDescription, RemoveSegment}
use Rattle.iox_command.specs.NegotiateBase.declared.answer.LeaveAnswer.{LeaveAnswer}
use Rattle.iox_command.specs.NegotiateBase.declared.answer.LeaveAnswer.TheVariants as leaving
use Rattle.iox_command.specs.NegotiateBase.declared.answer.RemoveAnswer.{RemoveAnswer}
use Rattle.iox_command.specs.NegotiateBase.declared.answer.RemoveAnswer.TheVariants as removing
use Rattle.iox_hub_commands.specs.Closing.{Leaves}

-- the answer that a factory is in use
abbrev in_use : Result (Unit {0}) CloseError
in_use = Err StillInUse

not_removed : (answer : RemoveAnswer) → in_use ≡ segment_removed answer → ⊥
not_removed removing.Removed is = cc
not_removed removing.Fault is = cc

by_segment : (hash : ServiceHash) (number : ℕ) (made : List Access) → RemovesSegment hash number made in_use → ⊥
by_segment hash number [] told = told
by_segment hash number (Look under answer ∷ rest) told = told
by_segment hash number (Lock under node answer ∷ rest) told = told
by_segment hash number (MakeSegment under of node nodes answer ∷ rest) told = told
by_segment hash number (Publish under of bytes answer ∷ rest) told = told
by_segment hash number (Unlock under of ∷ rest) told = told
by_segment hash number (OpenSegment under of node answer ∷ rest) told = told
by_segment hash number (Leave under of node answer ∷ rest) told = told
by_segment hash number (RemoveDescription under of answer ∷ rest) told = told
by_segment hash number (RemoveSegment under of answer ∷ rest) (same_hash, same_number, done, is) = not_removed answer is

by_removal : (hash : ServiceHash) (number : ℕ) (answer : RemoveAnswer) (made : List Access) → RemovalGoes hash number answer made in_use → ⊥
by_removal hash number removing.Removed made told = by_segment hash number made told
by_removal hash number removing.Fault made (done, is) = cc

by_description : (hash : ServiceHash) (number : ℕ) (made : List Access) → Removes hash number made in_use → ⊥
by_description hash number [] told = told
by_description hash number (Look under answer ∷ rest) told = told
by_description hash number (Lock under node answer ∷ rest) told = told
by_description hash number (MakeSegment under of node nodes answer ∷ rest) told = told
by_description hash number (Publish under of bytes answer ∷ rest) told = told
by_description hash number (Unlock under of ∷ rest) told = told
by_description hash number (OpenSegment under of node answer ∷ rest) told = told
by_description hash number (Leave under of node answer ∷ rest) told = told
by_description hash number (RemoveDescription under of answer ∷ rest) (same_hash, same_number, goes)
    = by_removal hash number answer rest goes
by_description hash number (RemoveSegment under of answer ∷ rest) told = told

by_leaving : (hash : ServiceHash) (number : ℕ) (answer : LeaveAnswer) (made : List Access) → LeaveGoes hash number answer made in_use → ⊥
by_leaving hash number leaving.Stays made (done, is) = cc
by_leaving hash number leaving.Emptied made told = by_description hash number made told

by_accesses : (hash : ServiceHash) (number node : ℕ) (made : List Access) → Closes hash number node made in_use → ⊥
by_accesses hash number node [] told = told
by_accesses hash number node (Look under answer ∷ rest) told = told
by_accesses hash number node (Lock under other answer ∷ rest) told = told
by_accesses hash number node (MakeSegment under of other nodes answer ∷ rest) told = told
by_accesses hash number node (Publish under of bytes answer ∷ rest) told = told
by_accesses hash number node (Unlock under of ∷ rest) told = told
by_accesses hash number node (OpenSegment under of other answer ∷ rest) told = told
by_accesses hash number node (Leave under of other answer ∷ rest) (same_hash, same_number, same_node, goes)
    = by_leaving hash number answer rest goes
by_accesses hash number node (RemoveDescription under of answer ∷ rest) told = told
by_accesses hash number node (RemoveSegment under of answer ∷ rest) told = told

pub leaves_unused : {T U B D : Type 0} (member : Membership) (old new : Hub T U B D) → Leaves member old (Err StillInUse) new → ⊥
leaves_unused member old new (does, is)
    = by_accesses member.service.description.service_hash member.service.number member.node does.made does.told
