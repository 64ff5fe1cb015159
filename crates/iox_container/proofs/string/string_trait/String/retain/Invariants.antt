use Rattle.std.proofs.Common.{◌≡◌}
use denote.Param.Always.{always_mut}
use denote.Param.Members.{Called}
use Rattle.iox_container.proofs.Retains.{RetainedSoFar}
use Rattle.iox_container.proofs.string.string_trait.String.retain.Given as goal

-- the calls so far, with what they kept, and what stays
abbrev pub invariant-loop-at : goal.invariant-loop-at
invariant-loop-at g l =
    always_mut g.F.FnMut l.keeps
    × (g.Self.String.room l.self ≡ g.Self.String.room l.initial.self)
    × RetainedSoFar (λ p byte answer q. Called g.F.FnMut p (byte, tt) answer q) l.initial.keeps (g.Self.String.text l.initial.self)
    (g.Self.String.text l.self) l.keeps l.kept l.at
