-- What the queries about a member answer.
use Rattle.std.proofs.Common.{ℕ, zero, suc, ◌≡◌, ◌∷◌, [], List, length, get_or, Bool, true, false, Option, None, Some, refl, sym, ap, ◌∙◌}
use Rattle.std.proofs.Common.{if◌then◌else◌}
use Rattle.std.specs.List.{slice_get}
use Rattle.std.specs.Option.{unwrap_or}
use Rattle.iox_container.specs.declared.container.Member.{Member}
use Rattle.iox_container.specs.declared.container.ContainerHandle.{ContainerHandle}
use Rattle.iox_container.specs.CountedPlaces.{padded}
use Rattle.iox_container.specs.Recovery.{asked_from}
use Rattle.iox_container.specs.Container.{is_of, told, told_of, member_of, value_of, is_numbered}
use Rattle.iox_container.proofs.Padded.{asked-padded}

-- the handle that is told is of the index that was asked about
told-index : {T : Type 0} (id at : ℕ) (member : Option (Member T)) (asked : Bool) (x : ContainerHandle × T)
    → (if asked then told id at member else None) ≡ Some x → x.0.index ≡ at
told-index id at None true x h = cc
told-index id at None false x h = cc
told-index id at (Some member) false x h = cc
told-index {T} id at (Some member) true x h =
    sym (ap (λ (found : Option (ContainerHandle × T)). (unwrap_or found x).0.index) h)

pub told_of-index : {T : Type 0} (owner id at : ℕ) (member : Option (Member T)) (x : ContainerHandle × T)
    → told_of owner id at member ≡ Some x → x.0.index ≡ at
told_of-index owner id at member x h = told-index id at member (is_of owner member) x h

-- what a place past the last tells is what an empty one does
pub member_of-read : {T : Type 0} (members : List (Option (Member T))) (index : ℕ)
    → get_or members index None ≡ member_of (slice_get members index)
member_of-read [] index = refl
member_of-read (member ∷ members) zero = refl
member_of-read (member ∷ members) (suc index) = member_of-read members index

pub value_of-read : {T : Type 0} (members : List (Option (Member T))) (index : ℕ)
    → value_of (Some (get_or members index None)) ≡ value_of (slice_get members index)
value_of-read [] index = refl
value_of-read (member ∷ members) zero = refl
value_of-read (member ∷ members) (suc index) = value_of-read members index

pub is_numbered-read : {T : Type 0} (number : ℕ) (members : List (Option (Member T))) (index : ℕ)
    → is_numbered number (Some (get_or members index None)) ≡ is_numbered number (slice_get members index)
is_numbered-read number [] index = refl
is_numbered-read number (member ∷ members) zero = refl
is_numbered-read number (member ∷ members) (suc index) = is_numbered-read number members index

-- the places that were never used tell nothing
pub told-used : {T : Type 0} (id : ℕ) (members used : List (Option (Member T))) → padded (length members) used ≡ members
    → asked_from (told id) 0 used ≡ asked_from (told id) 0 members
told-used id members used whole =
    sym (asked-padded (told id) (λ index. refl) 0 (length members) used) ∙ ap (λ places. asked_from (told id) 0 places) whole
