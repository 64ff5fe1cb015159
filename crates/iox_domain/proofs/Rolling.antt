-- A port leaves its list.
use Rattle.std.proofs.Common.{ℕ, ◌≡◌, ◌+◌, ◌<◌, ◌^◌, ◌&&◌, ◌↔◌, slice_get, slice_set, nat_eq, Bool, true, false, Option, None, Some}
use Rattle.std.proofs.Common.{Result, Ok, Err, IfOk, IsErr, is_some, refl, sym, ap, ◌∙◌, if◌then◌else◌, subst}
use Rattle.std.specs.Option.{unwrap_or}
use Rattle.std.proofs.lemmas.Bool.{lt-ltb, eq-eqb}
use Rattle.iox_domain_ports.proofs.Container.Told.{member_of-read}
use Rattle.iox_domain_ports.specs.Container.Container.{Contents, handle_at, member_of, is_numbered, owns, settled, without_member}
use Rattle.iox_domain_ports.specs.Container.declared.container.Member.{Member}
use Rattle.iox_domain_ports.specs.Container.declared.container.ContainerHandle.{ContainerHandle}
use Rattle.iox_domain_ports.specs.Container.declared.error.ContainerRemoveError.{ContainerRemoveError}
use Rattle.iox_domain_ports.specs.Container.declared.release.ReleaseMode.{ReleaseMode}
use Rattle.iox_domain_ports.specs.Container.declared.release.ReleaseState.{ReleaseState}
use Rattle.iox_domain_ports.specs.Container.Release.{state_of}
use Rattle.iox_domain.specs.Rolls.{RollState, may_change, is_listed, left, changed_to}

-- what is seen of a container as a list of ports
abbrev roll_of : {V : Type 0} → Contents V → RollState V
roll_of contents = record { places = contents.members; changes = contents.changes }

told-none : {V : Type 0} (id index : ℕ) (member : Option (Member V)) → handle_at id index member ≡ None → is_some member ≡ false
told-none id index None h = refl
told-none id index (Some member) h = cc

told-some : {V : Type 0} (id index : ℕ) (member : Option (Member V)) (handle : ContainerHandle)
    → handle_at id index member ≡ Some handle → is_some member ≡ true
told-some id index None handle h = cc
told-some id index (Some member) handle h = refl

stays : {A : Type 0} (may listed : Bool) (x y : A) → listed ≡ false → (if may then (if listed then x else y) else y) ≡ y
stays true listed x y h = ap (λ listed. if listed then x else y) h
stays false listed x y h = refl

goes : {A : Type 0} (may listed : Bool) (x y : A) → may ≡ true → listed ≡ true → (if may then (if listed then x else y) else y) ≡ x
goes true true x y may listed = refl
goes true false x y may listed = cc
goes false listed x y may is = cc

pub left-none : {V : Type 0} (id place : ℕ) (roll : RollState V) → handle_at id place (member_of (slice_get roll.places place)) ≡ None
    → left place roll ≡ roll
left-none id place roll h =
    stays (may_change roll) (is_listed place roll) (changed_to (slice_set roll.places place None) roll) roll
    (ap is_some (member_of-read roll.places place) ∙ told-none id place (member_of (slice_get roll.places place)) h)

pub left-some : {V : Type 0} (id place : ℕ) (roll : RollState V) (handle : ContainerHandle) → roll.changes + 1 < 2 ^ 64
    → handle_at id place (member_of (slice_get roll.places place)) ≡ Some handle
    → left place roll ≡ changed_to (slice_set roll.places place None) roll
left-some id place roll handle room h =
    goes (may_change roll) (is_listed place roll) (changed_to (slice_set roll.places place None) roll) roll (lt-ltb _ _ room)
    (ap is_some (member_of-read roll.places place) ∙ told-some id place (member_of (slice_get roll.places place)) handle h)

both : (a b : Bool) → a ≡ true → b ≡ true → a && b ≡ true
both true b ha hb = hb
both false b ha hb = cc

-- the handle of a member that is in is of this container, and of its place
owned : {V : Type 0} (id place : ℕ) (found : Option (Option (Member V))) (handle : ContainerHandle)
    → handle_at id place (member_of found) ≡ Some handle
    → (nat_eq handle.container id && is_numbered handle.number found ≡ true) × (handle.index ≡ place)
owned id place None handle h = cc
owned id place (Some None) handle h = cc
owned id place (Some (Some member)) handle h = (
  both (nat_eq handle.container id) (nat_eq member.number handle.number)
      (sym (ap (λ told. nat_eq (unwrap_or told handle).container id) h) ∙ eq-eqb id id refl)
      (sym (ap (λ told. nat_eq member.number (unwrap_or told handle).number) h) ∙ eq-eqb member.number member.number refl),
  sym (ap (λ told. (unwrap_or told handle).index) h),
)

removed : {V : Type 0} (mode : ReleaseMode) (handle : ContainerHandle) (contents new : Contents V)
    (result : Result ReleaseState ContainerRemoveError)
    → (IsErr result ↔ (owns handle contents ≡ false)) → owns handle contents ≡ true
    → IfOk result (λ state. (new ≡ settled mode (without_member handle.index contents)) × (state ≡ state_of new.locked))
    → new ≡ settled mode (without_member handle.index contents)
removed mode handle contents new (Ok state) refused is ok = ok.0
removed mode handle contents new (Err error) refused is ok =
    let no : true ≡ false = sym is ∙ refused.0 refl in cc

pub removed-left : {V : Type 0} (mode : ReleaseMode) (place : ℕ) (handle : ContainerHandle) (contents new : Contents V)
    (result : Result ReleaseState ContainerRemoveError)
    → handle_at contents.id place (member_of (slice_get contents.members place)) ≡ Some handle
    → (IsErr result ↔ (owns handle contents ≡ false))
    → IfOk result (λ state. (new ≡ settled mode (without_member handle.index contents)) × (state ≡ state_of new.locked))
    → roll_of new ≡ changed_to (slice_set contents.members place None) (roll_of contents)
removed-left mode place handle contents new result is refused ok =
    let there = owned contents.id place (slice_get contents.members place) handle is in
    ap (λ contents. roll_of contents) (removed mode handle contents new result refused
    (subst (λ index. nat_eq handle.container contents.id && is_numbered handle.number (slice_get contents.members index) ≡ true)
    (sym there.1) there.0) ok)
    ∙ ap (λ index. changed_to (slice_set contents.members index None) (roll_of contents)) there.1
