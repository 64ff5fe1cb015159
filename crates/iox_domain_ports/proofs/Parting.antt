-- A publisher leaves, connection by connection.
use Rattle.std.proofs.Common.{arith, ◌≡◌, ◌+◌, ◌-◌, ◌<◌, ◌≤◌, ℕ, zero, suc, Bool, true, false, get_or, set, None, refl, sym, subst, ap, ◌∙◌}
use Rattle.std.proofs.Common.{if◌then◌else◌}
use Rattle.std.proofs.lemmas.List.{get_or-set_other}
use Rattle.iox_domain_slots.specs.Uses.{nobody, ended}
use Rattle.iox_domain_ports.specs.Places.{is_attached}
use Rattle.iox_domain_ports.specs.Ports.{connection_of, is_live, goes_on, ended_at, with_connection_of}
use Rattle.iox_domain_ports.specs.Leaving.{parted_at, parted_from}
use Rattle.iox_domain_ports.specs.declared.publisher_port.PublisherPort.{PublisherPort}

-- one connection more
pub parting_on : {T U : Type 0} (count index : ℕ) (whole now next : PublisherPort T U) → parted_from (count - index) index now ≡ whole
    → index < count → next ≡ parted_at index now
    → parted_from (count - (index + 1)) (index + 1) next ≡ whole
parting_on count index whole now next so_far within is_next =
    let left : count - index ≡ suc (count - (index + 1)) = omega (arith, within) in
    ap (λ port. parted_from (count - (index + 1)) (index + 1) port) is_next ∙ sym (ap (λ n. parted_from n index now) left) ∙ so_far

-- no connection exists at this index or at a higher one
abbrev pub NoneFrom : {T U : Type 0} → ℕ → PublisherPort T U → Type 0
NoneFrom top port = (index : ℕ) → top ≤ index → connection_of index port ≡ nobody

-- where there is no connection none ends
parted_nobody : {T U : Type 0} (index : ℕ) (port : PublisherPort T U) → connection_of index port ≡ nobody → parted_at index port ≡ port
parted_nobody index port none = by (is_attached (get_or port.readers index None))
  where
    by : (attached : Bool) → (if attached then port else ended_at index port) ≡ port
    by true = refl
    by false =
        let dead : is_live index port ≡ false = ap (λ c. goes_on c.stage) none in
        subst (λ live. (if live then record (with_connection_of index (ended (connection_of index port)) port)
        { readers = set port.readers index None } else port) ≡ port) (sym dead) refl

-- what is left over are indices without a connection
parted_none : {T U : Type 0} (count index : ℕ) (port : PublisherPort T U) → NoneFrom index port → parted_from count index port ≡ port
parted_none zero index port none = refl
parted_none (suc count) index port none =
    ap (λ now. parted_from count (index + 1) now) (parted_nobody index port (none index (omega arith)))
    ∙ parted_none count (index + 1) port (λ other past. none other (omega (arith, past)))

-- one that ends makes no other
pub none_still : {T U : Type 0} (top index : ℕ) (now next : PublisherPort T U) → NoneFrom top now → next ≡ parted_at index now
    → NoneFrom top next
none_still top index now next none is other past =
    ap (connection_of other) is ∙ by (is_attached (get_or now.readers index None))
  where
    by_live : (live : Bool) → is_live index now ≡ live
        → connection_of other (if live then record (with_connection_of index (ended (connection_of index now)) now)
        { readers = set now.readers index None } else now) ≡ nobody
    by_live false is = none other past
    by_live true is =
        get_or-set_other now.sender.uses.connections index other (ended (connection_of index now)) nobody (λ same.
        let dead : is_live index now ≡ false = ap (λ i. is_live i now) (sym same) ∙ ap (λ c. goes_on c.stage) (none other past) in
        let no : true ≡ false = sym is ∙ dead in cc) ∙ none other past

    by : (attached : Bool) → connection_of other (if attached then now else ended_at index now) ≡ nobody
    by true = none other past
    by false = by_live (is_live index now) refl

-- no connection is left
pub parted : {T U : Type 0} (count index : ℕ) (whole now : PublisherPort T U) → parted_from (count - index) index now ≡ whole
    → NoneFrom index now → now ≡ whole
parted count index whole now so_far none = sym (parted_none (count - index) index now none) ∙ so_far
