-- The number of values of a message, found by its slot.
use Rattle.std.proofs.Common.{ℕ, ◌≡◌, ◌+◌, ◌==◌, Bool, true, false, not, List, length, Option, None, Some, option_map}
use Rattle.std.proofs.Common.{slice_get, map, refl, ap, sym, ◌∙◌}
use Rattle.std.specs.List.{list_any}
use Rattle.std.proofs.lemmas.Option.{slice_get-map}
use Rattle.iox_domain.specs.DomainPorts.Messages.{Message}
use Rattle.iox_lanes_opening.specs.Slices.{is_slice, is_slice_in}
use Rattle.iox_lanes_opening.proofs.Going.{is_so, NoneGot, some_got, got_more}

slice_by : {T U : Type 0} (at : Option (Message T U)) (slot : ℕ) (values : List T) → option_map (λ message. message.slot) at ≡ Some slot
    → ((message : Message T U) → at ≡ Some message → message.slot ≡ slot → values ≡ message.values)
    → is_slice_in at ≡ not (length values == 1)
slice_by None slot values there read = cc
slice_by (Some message) slot values there read = ap (λ values. not (length values == 1)) (sym (read message refl (cc)))

-- whether the message in a slot, which stands at this place of a list, is one value
pub slice_at : {T U : Type 0} (list : List (Message T U)) (at slot : ℕ) (values : List T)
    → slice_get (map (λ message. message.slot) list) at ≡ Some slot
    → ((message : Message T U) → slice_get list at ≡ Some message → message.slot ≡ slot → values ≡ message.values)
    → is_slice_in (slice_get list at) ≡ not (length values == 1)
slice_at list at slot values there read
    = slice_by (slice_get list at) slot values (sym (slice_get-map (λ message. message.slot) list at) ∙ there) read

is_so_same : {T U : Type 0} (at : Option (Message T U)) → is_so is_slice at ≡ is_slice_in at
is_so_same None = refl
is_so_same (Some message) = refl

-- one that isn't one value is enough
pub some_slice : {T U : Type 0} (list : List (Message T U)) (k : ℕ) (result : Bool) → result ≡ is_slice_in (slice_get list k)
    → result ≡ true → list_any is_slice list ≡ true
some_slice list k result told is = some_got is_slice list k (is_so_same (slice_get list k) ∙ sym told ∙ is)

pub slice_more : {T U : Type 0} (list : List (Message T U)) (count : ℕ) (result : Bool) → NoneGot is_slice list count
    → result ≡ is_slice_in (slice_get list count) → result ≡ false → NoneGot is_slice list (count + 1)
slice_more list count result none told not = got_more is_slice list count none (is_so_same (slice_get list count) ∙ sym told ∙ not)
