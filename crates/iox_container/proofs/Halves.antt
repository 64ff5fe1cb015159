-- The entries of a table: those that outlived the ring, and after them those in it.
use Rattle.std.proofs.Common.{◌≡◌, ℕ, ◌+◌, ◌<◌, ◌≤◌, List, [], ◌∷◌, ◌++◌, append_assoc, length, Option, Some, None, refl, sym, ap, ◌∙◌}
use Rattle.std.specs.Prelude.{nat_eq}
use Rattle.std.specs.Map.{lookup, remove_entry, set_value}
use Rattle.iox_container.specs.NumberTable.{Rises}
use Rattle.iox_container.specs.ByNumberPlaces.{present}
use Rattle.iox_container.proofs.Rising.{Rises-append, lookup-above, lookup-below}
use Rattle.iox_container.proofs.Presence.{Rises-present, present-push}
use Rattle.iox_container.proofs.Joined.{lookup-front, remove-front, set_value-front, lookup-back, remove-back, set_value-back}

module _ {V : Type 0} (first number : ℕ) (aged : List (ℕ × V)) (places : List (Option V)) (rises : Rises 1 aged first) where
  -- all of them rise
  pub Rises-halves : Rises 1 (aged ++ present first places) (first + length places)
  Rises-halves = Rises-append 1 first (first + length places) aged (present first places) rises
      (Rises-present first (first + length places) places refl)

  module _ (below : number < first) where
    not_in_ring : lookup (nat_eq number) (present first places) ≡ None
    not_in_ring = lookup-below number first (first + length places) (present first places)
        (Rises-present first (first + length places) places refl) below

    -- a number below the ring is looked up, removed and changed among those that outlived it
    pub lookup-aged : lookup (nat_eq number) (aged ++ present first places) ≡ lookup (nat_eq number) aged
    lookup-aged = lookup-front (nat_eq number) (present first places) not_in_ring aged

    pub remove-aged : remove_entry (nat_eq number) (aged ++ present first places) ≡ remove_entry (nat_eq number) aged
        ++ present first places
    remove-aged = remove-front (nat_eq number) (present first places) not_in_ring aged

    pub set_value-aged : (value : V) → set_value (nat_eq number) (aged ++ present first places) value
        ≡ set_value (nat_eq number) aged value ++ present first places
    set_value-aged value = set_value-front (nat_eq number) (present first places) not_in_ring aged value

  module _ (above : first ≤ number) where
    not_aged : lookup (nat_eq number) aged ≡ None
    not_aged = lookup-above number 1 first aged rises above

    -- and any other in the ring
    pub lookup-ring : lookup (nat_eq number) (aged ++ present first places) ≡ lookup (nat_eq number) (present first places)
    lookup-ring = lookup-back (nat_eq number) (present first places) aged not_aged

    pub remove-ring : remove_entry (nat_eq number) (aged ++ present first places) ≡ aged
        ++ remove_entry (nat_eq number) (present first places)
    remove-ring = remove-back (nat_eq number) (present first places) aged not_aged

    pub set_value-ring : (value : V) → set_value (nat_eq number) (aged ++ present first places) value ≡ aged
        ++ set_value (nat_eq number) (present first places) value
    set_value-ring value = set_value-back (nat_eq number) (present first places) aged value not_aged

-- a value in a place more is a value more at the end
pub pushed : {V : Type 0} (first next : ℕ) (aged entries : List (ℕ × V)) (places places' : List (Option V)) (value : V)
    → aged ++ present first places ≡ entries
    → places' ≡ places ++ Some value ∷ [] → next ≡ first + length places → aged ++ present first places' ≡ entries ++ (next, value) ∷ []
pushed first next aged entries places places' value same more ends =
    ap (λ ps. aged ++ present first ps) more ∙ ap (λ es. aged ++ es) (present-push first next value places ends)
    ∙ sym (append_assoc aged (present first places) ((next, value) ∷ [])) ∙ ap (λ es. es ++ (next, value) ∷ []) same
