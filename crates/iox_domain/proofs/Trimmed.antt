-- A list without the empty places at its end lists the same ports.
use Rattle.std.proofs.Common.{arith, ◌≡◌, ◌+◌, ◌-◌, ◌<◌, ◌≤◌, ◌∷◌, ◌++◌, [], ℕ, zero, suc, Bool, true, false, List, length, drop, get_or}
use Rattle.std.proofs.Common.{max, min, replicate, set, take, is_some, Option, None, Some, Ok, inl, inr, refl, sym, ap, ◌∙◌}
use Rattle.std.proofs.lemmas.Bool.{cases_eq, cases_lt}
use Rattle.std.proofs.lemmas.List.{get_or-drop, get_or-take, get_or_past, get_or-set_other, get_or-set_same, length-take}
use Rattle.std.proofs.lemmas.List.{length-drop, take-append-drop}
use Rattle.iox_domain_ports.proofs.Container.Padding.{padded-more}
use Rattle.iox_domain_ports.specs.Container.Container.{handle_of}
use Rattle.iox_domain_ports.specs.Container.CountedPlaces.{padded}
use Rattle.iox_domain_ports.specs.Container.declared.container.ContainerHandle.{ContainerHandle}
use Rattle.iox_domain.specs.Rolls.{EndsAt}
use Rattle.iox_domain.proofs.TiedWell.{gone_there, still_there}

module _ {A : Type 0} where
  -- where each place is empty
  blank : (xs : List (Option A)) → ((place : ℕ) → get_or xs place None ≡ None) → xs ≡ replicate (length xs) None
  blank [] none = refl
  blank (x ∷ xs) none =
      ap (λ (one : Option A). one ∷ xs) (none zero)
      ∙ ap (λ (rest : List (Option A)). None ∷ rest) (blank xs (λ place. none (suc place)))

  -- the places from one on are empty
  whole_without : (count top : ℕ) (listed : List (Option A)) → length listed ≤ count → top ≤ length listed
      → ((place : ℕ) → top ≤ place → get_or listed place None ≡ None) → padded count (take top listed) ≡ padded count listed
  whole_without count top listed few low none =
      let behind : drop top listed ≡ replicate (length (drop top listed)) None
      = blank (drop top listed) (λ place. get_or-drop top listed place None ∙ none (top + place) (omega arith)) in
      let whole : take top listed ++ replicate (length (drop top listed)) None ≡ listed
      = ap (λ (rest : List (Option A)). take top listed ++ rest) (sym behind) ∙ take-append-drop top listed in
      sym (padded-more count (length (drop top listed)) (take top listed)
      (omega (arith, length-take top listed, length-drop top listed, few, low)))
      ∙ ap (λ (places : List (Option A)). padded count places) whole

  -- the listed ones say who is at a place
  pub listed_there : (count place : ℕ) (listed places : List (Option A)) → padded count listed ≡ places
      → get_or listed place None ≡ get_or places place None
  listed_there count place listed places is =
      sym (still_there listed (count - length listed) place) ∙ ap (λ (all : List (Option A)). get_or all place None) is

  -- no place from one on is filled, still where one is emptied
  pub none_emptied : (xs : List (Option A)) (top gone : ℕ) → EndsAt top xs → (place : ℕ) → top ≤ place
      → get_or (set xs gone None) place None ≡ None
  none_emptied xs top gone ends place past = elim (cases_eq place gone) [
    | inl same ↦ ap (λ at. get_or (set xs gone None) at None) same ∙ gone_there xs gone
    | inr apart ↦ get_or-set_other xs gone place None None apart ∙ ends.none place past
  ]

  -- where a place is filled the last one is it or the one before
  pub ends_filled : (xs : List (Option A)) (top added : ℕ) (value : A) → added < length xs → EndsAt top xs
      → EndsAt (max top (added + 1)) (set xs added (Some value))
  ends_filled xs top added value within ends = record {
    none = λ place past. get_or-set_other xs added place (Some value) None (λ same. absurd (omega (arith, same, past)))
        ∙ ends.none place (omega (arith, past));
    last = λ place is. elim (cases_eq place added) [
      | inl same ↦ ap (λ at. is_some (get_or (set xs added (Some value)) at None)) same
          ∙ ap (λ (one : Option A). is_some one) (get_or-set_same xs added (Some value) None within)
      | inr apart ↦ ap (λ (one : Option A). is_some one) (get_or-set_other xs added place (Some value) None apart)
          ∙ ends.last place (omega (arith, is, apart))
    ];
  }

  -- the places of the same ports end at the same one
  pub ends_listed : (count top : ℕ) (listed places : List (Option A)) → padded count listed ≡ places → EndsAt top listed → EndsAt top places
  ends_listed count top listed places is ends = record {
    none = λ place past. sym (listed_there count place listed places is) ∙ ends.none place past;
    last = λ place at. ap (λ (one : Option A). is_some one) (sym (listed_there count place listed places is)) ∙ ends.last place at;
  }

  -- the last port is within the places that are listed
  pub top_within : (count top : ℕ) (listed places : List (Option A)) → padded count listed ≡ places → EndsAt top places
      → top ≤ length listed
  top_within count zero listed places is ends = omega arith
  top_within count (suc top) listed places is ends = elim (cases_lt top (length listed)) [
    | inl below ↦ omega (arith, below)
    | inr past ↦
        let wrong : true ≡ false =
        sym (ends.last top (omega arith)) ∙ ap (λ (one : Option A). is_some one) (sym (listed_there count top listed places is))
        ∙ ap (λ (one : Option A). is_some one) (get_or_past listed top None past) in absurd (cc)
  ]

  -- and so those before it are the same list
  pub trimmed : (count top end : ℕ) (listed places : List (Option A)) → padded count listed ≡ places → length listed ≤ count
      → EndsAt top places → end ≡ top → padded count (take end listed) ≡ places
  trimmed count top end listed places is few ends at_end =
      ap (λ (n : ℕ). padded count (take n listed)) at_end
      ∙ whole_without count top listed few (top_within count top listed places is ends)
      (λ place past. listed_there count place listed places is ∙ ends.none place past)
      ∙ is

  -- and the last one of them is a port
  pub last_left : (count top end place : ℕ) (listed places : List (Option A)) → padded count listed ≡ places → EndsAt top places
      → end ≡ top → place + 1 ≡ length (take end listed) → is_some (get_or (take end listed) place None) ≡ true
  last_left count top end place listed places is ends at_end last =
      let low : top ≤ length listed = top_within count top listed places is ends in
      let at : place + 1 ≡ top = omega (arith, last, length-take end listed, low, at_end) in
      ap (λ (one : Option A). is_some one) (get_or-take end listed place None (omega (arith, at, at_end)))
      ∙ ap (λ (one : Option A). is_some one) (listed_there count place listed places is) ∙ ends.last place at

  -- no place from the smaller of a top and the length on is filled
  pub none_past : (xs : List (Option A)) (top : ℕ) → ((place : ℕ) → top ≤ place → get_or xs place None ≡ None)
      → (place : ℕ) → min top (length xs) ≤ place → get_or xs place None ≡ None
  none_past xs top none place past = elim (cases_lt place top) [
    | inl below ↦ get_or_past xs place None (omega (arith, below, past))
    | inr above ↦ none place above
  ]

-- no port is listed yet
pub ends_new : {A : Type 0} (count : ℕ) → EndsAt {A = A} 0 (replicate count None)
ends_new {A} count = record {
  none = λ place past. still_there {A = A} [] count place;
  last = λ place is. absurd (omega (arith, is));
}

-- where a member is added the place was free
pub added_at : (id number : ℕ) (locked : Bool) (free : Option ℕ) (handle : ContainerHandle)
    → handle_of id number locked free ≡ Ok handle → free ≡ Some handle.index
added_at id number true free handle is = absurd (cc)
added_at id number false None handle is = absurd (cc)
added_at id number false (Some index) handle is =
    let made : ContainerHandle = record { container = id; index = index; number = number } in
    let same : made ≡ handle = cc in
    ap (λ (one : ContainerHandle). Some one.index) same
