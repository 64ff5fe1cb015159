-- What is asked about, where only what one owner has is, and who had each place last is known.
use Rattle.std.proofs.Common.{ℕ, zero, suc, ◌≡◌, ◌≢◌, ◌+◌, ◌-◌, ◌<◌, ◌≤◌, [], List, length, drop, get_or, Option, None, Some, is_some}
use Rattle.std.proofs.Common.{not, false, arith, refl, sym, ap, ◌∙◌, inl, inr}
use Rattle.std.proofs.Math.ListN.{set}
use Rattle.std.specs.List.{slice_get, cons_option}
use Rattle.std.proofs.lemmas.Bool.{cases_lt, cases_eq}
use Rattle.std.proofs.lemmas.List.{drop_more, drop_all, get_or-set_same, get_or-set_other, length-set, get_or_past}
use Rattle.std.proofs.lemmas.List.Quantifiers.{position-Some}
use Rattle.std.proofs.lemmas.Option.{slice_get_past}
use Rattle.iox_container.specs.Owners.{OwnersState, AreOwned, IsNext, IsToldNext, rest_from}
use Rattle.iox_container.specs.CountedPlaces.{lowest_empty}
use Rattle.iox_container.specs.Recovery.{asked_from}

none-some : {C : Type 0} (content : C) → None ≡ Some content → ⊥
none-some content same = cc

filled-content : {C : Type 0} (cell : Option C) → not (is_some cell) ≡ false → (content : C) × (cell ≡ Some content)
filled-content None empty = cc
filled-content (Some content) empty = (content, refl)

module _ {C : Type 0} (owner_of : C → ℕ) where
  -- nobody has an emptied place
  pub owned-emptied : (places : List (Option C)) (owners : OwnersState) (index : ℕ) → AreOwned owner_of places owners
      → AreOwned owner_of (set places index None) owners
  owned-emptied places owners index are = record {
    owned = λ place content read.
        elim (cases_eq place index) [
          | inl same ↦
              elim (cases_lt index (length places)) [
                | inl within ↦ absurd (none-some content
                    (sym (get_or-set_same places index None None within) ∙ ap (λ k. get_or (set places index None) k None) (sym same) ∙
                    read))
                | inr past ↦ absurd (none-some content
                    (sym (get_or_past (set places index None) place None (omega (arith, length-set places index None))) ∙ read))
              ]
          | inr other ↦ are.owned place content (sym (get_or-set_other places index place None None other) ∙ read)
        ];
    room = are.room ∙ sym (length-set places index None);
  }

  -- the lowest empty place is one that was had, or the next
  pub lowest-next_had : (places : List (Option C)) (owners : OwnersState) (index : ℕ) → AreOwned owner_of places owners
      → lowest_empty places ≡ Some index
      → (index < owners.room) × (index ≤ length owners.last)
  lowest-next_had places owners index are lowest =
      let found = position-Some (λ place. not (is_some place)) places index None lowest in (
        omega (arith, found.0, are.room),
        elim (cases_lt (length owners.last) index) [
          | inl later ↦
              let content = filled-content (get_or places (length owners.last) None) (found.2 (length owners.last) later) in
              let had = are.owned (length owners.last) content.0 content.1 in
              absurd (none-some (owner_of content.0) (sym (slice_get_past owners.last (length owners.last) (omega arith)) ∙ had))
          | inr not_later ↦ not_later
        ],
      )

  module _ {X : Type 0} (asked : ℕ → Option C → Option X) (owner : ℕ) (silent : (at : ℕ) → asked at None ≡ None)
      (others : (at : ℕ) (content : C) → owner_of content ≢ owner → asked at (Some content) ≡ None) where
    quiet : (at : ℕ) (cell : Option C) → ((content : C) → cell ≡ Some content → owner_of content ≢ owner) → asked at cell ≡ None
    quiet at None none = silent at
    quiet at (Some content) none = others at content (none content refl)

    module _ (places : List (Option C)) (owners : OwnersState) (are : AreOwned owner_of places owners) where
      -- one place that the owner didn't have last is passed
      passed-one : (at : ℕ) → slice_get owners.last at ≢ Some owner → rest_from asked places at ≡ rest_from asked places (at + 1)
      passed-one at not_had =
          elim (cases_lt at (length places)) [
            | inl within ↦
                let none : asked at (get_or places at None) ≡ None =
                quiet at (get_or places at None) (λ content read same. not_had (are.owned at content read ∙ ap Some same)) in
                ap (λ cells. asked_from asked at cells) (drop_more places at None within)
                ∙ ap (λ x. cons_option x (asked_from asked (at + 1) (drop (at + 1) places))) none
            | inr past ↦
                ap (λ cells. asked_from asked at cells) (drop_all at places past)
                ∙ sym (ap (λ cells. asked_from asked (at + 1) cells) (drop_all (at + 1) places (omega arith)))
          ]

      -- and so are several
      passed-by : (n at : ℕ) → ((other : ℕ) → at ≤ other → other < at + n → slice_get owners.last other ≢ Some owner)
          → rest_from asked places at ≡ rest_from asked places (at + n)
      passed-by zero at not_had = ap (λ k. rest_from asked places k) (omega arith)
      passed-by (suc n) at not_had =
          passed-one at (not_had at (omega arith) (omega arith))
          ∙ passed-by n (at + 1) (λ other least less. not_had other (omega arith) (omega arith))
          ∙ ap (λ k. rest_from asked places k) (omega arith)

      pub passed : (at place : ℕ) → at ≤ place → ((other : ℕ) → at ≤ other → other < place → slice_get owners.last other ≢ Some owner)
          → rest_from asked places at ≡ rest_from asked places place
      passed at place least not_had =
          passed-by (place - at) at (λ other least less. not_had other least (omega arith)) ∙ ap (λ k. rest_from asked places k)
          (omega arith)

      -- where the owner had none of the others last, nothing is asked about
      pub none-left : (at : ℕ) → ((other : ℕ) → at ≤ other → slice_get owners.last other ≢ Some owner) → rest_from asked places at ≡ []
      none-left at not_had =
          passed-by (length places) at (λ other least less. not_had other least)
          ∙ ap (λ cells. asked_from asked (at + length places) cells) (drop_all (at + length places) places (omega arith))

      -- the place that comes next is asked about
      pub told-next : (from at place : ℕ) (x : X) → from ≤ at → rest_from asked places from ≡ rest_from asked places at
          → IsNext owners.last owner at place
          → asked place (get_or places place None) ≡ Some x → IsToldNext asked places from place x
      told-next from at place x least so_far next is =
          elim (cases_lt place (length places)) [
            | inl within ↦ record {
              from_there = omega (arith, next.from_there);
              within = within;
              small = next.small;
              rest =
                  so_far ∙ passed at place next.from_there next.none_between
                  ∙ ap (λ cells. asked_from asked place cells) (drop_more places place None within)
                  ∙ ap (λ y. cons_option y (asked_from asked (place + 1) (drop (place + 1) places))) is;
            }
            | inr past ↦
                absurd (none-some x (sym (silent place) ∙ ap (λ cell. asked place cell) (sym (get_or_past places place None past)) ∙ is))
          ]

      -- or it isn't
      pub passed-next : (from at place : ℕ) → rest_from asked places from ≡ rest_from asked places at → IsNext owners.last owner at place
          → asked place (get_or places place None) ≡ None → rest_from asked places from ≡ rest_from asked places (place + 1)
      passed-next from at place so_far next is =
          elim (cases_lt place (length places)) [
            | inl within ↦
                so_far ∙ passed at place next.from_there next.none_between
                ∙ ap (λ cells. asked_from asked place cells) (drop_more places place None within)
                ∙ ap (λ y. cons_option y (asked_from asked (place + 1) (drop (place + 1) places))) is
            | inr past ↦
                so_far ∙ passed at place next.from_there next.none_between
                ∙ ap (λ cells. asked_from asked place cells) (drop_all place places past)
                ∙ sym (ap (λ cells. asked_from asked (place + 1) cells) (drop_all (place + 1) places (omega arith)))
          ]
