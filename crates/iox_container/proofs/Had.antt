-- The last owner of each place, and how the list of last owners changes.
use Rattle.std.proofs.Common.{ℕ, zero, suc, ◌≡◌, ◌≢◌, ◌+◌, ◌^◌, ◌<◌, ◌≤◌, ◌∷◌, ◌++◌, [], List, length, arith, refl, sym, ap, subst, ◌∙◌}
use Rattle.std.proofs.Common.{Option, Some, None, inl, inr}
use Rattle.std.proofs.Math.ListN.{set}
use Rattle.std.specs.List.{Contains, slice_get}
use Rattle.std.specs.Prelude.{IfSome, IfNone}
use Rattle.std.proofs.lemmas.Bool.{cases_eq}
use Rattle.std.proofs.lemmas.List.{length-set, length_push}
use Rattle.std.proofs.lemmas.Option.{slice_get_within, slice_get_past}
use Rattle.iox_container.specs.Owners.{With, Without, Lists, IsNext}

pub set-there : (last : List ℕ) (place owner : ℕ) → place < length last → slice_get (set last place owner) place ≡ Some owner
set-there [] place owner within = absurd (omega arith)
set-there (one ∷ last) zero owner within = refl
set-there (one ∷ last) (suc place) owner within = set-there last place owner (omega arith)

pub set-elsewhere : (last : List ℕ) (place other owner : ℕ) → other ≢ place → slice_get (set last place owner) other ≡ slice_get last other
set-elsewhere [] place other owner apart = refl
set-elsewhere (one ∷ last) zero zero owner apart = absurd (apart refl)
set-elsewhere (one ∷ last) zero (suc other) owner apart = refl
set-elsewhere (one ∷ last) (suc place) zero owner apart = refl
set-elsewhere (one ∷ last) (suc place) (suc other) owner apart = set-elsewhere last place other owner (λ same. apart (ap (λ n. suc n) same))

pub push-there : (last : List ℕ) (owner : ℕ) → slice_get (last ++ owner ∷ []) (length last) ≡ Some owner
push-there [] owner = refl
push-there (one ∷ last) owner = push-there last owner

pub push-elsewhere : (last : List ℕ) (other owner : ℕ) → other ≢ length last → slice_get (last ++ owner ∷ []) other ≡ slice_get last other
push-elsewhere [] zero owner apart = absurd (apart refl)
push-elsewhere [] (suc other) owner apart = refl
push-elsewhere (one ∷ last) zero owner apart = refl
push-elsewhere (one ∷ last) (suc other) owner apart = push-elsewhere last other owner (λ same. apart (ap (λ n. suc n) same))

same-owner : (one other : ℕ) → Some one ≡ Some other → one ≡ other
same-owner one other same = cc

nobody : (one : ℕ) → None ≡ Some one → ⊥
nobody one same = cc

other-place : (owner place other_owner other : ℕ) → other ≢ place → ◌≢◌ {A = ℕ × ℕ} (other_owner, other) (owner, place)
other-place owner place other_owner other apart same = apart (ap (λ (e : ℕ × ℕ). e.1) same)

other-owner : (owner place other_owner other : ℕ) → other_owner ≢ owner → ◌≢◌ {A = ℕ × ℕ} (other_owner, other) (owner, place)
other-owner owner place other_owner other apart same = apart (ap (λ (e : ℕ × ℕ). e.0) same)

module _ (last : List ℕ) (entries : List (ℕ × ℕ)) (lists : Lists last entries) where
  -- the next place stands with nobody
  pub next-unlisted : (owner : ℕ) → Contains entries (owner, length last) → ⊥
  next-unlisted owner has = nobody owner (sym (slice_get_past last (length last) (omega arith)) ∙ lists.had (length last) owner has)

  -- the owner's next place among them is the next that it had
  pub next-had : length entries < 2 ^ 64 → (owner from : ℕ) (answer : Option ℕ)
      → IfSome answer (λ place. Contains entries (owner, place) × (from ≤ place)
      × ((other : ℕ) → from ≤ other → other < place → Contains entries (owner, other) → ⊥))
      → IfSome answer (λ place. IsNext last owner from place)
  next-had bound owner from None found = tt
  next-had bound owner from (Some place) found = record {
    from_there = found.1;
    within = slice_get_within last place owner (lists.had place owner found.0);
    small = omega (arith, slice_get_within last place owner (lists.had place owner found.0), lists.as_many);
    none_between = λ other least less had. found.2 other least less (lists.listed other owner had);
  }

  pub none-had : (owner from : ℕ) (answer : Option ℕ) → IfNone answer ((place : ℕ) → from ≤ place → Contains entries (owner, place) → ⊥)
      → IfNone answer ((place : ℕ) → from ≤ place → slice_get last place ≢ Some owner)
  none-had owner from None none = λ place least had. none place least (lists.listed place owner had)
  none-had owner from (Some place) none = tt

  -- the next place comes
  pub lists-pushed : (came : List (ℕ × ℕ)) (owner : ℕ) → With (owner, length last) entries came → Lists (last ++ owner ∷ []) came
  lists-pushed came owner with = record {
    rises = with.rises;
    listed = λ place its read.
        elim (cases_eq place (length last)) [
          | inl same ↦
              let one : its ≡ owner = same-owner its owner
              (sym read ∙ ap (λ k. slice_get (last ++ owner ∷ []) k) same ∙ push-there last owner) in
              subst (λ (e : ℕ × ℕ). Contains came e) (sym (ap (λ o. (o, place)) one ∙ ap (λ p. (owner, p)) same)) with.here
          | inr other ↦ with.kept (its, place) (lists.listed place its (sym (push-elsewhere last place owner other) ∙ read))
        ];
    had = λ place its has.
        elim (cases_eq place (length last)) [
          | inl same ↦
              elim (cases_eq its owner) [
                | inl one ↦ ap (λ k. slice_get (last ++ owner ∷ []) k) same ∙ push-there last owner ∙ ap Some (sym one)
                | inr another ↦
                    absurd (next-unlisted its (subst (λ p. Contains entries (its, p)) same
                    (with.only (its, place) has (other-owner owner (length last) its place another))))
              ]
          | inr other ↦ push-elsewhere last place owner other ∙ lists.had place its
              (with.only (its, place) has (other-place owner (length last) its place other))
        ];
    as_many = with.more ∙ ap (λ n. n + 1) lists.as_many ∙ sym (length_push last owner);
  }

  module _ (place before owner : ℕ) (was : slice_get last place ≡ Some before) (another : owner ≢ before) (gone : List (ℕ × ℕ))
      (without : Without (before, place) entries gone) where
    -- a place whose owner left stands with nobody
    pub left-unlisted : Contains gone (owner, place) → ⊥
    left-unlisted has = another (same-owner owner before (sym (lists.had place owner (without.only (owner, place) has)) ∙ was))

    -- its owner changes
    pub lists-changed : (came : List (ℕ × ℕ)) → With (owner, place) gone came → Lists (set last place owner) came
    lists-changed came with =
        let within = slice_get_within last place before was in
        record {
          rises = with.rises;
          listed = λ at its read.
              elim (cases_eq at place) [
                | inl same ↦
                    let one : its ≡ owner = same-owner its owner
                    (sym read ∙ ap (λ k. slice_get (set last place owner) k) same ∙ set-there last place owner within) in
                    subst (λ (e : ℕ × ℕ). Contains came e) (sym (ap (λ o. (o, at)) one ∙ ap (λ p. (owner, p)) same)) with.here
                | inr other ↦
                    with.kept (its, at)
                    (without.kept (its, at) (lists.listed at its (sym (set-elsewhere last place at owner other) ∙ read))
                    (other-place before place its at other))
              ];
          had = λ at its has.
              elim (cases_eq at place) [
                | inl same ↦
                    elim (cases_eq its owner) [
                      | inl one ↦ ap (λ k. slice_get (set last place owner) k) same ∙ set-there last place owner within ∙ ap Some (sym one)
                      | inr two ↦
                          let left = with.only (its, at) has (other-owner owner place its at two) in
                          let had = lists.had at its (without.only (its, at) left) in
                          let one : its ≡ before = same-owner its before (sym had ∙ ap (λ k. slice_get last k) same ∙ was) in
                          absurd (without.gone (its, at) left (ap (λ o. (o, at)) one ∙ ap (λ p. (before, p)) same))
                    ]
                | inr other ↦
                    set-elsewhere last place at owner other
                    ∙ lists.had at its (without.only (its, at) (with.only (its, at) has (other-place owner place its at other)))
              ];
          as_many = omega (arith, with.more, without.fewer, lists.as_many, length-set last place owner);
        }
