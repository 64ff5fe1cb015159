-- Going over the cells of an owner, and emptying some of them, one after the other.
use Rattle.std.proofs.Common.{ℕ, suc, ◌≡◌, ◌+◌, ◌∷◌, [], List, Bool, true, false, drop, arith, refl, sym, ap, ◌∙◌, subst, Option, Some}
use Rattle.std.proofs.Math.ListN.{set}
use Rattle.std.specs.List.{cons_option}
use Rattle.iox_container.specs.Retained.{KeepsAsAnswered}
use Rattle.std.proofs.lemmas.List.{drop-set-lt}
use Rattle.iox_container.specs.Recovery.{asked_from, without_each, Recovers}

add-one : (n : ℕ) → suc n ≡ n + 1
add-one n = omega arith

module _ {C X F : Type 0} (asked : ℕ → C → Option X) (index_of : X → ℕ) (empty : C) (R : F → X → Bool → F → Type 0) where
  -- whatever is told of the cells from `at` on makes a whole recovery
  pub record Leads (first : F) (old : List C) (now : F) (at : ℕ) (cells : List C) : Type 0 where
    pub whole : (told : List X) (last : F) → KeepsAsAnswered R now (asked_from asked at (drop at cells)) told last
        → Recovers asked index_of empty R first old (without_each asked index_of empty told cells) last

  pub Leads-start : (first : F) (old : List C) → Leads first old first 0 old
  Leads-start first old = record { whole = λ told last filtered. (told, filtered, refl) }

  -- nothing is asked about from `at` on
  pub Leads-rest : (first : F) (old : List C) (now : F) (at : ℕ) (cells : List C) → Leads first old now at cells
      → asked_from asked at (drop at cells) ≡ []
      → Recovers asked index_of empty R first old cells now
  Leads-rest first old now at cells s none = s.whole [] now (rw none ([], refl, refl, refl))

  -- what is told next stays
  pub Leads-kept : (first : F) (old : List C) (now : F) (at : ℕ) (cells : List C) (place : ℕ) (x : X) (next : F)
      → Leads first old now at cells
      → asked_from asked at (drop at cells) ≡ x ∷ asked_from asked (place + 1) (drop (place + 1) cells) → R now x false next
      → Leads first old next (place + 1) cells
  Leads-kept first old now at cells place x next s is call = record {
    whole = λ told last filtered.
        let P : List X → Type 0 = λ xs. KeepsAsAnswered R now xs told last in
        s.whole told last (subst P (sym is) (false ∷ filtered.0, ap (λ n. suc n) filtered.1, (next, call, filtered.2), filtered.3));
  }

  -- what is told next is emptied
  pub Leads-freed : (first : F) (old : List C) (now : F) (at : ℕ) (cells : List C) (place : ℕ) (x : X) (next : F)
      → Leads first old now at cells
      → asked_from asked at (drop at cells) ≡ x ∷ asked_from asked (place + 1) (drop (place + 1) cells) → index_of x ≡ place
      → R now x true next
      → Leads first old next (place + 1) (set cells place empty)
  Leads-freed first old now at cells place x next s is same call = record {
    whole = λ told last filtered.
        let P : List X → Type 0 = λ xs. KeepsAsAnswered R now xs (x ∷ told) last in
        let Q : List C → Type 0 = λ cs. KeepsAsAnswered R next (asked_from asked (place + 1) cs) told last in
        let W : ℕ → Type 0 = λ i. Recovers asked index_of empty R first old (without_each asked index_of empty told (set cells i empty))
        last in
        let rest : KeepsAsAnswered R next (asked_from asked (place + 1) (drop (place + 1) cells)) told last =
        subst Q (drop-set-lt (place + 1) cells place empty (omega arith)) filtered in
        subst W same (s.whole (x ∷ told) last (subst P (sym is)
        (true ∷ rest.0, ap (λ n. suc n) rest.1, (next, call, rest.2), ap (λ ts. x ∷ ts) rest.3)));
  }

-- what is asked about of cells of which the first is asked about
pub asked-first : {C X : Type 0} (asked : ℕ → C → Option X) (at : ℕ) (cells : List C) (cell : C) (tail : List C) (x : X)
    → cells ≡ cell ∷ tail
    → asked at cell ≡ Some x → asked_from asked at cells ≡ x ∷ asked_from asked (at + 1) tail
asked-first asked at cells cell tail x split is =
    ap (λ cs. asked_from asked at cs) split ∙ ap (λ y. cons_option y (asked_from asked (at + 1) tail)) is
