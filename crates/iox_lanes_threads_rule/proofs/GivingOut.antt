-- Giving a port a seat of its own keeps the rule of the words.
use Rattle.std.proofs.Common.{ℕ, suc, ◌≡◌, ◌+◌, ◌==◌, Bool, if◌then◌else◌, List, [], ◌∷◌, ◌++◌, length, length-set, set, refl, sym}
use Rattle.std.proofs.Common.{◌∙◌, ap, subst, inl, inr, arith}
use Rattle.std.proofs.lemmas.Bool.Decides.{eqb_tells}
use mathlib.Core.Option.{some}
use lib.ListN.{get_elem?}
use Rattle.atomic_table.specs.Table.{State, Me, Splits}
use Rattle.atomic_table.proofs.Lists.{at_set}
use Rattle.iox_lanes_threads_rule.specs.Rule.{Sits, Ruled, one}
use Rattle.iox_lanes_threads_rule.specs.Acts.{FitSome, Holds, first_port}
use Rattle.iox_lanes_threads_rule.specs.Seats.{waits, behind_first, others_wait, first_seated, IsWaiting}
use Rattle.iox_lanes_threads_rule.specs.declared.view.Port.{Port}
use Rattle.iox_lanes_threads_rule.specs.declared.view.View.{View}
use Rattle.iox_lanes_threads_rule.proofs.Lists.{none_there, in_either, alone}

module _ (id from : ℕ) (p : Port) (ps : List Port) (state : State ℕ View) (ruled : Ruled FitSome state)
    (mine : get_elem? state.views id ≡ some (waits from (p ∷ ps))) where
  first_is : (p.number ≡ from + 0) × Sits ruled.owner ruled.ports id p
  first_is = ruled.waiting id (waits from (p ∷ ps)) 0 p mine refl

  abbrev new_id : ℕ
  new_id = length state.views

  abbrev owner : ℕ → ℕ
  owner number = if number == p.number then new_id else ruled.owner number

  owner_other : (number : ℕ) → (number ≡ p.number → ⊥) → owner number ≡ ruled.owner number
  owner_other number off = elim (eqb_tells number p.number) [
    | inl same ↦ absurd (off same.1)
    | inr differs ↦ ap (λ (b : Bool). if b then new_id else ruled.owner number) differs.0
  ]

  -- another port keeps its seat
  else_sits : (seat : ℕ) (q : Port) → (q.number ≡ p.number → ⊥) → Sits ruled.owner ruled.ports seat q → Sits owner ruled.ports seat q
  else_sits seat q off sits = (owner_other q.number off ∙ sits.0, sits.1)

  first_sits : Sits owner ruled.ports new_id p
  first_sits = (owner_first, first_is.1.1)
    where
      owner_first : owner p.number ≡ new_id
      owner_first = elim (eqb_tells p.number p.number) [
        | inl same ↦ ap (λ (b : Bool). if b then new_id else ruled.owner p.number) same.0
        | inr differs ↦ absurd (differs.1 refl)
      ]

  abbrev after : List View
  after = set state.views id (waits (from + 1) ps) ++ one p ∷ []

  many : length (set state.views id (waits (from + 1) ps)) ≡ new_id
  many = length-set state.views id (waits (from + 1) ps)

  -- a port with another seat isn't the first
  off_seat : (seat : ℕ) (q : Port) → (seat ≡ id → ⊥) → Sits ruled.owner ruled.ports seat q → q.number ≡ p.number → ⊥
  off_seat seat q off sits e = off (sym sits.0 ∙ ap ruled.owner e ∙ first_is.1.0)

  now_waiting : (seat : ℕ) (v : View) (i : ℕ) (q : Port) → get_elem? after seat ≡ some v → get_elem? v.waiting i ≡ some q
      → (q.number ≡ v.from + i) × Sits owner ruled.ports seat q
  now_waiting seat v i q got there = elim (in_either (set state.views id (waits (from + 1) ps)) (one p ∷ []) seat v got) [
    | inl old ↦ elim (at_set state.views id seat (waits (from + 1) ps) v old) [
      | inl here ↦
          let at : get_elem? ps i ≡ some q = ap (λ (u : View). get_elem? u.waiting i) here.1 ∙ there in
          let was = ruled.waiting id (waits from (p ∷ ps)) (suc i) q mine at in
          let begins : v.from ≡ from + 1 = ap (λ (u : View). u.from) (sym here.1) in (
            omega (arith, was.0, begins),
            subst (λ (n : ℕ). Sits owner ruled.ports n q) (sym here.0) (else_sits id q (λ e. omega (arith, e, was.0, first_is.0)) was.1),
          )
      | inr aside ↦
          let was = ruled.waiting seat v i q aside.1 there in
          (was.0, else_sits seat q (off_seat seat q aside.0 was.1) was.1)
    ]
    | inr new ↦
        let is = alone (one p) v new.0 new.2 in
        absurd (none_there q i (ap (λ (u : View). get_elem? u.waiting i) is.1 ∙ there))
  ]

  now_seated : (seat : ℕ) (v : View) (i : ℕ) (q : Port) → get_elem? after seat ≡ some v → get_elem? v.ports i ≡ some q
      → Sits owner ruled.ports seat q
  now_seated seat v i q got there = elim (in_either (set state.views id (waits (from + 1) ps)) (one p ∷ []) seat v got) [
    | inl old ↦ elim (at_set state.views id seat (waits (from + 1) ps) v old) [
      | inl here ↦ absurd (none_there q i (ap (λ (u : View). get_elem? u.ports i) here.1 ∙ there))
      | inr aside ↦
          let was = ruled.seated seat v i q aside.1 there in
          else_sits seat q (off_seat seat q aside.0 was) was
    ]
    | inr new ↦
        let is = alone (one p) v new.0 new.2 in
        let at : get_elem? (p ∷ []) i ≡ some q = ap (λ (u : View). get_elem? u.ports i) is.1 ∙ there in
        let same = alone p q i at in
        let seat_is : new_id ≡ seat = omega (arith, many, new.1, is.0) in
        subst (λ (z : ℕ × Port). Sits owner ruled.ports z.0 z.1) (λ k. (seat_is k, same.1 k)) first_sits
  ]

pub gives : (id from : ℕ) (p : Port) (ps : List Port)
    → Splits Holds id (waits from (p ∷ ps)) (others_wait (waits from (p ∷ ps))) (first_seated (waits from (p ∷ ps)))
gives id from p ps state ruled mine = record {
  ports = ruled.ports;
  owner = owner id from p ps state ruled mine;
  fit = ruled.fit;
  waiting = now_waiting id from p ps state ruled mine;
  seated = now_seated id from p ps state ruled mine;
}

-- the same of the seat that is handed in
pub gives_with : (id : ℕ) (me : Me ℕ View) → IsWaiting me → Splits Holds id me.0 (others_wait me.0) (first_seated me.0)
gives_with id me is =
    let v : me.0 ≡ waits me.0.from (first_port me.0.waiting ∷ behind_first me.0.waiting) = ap (λ (z : Me ℕ View). z.0) is in
    subst (λ (u : View). Splits Holds id u (others_wait u) (first_seated u)) (sym v)
    (gives id me.0.from (first_port me.0.waiting) (behind_first me.0.waiting))
