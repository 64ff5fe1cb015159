-- Who is connected at the places that an update went over so far.
use Rattle.std.proofs.Common.{◌≡◌, ◌≢◌, ◌⊎◌, ◌∷◌, [], ◌++◌, ◌==◌, ℕ, Bool, true, false, List, Option, None, Some, refl, sym, ap, ◌∙◌, inl}
use Rattle.std.proofs.Common.{inr}
use Rattle.std.proofs.lemmas.Bool.{cases_eq, eq-eqb, eqb-true, or_cases, or_left, or_right}
use Rattle.std.proofs.lemmas.List.Folds.{list_any-append}
use Rattle.std.specs.Prelude.{is_some, if◌then◌else◌, ◌&&◌}
use Rattle.iox_machine.proofs.Shorthands.{now_at, gone_from}
use Rattle.iox_machine.specs.PortList.{unless}
use Rattle.iox_machine.specs.Table.{contains}

-- no two places have the same
abbrev pub AreApart : (ℕ → Option ℕ) → Type 0
AreApart at_place = (one other port : ℕ) → at_place one ≡ Some port → at_place other ≡ Some port → one ≡ other

-- one list has what another has, and nothing else but this
pub record HasMore (old new : List ℕ) (came : Option ℕ) : Type 0 where
  pub still : (port : ℕ) → contains old port ≡ true → contains new port ≡ true
  pub only : (port : ℕ) → contains new port ≡ true → (contains old port ≡ true) ⊎ (came ≡ Some port)

pub has_same : (ports : List ℕ) (came : Option ℕ) → HasMore ports ports came
has_same ports came = record { still = λ port is. is; only = λ port is. inl is }

pub has_end : (ports : List ℕ) (came : ℕ) → HasMore ports (ports ++ came ∷ []) (Some came)
has_end ports came = record {
  still = λ port is. list_any-append (λ other. other == port) ports (came ∷ [])
      ∙ or_left (contains ports port) (contains (came ∷ []) port) is;
  only = λ port is. elim (or_cases (contains ports port) (contains (came ∷ []) port)
      (sym (list_any-append (λ other. other == port) ports (came ∷ [])) ∙ is)) [
        | inl was ↦ inl was
        | inr new ↦ inr (ap (λ n. Some n) (by port (or_cases (came == port) false new)))
      ];
}
  where
    by : (port : ℕ) → ((came == port) ≡ true) ⊎ (false ≡ true) → came ≡ port
    by port (inl same) = eqb-true came port same
    by port (inr wrong) = cc

pub end_has : (ports : List ℕ) (came : ℕ) → contains (ports ++ came ∷ []) came ≡ true
end_has ports came =
    list_any-append (λ other. other == came) ports (came ∷ [])
    ∙ or_right (contains ports came) (contains (came ∷ []) came) (or_left (came == came) false (eq-eqb came came refl))

pub has_head : (ports : List ℕ) (came : ℕ) → HasMore ports (came ∷ ports) (Some came)
has_head ports came = record {
  still = λ port is. or_right (came == port) (contains ports port) is;
  only = λ port is. elim (or_cases (came == port) (contains ports port) is) [
    | inl same ↦ inr (ap (λ n. Some n) (eqb-true came port same))
    | inr was ↦ inl was
  ];
}

same_bool : (one other : Bool) → (one ≡ true → other ≡ true) → (other ≡ true → one ≡ true) → other ≡ one
same_bool true other to from = to refl
same_bool false true to from = sym (from refl)
same_bool false false to from = refl

-- who is connected at a place where nobody stays
pub at_free : (staying refused : List ℕ) (connected listed : Option ℕ)
    → ((port : ℕ) → connected ≡ Some port → contains staying port ≡ false)
    → now_at staying refused (connected, listed) ≡ unless refused listed
at_free staying refused None listed free = refl
at_free staying refused (Some port) listed free = ap (λ b. if b then Some port else unless refused listed) (free port refl)

-- and where one stays
pub at_stays : (staying refused : List ℕ) (port : ℕ) (listed : Option ℕ) → contains staying port ≡ true
    → now_at staying refused (Some port, listed) ≡ Some port
at_stays staying refused port listed stays = ap (λ b. if b then Some port else unless refused listed) stays

same_unless : (refused more : List ℕ) (listed : Option ℕ) → ((port : ℕ) → listed ≡ Some port → contains more port ≡ contains refused port)
    → unless more listed ≡ unless refused listed
same_unless refused more None same = refl
same_unless refused more (Some port) same = ap (λ b. if b then None else Some port) (same port refl)

same_now : (staying more_staying refused more_refused : List ℕ) (connected listed : Option ℕ)
    → ((port : ℕ) → connected ≡ Some port → contains more_staying port ≡ contains staying port)
    → ((port : ℕ) → listed ≡ Some port → contains more_refused port ≡ contains refused port)
    → now_at more_staying more_refused (connected, listed) ≡ now_at staying refused (connected, listed)
same_now staying more_staying refused more_refused None listed same_staying same_refused
    = same_unless refused more_refused listed same_refused
same_now staying more_staying refused more_refused (Some port) listed same_staying same_refused =
    ap (λ b. if b then Some port else unless more_refused listed) (same_staying port refl)
    ∙ ap (λ rest. if contains staying port then Some port else rest) (same_unless refused more_refused listed same_refused)

-- at the places that were gone over so far the new ones are connected, at the others those from before
pub record Along (before listed : ℕ → Option ℕ) (done : ℕ → Bool) (now : ℕ → Option ℕ) (staying refused : List ℕ) : Type 0 where
  pub here : (place : ℕ) → done place ≡ true → now place ≡ now_at staying refused (before place, listed place)
  pub rest : (place : ℕ) → done place ≡ false → now place ≡ before place
  pub stays : (port : ℕ) → contains staying port ≡ true → (place : ℕ) × (done place ≡ true) × (before place ≡ Some port)
  pub refuses : (port : ℕ) → contains refused port ≡ true → (place : ℕ) × (done place ≡ true) × (listed place ≡ Some port)

module _ (before listed : ℕ → Option ℕ) (apart_before : AreApart before) (apart_listed : AreApart listed) (place : ℕ)
    (done then_done : ℕ → Bool)
    (now then_now : ℕ → Option ℕ) (staying then_staying refused then_refused : List ℕ) (not_done : done place ≡ false)
    (along : Along before listed done now staying refused) where
  wrong_place : (other : ℕ) → done other ≡ true → other ≢ place
  wrong_place other is same = let no : true ≡ false = sym is ∙ ap done same ∙ not_done in cc

  -- nobody from a place that isn't gone over yet is among them
  pub no_stayer : (port : ℕ) → before place ≡ Some port → contains staying port ≡ false
  no_stayer port is = by (contains staying port) refl
    where
      by : (b : Bool) → contains staying port ≡ b → b ≡ false
      by false so = refl
      by true so =
          let it = along.stays port so in
          absurd (wrong_place it.0 it.1 (apart_before it.0 place port it.2 is))

  pub no_refused : (port : ℕ) → listed place ≡ Some port → contains refused port ≡ false
  no_refused port is = by (contains refused port) refl
    where
      by : (b : Bool) → contains refused port ≡ b → b ≡ false
      by false so = refl
      by true so =
          let it = along.refuses port so in
          absurd (wrong_place it.0 it.1 (apart_listed it.0 place port it.2 is))

  -- one more place is gone over
  pub along_on : then_done place ≡ true → ((other : ℕ) → other ≢ place → then_done other ≡ done other)
      → then_now place ≡ now_at then_staying then_refused (before place, listed place)
      → ((other : ℕ) → other ≢ place → then_now other ≡ now other)
      → HasMore staying then_staying (before place) → HasMore refused then_refused (listed place)
      → Along before listed then_done then_now then_staying then_refused
  along_on is_done same_done is_now same_now_at more_staying more_refused = record {
    here = λ other so. elim (cases_eq other place) [
      | inl same ↦ ap then_now same ∙ is_now
          ∙ sym (ap (λ n. now_at then_staying then_refused (before n, listed n)) same)
      | inr off ↦
          same_now_at other off ∙ along.here other (sym (same_done other off) ∙ so)
          ∙ sym (same_now staying then_staying refused then_refused (before other) (listed other)
          (λ port is. same_bool (contains staying port) (contains then_staying port) (more_staying.still port)
          (λ has. elim (more_staying.only port has) [ inl was ↦ was | inr came ↦ absurd (off (apart_before other place port is came)) ]))
          (λ port is. same_bool (contains refused port) (contains then_refused port) (more_refused.still port)
          (λ has. elim (more_refused.only port has) [ inl was ↦ was | inr came ↦ absurd (off (apart_listed other place port is came)) ])))
    ];
    rest = λ other so. elim (cases_eq other place) [
      | inl same ↦ let no : true ≡ false = sym is_done ∙ sym (ap then_done same) ∙ so in absurd (cc)
      | inr off ↦ same_now_at other off ∙ along.rest other (sym (same_done other off) ∙ so)
    ];
    stays = λ port has. elim (more_staying.only port has) [
      | inl was ↦
          let it = along.stays port was in
          (it.0, same_done it.0 (wrong_place it.0 it.1) ∙ it.1, it.2)
      | inr came ↦ (place, is_done, came)
    ];
    refuses = λ port has. elim (more_refused.only port has) [
      | inl was ↦
          let it = along.refuses port was in
          (it.0, same_done it.0 (wrong_place it.0 it.1) ∙ it.1, it.2)
      | inr came ↦ (place, is_done, came)
    ];
  }

-- the same places are gone over
pub along_same : (before listed : ℕ → Option ℕ) (done then_done : ℕ → Bool) (now : ℕ → Option ℕ) (staying refused : List ℕ)
    → ((place : ℕ) → then_done place ≡ done place) → Along before listed done now staying refused
    → Along before listed then_done now staying refused
along_same before listed done then_done now staying refused same along = record {
  here = λ place so. along.here place (sym (same place) ∙ so);
  rest = λ place so. along.rest place (sym (same place) ∙ so);
  stays = λ port has. let it = along.stays port has in (it.0, same it.0 ∙ it.1, it.2);
  refuses = λ port has. let it = along.refuses port has in (it.0, same it.0 ∙ it.1, it.2);
}

-- whether somebody else than who is listed is connected at a place
abbrev pub is_stuck : Option ℕ × Option ℕ → Bool
is_stuck place = is_some place.1 && is_some (gone_from place)

-- whether the update is to be done again: just where somebody stays at a place that was gone over
pub record IsAgain (listed : ℕ → Option ℕ) (done : ℕ → Bool) (now : ℕ → Option ℕ) (again : Bool) : Type 0 where
  pub stuck : again ≡ true → (place : ℕ) × (done place ≡ true) × (is_stuck (now place, listed place) ≡ true)
  pub free : again ≡ false → (place : ℕ) → done place ≡ true → is_stuck (now place, listed place) ≡ false

pub again_same : (listed : ℕ → Option ℕ) (done then_done : ℕ → Bool) (now : ℕ → Option ℕ) (again : Bool)
    → ((place : ℕ) → then_done place ≡ done place) → IsAgain listed done now again → IsAgain listed then_done now again
again_same listed done then_done now again same is = record {
  stuck = λ so. let it = is.stuck so in (it.0, same it.0 ∙ it.1, it.2);
  free = λ so place is_done. is.free so place (sym (same place) ∙ is_done);
}

module _ (listed : ℕ → Option ℕ) (place : ℕ) (done then_done : ℕ → Bool) (now then_now : ℕ → Option ℕ) (not_done : done place ≡ false)
    (is_done : then_done place ≡ true) (same_done : (other : ℕ) → other ≢ place → then_done other ≡ done other)
    (same_now_at : (other : ℕ) → other ≢ place → then_now other ≡ now other) where
  -- nobody stays there
  pub again_on : (again : Bool) → is_stuck (then_now place, listed place) ≡ false → IsAgain listed done now again
      → IsAgain listed then_done then_now again
  again_on again here is = record {
    stuck = λ so.
        let it = is.stuck so in
        let off : it.0 ≢ place = λ same. let no : true ≡ false = sym it.1 ∙ ap done same ∙ not_done in cc in
        (it.0, same_done it.0 off ∙ it.1, ap (λ n. is_stuck (n, listed it.0)) (same_now_at it.0 off) ∙ it.2);
    free = λ so other so_done. elim (cases_eq other place) [
      | inl same ↦ ap (λ n. is_stuck (then_now n, listed n)) same ∙ here
      | inr off ↦ ap (λ n. is_stuck (n, listed other)) (same_now_at other off) ∙ is.free so other (sym (same_done other off) ∙ so_done)
    ];
  }

  -- or somebody does
  pub again_now : is_stuck (then_now place, listed place) ≡ true → IsAgain listed then_done then_now true
  again_now here = record { stuck = λ so. (place, is_done, here); free = λ so. let no : true ≡ false = so in absurd (cc) }
