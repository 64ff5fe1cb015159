-- Which entry of a table of loans is one.
use Rattle.std.proofs.Common.{◌≡◌, ◌≤◌, ◌<◌, ◌+◌, ◌⊎◌, ◌∷◌, [], ℕ, Bool, true, false, cond, List, map, Some, refl, sym, ap, inl, inr, ◌∙◌}
use Rattle.std.proofs.Common.{arith}
use Rattle.std.proofs.Math.Logic.{⊎_elim}
use Rattle.std.proofs.lemmas.Bool.{eq-eqb, eqb-true}
use Rattle.std.proofs.lemmas.Bool.Decides.{eqb_tells}
use Rattle.std.proofs.lemmas.List.Elements.{All-cons, All-head, All-nil, All-tail}
use Rattle.std.specs.List.{All}
use Rattle.std.specs.Map.{keys_of}
use Rattle.std.specs.Prelude.{filter, ◌==◌}
use Rattle.iox_domain.proofs.DomainSlots.Counts.{one, times_cons, one_same}
use Rattle.iox_domain.specs.DomainSlots.Counting.{times}
use Rattle.iox_domain.specs.Tries.{how_often}
use Rattle.iox_domain_machine.specs.Tables.{LentSlot, slots_lent_by}
use Rattle.iox_domain_machine.proofs.Found.{same_some, never_some, at_head, at_behind}
use Rattle.iox_machine.specs.Table.{at, changed}

-- whether a loan is in this slot of this publisher, counted
abbrev pub hits : LentSlot → LentSlot → ℕ
hits out lent = cond (lent.publisher == out.publisher) (one out.slot lent.slot) 0

hits_by : (out : LentSlot) (b : Bool) (entry : ℕ × LentSlot) (more : List (ℕ × LentSlot))
    → times out.slot (map (λ (it : ℕ × LentSlot). it.1.slot) (cond b (entry ∷ more) more))
    ≡ cond b (one out.slot entry.1.slot) 0 + times out.slot (map (λ (it : ℕ × LentSlot). it.1.slot) more)
hits_by out true entry more = times_cons out.slot entry.1.slot (map (λ (it : ℕ × LentSlot). it.1.slot) more)
hits_by out false entry more = omega arith

pub hits_cons : (out : LentSlot) (entry : ℕ × LentSlot) (lent : List (ℕ × LentSlot))
    → times out.slot (slots_lent_by out.publisher (entry ∷ lent)) ≡ hits out entry.1 + times out.slot (slots_lent_by out.publisher lent)
hits_cons out entry lent =
    hits_by out (entry.1.publisher == out.publisher) entry (filter (λ (it : ℕ × LentSlot). it.1.publisher == out.publisher) lent)

pub hits_itself : (out : LentSlot) → hits out out ≡ 1
hits_itself out = ap (λ b. cond b (one out.slot out.slot) 0) (eq-eqb out.publisher out.publisher refl) ∙ one_same out.slot

-- an entry is that of a number, and so of the loan, or neither
abbrev pub IsEither : ℕ → LentSlot → ℕ × LentSlot → Type 0
IsEither number out entry = (((entry.0 == number) ≡ true) × (entry.1 ≡ out)) ⊎ (((entry.0 == number) ≡ false) × (hits out entry.1 ≡ 0))

pub often_same : (number key : ℕ) → (key == number) ≡ true → (if_often : ℕ) × (cond (number == key) 1 0 ≡ if_often) × (if_often ≡ 1)
often_same number key same = (1, ap (λ b. cond b 1 0) (eq-eqb number key (sym (eqb-true key number same))), refl)

-- where no number and no slot is that, each entry is neither
pub all_neither : (number : ℕ) (out : LentSlot) (lent : List (ℕ × LentSlot)) → how_often number (keys_of lent) ≡ 0
    → times out.slot (slots_lent_by out.publisher lent) ≡ 0 → All (IsEither number out) lent
all_neither number out [] keys slots = All-nil _
all_neither number out (entry ∷ lent) keys slots =
    let cons = hits_cons out entry lent in
    All-cons (IsEither number out) entry lent
    (⊎_elim (λ same. absurd (let counted = often_same number entry.0 same.0 in omega (arith, keys, counted.1, counted.2))) (λ other. inr
    (other.0, omega (arith, cons, slots)))
    (eqb_tells entry.0 number))
    (all_neither number out lent (omega (arith, keys)) (omega (arith, cons, slots)))

pub found_counts : (number : ℕ) (out : LentSlot) (lent : List (ℕ × LentSlot)) → at number lent ≡ Some out
    → 0 < times out.slot (slots_lent_by out.publisher lent)
found_counts number out [] is = never_some out is
found_counts number out (entry ∷ lent) is = ⊎_elim
    (λ same.
    let it : entry.1 ≡ out = same_some entry.1 out (sym (at_head number entry lent same.0) ∙ is) in
    let one : hits out entry.1 ≡ 1 = ap (λ (lent : LentSlot). hits out lent) it ∙ hits_itself out in
    omega (arith, hits_cons out entry lent, one))
    (λ other. let rest = found_counts number out lent (sym (at_behind number entry lent other.0)
    ∙ is) in omega (arith, hits_cons out entry lent, rest))
    (eqb_tells entry.0 number)

-- where a loan goes by a number, and it is counted once, each entry is that or neither
pub all_either : (number : ℕ) (out : LentSlot) (lent : List (ℕ × LentSlot)) → at number lent ≡ Some out
    → how_often number (keys_of lent) ≤ 1
    → times out.slot (slots_lent_by out.publisher lent) ≤ 1 → All (IsEither number out) lent
all_either number out [] is keys slots = All-nil _
all_either number out (entry ∷ lent) is keys slots = ⊎_elim
    (λ same.
    let it : entry.1 ≡ out = same_some entry.1 out (sym (at_head number entry lent same.0) ∙ is) in
    let one : hits out entry.1 ≡ 1 = ap (λ (lent : LentSlot). hits out lent) it ∙ hits_itself out in
    let counted = often_same number entry.0 same.0 in
    All-cons (IsEither number out) entry lent (inl (same.0, it))
    (all_neither number out lent (omega (arith, keys, counted.1, counted.2)) (omega (arith, hits_cons out entry lent, one, slots))))
    (λ other.
    let behind = sym (at_behind number entry lent other.0) ∙ is in
    let counts = found_counts number out lent behind in
    All-cons (IsEither number out) entry lent (inr (other.0, omega (arith, hits_cons out entry lent, slots, counts)))
    (all_either number out lent behind (omega (arith, keys)) (omega (arith, hits_cons out entry lent, slots))))
    (eqb_tells entry.0 number)

changed_by : {W : Type 0} (number : ℕ) (w : W) (b : Bool) (key : ℕ) (f g : W) → (key == number) ≡ b → (b ≡ true → g ≡ w)
    → (b ≡ false → g ≡ f)
    → ◌≡◌ {A = ℕ × W} (cond b (number, w) (key, f)) (key, g)
changed_by {W} number w true key f g is here off = pairs (sym (eqb-true key number is)) (sym (here refl))
  where
    pairs : number ≡ key → w ≡ g → ◌≡◌ {A = ℕ × W} (number, w) (key, g)
    pairs one other = cc
changed_by {W} number w false key f g is here off = pairs (sym (off refl))
  where
    pairs : f ≡ g → ◌≡◌ {A = ℕ × W} (key, f) (key, g)
    pairs same = cc

-- the other value of an entry is that of the number, or as it was
abbrev pub IsChanged : {W : Type 0} → ℕ → W → (LentSlot → W) → (LentSlot → W) → ℕ × LentSlot → Type 0
IsChanged number w f g entry = ((entry.0 == number) ≡ true → g entry.1 ≡ w) × ((entry.0 == number) ≡ false → g entry.1 ≡ f entry.1)

-- a table of other values, of which that of a number is another
pub changed_mapped : {W : Type 0} (number : ℕ) (w : W) (f g : LentSlot → W) (lent : List (ℕ × LentSlot))
    → All (IsChanged number w f g) lent
    → changed number w (map (λ (entry : ℕ × LentSlot). (entry.0, f entry.1)) lent) ≡ map (λ
    (entry : ℕ × LentSlot). (entry.0, g entry.1)) lent
changed_mapped number w f g [] all = refl
changed_mapped {W} number w f g (entry ∷ lent) all =
    let here : IsChanged number w f g entry = All-head (IsChanged number w f g) entry lent all in
    let rest = changed_mapped number w f g lent (All-tail (IsChanged number w f g) entry lent all) in
    ap (λ (first : ℕ × W). first ∷ changed number w (map (λ (entry : ℕ × LentSlot). (entry.0, f entry.1)) lent))
    (changed_by number w (entry.0 == number) entry.0 (f entry.1) (g entry.1) refl here.0 here.1)
    ∙ ap (λ more. (entry.0, g entry.1) ∷ more) rest
