-- A sample leaves those that go by numbers.
use Rattle.std.proofs.Common.{◌≡◌, ◌≤◌, ◌+◌, ◌∷◌, [], ◌&&◌, ℕ, Bool, true, false, cond, List, map, Some, refl, sym, ap, ◌∙◌, arith}
use Rattle.std.proofs.Math.Logic.{⊎_elim}
use Rattle.std.proofs.lemmas.Bool.{eq-eqb, cases_Bool}
use Rattle.std.proofs.lemmas.Bool.Decides.{eqb_tells}
use Rattle.std.proofs.lemmas.List.Elements.{All-cons, All-head, All-nil, All-tail}
use Rattle.std.proofs.lemmas.List.Sums.{sum_by-cons}
use Rattle.std.specs.List.{All}
use Rattle.std.specs.Map.{keys_of}
use Rattle.std.specs.Prelude.{filter, count_by, ◌==◌}
use Rattle.iox_domain.proofs.DomainSlots.Counts.{one}
use Rattle.iox_domain.specs.DomainPorts.declared.attached.Taken.{Taken}
use Rattle.iox_domain.specs.DomainSlots.Counting.{times}
use Rattle.iox_domain.specs.Tries.{how_often}
use Rattle.iox_domain_machine.specs.Tables.{slots_held_of}
use Rattle.iox_domain_machine.proofs.Entries.{often_same}
use Rattle.iox_domain_machine.proofs.Found.{same_some, never_some, at_head, at_behind}
use Rattle.iox_domain_machine.proofs.Loans.{alike}
use Rattle.iox_domain_machine.proofs.Reading.{is_of, counts_cons, counts_itself, held_counts}
use Rattle.iox_domain_machine.proofs.Removing.{but, but_on, but_off, gone_on, gone_off}
use Rattle.iox_domain_machine.proofs.Settling.{both}
use Rattle.iox_machine.specs.Table.{at, removed}

-- whether a sample is of the same connection, and in the same slot
abbrev pub is_same : Taken → Taken → Bool
is_same taken other = is_of taken other && (other.slot == taken.slot)

-- an entry goes by a number exactly if it is the sample of that
abbrev pub IsIts : ℕ → Taken → ℕ × Taken → Type 0
IsIts number taken entry = (entry.0 == number) ≡ is_same taken entry.1

-- what isn't counted isn't it
pub misses : (b : Bool) (slot other : ℕ) → cond b (one slot other) 0 ≡ 0 → (b && (other == slot)) ≡ false
misses false slot other none = refl
misses true slot other none = ⊎_elim
    (λ same. absurd (let one_is : one slot other ≡ 1 = ap (λ b. cond b 1 0) (alike slot other same.1) in omega (arith, none, one_is)))
    (λ off. off.0)
    (eqb_tells other slot)

is_itself : (taken : Taken) → is_same taken taken ≡ true
is_itself taken =
    ap (λ b. (b && (taken.index == taken.index)) && (taken.slot == taken.slot)) (eq-eqb taken.publisher taken.publisher refl)
    ∙ ap (λ b. b && (taken.slot == taken.slot)) (eq-eqb taken.index taken.index refl) ∙ eq-eqb taken.slot taken.slot refl

none_its : (number : ℕ) (taken : Taken) (held : List (ℕ × Taken)) → how_often number (keys_of held) ≡ 0
    → times taken.slot (slots_held_of taken.publisher taken.index held) ≡ 0 → All (IsIts number taken) held
none_its number taken [] keys slots = All-nil _
none_its number taken (entry ∷ held) keys slots =
    let cons = counts_cons taken entry held in
    All-cons (IsIts number taken) entry held
    (⊎_elim (λ same. absurd (let counted = often_same number entry.0 same.0 in omega (arith, keys, counted.1, counted.2)))
    (λ other. other.0 ∙ sym (misses (is_of taken entry.1) taken.slot entry.1.slot (omega (arith, cons, slots))))
    (eqb_tells entry.0 number))
    (none_its number taken held (omega (arith, keys)) (omega (arith, cons, slots)))

-- where a sample goes by a number, and both are there once, each entry goes by it exactly if it is that
pub all_its : (number : ℕ) (taken : Taken) (held : List (ℕ × Taken)) → at number held ≡ Some taken → how_often number (keys_of held) ≤ 1
    → times taken.slot (slots_held_of taken.publisher taken.index held) ≤ 1 → All (IsIts number taken) held
all_its number taken [] is keys slots = All-nil _
all_its number taken (entry ∷ held) is keys slots = ⊎_elim
    (λ same.
    let it : entry.1 ≡ taken = same_some entry.1 taken (sym (at_head number entry held same.0) ∙ is) in
    let hit : cond (is_of taken entry.1) (one taken.slot entry.1.slot) 0 ≡ 1 =
    ap (λ (other : Taken). cond (is_of taken other) (one taken.slot other.slot) 0) it ∙ counts_itself taken in
    let counted = often_same number entry.0 same.0 in
    All-cons (IsIts number taken) entry held (same.0 ∙ sym (ap (is_same taken) it ∙ is_itself taken))
    (none_its number taken held (omega (arith, keys, counted.1, counted.2)) (omega (arith, counts_cons taken entry held, hit, slots))))
    (λ other.
    let behind = sym (at_behind number entry held other.0) ∙ is in
    let counts = held_counts number taken held behind in
    let none : cond (is_of taken entry.1) (one taken.slot entry.1.slot) 0 ≡ 0 =
    omega (arith, counts_cons taken entry held, slots, counts) in
    All-cons (IsIts number taken) entry held (other.0 ∙ sym (misses (is_of taken entry.1) taken.slot entry.1.slot none))
    (all_its number taken held behind (omega (arith, keys)) (omega (arith, counts_cons taken entry held, slots))))
    (eqb_tells entry.0 number)

held_on : (publisher index : ℕ) (entry : ℕ × Taken) (held : List (ℕ × Taken))
    → ((entry.1.publisher == publisher) && (entry.1.index == index)) ≡ true
    → slots_held_of publisher index (entry ∷ held) ≡ entry.1.slot ∷ slots_held_of publisher index held
held_on publisher index entry held on =
    let rest = filter (λ (it : ℕ × Taken). (it.1.publisher == publisher) && (it.1.index == index)) held in
    ap (λ b. map (λ (it : ℕ × Taken). it.1.slot) (cond b (entry ∷ rest) rest)) on

held_off : (publisher index : ℕ) (entry : ℕ × Taken) (held : List (ℕ × Taken))
    → ((entry.1.publisher == publisher) && (entry.1.index == index)) ≡ false
    → slots_held_of publisher index (entry ∷ held) ≡ slots_held_of publisher index held
held_off publisher index entry held off =
    let rest = filter (λ (it : ℕ × Taken). (it.1.publisher == publisher) && (it.1.index == index)) held in
    ap (λ b. map (λ (it : ℕ × Taken). it.1.slot) (cond b (entry ∷ rest) rest)) off

module _ (number : ℕ) (taken : Taken) where
  removed_step : (entry : ℕ × Taken) (held : List (ℕ × Taken)) → IsIts number taken entry
      → slots_held_of taken.publisher taken.index (removed number held)
      ≡ but taken.slot (slots_held_of taken.publisher taken.index held)
      → slots_held_of taken.publisher taken.index (removed number (entry ∷ held))
      ≡ but taken.slot (slots_held_of taken.publisher taken.index (entry ∷ held))
  removed_step entry held its rest =
      let slots = slots_held_of taken.publisher taken.index in
      ⊎_elim
      (λ on. ⊎_elim
      (λ same.
      ap slots (gone_on number entry held (its ∙ ap (λ b. b && (entry.1.slot == taken.slot)) on ∙ same.0)) ∙ rest
      ∙ sym (ap (but taken.slot) (held_on taken.publisher taken.index entry held on) ∙ but_on taken.slot entry.1.slot (slots held) same.0))
      (λ off.
      ap slots (gone_off number entry held (its ∙ ap (λ b. b && (entry.1.slot == taken.slot)) on ∙ off.0))
      ∙ held_on taken.publisher taken.index entry (removed number held) on ∙ ap (λ more. entry.1.slot ∷ more) rest
      ∙ sym (ap (but taken.slot) (held_on taken.publisher taken.index entry held on) ∙ but_off taken.slot entry.1.slot (slots held) off.0))
      (eqb_tells entry.1.slot taken.slot))
      (λ off.
      ap slots (gone_off number entry held (its ∙ ap (λ b. b && (entry.1.slot == taken.slot)) off))
      ∙ held_off taken.publisher taken.index entry (removed number held) off ∙ rest
      ∙ sym (ap (but taken.slot) (held_off taken.publisher taken.index entry held off)))
      (cases_Bool (is_of taken entry.1))

  -- of its connection one slot less is held
  pub held_removed : (held : List (ℕ × Taken)) → All (IsIts number taken) held
      → slots_held_of taken.publisher taken.index (removed number held)
      ≡ but taken.slot (slots_held_of taken.publisher taken.index held)
  held_removed [] all = refl
  held_removed (entry ∷ held) all =
      removed_step entry held (All-head (IsIts number taken) entry held all)
      (held_removed held (All-tail (IsIts number taken) entry held all))

  other_step : (publisher index : ℕ) (entry : ℕ × Taken) (held : List (ℕ × Taken))
      → ((other : Taken) → is_of taken other ≡ true → ((other.publisher == publisher) && (other.index == index)) ≡ false)
      → IsIts number taken entry
      → slots_held_of publisher index (removed number held) ≡ slots_held_of publisher index held
      → slots_held_of publisher index (removed number (entry ∷ held)) ≡ slots_held_of publisher index (entry ∷ held)
  other_step publisher index entry held apart its rest =
      let slots = slots_held_of publisher index in
      ⊎_elim
      (λ gone.
      ap slots (gone_on number entry held gone) ∙ rest
      ∙ sym (held_off publisher index entry held
      (apart entry.1 (both (is_of taken entry.1) (entry.1.slot == taken.slot) (sym its ∙ gone)).0)))
      (λ stays.
      ap slots (gone_off number entry held stays) ∙ ⊎_elim
      (λ on. held_on publisher index entry (removed number held) on ∙ ap (λ more. entry.1.slot ∷ more) rest
      ∙ sym (held_on publisher index entry held on))
      (λ off. held_off publisher index entry (removed number held) off ∙ rest ∙ sym (held_off publisher index entry held off))
      (cases_Bool ((entry.1.publisher == publisher) && (entry.1.index == index))))
      (cases_Bool (entry.0 == number))

  -- of another connection the same are
  pub others_held : (publisher index : ℕ) (held : List (ℕ × Taken))
      → ((other : Taken) → is_of taken other ≡ true → ((other.publisher == publisher) && (other.index == index)) ≡ false)
      → All (IsIts number taken) held → slots_held_of publisher index (removed number held) ≡ slots_held_of publisher index held
  others_held publisher index [] apart all = refl
  others_held publisher index (entry ∷ held) apart all =
      other_step publisher index entry held apart (All-head (IsIts number taken) entry held all)
      (others_held publisher index held apart (All-tail (IsIts number taken) entry held all))

  -- and so is what else goes by numbers
  pub samples_removed : {W : Type 0} (f g : Taken → W) (held : List (ℕ × Taken))
      → ((other : Taken) → is_same taken other ≡ false → g other ≡ f other) → All (IsIts number taken) held
      → removed number (map (λ (it : ℕ × Taken). (it.0, f it.1)) held) ≡ map (λ (it : ℕ × Taken). (it.0, g it.1)) (removed number held)
  samples_removed f g [] same all = refl
  samples_removed {W} f g (entry ∷ held) same all =
      let its : IsIts number taken entry = All-head (IsIts number taken) entry held all in
      let rest = samples_removed f g held same (All-tail (IsIts number taken) entry held all) in
      let more : List (ℕ × W) = map (λ (it : ℕ × Taken). (it.0, f it.1)) held in
      ⊎_elim
      (λ gone.
      gone_on number (entry.0, f entry.1) more gone ∙ rest
      ∙ sym (ap (map (λ (it : ℕ × Taken). (it.0, g it.1))) (gone_on number entry held gone)))
      (λ stays.
      gone_off number (entry.0, f entry.1) more stays
      ∙ ap (λ (w : W). (entry.0, w) ∷ removed number more) (sym (same entry.1 (sym its ∙ stays)))
      ∙ ap (λ later. (entry.0, g entry.1) ∷ later) rest
      ∙ sym (ap (map (λ (it : ℕ × Taken). (it.0, g it.1))) (gone_off number entry held stays)))
      (cases_Bool (entry.0 == number))

nothing_removed : {V : Type 0} (number : ℕ) (table : List (ℕ × V)) → how_often number (keys_of table) ≡ 0 → removed number table ≡ table
nothing_removed number [] none = refl
nothing_removed number (entry ∷ table) none = ⊎_elim
    (λ same. absurd (let counted = often_same number entry.0 same.0 in omega (arith, none, counted.1, counted.2)))
    (λ off. gone_off number entry table off.0 ∙ ap (λ rest. entry ∷ rest) (nothing_removed number table (omega (arith, none))))
    (eqb_tells entry.0 number)

-- one less passes a test, if the one that goes did
pub counted_removed : {V : Type 0} (test : ℕ × V → Bool) (passes : V → Bool) → ((entry : ℕ × V) → test entry ≡ passes entry.1)
    → (number : ℕ) (v : V) (table : List (ℕ × V)) → at number table ≡ Some v → how_often number (keys_of table) ≤ 1
    → count_by test (removed number table) + cond (passes v) 1 0 ≡ count_by test table
counted_removed test passes by number v [] is once = never_some v is
counted_removed {V} test passes by number v (entry ∷ table) is once =
    let cons = sum_by-cons (λ (it : ℕ × V). cond (test it) 1 0) entry table in
    ⊎_elim
    (λ same.
    let it : entry.1 ≡ v = same_some entry.1 v (sym (at_head number entry table same.0) ∙ is) in
    let counted = often_same number entry.0 same.0 in
    let stays = ap (count_by test) (gone_on number entry table same.0
    ∙ nothing_removed number table (omega (arith, once, counted.1, counted.2))) in
    let passed : ◌≡◌ {A = ℕ} (cond (test entry) 1 0) (cond (passes v) 1 0) = ap (λ b. cond b 1 0) (by entry ∙ ap passes it) in
    omega (arith, cons, stays, passed))
    (λ off.
    let rest = counted_removed test passes by number v table (sym (at_behind number entry table off.0) ∙ is) (omega (arith, once)) in
    let stays = ap (count_by test) (gone_off number entry table off.0) in
    omega (arith, cons, rest, stays, sum_by-cons (λ (it : ℕ × V). cond (test it) 1 0) entry (removed number table)))
    (eqb_tells entry.0 number)
