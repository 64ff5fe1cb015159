-- Sequence numbers that go on one by one, part of such a list, and what lies between two that follow one another there.
use Rattle.std.proofs.Common.{◌≡◌, ◌≤◌, ◌<◌, ◌+◌, ℕ, suc, Bool, true, false, cond, ◌&&◌, List, [], ◌∷◌, ◌++◌, length, map, Option}
use Rattle.std.proofs.Common.{None, Some, refl, sym, ap, subst, inl, inr, arith, ◌∙◌}
use Rattle.std.proofs.lemmas.Bool.{and_from, and_left, and_right, or_from, or_parts, cases_Bool, eqb-false, ne_eqb, lt-ltb, le-ltb}
use Rattle.std.proofs.lemmas.Bool.{ltb-true, ltb-false}
use Rattle.std.specs.List.{AllByRecursion, IsDistinct}
use Rattle.std.specs.Option.{option_map_or}
use Rattle.std.specs.Prelude.{◌==◌, filter, nat_lt}
use Rattle.iox_machine.specs.Message.{Message}
use Rattle.iox_machine.specs.MessageLaws.{IsPartOf}
use Rattle.iox_machine.specs.SequenceLaws.{GoOnBehind, has_message, is_between}
use Rattle.iox_machine.proofs.Cases.{same-some}
use Rattle.iox_machine.proofs.Lists.{all-both}
use Rattle.iox_machine.proofs.Order.{absurd-both}

module _ {T : Type 0} where
  -- Messages have sequence numbers that rise from one on, up to a top.
  abbrev pub Rises : ℕ → ℕ → List (Message T) → Type 0
  Rises top last [] = Unit {0}
  Rises top last (message ∷ more) =
      (number : ℕ) × (message.sequence ≡ Some number) × (last < number) × (number ≤ top) × Rises top number more

  rises-from : (top low high : ℕ) (xs : List (Message T)) → low ≤ high → Rises top high xs → Rises top low xs
  rises-from top low high [] up h = tt
  rises-from top low high (x ∷ xs) up (number, is, above, under, more) = (number, is, on low high number up above, under, more)
    where
      on : (low high number : ℕ) → low ≤ high → high < number → low < number
      on low high number up above = omega (arith, up, above)

  -- the numbers after the first one
  pub goes-on : (last : ℕ) (x : Message T) (xs : List (Message T)) → GoOnBehind (Some last) (x ∷ xs) → GoOnBehind (Some (last + 1)) xs
  goes-on last x xs on = subst (λ (o : Option ℕ). GoOnBehind o xs) on.0 on.1

  pub part-rises : (top last : ℕ) (part whole : List (Message T)) → last + length whole ≤ top → GoOnBehind (Some last) whole
      → IsPartOf part whole → Rises top last part
  part-rises top last part [] fits on h = subst (Rises top last) (sym h) tt
  part-rises top last part (x ∷ whole) fits on (inl h) =
      rises-from top last (last + 1) part (omega arith)
      (part-rises top (last + 1) part whole (omega (arith, fits)) (goes-on last x whole on) h)
  part-rises top last part (x ∷ whole) fits on (inr (rest, e, h)) =
      subst (Rises top last) (sym e) (
        last + 1,
        on.0,
        omega arith,
        omega (arith, fits),
        part-rises top (last + 1) rest whole (omega (arith, fits)) (goes-on last x whole on) h,
      )

  between-at : (low high number : ℕ) (x : Message T) → x.sequence ≡ Some number
      → is_between low high x ≡ (nat_lt low number && nat_lt number high)
  between-at low high number x is =
      ap (λ (o : Option ℕ). option_map_or (λ (n : ℕ). nat_lt low n && nat_lt n high) o false) is

  pub under-low : (low high number : ℕ) (x : Message T) → x.sequence ≡ Some number → number ≤ low → is_between low high x ≡ false
  under-low low high number x is h =
      between-at low high number x is ∙ and_left (nat_lt low number) (nat_lt number high) (le-ltb low number h)

  pub over-high : (low high number : ℕ) (x : Message T) → x.sequence ≡ Some number → high ≤ number → is_between low high x ≡ false
  over-high low high number x is h =
      between-at low high number x is ∙ and_right (nat_lt low number) (nat_lt number high) (le-ltb number high h)

  -- ---- two that follow one another

  abbrev pub AllOutside : ℕ → ℕ → List (Message T) → Type 0
  AllOutside low high xs = AllByRecursion (λ x. is_between low high x ≡ false) xs

  past-high : (top last low high : ℕ) (xs : List (Message T)) → high ≤ last → Rises top last xs → AllOutside low high xs
  past-high top last low high [] h rises = tt
  past-high top last low high (x ∷ xs) h (number, is, above, under, more) =
      let on : high ≤ number = reach last number high h above in
      (over-high low high number x is on, past-high top number low high xs on more)
    where
      reach : (last number high : ℕ) → high ≤ last → last < number → high ≤ number
      reach last number high h above = omega (arith, h, above)

  pub ends : (top last low high : ℕ) (earlier later : List (Message T)) (one next : Message T) → one.sequence ≡ Some low
      → next.sequence ≡ Some high → Rises top last (earlier ++ one ∷ next ∷ later) → (last < low) × (low < high) × (high ≤ top)
  ends top last low high [] later one next first second (number, is, above, under, (other, is_so, beyond, within, more)) =
      let low_is : number ≡ low = same-some number low (sym is ∙ first) in
      let high_is : other ≡ high = same-some other high (sym is_so ∙ second) in
      (before last number low above low_is, middle number other low high beyond low_is high_is, upto other high top within high_is)
    where
      before : (last number low : ℕ) → last < number → number ≡ low → last < low
      before last number low h e = omega (arith, h, e)

      middle : (number other low high : ℕ) → number < other → number ≡ low → other ≡ high → low < high
      middle number other low high h e f = omega (arith, h, e, f)

      upto : (other high top : ℕ) → other ≤ top → other ≡ high → high ≤ top
      upto other high top h e = omega (arith, h, e)
  ends top last low high (x ∷ earlier) later one next first second (number, is, above, under, more) =
      let next_ones : (number < low) × (low < high) × (high ≤ top) = ends top number low high earlier later one next first second more in
      (on last number low above next_ones.0, next_ones.1, next_ones.2)
    where
      on : (last number low : ℕ) → last < number → number < low → last < low
      on last number low h k = omega (arith, h, k)

  pub outside : (top last low high : ℕ) (earlier later : List (Message T)) (one next : Message T) → one.sequence ≡ Some low
      → next.sequence ≡ Some high → Rises top last (earlier ++ one ∷ next ∷ later) → AllOutside low high (earlier ++ one ∷ next ∷ later)
  outside top last low high [] later one next first second (number, is, above, under, (other, is_so, beyond, within, more)) = (
    under-low low high low one first (omega arith),
    (
      over-high low high high next second (omega arith),
      past-high top other low high later (reach other high (same-some other high (sym is_so ∙ second))) more,
    ),
  )
    where
      reach : (other high : ℕ) → other ≡ high → high ≤ other
      reach other high e = omega (arith, e)
  outside top last low high (x ∷ earlier) later one next first second (number, is, above, under, more) = (
    under-low low high number x is (less number low (ends top number low high earlier later one next first second more).0),
    outside top number low high earlier later one next first second more,
  )
    where
      less : (number low : ℕ) → number < low → number ≤ low
      less number low h = omega (arith, h)

  -- ---- how many numbers lie between

  none-behind : (low high last : ℕ) (whole : List (Message T)) → high ≤ last + 1 → GoOnBehind (Some last) whole
      → length (filter (is_between low high) whole) ≡ 0
  none-behind low high last [] h on = refl
  none-behind low high last (x ∷ whole) h on =
      ap (λ (b : Bool). length (cond b (x ∷ filter (is_between low high) whole) (filter (is_between low high) whole)))
      (over-high low high (last + 1) x on.0 h)
      ∙ none-behind low high (last + 1) whole (omega (arith, h)) (goes-on last x whole on)

  count-behind : (low high last : ℕ) (whole : List (Message T)) → low ≤ last → last < high → high ≤ last + length whole
      → GoOnBehind (Some last) whole → length (filter (is_between low high) whole) + last + 1 ≡ high
  count-behind low high last [] over under fits on = absurd (never last high under fits)
    where
      never : (last high : ℕ) → last < high → high ≤ last + 0 → ⊥
      never last high h k = omega (arith, h, k)
  count-behind low high last (x ∷ whole) over under fits on =
      let rest : List (Message T) = filter (is_between low high) whole in elim (cases_Bool (nat_lt (last + 1) high)) [
        | inl less ↦ subst (λ (b : Bool). length (cond b (x ∷ rest) rest) + last + 1 ≡ high)
            (sym (between-at low high (last + 1) x on.0
            ∙ and_from (nat_lt low (last + 1)) (nat_lt (last + 1) high) (lt-ltb low (last + 1) (up low last over)) less))
            (one_more (length rest) last high
            (count-behind low high (last + 1) whole (later low last over) (ltb-true (last + 1) high less)
            (shift last (length whole) high fits)
            (goes-on last x whole on)))
        | inr not_less ↦ subst (λ (b : Bool). length (cond b (x ∷ rest) rest) + last + 1 ≡ high)
            (sym (over-high low high (last + 1) x on.0 (ltb-false (last + 1) high not_less)))
            (none_more (length rest) last high
            (none-behind low high (last + 1) whole (wide last high (ltb-false (last + 1) high not_less)) (goes-on last x whole on)) under
            (ltb-false (last + 1) high not_less))
      ]
    where
      up : (low last : ℕ) → low ≤ last → low < last + 1
      up low last h = omega (arith, h)

      later : (low last : ℕ) → low ≤ last → low ≤ last + 1
      later low last h = omega (arith, h)

      shift : (last n high : ℕ) → high ≤ last + suc n → high ≤ (last + 1) + n
      shift last n high h = omega (arith, h)

      wide : (last high : ℕ) → high ≤ last + 1 → high ≤ (last + 1) + 1
      wide last high h = omega (arith, h)

      one_more : (n last high : ℕ) → n + (last + 1) + 1 ≡ high → suc n + last + 1 ≡ high
      one_more n last high h = omega (arith, h)

      none_more : (n last high : ℕ) → n ≡ 0 → last < high → high ≤ last + 1 → n + last + 1 ≡ high
      none_more n last high e h k = omega (arith, e, h, k)

  pub count-from : (low high last : ℕ) (whole : List (Message T)) → last ≤ low → low < high → high ≤ last + length whole
      → GoOnBehind (Some last) whole → length (filter (is_between low high) whole) + low + 1 ≡ high
  count-from low high last [] upto less fits on = absurd (never low last high upto less fits)
    where
      never : (low last high : ℕ) → last ≤ low → low < high → high ≤ last + 0 → ⊥
      never low last high h k f = omega (arith, h, k, f)
  count-from low high last (x ∷ whole) upto less fits on =
      let rest : List (Message T) = filter (is_between low high) whole in elim (cases_Bool (nat_lt last low)) [
        | inl before ↦ subst (λ (b : Bool). length (cond b (x ∷ rest) rest) + low + 1 ≡ high)
            (sym (under-low low high (last + 1) x on.0 (next low last (ltb-true last low before))))
            (count-from low high (last + 1) whole (next low last (ltb-true last low before)) less (shift last (length whole) high fits)
            (goes-on last x whole on))
        | inr there ↦ same_low (length (filter (is_between low high) (x ∷ whole))) low last high upto (ltb-false last low there)
            (count-behind low high last (x ∷ whole) (ltb-false last low there) (reach low last high upto less) fits on)
      ]
    where
      next : (low last : ℕ) → last < low → last + 1 ≤ low
      next low last h = omega (arith, h)

      reach : (low last high : ℕ) → last ≤ low → low < high → last < high
      reach low last high h k = omega (arith, h, k)

      shift : (last n high : ℕ) → high ≤ last + suc n → high ≤ (last + 1) + n
      shift last n high h = omega (arith, h)

      same_low : (n low last high : ℕ) → last ≤ low → low ≤ last → n + last + 1 ≡ high → n + low + 1 ≡ high
      same_low n low last high h k e = omega (arith, h, k, e)

  -- where there are no numbers
  pub none-numbered : (xs : List (Message T)) → GoOnBehind None xs → AllByRecursion (λ x. x.sequence ≡ None) xs
  none-numbered [] on = tt
  none-numbered (x ∷ xs) on = (on.0, none-numbered xs (subst (λ (o : Option ℕ). GoOnBehind o xs) on.0 on.1))

  -- ---- what isn't in a part

  pub from-map : (P : ℕ → Type 0) (xs : List (Message T)) → AllByRecursion P (map (λ (x : Message T). x.number) xs)
      → AllByRecursion (λ (x : Message T). P x.number) xs
  from-map P [] all = tt
  from-map P (x ∷ xs) all = (all.0, from-map P xs all.1)

  pub not-among : (x : Message T) (xs : List (Message T)) → AllByRecursion (λ (y : Message T). (x.number == y.number) ≡ false) xs
      → has_message xs x ≡ false
  not-among x [] all = refl
  not-among x (y ∷ ys) all =
      or_from (y.number == x.number) (has_message ys x)
      (ne_eqb y.number x.number (λ same. eqb-false x.number y.number all.0 (sym same))) (not-among x ys all.1)

  pub part-not-among : (x : Message T) (part whole : List (Message T)) → IsPartOf part whole → has_message whole x ≡ false
      → has_message part x ≡ false
  part-not-among x part [] h off = subst (λ (l : List (Message T)). has_message l x ≡ false) (sym h) refl
  part-not-among x part (y ∷ whole) (inl h) off =
      part-not-among x part whole h (or_parts (y.number == x.number) (has_message whole x) off).1
  part-not-among x part (y ∷ whole) (inr (rest, e, h)) off =
      subst (λ (l : List (Message T)). has_message l x ≡ false) (sym e)
      (or_from (y.number == x.number) (has_message rest x) (or_parts (y.number == x.number) (has_message whole x) off).0
      (part-not-among x rest whole h (or_parts (y.number == x.number) (has_message whole x) off).1))

  -- What is part of different messages, and of which none passes a test, has none that does.
  pub aside : (Q : Message T → Bool) (part whole : List (Message T))
      → IsDistinct (λ one other. one == other) (map (λ (x : Message T). x.number) whole) → IsPartOf part whole
      → AllByRecursion (λ x. Q x ≡ false) part → AllByRecursion (λ x. Q x ≡ true → has_message part x ≡ false) whole
  unfolding IsDistinct
  aside Q part [] apart h none = tt
  aside Q part (z ∷ whole) apart (inl h) none = (
    (λ is. part-not-among z part whole h
        (not-among z whole (from-map (λ (n : ℕ). (z.number == n) ≡ false) whole apart.0))),
    aside Q part whole apart.1 h none,
  )
  aside Q part (z ∷ whole) apart (inr (rest, e, h)) none =
      let all : AllByRecursion (λ x. Q x ≡ false) (z ∷ rest) = subst (AllByRecursion (λ x. Q x ≡ false)) e none in
      subst (λ (l : List (Message T)). AllByRecursion (λ x. Q x ≡ true → has_message l x ≡ false) (z ∷ whole)) (sym e) (
        (λ is. absurd-both (Q z) is all.0),
        all-both (λ (x : Message T). (z.number == x.number) ≡ false) (λ x. Q x ≡ true → has_message rest x ≡ false)
            (λ x. Q x ≡ true → has_message (z ∷ rest) x ≡ false)
            (λ x off on is. or_from (z.number == x.number) (has_message rest x) off (on is)) whole
            (from-map (λ (n : ℕ). (z.number == n) ≡ false) whole apart.0) (aside Q rest whole apart.1 h all.1),
      )
