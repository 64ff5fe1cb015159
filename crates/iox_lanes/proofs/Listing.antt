-- The numbers of the ports that are listed.
use Rattle.std.proofs.Common.{arith, ℕ, zero, suc, ◌≡◌, ◌+◌, ◌-◌, ◌<◌, ◌≤◌, ◌++◌, ◌∷◌, [], List, length, take, get_or, replicate, Option}
use Rattle.std.proofs.Common.{None, Some, refl, ap, sym, ◌∙◌}
use Rattle.iox_domain.specs.Container.CountedPlaces.{padded}
use Rattle.iox_domain.specs.Container.declared.container.Member.{Member}
use Rattle.iox_lanes.specs.Holding.{numbers_of}

numbers_none : {V : Type 0} (number : V → ℕ) (count : ℕ) → numbers_of number (replicate count None) ≡ []
numbers_none number zero = refl
numbers_none number (suc count) = numbers_none number count

numbers_behind : {V : Type 0} (number : V → ℕ) (places : List (Option (Member V))) (count : ℕ)
    → numbers_of number (places ++ replicate count None) ≡ numbers_of number places
numbers_behind number [] count = numbers_none number count
numbers_behind number (None ∷ rest) count = numbers_behind number rest count
numbers_behind number (Some member ∷ rest) count = ap (λ numbers. number member.value ∷ numbers) (numbers_behind number rest count)

numbers_more : {V : Type 0} (number : V → ℕ) (places : List (Option (Member V))) (k : ℕ) (last : Option (Member V)) → k < length places
    → last ≡ get_or places k last
    → numbers_of number (take (suc k) places) ≡ numbers_of number (take k places) ++ numbers_of number (last ∷ [])
numbers_more number [] k last below is = absurd (omega (arith, below))
numbers_more number (place ∷ rest) zero last below is = ap (λ at. numbers_of number (at ∷ [])) (sym is)
numbers_more number (None ∷ rest) (suc k) last below is = numbers_more number rest k last (omega (arith, below)) is
numbers_more number (Some member ∷ rest) (suc k) last below is
    = ap (λ numbers. number member.value ∷ numbers) (numbers_more number rest k last (omega (arith, below)) is)

-- one more place was looked at
pub numbers_next : {V : Type 0} (number : V → ℕ) (places : List (Option (Member V))) (k : ℕ) (last : Option (Member V))
    (before after : List ℕ) → k < length places → last ≡ get_or places k last
    → before ≡ numbers_of number (take k places) → after ≡ before ++ numbers_of number (last ∷ [])
    → after ≡ numbers_of number (take (k + 1) places)
numbers_next number places k last before after below is sofar added =
    let next : suc k ≡ k + 1 = omega arith in
    added ∙ ap (λ numbers. numbers ++ numbers_of number (last ∷ [])) sofar ∙ sym (numbers_more number places k last below is) ∙ ap
    (λ n. numbers_of number (take n places)) next

numbers_all : {V : Type 0} (number : V → ℕ) (places : List (Option (Member V))) (k : ℕ) → length places ≤ k
    → numbers_of number (take k places) ≡ numbers_of number places
numbers_all number [] zero few = refl
numbers_all number [] (suc k) few = refl
numbers_all number (place ∷ rest) zero few = absurd (omega (arith, few))
numbers_all number (None ∷ rest) (suc k) few = numbers_all number rest k (omega (arith, few))
numbers_all number (Some member ∷ rest) (suc k) few
    = ap (λ numbers. number member.value ∷ numbers) (numbers_all number rest k (omega (arith, few)))

-- all places were looked at, up to the last that lists somebody
pub numbers_whole : {V : Type 0} (number : V → ℕ) (listed places : List (Option (Member V))) (count k : ℕ) (made : List ℕ)
    → padded count listed ≡ places → length listed ≤ k
    → made ≡ numbers_of number (take k listed) → made ≡ numbers_of number places
numbers_whole number listed places count k made whole few sofar =
    sofar ∙ numbers_all number listed k few ∙ sym (numbers_behind number listed (count - length listed)) ∙ ap (numbers_of number) whole
