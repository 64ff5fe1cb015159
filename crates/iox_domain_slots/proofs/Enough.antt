-- With as many slots as the worst case needs, one is free.
use Rattle.std.proofs.Common.{rules, arith, ◌≡◌, ◌+◌, ◌*◌, ◌<◌, ◌≤◌, ◌∷◌, [], ◌++◌, ℕ, zero, suc, Bool, true, false, cond, if◌then◌else◌}
use Rattle.std.proofs.Common.{List, length, length-append, get_or, map, Option, Some, None, refl, ap, ◌∙◌}
use Rattle.std.specs.Option.{option_to_list, IsSome}
use Rattle.std.proofs.Math.Logic.{⊎_elim}
use Rattle.std.proofs.lemmas.Bool.Decides.{eqb_tells}
use Rattle.std.proofs.lemmas.List.Sums.{sum_by-cons}
use Rattle.iox_domain_slots.specs.Uses.{Uses, held, held_by, in_use, is_there, is_open, how_many, worst_case}
use Rattle.iox_domain_slots.specs.declared.stage.Stage.TheVariants as stage
use Rattle.iox_domain_slots.specs.Counting.{times, LoanUse}
use Rattle.iox_domain_slots.specs.Links.{LinkState, seen, IsOf}
use Rattle.iox_domain_slots.proofs.Counts.{one, times_cons}

-- how often the slots of a segment stand in a list, all together
abbrev total : ℕ → ℕ → List ℕ → ℕ
total first zero xs = 0
total first (suc n) xs = times (first + n) xs + total first n xs

-- how often they are one slot
abbrev ones : ℕ → ℕ → ℕ → ℕ
ones first zero x = 0
ones first (suc n) x = one (first + n) x + ones first n x

ones_none : (first n x : ℕ) → first + n ≤ x → ones first n x ≡ 0
ones_none first zero x above = refl
ones_none first (suc n) x above = ⊎_elim
    (λ same. absurd (omega (arith, same.1, above)))
    (λ other. omega (arith, ap {B = ℕ} (λ b. cond b 1 0) other.0, ones_none first n x (omega (arith, above))))
    (eqb_tells (first + n) x)

ones_few : (first n x : ℕ) → ones first n x ≤ 1
ones_few first zero x = omega arith
ones_few first (suc n) x = ⊎_elim
    (λ same. omega (arith, ap {B = ℕ} (λ b. cond b 1 0) same.0, ones_none first n x (omega (arith, same.1))))
    (λ other. omega (arith, ap {B = ℕ} (λ b. cond b 1 0) other.0, ones_few first n x))
    (eqb_tells (first + n) x)

total_none : (first n : ℕ) → total first n [] ≡ 0
total_none first zero = refl
total_none first (suc n) = omega (arith, total_none first n)

total_cons : (first n x : ℕ) (xs : List ℕ) → total first n (x ∷ xs) ≡ ones first n x + total first n xs
total_cons first zero x xs = refl
total_cons first (suc n) x xs = omega (arith, times_cons (first + n) x xs, total_cons first n x xs)

total_few : (first n : ℕ) (xs : List ℕ) → total first n xs ≤ length xs
total_few first n [] = omega (arith, total_none first n)
total_few first n (x ∷ xs) = omega (arith, total_cons first n x xs, ones_few first n x, total_few first n xs)

total_many : (first n : ℕ) (xs : List ℕ) → ((slot : ℕ) → first ≤ slot → slot < first + n → 0 < times slot xs) → n ≤ total first n xs
total_many first zero xs all = omega arith
total_many first (suc n) xs all =
    let last : 0 < times (first + n) xs = all (first + n) (omega arith) (omega arith) in
    omega (arith, last, total_many first n xs (λ slot low high. all slot low (omega (arith, high))))

-- if each slot of a segment stands in a list, then the list is as long as the segment at least
pub pigeons : (first n : ℕ) (xs : List ℕ) → ((slot : ℕ) → first ≤ slot → slot < first + n → 0 < times slot xs) → n ≤ length xs
pigeons first n xs all = omega (arith, total_many first n xs all, total_few first n xs)

-- one more times a number
times_more : (n m : ℕ) → (1 + n) * m ≡ m + n * m
times_more n m = grind arith

-- one connection more
held_more : (overflows : Bool) (most_waiting most_borrowed : ℕ) (it : Option LinkState) (rest : List (Option LinkState))
    → IsOf overflows most_waiting most_borrowed it
    → length (held (map seen rest)) ≤ how_many (map seen rest) * (most_waiting + most_borrowed)
    → length (held_by (seen it) ++ held (map seen rest)) ≤ how_many (seen it ∷ map seen rest) * (most_waiting + most_borrowed)
held_more overflows most_waiting most_borrowed None rest kind later =
    let same : how_many (seen None ∷ map seen rest) ≡ how_many (map seen rest)
    = omega (arith, sum_by-cons (λ c. cond (is_there c) 1 0) (seen None) (map seen rest)) in
    rw same later
held_more overflows most_waiting most_borrowed (Some link) rest kind later =
    let there : is_there (seen (Some link)) ≡ true = open_is link.ended in
    let more : how_many (seen (Some link) ∷ map seen rest) ≡ 1 + how_many (map seen rest) =
    sum_by-cons (λ c. cond (is_there c) 1 0) (seen (Some link)) (map seen rest) ∙ ap {B = ℕ}
    (λ b. cond b 1 0 + how_many (map seen rest)) there in
    rw more (omega (
      arith,
      later,
      times_more (how_many (map seen rest)) (most_waiting + most_borrowed),
      kind.1,
      kind.2,
      kind.4.0,
      kind.4.1,
      length-append (held_by (seen (Some link))) (held (map seen rest)),
      length-append link.waiting link.borrowed,
    ))
  where
    open_is : (ended : Bool) → is_open (if ended then stage.Ended else stage.Live) ≡ true
    open_is true = refl
    open_is false = refl

-- what connections hold is no more than may wait and be borrowed of them
pub held_few : (overflows : Bool) (most_waiting most_borrowed : ℕ) (links : List (Option LinkState))
    → ((index : ℕ) → IsOf overflows most_waiting most_borrowed (get_or links index None))
    → length (held (map seen links)) ≤ how_many (map seen links) * (most_waiting + most_borrowed)
held_few overflows most_waiting most_borrowed [] kinds = omega arith
held_few overflows most_waiting most_borrowed (x ∷ rest) kinds =
    held_more overflows most_waiting most_borrowed x rest (kinds zero)
    (held_few overflows most_waiting most_borrowed rest (λ index. kinds (suc index)))

-- with as many slots as the worst case needs not all of them are in use
pub enough : (uses : Uses ℕ ℕ) → uses.sending ≡ None → length uses.loans < uses.most_loans → length uses.history ≤ uses.kept
    → length (held uses.connections) ≤ how_many uses.connections * (uses.most_waiting + uses.most_borrowed) → worst_case uses ≤ uses.size
    → ((slot : ℕ) → uses.first ≤ slot → slot < uses.first + uses.size → 0 < times slot (in_use uses)) → ⊥
enough uses idle room short few suffices all =
    let at_least : uses.size ≤ length (in_use uses) = pigeons uses.first uses.size (in_use uses) all in
    let sending : length (option_to_list uses.sending) ≡ 0 = ap (λ s. length (option_to_list s)) idle in
    omega (
      arith,
      at_least,
      sending,
      room,
      short,
      few,
      suffices,
      length-append (option_to_list uses.sending) (uses.loans ++ (uses.history ++ held uses.connections)),
      length-append uses.loans (uses.history ++ held uses.connections),
      length-append uses.history (held uses.connections),
    )

-- so a loan is not refused
pub never_none : (old new : Uses ℕ ℕ) (result : Option ℕ) → LoanUse old result new → old.sending ≡ None
    → length old.loans < old.most_loans → length old.history ≤ old.kept
    → length (held old.connections) ≤ how_many old.connections * (old.most_waiting + old.most_borrowed) → worst_case old ≤ old.size
    → IsSome result
never_none old new None loan idle room short few suffices = absurd (enough old idle room short few suffices loan.0)
never_none old new (Some slot) loan idle room short few suffices = search rules
