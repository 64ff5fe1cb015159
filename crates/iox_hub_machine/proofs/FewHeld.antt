-- A node of a hub has fewer factories of a service than can be counted.
use Rattle.std.proofs.Common.{◌≡◌, ℕ, zero, suc, ◌+◌, ◌-◌, ◌^◌, ◌≤◌, ◌<◌, Bool, true, false, cond, List, [], ◌∷◌, length, map, filter, sym}
use Rattle.std.proofs.Common.{ap, subst, ◌∙◌, arith}
use Rattle.std.specs.List.{AllByRecursion}
use Rattle.iox_command.specs.NegotiateBase.DescribeBase.declared.pattern.MessagingPattern.{MessagingPattern}
use Rattle.iox_container.specs.NumberTable.{Rises}
use Rattle.iox_hub_machine.proofs.TableMore.{rising_few}
use Rattle.iox_hub_machine.specs.Seats.{factories_of_node, is_factory_of_node, seats_for, seats_in}
use Rattle.iox_machine.specs.Phase.{Phase, Absent, BeingMade, Published, Emptied}
use Rattle.iox_machine.specs.State.{Factory}
use Rattle.iox_negotiate_machine.specs.CallLaws.{HasFewFactories}

passed_few : {X : Type 0} (x : X) (some all : List X) (b : Bool) → length some ≤ length all
    → length (cond b (x ∷ some) some) ≤ length (x ∷ all)
passed_few x some all true few = omega (arith, few)
passed_few x some all false few = omega (arith, few)

filtered_few : {X : Type 0} (test : X → Bool) (all : List X) → length (filter test all) ≤ length all
filtered_few test [] = omega arith
filtered_few test (x ∷ all) = passed_few x (filter test all) all (test x) (filtered_few test all)

mapped_many : {X Y : Type 0} (f : X → Y) (all : List X) → length (map f all) ≡ length all
mapped_many f [] = omega arith
mapped_many f (x ∷ all) = omega (arith, mapped_many f all)

few_for : (count : ℕ) → count < 2 ^ 64 - 1 → AllByRecursion (λ one. one < 2 ^ 64 - 1) (seats_for count)
few_for zero few = tt
few_for (suc more) few = (few, tt)

few_in : (node count : ℕ) (phase : Phase) → seats_in node phase ≡ seats_for count → count < 2 ^ 64 - 1 → HasFewFactories node phase
few_in node count (Published life agreed nodes) same few =
    subst (λ (counts : List ℕ). AllByRecursion (λ one. one < 2 ^ 64 - 1) counts) (sym same) (few_for count few)
few_in node count (Absent lives) same few = tt
few_in node count (BeingMade life by) same few = tt
few_in node count (Emptied life agreed by) same few = tt

-- so it is where the factories go by numbers of which few were given
pub few_held : {V : Type 0} (pattern : MessagingPattern) (name : List ℕ) (node : ℕ) (phase : Phase) (entries : List (ℕ × V)) (next : ℕ)
    (as_factory : V → Factory) (factories : List (ℕ × Factory)) → Rises 1 entries next → next + 1 < 2 ^ 64
    → factories ≡ map (λ (entry : ℕ × V). (entry.0, as_factory entry.1)) entries
    → seats_in node phase ≡ seats_for (factories_of_node pattern name node factories) → HasFewFactories node phase
few_held {V} pattern name node phase entries next as_factory factories rises few same seats =
    few_in node (factories_of_node pattern name node factories) phase seats
    (below (factories_of_node pattern name node factories) (length factories) (length entries)
    (filtered_few (λ (entry : ℕ × Factory). is_factory_of_node pattern name node entry.1) factories)
    (ap (λ (l : List (ℕ × Factory)). length l) same ∙ mapped_many (λ (entry : ℕ × V). (entry.0, as_factory entry.1)) entries)
    (rising_few 1 next entries rises))
  where
    below : (count all many : ℕ) → count ≤ all → all ≡ many → many + 1 ≤ next → count < 2 ^ 64 - 1
    below count all many less is above = omega (arith, less, is, above, few)
