-- The messages of a publisher have names still, where nothing is used that wasn't, and no loan is used otherwise.
use Rattle.std.proofs.Common.{◌≡◌, ◌<◌, ℕ, sym, ap, ◌∙◌, arith}
use Rattle.std.specs.Prelude.{nat_le}
use Rattle.iox_domain.specs.DomainSlots.Counting.{times}
use Rattle.iox_domain.specs.DomainSlots.Uses.{Uses, in_use}
use Rattle.iox_domain_machine.specs.Publishers.{NamesSlots}

pub named_still : (name : ℕ → ℕ) (old new : Uses ℕ ℕ) (first next : ℕ) → new.first ≡ old.first → new.size ≡ old.size
    → ((slot : ℕ) → 0 < times slot (in_use new) → 0 < times slot (in_use old))
    → ((slot : ℕ) → 0 < times slot new.loans → times slot (in_use new) ≡ 1) → NamesSlots name old first next
    → NamesSlots name new first next
named_still name old new first next same_first same_size used sole named = record {
  apart = λ one other is_one is_other same. named.apart one other (used one is_one) (used other is_other) same;
  below = λ slot is. named.below slot (used slot is);
  current = λ slot is. named.current slot (used slot is) ∙ ap (λ start. nat_le start slot) (sym same_first);
  within = λ slot is. let before = named.within slot (used slot is) in omega (arith, before, same_first, same_size);
  sole = sole;
  ahead = named.ahead;
}
