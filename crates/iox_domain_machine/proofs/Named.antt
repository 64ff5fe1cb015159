-- Slots have names still where fewer are in use.
use Rattle.std.proofs.Common.{◌≡◌, ◌≤◌, ◌++◌, ℕ, List, sym, ap, ◌∙◌, arith}
use Rattle.std.specs.Prelude.{nat_le, option_to_list}
use Rattle.iox_domain.proofs.DomainSlots.Counts.{times_append}
use Rattle.iox_domain.specs.DomainSlots.Counting.{times}
use Rattle.iox_domain.specs.DomainSlots.Uses.{Uses, in_use, held}
use Rattle.iox_domain_machine.specs.Publishers.{NamesSlots}

pub named_less : (name : ℕ → ℕ) (old new : Uses ℕ ℕ) (first next : ℕ) → new.first ≡ old.first → new.size ≡ old.size
    → ((slot : ℕ) → times slot (in_use new) ≤ times slot (in_use old)) → ((slot : ℕ) → times slot new.loans ≤ times slot old.loans)
    → ((slot : ℕ) → times slot new.loans ≤ times slot (in_use new)) → NamesSlots name old first next → NamesSlots name new first next
named_less name old new first next same_first same_size less less_lent lent named = record {
  apart = λ one other is_one is_other same. named.apart one other (omega (arith, is_one, less one)) (omega
      (arith, is_other, less other)) same;
  below = λ slot is. named.below slot (omega (arith, is, less slot));
  current = λ slot is. named.current slot (omega (arith, is, less slot)) ∙ ap (λ start. nat_le start slot) (sym same_first);
  within = λ slot is. let before = named.within slot (omega (arith, is, less slot)) in omega (arith, before, same_first, same_size);
  sole = λ slot is. let before = named.sole slot (omega (arith, is, less_lent slot)) in omega (arith, before, is, less slot, lent slot);
  ahead = named.ahead;
}

-- loans are in use
pub lent_in_use : (slot : ℕ) (sending loans more : List ℕ) → times slot loans ≤ times slot (sending ++ (loans ++ more))
lent_in_use slot sending loans more = omega (arith, times_append slot sending (loans ++ more), times_append slot loans more)

pub lent_used : (uses : Uses ℕ ℕ) (slot : ℕ) → times slot uses.loans ≤ times slot (in_use uses)
lent_used uses slot = lent_in_use slot (option_to_list uses.sending) uses.loans (uses.history ++ held uses.connections)
