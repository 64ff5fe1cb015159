use Rattle.iox_domain_slots.proofs.Borrowing.{IsWalked}
use Rattle.iox_domain_slots.proofs.loans.Loans.oldest_of.Given as goal

abbrev pub invariant-loop : goal.invariant-loop
invariant-loop l = IsWalked l.self-inside.older.items l.self-inside.len l.self-inside.newest l.numbers l.number l.found l.slot l.counter
