use Rattle.std.proofs.Common.{arith, inl, inr, ◌≡◌, ◌∙◌, sym, ap, length, true, false}
use Rattle.std.proofs.lemmas.Bool.{cases_lt}
use Rattle.std.proofs.lemmas.List.{get_or_past}
use Rattle.iox_container.specs.Links.{walk}
use Rattle.iox_container.specs.Unique.{is_among}
use Rattle.iox_domain_slots.proofs.Loaned.{among_reverse}
use Rattle.iox_domain_slots.proofs.loans.Loans.made.Goals as goal

pub returns-clause-value : goal.returns-clause-value
returns-clause-value c = omega (arith, c.len.ensures, c.self.invariant.2, ap (λ s. s.made) c.self.view_is)

pub returns-clause-all : goal.returns-clause-all
returns-clause-all c = λ slot there.
    let l = c.self.inside in
    elim (cases_lt slot (length l.lent.items)) [
      | inl below ↦ omega (arith, below, c.len.ensures)
      | inr past ↦
          let gone : false ≡ is_among slot c.args.self.now.items =
          sym (get_or_past l.lent.items slot false past) ∙ c.self.invariant.1 slot
          ∙ sym (among_reverse slot (walk l.older.items l.len l.newest)) ∙ ap (λ s. is_among slot s.items) c.self.view_is in
          let no : false ≡ true = gone ∙ there in absurd (cc)
    ]
