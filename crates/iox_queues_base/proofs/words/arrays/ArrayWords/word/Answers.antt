use Rattle.std.proofs.Common.{rules, arith, ◌≡◌, length, ◌≤◌, sym, ◌∙◌, ap}
use Rattle.std.specs.Prelude.{slice_index}
use Rattle.std.proofs.lemmas.List.{get_or_past}
use Rattle.iox_queues_base.specs.Each.{first_words, many_first, first_at}
use Rattle.iox_queues_base.proofs.words.arrays.ArrayWords.word.Goals as goal

pub returns-in-Some : goal.returns-in-Some
returns-in-Some g c =
    c.word.ensures ∙ ap (λ x. slice_index (g.T.Words.parts x) 0) c.in-Some.ensures.lookup.1
    ∙ sym (first_at g.T.Words.parts g.row.N c.args.i c.args.self.now c.in-Some.item.now (search rules) (search rules))

pub returns-in-None : goal.returns-in-None
returns-in-None g c =
    let long : length c.args.self.now ≡ g.row.N = search rules in
    let past : length c.args.self.now ≤ c.args.i = search rules in
    sym (get_or_past (first_words g.T.Words.parts g.row.N c.args.self.now) c.args.i 0
    (omega (arith, past, long, many_first g.T.Words.parts g.row.N c.args.self.now)))
