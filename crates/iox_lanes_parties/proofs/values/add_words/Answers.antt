use Rattle.std.proofs.Common.{arith, rules, ◌≡◌, ◌<◌, ◌++◌, ◌∷◌, [], length, take, sym, ap, ◌∙◌}
use Rattle.std.proofs.lemmas.List.{take_all, take_more, append_assoc}
use Rattle.iox_lanes_parties.proofs.values.add_words.Goals as goal

pub loop-at-preserved : goal.loop-at-preserved
loop-at-preserved g c =
    let below : c.loop-at.at < length (g.T.Words.parts c.args.value.now)
    = omega (arith, g.met.T.Words.as_many c.args.value.now, c.loop-at-test.true) in
    let pushed : c.push.new.self.items ≡ c.loop-at.list.items ++ c.word.result ∷ [] = search rules in
    pushed ∙ ap (λ xs. xs ++ c.word.result ∷ []) c.loop-at.invariant
    ∙ append_assoc c.args.list.now.items (take c.loop-at.at (g.T.Words.parts c.args.value.now)) (c.word.result ∷ [])
    ∙ ap (λ x. c.args.list.now.items ++ (take c.loop-at.at (g.T.Words.parts c.args.value.now) ++ x ∷ [])) c.word.ensures
    ∙ ap (λ xs. c.args.list.now.items ++ xs) (sym (take_more (g.T.Words.parts c.args.value.now) c.loop-at.at 0 below))

pub returns : goal.returns
returns g c = c.loop-at.invariant ∙ ap (λ xs. c.args.list.now.items ++ xs) (take_all c.loop-at.at (g.T.Words.parts c.args.value.now)
    (omega (arith, g.met.T.Words.as_many c.args.value.now, c.loop-at-test.false)))
