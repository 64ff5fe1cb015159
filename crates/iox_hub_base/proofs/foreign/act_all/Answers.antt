use Rattle.std.proofs.Common.{◌≡◌, ◌∷◌, Ok, Err, refl}
use borrow.Author.Rules.{rules}
use Rattle.iox_hub_base.proofs.foreign.act_all.Goals as goal

pub loop-split-preserved : goal.loop-split-preserved
loop-split-preserved c = λ result last acts.
    let split : c.loop-split.rest.now ≡ c.in-Some.split.0.now ∷ c.in-Some.split.1.now = c.in-Some.ensures.cases.0 in
    let ok : c.act.result ≡ Ok tt = search rules in
    c.loop-split.invariant result last (rw split (c.act.new.self, c.act.result, c.act.ensures, rw ok acts))

pub returns-in_err-act : goal.returns-in_err-act
returns-in_err-act c =
    let split : c.loop-split.rest.now ≡ c.in-Some.split.0.now ∷ c.in-Some.split.1.now = c.in-Some.ensures.cases.0 in
    let err : c.act.result ≡ Err c.in_err-act.field-0.0 = search rules in
    c.loop-split.invariant _ _ (rw split (c.act.new.self, c.act.result, c.act.ensures, rw err (search rules, refl)))
