use Rattle.std.proofs.Common.{ℕ, ◌≡◌, List, Result, Ok, Err, is_ok, if◌then◌else◌, arith, subst}
use Rattle.std.proofs.lemmas.Bool.{false≢true}
use Rattle.std.specs.List.{insert}
use Rattle.std.specs.Prelude.{IsOk}
use Rattle.iox_container.specs.Owners.{StandsAt}
use Rattle.iox_container.proofs.Listed.{inserted}
use Rattle.iox_container.proofs.owners.insert.Goals as goal

succeeded : {A E : Type 0} (result : Result A E) (with without now : List (ℕ × ℕ)) → now ≡ (if is_ok result then with else without)
    → IsOk result → now ≡ with
succeeded (Ok done) with without now is ok = is
succeeded (Err failure) with without now is ok = absurd (false≢true ok)

pub returns-clause-with : goal.returns-clause-with
returns-clause-with c =
    let stands : StandsAt c.args.entries.now.items (c.args.owner, c.args.place) c.search-at.result =
    subst (λ (es : List (ℕ × ℕ)). StandsAt es (c.args.owner, c.args.place) c.search-at.result) c.as_slice.ensures.value
    c.search-at.ensures in
    let came : c.insert.new.self.items ≡ insert c.args.entries.now.items c.search-at.result (c.args.owner, c.args.place) =
    succeeded c.insert.result _ _ _ c.insert.ensures.items
    (c.insert.ensures.succeeds (omega (arith, c.requires.room, c.args.entries.now.ok.0))) in
    rw came (inserted c.args.entries.now.items (c.args.owner, c.args.place) c.search-at.result c.requires.rises stands c.requires.new)
