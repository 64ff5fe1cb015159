use Rattle.std.proofs.Common.{ℕ, ◌≡◌, Option, Some, None, rules, sym, ap, ◌∙◌}
use Rattle.std.specs.Prelude.{option_map}
use Rattle.iox_container.specs.SlotTable.{SlotTable, value_at}
use Rattle.iox_container.specs.PairTable.{place_of, with_value_at}
use Rattle.iox_container.proofs.Pairs.{place_holds, value_of_at}
use Rattle.iox_container.proofs.flat_map.FlatMap.get_mut_ref.Goals as goal

pub returns-in-Some : goal.returns-in-Some
returns-in-Some g c =
    let t : SlotTable (g.row.K.Denot × g.row.V.Denot) = c.args.self.now in
    let i : ℕ = c.in_ok-place.place in
    let p : g.row.K.Denot × g.row.V.Denot = c.in-Some.pair.now in
    let placed : option_map (λ (found : ℕ × (g.row.K.Denot × g.row.V.Denot)). found.0) (place_of g.K.PartialEq.eq c.args.key.now t)
    ≡ Some i = search rules in
    let there : value_at t.values i ≡ Some p = rw (← c.self.view_is) (search rules) in
    let found = value_of_at g.K.PartialEq.eq c.args.key.now t i p placed there in
    let G : SlotTable (g.row.K.Denot × g.row.V.Denot) → Option (ℕ × (g.row.K.Denot × g.row.V.Denot)) → g.row.V.Denot
    → SlotTable (g.row.K.Denot × g.row.V.Denot) =
    λ m o w. with_value_at o m w in
    let lent : G c.self.inside.map (Some (i, p)) ≡ G t (place_of g.K.PartialEq.eq c.args.key.now t) =
    ap (λ m. G m (Some (i, p))) c.self.view_is ∙ ap (λ o. G t o) (sym found) in (
      (cc lent),
      record {
        writes_back = tt;
        value
            = sym (ap (λ o. option_map (λ (found : ℕ × (g.row.K.Denot × g.row.V.Denot)). found.1.1) o) found);
      },
    )

pub returns-in-None : goal.returns-in-None
returns-in-None g c =
    let t : SlotTable (g.row.K.Denot × g.row.V.Denot) = c.args.self.now in
    let placed : option_map (λ (found : ℕ × (g.row.K.Denot × g.row.V.Denot)). found.0) (place_of g.K.PartialEq.eq c.args.key.now t)
    ≡ Some c.in_ok-place.place = search rules in
    let there : value_at t.values c.in_ok-place.place ≡ None = rw (← c.self.view_is) (search rules) in
    absurd (place_holds g.K.PartialEq.eq c.args.key.now t c.in_ok-place.place placed there)
