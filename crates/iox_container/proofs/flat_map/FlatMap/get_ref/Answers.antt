use Rattle.std.proofs.Common.{ℕ, ◌≡◌, Some, None, rules, sym, ap}
use Rattle.std.specs.Prelude.{option_map}
use Rattle.iox_container.specs.SlotTable.{value_at}
use Rattle.iox_container.specs.PairTable.{place_of}
use Rattle.iox_container.proofs.Pairs.{place_holds, value_of_at}
use Rattle.iox_container.proofs.flat_map.FlatMap.get_ref.Goals as goal

pub returns-in-Some : goal.returns-in-Some
returns-in-Some g c =
    let t = c.args.self.now in
    let placed : option_map (λ (found : ℕ × (g.row.K.Denot × g.row.V.Denot)). found.0) (place_of g.K.PartialEq.eq c.args.key.now t)
    ≡ Some c.in_ok-place.place = search rules in
    let there : value_at t.values c.in_ok-place.place ≡ Some c.in-Some.pair.now = rw (← c.self.view_is) (search rules) in
    let found = value_of_at g.K.PartialEq.eq c.args.key.now t c.in_ok-place.place c.in-Some.pair.now placed there in
    sym (ap (λ o. option_map (λ (found : ℕ × (g.row.K.Denot × g.row.V.Denot)). found.1.1) o) found)

pub returns-in-None : goal.returns-in-None
returns-in-None g c =
    let t = c.args.self.now in
    let placed : option_map (λ (found : ℕ × (g.row.K.Denot × g.row.V.Denot)). found.0) (place_of g.K.PartialEq.eq c.args.key.now t)
    ≡ Some c.in_ok-place.place = search rules in
    let there : value_at t.values c.in_ok-place.place ≡ None = rw (← c.self.view_is) (search rules) in
    absurd (place_holds g.K.PartialEq.eq c.args.key.now t c.in_ok-place.place placed there)
