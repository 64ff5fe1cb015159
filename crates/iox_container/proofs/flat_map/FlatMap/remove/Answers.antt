use Rattle.std.proofs.Common.{ℕ, ◌≡◌, ◌<◌, Some, None, length, rules, sym, ap}
use Rattle.std.specs.Prelude.{option_map}
use Rattle.iox_container.specs.SlotTable.{released, value_at}
use Rattle.iox_container.specs.PairTable.{place_of}
use Rattle.iox_container.proofs.Pairs.{KeysDiffer-released, place_holds, value_of_at}
use Rattle.iox_container.proofs.PairLaws.{gone_removed, held_within, others_removed}
use Rattle.iox_container.proofs.flat_map.FlatMap.remove.Goals as goal

pub returns-in_err-_key-clause-value : goal.returns-in_err-_key-clause-value
returns-in_err-_key-clause-value g c =
    let t = c.args.self.now in
    let placed : option_map (λ (found : ℕ × (g.row.K.Denot × g.row.V.Denot)). found.0) (place_of g.K.PartialEq.eq c.args.key.now t)
    ≡ Some c.in_ok-place.place = search rules in
    let there : value_at t.values c.in_ok-place.place ≡ None = rw (← c.self.view_is) (search rules) in
    absurd (place_holds g.K.PartialEq.eq c.args.key.now t c.in_ok-place.place placed there)

pub returns-in_err-_key-clause-some : goal.returns-in_err-_key-clause-some
returns-in_err-_key-clause-some g c =
    let t = c.args.self.now in
    let placed : option_map (λ (found : ℕ × (g.row.K.Denot × g.row.V.Denot)). found.0) (place_of g.K.PartialEq.eq c.args.key.now t)
    ≡ Some c.in_ok-place.place = search rules in
    let there : value_at t.values c.in_ok-place.place ≡ None = rw (← c.self.view_is) (search rules) in
    absurd (place_holds g.K.PartialEq.eq c.args.key.now t c.in_ok-place.place placed there)

pub returns-clause-value : goal.returns-clause-value
returns-clause-value g c =
    let t = c.args.self.now in
    let p : g.row.K.Denot × g.row.V.Denot = (c.in_ok-_key._key, c.in_ok-_key.value) in
    let placed : option_map (λ (found : ℕ × (g.row.K.Denot × g.row.V.Denot)). found.0) (place_of g.K.PartialEq.eq c.args.key.now t)
    ≡ Some c.in_ok-place.place = search rules in
    let there : value_at t.values c.in_ok-place.place ≡ Some p = rw (← c.self.view_is) (search rules) in
    let found = value_of_at g.K.PartialEq.eq c.args.key.now t c.in_ok-place.place p placed there in
    sym (ap (λ o. option_map (λ (found : ℕ × (g.row.K.Denot × g.row.V.Denot)). found.1.1) o) found)

pub returns-in_err-_key-clause-gone : goal.returns-in_err-_key-clause-gone
returns-in_err-_key-clause-gone g c =
    let t = c.args.self.now in
    let placed : option_map (λ (found : ℕ × (g.row.K.Denot × g.row.V.Denot)). found.0) (place_of g.K.PartialEq.eq c.args.key.now t)
    ≡ Some c.in_ok-place.place = search rules in
    let there : value_at t.values c.in_ok-place.place ≡ None = rw (← c.self.view_is) (search rules) in
    absurd (place_holds g.K.PartialEq.eq c.args.key.now t c.in_ok-place.place placed there)

pub returns-clause-gone : goal.returns-clause-gone
returns-clause-gone g c =
    let t = c.self.inside.map in
    let p : g.row.K.Denot × g.row.V.Denot = (c.in_ok-_key._key, c.in_ok-_key.value) in
    let placed : option_map (λ (found : ℕ × (g.row.K.Denot × g.row.V.Denot)). found.0) (place_of g.K.PartialEq.eq c.args.key.now t)
    ≡ Some c.in_ok-place.place = rw (c.self.view_is) (search rules) in
    let there : value_at t.values c.in_ok-place.place ≡ Some p = search rules in
    let found = value_of_at g.K.PartialEq.eq c.args.key.now t c.in_ok-place.place p placed there in
    let is : c.take.new.self ≡ released t c.in_ok-place.place = search rules in
    rw is (gone_removed g.K.PartialEq.eq g.met.K.Eq.laws t c.in_ok-place.place p c.args.key.now
    (held_within t.values c.in_ok-place.place p there) c.self.invariant found)

pub returns-clause-others : goal.returns-clause-others
returns-clause-others g c other apart =
    let t = c.self.inside.map in
    let p : g.row.K.Denot × g.row.V.Denot = (c.in_ok-_key._key, c.in_ok-_key.value) in
    let placed : option_map (λ (found : ℕ × (g.row.K.Denot × g.row.V.Denot)). found.0) (place_of g.K.PartialEq.eq c.args.key.now t)
    ≡ Some c.in_ok-place.place = rw (c.self.view_is) (search rules) in
    let there : value_at t.values c.in_ok-place.place ≡ Some p = search rules in
    let found = value_of_at g.K.PartialEq.eq c.args.key.now t c.in_ok-place.place p placed there in
    let is : c.take.new.self ≡ released t c.in_ok-place.place = search rules in
    let within : c.in_ok-place.place < length t.values = held_within t.values c.in_ok-place.place p there in
    rw (← c.self.view_is, is) (others_removed g.K.PartialEq.eq g.met.K.Eq.laws t c.in_ok-place.place p c.args.key.now other within
    c.self.invariant (KeysDiffer-released g.K.PartialEq.eq t.values c.in_ok-place.place within c.self.invariant) found apart)
